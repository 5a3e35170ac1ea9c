-- The seats of a table that has just opened, one after the other.
use Rattle.std.proofs.Common.{◌≡◌, ℕ, ◌+◌, List, [], ◌∷◌, ◌++◌, length, get_or, sym, ap, ◌∙◌, arith}
use Rattle.std.proofs.lemmas.List.{append_assoc, append-nil, get_or-append-add, get_or-map, length-append}
use Rattle.std.proofs.lemmas.Grind.{flat_map-append}
use Rattle.std.specs.Prelude.{Some, slice_get}
use Rattle.std.specs.List.{flat_map}
use Rattle.std.proofs.lemmas.Option.{slice_get-get_or}
use Rattle.dirty_words.specs.Facts.{first_guest, first_copier}
use Rattle.dirty_words.specs.Closing.{first_guests, first_copiers}
use Rattle.dirty_words.specs.Seats.{TableView, GuestView, CopyView, guest_view, copy_view}
use Rattle.live_tasks.specs.CopierStates.{CopierStateView}
use Rattle.live_engine.specs.Lists.{rows_of}
use Rattle.live_engine.proofs.Each.{made_at}

-- the next element of a list, when those before it were given out
pub next_of : {X : Type 0} (front old rest items : List X) (x : X) → old ≡ x ∷ rest → front ++ old ≡ items → front
    ++ (x ∷ rest) ≡ items
next_of front old rest items x steps all = ap (λ xs. front ++ xs) (sym steps) ∙ all

pub rest_of : {X : Type 0} (front old rest items : List X) (x : X) → old ≡ x ∷ rest → front ++ old ≡ items
    → (front ++ x ∷ []) ++ rest ≡ items
rest_of front old rest items x steps all = append_assoc front (x ∷ []) rest ∙ next_of front old rest items x steps all

pub one_longer : {X Y : Type 0} (hs : List X) (h : X) (ys : List Y) (y : Y) (new : List X) → new ≡ hs ++ h ∷ []
    → length hs ≡ length ys → length new ≡ length (ys ++ y ∷ [])
one_longer hs h ys y new is same = ap length is ∙ length-append hs (h ∷ []) ∙ ap (λ n. n + 1) same
    ∙ sym (length-append ys (y ∷ []))

pub guest_at : (table : TableView) (items front old rest : List GuestView) (seat : GuestView) → items
    ≡ first_guests table → old ≡ seat ∷ rest → front ++ old ≡ items
    → seat ≡ guest_view table.id (first_guest table.start (length front))
guest_at table items front old rest seat first steps all =
    made_at (λ (number : ℕ). guest_view table.id (first_guest table.start number)) table.start.guests front seat rest
    (next_of front old rest items seat steps all ∙ first)

pub copier_at : (table : TableView) (items front old rest : List CopyView) (seat : CopyView) → items
    ≡ first_copiers table → old ≡ seat ∷ rest → front ++ old ≡ items
    → seat ≡ copy_view table.id (first_copier table.start (length front))
copier_at table items front old rest seat first steps all =
    made_at (λ (number : ℕ). copy_view table.id (first_copier table.start number)) table.start.copiers front seat rest
    (next_of front old rest items seat steps all ∙ first)

-- the lanes of the next state, when those before it were given out
pub row_first : (front old rest all : List CopierStateView) (state : CopierStateView) (number : ℕ) → old ≡ state ∷ rest
    → front ++ old ≡ all → number ≡ length front
    → state.outs ≡ get_or (rows_of all) number []
row_first front old rest all state number steps is at =
    let whole : front ++ (state ∷ rest) ≡ all = next_of front old rest all state steps is in
    let len : length all ≡ length front + length (state ∷ rest) = sym (ap length whole)
    ∙ length-append front (state ∷ rest) in
    let here : get_or all (length front + 0) state ≡ state = ap (λ l. get_or l (length front + 0) state) (sym whole)
    ∙ get_or-append-add front (state ∷ rest) 0 state in
    let place : length front + 0 ≡ number = omega (arith, at) in
    sym (ap (λ (k : ℕ). get_or (rows_of all) k []) (sym place)
    ∙ get_or-map (λ (d : CopierStateView). d.outs) all (length front + 0) state [] (omega (arith, len))
    ∙ ap (λ (d : CopierStateView). d.outs) here)

pub lists_more : {X Y : Type 0} (f : X → List Y) (front : List X) (x : X) (before : List Y) → before ≡ flat_map f front
    → before ++ f x ≡ flat_map f (front ++ x ∷ [])
lists_more f front x before is = ap (λ l. l ++ f x) is ∙ ap (λ l. flat_map f front ++ l) (sym (append-nil (f x)))
    ∙ sym (flat_map-append f front (x ∷ []))

-- the next element of a list follows those that were given out
pub next_there : {X : Type 0} (front old rest all : List X) (x : X) (number : ℕ) → old ≡ x ∷ rest → front ++ old ≡ all
    → length front ≡ number → slice_get all number ≡ Some x
next_there front old rest all x number steps is at =
    let whole : front ++ (x ∷ rest) ≡ all = next_of front old rest all x steps is in
    let here : get_or all (length front + 0) x ≡ x = ap (λ l. get_or l (length front + 0) x) (sym whole)
    ∙ get_or-append-add front (x ∷ rest) 0 x in
    let len : length all ≡ length front + length (x ∷ rest) = sym (ap length whole) ∙ length-append front (x ∷ rest) in
    let place : length front + 0 ≡ number = omega (arith, at) in
    ap (slice_get all) (sym place) ∙ slice_get-get_or all (length front + 0) x (omega (arith, len)) ∙ ap Some here
