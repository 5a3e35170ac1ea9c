-- Views after a step, a cut and a join: no guest or copier is in two of them, and what is there is true.
use Rattle.std.proofs.Common.{◌≡◌, ◌≢◌, ◌⊎◌, ℕ, zero, suc, List, [], ◌∷◌, ◌++◌, length, set, cond, eqb, refl, sym, ap}
use Rattle.std.proofs.Common.{subst, ◌∙◌, inl, inr, ⊎_elim}
use mathlib.Core.Option.{some, some-injective, some-ne-none}
use lib.ListN.{get_elem?}
use Rattle.std.proofs.lemmas.Bool.{eq-eqb, ne_eqb}
use Rattle.std.proofs.lemmas.List.{length-set}
use Rattle.atomic_table.proofs.Lists.{at_set, set_else}
use Rattle.dirty_core.specs.Machine.{put}
use Rattle.dirty_core.proofs.EveryPage.{put_at, put_else}
use Rattle.dirty_words.specs.Facts.{Facts, of_guest, of_copier}
use Rattle.dirty_words.specs.Shows.{Owners, owner_of, EachView}

-- two entries are of the same guest, or of the same copier
abbrev pub IsSameSeat : Facts → Facts → Type 0
IsSameSeat (of_guest one) (of_guest other) = one.number ≡ other.number
IsSameSeat (of_copier one) (of_copier other) = one.number ≡ other.number
IsSameSeat one other = ⊥

same_owner : (owners : Owners) (a b : Facts) → IsSameSeat a b → owner_of owners a ≡ owner_of owners b
same_owner owners (of_guest a) (of_guest b) e = ap owners.guest e
same_owner owners (of_copier a) (of_copier b) e = ap owners.copier e
same_owner owners (of_guest a) (of_copier b) e = absurd e
same_owner owners (of_copier a) (of_guest b) e = absurd e

pub only : (a : Facts) (entry : ℕ) (facts : Facts) → get_elem? (a ∷ []) entry ≡ some facts → a ≡ facts
only a zero facts e = some-injective a facts e
only a (suc entry) facts e = absurd (some-ne-none facts (sym e))

pub nothing : (entry : ℕ) (facts : Facts) → get_elem? [] entry ≡ some facts → ⊥
nothing entry facts e = some-ne-none facts (sym e)

-- ---- a step of a seat with only one guest or copier

pub EachView-step : (views : List (List Facts)) (owners : Owners) (Old New : Facts → Type 0) (id : ℕ) (was is : Facts)
    → EachView views owners Old → get_elem? views id ≡ some (was ∷ []) → IsSameSeat was is → New is
    → ((other : Facts) → (IsSameSeat was other → ⊥) → Old other → New other)
    → EachView (set views id (is ∷ [])) owners New
EachView-step views owners Old New id was is each at same new others seat entry view facts there inside =
    let owner : owner_of owners was ≡ id = (each id 0 (was ∷ []) was at refl).0 in
    ⊎_elim
    (λ (here : (seat ≡ id) × (is ∷ [] ≡ view)).
    let e : is ≡ facts = only is entry facts (subst (λ v. get_elem? v entry ≡ some facts) (sym here.1) inside) in
    (ap (owner_of owners) (sym e) ∙ sym (same_owner owners was is same) ∙ owner ∙ sym here.0, subst New e new))
    (λ (far : (seat ≢ id) × (get_elem? views seat ≡ some view)).
    let old = each seat entry view facts far.1 inside in
    (old.0, others facts (λ one. far.0 (sym old.0 ∙ sym (same_owner owners was facts one) ∙ owner)) old.1))
    (at_set views id seat (is ∷ []) view there)

-- ---- a cut

-- this seat stands for the guest or copier now
abbrev pub gives : Owners → Facts → ℕ → Owners
gives owners (of_guest facts) seat = record owners { guest = put owners.guest facts.number seat }
gives owners (of_copier facts) seat = record owners { copier = put owners.copier facts.number seat }

gives_it : (owners : Owners) (facts : Facts) (seat : ℕ) → owner_of (gives owners facts seat) facts ≡ seat
gives_it owners (of_guest facts) seat = put_at owners.guest facts.number seat facts.number refl
gives_it owners (of_copier facts) seat = put_at owners.copier facts.number seat facts.number refl

gives_other : (owners : Owners) (facts other : Facts) (seat : ℕ) → (IsSameSeat facts other → ⊥)
    → owner_of (gives owners facts seat) other ≡ owner_of owners other
gives_other owners (of_guest a) (of_guest b) seat apart = put_else owners.guest a.number seat b.number
    (λ e. apart (sym e))
gives_other owners (of_copier a) (of_copier b) seat apart = put_else owners.copier a.number seat b.number
    (λ e. apart (sym e))
gives_other owners (of_guest a) (of_copier b) seat apart = refl
gives_other owners (of_copier a) (of_guest b) seat apart = refl

at_end : {A : Type 0} → (l : List A) (a : A) (i : ℕ) (b : A) → get_elem? (l ++ a ∷ []) i ≡ some b
    → (get_elem? l i ≡ some b) ⊎ ((i ≡ length l) × (a ≡ b))
at_end [] a zero b e = inr (refl, some-injective a b e)
at_end [] a (suc i) b e = absurd (some-ne-none b (sym e))
at_end (x ∷ xs) a zero b e = inl e
at_end (x ∷ xs) a (suc i) b e = ⊎_elim (λ old. inl old) (λ last. inr (ap suc last.0, last.1)) (at_end xs a i b e)

pub EachView-cut : (views : List (List Facts)) (owners : Owners) (IsTold : Facts → Type 0) (id : ℕ) (first : Facts)
    (rest : List Facts)
    → EachView views owners IsTold → get_elem? views id ≡ some (first ∷ rest)
    → ((entry : ℕ) (other : Facts) → get_elem? rest entry ≡ some other → IsSameSeat first other → ⊥)
    → EachView (set views id rest ++ (first ∷ []) ∷ []) (gives owners first (length views)) IsTold
EachView-cut views owners IsTold id first rest each at apart seat entry view facts there inside =
    let mine = each id 0 (first ∷ rest) first at refl in
    let stays : (IsSameSeat first facts → ⊥) → owner_of owners facts ≡ seat
    → owner_of (gives owners first (length views)) facts ≡ seat =
    λ far owner. gives_other owners first facts (length views) far ∙ owner in
    ⊎_elim
    (λ (old : get_elem? (set views id rest) seat ≡ some view). ⊎_elim
    (λ (here : (seat ≡ id) × (rest ≡ view)).
    let in_rest : get_elem? rest entry ≡ some facts = subst (λ v. get_elem? v entry ≡ some facts) (sym here.1) inside in
    let was = each id (suc entry) (first ∷ rest) facts at in_rest in
    (stays (apart entry facts in_rest) (was.0 ∙ sym here.0), was.1))
    (λ (far : (seat ≢ id) × (get_elem? views seat ≡ some view)).
    let was = each seat entry view facts far.1 inside in
    (stays (λ same. far.0 (sym was.0 ∙ sym (same_owner owners first facts same) ∙ mine.0)) was.0, was.1))
    (at_set views id seat rest view old))
    (λ (last : (seat ≡ length (set views id rest)) × (first ∷ [] ≡ view)).
    let e : first ≡ facts = only first entry facts (subst (λ v. get_elem? v entry ≡ some facts) (sym last.1)
    inside) in (
      ap (owner_of (gives owners first (length views))) (sym e) ∙ gives_it owners first (length views)
          ∙ sym (length-set views id rest) ∙ sym last.0,
      subst IsTold e mine.1,
    ))
    (at_end (set views id rest) (first ∷ []) seat view there)

-- ---- a join

-- what one seat stood for, another stands for
abbrev pub merged : Owners → ℕ → ℕ → Owners
merged owners other id = record {
  guest = λ number. cond (eqb (owners.guest number) other) id (owners.guest number);
  copier = λ number. cond (eqb (owners.copier number) other) id (owners.copier number);
}

merged_owner : (owners : Owners) (other id : ℕ) (facts : Facts)
    → owner_of (merged owners other id) facts ≡ cond (eqb (owner_of owners facts) other) id (owner_of owners facts)
merged_owner owners other id (of_guest facts) = refl
merged_owner owners other id (of_copier facts) = refl

merged_here : (owners : Owners) (other id : ℕ) (facts : Facts) → owner_of owners facts ≡ other
    → owner_of (merged owners other id) facts ≡ id
merged_here owners other id facts e = merged_owner owners other id facts
    ∙ rw (eq-eqb (owner_of owners facts) other e) refl

merged_else : (owners : Owners) (other id : ℕ) (facts : Facts) → owner_of owners facts ≢ other
    → owner_of (merged owners other id) facts ≡ owner_of owners facts
merged_else owners other id facts ne = merged_owner owners other id facts
    ∙ rw (ne_eqb (owner_of owners facts) other ne) refl

pub in_either : (v w : List Facts) (entry : ℕ) (facts : Facts) → get_elem? (v ++ w) entry ≡ some facts
    → (get_elem? v entry ≡ some facts) ⊎ ((k : ℕ) × (get_elem? w k ≡ some facts))
in_either [] w entry facts e = inr (entry, e)
in_either (x ∷ v) w zero facts e = inl e
in_either (x ∷ v) w (suc entry) facts e = in_either v w entry facts e

pub EachView-join : (views : List (List Facts)) (owners : Owners) (IsTold : Facts → Type 0) (id : ℕ) (v : List Facts)
    (other : ℕ) (w : List Facts)
    → EachView views owners IsTold → get_elem? views id ≡ some v → (other ≡ id → ⊥)
    → get_elem? (set views id (v ++ w)) other ≡ some w
    → EachView (set (set views id (v ++ w)) other []) (merged owners other id) IsTold
EachView-join views owners IsTold id v other w each at apart at_other seat entry view facts there inside =
    let at_other' : get_elem? views other ≡ some w = sym (set_else views id other (v ++ w) apart) ∙ at_other in
    ⊎_elim
    (λ (here : (seat ≡ other) × ([] ≡ view)). absurd (nothing entry facts
    (subst (λ l. get_elem? l entry ≡ some facts) (sym here.1) inside)))
    (λ (far : (seat ≢ other) × (get_elem? (set views id (v ++ w)) seat ≡ some view)). ⊎_elim
    (λ (here : (seat ≡ id) × (v ++ w ≡ view)). ⊎_elim
    (λ (old : get_elem? v entry ≡ some facts).
    let was = each id entry v facts at old in
    (merged_else owners other id facts (λ e. apart (sym e ∙ was.0)) ∙ was.0 ∙ sym here.0, was.1))
    (λ (new : (k : ℕ) × (get_elem? w k ≡ some facts)).
    let was = each other new.0 w facts at_other' new.1 in
    (merged_here owners other id facts was.0 ∙ sym here.0, was.1))
    (in_either v w entry facts (subst (λ l. get_elem? l entry ≡ some facts) (sym here.1) inside)))
    (λ (else : (seat ≢ id) × (get_elem? views seat ≡ some view)).
    let was = each seat entry view facts else.1 inside in
    (merged_else owners other id facts (λ e. far.0 (sym was.0 ∙ e)) ∙ was.0, was.1))
    (at_set views id seat (v ++ w) view far.1))
    (at_set (set views id (v ++ w)) other seat [] view there)

-- ---- a new seat with nobody in it

pub EachView-enter : (views : List (List Facts)) (owners : Owners) (IsTold : Facts → Type 0)
    → EachView views owners IsTold
    → EachView (views ++ [] ∷ []) owners IsTold
EachView-enter views owners IsTold each seat entry view facts there inside = ⊎_elim
    (λ (old : get_elem? views seat ≡ some view). each seat entry view facts old inside)
    (λ (last : (seat ≡ length views) × ([] ≡ view)). absurd (nothing entry facts
    (subst (λ l. get_elem? l entry ≡ some facts) (sym last.1) inside)))
    (at_end views [] seat view there)
