-- Frames that agree may come in any order, and any of them again.
use Rattle.std.proofs.Common.{◌≡◌, ◌⊎◌, ℕ, zero, suc, ◌<◌, ◌≤◌, List, [], ◌∷◌, ◌++◌, length, get_or, set, Option, Some}
use Rattle.std.proofs.Common.{None, refl, sym, ap, ◌∙◌, inl, inr, arith}
use Rattle.std.specs.List.{All, Contains}
use Rattle.std.proofs.lemmas.Bool.{cases_lt, cases_eq}
use Rattle.std.proofs.lemmas.List.{get_or-set_same, get_or-set_other, set-set, set_comm, set_past}
use Rattle.std.proofs.lemmas.List.Elements.{All-head, All-tail, All-weaker, All-contains_itself, Contains-append_left}
use Rattle.std.proofs.lemmas.List.Elements.{Contains-append_right}
use Rattle.migration_model.specs.Frames.{GuestShape, PageFrame, content_of}
use Rattle.migration_model.specs.Parts.{PageCopy, GuestPart, part_with, later, copy_in, with_frame, with_frames}
use Rattle.migration_model.specs.Parts.{FramesAgree}
use Rattle.migration_model.proofs.Parts.{later-later, later-itself, later-exchanged, same_copy}

some_same : (c e : PageCopy) → Some c ≡ Some e → c ≡ e
some_same c e is = cc is

contains_at : (g f : PageFrame) (fs : List PageFrame) (k : ℕ) → k < length (g ∷ fs) → get_or (g ∷ fs) k f ≡ f
    → (g ≡ f) ⊎ Contains fs f
contains_at g f fs zero low is = inl is
contains_at g f fs (suc k) low is = inr (k, omega arith, is)

-- what a list with one more in front contains
Contains_cases : (g f : PageFrame) (fs : List PageFrame) → Contains (g ∷ fs) f → (g ≡ f) ⊎ Contains fs f
Contains_cases g f fs found = contains_at g f fs found.0 found.1 found.2

-- the copies after one more of a page
abbrev put : List (Option PageCopy) → ℕ → PageCopy → List (Option PageCopy)
put xs n c = set xs n (later (get_or xs n None) (Some c))

put_past : (xs : List (Option PageCopy)) (n : ℕ) (c : PageCopy) → length xs ≤ n → put xs n c ≡ xs
put_past xs n c past = set_past xs n (later (get_or xs n None) (Some c)) past

put_again : (xs : List (Option PageCopy)) (n : ℕ) (c d : PageCopy)
    → put (put xs n c) n d ≡ set xs n (later (get_or xs n None) (later (Some c) (Some d)))
put_again xs n c d = elim (cases_lt n (length xs)) [
  | inl low ↦
      let y = later (get_or xs n None) (Some c) in
      set-set xs n y (later (get_or (set xs n y) n None) (Some d))
      ∙ ap (λ (o : Option PageCopy). set xs n (later o (Some d))) (get_or-set_same xs n y None low)
      ∙ ap (set xs n) (later-later (get_or xs n None) (Some c) (Some d))
  | inr past ↦
      ap (λ (ys : List (Option PageCopy)). put ys n d) (put_past xs n c past) ∙ put_past xs n d past
      ∙ sym (set_past xs n (later (get_or xs n None) (later (Some c) (Some d))) past)
]

put_itself : (xs : List (Option PageCopy)) (n : ℕ) (c : PageCopy) → put (put xs n c) n c ≡ put xs n c
put_itself xs n c = put_again xs n c c ∙ ap (λ (o : Option PageCopy). set xs n (later (get_or xs n None) o))
    (later-itself (Some c))

put_exchanged : (xs : List (Option PageCopy)) (m n : ℕ) (c d : PageCopy) → (m ≡ n → c.stamp ≡ d.stamp → c ≡ d)
    → put (put xs m c) n d ≡ put (put xs n d) m c
put_exchanged xs m n c d agree = elim (cases_eq m n) [
  | inl same ↦
      ap (λ k. put (put xs k c) n d) same
      ∙ put_again xs n c d
      ∙ ap (λ (o : Option PageCopy). set xs n (later (get_or xs n None) o))
      (later-exchanged (Some c) (Some d) (λ e f is_e is_f stamp. cc (
        agree same (ap (λ (p : PageCopy). p.stamp) (some_same c e is_e) ∙ stamp
            ∙ ap (λ (p : PageCopy). p.stamp) (sym (some_same d f is_f))),
        is_e,
        is_f,
      )))
      ∙ sym (put_again xs n d c)
      ∙ ap (λ k. put (put xs n d) k c) (sym same)
  | inr other ↦
      let y = later (get_or xs m None) (Some c) in
      let z = later (get_or xs n None) (Some d) in
      ap (λ (o : Option PageCopy). set (set xs m y) n (later o (Some d)))
      (get_or-set_other xs m n y None (λ is. other (sym is)))
      ∙ set_comm xs m n y z other
      ∙ ap (λ (o : Option PageCopy). set (set xs n z) m (later o (Some c))) (sym (get_or-set_other xs n m z None other))
]

-- two frames agree
abbrev Agreeing : GuestShape → PageFrame → PageFrame → Type 0
Agreeing shape f g = f.page ≡ g.page → f.stamp ≡ g.stamp → content_of shape f ≡ content_of shape g

frames_exchanged : (part : GuestPart) (f g : PageFrame) → Agreeing part.shape f g
    → with_frame (with_frame part f) g ≡ with_frame (with_frame part g) f
frames_exchanged part f g agree =
    ap (part_with part.shape)
    (put_exchanged part.copies f.page g.page (copy_in part.shape f) (copy_in part.shape g)
    (λ page stamp. same_copy (copy_in part.shape f) (copy_in part.shape g) stamp (agree page stamp)))

frame_itself : (part : GuestPart) (f : PageFrame) → with_frame (with_frame part f) f ≡ with_frame part f
frame_itself part f = ap (part_with part.shape) (put_itself part.copies f.page (copy_in part.shape f))

-- a frame comes before or after others
frame_moved : (part : GuestPart) (f : PageFrame) (gs : List PageFrame) → All (Agreeing part.shape f) gs
    → with_frames (with_frame part f) gs ≡ with_frame (with_frames part gs) f
frame_moved part f [] agree = refl
frame_moved part f (g ∷ gs) agree =
    ap (λ (p : GuestPart). with_frames p gs) (frames_exchanged part f g (All-head (Agreeing part.shape f) g gs agree))
    ∙ frame_moved (with_frame part g) f gs (All-tail (Agreeing part.shape f) g gs agree)

lists_exchanged : (part : GuestPart) (fs gs : List PageFrame) → All (λ f. All (Agreeing part.shape f) gs) fs
    → with_frames (with_frames part fs) gs ≡ with_frames (with_frames part gs) fs
lists_exchanged part [] gs agree = refl
lists_exchanged part (f ∷ fs) gs agree =
    lists_exchanged (with_frame part f) fs gs (All-tail (λ h. All (Agreeing part.shape h) gs) f fs agree)
    ∙ ap (λ (p : GuestPart). with_frames p fs) (frame_moved part f gs
    (All-head (λ h. All (Agreeing part.shape h) gs) f fs agree))

-- a frame that came before changes nothing
frame_again : (part : GuestPart) (f : PageFrame) (fs : List PageFrame) → All (Agreeing part.shape f) fs → Contains fs f
    → with_frame (with_frames part fs) f ≡ with_frames part fs
frame_again part f [] agree found = absurd (omega (arith, found.1))
frame_again part f (g ∷ fs) agree found = elim (Contains_cases g f fs found) [
  | inl same ↦
      let tail = All-tail (Agreeing part.shape f) g fs agree in
      ap (λ h. with_frame (with_frames (with_frame part h) fs) f) same
      ∙ sym (frame_moved (with_frame part f) f fs tail)
      ∙ ap (λ (p : GuestPart). with_frames p fs) (frame_itself part f)
      ∙ ap (λ h. with_frames (with_frame part h) fs) (sym same)
  | inr behind ↦ frame_again (with_frame part g) f fs (All-tail (Agreeing part.shape f) g fs agree) behind
]

-- nor does any number of such frames
list_again : (part : GuestPart) (fs gs : List PageFrame) → All (λ g. All (Agreeing part.shape g) fs) gs
    → All (Contains fs) gs
    → with_frames (with_frames part fs) gs ≡ with_frames part fs
list_again part fs [] agree found = refl
list_again part fs (g ∷ gs) agree found =
    ap (λ (p : GuestPart). with_frames p gs) (frame_again part g fs
    (All-head (λ h. All (Agreeing part.shape h) fs) g gs agree) (All-head (Contains fs) g gs found))
    ∙ list_again part fs gs (All-tail (λ h. All (Agreeing part.shape h) fs) g gs agree)
    (All-tail (Contains fs) g gs found)

pub any_order_lem : (part : GuestPart) (fs gs : List PageFrame) → FramesAgree part.shape (fs ++ gs)
    → All (Contains gs) fs → All (Contains fs) gs
    → with_frames part fs ≡ with_frames part gs
any_order_lem part fs gs agree in_gs in_fs =
    let of_fs : (f : PageFrame) → Contains fs f → Contains (fs ++ gs) f = λ f is. Contains-append_left fs gs f is in
    let of_gs : (g : PageFrame) → Contains gs g → Contains (fs ++ gs) g = λ g is. Contains-append_right fs gs g is in
    let each_f : All (λ f. All (Agreeing part.shape f) gs) fs =
    All-weaker (Contains fs) (λ f. All (Agreeing part.shape f) gs)
    (λ f is. All-weaker (Contains gs) (Agreeing part.shape f) (λ g at. agree f g (of_fs f is) (of_gs g at)) gs
    (All-contains_itself gs)) fs (All-contains_itself fs) in
    let each_g : All (λ g. All (Agreeing part.shape g) fs) gs =
    All-weaker (Contains gs) (λ g. All (Agreeing part.shape g) fs)
    (λ g is. All-weaker (Contains fs) (Agreeing part.shape g) (λ f at. agree g f (of_gs g is) (of_fs f at)) fs
    (All-contains_itself fs)) gs (All-contains_itself gs) in
    sym (list_again part fs gs each_g in_fs) ∙ lists_exchanged part fs gs each_f ∙ list_again part gs fs each_f in_gs
