-- A part after one more frame came to it.
use Rattle.std.proofs.Common.{◌≡◌, ℕ, ◌≤◌, ◌⊎◌, inl, inr, ltb, refl, sym, ap, ◌∙◌, arith}
use Rattle.std.specs.Prelude.{Option, Some, None}
use Rattle.std.proofs.lemmas.Bool.{cases_eq, cases_lt, cases_Bool, cond-true, cond-false, ltb-true, lt-ltb}
use Rattle.std.proofs.lemmas.List.{get_or-set_same, get_or-set_other}
use Rattle.std.proofs.lemmas.Option.{same_Some}
use Rattle.migration_model.specs.Frames.{PageFrame, IsFrame}
use Rattle.migration_model.specs.Parts.{GuestPart, PageCopy, IsPart, copy_at, copy_in, later, with_frame}

-- the later of two copies is one of them
later_is : (o : Option PageCopy) (c x : PageCopy) → later o (Some c) ≡ Some x → (o ≡ Some x) ⊎ (c ≡ x)
later_is None c x e = inr (same_Some c x e)
later_is (Some f) c x e = elim (cases_Bool (ltb f.stamp c.stamp)) [
  | inl lt ↦ inr (same_Some c x (sym (cond-true (ltb f.stamp c.stamp) (Some c) (Some f) lt) ∙ e))
  | inr ge ↦ inl (sym (cond-false (ltb f.stamp c.stamp) (Some c) (Some f) ge) ∙ e)
]

later_of_two : (f c : PageCopy) → (x : PageCopy) × (later (Some f) (Some c) ≡ Some x) × (f.stamp ≤ x.stamp)
    × (c.stamp ≤ x.stamp)
later_of_two f c = elim (cases_lt f.stamp c.stamp) [
  | inl lt ↦ (
    c,
    cond-true (ltb f.stamp c.stamp) (Some c) (Some f) (lt-ltb f.stamp c.stamp lt),
    omega (arith, lt),
    omega
        arith,
  )
  | inr ge ↦ elim (cases_Bool (ltb f.stamp c.stamp)) [
    | inl lt ↦ absurd (omega (arith, ge, ltb-true f.stamp c.stamp lt))
    | inr le ↦ (f, cond-false (ltb f.stamp c.stamp) (Some c) (Some f) le, omega arith, ge)
  ]
]

pub later_comes : (o : Option PageCopy) (c : PageCopy) → (x : PageCopy) × (later o (Some c) ≡ Some x)
    × (c.stamp ≤ x.stamp)
later_comes None c = (c, refl, omega arith)
later_comes (Some f) c = let two = later_of_two f c in (two.0, two.1, two.3)

own_copy : (part : GuestPart) (frame : PageFrame) → IsPart part → IsFrame part.shape frame
    → copy_at (with_frame part frame) frame.page ≡ later (copy_at part frame.page) (Some (copy_in part.shape frame))
own_copy part frame is fits =
    get_or-set_same part.copies frame.page (later (copy_at part frame.page) (Some (copy_in part.shape frame))) None
    (omega (arith, fits.page, is.places))

other_copy : (part : GuestPart) (frame : PageFrame) (page : ℕ) → (page ≡ frame.page → ⊥)
    → copy_at (with_frame part frame) page ≡ copy_at part page
other_copy part frame page apart = get_or-set_other part.copies frame.page page
    (later (copy_at part frame.page) (Some (copy_in part.shape frame))) None apart

-- each copy was there before, or is the frame's
pub one_had : (part : GuestPart) (frame : PageFrame) (page : ℕ) (copy : PageCopy) → IsPart part
    → IsFrame part.shape frame → copy_at (with_frame part frame) page ≡ Some copy
    → (copy_at part page ≡ Some copy) ⊎ ((frame.page ≡ page) × (copy_in part.shape frame ≡ copy))
one_had part frame page copy is fits there = elim (cases_eq page frame.page) [
  | inl e ↦ elim (later_is (copy_at part frame.page) (copy_in part.shape frame) copy
      (sym (own_copy part frame is fits) ∙ ap (copy_at (with_frame part frame)) (sym e) ∙ there)) [
        | inl old ↦ inl (ap (copy_at part) e ∙ old)
        | inr new ↦ inr (sym e, new)
      ]
  | inr apart ↦ inl (sym (other_copy part frame page apart) ∙ there)
]

-- each copy that was there is still there, or a later one
pub one_kept : (part : GuestPart) (frame : PageFrame) (page : ℕ) (copy : PageCopy) → IsPart part
    → IsFrame part.shape frame → copy_at part page ≡ Some copy
    → (later : PageCopy) × (copy_at (with_frame part frame) page ≡ Some later) × (copy.stamp ≤ later.stamp)
one_kept part frame page copy is fits there = elim (cases_eq page frame.page) [
  | inl e ↦
      let two = later_of_two copy (copy_in part.shape frame) in
      let here : copy_at part frame.page ≡ Some copy = ap (copy_at part) (sym e) ∙ there in (
        two.0,
        ap (copy_at (with_frame part frame)) e ∙ own_copy part frame is fits
            ∙ ap (λ (o : Option PageCopy). later o (Some (copy_in part.shape frame))) here ∙ two.1,
        two.2,
      )
  | inr apart ↦ (copy, other_copy part frame page apart ∙ there, omega arith)
]

-- the frame's own copy is there, or a later one
pub one_came : (part : GuestPart) (frame : PageFrame) → IsPart part → IsFrame part.shape frame
    → (copy : PageCopy) × (copy_at (with_frame part frame) frame.page ≡ Some copy) × (frame.stamp ≤ copy.stamp)
one_came part frame is fits =
    let here = later_comes (copy_at part frame.page) (copy_in part.shape frame) in
    (here.0, own_copy part frame is fits ∙ here.1, here.2)
