-- Parts after a final copy.
use Rattle.std.proofs.Common.{◌≡◌, ℕ, inl, inr, ◌^◌, ◌<◌, ◌≤◌, Bool, true, false, cond, eqb, ◌&&◌, List, [], length}
use Rattle.std.proofs.Common.{replicate, get_or, set, Option, Some, None, IfSome, IsSomeAnd, unwrap_or, IsTrue, refl}
use Rattle.std.proofs.Common.{sym, ap, subst, ◌∙◌, arith}
use Rattle.std.proofs.lemmas.Bool.{cond-true, cond-false, cases_lt, cases_eq, eq-eqb}
use Rattle.std.proofs.lemmas.List.{get_or_default, get_or-set_same, get_or-set_other, length-set, length-replicate}
use Rattle.migration_model.specs.Final.{IsFinalCopy, current_copy}
use Rattle.migration_model.specs.Frames.{GuestShape, PageFrame, IsFrame, IsZeros}
use Rattle.migration_model.specs.Images.{AreCurrent, AreNotBeyond, HaveCurrent}
use Rattle.migration_model.specs.Parts.{PageCopy, GuestPart, copy_at, copy_in, IsCopy, IsPart, later, with_frame}
use Rattle.migration_model.specs.Trace.{GuestTrace}
use Rattle.migration_model.specs.Versions.{page_at}
use Rattle.migration_model.proofs.Parts.{later_first, later_second, later_one}
use Rattle.migration_model.proofs.Lists.{if_some}

abbrev taken : Bool → Option PageCopy → PageCopy → Option PageCopy
taken b old copy = cond b (later old (Some copy)) old

abbrev some_of : PageCopy → Option PageCopy → PageCopy
some_of copy None = copy
some_of copy (Some c) = c

-- what holds of the old copy and of the current one holds of the new one
either : (P : PageCopy → Type 0) (b : Bool) (old new : Option PageCopy) (copy : PageCopy) → new ≡ taken b old copy
    → ((c : PageCopy) → old ≡ Some c → P c) → P copy → (c : PageCopy) → new ≡ Some c → P c
either P true old new copy is kept comes c has = elim (later_one old (Some copy) c (sym is ∙ has)) [
  | inl first ↦ kept c first
  | inr second ↦ subst P (λ i. some_of copy (second i)) comes
]
either P false old new copy is kept comes c has = kept c (sym is ∙ has)

from_if : (P : PageCopy → Type 0) (o : Option PageCopy) (c : PageCopy) → IfSome o P → o ≡ Some c → P c
from_if P None c holds is = absurd (cc is)
from_if P (Some d) c holds is = subst P (λ i. some_of d (is i)) holds

-- if no stamp is beyond, the later copy has the current stamp
later_current : (old : Option PageCopy) (copy : PageCopy) → IfSome old (λ c. c.stamp ≤ copy.stamp)
    → IsSomeAnd (later old (Some copy)) (λ c. c.stamp ≡ copy.stamp)
later_current None copy low = refl
later_current (Some c) copy low = elim (cases_lt c.stamp copy.stamp) [
  | inl less ↦ subst (λ (o : Option PageCopy). IsSomeAnd o (λ c. c.stamp ≡ copy.stamp)) (sym (later_second c copy less))
      refl
  | inr le ↦ subst (λ (o : Option PageCopy). IsSomeAnd o (λ c. c.stamp ≡ copy.stamp)) (sym (later_first c copy le))
      (omega (arith, le, low))
]

not_beyond_new : (trace : GuestTrace) (shape : GuestShape) (versions : List ℕ) (marked : ℕ → Bool)
    (old new : List GuestPart) → AreNotBeyond trace shape versions old
    → IsFinalCopy trace versions marked old new → AreNotBeyond trace shape versions new
not_beyond_new trace shape versions marked old new before copied = record {
  are_parts = λ i d low. let here : i < length old = omega (arith, low, copied.count) in (copied.each i d here).is_part;
  shapes = λ i d low. let here : i < length old = omega (arith, low, copied.count) in (copied.each i d here).shape
      ∙ before.shapes i d here;
  honest = λ i d low page copy has.
      let here : i < length old = omega (arith, low, copied.count) in
      either (λ c. c.content ≡ page_at trace page c.stamp) (marked page && eqb (copied.receiver page) i)
      (copy_at (get_or old i d) page) (copy_at (get_or new i d) page)
      (current_copy trace versions page) ((copied.each i d here).copies page)
      (λ c had. before.honest i d here page c had) refl copy has;
  bound = λ page i d low.
      let here : i < length old = omega (arith, low, copied.count) in
      if_some (copy_at (get_or new i d) page)
      (λ c has. either (λ c. c.stamp ≤ get_or versions page 0) (marked page && eqb (copied.receiver page) i)
      (copy_at (get_or old i d) page) (copy_at (get_or new i d) page)
      (current_copy trace versions page) ((copied.each i d here).copies page)
      (λ c had. from_if (λ c. c.stamp ≤ get_or versions page 0) (copy_at (get_or old i d) page) c
      (before.bound page i d here) had) (omega arith) c has);
}

abbrev IsCurrent : List ℕ → ℕ → GuestPart → Type 0
IsCurrent versions page part = IsSomeAnd (copy_at part page) (λ copy. copy.stamp ≡ get_or versions page 0)

current_at : (versions : List ℕ) (page : ℕ) (parts : List GuestPart) (i : ℕ) (d : GuestPart) → i < length parts
    → IsCurrent versions page (get_or parts i d)
    → HaveCurrent versions parts page
current_at versions page parts i d low is = (
  i,
  get_or parts i d,
  low,
  get_or_default parts i (get_or parts i d) d low,
  is,
)

current_new : (trace : GuestTrace) (shape : GuestShape) (versions : List ℕ) (marked : ℕ → Bool)
    (old new : List GuestPart) (page : ℕ) (b : Bool) → marked page ≡ b
    → AreNotBeyond trace shape versions old → (¬ IsTrue (marked page) → HaveCurrent versions old page)
    → IsFinalCopy trace versions marked old new
    → HaveCurrent versions new page
current_new trace shape versions marked old new page true is before had copied =
    let i = copied.receiver page in
    let d : GuestPart = record { shape = shape; copies = [] } in
    let here : i < length old = copied.received page is in
    let takes : (marked page && eqb (copied.receiver page) i) ≡ true = ap (λ b. b && eqb i i) is ∙ eq-eqb i i refl in
    let copies : copy_at (get_or new i d) page ≡ later (copy_at (get_or old i d) page)
    (Some (current_copy trace versions page)) =
    (copied.each i d here).copies page ∙ cond-true _ (later (copy_at (get_or old i d) page)
    (Some (current_copy trace versions page))) (copy_at (get_or old i d) page) takes in
    current_at versions page new i d (omega (arith, here, copied.count))
    (subst (λ (o : Option PageCopy). IsSomeAnd o (λ copy. copy.stamp ≡ get_or versions page 0)) (sym copies)
    (later_current (copy_at (get_or old i d) page) (current_copy trace versions page) (before.bound page i d here)))
current_new trace shape versions marked old new page false is before had copied =
    let found = had (λ yes. cc (sym is ∙ yes)) in
    let i = found.0 in
    let d = found.1 in
    let takes : (marked page && eqb (copied.receiver page) i) ≡ false =
    ap (λ b. b && eqb (copied.receiver page) i) is in
    let copies : copy_at (get_or new i d) page ≡ copy_at (get_or old i d) page =
    (copied.each i d found.2).copies page ∙ cond-false _ (later (copy_at (get_or old i d) page)
    (Some (current_copy trace versions page))) (copy_at (get_or old i d) page) takes in
    current_at versions page new i d (omega (arith, found.2, copied.count))
    (subst (λ (o : Option PageCopy). IsSomeAnd o (λ copy. copy.stamp ≡ get_or versions page 0))
    (sym (copies ∙ ap (λ (p : GuestPart). copy_at p page) found.3)) found.4)

pub final_current : (trace : GuestTrace) (shape : GuestShape) (versions : List ℕ) (marked : ℕ → Bool)
    (old new : List GuestPart)
    → AreNotBeyond trace shape versions old → ((page : ℕ) → page < shape.pages → ¬ IsTrue (marked page)
    → HaveCurrent versions old page)
    → IsFinalCopy trace versions marked old new → AreCurrent trace shape versions new
final_current trace shape versions marked old new before had copied = record {
  not_beyond = not_beyond_new trace shape versions marked old new before copied;
  current = λ page low. current_new trace shape versions marked old new page (marked page) refl before (had page low)
      copied;
}

-- ---- one part after one frame

length_content : (shape : GuestShape) (body : Option (List ℕ))
    → IfSome body (λ bytes. (length bytes ≡ 2 ^ shape.shift) × ¬ IsZeros bytes)
    → length (unwrap_or body (replicate (2 ^ shape.shift) 0)) ≡ 2 ^ shape.shift
length_content shape None is = length-replicate (2 ^ shape.shift) 0
length_content shape (Some bytes) is = is.0

later_is : (P : PageCopy → Type 0) (old : Option PageCopy) (copy : PageCopy) → IfSome old P → P copy
    → IfSome (later old (Some copy)) P
later_is P old copy holds is =
    if_some (later old (Some copy)) (λ c has. elim (later_one old (Some copy) c has) [
      | inl first ↦ from_if P old c holds first
      | inr second ↦ subst P (λ i. some_of copy (second i)) is
    ])

pub IsPart-with_frame : (part : GuestPart) (frame : PageFrame) → IsPart part → IsFrame part.shape frame
    → IsPart (with_frame part frame)
IsPart-with_frame part frame is fits =
    let copy = copy_in part.shape frame in
    let copy_is : IsCopy part.shape copy = record {
      stamp = fits.stamp;
      content =
          length_content part.shape frame.body fits.body;
    } in
    let low : frame.page < length part.copies = omega (arith, fits.page, is.places) in
    record {
      shape = is.shape;
      places = length-set part.copies frame.page _ ∙ is.places;
      copies = λ page. elim (cases_eq page frame.page) [
        | inl same ↦
            subst (λ (o : Option PageCopy). IfSome o (IsCopy part.shape))
            (sym (ap (λ p. get_or (set part.copies frame.page (later (copy_at part frame.page) (Some copy))) p None)
            same
            ∙ get_or-set_same part.copies frame.page (later (copy_at part frame.page) (Some copy)) None low))
            (later_is (IsCopy part.shape) (copy_at part frame.page) copy (is.copies frame.page) copy_is)
        | inr apart ↦
            subst (λ (o : Option PageCopy). IfSome o (IsCopy part.shape))
            (sym (get_or-set_other part.copies frame.page page (later (copy_at part frame.page) (Some copy)) None
            apart)) (is.copies page)
      ];
    }
