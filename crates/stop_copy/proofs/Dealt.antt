-- Parts after frames were dealt out to them.
use Rattle.std.proofs.Common.{◌≡◌, ℕ, inl, inr, zero, suc, ◌+◌, ◌%◌, ◌<◌, Bool, true, false, cond, eqb, ltb, ◌&&◌, List}
use Rattle.std.proofs.Common.{[], ◌∷◌, length, map, get_or, set, Some, None, IsTrue, refl, sym, ap, subst, ◌∙◌, arith}
use Rattle.std.specs.List.{All, filter, range_with_len}
use Rattle.std.proofs.Math.Nat.{mod-lt}
use Rattle.std.proofs.lemmas.Bool.{and_from, cases_eq, cases_lt, eq-eqb, ne_eqb, lt-ltb, le-ltb}
use Rattle.std.proofs.lemmas.List.{get_or_default, get_or-set_same, get_or-set_other, length-set}
use Rattle.std.proofs.lemmas.List.Elements.{All-head, All-tail}
use Rattle.std.proofs.Math.Bool.{and-false}
use Rattle.migration_model.specs.Final.{IsFinalCopy, TakesCurrent, current_copy, shape_of_trace}
use Rattle.migration_model.specs.Frames.{GuestShape, PageFrame, IsFrame, shape_with}
use Rattle.migration_model.specs.Parts.{GuestPart, IsPart, copy_at, copy_in, empty_part, later, with_frame}
use Rattle.migration_model.specs.Trace.{GuestTrace}
use Rattle.migration_model.proofs.Final.{IsPart-with_frame}
use Rattle.stop_copy.specs.Copies.{IsCurrentFrame, AreCurrentFrames, after_dealing}

abbrev none : GuestPart
none = empty_part (shape_with 0 0 0)

-- one more frame
pub dealt-step : (turn streams own next : ℕ) (parts : List GuestPart) (old new : GuestPart) (frame : PageFrame)
    (frames : List PageFrame) → streams ≡ length parts
    → own ≡ turn → next ≡ (turn + 1) % streams → own < length parts → old ≡ get_or parts own old → new
    ≡ with_frame old frame
    → after_dealing next (set parts own new) frames ≡ after_dealing turn parts (frame ∷ frames)
dealt-step turn streams own next parts old new frame frames streams_is own_is next_is low old_is new_is =
    let turns : next ≡ (turn + 1) % length parts = next_is ∙ ap (λ k. (turn + 1) % k) streams_is in
    let part : old ≡ get_or parts turn none = old_is ∙ get_or_default parts own old none low
    ∙ ap (λ k. get_or parts k none) own_is in
    let added : new ≡ with_frame (get_or parts turn none) frame = new_is
    ∙ ap (λ (p : GuestPart). with_frame p frame) part in
    λ i. after_dealing (turns i) (set parts (own_is i) (added i)) frames

-- ---- a final copy of the marked pages below one

abbrev below : (ℕ → Bool) → ℕ → ℕ → Bool
below marked p q = marked q && ltb q p

takes-same : (trace : GuestTrace) (versions : List ℕ) (t u : ℕ → Bool) (old new : GuestPart) → ((q : ℕ) → t q ≡ u q)
    → TakesCurrent trace versions t old new
    → TakesCurrent trace versions u old new
takes-same trace versions t u old new same takes = record {
  is_part = takes.is_part;
  shape = takes.shape;
  copies = λ q. takes.copies q ∙ ap (λ (b : Bool). cond b (later (copy_at old q) (Some (current_copy trace versions q)))
      (copy_at old q)) (same q);
}

final-same : (trace : GuestTrace) (versions : List ℕ) (t u : ℕ → Bool) (old new : List GuestPart)
    → ((q : ℕ) → t q ≡ u q) → IsFinalCopy trace versions t old new
    → IsFinalCopy trace versions u old new
final-same trace versions t u old new same final = record {
  receiver = final.receiver;
  received = λ q is. final.received q (same q ∙ is);
  count = final.count;
  each = λ i d low. takes-same trace versions (λ q. t q && eqb (final.receiver q) i)
      (λ q. u q && eqb (final.receiver q) i) (get_or old i d) (get_or new i d)
      (λ q. ap (λ (b : Bool). b && eqb (final.receiver q) i) (same q)) (final.each i d low);
}

none_below : (marked : ℕ → Bool) (q : ℕ) → below marked 0 q ≡ false
none_below marked q = ap (λ (b : Bool). marked q && b) (le-ltb q 0 (omega arith)) ∙ and-false (marked q)

final-none : (trace : GuestTrace) (versions : List ℕ) (marked : ℕ → Bool) (old : List GuestPart) → All IsPart old
    → IsFinalCopy trace versions (below marked 0) old old
final-none trace versions marked old are = record {
  receiver = λ q. 0;
  received = λ q is. absurd (cc (sym (none_below marked q) ∙ is));
  count = refl;
  each = λ i d low. record {
    is_part = are i d low;
    shape = refl;
    copies = λ q. sym (ap (λ (b : Bool). cond (b && eqb 0 i)
        (later (copy_at (get_or old i d) q) (Some (current_copy trace versions q))) (copy_at (get_or old i d) q))
        (none_below marked q));
  };
}

-- another page's test doesn't change
below-other : (marked : ℕ → Bool) (p q : ℕ) → ¬ (q ≡ p) → below marked p q ≡ below marked (p + 1) q
below-other marked p q apart = elim (cases_lt q p) [
  | inl less ↦ ap (λ (b : Bool). marked q && b) (lt-ltb q p less ∙ sym (lt-ltb q (p + 1) (omega (arith, less))))
  | inr le ↦ ap (λ (b : Bool). marked q && b) (le-ltb q p le ∙ sym (le-ltb q (p + 1) (omega (arith, le, apart))))
]

below-itself : (marked : ℕ → Bool) (p : ℕ) → below marked p p ≡ false
below-itself marked p = ap (λ (b : Bool). marked p && b) (le-ltb p p (omega arith)) ∙ and-false (marked p)

below-next : (marked : ℕ → Bool) (p : ℕ) → marked p ≡ true → below marked (p + 1) p ≡ true
below-next marked p is = and_from (marked p) (ltb p (p + 1)) is (lt-ltb p (p + 1) (omega arith))

skipped : (marked : ℕ → Bool) (p q : ℕ) → marked p ≡ false → below marked p q ≡ below marked (p + 1) q
skipped marked p q is = elim (cases_eq q p) [
  | inl same ↦
      let none : marked q ≡ false = ap marked same ∙ is in
      ap (λ (b : Bool). b && ltb q p) none ∙ sym (ap (λ (b : Bool). b && ltb q (p + 1)) none)
  | inr apart ↦ below-other marked p q apart
]

-- one part takes one more page
takes-next : (trace : GuestTrace) (versions : List ℕ) (t u : ℕ → Bool) (p : ℕ) (old part : GuestPart)
    (frame : PageFrame)
    → TakesCurrent trace versions t old part → part.shape ≡ shape_of_trace trace → IsCurrentFrame trace versions frame
    → frame.page ≡ p
    → t p ≡ false → u p ≡ true → ((q : ℕ) → ¬ (q ≡ p) → t q ≡ u q)
    → TakesCurrent trace versions u old (with_frame part frame)
takes-next trace versions t u p old part frame takes shape current page before after same =
    let fits : IsFrame part.shape frame = subst (λ (s : GuestShape). IsFrame s frame) (sym shape) current.fits in
    let low : frame.page < length part.copies = omega (arith, fits.page, takes.is_part.places) in
    let copy : copy_in part.shape frame ≡ current_copy trace versions p =
    ap (λ (s : GuestShape). copy_in s frame) shape ∙ current.copy ∙ ap (current_copy trace versions) page in
    let value = later (copy_at part frame.page) (Some (copy_in part.shape frame)) in
    record {
      is_part = IsPart-with_frame part frame takes.is_part fits;
      shape = takes.shape;
      copies = λ q. elim (cases_eq q p) [
        | inl here ↦
            let own : copy_at part p ≡ copy_at old p =
            takes.copies p ∙ ap (λ (b : Bool). cond b (later (copy_at old p) (Some (current_copy trace versions p)))
            (copy_at old p)) before in
            ap (λ k. get_or (set part.copies frame.page value) k None) (here ∙ sym page)
            ∙ get_or-set_same part.copies frame.page value None low
            ∙ ap (λ k. later (copy_at part k) (Some (copy_in part.shape frame))) page
            ∙ (λ i. later (own i) (Some (copy i)))
            ∙ sym (ap (λ k. cond (u k) (later (copy_at old k) (Some (current_copy trace versions k))) (copy_at old k))
            here
            ∙ ap (λ (b : Bool). cond b (later (copy_at old p) (Some (current_copy trace versions p))) (copy_at old p))
            after)
        | inr apart ↦
            get_or-set_other part.copies frame.page q value None (λ is. apart (is ∙ page))
            ∙ takes.copies q
            ∙ ap (λ (b : Bool). cond b (later (copy_at old q) (Some (current_copy trace versions q))) (copy_at old q))
            (same q apart)
      ];
    }

abbrev received_by : ℕ → ℕ → (ℕ → ℕ) → ℕ → ℕ
received_by p s receiver q = cond (eqb q p) s (receiver q)

own_receiver : (p s : ℕ) (receiver : ℕ → ℕ) (q : ℕ) → q ≡ p → received_by p s receiver q ≡ s
own_receiver p s receiver q is = ap (λ (b : Bool). cond b s (receiver q)) (eq-eqb q p is)

other_receiver : (p s : ℕ) (receiver : ℕ → ℕ) (q : ℕ) → ¬ (q ≡ p) → received_by p s receiver q ≡ receiver q
other_receiver p s receiver q apart = ap (λ (b : Bool). cond b s (receiver q)) (ne_eqb q p apart)

final-next : (trace : GuestTrace) (versions : List ℕ) (marked : ℕ → Bool) (old parts : List GuestPart) (p s : ℕ)
    (frame : PageFrame)
    → All (λ part. part.shape ≡ shape_of_trace trace) old → IsFinalCopy trace versions (below marked p) old parts
    → marked p ≡ true → s < length old
    → IsCurrentFrame trace versions frame → frame.page ≡ p
    → IsFinalCopy trace versions (below marked (p + 1)) old (set parts s (with_frame (get_or parts s none) frame))
final-next trace versions marked old parts p s frame shapes final is low current page =
    let receiver = received_by p s final.receiver in
    let new = with_frame (get_or parts s none) frame in
    let within : s < length parts = omega (arith, low, final.count) in
    let others : (i q : ℕ) → ¬ (q ≡ p) → (below marked p q && eqb (final.receiver q) i)
    ≡ (below marked (p + 1) q && eqb (receiver q) i) =
    λ i q apart.
    let same = sym (other_receiver p s final.receiver q apart) in
    λ j. below-other marked p q apart j && eqb (same j) i in
    let before : (i : ℕ) → (below marked p p && eqb (final.receiver p) i) ≡ false =
    λ i. ap (λ (b : Bool). b && eqb (final.receiver p) i) (below-itself marked p) in
    record {
      receiver = receiver;
      received = λ q yes. elim (cases_eq q p) [
        | inl here ↦ omega (arith, low, own_receiver p s final.receiver q here)
        | inr apart ↦ omega (
          arith,
          other_receiver p s final.receiver q apart,
          final.received q
              (below-other marked p q apart ∙ yes),
        )
      ];
      count = length-set parts s new ∙ final.count;
      each = λ i d inside. elim (cases_eq i s) [
        | inl here ↦
            let value : get_or (set parts s new) i d ≡ with_frame (get_or parts i d) frame =
            ap (λ k. get_or (set parts s new) k d) here ∙ get_or-set_same parts s new d within
            ∙ ap (λ (q : GuestPart). with_frame q frame)
            (get_or_default parts s none d within ∙ ap (λ k. get_or parts k d) (sym here)) in
            subst (λ (q : GuestPart). TakesCurrent trace versions (λ q. below marked (p + 1) q && eqb (receiver q) i)
            (get_or old i d) q) (sym value)
            (takes-next trace versions (λ q. below marked p q && eqb (final.receiver q) i)
            (λ q. below marked (p + 1) q && eqb (receiver q) i) p (get_or old i d) (get_or parts i d) frame
            (final.each i d inside) ((final.each i d inside).shape ∙ shapes i d inside) current page (before i)
            (and_from (below marked (p + 1) p) (eqb (receiver p) i) (below-next marked p is)
            (eq-eqb (receiver p) i (own_receiver p s final.receiver p refl ∙ sym here)))
            (others i))
        | inr apart ↦
            subst (λ (q : GuestPart). TakesCurrent trace versions (λ q. below marked (p + 1) q && eqb (receiver q) i)
            (get_or old i d) q)
            (sym (get_or-set_other parts s i new d apart))
            (takes-same trace versions (λ q. below marked p q && eqb (final.receiver q) i)
            (λ q. below marked (p + 1) q && eqb (receiver q) i) (get_or old i d) (get_or parts i d)
            (λ q. elim (cases_eq q p) [
              | inl same ↦
                  ap (λ k. below marked p k && eqb (final.receiver k) i) same ∙ before i
                  ∙ sym (ap (λ (b : Bool). below marked (p + 1) q && b)
                  (ne_eqb (receiver q) i (λ e. apart (sym e ∙ own_receiver p s final.receiver q same)))
                  ∙ and-false (below marked (p + 1) q))
              | inr not ↦ others i q not
            ]) (final.each i d inside))
      ];
    }

-- ---- all frames

abbrev first_of : ℕ → List ℕ → ℕ
first_of d [] = d
first_of d (p ∷ ps) = p

abbrev rest_of : List ℕ → List ℕ
rest_of [] = []
rest_of (p ∷ ps) = ps

-- one more page, with the others taken as given
one-more : (trace : GuestTrace) (versions : List ℕ) (marked : ℕ → Bool) (old : List GuestPart) (a n turn : ℕ)
    (parts : List GuestPart) (frames : List PageFrame) (b : Bool)
    → ((turn : ℕ) (parts : List GuestPart) (frames : List PageFrame) → turn < length old → map (λ f. f.page) frames
    ≡ filter marked (range_with_len (a + 1) n)
    → All (IsCurrentFrame trace versions) frames → IsFinalCopy trace versions (below marked (a + 1)) old parts
    → IsFinalCopy trace versions (below marked (a + 1 + n)) old (after_dealing turn parts frames))
    → marked a ≡ b → All (λ part. part.shape ≡ shape_of_trace trace) old → turn < length old
    → map (λ f. f.page) frames ≡ cond b (a ∷ filter marked (range_with_len (a + 1) n))
    (filter marked (range_with_len (a + 1) n))
    → All (IsCurrentFrame trace versions) frames → IsFinalCopy trace versions (below marked a) old parts
    → IsFinalCopy trace versions (below marked (a + 1 + n)) old (after_dealing turn parts frames)
one-more trace versions marked old a n turn parts [] true next is shapes low pages current final = absurd (cc pages)
one-more trace versions marked old a n turn parts (f ∷ fs) true next is shapes low pages current final =
    next ((turn + 1) % length parts) (set parts turn (with_frame (get_or parts turn none) f)) fs
    (let some : 0 < length parts = omega (arith, low, final.count) in
    let within : (turn + 1) % length parts < length parts = mod-lt (turn + 1) some in
    omega (arith, within, final.count))
    (ap rest_of pages) (All-tail (IsCurrentFrame trace versions) f fs current)
    (final-next trace versions marked old parts a turn f shapes final is low
    (All-head (IsCurrentFrame trace versions) f fs current) (ap (first_of a) pages))
one-more trace versions marked old a n turn parts frames false next is shapes low pages current final =
    next turn parts frames low pages current
    (final-same trace versions (below marked a) (below marked (a + 1)) old parts (λ q. skipped marked a q is) final)

dealt-final : (trace : GuestTrace) (versions : List ℕ) (marked : ℕ → Bool) (old : List GuestPart) (a n turn : ℕ)
    (parts : List GuestPart) (frames : List PageFrame)
    → All (λ part. part.shape ≡ shape_of_trace trace) old → turn < length old → map (λ f. f.page) frames
    ≡ filter marked (range_with_len a n)
    → All (IsCurrentFrame trace versions) frames → IsFinalCopy trace versions (below marked a) old parts
    → IsFinalCopy trace versions (below marked (a + n)) old (after_dealing turn parts frames)
dealt-final trace versions marked old a zero turn parts [] shapes low pages current final =
    let here : a ≡ a + zero = omega arith in
    final-same trace versions (below marked a) (below marked (a + zero)) old parts
    (λ q. ap (λ k. below marked k q) here) final
dealt-final trace versions marked old a zero turn parts (f ∷ fs) shapes low pages current final = absurd (cc pages)
dealt-final trace versions marked old a (suc n) turn parts frames shapes low pages current final =
    let there : a + 1 + n ≡ a + suc n = omega arith in
    final-same trace versions (below marked (a + 1 + n)) (below marked (a + suc n)) old
    (after_dealing turn parts frames) (λ q. ap (λ k. below marked k q) there)
    (one-more trace versions marked old a n turn parts frames (marked a)
    (λ turn parts frames low pages current final. dealt-final trace versions marked old (a + 1) n turn parts frames
    shapes low pages current final)
    refl shapes low pages current final)

all_below : (marked : ℕ → Bool) (pages q : ℕ) (b : Bool) → marked q ≡ b → (b ≡ true → q < pages)
    → below marked (0 + pages) q ≡ marked q
all_below marked pages q true is low = and_from (marked q) (ltb q (0 + pages)) is
    (lt-ltb q (0 + pages) (omega (arith, low refl))) ∙ sym is
all_below marked pages q false is low = ap (λ (b : Bool). b && ltb q (0 + pages)) is ∙ sym is

-- the frames of all marked pages, dealt out to the parts, make a final copy
pub IsFinalCopy-from_dealing : (trace : GuestTrace) (versions : List ℕ) (marked : ℕ → Bool) (old new : List GuestPart)
    (frames : List PageFrame)
    → All IsPart old → All (λ part. part.shape ≡ shape_of_trace trace) old → 0 < length old
    → ((page : ℕ) → IsTrue (marked page) → page < trace.pages)
    → AreCurrentFrames trace versions (filter marked (range_with_len 0 trace.pages)) frames → new
    ≡ after_dealing 0 old frames
    → IsFinalCopy trace versions marked old new
IsFinalCopy-from_dealing trace versions marked old new frames are shapes some real frames_are is =
    subst (λ (parts : List GuestPart). IsFinalCopy trace versions marked old parts) (sym is)
    (final-same trace versions (below marked (0 + trace.pages)) marked old (after_dealing 0 old frames)
    (λ q. all_below marked trace.pages q (marked q) refl (real q))
    (dealt-final trace versions marked old 0 trace.pages 0 old frames shapes some frames_are.pages_are frames_are.each
    (final-none trace versions marked old are)))
