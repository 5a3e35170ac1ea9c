-- Bytes that a source gives one after another.
use Rattle.std.proofs.Common.{◌≡◌, ℕ, ◌+◌, ◌^◌, ◌<◌, ◌≤◌, inl, inr, subst, List, [], ◌++◌, length, take, drop}
use Rattle.std.proofs.Common.{Option, Some, None, Result, Ok, Err, refl, sym, ap, ◌∙◌, append_assoc, arith}
use Rattle.std.specs.Io.KnownBytes.{Consumes, IsAtEnd}
use Rattle.std.proofs.Math.Seq.{take-add}
use Rattle.std.proofs.lemmas.List.{append-nil, drop-drop, drop_all, length-append, length-drop, length-take}
use Rattle.std.proofs.lemmas.List.{take-append-drop, take_at}
use Rattle.std.proofs.lemmas.Bool.{cases_lt, lt-ltb}
use Rattle.std.specs.Prelude.{IfErr, IfSome}
use Rattle.migration_model.specs.Trace.{GuestTrace, Spells}
use Rattle.trace_codec.specs.Source.{ReadsFrom, ReadsWhole, SourceSpells, SourceRefuses}
use Rattle.trace_codec.specs.Refusals.{header_refusal, Refuses, RefusesUnlessMemory, in_header, in_write, behind}
use Rattle.trace_codec.specs.declared.error.TraceError.{TraceError}
use Rattle.trace_codec.specs.declared.error.TraceError.TheVariants.{TooLong}

abbrev given : TraceError → Option TraceError
given e = Some e

-- consuming no bytes leaves what is known of the source
pub Consumes-nil : (a : Option (List ℕ)) → Consumes a a []
Consumes-nil None = tt
Consumes-nil (Some a) = refl

pub Consumes-then : (a b c : Option (List ℕ)) (xs ys : List ℕ) → Consumes a b xs → Consumes b c ys
    → Consumes a c (xs ++ ys)
Consumes-then None b c xs ys p q = tt
Consumes-then (Some a) None c xs ys p q = absurd p
Consumes-then (Some a) (Some b) None xs ys p q = absurd q
Consumes-then (Some a) (Some b) (Some c) xs ys p q = p ∙ ap (λ (x : List ℕ). xs ++ x) q ∙ sym (append_assoc xs ys c)

-- what one more read after the first bytes makes of the front of a buffer
pub Consumes-front : (a b c : Option (List ℕ)) (filled n : ℕ) (old room new : List ℕ) → Consumes a b (take filled old)
    → take filled room ≡ take filled old
    → take filled new ≡ take filled room → Consumes b c (take n (drop filled new))
    → Consumes a c (take (filled + n) new)
Consumes-front a b c filled n old room new p roomy kept q =
    rw (take-add filled n new, kept, roomy) (Consumes-then a b c (take filled old) (take n (drop filled new)) p q)

-- what a source in memory gives for a read
pub reads_from_memory : (bytes buffer front : List ℕ) (taken count : ℕ) → count ≤ length buffer
    → taken + count ≤ length bytes
    → front ≡ take count (drop taken bytes) → (count ≡ 0 → 0 < length buffer → length bytes ≤ taken)
    → ReadsFrom (Some (drop taken bytes)) (Some (drop (taken + count) bytes)) (Some count) (front ++ drop count buffer)
reads_from_memory bytes buffer front taken count fits left is ended =
    let len : length front ≡ count = omega (
      arith,
      ap length is,
      length-take count (drop taken bytes),
      length-drop taken bytes,
    ) in
    let whole : length (front ++ drop count buffer) ≡ length buffer =
    omega (arith, length-append front (drop count buffer), length-drop count buffer) in (
      omega arith,
      sym (ap (λ (x : List ℕ). take count (front ++ drop count buffer) ++ x) (sym (drop-drop count taken bytes))
          ∙ ap (λ (x : List ℕ). x ++ drop count (drop taken bytes)) (take_at front (drop count buffer) count len ∙ is)
          ∙ take-append-drop count (drop taken bytes)),
      λ none room. drop_all (taken + count) bytes (omega (arith, ended none (omega arith))),
    )

-- ---- what was read, and what the source held

-- If no more was read than a trace may have, it was all.
whole_is : (xs ys v : List ℕ) → xs ≡ v ++ ys → (length v ≤ 2 ^ 28 → ys ≡ []) → length v ≤ 2 ^ 28 → v ≡ xs
whole_is xs ys v cut ended short = sym (cut ∙ ap (λ (y : List ℕ). v ++ y) (ended short) ∙ append-nil v)

pub spelled_whole : (old new : Option (List ℕ)) (v : List ℕ) (trace : GuestTrace) → ReadsWhole old new v
    → Spells v trace → SourceSpells old trace
spelled_whole None new v trace whole spells = tt
spelled_whole (Some xs) None v trace whole spells = absurd whole.0
spelled_whole (Some xs) (Some ys) v trace whole spells =
    let short : length v ≤ 2 ^ 28 = rw spells.text spells.is_trace.short in
    subst (λ (x : List ℕ). Spells x trace) (whole_is xs ys v whole.0 whole.1 short) spells

-- bytes that are longer than a trace may be are refused only for that
header_too_long : (bytes : List ℕ) → 2 ^ 28 < length bytes → header_refusal bytes ≡ Some TooLong
header_too_long bytes long = rw (lt-ltb (2 ^ 28) (length bytes) long) refl

some_is : (e f : TraceError) → given e ≡ given f → e ≡ f
some_is e f is = cc

too_long : (bytes : List ℕ) (e : TraceError) → 2 ^ 28 < length bytes → Refuses bytes e → e ≡ TooLong
too_long bytes e long (in_header is) = some_is e TooLong (sym is ∙ header_too_long bytes long)
too_long bytes e long (in_write b more is) = absurd (omega (arith, b.short))
too_long bytes e long (behind b all more is) = absurd (omega (arith, b.short))

pub refused_whole : (old new : Option (List ℕ)) (v : List ℕ) (e : TraceError) → ReadsWhole old new v → Refuses v e
    → IfSome old (λ bytes. Refuses bytes e)
refused_whole None new v e whole refused = tt
refused_whole (Some xs) None v e whole refused = absurd whole.0
refused_whole (Some xs) (Some ys) v e whole refused = elim (cases_lt (2 ^ 28) (length v)) [
  | inl long ↦
      let longer : 2 ^ 28 < length xs = omega (arith, ap length whole.0, length-append v ys) in
      in_header (header_too_long xs longer ∙ ap (λ f. Some f) (sym (too_long v e long refused)))
  | inr short ↦ subst (λ (x : List ℕ). Refuses x e) (whole_is xs ys v whole.0 whole.1 short) refused
]

pub only_whole : (old new : Option (List ℕ)) (xs v : List ℕ) (trace : GuestTrace) → old ≡ Some xs → Spells xs trace
    → ReadsWhole old new v → Spells v trace
only_whole None new xs v trace is spells whole = absurd cc
only_whole (Some old) None xs v trace is spells whole = absurd whole.0
only_whole (Some old) (Some ys) xs v trace is spells whole =
    let same : old ≡ xs = cc in
    let short : length xs ≤ 2 ^ 28 = rw spells.text spells.is_trace.short in
    let shorter : length v ≤ 2 ^ 28 = omega (arith, ap length same, ap length whole.0, length-append v ys) in
    subst (λ (x : List ℕ). Spells x trace) (sym (whole_is old ys v whole.0 whole.1 shorter ∙ same)) spells

-- ---- these facts of the bytes that came

-- the cause of all that came is that of the source
pub ended_refused : (old new : Option (List ℕ)) (text : List ℕ) (e : TraceError) → Consumes old new text → IsAtEnd new
    → Refuses text e → SourceRefuses old e
ended_refused old new text e came ended refused = inr (refused_whole old new text e (came, λ short. ended) refused)

-- more came than a trace may have
pub long_refused : (old new : Option (List ℕ)) (text : List ℕ) → Consumes old new text → 2 ^ 28 < length text
    → SourceRefuses old TooLong
long_refused old new text came long =
    inr (refused_whole old new text TooLong (came, λ short. absurd (omega arith))
    (in_header (header_too_long text long)))

-- ---- these facts of what a call returned

pub refused_source : {T : Type 0} (r : Result T TraceError) (old new : Option (List ℕ)) (v : List ℕ)
    → ReadsWhole old new v
    → IfErr r (RefusesUnlessMemory v) → IfErr r (SourceRefuses old)
refused_source (Ok x) old new v whole refused = tt
refused_source (Err e) old new v whole (inl memory) = inl (inl memory)
refused_source (Err e) old new v whole (inr refused) = inr (refused_whole old new v e whole refused)
