-- What more bytes after some bytes change in what is read at their front: nothing, if it is whole.
use Rattle.std.proofs.Common.{◌≡◌, ℕ, zero, suc, ◌+◌, ◌^◌, ◌<◌, ◌≤◌, Bool, true, false, cond, List, ◌∷◌, ◌++◌, length}
use Rattle.std.proofs.Common.{get_or, take, drop, Option, Some, None, refl, sym, ap, subst, ◌∙◌, append_assoc, inl, inr}
use Rattle.std.proofs.Common.{arith}
use Rattle.std.specs.Int.{w16, w32, w64}
use Rattle.std.specs.List.{flat_map}
use Rattle.std.proofs.lemmas.Bool.{cases_lt, lt-ltb, le-ltb, ltb-false}
use Rattle.std.proofs.lemmas.List.{drop-append-le, take-append-le, get_or_append_left, length-append, length-drop}
use Rattle.migration_model.specs.Numbers.{IsBytes, number_in}
use Rattle.migration_model.specs.Trace.{header_text, write_text, last_tick}
use Rattle.migration_model.specs.TraceReading.{length_in, write_in, rest_after, writes_in, rest_of}
use Rattle.migration_model.proofs.Numbers.{wide16}
use Rattle.migration_model.proofs.Writes.{IsBytes-drop, same_write}
use Rattle.trace_codec.proofs.Steps.{passed}
use Rattle.trace_readers.proofs.Texts.{whole_at}
use Rattle.trace_readers.specs.Pieces.{wants_bytes}
use Rattle.trace_codec.specs.Reading.{HoldsWrites, IsReading}
use Rattle.trace_codec.specs.Refusals.{header_refusal, write_refusal, Begins, Refuses, in_header, in_write, behind}
use Rattle.trace_readers.specs.Texts.{ArePositions}
use Rattle.trace_codec.specs.declared.error.TraceError.{TraceError}
use Rattle.trace_codec.specs.declared.error.TraceError.TheVariants.{ShortHeader, ShortRecord, TickOrder, TickTooLarge}
use Rattle.trace_codec.specs.declared.error.TraceError.TheVariants.{PageOutOfRange, EmptyWrite, OutOfPage, ReadFault}

-- ---- numbers

at : (k : ℕ) (bytes more : List ℕ) → k < length bytes → get_or (bytes ++ more) k 0 ≡ get_or bytes k 0
at k bytes more low = get_or_append_left bytes more 0 k low

number16 : (k : ℕ) (bytes more : List ℕ) → k + 2 ≤ length bytes
    → number_in w16 (drop k (bytes ++ more)) ≡ number_in w16 (drop k bytes)
unfolding number_in
number16 k bytes more long =
    let here = drop-append-le k bytes more (omega arith) in
    let low : 2 ≤ length (drop k bytes) = omega (arith, length-drop k bytes) in
    rw here (omega (arith, at 0 (drop k bytes) more (omega arith), at 1 (drop k bytes) more (omega arith)))

number32 : (k : ℕ) (bytes more : List ℕ) → k + 4 ≤ length bytes
    → number_in w32 (drop k (bytes ++ more)) ≡ number_in w32 (drop k bytes)
unfolding number_in
number32 k bytes more long =
    let here = drop-append-le k bytes more (omega arith) in
    let low : 4 ≤ length (drop k bytes) = omega (arith, length-drop k bytes) in
    let f = drop k bytes in
    rw here (omega (
      arith,
      at 0 f more (omega arith),
      at 1 f more (omega arith),
      at 2 f more (omega arith),
      at 3 f more (omega arith),
    ))

number64 : (bytes more : List ℕ) → 8 ≤ length bytes → number_in w64 (bytes ++ more) ≡ number_in w64 bytes
unfolding number_in
number64 bytes more low =
    omega (
      arith,
      at 0 bytes more (omega arith),
      at 1 bytes more (omega arith),
      at 2 bytes more (omega arith),
      at 3 bytes more (omega arith),
      at 4 bytes more (omega arith),
      at 5 bytes more (omega arith),
      at 6 bytes more (omega arith),
      at 7 bytes more (omega arith),
    )

-- ---- causes

-- what some tests refuse for, for each of them
abbrev Each : (TraceError → Type 0) → Option TraceError → Type 0
Each P cause = (e : TraceError) → cause ≡ Some e → P e

each_or : (P : TraceError → Type 0) (b : Bool) (x : TraceError) (others : Option TraceError) → P x → Each P others
    → Each P (cond b (Some x) others)
each_or P true x others here there e is = let same : x ≡ e = cc in subst P same here
each_or P false x others here there e is = there e is

-- if a test passes
each_else : (P : TraceError → Type 0) (b : Bool) (x : TraceError) (others : Option TraceError) → b ≡ false
    → Each P others → Each P (cond b (Some x) others)
each_else P true x others is there = absurd cc
each_else P false x others is there = there

-- if a test does not pass
each_here : (P : TraceError → Type 0) (b : Bool) (x : TraceError) (others : Option TraceError) → b ≡ true → P x
    → Each P (cond b (Some x) others)
each_here P true x others is here e same = let back : x ≡ e = cc in subst P back here
each_here P false x others is here e same = absurd cc

each_none : (P : TraceError → Type 0) → Each P None
each_none P e is = absurd cc

-- a cause that more bytes leave as it is
pub record IsKnown (e : TraceError) : Type 0 where
  pub some : wants_bytes e ≡ false
  pub fault : e ≡ ReadFault → ⊥

known : (e : TraceError) → wants_bytes e ≡ false → (e ≡ ReadFault → ⊥) → IsKnown e
known e some fault = record { some = some; fault = fault }

-- why a write is refused that is whole
whole_causes : (version shift pages before i : ℕ) (bytes : List ℕ) → 16 + length_in bytes ≤ length bytes
    → Each IsKnown (write_refusal version shift pages before i bytes)
whole_causes version shift pages before i bytes long =
    each_else IsKnown _ _ _ (le-ltb (length bytes) 16 (omega arith))
    (each_else IsKnown _ _ _ (le-ltb (length bytes) (16 + length_in bytes) long)
    (each_or IsKnown _ _ _ (known (TickOrder i) refl (λ same. absurd cc))
    (each_or IsKnown _ _ _ (known (TickTooLarge i) refl (λ same. absurd cc))
    (each_or IsKnown _ _ _ (known (PageOutOfRange i) refl (λ same. absurd cc))
    (each_or IsKnown _ _ _ (known (EmptyWrite i) refl (λ same. absurd cc))
    (each_or IsKnown _ _ _ (known (OutOfPage i) refl (λ same. absurd cc)) (each_none IsKnown)))))))

-- why a write is refused that is not whole
abbrev IsCutOff : ℕ → TraceError → Type 0
IsCutOff i e = e ≡ ShortRecord i

cut_short : (version shift pages before i : ℕ) (bytes : List ℕ) → length bytes < 16 + length_in bytes
    → Each (IsCutOff i) (write_refusal version shift pages before i bytes)
cut_short version shift pages before i bytes cut =
    each_or (IsCutOff i) _ _ _ refl
    (each_here (IsCutOff i) _ _ _ (lt-ltb (length bytes) (16 + length_in bytes) cut) refl)

-- why any write is refused: how long the bytes are then, and that no read failed
pub record IsRecordCause (bytes : List ℕ) (e : TraceError) : Type 0 where
  pub room : wants_bytes e ≡ true → length bytes < 65_551
  pub fault : e ≡ ReadFault → ⊥

pub record_cause : (version shift pages before i : ℕ) (bytes : List ℕ) (e : TraceError) → IsBytes bytes
    → write_refusal version shift pages before i bytes ≡ Some e → IsRecordCause bytes e
record_cause version shift pages before i bytes e fits is =
    let low : length_in bytes < 65_536 = wide16.below (drop 14 bytes) (IsBytes-drop 14 bytes fits) in
    elim (cases_lt (length bytes) (16 + length_in bytes)) [
      | inl cut ↦
          let short : e ≡ ShortRecord i = cut_short version shift pages before i bytes cut e is in
          record { room = λ wants. omega (arith, cut, low); fault = λ same. absurd cc }
      | inr long ↦
          let k = whole_causes version shift pages before i bytes long e is in
          record { room = λ wants. let some = k.some in absurd cc; fault = k.fault }
    ]

-- ---- the causes in longer bytes

header_longer : (bytes more : List ℕ) → 16 ≤ length bytes → length (bytes ++ more) ≤ 2 ^ 28
    → header_refusal (bytes ++ more) ≡ header_refusal bytes
header_longer bytes more long short =
    let size = length-append bytes more in
    rw (
      le-ltb (2 ^ 28) (length (bytes ++ more)) short,
      le-ltb (length (bytes ++ more)) 16 (omega (arith, size)),
      le-ltb (2 ^ 28) (length bytes) (omega (arith, size)),
      le-ltb (length bytes) 16 long,
      at 0 bytes more (omega arith),
      at 1 bytes more (omega arith),
      at 2 bytes more (omega arith),
      at 3 bytes more (omega arith),
      at 4 bytes more (omega arith),
      at 5 bytes more (omega arith),
      at 6 bytes more (omega arith),
      at 7 bytes more (omega arith),
      number32 8 bytes more (omega arith),
      number32 12 bytes more (omega arith),
    ) refl

length_longer : (bytes more : List ℕ) → 16 ≤ length bytes → length_in (bytes ++ more) ≡ length_in bytes
length_longer bytes more long = number16 14 bytes more (omega arith)

write_longer : (version shift pages before i : ℕ) (bytes more : List ℕ) → 16 + length_in bytes ≤ length bytes
    → write_refusal version shift pages before i (bytes ++ more) ≡ write_refusal version shift pages before i bytes
write_longer version shift pages before i bytes more long =
    let size = length-append bytes more in
    let len = length_longer bytes more (omega arith) in
    let whole : 16 + length_in bytes ≤ length (bytes ++ more) = omega (arith, size) in
    rw (
      len,
      le-ltb (length (bytes ++ more)) 16 (omega (arith, size)),
      le-ltb (length (bytes ++ more)) (16 + length_in bytes) whole,
      le-ltb (length bytes) 16 (omega arith),
      le-ltb (length bytes) (16 + length_in bytes) long,
      number64 bytes more (omega arith),
      number32 8 bytes more (omega arith),
      number16 12 bytes more (omega arith),
    ) refl

-- longer bytes have the same beginning
begins_longer : (bytes more : List ℕ) → length (bytes ++ more) ≤ 2 ^ 28 → Begins bytes → Begins (bytes ++ more)
begins_longer bytes more short b =
    let head = header_text b.version b.shift b.pages b.count in
    let body = flat_map write_text b.writes in
    record {
      version = b.version;
      shift = b.shift;
      pages = b.pages;
      count = b.count;
      writes = b.writes;
      rest = b.rest ++ more;
      short = short;
      version_low = b.version_low;
      version_high = b.version_high;
      size = b.size;
      few = b.few;
      fit = b.fit;
      parts = ap (λ (x : List ℕ). x ++ more) b.parts ∙ append_assoc head (body ++ b.rest) more
          ∙ ap (λ (x : List ℕ). head ++ x) (append_assoc body b.rest more);
    }

-- A cause that does not call for more bytes is the first in all longer bytes too.
pub stays : (bytes more : List ℕ) (e : TraceError) → Refuses bytes e → wants_bytes e ≡ false
    → length (bytes ++ more) ≤ 2 ^ 28 → Refuses (bytes ++ more) e
unfolding begins_longer
stays bytes more e (in_header is) some short = elim (cases_lt (length bytes) 16) [
  | inl low ↦
      let none : header_refusal bytes ≡ Some ShortHeader =
      rw (le-ltb (2 ^ 28) (length bytes) (omega (arith, length-append bytes more)), lt-ltb (length bytes) 16 low)
      refl in
      let same : Some ShortHeader ≡ Some e = sym none ∙ is in absurd cc
  | inr long ↦ in_header (header_longer bytes more long short ∙ is)
]
stays bytes more e (in_write b left is) some short = elim (cases_lt (length b.rest) (16 + length_in b.rest)) [
  | inl cut ↦ let short : e ≡ ShortRecord (length b.writes) =
      cut_short b.version b.shift b.pages (last_tick b.writes) (length b.writes) b.rest cut e is in absurd cc
  | inr long ↦
      in_write (begins_longer bytes more short b) left (write_longer b.version b.shift b.pages (last_tick b.writes)
      (length b.writes) b.rest more long ∙ is)
]
stays bytes more e (behind b all left is) some short = behind (begins_longer bytes more short b) all
    (omega (arith, length-append b.rest more)) is

-- a header that is not refused is whole
pub header_long : (bytes : List ℕ) → header_refusal bytes ≡ None → 16 ≤ length bytes
header_long bytes none =
    let short = passed _ _ _ none in
    let long = passed _ _ _ short.1 in
    ltb-false (length bytes) 16 long.0

-- ---- the writes in longer bytes

record SameFront (n : ℕ) (bytes more : List ℕ) : Type 0 where
  pub holds : HoldsWrites n (bytes ++ more)
  pub writes : writes_in n (bytes ++ more) ≡ writes_in n bytes
  pub rest : rest_of n (bytes ++ more) ≡ rest_of n bytes ++ more

rest_longer : (bytes more : List ℕ) → 16 + length_in bytes ≤ length bytes
    → rest_after (bytes ++ more) ≡ rest_after bytes ++ more
unfolding rest_after
rest_longer bytes more long =
    ap (λ n. drop (16 + n) (bytes ++ more)) (length_longer bytes more (omega arith))
    ∙ drop-append-le (16 + length_in bytes) bytes more long

first_longer : (bytes more : List ℕ) → 16 + length_in bytes ≤ length bytes → write_in (bytes ++ more) ≡ write_in bytes
unfolding write_in
first_longer bytes more long =
    same_write _ _ (number64 bytes more (omega arith)) (number32 8 bytes more (omega arith))
    (number16 12 bytes more (omega arith))
    (ap (λ n. take n (drop 16 (bytes ++ more))) (length_longer bytes more (omega arith))
    ∙ ap (take (length_in bytes)) (drop-append-le 16 bytes more (omega arith))
    ∙ take-append-le (length_in bytes) (drop 16 bytes) more (omega (arith, length-drop 16 bytes)))

SameFront-from : (n : ℕ) (bytes more : List ℕ) → HoldsWrites n bytes → SameFront n bytes more
SameFront-from zero bytes more holds = record { holds = tt; writes = refl; rest = refl }
SameFront-from (suc n) bytes more holds =
    let behind = rest_longer bytes more holds.0 in
    let next = SameFront-from n (rest_after bytes) more holds.1 in
    let len = length_longer bytes more (omega (arith, holds.0)) in
    record {
      holds = (omega (arith, holds.0, len, length-append bytes more), subst (HoldsWrites n) (sym behind) next.holds);
      writes = λ i. first_longer bytes more holds.0 i ∷ (ap (writes_in n) behind ∙ next.writes) i;
      rest = ap (rest_of n) behind ∙ next.rest;
    }

-- what was read from some bytes is read from longer ones
pub reading_longer : (bytes more : List ℕ) (version shift pages count n last : ℕ) (rest : List ℕ)
    → IsReading bytes version shift pages count n last rest
    → 16 ≤ length bytes → IsBytes (bytes ++ more) → length (bytes ++ more) ≤ 2 ^ 28
    → IsReading (bytes ++ more) version shift pages count n last (rest ++ more)
reading_longer bytes more version shift pages count n last rest on long fits short =
    let body : drop 16 (bytes ++ more) ≡ drop 16 bytes ++ more = drop-append-le 16 bytes more long in
    let same = SameFront-from n (drop 16 bytes) more on.reads.holds in
    record {
      cut = record {
        fits = fits;
        header = header_longer bytes more long short ∙ on.cut.header;
        version_is = on.cut.version_is ∙ sym (at 4 bytes more (omega arith));
        shift_is = on.cut.shift_is ∙ sym (at 5 bytes more (omega arith));
        pages_is = on.cut.pages_is ∙ sym (number32 8 bytes more (omega arith));
        count_is = on.cut.count_is ∙ sym (number32 12 bytes more (omega arith));
        body_is = refl;
      };
      reads = rw body (record {
        holds = same.holds;
        fit = rw same.writes on.reads.fit;
        last_is = rw same.writes on.reads.last_is;
        below = rw same.writes on.reads.below;
        rest_is = ap (λ (x : List ℕ). x ++ more) on.reads.rest_is ∙ sym same.rest;
      });
      few = on.few;
    }

pub writes_longer : (bytes more : List ℕ) (n : ℕ) → 16 ≤ length bytes → HoldsWrites n (drop 16 bytes)
    → writes_in n (drop 16 (bytes ++ more)) ≡ writes_in n (drop 16 bytes)
writes_longer bytes more n long holds =
    ap (writes_in n) (drop-append-le 16 bytes more long) ∙ (SameFront-from n (drop 16 bytes) more holds).writes

holds_fewer : (count n : ℕ) (bytes : List ℕ) → HoldsWrites count bytes → n ≤ count → HoldsWrites n bytes
holds_fewer count zero bytes holds few = tt
holds_fewer zero (suc n) bytes holds few = absurd (omega arith)
holds_fewer (suc count) (suc n) bytes holds few = (
  holds.0,
  holds_fewer count n (rest_after bytes) holds.1
      (omega arith),
)

-- and longer bytes have the same offsets
pub positions_longer : (bytes more : List ℕ) (count : ℕ) (positions : List ℕ) → ArePositions bytes count positions
    → 16 ≤ length bytes
    → HoldsWrites count (drop 16 bytes) → ArePositions (bytes ++ more) count positions
positions_longer bytes more count positions are long holds =
    record {
      count_is = are.count_is;
      stands = λ n d low.
          let position = get_or positions n d in
          let here = are.stands n d low in
          let whole = whole_at count n (drop 16 bytes) holds low in
          let inside : position ≤ length bytes = omega (arith, whole, ap length here, length-drop position bytes) in
          drop-append-le position bytes more inside
          ∙ ap (λ (x : List ℕ). x ++ more) here
          ∙ sym (SameFront-from n (drop 16 bytes) more (holds_fewer count n (drop 16 bytes) holds (omega arith))).rest
          ∙ ap (rest_of n) (sym (drop-append-le 16 bytes more long));
    }

-- bytes that end within their header
pub short_header : (bytes : List ℕ) → length bytes < 16 → Refuses bytes ShortHeader
short_header bytes low =
    in_header (rw (le-ltb (2 ^ 28) (length bytes) (omega arith), lt-ltb (length bytes) 16 low) refl)
