-- What pieces are after one more read.
use Rattle.std.proofs.Common.{◌≡◌, ℕ, ◌+◌, ◌^◌, ◌<◌, ◌≤◌, Bool, false, ltb, List, [], ◌++◌, length, drop, take, Option}
use Rattle.std.proofs.Common.{Some, refl, ap, subst, ◌∙◌, inl, inr, arith}
use Rattle.std.specs.Io.KnownBytes.{Consumes, IsAtEnd}
use Rattle.std.proofs.lemmas.Bool.{cases_lt, ltb-true, ltb-false}
use Rattle.std.proofs.lemmas.List.{append-nil, drop-append-le, get_or_append_left, get_or-append_right, length-append}
use Rattle.std.proofs.lemmas.List.{length-drop, length-take, nil_from_length}
use Rattle.std.proofs.Math.Seq.{take-add}
use Rattle.migration_model.proofs.Writes.{IsBytes-drop}
use Rattle.migration_model.proofs.Numbers.{IsBytes-take}
use Rattle.migration_model.specs.Numbers.{IsBytes}
use Rattle.trace_codec.specs.Refusals.{Refuses}
use Rattle.trace_codec.specs.Source.{ReadsFrom, SourceRefuses}
use Rattle.trace_codec.specs.declared.error.TraceError.{TraceError}
use Rattle.trace_codec.proofs.Sources.{Consumes-nil, Consumes-then, ended_refused}
use Rattle.trace_readers.specs.Pieces.{CameAs, HasRead, IsUntaken, PiecesState, pieces_state, wants_bytes}
use Rattle.trace_readers.proofs.Longer.{stays}

pub IsBytes-append : (xs ys : List ℕ) → IsBytes xs → IsBytes ys → IsBytes (xs ++ ys)
IsBytes-append xs ys front back k = elim (cases_lt k (length xs)) [
  | inl low ↦ rw (get_or_append_left xs ys 0 k low) (front k)
  | inr high ↦ rw (get_or-append_right xs ys (length xs) k 0 refl high) (back _)
]

-- what a read put after the first bytes of a buffer, of which some are taken
pub read_behind_is : (old new : Option (List ℕ)) (start filled n count : ℕ) (room : List ℕ) (before : PiecesState)
    → IsBytes room → ReadsFrom old new (Some n) (drop filled room) → start ≤ filled
    → filled < length room → length room ≤ filled + 262_144 → drop start (take filled room) ≡ before.rest
    → count ≡ before.count
    → HasRead old new before (pieces_state (drop start (take (filled + n) room)) (count + n)) (ltb 0 n)
read_behind_is old new start filled n count room before fits read order more few rest_is count_is =
    let behind = drop filled room in
    let size : length (take n behind) ≡ n = omega (arith, read.0, length-take n behind) in
    let some : 0 < length behind = omega (arith, length-drop filled room) in
    record {
      bytes = take n behind;
      fits = IsBytes-take n behind (IsBytes-drop filled room fits);
      few = omega (arith, size, read.0, length-drop filled room);
      came = read.1;
      rest_is = ap (drop start) (take-add filled n room) ∙ drop-append-le start (take filled room) (take n behind)
          (omega (arith, length-take filled room)) ∙ ap (λ (xs : List ℕ). xs ++ take n behind) rest_is;
      count_is = omega (arith, size, count_is);
      some = λ more. omega (arith, size, ltb-true 0 n more);
      ended = λ none. let zero : n ≡ 0 = omega (arith, ltb-false 0 n none) in (
        nil_from_length _
            (omega (arith, size, zero)),
        read.2 zero some,
      );
    }

pub CameAs-more : (old mid new : Option (List ℕ)) (text : List ℕ) (before after : PiecesState) (more : Bool)
    → CameAs old mid before.count text
    → (read : HasRead mid new before after more) → CameAs old new after.count (text ++ read.bytes)
CameAs-more old mid new text before after more came read =
    record {
      came = Consumes-then old mid new text read.bytes came.came read.came;
      count_is = omega (arith, came.count_is, read.count_is, length-append text read.bytes);
    }

pub untaken_none : (now : Option (List ℕ)) (pieces : PiecesState) → pieces.rest ≡ [] → pieces.count ≡ 0
    → IsUntaken now now pieces
untaken_none now pieces rest count =
    record {
      came = record { came = rw rest (Consumes-nil now); count_is = omega (arith, count, ap length rest) };
      fits = rw rest (λ k. omega arith);
    }

-- the pieces at the end of the source
pub CameAs-end : (old mid new : Option (List ℕ)) (text : List ℕ) (before after : PiecesState) (more : Bool)
    → more ≡ false → CameAs old mid before.count text
    → HasRead mid new before after more → Consumes old new text × IsAtEnd new
CameAs-end old mid new text before after more none came read =
    let last = read.ended none in
    let whole : text ++ read.bytes ≡ text = ap (λ (x : List ℕ). text ++ x) last.0 ∙ append-nil text in
    (subst (Consumes old new) whole (CameAs-more old mid new text before after more came read).came, last.1)

-- a cause in what came, after the rest came too
pub early_refused : (old new end : Option (List ℕ)) (text more : List ℕ) (e : TraceError) → Consumes old new text
    → Consumes new end more → IsAtEnd end
    → length text + length more ≤ 2 ^ 28 → wants_bytes e ≡ false → Refuses text e → SourceRefuses old e
early_refused old new end text more e came read_on ended short some refused =
    ended_refused old end (text ++ more) e (Consumes-then old new end text more came read_on) ended
    (stays text more e refused some (omega (arith, length-append text more)))
