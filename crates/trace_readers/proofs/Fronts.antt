-- How the tested records of a trace's bytes continue, and end.
use Rattle.std.proofs.Common.{◌≡◌, ℕ, ◌+◌, ◌-◌, ◌^◌, ◌<◌, ◌≤◌, List, [], ◌∷◌, ◌++◌, length, drop, take, None, Some}
use Rattle.std.proofs.Common.{Result, Ok, Err, sym, ap, subst, ◌∙◌, arith}
use Rattle.std.specs.Prelude.{IfOk, IfSome}
use Rattle.std.specs.Result.{result_ok}
use Rattle.std.proofs.lemmas.List.{drop-append-le, length-append, length-drop, take-append-drop, take_all}
use Rattle.migration_model.specs.Numbers.{IsBytes}
use Rattle.migration_model.specs.Trace.{Spells}
use Rattle.migration_model.specs.TraceReading.{length_in, tick_in, rest_after}
use Rattle.trace_codec.specs.Refusals.{Refuses, write_refusal}
use Rattle.trace_readers.specs.Texts.{IsHeldText, IsTested, IsTestedBefore, held_trace}
use Rattle.trace_codec.specs.declared.error.TraceError.{TraceError}
use Rattle.trace_codec.specs.declared.error.TraceError.TheVariants.{TrailingBytes}
use Rattle.trace_readers.specs.declared.front_records.FrontRecords.{FrontRecords}
use Rattle.guest_log.specs.declared.shape.Header.{Header}
use Rattle.trace_readers.proofs.Visits.{behind_is, behind_twice}
use Rattle.trace_readers.proofs.Longer.{header_long, positions_longer, reading_longer}
use Rattle.trace_codec.proofs.Readers.{end_refused, end_spelled, read_refused, reads_on}
use Rattle.trace_codec.proofs.Steps.{IsRight-from_none}
use Rattle.trace_readers.proofs.Texts.{positions_more}

-- the bytes after the next record are the last of all the bytes
behind_next : (text rest behind : List ℕ) (end : ℕ) → end ≤ length text → rest ≡ drop end text
    → 16 + length_in rest ≤ length rest
    → behind ≡ rest_after rest → (length behind ≤ length text) × (behind ≡ drop (length text - length behind) text)
behind_next text rest behind end within here whole is =
    let size : length rest ≡ length text - end = ap length here ∙ length-drop end text in
    let next = behind_is rest behind whole is in
    let front : end ≡ length text - length rest = omega (arith, size, within) in (
      omega (arith, next.0, size),
      behind_twice text rest behind (omega (arith, size))
          (here ∙ ap (λ k. drop k text) front) next.0 next.1,
    )

pub behind_within : (version shift pages before i : ℕ) (text rest behind : List ℕ) (end : ℕ) → end ≤ length text
    → rest ≡ drop end text → behind ≡ rest_after rest
    → write_refusal version shift pages before i rest ≡ None → length behind ≤ length text
behind_within version shift pages before i text rest behind end within here is none =
    (behind_next text rest behind end within here (IsRight-from_none version shift pages before i rest none).whole is).0

-- after one more record
pub tested_more : (text : List ℕ) (old new : FrontRecords) (index : ℕ) (rest behind : List ℕ)
    → index ≡ length old.positions.items → index < old.header.shape.writes
    → rest ≡ drop old.end text → behind ≡ rest_after rest → new.header ≡ old.header
    → new.positions.items ≡ old.positions.items ++ old.end ∷ []
    → new.last ≡ tick_in rest → new.end ≡ length text - length behind
    → write_refusal old.header.version old.header.shape.shift old.header.shape.pages old.last index rest ≡ None
    → IsTested text old → IsTested text new
tested_more text old new index rest behind count low here is header positions last end none on =
    let n = length old.positions.items in
    let accepted : write_refusal old.header.version old.header.shape.shift old.header.shape.pages old.last n
    (drop old.end text) ≡ None = rw (count, here) at none in
    let right = IsRight-from_none _ _ _ _ index rest none in
    let next = behind_next text rest behind old.end on.within here right.whole is in
    let reads = reads_on text old.header.version old.header.shape.shift old.header.shape.pages old.header.shape.writes n
    old.last (drop old.end text) on.reads (omega (arith, count, low)) accepted in
    let len : length new.positions.items ≡ n + 1 = omega (
      arith,
      ap length positions,
      length-append old.positions.items (old.end ∷ []),
    ) in
    let version = ap (λ (h : Header). h.version) header in
    let shift = ap (λ (h : Header). h.shape.shift) header in
    let pages = ap (λ (h : Header). h.shape.pages) header in
    let writes = ap (λ (h : Header). h.shape.writes) header in
    let left : drop new.end text ≡ rest_after rest = ap (λ k. drop k text) end ∙ sym next.1 ∙ is in
    record {
      reads = rw (version, shift, pages, writes, len, last, left, here) reads;
      found = rw (len, positions) (positions_more text n old.positions.items old.end on.found on.reads.reads.rest_is);
      within = omega (arith, end);
    }

-- if the next one is refused
pub tested_refused : (text : List ℕ) (front : FrontRecords) (index : ℕ) (rest : List ℕ) (e : TraceError)
    → index ≡ length front.positions.items
    → index < front.header.shape.writes → rest ≡ drop front.end text
    → write_refusal front.header.version front.header.shape.shift front.header.shape.pages front.last index rest
    ≡ Some e → IsTested text front → Refuses text e
tested_refused text front index rest e count low here is on =
    read_refused text _ _ _ _ _ _ (drop front.end text) e on.reads (omega (arith, count, low)) (rw (count, here) at is)

-- records that were tested are right in longer bytes too
pub tested_longer : (text : List ℕ) (front : FrontRecords) → IsTestedBefore text front → IsBytes text
    → length text ≤ 2 ^ 28 → IsTested text front
tested_longer text front before fits short =
    let on = before.1 in
    let old = take before.0 text in
    let more = drop before.0 text in
    let whole : old ++ more ≡ text = take-append-drop before.0 text in
    let long = header_long old on.reads.cut.header in
    let rest : drop front.end (old ++ more) ≡ drop front.end old ++ more =
    drop-append-le front.end old more on.within in
    let longer : IsTested (old ++ more) front =
    record {
      reads = rw rest (reading_longer old more _ _ _ _ _ _ (drop front.end old) on.reads long (rw whole fits)
          (rw whole short));
      found = positions_longer old more _ _ on.found long on.reads.reads.holds;
      within = omega (arith, on.within, length-append old more);
    } in
    subst (λ (x : List ℕ). IsTested x front) whole longer

-- the records that were tested before, or none yet
tested_now : (text : List ℕ) (front : FrontRecords) → IsTested text front → IsTestedBefore text front
tested_now text front on = (length text, rw (take_all (length text) text (omega arith)) on)

pub begun_now : (text : List ℕ) (made : Result FrontRecords TraceError) → IfOk made (IsTested text)
    → IfSome (result_ok made) (IsTestedBefore text)
begun_now text (Ok front) on = tested_now text front on
begun_now text (Err e) on = tt

-- ---- if all records are tested

pub tested_trailing : (text : List ℕ) (front : FrontRecords) → length front.positions.items ≡ front.header.shape.writes
    → front.end < length text
    → IsTested text front → Refuses text TrailingBytes
tested_trailing text front all more on =
    end_refused text _ _ _ _ _ _ (drop front.end text) on.reads all (omega (arith, more, length-drop front.end text))

pub tested_spelled : (text : List ℕ) (front : FrontRecords) → length front.positions.items ≡ front.header.shape.writes
    → length text ≤ front.end
    → IsTested text front → Spells text (held_trace front.header.version front.header.shape.shift
    front.header.shape.pages front.header.shape.writes text)
tested_spelled text front all end on =
    rw all at (end_spelled text _ _ _ _ _ _ (drop front.end text) on.reads all
    (omega (arith, end, length-drop front.end text)))

pub tested_held : (text : List ℕ) (front : FrontRecords) → length front.positions.items ≡ front.header.shape.writes
    → length text ≤ front.end
    → IsTested text front → IsHeldText front.header.version front.header.shape.shift front.header.shape.pages
    front.header.shape.writes text front.positions.items
tested_held text front all end on =
    record {
      is_view = record {
        is_trace = (tested_spelled text front all end on).is_trace;
        holds =
            rw all at on.reads.reads.holds;
      };
      are_positions = rw all at on.found;
    }
