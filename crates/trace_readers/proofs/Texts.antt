-- The writes that are read at the offsets of their records.
use Rattle.std.proofs.Common.{◌≡◌, ℕ, zero, suc, ◌+◌, ◌<◌, ◌≤◌, List, [], ◌∷◌, ◌++◌, length, get_or, drop, refl, sym}
use Rattle.std.proofs.Common.{ap, ◌∙◌, inl, inr, arith}
use Rattle.std.specs.List.Sorted.{IsNonDecreasingBy}
use Rattle.std.proofs.lemmas.Bool.{cases_lt}
use Rattle.std.proofs.lemmas.List.{get_or_append_left, get_or_default, get_or-map, get_or_push, length-drop, length-map}
use Rattle.std.proofs.lemmas.List.{length_push}
use Rattle.migration_model.specs.Touches.{GuestTouch, no_touch, touch_of, touches_of}
use Rattle.migration_model.specs.Trace.{GuestTrace, GuestWrite}
use Rattle.migration_model.specs.TraceReading.{length_in, write_in, rest_after, writes_in, rest_of}
use Rattle.migration_model.proofs.Writes.{length-writes_in}
use Rattle.trace_codec.specs.Reading.{HoldsWrites}
use Rattle.trace_readers.specs.Texts.{ArePositions, IsHeldText, held_trace}
use Rattle.guest_log.specs.Writes.{no_write}

-- one of the writes follows those before it
pub write_at : (count n : ℕ) (bytes : List ℕ) (d : GuestWrite) → n < count
    → get_or (writes_in count bytes) n d ≡ write_in (rest_of n bytes)
write_at zero n bytes d low = absurd (omega arith)
write_at (suc count) zero bytes d low = refl
write_at (suc count) (suc n) bytes d low = write_at count n (rest_after bytes) d (omega arith)

-- and is whole
pub whole_at : (count n : ℕ) (bytes : List ℕ) → HoldsWrites count bytes → n < count
    → 16 + length_in (rest_of n bytes) ≤ length (rest_of n bytes)
whole_at zero n bytes holds low = absurd (omega arith)
whole_at (suc count) zero bytes holds low = holds.0
whole_at (suc count) (suc n) bytes holds low = whole_at count n (rest_after bytes) holds.1 (omega arith)

-- ---- offsets

pub positions_more : (bytes : List ℕ) (count : ℕ) (positions : List ℕ) (position : ℕ)
    → ArePositions bytes count positions
    → drop position bytes ≡ rest_of count (drop 16 bytes) → ArePositions bytes (count + 1) (positions ++ position ∷ [])
positions_more bytes count positions position before here =
    record {
      count_is = omega (arith, length_push positions position, before.count_is);
      stands = λ n d low. elim (cases_lt n count) [
        | inl first ↦ rw (get_or_append_left positions (position ∷ []) d n (omega (arith, before.count_is)))
            (before.stands n d first)
        | inr past ↦
            let last : n ≡ count = omega arith in
            let end : length positions ≡ n = omega (arith, before.count_is) in
            rw (get_or_push positions position d n end, last) here
      ];
    }

-- ---- the writes of a trace that is held as its bytes

pub count_of : (trace : GuestTrace) (version shift pages count : ℕ) (bytes : List ℕ)
    → held_trace version shift pages count bytes ≡ trace → length trace.writes ≡ count
count_of trace version shift pages count bytes is = sym (ap (λ (t : GuestTrace). length t.writes) is)
    ∙ length-writes_in count (drop 16 bytes)

-- an index of a write of the trace is an index of a record of the bytes
pub within_count : (trace : GuestTrace) (version shift pages count n : ℕ) (bytes : List ℕ)
    → held_trace version shift pages count bytes ≡ trace → n < length trace.writes → n < count
within_count trace version shift pages count n bytes is low =
    omega (arith, count_of trace version shift pages count bytes is)

-- the record at an offset is whole, and the offset is within the bytes
pub held_whole : (version shift pages count n d : ℕ) (bytes positions : List ℕ)
    → IsHeldText version shift pages count bytes positions → n < count
    → 16 + length_in (drop (get_or positions n d) bytes) ≤ length (drop (get_or positions n d) bytes)
held_whole version shift pages count n d bytes positions held low =
    rw (held.are_positions.stands n d low) (whole_at count n (drop 16 bytes) held.is_view.holds low)

pub held_within : (version shift pages count n d : ℕ) (bytes positions : List ℕ)
    → IsHeldText version shift pages count bytes positions → n < count
    → get_or positions n d ≤ length bytes
held_within version shift pages count n d bytes positions held low =
    let position = get_or positions n d in
    let whole : 16 + length_in (drop position bytes) ≤ length (drop position bytes) =
    held_whole version shift pages count n d bytes positions held low in
    omega (arith, whole, length-drop position bytes)

pub held_write : (trace : GuestTrace) (version shift pages count n d : ℕ) (bytes positions : List ℕ)
    → IsHeldText version shift pages count bytes positions
    → held_trace version shift pages count bytes ≡ trace → n < count
    → write_in (drop (get_or positions n d) bytes) ≡ get_or trace.writes n no_write
held_write trace version shift pages count n d bytes positions held is low =
    ap write_in (held.are_positions.stands n d low)
    ∙ sym (write_at count n (drop 16 bytes) no_write low)
    ∙ ap (λ (t : GuestTrace). get_or t.writes n no_write) is

-- a write of the trace is the touch with its index, without its bytes
pub touch_read : (trace : GuestTrace) (n : ℕ) (write : GuestWrite) → write ≡ get_or trace.writes n no_write
    → n < length (touches_of trace)
    → touch_of write ≡ get_or (touches_of trace) n no_touch
touch_read trace n write is low =
    let inside : n < length trace.writes = omega (arith, length-map trace.writes touch_of) in
    ap touch_of is ∙ sym (get_or-map touch_of trace.writes n no_write no_touch inside)

-- ---- touches in order, of which one was read

-- none before one that is before a tick is at that tick or after it
pub earlier_to : (touches : List GuestTouch) (tick middle here : ℕ) → IsNonDecreasingBy (λ t. t.tick) touches
    → middle < length touches
    → here ≡ (get_or touches middle no_touch).tick → here < tick → (k : ℕ) (d : GuestTouch) → k < middle + 1
    → (get_or touches k d).tick < tick
earlier_to touches tick middle here order low is before k d inside =
    let same = ap (λ (t : GuestTouch). t.tick) (get_or_default touches middle d no_touch low) in
    let rises = order k middle d (omega arith) low in
    omega (arith, rises, same, is)

-- none after one that is not before a tick is before it
pub later_from : (touches : List GuestTouch) (tick middle here : ℕ) → IsNonDecreasingBy (λ t. t.tick) touches
    → middle < length touches
    → here ≡ (get_or touches middle no_touch).tick → tick ≤ here
    → (k : ℕ) (d : GuestTouch) → middle ≤ k → k < length touches → tick ≤ (get_or touches k d).tick
later_from touches tick middle here order low is after k d behind inside =
    let same = ap (λ (t : GuestTouch). t.tick) (get_or_default touches middle d no_touch low) in
    let rises = order middle k d behind inside in
    omega (arith, rises, same, is)
