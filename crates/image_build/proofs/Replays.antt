-- Memory on the way through the writes.
use Rattle.std.proofs.Common.{◌≡◌, ℕ, suc, ◌+◌, ◌*◌, ◌^◌, ◌<◌, ◌≤◌, true, false, List, [], ◌∷◌, ◌++◌, length}
use Rattle.std.proofs.Common.{get_or, drop, ltb, Result, Ok, Err, refl, sym, ap, subst, ◌∙◌, arith}
use Rattle.std.specs.List.{filter, fold}
use Rattle.std.specs.List.Sorted.{IsPartitionPoint}
use Rattle.std.proofs.lemmas.Bool.{cond-true}
use Rattle.std.proofs.lemmas.List.{drop_more, get_or-drop, get_or-map, length-drop, length-map}
use Rattle.std.proofs.Math.Nat.{mul-le-mul_right}
use Rattle.std.proofs.lemmas.List.Sums.{fold-append}
use Rattle.std.specs.Prelude.{IfOk, IfErr, MatchResult}
use Rattle.migration_model.specs.Trace.{GuestWrite, GuestTrace, IsGuestWrite, IsTrace, Spells}
use Rattle.migration_model.proofs.Pages.{length-put, puts_within}
use Rattle.migration_model.proofs.Traces.{one_trace_lem}
use Rattle.migration_model.specs.Touches.{GuestTouch, no_touch, touch_of, touches_of}
use Rattle.guest_log.specs.Writes.{no_write}
use Rattle.page_versions.proofs.Places.{filter_none}
use Rattle.trace_codec.proofs.Never.{never_refused}
use Rattle.image_build.specs.Replay.{RefusesReplay}
use Rattle.image_build.specs.declared.error.ReplayError.{ReplayError}
use Rattle.image_build.specs.declared.error.ReplayError.TheVariants as errors
use Rattle.migration_model.specs.Memory.{GuestMemory, bytes_put, memory_with, zeros, put, apply, replay, image_of}

-- Memory so far, which the remaining writes turn into the whole.
pub record Becomes (shift pages : ℕ) (memory : List ℕ) (left : List GuestWrite) (whole : GuestMemory) : Type 0 where
  pub len : length memory ≡ pages * 2 ^ shift
  pub rest : fold apply (memory_with shift pages memory) left ≡ whole

-- a write of the guest is within its memory
pub write_fits : (version shift pages : ℕ) (memory : List ℕ) (write : GuestWrite) → length memory ≡ pages * 2 ^ shift
    → IsGuestWrite version shift pages write
    → write.page * 2 ^ shift + write.offset + length (bytes_put shift write) ≤ length memory
write_fits version shift pages memory write len fits =
    let below : suc write.page * 2 ^ shift ≤ pages * 2 ^ shift = mul-le-mul_right (2 ^ shift) fits.page in
    omega (arith, below, puts_within version shift pages write fits)

pub Becomes-next : (version shift pages : ℕ) (memory next : List ℕ) (write : GuestWrite) (left : List GuestWrite)
    (whole : GuestMemory)
    → Becomes shift pages memory (write ∷ left) whole → IsGuestWrite version shift pages write
    → next ≡ put memory (write.page * 2 ^ shift + write.offset) (bytes_put shift write)
    → Becomes shift pages next left whole
Becomes-next version shift pages memory next write left whole before fits is =
    record {
      len = ap length is ∙ length-put memory (write.page * 2 ^ shift + write.offset) (bytes_put shift write)
          (write_fits version shift pages memory write before.len fits) ∙ before.len;
      rest = ap (λ (m : List ℕ). fold apply (memory_with shift pages m) left) is ∙ before.rest;
    }

-- what was made from the writes so far, and then from one more
pub replay-push : (shift pages : ℕ) (memory next : List ℕ) (writes : List GuestWrite) (write : GuestWrite)
    → replay shift pages writes ≡ memory_with shift pages memory
    → next ≡ put memory (write.page * 2 ^ shift + write.offset) (bytes_put shift write)
    → replay shift pages (writes ++ write ∷ []) ≡ memory_with shift pages next
replay-push shift pages memory next writes write made is =
    fold-append apply (zeros shift pages) writes (write ∷ []) ∙ ap (λ (m : GuestMemory). apply m write) made
    ∙ ap (memory_with shift pages) (sym is)

-- bytes that encode a trace encode no other one, and are not refused
pub only_replayed : (bytes : List ℕ) (r : Result GuestMemory ReplayError)
    → IfOk r (λ image. (trace : GuestTrace) × Spells bytes trace × (image ≡ image_of trace))
    → IfErr r (RefusesReplay bytes)
    → (trace : GuestTrace) → Spells bytes trace → MatchResult r (λ image. image ≡ image_of trace)
    (λ e. e ≡ errors.Memory)
only_replayed bytes (Ok image) made refused trace spells = made.2
    ∙ ap image_of (one_trace_lem bytes made.0 trace made.1 spells)
only_replayed bytes (Err (errors.Trace e)) made refused trace spells =
    absurd (never_refused bytes trace e spells refused)
only_replayed bytes (Err errors.Memory) made refused trace spells = refl

-- ---- one after another, by their indices

-- a write of a trace is one of its guest
pub item_fits : (trace : GuestTrace) (shift pages : ℕ) (items : List GuestWrite) (i : ℕ) (write seen : GuestWrite)
    → IsTrace trace → shift ≡ trace.shift
    → pages ≡ trace.pages → items ≡ trace.writes → i < length items → write ≡ get_or items i write → seen ≡ write
    → IsGuestWrite trace.version shift pages seen
item_fits trace shift pages items i write seen is shift_is pages_is same low at seen_is =
    let here : seen ≡ get_or trace.writes i write = seen_is ∙ at
    ∙ ap (λ (l : List GuestWrite). get_or l i write) same in
    rw (shift_is, pages_is, here) (is.writes.each i write (omega (arith, low, ap length same)))

-- the write at an index is the first of those from there on
first_from : (items : List GuestWrite) (i : ℕ) (write seen : GuestWrite) → i < length items
    → write ≡ get_or items i write → seen ≡ write
    → drop i items ≡ seen ∷ drop (i + 1) items
first_from items i write seen low at seen_is = drop_more items i write low
    ∙ ap (λ (w : GuestWrite). w ∷ drop (i + 1) items) (sym (seen_is ∙ at))

pub Becomes-item : (version shift pages : ℕ) (memory next : List ℕ) (items : List GuestWrite) (i : ℕ)
    (write seen : GuestWrite) (whole : GuestMemory)
    → Becomes shift pages memory (drop i items) whole → i < length items → write ≡ get_or items i write → seen ≡ write
    → IsGuestWrite version shift pages seen → next ≡ put memory (seen.page * 2 ^ shift + seen.offset)
    (bytes_put shift seen)
    → Becomes shift pages next (drop (i + 1) items) whole
Becomes-item version shift pages memory next items i write seen whole before low at seen_is fits is =
    Becomes-next version shift pages memory next seen (drop (i + 1) items) whole
    (subst (λ (l : List GuestWrite). Becomes shift pages memory l whole) (first_from items i write seen low at seen_is)
    before) fits is

-- ---- the first of them are before a tick

abbrev pub IsPoint : GuestTrace → ℕ → ℕ → Type 0
IsPoint trace tick count =
    IsPartitionPoint (λ (t : GuestTouch). ltb t.tick tick ≡ true) (λ (t : GuestTouch). ltb t.tick tick ≡ false)
    (touches_of trace) count

-- what is left of the writes before a tick, from an index on
abbrev pub left_before : GuestTrace → ℕ → ℕ → List GuestWrite
left_before trace tick index = filter (λ w. ltb w.tick tick) (drop index trace.writes)

-- the write at an index is one of its guest
pub write_there : (trace : GuestTrace) (index : ℕ) (seen : GuestWrite) → IsTrace trace → index < length trace.writes
    → seen ≡ get_or trace.writes index no_write
    → IsGuestWrite trace.version trace.shift trace.pages seen
write_there trace index seen is inside at = rw at (is.writes.each index no_write inside)

is_before : (trace : GuestTrace) (tick count index : ℕ) → IsPoint trace tick count → index < count
    → index < length trace.writes
    → ltb (get_or trace.writes index no_write).tick tick ≡ true
is_before trace tick count index point low inside =
    ap (λ (t : GuestTouch). ltb t.tick tick) (sym (get_or-map touch_of trace.writes index no_write no_touch inside))
    ∙ point.0 index no_touch (omega arith) low

-- one of them, at its index, was put
pub Becomes-before : (trace : GuestTrace) (tick count index shift pages : ℕ) (memory next : List ℕ) (seen : GuestWrite)
    (whole : GuestMemory)
    → IsPoint trace tick count → index < count → index < length trace.writes → seen ≡ get_or trace.writes index no_write
    → Becomes shift pages memory (left_before trace tick index) whole → IsGuestWrite trace.version shift pages seen
    → next ≡ put memory (seen.page * 2 ^ shift + seen.offset) (bytes_put shift seen)
    → Becomes shift pages next (left_before trace tick (index + 1)) whole
Becomes-before trace tick count index shift pages memory next seen whole point low inside at before fits is =
    let passes : ltb seen.tick tick ≡ true = ap (λ (w : GuestWrite). ltb w.tick tick) at
    ∙ is_before trace tick count index point low inside in
    let rest : List GuestWrite = left_before trace tick (index + 1) in
    let kept : left_before trace tick index ≡ seen ∷ rest =
    ap (filter (λ w. ltb w.tick tick)) (drop_more trace.writes index no_write inside
    ∙ ap (λ (w : GuestWrite). w ∷ drop (index + 1) trace.writes) (sym at))
    ∙ cond-true (ltb seen.tick tick) (seen ∷ rest) rest passes in
    Becomes-next trace.version shift pages memory next seen rest whole
    (subst (λ (l : List GuestWrite). Becomes shift pages memory l whole) kept before) fits is

-- there are none after the last of them
pub none_before : (trace : GuestTrace) (tick count : ℕ) → IsPoint trace tick count → left_before trace tick count ≡ []
none_before trace tick count point =
    filter_none (λ (w : GuestWrite). ltb w.tick tick) (drop count trace.writes) (λ k d inside.
    let here : count + k < length trace.writes = omega (arith, inside, length-drop count trace.writes) in
    rw (get_or-drop count trace.writes k d)
    (ap (λ (t : GuestTouch). ltb t.tick tick) (sym (get_or-map touch_of trace.writes (count + k) d no_touch here))
    ∙ point.1 (count + k) no_touch (omega arith) (omega (arith, here, length-map trace.writes touch_of))))
