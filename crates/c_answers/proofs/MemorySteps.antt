-- Memory that is brought on, write after write.
use Rattle.std.proofs.Common.{◌⊎◌, ◌≡◌, ℕ, ◌+◌, ◌*◌, ◌^◌, ◌<◌, ◌≤◌, List, [], ◌++◌, length, take, drop, get_or}
use Rattle.std.proofs.Common.{inl, inr, refl, sym, ap, ◌∙◌, arith}
use Rattle.std.specs.List.{fold}
use Rattle.std.proofs.lemmas.List.{drop_all, get_or-take, get_or_default, length-replicate, length-take}
use Rattle.std.proofs.lemmas.List.{take-append-drop, take-take}
use Rattle.std.proofs.lemmas.List.Elements.{All-take}
use Rattle.std.proofs.lemmas.List.Sums.{fold-append}
use Rattle.migration_model.specs.Memory.{GuestMemory, apply, bytes_put, image_after, memory_with, put, replay, zeros}
use Rattle.migration_model.specs.Trace.{GuestTrace, GuestWrite, IsGuestWrite, IsTrace}
use Rattle.migration_model.proofs.Pages.{length-applied}
use Rattle.guest_log.specs.Writes.{no_write}
use Rattle.image_build.proofs.Replays.{Becomes, Becomes-item, write_there}
use Rattle.c_answers.specs.Places.{IsStep, brought_on}

-- the writes up to the first `to`, from an index on
abbrev pub left_to : GuestTrace → ℕ → ℕ → List GuestWrite
left_to trace to index = drop index (take to trace.writes)

-- memory with these bytes, after the writes behind the first `from` and up to the first `to`
abbrev pub whole_after : GuestTrace → ℕ → ℕ → List ℕ → GuestMemory
whole_after trace from to bytes = fold apply (memory_with trace.shift trace.pages bytes) (left_to trace to from)

pub Steps-start : (trace : GuestTrace) (from to : ℕ) (memory : List ℕ) → length memory ≡ trace.pages * 2 ^ trace.shift
    → Becomes trace.shift trace.pages memory (left_to trace to from) (whole_after trace from to memory)
Steps-start trace from to memory len = record { len = len; rest = refl }

pub Steps-next : (trace : GuestTrace) (to index : ℕ) (memory next : List ℕ) (seen : GuestWrite) (whole : GuestMemory)
    → IsTrace trace → index < to → index < length trace.writes → seen ≡ get_or trace.writes index no_write
    → Becomes trace.shift trace.pages memory (left_to trace to index) whole
    → next ≡ put memory (seen.page * 2 ^ trace.shift + seen.offset) (bytes_put trace.shift seen)
    → Becomes trace.shift trace.pages next (left_to trace to (index + 1)) whole
Steps-next trace to index memory next seen whole is low inside at before puts =
    let items : List GuestWrite = take to trace.writes in
    let there : index < length items = omega (arith, low, inside, length-take to trace.writes) in
    let here : seen ≡ get_or items index no_write = at ∙ sym (get_or-take to trace.writes index no_write low) in
    Becomes-item trace.version trace.shift trace.pages memory next items index seen seen whole
    before there (here ∙ get_or_default items index no_write seen there) refl
    (write_there trace index seen is inside at) puts

pub Steps-end : (trace : GuestTrace) (to index : ℕ) (memory : List ℕ) (whole : GuestMemory)
    → (to ≤ index) ⊎ (length trace.writes ≤ index)
    → Becomes trace.shift trace.pages memory (left_to trace to index) whole → memory ≡ whole.bytes
Steps-end trace to index memory whole past before =
    let items : List GuestWrite = take to trace.writes in
    let none : left_to trace to index ≡ [] = elim past [
      | inl early ↦ drop_all index items (omega (arith, early, length-take to trace.writes))
      | inr all ↦ drop_all index items (omega (arith, all, length-take to trace.writes))
    ] in
    ap (λ (m : GuestMemory). m.bytes)
    (sym (ap (fold apply (memory_with trace.shift trace.pages memory)) none) ∙ before.rest)

-- memory after the first `from` writes becomes that after the first `to`
pub step_on : (trace : GuestTrace) (from to : ℕ) (memory : List ℕ) → IsTrace trace → from ≤ to
    → memory ≡ (image_after trace from).bytes → brought_on trace from to memory ≡ (image_after trace to).bytes
step_on trace from to memory is order at =
    let first : List GuestWrite = take from trace.writes in
    let last : List GuestWrite = drop from (take to trace.writes) in
    let fits = All-take (IsGuestWrite trace.version trace.shift trace.pages) from trace.writes is.writes.each in
    let made = length-applied trace.version trace.shift trace.pages first (zeros trace.shift trace.pages).bytes
    (length-replicate (trace.pages * 2 ^ trace.shift) 0) fits in
    let same : memory_with trace.shift trace.pages memory ≡ image_after trace from =
    ap (memory_with trace.shift trace.pages) (at ∙ ap (λ (m : GuestMemory). m.bytes) made.1) ∙ sym made.1 in
    ap (λ (m : GuestMemory). (fold apply m last).bytes) same
    ∙ sym (ap (λ (m : GuestMemory). m.bytes) (fold-append apply (zeros trace.shift trace.pages) first last))
    ∙ ap (λ (l : List GuestWrite). (replay trace.shift trace.pages l).bytes)
    (ap (λ (l : List GuestWrite). l ++ last) (sym (take-take from to trace.writes order))
    ∙ take-append-drop from (take to trace.writes))

pub is_step : (trace : GuestTrace) (from to : ℕ) (old new : List ℕ) → IsTrace trace → from ≤ to
    → length old ≡ trace.pages * 2 ^ trace.shift → new ≡ brought_on trace from to old → IsStep trace from to old new
is_step trace from to old new is order len writes = record {
  order = order;
  len = len;
  writes = writes;
  memory = λ at. writes ∙ step_on trace from to old is order at;
}
