-- Writes that are tested one by one before they are a trace.
use Rattle.std.proofs.Common.{◌≡◌, ℕ, ◌+◌, ◌^◌, ◌<◌, ◌≤◌, true, false, not, List, [], ◌∷◌, ◌++◌}
use Rattle.std.proofs.Common.{length, get_or, take, drop, Some, None, refl, sym, ap, subst, ◌∙◌, arith}
use Rattle.std.specs.List.{All, flat_map, sum_by}
use Rattle.std.specs.List.Sorted.{IsNonDecreasingBy}
use Rattle.std.proofs.lemmas.Bool.{ltb-false, leb-false, le-ltb, le-leb, lt-leb}
use Rattle.std.proofs.lemmas.List.{get_or_at, take_more, drop_more, take-append-drop, length-append, length-take}
use Rattle.std.proofs.lemmas.List.Elements.{All-push, All-same}
use Rattle.std.proofs.lemmas.List.Sums.{sum_by-take-le, sum_by_push}
use Rattle.std.proofs.lemmas.List.Concat.{length-flat_map}
use Rattle.migration_model.specs.Trace.{GuestWrite, GuestTrace, IsGuestWrite, AreGuestWrites, last_tick, trace_with}
use Rattle.migration_model.specs.Trace.{write_text, header_text, trace_text, IsTrace}
use Rattle.migration_model.proofs.Order.{last_by-push, in_order-push, last_by-le, in_order-front}
use Rattle.migration_model.proofs.Writes.{length-write_text}
use Rattle.migration_model.proofs.Traces.{length-header_text}
use Rattle.trace_codec.specs.Refusals.{record_refusal, RefusesRecord, sizes_refusal, is_short, RefusesTrace, in_sizes}
use Rattle.trace_codec.specs.Refusals.{in_record}
use Rattle.trace_codec.specs.declared.error.TraceError.{TraceError}
use Rattle.trace_codec.proofs.Steps.{passed, passes_empty, some_or_release}
use Rattle.trace_codec.proofs.Never.{passes, is_within}

-- what a write that is not refused is
record IsNext (version shift pages before : ℕ) (write : GuestWrite) : Type 0 where
  pub order : before ≤ write.tick
  pub fits : IsGuestWrite version shift pages write

IsNext-from_none : (version shift pages before i : ℕ) (write : GuestWrite)
    → record_refusal version shift pages before i write ≡ None → IsNext version shift pages before write
IsNext-from_none version shift pages before i write none =
    let order = passed _ _ _ none in
    let tick = passed _ _ _ order.1 in
    let page = passed _ _ _ tick.1 in
    let some = passed _ _ _ page.1 in
    let within = passed _ _ _ some.1 in
    record {
      order = ltb-false _ _ order.0;
      fits = record {
        tick = leb-false _ _ tick.0;
        page = leb-false _ _ page.0;
        some = some_or_release version write.offset (length write.bytes) some.0;
        within = ltb-false _ _ within.0;
      };
    }

-- the first n writes are right, and the last of them is at this tick
pub record Tested (version shift pages n : ℕ) (writes : List GuestWrite) (last : ℕ) : Type 0 where
  pub fit : AreGuestWrites version shift pages (take n writes)
  pub last_is : last ≡ last_tick (take n writes)
  pub below : All (λ write. write.tick ≤ last) (take n writes)

pub Tested-more : (version shift pages n : ℕ) (writes : List GuestWrite) (last tick : ℕ) (write : GuestWrite)
    → n < length writes → write ≡ get_or writes n write
    → tick ≡ write.tick → Tested version shift pages n writes last
    → record_refusal version shift pages last n write ≡ None → Tested version shift pages (n + 1) writes tick
Tested-more version shift pages n writes last tick write low is tick_is so_far none =
    let next = IsNext-from_none version shift pages last n write none in
    let more : take (n + 1) writes ≡ take n writes ++ write ∷ [] = take_more writes n write low
    ∙ ap (λ (w : GuestWrite). take n writes ++ w ∷ []) (sym is) in
    let below : All (λ w. w.tick ≤ write.tick) (take n writes) =
    λ k d inside. omega (arith, so_far.below k d inside, next.order) in
    record {
      fit = rw more (record {
        each = All-push (IsGuestWrite version shift pages) (take n writes) write so_far.fit.each next.fits;
        in_order = in_order-push (λ w. w.tick) (take n writes) write so_far.fit.in_order below;
      });
      last_is = rw (more, tick_is) (sym (last_by-push (λ w. w.tick) (take n writes) write));
      below = rw (more, tick_is) (All-push (λ w. w.tick ≤ write.tick) (take n writes) write below (omega arith));
    }

pub refused_there : (version shift pages n : ℕ) (writes : List GuestWrite) (last : ℕ) (write : GuestWrite)
    (e : TraceError) → n < length writes
    → write ≡ get_or writes n write → Tested version shift pages n writes last
    → record_refusal version shift pages last n write ≡ Some e
    → RefusesRecord version shift pages writes e
refused_there version shift pages n writes last write e low is so_far refused =
    let len : length (take n writes) ≡ n = omega (arith, length-take n writes) in
    record {
      before = take n writes;
      write = write;
      after = drop (n + 1) writes;
      parts = sym (take-append-drop n writes) ∙ ap (λ (ws : List GuestWrite). take n writes ++ ws)
          (drop_more writes n write low ∙ ap (λ (w : GuestWrite). w ∷ drop (n + 1) writes) (sym is));
      fit = so_far.fit;
      refused = rw (len, ← so_far.last_is) refused;
    }

-- how long an encoding is
pub length_of_text : (version shift pages : ℕ) (writes : List GuestWrite)
    → length (trace_text (trace_with version shift pages writes)) ≡ 16
    + sum_by (λ (w : GuestWrite). 16 + length w.bytes) writes
unfolding trace_text
length_of_text version shift pages writes =
    let body : length (flat_map write_text writes) ≡ sum_by (λ (w : GuestWrite). 16 + length w.bytes) writes =
    length-flat_map write_text writes ∙ (λ i. sum_by (λ (w : GuestWrite). length-write_text w i) writes) in
    omega (
      arith,
      length-append (header_text version shift pages (length writes)) (flat_map write_text writes),
      length-header_text version shift pages (length writes),
      body,
    )

-- whether it is short enough, if the bytes are counted
pub counted_short : (version shift pages bytes : ℕ) (writes : List GuestWrite)
    → bytes ≡ 16 + sum_by (λ (w : GuestWrite). 16 + length w.bytes) writes
    → bytes ≤ 2 ^ 28 → true ≡ is_short (trace_with version shift pages writes)
counted_short version shift pages bytes writes is low = sym (le-leb _ _
    (omega (arith, length_of_text version shift pages writes)))

-- an encoding is too long if the bytes of the first writes and one more are too many
pub counted_long : (bytes len n : ℕ) (writes : List GuestWrite) (write : GuestWrite) → n < length writes
    → write ≡ get_or writes n write
    → bytes ≡ 16 + sum_by (λ (w : GuestWrite). 16 + length w.bytes) (take n writes) → len ≡ length write.bytes
    → 2 ^ 28 < bytes + (16 + len)
    → (version shift pages : ℕ) → false ≡ is_short (trace_with version shift pages writes)
counted_long bytes len n writes write low is so_far len_is high version shift pages =
    let size : GuestWrite → ℕ = λ w. 16 + length w.bytes in
    let more : sum_by size (take (n + 1) writes) ≡ sum_by size (take n writes) + size write =
    ap (sum_by size) (take_more writes n write low ∙ ap (λ (w : GuestWrite). take n writes ++ w ∷ []) (sym is))
    ∙ sum_by_push size (take n writes) write in
    sym (lt-leb _ _ (omega (
      arith,
      length_of_text version shift pages writes,
      sum_by-take-le size writes (n + 1),
      more,
    )))

-- ---- a trace is refused for nothing

sizes_pass : (trace : GuestTrace) → IsTrace trace → sizes_refusal (is_short trace) trace.version trace.shift trace.pages
    (length trace.writes) ≡ None
sizes_pass trace is =
    passes _ _ _ (ap not (le-leb (length (trace_text trace)) (2 ^ 28) is.short))
    (passes _ _ _ (is_within 1 2 trace.version is.version_low is.version_high)
    (passes _ _ _ (is_within 4 12 trace.shift is.size.shift_low is.size.shift_high)
    (passes _ _ _ (is_within 1 65_536 trace.pages is.size.pages_low is.size.pages_high)
    (passes _ _ _ (le-ltb (2 ^ 20) (length trace.writes) is.count) refl))))

pub record_passes : (version shift pages before i : ℕ) (write : GuestWrite) → IsGuestWrite version shift pages write
    → before ≤ write.tick → record_refusal version shift pages before i write ≡ None
record_passes version shift pages before i write fits order =
    passes _ _ _ (le-ltb write.tick before order)
    (passes _ _ _ (lt-leb (2 ^ 40) write.tick fits.tick)
    (passes _ _ _ (lt-leb pages write.page fits.page)
    (passes _ _ _ (passes_empty version write.offset (length write.bytes) fits.some)
    (passes _ _ _ (le-ltb (2 ^ shift) (write.offset + length write.bytes) fits.within) refl))))

pub never_refuses : (trace : GuestTrace) (e : TraceError) → IsTrace trace → RefusesTrace trace e → ⊥
never_refuses trace e is (in_sizes refused) = absurd (cc (sizes_pass trace is))
never_refuses trace e is (in_record none r) =
    let each = All-same (IsGuestWrite trace.version trace.shift trace.pages) (r.before ++ r.write ∷ r.after)
    trace.writes (sym r.parts) is.writes.each in
    let order = subst (λ (ws : List GuestWrite). IsNonDecreasingBy (λ w. w.tick) ws) r.parts is.writes.in_order in
    let fits : IsGuestWrite trace.version trace.shift trace.pages r.write =
    rw (get_or_at r.before r.write r.after r.write (length r.before) refl) at
    (each (length r.before) r.write (omega (arith, length-append r.before (r.write ∷ r.after)))) in
    let late : last_tick r.before ≤ r.write.tick = last_by-le (λ w. w.tick) r.write.tick r.before
    (in_order-front (λ w. w.tick) r.before r.write r.after order) in
    let passes = record_passes trace.version trace.shift trace.pages (last_tick r.before) (length r.before) r.write fits
    late in
    absurd (cc (r.refused, passes))
