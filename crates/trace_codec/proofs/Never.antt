-- Bytes are refused for one cause, and no encoding of a trace is refused.
use Rattle.std.proofs.Common.{◌≡◌, ℕ, ◌+◌, ◌^◌, ◌<◌, ◌≤◌, Bool, false, cond, not, ◌&&◌, leb, eqb, List, [], ◌∷◌, ◌++◌}
use Rattle.std.proofs.Common.{length, get_or, drop, Option, Some, None, Result, Ok, Err, refl, sym, ap, subst, ◌∙◌}
use Rattle.std.proofs.Common.{append_assoc, inl, inr, arith}
use Rattle.std.specs.Prelude.{IfOk, IfErr, MatchResult}
use Rattle.std.specs.Int.{w32}
use Rattle.std.specs.List.{flat_map}
use Rattle.std.proofs.lemmas.Bool.{cases_lt, le-ltb, le-leb, lt-leb}
use Rattle.std.proofs.lemmas.List.{append-nil, get_or_at, length-append, nil_from_length}
use Rattle.std.proofs.lemmas.Option.{none-some, same_Some}
use Rattle.std.proofs.lemmas.List.Elements.{All-same}
use Rattle.std.specs.List.Sorted.{IsNonDecreasingBy}
use Rattle.migration_model.proofs.Order.{last_by-le, in_order-front}
use Rattle.migration_model.specs.Numbers.{text_of, number_in}
use Rattle.migration_model.specs.Trace.{GuestWrite, GuestTrace, IsGuestWrite, write_text, header_text}
use Rattle.migration_model.specs.Trace.{trace_text, last_tick, Spells}
use Rattle.migration_model.specs.TraceReading.{tick_in, page_in, offset_in, length_in, write_in}
use Rattle.migration_model.proofs.Writes.{HasPlaces, HasPlaces-from_guest, write_again, len_again, length-write_text}
use Rattle.migration_model.proofs.Writes.{front_writes}
use Rattle.migration_model.proofs.Traces.{version_again, shift_again, pages_again, count_again, body_again}
use Rattle.migration_model.proofs.Traces.{AllHavePlaces, one_trace_lem}
use Rattle.trace_codec.specs.Refusals.{is_magic, header_refusal, write_refusal, Begins, Refuses, RefusesUnlessMemory}
use Rattle.trace_codec.specs.Refusals.{in_header, in_write, behind}
use Rattle.trace_codec.proofs.Steps.{passes_empty}
use Rattle.trace_codec.specs.declared.error.TraceError.{TraceError}
use Rattle.trace_codec.specs.declared.error.TraceError.TheVariants.{Memory}

-- a test that lets something pass
pub passes : (b : Bool) (e : TraceError) (others : Option TraceError) → b ≡ false → others ≡ None
    → cond b (Some e) others ≡ None
passes b e others is none = rw is none

pub is_within : (low high n : ℕ) → low ≤ n → n ≤ high → not (leb low n && leb n high) ≡ false
is_within low high n above below = rw (le-leb low n above, le-leb n high below) refl

-- ---- two beginnings of the same bytes

header_passes : (bytes : List ℕ) → Begins bytes → header_refusal bytes ≡ None
unfolding header_text text_of
header_passes bytes b =
    let text = b.parts in
    let body : List ℕ = flat_map write_text b.writes ++ b.rest in
    let long : 16 ≤ length bytes = omega (arith, ap length text) in
    let version : get_or bytes 4 0 ≡ b.version = ap (λ (x : List ℕ). get_or x 4 0) text
    ∙ version_again b.version b.shift b.pages b.count body in
    let shift : get_or bytes 5 0 ≡ b.shift = ap (λ (x : List ℕ). get_or x 5 0) text
    ∙ shift_again b.version b.shift b.pages b.count body in
    let pages : number_in w32 (drop 8 bytes) ≡ b.pages =
    ap (λ (x : List ℕ). number_in w32 (drop 8 x)) text ∙ pages_again b.version b.shift b.pages b.count body
    (omega (arith, b.size.pages_high)) in
    let count : number_in w32 (drop 12 bytes) ≡ b.count =
    ap (λ (x : List ℕ). number_in w32 (drop 12 x)) text ∙ count_again b.version b.shift b.pages b.count body
    (omega (arith, b.few)) in
    passes _ _ _ (le-ltb (2 ^ 28) (length bytes) b.short)
    (passes _ _ _ (le-ltb (length bytes) 16 long)
    (passes _ _ _ (ap (λ x. not (is_magic x)) text)
    (passes _ _ _ (is_within 1 2 (get_or bytes 4 0) (rw version b.version_low) (rw version b.version_high))
    (passes _ _ _ (is_within 4 12 (get_or bytes 5 0) (rw shift b.size.shift_low) (rw shift b.size.shift_high))
    (passes _ _ _ (ap (λ x. not (eqb (get_or x 6 0) 0 && eqb (get_or x 7 0) 0)) text)
    (passes _ _ _ (is_within 1 65_536 (number_in w32 (drop 8 bytes)) (rw pages b.size.pages_low)
    (rw pages b.size.pages_high))
    (passes _ _ _ (le-ltb (2 ^ 20) (number_in w32 (drop 12 bytes)) (rw count b.few)) refl)))))))

write_passes : (version shift pages before i : ℕ) (write : GuestWrite) (rest : List ℕ) → HasPlaces write
    → IsGuestWrite version shift pages write → before ≤ write.tick
    → write_refusal version shift pages before i (write_text write ++ rest) ≡ None
unfolding write_in
write_passes version shift pages before i write rest places fits order =
    let bytes : List ℕ = write_text write ++ rest in
    let again : write_in bytes ≡ write = write_again write rest places in
    let tick : tick_in bytes ≡ write.tick = ap (λ (w : GuestWrite). w.tick) again in
    let page : page_in bytes ≡ write.page = ap (λ (w : GuestWrite). w.page) again in
    let offset : offset_in bytes ≡ write.offset = ap (λ (w : GuestWrite). w.offset) again in
    let len : length_in bytes ≡ length write.bytes = len_again write rest places in
    let long : length bytes ≡ 16 + length write.bytes + length rest =
    omega (arith, length-append (write_text write) rest, length-write_text write) in
    passes _ _ _ (le-ltb (length bytes) 16 (omega arith))
    (passes _ _ _ (le-ltb (length bytes) (16 + length_in bytes) (omega arith))
    (passes _ _ _ (le-ltb (tick_in bytes) before (omega arith))
    (passes _ _ _ (lt-leb (2 ^ 40) (tick_in bytes) (omega (arith, fits.tick)))
    (passes _ _ _ (lt-leb pages (page_in bytes) (omega (arith, fits.page)))
    (passes _ _ _ (rw (offset, len) (passes_empty version write.offset (length write.bytes) fits.some))
    (passes _ _ _ (le-ltb (2 ^ shift) (offset_in bytes + length_in bytes) (rw (offset, len) fits.within)) refl))))))

-- the same header, and the writes of the longer one after those of the shorter one
record Meets (bytes : List ℕ) (b c : Begins bytes) : Type 0 where
  pub version : b.version ≡ c.version
  pub shift : b.shift ≡ c.shift
  pub pages : b.pages ≡ c.pages
  pub count : b.count ≡ c.count
  pub others : List GuestWrite
  pub writes : c.writes ≡ b.writes ++ others
  pub rest : b.rest ≡ flat_map write_text others ++ c.rest

meets : (bytes : List ℕ) (b c : Begins bytes) → length b.writes ≤ length c.writes → Meets bytes b c
meets bytes b c few =
    let same = sym b.parts ∙ c.parts in
    let version = sym (version_again b.version b.shift b.pages b.count _) ∙ ap (λ x. get_or x 4 0) same
    ∙ version_again c.version c.shift c.pages c.count _ in
    let shift = sym (shift_again b.version b.shift b.pages b.count _) ∙ ap (λ x. get_or x 5 0) same
    ∙ shift_again c.version c.shift c.pages c.count _ in
    let pages = sym (pages_again b.version b.shift b.pages b.count _ (omega (arith, b.size.pages_high)))
    ∙ ap (λ x. number_in w32 (drop 8 x)) same
    ∙ pages_again c.version c.shift c.pages c.count _ (omega (arith, c.size.pages_high)) in
    let count = sym (count_again b.version b.shift b.pages b.count _ (omega (arith, b.few)))
    ∙ ap (λ x. number_in w32 (drop 12 x)) same
    ∙ count_again c.version c.shift c.pages c.count _ (omega (arith, c.few)) in
    let body : flat_map write_text b.writes ++ b.rest ≡ flat_map write_text c.writes ++ c.rest =
    sym (body_again b.version b.shift b.pages b.count _) ∙ ap (λ (x : List ℕ). drop 16 x) same
    ∙ body_again c.version c.shift c.pages c.count _ in
    let found = front_writes b.writes c.writes b.rest c.rest
    (AllHavePlaces b.version b.shift b.pages b.writes b.size b.fit)
    (AllHavePlaces c.version c.shift c.pages c.writes c.size c.fit) few body in
    record {
      version = version;
      shift = shift;
      pages = pages;
      count = count;
      others = found.0;
      writes = found.1;
      rest =
          found.2;
    }

-- the write after the shorter one is not refused
next_passes : (bytes : List ℕ) (b c : Begins bytes) → b.version ≡ c.version → b.shift ≡ c.shift → b.pages ≡ c.pages
    → (others : List GuestWrite) → c.writes ≡ b.writes ++ others → b.rest ≡ flat_map write_text others ++ c.rest
    → 0 < length others
    → write_refusal b.version b.shift b.pages (last_tick b.writes) (length b.writes) b.rest ≡ None
next_passes bytes b c version shift pages [] writes rest more = absurd (omega arith)
next_passes bytes b c version shift pages (write ∷ others) writes rest more =
    let each = All-same (IsGuestWrite c.version c.shift c.pages) (b.writes ++ write ∷ others) c.writes (sym writes)
    c.fit.each in
    let order = subst (λ ws. IsNonDecreasingBy (λ w. w.tick) ws) writes c.fit.in_order in
    let at_trace : IsGuestWrite c.version c.shift c.pages write =
    rw (get_or_at b.writes write others write (length b.writes) refl) at
    (each (length b.writes) write (omega (arith, length-append b.writes (write ∷ others)))) in
    let fits : IsGuestWrite b.version b.shift b.pages write = rw (version, shift, pages) at_trace in
    let grouped : b.rest ≡ write_text write ++ (flat_map write_text others ++ c.rest) =
    rest ∙ append_assoc (write_text write) (flat_map write_text others) c.rest in
    rw grouped (write_passes b.version b.shift b.pages (last_tick b.writes) (length b.writes) write
    (flat_map write_text others ++ c.rest)
    (HasPlaces-from_guest b.version b.shift b.pages write b.size fits) fits
    (last_by-le (λ w. w.tick) write.tick b.writes (in_order-front (λ w. w.tick) b.writes write others order)))

passes_on : (bytes : List ℕ) (b c : Begins bytes) → length b.writes < length c.writes
    → write_refusal b.version b.shift b.pages (last_tick b.writes) (length b.writes) b.rest ≡ None
passes_on bytes b c fewer =
    let m = meets bytes b c (omega (arith, fewer)) in
    next_passes bytes b c m.version m.shift m.pages m.others m.writes m.rest
    (omega (arith, fewer, ap length m.writes, length-append b.writes m.others))

none_left : (bytes : List ℕ) (b c : Begins bytes) (m : Meets bytes b c) → length c.writes ≤ length b.writes
    → m.others ≡ []
none_left bytes b c m all = nil_from_length m.others (omega (
  arith,
  all,
  ap length m.writes,
  length-append b.writes m.others,
))

-- ---- there is one first cause

same_write : (bytes : List ℕ) (b c : Begins bytes) → length b.writes ≤ length c.writes
    → length c.writes ≤ length b.writes
    → write_refusal b.version b.shift b.pages (last_tick b.writes) (length b.writes) b.rest
    ≡ write_refusal c.version c.shift c.pages (last_tick c.writes) (length c.writes) c.rest
same_write bytes b c low high =
    let m = meets bytes b c low in
    let none = none_left bytes b c m high in
    let writes : b.writes ≡ c.writes = sym (m.writes ∙ ap (λ (ws : List GuestWrite). b.writes ++ ws) none
    ∙ append-nil b.writes) in
    let rest : b.rest ≡ c.rest = m.rest ∙ ap (λ (ws : List GuestWrite). flat_map write_text ws ++ c.rest) none in
    λ i. write_refusal (m.version i) (m.shift i) (m.pages i) (last_tick (writes i)) (length (writes i)) (rest i)

count_same : (bytes : List ℕ) (b c : Begins bytes) → b.count ≡ c.count
count_same bytes b c = elim (cases_lt (length b.writes) (length c.writes)) [
  | inl fewer ↦ (meets bytes b c (omega (arith, fewer))).count
  | inr more ↦ sym (meets bytes c b more).count
]

pub one_cause : (bytes : List ℕ) (e f : TraceError) → Refuses bytes e → Refuses bytes f → e ≡ f
one_cause bytes e f (in_header is) (in_header other) = same_Some e f (sym is ∙ other)
one_cause bytes e f (in_header is) (in_write c more other) = absurd (none-some e (sym (header_passes bytes c) ∙ is))
one_cause bytes e f (in_header is) (behind c all more other) = absurd (none-some e (sym (header_passes bytes c) ∙ is))
one_cause bytes e f (in_write b more is) (in_header other) = absurd (none-some f (sym (header_passes bytes b) ∙ other))
one_cause bytes e f (behind b all more is) (in_header other) =
    absurd (none-some f (sym (header_passes bytes b) ∙ other))
one_cause bytes e f (in_write b more is) (in_write c left other) = elim (cases_lt (length b.writes) (length c.writes)) [
  | inl fewer ↦ absurd (none-some e (sym (passes_on bytes b c fewer) ∙ is))
  | inr low ↦ elim (cases_lt (length c.writes) (length b.writes)) [
    | inl fewer ↦ absurd (none-some f (sym (passes_on bytes c b fewer) ∙ other))
    | inr high ↦ same_Some e f (sym is ∙ same_write bytes b c high low ∙ other)
  ]
]
one_cause bytes e f (in_write b more is) (behind c all left other) =
    absurd (none-some e (sym (passes_on bytes b c (omega (arith, more, all, count_same bytes b c))) ∙ is))
one_cause bytes e f (behind b all more is) (in_write c left other) =
    absurd (none-some f (sym (passes_on bytes c b (omega (arith, left, all, count_same bytes b c))) ∙ other))
one_cause bytes e f (behind b all more is) (behind c left other_more other) = is ∙ sym other

-- ---- and none in the encoding of a trace

-- a trace's encoding begins with all its writes
begun : (bytes : List ℕ) (trace : GuestTrace) → Spells bytes trace → Begins bytes
unfolding trace_text
begun bytes trace spells =
    let is = spells.is_trace in
    record {
      version = trace.version;
      shift = trace.shift;
      pages = trace.pages;
      count = length trace.writes;
      writes = trace.writes;
      rest = [];
      short = rw spells.text is.short;
      version_low = is.version_low;
      version_high = is.version_high;
      size = is.size;
      few = is.count;
      fit = is.writes;
      parts = spells.text
          ∙ ap (λ (x : List ℕ). header_text trace.version trace.shift trace.pages (length trace.writes) ++ x)
          (sym (append-nil (flat_map write_text trace.writes)));
    }

pub never_refused : (bytes : List ℕ) (trace : GuestTrace) (e : TraceError) → Spells bytes trace → Refuses bytes e → ⊥
unfolding begun
never_refused bytes trace e spells (in_header is) = none-some e
    (sym (header_passes bytes (begun bytes trace spells)) ∙ is)
never_refused bytes trace e spells (in_write b more is) =
    let c = begun bytes trace spells in
    none-some e (sym (passes_on bytes b c (omega (arith, more, count_same bytes b c))) ∙ is)
never_refused bytes trace e spells (behind b all more is) =
    let c = begun bytes trace spells in
    let m = meets bytes b c (omega (arith, all, count_same bytes b c)) in
    let none = none_left bytes b c m (omega (arith, all, count_same bytes b c)) in
    let len = ap length (m.rest ∙ ap (λ (ws : List GuestWrite). flat_map write_text ws ++ []) none) in
    omega (arith, more, len)

-- so a trace that is encoded is read, and no other
pub is_only : (bytes : List ℕ) (r : Result GuestTrace TraceError) → IfOk r (λ t. Spells bytes t)
    → IfErr r (Refuses bytes)
    → (trace : GuestTrace) → Spells bytes trace → r ≡ Ok trace
is_only bytes (Ok found) spells refused trace is = ap (λ t. Ok t) (one_trace_lem bytes found trace spells is)
is_only bytes (Err e) spells refused trace is = absurd (never_refused bytes trace e is refused)

-- so a trace that is encoded is refused only for lack of memory
pub only_memory : {X : Type 0} (bytes : List ℕ) (r : Result X TraceError) → IfErr r (RefusesUnlessMemory bytes)
    → (trace : GuestTrace) → Spells bytes trace → IfErr r (λ e. e ≡ Memory)
only_memory bytes (Ok found) refused trace is = tt
only_memory bytes (Err e) (inl memory) trace is = memory
only_memory bytes (Err e) (inr refused) trace is = absurd (never_refused bytes trace e is refused)

-- and if memory does not run out, it is found
pub only_found : (bytes : List ℕ) (r : Result GuestTrace TraceError) → IfOk r (λ t. Spells bytes t)
    → IfErr r (RefusesUnlessMemory bytes)
    → (trace : GuestTrace) → Spells bytes trace → MatchResult r (λ t. t ≡ trace) (λ e. e ≡ Memory)
only_found bytes (Ok found) spells refused trace is = one_trace_lem bytes found trace spells is
only_found bytes (Err e) spells refused trace is = only_memory {X = GuestTrace} bytes (Err e) refused trace is

-- and bytes that contain a cause are refused for it
pub is_first : (bytes : List ℕ) (r : Result GuestTrace TraceError) → IfOk r (λ t. Spells bytes t)
    → IfErr r (Refuses bytes)
    → (e : TraceError) → Refuses bytes e → r ≡ Err e
is_first bytes (Ok found) spells refused e is = absurd (never_refused bytes found e spells is)
is_first bytes (Err other) spells refused e is = ap (λ c. Err c) (one_cause bytes other e refused is)
