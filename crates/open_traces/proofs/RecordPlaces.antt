-- Where the records of a trace are in its bytes.
use Rattle.std.proofs.Common.{◌≡◌, ℕ, ◌+◌, ◌^◌, ◌<◌, ◌≤◌, List, [], ◌∷◌, ◌++◌, length, map, take, drop, get_or, set}
use Rattle.std.proofs.Common.{refl, sym}
use Rattle.std.proofs.Common.{ap, ◌∙◌, inl, inr, arith}
use Rattle.std.specs.List.{flat_map, range_with_len}
use Rattle.std.proofs.lemmas.List.{append-nil, drop-drop, drop_at, drop_more, get_or-map, get_or_default, length-append}
use Rattle.std.proofs.lemmas.Bool.{cases_eq}
use Rattle.std.proofs.lemmas.List.{get_or-set_other, get_or-set_same, length-drop, length-map, length-set, same_lists}
use Rattle.std.proofs.lemmas.List.{take-append-drop, take_more}
use Rattle.std.proofs.lemmas.List.Concat.{flat_map-append}
use Rattle.std.proofs.lemmas.List.Folds.{length-flat_map-take}
use Rattle.std.proofs.lemmas.List.FromFn.{get_or-range_with_len, length-range_with_len}
use Rattle.migration_model.specs.Trace.{GuestTrace, GuestWrite, IsTrace, Spells, header_text, trace_text, write_text}
use Rattle.migration_model.specs.TraceReading.{length_in, write_in}
use Rattle.migration_model.proofs.Traces.{body_again, length-header_text}
use Rattle.migration_model.proofs.Writes.{HasPlaces-from_guest, len_again, length-write_text, write_again}
use Rattle.guest_log.specs.Writes.{no_write}
use Rattle.open_traces.specs.Index.{begins_of}

-- where the record of a write begins
abbrev pub begin_at : List GuestWrite → ℕ → ℕ
begin_at writes n = 16 + length (flat_map write_text (take n writes))

pub begin_next : (writes : List GuestWrite) (n : ℕ) (write : GuestWrite) → n < length writes
    → write ≡ get_or writes n write → begin_at writes (n + 1) ≡ begin_at writes n + (16 + length write.bytes)
begin_next writes n write low is =
    let front : List GuestWrite = take n writes in
    let more : take (n + 1) writes ≡ front ++ write ∷ [] = take_more writes n write low
    ∙ ap (λ (w : GuestWrite). front ++ w ∷ []) (sym is) in
    let text : flat_map write_text (take (n + 1) writes) ≡ flat_map write_text front ++ write_text write =
    ap (flat_map write_text) more ∙ flat_map-append write_text front (write ∷ [])
    ∙ ap (λ (l : List ℕ). flat_map write_text front ++ l) (append-nil (write_text write)) in
    omega (
      arith,
      ap length text,
      length-append (flat_map write_text front) (write_text write),
      length-write_text write,
    )

-- it begins, and ends, within the longest trace
pub begin_low : (trace : GuestTrace) (n : ℕ) (write : GuestWrite) → IsTrace trace → n < length trace.writes
    → write ≡ get_or trace.writes n write
    → begin_at trace.writes n + (16 + length write.bytes) ≤ 2 ^ 28
unfolding trace_text
begin_low trace n write is low at =
    let head : List ℕ = header_text trace.version trace.shift trace.pages (length trace.writes) in
    let body : List ℕ = flat_map write_text trace.writes in
    omega (
      arith,
      is.short,
      length-append head body,
      length-header_text trace.version trace.shift trace.pages (length trace.writes),
      length-flat_map-take write_text trace.writes n write low,
      ap (λ (w : GuestWrite). length (write_text w)) at,
      length-write_text write,
    )

-- there is the text of the write
pub record_there : (trace : GuestTrace) (bytes : List ℕ) (n : ℕ) (d : GuestWrite) → Spells bytes trace
    → n < length trace.writes
    → drop (begin_at trace.writes n) bytes
    ≡ write_text (get_or trace.writes n d) ++ flat_map write_text (drop (n + 1) trace.writes)
unfolding trace_text
record_there trace bytes n d spells low =
    let head : List ℕ = header_text trace.version trace.shift trace.pages (length trace.writes) in
    let body : List ℕ = flat_map write_text trace.writes in
    let front : List ℕ = flat_map write_text (take n trace.writes) in
    let behind : List ℕ = flat_map write_text (drop n trace.writes) in
    let text : bytes ≡ head ++ body = spells.text in
    let parts : body ≡ front ++ behind = sym (ap (flat_map write_text) (take-append-drop n trace.writes))
    ∙ flat_map-append write_text (take n trace.writes) (drop n trace.writes) in
    ap (drop (16 + length front)) text
    ∙ sym (drop-drop (length front) 16 (head ++ body))
    ∙ ap (drop (length front)) (body_again trace.version trace.shift trace.pages (length trace.writes) body ∙ parts)
    ∙ drop_at front behind (length front) refl
    ∙ ap (flat_map write_text) (drop_more trace.writes n d low)

pub record_whole : (trace : GuestTrace) (bytes : List ℕ) (n : ℕ) → Spells bytes trace → n < length trace.writes
    → 16 + length_in (drop (begin_at trace.writes n) bytes) ≤ length (drop (begin_at trace.writes n) bytes)
record_whole trace bytes n spells low =
    let write : GuestWrite = get_or trace.writes n no_write in
    let rest : List ℕ = flat_map write_text (drop (n + 1) trace.writes) in
    let there = record_there trace bytes n no_write spells low in
    let is = spells.is_trace in
    let fits = HasPlaces-from_guest trace.version trace.shift trace.pages write is.size
    (is.writes.each n no_write low) in
    omega (
      arith,
      ap length there,
      ap length_in there,
      len_again write rest fits,
      length-append (write_text write) rest,
      length-write_text write,
    )

pub record_within : (trace : GuestTrace) (bytes : List ℕ) (n : ℕ) → Spells bytes trace → n < length trace.writes
    → begin_at trace.writes n ≤ length bytes
record_within trace bytes n spells low = omega (
  arith,
  record_whole trace bytes n spells low,
  length-drop (begin_at trace.writes n) bytes,
)

pub record_write : (trace : GuestTrace) (bytes : List ℕ) (n : ℕ) → Spells bytes trace → n < length trace.writes
    → write_in (drop (begin_at trace.writes n) bytes) ≡ get_or trace.writes n no_write
record_write trace bytes n spells low =
    let write : GuestWrite = get_or trace.writes n no_write in
    let is = spells.is_trace in
    ap write_in (record_there trace bytes n no_write spells low)
    ∙ write_again write (flat_map write_text (drop (n + 1) trace.writes))
    (HasPlaces-from_guest trace.version trace.shift trace.pages write is.size (is.writes.each n no_write low))

-- ---- the list of them

pub length-begins : (writes : List GuestWrite) → length (begins_of writes) ≡ length writes
length-begins writes = length-map (range_with_len 0 (length writes)) (begin_at writes)
    ∙ length-range_with_len 0 (length writes)

pub get_or-begins : (writes : List GuestWrite) (n d : ℕ) → n < length writes
    → get_or (begins_of writes) n d ≡ begin_at writes n
get_or-begins writes n d low =
    let range : List ℕ = range_with_len 0 (length writes) in
    let size : length range ≡ length writes = length-range_with_len 0 (length writes) in
    let own : 0 + n ≡ n = omega arith in
    get_or-map (begin_at writes) range n 0 d (omega (arith, size, low))
    ∙ ap (begin_at writes) (get_or-range_with_len 0 (length writes) n 0 low ∙ own)

-- ---- on the way through the writes

-- the first `count` of them are put, and the next one begins here
pub record ArePut (writes : List GuestWrite) (count begin : ℕ) (left : List GuestWrite) (begins pages : List ℕ)
    : Type 0 where
  pub begins_len : length begins ≡ length writes
  pub pages_len : length pages ≡ length writes
  pub few : count ≤ length writes
  pub left_is : left ≡ drop count writes
  pub begin_is : begin ≡ begin_at writes count
  pub begin_each : (n : ℕ) → n < count → get_or begins n 0 ≡ begin_at writes n
  pub page_each : (n : ℕ) → n < count → get_or pages n 0 ≡ (get_or writes n no_write).page

pub ArePut-none : (writes : List GuestWrite) (begins pages : List ℕ) → length begins ≡ length writes
    → length pages ≡ length writes → ArePut writes 0 16 writes begins pages
ArePut-none writes begins pages begins_len pages_len = record {
  begins_len = begins_len;
  pages_len = pages_len;
  few = omega arith;
  left_is = refl;
  begin_is = refl;
  begin_each = λ n low. absurd (omega (arith, low));
  page_each = λ n low. absurd (omega (arith, low));
}

-- what is left begins with the next write
pub ArePut-next : (writes : List GuestWrite) (count begin : ℕ) (write : GuestWrite) (left : List GuestWrite)
    (begins pages : List ℕ) → ArePut writes count begin (write ∷ left) begins pages
    → (count < length writes) × (write ≡ get_or writes count write) × (left ≡ drop (count + 1) writes)
ArePut-next writes count begin write left begins pages at =
    let low : count < length writes = omega (arith, ap length at.left_is, length-drop count writes) in
    let same = at.left_is ∙ drop_more writes count write low in
    (low, ap (λ (l : List GuestWrite). get_or l 0 write) same, ap (drop 1) same)

pub ArePut-more : (writes : List GuestWrite) (count begin : ℕ) (write : GuestWrite) (left : List GuestWrite)
    (begins pages : List ℕ) → ArePut writes count begin (write ∷ left) begins pages
    → ArePut writes (count + 1) (begin + (16 + length write.bytes)) left (set begins count begin)
    (set pages count write.page)
ArePut-more writes count begin write left begins pages at =
    let next = ArePut-next writes count begin write left begins pages at in
    let low = next.0 in
    record {
      begins_len = length-set begins count begin ∙ at.begins_len;
      pages_len = length-set pages count write.page ∙ at.pages_len;
      few = omega (arith, low);
      left_is = next.2;
      begin_is = omega (arith, at.begin_is, begin_next writes count write low next.1);
      begin_each = λ n inside. elim (cases_eq n count) [
        | inl same ↦
            ap (λ (k : ℕ). get_or (set begins count begin) k 0) same
            ∙ get_or-set_same begins count begin 0 (omega (arith, low, at.begins_len)) ∙ at.begin_is
            ∙ ap (begin_at writes) (sym same)
        | inr apart ↦
            get_or-set_other begins count n begin 0 apart ∙ at.begin_each n (omega (arith, inside, apart))
      ];
      page_each = λ n inside. elim (cases_eq n count) [
        | inl same ↦
            ap (λ (k : ℕ). get_or (set pages count write.page) k 0) same
            ∙ get_or-set_same pages count write.page 0 (omega (arith, low, at.pages_len))
            ∙ ap (λ (w : GuestWrite). w.page) (next.1 ∙ get_or_default writes count write no_write low)
            ∙ ap (λ (k : ℕ). (get_or writes k no_write).page) (sym same)
        | inr apart ↦
            get_or-set_other pages count n write.page 0 apart ∙ at.page_each n (omega (arith, inside, apart))
      ];
    }

pub ArePut-all : (writes : List GuestWrite) (count begin : ℕ) (begins pages : List ℕ)
    → ArePut writes count begin [] begins pages
    → (begins ≡ begins_of writes) × (pages ≡ map (λ (w : GuestWrite). w.page) writes)
ArePut-all writes count begin begins pages at =
    let all : length writes ≤ count = omega (arith, ap length at.left_is, length-drop count writes) in
    let page : GuestWrite → ℕ = λ w. w.page in (
      same_lists begins (begins_of writes) (at.begins_len ∙ sym (length-begins writes)) (λ n d low.
          let inside : n < length writes = omega (arith, low, at.begins_len) in
          get_or_default begins n d 0 low ∙ at.begin_each n (omega (arith, inside, all))
          ∙ sym (get_or-begins writes n d inside)),
      same_lists pages (map page writes) (at.pages_len ∙ sym (length-map writes page)) (λ n d low.
          let inside : n < length writes = omega (arith, low, at.pages_len) in
          get_or_default pages n d 0 low ∙ at.page_each n (omega (arith, inside, all))
          ∙ sym (get_or-map page writes n no_write d inside)),
    )
