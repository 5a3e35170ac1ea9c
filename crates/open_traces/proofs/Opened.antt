-- A trace that is opened, and its index cut into lists.
use Rattle.std.proofs.Common.{◌≡◌, ℕ, ◌+◌, ◌<◌, ◌≤◌, List, ◌++◌, length, take, drop, get_or, refl, sym, ap, subst, ◌∙◌, arith}
use Rattle.std.specs.List.{All}
use Rattle.std.proofs.lemmas.List.{drop_at, length-append, length-map, take_at}
use Rattle.std.proofs.lemmas.List.Elements.{All-map, All-weaker}
use Rattle.std.proofs.lemmas.List.FromFn.{length-map-range_with_len}
use Rattle.migration_model.specs.Trace.{GuestTrace, GuestWrite, IsGuestWrite, IsTrace, Spells, trace_with}
use Rattle.migration_model.specs.TraceReading.{writes_in}
use Rattle.migration_model.proofs.Traces.{spelling_reads_back}
use Rattle.trace_readers.specs.Texts.{held_trace}
use Rattle.open_traces.specs.Index.{IsOpen, IsOpenAs, begins_of, index_length, index_of, pages_of, places_below}
use Rattle.open_traces.specs.Index.{places_in, starts_below}
use Rattle.page_versions.specs.Index.{places_of}
use Rattle.std.proofs.Common.{cond, eqb, [], ◌∷◌}
use Rattle.migration_model.proofs.Places.{from, from_is}
use Rattle.page_versions.proofs.Places.{places_of_is}
use Rattle.open_traces.proofs.PagePlaces.{below_all, below_few, last_part_is, part_ends, part_is, start_at}
use Rattle.open_traces.proofs.RecordPlaces.{length-begins}

pub length-pages : (writes : List GuestWrite) → length (pages_of writes) ≡ length writes
length-pages writes = length-map writes (λ (w : GuestWrite). w.page)

-- the pages of the writes of a trace are pages of its guest
pub pages_fit : (trace : GuestTrace) (count : ℕ) → IsTrace trace → count ≡ trace.pages
    → All (λ page. page < count) (pages_of trace.writes)
pages_fit trace count is same =
    All-map (λ (page : ℕ). page < count) (λ (w : GuestWrite). w.page) trace.writes
    (All-weaker (IsGuestWrite trace.version trace.shift trace.pages) (λ (w : GuestWrite). w.page < count)
    (λ w fits. omega (arith, fits.page, same)) trace.writes is.writes.each)

length-places : (trace : GuestTrace) → IsTrace trace
    → length (places_below (pages_of trace.writes) trace.pages) ≡ length trace.writes
length-places trace is = below_all (pages_of trace.writes) trace.pages (pages_fit trace trace.pages is refl)
    ∙ length-pages trace.writes

length-starts : (trace : GuestTrace) → length (starts_below (pages_of trace.writes) trace.pages) ≡ trace.pages
length-starts trace =
    length-map-range_with_len (λ page. length (places_below (pages_of trace.writes) page)) 0 trace.pages

pub length-index : (trace : GuestTrace) → IsTrace trace → length (index_of trace) ≡ index_length trace
length-index trace is =
    let pages : List ℕ = pages_of trace.writes in
    let places : List ℕ = places_below pages trace.pages in
    let starts : List ℕ = starts_below pages trace.pages in
    omega (
      arith,
      length-append (begins_of trace.writes) (pages ++ (places ++ starts)),
      length-append pages (places ++ starts),
      length-append places starts,
      length-begins trace.writes,
      length-pages trace.writes,
      length-places trace is,
      length-starts trace,
    )

-- the bytes show the trace
pub shows : (trace : GuestTrace) (version shift pages count : ℕ) (bytes : List ℕ) → Spells bytes trace
    → version ≡ trace.version → shift ≡ trace.shift → pages ≡ trace.pages → count ≡ length trace.writes
    → held_trace version shift pages count bytes ≡ trace
shows trace version shift pages count bytes spells version_is shift_is pages_is count_is =
    let read = spelling_reads_back bytes trace spells in
    let writes = ap (λ (n : ℕ). writes_in n (drop 16 bytes)) count_is ∙ read.writes in
    λ i. trace_with (version_is i) (shift_is i) (pages_is i) (writes i)

-- so it is the trace whose index this is
pub at_trace : (trace held : GuestTrace) (bytes begins pages places starts : List ℕ) → held ≡ trace
    → IsOpenAs held bytes begins pages places starts → IsOpenAs trace bytes begins pages places starts
at_trace trace held bytes begins pages places starts same is =
    subst (λ (t : GuestTrace). IsOpenAs t bytes begins pages places starts) same is

cut : (trace : GuestTrace) (bytes words : List ℕ) (n : ℕ) → IsOpen trace bytes words → n ≡ length trace.writes
    → IsOpenAs trace bytes (take n words) (take n (drop n words)) (take n (drop n (drop n words)))
    (drop n (drop n (drop n words)))
cut trace bytes words n is same =
    let fits = is.spells.is_trace in
    let begins : List ℕ = begins_of trace.writes in
    let pages : List ℕ = pages_of trace.writes in
    let places : List ℕ = places_below pages trace.pages in
    let starts : List ℕ = starts_below pages trace.pages in
    let behind : drop n words ≡ pages ++ (places ++ starts) = ap (drop n) is.words_are
    ∙ drop_at begins (pages ++ (places ++ starts)) n (length-begins trace.writes ∙ sym same) in
    let last : drop n (drop n words) ≡ places ++ starts = ap (drop n) behind
    ∙ drop_at pages (places ++ starts) n (length-pages trace.writes ∙ sym same) in
    record {
      spells = is.spells;
      begins_are = ap (take n) is.words_are
          ∙ take_at begins (pages ++ (places ++ starts)) n (length-begins trace.writes ∙ sym same);
      pages_are = ap (take n) behind ∙ take_at pages (places ++ starts) n (length-pages trace.writes ∙ sym same);
      places_are = ap (take n) last ∙ take_at places starts n (length-places trace fits ∙ sym same);
      starts_are = ap (drop n) last ∙ drop_at places starts n (length-places trace fits ∙ sym same);
    }

pub is_open_as : (trace : GuestTrace) (version shift pages count n : ℕ) (bytes words : List ℕ)
    → IsOpen trace bytes words → version ≡ trace.version → shift ≡ trace.shift → pages ≡ trace.pages
    → count ≡ length trace.writes → n ≡ count
    → IsOpenAs (held_trace version shift pages count bytes) bytes (take n words) (take n (drop n words))
    (take n (drop n (drop n words))) (drop n (drop n (drop n words)))
is_open_as trace version shift pages count n bytes words is version_is shift_is pages_is count_is same =
    subst (λ (t : GuestTrace). IsOpenAs t bytes (take n words) (take n (drop n words)) (take n (drop n (drop n words)))
    (drop n (drop n (drop n words))))
    (sym (shows trace version shift pages count bytes is.spells version_is shift_is pages_is count_is))
    (cut trace bytes words n is (same ∙ count_is))

-- ---- the places of one page

from_pages : (page s : ℕ) (writes : List GuestWrite)
    → from (λ p. eqb p page) s (pages_of writes) ≡ from (λ (w : GuestWrite). eqb w.page page) s writes
from_pages page s [] = refl
from_pages page s (write ∷ writes) =
    ap (λ (l : List ℕ). cond (eqb write.page page) (s ∷ l) l) (from_pages page (s + 1) writes)

-- the places of a page among them are those of the writes to it
pub places_of_pages : (trace : GuestTrace) (page : ℕ) → places_in (pages_of trace.writes) page ≡ places_of trace page
places_of_pages trace page =
    from_is (λ (p : ℕ). eqb p page) 1 (pages_of trace.writes) ∙ from_pages page 1 trace.writes
    ∙ sym (places_of_is trace page)

pub record HasPart (trace : GuestTrace) (page : ℕ) (places starts : List ℕ) : Type 0 where
  pub inside : page < length starts
  pub few : get_or starts page 0 + length (places_of trace page) ≤ length places
  pub own : take (length (places_of trace page)) (drop (get_or starts page 0) places) ≡ places_of trace page
  pub next : page + 1 < length starts
      → get_or starts (page + 1) 0 ≡ get_or starts page 0 + length (places_of trace page)
  pub last : page + 1 ≡ length starts → drop (get_or starts page 0) places ≡ places_of trace page

pub has_part : (trace : GuestTrace) (page : ℕ) (bytes begins pages places starts : List ℕ)
    → IsOpenAs trace bytes begins pages places starts → page < trace.pages → HasPart trace page places starts
has_part trace page bytes begins pages places starts is low =
    let all : List ℕ = pages_of trace.writes in
    let size : length starts ≡ trace.pages = ap length is.starts_are ∙ length-starts trace in
    let start : get_or starts page 0 ≡ length (places_below all page) =
    ap (λ (l : List ℕ). get_or l page 0) is.starts_are ∙ start_at all page trace.pages 0 low in
    let own_is : places_in all page ≡ places_of trace page = places_of_pages trace page in
    let most : length places ≡ length all = ap length is.places_are
    ∙ below_all all trace.pages (pages_fit trace trace.pages is.spells.is_trace refl) in
    record {
      inside = omega (arith, low, size);
      few = omega (arith, start, ap length own_is, part_ends all page, below_few all (page + 1), most);
      own = (λ i. take (length (sym own_is i)) (drop (start i) (is.places_are i)))
          ∙ part_is all page trace.pages low ∙ own_is;
      next = λ more. ap (λ (l : List ℕ). get_or l (page + 1) 0) is.starts_are
          ∙ start_at all (page + 1) trace.pages 0 (omega (arith, more, size))
          ∙ omega (arith, start, ap length own_is, part_ends all page);
      last = λ end. (λ i. drop (start i) (is.places_are i))
          ∙ last_part_is all page trace.pages (end ∙ size) ∙ own_is;
    }
