-- Bytes encode at most one trace.
use Rattle.std.proofs.Common.{◌≡◌, ℕ, ◌^◌, ◌<◌, List, [], ◌++◌, length, get_or, drop, refl, sym, ap, ◌∙◌, arith}
use Rattle.std.specs.Int.{w32}
use Rattle.std.specs.List.{AllByRecursion, flat_map}
use Rattle.std.proofs.lemmas.List.{append-nil, drop_at}
use Rattle.std.proofs.lemmas.List.Elements.{All-weaker, recursion_from_All}
use Rattle.migration_model.specs.Numbers.{text_of, number_in}
use Rattle.migration_model.specs.Trace.{GuestWrite, GuestTrace, IsGuestSize, IsGuestWrite, AreGuestWrites, write_text}
use Rattle.migration_model.specs.Trace.{header_text, trace_text, Spells}
use Rattle.migration_model.specs.TraceReading.{writes_in}
use Rattle.migration_model.proofs.Numbers.{wide32}
use Rattle.migration_model.proofs.Writes.{HasPlaces, HasPlaces-from_guest, writes_again}

pub length-header_text : (version shift pages count : ℕ) → length (header_text version shift pages count) ≡ 16
unfolding header_text text_of
length-header_text version shift pages count = refl

-- the fields of a header, read from any bytes that begin with it
pub version_again : (version shift pages count : ℕ) (rest : List ℕ)
    → get_or (header_text version shift pages count ++ rest) 4 0 ≡ version
unfolding header_text
version_again version shift pages count rest = refl

pub shift_again : (version shift pages count : ℕ) (rest : List ℕ)
    → get_or (header_text version shift pages count ++ rest) 5 0 ≡ shift
unfolding header_text
shift_again version shift pages count rest = refl

pub pages_again : (version shift pages count : ℕ) (rest : List ℕ) → pages < 2 ^ 32
    → number_in w32 (drop 8 (header_text version shift pages count ++ rest)) ≡ pages
unfolding header_text text_of
pages_again version shift pages count rest low = wide32.again pages (text_of w32 count ++ rest) low

pub count_again : (version shift pages count : ℕ) (rest : List ℕ) → count < 2 ^ 32
    → number_in w32 (drop 12 (header_text version shift pages count ++ rest)) ≡ count
unfolding header_text text_of
count_again version shift pages count rest low = wide32.again count rest low

pub body_again : (version shift pages count : ℕ) (rest : List ℕ)
    → drop 16 (header_text version shift pages count ++ rest) ≡ rest
body_again version shift pages count rest = drop_at (header_text version shift pages count) rest 16
    (length-header_text version shift pages count)

pub AllHavePlaces : (version shift pages : ℕ) (writes : List GuestWrite) → IsGuestSize shift pages
    → AreGuestWrites version shift pages writes → AllByRecursion HasPlaces writes
AllHavePlaces version shift pages writes size fits =
    recursion_from_All HasPlaces writes (All-weaker (IsGuestWrite version shift pages) HasPlaces
    (λ write is. HasPlaces-from_guest version shift pages write size is) writes fits.each)

-- what is read from the encoding of a trace
pub record ReadsBack (bytes : List ℕ) (trace : GuestTrace) : Type 0 where
  pub version : get_or bytes 4 0 ≡ trace.version
  pub shift : get_or bytes 5 0 ≡ trace.shift
  pub pages : number_in w32 (drop 8 bytes) ≡ trace.pages
  pub count : number_in w32 (drop 12 bytes) ≡ length trace.writes
  pub writes : writes_in (length trace.writes) (drop 16 bytes) ≡ trace.writes

pub spelling_reads_back : (bytes : List ℕ) (trace : GuestTrace) → Spells bytes trace → ReadsBack bytes trace
unfolding trace_text
spelling_reads_back bytes trace spells =
    let is = spells.is_trace in
    let text : bytes ≡ header_text trace.version trace.shift trace.pages (length trace.writes)
    ++ flat_map write_text trace.writes = spells.text in
    record {
      version = ap (λ (b : List ℕ). get_or b 4 0) text ∙ version_again _ _ _ _ _;
      shift = ap (λ (b : List ℕ). get_or b 5 0) text ∙ shift_again _ _ _ _ _;
      pages = ap (λ (b : List ℕ). number_in w32 (drop 8 b)) text
          ∙ pages_again _ _ trace.pages _ _ (omega (arith, is.size.pages_high));
      count = ap (λ (b : List ℕ). number_in w32 (drop 12 b)) text
          ∙ count_again _ _ _ (length trace.writes) _ (omega (arith, is.count));
      writes = ap (λ (b : List ℕ). writes_in (length trace.writes) (drop 16 b)) text
          ∙ ap (writes_in (length trace.writes)) (body_again _ _ _ _ (flat_map write_text trace.writes)
          ∙ sym (append-nil (flat_map write_text trace.writes)))
          ∙ writes_again trace.writes [] (AllHavePlaces _ _ _ trace.writes is.size is.writes);
    }

-- traces are equal if their fields are
same_trace : (s t : GuestTrace) → s.version ≡ t.version → s.shift ≡ t.shift → s.pages ≡ t.pages → s.writes ≡ t.writes
    → s ≡ t
same_trace s t version shift pages writes = λ i. record {
  version = version i;
  shift = shift i;
  pages = pages i;
  writes = writes i;
}

pub one_trace_lem : (bytes : List ℕ) (s t : GuestTrace) → Spells bytes s → Spells bytes t → s ≡ t
one_trace_lem bytes s t spells_s spells_t =
    let a = spelling_reads_back bytes s spells_s in
    let b = spelling_reads_back bytes t spells_t in
    same_trace s t (sym a.version ∙ b.version) (sym a.shift ∙ b.shift) (sym a.pages ∙ b.pages)
    (sym a.writes ∙ ap (λ n. writes_in n (drop 16 bytes)) (sym a.count ∙ b.count) ∙ b.writes)
