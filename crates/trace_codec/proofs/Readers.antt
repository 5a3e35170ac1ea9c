-- How a reader on its way continues, and ends.
use Rattle.std.proofs.Common.{◌≡◌, ℕ, ◌+◌, ◌<◌, List, [], ◌∷◌, ◌++◌, length, drop, Some, None, refl, sym, ap, subst}
use Rattle.std.proofs.Common.{◌∙◌, inl, inr, arith}
use Rattle.std.proofs.lemmas.List.{nil_from_length}
use Rattle.migration_model.specs.Trace.{GuestWrite, Spells, trace_with}
use Rattle.migration_model.specs.TraceReading.{tick_in, write_in, rest_after, writes_in}
use Rattle.migration_model.proofs.Writes.{length-writes_in, writes_in_more}
use Rattle.trace_codec.specs.Reading.{IsReading, ReaderState, reader_state, ReadsTo, rest_at, refusal_at}
use Rattle.trace_codec.specs.Refusals.{Refuses, write_refusal}
use Rattle.trace_codec.specs.declared.error.TraceError.{TraceError}
use Rattle.trace_codec.specs.declared.error.TraceError.TheVariants.{TrailingBytes}
use Rattle.trace_codec.proofs.Found.{cut_refused, cut_spelled}
use Rattle.trace_codec.proofs.Steps.{IsRight-from_none, ReadsTo-more}

-- how many writes a reader has read
pub read_count : (state : ReaderState) (bytes : List ℕ) (version shift pages count n : ℕ)
    → reader_state bytes version shift pages count (writes_in n (drop 16 bytes)) ≡ state
    → length state.writes ≡ n
read_count state bytes version shift pages count n is = sym (ap (λ (s : ReaderState). length s.writes) is)
    ∙ length-writes_in n (drop 16 bytes)

pub reads_on : (bytes : List ℕ) (version shift pages count n last : ℕ) (rest : List ℕ)
    → IsReading bytes version shift pages count n last rest → n < count
    → write_refusal version shift pages last n rest ≡ None → IsReading bytes version shift pages count (n + 1)
    (tick_in rest) (rest_after rest)
reads_on bytes version shift pages count n last rest on more none =
    record {
      cut = on.cut;
      reads = ReadsTo-more version shift pages n (drop 16 bytes) last rest on.reads
          (IsRight-from_none version shift pages last n rest none);
      few = omega arith;
    }

pub read_refused : (bytes : List ℕ) (version shift pages count n last : ℕ) (rest : List ℕ) (e : TraceError)
    → IsReading bytes version shift pages count n last rest
    → n < count → write_refusal version shift pages last n rest ≡ Some e → Refuses bytes e
read_refused bytes version shift pages count n last rest e on more is =
    cut_refused bytes version shift pages count (drop 16 bytes) e on.cut (inl (n, last, rest, more, on.reads, is))

pub end_refused : (bytes : List ℕ) (version shift pages count n last : ℕ) (rest : List ℕ)
    → IsReading bytes version shift pages count n last rest → n ≡ count
    → 0 < length rest → Refuses bytes TrailingBytes
end_refused bytes version shift pages count n last rest on all more =
    cut_refused bytes version shift pages count (drop 16 bytes) TrailingBytes on.cut
    (inr (last, rest, subst (λ k. ReadsTo version shift pages k (drop 16 bytes) last rest) all on.reads, more, refl))

pub end_spelled : (bytes : List ℕ) (version shift pages count n last : ℕ) (rest : List ℕ)
    → IsReading bytes version shift pages count n last rest → n ≡ count
    → length rest ≡ 0 → Spells bytes (trace_with version shift pages (writes_in n (drop 16 bytes)))
end_spelled bytes version shift pages count n last rest on all none =
    let reads = subst (λ k. ReadsTo version shift pages k (drop 16 bytes) last rest) all on.reads in
    rw all (cut_spelled bytes version shift pages count (drop 16 bytes) on.cut
    (record { holds = reads.holds; fit = reads.fit; all = sym reads.rest_is ∙ nil_from_length rest none }))

-- the state after one more write
pub state_more : (state : ReaderState) (bytes : List ℕ) (version shift pages count n last : ℕ) (rest : List ℕ)
    (write : GuestWrite)
    → IsReading bytes version shift pages count n last rest
    → reader_state bytes version shift pages count (writes_in n (drop 16 bytes)) ≡ state → write ≡ write_in rest
    → reader_state bytes version shift pages count (writes_in (n + 1) (drop 16 bytes))
    ≡ record state { writes = state.writes ++ write ∷ [] }
state_more state bytes version shift pages count n last rest write on is read =
    ap (reader_state bytes version shift pages count) (writes_in_more n (drop 16 bytes)
    ∙ ap (λ (w : GuestWrite). writes_in n (drop 16 bytes) ++ w ∷ [])
    (ap write_in (sym on.reads.rest_is) ∙ sym read))
    ∙ ap (λ (s : ReaderState). record s { writes = s.writes ++ write ∷ [] }) is

-- what a reader's own numbers say of the rest, its state says
pub rest_is : (state : ReaderState) (bytes : List ℕ) (version shift pages count n last : ℕ) (rest : List ℕ)
    → IsReading bytes version shift pages count n last rest
    → reader_state bytes version shift pages count (writes_in n (drop 16 bytes)) ≡ state → rest ≡ rest_at state
rest_is state bytes version shift pages count n last rest on is =
    subst (λ (s : ReaderState). rest ≡ rest_at s) is (rw (length-writes_in n (drop 16 bytes)) on.reads.rest_is)

pub refusal_is : (state : ReaderState) (bytes : List ℕ) (version shift pages count n last : ℕ) (rest : List ℕ)
    → IsReading bytes version shift pages count n last rest
    → reader_state bytes version shift pages count (writes_in n (drop 16 bytes)) ≡ state
    → refusal_at state ≡ write_refusal version shift pages last n rest
refusal_is state bytes version shift pages count n last rest on is =
    subst (λ (s : ReaderState). refusal_at s ≡ write_refusal version shift pages last n rest) is
    (rw (length-writes_in n (drop 16 bytes), on.reads.last_is, on.reads.rest_is) refl)
