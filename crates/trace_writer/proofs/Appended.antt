-- A trace with one more write at its end: what it is refused for, and its bytes.
use Rattle.std.proofs.Common.{◌≡◌, ℕ, ◌+◌, ◌^◌, ◌<◌, ◌≤◌, nat_le, List, [], ◌∷◌, ◌++◌, length, take, drop, Some, None}
use Rattle.std.proofs.Common.{refl, sym, ap, ◌∙◌, append_assoc, get_or, arith}
use Rattle.std.specs.Int.{w32}
use Rattle.std.specs.List.{All, flat_map, fold}
use Rattle.std.specs.List.Sorted.{IsNonDecreasingBy}
use Rattle.std.proofs.lemmas.List.{append-nil, get_or_at, length_push, take_all, take_at}
use Rattle.std.proofs.lemmas.Grind.{flat_map-append}
use Rattle.std.proofs.lemmas.List.Sums.{sum_by_push}
use Rattle.migration_model.specs.Memory.{put}
use Rattle.migration_model.specs.Numbers.{text_of}
use Rattle.migration_model.specs.Trace.{GuestWrite, GuestTrace, IsGuestSize, IsTrace, header_text, last_by, last_tick}
use Rattle.migration_model.specs.Trace.{magic, trace_text, write_text}
use Rattle.migration_model.proofs.Order.{last_by-push}
use Rattle.migration_model.proofs.Traces.{length-header_text}
use Rattle.trace_codec.specs.Refusals.{record_refusal, sizes_refusal, RefusesTrace, in_sizes, in_record}
use Rattle.trace_codec.specs.declared.error.TraceError.{TraceError}
use Rattle.trace_codec.proofs.Made.{length_of_text, Tested, Tested-more}
use Rattle.trace_writer.specs.Recordings.{Tells, Records, with_write, no_writes}
use Rattle.trace_writer.specs.declared.recording.Recording.{Recording}
use Rattle.trace_writer.proofs.Puts.{put_within}

-- how long it is
pub length-more : (trace : GuestTrace) (write : GuestWrite)
    → length (trace_text (with_write trace write)) ≡ length (trace_text trace) + (16 + length write.bytes)
length-more trace write =
    let size : GuestWrite → ℕ = λ w. 16 + length w.bytes in
    omega (
      arith,
      length_of_text trace.version trace.shift trace.pages trace.writes,
      length_of_text trace.version trace.shift trace.pages (trace.writes ++ write ∷ []),
      sum_by_push size trace.writes write,
    )

-- the encoding of a trace without writes has a header alone
pub length-no_writes : (shift pages : ℕ) → length (trace_text (no_writes shift pages)) ≡ 16
length-no_writes shift pages = length_of_text 2 shift pages []

-- ---- what it is refused for

fold_last : {X : Type 0} (number : X → ℕ) (start : ℕ) (x : X) (xs : List X) (d : X)
    → fold (λ last y. number y) start (x ∷ xs) ≡ number (get_or (x ∷ xs) (length xs) d)
fold_last number start x [] d = refl
fold_last number start x (y ∷ ys) d = fold_last number (number x) y ys d

-- of an ordered list none is greater than the last
below_last : {X : Type 0} (number : X → ℕ) (xs : List X) → IsNonDecreasingBy number xs
    → All (λ x. number x ≤ last_by number xs) xs
below_last number [] order k d low = absurd (omega (arith, low))
below_last number (x ∷ xs) order k d low = rw (fold_last number 0 x xs d)
    (order k (length xs) d (omega (arith, low)) (omega arith))

same_record : (r : Recording) (trace : GuestTrace) (write : GuestWrite) → Tells r trace
    → record_refusal trace.version trace.shift trace.pages (last_tick trace.writes) (length trace.writes) write
    ≡ record_refusal 2 r.shift r.pages r.last_tick r.writes write
same_record r trace write tells = λ i. record_refusal (tells.version_is i) (sym tells.shift_is i)
    (sym tells.pages_are i) (sym tells.tick_is i) (sym tells.writes_are i) write

pub end_is : (r : Recording) (trace : GuestTrace) (write : GuestWrite) (end : ℕ) → Tells r trace
    → end ≡ r.length + (16 + length write.bytes) → length (trace_text (with_write trace write)) ≡ end
end_is r trace write end tells is = omega (arith, length-more trace write, tells.size_is, is)

count_is : (r : Recording) (trace : GuestTrace) (write : GuestWrite) → Tells r trace
    → length (trace.writes ++ write ∷ []) ≡ r.writes + 1
count_is r trace write tells = omega (arith, length_push trace.writes write, tells.writes_are)

same_sizes : (r : Recording) (trace : GuestTrace) (write : GuestWrite) (end : ℕ) → Tells r trace
    → end ≡ r.length + (16 + length write.bytes)
    → sizes_refusal (nat_le (length (trace_text (with_write trace write))) (2 ^ 28)) trace.version trace.shift
    trace.pages (length (trace.writes ++ write ∷ []))
    ≡ sizes_refusal (nat_le end (2 ^ 28)) 2 r.shift r.pages (r.writes + 1)
same_sizes r trace write end tells is = λ i. sizes_refusal (nat_le (end_is r trace write end tells is i) (2 ^ 28))
    (tells.version_is i) (sym tells.shift_is i) (sym tells.pages_are i) (count_is r trace write tells i)

pub refuse_sizes : (r : Recording) (trace : GuestTrace) (write : GuestWrite) (end : ℕ) (e : TraceError)
    → sizes_refusal (nat_le end (2 ^ 28)) 2 r.shift r.pages (r.writes + 1) ≡ Some e → Tells r trace
    → end ≡ r.length + (16 + length write.bytes) → RefusesTrace (with_write trace write) e
refuse_sizes r trace write end e refused tells is = in_sizes (same_sizes r trace write end tells is ∙ refused)

pub refuse_record : (r : Recording) (trace : GuestTrace) (write : GuestWrite) (end : ℕ) (e : TraceError)
    → sizes_refusal (nat_le end (2 ^ 28)) 2 r.shift r.pages (r.writes + 1) ≡ None
    → record_refusal 2 r.shift r.pages r.last_tick r.writes write ≡ Some e → Tells r trace
    → end ≡ r.length + (16 + length write.bytes) → RefusesTrace (with_write trace write) e
refuse_record r trace write end e none refused tells is =
    in_record (same_sizes r trace write end tells is ∙ none) (record {
      before = trace.writes;
      write = write;
      after = [];
      parts = refl;
      fit = tells.is_trace.writes;
      refused = same_record r trace write tells ∙ refused;
    })

pub more_is_trace : (r : Recording) (trace : GuestTrace) (write : GuestWrite) (end : ℕ) → end ≤ 2 ^ 28
    → r.writes + 1 ≤ 2 ^ 20 → record_refusal 2 r.shift r.pages r.last_tick r.writes write ≡ None → Tells r trace
    → end ≡ r.length + (16 + length write.bytes) → IsTrace (with_write trace write)
more_is_trace r trace write end short few none tells is =
    let all = trace.writes ++ write ∷ [] in
    let n = length trace.writes in
    let last = last_tick trace.writes in
    let front : take n all ≡ trace.writes = take_at trace.writes (write ∷ []) n refl in
    let low : n < length all = omega (arith, length_push trace.writes write) in
    let here : write ≡ get_or all n write = sym (get_or_at trace.writes write [] write n refl) in
    let so_far : Tested trace.version trace.shift trace.pages n all last = record {
      fit = rw front tells.is_trace.writes;
      last_is = rw front refl;
      below = rw front (below_last (λ (w : GuestWrite). w.tick) trace.writes tells.is_trace.writes.in_order);
    } in
    let tested = Tested-more trace.version trace.shift trace.pages n all last write.tick write low here refl so_far
    (same_record r trace write tells ∙ none) in
    let whole : take (n + 1) all ≡ all = take_all (n + 1) all (omega (arith, length_push trace.writes write)) in
    record {
      version_low = tells.is_trace.version_low;
      version_high = tells.is_trace.version_high;
      size = tells.is_trace.size;
      count = omega (arith, count_is r trace write tells, few);
      writes = rw whole at tested.fit;
      short = omega (arith, end_is r trace write end tells is, short);
    }

-- ---- its bytes

abbrev header_front : ℕ → ℕ → ℕ → List ℕ
header_front version shift pages = magic ++ version ∷ shift ∷ 0 ∷ 0 ∷ text_of w32 pages

header_cut : (version shift pages writes : ℕ) → header_text version shift pages writes
    ≡ header_front version shift pages ++ text_of w32 writes
unfolding header_text
header_cut version shift pages writes = refl

length-header_front : (version shift pages : ℕ) → length (header_front version shift pages) ≡ 12
unfolding text_of
length-header_front version shift pages = refl

pub length-word : (n : ℕ) → length (text_of w32 n) ≡ 4
unfolding text_of
length-word n = refl

-- the header up to the count, the count, and the writes
text_cut : (trace : GuestTrace) → trace_text trace ≡ header_front trace.version trace.shift trace.pages
    ++ (text_of w32 (length trace.writes) ++ flat_map write_text trace.writes)
unfolding trace_text
text_cut trace = ap (λ (x : List ℕ). x ++ flat_map write_text trace.writes)
    (header_cut trace.version trace.shift trace.pages (length trace.writes))
    ∙ append_assoc (header_front trace.version trace.shift trace.pages) (text_of w32 (length trace.writes))
    (flat_map write_text trace.writes)

-- the trace's bytes, the write behind them and the new count
text_more : (trace : GuestTrace) (write : GuestWrite) (tail : List ℕ)
    → put (trace_text trace ++ (write_text write ++ tail)) 12 (text_of w32 (length (trace.writes ++ write ∷ [])))
    ≡ trace_text (with_write trace write) ++ tail
text_more trace write tail =
    let front = header_front trace.version trace.shift trace.pages in
    let old = text_of w32 (length trace.writes) in
    let new = text_of w32 (length (trace.writes ++ write ∷ [])) in
    let body = flat_map write_text trace.writes in
    let last = write_text write in
    let grouped : trace_text trace ++ (last ++ tail) ≡ front ++ (old ++ (body ++ (last ++ tail))) =
    ap (λ (x : List ℕ). x ++ (last ++ tail)) (text_cut trace)
    ∙ append_assoc front (old ++ body) (last ++ tail)
    ∙ ap (λ (x : List ℕ). front ++ x) (append_assoc old body (last ++ tail)) in
    let within = put_within front old new (body ++ (last ++ tail)) 12
    (length-header_front trace.version trace.shift trace.pages)
    (length-word (length (trace.writes ++ write ∷ [])) ∙ sym (length-word (length trace.writes))) in
    let writes : flat_map write_text (trace.writes ++ write ∷ []) ≡ body ++ last =
    flat_map-append write_text trace.writes (write ∷ []) ∙ ap (λ (x : List ℕ). body ++ x) (append-nil last) in
    let made : trace_text (with_write trace write) ++ tail ≡ front ++ (new ++ (body ++ (last ++ tail))) =
    ap (λ (x : List ℕ). x ++ tail) (text_cut (with_write trace write))
    ∙ append_assoc front (new ++ flat_map write_text (trace.writes ++ write ∷ [])) tail
    ∙ ap (λ (x : List ℕ). front ++ x) (append_assoc new (flat_map write_text (trace.writes ++ write ∷ [])) tail
    ∙ ap (λ (x : List ℕ). new ++ x) (ap (λ (x : List ℕ). x ++ tail) writes ∙ append_assoc body last tail)) in
    ap (λ (x : List ℕ). put x 12 new) grouped ∙ within ∙ sym made

pub records_more : (bytes : List ℕ) (r s : Recording) (trace : GuestTrace) (write : GuestWrite)
    → s.length ≡ r.length + (16 + length write.bytes) → s.last_tick ≡ write.tick → s.writes ≡ r.writes + 1
    → s.pages ≡ r.pages → s.shift ≡ r.shift → s.length ≤ length bytes → IsTrace (with_write trace write)
    → Records bytes r trace
    → Records (put (put bytes r.length (write_text write)) 12 (text_of w32 s.writes)) s (with_write trace write)
records_more bytes r s trace write length_is tick_is writes_is pages_is shift_is room is_trace records =
    let tells = records.tells in
    let last = write_text write in
    let tail = drop (r.length + length last) bytes in
    let next = with_write trace write in
    let count : s.writes ≡ length next.writes = writes_is ∙ sym (count_is r trace write tells) in
    let size : length (trace_text next) ≡ s.length = end_is r trace write s.length tells length_is in
    let text : put (put bytes r.length last) 12 (text_of w32 s.writes) ≡ trace_text next ++ tail =
    (λ i. put (records.spells.text i ++ (last ++ tail)) 12 (text_of w32 (count i))) ∙ text_more trace write tail in
    record {
      tells = record {
        is_trace = is_trace;
        version_is = tells.version_is;
        shift_is = shift_is ∙ tells.shift_is;
        pages_are = pages_is ∙ tells.pages_are;
        writes_are = count;
        tick_is = tick_is ∙ sym (last_by-push (λ (w : GuestWrite). w.tick) trace.writes write);
        size_is = sym size;
      };
      spells = record {
        is_trace = is_trace;
        text = ap (take s.length) text ∙ take_at (trace_text next) tail s.length size;
      };
    }

-- ---- a trace that is begun

pub begun_is_trace : (shift pages : ℕ) → IsGuestSize shift pages → IsTrace (no_writes shift pages)
begun_is_trace shift pages size = record {
  version_low = omega arith;
  version_high = omega arith;
  size = size;
  count = omega arith;
  writes = record { each = λ k d low. absurd (omega (arith, low)); in_order = λ i j d le low. absurd (omega (arith, low)) };
  short = omega (arith, length-no_writes shift pages);
}

text_begun : (shift pages : ℕ) → header_text 2 shift pages 0 ≡ trace_text (no_writes shift pages)
unfolding trace_text
text_begun shift pages = sym (append-nil (header_text 2 shift pages 0))

pub records_begun : (bytes : List ℕ) (s : Recording) (shift pages : ℕ) → s.length ≡ 16 → s.last_tick ≡ 0
    → s.writes ≡ 0 → s.pages ≡ pages → s.shift ≡ shift → IsGuestSize shift pages → 16 ≤ length bytes
    → Records (put bytes 0 (header_text 2 shift pages 0)) s (no_writes shift pages)
records_begun bytes s shift pages length_is tick_is writes_is pages_is shift_is size room =
    let is_trace = begun_is_trace shift pages size in
    let tail = drop (0 + length (header_text 2 shift pages 0)) bytes in
    record {
      tells = record {
        is_trace = is_trace;
        version_is = refl;
        shift_is = shift_is;
        pages_are = pages_is;
        writes_are = writes_is;
        tick_is = tick_is;
        size_is = length_is ∙ sym (length-no_writes shift pages);
      };
      spells = record {
        is_trace = is_trace;
        text = take_at (header_text 2 shift pages 0) tail s.length
            (length-header_text 2 shift pages 0 ∙ sym length_is) ∙ text_begun shift pages;
      };
    }

pub begun_refused : (shift pages : ℕ) (e : TraceError) → sizes_refusal (nat_le 16 (2 ^ 28)) 2 shift pages 0 ≡ Some e
    → RefusesTrace (no_writes shift pages) e
begun_refused shift pages e refused =
    in_sizes ((λ i. sizes_refusal (nat_le (length-no_writes shift pages i) (2 ^ 28)) 2 shift pages 0) ∙ refused)
