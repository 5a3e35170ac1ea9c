-- What a trace that is read in place says of its bytes.
use Rattle.std.proofs.Common.{◌≡◌, ℕ, zero, suc, List, ◌++◌, length, get_or, drop, None, refl, sym, ap, ◌∙◌}
use Rattle.std.proofs.Common.{append_assoc, inl, inr}
use Rattle.std.specs.Int.{w32}
use Rattle.std.specs.List.{flat_map}
use Rattle.std.proofs.lemmas.List.{append-nil}
use Rattle.migration_model.specs.Numbers.{IsBytes, number_in}
use Rattle.migration_model.specs.Trace.{GuestTrace, trace_with, write_text, header_text, trace_text, Spells}
use Rattle.migration_model.specs.TraceReading.{write_in, rest_after, writes_in, rest_of}
use Rattle.migration_model.proofs.Writes.{IsBytes-drop, IsBytes-rest_after, text_read, length-writes_in}
use Rattle.trace_codec.specs.Reading.{HoldsWrites, ReadsTo, IsBody, IsCut, IsView, RefusesBody}
use Rattle.trace_codec.specs.Refusals.{header_refusal, Begins, Refuses, in_write, behind}
use Rattle.trace_codec.specs.declared.error.TraceError.{TraceError}
use Rattle.trace_codec.proofs.Headers.{IsHeader-from_none}

-- bytes that hold `n` writes are the encodings of those, and the bytes after them
pub texts_read : (n : ℕ) (bytes : List ℕ) → IsBytes bytes → HoldsWrites n bytes
    → bytes ≡ flat_map write_text (writes_in n bytes) ++ rest_of n bytes
texts_read zero bytes fits holds = refl
texts_read (suc n) bytes fits holds =
    text_read bytes fits holds.0
    ∙ ap (λ (x : List ℕ). write_text (write_in bytes) ++ x) (texts_read n (rest_after bytes)
    (IsBytes-rest_after bytes fits) holds.1)
    ∙ sym (append_assoc (write_text (write_in bytes)) (flat_map write_text (writes_in n (rest_after bytes)))
    (rest_of n (rest_after bytes)))

-- the trace that the bytes encode
abbrev pub trace_in : List ℕ → GuestTrace
trace_in bytes = trace_with (get_or bytes 4 0) (get_or bytes 5 0) (number_in w32 (drop 8 bytes))
    (writes_in (number_in w32 (drop 12 bytes)) (drop 16 bytes))

pub is_spelled : (bytes : List ℕ) → IsBytes bytes → header_refusal bytes ≡ None
    → IsBody (get_or bytes 4 0) (get_or bytes 5 0) (number_in w32 (drop 8 bytes)) (number_in w32 (drop 12 bytes))
    (drop 16 bytes)
    → Spells bytes (trace_in bytes)
unfolding trace_text
is_spelled bytes fits none body =
    let header = IsHeader-from_none bytes fits none in
    let count = number_in w32 (drop 12 bytes) in
    let len : length (writes_in count (drop 16 bytes)) ≡ count = length-writes_in count (drop 16 bytes) in
    let texts : drop 16 bytes ≡ flat_map write_text (writes_in count (drop 16 bytes)) =
    texts_read count (drop 16 bytes) (IsBytes-drop 16 bytes fits) body.holds
    ∙ ap (λ (rest : List ℕ). flat_map write_text (writes_in count (drop 16 bytes)) ++ rest) body.all ∙ append-nil _ in
    let text : bytes ≡ trace_text (trace_in bytes) =
    header.text
    ∙ ap (λ (rest : List ℕ). header_text (get_or bytes 4 0) (get_or bytes 5 0) (number_in w32 (drop 8 bytes)) count
    ++ rest) texts
    ∙ ap (λ (n : ℕ). header_text (get_or bytes 4 0) (get_or bytes 5 0) (number_in w32 (drop 8 bytes)) n
    ++ flat_map write_text (writes_in count (drop 16 bytes))) (sym len) in
    record {
      is_trace = record {
        version_low = header.version_low;
        version_high = header.version_high;
        size = header.size;
        count = rw len header.few;
        writes = body.fit;
        short = rw (← text) header.short;
      };
      text = text;
    }

-- the bytes begin with these writes
begins : (n last : ℕ) (bytes rest : List ℕ) → IsBytes bytes → header_refusal bytes ≡ None
    → ReadsTo (get_or bytes 4 0) (get_or bytes 5 0) (number_in w32 (drop 8 bytes)) n (drop 16 bytes) last rest
    → Begins bytes
begins n last bytes rest fits none reads =
    let header = IsHeader-from_none bytes fits none in
    record {
      version = get_or bytes 4 0;
      shift = get_or bytes 5 0;
      pages = number_in w32 (drop 8 bytes);
      count = number_in w32 (drop 12 bytes);
      writes = writes_in n (drop 16 bytes);
      rest = rest;
      short = header.short;
      version_low = header.version_low;
      version_high = header.version_high;
      size = header.size;
      few = header.few;
      fit = reads.fit;
      parts = header.text
          ∙ ap (λ (x : List ℕ). header_text (get_or bytes 4 0) (get_or bytes 5 0) (number_in w32 (drop 8 bytes))
          (number_in w32 (drop 12 bytes)) ++ x)
          (texts_read n (drop 16 bytes) (IsBytes-drop 16 bytes fits) reads.holds
          ∙ ap (λ (x : List ℕ). flat_map write_text (writes_in n (drop 16 bytes)) ++ x) (sym reads.rest_is));
    }

pub is_refused : (bytes : List ℕ) (e : TraceError) → IsBytes bytes → header_refusal bytes ≡ None
    → RefusesBody (get_or bytes 4 0) (get_or bytes 5 0) (number_in w32 (drop 8 bytes)) (number_in w32 (drop 12 bytes))
    (drop 16 bytes) e
    → Refuses bytes e
unfolding begins
is_refused bytes e fits none refused =
    let body = drop 16 bytes in
    elim refused [
      | inl w ↦
          let reads = w.4 in
          let b = begins w.0 w.1 bytes w.2 fits none reads in
          let len : length (writes_in w.0 body) ≡ w.0 = length-writes_in w.0 body in
          in_write b (rw len w.3) (rw (len, ← reads.last_is) w.5)
      | inr w ↦
          let reads = w.2 in
          let b = begins _ w.0 bytes w.1 fits none reads in
          behind b (length-writes_in _ body) w.3 w.4
    ]

-- ---- these facts, by the names that the code has for the parts

pub cut_spelled : (bytes : List ℕ) (version shift pages count : ℕ) (body : List ℕ)
    → IsCut bytes version shift pages count body → IsBody version shift pages count body
    → Spells bytes (trace_with version shift pages (writes_in count body))
cut_spelled bytes version shift pages count body cut is =
    rw (cut.version_is, cut.shift_is, cut.pages_is, cut.count_is, cut.body_is)
    (is_spelled bytes cut.fits cut.header (rw (cut.version_is, cut.shift_is, cut.pages_is, cut.count_is, cut.body_is) at
    is))

pub cut_viewed : (bytes : List ℕ) (version shift pages count : ℕ) (body : List ℕ)
    → IsCut bytes version shift pages count body → IsBody version shift pages count body
    → IsView version shift pages count body
cut_viewed bytes version shift pages count body cut is =
    record { is_trace = (cut_spelled bytes version shift pages count body cut is).is_trace; holds = is.holds }

pub cut_refused : (bytes : List ℕ) (version shift pages count : ℕ) (body : List ℕ) (e : TraceError)
    → IsCut bytes version shift pages count body
    → RefusesBody version shift pages count body e → Refuses bytes e
cut_refused bytes version shift pages count body e cut refused =
    is_refused bytes e cut.fits cut.header (rw (cut.version_is, cut.shift_is, cut.pages_is, cut.count_is, cut.body_is)
    at refused)
