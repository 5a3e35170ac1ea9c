-- How a visit on its way continues, and ends.
use Rattle.std.proofs.Common.{◌≡◌, ℕ, ◌+◌, ◌-◌, ◌^◌, ◌<◌, ◌≤◌, Bool, false, Option, List, [], ◌∷◌, ◌++◌, length, drop}
use Rattle.std.proofs.Common.{map, None, Some, Result, Ok, Err, refl, sym, ap, subst, ◌∙◌, inl, inr, arith}
use Rattle.std.proofs.lemmas.List.{drop-drop, length-append, length-drop, length-map}
use Rattle.migration_model.specs.Touches.{AreTouches, GuestTouch, GuestTouches, touch_of, touches_in, touches_with}
use Rattle.migration_model.specs.Trace.{GuestTrace, GuestWrite, Spells, trace_with}
use Rattle.migration_model.specs.Numbers.{IsBytes, number_in}
use Rattle.migration_model.specs.TraceReading.{length_in, tick_in, write_in, rest_after, writes_in}
use Rattle.migration_model.proofs.Writes.{length-writes_in, writes_in_more}
use Rattle.trace_readers.specs.Pieces.{CameAs, HasHeader, HasRead, IsLogOf, PiecesState}
use Rattle.trace_readers.specs.Visits.{IsAllVisited, IsHeaderOf, IsVisited, IsVisiting}
use Rattle.trace_readers.specs.declared.visiting.Taken.{Taken}
use Rattle.trace_codec.specs.Reading.{ReadsTo}
use Rattle.trace_codec.specs.Refusals.{Refuses, RefusesUnlessMemory, header_refusal, write_refusal}
use Rattle.trace_codec.specs.Source.{IsOutside, ReadsWhole, SourceRefuses, SourceSpells}
use Rattle.std.specs.Io.KnownBytes.{Consumes}
use Rattle.std.specs.Int.{w32}
use Rattle.std.specs.Prelude.{IfErr, IfOk, IfSome, MatchResult, OnOk, slice_index}
use Rattle.trace_codec.specs.declared.error.TraceError.{TraceError}
use Rattle.trace_codec.specs.declared.error.TraceError.TheVariants.{TooLong, TrailingBytes}
use Rattle.guest_log.specs.declared.shape.Header.{Header}
use Rattle.migration_model.proofs.Touches.{AreTouches-from_trace}
use Rattle.migration_model.proofs.Traces.{one_trace_lem}
use Rattle.trace_codec.proofs.Never.{never_refused}
use Rattle.trace_readers.proofs.Longer.{header_long, reading_longer, writes_longer}
use Rattle.trace_readers.proofs.OneMore.{CameAs-end, CameAs-more, IsBytes-append}
use Rattle.trace_codec.proofs.Sources.{long_refused, refused_whole, spelled_whole}
use Rattle.trace_codec.proofs.Readers.{end_refused, end_spelled, reads_on, read_refused}

pub map_push : (f : GuestWrite → GuestTouch) (xs : List GuestWrite) (x : GuestWrite)
    → map f (xs ++ x ∷ []) ≡ map f xs ++ f x ∷ []
map_push f [] x = refl
map_push f (y ∷ xs) x = ap (λ (ts : List GuestTouch). f y ∷ ts) (map_push f xs x)

-- one more write
pub visited_more : (old_made new_made : List GuestWrite → Type 0) (text : List ℕ) (old new : Taken)
    (bytes rest : List ℕ) (write : GuestWrite) → old.count < old.header.shape.writes
    → new.header ≡ old.header → new.count ≡ old.count + 1 → new.last ≡ tick_in bytes → rest ≡ rest_after bytes
    → write ≡ write_in bytes
    → write_refusal old.header.version old.header.shape.shift old.header.shape.pages old.last old.count bytes ≡ None
    → ((writes : List GuestWrite) → old_made writes → new_made (writes ++ write ∷ []))
    → IsVisited old_made text old bytes → IsVisited new_made text new rest
visited_more old_made new_made text old new bytes rest write low header count last rest_is write_is none step on =
    let n = old.count in
    let next = reads_on text old.header.version old.header.shape.shift old.header.shape.pages old.header.shape.writes n
    old.last bytes on.reads low none in
    let version = ap (λ (h : Header). h.version) header in
    let shift = ap (λ (h : Header). h.shape.shift) header in
    let pages = ap (λ (h : Header). h.shape.pages) header in
    let writes = ap (λ (h : Header). h.shape.writes) header in
    let more : writes_in n (drop 16 text) ++ write ∷ [] ≡ writes_in (n + 1) (drop 16 text) =
    (λ i. writes_in n (drop 16 text) ++ (write_is ∙ ap write_in on.reads.reads.rest_is) i ∷ [])
    ∙ sym (writes_in_more n (drop 16 text)) in
    record {
      reads = rw (version, shift, pages, writes, count, last, rest_is) next;
      made = rw count (subst new_made more (step (writes_in n (drop 16 text)) on.made));
    }

-- the visitor did not take the write
pub visited_kept : (old_made new_made : List GuestWrite → Type 0) (text : List ℕ) (taken : Taken) (bytes : List ℕ)
    → ((writes : List GuestWrite) → old_made writes → new_made writes)
    → IsVisited old_made text taken bytes → IsVisited new_made text taken bytes
visited_kept old_made new_made text taken bytes step on = record { reads = on.reads; made = step _ on.made }

pub visited_refused : (made : List GuestWrite → Type 0) (text : List ℕ) (taken : Taken) (bytes : List ℕ)
    (e : TraceError) → taken.count < taken.header.shape.writes
    → write_refusal taken.header.version taken.header.shape.shift taken.header.shape.pages taken.last taken.count bytes
    ≡ Some e → IsVisited made text taken bytes → Refuses text e
visited_refused made text taken bytes e low is on = read_refused text _ _ _ _ _ _ bytes e on.reads low is

-- the bytes after a write are the last of the bytes
pub behind_is : (bytes rest : List ℕ) → 16 + length_in bytes ≤ length bytes → rest ≡ rest_after bytes
    → (length rest ≤ length bytes) × (rest ≡ drop (length bytes - length rest) bytes)
unfolding rest_after
behind_is bytes rest long is =
    let size : length rest ≡ length bytes - (16 + length_in bytes) = ap length is
    ∙ length-drop (16 + length_in bytes) bytes in
    let taken : 16 + length_in bytes ≡ length bytes - length rest = omega (arith, size) in
    (omega (arith, size), is ∙ ap (λ k. drop k bytes) taken)

-- the last of the bytes that were left, among all of them
pub behind_twice : (bytes rest behind : List ℕ) → length rest ≤ length bytes
    → rest ≡ drop (length bytes - length rest) bytes
    → length behind ≤ length rest → behind ≡ drop (length rest - length behind) rest
    → behind ≡ drop (length bytes - length behind) bytes
behind_twice bytes rest behind low is lower next =
    let taken = length bytes - length rest in
    let more = length rest - length behind in
    let all : taken + more ≡ length bytes - length behind = omega arith in
    next ∙ ap (drop more) is ∙ drop-drop more taken bytes ∙ ap (λ k. drop k bytes) all

pub visited_trailing : (made : List GuestWrite → Type 0) (text : List ℕ) (taken : Taken) (rest : List ℕ)
    → taken.header.shape.writes ≤ taken.count → 0 < length rest
    → IsVisited made text taken rest → Refuses text TrailingBytes
visited_trailing made text taken rest all more on = end_refused text _ _ _ _ _ _ rest on.reads
    (omega (arith, all, on.reads.few)) more

-- ---- a visit of longer bytes

visited_longer : (made : List GuestWrite → Type 0) (text more : List ℕ) (taken : Taken) (rest : List ℕ)
    → IsVisited made text taken rest → IsBytes (text ++ more) → length (text ++ more) ≤ 2 ^ 28
    → IsVisited made (text ++ more) taken (rest ++ more)
visited_longer made text more taken rest on fits short =
    let long = header_long text on.reads.cut.header in
    record {
      reads = reading_longer text more _ _ _ _ _ _ rest on.reads long fits short;
      made = subst made (sym (writes_longer text more _ long on.reads.reads.holds)) on.made;
    }

-- ---- a visit of a source

-- after the records in the pieces were taken and a read put more after them
pub visiting_more : (old_made new_made : List GuestWrite → Type 0) (old mid new : Option (List ℕ)) (start taken : Taken)
    (before left after : PiecesState) (more : Bool) → left.count ≡ before.count
    → ((text : List ℕ) → IsVisited old_made text start before.rest → IsVisited new_made text taken left.rest)
    → HasRead mid new left after more
    → IsVisiting old_made old mid start before → IsVisiting new_made old new taken after
visiting_more old_made new_made old mid new start taken before left after more count step read on =
    let text = on.text in
    let came : CameAs old mid left.count text = record { came = on.came.came; count_is = count ∙ on.came.count_is } in
    let fits = IsBytes-append text read.bytes on.fits read.fits in
    record {
      text = text ++ read.bytes;
      came = CameAs-more old mid new text left after more came read;
      fits = fits;
      visited = λ short.
          rw read.rest_is (visited_longer new_made text read.bytes taken left.rest
          (step text (on.visited (omega (arith, short, length-append text read.bytes)))) fits short);
    }

-- at the end of the source, if all records were taken
pub visiting_all : (old_made new_made : List GuestWrite → Type 0) (old mid new : Option (List ℕ)) (start taken : Taken)
    (before left after : PiecesState) (more : Bool) → more ≡ false
    → before.count ≤ 2 ^ 28 → left.count ≡ before.count → left.rest ≡ []
    → ((text : List ℕ) → IsVisited old_made text start before.rest → IsVisited new_made text taken left.rest)
    → ((text : List ℕ) → IsVisited old_made text start before.rest → taken.count ≡ taken.header.shape.writes)
    → HasRead mid new left after more → IsVisiting old_made old mid start before
    → IsAllVisited new_made old taken.header
visiting_all old_made new_made old mid new start taken before left after more ended short count none step all read on =
    let text = on.text in
    let came : CameAs old mid left.count text = record { came = on.came.came; count_is = count ∙ on.came.count_is } in
    let last = CameAs-end old mid new text left after more ended came read in
    let first = on.visited (omega (arith, short, on.came.count_is)) in
    let end = step text first in
    let n = taken.count in
    let spells = end_spelled text taken.header.version taken.header.shape.shift taken.header.shape.pages
    taken.header.shape.writes n taken.last left.rest end.reads (all text first) (ap length none) in
    record {
      trace = trace_with taken.header.version taken.header.shape.shift taken.header.shape.pages
          (writes_in n (drop 16 text));
      version = refl;
      shift = refl;
      pages = refl;
      count = length-writes_in n (drop 16 text) ∙ all text first;
      is_trace = spells.is_trace;
      held = spelled_whole old new text _ (last.0, λ low. last.1) spells;
      made = end.made;
    }

-- ---- the start and the end

-- before the first write
reads_none : (version shift pages : ℕ) (body : List ℕ) → ReadsTo version shift pages 0 body 0 body
reads_none version shift pages body =
    record {
      holds = tt;
      fit = record { each = λ k d low. absurd (omega arith); in_order = λ i j d order low. absurd (omega arith) };
      last_is = refl;
      below = λ k d low. absurd (omega arith);
      rest_is = refl;
    }

visited_none : (made : List GuestWrite → Type 0) (text : List ℕ) (taken : Taken) (rest : List ℕ) → taken.count ≡ 0
    → taken.last ≡ 0 → rest ≡ drop 16 text
    → IsHeaderOf text taken.header → made [] → IsVisited made text taken rest
visited_none made text taken rest count last rest_is cut start =
    record {
      reads = record {
        cut = cut;
        reads = rw (count, last, rest_is) (reads_none taken.header.version taken.header.shape.shift
            taken.header.shape.pages (drop 16 text));
        few = omega (arith, count);
      };
      made = rw count start;
    }

-- after the header of the bytes that came
pub visiting_none : (made : List GuestWrite → Type 0) (old new : Option (List ℕ)) (text : List ℕ) (taken : Taken)
    (pieces : PiecesState) → taken.count ≡ 0 → taken.last ≡ 0 → pieces.rest ≡ drop 16 text
    → CameAs old new pieces.count text → IsHeaderOf text taken.header → made [] → IsVisiting made old new taken pieces
visiting_none made old new text taken pieces count last rest came cut start =
    record {
      text = text;
      came = came;
      fits = cut.fits;
      visited = λ short. visited_none made text taken pieces.rest count last rest cut start;
    }

-- after the header that was taken
pub visiting_header : (made : List GuestWrite → Type 0) (old new : Option (List ℕ)) (taken : Taken)
    (pieces : PiecesState) → taken.count ≡ 0 → taken.last ≡ 0
    → HasHeader old new taken.header.version taken.header.shape.shift taken.header.shape.pages taken.header.shape.writes
    pieces → made [] → IsVisiting made old new taken pieces
visiting_header made old new taken pieces count last header start =
    visiting_none made old new header.text taken pieces count last header.cut.body_is header.came
    (rw header.cut.body_is at header.cut) start

-- the header of the bytes that came
pub header_is : (r : Result Header TraceError) (text : List ℕ) → IsBytes text → OnOk r (header_refusal text ≡ None)
    → IfOk r (λ h. h.version ≡ slice_index text 4)
    → IfOk r (λ h. h.shape.shift ≡ slice_index text 5) → IfOk r (λ h. h.shape.pages ≡ number_in w32 (drop 8 text))
    → IfOk r (λ h. h.shape.writes ≡ number_in w32 (drop 12 text))
    → IfOk r (IsHeaderOf text)
header_is (Ok h) text fits right version shift pages writes =
    record {
      fits = fits;
      header = right;
      version_is = version;
      shift_is = shift;
      pages_is = pages;
      count_is = writes;
      body_is = refl;
    }
header_is (Err e) text fits right version shift pages writes = tt

-- the refusal of all bytes that came
pub held_refused : {T : Type 0} (r : Result T TraceError) (mid new : Option (List ℕ)) (bytes text : List ℕ)
    → ((old : Option (List ℕ)) → Consumes old mid bytes → ReadsWhole old new text)
    → IfErr r (RefusesUnlessMemory text) → IfErr r (λ e. (old : Option (List ℕ)) → Consumes old mid bytes
    → SourceRefuses old e)
held_refused (Ok x) mid new bytes text whole refused = tt
held_refused (Err e) mid new bytes text whole (inl memory) = λ old came. inl (inl memory)
held_refused (Err e) mid new bytes text whole (inr refused) =
    λ old came. inr (refused_whole old new text e (whole old came) refused)

-- more came than a trace may have
pub visiting_long : (made : List GuestWrite → Type 0) (old new : Option (List ℕ)) (taken : Taken) (pieces : PiecesState)
    → 2 ^ 28 < pieces.count → IsVisiting made old new taken pieces
    → SourceRefuses old TooLong
visiting_long made old new taken pieces long on = long_refused old new on.text on.came.came
    (omega (arith, on.came.count_is))

-- ---- the log of touches

-- the visitor that keeps the touches of the writes
abbrev pub MakesTouches : List GuestTouch → List GuestTouch → List GuestWrite → Type 0
MakesTouches start touches writes = touches ≡ start ++ map touch_of writes

-- the log of all writes
pub all_fit : (old : Option (List ℕ)) (header : Header) (start touches : List GuestTouch) → start ≡ []
    → IsAllVisited (MakesTouches start touches) old header
    → (length touches ≡ header.shape.writes) × AreTouches header.shape.pages touches
all_fit old header start touches none all =
    let made : touches ≡ map touch_of all.trace.writes = all.made
    ∙ ap (λ (ts : List GuestTouch). ts ++ map touch_of all.trace.writes) none in (
      ap length made ∙ length-map all.trace.writes touch_of ∙ all.count,
      rw (made, ← all.pages) (AreTouches-from_trace all.trace all.is_trace),
    )

pub all_found : (old : Option (List ℕ)) (header : Header) (start touches : List GuestTouch) → start ≡ []
    → IsAllVisited (MakesTouches start touches) old header
    → IsLogOf old (touches_with header.version header.shape.shift header.shape.pages touches)
all_found old header start touches none all =
    let made : touches ≡ map touch_of all.trace.writes = all.made
    ∙ ap (λ (ts : List GuestTouch). ts ++ map touch_of all.trace.writes) none in (
      all.trace,
      all.is_trace,
      all.held,
      λ i. touches_with (sym all.version i) (sym all.shift i) (sym all.pages i)
          (made i),
    )

-- of a source whose bytes encode a trace, that is the log
pub only_outside : (r : Result GuestTouches TraceError) (known : Option (List ℕ)) (bytes : List ℕ) (trace : GuestTrace)
    → IfOk r (IsLogOf known)
    → IfErr r (SourceRefuses known) → known ≡ Some bytes → Spells bytes trace
    → MatchResult r (λ log. log ≡ touches_in trace) IsOutside
only_outside (Ok log) known bytes trace found refused is spells =
    let same = one_trace_lem bytes found.0 trace (subst (λ k. SourceSpells k found.0) is found.2) spells in
    found.3 ∙ ap touches_in same
only_outside (Err e) known bytes trace found (inl outside) is spells = outside
only_outside (Err e) known bytes trace found (inr refused) is spells =
    absurd (never_refused bytes trace e spells (subst (λ k. IfSome k (λ held. Refuses held e)) is refused))
