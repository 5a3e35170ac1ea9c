-- Pieces of several streams, in whatever order they come, are checked as all streams at once are.
use Rattle.std.proofs.Common.{◌≡◌, ◌≢◌, ℕ, zero, suc, ◌+◌, ◌<◌, ◌≤◌, List, [], ◌∷◌, ◌++◌, length, map, drop}
use Rattle.std.proofs.Common.{cond, eqb, get_or, set, Option, Some, None, refl, sym, ap, subst, append_assoc, inl, inr, ◌∙◌, arith}
use Rattle.std.specs.List.{All, flat_map, range_with_len}
use Rattle.std.proofs.lemmas.Bool.{cases_eq, cases_lt, cond-false, cond-true, eq-eqb, ne_eqb}
use Rattle.std.proofs.lemmas.Grind.{flat_map-append}
use Rattle.std.proofs.lemmas.List.{append-nil, length-append, length-drop}
use Rattle.std.proofs.lemmas.List.Elements.{All-append, All-cons, All-nil, All-head, All-tail}
use Rattle.std.proofs.lemmas.List.Folds.{flat_map-map}
use Rattle.std.proofs.lemmas.List.Sums.{fold-append}
use Rattle.migration_model.specs.Trace.{GuestTrace}
use Rattle.migration_model.specs.Frames.{PageFrame, IsFrame, frame_text}
use Rattle.migration_model.specs.Final.{shape_of_trace}
use Rattle.migration_model.proofs.Frames.{length-frame_text}
use Rattle.page_message.specs.Refusals.{frame_refusal}
use Rattle.page_message.specs.declared.error.FrameError.TheVariants.{Short}
use Rattle.stream_check.specs.Checked.{Checked, StopsAt, TakesAll, after_frames, behind_taken, both_taken, checked_with}
use Rattle.stream_check.specs.Checked.{unchecked}
use Rattle.stream_check.specs.Ends.{AreCurrentStamps, IsFirstBehind}
use Rattle.stream_check.specs.Faults.{AreRight, BeginsRight, IsFirstWrong}
use Rattle.stream_check.specs.Receivers.{all_frames}
use Rattle.stream_check.specs.Stamps.{no_stamps, greater, keep_last, keep_greatest, last_stamps, greatest_stamps}
use Rattle.stream_check.specs.Streams.{AreStreams, IsAllRight, IsWrongAtEnd, texts_of}
use Rattle.stream_check.specs.declared.faults.FrameCause.TheVariants.{Refused}
use Rattle.stream_check.specs.declared.faults.WrongFrame.{WrongFrame}
use Rattle.stream_check.specs.declared.faults.WrongPage.{WrongPage}
use Rattle.stream_check.specs.declared.taken.Taken.{Taken}
use Rattle.stream_check.proofs.Fronts.{cut_wrong}
use Rattle.stream_check.proofs.Pieces.{drop_in_two, stops_behind, stops_early}
use Rattle.open_checks.specs.Arrivals.{Known, StreamKnown, StreamPiece, TakesPiece, TakesPieces, bytes_of, cut_off}
use Rattle.open_checks.specs.Arrivals.{known_of, nothing_known, texts_in, with_left}

-- ---- the greatest stamps do not depend on the order of frames

abbrev raise : List (Option ℕ) → ℕ → ℕ → List (Option ℕ)
raise stamps page stamp = set stamps page (Some (greater (get_or stamps page None) stamp))

greater_twice : (came : Option ℕ) (a b : ℕ) → greater (Some (greater came a)) b ≡ greater (Some (greater came b)) a
greater_twice None a b = omega arith
greater_twice (Some c) a b = omega arith

raise_twice : (stamps : List (Option ℕ)) (p a q b : ℕ)
    → raise (raise stamps p a) q b ≡ raise (raise stamps q b) p a
raise_twice [] p a q b = refl
raise_twice (s ∷ stamps) zero a zero b = ap (λ (n : ℕ). Some n ∷ stamps) (greater_twice s a b)
raise_twice (s ∷ stamps) zero a (suc q) b = refl
raise_twice (s ∷ stamps) (suc p) a zero b = refl
raise_twice (s ∷ stamps) (suc p) a (suc q) b = ap (λ (l : List (Option ℕ)). s ∷ l) (raise_twice stamps p a q b)

one_later : (stamps : List (Option ℕ)) (frame : PageFrame) (frames : List PageFrame)
    → greatest_stamps (keep_greatest stamps frame) frames ≡ keep_greatest (greatest_stamps stamps frames) frame
one_later stamps frame [] = refl
one_later stamps frame (f ∷ frames) =
    ap (λ (s : List (Option ℕ)). greatest_stamps s frames)
    (raise_twice stamps frame.page frame.stamp f.page f.stamp)
    ∙ one_later (keep_greatest stamps f) frame frames

all_later : (stamps : List (Option ℕ)) (fs gs : List PageFrame)
    → greatest_stamps (greatest_stamps stamps fs) gs ≡ greatest_stamps (greatest_stamps stamps gs) fs
all_later stamps [] gs = refl
all_later stamps (f ∷ fs) gs =
    all_later (keep_greatest stamps f) fs gs
    ∙ ap (λ (s : List (Option ℕ)). greatest_stamps s fs) (one_later stamps f gs)

-- ---- the frames of all streams

-- more frames of one stream, and none of another
abbrev grown : (ℕ → List PageFrame) → ℕ → List PageFrame → ℕ → List PageFrame
grown frames stream more n = cond (eqb n stream) (frames n ++ more) (frames n)

grown_there : (frames : ℕ → List PageFrame) (stream : ℕ) (more : List PageFrame)
    → grown frames stream more stream ≡ frames stream ++ more
grown_there frames stream more =
    cond-true (eqb stream stream) (frames stream ++ more) (frames stream) (eq-eqb stream stream refl)

grown_other : (frames : ℕ → List PageFrame) (stream : ℕ) (more : List PageFrame) (n : ℕ) → n ≢ stream
    → grown frames stream more n ≡ frames n
grown_other frames stream more n apart =
    cond-false (eqb n stream) (frames n ++ more) (frames n) (ne_eqb n stream apart)

same_frames : (frames : ℕ → List PageFrame) (stream a count : ℕ) (more : List PageFrame) → stream < a
    → flat_map (grown frames stream more) (range_with_len a count) ≡ flat_map frames (range_with_len a count)
same_frames frames stream a zero more low = refl
same_frames frames stream a (suc count) more low =
    ap (λ (fs : List PageFrame). fs ++ flat_map (grown frames stream more) (range_with_len (a + 1) count))
    (grown_other frames stream more a (λ is. omega (arith, low, is)))
    ∙ ap (λ (fs : List PageFrame). frames a ++ fs)
    (same_frames frames stream (a + 1) count more (omega (arith, low)))

-- the greatest stamps with them are those without, and then theirs
more_frames : (stamps : List (Option ℕ)) (frames : ℕ → List PageFrame) (stream a count : ℕ) (more : List PageFrame)
    → a ≤ stream → stream < a + count
    → greatest_stamps stamps (flat_map (grown frames stream more) (range_with_len a count))
    ≡ greatest_stamps (greatest_stamps stamps (flat_map frames (range_with_len a count))) more
more_frames stamps frames stream a zero more from to = absurd (omega (arith, from, to))
more_frames stamps frames stream a (suc count) more from to =
    let new : ℕ → List PageFrame = grown frames stream more in
    let later : List PageFrame = flat_map frames (range_with_len (a + 1) count) in
    elim (cases_eq a stream) [
      | inl same ↦
          let here : new a ≡ frames a ++ more =
          subst (λ (n : ℕ). new n ≡ frames n ++ more) (sym same) (grown_there frames stream more) in
          let behind : flat_map new (range_with_len (a + 1) count) ≡ later =
          same_frames frames stream (a + 1) count more (omega (arith, same)) in
          ap (λ (fs : List PageFrame). greatest_stamps stamps (fs ++ flat_map new (range_with_len (a + 1) count))) here
          ∙ ap (λ (fs : List PageFrame). greatest_stamps stamps ((frames a ++ more) ++ fs)) behind
          ∙ fold-append keep_greatest stamps (frames a ++ more) later
          ∙ ap (λ (s : List (Option ℕ)). greatest_stamps s later) (fold-append keep_greatest stamps (frames a) more)
          ∙ all_later (greatest_stamps stamps (frames a)) more later
          ∙ ap (λ (s : List (Option ℕ)). greatest_stamps s more)
          (sym (fold-append keep_greatest stamps (frames a) later))
      | inr apart ↦
          let here : new a ≡ frames a = grown_other frames stream more a apart in
          ap (λ (fs : List PageFrame). greatest_stamps stamps (fs ++ flat_map new (range_with_len (a + 1) count))) here
          ∙ fold-append keep_greatest stamps (frames a) (flat_map new (range_with_len (a + 1) count))
          ∙ more_frames (greatest_stamps stamps (frames a)) frames stream (a + 1) count more
          (omega (arith, from, apart)) (omega (arith, to))
          ∙ ap (λ (s : List (Option ℕ)). greatest_stamps s more)
          (sym (fold-append keep_greatest stamps (frames a) later))
    ]

-- and none of one leave all as they are
without : (frames : ℕ → List PageFrame) (stream : ℕ) (more : List PageFrame) → more ≡ [] → (count a : ℕ)
    → flat_map frames (range_with_len a count) ≡ flat_map (grown frames stream more) (range_with_len a count)
without frames stream more none zero a = refl
without frames stream more none (suc count) a =
    let here : frames a ≡ grown frames stream more a = elim (cases_eq a stream) [
      | inl same ↦
          subst (λ (n : ℕ). frames n ≡ grown frames stream more n) (sym same)
          (sym (grown_there frames stream more ∙ ap (λ (l : List PageFrame). frames stream ++ l) none
          ∙ append-nil (frames stream)))
      | inr apart ↦ sym (grown_other frames stream more a apart)
    ] in
    ap (λ (fs : List PageFrame). fs ++ flat_map frames (range_with_len (a + 1) count)) here
    ∙ ap (λ (fs : List PageFrame). grown frames stream more a ++ fs)
    (without frames stream more none count (a + 1))

-- ---- the bytes of a stream

abbrev part_of : StreamPiece → ℕ → List ℕ
part_of piece stream = cond (eqb piece.stream stream) piece.bytes []

bytes_own : (pieces : List StreamPiece) (piece : StreamPiece)
    → bytes_of (pieces ++ piece ∷ []) piece.stream ≡ bytes_of pieces piece.stream ++ piece.bytes
bytes_own pieces piece =
    let s : ℕ = piece.stream in
    flat_map-append (λ (p : StreamPiece). part_of p s) pieces (piece ∷ [])
    ∙ ap (λ (b : List ℕ). bytes_of pieces s ++ b) (append-nil (part_of piece s)
    ∙ cond-true (eqb s s) piece.bytes [] (eq-eqb s s refl))

bytes_other : (pieces : List StreamPiece) (piece : StreamPiece) (n : ℕ) → n ≢ piece.stream
    → bytes_of (pieces ++ piece ∷ []) n ≡ bytes_of pieces n
bytes_other pieces piece n apart =
    flat_map-append (λ (p : StreamPiece). part_of p n) pieces (piece ∷ [])
    ∙ ap (λ (b : List ℕ). bytes_of pieces n ++ b) (append-nil (part_of piece n)
    ∙ cond-false (eqb piece.stream n) piece.bytes [] (ne_eqb piece.stream n (λ is. apart (sym is))))
    ∙ append-nil (bytes_of pieces n)

-- a stream of which no piece came
no_bytes : (count : ℕ) (pieces : List StreamPiece) (n : ℕ) → All (λ piece. piece.stream < count) pieces → count ≤ n
    → bytes_of pieces n ≡ []
no_bytes count [] n within high = refl
no_bytes count (piece ∷ pieces) n within high =
    let low : piece.stream < count = All-head (λ (p : StreamPiece). p.stream < count) piece pieces within in
    ap (λ (b : List ℕ). b ++ bytes_of pieces n)
    (cond-false (eqb piece.stream n) piece.bytes [] (ne_eqb piece.stream n (λ is. omega (arith, low, high, is))))
    ∙ no_bytes count pieces n (All-tail (λ (p : StreamPiece). p.stream < count) piece pieces within) high

-- ---- a stream whose pieces came

AreRight-append : (t : GuestTrace) (stop : ℕ) (last : List (Option ℕ)) (fs gs : List PageFrame)
    → AreRight t stop last fs → AreRight t stop (last_stamps last fs) gs → AreRight t stop last (fs ++ gs)
AreRight-append t stop last [] gs first second = second
AreRight-append t stop last (f ∷ fs) gs first second =
    (first.0, AreRight-append t stop (keep_last last f) fs gs first.1 second)

record StreamArrived (t : GuestTrace) (stop : ℕ) (bytes : List ℕ) (frames : List PageFrame)
    (known : StreamKnown) : Type 0 where
  pub begins : BeginsRight t stop (no_stamps t.pages) bytes frames known.left
  pub last : known.last ≡ last_stamps (no_stamps t.pages) frames
  pub count : length frames ≡ known.taken.frames
  pub left_is : known.left ≡ drop known.taken.bytes bytes
  pub within : known.taken.bytes ≤ length bytes
  pub part : frame_refusal (shape_of_trace t) known.left ≡ Some Short

StreamArrived-none : (t : GuestTrace) (stop n : ℕ)
    → StreamArrived t stop [] [] ((nothing_known t.pages).stream n)
StreamArrived-none t stop n = record {
  begins = record { are_frames = All-nil (IsFrame (shape_of_trace t)); right = tt; text = refl };
  last = refl;
  count = refl;
  left_is = refl;
  within = omega arith;
  part = refl;
}

StreamArrived-more : (t : GuestTrace) (stop : ℕ) (bytes piece : List ℕ) (frames : List PageFrame)
    (old new : StreamKnown) (before after : List (Option ℕ)) (taken : Taken) → StreamArrived t stop bytes frames old
    → (takes : TakesAll t (checked_with (shape_of_trace t) stop old.last before)
    (checked_with (shape_of_trace t) stop new.last after) (old.left ++ piece) taken)
    → new.taken ≡ both_taken old.taken taken → new.left ≡ drop taken.bytes (old.left ++ piece)
    → StreamArrived t stop (bytes ++ piece) (frames ++ takes.takes.frames) new
StreamArrived-more t stop bytes piece frames old new before after taken has takes taken_is left =
    let none : List (Option ℕ) = no_stamps t.pages in
    let fs : List PageFrame = takes.takes.frames in
    let behind : List ℕ = drop taken.bytes (old.left ++ piece) in
    let b = takes.takes.begins in
    let bytes_is : new.taken.bytes ≡ old.taken.bytes + taken.bytes = ap (λ (k : Taken). k.bytes) taken_is in
    record {
      begins = record {
        are_frames = All-append (IsFrame (shape_of_trace t)) frames fs has.begins.are_frames b.are_frames;
        right = AreRight-append t stop none frames fs has.begins.right
            (subst (λ (l : List (Option ℕ)). AreRight t stop l fs) has.last b.right);
        text = ap (λ (x : List ℕ). x ++ piece) has.begins.text
            ∙ append_assoc (flat_map frame_text frames) old.left piece
            ∙ ap (λ (x : List ℕ). flat_map frame_text frames ++ x) b.text
            ∙ sym (append_assoc (flat_map frame_text frames) (flat_map frame_text fs) behind)
            ∙ ap (λ (x : List ℕ). x ++ behind) (sym (flat_map-append frame_text frames fs))
            ∙ ap (λ (x : List ℕ). flat_map frame_text (frames ++ fs) ++ x) (sym left);
      };
      last = ap (λ (c : Checked). c.last) takes.takes.after
          ∙ ap (λ (s : List (Option ℕ)). last_stamps s fs) has.last ∙ sym (fold-append keep_last none frames fs);
      count = omega (
        arith,
        length-append frames fs,
        has.count,
        takes.takes.count_is,
        ap (λ (k : Taken). k.frames) taken_is,
      );
      left_is = left ∙ ap (λ (l : List ℕ). drop taken.bytes (l ++ piece)) has.left_is
          ∙ sym (drop_in_two bytes piece old.taken.bytes taken.bytes has.within)
          ∙ ap (λ (n : ℕ). drop n (bytes ++ piece)) (sym bytes_is);
      within = omega (
        arith,
        bytes_is,
        takes.within,
        length-append old.left piece,
        length-append bytes piece,
        ap length has.left_is,
        length-drop old.taken.bytes bytes,
        has.within,
      );
      part = ap (frame_refusal (shape_of_trace t)) left ∙ takes.part;
    }

-- ---- all streams

no_more : (fs gs : List PageFrame) → fs ++ gs ≡ [] → (fs ≡ []) × (gs ≡ [])
no_more [] gs none = (refl, none)
no_more (f ∷ fs) gs none = absurd (omega (arith, ap length none, length-append fs gs))

no_frames : (frames : List PageFrame) (left : List ℕ) → [] ≡ flat_map frame_text frames ++ left → frames ≡ []
no_frames [] left none = refl
no_frames (f ∷ frames) left none =
    absurd (omega (
      arith,
      ap length none,
      length-append (frame_text f ++ flat_map frame_text frames) left,
      length-append (frame_text f) (flat_map frame_text frames),
      length-frame_text f,
    ))

record HaveArrived (t : GuestTrace) (stop : ℕ) (pieces : List StreamPiece) (known : Known) : Type 0 where
  pub frames : ℕ → List PageFrame
  pub stream : (n : ℕ) → StreamArrived t stop (bytes_of pieces n) (frames n) (known.stream n)
  pub greatest : (count : ℕ) → ((n : ℕ) → count ≤ n → frames n ≡ [])
      → known.greatest ≡ greatest_stamps (no_stamps t.pages) (flat_map frames (range_with_len 0 count))

abbrev no_frame : ℕ → List PageFrame
no_frame n = []

nothing_in : (count a : ℕ) → flat_map no_frame (range_with_len a count) ≡ []
nothing_in zero a = refl
nothing_in (suc count) a = nothing_in count (a + 1)

HaveArrived-none : (t : GuestTrace) (stop : ℕ) → HaveArrived t stop [] (nothing_known t.pages)
HaveArrived-none t stop = record {
  frames = no_frame;
  stream = StreamArrived-none t stop;
  greatest = λ count none. sym (ap (greatest_stamps (no_stamps t.pages)) (nothing_in count 0));
}

HaveArrived-more : (t : GuestTrace) (stop : ℕ) (pieces : List StreamPiece) (piece : StreamPiece) (old new : Known)
    → HaveArrived t stop pieces old → TakesPiece t stop old piece new
    → HaveArrived t stop (pieces ++ piece ∷ []) new
HaveArrived-more t stop pieces piece old new has takes =
    let s : ℕ = piece.stream in
    let none : List (Option ℕ) = no_stamps t.pages in
    let all : List StreamPiece = pieces ++ piece ∷ [] in
    let fs : List PageFrame = takes.takes.takes.frames in
    let frames : ℕ → List PageFrame = has.frames in
    let own : StreamArrived t stop (bytes_of pieces s ++ piece.bytes) (frames s ++ fs) (new.stream s) =
    StreamArrived-more t stop (bytes_of pieces s) piece.bytes (frames s) (old.stream s) (new.stream s) old.greatest
    new.greatest takes.taken (has.stream s) takes.takes takes.taken_is takes.left_is in
    let after : new.greatest ≡ greatest_stamps old.greatest fs =
    ap (λ (c : Checked). c.greatest) takes.takes.takes.after in
    record {
      frames = grown frames s fs;
      stream = λ n. elim (cases_eq n s) [
        | inl same ↦
            subst (λ (m : ℕ). StreamArrived t stop (bytes_of all m) (grown frames s fs m) (new.stream m)) (sym same)
            (subst (λ (b : List ℕ). StreamArrived t stop b (grown frames s fs s) (new.stream s))
            (sym (bytes_own pieces piece))
            (subst (λ (l : List PageFrame). StreamArrived t stop (bytes_of pieces s ++ piece.bytes) l (new.stream s))
            (sym (grown_there frames s fs)) own))
        | inr apart ↦
            subst (λ (b : List ℕ). StreamArrived t stop b (grown frames s fs n) (new.stream n))
            (sym (bytes_other pieces piece n apart))
            (subst (λ (l : List PageFrame). StreamArrived t stop (bytes_of pieces n) l (new.stream n))
            (sym (grown_other frames s fs n apart))
            (subst (StreamArrived t stop (bytes_of pieces n) (frames n)) (sym (takes.others n apart)) (has.stream n)))
      ];
      greatest = λ count no. elim (cases_lt s count) [
        | inl low ↦
            let before : (n : ℕ) → count ≤ n → frames n ≡ [] = λ n high.
            sym (grown_other frames s fs n (λ is. omega (arith, low, high, is))) ∙ no n high in
            after ∙ ap (λ (g : List (Option ℕ)). greatest_stamps g fs) (has.greatest count before)
            ∙ sym (more_frames none frames s 0 count fs (omega arith) (omega (arith, low)))
        | inr high ↦
            let empty = no_more (frames s) fs (sym (grown_there frames s fs) ∙ no s high) in
            let before : (n : ℕ) → count ≤ n → frames n ≡ [] = λ n over. elim (cases_eq n s) [
              | inl same ↦ subst (λ (m : ℕ). frames m ≡ []) (sym same) empty.0
              | inr apart ↦ sym (grown_other frames s fs n apart) ∙ no n over
            ] in
            after ∙ ap (greatest_stamps old.greatest) empty.1 ∙ has.greatest count before
            ∙ ap (greatest_stamps none) (without frames s fs empty.1 count 0)
      ];
    }

have_arrived : (t : GuestTrace) (stop : ℕ) (came pieces : List StreamPiece) (old known : Known)
    → HaveArrived t stop came old → TakesPieces t stop old pieces known → HaveArrived t stop (came ++ pieces) known
have_arrived t stop came [] old known has takes =
    subst (λ (ps : List StreamPiece). HaveArrived t stop ps known) (sym (append-nil came))
    (subst (HaveArrived t stop came) (sym takes) has)
have_arrived t stop came (piece ∷ pieces) old known has takes =
    subst (λ (ps : List StreamPiece). HaveArrived t stop ps known) (append_assoc came (piece ∷ []) pieces)
    (have_arrived t stop (came ++ piece ∷ []) pieces takes.0 known
    (HaveArrived-more t stop came piece old takes.0 has takes.1) takes.2)

all_arrived : (t : GuestTrace) (stop : ℕ) (pieces : List StreamPiece) (known : Known)
    → TakesPieces t stop (nothing_known t.pages) pieces known → HaveArrived t stop pieces known
all_arrived t stop pieces known takes =
    have_arrived t stop [] pieces (nothing_known t.pages) known (HaveArrived-none t stop) takes

-- ---- what is found

-- what was taken of a stream, as one piece
as_one : (t : GuestTrace) (stop : ℕ) (bytes : List ℕ) (frames : List PageFrame) (known : StreamKnown)
    → StreamArrived t stop bytes frames known
    → TakesAll t (unchecked (shape_of_trace t) stop) (after_frames (unchecked (shape_of_trace t) stop) frames) bytes
    known.taken
as_one t stop bytes frames known has = record {
  takes = record {
    frames = frames;
    count_is = has.count;
    begins = subst (BeginsRight t stop (no_stamps t.pages) bytes frames) has.left_is has.begins;
    after = refl;
  };
  within = has.within;
  part = ap (frame_refusal (shape_of_trace t)) (sym has.left_is) ∙ has.part;
}

pub first_wrong : (t : GuestTrace) (stop : ℕ) (pieces : List StreamPiece) (known : Known) (piece : StreamPiece)
    (more : List ℕ) (new : Checked) (found : WrongFrame) → TakesPieces t stop (nothing_known t.pages) pieces known
    → found.fault.cause ≢ Refused Short
    → StopsAt t (known_of t stop known piece.stream) new (with_left known piece) found
    → IsFirstWrong t stop (no_stamps t.pages) (bytes_of pieces piece.stream ++ (piece.bytes ++ more))
    (behind_taken (known.stream piece.stream).taken found)
first_wrong t stop pieces known piece more new found takes whole stops =
    let has = all_arrived t stop pieces known takes in
    let s : ℕ = piece.stream in
    let at = has.stream s in
    let bytes : List ℕ = bytes_of pieces s in
    let taken : Taken = (known.stream s).taken in
    let nothing : Checked = unchecked (shape_of_trace t) stop in
    let mid : Checked = after_frames nothing (has.frames s) in
    let first : IsFirstWrong t stop mid.last (drop taken.bytes bytes ++ piece.bytes) found =
    subst (λ (l : List ℕ). IsFirstWrong t stop mid.last (l ++ piece.bytes) found) at.left_is
    (subst (λ (l : List (Option ℕ)). IsFirstWrong t stop l (with_left known piece) found) at.last stops.first) in
    let there : StopsAt t mid (after_frames mid first.frames) (drop taken.bytes bytes ++ piece.bytes) found =
    record { first = first; after = refl } in
    let both = stops_behind t nothing mid (after_frames mid first.frames) bytes piece.bytes taken found
    (as_one t stop bytes (has.frames s) (known.stream s) at) there in
    subst (λ (l : List ℕ). IsFirstWrong t stop (no_stamps t.pages) l (behind_taken taken found))
    (append_assoc bytes piece.bytes more)
    (stops_early t nothing (after_frames mid first.frames) (bytes ++ piece.bytes) more (behind_taken taken found) whole
    both).first

some_left : (l : List ℕ) → l ≢ [] → 1 ≤ length l
some_left [] some = absurd (some refl)
some_left (b ∷ l) some = omega arith

pub cut_at_end : (t : GuestTrace) (stop n : ℕ) (pieces : List StreamPiece) (known : Known)
    → TakesPieces t stop (nothing_known t.pages) pieces known → (known.stream n).left ≢ []
    → IsFirstWrong t stop (no_stamps t.pages) (bytes_of pieces n) (cut_off (known.stream n).taken)
cut_at_end t stop n pieces known takes some =
    let has = all_arrived t stop pieces known takes in
    let at = has.stream n in
    let bytes : List ℕ = bytes_of pieces n in
    let taken : Taken = (known.stream n).taken in
    let nothing : Checked = unchecked (shape_of_trace t) stop in
    (cut_wrong t nothing (after_frames nothing (has.frames n)) bytes taken (cut_off taken)
    (as_one t stop bytes (has.frames n) (known.stream n) at)
    (omega (
      arith,
      some_left (known.stream n).left some,
      ap length at.left_is,
      length-drop taken.bytes bytes,
    )) refl refl refl).first

texts_same : (pieces : List StreamPiece) (frames : ℕ → List PageFrame) (a count : ℕ)
    → ((n : ℕ) → n < a + count → bytes_of pieces n ≡ flat_map frame_text (frames n))
    → map (bytes_of pieces) (range_with_len a count) ≡ texts_of (map frames (range_with_len a count))
texts_same pieces frames a zero same = refl
texts_same pieces frames a (suc count) same =
    ap (λ (b : List ℕ). b ∷ map (bytes_of pieces) (range_with_len (a + 1) count)) (same a (omega arith))
    ∙ ap (λ (bs : List (List ℕ)). flat_map frame_text (frames a) ∷ bs)
    (texts_same pieces frames (a + 1) count (λ n low. same n (omega (arith, low))))

each : (P : List PageFrame → Type 0) (frames : ℕ → List PageFrame) (a count : ℕ) → ((n : ℕ) → P (frames n))
    → All P (map frames (range_with_len a count))
each P frames a zero of = All-nil P
each P frames a (suc count) of =
    All-cons P (frames a) (map frames (range_with_len (a + 1) count)) (of a) (each P frames (a + 1) count of)

-- all streams have come, and nothing is left of any
record AllCame (t : GuestTrace) (stop count : ℕ) (pieces : List StreamPiece) (known : Known) : Type 0 where
  pub streams : List (List PageFrame)
  pub are : AreStreams t stop (texts_in pieces count) streams
  pub greatest : known.greatest ≡ greatest_stamps (no_stamps t.pages) (all_frames streams)

all_came : (t : GuestTrace) (stop count : ℕ) (pieces : List StreamPiece) (known : Known)
    → All (λ piece. piece.stream < count) pieces → TakesPieces t stop (nothing_known t.pages) pieces known
    → ((n : ℕ) → n < count → (known.stream n).left ≡ []) → AllCame t stop count pieces known
all_came t stop count pieces known within takes ended =
    let has = all_arrived t stop pieces known takes in
    let frames : ℕ → List PageFrame = has.frames in
    let numbers : List ℕ = range_with_len 0 count in
    let whole : (n : ℕ) → n < 0 + count → bytes_of pieces n ≡ flat_map frame_text (frames n) = λ n low.
    (has.stream n).begins.text
    ∙ ap (λ (l : List ℕ). flat_map frame_text (frames n) ++ l) (ended n (omega (arith, low)))
    ∙ append-nil (flat_map frame_text (frames n)) in
    let others : (n : ℕ) → count ≤ n → frames n ≡ [] = λ n high.
    no_frames (frames n) (known.stream n).left
    (sym (no_bytes count pieces n within high) ∙ (has.stream n).begins.text) in
    record {
      streams = map frames numbers;
      are = record {
        texts_are = texts_same pieces frames 0 count whole;
        are_frames = each (All (IsFrame (shape_of_trace t))) frames 0 count
            (λ n. (has.stream n).begins.are_frames);
        right = each (AreRight t stop (no_stamps t.pages)) frames 0 count (λ n. (has.stream n).begins.right);
      };
      greatest = has.greatest count others
          ∙ ap (greatest_stamps (no_stamps t.pages))
          (sym (flat_map-map (λ (fs : List PageFrame). fs) frames numbers));
    }

pub all_right : (t : GuestTrace) (stop count : ℕ) (pieces : List StreamPiece) (known : Known)
    → All (λ piece. piece.stream < count) pieces → TakesPieces t stop (nothing_known t.pages) pieces known
    → ((n : ℕ) → n < count → (known.stream n).left ≡ []) → AreCurrentStamps t stop known.greatest
    → IsAllRight t stop (texts_in pieces count)
all_right t stop count pieces known within takes ended current =
    let all = all_came t stop count pieces known within takes ended in
    record {
      streams = all.streams;
      texts_are = all.are.texts_are;
      right = record {
        are_frames = all.are.are_frames;
        right = all.are.right;
        current = subst (AreCurrentStamps t stop) all.greatest current;
      };
    }

pub page_behind : (t : GuestTrace) (stop count : ℕ) (pieces : List StreamPiece) (known : Known) (found : WrongPage)
    → All (λ piece. piece.stream < count) pieces → TakesPieces t stop (nothing_known t.pages) pieces known
    → ((n : ℕ) → n < count → (known.stream n).left ≡ []) → IsFirstBehind t stop known.greatest found
    → IsWrongAtEnd t stop (texts_in pieces count) found
page_behind t stop count pieces known found within takes ended behind =
    let all = all_came t stop count pieces known within takes ended in
    record {
      streams = all.streams;
      are = all.are;
      behind = subst (λ (g : List (Option ℕ)). IsFirstBehind t stop g found) all.greatest behind;
    }
