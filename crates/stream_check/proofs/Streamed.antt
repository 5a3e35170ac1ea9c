-- Streams that a checker has taken, one after another.
use Rattle.std.proofs.Common.{◌≡◌, ℕ, ◌+◌, ◌<◌, ◌≤◌, List, [], ◌∷◌, ◌++◌, length, take, drop, get_or, sum, suc}
use Rattle.std.proofs.Common.{Option, refl, sym, ap, subst, append_assoc, ◌∙◌, arith}
use Rattle.std.specs.List.{All, flat_map}
use Rattle.std.proofs.Math.Seq.{drop-cons}
use Rattle.std.proofs.lemmas.Grind.{flat_map-append}
use Rattle.std.proofs.lemmas.List.{append-nil, drop_all, length-append, length-drop, map-append}
use Rattle.std.proofs.lemmas.List.Elements.{All-append, All-nil, All-cons}
use Rattle.std.proofs.lemmas.List.Sums.{fold-append, sum_by-cons}
use Rattle.migration_model.specs.Trace.{GuestTrace}
use Rattle.migration_model.specs.Frames.{PageFrame, IsFrame, frame_text}
use Rattle.migration_model.specs.Final.{shape_of_trace}
use Rattle.stream_check.specs.Stamps.{no_stamps, keep_greatest, greatest_stamps}
use Rattle.stream_check.specs.Faults.{AreRight, BeginsRight, IsFirstWrong}
use Rattle.stream_check.specs.Checked.{Checked, StopsAt, checked_with, unchecked, after_frames, after_stream}
use Rattle.stream_check.specs.Ends.{AreCurrentStamps, IsFirstBehind}
use Rattle.stream_check.specs.Receivers.{all_frames}
use Rattle.stream_check.specs.Streams.{IsAllRight, IsWrongAtEnd, IsWrongIn, cut_by, texts_of}
use Rattle.stream_check.specs.declared.faults.WrongFrame.{WrongFrame}
use Rattle.stream_check.specs.declared.faults.WrongPage.{WrongPage}

-- `index` streams with these sizes are taken, and `rest` is behind them
pub record HasTaken (trace : GuestTrace) (stop : ℕ) (bytes sizes : List ℕ) (index : ℕ) (rest : List ℕ)
    (checker : Checked) : Type 0 where
  pub streams : List (List PageFrame)
  pub number : length streams ≡ index
  pub texts : cut_by sizes bytes ≡ texts_of streams ++ cut_by (drop index sizes) rest
  pub are_frames : All (All (IsFrame (shape_of_trace trace))) streams
  pub right : All (AreRight trace stop (no_stamps trace.pages)) streams
  pub enough : sum (drop index sizes) ≤ length rest
  pub checker_is : checker ≡ checked_with (shape_of_trace trace) stop (no_stamps trace.pages)
      (greatest_stamps (no_stamps trace.pages) (all_frames streams))

pub HasTaken-none : (trace : GuestTrace) (stop : ℕ) (bytes sizes : List ℕ) (checker : Checked)
    → checker ≡ unchecked (shape_of_trace trace) stop → sum sizes ≤ length bytes
    → HasTaken trace stop bytes sizes 0 bytes checker
HasTaken-none trace stop bytes sizes checker is enough = record {
  streams = [];
  number = refl;
  texts = refl;
  are_frames = All-nil (All (IsFrame (shape_of_trace trace)));
  right = All-nil (AreRight trace stop (no_stamps trace.pages));
  enough = enough;
  checker_is = is;
}

-- the next stream and those behind it
next_of : (sizes : List ℕ) (index : ℕ) → index < length sizes
    → drop index sizes ≡ get_or sizes index 0 ∷ drop (index + 1) sizes
next_of sizes index low =
    let next : suc index ≡ index + 1 = omega arith in
    drop-cons sizes index 0 low ∙ ap (λ (n : ℕ). get_or sizes index 0 ∷ drop n sizes) next

pub next_within : (trace : GuestTrace) (stop : ℕ) (bytes sizes : List ℕ) (index : ℕ) (rest : List ℕ)
    (checker : Checked) → HasTaken trace stop bytes sizes index rest checker → index < length sizes
    → get_or sizes index 0 ≤ length rest
next_within trace stop bytes sizes index rest checker has low =
    omega (
      arith,
      has.enough,
      ap sum (next_of sizes index low),
      sum_by-cons (λ (n : ℕ). n) (get_or sizes index 0) (drop (index + 1) sizes),
    )

parts_at : (trace : GuestTrace) (stop : ℕ) (bytes sizes : List ℕ) (index : ℕ) (rest : List ℕ) (checker : Checked)
    → (has : HasTaken trace stop bytes sizes index rest checker) → index < length sizes
    → cut_by sizes bytes ≡ texts_of has.streams ++ take (get_or sizes index 0) rest
    ∷ cut_by (drop (index + 1) sizes) (drop (get_or sizes index 0) rest)
parts_at trace stop bytes sizes index rest checker has low =
    has.texts ∙ ap (λ (s : List ℕ). texts_of has.streams ++ cut_by s rest) (next_of sizes index low)

pub HasTaken-more : (trace : GuestTrace) (stop : ℕ) (bytes sizes : List ℕ) (index : ℕ) (rest front behind : List ℕ)
    (old new : Checked) → HasTaken trace stop bytes sizes index rest old → index < length sizes
    → front ≡ take (get_or sizes index 0) rest → behind ≡ drop (get_or sizes index 0) rest
    → (frames : List PageFrame) × BeginsRight trace old.stop old.last front frames []
    × (new ≡ after_stream (after_frames old frames))
    → HasTaken trace stop bytes sizes (index + 1) behind new
HasTaken-more trace stop bytes sizes index rest front behind old new has low front_is behind_is taken =
    let frames : List PageFrame = taken.0 in
    let streams : List (List PageFrame) = has.streams in
    let none : List (Option ℕ) = no_stamps trace.pages in
    let begins : BeginsRight trace stop none front frames [] =
    subst (λ (c : Checked). BeginsRight trace c.stop c.last front frames []) has.checker_is taken.1 in
    let text : take (get_or sizes index 0) rest ≡ flat_map frame_text frames =
    sym front_is ∙ begins.text ∙ append-nil (flat_map frame_text frames) in
    let after : List (List ℕ) = cut_by (drop (index + 1) sizes) (drop (get_or sizes index 0) rest) in
    let all : all_frames (streams ++ frames ∷ []) ≡ all_frames streams ++ frames =
    flat_map-append (λ (fs : List PageFrame). fs) streams (frames ∷ [])
    ∙ ap (λ (fs : List PageFrame). all_frames streams ++ fs) (append-nil frames) in
    record {
      streams = streams ++ frames ∷ [];
      number = omega (arith, length-append streams (frames ∷ []), has.number);
      texts = parts_at trace stop bytes sizes index rest old has low
          ∙ ap (λ (t : List ℕ). texts_of streams ++ t ∷ after) text
          ∙ sym (append_assoc (texts_of streams) (flat_map frame_text frames ∷ []) after)
          ∙ ap (λ (ts : List (List ℕ)). ts ++ after)
          (sym (map-append (λ (fs : List PageFrame). flat_map frame_text fs) streams (frames ∷ [])))
          ∙ ap (λ (b : List ℕ). texts_of (streams ++ frames ∷ []) ++ cut_by (drop (index + 1) sizes) b) (sym behind_is);
      are_frames = All-append (All (IsFrame (shape_of_trace trace))) streams (frames ∷ []) has.are_frames
          (All-cons (All (IsFrame (shape_of_trace trace))) frames [] begins.are_frames
          (All-nil (All (IsFrame (shape_of_trace trace)))));
      right = All-append (AreRight trace stop none) streams (frames ∷ []) has.right
          (All-cons (AreRight trace stop none) frames [] begins.right (All-nil (AreRight trace stop none)));
      enough = rw behind_is (omega (
        arith,
        has.enough,
        ap sum (next_of sizes index low),
        sum_by-cons (λ (n : ℕ). n) (get_or sizes index 0) (drop (index + 1) sizes),
        length-drop (get_or sizes index 0) rest,
      ));
      checker_is = taken.2
          ∙ ap (λ (c : Checked). after_stream (after_frames c frames)) has.checker_is
          ∙ ap (checked_with (shape_of_trace trace) stop none)
          (sym (fold-append keep_greatest none (all_frames streams) frames) ∙ ap (greatest_stamps none) (sym all));
    }

pub wrong_in : (trace : GuestTrace) (stop : ℕ) (bytes sizes : List ℕ) (index : ℕ) (rest front : List ℕ)
    (old new : Checked) (found : WrongFrame) → HasTaken trace stop bytes sizes index rest old → index < length sizes
    → front ≡ take (get_or sizes index 0) rest → StopsAt trace old new front found
    → IsWrongIn trace stop (cut_by sizes bytes) index found
wrong_in trace stop bytes sizes index rest front old new found has low front_is wrong = record {
  streams = has.streams;
  number = has.number;
  bytes = take (get_or sizes index 0) rest;
  more = cut_by (drop (index + 1) sizes) (drop (get_or sizes index 0) rest);
  parts = parts_at trace stop bytes sizes index rest old has low;
  are_frames = has.are_frames;
  right = has.right;
  first = subst (λ (b : List ℕ). IsFirstWrong trace stop (no_stamps trace.pages) b found) front_is
      (subst (λ (c : Checked). IsFirstWrong trace c.stop c.last front found) has.checker_is wrong.first);
}

all_at : (trace : GuestTrace) (stop : ℕ) (bytes sizes : List ℕ) (index : ℕ) (rest : List ℕ) (checker : Checked)
    → (has : HasTaken trace stop bytes sizes index rest checker) → length sizes ≤ index
    → cut_by sizes bytes ≡ texts_of has.streams
all_at trace stop bytes sizes index rest checker has last =
    has.texts ∙ ap (λ (s : List ℕ). texts_of has.streams ++ cut_by s rest) (drop_all index sizes last)
    ∙ append-nil (texts_of has.streams)

pub all_right : (trace : GuestTrace) (stop : ℕ) (bytes sizes : List ℕ) (index : ℕ) (rest : List ℕ) (checker : Checked)
    → HasTaken trace stop bytes sizes index rest checker → length sizes ≤ index
    → AreCurrentStamps trace checker.stop checker.greatest → IsAllRight trace stop (cut_by sizes bytes)
all_right trace stop bytes sizes index rest checker has last current = record {
  streams = has.streams;
  texts_are = all_at trace stop bytes sizes index rest checker has last;
  right = record {
    are_frames = has.are_frames;
    right = has.right;
    current = subst (λ (c : Checked). AreCurrentStamps trace c.stop c.greatest) has.checker_is current;
  };
}

pub wrong_at_end : (trace : GuestTrace) (stop : ℕ) (bytes sizes : List ℕ) (index : ℕ) (rest : List ℕ)
    (checker : Checked) (found : WrongPage) → HasTaken trace stop bytes sizes index rest checker
    → length sizes ≤ index → IsFirstBehind trace checker.stop checker.greatest found
    → IsWrongAtEnd trace stop (cut_by sizes bytes) found
wrong_at_end trace stop bytes sizes index rest checker found has last behind = record {
  streams = has.streams;
  are = record {
    texts_are = all_at trace stop bytes sizes index rest checker has last;
    are_frames = has.are_frames;
    right = has.right;
  };
  behind = subst (λ (c : Checked). IsFirstBehind trace c.stop c.greatest found) has.checker_is behind;
}
