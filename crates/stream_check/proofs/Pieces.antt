-- A stream that comes in pieces is taken as it is if it comes at once.
use Rattle.std.proofs.Common.{◌≡◌, ◌≢◌, ℕ, ◌+◌, ◌^◌, ◌<◌, ◌≤◌, Bool, true, false, cond, List, ◌++◌, length}
use Rattle.std.proofs.Common.{get_or, take, drop, Option, Some, None, refl, sym, ap, subst, append_assoc, inl, inr, ◌∙◌}
use Rattle.std.proofs.Common.{arith}
use Rattle.std.specs.List.{flat_map, list_all}
use Rattle.std.specs.Prelude.{◌==◌, if◌then◌else◌}
use Rattle.std.proofs.Math.Seq.{drop-append-add, take-append_seam}
use Rattle.std.proofs.lemmas.Bool.{le-ltb, ltb-false}
use Rattle.std.proofs.lemmas.List.{drop-append-le, get_or_append_left, length-append, length-drop, length-take}
use Rattle.std.proofs.lemmas.List.{take-append-drop, take-append-le}
use Rattle.migration_model.specs.Numbers.{number_in}
use Rattle.migration_model.specs.Trace.{GuestTrace}
use Rattle.migration_model.specs.Frames.{GuestShape, frame_text}
use Rattle.migration_model.specs.Final.{shape_of_trace}
use Rattle.page_message.specs.Reading.{bytes_in, kind_in, page_in, stamp_in}
use Rattle.page_message.specs.Refusals.{frame_refusal}
use Rattle.page_message.specs.declared.error.FrameError.{FrameError}
use Rattle.page_message.specs.declared.error.FrameError.TheVariants.{Kind, Page, Short, Stamp, ZeroData}
use Rattle.stream_check.specs.Stamps.{last_stamps}
use Rattle.stream_check.specs.Faults.{IsWrongFront}
use Rattle.stream_check.specs.Checked.{Checked, StopsAt, TakesAll, TakesRight, after_frames, behind_taken, both_taken}
use Rattle.stream_check.specs.declared.taken.Taken.{Taken}
use Rattle.stream_check.specs.declared.faults.WrongFrame.{WrongFrame}
use Rattle.stream_check.specs.declared.faults.FrameCause.TheVariants.{Refused}
use Rattle.stream_check.specs.declared.faults.FrameFault.{FrameFault}
use Rattle.stream_check.proofs.Fronts.{Takes-both}

-- ---- where the second piece ends in both

pub drop_in_two : (front more : List ℕ) (a b : ℕ) → a ≤ length front
    → drop (a + b) (front ++ more) ≡ drop b (drop a front ++ more)
drop_in_two front more a b low =
    let parts : front ++ more ≡ take a front ++ (drop a front ++ more) =
    ap (λ (x : List ℕ). x ++ more) (sym (take-append-drop a front)) ∙ append_assoc (take a front) (drop a front) more in
    let long : a + b ≡ length (take a front) + b = omega (arith, length-take a front, low) in
    ap (drop (a + b)) parts ∙ ap (λ (n : ℕ). drop n (take a front ++ (drop a front ++ more))) long
    ∙ drop-append-add (take a front) (drop a front ++ more) b

pub taken_in_two : (trace : GuestTrace) (old mid new : Checked) (front more : List ℕ) (first second : Taken)
    → TakesAll trace old mid front first → TakesAll trace mid new (drop first.bytes front ++ more) second
    → TakesAll trace old new (front ++ more) (both_taken first second)
taken_in_two trace old mid new front more first second a b =
    let rest : List ℕ = drop first.bytes front in
    let there : drop (first.bytes + second.bytes) (front ++ more) ≡ drop second.bytes (rest ++ more) =
    drop_in_two front more first.bytes second.bytes a.within in
    record {
      takes = subst (λ (r : List ℕ). TakesRight trace old new (front ++ more) (first.frames + second.frames) r)
          (sym there)
          (Takes-both trace old mid new front rest more (drop second.bytes (rest ++ more)) first.frames second.frames
          a.takes b.takes);
      within = omega (
        arith,
        a.within,
        b.within,
        length-append front more,
        length-append rest more,
        length-drop first.bytes front,
      );
      part = ap (frame_refusal (shape_of_trace trace)) there ∙ b.part;
    }

pub stops_behind : (trace : GuestTrace) (old mid new : Checked) (front more : List ℕ) (first : Taken)
    (found : WrongFrame) → TakesAll trace old mid front first
    → StopsAt trace mid new (drop first.bytes front ++ more) found
    → StopsAt trace old new (front ++ more) (behind_taken first found)
stops_behind trace old mid new front more first found a b =
    let rest : List ℕ = drop first.bytes front in
    let there : drop (first.bytes + found.offset) (front ++ more) ≡ drop found.offset (rest ++ more) =
    drop_in_two front more first.bytes found.offset a.within in
    let front_taken : TakesRight trace mid new (rest ++ more) found.number (drop found.offset (rest ++ more)) = record {
      frames = b.first.frames;
      count_is = b.first.number;
      begins = b.first.begins;
      after = b.after;
    } in
    let both : TakesRight trace old new (front ++ more) (first.frames + found.number)
    (drop found.offset (rest ++ more)) =
    Takes-both trace old mid new front rest more (drop found.offset (rest ++ more)) first.frames found.number a.takes
    front_taken in
    let after : after_frames mid b.first.frames ≡ after_frames old both.frames = sym b.after ∙ both.after in
    let wrong : IsWrongFront trace old.stop (last_stamps old.last both.frames) (drop found.offset (rest ++ more))
    found.fault
    = subst (λ (c : Checked). IsWrongFront trace c.stop c.last (drop found.offset (rest ++ more)) found.fault) after
    b.first.wrong in
    record {
      first = record {
        frames = both.frames;
        number = both.count_is;
        begins = rw there both.begins;
        within = omega (
          arith,
          a.within,
          b.first.within,
          length-append front more,
          length-append rest more,
          length-drop first.bytes front,
        );
        wrong = rw there wrong;
      };
      after = both.after;
    }

-- ---- a frame that is wrong in the first piece is wrong in both

at : (k : ℕ) (bytes more : List ℕ) → k < length bytes → get_or (bytes ++ more) k 0 ≡ get_or bytes k 0
at k bytes more low = get_or_append_left bytes more 0 k low

page_longer : (bytes more : List ℕ) → 4 ≤ length bytes → page_in (bytes ++ more) ≡ page_in bytes
unfolding number_in
page_longer bytes more long =
    omega (
      arith,
      at 0 bytes more (omega arith),
      at 1 bytes more (omega arith),
      at 2 bytes more (omega arith),
      at 3 bytes more (omega arith),
    )

stamp_longer : (bytes more : List ℕ) → 8 ≤ length bytes → stamp_in (bytes ++ more) ≡ stamp_in bytes
stamp_longer bytes more long =
    rw (drop-append-le 4 bytes more (omega arith))
    (page_longer (drop 4 bytes) more (omega (arith, length-drop 4 bytes)))

bytes_longer : (shape : GuestShape) (bytes more : List ℕ) → 9 + 2 ^ shape.shift ≤ length bytes
    → bytes_in shape (bytes ++ more) ≡ bytes_in shape bytes
bytes_longer shape bytes more long =
    ap (take (2 ^ shape.shift)) (drop-append-le 9 bytes more (omega arith))
    ∙ take-append-le (2 ^ shape.shift) (drop 9 bytes) more (omega (arith, length-drop 9 bytes))

still : (b : Bool) (e found : FrameError) (x y : Option FrameError) → (x ≡ Some found → y ≡ Some found)
    → cond b (Some e) x ≡ Some found → cond b (Some e) y ≡ Some found
still true e found x y goes is = is
still false e found x y goes is = goes is

still_none : (b : Bool) (found : FrameError) (x y : Option FrameError) → (x ≡ Some found → y ≡ Some found)
    → cond b None x ≡ Some found → cond b None y ≡ Some found
still_none true found x y goes is = is
still_none false found x y goes is = goes is

not_short : (b c : Bool) (found : FrameError) (x y : Option FrameError) → found ≢ Short → (b ≡ false → c ≡ false)
    → (b ≡ false → x ≡ Some found → y ≡ Some found)
    → cond b (Some Short) x ≡ Some found → cond c (Some Short) y ≡ Some found
not_short true c found x y other longer goes is = let same : found ≡ Short = cc in absurd (other same)
not_short false c found x y other longer goes is = rw (longer refl) (goes refl is)

refused_longer : (shape : GuestShape) (bytes more : List ℕ) (e : FrameError) → e ≢ Short
    → frame_refusal shape bytes ≡ Some e → frame_refusal shape (bytes ++ more) ≡ Some e
refused_longer shape bytes more e other is =
    let all : List ℕ = bytes ++ more in
    let grows : length all ≡ length bytes + length more = length-append bytes more in
    not_short _ _ e _ _ other (λ long. le-ltb (length all) 9 (omega (arith, grows, ltb-false (length bytes) 9 long)))
    (λ long.
    let head : 9 ≤ length bytes = ltb-false (length bytes) 9 long in
    let kind : kind_in all ≡ kind_in bytes = at 8 bytes more (omega (arith, head)) in
    rw (page_longer bytes more (omega (arith, head)), stamp_longer bytes more (omega (arith, head)), kind)
    (still _ Page e _ _ (still _ Stamp e _ _ (still _ Kind e _ _ (still_none _ e _ _
    (not_short _ _ e _ _ other
    (λ whole. le-ltb (length all) (9 + 2 ^ shape.shift)
    (omega (arith, grows, ltb-false (length bytes) (9 + 2 ^ shape.shift) whole)))
    (λ whole zeros.
    ap (λ (l : List ℕ). if list_all (λ byte. byte == 0) l then Some ZeroData else None)
    (bytes_longer shape bytes more (ltb-false (length bytes) (9 + 2 ^ shape.shift) whole)) ∙ zeros)))))))
    is

wrong_longer : (trace : GuestTrace) (stop : ℕ) (last : List (Option ℕ)) (bytes more : List ℕ) (fault : FrameFault)
    → fault.cause ≢ Refused Short → IsWrongFront trace stop last bytes fault
    → IsWrongFront trace stop last (bytes ++ more) fault
wrong_longer trace stop last bytes more fault other wrong = elim wrong [
  | inl refused ↦
      inl (
        refused.0,
        refused.1,
        refused_longer (shape_of_trace trace) bytes more refused.0
            (λ short. other (ap (λ (f : FrameFault). f.cause) refused.1
            ∙ ap (λ (e : FrameError). Refused e) short)) refused.2,
      )
  | inr begins ↦
      let front : List ℕ = take begins.size bytes in
      let parts : bytes ++ more ≡ front ++ (drop begins.size bytes ++ more) =
      ap (λ (x : List ℕ). x ++ more) (sym (take-append-drop begins.size bytes))
      ∙ append_assoc front (drop begins.size bytes) more in
      inr (record {
        frame = begins.frame;
        size = length front;
        spells = record {
          is_frame = begins.spells.is_frame;
          text = ap (take (length front)) parts ∙ take-append_seam front (drop begins.size bytes ++ more)
              ∙ begins.spells.text;
        };
        page_is = begins.page_is;
        stamp_is = begins.stamp_is;
        wrong = begins.wrong;
      })
]

pub stops_early : (trace : GuestTrace) (old new : Checked) (front more : List ℕ) (found : WrongFrame)
    → found.fault.cause ≢ Refused Short → StopsAt trace old new front found
    → StopsAt trace old new (front ++ more) found
stops_early trace old new front more found other stops =
    let first = stops.first in
    let rest : List ℕ = drop found.offset front in
    let there : drop found.offset (front ++ more) ≡ rest ++ more =
    drop-append-le found.offset front more (omega (arith, first.within)) in
    record {
      first = record {
        frames = first.frames;
        number = first.number;
        begins = rw there (record {
          are_frames = first.begins.are_frames;
          right = first.begins.right;
          text = ap (λ (x : List ℕ). x ++ more) first.begins.text
              ∙ append_assoc (flat_map frame_text first.frames) rest more;
        });
        within = omega (arith, first.within, length-append front more);
        wrong = rw there (wrong_longer trace old.stop (last_stamps old.last first.frames) rest more found.fault other
            first.wrong);
      };
      after = stops.after;
    }
