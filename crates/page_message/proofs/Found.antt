-- The frame that is read is the one that the bytes encode, and what is encoded is read.
use Rattle.std.proofs.Common.{◌≡◌, ℕ, ◌+◌, ◌^◌, ◌<◌, ◌≤◌, true, false, eqb, List, [], ◌∷◌, ◌++◌, length, take, drop}
use Rattle.std.proofs.Common.{Option, Some, None, Result, Ok, Err, IfOk, IfErr, refl, sym, ap, ap₂, ◌∙◌, inl, inr}
use Rattle.std.proofs.Common.{arith}
use Rattle.std.specs.Int.{w32}
use Rattle.std.proofs.lemmas.Bool.{cases_Bool, eqb-true, eqb-false, ltb-false, leb-false, le-ltb, lt-leb, cond-false}
use Rattle.std.proofs.lemmas.List.{length-append, length-take-le, length-drop, drop-drop, drop_more, take_at}
use Rattle.std.proofs.lemmas.List.{take-append-drop}
use Rattle.migration_model.specs.Numbers.{IsBytes, text_of}
use Rattle.migration_model.proofs.Numbers.{wide32}
use Rattle.migration_model.proofs.Writes.{IsBytes-drop, number_front}
use Rattle.migration_model.specs.Frames.{GuestShape, IsGuestShape, IsZeros, PageFrame, frame_with, IsFrame, frame_text}
use Rattle.migration_model.specs.Frames.{SpellsFrame}
use Rattle.migration_model.proofs.Frames.{HasRoom-from_frame, page_again, stamp_again, same_front}
use Rattle.page_message.specs.Reading.{page_in, stamp_in, kind_in, bytes_in, body_in, size_in}
use Rattle.page_message.specs.Refusals.{frame_refusal}
use Rattle.page_message.specs.declared.error.FrameError.{FrameError}
use Rattle.page_message.proofs.Steps.{passed, passes}
use Rattle.page_message.proofs.ZeroBytes.{not_zeros, some_from_false}

-- ---- what is read

-- page, stamp and kind, and the `m` bytes after them
front_is : (bytes : List ℕ) (m : ℕ) → IsBytes bytes → 9 + m ≤ length bytes
    → take (9 + m) bytes ≡ text_of w32 (page_in bytes) ++ (text_of w32 (stamp_in bytes) ++ kind_in bytes
    ∷ take m (drop 9 bytes))
unfolding text_of
front_is bytes m fits long =
    let front : List ℕ = text_of w32 (page_in bytes) ++ (text_of w32 (stamp_in bytes) ++ kind_in bytes
    ∷ take m (drop 9 bytes)) in
    let len : length (take m (drop 9 bytes)) ≡ m = length-take-le m (drop 9 bytes)
    (omega (arith, length-drop 9 bytes)) in
    let at8 : kind_in bytes ∷ (take m (drop 9 bytes) ++ drop m (drop 9 bytes)) ≡ drop 4 (drop 4 bytes) =
    ap (λ (x : List ℕ). kind_in bytes ∷ x) (take-append-drop m (drop 9 bytes)) ∙ sym (drop_more bytes 8 0 (omega arith))
    ∙ sym (drop-drop 4 4 bytes) in
    let at4 : text_of w32 (stamp_in bytes) ++ (kind_in bytes ∷ (take m (drop 9 bytes) ++ drop m (drop 9 bytes)))
    ≡ drop 4 bytes =
    number_front w32 4 (2 ^ 32) wide32 (drop 4 bytes) _ (IsBytes-drop 4 bytes fits) (omega (arith, length-drop 4 bytes))
    at8 in
    let whole : front ++ drop m (drop 9 bytes) ≡ bytes = number_front w32 4 (2 ^ 32) wide32 bytes _ fits (omega arith)
    at4 in
    ap (λ (x : List ℕ). take (9 + m) x) (sym whole) ∙ take_at front (drop m (drop 9 bytes)) (9 + m) (omega (arith, len))

-- what is read if nothing is refused
pub record Reads (shape : GuestShape) (bytes : List ℕ) : Type 0 where
  pub long : 9 ≤ length bytes
  pub spelled : SpellsFrame shape (take (size_in shape bytes) bytes)
      (frame_with (page_in bytes) (stamp_in bytes) (body_in shape bytes))
  pub within : size_in shape bytes ≤ length bytes

reads_zeros : (shape : GuestShape) (bytes : List ℕ) → IsBytes bytes → 9 ≤ length bytes → page_in bytes < shape.pages
    → stamp_in bytes ≤ shape.writes
    → kind_in bytes ≡ 0 → Reads shape bytes
unfolding frame_text
reads_zeros shape bytes fits long page stamp kind =
    let test : eqb (kind_in bytes) 0 ≡ true = ap (λ k. eqb k 0) kind in
    record {
      long = long;
      spelled = rw test (record {
        is_frame = record { page = page; stamp = stamp; body = tt };
        text = front_is bytes 0 fits long ∙ ap (λ k. text_of w32 (page_in bytes)
            ++ (text_of w32 (stamp_in bytes) ++ k ∷ [])) kind;
      });
      within = rw test long;
    }

reads_bytes : (shape : GuestShape) (bytes : List ℕ) → IsBytes bytes → 9 ≤ length bytes → page_in bytes < shape.pages
    → stamp_in bytes ≤ shape.writes
    → kind_in bytes ≡ 1 → 9 + 2 ^ shape.shift ≤ length bytes → ¬ IsZeros (bytes_in shape bytes) → Reads shape bytes
unfolding frame_text
reads_bytes shape bytes fits long page stamp kind whole some =
    let test : eqb (kind_in bytes) 0 ≡ false = ap (λ k. eqb k 0) kind in
    let len : length (bytes_in shape bytes) ≡ 2 ^ shape.shift =
    length-take-le (2 ^ shape.shift) (drop 9 bytes) (omega (arith, length-drop 9 bytes)) in
    record {
      long = long;
      spelled = rw test (record {
        is_frame = record { page = page; stamp = stamp; body = (len, some) };
        text = front_is bytes (2 ^ shape.shift) fits whole ∙ ap
            (λ k. text_of w32 (page_in bytes) ++ (text_of w32 (stamp_in bytes) ++ k ∷ bytes_in shape bytes)) kind;
      });
      within = rw test whole;
    }

pub reads : (shape : GuestShape) (bytes : List ℕ) → IsBytes bytes → frame_refusal shape bytes ≡ None → Reads shape bytes
reads shape bytes fits none =
    let long = passed _ _ _ none in
    let page = passed _ _ _ long.1 in
    let stamp = passed _ _ _ page.1 in
    let kind = passed _ _ _ stamp.1 in
    elim (cases_Bool (eqb (kind_in bytes) 0)) [
      | inl zero ↦ reads_zeros shape bytes fits (ltb-false _ _ long.0) (leb-false _ _ page.0) (ltb-false _ _ stamp.0)
          (eqb-true _ _ zero)
      | inr other ↦
          let one : kind_in bytes ≡ 1 = let low : kind_in bytes ≤ 1 =
          ltb-false _ _ kind.0 in let some : kind_in bytes ≡ 0 → ⊥ = eqb-false _ _ other in omega (arith, some) in
          let behind = passed _ _ _ (sym (cond-false (eqb (kind_in bytes) 0) _ _ other) ∙ kind.1) in
          let filled = passed _ _ _ behind.1 in
          reads_bytes shape bytes fits (ltb-false _ _ long.0) (leb-false _ _ page.0) (ltb-false _ _ stamp.0) one
          (ltb-false _ _ behind.0) (some_from_false _ filled.0)
    ]

-- ---- what is encoded

spelled_passes : (shape : GuestShape) (page stamp : ℕ) (body : Option (List ℕ)) (rest : List ℕ) → IsGuestShape shape
    → IsFrame shape (frame_with page stamp body)
    → frame_refusal shape (frame_text (frame_with page stamp body) ++ rest) ≡ None
unfolding frame_text text_of
spelled_passes shape page stamp None rest is fits =
    let frame = frame_with page stamp None in
    let bytes : List ℕ = frame_text frame ++ rest in
    let room = HasRoom-from_frame shape frame is fits in
    let long : 9 ≤ length bytes = omega arith in
    passes _ _ _ (le-ltb (length bytes) 9 long)
    (passes _ _ _ (lt-leb shape.pages (page_in bytes) (rw (page_again frame rest room) fits.page))
    (passes _ _ _ (le-ltb shape.writes (stamp_in bytes) (rw (stamp_again frame rest room) fits.stamp)) refl))
spelled_passes shape page stamp (Some own) rest is fits =
    let frame = frame_with page stamp (Some own) in
    let bytes : List ℕ = frame_text frame ++ rest in
    let room = HasRoom-from_frame shape frame is fits in
    let long : 9 + 2 ^ shape.shift ≤ length bytes = omega (arith, length-append own rest, fits.body.0) in
    let same : bytes_in shape bytes ≡ own = take_at own rest (2 ^ shape.shift) fits.body.0 in
    passes _ _ _ (le-ltb (length bytes) 9 (omega arith))
    (passes _ _ _ (lt-leb shape.pages (page_in bytes) (rw (page_again frame rest room) fits.page))
    (passes _ _ _ (le-ltb shape.writes (stamp_in bytes) (rw (stamp_again frame rest room) fits.stamp))
    (passes _ _ _ (le-ltb (length bytes) (9 + 2 ^ shape.shift) long)
    (passes _ _ _ (rw same (not_zeros own fits.body.1)) refl))))

pub never_refused : (shape : GuestShape) (bytes rest : List ℕ) (frame : PageFrame) → IsGuestShape shape
    → IsFrame shape frame → bytes ≡ frame_text frame ++ rest
    → frame_refusal shape bytes ≡ None
never_refused shape bytes rest frame is fits same = ap (frame_refusal shape) same
    ∙ spelled_passes shape frame.page frame.stamp frame.body rest is fits

-- so bytes that begin with an encoding are read as that frame, and no other
pub is_only : (shape : GuestShape) (bytes : List ℕ) (r : Result (PageFrame × ℕ) FrameError) → IsGuestShape shape
    → IfOk r (λ read. SpellsFrame shape (take read.1 bytes) read.0) → IfOk r (λ read. read.1 ≤ length bytes)
    → IfErr r (λ e. frame_refusal shape bytes ≡ Some e)
    → (frame : PageFrame) (rest : List ℕ) → IsFrame shape frame → bytes ≡ frame_text frame ++ rest
    → r ≡ Ok (frame, length (frame_text frame))
is_only shape bytes (Ok read) is found within refused frame rest fits same =
    let texts : frame_text read.0 ++ drop read.1 bytes ≡ frame_text frame ++ rest =
    ap (λ (x : List ℕ). x ++ drop read.1 bytes) (sym found.text) ∙ take-append-drop read.1 bytes ∙ same in
    let front = same_front shape read.0 frame (drop read.1 bytes) rest is found.is_frame fits texts in
    let size : read.1 ≡ length (frame_text frame) =
    sym (length-take-le read.1 bytes within) ∙ ap length found.text
    ∙ ap (λ (f : PageFrame). length (frame_text f)) front.0 in
    ap₂ (λ (f : PageFrame) (n : ℕ). Ok (f, n)) front.0 size
is_only shape bytes (Err e) is found within refused frame rest fits same =
    absurd (cc (refused, never_refused shape bytes rest frame is fits same))
