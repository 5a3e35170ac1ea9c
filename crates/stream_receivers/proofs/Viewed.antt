-- Frames that are viewed in the text that encodes them.
use Rattle.std.proofs.Common.{◌≡◌, ℕ, ◌+◌, ◌-◌, ◌≤◌, List, length, take, drop, true, is_some, Option}
use Rattle.std.proofs.Common.{Some, None, option_map, Result, Ok, Err, IfErr, refl, sym, ap, subst, ◌∙◌, arith}
use Rattle.std.proofs.lemmas.List.{take_all, length-drop}
use Rattle.std.proofs.lemmas.List.Edits.{take-paste}
use Rattle.std.specs.List.{copy_within}
use Rattle.std.proofs.lemmas.Bool.{false≢true}
use Rattle.migration_model.specs.Numbers.{text_of}
use Rattle.migration_model.specs.Frames.{GuestShape, PageFrame, frame_with, frame_text, SpellsFrame}
use Rattle.stream_receivers.specs.Texts.{HasBytes}

-- what is shifted to the front, with the rest cut off
pub shifted : (text new : List ℕ) (size : ℕ) → 9 ≤ length text → size ≡ length text - 9 → new
    ≡ take size (copy_within text 9 (length text) 0) → new ≡ drop 9 text
shifted text new size long size_is is =
    let len : ◌≡◌ {A = ℕ} (length (drop 9 text)) (length text - 9) = length-drop 9 text in
    let none : size ≡ 0 + (length text - 9) = omega (arith, size_is) in
    is ∙ ap (λ (n : ℕ). take n (copy_within text 9 (length text) 0)) none
    ∙ take-paste text 0 (drop 9 text) (length text - 9) (omega arith) (omega (arith, len))
    ∙ take_all (length text - 9) (drop 9 text) (let low : length (drop 9 text) ≤ length text - 9 = omega (arith, len) in
    low)

-- these are the bytes after the head of a frame with bytes
body_behind : (page stamp : ℕ) (bytes : List ℕ) → drop 9 (frame_text (frame_with page stamp (Some bytes))) ≡ bytes
unfolding frame_text text_of
body_behind page stamp bytes = refl

long_text : (page stamp : ℕ) (bytes : List ℕ) → 9 ≤ length (frame_text (frame_with page stamp (Some bytes)))
unfolding frame_text text_of
long_text page stamp bytes = omega arith

-- a frame with bytes has those behind its head, which takes 9
pub behind_head : (shape : GuestShape) (text : List ℕ) (page stamp : ℕ) → HasBytes shape text page stamp
    → SpellsFrame shape text (frame_with page stamp (Some (drop 9 text))) × (9 ≤ length text)
behind_head shape text page stamp (bytes, spells) = (
  subst (λ (b : List ℕ). SpellsFrame shape text (frame_with page stamp (Some b)))
      (sym (ap (drop 9) spells.text ∙ body_behind page stamp bytes)) spells,
  subst (λ (t : List ℕ). 9 ≤ length t) (sym spells.text) (long_text page stamp bytes),
)

-- a refused result isn't an answer
pub never_both : {X E : Type 0} (r : Result X E) (x : X) (e : E) → r ≡ Ok x → r ≡ Err e → ⊥
never_both {X} {E} r x e good bad = subst (λ (q : Result X E). IfErr q (λ _. ⊥)) bad
    (subst (λ (q : Result X E). IfErr q (λ _. ⊥)) (sym good) tt)

-- a frame that takes the whole text
pub whole_text : (shape : GuestShape) (text : List ℕ) (frame : PageFrame) (size : ℕ)
    → SpellsFrame shape (take size text) frame → size ≡ length text → SpellsFrame shape text frame
whole_text shape text frame size spells whole =
    subst (λ (t : List ℕ). SpellsFrame shape t frame)
    (take_all size text (let low : length text ≤ size = omega (arith, whole) in low)) spells

has_body : (shape : GuestShape) (text : List ℕ) (page stamp : ℕ) (body : Option (List ℕ))
    → SpellsFrame shape text (frame_with page stamp body) → is_some body ≡ true → HasBytes shape text page stamp
has_body shape text page stamp None spells some = absurd (false≢true some)
has_body shape text page stamp (Some bytes) spells some = (bytes, spells)

-- a frame with bytes takes the whole text
pub whole_bytes : (shape : GuestShape) (text : List ℕ) (frame : PageFrame) (size : ℕ)
    → SpellsFrame shape (take size text) frame → size ≡ length text → is_some frame.body ≡ true
    → HasBytes shape text frame.page frame.stamp
whole_bytes shape text frame size spells whole some =
    has_body shape text frame.page frame.stamp frame.body (whole_text shape text frame size spells whole) some

-- what is viewed through a reference is there
pub some_mapped : {X Y : Type 0} (f : X → Y) (o : Option X) → is_some o ≡ true → is_some (option_map f o) ≡ true
some_mapped f None some = some
some_mapped f (Some x) some = refl
