-- A part to which texts come until one of them is refused.
use Rattle.std.proofs.Common.{◌≡◌, ℕ, ◌+◌, ◌⊎◌, inl, inr, List, [], ◌∷◌, ◌++◌, length, get_or, map, refl, sym, subst}
use Rattle.std.proofs.Common.{◌∙◌, arith}
use Rattle.std.specs.Prelude.{Option, Some, None, IfSome, false, is_some}
use Rattle.std.specs.List.{All, Contains}
use Rattle.std.proofs.lemmas.List.{get_or_append_left, get_or-append-add, length-append}
use Rattle.std.proofs.lemmas.List.Elements.{All-head, All-tail, Contains-get_or}
use Rattle.migration_model.specs.Frames.{GuestShape, PageFrame, IsFrame, SpellsFrame, frame_text}
use Rattle.migration_model.specs.Parts.{GuestPart}
use Rattle.stream_receivers.specs.Held.{IsHeld, Accepts}
use Rattle.stream_receivers.specs.Receivers.{AreFrames, HasFrames}
use Rattle.stream_receivers.specs.Texts.{TakesText}
use Rattle.stream_receivers.specs.declared.error.ReceiverError.{ReceiverError}
use Rattle.stream_receivers.specs.declared.error.ReceiverError.TheVariants.{Memory}
use Rattle.stream_receivers.proofs.Had.{first_or_rest, has_all, has_same}
use Rattle.stream_receivers.proofs.Texts.{texts_none, texts_one, texts_both}

-- ---- texts after texts

pub accepts_none : (part : GuestPart) (refusal : Option ReceiverError) → Accepts part part refusal refusal []
accepts_none part None = record { shape = refl; kept = tt; taken = λ e. (refl, texts_none part); only = λ e all. tt }
accepts_none part (Some error) = record {
  shape = refl;
  kept = refl;
  taken = λ e. absurd (cc e);
  only = λ e all. absurd
      (cc e);
}

-- one text was taken, and nothing is refused
pub accepts_taken : (old new : GuestPart) (refusal : Option ReceiverError) (text : List ℕ) → is_some refusal ≡ false
    → new.shape ≡ old.shape → TakesText old new text
    → Accepts old new refusal refusal (text ∷ [])
accepts_taken old new None text none shape taken = record {
  shape = shape;
  kept = tt;
  taken = λ e. (refl, texts_one old new text taken);
  only = λ e all. tt;
}
accepts_taken old new (Some error) text none shape taken = absurd (cc none)

all_front : {X : Type 0} (P : X → Type 0) (xs ys : List X) → All P (xs ++ ys) → All P xs
all_front P xs ys all = λ k d low.
    subst P (get_or_append_left xs ys d k low) (all k d (omega (arith, low, length-append xs ys)))

all_back : {X : Type 0} (P : X → Type 0) (xs ys : List X) → All P (xs ++ ys) → All P ys
all_back P xs ys all = λ k d low.
    subst P (get_or-append-add xs ys k d) (all (length xs + k) d (omega (arith, low, length-append xs ys)))

pub both_kept : (a b c : Option ReceiverError) → IfSome a (λ e. b ≡ Some e) → IfSome b (λ e. c ≡ Some e)
    → IfSome a (λ e. c ≡ Some e)
both_kept None b c first second = tt
both_kept (Some e) b c first second = let s = subst (λ (o : Option ReceiverError). IfSome o (λ x. c ≡ Some x)) first
    second in s

both_only : (b c : Option ReceiverError) → IfSome b (λ e. e ≡ Memory) → IfSome b (λ e. c ≡ Some e)
    → (b ≡ None → IfSome c (λ e. e ≡ Memory)) → IfSome c (λ e. e ≡ Memory)
both_only None c first kept second = second refl
both_only (Some e) c first kept second = subst (λ (o : Option ReceiverError). IfSome o (λ x. x ≡ Memory)) (sym kept)
    first

pub accepts_both : (old mid new : GuestPart) (a b c : Option ReceiverError) (first second : List (List ℕ))
    → Accepts old mid a b first → Accepts mid new b c second
    → Accepts old new a c (first ++ second)
accepts_both old mid new a b c first second one two =
    let Spells : GuestShape → List ℕ → Type 0 = λ shape text. (frame : PageFrame) × SpellsFrame shape text frame in
    record {
      shape = two.shape ∙ one.shape;
      kept = both_kept a b c one.kept two.kept;
      taken = λ e. let last = two.taken e in let before = one.taken last.0 in
          (before.0, texts_both old mid new first second before.1 last.1);
      only = λ e all.
          both_only b c (one.only e (all_front (Spells old.shape) first second all)) two.kept
          (λ none. two.only none (subst (λ (s : GuestShape). All (Spells s) second) (sym one.shape)
          (all_back (Spells old.shape) first second all)));
    }

-- ---- a part that these texts come to

spelled_in : (shape : GuestShape) (frames : List PageFrame) (text : List ℕ) → All (IsFrame shape) frames
    → Contains (map frame_text frames) text
    → (frame : PageFrame) × SpellsFrame shape text frame
spelled_in shape [] text fits c = absurd (omega (arith, c.1))
spelled_in shape (f ∷ fs) text fits c = elim (first_or_rest (frame_text f) text (map frame_text fs) c) [
  | inl e ↦ (f, record { is_frame = All-head (IsFrame shape) f fs fits; text = sym e })
  | inr later ↦ spelled_in shape fs text (All-tail (IsFrame shape) f fs fits) later
]

held_refused : (shape : GuestShape) (A B : List ℕ → Type 0) (a b : Option ReceiverError) (texts : List (List ℕ))
    → ((t : List ℕ) → A t → B t)
    → ((t : List ℕ) → Contains texts t → B t) → (AreFrames shape A → IfSome a (λ e. e ≡ Memory))
    → IfSome a (λ e. b ≡ Some e)
    → (a ≡ None → All (λ text. (frame : PageFrame) × SpellsFrame shape text frame) texts → IfSome b (λ e. e ≡ Memory))
    → AreFrames shape B → IfSome b (λ e. e ≡ Memory)
held_refused shape A B None b texts to new refused kept only frames = only refl
    (λ k d low. frames (get_or texts k d) (new (get_or texts k d) (Contains-get_or texts k d low)))
held_refused shape A B (Some e) b texts to new refused kept only frames =
    subst (λ (o : Option ReceiverError). IfSome o (λ x. x ≡ Memory)) (sym kept) (refused (λ t a. frames t (to t a)))

pub held_more : (shape : GuestShape) (A B : List ℕ → Type 0) (old new : GuestPart) (a b : Option ReceiverError)
    (texts : List (List ℕ)) → old.shape ≡ shape
    → ((t : List ℕ) → A t → B t) → ((t : List ℕ) → B t → A t ⊎ Contains texts t)
    → ((t : List ℕ) → Contains texts t → B t)
    → Accepts old new a b texts → IsHeld shape A old a → IsHeld shape B new b
held_more shape A B old new a b texts same to back more accepts held =
    let fits : (e : b ≡ None) → All (IsFrame shape) (accepts.taken e).1.frames = λ e.
    subst (λ (s : GuestShape). All (IsFrame s) (accepts.taken e).1.frames) same (accepts.taken e).1.are_frames in
    record {
      frames = λ e t here. elim (back t here) [
        | inl before ↦ held.frames (accepts.taken e).0 t before
        | inr new_one ↦
            let takes = (accepts.taken e).1 in
            spelled_in shape takes.frames t (fits e)
            (subst (λ (ts : List (List ℕ)). Contains ts t) takes.spelled new_one)
      ];
      has = λ e.
          let takes = (accepts.taken e).1 in
          subst (λ (p : GuestPart). HasFrames shape B p) (sym takes.part)
          (has_all shape A B old takes.frames to
          (λ t here. elim (back t here) [
            | inl before ↦ inl before
            | inr new_one ↦ inr
                (subst (λ (ts : List (List ℕ)). Contains ts t) takes.spelled new_one)
          ])
          (λ t c. more t (subst (λ (ts : List (List ℕ)). Contains ts t) (sym takes.spelled) c)) (fits e)
          (held.has (accepts.taken e).0));
      refused = held_refused shape A B a b texts to more held.refused accepts.kept
          (λ none all. accepts.only none (subst (λ (s : GuestShape). All
          (λ text. (frame : PageFrame) × SpellsFrame s text frame) texts) (sym same) all));
    }

pub held_same : (shape : GuestShape) (A B : List ℕ → Type 0) (part : GuestPart) (refusal : Option ReceiverError)
    → ((t : List ℕ) → A t → B t) → ((t : List ℕ) → B t → A t)
    → IsHeld shape A part refusal → IsHeld shape B part refusal
held_same shape A B part refusal to back held = record {
  frames = λ e t b. held.frames e t (back t b);
  has = λ e. has_same shape A B part to back (held.has e);
  refused = λ frames. held.refused (λ t a. frames t (to t a));
}
