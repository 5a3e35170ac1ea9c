-- What a part has from some texts.
use Rattle.std.proofs.Common.{◌≡◌, ℕ, zero, suc, ◌≤◌, ◌⊎◌, inl, inr, List, [], ◌∷◌, map, refl, sym, ap, subst, ◌∙◌}
use Rattle.std.proofs.Common.{arith}
use Rattle.std.specs.Prelude.{Some, None}
use Rattle.std.specs.List.{All, Contains}
use Rattle.std.proofs.lemmas.List.Elements.{All-head, All-tail}
use Rattle.migration_model.specs.Frames.{GuestShape, IsGuestShape, PageFrame, IsFrame, SpellsFrame, frame_text}
use Rattle.migration_model.specs.Parts.{GuestPart, PageCopy, IsPart, copy_at, copy_in, empty_part, with_frame}
use Rattle.migration_model.specs.Parts.{with_frames}
use Rattle.migration_model.proofs.Final.{IsPart-with_frame}
use Rattle.migration_model.proofs.Frames.{one_frame_lem}
use Rattle.stream_receivers.specs.Receivers.{HasFrames}
use Rattle.stream_receivers.proofs.Came.{one_had, one_kept, one_came}

pub in_rest : {X : Type 0} (y x : X) (xs : List X) → Contains xs x → Contains (y ∷ xs) x
in_rest y x xs c = let low = c.1 in (suc c.0, omega (arith, low), c.2)

pub first_or_rest : {X : Type 0} (y x : X) (xs : List X) → Contains (y ∷ xs) x → (y ≡ x) ⊎ Contains xs x
first_or_rest y x xs (zero, low, is) = inl is
first_or_rest y x xs (suc k, low, is) = inr (k, omega (arith, low), is)

pub has_same : (shape : GuestShape) (A B : List ℕ → Type 0) (part : GuestPart) → ((text : List ℕ) → A text → B text)
    → ((text : List ℕ) → B text → A text)
    → HasFrames shape A part → HasFrames shape B part
has_same shape A B part to back has = record {
  is_part = has.is_part;
  shape_is = has.shape_is;
  had = λ page copy there. let h = has.had page copy there in (h.0, h.1, to h.0 h.2, h.3, h.4, h.5);
  came = λ text frame is spells. has.came text frame (back text is) spells;
}

-- a part without any page has no texts
pub has_nothing : (shape : GuestShape) (A : List ℕ → Type 0) → IsPart (empty_part shape)
    → ((page : ℕ) → copy_at (empty_part shape) page ≡ None)
    → ((text : List ℕ) → A text → ⊥) → HasFrames shape A (empty_part shape)
has_nothing shape A is empty none = record {
  is_part = is;
  shape_is = refl;
  had = λ page copy there. let e : None ≡ Some copy = sym (empty page) ∙ there in absurd (cc e);
  came = λ text frame a spells. absurd (none text a);
}

-- one more text
pub has_more : (shape : GuestShape) (A B : List ℕ → Type 0) (part : GuestPart) (text : List ℕ) (frame : PageFrame)
    → ((t : List ℕ) → A t → B t)
    → ((t : List ℕ) → B t → A t ⊎ (t ≡ text)) → B text → SpellsFrame shape text frame → HasFrames shape A part
    → HasFrames shape B (with_frame part frame)
has_more shape A B part text frame to back here spells has =
    let fits : IsFrame part.shape frame = subst (λ (s : GuestShape). IsFrame s frame) (sym has.shape_is)
    spells.is_frame in
    let is : IsGuestShape shape = subst IsGuestShape has.shape_is has.is_part.shape in
    record {
      is_part = IsPart-with_frame part frame has.is_part fits;
      shape_is = has.shape_is;
      had = λ page copy there. elim (one_had part frame page copy has.is_part fits there) [
        | inl before ↦ let h = has.had page copy before in (h.0, h.1, to h.0 h.2, h.3, h.4, h.5)
        | inr new ↦ (
          text,
          frame,
          here,
          spells,
          new.0,
          sym new.1
              ∙ ap (λ (s : GuestShape). copy_in s frame) has.shape_is,
        )
      ];
      came = λ t f b spells_f. elim (back t b) [
        | inl before ↦
            let first = has.came t f before spells_f in
            let kept = one_kept part frame f.page first.0 has.is_part fits first.1 in
            (kept.0, kept.1, omega (arith, first.2, kept.2))
        | inr last ↦
            let same : frame ≡ f = one_frame_lem shape text frame f is spells
            (subst (λ (x : List ℕ). SpellsFrame shape x f) last spells_f) in
            subst (λ (g : PageFrame). (copy : PageCopy) × (copy_at (with_frame part frame) g.page ≡ Some copy)
            × (g.stamp ≤ copy.stamp)) same
            (one_came part frame has.is_part fits)
      ];
    }

-- more texts
pub has_all : (shape : GuestShape) (A B : List ℕ → Type 0) (part : GuestPart) (frames : List PageFrame)
    → ((t : List ℕ) → A t → B t)
    → ((t : List ℕ) → B t → A t ⊎ Contains (map frame_text frames) t)
    → ((t : List ℕ) → Contains (map frame_text frames) t → B t)
    → All (IsFrame shape) frames → HasFrames shape A part → HasFrames shape B (with_frames part frames)
has_all shape A B part [] to back new fits has =
    has_same shape A B part to (λ t b. elim (back t b) [ inl a ↦ a | inr c ↦ absurd (omega (arith, c.1)) ]) has
has_all shape A B part (f ∷ fs) to back new fits has =
    let A' : List ℕ → Type 0 = λ t. A t ⊎ (t ≡ frame_text f) in
    let one : IsFrame shape f = All-head (IsFrame shape) f fs fits in
    has_all shape A' B (with_frame part f) fs
    (λ t a. elim a [ inl before ↦ to t before | inr e ↦ new t (0, omega arith, sym e) ])
    (λ t b. elim (back t b) [
      | inl a ↦ inl (inl a)
      | inr c ↦ elim (first_or_rest (frame_text f) t (map frame_text fs) c) [
        | inl e ↦ inl (inr (sym e))
        | inr later ↦ inr later
      ]
    ])
    (λ t c. new t (in_rest (frame_text f) t (map frame_text fs) c)) (All-tail (IsFrame shape) f fs fits)
    (has_more shape A A' part (frame_text f) f (λ t a. inl a) (λ t a. a) (inr refl)
    (record { is_frame = one; text = refl }) has)
