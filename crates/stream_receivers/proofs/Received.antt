-- A part that has what the encodings of some frames bring is the join of these frames.
use Rattle.std.proofs.Common.{◌≡◌, ℕ, inr, zero, suc, ◌≤◌, List, [], ◌∷◌, length, map, get_or, replicate}
use Rattle.std.proofs.Common.{Option, Some, None, IfSome, refl, sym, ap, subst, ◌∙◌, arith}
use Rattle.std.specs.List.{All, Contains, fold}
use Rattle.std.proofs.lemmas.List.{ext_get_or, length-replicate}
use Rattle.std.proofs.lemmas.List.Elements.{All-head, All-tail}
use Rattle.std.proofs.lemmas.Option.{same_Some}
use Rattle.migration_model.specs.Frames.{GuestShape, IsGuestShape, PageFrame, IsFrame, SpellsFrame, content_of}
use Rattle.migration_model.specs.Frames.{frame_text}
use Rattle.migration_model.specs.Parts.{FramesAgree, PageCopy, GuestPart, IsCopy, IsPart, copy_at, copy_in, empty_part}
use Rattle.migration_model.specs.Parts.{join, join_all, part_of, part_with, with_frame, with_frames}
use Rattle.migration_model.proofs.Final.{IsPart-with_frame}
use Rattle.migration_model.proofs.Frames.{one_frame_lem}
use Rattle.migration_model.proofs.Parts.{join-join, later_each-nones, same_copy, same_part, with_frame_joins_lem}
use Rattle.stream_receivers.specs.Receivers.{HasFrames}
use Rattle.stream_receivers.proofs.Had.{has_all, has_nothing, in_rest}

-- ---- two parts that have what the same encodings bring

-- frames whose encodings are among these agree
abbrev TextsAgree : GuestShape → (List ℕ → Type 0) → Type 0
TextsAgree shape IsText =
    (s t : List ℕ) (f g : PageFrame) → IsText s → IsText t → SpellsFrame shape s f → SpellsFrame shape t g
    → f.page ≡ g.page → f.stamp ≡ g.stamp
    → content_of shape f ≡ content_of shape g

-- a part that has the frame of an encoding has its page
came_at : (shape : GuestShape) (IsText : List ℕ → Type 0) (part : GuestPart) (p : ℕ) (text : List ℕ) (frame : PageFrame)
    → HasFrames shape IsText part → IsText text
    → SpellsFrame shape text frame → frame.page ≡ p → (copy : PageCopy) × (copy_at part p ≡ Some copy)
    × (frame.stamp ≤ copy.stamp)
came_at shape IsText part p text frame has is spells page =
    let came = has.came text frame is spells in
    (came.0, ap (copy_at part) (sym page) ∙ came.1, came.2)

same_at : (shape : GuestShape) (IsText : List ℕ → Type 0) (a b : GuestPart) (p : ℕ) (x y : Option PageCopy)
    → TextsAgree shape IsText → HasFrames shape IsText a
    → HasFrames shape IsText b → copy_at a p ≡ x → copy_at b p ≡ y → x ≡ y
same_at shape IsText a b p None None agree has_a has_b at_a at_b = refl
same_at shape IsText a b p (Some c) None agree has_a has_b at_a at_b =
    let had = has_a.had p c at_a in
    let came = came_at shape IsText b p had.0 had.1 has_b had.2 had.3 had.4 in
    absurd (cc (sym at_b ∙ came.1))
same_at shape IsText a b p None (Some e) agree has_a has_b at_a at_b =
    let had = has_b.had p e at_b in
    let came = came_at shape IsText a p had.0 had.1 has_a had.2 had.3 had.4 in
    absurd (cc (sym at_a ∙ came.1))
same_at shape IsText a b p (Some c) (Some e) agree has_a has_b at_a at_b =
    let had_c = has_a.had p c at_a in
    let had_e = has_b.had p e at_b in
    let f = had_c.1 in
    let g = had_e.1 in
    let in_b = came_at shape IsText b p had_c.0 f has_b had_c.2 had_c.3 had_c.4 in
    let in_a = came_at shape IsText a p had_e.0 g has_a had_e.2 had_e.3 had_e.4 in
    let is_e : in_b.0 ≡ e = same_Some in_b.0 e (sym in_b.1 ∙ at_b) in
    let is_c : in_a.0 ≡ c = same_Some in_a.0 c (sym in_a.1 ∙ at_a) in
    let stamp_c : c.stamp ≡ f.stamp = ap (λ (k : PageCopy). k.stamp) had_c.5 in
    let stamp_e : e.stamp ≡ g.stamp = ap (λ (k : PageCopy). k.stamp) had_e.5 in
    let f_low : f.stamp ≤ e.stamp = subst (λ (k : PageCopy). f.stamp ≤ k.stamp) is_e in_b.2 in
    let g_low : g.stamp ≤ c.stamp = subst (λ (k : PageCopy). g.stamp ≤ k.stamp) is_c in_a.2 in
    let stamps : f.stamp ≡ g.stamp = omega (arith, stamp_c, stamp_e, f_low, g_low) in
    let contents : content_of shape f ≡ content_of shape g =
    agree had_c.0 had_e.0 f g had_c.2 had_e.2 had_c.3 had_e.3 (had_c.4 ∙ sym had_e.4) stamps in
    ap (λ (k : PageCopy). Some k) (had_c.5 ∙ same_copy (copy_in shape f) (copy_in shape g) stamps contents
    ∙ sym had_e.5)

same_parts : (shape : GuestShape) (IsText : List ℕ → Type 0) (a b : GuestPart) → TextsAgree shape IsText
    → HasFrames shape IsText a → HasFrames shape IsText b → a ≡ b
same_parts shape IsText a b agree has_a has_b =
    let pages_a : length a.copies ≡ shape.pages = has_a.is_part.places
    ∙ ap (λ (s : GuestShape). s.pages) has_a.shape_is in
    let pages_b : length b.copies ≡ shape.pages = has_b.is_part.places
    ∙ ap (λ (s : GuestShape). s.pages) has_b.shape_is in
    same_part a b (has_a.shape_is ∙ sym has_b.shape_is)
    (ext_get_or None a.copies b.copies (pages_a ∙ sym pages_b)
    (λ p low. same_at shape IsText a b p (copy_at a p) (copy_at b p) agree has_a has_b refl refl))

-- ---- the join of frames

abbrev no_copy : Option PageCopy
no_copy = None

nothing_at : (n p : ℕ) → get_or (replicate n no_copy) p None ≡ None
nothing_at zero p = refl
nothing_at (suc n) zero = refl
nothing_at (suc n) (suc p) = nothing_at n p

empty_is_part : (shape : GuestShape) → IsGuestShape shape → IsPart (empty_part shape)
empty_is_part shape is = record {
  shape = is;
  places = length-replicate shape.pages None;
  copies = λ page. subst (λ (o : Option PageCopy). IfSome o (IsCopy shape)) (sym (nothing_at shape.pages page)) tt;
}

joined_frames : (shape : GuestShape) (part : GuestPart) (frames : List PageFrame) → part.shape ≡ shape → IsPart part
    → All (IsFrame shape) frames
    → with_frames part frames ≡ fold join part (map (part_of shape) frames)
joined_frames shape part [] same is fit = refl
joined_frames shape part (f ∷ fs) same is fit =
    let one : IsFrame part.shape f = subst (λ (s : GuestShape). IsFrame s f) (sym same)
    (All-head (IsFrame shape) f fs fit) in
    joined_frames shape (with_frame part f) fs same (IsPart-with_frame part f is one)
    (All-tail (IsFrame shape) f fs fit)
    ∙ ap (λ (q : GuestPart). fold join q (map (part_of shape) fs))
    (with_frame_joins_lem part f is.places one.page ∙ ap (λ (s : GuestShape). join part (part_of s f)) same)

-- ---- frames and their encodings

spelled_of : (frames : List PageFrame) (text : List ℕ) → Contains (map frame_text frames) text
    → (f : PageFrame) × Contains frames f × (text ≡ frame_text f)
spelled_of [] text found = absurd (omega (arith, found.1))
spelled_of (f ∷ fs) text (zero, low, is) = (f, (0, omega arith, refl), sym is)
spelled_of (f ∷ fs) text (suc k, low, is) = let rest = spelled_of fs text
    (k, omega (arith, low), is) in (rest.0, in_rest f rest.0 fs rest.1, rest.2)

fits_in : (shape : GuestShape) (frames : List PageFrame) (f : PageFrame) → All (IsFrame shape) frames
    → Contains frames f → IsFrame shape f
fits_in shape frames f fit found = subst (IsFrame shape) found.2 (fit found.0 f found.1)

-- a frame whose encoding is one of these is one of the frames
is_one : (shape : GuestShape) (frames : List PageFrame) (text : List ℕ) (f : PageFrame) → IsGuestShape shape
    → All (IsFrame shape) frames → Contains (map frame_text frames) text
    → SpellsFrame shape text f → Contains frames f
is_one shape frames text f is fit found spells =
    let own = spelled_of frames text found in
    let same : own.0 ≡ f = one_frame_lem shape text own.0 f is
    (record { is_frame = fits_in shape frames own.0 fit own.1; text = own.2 }) spells in
    subst (Contains frames) same own.1

abbrev NoText : List ℕ → Type 0
NoText text = ⊥

pub received_joined : (shape : GuestShape) (IsText : List ℕ → Type 0) (frames : List PageFrame) (part : GuestPart)
    → IsGuestShape shape → All (IsFrame shape) frames
    → FramesAgree shape frames → ((text : List ℕ) → IsText text → Contains (map frame_text frames) text)
    → ((text : List ℕ) → Contains (map frame_text frames) text → IsText text) → HasFrames shape IsText part
    → part ≡ join_all shape (map (part_of shape) frames)
received_joined shape IsText frames part is fit agree to back has =
    let empty = empty_is_part shape is in
    let nothing : HasFrames shape NoText (empty_part shape) =
    has_nothing shape NoText empty (nothing_at shape.pages) (λ text none. none) in
    let all : HasFrames shape IsText (with_frames (empty_part shape) frames) =
    has_all shape NoText IsText (empty_part shape) frames (λ t none. absurd none) (λ t there. inr (to t there)) back fit
    nothing in
    let texts : TextsAgree shape IsText =
    λ s t f g is_s is_t spells_f spells_g. agree f g (is_one shape frames s f is fit (to s is_s) spells_f)
    (is_one shape frames t g is fit (to t is_t) spells_g) in
    same_parts shape IsText part (with_frames (empty_part shape) frames) texts has all
    ∙ joined_frames shape (empty_part shape) frames refl empty fit

-- ---- a part that was there before any frame

joins_on : (a b : GuestPart) (parts : List GuestPart) → join a (fold join b parts) ≡ fold join (join a b) parts
joins_on a b [] = refl
joins_on a b (part ∷ parts) = joins_on a (join b part) parts
    ∙ ap (λ (p : GuestPart). fold join p parts) (sym (join-join a b part))

pub joined_to_first : (shape : GuestShape) (IsText : List ℕ → Type 0) (first : GuestPart) (frames : List PageFrame)
    (part : GuestPart) → IsGuestShape shape
    → IsPart first → first.shape ≡ shape → All (IsFrame shape) frames → FramesAgree shape frames
    → ((text : List ℕ) → IsText text → Contains (map frame_text frames) text)
    → ((text : List ℕ) → Contains (map frame_text frames) text → IsText text)
    → HasFrames shape IsText part → join first part ≡ fold join first (map (part_of shape) frames)
joined_to_first shape IsText first frames part is is_first same fit agree to back has =
    let parts : List GuestPart = map (part_of shape) frames in
    let alone : join first (empty_part shape) ≡ first =
    ap (part_with first.shape) (later_each-nones first.copies shape.pages
    (is_first.places ∙ ap (λ (s : GuestShape). s.pages) same)) in
    ap (join first) (received_joined shape IsText frames part is fit agree to back has)
    ∙ joins_on first (empty_part shape) parts ∙ ap (λ (p : GuestPart). fold join p parts) alone
