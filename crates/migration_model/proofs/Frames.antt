-- A frame that is read at the front of some bytes is the one that was written there.
use Rattle.std.proofs.Common.{◌==◌, inl, inr, ◌≡◌, ℕ, ◌+◌, ◌^◌, ◌<◌, ◌≤◌, List, [], ◌∷◌, ◌++◌, length, replicate, take}
use Rattle.std.proofs.Common.{drop, Option, Some, None, IfSome, unwrap_or, refl, sym, ap, ◌∙◌, arith}
use Rattle.std.specs.Bool.{Decides}
use Rattle.std.specs.Int.{w32}
use Rattle.std.specs.List.{list_all}
use Rattle.std.proofs.lemmas.Bool.{cases_Bool}
use Rattle.std.proofs.lemmas.Bool.Decides.{Decides-by_and, Decides-eqb}
use Rattle.std.specs.List.{All, flat_map}
use Rattle.std.proofs.lemmas.List.{append-nil, take_at, drop_at, length-append, length-drop, take-append-drop}
use Rattle.std.proofs.lemmas.List.Elements.{All-head, All-tail, All-replicate, All-same}
use Rattle.migration_model.specs.Numbers.{text_of, number_in}
use Rattle.migration_model.specs.Frames.{GuestShape, IsGuestShape, IsZeros, PageFrame, frame_with, IsFrame, content_of, IsFrameOf}
use Rattle.migration_model.specs.Frames.{body_text, frame_text, SpellsFrame}
use Rattle.migration_model.proofs.Numbers.{wide32}

-- a frame whose numbers fit their widths
pub record HasRoom (frame : PageFrame) : Type 0 where
  pub page : frame.page < 2 ^ 32
  pub stamp : frame.stamp < 2 ^ 32

pub HasRoom-from_frame : (shape : GuestShape) (frame : PageFrame) → IsGuestShape shape → IsFrame shape frame
    → HasRoom frame
HasRoom-from_frame shape frame is fits =
    record { page = omega (arith, fits.page, is.size.pages_high); stamp = omega (arith, fits.stamp, is.few) }

pub page_again : (frame : PageFrame) (rest : List ℕ) → HasRoom frame
    → number_in w32 (frame_text frame ++ rest) ≡ frame.page
unfolding frame_text text_of
page_again frame rest room = wide32.again frame.page _ room.page

pub stamp_again : (frame : PageFrame) (rest : List ℕ) → HasRoom frame
    → number_in w32 (drop 4 (frame_text frame ++ rest)) ≡ frame.stamp
unfolding frame_text text_of
stamp_again frame rest room = wide32.again frame.stamp _ room.stamp

pub body_again : (frame : PageFrame) (rest : List ℕ) → drop 8 (frame_text frame ++ rest) ≡ body_text frame.body ++ rest
unfolding frame_text text_of
body_again frame rest = refl

pub length-frame_text : (frame : PageFrame) → length (frame_text frame) ≡ 8 + length (body_text frame.body)
unfolding frame_text text_of
length-frame_text frame = omega arith

-- two bodies of one size, each in front of some bytes
same_body : (size : ℕ) (a b : Option (List ℕ)) (r s : List ℕ)
    → IfSome a (λ bytes. (length bytes ≡ size) × ¬ IsZeros bytes)
    → IfSome b (λ bytes. (length bytes ≡ size) × ¬ IsZeros bytes)
    → body_text a ++ r ≡ body_text b ++ s → (a ≡ b) × (r ≡ s)
same_body size None None r s fits_a fits_b same = (refl, ap (λ (x : List ℕ). drop 1 x) same)
same_body size None (Some bytes) r s fits_a fits_b same = absurd (cc same)
same_body size (Some bytes) None r s fits_a fits_b same = absurd (cc same)
same_body size (Some bytes) (Some others) r s fits_a fits_b same =
    let behind : bytes ++ r ≡ others ++ s = ap (λ (x : List ℕ). drop 1 x) same in
    let len : length others ≡ length bytes = fits_b.0 ∙ sym fits_a.0 in (
      ap (λ (x : List ℕ). Some x) (sym (take_at bytes r _ refl) ∙ ap (λ (x : List ℕ). take (length bytes) x) behind
          ∙ take_at others s _ len),
      sym (drop_at bytes r _ refl) ∙ ap (λ (x : List ℕ). drop (length bytes) x) behind ∙ drop_at others s _ len,
    )

-- frames are equal if their fields are
pub same_frame : (f g : PageFrame) → f.page ≡ g.page → f.stamp ≡ g.stamp → f.body ≡ g.body → f ≡ g
same_frame f g page stamp body = λ i. record { page = page i; stamp = stamp i; body = body i }

-- two encodings of one shape, each in front of some bytes: they are of one frame, and have the same bytes after them
pub same_front : (shape : GuestShape) (f g : PageFrame) (r s : List ℕ) → IsGuestShape shape → IsFrame shape f
    → IsFrame shape g
    → frame_text f ++ r ≡ frame_text g ++ s → (f ≡ g) × (r ≡ s)
same_front shape f g r s is fits_f fits_g same =
    let room_f = HasRoom-from_frame shape f is fits_f in
    let room_g = HasRoom-from_frame shape g is fits_g in
    let page : f.page ≡ g.page = sym (page_again f r room_f) ∙ ap (number_in w32) same ∙ page_again g s room_g in
    let stamp : f.stamp ≡ g.stamp = sym (stamp_again f r room_f) ∙ ap (λ (x : List ℕ). number_in w32 (drop 4 x)) same
    ∙ stamp_again g s room_g in
    let bodies : body_text f.body ++ r ≡ body_text g.body ++ s = sym (body_again f r)
    ∙ ap (λ (x : List ℕ). drop 8 x) same ∙ body_again g s in
    let body = same_body (2 ^ shape.shift) f.body g.body r s fits_f.body fits_g.body bodies in
    (same_frame f g page stamp body.0, body.1)

pub one_frame_lem : (shape : GuestShape) (bytes : List ℕ) (f g : PageFrame) → IsGuestShape shape
    → SpellsFrame shape bytes f → SpellsFrame shape bytes g → f ≡ g
one_frame_lem shape bytes f g is spells_f spells_g =
    (same_front shape f g [] [] is spells_f.is_frame spells_g.is_frame
    (append-nil _ ∙ sym spells_f.text ∙ spells_g.text ∙ sym (append-nil _))).0

pub none_begins_another_lem : (shape : GuestShape) (a b rest : List ℕ) (f g : PageFrame) → IsGuestShape shape
    → SpellsFrame shape a f → SpellsFrame shape b g
    → b ≡ a ++ rest → rest ≡ []
none_begins_another_lem shape a b rest f g is spells_f spells_g same =
    let texts : frame_text f ++ rest ≡ frame_text g ++ [] = ap (λ (x : List ℕ). x ++ rest) (sym spells_f.text)
    ∙ sym same ∙ spells_g.text ∙ sym (append-nil _) in
    (same_front shape f g rest [] is spells_f.is_frame spells_g.is_frame texts).1

-- two frames at the front of the same bytes are one, and have one length
pub one_front_lem : (shape : GuestShape) (bytes : List ℕ) (m n : ℕ) (f g : PageFrame) → IsGuestShape shape
    → m ≤ length bytes → n ≤ length bytes → SpellsFrame shape (take m bytes) f → SpellsFrame shape (take n bytes) g
    → (f ≡ g) × (m ≡ n)
one_front_lem shape bytes m n f g is within_f within_g spells_f spells_g =
    let text_f : frame_text f ++ drop m bytes ≡ bytes =
    ap (λ (x : List ℕ). x ++ drop m bytes) (sym spells_f.text) ∙ take-append-drop m bytes in
    let text_g : frame_text g ++ drop n bytes ≡ bytes =
    ap (λ (x : List ℕ). x ++ drop n bytes) (sym spells_g.text) ∙ take-append-drop n bytes in
    let same = same_front shape f g (drop m bytes) (drop n bytes) is spells_f.is_frame spells_g.is_frame
    (text_f ∙ sym text_g) in (
      same.0,
      omega (
        arith,
        within_f,
        within_g,
        length-drop m bytes,
        length-drop n bytes,
        ap length same.1,
      ),
    )

-- bodies of one size are equal if the bytes of the page are
body_from_content : (size : ℕ) (a b : Option (List ℕ)) → IfSome a (λ bytes. (length bytes ≡ size) × ¬ IsZeros bytes)
    → IfSome b (λ bytes. (length bytes ≡ size) × ¬ IsZeros bytes)
    → unwrap_or a (replicate size 0) ≡ unwrap_or b (replicate size 0) → a ≡ b
body_from_content size None None fits_a fits_b same = refl
body_from_content size None (Some bytes) fits_a fits_b same =
    absurd (fits_b.1 (All-same (λ byte. byte ≡ 0) bytes (replicate size 0) (sym same)
    (All-replicate (λ byte. byte ≡ 0) size 0 refl)))
body_from_content size (Some bytes) None fits_a fits_b same =
    absurd (fits_a.1 (All-same (λ byte. byte ≡ 0) bytes (replicate size 0) same
    (All-replicate (λ byte. byte ≡ 0) size 0 refl)))
body_from_content size (Some bytes) (Some others) fits_a fits_b same = ap (λ (x : List ℕ). Some x) same

pub one_frame_spelling_lem : (shape : GuestShape) (a b : List ℕ) (f g : PageFrame) → SpellsFrame shape a f
    → SpellsFrame shape b g
    → f.page ≡ g.page → f.stamp ≡ g.stamp → content_of shape f ≡ content_of shape g → a ≡ b
one_frame_spelling_lem shape a b f g spells_f spells_g page stamp content =
    let body = body_from_content (2 ^ shape.shift) f.body g.body spells_f.is_frame.body spells_g.is_frame.body
    content in
    spells_f.text ∙ ap frame_text (same_frame f g page stamp body) ∙ sym spells_g.text

pub one_frame_of_page_lem : (shape : GuestShape) (page stamp : ℕ) (bytes : List ℕ) (f g : PageFrame)
    → IsFrameOf shape page stamp bytes f → IsFrameOf shape page stamp bytes g → f ≡ g
one_frame_of_page_lem shape page stamp bytes f g is_f is_g =
    same_frame f g (is_f.page_is ∙ sym is_g.page_is) (is_f.stamp_is ∙ sym is_g.stamp_is)
    (body_from_content (2 ^ shape.shift) f.body g.body is_f.fits.body is_g.fits.body
    (is_f.content ∙ sym is_g.content))

length-body_text : (body : Option (List ℕ)) → 1 ≤ length (body_text body)
length-body_text None = omega arith
length-body_text (Some bytes) = omega arith

-- one stream is of one list of frames
pub one_stream_lem : (shape : GuestShape) (fs gs : List PageFrame) → IsGuestShape shape → All (IsFrame shape) fs
    → All (IsFrame shape) gs
    → flat_map frame_text fs ≡ flat_map frame_text gs → fs ≡ gs
one_stream_lem shape [] [] is fits_f fits_g same = refl
one_stream_lem shape [] (g ∷ gs) is fits_f fits_g same =
    absurd (omega (
      arith,
      ap length same,
      length-append (frame_text g) (flat_map frame_text gs),
      length-frame_text g,
      length-body_text g.body,
    ))
one_stream_lem shape (f ∷ fs) [] is fits_f fits_g same =
    absurd (omega (
      arith,
      ap length same,
      length-append (frame_text f) (flat_map frame_text fs),
      length-frame_text f,
      length-body_text f.body,
    ))
one_stream_lem shape (f ∷ fs) (g ∷ gs) is fits_f fits_g same =
    let front = same_front shape f g (flat_map frame_text fs) (flat_map frame_text gs) is
    (All-head (IsFrame shape) f fs fits_f) (All-head (IsFrame shape) g gs fits_g) same in
    let behind = one_stream_lem shape fs gs is (All-tail (IsFrame shape) f fs fits_f)
    (All-tail (IsFrame shape) g gs fits_g) front.1 in
    (λ i. front.0 i ∷ behind i)

-- each page has a frame

replicate_from_zeros : (bytes : List ℕ) → IsZeros bytes → replicate (length bytes) 0 ≡ bytes
replicate_from_zeros [] zeros = refl
replicate_from_zeros (byte ∷ bytes) zeros =
    λ i. sym (All-head (λ b. b ≡ 0) byte bytes zeros) i ∷ replicate_from_zeros bytes
    (All-tail (λ b. b ≡ 0) byte bytes zeros) i

pub tells_zeros : (bytes : List ℕ) → Decides (list_all (λ byte. byte == 0) bytes) (IsZeros bytes)
tells_zeros bytes = Decides-by_and (λ byte. byte == 0) (λ byte. byte ≡ 0) (list_all (λ byte. byte == 0))
    (λ byte. Decides-eqb byte 0) refl (λ _ _. refl) bytes

pub frame_for : (shape : GuestShape) (page stamp : ℕ) (content : List ℕ) → page < shape.pages → stamp ≤ shape.writes
    → length content ≡ 2 ^ shape.shift
    → (frame : PageFrame) × (frame.page ≡ page) × (frame.stamp ≡ stamp) × (content_of shape frame ≡ content)
    × SpellsFrame shape (frame_text frame) frame
frame_for shape page stamp content low few whole =
    elim (cases_Bool (list_all (λ byte. byte == 0) content)) [
      | inl all ↦
          let zeros : IsZeros content = (tells_zeros content).0 all in (
            frame_with page stamp None,
            refl,
            refl,
            ap (λ n. replicate n 0) (sym whole) ∙ replicate_from_zeros content zeros,
            record { is_frame = record { page = low; stamp = few; body = tt }; text = refl },
          )
      | inr some ↦ (
        frame_with page stamp (Some content),
        refl,
        refl,
        refl,
        record {
          is_frame = record {
            page = low;
            stamp = few;
            body =
                (whole, λ zeros. cc (some, (tells_zeros content).1 zeros));
          };
          text = refl;
        },
      )
    ]
