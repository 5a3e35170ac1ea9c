-- Flat memory, as frames come to it.
use Rattle.std.proofs.Common.{◌⊎◌, ◌≡◌, ◌≢◌, ℕ, inl, inr, ◌+◌, ◌*◌, ◌^◌, ◌<◌, ◌≤◌, cond, eqb}
use Rattle.std.proofs.Common.{List, length, get_or, set, take, drop, Option, Some, None}
use Rattle.std.proofs.Common.{refl, sym, ap, subst, ◌∙◌, arith}
use Rattle.std.proofs.lemmas.Bool.{cases_eq, cond-true, cond-false, eq-eqb, ne_eqb}
use Rattle.std.proofs.lemmas.Grind.{get_or-set_at}
use Rattle.std.proofs.lemmas.List.{ext_get_or, drop-drop, get_or-set_other, length-set, set-get_or}
use Rattle.std.proofs.lemmas.List.{length-drop}
use Rattle.std.proofs.lemmas.List.FromFn.{get_or-map-range_with_len, length-map-range_with_len}
use Rattle.migration_model.specs.Frames.{GuestShape, IsFrame, PageFrame, SpellsFrame, content_of}
use Rattle.migration_model.specs.Memory.{put}
use Rattle.migration_model.specs.Parts.{GuestPart, PageCopy, copy_at, copy_in, later, part_with, with_frame}
use Rattle.migration_model.proofs.Parts.{later_first, later_second, same_copy}
use Rattle.collector.proofs.Taken.{Takes-more, Takes-nothing, Takes-one}
use Rattle.c_answers.specs.declared.flat_memory.PageState.{PageState}
use Rattle.c_answers.specs.declared.flat_memory.StreamTaken.{StreamTaken}
use Rattle.c_answers.specs.FlatMemory.{AreLater, IsFlat, IsLater, KeepsOthers, TakesFlat, copy_in_state, flat_part}
use Rattle.c_answers.specs.FlatMemory.{not_come}
use Rattle.image_build.proofs.Joined.{size_of}
use Rattle.open_checks.proofs.Pages.{bytes_at, page_put_other, page_put_own}

-- ---- the bytes of pages

pub length-content : (shape : GuestShape) (frame : PageFrame) → IsFrame shape frame
    → length (content_of shape frame) ≡ 2 ^ shape.shift
length-content shape frame fits = size_of (2 ^ shape.shift) frame.body fits.body

-- ---- what a state says about a page

-- a frame that is newer, or the first of its page, is the later copy
pub later_new : (shape : GuestShape) (bytes : List ℕ) (page : ℕ) (state : PageState) (copy : PageCopy)
    → (state.came ≡ 0) ⊎ (state.stamp < copy.stamp)
    → later (copy_in_state shape bytes page state) (Some copy) ≡ Some copy
later_new shape bytes page state copy why =
    let kept : PageCopy = record { stamp = state.stamp; content = bytes_at shape bytes page } in
    elim (cases_eq state.came 0) [
      | inl none ↦
          ap (λ (o : Option PageCopy). later o (Some copy)) (cond-true (eqb state.came 0) None (Some kept)
          (eq-eqb state.came 0 none))
      | inr came ↦
          ap (λ (o : Option PageCopy). later o (Some copy)) (cond-false (eqb state.came 0) None (Some kept)
          (ne_eqb state.came 0 came))
          ∙ (elim why [ inl none ↦ absurd (came none) | inr newer ↦ later_second kept copy newer ])
    ]

-- otherwise the copy that is there stays
pub later_old : (shape : GuestShape) (bytes : List ℕ) (page : ℕ) (state : PageState) (copy : PageCopy) → state.came ≢ 0
    → copy.stamp ≤ state.stamp
    → later (copy_in_state shape bytes page state) (Some copy) ≡ copy_in_state shape bytes page state
later_old shape bytes page state copy came old =
    let kept : PageCopy = record { stamp = state.stamp; content = bytes_at shape bytes page } in
    let is : copy_in_state shape bytes page state ≡ Some kept =
    cond-false (eqb state.came 0) None (Some kept) (ne_eqb state.came 0 came) in
    ap (λ (o : Option PageCopy). later o (Some copy)) is ∙ later_first kept copy old ∙ sym is

-- ---- one more frame

pub flat_copy : (shape : GuestShape) (bytes : List ℕ) (states : List PageState) (page : ℕ) → page < shape.pages
    → copy_at (flat_part shape bytes states) page ≡ copy_in_state shape bytes page (get_or states page not_come)
flat_copy shape bytes states page low =
    get_or-map-range_with_len (λ p. copy_in_state shape bytes p (get_or states p not_come)) 0 shape.pages page page None
    low (omega arith)

-- a frame whose page is there at as late a stamp leaves the part as it is
pub flat_kept : (shape : GuestShape) (bytes : List ℕ) (states : List PageState) (frame : PageFrame)
    → IsFrame shape frame
    → (get_or states frame.page not_come).came ≢ 0 → frame.stamp ≤ (get_or states frame.page not_come).stamp
    → flat_part shape bytes states ≡ with_frame (flat_part shape bytes states) frame
flat_kept shape bytes states frame fits came old =
    let part : GuestPart = flat_part shape bytes states in
    let there = flat_copy shape bytes states frame.page fits.page in
    let stays : later (copy_at part frame.page) (Some (copy_in shape frame)) ≡ copy_at part frame.page =
    ap (λ (o : Option PageCopy). later o (Some (copy_in shape frame))) there
    ∙ later_old shape bytes frame.page (get_or states frame.page not_come) (copy_in shape frame) came old ∙ sym there in
    ap (part_with shape)
    (sym (ap (λ (o : Option PageCopy). set part.copies frame.page o) stays ∙ set-get_or part.copies frame.page None))

-- the state of a page whose frame has this stamp
abbrev pub came_with : ℕ → PageState
came_with stamp = record { came = 1; stamp = stamp }

-- one that is taken is in the part
pub flat_taken : (shape : GuestShape) (bytes new : List ℕ) (states : List PageState) (frame : PageFrame)
    → IsFlat shape bytes states → IsFrame shape frame
    → new ≡ put bytes (frame.page * 2 ^ shape.shift) (content_of shape frame)
    → ((get_or states frame.page not_come).came ≡ 0) ⊎ ((get_or states frame.page not_come).stamp < frame.stamp)
    → flat_part shape new (set states frame.page (came_with frame.stamp))
    ≡ with_frame (flat_part shape bytes states) frame
flat_taken shape bytes new states frame flat fits is why =
    let part : GuestPart = flat_part shape bytes states in
    let copy : PageCopy = copy_in shape frame in
    let after : List PageState = set states frame.page (came_with frame.stamp) in
    let whole = length-content shape frame fits in
    let there : frame.page < length states = omega (arith, fits.page, flat.states_are) in
    let count = length-map-range_with_len (λ p. copy_in_state shape bytes p (get_or states p not_come)) 0 shape.pages in
    let count_after = length-map-range_with_len (λ p. copy_in_state shape new p (get_or after p not_come)) 0
    shape.pages in
    let late : later (copy_at part frame.page) (Some copy) ≡ Some copy =
    ap (λ (o : Option PageCopy). later o (Some copy)) (flat_copy shape bytes states frame.page fits.page)
    ∙ later_new shape bytes frame.page (get_or states frame.page not_come) copy why in
    ap (part_with shape)
    (ext_get_or None (flat_part shape new after).copies (set part.copies frame.page
    (later (copy_at part frame.page) (Some copy)))
    (count_after ∙ sym (length-set part.copies frame.page (later (copy_at part frame.page) (Some copy)) ∙ count))
    (λ page low.
    let within : page < shape.pages = omega (arith, low, count_after) in
    flat_copy shape new after page within
    ∙ (elim (cases_eq page frame.page) [
      | inl same ↦
          let state : get_or after page not_come ≡ came_with frame.stamp =
          get_or-set_at states frame.page page (came_with frame.stamp) not_come same there in
          let own : bytes_at shape new page ≡ copy.content =
          ap (bytes_at shape new) same ∙ ap (λ (b : List ℕ). bytes_at shape b frame.page) is
          ∙ page_put_own shape bytes (content_of shape frame) frame.page fits.page flat.bytes_are whole in
          let right : get_or (set part.copies frame.page (later (copy_at part frame.page) (Some copy))) page None
          ≡ Some copy =
          get_or-set_at part.copies frame.page page (later (copy_at part frame.page) (Some copy)) None same
          (omega (arith, fits.page, count)) ∙ late in
          ap (copy_in_state shape new page) state
          ∙ ap (λ (c : PageCopy). Some c) (same_copy (record { stamp = frame.stamp; content = bytes_at shape new page })
          copy refl own)
          ∙ sym right
      | inr apart ↦
          let state : get_or after page not_come ≡ get_or states page not_come =
          get_or-set_other states frame.page page (came_with frame.stamp) not_come apart in
          let own : bytes_at shape new page ≡ bytes_at shape bytes page =
          ap (λ (b : List ℕ). bytes_at shape b page) is
          ∙ page_put_other shape bytes (content_of shape frame) frame.page page fits.page within apart flat.bytes_are
          whole in
          let old : PageState = get_or states page not_come in
          let right : get_or (set part.copies frame.page (later (copy_at part frame.page) (Some copy))) page None
          ≡ copy_in_state shape bytes page old =
          get_or-set_other part.copies frame.page page (later (copy_at part frame.page) (Some copy)) None apart
          ∙ flat_copy shape bytes states page within in
          ap (copy_in_state shape new page) state
          ∙ ap (λ (c : List ℕ). cond (eqb old.came 0) None (Some (record { stamp = old.stamp; content = c }))) own
          ∙ sym right
    ])))

-- and other pages keep their bytes
pub others_kept : (shape : GuestShape) (bytes new : List ℕ) (states : List PageState) (frame : PageFrame)
    → IsFlat shape bytes states → IsFrame shape frame
    → new ≡ put bytes (frame.page * 2 ^ shape.shift) (content_of shape frame)
    → KeepsOthers shape bytes new (set states frame.page (came_with frame.stamp))
others_kept shape bytes new states frame flat fits is page low none =
    let there : frame.page < length states = omega (arith, fits.page, flat.states_are) in
    elim (cases_eq page frame.page) [
      | inl same ↦
          let state = get_or-set_at states frame.page page (came_with frame.stamp) not_come same there in
          absurd (omega (arith, none, ap (λ (s : PageState). s.came) state))
      | inr apart ↦
          ap (λ (b : List ℕ). bytes_at shape b page) is
          ∙ page_put_other shape bytes (content_of shape frame) frame.page page fits.page low apart flat.bytes_are
          (length-content shape frame fits)
    ]

-- ---- frames of a stream

-- no page that came is missing later
abbrev pub ComeLater : List PageState → List PageState → Type 0
ComeLater old new = (page : ℕ) → (get_or new page not_come).came ≡ 0 → (get_or old page not_come).came ≡ 0

abbrev pub taken_with : ℕ → ℕ → StreamTaken
taken_with frames bytes = record { frames = frames; bytes = bytes }

-- a state that is later than a later one
later_twice : (a b c : PageState) → IsLater a b → IsLater b c → IsLater a c
later_twice a b c (inl x) y = subst (λ (s : PageState). IsLater s c) x y
later_twice a b c (inr x) (inl y) = subst (λ (s : PageState). IsLater a s) (sym y) (inr x)
later_twice a b c (inr x) (inr y) = elim y.1 [
  | inl none ↦ absurd (omega (arith, none, x.0))
  | inr low ↦ elim x.1 [ inl first ↦ inr (y.0, inl first) | inr before ↦ inr (y.0, inr (omega (arith, low, before))) ]
]

-- the state of a page whose frame is taken is later, and the others are as they were
pub taken_later : (states : List PageState) (page stamp : ℕ) → page < length states
    → ((get_or states page not_come).came ≡ 0) ⊎ ((get_or states page not_come).stamp < stamp)
    → AreLater states (set states page (came_with stamp))
taken_later states page stamp low why other = elim (cases_eq other page) [
  | inl same ↦
      let state = get_or-set_at states page other (came_with stamp) not_come same low in
      subst (λ (s : PageState). IsLater (get_or states other not_come) s) (sym state)
      (subst (λ (n : ℕ). IsLater (get_or states n not_come) (came_with stamp)) (sym same) (inr (refl, why)))
  | inr apart ↦ inl (get_or-set_other states page other (came_with stamp) not_come apart)
]

pub TakesFlat-nothing : (shape : GuestShape) (bytes : List ℕ) (states : List PageState) (stream : List ℕ)
    → IsFlat shape bytes states → TakesFlat shape bytes bytes states states stream (taken_with 0 0) stream
TakesFlat-nothing shape bytes states stream flat =
    record {
      takes = Takes-nothing (flat_part shape bytes states) stream;
      rest_is = refl;
      within = omega arith;
      others = λ page low none. refl;
      later = λ page. inl refl;
      was_flat = flat;
      is_flat = flat;
    }

pub TakesFlat-more : (shape : GuestShape) (old mid new : List ℕ) (old_states mid_states new_states : List PageState)
    (stream rest : List ℕ) (taken : StreamTaken)
    (frame : PageFrame) (size : ℕ) → TakesFlat shape old mid old_states mid_states stream taken rest
    → SpellsFrame shape (take size rest) frame
    → flat_part shape new new_states ≡ with_frame (flat_part shape mid mid_states) frame
    → KeepsOthers shape mid new new_states → ComeLater mid_states new_states → AreLater mid_states new_states
    → IsFlat shape new new_states → size ≤ length rest
    → TakesFlat shape old new old_states new_states stream (taken_with (taken.frames + 1) (taken.bytes + size))
    (drop size rest)
TakesFlat-more shape old mid new old_states mid_states new_states stream rest taken frame size before spells kept others
    later_come later flat low = record {
      takes = Takes-more (flat_part shape old old_states) (flat_part shape mid mid_states)
          (flat_part shape new new_states)
          stream rest (drop size rest) taken.frames before.takes
          (Takes-one (flat_part shape mid mid_states) (flat_part shape new new_states) rest size frame spells kept);
      rest_is = ap (drop size) before.rest_is ∙ drop-drop size taken.bytes stream;
      within = omega (
        arith,
        low,
        before.within,
        ap (λ (l : List ℕ). length l) before.rest_is,
        length-drop taken.bytes stream,
      );
      others = λ page low none. others page low none ∙ before.others page low (later_come page none);
      later = λ page. later_twice (get_or old_states page not_come) (get_or mid_states page not_come)
          (get_or new_states page not_come) (before.later page) (later page);
      was_flat = before.was_flat;
      is_flat = flat;
    }
