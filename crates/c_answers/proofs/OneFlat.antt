-- Frames that come to flat memory leave one memory and one state of each page; one page is the first that is missing.
use Rattle.std.proofs.Common.{◌≡◌, ◌≢◌, ◌⊎◌, ℕ, ◌*◌, ◌^◌, ◌<◌, ◌≤◌, eqb, List, [], length, get_or, drop}
use Rattle.std.proofs.Common.{Some, None, Ok, sym, ap, ◌∙◌, inl, inr, arith}
use Rattle.std.proofs.lemmas.Bool.{cases_eq, cases_order, cond-true, cond-false, eq-eqb, ne_eqb}
use Rattle.std.proofs.lemmas.List.{append-nil, ext_get_or, length-drop}
use Rattle.std.proofs.lemmas.Option.{none-some, same_Some}
use Rattle.std.specs.List.{flat_map}
use Rattle.migration_model.specs.Frames.{GuestShape, IsGuestShape, SpellsStream, frame_text}
use Rattle.migration_model.specs.Memory.{memory_with, page_of}
use Rattle.migration_model.specs.Parts.{GuestPart, PageCopy, copy_at}
use Rattle.migration_model.proofs.Pages.{same_memory}
use Rattle.collector.specs.Streams.{IsFirstRefused, TakesFrames}
use Rattle.collector.proofs.FirstRefused.{one_cause, one_index, one_part, same_cut}
use Rattle.collector.proofs.Taken.{takes_only}
use Rattle.page_message.specs.declared.error.FrameError.{FrameError}
use Rattle.c_answers.specs.declared.flat_memory.PageState.{PageState}
use Rattle.c_answers.specs.declared.flat_memory.StreamTaken.{StreamTaken}
use Rattle.c_answers.specs.FlatMemory.{AreLater, IsFirstMissing, IsLater, KeepsOthers, StopsFlat, TakesFlat}
use Rattle.c_answers.specs.FlatMemory.{copy_in_state, flat_part, not_come}
use Rattle.c_answers.proofs.Flat.{flat_copy}

-- ---- the first page that is missing

missing_not : (states : List PageState) (m n : ℕ) → IsFirstMissing states m → IsFirstMissing states n → m < n → ⊥
missing_not states m n x y less = y.first m less x.missing

pub one_missing : (states : List PageState) (m n : ℕ) → IsFirstMissing states m → IsFirstMissing states n → m ≡ n
one_missing states m n x y = elim (cases_order m n) [
  | inl same ↦ same
  | inr (inl less) ↦ absurd (missing_not states m n x y less)
  | inr (inr more) ↦ absurd (missing_not states n m y x more)
]

-- ---- one state

stays : (old a : PageState) → IsLater old a → a.came ≡ 0 → a ≡ old
stays old a (inl same) none = same
stays old a (inr new) none = absurd (omega (arith, new.0, none))

-- a state that is as it was, and one of a page that came later, have other stamps
not_both : (old a b : PageState) → a ≡ old → (old.came ≡ 0) ⊎ (old.stamp < b.stamp) → a.came ≢ 0 → a.stamp ≡ b.stamp
    → ⊥
not_both old a b same (inl none) some stamps = some (ap (λ (s : PageState). s.came) same ∙ none)
not_both old a b same (inr low) some stamps =
    omega (arith, low, stamps, ap (λ (s : PageState). s.stamp) same)

same_came : (old a b : PageState) → IsLater old a → IsLater old b → a.came ≢ 0 → b.came ≢ 0 → a.stamp ≡ b.stamp
    → a ≡ b
same_came old a b (inl x) (inl y) some_a some_b stamps = x ∙ sym y
same_came old a b (inl x) (inr y) some_a some_b stamps = absurd (not_both old a b x y.1 some_a stamps)
same_came old a b (inr x) (inl y) some_a some_b stamps = absurd (not_both old b a y x.1 some_b (sym stamps))
same_came old a b (inr x) (inr y) some_a some_b stamps =
    let came : a.came ≡ b.came = x.0 ∙ sym y.0 in
    λ i. record { came = came i; stamp = stamps i }

abbrev bytes_at : GuestShape → List ℕ → ℕ → List ℕ
bytes_at shape bytes page = page_of (memory_with shape.shift shape.pages bytes) page

abbrev copy_with : ℕ → List ℕ → PageCopy
copy_with stamp content = record { stamp = stamp; content = content }

no_copy : (shape : GuestShape) (m : List ℕ) (page : ℕ) (a : PageState) → a.came ≡ 0
    → copy_in_state shape m page a ≡ None
no_copy shape m page a none = cond-true (eqb a.came 0) None (Some (copy_with a.stamp (bytes_at shape m page)))
    (eq-eqb a.came 0 none)

a_copy : (shape : GuestShape) (m : List ℕ) (page : ℕ) (a : PageState) → a.came ≢ 0
    → copy_in_state shape m page a ≡ Some (copy_with a.stamp (bytes_at shape m page))
a_copy shape m page a some = cond-false (eqb a.came 0) None (Some (copy_with a.stamp (bytes_at shape m page)))
    (ne_eqb a.came 0 some)

same_copies : (shape : GuestShape) (m n : List ℕ) (page : ℕ) (a b : PageState) → a.came ≢ 0 → b.came ≢ 0
    → copy_in_state shape m page a ≡ copy_in_state shape n page b
    → copy_with a.stamp (bytes_at shape m page) ≡ copy_with b.stamp (bytes_at shape n page)
same_copies shape m n page a b some_a some_b same =
    same_Some (copy_with a.stamp (bytes_at shape m page)) (copy_with b.stamp (bytes_at shape n page))
    (sym (a_copy shape m page a some_a) ∙ same ∙ a_copy shape n page b some_b)

same_state : (shape : GuestShape) (m n : List ℕ) (page : ℕ) (old a b : PageState) → IsLater old a → IsLater old b
    → copy_in_state shape m page a ≡ copy_in_state shape n page b → a ≡ b
same_state shape m n page old a b x y same = elim (cases_eq a.came 0) [
  | inl none_a ↦ elim (cases_eq b.came 0) [
    | inl none_b ↦ stays old a x none_a ∙ sym (stays old b y none_b)
    | inr some_b ↦
        absurd (none-some (copy_with b.stamp (bytes_at shape n page))
        (sym (no_copy shape m page a none_a) ∙ same ∙ a_copy shape n page b some_b))
  ]
  | inr some_a ↦ elim (cases_eq b.came 0) [
    | inl none_b ↦
        absurd (none-some (copy_with a.stamp (bytes_at shape m page))
        (sym (no_copy shape n page b none_b) ∙ sym same ∙ a_copy shape m page a some_a))
    | inr some_b ↦
        same_came old a b x y some_a some_b
        (ap (λ (c : PageCopy). c.stamp) (same_copies shape m n page a b some_a some_b same))
  ]
]

-- ---- all states, and the memory

same_copy_at : (shape : GuestShape) (m n : List ℕ) (s t : List PageState) (page : ℕ) → page < shape.pages
    → flat_part shape m s ≡ flat_part shape n t
    → copy_in_state shape m page (get_or s page not_come) ≡ copy_in_state shape n page (get_or t page not_come)
same_copy_at shape m n s t page low same =
    sym (flat_copy shape m s page low) ∙ ap (λ (p : GuestPart). copy_at p page) same ∙ flat_copy shape n t page low

pub same_states : (shape : GuestShape) (m n : List ℕ) (old s t : List PageState) → length s ≡ shape.pages
    → length t ≡ shape.pages → AreLater old s → AreLater old t → flat_part shape m s ≡ flat_part shape n t → s ≡ t
same_states shape m n old s t len_s len_t x y same =
    ext_get_or not_come s t (len_s ∙ sym len_t)
    (λ page low. same_state shape m n page (get_or old page not_come) (get_or s page not_come)
    (get_or t page not_come) (x page) (y page)
    (same_copy_at shape m n s t page (omega (arith, low, len_s)) same))

pub same_bytes : (shape : GuestShape) (old m n : List ℕ) (s t : List PageState)
    → length m ≡ shape.pages * 2 ^ shape.shift → length n ≡ shape.pages * 2 ^ shape.shift → s ≡ t
    → KeepsOthers shape old m s → KeepsOthers shape old n t → flat_part shape m s ≡ flat_part shape n t → m ≡ n
same_bytes shape old m n s t len_m len_n states x y same =
    same_memory shape.shift shape.pages m n len_m len_n (λ page low.
    let state : (get_or s page not_come).came ≡ (get_or t page not_come).came =
    ap (λ (l : List PageState). (get_or l page not_come).came) states in
    elim (cases_eq (get_or s page not_come).came 0) [
      | inl none ↦ x page low none ∙ sym (y page low (sym state ∙ none))
      | inr some ↦
          ap (λ (c : PageCopy). c.content) (same_copies shape m n page (get_or s page not_come)
          (get_or t page not_come) some (λ none. some (state ∙ none)) (same_copy_at shape m n s t page low same))
    ])

-- ---- how much was taken

same_count : (bytes : List ℕ) (m n : ℕ) → m ≤ length bytes → n ≤ length bytes → drop m bytes ≡ drop n bytes → m ≡ n
same_count bytes m n low high same =
    omega (arith, low, high, ap (λ (l : List ℕ). length l) same, length-drop m bytes, length-drop n bytes)

module _ (shape : GuestShape) (old a b : List ℕ) (states s t : List PageState) (bytes : List ℕ)
    (taken other : StreamTaken) (is : IsGuestShape shape) where
  abbrev part_old : GuestPart
  part_old = flat_part shape old states

  abbrev part_a : GuestPart
  part_a = flat_part shape a s

  abbrev part_b : GuestPart
  part_b = flat_part shape b t

  -- of all
  spelled : (x : TakesFrames part_old part_a bytes taken.frames []) → SpellsStream shape bytes x.frames
  spelled x = record { are_frames = x.are_frames; text = x.text ∙ append-nil (flat_map frame_text x.frames) }

  same_all : TakesFlat shape old a states s bytes taken [] → TakesFlat shape old b states t bytes other []
      → (taken.frames ≡ other.frames) × (part_a ≡ part_b)
  same_all x y =
      let spells = spelled x.takes in
      let two = takes_only part_old part_b bytes (Ok other.frames) is y.takes tt x.takes.frames spells in
      (sym x.takes.count_is ∙ sym two.0, x.takes.part ∙ sym two.1)

  pub all_states : TakesFlat shape old a states s bytes taken [] → TakesFlat shape old b states t bytes other []
      → s ≡ t
  all_states x y = same_states shape a b states s t x.is_flat.states_are y.is_flat.states_are x.later y.later
      (same_all x y).1

  pub all_bytes : TakesFlat shape old a states s bytes taken [] → TakesFlat shape old b states t bytes other []
      → a ≡ b
  all_bytes x y = same_bytes shape old a b s t x.is_flat.bytes_are y.is_flat.bytes_are (all_states x y) x.others
      y.others (same_all x y).1

  pub all_taken : TakesFlat shape old a states s bytes taken [] → TakesFlat shape old b states t bytes other []
      → taken ≡ other
  all_taken x y =
      let frames = (same_all x y).0 in
      let count = same_count bytes taken.bytes other.bytes x.within y.within (sym x.rest_is ∙ y.rest_is) in
      λ i. record { frames = frames i; bytes = count i }

  -- up to the first that is refused
  module _ (e f : FrameError) where
    first_of : (x : StopsFlat shape old a states s bytes taken e)
        → IsFirstRefused part_old part_a bytes taken.frames e
    first_of x = record { rest = x.rest; takes = x.takes.takes; some = x.some; refused = x.refused }

    first_other : (y : StopsFlat shape old b states t bytes other f)
        → IsFirstRefused part_old part_b bytes other.frames f
    first_other y = record { rest = y.rest; takes = y.takes.takes; some = y.some; refused = y.refused }

    pub stopped_cause : StopsFlat shape old a states s bytes taken e → StopsFlat shape old b states t bytes other f
        → e ≡ f
    stopped_cause x y =
        one_cause part_old part_a part_b bytes taken.frames other.frames e f is (first_of x) (first_other y)

    same_stopped : StopsFlat shape old a states s bytes taken e → StopsFlat shape old b states t bytes other f
        → part_a ≡ part_b
    same_stopped x y =
        one_part part_old part_a part_b bytes taken.frames other.frames e f is (first_of x) (first_other y)

    pub stopped_states : StopsFlat shape old a states s bytes taken e → StopsFlat shape old b states t bytes other f
        → s ≡ t
    stopped_states x y =
        same_states shape a b states s t x.takes.is_flat.states_are y.takes.is_flat.states_are x.takes.later
        y.takes.later (same_stopped x y)

    pub stopped_bytes : StopsFlat shape old a states s bytes taken e → StopsFlat shape old b states t bytes other f
        → a ≡ b
    stopped_bytes x y =
        same_bytes shape old a b s t x.takes.is_flat.bytes_are y.takes.is_flat.bytes_are (stopped_states x y)
        x.takes.others y.takes.others (same_stopped x y)

    pub stopped_taken : StopsFlat shape old a states s bytes taken e → StopsFlat shape old b states t bytes other f
        → taken ≡ other
    stopped_taken x y =
        let frames : taken.frames ≡ other.frames =
        one_index part_old part_a part_b bytes taken.frames other.frames e f is (first_of x) (first_other y) in
        let cut = same_cut shape x.takes.takes.frames y.takes.takes.frames x.rest y.rest is
        x.takes.takes.are_frames y.takes.takes.are_frames (sym x.takes.takes.text ∙ y.takes.takes.text)
        (omega (arith, frames, x.takes.takes.count_is, y.takes.takes.count_is))
        (omega (arith, frames, x.takes.takes.count_is, y.takes.takes.count_is)) in
        let count = same_count bytes taken.bytes other.bytes x.takes.within y.takes.within
        (sym x.takes.rest_is ∙ cut.1 ∙ y.takes.rest_is) in
        λ i. record { frames = frames i; bytes = count i }
