-- A call refuses for one thing.
use Rattle.std.proofs.Common.{◌≡◌, ◌≢◌, ◌⊎◌, ℕ, ◌*◌, ◌^◌, ◌<◌, ◌≤◌, List, [], ◌∷◌, ◌++◌, length, drop, Some, None}
use Rattle.std.proofs.Common.{refl, sym, ap, subst, ◌∙◌, inl, inr, arith}
use Rattle.std.specs.List.{All}
use Rattle.std.proofs.lemmas.Bool.{le-ltb}
use Rattle.std.proofs.lemmas.List.{take-append-drop}
use Rattle.std.proofs.lemmas.List.Elements.{All-head, All-tail}
use Rattle.std.proofs.lemmas.Option.{none-some, same_Some}
use Rattle.migration_model.specs.Frames.{IsGuestShape}
use Rattle.migration_model.specs.Trace.{GuestTrace, Spells}
use Rattle.page_message.specs.Refusals.{frame_refusal}
use Rattle.page_message.specs.declared.error.FrameError.{FrameError}
use Rattle.page_message.specs.declared.error.FrameError.TheVariants as frames
use Rattle.page_message.proofs.Found as found
use Rattle.rate_limit.specs.Refusals.{refusal_of}
use Rattle.rate_limit.specs.declared.error.SettingsError.{SettingsError}
use Rattle.rate_limit.proofs.Ranges.{refused_lem}
use Rattle.trace_codec.specs.Refusals.{Refuses}
use Rattle.trace_codec.specs.declared.error.TraceError.{TraceError}
use Rattle.trace_codec.proofs.Never.{is_within, never_refused, one_cause, passes}
use Rattle.c_answers.specs.declared.answers.Refusal.{Refusal}
use Rattle.c_answers.specs.declared.answers.Refusal.TheVariants as refusals
use Rattle.c_answers.specs.declared.settings.SizedSettings.{SizedSettings}
use Rattle.c_answers.specs.declared.sizes.GuestSizes.{GuestSizes}
use Rattle.c_answers.specs.FlatMemory.{RefusesFlat}
use Rattle.c_answers.specs.Frames.{BeginsWithFrame, RefusesDecoding, RefusesEncoding}
use Rattle.c_answers.specs.Plans.{LacksPlan, RefusesPlan, RefusesTouches}
use Rattle.c_answers.specs.Settings.{AreGiven, RefusesSettings, settings_in, shape_in, shape_refusal}
use Rattle.c_answers.specs.Sweeps.{LacksSweep, RefusesCase}

-- ---- settings

settings_cause : (s : SizedSettings) (r : Refusal) → RefusesSettings s r
    → ((r ≡ refusals.SettingsSize) × (s.size ≢ 88))
    ⊎ ((e : SettingsError) × (r ≡ refusals.Settings e) × (s.size ≡ 88) × (refusal_of (settings_in s) ≡ Some e))
settings_cause s refusals.SettingsSize is = inl (refl, is)
settings_cause s (refusals.Settings e) is = inr (e, refl, is.0, is.1)
settings_cause s (refusals.Trace e) is = absurd is
settings_cause s (refusals.Frame e) is = absurd is
settings_cause s refusals.Memory is = absurd is
settings_cause s refusals.ShortBuffer is = absurd is
settings_cause s refusals.PageLength is = absurd is
settings_cause s refusals.MemoryLength is = absurd is
settings_cause s refusals.PageCount is = absurd is
settings_cause s refusals.PageMissing is = absurd is

one_settings : (s : SizedSettings) (a b : Refusal) → RefusesSettings s a → RefusesSettings s b → a ≡ b
one_settings s a b x y = elim (settings_cause s a x) [
  | inl p ↦ elim (settings_cause s b y) [
    | inl q ↦ p.0 ∙ sym q.0
    | inr q ↦ absurd (p.1 q.2)
  ]
  | inr p ↦ elim (settings_cause s b y) [
    | inl q ↦ absurd (q.1 p.2)
    | inr q ↦
        p.1 ∙ ap (λ (e : SettingsError). refusals.Settings e) (same_Some p.0 q.0 (sym p.3 ∙ q.3)) ∙ sym q.1
  ]
]

settings_not : (s : SizedSettings) (r : Refusal) → RefusesSettings s r → AreGiven s → ⊥
settings_not s r is given = elim (settings_cause s r is) [
  | inl p ↦ p.1 given.size
  | inr p ↦ refused_lem (settings_in s) p.0 p.3 given.in_range
]

-- ---- a trace, and plans of it

touches_cause : (bytes : List ℕ) (r : Refusal) → RefusesTouches bytes r
    → ((e : TraceError) × (r ≡ refusals.Trace e) × Refuses bytes e)
    ⊎ ((t : GuestTrace) × (r ≡ refusals.Memory) × Spells bytes t)
touches_cause bytes (refusals.Trace e) is = inl (e, refl, is)
touches_cause bytes refusals.Memory is = inr (is.0, refl, is.1)
touches_cause bytes refusals.SettingsSize is = absurd is
touches_cause bytes (refusals.Settings e) is = absurd is
touches_cause bytes (refusals.Frame e) is = absurd is
touches_cause bytes refusals.ShortBuffer is = absurd is
touches_cause bytes refusals.PageLength is = absurd is
touches_cause bytes refusals.MemoryLength is = absurd is
touches_cause bytes refusals.PageCount is = absurd is
touches_cause bytes refusals.PageMissing is = absurd is

one_touches : (bytes : List ℕ) (a b : Refusal) → RefusesTouches bytes a → RefusesTouches bytes b → a ≡ b
one_touches bytes a b x y = elim (touches_cause bytes a x) [
  | inl p ↦ elim (touches_cause bytes b y) [
    | inl q ↦ p.1 ∙ ap (λ (e : TraceError). refusals.Trace e) (one_cause bytes p.0 q.0 p.2 q.2) ∙ sym q.1
    | inr q ↦ absurd (never_refused bytes q.0 p.0 q.2 p.2)
  ]
  | inr p ↦ elim (touches_cause bytes b y) [
    | inl q ↦ absurd (never_refused bytes p.0 q.0 p.2 q.2)
    | inr q ↦ p.1 ∙ sym q.1
  ]
]

plan_parts : (bytes : List ℕ) (s : SizedSettings) (r : Refusal) → RefusesPlan bytes s r
    → RefusesSettings s r ⊎ (AreGiven s × RefusesTouches bytes r)
plan_parts bytes s (refusals.Trace e) is = inr is
plan_parts bytes s refusals.SettingsSize is = inl is
plan_parts bytes s (refusals.Settings e) is = inl is
plan_parts bytes s (refusals.Frame e) is = absurd is
plan_parts bytes s refusals.Memory is = inr (is.0, (is.1, is.2))
plan_parts bytes s refusals.ShortBuffer is = absurd is
plan_parts bytes s refusals.PageLength is = absurd is
plan_parts bytes s refusals.MemoryLength is = absurd is
plan_parts bytes s refusals.PageCount is = absurd is
plan_parts bytes s refusals.PageMissing is = absurd is

pub one_plan : (bytes : List ℕ) (s : SizedSettings) (a b : Refusal) → RefusesPlan bytes s a → RefusesPlan bytes s b
    → a ≡ b
one_plan bytes s a b x y = elim (plan_parts bytes s a x) [
  | inl p ↦ elim (plan_parts bytes s b y) [
    | inl q ↦ one_settings s a b p q
    | inr q ↦ absurd (settings_not s a p q.0)
  ]
  | inr p ↦ elim (plan_parts bytes s b y) [
    | inl q ↦ absurd (settings_not s b q p.0)
    | inr q ↦ one_touches bytes a b p.1 q.1
  ]
]

pub one_open_plan : (s : SizedSettings) (a b : Refusal) → LacksPlan s a → LacksPlan s b → a ≡ b
one_open_plan s a b (inl x) (inl y) = one_settings s a b x y
one_open_plan s a b (inl x) (inr y) = absurd (settings_not s a x y.0)
one_open_plan s a b (inr x) (inl y) = absurd (settings_not s b y x.0)
one_open_plan s a b (inr x) (inr y) = x.1 ∙ sym y.1

-- ---- the first case

first_given : (before after : List SizedSettings) (s : SizedSettings) → All AreGiven (before ++ s ∷ after) → AreGiven s
first_given [] after s all = All-head AreGiven s after all
first_given (x ∷ before) after s all = first_given before after s (All-tail AreGiven x (before ++ s ∷ after) all)

heads : (p q : SizedSettings) (m n : List SizedSettings) → p ∷ m ≡ q ∷ n → p ≡ q
heads p q m n same = cc same

tails : (p q : SizedSettings) (m n : List SizedSettings) → p ∷ m ≡ q ∷ n → m ≡ n
tails p q m n same = cc same

same_first : (b c : List SizedSettings) (p q : SizedSettings) (m n : List SizedSettings) → b ++ p ∷ m ≡ c ++ q ∷ n
    → All AreGiven b → All AreGiven c → (AreGiven p → ⊥) → (AreGiven q → ⊥) → p ≡ q
same_first [] [] p q m n same all_b all_c not_p not_q = heads p q m n same
same_first [] (x ∷ c) p q m n same all_b all_c not_p not_q =
    absurd (not_p (subst AreGiven (sym (heads p x m (c ++ q ∷ n) same)) (All-head AreGiven x c all_c)))
same_first (x ∷ b) [] p q m n same all_b all_c not_p not_q =
    absurd (not_q (subst AreGiven (heads x q (b ++ p ∷ m) n same) (All-head AreGiven x b all_b)))
same_first (x ∷ b) (y ∷ c) p q m n same all_b all_c not_p not_q =
    same_first b c p q m n (tails x y (b ++ p ∷ m) (c ++ q ∷ n) same) (All-tail AreGiven x b all_b)
    (All-tail AreGiven y c all_c) not_p not_q

one_case : (cases : List SizedSettings) (a b : Refusal) → RefusesCase cases a → RefusesCase cases b → a ≡ b
one_case cases a b x y =
    let same : x.case ≡ y.case =
    same_first x.before y.before x.case y.case x.after y.after (sym x.parts ∙ y.parts) x.given y.given
    (settings_not x.case a x.refused) (settings_not y.case b y.refused) in
    one_settings x.case a b x.refused (subst (λ (s : SizedSettings). RefusesSettings s b) (sym same) y.refused)

case_not : (cases : List SizedSettings) (r : Refusal) → RefusesCase cases r → All AreGiven cases → ⊥
case_not cases r is all =
    settings_not is.case r is.refused (first_given is.before is.after is.case (subst (All AreGiven) is.parts all))

pub one_sweep : (cases : List SizedSettings) (a b : Refusal) → LacksSweep cases a → LacksSweep cases b → a ≡ b
one_sweep cases a b (inl x) (inl y) = one_case cases a b x y
one_sweep cases a b (inl x) (inr y) = absurd (case_not cases a x y.0)
one_sweep cases a b (inr x) (inl y) = absurd (case_not cases b y x.0)
one_sweep cases a b (inr x) (inr y) = x.1 ∙ sym y.1

-- ---- sizes and frames

shape_not : (sizes : GuestSizes) (e : TraceError) → IsGuestShape (shape_in sizes) → shape_refusal sizes ≡ Some e → ⊥
shape_not sizes e is refused =
    let none : shape_refusal sizes ≡ None =
    passes _ _ _ (is_within 4 12 sizes.shift is.size.shift_low is.size.shift_high)
    (passes _ _ _ (is_within 1 65_536 sizes.pages is.size.pages_low is.size.pages_high)
    (passes _ _ _ (le-ltb (2 ^ 20) sizes.writes is.few) refl)) in
    none-some e (sym none ∙ refused)

same_shape_cause : (sizes : GuestSizes) (a b : Refusal) (e f : TraceError) → a ≡ refusals.Trace e
    → b ≡ refusals.Trace f → shape_refusal sizes ≡ Some e → shape_refusal sizes ≡ Some f → a ≡ b
same_shape_cause sizes a b e f a_is b_is x y =
    a_is ∙ ap (λ (c : TraceError). refusals.Trace c) (same_Some e f (sym x ∙ y)) ∙ sym b_is

-- why a guest's frame is not encoded
abbrev EncodingCause : GuestSizes → ℕ → ℕ → List ℕ → Refusal → Type 0
EncodingCause sizes page stamp bytes r =
    ((r ≡ refusals.Frame frames.Page) × (sizes.pages ≤ page))
    ⊎ (((r ≡ refusals.Frame frames.Stamp) × (page < sizes.pages) × (sizes.writes < stamp))
    ⊎ (((r ≡ refusals.PageLength) × (page < sizes.pages) × (stamp ≤ sizes.writes) × (length bytes ≢ 2 ^ sizes.shift))
    ⊎ ((r ≡ refusals.Memory) × (page < sizes.pages) × (stamp ≤ sizes.writes) × (length bytes ≡ 2 ^ sizes.shift))))

encoding_cause : (sizes : GuestSizes) (page stamp : ℕ) (bytes : List ℕ) (r : Refusal)
    → RefusesEncoding sizes page stamp bytes r
    → ((e : TraceError) × (r ≡ refusals.Trace e) × (shape_refusal sizes ≡ Some e))
    ⊎ (IsGuestShape (shape_in sizes) × EncodingCause sizes page stamp bytes r)
encoding_cause sizes page stamp bytes (refusals.Trace e) is = inl (e, refl, is)
encoding_cause sizes page stamp bytes (refusals.Frame e) is = inr (
  is.0,
  elim is.1 [
    | inl p ↦ inl (ap (λ (c : FrameError). refusals.Frame c) p.0, p.1)
    | inr p ↦ inr (inl (ap (λ (c : FrameError). refusals.Frame c) p.0, p.1, p.2))
  ],
)
encoding_cause sizes page stamp bytes refusals.PageLength is = inr (is.0, inr (inr (inl (refl, is.1, is.2, is.3))))
encoding_cause sizes page stamp bytes refusals.Memory is =
    inr (is.shape, inr (inr (inr (refl, is.page_is, is.stamp_is, is.bytes_are))))
encoding_cause sizes page stamp bytes (refusals.Settings e) is = absurd is
encoding_cause sizes page stamp bytes refusals.SettingsSize is = absurd is
encoding_cause sizes page stamp bytes refusals.ShortBuffer is = absurd is
encoding_cause sizes page stamp bytes refusals.MemoryLength is = absurd is
encoding_cause sizes page stamp bytes refusals.PageCount is = absurd is
encoding_cause sizes page stamp bytes refusals.PageMissing is = absurd is

same_encoding_cause : (sizes : GuestSizes) (page stamp : ℕ) (bytes : List ℕ) (a b : Refusal)
    → EncodingCause sizes page stamp bytes a → EncodingCause sizes page stamp bytes b → a ≡ b
same_encoding_cause sizes page stamp bytes a b (inl x) (inl y) = x.0 ∙ sym y.0
same_encoding_cause sizes page stamp bytes a b (inl x) (inr (inl y)) = absurd (omega (arith, x.1, y.1))
same_encoding_cause sizes page stamp bytes a b (inl x) (inr (inr (inl y))) = absurd (omega (arith, x.1, y.1))
same_encoding_cause sizes page stamp bytes a b (inl x) (inr (inr (inr y))) = absurd (omega (arith, x.1, y.1))
same_encoding_cause sizes page stamp bytes a b (inr (inl x)) (inl y) = absurd (omega (arith, x.1, y.1))
same_encoding_cause sizes page stamp bytes a b (inr (inl x)) (inr (inl y)) = x.0 ∙ sym y.0
same_encoding_cause sizes page stamp bytes a b (inr (inl x)) (inr (inr (inl y))) = absurd (omega (arith, x.2, y.2))
same_encoding_cause sizes page stamp bytes a b (inr (inl x)) (inr (inr (inr y))) = absurd (omega (arith, x.2, y.2))
same_encoding_cause sizes page stamp bytes a b (inr (inr (inl x))) (inl y) = absurd (omega (arith, x.1, y.1))
same_encoding_cause sizes page stamp bytes a b (inr (inr (inl x))) (inr (inl y)) = absurd (omega (arith, x.2, y.2))
same_encoding_cause sizes page stamp bytes a b (inr (inr (inl x))) (inr (inr (inl y))) = x.0 ∙ sym y.0
same_encoding_cause sizes page stamp bytes a b (inr (inr (inl x))) (inr (inr (inr y))) = absurd (x.3 y.3)
same_encoding_cause sizes page stamp bytes a b (inr (inr (inr x))) (inl y) = absurd (omega (arith, x.1, y.1))
same_encoding_cause sizes page stamp bytes a b (inr (inr (inr x))) (inr (inl y)) = absurd (omega (arith, x.2, y.2))
same_encoding_cause sizes page stamp bytes a b (inr (inr (inr x))) (inr (inr (inl y))) = absurd (y.3 x.3)
same_encoding_cause sizes page stamp bytes a b (inr (inr (inr x))) (inr (inr (inr y))) = x.0 ∙ sym y.0

pub one_encoding : (sizes : GuestSizes) (page stamp : ℕ) (bytes : List ℕ) (a b : Refusal)
    → RefusesEncoding sizes page stamp bytes a → RefusesEncoding sizes page stamp bytes b → a ≡ b
one_encoding sizes page stamp bytes a b x y = elim (encoding_cause sizes page stamp bytes a x) [
  | inl p ↦ elim (encoding_cause sizes page stamp bytes b y) [
    | inl q ↦ same_shape_cause sizes a b p.0 q.0 p.1 q.1 p.2 q.2
    | inr q ↦ absurd (shape_not sizes p.0 q.0 p.2)
  ]
  | inr p ↦ elim (encoding_cause sizes page stamp bytes b y) [
    | inl q ↦ absurd (shape_not sizes q.0 p.0 q.2)
    | inr q ↦ same_encoding_cause sizes page stamp bytes a b p.1 q.1
  ]
]

-- why the bytes of a guest's frame are not decoded
abbrev DecodingCause : GuestSizes → List ℕ → Refusal → Type 0
DecodingCause sizes bytes r =
    ((e : FrameError) × (r ≡ refusals.Frame e) × (frame_refusal (shape_in sizes) bytes ≡ Some e))
    ⊎ ((r ≡ refusals.ShortBuffer) × BeginsWithFrame sizes bytes)

decoding_cause : (sizes : GuestSizes) (bytes : List ℕ) (room : ℕ) (r : Refusal) → RefusesDecoding sizes bytes room r
    → ((e : TraceError) × (r ≡ refusals.Trace e) × (shape_refusal sizes ≡ Some e))
    ⊎ (IsGuestShape (shape_in sizes) × DecodingCause sizes bytes r)
decoding_cause sizes bytes room (refusals.Trace e) is = inl (e, refl, is)
decoding_cause sizes bytes room (refusals.Frame e) is = inr (is.0, inl (e, refl, is.1))
decoding_cause sizes bytes room refusals.ShortBuffer is = inr (is.0, inr (refl, is.1))
decoding_cause sizes bytes room refusals.PageLength is = absurd is
decoding_cause sizes bytes room refusals.Memory is = absurd is
decoding_cause sizes bytes room (refusals.Settings e) is = absurd is
decoding_cause sizes bytes room refusals.SettingsSize is = absurd is
decoding_cause sizes bytes room refusals.MemoryLength is = absurd is
decoding_cause sizes bytes room refusals.PageCount is = absurd is
decoding_cause sizes bytes room refusals.PageMissing is = absurd is

-- bytes that begin with a frame are not refused
begins_not : (sizes : GuestSizes) (bytes : List ℕ) (e : FrameError) → IsGuestShape (shape_in sizes)
    → BeginsWithFrame sizes bytes → frame_refusal (shape_in sizes) bytes ≡ Some e → ⊥
begins_not sizes bytes e is begins refused =
    let text = sym (take-append-drop begins.size bytes)
    ∙ ap (λ (l : List ℕ). l ++ drop begins.size bytes) begins.spells.text in
    none-some e (sym (found.never_refused (shape_in sizes) bytes (drop begins.size bytes) begins.frame is
    begins.spells.is_frame text) ∙ refused)

same_decoding_cause : (sizes : GuestSizes) (bytes : List ℕ) (a b : Refusal) → IsGuestShape (shape_in sizes)
    → DecodingCause sizes bytes a → DecodingCause sizes bytes b → a ≡ b
same_decoding_cause sizes bytes a b is (inl x) (inl y) =
    x.1 ∙ ap (λ (c : FrameError). refusals.Frame c) (same_Some x.0 y.0 (sym x.2 ∙ y.2)) ∙ sym y.1
same_decoding_cause sizes bytes a b is (inl x) (inr y) = absurd (begins_not sizes bytes x.0 is y.1 x.2)
same_decoding_cause sizes bytes a b is (inr x) (inl y) = absurd (begins_not sizes bytes y.0 is x.1 y.2)
same_decoding_cause sizes bytes a b is (inr x) (inr y) = x.0 ∙ sym y.0

pub one_decoding : (sizes : GuestSizes) (bytes : List ℕ) (room : ℕ) (a b : Refusal) → RefusesDecoding sizes bytes room a
    → RefusesDecoding sizes bytes room b → a ≡ b
one_decoding sizes bytes room a b x y = elim (decoding_cause sizes bytes room a x) [
  | inl p ↦ elim (decoding_cause sizes bytes room b y) [
    | inl q ↦ same_shape_cause sizes a b p.0 q.0 p.1 q.1 p.2 q.2
    | inr q ↦ absurd (shape_not sizes p.0 q.0 p.2)
  ]
  | inr p ↦ elim (decoding_cause sizes bytes room b y) [
    | inl q ↦ absurd (shape_not sizes q.0 p.0 q.2)
    | inr q ↦ same_decoding_cause sizes bytes a b p.0 p.1 q.1
  ]
]

-- ---- flat memory

-- why flat memory of a guest is refused
flat_cause : (sizes : GuestSizes) (bytes states : ℕ) (r : Refusal) → RefusesFlat sizes bytes states r
    → ((e : TraceError) × (r ≡ refusals.Trace e) × (shape_refusal sizes ≡ Some e))
    ⊎ (IsGuestShape (shape_in sizes) × (((r ≡ refusals.MemoryLength) × (bytes ≢ sizes.pages * 2 ^ sizes.shift))
    ⊎ ((r ≡ refusals.PageCount) × (bytes ≡ sizes.pages * 2 ^ sizes.shift))))
flat_cause sizes bytes states (refusals.Trace e) is = inl (e, refl, is)
flat_cause sizes bytes states refusals.MemoryLength is = inr (is.0, inl (refl, is.1))
flat_cause sizes bytes states refusals.PageCount is = inr (is.0, inr (refl, is.1))
flat_cause sizes bytes states (refusals.Frame e) is = absurd is
flat_cause sizes bytes states refusals.ShortBuffer is = absurd is
flat_cause sizes bytes states refusals.PageLength is = absurd is
flat_cause sizes bytes states refusals.Memory is = absurd is
flat_cause sizes bytes states (refusals.Settings e) is = absurd is
flat_cause sizes bytes states refusals.SettingsSize is = absurd is
flat_cause sizes bytes states refusals.PageMissing is = absurd is

same_flat_cause : (bytes wanted : ℕ) (a b : Refusal)
    → ((a ≡ refusals.MemoryLength) × (bytes ≢ wanted)) ⊎ ((a ≡ refusals.PageCount) × (bytes ≡ wanted))
    → ((b ≡ refusals.MemoryLength) × (bytes ≢ wanted)) ⊎ ((b ≡ refusals.PageCount) × (bytes ≡ wanted)) → a ≡ b
same_flat_cause bytes wanted a b (inl x) (inl y) = x.0 ∙ sym y.0
same_flat_cause bytes wanted a b (inl x) (inr y) = absurd (x.1 y.1)
same_flat_cause bytes wanted a b (inr x) (inl y) = absurd (y.1 x.1)
same_flat_cause bytes wanted a b (inr x) (inr y) = x.0 ∙ sym y.0

pub one_flat : (sizes : GuestSizes) (bytes states : ℕ) (a b : Refusal) → RefusesFlat sizes bytes states a
    → RefusesFlat sizes bytes states b → a ≡ b
one_flat sizes bytes states a b x y = elim (flat_cause sizes bytes states a x) [
  | inl p ↦ elim (flat_cause sizes bytes states b y) [
    | inl q ↦ same_shape_cause sizes a b p.0 q.0 p.1 q.1 p.2 q.2
    | inr q ↦ absurd (shape_not sizes p.0 q.0 p.2)
  ]
  | inr p ↦ elim (flat_cause sizes bytes states b y) [
    | inl q ↦ absurd (shape_not sizes q.0 p.0 q.2)
    | inr q ↦ same_flat_cause bytes (sizes.pages * 2 ^ sizes.shift) a b p.1 q.1
  ]
]
