-- Refused settings, and cases tested one after the other.
use Rattle.std.proofs.Common.{ℕ, ◌+◌, ◌<◌, ◌≤◌, List, [], ◌∷◌, ◌++◌, length, get_or, take, drop, inl, inr, sym, ap}
use Rattle.std.proofs.Common.{◌∙◌, arith}
use Rattle.std.specs.List.{All}
use Rattle.std.proofs.lemmas.List.{drop_more, take-append-drop, take_more}
use Rattle.std.proofs.lemmas.List.Elements.{All-append, All-cons, All-nil}
use Rattle.c_layout.specs.Refusals.{number_of_settings}
use Rattle.rate_limit.specs.declared.error.SettingsError.{SettingsError}
use Rattle.rate_limit.specs.declared.error.SettingsError.TheVariants as errors
use Rattle.c_answers.specs.declared.answers.Refusal.{Refusal}
use Rattle.c_answers.specs.declared.answers.Refusal.TheVariants as refusals
use Rattle.c_answers.specs.declared.settings.SizedSettings.{SizedSettings}
use Rattle.c_answers.specs.Answers.{number_of}
use Rattle.c_answers.specs.Plans.{LacksPlan, RefusesPlan, RefusesTouches}
use Rattle.c_answers.specs.Settings.{AreGiven, RefusesSettings}
use Rattle.c_answers.specs.Sweeps.{RefusesCase}

-- with refused settings there is no plan
pub no_plan : (bytes : List ℕ) (s : SizedSettings) (refusal : Refusal) → RefusesSettings s refusal
    → RefusesPlan bytes s refusal
no_plan bytes s (refusals.Trace e) r = absurd r
no_plan bytes s refusals.SettingsSize r = r
no_plan bytes s (refusals.Settings e) r = r
no_plan bytes s (refusals.Frame e) r = absurd r
no_plan bytes s refusals.Memory r = absurd r
no_plan bytes s refusals.ShortBuffer r = absurd r
no_plan bytes s refusals.PageLength r = absurd r
no_plan bytes s refusals.MemoryLength r = absurd r
no_plan bytes s refusals.PageCount r = absurd r
no_plan bytes s refusals.PageMissing r = absurd r

-- and none without touches
pub unread_plan : (bytes : List ℕ) (s : SizedSettings) (refusal : Refusal) → AreGiven s → RefusesTouches bytes refusal
    → RefusesPlan bytes s refusal
unread_plan bytes s (refusals.Trace e) given r = (given, r)
unread_plan bytes s refusals.SettingsSize given r = absurd r
unread_plan bytes s (refusals.Settings e) given r = absurd r
unread_plan bytes s (refusals.Frame e) given r = absurd r
unread_plan bytes s refusals.Memory given r = (given, r.0, r.1)
unread_plan bytes s refusals.ShortBuffer given r = absurd r
unread_plan bytes s refusals.PageLength given r = absurd r
unread_plan bytes s refusals.MemoryLength given r = absurd r
unread_plan bytes s refusals.PageCount given r = absurd r
unread_plan bytes s refusals.PageMissing given r = absurd r

-- what is told of refused settings, and of want of memory, is no want of room
settings_range : (e : SettingsError) → (1 ≤ number_of_settings e) × (number_of_settings e ≤ 30)
settings_range errors.MinRate = (omega arith, omega arith)
settings_range errors.MaxRate = (omega arith, omega arith)
settings_range errors.Increment = (omega arith, omega arith)
settings_range errors.Threshold = (omega arith, omega arith)
settings_range errors.Rounds = (omega arith, omega arith)
settings_range errors.WindowLength = (omega arith, omega arith)
settings_range errors.HotWindows = (omega arith, omega arith)
settings_range errors.StartTick = (omega arith, omega arith)
settings_range errors.Parallelism = (omega arith, omega arith)
settings_range errors.BaseTick = (omega arith, omega arith)

told_range : (s : SizedSettings) (refusal : Refusal) → RefusesSettings s refusal
    → (1 ≤ number_of refusal) × (number_of refusal ≤ 31)
told_range s refusals.SettingsSize refused = (omega arith, omega arith)
told_range s (refusals.Settings e) refused =
    let range = settings_range e in
    (range.0, omega (arith, range.1))
told_range s (refusals.Trace e) refused = absurd refused
told_range s (refusals.Frame e) refused = absurd refused
told_range s refusals.Memory refused = absurd refused
told_range s refusals.ShortBuffer refused = absurd refused
told_range s refusals.PageLength refused = absurd refused
told_range s refusals.MemoryLength refused = absurd refused
told_range s refusals.PageCount refused = absurd refused
told_range s refusals.PageMissing refused = absurd refused

pub lacking_range : (s : SizedSettings) (refusal : Refusal) → LacksPlan s refusal
    → (1 ≤ number_of refusal) × (number_of refusal ≤ 31)
lacking_range s refusal (inl refused) = told_range s refusal refused
lacking_range s refusal (inr lacking) =
    let number = ap number_of lacking.1 in
    (omega (arith, number), omega (arith, number))

-- the case at an index is refused, after others that are not
pub RefusesCase-at : (cases : List SizedSettings) (i : ℕ) (d : SizedSettings) (refusal : Refusal) → i < length cases
    → All AreGiven (take i cases) → RefusesSettings (get_or cases i d) refusal → RefusesCase cases refusal
RefusesCase-at cases i d refusal low given refused = record {
  before = take i cases;
  case = get_or cases i d;
  after = drop (i + 1) cases;
  parts = sym (take-append-drop i cases) ∙ ap (λ (l : List SizedSettings). take i cases ++ l) (drop_more cases i d low);
  given = given;
  refused = refused;
}

-- one more case
pub given_more : (cases : List SizedSettings) (i : ℕ) (d : SizedSettings) → i < length cases
    → All AreGiven (take i cases) → AreGiven (get_or cases i d) → All AreGiven (take (i + 1) cases)
given_more cases i d low before given =
    rw (take_more cases i d low) (All-append AreGiven (take i cases) (get_or cases i d ∷ []) before
    (All-cons AreGiven (get_or cases i d) [] given (All-nil AreGiven)))
