-- What the options of limits in time and bytes ask for, and why they are refused.
use Rattle.std.specs.Prelude.{◌≡◌, ℕ, ◌||◌, not, is_some, Bool, if◌then◌else◌, List, [], ◌∷◌, Option, Some, None, codes}
use Rattle.std.specs.Prelude.{unwrap_or}
use Rattle.clap.specs.Simple.{new_rule}
use Rattle.clap.specs.Walk.{Row, Rule, Text, first_of}
use Rattle.clap.specs.declared.builder.action.ArgAction.TheVariants.{Set}
use Rattle.predictions.specs.Units.Scales.{TraceScale, scale_with}
use Rattle.predictions.specs.declared.units.limits.Limits.{Limits}
use Rattle.job_commands.specs.Commands.{number_rule}
use Rattle.job_commands.specs.Options.{Says}
use Rattle.view_commands.specs.Quantities.{IsRate, IsSample, IsTime}
use Rattle.view_commands.specs.declared.limits.LimitsRefusal.{LimitsRefusal}
use Rattle.view_commands.specs.declared.limits.LimitsRefusal.TheVariants as refusals
use Rattle.view_commands.specs.declared.limits.Said.{Said}

-- an option that takes a quantity
abbrev pub quantity_rule : Text → Rule
quantity_rule name = record (new_rule name) { long = Some name; action = Some Set; value_names = 1 }

-- the options of what ticks and pages stand for, and those of limits with them
abbrev pub scale_rules : List Rule
scale_rules = quantity_rule (codes "tick") ∷ quantity_rule (codes "sampled") ∷ number_rule (codes "page") ∷ []

abbrev pub unit_rules : List Rule
unit_rules = quantity_rule (codes "link") ∷ quantity_rule (codes "first") ∷ quantity_rule (codes "downtime")
    ∷ quantity_rule (codes "reserve") ∷ scale_rules

-- what an option whose word stands for a number says, if it is given
abbrev pub SaysBy : (List ℕ → ℕ → Type 0) → List Row → Text → Option ℕ → Type 0
SaysBy Is rows name None = first_of name rows ≡ None
SaysBy Is rows name (Some n) = (word : Text) × (first_of name rows ≡ Some word) × Is word n

-- an option is given, but its word stands for no number
abbrev pub IsNo : (List ℕ → ℕ → Type 0) → List Row → Text → Type 0
IsNo Is rows name = (word : Text) × (first_of name rows ≡ Some word) × ((n : ℕ) → ¬ Is word n)

abbrev pub SaysSample : List Row → Option (ℕ × ℕ) → Type 0
SaysSample rows None = first_of (codes "sampled") rows ≡ None
SaysSample rows (Some sample) =
    (word : Text) × (first_of (codes "sampled") rows ≡ Some word) × IsSample word sample.0 sample.1

abbrev pub IsNoSample : List Row → Type 0
IsNoSample rows =
    (word : Text) × (first_of (codes "sampled") rows ≡ Some word) × ((m p : ℕ) → ¬ IsSample word m p)

-- this is what the options of limits say
pub record IsSaid (rows : List Row) (said : Said) : Type 0 where
  pub tick : SaysBy IsTime rows (codes "tick") said.tick
  pub page : Says rows (codes "page") said.page
  pub sampled : SaysSample rows said.sampled
  pub link : SaysBy IsRate rows (codes "link") said.link
  pub first : SaysBy IsRate rows (codes "first") said.first
  pub downtime : SaysBy IsTime rows (codes "downtime") said.downtime
  pub reserve : SaysBy IsTime rows (codes "reserve") said.reserve

-- no option of limits, or of what ticks and pages stand for, is given
pub record HasNoUnits (rows : List Row) : Type 0 where
  pub link : first_of (codes "link") rows ≡ None
  pub first : first_of (codes "first") rows ≡ None
  pub downtime : first_of (codes "downtime") rows ≡ None
  pub reserve : first_of (codes "reserve") rows ≡ None
  pub tick : first_of (codes "tick") rows ≡ None
  pub sampled : first_of (codes "sampled") rows ≡ None
  pub page : Says rows (codes "page") None

-- some option of limits is given
abbrev pub has_units : Said → Bool
has_units said = is_some said.tick || (is_some said.page || (is_some said.sampled || is_some said.link))

-- a tick of 1 ms, a page of 4,096 bytes and all pages unless something else is given
abbrev pub scale_in : Said → TraceScale
scale_in said = scale_with (unwrap_or said.tick 1_000) (unwrap_or said.page 4_096) (unwrap_or said.sampled (1, 1)).0
    (unwrap_or said.sampled (1, 1)).1

-- these limits are given, or none
abbrev pub AreLimitsSaid : Said → Option Limits → Type 0
AreLimitsSaid said None =
    (said.link ≡ None) × (said.downtime ≡ None) × (said.first ≡ None) × (said.reserve ≡ None)
AreLimitsSaid said (Some limits) =
    (said.link ≡ Some limits.link) × (said.downtime ≡ Some limits.downtime) × (limits.first ≡ said.first)
    × (limits.reserve ≡ unwrap_or said.reserve 0)

-- a link without a downtime, a downtime without a link, or what belongs to them without either
abbrev pub is_incomplete : Said → Bool
is_incomplete said =
    if is_some said.link then not (is_some said.downtime)
    else is_some said.downtime || (is_some said.first || is_some said.reserve)

-- the options say something that this holds of
abbrev pub SaysWhat : List Row → (Said → Type 0) → Type 0
SaysWhat rows Holds = (said : Said) × IsSaid rows said × Holds said

-- an option does not take its word
abbrev pub RefusesWord : List Row → LimitsRefusal → Type 0
RefusesWord rows refusals.Tick = IsNo IsTime rows (codes "tick")
RefusesWord rows refusals.Downtime = IsNo IsTime rows (codes "downtime")
RefusesWord rows refusals.Reserve = IsNo IsTime rows (codes "reserve")
RefusesWord rows refusals.Link = IsNo IsRate rows (codes "link")
RefusesWord rows refusals.First = IsNo IsRate rows (codes "first")
RefusesWord rows refusals.Sampled = IsNoSample rows
RefusesWord rows refusals.Incomplete = ⊥
RefusesWord rows refusals.Missing = ⊥
RefusesWord rows refusals.NeedsClark = ⊥
RefusesWord rows refusals.Mixed = ⊥
RefusesWord rows refusals.NoBudget = ⊥
RefusesWord rows refusals.TwoBudgets = ⊥
RefusesWord rows (refusals.Settings e) = ⊥
RefusesWord rows (refusals.Range refusal) = ⊥
