-- For what starts that are taken can still be refused.
use Rattle.std.proofs.Common.{◌≡◌, refl, arith}
use Rattle.migration_model.specs.Touches.{GuestTouches, last_tick_of}
use Rattle.predictions.specs.Starts.{RefusesStarts}
use Rattle.predictions.specs.declared.question.Terms.{Terms}
use Rattle.predictions.specs.declared.starts.cases.Starts.{Starts}
use Rattle.predictions.specs.declared.starts.error.StartsError.{StartsError}
use Rattle.predictions.specs.declared.starts.error.StartsError.TheVariants as errors
use Rattle.predictions.proofs.OneStart.{none_refused}
use Rattle.c_answers.specs.Starts.{AreTaken}

pub only_memory : (terms : Terms) (starts : Starts) (log : GuestTouches) (e : StartsError) → AreTaken terms starts log
    → RefusesStarts terms.settings starts (last_tick_of log.touches) e → e ≡ errors.Memory
only_memory terms starts log errors.Memory taken refused = refl
only_memory terms starts log errors.TooMany taken refused = let few = taken.few in absurd (omega (arith, few, refused))
only_memory terms starts log (errors.Settings e) taken refused =
    absurd (none_refused terms.settings starts (last_tick_of log.touches) e taken.accepted refused)
