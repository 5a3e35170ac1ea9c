-- What C sees of the shares of a link that have one verdict. Why there is nothing to tell is as for a prediction.
use Rattle.std.specs.Prelude.{◌≡◌}
use Rattle.migration_model.specs.Touches.{GuestTouches, touches_in}
use Rattle.migration_model.specs.Trace.{GuestTrace}
use Rattle.predictions.specs.Questions.{Fits, scale_in}
use Rattle.predictions.specs.Remedies.Questions.{trial_in}
use Rattle.predictions.specs.Remedies.Trials.{MigrationTrial}
use Rattle.predictions.specs.Shares.{IsLinkShare, VerdictAt}
use Rattle.predictions.specs.declared.question.Question.{Question}
use Rattle.predictions.specs.declared.shares.share.LinkShare.{LinkShare}
use Rattle.c_layout.specs.Shares.{share_numbers}
use Rattle.c_layout.specs.declared.shares.ShareNumbers.{ShareNumbers}

-- these numbers say down to which share of its link a migration has one verdict over a log of touches
pub record AreSharesOver (trial : MigrationTrial) (log : GuestTouches) (numbers : ShareNumbers) : Type 0 where
  pub found : LinkShare
  pub is_share : IsLinkShare (VerdictAt log.pages log.touches trial) found
  pub numbers_are : numbers ≡ share_numbers found

-- they say so of a question over a trace that has the question's scale
pub record AreSharesOf (trace : GuestTrace) (q : Question) (numbers : ShareNumbers) : Type 0 where
  pub fits : Fits (scale_in q) trace.shift trace.pages
  pub are_shares : AreSharesOver (trial_in q) (touches_in trace) numbers
