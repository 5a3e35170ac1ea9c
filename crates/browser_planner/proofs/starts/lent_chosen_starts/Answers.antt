use Rattle.std.proofs.Common.{rules}
use Rattle.browser_planner.proofs.Choices.{is_choice, no_choice}
use Rattle.browser_planner.proofs.starts.lent_chosen_starts.Goals as goal

pub returns-then-is_empty-clause-chosen : goal.returns-then-is_empty-clause-chosen
returns-then-is_empty-clause-chosen c =
    no_choice c.args.limit c.args.clark c.args.starts.now c.args.choice.now (search rules)

pub returns-clause-chosen : goal.returns-clause-chosen
returns-clause-chosen c =
    is_choice c.args.limit c.args.clark c.args.starts.now c.args.choice.now _
    (record { best = c.best_place.ensures; worst = c.worst_place.ensures })
