use Rattle.view_commands.proofs.advice.advice_in_units.Goals as goal

pub measured_advice-requires-clause-unsaid : goal.measured_advice-requires-clause-unsaid
measured_advice-requires-clause-unsaid c = c.is_down_said.ensures.unsaid c.if-is_down_said.false
