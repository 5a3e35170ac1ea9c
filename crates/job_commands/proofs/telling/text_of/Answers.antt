use Rattle.job_commands.proofs.Told.{whole}
use Rattle.job_commands.proofs.telling.text_of.Goals as goal

pub returns-in-Ok : goal.returns-in-Ok
returns-in-Ok g c =
    whole c.new-text.result c.write.new.self (g.D.Display.output c.args.cause.now) c.new-text.ensures
    c.in-Ok.ensures.writes
