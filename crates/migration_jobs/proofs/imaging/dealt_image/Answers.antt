use Rattle.std.proofs.Common.{refl}
use Rattle.migration_jobs.proofs.Runs.{image_made}
use Rattle.migration_jobs.proofs.imaging.dealt_image.Goals as goal

pub returns-clause-made : goal.returns-clause-made
returns-clause-made g c old came =
    image_made old c.args.header c.in-Ok.memory c.visit.new.visitor _ c.in-Ok.ensures refl
    (c.in_ok-visit.ensures.all old came)
