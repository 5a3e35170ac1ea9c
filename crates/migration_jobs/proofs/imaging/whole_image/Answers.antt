use Rattle.migration_jobs.proofs.Runs.{image_made}
use Rattle.migration_jobs.proofs.imaging.whole_image.Goals as goal

pub returns-clause-made : goal.returns-clause-made
returns-clause-made g c old came =
    image_made old c.args.header c.in-Ok.memory c.visit.new.visitor c.into_bytes.result.items c.in-Ok.ensures
    c.into_bytes.ensures (c.in_ok-visit.ensures.all old came)
