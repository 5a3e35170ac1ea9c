use Rattle.std.proofs.Common.{sym, ap, length, ◌∙◌}
use Rattle.migration_model.proofs.Writes.{length-writes_in}
use Rattle.trace_codec.proofs.view.TraceView.shape.Goals as goal

pub returns-clause-writes : goal.returns-clause-writes
returns-clause-writes c = sym (length-writes_in c.self.inside.header.shape.writes c.self.inside.body.now)
    ∙ ap (λ t. length t.writes) c.self.view_is
