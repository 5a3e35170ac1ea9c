use Rattle.std.proofs.Common.{ap, length, ◌∙◌}
use Rattle.migration_model.proofs.Pages.{length-page_at}
use Rattle.open_traces.proofs.open_trace.OpenTrace.turn_page.Goals as goal

pub put_page-requires-clause-room : goal.put_page-requires-clause-room
put_page-requires-clause-room c =
    ap length c.requires.bytes
    ∙ length-page_at c.args.self.now c.args.page c.args.from c.shape.ensures.is_trace c.requires.page
