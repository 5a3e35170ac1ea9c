use Rattle.std.proofs.Common.{refl}
use Rattle.open_traces.proofs.PageWalks.{version_first, zeros_first}
use Rattle.open_traces.proofs.open_trace.OpenTrace.put_page.Goals as goal

pub bring_on-requires-clause-is : goal.bring_on-requires-clause-is
bring_on-requires-clause-is c = version_first c.args.self.now c.args.page 0 refl

pub bring_on-requires-clause-bytes : goal.bring_on-requires-clause-bytes
bring_on-requires-clause-bytes c =
    zeros_first c.args.self.now c.args.page c.args.content.now c.fill.new.self c.requires.page c.requires.room
    (c.fill.ensures.after (λ y is. is))
