use Rattle.page_versions.proofs.Pages.{writes_fit}
use Rattle.page_versions.proofs.bytes.put_four.Goals as goal

pub put_over-requires-clause-within : goal.put_over-requires-clause-within
put_over-requires-clause-within g c =
    rw (c.look_up.ensures, c.shape.ensures.shift) (writes_fit (g.W.WriteLog.trace c.args.trace.now) c.args.places.now
    c.requires.is_trace c.requires.places)
