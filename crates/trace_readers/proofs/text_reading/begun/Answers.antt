use Rattle.trace_readers.proofs.Fronts.{begun_now}
use Rattle.trace_readers.proofs.text_reading.begun.Goals as goal

pub returns-in-None : goal.returns-in-None
returns-in-None c = rw c.ok.ensures.value (begun_now c.args.bytes.now c.new.result c.new.ensures.tested)
