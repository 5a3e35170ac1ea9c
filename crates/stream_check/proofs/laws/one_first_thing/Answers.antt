use Rattle.stream_check.proofs.OneWrong.{one_stream, one_frame_in, one_at_end, apart}
use Rattle.stream_check.proofs.laws.one_first_thing.Goals as goal

pub returns-clause-stream : goal.returns-clause-stream
returns-clause-stream c = one_stream

pub returns-clause-frame : goal.returns-clause-frame
returns-clause-frame c = one_frame_in

pub returns-clause-page : goal.returns-clause-page
returns-clause-page c = one_at_end

pub returns-clause-apart : goal.returns-clause-apart
returns-clause-apart c = apart
