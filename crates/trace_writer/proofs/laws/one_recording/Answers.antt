use Rattle.trace_writer.proofs.OneRefusal.{same_bytes, same_recording, same_trace_of}
use Rattle.trace_writer.proofs.laws.one_recording.Goals as goal

pub returns-clause-recording : goal.returns-clause-recording
returns-clause-recording c = same_recording

pub returns-clause-bytes : goal.returns-clause-bytes
returns-clause-bytes c = same_bytes

pub returns-clause-trace : goal.returns-clause-trace
returns-clause-trace c = same_trace_of
