-- What C sees of a check of streams. Numbers from 71 on are this call's own.
use Rattle.std.specs.Prelude.{◌≡◌, ◌≢◌, ℕ, List, length, sum, Option, Some, None, unwrap_or}
use Rattle.migration_model.specs.Trace.{GuestTrace, Spells}
use Rattle.trace_codec.specs.Refusals.{RefusesUnlessMemory}
use Rattle.stream_check.specs.Streams.{IsAllRight, IsFirstThing, cut_by}
use Rattle.stream_check.specs.declared.error.StreamsError.{StreamsError}
use Rattle.stream_check.specs.declared.error.StreamsError.TheVariants as things
use Rattle.stream_check.specs.declared.faults.FrameCause.{FrameCause}
use Rattle.stream_check.specs.declared.faults.FrameCause.TheVariants as causes
use Rattle.stream_check.specs.declared.faults.WrongFrame.{WrongFrame}
use Rattle.stream_check.specs.declared.faults.WrongPage.{WrongPage}
use Rattle.c_answers.specs.declared.checking.StreamsRefusal.{StreamsRefusal}
use Rattle.c_answers.specs.declared.checking.StreamsRefusal.TheVariants as refusals
use Rattle.c_answers.specs.declared.checking.StreamFinding.{StreamFinding}
use Rattle.c_layout.specs.Refusals.{number_of_trace, record_after}
use Rattle.c_answers.specs.Answers.{number_of_frame}

abbrev pub number_of_cause : FrameCause → ℕ
number_of_cause (causes.Refused e) = number_of_frame e
number_of_cause causes.NoVersion = 71
number_of_cause causes.AfterStop = 72
number_of_cause causes.Older = 73
number_of_cause causes.Bytes = 74

-- a page that came and is not at its version, and one that never came
abbrev pub number_of_stamp : Option ℕ → ℕ
number_of_stamp (Some stamp) = 75
number_of_stamp None = 65

abbrev pub number_of_thing : StreamsError → ℕ
number_of_thing things.Memory = 16
number_of_thing (things.Frame stream found) = number_of_cause found.fault.cause
number_of_thing (things.Page found) = number_of_stamp found.stamp

abbrev pub number_of_streams : StreamsRefusal → ℕ
number_of_streams (refusals.Trace e) = number_of_trace e
number_of_streams refusals.Sizes = 66
number_of_streams refusals.Memory = 16
number_of_streams (refusals.Wrong thing) = number_of_thing thing

-- a wrong frame as C sees it
abbrev pub frame_finding : ℕ → WrongFrame → StreamFinding
frame_finding stream found = record {
  stream = stream;
  frame = found.number;
  offset = found.offset;
  tick = 0;
  page = found.fault.page;
  stamp = found.fault.stamp;
  wanted = found.fault.wanted;
  missing = 0;
}

-- a wrong page as C sees it
abbrev pub page_finding : WrongPage → StreamFinding
page_finding found = record {
  stream = 0;
  frame = 0;
  offset = 0;
  tick = found.tick;
  page = found.page;
  stamp = unwrap_or found.stamp 0;
  wanted = found.wanted;
  missing = found.missing;
}

abbrev pub finding_of : StreamsError → StreamFinding → StreamFinding
finding_of things.Memory old = old
finding_of (things.Frame stream found) old = frame_finding stream found
finding_of (things.Page found) old = page_finding found

-- what C is told of a refusal; if nothing is wrong in the streams, what was there before
abbrev pub finding_after : StreamsRefusal → StreamFinding → StreamFinding
finding_after (refusals.Trace e) old = old
finding_after refusals.Sizes old = old
finding_after refusals.Memory old = old
finding_after (refusals.Wrong thing) old = finding_of thing old

abbrev pub record_beside : StreamsRefusal → ℕ → ℕ
record_beside (refusals.Trace e) old = record_after e old
record_beside refusals.Sizes old = old
record_beside refusals.Memory old = old
record_beside (refusals.Wrong thing) old = old

-- nothing is wrong in these streams of a guest that is stopped after the first `stop` writes
pub record AreAllRight (trace : List ℕ) (stop : ℕ) (bytes sizes : List ℕ) : Type 0 where
  pub guest : GuestTrace
  pub spells : Spells trace guest
  pub sizes_are : sum sizes ≡ length bytes
  pub right : IsAllRight guest stop (cut_by sizes bytes)

-- this is the first thing that is wrong in them
pub record IsFirstIn (trace : List ℕ) (stop : ℕ) (bytes sizes : List ℕ) (thing : StreamsError) : Type 0 where
  pub guest : GuestTrace
  pub spells : Spells trace guest
  pub sizes_are : sum sizes ≡ length bytes
  pub first : IsFirstThing guest stop (cut_by sizes bytes) thing

-- the sizes are not those of the bytes, or else the trace is refused, or memory ran out, or something is wrong
abbrev pub RefusesStreams : List ℕ → ℕ → List ℕ → List ℕ → StreamsRefusal → Type 0
RefusesStreams trace stop bytes sizes refusals.Sizes = sum sizes ≢ length bytes
RefusesStreams trace stop bytes sizes (refusals.Trace e) = (sum sizes ≡ length bytes) × RefusesUnlessMemory trace e
RefusesStreams trace stop bytes sizes refusals.Memory = sum sizes ≡ length bytes
RefusesStreams trace stop bytes sizes (refusals.Wrong thing) = IsFirstIn trace stop bytes sizes thing
