-- What C sees of streams that are checked in pieces: how far they have come, and what is wrong. This project's own.
use Rattle.std.specs.Prelude.{ℕ, ◌+◌, ◌^◌, ◌-◌, min}
use Rattle.page_message.specs.declared.error.FrameError.TheVariants.{Short}
use Rattle.stream_check.specs.Faults.{refused_for}
use Rattle.stream_check.specs.declared.faults.WrongFrame.{WrongFrame}
use Rattle.stream_check.specs.declared.taken.Taken.{Taken}
use Rattle.c_answers.specs.StreamChecks.{frame_finding}
use Rattle.c_answers.specs.declared.checking.StreamFinding.{StreamFinding}
use Rattle.c_answers.specs.declared.pieces.PieceProgress.{PieceProgress}

-- a count that goes on, as 64 bits hold it
abbrev pub counted : ℕ → ℕ → ℕ
counted old more = min (old + more) (2 ^ 64 - 1)

-- how far the streams have come after more frames
abbrev pub gone_on : PieceProgress → Taken → PieceProgress
gone_on old taken = record {
  stream = old.stream;
  frames = counted old.frames taken.frames;
  bytes = counted old.bytes taken.bytes;
  stop = old.stop;
}

-- the finding of a frame that is wrong in a piece, counted in its stream
abbrev pub piece_finding : PieceProgress → WrongFrame → StreamFinding
piece_finding at found = frame_finding at.stream (record {
  number = counted at.frames found.number;
  offset = counted at.bytes found.offset;
  fault = found.fault;
})

-- the frame that is cut off where a stream ends and bytes are left
abbrev pub cut_frame : PieceProgress → WrongFrame
cut_frame at = record { number = at.frames; offset = at.bytes; fault = refused_for Short }
