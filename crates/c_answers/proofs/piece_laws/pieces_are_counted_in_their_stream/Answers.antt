use Rattle.std.proofs.Common.{◌≡◌, ◌+◌, arith}
use Rattle.page_message.specs.declared.error.FrameError.TheVariants.{Short}
use Rattle.stream_check.specs.Faults.{refused_for}
use Rattle.c_answers.specs.Pieces.{counted}
use Rattle.c_answers.specs.StreamChecks.{frame_finding}
use Rattle.c_answers.proofs.piece_laws.pieces_are_counted_in_their_stream.Goals as goal

pub returns-clause-taken : goal.returns-clause-taken
returns-clause-taken c at first second frames bytes few short =
    let frames_are : counted at.frames second.frames ≡ first.frames + second.frames = omega (arith, frames, few) in
    let bytes_are : counted at.bytes second.bytes ≡ first.bytes + second.bytes = omega (arith, bytes, short) in
    λ i. record { stream = at.stream; frames = frames_are i; bytes = bytes_are i; stop = at.stop }

pub returns-clause-wrong : goal.returns-clause-wrong
returns-clause-wrong c at taken found frames bytes few short =
    let number_is : counted at.frames found.number ≡ taken.frames + found.number = omega (arith, frames, few) in
    let offset_is : counted at.bytes found.offset ≡ taken.bytes + found.offset = omega (arith, bytes, short) in
    λ i. frame_finding at.stream (record { number = number_is i; offset = offset_is i; fault = found.fault })

pub returns-clause-cut : goal.returns-clause-cut
returns-clause-cut c at taken frames bytes =
    λ i. record { number = frames i; offset = bytes i; fault = refused_for Short }
