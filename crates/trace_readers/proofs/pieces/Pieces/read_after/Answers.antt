use Rattle.std.proofs.Common.{inl, inr}
use Rattle.trace_readers.proofs.OneMore.{CameAs-end}
use Rattle.trace_codec.proofs.Sources.{ended_refused}
use Rattle.trace_readers.proofs.pieces.Pieces.read_after.Goals.{in-Memory, in_default}
use Rattle.trace_readers.proofs.pieces.Pieces.read_after.Goals as goal

pub returns-then-not-wants_bytes-clause-refused : goal.returns-then-not-wants_bytes-clause-refused
returns-then-not-wants_bytes-clause-refused g c old text came (inl memory) =
    elim c.match-matches.branch [
      | in-Memory w ↦ let is = w.matches-is in let isnt = c.if-matches.false in absurd cc
      | in_default w ↦ absurd (w.in_default.not-Memory memory)
    ]
returns-then-not-wants_bytes-clause-refused g c old text came (inr refused) =
    c.read_on.ensures.refused old text came.came came.count_is refused

pub returns-clause-refused : goal.returns-clause-refused
returns-clause-refused g c old text came (inl memory) = inl (inl memory)
returns-clause-refused g c old text came (inr refused) =
    let last = CameAs-end old _ _ text c.args.self.now _ c.in_ok-read_more.field-0 c.if-branch.false came
    c.in_ok-read_more.ensures.read in
    ended_refused old _ text c.args.cause last.0 last.1 refused
