use Rattle.std.proofs.Common.{arith}
use Rattle.stream_check.proofs.Missing.{first_none, first_over, first_within}
use Rattle.stream_check.proofs.ending.first_to.Goals as goal

pub returns-then-places-eq0 : goal.returns-then-places-eq0
returns-then-places-eq0 c = first_none c.args.stop c.args.places.now (omega (arith, c.if-places-eq0.true))

pub returns-then-first-stop : goal.returns-then-first-stop
returns-then-first-stop c =
    first_over c.args.stop c.args.places.now c.requires (omega (arith, c.if-first-stop.true))

pub returns : goal.returns
returns c = first_within c.args.stop c.args.places.now (omega (arith, c.if-first-stop.false))
