use Rattle.std.proofs.Common.{◌++◌, ◌∙◌, List, ap, arith}
use Rattle.json.specs.Token.{Token}
use Rattle.trace_views.specs.Json.{round_object}
use Rattle.trace_views.proofs.Numbered.{one_more, all_of}
use Rattle.trace_views.proofs.report_document.write_rounds.Goals as goal

pub loop-number-preserved : goal.loop-number-preserved
loop-number-preserved c =
    one_more (round_object c.args.scale.now c.args.max) c.loop-number.number c.args.rounds.now
    c.index-rounds-number.result c.args.out.now c.loop-number.out c.write_round.new.out
    (omega arith) c.index-rounds-number.is c.loop-number.invariant c.in_ok-write_round.ensures

pub returns : goal.returns
returns c =
    c.loop-number.invariant ∙ ap (λ (l : List Token). c.args.out.now ++ l)
    (all_of (round_object c.args.scale.now c.args.max) c.loop-number.number c.args.rounds.now (omega arith))
