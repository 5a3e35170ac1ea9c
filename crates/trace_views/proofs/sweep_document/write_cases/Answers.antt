use Rattle.std.proofs.Common.{◌++◌, ◌∙◌, List, ap, arith}
use Rattle.json.specs.Token.{Token}
use Rattle.trace_views.specs.Json.{case_object}
use Rattle.trace_views.proofs.Numbered.{one_more, all_of}
use Rattle.trace_views.proofs.sweep_document.write_cases.Goals as goal

pub loop-number-preserved : goal.loop-number-preserved
loop-number-preserved c =
    one_more (case_object c.args.scale.now) c.loop-number.number c.args.lines.now c.index-lines-number.result
    c.args.out.now c.loop-number.out c.write_case.new.out
    (omega arith) c.index-lines-number.is c.loop-number.invariant c.in_ok-write_case.ensures

pub returns : goal.returns
returns c =
    c.loop-number.invariant ∙ ap (λ (l : List Token). c.args.out.now ++ l)
    (all_of (case_object c.args.scale.now) c.loop-number.number c.args.lines.now (omega arith))
