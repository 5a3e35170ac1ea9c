use Rattle.std.proofs.Common.{List, ℕ, subst, sym, ◌∙◌, arith}
use Rattle.json.specs.Print.{IsNumber}
use Rattle.trace_views.proofs.JsonNumbers.{IsNumber-millionths}
use Rattle.trace_views.proofs.document.Document.seconds_member.Goals as goal

pub number-requires : goal.number-requires
number-requires c =
    let P : List ℕ → Type 0 = λ text. IsNumber text in
    subst P (sym (c.as_str.ensures.value ∙ c.in_ok-text.ensures)) (IsNumber-millionths c.args.micros (omega arith))
