use Rattle.std.proofs.Common.{◌≡◌, ◌++◌, length, subst, append_assoc, arith}
use Rattle.migration_model.specs.Rounds.{PlannedRound}
use Rattle.sweep_report.specs.Lines.{round_line}
use Rattle.sweep_report.proofs.lines.push_round.Goals as goal

pub returns : goal.returns
returns c =
    let pages : c.len.result ≡ length c.round.inside.pages.items = omega (arith, c.len.ensures) in
    let sent : c.len-2.result ≡ length c.round.inside.sent.items = omega (arith, c.len-2.ensures) in
    let C : PlannedRound → Type 0 = λ r. c.end_line.new.text.items ≡ c.args.text.now.items
    ++ round_line c.args.number r in
    subst C c.round.view_is
    (rw (
      c.in_ok-end_line.ensures,
      c.in_ok-push_field-7.ensures,
      c.in_ok-push_field-6.ensures,
      c.in_ok-push_field-5.ensures,
      c.in_ok-push_field-4.ensures,
      c.in_ok-push_field-3.ensures,
      c.in_ok-push_field-2.ensures,
      c.in_ok-push_field.ensures,
      pages,
      sent,
    ) (simp append_assoc))
