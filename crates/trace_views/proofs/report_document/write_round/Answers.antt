use Rattle.std.proofs.Common.{◌≡◌, length, ap, append_assoc, arith}
use Rattle.migration_model.specs.Rounds.{PlannedRound}
use Rattle.trace_views.proofs.report_document.write_round.Goals as goal

pub returns : goal.returns
returns c =
    let from : c.round.inside.from ≡ c.args.round.now.from = ap (λ (r : PlannedRound). r.from) c.round.view_is in
    let to : c.round.inside.to ≡ c.args.round.now.to = ap (λ (r : PlannedRound). r.to) c.round.view_is in
    let rate : c.round.inside.rate ≡ c.args.round.now.rate = ap (λ (r : PlannedRound). r.rate) c.round.view_is in
    let dirtied : c.round.inside.dirtied ≡ c.args.round.now.dirtied =
    ap (λ (r : PlannedRound). r.dirtied) c.round.view_is in
    let pages : c.len.result ≡ length c.args.round.now.pages =
    omega (arith, c.len.ensures, ap (λ (r : PlannedRound). length r.pages) c.round.view_is) in
    let sent : c.len-2.result ≡ length c.args.round.now.sent =
    omega (arith, c.len-2.ensures, ap (λ (r : PlannedRound). length r.sent) c.round.view_is) in
    rw (
      c.in_ok-end_object.ensures,
      c.in_ok-write_round_units.ensures,
      c.in_ok-number_member-7.ensures,
      c.in_ok-number_member-6.ensures,
      c.in_ok-number_member-5.ensures,
      c.in_ok-number_member-4.ensures,
      c.in_ok-number_member-3.ensures,
      c.in_ok-number_member-2.ensures,
      c.in_ok-number_member.ensures,
      c.in_ok-begin_object.ensures,
      pages,
      sent,
      from,
      to,
      rate,
      dirtied,
    ) (simp append_assoc)
