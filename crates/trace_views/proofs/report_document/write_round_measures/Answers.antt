use Rattle.std.proofs.Common.{◌≡◌, length, ap, append_assoc, arith}
use Rattle.std.proofs.lemmas.List.{append-nil}
use Rattle.migration_model.specs.Rounds.{PlannedRound}
use Rattle.trace_views.proofs.report_document.write_round_measures.Goals as goal

pub returns : goal.returns
returns c =
    let from : c.round.inside.from ≡ c.args.round.now.from = ap (λ (r : PlannedRound). r.from) c.round.view_is in
    let to : c.round.inside.to ≡ c.args.round.now.to = ap (λ (r : PlannedRound). r.to) c.round.view_is in
    let rate : c.round.inside.rate ≡ c.args.round.now.rate = ap (λ (r : PlannedRound). r.rate) c.round.view_is in
    let dirtied : c.round.inside.dirtied ≡ c.args.round.now.dirtied =
    ap (λ (r : PlannedRound). r.dirtied) c.round.view_is in
    let sent : c.len.result ≡ length c.args.round.now.sent =
    omega (arith, c.len.ensures, ap (λ (r : PlannedRound). length r.sent) c.round.view_is) in
    rw (
      c.in_ok-seconds_member-3.ensures,
      c.in_ok-wide_member-2.ensures,
      c.bytes-2.ensures.size,
      c.in_ok-wide_member.ensures,
      c.bytes.ensures.size,
      c.in_ok-seconds_member-2.ensures,
      c.micros-2.ensures.time,
      c.in_ok-seconds_member.ensures,
      c.micros.ensures.time,
      sent,
      from,
      to,
      rate,
      dirtied,
    )
    (simp (append_assoc, append-nil))
