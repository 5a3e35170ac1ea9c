use Rattle.std.proofs.Common.{rules, ◌≡◌, ◌∙◌, ap, length, refl, replicate}
use Rattle.std.proofs.lemmas.List.{length-set}
use Rattle.round_planner.proofs.MarkedWays.{marks_start, marks_end, marks_go_on}
use Rattle.round_planner.proofs.marked.marked_rounds.Goals as goal

pub loop-next-init : goal.loop-next-init
loop-next-init g c =
    let filled : c.fill.new.self ≡ replicate (length c.args.marks.now) 0 = search rules in
    record {
      way = marks_start _ _ c.args.settings.now c.args.first c.fill.new.self c.args.room.now c.args.rows.now
          c.requires.first (filled ∙ ap (λ n. replicate n 0) c.requires.marks.marks_len)
          c.requires.marks.room_len;
      rows_len = refl;
    }

pub returns-in-Stop-clause-planned : goal.returns-in-Stop-clause-planned
returns-in-Stop-clause-planned g c =
    let now = c.loop-next.now in
    let before = c.loop-next.invariant.way in
    let round = c.end_round-ran.ensures in
    let ran = round.ran before.coming before.way.at (c.send_pages-sent.ensures.sent before.coming before.marked) in
    let row = c.row.ensures in
    let end = rw c.in-Stop.is at c.after.ensures in
    marks_end _ _ c.args.settings.now now c.end_round-ran.result c.row.result end.0 c.in-Stop.outcome
    c.loop-next.marks c.loop-next.room c.args.rows.now c.loop-next.rows
    before ran end.1.0 end.1.1
    (record { from = row.from; to = row.to; rate = row.rate; list = row.pages; sent = row.sent; dirtied = row.dirtied })
    c.requires.rows

pub loop-next-preserved : goal.loop-next-preserved
loop-next-preserved g c =
    let now = c.loop-next.now in
    let before = c.loop-next.invariant.way in
    let round = c.end_round-ran.ensures in
    let ran = round.ran before.coming before.way.at (c.send_pages-sent.ensures.sent before.coming before.marked) in
    let row = c.row.ensures in
    let next = rw c.in-Round.is at c.after.ensures in
    record {
      way = rw next.1 (marks_go_on _ _ c.args.settings.now now c.end_round-ran.result c.in-Round.next.step
          c.row.result c.loop-next.marks c.loop-next.room c.end_round-ran.new.marks c.end_round-ran.new.room
          c.args.rows.now c.loop-next.rows c.requires.first.in_range before ran
          next.0 round.turned round.room
          (record {
            from = row.from;
            to = row.to;
            rate = row.rate;
            list = row.pages;
            sent = row.sent;
            dirtied =
                row.dirtied;
          }) c.requires.rows);
      rows_len = length-set c.loop-next.rows now.step.done c.row.result ∙ c.loop-next.invariant.rows_len;
    }
