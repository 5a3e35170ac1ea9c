use Rattle.sweep_report.proofs.sweeping.make_alone.Goals as goal

pub returns-clause-taken : goal.returns-clause-taken
returns-clause-taken g c = c.place.ensures (g.T.Timeline.pages c.args.timeline.now)
    (g.T.Timeline.touches c.args.timeline.now) c.args.cases.now c.in_ok-made.ensures.made c.requires.taken
