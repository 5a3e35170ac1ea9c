use Rattle.std.proofs.Common.{inr}
use Rattle.trace_readers.proofs.Fronts.{tested_held, tested_spelled, tested_trailing}
use Rattle.trace_readers.proofs.front_records.FrontRecords.all.Goals as goal

pub returns-then-self-bytes-clause-refused : goal.returns-then-self-bytes-clause-refused
returns-then-self-bytes-clause-refused c =
    let on = c.in_ok-go_on.ensures in
    inr (tested_trailing c.args.bytes.now c.go_on.new.self on.all c.if-self-bytes.true on.tested)

pub returns-clause-spelled : goal.returns-clause-spelled
returns-clause-spelled c =
    let on = c.in_ok-go_on.ensures in
    tested_spelled c.args.bytes.now c.go_on.new.self on.all c.if-self-bytes.false on.tested

pub returns-clause-held : goal.returns-clause-held
returns-clause-held c =
    let on = c.in_ok-go_on.ensures in
    tested_held c.args.bytes.now c.go_on.new.self on.all c.if-self-bytes.false on.tested
