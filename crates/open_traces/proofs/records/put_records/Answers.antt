use Rattle.std.proofs.Common.{arith}
use Rattle.guest_log.specs.Writes.{shown}
use Rattle.open_traces.proofs.RecordPlaces.{ArePut-all, ArePut-more, ArePut-next, ArePut-none, begin_low}
use Rattle.open_traces.proofs.records.put_records.Goals as goal

pub loop-write-init : goal.loop-write-init
loop-write-init c = rw (c.into_iter-write-iterator.ensures.into_iter_gives, c.records-write-items.ensures)
    (ArePut-none c.args.trace.now.writes c.args.begins.now c.args.pages.now c.requires.begins c.requires.pages)

pub overflow_add-begin-in-loop-write : goal.overflow_add-begin-in-loop-write
overflow_add-begin-in-loop-write c =
    let at = c.loop-write in
    let trace = c.args.trace.now in
    let write = shown c.in-Some.write in
    let next = ArePut-next trace.writes at.count at.begin write c.next.new.self at.begins at.pages
    (rw c.in-Some.ensures.steps at at.invariant) in
    omega (arith, at.invariant.begin_is, begin_low trace at.count write c.shape.ensures.is_trace next.0 next.1)

pub loop-write-preserved : goal.loop-write-preserved
loop-write-preserved c =
    let at = c.loop-write in
    ArePut-more c.args.trace.now.writes at.count at.begin (shown c.in-Some.write) c.next.new.self at.begins at.pages
    (rw c.in-Some.ensures.steps at at.invariant)

pub returns-clause-begins : goal.returns-clause-begins
returns-clause-begins c =
    let at = c.loop-write in
    (ArePut-all c.args.trace.now.writes at.count at.begin at.begins at.pages
    (rw c.in-None.ensures.steps.0 at at.invariant)).0

pub returns-clause-pages : goal.returns-clause-pages
returns-clause-pages c =
    let at = c.loop-write in
    (ArePut-all c.args.trace.now.writes at.count at.begin at.begins at.pages
    (rw c.in-None.ensures.steps.0 at at.invariant)).1
