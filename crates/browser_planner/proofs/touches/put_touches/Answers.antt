use Rattle.std.proofs.Common.{◌∷◌, List, subst, refl}
use Rattle.migration_model.specs.Trace.{GuestWrite}
use Rattle.guest_log.specs.Writes.{shown}
use Rattle.browser_planner.proofs.Puts.{ArePut, put_low, put_more}
use Rattle.browser_planner.proofs.touches.put_touches.Goals as goal

pub loop-write-preserved : goal.loop-write-preserved
loop-write-preserved c =
    let at = c.loop-write in
    let writes = c.args.trace.now.writes in
    let P : List GuestWrite → Type 0 = λ left. ArePut writes left at.count c.args.room.now at.room in
    let before : P (shown c.in-Some.write ∷ c.next.new.self) = subst P c.in-Some.ensures.steps at.invariant in
    let low = put_low writes c.next.new.self (shown c.in-Some.write) at.count c.args.room.now at.room c.requires
    before in
    put_more writes c.next.new.self (shown c.in-Some.write) (record {
      tick = c.in-Some.write.tick;
      page =
          c.in-Some.write.page;
    }) at.count c.args.room.now at.room refl low.0 before
