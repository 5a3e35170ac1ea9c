use Rattle.std.proofs.Common.{length, refl, subst, sym}
use Rattle.std.proofs.lemmas.Result.{err_from_is_err_and}
use Rattle.c_layout.specs.Settings.{settings_in}
use Rattle.browser_planner.specs.Windows.{RefusesWindows, room_of}
use Rattle.browser_planner.proofs.windows.windows.Goals as goal

pub returns-in_err-trace-clause-refused : goal.returns-in_err-trace-clause-refused
returns-in_err-trace-clause-refused c =
    let p = err_from_is_err_and c.from_residual-in_err-trace.result c.from_residual-in_err-trace.ensures.1 in
    let room = room_of (length c.args.touches.now) (length c.args.marks.now) (length c.args.rows.now) in
    rw p.1 (subst (RefusesWindows c.args.bytes.now (settings_in c.args.settings.now) room) (sym p.2)
    (c.in_ok-settings.ensures.in_range.0 refl, c.in_err-trace.ensures.refused))
