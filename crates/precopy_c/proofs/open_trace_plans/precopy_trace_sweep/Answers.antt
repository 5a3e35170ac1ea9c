use Rattle.std.proofs.Common.{arith}
use Rattle.std.proofs.lemmas.List.{length-map}
use Rattle.std.proofs.lemmas.Slice.Zip.{AllZip-long}
use Rattle.migration_model.specs.Sweeps.{IsLineOf}
use Rattle.migration_model.specs.Touches.{touches_of}
use Rattle.c_answers.specs.Settings.{settings_in}
use Rattle.precopy_c.proofs.open_trace_plans.precopy_trace_sweep.Goals as goal

pub put_lines-requires : goal.put_lines-requires
put_lines-requires c =
    let trace = c.opened.result in
    let count = AllZip-long (IsLineOf trace.pages (touches_of trace)) _ _ c.in-Ok.ensures.made in
    omega (arith, c.if-found-cases.false, c.deref.ensures.len, count, length-map c.args.cases.now settings_in)
