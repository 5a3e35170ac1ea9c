use Rattle.std.proofs.Common.{◌≡◌, ◌++◌, take}
use Rattle.report_pictures.specs.Bars.{bar_text}
use Rattle.report_pictures.proofs.bar.push_bar.Given as goal

abbrev pub invariant-loop-part : goal.invariant-loop-part
invariant-loop-part l =
    l.text.items ≡ l.fn.text.items ++ bar_text l.colors l.most l.room (take l.part-index l.parts)
