use Rattle.std.proofs.Common.{◌∷◌, Result, List, subst}
use Rattle.std.specs.Prelude.{IfOk, Vec}
use Rattle.std.specs.Global.{Global}
use Rattle.std.specs.List.{All}
use Rattle.std.proofs.lemmas.List.Elements.{All-head, All-tail}
use Rattle.sweep_report.specs.declared.error.SweepError.{SweepError}
use Rattle.sweep_report.specs.declared.sweeping.CaseLine.{CaseLine}
use Rattle.sweep_report.specs.Sweeping.{AreNumbered, IsWork}
use Rattle.sweep_report.proofs.sweeping.place_all.Goals as goal

pub loop-some-preserved : goal.loop-some-preserved
loop-some-preserved g c =
    let pages = g.T.Timeline.pages c.args._timeline.now in
    let touches = g.T.Timeline.touches c.args._timeline.now in
    let cases = c.args._cases.now in
    let W : Result (Vec CaseLine Global) SweepError → Type 0 = IsWork pages touches cases in
    let all : All W (c.in-Some.some ∷ c.next.new.self.rest.items) =
    subst (λ (l : List (Result (Vec CaseLine Global) SweepError)). All W l) c.in-Some.ensures.steps.0
    c.loop-some.invariant.left in
    let head : W c.in-Some.some = All-head W c.in-Some.some c.next.new.self.rest.items all in
    let numbered : AreNumbered pages touches cases c.in_ok-some.field-0.items =
    subst (λ (r : Result (Vec CaseLine Global) SweepError). IfOk r (λ some. AreNumbered pages touches cases some.items))
    c.in_ok-some.was head.lines in
    record {
      left = All-tail W c.in-Some.some c.next.new.self.rest.items all;
      taken = c.place.ensures pages touches cases numbered c.loop-some.invariant.taken;
    }
