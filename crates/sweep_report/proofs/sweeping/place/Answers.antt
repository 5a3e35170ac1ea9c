use Rattle.std.proofs.Common.{◌≡◌, ◌<◌, ◌∷◌, Some, List, refl, set, sym, subst, length, arith}
use Rattle.std.specs.List.{All}
use Rattle.std.proofs.lemmas.List.{length-set}
use Rattle.std.proofs.lemmas.List.Elements.{All-head, All-tail}
use Rattle.sweep_report.specs.Sweeping.{IsNumbered, AreNumbered}
use Rattle.sweep_report.specs.declared.sweeping.CaseLine.{CaseLine}
use Rattle.sweep_report.proofs.Taken.{taken_set}
use Rattle.sweep_report.proofs.sweeping.place.Goals as goal

pub loop-one-init : goal.loop-one-init
loop-one-init c =
    let same : c.into_iter-one-iterator.result.rest.items ≡ c.args.made.items =
    c.into_iter-one-iterator.ensures.into_iter_gives.0 in
    record {
      low = subst (λ (l : List CaseLine). All (λ one. one.number < length c.args.taken.now.items) l) (sym same)
          c.requires;
      all = λ pages touches cases made taken. (
        subst (λ (l : List CaseLine). AreNumbered pages touches cases l)
            (sym same) made,
        taken,
      );
    }

pub index_mut-requires : goal.index_mut-requires
index_mut-requires c =
    let low : All (λ one. one.number < length c.loop-one.taken.items) (c.in-Some.one ∷ c.next.new.self.rest.items) =
    subst (λ (l : List CaseLine). All (λ one. one.number < length c.loop-one.taken.items) l) c.in-Some.ensures.steps.0
    c.loop-one.invariant.low in
    omega (
      arith,
      All-head (λ one. one.number < length c.loop-one.taken.items) c.in-Some.one c.next.new.self.rest.items
          low,
    )

pub loop-one-preserved : goal.loop-one-preserved
loop-one-preserved c =
    let one = c.in-Some.one in
    let rest = c.next.new.self.rest.items in
    let old = c.loop-one.taken.items in
    let new = set old one.number (Some one.line) in
    let low : All (λ x. x.number < length old) (one ∷ rest) =
    subst (λ (l : List CaseLine). All (λ x. x.number < length old) l) c.in-Some.ensures.steps.0
    c.loop-one.invariant.low in
    record {
      low = λ k d within. omega (
        arith,
        All-tail (λ x. x.number < length old) one rest low k d within,
        length-set old one.number (Some one.line),
      );
      all = λ pages touches cases made taken.
          let before = c.loop-one.invariant.all pages touches cases made taken in
          let numbered : AreNumbered pages touches cases (one ∷ rest) =
          subst (λ (l : List CaseLine). AreNumbered pages touches cases l) c.in-Some.ensures.steps.0 before.0 in
          let head = All-head (IsNumbered pages touches cases) one rest numbered in (
            All-tail (IsNumbered pages touches cases) one rest numbered,
            taken_set pages one.number touches cases old new (Some one.line) head.line refl before.1,
          );
    }

pub returns : goal.returns
returns c pages touches cases made taken = (c.loop-one.invariant.all pages touches cases made taken).1
