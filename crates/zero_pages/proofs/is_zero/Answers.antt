use Rattle.std.proofs.Common.{◌≡◌, ◌↔◌, ℕ, List, take, drop, sym, subst, ap₂, ◌++◌, ◌∙◌}
use Rattle.std.specs.List.{All}
use Rattle.std.proofs.lemmas.List.{take-append-drop}
use Rattle.std.proofs.lemmas.List.Elements.{All-append, All-drop, All-take}
use Rattle.zero_pages.proofs.is_zero.Goals as goal

-- what holds of each element of a list holds of those of its two parts
in_parts : (P : ℕ → Type 0) (n : ℕ) (whole front back : List ℕ) → front ≡ take n whole → back ≡ drop n whole
    → All P whole ↔ (All P front × All P back)
in_parts P n whole front back is_front is_back = (
  λ all. (subst (All P) (sym is_front) (All-take P n whole all), subst (All P) (sym is_back) (All-drop P n whole all)),
  λ both. subst (All P) (ap₂ (λ a b. a ++ b) is_front is_back ∙ take-append-drop n whole)
      (All-append P front back both.0 both.1),
)

pub loop-front-init : goal.loop-front-init
loop-front-init c =
    in_parts (λ byte. byte ≡ 0) _ c.args.bytes.now c.split_at.result.0.now c.split_at.result.1.now
    c.split_at.ensures.front c.split_at.ensures.back

pub loop-front-preserved : goal.loop-front-preserved
loop-front-preserved c =
    let first = c.split_at-in-loop-front in
    let second = c.split_at-in-loop-front-2 in
    let Z : ℕ → Type 0 = λ byte. byte ≡ 0 in
    let a = in_parts Z 64 c.loop-front.front.now first.result.0.now first.result.1.now first.ensures.front
    first.ensures.back in
    let b = in_parts Z 64 c.loop-front.back.now second.result.0.now second.result.1.now second.ensures.front
    second.ensures.back in
    let blocks = c.pair_is_zero.ensures.0 c.if-not-pair_is_zero.false in (
      λ all. let both = c.loop-front.invariant.0 all in ((a.0 both.0).1, (b.0 both.1).1),
      λ after. c.loop-front.invariant.1 (a.1 (blocks.0, after.0), b.1 (blocks.1, after.1)),
    )
