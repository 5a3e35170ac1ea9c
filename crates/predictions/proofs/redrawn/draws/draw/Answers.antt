use Rattle.std.proofs.Common.{◌≡◌, ◌+◌, ◌∙◌, ℕ, List, ◌++◌, ◌∷◌, [], ltb, ap, sym, arith}
use Rattle.std.specs.List.{filter}
use Rattle.predictions.specs.Redrawn.Draws.{next_state, page_at, state_after}
use Rattle.predictions.proofs.Drawing.{drawn_more, state_next}
use Rattle.predictions.proofs.redrawn.draws.draw.Goals as goal

pub loop-step-preserved : goal.loop-step-preserved
loop-step-preserved c =
    let before = c.loop-step.invariant in
    let i = c.loop-step._step in
    let sampled = c.args.sampled in
    let pages = c.args.pages in
    let next : (steps : ℕ) → c.args.before ≡ state_after steps
    → (m : ℕ) → m ≡ steps + i + 1 → c.next_state-state.result ≡ state_after m = λ steps from m is.
    c.next_state-state.ensures ∙ ap next_state (before.state steps from) ∙ sym (state_next (steps + i) m is) in
    record {
      state = λ steps from. next steps from (steps + (i + 1)) (omega arith);
      drawn = λ steps from.
          let page : c.page_at.result ≡ page_at sampled (state_after (steps + 1 + i)) = c.page_at.ensures
          ∙ ap (page_at sampled) (next steps from (steps + 1 + i) (omega arith)) in
          c.keep-count.ensures.kept
          ∙ ap (λ (l : List ℕ). l ++ filter (λ page. ltb page pages) (c.page_at.result ∷ [])) (before.drawn steps from)
          ∙ sym (drawn_more sampled pages steps i c.page_at.result page);
      few = omega (arith, c.keep-count.ensures.count, before.few);
    }
