use Rattle.std.proofs.Common.{◌≡◌, ℕ, ◌+◌, ◌-◌, List, [], ◌∷◌, ◌++◌, length, replicate, sym, ap, ◌∙◌, append_assoc}
use Rattle.std.proofs.Common.{arith}
use Rattle.std.proofs.lemmas.List.{replicate-append-replicate}
use Rattle.predictions.proofs.starts.table.push_right.Goals as goal

one_more : (n m : ℕ) → n ≡ m + 1 → replicate {A = ℕ} n 32 ≡ replicate {A = ℕ} m 32 ++ 32 ∷ []
one_more n m is = ap (λ (k : ℕ). replicate {A = ℕ} k 32) is ∙ sym (replicate-append-replicate {A = ℕ} m 1 32)

pub loop-column-preserved : goal.loop-column-preserved
loop-column-preserved c =
    let n = c.loop-column._column - length c.args.words.now in
    let old = c.args.text.now.items in
    record {
      text = c.in_ok-push.ensures.items ∙ ap (λ (l : List ℕ). l ++ 32 ∷ []) c.loop-column.invariant.text
          ∙ append_assoc old (replicate {A = ℕ} n 32) (32 ∷ [])
          ∙ ap (λ (l : List ℕ). old ++ l) (sym (one_more _ n (omega (arith, c.loop-column.auto._column))));
      high = omega arith;
    }

pub returns : goal.returns
returns c =
    let old = c.args.text.now.items in
    let same : c.loop-column._column - length c.args.words.now ≡ c.args.width - length c.args.words.now =
    omega (arith, c.loop-column.auto._column, c.loop-column.invariant.high) in
    c.in_ok-extend_from_slice.ensures.items ∙ ap (λ (l : List ℕ). l ++ c.args.words.now) c.loop-column.invariant.text
    ∙ append_assoc old (replicate {A = ℕ} (c.loop-column._column - length c.args.words.now) 32) c.args.words.now
    ∙ ap (λ (n : ℕ). old ++ (replicate {A = ℕ} n 32 ++ c.args.words.now)) same
