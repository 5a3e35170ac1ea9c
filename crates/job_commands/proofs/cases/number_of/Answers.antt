use Rattle.std.proofs.Common.{ℕ, Option, arith, eq-eqb, sym, subst, ◌∙◌}
use Rattle.std.specs.Prelude.{IfNone}
use Rattle.job_commands.specs.Cases.{IsNumber}
use Rattle.job_commands.proofs.CaseLemmas.{no_number}
use Rattle.job_commands.proofs.cases.number_of.Goals as goal

pub returns-clause-none : goal.returns-clause-none
returns-clause-none c =
    let P : Option ℕ → Type 0 = λ o. IfNone o ((n : ℕ) → ¬ IsNumber c.args.word.now n) in
    let first = c.if-starts_with.ensures.byte (omega arith) (omega arith) (λ w o finds. finds) in
    subst P (sym c.ok.ensures.value) (no_number c.args.word.now c.parse.result c.parse.ensures.value.0
    (λ is. absurd (let both = first ∙ eq-eqb _ 43 is in cc)))
