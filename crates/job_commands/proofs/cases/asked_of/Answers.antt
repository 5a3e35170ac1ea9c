use Rattle.job_commands.specs.Cases.{IsNoCase, numbers_in}
use Rattle.std.proofs.Common.{refl}
use Rattle.job_commands.proofs.CaseLemmas.{if_none, skip_high}
use Rattle.job_commands.proofs.cases.asked_of.Goals as goal

pub returns-in_err-min-clause-none : goal.returns-in_err-min-clause-none
returns-in_err-min-clause-none c =
    let none : IsNoCase c.args.options.now c.args.word.now =
    λ asked is. c.in_err-min.ensures.none (numbers_in asked) refl is.spelled in
    if_none _ none

pub returns-then-skip-gt1-clause-none : goal.returns-then-skip-gt1-clause-none
returns-then-skip-gt1-clause-none c = skip_high c.args.options.now c.args.word.now c.in_ok-min.field-0
    c.in_ok-min.ensures.numbers c.if-skip-gt1.true
