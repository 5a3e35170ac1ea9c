use Rattle.std.proofs.Common.{◌≡◌, rules, subst, sym}
use Rattle.std.proofs.lemmas.Result.{err_from_is_err_and}
use Rattle.migration_model.specs.Touches.{GuestTouches, last_tick_of, touches_of}
use Rattle.predictions.specs.Questions.{settings_of}
use Rattle.predictions.specs.Starts.{RefusesStarts}
use Rattle.predictions.specs.declared.question.Terms.{Terms}
use Rattle.predictions.specs.declared.starts.cases.Starts.{Starts}
use Rattle.c_answers.specs.Starts.{RefusesBest}
use Rattle.c_answers.proofs.starts.best_told.Goals as goal

pub returns-in_err-best-clause-refused : goal.returns-in_err-best-clause-refused
returns-in_err-best-clause-refused c =
    let p = err_from_is_err_and c.from_residual-in_err-best.result c.from_residual-in_err-best.ensures.1 in
    let made = c.in_ok-terms.ensures.made in
    let found = c.in_ok-terms.field-0 in
    let e = c.in_err-best.field-0.0 in
    let size : c.args.starts.now.size ≡ 32 = search rules in
    let refused =
    subst (λ (l : GuestTouches). RefusesStarts found.terms.settings c.of_question-starts.result
    (last_tick_of l.touches) e) made.log_is c.in_err-best.ensures.refused in
    let of_terms =
    subst (λ (t : Terms). RefusesStarts t.settings c.of_question-starts.result
    (last_tick_of (touches_of c.args.trace.now)) e) made.terms_are refused in
    let of_starts =
    subst (λ (s : Starts). RefusesStarts (settings_of c.args.asked.now.question) s
    (last_tick_of (touches_of c.args.trace.now)) e) c.of_question-starts.ensures of_terms in
    rw p.1 (subst (RefusesBest c.args.trace.now c.args.asked.now c.args.starts.now) (sym p.2)
    (size, made.is_asked, made.fits, of_starts))
