use Rattle.std.proofs.Common.{Option, ap, refl, subst, sym, ◌∙◌, inl, inr}
use Rattle.clap.specs.Words.{found_of, rows_of}
use Rattle.predictions.specs.Units.Limits.{settings_in}
use Rattle.predictions.specs.Units.Scales.{TraceScale}
use Rattle.migration_model.specs.Rates.{MigrationSettings}
use Rattle.predictions.specs.declared.units.limits.Limits.{Limits}
use Rattle.view_commands.specs.Measures.{AsksForSettings}
use Rattle.view_commands.specs.Units.{scale_in}
use Rattle.view_commands.proofs.measures.settings_with.Goals as goal

pub returns-then-is_mixed-clause-refused : goal.returns-then-is_mixed-clause-refused
returns-then-is_mixed-clause-refused c said is = inr (
  c.in-Some.limits,
  c.in-Some.is,
  inl (refl, c.is_mixed.ensures.mixed c.if-is_mixed.true),
)

pub returns-in-Ok-clause-made : goal.returns-in-Ok-clause-made
returns-in-Ok-clause-made c said is =
    let P : Option Limits → Type 0 = λ limits. AsksForSettings (rows_of (found_of c.args.options.now)) said limits
    c.in-Ok.settings in
    subst P (sym c.in-Some.is) (record {
      unsaid = c.is_mixed.ensures.unsaid c.if-is_mixed.false;
      increment = c.number_given-increment.result;
      says_increment = c.number_given-increment.ensures;
      others = c.in_ok-others.others;
      asks_others = c.in_ok-others.ensures.made;
      settings_are = c.in-Ok.ensures.made ∙ ap (λ (s : TraceScale). settings_in s c.in-Some.limits
          c.number_given-increment.result c.asked.result.now) is
          ∙ ap (λ (s : MigrationSettings). settings_in (scale_in said) c.in-Some.limits
          c.number_given-increment.result s) c.asked.ensures.value;
    })

pub returns-in-Err-Setting-clause-refused : goal.returns-in-Err-Setting-clause-refused
returns-in-Err-Setting-clause-refused c said is =
    let named = rw c.in-Err-Setting.field-0-is at c.in-Err-Setting.ensures.refused in
    let scaled = rw is at named in
    let refused = rw c.asked.ensures.value at scaled in
    inr (
      c.in-Some.limits,
      c.in-Some.is,
      inr (record {
        increment = c.number_given-increment.result;
        says_increment = c.number_given-increment.ensures;
        others = c.in_ok-others.others;
        asks_others = c.in_ok-others.ensures.made;
        refuses = inr (c.in-Err-Setting.error, refl, refused);
      }),
    )

pub returns-in-Err : goal.returns-in-Err
returns-in-Err c = record {
  made = tt;
  refused = λ said is. inr (
    c.in-Some.limits,
    c.in-Some.is,
    inr (record {
      increment = c.number_given-increment.result;
      says_increment = c.number_given-increment.ensures;
      others = c.in_ok-others.others;
      asks_others = c.in_ok-others.ensures.made;
      refuses = inl (c.limits_refused.result, refl, rw is at c.limits_refused.ensures);
    }),
  );
}
