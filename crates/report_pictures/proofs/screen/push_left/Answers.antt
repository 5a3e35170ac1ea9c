use Rattle.std.proofs.Common.{◌≡◌, ap, append_assoc, arith, length, vec_len}
use Rattle.migration_model.specs.Rounds.{MigrationPlan}
use Rattle.report_pictures.specs.Screens.{left_words}
use Rattle.report_pictures.proofs.screen.push_left.Goals as goal

pub returns : goal.returns
unfolding left_words
returns c =
    let down : c.plan.inside.down ≡ c.args.plan.now.down = ap (λ (p : MigrationPlan). p.down) c.plan.view_is in
    let left : length c.plan.inside.last.items ≡ length c.args.plan.now.last =
    ap (λ (p : MigrationPlan). length p.last) c.plan.view_is in
    let last : vec_len c.plan.inside.last ≡ length c.args.plan.now.last =
    omega (arith, c.plan.inside.last.ok.0, left) in
    rw (
      c.in_ok-push_words.ensures,
      c.in_ok-push_field-3.ensures,
      c.total.ensures,
      c.in_ok-push_field-2.ensures,
      c.in_ok-push_field.ensures,
      c.len.ensures,
      down,
      last,
    ) (simp append_assoc)
