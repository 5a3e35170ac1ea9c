use Rattle.std.proofs.Common.{◌≡◌, ◌+◌, ◌++◌, codes, append_assoc, arith, refl}
use Rattle.std.specs.List.{flat_map, range_with_len}
use Rattle.report_pictures.specs.Labels.{label_at, title_of}
use Rattle.report_pictures.specs.Svg.{placed_text}
use Rattle.report_pictures.proofs.axis.Axis.push_labels.Goals as goal

pub returns : goal.returns
returns c =
    let below : c.saturating_add.result ≡ c.args.bottom + 44 = omega arith in (
      flat_map (label_at c.args.self.now c.args.scale.now c.args.bottom c.step-step.result) (range_with_len 0 8)
          ++ placed_text (codes "middle") 490 (c.args.bottom + 44) (title_of c.args.scale.now),
      rw (c.in_ok-push_text.ensures, c.in_ok-push_steps.ensures, c.title.ensures, below) (simp append_assoc),
      record { step = c.step-step.result; is_step = c.step-step.ensures.step; text_is = refl },
    )
