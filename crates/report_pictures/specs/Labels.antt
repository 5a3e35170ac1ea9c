-- The numbers below a panel: ticks, or times if it is known what a tick stands for. This project's own.
use Rattle.std.specs.Prelude.{◌≡◌, ℕ, ◌+◌, ◌-◌, ◌*◌, ◌/◌, ◌%◌, ◌^◌, ◌==◌, nat_le, ◌&&◌, min, Bool, if◌then◌else◌}
use Rattle.std.specs.Prelude.{List, [], ◌++◌, codes, Option, None, Some}
use Rattle.std.specs.Fmt.{decimal}
use Rattle.std.specs.List.{flat_map, range_with_len}
use Rattle.predictions.specs.Units.Scales.{TraceScale, micros_of}
use Rattle.report_pictures.specs.Axes.{IsStep, place_of}
use Rattle.report_pictures.specs.Svg.{area_of, placed_text, rect_text}
use Rattle.report_pictures.specs.declared.axis.Axis.{Axis}

-- where a tick is
abbrev pub place_on : Axis → ℕ → ℕ
place_on axis tick = place_of axis.first axis.last tick

-- a number, or the greatest tick that there is
abbrev pub capped : ℕ → ℕ
capped n = min n (2 ^ 64 - 1)

-- a time, in the largest unit in which the labels are whole numbers
abbrev pub time_label : ℕ → ℕ → List ℕ
time_label between micros =
    if between % 1_000_000 == 0 then decimal (micros / 1_000_000) ++ codes " s"
    else (if between % 1_000 == 0 then decimal (micros / 1_000) ++ codes " ms" else decimal micros ++ codes " us")

abbrev pub label_words : Option TraceScale → ℕ → ℕ → List ℕ
label_words None step tick = decimal tick
label_words (Some scale) step tick = time_label (micros_of scale step) (micros_of scale tick)

abbrev pub title_of : Option TraceScale → List ℕ
title_of None = codes "tick"
title_of (Some scale) = codes "time"

-- a mark and a label below it
unfoldable pub label_mark : Axis → Option TraceScale → ℕ → ℕ → ℕ → List ℕ
label_mark axis scale bottom step tick = rect_text (codes "line") (area_of (place_on axis tick) (bottom + 1) 1 5)
    ++ placed_text (codes "middle") (place_on axis tick) (bottom + 22) (label_words scale step tick)

-- the multiples of the step from where the axis begins, by their number; and what stands at one, if it is on the axis
abbrev pub label_tick : Axis → ℕ → ℕ → ℕ
label_tick axis step number = capped (capped (axis.first / step + number) * step)

abbrev pub is_on : Axis → ℕ → Bool
is_on axis tick = nat_le axis.first tick && nat_le tick axis.last

abbrev pub label_at : Axis → Option TraceScale → ℕ → ℕ → ℕ → List ℕ
label_at axis scale bottom step number =
    if is_on axis (label_tick axis step number) then label_mark axis scale bottom step (label_tick axis step number)
    else []

-- these are the labels of an axis, below a panel that ends at `bottom`, and its title
pub record AreLabels (axis : Axis) (scale : Option TraceScale) (bottom : ℕ) (text : List ℕ) : Type 0 where
  pub step : ℕ
  pub is_step : IsStep (axis.last - axis.first) step
  pub text_is : text ≡ flat_map (label_at axis scale bottom step) (range_with_len 0 8)
      ++ placed_text (codes "middle") 490 (bottom + 44) (title_of scale)
