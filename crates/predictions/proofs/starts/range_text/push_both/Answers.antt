use Rattle.std.proofs.Common.{◌≡◌, ◌++◌, List, ℕ, ap, append_assoc, ◌∙◌}
use Rattle.predictions.specs.Starts.RangeTexts.{counts_line, spans_line}
use Rattle.predictions.specs.Starts.Ranges.{MigrationNumbers, RangesOfStarts}
use Rattle.predictions.proofs.starts.range_text.push_both.Goals as goal

both : (old counts spans first last : List ℕ) → first ≡ old ++ counts → last ≡ first ++ spans
    → last ≡ old ++ (counts ++ spans)
both old counts spans first last e f = rw (f, e) (append_assoc old counts spans)

pub returns : goal.returns
returns c =
    let same = c.ranges-2.view_is in
    let ranges = c.args.ranges.now in
    let low : c.ranges-2.inside.least ≡ ranges.least = ap (λ (r : RangesOfStarts). r.least) same in
    let high : c.ranges-2.inside.greatest ≡ ranges.greatest = ap (λ (r : RangesOfStarts). r.greatest) same in
    let first = c.push_counts.new.text.items in
    let spans = c.in_ok-push_spans.ensures
    ∙ ap (λ (n : MigrationNumbers). first ++ spans_line n c.ranges-2.inside.greatest) low
    ∙ ap (λ (n : MigrationNumbers). first ++ spans_line ranges.least n) high in
    both c.args.text.now.items (counts_line ranges) (spans_line ranges.least ranges.greatest) first
    c.push_spans.new.text.items c.in_ok-push_counts.ensures spans
