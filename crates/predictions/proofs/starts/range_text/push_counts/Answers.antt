use Rattle.std.proofs.Common.{◌≡◌, ap, append_assoc}
use Rattle.std.proofs.lemmas.List.{append-nil}
use Rattle.predictions.specs.Starts.Ranges.{RangesOfStarts}
use Rattle.predictions.proofs.starts.range_text.push_counts.Goals as goal

pub returns : goal.returns
returns c =
    let same = c.ranges-2.view_is in
    let count : c.ranges-2.inside.count ≡ c.args.ranges.now.count = ap (λ (r : RangesOfStarts). r.count) same in
    let known : c.ranges-2.inside.known ≡ c.args.ranges.now.known = ap (λ (r : RangesOfStarts). r.known) same in
    let converging : c.ranges-2.inside.converging ≡ c.args.ranges.now.converging =
    ap (λ (r : RangesOfStarts). r.converging) same in
    let kept : c.ranges-2.inside.kept ≡ c.args.ranges.now.kept = ap (λ (r : RangesOfStarts). r.kept) same in
    rw (
      c.in_ok-end_line.ensures,
      c.in_ok-push_field-4.ensures,
      c.in_ok-push_field-3.ensures,
      c.in_ok-push_field-2.ensures,
      c.in_ok-push_field.ensures,
      count,
      known,
      converging,
      kept,
    ) (simp (append_assoc, append-nil))
