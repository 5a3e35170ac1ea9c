use Rattle.std.proofs.Common.{◌≡◌, ap, append_assoc}
use Rattle.std.proofs.lemmas.List.{append-nil}
use Rattle.predictions.specs.Starts.Ranges.{MigrationNumbers}
use Rattle.predictions.proofs.starts.range_text.push_spans.Goals as goal

pub returns : goal.returns
returns c =
    let low = c.least.view_is in
    let high = c.greatest.view_is in
    let bytes : c.least.inside.bytes ≡ c.args.least.now.bytes = ap (λ (n : MigrationNumbers). n.bytes) low in
    let time : c.least.inside.time ≡ c.args.least.now.time = ap (λ (n : MigrationNumbers). n.time) low in
    let down : c.least.inside.downtime ≡ c.args.least.now.downtime =
    ap (λ (n : MigrationNumbers). n.downtime) low in
    let most_bytes : c.greatest.inside.bytes ≡ c.args.greatest.now.bytes =
    ap (λ (n : MigrationNumbers). n.bytes) high in
    let most_time : c.greatest.inside.time ≡ c.args.greatest.now.time = ap (λ (n : MigrationNumbers). n.time) high in
    let most_down : c.greatest.inside.downtime ≡ c.args.greatest.now.downtime =
    ap (λ (n : MigrationNumbers). n.downtime) high in
    rw (
      c.in_ok-end_line.ensures,
      c.in_ok-push_time_span-2.ensures,
      c.in_ok-extend_from_slice-3.ensures.items,
      c.as_bytes-3.ensures.value,
      c.in_ok-push_time_span.ensures,
      c.in_ok-extend_from_slice-2.ensures.items,
      c.as_bytes-2.ensures.value,
      c.in_ok-push_bytes_span.ensures,
      c.in_ok-extend_from_slice.ensures.items,
      c.as_bytes.ensures.value,
      bytes,
      time,
      down,
      most_bytes,
      most_time,
      most_down,
    ) (simp (append_assoc, append-nil))
