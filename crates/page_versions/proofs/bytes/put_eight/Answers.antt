use Rattle.std.proofs.Common.{ℕ, ◌≤◌, length}
use Rattle.std.proofs.lemmas.List.Elements.{All-drop, All-take}
use Rattle.page_versions.proofs.Pages.{writes_fit}
use Rattle.page_versions.proofs.bytes.put_eight.Goals as goal

pub put_over-requires-clause-within : goal.put_over-requires-clause-within
put_over-requires-clause-within g c =
    let trace = g.W.WriteLog.trace c.args.trace.now in
    let P : ℕ → Type 0 = λ place. (1 ≤ place) × (place ≤ length trace.writes) in
    rw (c.look_up-earlier.ensures, c.split_at.ensures.front, c.shape-shape.ensures.shift)
    (writes_fit trace _ c.requires.is_trace (All-take P 4 c.args.places.now c.requires.places))

pub put_over-requires-2-clause-within : goal.put_over-requires-2-clause-within
put_over-requires-2-clause-within g c =
    let trace = g.W.WriteLog.trace c.args.trace.now in
    let P : ℕ → Type 0 = λ place. (1 ≤ place) × (place ≤ length trace.writes) in
    rw (c.look_up-later.ensures, c.split_at.ensures.back, c.shape-shape.ensures.shift)
    (writes_fit trace _ c.requires.is_trace (All-drop P 4 c.args.places.now c.requires.places))
