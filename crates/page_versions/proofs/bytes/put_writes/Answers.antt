use Rattle.std.proofs.Common.{ℕ, ◌≤◌, length, ◌∙◌}
use Rattle.std.proofs.lemmas.List.Elements.{All-drop}
use Rattle.page_versions.proofs.Pages.{put_in_two}
use Rattle.page_versions.proofs.bytes.put_writes.Goals as goal

pub loop-rest-preserved : goal.loop-rest-preserved
loop-rest-preserved g c =
    let trace = g.W.WriteLog.trace c.args.trace.now in
    let rest = c.loop-rest.rest.now in
    let P : ℕ → Type 0 = λ place. (1 ≤ place) × (place ≤ length trace.writes) in
    record {
      room = c.put_eight.ensures.room;
      places = rw c.split_at-in-loop-rest.ensures.back (All-drop P c.min.result rest c.loop-rest.invariant.places);
      made = rw (c.put_eight.ensures.put, c.split_at-in-loop-rest.ensures.front, c.split_at-in-loop-rest.ensures.back)
          (put_in_two trace c.loop-rest.bytes c.min.result rest ∙ c.loop-rest.invariant.made);
    }
