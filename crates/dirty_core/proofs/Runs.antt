-- How far a run has come, and what one more event adds.
use Rattle.std.proofs.Common.{◌≡◌, ℕ, ◌+◌, ◌<◌, ◌≤◌, List, [], ◌∷◌, ◌++◌, length, get_or, take, sym, ap, subst, ◌∙◌}
use Rattle.std.proofs.Common.{inr}
use Rattle.std.proofs.lemmas.List.{take_more, take_all}
use Rattle.std.proofs.lemmas.Option.{slice_get-get_or}
use Rattle.dirty_core.specs.declared.event.Event.{Event}
use Rattle.dirty_core.specs.declared.answer.Answer.{Answer}
use Rattle.dirty_core.specs.declared.refusal.CoreRefusal.{CoreRefusal}
use Rattle.dirty_core.specs.Start.{Start, sizes_of}
use Rattle.dirty_core.specs.Machine.{DirtyCore, Needs, IsFirstRefusal, after}
use Rattle.dirty_core.specs.Kept.{Kept, kept_sizes, history_of, core_with, Keeps, Goes, Refuses}
use Rattle.dirty_core.specs.Runs.{opened, core_after, IsLegal, RunRefuses}
use Rattle.dirty_core.proofs.EveryPage.{core_after-push, IsLegalFrom-push}

-- the first `index` events were legal, and led to what is kept
pub record Reached (start : Start) (events : List Event) (index : ℕ) (kept : Kept) : Type 0 where
  pub legal : IsLegal start (take index events)
  pub leads : Keeps kept (core_after start (take index events))
  pub sizes : kept_sizes kept ≡ sizes_of start

-- what is kept of a core is kept of the core after an event too
Keeps-after : (old new : Kept) (event : Event) (answer : Answer) (core : DirtyCore) → Keeps old core
    → Goes old event answer new → Keeps new (after core event)
Keeps-after old new event answer core keeps goes =
    let gone = goes (history_of core) in
    let leads : core_with new gone.0 ≡ after core event = gone.1.leads ∙ ap (λ c. after c event) keeps in
    sym (ap (λ c. core_with new (history_of c)) leads) ∙ leads

Needs-kept : (old new : Kept) (event : Event) (answer : Answer) (core : DirtyCore) → Keeps old core
    → Goes old event answer new → Needs core event
Needs-kept old new event answer core keeps goes = subst (λ c. Needs c event) keeps (goes (history_of core)).1.needs

pub Reached-more : (start : Start) (events : List Event) (index : ℕ) (d : Event) (old new : Kept) (answer : Answer)
    → index < length events
    → Reached start events index old → Goes old (get_or events index d) answer new → kept_sizes new ≡ kept_sizes old
    → Reached start events (index + 1) new
Reached-more start events index d old new answer more reached goes same =
    let event : Event = get_or events index d in
    let core : DirtyCore = core_after start (take index events) in
    let next : take (index + 1) events ≡ take index events ++ event ∷ [] = take_more events index d more in
    record {
      legal = subst (λ es. IsLegal start es) (sym next)
          (IsLegalFrom-push (opened start) (take index events) event reached.legal
          (Needs-kept old new event answer core reached.leads goes));
      leads = subst (λ es. Keeps new (core_after start es)) (sym next)
          (subst (λ c. Keeps new c) (sym (core_after-push (opened start) (take index events) event))
          (Keeps-after old new event answer core reached.leads goes));
      sizes = same ∙ reached.sizes;
    }

pub Stops-reached : (start : Start) (events : List Event) (index : ℕ) (d : Event) (kept : Kept) (refusal : CoreRefusal)
    → index < length events
    → Reached start events index kept → Refuses kept (get_or events index d) refusal
    → RunRefuses start events (index, refusal)
Stops-reached start events index d kept refusal more reached refuses = inr (record {
  event = get_or events index d;
  there = slice_get-get_or events index d more;
  before = reached.legal;
  refused = subst (λ c. IsFirstRefusal c (get_or events index d) refusal) reached.leads
      (refuses (history_of (core_after start (take index events))));
})

-- at the end all events were legal, so what holds of every page holds
pub Reached-all : (start : Start) (events : List Event) (index : ℕ) (kept : Kept) → length events ≤ index
    → Reached start events index kept
    → IsLegal start events × Keeps kept (core_after start events)
Reached-all start events index kept past reached =
    let all = take_all index events past in
    (subst (λ es. IsLegal start es) all reached.legal, subst (λ es. Keeps kept (core_after start es)) all reached.leads)
