-- What a caller of a step learns from its outcome.
use Rattle.std.proofs.Common.{◌≡◌, Result, Ok, Err, refl, ap, ◌∙◌}
use Rattle.std.specs.Prelude.{IfOk, IfErr, IsOk, OnErr, ◌↔◌, []}
use Rattle.dirty_core.specs.declared.event.Event.{Event}
use Rattle.dirty_core.specs.declared.answer.Answer.{Answer}
use Rattle.dirty_core.specs.declared.refusal.CoreRefusal.{CoreRefusal}
use Rattle.page_bitmap.specs.Pages.{no_page}
use Rattle.dirty_core.proofs.RealPages.{sizes-after}
use Rattle.dirty_core.specs.Kept.{Kept, kept_sizes, History, core_with, Goes, FindsNeeds, Refuses, Outcome}

-- a history of nothing
pub no_history : History
no_history = record { reads = λ copier. []; stores = λ guest. []; at_opening = no_page; returned = no_page }

pub done : (old : Kept) (event : Event) (r : Result Answer CoreRefusal) (new : Kept) → Outcome old event r new
    → IfOk r (λ answer. Goes old event answer new)
done old event (Ok answer) new goes = goes
done old event (Err refusal) new refused = tt

pub accepted : (old : Kept) (event : Event) (r : Result Answer CoreRefusal) (new : Kept) → Outcome old event r new
    → IsOk r ↔ FindsNeeds old event
accepted old event (Ok answer) new goes = (λ _ history. (goes history).1.needs, λ _. refl)
accepted old event (Err refusal) new refused =
    (λ ok. absurd cc, λ finds. absurd ((refused.1 no_history).unmet (finds no_history refusal)))

pub refuses : (old : Kept) (event : Event) (r : Result Answer CoreRefusal) (new : Kept) → Outcome old event r new
    → IfErr r (λ refusal. Refuses old event refusal)
refuses old event (Ok answer) new goes = tt
refuses old event (Err refusal) new refused = refused.1

pub unchanged : (old : Kept) (event : Event) (r : Result Answer CoreRefusal) (new : Kept) → Outcome old event r new
    → OnErr r (new ≡ old)
unchanged old event (Ok answer) new goes = tt
unchanged old event (Err refusal) new refused = refused.0

pub sizes : (old : Kept) (event : Event) (r : Result Answer CoreRefusal) (new : Kept) → Outcome old event r new
    → kept_sizes new ≡ kept_sizes old
sizes old event (Ok answer) new goes = ap (λ core. core.sizes) (goes no_history).1.leads
    ∙ sizes-after (core_with old no_history) event
sizes old event (Err refusal) new refused = ap kept_sizes refused.0
