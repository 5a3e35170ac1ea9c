use Rattle.std.proofs.Common.{ℕ, rules, refl, sym, ap, subst}
use Rattle.std.proofs.lemmas.List.Elements.{All-nil}
use Rattle.page_cache.specs.Cache.{AreKept, GuestPages, IsKept, KeptPage}
use Rattle.live_tasks.proofs.copier_state.CopierState.new.Goals as goal

pub returns-clause-state : goal.returns-clause-state
returns-clause-state c =
    λ trace. record {
      kept = subst (λ (pages : GuestPages). AreKept trace pages.entries) (sym c.in_ok-pages.ensures)
          (All-nil (λ (entry : ℕ × KeptPage). IsKept trace entry.0 entry.1));
      capacity_is = ap (λ (pages : GuestPages). pages.capacity) c.in_ok-pages.ensures;
      turns = search rules;
      lanes_are = refl;
    }
