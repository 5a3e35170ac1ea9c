use Rattle.std.proofs.Common.{ℕ, ◌<◌, ◌^◌, sym, ap, subst, ◌∙◌}
use Rattle.migration_model.specs.Memory.{GuestMemory}
use Rattle.migration_jobs.proofs.Memories.{shown_large}
use Rattle.migration_jobs.proofs.shown.ShownMemoryPagedMemory.page_into.Goals as goal

pub resumed_page-requires-clause-page : goal.resumed_page-requires-clause-page
resumed_page-requires-clause-page c =
    let is = c.self.invariant in
    let large = shown_large c.self.inside.show c.self.inside.trace _ is.is_trace
    (record { shift = is.shift; pages = is.pages; len = is.len }) in
    subst (λ (n : ℕ). c.args.page < n) (sym (ap (λ (m : GuestMemory). m.pages) c.self.view_is) ∙ large.pages)
    c.requires.page

pub resumed_page-requires-clause-room : goal.resumed_page-requires-clause-room
resumed_page-requires-clause-room c =
    let is = c.self.invariant in
    let large = shown_large c.self.inside.show c.self.inside.trace _ is.is_trace
    (record { shift = is.shift; pages = is.pages; len = is.len }) in
    c.requires.long ∙ ap (λ (n : ℕ). 2 ^ n) (sym (ap (λ (m : GuestMemory). m.shift) c.self.view_is) ∙ large.shift)
