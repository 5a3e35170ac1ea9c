use Rattle.std.proofs.Common.{sym, ap, subst, ◌∙◌}
use Rattle.migration_model.specs.Memory.{GuestMemory, IsMemory}
use Rattle.migration_jobs.proofs.Memories.{large_memory, shown_large}
use Rattle.migration_jobs.proofs.shown.ShownMemoryPiecedMemory.shape.Goals as goal

pub returns-clause-shift : goal.returns-clause-shift
returns-clause-shift c =
    let is = c.self.invariant in
    let large = shown_large c.self.inside.show c.self.inside.trace _ is.is_trace
    (record { shift = is.shift; pages = is.pages; len = is.len }) in
    c.shape.ensures.shift ∙ sym large.shift ∙ ap (λ (m : GuestMemory). m.shift) c.self.view_is

pub returns-clause-pages : goal.returns-clause-pages
returns-clause-pages c =
    let is = c.self.invariant in
    let large = shown_large c.self.inside.show c.self.inside.trace _ is.is_trace
    (record { shift = is.shift; pages = is.pages; len = is.len }) in
    c.shape.ensures.pages ∙ sym large.pages ∙ ap (λ (m : GuestMemory). m.pages) c.self.view_is

pub returns-clause-is_memory : goal.returns-clause-is_memory
returns-clause-is_memory c =
    let is = c.self.invariant in
    let large = shown_large c.self.inside.show c.self.inside.trace _ is.is_trace
    (record { shift = is.shift; pages = is.pages; len = is.len }) in
    subst (λ (m : GuestMemory). IsMemory m.shift m.pages m.bytes) c.self.view_is
    (large_memory c.self.inside.trace _ is.is_trace large)
