use Rattle.std.proofs.Common.{◌≡◌, ◌+◌, ◌*◌, ◌^◌, ℕ, List, ap, get_or, max, set, ◌∙◌, arith}
use Rattle.migration_model.specs.Memory.{put}
use Rattle.migration_model.specs.Versions.{page_at}
use Rattle.open_traces.proofs.PageWalks.{version_within}
use Rattle.open_checks.specs.Kept.{kept_version}
use Rattle.open_checks.proofs.Kept.{IsKept-next}
use Rattle.open_checks.proofs.unstamped.take_bytes.Goals as goal

pub overflow_add-greatest : goal.overflow_add-greatest
overflow_add-greatest c =
    let version : ℕ = c.in-Some.version in
    let within = version_within c.args.trace.now c.args.page version c.in-Some.ensures.found.fits.is_version in
    omega (arith, within, c.shape.ensures.writes, c.shape.result.writes_high)

pub returns-in-Some-clause-kept : goal.returns-in-Some-clause-kept
returns-in-Some-clause-kept c =
    let trace = c.args.trace.now in
    let page = c.args.page in
    let greatest : List ℕ = c.args.greatest.now in
    let version : ℕ = c.in-Some.version in
    let fits = c.in-Some.ensures.found.fits in
    let word : version + 1 ≡ max (get_or greatest page 0) (version + 1) =
    omega (arith, c.saturating_sub-from.ensures, fits.late) in
    let later : version ≡ max (kept_version greatest page) version =
    omega (arith, c.saturating_sub-from.ensures, fits.late) in
    IsKept-next trace greatest c.args.memory.now (set greatest page (version + 1)) c.turn_in_memory.new.memory page
    version c.shape.ensures.is_trace c.requires.kept c.requires.page fits.is_version (ap (set greatest page) word)
    (c.in-Some.ensures.made
    ∙ ap (λ (v : ℕ). put c.args.memory.now (page * 2 ^ trace.shift) (page_at trace page v)) later)
