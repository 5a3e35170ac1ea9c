use Rattle.std.proofs.Common.{Some, ap, nat_eq, sym, ◌∙◌}
use Rattle.lru.specs.LruCache.{put_entries}
use Rattle.page_cache.proofs.Entries.{kept_brought, kept_found, used_entries, used_found}
use Rattle.page_cache.proofs.recent.bring_kept.Goals as goal

pub bring_to-requires-clause-kept : goal.bring_to-requires-clause-kept
bring_to-requires-clause-kept g c =
    kept_found c.args.source.now c.args.kept.now.entries c.args.page c.in-Some.was.now
    c.requires.kept (sym c.in-Some.ensures.value)

pub returns-clause-kept : goal.returns-clause-kept
returns-clause-kept g c =
    kept_brought c.args.source.now c.args.kept.now.entries c.args.page c.args.version
    c.in-Some.was.now c.bring_to.new.self c.requires.kept (sym c.in-Some.ensures.value)
    c.requires.version c.bring_to.ensures

pub returns-clause-last : goal.returns-clause-last
returns-clause-last g c =
    λ _. used_found c.args.kept.now c.args.page c.in-Some.was.now c.bring_to.new.self (sym c.in-Some.ensures.value)
    ∙ ap Some c.bring_to.ensures

pub returns-clause-entries : goal.returns-clause-entries
returns-clause-entries g c =
    λ _. used_entries c.args.kept.now c.args.page c.in-Some.was.now c.bring_to.new.self (sym c.in-Some.ensures.value)
    ∙ ap (put_entries nat_eq c.args.kept.now c.args.page) c.bring_to.ensures
