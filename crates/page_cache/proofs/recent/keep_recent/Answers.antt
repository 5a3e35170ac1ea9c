use Rattle.std.proofs.Common.{ℕ, ◌-◌, Some, ap, nat_eq, subst, sym, take, ◌∙◌}
use Rattle.std.specs.Cmp.{nat_eq_equiv}
use Rattle.lru.specs.LruCache.{LruCache, lru_cache, put_entries}
use Rattle.lru.proofs.CallerLemmas.{lookup-put_entries}
use Rattle.page_cache.specs.Cache.{AreKept, KeptPage, page_with}
use Rattle.page_cache.proofs.Entries.{kept_put_at, new_entries}
use Rattle.page_cache.proofs.recent.keep_recent.Goals as goal

pub returns-in_err-bytes_into-clause-kept : goal.returns-in_err-bytes_into-clause-kept
returns-in_err-bytes_into-clause-kept g c = c.room_for_page-bytes.ensures.kept c.args.source.now
    c.bring_kept.ensures.kept

pub returns-in_err-put-clause-kept : goal.returns-in_err-put-clause-kept
returns-in_err-put-clause-kept g c =
    let trace = c.args.source.now in
    subst (λ (cache : LruCache ℕ KeptPage). AreKept trace cache.entries) (sym c.in_err-put.ensures.err)
    (c.room_for_page-bytes.ensures.kept trace c.bring_kept.ensures.kept)

pub returns-clause-kept : goal.returns-clause-kept
returns-clause-kept g c =
    let trace = c.args.source.now in
    rw c.in_ok-put.ensures.entries
    (kept_put_at trace c.room_for_page-bytes.new.kept c.args.page c.args.version
    (page_with c.args.version c.bytes_into.new.room.items)
    (c.room_for_page-bytes.ensures.kept trace c.bring_kept.ensures.kept) c.requires.page c.requires.version
    (ap (page_with c.args.version) c.in_ok-bytes_into.ensures))

pub returns-clause-last : goal.returns-clause-last
returns-clause-last g c =
    rw c.in_ok-put.ensures.entries
    (lookup-put_entries nat_eq c.room_for_page-bytes.new.kept c.args.page
    (page_with c.args.version c.bytes_into.new.room.items) nat_eq_equiv
    ∙ ap Some (ap (page_with c.args.version) c.in_ok-bytes_into.ensures))

pub returns-clause-entries : goal.returns-clause-entries
returns-clause-entries g c =
    let old = c.args.kept.now in
    let page = c.args.page in
    let none = c.bring_kept.ensures.none c.if-bring_kept.false in
    let room = c.room_for_page-bytes.ensures in
    let kept = page_with c.args.version c.bytes_into.new.room.items in
    ap (λ (cache : LruCache ℕ KeptPage). cache.entries) c.in_ok-put.ensures.entries
    ∙ ap (λ (cache : LruCache ℕ KeptPage). put_entries nat_eq cache page kept)
    ((λ i. lru_cache (room.entries i) (room.capacity i))
    ∙ ap (λ (cache : LruCache ℕ KeptPage). lru_cache (take (cache.cap - 1) cache.entries) cache.cap) none.0)
    ∙ new_entries old page kept none.1
    ∙ ap (λ bytes. put_entries nat_eq old page (page_with c.args.version bytes)) c.in_ok-bytes_into.ensures
