use Rattle.std.proofs.Common.{ℕ, ◌≤◌, List, length, leb, ap, ◌∙◌}
use Rattle.std.specs.List.{filter}
use Rattle.std.proofs.lemmas.List.Elements.{All-filter}
use Rattle.std.proofs.lemmas.Result.{on_ok_weaker}
use Rattle.page_versions.specs.Pages.{bytes_by}
use Rattle.page_versions.proofs.Places.{places_rise}
use Rattle.page_versions.proofs.Pages.{page_at_is, places_fit}
use Rattle.page_versions.proofs.index.PageIndex.bytes_into.Goals as goal

pub places_to-requires : goal.places_to-requires
places_to-requires g c = rw c.part.ensures (places_rise c.args.self.now.touches c.args.page)

pub put_bytes-requires : goal.put_bytes-requires
put_bytes-requires g c =
    let P : ℕ → Type 0 = λ v. (1 ≤ v) × (v ≤ length (g.W.WriteLog.trace c.args.trace.now).writes) in
    let page = places_fit (g.W.WriteLog.trace c.args.trace.now) c.args.self.now c.args.page c.requires.of in
    rw (c.places_to.ensures, c.part.ensures) (All-filter (λ v. leb v c.args.version) P _ page)

pub returns : goal.returns
returns g c =
    let places = c.places_to.ensures ∙ ap (λ (l : List ℕ). filter (λ (v : ℕ). leb v c.args.version) l) c.part.ensures in
    on_ok_weaker c.put_bytes.result (λ is. is ∙ ap (bytes_by (g.W.WriteLog.trace c.args.trace.now)) places
    ∙ page_at_is (g.W.WriteLog.trace c.args.trace.now) c.args.self.now c.args.page c.args.version
    c.put_bytes.ensures.is_trace c.requires.of c.requires.page) c.put_bytes.ensures.bytes
