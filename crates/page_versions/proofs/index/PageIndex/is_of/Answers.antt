use Rattle.page_versions.proofs.Stamps.{of_each_page}
use Rattle.page_versions.proofs.index.PageIndex.is_of.Goals as goal

pub returns-clause-each_page : goal.returns-clause-each_page
returns-clause-each_page g c =
    let pages = of_each_page c.args.self.now (g.W.WriteLog.trace c.args.trace.now) in
    ((λ t. pages.0 (c.has_touches_of.ensures.0 t)), (λ has. c.has_touches_of.ensures.1 (pages.1 has)))
