use Rattle.std.proofs.Common.{◌≡◌, ◌++◌, ◌∷◌, [], take}
use Rattle.std.specs.List.{flat_map}
use Rattle.trace_views.specs.Json.{number_token}
use Rattle.trace_views.proofs.report_document.write_pages.Given as goal

abbrev pub invariant-loop-page : goal.invariant-loop-page
invariant-loop-page l = l.out ≡ l.fn.out ++ flat_map (λ page. number_token page ∷ []) (take l.page-index l.pages)
