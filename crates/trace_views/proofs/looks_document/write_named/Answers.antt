use Rattle.std.proofs.Common.{List, [], ◌∷◌, ◌++◌, ap, ◌∙◌, append_assoc}
use Rattle.std.specs.Prelude.{codes}
use Rattle.json.specs.Token.{Token, key}
use Rattle.trace_views.specs.Json.{object_of}
use Rattle.trace_views.specs.LooksJson.{forecast_members}
use Rattle.trace_views.proofs.looks_document.write_named.Goals as goal

pub returns : goal.returns
returns c =
    let object = object_of (forecast_members c.args.forecast.now.end c.args.forecast.now) in
    c.in_ok-write_object.ensures ∙ ap (λ (l : List Token). l ++ object) c.in_ok-key.ensures
    ∙ append_assoc c.args.out.now (key (codes "like_qemu") ∷ []) object
