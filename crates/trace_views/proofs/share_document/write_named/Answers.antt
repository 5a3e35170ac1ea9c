use Rattle.std.proofs.Common.{List, [], ◌∷◌, ◌++◌, ap, ◌∙◌, append_assoc}
use Rattle.std.specs.Prelude.{codes}
use Rattle.json.specs.Token.{Token, key}
use Rattle.trace_views.specs.ShareJson.{share_object}
use Rattle.trace_views.proofs.share_document.write_named.Goals as goal

pub returns : goal.returns
returns c =
    let object = share_object c.args.found.now in
    c.in_ok-write_found.ensures ∙ ap (λ (l : List Token). l ++ object) c.in_ok-key.ensures
    ∙ append_assoc c.args.out.now (key (codes "link_shares") ∷ []) object
