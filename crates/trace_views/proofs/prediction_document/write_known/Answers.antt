use Rattle.std.proofs.Common.{List, [], ◌∷◌, ◌++◌, ap, ◌∙◌, append_assoc}
use Rattle.std.specs.Prelude.{codes}
use Rattle.json.specs.Token.{Token, key}
use Rattle.trace_views.specs.PredictionJson.{migration_object}
use Rattle.trace_views.proofs.prediction_document.write_known.Goals as goal

pub returns : goal.returns
returns c =
    let object = migration_object c.args.prediction.now c.args.errors.now in
    c.in_ok-write_foretold.ensures ∙ ap (λ (l : List Token). l ++ object) c.in_ok-key.ensures
    ∙ append_assoc c.args.out.now (key (codes "migration") ∷ []) object
