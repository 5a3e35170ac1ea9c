use Rattle.std.proofs.Common.{◌≡◌, List, [], ◌∷◌, ◌++◌, ap, sym, ◌∙◌, append_assoc}
use Rattle.std.proofs.lemmas.List.{append-nil}
use Rattle.std.proofs.lemmas.List.Concat.{flat_map-append}
use Rattle.std.specs.List.{flat_map}
use Rattle.std.specs.Prelude.{codes}
use Rattle.json.specs.Token.{Token, begin_object, end_object, key}
use Rattle.predictions.specs.Predictions.{GuestPrediction}
use Rattle.trace_views.specs.Json.{object_of}
use Rattle.trace_views.specs.PredictionJson.{asked_members, hosts_object, outlook_members}
use Rattle.trace_views.proofs.prediction_document.write_prediction.Goals as goal

abbrev joined : List (List Token) → List Token
joined members = flat_map (λ (m : List Token). m) members

-- the tokens of an object with these members, one after another
in_a_row : (asked told : List (List Token)) (hosts : List Token) (name : Token)
    → object_of (asked ++ (told ++ (name ∷ hosts) ∷ [])) ≡ begin_object
    ∷ (joined asked ++ (joined told ++ (name ∷ (hosts ++ end_object ∷ []))))
in_a_row asked told hosts name =
    let rest = (name ∷ hosts) ∷ [] in
    let last : joined rest ≡ name ∷ hosts = ap (λ (l : List Token). name ∷ l) (append-nil hosts) in
    let both : joined (asked ++ (told ++ rest)) ≡ joined asked ++ (joined told ++ (name ∷ hosts)) =
    flat_map-append (λ (m : List Token). m) asked (told ++ rest)
    ∙ ap (λ (l : List Token). joined asked ++ l) (flat_map-append (λ (m : List Token). m) told rest
    ∙ ap (λ (l : List Token). joined told ++ l) last) in
    ap (λ (l : List Token). begin_object ∷ (l ++ end_object ∷ [])) both
    ∙ ap (λ (l : List Token). begin_object ∷ l) (simp append_assoc)

-- what is written piece by piece
written : (old a b c d e f n1 n2 n3 n4 n5 n6 : List Token)
    → n1 ≡ old ++ a → n2 ≡ n1 ++ b → n3 ≡ n2 ++ c → n4 ≡ n3 ++ d → n5 ≡ n4 ++ e → n6 ≡ n5 ++ f
    → n6 ≡ old ++ (a ++ (b ++ (c ++ (d ++ (e ++ f)))))
written old a b c d e f n1 n2 n3 n4 n5 n6 e1 e2 e3 e4 e5 e6 = rw (e6, e5, e4, e3, e2, e1) (simp append_assoc)

pub returns : goal.returns
returns c =
    let old = c.args.out.now in
    let manner = c.args.outlook.now.prediction.manner in
    let asked = asked_members c.args.settings.now c.args.scale.now c.args.limits.now manner in
    let told = outlook_members c.args.limits.now.downtime c.args.outlook.now in
    let hosts = hosts_object c.args.limits.now in
    let name = key (codes "hosts") in
    let same : c.prediction.inside.manner ≡ manner = ap (λ (p : GuestPrediction). p.manner) c.prediction.view_is in
    let written_asked : c.write_asked.new.out ≡ c.begin_object.new.self ++ joined asked = c.in_ok-write_asked.ensures
    ∙ ap (λ m. c.begin_object.new.self
    ++ joined (asked_members c.args.settings.now c.args.scale.now c.args.limits.now m)) same in
    written old (begin_object ∷ []) (joined asked) (joined told) (name ∷ []) hosts (end_object ∷ [])
    c.begin_object.new.self c.write_asked.new.out c.write_outlook.new.out c.key.new.self c.write_hosts.new.out
    c.end_object.new.self c.in_ok-begin_object.ensures written_asked c.in_ok-write_outlook.ensures
    c.in_ok-key.ensures c.in_ok-write_hosts.ensures c.in_ok-end_object.ensures
    ∙ ap (λ (l : List Token). old ++ l) (sym (in_a_row asked told hosts name))
