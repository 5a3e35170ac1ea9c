use Rattle.std.proofs.Common.{◌≡◌, List, [], ◌∷◌, ◌++◌, ap, sym, ◌∙◌, append_assoc}
use Rattle.std.proofs.lemmas.List.{append-nil}
use Rattle.std.specs.List.{flat_map}
use Rattle.std.specs.Prelude.{codes}
use Rattle.json.specs.Token.{Token, begin_array, begin_object, end_array, end_object, key}
use Rattle.trace_views.specs.Json.{object_of, seconds_member}
use Rattle.trace_views.specs.PlanJson.{plan_member}
use Rattle.trace_views.specs.StartsJson.{chosen_member, start_object}
use Rattle.trace_views.proofs.starts_document.write_facts.Goals as goal

-- the tokens of an object with these members, one after another
in_a_row : (limit plan starts best worst : List Token) (name : Token)
    → object_of (limit ∷ plan ∷ (name ∷ begin_array ∷ (starts ++ end_array ∷ [])) ∷ best ∷ worst ∷ [])
    ≡ begin_object ∷ (limit
    ++ (plan ++ (name ∷ begin_array ∷ (starts ++ (end_array ∷ (best ++ (worst ++ end_object ∷ [])))))))
in_a_row limit plan starts best worst name =
    let inner : (starts ++ end_array ∷ []) ++ (best ++ (worst ++ [])) ≡ starts ++ (end_array ∷ (best ++ worst)) =
    simp (append_assoc, append-nil) in
    let outer : (starts ++ (end_array ∷ (best ++ worst))) ++ end_object ∷ [] ≡ starts
    ++ (end_array ∷ (best ++ (worst ++ end_object ∷ []))) = simp append_assoc in
    simp (append_assoc, append-nil)

pub returns : goal.returns
returns c =
    let old = c.args.out.now in
    let limit = seconds_member (codes "limit_seconds") c.args.measure.now.limits.downtime in
    let plan = plan_member c.args.measure.now.manner in
    let starts = flat_map (start_object c.args.measure.now) c.args.costs.now in
    let best = chosen_member c.args.measure.now (codes "best") c.args.best.now in
    let worst = chosen_member c.args.measure.now (codes "worst") c.args.worst.now in
    let name = key (codes "starts") in
    let flat : c.end_object.new.self ≡ old ++ (begin_object ∷ (limit
    ++ (plan ++ (name ∷ begin_array ∷ (starts ++ (end_array ∷ (best ++ (worst ++ end_object ∷ [])))))))) =
    rw (
      c.in_ok-end_object.ensures,
      c.in_ok-write_chosen-2.ensures,
      c.in_ok-write_chosen.ensures,
      c.in_ok-end_array.ensures,
      c.in_ok-write_starts.ensures,
      c.in_ok-begin_array.ensures,
      c.in_ok-key.ensures,
      c.in_ok-write_plan.ensures,
      c.in_ok-seconds_member.ensures,
      c.in_ok-begin_object.ensures,
    ) (simp append_assoc) in
    flat ∙ ap (λ (l : List Token). old ++ l) (sym (in_a_row limit plan starts best worst name))
