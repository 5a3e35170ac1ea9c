use Rattle.std.proofs.Common.{◌≡◌, ℕ, ◌^◌, List, [], ◌∷◌, ◌++◌, ap, sym, subst, ◌∙◌, append_assoc}
use Rattle.std.specs.Prelude.{codes}
use Rattle.std.proofs.lemmas.List.{append-nil}
use Rattle.json.specs.Token.{Token, begin_object, end_object, key}
use Rattle.migration_model.specs.Rates.{MigrationSettings}
use Rattle.trace_views.specs.Json.{member_of, object_of, plan_members, report_object, sets_members, trace_object}
use Rattle.trace_views.specs.Json.{units_member}
use Rattle.trace_views.proofs.report_document.write_report.Goals as goal

-- the tokens of an object with these members, one after another
in_a_row : (trace units sets plan : List Token) → object_of (trace ∷ units ∷ sets ∷ plan ∷ []) ≡ begin_object
    ∷ (trace ++ (units ++ (sets ++ (plan ++ end_object ∷ []))))
in_a_row trace units sets plan = simp (append_assoc, append-nil)

-- what is written piece by piece
joined : (old a b c d e f g n1 n2 n3 n4 n5 n6 n7 : List Token)
    → n1 ≡ old ++ a → n2 ≡ n1 ++ b → n3 ≡ n2 ++ c → n4 ≡ n3 ++ d → n5 ≡ n4 ++ e → n6 ≡ n5 ++ f → n7 ≡ n6 ++ g
    → n7 ≡ old ++ (a ++ (b ++ (c ++ (d ++ (e ++ (f ++ g))))))
joined old a b c d e f g n1 n2 n3 n4 n5 n6 n7 e1 e2 e3 e4 e5 e6 e7 = rw (e7, e6, e5, e4, e3, e2, e1) (simp append_assoc)

pub returns : goal.returns
returns c =
    let old = c.args.out.now in
    let pages = c.args.shape.now.pages in
    let writes = c.args.shape.now.writes in
    let shape = c.args.shape.now.shift in
    let C : MigrationSettings → Type 0 = λ s. c.end_object.new.self ≡ old
    ++ report_object shape pages writes s c.args.scale.now c.args.tables.now c.args.plan.now in
    let trace : c.write_sizes.new.out ≡ c.key.new.self ++ trace_object pages (2 ^ shape) writes =
    c.in_ok-write_sizes.ensures ∙ ap (λ (size : ℕ). c.key.new.self ++ trace_object pages size writes)
    c.page_size.ensures in
    let t = member_of (codes "trace") (trace_object pages (2 ^ shape) writes) in
    let u = units_member c.args.scale.now c.asked.inside.window in
    let s = sets_members c.args.scale.now c.asked.inside.hot c.args.tables.now in
    let p = plan_members c.args.scale.now c.asked.inside.max c.args.plan.now in
    let row = joined old (begin_object ∷ []) (key (codes "trace") ∷ []) (trace_object pages (2 ^ shape) writes) u s p
    (end_object ∷ []) c.begin_object.new.self c.key.new.self c.write_sizes.new.out c.write_units.new.out
    c.write_sets.new.out c.write_plan.new.out c.end_object.new.self
    c.in_ok-begin_object.ensures c.in_ok-key.ensures trace c.in_ok-write_units.ensures c.in_ok-write_sets.ensures
    c.in_ok-write_plan.ensures c.in_ok-end_object.ensures in
    subst C (c.asked.view_is ∙ c.asked-asked.ensures.value) (row
    ∙ ap (λ (l : List Token). old ++ l) (sym (in_a_row t u s p)))
