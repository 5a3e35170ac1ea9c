use Rattle.std.proofs.Common.{◌≡◌, List, [], ◌∷◌, ◌++◌, ap, sym, ◌∙◌, append_assoc}
use Rattle.std.proofs.lemmas.List.{append-nil}
use Rattle.std.proofs.lemmas.List.Concat.{flat_map-append}
use Rattle.std.specs.List.{flat_map}
use Rattle.json.specs.Token.{Token}
use Rattle.trace_views.specs.AgreementJson.{draws_member}
use Rattle.trace_views.specs.Enough.{is_sure}
use Rattle.trace_views.specs.EnoughJson.{enough_member}
use Rattle.trace_views.specs.PredictionJson.{answer_members, migration_member, told_member}
use Rattle.trace_views.specs.RangesJson.{ranges_member}
use Rattle.trace_views.specs.ShareJson.{share_member}
use Rattle.trace_views.proofs.prediction_document.write_outlook.Goals as goal

abbrev joined : List (List Token) → List Token
joined members = flat_map (λ (m : List Token). m) members

in_a_row : (answers : List (List Token)) (migration looks draws ranges share enough : List Token)
    → joined (answers ++ migration ∷ looks ∷ draws ∷ ranges ∷ share ∷ enough ∷ [])
    ≡ joined answers ++ (migration ++ (looks ++ (draws ++ (ranges ++ (share ++ enough)))))
in_a_row answers migration looks draws ranges share enough =
    flat_map-append (λ (m : List Token). m) answers (migration ∷ looks ∷ draws ∷ ranges ∷ share ∷ enough ∷ [])
    ∙ ap (λ (l : List Token). joined answers ++ (migration ++ (looks ++ (draws ++ (ranges ++ (share ++ l))))))
    (append-nil enough)

written : (old a b c d e f g n1 n2 n3 n4 n5 n6 n7 : List Token)
    → n1 ≡ old ++ a → n2 ≡ n1 ++ b → n3 ≡ n2 ++ c → n4 ≡ n3 ++ d → n5 ≡ n4 ++ e → n6 ≡ n5 ++ f → n7 ≡ n6 ++ g
    → n7 ≡ old ++ (a ++ (b ++ (c ++ (d ++ (e ++ (f ++ g))))))
written old a b c d e f g n1 n2 n3 n4 n5 n6 n7 e1 e2 e3 e4 e5 e6 e7 =
    rw (e7, e6, e5, e4, e3, e2, e1) (simp append_assoc)

pub returns : goal.returns
returns c =
    let old = c.args.out.now in
    let outlook = c.args.outlook.now in
    let answers = answer_members c.args.limit outlook.agreement outlook.prediction outlook.errors in
    let migration = migration_member c.args.outlook.now.prediction c.args.outlook.now.errors in
    let looks = told_member c.args.outlook.now in
    let draws = draws_member c.args.outlook.now.agreement.draws in
    let ranges = ranges_member c.args.outlook.now.ranges in
    let share = share_member c.args.outlook.now.share in
    let enough = enough_member (is_sure c.args.limit outlook) outlook.remedies in
    let written_enough : c.write_enough.new.out ≡ c.write_share.new.out ++ enough = c.in_ok-write_enough.ensures
    ∙ ap (λ sure. c.write_share.new.out ++ enough_member sure outlook.remedies) c.is_sure-sure.ensures in
    written old (joined answers) migration looks draws ranges share enough c.write_sure.new.out
    c.write_migration.new.out c.write_told.new.out c.write_draws.new.out c.write_ranges.new.out
    c.write_share.new.out c.write_enough.new.out
    c.in_ok-write_sure.ensures c.in_ok-write_migration.ensures c.in_ok-write_told.ensures
    c.in_ok-write_draws.ensures c.in_ok-write_ranges.ensures c.in_ok-write_share.ensures written_enough
    ∙ ap (λ (l : List Token). old ++ l) (sym (in_a_row answers migration looks draws ranges share enough))
