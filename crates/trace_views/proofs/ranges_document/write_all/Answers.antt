use Rattle.std.proofs.Common.{◌≡◌, List, [], ◌∷◌, ◌++◌, ap, sym, ◌∙◌, append_assoc}
use Rattle.std.proofs.lemmas.List.{append-nil}
use Rattle.std.proofs.lemmas.List.Concat.{flat_map-append}
use Rattle.std.specs.List.{flat_map}
use Rattle.std.specs.Prelude.{codes}
use Rattle.json.specs.Token.{Token, begin_object, end_object}
use Rattle.predictions.specs.Starts.Ranges.{MigrationNumbers, RangesOfStarts}
use Rattle.trace_views.specs.Json.{member_of, object_of}
use Rattle.trace_views.specs.RangesJson.{counts_members, numbers_object}
use Rattle.trace_views.proofs.ranges_document.write_all.Goals as goal

abbrev joined : List (List Token) → List Token
joined members = flat_map (λ (m : List Token). m) members

in_a_row : (counts : List (List Token)) (least greatest : List Token)
    → object_of (counts ++ least ∷ greatest ∷ []) ≡ begin_object
    ∷ (joined counts ++ (least ++ (greatest ++ end_object ∷ [])))
in_a_row counts least greatest =
    let both : joined (counts ++ least ∷ greatest ∷ []) ≡ joined counts ++ (least ++ greatest) =
    flat_map-append (λ (m : List Token). m) counts (least ∷ greatest ∷ [])
    ∙ ap (λ (l : List Token). joined counts ++ (least ++ l)) (append-nil greatest) in
    ap (λ (l : List Token). begin_object ∷ (l ++ end_object ∷ [])) both
    ∙ ap (λ (l : List Token). begin_object ∷ l) (simp append_assoc)

written : (old a b c d e n1 n2 n3 n4 n5 : List Token)
    → n1 ≡ old ++ a → n2 ≡ n1 ++ b → n3 ≡ n2 ++ c → n4 ≡ n3 ++ d → n5 ≡ n4 ++ e
    → n5 ≡ old ++ (a ++ (b ++ (c ++ (d ++ e))))
written old a b c d e n1 n2 n3 n4 n5 e1 e2 e3 e4 e5 = rw (e5, e4, e3, e2, e1) (simp append_assoc)

pub returns : goal.returns
returns c =
    let old = c.args.out.now in
    let ranges = c.args.ranges.now in
    let counts = counts_members ranges in
    let low : c.ranges-2.inside.least ≡ ranges.least = ap (λ (r : RangesOfStarts). r.least) c.ranges-2.view_is in
    let high : c.ranges-2.inside.greatest ≡ ranges.greatest =
    ap (λ (r : RangesOfStarts). r.greatest) c.ranges-2.view_is in
    let least : MigrationNumbers → List Token = λ n. member_of (codes "least") (numbers_object n) in
    let greatest : MigrationNumbers → List Token = λ n. member_of (codes "greatest") (numbers_object n) in
    written old (begin_object ∷ []) (joined counts) (least ranges.least) (greatest ranges.greatest) (end_object ∷ [])
    c.begin_object.new.self c.write_counts.new.out c.write_named.new.out c.write_named-2.new.out c.end_object.new.self
    c.in_ok-begin_object.ensures c.in_ok-write_counts.ensures
    (c.in_ok-write_named.ensures ∙ ap (λ (n : MigrationNumbers). c.write_counts.new.out ++ least n) low)
    (c.in_ok-write_named-2.ensures ∙ ap (λ (n : MigrationNumbers). c.write_named.new.out ++ greatest n) high)
    c.in_ok-end_object.ensures
    ∙ ap (λ (l : List Token). old ++ l) (sym (in_a_row counts (least ranges.least) (greatest ranges.greatest)))
