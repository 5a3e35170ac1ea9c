-- A plan list by list, of which only the sums are kept: there are lists that have these numbers.
use Rattle.std.proofs.Common.{◌≡◌, ℕ, ◌+◌, ◌-◌, ◌≤◌, ◌<◌, ◌&&◌, List, [], ◌∷◌, ◌++◌, None, Some, length, ltb}
use Rattle.std.proofs.Common.{drop, take, min, refl, sym, ap, subst, ◌∙◌, inl, inr, arith}
use Rattle.std.specs.List.{list_all, slice_range}
use Rattle.std.proofs.Math.Bool.{and-true}
use Rattle.std.proofs.lemmas.Bool.{cases_lt, le-ltb, lt-ltb}
use Rattle.std.proofs.lemmas.List.{length-take-le, length_push, take-append-le, take_all}
use Rattle.std.proofs.lemmas.List.Folds.{list_all-append}
use Rattle.migration_model.specs.Looks.{HypervisorSettings, end_after}
use Rattle.migration_model.specs.Rates.{duration_of}
use Rattle.migration_model.specs.Touches.{GuestTouch}
use Rattle.migration_model.specs.Trace.{last_by}
use Rattle.migration_model.proofs.Order.{last_by-push}
use Rattle.look_planner.specs.Plans.{PlanNumbers, end_of, looks_of}
use Rattle.look_planner.specs.declared.parts.ListRow.{ListRow}
use Rattle.look_planner.proofs.Ways.{HasFound, IsOnWay, IsWhole, ends, goes, goes_on, row_with, starts}
use Rattle.look_planner.specs.Sums.{AreSums, has_more, shortens}
use Rattle.look_planner.specs.Bitmaps.{IsFirst, IsListed}
use Rattle.look_planner.specs.Pacing.{IsSentSo}
use Rattle.look_planner.specs.declared.bitmap.ListNumbers.{ListNumbers}
use Rattle.look_planner.specs.declared.pace.Sent.{Sent}
use Rattle.look_planner.specs.declared.summing.ListSums.{ListSums}
use Rattle.look_planner.specs.declared.sums.LookSums.{LookSums}

-- there are lists that have these sums; each but the first took a tick
pub record IsSummed (pages : ℕ) (touches : List GuestTouch) (s : HypervisorSettings) (now : ListNumbers)
    (room : List ℕ) (sums : ListSums) : Type 0 where
  pub rows : List ListRow
  pub on_way : IsOnWay pages touches s now room rows sums.sent
  pub lists_are : sums.lists ≡ length rows
  pub fewest : (n : ℕ) → n ≤ 65_536 → list_all (has_more n) (drop 1 rows) ≡ ltb n sums.fewest
  pub few : sums.lists + (1 - now.listed) ≤ now.from + 1

pub sums_start : (pages : ℕ) (touches : List GuestTouch) (s : HypervisorSettings) (now : ListNumbers) (room : List ℕ)
    (sums : ListSums) → IsFirst pages touches s now room → sums.lists ≡ 0 → sums.sent ≡ 0 → 65_536 < sums.fewest
    → IsSummed pages touches s now room sums
sums_start pages touches s now room sums first none nothing more = record {
  rows = [];
  on_way = subst (λ n. IsOnWay pages touches s now room [] n) (sym nothing)
      (starts pages touches s now room [] first refl);
  lists_are = none;
  fewest = λ n low. sym (lt-ltb n sums.fewest (omega (arith, low, more)));
  few = omega (arith, none);
}

-- a list of pages takes a tick, and if another comes it has pages
later_few : (from listed later_from later_listed to ticks end threshold lists : ℕ)
    → lists + (1 - listed) ≤ from + 1 → from + ticks ≤ end → threshold ≤ later_listed → 1 ≤ threshold
    → to ≡ min (from + ticks) end → (1 ≤ listed → 1 ≤ ticks) → later_from ≡ to
    → lists + 1 + (1 - later_listed) ≤ later_from + 1
later_few from listed later_from later_listed to ticks end threshold lists few within more low to_is moves is =
    elim (cases_lt 0 listed) [
      | inl some ↦ omega (arith, few, within, more, low, to_is, moves some, is)
      | inr none ↦ omega (arith, few, within, more, low, to_is, none, is)
    ]

-- a number that is below each of two
below_both : (n a b : ℕ) → (ltb n a && ltb n b) ≡ ltb n (min a b)
below_both n a b =
    elim (cases_lt n a) [
      | inl low ↦ elim (cases_lt n b) [
        | inl below ↦ ap (λ x. x && ltb n b) (lt-ltb n a low) ∙ lt-ltb n b below
            ∙ sym (lt-ltb n (min a b) (omega (arith, low, below)))
        | inr above ↦ ap (λ x. x && ltb n b) (lt-ltb n a low) ∙ le-ltb n b above
            ∙ sym (le-ltb n (min a b) (omega (arith, above)))
      ]
      | inr high ↦ ap (λ x. x && ltb n b) (le-ltb n a high) ∙ sym (le-ltb n (min a b) (omega (arith, high)))
    ]

-- one more list
fewest_more : (n fewest more : ℕ) (rows : List ListRow) (row : ListRow)
    → list_all (has_more n) (drop 1 rows) ≡ ltb n fewest → (length rows ≡ 0 → more ≡ fewest)
    → (1 ≤ length rows → more ≡ min fewest row.pages)
    → list_all (has_more n) (drop 1 (rows ++ row ∷ [])) ≡ ltb n more
fewest_more n fewest more [] row is first later = is ∙ ap (ltb n) (sym (first refl))
fewest_more n fewest more (head ∷ rows) row is first later =
    list_all-append (has_more n) rows (row ∷ [])
    ∙ ap (λ b. list_all (has_more n) rows && b) (and-true (has_more n row))
    ∙ ap (λ b. b && ltb n row.pages) is
    ∙ below_both n fewest row.pages
    ∙ ap (ltb n) (sym (later (omega arith)))

-- the lists between the first and the last
middle_of : (rows : List ListRow) (row : ListRow) → slice_range (rows ++ row ∷ []) 1 (length rows) ≡ drop 1 rows
middle_of [] row = refl
middle_of (head ∷ rows) row =
    let count : length (head ∷ rows) - 1 ≡ length rows = omega arith in
    ap (λ n. take n (rows ++ row ∷ [])) count
    ∙ take-append-le (length rows) rows (row ∷ []) (omega arith)
    ∙ take_all (length rows) rows (omega arith)

-- whether the last list has fewer pages than they have
last_of : (rows : List ListRow) (row : ListRow)
    → shortens (rows ++ row ∷ []) ≡ list_all (has_more row.pages) (drop 1 rows)
last_of rows row =
    let count : length (rows ++ row ∷ []) - 1 ≡ length rows = omega (arith, length_push rows row) in
    let pages : last_by (λ (r : ListRow). r.pages) (rows ++ row ∷ []) ≡ row.pages = last_by-push _ rows row in
    let middle = ap (slice_range (rows ++ row ∷ []) 1) count ∙ middle_of rows row in
    λ i. list_all (has_more (pages i)) (middle i)

pub sums_go_on : (pages : ℕ) (touches : List GuestTouch) (s : HypervisorSettings) (now later : ListNumbers)
    (sent : Sent) (room new_room : List ℕ) (sums more : ListSums) → IsSummed pages touches s now room sums
    → (so : IsSentSo s now.from now.listed sent) → HasFound pages touches now sent room new_room later.listed
    → end_after s (now.from + so.ticks) later.listed (sums.lists + 1) ≡ None → more.lists ≡ sums.lists + 1
    → more.sent ≡ sums.sent + sent.count → (sums.lists ≡ 0 → more.fewest ≡ sums.fewest)
    → (1 ≤ sums.lists → more.fewest ≡ min sums.fewest now.listed) → later.from ≡ sent.to
    → IsListed pages later.listed new_room → IsSummed pages touches s later new_room more
sums_go_on pages touches s now later sent room new_room sums more before so ran none lists all first others from
    listed =
    let way = before.on_way in
    let row : ListRow = row_with now sent later.listed in
    let new = before.rows ++ row ∷ [] in
    let count : sums.lists + 1 ≡ length new = omega (arith, before.lists_are, length_push before.rows row) in
    let told : end_after s (now.from + so.ticks) later.listed (length new) ≡ None =
    ap (λ n. end_after s (now.from + so.ticks) later.listed n) (sym count) ∙ none in
    let after = goes s (now.from + so.ticks) later.listed (sums.lists + 1) none in
    let few = later_few now.from now.listed later.from later.listed sent.to so.ticks s.end s.threshold sums.lists
    before.few after.0 after.1 way.in_range.threshold_low so.to_is so.moves from in
    record {
      rows = new;
      on_way = goes_on pages touches s now later sent room new_room before.rows new row sums.sent more.sent way so ran
          told refl refl all from listed;
      lists_are = lists ∙ count;
      fewest = λ n low. fewest_more n sums.fewest more.fewest before.rows row (before.fewest n low)
          (λ is. first (before.lists_are ∙ is)) (λ some. others (omega (arith, before.lists_are, some)));
      few = omega (arith, lists, few);
    }

pub sums_end : (pages : ℕ) (touches : List GuestTouch) (s : HypervisorSettings) (now : ListNumbers) (sent : Sent)
    (room rest : List ℕ) (left : ℕ) (before : ListSums) (sums : LookSums)
    → IsSummed pages touches s now room before → (so : IsSentSo s now.from now.listed sent)
    → HasFound pages touches now sent room rest left → left ≤ length rest
    → end_after s (now.from + so.ticks) left (before.lists + 1) ≡ Some (end_of sums.end)
    → sums.looks ≡ looks_of (end_of sums.end) (before.lists + 1) → sums.stop ≡ sent.to
    → sums.total ≡ before.sent + sent.count + left → sums.left ≡ left → sums.down ≡ duration_of left s.rate
    → sums.shortens ≡ ltb now.listed before.fewest → AreSums pages touches s sums
sums_end pages touches s now sent room rest left before sums summed so ran fits some looks stop all left_is down
    shorter =
    let row : ListRow = row_with now sent left in
    let new = summed.rows ++ row ∷ [] in
    let count : before.lists + 1 ≡ length new = omega (arith, summed.lists_are, length_push summed.rows row) in
    let told : end_after s (now.from + so.ticks) left (length new) ≡ Some (end_of sums.end) =
    ap (λ n. end_after s (now.from + so.ticks) left n) (sym count) ∙ some in
    let numbers : PlanNumbers = record {
      rows = new;
      end = end_of sums.end;
      stop = sent.to;
      last = take left rest;
      down = duration_of left s.rate;
      sent = before.sent + sent.count;
    } in
    let whole : IsWhole pages touches s numbers = ends pages touches s now sent room rest (take left rest) summed.rows
    new row before.sent (before.sent + sent.count) left (duration_of left s.rate) (end_of sums.end) summed.on_way so
    ran told refl refl refl refl refl in
    let here : length (take left rest) ≡ left = length-take-le left rest fits in
    let few : now.listed ≤ 65_536 = omega (arith, summed.on_way.listed.few, summed.on_way.listed.list.few) in
    record {
      numbers = numbers;
      are_numbers = whole.are;
      has_sums = record {
        end_is = refl;
        looks_is = looks ∙ ap (looks_of (end_of sums.end)) count;
        stop_is = stop;
        total_is = omega (arith, all, here);
        left_is = omega (arith, left_is, here);
        down_is = down;
        shortens_is = shorter ∙ sym (last_of summed.rows row ∙ summed.fewest now.listed few);
      };
    }
