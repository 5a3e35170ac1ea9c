-- A plan whose rounds are found by marks: the marks, and the rows of its rounds, between its rounds.
use Rattle.std.proofs.Common.{◌≡◌, ℕ, ◌+◌, ◌-◌, ◌<◌, ◌≤◌, List, [], ◌∷◌, ◌++◌, length, drop, set, map, take}
use Rattle.std.proofs.Common.{replicate, refl, sym, ap, subst, ◌∙◌, arith}
use Rattle.std.proofs.lemmas.List.{length-map, length_push, map-append}
use Rattle.migration_model.specs.Rates.{MigrationSettings, AreSettings, StopReason, stops, after_round, duration_of}
use Rattle.migration_model.specs.Rounds.{PlannedRound, NextRound, first_round}
use Rattle.migration_model.specs.Rounds.{round_after}
use Rattle.migration_model.specs.Sweeps.{PlanOutcome, outcome_with}
use Rattle.migration_model.specs.Touches.{GuestTouch, pages_written}
use Rattle.migration_model.proofs.Lists.{over_more}
use Rattle.page_bitmap.specs.Listing.{word_count}
use Rattle.round_planner.specs.Indexing.{IsFirst, StandsAt, RanTo, IsMarkedAt, IsTurned}
use Rattle.round_planner.specs.Rows.{IsPlanned, row_of, rows_over}
use Rattle.round_planner.specs.Scanning.{IsScan}
use Rattle.round_planner.specs.Steps.{IsAfter, numbers_after}
use Rattle.round_planner.specs.declared.step.After.TheVariants.{Go}
use Rattle.round_planner.specs.declared.step.Step.{Step}
use Rattle.round_planner.specs.declared.numbers.RoundSums.{RoundSums}
use Rattle.round_planner.specs.declared.numbers.RoundNumbers.{RoundNumbers}
use Rattle.round_planner.specs.declared.parts.RoundRow.{RoundRow}
use Rattle.round_planner.specs.Ways.{AreDone}
use Rattle.round_planner.proofs.Outcomes.{starts, goes_further, comes_to}
use Rattle.round_planner.proofs.Scans.{begun}

row_more : (rounds : List PlannedRound) (round : PlannedRound) (done : ℕ) (row : RoundRow) (old : List RoundRow)
    → length rounds ≡ done → done < length old → row ≡ row_of round
    → set (rows_over rounds old) done row ≡ rows_over (rounds ++ round ∷ []) old
row_more rounds round done row old count low is =
    let front : List RoundRow = map row_of rounds in
    let len : length front ≡ done = length-map rounds row_of ∙ count in
    let fit : length front < length old = omega (arith, len, low) in
    let pushed : length (rounds ++ round ∷ []) ≡ length (front ++ row_of round ∷ []) =
    omega (arith, length_push rounds round, length_push front (row_of round), count, len) in
    (λ i. set (front ++ drop (count i) old) done row)
    ∙ (λ i. set (front ++ drop (sym len i) old) (sym len i) (is i))
    ∙ over_more front old (row_of round) fit
    ∙ (λ i. (sym (map-append row_of rounds (round ∷ [])) i) ++ drop (sym pushed i) old)

-- the rounds so far, with marks for the next one and the rows of those that ran
pub record IsMarkedWay (pages : ℕ) (touches : List GuestTouch)
    (s : MigrationSettings) (now : RoundNumbers) (marks room : List ℕ) (old rows : List RoundRow) : Type 0 where
  pub coming : NextRound
  pub rounds : List PlannedRound
  pub way : AreDone pages touches s now coming rounds
  pub marked : IsMarkedAt pages touches s coming now marks room
  pub rows_are : rows ≡ rows_over rounds old

-- marks for the first round
pub marked_first : (pages : ℕ) (touches : List GuestTouch) (s : MigrationSettings) (now : RoundNumbers)
    (marks room : List ℕ)
    → IsFirst pages touches s now → marks ≡ replicate (word_count pages) 0 → length room ≡ pages
    → IsMarkedAt pages touches s (first_round pages touches s) now marks room
marked_first pages touches s now marks room first fresh len = record {
  at = first.at;
  list = λ later. absurd (omega (arith, later));
  room_len = len;
  scan = begun pages touches s.start now.next marks first.at.bound first.at.point fresh;
}

pub marks_start : (pages : ℕ) (touches : List GuestTouch) (s : MigrationSettings) (now : RoundNumbers)
    (marks room : List ℕ) (rows : List RoundRow)
    → IsFirst pages touches s now → marks ≡ replicate (word_count pages) 0 → length room ≡ pages
    → IsMarkedWay pages touches s now marks room rows rows
marks_start pages touches s now marks room rows first fresh len = record {
  coming = first_round pages touches s;
  rounds = [];
  way = starts pages touches s now first;
  marked = marked_first pages touches s now marks room first fresh len;
  rows_are = refl;
}

-- the row of a round, by the numbers that it is made of
pub record IsRowOf (now : RoundNumbers) (ran : RoundSums) (row : RoundRow) : Type 0 where
  pub from : row.from ≡ now.step.from
  pub to : row.to ≡ ran.to
  pub rate : row.rate ≡ now.step.rate
  pub list : row.pages ≡ now.listed
  pub sent : row.sent ≡ ran.sent
  pub dirtied : row.dirtied ≡ ran.dirtied

-- the row of a round that ran
row_is : (pages : ℕ) (touches : List GuestTouch) (s : MigrationSettings) (now : RoundNumbers) (coming : NextRound)
    (ran : RoundSums) (row : RoundRow) → StandsAt pages touches s coming now
    → (r : RanTo pages touches s coming ran) → IsRowOf now ran row → row ≡ row_of r.round
row_is pages touches s now coming ran row at r is =
    let round = r.run.is_round in
    let from : row.from ≡ r.round.from = is.from ∙ at.from_is ∙ sym round.from_is in
    let to : row.to ≡ r.round.to = is.to ∙ r.to_is in
    let rate : row.rate ≡ r.round.rate = is.rate ∙ at.rate_is ∙ sym round.rate_is in
    let list : row.pages ≡ length r.round.pages = is.list ∙ at.listed_is ∙ ap length (sym round.pages_are) in
    let sent : row.sent ≡ length r.round.sent = is.sent ∙ r.sent_is in
    let dirtied : row.dirtied ≡ r.round.dirtied = is.dirtied ∙ r.dirtied_is ∙ ap length r.run.dirtied_are
    ∙ sym round.dirtied_is in
    λ i. record { from = from i; to = to i; rate = rate i; pages = list i; sent = sent i; dirtied = dirtied i }

-- the rows with that of the round that ran last
rows_more : (pages : ℕ) (touches : List GuestTouch) (s : MigrationSettings) (now : RoundNumbers) (coming : NextRound)
    (rounds : List PlannedRound) (ran : RoundSums) (row : RoundRow)
    (old rows : List RoundRow) → AreDone pages touches s now coming rounds → (r : RanTo pages touches s coming ran)
    → IsRowOf now ran row → s.rounds ≤ length old
    → rows ≡ rows_over rounds old → set rows now.step.done row ≡ rows_over (rounds ++ r.round ∷ []) old
rows_more pages touches s now coming rounds ran row old rows way r is fits before =
    let low : now.step.done < length old = omega (arith, way.at.done_is, way.at.can.done_low, fits) in
    ap (λ (l : List RoundRow). set l now.step.done row) before
    ∙ row_more rounds r.round now.step.done row old way.count low
    (row_is pages touches s now coming ran row way.at r is)

-- the list for the round that comes after one
pub listed_next : (pages : ℕ) (touches : List GuestTouch) (s : MigrationSettings) (now : RoundNumbers)
    (coming : NextRound) (ran : RoundSums) (marks room : List ℕ) → StandsAt pages touches s coming now
    → (r : RanTo pages touches s coming ran)
    → IsTurned pages touches now.step.from ran.to ran.dirtied ran.next marks room
    → pages_written pages touches r.round.from r.round.to ≡ take ran.dirtied room
listed_next pages touches s now coming ran marks room at r turned =
    let from : now.step.from ≡ r.round.from = at.from_is ∙ sym r.run.is_round.from_is in
    sym (λ i. pages_written pages touches (from i) (r.to_is i)) ∙ sym turned.list

-- marks and the list for the round that comes after one
pub marked_next : (pages : ℕ) (touches : List GuestTouch) (s : MigrationSettings) (now : RoundNumbers)
    (coming : NextRound) (ran : RoundSums) (step : Step) (marks room : List ℕ) → StandsAt pages touches s coming now
    → (r : RanTo pages touches s coming ran)
    → StandsAt pages touches s (round_after pages touches coming r.round step.rate) (numbers_after now ran step)
    → IsTurned pages touches now.step.from ran.to ran.dirtied ran.next marks room → length room ≡ pages
    → IsMarkedAt pages touches s (round_after pages touches coming r.round step.rate) (numbers_after now ran step) marks
    room
marked_next pages touches s now coming ran step marks room at r next turned len = record {
  at = next;
  list = λ later. listed_next pages touches s now coming ran marks room at r turned;
  room_len = len;
  scan = subst (λ (tick : ℕ). IsScan pages touches tick tick ran.next marks) r.to_is turned.scan;
}

pub marks_go_on : (pages : ℕ) (touches : List GuestTouch) (s : MigrationSettings) (now : RoundNumbers) (ran : RoundSums)
    (step : Step) (row : RoundRow)
    (marks room new_marks new_room : List ℕ) (old rows : List RoundRow) → AreSettings s
    → (before : IsMarkedWay pages touches s now marks room old rows) → RanTo pages touches s before.coming ran
    → IsAfter s now.step ran.to ran.dirtied (Go step)
    → IsTurned pages touches now.step.from ran.to ran.dirtied ran.next new_marks new_room → length new_room ≡ pages
    → IsRowOf now ran row → s.rounds ≤ length old
    → IsMarkedWay pages touches s (numbers_after now ran step) new_marks new_room old (set rows now.step.done row)
marks_go_on pages touches s now ran step row marks room new_marks new_room old rows are before r after turned len is
    fits =
    let coming = before.coming in
    let next = goes_further pages touches s now coming before.rounds ran step are before.way r after in
    record {
      coming = round_after pages touches coming r.round step.rate;
      rounds = before.rounds ++ r.round ∷ [];
      way = next;
      marked = marked_next pages touches s now coming ran step new_marks new_room before.way.at r next.at turned len;
      rows_are = rows_more pages touches s now coming before.rounds ran row old rows before.way r is fits
          before.rows_are;
    }

pub marks_end : (pages : ℕ) (touches : List GuestTouch) (s : MigrationSettings) (now : RoundNumbers) (ran : RoundSums)
    (row : RoundRow) (reason : StopReason) (outcome : PlanOutcome)
    (marks room : List ℕ) (old rows : List RoundRow) → (before : IsMarkedWay pages touches s now marks room old rows)
    → RanTo pages touches s before.coming ran
    → after_round s ran.dirtied (ran.to - now.step.from) (now.step.done + 1) ≡ stops reason
    → outcome ≡ outcome_with (now.step.done + 1) reason ran.to (duration_of ran.dirtied s.max)
    ((now.total + ran.sent) + ran.dirtied) → IsRowOf now ran row → s.rounds ≤ length old
    → IsPlanned pages touches s outcome old (set rows now.step.done row)
marks_end pages touches s now ran row reason outcome marks room old rows before r after is row_of_it fits =
    let found = comes_to pages touches s now before.coming before.rounds ran reason outcome before.way r after is in
    record {
      plan = found.plan;
      is_plan = found.is_plan;
      outcome_is = found.outcome_is;
      rows_are = rows_more pages touches s now before.coming before.rounds ran row old rows before.way r row_of_it fits
          before.rows_are
          ∙ ap (λ (l : List PlannedRound). rows_over l old) (sym found.rounds_are);
    }
