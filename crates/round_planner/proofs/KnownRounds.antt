-- Rounds that plans of one trace share: what a round does hangs on how it begins alone.
use Rattle.std.proofs.Common.{◌≡◌, ℕ, ◌≤◌, ◌&&◌, leb, Option, None, Some, List, [], ◌∷◌, ◌++◌, length, take, replicate}
use Rattle.std.proofs.Common.{sym, ap, subst, ◌∙◌, arith, ◌-◌, ◌⊎◌, inl, inr}
use Rattle.std.specs.Prelude.{IfSome}
use Rattle.std.proofs.lemmas.List.Elements.{All-replicate}
use Rattle.migration_model.specs.Rates.{MigrationSettings}
use Rattle.migration_model.specs.Rounds.{IsSent, NextRound, pages_lacking, round_after}
use Rattle.migration_model.specs.Touches.{GuestTouch, pages_written}
use Rattle.page_bitmap.specs.Listing.{word_count}
use Rattle.round_planner.specs.Indexing.{IsMarkedAt, IsTurned, RanTo}
use Rattle.round_planner.specs.Known.{AreKnown, BeginsSo, IsAhead, RunsSo, start_of, sums_of}
use Rattle.round_planner.specs.Steps.{IsAfter, numbers_after}
use Rattle.round_planner.specs.declared.known.Ahead.{Ahead}
use Rattle.round_planner.specs.declared.known.KnownRound.{KnownRound}
use Rattle.round_planner.specs.declared.known.RoundStart.{RoundStart}
use Rattle.round_planner.specs.declared.numbers.RoundSums.{RoundSums}
use Rattle.round_planner.specs.declared.step.After.TheVariants.{Go}
use Rattle.round_planner.specs.declared.step.Step.{Step}
use Rattle.round_planner.proofs.MarkedWays.{marked_next}
use Rattle.round_planner.proofs.Outcomes.{goes_further}
use Rattle.round_planner.proofs.Scans.{begun}

abbrev pub no_round : Option KnownRound
no_round = None

-- empty slots hold no round
pub none_known : (pages : ℕ) (touches : List GuestTouch) (known : List (Option KnownRound))
    → known ≡ replicate 64 no_round → AreKnown pages touches known
none_known pages touches known is = rw is (All-replicate
    (λ (slot : Option KnownRound). IfSome slot (λ round. RunsSo pages touches round.start (sums_of round))) 64 no_round
    tt)

-- what a round did, each round does that begins so
pub runs_so : (pages : ℕ) (touches : List GuestTouch) (s : MigrationSettings) (coming : NextRound) (start : RoundStart)
    (ran : RoundSums) → BeginsSo pages touches s coming start → RanTo pages touches s coming ran
    → RunsSo pages touches start ran
runs_so pages touches s coming start ran is r other next begins =
    let round = r.run.is_round in
    let skip : (s.skip && leb 1 coming.done) ≡ (other.skip && leb 1 next.done) = is.skip_is ∙ sym begins.skip_is in
    record {
      round = r.round;
      dirtied = r.dirtied;
      run = record {
        is_round = record {
          from_is = round.from_is ∙ is.from_is ∙ sym begins.from_is;
          rate_is = round.rate_is ∙ is.rate_is ∙ sym begins.rate_is;
          pages_are = round.pages_are ∙ is.pages_are ∙ sym begins.pages_are;
          sent = subst (λ b. IsSent b touches r.round.from r.round.rate r.round.pages r.round.sent) skip round.sent;
          to_is = round.to_is;
          dirtied_is = round.dirtied_is;
        };
        dirtied_are = r.run.dirtied_are;
        order = r.run.order;
        timed = r.run.timed;
        short = r.run.short;
        few = r.run.few;
        small = r.run.small;
      };
      to_is = r.to_is;
      sent_is = r.sent_is;
      dirtied_is = r.dirtied_is;
      bound = r.bound;
      point = r.point;
    }

-- the round that comes begins as its numbers say
pub begins_so : (pages : ℕ) (touches : List GuestTouch) (s : MigrationSettings) (ahead : Ahead)
    → (is : IsAhead pages touches s ahead)
    → BeginsSo pages touches s is.coming (start_of s ahead.numbers ahead.since)
begins_so pages touches s ahead is =
    let at = is.way.at in
    record {
      pages_are = is.pages_are ∙ ap (λ tick. pages_lacking pages touches ahead.since tick) (sym at.from_is);
      from_is = sym at.from_is;
      rate_is = sym at.rate_is;
      skip_is = ap (λ n. s.skip && leb 1 n) (sym at.done_is);
    }

-- the round that comes begins as its numbers say, and does this
pub runs_ahead : (pages : ℕ) (touches : List GuestTouch) (s : MigrationSettings) (ahead : Ahead) (start : RoundStart)
    (ran : RoundSums) → (is : IsAhead pages touches s ahead) → start ≡ start_of s ahead.numbers ahead.since
    → RanTo pages touches s is.coming ran → RunsSo pages touches start ran
runs_ahead pages touches s ahead start ran is begins r =
    runs_so pages touches s is.coming start ran (rw begins (begins_so pages touches s ahead is)) r

-- the round that comes does what is known
pub ran_known : (pages : ℕ) (touches : List GuestTouch) (s : MigrationSettings) (ahead : Ahead) (start : RoundStart)
    (ran : RoundSums) → (is : IsAhead pages touches s ahead) → start ≡ start_of s ahead.numbers ahead.since
    → RunsSo pages touches start ran → RanTo pages touches s is.coming ran
ran_known pages touches s ahead start ran is begins runs =
    runs s is.coming (rw begins (begins_so pages touches s ahead is))

pub order_so : (pages : ℕ) (touches : List GuestTouch) (s : MigrationSettings) (ahead : Ahead) (ran : RoundSums)
    → (is : IsAhead pages touches s ahead) → RanTo pages touches s is.coming ran → ahead.numbers.step.from ≤ ran.to
order_so pages touches s ahead ran is r =
    omega (arith, is.way.at.from_is, r.run.is_round.from_is, r.run.order, r.to_is)

pub timed_so : (pages : ℕ) (touches : List GuestTouch) (s : MigrationSettings) (ahead : Ahead) (ran : RoundSums)
    → (is : IsAhead pages touches s ahead) → RanTo pages touches s is.coming ran
    → (1 ≤ ran.to - ahead.numbers.step.from) ⊎ (ran.dirtied ≡ 0)
timed_so pages touches s ahead ran is r =
    let round = r.run.is_round in
    elim r.run.timed [
      | inl long ↦ inl (omega (arith, is.way.at.from_is, round.from_is, long, r.to_is))
      | inr none ↦ inr (r.dirtied_is ∙ ap length r.run.dirtied_are ∙ sym round.dirtied_is ∙ none)
    ]

-- since when the pages of the round after one were written
pages_next : (pages : ℕ) (touches : List GuestTouch) (s : MigrationSettings) (ahead : Ahead) (since : Option ℕ)
    (ran : RoundSums) → (is : IsAhead pages touches s ahead) → (r : RanTo pages touches s is.coming ran)
    → since ≡ Some ahead.numbers.step.from
    → pages_written pages touches r.round.from r.round.to ≡ pages_lacking pages touches since r.round.to
pages_next pages touches s ahead since ran is r since_is =
    let from : r.round.from ≡ ahead.numbers.step.from = r.run.is_round.from_is ∙ sym is.way.at.from_is in
    (λ i. pages_written pages touches (from i) r.round.to)
    ∙ ap (λ base. pages_lacking pages touches base r.round.to) (sym since_is)

order_next : (pages : ℕ) (touches : List GuestTouch) (s : MigrationSettings) (ahead : Ahead) (since : Option ℕ)
    (ran : RoundSums) → (is : IsAhead pages touches s ahead) → (r : RanTo pages touches s is.coming ran)
    → since ≡ Some ahead.numbers.step.from → IfSome since (λ tick. tick ≤ r.round.to)
order_next pages touches s ahead since ran is r since_is =
    let from : r.round.from ≡ ahead.numbers.step.from = r.run.is_round.from_is ∙ sym is.way.at.from_is in
    subst (λ (base : Option ℕ). IfSome base (λ tick. tick ≤ r.round.to)) (sym since_is)
    (omega (arith, r.run.order, from))

-- the round after one
pub ahead_next : (pages : ℕ) (touches : List GuestTouch) (s : MigrationSettings) (ahead next : Ahead)
    (ran : RoundSums) (step : Step) → (is : IsAhead pages touches s ahead)
    → RanTo pages touches s is.coming ran → IsAfter s ahead.numbers.step ran.to ran.dirtied (Go step)
    → next.numbers ≡ numbers_after ahead.numbers ran step → next.since ≡ Some ahead.numbers.step.from
    → IsAhead pages touches s next
ahead_next pages touches s ahead next ran step is r after numbers since =
    let way = goes_further pages touches s ahead.numbers is.coming is.rounds ran step is.in_range is.way r after in
    record {
      coming = round_after pages touches is.coming r.round step.rate;
      rounds = is.rounds ++ r.round ∷ [];
      way = rw numbers way;
      pages_are = pages_next pages touches s ahead next.since ran is r since;
      order = order_next pages touches s ahead next.since ran is r since;
      in_range = is.in_range;
    }

-- ---- with marks

-- a plan goes on with this round, of which these are the marks and the list
pub record IsMarkedAhead (pages : ℕ) (touches : List GuestTouch) (s : MigrationSettings) (ahead : Ahead)
    (marks room : List ℕ) : Type 0 where
  pub is : IsAhead pages touches s ahead
  pub at : IsMarkedAt pages touches s is.coming ahead.numbers marks room

-- the list of the round's pages
pub listed_anew : (pages : ℕ) (touches : List GuestTouch) (s : MigrationSettings) (ahead : Ahead) (count : ℕ)
    (room : List ℕ) → (is : IsAhead pages touches s ahead)
    → take count room ≡ pages_lacking pages touches ahead.since ahead.numbers.step.from
    → count ≡ length (pages_lacking pages touches ahead.since ahead.numbers.step.from)
    → is.coming.pages ≡ take ahead.numbers.listed room
listed_anew pages touches s ahead count room is list count_is =
    let at = is.way.at in
    let lacking : is.coming.pages ≡ pages_lacking pages touches ahead.since ahead.numbers.step.from = is.pages_are
    ∙ ap (λ tick. pages_lacking pages touches ahead.since tick) (sym at.from_is) in
    let listed : ahead.numbers.listed ≡ count = at.listed_is ∙ ap length lacking ∙ sym count_is in
    lacking ∙ sym list ∙ ap (λ n. take n room) (sym listed)

-- the round that is to be run, with no page marked
pub marked_here : (pages : ℕ) (touches : List GuestTouch) (s : MigrationSettings) (ahead : Ahead)
    (marks room : List ℕ) → (is : IsAhead pages touches s ahead)
    → (1 ≤ ahead.numbers.step.done → is.coming.pages ≡ take ahead.numbers.listed room) → length room ≡ pages
    → marks ≡ replicate (word_count pages) 0
    → IsMarkedAhead pages touches s ahead marks room
marked_here pages touches s ahead marks room is list len fresh =
    let at = is.way.at in
    record {
      is = is;
      at = record {
        at = at;
        list = λ later. list (omega (arith, later, at.done_is));
        room_len = len;
        scan = begun pages touches is.coming.from ahead.numbers.next marks at.bound at.point fresh;
      };
    }

-- the round after one
pub marked_ahead_next : (pages : ℕ) (touches : List GuestTouch) (s : MigrationSettings) (ahead next : Ahead)
    (ran : RoundSums) (step : Step) (marks room new_marks new_room : List ℕ)
    → (before : IsMarkedAhead pages touches s ahead marks room)
    → RanTo pages touches s before.is.coming ran → IsAfter s ahead.numbers.step ran.to ran.dirtied (Go step)
    → next.numbers ≡ numbers_after ahead.numbers ran step → next.since ≡ Some ahead.numbers.step.from
    → IsTurned pages touches ahead.numbers.step.from ran.to ran.dirtied ran.next new_marks new_room
    → length new_room ≡ pages
    → IsMarkedAhead pages touches s next new_marks new_room
marked_ahead_next pages touches s ahead next ran step marks room new_marks new_room before r after numbers since turned
    len =
    let is = before.is in
    let way = goes_further pages touches s ahead.numbers is.coming is.rounds ran step is.in_range is.way r after in
    record {
      is = record {
        coming = round_after pages touches is.coming r.round step.rate;
        rounds = is.rounds ++ r.round ∷ [];
        way = rw numbers way;
        pages_are = pages_next pages touches s ahead next.since ran is r since;
        order = order_next pages touches s ahead next.since ran is r since;
        in_range = is.in_range;
      };
      at = rw numbers (marked_next pages touches s ahead.numbers is.coming ran step new_marks new_room is.way.at r
          way.at turned len);
    }
