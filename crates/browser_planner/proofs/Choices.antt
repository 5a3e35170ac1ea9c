-- The orders of starts that are lent.
use Rattle.std.proofs.Common.{◌≡◌, ℕ, ◌+◌, ◌<◌, Bool, true, false, List, [], ◌∷◌, length, get_or, refl, sym, ◌∙◌, arith}
use Rattle.std.specs.Cmp.{IsStrictWeakOrder}
use Rattle.std.specs.List.{IsFirstBest}
use Rattle.std.proofs.lemmas.List.{get_or_default}
use Rattle.std.proofs.lemmas.List.MinMax.{IsFirstBest-keeps, IsFirstBest-takes, IsFirstBest-unique}
use Rattle.predictions.proofs.Orders.{better_known_order, worse_known_order}
use Rattle.browser_planner.specs.Starts.{AreChosen, IsChoice, is_better_lent, is_worse_lent, start_in}
use Rattle.browser_planner.specs.declared.starts.LentChoice.{LentChoice}
use Rattle.browser_planner.specs.declared.starts.LentStart.{LentStart}

pub better_lents : (limit clark : ℕ) → IsStrictWeakOrder (is_better_lent limit clark)
better_lents limit clark = record {
  one_way = λ a b is. (better_known_order limit).one_way (start_in clark a) (start_in clark b) is;
  chain = λ a b c x y. (better_known_order limit).chain (start_in clark a) (start_in clark b)
      (start_in clark c) x y;
}

pub worse_lents : (limit clark : ℕ) → IsStrictWeakOrder (is_worse_lent limit clark)
worse_lents limit clark = record {
  one_way = λ a b is. (worse_known_order limit).one_way (start_in clark a) (start_in clark b) is;
  chain = λ a b c x y. (worse_known_order limit).chain (start_in clark a) (start_in clark b)
      (start_in clark c) x y;
}

no_start : LentStart
no_start = record {
  answer = record {
    rounds = 0;
    reason = 0;
    stop = 0;
    down = 0;
    total = 0;
    left = 0;
    time = 0;
    bytes = 0;
    downtime = 0;
    recorded = 0;
    converges = 0;
    kept = 0;
  };
  errors = record { bytes = 0; time = 0; downtime = 0; has_errors = 0 };
}

module _ {test : LentStart → LentStart → Bool} (order : IsStrictWeakOrder test) where
  -- the start at a place comes before the first so far, or does not
  pub takes : (xs : List LentStart) (i b : ℕ) → IsFirstBest test xs i b → i < length xs
      → ((d : LentStart) → test (get_or xs i d) (get_or xs b d) ≡ true) → IsFirstBest test xs (i + 1) i
  takes xs i b first low is =
      let x = get_or xs i no_start in
      let y = get_or xs b no_start in
      let inside : b < length xs = omega (arith, first.0, low) in
      IsFirstBest-takes order xs i b x y first low (get_or_default xs i no_start x low)
      (get_or_default xs b no_start y inside) (is no_start)

  pub keeps : (xs : List LentStart) (i b : ℕ) → IsFirstBest test xs i b → i < length xs
      → ((d : LentStart) → test (get_or xs i d) (get_or xs b d) ≡ false) → IsFirstBest test xs (i + 1) b
  keeps xs i b first low is =
      let x = get_or xs i no_start in
      let y = get_or xs b no_start in
      let inside : b < length xs = omega (arith, first.0, low) in
      IsFirstBest-keeps order xs i b x y first low (get_or_default xs i no_start x low)
      (get_or_default xs b no_start y inside) (is no_start)

-- ---- the choice

pub is_choice : (limit clark : ℕ) (starts : List LentStart) (old new : LentChoice) → AreChosen limit clark starts new
    → IsChoice limit clark starts old new
is_choice limit clark [] old new is = absurd (omega (arith, is.best.0))
is_choice limit clark (start ∷ starts) old new is = is

pub no_choice : (limit clark : ℕ) (starts : List LentStart) (old : LentChoice) → length starts ≡ 0
    → IsChoice limit clark starts old old
no_choice limit clark [] old none = refl
no_choice limit clark (start ∷ starts) old none = absurd (omega (arith, none))

pub one_choice_lem : (limit clark : ℕ) (starts : List LentStart) (old a b : LentChoice)
    → IsChoice limit clark starts old a → IsChoice limit clark starts old b → a ≡ b
one_choice_lem limit clark [] old a b x y = x ∙ sym y
one_choice_lem limit clark (start ∷ starts) old a b x y =
    let all : List LentStart = start ∷ starts in
    let best = IsFirstBest-unique (better_lents limit clark) all (length all) a.best b.best start x.best y.best in
    let worst = IsFirstBest-unique (worse_lents limit clark) all (length all) a.worst b.worst start x.worst y.worst in
    λ i. record { best = best i; worst = worst i }
