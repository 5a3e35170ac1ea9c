-- The steps of a pass over a timeline, by the names that the code has for its parts.
use Rattle.std.proofs.Common.{◌≡◌, ℕ, ◌+◌, ◌<◌, ◌≤◌, List, [], ◌∷◌, length, get_or, drop, sym, ap, ◌∙◌}
use Rattle.std.proofs.lemmas.List.{drop_more, drop_all}
use Rattle.migration_model.specs.Rates.{MigrationSettings, AreSettings}
use Rattle.migration_model.specs.Touches.{GuestTouch, AreTouches}
use Rattle.migration_model.specs.Windows.{WorkingSets, working_sets_of}
use Rattle.working_sets.specs.Counting.{Counting, CanAdd, turned, written, started, finished}
use Rattle.working_sets.proofs.Pass.{Passes, Passes_start, Passes_next, can_add, finished_is}

-- a state that shows the first touches, in windows as the settings say
pub record PassesTo (pages : ℕ) (touches : List GuestTouch) (settings : MigrationSettings) (index : ℕ)
    (s : Counting) : Type 0 where
  pub passes : Passes pages settings.window touches (drop index touches) s

pub start_of_pass : (pages : ℕ) (touches : List GuestTouch) (settings : MigrationSettings) (s : Counting) (w count : ℕ)
    → AreSettings settings
    → s ≡ started w count → w ≡ settings.window → count ≡ pages → PassesTo pages touches settings 0 s
start_of_pass pages touches settings s w count are s_is w_is pages_is =
    record { passes = rw (s_is, w_is, pages_is) (Passes_start pages settings.window touches are.window_low) }

next_is : (touches : List GuestTouch) (index : ℕ) (touch d : GuestTouch) → index < length touches
    → touch ≡ get_or touches index d
    → drop index touches ≡ touch ∷ drop (index + 1) touches
next_is touches index touch d low is = drop_more touches index d low
    ∙ ap (λ (t : GuestTouch). t ∷ drop (index + 1) touches) (sym is)

pub ready_to_add : (pages : ℕ) (touches : List GuestTouch) (settings : MigrationSettings) (index : ℕ)
    (touch d : GuestTouch) (s : Counting) (tick page : ℕ)
    → AreTouches pages touches → pages ≤ 65_536 → AreSettings settings → PassesTo pages touches settings index s
    → index < length touches
    → touch ≡ get_or touches index d → tick ≡ touch.tick → page ≡ touch.page → CanAdd s tick page
ready_to_add pages touches settings index touch d s tick page fits few are p low is tick_is page_is =
    rw (tick_is, page_is) (can_add pages settings.window touches (drop (index + 1) touches) touch s fits few
    are.window_high
    (rw (next_is touches index touch d low is) at p.passes))

pub one_more_added : (pages : ℕ) (touches : List GuestTouch) (settings : MigrationSettings) (index : ℕ)
    (touch d : GuestTouch) (s new : Counting) (tick page : ℕ)
    → AreTouches pages touches → PassesTo pages touches settings index s → index < length touches
    → touch ≡ get_or touches index d → tick ≡ touch.tick → page ≡ touch.page → new ≡ written (turned s tick) page
    → PassesTo pages touches settings (index + 1) new
one_more_added pages touches settings index touch d s new tick page fits p low is tick_is page_is new_is =
    let made : new ≡ written (turned s touch.tick) touch.page = new_is
    ∙ (λ i. written (turned s (tick_is i)) (page_is i)) in
    record {
      passes = rw made (Passes_next pages settings.window touches (drop (index + 1) touches) touch s fits
          (rw (next_is touches index touch d low is) at p.passes));
    }

pub end_of_pass : (pages : ℕ) (touches : List GuestTouch) (settings : MigrationSettings) (index : ℕ) (s : Counting)
    (hot : ℕ) (tables : WorkingSets)
    → PassesTo pages touches settings index s → length touches ≤ index → hot ≡ settings.hot → tables ≡ finished s hot
    → tables ≡ working_sets_of pages touches settings
end_of_pass pages touches settings index s hot tables p high hot_is is =
    let all : Passes pages settings.window touches [] s = rw (drop_all index touches high) at p.passes in
    is ∙ ap (λ h. finished s h) hot_is ∙ finished_is pages touches settings s all
