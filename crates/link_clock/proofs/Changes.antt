-- What changes of a link are like that it accepts.
use Rattle.std.proofs.Common.{◌≡◌, ℕ, ◌+◌, ◌≤◌, ◌^◌, ◌&&◌, Bool, true, false, not, cond, leb, List, [], ◌∷◌, refl, ap}
use Rattle.std.proofs.Common.{Option, None, Some, arith}
use Rattle.std.specs.Prelude.{⊤}
use Rattle.std.specs.Option.{option_map}
use Rattle.std.proofs.lemmas.Bool.{and_parts, leb-true}
use Rattle.link_clock.specs.Links.{ChangingLink, IsLink, fits, misfit_from}
use Rattle.link_clock.specs.declared.error.LinkError.{LinkError}
use Rattle.link_clock.specs.declared.error.LinkError.TheVariants.{Change, Rate}
use Rattle.link_clock.specs.declared.link.LinkChange.{LinkChange}

-- a change of a link of this rate, if the one before it is at a tick
pub record IsChange (rate from : ℕ) (change : LinkChange) : Type 0 where
  pub order : from ≤ change.tick
  pub early : change.tick ≤ 2 ^ 40
  pub some : 1 ≤ change.rate
  pub within : change.rate ≤ rate

abbrev pub AreChanges : ℕ → ℕ → List LinkChange → Type 0
AreChanges rate from [] = ⊤
AreChanges rate from (change ∷ later) = IsChange rate from change × AreChanges rate change.tick later

is_change : (rate from : ℕ) (change : LinkChange) → fits rate from change ≡ true → IsChange rate from change
is_change rate from change is =
    let within = leb 1 change.rate && leb change.rate rate in
    let order = and_parts (leb from change.tick) (leb change.tick (2 ^ 40) && within) is in
    let early = and_parts (leb change.tick (2 ^ 40)) within order.1 in
    let rates = and_parts (leb 1 change.rate) (leb change.rate rate) early.1 in
    record {
      order = leb-true from change.tick order.0;
      early = leb-true change.tick (2 ^ 40) early.0;
      some = leb-true 1 change.rate rates.0;
      within = leb-true change.rate rate rates.1;
    }

passed : (fit : Bool) (number : ℕ) (rest : Option ℕ) → cond fit rest (Some number) ≡ None → (fit ≡ true) × (rest ≡ None)
passed true number rest is = (refl, is)
passed false number rest is = absurd cc

pub changes_are : (rate from number : ℕ) (changes : List LinkChange) → misfit_from rate from number changes ≡ None
    → AreChanges rate from changes
changes_are rate from number [] is = tt
changes_are rate from number (change ∷ later) is =
    let parts = passed (fits rate from change) number (misfit_from rate change.tick (number + 1) later) is in
    (is_change rate from change parts.0, changes_are rate change.tick (number + 1) later parts.1)

accepted : (within : Bool) (misfit : Option ℕ) → cond (not within) (Some Rate) (option_map Change misfit) ≡ None
    → (within ≡ true) × (misfit ≡ None)
accepted true None is = (refl, refl)
accepted true (Some number) is = absurd cc
accepted false misfit is = absurd cc

pub record IsSound (link : ChangingLink) : Type 0 where
  pub low : 1 ≤ link.rate
  pub high : link.rate ≤ 1_000_000
  pub changes : AreChanges link.rate 0 link.changes

pub sound : (link : ChangingLink) → IsLink link → IsSound link
sound link is =
    let parts = accepted (leb 1 link.rate && leb link.rate 1_000_000) (misfit_from link.rate 0 0 link.changes) is in
    let rates = and_parts (leb 1 link.rate) (leb link.rate 1_000_000) parts.0 in
    record {
      low = leb-true 1 link.rate rates.0;
      high = leb-true link.rate 1_000_000 rates.1;
      changes = changes_are link.rate 0 0 link.changes parts.1;
    }
