-- The stamps in words.
use Rattle.std.proofs.Common.{◌≡◌, ℕ, zero, suc, ◌+◌, ◌-◌, ◌≤◌, eqb, List, get_or, map, max, set, Option}
use Rattle.std.proofs.Common.{Some, None, sym, ap, ◌∙◌, arith}
use Rattle.std.proofs.lemmas.Bool.{cond-false, ne_eqb}
use Rattle.std.proofs.lemmas.List.{map-set}
use Rattle.std.proofs.Math.ListN.{get_or-map}
use Rattle.migration_model.specs.Trace.{GuestTrace}
use Rattle.stream_check.specs.Checked.{checked_with}
use Rattle.stream_check.specs.Stamps.{greater, stamp_of}
use Rattle.open_checks.specs.Kept.{known_by, stamp_in}

-- a word that is not 0 has a stamp
pub stamp_some : (word : ℕ) → 1 ≤ word → stamp_in word ≡ Some (word - 1)
stamp_some word some =
    cond-false (eqb word 0) None (Some (word - 1)) (ne_eqb word 0 (λ none. omega (arith, none, some)))

pub stamp_own : (stamp : ℕ) → stamp_in (stamp + 1) ≡ Some stamp
stamp_own stamp =
    let own : stamp + 1 - 1 ≡ stamp = omega arith in
    stamp_some (stamp + 1) (omega arith) ∙ ap (λ (n : ℕ). Some n) own

-- the greater of two words has the greater of the stamps
pub stamp_greater : (word stamp : ℕ) → stamp_in (max word (stamp + 1)) ≡ Some (greater (stamp_in word) stamp)
stamp_greater zero stamp =
    let same : max 0 (stamp + 1) ≡ stamp + 1 = omega arith in
    ap stamp_in same ∙ stamp_own stamp
stamp_greater (suc came) stamp =
    let same : max (suc came) (stamp + 1) ≡ max came stamp + 1 = omega arith in
    let own : suc came ≡ came + 1 = omega arith in
    ap stamp_in same ∙ stamp_own (max came stamp)
    ∙ sym (ap (λ (o : Option ℕ). Some (greater o stamp)) (ap stamp_in own ∙ stamp_own came))

-- the stamp of a page among those of all words
pub stamp_at : (words : List ℕ) (page : ℕ) → stamp_of (map stamp_in words) page ≡ stamp_in (get_or words page 0)
stamp_at words page = get_or-map stamp_in words page 0

-- what is known after one more frame, by its words
pub known_next : (trace : GuestTrace) (stop : ℕ) (last greatest : List ℕ) (page stamp : ℕ)
    → known_by trace stop (set last page (stamp + 1)) (set greatest page (max (get_or greatest page 0) (stamp + 1)))
    ≡ checked_with (known_by trace stop last greatest).shape stop (set (map stamp_in last) page (Some stamp))
    (set (map stamp_in greatest) page (Some (greater (stamp_of (map stamp_in greatest) page) stamp)))
known_next trace stop last greatest page stamp =
    let word : ℕ = get_or greatest page 0 in
    let shape = (known_by trace stop last greatest).shape in
    let last_is : map stamp_in (set last page (stamp + 1)) ≡ set (map stamp_in last) page (Some stamp) =
    map-set stamp_in last page (stamp + 1) ∙ ap (set (map stamp_in last) page) (stamp_own stamp) in
    let greatest_is : map stamp_in (set greatest page (max word (stamp + 1)))
    ≡ set (map stamp_in greatest) page (Some (greater (stamp_of (map stamp_in greatest) page) stamp)) =
    map-set stamp_in greatest page (max word (stamp + 1))
    ∙ ap (set (map stamp_in greatest) page) (stamp_greater word stamp
    ∙ ap (λ (o : Option ℕ). Some (greater o stamp)) (sym (stamp_at greatest page))) in
    λ i. checked_with shape stop (last_is i) (greatest_is i)
