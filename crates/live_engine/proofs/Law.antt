-- The law over rounds, kept with one more round.
use Rattle.std.proofs.Common.{◌≡◌, ℕ, ◌+◌, ◌<◌, ◌≤◌, inl, inr, Bool, true}
use Rattle.std.proofs.Common.{List, [], ◌∷◌, ◌++◌, length, take, sym, ap, subst, ◌∙◌}
use Rattle.std.proofs.Common.{arith}
use Rattle.std.specs.Prelude.{Option, slice_get}
use Rattle.std.proofs.lemmas.Bool.{cases_lt}
use Rattle.std.proofs.lemmas.List.{length-append}
use Rattle.std.proofs.lemmas.Option.{slice_get_within}
use Rattle.migration_model.specs.Trace.{GuestTrace}
use Rattle.migration_model.specs.Rounds.{PlannedRound}
use Rattle.migration_model.specs.Live.{LiveRound, KeepsLaw, LiveRounds}
use Rattle.live_engine.proofs.Pushed.{at_end, at_front, take_front, take_whole}

pub law_more : (trace : GuestTrace) (base : Option ℕ) (skip : Bool) (copiers lane : ℕ) (planned : List PlannedRound)
    (rounds : List LiveRound) (plan : PlannedRound) (round : LiveRound)
    → LiveRounds trace base skip copiers lane planned rounds
    → KeepsLaw trace base skip copiers lane planned rounds plan round
    → LiveRounds trace base skip copiers lane (planned ++ plan ∷ []) (rounds ++ round ∷ [])
law_more trace base skip copiers lane planned rounds plan round law keeps =
    let lp : length (planned ++ plan ∷ []) ≡ length planned + 1 = length-append planned (plan ∷ []) in
    let lr : length (rounds ++ round ∷ []) ≡ length rounds + 1 = length-append rounds (round ∷ []) in
    record {
      count = omega (arith, lp, lr, law.count);
      each = λ i p r p_there r_there.
          let low : i < length (planned ++ plan ∷ []) = slice_get_within (planned ++ plan ∷ []) i p p_there in
          let planned_take : i ≤ length planned → take i (planned ++ plan ∷ [])
          ≡ take i planned = λ le. take_front planned (plan ∷ []) i le in
          let rounds_take : i ≤ length rounds → take i (rounds ++ round ∷ [])
          ≡ take i rounds = λ le. take_front rounds (round ∷ []) i le in
          elim (cases_lt i (length planned)) [
            | inl inside ↦
                let inside_rounds : i < length rounds = omega (arith, inside, law.count) in
                let old = law.each i p r (at_front planned plan p i inside p_there)
                (at_front rounds round r i inside_rounds r_there) in
                subst (λ (ps : List PlannedRound). KeepsLaw trace base skip copiers lane ps
                (take i (rounds ++ round ∷ [])) p r) (sym (planned_take (omega (arith, inside))))
                (subst (λ (rs : List LiveRound). KeepsLaw trace base skip copiers lane (take i planned) rs p r)
                (sym (rounds_take (omega (arith, inside_rounds)))) old)
            | inr behind ↦
                let here : i ≡ length planned = omega (arith, behind, low, lp) in
                let here_rounds : i ≡ length rounds = here ∙ sym law.count in
                let p_is : plan ≡ p = at_end planned plan p
                (ap (slice_get (planned ++ plan ∷ [])) (sym here) ∙ p_there) in
                let r_is : round ≡ r = at_end rounds round r
                (ap (slice_get (rounds ++ round ∷ [])) (sym here_rounds) ∙ r_there) in
                let planned_is : take i (planned ++ plan ∷ []) ≡ planned = planned_take (omega (arith, here))
                ∙ ap (λ (k : ℕ). take k planned) here ∙ take_whole planned in
                let rounds_is : take i (rounds ++ round ∷ []) ≡ rounds = rounds_take (omega (arith, here_rounds))
                ∙ ap (λ (k : ℕ). take k rounds) here_rounds ∙ take_whole rounds in
                subst (λ (ps : List PlannedRound). KeepsLaw trace base skip copiers lane ps
                (take i (rounds ++ round ∷ [])) p r) (sym planned_is)
                (subst (λ (rs : List LiveRound). KeepsLaw trace base skip copiers lane planned rs p r) (sym rounds_is)
                (subst (λ (x : PlannedRound). KeepsLaw trace base skip copiers lane planned rounds x r) p_is
                (subst (λ (y : LiveRound). KeepsLaw trace base skip copiers lane planned rounds plan y) r_is
                keeps)))
          ];
    }

-- if skipping is on in one round it is on
pub law_of_all : (trace : GuestTrace) (base : Option ℕ) (now skip : Bool) (copiers lane : ℕ)
    (planned : List PlannedRound)
    (rounds : List LiveRound) (plan : PlannedRound) (round : LiveRound)
    → (now ≡ true → skip ≡ true) → KeepsLaw trace base now copiers lane planned rounds plan round
    → KeepsLaw trace base skip copiers lane planned rounds plan round
law_of_all trace base now skip copiers lane planned rounds plan round on is = record {
  sent_order = is.sent_order;
  skipped_order = is.skipped_order;
  deferred_order = is.deferred_order;
  apart = is.apart;
  deferred_apart = is.deferred_apart;
  defers = is.defers;
  due = is.due;
  only = is.only;
  stamps = is.stamps;
  skips = λ page skipped. let s = is.skips page skipped in (on s.0, s.1, s.2);
}
