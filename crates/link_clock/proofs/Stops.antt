-- A plan by the clock of a link: its settings are in range, and it stops while the record lasts.
use Rattle.std.proofs.Common.{ℕ, ◌+◌, ◌-◌, ◌*◌, ◌<◌, ◌≤◌, ◌^◌, Option, None, Some, List, IfSome, inl, inr, arith}
use Rattle.std.specs.Option.{option_map}
use Rattle.std.proofs.lemmas.Bool.{cases_lt}
use Rattle.migration_model.specs.Looks.{AreHypervisorSettings, HypervisorSettings}
use Rattle.migration_model.specs.Touches.{GuestTouch}
use Rattle.look_planner.specs.Sums.{AreSums}
use Rattle.look_planner.specs.declared.sums.LookSums.{LookSums}
use Rattle.look_planner.proofs.Bounds.{low_sums_lem}
use Rattle.link_clock.specs.Links.{ChangingLink, IsSentBy, clock_at, sent_before}
use Rattle.link_clock.specs.Plans.{settings_by}
use Rattle.link_clock.proofs.Changes.{IsSound}
use Rattle.link_clock.proofs.Sending.{sent_bound, sent_more}
use Rattle.link_clock.proofs.Clocks.{behind, clock_early, clock_later}
use Rattle.std.proofs.lemmas.Nat.{mul-le}

-- ---- settings by the clock

base_is : (link : ChangingLink) (is : IsSound link) (base : Option ℕ) (start : ℕ)
    → IfSome base (λ tick. tick ≤ start) → IfSome (option_map (clock_at link) base) (λ tick. tick ≤ clock_at link start)
base_is link is None start order = tt
base_is link is (Some tick) start order = clock_later link is tick start order

pub settings_fit : (link : ChangingLink) (s : HypervisorSettings) → IsSound link → AreHypervisorSettings s
    → AreHypervisorSettings (settings_by link s)
settings_fit link s is are = record {
  rate_low = is.low;
  rate_high = is.high;
  window_high = are.window_high;
  threshold_low = are.threshold_low;
  threshold_high = are.threshold_high;
  looks_low = are.looks_low;
  end_high = omega (arith, clock_early link is s.end, are.end_high);
  start_high = clock_later link is s.start s.end are.start_high;
  base_high = base_is link is s.base s.start are.base_high;
}

-- ---- where a plan stops

pub sums_within : (pages : ℕ) (touches : List GuestTouch) (link : ChangingLink) (s : HypervisorSettings)
    (sums : LookSums) → pages ≤ 65_536 → IsSound link → AreHypervisorSettings s
    → AreSums pages touches (settings_by link s) sums → (sums.stop ≤ clock_at link (2 ^ 40)) × (sums.left ≤ 65_536)
sums_within pages touches link s sums few is fit are =
    let low = low_sums_lem pages touches (settings_by link s) sums few (settings_fit link s is fit) are in
    let end = clock_later link is s.end (2 ^ 40) fit.end_high in
    (omega (arith, low.stop_high, end), omega (arith, low.left, few))

-- ---- when that is, by the trace

module _ (link : ChangingLink) (is : IsSound link) where
  pub stop_early : (clock stop : ℕ) → clock ≤ clock_at link (2 ^ 40) → IsSentBy link (link.rate * clock) stop
      → stop ≤ 2 ^ 40
  stop_early clock stop early by = by.first (2 ^ 40) (behind link is clock (2 ^ 40) early)

  pub sum_fits : (stop left : ℕ) → stop ≤ 2 ^ 40 → left ≤ 65_536 → sent_before link stop + 1_000 * left ≤ 2 ^ 63
  sum_fits stop left early few =
      let bound = sent_bound link.rate link.rate 0 link.changes stop is.changes (omega arith) in
      let high = mul-le link.rate (stop - 0) 1_000_000 (2 ^ 40) is.high (omega (arith, early)) in
      omega (arith, bound, high, few)

  -- what is sent from the stop on is not sent before it
  pub stop_before : (stop later more : ℕ) → IsSentBy link (sent_before link stop + more) later → stop ≤ later
  stop_before stop later more by = elim (cases_lt later stop) [
    | inr after ↦ after
    | inl before ↦
        let less = sent_more link.rate link.rate 0 link.changes later stop is.changes is.low (omega arith) before in
        absurd (omega (arith, less, by.sent))
  ]
