-- The sums of a plan over a link are determined.
use Rattle.std.proofs.Common.{◌≡◌, ◌∙◌, ◌+◌, ◌*◌, ℕ, List, sym, ap, arith}
use Rattle.migration_model.specs.Looks.{HypervisorSettings}
use Rattle.migration_model.specs.Touches.{GuestTouch}
use Rattle.look_planner.specs.declared.sums.LookSums.{LookSums}
use Rattle.look_planner.proofs.OneSum.{one_set_of_sums}
use Rattle.link_clock.specs.Links.{ChangingLink, IsSentBy, sent_before, touches_by}
use Rattle.link_clock.specs.Plans.{AreLinkSums, settings_by}

one_tick : (link : ChangingLink) (m n a b : ℕ) → m ≡ n → IsSentBy link m a → IsSentBy link n b → a ≡ b
one_tick link m n a b same x y =
    let under = y.first a (omega (arith, same, x.sent)) in
    let over = x.first b (omega (arith, same, y.sent)) in
    omega (arith, under, over)

pub one_set_of_link_sums_lem : (pages : ℕ) (touches : List GuestTouch) (link : ChangingLink) (s : HypervisorSettings)
    (a b : LookSums) → AreLinkSums pages touches link s a → AreLinkSums pages touches link s b → a ≡ b
one_set_of_link_sums_lem pages touches link s a b x y =
    let same = one_set_of_sums pages (touches_by link touches) (settings_by link s) x.by_clock y.by_clock x.are_sums
    y.are_sums in
    let m = x.by_ticks in
    let n = y.by_ticks in
    let end = m.end_is ∙ ap (λ (l : LookSums). l.end) same ∙ sym n.end_is in
    let looks = m.looks_is ∙ ap (λ (l : LookSums). l.looks) same ∙ sym n.looks_is in
    let total = m.total_is ∙ ap (λ (l : LookSums). l.total) same ∙ sym n.total_is in
    let left = m.left_is ∙ ap (λ (l : LookSums). l.left) same ∙ sym n.left_is in
    let shortens = m.shortens_is ∙ ap (λ (l : LookSums). l.shortens) same ∙ sym n.shortens_is in
    let stop = one_tick link _ _ a.stop b.stop (ap (λ (l : LookSums). link.rate * l.stop) same) m.stop_is n.stop_is in
    let sent : sent_before link a.stop + 1_000 * a.left ≡ sent_before link b.stop + 1_000 * b.left =
    λ i. sent_before link (stop i) + 1_000 * left i in
    let over = one_tick link _ _ (a.stop + a.down) (b.stop + b.down) sent m.down_is n.down_is in
    let down : a.down ≡ b.down = omega (arith, over, stop) in
    λ i. record {
      end = end i;
      looks = looks i;
      stop = stop i;
      total = total i;
      left = left i;
      down = down i;
      shortens = shortens i;
    }
