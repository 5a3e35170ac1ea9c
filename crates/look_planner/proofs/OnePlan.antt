-- A guest has one plan.
use Rattle.std.proofs.Common.{◌≡◌, ℕ, ◌+◌, ◌-◌, min, Option, Some, None, List, [], ◌∷◌, length, MatchOption, sym, ap}
use Rattle.std.proofs.Common.{subst, ◌∙◌, inl, inr, arith}
use Rattle.std.proofs.lemmas.Bool.{cases_order}
use Rattle.migration_model.specs.Looks.{AreLists, HypervisorPlan, HypervisorSettings, IsHypervisorPlan, IsLook}
use Rattle.migration_model.specs.Looks.{IsPlanEnd}
use Rattle.migration_model.specs.Looks.{IsSentList, NextList, PlanEnd, SentList, end_after, first_list, list_after}
use Rattle.migration_model.specs.Looks.{pages_left, sent_in}
use Rattle.migration_model.specs.Rates.{duration_of}
use Rattle.migration_model.specs.Touches.{GuestTouch}

-- it looks once
pub one_look : (s : HypervisorSettings) (pages a b : ℕ) → IsLook s pages a → IsLook s pages b → a ≡ b
one_look s pages a b look_a look_b = elim (cases_order a b) [
  | inl same ↦ same
  | inr other ↦ elim other [
    | inl less ↦ absurd (omega (arith, look_a.few, look_b.first a look_a.asked less))
    | inr more ↦ absurd (omega (arith, look_b.few, look_a.first b look_b.asked more))
  ]
]

one_list : (s : HypervisorSettings) (now : NextList) (x y : ℕ) (a b : SentList) → x ≡ y → IsSentList s now x a
    → IsSentList s now y b → a ≡ b
one_list s now x y a b ticks is_a is_b =
    let from : a.from ≡ b.from = is_a.from_is ∙ sym is_b.from_is in
    let to : a.to ≡ b.to = is_a.to_is ∙ ap (λ t. min (now.from + t) s.end) ticks ∙ sym is_b.to_is in
    let list : a.pages ≡ b.pages = is_a.pages_are ∙ sym is_b.pages_are in
    let sent : a.sent ≡ b.sent = is_a.sent_is ∙ ap (λ t. sent_in s.rate (length now.pages) (t - now.from)) to
    ∙ sym is_b.sent_is in
    λ i. record { from = from i; to = to i; pages = list i; sent = sent i }

-- two plans that have the same lists and the same end
record AreSame (ps qs : List SentList) (p q : HypervisorPlan) : Type 0 where
  pub lists : ps ≡ qs
  pub end : p.end ≡ q.end
  pub stop : p.stop ≡ q.stop
  pub last : p.last ≡ q.last
  pub down : p.down ≡ q.down

same_end : (pages : ℕ) (touches : List GuestTouch) (s : HypervisorSettings) (list : SentList) (end : PlanEnd)
    (ps qs : List SentList) (p q : HypervisorPlan)
    → (ps ≡ []) × IsPlanEnd pages touches s list end p → (qs ≡ []) × IsPlanEnd pages touches s list end q
    → AreSame (list ∷ ps) (list ∷ qs) p q
same_end pages touches s list end ps qs p q end_p end_q =
    let last : p.last ≡ q.last = end_p.1.last_are ∙ sym end_q.1.last_are in
    record {
      lists = ap (λ (l : List SentList). list ∷ l) (end_p.0 ∙ sym end_q.0);
      end = end_p.1.end_is ∙ sym end_q.1.end_is;
      stop = end_p.1.stop_is ∙ sym end_q.1.stop_is;
      last = last;
      down = end_p.1.down_is ∙ ap (λ (l : List ℕ). duration_of (length l) s.rate) last ∙ sym end_q.1.down_is;
    }

same_after : (pages : ℕ) (touches : List GuestTouch) (s : HypervisorSettings) (now : NextList) (list : SentList)
    (ps qs : List SentList) (p q : HypervisorPlan)
    → (AreLists pages touches s (list_after pages touches now list) ps p
    → AreLists pages touches s (list_after pages touches now list) qs q → AreSame ps qs p q) → (after : Option PlanEnd)
    → MatchOption after (AreLists pages touches s (list_after pages touches now list) ps p)
    (λ end. (ps ≡ []) × IsPlanEnd pages touches s list end p)
    → MatchOption after (AreLists pages touches s (list_after pages touches now list) qs q)
    (λ end. (qs ≡ []) × IsPlanEnd pages touches s list end q)
    → AreSame (list ∷ ps) (list ∷ qs) p q
same_after pages touches s now list ps qs p q rest None is_p is_q =
    let tail = rest is_p is_q in
    record {
      lists = ap (λ (l : List SentList). list ∷ l) tail.lists;
      end = tail.end;
      stop = tail.stop;
      last = tail.last;
      down = tail.down;
    }
same_after pages touches s now list ps qs p q rest (Some end) is_p is_q =
    same_end pages touches s list end ps qs p q is_p is_q

same_lists : (pages : ℕ) (touches : List GuestTouch) (s : HypervisorSettings) (now : NextList) (ps qs : List SentList)
    (p q : HypervisorPlan) → AreLists pages touches s now ps p → AreLists pages touches s now qs q → AreSame ps qs p q
same_lists pages touches s now [] qs p q is_p is_q = absurd is_p
same_lists pages touches s now (a ∷ ps) [] p q is_p is_q = absurd is_q
same_lists pages touches s now (a ∷ ps) (b ∷ qs) p q is_p is_q =
    let ticks : is_p.0 ≡ is_q.0 = one_look s (length now.pages) is_p.0 is_q.0 is_p.1 is_q.1 in
    let same : a ≡ b = one_list s now is_p.0 is_q.0 a b ticks is_p.2 is_q.2 in
    let rest : AreLists pages touches s (list_after pages touches now a) ps p
    → AreLists pages touches s (list_after pages touches now a) qs q → AreSame ps qs p q =
    λ next_p next_q. same_lists pages touches s (list_after pages touches now a) ps qs p q next_p next_q in
    let After : ℕ → SentList → Type 0 = λ x list. MatchOption (end_after s (now.from + x)
    (length (pages_left pages touches list)) (now.done + 1))
    (AreLists pages touches s (list_after pages touches now list) qs q)
    (λ end. (qs ≡ []) × IsPlanEnd pages touches s list end q) in
    let after_x : After is_p.0 b = subst (λ (x : ℕ). After x b) (sym ticks) is_q.3 in
    let after_q : After is_p.0 a = subst (λ (list : SentList). After is_p.0 list) (sym same) after_x in
    let found : AreSame (a ∷ ps) (a ∷ qs) p q = same_after pages touches s now a ps qs p q rest
    (end_after s (now.from + is_p.0) (length (pages_left pages touches a)) (now.done + 1)) is_p.3 after_q in
    subst (λ (list : SentList). AreSame (a ∷ ps) (list ∷ qs) p q) same found

pub one_look_plan_lem : (pages : ℕ) (touches : List GuestTouch) (s : HypervisorSettings) (p q : HypervisorPlan)
    → IsHypervisorPlan pages touches s p → IsHypervisorPlan pages touches s q → p ≡ q
one_look_plan_lem pages touches s p q is_p is_q =
    let same = same_lists pages touches s (first_list pages touches s) p.lists q.lists p q is_p is_q in
    λ i. record {
      lists = same.lists i;
      end = same.end i;
      stop = same.stop i;
      last = same.last i;
      down = same.down i;
    }
