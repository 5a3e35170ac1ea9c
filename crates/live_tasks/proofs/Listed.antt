-- A copier's log with one more page.
use Rattle.std.proofs.Common.{◌≡◌, ℕ, ◌⊎◌, inl, inr, List, [], ◌∷◌, ◌++◌, map, sym, subst}
use Rattle.std.specs.List.{Contains}
use Rattle.std.proofs.lemmas.List.{map_push}
use Rattle.std.proofs.lemmas.List.Elements.{Contains-append_left, Contains-push, Contains-push_cases}
use Rattle.live_tasks.specs.RoundLogs.{RoundLogView, with_deferred, with_sent, with_skipped, IsListed}

abbrev pub pages_of : List (ℕ × ℕ) → List ℕ
pages_of sent = map (λ (s : ℕ × ℕ). s.0) sent

pub sent_pages : (page place : ℕ) (o : RoundLogView)
    → pages_of (with_sent page place o).sent ≡ pages_of o.sent ++ page ∷ []
sent_pages page place o = map_push (λ (s : ℕ × ℕ). s.0) o.sent (page, place)

pub in_sent : (page place q : ℕ) (o : RoundLogView) → Contains (pages_of (with_sent page place o).sent) q
    → (page ≡ q) ⊎ Contains (pages_of o.sent) q
in_sent page place q o there = elim (Contains-push_cases (pages_of o.sent) page q
    (subst (λ (xs : List ℕ). Contains xs q) (sent_pages page place o) there)) [
      | inl before ↦ inr before
      | inr e ↦ inl e
    ]

pub sent_before : (page place q : ℕ) (o : RoundLogView) → IsListed o q → IsListed (with_sent page place o) q
sent_before page place q o (inl there) =
    inl (subst (λ (xs : List ℕ). Contains xs q) (sym (sent_pages page place o))
    (Contains-append_left (pages_of o.sent) (page ∷ []) q there))
sent_before page place q o (inr there) = inr there

pub sent_now : (page place : ℕ) (o : RoundLogView) → IsListed (with_sent page place o) page
sent_now page place o = inl (subst (λ (xs : List ℕ). Contains xs page) (sym (sent_pages page place o))
    (Contains-push (pages_of o.sent) page))

pub sent_cases : (page place q : ℕ) (o : RoundLogView) → IsListed (with_sent page place o) q
    → (page ≡ q) ⊎ IsListed o q
sent_cases page place q o (inl there) = elim (in_sent page place q o there) [
  | inl e ↦ inl e
  | inr before ↦ inr (inl before)
]
sent_cases page place q o (inr there) = inr (inr there)

skipped_before : (page q : ℕ) (o : RoundLogView) → IsListed o q → IsListed (with_skipped page o) q
skipped_before page q o (inl there) = inl there
skipped_before page q o (inr (inl there)) = inr (inl (Contains-append_left o.skipped (page ∷ []) q there))
skipped_before page q o (inr (inr there)) = inr (inr there)

skipped_cases : (page q : ℕ) (o : RoundLogView) → IsListed (with_skipped page o) q → (page ≡ q) ⊎ IsListed o q
skipped_cases page q o (inl there) = inr (inl there)
skipped_cases page q o (inr (inl there)) = elim (Contains-push_cases o.skipped page q there) [
  | inl before ↦ inr (inr (inl before))
  | inr e ↦ inl e
]
skipped_cases page q o (inr (inr there)) = inr (inr (inr there))

deferred_before : (page q : ℕ) (o : RoundLogView) → IsListed o q → IsListed (with_deferred page o) q
deferred_before page q o (inl there) = inl there
deferred_before page q o (inr (inl there)) = inr (inl there)
deferred_before page q o (inr (inr there)) = inr (inr (Contains-append_left o.deferred (page ∷ []) q there))

deferred_cases : (page q : ℕ) (o : RoundLogView) → IsListed (with_deferred page o) q → (page ≡ q) ⊎ IsListed o q
deferred_cases page q o (inl there) = inr (inl there)
deferred_cases page q o (inr (inl there)) = inr (inr (inl there))
deferred_cases page q o (inr (inr there)) = elim (Contains-push_cases o.deferred page q there) [
  | inl before ↦ inr (inr (inr before))
  | inr e ↦ inl e
]

-- the page is listed beside those before
pub record Lists (page : ℕ) (before after : RoundLogView) : Type 0 where
  pub kept : (q : ℕ) → IsListed before q → IsListed after q
  pub here : IsListed after page
  pub cases : (q : ℕ) → IsListed after q → (page ≡ q) ⊎ IsListed before q

pub lists_skipped : (page : ℕ) (o : RoundLogView) → Lists page o (with_skipped page o)
lists_skipped page o = record {
  kept = λ q. skipped_before page q o;
  here = inr (inl (Contains-push o.skipped page));
  cases = λ q. skipped_cases page q o;
}

pub lists_deferred : (page : ℕ) (o : RoundLogView) → Lists page o (with_deferred page o)
lists_deferred page o = record {
  kept = λ q. deferred_before page q o;
  here = inr (inr (Contains-push o.deferred page));
  cases = λ q. deferred_cases page q o;
}
