-- Texts that were taken from lanes, and sent on them.
use Rattle.std.proofs.Common.{◌≡◌, ℕ, zero, suc, ◌<◌, ◌⊎◌, inl, inr, List, [], ◌∷◌, ◌++◌, length, get_or, set, refl}
use Rattle.std.proofs.Common.{sym, ap, subst, ◌∙◌, arith}
use Rattle.std.specs.List.{Any, Contains, slice_get}
use Rattle.std.proofs.lemmas.Bool.{cases_eq}
use Rattle.std.proofs.lemmas.List.{length-set, length-append, get_or-set_same, get_or-set_other, get_or_append_left}
use Rattle.std.proofs.lemmas.List.{get_or_default, nil_from_length}
use Rattle.std.proofs.lemmas.List.Elements.{Contains-append_left, Contains-append_right, Contains-append_cases}
use Rattle.std.proofs.lemmas.List.Elements.{Contains-push, Contains-push_cases}
use Rattle.std.proofs.lemmas.List.Quantifiers.{Any-push}
use Rattle.stream_lanes.specs.Ends.{OutView, InView, IsSentOn, IsTakenFrom}
use Rattle.stream_receivers.specs.Receivers.{AreEnds}

-- ---- an element of a list with one more

any_first : {X : Type 0} (P : X → Type 0) (x : X) (xs : List X) → P x → Any P (x ∷ xs)
any_first P x xs p = (0, x, omega arith, refl, p)

any_rest : {X : Type 0} (P : X → Type 0) (x : X) (xs : List X) → Any P xs → Any P (x ∷ xs)
any_rest P x xs a = let low = a.2 in (suc a.0, a.1, omega (arith, low), a.3, a.4)

any_cases : {X : Type 0} (P : X → Type 0) (x : X) (xs : List X) → Any P (x ∷ xs) → P x ⊎ Any P xs
any_cases P x xs (zero, y, low, is, p) = inl (subst P (sym is) p)
any_cases P x xs (suc k, y, low, is, p) = inr (k, y, omega (arith, low), is, p)

any_before : {X : Type 0} (P : X → Type 0) (xs : List X) (y : X) → Any P xs → Any P (xs ++ y ∷ [])
any_before P xs y a =
    let low = a.2 in
    (a.0, a.1, omega (arith, low, length-append xs (y ∷ [])), get_or_append_left xs (y ∷ []) a.1 a.0 low ∙ a.3, a.4)

any_push_cases : {X : Type 0} (P : X → Type 0) (xs : List X) (y : X) → Any P (xs ++ y ∷ []) → Any P xs ⊎ P y
any_push_cases P [] y a = elim (any_cases P y [] a) [ inl p ↦ inr p | inr none ↦ inl none ]
any_push_cases P (x ∷ xs) y a = elim (any_cases P x (xs ++ y ∷ []) a) [
  | inl p ↦ inl (any_first P x xs p)
  | inr later ↦ elim (any_push_cases P xs y later) [
    | inl before ↦ inl (any_rest P x xs before)
    | inr last ↦ inr last
  ]
]

-- ---- one more text was taken from one lane

pub taken_before : (ends : List InView) (worker : ℕ) (before after : InView) (text : List ℕ) → worker < length ends
    → before ≡ get_or ends worker before
    → after.taken ≡ before.taken ++ text ∷ [] → (t : List ℕ) → IsTakenFrom ends t
    → IsTakenFrom (set ends worker after) t
taken_before ends worker before after text low there grown t a = elim (cases_eq a.0 worker) [
  | inl e ↦
      let same : a.1 ≡ before = (let is = a.3 in sym is ∙ ap (λ k. get_or ends k a.1) e
      ∙ get_or_default ends worker a.1 before low ∙ sym there) in
      let c : Contains before.taken t = subst (λ (x : InView). Contains x.taken t) same a.4 in (
        worker,
        after,
        omega (arith, low, length-set ends worker after),
        get_or-set_same ends worker after after low,
        subst (λ (texts : List (List ℕ)). Contains texts t) (sym grown)
            (Contains-append_left before.taken (text ∷ []) t c),
      )
  | inr apart ↦
      let within = a.2 in (
        a.0,
        a.1,
        omega (arith, within, length-set ends worker after),
        get_or-set_other ends worker a.0 after a.1 apart
            ∙ a.3,
        a.4,
      )
]

pub taken_cases : (ends : List InView) (worker : ℕ) (before after : InView) (text : List ℕ) → worker < length ends
    → before ≡ get_or ends worker before
    → after.taken ≡ before.taken ++ text ∷ [] → (t : List ℕ) → IsTakenFrom (set ends worker after) t
    → IsTakenFrom ends t ⊎ (t ≡ text)
taken_cases ends worker before after text low there grown t a = elim (cases_eq a.0 worker) [
  | inl e ↦
      let same : a.1 ≡ after = (let is = a.3 in sym is ∙ ap (λ k. get_or (set ends worker after) k a.1) e
      ∙ get_or-set_same ends worker after a.1 low) in
      let c : Contains (before.taken ++ text ∷ []) t = subst (λ (texts : List (List ℕ)). Contains texts t) grown
      (subst (λ (x : InView). Contains x.taken t) same a.4) in
      elim (Contains-push_cases before.taken text t c) [
        | inl earlier ↦ inl (worker, before, low, sym there, earlier)
        | inr last ↦ inr (sym last)
      ]
  | inr apart ↦
      let within = a.2 in
      inl (
        a.0,
        a.1,
        omega (arith, within, length-set ends worker after),
        sym
            (get_or-set_other ends worker a.0 after a.1 apart) ∙ a.3,
        a.4,
      )
]

pub taken_here : (ends : List InView) (worker : ℕ) (before after : InView) (text : List ℕ) → worker < length ends
    → after.taken ≡ before.taken ++ text ∷ [] → IsTakenFrom (set ends worker after) text
taken_here ends worker before after text low grown = (
  worker,
  after,
  omega (arith, low, length-set ends worker after),
  get_or-set_same ends worker after after low,
  subst (λ (texts : List (List ℕ)). Contains texts text) (sym grown) (Contains-push before.taken text),
)

-- ---- one lane after another is emptied

-- the texts of the lanes that are empty, and what was taken from the others
abbrev pub IsCome : List OutView → List InView → List ℕ → Type 0
IsCome outs ends text = IsSentOn outs text ⊎ IsTakenFrom ends text

pub come_before : (outs : List OutView) (out : OutView) (end : InView) (ends : List InView) (rest : List (List ℕ))
    → end.taken ++ rest ≡ out.sent
    → (t : List ℕ) → IsCome outs (end ∷ ends) t → IsCome (outs ++ out ∷ []) ends t
come_before outs out end ends rest all t come = elim come [
  | inl sent ↦ inl (any_before (λ o. Contains o.sent t) outs out sent)
  | inr taken ↦ elim (any_cases (λ e. Contains e.taken t) end ends taken) [
    | inl first ↦
        inl (Any-push (λ o. Contains o.sent t) outs out
        (subst (λ (texts : List (List ℕ)). Contains texts t) all (Contains-append_left end.taken rest t first)))
    | inr later ↦ inr later
  ]
]

pub come_cases : (outs : List OutView) (out : OutView) (end : InView) (ends : List InView) (rest : List (List ℕ))
    → end.taken ++ rest ≡ out.sent
    → (t : List ℕ) → IsCome (outs ++ out ∷ []) ends t → IsCome outs (end ∷ ends) t ⊎ Contains rest t
come_cases outs out end ends rest all t come = elim come [
  | inl sent ↦ elim (any_push_cases (λ o. Contains o.sent t) outs out sent) [
    | inl before ↦ inl (inl before)
    | inr last ↦ elim (Contains-append_cases end.taken rest t
        (subst (λ (texts : List (List ℕ)). Contains texts t) (sym all) last)) [
          | inl taken ↦ inl (inr (any_first (λ e. Contains e.taken t) end ends taken))
          | inr left ↦ inr left
        ]
  ]
  | inr later ↦ inl (inr (any_rest (λ e. Contains e.taken t) end ends later))
]

pub come_rest : (outs : List OutView) (out : OutView) (end : InView) (ends : List InView) (rest : List (List ℕ))
    → end.taken ++ rest ≡ out.sent
    → (t : List ℕ) → Contains rest t → IsCome (outs ++ out ∷ []) ends t
come_rest outs out end ends rest all t left =
    inl (Any-push (λ o. Contains o.sent t) outs out
    (subst (λ (texts : List (List ℕ)). Contains texts t) all (Contains-append_right end.taken rest t left)))

-- ---- the remaining lanes

pub ends_rest : (outs later : List OutView) (ends rest : List InView) (out : OutView) (end : InView) → outs ≡ out
    ∷ later → ends ≡ end ∷ rest → AreEnds outs ends → AreEnds later rest
ends_rest outs later ends rest out end outs_are ends_are are = record {
  count = let a = ap length outs_are in let b = ap length ends_are in omega (arith, a, b, are.count);
  each = λ worker o e o_is e_is.
      are.each (suc worker) o e (ap (λ (xs : List OutView). slice_get xs (suc worker)) outs_are ∙ o_is)
      (ap (λ (xs : List InView). slice_get xs (suc worker)) ends_are ∙ e_is);
}

pub both_done : (outs : List OutView) (ends : List InView) → AreEnds outs ends → (length outs ≡ 0) ⊎ (length ends ≡ 0)
    → (outs ≡ []) × (ends ≡ [])
both_done outs ends are done = elim done [
  | inl none ↦ (nil_from_length outs none, nil_from_length ends (sym are.count ∙ none))
  | inr none ↦ (nil_from_length outs (are.count ∙ none), nil_from_length ends none)
]
