-- Words that are numbers, and lines that are plans.
use Rattle.std.proofs.Common.{◌≡◌, ℕ, zero, suc, ◌+◌, ◌<◌, List, [], ◌∷◌, ◌++◌, length, get_or, map, take, Some, sym}
use Rattle.std.proofs.Common.{◌∙◌, subst, refl, arith, eqb, true, false}
use Rattle.std.specs.Borrow.{Bor}
use Rattle.std.specs.List.{AllZip, slice_get, slice_split}
use Rattle.std.proofs.lemmas.List.{get_or-map, length-map, take_more}
use Rattle.move_schedules.specs.Answers.{IsAnswer, PlanAnswer, cost_in}
use Rattle.move_schedules.specs.Tables.{HostPlan, IsNoPlan, IsNumber, RefusesLine, SpellsNumbers, SpellsPlan, is_plan}

-- lists whose elements hold together: one pair more, and a pair by its place
pub zip_push : {A B : Type 0} (R : A → B → Type 0) (xs : List A) (ys : List B) (x : A) (y : B) → AllZip R xs ys → R x y
    → AllZip R (xs ++ x ∷ []) (ys ++ y ∷ [])
zip_push R [] [] x y all is = (is, tt)
zip_push R [] (b ∷ ys) x y all is = absurd all
zip_push R (a ∷ xs) [] x y all is = absurd all
zip_push R (a ∷ xs) (b ∷ ys) x y all is = (all.0, zip_push R xs ys x y all.1 is)

pub zip_more : {A B : Type 0} (R : A → B → Type 0) (xs : List A) (ys : List B) (i : ℕ) (x : A) (y : B) → i < length xs
    → x ≡ get_or xs i x → AllZip R (take i xs) ys → R x y → AllZip R (take (i + 1) xs) (ys ++ y ∷ [])
zip_more {A} {B} R xs ys i x y low at all is =
    subst (λ (l : List A). AllZip R l (ys ++ y ∷ [])) (sym (take_more xs i x low))
    (subst (λ (e : A). AllZip R (take i xs ++ e ∷ []) (ys ++ y ∷ [])) at (zip_push R (take i xs) ys x y all is))

zip_at : {A B : Type 0} (R : A → B → Type 0) (xs : List A) (ys : List B) (i : ℕ) (d : A) (e : B) → AllZip R xs ys
    → i < length xs → R (get_or xs i d) (get_or ys i e)
zip_at R [] ys i d e all low = absurd (omega arith)
zip_at R (x ∷ xs) [] i d e all low = absurd all
zip_at R (x ∷ xs) (y ∷ ys) zero d e all low = all.0
zip_at R (x ∷ xs) (y ∷ ys) (suc i) d e all low = zip_at R xs ys i d e all.1 (omega arith)

-- what a reference is to, of a list of them
pub here : (words : List (Bor (List ℕ))) (i : ℕ) (d : Bor (List ℕ)) → i < length words
    → (get_or words i d).now ≡ get_or (map (λ w. w.now) words) i (get_or words i d).now
here words i d low = sym (get_or-map (λ (w : Bor (List ℕ)). w.now) words i d (get_or words i d).now low)

pub within : (words : List (Bor (List ℕ))) (i : ℕ) → i < length words
    → i < length (map {A = Bor (List ℕ)} {B = List ℕ} (λ w. w.now) words)
within words i low = simp length-map low

pub numbers_more : (words : List (Bor (List ℕ))) (i : ℕ) (d : Bor (List ℕ)) (numbers : List ℕ) (n : ℕ)
    → i < length words → AllZip IsNumber (take i (map (λ w. w.now) words)) numbers
    → IsNumber (get_or words i d).now n
    → AllZip IsNumber (take (i + 1) (map (λ w. w.now) words)) (numbers ++ n ∷ [])
numbers_more words i d numbers n low all is =
    zip_more IsNumber (map (λ (w : Bor (List ℕ)). w.now) words) numbers i (get_or words i d).now n
    (within words i low) (here words i d low) all is

pub plans_more : (words : List (Bor (List ℕ))) (i : ℕ) (d : Bor (List ℕ)) (plans : List HostPlan) (plan : HostPlan)
    → i < length words → AllZip SpellsPlan (take i (map (λ w. w.now) words)) plans
    → SpellsPlan (get_or words i d).now plan
    → AllZip SpellsPlan (take (i + 1) (map (λ w. w.now) words)) (plans ++ plan ∷ [])
plans_more words i d plans plan low all is =
    zip_more SpellsPlan (map (λ (w : Bor (List ℕ)). w.now) words) plans i (get_or words i d).now plan
    (within words i low) (here words i d low) all is

-- one word that is no number
pub no_numbers : (words : List (Bor (List ℕ))) (i : ℕ) (d : Bor (List ℕ)) → i < length words
    → ((n : ℕ) → ¬ IsNumber (get_or words i d).now n) → (numbers : List ℕ)
    → ¬ AllZip IsNumber (map (λ w. w.now) words) numbers
no_numbers words i d low never numbers all =
    let w : List ℕ = (get_or words i d).now in
    never (get_or numbers i 0) (subst (λ (x : List ℕ). IsNumber x (get_or numbers i 0)) (sym (here words i d low))
    (zip_at IsNumber (map (λ (w : Bor (List ℕ)). w.now) words) numbers i w 0 all (within words i low)))

word_at : (words : List (Bor (List ℕ))) (i : ℕ) (d : Bor (List ℕ)) → i < length words
    → slice_get (map (λ w. w.now) words) i ≡ Some (get_or words i d).now
word_at [] i d low = absurd (omega arith)
word_at (w ∷ ws) zero d low = refl
word_at (w ∷ ws) (suc i) d low = word_at ws i d (omega arith)

-- the first line that is no plan
pub no_plan_there : (words : List (Bor (List ℕ))) (i : ℕ) (d : Bor (List ℕ)) (plans : List HostPlan) (number : ℕ)
    → number ≡ i + 1 → i < length words → AllZip SpellsPlan (take i (map (λ w. w.now) words)) plans
    → IsNoPlan (get_or words i d).now → RefusesLine (map (λ w. w.now) words) number
no_plan_there words i d plans number is low before none = record {
  place = i;
  number_is = is;
  line = (get_or words i d).now;
  line_is = word_at words i d low;
  refused = none;
  plans = plans;
  before = before;
}

-- words are one list of numbers at most
pub same_numbers : (words : List (List ℕ)) (a b : List ℕ) → AllZip IsNumber words a → AllZip IsNumber words b → a ≡ b
same_numbers [] [] [] p q = refl
same_numbers [] [] (n ∷ b) p q = absurd q
same_numbers [] (m ∷ a) b p q = absurd p
same_numbers (w ∷ ws) [] b p q = absurd p
same_numbers (w ∷ ws) (m ∷ a) [] p q = absurd q
same_numbers (w ∷ ws) (m ∷ a) (n ∷ b) p q =
    let head : m ≡ n = sym p.0.value ∙ q.0.value in
    let tail : a ≡ b = same_numbers ws a b p.1 q.1 in
    cc

-- numbers that are no plan leave the line none
pub no_plan : (line numbers : List ℕ) → SpellsNumbers line numbers → is_plan numbers ≡ false → IsNoPlan line
no_plan line numbers spelled wrong plan is =
    let same : is.numbers ≡ numbers =
    same_numbers (slice_split (λ b. eqb b 32) line) is.numbers numbers is.spelled spelled in
    let right : is_plan numbers ≡ true = subst (λ (l : List ℕ). is_plan l ≡ true) same is.right in
    cc

-- no plans have no answers
pub no_plans : (plans : List HostPlan) (answers : List PlanAnswer) → AllZip IsAnswer plans answers
    → map cost_in answers ≡ [] → plans ≡ []
no_plans [] answers all none = refl
no_plans (p ∷ ps) [] all none = absurd all
no_plans (p ∷ ps) (a ∷ rest) all none = cc
