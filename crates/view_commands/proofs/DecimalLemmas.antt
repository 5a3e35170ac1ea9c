-- Decimal numbers: what their parts make, and that a text has one of them at most.
use Rattle.std.proofs.Common.{◌≡◌, ℕ, ◌+◌, ◌*◌, ◌<◌, ◌≤◌, ◌^◌, List, [], ◌∷◌, ◌++◌, length, get_or, drop, Option, Some}
use Rattle.std.proofs.Common.{None}
use Rattle.std.proofs.Common.{refl, sym, ap, subst, ◌∙◌, arith, length-append}
use Rattle.std.proofs.Math.Nat.{le-mul_of_pos_right, one-le-pow, pow-succ', pow-zero}
use Rattle.std.specs.Prelude.{◌≢◌}
use Rattle.std.specs.Borrow.{Bor}
use Rattle.std.specs.Char.{digit_value}
use Rattle.std.specs.Str.Parse.{AllDigits, digits_value, digits_value_after}
use Rattle.std.proofs.lemmas.List.{append-nil}
use Rattle.std.proofs.lemmas.Str.Parse.{digit_at, digit_from_value, without_leading_plus_none}
use Rattle.std.proofs.lemmas.Str.Pattern.{IsSplitOnceResult, split_after, split_parts}
use Rattle.view_commands.specs.Decimals.{ArePlaced, IsDecimal, IsDigits, IsWhole, pointed}

-- digits in one list

pub all_append : (xs ys : List ℕ) → AllDigits 10 xs → AllDigits 10 ys → AllDigits 10 (xs ++ ys)
all_append [] ys a b = b
all_append (x ∷ xs) ys a b = (a.0, all_append xs ys a.1 b)

pub all_front : (xs ys : List ℕ) → AllDigits 10 (xs ++ ys) → AllDigits 10 xs
all_front [] ys a = tt
all_front (x ∷ xs) ys a = (a.0, all_front xs ys a.1)

pub all_back : (xs ys : List ℕ) → AllDigits 10 (xs ++ ys) → AllDigits 10 ys
all_back [] ys a = a
all_back (x ∷ xs) ys a = all_back xs ys a.1

after_append : (n : ℕ) (xs ys : List ℕ)
    → digits_value_after 10 n (xs ++ ys) ≡ digits_value_after 10 (digits_value_after 10 n xs) ys
after_append n [] ys = refl
after_append n (x ∷ xs) ys = after_append (n * 10 + digit_value x) xs ys

value_after : (n : ℕ) (ds : List ℕ) → digits_value_after 10 n ds ≡ n * 10 ^ length ds + digits_value 10 ds
value_after n [] = omega (arith, ap (λ (x : ℕ). n * x) (pow-zero 10))
value_after n (c ∷ cs) = omega (
  arith,
  ap (λ (x : ℕ). n * x) (pow-succ' 10 (length cs)),
  value_after (n * 10 + digit_value c) cs,
  value_after (0 * 10 + digit_value c) cs,
)

pub value_append : (xs ys : List ℕ)
    → digits_value 10 (xs ++ ys) ≡ digits_value 10 xs * 10 ^ length ys + digits_value 10 ys
value_append xs ys = after_append 0 xs ys ∙ value_after (digits_value 10 xs) ys

-- digits, and whole numbers that begin with no plus

pub plain_digits : (text : List ℕ) (n : ℕ) → get_or text 0 0 ≢ 43 → IsWhole text n → IsDigits text n
plain_digits text n other whole = subst (λ (t : List ℕ). IsDigits t n) (without_leading_plus_none text other) whole

pub plain_whole : (text : List ℕ) (n : ℕ) → get_or text 0 0 ≢ 43 → IsDigits text n → IsWhole text n
plain_whole text n other digits =
    subst (λ (t : List ℕ). IsDigits t n) (sym (without_leading_plus_none text other)) digits

-- digits do not begin with a plus
pub no_plus : (text : List ℕ) (n : ℕ) → IsDigits text n → get_or text 0 0 ≢ 43
no_plus text n is = let range = digit_at text 0 is.digits.1 is.digits.0 in omega (arith, range.0)

-- digits before a point and behind it

shifted_ge : (n k : ℕ) → n ≤ n * 10 ^ k
shifted_ge n k = le-mul_of_pos_right {m = 10 ^ k} n (omega (arith, one-le-pow k 10 (omega arith)))

pub joined : (whole fraction : List ℕ) (m n : ℕ) → IsDigits whole m → IsDigits fraction n
    → m * 10 ^ length fraction + n < 2 ^ 64 → IsDigits (whole ++ fraction) (m * 10 ^ length fraction + n)
joined whole fraction m n a b fits = record {
  digits = (omega (arith, length-append whole fraction, a.digits.0), all_append whole fraction a.digits.1 b.digits.1);
  value = value_append whole fraction ∙ ap (λ (x : ℕ). x * 10 ^ length fraction + digits_value 10 fraction) a.value
      ∙ ap (λ (y : ℕ). m * 10 ^ length fraction + y) b.value;
  fits = fits;
}

pub front_digits : (whole fraction : List ℕ) (digits places : ℕ) → ArePlaced whole fraction digits places
    → IsDigits whole (digits_value 10 whole)
front_digits whole fraction digits places p = record {
  digits = (p.some, all_front whole fraction p.all.digits.1);
  value = refl;
  fits = omega (
    arith,
    p.all.fits,
    sym p.all.value ∙ value_append whole fraction,
    shifted_ge (digits_value 10 whole) (length fraction),
  );
}

pub back_digits : (whole fraction : List ℕ) (digits places : ℕ) → 0 < length fraction
    → ArePlaced whole fraction digits places → IsDigits fraction (digits_value 10 fraction)
back_digits whole fraction digits places some p = record {
  digits = (some, all_back whole fraction p.all.digits.1);
  value = refl;
  fits = omega (arith, p.all.fits, sym p.all.value ∙ value_append whole fraction);
}

-- what is placed makes this number
pub placed_value : (whole fraction : List ℕ) (digits places m : ℕ) → ArePlaced whole fraction digits places
    → IsDigits whole m → digits ≡ m * 10 ^ length fraction + digits_value 10 fraction
placed_value whole fraction digits places m p front = sym p.all.value ∙ value_append whole fraction
    ∙ ap (λ (x : ℕ). x * 10 ^ length fraction + digits_value 10 fraction) front.value

-- where a decimal number is cut at its point

no_point : (text : List ℕ) → AllDigits 10 text → (i : ℕ) → i < length text → get_or text i 0 ≢ 46
no_point text digits i low = let r = digit_at text i digits low in omega (arith, r.0)

-- a text of digits is not cut
uncut : (text : List ℕ) (x : Bor (List ℕ) × Bor (List ℕ)) → IsSplitOnceResult 46 text (Some x) → AllDigits 10 text → ⊥
uncut text x split digits =
    let parts = split_parts 46 text (Some x) split (omega arith) in
    let back : AllDigits 10 (46 ∷ x.1.now) = all_back x.0.now (46 ∷ x.1.now) (subst (AllDigits 10) parts.0 digits) in
    let range = digit_from_value 46 back.0 in
    omega (arith, range.0)

-- cut at the first point, a decimal number has its whole part before it and its other digits behind it
abbrev pub AreCut : Option (Bor (List ℕ) × Bor (List ℕ)) → List ℕ → ℕ → ℕ → Type 0
AreCut None text digits places = IsDigits text digits × (places ≡ 0)
AreCut (Some x) text digits places = (0 < length x.1.now) × ArePlaced x.0.now x.1.now digits places

placed_at : (a b c d : List ℕ) (digits places : ℕ) → a ≡ c → b ≡ d → ArePlaced c d digits places
    → ArePlaced a b digits places
placed_at a b c d digits places front back p =
    subst (λ (t : List ℕ). ArePlaced t b digits places) (sym front)
    (subst (λ (t : List ℕ). ArePlaced c t digits places) (sym back) p)

cut_at : (text : List ℕ) (r : Option (Bor (List ℕ) × Bor (List ℕ))) → IsSplitOnceResult 46 text r
    → (whole fraction : List ℕ) (digits places : ℕ) → text ≡ whole ++ pointed fraction
    → ArePlaced whole fraction digits places → AreCut r text digits places
cut_at text None split whole [] digits places is p =
    let same : whole ++ [] ≡ text = sym is in
    (subst (λ (t : List ℕ). IsDigits t digits) same p.all, sym p.places_are)
cut_at text (Some x) split whole [] digits places is p =
    absurd (uncut text x split (subst (AllDigits 10) (sym is) p.all.digits.1))
cut_at text None split whole (f ∷ fs) digits places is p =
    absurd (split_after 46 text whole (f ∷ fs) None split (omega arith) is
    (no_point whole (all_front whole (f ∷ fs) p.all.digits.1)))
cut_at text (Some x) split whole (f ∷ fs) digits places is p =
    let parts = split_after 46 text whole (f ∷ fs) (Some x) split (omega arith) is
    (no_point whole (all_front whole (f ∷ fs) p.all.digits.1)) in (
      omega (arith, ap length parts.1),
      placed_at x.0.now x.1.now whole (f ∷ fs) digits places parts.0 parts.1 p,
    )

pub decimal_cut : (text : List ℕ) (r : Option (Bor (List ℕ) × Bor (List ℕ))) → IsSplitOnceResult 46 text r
    → (digits places : ℕ) → IsDecimal text digits places → AreCut r text digits places
decimal_cut text r split digits places d = cut_at text r split d.whole d.fraction digits places d.text_is d.placed

-- digits behind a point make a decimal number
pub decimal_placed : (text whole fraction : List ℕ) (digits places : ℕ) → text ≡ whole ++ (46 ∷ fraction)
    → 0 < length fraction → ArePlaced whole fraction digits places → IsDecimal text digits places
decimal_placed text whole [] digits places is some p = absurd (omega (arith, some))
decimal_placed text whole (f ∷ fs) digits places is some p = record {
  whole = whole;
  fraction = f ∷ fs;
  text_is = is;
  placed = p;
}

pub decimal_whole : (text : List ℕ) (digits : ℕ) → IsDigits text digits → IsDecimal text digits 0
decimal_whole text digits d = record {
  whole = text;
  fraction = [];
  text_is = sym (append-nil text);
  placed = record {
    some = d.digits.0;
    places_are = refl;
    few = omega arith;
    all = subst (λ (t : List ℕ). IsDigits t digits) (sym (append-nil text)) d;
  };
}

-- a text is one decimal number at most

same_behind : (fs gs : List ℕ) → pointed fs ≡ pointed gs → fs ≡ gs
same_behind [] [] is = refl
same_behind [] (g ∷ gs) is = absurd (omega (arith, ap length is))
same_behind (f ∷ fs) [] is = absurd (omega (arith, ap length is))
same_behind (f ∷ fs) (g ∷ gs) is = ap (drop 1) is

-- a digit is no point
no_digit : (c : ℕ) → digit_value c < 10 → c ≡ 46 → ⊥
no_digit c low is = let range = digit_from_value c low in omega (arith, range.0)

ends_with_digit : (x : ℕ) (xs fs : List ℕ) → digit_value x < 10 → pointed fs ≡ x ∷ xs → ⊥
ends_with_digit x xs [] low is = omega (arith, ap length is)
ends_with_digit x xs (f ∷ fs) low is = no_digit x low (ap (λ (t : List ℕ). get_or t 0 0) (sym is))

same_parts : (xs ys fs gs : List ℕ) → AllDigits 10 xs → AllDigits 10 ys → xs ++ pointed fs ≡ ys ++ pointed gs
    → (xs ≡ ys) × (fs ≡ gs)
same_parts [] [] fs gs a b is = (refl, same_behind fs gs is)
same_parts [] (y ∷ ys) fs gs a b is = absurd (ends_with_digit y (ys ++ pointed gs) fs b.0 is)
same_parts (x ∷ xs) [] fs gs a b is = absurd (ends_with_digit x (xs ++ pointed fs) gs a.0 (sym is))
same_parts (x ∷ xs) (y ∷ ys) fs gs a b is =
    let more = same_parts xs ys fs gs a.1 b.1 (ap (drop 1) is) in
    let head : x ≡ y = ap (λ (t : List ℕ). get_or t 0 0) is in
    (ap (λ (c : ℕ). c ∷ xs) head ∙ ap (λ (t : List ℕ). y ∷ t) more.0, more.1)

pub decimal_same : (text : List ℕ) (c d m n : ℕ) → IsDecimal text c m → IsDecimal text d n → (c ≡ d) × (m ≡ n)
decimal_same text c d m n a b =
    let parts = same_parts a.whole b.whole a.fraction b.fraction
    (all_front a.whole a.fraction a.placed.all.digits.1) (all_front b.whole b.fraction b.placed.all.digits.1)
    (sym a.text_is ∙ b.text_is) in
    let both : a.whole ++ a.fraction ≡ b.whole ++ b.fraction = ap (λ (t : List ℕ). t ++ a.fraction) parts.0
    ∙ ap (λ (t : List ℕ). b.whole ++ t) parts.1 in (
      sym a.placed.all.value ∙ ap (digits_value 10) both ∙ b.placed.all.value,
      sym a.placed.places_are ∙ ap length parts.1 ∙ b.placed.places_are,
    )
