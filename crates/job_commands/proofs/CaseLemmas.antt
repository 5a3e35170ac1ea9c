-- The parts of a word between its commas, and the numbers that they are.
use Rattle.std.proofs.Common.{◌≡◌, ℕ, zero, suc, add-one, get_or, map, ◌+◌, ◌<◌, ◌≤◌, true, false, Option, append_assoc}
use Rattle.std.proofs.Common.{length-append, List, [], ◌∷◌, ◌++◌, length, take, Some, None, refl, sym, ap, subst, ◌∙◌}
use Rattle.std.proofs.Common.{eqb, arith}
use Rattle.std.specs.Prelude.{All, is_some}
use Rattle.std.specs.Borrow.{Bor}
use Rattle.std.specs.List.{AllZip, join_with_byte, slice_split}
use Rattle.std.specs.Iterator.{AlwaysYields}
use Rattle.std.specs.Str.Iter.{split_has_more, split_pattern, split_steps, split_text}
use Rattle.std.specs.Str.Pattern.{FindsChar}
use Rattle.std.specs.declared.str.Split.{Split}
use Rattle.std.proofs.lemmas.Grind.{common_steps}
use Rattle.std.proofs.lemmas.Iterator.Splits.{YieldsList-from_str_split}
use Rattle.std.proofs.lemmas.List.{append-nil}
use Rattle.std.proofs.lemmas.List.Splits.{slice_split_at, slice_split_none, join_with_byte-slice_split}
use Rattle.std.specs.Prelude.{Result, Ok, Err, IfErr, IfNone, Bool, if◌then◌else◌, slice_get, ◌≢◌, ◌^◌, slice_index}
use Rattle.std.specs.Result.{result_ok}
use Rattle.std.specs.Str.Parse.{IsNumeral, digits_value, without_leading_plus, ParsesUnsigned}
use Rattle.std.proofs.lemmas.Int.Digits.{digits_value-lt}
use Rattle.std.proofs.Math.Nat.{pow-le-pow_right}
use Rattle.std.proofs.lemmas.Str.Parse.{digit_at, without_leading_plus_none}
use Rattle.std.proofs.lemmas.List.Elements.{All-append, All-cons, All-nil}
use Rattle.migration_model.specs.Rates.{AreSettings, MigrationSettings}
use Rattle.job_commands.specs.declared.command.WordsRefusal.{WordsRefusal}
use Rattle.job_commands.specs.declared.command.WordsRefusal.TheVariants.{Case, CaseSettings, Settings, TooManyCases}
use Rattle.job_commands.specs.Cases.{AreCases, IsCase, IsFirst, IsNoCase, IsNumber, IsRefusedCase, RefusesCase}
use Rattle.job_commands.specs.Cases.{RefusesCases}
use Rattle.job_commands.specs.Cases.{SpellsNumbers, numbers_in}

-- `parse` reads each number of a case
number_parses : (text : List ℕ) (n : ℕ) → slice_index text 0 ≢ 43 → IsNumber text n
    → IsNumeral 10 (without_leading_plus text) × (digits_value 10 (without_leading_plus text) < 2 ^ 64)
number_parses text n plain is =
    let same = without_leading_plus_none text plain in
    let below = digits_value-lt 10 text is.digits.1 in
    let wide : 10 ^ length text ≤ 10 ^ 13 = pow-le-pow_right (omega arith) is.short in
    rw same (is.digits, omega arith)

pub no_number : {E : Type 0} (text : List ℕ) (r : Result ℕ E) → ParsesUnsigned 64 10 text r → slice_index text 0 ≢ 43
    → IfNone (result_ok r) ((n : ℕ) → ¬ IsNumber text n)
no_number text (Ok n) parses plain = tt
no_number text (Err e) parses plain = λ n is. parses (number_parses text n plain is)

-- the parts of a word between its commas
abbrev pub parts_of : List ℕ → List (List ℕ)
parts_of word = slice_split (λ b. eqb b 44) word

-- no digit is a comma
no_comma : (text : List ℕ) (n : ℕ) → IsNumber text n → All (λ b. eqb b 44 ≡ false) text
no_comma text n is = λ k d l. let r = digit_at text k is.digits.1 l in grind (arith, common_steps)

-- numbers joined by commas have themselves as parts
joined_parts : (texts : List (List ℕ)) (numbers : List ℕ) → AllZip IsNumber texts numbers → 0 < length numbers
    → parts_of (join_with_byte 44 texts) ≡ texts
joined_parts [] [] are some = absurd (omega arith)
joined_parts [] (n ∷ ns) are some = absurd are
joined_parts (x ∷ xs) [] are some = absurd are
joined_parts (x ∷ []) (n ∷ ns) are some = slice_split_none (λ b. eqb b 44) x (no_comma x n are.0)
joined_parts (x ∷ y ∷ xs) (n ∷ []) are some = absurd are.1
joined_parts (x ∷ y ∷ xs) (n ∷ m ∷ ns) are some =
    slice_split_at (λ b. eqb b 44) x 44 (join_with_byte 44 (y ∷ xs)) (no_comma x n are.0) refl
    ∙ ap (λ (t : List (List ℕ)). x ∷ t) (joined_parts (y ∷ xs) (m ∷ ns) are.1 (omega arith))

-- a word spells the numbers of its parts
pub parts_of_spelled : (word numbers : List ℕ) → SpellsNumbers word numbers → 0 < length numbers
    → AllZip IsNumber (parts_of word) numbers
parts_of_spelled word numbers is some =
    let P : List (List ℕ) → Type 0 = λ t. AllZip IsNumber t numbers in
    subst P (sym (ap parts_of is.joined ∙ joined_parts is.texts numbers is.are_numbers some)) is.are_numbers

pub spelled_from_parts : (word numbers : List ℕ) → AllZip IsNumber (parts_of word) numbers → SpellsNumbers word numbers
spelled_from_parts word numbers are = record {
  texts = parts_of word;
  joined = sym (join_with_byte-slice_split 44 word);
  are_numbers = are;
}

same_numbers : (texts : List (List ℕ)) (ns ms : List ℕ) → AllZip IsNumber texts ns → AllZip IsNumber texts ms → ns ≡ ms
same_numbers [] [] [] a b = refl
same_numbers [] [] (m ∷ ms) a b = absurd b
same_numbers [] (n ∷ ns) ms a b = absurd a
same_numbers (x ∷ xs) [] ms a b = absurd a
same_numbers (x ∷ xs) (n ∷ ns) [] a b = absurd b
same_numbers (x ∷ xs) (n ∷ ns) (m ∷ ms) a b = λ i. (sym a.0.value ∙ b.0.value) i ∷ same_numbers xs ns ms a.1 b.1 i

-- a word spells one list of numbers
pub spelled_once : (word ns ms : List ℕ) → SpellsNumbers word ns → SpellsNumbers word ms → 0 < length ns → 0 < length ms
    → ns ≡ ms
spelled_once word ns ms a b some more = same_numbers (parts_of word) ns ms (parts_of_spelled word ns a some)
    (parts_of_spelled word ms b more)

abbrev pub comma_steps : Split ℕ → Option (Bor (List ℕ)) → Split ℕ → Type 0
comma_steps = split_steps FindsChar (λ a b. b ≡ a)

-- the first of the remaining parts was read
one_off : (s t : Split ℕ) (x : Bor (List ℕ)) (left : List (List ℕ)) → AlwaysYields comma_steps (λ p. p.now) s left
    → comma_steps s (Some x) t
    → (rest : List (List ℕ)) × (left ≡ x.now ∷ rest) × AlwaysYields comma_steps (λ p. p.now) t rest
one_off s t x [] all step = absurd (all x t step)
one_off s t x (y ∷ ys) all step = let m = all.1 x t step in (ys, ap (λ (z : List ℕ). z ∷ ys) (sym m.0), m.1)

none_off : (s t : Split ℕ) (left : List (List ℕ)) → AlwaysYields comma_steps (λ p. p.now) s left → comma_steps s None t
    → left ≡ []
none_off s t [] all step = refl
none_off s t (y ∷ ys) all step = absurd (all.0 t step)

-- the parts of a word that were read as numbers, and those that remain
pub record HasRead (word : List ℕ) (parts : Split ℕ) (numbers : List ℕ) : Type 0 where
  pub read : List (List ℕ)
  pub left : List (List ℕ)
  pub cut : parts_of word ≡ read ++ left
  pub comes : AlwaysYields comma_steps (λ p. p.now) parts left
  pub are_numbers : AllZip IsNumber read numbers

pub read_none : (word : List ℕ) (parts : Split ℕ) → split_text parts ≡ word → split_has_more parts ≡ true
    → split_pattern parts ≡ 44 → HasRead word parts []
read_none word parts text more pattern = record {
  read = [];
  left = parts_of word;
  cut = refl;
  comes = (YieldsList-from_str_split 44 word (omega arith) text more pattern).runs;
  are_numbers = tt;
}

zip-push : {A B : Type 0} (R : A → B → Type 0) (xs : List A) (ys : List B) (x : A) (y : B) → AllZip R xs ys → R x y
    → AllZip R (xs ++ x ∷ []) (ys ++ y ∷ [])
zip-push R [] [] x y all is = (is, tt)
zip-push R [] (b ∷ bs) x y all is = absurd all
zip-push R (a ∷ xs) [] x y all is = absurd all
zip-push R (a ∷ xs) (b ∷ bs) x y all is = (all.0, zip-push R xs bs x y all.1 is)

-- one more part is a number
pub read_one : (word : List ℕ) (s t : Split ℕ) (x : Bor (List ℕ)) (ns : List ℕ) (n : ℕ) → HasRead word s ns
    → comma_steps s (Some x) t → IsNumber x.now n → HasRead word t (ns ++ n ∷ [])
read_one word s t x ns n has step is =
    let m = one_off s t x has.left has.comes step in
    record {
      read = has.read ++ x.now ∷ [];
      left = m.0;
      cut = has.cut ∙ ap (λ (l : List (List ℕ)). has.read ++ l) m.1 ∙ sym (append_assoc has.read (x.now ∷ []) m.0);
      comes = m.2;
      are_numbers = zip-push IsNumber has.read ns x.now n has.are_numbers is;
    }

zip-length : (texts : List (List ℕ)) (ns : List ℕ) → AllZip IsNumber texts ns → length texts ≡ length ns
zip-length [] [] are = refl
zip-length [] (n ∷ ns) are = absurd are
zip-length (x ∷ xs) [] are = absurd are
zip-length (x ∷ xs) (n ∷ ns) are = ap (λ (k : ℕ). suc k) (zip-length xs ns are.1)

zip-at : (xs ys : List (List ℕ)) (x : List ℕ) (ns : List ℕ) → AllZip IsNumber (xs ++ x ∷ ys) ns → (n : ℕ) × IsNumber x n
zip-at [] ys x [] are = absurd are
zip-at [] ys x (n ∷ ns) are = (n, are.0)
zip-at (y ∷ xs) ys x [] are = absurd are
zip-at (y ∷ xs) ys x (n ∷ ns) are = zip-at xs ys x ns are.1

-- there are as many parts as numbers that the word spells
six_parts : (word numbers : List ℕ) → length numbers ≡ 6 → SpellsNumbers word numbers → length (parts_of word) ≡ 6
six_parts word numbers six is = zip-length (parts_of word) numbers (parts_of_spelled word numbers is (omega arith))
    ∙ six

-- too few parts
pub few_parts : (word : List ℕ) (s t : Split ℕ) (ns : List ℕ) → HasRead word s ns → comma_steps s None t → length ns < 6
    → (numbers : List ℕ) → length numbers ≡ 6 → ¬ SpellsNumbers word numbers
few_parts word s t ns has step few numbers six is =
    let last = none_off s t has.left has.comes step in
    let parts : length (parts_of word) ≡ length has.read = ap (λ (l : List (List ℕ)). length l)
    (has.cut ∙ ap (λ (l : List (List ℕ)). has.read ++ l) last ∙ append-nil has.read) in
    omega (arith, parts, six_parts word numbers six is, zip-length has.read ns has.are_numbers)

-- too many
pub many_parts : (word : List ℕ) (s t : Split ℕ) (r : Option (Bor (List ℕ))) (ns : List ℕ) → HasRead word s ns
    → comma_steps s r t → is_some r ≡ true → length ns ≡ 6 → (numbers : List ℕ) → length numbers ≡ 6
    → ¬ SpellsNumbers word numbers
many_parts word s t None ns has step more all numbers six is = absurd cc
many_parts word s t (Some x) ns has step more all numbers six is =
    let m = one_off s t x has.left has.comes step in
    let parts = ap (λ (l : List (List ℕ)). length l) (has.cut ∙ ap (λ (l : List (List ℕ)). has.read ++ l) m.1)
    ∙ length-append has.read (x.now ∷ m.0) in
    omega (arith, parts, six_parts word numbers six is, zip-length has.read ns has.are_numbers)

-- a part that is not a number
pub bad_part : (word : List ℕ) (s t : Split ℕ) (x : Bor (List ℕ)) (ns : List ℕ) → HasRead word s ns
    → comma_steps s (Some x) t → ((n : ℕ) → ¬ IsNumber x.now n) → (numbers : List ℕ) → length numbers ≡ 6
    → ¬ SpellsNumbers word numbers
bad_part word s t x ns has step bad numbers six is =
    let m = one_off s t x has.left has.comes step in
    let P : List (List ℕ) → Type 0 = λ l. AllZip IsNumber l numbers in
    let are = subst P (has.cut ∙ ap (λ (l : List (List ℕ)). has.read ++ l) m.1)
    (parts_of_spelled word numbers is (omega arith)) in
    let found = zip-at has.read m.0 x.now numbers are in
    bad found.0 found.1

-- no parts are left
pub all_parts : (word : List ℕ) (s t : Split ℕ) (r : Option (Bor (List ℕ))) (ns : List ℕ) → HasRead word s ns
    → comma_steps s r t → is_some r ≡ false → SpellsNumbers word ns
all_parts word s t (Some x) ns has step over = absurd cc
all_parts word s t None ns has step over =
    let last = none_off s t has.left has.comes step in
    let P : List (List ℕ) → Type 0 = λ l. AllZip IsNumber l ns in
    spelled_from_parts word ns (subst P (sym (has.cut ∙ ap (λ (l : List (List ℕ)). has.read ++ l) last
    ∙ append-nil has.read)) has.are_numbers)

pub if_none : {A : Type 0} (o : Option A) {P : Type 0} → P → IfNone o P
if_none None p = p
if_none (Some x) p = tt

skip_low : (b : Bool) → (if b then 1 else 0) ≤ 1
skip_low true = omega arith
skip_low false = omega arith

-- the last number of a case is 0 or 1
pub skip_high : (options : MigrationSettings) (word numbers : List ℕ) → SpellsNumbers word numbers
    → 1 < slice_index numbers 5 → IsNoCase options word
skip_high options word [] spelled high asked is = omega arith
skip_high options word (n ∷ ns) spelled high asked is =
    let same = ap (λ (l : List ℕ). slice_index l 5) (spelled_once word (n ∷ ns) (numbers_in asked) spelled is.spelled
    (omega arith) (omega arith)) in
    omega (arith, same, skip_low asked.skip)

pub word_at : (words : List (Bor (List ℕ))) (i : ℕ) (d : Bor (List ℕ)) → i < length words
    → slice_get (map (λ w. w.now) words) i ≡ Some (get_or words i d).now
word_at [] i d low = absurd (omega arith)
word_at (w ∷ ws) zero d low = refl
word_at (w ∷ ws) (suc i) d low = word_at ws i d (omega arith)

take_with : (words : List (List ℕ)) (i : ℕ) (word : List ℕ) → slice_get words i ≡ Some word
    → take (suc i) words ≡ take i words ++ word ∷ []
take_with [] i word is = absurd cc
take_with (w ∷ ws) zero word is = cc
take_with (w ∷ ws) (suc i) word is = ap (λ (l : List (List ℕ)). w ∷ l) (take_with ws i word is)

-- one more word is a case whose settings are accepted
pub one_more_case : (options : MigrationSettings) (words : List (List ℕ)) (place : ℕ) (cases : List MigrationSettings)
    (word : List ℕ) (asked : MigrationSettings) → AreCases options (take place words) cases
    → slice_get words place ≡ Some word → IsCase options word asked → AreSettings asked
    → AreCases options (take (place + 1) words) (cases ++ asked ∷ [])
one_more_case options words place cases word asked are here is fits =
    rw (add-one, take_with words place word here) (record {
      each = zip-push (IsCase options) (take place words) cases word asked are.each is;
      in_range = All-append AreSettings cases (asked ∷ []) are.in_range
          (All-cons AreSettings asked [] fits (All-nil AreSettings));
    })

-- the refusal of a word after cases is the refusal of all words
pub refused_here : (options : MigrationSettings) (words : List (List ℕ)) (place : ℕ) (word : List ℕ)
    (before : List MigrationSettings) (refusal : WordsRefusal) → length words ≤ 256
    → AreCases options (take place words) before → slice_get words place ≡ Some word
    → RefusesCase options place word refusal → RefusesCases options words refusal
refused_here options words place word before (Case k) few are here refused =
    let P : ℕ → Type 0 = λ p. IsFirst (IsNoCase options) options words p in (
      few,
      subst P (sym refused.0) (record {
        before = before;
        accepted = are;
        word = word;
        is_word = here;
        holds =
            refused.1;
      }),
    )
refused_here options words place word before (CaseSettings k e) few are here refused =
    let P : ℕ → Type 0 = λ p. IsFirst (IsRefusedCase options e) options words p in (
      few,
      subst P (sym refused.0) (record {
        before = before;
        accepted = are;
        word = word;
        is_word = here;
        holds =
            refused.1;
      }),
    )
refused_here options words place word before (Settings e) few are here refused = absurd refused
refused_here options words place word before TooManyCases few are here refused = absurd refused

pub if_err : {A E : Type 0} (r : Result A E) (P : E → Type 0) → ((e : E) → P e) → IfErr r P
if_err (Ok x) P all = tt
if_err (Err e) P all = all e
