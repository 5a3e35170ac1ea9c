-- Decimal numbers: digits, or digits, a point and one to six more.
use Rattle.std.specs.Prelude.{◌≡◌, ℕ, ◌<◌, ◌≤◌, ◌^◌, List, [], ◌∷◌, ◌++◌, length}
use Rattle.std.specs.Str.Parse.{IsNumeral, digits_value, without_leading_plus}

-- the text is decimal digits, which make the number n, and it is below 2^64
pub record IsDigits (text : List ℕ) (n : ℕ) : Type 0 where
  pub digits : IsNumeral 10 text
  pub value : digits_value 10 text ≡ n
  pub fits : n < 2 ^ 64

-- the text is a whole number below 2^64: decimal digits, with or without a plus before them
abbrev pub IsWhole : List ℕ → ℕ → Type 0
IsWhole text n = IsDigits (without_leading_plus text) n

-- `whole` has digits, `fraction` has as many as there are places, at most six, and all of them together make `digits`
pub record ArePlaced (whole fraction : List ℕ) (digits places : ℕ) : Type 0 where
  pub some : 0 < length whole
  pub places_are : length fraction ≡ places
  pub few : places ≤ 6
  pub all : IsDigits (whole ++ fraction) digits

-- a point (46) before these digits; if there are none, there is no point
abbrev pub pointed : List ℕ → List ℕ
pointed [] = []
pointed (digit ∷ more) = 46 ∷ digit ∷ more

-- the text is a decimal number: without its point it is `digits`, of which so many places stand behind the point
pub record IsDecimal (text : List ℕ) (digits places : ℕ) : Type 0 where
  pub whole : List ℕ
  pub fraction : List ℕ
  pub text_is : text ≡ whole ++ pointed fraction
  pub placed : ArePlaced whole fraction digits places
