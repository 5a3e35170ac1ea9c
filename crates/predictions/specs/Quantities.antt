-- Times and sizes as texts, rounded down. This project's own.
use Rattle.std.specs.Prelude.{ℕ, ◌+◌, ◌*◌, ◌/◌, ◌%◌, ◌^◌, ◌==◌, nat_lt, if◌then◌else◌, List, [], ◌∷◌, ◌++◌, codes}
use Rattle.std.specs.Fmt.{decimal}

-- the last two and three decimal digits of a number; 48 is `0`
unfoldable pub two_digits : ℕ → List ℕ
two_digits n = (48 + n / 10) ∷ (48 + n % 10) ∷ []

unfoldable pub three_digits : ℕ → List ℕ
three_digits n = (48 + n / 100) ∷ (48 + n / 10 % 10) ∷ (48 + n % 10) ∷ []

-- thousandths below 1, as a point and their digits, without zeros at the end
unfoldable pub fraction_text : ℕ → List ℕ
fraction_text n =
    if n == 0 then []
    else (if n % 100 == 0 then codes "." ++ (48 + n / 100) ∷ []
    else (if n % 10 == 0 then codes "." ++ two_digits (n / 10)
    else codes "." ++ three_digits n))

-- microseconds, as milliseconds
unfoldable pub millis_text : ℕ → List ℕ
millis_text micros = decimal (micros / 1_000) ++ (fraction_text (micros % 1_000) ++ codes " ms")

-- microseconds, as seconds with three digits after the point, and with six
unfoldable pub seconds_text : ℕ → List ℕ
seconds_text micros = decimal (micros / 1_000_000)
    ++ (codes "." ++ (three_digits (micros / 1_000 % 1_000) ++ codes " s"))

unfoldable pub exact_seconds_text : ℕ → List ℕ
exact_seconds_text micros = decimal (micros / 1_000_000)
    ++ (codes "." ++ (three_digits (micros / 1_000 % 1_000) ++ (three_digits (micros % 1_000) ++ codes " s")))

-- how long something takes, in microseconds: it is rounded only from a second on
unfoldable pub time_text : ℕ → List ℕ
time_text micros =
    if micros == 0 then codes "0 s"
    else (if nat_lt micros 1_000 then decimal micros ++ codes " us"
    else (if nat_lt micros 1_000_000 then millis_text micros
    else seconds_text micros))

-- an error with few digits: in tenths of a millisecond from 1 ms on, and in whole ones from 10 ms on
unfoldable pub rounded_error : ℕ → ℕ
rounded_error micros =
    if nat_lt micros 1_000 then micros
    else (if nat_lt micros 10_000 then micros / 100 * 100
    else micros / 1_000 * 1_000)

-- the standard error of a time
unfoldable pub error_text : ℕ → List ℕ
error_text micros = time_text (rounded_error micros)

-- when something is, in microseconds since a begin: with three digits after the point if these are exact
unfoldable pub moment_text : ℕ → List ℕ
moment_text micros = if micros % 1_000 == 0 then seconds_text micros else exact_seconds_text micros

-- hundredths, as a number with two digits after the point
unfoldable pub hundredths_text : ℕ → List ℕ
hundredths_text n = decimal (n / 100) ++ (codes "." ++ two_digits (n % 100))

-- bytes, in the greatest unit that they have one of
unfoldable pub bytes_text : ℕ → List ℕ
bytes_text bytes =
    if bytes == 1 then codes "1 byte"
    else (if nat_lt bytes (2 ^ 10) then decimal bytes ++ codes " bytes"
    else (if nat_lt bytes (2 ^ 20) then hundredths_text (bytes * 100 / 2 ^ 10) ++ codes " KiB"
    else (if nat_lt bytes (2 ^ 30) then hundredths_text (bytes * 100 / 2 ^ 20) ++ codes " MiB"
    else hundredths_text (bytes * 100 / 2 ^ 30) ++ codes " GiB")))
