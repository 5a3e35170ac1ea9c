-- Tables of plans: a line a plan. It has decimal numbers with a blank (32) between two: how many guests move at a time,
-- a deadline, and for each guest its time, its bytes, its downtime, whether its limits are kept, and its group. 0 is no
-- deadline, limits that are not kept, and no group. This project's own.
use Rattle.std.specs.Prelude.{◌≡◌, ℕ, ◌+◌, ◌-◌, ◌*◌, ◌/◌, ◌%◌, ◌^◌, ◌<◌, ◌==◌, ◌&&◌, nat_le, not, Bool, true}
use Rattle.std.specs.Prelude.{⊤, if◌then◌else◌, List, length, map, slice_index, take, Option, Some, None}
use Rattle.std.specs.List.{AllZip, range_with_len, slice_get, slice_split}
use Rattle.std.specs.Str.{IsUtf8}
use Rattle.std.specs.Str.Lines.{lines}
use Rattle.std.specs.Str.Parse.{IsNumeral, digits_value, without_leading_plus}
use Rattle.move_schedules.specs.declared.moves.Move.{Move}
use Rattle.move_schedules.specs.declared.error.TableError.{TableError}
use Rattle.move_schedules.specs.declared.error.TableError.TheVariants as errors

-- which moves are to be made, in order, how many at a time, and by when
pub record HostPlan : Type 0 where
  pub slots : ℕ
  pub deadline : Option ℕ
  pub moves : List Move

-- the word is a whole number below 2^64: decimal digits, with or without a plus before them
pub record IsNumber (word : List ℕ) (n : ℕ) : Type 0 where
  pub digits : IsNumeral 10 (without_leading_plus word)
  pub value : digits_value 10 (without_leading_plus word) ≡ n
  pub fits : n < 2 ^ 64

abbrev pub SpellsNumbers : List ℕ → List ℕ → Type 0
SpellsNumbers line numbers = AllZip IsNumber (slice_split (λ b. b == 32) line) numbers

abbrev pub option_of : ℕ → Option ℕ
option_of n = if n == 0 then None else Some n

-- of how many guests there are numbers, and the move of one
abbrev pub count_in : List ℕ → ℕ
count_in numbers = (length numbers - 2) / 5

abbrev pub move_at : List ℕ → ℕ → Move
move_at numbers k = record {
  time = slice_index numbers (2 + 5 * k);
  bytes = slice_index numbers (2 + 5 * k + 1);
  downtime = slice_index numbers (2 + 5 * k + 2);
  is_kept = not (slice_index numbers (2 + 5 * k + 3) == 0);
  group = option_of (slice_index numbers (2 + 5 * k + 4));
}

-- whether these are the numbers of a plan, and the plan
abbrev pub is_plan : List ℕ → Bool
is_plan numbers =
    nat_le 2 (length numbers) && (((length numbers - 2) % 5 == 0)
    && (nat_le 1 (slice_index numbers 0) && nat_le (slice_index numbers 0) 65_536))

abbrev pub plan_in : List ℕ → HostPlan
plan_in numbers = record {
  slots = slice_index numbers 0;
  deadline = option_of (slice_index numbers 1);
  moves = map (move_at numbers) (range_with_len 0 (count_in numbers));
}

-- the line is a plan
pub record SpellsPlan (line : List ℕ) (plan : HostPlan) : Type 0 where
  pub numbers : List ℕ
  pub spelled : SpellsNumbers line numbers
  pub right : is_plan numbers ≡ true
  pub plan_is : plan ≡ plan_in numbers

abbrev pub IsNoPlan : List ℕ → Type 0
IsNoPlan line = (plan : HostPlan) → ¬ SpellsPlan line plan

-- the bytes are a text, and each line of it is a plan
pub record SpellsTable (bytes : List ℕ) (plans : List HostPlan) : Type 0 where
  pub text : IsUtf8 bytes
  pub each : AllZip SpellsPlan (lines bytes) plans

-- of these lines that with this number, from 1 on, is the first that is no plan
pub record RefusesLine (all : List (List ℕ)) (number : ℕ) : Type 0 where
  pub place : ℕ
  pub number_is : number ≡ place + 1
  pub line : List ℕ
  pub line_is : slice_get all place ≡ Some line
  pub refused : IsNoPlan line
  pub plans : List HostPlan
  pub before : AllZip SpellsPlan (take place all) plans

-- why the lines are no plans, and why bytes are no table; nothing is said of a want of memory
abbrev pub RefusesLines : List (List ℕ) → TableError → Type 0
RefusesLines all errors.Memory = ⊤
RefusesLines all errors.Read = ⊥
RefusesLines all errors.Write = ⊥
RefusesLines all errors.TooLong = ⊥
RefusesLines all errors.NoText = ⊥
RefusesLines all errors.NoPlans = ⊥
RefusesLines all (errors.Line number) = RefusesLine all number

abbrev pub RefusesTable : List ℕ → TableError → Type 0
RefusesTable bytes errors.Memory = ⊤
RefusesTable bytes errors.Read = ⊥
RefusesTable bytes errors.Write = ⊥
RefusesTable bytes errors.TooLong = ⊥
RefusesTable bytes errors.NoText = ¬ IsUtf8 bytes
RefusesTable bytes errors.NoPlans = ⊥
RefusesTable bytes (errors.Line number) = RefusesLine (lines bytes) number
