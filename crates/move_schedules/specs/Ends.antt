-- How the program ends.
use Rattle.std.specs.Prelude.{◌≡◌, ◌≢◌, ◌↔◌, ◌^◌, ◌<◌, ◌≤◌, [], ℕ, Bool, true, List, length, ⊤, Option, IfSome}
use Rattle.std.specs.Io.KnownBytes.{Appends}
use Rattle.byte_sinks.specs.Sink.{AppendsPart}
use Rattle.move_schedules.specs.Answers.{IsAnswerText}
use Rattle.move_schedules.specs.Tables.{HostPlan, RefusesTable, SpellsTable}
use Rattle.move_schedules.specs.declared.error.TableError.{TableError}
use Rattle.move_schedules.specs.declared.error.TableError.TheVariants as errors

-- why plans have no answer; nothing is said of other errors
abbrev pub RefusesPlans : List HostPlan → TableError → Type 0
RefusesPlans plans errors.Memory = ⊤
RefusesPlans plans errors.Read = ⊥
RefusesPlans plans errors.Write = ⊥
RefusesPlans plans errors.TooLong = ⊥
RefusesPlans plans errors.NoText = ⊥
RefusesPlans plans errors.NoPlans = plans ≡ []
RefusesPlans plans (errors.Line number) = ⊥

-- the text answers the table that these bytes are
pub record Answers (text bytes : List ℕ) : Type 0 where
  pub plans : List HostPlan
  pub spelled : SpellsTable bytes plans
  pub told : IsAnswerText plans text

-- the bytes have no answer for this: they are too many, or not, and are no table
abbrev pub RefusesBytes : List ℕ → TableError → Type 0
RefusesBytes bytes errors.Memory = ⊤
RefusesBytes bytes errors.Read = ⊤
RefusesBytes bytes errors.Write = ⊤
RefusesBytes bytes errors.TooLong = 2 ^ 28 < length bytes
RefusesBytes bytes errors.NoText = (length bytes ≤ 2 ^ 28) × RefusesTable bytes errors.NoText
RefusesBytes bytes errors.NoPlans = (length bytes ≤ 2 ^ 28) × SpellsTable bytes []
RefusesBytes bytes (errors.Line number) = (length bytes ≤ 2 ^ 28) × RefusesTable bytes (errors.Line number)

-- the bytes of a source have no answer for this, if they are known
abbrev pub IsRefused : Option (List ℕ) → TableError → Type 0
IsRefused known e = IfSome known (λ bytes. RefusesBytes bytes e)

-- a text that answers the bytes of the source, if they are known, or a prefix of it, was added to what a sink held
abbrev pub WritesAnswer : Option (List ℕ) → Option (List ℕ) → Option (List ℕ) → Type 0
WritesAnswer known old new = (text : List ℕ) × Appends old new text × IfSome known (Answers text)

abbrev pub WritesAnswerPart : Option (List ℕ) → Option (List ℕ) → Option (List ℕ) → Type 0
WritesAnswerPart known old new = (text : List ℕ) × AppendsPart old new text × IfSome known (Answers text)

-- A run failed for a cause, which was told. `unread` and `unwritten` say whether the source and the sink failed. The
-- sink holds a prefix of the answer if a write failed, and is otherwise as it was: `is_kept`.
pub record HasFailed (known : Option (List ℕ)) (unread unwritten : Bool) (old new : Option (List ℕ))
    (is_kept : Type 0) (tells : TableError → Type 0) : Type 0 where
  pub error : TableError
  pub cause : IsRefused known error
  pub read_failed : (error ≡ errors.Read) ↔ (unread ≡ true)
  pub write_failed : (error ≡ errors.Write) ↔ (unwritten ≡ true)
  pub part : error ≡ errors.Write → WritesAnswerPart known old new
  pub kept : error ≢ errors.Write → is_kept
  pub told : tells error
