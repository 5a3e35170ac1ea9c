-- What is told of a table that has no answer. It follows `precopy-schedule: ` in a fault line.
use Rattle.std.specs.Prelude.{ℕ, ◌++◌, List, codes}
use Rattle.std.specs.Fmt.{decimal}
use Rattle.move_schedules.specs.declared.error.TableError.{TableError}
use Rattle.move_schedules.specs.declared.error.TableError.TheVariants as errors

abbrev pub line_cause : ℕ → List ℕ
line_cause number =
    codes "line " ++ (decimal number ++ codes " is no plan: slots, a deadline, and five numbers for each guest")

abbrev pub cause_of : TableError → List ℕ
cause_of errors.Memory = codes "memory"
cause_of errors.Read = codes "read"
cause_of errors.Write = codes "write"
cause_of errors.TooLong = codes "more than 268,435,456 bytes"
cause_of errors.NoText = codes "the table is no text"
cause_of errors.NoPlans = codes "there is no plan"
cause_of (errors.Line number) = line_cause number
