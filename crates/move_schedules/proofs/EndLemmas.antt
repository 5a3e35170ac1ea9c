-- What is known of the bytes that a source had, from those that were read.
use Rattle.std.proofs.Common.{ℕ, ◌^◌, ◌<◌, ◌≤◌, List, ◌++◌, length, Option, Some, None, ap, sym, ◌∙◌, subst}
use Rattle.std.proofs.Common.{arith, length-append}
use Rattle.std.specs.Prelude.{IfSome}
use Rattle.std.proofs.lemmas.List.{append-nil}
use Rattle.trace_codec.specs.Source.{ReadsWhole}
use Rattle.move_schedules.specs.Ends.{IsRefused, RefusesBytes, RefusesPlans}
use Rattle.move_schedules.specs.Tables.{HostPlan, RefusesTable, SpellsTable}
use Rattle.move_schedules.specs.declared.error.TableError.{TableError}
use Rattle.move_schedules.specs.declared.error.TableError.TheVariants as errors

pub known_whole : (P : List ℕ → Type 0) (old new : Option (List ℕ)) (bytes : List ℕ) → ReadsWhole old new bytes
    → length bytes ≤ 2 ^ 28 → P bytes → IfSome old P
known_whole P None new bytes whole few is = tt
known_whole P (Some all) None bytes whole few is = absurd whole.0
known_whole P (Some all) (Some rest) bytes whole few is =
    subst P (sym (whole.0 ∙ ap (λ (l : List ℕ). bytes ++ l) (whole.1 few) ∙ append-nil bytes)) is

too_long : (old new : Option (List ℕ)) (bytes : List ℕ) → ReadsWhole old new bytes → 2 ^ 28 < length bytes
    → IsRefused old errors.TooLong
too_long None new bytes whole long = tt
too_long (Some all) None bytes whole long = absurd whole.0
too_long (Some all) (Some rest) bytes whole long =
    omega (arith, ap (λ (l : List ℕ). length l) whole.0, length-append bytes rest)

-- nothing is said of a want of memory, nor of a read or a write that failed
pub outside : (old : Option (List ℕ)) (e : TableError) → ((bytes : List ℕ) → RefusesBytes bytes e) → IsRefused old e
outside None e holds = tt
outside (Some bytes) e holds = holds bytes

pub refused_known : (old new : Option (List ℕ)) (bytes : List ℕ) (e : TableError) → ReadsWhole old new bytes
    → RefusesBytes bytes e → IsRefused old e
refused_known old new bytes errors.Memory whole is = outside old errors.Memory (λ _. tt)
refused_known old new bytes errors.Read whole is = outside old errors.Read (λ _. tt)
refused_known old new bytes errors.Write whole is = outside old errors.Write (λ _. tt)
refused_known old new bytes errors.TooLong whole is = too_long old new bytes whole is
refused_known old new bytes errors.NoText whole is =
    known_whole (λ (b : List ℕ). RefusesBytes b errors.NoText) old new bytes whole is.0 is
refused_known old new bytes errors.NoPlans whole is =
    known_whole (λ (b : List ℕ). RefusesBytes b errors.NoPlans) old new bytes whole is.0 is
refused_known old new bytes (errors.Line number) whole is =
    known_whole (λ (b : List ℕ). RefusesBytes b (errors.Line number)) old new bytes whole is.0 is

-- a table that is none, and one whose plans have no answer
pub table_refused : (bytes : List ℕ) (e : TableError) → length bytes ≤ 2 ^ 28 → RefusesTable bytes e
    → RefusesBytes bytes e
table_refused bytes errors.Memory few is = tt
table_refused bytes errors.Read few is = tt
table_refused bytes errors.Write few is = tt
table_refused bytes errors.TooLong few is = absurd is
table_refused bytes errors.NoText few is = (few, is)
table_refused bytes errors.NoPlans few is = absurd is
table_refused bytes (errors.Line number) few is = (few, is)

pub plans_refused : (bytes : List ℕ) (plans : List HostPlan) (e : TableError) → length bytes ≤ 2 ^ 28
    → SpellsTable bytes plans → RefusesPlans plans e → RefusesBytes bytes e
plans_refused bytes plans errors.Memory few spelled is = tt
plans_refused bytes plans errors.Read few spelled is = tt
plans_refused bytes plans errors.Write few spelled is = tt
plans_refused bytes plans errors.TooLong few spelled is = absurd is
plans_refused bytes plans errors.NoText few spelled is = absurd is
plans_refused bytes plans errors.NoPlans few spelled is =
    (few, subst (λ (l : List HostPlan). SpellsTable bytes l) is spelled)
plans_refused bytes plans (errors.Line number) few spelled is = absurd is
