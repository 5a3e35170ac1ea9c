-- The cases of lines of a sweep, and of parts of some settings.
use Rattle.std.proofs.Common.{◌≡◌, ◌∙◌, ℕ, ◌+◌, ◌*◌, ◌/◌, ◌%◌, ◌<◌, ◌≤◌, min, List, [], ◌∷◌, ◌++◌, length, map, take}
use Rattle.std.proofs.Common.{drop, refl, sym, ap, subst, arith, zero, suc}
use Rattle.std.specs.Fork.{slice_chunk}
use Rattle.std.specs.List.{AllZip}
use Rattle.std.proofs.Math.Nat.{mod-lt}
use Rattle.std.proofs.lemmas.Nat.{div-add-mod'}
use Rattle.std.proofs.lemmas.List.{drop-take, take-append-drop, take-take, take_all}
use Rattle.migration_model.specs.Rates.{MigrationSettings}
use Rattle.migration_model.specs.Sweeps.{AreLines, IsLineOf, SweepLine}
use Rattle.migration_model.specs.Touches.{GuestTouch}
use Rattle.predictions.specs.Starts.Cases.{AreCases, IsCaseOf, case_of_line}
use Rattle.predictions.specs.Units.Scales.{TraceScale}
use Rattle.predictions.specs.declared.course.Manner.{Manner}
use Rattle.predictions.specs.declared.course.Manner.TheVariants as manners
use Rattle.predictions.specs.declared.starts.planned.PlannedCase.{PlannedCase}

-- the case of a line is one by rounds
case_of_one : (pages : ℕ) (touches : List GuestTouch) (scale : TraceScale) (s : MigrationSettings) (line : SweepLine)
    → IsLineOf pages touches s line → IsCaseOf manners.Rounds pages touches scale s (case_of_line line)
case_of_one pages touches scale s line is =
    record { settings_are = is.settings_are; is_course = (line.outcome, is.is_outcome, refl) }

-- and so are those of all lines of a sweep
pub cases_by_rounds : (pages : ℕ) (touches : List GuestTouch) (scale : TraceScale) (settings : List MigrationSettings)
    (lines : List SweepLine) → AreLines pages touches settings lines
    → AreCases manners.Rounds pages touches scale settings (map case_of_line lines)
cases_by_rounds pages touches scale [] [] are = tt
cases_by_rounds pages touches scale [] (line ∷ lines) are = absurd are
cases_by_rounds pages touches scale (s ∷ settings) [] are = absurd are
cases_by_rounds pages touches scale (s ∷ settings) (line ∷ lines) are =
    (case_of_one pages touches scale s line are.0, cases_by_rounds pages touches scale settings lines are.1)

zip_append : {X Y : Type 0} (R : X → Y → Type 0) (xs more : List X) (ys others : List Y) → AllZip R xs ys
    → AllZip R more others → AllZip R (xs ++ more) (ys ++ others)
zip_append R [] more [] others all rest = rest
zip_append R [] more (y ∷ ys) others all rest = absurd all
zip_append R (x ∷ xs) more [] others all rest = absurd all
zip_append R (x ∷ xs) more (y ∷ ys) others all rest = (all.0, zip_append R xs more ys others all.1 rest)

-- one part more
part_more : {X : Type 0} (xs : List X) (size n : ℕ)
    → take ((n + 1) * size) xs ≡ take (n * size) xs ++ slice_chunk xs size n
part_more xs size n =
    let both : (n + 1) * size ≡ n * size + size = omega arith in
    let front : take (n * size) (take (n * size + size) xs) ≡ take (n * size) xs =
    take-take (n * size) (n * size + size) xs (omega arith) in
    ap (λ k. take k xs) both ∙ sym (take-append-drop (n * size) (take (n * size + size) xs))
    ∙ ap (λ l. l ++ drop (n * size) (take (n * size + size) xs)) front
    ∙ ap (λ l. take (n * size) xs ++ l) (drop-take (n * size) size xs)

pub cases_of_part_more : (manner : Manner) (pages : ℕ) (touches : List GuestTouch) (scale : TraceScale) (size n : ℕ)
    (settings : List MigrationSettings) (cases part new : List PlannedCase) → new ≡ cases ++ part
    → AreCases manner pages touches scale (take (n * size) settings) cases
    → AreCases manner pages touches scale (slice_chunk settings size n) part
    → AreCases manner pages touches scale (take ((n + 1) * size) settings) new
cases_of_part_more manner pages touches scale size n settings cases part new is before one =
    let R : MigrationSettings → PlannedCase → Type 0 = IsCaseOf manner pages touches scale in
    let front = take (n * size) settings in
    let next = slice_chunk settings size n in
    let C : List MigrationSettings → Type 0 = λ ss. AreCases manner pages touches scale ss new in
    let D : List PlannedCase → Type 0 = λ cs. AreCases manner pages touches scale (front ++ next) cs in
    subst C (sym (part_more settings size n)) (subst D (sym is) (zip_append R front next cases part before one))

enough : (r size : ℕ) → r < size → r ≤ min 1 r * size
enough zero size low = omega arith
enough (suc r) size low = let one : min 1 (suc r) ≡ 1 = omega arith in rw one (omega (arith, low))

-- so many parts of a size have room for all
room_for : (count n size : ℕ) → 0 < size → count ≡ n / size + min 1 (n % size) → n ≤ count * size
room_for count n size some is =
    let grow : (n / size + min 1 (n % size)) * size ≡ n / size * size + min 1 (n % size) * size = omega arith in
    rw (is, grow) (omega (arith, div-add-mod' n size, enough (n % size) size (mod-lt n some)))

-- the parts of a list are all of it
pub all_parts : {X : Type 0} (xs : List X) (size count : ℕ) → 0 < size
    → count ≡ length xs / size + min 1 (length xs % size) → take (count * size) xs ≡ xs
all_parts xs size count some is = take_all (count * size) xs (room_for count (length xs) size some is)
