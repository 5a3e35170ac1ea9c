-- The numbers that callers see for refusals. Those of traces are the numbers of their names in fault lines, E1 to E17;
-- those of settings, S1 to S10, begin at 21; those of a question that is out of range, in the order in which it is
-- tested, and of a trace that does not have its scale, begin at 81. This project's own.
use Rattle.std.specs.Prelude.{ℕ, Option, Some, None, unwrap_or}
use Rattle.trace_codec.specs.declared.error.TraceError.{TraceError}
use Rattle.trace_codec.specs.declared.error.TraceError.TheVariants as traces
use Rattle.rate_limit.specs.declared.error.SettingsError.{SettingsError}
use Rattle.rate_limit.specs.declared.error.SettingsError.TheVariants as settings
use Rattle.predictions.specs.declared.units.error.UnitsError.{UnitsError}
use Rattle.predictions.specs.declared.units.error.UnitsError.TheVariants as units
use Rattle.predictions.specs.declared.question.Misfit.{Misfit}
use Rattle.predictions.specs.declared.question.Misfit.TheVariants as misfits

abbrev pub number_of_trace : TraceError → ℕ
number_of_trace traces.ShortHeader = 1
number_of_trace traces.BadMagic = 2
number_of_trace traces.BadVersion = 3
number_of_trace traces.BadShift = 4
number_of_trace traces.BadReserved = 5
number_of_trace traces.BadPages = 6
number_of_trace traces.TooManyWrites = 7
number_of_trace (traces.ShortRecord record_number) = 8
number_of_trace (traces.TickOrder record_number) = 9
number_of_trace (traces.TickTooLarge record_number) = 10
number_of_trace (traces.PageOutOfRange record_number) = 11
number_of_trace (traces.EmptyWrite record_number) = 12
number_of_trace (traces.OutOfPage record_number) = 13
number_of_trace traces.TrailingBytes = 14
number_of_trace traces.TooLong = 15
number_of_trace traces.Memory = 16
number_of_trace traces.ReadFault = 17

abbrev pub number_of_settings : SettingsError → ℕ
number_of_settings settings.MinRate = 21
number_of_settings settings.MaxRate = 22
number_of_settings settings.Increment = 23
number_of_settings settings.Threshold = 24
number_of_settings settings.Rounds = 25
number_of_settings settings.WindowLength = 26
number_of_settings settings.HotWindows = 27
number_of_settings settings.StartTick = 28
number_of_settings settings.Parallelism = 29
number_of_settings settings.BaseTick = 30

abbrev pub number_of_units : UnitsError → ℕ
number_of_units units.Tick = 81
number_of_units units.Page = 82
number_of_units units.Sampled = 83
number_of_units units.Link = 84
number_of_units units.First = 85
number_of_units units.Reserve = 86
number_of_units units.Downtime = 87
number_of_units (units.Setting e) = number_of_settings e

abbrev pub number_of_misfit : Misfit → ℕ
number_of_misfit misfits.PageSize = 88
number_of_misfit misfits.TooManyPages = 89

-- the record that a refusal of a trace names
abbrev pub record_in : TraceError → Option ℕ
record_in traces.ShortHeader = None
record_in traces.BadMagic = None
record_in traces.BadVersion = None
record_in traces.BadShift = None
record_in traces.BadReserved = None
record_in traces.BadPages = None
record_in traces.TooManyWrites = None
record_in (traces.ShortRecord number) = Some number
record_in (traces.TickOrder number) = Some number
record_in (traces.TickTooLarge number) = Some number
record_in (traces.PageOutOfRange number) = Some number
record_in (traces.EmptyWrite number) = Some number
record_in (traces.OutOfPage number) = Some number
record_in traces.TrailingBytes = None
record_in traces.TooLong = None
record_in traces.Memory = None
record_in traces.ReadFault = None

-- the record that a caller is told of a refused trace: the one that is named, or else what was there before
abbrev pub record_after : TraceError → ℕ → ℕ
record_after e old = unwrap_or (record_in e) old
