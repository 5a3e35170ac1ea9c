-- What a caller sees of standard errors, and what it lends for them.
use Rattle.std.specs.Prelude.{◌≡◌, ◌≤◌, ◌+◌, ◌*◌, ℕ, length, Option}
use Rattle.migration_model.specs.Touches.{touches_of}
use Rattle.migration_model.specs.Trace.{GuestTrace}
use Rattle.page_bitmap.specs.Listing.{word_count}
use Rattle.predictions.specs.Questions.{error_numbers}
use Rattle.predictions.specs.declared.answer.ErrorNumbers.{ErrorNumbers}
use Rattle.predictions.specs.declared.question.Terms.{Terms}
use Rattle.predictions.specs.Redrawn.Errors.{AreErrors, HasErrors, SampleErrors}
use Rattle.browser_planner.specs.declared.errors.ErrorRoom.{ErrorRoom}

-- these are the standard errors of what the plan of a trace predicts, if there are any
pub record AreNumbersOf (terms : Terms) (numbers : ErrorNumbers) (trace : GuestTrace) : Type 0 where
  pub errors : Option SampleErrors
  pub are_errors : AreErrors terms.manner trace.pages (touches_of trace) terms.settings terms.scale errors
  pub numbers_are : numbers ≡ error_numbers errors

-- how long what a caller lends for standard errors is: room for touches, room for a sample, and bits
abbrev pub room_of : ℕ → ℕ → ℕ → ErrorRoom
room_of touches sample bits = record { touches = touches; sample = sample; bits = bits }

-- this is enough for the plans of a trace's redrawn pages
pub record HasRoom (terms : Terms) (room : ErrorRoom) (trace : GuestTrace) : Type 0 where
  pub touches : length trace.writes ≤ room.touches
  pub sample : 2 * terms.scale.sampled ≤ room.sample
  pub bits : 2 * word_count trace.pages + word_count terms.scale.sampled ≤ room.bits

-- this is enough for the standard errors of a trace, which may have none
abbrev pub HasRoomFor : Terms → ErrorRoom → GuestTrace → Type 0
HasRoomFor terms room trace = HasErrors terms.scale → HasRoom terms room trace
