-- What is wrong at the end of all streams: a page that never came, or lacks a write. This project's own.
use Rattle.std.specs.Prelude.{◌≡◌, ◌≢◌, ◌<◌, ℕ, ◌==◌, nat_le, nat_lt, if◌then◌else◌, List, Option, Some}
use Rattle.std.specs.Prelude.{slice_index, unwrap_or}
use Rattle.std.specs.List.{filter}
use Rattle.migration_model.specs.Trace.{GuestTrace}
use Rattle.page_versions.specs.Index.{places_of, version_after}
use Rattle.page_versions.specs.Pages.{write_at}
use Rattle.stream_check.specs.Stamps.{stamp_of}
use Rattle.stream_check.specs.declared.faults.WrongPage.{WrongPage}

-- the page came, and its greatest stamp is its version at the stop
abbrev pub IsCurrent : GuestTrace → ℕ → List (Option ℕ) → ℕ → Type 0
IsCurrent trace stop greatest page = stamp_of greatest page ≡ Some (version_after trace page stop)

-- this holds of each page of the guest
abbrev pub AreCurrentStamps : GuestTrace → ℕ → List (Option ℕ) → Type 0
AreCurrentStamps trace stop greatest = (page : ℕ) → page < trace.pages → IsCurrent trace stop greatest page

-- the places of the writes that a page with this stamp lacks at the stop, in ascending order
abbrev pub places_missing : GuestTrace → ℕ → ℕ → Option ℕ → List ℕ
places_missing trace stop page stamp =
    filter (λ place. nat_le place stop) (filter (λ place. nat_lt (unwrap_or stamp 0) place) (places_of trace page))

-- the tick of the write at a place; 0 if there is none
abbrev pub tick_of_place : GuestTrace → ℕ → ℕ
tick_of_place trace place = if place == 0 then 0 else (write_at trace.writes place).tick

-- the first page that is not current, its greatest stamp, its version at the stop, and the first write that it lacks
pub record IsFirstBehind (trace : GuestTrace) (stop : ℕ) (greatest : List (Option ℕ)) (found : WrongPage) : Type 0 where
  pub page : found.page < trace.pages
  pub first : (page : ℕ) → page < found.page → IsCurrent trace stop greatest page
  pub stamp : found.stamp ≡ stamp_of greatest found.page
  pub wanted : found.wanted ≡ version_after trace found.page stop
  pub behind : found.stamp ≢ Some found.wanted
  pub missing : found.missing ≡ slice_index (places_missing trace stop found.page found.stamp) 0
  pub tick : found.tick ≡ tick_of_place trace found.missing
