-- Pages of a guest that are drawn again, and a guest that consists of them: page `n` of it is page `drawn[n]` of the
-- other, and is written whenever that page is. So a page that is drawn three times counts three times in each sum of a
-- plan, and one that is not drawn counts in none. The idea is the bootstrap of Efron, "Bootstrap Methods: Another Look
-- at the Jackknife" (1979).
use Rattle.std.specs.Prelude.{ℕ, ◌==◌, ◌≤◌, ◌<◌, List, length, map, slice_index}
use Rattle.std.specs.List.{All, filter, flat_map, range_with_len}
use Rattle.migration_model.specs.Touches.{GuestTouch, touch_with}
use Rattle.page_bitmap.specs.Pages.{in_words}

-- where a page is among those drawn
abbrev pub places_of : List ℕ → ℕ → List ℕ
places_of drawn page = filter (λ place. page == slice_index drawn place) (range_with_len 0 (length drawn))

-- the touches of the guest of the drawn pages
abbrev pub redrawn_touches : List ℕ → List GuestTouch → List GuestTouch
redrawn_touches drawn touches = flat_map (λ touch. map (touch_with touch.tick) (places_of drawn touch.page)) touches

-- pages drawn from a guest of `pages`, no more of them than a guest may have
pub record AreDrawn (pages : ℕ) (drawn : List ℕ) : Type 0 where
  pub few : length drawn ≤ 65_536
  pub each : All (λ page. page < pages) drawn

-- the drawn pages that a bitmap has, by their places
abbrev pub places_in : List ℕ → List ℕ → List ℕ
places_in drawn set = filter (λ place. in_words set (slice_index drawn place)) (range_with_len 0 (length drawn))
