-- What a core opens with, and who owns which page. This project's own.
use Rattle.std.specs.Prelude.{◌≡◌, ℕ, ◌*◌, ◌/◌, ◌%◌, ◌<◌, ◌≤◌, IsTrue, List, length}
use Rattle.page_bitmap.specs.Listing.{word_count}
use Rattle.page_bitmap.specs.Pages.{in_words}

-- the place of each page, the marked pages by words, and how many guests and copiers there are
pub record Start : Type 0 where
  pub places : List ℕ
  pub dirty : List ℕ
  pub guests : ℕ
  pub copiers : ℕ

abbrev pub start_with : List ℕ → List ℕ → ℕ → ℕ → Start
start_with places dirty guests copiers = record { places = places; dirty = dirty; guests = guests; copiers = copiers }

-- what may be opened with: some pages, a word for each 64 pages begun, and no mark past the last page
pub record IsStart (start : Start) : Type 0 where
  pub some : 1 ≤ length start.places
  pub few : length start.places ≤ 65_536
  pub words : length start.dirty ≡ word_count (length start.places)
  pub real : (page : ℕ) → IsTrue (in_words start.dirty page) → page < length start.places
  pub guests_low : 1 ≤ start.guests
  pub guests_high : start.guests ≤ 16
  pub copiers_low : 1 ≤ start.copiers
  pub copiers_high : start.copiers ≤ 16

-- how many pages, guests and copiers there are
pub record Sizes : Type 0 where
  pub pages : ℕ
  pub guests : ℕ
  pub copiers : ℕ

abbrev pub sizes_of : Start → Sizes
sizes_of start = record { pages = length start.places; guests = start.guests; copiers = start.copiers }

-- a page's guest: pages go round the guests one by one
abbrev pub guest_of : Sizes → ℕ → ℕ
guest_of sizes page = page % sizes.guests

-- a word's copier: words go round the copiers one by one
abbrev pub word_copier : Sizes → ℕ → ℕ
word_copier sizes word = word % sizes.copiers

-- a page's copier is that of its word
abbrev pub copier_of : Sizes → ℕ → ℕ
copier_of sizes page = word_copier sizes (page / 64)

-- the page and the guest exist, and the page is the guest's
pub record GuestOwns (sizes : Sizes) (guest page : ℕ) : Type 0 where
  pub page_real : page < sizes.pages
  pub guest_real : guest < sizes.guests
  pub owner : guest_of sizes page ≡ guest

-- the word and the copier exist, and the word is the copier's
pub record CopierOwns (sizes : Sizes) (copier word : ℕ) : Type 0 where
  pub word_real : 64 * word < sizes.pages
  pub copier_real : copier < sizes.copiers
  pub owner : word_copier sizes word ≡ copier

-- the page exists, and its word is the copier's
pub record CopierOwnsPage (sizes : Sizes) (copier page : ℕ) : Type 0 where
  pub page_real : page < sizes.pages
  pub word : CopierOwns sizes copier (page / 64)
