-- Sets of pages, and the words that keep one, 64 pages to a word. A bitmap with a bit for each dirty page is from Clark
-- and others (2005), section 5.1; the words are this project's own.
use Rattle.std.specs.Prelude.{◌≡◌, ℕ, ◌/◌, ◌%◌, Bool, false, not, ◌&&◌, ◌||◌, ◌==◌, IsTrue, List, slice_index}
use Rattle.std.specs.Int.{bit_at}

-- a set of pages, by the test of its members
abbrev pub PageSet : Type 0
PageSet = ℕ → Bool

abbrev pub no_page : PageSet
no_page page = false

-- only this page
abbrev pub one_page : ℕ → PageSet
one_page one page = page == one

-- the 64 pages of a word
abbrev pub word_pages : ℕ → PageSet
word_pages word page = page / 64 == word

-- the pages of a word that these bits name, the lowest bit first
abbrev pub bit_pages : ℕ → ℕ → PageSet
bit_pages word bits page = (page / 64 == word) && (bit_at bits (page % 64) == 1)

-- the pages that a list of words names, from page 0 on
abbrev pub in_words : List ℕ → PageSet
in_words words page = bit_at (slice_index words (page / 64)) (page % 64) == 1

-- the pages of either set
abbrev pub union : PageSet → PageSet → PageSet
union some others page = some page || others page

-- the pages of both sets
abbrev pub common : PageSet → PageSet → PageSet
common some others page = some page && others page

-- the pages of the first set that are not in the second
abbrev pub minus : PageSet → PageSet → PageSet
minus some others page = some page && not (others page)

-- each page of the first set is in the second
abbrev pub IsWithin : PageSet → PageSet → Type 0
IsWithin some others = (page : ℕ) → IsTrue (some page) → IsTrue (others page)

-- two sets have the same pages
abbrev pub SamePages : PageSet → PageSet → Type 0
SamePages some others = (page : ℕ) → some page ≡ others page
