-- The pages of a bitmap as a list, and how many words a bitmap has.
use Rattle.std.specs.Prelude.{ℕ, ◌+◌, ◌*◌, ◌/◌, List, length}
use Rattle.std.specs.List.{filter, range_with_len}
use Rattle.page_bitmap.specs.Pages.{bit_pages, in_words}

-- how many words a bitmap of `pages` pages has
abbrev pub word_count : ℕ → ℕ
word_count pages = (pages + 63) / 64

-- the pages that these bits of a word name, in ascending order
unfoldable pub pages_of_word : ℕ → ℕ → List ℕ
pages_of_word word bits = filter (bit_pages word bits) (range_with_len (word * 64) 64)

-- the pages of a bitmap, in ascending order
abbrev pub pages_of : List ℕ → List ℕ
pages_of words = filter (in_words words) (range_with_len 0 (length words * 64))
