-- Which pages of a harvested word are held still.
use Rattle.std.proofs.Common.{◌≡◌, ℕ, ◌+◌, ◌*◌, ◌/◌, ◌%◌, ◌<◌, inl, inr, Bool, true, false, not, eqb, leb, ◌&&◌, ◌||◌}
use Rattle.std.proofs.Common.{sym, ap, subst, ◌∙◌, arith}
use Rattle.std.specs.Int.{bit_at}
use Rattle.std.proofs.lemmas.Bool.{cases_eq, cases_lt, and_from, eq-eqb, ne_eqb, le-leb}
use Rattle.std.proofs.Math.Bool.{and-true, and-false}
use Rattle.page_bitmap.specs.Pages.{in_words, bit_pages, one_page, minus, union, SamePages}
use Rattle.dirty_core.specs.Start.{sizes_of}
use Rattle.dirty_words.specs.Facts.{CopyFacts, OwnsWord, HoldsNone}
use Rattle.live_tasks.specs.Scans.{HoldsFrom, IsOwn}
use Rattle.live_tasks.proofs.Scanning.{and_false, and_true}
use Rattle.live_tasks.proofs.Basics.{false_leb}

place : (word bit : ℕ) → bit < 64 → ((64 * word + bit) / 64 ≡ word) × ((64 * word + bit) % 64 ≡ bit)
place word bit low = (omega (arith, low), omega (arith, low))

pub shown : (word bits bit : ℕ) → bit < 64 → bit_at bits bit ≡ 1 → bit_pages word bits (64 * word + bit) ≡ true
shown word bits bit low is =
    let at = place word bit low in
    and_from _ _ (eq-eqb _ _ at.0) (eq-eqb _ _ (ap (bit_at bits) at.1 ∙ is))

hidden : (word bits bit : ℕ) → bit < 64 → (bit_at bits bit ≡ 1 → ⊥) → bit_pages word bits (64 * word + bit) ≡ false
hidden word bits bit low not_there =
    let at = place word bit low in
    ap (λ (b : Bool). eqb ((64 * word + bit) / 64) word && b)
    (ne_eqb _ _ (λ e. not_there (sym (ap (bit_at bits) at.1) ∙ e))) ∙ and-false (eqb ((64 * word + bit) / 64) word)

-- from one bit on, or from the next: the same but for the page of that bit
same_else : (from page : ℕ) → (page ≡ from → ⊥) → leb from page ≡ leb (from + 1) page
same_else from page apart = elim (cases_lt page from) [
  | inl lt ↦ false_leb from page lt ∙ sym (false_leb (from + 1) page (omega (arith, lt)))
  | inr ge ↦ le-leb from page ge ∙ sym (le-leb (from + 1) page (omega (arith, ge, apart)))
]

next_from : (word bit page : ℕ) → leb (64 * word + bit + 1) page ≡ leb (64 * word + (bit + 1)) page
next_from word bit page = ap (λ (n : ℕ). leb n page) (omega arith)

-- the page of a bit is no longer held
pub holds_less : (word bits bit : ℕ) (f new : CopyFacts) → HoldsFrom word bits bit f
    → SamePages (in_words new.held) (minus (in_words f.held) (one_page (64 * word + bit)))
    → HoldsFrom word bits (bit + 1) new
holds_less word bits bit f new holds less page =
    let from : ℕ = 64 * word + bit in
    elim (cases_eq page from) [
      | inl e ↦ less page ∙ ap (λ (b : Bool). in_words f.held page && not b) (eq-eqb page from e)
          ∙ and_false (in_words f.held page)
          ∙ sym (ap (λ (b : Bool). bit_pages word bits page && b)
          (false_leb (64 * word + (bit + 1)) page (omega (arith, e))) ∙ and-false (bit_pages word bits page))
      | inr apart ↦ less page ∙ ap (λ (b : Bool). in_words f.held page && not b) (ne_eqb page from apart)
          ∙ and_true (in_words f.held page)
          ∙ holds page ∙ ap (λ (b : Bool). bit_pages word bits page && b)
          (same_else from page apart ∙ next_from word bit page)
    ]

-- after the harvest all its pages are held
pub holds_all : (word bits : ℕ) (old new : CopyFacts) → HoldsNone old
    → SamePages (in_words new.held) (union (in_words old.held) (bit_pages word bits))
    → SamePages (in_words new.held) (bit_pages word bits)
holds_all word bits old new none union page = union page ∙ ap (λ (b : Bool). b || bit_pages word bits page) (none page)

pub holds_first : (word bits : ℕ) (f : CopyFacts) → SamePages (in_words f.held) (bit_pages word bits)
    → HoldsFrom word bits 0 f
holds_first word bits f same page = elim (cases_eq (page / 64) word) [
  | inl e ↦ same page ∙ sym (ap (λ (b : Bool). bit_pages word bits page && b)
      (le-leb (64 * word + 0) page (omega (arith, e))) ∙ and-true (bit_pages word bits page))
  | inr apart ↦
      let none : bit_pages word bits page ≡ false = ap (λ (b : Bool). b && eqb (bit_at bits (page % 64)) 1)
      (ne_eqb (page / 64) word apart) in
      same page ∙ none ∙ sym (ap (λ (b : Bool). b && leb (64 * word + 0) page) none)
]

pub own_page : (word bits bit pages : ℕ) (f : CopyFacts) → bit < 64 → OwnsWord f word
    → 64 * word + bit < (sizes_of f.start).pages → IsOwn f (64 * word + bit)
own_page word bits bit pages f low own real = record {
  page_real = real;
  word = subst (λ (w : ℕ). OwnsWord f w) (sym (place word bit low).0) own;
}
