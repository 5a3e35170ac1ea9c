-- Memory beside that after the first writes of a trace, byte by byte.
use Rattle.std.proofs.Common.{◌≡◌, ◌≢◌, ℕ, ◌+◌, ◌-◌, ◌*◌, ◌^◌, ◌<◌, ◌≤◌, List, length, get_or, min, take, drop}
use Rattle.std.proofs.Common.{inl, inr, sym, ap, subst, ◌∙◌, arith}
use Rattle.std.proofs.Math.Nat.{mul-le-mul_right}
use Rattle.std.proofs.lemmas.Bool.{cases_eq, cases_lt}
use Rattle.std.proofs.lemmas.Grind.{same_number_lists}
use Rattle.std.proofs.lemmas.List.{get_or-drop, get_or-take}
use Rattle.std.proofs.lemmas.List.Edits.{get_or-between}
use Rattle.migration_model.specs.Memory.{GuestMemory, image_after, page_of}
use Rattle.migration_model.specs.Trace.{GuestTrace, IsTrace}
use Rattle.migration_model.specs.Versions.{page_at}
use Rattle.page_versions.specs.Index.{version_after}
use Rattle.page_versions.specs.Pages.{write_at}
use Rattle.stream_check.specs.Ends.{tick_of_place}
use Rattle.open_checks.specs.Differences.{IsFirstWrongByte, IsLastTo, WritesByte}
use Rattle.open_checks.specs.declared.differences.WrongByte.{WrongByte}
use Rattle.open_checks.proofs.BaseWords.{image_is}

-- ---- the last write to a byte

-- none of the writes behind a place writes the byte
abbrev pub AreNoneBehind : GuestTrace → ℕ → ℕ → ℕ → Type 0
AreNoneBehind trace count byte place = (other : ℕ) → place < other → other ≤ count → other ≤ length trace.writes
    → ¬ WritesByte trace.shift byte (write_at trace.writes other)

pub none_at_end : (trace : GuestTrace) (count byte place : ℕ) → place ≡ min count (length trace.writes)
    → AreNoneBehind trace count byte place
none_at_end trace count byte place is other past low within = absurd (omega (arith, is, past, low, within))

pub none_one_less : (trace : GuestTrace) (count byte place : ℕ) → 1 ≤ place → AreNoneBehind trace count byte place
    → ¬ WritesByte trace.shift byte (write_at trace.writes place) → AreNoneBehind trace count byte (place - 1)
none_one_less trace count byte place some none not other past low within = elim (cases_eq other place) [
  | inl same ↦
      subst (λ (n : ℕ). ¬ WritesByte trace.shift byte (write_at trace.writes n)) (sym same) not
  | inr apart ↦ none other (omega (arith, past, apart, some)) low within
]

-- ---- bytes of pages

-- a byte of the slice of a page
pub slice_byte : (memory : List ℕ) (start size k : ℕ) → k < size
    → get_or (take size (drop start memory)) k 0 ≡ get_or memory (start + k) 0
slice_byte memory start size k low =
    get_or-take size (drop start memory) k 0 low ∙ get_or-drop start memory k 0

-- a byte of a page after some writes
pub page_byte : (trace : GuestTrace) (count page k : ℕ) → IsTrace trace → page < trace.pages → k < 2 ^ trace.shift
    → get_or (page_at trace page count) k 0 ≡ get_or (image_after trace count).bytes (page * 2 ^ trace.shift + k) 0
page_byte trace count page k is inside low =
    let n : ℕ = 2 ^ trace.shift in
    let bytes : List ℕ = (image_after trace count).bytes in
    ap (λ (m : GuestMemory). get_or (page_of m page) k 0) (image_is trace count is).0
    ∙ get_or-between bytes (page * n) (page * n + n) k 0 (omega (arith, low))

-- memory is the same up to a byte
abbrev pub AreSameTo : GuestTrace → ℕ → List ℕ → ℕ → Type 0
AreSameTo trace count memory end =
    (byte : ℕ) → byte < end → get_or memory byte 0 ≡ get_or (image_after trace count).bytes byte 0

-- and so it is some bytes further, if those of a page are
pub same_further : (trace : GuestTrace) (count page further : ℕ) (memory content room : List ℕ) → IsTrace trace
    → page < trace.pages → further ≤ 2 ^ trace.shift
    → AreSameTo trace count memory (page * 2 ^ trace.shift)
    → content ≡ take (2 ^ trace.shift) (drop (page * 2 ^ trace.shift) memory)
    → room ≡ page_at trace page count
    → ((k : ℕ) → k < further → get_or content k 0 ≡ get_or room k 0)
    → AreSameTo trace count memory (page * 2 ^ trace.shift + further)
same_further trace count page further memory content room is inside few before content_is room_is same byte low =
    let n : ℕ = 2 ^ trace.shift in
    let start : ℕ = page * n in
    elim (cases_lt byte start) [
      | inl below ↦ before byte below
      | inr above ↦
          let k : ℕ = byte - start in
          let at : start + k ≡ byte = omega (arith, above) in
          let near : k < further = omega (arith, above, low) in
          let within : k < n = omega (arith, near, few) in
          ap (λ (b : ℕ). get_or memory b 0) (sym at)
          ∙ sym (slice_byte memory start n k within)
          ∙ ap (λ (l : List ℕ). get_or l k 0) (sym content_is)
          ∙ same k near
          ∙ ap (λ (l : List ℕ). get_or l k 0) room_is
          ∙ page_byte trace count page k is inside within
          ∙ ap (λ (b : ℕ). get_or (image_after trace count).bytes b 0) at
    ]

-- one page further
pub same_page : (trace : GuestTrace) (count page : ℕ) (memory content room : List ℕ) → IsTrace trace
    → page < trace.pages → AreSameTo trace count memory (page * 2 ^ trace.shift)
    → content ≡ take (2 ^ trace.shift) (drop (page * 2 ^ trace.shift) memory)
    → room ≡ page_at trace page count → content ≡ room
    → AreSameTo trace count memory ((page + 1) * 2 ^ trace.shift)
same_page trace count page memory content room is inside before content_is room_is same =
    let end : page * 2 ^ trace.shift + 2 ^ trace.shift ≡ (page + 1) * 2 ^ trace.shift = omega arith in
    subst (AreSameTo trace count memory) end
    (same_further trace count page (2 ^ trace.shift) memory content room is inside (omega arith) before content_is
    room_is (λ k low. ap (λ (l : List ℕ). get_or l k 0) same))

-- all pages
pub same_all : (trace : GuestTrace) (count page : ℕ) (memory : List ℕ) → IsTrace trace
    → length memory ≡ trace.pages * 2 ^ trace.shift → trace.pages ≤ page
    → AreSameTo trace count memory (page * 2 ^ trace.shift) → memory ≡ (image_after trace count).bytes
same_all trace count page memory is len all same =
    let end : trace.pages * 2 ^ trace.shift ≤ page * 2 ^ trace.shift = mul-le-mul_right (2 ^ trace.shift) all in
    same_number_lists memory (image_after trace count).bytes (len ∙ sym (image_is trace count is).1)
    (λ byte low. same byte (omega (arith, low, len, end)))

-- the first byte of a page that differs is the first of all
pub first_wrong : (trace : GuestTrace) (count page index : ℕ) (memory content room : List ℕ) (found : WrongByte)
    → IsTrace trace → page < trace.pages → length memory ≡ trace.pages * 2 ^ trace.shift
    → AreSameTo trace count memory (page * 2 ^ trace.shift)
    → content ≡ take (2 ^ trace.shift) (drop (page * 2 ^ trace.shift) memory)
    → room ≡ page_at trace page count → index < 2 ^ trace.shift
    → ((k : ℕ) → k < index → get_or content k 0 ≡ get_or room k 0)
    → get_or content index 0 ≢ get_or room index 0
    → found.offset ≡ page * 2 ^ trace.shift + index → found.page ≡ page
    → found.version ≡ version_after trace page count
    → IsLastTo trace count (page * 2 ^ trace.shift + index) found.place
    → found.tick ≡ tick_of_place trace found.place
    → IsFirstWrongByte trace count memory found
first_wrong trace count page index memory content room found is inside len before content_is room_is low same other
    offset page_is version place tick =
    let n : ℕ = 2 ^ trace.shift in
    let start : ℕ = page * n in
    let end : (page + 1) * n ≤ trace.pages * n = mul-le-mul_right n (omega (arith, inside)) in
    let front = same_further trace count page index memory content room is inside (omega (arith, low)) before content_is
    room_is same in
    let base : found.page * n ≡ start = ap (λ (p : ℕ). p * n) page_is in
    let own : get_or content index 0 ≡ get_or memory (start + index) 0 =
    ap (λ (l : List ℕ). get_or l index 0) content_is ∙ slice_byte memory start n index low in
    let made : get_or room index 0 ≡ get_or (image_after trace count).bytes (start + index) 0 =
    ap (λ (l : List ℕ). get_or l index 0) room_is ∙ page_byte trace count page index is inside low in
    record {
      within = omega (arith, offset, low, end, len);
      first = λ byte below. front byte (omega (arith, below, offset));
      wrong = λ alike. other (own ∙ sym (ap (λ (b : ℕ). get_or memory b 0) offset) ∙ alike
          ∙ ap (λ (b : ℕ). get_or (image_after trace count).bytes b 0) offset ∙ sym made);
      page_begins = omega (arith, base, offset);
      page_ends = omega (arith, base, offset, low);
      version = version ∙ ap (λ (p : ℕ). version_after trace p count) (sym page_is);
      place = subst (λ (b : ℕ). IsLastTo trace count b found.place) (sym offset) place;
      tick = tick;
    }

-- ---- there is one

one_offset : (trace : GuestTrace) (count : ℕ) (memory : List ℕ) (a b : WrongByte)
    → IsFirstWrongByte trace count memory a
    → IsFirstWrongByte trace count memory b → ¬ (a.offset < b.offset)
one_offset trace count memory a b one two below = one.wrong (two.first a.offset below)

one_page : (size offset a b : ℕ) → a * size ≤ offset → offset < b * size + size → ¬ (b < a)
one_page size offset a b begins ends below =
    let more : (b + 1) * size ≤ a * size = mul-le-mul_right size (omega (arith, below)) in
    omega (arith, begins, ends, more)

one_last : (trace : GuestTrace) (count byte a b : ℕ) → IsLastTo trace count byte a → IsLastTo trace count byte b
    → ¬ (a < b)
one_last trace count byte a b one two below = elim two.own [
  | inl none ↦ omega (arith, none, below)
  | inr own ↦ one.last b below two.early two.within own
]

same_unless : (a b : ℕ) → ¬ (a < b) → ¬ (b < a) → a ≡ b
same_unless a b not_below not_above = omega (arith, not_below, not_above)

pub one_byte : (trace : GuestTrace) (count : ℕ) (memory : List ℕ) (a b : WrongByte)
    → IsFirstWrongByte trace count memory a → IsFirstWrongByte trace count memory b → a ≡ b
one_byte trace count memory a b one two =
    let size : ℕ = 2 ^ trace.shift in
    let offset : a.offset ≡ b.offset = same_unless a.offset b.offset (one_offset trace count memory a b one two)
    (one_offset trace count memory b a two one) in
    let page : a.page ≡ b.page = same_unless a.page b.page
    (one_page size a.offset b.page a.page (omega (arith, two.page_begins, offset)) one.page_ends)
    (one_page size a.offset a.page b.page one.page_begins (omega (arith, two.page_ends, offset))) in
    let version : a.version ≡ b.version =
    one.version ∙ ap (λ (p : ℕ). version_after trace p count) page ∙ sym two.version in
    let last : IsLastTo trace count b.offset a.place =
    subst (λ (n : ℕ). IsLastTo trace count n a.place) offset one.place in
    let place : a.place ≡ b.place = same_unless a.place b.place
    (one_last trace count b.offset a.place b.place last two.place)
    (one_last trace count b.offset b.place a.place two.place last) in
    let tick : a.tick ≡ b.tick = one.tick ∙ ap (tick_of_place trace) place ∙ sym two.tick in
    λ i. record { offset = offset i; page = page i; version = version i; place = place i; tick = tick i }

pub none_wrong : (trace : GuestTrace) (count : ℕ) (memory : List ℕ) (found : WrongByte)
    → memory ≡ (image_after trace count).bytes → ¬ IsFirstWrongByte trace count memory found
none_wrong trace count memory found same is = is.wrong (ap (λ (l : List ℕ). get_or l found.offset 0) same)
