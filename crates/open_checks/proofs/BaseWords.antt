-- The words and the memory after the first writes of a trace.
use Rattle.std.proofs.Common.{◌≡◌, ℕ, ◌+◌, ◌-◌, ◌*◌, ◌^◌, ◌<◌, ◌≤◌, leb, List, [], ◌∷◌, length, get_or, max, set, take}
use Rattle.std.proofs.Common.{Some, inl, suc, zero, inr, refl, replicate, sym, ap, ◌∙◌, arith}
use Rattle.std.specs.List.{filter, fold, range_with_len}
use Rattle.std.proofs.lemmas.Bool.{cases_eq, cases_lt, le-leb, lt-leb}
use Rattle.std.proofs.lemmas.Grind.{get_or-set_at, same_number_lists}
use Rattle.std.proofs.lemmas.List.{get_or-map, get_or-set_other, length-map, length-replicate, length-set}
use Rattle.std.proofs.lemmas.List.Elements.{All-take}
use Rattle.std.proofs.lemmas.Option.{none-some, same_Some}
use Rattle.std.proofs.lemmas.List.FromFn.{get_or-range_with_len, length-range_with_len}
use Rattle.migration_model.specs.Memory.{GuestMemory, image_after, memory_with, page_of}
use Rattle.migration_model.specs.Trace.{GuestTrace, IsGuestWrite, IsTrace}
use Rattle.migration_model.specs.Versions.{page_at}
use Rattle.migration_model.proofs.Pages.{length-applied, same_memory}
use Rattle.page_versions.specs.Index.{places_of, version_after}
use Rattle.open_traces.specs.Index.{versions_at}
use Rattle.open_traces.proofs.PageWalks.{version_late, version_within}
use Rattle.stream_check.specs.Ends.{AreCurrentStamps, IsCurrent}
use Rattle.stream_check.proofs.Cut.{at_version}
use Rattle.open_checks.specs.Kept.{IsKept, kept_version, stamp_in, stamps_in, words_at}
use Rattle.open_checks.proofs.Words.{stamp_at, stamp_own}

-- ---- a version is its own version

least_fold : (a : ℕ) (l : List ℕ) → a ≤ fold max a l
least_fold a [] = omega arith
least_fold a (v ∷ l) = omega (arith, least_fold (max a v) l)

-- a lower bound that is not below the greatest keeps it
still : (high low a : ℕ) (l : List ℕ) → low ≤ high → fold max a (filter (λ v. leb v high) l) ≤ low
    → fold max a (filter (λ v. leb v low) l) ≡ fold max a (filter (λ v. leb v high) l)
still high low a [] rise reached = refl
still high low a (v ∷ l) rise reached = elim (cases_lt high v) [
  | inl over ↦
      let past : low < v = omega (arith, over, rise) in
      rw (lt-leb v high over, lt-leb v low past) (still high low a l rise (rw (lt-leb v high over) at reached))
  | inr within ↦
      let more = rw (le-leb v high within) at reached in
      let kept : v ≤ low = omega (arith, more, least_fold (max a v) (filter (λ v. leb v high) l)) in
      rw (le-leb v high within, le-leb v low kept) (still high low (max a v) l rise more)
]

pub version_settled : (trace : GuestTrace) (page count : ℕ)
    → version_after trace page count ≡ version_after trace page (version_after trace page count)
version_settled trace page count =
    let version : ℕ = version_after trace page count in
    elim (cases_lt count version) [
      | inl late ↦ absurd (version_late trace page version count late refl)
      | inr early ↦ sym (still count version 0 (places_of trace page) early (omega arith))
    ]

pub version_few : (trace : GuestTrace) (page count : ℕ) → version_after trace page count ≤ length trace.writes
version_few trace page count =
    version_within trace page (version_after trace page count) (version_settled trace page count)

-- ---- words

-- those of the first pages are made, and the others are versions still
pub record AreMadeTo (trace : GuestTrace) (count page : ℕ) (words : List ℕ) : Type 0 where
  pub len : length words ≡ trace.pages
  pub made : (other : ℕ) → other < page → other < trace.pages
      → get_or words other 0 ≡ version_after trace other count + 1
  pub left : (other : ℕ) → page ≤ other → other < trace.pages → get_or words other 0 ≡ version_after trace other count

version_at : (trace : GuestTrace) (count page : ℕ) → page < trace.pages
    → get_or (versions_at trace count) page 0 ≡ version_after trace page count
version_at trace count page low =
    let own : 0 + page ≡ page = omega arith in
    get_or-map (λ (p : ℕ). version_after trace p count) (range_with_len 0 trace.pages) page 0 0
    (omega (arith, low, length-range_with_len 0 trace.pages))
    ∙ ap (λ (p : ℕ). version_after trace p count) (get_or-range_with_len 0 trace.pages page 0 low ∙ own)

length-versions_at : (trace : GuestTrace) (count : ℕ) → length (versions_at trace count) ≡ trace.pages
length-versions_at trace count =
    length-map (range_with_len 0 trace.pages) (λ (p : ℕ). version_after trace p count)
    ∙ length-range_with_len 0 trace.pages

pub AreMadeTo-none : (trace : GuestTrace) (count : ℕ) (words : List ℕ) → words ≡ versions_at trace count
    → AreMadeTo trace count 0 words
AreMadeTo-none trace count words is = record {
  len = ap length is ∙ length-versions_at trace count;
  made = λ other low inside. absurd (omega (arith, low));
  left = λ other low inside. ap (λ (l : List ℕ). get_or l other 0) is ∙ version_at trace count other inside;
}

pub AreMadeTo-next : (trace : GuestTrace) (count page word : ℕ) (words : List ℕ) → AreMadeTo trace count page words
    → page < trace.pages → word ≡ get_or words page 0 + 1 → AreMadeTo trace count (page + 1) (set words page word)
AreMadeTo-next trace count page word words before low is = record {
  len = length-set words page word ∙ before.len;
  made = λ other below inside. elim (cases_eq other page) [
    | inl same ↦
        get_or-set_at words page other word 0 same (omega (arith, low, before.len)) ∙ is
        ∙ ap (λ (n : ℕ). n + 1) (before.left page (omega arith) low)
        ∙ ap (λ (p : ℕ). version_after trace p count + 1) (sym same)
    | inr apart ↦
        get_or-set_other words page other word 0 apart ∙ before.made other (omega (arith, below, apart)) inside
  ];
  left = λ other past inside.
      get_or-set_other words page other word 0 (λ same. omega (arith, past, same))
      ∙ before.left other (omega (arith, past)) inside;
}

word_at : (trace : GuestTrace) (count page : ℕ) → page < trace.pages
    → get_or (words_at trace count) page 0 ≡ version_after trace page count + 1
word_at trace count page low =
    get_or-map (λ (v : ℕ). v + 1) (versions_at trace count) page 0 0
    (omega (arith, low, length-versions_at trace count))
    ∙ ap (λ (v : ℕ). v + 1) (version_at trace count page low)

length-words_at : (trace : GuestTrace) (count : ℕ) → length (words_at trace count) ≡ trace.pages
length-words_at trace count =
    length-map (versions_at trace count) (λ (v : ℕ). v + 1) ∙ length-versions_at trace count

pub AreMadeTo-all : (trace : GuestTrace) (count page : ℕ) (words : List ℕ) → AreMadeTo trace count page words
    → trace.pages ≤ page → words ≡ words_at trace count
AreMadeTo-all trace count page words at all =
    same_number_lists words (words_at trace count) (at.len ∙ sym (length-words_at trace count))
    (λ other low.
    let inside : other < trace.pages = omega (arith, low, at.len) in
    at.made other (omega (arith, inside, all)) inside ∙ sym (word_at trace count other inside))

-- ---- memory

kept_at : (trace : GuestTrace) (count page : ℕ) → page < trace.pages
    → kept_version (words_at trace count) page ≡ version_after trace page count
kept_at trace count page low = omega (arith, word_at trace count page low)

-- memory after some writes, by its bytes
pub image_is : (trace : GuestTrace) (count : ℕ) → IsTrace trace
    → (image_after trace count ≡ memory_with trace.shift trace.pages (image_after trace count).bytes)
    × (length (image_after trace count).bytes ≡ trace.pages * 2 ^ trace.shift)
image_is trace count is =
    let after = length-applied trace.version trace.shift trace.pages (take count trace.writes)
    (replicate (trace.pages * 2 ^ trace.shift) 0) (length-replicate (trace.pages * 2 ^ trace.shift) 0)
    (All-take (IsGuestWrite trace.version trace.shift trace.pages) count trace.writes is.writes.each) in
    let bytes : after.0 ≡ (image_after trace count).bytes = ap (λ (m : GuestMemory). m.bytes) (sym after.1) in (
      after.1 ∙ ap (memory_with trace.shift trace.pages) bytes,
      ap length (sym bytes) ∙ after.2,
    )

pub image_kept : (trace : GuestTrace) (count : ℕ) → IsTrace trace
    → IsKept trace (words_at trace count) (image_after trace count).bytes
image_kept trace count is =
    let at : (page : ℕ) → page < trace.pages
    → kept_version (words_at trace count) page ≡ version_after trace page count =
    kept_at trace count in
    record {
      words_are = length-words_at trace count;
      memory_is = (image_is trace count is).1;
      versions = λ page low.
          at page low ∙ version_settled trace page count ∙ ap (version_after trace page) (sym (at page low));
      bytes = λ page low.
          ap (λ (m : GuestMemory). page_of m page) (sym (image_is trace count is).0)
          ∙ sym (at_version trace page count is low)
          ∙ ap (page_at trace page) (sym (at page low));
    }

-- ---- at the stop

-- a page that is not written from there to the stop is current
pub unwritten_current : (trace : GuestTrace) (count stop page : ℕ) → page < trace.pages
    → version_after trace page count ≡ version_after trace page stop
    → IsCurrent trace stop (stamps_in (words_at trace count)) page
unwritten_current trace count stop page low same =
    stamp_at (words_at trace count) page
    ∙ ap stamp_in (word_at trace count page low)
    ∙ stamp_own (version_after trace page count)
    ∙ ap (λ (n : ℕ). Some n) same

-- memory with all pages current is that at the stop
pub current_memory : (trace : GuestTrace) (stop : ℕ) (greatest memory : List ℕ) → IsTrace trace
    → IsKept trace greatest memory → AreCurrentStamps trace stop (stamps_in greatest)
    → memory ≡ (image_after trace stop).bytes
current_memory trace stop greatest memory is kept current =
    let image = image_is trace stop is in
    same_memory trace.shift trace.pages memory (image_after trace stop).bytes kept.memory_is image.1
    (λ page low.
    kept.bytes page low
    ∙ ap (page_at trace page) (stamp_is (get_or greatest page 0) (version_after trace page stop)
    (sym (stamp_at greatest page) ∙ current page low))
    ∙ at_version trace page stop is low
    ∙ ap (λ (m : GuestMemory). page_of m page) image.0)
  where
    stamp_is : (word version : ℕ) → stamp_in word ≡ Some version → word - 1 ≡ version
    stamp_is zero version is = absurd (none-some version is)
    stamp_is (suc came) version is =
        let own : suc came ≡ came + 1 = omega arith in
        let left : suc came - 1 ≡ came = omega arith in
        left ∙ same_Some came version (sym (ap stamp_in own ∙ stamp_own came) ∙ is)
