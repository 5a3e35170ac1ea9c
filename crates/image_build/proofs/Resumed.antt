-- Memory on the way from its pages' versions to the end of a trace.
use Rattle.std.proofs.Common.{◌≡◌, ℕ, inl, inr, ◌+◌, ◌-◌, ◌*◌, ◌^◌, ◌<◌, ◌≤◌, List, [], ◌∷◌, length, get_or, take, refl}
use Rattle.std.proofs.Common.{sym, ap, subst, ◌∙◌, arith}
use Rattle.std.specs.List.{All, fold}
use Rattle.std.proofs.lemmas.List.{take_more}
use Rattle.std.proofs.lemmas.List.Sums.{fold-append}
use Rattle.std.proofs.lemmas.Bool.{cases_eq}
use Rattle.migration_model.specs.Memory.{GuestMemory, memory_with, apply, page_of, image_of}
use Rattle.migration_model.specs.Resumed.{AtVersions, IsResumed, writes_after}
use Rattle.migration_model.specs.Trace.{GuestTrace, GuestWrite, IsGuestWrite, IsTrace, write_with}
use Rattle.page_versions.specs.Pages.{write_at}
use Rattle.std.proofs.lemmas.List.Elements.{All-drop, All-filter}
use Rattle.migration_model.proofs.Pages.{length-applied, page_applied, page_left, page_resumed, replay-from_pages, own}
use Rattle.std.proofs.Common.{eqb, drop}

abbrev memory_of : GuestTrace → List ℕ → GuestMemory
memory_of trace bytes = memory_with trace.shift trace.pages bytes

-- the pages below this one have their own writes after their versions applied, and all others are as before
pub record Resumes (trace : GuestTrace) (versions before : List ℕ) (page : ℕ) (memory : List ℕ) : Type 0 where
  pub len : length memory ≡ trace.pages * 2 ^ trace.shift
  pub done : (p : ℕ) → p < page → page_of (memory_with trace.shift trace.pages memory) p
      ≡ page_of (fold apply (memory_with trace.shift trace.pages before) (writes_after trace p (get_or versions p 0))) p
  pub left : (p : ℕ) → page ≤ p → p < trace.pages
      → page_of (memory_with trace.shift trace.pages memory) p ≡ page_of (memory_with trace.shift trace.pages before) p

pub Resumes-next : (trace : GuestTrace) (versions before : List ℕ) (page : ℕ) (memory next : List ℕ) → IsTrace trace
    → length before ≡ trace.pages * 2 ^ trace.shift → page < trace.pages → Resumes trace versions before page memory
    → memory_with trace.shift trace.pages next
    ≡ fold apply (memory_with trace.shift trace.pages memory) (writes_after trace page (get_or versions page 0))
    → Resumes trace versions before (page + 1) next
Resumes-next trace versions before page memory next is long low was added =
    let version = get_or versions page 0 in
    let fits = All-filter (λ w. eqb w.page page) (IsGuestWrite trace.version trace.shift trace.pages)
    (drop version trace.writes)
    (All-drop (IsGuestWrite trace.version trace.shift trace.pages) version trace.writes is.writes.each) in
    let after = length-applied trace.version trace.shift trace.pages (writes_after trace page version) memory was.len
    fits in
    let same : next ≡ after.0 = ap (λ (m : GuestMemory). m.bytes) (added ∙ after.1) in
    let others : (p : ℕ) → p < trace.pages → ¬ (p ≡ page) → page_of (memory_of trace next) p
    ≡ page_of (memory_of trace memory) p =
    λ p below apart. ap (λ (m : GuestMemory). page_of m p) added
    ∙ page_left trace memory p page version below apart is was.len in
    record {
      len = ap length same ∙ after.2;
      done = λ p below. elim (cases_eq p page) [
        | inl here ↦ subst (λ (q : ℕ). page_of (memory_of trace next) q
            ≡ page_of (fold apply (memory_of trace before) (writes_after trace q (get_or versions q 0))) q) (sym here)
            (ap (λ (m : GuestMemory). page_of m page) added
            ∙ page_applied trace memory page version low is was.len
            ∙ ap (λ (b : List ℕ). fold (own trace.shift page) b (drop version trace.writes))
            (was.left page (omega arith) low)
            ∙ sym (page_applied trace before page version low is long))
        | inr apart ↦ others p (omega (arith, below, low, apart)) apart ∙ was.done p (omega (arith, below, apart))
      ];
      left = λ p above below. others p below (λ same. absurd (omega (arith, same, above)))
          ∙ was.left p (omega (arith, above)) below;
    }

pub Resumes-none : (trace : GuestTrace) (versions before : List ℕ) → length before ≡ trace.pages * 2 ^ trace.shift
    → Resumes trace versions before 0 before
Resumes-none trace versions before long = record {
  len = long;
  done = λ p low. absurd (omega (arith, low));
  left = λ p above below. refl;
}

pub IsResumed-from_all : (trace : GuestTrace) (versions before memory : List ℕ) (image result : GuestMemory)
    → IsTrace trace
    → image ≡ memory_with trace.shift trace.pages before → result ≡ memory_with trace.shift trace.pages memory
    → Resumes trace versions before trace.pages memory → IsResumed trace versions image result
IsResumed-from_all trace versions before memory image result is image_is result_is all =
    subst (λ (m : GuestMemory). IsResumed trace versions m result) (sym image_is)
    (subst (λ (m : GuestMemory). IsResumed trace versions (memory_of trace before) m) (sym result_is)
    (record {
      is_memory = record { size = is.size; len = all.len };
      shift = refl;
      pages = refl;
      each = all.done;
    }))

pub whole-from_all : (trace : GuestTrace) (versions before memory : List ℕ) (image result : GuestMemory) → IsTrace trace
    → length before ≡ trace.pages * 2 ^ trace.shift
    → image ≡ memory_with trace.shift trace.pages before → result ≡ memory_with trace.shift trace.pages memory
    → Resumes trace versions before trace.pages memory → AtVersions trace versions image → result ≡ image_of trace
whole-from_all trace versions before memory image result is long image_is result_is all at =
    let start = subst (λ (m : GuestMemory). AtVersions trace versions m) image_is at in
    result_is ∙ replay-from_pages trace.version trace.shift trace.pages trace.writes (memory_of trace memory) refl refl
    all.len is.writes.each
    (λ p low. all.done p low ∙ page_resumed trace before p (get_or versions p 0) low is long (start p low))

-- ---- the writes at places, one after another

-- the write at a place is one of the guest
pub place_fits : (trace : GuestTrace) (places : List ℕ) (i : ℕ) (write : GuestWrite) → IsTrace trace
    → All (λ place. (1 ≤ place) × (place ≤ length trace.writes)) places → i < length places
    → write ≡ write_at trace.writes (get_or places i 0)
    → IsGuestWrite trace.version trace.shift trace.pages write
place_fits trace places i write is at low here =
    let b = at i 0 low in
    rw here (is.writes.each (get_or places i 0 - 1) (write_with 0 0 0 []) (omega (arith, b.0, b.1)))

-- one more of them
pub applied_more : (trace : GuestTrace) (memory first : List ℕ) (places : List ℕ) (i : ℕ) (write : GuestWrite)
    → i < length places
    → write ≡ write_at trace.writes (get_or places i 0)
    → memory_of trace memory ≡ fold (λ (m : GuestMemory) (place : ℕ). apply m (write_at trace.writes place))
    (memory_of trace first) (take i places)
    → apply (memory_of trace memory) write ≡ fold (λ (m : GuestMemory) (place : ℕ). apply m
    (write_at trace.writes place)) (memory_of trace first) (take (i + 1) places)
applied_more trace memory first places i write low here made =
    let step : GuestMemory → ℕ → GuestMemory = λ m place. apply m (write_at trace.writes place) in
    (λ k. apply (made k) (here k))
    ∙ sym (fold-append step (memory_of trace first) (take i places) (get_or places i 0 ∷ []))
    ∙ ap (λ (l : List ℕ). fold step (memory_of trace first) l) (sym (take_more places i 0 low))
