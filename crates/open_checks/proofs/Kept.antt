-- The pages in memory, at the versions of their words.
use Rattle.std.proofs.Common.{◌≡◌, ℕ, ◌+◌, ◌-◌, ◌*◌, ◌^◌, ◌<◌, ◌≤◌, List, ◌++◌, length, get_or, max, set, take, drop}
use Rattle.std.proofs.Common.{inl}
use Rattle.std.proofs.Common.{None, Option, ◌∷◌, inr, map, refl, replicate, suc, zero, sym, ap, subst, ◌∙◌, arith}
use Rattle.std.specs.List.{between}
use Rattle.std.proofs.Math.Nat.{mul-le-mul_right}
use Rattle.std.proofs.lemmas.Bool.{cases_eq, cases_lt}
use Rattle.std.proofs.lemmas.Grind.{get_or-set_at}
use Rattle.std.proofs.lemmas.List.{drop-drop, drop-take, get_or-replicate, get_or-set_other, length-replicate}
use Rattle.std.proofs.lemmas.List.{length-set, take-append-drop}
use Rattle.std.proofs.lemmas.Slice.{between_is}
use Rattle.migration_model.specs.Final.{shape_of_trace}
use Rattle.migration_model.specs.Memory.{memory_with, page_of, put}
use Rattle.migration_model.specs.Trace.{GuestTrace, IsTrace}
use Rattle.migration_model.specs.Versions.{page_at}
use Rattle.migration_model.proofs.Pages.{length-page_at, length-put, zero_page}
use Rattle.page_versions.specs.Index.{version_after}
use Rattle.open_checks.specs.Kept.{IsKept, kept_version, stamp_in}
use Rattle.open_traces.proofs.PageWalks.{version_first}
use Rattle.stream_check.proofs.Held.{page_at_first}
use Rattle.open_checks.proofs.Pages.{page_put_other, page_put_own}

-- the end of a page is in the memory
pub page_fits : (trace : GuestTrace) (page : ℕ) (memory : List ℕ) → page < trace.pages
    → length memory ≡ trace.pages * 2 ^ trace.shift → page * 2 ^ trace.shift + 2 ^ trace.shift ≤ length memory
page_fits trace page memory low len =
    let end : (page + 1) * 2 ^ trace.shift ≤ trace.pages * 2 ^ trace.shift =
    mul-le-mul_right (2 ^ trace.shift) (omega (arith, low)) in
    omega (arith, end, len)

-- the later of two versions is one
pub later_version : (trace : GuestTrace) (page a b : ℕ) → a ≡ version_after trace page a
    → b ≡ version_after trace page b → max a b ≡ version_after trace page (max a b)
later_version trace page a b first second = elim (cases_lt a b) [
  | inl rises ↦
      let same : b ≡ max a b = omega (arith, rises) in
      subst (λ (n : ℕ). n ≡ version_after trace page n) same second
  | inr falls ↦
      let same : a ≡ max a b = omega (arith, falls) in
      subst (λ (n : ℕ). n ≡ version_after trace page n) same first
]

-- one more frame of a page, whose bytes in memory are those at the later version
pub IsKept-next : (trace : GuestTrace) (greatest memory after new : List ℕ) (page stamp : ℕ) → IsTrace trace
    → IsKept trace greatest memory → page < trace.pages → stamp ≡ version_after trace page stamp
    → after ≡ set greatest page (max (get_or greatest page 0) (stamp + 1))
    → new ≡ put memory (page * 2 ^ trace.shift) (page_at trace page (max (kept_version greatest page) stamp))
    → IsKept trace after new
IsKept-next trace greatest memory after new page stamp is kept low own words bytes =
    let version : ℕ = max (kept_version greatest page) stamp in
    let content : List ℕ = page_at trace page version in
    let word : ℕ = max (get_or greatest page 0) (stamp + 1) in
    let there : page < length greatest = omega (arith, low, kept.words_are) in
    let whole : length content ≡ 2 ^ trace.shift = length-page_at trace page version is low in
    let same_version : word - 1 ≡ version = omega arith in
    let at : (other : ℕ) → other ≡ page → kept_version after other ≡ version = λ other same.
    ap (λ (l : List ℕ). get_or l other 0 - 1) words
    ∙ ap (λ (n : ℕ). n - 1) (get_or-set_at greatest page other word 0 same there) ∙ same_version in
    let beside : (other : ℕ) → (other ≡ page → ⊥) → kept_version after other ≡ kept_version greatest other =
    λ other apart. ap (λ (l : List ℕ). get_or l other 0 - 1) words
    ∙ ap (λ (n : ℕ). n - 1) (get_or-set_other greatest page other word 0 apart) in
    record {
      words_are = ap length words ∙ length-set greatest page word ∙ kept.words_are;
      memory_is = ap length bytes
          ∙ length-put memory (page * 2 ^ trace.shift) content
          (omega (arith, whole, page_fits trace page memory low kept.memory_is))
          ∙ kept.memory_is;
      versions = λ other inside. elim (cases_eq other page) [
        | inl same ↦
            at other same
            ∙ later_version trace page (kept_version greatest page) stamp (kept.versions page low) own
            ∙ ap (λ (p : ℕ). version_after trace p version) (sym same)
            ∙ ap (version_after trace other) (sym (at other same))
        | inr apart ↦
            beside other apart ∙ kept.versions other inside
            ∙ ap (version_after trace other) (sym (beside other apart))
      ];
      bytes = λ other inside. elim (cases_eq other page) [
        | inl same ↦
            ap (λ (b : List ℕ). page_of (memory_with trace.shift trace.pages b) other) bytes
            ∙ ap (λ (p : ℕ). page_of (memory_with trace.shift trace.pages (put memory (page * 2 ^ trace.shift) content))
            p) same
            ∙ page_put_own (shape_of_trace trace) memory content page low kept.memory_is whole
            ∙ ap (λ (p : ℕ). page_at trace p version) (sym same)
            ∙ ap (page_at trace other) (sym (at other same))
        | inr apart ↦
            ap (λ (b : List ℕ). page_of (memory_with trace.shift trace.pages b) other) bytes
            ∙ page_put_other (shape_of_trace trace) memory content page other low inside apart kept.memory_is whole
            ∙ kept.bytes other inside
            ∙ ap (page_at trace other) (sym (beside other apart))
      ];
    }

-- ---- the slice of a page

pub slice_is : (memory : List ℕ) (start size : ℕ)
    → take size (drop start memory) ≡ between start (start + size) memory
slice_is memory start size = sym (drop-take start size memory) ∙ sym (between_is memory start (start + size))

pub slice_put : (memory content new : List ℕ) (start size : ℕ) → length content ≡ size
    → new ≡ take start memory ++ (content ++ drop size (drop start memory)) → new ≡ put memory start content
slice_put memory content new start size long is =
    is ∙ ap (λ (l : List ℕ). take start memory ++ (content ++ l)) (drop-drop size start memory
    ∙ ap (λ (n : ℕ). drop (start + n) memory) (sym long))

pub slice_same : (memory content new : List ℕ) (start size : ℕ) → content ≡ take size (drop start memory)
    → new ≡ take start memory ++ (content ++ drop size (drop start memory)) → new ≡ memory
slice_same memory content new start size own is =
    is ∙ ap (λ (l : List ℕ). take start memory ++ (l ++ drop size (drop start memory))) own
    ∙ ap (λ (l : List ℕ). take start memory ++ l) (take-append-drop size (drop start memory))
    ∙ take-append-drop start memory

-- ---- before anything came

pub no_words : (pages : ℕ) → map stamp_in (replicate pages 0) ≡ replicate pages None
no_words zero = refl
no_words (suc pages) = ap (λ (l : List (Option ℕ)). None ∷ l) (no_words pages)

pub zeros_kept : (trace : GuestTrace) → IsTrace trace
    → IsKept trace (replicate trace.pages 0) (replicate (trace.pages * 2 ^ trace.shift) 0)
zeros_kept trace is =
    let first : (page : ℕ) → page < trace.pages → kept_version (replicate trace.pages 0) page ≡ 0 = λ page low.
    ap (λ (n : ℕ). n - 1) (get_or-replicate trace.pages page 0 0 low) in
    record {
      words_are = length-replicate trace.pages 0;
      memory_is = length-replicate (trace.pages * 2 ^ trace.shift) 0;
      versions = λ page low. version_first trace page (kept_version (replicate trace.pages 0) page) (first page low);
      bytes = λ page low.
          zero_page trace.shift trace.pages page low ∙ sym (page_at_first trace page is low)
          ∙ ap (page_at trace page) (sym (first page low));
    }
