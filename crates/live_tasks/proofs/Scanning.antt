-- How a copier's scan proceeds, step by step.
use Rattle.std.proofs.Common.{◌≡◌, ℕ, ◌+◌, ◌/◌, ◌%◌, ◌<◌, ◌≤◌, ◌⊎◌, inl, inr, Bool, true, false, not, eqb, ◌&&◌, ◌||◌}
use Rattle.std.proofs.Common.{List, [], ◌∷◌, ◌++◌, length, get_or, refl, sym, ap, subst, ◌∙◌, arith}
use Rattle.std.specs.Int.{bit_at}
use Rattle.std.specs.List.{Contains}
use Rattle.std.specs.List.Sorted.{IsStrictlyIncreasing}
use Rattle.std.proofs.lemmas.Bool.{cases_eq, cases_lt, and_parts, and_from, or_cases, or_left, or_right, eqb-true}
use Rattle.std.proofs.lemmas.Bool.{eq-eqb, ne_eqb, false≢true}
use Rattle.std.proofs.lemmas.List.{length-append, get_or_append_left, get_or-append-add}
use Rattle.std.proofs.lemmas.List.Elements.{Contains-append_left, Contains-push, Contains-push_cases, Contains-get_or}
use Rattle.std.proofs.Math.Bool.{or-false}
use Rattle.page_bitmap.specs.Pages.{PageSet, in_words, word_pages, bit_pages, one_page, union, minus, SamePages}
use Rattle.page_bitmap.specs.Pages.{IsWithin}
use Rattle.page_bitmap.proofs.Bits.{no_words}
use Rattle.dirty_core.specs.Start.{Start}
use Rattle.dirty_words.specs.Facts.{CopyFacts, first_copier, after_harvest, after_peek, after_restore, after_read}
use Rattle.dirty_words.specs.Facts.{OwnsWord, HoldsNone}
use Rattle.dirty_words.specs.Plays.{IsAnswer, MakesFresh}
use Rattle.live_tasks.specs.RoundLogs.{RoundLogView, empty_log, with_deferred, with_sent, with_skipped, IsListed}
use Rattle.live_tasks.specs.Scans.{IsScanned, IsOwn, WasMarked, IsHeldNow, IsReturned, IsFresh, IsLeast}
use Rattle.live_tasks.proofs.Basics.{in_none}
use Rattle.live_tasks.proofs.Listed.{Lists, in_sent, lists_deferred, lists_skipped, pages_of, sent_before, sent_cases}
use Rattle.live_tasks.proofs.Listed.{sent_now, sent_pages}

rise_push : (xs : List ℕ) (x : ℕ) → IsStrictlyIncreasing xs → ((y : ℕ) → Contains xs y → y < x)
    → IsStrictlyIncreasing (xs ++ x ∷ [])
rise_push xs x up below k low =
    let len : length (xs ++ x ∷ []) ≡ length xs + 1 = length-append xs (x ∷ []) in
    elim (cases_lt (k + 1) (length xs)) [
      | inl inside ↦
          let here : get_or (xs ++ x ∷ []) k 0 ≡ get_or xs k 0 = get_or_append_left xs (x ∷ []) 0 k (omega arith) in
          let next : get_or (xs ++ x ∷ []) (k + 1) 0 ≡ get_or xs (k + 1) 0 =
          get_or_append_left xs (x ∷ []) 0 (k + 1) inside in
          omega (arith, here, next, up k inside)
      | inr last ↦
          let end : k + 1 ≡ length xs + 0 = omega (arith, len) in
          let here : get_or (xs ++ x ∷ []) k 0 ≡ get_or xs k 0 =
          get_or_append_left xs (x ∷ []) 0 k (omega (arith, end)) in
          let next : get_or (xs ++ x ∷ []) (k + 1) 0 ≡ x = ap (λ (i : ℕ). get_or (xs ++ x ∷ []) i 0) end
          ∙ get_or-append-add xs (x ∷ []) 0 0 in
          omega (arith, here, next, below (get_or xs k 0) (Contains-get_or xs k 0 (omega (arith, end))))
    ]

-- ---- sets

not_true : (b : Bool) → not b ≡ true → b ≡ false
not_true true e = sym e
not_true false e = refl

pub and_true : (b : Bool) → (b && not false) ≡ b
and_true true = refl
and_true false = refl

pub and_false : (b : Bool) → (b && not true) ≡ false
and_false true = refl
and_false false = refl

true_not : (b : Bool) → b ≡ false → not b ≡ true
true_not b e = ap not e

-- of a set without one page
left_was : (new old : PageSet) (page q : ℕ) → SamePages new (minus old (one_page page)) → new q ≡ true
    → (old q ≡ true) × (q ≡ page → ⊥)
left_was new old page q same in_new =
    let parts = and_parts (old q) (not (eqb q page)) (sym (same q) ∙ in_new) in
    (parts.0, λ e. false≢true (sym (not_true (eqb q page) parts.1) ∙ eq-eqb q page e))

left_is : (new old : PageSet) (page q : ℕ) → SamePages new (minus old (one_page page)) → old q ≡ true → (q ≡ page → ⊥)
    → new q ≡ true
left_is new old page q same in_old apart = same q ∙ and_from (old q) (not (eqb q page)) in_old
    (true_not (eqb q page) (ne_eqb q page apart))

-- ---- the steps

pub scan_begins : (skip : Bool) (start : Start) (number : ℕ) → IsScanned skip 0 (first_copier start number) empty_log
scan_begins skip start number = record {
  untouched = λ page low. refl;
  found = λ page own low. absurd (omega (arith, low));
  listed = λ page is. elim is [
    | inl there ↦ absurd (in_none page there)
    | inr either ↦ elim either [
      | inl there ↦ absurd (in_none page there)
      | inr there ↦ absurd (in_none page there)
    ]
  ];
  held = λ page is. absurd (false≢true (sym (no_words (length start.dirty) page) ∙ is));
  rising = λ page other is held. absurd (false≢true (sym (no_words (length start.dirty) other) ∙ held));
  returned = λ page own low. absurd (omega (arith, low));
  skipped = λ page there. absurd (in_none page there);
  deferred = λ page there. absurd (in_none page there);
  reads = λ page place visited. absurd visited;
  sent = λ page place there. absurd (in_none (page, place) there);
  sent_rise = λ k low. absurd (omega (arith, low));
  skipped_rise = λ k low. absurd (omega (arith, low));
  deferred_rise = λ k low. absurd (omega (arith, low));
  apart = λ page there. absurd (in_none page there);
  deferred_apart = λ page there. absurd (in_none page there);
}

-- a word of another copier
pub scan_passes : (skip : Bool) (word : ℕ) (f : CopyFacts) (o : RoundLogView) → IsScanned skip word f o
    → (OwnsWord f word → ⊥) → IsScanned skip (word + 1) f o
scan_passes skip word f o is other =
    let before : (page : ℕ) → IsOwn f page → page / 64 < word + 1 → page / 64 < word =
    λ page own low. elim (cases_eq (page / 64) word) [
      | inl e ↦ absurd (other (subst (λ (w : ℕ). OwnsWord f w) e own.word))
      | inr apart ↦ omega (arith, low, apart)
    ] in
    record {
      untouched = λ page low. is.untouched page (omega (arith, low));
      found = λ page own low marked. is.found page own (before page own low) marked;
      listed = λ page there. let l = is.listed page there in (l.0, omega (arith, l.1), l.2);
      held = λ page there. let l = is.held page there in (l.0, omega (arith, l.1), l.2);
      rising = is.rising;
      returned = λ page own low. is.returned page own (before page own low);
      skipped = is.skipped;
      deferred = is.deferred;
      reads = is.reads;
      sent = is.sent;
      sent_rise = is.sent_rise;
      skipped_rise = is.skipped_rise;
      deferred_rise = is.deferred_rise;
      apart = is.apart;
      deferred_apart = is.deferred_apart;
    }

-- a page that is held, with none before it, is sent
pub scan_sends : (skip : Bool) (ahead page place : ℕ) (f : CopyFacts) (o : RoundLogView) → IsScanned skip ahead f o
    → IsLeast f page
    → SamePages (in_words (after_read page place f).held) (minus (in_words f.held) (one_page page))
    → IsScanned skip ahead (after_read page place f) (with_sent page place o)
scan_sends skip ahead page place f o is least same =
    let below : (q : ℕ) → IsListed o q → q < page = λ q there. is.rising q page there least.0 in
    let here = is.held page least.0 in
    record {
      untouched = is.untouched;
      found = λ q own low marked. elim (is.found q own low marked) [
        | inl there ↦ inl (sent_before page place q o there)
        | inr held ↦ elim (cases_eq q page) [
          | inl e ↦ inl (subst (λ (p : ℕ). IsListed (with_sent page place o) p) (sym e) (sent_now page place o))
          | inr apart ↦ inr (left_is (in_words (after_read page place f).held) (in_words f.held) page q same held apart)
        ]
      ];
      listed = λ q there. elim (sent_cases page place q o there) [
        | inl e ↦ subst (λ (p : ℕ). IsOwn f p × (p / 64 < ahead) × (WasMarked f p ⊎ IsFresh f p)) e here
        | inr before ↦ is.listed q before
      ];
      held = λ q held. is.held q (left_was (in_words (after_read page place f).held) (in_words f.held) page q same
          held).0;
      rising = λ q other there held.
          let was = left_was (in_words (after_read page place f).held) (in_words f.held) page other same held in
          elim (sent_cases page place q o there) [
            | inl e ↦ omega (arith, e, least.1 other was.0, was.1)
            | inr before ↦ is.rising q other before was.0
          ];
      returned = is.returned;
      skipped = is.skipped;
      deferred = is.deferred;
      reads = λ q at visited. elim visited [
        | inl same_one ↦ subst (λ (x : ℕ × ℕ). Contains (o.sent ++ (page, place) ∷ []) x)
            (λ i. (same_one.0 i, same_one.1 i)) (Contains-push o.sent (page, place))
        | inr before ↦ Contains-append_left o.sent ((page, place) ∷ []) (q, at) (is.reads q at before)
      ];
      sent = λ q at there. elim (Contains-push_cases o.sent (page, place) (q, at) there) [
        | inl before ↦ inr (is.sent q at before)
        | inr e ↦ inl (ap (λ (x : ℕ × ℕ). x.0) e, ap (λ (x : ℕ × ℕ). x.1) e)
      ];
      sent_rise = subst (λ (xs : List ℕ). IsStrictlyIncreasing xs) (sym (sent_pages page place o))
          (rise_push (pages_of o.sent) page is.sent_rise (λ q there. below q (inl there)));
      skipped_rise = is.skipped_rise;
      deferred_rise = is.deferred_rise;
      apart = λ q there skipped. elim (in_sent page place q o there) [
        | inl e ↦ omega (arith, e, below q (inr (inl skipped)))
        | inr before ↦ is.apart q before skipped
      ];
      deferred_apart = λ q deferred. (
        λ there. elim (in_sent page place q o there) [
          | inl e ↦ omega (arith, e, below q (inr (inr deferred)))
          | inr before ↦ (is.deferred_apart q deferred).0 before
        ],
        (is.deferred_apart q deferred).1,
      );
    }

-- the word is looked at again
pub scan_peeks : (skip : Bool) (ahead word answer : ℕ) (f : CopyFacts) (o : RoundLogView) → IsScanned skip ahead f o
    → IsWithin (in_words f.fresh) (in_words (after_peek word answer f).fresh)
    → IsScanned skip ahead (after_peek word answer f) o
scan_peeks skip ahead word answer f o is kept =
    let due : (q : ℕ) → WasMarked f q ⊎ IsFresh f q → WasMarked f q ⊎ IsFresh (after_peek word answer f) q =
    λ q either. elim either [
      | inl marked ↦ inl marked
      | inr fresh ↦ inr (kept q fresh)
    ] in
    record {
      untouched = is.untouched;
      found = is.found;
      listed = λ q there. let l = is.listed q there in (l.0, l.1, due q l.2);
      held = λ q there. let l = is.held q there in (l.0, l.1, due q l.2);
      rising = is.rising;
      returned = is.returned;
      skipped = λ q there. let l = is.skipped q there in (l.0, kept q l.1, l.2);
      deferred = is.deferred;
      reads = is.reads;
      sent = is.sent;
      sent_rise = is.sent_rise;
      skipped_rise = is.skipped_rise;
      deferred_rise = is.deferred_rise;
      apart = is.apart;
      deferred_apart = is.deferred_apart;
    }

-- a held page that the word shows again was stored since
pub shown_is_fresh : (skip : Bool) (ahead page answer : ℕ) (f : CopyFacts) (o : RoundLogView) → IsScanned skip ahead f o
    → IsHeldNow f page
    → bit_pages (page / 64) answer page ≡ true → MakesFresh f (page / 64) answer (after_peek (page / 64) answer f)
    → IsFresh (after_peek (page / 64) answer f) page
shown_is_fresh skip ahead page answer f o is held in_answer shown = elim (shown.shown page in_answer) [
  | inl returned ↦
      let here = is.held page held in
      let given_back = is.returned page here.0 here.1 returned in
      let below : page < page = is.rising page page (inr given_back) held in
      absurd (omega (arith, below))
  | inr fresh ↦ fresh
]

-- what a scan keeps when a page that is held, with none before it, is restored and listed
record IsBack (ahead page : ℕ) (f new : CopyFacts) (o after : RoundLogView) : Type 0 where
  untouched : (q : ℕ) → ahead ≤ q / 64 → in_words new.returned q ≡ in_words f.start.dirty q
  found : (q : ℕ) → IsOwn f q → q / 64 < ahead → WasMarked f q → IsListed after q ⊎ IsHeldNow new q
  listed : (q : ℕ) → IsListed after q → IsOwn f q × (q / 64 < ahead) × (WasMarked f q ⊎ IsFresh f q)
  held : (q : ℕ) → IsHeldNow new q → IsOwn f q × (q / 64 < ahead) × (WasMarked f q ⊎ IsFresh f q)
  rising : (q other : ℕ) → IsListed after q → IsHeldNow new other → q < other
  still : (q : ℕ) → IsReturned f q → IsReturned new q
  below : (q : ℕ) → IsListed o q → q < page

comes_back : (skip : Bool) (ahead page : ℕ) (f new : CopyFacts) (o after : RoundLogView) → IsScanned skip ahead f o
    → IsLeast f page → Lists page o after
    → SamePages (in_words new.held) (minus (in_words f.held) (one_page page))
    → SamePages (in_words new.returned) (union (in_words f.returned) (one_page page))
    → IsBack ahead page f new o after
comes_back skip ahead page f new o after is least lists same back =
    let here = is.held page least.0 in
    record {
      untouched = λ q low.
          let apart : q ≡ page → ⊥ = λ e. omega (arith, low, here.1, e) in
          back q ∙ ap (λ (b : Bool). in_words f.returned q || b) (ne_eqb q page apart)
          ∙ or-false (in_words f.returned q) ∙ is.untouched q low;
      found = λ q own low marked. elim (is.found q own low marked) [
        | inl there ↦ inl (lists.kept q there)
        | inr held ↦ elim (cases_eq q page) [
          | inl e ↦ inl (subst (λ (p : ℕ). IsListed after p) (sym e) lists.here)
          | inr apart ↦ inr (left_is (in_words new.held) (in_words f.held) page q same held apart)
        ]
      ];
      listed = λ q there. elim (lists.cases q there) [
        | inl e ↦ subst (λ (p : ℕ). IsOwn f p × (p / 64 < ahead) × (WasMarked f p ⊎ IsFresh f p)) e here
        | inr before ↦ is.listed q before
      ];
      held = λ q held. is.held q (left_was (in_words new.held) (in_words f.held) page q same held).0;
      rising = λ q other there held.
          let was = left_was (in_words new.held) (in_words f.held) page other same held in
          elim (lists.cases q there) [
            | inl e ↦ omega (arith, e, least.1 other was.0, was.1)
            | inr before ↦ is.rising q other before was.0
          ];
      still = λ q e. back q ∙ or_left (in_words f.returned q) (eqb q page) e;
      below = λ q there. is.rising q page there least.0;
    }

-- a page that is held, with none before it, and that was stored since, is skipped
pub scan_skips : (ahead page word bits : ℕ) (f : CopyFacts) (o : RoundLogView) → IsScanned true ahead f o
    → IsLeast f page → IsFresh f page
    → SamePages (in_words (after_restore word bits f).held) (minus (in_words f.held) (one_page page))
    → SamePages (in_words (after_restore word bits f).returned) (union (in_words f.returned) (one_page page))
    → IsScanned true ahead (after_restore word bits f) (with_skipped page o)
scan_skips ahead page word bits f o is least fresh same back =
    let new : CopyFacts = after_restore word bits f in
    let kept = comes_back true ahead page f new o (with_skipped page o) is least (lists_skipped page o) same back in
    record {
      untouched = kept.untouched;
      found = kept.found;
      listed = kept.listed;
      held = kept.held;
      rising = kept.rising;
      returned = λ q own low is_back. elim (or_cases (in_words f.returned q) (eqb q page) (sym (back q) ∙ is_back)) [
        | inl before ↦ elim (is.returned q own low before) [
          | inl skipped ↦ inl (Contains-append_left o.skipped (page ∷ []) q skipped)
          | inr deferred ↦ inr deferred
        ]
        | inr e ↦ inl (subst (λ (p : ℕ). Contains (o.skipped ++ page ∷ []) p) (sym (eqb-true q page e))
            (Contains-push o.skipped page))
      ];
      skipped = λ q there. elim (Contains-push_cases o.skipped page q there) [
        | inl before ↦ let s = is.skipped q before in (s.0, s.1, kept.still q s.2)
        | inr e ↦ (
          refl,
          subst (λ (p : ℕ). IsFresh f p) e fresh,
          back q ∙ or_right (in_words f.returned q) (eqb q page) (eq-eqb q page (sym e)),
        )
      ];
      deferred = λ q there. kept.still q (is.deferred q there);
      reads = is.reads;
      sent = is.sent;
      sent_rise = is.sent_rise;
      skipped_rise = rise_push o.skipped page is.skipped_rise (λ q there. kept.below q (inr (inl there)));
      deferred_rise = is.deferred_rise;
      apart = λ q there skipped. elim (Contains-push_cases o.skipped page q skipped) [
        | inl before ↦ is.apart q there before
        | inr e ↦ omega (arith, e, kept.below q (inl there))
      ];
      deferred_apart = λ q deferred. (
        (is.deferred_apart q deferred).0,
        λ skipped. elim (Contains-push_cases o.skipped page q skipped) [
          | inl before ↦ (is.deferred_apart q deferred).1 before
          | inr e ↦ omega (arith, e, kept.below q (inr (inr deferred)))
        ],
      );
    }

-- a page that is held, with none before it, is deferred
pub scan_defers : (skip : Bool) (ahead page word bits : ℕ) (f : CopyFacts) (o : RoundLogView) → IsScanned skip ahead f o
    → IsLeast f page
    → SamePages (in_words (after_restore word bits f).held) (minus (in_words f.held) (one_page page))
    → SamePages (in_words (after_restore word bits f).returned) (union (in_words f.returned) (one_page page))
    → IsScanned skip ahead (after_restore word bits f) (with_deferred page o)
scan_defers skip ahead page word bits f o is least same back =
    let new : CopyFacts = after_restore word bits f in
    let kept = comes_back skip ahead page f new o (with_deferred page o) is least (lists_deferred page o) same back in
    record {
      untouched = kept.untouched;
      found = kept.found;
      listed = kept.listed;
      held = kept.held;
      rising = kept.rising;
      returned = λ q own low is_back. elim (or_cases (in_words f.returned q) (eqb q page) (sym (back q) ∙ is_back)) [
        | inl before ↦ elim (is.returned q own low before) [
          | inl skipped ↦ inl skipped
          | inr deferred ↦ inr (Contains-append_left o.deferred (page ∷ []) q deferred)
        ]
        | inr e ↦ inr (subst (λ (p : ℕ). Contains (o.deferred ++ page ∷ []) p) (sym (eqb-true q page e))
            (Contains-push o.deferred page))
      ];
      skipped = λ q there. let s = is.skipped q there in (s.0, s.1, kept.still q s.2);
      deferred = λ q there. elim (Contains-push_cases o.deferred page q there) [
        | inl before ↦ kept.still q (is.deferred q before)
        | inr e ↦ back q ∙ or_right (in_words f.returned q) (eqb q page) (eq-eqb q page (sym e))
      ];
      reads = is.reads;
      sent = is.sent;
      sent_rise = is.sent_rise;
      skipped_rise = is.skipped_rise;
      deferred_rise = rise_push o.deferred page is.deferred_rise (λ q there. kept.below q (inr (inr there)));
      apart = is.apart;
      deferred_apart = λ q there. elim (Contains-push_cases o.deferred page q there) [
        | inl before ↦ is.deferred_apart q before
        | inr e ↦ (
          λ sent. omega (arith, e, kept.below q (inl sent)),
          λ skipped. omega (arith, e, kept.below q (inr (inl skipped))),
        )
      ];
    }

-- an own word is harvested, when nothing is held
pub scan_harvests : (skip : Bool) (word answer : ℕ) (f : CopyFacts) (o : RoundLogView) → IsScanned skip word f o
    → HoldsNone f → OwnsWord f word → IsAnswer f word answer
    → MakesFresh f word answer (after_harvest word answer f)
    → SamePages (in_words (after_harvest word answer f).held) (bit_pages word answer)
    → SamePages (in_words (after_harvest word answer f).returned) (minus (in_words f.returned) (word_pages word))
    → IsScanned skip (word + 1) (after_harvest word answer f) o
scan_harvests skip word answer f o is none own answers shown held left =
    let new : CopyFacts = after_harvest word answer f in
    let due : (q : ℕ) → WasMarked f q ⊎ IsFresh f q → WasMarked f q ⊎ IsFresh new q =
    λ q either. elim either [
      | inl marked ↦ inl marked
      | inr fresh ↦ inr (shown.kept q fresh)
    ] in
    let other : (q : ℕ) → (q / 64 ≡ word → ⊥) → in_words new.returned q ≡ in_words f.returned q =
    λ q apart. left q ∙ ap (λ (b : Bool). in_words f.returned q && not b) (ne_eqb (q / 64) word apart)
    ∙ and_true (in_words f.returned q) in
    let in_word : (q : ℕ) → in_words new.held q ≡ true → q / 64 ≡ word =
    λ q e. eqb-true (q / 64) word (and_parts (eqb (q / 64) word) (eqb (bit_at answer (q % 64)) 1)
    (sym (held q) ∙ e)).0 in
    record {
      untouched = λ q low. other q (λ e. omega (arith, low, e)) ∙ is.untouched q (omega (arith, low));
      found = λ q mine low marked. elim (cases_eq (q / 64) word) [
        | inl e ↦
            let returned : in_words f.returned q ≡ true = is.untouched q (omega (arith, e)) ∙ marked in
            inr (held q ∙ answers.returned q (and_from (eqb (q / 64) word) (in_words f.returned q)
            (eq-eqb (q / 64) word e) returned))
        | inr apart ↦ elim (is.found q mine (omega (arith, low, apart)) marked) [
          | inl there ↦ inl there
          | inr before ↦ absurd (false≢true (sym (none q) ∙ before))
        ]
      ];
      listed = λ q there. let l = is.listed q there in (l.0, omega (arith, l.1), due q l.2);
      held = λ q there. (
        record {
          page_real = answers.real q (sym (held q) ∙ there);
          word =
              subst (λ (w : ℕ). OwnsWord f w) (sym (in_word q there)) own;
        },
        omega (arith, in_word q there),
        elim (shown.shown q (sym (held q) ∙ there)) [
          | inl returned ↦ inl (sym (is.untouched q (omega (arith, in_word q there))) ∙ returned)
          | inr fresh ↦ inr fresh
        ],
      );
      rising = λ q next there mine. let l = is.listed q there in let w : next / 64 ≡ word =
          in_word next mine in omega (arith, l.1, w);
      returned = λ q mine low back. elim (cases_eq (q / 64) word) [
        | inl e ↦ absurd (false≢true (sym (left q ∙ ap (λ (b : Bool). in_words f.returned q && not b)
            (eq-eqb (q / 64) word e) ∙ and_false (in_words f.returned q)) ∙ back))
        | inr apart ↦ is.returned q mine (omega (arith, low, apart)) (sym (other q apart) ∙ back)
      ];
      skipped = λ q there.
          let s = is.skipped q there in
          let l = is.listed q (inr (inl there)) in
          (s.0, shown.kept q s.1, other q (λ e. omega (arith, l.1, e)) ∙ s.2);
      deferred = λ q there. let l = is.listed q (inr (inr there)) in other q (λ e. omega (arith, l.1, e))
          ∙ is.deferred q there;
      reads = is.reads;
      sent = is.sent;
      sent_rise = is.sent_rise;
      skipped_rise = is.skipped_rise;
      deferred_rise = is.deferred_rise;
      apart = is.apart;
      deferred_apart = is.deferred_apart;
    }
