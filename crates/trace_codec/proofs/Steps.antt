-- What reading one more write adds.
use Rattle.std.proofs.Common.{◌≡◌, ℕ, zero, suc, ◌+◌, ◌^◌, ◌≤◌, Bool, true, false, ◌&&◌, ◌⊎◌, inl}
use Rattle.std.proofs.Common.{inr, eqb, cond, List, [], ◌∷◌, ◌++◌, length, take, drop, Option, Some, None, refl, sym}
use Rattle.std.proofs.Common.{ap, ◌∙◌, add-one, arith}
use Rattle.std.specs.List.{All}
use Rattle.std.proofs.lemmas.List.{length-take, length-drop}
use Rattle.std.proofs.lemmas.List.Elements.{All-push}
use Rattle.std.proofs.lemmas.Bool.{and_parts, cases_Bool, cases_eq, eq-eqb, eqb-true, ltb-false}
use Rattle.std.proofs.lemmas.Bool.{leb-false, ne_eqb}
use Rattle.migration_model.specs.Trace.{IsGuestWrite}
use Rattle.migration_model.specs.TraceReading.{tick_in, offset_in, length_in, write_in, rest_after, writes_in}
use Rattle.migration_model.specs.TraceReading.{rest_of}
use Rattle.migration_model.proofs.Writes.{writes_in_more, rest_of_more}
use Rattle.migration_model.proofs.Order.{last_by-push, in_order-push}
use Rattle.trace_codec.specs.Reading.{HoldsWrites, ReadsTo}
use Rattle.trace_codec.specs.Refusals.{is_empty_write, write_refusal}
use Rattle.trace_codec.specs.declared.error.TraceError.{TraceError}

-- a test that let something pass
pub passed : (b : Bool) (e : TraceError) (others : Option TraceError) → cond b (Some e) others ≡ None
    → (b ≡ false) × (others ≡ None)
passed true e others is = absurd cc
passed false e others is = (refl, is)

-- a write that is not refused for having no bytes has some, or is a release
pub some_or_release : (version offset len : ℕ) → is_empty_write version offset len ≡ false
    → (1 ≤ len) ⊎ ((version ≡ 2) × (offset ≡ 0))
some_or_release version offset len is = elim (cases_eq len 0) [
  | inr some ↦ inl (omega (arith, some))
  | inl none ↦ elim (cases_Bool (eqb version 2 && eqb offset 0)) [
    | inl release ↦ let parts = and_parts (eqb version 2) (eqb offset 0) release in inr
        (eqb-true version 2 parts.0, eqb-true offset 0 parts.1)
    | inr other ↦ absurd (let refused : true ≡ false = sym (rw (eq-eqb len 0 none, other) refl) ∙ is in cc refused)
  ]
]

pub passes_empty : (version offset len : ℕ) → (1 ≤ len) ⊎ ((version ≡ 2) × (offset ≡ 0))
    → is_empty_write version offset len ≡ false
passes_empty version offset len (inl some) = rw (ne_eqb len 0 (λ none. omega (arith, some, none))) refl
passes_empty version offset len (inr release) = elim (cases_eq len 0) [
  | inl none ↦ rw (eq-eqb len 0 none, eq-eqb version 2 release.0, eq-eqb offset 0 release.1) refl
  | inr some ↦ rw (ne_eqb len 0 some) refl
]

-- what a write that is not refused is
pub record IsRight (version shift pages before : ℕ) (bytes : List ℕ) : Type 0 where
  pub whole : 16 + length_in bytes ≤ length bytes
  pub order : before ≤ tick_in bytes
  pub fits : IsGuestWrite version shift pages (write_in bytes)

pub IsRight-from_none : (version shift pages before i : ℕ) (bytes : List ℕ)
    → write_refusal version shift pages before i bytes ≡ None → IsRight version shift pages before bytes
unfolding write_in
IsRight-from_none version shift pages before i bytes none =
    let head = passed _ _ _ none in
    let tail = passed _ _ _ head.1 in
    let order = passed _ _ _ tail.1 in
    let tick = passed _ _ _ order.1 in
    let page = passed _ _ _ tick.1 in
    let some = passed _ _ _ page.1 in
    let within = passed _ _ _ some.1 in
    let whole : 16 + length_in bytes ≤ length bytes = ltb-false _ _ tail.0 in
    let len : length (take (length_in bytes) (drop 16 bytes)) ≡ length_in bytes =
    omega (arith, length-take (length_in bytes) (drop 16 bytes), length-drop 16 bytes) in
    record {
      whole = whole;
      order = ltb-false _ _ order.0;
      fits = record {
        tick = leb-false _ _ tick.0;
        page = leb-false _ _ page.0;
        some = rw len (some_or_release version (offset_in bytes) (length_in bytes) some.0);
        within = let fits : offset_in bytes + length_in bytes ≤ 2 ^ shift = ltb-false _ _ within.0 in rw len fits;
      };
    }

HoldsWrites-next : (n : ℕ) (bytes : List ℕ) → HoldsWrites n bytes
    → 16 + length_in (rest_of n bytes) ≤ length (rest_of n bytes) → HoldsWrites (suc n) bytes
HoldsWrites-next zero bytes holds long = (long, tt)
HoldsWrites-next (suc n) bytes holds long = (holds.0, HoldsWrites-next n (rest_after bytes) holds.1 long)

pub ReadsTo-more : (version shift pages n : ℕ) (bytes : List ℕ) (last : ℕ) (rest : List ℕ)
    → ReadsTo version shift pages n bytes last rest → IsRight version shift pages last rest
    → ReadsTo version shift pages (n + 1) bytes (tick_in rest) (rest_after rest)
unfolding write_in
ReadsTo-more version shift pages n bytes last rest so_far right =
    let here : writes_in (n + 1) bytes ≡ writes_in n bytes ++ write_in rest ∷ [] =
    rw so_far.rest_is (writes_in_more n bytes) in
    let below : All (λ w. w.tick ≤ tick_in rest) (writes_in n bytes) =
    λ k d low. omega (arith, so_far.below k d low, right.order) in
    record {
      holds = rw add-one (HoldsWrites-next n bytes so_far.holds (rw so_far.rest_is at right.whole));
      fit = rw here (record {
        each = All-push (IsGuestWrite version shift pages) (writes_in n bytes) (write_in rest) so_far.fit.each
            right.fits;
        in_order = in_order-push (λ w. w.tick) (writes_in n bytes) (write_in rest) so_far.fit.in_order below;
      });
      last_is = rw here (sym (last_by-push (λ w. w.tick) (writes_in n bytes) (write_in rest)));
      below = rw here (All-push (λ w. w.tick ≤ tick_in rest) (writes_in n bytes) (write_in rest) below (omega arith));
      rest_is = ap rest_after so_far.rest_is ∙ sym (rest_of_more n bytes);
    }
