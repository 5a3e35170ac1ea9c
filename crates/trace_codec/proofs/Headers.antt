-- A header that is not refused is the one that its fields encode.
use Rattle.std.proofs.Common.{◌≡◌, ℕ, ◌^◌, ◌≤◌, List, ◌∷◌, ◌++◌, length, get_or, drop}
use Rattle.std.proofs.Common.{None, sym, ap, ◌∙◌, arith}
use Rattle.std.specs.Int.{w32}
use Rattle.std.proofs.lemmas.Bool.{eqb-true, leb-true, ltb-false, not-false, and_parts}
use Rattle.std.proofs.lemmas.List.{length-drop, drop-drop}
use Rattle.migration_model.specs.Numbers.{IsBytes, text_of, number_in}
use Rattle.migration_model.specs.Trace.{IsGuestSize, header_text}
use Rattle.migration_model.proofs.Numbers.{wide32}
use Rattle.migration_model.proofs.Writes.{IsBytes-drop, number_front}
use Rattle.trace_codec.specs.Refusals.{header_refusal}
use Rattle.trace_codec.proofs.Steps.{passed}

pub record IsHeader (bytes : List ℕ) : Type 0 where
  pub short : length bytes ≤ 2 ^ 28
  pub version_low : 1 ≤ get_or bytes 4 0
  pub version_high : get_or bytes 4 0 ≤ 2
  pub size : IsGuestSize (get_or bytes 5 0) (number_in w32 (drop 8 bytes))
  pub few : number_in w32 (drop 12 bytes) ≤ 2 ^ 20
  pub text : bytes ≡ header_text (get_or bytes 4 0) (get_or bytes 5 0) (number_in w32 (drop 8 bytes))
      (number_in w32 (drop 12 bytes)) ++ drop 16 bytes

-- eight bytes at the front, each of them known but the fifth and the sixth
front_is : (bytes : List ℕ) → 16 ≤ length bytes → get_or bytes 0 0 ≡ 80 → get_or bytes 1 0 ≡ 67 → get_or bytes 2 0 ≡ 87
    → get_or bytes 3 0 ≡ 84
    → get_or bytes 6 0 ≡ 0 → get_or bytes 7 0 ≡ 0
    → bytes ≡ 80 ∷ 67 ∷ 87 ∷ 84 ∷ get_or bytes 4 0 ∷ get_or bytes 5 0 ∷ 0 ∷ 0 ∷ drop 8 bytes
front_is (b0 ∷ b1 ∷ b2 ∷ b3 ∷ b4 ∷ b5 ∷ b6 ∷ b7 ∷ rest) long a b c d f g =
    λ i. a i ∷ b i ∷ c i ∷ d i ∷ b4 ∷ b5 ∷ f i ∷ g i ∷ rest
front_is _ long a b c d f g = absurd (omega arith)

-- the bytes after them: two numbers, and the rest
sizes_are : (bytes : List ℕ) → IsBytes bytes → 16 ≤ length bytes
    → drop 8 bytes ≡ text_of w32 (number_in w32 (drop 8 bytes))
    ++ (text_of w32 (number_in w32 (drop 12 bytes)) ++ drop 16 bytes)
sizes_are bytes fits long =
    let count : text_of w32 (number_in w32 (drop 12 bytes)) ++ drop 16 bytes ≡ drop 4 (drop 8 bytes) =
    number_front w32 4 (2 ^ 32) wide32 (drop 12 bytes) (drop 16 bytes) (IsBytes-drop 12 bytes fits)
    (omega (arith, length-drop 12 bytes)) (sym (drop-drop 4 12 bytes))
    ∙ sym (drop-drop 4 8 bytes) in
    sym (number_front w32 4 (2 ^ 32) wide32 (drop 8 bytes) _ (IsBytes-drop 8 bytes fits)
    (omega (arith, length-drop 8 bytes)) count)

pub IsHeader-from_none : (bytes : List ℕ) → IsBytes bytes → header_refusal bytes ≡ None → IsHeader bytes
unfolding header_text text_of
IsHeader-from_none bytes fits none =
    let short = passed _ _ _ none in
    let long = passed _ _ _ short.1 in
    let magic = passed _ _ _ long.1 in
    let version = passed _ _ _ magic.1 in
    let shift = passed _ _ _ version.1 in
    let reserved = passed _ _ _ shift.1 in
    let pages = passed _ _ _ reserved.1 in
    let few = passed _ _ _ pages.1 in
    let m012 = and_parts _ _ (not-false _ magic.0) in
    let m01 = and_parts _ _ m012.0 in
    let m0 = and_parts _ _ m01.0 in
    let v = and_parts _ _ (not-false _ version.0) in
    let s = and_parts _ _ (not-false _ shift.0) in
    let r = and_parts _ _ (not-false _ reserved.0) in
    let p = and_parts _ _ (not-false _ pages.0) in
    let front = front_is bytes (ltb-false _ _ long.0) (eqb-true _ _ m0.0) (eqb-true _ _ m0.1) (eqb-true _ _ m01.1)
    (eqb-true _ _ m012.1)
    (eqb-true _ _ r.0) (eqb-true _ _ r.1) in
    record {
      short = ltb-false _ _ short.0;
      version_low = leb-true _ _ v.0;
      version_high = leb-true _ _ v.1;
      size = record {
        shift_low = leb-true _ _ s.0;
        shift_high = leb-true _ _ s.1;
        pages_low = leb-true _ _ p.0;
        pages_high = leb-true _ _ p.1;
      };
      few = ltb-false _ _ few.0;
      text = front ∙ ap (λ (rest : List ℕ). 80 ∷ 67 ∷ 87 ∷ 84 ∷ get_or bytes 4 0 ∷ get_or bytes 5 0 ∷ 0 ∷ 0 ∷ rest)
          (sizes_are bytes fits (ltb-false _ _ long.0));
    }
