-- A number read from its bytes is the number that was written, and vice versa.
use Rattle.std.proofs.Common.{◌≡◌, ℕ, ◌^◌, ◌<◌, ◌≤◌, List, ◌++◌, length, get_or, take, refl, sym, inl, inr, lit<, arith}
use Rattle.std.specs.Int.{Width, w16, w32, w64}
use Rattle.std.proofs.lemmas.Bool.{cases_lt}
use Rattle.std.proofs.lemmas.List.{length-take, get_or-take, get_or_past}
use Rattle.std.proofs.lemmas.Nat.{le_bytes_2, le_bytes_4, le_bytes_8, from_le_bytes-to_le_bytes_2}
use Rattle.std.proofs.lemmas.Nat.{from_le_bytes-to_le_bytes_4, from_le_bytes-to_le_bytes_8}
use Rattle.migration_model.specs.Numbers.{IsBytes, text_of, number_in}

-- a width of numbers: how many bytes it has, and how many numbers fit
pub record IsWide (w : Width) (len limit : ℕ) : Type 0 where
  pub length_text : (n : ℕ) → length (text_of w n) ≡ len
  pub again : (n : ℕ) (rest : List ℕ) → n < limit → number_in w (text_of w n ++ rest) ≡ n
  pub back : (bytes : List ℕ) → len ≤ length bytes → IsBytes bytes → text_of w (number_in w bytes) ≡ take len bytes
  pub below : (bytes : List ℕ) → IsBytes bytes → number_in w bytes < limit

pub IsBytes-take : (n : ℕ) (bytes : List ℕ) → IsBytes bytes → IsBytes (take n bytes)
IsBytes-take n bytes h i =
    elim (cases_lt i n) [
      | inl lt ↦ rw (get_or-take n bytes i 0 lt) (h i)
      | inr le ↦ rw (get_or_past (take n bytes) i 0 (omega (arith, length-take n bytes))) (omega arith)
    ]

at_front : (n i : ℕ) (bytes : List ℕ) → i < n → get_or bytes i 0 ≡ get_or (take n bytes) i 0
at_front n i bytes lt = sym (get_or-take n bytes i 0 lt)

pub wide16 : IsWide w16 2 (2 ^ 16)
unfolding text_of number_in
wide16 = record {
  length_text = λ n. refl;
  again = λ n rest lt. from_le_bytes-to_le_bytes_2 n lt;
  back = λ bytes long fits.
      le_bytes_2 (take 2 bytes) _ (omega (arith, length-take 2 bytes)) (IsBytes-take 2 bytes fits)
      (omega (arith, at_front 2 0 bytes (lit< tt), at_front 2 1 bytes (lit< tt)));
  below = λ bytes fits. omega (arith, fits 0, fits 1);
}

pub wide32 : IsWide w32 4 (2 ^ 32)
unfolding text_of number_in
wide32 = record {
  length_text = λ n. refl;
  again = λ n rest lt. from_le_bytes-to_le_bytes_4 n lt;
  back = λ bytes long fits.
      le_bytes_4 (take 4 bytes) _ (omega (arith, length-take 4 bytes)) (IsBytes-take 4 bytes fits)
      (omega (
        arith,
        at_front 4 0 bytes (lit< tt),
        at_front 4 1 bytes (lit< tt),
        at_front 4 2 bytes (lit< tt),
        at_front 4 3 bytes (lit< tt),
      ));
  below = λ bytes fits. omega (arith, fits 0, fits 1, fits 2, fits 3);
}

pub wide64 : IsWide w64 8 (2 ^ 64)
unfolding text_of number_in
wide64 = record {
  length_text = λ n. refl;
  again = λ n rest lt. from_le_bytes-to_le_bytes_8 n lt;
  back = λ bytes long fits.
      le_bytes_8 (take 8 bytes) _ (omega (arith, length-take 8 bytes)) (IsBytes-take 8 bytes fits)
      (omega (
        arith,
        at_front 8 0 bytes (lit< tt),
        at_front 8 1 bytes (lit< tt),
        at_front 8 2 bytes (lit< tt),
        at_front 8 3 bytes (lit< tt),
        at_front 8 4 bytes (lit< tt),
        at_front 8 5 bytes (lit< tt),
        at_front 8 6 bytes (lit< tt),
        at_front 8 7 bytes (lit< tt),
      ));
  below = λ bytes fits. omega (arith, fits 0, fits 1, fits 2, fits 3, fits 4, fits 5, fits 6, fits 7);
}
