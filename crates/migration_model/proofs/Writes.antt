-- A write read at the front of some bytes is the one that was written there, and vice versa.
use Rattle.std.proofs.Common.{◌≡◌, ℕ, zero, suc, ◌+◌, ◌^◌, ◌<◌, ◌≤◌, List, [], ◌∷◌, ◌++◌, length, take, drop, refl, sym}
use Rattle.std.proofs.Common.{ap, ◌∙◌, append_assoc, add-one, arith}
use Rattle.std.specs.Int.{Width, w16, w32, w64}
use Rattle.std.specs.List.{AllByRecursion, flat_map}
use Rattle.std.proofs.lemmas.List.{take-append-drop, drop-drop, take_at, drop_at, length-take, length-drop, get_or-drop}
use Rattle.std.proofs.Math.Nat.{pow-le-pow_right}
use Rattle.migration_model.specs.Numbers.{IsBytes, text_of, number_in}
use Rattle.migration_model.specs.Trace.{GuestWrite, IsGuestSize, IsGuestWrite, write_text}
use Rattle.migration_model.specs.TraceReading.{page_in, offset_in, length_in, write_in, rest_after, writes_in, rest_of}
use Rattle.migration_model.proofs.Numbers.{IsWide, wide16, wide32, wide64}

-- a write whose fields fit their widths in a record
pub record HasPlaces (write : GuestWrite) : Type 0 where
  pub tick : write.tick < 2 ^ 64
  pub page : write.page < 2 ^ 32
  pub offset : write.offset < 2 ^ 16
  pub len : length write.bytes < 2 ^ 16

-- the size of a page
pub page_size_high : (shift : ℕ) → shift ≤ 12 → 2 ^ shift ≤ 4_096
page_size_high shift low = pow-le-pow_right (omega arith) low

pub HasPlaces-from_guest : (version shift pages : ℕ) (write : GuestWrite) → IsGuestSize shift pages
    → IsGuestWrite version shift pages write → HasPlaces write
HasPlaces-from_guest version shift pages write size fits =
    let small = page_size_high shift size.shift_high in
    record {
      tick = omega (arith, fits.tick);
      page = omega (arith, fits.page, size.pages_high);
      offset = omega (arith, fits.within, small);
      len = omega (arith, fits.within, small);
    }

-- ---- what was written is read again

pub len_again : (write : GuestWrite) (rest : List ℕ) → HasPlaces write
    → length_in (write_text write ++ rest) ≡ length write.bytes
unfolding write_text text_of
len_again write rest fits = wide16.again (length write.bytes) (write.bytes ++ rest) fits.len

-- writes are equal if their fields are
pub same_write : (a b : GuestWrite) → a.tick ≡ b.tick → a.page ≡ b.page → a.offset ≡ b.offset → a.bytes ≡ b.bytes
    → a ≡ b
same_write a b tick page offset bytes = λ i. record { tick = tick i; page = page i; offset = offset i; bytes = bytes i }

pub write_again : (write : GuestWrite) (rest : List ℕ) → HasPlaces write → write_in (write_text write ++ rest) ≡ write
unfolding write_text text_of write_in
write_again write rest fits =
    same_write _ write
    (wide64.again write.tick _ fits.tick)
    (wide32.again write.page _ fits.page)
    (wide16.again write.offset _ fits.offset)
    (ap (λ n. take n (write.bytes ++ rest)) (len_again write rest fits) ∙ take_at write.bytes rest _ refl)

pub rest_again : (write : GuestWrite) (rest : List ℕ) → HasPlaces write → rest_after (write_text write ++ rest) ≡ rest
unfolding write_text text_of rest_after
rest_again write rest fits =
    ap (λ n. drop (16 + n) (write_text write ++ rest)) (len_again write rest fits)
    ∙ sym (drop-drop (length write.bytes) 16 (write_text write ++ rest)) ∙ drop_at write.bytes rest _ refl

-- ---- what is read was written

pub length-write_text : (write : GuestWrite) → length (write_text write) ≡ 16 + length write.bytes
unfolding write_text text_of
length-write_text write = omega arith

pub IsBytes-drop : (n : ℕ) (bytes : List ℕ) → IsBytes bytes → IsBytes (drop n bytes)
IsBytes-drop n bytes h i = rw get_or-drop (h (n + i))

pub IsBytes-rest_after : (bytes : List ℕ) → IsBytes bytes → IsBytes (rest_after bytes)
unfolding rest_after
IsBytes-rest_after bytes h = IsBytes-drop _ bytes h

pub HasPlaces-read : (bytes : List ℕ) → IsBytes bytes → 16 + length_in bytes ≤ length bytes → HasPlaces (write_in bytes)
unfolding write_in
HasPlaces-read bytes fits long =
    let len = wide16.below (drop 14 bytes) (IsBytes-drop 14 bytes fits) in
    record {
      tick = wide64.below bytes fits;
      page = wide32.below (drop 8 bytes) (IsBytes-drop 8 bytes fits);
      offset = wide16.below (drop 12 bytes) (IsBytes-drop 12 bytes fits);
      len = omega (arith, len, length-take (length_in bytes) (drop 16 bytes));
    }

-- a number in front of the bytes after it
pub number_front : (w : Width) (len limit : ℕ) → IsWide w len limit → (bytes behind : List ℕ) → IsBytes bytes
    → len ≤ length bytes
    → behind ≡ drop len bytes → text_of w (number_in w bytes) ++ behind ≡ bytes
number_front w len limit wide bytes behind fits long is =
    ap (λ (x : List ℕ). text_of w (number_in w bytes) ++ x) is
    ∙ ap (λ (x : List ℕ). x ++ drop len bytes) (wide.back bytes long fits) ∙ take-append-drop len bytes

pub write_text-append : (write : GuestWrite) (rest : List ℕ) → write_text write ++ rest
    ≡ text_of w64 write.tick ++ (text_of w32 write.page ++ (text_of w16 write.offset
    ++ (text_of w16 (length write.bytes) ++ (write.bytes ++ rest))))
unfolding write_text text_of
write_text-append write rest = refl

-- the bytes are the write that is read at their front, and the bytes after it
pub text_read : (bytes : List ℕ) → IsBytes bytes → 16 + length_in bytes ≤ length bytes
    → bytes ≡ write_text (write_in bytes) ++ rest_after bytes
unfolding write_in rest_after
text_read bytes fits long =
    let n = length_in bytes in
    let own : List ℕ = take n (drop 16 bytes) in
    let behind : List ℕ = own ++ drop (16 + n) bytes in
    let len : length own ≡ n = omega (arith, length-take n (drop 16 bytes), length-drop 16 bytes) in
    let at16 : behind ≡ drop 2 (drop 14 bytes) =
    ap (λ (x : List ℕ). own ++ x) (sym (drop-drop n 16 bytes)) ∙ take-append-drop n (drop 16 bytes)
    ∙ sym (drop-drop 2 14 bytes) in
    let at14 : text_of w16 (length own) ++ behind ≡ drop 2 (drop 12 bytes) =
    ap (λ k. text_of w16 k ++ behind) len
    ∙ number_front w16 2 (2 ^ 16) wide16 (drop 14 bytes) behind (IsBytes-drop 14 bytes fits)
    (omega (arith, length-drop 14 bytes)) at16
    ∙ sym (drop-drop 2 12 bytes) in
    let at12 : text_of w16 (offset_in bytes) ++ (text_of w16 (length own) ++ behind) ≡ drop 4 (drop 8 bytes) =
    number_front w16 2 (2 ^ 16) wide16 (drop 12 bytes) _ (IsBytes-drop 12 bytes fits)
    (omega (arith, length-drop 12 bytes)) at14
    ∙ sym (drop-drop 4 8 bytes) in
    let at8 : text_of w32 (page_in bytes) ++ (text_of w16 (offset_in bytes) ++ (text_of w16 (length own) ++ behind))
    ≡ drop 8 bytes =
    number_front w32 4 (2 ^ 32) wide32 (drop 8 bytes) _ (IsBytes-drop 8 bytes fits) (omega (arith, length-drop 8 bytes))
    at12 in
    sym (write_text-append (write_in bytes) (rest_after bytes)
    ∙ number_front w64 8 (2 ^ 64) wide64 bytes _ fits (omega arith) at8)

-- ---- many writes

writes_in_next : (n : ℕ) (bytes : List ℕ) → writes_in (suc n) bytes ≡ writes_in n bytes ++ write_in (rest_of n bytes)
    ∷ []
writes_in_next zero bytes = refl
writes_in_next (suc n) bytes = ap (λ (ws : List GuestWrite). write_in bytes ∷ ws) (writes_in_next n (rest_after bytes))

rest_of_next : (n : ℕ) (bytes : List ℕ) → rest_of (suc n) bytes ≡ rest_after (rest_of n bytes)
rest_of_next zero bytes = refl
rest_of_next (suc n) bytes = rest_of_next n (rest_after bytes)

-- one more write is read after the previous ones
pub writes_in_more : (n : ℕ) (bytes : List ℕ) → writes_in (n + 1) bytes ≡ writes_in n bytes
    ++ write_in (rest_of n bytes) ∷ []
writes_in_more n bytes = rw add-one (writes_in_next n bytes)

pub rest_of_more : (n : ℕ) (bytes : List ℕ) → rest_of (n + 1) bytes ≡ rest_after (rest_of n bytes)
rest_of_more n bytes = rw add-one (rest_of_next n bytes)

pub length-writes_in : (n : ℕ) (bytes : List ℕ) → length (writes_in n bytes) ≡ n
length-writes_in zero bytes = refl
length-writes_in (suc n) bytes = ap suc (length-writes_in n (rest_after bytes))

-- the writes that were written one after another are read back, and then the bytes after them
pub writes_again : (writes : List GuestWrite) (rest : List ℕ) → AllByRecursion HasPlaces writes
    → writes_in (length writes) (flat_map write_text writes ++ rest) ≡ writes
writes_again [] rest fits = refl
writes_again (write ∷ writes) rest fits =
    let grouped : flat_map write_text (write ∷ writes) ++ rest ≡ write_text write
    ++ (flat_map write_text writes ++ rest) = append_assoc (write_text write) (flat_map write_text writes) rest in
    ap (writes_in (suc (length writes))) grouped
    ∙ rw (
      write_again write (flat_map write_text writes ++ rest) fits.0,
      rest_again write (flat_map write_text writes ++ rest) fits.0,
    )
    (ap (λ (ws : List GuestWrite). write ∷ ws) (writes_again writes rest fits.1))

pub rest_of_again : (writes : List GuestWrite) (rest : List ℕ) → AllByRecursion HasPlaces writes
    → rest_of (length writes) (flat_map write_text writes ++ rest) ≡ rest
rest_of_again [] rest fits = refl
rest_of_again (write ∷ writes) rest fits =
    let grouped : flat_map write_text (write ∷ writes) ++ rest ≡ write_text write
    ++ (flat_map write_text writes ++ rest) = append_assoc (write_text write) (flat_map write_text writes) rest in
    ap (rest_of (suc (length writes))) grouped
    ∙ ap (rest_of (length writes)) (rest_again write (flat_map write_text writes ++ rest) fits.0)
    ∙ rest_of_again writes rest fits.1

-- ---- the writes of some bytes in others

-- Writes in front of some bytes are the first of more writes in front of them. The encoding of the others follows, and
-- then the rest.
pub front_writes : (writes all : List GuestWrite) (rest last : List ℕ) → AllByRecursion HasPlaces writes
    → AllByRecursion HasPlaces all
    → length writes ≤ length all → flat_map write_text writes ++ rest ≡ flat_map write_text all ++ last
    → (others : List GuestWrite) × (all ≡ writes ++ others) × (rest ≡ flat_map write_text others ++ last)
front_writes [] all rest last fits fits_all few same = (all, refl, same)
front_writes (write ∷ writes) [] rest last fits fits_all few same = absurd (omega arith)
front_writes (write ∷ writes) (first ∷ all) rest last fits fits_all few same =
    let grouped : write_text write ++ (flat_map write_text writes ++ rest) ≡ write_text first
    ++ (flat_map write_text all ++ last) =
    sym (append_assoc (write_text write) (flat_map write_text writes) rest) ∙ same
    ∙ append_assoc (write_text first) (flat_map write_text all) last in
    let first_is : write ≡ first = sym (write_again write _ fits.0) ∙ ap write_in grouped
    ∙ write_again first _ fits_all.0 in
    let behind : flat_map write_text writes ++ rest ≡ flat_map write_text all ++ last =
    sym (rest_again write _ fits.0) ∙ ap rest_after grouped ∙ rest_again first _ fits_all.0 in
    let found = front_writes writes all rest last fits.1 fits_all.1 (omega arith) behind in
    (found.0, (λ i. sym first_is i ∷ found.1 i), found.2)
