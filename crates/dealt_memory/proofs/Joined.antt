-- Pieces that follow one another in memory.
use Rattle.std.proofs.Common.{◌≡◌, ℕ, zero, suc, ◌+◌, ◌-◌, ◌*◌, ◌^◌, ◌<◌, ◌≤◌, List, [], ◌∷◌, ◌++◌, drop, get_or}
use Rattle.std.proofs.Common.{add-one, rules, refl, replicate, sym, set, take, min, ap, subst, ◌∙◌, arith, inl, inr}
use Rattle.std.proofs.Common.{Err, Ok, length}
use Rattle.std.specs.List.{between, flat_map, fold}
use Rattle.std.specs.Prelude.{OnErr, OnOk, Result}
use Rattle.std.proofs.Math.Nat.{mul-le-mul_right}
use Rattle.std.proofs.Math.ListN.{drop_of_length-le, get_or-append}
use Rattle.std.proofs.Math.Seq.{drop-cons, get_or-append_right, take-nil}
use Rattle.std.proofs.lemmas.Bool.{cases_eq, cases_lt}
use Rattle.std.proofs.lemmas.List.{append-nil, drop-set, get_or-set_other, get_or-set_same, length-append, length-drop}
use Rattle.std.proofs.lemmas.List.{length-replicate, replicate-append-replicate}
use Rattle.std.proofs.lemmas.Nat.{pow_pos}
use Rattle.std.proofs.lemmas.List.{length-set, length-take, places, same_lists, take-append-drop, take-set, take_more}
use Rattle.std.proofs.lemmas.List.Concat.{flat_map-append}
use Rattle.std.proofs.lemmas.List.Sums.{fold-append}
use Rattle.migration_model.specs.Memory.{GuestMemory, apply, bytes_put, memory_with, put, zeros}
use Rattle.migration_model.specs.Trace.{GuestWrite, IsGuestWrite, write_with}
use Rattle.migration_model.proofs.Pages.{length-put, puts_within}
use Rattle.byte_sinks.specs.Pieces.{piece_of}
use Rattle.byte_sinks.proofs.Cuts.{piece_bytes}
use Rattle.dealt_memory.specs.Pieces.{ArePieces, IsPiece, joined}
use Rattle.dealt_memory.proofs.Spotted.{within_memory}

-- the bytes of pieces, one after the other
abbrev pub bytes_of : List GuestMemory → List ℕ
bytes_of pieces = flat_map (λ (piece : GuestMemory). piece.bytes) pieces

-- ---- a piece among the others

pub split : (pieces : List GuestMemory) (k : ℕ) (d : GuestMemory) → k < length pieces
    → bytes_of pieces ≡ bytes_of (take k pieces) ++ ((get_or pieces k d).bytes ++ bytes_of (drop (k + 1) pieces))
split pieces k d low =
    let f = λ (piece : GuestMemory). piece.bytes in
    sym (ap bytes_of (take-append-drop k pieces)) ∙ flat_map-append f (take k pieces) (drop k pieces)
    ∙ rw add-one (ap (λ (ps : List GuestMemory). bytes_of (take k pieces) ++ bytes_of ps) (drop-cons pieces k d low))

pub split_set : (pieces : List GuestMemory) (k : ℕ) (piece : GuestMemory) → k < length pieces
    → bytes_of (set pieces k piece) ≡ bytes_of (take k pieces) ++ (piece.bytes ++ bytes_of (drop (k + 1) pieces))
split_set pieces k piece low =
    let f = λ (piece : GuestMemory). piece.bytes in
    let new = set pieces k piece in
    sym (ap bytes_of (take-append-drop k new)) ∙ flat_map-append f (take k new) (drop k new)
    ∙ (λ j. bytes_of (take-set pieces k piece j) ++ bytes_of (drop-set pieces k piece low j))

put_middle : (a b c bs : List ℕ) (o : ℕ) → o + length bs ≤ length b
    → put (a ++ (b ++ c)) (length a + o) bs ≡ a ++ (put b o bs ++ c)
put_middle a b c bs o fits = same_lists _ _ (search (rules, places)) (λ k d h. grind (arith, places))

between_middle : (a b c : List ℕ) (n : ℕ) → length b ≡ n → between (length a) (length a + n) (a ++ (b ++ c)) ≡ b
between_middle a b c n len = same_lists _ _ (search (rules, places)) (λ k d h. grind (arith, places))

between_last : (a b : List ℕ) (n : ℕ) → length b ≤ n → between (length a) (length a + n) (a ++ (b ++ [])) ≡ b
between_last a b n len = same_lists _ _ (search (rules, places)) (λ k d h. grind (arith, places))

-- ---- where a piece begins

-- a page after full pieces has its bytes after theirs
bytes_before : (shift k : ℕ) → shift ≤ 12 → k * 2 ^ (18 - shift) * 2 ^ shift ≡ k * 2 ^ 18
bytes_before shift k low =
    let times : k * (2 ^ (18 - shift) * 2 ^ shift) ≡ k * 2 ^ 18 = ap (λ (n : ℕ). k * n) (piece_bytes shift low) in
    let same : k * 2 ^ (18 - shift) * 2 ^ shift ≡ k * (2 ^ (18 - shift) * 2 ^ shift) = omega arith in
    same ∙ times

-- a piece with a full piece's pages has its bytes
full_piece : (shift pages number : ℕ) (piece : GuestMemory) → shift ≤ 12 → IsPiece shift pages number piece
    → (number + 1) * 2 ^ (18 - shift) ≤ pages → length piece.bytes ≡ 2 ^ 18
full_piece shift pages number piece low is full =
    let w = 2 ^ (18 - shift) in
    let more : (number + 1) * w ≡ number * w + w = omega arith in
    let all : piece.pages ≡ w = is.pages_is ∙ omega (arith, full, more) in
    is.len ∙ ap (λ (n : ℕ). n * 2 ^ shift) all ∙ piece_bytes shift low

-- the pieces before one are full
pub front_full : (shift pages : ℕ) (pieces : List GuestMemory) (k : ℕ) (d : GuestMemory) → shift ≤ 12
    → ArePieces shift pages pieces → k ≤ length pieces → k * 2 ^ (18 - shift) ≤ pages
    → length (bytes_of (take k pieces)) ≡ k * 2 ^ 18
front_full shift pages pieces zero d low are within full = refl
front_full shift pages pieces (suc k) d low are within full =
    let f = λ (piece : GuestMemory). piece.bytes in
    let w = 2 ^ (18 - shift) in
    let more : suc k * w ≡ k * w + w = omega arith in
    let here : k < length pieces = omega (arith, within) in
    let before = front_full shift pages pieces k d low are (omega (arith, within)) (omega (arith, full, more)) in
    let own = full_piece shift pages k (get_or pieces k d) low (are.each k d here) (omega (arith, full)) in
    ap (λ (n : ℕ). length (bytes_of (take n pieces))) (sym (add-one k))
    ∙ ap (λ (ps : List GuestMemory). length (bytes_of ps)) (take_more pieces k d here)
    ∙ ap length (flat_map-append f (take k pieces) (get_or pieces k d ∷ []))
    ∙ length-append (bytes_of (take k pieces)) ((get_or pieces k d).bytes ++ [])
    ∙ omega (arith, before, own, length-append (get_or pieces k d).bytes [])

-- ---- a piece of memory

-- all pieces have pages, and so those before one are full
pub front_is : (shift pages : ℕ) (pieces : List GuestMemory) (number : ℕ) (d : GuestMemory) → shift ≤ 12
    → ArePieces shift pages pieces → number < length pieces
    → length (bytes_of (take number pieces)) ≡ number * 2 ^ 18
front_is shift pages pieces number d low are there =
    let own = are.each number d there in
    front_full shift pages pieces number d low are (omega (arith, there)) (omega (arith, own.pages_is, own.some))

-- the last piece has the rest, and none is longer than a piece
pub piece_short : (shift pages number : ℕ) (piece : GuestMemory) → shift ≤ 12 → IsPiece shift pages number piece
    → length piece.bytes ≤ 2 ^ 18
piece_short shift pages number piece low is =
    let few : piece.pages ≤ 2 ^ (18 - shift) = omega (arith, is.pages_is) in
    omega (arith, is.len, mul-le-mul_right (2 ^ shift) few, piece_bytes shift low)

pub piece_there : (shift pages : ℕ) (pieces : List GuestMemory) (number : ℕ) (d : GuestMemory) → shift ≤ 12
    → ArePieces shift pages pieces → number < length pieces
    → (get_or pieces number d).bytes ≡ piece_of (joined shift pages pieces) number
piece_there shift pages pieces number d low are there =
    let before = bytes_of (take number pieces) in
    let own = (get_or pieces number d).bytes in
    let front = front_is shift pages pieces number d low are there in
    let next : (number + 1) * 2 ^ 18 ≡ number * 2 ^ 18 + 2 ^ 18 = omega arith in
    let cut : between (number * 2 ^ 18) ((number + 1) * 2 ^ 18) (bytes_of pieces)
    ≡ between (length before) (length before + 2 ^ 18)
    (before ++ (own ++ bytes_of (drop (number + 1) pieces))) =
    (λ j. between (sym front j) (next j) (split pieces number d there j))
    ∙ ap (λ (n : ℕ). between (length before) (n + 2 ^ 18) (before ++ (own ++ bytes_of (drop (number + 1) pieces))))
    (sym front) in
    elim (cases_lt (number + 1) (length pieces)) [
      | inl more ↦
          let after = are.each (number + 1) d more in
          let full = full_piece shift pages number (get_or pieces number d) low (are.each number d there)
          (omega (arith, after.pages_is, after.some)) in
          sym (cut ∙ between_middle before own (bytes_of (drop (number + 1) pieces)) (2 ^ 18) full)
      | inr last ↦
          let none : drop (number + 1) pieces ≡ [] = drop_of_length-le pieces last in
          sym (cut ∙ ap (λ (ps : List GuestMemory). between (length before) (length before + 2 ^ 18)
          (before ++ (own ++ bytes_of ps))) none
          ∙ between_last before own (2 ^ 18)
          (piece_short shift pages number (get_or pieces number d) low (are.each number d there)))
    ]

-- all bytes are those of the pages
pub length_joined : (shift pages : ℕ) (pieces : List GuestMemory) → shift ≤ 12 → ArePieces shift pages pieces
    → length (bytes_of pieces) ≡ pages * 2 ^ shift
length_joined shift pages [] low are =
    let none : pages ≡ 0 = omega (arith, are.all) in
    let zero_bytes : pages * 2 ^ shift ≡ 0 * 2 ^ shift = ap (λ (n : ℕ). n * 2 ^ shift) none in
    omega (arith, zero_bytes)
length_joined shift pages (p ∷ ps) low are =
    let pieces = p ∷ ps in
    let k = length ps in
    let w = 2 ^ (18 - shift) in
    let n = 2 ^ shift in
    let there : k < length pieces = omega arith in
    let own = are.each k p there in
    let before = bytes_of (take k pieces) in
    let last = get_or pieces k p in
    let rest = bytes_of (drop (k + 1) pieces) in
    let behind : length rest ≡ 0 = ap (λ (qs : List GuestMemory). length (bytes_of qs))
    (drop_of_length-le pieces (omega arith)) in
    let more : length pieces * w ≡ k * w + w = omega arith in
    let sum : last.pages + k * w ≡ pages = omega (arith, own.pages_is, own.some, are.all, more) in
    let bytes : (last.pages + k * w) * n ≡ pages * n = ap (λ (m : ℕ). m * n) sum in
    ap length (split pieces k p there) ∙ length-append before (last.bytes ++ rest)
    ∙ omega (
      arith,
      length-append last.bytes rest,
      behind,
      front_is shift pages pieces k p low are there,
      own.len,
      bytes,
      bytes_before shift k low,
    )

-- behind the last piece there is nothing
pub no_piece : (shift pages : ℕ) (pieces : List GuestMemory) (number : ℕ) → shift ≤ 12 → ArePieces shift pages pieces
    → length pieces ≤ number → piece_of (joined shift pages pieces) number ≡ []
no_piece shift pages pieces number low are past =
    let count = length pieces in
    let all : pages * 2 ^ shift ≤ count * 2 ^ (18 - shift) * 2 ^ shift = mul-le-mul_right (2 ^ shift) are.all in
    let short : length (bytes_of pieces) ≤ number * 2 ^ 18 = omega
    (arith, all, bytes_before shift count low, length_joined shift pages pieces low are) in
    ap (take ((number + 1) * 2 ^ 18 - number * 2 ^ 18)) (drop_of_length-le (bytes_of pieces) short)
    ∙ take-nil ((number + 1) * 2 ^ 18 - number * 2 ^ 18)

-- ---- one more write

-- the piece of a page is there
pub piece_found : (shift pages : ℕ) (pieces : List GuestMemory) (k q page : ℕ) → ArePieces shift pages pieces
    → k * 2 ^ (18 - shift) + q ≡ page → page < pages → k < length pieces
piece_found shift pages pieces k q page are place inside = elim (cases_lt k (length pieces)) [
  | inl there ↦ there
  | inr past ↦
      let low : length pieces * 2 ^ (18 - shift) ≤ k * 2 ^ (18 - shift) = mul-le-mul_right (2 ^ (18 - shift)) past in
      absurd (omega (arith, low, are.all, place, inside))
]

-- a write to a page, as its piece sees it
abbrev pub moved : ℕ → GuestWrite → GuestWrite
moved q write = write_with 0 q write.offset write.bytes

pub moved_fits : (version shift pages k q : ℕ) (piece : GuestMemory) (write : GuestWrite)
    → IsPiece shift pages k piece → k * 2 ^ (18 - shift) + q ≡ write.page → q < 2 ^ (18 - shift)
    → IsGuestWrite version shift pages write → IsGuestWrite 2 shift piece.pages (moved q write)
moved_fits version shift pages k q piece write is place low fit = record {
  tick = omega arith;
  page = omega (arith, is.pages_is, place, low, fit.page);
  some = elim fit.some [
    | inl some ↦ inl some
    | inr release ↦ inr (refl, release.1)
  ];
  within = fit.within;
}

-- a piece after one more write is a piece
piece_applied : (shift pages k : ℕ) (piece : GuestMemory) (write : GuestWrite) → IsPiece shift pages k piece
    → IsGuestWrite 2 shift piece.pages write → IsPiece shift pages k (apply piece write)
piece_applied shift pages k piece write is fit =
    let same : piece.shift ≡ shift = is.shift_is in
    let place = write.page * 2 ^ piece.shift + write.offset in
    let fits : place + length (bytes_put piece.shift write) ≤ length piece.bytes =
    subst (λ (s : ℕ). write.page * 2 ^ s + write.offset + length (bytes_put s write) ≤ length piece.bytes) (sym same)
    (within_memory shift piece.pages write piece.bytes is.len fit) in
    record {
      shift_is = same;
      some = is.some;
      pages_is = is.pages_is;
      len = length-put piece.bytes place (bytes_put piece.shift write) fits ∙ is.len;
    }

pub piece_pushed : {T E : Type 0} (r : Result T E) (shift pages k : ℕ) (old new : GuestMemory) (write : GuestWrite)
    → IsPiece shift pages k old → IsGuestWrite 2 shift old.pages write → OnOk r (new ≡ apply old write)
    → OnErr r (new ≡ old) → IsPiece shift pages k new
piece_pushed (Ok x) shift pages k old new write is fit pushed kept =
    subst (IsPiece shift pages k) (sym pushed) (piece_applied shift pages k old write is fit)
piece_pushed (Err e) shift pages k old new write is fit pushed kept = subst (IsPiece shift pages k) (sym kept) is

pub pieces_set : (shift pages : ℕ) (pieces : List GuestMemory) (k : ℕ) (piece : GuestMemory)
    → ArePieces shift pages pieces → k < length pieces → IsPiece shift pages k piece
    → ArePieces shift pages (set pieces k piece)
pieces_set shift pages pieces k piece are there is =
    let size : length (set pieces k piece) ≡ length pieces = length-set pieces k piece in
    record {
      all = subst (λ (n : ℕ). pages ≤ n * 2 ^ (18 - shift)) (sym size) are.all;
      each = λ number d inside. elim (cases_eq number k) [
        | inl same ↦ rw (same, get_or-set_same pieces k piece d there) is
        | inr apart ↦
            rw (get_or-set_other pieces k number piece d apart) (are.each number d (omega (arith, inside, size)))
      ];
    }

-- the bytes of memory after a write to one of its pieces
bytes_applied : (shift pages : ℕ) (pieces : List GuestMemory) (k q : ℕ) (d piece : GuestMemory) (write : GuestWrite)
    → shift ≤ 12 → ArePieces shift pages pieces → k < length pieces → k * 2 ^ (18 - shift) + q ≡ write.page
    → IsGuestWrite 2 shift (get_or pieces k d).pages (moved q write)
    → piece ≡ apply (get_or pieces k d) (moved q write)
    → bytes_of (set pieces k piece)
    ≡ put (bytes_of pieces) (write.page * 2 ^ shift + write.offset) (bytes_put shift write)
bytes_applied shift pages pieces k q d piece write low are there place fit is =
    let own = get_or pieces k d in
    let known = are.each k d there in
    let before = bytes_of (take k pieces) in
    let rest = bytes_of (drop (k + 1) pieces) in
    let bs = bytes_put shift write in
    let o = q * 2 ^ shift + write.offset in
    let new : piece.bytes ≡ put own.bytes o bs = ap (λ (m : GuestMemory). m.bytes) is
    ∙ ap (λ (s : ℕ). put own.bytes (q * 2 ^ s + write.offset) (bytes_put s write)) known.shift_is in
    let fits : o + length bs ≤ length own.bytes = within_memory shift own.pages (moved q write) own.bytes known.len
    fit in
    let times : (k * 2 ^ (18 - shift) + q) * 2 ^ shift ≡ write.page * 2 ^ shift = ap (λ (n : ℕ). n * 2 ^ shift) place in
    let at : length before + o ≡ write.page * 2 ^ shift + write.offset = omega
    (arith, times, bytes_before shift k low, front_is shift pages pieces k d low are there) in
    split_set pieces k piece there ∙ ap (λ (b : List ℕ). before ++ (b ++ rest)) new
    ∙ sym (put_middle before own.bytes rest bs o fits)
    ∙ (λ j. put (sym (split pieces k d there) j) (at j) bs)

-- a write to a page is one to its piece
pub memory_applied : {T E : Type 0} (r : Result T E) (shift pages : ℕ) (pieces : List GuestMemory) (k q : ℕ)
    (old new view : GuestMemory) (write : GuestWrite) → shift ≤ 12 → ArePieces shift pages pieces
    → k < length pieces → k * 2 ^ (18 - shift) + q ≡ write.page → old ≡ get_or pieces k old
    → IsGuestWrite 2 shift (get_or pieces k old).pages (moved q write) → joined shift pages pieces ≡ view
    → OnOk r (new ≡ apply old (moved q write))
    → OnOk r ((start : GuestMemory) (writes : List GuestWrite) → fold apply start writes ≡ view
    → fold apply start (writes ++ write ∷ []) ≡ joined shift pages (set pieces k new))
memory_applied (Ok x) shift pages pieces k q old new view write low are there place found fit view_is pushed =
    let is : new ≡ apply (get_or pieces k old) (moved q write) = pushed
    ∙ ap (λ (m : GuestMemory). apply m (moved q write)) found in
    λ start writes made. fold-append apply start writes (write ∷ [])
    ∙ ap (λ (m : GuestMemory). apply m write) (made ∙ sym view_is)
    ∙ ap (memory_with shift pages) (sym (bytes_applied shift pages pieces k q old new write low are there place fit is))
memory_applied (Err e) shift pages pieces k q old new view write low are there place found fit view_is pushed = tt

-- ---- before any write

pub none_more : (shift : ℕ) (pieces : List GuestMemory) (piece : GuestMemory) (done more all : ℕ)
    → bytes_of pieces ≡ replicate (done * 2 ^ shift) 0 → piece.bytes ≡ replicate (more * 2 ^ shift) 0
    → all ≡ done + more → bytes_of (pieces ++ piece ∷ []) ≡ replicate (all * 2 ^ shift) 0
none_more shift pieces piece done more all before own sum =
    let n = 2 ^ shift in
    let times : done * n + more * n ≡ all * n = omega (arith, ap (λ (k : ℕ). k * n) sum) in
    flat_map-append (λ (piece : GuestMemory). piece.bytes) pieces (piece ∷ [])
    ∙ (λ j. before j ++ (append-nil piece.bytes ∙ own) j) ∙ replicate-append-replicate (done * n) (more * n) 0
    ∙ ap (λ (k : ℕ). replicate k 0) times

pub pieces_more : (shift pages : ℕ) (pieces : List GuestMemory) (piece : GuestMemory)
    → ((number : ℕ) (d : GuestMemory) → number < length pieces → IsPiece shift pages number (get_or pieces number d))
    → IsPiece shift pages (length pieces) piece → (number : ℕ) (d : GuestMemory)
    → number < length (pieces ++ piece ∷ []) → IsPiece shift pages number (get_or (pieces ++ piece ∷ []) number d)
pieces_more shift pages pieces piece each is number d inside = elim (cases_lt number (length pieces)) [
  | inl old ↦
      subst (IsPiece shift pages number) (sym (get_or-append pieces (piece ∷ []) d number old)) (each number d old)
  | inr new ↦
      let last : number ≡ length pieces = omega (arith, new, inside, length-append pieces (piece ∷ [])) in
      let first : number - length pieces ≡ 0 = omega (arith, last) in
      let at : get_or (pieces ++ piece ∷ []) number d ≡ piece = get_or-append_right pieces (piece ∷ []) number d new
      ∙ ap (λ (n : ℕ). get_or (piece ∷ []) n d) first in
      subst (IsPiece shift pages number) (sym at) (subst (λ (n : ℕ). IsPiece shift pages n piece) (sym last) is)
]

-- a piece before any write
pub none_is : (shift pages number part left : ℕ) (piece : GuestMemory) → piece ≡ zeros shift part
    → left ≡ pages - number * 2 ^ (18 - shift) → 1 ≤ left → part ≡ min left (2 ^ (18 - shift))
    → IsPiece shift pages number piece
none_is shift pages number part left piece is rest some few =
    let one : 1 ≤ 2 ^ (18 - shift) = pow_pos (18 - shift) in
    subst (IsPiece shift pages number) (sym is)
    (record {
      shift_is = refl;
      some = omega (arith, few, some, one);
      pages_is = omega (arith, few, rest);
      len = length-replicate (part * 2 ^ shift) 0;
    })
