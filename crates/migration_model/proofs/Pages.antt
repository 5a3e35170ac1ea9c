-- The pages of memory, as writes leave them.
use Rattle.std.proofs.Common.{rules, ◌≡◌, ℕ, zero, suc, ◌+◌, ◌-◌, ◌*◌, ◌^◌, ◌<◌, ◌≤◌, Bool, false, cond, eqb, ltb, ◌&&◌}
use Rattle.std.proofs.Common.{List, [], ◌∷◌, ◌++◌, length, take, drop, replicate, max, inl, inr, refl, sym, ap, ◌∙◌}
use Rattle.std.proofs.Common.{arith}
use Rattle.std.specs.List.{All, filter, fold, between}
use Rattle.std.specs.List.Sorted.{IsNonDecreasingBy}
use Rattle.std.proofs.Math.Nat.{mul-le-mul_right}
use Rattle.std.proofs.Math.Seq.{take-nil}
use Rattle.std.proofs.lemmas.Bool.{cond-true, cond-false, cases_eq, cases_lt, cases_order, eq-eqb, ne_eqb, lt-ltb}
use Rattle.std.proofs.lemmas.Bool.{le-ltb}
use Rattle.std.proofs.lemmas.List.{places, same_lists, take-replicate, drop-replicate, drop-drop, take-append-drop}
use Rattle.std.proofs.lemmas.List.{length-take, length-drop, length-append, length-replicate}
use Rattle.std.proofs.lemmas.List.Edits.{length-between}
use Rattle.std.proofs.lemmas.List.Sums.{fold-append}
use Rattle.std.proofs.lemmas.List.Elements.{All-head, All-tail, All-take, All-drop, All-filter}
use Rattle.migration_model.specs.Trace.{GuestWrite, GuestTrace, IsGuestWrite, IsTrace}
use Rattle.migration_model.specs.Memory.{GuestMemory, memory_with, put, bytes_put, apply, zeros, page_of, replay}
use Rattle.migration_model.specs.Memory.{image_of, image_before}
use Rattle.migration_model.specs.Versions.{page_at, version_before}
use Rattle.migration_model.specs.Resumed.{IsResumed, writes_after}
use Rattle.migration_model.proofs.Places.{from, from_is}

pub length-put : (memory : List ℕ) (place : ℕ) (bytes : List ℕ) → place + length bytes ≤ length memory
    → length (put memory place bytes) ≡ length memory
length-put memory place bytes fits =
    omega (
      arith,
      length-append (take place memory) (bytes ++ drop (place + length bytes) memory),
      length-append bytes (drop (place + length bytes) memory),
      length-take place memory,
      length-drop (place + length bytes) memory,
    )

-- a write within a part
put_inside : (m bs : List ℕ) (a n o : ℕ) → a + n ≤ length m → o + length bs ≤ n
    → between a (a + n) (put m (a + o) bs) ≡ put (between a (a + n) m) o bs
put_inside m bs a n o inside fits = same_lists _ _ (search (rules, places)) (λ k d h. grind (arith, places))

-- a write before a part, and one after it
put_before : (m bs : List ℕ) (a n i : ℕ) → a + n ≤ length m → i + length bs ≤ a
    → between a (a + n) (put m i bs) ≡ between a (a + n) m
put_before m bs a n i inside fits = same_lists _ _ (search (rules, places)) (λ k d h. grind (arith, places))

put_after : (m bs : List ℕ) (a n i : ℕ) → i + length bs ≤ length m → a + n ≤ i
    → between a (a + n) (put m i bs) ≡ between a (a + n) m
put_after m bs a n i inside fits = same_lists _ _ (search (rules, places)) (λ k d h. grind (arith, places))

-- what a write puts stays within its page
pub puts_within : (version shift pages : ℕ) (w : GuestWrite) → IsGuestWrite version shift pages w
    → w.offset + length (bytes_put shift w) ≤ 2 ^ shift
puts_within version shift pages w fits = elim (cases_eq (length w.bytes) 0) [
  | inl none ↦ elim fits.some [
    | inl some ↦ absurd (omega (arith, none, some))
    | inr release ↦
        rw (cond-true (eqb (length w.bytes) 0) (replicate (2 ^ shift) 0) w.bytes (eq-eqb (length w.bytes) 0 none))
        (omega (arith, release.1, length-replicate {A = ℕ} (2 ^ shift) 0))
  ]
  | inr some ↦ rw (cond-false (eqb (length w.bytes) 0) (replicate (2 ^ shift) 0) w.bytes
      (ne_eqb (length w.bytes) 0 some)) fits.within
]

-- one more write to memory, as a page sees it
page_step : (version shift pages : ℕ) (m : List ℕ) (w : GuestWrite) (page : ℕ) → page < pages
    → length m ≡ pages * 2 ^ shift → IsGuestWrite version shift pages w
    → page_of (apply (memory_with shift pages m) w) page ≡ cond (eqb w.page page)
    (put (page_of (memory_with shift pages m) page) w.offset (bytes_put shift w))
    (page_of (memory_with shift pages m) page)
page_step version shift pages m w page low len fits =
    let n : ℕ = 2 ^ shift in
    let end : suc page * n ≤ pages * n = mul-le-mul_right n low in
    let own : suc w.page * n ≤ pages * n = mul-le-mul_right n fits.page in
    let inside : page * n + n ≤ length m = omega (arith, end, len) in
    let bound : w.offset + length (bytes_put shift w) ≤ n = puts_within version shift pages w fits in
    elim (cases_order w.page page) [
      | inl same ↦
          rw (cond-true (eqb w.page page) (put (between (page * n) (page * n + n) m) w.offset (bytes_put shift w))
          (between (page * n) (page * n + n) m) (eq-eqb w.page page same))
          (ap (λ (p : ℕ). between (page * n) (page * n + n) (put m (p * n + w.offset) (bytes_put shift w))) same
          ∙ put_inside m (bytes_put shift w) (page * n) n w.offset inside bound)
      | inr apart ↦ elim apart [
        | inl before ↦
            let ends : suc w.page * n ≤ page * n = mul-le-mul_right n before in
            rw (cond-false (eqb w.page page) (put (between (page * n) (page * n + n) m) w.offset (bytes_put shift w))
            (between (page * n) (page * n + n) m) (ne_eqb w.page page (λ e. absurd (omega (arith, e, before)))))
            (put_before m (bytes_put shift w) (page * n) n (w.page * n + w.offset) inside (omega (arith, ends, bound)))
        | inr after ↦
            let begins : suc page * n ≤ w.page * n = mul-le-mul_right n after in
            rw (cond-false (eqb w.page page) (put (between (page * n) (page * n + n) m) w.offset (bytes_put shift w))
            (between (page * n) (page * n + n) m) (ne_eqb w.page page (λ e. absurd (omega (arith, e, after)))))
            (put_after m (bytes_put shift w) (page * n) n (w.page * n + w.offset) (omega (arith, own, len, bound))
            (omega (arith, begins)))
      ]
    ]

-- a page after one more write, which counts only if it is the page's own
abbrev pub own : ℕ → ℕ → List ℕ → GuestWrite → List ℕ
own shift page bytes write = cond (eqb write.page page) (put bytes write.offset (bytes_put shift write)) bytes

-- memory after writes, as a page sees it
pub pages_fold : (version shift pages : ℕ) (ws : List GuestWrite) (m : List ℕ) (page : ℕ) → page < pages
    → length m ≡ pages * 2 ^ shift
    → All (IsGuestWrite version shift pages) ws
    → page_of (fold apply (memory_with shift pages m) ws) page
    ≡ fold (own shift page) (page_of (memory_with shift pages m) page) ws
pages_fold version shift pages [] m page low len fits = refl
pages_fold version shift pages (w ∷ ws) m page low len fits =
    let fit = All-head (IsGuestWrite version shift pages) w ws fits in
    let n : ℕ = 2 ^ shift in
    let within : suc w.page * n ≤ pages * n = mul-le-mul_right n fit.page in
    let inside : w.page * n + w.offset + length (bytes_put shift w) ≤ length m =
    omega (arith, within, len, puts_within version shift pages w fit) in
    let next : List ℕ = put m (w.page * n + w.offset) (bytes_put shift w) in
    pages_fold version shift pages ws next page low (length-put m (w.page * n + w.offset) (bytes_put shift w) inside
    ∙ len) (All-tail (IsGuestWrite version shift pages) w ws fits)
    ∙ ap (λ (b : List ℕ). fold (own shift page) b ws) (page_step version shift pages m w page low len fit)

-- before any write
pub zero_page : (shift pages page : ℕ) → page < pages → page_of (zeros shift pages) page ≡ replicate (2 ^ shift) 0
zero_page shift pages page low =
    let n : ℕ = 2 ^ shift in
    let end : suc page * n ≤ pages * n = mul-le-mul_right n low in
    let width : page * n + n - page * n ≡ n = omega arith in
    let room : n ≤ pages * n - page * n = omega (arith, end) in
    ap (λ (k : ℕ). take k (drop (page * n) (replicate (pages * n) 0))) width
    ∙ ap (λ (l : List ℕ). take n l) (drop-replicate (page * n) (pages * n) 0)
    ∙ take-replicate n (pages * n - page * n) 0 room

-- memory keeps its length
pub length-applied : (version shift pages : ℕ) (ws : List GuestWrite) (m : List ℕ) → length m ≡ pages * 2 ^ shift
    → All (IsGuestWrite version shift pages) ws
    → (after : List ℕ) × (fold apply (memory_with shift pages m) ws ≡ memory_with shift pages after)
    × (length after ≡ pages * 2 ^ shift)
length-applied version shift pages [] m len fits = (m, refl, len)
length-applied version shift pages (w ∷ ws) m len fits =
    let fit = All-head (IsGuestWrite version shift pages) w ws fits in
    let within : suc w.page * 2 ^ shift ≤ pages * 2 ^ shift = mul-le-mul_right (2 ^ shift) fit.page in
    length-applied version shift pages ws (put m (w.page * 2 ^ shift + w.offset) (bytes_put shift w))
    (length-put m (w.page * 2 ^ shift + w.offset) (bytes_put shift w)
    (omega (arith, within, len, puts_within version shift pages w fit)) ∙ len)
    (All-tail (IsGuestWrite version shift pages) w ws fits)

-- lists that are equal piece by piece
same_pieces : (n count : ℕ) (a b : List ℕ) → length a ≡ count * n → length b ≡ count * n
    → ((p : ℕ) → p < count → take n (drop (p * n) a) ≡ take n (drop (p * n) b)) → a ≡ b
same_pieces n zero [] [] len_a len_b same = refl
same_pieces n zero [] (y ∷ b) len_a len_b same = absurd (omega (arith, len_b))
same_pieces n zero (x ∷ a) b len_a len_b same = absurd (omega (arith, len_a))
same_pieces n (suc count) a b len_a len_b same =
    let none : 0 * n ≡ 0 = omega arith in
    let front : take n a ≡ take n b =
    ap (λ k. take n (drop k a)) (sym none) ∙ same 0 (omega arith) ∙ ap (λ k. take n (drop k b)) none in
    let more : suc count * n ≡ n + count * n = omega arith in
    let rest : drop n a ≡ drop n b = same_pieces n count (drop n a) (drop n b)
    (omega (arith, length-drop n a, len_a, more)) (omega (arith, length-drop n b, len_b, more))
    (λ p low.
    let far : n + p * n ≡ suc p * n = omega arith in
    ap (take n) (drop-drop (p * n) n a ∙ ap (λ k. drop k a) far) ∙ same (suc p) (omega arith)
    ∙ sym (ap (take n) (drop-drop (p * n) n b ∙ ap (λ k. drop k b) far))) in
    sym (take-append-drop n a) ∙ ap (λ (l : List ℕ). l ++ drop n a) front ∙ ap (λ (l : List ℕ). take n b ++ l) rest
    ∙ take-append-drop n b

-- memory is what its pages are
pub same_memory : (shift pages : ℕ) (a b : List ℕ) → length a ≡ pages * 2 ^ shift → length b ≡ pages * 2 ^ shift
    → ((page : ℕ) → page < pages → page_of (memory_with shift pages a) page ≡ page_of (memory_with shift pages b) page)
    → a ≡ b
same_memory shift pages a b len_a len_b same =
    let n = 2 ^ shift in
    same_pieces n pages a b len_a len_b (λ p low.
    let width : p * n + n - p * n ≡ n = omega arith in
    ap (λ k. take k (drop (p * n) a)) (sym width) ∙ same p low ∙ ap (λ k. take k (drop (p * n) b)) width)

-- what writes to zeros leave of a page
pub page_replayed : (version shift pages : ℕ) (ws : List GuestWrite) (page : ℕ) → page < pages
    → All (IsGuestWrite version shift pages) ws
    → page_of (replay shift pages ws) page ≡ fold (own shift page) (replicate (2 ^ shift) 0) ws
page_replayed version shift pages ws page low fits =
    pages_fold version shift pages ws (replicate (pages * 2 ^ shift) 0) page low
    (length-replicate (pages * 2 ^ shift) 0) fits
    ∙ ap (λ (b : List ℕ). fold (own shift page) b ws) (zero_page shift pages page low)

-- memory whose pages are those of a replay is that
pub replay-from_pages : (version shift pages : ℕ) (ws : List GuestWrite) (memory : GuestMemory) → memory.shift ≡ shift
    → memory.pages ≡ pages
    → length memory.bytes ≡ memory.pages * 2 ^ memory.shift → All (IsGuestWrite version shift pages) ws
    → ((page : ℕ) → page < pages → page_of memory page ≡ page_of (replay shift pages ws) page)
    → memory ≡ replay shift pages ws
replay-from_pages version shift pages ws memory shift_is pages_is len fits same =
    let after = length-applied version shift pages ws (replicate (pages * 2 ^ shift) 0)
    (length-replicate (pages * 2 ^ shift) 0) fits in
    let is : memory ≡ memory_with shift pages memory.bytes =
    λ i. record { shift = shift_is i; pages = pages_is i; bytes = memory.bytes } in
    let len_is : length memory.bytes ≡ pages * 2 ^ shift = len ∙ (λ i. pages_is i * 2 ^ shift_is i) in
    is ∙ ap (memory_with shift pages) (same_memory shift pages memory.bytes after.0 len_is after.2
    (λ page low. ap (λ (m : GuestMemory). page_of m page) (sym is) ∙ same page low
    ∙ ap (λ (m : GuestMemory). page_of m page) after.1)) ∙ sym after.1

pub length-page_at : (trace : GuestTrace) (page version : ℕ) → IsTrace trace → page < trace.pages
    → length (page_at trace page version) ≡ 2 ^ trace.shift
length-page_at trace page version is low =
    let n = 2 ^ trace.shift in
    let after = length-applied trace.version trace.shift trace.pages (take version trace.writes)
    (replicate (trace.pages * n) 0) (length-replicate (trace.pages * n) 0)
    (All-take (IsGuestWrite trace.version trace.shift trace.pages) version trace.writes is.writes.each) in
    let end : suc page * n ≤ trace.pages * n = mul-le-mul_right n low in
    ap (λ (m : GuestMemory). length (page_of m page)) after.1
    ∙ length-between after.0 (page * n) (page * n + n) (omega (arith, end, after.2)) ∙ omega arith

-- ---- the version before a tick

fold_max : (s : ℕ) (l : List ℕ) → fold max s l ≡ max s (fold max 0 l)
fold_max s [] = omega arith
fold_max s (x ∷ l) = omega (arith, fold_max (max s x) l, fold_max (max 0 x) l)

rest_in_order : (w : GuestWrite) (ws : List GuestWrite) → IsNonDecreasingBy (λ write. write.tick) (w ∷ ws)
    → IsNonDecreasingBy (λ write. write.tick) ws
rest_in_order w ws order = λ i j d le low. order (suc i) (suc j) d (omega (arith, le)) (omega (arith, low))

abbrev hits : ℕ → ℕ → GuestWrite → Bool
hits page tick w = eqb w.page page && ltb w.tick tick

none_late : (page tick s : ℕ) (ws : List GuestWrite) → All (λ w. tick ≤ w.tick) ws
    → (from (hits page tick) s ws ≡ []) × (filter (λ w. ltb w.tick tick) ws ≡ [])
none_late page tick s [] late = (refl, refl)
none_late page tick s (w ∷ ws) late =
    let no : ltb w.tick tick ≡ false = le-ltb w.tick tick (All-head (λ (w : GuestWrite). tick ≤ w.tick) w ws late) in
    let rest = none_late page tick (s + 1) ws (All-tail (λ (w : GuestWrite). tick ≤ w.tick) w ws late) in
    rw no (elim (cases_eq w.page page) [
      | inl same ↦ rw (eq-eqb w.page page same) rest
      | inr apart ↦ rw (ne_eqb w.page page apart) rest
    ])

-- a page after the writes up to its version before a tick is the page after all writes before that tick
upto_version : (shift page tick s : ℕ) (ws : List GuestWrite) (b : List ℕ) → 1 ≤ s
    → IsNonDecreasingBy (λ write. write.tick) ws
    → fold (own shift page) b (take (fold max 0 (from (hits page tick) s ws) + 1 - s) ws)
    ≡ fold (own shift page) b (filter (λ w. ltb w.tick tick) ws)
upto_version shift page tick s [] b some order = ap (fold (own shift page) b) (take-nil (0 + 1 - s))
upto_version shift page tick s (w ∷ ws) b some order = elim (cases_lt w.tick tick) [
  | inl early ↦
      let top : ℕ = fold max 0 (from (hits page tick) (s + 1) ws) in
      let next : (c : List ℕ) → fold (own shift page) c (take (top + 1 - (s + 1)) ws)
      ≡ fold (own shift page) c (filter (λ w. ltb w.tick tick) ws) =
      λ c. upto_version shift page tick (s + 1) ws c (omega (arith, some)) (rest_in_order w ws order) in
      rw (lt-ltb w.tick tick early) (elim (cases_eq w.page page) [
        | inl same ↦ rw (eq-eqb w.page page same)
            (let count : fold max (max 0 s) (from (hits page tick) (s + 1) ws) + 1 - s ≡ suc (top + 1 - (s + 1)) =
            omega (arith, fold_max (max 0 s) (from (hits page tick) (s + 1) ws)) in
            ap (λ k. fold (own shift page) b (take k (w ∷ ws))) count ∙ next (own shift page b w))
        | inr apart ↦
            let skips : own shift page b w ≡ b = cond-false (eqb w.page page) (put b w.offset (bytes_put shift w)) b
            (ne_eqb w.page page apart) in
            rw (ne_eqb w.page page apart) (elim (cases_lt top s) [
              | inl low ↦
                  let none : top + 1 - s ≡ 0 = omega (arith, low) in
                  let none_after : top + 1 - (s + 1) ≡ 0 = omega (arith, low) in
                  ap (λ k. fold (own shift page) b (take k (w ∷ ws))) none
                  ∙ ap (λ k. fold (own shift page) b (take k ws)) (sym none_after) ∙ next b
                  ∙ ap (λ (c : List ℕ). fold (own shift page) c (filter (λ w. ltb w.tick tick) ws)) (sym skips)
              | inr high ↦
                  let count : top + 1 - s ≡ suc (top + 1 - (s + 1)) = omega (arith, high) in
                  ap (λ k. fold (own shift page) b (take k (w ∷ ws))) count ∙ next (own shift page b w)
            ])
      ])
  | inr late ↦
      let none = none_late page tick s (w ∷ ws) (λ i d low. omega (arith, late, order 0 i d (omega arith) low)) in
      let count : 0 + 1 - s ≡ 0 = omega (arith, some) in
      rw (none.0, none.1) (ap (λ k. fold (own shift page) b (take k (w ∷ ws))) count)
]

pub page_before : (trace : GuestTrace) (page tick : ℕ) → page < trace.pages → IsTrace trace
    → page_at trace page (version_before trace page tick) ≡ page_of (image_before trace tick) page
page_before trace page tick low is =
    let version = version_before trace page tick in
    let top : version ≡ fold max 0 (from (hits page tick) 1 trace.writes) + 1 - 1 =
    ap (λ (l : List ℕ). fold max 0 l) (from_is (hits page tick) 1 trace.writes) ∙ omega arith in
    page_replayed trace.version trace.shift trace.pages (take version trace.writes) page low
    (All-take (IsGuestWrite trace.version trace.shift trace.pages) version trace.writes is.writes.each)
    ∙ ap (λ k. fold (own trace.shift page) (replicate (2 ^ trace.shift) 0) (take k trace.writes)) top
    ∙ upto_version trace.shift page tick 1 trace.writes (replicate (2 ^ trace.shift) 0) (omega arith) is.writes.in_order
    ∙ sym (page_replayed trace.version trace.shift trace.pages (filter (λ w. ltb w.tick tick) trace.writes) page low
    (All-filter (λ w. ltb w.tick tick) (IsGuestWrite trace.version trace.shift trace.pages) trace.writes
    is.writes.each))

-- memory in which each page is at its version before a tick
pub memory_before : (trace : GuestTrace) (memory : GuestMemory) (tick : ℕ) → IsTrace trace → memory.shift ≡ trace.shift
    → memory.pages ≡ trace.pages
    → length memory.bytes ≡ memory.pages * 2 ^ memory.shift
    → ((page : ℕ) → page < trace.pages → page_of memory page ≡ page_at trace page (version_before trace page tick))
    → memory ≡ image_before trace tick
memory_before trace memory tick is shift pages len same =
    replay-from_pages trace.version trace.shift trace.pages (filter (λ w. ltb w.tick tick) trace.writes) memory shift
    pages len
    (All-filter (λ w. ltb w.tick tick) (IsGuestWrite trace.version trace.shift trace.pages) trace.writes is.writes.each)
    (λ page low. same page low ∙ page_before trace page tick low is)

-- ---- a page's writes after a version

fold_filter : (shift page : ℕ) (b : List ℕ) (ws : List GuestWrite)
    → fold (own shift page) b (filter (λ w. eqb w.page page) ws) ≡ fold (own shift page) b ws
fold_filter shift page b [] = refl
fold_filter shift page b (w ∷ ws) = elim (cases_eq w.page page) [
  | inl same ↦
      rw (eq-eqb w.page page same)
      (ap (λ (c : List ℕ). fold (own shift page) c (filter (λ w. eqb w.page page) ws))
      (cond-true (eqb w.page page) (put b w.offset (bytes_put shift w)) b (eq-eqb w.page page same))
      ∙ fold_filter shift page (put b w.offset (bytes_put shift w)) ws)
  | inr apart ↦ rw (ne_eqb w.page page apart) (fold_filter shift page b ws)
]

fold_parts : (shift page version : ℕ) (b : List ℕ) (ws : List GuestWrite)
    → fold (own shift page) (fold (own shift page) b (take version ws)) (drop version ws) ≡ fold (own shift page) b ws
fold_parts shift page version b ws = sym (fold-append (own shift page) b (take version ws) (drop version ws))
    ∙ ap (fold (own shift page) b) (take-append-drop version ws)

others : (shift page other : ℕ) → ¬ (page ≡ other) → (b : List ℕ) (ws : List GuestWrite)
    → fold (own shift page) b (filter (λ w. eqb w.page other) ws) ≡ b
others shift page other apart b [] = refl
others shift page other apart b (w ∷ ws) = elim (cases_eq w.page other) [
  | inl same ↦ rw (eq-eqb w.page other same)
      (ap (λ (c : List ℕ). fold (own shift page) c (filter (λ w. eqb w.page other) ws))
      (cond-false (eqb w.page page) (put b w.offset (bytes_put shift w)) b
      (ne_eqb w.page page (λ is. apart (sym is ∙ same)))) ∙ others shift page other apart b ws)
  | inr not ↦ rw (ne_eqb w.page other not) (others shift page other apart b ws)
]

-- what a page's own writes after a version make of it
pub page_applied : (trace : GuestTrace) (memory : List ℕ) (page version : ℕ) → page < trace.pages → IsTrace trace
    → length memory ≡ trace.pages * 2 ^ trace.shift
    → page_of (fold apply (memory_with trace.shift trace.pages memory) (writes_after trace page version)) page
    ≡ fold (own trace.shift page) (page_of (memory_with trace.shift trace.pages memory) page)
    (drop version trace.writes)
page_applied trace memory page version low is len =
    pages_fold trace.version trace.shift trace.pages (writes_after trace page version) memory page low len
    (All-filter (λ w. eqb w.page page) (IsGuestWrite trace.version trace.shift trace.pages) (drop version trace.writes)
    (All-drop (IsGuestWrite trace.version trace.shift trace.pages) version trace.writes is.writes.each))
    ∙ fold_filter trace.shift page (page_of (memory_with trace.shift trace.pages memory) page)
    (drop version trace.writes)

-- from its version on they bring it to the end
pub page_resumed : (trace : GuestTrace) (memory : List ℕ) (page version : ℕ) → page < trace.pages → IsTrace trace
    → length memory ≡ trace.pages * 2 ^ trace.shift
    → page_of (memory_with trace.shift trace.pages memory) page ≡ page_at trace page version
    → page_of (fold apply (memory_with trace.shift trace.pages memory) (writes_after trace page version)) page
    ≡ page_of (image_of trace) page
page_resumed trace memory page version low is len at =
    page_applied trace memory page version low is len
    ∙ ap (λ (b : List ℕ). fold (own trace.shift page) b (drop version trace.writes)) (at
    ∙ page_replayed trace.version trace.shift trace.pages (take version trace.writes) page low
    (All-take (IsGuestWrite trace.version trace.shift trace.pages) version trace.writes is.writes.each))
    ∙ fold_parts trace.shift page version (replicate (2 ^ trace.shift) 0) trace.writes
    ∙ sym (page_replayed trace.version trace.shift trace.pages trace.writes page low is.writes.each)

-- other pages' own writes leave it as it is
pub page_left : (trace : GuestTrace) (memory : List ℕ) (page other version : ℕ) → page < trace.pages → ¬ (page ≡ other)
    → IsTrace trace
    → length memory ≡ trace.pages * 2 ^ trace.shift
    → page_of (fold apply (memory_with trace.shift trace.pages memory) (writes_after trace other version)) page
    ≡ page_of (memory_with trace.shift trace.pages memory) page
page_left trace memory page other version low apart is len =
    pages_fold trace.version trace.shift trace.pages (writes_after trace other version) memory page low len
    (All-filter (λ w. eqb w.page other) (IsGuestWrite trace.version trace.shift trace.pages) (drop version trace.writes)
    (All-drop (IsGuestWrite trace.version trace.shift trace.pages) version trace.writes is.writes.each))
    ∙ others trace.shift page other apart (page_of (memory_with trace.shift trace.pages memory) page)
    (drop version trace.writes)

-- what has each page after its own writes is one memory
pub one_resumed_lem : (trace : GuestTrace) (versions : List ℕ) (before a b : GuestMemory)
    → IsResumed trace versions before a → IsResumed trace versions before b → a ≡ b
one_resumed_lem trace versions before a b is_a is_b =
    let whole_a : a ≡ memory_with before.shift before.pages a.bytes =
    λ i. record { shift = is_a.shift i; pages = is_a.pages i; bytes = a.bytes } in
    let whole_b : b ≡ memory_with before.shift before.pages b.bytes =
    λ i. record { shift = is_b.shift i; pages = is_b.pages i; bytes = b.bytes } in
    let len_a : length a.bytes ≡ before.pages * 2 ^ before.shift =
    is_a.is_memory.len ∙ (λ i. is_a.pages i * 2 ^ is_a.shift i) in
    let len_b : length b.bytes ≡ before.pages * 2 ^ before.shift =
    is_b.is_memory.len ∙ (λ i. is_b.pages i * 2 ^ is_b.shift i) in
    whole_a ∙ ap (memory_with before.shift before.pages)
    (same_memory before.shift before.pages a.bytes b.bytes len_a len_b (λ page low.
    ap (λ (m : GuestMemory). page_of m page) (sym whole_a) ∙ is_a.each page low ∙ sym (is_b.each page low)
    ∙ ap (λ (m : GuestMemory). page_of m page) whole_b)) ∙ sym whole_b
