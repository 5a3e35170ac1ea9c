-- A page of memory, as its own writes make it.
use Rattle.std.proofs.Common.{◌≡◌, ℕ, ◌+◌, ◌-◌, ◌^◌, ◌<◌, ◌≤◌, Bool, true, false, cond, leb, ltb, eqb, inl, inr, List}
use Rattle.std.proofs.Common.{[], ◌∷◌, ◌++◌, length, map, take, drop, get_or, replicate, refl, sym, ap, subst, ◌∙◌}
use Rattle.std.proofs.Common.{arith}
use Rattle.std.specs.List.{All, filter, fold}
use Rattle.std.proofs.lemmas.Bool.{cond-true, eq-eqb}
use Rattle.std.proofs.lemmas.List.{append-nil, drop_all, drop_more, length-replicate, length-take, length-drop}
use Rattle.std.proofs.lemmas.List.{get_or-take, get_or-drop, get_or_default, take-append-drop}
use Rattle.std.proofs.lemmas.List.Elements.{All-head, All-map, All-tail, All-take, All-weaker}
use Rattle.std.proofs.lemmas.List.Sums.{fold-append}
use Rattle.migration_model.specs.Trace.{GuestWrite, GuestTrace, IsGuestWrite, IsTrace, write_with}
use Rattle.migration_model.specs.Memory.{GuestMemory, apply, bytes_put, put}
use Rattle.migration_model.specs.Resumed.{writes_after}
use Rattle.migration_model.specs.Versions.{page_at}
use Rattle.page_versions.specs.Index.{GuestIndex, IsIndexOf, places_in}
use Rattle.page_versions.specs.Pages.{IsLost, PutsWithin, bytes_by, overwrite, put_all, write_at}
use Rattle.migration_model.proofs.Pages.{length-put, page_replayed, puts_within}
use Rattle.migration_model.proofs.Places.{from}
use Rattle.page_versions.proofs.Places.{places_upto, places_past, fold_places, places_of_index, places_of_is, bounds}

look_up : (writes : List GuestWrite) (i : ℕ) (d : GuestWrite) → i < length writes
    → write_at writes (1 + i) ≡ get_or writes i d
look_up writes i d low =
    let back : 1 + i - 1 ≡ i = omega arith in
    ap (λ (k : ℕ). get_or writes k (write_with 0 0 0 [])) back ∙ get_or_default writes i (write_with 0 0 0 []) d low

-- zeros with the page's own writes up to a version applied are the page at that version
pub page_at_is : (trace : GuestTrace) (index : GuestIndex) (page version : ℕ) → IsTrace trace → IsIndexOf index trace
    → page < index.pages
    → bytes_by trace (filter (λ (v : ℕ). leb v version) (places_in index.touches page)) ≡ page_at trace page version
page_at_is trace index page version is of low =
    let q : GuestWrite → Bool = λ w. eqb w.page page in
    let first : List GuestWrite = take version trace.writes in
    let below : page < trace.pages = omega (arith, low, of.0) in
    let step : List ℕ → GuestWrite → List ℕ = λ b w. cond (q w) (overwrite trace.shift b w) b in
    let zero : List ℕ = replicate (2 ^ trace.shift) 0 in
    ap (λ (l : List ℕ). bytes_by trace (filter (λ (v : ℕ). leb v version) l))
    (places_of_index index trace page of ∙ places_of_is trace page)
    ∙ ap (bytes_by trace) (places_upto q 1 trace.writes version version (omega arith))
    ∙ fold_places (overwrite trace.shift) (write_at trace.writes) q 1 first zero
    (λ i d inside.
    let within : i < version = omega (arith, inside, length-take version trace.writes) in
    look_up trace.writes i d (omega (arith, inside, length-take version trace.writes))
    ∙ sym (get_or-take version trace.writes i d within))
    ∙ sym (page_replayed trace.version trace.shift trace.pages first page below
    (All-take (IsGuestWrite trace.version trace.shift trace.pages) version trace.writes is.writes.each))

-- each place of the page is that of a write
pub places_fit : (trace : GuestTrace) (index : GuestIndex) (page : ℕ) → IsIndexOf index trace
    → All (λ (v : ℕ). (1 ≤ v) × (v ≤ length trace.writes)) (places_in index.touches page)
places_fit trace index page of =
    rw (places_of_index index trace page of ∙ places_of_is trace page)
    (All-weaker (λ (v : ℕ). (1 ≤ v) × (v < 1 + length trace.writes)) (λ (v : ℕ). (1 ≤ v) × (v ≤ length trace.writes))
    (λ v b. (b.0, omega (arith, b.1))) (from (λ (w : GuestWrite). eqb w.page page) 1 trace.writes)
    (bounds (λ (w : GuestWrite). eqb w.page page) 1 trace.writes))

fold-cond : {B : Type 0} (f : B → GuestWrite → B) (c : Bool) (b : B) (w : GuestWrite) (l : List GuestWrite)
    → fold f b (cond c (w ∷ l) l) ≡ fold f (cond c (f b w) b) l
fold-cond f true b w l = refl
fold-cond f false b w l = refl

fold-filter : {B : Type 0} (f : B → GuestWrite → B) (q : GuestWrite → Bool) (b : B) (ws : List GuestWrite)
    → fold (λ (b : B) (w : GuestWrite). cond (q w) (f b w) b) b ws ≡ fold f b (filter q ws)
fold-filter f q b [] = refl
fold-filter f q b (w ∷ ws) = fold-filter f q (cond (q w) (f b w) b) ws ∙ sym (fold-cond f (q w) b w (filter q ws))

-- the writes at a page's places after a version are its own writes after it
pub writes_at_places : (trace : GuestTrace) (index : GuestIndex) (page version : ℕ) (memory : GuestMemory)
    → IsIndexOf index trace
    → fold (λ (m : GuestMemory) (place : ℕ). apply m (write_at trace.writes place)) memory
    (filter (λ (v : ℕ). ltb version v) (places_in index.touches page))
    ≡ fold apply memory (writes_after trace page version)
writes_at_places trace index page version memory of =
    let q : GuestWrite → Bool = λ w. eqb w.page page in
    let last : List GuestWrite = drop version trace.writes in
    ap (λ (l : List ℕ). fold (λ (m : GuestMemory) (place : ℕ). apply m (write_at trace.writes place)) memory
    (filter (λ (v : ℕ). ltb version v) l))
    (places_of_index index trace page of ∙ places_of_is trace page)
    ∙ ap (fold (λ (m : GuestMemory) (place : ℕ). apply m (write_at trace.writes place)) memory)
    (places_past q 1 trace.writes version version (omega arith))
    ∙ fold_places apply (write_at trace.writes) q (1 + version) last memory
    (λ i d low.
    let place : 1 + version + i ≡ 1 + (version + i) = omega arith in
    let within : version + i < length trace.writes = omega (arith, low, length-drop version trace.writes) in
    ap (write_at trace.writes) place ∙ look_up trace.writes (version + i) d within
    ∙ sym (get_or-drop version trace.writes i d))
    ∙ fold-filter apply q memory last

-- the writes at places of a trace stay within their page
pub writes_fit : (trace : GuestTrace) (places : List ℕ) → IsTrace trace
    → All (λ place. (1 ≤ place) × (place ≤ length trace.writes)) places
    → All (PutsWithin trace.shift) (map (write_at trace.writes) places)
writes_fit trace places is at =
    All-map (PutsWithin trace.shift) (write_at trace.writes) places
    (All-weaker (λ place. (1 ≤ place) × (place ≤ length trace.writes))
    (λ place. PutsWithin trace.shift (write_at trace.writes place))
    (λ place b. puts_within trace.version trace.shift trace.pages (write_at trace.writes place)
    (is.writes.each (place - 1) (write_with 0 0 0 []) (omega (arith, b.0, b.1)))) places at)

-- what holds for each of the first elements of a list holds for one of them
pub taken_has : {X : Type 0} (P : X → Type 0) (count k : ℕ) (xs : List X) (d : X) → All P (take count xs) → k < count
    → k < length xs → P (get_or xs k d)
taken_has P count k xs d all low inside =
    subst P (get_or-take count xs k d low) (all k d (omega (arith, low, inside, length-take count xs)))

-- writes applied one after the other, some of them first
pub put_in_two : (trace : GuestTrace) (bytes : List ℕ) (count : ℕ) (places : List ℕ)
    → put_all trace (put_all trace bytes (take count places)) (drop count places) ≡ put_all trace bytes places
put_in_two trace bytes count places =
    let step : List ℕ → ℕ → List ℕ = λ bytes place. overwrite trace.shift bytes (write_at trace.writes place) in
    sym (fold-append step bytes (take count places) (drop count places))
    ∙ ap (fold step bytes) (take-append-drop count places)

-- ---- releases

pub length-put_all : (trace : GuestTrace) (places bytes : List ℕ) → IsTrace trace
    → All (λ place. (1 ≤ place) × (place ≤ length trace.writes)) places
    → length bytes ≡ 2 ^ trace.shift → length (put_all trace bytes places) ≡ 2 ^ trace.shift
length-put_all trace [] bytes is at len = len
length-put_all trace (place ∷ places) bytes is at len =
    let P : ℕ → Type 0 = λ v. (1 ≤ v) × (v ≤ length trace.writes) in
    let here = All-head P place places at in
    let write : GuestWrite = write_at trace.writes place in
    let within : PutsWithin trace.shift write =
    puts_within trace.version trace.shift trace.pages write (is.writes.each (place - 1) (write_with 0 0 0 [])
    (omega (arith, here.0, here.1))) in
    length-put_all trace places (overwrite trace.shift bytes write) is (All-tail P place places at)
    (length-put bytes write.offset (bytes_put trace.shift write) (omega (arith, within, len)) ∙ len)

-- a release leaves zeros, whatever was there
pub released : (version shift pages : ℕ) (bytes : List ℕ) (write : GuestWrite) → IsGuestWrite version shift pages write
    → length write.bytes ≡ 0
    → length bytes ≡ 2 ^ shift → overwrite shift bytes write ≡ replicate (2 ^ shift) 0
released version shift pages bytes write fits none len = elim fits.some [
  | inl some ↦ absurd (omega (arith, none, some))
  | inr release ↦
      let zeros : List ℕ = replicate (2 ^ shift) 0 in
      let size : length zeros ≡ 2 ^ shift = length-replicate (2 ^ shift) 0 in
      let puts : bytes_put shift write ≡ zeros = cond-true (eqb (length write.bytes) 0) zeros write.bytes
      (eq-eqb (length write.bytes) 0 none) in
      let past : drop (0 + length zeros) bytes ≡ [] = drop_all (0 + length zeros) bytes (omega (arith, size, len)) in
      (λ i. put bytes (release.1 i) (puts i)) ∙ ap (λ (l : List ℕ). zeros ++ l) past ∙ append-nil zeros
]

-- what comes before a release is lost
pub lost_before : (trace : GuestTrace) (places : List ℕ) (k : ℕ) → IsTrace trace
    → All (λ place. (1 ≤ place) × (place ≤ length trace.writes)) places
    → k < length places → length (write_at trace.writes (get_or places k 0)).bytes ≡ 0 → IsLost trace k places
lost_before trace places k is at low none bytes len =
    let P : ℕ → Type 0 = λ v. (1 ≤ v) × (v ≤ length trace.writes) in
    let place : ℕ = get_or places k 0 in
    let write : GuestWrite = write_at trace.writes place in
    let b : P place = at k 0 low in
    let fits : IsGuestWrite trace.version trace.shift trace.pages write =
    is.writes.each (place - 1) (write_with 0 0 0 []) (omega (arith, b.0, b.1)) in
    let behind : List ℕ = drop (k + 1) places in
    let front : List ℕ = put_all trace bytes (take k places) in
    let size : length front ≡ 2 ^ trace.shift = length-put_all trace (take k places) bytes is (All-take P k places at)
    len in
    let here : drop k places ≡ place ∷ behind = drop_more places k 0 low in
    ap (put_all trace bytes) here
    ∙ ap (λ (b : List ℕ). put_all trace b behind) (released trace.version trace.shift trace.pages bytes write fits none
    len
    ∙ sym (released trace.version trace.shift trace.pages front write fits none size))
    ∙ ap (put_all trace front) (sym here)
    ∙ put_in_two trace bytes k places
