-- Copies of writes, one after another.
use Rattle.std.proofs.Common.{◌≡◌, ℕ, zero, suc, ◌+◌, ◌*◌, ◌^◌, ◌<◌, ◌≤◌, List, [], ◌∷◌, ◌++◌, drop, get_or, length}
use Rattle.std.proofs.Common.{add-one, length-append, refl, replicate, sym, take, ap, subst, ◌∙◌, arith}
use Rattle.std.specs.List.{All, fold}
use Rattle.std.proofs.Math.Nat.{mul-le-mul_right}
use Rattle.std.proofs.Math.Seq.{drop-cons}
use Rattle.std.proofs.lemmas.List.{drop-append-le, take-append-le, take_all, length-drop, length-replicate}
use Rattle.std.proofs.lemmas.List.Elements.{All-append, All-cons, All-head, All-nil, All-tail}
use Rattle.std.proofs.lemmas.List.Sums.{fold-append, sum_by-append, sum_by-cons}
use Rattle.migration_model.specs.Memory.{GuestMemory, apply, bytes_put, memory_with, put, replay, zeros}
use Rattle.migration_model.specs.Trace.{GuestWrite, IsGuestWrite, write_with}
use Rattle.migration_model.proofs.Pages.{length-applied, puts_within}
use Rattle.dealt_memory.specs.Spots.{HoldsWrites, length_of, spotted}
use Rattle.dealt_memory.specs.declared.piece_writes.Spot.{Spot}

-- the write of a spot at the front of these bytes
abbrev pub front : Spot → List ℕ → GuestWrite
front spot bytes = write_with 0 spot.page spot.offset (take spot.length bytes)

-- ---- the first of some spots

pub spot_first : (spots : List Spot) (i : ℕ) (spot : Spot) → i < length spots → spot ≡ get_or spots i spot
    → drop i spots ≡ spot ∷ drop (i + 1) spots
spot_first spots i spot low is =
    rw add-one (drop-cons spots i spot low ∙ ap (λ (s : Spot). s ∷ drop (suc i) spots) (sym is))

-- what holds of all holds of the first write and of those behind it
pub record HoldsFirst (shift pages : ℕ) (spot : Spot) (spots : List Spot) (bytes : List ℕ) : Type 0 where
  pub short : spot.length ≤ length bytes
  pub fit : IsGuestWrite 2 shift pages (front spot bytes)
  pub rest : HoldsWrites shift pages spots (drop spot.length bytes)

pub holds_first : (shift pages : ℕ) (spot : Spot) (spots : List Spot) (bytes : List ℕ)
    → HoldsWrites shift pages (spot ∷ spots) bytes → HoldsFirst shift pages spot spots bytes
holds_first shift pages spot spots bytes holds =
    let sum = sum_by-cons (λ (s : Spot). s.length) spot spots in
    record {
      short = omega (arith, sum, holds.all);
      fit = All-head (IsGuestWrite 2 shift pages) (front spot bytes) (spotted spots (drop spot.length bytes)) holds.fit;
      rest = record {
        all = omega (arith, sum, holds.all, length-drop spot.length bytes);
        fit = All-tail (IsGuestWrite 2 shift pages) (front spot bytes) (spotted spots (drop spot.length bytes))
            holds.fit;
      };
    }

-- a write of such pages stays in memory that has all of them
pub within_memory : (shift pages : ℕ) (write : GuestWrite) (memory : List ℕ) → length memory ≡ pages * 2 ^ shift
    → IsGuestWrite 2 shift pages write
    → write.page * 2 ^ shift + write.offset + length (bytes_put shift write) ≤ length memory
within_memory shift pages write memory len fit =
    let end : suc write.page * 2 ^ shift ≤ pages * 2 ^ shift = mul-le-mul_right (2 ^ shift) fit.page in
    omega (arith, end, len, puts_within 2 shift pages write fit)

-- one write is applied, and the others are left
pub one_applied : (shift pages : ℕ) (memory next bytes behind : List ℕ) (spots : List Spot) (i : ℕ) (spot : Spot)
    → i < length spots → spot ≡ get_or spots i spot → behind ≡ drop spot.length bytes
    → next ≡ put memory (spot.page * 2 ^ shift + spot.offset) (bytes_put shift (front spot bytes))
    → fold apply (memory_with shift pages next) (spotted (drop (i + 1) spots) behind)
    ≡ fold apply (memory_with shift pages memory) (spotted (drop i spots) bytes)
one_applied shift pages memory next bytes behind spots i spot low is behind_is next_is =
    (λ j. fold apply (memory_with shift pages (next_is j)) (spotted (drop (i + 1) spots) (behind_is j)))
    ∙ sym (ap (λ (ss : List Spot). fold apply (memory_with shift pages memory) (spotted ss bytes))
    (spot_first spots i spot low is))

-- ---- one more spot

pub spotted_pushed : (spots : List Spot) (bytes more : List ℕ) (spot : Spot) → length_of spots ≡ length bytes
    → spot.length ≡ length more
    → spotted (spots ++ spot ∷ []) (bytes ++ more)
    ≡ spotted spots bytes ++ write_with 0 spot.page spot.offset more ∷ []
spotted_pushed [] [] more spot all len =
    ap (λ (bs : List ℕ). write_with 0 spot.page spot.offset bs ∷ []) (take_all spot.length more (omega (arith, len)))
spotted_pushed [] (b ∷ bytes) more spot all len = absurd (omega (arith, all))
spotted_pushed (s ∷ spots) bytes more spot all len =
    let sum = sum_by-cons (λ (s : Spot). s.length) s spots in
    let short : s.length ≤ length bytes = omega (arith, sum, all) in
    let rest = spotted_pushed spots (drop s.length bytes) more spot
    (omega (arith, sum, all, length-drop s.length bytes)) len in
    (λ j. write_with 0 s.page s.offset (take-append-le s.length bytes more short j)
    ∷ spotted (spots ++ spot ∷ []) (drop-append-le s.length bytes more short j))
    ∙ ap (λ (ws : List GuestWrite). front s bytes ∷ ws) rest

pub holds_none : (shift pages : ℕ) → HoldsWrites shift pages [] []
holds_none shift pages = record { all = refl; fit = All-nil (IsGuestWrite 2 shift pages) }

pub holds_pushed : (shift pages : ℕ) (spots : List Spot) (bytes more : List ℕ) (spot : Spot)
    → HoldsWrites shift pages spots bytes → spot.length ≡ length more
    → IsGuestWrite 2 shift pages (write_with 0 spot.page spot.offset more)
    → HoldsWrites shift pages (spots ++ spot ∷ []) (bytes ++ more)
holds_pushed shift pages spots bytes more spot holds len fit =
    let write = write_with 0 spot.page spot.offset more in
    record {
      all = sum_by-append (λ (s : Spot). s.length) spots (spot ∷ [])
          ∙ omega (arith, holds.all, len, length-append bytes more, sum_by-cons (λ (s : Spot). s.length) spot []);
      fit = subst (All (IsGuestWrite 2 shift pages)) (sym (spotted_pushed spots bytes more spot holds.all len))
          (All-append (IsGuestWrite 2 shift pages) (spotted spots bytes) (write ∷ []) holds.fit
          (All-cons (IsGuestWrite 2 shift pages) write [] fit (All-nil (IsGuestWrite 2 shift pages))));
    }

-- ---- the memory that they make

pub shift_kept : (memory : GuestMemory) (writes : List GuestWrite) → (fold apply memory writes).shift ≡ memory.shift
shift_kept memory [] = refl
shift_kept memory (w ∷ writes) = shift_kept (apply memory w) writes

-- memory after one more write
pub replay_more : (shift pages : ℕ) (writes : List GuestWrite) (write : GuestWrite)
    → memory_with shift pages (replay shift pages (writes ++ write ∷ [])).bytes
    ≡ apply (memory_with shift pages (replay shift pages writes).bytes) write
replay_more shift pages writes write =
    let before = replay shift pages writes in
    ap (λ (m : GuestMemory). memory_with shift pages m.bytes)
    (fold-append apply (zeros shift pages) writes (write ∷ []))
    ∙ ap (λ (s : ℕ). memory_with shift pages (put before.bytes (write.page * 2 ^ s + write.offset) (bytes_put s write)))
    (shift_kept (zeros shift pages) writes)

pub length_replayed : (shift pages : ℕ) (writes : List GuestWrite) → All (IsGuestWrite 2 shift pages) writes
    → length (replay shift pages writes).bytes ≡ pages * 2 ^ shift
length_replayed shift pages writes fit =
    let after = length-applied 2 shift pages writes (replicate (pages * 2 ^ shift) 0)
    (length-replicate (pages * 2 ^ shift) 0) fit in
    ap (λ (m : GuestMemory). length m.bytes) after.1 ∙ after.2

-- one more spot is one more write to the memory that they make
pub memory_pushed : (shift pages : ℕ) (spots next : List Spot) (bytes more written : List ℕ) (spot : Spot)
    (view : GuestMemory) → HoldsWrites shift pages spots bytes → spot.length ≡ length more
    → next ≡ spots ++ spot ∷ [] → written ≡ bytes ++ more
    → memory_with shift pages (replay shift pages (spotted spots bytes)).bytes ≡ view
    → memory_with shift pages (replay shift pages (spotted next written)).bytes
    ≡ apply view (write_with 0 spot.page spot.offset more)
memory_pushed shift pages spots next bytes more written spot view holds len next_is written_is view_is =
    let write = write_with 0 spot.page spot.offset more in
    (λ j. memory_with shift pages (replay shift pages (spotted (next_is j) (written_is j))).bytes)
    ∙ ap (λ (ws : List GuestWrite). memory_with shift pages (replay shift pages ws).bytes)
    (spotted_pushed spots bytes more spot holds.all len)
    ∙ replay_more shift pages (spotted spots bytes) write ∙ ap (λ (m : GuestMemory). apply m write) view_is
