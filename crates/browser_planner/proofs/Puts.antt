-- The touches of writes, put over the front of some room.
use Rattle.std.proofs.Common.{◌≡◌, ℕ, ◌+◌, ◌<◌, ◌≤◌, ltb, true, false, List, [], ◌∷◌, ◌++◌, length, get_or, set, map}
use Rattle.std.proofs.Common.{take, refl, sym, ap, ◌∙◌, arith}
use Rattle.std.specs.List.Sorted.{IsNonDecreasingBy, IsPartitionPoint}
use Rattle.std.proofs.lemmas.List.{append-nil, append_assoc, length-map, length_push, length-append, length-set}
use Rattle.std.proofs.lemmas.List.{get_or-map, map-append, take_more_set}
use Rattle.migration_model.specs.Trace.{GuestWrite}
use Rattle.migration_model.specs.Touches.{GuestTouch, touch_of}
use Rattle.browser_planner.specs.Touches.{touch_in}
use Rattle.browser_planner.specs.declared.touches.LentTouch.{LentTouch}

-- `count` of the writes are done: their touches are in front
pub record ArePut (writes left : List GuestWrite) (count : ℕ) (old room : List LentTouch) : Type 0 where
  pub done : List GuestWrite
  pub joined : done ++ left ≡ writes
  pub count_is : count ≡ length done
  pub put : map touch_in (take count room) ≡ map touch_of done
  pub len : length room ≡ length old

pub put_starts : (writes : List GuestWrite) (room : List LentTouch) → ArePut writes writes 0 room room
put_starts writes room = record { done = []; joined = refl; count_is = refl; put = refl; len = refl }

-- one more write
pub put_more : (writes left : List GuestWrite) (write : GuestWrite) (touch : LentTouch) (count : ℕ)
    (old room : List LentTouch) → touch_in touch ≡ touch_of write → count < length room
    → ArePut writes (write ∷ left) count old room → ArePut writes left (count + 1) old (set room count touch)
put_more writes left write touch count old room is low before = record {
  done = before.done ++ write ∷ [];
  joined = append_assoc before.done (write ∷ []) left ∙ before.joined;
  count_is = omega (arith, before.count_is, length_push before.done write);
  put = ap (map touch_in) (take_more_set room count touch low) ∙ map-append touch_in (take count room) (touch ∷ [])
      ∙ (λ i. before.put i ++ is i ∷ []) ∙ sym (map-append touch_of before.done (write ∷ []));
  len = length-set room count touch ∙ before.len;
}

-- there is a slot for each write that is left
pub put_low : (writes left : List GuestWrite) (write : GuestWrite) (count : ℕ) (old room : List LentTouch)
    → length writes ≤ length old
    → ArePut writes (write ∷ left) count old room → (count < length room) × (count < length writes)
put_low writes left write count old room fits before =
    let all = ap length before.joined in
    let parts = length-append before.done (write ∷ left) in
    (omega (arith, all, parts, before.count_is, before.len, fits), omega (arith, all, parts, before.count_is))

pub put_all : (writes : List GuestWrite) (count : ℕ) (old room : List LentTouch) → ArePut writes [] count old room
    → map touch_in (take (length writes) room) ≡ map touch_of writes
put_all writes count old room p =
    let all : p.done ≡ writes = sym (append-nil p.done) ∙ p.joined in
    let len : count ≡ length writes = p.count_is ∙ ap length all in
    ap (λ n. map touch_in (take n room)) (sym len) ∙ p.put ∙ ap (map touch_of) all

no_touch_in : LentTouch
no_touch_in = record { tick = 0; page = 0 }

touch_at : (touches : List LentTouch) (i : ℕ) (d : GuestTouch) → i < length touches
    → get_or (map touch_in touches) i d ≡ touch_in (get_or touches i no_touch_in)
touch_at touches i d low = get_or-map touch_in touches i no_touch_in d low

-- if the touches before a tick end in the room
pub point_in : (touches : List LentTouch) (tick n : ℕ) → n ≤ length touches
    → IsPartitionPoint (λ (t : LentTouch). ltb t.tick tick ≡ true) (λ t. ltb t.tick tick ≡ false) touches n
    → IsPartitionPoint (λ (t : GuestTouch). ltb t.tick tick ≡ true) (λ t. ltb t.tick tick ≡ false)
    (map touch_in touches) n
point_in touches tick n bound point =
    let len : length (map touch_in touches) ≡ length touches = length-map touches touch_in in (
      (λ k d low high. let inside : k < length touches = omega arith in rw (touch_at touches k d inside)
          (point.0 k no_touch_in low high)),
      (λ k d low high. let inside : k < length touches = omega (arith, len) in rw (touch_at touches k d inside)
          (point.1 k no_touch_in low inside)),
    )

pub order_in : (touches : List LentTouch) → IsNonDecreasingBy (λ (t : GuestTouch). t.tick) (map touch_in touches)
    → IsNonDecreasingBy (λ (t : LentTouch). t.tick) touches
order_in touches order i j d le low =
    let len : length (map touch_in touches) ≡ length touches = length-map touches touch_in in
    let e = touch_in d in
    let before = order i j e le (omega (arith, len, low)) in
    rw (
      sym (ap (λ (t : GuestTouch). t.tick) (get_or-map touch_in touches i d e (omega arith))),
      sym (ap (λ (t : GuestTouch). t.tick) (get_or-map touch_in touches j d e low)),
    ) before
