-- How many writes of a trace are before a tick, by a search among its touches.
use Rattle.std.proofs.Common.{◌≡◌, ℕ, suc, ◌≤◌, Bool, true, false, cond, ltb, List, [], ◌∷◌, length, map, refl}
use Rattle.std.proofs.Common.{sym, ap, ◌∙◌}
use Rattle.std.specs.List.{filter}
use Rattle.std.proofs.lemmas.List.{length-take-le}
use Rattle.migration_model.specs.Touches.{GuestTouch, touch_of, touches_of}
use Rattle.migration_model.specs.Trace.{GuestTrace, GuestWrite}
use Rattle.image_build.proofs.Replays.{IsPoint}
use Rattle.page_versions.proofs.Searches.{filter_front}
use Rattle.c_answers.proofs.Replayed.{before_tick}

length-cond : {X : Type 0} (b : Bool) (x : X) (l : List X) → length (cond b (x ∷ l) l)
    ≡ cond b (suc (length l)) (length l)
length-cond true x l = refl
length-cond false x l = refl

same_count : (tick : ℕ) (writes : List GuestWrite)
    → length (filter (λ (t : GuestTouch). ltb t.tick tick) (map touch_of writes)) ≡ length (before_tick tick writes)
same_count tick [] = refl
same_count tick (write ∷ writes) =
    let touches : List GuestTouch = filter (λ (t : GuestTouch). ltb t.tick tick) (map touch_of writes) in
    length-cond (ltb write.tick tick) (touch_of write) touches
    ∙ ap (λ (n : ℕ). cond (ltb write.tick tick) (suc n) n) (same_count tick writes)
    ∙ sym (length-cond (ltb write.tick tick) write (before_tick tick writes))

pub count_at : (trace : GuestTrace) (tick count : ℕ) → count ≤ length (touches_of trace) → IsPoint trace tick count
    → count ≡ length (before_tick tick trace.writes)
count_at trace tick count low point =
    sym (length-take-le count (touches_of trace) low)
    ∙ sym (ap length (filter_front (λ (t : GuestTouch). ltb t.tick tick) (touches_of trace) count low point))
    ∙ same_count tick trace.writes
