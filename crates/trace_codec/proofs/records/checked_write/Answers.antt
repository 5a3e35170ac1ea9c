use Rattle.std.proofs.Common.{◌≡◌, ◌∙◌, ℕ, ◌+◌, ◌-◌, ◌^◌, ◌<◌, ◌≤◌, Bool, false, cond, ltb, List, length, take, drop}
use Rattle.std.proofs.Common.{Option, Some, None, refl, sym, ap, arith}
use Rattle.std.specs.Int.{w16}
use Rattle.std.proofs.lemmas.List.{length-drop, take_all}
use Rattle.std.proofs.lemmas.Bool.{le-ltb, lt-leb, lt-ltb}
use Rattle.guest_log.specs.Writes.{shown}
use Rattle.guest_log.specs.declared.write.WriteView.{WriteView}
use Rattle.migration_model.specs.Numbers.{number_in}
use Rattle.migration_model.specs.Trace.{GuestWrite}
use Rattle.migration_model.specs.TraceReading.{length_in, offset_in, page_in, tick_in, write_in}
use Rattle.trace_codec.specs.Refusals.{is_empty_write, write_refusal}
use Rattle.trace_codec.specs.declared.error.TraceError.{TraceError}
use Rattle.trace_codec.specs.declared.error.TraceError.TheVariants.{OutOfPage}
use Rattle.trace_codec.proofs.records.checked_write.Goals as goal

-- the bytes after the first n are all that are left
all_behind : (n : ℕ) (bytes : List ℕ) → take (length bytes - n) (drop n bytes) ≡ drop n bytes
all_behind n bytes = take_all (length bytes - n) (drop n bytes) (omega (arith, length-drop n bytes))

skip : (b : Bool) (e : TraceError) (others r : Option TraceError) → b ≡ false → others ≡ r → cond b (Some e) others ≡ r
skip b e others r is same = rw is same

-- if all other tests pass, that of where the write ends in its page decides
last_test : (version shift pages before i : ℕ) (bytes : List ℕ) (w : WriteView) (len : ℕ) → shown w ≡ write_in bytes
    → len ≡ length_in bytes → 16 + len ≤ length bytes → before ≤ w.tick → w.tick < 2 ^ 40 → w.page < pages
    → is_empty_write version w.offset len ≡ false
    → write_refusal version shift pages before i bytes
    ≡ cond (ltb (2 ^ shift) (w.offset + len)) (Some (OutOfPage i)) None
unfolding write_in
last_test version shift pages before i bytes w len read len_is whole order tick page some =
    let tick_is : w.tick ≡ tick_in bytes = ap (λ (x : GuestWrite). x.tick) read in
    let page_is : w.page ≡ page_in bytes = ap (λ (x : GuestWrite). x.page) read in
    let offset_is : w.offset ≡ offset_in bytes = ap (λ (x : GuestWrite). x.offset) read in
    rw (offset_is, len_is)
    (skip _ _ _ _ (le-ltb (length bytes) 16 (omega arith))
    (skip _ _ _ _ (le-ltb (length bytes) (16 + length_in bytes) (omega arith))
    (skip _ _ _ _ (le-ltb (tick_in bytes) before (omega arith))
    (skip _ _ _ _ (lt-leb (2 ^ 40) (tick_in bytes) (omega arith))
    (skip _ _ _ _ (lt-leb pages (page_in bytes) (omega arith))
    (skip _ _ _ _ (rw (offset_is, len_is) at some) refl))))))

pub returns-then-page_size-write-clause-refused : goal.returns-then-page_size-write-clause-refused
returns-then-page_size-write-clause-refused c =
    let header = c.args.header in
    let write = c.first_write.result.0 in
    last_test header.version header.shape.shift header.shape.pages c.args.before c.args.index c.args.bytes.now write
    c.u16_in-len.result c.first_write.ensures.write
    (c.u16_in-len.ensures ∙ ap (number_in w16) (all_behind 14 c.args.bytes.now)) (omega arith) (omega arith)
    (omega arith) (omega arith) (sym c.is_empty_write.ensures ∙ c.if-is_empty_write.false)
    ∙ rw (lt-ltb (2 ^ header.shape.shift) (write.offset + c.u16_in-len.result) (omega arith)) refl

pub returns-clause-accepted : goal.returns-clause-accepted
returns-clause-accepted c =
    let header = c.args.header in
    let write = c.first_write.result.0 in
    last_test header.version header.shape.shift header.shape.pages c.args.before c.args.index c.args.bytes.now write
    c.u16_in-len.result c.first_write.ensures.write
    (c.u16_in-len.ensures ∙ ap (number_in w16) (all_behind 14 c.args.bytes.now)) (omega arith) (omega arith)
    (omega arith) (omega arith) (sym c.is_empty_write.ensures ∙ c.if-is_empty_write.false)
    ∙ rw (le-ltb (2 ^ header.shape.shift) (write.offset + c.u16_in-len.result) (omega arith)) refl
