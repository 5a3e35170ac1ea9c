-- The encoding of a trace, part after part; and the sizes of one that is not encoded yet.
use Rattle.std.proofs.Common.{◌≡◌, ℕ, List, ◌++◌, length, ap, ◌∙◌, append_assoc}
use Rattle.std.specs.Int.{w16, w32, w64}
use Rattle.std.specs.List.{flat_map}
use Rattle.migration_model.specs.Numbers.{text_of}
use Rattle.migration_model.specs.Trace.{GuestWrite, GuestTrace, write_text, header_text, trace_text}

pub write_parts : (write : GuestWrite) (tick page offset len : ℕ) (bytes old new last : List ℕ) → tick ≡ write.tick
    → page ≡ write.page → offset ≡ write.offset
    → len ≡ length write.bytes → bytes ≡ write.bytes
    → new ≡ old ++ (text_of w64 tick ++ (text_of w32 page ++ (text_of w16 offset ++ text_of w16 len)))
    → last ≡ new ++ bytes → last ≡ old ++ write_text write
unfolding write_text
write_parts write tick page offset len bytes old new last tick_is page_is offset_is len_is bytes_are head all =
    let a = text_of w64 tick in
    let b = text_of w32 page in
    let d = text_of w16 offset in
    let e = text_of w16 len in
    let joined : (old ++ (a ++ (b ++ (d ++ e)))) ++ bytes ≡ old ++ (a ++ (b ++ (d ++ (e ++ bytes)))) =
    append_assoc old (a ++ (b ++ (d ++ e))) bytes
    ∙ ap (λ (x : List ℕ). old ++ x) (append_assoc a (b ++ (d ++ e)) bytes
    ∙ ap (λ (x : List ℕ). a ++ x) (append_assoc b (d ++ e) bytes
    ∙ ap (λ (x : List ℕ). b ++ x) (append_assoc d e bytes))) in
    all ∙ ap (λ (x : List ℕ). x ++ bytes) head ∙ joined
    ∙ (λ i. old ++ (text_of w64 (tick_is i) ++ (text_of w32 (page_is i)
    ++ (text_of w16 (offset_is i) ++ (text_of w16 (len_is i) ++ bytes_are i)))))

pub text_is : (trace : GuestTrace) (bytes : List ℕ) (writes : List GuestWrite)
    → bytes ≡ header_text trace.version trace.shift trace.pages (length trace.writes) ++ flat_map write_text writes
    → writes ≡ trace.writes → bytes ≡ trace_text trace
unfolding trace_text
text_is trace bytes writes is all = is ∙ ap (λ (ws : List GuestWrite). header_text trace.version trace.shift trace.pages
    (length trace.writes) ++ flat_map write_text ws) all
