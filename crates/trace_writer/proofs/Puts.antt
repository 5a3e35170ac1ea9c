-- Bytes after a part of them is put.
use Rattle.std.proofs.Common.{◌≡◌, ℕ, ◌+◌, ◌≤◌, List, ◌++◌, length, take, drop, sym, ap, ◌∙◌, append_assoc, arith}
use Rattle.std.proofs.Common.{[], refl}
use Rattle.std.specs.Int.{w16, w32, w64}
use Rattle.std.proofs.lemmas.List.{drop_at, length-append, length-drop, length-take-le, take_at}
use Rattle.std.proofs.lemmas.Slice.{drop-append-drop}
use Rattle.migration_model.specs.Memory.{put}
use Rattle.migration_model.specs.Numbers.{text_of}
use Rattle.migration_model.specs.Trace.{write_text, write_with}
use Rattle.trace_codec.proofs.Spelling.{write_parts}

-- what is behind the part is left
pub drop-put : (bytes part : List ℕ) (place n : ℕ) → place + length part ≤ length bytes → place + length part ≤ n
    → drop n (put bytes place part) ≡ drop n bytes
drop-put bytes part place n fits behind =
    let front = take place bytes in
    let size : length (front ++ part) ≡ place + length part =
    omega (arith, length-append front part, length-take-le place bytes (omega (arith, fits))) in
    ap (λ (x : List ℕ). drop n x) (sym (append_assoc front part (drop (place + length part) bytes)))
    ∙ drop-append-drop (place + length part) bytes (front ++ part) n behind size

pub length-put : (bytes part : List ℕ) (place : ℕ) → place + length part ≤ length bytes
    → length (put bytes place part) ≡ length bytes
length-put bytes part place fits =
    omega (
      arith,
      length-append (take place bytes) (part ++ drop (place + length part) bytes),
      length-append part (drop (place + length part) bytes),
      length-take-le place bytes (omega (arith, fits)),
      length-drop (place + length part) bytes,
    )

-- two parts, one behind the other
pub put-put : (bytes one two : List ℕ) (place : ℕ) → place + (length one + length two) ≤ length bytes
    → put (put bytes place one) (place + length one) two ≡ put bytes place (one ++ two)
put-put bytes one two place fits =
    let front = take place bytes in
    let size : length (front ++ one) ≡ place + length one =
    omega (arith, length-append front one, length-take-le place bytes (omega (arith, fits))) in
    let rest = drop (place + length one) bytes in
    let grouped : put bytes place one ≡ (front ++ one) ++ rest = sym (append_assoc front one rest) in
    let before : take (place + length one) (put bytes place one) ≡ front ++ one =
    ap (take (place + length one)) grouped ∙ take_at (front ++ one) rest (place + length one) size in
    let behind : drop (place + length one + length two) (put bytes place one) ≡ drop (place + length (one ++ two)) bytes =
    drop-put bytes one place (place + length one + length two) (omega (arith, fits)) (omega arith)
    ∙ ap (λ n. drop n bytes) (omega (arith, length-append one two)) in
    (λ i. before i ++ (two ++ behind i))
    ∙ append_assoc front one (two ++ drop (place + length (one ++ two)) bytes)
    ∙ ap (λ (x : List ℕ). front ++ x) (sym (append_assoc one two (drop (place + length (one ++ two)) bytes)))

-- a part within the bytes in front of others
pub put_within : (front old part behind : List ℕ) (place : ℕ) → length front ≡ place → length part ≡ length old
    → put (front ++ (old ++ behind)) place part ≡ front ++ (part ++ behind)
put_within front old part behind place place_is same =
    let grouped : front ++ (old ++ behind) ≡ (front ++ old) ++ behind = sym (append_assoc front old behind) in
    let size : length (front ++ old) ≡ place + length part = omega (arith, length-append front old, place_is, same) in
    let before : take place (front ++ (old ++ behind)) ≡ front = take_at front (old ++ behind) place place_is in
    let after : drop (place + length part) (front ++ (old ++ behind)) ≡ behind =
    ap (drop (place + length part)) grouped ∙ drop_at (front ++ old) behind (place + length part) size in
    λ i. before i ++ (part ++ after i)

-- the head of a write, and its bytes behind
pub put_write_is : (old first last : List ℕ) (start tick page offset : ℕ) (bytes : List ℕ)
    → start + (16 + length bytes) ≤ length old
    → first ≡ put old start (text_of w64 tick ++ (text_of w32 page ++ (text_of w16 offset
    ++ text_of w16 (length bytes))))
    → last ≡ put first (start + 16) bytes → last ≡ put old start (write_text (write_with tick page offset bytes))
unfolding text_of
put_write_is old first last start tick page offset bytes room first_is last_is =
    let head = text_of w64 tick ++ (text_of w32 page ++ (text_of w16 offset ++ text_of w16 (length bytes))) in
    let spelled : head ++ bytes ≡ write_text (write_with tick page offset bytes) =
    write_parts (write_with tick page offset bytes) tick page offset (length bytes) bytes [] head (head ++ bytes)
    refl refl refl refl refl refl refl in
    last_is ∙ ap (λ (x : List ℕ). put x (start + 16) bytes) first_is ∙ put-put old head bytes start room
    ∙ ap (put old start) spelled
