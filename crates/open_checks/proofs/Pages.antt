-- The bytes of one page in flat memory, after those of a page are put over it.
use Rattle.std.proofs.Common.{◌≡◌, ◌≢◌, ℕ, inl, ◌+◌, ◌*◌, ◌^◌, ◌<◌, ◌≤◌, cond, eqb, List, [], ◌∷◌, ◌++◌, length, drop}
use Rattle.std.proofs.Common.{replicate, refl, sym, ap, ◌∙◌, arith}
use Rattle.std.proofs.Math.ListN.{drop_of_length-le}
use Rattle.std.proofs.Math.Nat.{mul-le-mul_right, one-le-pow}
use Rattle.std.proofs.lemmas.Bool.{cond-true, cond-false, eq-eqb, ne_eqb}
use Rattle.std.proofs.lemmas.List.{append-nil}
use Rattle.std.proofs.lemmas.List.Edits.{length-between}
use Rattle.std.proofs.lemmas.List.Elements.{All-cons, All-nil}
use Rattle.migration_model.specs.Frames.{GuestShape}
use Rattle.migration_model.specs.Memory.{bytes_put, memory_with, page_of, put}
use Rattle.migration_model.specs.Trace.{GuestWrite, IsGuestWrite}
use Rattle.migration_model.proofs.Pages.{pages_fold}

abbrev pub bytes_at : GuestShape → List ℕ → ℕ → List ℕ
bytes_at shape bytes page = page_of (memory_with shape.shift shape.pages bytes) page

pub length-bytes_at : (shape : GuestShape) (bytes : List ℕ) (page : ℕ) → page < shape.pages
    → length bytes ≡ shape.pages * 2 ^ shape.shift
    → length (bytes_at shape bytes page) ≡ 2 ^ shape.shift
length-bytes_at shape bytes page low len =
    let n = 2 ^ shape.shift in
    let end : (page + 1) * n ≤ shape.pages * n = mul-le-mul_right n (omega (arith, low)) in
    length-between bytes (page * n) (page * n + n) (omega (arith, end, len)) ∙ omega arith

-- a write of all bytes of a page
abbrev page_write : ℕ → List ℕ → GuestWrite
page_write page content = record { tick = 0; page = page; offset = 0; bytes = content }

-- a page after the bytes of one are written over memory
page_put : (shape : GuestShape) (bytes content : List ℕ) (page other : ℕ) → page < shape.pages → other < shape.pages
    → length bytes ≡ shape.pages * 2 ^ shape.shift → length content ≡ 2 ^ shape.shift
    → bytes_at shape (put bytes (page * 2 ^ shape.shift) content) other
    ≡ cond (eqb page other) (put (bytes_at shape bytes other) 0 content) (bytes_at shape bytes other)
page_put shape bytes content page other low within len whole =
    let n = 2 ^ shape.shift in
    let write = page_write page content in
    let some : 1 ≤ length content = omega (arith, whole, one-le-pow shape.shift 2 (omega arith)) in
    let fits : IsGuestWrite 1 shape.shift shape.pages write =
    record { tick = omega arith; page = low; some = inl some; within = omega (arith, whole) } in
    let own : bytes_put shape.shift write ≡ content =
    cond-false (eqb (length content) 0) (replicate n 0) content
    (ne_eqb (length content) 0 (λ is. absurd (omega (arith, is, some)))) in
    let step = pages_fold 1 shape.shift shape.pages (write ∷ []) bytes other within len
    (All-cons (IsGuestWrite 1 shape.shift shape.pages) write [] fits
    (All-nil (IsGuestWrite 1 shape.shift shape.pages))) in
    let place : page * n ≡ page * n + 0 = omega arith in
    ap (λ (k : ℕ). bytes_at shape (put bytes k content) other) place
    ∙ ap (λ (c : List ℕ). bytes_at shape (put bytes (page * n + 0) c) other) (sym own)
    ∙ step
    ∙ ap (λ (c : List ℕ). cond (eqb page other) (put (bytes_at shape bytes other) 0 c) (bytes_at shape bytes other)) own

pub page_put_own : (shape : GuestShape) (bytes content : List ℕ) (page : ℕ) → page < shape.pages
    → length bytes ≡ shape.pages * 2 ^ shape.shift → length content ≡ 2 ^ shape.shift
    → bytes_at shape (put bytes (page * 2 ^ shape.shift) content) page ≡ content
page_put_own shape bytes content page low len whole =
    let old = bytes_at shape bytes page in
    let none : drop (0 + length content) old ≡ [] =
    drop_of_length-le old (omega (arith, whole, length-bytes_at shape bytes page low len)) in
    page_put shape bytes content page page low low len whole
    ∙ cond-true (eqb page page) (put old 0 content) old (eq-eqb page page refl)
    ∙ ap (λ (l : List ℕ). content ++ l) none
    ∙ append-nil content

pub page_put_other : (shape : GuestShape) (bytes content : List ℕ) (page other : ℕ) → page < shape.pages
    → other < shape.pages → other ≢ page
    → length bytes ≡ shape.pages * 2 ^ shape.shift → length content ≡ 2 ^ shape.shift
    → bytes_at shape (put bytes (page * 2 ^ shape.shift) content) other ≡ bytes_at shape bytes other
page_put_other shape bytes content page other low within apart len whole =
    page_put shape bytes content page other low within len whole
    ∙ cond-false (eqb page other) (put (bytes_at shape bytes other) 0 content) (bytes_at shape bytes other)
    (ne_eqb page other (λ is. apart (sym is)))
