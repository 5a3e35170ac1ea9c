-- Tables that have the pages of some memory, and the parts they represent.
use Rattle.std.proofs.Common.{◌≡◌, ℕ, ◌^◌, ◌+◌, ◌-◌, ◌*◌, ◌<◌, inl, inr, List, [], ◌∷◌, ◌++◌, get_or, length, take}
use Rattle.std.proofs.Common.{drop, Option, Some, None, IfSome, option_map, sym, ap, ◌∙◌, subst, arith}
use Rattle.std.proofs.lemmas.Bool.{cases_lt, cases_eq}
use Rattle.std.proofs.lemmas.List.{ext_get_or, get_or_append_left, get_or_past, get_or_push, length-append, drop-drop}
use Rattle.std.proofs.lemmas.List.FromFn.{length-map-range_with_len}
use Rattle.migration_model.specs.Frames.{GuestShape, PageFrame, IsFrame}
use Rattle.migration_model.specs.Memory.{memory_with, page_of}
use Rattle.migration_model.specs.Parts.{PageCopy, part_with, copy_in}
use Rattle.migration_model.specs.Warm.{copy_from, part_of_memory}
use Rattle.migration_model.proofs.Parts.{same_copy}
use Rattle.migration_model.proofs.Warm.{copy_in_memory}
use Rattle.migration_model.specs.Frames.{IsFrameOf}
use Rattle.collector.specs.Tables.{copies_of, IsTable, IsTableOf}
use Rattle.collector.proofs.Tabled.{copy_at-table, length-copies_of}

-- ---- the bytes of the remaining pages

-- those after the next page
pub behind_page : (size n : ℕ) (bytes rest : List ℕ) → rest ≡ drop (n * size) bytes
    → drop size rest ≡ drop ((n + 1) * size) bytes
behind_page size n bytes rest is =
    let split : n * size + size ≡ (n + 1) * size = omega arith in
    ap (drop size) is ∙ drop-drop size (n * size) bytes ∙ ap (λ k. drop k bytes) split

-- the bytes of a page of the memory with these bytes
abbrev pub page_at : GuestShape → List ℕ → ℕ → List ℕ
page_at shape bytes page = page_of (memory_with shape.shift shape.pages bytes) page

-- the next page has this number
pub front_page : (shape : GuestShape) (n : ℕ) (bytes rest : List ℕ) → rest ≡ drop (n * 2 ^ shape.shift) bytes
    → take (2 ^ shape.shift) rest ≡ page_at shape bytes n
front_page shape n bytes rest is =
    let start = n * 2 ^ shape.shift in
    let size = 2 ^ shape.shift in
    let own : size ≡ start + size - start = omega arith in
    ap (take size) is ∙ ap (λ k. take k (drop start bytes)) own

-- ---- one more page

pub page_more : (shape : GuestShape) (bytes stamps : List ℕ) (n : ℕ) (table : List (Option PageFrame))
    (frame : PageFrame) → IsTableOf shape bytes stamps n table
    → IsFrameOf shape n (get_or stamps n 0) (page_at shape bytes n) frame
    → IsTableOf shape bytes stamps (n + 1) (table ++ Some frame ∷ [])
page_more shape bytes stamps n table frame is next = record {
  count_is = length-append table (Some frame ∷ []) ∙ ap (λ k. k + 1) is.count_is;
  each = λ page low. elim (cases_eq page n) [
    | inl here ↦ (
      frame,
      get_or_push table (Some frame) None page (is.count_is ∙ sym here),
      subst (λ p. IsFrameOf shape p (get_or stamps p 0) (page_at shape bytes p) frame) (sym here) next,
    )
    | inr apart ↦
        let before : page < n = omega (arith, low, apart) in
        let own = is.each page before in
        let there : page < length table = omega (arith, before, is.count_is) in
        (own.0, get_or_append_left table (Some frame ∷ []) None page there ∙ own.1, own.2)
  ];
}

-- ---- all pages

abbrev IsOwn : GuestShape → ℕ → Option PageFrame → Type 0
IsOwn shape page slot = IfSome slot (λ f. (f.page ≡ page) × IsFrame shape f)

pub is_table : (shape : GuestShape) (bytes stamps : List ℕ) (table : List (Option PageFrame))
    → IsTableOf shape bytes stamps shape.pages table → IsTable shape table
is_table shape bytes stamps table is = record {
  few = omega (arith, is.count_is);
  own = λ page. elim (cases_lt page shape.pages) [
    | inl low ↦ let own = is.each page low in subst (IsOwn shape page) (sym own.1) (own.2.page_is, own.2.fits)
    | inr past ↦
        let none = get_or_past table page None (omega (arith, past, is.count_is)) in
        subst (IsOwn shape page) (sym none) tt
  ];
}

pub part_of_table : (shape : GuestShape) (bytes stamps : List ℕ) (table : List (Option PageFrame))
    → IsTableOf shape bytes stamps shape.pages table
    → part_with shape (copies_of shape table)
    ≡ part_of_memory shape (memory_with shape.shift shape.pages bytes) stamps
part_of_table shape bytes stamps table is =
    let memory = memory_with shape.shift shape.pages bytes in
    let tabled = is_table shape bytes stamps table is in
    let len = length-copies_of shape table tabled.few in
    ap (part_with shape)
    (ext_get_or None (copies_of shape table) (part_of_memory shape memory stamps).copies
    (len ∙ sym (length-map-range_with_len (λ page. Some (copy_from memory stamps page)) 0 shape.pages))
    (λ page low.
    let within : page < shape.pages = omega (arith, low, len) in
    let own = is.each page within in
    let frame = own.0 in
    copy_at-table shape table page ∙ ap (option_map (copy_in shape)) own.1
    ∙ ap (λ (c : PageCopy). Some c)
    (same_copy (copy_in shape frame) (copy_from memory stamps page) own.2.stamp_is own.2.content)
    ∙ sym (copy_in_memory shape memory stamps page within)))
