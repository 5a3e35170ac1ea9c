-- Memory made from parts, page by page.
use Rattle.std.proofs.Common.{◌≡◌, ℕ, inl, inr, ◌+◌, ◌-◌, ◌*◌, ◌^◌, ◌<◌, ltb, List, [], ◌∷◌, ◌++◌, length}
use Rattle.std.proofs.Common.{take, drop, replicate, get_or, Option, Some, None, IfSome, refl, sym, subst, ap, ◌∙◌}
use Rattle.std.proofs.Common.{arith}
use Rattle.std.specs.List.{All, between, fold, flat_map, range_with_len}
use Rattle.std.proofs.lemmas.Bool.{cases_lt, lt-ltb, le-ltb, cond-true, cond-false}
use Rattle.std.proofs.lemmas.List.{at_drop_more, length-append, length-replicate, flat_map_more}
use Rattle.std.proofs.lemmas.List.Elements.{All-head, All-tail, All-nil, All-cons}
use Rattle.std.specs.Prelude.{unwrap_or}
use Rattle.migration_model.specs.Frames.{GuestShape, IsFrame, IsZeros, PageFrame}
use Rattle.migration_model.specs.Parts.{PageCopy, GuestPart, copy_at, copy_in, empty_part, later, join, join_all}
use Rattle.migration_model.specs.Memory.{memory_with, page_of}
use Rattle.migration_model.specs.Images.{bytes_of, bytes_of_first, InNoPart, HaveFirst, IsJoined}
use Rattle.migration_model.proofs.Current.{piece_at, shape-joined}
use Rattle.migration_model.proofs.Parts.{get_or-later_each}
use Rattle.migration_model.proofs.Ranges.{range_more}
use Rattle.migration_model.proofs.Lists.{get_or-replicate_default}
use Rattle.image_build.specs.Joins.{IsMissing, IsWhole, WholeParts, memory_by}
use Rattle.image_build.specs.declared.error.ImageError.TheVariants as errors

-- what is kept of a page after the remaining parts
abbrev pub kept_of : ℕ → Option PageCopy → List GuestPart → Option PageCopy
kept_of page kept parts = fold (λ (k : Option PageCopy) (part : GuestPart). later k (copy_at part page)) kept parts

copy_at-joined : (first : GuestPart) (parts : List GuestPart) (page : ℕ)
    → copy_at (fold join first parts) page ≡ kept_of page (copy_at first page) parts
copy_at-joined first [] page = refl
copy_at-joined first (part ∷ parts) page =
    copy_at-joined (join first part) parts page ∙ ap (λ (k : Option PageCopy). kept_of page k parts)
    (get_or-later_each first.copies part.copies page)

abbrev none_copy : Option PageCopy
none_copy = None

-- what the join has for a page is what is kept of it, part after part
pub copy_at-join_all : (shape : GuestShape) (parts : List GuestPart) (page : ℕ)
    → copy_at (join_all shape parts) page ≡ kept_of page None parts
copy_at-join_all shape parts page =
    copy_at-joined (empty_part shape) parts page ∙ ap (λ (k : Option PageCopy). kept_of page k parts)
    (get_or-replicate_default shape.pages page none_copy)

-- one more part
pub kept-more : (page : ℕ) (kept next : Option PageCopy) (parts : List GuestPart) (part : GuestPart) (i : ℕ)
    (whole : Option PageCopy)
    → kept_of page kept (drop i parts) ≡ whole → i < length parts → part ≡ get_or parts i part
    → next ≡ later kept (copy_at part page)
    → kept_of page next (drop (i + 1) parts) ≡ whole
kept-more page kept next parts part i whole before low at is =
    ap (λ (k : Option PageCopy). kept_of page k (drop (i + 1) parts)) is
    ∙ ap (λ (p : GuestPart). kept_of page (later kept (copy_at p page)) (drop (i + 1) parts)) at
    ∙ sym (at_drop_more (λ (l : List GuestPart). kept_of page kept l) parts i part low)
    ∙ before

pub shape-join_all : (shape : GuestShape) (parts : List GuestPart) → (join_all shape parts).shape ≡ shape
shape-join_all shape parts = shape-joined (empty_part shape) parts

-- ---- pages that no part has

later_none : (a b : Option PageCopy) → later a b ≡ None → (a ≡ None) × (b ≡ None)
later_none None b is = (refl, is)
later_none (Some a) None is = absurd (cc is)
later_none (Some a) (Some b) is = elim (cases_lt a.stamp b.stamp) [
  | inl lt ↦
      let second : later (Some a) (Some b) ≡ Some b = cond-true (ltb a.stamp b.stamp) (Some b) (Some a)
      (lt-ltb a.stamp b.stamp lt) in
      absurd (cc (is, second))
  | inr le ↦
      let first : later (Some a) (Some b) ≡ Some a = cond-false (ltb a.stamp b.stamp) (Some b) (Some a)
      (le-ltb a.stamp b.stamp le) in
      absurd (cc (is, first))
]

none_kept : (page : ℕ) (kept : Option PageCopy) (parts : List GuestPart) → kept_of page kept parts ≡ None
    → (kept ≡ None) × InNoPart parts page
none_kept page kept [] is = (is, All-nil (λ (part : GuestPart). copy_at part page ≡ None))
none_kept page kept (part ∷ parts) is =
    let behind = none_kept page (later kept (copy_at part page)) parts is in
    let both = later_none kept (copy_at part page) behind.0 in
    (both.0, All-cons (λ (p : GuestPart). copy_at p page ≡ None) part parts both.1 behind.1)

-- a page that the join does not have is in no part
pub InNoPart-from_join : (shape : GuestShape) (parts : List GuestPart) (page : ℕ)
    → copy_at (join_all shape parts) page ≡ None → InNoPart parts page
InNoPart-from_join shape parts page is = (none_kept page None parts (sym (copy_at-join_all shape parts page) ∙ is)).1

kept_none : (page : ℕ) (parts : List GuestPart) → InNoPart parts page → kept_of page None parts ≡ None
kept_none page [] lacks = refl
kept_none page (part ∷ parts) lacks =
    ap (λ (k : Option PageCopy). kept_of page k parts) (All-head (λ (p : GuestPart). copy_at p page ≡ None) part parts
    lacks)
    ∙ kept_none page parts (All-tail (λ (p : GuestPart). copy_at p page ≡ None) part parts lacks)

-- and a page that is in no part is not in the join
pub join-from_InNoPart : (shape : GuestShape) (parts : List GuestPart) (page : ℕ) → InNoPart parts page
    → copy_at (join_all shape parts) page ≡ None
join-from_InNoPart shape parts page lacks = copy_at-join_all shape parts page ∙ kept_none page parts lacks

-- ---- page after page

-- a page that the join has, with its size
abbrev pub HasPage : WholeParts → ℕ → Type 0
HasPage whole page = (copy : PageCopy) × (copy_at (join_all whole.shape whole.parts) page ≡ Some copy)
    × (length copy.content ≡ 2 ^ whole.shape.shift)

pub size_of : (n : ℕ) (body : Option (List ℕ)) → IfSome body (λ bytes. (length bytes ≡ n) × ¬ IsZeros bytes)
    → length (unwrap_or body (replicate n 0)) ≡ n
size_of n None fits = length-replicate n 0
size_of n (Some bytes) fits = fits.0

-- the first `count` pages are there
abbrev pub HasFirst : WholeParts → ℕ → Type 0
HasFirst whole count = (page : ℕ) → page < count → HasPage whole page

pub HasFirst-more : (whole : WholeParts) (count : ℕ) → HasFirst whole count → HasPage whole count
    → HasFirst whole (count + 1)
HasFirst-more whole count before has page low = elim (cases_lt page count) [
  | inl below ↦ before page below
  | inr above ↦ subst (HasPage whole) (omega arith) has
]

-- the bytes of a page that a frame has
pub size_in : (shape : GuestShape) (frame : PageFrame) → IsFrame shape frame
    → length (copy_in shape frame).content ≡ 2 ^ shape.shift
size_in shape frame fits = size_of (2 ^ shape.shift) frame.body fits.body

pub HasPage-from_frame : (whole : WholeParts) (page : ℕ) (frame : PageFrame)
    → copy_at (join_all whole.shape whole.parts) page ≡ Some (copy_in whole.shape frame)
    → IsFrame whole.shape frame → HasPage whole page
HasPage-from_frame whole page frame has fits = (copy_in whole.shape frame, has, size_in whole.shape frame fits)

-- pages that the join has are in some part
pub HaveFirst-from_join : (whole : WholeParts) (count : ℕ) → HasFirst whole count → HaveFirst whole.parts count
HaveFirst-from_join whole count first page low lacks =
    cc (sym (join-from_InNoPart whole.shape whole.parts page lacks) ∙ (first page low).1)

-- a page that is refused after the first pages is the first that is in no part
pub refused_first : (whole : WholeParts) (page : ℕ) → page < whole.shape.pages → HasFirst whole page
    → copy_at (join_all whole.shape whole.parts) page ≡ None
    → IsMissing whole.shape whole.parts (errors.Missing page)
refused_first whole page low before none = record {
  page = page;
  names = refl;
  lacks = record {
    low = low;
    lacks = InNoPart-from_join whole.shape whole.parts page none;
    first =
        HaveFirst-from_join whole page before;
  };
}

pub IsWhole-from_all : (whole : WholeParts) (count : ℕ) → All (λ part. part.shape ≡ whole.shape) whole.parts
    → HasFirst whole count → count ≡ whole.shape.pages → IsWhole whole
IsWhole-from_all whole count shapes first all = record {
  shapes = shapes;
  each =
      λ page low. first page (omega (arith, low, all));
}

pub IsJoined-from_all : (whole : WholeParts) (count : ℕ) → HasFirst whole count → count ≡ whole.shape.pages
    → IsJoined whole.shape whole.parts (memory_by whole)
IsJoined-from_all whole count first all = record {
  whole = subst (λ (n : ℕ). HaveFirst whole.parts n) all (HaveFirst-from_join whole count first);
  is = refl;
}

-- the bytes of the first `count` pages
pub record Makes (whole : WholeParts) (count : ℕ) (bytes : List ℕ) : Type 0 where
  pub is : bytes ≡ bytes_of_first (join_all whole.shape whole.parts) count
  pub len : length bytes ≡ count * 2 ^ whole.shape.shift

pub Makes-nothing : (whole : WholeParts) → Makes whole 0 []
Makes-nothing whole = record { is = refl; len = omega arith }

pub Makes-more : (whole : WholeParts) (count : ℕ) (copy : PageCopy) (old new : List ℕ) → Makes whole count old
    → copy_at (join_all whole.shape whole.parts) count ≡ Some copy → length copy.content ≡ 2 ^ whole.shape.shift
    → new ≡ old ++ copy.content
    → Makes whole (count + 1) new
Makes-more whole count copy old new before has size text =
    let joined = join_all whole.shape whole.parts in
    let piece : ℕ → List ℕ = λ page. bytes_of (copy_at joined page) in
    record {
      is = text
          ∙ ap (λ (x : List ℕ). x ++ copy.content) before.is
          ∙ ap (λ (o : Option PageCopy). bytes_of_first joined count ++ bytes_of o) (sym has)
          ∙ flat_map_more piece [] (range_with_len 0 count) count
          ∙ ap (λ (l : List ℕ). flat_map piece l) (sym (range_more count));
      len = omega (arith, ap length text, length-append old copy.content, size, before.len);
    }

pub memory_from_all : (whole : WholeParts) (count : ℕ) (bytes : List ℕ) → Makes whole count bytes
    → count ≡ whole.shape.pages
    → memory_with whole.shape.shift whole.shape.pages bytes ≡ memory_by whole
memory_from_all whole count bytes makes all =
    let joined = join_all whole.shape whole.parts in
    ap (memory_with whole.shape.shift whole.shape.pages) (makes.is ∙ ap (λ (n : ℕ). bytes_of_first joined n) all)
    ∙ ap (λ (s : GuestShape). memory_with s.shift s.pages (bytes_of_first joined s.pages))
    (sym (shape-join_all whole.shape whole.parts))

-- a page of the memory is what the join has for it
pub page_by : (whole : WholeParts) (page : ℕ) (copy : PageCopy) → IsWhole whole → page < whole.shape.pages
    → copy_at (join_all whole.shape whole.parts) page ≡ Some copy → page_of (memory_by whole) page ≡ copy.content
page_by whole page copy is low has =
    let joined = join_all whole.shape whole.parts in
    let n = 2 ^ whole.shape.shift in
    let piece : ℕ → List ℕ = λ p. bytes_of (copy_at joined p) in
    let len : page * n + n - page * n ≡ n = omega arith in
    let front : 0 + page ≡ page = omega arith in
    ap (λ (s : GuestShape). between (page * 2 ^ s.shift) (page * 2 ^ s.shift + 2 ^ s.shift)
    (bytes_of_first joined s.pages)) (shape-join_all whole.shape whole.parts)
    ∙ ap (λ k. take k (drop (page * n) (bytes_of_first joined whole.shape.pages))) len
    ∙ piece_at piece n 0 whole.shape.pages page low
    (λ p below. let there = is.each p (omega (arith, below)) in ap (λ (o : Option PageCopy). length (bytes_of o))
    there.1 ∙ there.2)
    ∙ ap piece front
    ∙ ap bytes_of has
