-- Tables of frames by page, and the parts they represent.
use Rattle.std.proofs.Common.{◌≡◌, ℕ, zero, suc, ◌^◌, ◌+◌, ◌-◌, ◌<◌, ◌≤◌, List, [], ◌∷◌, ◌++◌, length, get_or, set}
use Rattle.std.proofs.Common.{take, drop, map, replicate, Option, Some, None, IfSome, IsSomeAnd, ◌≢◌, option_map}
use Rattle.std.proofs.Common.{unwrap_or, refl, sym, ap, ◌∙◌, subst, append_assoc, arith}
use Rattle.std.proofs.lemmas.List.{append-nil, length-map, length-replicate, length-append, length-set, map-append}
use Rattle.std.proofs.lemmas.List.{map-set, set-append_left, replicate-append-replicate, replicate_more}
use Rattle.std.proofs.lemmas.List.{take-append-drop, drop_more, take_more, take_more_set, drop-set-lt}
use Rattle.migration_model.specs.Frames.{GuestShape, IsGuestShape, PageFrame, frame_with, IsFrame, IsZeros, content_of}
use Rattle.migration_model.specs.Parts.{PageCopy, GuestPart, part_with, IsCopy, IsPart, later, later_each, join}
use Rattle.migration_model.specs.Parts.{copy_in, with_frame}
use Rattle.migration_model.proofs.Parts.{later-nothing, later_each-nothing, later_second}
use Rattle.migration_model.proofs.Lists.{get_or-replicate_default}
use Rattle.collector.specs.Tables.{copies_of, IsTable, Grows, with_slot}
use Rattle.std.specs.List.{All, fold}
use Rattle.std.proofs.lemmas.Grind.{common_steps}
use Rattle.std.proofs.lemmas.Option.{IfSome_then}
use Rattle.std.proofs.lemmas.List.Elements.{All-from_get_or, All-replicate}

pub Grows-nothing : (table : List (Option PageFrame)) (page : ℕ) → Grows table table page
Grows-nothing table page = record { more = 0; items = sym (append-nil table); bound = omega arith }

pub Grows-push : (old table : List (Option PageFrame)) (page : ℕ) → Grows old table page → length table ≤ page
    → Grows old (table ++ None ∷ []) page
Grows-push old table page grows low =
    record {
      more = grows.more + 1;
      items = ap (λ (x : List (Option PageFrame)). x ++ None ∷ []) grows.items
          ∙ append_assoc old (replicate grows.more None) (None ∷ [])
          ∙ ap (λ (x : List (Option PageFrame)). old ++ x) (replicate_more grows.more None);
      bound = omega (arith, length-append table (None ∷ []));
    }

abbrev none_copy : Option PageCopy
none_copy = None

abbrev none_frame : Option PageFrame
none_frame = None

at_page : (shape : GuestShape) (table : List (Option PageFrame)) (n page : ℕ)
    → get_or (map (option_map (copy_in shape)) table ++ replicate n None) page None
    ≡ option_map (copy_in shape) (get_or table page None)
at_page shape [] n page = get_or-replicate_default n page none_copy
at_page shape (x ∷ xs) n zero = refl
at_page shape (x ∷ xs) n (suc page) = at_page shape xs n page

-- what the part has for a page is what the table has for it
pub copy_at-table : (shape : GuestShape) (table : List (Option PageFrame)) (page : ℕ)
    → get_or (copies_of shape table) page None ≡ option_map (copy_in shape) (get_or table page None)
copy_at-table shape table page = at_page shape table (shape.pages - length table) page

pub length-copies_of : (shape : GuestShape) (table : List (Option PageFrame)) → length table ≤ shape.pages
    → length (copies_of shape table) ≡ shape.pages
length-copies_of shape table few =
    omega (
      arith,
      length-append (map (option_map (copy_in shape)) table)
          (replicate (shape.pages - length table) none_copy),
      length-map table (option_map (copy_in shape)),
      length-replicate (shape.pages - length table) none_copy,
    )

nothing_mapped : (shape : GuestShape) (n : ℕ) → map (option_map (copy_in shape)) (replicate n None)
    ≡ replicate n none_copy
nothing_mapped shape zero = refl
nothing_mapped shape (suc n) = ap (λ (x : List (Option PageCopy)). None ∷ x) (nothing_mapped shape n)

-- empty slots change nothing
pub same_part-grown : (shape : GuestShape) (old new : List (Option PageFrame)) (page : ℕ) → Grows old new page
    → length new ≤ shape.pages
    → copies_of shape new ≡ copies_of shape old
same_part-grown shape old new page grows few =
    let f = option_map (copy_in shape) in
    let more = grows.more in
    let len : length new ≡ length old + more = ap length grows.items ∙ length-append old (replicate more None)
    ∙ ap (λ n. length old + n) (length-replicate more (none_frame)) in
    ap (λ (x : List (Option PageFrame)). map f x ++ replicate (shape.pages - length new) None) grows.items
    ∙ ap (λ (x : List (Option PageCopy)). x ++ replicate (shape.pages - length new) None)
    (map-append f old (replicate more None) ∙ ap (λ (x : List (Option PageCopy)). map f old ++ x)
    (nothing_mapped shape more))
    ∙ append_assoc (map f old) (replicate more None) (replicate (shape.pages - length new) None)
    ∙ ap (λ (x : List (Option PageCopy)). map f old ++ x) (replicate-append-replicate more (shape.pages - length new)
    none_copy)
    ∙ ap (λ (n : ℕ). map f old ++ replicate n none_copy) (omega (arith, len))

-- a frame put into its slot
copies_of-set : (shape : GuestShape) (table : List (Option PageFrame)) (page : ℕ) (frame : PageFrame)
    → page < length table
    → copies_of shape (set table page (Some frame)) ≡ set (copies_of shape table) page (Some (copy_in shape frame))
copies_of-set shape table page frame low =
    let f = option_map (copy_in shape) in
    let rest : List (Option PageCopy) = replicate (shape.pages - length table) None in
    ap (λ (n : ℕ). map f (set table page (Some frame)) ++ replicate (shape.pages - n) none_copy)
    (length-set table page (Some frame))
    ∙ ap (λ (x : List (Option PageCopy)). x ++ rest) (map-set f table page (Some frame))
    ∙ sym (set-append_left (map f table) rest page (Some (copy_in shape frame)) (omega (arith, length-map table f)))

stamp_kept : (shape : GuestShape) (o : Option PageFrame) (s : ℕ) → option_map (λ f. f.stamp) o ≡ Some s
    → (c : PageCopy) × (option_map (copy_in shape) o ≡ Some c) × (c.stamp ≡ s)
stamp_kept shape None s is = absurd (cc is)
stamp_kept shape (Some f) s is = (copy_in shape f, refl, cc is)

nothing_kept : (o : Option PageFrame) → option_map (λ f. f.stamp) o ≡ None → o ≡ None
nothing_kept None is = refl
nothing_kept (Some f) is = absurd (cc is)

-- ---- a frame that comes, by what was kept for its page

pub taken_new : (shape : GuestShape) (old new put : List (Option PageFrame)) (frame : PageFrame) (page : ℕ)
    (part : GuestPart)
    → part_with shape (copies_of shape old) ≡ part → Grows old new page → length new ≤ shape.pages → page < length new
    → page ≡ frame.page
    → option_map (λ f. f.stamp) (get_or old page None) ≡ None → put ≡ set new page (Some frame)
    → part_with shape (copies_of shape put) ≡ with_frame part frame
taken_new shape old new put frame page part view grows few low own none is =
    let copy = copy_in shape frame in
    let before : get_or (copies_of shape old) frame.page None ≡ None =
    copy_at-table shape old frame.page ∙ ap (option_map (copy_in shape))
    (ap (λ n. get_or old n None) (sym own) ∙ nothing_kept (get_or old page None) none) in
    ap (part_with shape)
    (ap (copies_of shape) is ∙ copies_of-set shape new page frame low
    ∙ ap (λ (x : List (Option PageCopy)). set x page (Some copy)) (same_part-grown shape old new page grows few)
    ∙ ap (λ n. set (copies_of shape old) n (Some copy)) own
    ∙ ap (λ (o : Option PageCopy). set (copies_of shape old) frame.page (later o (Some copy))) (sym before))
    ∙ ap (λ (p : GuestPart). with_frame p frame) view

pub taken_newer : (shape : GuestShape) (old put : List (Option PageFrame)) (frame : PageFrame) (page stamp : ℕ)
    (part : GuestPart)
    → part_with shape (copies_of shape old) ≡ part → page < length old → page ≡ frame.page
    → option_map (λ f. f.stamp) (get_or old page None) ≡ Some stamp → stamp < frame.stamp
    → put ≡ set old page (Some frame)
    → part_with shape (copies_of shape put) ≡ with_frame part frame
taken_newer shape old put frame page stamp part view low own kept lt is =
    let copy = copy_in shape frame in
    let found = stamp_kept shape (get_or old page None) stamp kept in
    let before : get_or (copies_of shape old) frame.page None ≡ Some found.0 =
    copy_at-table shape old frame.page ∙ ap (λ n. option_map (copy_in shape) (get_or old n None)) (sym own) ∙ found.1 in
    ap (part_with shape)
    (ap (copies_of shape) is ∙ copies_of-set shape old page frame low
    ∙ ap (λ n. set (copies_of shape old) n (Some copy)) own
    ∙ ap (set (copies_of shape old) frame.page) (sym (later_second found.0 copy (omega (arith, found.2))))
    ∙ ap (λ (o : Option PageCopy). set (copies_of shape old) frame.page (later o (Some copy))) (sym before))
    ∙ ap (λ (p : GuestPart). with_frame p frame) view

pub tabled_grown : (shape : GuestShape) (old new : List (Option PageFrame)) (page : ℕ) → IsTable shape old
    → Grows old new page → length new ≤ shape.pages → IsTable shape new
tabled_grown shape old new page tabled grows few =
    record { few = few; own = λ n. grind (arith, common_steps, tabled.own n, grows.items) }

pub tabled_new : (shape : GuestShape) (old new put : List (Option PageFrame)) (frame : PageFrame) (page : ℕ)
    → IsTable shape old → Grows old new page
    → length new ≤ shape.pages → page ≡ frame.page → IsFrame shape frame → put ≡ set new page (Some frame)
    → IsTable shape put
tabled_new shape old new put frame page tabled grows few own fits is =
    record {
      few = omega (arith, ap length is, length-set new page (Some frame));
      own = λ n. grind (arith, common_steps, tabled.own n, grows.items, is);
    }

-- ---- a frame for which memory runs out, by what was kept for its page

not_as_long : (size : ℕ) (own new : Option (List ℕ)) → IfSome own (λ bytes. (length bytes ≡ size) × ¬ IsZeros bytes)
    → IfSome new (λ bytes. (length bytes ≡ size) × ¬ IsZeros bytes)
    → IsSomeAnd new (λ bytes. option_map length own ≢ Some (length bytes)) → IsZeros (unwrap_or own (replicate size 0))
not_as_long size None new whole fits long = All-replicate (λ byte. byte ≡ 0) size 0 refl
not_as_long size (Some own) None whole fits long = absurd long
not_as_long size (Some own) (Some new) whole fits long = absurd (long (ap (λ (n : ℕ). Some n) (whole.0 ∙ sym fits.0)))

zeros_kept : (shape : GuestShape) (page : ℕ) (frame : PageFrame) (o : Option PageFrame) → IsFrame shape frame
    → IfSome o (λ f. (f.page ≡ page) × IsFrame shape f)
    → IfSome o (λ f. IsSomeAnd frame.body (λ bytes. option_map length f.body ≢ Some (length bytes)))
    → IfSome (option_map (copy_in shape) o) (λ copy. IsZeros copy.content)
zeros_kept shape page frame None fits own long = tt
zeros_kept shape page frame (Some kept) fits own long = not_as_long (2 ^ shape.shift) kept.body frame.body own.1.body
    fits.body long

pub refused_zeros : (shape : GuestShape) (table : List (Option PageFrame)) (frame : PageFrame) (page : ℕ)
    (part : GuestPart)
    → part_with shape (copies_of shape table) ≡ part → IsTable shape table → IsFrame shape frame → page ≡ frame.page
    → IfSome (get_or table page None) (λ f. IsSomeAnd frame.body
    (λ bytes. option_map length f.body ≢ Some (length bytes)))
    → IfSome (get_or part.copies frame.page None) (λ copy. IsZeros copy.content)
refused_zeros shape table frame page part view tabled fits own long =
    subst (λ (p : GuestPart). IfSome (get_or p.copies frame.page None) (λ copy. IsZeros copy.content)) view
    (rw (copy_at-table shape table frame.page, ← own) (zeros_kept shape page frame (get_or table page None) fits
    (tabled.own page) long))

-- ---- what such a part is

length-content_of : (shape : GuestShape) (page stamp : ℕ) (body : Option (List ℕ))
    → IsFrame shape (frame_with page stamp body) → length (content_of shape (frame_with page stamp body)) ≡ 2
    ^ shape.shift
length-content_of shape page stamp None is = length-replicate (2 ^ shape.shift) 0
length-content_of shape page stamp (Some bytes) is = is.body.0

is_copy : (shape : GuestShape) (page : ℕ) (o : Option PageFrame)
    → IfSome o (λ frame. (frame.page ≡ page) × IsFrame shape frame)
    → IfSome (option_map (copy_in shape) o) (IsCopy shape)
is_copy shape page None is = tt
is_copy shape page (Some frame) is = record {
  stamp = is.1.stamp;
  content =
      length-content_of shape frame.page frame.stamp frame.body is.1;
}

pub IsPart-from_table : (shape : GuestShape) (table : List (Option PageFrame)) → IsGuestShape shape
    → IsTable shape table → IsPart (part_with shape (copies_of shape table))
IsPart-from_table shape table is tabled =
    record {
      shape = is;
      places = length-copies_of shape table tabled.few;
      copies = λ page. rw (copy_at-table shape table page) (is_copy shape page (get_or table page None)
          (tabled.own page));
    }

-- ---- one table after another

later_each-nones_short : (xs : List (Option PageCopy)) (m : ℕ) → m ≤ length xs → later_each xs (replicate m None) ≡ xs
later_each-nones_short xs zero few = later_each-nothing xs
later_each-nones_short [] (suc m) few = absurd (omega arith)
later_each-nones_short (x ∷ xs) (suc m) few = λ i. later-nothing x i ∷ later_each-nones_short xs m (omega arith) i

later_each-behind : (xs ys : List (Option PageCopy)) (m : ℕ) → length ys + m ≤ length xs
    → later_each xs (ys ++ replicate m None) ≡ later_each xs ys
later_each-behind xs [] m few = later_each-nones_short xs m (omega arith) ∙ sym (later_each-nothing xs)
later_each-behind [] (y ∷ ys) m few = absurd (omega arith)
later_each-behind (x ∷ xs) (y ∷ ys) m few = ap (λ (rest : List (Option PageCopy)). later x y ∷ rest)
    (later_each-behind xs ys m (omega arith))

-- a step of the table that starts at page n
next_copy : (n : ℕ) (xs next table : List (Option PageCopy)) (x y : Option PageCopy) → n < length xs
    → take (n + 1) next ≡ take n xs ++ later x y ∷ [] → drop (n + 1) next ≡ drop (n + 1) xs
    → x ≡ get_or xs n None → take (n + 1) next ++ later_each (drop (n + 1) next) table ≡ take n xs
    ++ later_each (drop n xs) (y ∷ table)
next_copy n xs next table x y low front back is =
    ap (λ (a : List (Option PageCopy)). a ++ later_each (drop (n + 1) next) table) front
    ∙ ap (λ (b : List (Option PageCopy)). (take n xs ++ later x y ∷ []) ++ later_each b table) back
    ∙ append_assoc (take n xs) (later x y ∷ []) (later_each (drop (n + 1) xs) table)
    ∙ ap (λ (z : Option PageCopy). take n xs ++ later_each (z ∷ drop (n + 1) xs) (y ∷ table)) is
    ∙ ap (λ (b : List (Option PageCopy)). take n xs ++ later_each b (y ∷ table)) (sym (drop_more xs n None low))

slots : (shape : GuestShape) (table : List (Option PageFrame)) (n : ℕ) (xs : List (Option PageCopy))
    → n + length table ≤ length xs
    → ((k : ℕ) → IfSome (get_or table k None) (λ frame. frame.page ≡ n + k))
    → fold with_slot (part_with shape xs) table ≡ part_with shape
    (take n xs ++ later_each (drop n xs) (map (option_map (copy_in shape)) table))
slots shape [] n xs fits own =
    ap (part_with shape) (sym (ap (λ (x : List (Option PageCopy)). take n xs ++ x) (later_each-nothing (drop n xs))
    ∙ take-append-drop n xs))
slots shape (None ∷ table) n xs fits own =
    slots shape table (n + 1) xs (omega arith) (λ k. IfSome_then (get_or table k None) (own (suc k))
    (λ f is. omega arith))
    ∙ ap (part_with shape) (next_copy n xs xs (map (option_map (copy_in shape)) table) (get_or xs n None) None
    (omega arith)
    (take_more xs n None (omega arith) ∙ ap (λ (z : Option PageCopy). take n xs ++ z ∷ [])
    (sym (later-nothing (get_or xs n None)))) refl refl)
slots shape (Some frame ∷ table) n xs fits own =
    let copy = copy_in shape frame in
    let page : frame.page ≡ n = omega (arith, own 0) in
    let next : List (Option PageCopy) = set xs n (later (get_or xs n None) (Some copy)) in
    ap (λ (p : GuestPart). fold with_slot p table)
    (ap (λ m. part_with shape (set xs m (later (get_or xs m None) (Some copy)))) page)
    ∙ slots shape table (n + 1) next (omega (arith, length-set xs n (later (get_or xs n None) (Some copy))))
    (λ k. IfSome_then (get_or table k None) (own (suc k)) (λ f is. omega arith))
    ∙ ap (part_with shape) (next_copy n xs next (map (option_map (copy_in shape)) table) (get_or xs n None) (Some copy)
    (omega arith)
    (take_more_set xs n (later (get_or xs n None) (Some copy)) (omega arith))
    (drop-set-lt (n + 1) xs n (later (get_or xs n None) (Some copy)) (omega arith)) refl)

pub fold-slots : (first second : GuestPart) (table : List (Option PageFrame)) → IsPart first
    → first.shape ≡ second.shape → IsTable second.shape table
    → copies_of second.shape table ≡ second.copies → fold with_slot first table ≡ join first second
fold-slots first second table is shape tabled copies =
    let few : length table ≤ first.shape.pages = omega (arith, tabled.few, ap (λ (s : GuestShape). s.pages) shape) in
    slots first.shape table 0 first.copies (omega (arith, is.places))
    (λ k. IfSome_then (get_or table k None) (tabled.own k) (λ f own. omega (arith, own.0)))
    ∙ ap (part_with first.shape)
    (sym (later_each-behind first.copies (map (option_map (copy_in first.shape)) table)
    (first.shape.pages - length table) (omega (
      arith,
      length-map table (option_map (copy_in first.shape)),
      is.places,
    )))
    ∙ ap (λ (s : GuestShape). later_each first.copies (copies_of s table)) shape ∙ ap (later_each first.copies) copies)

pub slots_fit : (shape : GuestShape) (table : List (Option PageFrame)) → IsTable shape table
    → All (λ slot. IfSome slot (IsFrame shape)) table
slots_fit shape table tabled = All-from_get_or (λ slot. IfSome slot (IsFrame shape)) table None
    (λ i low. IfSome_then (get_or table i None) (tabled.own i) (λ f own. own.1))

pub shape-with_slot : (part : GuestPart) (slot : Option PageFrame) → (with_slot part slot).shape ≡ part.shape
shape-with_slot part None = refl
shape-with_slot part (Some frame) = refl
