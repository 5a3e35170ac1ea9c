-- Bytes that are written piece after piece.
use Rattle.std.proofs.Common.{◌≡◌, ℕ, ◌+◌, ◌-◌, ◌≤◌, inl, inr, List, ◌++◌, length, take, drop, Option, Some, None}
use Rattle.std.proofs.Common.{sym, ap, subst, ◌∙◌, arith}
use Rattle.std.specs.List.{between}
use Rattle.std.specs.Prelude.{Result, Ok, Err, IfErr, OnErr}
use Rattle.std.specs.Io.KnownBytes.{Appends, Keeps}
use Rattle.std.proofs.Math.Seq.{take-add}
use Rattle.std.proofs.lemmas.Bool.{cases_lt}
use Rattle.std.proofs.lemmas.List.{append-nil, drop-drop, length-take, take-take, take_all}
use Rattle.std.proofs.lemmas.Slice.{between_from_start}
use Rattle.byte_sinks.specs.Sink.{AppendsPart}
use Rattle.byte_sinks.proofs.Sinks.{Appends-more, Appends-then}

-- a piece, and the piece after it
pub between_more : (a b c : ℕ) (xs : List ℕ) → a ≤ b → b ≤ c → between a b xs ++ between b c xs ≡ between a c xs
between_more a b c xs first second =
    let back : a + (b - a) ≡ b = omega arith in
    let sum : b - a + (c - b) ≡ c - a = omega arith in
    ap (λ (n : ℕ). take (b - a) (drop a xs) ++ take (c - b) (drop n xs)) (sym back)
    ∙ ap (λ (l : List ℕ). take (b - a) (drop a xs) ++ take (c - b) l) (sym (drop-drop (b - a) a xs))
    ∙ sym (take-add (b - a) (c - b) (drop a xs))
    ∙ ap (λ (n : ℕ). take n (drop a xs)) sum

-- before anything is written, nothing is
pub wrote_none : (old : Option (List ℕ)) (a : ℕ) (xs : List ℕ) → Appends old old (between a a xs)
wrote_none None a xs = tt
wrote_none (Some held) a xs =
    let none : a - a ≡ 0 = omega arith in
    sym (append-nil held) ∙ ap (λ (n : ℕ). held ++ take n (drop a xs)) (sym none)

-- a piece after those in front of it
pub wrote_more : (old mid new : Option (List ℕ)) (a b c : ℕ) (xs : List ℕ) → a ≤ b → b ≤ c
    → Appends old mid (between a b xs) → Appends mid new (between b c xs)
    → Appends old new (between a c xs)
wrote_more old mid new a b c xs first second before more =
    subst (Appends old new) (between_more a b c xs first second)
    (Appends-then old mid new (between a b xs) (between b c xs) before more)

-- the first bytes of a piece are the first bytes after those in front of it
cut : (j m : ℕ) (ys : List ℕ) → (k : ℕ) × (take j (take m ys) ≡ take k ys)
cut j m ys = elim (cases_lt j m) [
  | inl low ↦ (j, take-take j m ys (omega (arith, low)))
  | inr high ↦ (m, take_all j (take m ys) (omega (arith, high, length-take m ys)))
]

-- a part of a piece, after those in front of it, is a part of what begins with those
pub wrote_part : (old mid new : Option (List ℕ)) (a b c : ℕ) (xs : List ℕ) → a ≤ b → Appends old mid (between a b xs)
    → AppendsPart mid new (between b c xs) → AppendsPart old new (drop a xs)
wrote_part old mid new a b c xs rise before part =
    let short = cut part.0 (c - b) (drop b xs) in
    let back : a + (b - a) ≡ b = omega arith in
    let on : drop b xs ≡ drop (b - a) (drop a xs) = ap (λ (n : ℕ). drop n xs) (sym back)
    ∙ sym (drop-drop (b - a) a xs) in (
      b - a + short.0,
      Appends-more old mid new (drop a xs) (b - a) short.0 before
          (subst (λ (l : List ℕ). Appends mid new (take short.0 l)) on (subst (Appends mid new) short.1 part.1)),
    )

-- a part of the rest, after what is in front of it, is a part of all
pub wrote_rest : (old mid new : Option (List ℕ)) (a : ℕ) (xs : List ℕ) → Appends old mid (between 0 a xs)
    → AppendsPart mid new (drop a xs) → AppendsPart old new xs
wrote_rest old mid new a xs before part = (
  a + part.0,
  Appends-more old mid new xs a part.0 (subst (Appends old mid) (between_from_start xs a) before) part.1,
)

-- all written bytes are a part of them
pub wrote_all : (old mid new : Option (List ℕ)) (xs : List ℕ) → Appends old mid xs → Keeps mid new
    → AppendsPart old new xs
wrote_all None mid new xs before keeps = (length xs, tt)
wrote_all (Some a) None new xs before keeps = absurd before
wrote_all (Some a) (Some b) None xs before keeps = absurd keeps
wrote_all (Some a) (Some b) (Some c) xs before keeps =
    (length xs, keeps ∙ before ∙ ap (λ (l : List ℕ). a ++ l) (sym (take_all (length xs) xs (omega arith))))

pub whole : (xs : List ℕ) (n : ℕ) → length xs ≤ n → between 0 n xs ≡ xs
whole xs n all = between_from_start xs n ∙ take_all n xs all

pub on_err : {T E P : Type 0} (r : Result T E) → P → OnErr r P
on_err (Ok x) p = tt
on_err (Err e) p = p

pub if_err : {T E : Type 0} {P : E → Type 0} (r : Result T E) → ((e : E) → P e) → IfErr r P
if_err (Ok x) all = tt
if_err (Err e) all = all e
