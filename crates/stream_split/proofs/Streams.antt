-- The streams after one more frame.
use Rattle.std.proofs.Common.{Vec, Global, take, ◌≡◌, ℕ, zero, suc, ◌+◌, ◌%◌, ◌<◌, ◌==◌, Bool, cond, List, [], ◌∷◌}
use Rattle.std.proofs.Common.{◌++◌, length, get_or, set, map, replicate, refl, sym, ap, ◌∙◌, inl, inr, arith}
use Rattle.std.specs.List.{filter, flat_map, enumerate_from, range_with_len}
use Rattle.std.proofs.Math.Nat.{mod-lt}
use Rattle.std.proofs.lemmas.Bool.{cases_eq, eq-eqb, ne_eqb}
use Rattle.std.proofs.lemmas.Grind.{flat_map-append}
use Rattle.std.proofs.lemmas.List.{append-nil, length-map, length-take-le, get_or-map, map-set, take_more, length-set}
use Rattle.std.proofs.lemmas.List.{get_or-set_same, get_or-set_other, same_lists, map_push}
use Rattle.std.proofs.lemmas.List.Elements.{filter-append}
use Rattle.std.proofs.lemmas.List.FromFn.{length-map-range_with_len, get_or-map-range_with_len}
use Rattle.migration_model.specs.Frames.{PageFrame, frame_text}
use Rattle.stream_split.specs.Deals.{dealt, streams_of}

abbrev nothing : List ℕ
nothing = []

omega_add_zero : (n : ℕ) → n ≡ n + 0
omega_add_zero n = omega arith

enumerate_from-push : (n : ℕ) (xs : List PageFrame) (x : PageFrame)
    → enumerate_from n (xs ++ x ∷ []) ≡ enumerate_from n xs ++ (n + length xs, x) ∷ []
enumerate_from-push n [] x = λ i. (omega_add_zero n i, x) ∷ []
enumerate_from-push n (y ∷ ys) x =
    ap (λ (rest : List (ℕ × PageFrame)). (n, y) ∷ rest)
    (enumerate_from-push (n + 1) ys x ∙ ap (λ (m : ℕ). enumerate_from (n + 1) ys ++ (m, x) ∷ []) (omega arith))

-- the new frame goes to its stream
dealt-push_own : (streams stream : ℕ) (frames : List PageFrame) (frame : PageFrame) → length frames % streams ≡ stream
    → dealt streams (frames ++ frame ∷ []) stream ≡ dealt streams frames stream ++ frame ∷ []
dealt-push_own streams stream frames frame is =
    ap (λ (xs : List (ℕ × PageFrame)). map (λ at. at.1) (filter (λ at. at.0 % streams == stream) xs))
    (enumerate_from-push 0 frames frame)
    ∙ ap (map (λ at. at.1)) (filter-append (λ at. at.0 % streams == stream) (enumerate_from 0 frames)
    ((0 + length frames, frame) ∷ []))
    ∙ ap (λ (b : Bool). map (λ at. at.1) (filter (λ at. at.0 % streams == stream) (enumerate_from 0 frames)
    ++ cond b ((0 + length frames, frame) ∷ []) []))
    (eq-eqb ((0 + length frames) % streams) stream (ap (λ n. n % streams) (omega arith) ∙ is))
    ∙ map_push (λ at. at.1) (filter (λ at. at.0 % streams == stream) (enumerate_from 0 frames))
    (0 + length frames, frame)

-- and to no other
dealt-push_other : (streams stream : ℕ) (frames : List PageFrame) (frame : PageFrame)
    → ¬ (length frames % streams ≡ stream)
    → dealt streams (frames ++ frame ∷ []) stream ≡ dealt streams frames stream
dealt-push_other streams stream frames frame not =
    ap (λ (xs : List (ℕ × PageFrame)). map (λ at. at.1) (filter (λ at. at.0 % streams == stream) xs))
    (enumerate_from-push 0 frames frame)
    ∙ ap (map (λ at. at.1)) (filter-append (λ at. at.0 % streams == stream) (enumerate_from 0 frames)
    ((0 + length frames, frame) ∷ []))
    ∙ ap (λ (b : Bool). map (λ at. at.1) (filter (λ at. at.0 % streams == stream) (enumerate_from 0 frames)
    ++ cond b ((0 + length frames, frame) ∷ []) []))
    (ne_eqb ((0 + length frames) % streams) stream (λ is. not (ap (λ n. n % streams) (omega arith) ∙ is)))
    ∙ ap (map (λ at. at.1)) (append-nil (filter (λ at. at.0 % streams == stream) (enumerate_from 0 frames)))

-- what a stream is
at_stream : (streams stream : ℕ) (frames : List PageFrame) (d : List ℕ) → stream < streams
    → get_or (streams_of streams frames) stream d ≡ flat_map frame_text (dealt streams frames stream)
at_stream streams stream frames d low = get_or-map-range_with_len (λ s. flat_map frame_text (dealt streams frames s)) 0
    streams stream stream d low (omega arith)

pub streams_of-push : (streams : ℕ) (frames : List PageFrame) (frame : PageFrame) (d : List ℕ) → 0 < streams
    → streams_of streams (frames ++ frame ∷ [])
    ≡ set (streams_of streams frames) (length frames % streams)
    (get_or (streams_of streams frames) (length frames % streams) d ++ frame_text frame)
streams_of-push streams frames frame d some =
    let before = streams_of streams frames in
    let own = length frames % streams in
    let within : own < streams = mod-lt (length frames) some in
    let len : length before ≡ streams = length-map-range_with_len (λ s. flat_map frame_text (dealt streams frames s)) 0
    streams in
    let len_after : length (streams_of streams (frames ++ frame ∷ [])) ≡ streams =
    length-map-range_with_len (λ s. flat_map frame_text (dealt streams (frames ++ frame ∷ []) s)) 0 streams in
    same_lists _ _ (len_after ∙ sym (length-set before own _ ∙ len)) (λ k e low.
    let here : k < streams = omega (arith, len_after) in
    at_stream streams k (frames ++ frame ∷ []) e here ∙ elim (cases_eq own k) [
      | inl same ↦
          ap (flat_map frame_text) (dealt-push_own streams k frames frame same)
          ∙ flat_map-append frame_text (dealt streams frames k) (frame ∷ [])
          ∙ ap (λ (x : List ℕ). flat_map frame_text (dealt streams frames k) ++ x) (append-nil (frame_text frame))
          ∙ ap (λ (x : List ℕ). x ++ frame_text frame) (sym (at_stream streams k frames d here))
          ∙ sym (ap (λ s. get_or (set before own (get_or before s d ++ frame_text frame)) k e) same
          ∙ ap (λ s. get_or (set before s (get_or before k d ++ frame_text frame)) k e) same
          ∙ get_or-set_same before k (get_or before k d ++ frame_text frame) e (omega (arith, len)))
      | inr other ↦
          ap (flat_map frame_text) (dealt-push_other streams k frames frame other)
          ∙ sym (at_stream streams k frames e here)
          ∙ sym (get_or-set_other before own k _ e (λ is. other (sym is)))
    ])

-- before any frame, however many streams there are
nothings : (first count : ℕ) → map (λ (stream : ℕ). nothing) (range_with_len first count) ≡ replicate count nothing
nothings first zero = refl
nothings first (suc count) = ap (λ (xs : List (List ℕ)). nothing ∷ xs) (nothings (first + 1) count)

pub streams_of-nil : (streams : ℕ) → streams_of streams [] ≡ replicate streams []
streams_of-nil streams = nothings 0 streams

-- ---- streams that are kept in `Vec`s

pub length_held : (streams : ℕ) (outs : List (Vec ℕ Global)) (frames : List PageFrame)
    → map (λ s. s.items) outs ≡ streams_of streams frames → length outs ≡ streams
length_held streams outs frames held =
    sym (length-map outs (λ (s : Vec ℕ Global). s.items)) ∙ ap length held
    ∙ length-map-range_with_len (λ s. flat_map frame_text (dealt streams frames s)) 0 streams

pub held-more : (streams i own : ℕ) (outs : List (Vec ℕ Global)) (before stream : Vec ℕ Global)
    (frames : List PageFrame) (frame : PageFrame) → 0 < streams → i < length frames
    → own ≡ i % streams → map (λ s. s.items) outs ≡ streams_of streams (take i frames) → frame ≡ get_or frames i frame
    → before ≡ get_or outs own before → stream.items ≡ before.items ++ frame_text frame
    → map (λ s. s.items) (set outs own stream) ≡ streams_of streams (take (i + 1) frames)
held-more streams i own outs before stream frames frame some low turn held is was added =
    let size : length outs ≡ streams = length_held streams outs (take i frames) held in
    let len : length (take i frames) ≡ i = length-take-le i frames (omega arith) in
    let within : own < length outs = let below = mod-lt i some in omega (arith, below) in
    let at_own : get_or (streams_of streams (take i frames)) own [] ≡ before.items =
    ap (λ (xs : List (List ℕ)). get_or xs own []) (sym held)
    ∙ get_or-map (λ (s : Vec ℕ Global). s.items) outs own before [] within
    ∙ ap (λ (s : Vec ℕ Global). s.items) (sym was) in
    let place : length (take i frames) % streams ≡ own = ap (λ n. n % streams) len ∙ sym turn in
    map-set (λ (s : Vec ℕ Global). s.items) outs own stream
    ∙ ap (λ (xs : List (List ℕ)). set xs own stream.items) held
    ∙ ap (λ (x : List ℕ). set (streams_of streams (take i frames)) own x)
    (added ∙ ap (λ (x : List ℕ). x ++ frame_text frame) (sym at_own))
    ∙ sym (ap (λ (fs : List PageFrame). streams_of streams fs)
    (take_more frames i frame low ∙ ap (λ (f : PageFrame). take i frames ++ f ∷ []) (sym is))
    ∙ streams_of-push streams (take i frames) frame [] some
    ∙ ap (λ n. set (streams_of streams (take i frames)) n (get_or (streams_of streams (take i frames)) n []
    ++ frame_text frame)) place)
