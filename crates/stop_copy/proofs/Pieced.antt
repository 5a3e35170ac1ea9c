-- Pieces of the marked pages, and the frames that were made from them.
use Rattle.std.proofs.Common.{◌≡◌, ℕ, suc, ◌<◌, List, [], ◌∷◌, ◌++◌, length, map, get_or, Result, Ok, IfOk, refl, sym}
use Rattle.std.proofs.Common.{ap, subst, ◌∙◌, append_assoc, arith}
use Rattle.std.specs.Global.{Vec}
use Rattle.std.specs.List.{flat_map}
use Rattle.std.proofs.lemmas.Grind.{flat_map-append}
use Rattle.std.proofs.lemmas.List.{append-nil, map-append}
use Rattle.std.proofs.lemmas.List.Elements.{All-append}
use Rattle.migration_model.specs.Frames.{PageFrame}
use Rattle.migration_model.specs.Trace.{GuestTrace}
use Rattle.stop_copy.specs.Copies.{AreCurrentFrames, IsCurrentFrame}
use Rattle.stop_copy.specs.Pieces.{AreMade, AreMadeOf}
use Rattle.stop_copy.specs.declared.error.CopyError.{CopyError}

abbrev pub MadeOne : Type 0
MadeOne = Result (Vec PageFrame) CopyError

-- one more piece was cut off
pub whole-next : {H : Type 0} (pages_of : H → List ℕ) (hs : List H) (h : H) (piece behind rest pages : List ℕ)
    → flat_map pages_of hs ++ rest ≡ pages
    → pages_of h ≡ piece → piece ++ behind ≡ rest → flat_map pages_of (hs ++ h ∷ []) ++ behind ≡ pages
whole-next {H} pages_of hs h piece behind rest pages whole own cut =
    ap (λ (l : List ℕ). l ++ behind) (flat_map-append pages_of hs (h ∷ [])
    ∙ ap (λ (l : List ℕ). flat_map pages_of hs ++ l) (append-nil (pages_of h) ∙ own))
    ∙ append_assoc (flat_map pages_of hs) piece behind ∙ ap (λ (l : List ℕ). flat_map pages_of hs ++ l) cut ∙ whole

flat-map : {H : Type 0} (pages_of : H → List ℕ) (hs : List H) → flat_map (λ (piece : List ℕ). piece) (map pages_of hs)
    ≡ flat_map pages_of hs
flat-map pages_of [] = refl
flat-map pages_of (h ∷ hs) = ap (λ (l : List ℕ). pages_of h ++ l) (flat-map pages_of hs)

pub AreMadeOf-from : {H : Type 0} (trace : GuestTrace) (versions pages : List ℕ) (pages_of : H → List ℕ) (hs : List H)
    (made : List MadeOne)
    → flat_map pages_of hs ≡ pages → AreMade trace versions (map pages_of hs) made → AreMadeOf trace versions pages made
AreMadeOf-from trace versions pages pages_of hs made whole each =
    record { pieces = map pages_of hs; whole = flat-map pages_of hs ∙ whole; each = each }

-- what each thread made, by the index of its piece
pub AreMade-from_each : {H : Type 0} (trace : GuestTrace) (versions : List ℕ) (pages_of : H → List ℕ) (hs : List H)
    (made : List MadeOne) → length made ≡ length hs
    → ((i : ℕ) (d : MadeOne) → i < length hs
    → (h : H) × (h ≡ get_or hs i h) × IfOk (get_or made i d)
    (λ frames. AreCurrentFrames trace versions (pages_of h) frames.items))
    → AreMade trace versions (map pages_of hs) made
AreMade-from_each trace versions pages_of [] [] len each = tt
AreMade-from_each trace versions pages_of [] (m ∷ ms) len each = absurd (omega (arith, len))
AreMade-from_each trace versions pages_of (h ∷ hs) [] len each = absurd (omega (arith, len))
AreMade-from_each {H} trace versions pages_of (h ∷ hs) (m ∷ ms) len each = (
  (let first = each 0 m (omega arith) in
      subst (λ (k : H). IfOk m (λ frames. AreCurrentFrames trace versions (pages_of k) frames.items)) first.1 first.2),
  AreMade-from_each trace versions pages_of hs ms (omega (arith, len)) (λ i d low. each (suc i) d (omega (arith, low))),
)

-- what was made from the first pieces was put together, and the rest is still to come
pub record AreJoined (trace : GuestTrace) (versions pages : List ℕ) (frames : List PageFrame)
    (rest : List MadeOne) : Type 0 where
  pub done : List ℕ
  pub left : List (List ℕ)
  pub whole : done ++ flat_map (λ (piece : List ℕ). piece) left ≡ pages
  pub frames_are : AreCurrentFrames trace versions done frames
  pub rest_is : AreMade trace versions left rest

pub AreJoined-first : (trace : GuestTrace) (versions pages : List ℕ) (made : List MadeOne)
    → AreMadeOf trace versions pages made → AreJoined trace versions pages [] made
AreJoined-first trace versions pages made are = record {
  done = [];
  left = are.pieces;
  whole = are.whole;
  frames_are = record { pages_are = refl; each = λ k d low. absurd (omega (arith, low)) };
  rest_is = are.each;
}

next-piece : (trace : GuestTrace) (versions pages done : List ℕ) (left : List (List ℕ)) (frames : List PageFrame)
    (piece : Vec PageFrame) (rest : List MadeOne)
    → done ++ flat_map (λ (piece : List ℕ). piece) left ≡ pages → AreCurrentFrames trace versions done frames
    → AreMade trace versions left (Ok piece ∷ rest)
    → AreJoined trace versions pages (frames ++ piece.items) rest
next-piece trace versions pages done [] frames piece rest whole before made = absurd made
next-piece trace versions pages done (p ∷ ps) frames piece rest whole before made = record {
  done = done ++ p;
  left = ps;
  whole = append_assoc done p (flat_map (λ (piece : List ℕ). piece) ps) ∙ whole;
  frames_are = record {
    pages_are = map-append (λ (f : PageFrame). f.page) frames piece.items
        ∙ (λ i. before.pages_are i ++ made.0.pages_are i);
    each = All-append (IsCurrentFrame trace versions) frames piece.items before.each made.0.each;
  };
  rest_is = made.1;
}

pub AreJoined-next : (trace : GuestTrace) (versions pages : List ℕ) (frames : List PageFrame) (piece : Vec PageFrame)
    (rest : List MadeOne)
    → AreJoined trace versions pages frames (Ok piece ∷ rest)
    → AreJoined trace versions pages (frames ++ piece.items) rest
AreJoined-next trace versions pages frames piece rest so_far =
    next-piece trace versions pages so_far.done so_far.left frames piece rest so_far.whole so_far.frames_are
    so_far.rest_is

nothing-left : (trace : GuestTrace) (versions : List ℕ) (left : List (List ℕ)) → AreMade trace versions left []
    → flat_map (λ (piece : List ℕ). piece) left ≡ []
nothing-left trace versions [] made = refl
nothing-left trace versions (p ∷ ps) made = absurd made

AreJoined-last : (trace : GuestTrace) (versions pages : List ℕ) (frames : List PageFrame)
    → AreJoined trace versions pages frames [] → AreCurrentFrames trace versions pages frames
AreJoined-last trace versions pages frames all =
    subst (λ (l : List ℕ). AreCurrentFrames trace versions l frames)
    (sym (append-nil all.done) ∙ ap (λ (l : List ℕ). all.done ++ l)
    (sym (nothing-left trace versions all.left all.rest_is)) ∙ all.whole) all.frames_are

pub AreJoined-end : (trace : GuestTrace) (versions pages : List ℕ) (frames : List PageFrame) (rest : List MadeOne)
    → length rest ≡ 0
    → AreJoined trace versions pages frames rest → AreCurrentFrames trace versions pages frames
AreJoined-end trace versions pages frames [] none all = AreJoined-last trace versions pages frames all
AreJoined-end trace versions pages frames (m ∷ ms) none all = absurd (omega (arith, none))
