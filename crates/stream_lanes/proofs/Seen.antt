-- Frames that an end has seen.
use Rattle.std.proofs.Common.{Vec, Global, ◌≡◌, ℕ, List, ◌∷◌, sym, ap, ◌∙◌}
use mathlib.Core.List.{IsPrefix}
use Rattle.std.proofs.lemmas.List.{map-append}
use Rattle.stream_lanes.specs.Ends.{Begins}
use Rattle.stream_lanes.specs.Rings.{frames_of}

-- what was seen begins with the next frame
pub begins_with_next : (seen all : List (Vec ℕ Global)) (next : Vec ℕ Global) (later : List (Vec ℕ Global))
    → IsPrefix seen all → all ≡ next ∷ later
    → Begins (frames_of seen) (next.items ∷ frames_of later)
begins_with_next seen all next later begins is = record {
  later = frames_of begins.0;
  is = sym (map-append (λ frame. frame.items) seen begins.0)
      ∙ ap (λ (frames : List (Vec ℕ Global)). frames_of frames) (begins.1 ∙ is);
}
