-- Pieces of the marked pages, and what threads made from them.
use Rattle.std.specs.Prelude.{◌≡◌, ℕ, List, [], ◌∷◌, IfOk, ⊤, Result}
use Rattle.std.specs.Global.{Vec}
use Rattle.std.specs.List.{flat_map}
use Rattle.migration_model.specs.Frames.{PageFrame}
use Rattle.migration_model.specs.Trace.{GuestTrace}
use Rattle.stop_copy.specs.Copies.{AreCurrentFrames}
use Rattle.stop_copy.specs.declared.error.CopyError.{CopyError}

-- for each piece of the pages the current frames were made, or making them was refused
abbrev pub AreMade : GuestTrace → List ℕ → List (List ℕ) → List (Result (Vec PageFrame) CopyError) → Type 0
AreMade trace versions [] [] = ⊤
AreMade trace versions (pages ∷ pieces) (made ∷ rest) = IfOk made
    (λ frames. AreCurrentFrames trace versions pages frames.items) × AreMade trace versions pieces rest
AreMade trace versions [] (made ∷ rest) = ⊥
AreMade trace versions (pages ∷ pieces) [] = ⊥

-- the pages were cut into pieces, and the current frames of each piece were made, or making them was refused
pub record AreMadeOf (trace : GuestTrace) (versions pages : List ℕ)
    (made : List (Result (Vec PageFrame) CopyError)) : Type 0 where
  pub pieces : List (List ℕ)
  pub whole : flat_map (λ piece. piece) pieces ≡ pages
  pub each : AreMade trace versions pieces made
