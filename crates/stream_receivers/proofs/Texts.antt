-- Texts that came to a part, one after another.
use Rattle.std.proofs.Common.{◌≡◌, ℕ, List, [], ◌∷◌, ◌++◌, map, refl, sym, ap, subst, ◌∙◌}
use Rattle.std.specs.List.{All}
use Rattle.std.proofs.lemmas.List.{map-append}
use Rattle.std.proofs.lemmas.List.Elements.{All-nil, All-push, All-append}
use Rattle.std.proofs.lemmas.List.Sums.{fold-append}
use Rattle.migration_model.specs.Frames.{GuestShape, IsFrame, frame_text}
use Rattle.migration_model.specs.Parts.{GuestPart, with_frame, with_frames}
use Rattle.stream_receivers.specs.Texts.{TakesText, TakesTexts}
use Rattle.collector.proofs.Taken.{shape-with_frames}

pub texts_none : (part : GuestPart) → TakesTexts part part []
texts_none part = record { frames = []; are_frames = All-nil (IsFrame part.shape); spelled = refl; part = refl }

pub texts_one : (old new : GuestPart) (text : List ℕ) → TakesText old new text → TakesTexts old new (text ∷ [])
texts_one old new text takes = record {
  frames = takes.frame ∷ [];
  are_frames = All-push (IsFrame old.shape) [] takes.frame (All-nil (IsFrame old.shape)) takes.spells.is_frame;
  spelled = ap (λ (t : List ℕ). t ∷ []) takes.spells.text;
  part = takes.part;
}

pub texts_both : (old mid new : GuestPart) (first second : List (List ℕ)) → TakesTexts old mid first
    → TakesTexts mid new second → TakesTexts old new (first ++ second)
texts_both old mid new first second one two =
    let shape : mid.shape ≡ old.shape = ap (λ (p : GuestPart). p.shape) one.part ∙ shape-with_frames old one.frames in
    record {
      frames = one.frames ++ two.frames;
      are_frames = All-append (IsFrame old.shape) one.frames two.frames one.are_frames
          (subst (λ (s : GuestShape). All (IsFrame s) two.frames) shape two.are_frames);
      spelled = ap (λ xs. xs ++ second) one.spelled ∙ ap (λ xs. map frame_text one.frames ++ xs) two.spelled
          ∙ sym (map-append frame_text one.frames two.frames);
      part = two.part ∙ ap (λ (p : GuestPart). with_frames p two.frames) one.part
          ∙ sym (fold-append with_frame old one.frames two.frames);
    }
