use Rattle.std.proofs.Common.{ℕ, List, [], ◌∷◌, ◌++◌, refl, sym, ap, subst, ◌∙◌, append_assoc, append-nil}
use Rattle.stream_receivers.specs.Held.{Accepts}
use Rattle.stream_receivers.proofs.Holding.{accepts_none, accepts_both}
use Rattle.stream_receivers.proofs.taking.accept_rest.Goals as goal

pub loop-buffer-init : goal.loop-buffer-init
loop-buffer-init c = record { texts = []; together = refl; accepts = accepts_none c.args.part.now c.args.refusal }

pub loop-buffer-preserved : goal.loop-buffer-preserved
loop-buffer-preserved c =
    let before = c.loop-buffer.invariant in
    let text = c.in-Some.buffer.items in
    let next : Accepts c.loop-buffer.part c.accept.new.part c.loop-buffer.refusal c.accept.new.refusal (text ∷ []) =
    c.accept.ensures in
    record {
      texts = before.texts ++ text ∷ [];
      together = append_assoc before.texts (text ∷ []) c.take.new.self
          ∙ ap (λ xs. before.texts ++ xs) (sym c.in-Some.ensures.next) ∙ before.together;
      accepts = accepts_both c.args.part.now c.loop-buffer.part c.accept.new.part c.args.refusal c.loop-buffer.refusal
          c.accept.new.refusal before.texts (text ∷ []) before.accepts next;
    }

pub returns : goal.returns
returns c =
    let before = c.loop-buffer.invariant in
    subst (λ (ts : List (List ℕ)). Accepts c.args.part.now c.loop-buffer.part c.args.refusal c.loop-buffer.refusal ts)
    (sym (append-nil before.texts) ∙ ap (λ xs. before.texts ++ xs) (sym c.in_default.ensures.none.0) ∙ before.together)
    before.accepts
