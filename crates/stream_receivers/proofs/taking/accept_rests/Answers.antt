use Rattle.std.proofs.Common.{◌≡◌, ◌⊎◌, inl, inr, List, [], ◌∷◌, ◌++◌, length, map, refl, sym, ap, subst, ◌∙◌}
use Rattle.std.proofs.Common.{append_assoc, append-nil, arith}
use Rattle.std.specs.Prelude.{Option, Some, None, IfSome}
use Rattle.std.specs.List.{slice_get}
use Rattle.std.specs.Iterator.Adapters.{zip_first, zip_second}
use Rattle.std.specs.Vec.Iter.{into_iter_items}
use Rattle.std.proofs.lemmas.List.{map-append}
use Rattle.stream_lanes.specs.Ends.{OutView, InView, IsSentOn, IsTakenFrom}
use Rattle.stream_receivers.specs.Held.{IsHeld}
use Rattle.stream_receivers.specs.Receivers.{AreEnds}
use Rattle.stream_receivers.specs.declared.error.ReceiverError.{ReceiverError}
use Rattle.stream_receivers.proofs.Holding.{held_more, held_same, both_kept}
use Rattle.stream_receivers.proofs.Taken.{IsCome, come_before, come_cases, come_rest, ends_rest, both_done}
use Rattle.stream_receivers.proofs.taking.accept_rests.Goals as goal

kept_first : (refusal : Option ReceiverError) → IfSome refusal (λ e. refusal ≡ Some e)
kept_first None = tt
kept_first (Some e) = refl

pub loop-out-init : goal.loop-out-init
loop-out-init c =
    let is = c.into_iter-out-iterator.ensures.into_iter_gives in
    let first = c.zip-out-items.ensures.first in
    let second = c.zip-out-items.ensures.second in
    let outs : into_iter_items (zip_first c.into_iter-out-iterator.result)
    ≡ c.args.outs.items = cc (is, first, c.into_iter.ensures.rest) in
    let ends : into_iter_items (zip_second c.into_iter-out-iterator.result) ≡ c.args.ends.items = cc (is, second.0) in
    record {
      all = outs;
      ends = subst (λ (xs : List OutView). AreEnds xs (into_iter_items (zip_second c.into_iter-out-iterator.result)))
          (sym outs)
          (subst (AreEnds c.args.outs.items) (sym ends) c.requires.ends);
      shape = refl;
      kept = kept_first c.args.refusal;
      held = subst (λ (xs : List InView). IsHeld c.args.part.now.shape (IsCome [] xs) c.args.part.now c.args.refusal)
          (sym ends)
          (held_same c.args.part.now.shape (IsTakenFrom c.args.ends.items) (IsCome [] c.args.ends.items) c.args.part.now
          c.args.refusal (λ t taken. inr taken)
          (λ t come. elim come [ inl none ↦ absurd (omega (arith, none.2)) | inr taken ↦ taken ]) c.requires.held);
    }

pub drain-rest-requires : goal.drain-rest-requires
drain-rest-requires c =
    c.loop-out.invariant.ends.each 0 c.in-Some.out c.in-Some.end
    (ap (λ (xs : List OutView). slice_get xs 0) c.in-Some.ensures.steps.0.0)
    (ap (λ (xs : List InView). slice_get xs 0) c.in-Some.ensures.steps.1.0)

pub loop-out-preserved : goal.loop-out-preserved
loop-out-preserved c =
    let before = c.loop-out.invariant in
    let out = c.in-Some.out in
    let end = c.in-Some.end in
    let front : List OutView = map (λ (p : OutView × InView). p.0) c.loop-out.yielded in
    let outs : List OutView = into_iter_items (zip_first c.next.new.self) in
    let ends : List InView = into_iter_items (zip_second c.next.new.self) in
    let outs_are = c.in-Some.ensures.steps.0.0 in
    let ends_are = c.in-Some.ensures.steps.1.0 in
    let shape = c.args.part.now.shape in
    let grown : map (λ (p : OutView × InView). p.0) (c.loop-out.yielded ++ (out, end) ∷ []) ≡ front ++ out ∷ [] =
    map-append (λ (p : OutView × InView). p.0) c.loop-out.yielded ((out, end) ∷ []) in
    record {
      all = ap (λ xs. xs ++ outs) grown ∙ append_assoc front (out ∷ []) outs ∙ ap (λ xs. front ++ xs) (sym outs_are)
          ∙ before.all;
      ends = ends_rest (into_iter_items (zip_first c.loop-out.out-iterator)) outs
          (into_iter_items (zip_second c.loop-out.out-iterator)) ends out end outs_are ends_are before.ends;
      shape = c.accept_rest-refusal.ensures.shape ∙ before.shape;
      kept = both_kept c.args.refusal c.loop-out.refusal c.accept_rest-refusal.result before.kept
          c.accept_rest-refusal.ensures.kept;
      held = subst (λ (xs : List OutView). IsHeld shape (IsCome xs ends) c.accept_rest-refusal.new.part
          c.accept_rest-refusal.result) (sym grown)
          (held_more shape (IsCome front (end ∷ ends)) (IsCome (front ++ out ∷ []) ends) c.loop-out.part
          c.accept_rest-refusal.new.part c.loop-out.refusal c.accept_rest-refusal.result c.drain-rest.result
          before.shape (come_before front out end ends c.drain-rest.result c.drain-rest.ensures)
          (come_cases front out end ends c.drain-rest.result c.drain-rest.ensures)
          (come_rest front out end ends c.drain-rest.result c.drain-rest.ensures) c.accept_rest-refusal.ensures
          (subst (λ (xs : List InView). IsHeld shape (IsCome front xs) c.loop-out.part c.loop-out.refusal) ends_are
          before.held));
    }

pub returns-clause-held : goal.returns-clause-held
returns-clause-held c =
    let before = c.loop-out.invariant in
    let front : List OutView = map (λ (p : OutView × InView). p.0) c.loop-out.yielded in
    let first = zip_first c.loop-out.out-iterator in
    let second = zip_second c.loop-out.out-iterator in
    let outs : List OutView = into_iter_items first in
    let ends : List InView = into_iter_items second in
    let none : (length outs ≡ 0) ⊎ (length ends ≡ 0) = elim c.in-None.ensures.steps [
      | inl one ↦ inl (sym first.rest.ok.0 ∙ one.1.0)
      | inr other ↦ inr (sym second.rest.ok.0 ∙ other.1.0)
    ] in
    let done = both_done outs ends before.ends none in
    let all : front ≡ c.args.outs.items = sym (append-nil front) ∙ ap (λ xs. front ++ xs) (sym done.0) ∙ before.all in
    held_same c.args.part.now.shape (IsCome front ends) (IsSentOn c.args.outs.items) c.loop-out.part c.loop-out.refusal
    (λ t come. elim come [
      | inl sent ↦ subst (λ (xs : List OutView). IsSentOn xs t) all sent
      | inr taken ↦ let none : IsTakenFrom [] t = subst (λ (xs : List InView). IsTakenFrom xs t) done.1 taken in absurd
          (omega (arith, none.2))
    ]) (λ t sent. inl (subst (λ (xs : List OutView). IsSentOn xs t) (sym all) sent)) before.held
