use Rattle.std.proofs.Common.{◌≡◌, ℕ, ◌<◌, ◌++◌, List, length, get_or, set, inl, inr, refl, sym, ap, subst, ◌∙◌, arith}
use Rattle.std.specs.List.{All}
use Rattle.std.specs.Vec.Iter.{into_iter_items}
use Rattle.std.proofs.lemmas.Bool.{cases_eq}
use Rattle.std.proofs.lemmas.List.{get_or-set_same, get_or-set_other, length-set}
use Rattle.std.proofs.lemmas.List.Elements.{All-same, All-head, All-tail}
use Rattle.migration_model.specs.Frames.{GuestShape, IsFrame, PageFrame}
use Rattle.migration_model.specs.Parts.{GuestPart}
use Rattle.stream_split.specs.Deals.{Turn}
use Rattle.stop_copy.specs.Copies.{after_dealing}
use Rattle.stop_copy.proofs.Dealt.{dealt-step}
use Rattle.stop_copy.proofs.dealing.deal_out.Goals as goal

pub loop-frame-init : goal.loop-frame-init
loop-frame-init c =
    let items = c.into_iter-frame-iterator.ensures.into_iter_gives.0 in
    record {
      streams = refl;
      count = refl;
      fit = λ k d low. All-same (IsFrame _) (into_iter_items c.into_iter-frame-iterator.result) c.args.frames.items
          items (c.requires.fit k d low);
      dealt = λ rest. ap (λ (l : List PageFrame). after_dealing c.args.dealer.now.next c.args.parts.now.items
          (l ++ rest)) items;
    }

pub accept-requires : goal.accept-requires
accept-requires c =
    let before = c.loop-frame.invariant in
    let items = c.in-Some.ensures.steps.0 in
    let own = c.deal-stream.result in
    let part = c.index_mut.result.now in
    let within : own < length c.loop-frame.parts.items = omega
    (arith, c.deal-stream.ensures.within, before.streams, before.count, c.requires.streams) in
    subst (λ (p : GuestPart). IsFrame p.shape c.in-Some.frame) (sym c.index_mut.ensures.value)
    (All-head (IsFrame _) c.in-Some.frame (into_iter_items c.next.new.self) (rw items at (before.fit own part within)))

pub loop-frame-preserved : goal.loop-frame-preserved
loop-frame-preserved c =
    let before = c.loop-frame.invariant in
    let items = c.in-Some.ensures.steps.0 in
    let parts = c.loop-frame.parts.items in
    let own = c.deal-stream.result in
    let part = c.index_mut.result.now in
    let new = c.accept.new.self in
    let kept = c.in_ok-accept.ensures.kept in
    let within : own < length parts = omega (
      arith,
      c.deal-stream.ensures.within,
      before.streams,
      before.count,
      c.requires.streams,
    ) in
    let same : c.loop-frame.dealer.streams ≡ length parts = omega
    (arith, before.streams, before.count, c.requires.streams) in
    let tails : (k : ℕ) (d : GuestPart) → k < length parts
    → All (IsFrame (get_or parts k d).shape) (into_iter_items c.next.new.self) =
    λ k d low. All-tail (IsFrame (get_or parts k d).shape) c.in-Some.frame (into_iter_items c.next.new.self)
    (rw items at (before.fit k d low)) in
    record {
      streams = ap (λ (t : Turn). t.streams) c.deal-stream.ensures.turn ∙ before.streams;
      count = length-set parts own new ∙ before.count;
      fit = λ k d low. elim (cases_eq k own) [
        | inl here ↦
            let shape : new.shape ≡ (get_or parts own part).shape = ap (λ (p : GuestPart). p.shape) kept
            ∙ ap (λ (p : GuestPart). p.shape) c.index_mut.ensures.value in
            subst (λ (p : GuestPart). All (IsFrame p.shape) (into_iter_items c.next.new.self))
            (sym (ap (λ i. get_or (set parts own new) i d) here ∙ get_or-set_same parts own new d within))
            (subst (λ (s : GuestShape). All (IsFrame s) (into_iter_items c.next.new.self)) (sym shape)
            (tails own part within))
        | inr apart ↦
            subst (λ (p : GuestPart). All (IsFrame p.shape) (into_iter_items c.next.new.self))
            (sym (get_or-set_other parts own k new d apart))
            (tails k d (omega (arith, low, length-set parts own new)))
      ];
      dealt = λ rest.
          dealt-step c.loop-frame.dealer.next c.loop-frame.dealer.streams own c.deal-stream.new.self.next parts part new
          c.in-Some.frame (into_iter_items c.next.new.self ++ rest)
          same c.deal-stream.ensures.next (ap (λ (t : Turn). t.next) c.deal-stream.ensures.turn) within
          c.index_mut.ensures.value kept
          ∙ sym (ap (λ (l : List PageFrame). after_dealing c.loop-frame.dealer.next parts (l ++ rest)) items)
          ∙ before.dealt rest;
    }
