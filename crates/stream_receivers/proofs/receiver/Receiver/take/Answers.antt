use Rattle.std.proofs.Common.{◌<◌, inl, inr, List, [], ◌∷◌, length, map, set, refl, sym, ap, subst, ◌∙◌, arith}
use Rattle.std.specs.List.{slice_get}
use Rattle.stream_lanes.specs.Ends.{InView, IsTakenFrom}
use Rattle.stream_receivers.specs.Held.{IsHeld, Accepts}
use Rattle.stream_receivers.specs.Receivers.{ReceiverView, receiver_with}
use Rattle.stream_receivers.proofs.Ends.{one_end}
use Rattle.stream_receivers.proofs.Had.{first_or_rest}
use Rattle.stream_receivers.proofs.Holding.{held_more}
use Rattle.stream_receivers.proofs.Stood.{unchanged, stood, none_seen}
use Rattle.stream_receivers.proofs.Taken.{taken_before, taken_cases, taken_here}
use Rattle.stream_receivers.proofs.receiver.Receiver.take.Goals as goal

pub invariant_of-self : goal.invariant_of-self
invariant_of-self c =
    let none = c.in_default.ensures.none in
    let same = unchanged c.self.inside.ends.items c.args.worker c.index_mut-end.result.now c.take.new.self
    c.index_mut-end.ensures.value c.in_default.ensures.lane none.0 none.1 none.2 in
    subst (λ (ends : List InView). IsHeld c.self.inside.part.shape (IsTakenFrom ends) c.self.inside.part
    c.self.inside.refusal) (sym same) c.self.invariant

pub returns-in_default-clause-lanes : goal.returns-in_default-clause-lanes
returns-in_default-clause-lanes c =
    let none = c.in_default.ensures.none in
    let same = unchanged c.self.inside.ends.items c.args.worker c.index_mut-end.result.now c.take.new.self
    c.index_mut-end.ensures.value c.in_default.ensures.lane none.0 none.1 none.2 in
    ap (λ (ends : List InView). map (λ (end : InView). end.lane) ends)
    (same ∙ ap (λ (r : ReceiverView). r.ends) c.self.view_is)

pub returns-in_default-clause-none : goal.returns-in_default-clause-none
returns-in_default-clause-none c e =
    let none = c.in_default.ensures.none in
    let same = unchanged c.self.inside.ends.items c.args.worker c.index_mut-end.result.now c.take.new.self
    c.index_mut-end.ensures.value c.in_default.ensures.lane none.0 none.1 none.2 in
    ap (λ (ends : List InView). receiver_with ends c.self.inside.part c.self.inside.refusal) same ∙ c.self.view_is

pub returns-in_default-clause-seen : goal.returns-in_default-clause-seen
returns-in_default-clause-seen c e end is =
    let ends_are = ap (λ (r : ReceiverView). r.ends) c.self.view_is in
    none_seen c.self.inside.ends.items c.args.worker c.index_mut-end.result.now end
    (let size = ap length ends_are in omega (arith, size, c.requires)) c.index_mut-end.ensures.value
    c.in_default.ensures.none.1 (ap (λ (ends : List InView). slice_get ends c.args.worker) ends_are ∙ is)

pub invariant_of-self-2 : goal.invariant_of-self-2
invariant_of-self-2 c =
    let ends = c.self.inside.ends.items in
    let worker = c.args.worker in
    let before = c.index_mut-end.result.now in
    let after = c.take.new.self in
    let there = c.index_mut-end.ensures.value in
    let text = c.in-Some.buffer.items in
    let grown = c.in-Some.ensures.taken in
    let size = ap (λ (r : ReceiverView). length r.ends) c.self.view_is in
    let low : worker < length ends = omega (arith, size, c.requires) in
    let part = c.self.inside.part in
    let new = c.accept-left.new.part in
    let result = c.accept-left.new.refusal in
    let accepts : Accepts part new c.self.inside.refusal result (text ∷ []) = c.accept-left.ensures in
    let held = held_more part.shape (IsTakenFrom ends) (IsTakenFrom (set ends worker after)) part new
    c.self.inside.refusal result (text ∷ []) refl
    (taken_before ends worker before after text low there grown)
    (λ t a. elim (taken_cases ends worker before after text low there grown t a) [
      | inl earlier ↦ inl earlier
      | inr last
          ↦ inr (0, omega arith, sym last)
    ])
    (λ t c. elim (first_or_rest text t [] c) [
      | inl here ↦ subst (IsTakenFrom (set ends worker after)) here (taken_here ends worker before after text low grown)
      | inr none ↦ absurd (omega (arith, none.1))
    ])
    accepts c.self.invariant in
    rw c.give_back.ensures (subst (λ s. IsHeld s (IsTakenFrom (set ends worker after)) new result) (sym accepts.shape)
    held)

pub returns-clause-lanes : goal.returns-clause-lanes
returns-clause-lanes c =
    let ends_are = ap (λ (r : ReceiverView). r.ends) c.self.view_is in
    rw c.give_back.ensures (one_end (λ (end : InView). end.lane) c.self.inside.ends.items c.args.worker
    c.index_mut-end.result.now c.take.new.self (let size = ap length ends_are in omega (arith, size, c.requires))
    c.index_mut-end.ensures.value c.in-Some.ensures.lane)
    ∙ ap (λ (ends : List InView). map (λ (end : InView). end.lane) ends) ends_are

pub returns-clause-some : goal.returns-clause-some
returns-clause-some c e =
    let ends_are = ap (λ (r : ReceiverView). r.ends) c.self.view_is in
    let size = ap length ends_are in
    record {
      before = c.index_mut-end.result.now;
      after = c.take.new.self;
      text = c.in-Some.buffer.items;
      was = ap (λ (ends : List InView). slice_get ends c.args.worker) (sym ends_are)
          ∙ stood c.self.inside.ends.items c.args.worker c.index_mut-end.result.now (omega (arith, size, c.requires))
          c.index_mut-end.ensures.value;
      is = rw c.give_back.ensures (ap (λ (ends : List InView). set ends c.args.worker c.take.new.self) ends_are);
      lane = c.in-Some.ensures.lane;
      taken = c.in-Some.ensures.taken;
      seen = c.in-Some.ensures.seen;
    }
