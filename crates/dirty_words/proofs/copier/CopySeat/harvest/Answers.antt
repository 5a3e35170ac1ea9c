use Rattle.std.proofs.Common.{bit_or, refl, ap}
use Rattle.dirty_words.specs.Facts.{CopyFacts, after_harvest}
use Rattle.dirty_words.specs.Plays.{copier_in}
use Rattle.dirty_words.specs.Invariants.{copy_facts}
use Rattle.dirty_words.proofs.Kept.{CopyFits-harvest, IsCopySeat-after, held_word}
use Rattle.dirty_words.proofs.Calls.{copy_call, has_word, harvest_asks, harvested}
use Rattle.dirty_words.proofs.copier.CopySeat.harvest.Goals as goal

pub swap-bits-requires : goal.swap-bits-requires
swap-bits-requires c =
    let call = copy_call c.self.view_is c.self.invariant c.table.view_is c.table.invariant c.requires.table in
    harvest_asks call c.args.word c.requires.own

pub invariant_of-self : goal.invariant_of-self
invariant_of-self c =
    let call = copy_call c.self.view_is c.self.invariant c.table.view_is c.table.invariant c.requires.table in
    let seat = c.self.inside in
    let facts : CopyFacts = copy_facts seat in
    let has = has_word call c.args.word c.requires.own in
    IsCopySeat-after seat _ (after_harvest c.args.word c.swap-bits.result facts) c.self.invariant
    c.swap-bits.ensures.2.0 refl refl
    (held_word (λ x. bit_or x c.swap-bits.result) seat.held.items facts.held c.args.word c.index_mut.result.now
    c.self.invariant.held has.within c.index_mut.ensures.value)
    refl refl
    (CopyFits-harvest facts c.args.word c.swap-bits.result c.self.invariant.fits has.owns has.real
    c.swap-bits.ensures.2.1)

pub returns-clause-held : goal.returns-clause-held
returns-clause-held c =
    let call = copy_call c.self.view_is c.self.invariant c.table.view_is c.table.invariant c.requires.table in
    (harvested call (copier_in c.swap-bits.new.seat.me.0) c.args.word c.swap-bits.result c.requires.own
    (ap (λ m. copier_in m.0) c.swap-bits.ensures.2.0)).0

pub returns-clause-returned : goal.returns-clause-returned
returns-clause-returned c =
    let call = copy_call c.self.view_is c.self.invariant c.table.view_is c.table.invariant c.requires.table in
    (harvested call (copier_in c.swap-bits.new.seat.me.0) c.args.word c.swap-bits.result c.requires.own
    (ap (λ m. copier_in m.0) c.swap-bits.ensures.2.0)).1

pub returns-clause-fresh : goal.returns-clause-fresh
returns-clause-fresh c =
    let call = copy_call c.self.view_is c.self.invariant c.table.view_is c.table.invariant c.requires.table in
    (harvested call (copier_in c.swap-bits.new.seat.me.0) c.args.word c.swap-bits.result c.requires.own
    (ap (λ m. copier_in m.0) c.swap-bits.ensures.2.0)).2
