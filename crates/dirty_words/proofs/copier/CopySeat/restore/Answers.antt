use Rattle.std.proofs.Common.{◌-◌, bit_and, refl, ap, arith}
use Rattle.dirty_words.specs.Facts.{CopyFacts, after_restore}
use Rattle.dirty_words.specs.Plays.{copier_in}
use Rattle.dirty_words.specs.Invariants.{copy_facts}
use Rattle.dirty_words.proofs.Kept.{CopyFits-restore, IsCopySeat-after, held_word}
use Rattle.dirty_words.proofs.Calls.{copy_call, has_word, restore_asks, restored}
use Rattle.dirty_words.proofs.copier.CopySeat.restore.Goals as goal

pub fetch_or-requires : goal.fetch_or-requires
fetch_or-requires c =
    let call = copy_call c.self.view_is c.self.invariant c.table.view_is c.table.invariant c.requires.table in
    restore_asks call c.args.word c.args.bits c.requires.own (omega arith) c.requires.held

pub invariant_of-self : goal.invariant_of-self
invariant_of-self c =
    let call = copy_call c.self.view_is c.self.invariant c.table.view_is c.table.invariant c.requires.table in
    let seat = c.self.inside in
    let facts : CopyFacts = copy_facts seat in
    let has = has_word call c.args.word c.requires.own in
    IsCopySeat-after seat _ (after_restore c.args.word c.args.bits facts) c.self.invariant c.fetch_or.ensures.2 refl
    refl
    (held_word (λ x. bit_and x (18_446_744_073_709_551_615 - c.args.bits)) seat.held.items facts.held c.args.word
    c.index_mut.result.now c.self.invariant.held has.within c.index_mut.ensures.value)
    refl refl (CopyFits-restore facts c.args.word c.args.bits c.self.invariant.fits has.real (omega arith))

pub returns-clause-held : goal.returns-clause-held
returns-clause-held c =
    let call = copy_call c.self.view_is c.self.invariant c.table.view_is c.table.invariant c.requires.table in
    (restored call (copier_in c.fetch_or.new.seat.me.0) c.args.word c.args.bits c.requires.own (omega arith)
    (ap (λ m. copier_in m.0) c.fetch_or.ensures.2)).0

pub returns-clause-returned : goal.returns-clause-returned
returns-clause-returned c =
    let call = copy_call c.self.view_is c.self.invariant c.table.view_is c.table.invariant c.requires.table in
    (restored call (copier_in c.fetch_or.new.seat.me.0) c.args.word c.args.bits c.requires.own (omega arith)
    (ap (λ m. copier_in m.0) c.fetch_or.ensures.2)).1
