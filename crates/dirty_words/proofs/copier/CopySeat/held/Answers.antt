use Rattle.std.proofs.Common.{◌≡◌, ◌<◌, length, get_or, bit_and, sym, ap, subst, ◌∙◌, arith}
use Rattle.std.proofs.lemmas.List.{get_or_default}
use Rattle.dirty_words.specs.Facts.{CopyFacts, OwnsWord, CopyFits}
use Rattle.dirty_words.specs.Invariants.{copy_facts}
use Rattle.dirty_words.proofs.Steps.{own_word_low}
use Rattle.dirty_words.proofs.Changes.{within_held}
use Rattle.dirty_words.proofs.copier.CopySeat.held.Goals as goal

pub returns-clause-within : goal.returns-clause-within
returns-clause-within c bits fits all =
    let facts : CopyFacts = copy_facts c.self.inside in
    let e : facts ≡ c.args.self.now.facts = ap (λ g. g.facts) c.self.view_is in
    let owns : OwnsWord facts c.args.word = subst (λ f. OwnsWord f c.args.word) (sym e) c.requires in
    let low : c.args.word < length facts.start.dirty = own_word_low facts c.args.word c.self.invariant.is_start owns in
    let kept : CopyFits facts = c.self.invariant.fits in
    let within : c.args.word < length c.self.inside.held.items = let n = kept.held_words in let m =
    ap length c.self.invariant.held in omega arith in
    let is : c.index.result.now ≡ get_or c.args.self.now.facts.held c.args.word 0 =
    c.index.ensures ∙ get_or_default c.self.inside.held.items c.args.word c.index.result.now 0 within
    ∙ ap (λ ws. get_or ws c.args.word 0) (c.self.invariant.held ∙ ap (λ f. f.held) e) in
    within_held c.args.self.now.facts c.args.word bits fits (ap (λ n. bit_and n bits) (sym is) ∙ all)
