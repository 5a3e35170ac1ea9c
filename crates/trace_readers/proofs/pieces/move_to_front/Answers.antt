use Rattle.std.proofs.Common.{◌+◌, ◌-◌, ◌≡◌, ◌≤◌, ℕ, List, ap, drop, length, sym, take, arith, ◌∙◌}
use Rattle.std.specs.List.{copy_within}
use Rattle.std.proofs.lemmas.List.{drop-take, length-drop, take-take}
use Rattle.std.proofs.lemmas.List.Edits.{take-paste}
use Rattle.trace_readers.proofs.pieces.move_to_front.Goals as goal

moved : (items : List ℕ) (taken filled : ℕ) → taken ≤ filled → filled ≤ length items
    → take (filled - taken) (copy_within items taken filled 0) ≡ drop taken (take filled items)
moved items taken filled low high =
    let whole : taken + (filled - taken) ≡ filled = omega arith in
    let same : filled - taken ≡ 0 + (filled - taken) = omega arith in
    ap (λ n. take n (copy_within items taken filled 0)) same
    ∙ take-paste items 0 (drop taken items) (filled - taken) (omega arith) (omega (arith, length-drop taken items))
    ∙ sym (drop-take taken (filled - taken) items) ∙ ap (λ n. drop taken (take n items)) whole

pub returns-clause-kept : goal.returns-clause-kept
returns-clause-kept c =
    let n = c.args.filled - c.args.start in
    ap (take n) c.truncate.ensures.items ∙ take-take n 262144 c.copy_within.new.self.items
    (omega (arith, c.requires.few)) ∙ ap (take n) c.copy_within.ensures.items
    ∙ moved c.args.room.now.items c.args.start c.args.filled c.requires.order
    (omega (arith, c.requires.bound, c.args.room.now.ok.0))
