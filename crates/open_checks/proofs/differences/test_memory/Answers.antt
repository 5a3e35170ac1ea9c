use Rattle.std.proofs.Common.{◌≡◌, ◌<◌, ◌+◌, ◌*◌, ◌^◌, ℕ, List, ap, drop, length, subst, take, ◌∙◌, arith}
use Rattle.std.specs.Prelude.{slice_index}
use Rattle.migration_model.proofs.Pages.{length-page_at}
use Rattle.open_checks.specs.Differences.{IsLastTo}
use Rattle.open_checks.proofs.WrongBytes.{first_wrong, same_all, same_page}
use Rattle.open_checks.proofs.differences.test_memory.Goals as goal

pub returns-in-Some-clause-wrong : goal.returns-in-Some-clause-wrong
returns-in-Some-clause-wrong c =
    let trace = c.args.trace.now in
    let at = c.loop-page in
    let count = c.args.count in
    let memory : List ℕ = c.args.memory.now in
    let page : ℕ = at.page in
    let index : ℕ = c.in-Some.index in
    let size : ℕ = c.page_size-size.result in
    let content : List ℕ = c.split_at-in-loop-page.result.0.now in
    let found = c.wrong_byte.result in
    let is = c.shape-shape.ensures.is_trace in
    let size_is : size ≡ 2 ^ trace.shift =
    c.page_size-size.ensures ∙ ap (λ (s : ℕ). 2 ^ s) c.shape-shape.ensures.shift in
    let inside : page < trace.pages = omega (arith, c.loop-page-test.true, c.shape-shape.ensures.pages) in
    let content_is : content ≡ take (2 ^ trace.shift) (drop (page * 2 ^ trace.shift) memory) =
    c.split_at-in-loop-page.ensures.front ∙ ap (take size) c.split_at.ensures.back
    ∙ (λ i. take (size_is i) (drop (page * size_is i) memory)) in
    let low : index < 2 ^ trace.shift =
    omega (arith, c.in-Some.ensures.within, c.split_at-in-loop-page.ensures.front_len, size_is) in
    first_wrong trace count page index memory content c.put_page.new.content found is inside c.requires.memory
    at.invariant.same content_is c.put_page.ensures low c.in-Some.ensures.first c.in-Some.ensures.other
    (c.wrong_byte.ensures.offset ∙ ap (λ (s : ℕ). page * s + index) size_is) c.wrong_byte.ensures.page
    c.wrong_byte.ensures.version
    (subst (λ (s : ℕ). IsLastTo trace count (page * s + index) found.place) size_is c.wrong_byte.ensures.place)
    c.wrong_byte.ensures.tick

pub returns-in-Some-clause-only : goal.returns-in-Some-clause-only
returns-in-Some-clause-only c same =
    let found = returns-in-Some-clause-wrong c in
    absurd (found.wrong (ap (λ (l : List ℕ). slice_index l c.wrong_byte.result.offset) same))

pub loop-page-preserved : goal.loop-page-preserved
loop-page-preserved c =
    let trace = c.args.trace.now in
    let at = c.loop-page in
    let memory : List ℕ = c.args.memory.now in
    let page : ℕ = at.page in
    let size : ℕ = c.page_size-size.result in
    let content : List ℕ = c.split_at-in-loop-page.result.0.now in
    let is = c.shape-shape.ensures.is_trace in
    let size_is : size ≡ 2 ^ trace.shift =
    c.page_size-size.ensures ∙ ap (λ (s : ℕ). 2 ^ s) c.shape-shape.ensures.shift in
    let inside : page < trace.pages = omega (arith, c.loop-page-test.true, c.shape-shape.ensures.pages) in
    let content_is : content ≡ take (2 ^ trace.shift) (drop (page * 2 ^ trace.shift) memory) =
    c.split_at-in-loop-page.ensures.front ∙ ap (take size) c.split_at.ensures.back
    ∙ (λ i. take (size_is i) (drop (page * size_is i) memory)) in
    record {
      room = ap length c.put_page.ensures ∙ length-page_at trace page c.args.count is inside;
      same = same_page trace c.args.count page memory content c.put_page.new.content is inside at.invariant.same
          content_is c.put_page.ensures (c.first_other.ensures.same c.in_default.is);
    }

pub returns-clause-same : goal.returns-clause-same
returns-clause-same c =
    let at = c.loop-page in
    same_all c.args.trace.now c.args.count at.page c.args.memory.now c.shape-shape.ensures.is_trace c.requires.memory
    (omega (arith, c.loop-page-test.false, at.auto.page-end, c.shape-shape.ensures.pages)) at.invariant.same
