use Rattle.std.proofs.Common.{◌≡◌, [], ap, ◌∙◌}
use Rattle.dirty_core.specs.Machine.{Visits}
use Rattle.dirty_words.specs.Pairs.{with_read}
use Rattle.dirty_words.proofs.Pairing.{UnmarkedIsRead-pair}
use Rattle.memory_rows.proofs.rows.word.round_of_one_page.Goals as goal

pub returns : goal.returns
returns c =
    let nothing : c.in_ok-table.field-0.copier.facts.reads ≡ [] =
    ap (λ k. k.facts.reads) c.in_ok-table.ensures.copier_is in
    UnmarkedIsRead-pair c.in_ok-table.field-0.table.start c.args.opening c.mark_page-marked.new.guest.facts
    c.restore_pages.new.copier.facts
    c.in_ok-closed.closed c.args.page c.read_page-read.result c.in_ok-table.ensures.start_is
    (c.restore_pages.ensures.reads ∙ c.read_page-read.ensures.reads
    ∙ ap (λ (v : Visits). with_read c.args.page c.read_page-read.result v) (c.harvest_word.ensures.reads ∙ nothing))
    c.in_ok-closed.ensures
