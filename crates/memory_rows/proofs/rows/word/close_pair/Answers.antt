use Rattle.dirty_words.proofs.Pairing.{UnmarkedWasRead-pair}
use Rattle.memory_rows.proofs.rows.word.close_pair.Goals as goal

pub returns : goal.returns
returns c = UnmarkedWasRead-pair c.args.table.start _ _ c.args.guest c.args.copier c.close.result c.requires.one_guest
    c.requires.one_copier
    c.in_ok-guests.ensures c.in_ok-copiers.ensures c.close.ensures.pages
