use Rattle.migration_model.proofs.Current.{current_whole, current_page, current_size, current_before}
use Rattle.migration_model.proofs.current_copies_make_memory.Goals as goal

pub returns-clause-whole : goal.returns-clause-whole
returns-clause-whole c = current_whole

pub returns-clause-pages : goal.returns-clause-pages
returns-clause-pages c = current_page

pub returns-clause-before : goal.returns-clause-before
returns-clause-before c = current_before

pub returns-clause-size : goal.returns-clause-size
returns-clause-size c = current_size
