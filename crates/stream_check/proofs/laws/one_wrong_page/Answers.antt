use Rattle.stream_check.proofs.OneWrong.{one_page, none_behind}
use Rattle.stream_check.proofs.laws.one_wrong_page.Goals as goal

pub returns-clause-found : goal.returns-clause-found
returns-clause-found c = one_page

pub returns-clause-none : goal.returns-clause-none
returns-clause-none c = none_behind
