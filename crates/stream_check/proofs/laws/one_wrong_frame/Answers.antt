use Rattle.stream_check.proofs.OneWrong.{one_taken, one_kept, one_found, one_left, none_wrong, right_not}
use Rattle.stream_check.proofs.laws.one_wrong_frame.Goals as goal

pub returns-clause-taken : goal.returns-clause-taken
returns-clause-taken c = one_taken

pub returns-clause-kept : goal.returns-clause-kept
returns-clause-kept c = one_kept

pub returns-clause-found : goal.returns-clause-found
returns-clause-found c = one_found

pub returns-clause-left : goal.returns-clause-left
returns-clause-left c = one_left

pub returns-clause-none : goal.returns-clause-none
returns-clause-none c = none_wrong

pub returns-clause-last : goal.returns-clause-last
returns-clause-last c = right_not
