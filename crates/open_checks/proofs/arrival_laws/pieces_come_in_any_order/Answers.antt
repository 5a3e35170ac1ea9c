use Rattle.open_checks.proofs.Arrivals.{all_right, cut_at_end, first_wrong, page_behind}
use Rattle.open_checks.proofs.arrival_laws.pieces_come_in_any_order.Goals as goal

pub returns-clause-right : goal.returns-clause-right
returns-clause-right c = all_right

pub returns-clause-behind : goal.returns-clause-behind
returns-clause-behind c = page_behind

pub returns-clause-wrong : goal.returns-clause-wrong
returns-clause-wrong c = first_wrong

pub returns-clause-cut : goal.returns-clause-cut
returns-clause-cut c = cut_at_end
