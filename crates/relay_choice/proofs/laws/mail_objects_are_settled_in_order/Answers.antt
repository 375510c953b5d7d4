use Rattle.relay_choice.proofs.SettlingLemmas.{settled_in_order, settled_all, settled_whole, none_left, some_left, told_most}
use Rattle.relay_choice.proofs.laws.mail_objects_are_settled_in_order.Goals as goal

pub returns-clause-order : goal.returns-clause-order
returns-clause-order c = settled_in_order

pub returns-clause-all : goal.returns-clause-all
returns-clause-all c = settled_all

pub returns-clause-whole : goal.returns-clause-whole
returns-clause-whole c = settled_whole

pub returns-clause-none_left : goal.returns-clause-none_left
returns-clause-none_left c = none_left

pub returns-clause-some_left : goal.returns-clause-some_left
returns-clause-some_left c = some_left

pub returns-clause-most : goal.returns-clause-most
returns-clause-most c = told_most
