use Rattle.relay_choice.proofs.SettlingLemmas.{sent_by_plan, header_by_offer}
use Rattle.relay_choice.proofs.laws.messages_go_by_plan.Goals as goal

pub returns-clause-sent : goal.returns-clause-sent
returns-clause-sent c = sent_by_plan

pub returns-clause-header : goal.returns-clause-header
returns-clause-header c = header_by_offer
