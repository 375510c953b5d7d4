use Rattle.std.proofs.Common.{◌≡◌, ◌++◌, map, drop}
use Rattle.relay_choice.specs.Relay.{merged, plan_of, outcome_by}
use Rattle.relay_choice.proofs.outcomes.outcomes_of.Given as goal

abbrev pub invariant-loop-recipient : goal.invariant-loop-recipient
invariant-loop-recipient l = merged (map (plan_of l.offer l.mail_object) l.mail_object.recipients) (map (outcome_by l.code) l.answers)
    ≡ l.outcomes ++ merged (map (plan_of l.offer l.mail_object) (drop l.recipient-index l.mail_object.recipients)) (map (outcome_by l.code) l.rest)
