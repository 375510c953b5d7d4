use Rattle.std.proofs.Common.{ap, ◌∙◌}
use Rattle.std.specs.Prelude.{map}
use Rattle.pop_session.specs.Machine.{unmarked}
use Rattle.pop_session.proofs.MaildropLemmas.{knows-listed}
use Rattle.pop_session.proofs.states.Pop+Authorization+V.pass.Goals as goal

pub returns-in-Some-2-clause-known : goal.returns-in-Some-2-clause-known
returns-in-Some-2-clause-known g c =
    knows-listed c.args.store.now c.inbox.result c.in_ok-maildrop_of-in-Some-2.field-0.items
    (c.in_ok-maildrop_of-in-Some-2.ensures ∙ ap (map unmarked) (c.deref.ensures.value ∙ c.in_ok-listing-in-Some-2.ensures.listing))
