use Rattle.std.proofs.Common.{subst}
use Rattle.session_core.specs.Keeps.{fault_of}
use Rattle.surrogate_cache.specs.Served.{is_enabled}
use Rattle.session_core.specs.Doing.{Does}
use Rattle.imap_session.specs.Machine.{Step}
use Rattle.imap_session.specs.Replies.{part_octets}
use Rattle.imap_session.proofs.CommandLemmas.{created-known, mailbox-other, same-known}
use Rattle.imap_session.proofs.commands.give_on_folders.Goals as goal

pub returns-in-Create-clause-known : goal.returns-in-Create-clause-known
returns-in-Create-clause-known g c =
    created-known c.args.outside.now c.create.new.outside c.create.result c.args.tag.now c.args.account (λ oracles. oracles.name_of (is_enabled g.V.View.mode) c.as_slice.result.now) c.create.ensures.does

pub returns-in-List-clause-does : goal.returns-in-List-clause-does
returns-in-List-clause-does g c = λ oracles are now state. rw (c.in-List.is, ← c.as_slice-reference.ensures, ← c.as_slice-pattern.ensures) (c.give_list.ensures.does oracles state)

pub returns-in_default-clause-does : goal.returns-in_default-clause-does
returns-in_default-clause-does g c = λ oracles are now state.
    subst (λ (step : Step). Does (part_octets oracles) c.args.outside.now c.give_common.new.outside (fault_of c.give_common.result) step.acts)
    (mailbox-other oracles now c.args.tag.now state g.V.View.mode c.args.account c.args.outside.now.desk.store c.args.command.now c.in_default.not-Create c.in_default.not-List c.in_default.not-Status
    c.requires.other)
    (c.give_common.ensures.does oracles state)

pub returns-in_default-clause-known : goal.returns-in_default-clause-known
returns-in_default-clause-known g c = same-known c.args.outside.now c.give_common.new.outside c.give_common.result c.give_common.ensures.same
