use Rattle.std.proofs.Common.{codes, [], ◌∷◌, refl}
use Rattle.session_core.specs.Keeps.{fault_of}
use Rattle.imap_session.specs.Machine.{done, untagged}
use Rattle.imap_session.proofs.CommandLemmas.{common-other}
use Rattle.imap_session.proofs.StepLemmas.{answers_given, says_given}
use Rattle.imap_session.proofs.commands.give_common.Goals as goal

pub returns-in-Capability-clause-does : goal.returns-in-Capability-clause-does
returns-in-Capability-clause-does g c = λ oracles state. rw c.in-Capability.is
    (answers_given oracles c.args.outside.now c.answer_text.new.outside (fault_of c.answer_text.result) c.args.tag.now done (untagged (codes "CAPABILITY IMAP4rev1 ENABLE UTF8=ACCEPT") ∷ []) state _ refl
    c.answer_text.ensures.replies)

pub returns-in-Noop-clause-does : goal.returns-in-Noop-clause-does
returns-in-Noop-clause-does g c = λ oracles state. rw c.in-Noop.is (says_given oracles c.args.outside.now c.say.new.outside (fault_of c.say.result) c.args.tag.now done state c.say.ensures.replies)

pub returns-in-Logout-clause-does : goal.returns-in-Logout-clause-does
returns-in-Logout-clause-does g c = λ oracles state. rw c.in-Logout.is
    (answers_given oracles c.args.outside.now c.answer_text-in-Logout.new.outside (fault_of c.answer_text-in-Logout.result) c.args.tag.now done (untagged (codes "BYE bye") ∷ []) state _ refl
    c.answer_text-in-Logout.ensures.replies)

pub returns-in-NotHere-clause-does : goal.returns-in-NotHere-clause-does
returns-in-NotHere-clause-does g c = λ oracles state. rw c.in-NotHere.is
    (says_given oracles c.args.outside.now c.say-in-NotHere.new.outside (fault_of c.say-in-NotHere.result) c.args.tag.now (codes "NO not here") state c.say-in-NotHere.ensures.replies)

pub returns-in_default-clause-does : goal.returns-in_default-clause-does
returns-in_default-clause-does g c = λ oracles state.
    rw (common-other c.args.tag.now state c.args.command.now c.in_default.not-Capability c.in_default.not-Noop c.in_default.not-Logout c.in_default.not-NotHere)
    (says_given oracles c.args.outside.now c.say-in_default.new.outside (fault_of c.say-in_default.result) c.args.tag.now (codes "BAD out of order") state c.say-in_default.ensures.replies)
