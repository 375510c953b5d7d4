use Rattle.std.proofs.Common.{◌∙◌}
use Rattle.imap_session.specs.Machine.{context_of, mailbox_step}
use Rattle.imap_session.specs.Session.{state_of}
use Rattle.imap_session.proofs.CommandLemmas.{mailbox-left}
use Rattle.imap_session.proofs.StepLemmas.{Takes-next}
use Rattle.imap_session.proofs.commands.answer_on_folders.Goals as goal

pub returns-clause-takes : goal.returns-clause-takes
returns-clause-takes g c now =
    let state = state_of c.args.session in
    Takes-next c.args.outside.now c.give_on_folders.new.outside c.left_by.result (λ oracles. mailbox_step (context_of oracles now c.args.tag.now c.args.outside.now.desk.store) state g.V.View.mode c.args.account c.args.command.now)
    (λ oracles are. c.in_ok-give_on_folders.ensures.does oracles are now state)
    (λ oracles are. c.left_by.ensures.state ∙ mailbox-left oracles now c.args.tag.now state g.V.View.mode c.args.account c.args.outside.now.desk.store c.args.command.now c.requires.other)
    (c.left_by.ensures.known c.give_on_folders.new.outside.desk.store (c.in_ok-give_on_folders.ensures.known c.args.session c.requires.known))
