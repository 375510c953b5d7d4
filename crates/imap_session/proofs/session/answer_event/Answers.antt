use Rattle.std.proofs.Common.{sym, subst}
use Rattle.session_core.specs.declared.desk.Desk.{Desk}
use Rattle.imap_grammar.specs.declared.event.Event.TheVariants.{Go, Bad, TooLarge}
use Rattle.imap_session.specs.Session.{KnowsState}
use Rattle.imap_session.proofs.SessionLemmas.{TakesAt-kept, TakesAt-more, TakesAt-over}
use Rattle.imap_session.proofs.session.answer_event.Goals as goal

pub returns-in-More-clause-takes : goal.returns-in-More-clause-takes
returns-in-More-clause-takes g c = rw c.in-More.is (TakesAt-more c.args.outside.now c.args.session c.requires.known)

pub returns-in-Go-clause-takes : goal.returns-in-Go-clause-takes
returns-in-Go-clause-takes g c =
    rw c.in-Go.is
    (TakesAt-kept c.args.outside.now c.give.new.self c.args.session c.give.result c.go_on.result Go tt c.go_on.ensures c.give.ensures.replies
    (subst (λ (desk : Desk). KnowsState desk.store c.args.session) (sym c.give.ensures.replies.leaves.desk) c.requires.known))

pub answer_command-requires-clause-said : goal.answer_command-requires-clause-said
answer_command-requires-clause-said g c = rw c.in-Command.is at c.requires.said

pub returns-in-Command-clause-takes : goal.returns-in-Command-clause-takes
returns-in-Command-clause-takes g c = rw (c.in-Command.is, ← c.as_slice.ensures) c.answer_command.ensures.takes

pub returns-in-Bad-clause-takes : goal.returns-in-Bad-clause-takes
returns-in-Bad-clause-takes g c =
    rw c.in-Bad.is
    (TakesAt-kept c.args.outside.now c.refuse.new.outside c.args.session c.refuse.result c.go_on-in-Bad.result (Bad c.in-Bad.tag c.in-Bad.at) tt c.go_on-in-Bad.ensures c.refuse.ensures.replies
    (subst (λ (desk : Desk). KnowsState desk.store c.args.session) (sym c.refuse.ensures.replies.leaves.desk) c.requires.known))

pub returns-in-TooLarge-clause-takes : goal.returns-in-TooLarge-clause-takes
returns-in-TooLarge-clause-takes g c =
    rw c.in-TooLarge.is
    (TakesAt-kept c.args.outside.now c.say.new.outside c.args.session c.say.result c.go_on-in-TooLarge.result (TooLarge c.in-TooLarge.tag) tt c.go_on-in-TooLarge.ensures
    (rw c.as_slice-in-TooLarge.ensures at c.say.ensures.replies)
    (subst (λ (desk : Desk). KnowsState desk.store c.args.session) (sym c.say.ensures.replies.leaves.desk) c.requires.known))

pub returns-in-TooLong-clause-takes : goal.returns-in-TooLong-clause-takes
returns-in-TooLong-clause-takes g c =
    rw c.in-TooLong.is (TakesAt-over c.args.outside.now c.give-in-TooLong.new.self c.args.session c.give-in-TooLong.result c.end.result c.end.ensures c.give-in-TooLong.ensures.replies)
