use Rattle.relay_choice.proofs.LeavingLemmas.{leaves_by}
use Rattle.relay_choice.proofs.states.Client.take.Goals as goal

pub returns-in-Greeting-clause-leave : goal.returns-in-Greeting-clause-leave
returns-in-Greeting-clause-leave c = leaves_by c.args.self c.args.reply.now c.take_greeting.result c.take_greeting.ensures.comes

pub returns-in-Ehlo-clause-leave : goal.returns-in-Ehlo-clause-leave
returns-in-Ehlo-clause-leave c = leaves_by c.args.self c.args.reply.now c.take_offer.result c.take_offer.ensures.comes

pub returns-in-Mail-clause-leave : goal.returns-in-Mail-clause-leave
returns-in-Mail-clause-leave c = leaves_by c.args.self c.args.reply.now c.take_mail.result c.take_mail.ensures.comes

pub returns-in-Rcpt-clause-leave : goal.returns-in-Rcpt-clause-leave
returns-in-Rcpt-clause-leave c = leaves_by c.args.self c.args.reply.now c.take_answer.result c.take_answer.ensures.comes

pub returns-in-Data-clause-leave : goal.returns-in-Data-clause-leave
returns-in-Data-clause-leave c = leaves_by c.args.self c.args.reply.now c.take_data.result c.take_data.ensures.comes

pub returns-in-End-clause-leave : goal.returns-in-End-clause-leave
returns-in-End-clause-leave c = leaves_by c.args.self c.args.reply.now c.take_end.result c.take_end.ensures.comes

pub returns-in-Reset-clause-leave : goal.returns-in-Reset-clause-leave
returns-in-Reset-clause-leave c = leaves_by c.args.self c.args.reply.now c.take_reset.result c.take_reset.ensures.comes
