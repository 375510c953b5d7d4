use Rattle.std.proofs.Common.{inr}
use Rattle.relay_session.proofs.ReplyTaken.{none_is, reply_is, turns_by}
use Rattle.relay_session.proofs.running.turn_after.Goals as goal

pub returns-in_default : goal.returns-in_default
returns-in_default c = inr (none_is c.args.octets.now c.in_ok-reply.field-0 c.requires c.in_ok-reply.ensures.read (λ reply used is. c.in_default.not-Whole reply used is))

pub returns : goal.returns
returns c =
    let is = reply_is c.args.octets.now c.in-Whole.reply c.in-Whole.used c.requires (rw c.in-Whole.is at c.in_ok-reply.ensures.read) in
    turns_by c.args.client c.args.octets.now c.in-Whole.reply c.take.result is c.take.ensures.comes c.take.ensures.fewer c.take.ensures.leave
