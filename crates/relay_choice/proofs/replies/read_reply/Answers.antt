use Rattle.std.proofs.Common.{arith, rules}
use Rattle.relay_choice.specs.declared.replies.ReplyRead.TheVariants as read
use Rattle.relay_choice.proofs.ReplyReads.{nothing_begun, none_read, more_read, read_once}
use Rattle.relay_choice.proofs.replies.read_reply.Goals as goal

pub loop-used-init : goal.loop-used-init
loop-used-init c = (omega arith, search rules, nothing_begun)

pub returns-in-Whole-clause-exact : goal.returns-in-Whole-clause-exact
returns-in-Whole-clause-exact c = λ one is. read_once c.args.octets.now _ one (omega arith, c.in_ok-reply-in-Whole.ensures) is

pub returns-in-NotReply-clause-read : goal.returns-in-NotReply-clause-read
returns-in-NotReply-clause-read c =
    let none = c.in-NotReply.ensures in
    none_read c.args.octets.now c.split_at.result.0.now c.split_at.result.1.now c.loop-used.used c.loop-used.place c.loop-used-test.true
    c.split_at.ensures.front c.split_at.ensures.back c.loop-used.invariant.2 none.step

pub returns-in-NotReply-clause-exact : goal.returns-in-NotReply-clause-exact
returns-in-NotReply-clause-exact c = λ one is.
    let none = c.in-NotReply.ensures in
    read_once c.args.octets.now _ one (none_read c.args.octets.now c.split_at.result.0.now c.split_at.result.1.now c.loop-used.used c.loop-used.place c.loop-used-test.true
    c.split_at.ensures.front c.split_at.ensures.back c.loop-used.invariant.2 none.step) is

pub returns-clause-exact : goal.returns-clause-exact
returns-clause-exact c = λ one is. read_once c.args.octets.now read.More one (more_read c.args.octets.now c.loop-used.used c.loop-used.place c.loop-used-test.false c.loop-used.invariant.2) is
