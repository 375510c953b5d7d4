use Rattle.relay_choice.proofs.ReplyReads.{none_taken}
use Rattle.relay_choice.proofs.reader.ReplyReader.take.Goals as goal

pub returns-in-NotReply : goal.returns-in-NotReply
returns-in-NotReply c = λ begun.
    let none = c.in-NotReply.ensures in
    let pushed = c.in_ok-push.ensures in
    none_taken c.args.self.octets c.args.piece.now c.loop-used.octets c.as_slice.result.now c.push.new.self c.loop-used.used c.loop-used.place c.loop-used-test.true
    c.loop-used.invariant.2 (c.loop-used.invariant.3 begun) c.as_slice.ensures none.step pushed.ok
