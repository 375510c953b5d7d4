use Rattle.std.proofs.Common.{sym}
use Rattle.std.proofs.lemmas.Bool.{eqb-true}
use Rattle.relay_choice.proofs.ReplyReads.{code_said, reply_made}
use Rattle.relay_choice.proofs.replies.reply_of.Goals as goal

pub code_of-code-requires : goal.code_of-code-requires
code_of-code-requires c = code_said c.args.octets.now c.requires.0 c.requires.1

pub returns : goal.returns
returns c =
    let none = c.loop-rest-test.ensures in
    reply_made c.args.octets.now c.requires.0 c.code_of-code.result c.loop-rest.lines c.loop-rest.rest.now c.requires.1 c.code_of-code.ensures c.loop-rest.invariant
    (eqb-true _ 0 (sym none))
