use Rattle.std.proofs.Common.{◌≡◌, length, arith}
use Rattle.kept_mail.proofs.ChainLemmas.{content_few, AreChained-push}
use Rattle.kept_mail.proofs.contents.put_message.Goals as goal

pub put_number-before-requires-clause-few : goal.put_number-before-requires-clause-few
put_number-before-requires-clause-few c =
    omega (arith, c.requires.few, content_few c.args.messages.now.items c.args.contents.now.items c.args.previous.now.items c.args.message.folder c.requires.chained)

pub returns-clause-chained : goal.returns-clause-chained
returns-clause-chained c =
    let number : c.len-number.result ≡ length c.args.messages.now.items = omega (arith, c.len-number.ensures) in
    rw (c.push_reserved-2.ensures.items, c.push_reserved.ensures.items, c.put_number-before.ensures.contents, c.put_number-before.ensures.before)
    (AreChained-push c.args.contents.now.items c.args.previous.now.items c.args.messages.now.items c.args.message c.len-number.result c.requires.chained c.requires.known number)
