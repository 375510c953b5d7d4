use Rattle.std.proofs.Common.{refl}
use Rattle.mail_command.proofs.ServeLemmas.{are_four}
use Rattle.mail_command.proofs.serving_words.four_words.Goals as goal

pub returns-in-Some-Some-Some-Some-None-clause-some : goal.returns-in-Some-Some-Some-Some-None-clause-some
returns-in-Some-Some-Some-Some-None-clause-some c =
    let w = c.in-Some-Some-Some-Some-None in
    are_four c.args.words.now w.first.now w.second.now w.third.now w.fourth.now w.ensures.some w.ensures'.some w.ensures''.some w.ensures'''.some (w.ensures''''.none.0 refl)
