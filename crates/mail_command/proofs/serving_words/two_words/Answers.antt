use Rattle.std.proofs.Common.{refl}
use Rattle.mail_command.proofs.ServeLemmas.{are_two}
use Rattle.mail_command.proofs.serving_words.two_words.Goals as goal

pub returns-in-Some-Some-None-clause-some : goal.returns-in-Some-Some-None-clause-some
returns-in-Some-Some-None-clause-some c =
    let w = c.in-Some-Some-None in
    are_two c.args.words.now w.first.now w.second.now w.ensures.some w.ensures'.some (w.ensures''.none.0 refl)
