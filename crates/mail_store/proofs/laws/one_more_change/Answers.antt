use Rattle.mail_store.proofs.LawLemmas.{grown, left_following}
use Rattle.mail_store.proofs.laws.one_more_change.Goals as goal

pub returns-clause-ok : goal.returns-clause-ok
returns-clause-ok c = λ old new had has all more s h. grown {T = Unit {0}} old new had has all more (tt {0}) s h

pub returns-clause-keeper : goal.returns-clause-keeper
returns-clause-keeper c = λ old new had has all more s h. left_following old new had has all more h.2 s h.0 h.3
