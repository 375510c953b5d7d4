use Rattle.address_grammar.proofs.LexemeLemmas.{mark_in}
use Rattle.address_grammar.proofs.lexemes.lacks_mark.Goals as goal

pub returns-in-Some : goal.returns-in-Some
returns-in-Some c = mark_in _ _ _ _ c.in-Some.ensures.found
