use Rattle.address_grammar.proofs.LexemeLemmas.{front_taken}
use Rattle.address_grammar.proofs.lexemes.front_before.Goals as goal

pub returns : goal.returns
returns c = λ front e. rw (c.front.ensures, c.saturating_sub.ensures, c.len.ensures, c.len-2.ensures) (front_taken _ front _ e)
