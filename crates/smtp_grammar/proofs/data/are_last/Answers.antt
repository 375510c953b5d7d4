use Rattle.smtp_grammar.proofs.ReadingLemmas.{is_last_by}
use Rattle.smtp_grammar.proofs.data.are_last.Goals as goal

pub returns-in-Some : goal.returns-in-Some
returns-in-Some c =
    let begins = c.in-Some.ensures.cases in
    is_last_by c.args.line.now c.args.part.now _ _ begins.0 begins.1 c.eq.ensures
