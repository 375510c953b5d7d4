use Rattle.std.proofs.Common.{rules, tests}
use Rattle.std.specs.Str.{chars}
use Rattle.std.proofs.lemmas.Iterator.{YieldsList-from_chars, cases_from_all}
use Rattle.journal_records.specs.Grammar.{IsNameChar}
use Rattle.journal_records.proofs.GrammarLemmas.{names_each}
use Rattle.journal_records.proofs.grammar.are_name_chars.Goals as goal

pub returns : goal.returns
returns c = names_each c.all.result (chars c.args.name.now)
    (cases_from_all _ _ c.all.result IsNameChar (λ x. IsNameChar x → ⊥) c.all.ensures.ran (YieldsList-from_chars c.args.name.now c.utf8.name c.chars.ensures.rest)
    (λ x q k. search (rules, tests)) (λ x q k. search (rules, tests)))
