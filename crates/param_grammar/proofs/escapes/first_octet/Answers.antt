use Rattle.std.proofs.Common.{sym, arith}
use Rattle.encoded_words.proofs.QText.{first_is, second_is}
use Rattle.param_grammar.proofs.EscapeLemmas.{BeginsEscaped-plain, BeginsEscaped-escape}
use Rattle.param_grammar.proofs.escapes.first_octet.Goals as goal

pub returns-in_default-first-clause-found : goal.returns-in_default-first-clause-found
returns-in_default-first-clause-found c = BeginsEscaped-plain _ _ _ (first_is _ c.requires) (λ e. omega (arith, e))

pub returns-in-Some-hex_value-clause-found : goal.returns-in-Some-hex_value-clause-found
returns-in-Some-hex_value-clause-found c =
    let h = c.in-Some.ensures in
    let l = c.in-Some-hex_value.ensures in
    BeginsEscaped-escape _ _ _ _ _ _ _ _ (first_is _ c.requires) c.in-37.is (second_is _ c.in-len2-up.len_at_least) h.0 (sym h.1) l.0 (sym l.1)
