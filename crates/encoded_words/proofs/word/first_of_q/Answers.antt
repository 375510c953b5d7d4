use Rattle.std.proofs.Common.{sym, arith}
use Rattle.encoded_words.proofs.QText.{first_is, second_is, BeginsQ-plain, BeginsQ-escape}
use Rattle.encoded_words.proofs.word.first_of_q.Goals as goal

pub returns-in_default-first-clause-found : goal.returns-in_default-first-clause-found
returns-in_default-first-clause-found c = BeginsQ-plain _ _ _ (first_is _ c.requires) (λ e. omega (arith, e)) (λ e. omega (arith, e))

pub returns-in-Some-hex_value-clause-found : goal.returns-in-Some-hex_value-clause-found
returns-in-Some-hex_value-clause-found c =
    let h = c.in-Some.ensures in
    let l = c.in-Some-hex_value.ensures in
    BeginsQ-escape _ _ _ _ _ _ _ _ (first_is _ c.requires) c.in-61.is (second_is _ c.in-len2-up.len_at_least) h.0 (sym h.1) l.0 (sym l.1)
