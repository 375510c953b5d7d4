use Rattle.std.proofs.Common.{arith}
use Rattle.std.proofs.lemmas.Bool.Decides.{nat_tests}
use Rattle.param_grammar.proofs.ReadLemmas.{unquoted_other, unquoted_last, unquoted_pair}
use Rattle.param_grammar.proofs.contents.first_unquoted.Goals as goal

pub returns-then-first-ne92-clause-first : goal.returns-then-first-ne92-clause-first
returns-then-first-ne92-clause-first c = unquoted_other c.args.octets.now _ _ c.split_octet-first.ensures c.if-first-ne92.true

pub returns-then-is_empty-clause-first : goal.returns-then-is_empty-clause-first
returns-then-is_empty-clause-first c = unquoted_last c.args.octets.now _ _ c.split_octet-first.ensures (grind (arith, nat_tests))

pub returns-clause-first : goal.returns-clause-first
returns-clause-first c = unquoted_pair c.args.octets.now _ _ _ _ c.split_octet-first.ensures c.if-first-ne92.false c.split_octet.ensures
