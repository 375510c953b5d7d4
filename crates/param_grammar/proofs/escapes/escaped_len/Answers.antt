use Rattle.std.proofs.Common.{sym, ◌∙◌}
use Rattle.param_grammar.proofs.EscapeLemmas.{octet_length-escape}
use Rattle.param_grammar.proofs.escapes.escaped_len.Goals as goal

pub returns-else-is_attribute_octet-clause-spelled : goal.returns-else-is_attribute_octet-clause-spelled
returns-else-is_attribute_octet-clause-spelled c = sym (octet_length-escape c.args.octet (sym c.is_attribute_octet.ensures ∙ c.if-is_attribute_octet.false))
