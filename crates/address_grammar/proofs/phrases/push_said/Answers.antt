use Rattle.std.proofs.Common.{sym, ◌∙◌}
use Rattle.address_grammar.proofs.WritingLemmas.{atom_content}
use Rattle.address_grammar.proofs.phrases.push_said.Goals as goal

pub returns-then-is_atom : goal.returns-then-is_atom
returns-then-is_atom c =
    rw (atom_content c.args.lexeme.kind c.args.lexeme.octets.now (sym c.is_atom.ensures ∙ c.if-is_atom.true)) c.push_part.ensures
