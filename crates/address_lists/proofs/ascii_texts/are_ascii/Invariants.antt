use Rattle.std.proofs.Common.{◌≡◌, length}
use Rattle.field_tokens.specs.Lexemes.{values_of}
use Rattle.std.specs.List.{list_all}
use Rattle.mail_wire.specs.Octets.{is_ascii}
use Rattle.field_tokens.specs.Squeezed.{octets_of}
use Rattle.address_lists.proofs.ascii_texts.are_ascii.Given as goal

abbrev pub invariant-loop-lexeme : goal.invariant-loop-lexeme
invariant-loop-lexeme l = list_all is_ascii (octets_of (values_of l.lexemes)) ≡ list_all is_ascii (octets_of (values_of l.rest))

abbrev pub decreases-loop-lexeme : goal.decreases-loop-lexeme
decreases-loop-lexeme l = length (values_of l.rest)
