use Rattle.std.proofs.Common.{length}
use Rattle.address_grammar.specs.AddressLists.{IsOneMailbox}
use Rattle.address_grammar.specs.private.ListViews.{mailbox_values}
use Rattle.field_tokens.specs.Lexemes.{values_of}
use Rattle.address_grammar.proofs.DividedLemmas.{ReadsParts}
use Rattle.address_grammar.proofs.lists.read_mailboxes.Given as goal

abbrev pub invariant-loop-part : goal.invariant-loop-part
invariant-loop-part l = ReadsParts IsOneMailbox (values_of l.lexemes) (mailbox_values l.made.items) (values_of l.rest)

abbrev pub decreases-loop-part : goal.decreases-loop-part
decreases-loop-part l = length (values_of l.rest)
