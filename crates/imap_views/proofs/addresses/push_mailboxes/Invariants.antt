use Rattle.std.proofs.Common.{length}
use Rattle.field_tokens.specs.Lexemes.{values_of}
use Rattle.imap_views.specs.Addresses.{IsMailboxForm}
use Rattle.imap_views.proofs.DividedForms.{PushesParts}
use Rattle.imap_views.proofs.addresses.push_mailboxes.Given as goal

abbrev pub invariant-loop-part : goal.invariant-loop-part
invariant-loop-part l = PushesParts IsMailboxForm (values_of l.lexemes) l.fn.made l.made (values_of l.rest)

abbrev pub decreases-loop-part : goal.decreases-loop-part
decreases-loop-part l = length (values_of l.rest)
