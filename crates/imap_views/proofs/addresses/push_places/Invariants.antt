use Rattle.std.proofs.Common.{length}
use Rattle.field_tokens.specs.Lexemes.{values_of}
use Rattle.imap_views.specs.Addresses.{IsPlaceForm}
use Rattle.imap_views.proofs.DividedForms.{PushesParts}
use Rattle.imap_views.proofs.addresses.push_places.Given as goal

abbrev pub invariant-loop-place : goal.invariant-loop-place
invariant-loop-place l = PushesParts IsPlaceForm (values_of l.lexemes) l.fn.made l.made (values_of l.rest)

abbrev pub decreases-loop-place : goal.decreases-loop-place
decreases-loop-place l = length (values_of l.rest)
