use Rattle.std.proofs.Common.{◌≡◌, ◌++◌, ◌∷◌, drop}
use Rattle.std.specs.List.{flat_map}
use Rattle.imap_mailboxes.specs.Names.{in_quotes}
use Rattle.imap_mailboxes.proofs.names.quote.Given as goal

abbrev pub invariant-loop-octet : goal.invariant-loop-octet
invariant-loop-octet l = l.text ++ flat_map in_quotes (drop l.octet-index l.octets) ≡ 34 ∷ flat_map in_quotes l.octets
