use Rattle.std.proofs.Common.{◌-◌}
use Rattle.kept_mail.specs.private.Chains.{chain}
use Rattle.kept_mail.proofs.ListingLemmas.{IsBack, listed_back}
use Rattle.kept_mail.proofs.messages.list_back.Given as goal

abbrev pub invariant-loop-back : goal.invariant-loop-back
invariant-loop-back l = IsBack l.messages l.previous (l.content.count - l.back) l.place l.listing.items (listed_back l.messages 1 (chain l.content.count l.previous l.content.last))
