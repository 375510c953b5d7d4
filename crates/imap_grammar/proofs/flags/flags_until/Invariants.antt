use Rattle.std.proofs.Common.{length}
use Rattle.imap_grammar.proofs.FlagSteps.{FlagsSoFar}
use Rattle.imap_grammar.proofs.flags.flags_until.Given as goal

abbrev pub invariant-loop-separator : goal.invariant-loop-separator
invariant-loop-separator l = FlagsSoFar l.close l.text l.bits l.rest

abbrev pub decreases-loop-separator : goal.decreases-loop-separator
decreases-loop-separator l = length l.rest
