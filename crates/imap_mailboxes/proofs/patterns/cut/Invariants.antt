use Rattle.imap_mailboxes.proofs.CutLemmas.{CutSoFar}
use Rattle.imap_mailboxes.proofs.patterns.cut.Given as goal

abbrev pub invariant-loop-place : goal.invariant-loop-place
invariant-loop-place l = CutSoFar l.octets l.from l.begin l.place l.runs.items
