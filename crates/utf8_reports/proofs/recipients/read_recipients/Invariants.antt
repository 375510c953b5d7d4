use Rattle.std.proofs.Common.{length}
use Rattle.utf8_reports.proofs.RecipientLists.{HasReadRecipients}
use Rattle.utf8_reports.proofs.recipients.read_recipients.Given as goal

-- the recipients so far are those of the octets before rest
abbrev pub invariant-loop-alloc : goal.invariant-loop-alloc
invariant-loop-alloc l = HasReadRecipients l.global l.octets l.failed l.rest

abbrev pub decreases-loop-alloc : goal.decreases-loop-alloc
decreases-loop-alloc l = length l.rest
