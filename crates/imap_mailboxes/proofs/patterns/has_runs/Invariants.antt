use Rattle.std.proofs.Common.{◌≡◌, drop}
use Rattle.imap_mailboxes.specs.Patterns.{is_match}
use Rattle.imap_mailboxes.specs.private.Runs.{plain_runs, after_wildcards}
use Rattle.imap_mailboxes.proofs.patterns.has_runs.Given as goal

abbrev pub invariant-loop-run : goal.invariant-loop-run
invariant-loop-run l = is_match (after_wildcards (plain_runs l.octets (drop l.run-index l.runs)) l.last) l.rest ≡ is_match (after_wildcards (plain_runs l.octets l.runs) l.last) l.name
