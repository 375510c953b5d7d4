use Rattle.std.proofs.Common.{nat_le, nat_lt, rules}
use Rattle.std.proofs.lemmas.List.Sorted.{IsPartitionPoint-from_clause, IsPartitionedBy-ltb, IsPartitionedBy-leb}
use Rattle.kept_mail.specs.declared.kept.Listed.{Listed}
use Rattle.imap_mailboxes.proofs.SetLemmas.{uid_inside}
use Rattle.imap_mailboxes.proofs.sets.uid_stretch.Goals as goal

pub returns-clause-inside : goal.returns-clause-inside
returns-clause-inside c = λ place one within.
    let messages = c.args.messages.now in
    uid_inside messages c.args.low c.args.high c.partition_point-from.result c.partition_point-to.result place one
    (IsPartitionPoint-from_clause (λ (y : Listed). nat_lt y.uid c.args.low) messages c.partition_point-from.result c.partition_point-from.ensures.partitioned
    (IsPartitionedBy-ltb (λ (y : Listed). y.uid) messages c.args.low c.requires.uids_rise) (λ a r q k. search rules))
    (IsPartitionPoint-from_clause (λ (y : Listed). nat_le y.uid c.args.high) messages c.partition_point-to.result c.partition_point-to.ensures.partitioned
    (IsPartitionedBy-leb (λ (y : Listed). y.uid) messages c.args.high c.requires.uids_rise) (λ a r q k. search rules))
    within
