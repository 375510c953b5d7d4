use Rattle.std.proofs.Common.{Some}
use Rattle.mail_command.proofs.AccountLemmas.{account_not_bad, opens_to_account}
use Rattle.mail_command.proofs.generating.open_first.Goals as goal

pub returns-in-Ok-clause-kept : goal.returns-in-Ok-clause-kept
returns-in-Ok-clause-kept c =
    opens_to_account (Some c.open_desk.new.keeper.octets) c.in-Ok.desk.store.kept (rw c.requires.octets at c.in-Ok.ensures.opens)

pub unreachable-requires : goal.unreachable-requires
unreachable-requires c = account_not_bad _ (rw (c.in-Err-BadJournal.field-0-is, c.requires.octets) at c.in-Err-BadJournal.ensures.fault).0
