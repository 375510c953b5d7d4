use Rattle.std.proofs.Common.{ℕ}
use Rattle.address_grammar.specs.Addresses.{address_text}
use Rattle.address_grammar.proofs.DecidePaths.{paths_read}
use Rattle.mail_store.specs.Changing.{account_refusal}
use Rattle.kept_mail.specs.Kept.{Kept}
use Rattle.journal_records.specs.declared.records.Record.TheVariants as records
use Rattle.setup_command.proofs.AddingLemmas.{unopened, added, refused}
use Rattle.setup_command.proofs.adding.run_account.Goals as goal

pub returns-in-Err-clause-runs : goal.returns-in-Err-clause-runs
returns-in-Err-clause-runs g c path_of reads =
    (unopened (λ (kept : Kept). account_refusal path_of kept c.args.address.now) (records.Account (address_text c.args.address.now) c.args.password.now)
    (g.J.Keeper.observed c.args.keeper.now).octets (g.J.Keeper.observed c.open.new.keeper).octets (g.W.Wire.observed c.args.wire.now) (g.W.Wire.observed c.tell_unopened.new.wire) c.in-Err.fault c.tell_unopened.result
    c.open.ensures.leaves c.in-Err.ensures.fault c.tell_unopened.ensures.observed).runs

pub returns-in-Err-clause-exact : goal.returns-in-Err-clause-exact
returns-in-Err-clause-exact g c path_of reads =
    (unopened (λ (kept : Kept). account_refusal path_of kept c.args.address.now) (records.Account (address_text c.args.address.now) c.args.password.now)
    (g.J.Keeper.observed c.args.keeper.now).octets (g.J.Keeper.observed c.open.new.keeper).octets (g.W.Wire.observed c.args.wire.now) (g.W.Wire.observed c.tell_unopened.new.wire) c.in-Err.fault c.tell_unopened.result
    c.open.ensures.leaves c.in-Err.ensures.fault c.tell_unopened.ensures.observed).exact

pub returns-in-Ok-add_account-clause-runs : goal.returns-in-Ok-add_account-clause-runs
returns-in-Ok-add_account-clause-runs g c path_of reads =
    (added ℕ c.in-Ok-add_account.field-0 (λ (kept : Kept). account_refusal path_of kept c.args.address.now) (records.Account (address_text c.args.address.now) c.args.password.now)
    (g.J.Keeper.observed c.args.keeper.now).octets (g.J.Keeper.observed c.open.new.keeper).octets (g.J.Keeper.observed c.add_account.new.keeper).octets (g.W.Wire.observed c.args.wire.now) c.in-Ok.store c.add_account.new.self
    c.open.ensures.leaves c.in-Ok.ensures.fold c.in-Ok.ensures.opens c.in-Ok-add_account.ensures.changes (c.in-Ok-add_account.ensures.refusal path_of reads)).runs

pub returns-in-Ok-add_account-clause-exact : goal.returns-in-Ok-add_account-clause-exact
returns-in-Ok-add_account-clause-exact g c path_of reads =
    (added ℕ c.in-Ok-add_account.field-0 (λ (kept : Kept). account_refusal path_of kept c.args.address.now) (records.Account (address_text c.args.address.now) c.args.password.now)
    (g.J.Keeper.observed c.args.keeper.now).octets (g.J.Keeper.observed c.open.new.keeper).octets (g.J.Keeper.observed c.add_account.new.keeper).octets (g.W.Wire.observed c.args.wire.now) c.in-Ok.store c.add_account.new.self
    c.open.ensures.leaves c.in-Ok.ensures.fold c.in-Ok.ensures.opens c.in-Ok-add_account.ensures.changes (c.in-Ok-add_account.ensures.refusal path_of reads)).exact

pub returns-in-Ok-add_account-clause-journal : goal.returns-in-Ok-add_account-clause-journal
returns-in-Ok-add_account-clause-journal g c =
    (added ℕ c.in-Ok-add_account.field-0 (λ (kept : Kept). account_refusal paths_read.0 kept c.args.address.now) (records.Account (address_text c.args.address.now) c.args.password.now)
    (g.J.Keeper.observed c.args.keeper.now).octets (g.J.Keeper.observed c.open.new.keeper).octets (g.J.Keeper.observed c.add_account.new.keeper).octets (g.W.Wire.observed c.args.wire.now) c.in-Ok.store c.add_account.new.self
    c.open.ensures.leaves c.in-Ok.ensures.fold c.in-Ok.ensures.opens c.in-Ok-add_account.ensures.changes (c.in-Ok-add_account.ensures.refusal paths_read.0 paths_read.1)).journal

pub returns-clause-runs : goal.returns-clause-runs
returns-clause-runs g c path_of reads =
    (refused ℕ (λ (kept : Kept). account_refusal path_of kept c.args.address.now) (records.Account (address_text c.args.address.now) c.args.password.now)
    (g.J.Keeper.observed c.args.keeper.now).octets (g.J.Keeper.observed c.open.new.keeper).octets (g.J.Keeper.observed c.add_account.new.keeper).octets (g.W.Wire.observed c.args.wire.now) (g.W.Wire.observed c.tell_refused.new.wire)
    c.in-Ok.store c.add_account.new.self c.in-Err-add_account.why c.tell_refused.result
    c.open.ensures.leaves c.in-Ok.ensures.fold c.in-Ok.ensures.opens c.in-Err-add_account.ensures.changes (c.in-Err-add_account.ensures.refusal path_of reads) c.tell_refused.ensures.observed).runs

pub returns-clause-exact : goal.returns-clause-exact
returns-clause-exact g c path_of reads =
    (refused ℕ (λ (kept : Kept). account_refusal path_of kept c.args.address.now) (records.Account (address_text c.args.address.now) c.args.password.now)
    (g.J.Keeper.observed c.args.keeper.now).octets (g.J.Keeper.observed c.open.new.keeper).octets (g.J.Keeper.observed c.add_account.new.keeper).octets (g.W.Wire.observed c.args.wire.now) (g.W.Wire.observed c.tell_refused.new.wire)
    c.in-Ok.store c.add_account.new.self c.in-Err-add_account.why c.tell_refused.result
    c.open.ensures.leaves c.in-Ok.ensures.fold c.in-Ok.ensures.opens c.in-Err-add_account.ensures.changes (c.in-Err-add_account.ensures.refusal path_of reads) c.tell_refused.ensures.observed).exact

pub returns-clause-journal : goal.returns-clause-journal
returns-clause-journal g c =
    (refused ℕ (λ (kept : Kept). account_refusal paths_read.0 kept c.args.address.now) (records.Account (address_text c.args.address.now) c.args.password.now)
    (g.J.Keeper.observed c.args.keeper.now).octets (g.J.Keeper.observed c.open.new.keeper).octets (g.J.Keeper.observed c.add_account.new.keeper).octets (g.W.Wire.observed c.args.wire.now) (g.W.Wire.observed c.tell_refused.new.wire)
    c.in-Ok.store c.add_account.new.self c.in-Err-add_account.why c.tell_refused.result
    c.open.ensures.leaves c.in-Ok.ensures.fold c.in-Ok.ensures.opens c.in-Err-add_account.ensures.changes (c.in-Err-add_account.ensures.refusal paths_read.0 paths_read.1) c.tell_refused.ensures.observed).journal
