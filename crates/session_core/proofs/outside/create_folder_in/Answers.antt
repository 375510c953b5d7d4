use Rattle.std.proofs.Common.{ℕ, ◌∷◌, []}
use Rattle.journal_records.specs.declared.records.Record.TheVariants as records
use Rattle.journal_records.specs.Grammar.{kept_name}
use Rattle.mail_store.specs.Changing.{folder_refusal}
use Rattle.session_core.proofs.DeskLemmas.{broken_off}
use Rattle.session_core.proofs.outside.create_folder_in.Goals as goal

pub returns-in-Err-Keeper-clause-changes : goal.returns-in-Err-Keeper-clause-changes
returns-in-Err-Keeper-clause-changes g c =
    let failed = c.in-Err-Keeper in
    broken_off ℕ c.args.store.now c.create_folder.new.self (g.J.Keeper.observed c.args.keeper.now).octets (g.J.Keeper.observed c.create_folder.new.keeper).octets failed.field-0
    (folder_refusal c.args.store.now.kept c.args.account c.args.name.now) (records.Folder c.args.account (kept_name c.args.name.now) ∷ []) failed.field-0-is failed.ensures.changes failed.ensures.refusal
