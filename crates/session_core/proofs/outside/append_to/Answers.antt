use Rattle.std.proofs.Common.{ℕ, ◌∷◌, [], Some}
use Rattle.journal_records.specs.declared.records.Record.TheVariants as records
use Rattle.mail_store.specs.Changing.{append_refusal}
use Rattle.session_core.proofs.DeskLemmas.{broken_off}
use Rattle.session_core.proofs.outside.append_to.Goals as goal

pub returns-in-Err-Keeper-clause-changes : goal.returns-in-Err-Keeper-clause-changes
returns-in-Err-Keeper-clause-changes g c =
    let failed = c.in-Err-Keeper in
    broken_off ℕ c.args.store.now c.append.new.self (g.J.Keeper.observed c.args.keeper.now).octets (g.J.Keeper.observed c.append.new.keeper).octets failed.field-0
    (append_refusal c.args.store.now c.args.octets.now) (records.Message c.args.folder c.args.attributes.flags (Some c.args.attributes.mark) c.args.date.now c.args.octets.now ∷ []) failed.field-0-is failed.ensures.changes failed.ensures.refusal
