use Rattle.std.proofs.Common.{rules, ◌≡◌, ◌∙◌, sym, false, true}
use Rattle.address_grammar.specs.Addresses.{address_text}
use Rattle.mail_store.specs.Changing.{account_refusal}
use Rattle.kept_mail.specs.Kept.{Kept}
use Rattle.journal_records.specs.declared.records.Record.TheVariants as records
use Rattle.setup_command.specs.Statuses.{status_of}
use Rattle.mail_command.proofs.PasswordLemmas.{by_input_exact, by_none, by_password}
use Rattle.mail_command.proofs.passwords.run_account_by_input.Goals as goal

pub returns-then-is_password-clause-runs : goal.returns-then-is_password-clause-runs
returns-then-is_password-clause-runs g c path_of reads =
    let taken : c.as_slice.result.now ≡ c.in_ok-taken.taken = search rules in
    by_password (λ (kept : Kept). account_refusal path_of kept c.args.address.now) (λ password. records.Account (address_text c.args.address.now) password)
    (g.J.Keeper.observed c.args.keeper.now).octets (g.J.Keeper.observed c.run_account.new.keeper).octets (g.W.Wire.observed c.args.wire.now) (g.W.Wire.observed c.take_line.new.wire)
    (g.W.Wire.observed c.run_account.new.wire) (status_of c.run_account.result) c.in_ok-taken.taken c.first_line-password.result.now
    c.in_ok-taken.ensures.taken (rw taken at c.first_line-password.ensures) (c.is_password.ensures.0 c.if-is_password.true) (c.run_account.ensures.runs path_of reads)

pub returns-then-is_password-clause-exact : goal.returns-then-is_password-clause-exact
returns-then-is_password-clause-exact g c path_of reads =
    let taken : c.as_slice.result.now ≡ c.in_ok-taken.taken = search rules in
    by_input_exact (λ (kept : Kept). account_refusal path_of kept c.args.address.now) (λ password. records.Account (address_text c.args.address.now) password)
    (g.J.Keeper.observed c.args.keeper.now).octets (g.J.Keeper.observed c.run_account.new.keeper).octets (g.W.Wire.observed c.args.wire.now) (g.W.Wire.observed c.run_account.new.wire) (status_of c.run_account.result)
    (by_password (λ (kept : Kept). account_refusal path_of kept c.args.address.now) (λ password. records.Account (address_text c.args.address.now) password)
    (g.J.Keeper.observed c.args.keeper.now).octets (g.J.Keeper.observed c.run_account.new.keeper).octets (g.W.Wire.observed c.args.wire.now) (g.W.Wire.observed c.take_line.new.wire)
    (g.W.Wire.observed c.run_account.new.wire) (status_of c.run_account.result) c.in_ok-taken.taken c.first_line-password.result.now
    c.in_ok-taken.ensures.taken (rw taken at c.first_line-password.ensures) (c.is_password.ensures.0 c.if-is_password.true) (c.run_account.ensures.runs path_of reads))

pub returns-clause-runs : goal.returns-clause-runs
returns-clause-runs g c path_of reads =
    let taken : c.as_slice.result.now ≡ c.in_ok-taken.taken = search rules in
    by_none (λ (kept : Kept). account_refusal path_of kept c.args.address.now) (λ password. records.Account (address_text c.args.address.now) password)
    (g.J.Keeper.observed c.args.keeper.now).octets (g.W.Wire.observed c.args.wire.now) (g.W.Wire.observed c.take_line.new.wire)
    (g.W.Wire.observed c.refuse_words.new.wire) (status_of c.refuse_words.result) c.in_ok-taken.taken c.first_line-password.result.now
    c.in_ok-taken.ensures.taken (rw taken at c.first_line-password.ensures) (λ is. let differs : false ≡ true = sym c.if-is_password.false ∙ c.is_password.ensures.1 is in cc differs)
    c.refuse_words.ensures.refuses
