use Rattle.std.proofs.Common.{subst}
use Rattle.std.specs.Prelude.{IfSome}
use Rattle.address_grammar.specs.declared.Address.{Address}
use Rattle.std.proofs.Common.{◌<◌, Option, length, arith}
use Rattle.std.proofs.lemmas.Bool.{false≢true}
use Rattle.journal_records.specs.declared.records.Record.TheVariants as records
use Rattle.journal_records.specs.Addresses.{IsTextOfAddress}
use Rattle.journal_records.proofs.AddressTexts.{address_missing}
use Rattle.kept_mail.specs.declared.limits.TheConstants.{THINGS_MAX}
use Rattle.kept_mail.specs.Records.{IsInOrder}
use Rattle.mail_store.specs.private.Store.{kept_of}
use Rattle.mail_store.specs.StoreState.{StoreState}
use Rattle.mail_store.proofs.storing.Store.recorded_key.Goals as goal

pub returns-in_default : goal.returns-in_default
returns-in_default c = λ h. false≢true ((address_missing c.args.address.now c.in_ok-own.field-0 c.in_default.is c.in_ok-own.ensures.none).1 h.0)

pub returns : goal.returns
returns c =
    let fits = c.account_fits.ensures.0 c.if-not-account_fits.false in
    let accounts : length c.self.inside.accounts.items < THINGS_MAX = omega (arith, c.len.ensures, fits.2) in
    let folders : length c.self.inside.folders.items < THINGS_MAX = omega (arith, c.len-2.ensures, fits.3) in
    let own = c.in-Some.own in
    let text : IsTextOfAddress c.args.address.now own = subst (λ (o : Option Address). IfSome o (IsTextOfAddress c.args.address.now)) c.in-Some.is c.in_ok-own.ensures.some in
    let order : IsInOrder (kept_of c.self.inside) (records.Account c.args.address.now c.args.password.now) = (((own, text), fits.0), fits.1, accounts, folders) in
    record {
      in_order = subst (λ (s : StoreState). IsInOrder s.kept (records.Account c.args.address.now c.args.password.now)) c.self.view_is order;
      own = own;
      text = text;
      key_is = c.in_ok-mailbox_key.ensures;
    }
