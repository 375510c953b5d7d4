use Rattle.std.proofs.Common.{arith, refl, sym, ◌∙◌, ◌<◌, length, subst}
use Rattle.std.proofs.lemmas.Option.{slice_get_read}
use Rattle.mail_store.specs.private.Store.{kept_of}
use Rattle.mail_store.specs.StoreState.{StoreState}
use Rattle.mail_store.proofs.IndexLemmas.{first_folder_within}
use Rattle.mail_store.proofs.storing.Store.inbox.Goals as goal

pub returns-clause-known : goal.returns-clause-known
returns-clause-known c =
    let i = c.self.invariant.indexes in
    let there : c.args.account < length c.self.inside.inboxes.items = omega (arith, i.account_count, rw (← c.self.view_is) at c.requires) in
    let got = slice_get_read c.self.inside.inboxes.items (length c.self.inside.inboxes.items) c.args.account c.index.result.now refl there c.index.ensures in
    let within = first_folder_within c.args.account 0 (kept_of c.self.inside).folders c.index.result.now (sym (i.inboxes_is c.args.account) ∙ got) in
    subst (λ (s : StoreState). c.index.result.now < length s.kept.folders) c.self.view_is (omega (arith, within))
