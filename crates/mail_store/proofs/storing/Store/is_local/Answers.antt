use Rattle.std.proofs.Common.{◌≡◌, ◌∙◌, subst}
use Rattle.kept_mail.specs.Kept.{is_local}
use Rattle.mail_store.specs.private.Store.{kept_of, indexes_of}
use Rattle.mail_store.specs.StoreState.{StoreState}
use Rattle.mail_store.proofs.MailboxLemmas.{local_is}
use Rattle.mail_store.proofs.storing.Store.is_local.Goals as goal

pub returns : goal.returns
returns c =
    subst (λ (s : StoreState). c.is_some.result ≡ is_local s.kept c.args.domain.now) c.self.view_is
    (c.is_some.ensures
    ∙ local_is (kept_of c.self.inside) (indexes_of c.self.inside) c.self.invariant.indexes c.args.domain.now c.as_slice.result.now c.number_of.result
    (c.as_slice.ensures ∙ c.in_ok-key.ensures) c.number_of.ensures)
