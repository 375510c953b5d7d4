use Rattle.std.proofs.Common.{arith, ap, ◌∙◌}
use Rattle.kept_mail.specs.Kept.{uid_next}
use Rattle.mail_store.specs.private.Store.{kept_of, indexes_of}
use Rattle.mail_store.specs.StoreState.{StoreState}
use Rattle.mail_store.proofs.Answering.{uid_is}
use Rattle.mail_store.proofs.storing.Store.uid_next.Goals as goal

pub overflow_add-result : goal.overflow_add-result
overflow_add-result c =
    let u = uid_is (kept_of c.self.inside) (indexes_of c.self.inside) c.args.folder c.index.result.now c.self.invariant.indexes (rw (← c.self.view_is) at c.requires) c.index.ensures in
    omega (arith, u.1)

pub returns : goal.returns
returns c =
    let u = uid_is (kept_of c.self.inside) (indexes_of c.self.inside) c.args.folder c.index.result.now c.self.invariant.indexes (rw (← c.self.view_is) at c.requires) c.index.ensures in
    u.0 ∙ ap (λ (s : StoreState). uid_next s.kept c.args.folder) c.self.view_is
