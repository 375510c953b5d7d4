use Rattle.std.proofs.Common.{◌≡◌, ap, arith, length}
use Rattle.std.proofs.lemmas.Grind.{common_steps}
use Rattle.kept_mail.specs.Kept.{listed}
use Rattle.mail_store.specs.private.Store.{kept_of, indexes_of}
use Rattle.mail_store.proofs.Answering.{folder_chain}
use Rattle.mail_store.proofs.ListedLemmas.{listed_few}
use Rattle.mail_store.proofs.storing.Store.list.Goals as goal

pub list_back-requires-clause-known : goal.list_back-requires-clause-known
list_back-requires-clause-known c =
    let f = folder_chain (kept_of c.self.inside) (indexes_of c.self.inside) c.args.folder c.index-content.result.now c.self.invariant.indexes (rw (← c.self.view_is) at c.requires) c.index-content.ensures in
    rw (c.deref.ensures.value, c.deref-2.ensures.value) f.known

pub returns-clause-listing : goal.returns-clause-listing
returns-clause-listing c = grind (arith, common_steps)

pub returns-clause-few : goal.returns-clause-few
returns-clause-few c =
    let all : c.reverse.new.self.items ≡ listed c.args.self.now.kept c.args.folder = returns-clause-listing c in
    let is = rw (← c.self.view_is) at all in
    omega (arith, ap length is, listed_few (kept_of c.self.inside) c.args.folder, c.self.invariant.indexes.few.messages)
