use Rattle.std.proofs.Common.{◌≡◌, None, sym, subst}
use Rattle.mail_store.specs.Changing.{IsDeliverable, delivery_refusal}
use Rattle.mail_store.specs.private.Store.{state_of}
use Rattle.mail_store.proofs.DeliveryLemmas.{queued-writable, copies-short, delivery_free, delivered-text}
use Rattle.mail_store.proofs.storing.Store.made_batch.Goals as goal

pub waiting_of-requires-clause-addresses : goal.waiting_of-requires-clause-addresses
waiting_of-requires-clause-addresses c = λ k d l. (c.requires.deliverable.addresses k d l).0

pub waiting_of-requires-clause-writable : goal.waiting_of-requires-clause-writable
waiting_of-requires-clause-writable c =
    let delivery = c.args.delivery.now in
    let small = delivery_free (state_of c.self.inside) delivery (subst (λ s. delivery_refusal s delivery ≡ None) (sym c.self.view_is) c.requires.taken) in
    queued-writable (state_of c.self.inside) delivery (subst (λ s. IsDeliverable s delivery) (sym c.self.view_is) c.requires.deliverable) c.self.invariant.message_bound small

pub copy_fronts-requires-clause-short : goal.copy_fronts-requires-clause-short
copy_fronts-requires-clause-short c =
    let delivery = c.args.delivery.now in
    let small = delivery_free (state_of c.self.inside) delivery (subst (λ s. delivery_refusal s delivery ≡ None) (sym c.self.view_is) c.requires.taken) in
    copies-short (state_of c.self.inside) delivery (subst (λ s. IsDeliverable s delivery) (sym c.self.view_is) c.requires.deliverable) c.self.invariant.message_bound small

pub returns-clause-text : goal.returns-clause-text
returns-clause-text c =
    delivered-text c.args.self.now.kept c.args.delivery.now c.in_ok-fronts.fronts.items c.in_ok-waiting.waiting.front c.in_ok-fronts.ensures c.in_ok-waiting.ensures.front
