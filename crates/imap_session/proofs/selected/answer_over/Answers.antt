use Rattle.std.proofs.Common.{◌≡◌, ◌∙◌, sym, subst}
use Rattle.std.specs.List.Sorted.{IsStrictlyIncreasing}
use Rattle.std.proofs.lemmas.Result.{err_from_is_err_and}
use Rattle.mail_wire.specs.declared.outside.Fault.TheVariants as fault
use Rattle.mail_store.proofs.UidLemmas.{uids_rise}
use Rattle.imap_mailboxes.specs.Sets.{chosen_places, is_refused}
use Rattle.session_core.specs.Keeps.{fault_of}
use Rattle.session_core.proofs.DoingLemmas.{DoesFirst-none}
use Rattle.imap_session.specs.Machine.{for_each}
use Rattle.imap_session.specs.Replies.{part_octets}
use Rattle.imap_session.proofs.SelectedLemmas.{chosen_rise, none_refused, set_refused, set_taken, some_taken}
use Rattle.imap_session.proofs.selected.answer_over.Goals as goal

pub places-requires-clause-uids_rise : goal.places-requires-clause-uids_rise
places-requires-clause-uids_rise g c = rw (c.deref.ensures.value, c.requires.listing.are) (uids_rise c.args.outside.now.desk.store.kept c.requires.listing.folder)

pub returns-in_err-places-clause-does : goal.returns-in_err-places-clause-does
returns-in_err-places-clause-does g c = λ oracles are state.
    let failed = err_from_is_err_and c.from_residual.result c.from_residual.ensures.1 in
    let acts = (for_each c.args.tag.now state c.args.by_uid c.args.set.now c.args.messages.now.items (g.E.EachMessage.acts c.args.each.now oracles c.args.outside.now.desk.store)).acts in
    rw (failed.1, failed.2) (DoesFirst-none (part_octets oracles) c.args.outside.now fault.Memory acts (λ bad. cc))

pub returns-in_default-clause-does : goal.returns-in_default-clause-does
returns-in_default-clause-does g c = λ oracles are state.
    let refused = none_refused c.in_ok-places.field-0 (is_refused c.args.by_uid c.args.set.now c.args.messages.now.items) (rw c.deref.ensures.value at c.in_ok-places.ensures.refused) c.in_default.is in
    set_refused oracles c.args.outside.now c.say.new.outside (fault_of c.say.result) c.args.tag.now state c.args.by_uid c.args.set.now c.args.messages.now.items
    (g.E.EachMessage.acts c.args.each.now oracles c.args.outside.now.desk.store) refused c.say.ensures.replies

pub answer_each-requires-clause-rising : goal.answer_each-requires-clause-rising
answer_each-requires-clause-rising g c =
    let chosen : c.in-Some.places.items ≡ chosen_places c.args.by_uid c.args.set.now c.args.messages.now.items = rw (c.in-Some.is, c.deref.ensures.value) at c.in_ok-places.ensures.chosen in
    subst IsStrictlyIncreasing (sym (c.deref-2.ensures.value ∙ chosen)) (chosen_rise c.args.by_uid c.args.set.now c.args.messages.now.items)

pub returns-clause-does : goal.returns-clause-does
returns-clause-does g c = λ oracles are state.
    let chosen : c.in-Some.places.items ≡ chosen_places c.args.by_uid c.args.set.now c.args.messages.now.items = rw (c.in-Some.is, c.deref.ensures.value) at c.in_ok-places.ensures.chosen in
    let taken = some_taken c.in_ok-places.field-0 c.in-Some.places (is_refused c.args.by_uid c.args.set.now c.args.messages.now.items) (rw c.deref.ensures.value at c.in_ok-places.ensures.refused) c.in-Some.is in
    set_taken oracles c.args.outside.now c.answer_each.new.outside (fault_of c.answer_each.result) c.args.tag.now state c.args.by_uid c.args.set.now c.args.messages.now.items
    (g.E.EachMessage.acts c.args.each.now oracles c.args.outside.now.desk.store) c.deref-2.result.now taken (c.deref-2.ensures.value ∙ chosen) (c.answer_each.ensures.does oracles are state)
