use Rattle.std.proofs.Common.{◌<◌, length, rules}
use Rattle.std.proofs.lemmas.List.Sorted.{IsNonDecreasingBy-from_sort_by_key}
use Rattle.std.proofs.lemmas.List.Elements.{All-same}
use Rattle.imap_mailboxes.specs.declared.sets.Stretch.{Stretch}
use Rattle.imap_mailboxes.specs.Sets.{chosen_places}
use Rattle.imap_mailboxes.proofs.SetLemmas.{uids_rise, chosen_told, chosen_within}
use Rattle.imap_mailboxes.proofs.sets.places.Goals as goal

pub stretches_of-requires-clause-uids_rise : goal.stretches_of-requires-clause-uids_rise
stretches_of-requires-clause-uids_rise c = uids_rise c.args.messages.now c.requires.uids_rise

pub places_of-requires : goal.places_of-requires
places_of-requires c =
    rw c.deref.ensures.value (IsNonDecreasingBy-from_sort_by_key (λ (s : Stretch). s.from) c.sort_unstable_by_key.new.self.items c.sort_unstable_by_key.ensures.sorted (λ a r q k. search rules))

pub returns-clause-chosen : goal.returns-clause-chosen
returns-clause-chosen c =
    chosen_told c.args.by_uid c.last_of-last.result c.args.set.now c.args.messages.now c.in_ok-stretches.stretches.items c.deref.result.now c.in_ok-places_of.field-0.items c.last_of-last.ensures
    c.in_ok-stretches.ensures.among c.in_ok-stretches.ensures.within (rw c.deref.ensures.value c.sort_unstable_by_key.ensures.permutation) c.in_ok-places_of.ensures

pub returns-clause-within : goal.returns-clause-within
returns-clause-within c =
    All-same (λ n. n < length c.args.messages.now) c.in_ok-places_of.field-0.items (chosen_places c.args.by_uid c.args.set.now c.args.messages.now)
    (chosen_told c.args.by_uid c.last_of-last.result c.args.set.now c.args.messages.now c.in_ok-stretches.stretches.items c.deref.result.now c.in_ok-places_of.field-0.items c.last_of-last.ensures
    c.in_ok-stretches.ensures.among c.in_ok-stretches.ensures.within (rw c.deref.ensures.value c.sort_unstable_by_key.ensures.permutation) c.in_ok-places_of.ensures)
    (chosen_within c.args.by_uid c.args.set.now c.args.messages.now)
