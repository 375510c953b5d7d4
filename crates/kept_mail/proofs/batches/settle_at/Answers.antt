use Rattle.std.proofs.Common.{List, ap}
use Rattle.kept_mail.specs.declared.kept.Recipient.{Recipient}
use Rattle.kept_mail.specs.declared.kept.Entry.{Entry}
use Rattle.kept_mail.proofs.QueueLemmas.{unsettled_within, set-without}
use Rattle.kept_mail.proofs.batches.settle_at.Goals as goal

pub returns : goal.returns
returns c =
    let x : Entry = c.index_mut-entry.result.now in
    let es = c.args.entries.now.items in
    let is = c.index_mut-entry.ensures.value in
    let within = unsettled_within es c.args.at c.args.index x c.requires is in
    let made : Entry = record x { recipients = c.settle.new.self } in
    set-without es c.args.at c.args.index x made within.0 is (ap (λ (r : List Recipient). let e : Entry = record x { recipients = r } in e) c.settle.ensures)
