use Rattle.std.proofs.Common.{refl}
use Rattle.std.proofs.lemmas.Result.{on_ok_weaker}
use Rattle.imap_session.proofs.SectionLemmas.{fields_added}
use Rattle.imap_session.proofs.views.put_fields.Goals as goal

pub returns : goal.returns
returns c = on_ok_weaker c.push_slice.result (λ put.
    fields_added c.args.asked.now c.args.chosen c.args.header.now c.chosen_fields.new.out (record { at = 0; len = c.len.result }) c.partial_span-span.result c.as_slice.result.now
    c.args.pending.now c.push_head.new.pending c.push_slice.new.self
    (rw c.new-text.ensures at c.in_ok-chosen_fields.ensures.ok) refl c.len.ensures c.partial_span-span.ensures c.as_slice.ensures c.in_ok-push_head.ensures put) c.push_slice.ensures.ok
