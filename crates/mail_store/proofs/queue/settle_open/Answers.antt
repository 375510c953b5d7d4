use Rattle.std.proofs.Common.{◌∙◌, ap, arith}
use Rattle.std.specs.BTreeMap.{is_at}
use Rattle.std.specs.Map.{remove_entry}
use Rattle.std.specs.Ordering.{nat_cmp}
use Rattle.mail_store.proofs.WaitingLemmas.{is_counted, is_closed, stays_open}
use Rattle.mail_store.proofs.queue.settle_open.Goals as goal

pub count_down-left-requires : goal.count_down-left-requires
count_down-left-requires c = is_counted c.args.entries.now.items c.args.at c.args.index c.args.counts.now.entries c.requires.unsettled c.requires.counts

pub returns-then-left-eq0-clause-counts : goal.returns-then-left-eq0-clause-counts
returns-then-left-eq0-clause-counts c =
    c.remove-was.ensures.entries ∙ ap (remove_entry (is_at (nat_cmp c.args.at))) c.count_down-left.ensures.is
    ∙ is_closed c.args.entries.now.items c.settle_at.new.entries.items c.args.at c.args.index c.args.counts.now.entries c.count_down-left.result c.requires.unsettled c.settle_at.ensures
    c.requires.counts c.count_down-left.ensures.was c.if-left-eq0.true

pub returns-else-left-eq0-clause-counts : goal.returns-else-left-eq0-clause-counts
returns-else-left-eq0-clause-counts c =
    c.count_down-left.ensures.is
    ∙ stays_open c.args.entries.now.items c.settle_at.new.entries.items c.args.at c.args.index c.args.counts.now.entries c.count_down-left.result c.requires.unsettled c.settle_at.ensures
    c.requires.counts c.count_down-left.ensures.was (omega (arith, c.if-left-eq0.false))
