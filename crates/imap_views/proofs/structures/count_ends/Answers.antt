use Rattle.std.proofs.Common.{refl, ne_eqb}
use Rattle.imap_views.proofs.Counting.{goes_on_end, goes_on_other}
use Rattle.imap_views.proofs.structures.count_ends.Goals as goal
use Rattle.imap_views.proofs.structures.count_ends.Goals.{then-is_after_cr+then-octet-eq10, else-is_after_cr, else-is_after_cr-via-then-is_after_cr+else-octet-eq10, else-is_after_cr-via-else-is_after_cr}

pub loop-octet-preserved : goal.loop-octet-preserved
loop-octet-preserved c =
    let octets = c.args.octets.now in
    let at = c.loop-octet.octet-index in
    elim c.if-is_after_cr.branch [
      | then-is_after_cr+then-octet-eq10 w ↦
          rw w.count-is (goes_on_end octets c.args.is_after_cr at c.loop-octet.count c.loop-octet.is_after_cr c.loop-octet-test.true w.if-is_after_cr.true w.if-octet-eq10.true c.loop-octet.invariant)
      | else-is_after_cr w ↦ elim w.else-is_after_cr.branch [
        | else-is_after_cr-via-then-is_after_cr+else-octet-eq10 w' ↦
            rw w.count-is (goes_on_other octets c.args.is_after_cr at c.loop-octet.count c.loop-octet.is_after_cr c.loop-octet-test.true (rw (w'.if-is_after_cr.true, ne_eqb _ 10 w'.if-octet-eq10.false) refl) c.loop-octet.invariant)
        | else-is_after_cr-via-else-is_after_cr w' ↦
            rw w.count-is (goes_on_other octets c.args.is_after_cr at c.loop-octet.count c.loop-octet.is_after_cr c.loop-octet-test.true (rw w'.if-is_after_cr.false refl) c.loop-octet.invariant)
      ]
    ]
