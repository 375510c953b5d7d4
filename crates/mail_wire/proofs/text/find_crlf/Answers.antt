use Rattle.std.proofs.Common.{length, arith}
use Rattle.std.proofs.lemmas.Bool.{both_ways}
use Rattle.std.proofs.lemmas.Slice.{between_to_end}
use Rattle.mail_wire.proofs.CrlfSearch.{crlf_found, lf_passed, none_left}
use Rattle.mail_wire.proofs.text.find_crlf.Goals as goal

pub returns-then-is_following_cr : goal.returns-then-is_following_cr
returns-then-is_following_cr c =
    let octets = c.args.octets.now in
    let first = rw (between_to_end octets c.loop-passed.at (length octets) (omega arith)) at c.in-Some.ensures in
    crlf_found octets c.loop-passed.at c.in-Some.passed c.loop-passed.invariant first (c.is_following_cr.ensures.0 c.if-is_following_cr.true)

pub loop-passed-preserved : goal.loop-passed-preserved
loop-passed-preserved c =
    let octets = c.args.octets.now in
    let first = rw (between_to_end octets c.loop-passed.at (length octets) (omega arith)) at c.in-Some.ensures in
    lf_passed octets c.loop-passed.at c.in-Some.passed c.loop-passed.invariant first
    (λ cr. both_ways c.is_following_cr.result c.if-is_following_cr.false (c.is_following_cr.ensures.1 cr))

pub returns : goal.returns
returns c =
    let octets = c.args.octets.now in
    none_left octets c.loop-passed.at c.loop-passed.invariant (rw (between_to_end octets c.loop-passed.at (length octets) (omega arith)) at c.in_default.ensures)
