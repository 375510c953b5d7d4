use Rattle.std.proofs.Common.{◌≡◌, true, length, arith, ◌+◌}
use Rattle.std.proofs.lemmas.Slice.{between_to_end}
use Rattle.mail_wire.proofs.MessageLemmas.{first_found, scanned_crlf, none_found}
use Rattle.mail_wire.proofs.message.first_faulty.Goals as goal

pub returns-then-not-begins_crlf : goal.returns-then-not-begins_crlf
returns-then-not-begins_crlf c =
    let octets = c.args.octets.now in
    let first = rw (between_to_end octets c.loop-passed.at (length octets) (omega arith)) at c.in-Some.ensures in
    let following = between_to_end octets (c.loop-passed.at + c.in-Some.passed) (length octets) (omega arith) in
    first_found octets c.loop-passed.at c.in-Some.passed c.loop-passed.invariant first
    (λ begins. let is : c.begins_crlf.result ≡ true = c.begins_crlf.ensures.1 (rw following begins) in cc)

pub loop-passed-preserved : goal.loop-passed-preserved
loop-passed-preserved c =
    let octets = c.args.octets.now in
    let first = rw (between_to_end octets c.loop-passed.at (length octets) (omega arith)) at c.in-Some.ensures in
    let following = between_to_end octets (c.loop-passed.at + c.in-Some.passed) (length octets) (omega arith) in
    scanned_crlf octets c.loop-passed.at c.in-Some.passed c.loop-passed.invariant first
    (rw following at (c.begins_crlf.ensures.0 c.if-not-begins_crlf.false))

pub returns : goal.returns
returns c =
    let octets = c.args.octets.now in
    none_found octets c.loop-passed.at c.loop-passed.invariant (rw (between_to_end octets c.loop-passed.at (length octets) (omega arith)) at c.in_default.ensures)
