use Rattle.std.proofs.Common.{arith}
use Rattle.journal_records.proofs.FrameLemmas.{cut_short}
use Rattle.journal_records.proofs.frames.frame_of.Goals as goal

pub returns-then-left-len-clause-frame : goal.returns-then-left-len-clause-frame
returns-then-left-len-clause-frame c = λ octets len begins.
    let short = c.if-left-len.true in
    let room = c.requires.left in
    cut_short c.args.front.now octets c.from_be_bytes-len.result (λ i. omega (arith, c.type_inv.front i)) c.requires.four c.from_be_bytes-len.ensures begins (omega (arith, c.if-len-eq0.false)) c.if-len-gt-RECORD_MAX.false (omega (arith, len, short, room))
