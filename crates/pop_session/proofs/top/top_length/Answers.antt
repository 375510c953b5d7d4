use Rattle.std.proofs.Common.{take, drop, refl, sym, arith}
use Rattle.std.proofs.lemmas.List.{length-take}
use Rattle.surrogate_rope.specs.Served.{shown_octets}
use Rattle.pop_session.specs.Machine.{top_length as top_length_of}
use Rattle.pop_session.proofs.TopLemmas.{none_counted, piece_counted, read_piece, count_from-le, count_ended}
use Rattle.pop_session.proofs.top.top_length.Goals as goal

pub loop-at-init : goal.loop-at-init
loop-at-init c = record {
  counted = none_counted (shown_octets c.args.msg.now c.args.shown.now) c.args.lines c.new-scan.result c.new-scan.ensures;
  size = c.size-size.ensures;
}

pub loop-at-preserved : goal.loop-at-preserved
loop-at-preserved c =
    let octets = shown_octets c.args.msg.now c.args.shown.now in
    let piece = take c.read_at-count.result c.read_at-count.new.into in
    let read = read_piece octets c.read_at-count.new.into c.loop-at.piece piece c.loop-at.at c.read_at-count.result c.read_at-count.ensures.count c.read_at-count.ensures.octets refl in
    record {
      counted = piece_counted octets piece (top_length_of c.args.lines octets) c.loop-at.at c.read_at-count.result c.read_piece-at.result c.loop-at.scan c.read_piece-at.new.self read
          (omega (arith, c.read_at-count.ensures.count)) c.loop-at.invariant.counted c.read_piece-at.ensures.scan c.read_piece-at.ensures.count;
      size = c.size-size.ensures;
    }

pub overflow_add-at : goal.overflow_add-at
overflow_add-at c =
    let piece = take c.read_at-count.result c.read_at-count.new.into in
    omega (arith, count_from-le c.loop-at.scan piece, length-take c.read_at-count.result c.read_at-count.new.into, c.read_piece-at.ensures.count, c.read_at-count.ensures.count, c.size-size.ensures)

pub returns-else-not-is_ended-clause-length : goal.returns-else-not-is_ended-clause-length
returns-else-not-is_ended-clause-length c =
    let octets = shown_octets c.args.msg.now c.args.shown.now in
    omega (arith, c.loop-at.invariant.counted.count, count_ended c.loop-at.scan (drop c.loop-at.at octets) (sym c.if-not-is_ended.ensures))
