use Rattle.std.proofs.Common.{◌<◌, ◌^◌, length, arith}
use Rattle.surrogate_rope.specs.Served.{shown_octets}
use Rattle.imap_session.proofs.RangeLemmas.{found_below, found_within}
use Rattle.imap_session.proofs.sections.find.Goals as goal

pub returns-clause-within : goal.returns-clause-within
returns-clause-within c = found_within c.args.msg.now c.args.shown.now c.args.asked.now.path.now c.place_of.result c.section.result c.requires c.section.ensures

pub returns-clause-fits : goal.returns-clause-fits
returns-clause-fits c =
    let size = length (shown_octets c.args.msg.now c.args.shown.now) in
    let few : size < 2 ^ 64 = omega (arith, c.size-size.ensures) in
    found_below c.section.result size (2 ^ 64) few
    (found_within c.args.msg.now c.args.shown.now c.args.asked.now.path.now c.place_of.result c.section.result c.requires c.section.ensures)
