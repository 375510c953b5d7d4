use Rattle.std.proofs.Common.{◌≡◌, [], Some}
use Rattle.mime_tree.specs.declared.sections.Part.TheVariants.{Header}
use Rattle.mime_tree.specs.Sections.{section}
use Rattle.surrogate_rope.specs.Ropes.{octets_of}
use Rattle.utf8_reports.proofs.HeldHeaders.{section_holds}
use Rattle.utf8_reports.proofs.Roots.{header_there}
use Rattle.utf8_reports.proofs.shown.header_span.Goals as goal

pub unreachable-requires : goal.unreachable-requires
unreachable-requires c =
    let is = c.requires.1 in
    let there = (header_there (octets_of c.requires.0 c.args.rope.now) is.others c.args.rope.now.entities is.made_tree is.outlines).1 in
    let section = c.section.ensures in
    let none = c.in-None.is in
    cc

pub returns : goal.returns
returns c =
    let section_is = c.section.ensures in
    let some = c.in-Some.is in
    let found : Some c.in-Some.span ≡ section c.args.rope.now.entities [] Header = cc in
    λ msg is. section_holds (octets_of msg c.args.rope.now) is.others c.args.rope.now.entities c.in-Some.span is.made_tree is.outlines found
