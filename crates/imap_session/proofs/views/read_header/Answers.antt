use Rattle.std.proofs.Common.{[], sym, ◌∙◌, subst}
use Rattle.std.proofs.lemmas.Result.{IfOk-weaker}
use Rattle.mime_tree.specs.declared.sections.Part.TheVariants.{Header}
use Rattle.imap_views.specs.Fields.{HasSomeBlock}
use Rattle.imap_views.proofs.SectionPlaces.{shown_has_header, shown_header_has_block, shown_section_within}
use Rattle.imap_session.proofs.views.read_header.Goals as goal

pub read_range-requires-clause-within : goal.read_range-requires-clause-within
read_range-requires-clause-within c = shown_section_within c.args.msg.now c.args.shown.now [] Header c.in-Some.span c.requires (sym c.section.ensures ∙ c.in-Some.is)

pub unreachable-requires : goal.unreachable-requires
unreachable-requires c =
    let there = shown_has_header c.args.msg.now c.args.shown.now c.requires in
    let clash = sym there.1 ∙ (sym c.section.ensures ∙ c.in-None.is) in
    cc

pub returns-clause-block : goal.returns-clause-block
returns-clause-block c =
    let block = shown_header_has_block c.args.msg.now c.args.shown.now [] c.in-Some.span c.requires (sym c.section.ensures ∙ c.in-Some.is) in
    IfOk-weaker c.read_range.result _ HasSomeBlock (λ made is. subst HasSomeBlock (sym is) block) c.read_range.ensures
