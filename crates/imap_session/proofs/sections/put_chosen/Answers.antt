use Rattle.std.proofs.Common.{sym, ◌∙◌, subst}
use Rattle.std.proofs.lemmas.Result.{on_ok_weaker}
use Rattle.surrogate_rope.specs.Served.{shown_octets, shown_outlines}
use Rattle.session_core.specs.Desks.{stored_octets}
use Rattle.imap_views.specs.Fields.{HasSomeBlock}
use Rattle.imap_views.proofs.SectionPlaces.{shown_header_has_block}
use Rattle.imap_session.specs.private.Asking.{wanted_place}
use Rattle.imap_session.proofs.RangeLemmas.{Carries-fields, Carries-nothing, section_found, serving, serving_octets}
use Rattle.imap_session.proofs.sections.put_chosen.Goals as goal

pub returns-in_default : goal.returns-in_default
returns-in_default g c = λ oracles are store alike.
    let asked = c.args.asked.now in
    let msg = stored_octets c.args.outside.now.desk.store c.args.one.now.id in
    let found = section_found oracles are g.V.View.mode store c.args.one.now msg c.args.shown.now asked.path.now (wanted_place asked.wanted) c.find.result (alike.octets c.args.one.now.id) c.requires.shown c.find.ensures.found in
    on_ok_weaker c.push_nil.result
    (λ put. Carries-nothing oracles g.V.View.mode store c.args.one.now asked c.args.outside.now c.args.pending.now c.push_nil.new.pending (found ∙ c.in_default.is) put) c.push_nil.ensures

pub put_fields-requires : goal.put_fields-requires
put_fields-requires g c =
    let asked = c.args.asked.now in
    let msg = stored_octets c.args.outside.now.desk.store c.args.one.now.id in
    let found = rw c.requires.chosen at c.find.ensures.found in
    let block = shown_header_has_block msg c.args.shown.now asked.path.now c.in-Some.span c.requires.shown.0 (sym found ∙ c.in-Some.is) in
    let header = rw c.octets-msg.ensures at c.in_ok-header.ensures in
    subst HasSomeBlock (sym (c.as_slice.ensures ∙ header)) block

pub returns : goal.returns
returns g c = λ oracles are store alike.
    let asked = c.args.asked.now in
    let one = c.args.one.now in
    let msg = stored_octets c.args.outside.now.desk.store one.id in
    let seen = c.args.shown.now in
    let span = c.in-Some.span in
    let found = section_found oracles are g.V.View.mode store one msg seen asked.path.now (wanted_place asked.wanted) c.find.result (alike.octets one.id) c.requires.shown c.find.ensures.found in
    let served = serving_octets oracles g.V.View.mode store one (shown_octets msg seen) (shown_outlines seen) (serving oracles are g.V.View.mode store one msg seen (alike.octets one.id) c.requires.shown) span in
    let header = rw c.octets-msg.ensures at c.in_ok-header.ensures in
    on_ok_weaker c.put_fields.result
    (λ adds. Carries-fields oracles are g.V.View.mode store one asked c.args.chosen span c.as_slice.result.now c.args.outside.now c.args.pending.now c.put_fields.new.pending c.requires.chosen (found ∙ c.in-Some.is)
    (c.as_slice.ensures ∙ (header ∙ sym served)) adds) c.put_fields.ensures
