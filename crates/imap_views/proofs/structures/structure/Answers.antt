use Rattle.std.proofs.Common.{map, subst}
use Rattle.surrogate_rope.specs.Served.{seen_outline}
use Rattle.imap_views.specs.declared.structures.Seeing.{Seeing}
use Rattle.imap_views.specs.private.Reading.{HasChildren}
use Rattle.imap_views.proofs.Forms.{is_seeing, seeing_stands}
use Rattle.imap_views.proofs.structures.structure.Goals as goal

pub push_form-requires-clause-standing : goal.push_form-requires-clause-standing
push_form-requires-clause-standing c =
    let seeing : Seeing = record { shown = c.args.shown; msg = c.args.msg; outlines = c.in_ok-outlines.outlines; children = c.in_ok-children.children; extended = c.args.extended } in
    seeing_stands seeing (is_seeing seeing c.requires c.in_ok-outlines.ensures (subst (λ items. HasChildren (map seen_outline items) seeing.children.items) c.deref.ensures.value c.in_ok-children.ensures))
