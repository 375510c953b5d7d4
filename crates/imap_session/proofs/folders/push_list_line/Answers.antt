use Rattle.std.proofs.Common.{◌∙◌, ap, sym, refl}
use Rattle.imap_mailboxes.specs.Names.{quoted}
use Rattle.imap_mailboxes.specs.Patterns.{is_match}
use Rattle.imap_session.proofs.FolderLemmas.{list_line-shown}
use Rattle.imap_session.proofs.folders.push_list_line.Goals as goal

pub returns : goal.returns
returns g c = λ oracles.
    list_line-shown oracles g.V.View.mode c.args.pattern.now c.args.name.now c.args.lines.now c.in_ok-shown.shown c.in_ok-quoted.quoted c.push_slice-2.new.self c.push_slice-3.new.self c.push_slice-3.result
    c.in_ok-shown.ensures (ap (is_match c.args.pattern.now) (sym c.as_slice.ensures) ∙ sym c.matches.ensures ∙ c.if-not-matches.false) (c.in_ok-quoted.ensures ∙ ap quoted c.as_slice-2.ensures)
    (c.in_ok-push_slice-2.ensures.ok ∙ (rw (c.in_ok-push_slice.ensures.ok, c.as_slice-3.ensures) refl)) c.push_slice-3.ensures.ok
