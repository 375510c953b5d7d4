use Rattle.imap_session.proofs.FolderLemmas.{status_made}
use Rattle.imap_session.proofs.folders.status_line.Goals as goal

pub returns : goal.returns
returns g c = λ oracles.
    status_made oracles g.V.View.mode c.args.store.now c.args.folder c.args.items.now c.in_ok-name.name c.in_ok-texts.texts c.push_status.new.line c.in_ok-name.ensures c.in_ok-texts.ensures
    (rw (c.as_slice.ensures, c.as_slice-2.ensures, c.new-line.ensures) at c.in_ok-push_status.ensures)
