use Rattle.std.proofs.Common.{◌≡◌, ◌∙◌, ℕ, ap, rules}
use Rattle.std.specs.Global.{Vec}
use Rattle.imap_session.proofs.FolderLemmas.{folder_made, permanent}
use Rattle.imap_session.proofs.folders.folder_lines.Goals.{then-read_only, else-read_only}
use Rattle.imap_session.proofs.folders.folder_lines.Goals as goal

pub returns : goal.returns
returns c = λ oracles.
    let told : c.if-read_only.permanent.now ≡ permanent c.args.read_only = elim c.if-read_only.branch [
      | then-read_only w ↦ rw (w.if-read_only.true, w.permanent-is) (search rules)
      | else-read_only w ↦ rw (w.if-read_only.false, w.permanent-is) (search rules)
    ] in
    folder_made oracles c.args.store.now c.args.folder c.args.read_only c.args.count c.uid_next-next.result c.if-read_only.permanent.now c.from_vec.result c.requires.count c.uid_next-next.ensures told
    (c.from_vec.ensures ∙ ap (λ (v : Vec ℕ). v.items) c.into_bytes.ensures.value ∙ c.in_ok-lines.ensures.ok)
