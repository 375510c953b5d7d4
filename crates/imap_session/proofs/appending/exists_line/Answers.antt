use Rattle.std.proofs.Common.{◌≡◌, ◌∙◌, ℕ, ap, rules}
use Rattle.std.specs.Global.{Vec}
use Rattle.imap_session.proofs.AppendLemmas.{exists_told}
use Rattle.imap_session.proofs.appending.exists_line.Goals as goal

pub returns : goal.returns
returns c = λ oracles kept count.
    let same : c.args.opened ≡ c.in-In.folder = search rules in
    rw c.in-In.is (exists_told oracles kept c.args.opened c.in-In.folder c.args.count c.from_vec.result same count
    (c.from_vec.ensures ∙ ap (λ (v : Vec ℕ). v.items) c.into_bytes.ensures.value ∙ c.in_ok-line.ensures.ok))
