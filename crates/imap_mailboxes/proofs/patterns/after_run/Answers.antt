use Rattle.std.proofs.Common.{◌∷◌, ◌+◌, length, sym, ap, ◌∙◌}
use Rattle.std.proofs.lemmas.List.{take_rest}
use Rattle.imap_mailboxes.specs.Patterns.{is_match}
use Rattle.imap_mailboxes.proofs.PatternLemmas.{match-found, match-missing}
use Rattle.imap_mailboxes.proofs.patterns.after_run.Goals as goal

pub returns-in_err-at : goal.returns-in_err-at
returns-in_err-at c = rw c.from_residual.ensures (λ pattern. match-missing c.args.run.now (42 ∷ pattern) c.args.name.now c.requires c.in_err-at.ensures)

pub returns : goal.returns
returns c = λ pattern.
    match-found c.args.run.now pattern c.args.name.now c.in_ok-at.at c.requires c.in_ok-at.ensures.1 c.in_ok-at.ensures.0.before
    ∙ ap (is_match (42 ∷ pattern)) (sym (take_rest c.args.name.now (c.in_ok-at.at + length c.args.run.now)))
