use Rattle.std.proofs.Common.{sym, ap, ◌∙◌, arith}
use Rattle.imap_mailboxes.specs.Flags.{stored_flags}
use Rattle.imap_mailboxes.proofs.FlagLemmas.{stored-replace, stored-add, stored-remove}
use Rattle.imap_mailboxes.proofs.flags.stored_flags.Goals as goal

pub returns-in-Replace-clause-value : goal.returns-in-Replace-clause-value
returns-in-Replace-clause-value c = stored-replace c.args.old c.args.named ∙ ap (λ op. stored_flags op c.args.old c.args.named) (sym c.in-Replace.is)

pub returns-in-Add-clause-value : goal.returns-in-Add-clause-value
returns-in-Add-clause-value c = stored-add c.args.old c.args.named ∙ ap (λ op. stored_flags op c.args.old c.args.named) (sym c.in-Add.is)

pub returns-in-Remove-clause-value : goal.returns-in-Remove-clause-value
returns-in-Remove-clause-value c = stored-remove c.args.old c.args.named (omega arith) ∙ ap (λ op. stored_flags op c.args.old c.args.named) (sym c.in-Remove.is)
