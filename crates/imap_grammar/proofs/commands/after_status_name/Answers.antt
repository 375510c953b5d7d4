use Rattle.imap_words.specs.Reading.{never}
use Rattle.imap_words.proofs.Going.{begins, ends_at, passes_on, never_avoids, then_viable}
use Rattle.imap_words.proofs.Leaving.{leaves_all, leaves_then, here}
use Rattle.imap_grammar.specs.Awaiting.{IsAfterStatusName}
use Rattle.imap_grammar.proofs.CommandSteps.{hands_all, bare_viable, statuses_viable}
use Rattle.imap_grammar.proofs.commands.after_status_name.Goals as goal

pub returns-in_err-after_space-clause-reads : goal.returns-in_err-after_space-clause-reads
returns-in_err-after_space-clause-reads c =
    passes_on _ _ c.from_residual.result _ c.from_residual.ensures.1
    (ends_at never never _ (begins (IsAfterStatusName c.args.name) c.args.text.now) c.in_err-after_space.ensures (λ _. never_avoids _) (λ _. then_viable _ _ statuses_viable (λ items. bare_viable _)))

pub returns-in_err-items-clause-reads : goal.returns-in_err-items-clause-reads
returns-in_err-items-clause-reads c =
    let at = leaves_then (leaves_all (IsAfterStatusName c.args.name) c.args.text.now) c.in_ok-after_space.ensures (λ _. never_avoids _) in
    passes_on _ _ c.from_residual-in_err-items.result _ c.from_residual-in_err-items.ensures.1 (ends_at never never _ (here at) c.in_err-items.ensures (λ _. never_avoids _) (λ items. bare_viable _))

pub returns-clause-reads : goal.returns-clause-reads
returns-clause-reads c =
    let at = leaves_then (leaves_all (IsAfterStatusName c.args.name) c.args.text.now) c.in_ok-after_space.ensures (λ _. never_avoids _) in
    hands_all _ (leaves_then at c.in_ok-items.ensures (λ _. never_avoids _)) c.bare.ensures.reads
