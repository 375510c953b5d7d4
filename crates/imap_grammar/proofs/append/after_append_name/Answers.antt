use Rattle.imap_words.specs.Reading.{always, never}
use Rattle.imap_words.proofs.Going.{ends_at, passes_on, never_avoids}
use Rattle.imap_words.proofs.Leaving.{leaves_then, here}
use Rattle.imap_grammar.specs.Commands.{at_octet}
use Rattle.imap_grammar.proofs.CommandSteps.{header_later, data_header}
use Rattle.imap_grammar.proofs.AppendSteps.{name_after, spaced_viable, flags_avoid, flags_viable, date_avoids, date_viable, data_viable}
use Rattle.imap_grammar.proofs.append.after_append_name.Goals as goal

pub returns-in_err-after_space-clause-reads : goal.returns-in_err-after_space-clause-reads
returns-in_err-after_space-clause-reads c =
    passes_on _ _ c.from_residual.result _ c.from_residual.ensures.1 (ends_at never never _ (here (name_after c.args.name c.args.text.now)) c.in_err-after_space.ensures (λ _. never_avoids _) (λ _. spaced_viable c.args.name))

pub returns-in_err-flags-clause-reads : goal.returns-in_err-flags-clause-reads
returns-in_err-flags-clause-reads c =
    let space = leaves_then (name_after c.args.name c.args.text.now) c.in_ok-after_space.ensures (λ _. never_avoids _) in
    passes_on _ _ c.from_residual-in_err-flags.result _ c.from_residual-in_err-flags.ensures.1
    (ends_at (always (at_octet 40)) never _ (here space) c.in_err-flags.ensures (flags_avoid c.args.name) (flags_viable c.args.name))

pub returns-in_err-date-clause-reads : goal.returns-in_err-date-clause-reads
returns-in_err-date-clause-reads c =
    let space = leaves_then (name_after c.args.name c.args.text.now) c.in_ok-after_space.ensures (λ _. never_avoids _) in
    let flags = leaves_then space c.in_ok-flags.ensures (flags_avoid c.args.name) in
    passes_on _ _ c.from_residual-in_err-date.result _ c.from_residual-in_err-date.ensures.1
    (ends_at (always (at_octet 34)) never _ (here flags) c.in_err-date.ensures (date_avoids c.args.name c.in_ok-flags.flags) (date_viable c.args.name c.in_ok-flags.flags))

pub returns-in_err-utf8-clause-reads : goal.returns-in_err-utf8-clause-reads
returns-in_err-utf8-clause-reads c =
    let space = leaves_then (name_after c.args.name c.args.text.now) c.in_ok-after_space.ensures (λ _. never_avoids _) in
    let flags = leaves_then space c.in_ok-flags.ensures (flags_avoid c.args.name) in
    let date = leaves_then flags c.in_ok-date.ensures (date_avoids c.args.name c.in_ok-flags.flags) in
    passes_on _ _ c.from_residual-in_err-utf8.result _ c.from_residual-in_err-utf8.ensures.1
    (ends_at never never _ (here date) c.in_err-utf8.ensures.reads (λ _. never_avoids _) (data_viable c.args.name c.in_ok-flags.flags c.in_ok-date.date))

pub returns-clause-reads : goal.returns-clause-reads
returns-clause-reads c =
    let space = leaves_then (name_after c.args.name c.args.text.now) c.in_ok-after_space.ensures (λ _. never_avoids _) in
    let flags = leaves_then space c.in_ok-flags.ensures (flags_avoid c.args.name) in
    let date = leaves_then flags c.in_ok-date.ensures (date_avoids c.args.name c.in_ok-flags.flags) in
    λ utf8. (header_later date (data_header c.in_ok-utf8.ensures.reads), tt, leaves_then date c.in_ok-utf8.ensures.reads (λ _. never_avoids _))
