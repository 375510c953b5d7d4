use Rattle.imap_words.specs.Reading.{never, always}
use Rattle.imap_words.specs.Tokens.{is_tag_char}
use Rattle.imap_words.specs.declared.tokens.Kind.TheVariants.{Tag}
use Rattle.imap_words.proofs.Going.{begins, ends_at, passes_on, never_avoids, is_viable}
use Rattle.imap_words.proofs.Leaving.{leaves_then, here}
use Rattle.imap_grammar.specs.Commands.{IsCommand}
use Rattle.imap_grammar.proofs.CommandSteps.{spaced_avoids}
use Rattle.imap_grammar.proofs.LineSteps.{arguments_viable, names_viable, space_viable, tag_leaves, line_comes}
use Rattle.imap_grammar.proofs.reader.begun_line.Goals as goal

pub returns-in_err-after_tag-clause-reads : goal.returns-in_err-after_tag-clause-reads
returns-in_err-after_tag-clause-reads c =
    passes_on _ _ c.from_residual.result _ c.from_residual.ensures.1
    (ends_at (always is_tag_char) never _ (begins (IsCommand c.args.utf8) c.args.line.now) c.in_err-after_tag.ensures (λ u. spaced_avoids Tag _) (space_viable c.args.utf8))

pub returns-in_err-after_space-clause-reads : goal.returns-in_err-after_space-clause-reads
returns-in_err-after_space-clause-reads c =
    passes_on _ _ c.from_residual-in_err-after_space.result _ c.from_residual-in_err-after_space.ensures.1
    (ends_at never never _ (here (tag_leaves c.args.utf8 c.args.line.now _ _ c.in_ok-after_tag.ensures)) c.in_err-after_space.ensures (λ _. never_avoids _) (λ _. names_viable c.args.utf8 _))

pub returns-in_err-name-clause-reads : goal.returns-in_err-name-clause-reads
returns-in_err-name-clause-reads c =
    let names = leaves_then (tag_leaves c.args.utf8 c.args.line.now _ _ c.in_ok-after_tag.ensures) c.in_ok-after_space.ensures (λ _. never_avoids _) in
    passes_on _ _ c.from_residual-in_err-name.result _ c.from_residual-in_err-name.ensures.1 (ends_at never never _ (here names) c.in_err-name.ensures (λ _. never_avoids _) (arguments_viable c.args.utf8 _))

pub returns-in_err-next-clause-reads : goal.returns-in_err-next-clause-reads
returns-in_err-next-clause-reads c =
    let names = leaves_then (tag_leaves c.args.utf8 c.args.line.now _ _ c.in_ok-after_tag.ensures) c.in_ok-after_space.ensures (λ _. never_avoids _) in
    let arguments = leaves_then names c.in_ok-name.ensures (λ _. never_avoids _) in
    passes_on _ _ c.from_residual-in_err-next.result _ c.from_residual-in_err-next.ensures.1 (ends_at never never _ (here arguments) c.in_err-next.ensures.reads (λ _. never_avoids _) (λ d. is_viable _))

pub returns-clause-reads : goal.returns-clause-reads
returns-clause-reads c = line_comes c.args.utf8 c.args.line.now _ _ _ _ _ _ _ c.in_ok-after_tag.ensures c.in_ok-after_space.ensures c.in_ok-name.ensures c.in_ok-next.ensures.reads
