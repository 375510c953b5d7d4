use Rattle.std.proofs.Common.{[], ◌∷◌, ◌++◌, ap, ◌∙◌, arith}
use Rattle.imap_words.specs.Languages.{IsOctet}
use Rattle.imap_words.specs.Reading.{never}
use Rattle.imap_words.specs.Tokens.{IsCloseParenthesis}
use Rattle.imap_words.specs.Keywords.{IsWordOf}
use Rattle.imap_words.proofs.TokenSteps.{octet_viable, octet_never}
use Rattle.imap_words.proofs.Going.{begins, onwards, ends_at, passes_on, never_avoids, then_viable, is_viable, is_reads}
use Rattle.imap_words.proofs.Choosing.{more_viable, list_next, list_separator, list_close, list_open}
use Rattle.imap_words.proofs.KeywordSteps.{word_viable}
use Rattle.imap_grammar.specs.Commands.{IsStatusItems, status_words}
use Rattle.imap_grammar.proofs.CommandSteps.{status_table}
use Rattle.imap_grammar.proofs.commands.status_items.Goals as goal

pub returns-in_err-after_open : goal.returns-in_err-after_open
returns-in_err-after_open c =
    passes_on _ _ c.from_residual.result _ c.from_residual.ensures.1
    (ends_at never never _ (begins IsStatusItems c.args.text.now) c.in_err-after_open.ensures (λ _. never_avoids _)
    (λ _. then_viable (IsWordOf status_words) _ (word_viable status_words status_table) (λ u. more_viable (IsOctet 32) (IsWordOf status_words) IsCloseParenthesis (u ∷ []) (octet_viable 41))))

pub returns-in_err-first : goal.returns-in_err-first
returns-in_err-first c =
    let at = onwards (begins IsStatusItems c.args.text.now) c.in_ok-after_open.ensures (λ _. never_avoids _) in
    passes_on _ _ c.from_residual-in_err-first.result _ c.from_residual-in_err-first.ensures.1
    (ends_at never never _ at c.in_err-first.ensures (λ _. never_avoids _) (λ u. more_viable (IsOctet 32) (IsWordOf status_words) IsCloseParenthesis (u ∷ []) (octet_viable 41)))

pub loop-separator-init : goal.loop-separator-init
loop-separator-init c =
    let at = onwards (begins IsStatusItems c.args.text.now) c.in_ok-after_open.ensures (λ _. never_avoids _) in
    list_next 32 (IsWordOf status_words) IsCloseParenthesis [] at c.in_ok-first.ensures (λ _. never_avoids _) (λ _. never_avoids _) (c.in-Ok.ensures.ok ∙ ap (λ z. z ++ c.in_ok-first.first ∷ []) c.new-items.ensures)

pub returns-in_err-following : goal.returns-in_err-following
returns-in_err-following c =
    passes_on _ _ c.from_residual-in_err-following.result _ c.from_residual-in_err-following.ensures.1
    (ends_at never never _ (list_close 32 (IsWordOf status_words) IsCloseParenthesis _ _ _ c.loop-separator.invariant c.in-Some.ensures.cases.0 c.if-separator-ne32.true) c.in_err-following.ensures (λ _. never_avoids _) (λ _. is_viable _))

pub returns-then-separator-ne32 : goal.returns-then-separator-ne32
returns-then-separator-ne32 c =
    (onwards (list_close 32 (IsWordOf status_words) IsCloseParenthesis _ _ _ c.loop-separator.invariant c.in-Some.ensures.cases.0 c.if-separator-ne32.true) c.in_ok-following.ensures (λ _. never_avoids _)).reads never _ _ (is_reads _ _)

pub returns-in_err-item : goal.returns-in_err-item
returns-in_err-item c =
    passes_on _ _ c.from_residual-in_err-item.result _ c.from_residual-in_err-item.ensures.1
    (ends_at never never _
    (list_separator 32 (IsWordOf status_words) IsCloseParenthesis c.loop-separator.items _ _ c.loop-separator.invariant c.in-Some.ensures.cases.0 c.if-separator-ne32.false (octet_never 41 32 (λ bad. absurd (omega (arith, bad))))) c.in_err-item.ensures
    (λ _. never_avoids _) (λ u. more_viable (IsOctet 32) (IsWordOf status_words) IsCloseParenthesis (c.loop-separator.items ++ u ∷ []) (octet_viable 41)))

pub loop-separator-preserved : goal.loop-separator-preserved
loop-separator-preserved c =
    list_next 32 (IsWordOf status_words) IsCloseParenthesis c.loop-separator.items
    (list_separator 32 (IsWordOf status_words) IsCloseParenthesis c.loop-separator.items _ _ c.loop-separator.invariant c.in-Some.ensures.cases.0 c.if-separator-ne32.false (octet_never 41 32 (λ bad. absurd (omega (arith, bad)))))
    c.in_ok-item.ensures (λ _. never_avoids _) (λ _. never_avoids _) c.in-Ok-push.ensures.ok

pub returns : goal.returns
returns c = list_open 32 (IsWordOf status_words) IsCloseParenthesis c.loop-separator.items never c.loop-separator.invariant c.in_default-split_first.ensures.cases (octet_viable 41)
