use Rattle.std.proofs.Common.{[], ◌∷◌, ◌++◌, ap, ◌∙◌, arith}
use Rattle.imap_words.specs.Languages.{IsOctet}
use Rattle.imap_words.specs.Reading.{never, always}
use Rattle.imap_words.specs.Tokens.{IsSpace}
use Rattle.imap_words.specs.Sets.{IsSeqRange, IsSetAndSpace, after_range}
use Rattle.imap_words.proofs.TokenSteps.{octet_viable, octet_never}
use Rattle.imap_words.proofs.Going.{begins, onwards, ends_at, passes_on, never_avoids, is_viable, is_reads}
use Rattle.imap_words.proofs.Choosing.{more_avoids, more_viable, list_next, list_separator, list_close, list_open}
use Rattle.imap_words.proofs.SetSteps.{comma_avoids, space_avoids}
use Rattle.imap_words.proofs.sets.set_and_space.Goals as goal

pub returns-in_err-first : goal.returns-in_err-first
returns-in_err-first c =
    passes_on _ _ c.from_residual.result _ c.from_residual.ensures.1
    (ends_at (always after_range) never _ (begins IsSetAndSpace c.args.text.now) c.in_err-first.ensures (λ u. more_avoids (IsOctet 44) IsSeqRange IsSpace after_range (u ∷ []) comma_avoids space_avoids)
    (λ u. more_viable (IsOctet 44) IsSeqRange IsSpace (u ∷ []) (octet_viable 32)))

pub loop-separator-init : goal.loop-separator-init
loop-separator-init c =
    list_next 44 IsSeqRange IsSpace [] (begins IsSetAndSpace c.args.text.now) c.in_ok-first.ensures (λ _. comma_avoids) (λ _. space_avoids)
    (c.in-Ok.ensures.ok ∙ ap (λ z. z ++ c.in_ok-first.first ∷ []) c.new-ranges.ensures)

pub returns-in_err-following : goal.returns-in_err-following
returns-in_err-following c =
    passes_on _ _ c.from_residual-in_err-following.result _ c.from_residual-in_err-following.ensures.1
    (ends_at never never _ (list_close 44 IsSeqRange IsSpace _ _ _ c.loop-separator.invariant c.in-Some.ensures.cases.0 c.if-separator-ne44.true) c.in_err-following.ensures (λ _. never_avoids _) (λ _. is_viable _))

pub returns-then-separator-ne44 : goal.returns-then-separator-ne44
returns-then-separator-ne44 c =
    (onwards (list_close 44 IsSeqRange IsSpace _ _ _ c.loop-separator.invariant c.in-Some.ensures.cases.0 c.if-separator-ne44.true) c.in_ok-following.ensures (λ _. never_avoids _)).reads never _ _ (is_reads _ _)

pub returns-in_err-range : goal.returns-in_err-range
returns-in_err-range c =
    passes_on _ _ c.from_residual-in_err-range.result _ c.from_residual-in_err-range.ensures.1
    (ends_at (always after_range) never _
    (list_separator 44 IsSeqRange IsSpace c.loop-separator.ranges _ _ c.loop-separator.invariant c.in-Some.ensures.cases.0 c.if-separator-ne44.false (octet_never 32 44 (λ bad. absurd (omega (arith, bad))))) c.in_err-range.ensures
    (λ u. more_avoids (IsOctet 44) IsSeqRange IsSpace after_range (c.loop-separator.ranges ++ u ∷ []) comma_avoids space_avoids) (λ u. more_viable (IsOctet 44) IsSeqRange IsSpace (c.loop-separator.ranges ++ u ∷ []) (octet_viable 32)))

pub loop-separator-preserved : goal.loop-separator-preserved
loop-separator-preserved c =
    list_next 44 IsSeqRange IsSpace c.loop-separator.ranges
    (list_separator 44 IsSeqRange IsSpace c.loop-separator.ranges _ _ c.loop-separator.invariant c.in-Some.ensures.cases.0 c.if-separator-ne44.false (octet_never 32 44 (λ bad. absurd (omega (arith, bad)))))
    c.in_ok-range.ensures (λ _. comma_avoids) (λ _. space_avoids) c.in-Ok-push.ensures.ok

pub returns : goal.returns
returns c = list_open 44 IsSeqRange IsSpace c.loop-separator.ranges never c.loop-separator.invariant c.in_default-split_first.ensures.cases (octet_viable 32)
