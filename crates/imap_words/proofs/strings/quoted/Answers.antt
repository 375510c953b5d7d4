use Rattle.std.proofs.Common.{[], subst, sym}
use Rattle.imap_words.specs.Reading.{never}
use Rattle.imap_words.specs.Going.{Continues}
use Rattle.imap_words.specs.Strings.{IsQuoted}
use Rattle.imap_words.proofs.Going.{ends_at, onwards, passes_on, never_avoids}
use Rattle.imap_words.proofs.QuotedSteps.{IsRestQuoted, rest_viable, quoted_continues, quoted_ends, further_stops, further_reads, quoted_open}
use Rattle.imap_words.proofs.strings.quoted.Goals as goal

pub returns-in_err-rest : goal.returns-in_err-rest
returns-in_err-rest c =
    passes_on _ _ c.from_residual.result _ c.from_residual.ensures.1 (ends_at never never _ (quoted_continues c.args.utf8 c.args.text.now) c.in_err-rest.ensures (λ _. never_avoids _) (λ _. rest_viable c.args.utf8 []))

pub loop-first-init : goal.loop-first-init
loop-first-init c =
    subst (λ z. Continues (IsQuoted c.args.utf8) c.args.text.now (IsRestQuoted c.args.utf8 z) c.in_ok-rest.rest.now) (sym c.new-value.ensures)
    (onwards (quoted_continues c.args.utf8 c.args.text.now) c.in_ok-rest.ensures (λ _. never_avoids _))

pub returns-then-first-eq34 : goal.returns-then-first-eq34
returns-then-first-eq34 c = quoted_ends c.args.utf8 c.args.text.now _ _ _ _ c.loop-first.invariant c.in-Some.ensures.cases.0 c.if-first-eq34.true

pub returns-in_err-rest-2 : goal.returns-in_err-rest-2
returns-in_err-rest-2 c =
    passes_on _ _ c.from_residual-in_err-rest-2.result _ c.from_residual-in_err-rest-2.ensures.1
    (further_stops c.args.utf8 c.args.text.now _ _ _ _ _ c.loop-first.invariant c.in-Some.ensures.cases.0 c.if-first-eq34.false c.in_err-rest-2.ensures)

pub loop-first-preserved : goal.loop-first-preserved
loop-first-preserved c = further_reads c.args.utf8 c.args.text.now _ _ _ _ _ _ c.loop-first.invariant c.in-Some.ensures.cases.0 c.if-first-eq34.false c.in_ok-rest-2.ensures

pub returns : goal.returns
returns c = quoted_open c.args.utf8 c.args.text.now _ _ c.loop-first.invariant c.in_default.ensures.cases
