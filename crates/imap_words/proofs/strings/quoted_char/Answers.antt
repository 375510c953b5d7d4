use Rattle.std.proofs.Common.{sym, ◌∙◌, arith}
use Rattle.std.proofs.lemmas.Bool.{both_ways}
use Rattle.imap_words.proofs.Going.{passes_on}
use Rattle.imap_words.proofs.QuotedSteps.{one_more, one_fails, text_says, escape_stops, escape_says, high_stops, high_says}
use Rattle.imap_words.proofs.strings.quoted_char.Goals as goal

pub returns-in_default : goal.returns-in_default
returns-in_default c = one_more c.args.utf8 c.args.text.now c.in_default.ensures.cases

pub returns-then-is_quoted_text : goal.returns-then-is_quoted_text
returns-then-is_quoted_text c = text_says c.args.utf8 c.args.text.now _ _ _ _ c.in-Some.ensures.cases.0 (sym c.is_quoted_text.ensures ∙ c.if-is_quoted_text.true) c.in-Ok.ensures.ok

pub returns-in_err-rest : goal.returns-in_err-rest
returns-in_err-rest c = passes_on _ _ c.from_residual.result _ c.from_residual.ensures.1 (escape_stops c.args.utf8 c.args.text.now _ _ _ c.in-Some.ensures.cases.0 c.if-first-eq92.true c.in_err-rest.ensures)

pub returns-then-first-eq92 : goal.returns-then-first-eq92
returns-then-first-eq92 c = escape_says c.args.utf8 c.args.text.now _ _ _ _ _ c.in-Some.ensures.cases.0 c.if-first-eq92.true c.in_ok-rest.ensures

pub returns-then-first-lt128 : goal.returns-then-first-lt128
returns-then-first-lt128 c =
    one_fails c.args.utf8 c.args.text.now _ _ c.in-Some.ensures.cases.0 (λ is. both_ways _ c.if-is_quoted_text.false (c.is_quoted_text.ensures ∙ is)) c.if-first-eq92.false (λ mode l h. omega (arith, l, c.if-first-lt128.true))

pub returns-then-not-utf8 : goal.returns-then-not-utf8
returns-then-not-utf8 c =
    one_fails c.args.utf8 c.args.text.now _ _ c.in-Some.ensures.cases.0 (λ is. both_ways _ c.if-is_quoted_text.false (c.is_quoted_text.ensures ∙ is)) c.if-first-eq92.false (λ mode l h. both_ways _ c.if-not-utf8.true mode)

pub returns-in_err-octets : goal.returns-in_err-octets
returns-in_err-octets c =
    passes_on _ _ c.from_residual-in_err-octets.result _ c.from_residual-in_err-octets.ensures.1
    (high_stops c.args.utf8 c.args.text.now _ _ _ c.in-Some.ensures.cases.0 c.if-not-utf8.false (omega (arith, c.if-first-lt128.false)) c.in_err-octets.ensures)

pub returns : goal.returns
returns c = high_says c.args.utf8 c.args.text.now _ _ _ _ _ _ c.in-Some.ensures.cases.0 c.if-not-utf8.false (omega (arith, c.if-first-lt128.false)) c.in_ok-octets.ensures c.in-Ok-push_slice.ensures.ok
