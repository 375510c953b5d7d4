use Rattle.imap_words.specs.Reading.{never, always}
use Rattle.imap_words.specs.Tokens.{is_digit}
use Rattle.imap_words.proofs.Going.{begins, onwards, ends_at, passes_on, never_avoids, is_viable, is_reads}
use Rattle.imap_grammar.specs.Fetching.{IsPartial}
use Rattle.imap_grammar.proofs.FetchEnds.{from_viable, dot_viable, most_viable, close_viable, dot_avoids, close_avoids}
use Rattle.imap_grammar.proofs.fetch.octets_part.Goals as goal

pub returns-in_err-after_open : goal.returns-in_err-after_open
returns-in_err-after_open c =
    passes_on _ _ c.from_residual.result _ c.from_residual.ensures.1 (ends_at never never _ (begins IsPartial c.args.text.now) c.in_err-after_open.ensures (λ _. never_avoids _) (λ _. from_viable))

pub returns-in_err-from : goal.returns-in_err-from
returns-in_err-from c =
    let a = onwards (begins IsPartial c.args.text.now) c.in_ok-after_open.ensures (λ _. never_avoids _) in
    passes_on _ _ c.from_residual-in_err-from.result _ c.from_residual-in_err-from.ensures.1 (ends_at (always is_digit) never _ a c.in_err-from.ensures dot_avoids dot_viable)

pub returns-in_err-after_dot : goal.returns-in_err-after_dot
returns-in_err-after_dot c =
    let a = onwards (begins IsPartial c.args.text.now) c.in_ok-after_open.ensures (λ _. never_avoids _) in
    let b = onwards a c.in_ok-from.ensures dot_avoids in
    passes_on _ _ c.from_residual-in_err-after_dot.result _ c.from_residual-in_err-after_dot.ensures.1 (ends_at never never _ b c.in_err-after_dot.ensures (λ _. never_avoids _) (λ _. most_viable _))

pub returns-in_err-most : goal.returns-in_err-most
returns-in_err-most c =
    let a = onwards (begins IsPartial c.args.text.now) c.in_ok-after_open.ensures (λ _. never_avoids _) in
    let b = onwards a c.in_ok-from.ensures dot_avoids in
    let d = onwards b c.in_ok-after_dot.ensures (λ _. never_avoids _) in
    passes_on _ _ c.from_residual-in_err-most.result _ c.from_residual-in_err-most.ensures.1 (ends_at (always is_digit) never _ d c.in_err-most.ensures (close_avoids _) (close_viable _))

pub returns-in_err-rest : goal.returns-in_err-rest
returns-in_err-rest c =
    let a = onwards (begins IsPartial c.args.text.now) c.in_ok-after_open.ensures (λ _. never_avoids _) in
    let b = onwards a c.in_ok-from.ensures dot_avoids in
    let d = onwards b c.in_ok-after_dot.ensures (λ _. never_avoids _) in
    let e = onwards d c.in_ok-most.ensures (close_avoids _) in
    passes_on _ _ c.from_residual-in_err-rest.result _ c.from_residual-in_err-rest.ensures.1 (ends_at never never _ e c.in_err-rest.ensures (λ _. never_avoids _) (λ _. is_viable _))

pub returns : goal.returns
returns c =
    let a = onwards (begins IsPartial c.args.text.now) c.in_ok-after_open.ensures (λ _. never_avoids _) in
    let b = onwards a c.in_ok-from.ensures dot_avoids in
    let d = onwards b c.in_ok-after_dot.ensures (λ _. never_avoids _) in
    let e = onwards d c.in_ok-most.ensures (close_avoids _) in
    (onwards e c.in_ok-rest.ensures (λ _. never_avoids _)).reads never _ _ (is_reads _ _)
