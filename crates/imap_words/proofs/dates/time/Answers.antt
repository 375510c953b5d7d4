use Rattle.imap_words.specs.Dates.{IsTime}
use Rattle.imap_words.proofs.Going.{begins, passes_on}
use Rattle.imap_words.proofs.DateSteps.{after, stops_in, by_call, after_hour, after_colon, after_minute, two_viable}
use Rattle.imap_words.proofs.dates.time.Goals as goal

pub returns-in_err-text : goal.returns-in_err-text
returns-in_err-text c =
    passes_on _ _ c.from_residual.result _ c.from_residual.ensures.1 (stops_in _ (begins IsTime c.args.text.now) after_hour c.in_err-text.ensures)

pub returns-in_err-text-2 : goal.returns-in_err-text-2
returns-in_err-text-2 c =
    let t1 = after (begins IsTime c.args.text.now) c.in_ok-text.ensures in
    passes_on _ _ c.from_residual-in_err-text-2.result _ c.from_residual-in_err-text-2.ensures.1 (stops_in _ t1 after_colon c.in_err-text-2.ensures)

pub returns-in_err-text-3 : goal.returns-in_err-text-3
returns-in_err-text-3 c =
    let t1 = after (begins IsTime c.args.text.now) c.in_ok-text.ensures in
    let t2 = after t1 c.in_ok-text-2.ensures in
    passes_on _ _ c.from_residual-in_err-text-3.result _ c.from_residual-in_err-text-3.ensures.1 (stops_in _ t2 after_minute c.in_err-text-3.ensures)

pub returns-in_err-text-4 : goal.returns-in_err-text-4
returns-in_err-text-4 c =
    let t1 = after (begins IsTime c.args.text.now) c.in_ok-text.ensures in
    let t2 = after t1 c.in_ok-text-2.ensures in
    let t3 = after t2 c.in_ok-text-3.ensures in
    passes_on _ _ c.from_residual-in_err-text-4.result _ c.from_residual-in_err-text-4.ensures.1 (stops_in _ t3 two_viable c.in_err-text-4.ensures)

pub returns : goal.returns
returns c =
    let t1 = after (begins IsTime c.args.text.now) c.in_ok-text.ensures in
    let t2 = after t1 c.in_ok-text-2.ensures in
    let t3 = after t2 c.in_ok-text-3.ensures in
    let t4 = after t3 c.in_ok-text-4.ensures in
    by_call (λ x. x.0) (λ x. x.1.now) c.two_digits-3.result t4 c.two_digits-3.ensures
