use Rattle.imap_words.specs.Dates.{IsDateTimeText}
use Rattle.imap_words.proofs.Going.{begins, passes_on}
use Rattle.imap_words.proofs.DateSteps.{after, stops_in, by_call, after_day, after_day_dash, after_month, after_month_dash, after_year, after_year_space, after_time, zone_viable}
use Rattle.imap_words.proofs.dates.date_text.Goals as goal

pub returns-in_err-text : goal.returns-in_err-text
returns-in_err-text c =
    passes_on _ _ c.from_residual.result _ c.from_residual.ensures.1 (stops_in _ (begins IsDateTimeText c.args.text.now) after_day c.in_err-text.ensures)

pub returns-in_err-text-2 : goal.returns-in_err-text-2
returns-in_err-text-2 c =
    let t1 = after (begins IsDateTimeText c.args.text.now) c.in_ok-text.ensures in
    passes_on _ _ c.from_residual-in_err-text-2.result _ c.from_residual-in_err-text-2.ensures.1 (stops_in _ t1 after_day_dash c.in_err-text-2.ensures)

pub returns-in_err-text-3 : goal.returns-in_err-text-3
returns-in_err-text-3 c =
    let t1 = after (begins IsDateTimeText c.args.text.now) c.in_ok-text.ensures in
    let t2 = after t1 c.in_ok-text-2.ensures in
    passes_on _ _ c.from_residual-in_err-text-3.result _ c.from_residual-in_err-text-3.ensures.1 (stops_in _ t2 after_month c.in_err-text-3.ensures)

pub returns-in_err-text-4 : goal.returns-in_err-text-4
returns-in_err-text-4 c =
    let t1 = after (begins IsDateTimeText c.args.text.now) c.in_ok-text.ensures in
    let t2 = after t1 c.in_ok-text-2.ensures in
    let t3 = after t2 c.in_ok-text-3.ensures in
    passes_on _ _ c.from_residual-in_err-text-4.result _ c.from_residual-in_err-text-4.ensures.1 (stops_in _ t3 after_month_dash c.in_err-text-4.ensures)

pub returns-in_err-text-5 : goal.returns-in_err-text-5
returns-in_err-text-5 c =
    let t1 = after (begins IsDateTimeText c.args.text.now) c.in_ok-text.ensures in
    let t2 = after t1 c.in_ok-text-2.ensures in
    let t3 = after t2 c.in_ok-text-3.ensures in
    let t4 = after t3 c.in_ok-text-4.ensures in
    passes_on _ _ c.from_residual-in_err-text-5.result _ c.from_residual-in_err-text-5.ensures.1 (stops_in _ t4 after_year c.in_err-text-5.ensures)

pub returns-in_err-text-6 : goal.returns-in_err-text-6
returns-in_err-text-6 c =
    let t1 = after (begins IsDateTimeText c.args.text.now) c.in_ok-text.ensures in
    let t2 = after t1 c.in_ok-text-2.ensures in
    let t3 = after t2 c.in_ok-text-3.ensures in
    let t4 = after t3 c.in_ok-text-4.ensures in
    let t5 = after t4 c.in_ok-text-5.ensures in
    passes_on _ _ c.from_residual-in_err-text-6.result _ c.from_residual-in_err-text-6.ensures.1 (stops_in _ t5 after_year_space c.in_err-text-6.ensures)

pub returns-in_err-text-7 : goal.returns-in_err-text-7
returns-in_err-text-7 c =
    let t1 = after (begins IsDateTimeText c.args.text.now) c.in_ok-text.ensures in
    let t2 = after t1 c.in_ok-text-2.ensures in
    let t3 = after t2 c.in_ok-text-3.ensures in
    let t4 = after t3 c.in_ok-text-4.ensures in
    let t5 = after t4 c.in_ok-text-5.ensures in
    let t6 = after t5 c.in_ok-text-6.ensures in
    passes_on _ _ c.from_residual-in_err-text-7.result _ c.from_residual-in_err-text-7.ensures.1 (stops_in _ t6 after_time c.in_err-text-7.ensures)

pub returns-in_err-text-8 : goal.returns-in_err-text-8
returns-in_err-text-8 c =
    let t1 = after (begins IsDateTimeText c.args.text.now) c.in_ok-text.ensures in
    let t2 = after t1 c.in_ok-text-2.ensures in
    let t3 = after t2 c.in_ok-text-3.ensures in
    let t4 = after t3 c.in_ok-text-4.ensures in
    let t5 = after t4 c.in_ok-text-5.ensures in
    let t6 = after t5 c.in_ok-text-6.ensures in
    let t7 = after t6 c.in_ok-text-7.ensures in
    passes_on _ _ c.from_residual-in_err-text-8.result _ c.from_residual-in_err-text-8.ensures.1 (stops_in _ t7 zone_viable c.in_err-text-8.ensures)

pub returns : goal.returns
returns c =
    let t1 = after (begins IsDateTimeText c.args.text.now) c.in_ok-text.ensures in
    let t2 = after t1 c.in_ok-text-2.ensures in
    let t3 = after t2 c.in_ok-text-3.ensures in
    let t4 = after t3 c.in_ok-text-4.ensures in
    let t5 = after t4 c.in_ok-text-5.ensures in
    let t6 = after t5 c.in_ok-text-6.ensures in
    let t7 = after t6 c.in_ok-text-7.ensures in
    let t8 = after t7 c.in_ok-text-8.ensures in
    by_call (λ x. x.0) (λ x. x.1.now) c.zone.result t8 c.zone.ensures
