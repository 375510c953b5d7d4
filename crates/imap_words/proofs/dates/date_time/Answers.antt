use Rattle.imap_words.specs.Reading.{never}
use Rattle.imap_words.specs.Dates.{IsDateTime}
use Rattle.imap_words.proofs.Going.{begins, onwards, ends_at, passes_on, never_avoids, is_viable, is_reads}
use Rattle.imap_words.proofs.DateSteps.{after, stops_in, written_stops_so, split_so, written_viably, ends_viable}
use Rattle.imap_words.proofs.dates.date_time.Goals as goal

pub returns-in_err-after_open : goal.returns-in_err-after_open
returns-in_err-after_open c =
    passes_on _ _ c.from_residual.result _ c.from_residual.ensures.1 (stops_in _ (begins IsDateTime c.args.text.now) written_viably c.in_err-after_open.ensures)

pub returns-in_err-following : goal.returns-in_err-following
returns-in_err-following c =
    let date = after (begins IsDateTime c.args.text.now) c.in_ok-after_open.ensures in
    passes_on _ _ c.from_residual-in_err-following.result _ c.from_residual-in_err-following.ensures.1
    (ends_at never never _ date (written_stops_so _ _ c.in_err-following.ensures) (λ _. never_avoids _) ends_viable)

pub returns-in_err-rest : goal.returns-in_err-rest
returns-in_err-rest c =
    let date = after (begins IsDateTime c.args.text.now) c.in_ok-after_open.ensures in
    let end = onwards date (split_so _ _ _ _ _ c.in_ok-following.ensures c.split_at.ensures.front c.split_at.ensures.back) (λ _. never_avoids _) in
    passes_on _ _ c.from_residual-in_err-rest.result _ c.from_residual-in_err-rest.ensures.1 (stops_in _ end (is_viable _) c.in_err-rest.ensures)

pub returns : goal.returns
returns c =
    let date = after (begins IsDateTime c.args.text.now) c.in_ok-after_open.ensures in
    let end = onwards date (split_so _ _ _ _ _ c.in_ok-following.ensures c.split_at.ensures.front c.split_at.ensures.back) (λ _. never_avoids _) in
    (after end c.in_ok-rest.ensures).reads never _ _ (is_reads _ _)
