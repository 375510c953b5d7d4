use Rattle.imap_words.specs.Reading.{never}
use Rattle.imap_words.proofs.Going.{ends_at, passes_on, never_avoids}
use Rattle.imap_grammar.proofs.FlagSteps.{close_ends, list_begins, in_list_viable, list_is_open, empty_reads, some_stops, some_reads}
use Rattle.imap_grammar.proofs.flags.flag_list.Goals as goal

pub returns-in_err-after_open : goal.returns-in_err-after_open
returns-in_err-after_open c =
    passes_on _ _ c.from_residual.result _ c.from_residual.ensures.1 (ends_at never never _ (list_begins c.args.text.now) c.in_err-after_open.ensures (λ _. never_avoids _) (λ _. in_list_viable))

pub returns-in_default : goal.returns-in_default
returns-in_default c = list_is_open c.args.text.now _ c.in_ok-after_open.ensures c.in_default.ensures.cases

pub returns-then-first-eq41 : goal.returns-then-first-eq41
returns-then-first-eq41 c = empty_reads c.args.text.now _ c.in_ok-after_open.ensures _ _ c.in-Some.ensures.cases.0 c.if-first-eq41.true

pub flags_until-requires : goal.flags_until-requires
flags_until-requires c = close_ends

pub returns-in_err-flags : goal.returns-in_err-flags
returns-in_err-flags c =
    passes_on _ _ c.from_residual-in_err-flags.result _ c.from_residual-in_err-flags.ensures.1
    (some_stops c.args.text.now _ c.in_ok-after_open.ensures _ _ c.in-Some.ensures.cases.0 _ c.if-first-eq41.false c.in_err-flags.ensures)

pub returns : goal.returns
returns c = some_reads c.args.text.now _ c.in_ok-after_open.ensures _ _ c.in-Some.ensures.cases.0 _ _ c.if-first-eq41.false c.in_ok-flags.ensures
