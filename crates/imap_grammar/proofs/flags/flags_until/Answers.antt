use Rattle.imap_words.proofs.Going.{passes_on}
use Rattle.imap_grammar.proofs.FlagSteps.{first_flag_stops, first_flag_read, flags_open, close_stops, close_reads, next_flag_stops, next_flag_read}
use Rattle.imap_grammar.proofs.flags.flags_until.Goals as goal

pub returns-in_err-first : goal.returns-in_err-first
returns-in_err-first c = passes_on _ _ c.from_residual.result _ c.from_residual.ensures.1 (first_flag_stops c.args.close c.requires c.args.text.now _ c.in_err-first.ensures)

pub loop-separator-init : goal.loop-separator-init
loop-separator-init c = first_flag_read c.args.close c.requires c.args.text.now _ _ _ c.in_ok-first.ensures (c.with_flag-bits.ensures _ c.no_bits.ensures)

pub returns-in_err-following : goal.returns-in_err-following
returns-in_err-following c =
    passes_on _ _ c.from_residual-in_err-following.result _ c.from_residual-in_err-following.ensures.1
    (close_stops c.args.close c.requires c.args.text.now _ _ c.loop-separator.invariant _ _ c.in-Some.ensures.cases.0 _ c.if-separator-ne32.true c.in_err-following.ensures)

pub returns-then-separator-ne32 : goal.returns-then-separator-ne32
returns-then-separator-ne32 c =
    close_reads c.args.close c.requires c.args.text.now _ _ c.loop-separator.invariant _ _ c.in-Some.ensures.cases.0 _ _ c.if-separator-ne32.true c.in_ok-following.ensures (c.value.ensures _ c.loop-separator.invariant.is_bits)

pub returns-in_err-name : goal.returns-in_err-name
returns-in_err-name c =
    passes_on _ _ c.from_residual-in_err-name.result _ c.from_residual-in_err-name.ensures.1
    (next_flag_stops c.args.close c.requires c.args.text.now _ _ c.loop-separator.invariant _ _ c.in-Some.ensures.cases.0 _ c.if-separator-ne32.false c.in_err-name.ensures)

pub loop-separator-preserved : goal.loop-separator-preserved
loop-separator-preserved c =
    next_flag_read c.args.close c.requires c.args.text.now _ _ c.loop-separator.invariant _ _ c.in-Some.ensures.cases.0 _ _ _ c.if-separator-ne32.false c.in_ok-name.ensures c.with_flag-bits-in-Some.ensures

pub returns : goal.returns
returns c = flags_open c.args.close c.requires c.args.text.now _ _ c.loop-separator.invariant c.in_default.ensures.cases
