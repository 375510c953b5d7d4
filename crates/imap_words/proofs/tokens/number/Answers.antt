use Rattle.std.proofs.Common.{arith}
use Rattle.imap_words.proofs.TokenSteps.{number_more, number_fails, number_open, number_reads, counted_first, counted_more}
use Rattle.imap_words.proofs.tokens.number.Goals as goal

pub returns-in_default : goal.returns-in_default
returns-in_default c = number_more c.args.text.now c.in_default.ensures.cases

pub returns-in_default-with_digit : goal.returns-in_default-with_digit
returns-in_default-with_digit c = number_fails c.args.text.now _ _ c.in-Some.ensures.cases.0 c.in_default-with_digit.ensures

pub loop-octet-init : goal.loop-octet-init
loop-octet-init c = counted_first c.args.text.now _ _ _ c.in-Some.ensures.cases.0 c.in-Some-with_digit.ensures.0 c.in-Some-with_digit.ensures.1

pub returns-in_default-with_digit-2 : goal.returns-in_default-with_digit-2
returns-in_default-with_digit-2 c = number_reads c.args.text.now _ _ _ _ c.loop-octet.invariant c.in-Some-split_first.ensures.cases.0 c.in_default-with_digit-2.ensures

pub loop-octet-smaller : goal.loop-octet-smaller
loop-octet-smaller c = let shorter = c.in-Some-split_first.ensures.cases.1 in omega (arith, shorter)

pub loop-octet-preserved : goal.loop-octet-preserved
loop-octet-preserved c = counted_more c.args.text.now _ _ _ _ _ c.loop-octet.invariant c.in-Some-split_first.ensures.cases.0 c.in-Some-with_digit-2.ensures.0
    c.in-Some-with_digit-2.ensures.1 c.in-Some-with_digit-2.ensures.2

pub returns : goal.returns
returns c = number_open c.args.text.now _ _ c.loop-octet.invariant c.in_default-split_first.ensures.cases
