use Rattle.std.proofs.Common.{arith}
use Rattle.imap_words.proofs.StringHeads.{between_more, between_fails}
use Rattle.imap_words.proofs.strings.between.Goals as goal

pub returns-in_default : goal.returns-in_default
returns-in_default c = between_more c.args.low c.args.high c.args.text.now c.requires c.in_default.ensures.cases

pub returns-then-first-low : goal.returns-then-first-low
returns-then-first-low c = between_fails c.args.low c.args.high c.args.text.now _ _ c.requires c.in-Some.ensures.cases.0 (λ from to. omega (arith, from, c.if-first-low.true))

pub returns-then-high-first : goal.returns-then-high-first
returns-then-high-first c = between_fails c.args.low c.args.high c.args.text.now _ _ c.requires c.in-Some.ensures.cases.0 (λ from to. omega (arith, to, c.if-high-first.true))
