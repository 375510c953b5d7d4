use Rattle.std.proofs.Common.{subst, ap, sym, ◌∙◌, length, arith}
use Rattle.imap_words.specs.Reading.{always, StopsReading}
use Rattle.imap_words.specs.Tokens.{IsTag, is_tag_char}
use Rattle.imap_grammar.proofs.TurnSteps.{no_tag_open, no_tag_bad, no_tag_read}
use Rattle.imap_grammar.proofs.reader.tag_of.Goals as goal

pub returns-in_default : goal.returns-in_default
returns-in_default c = λ tag. no_tag_read c.args.line.now _ _ tag c.in-Ok.ensures (λ others e. omega (arith, c.in_default.ensures.cases, ap length e))

pub returns-then-first-ne32 : goal.returns-then-first-ne32
returns-then-first-ne32 c = λ tag. no_tag_read c.args.line.now _ _ tag c.in-Ok.ensures (λ others e. c.if-first-ne32.true (cc (sym c.in-Some.ensures.cases.0 ∙ e)))

pub returns-in-Err-More : goal.returns-in-Err-More
returns-in-Err-More c = λ tag. no_tag_open c.args.line.now tag (subst (λ z. StopsReading IsTag (always is_tag_char) c.args.line.now z) c.in-Err-More.field-0-is c.in-Err-More.ensures)

pub returns-in-Err-Bad : goal.returns-in-Err-Bad
returns-in-Err-Bad c = λ tag. no_tag_bad c.args.line.now tag _ (subst (λ z. StopsReading IsTag (always is_tag_char) c.args.line.now z) c.in-Err-Bad.field-0-is c.in-Err-Bad.ensures)
