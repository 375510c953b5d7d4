use Rattle.std.proofs.Common.{sym, ap, ◌∙◌}
use Rattle.std.proofs.lemmas.Result.{on_ok_weaker}
use Rattle.field_tokens.specs.Lexemes.{lexemes_in, values_of}
use Rattle.param_2231.proofs.GivenLemmas.{writable_comments, same_comments}
use Rattle.param_2231.proofs.NoComments.{no_comments_add}
use Rattle.param_2231.proofs.rewriting.push_comments.Goals as goal

pub returns-then-has_no_parenthesis : goal.returns-then-has_no_parenthesis
returns-then-has_no_parenthesis c = λ tokens has. no_comments_add c.args.text.now tokens c.args.made.now has (sym c.has_no_parenthesis.ensures ∙ c.if-has_no_parenthesis.true)

pub unreachable-requires : goal.unreachable-requires
unreachable-requires c = (rw (c.in_default.is) at c.in_ok-marks.ensures.none) c.requires.0 c.requires.1

pub write_comments-requires : goal.write_comments-requires
write_comments-requires c =
    writable_comments c.args.text.now (lexemes_in c.args.text.now c.in-Some.marks.items) (values_of c.new.result) (rw (c.in-Some.is) at c.in_ok-marks.ensures.some)
    (c.new.ensures ∙ ap (lexemes_in c.args.text.now) c.deref.ensures.value)

pub returns : goal.returns
returns c = λ tokens has.
    on_ok_weaker c.write_comments.result
    (same_comments c.args.text.now (lexemes_in c.args.text.now c.in-Some.marks.items) (values_of c.new.result) tokens _ _ (rw (c.in-Some.is) at c.in_ok-marks.ensures.some)
    (c.new.ensures ∙ ap (lexemes_in c.args.text.now) c.deref.ensures.value) has) c.write_comments.ensures
