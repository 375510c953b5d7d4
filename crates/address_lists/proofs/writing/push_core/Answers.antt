use Rattle.std.proofs.Common.{sym, ◌∙◌}
use Rattle.std.proofs.lemmas.Result.{on_ok_weaker}
use Rattle.field_tokens.specs.Lexemes.{values_of}
use Rattle.address_lists.proofs.PhraseWriting.{joined_core, said_core}
use Rattle.address_lists.proofs.PlainWords.{plain_utf8, plain_core}
use Rattle.address_lists.proofs.writing.push_core.Goals as goal

pub returns-then-are_ascii : goal.returns-then-are_ascii
returns-then-are_ascii c = on_ok_weaker c.push_joined.result (λ a. joined_core (values_of c.args.lexemes) _ _ (sym c.are_ascii.ensures ∙ c.if-are_ascii.true) a) c.push_joined.ensures

pub push_words-requires : goal.push_words-requires
push_words-requires c = plain_utf8 (values_of c.args.lexemes) _ c.in-Some.ensures c.requires.utf8

pub returns-in-Some : goal.returns-in-Some
returns-in-Some c = on_ok_weaker c.push_words.result (λ a. plain_core (values_of c.args.lexemes) _ _ _ c.in-Some.ensures (sym c.are_ascii.ensures ∙ c.if-are_ascii.false) a) c.push_words.ensures

pub returns : goal.returns
returns c = on_ok_weaker c.write_comments.result (λ a. said_core (values_of c.args.lexemes) _ _ _ (sym c.are_ascii.ensures ∙ c.if-are_ascii.false) c.in_ok-write_said.ensures a) c.write_comments.ensures
