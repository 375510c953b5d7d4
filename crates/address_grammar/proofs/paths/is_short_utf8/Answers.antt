use Rattle.std.proofs.Common.{sym, ◌∙◌, rules}
use Rattle.std.proofs.lemmas.Str.{IsUtf8-from_ascii}
use Rattle.encoded_words.proofs.WrittenWords.{ascii_literal}
use Rattle.address_grammar.proofs.paths.is_short_utf8.Goals as goal

pub returns-then-is_ascii : goal.returns-then-is_ascii
returns-then-is_ascii c = (λ _. IsUtf8-from_ascii c.args.octets.now (ascii_literal c.args.octets.now (sym c.is_ascii.ensures ∙ c.if-is_ascii.true)), λ _. search rules)
