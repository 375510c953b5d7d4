use Rattle.std.proofs.Common.{◌≡◌, length, ◌∙◌, arith}
use Rattle.std.proofs.lemmas.Bool.Decides.{nat_tests}
use Rattle.std.proofs.lemmas.List.{nil_from_length}
use Rattle.encoded_words.proofs.Charsets.{is_utf8-from_cases}
use Rattle.param_grammar.proofs.ExtendedLemmas.{text_of_nothing}
use Rattle.param_grammar.proofs.extended.is_text.Goals as goal

pub returns-then-is_empty : goal.returns-then-is_empty
returns-then-is_empty c =
    let none : length c.args.charset.now ≡ 0 = grind (arith, nat_tests) in
    text_of_nothing c.args.charset.now c.args.octets.now c.is_ok.result (nil_from_length c.args.charset.now none)
    (c.is_ok.ensures.value ∙ is_utf8-from_cases _ _ c.args.octets.now c.from_utf8.result c.from_utf8.ensures.cases)
