use Rattle.std.proofs.Common.{sym, ◌∙◌}
use Rattle.std.proofs.lemmas.List.{take_rest}
use Rattle.encoded_words.proofs.Cuts.{position_found}
use Rattle.address_grammar.proofs.paths.split_at_sign.Goals as goal

pub returns : goal.returns
returns c =
    let found = position_found 64 c.args.octets.now c.in-Some.at (sym c.find_at_sign.ensures ∙ c.in-Some.is) in
    rw take_rest (found.1)
