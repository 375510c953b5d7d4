use Rattle.std.proofs.Common.{subst}
use Rattle.encoded_words.specs.Words.{WordParts, IsTextOf}
use Rattle.encoded_words.proofs.Cuts.{HasParts-once}
use Rattle.encoded_words.proofs.word.read_word.Goals as goal

pub returns-in_default-2-clause-none : goal.returns-in_default-2-clause-none
returns-in_default-2-clause-none c unit is =
    let same = HasParts-once c.args.word.now is.parts _ is.has_parts c.in-Some.ensures.found in
    let none = rw c.in_default-2.is at c.in_ok-octets.ensures.none in
    none is.octets (subst (λ (p : WordParts). IsTextOf p.letter p.text is.octets) same is.spells)
