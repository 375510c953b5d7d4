use Rattle.address_grammar.proofs.PhraseReading.{part_plain}
use Rattle.address_grammar.proofs.phrases.push_part.Goals as goal

pub returns : goal.returns
returns c =
    rw (c.if-may_be_encoded.false) (part_plain c.args.units.now c.push_text.new.self _ _ _ c.args.after_encoded c.in_ok-push_text.ensures c.in_ok-push_text-2.ensures)
