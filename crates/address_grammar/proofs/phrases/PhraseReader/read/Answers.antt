use Rattle.std.proofs.Common.{sym}
use Rattle.field_tokens.specs.Lexemes.{values_of}
use Rattle.address_grammar.specs.Phrases.{phrase_items}
use Rattle.address_grammar.proofs.PhraseReading.{gives_done}
use Rattle.address_grammar.proofs.phrases.PhraseReader.read.Goals as goal

pub returns : goal.returns
returns c = λ phrase given reads.
    gives_done phrase (phrase_items (values_of c.args.following)) given _ c.take.new.self.units _ c.take.new.self.is_first c.take.new.self.is_free c.take.new.self.after_encoded c.take_done.ensures.units c.take_done.ensures.left
    (c.in_ok-take.ensures phrase (phrase_items (values_of c.args.following)) given (sym c.begins_free.ensures) reads)
