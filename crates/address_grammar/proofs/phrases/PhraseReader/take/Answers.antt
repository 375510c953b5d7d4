use Rattle.std.proofs.Common.{sym, ◌∙◌}
use Rattle.address_grammar.proofs.PhraseReading.{token_turn}
use Rattle.address_grammar.proofs.phrases.PhraseReader.take.Goals as goal

pub returns : goal.returns
returns c = λ phrase items given free reads.
    token_turn c.args.lexeme.kind _ phrase items given c.args.self.now.units c.push_said.new.units c.args.self.now.is_first c.args.self.now.is_free c.args.self.now.after_encoded c.args.is_next_free c.in_ok-self.field-0
    c.requires (sym c.is_blank.ensures ∙ c.if-is_blank.false)
    (rw (c.space-run.ensures, c.has_space_before.ensures, c.may_be_encoded-may_be_encoded.ensures) at c.in_ok-self.ensures)
    free reads
