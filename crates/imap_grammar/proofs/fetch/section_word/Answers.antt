use Rattle.std.proofs.Common.{true, false, refl}
use Rattle.imap_grammar.specs.Fetching.{text_words, after_section_word}
use Rattle.imap_words.proofs.TableSteps.{is_table, tells_longer}
use Rattle.imap_grammar.proofs.fetch.section_word.Goals as goal

pub returns-then-after_numbers : goal.returns-then-after_numbers
returns-then-after_numbers c =
    rw c.if-after_numbers.true (c.read_word.ensures after_section_word (is_table _ _ refl refl) (tells_longer after_section_word (text_words true) refl))

pub returns : goal.returns
returns c =
    rw c.if-after_numbers.false (c.read_word-2.ensures after_section_word (is_table _ _ refl refl) (tells_longer after_section_word (text_words false) refl))
