use Rattle.std.proofs.Common.{◌++◌, refl}
use Rattle.imap_grammar.specs.Fetching.{item_words, macro_words, after_item_word}
use Rattle.imap_words.proofs.TableSteps.{is_table, tells_longer}
use Rattle.imap_grammar.proofs.fetch.item_word.Goals as goal

pub returns : goal.returns
returns c = c.read_word.ensures after_item_word (is_table _ _ refl refl) (tells_longer after_item_word (item_words ++ macro_words) refl)
