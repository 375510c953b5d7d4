use Rattle.std.proofs.Common.{refl}
use Rattle.imap_grammar.specs.Flags.{storing_words, after_storing}
use Rattle.imap_words.proofs.TableSteps.{is_table, tells_longer}
use Rattle.imap_grammar.proofs.flags.storing_word.Goals as goal

pub returns : goal.returns
returns c = c.read_word.ensures after_storing (is_table _ _ refl refl) (tells_longer after_storing storing_words refl)
