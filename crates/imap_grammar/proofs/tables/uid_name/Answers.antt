use Rattle.std.proofs.Common.{refl}
use Rattle.imap_words.specs.Reading.{never}
use Rattle.imap_grammar.specs.Commands.{uid_names}
use Rattle.imap_words.proofs.TableSteps.{is_table, tells_longer}
use Rattle.imap_grammar.proofs.tables.uid_name.Goals as goal

pub returns : goal.returns
returns c = c.read_word.ensures never (is_table _ _ refl refl) (tells_longer never uid_names refl)
