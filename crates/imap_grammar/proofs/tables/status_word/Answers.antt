use Rattle.std.proofs.Common.{refl}
use Rattle.imap_words.specs.Reading.{never}
use Rattle.imap_grammar.specs.Commands.{status_words}
use Rattle.imap_words.proofs.TableSteps.{is_table, tells_longer}
use Rattle.imap_grammar.proofs.tables.status_word.Goals as goal

pub returns : goal.returns
returns c = c.read_word.ensures never (is_table _ _ refl refl) (tells_longer never status_words refl)
