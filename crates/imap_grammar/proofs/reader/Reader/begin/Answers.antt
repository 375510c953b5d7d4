use Rattle.std.proofs.Common.{refl}
use Rattle.imap_grammar.proofs.FeedLaws.{stands_begin}
use Rattle.imap_grammar.proofs.reader.Reader.begin.Goals as goal

pub returns : goal.returns
returns c = λ utf8. stands_begin utf8 _ refl c.clear.ensures c.clear-2.ensures refl refl
