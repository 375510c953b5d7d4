use Rattle.imap_words.proofs.StringHeads.{astring_starts}
use Rattle.imap_tests.proofs.test_imap_words.reading.astring.Goals as goal

pub string_head-requires : goal.string_head-requires
string_head-requires c = astring_starts
