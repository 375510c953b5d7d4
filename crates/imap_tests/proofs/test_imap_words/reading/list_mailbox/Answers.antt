use Rattle.imap_words.proofs.StringHeads.{list_starts}
use Rattle.imap_tests.proofs.test_imap_words.reading.list_mailbox.Goals as goal

pub string_head-requires : goal.string_head-requires
string_head-requires c = list_starts
