use Rattle.imap_words.proofs.StringLaws.{astring_parts, astring_whole, list_mailbox_parts, list_mailbox_whole}
use Rattle.imap_words.proofs.laws.strings_are_heads_and_bodies.Goals as goal

pub returns-clause-astring : goal.returns-clause-astring
returns-clause-astring c utf8 octets value = (astring_parts utf8 octets value, astring_whole utf8 octets value)

pub returns-clause-list_mailbox : goal.returns-clause-list_mailbox
returns-clause-list_mailbox c utf8 octets value = (list_mailbox_parts utf8 octets value, list_mailbox_whole utf8 octets value)
