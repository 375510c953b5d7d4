use Rattle.address_lists.proofs.ListRewriting.{blank_place}
use Rattle.address_lists.proofs.rewriting.write_empty.Goals as goal

pub write_comments-requires : goal.write_comments-requires
write_comments-requires c = c.requires.writable.comments

pub returns-in-Ok-clause-ok : goal.returns-in-Ok-clause-ok
returns-in-Ok-clause-ok c = blank_place _ _ _ c.requires.blank c.in-Ok.ensures
