use Rattle.std.proofs.Common.{take}
use Rattle.address_grammar.specs.AddressLists.{comment_tokens, HaveTrees}
use Rattle.address_grammar.specs.private.ListViews.{trees_of}
use Rattle.address_grammar.proofs.lists.read_comments.Given as goal

abbrev pub invariant-loop-token : goal.invariant-loop-token
invariant-loop-token l = HaveTrees l.text (comment_tokens (take l.token-index l.tokens)) (trees_of l.made.items)
