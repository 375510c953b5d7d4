use Rattle.std.proofs.Common.{arith}
use Rattle.address_grammar.specs.private.ListViews.{trees_of}
use Rattle.address_grammar.proofs.ListSaying.{trees_turn, trees_all}
use Rattle.address_grammar.proofs.lists.read_comments.Goals as goal

pub loop-token-preserved : goal.loop-token-preserved
loop-token-preserved c =
    let adds = c.in_ok-push_comment.ensures in
    trees_turn c.args.text.now c.args.tokens.now c.loop-token.token-index _ (trees_of c.loop-token.made.items) adds.first (trees_of c.push_comment.new.made.items) (omega arith) c.loop-token.invariant adds.have adds.added

pub returns : goal.returns
returns c = trees_all c.args.text.now c.args.tokens.now c.loop-token.token-index (trees_of c.loop-token.made.items) (omega arith) c.loop-token.invariant
