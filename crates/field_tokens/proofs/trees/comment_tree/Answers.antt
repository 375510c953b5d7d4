use Rattle.std.proofs.Common.{arith, sym, ◌∙◌}
use Rattle.field_tokens.proofs.CommentTokens.{comment_at, comment_some, HoldsBody-comment, token_size, comment_found}
use Rattle.field_tokens.proofs.trees.comment_tree.Goals as goal

pub octets_of-requires : goal.octets_of-requires
octets_of-requires c = (comment_at c.args.text.now c.args.token.now c.requires.token c.requires.comment).within

pub split_mark-requires : goal.split_mark-requires
split_mark-requires c = rw (c.octets_of.ensures) (comment_some c.args.text.now c.args.token.now (comment_at c.args.text.now c.args.token.now c.requires.token c.requires.comment))

pub overflow_add-end : goal.overflow_add-end
overflow_add-end c =
    let within = (comment_at c.args.text.now c.args.token.now c.requires.token c.requires.comment).within in
    omega (arith, within)

pub read_comment-requires-clause-bound : goal.read_comment-requires-clause-bound
read_comment-requires-clause-bound c =
    let at = comment_at c.args.text.now c.args.token.now c.requires.token c.requires.comment in
    let size = token_size c.args.text.now c.args.token.now _ _ at (sym c.octets_of.ensures ∙ c.split_mark.ensures) in
    omega (arith, size)

pub read_comment-requires-clause-body : goal.read_comment-requires-clause-body
read_comment-requires-clause-body c =
    let at = comment_at c.args.text.now c.args.token.now c.requires.token c.requires.comment in
    HoldsBody-comment c.args.text.now c.args.token.now _ _ at (sym c.octets_of.ensures ∙ c.split_mark.ensures)

pub returns : goal.returns
returns c =
    let at = comment_at c.args.text.now c.args.token.now c.requires.token c.requires.comment in
    comment_found c.args.text.now c.args.token.now _ _ _ _ at (sym c.octets_of.ensures ∙ c.split_mark.ensures) c.in_ok-comment.ensures
