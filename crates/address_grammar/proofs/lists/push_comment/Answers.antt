use Rattle.std.proofs.Common.{◌∷◌, [], refl}
use Rattle.std.proofs.lemmas.List.{map-append}
use Rattle.field_tokens.specs.Trees.{tree_of}
use Rattle.address_grammar.proofs.ListSaying.{have_one}
use Rattle.address_grammar.proofs.lists.push_comment.Goals as goal

pub returns-in_ok-push-in-Comment : goal.returns-in_ok-push-in-Comment
returns-in_ok-push-in-Comment c = record {
  first = tree_of c.in_ok-comment-in-Comment.comment ∷ [];
  have = have_one c.args.text.now c.args.token.now _ (rw (c.in-Comment.is) refl) c.in_ok-comment-in-Comment.ensures;
  added = rw (c.in_ok-push-in-Comment.ensures.items, map-append) refl;
}
