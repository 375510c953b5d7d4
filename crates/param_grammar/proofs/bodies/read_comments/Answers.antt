use Rattle.std.proofs.Common.{ap, ◌++◌, ◌∙◌}
use Rattle.field_tokens.specs.declared.Style.TheVariants.{Mime}
use Rattle.param_grammar.specs.private.Marked.{tokens_of}
use Rattle.param_grammar.proofs.SectionLemmas.{token_among, CommentsGo-start, CommentsGo-push, HaveComments-read}
use Rattle.param_grammar.proofs.bodies.read_comments.Goals as goal

pub loop-token-init : goal.loop-token-init
loop-token-init c = CommentsGo-start c.args.text.now (tokens_of c.args.tokens) _ c.new-comments.ensures.items

pub loop-token-preserved : goal.loop-token-preserved
loop-token-preserved c =
    CommentsGo-push c.args.text.now (tokens_of c.args.tokens) (tokens_of c.loop-token.rest) (tokens_of c.in-Some.following) c.in-Some.token c.loop-token.comments.items c.push_comment.new.comments.items
    c.in-Some.ensures.found c.loop-token.invariant c.in_ok-push_comment.ensures

pub returns : goal.returns
returns c = HaveComments-read c.args.text.now (tokens_of c.args.tokens) (tokens_of c.loop-token.rest) c.loop-token.comments.items c.loop-token.invariant c.in_default.ensures.none

pub push_comment-requires : goal.push_comment-requires
push_comment-requires c =
    let go = c.loop-token.invariant in
    record {
      style = Mime;
      tokens = tokens_of c.args.tokens;
      has = c.requires;
      among = token_among (tokens_of c.args.tokens) go.front (tokens_of c.in-Some.following) c.in-Some.token (go.whole ∙ ap (λ r. go.front ++ r) c.in-Some.ensures.found);
    }
