use Rattle.field_tokens.proofs.CommentWriting.{WritesText-none, WritesText-some, run_utf8}
use Rattle.field_tokens.proofs.comments.write_text.Goals as goal

pub returns-then-len-eq0 : goal.returns-then-len-eq0
returns-then-len-eq0 c =
    WritesText-none c.args.octets.now c.split_white.result.0.now c.split_white.result.1.now c.split_run-len.result.1.now c.split_run-len.result.0 _ c.split_white.ensures c.split_run-len.ensures c.if-len-eq0.true

pub write_run-requires : goal.write_run-requires
write_run-requires c =
    run_utf8 c.args.octets.now c.split_white.result.0.now c.split_white.result.1.now c.split_run-len.result.1.now _ c.split_run-len.result.0 c.split_white.ensures c.split_run-len.ensures c.split_at.ensures.front c.requires

pub returns : goal.returns
returns c =
    WritesText-some c.args.octets.now c.split_white.result.0.now c.split_white.result.1.now c.split_run-len.result.1.now c.split_at.result.0.now c.split_run-len.result.0 _ _ _ c.split_white.ensures c.split_run-len.ensures c.if-len-eq0.false
    c.split_at.ensures.front c.in_ok-ascii.ensures
