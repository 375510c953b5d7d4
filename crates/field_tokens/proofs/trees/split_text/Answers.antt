use Rattle.std.proofs.Common.{refl}
use Rattle.field_tokens.proofs.Runs.{SplitsText-none, SplitsText-some}
use Rattle.field_tokens.proofs.trees.split_text.Goals as goal

pub returns-then-len-eq0 : goal.returns-then-len-eq0
returns-then-len-eq0 c =
    SplitsText-none c.args.end c.args.octets.now c.split_white.result.0.now c.split_white.result.1.now c.split_run-len.result.1.now c.split_run-len.result.0 c.split_white.ensures c.split_run-len.ensures c.if-len-eq0.true

pub returns : goal.returns
returns c =
    SplitsText-some c.args.end c.args.octets.now c.split_white.result.0.now c.split_white.result.1.now c.split_run-len.result.1.now c.split_run-len.result.0 _ c.split_white.ensures c.split_run-len.ensures c.if-len-eq0.false
    c.requires refl
