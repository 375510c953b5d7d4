use Rattle.std.proofs.Common.{◌≡◌, ◌<◌, ◌∷◌, arith, ap, ◌∙◌}
use Rattle.field_tokens.proofs.TreeLemmas.{tree_roll}
use Rattle.field_tokens.proofs.CommentReading.{ReadsOn-none, ReadsOn-turn, ReadsOn-end, HoldsBody-inner, mark_follows, mark_there, opens_of, after_bound}
use Rattle.field_tokens.proofs.trees.+read_comment.Goals as goal

pub loop-items-init : goal.loop-items-init
loop-items-init t c = ReadsOn-none c.args.levels c.args.end c.args.octets.now _ c.requires.bound c.requires.body c.new-items.ensures.items

pub split_mark-mark-requires : goal.split_mark-mark-requires
split_mark-mark-requires t c = mark_there c.args.levels _ (mark_follows c.args.levels c.args.end c.loop-items.rest.now _ _ c.loop-items.invariant.holds c.split_text-run.ensures)

pub returns-then-mark-eq41 : goal.returns-then-mark-eq41
returns-then-mark-eq41 t c =
    let mark : c.split_text-run.result.1.now ≡ 41 ∷ c.split_mark-mark.result.1.now = c.split_mark-mark.ensures ∙ ap (λ m. m ∷ c.split_mark-mark.result.1.now) c.if-mark-eq41.true in
    rw (tree_roll _) (ReadsOn-end c.args.levels c.args.end c.args.octets.now c.loop-items.rest.now _ _ _ c.loop-items.items.items _ c.loop-items.invariant c.split_text-run.ensures mark c.in_ok-push_run.ensures)

pub read_comment-requires : goal.read_comment-requires
read_comment-requires t c =
    let marks = mark_follows c.args.levels c.args.end c.loop-items.rest.now _ _ c.loop-items.invariant.holds c.split_text-run.ensures in
    let opens = opens_of c.args.levels _ _ _ marks c.split_mark-mark.ensures c.if-mark-eq41.false in
    let inner = HoldsBody-inner c.args.levels _ opens.1 in
    let some : 0 < c.args.levels = inner.0 in
    (omega arith, (after_bound c.args.end c.loop-items.rest.now _ _ _ c.split_text-run.ensures opens.0 c.loop-items.invariant.bound, inner.1))

pub loop-items-preserved : goal.loop-items-preserved
loop-items-preserved t c =
    let marks = mark_follows c.args.levels c.args.end c.loop-items.rest.now _ _ c.loop-items.invariant.holds c.split_text-run.ensures in
    let opens = opens_of c.args.levels _ _ _ marks c.split_mark-mark.ensures c.if-mark-eq41.false in
    ReadsOn-turn c.args.levels c.args.end c.args.octets.now c.loop-items.rest.now _ c.split_mark-mark.result.1.now c.in_ok-comment.next.now _ _ c.loop-items.items.items _ _ c.loop-items.invariant c.split_text-run.ensures
    opens.0 opens.1 c.in_ok-comment.ensures c.in_ok-push_run.ensures c.in_ok-push_nested.ensures
