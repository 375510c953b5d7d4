use Rattle.std.proofs.Common.{◌≡◌, ◌++◌, ◌∷◌, [], ap, ◌∙◌, arith, replicate}
use Rattle.std.proofs.lemmas.List.{replicate_more}
use Rattle.imap_views.proofs.structures.empty_lists.Goals as goal

pub loop-init : goal.loop-init
loop-init c = c.new-lists.ensures.items

pub loop-preserved : goal.loop-preserved
loop-preserved c =
    c.in_ok-push.ensures.items ∙ ap (λ last. c.loop.lists.items ++ last ∷ []) c.new.ensures ∙ ap (λ lists. lists ++ [] ∷ []) c.loop.invariant ∙ replicate_more c.loop.counter []

pub returns : goal.returns
returns c = let same : c.loop.counter ≡ c.args.count = omega arith in c.loop.invariant ∙ ap (λ n. replicate n []) same
