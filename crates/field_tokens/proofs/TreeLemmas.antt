-- The equations of a comment's tree.
use Rattle.std.proofs.Common.{◌≡◌, List, [], ◌∷◌, ◌++◌, map, refl, sym, ap, ◌∙◌}
use Rattle.std.proofs.lemmas.List.{map-append}
use Rattle.mail_wire.specs.declared.values.Span.{Span}
use Rattle.field_tokens.specs.declared.Comment.{Comment}
use Rattle.field_tokens.specs.declared.Item.{Item}
use Rattle.field_tokens.specs.declared.Item.TheOpen.{Comment-F, Run as OpenRun, Nested as OpenNested}
use Rattle.field_tokens.specs.declared.Item.TheVariants.{Run, rolls-Run, rolls-Nested}
use Rattle.field_tokens.specs.declared.Item.TheViews.{roll-Comment, Nested}
use Rattle.field_tokens.specs.declared.Item.TheFolds.{fold-roll-Item, fold-roll-Comment}
use Rattle.field_tokens.specs.Trees.{Tree, End, RunThen, NestedThen, item_step, comment_step, all_before, tree_of, tree_item}
use Rattle.field_tokens.specs.private.Bodies.{AddsItem}

pub tree_roll : (x : Comment-F Item Comment) → tree_of (roll-Comment x) ≡ all_before (map tree_item x.items.items) End
tree_roll = fold-roll-Comment (Tree → Tree) Tree item_step comment_step

pub item_nested : (c : Comment) (more : Tree) → tree_item (Nested c) more ≡ NestedThen (tree_of c) more
item_nested c more = ap (λ i. tree_item i more) (sym (rolls-Nested c)) ∙ ap (λ f. f more) (fold-roll-Item (Tree → Tree) Tree item_step comment_step (OpenNested c))

pub item_run : (span : Span) (more : Tree) → tree_item (Run span) more ≡ RunThen span more
item_run span more = ap (λ i. tree_item i more) (sym (rolls-Run span)) ∙ ap (λ f. f more) (fold-roll-Item (Tree → Tree) Tree item_step comment_step (OpenRun span))

pub all_before-append : (fs gs : List (Tree → Tree)) (more : Tree) → all_before (fs ++ gs) more ≡ all_before fs (all_before gs more)
all_before-append [] gs more = refl
all_before-append (f ∷ fs) gs more = ap f (all_before-append fs gs more)

added : (old new : List Item) (item : Item) (more : Tree) → new ≡ old ++ item ∷ [] → all_before (map tree_item new) more ≡ all_before (map tree_item old) (tree_item item more)
added old new item more e = rw (e, map-append tree_item old (item ∷ [])) (all_before-append (map tree_item old) (tree_item item ∷ []) more)

pub AddsItem-run : (old new : List Item) (span : Span) → new ≡ old ++ Run span ∷ [] → AddsItem old new (RunThen span)
AddsItem-run old new span e more = added old new (Run span) more e ∙ ap (all_before (map tree_item old)) (item_run span more)

pub AddsItem-nested : (old new : List Item) (c : Comment) → new ≡ old ++ Nested c ∷ [] → AddsItem old new (NestedThen (tree_of c))
AddsItem-nested old new c e more = added old new (Nested c) more e ∙ ap (all_before (map tree_item old)) (item_nested c more)
