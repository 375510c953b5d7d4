-- What the reader of comments finds.
use Rattle.std.specs.Prelude.{◌≡◌, ℕ, ◌+◌, ◌-◌, ◌<◌, ◌⊎◌, max, true, List, [], ◌∷◌, ◌++◌, length, map, Option}
use Rattle.std.specs.List.{list_all}
use Rattle.mail_wire.specs.declared.values.Span.{Span}
use Rattle.encoded_words.specs.CommentUnits.{TextItem, item_spelling, is_white_item}
use Rattle.field_tokens.specs.declared.Item.{Item}
use Rattle.field_tokens.specs.Trees.{StandsInText, AreText, spelling, Body, Last, Before, body_octets, IsCommentBody, Tree, IsRun, GivesRun, HasItems, all_before, tree_item}

-- no item of a text comes first
abbrev pub BeginsNoItem : List ℕ → Type 0
BeginsNoItem octets = (item : TextItem) (rest : List ℕ) → StandsInText item → octets ≡ item_spelling item ++ rest → ⊥

-- an item of a text comes first, and rest follows it
pub record BeginsItem (octets rest : List ℕ) : Type 0 where
  pub item : TextItem
  pub stands : StandsInText item
  pub whole : octets ≡ item_spelling item ++ rest

-- The octets are a run of this length, maybe none, white and what follows it.
pub record SplitsRun (octets : List ℕ) (len : ℕ) (after : List ℕ) : Type 0 where
  pub run : List TextItem
  pub trail : List TextItem
  pub are_text : AreText (run ++ trail)
  pub trail_white : list_all is_white_item trail ≡ true
  pub is_run : (run ≡ []) ⊎ IsRun run
  pub whole : octets ≡ spelling (run ++ trail) ++ after
  pub stops : BeginsNoItem after
  pub len_is : len ≡ length (spelling run)

-- The octets, the last of which stands before this end, are text and what follows it, and the text gives this run.
pub record SplitsText (end : ℕ) (octets : List ℕ) (run : Option Span) (after : List ℕ) : Type 0 where
  pub text : List TextItem
  pub are_text : AreText text
  pub whole : octets ≡ spelling text ++ after
  pub stops : BeginsNoItem after
  pub gives : GivesRun (end - length octets) text run

-- how many comments are open at the deepest place
abbrev pub body_depth : Body → ℕ
body_depth (Last text) = 0
body_depth (Before text inner more) = max (body_depth inner + 1) (body_depth more)

-- the octets begin with a body that is no deeper than this, and a closing parenthesis follows it
pub record HoldsBody (levels : ℕ) (octets : List ℕ) : Type 0 where
  pub body : Body
  pub following : List ℕ
  pub is_body : IsCommentBody body
  pub shallow : body_depth body < levels
  pub whole : octets ≡ body_octets body ++ 41 ∷ following

-- the octets are a body, a closing parenthesis and rest, and the tree is the body's
pub record ReadsBody (end : ℕ) (octets : List ℕ) (tree : Tree) (rest : List ℕ) : Type 0 where
  pub body : Body
  pub is_body : IsCommentBody body
  pub whole : octets ≡ body_octets body ++ 41 ∷ rest
  pub items : HasItems (end - length octets) body tree

-- the items grew by what stands before any tree so
abbrev pub AddsItem : List Item → List Item → (Tree → Tree) → Type 0
AddsItem old new item = (more : Tree) → all_before (map tree_item new) more ≡ all_before (map tree_item old) (item more)
