-- Comments as trees (RFC 5322, 3.2.2).
use Rattle.std.specs.Prelude.{◌≡◌, ◌≢◌, ℕ, ◌+◌, true, false, List, [], ◌∷◌, ◌++◌, length, Option, Some, None, ⊤}
use Rattle.std.specs.List.{AllByRecursion, flat_map, list_all}
use Rattle.mail_wire.specs.Characters.{left_parenthesis, right_parenthesis, backslash}
use Rattle.mail_wire.specs.declared.values.Span.{Span}
use Rattle.encoded_words.specs.CommentUnits.{TextItem, Plain, Pair, item_spelling, is_white_item}
use Rattle.field_tokens.specs.declared.Token.{Token}
use Rattle.field_tokens.specs.declared.Comment.{Comment}
use Rattle.field_tokens.specs.declared.Item.{Item}
use Rattle.field_tokens.specs.declared.Item.TheOpen.{Item-F, Comment-F, Run, Nested}
use Rattle.field_tokens.specs.declared.Item.TheFolds.{fold-Item, fold-Comment}
use Rattle.field_tokens.specs.Tokens.{octets_at}

-- An octet of a comment's text that stands by itself is no parenthesis and no backslash.
abbrev pub StandsInText : TextItem → Type 0
StandsInText (Plain x) = (x ≢ left_parenthesis) × (x ≢ right_parenthesis) × (x ≢ backslash)
StandsInText (Pair x) = ⊤

-- A comment's text: no parenthesis and no backslash, but in quoted pairs (RFC 5322, 3.2.2).
abbrev pub AreText : List TextItem → Type 0
AreText text = AllByRecursion StandsInText text

-- The octets of a comment's text.
abbrev pub spelling : List TextItem → List ℕ
spelling text = flat_map item_spelling text

-- What stands in a comment: text up to its end, or text, then a comment, and what stands after that.
pub data Body : Type 0 where
  Last : List TextItem → Body
  Before : List TextItem → Body → Body → Body

-- The octets of a comment's content, with the parentheses of the comments in it.
abbrev pub body_octets : Body → List ℕ
body_octets (Last text) = spelling text
body_octets (Before text inner more) = spelling text ++ left_parenthesis ∷ (body_octets inner ++ right_parenthesis ∷ body_octets more)

-- All texts in a comment's content are texts of comments (RFC 5322, 3.2.2).
abbrev pub IsCommentBody : Body → Type 0
IsCommentBody (Last text) = AreText text
IsCommentBody (Before text inner more) = AreText text × IsCommentBody inner × IsCommentBody more

-- a comment's tree: nothing more, or a run or a comment, and then more
pub data Tree : Type 0 where
  End : Tree
  RunThen : Span → Tree → Tree
  NestedThen : Tree → Tree → Tree

-- The text doesn't begin or end with white. A quoted pair is never white.
pub record IsRun (run : List TextItem) : Type 0 where
  pub begins : (first : TextItem) × (others : List TextItem) × (run ≡ first ∷ others) × (is_white_item first ≡ false)
  pub ends : (others : List TextItem) × (last : TextItem) × (run ≡ others ++ last ∷ []) × (is_white_item last ≡ false)

-- the text, which stands at this place, is a run with white at its ends
pub record HasRun (at : ℕ) (text : List TextItem) (span : Span) : Type 0 where
  pub lead : List TextItem
  pub run : List TextItem
  pub trail : List TextItem
  pub lead_white : list_all is_white_item lead ≡ true
  pub trail_white : list_all is_white_item trail ≡ true
  pub is_run : IsRun run
  pub whole : text ≡ lead ++ (run ++ trail)
  pub at_is : span.at ≡ at + length (spelling lead)
  pub len_is : span.len ≡ length (spelling run)

-- Text gives its run. Where it is white only it gives none.
abbrev pub GivesRun : ℕ → List TextItem → Option Span → Type 0
GivesRun at text None = list_all is_white_item text ≡ true
GivesRun at text (Some span) = HasRun at text span

-- a run, where there is one, before a tree
abbrev pub run_then : Option Span → Tree → Tree
run_then None more = more
run_then (Some span) more = RunThen span more

-- a tree by what stands in the comment from this place on
abbrev pub HasItems : ℕ → Body → Tree → Type 0
HasItems at (Last text) tree = (run : Option Span) × GivesRun at text run × (tree ≡ run_then run End)
HasItems at (Before text inner more) tree =
    (run : Option Span) × (nested following : Tree) × GivesRun at text run × HasItems (at + length (spelling text) + 1) inner nested
    × HasItems (at + length (spelling text) + length (body_octets inner) + 2) more following × (tree ≡ run_then run (NestedThen nested following))

-- the token's octets are parentheses around a body, and the tree is the body's
pub record HasComment (text : List ℕ) (token : Token) (tree : Tree) : Type 0 where
  pub body : Body
  pub is_body : IsCommentBody body
  pub spelled : octets_at text token.span ≡ left_parenthesis ∷ (body_octets body ++ right_parenthesis ∷ [])
  pub items : HasItems (token.span.at + 1) body tree

-- one item before a tree
abbrev pub item_step : Item-F (Tree → Tree) Tree → Tree → Tree
item_step (Run span) more = RunThen span more
item_step (Nested comment) more = NestedThen comment more

-- What the items make of a tree, each put before those that follow.
abbrev pub all_before : List (Tree → Tree) → Tree → Tree
all_before [] more = more
all_before (item ∷ items) more = item (all_before items more)

-- The tree of a comment's items.
abbrev pub comment_step : Comment-F (Tree → Tree) Tree → Tree
comment_step comment = all_before comment.items.items End

-- a comment of the code as a tree
abbrev pub tree_of : Comment → Tree
tree_of = fold-Comment (Tree → Tree) Tree item_step comment_step

-- An item of a comment before a tree.
abbrev pub tree_item : Item → Tree → Tree
tree_item = fold-Item (Tree → Tree) Tree item_step comment_step
