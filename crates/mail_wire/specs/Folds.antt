-- Folded texts (RFC 5322, 2.2.3): a fold is a CRLF that white follows.
use Rattle.std.specs.Prelude.{◌≡◌, true, ℕ, List, [], ◌∷◌, Bool, false, ◌&&◌, if◌then◌else◌}
use Rattle.std.specs.List.{AllByRecursion, flat_map}
use Rattle.mail_wire.specs.Characters.{line_feed, carriage_return}
use Rattle.mail_wire.specs.Octets.{is_white, is_line_end}
use Rattle.mail_wire.specs.Lines.{is_crlf}

-- CRLF and white
abbrev pub begins_fold : List ℕ → Bool
begins_fold [] = false
begins_fold (x ∷ []) = false
begins_fold (x ∷ y ∷ []) = false
begins_fold (x ∷ y ∷ z ∷ rest) = is_crlf x y && is_white z

-- the octets without each CRLF that white follows
unfoldable pub unfolded : List ℕ → List ℕ
unfolded [] = []
unfolded (x ∷ []) = x ∷ []
unfolded (x ∷ y ∷ rest) = if begins_fold (x ∷ y ∷ rest) then unfolded rest else x ∷ unfolded (y ∷ rest)

-- what a text with folds is made of: an octet other than CR and LF, or a fold, which is CRLF and white
pub data FoldedItem : Type 0 where
  Octet : ℕ → FoldedItem
  Fold : ℕ → FoldedItem

-- An octet other than CR and LF, or a fold by its white (RFC 5322, 2.2.3).
abbrev pub IsFoldedItem : FoldedItem → Type 0
IsFoldedItem (Octet x) = is_line_end x ≡ false
IsFoldedItem (Fold white) = is_white white ≡ true

-- An octet by itself, or CRLF and white for a fold (RFC 5322, 2.2.3).
abbrev pub item_octets : FoldedItem → List ℕ
item_octets (Octet x) = x ∷ []
item_octets (Fold white) = carriage_return ∷ line_feed ∷ white ∷ []

-- CR and LF stand in folds alone
pub record IsFolded (text : List ℕ) : Type 0 where
  pub items : List FoldedItem
  pub are_items : AllByRecursion IsFoldedItem items
  pub spelled : text ≡ flat_map item_octets items
