-- Groups: comments, quoted strings and literals (RFC 5322, 3.2.2, 3.2.4 and 3.4.1). Each goes from its opening mark to
-- its closing mark, with quoted pairs in it, and a comment with comments in it too.
use Rattle.std.specs.Prelude.{◌≡◌, ◌≢◌, ℕ, ◌+◌, ◌<◌, max, Bool, true, not, ◌||◌, List, [], ◌∷◌, ◌++◌}
use Rattle.mail_wire.specs.Characters.{backslash}
use Rattle.field_tokens.specs.declared.groups.Marks.{Marks}
use Rattle.field_tokens.specs.TokenOctets.{is_control}

-- What stands in a group: nothing more, or an octet, a quoted pair or a group, and then more.
pub data Inside : Type 0 where
  End : Inside
  Plain : ℕ → Inside → Inside
  Pair : ℕ → Inside → Inside
  Nested : Inside → Inside → Inside

-- The octets of a group's content: octets, quoted pairs, and groups in its marks.
abbrev pub inside_octets : Marks → Inside → List ℕ
inside_octets m End = []
inside_octets m (Plain x more) = x ∷ inside_octets m more
inside_octets m (Pair x more) = backslash ∷ x ∷ inside_octets m more
inside_octets m (Nested inside more) = m.open_mark ∷ (inside_octets m inside ++ m.close_mark ∷ inside_octets m more)

-- how many groups are open at the deepest place
abbrev pub depth_of : Inside → ℕ
depth_of End = 0
depth_of (Plain x more) = depth_of more
depth_of (Pair x more) = depth_of more
depth_of (Nested inside more) = max (depth_of inside + 1) (depth_of more)

-- the octet may stand in the group, by itself or quoted
abbrev pub may_stand : Marks → ℕ → Bool
may_stand m x = m.holds_controls || not (is_control x)

-- An octet that stands for itself is no mark and no backslash.
abbrev pub IsInside : Marks → Inside → Type 0
IsInside m End = Unit {0}
IsInside m (Plain x more) = (x ≢ m.open_mark) × (x ≢ m.close_mark) × (x ≢ backslash) × (may_stand m x ≡ true) × IsInside m more
IsInside m (Pair x more) = (may_stand m x ≡ true) × IsInside m more
IsInside m (Nested inside more) = IsInside m inside × IsInside m more

-- a group: its opening mark, what stands in it, and its closing mark
pub record IsEnclosed (m : Marks) (octets : List ℕ) : Type 0 where
  pub inside : Inside
  pub is_inside : IsInside m inside
  pub shallow : depth_of inside < m.limit
  pub spelled : octets ≡ m.open_mark ∷ (inside_octets m inside ++ m.close_mark ∷ [])

-- No mark is a backslash, some group may be open, and only where the marks differ may a group stand in another.
pub record AreMarks (m : Marks) : Type 0 where
  pub open_is : m.open_mark ≢ backslash
  pub close_is : m.close_mark ≢ backslash
  pub some : 0 < m.limit
  pub differ : m.open_mark ≡ m.close_mark → m.limit ≡ 1
