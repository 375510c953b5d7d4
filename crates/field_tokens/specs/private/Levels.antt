-- What is left of groups that are open.
use Rattle.std.specs.Prelude.{◌≡◌, ℕ, zero, suc, ◌+◌, ◌≤◌, List, [], ◌∷◌, ◌++◌}
use Rattle.field_tokens.specs.declared.groups.Marks.{Marks}
use Rattle.field_tokens.specs.Groups.{Inside, inside_octets, depth_of, IsInside, IsEnclosed}

-- the octets close this many groups, each at its depth, and nothing follows
abbrev pub Levels : Marks → ℕ → List ℕ → Type 0
Levels m zero xs = xs ≡ []
Levels m (suc d) xs = (i : Inside) × (ys : List ℕ) × IsInside m i × (depth_of i + suc d ≤ m.limit) × (xs ≡ inside_octets m i ++ m.close_mark ∷ ys) × Levels m d ys

-- From d open groups before rest a front leads to e open groups before after, and every reading goes that way.
pub record LevelStep (m : Marks) (d : ℕ) (rest : List ℕ) (e : ℕ) (after : List ℕ) : Type 0 where
  pub front : List ℕ
  pub whole : rest ≡ front ++ after
  pub onward : (ys : List ℕ) → Levels m e ys → Levels m d (front ++ ys)
  pub back : (xs z : List ℕ) → rest ≡ xs ++ z → Levels m d xs → (ys : List ℕ) × (after ≡ ys ++ z) × Levels m e ys × (xs ≡ front ++ ys)

-- no front of rest closes the open groups
abbrev pub NeverCloses : Marks → ℕ → List ℕ → Type 0
NeverCloses m d rest = (xs z : List ℕ) → rest ≡ xs ++ z → Levels m d xs → ⊥

-- the text is a group and rest
pub record SplitsGroup (m : Marks) (text rest : List ℕ) : Type 0 where
  pub group : List ℕ
  pub is_group : IsEnclosed m group
  pub whole : text ≡ group ++ rest

-- no front of the text is a group
abbrev pub BeginsNoGroup : Marks → List ℕ → Type 0
BeginsNoGroup m text = (rest : List ℕ) → ¬ SplitsGroup m text rest
