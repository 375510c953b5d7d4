-- The runs of octets between the wildcards of a pattern.
use Rattle.std.specs.Prelude.{◌≡◌, ◌≤◌, ℕ, ◌+◌, Bool, true, not, ◌==◌, List, [], ◌∷◌, ◌++◌, length, take, drop, map, if◌then◌else◌}
use Rattle.std.specs.List.{list_all, count_by, All}
use Rattle.mail_wire.specs.declared.values.Span.{Span}
use Rattle.imap_words.specs.Tokens.{is_list_wildcard}
use Rattle.imap_mailboxes.specs.Patterns.{is_match}

abbrev pub is_no_wildcard : ℕ → Bool
is_no_wildcard x = not (is_list_wildcard x)

abbrev pub span_octets : List ℕ → Span → List ℕ
span_octets octets span = take span.len (drop span.at octets)

abbrev pub plain_runs : List ℕ → List Span → List (List ℕ)
plain_runs octets spans = map (span_octets octets) spans

-- these are spans of the octets, and no wildcard is in them
pub record IsPlainRun (octets : List ℕ) (span : Span) : Type 0 where
  pub within : span.at + span.len ≤ length octets
  pub plain : list_all is_no_wildcard (span_octets octets span) ≡ true

abbrev pub ArePlainRuns : List ℕ → List Span → Type 0
ArePlainRuns octets spans = All (IsPlainRun octets) spans

-- the pattern with `*` before each run and before the last one
abbrev pub after_wildcards : List (List ℕ) → List ℕ → List ℕ
after_wildcards [] last = 42 ∷ last
after_wildcards (run ∷ runs) last = 42 ∷ (run ++ after_wildcards runs last)

-- The pattern of the octets from this place on, after a wildcard, means the same as these runs and what follows the last
-- wildcard.
pub record IsCut (octets : List ℕ) (from : ℕ) (runs : List Span) (last : ℕ) : Type 0 where
  pub are_runs : ArePlainRuns octets runs
  pub within : last ≤ length octets
  pub plain : list_all is_no_wildcard (drop last octets) ≡ true
  pub same : (name : List ℕ) → is_match (42 ∷ drop from octets) name ≡ is_match (after_wildcards (plain_runs octets runs) (drop last octets)) name

-- the octets after the first run mean what is left of the pattern
abbrev pub after_front : List ℕ → (first : ℕ) → List Span → (last : ℕ) → List ℕ
after_front octets first runs last = if first == length octets then [] else after_wildcards (plain_runs octets runs) (drop last octets)

-- a pattern that is cut whole
pub record IsCutWhole (octets : List ℕ) (plain first : ℕ) (runs : List Span) (last : ℕ) : Type 0 where
  pub so_many : plain ≡ count_by is_no_wildcard octets
  pub first_within : first ≤ length octets
  pub first_plain : list_all is_no_wildcard (take first octets) ≡ true
  pub are_runs : ArePlainRuns octets runs
  pub last_within : last ≤ length octets
  pub last_plain : list_all is_no_wildcard (drop last octets) ≡ true
  pub same : (name : List ℕ) → is_match octets name ≡ is_match (take first octets ++ after_front octets first runs last) name
