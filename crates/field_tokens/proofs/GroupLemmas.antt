-- A text begins with one group at most.
use Rattle.std.proofs.Common.{◌≡◌, ◌≢◌, ℕ, suc, ◌+◌, ◌<◌, ◌≤◌, List, [], ◌∷◌, ◌++◌, refl, sym, ap, ◌∙◌, arith}
use Rattle.std.proofs.lemmas.List.{append_assoc, append-nil}
use Rattle.field_tokens.specs.declared.groups.Marks.{Marks}
use Rattle.field_tokens.specs.Groups.{Inside, End, Plain, Pair, Nested, inside_octets, depth_of, IsInside, AreMarks}
use Rattle.field_tokens.specs.private.Levels.{Levels, LevelStep, NeverCloses, SplitsGroup, BeginsNoGroup}
use Rattle.field_tokens.proofs.Levels.{Step-plain, Step-pair, Step-close, Step-open, Step-more}

pub group_found : (m : Marks) (text body rest : List ℕ) (d : ℕ) → text ≡ m.open_mark ∷ body → d ≡ 0 → LevelStep m 1 body d rest → SplitsGroup m text rest
group_found m text body rest d text_is closed step =
    let all : LevelStep m 1 body 0 rest = rw (← closed) step in
    let l = all.onward [] refl in
    record {
      group = m.open_mark ∷ all.front;
      is_group = record {
        inside = l.0;
        is_inside = l.2;
        shallow = omega (arith, l.3);
        spelled = ap (λ r. m.open_mark ∷ r) (sym (append-nil all.front) ∙ l.4 ∙ rw (l.5) refl);
      };
      whole = text_is ∙ ap (λ r. m.open_mark ∷ r) all.whole;
    }

one_level : (m : Marks) (i : Inside) → IsInside m i → depth_of i < m.limit → Levels m 1 (inside_octets m i ++ m.close_mark ∷ [])
one_level m i is shallow = (i, [], is, omega arith, refl, refl)

-- a group that a text begins with, after its open mark
body_is : (m : Marks) (text body rest : List ℕ) → text ≡ m.open_mark ∷ body → (s : SplitsGroup m text rest)
    → body ≡ (inside_octets m s.is_group.inside ++ m.close_mark ∷ []) ++ rest
body_is m text body rest text_is s =
    let whole : m.open_mark ∷ body ≡ m.open_mark ∷ ((inside_octets m s.is_group.inside ++ m.close_mark ∷ []) ++ rest) = sym text_is ∙ s.whole ∙ ap (λ g. g ++ rest) s.is_group.spelled in
    cc whole

pub group_never : (m : Marks) (text body rest : List ℕ) (d : ℕ) → text ≡ m.open_mark ∷ body → LevelStep m 1 body d rest → NeverCloses m d rest → BeginsNoGroup m text
group_never m text body rest d text_is step never z s =
    let g = s.is_group in
    let r = step.back (inside_octets m g.inside ++ m.close_mark ∷ []) z (body_is m text body z text_is s) (one_level m g.inside g.is_inside g.shallow) in
    never r.0 z r.1 r.2

-- reading what stands in a group
Step-inside : (m : Marks) (d : ℕ) (i : Inside) (after : List ℕ) → AreMarks m → IsInside m i → depth_of i + suc d ≤ m.limit → LevelStep m (suc d) (inside_octets m i ++ m.close_mark ∷ after) d after
Step-inside m d End after marks is deep = Step-close m d after marks (omega arith)
Step-inside m d (Plain b more) after marks is deep =
    Step-more m (suc d) (suc d) d _ _ _ (Step-plain m d b (inside_octets m more ++ m.close_mark ∷ after) is.0 is.1 is.2 is.3) (Step-inside m d more after marks is.4 deep)
Step-inside m d (Pair b more) after marks is deep =
    Step-more m (suc d) (suc d) d _ _ _ (Step-pair m d b (inside_octets m more ++ m.close_mark ∷ after) marks is.0) (Step-inside m d more after marks is.1 deep)
Step-inside m d (Nested x more) after marks is deep =
    let other : m.open_mark ≢ m.close_mark = λ e. let one : m.limit ≡ 1 = marks.differ e in omega arith in
    let following : List ℕ = inside_octets m more ++ m.close_mark ∷ after in
    let first = Step-open m d (inside_octets m x ++ m.close_mark ∷ following) marks other in
    let second = Step-inside m (suc d) x following marks is.0 (omega arith) in
    let third = Step-inside m d more after marks is.1 (omega arith) in
    let grouped : inside_octets m (Nested x more) ++ m.close_mark ∷ after ≡ m.open_mark ∷ (inside_octets m x ++ m.close_mark ∷ following)
    = ap (λ r. m.open_mark ∷ r) (append_assoc (inside_octets m x) (m.close_mark ∷ inside_octets m more) (m.close_mark ∷ after)) in
    rw grouped (Step-more m (suc d) (suc (suc d)) d _ _ _ first (Step-more m (suc (suc d)) (suc d) d _ _ _ second third))

-- A text begins with one group at most.
pub group_once : (m : Marks) (text a b : List ℕ) → AreMarks m → SplitsGroup m text a → SplitsGroup m text b → a ≡ b
group_once m text a b marks p q =
    let g = p.is_group in
    let h = q.is_group in
    let body : List ℕ = inside_octets m g.inside ++ m.close_mark ∷ a in
    let text_is : text ≡ m.open_mark ∷ body = p.whole ∙ rw (g.spelled) (ap (λ r. m.open_mark ∷ r) (append_assoc (inside_octets m g.inside) (m.close_mark ∷ []) a)) in
    let step = Step-inside m 0 g.inside a marks g.is_inside (omega (arith, g.shallow)) in
    let r = step.back (inside_octets m h.inside ++ m.close_mark ∷ []) b (body_is m text body b text_is q) (one_level m h.inside h.is_inside h.shallow) in
    r.1 ∙ rw (r.2) refl

-- where another octet begins the text, no group does
pub no_group : (m : Marks) (text body : List ℕ) (b : ℕ) → text ≡ b ∷ body → b ≢ m.open_mark → BeginsNoGroup m text
no_group m text body b text_is other rest s =
    let whole : b ∷ body ≡ m.open_mark ∷ ((inside_octets m s.is_group.inside ++ m.close_mark ∷ []) ++ rest) = sym text_is ∙ s.whole ∙ ap (λ g. g ++ rest) s.is_group.spelled in
    other (cc whole)
