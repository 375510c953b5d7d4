-- For every style and text there is a list of tokens, or none.
use Rattle.std.proofs.Common.{◌≡◌, ◌≢◌, ℕ, zero, suc, ◌<◌, ◌≤◌, Bool, true, not, eqb, ◌&&◌, ◌⊎◌, inl, inr, List, [], ◌∷◌, ◌++◌, length, take, drop, position, Option, Some, None, refl, sym, ap, ◌∙◌, subst, arith}
use Rattle.std.proofs.lemmas.Bool.{cases_Bool, cases_eq, cases_lt, both_ways, true≢false}
use Rattle.std.proofs.lemmas.Str.{IsUtf8-from_is_utf8, is_utf8-from_IsUtf8}
use Rattle.std.specs.List.{list_all}
use Rattle.std.specs.Str.{is_utf8}
use Rattle.mail_wire.specs.Octets.{is_white}
use Rattle.mail_wire.specs.Spans.{Stops, IsSpan}
use Rattle.mail_wire.proofs.SpanLemmas.{IsSpan-found, IsSpan-whole}
use Rattle.field_tokens.specs.declared.groups.Marks.{Marks}
use Rattle.field_tokens.specs.declared.Style.{Style}
use Rattle.field_tokens.specs.declared.Style.TheVariants.{Mail}
use Rattle.field_tokens.specs.declared.TokenKind.{TokenKind}
use Rattle.field_tokens.specs.declared.TokenKind.TheVariants.{Atom, Quoted, Literal, Special, Gap, Comment}
use Rattle.field_tokens.specs.TokenOctets.{is_mail, is_special, is_atom_octet, is_line_octet}
use Rattle.field_tokens.specs.Groups.{may_stand, AreMarks}
use Rattle.field_tokens.specs.private.Levels.{LevelStep, NeverCloses, SplitsGroup, BeginsNoGroup}
use Rattle.field_tokens.specs.Tokens.{comment_marks, quoted_marks, literal_marks, BeginsToken, TokenValue, AreTokens, IsLine, HasTokenValues}
use Rattle.field_tokens.proofs.Levels.{Step-none, Step-more, Step-plain, Step-pair, Step-close, Step-open, NeverCloses-deep, NeverCloses-end, NeverCloses-backslash, NeverCloses-plain, NeverCloses-pair}
use Rattle.field_tokens.proofs.GroupLemmas.{group_found, group_never, no_group}
use Rattle.field_tokens.proofs.TokenLemmas.{comment_proper, quoted_proper, literal_proper, literal_octet, no_class, class_none, comment_none, quoted_none, literal_none, special_found, not_opposite}
use Rattle.field_tokens.proofs.TokenLists.{ReadsTokens-none, ReadsTokens-push, no_tokens, token_some}

-- the open groups close before some rest, or never
abbrev Closes : Marks → ℕ → List ℕ → Type 0
Closes m d text = ((rest : List ℕ) × LevelStep m d text 0 rest) ⊎ NeverCloses m d text

after_step : (m : Marks) (d e : ℕ) (text after : List ℕ) → LevelStep m d text e after → Closes m e after → Closes m d text
after_step m d e text after step (inl found) = inl (found.0, Step-more m d e 0 text after found.0 step found.1)
after_step m d e text after step (inr never) = inr (λ xs z same l. let r = step.back xs z same l in never r.0 z r.1 r.2)

-- an octet that is no backslash
decide_octet : (m : Marks) (d b : ℕ) (after : List ℕ) → AreMarks m → suc d ≤ m.limit → b ≢ 92 → ((e : ℕ) → e ≤ m.limit → Closes m e after) → Closes m (suc d) (b ∷ after)
decide_octet m d b after marks room other more = elim (cases_eq b m.close_mark) [
  | inl e ↦ rw e (after_step m (suc d) d (m.close_mark ∷ after) after (Step-close m d after marks room) (more d (omega arith)))
  | inr no_close ↦ elim (cases_eq b m.open_mark) [
    | inl e ↦ elim (cases_lt (suc d) m.limit) [
      | inl deeper ↦ rw e (after_step m (suc d) (suc (suc d)) (m.open_mark ∷ after) after (Step-open m d after marks (λ f. no_close (e ∙ f))) (more (suc (suc d)) (omega arith)))
      | inr full ↦ rw e (inr (NeverCloses-deep m d after marks (λ f. no_close (e ∙ f)) full))
    ]
    | inr no_open ↦ elim (cases_Bool (may_stand m b)) [
      | inl stands ↦ after_step m (suc d) (suc d) (b ∷ after) after (Step-plain m d b after no_open no_close other stands) (more (suc d) room)
      | inr bars ↦ inr (NeverCloses-plain m d b after no_open no_close other bars)
    ]
  ]
]

decide_pair : (m : Marks) (d q : ℕ) (after : List ℕ) → AreMarks m → Closes m (suc d) after → Closes m (suc d) (92 ∷ q ∷ after)
decide_pair m d q after marks more = elim (cases_Bool (may_stand m q)) [
  | inl stands ↦ after_step m (suc d) (suc d) (92 ∷ q ∷ after) after (Step-pair m d q after marks stands) more
  | inr bars ↦ inr (NeverCloses-pair m d q after marks bars)
]

decide_closes : (m : Marks) (d : ℕ) (text : List ℕ) → AreMarks m → d ≤ m.limit → Closes m d text
decide_closes m zero text marks room = inl (text, Step-none m 0 text)
decide_closes m (suc d) [] marks room = inr (NeverCloses-end m d)
decide_closes m (suc d) (b ∷ []) marks room = elim (cases_eq b 92) [
  | inl e ↦ rw e (inr (NeverCloses-backslash m d marks))
  | inr other ↦ decide_octet m d b [] marks room other (λ e h. decide_closes m e [] marks h)
]
decide_closes m (suc d) (b ∷ q ∷ after) marks room = elim (cases_eq b 92) [
  | inl e ↦ rw e (decide_pair m d q after marks (decide_closes m (suc d) after marks room))
  | inr other ↦ decide_octet m d b (q ∷ after) marks room other (λ e h. decide_closes m e (q ∷ after) marks h)
]

-- A text begins with a group, or with none.
pub decide_group : (m : Marks) → AreMarks m → (text : List ℕ) → ((rest : List ℕ) × SplitsGroup m text rest) ⊎ BeginsNoGroup m text
decide_group m marks [] = inr (λ rest s. empty rest s)
  where
    empty : (rest : List ℕ) → SplitsGroup m [] rest → ⊥
    empty rest s = let e : [] ≡ _ = s.whole ∙ ap (λ g. g ++ rest) s.is_group.spelled in cc e
decide_group m marks (b ∷ body) = elim (cases_eq b m.open_mark) [
  | inr other ↦ inr (no_group m (b ∷ body) body b refl other)
  | inl e ↦ elim (decide_closes m 1 body marks marks.some) [
    | inl found ↦ inl (found.0, group_found m (b ∷ body) body found.0 0 (ap (λ x. x ∷ body) e) refl found.1)
    | inr never ↦ inr (group_never m (b ∷ body) body body 1 (ap (λ x. x ∷ body) e) (Step-none m 1 body) never)
  ]
]

-- the longest front that passes
longest : (p : ℕ → Bool) (xs : List ℕ) → (front : List ℕ) × (rest : List ℕ) × IsSpan p xs front rest
longest p xs = by (position (λ x. not (p x)) xs) refl
  where
    by : (o : Option ℕ) → position (λ x. not (p x)) xs ≡ o → (front : List ℕ) × (rest : List ℕ) × IsSpan p xs front rest
    by (Some i) e = (take i xs, drop i xs, (IsSpan-found p (λ x. not (p x)) xs i (not_opposite p) e).1)
    by None e = (take (length xs) xs, drop (length xs) xs, IsSpan-whole p (λ x. not (p x)) xs (not_opposite p) e)

longest_some : (p : ℕ → Bool) (b : ℕ) (after front rest : List ℕ) → p b ≡ true → IsSpan p (b ∷ after) front rest → 0 < length front
longest_some p b after [] rest passes s = absurd (both_ways (p b) (subst (Stops p) (sym s.whole) s.stops) passes)
longest_some p b after (x ∷ front) rest passes s = omega arith

-- the first token of a text, or none
abbrev pub First : Style → List ℕ → Type 0
First style text = ((kind : TokenKind) × (rest : List ℕ) × BeginsToken style kind text rest) ⊎ ((kind : TokenKind) (rest : List ℕ) → ¬ BeginsToken style kind text rest)

gap_first : (style : Style) (b : ℕ) (after : List ℕ) → is_white b ≡ true → First style (b ∷ after)
gap_first style b after is =
    let s = longest is_white (b ∷ after) in
    inl (Gap, s.1, record { octets = s.0; whole = s.2.whole; is_token = (longest_some is_white b after s.0 s.1 is s.2, record { whole = refl; passes = s.2.passes; stops = s.2.stops }) })

atom_first : (style : Style) (b : ℕ) (after : List ℕ) → is_atom_octet style b ≡ true → First style (b ∷ after)
atom_first style b after is =
    let s = longest (is_atom_octet style) (b ∷ after) in
    inl (Atom, s.1, record { octets = s.0; whole = s.2.whole; is_token = (longest_some (is_atom_octet style) b after s.0 s.1 is s.2, record { whole = refl; passes = s.2.passes; stops = s.2.stops }) })

comment_first : (style : Style) (b : ℕ) (after : List ℕ) → b ≡ 40 → First style (b ∷ after)
comment_first style b after is = elim (decide_group comment_marks comment_proper (b ∷ after)) [
  | inl found ↦ inl (Comment, found.0, record { octets = found.1.group; whole = found.1.whole; is_token = found.1.is_group })
  | inr none ↦ inr (comment_none style b (b ∷ after) after refl is none)
]

quoted_first : (style : Style) (b : ℕ) (after : List ℕ) → b ≡ 34 → First style (b ∷ after)
quoted_first style b after is = elim (decide_group quoted_marks quoted_proper (b ∷ after)) [
  | inl found ↦ inl (Quoted, found.0, record { octets = found.1.group; whole = found.1.whole; is_token = found.1.is_group })
  | inr none ↦ inr (quoted_none style b (b ∷ after) after refl is none)
]

literal_first : (style : Style) (b : ℕ) (after : List ℕ) → (style ≡ Mail) × (b ≡ 91) → First style (b ∷ after)
literal_first style b after is = elim (decide_group literal_marks literal_proper (b ∷ after)) [
  | inl found ↦ inl (Literal, found.0, record { octets = found.1.group; whole = found.1.whole; is_token = (is.0, found.1.is_group) })
  | inr none ↦ inr (literal_none style b (b ∷ after) after refl is none)
]

first_by : (style : Style) (b : ℕ) (after : List ℕ) → First style (b ∷ after)
first_by style b after = elim (cases_Bool (is_white b)) [
  | inl w ↦ gap_first style b after w
  | inr no_white ↦ elim (cases_eq b 40) [
    | inl c ↦ comment_first style b after c
    | inr no_comment ↦ elim (cases_eq b 34) [
      | inl q ↦ quoted_first style b after q
      | inr no_quoted ↦ elim (cases_Bool (is_mail style && eqb b 91)) [
        | inl l ↦ literal_first style b after (literal_octet style b l)
        | inr no_literal ↦ elim (cases_Bool (is_special style b)) [
          | inl s ↦ inl (Special, after, special_found style b (b ∷ after) after refl s)
          | inr no_special ↦ elim (cases_Bool (is_atom_octet style b)) [
            | inl a ↦ atom_first style b after a
            | inr no_atom ↦ inr (no_class style b (b ∷ after) after refl (class_none style b no_white no_comment no_quoted no_literal no_special no_atom))
          ]
        ]
      ]
    ]
  ]
]

pub decide_first : (style : Style) (text : List ℕ) → 0 < length text → First style text
decide_first style [] some = absurd (omega arith)
decide_first style (b ∷ after) some = first_by style b after

-- the text is some tokens, or none
abbrev pub Tokenized : Style → List ℕ → Type 0
Tokenized style text = ((values : List TokenValue) × AreTokens style values text) ⊎ ((values : List TokenValue) → ¬ AreTokens style values text)

-- what follows the first token decides
after_first : (style : Style) (text : List ℕ) (kind : TokenKind) (rest : List ℕ) → 0 < length text → BeginsToken style kind text rest → Tokenized style rest → Tokenized style text
after_first style text kind rest some b (inl found) = inl (record { kind = kind; octets = b.octets } ∷ found.0, (rest, b.whole, b.is_token, found.1))
after_first style text kind rest some b (inr none) = inr (λ values are. let u = (ReadsTokens-push style kind text text rest [] (ReadsTokens-none style text) some b).back values are in none u.0 u.1)

tokens_by : (fuel : ℕ) (style : Style) (text : List ℕ) → length text ≤ fuel → Tokenized style text
tokens_by fuel style [] enough = inl ([], refl)
tokens_by zero style (b ∷ after) enough = absurd (omega arith)
tokens_by (suc fuel) style (b ∷ after) enough = elim (first_by style b after) [
  | inl first ↦ after_first style (b ∷ after) first.0 first.1 (omega arith) first.2 (tokens_by fuel style first.1 (omega (arith, enough, token_some style first.0 (b ∷ after) first.1 first.2)))
  | inr none ↦ inr (no_tokens style (b ∷ after) (b ∷ after) [] (ReadsTokens-none style (b ∷ after)) (omega arith) none)
]

pub decide_are_tokens : (style : Style) (text : List ℕ) → Tokenized style text
decide_are_tokens style text = tokens_by (length text) style text (omega arith)

pub decide_line : (text : List ℕ) → IsLine text ⊎ ¬ IsLine text
decide_line text = elim (cases_Bool (is_utf8 text)) [
  | inr fails ↦ inr (λ is. true≢false (sym (is_utf8-from_IsUtf8 text is.utf8) ∙ fails))
  | inl sound ↦ elim (cases_Bool (list_all is_line_octet text)) [
    | inr fails ↦ inr (λ is. true≢false (sym is.plain ∙ fails))
    | inl plain ↦ inl (record { utf8 = IsUtf8-from_is_utf8 text sound; plain = plain })
  ]
]

-- For every style and text there is a list of tokens, or none.
pub decide_tokens : (style : Style) (text : List ℕ) → ((values : List TokenValue) × HasTokenValues style text values) ⊎ ((values : List TokenValue) → ¬ HasTokenValues style text values)
decide_tokens style text = elim (decide_line text) [
  | inr fails ↦ inr (λ values has. fails has.is_line)
  | inl line ↦ elim (decide_are_tokens style text) [
    | inl found ↦ inl (found.0, record { is_line = line; are_tokens = found.1 })
    | inr none ↦ inr (λ values has. none values has.are_tokens)
  ]
]
