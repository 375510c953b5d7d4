-- What each token of a text is, whatever follows it.
use Rattle.std.proofs.Common.{◌≡◌, ℕ, ◌-◌, ◌<◌, Bool, true, false, ◌&&◌, eqb, inl, inr, List, [], ◌∷◌, ◌++◌, length, refl, sym, ap, ◌∙◌, subst, arith}
use Rattle.std.proofs.lemmas.Bool.{and_parts, and_from, cases_Bool}
use Rattle.std.proofs.lemmas.List.{length-append, take_at}
use Rattle.std.proofs.lemmas.List.Folds.{list_all-append}
use Rattle.std.proofs.lemmas.Str.{IsUtf8-nil, IsUtf8-append}
use Rattle.std.specs.List.{AllByRecursion, list_all}
use Rattle.std.specs.Str.{IsUtf8}
use Rattle.encoded_words.proofs.WritableUnits.{following_ascii, before_ascii}
use Rattle.field_tokens.specs.declared.Style.TheVariants.{Mail}
use Rattle.field_tokens.specs.declared.TokenKind.{TokenKind}
use Rattle.field_tokens.specs.declared.TokenKind.TheVariants.{Atom, Quoted, Literal, Special, Gap, Comment}
use Rattle.field_tokens.specs.Groups.{IsEnclosed, inside_octets}
use Rattle.field_tokens.specs.TokenOctets.{is_atom_octet, is_line_octet}
use Rattle.field_tokens.specs.Tokens.{TokenValue, AreTokens, IsToken, IsLine, quoted_marks, literal_marks}
use Rattle.address_grammar.specs.private.Lexemes.{is_blank_token, unquoted, inner_octets, said_content, content, contents}
use Rattle.field_tokens.proofs.TokenLines.{token_utf8}
use Rattle.address_grammar.proofs.Utf8Lemmas.{unquoted_utf8}
use Rattle.field_tokens.specs.Squeezed.{words_of}

-- what an atom or a literal is, whatever follows
abbrev pub Shape : TokenKind → List ℕ → Type 0
Shape Atom octets = (0 < length octets) × (list_all (is_atom_octet Mail) octets ≡ true)
Shape Literal octets = IsEnclosed literal_marks octets
Shape Quoted octets = Unit {0}
Shape Special octets = Unit {0}
Shape Gap octets = Unit {0}
Shape Comment octets = Unit {0}

pub record IsSound (t : TokenValue) : Type 0 where
  pub shape : Shape t.kind t.octets
  pub octets_utf8 : IsUtf8 t.octets
  pub utf8 : IsUtf8 (content t)
  pub line : list_all is_line_octet (content t) ≡ true

shape_of : (kind : TokenKind) (octets rest : List ℕ) → IsToken Mail kind octets rest → Shape kind octets
shape_of Atom octets rest is = (is.0, is.1.passes)
shape_of Literal octets rest is = is.1
shape_of Quoted octets rest is = tt
shape_of Special octets rest is = tt
shape_of Gap octets rest is = tt
shape_of Comment octets rest is = tt

-- what stands between the marks of a quoted string
pub inner-group : (octets inside : List ℕ) → octets ≡ 34 ∷ (inside ++ 34 ∷ []) → inner_octets octets ≡ inside
inner-group octets inside e = rw (e) (take_at inside (34 ∷ []) (length (34 ∷ (inside ++ 34 ∷ [])) - 2) (omega (arith, length-append inside (34 ∷ []))))

pub unquoted_all : (p : ℕ → Bool) (b : Bool) (octets : List ℕ) → list_all p octets ≡ true → list_all p (unquoted b octets) ≡ true
unquoted_all p b [] h = refl
unquoted_all p true (x ∷ octets) h =
    let parts = and_parts (p x) (list_all p octets) h in
    and_from (p x) (list_all p (unquoted false octets)) parts.0 (unquoted_all p false octets parts.1)
unquoted_all p false (x ∷ octets) h =
    let parts = and_parts (p x) (list_all p octets) h in
    elim (cases_Bool (eqb x 92)) [
      | inl mark ↦ rw (mark) (unquoted_all p true octets parts.1)
      | inr other ↦ rw (other) (and_from (p x) (list_all p (unquoted false octets)) parts.0 (unquoted_all p false octets parts.1))
    ]

content_utf8 : (kind : TokenKind) (octets rest : List ℕ) → IsToken Mail kind octets rest → IsUtf8 octets → IsUtf8 (said_content kind octets)
content_utf8 Atom octets rest is u = u
content_utf8 Literal octets rest is u = u
content_utf8 Special octets rest is u = u
content_utf8 Gap octets rest is u = IsUtf8-nil
content_utf8 Comment octets rest is u = IsUtf8-nil
content_utf8 Quoted octets rest is u =
    let inside : List ℕ = inside_octets quoted_marks is.inside in
    let within : IsUtf8 (inside ++ 34 ∷ []) = following_ascii 34 (inside ++ 34 ∷ []) (omega arith) (rw (is.spelled) at u) in
    rw (inner-group octets inside is.spelled) (unquoted_utf8 inside (before_ascii inside (34 ∷ []) (omega arith) within).front)

content_line : (kind : TokenKind) (octets rest : List ℕ) → IsToken Mail kind octets rest → list_all is_line_octet octets ≡ true → list_all is_line_octet (said_content kind octets) ≡ true
content_line Atom octets rest is u = u
content_line Literal octets rest is u = u
content_line Special octets rest is u = u
content_line Gap octets rest is u = refl
content_line Comment octets rest is u = refl
content_line Quoted octets rest is u =
    let inside : List ℕ = inside_octets quoted_marks is.inside in
    let whole : list_all is_line_octet (34 ∷ (inside ++ 34 ∷ [])) ≡ true = rw (is.spelled) at u in
    let within = (and_parts (is_line_octet 34) (list_all is_line_octet (inside ++ 34 ∷ [])) whole).1 in
    let front = (and_parts (list_all is_line_octet inside) (list_all is_line_octet (34 ∷ [])) (sym (list_all-append is_line_octet inside (34 ∷ [])) ∙ within)).0 in
    rw (inner-group octets inside is.spelled) (unquoted_all is_line_octet false inside front)

pub tokens_sound : (ts : List TokenValue) (text : List ℕ) → AreTokens Mail ts text → IsLine text → AllByRecursion IsSound ts
tokens_sound [] text are line = tt
tokens_sound (t ∷ ts) text are line =
    let both = token_utf8 Mail t.kind t.octets are.0 are.2 (subst IsUtf8 are.1 line.utf8) in
    let all : (list_all is_line_octet t.octets && list_all is_line_octet are.0) ≡ true
    = sym (list_all-append is_line_octet t.octets are.0) ∙ sym (ap (list_all is_line_octet) are.1) ∙ line.plain in
    let parts = and_parts (list_all is_line_octet t.octets) (list_all is_line_octet are.0) all in (
      record {
        shape = shape_of t.kind t.octets are.0 are.2;
        octets_utf8 = both.front;
        utf8 = content_utf8 t.kind t.octets are.0 are.2 both.front;
        line = content_line t.kind t.octets are.0 are.2 parts.0;
      },
      tokens_sound ts are.0 are.3 (record { utf8 = both.rest; plain = parts.1 }),
    )

-- sound tokens are cut into sound tokens
pub sound_front : (a b : List TokenValue) → AllByRecursion IsSound (a ++ b) → AllByRecursion IsSound a
sound_front [] b s = tt
sound_front (t ∷ a) b s = (s.0, sound_front a b s.1)

pub sound_rest : (a b : List TokenValue) → AllByRecursion IsSound (a ++ b) → AllByRecursion IsSound b
sound_rest [] b s = s
sound_rest (t ∷ a) b s = sound_rest a b s.1

pub sound_words : (ts : List TokenValue) → AllByRecursion IsSound ts → AllByRecursion IsSound (words_of ts)
sound_words [] s = tt
sound_words (t ∷ ts) s = elim (cases_Bool (is_blank_token t)) [
  | inl blank ↦ rw (blank) (sound_words ts s.1)
  | inr word ↦ rw (word) ((s.0, sound_words ts s.1))
]

pub contents_utf8 : (ts : List TokenValue) → AllByRecursion IsSound ts → IsUtf8 (contents ts)
contents_utf8 [] s = IsUtf8-nil
contents_utf8 (t ∷ ts) s = IsUtf8-append (content t) (contents ts) s.0.utf8 (contents_utf8 ts s.1)

pub contents_line : (ts : List TokenValue) → AllByRecursion IsSound ts → list_all is_line_octet (contents ts) ≡ true
contents_line [] s = refl
contents_line (t ∷ ts) s =
    list_all-append is_line_octet (content t) (contents ts) ∙ and_from (list_all is_line_octet (content t)) (list_all is_line_octet (contents ts)) s.0.line (contents_line ts s.1)

blank_content : (kind : TokenKind) (octets : List ℕ) → is_blank_token (record { kind = kind; octets = octets }) ≡ true → said_content kind octets ≡ []
blank_content Gap octets h = refl
blank_content Comment octets h = refl
blank_content Atom octets h = cc h
blank_content Quoted octets h = cc h
blank_content Literal octets h = cc h
blank_content Special octets h = cc h

-- gaps and comments say nothing
pub contents-words : (ts : List TokenValue) → contents ts ≡ contents (words_of ts)
contents-words [] = refl
contents-words (t ∷ ts) = elim (cases_Bool (is_blank_token t)) [
  | inl blank ↦ rw (blank, blank_content t.kind t.octets blank) (contents-words ts)
  | inr word ↦ rw (word) (ap (λ r. content t ++ r) (contents-words ts))
]
