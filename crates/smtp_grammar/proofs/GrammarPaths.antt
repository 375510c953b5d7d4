-- Each path of the grammar is found whole.
use Rattle.std.proofs.Common.{◌≡◌, ℕ, ◌<◌, ◌&&◌, ◌||◌, not, List, [], ◌∷◌, ◌++◌, length, Bool, true, false, Some, None, Option, inl, inr, arith, refl, sym, ap, subst, ◌∙◌, append_assoc}
use Rattle.std.specs.List.{list_all}
use Rattle.std.proofs.lemmas.Bool.{and_parts, and_from, cases_Bool, or_cases, ne_eqb}
use Rattle.std.proofs.lemmas.Bool.Decides.{nat_tests}
use Rattle.std.proofs.lemmas.List.Folds.{list_all-append}
use Rattle.mail_wire.specs.Octets.{is_white}
use Rattle.field_tokens.specs.declared.Style.TheVariants.{Mail}
use Rattle.field_tokens.specs.declared.TokenKind.{TokenKind}
use Rattle.field_tokens.specs.declared.TokenKind.TheVariants.{Atom, Quoted, Literal, Special, Gap, Comment}
use Rattle.field_tokens.specs.Groups.{Inside, End, Plain, Pair, Nested, IsInside, inside_octets, depth_of}
use Rattle.field_tokens.specs.Tokens.{AreTokens, IsToken, TokenValue, quoted_marks}
use Rattle.field_tokens.specs.Squeezed.{is_comment, is_special_kind, words_of}
use Rattle.address_grammar.specs.declared.Address.{Address}
use Rattle.address_grammar.specs.Addresses.{is_domain, is_one_literal}
use Rattle.address_grammar.specs.private.Lexemes.{are_blank, are_dotted, is_blank_token, is_literal_kind, is_special_of, is_part}
use Rattle.address_grammar.specs.Paths.{IsPathOf, in_angles}
use Rattle.address_grammar.proofs.WritingLemmas.{mark_is}
use Rattle.smtp_grammar.specs.declared.command.Place.TheVariants as place
use Rattle.smtp_grammar.specs.Commands.{path_after, path_len, ends_word}
use Rattle.smtp_grammar.specs.Paths.{IsPathText}
use Rattle.smtp_grammar.proofs.PathOctets.{Passes, atoms_go, found_after, found_spaced, goes_on, passes_both, passes_literal, passes_none, passes_octet, passes_octets, passes_one, written_len}

-- ---- tokens

-- a token that may stand in a path: no comment, and of the specials a dot or `@`
abbrev may_stand : TokenValue → Bool
may_stand t = not (is_comment t.kind) && (not (is_special_kind t.kind) || (is_special_of 46 t || is_special_of 64 t))

-- white goes on
white_goes : (octets : List ℕ) → list_all is_white octets ≡ true → list_all goes_on octets ≡ true
white_goes [] h = refl
white_goes (x ∷ octets) h =
    let parts = and_parts (is_white x) (list_all is_white octets) h in
    and_from (goes_on x) (list_all goes_on octets) (one x parts.0) (white_goes octets parts.1)
  where
    one : (x : ℕ) → is_white x ≡ true → goes_on x ≡ true
    one x white = grind (arith, nat_tests)

-- what stands in a quoted string, in which no other one may stand
passes_inside : (inside : Inside) → IsInside quoted_marks inside → depth_of inside < 1 → Passes place.Quoted (inside_octets quoted_marks inside) place.Quoted
passes_inside End is flat = passes_none place.Quoted
passes_inside (Plain x more) is flat =
    let stays : Passes place.Quoted (x ∷ []) place.Quoted = rw (ne_eqb x 34 is.0, ne_eqb x 92 is.2) at (passes_one x place.Quoted refl refl) in
    passes_both (x ∷ []) (inside_octets quoted_marks more) place.Quoted place.Quoted place.Quoted stays (passes_inside more is.4 flat)
passes_inside (Pair x more) is flat =
    passes_both (92 ∷ []) (x ∷ inside_octets quoted_marks more) place.Quoted place.QuotedPair place.Quoted (passes_one 92 place.Quoted refl refl)
    (passes_both (x ∷ []) (inside_octets quoted_marks more) place.QuotedPair place.Quoted place.Quoted (passes_one x place.QuotedPair refl refl) (passes_inside more is.1 flat))
passes_inside (Nested inside more) is flat = absurd (omega (arith, flat))

-- a dot or `@`
passes_mark : (octets : List ℕ) → (is_special_of 46 (record { kind = Special; octets = octets }) || is_special_of 64 (record { kind = Special; octets = octets })) ≡ true → Passes place.Plain octets place.Plain
passes_mark octets h =
    let t : TokenValue = record { kind = Special; octets = octets } in
    elim (or_cases (is_special_of 46 t) (is_special_of 64 t) h) [
      | inl dot ↦ let is = ap (λ (t : TokenValue). t.octets) (mark_is 46 t dot) in rw is (passes_octet 46 refl)
      | inr at ↦ let is = ap (λ (t : TokenValue). t.octets) (mark_is 64 t at) in rw is (passes_octet 64 refl)
    ]

-- a token that may stand in a path
passes_token : (kind : TokenKind) (octets rest : List ℕ) → IsToken Mail kind octets rest → may_stand (record { kind = kind; octets = octets }) ≡ true → Passes place.Plain octets place.Plain
passes_token Atom octets rest is may = passes_octets octets (atoms_go octets is.1.passes)
passes_token Gap octets rest is may = passes_octets octets (white_goes octets is.1.passes)
passes_token Literal octets rest is may = passes_literal Literal octets refl is.1
passes_token Special octets rest is may = passes_mark octets may
passes_token Comment octets rest is may = cc may
passes_token Quoted octets rest is may =
    let inside = inside_octets quoted_marks is.inside in
    rw (is.spelled)
    (passes_both (34 ∷ []) (inside ++ 34 ∷ []) place.Plain place.Quoted place.Plain (passes_one 34 place.Plain refl refl)
    (passes_both inside (34 ∷ []) place.Quoted place.Quoted place.Plain (passes_inside is.inside is.is_inside is.shallow) (passes_one 34 place.Quoted refl refl)))

-- the octets of the first tokens, and of the others
record Parted (first : List ℕ) (others : List TokenValue) : Type 0 where
  front : List ℕ
  rest : List ℕ
  whole : first ≡ front ++ rest
  passes : Passes place.Plain front place.Plain
  are : AreTokens Mail others rest

parted : (tokens others : List TokenValue) (text : List ℕ) → AreTokens Mail (tokens ++ others) text → list_all may_stand tokens ≡ true → Parted text others
parted [] others text are may = record { front = []; rest = text; whole = refl; passes = passes_none place.Plain; are = are }
parted (t ∷ tokens) others text are may =
    let parts = and_parts (may_stand t) (list_all may_stand tokens) may in
    let later = parted tokens others are.0 are.3 parts.1 in
    record {
      front = t.octets ++ later.front;
      rest = later.rest;
      whole = are.1 ∙ ap (λ back. t.octets ++ back) later.whole ∙ sym (append_assoc t.octets later.front later.rest);
      passes = passes_both t.octets later.front place.Plain place.Plain place.Plain (passes_token t.kind t.octets are.0 are.2 parts.0) later.passes;
      are = later.are;
    }

-- ---- the tokens of an address

-- of the specials it is a dot or `@`
abbrev fits : TokenValue → Bool
fits t = not (is_special_kind t.kind) || (is_special_of 46 t || is_special_of 64 t)

-- gaps and comments do
blank_fits : (t : TokenValue) → is_blank_token t ≡ true → fits t ≡ true
blank_fits t blank = by t.kind t.octets blank
  where
    by : (kind : TokenKind) (octets : List ℕ) → is_blank_token (record { kind = kind; octets = octets }) ≡ true → fits (record { kind = kind; octets = octets }) ≡ true
    by Gap octets h = refl
    by Comment octets h = refl
    by Atom octets h = refl
    by Quoted octets h = refl
    by Literal octets h = refl
    by Special octets h = cc h

blanks_fit : (tokens : List TokenValue) → are_blank tokens ≡ true → list_all fits tokens ≡ true
blanks_fit [] h = refl
blanks_fit (t ∷ tokens) h =
    let parts = and_parts (is_blank_token t) (are_blank tokens) h in
    and_from (fits t) (list_all fits tokens) (blank_fits t parts.0) (blanks_fit tokens parts.1)

-- where the words do all tokens do
words_fit : (tokens : List TokenValue) → list_all fits (words_of tokens) ≡ true → list_all fits tokens ≡ true
words_fit [] h = refl
words_fit (t ∷ tokens) h = elim (cases_Bool (is_blank_token t)) [
  | inl blank ↦ and_from (fits t) (list_all fits tokens) (blank_fits t blank) (words_fit tokens (rw blank at h))
  | inr word ↦
      let parts = and_parts (fits t) (list_all fits (words_of tokens)) (rw word at h) in
      and_from (fits t) (list_all fits tokens) parts.0 (words_fit tokens parts.1)
]

-- words and atoms do
part_fits : (quoted : Bool) (t : TokenValue) → is_part quoted t ≡ true → fits t ≡ true
part_fits quoted t part = by quoted t.kind t.octets part
  where
    by : (quoted : Bool) (kind : TokenKind) (octets : List ℕ) → is_part quoted (record { kind = kind; octets = octets }) ≡ true → fits (record { kind = kind; octets = octets }) ≡ true
    by quoted Atom octets h = refl
    by quoted Quoted octets h = refl
    by quoted Literal octets h = refl
    by quoted Gap octets h = refl
    by quoted Comment octets h = refl
    by true Special octets h = cc h
    by false Special octets h = cc h

-- a dot and `@` do
mark_fits : (m : ℕ) (t : TokenValue) → fits (record { kind = Special; octets = m ∷ [] }) ≡ true → is_special_of m t ≡ true → fits t ≡ true
mark_fits m t fit mark = rw (mark_is m t mark) fit

dotted_fit : (quoted : Bool) (words : List TokenValue) → are_dotted (is_part quoted) words ≡ true → list_all fits words ≡ true
dotted_fit quoted [] h = refl
dotted_fit quoted (w ∷ []) h = and_from (fits w) true (part_fits quoted w h) refl
dotted_fit quoted (w ∷ d ∷ words) h =
    let parts = and_parts (is_part quoted w) (is_special_of 46 d && are_dotted (is_part quoted) words) h in
    let others = and_parts (is_special_of 46 d) (are_dotted (is_part quoted) words) parts.1 in
    and_from (fits w) (fits d && list_all fits words) (part_fits quoted w parts.0)
    (and_from (fits d) (list_all fits words) (mark_fits 46 d refl others.0) (dotted_fit quoted words others.1))

literal_fits : (words : List TokenValue) → is_one_literal words ≡ true → list_all fits words ≡ true
literal_fits [] h = refl
literal_fits (w ∷ []) h = and_from (fits w) true (by w.kind w.octets h) refl
  where
    by : (kind : TokenKind) (octets : List ℕ) → is_literal_kind kind ≡ true → fits (record { kind = kind; octets = octets }) ≡ true
    by Literal octets h = refl
    by Atom octets h = refl
    by Quoted octets h = refl
    by Gap octets h = refl
    by Comment octets h = refl
    by Special octets h = cc h
literal_fits (w ∷ v ∷ words) h = cc h

domain_fits : (tokens : List TokenValue) → is_domain tokens ≡ true → list_all fits tokens ≡ true
domain_fits tokens h = words_fit tokens (elim (or_cases (are_dotted (is_part false) (words_of tokens)) (is_one_literal (words_of tokens)) h) [
  | inl dotted ↦ dotted_fit false (words_of tokens) dotted
  | inr one ↦ literal_fits (words_of tokens) one
])

-- those of an address, or of the null path
inner_fits : (tokens : List TokenValue) (answer : Option Address) → IsPathOf tokens answer → list_all fits tokens ≡ true
inner_fits tokens None is = blanks_fit tokens is
inner_fits tokens (Some address) is =
    let local = words_fit is.local (dotted_fit true (words_of is.local) is.is_local) in
    let domain = domain_fits is.domain is.is_domain in
    ap (list_all fits) is.whole ∙ list_all-append fits is.local (is.at ∷ is.domain)
    ∙ and_from (list_all fits is.local) (fits is.at && list_all fits is.domain) local (and_from (fits is.at) (list_all fits is.domain) (mark_fits 64 is.at refl is.is_at) domain)

-- and where none is a comment they may stand in a path
all_stand : (tokens : List TokenValue) → list_all fits tokens ≡ true → list_all (λ t. not (is_comment t.kind)) tokens ≡ true → list_all may_stand tokens ≡ true
all_stand [] h plain = refl
all_stand (t ∷ tokens) h plain =
    let first = and_parts (fits t) (list_all fits tokens) h in
    let second = and_parts (not (is_comment t.kind)) (list_all (λ t. not (is_comment t.kind)) tokens) plain in
    and_from (may_stand t) (list_all may_stand tokens) (and_from (not (is_comment t.kind)) (fits t) second.0 first.0) (all_stand tokens first.1 second.1)

-- ---- the whole path

-- such a text is in angle brackets
record InAngles (text : List ℕ) : Type 0 where
  inner : List ℕ
  whole : text ≡ in_angles inner
  passes : Passes place.Plain inner place.Plain

-- the closing bracket is the last token
last_close : (close : TokenValue) (rest : List ℕ) → is_special_of 62 close ≡ true → AreTokens Mail (close ∷ []) rest → rest ≡ 62 ∷ []
last_close close rest closes are =
    let octets : close.octets ≡ 62 ∷ [] = ap (λ (t : TokenValue). t.octets) (mark_is 62 close closes) in
    are.1 ∙ ap (λ back. close.octets ++ back) are.3 ∙ ap (λ front. front ++ []) octets

-- the opening bracket is the first token
between_angles : (text : List ℕ) (open_mark close : TokenValue) (inner : List TokenValue) → AreTokens Mail (open_mark ∷ (inner ++ close ∷ [])) text → is_special_of 60 open_mark ≡ true
    → is_special_of 62 close ≡ true → list_all may_stand inner ≡ true → InAngles text
between_angles text open_mark close inner are opens closes may =
    let octets : open_mark.octets ≡ 60 ∷ [] = ap (λ (t : TokenValue). t.octets) (mark_is 60 open_mark opens) in
    let parts = parted inner (close ∷ []) are.0 are.3 may in
    let following : are.0 ≡ parts.front ++ 62 ∷ [] = parts.whole ∙ ap (λ back. parts.front ++ back) (last_close close parts.rest closes parts.are) in
    record {
      inner = parts.front;
      whole = are.1 ∙ ap (λ front. front ++ are.0) octets ∙ ap (λ back. 60 ∷ back) following;
      passes = parts.passes;
    }

path_angles : (text : List ℕ) (answer : Option Address) → IsPathText text answer → InAngles text
path_angles text answer is =
    let path = is.path.is_path in
    let angled = path.angled in
    let tokens : is.path.tokens ≡ angled.open_mark ∷ (path.inner ++ angled.close_mark ∷ []) =
    angled.whole ∙ ap (λ before. before ++ angled.open_mark ∷ (path.inner ++ angled.close_mark ∷ angled.after)) is.before
    ∙ ap (λ after. angled.open_mark ∷ (path.inner ++ angled.close_mark ∷ after)) is.following in
    let all : list_all (λ t. not (is_comment t.kind)) (angled.open_mark ∷ (path.inner ++ angled.close_mark ∷ [])) ≡ true = rw tokens at is.plain in
    let following = (and_parts (not (is_comment angled.open_mark.kind)) (list_all (λ t. not (is_comment t.kind)) (path.inner ++ angled.close_mark ∷ [])) all).1 in
    let plain =
    (and_parts (list_all (λ t. not (is_comment t.kind)) path.inner) (list_all (λ t. not (is_comment t.kind)) (angled.close_mark ∷ []))
    (sym (list_all-append (λ t. not (is_comment t.kind)) path.inner (angled.close_mark ∷ [])) ∙ following)).0 in
    between_angles text angled.open_mark angled.close_mark path.inner (subst (λ (ts : List TokenValue). AreTokens Mail ts text) tokens is.path.has_tokens.are_tokens) angled.opens angled.closes
    (all_stand path.inner (inner_fits path.inner answer path.holds) plain)

-- how long it is
pub path_len-whole : (text : List ℕ) (answer : Option Address) → IsPathText text answer → (rest : List ℕ) → path_len place.Plain (text ++ rest) ≡ Some (length text)
path_len-whole text answer is rest =
    let angles = path_angles text answer is in
    rw angles.whole (written_len angles.inner rest angles.passes)

-- it is found whole after a word
pub path_found-following : (word text : List ℕ) (answer : Option Address) → IsPathText text answer → (rest : List ℕ) → ends_word rest ≡ true
    → path_after word (word ++ (text ++ rest)) ≡ Some (record { path = text; rest = rest })
path_found-following word text answer is rest apart =
    let angles = path_angles text answer is in
    rw angles.whole (found_after word angles.inner rest angles.passes apart)

-- and after a word and a space
pub path_found-spaced : (word text : List ℕ) (answer : Option Address) → IsPathText text answer → (rest : List ℕ) → ends_word rest ≡ true
    → path_after word (word ++ 32 ∷ (text ++ rest)) ≡ Some (record { path = text; rest = rest })
path_found-spaced word text answer is rest apart =
    let angles = path_angles text answer is in
    rw angles.whole (found_spaced word angles.inner rest angles.passes apart)
