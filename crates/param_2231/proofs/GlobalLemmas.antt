-- A Content-Type that names message/global, and the same with `rfc822` in its place.
use Rattle.std.proofs.Common.{◌≡◌, ℕ, ◌+◌, ◌<◌, Bool, true, false, ◌⊎◌, inl, inr, List, [], ◌∷◌, ◌++◌, length, take, drop, Option, Some, None, ◌≢◌, refl, sym, ap, ◌∙◌, subst, arith, not}
use Rattle.std.proofs.lemmas.Bool.{cases_Bool, and_parts, and_from, true≢false}
use Rattle.std.proofs.lemmas.List.{append_assoc, append-nil, length-append, take_at, drop_at}
use Rattle.std.proofs.lemmas.List.Elements.{filter-append}
use Rattle.std.proofs.lemmas.List.Folds.{list_all-append}
use Rattle.std.proofs.lemmas.Slice.Eq.{bytes_eq-Decides}
use Rattle.std.specs.List.{list_all}
use Rattle.std.specs.Str.{bytes_eq}
use Rattle.std.specs.Prelude.{codes, IfSome, IfNone}
use Rattle.mail_wire.specs.Octets.{is_white, is_ascii}
use Rattle.mail_wire.specs.Spans.{Stops, StopsAfter}
use Rattle.field_tokens.specs.declared.Style.TheVariants.{Mime}
use Rattle.field_tokens.specs.declared.Token.{Token}
use Rattle.field_tokens.specs.declared.TokenKind.{TokenKind}
use Rattle.field_tokens.specs.declared.TokenKind.TheVariants.{Atom, Quoted, Literal, Special, Gap, Comment}
use Rattle.field_tokens.specs.TokenOctets.{is_atom_octet}
use Rattle.field_tokens.specs.Tokens.{TokenValue, AreTokens, IsLine, HasTokens, HasTokenValues, tokens_from, octets_at}
use Rattle.field_tokens.specs.Squeezed.{is_blank, octets_of, words_of, comments_of, is_atom_kind}
use Rattle.field_tokens.specs.Comments.{CommentValue, CommentsSay}
use Rattle.field_tokens.proofs.TokenLists.{AreTokens-once, HasTokens-once, token_at}
use Rattle.field_tokens.proofs.TokenLines.{AreLineTokens, tokens_lines, line_none, line_append, ascii_line}
use Rattle.field_tokens.proofs.Parts.{octets_of-tokens, comments_of-append, StopsAfter-append, octets_of-append}
use Rattle.param_grammar.specs.declared.ParamKind.{ParamKind}
use Rattle.param_grammar.specs.declared.ParamKind.TheVariants.{Content}
use Rattle.param_grammar.specs.Bodies.{solid, is_mark_at, IsBody}
use Rattle.param_grammar.specs.Joining.{ParamValue, HasSaidBody, SaysParams}
use Rattle.param_2231.specs.GlobalTypes.{HasSubtype, NamesGlobal, with_rfc822}
use Rattle.param_grammar.proofs.BodyLemmas.{IsBody-once}
use Rattle.param_2231.proofs.ChangedTokens.{atom_of, Changed, atom_changed, AreSameAt, same_places, tokens_from-start, same_tokens}
use Rattle.param_grammar.proofs.SaidTrees.{octets_between}
use Rattle.param_2231.proofs.SameOctets.{first_part}
use Rattle.param_2231.proofs.GlobalPlaces.{solid-words, find_word, main_size, body_subtype, global_body, body_changed}

-- ---- the subtype is an atom

pub kind_is : (kind : TokenKind) → is_atom_kind kind ≡ true → kind ≡ Atom
kind_is Atom e = refl
kind_is Quoted e = cc e
kind_is Literal e = cc e
kind_is Special e = cc e
kind_is Gap e = cc e
kind_is Comment e = cc e

-- a text by the atom at this place
pub record HasAtom (text : List ℕ) (at : ℕ) : Type 0 where
  pub front : List TokenValue
  pub rest : List TokenValue
  pub octets : List ℕ
  pub has : HasTokenValues Mime text (front ++ atom_of octets ∷ rest)
  pub words : length (words_of front) ≡ 2
  pub at_is : at ≡ length (octets_of front)

pub atom_at : (text : List ℕ) (at : ℕ) → HasSubtype text at → HasAtom text at
atom_at text at s =
    let same : s.subtype ≡ atom_of s.subtype.octets = ap (λ kind. record { kind = kind; octets = s.subtype.octets }) (kind_is s.subtype.kind s.is_word) in
    record {
      front = s.front;
      rest = s.rest;
      octets = s.subtype.octets;
      has = subst (λ t. HasTokenValues Mime text (s.front ++ t ∷ s.rest)) same s.has;
      words = ap length s.words;
      at_is = s.at_is;
    }

abbrev pub placed_atom : (text : List ℕ) (at : ℕ) → HasAtom text at → Token
placed_atom text at a = record { kind = Atom; span = record { at = length (octets_of a.front); len = length a.octets } }

abbrev front_tokens : (text : List ℕ) (at : ℕ) → HasAtom text at → List Token
front_tokens text at a = tokens_from 0 a.front

abbrev rest_tokens : (text : List ℕ) (at : ℕ) → HasAtom text at → List Token
rest_tokens text at a = tokens_from (length (octets_of a.front) + length a.octets) a.rest

front_words : (text : List ℕ) (at : ℕ) (a : HasAtom text at) → length (solid (front_tokens text at a)) ≡ 2
front_words text at a = solid-words 0 a.front ∙ a.words

values_are : (text : List ℕ) (at : ℕ) (a : HasAtom text at) (tokens : List Token) (has : HasTokens Mime text tokens) → has.values ≡ a.front ++ atom_of a.octets ∷ a.rest
values_are text at a tokens has = AreTokens-once Mime text has.values (a.front ++ atom_of a.octets ∷ a.rest) has.are_tokens a.has.are_tokens

tokens_are : (text : List ℕ) (at : ℕ) (a : HasAtom text at) (tokens : List Token) → HasTokens Mime text tokens
    → tokens ≡ front_tokens text at a ++ placed_atom text at a ∷ rest_tokens text at a
tokens_are text at a tokens has = has.placed ∙ ap (tokens_from 0) (values_are text at a tokens has) ∙ tokens_from-start a.front (atom_of a.octets ∷ a.rest)

text_is : (text : List ℕ) (at : ℕ) (a : HasAtom text at) → text ≡ octets_of a.front ++ (a.octets ++ octets_of a.rest)
text_is text at a = sym (octets_of-tokens Mime (a.front ++ atom_of a.octets ∷ a.rest) text a.has.are_tokens) ∙ octets_of-append a.front (atom_of a.octets ∷ a.rest)

-- ---- its place among the words

pub record IsThird (tokens : List Token) (at : ℕ) : Type 0 where
  pub first : Token
  pub second : Token
  pub third : Token
  pub more : List Token
  pub are : tokens ≡ first ∷ second ∷ third ∷ more
  pub at_is : third.span.at ≡ at

pub solid_append : (a b : List Token) → solid (a ++ b) ≡ solid a ++ solid b
solid_append a b = filter-append (λ (token : Token). not (is_blank token.kind)) a b

third_of : (xs ys : List Token) (t : Token) (at : ℕ) → length xs ≡ 2 → t.span.at ≡ at → IsThird (xs ++ t ∷ ys) at
third_of [] ys t at size place = absurd (omega (arith, size))
third_of (a ∷ []) ys t at size place = absurd (omega (arith, size))
third_of (a ∷ b ∷ []) ys t at size place = record { first = a; second = b; third = t; more = ys; are = refl; at_is = place }
third_of (a ∷ b ∷ c ∷ xs) ys t at size place = absurd (omega (arith, size))

pub subtype_third : (text : List ℕ) (at : ℕ) (tokens : List Token) → HasSubtype text at → HasTokens Mime text tokens → IsThird (solid tokens) at
subtype_third text at tokens s has =
    let a = atom_at text at s in
    let words : solid tokens ≡ solid (front_tokens text at a) ++ placed_atom text at a ∷ solid (rest_tokens text at a) =
    ap solid (tokens_are text at a tokens has) ∙ solid_append (front_tokens text at a) (placed_atom text at a ∷ rest_tokens text at a) in
    subst (λ r. IsThird r at) (sym words) (third_of (solid (front_tokens text at a)) (solid (rest_tokens text at a)) (placed_atom text at a) at (front_words text at a) (sym a.at_is))

pub third_once : (tokens : List Token) (at other : ℕ) → IsThird tokens at → IsThird tokens other → at ≡ other
third_once tokens at other p q =
    let same : p.first ∷ p.second ∷ p.third ∷ p.more ≡ q.first ∷ q.second ∷ q.third ∷ q.more = sym p.are ∙ q.are in
    let third : p.third ≡ q.third = cc same in
    sym p.at_is ∙ ap (λ (t : Token). t.span.at) third ∙ q.at_is

-- a text names message/global at one place
pub NamesGlobal-once : (text : List ℕ) (at other : ℕ) → NamesGlobal text at → NamesGlobal text other → at ≡ other
NamesGlobal-once text at other p q =
    let has = p.says.body.has_tokens in
    third_once (solid p.says.body.tokens) at other (subtype_third text at p.says.body.tokens p.subtype has) (subtype_third text other p.says.body.tokens q.subtype has)

-- what says one main part says no other
pub main_once : (kind : ParamKind) (text main other : List ℕ) (params others : List ParamValue) (comments more : List CommentValue) → SaysParams kind text main params comments
    → SaysParams kind text other others more → main ≡ other
main_once kind text main other params others comments more p q =
    let tokens = HasTokens-once Mime text p.body.tokens q.body.tokens p.body.has_tokens q.body.has_tokens in
    (IsBody-once kind text q.body.tokens main other p.body.pieces q.body.pieces (subst (λ r. IsBody kind text r main p.body.pieces) tokens p.body.is_body) q.body.is_body).0

-- ---- whatever says message/global names it

more_words : (text main : List ℕ) (params : List ParamValue) (body : HasSaidBody Content text main params) → 2 < length (words_of body.has_tokens.values)
more_words text main params body =
    let three = main_size text (solid body.is_body.first) body.is_body.is_main_part in
    let following = first_part (λ token. Unit {0}) (is_mark_at text 59) body.tokens body.is_body.first body.is_body.others body.is_body.sections in
    let size : length (solid body.tokens) ≡ length (solid body.is_body.first) + length (solid following.tail) =
    ap (λ r. length (solid r)) following.whole ∙ ap length (solid_append body.is_body.first following.tail) ∙ length-append (solid body.is_body.first) (solid following.tail) in
    let words : length (solid body.tokens) ≡ length (words_of body.has_tokens.values) = ap (λ r. length (solid r)) body.has_tokens.placed ∙ solid-words 0 body.has_tokens.values in
    omega (arith, three, size, words)

two_values : (xs : List TokenValue) → length xs ≡ 2 → (a : TokenValue) × (b : TokenValue) × (xs ≡ a ∷ b ∷ [])
two_values [] e = absurd (omega (arith, e))
two_values (a ∷ []) e = absurd (omega (arith, e))
two_values (a ∷ b ∷ []) e = (a, b, refl)
two_values (a ∷ b ∷ c ∷ xs) e = absurd (omega (arith, e))

subtype_there : (text main : List ℕ) (params : List ParamValue) → HasSaidBody Content text main params → (at : ℕ) × HasSubtype text at
subtype_there text main params body =
    let values = body.has_tokens.values in
    let w = find_word 2 values (more_words text main params body) in
    let two = two_values (words_of w.front) w.before in
    let place = length (octets_of w.front) in
    let are : body.tokens ≡ tokens_from 0 w.front ++ token_at place w.word ∷ tokens_from (place + length w.word.octets) w.rest
    = body.has_tokens.placed ∙ ap (tokens_from 0) w.whole ∙ tokens_from-start w.front (w.word ∷ w.rest) in
    let found = body_subtype (λ token. Unit {0}) text body.tokens (tokens_from 0 w.front) (tokens_from (place + length w.word.octets) w.rest) (token_at place w.word) main body.pieces are
    (solid-words 0 w.front ∙ w.before) w.kept body.is_body in (
      place,
      record {
        front = w.front;
        rest = w.rest;
        subtype = w.word;
        type = two.0;
        slash = two.1;
        has = record { is_line = body.has_tokens.is_line; are_tokens = subst (λ ts. AreTokens Mime ts text) w.whole body.has_tokens.are_tokens };
        words = two.2;
        is_word = (and_parts (is_atom_kind w.word.kind) (list_all is_ascii (octets_at text (token_at place w.word).span)) found.subtype.second_word).0;
        at_is = refl;
      },
    )

pub names_global_says : (text : List ℕ) (params : List ParamValue) (comments : List CommentValue) → SaysParams Content text (codes "message/global") params comments → (at : ℕ) × NamesGlobal text at
names_global_says text params comments says =
    let s = subtype_there text (codes "message/global") params says.body in
    (s.0, record { params = params; comments = comments; says = says; subtype = s.1 })

-- the text says something, or nothing
abbrev pub DecidesParams : ParamKind → List ℕ → Type 0
DecidesParams kind text = ((main : List ℕ) × (params : List ParamValue) × (comments : List CommentValue) × SaysParams kind text main params comments)
    ⊎ ((main : List ℕ) (params : List ParamValue) (comments : List CommentValue) → ¬ SaysParams kind text main params comments)

pub not-NamesGlobal-main : (text main : List ℕ) (params : List ParamValue) (comments : List CommentValue) → SaysParams Content text main params comments
    → bytes_eq main (codes "message/global") ≡ false → (at : ℕ) → ¬ NamesGlobal text at
not-NamesGlobal-main text main params comments says other at names =
    let same = main_once Content text main (codes "message/global") params names.params comments names.comments says names.says in
    true≢false (sym ((bytes_eq-Decides main (codes "message/global")).1 same) ∙ other)

-- a text names message/global, or doesn't, where it says something or nothing
pub decide_global : (text : List ℕ) → DecidesParams Content text → ((at : ℕ) × NamesGlobal text at) ⊎ ((at : ℕ) → ¬ NamesGlobal text at)
decide_global text (inr nothing) = inr (λ at names. nothing (codes "message/global") names.params names.comments names.says)
decide_global text (inl said) = elim (cases_Bool (bytes_eq said.0 (codes "message/global"))) [
  | inl is ↦ inl (names_global_says text said.1 said.2 (subst (λ main. SaysParams Content text main said.1 said.2) ((bytes_eq-Decides said.0 (codes "message/global")).0 is) said.3))
  | inr other ↦ inr (not-NamesGlobal-main text said.0 said.1 said.2 said.3 other)
]

-- ---- the changed text

-- six octets of an atom stand at this place
pub record IsGlobalAt (text : List ℕ) (at : ℕ) : Type 0 where
  pub front : List ℕ
  pub word : List ℕ
  pub rest : List ℕ
  pub whole : text ≡ front ++ (word ++ rest)
  pub changed : with_rfc822 text at ≡ front ++ (codes "rfc822" ++ rest)
  pub at_is : at ≡ length front
  pub size : length word ≡ 6
  pub atom : list_all (is_atom_octet Mime) word ≡ true
  pub ascii : list_all is_ascii word ≡ true
  pub alike : Stops is_white text → Stops is_white (with_rfc822 text at)

with_is : (text front word rest : List ℕ) (at : ℕ) → text ≡ front ++ (word ++ rest) → length word ≡ 6 → at ≡ length front → with_rfc822 text at ≡ front ++ (codes "rfc822" ++ rest)
with_is text front word rest at e size place =
    let first : take at text ≡ front = ap (take at) e ∙ take_at front (word ++ rest) at (sym place) in
    let whole : text ≡ (front ++ word) ++ rest = e ∙ sym (append_assoc front word rest) in
    let last : drop (at + 6) text ≡ rest = ap (drop (at + 6)) whole ∙ drop_at (front ++ word) rest (at + 6) (omega (arith, size, place, length-append front word)) in
    ap (λ r. (r ++ codes "rfc822") ++ drop (at + 6) text) first ∙ ap (λ r. (front ++ codes "rfc822") ++ r) last ∙ append_assoc front (codes "rfc822") rest

atom_octets : (front rest : List TokenValue) (octets text : List ℕ) → AreTokens Mime (front ++ atom_of octets ∷ rest) text → list_all (is_atom_octet Mime) octets ≡ true
atom_octets [] rest octets text are = are.2.1.passes
atom_octets (t ∷ front) rest octets text are = atom_octets front rest octets are.0 are.3

-- the atom is six octets of ASCII
record IsWord (octets : List ℕ) : Type 0 where
  size : length octets ≡ 6
  ascii : list_all is_ascii octets ≡ true

atom_word : (text : List ℕ) (at : ℕ) (a : HasAtom text at) (params : List ParamValue) → HasSaidBody Content text (codes "message/global") params → IsWord a.octets
atom_word text at a params body =
    let g = global_body text body.tokens (front_tokens text at a) (rest_tokens text at a) (placed_atom text at a) body.pieces (tokens_are text at a body.tokens body.has_tokens)
    (front_words text at a) refl body.is_body in
    let here = octets_between (octets_of a.front) a.octets (octets_of a.rest) text (length (octets_of a.front)) (text_is text at a) refl in
    let ascii = (and_parts (is_atom_kind Atom) (list_all is_ascii (octets_at text (placed_atom text at a).span)) g.is_ascii).1 in
    record { size = ap length (sym here) ∙ g.size; ascii = ap (list_all is_ascii) (sym here) ∙ ascii }

atom_size : (text : List ℕ) (at : ℕ) (a : HasAtom text at) (params : List ParamValue) → HasSaidBody Content text (codes "message/global") params → length a.octets ≡ 6
atom_size text at a params body = (atom_word text at a params body).size

abbrev new_values : (text : List ℕ) (at : ℕ) → HasAtom text at → List TokenValue
new_values text at a = a.front ++ atom_of (codes "rfc822") ∷ a.rest

atom_new : (text : List ℕ) (at : ℕ) (a : HasAtom text at) → Changed Mime text (new_values text at a)
atom_new text at a = atom_changed Mime a.front a.rest a.octets (codes "rfc822") text (114, codes "fc822", refl, refl, refl) a.has.are_tokens

new_text : (text : List ℕ) (at : ℕ) (a : HasAtom text at) → (atom_new text at a).changed ≡ octets_of a.front ++ (codes "rfc822" ++ octets_of a.rest)
new_text text at a =
    let new = atom_new text at a in
    sym (octets_of-tokens Mime (new_values text at a) new.changed new.are_tokens) ∙ octets_of-append a.front (atom_of (codes "rfc822") ∷ a.rest)

pub global_at : (text : List ℕ) (at : ℕ) → NamesGlobal text at → IsGlobalAt text at
global_at text at names =
    let a = atom_at text at names.subtype in
    let word = atom_word text at a names.params names.says.body in
    let is = with_is text (octets_of a.front) a.octets (octets_of a.rest) at (text_is text at a) word.size a.at_is in
    record {
      front = octets_of a.front;
      word = a.octets;
      rest = octets_of a.rest;
      whole = text_is text at a;
      changed = is;
      at_is = a.at_is;
      size = word.size;
      ascii = word.ascii;
      atom = atom_octets a.front a.rest a.octets text a.has.are_tokens;
      alike = λ stops. subst (Stops is_white) (new_text text at a ∙ sym is) ((atom_new text at a).alike.gap stops);
    }

-- the changed text is as long as the text
pub with_rfc822-length : (text : List ℕ) (at : ℕ) → NamesGlobal text at → length (with_rfc822 text at) ≡ length text
with_rfc822-length text at names =
    let g = global_at text at names in
    let old : length text ≡ length g.front + (length g.word + length g.rest) = ap length g.whole ∙ length-append g.front (g.word ++ g.rest) ∙ ap (λ n. length g.front + n) (length-append g.word g.rest) in
    let new : length (with_rfc822 text at) ≡ length g.front + (length (codes "rfc822") + length g.rest) =
    ap length g.changed ∙ length-append g.front (codes "rfc822" ++ g.rest) ∙ ap (λ n. length g.front + n) (length-append (codes "rfc822") g.rest) in
    omega (arith, old, new, g.size)

-- it is ASCII where the text is
pub with_rfc822-ascii : (text : List ℕ) (at : ℕ) → NamesGlobal text at → list_all is_ascii text ≡ true → list_all is_ascii (with_rfc822 text at) ≡ true
with_rfc822-ascii text at names ascii =
    let g = global_at text at names in
    let front = and_parts (list_all is_ascii g.front) (list_all is_ascii (g.word ++ g.rest)) (sym (list_all-append is_ascii g.front (g.word ++ g.rest)) ∙ subst (λ t. list_all is_ascii t ≡ true) g.whole ascii) in
    let rest = and_parts (list_all is_ascii g.word) (list_all is_ascii g.rest) (sym (list_all-append is_ascii g.word g.rest) ∙ front.1) in
    ap (list_all is_ascii) g.changed ∙ list_all-append is_ascii g.front (codes "rfc822" ++ g.rest) ∙ and_from (list_all is_ascii g.front) (list_all is_ascii (codes "rfc822" ++ g.rest)) front.0 rest.1

-- it begins and ends with white where the text does
pub with_rfc822-stops : (text : List ℕ) (at : ℕ) → NamesGlobal text at → Stops is_white text → Stops is_white (with_rfc822 text at)
with_rfc822-stops text at names stops = (global_at text at names).alike stops

last_stops : (p : ℕ → Bool) (xs ys : List ℕ) → 0 < length ys → StopsAfter p (xs ++ ys) → StopsAfter p ys
last_stops p [] ys some stops = stops
last_stops p (x ∷ []) [] some stops = absurd (omega (arith, some))
last_stops p (x ∷ []) (y ∷ ys) some stops = stops
last_stops p (x ∷ z ∷ xs) ys some stops = last_stops p (z ∷ xs) ys some stops

stops_changed : (front word rest : List ℕ) → StopsAfter is_white (front ++ (word ++ rest)) → StopsAfter is_white (front ++ (codes "rfc822" ++ rest))
stops_changed front word [] stops = StopsAfter-append is_white front (codes "rfc822" ++ []) (omega arith) refl
stops_changed front word (x ∷ rest) stops =
    let last : StopsAfter is_white (x ∷ rest) = last_stops is_white (front ++ word) (x ∷ rest) (omega arith) (subst (StopsAfter is_white) (sym (append_assoc front word (x ∷ rest))) stops) in
    StopsAfter-append is_white front (codes "rfc822" ++ (x ∷ rest)) (omega arith) (StopsAfter-append is_white (codes "rfc822") (x ∷ rest) (omega arith) last)

pub with_rfc822-stops_after : (text : List ℕ) (at : ℕ) → NamesGlobal text at → StopsAfter is_white text → StopsAfter is_white (with_rfc822 text at)
with_rfc822-stops_after text at names stops =
    let g = global_at text at names in
    subst (StopsAfter is_white) (sym g.changed) (stops_changed g.front g.word g.rest (subst (StopsAfter is_white) g.whole stops))

-- ---- it says the same of message/rfc822

line_of : (front rest : List TokenValue) (old new : List ℕ) → AreLineTokens (front ++ atom_of old ∷ rest) → IsLine new → IsLine (octets_of (front ++ atom_of new ∷ rest))
line_of [] rest old new lines line = line_append new (octets_of rest) line (lines_join rest lines.1)
  where
    lines_join : (ts : List TokenValue) → AreLineTokens ts → IsLine (octets_of ts)
    lines_join [] all = line_none
    lines_join (t ∷ ts) all = line_append t.octets (octets_of ts) all.0 (lines_join ts all.1)
line_of (t ∷ front) rest old new lines line = line_append t.octets (octets_of (front ++ atom_of new ∷ rest)) lines.0 (line_of front rest old new lines.1 line)

new_line : (text : List ℕ) (at : ℕ) (a : HasAtom text at) → IsLine (octets_of (new_values text at a))
new_line text at a =
    line_of a.front a.rest a.octets (codes "rfc822") (tokens_lines Mime (a.front ++ atom_of a.octets ∷ a.rest) text a.has.are_tokens a.has.is_line) (ascii_line (codes "rfc822") refl refl)

same_front : (text : List ℕ) (at : ℕ) (a : HasAtom text at) (changed : List ℕ) → changed ≡ octets_of a.front ++ (codes "rfc822" ++ octets_of a.rest) → AreSameAt text changed (front_tokens text at a)
same_front text at a changed is = same_places [] [] (a.octets ++ octets_of a.rest) (codes "rfc822" ++ octets_of a.rest) text changed a.front 0 (text_is text at a) is refl refl

same_rest : (text : List ℕ) (at : ℕ) (a : HasAtom text at) (changed : List ℕ) → changed ≡ octets_of a.front ++ (codes "rfc822" ++ octets_of a.rest) → length a.octets ≡ 6
    → AreSameAt text changed (rest_tokens text at a)
same_rest text at a changed is size =
    let front : List ℕ = octets_of a.front in
    let rest : List ℕ = octets_of a.rest in
    same_places (front ++ a.octets) (front ++ codes "rfc822") [] [] text changed a.rest (length front + length a.octets)
    (text_is text at a ∙ sym (append_assoc front a.octets rest) ∙ ap (λ r. (front ++ a.octets) ++ r) (sym (append-nil rest)))
    (is ∙ sym (append_assoc front (codes "rfc822") rest) ∙ ap (λ r. (front ++ codes "rfc822") ++ r) (sym (append-nil rest)))
    (sym (length-append front a.octets)) (omega (arith, size, length-append front (codes "rfc822")))

-- the body of the changed text
read_body : (text changed : List ℕ) (at : ℕ) (a : HasAtom text at) (params : List ParamValue) → changed ≡ octets_of a.front ++ (codes "rfc822" ++ octets_of a.rest)
    → HasSaidBody Content text (codes "message/global") params → HasTokenValues Mime changed (new_values text at a) → HasSaidBody Content changed (codes "message/rfc822") params
read_body text changed at a params is body has =
    let size = atom_size text at a params body in
    let here : octets_at changed (placed_atom text at a).span ≡ codes "rfc822" =
    ap (λ n. take n (drop (length (octets_of a.front)) changed)) size ∙ octets_between (octets_of a.front) (codes "rfc822") (octets_of a.rest) changed (length (octets_of a.front)) is refl in
    record {
      tokens = body.tokens;
      has_tokens = record {
        is_line = has.is_line;
        values = new_values text at a;
        are_tokens = has.are_tokens;
        placed = body.has_tokens.placed ∙ ap (tokens_from 0) (values_are text at a body.tokens body.has_tokens) ∙ same_tokens 0 a.front a.rest a.octets (codes "rfc822") size;
      };
      pieces = body.pieces;
      is_body = body_changed text changed body.tokens (front_tokens text at a) (rest_tokens text at a) (placed_atom text at a) body.pieces (tokens_are text at a body.tokens body.has_tokens)
          (same_front text at a changed is) (same_rest text at a changed is size) (front_words text at a) refl here body.is_body;
      are_params = body.are_params;
    }

same_comments : (text : List ℕ) (at : ℕ) (a : HasAtom text at) (tokens : List Token) (has : HasTokens Mime text tokens) → comments_of has.values ≡ comments_of (new_values text at a)
same_comments text at a tokens has =
    ap comments_of (values_are text at a tokens has) ∙ comments_of-append a.front (atom_of a.octets ∷ a.rest) ∙ sym (comments_of-append a.front (atom_of (codes "rfc822") ∷ a.rest))

says_rfc822 : (text : List ℕ) (at : ℕ) → NamesGlobal text at → (params : List ParamValue) (comments : List CommentValue) → SaysParams Content text (codes "message/global") params comments
    → SaysParams Content (with_rfc822 text at) (codes "message/rfc822") params comments
unfolding read_body atom_at
says_rfc822 text at names params comments says =
    let a = atom_at text at names.subtype in
    let new = atom_new text at a in
    let size = atom_size text at a names.params names.says.body in
    let is = with_is text (octets_of a.front) a.octets (octets_of a.rest) at (text_is text at a) size a.at_is in
    let octets : octets_of (new_values text at a) ≡ with_rfc822 text at = octets_of-append a.front (atom_of (codes "rfc822") ∷ a.rest) ∙ sym is in
    let changed : new.changed ≡ with_rfc822 text at = new_text text at a ∙ sym is in
    let has : HasTokenValues Mime (with_rfc822 text at) (new_values text at a) =
    record { is_line = subst IsLine octets (new_line text at a); are_tokens = subst (AreTokens Mime (new_values text at a)) changed new.are_tokens } in
    record {
      body = read_body text (with_rfc822 text at) at a params is says.body has;
      comments_say = subst (λ c. CommentsSay c comments) (same_comments text at a says.body.tokens says.body.has_tokens) says.comments_say;
    }

-- the changed text is a Content-Type of message/rfc822 with the same parameters and comments
pub global_read : (text : List ℕ) (at : ℕ) (main : List ℕ) (params : List ParamValue) (comments : List CommentValue) → NamesGlobal text at → SaysParams Content text main params comments
    → SaysParams Content (with_rfc822 text at) (codes "message/rfc822") params comments
global_read text at main params comments names says =
    let same = main_once Content text main (codes "message/global") params names.params comments names.comments says names.says in
    says_rfc822 text at names params comments (subst (λ m. SaysParams Content text m params comments) same says)

-- ---- where it is found

pub not-NamesGlobal-says : (text : List ℕ) → ((main : List ℕ) (params : List ParamValue) (comments : List CommentValue) → SaysParams Content text main params comments → ⊥) → (at : ℕ) → ¬ NamesGlobal text at
not-NamesGlobal-says text nothing at names = nothing (codes "message/global") names.params names.comments names.says

-- the third word's place, where there is one
abbrev pub IsThirdPlace : List Token → ℕ → Type 0
IsThirdPlace words at = (first : Token) × (second : Token) × (third : Token) × (more : List Token) × (words ≡ first ∷ second ∷ third ∷ more) × (third.span.at ≡ at)

-- there are fewer words than three
abbrev pub HasNoThird : List Token → Type 0
HasNoThird words = (first second third : Token) (more : List Token) → words ≢ first ∷ second ∷ third ∷ more

pub global_found : (text main : List ℕ) (params : List ParamValue) (comments : List CommentValue) (tokens : List Token) (place : Option ℕ) → SaysParams Content text main params comments
    → bytes_eq main (codes "message/global") ≡ true → HasTokens Mime text tokens → IfSome place (IsThirdPlace (solid tokens)) → IfSome place (NamesGlobal text)
global_found text main params comments tokens None says is has found = tt
global_found text main params comments tokens (Some at) says is has found =
    let names = names_global_says text params comments (subst (λ m. SaysParams Content text m params comments) ((bytes_eq-Decides main (codes "message/global")).0 is) says) in
    let third : IsThird (solid tokens) at = record { first = found.0; second = found.1; third = found.2; more = found.3; are = found.4; at_is = found.5 } in
    subst (NamesGlobal text) (third_once (solid tokens) names.0 at (subtype_third text names.0 tokens names.1.subtype has) third) names.1

pub global_not_found : (text : List ℕ) (tokens : List Token) (place : Option ℕ) → HasTokens Mime text tokens → IfNone place (HasNoThird (solid tokens)) → IfNone place ((at : ℕ) → ¬ NamesGlobal text at)
global_not_found text tokens (Some at) has none = tt
global_not_found text tokens None has none = λ at names. let third = subtype_third text at tokens names.subtype has in none third.first third.second third.third third.more third.are
