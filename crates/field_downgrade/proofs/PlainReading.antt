-- What the reader of plain texts finds.
use Rattle.std.proofs.Common.{◌≡◌, ◌↔◌, IsTrue, ℕ, Bool, true, false, inl, inr, List, [], ◌∷◌, ◌++◌, refl, sym, ap, ◌∙◌, subst}
use Rattle.std.proofs.lemmas.Bool.{and_parts, and_from, cases_Bool, true≢false}
use Rattle.std.specs.List.{list_all}
use Rattle.mail_wire.specs.Octets.{is_ascii}
use Rattle.encoded_words.specs.Folding.{lines_of, AddsLines}
use Rattle.encoded_words.proofs.LineLemmas.{adds_these, adds_both}
use Rattle.field_tokens.specs.declared.TokenKind.{TokenKind}
use Rattle.field_tokens.specs.declared.TokenKind.TheVariants.{Atom, Quoted, Literal, Special, Gap, Comment}
use Rattle.field_tokens.specs.Tokens.{TokenValue, HasTokenValues}
use Rattle.field_tokens.specs.Squeezed.{is_blank, squeezed_values, comments_of, words_of, is_atom_kind}
use Rattle.field_tokens.specs.Comments.{CommentsPieces}
use Rattle.field_tokens.proofs.TokenLists.{AreTokens-once}
use Rattle.field_downgrade.specs.PlainTexts.{style_where, IsAtomWhere, text_piece, PlainPieces}
use Rattle.field_downgrade.specs.private.PlainSteps.{IsOneAtom}

-- One atom with gaps and comments around it.

pub atom_kind : (kind : TokenKind) → is_atom_kind kind ≡ true → kind ≡ Atom
atom_kind Atom e = refl
atom_kind Quoted e = cc e
atom_kind Literal e = cc e
atom_kind Special e = cc e
atom_kind Gap e = cc e
atom_kind Comment e = cc e

abbrev pub are_blank : List TokenValue → Bool
are_blank tokens = list_all (λ (t : TokenValue). is_blank t.kind) tokens

blank_words : (ts : List TokenValue) → are_blank ts ≡ true → words_of ts ≡ []
blank_words [] all = refl
blank_words (t ∷ ts) all = let parts = and_parts (is_blank t.kind) (are_blank ts) all in rw (parts.0) (blank_words ts parts.1)

words_blank : (ts : List TokenValue) → words_of ts ≡ [] → are_blank ts ≡ true
words_blank [] none = refl
words_blank (t ∷ ts) none = elim (cases_Bool (is_blank t.kind)) [
  | inl blank ↦ and_from (is_blank t.kind) (are_blank ts) blank (words_blank ts (rw (blank) at none))
  | inr word ↦ let some : t ∷ words_of ts ≡ [] = rw (word) at none in cc some
]

-- the words of tokens are those of what is left
pub words_passed : (tokens : List TokenValue) (t : TokenValue) (rest : List TokenValue) → words_of tokens ≡ words_of (t ∷ rest) → is_blank t.kind ≡ true → words_of tokens ≡ words_of rest
words_passed tokens t rest same blank = rw (blank) at same

first_word : (tokens : List TokenValue) (t : TokenValue) (rest : List TokenValue) → words_of tokens ≡ words_of (t ∷ rest) → is_blank t.kind ≡ false → words_of tokens ≡ t ∷ words_of rest
first_word tokens t rest same word = rw (word) at same

pub one_atom : (tokens : List TokenValue) (t : TokenValue) (rest : List TokenValue) → words_of tokens ≡ words_of (t ∷ rest) → is_blank t.kind ≡ false → t.kind ≡ Atom → are_blank rest ≡ true → IsOneAtom tokens
one_atom tokens t rest same word atom blank = (t, first_word tokens t rest same word ∙ ap (λ r. t ∷ r) (blank_words rest blank), atom)

pub one_atom-parts : (tokens : List TokenValue) (t : TokenValue) (rest : List TokenValue) → words_of tokens ≡ words_of (t ∷ rest) → is_blank t.kind ≡ false → IsOneAtom tokens
    → (t.kind ≡ Atom) × (are_blank rest ≡ true)
one_atom-parts tokens t rest same word one =
    let whole : t ∷ words_of rest ≡ one.0 ∷ [] = sym (first_word tokens t rest same word) ∙ one.1 in
    let first : t ≡ one.0 = cc whole in
    let none : words_of rest ≡ [] = cc whole in
    (ap (λ (v : TokenValue). v.kind) first ∙ one.2, words_blank rest none)

-- a word that is no atom
pub no_one_atom : (tokens : List TokenValue) (t : TokenValue) (rest : List TokenValue) → words_of tokens ≡ words_of (t ∷ rest) → is_blank t.kind ≡ false → is_atom_kind t.kind ≡ false → IsTrue false ↔ IsOneAtom tokens
no_one_atom tokens t rest same word other =
    (λ is. absurd (true≢false (sym is)), λ one. absurd (true≢false (sym (ap is_atom_kind (one_atom-parts tokens t rest same word one).0) ∙ other)))

pub no_atom : (tokens : List TokenValue) → words_of tokens ≡ [] → ¬ IsOneAtom tokens
no_atom tokens none one = let some : [] ≡ one.0 ∷ [] = sym none ∙ one.1 in cc some

-- What the tests tell.

atom_where : (is_encoding : Bool) (tokens : List TokenValue) → (is_encoding ≡ true → IsOneAtom tokens) → IsAtomWhere is_encoding tokens
atom_where true tokens one = one refl
atom_where false tokens one = tt

pub plain_written : (is_encoding : Bool) (text said : List ℕ) (tokens : List TokenValue) (old mid new : List ℕ) → HasTokenValues (style_where is_encoding) text tokens → said ≡ squeezed_values tokens
    → list_all is_ascii said ≡ true → (is_encoding ≡ true → IsOneAtom tokens) → mid ≡ old ++ lines_of (text_piece said) → AddsLines (CommentsPieces (comments_of tokens)) mid new
    → AddsLines (PlainPieces is_encoding text) old new
plain_written is_encoding text said tokens old mid new has said_is ascii one mid_is adds =
    let first : AddsLines (λ pieces. pieces ≡ text_piece said) old mid = adds_these (text_piece said) refl mid_is in
    adds_both (λ xs ys p q. record {
      tokens = tokens;
      is_plain = record { has = has; ascii = ap (list_all is_ascii) (sym said_is) ∙ ascii; atom = atom_where is_encoding tokens one };
      comments = ys;
      comments_are = q;
      pieces_are = ap (λ r. r ++ ys) (p ∙ ap text_piece said_is);
    }) first adds

-- a text that has pieces has tokens
pub no_tokens : (is_encoding : Bool) (text : List ℕ) → ((tokens : List TokenValue) → ¬ HasTokenValues (style_where is_encoding) text tokens) → (pieces : List (List ℕ)) → ¬ PlainPieces is_encoding text pieces
no_tokens is_encoding text none pieces p = none p.tokens p.is_plain.has

same_tokens : (is_encoding : Bool) (text : List ℕ) (tokens : List TokenValue) (pieces : List (List ℕ)) → HasTokenValues (style_where is_encoding) text tokens → (p : PlainPieces is_encoding text pieces) → p.tokens ≡ tokens
same_tokens is_encoding text tokens pieces has p = AreTokens-once (style_where is_encoding) text p.tokens tokens p.is_plain.has.are_tokens has.are_tokens

pub not_ascii : (is_encoding : Bool) (text said : List ℕ) (tokens : List TokenValue) → HasTokenValues (style_where is_encoding) text tokens → said ≡ squeezed_values tokens → list_all is_ascii said ≡ false
    → (pieces : List (List ℕ)) → ¬ PlainPieces is_encoding text pieces
not_ascii is_encoding text said tokens has said_is high pieces p =
    let same : squeezed_values p.tokens ≡ said = ap squeezed_values (same_tokens is_encoding text tokens pieces has p) ∙ sym said_is in
    true≢false (sym p.is_plain.ascii ∙ ap (list_all is_ascii) same ∙ high)

pub not_atom : (is_encoding : Bool) (text : List ℕ) (tokens : List TokenValue) → HasTokenValues (style_where is_encoding) text tokens → is_encoding ≡ true → ¬ IsOneAtom tokens
    → (pieces : List (List ℕ)) → ¬ PlainPieces is_encoding text pieces
not_atom true text tokens has e other pieces p = other (subst IsOneAtom (same_tokens true text tokens pieces has p) p.is_plain.atom)
not_atom false text tokens has e other pieces p = cc e
