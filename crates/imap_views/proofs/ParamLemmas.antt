-- Fields with parameters, and the one atom of a text.
use Rattle.std.proofs.Common.{◌≡◌, ◌≢◌, ℕ, inl, inr, List, [], ◌∷◌, length, map, filter, refl, sym, ap, ◌∙◌, subst, arith}
use Rattle.std.proofs.lemmas.Bool.{cases_Bool}
use Rattle.field_tokens.specs.declared.Style.TheVariants.{Mime}
use Rattle.field_tokens.specs.declared.Token.{Token}
use Rattle.field_tokens.specs.declared.TokenKind.TheVariants.{Atom}
use Rattle.field_tokens.specs.Tokens.{TokenValue, tokens_from, HasTokens, octets_at}
use Rattle.field_tokens.specs.Squeezed.{is_blank, words_of}
use Rattle.field_tokens.proofs.TokenLists.{AreTokens-once, HasTokens-once}
use Rattle.field_tokens.proofs.SqueezedValues.{value_at, values_at}
use Rattle.param_grammar.specs.declared.Body.{Body}
use Rattle.param_grammar.specs.declared.ParamKind.{ParamKind}
use Rattle.param_grammar.specs.Bodies.{HasBody, IsBody}
use Rattle.param_grammar.specs.Joining.{ParamValue, HasSaidBody, params_of}
use Rattle.param_grammar.specs.Placed.{HasBodyAt}
use Rattle.param_grammar.proofs.BodyLemmas.{IsBody-once}
use Rattle.param_grammar.proofs.SaidTrees.{HasBodyAt-says, SaysParams-trees}
use Rattle.mime_tree.proofs.WordLemmas.{is_word, one_word}
use Rattle.imap_views.specs.Parts.{HasPieces, IsNoField, IsSoleAtom}

-- ---- pieces

-- a text without a body that says parameters has no pieces
pub IsNoField-read : (kind : ParamKind) (text : List ℕ) → ((main : List ℕ) (params : List ParamValue) → HasSaidBody kind text main params → ⊥) → IsNoField kind text
IsNoField-read kind text none main pieces has =
    let body = has.has_body in
    none main has.params (record { tokens = body.tokens; has_tokens = body.has_tokens; pieces = pieces; is_body = body.is_body; are_params = has.are_params })

pub HasPieces-read : (kind : ParamKind) (text : List ℕ) (body : Body) → (has : HasBodyAt kind text body) → HasPieces kind text body.main has.pieces
HasPieces-read kind text body has =
    let said = HasBodyAt-says kind text body has in
    let trees = SaysParams-trees kind text body.main (params_of has.pieces) said.0 said.1 in
    let seen = trees.1 in
    let moved = subst (λ ts. IsBody kind text ts body.main seen.pieces) (HasTokens-once Mime text seen.body.tokens has.tokens seen.body.has_tokens has.has_tokens) seen.body.is_body in
    let same : seen.pieces ≡ has.pieces = (IsBody-once kind text has.tokens body.main body.main seen.pieces has.pieces moved has.is_body).1 in
    record {
      comments = trees.0;
      has_body = subst (λ ps. HasBody kind text body.main ps trees.0) same seen.body;
      params = params_of has.pieces;
      are_params = record { are_numbered = has.has_placed.are_numbered; params_are = refl };
    }

-- ---- one atom

words_placed : (text : List ℕ) (tokens : List Token) (has : HasTokens Mime text tokens) → words_of has.values ≡ map (value_at text) (filter is_word tokens)
words_placed text tokens has = ap words_of (sym (values_at Mime text has.values has.are_tokens)) ∙ ap (λ ts. words_of (map (value_at text) ts)) (sym has.placed) ∙ kept tokens
  where
    kept : (ts : List Token) → words_of (map (value_at text) ts) ≡ map (value_at text) (filter is_word ts)
    kept [] = refl
    kept (t ∷ ts) = elim (cases_Bool (is_blank t.kind)) [
      | inl blank ↦ rw (blank) (kept ts)
      | inr word ↦ rw (word) (ap (λ r. value_at text t ∷ r) (kept ts))
    ]

-- the words of an atom are those of the tokens that were read
atom_words : (text octets : List ℕ) (tokens : List Token) → HasTokens Mime text tokens → (is : IsSoleAtom text octets) → map (value_at text) (filter is_word tokens) ≡ is.atom ∷ []
atom_words text octets tokens has is =
    sym (words_placed text tokens has) ∙ ap words_of (AreTokens-once Mime text has.values is.tokens has.are_tokens is.has.are_tokens) ∙ is.words

one_of : (text : List ℕ) (tokens : List Token) (v : TokenValue) → map (value_at text) tokens ≡ v ∷ [] → (token : Token) × (tokens ≡ token ∷ [])
one_of text [] v e = cc e
one_of text (t ∷ []) v e = (t, refl)
one_of text (t ∷ u ∷ ts) v e = absurd (omega (arith, ap length e))

same_one : (v w : TokenValue) → v ∷ [] ≡ w ∷ [] → v ≡ w
same_one v w e = cc e

pub one_atom_found : (text octets : List ℕ) (tokens : List Token) (word : Token) → HasTokens Mime text tokens → filter is_word tokens ≡ word ∷ [] → word.kind ≡ Atom → octets ≡ octets_at text word.span
    → IsSoleAtom text octets
one_atom_found text octets tokens word has one kind e = record {
  tokens = has.values;
  has = record { is_line = has.is_line; are_tokens = has.are_tokens };
  atom = value_at text word;
  words = (one_word text tokens word has one).words;
  kind = kind;
  octets_are = sym e;
}

pub not_one_atom : (text : List ℕ) (tokens : List Token) (word : Token) → HasTokens Mime text tokens → filter is_word tokens ≡ word ∷ [] → word.kind ≢ Atom → (octets : List ℕ) → IsSoleAtom text octets → ⊥
not_one_atom text tokens word has one other octets is =
    let same : value_at text word ≡ is.atom = same_one (value_at text word) is.atom (ap (map (value_at text)) (sym one) ∙ atom_words text octets tokens has is) in
    other (ap (λ (v : TokenValue). v.kind) same ∙ is.kind)

pub no_word_atom : (text : List ℕ) (tokens : List Token) → HasTokens Mime text tokens → ((token : Token) → filter is_word tokens ≢ token ∷ []) → (octets : List ℕ) → IsSoleAtom text octets → ⊥
no_word_atom text tokens has none octets is = let one = one_of text (filter is_word tokens) is.atom (atom_words text octets tokens has is) in none one.0 one.1

pub no_tokens_atom : (text : List ℕ) → ((tokens : List Token) → HasTokens Mime text tokens → ⊥) → (octets : List ℕ) → IsSoleAtom text octets → ⊥
no_tokens_atom text none octets is =
    none (tokens_from 0 is.tokens) (record { is_line = is.has.is_line; values = is.tokens; are_tokens = is.has.are_tokens; placed = refl })
