-- What tokens say is put together token by token.
use Rattle.std.proofs.Common.{◌≡◌, ℕ, ◌+◌, ◌<◌, Bool, true, List, [], ◌∷◌, ◌++◌, length, get_or, drop, refl, sym, ap, ◌∙◌}
use Rattle.std.proofs.lemmas.Bool.{and_parts}
use Rattle.std.specs.List.{list_all}
use Rattle.std.proofs.lemmas.List.{drop_more, append_assoc, append-nil}
use Rattle.field_tokens.specs.declared.Style.TheVariants.{Mail}
use Rattle.field_tokens.specs.declared.Token.{Token}
use Rattle.field_tokens.specs.declared.TokenKind.{TokenKind}
use Rattle.field_tokens.specs.declared.TokenKind.TheVariants.{Atom, Quoted, Literal, Special, Gap, Comment}
use Rattle.field_tokens.specs.Squeezed.{octets_of}
use Rattle.field_tokens.specs.Tokens.{TokenValue, tokens_from, HasTokens}
use Rattle.address_grammar.specs.private.Lexemes.{HasMailTokens, says_itself_kind, says_itself, unquoted, said_content, content, contents}

pub unquoted_at : (b : Bool) (octets : List ℕ) (i : ℕ) → i < length octets → unquoted b (drop i octets) ≡ unquoted b (get_or octets i 0 ∷ drop (i + 1) octets)
unquoted_at b octets i h = ap (unquoted b) (drop_more octets i 0 h)

plain_content : (kind : TokenKind) (octets : List ℕ) → says_itself_kind kind ≡ true → octets ≡ said_content kind octets
plain_content Atom octets is = refl
plain_content Literal octets is = refl
plain_content Special octets is = refl
plain_content Quoted octets is = cc is
plain_content Gap octets is = cc is
plain_content Comment octets is = cc is

pub plain_contents : (tokens : List TokenValue) → list_all says_itself tokens ≡ true → octets_of tokens ≡ contents tokens
plain_contents [] are = refl
plain_contents (t ∷ tokens) are =
    let parts = and_parts (says_itself t) (list_all says_itself tokens) are in
    ap (λ o. o ++ octets_of tokens) (plain_content t.kind t.octets parts.0) ∙ ap (λ o. content t ++ o) (plain_contents tokens parts.1)

pub contents_turn : (all rest following : List TokenValue) (t : TokenValue) (old new : List ℕ) → old ++ contents rest ≡ contents all → rest ≡ t ∷ following → new ≡ old ++ content t → new ++ contents following ≡ contents all
contents_turn all rest following t old new so e put = ap (λ r. r ++ contents following) put ∙ append_assoc old (content t) (contents following) ∙ ap (λ r. old ++ contents r) (sym e) ∙ so

pub contents_end : (all rest : List TokenValue) (made : List ℕ) → made ++ contents rest ≡ contents all → rest ≡ [] → made ≡ contents all
contents_end all rest made so e = sym (append-nil made) ∙ ap (λ r. made ++ contents r) (sym e) ∙ so

pub no_token_values : (text : List ℕ) → ((tokens : List Token) → HasTokens Mail text tokens → ⊥) → (values : List TokenValue) → HasMailTokens text values → ⊥
no_token_values text none values has = none (tokens_from 0 values) (record { is_line = has.is_line; values = values; are_tokens = has.are_tokens; placed = refl })
