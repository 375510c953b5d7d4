-- Where the tokens of a text stand.
use Rattle.std.proofs.Common.{◌≡◌, ℕ, ◌+◌, List, [], ◌∷◌, ◌++◌, length, take, drop, refl, sym, ap, ◌∙◌}
use Rattle.std.specs.List.{flat_map}
use Rattle.std.proofs.lemmas.List.{append_assoc, append-nil, length-append, take_at, drop_at}
use Rattle.field_tokens.specs.declared.Style.{Style}
use Rattle.field_tokens.specs.declared.Token.{Token}
use Rattle.field_tokens.specs.Tokens.{TokenValue, AreTokens, tokens_from, HasTokens, octets_at}
use Rattle.field_tokens.specs.Squeezed.{StandTogether}
use Rattle.field_tokens.proofs.TokenLists.{token_at}

-- the tokens after a front join to what follows it
join_from : (style : Style) (text front rest : List ℕ) (ts : List TokenValue) → text ≡ front ++ rest → AreTokens style ts rest
    → flat_map (λ token. octets_at text token.span) (tokens_from (length front) ts) ≡ rest
join_from style text front rest [] e are = sym are
join_from style text front rest (t ∷ ts) e are =
    let onward : text ≡ (front ++ t.octets) ++ are.0 = e ∙ ap (λ r. front ++ r) are.1 ∙ sym (append_assoc front t.octets are.0) in
    let more = join_from style text (front ++ t.octets) are.0 ts onward are.3 in
    let place : length (front ++ t.octets) ≡ length front + length t.octets = length-append front t.octets in
    let following : drop (length front) text ≡ rest = ap (drop (length front)) e ∙ drop_at front rest (length front) refl in
    let head : octets_at text (token_at (length front) t).span ≡ t.octets = rw (following) (ap (take (length t.octets)) are.1 ∙ take_at t.octets are.0 (length t.octets) refl) in
    rw (head) (ap (λ r. t.octets ++ r) (rw (place) at more) ∙ sym are.1)

pub HasTokens-join : (style : Style) (text : List ℕ) (tokens : List Token) → HasTokens style text tokens → flat_map (λ token. octets_at text token.span) tokens ≡ text
HasTokens-join style text tokens has = rw (has.placed) (join_from style text [] text has.values refl has.are_tokens)

-- all tokens of a text are neighbours
pub all_stand : (style : Style) (text : List ℕ) (tokens : List Token) → HasTokens style text tokens → StandTogether text tokens
all_stand style text tokens has = record { style = style; before = []; after = []; has = rw (append-nil) has }
