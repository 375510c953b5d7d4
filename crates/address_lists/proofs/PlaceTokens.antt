-- Tokens that stand beside each other in a text are the tokens of their octets.
use Rattle.std.proofs.Common.{◌≡◌, ℕ, List, [], ◌∷◌, ◌++◌, sym, ◌∙◌, subst, refl}
use Rattle.field_tokens.specs.declared.Style.{Style}
use Rattle.field_tokens.specs.declared.Style.TheVariants.{Mail}
use Rattle.field_tokens.specs.Tokens.{TokenValue, AreTokens, IsToken}
use Rattle.field_tokens.specs.Squeezed.{octets_of}
use Rattle.field_tokens.proofs.Parts.{IsToken-alike, stops_front, octets_of-tokens, octets_of-append}
use Rattle.field_tokens.proofs.TokenLines.{AreLineTokens, tokens_lines, run_line}
use Rattle.address_grammar.specs.private.Lexemes.{HasMailTokens}

pub tokens_front : (style : Style) (a b : List TokenValue) (text : List ℕ) → AreTokens style (a ++ b) text → AreTokens style a (octets_of a)
tokens_front style [] b text are = refl
tokens_front style (t ∷ a) b text are =
    let rest : are.0 ≡ octets_of a ++ octets_of b = sym (octets_of-tokens style (a ++ b) are.0 are.3) ∙ octets_of-append a b in
    let is : IsToken style t.kind t.octets (octets_of a ++ octets_of b) = subst (IsToken style t.kind t.octets) rest are.2 in
    (octets_of a, refl, IsToken-alike style t.kind t.octets (octets_of a ++ octets_of b) (octets_of a) (λ p. stops_front p (octets_of a) (octets_of b)) is, tokens_front style a b are.0 are.3)

pub tokens_rest : (style : Style) (a b : List TokenValue) (text : List ℕ) → AreTokens style (a ++ b) text → (rest : List ℕ) × AreTokens style b rest
tokens_rest style [] b text are = (text, are)
tokens_rest style (t ∷ a) b text are = tokens_rest style a b are.0 are.3

pub lines_front : (a b : List TokenValue) → AreLineTokens (a ++ b) → AreLineTokens a
lines_front [] b all = tt
lines_front (t ∷ a) b all = (all.0, lines_front a b all.1)

pub lines_rest : (a b : List TokenValue) → AreLineTokens (a ++ b) → AreLineTokens b
lines_rest [] b all = all
lines_rest (t ∷ a) b all = lines_rest a b all.1

pub HasTokenValues-part : (text : List ℕ) (before tokens after : List TokenValue) → HasMailTokens text (before ++ (tokens ++ after)) → HasMailTokens (octets_of tokens) tokens
HasTokenValues-part text before tokens after has =
    let rest = tokens_rest Mail before (tokens ++ after) text has.are_tokens in
    let lines = tokens_lines Mail (before ++ (tokens ++ after)) text has.are_tokens has.is_line in
    record {
      is_line = run_line tokens (lines_front tokens after (lines_rest before (tokens ++ after) lines));
      are_tokens = tokens_front Mail tokens after rest.0 rest.1;
    }
