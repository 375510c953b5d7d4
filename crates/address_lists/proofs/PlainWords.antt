-- A phrase of one word is written as what that word says.
use Rattle.std.proofs.Common.{◌≡◌, ℕ, true, false, List, [], ◌∷◌, ◌++◌, Some, None, refl, sym, ap, ◌∙◌, subst}
use Rattle.std.proofs.lemmas.List.{append-nil}
use Rattle.std.specs.Prelude.{IsUtf8}
use Rattle.std.specs.List.{AllByRecursion, list_all}
use Rattle.mail_wire.specs.Octets.{is_ascii}
use Rattle.encoded_words.specs.Folding.{AddsWordLines, AddsLines}
use Rattle.encoded_words.specs.Words.{UnitValue, Text, IsEncodedWord}
use Rattle.encoded_words.specs.Units.{Place}
use Rattle.encoded_words.specs.PhraseUnits.{IsUtf8Item, HasPhraseUnits}
use Rattle.encoded_words.specs.Written.{WritesUnit}
use Rattle.encoded_words.proofs.AddedUnits.{adds_words}
use Rattle.field_tokens.specs.declared.TokenKind.{TokenKind}
use Rattle.field_tokens.specs.declared.TokenKind.TheVariants.{Atom}
use Rattle.field_tokens.specs.Tokens.{TokenValue}
use Rattle.field_tokens.specs.Squeezed.{octets_of}
use Rattle.address_grammar.specs.Phrases.{phrase_items}
use Rattle.address_lists.specs.PhrasePieces.{PhrasePieces}
use Rattle.address_lists.specs.private.ListWriting.{IsPlainWord}

abbrev one_atom : List ℕ → List TokenValue
one_atom word = record { kind = Atom; octets = word } ∷ []

pub plain_from : (tokens rest : List TokenValue) (kind : TokenKind) (word : List ℕ) → tokens ≡ record { kind = kind; octets = word } ∷ rest → rest ≡ [] → kind ≡ Atom
    → ((unit : UnitValue) → IsEncodedWord word unit → ⊥) → IsPlainWord tokens word
plain_from tokens rest kind word e none atom plain = record { one = e ∙ rw (none, atom) refl; plain = plain }

pub plain_utf8 : (tokens : List TokenValue) (word : List ℕ) → IsPlainWord tokens word → AllByRecursion IsUtf8Item (phrase_items tokens) → IsUtf8 word
plain_utf8 tokens word is utf8 = let all = subst (λ ts. AllByRecursion IsUtf8Item (phrase_items ts)) is.one utf8 in all.0

-- the word is the one unit, if it isn't empty
says_word : (x : ℕ) (xs : List ℕ) → ((unit : UnitValue) → IsEncodedWord (x ∷ xs) unit → ⊥) → HasPhraseUnits (phrase_items (one_atom (x ∷ xs))) (Text (x ∷ xs) ∷ [])
says_word x xs plain = record {
  places = record { word = x ∷ xs; says = None; run = [] } ∷ [];
  are_places = (record { word = refl; says = plain; run = refl }, tt);
  says = refl;
}

high_word : (word : List ℕ) → list_all is_ascii (octets_of (one_atom word)) ≡ false → ((unit : UnitValue) → IsEncodedWord word unit → ⊥)
    → (pieces : List (List ℕ)) → WritesUnit (Text word) pieces → PhrasePieces false (one_atom word) pieces
high_word [] high plain pieces written = cc high
high_word (x ∷ xs) high plain pieces written =
    (Text (x ∷ xs) ∷ [], pieces, [], says_word x xs plain, (pieces, [], sym (append-nil pieces), written, refl), refl, sym (append-nil pieces))

pub plain_core : (tokens : List TokenValue) (word old new : List ℕ) → IsPlainWord tokens word → list_all is_ascii (octets_of tokens) ≡ false → AddsWordLines word 32 old new
    → AddsLines (PhrasePieces (list_all is_ascii (octets_of tokens)) tokens) old new
plain_core tokens word old new is high put =
    let lines = adds_words word old new put in
    let moved : list_all is_ascii (octets_of (one_atom word)) ≡ false = subst (λ ts. list_all is_ascii (octets_of ts) ≡ false) is.one high in
    let holds : PhrasePieces false tokens lines.pieces = subst (λ ts. PhrasePieces false ts lines.pieces) (sym is.one) (high_word word moved is.plain lines.pieces lines.holds) in
    rw (high) record { pieces = lines.pieces; holds = holds; added = lines.added }
