-- What the steps of the code do with plain texts.
use Rattle.std.specs.Prelude.{◌≡◌, List, [], ◌∷◌}
use Rattle.field_tokens.specs.declared.TokenKind.TheVariants.{Atom}
use Rattle.field_tokens.specs.Tokens.{TokenValue}
use Rattle.field_tokens.specs.Squeezed.{words_of}

-- one atom, with gaps and comments around it
abbrev pub IsOneAtom : List TokenValue → Type 0
IsOneAtom tokens = (atom : TokenValue) × (words_of tokens ≡ atom ∷ []) × (atom.kind ≡ Atom)
