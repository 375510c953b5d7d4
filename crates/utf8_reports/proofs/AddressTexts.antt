-- The text of an address is UTF-8.
use Rattle.std.proofs.Common.{◌≡◌, ℕ, List, [], ◌∷◌, Option, Some, refl, sym, ap, subst, ◌∙◌}
use Rattle.std.proofs.lemmas.Str.{IsUtf8-append}
use Rattle.std.specs.Str.{IsUtf8}
use Rattle.address_grammar.specs.declared.Address.{Address}
use Rattle.address_grammar.specs.Addresses.{local_text, address_text}
use Rattle.address_grammar.specs.Paths.{ComesInPath, HasPath, in_angles}
use Rattle.address_grammar.proofs.WritingLemmas.{path_again}
use Rattle.utf8_reports.specs.private.Reading.{SpellsAddress}
use Rattle.address_grammar.proofs.PathParts.{path_parts}
use Rattle.address_lists.proofs.WritableTokens.{local_utf8}

at_sign : IsUtf8 (64 ∷ [])
unfolding lib.Utf8.encode
at_sign = (64 ∷ [], (refl, refl))

pub text_utf8 : (a : Address) → ComesInPath a → IsUtf8 (address_text a)
text_utf8 a comes =
    let parts = path_parts comes.0 a comes.1 in
    IsUtf8-append (local_text a.local) (64 ∷ a.domain) (local_utf8 a.local parts.0) (IsUtf8-append (64 ∷ []) a.domain (at_sign) parts.1)

pub spelled_path : (text path : List ℕ) (a : Address) → path ≡ in_angles text → SpellsAddress text a → HasPath path (Some a)
spelled_path text path a is spells = subst (λ p. HasPath p (Some a)) (sym (is ∙ ap in_angles spells.text_is)) (path_again a spells.comes)

pub found_same : (found : Option Address) (a b : Address) → found ≡ Some a → found ≡ Some b → a ≡ b
found_same found a b h k = cc

pub text_same : (found : Option (List ℕ)) (a b : List ℕ) → found ≡ Some a → found ≡ Some b → a ≡ b
text_same found a b h k = cc
