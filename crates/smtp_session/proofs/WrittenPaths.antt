-- The path that is written for an address is found whole.
use Rattle.std.proofs.Common.{◌≡◌, List, ◌∷◌, ◌++◌, ℕ, true, Some, None, Option, IfSome}
use Rattle.address_grammar.specs.declared.Address.{Address}
use Rattle.address_grammar.specs.Paths.{ComesInPath, in_angles}
use Rattle.journal_records.specs.Addresses.{path_text}
use Rattle.smtp_grammar.specs.Commands.{path_after, ends_word}
use Rattle.smtp_grammar.proofs.PathOctets.{PassesPlain, found_after, found_spaced, passes_address, plain_none}

-- a path goes on with the text of an address, and with that of the null path
passes_text : (path : Option Address) → IfSome path ComesInPath → PassesPlain (path_text path)
passes_text None comes = plain_none
passes_text (Some address) comes = passes_address address comes

-- the path is found after a word
pub written_after : (word : List ℕ) (path : Option Address) → IfSome path ComesInPath → (rest : List ℕ) → ends_word rest ≡ true
    → path_after word (word ++ (in_angles (path_text path) ++ rest)) ≡ Some (record { path = in_angles (path_text path); rest = rest })
written_after word path comes rest apart = found_after word (path_text path) rest (passes_text path comes) apart

-- and after a word and a space
pub written_spaced : (word : List ℕ) (path : Option Address) → IfSome path ComesInPath → (rest : List ℕ) → ends_word rest ≡ true
    → path_after word (word ++ 32 ∷ (in_angles (path_text path) ++ rest)) ≡ Some (record { path = in_angles (path_text path); rest = rest })
written_spaced word path comes rest apart = found_spaced word (path_text path) rest (passes_text path comes) apart
