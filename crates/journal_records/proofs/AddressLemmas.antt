-- Texts of addresses, and what local parts are known by.
use Rattle.std.proofs.Common.{◌≡◌, ℕ, List, Option, Some, None, IsAscii, map, sym, ap, ◌∙◌, subst, encode_utf8_all}
use Rattle.std.proofs.lemmas.Str.{chars_from_encodes, chars-IsAscii, encodes-IsAscii}
use Rattle.std.proofs.lemmas.Str.Ascii.{IsAscii-map, lowercase_ascii}
use Rattle.std.specs.Char.{to_ascii_lowercase}
use Rattle.std.specs.Prelude.{IsUtf8, IfNone}
use Rattle.std.specs.Str.{chars}
use Rattle.caseless.proofs.CaselessLemmas.{All-chars, canonical_key-ascii, default_case_fold-ascii}
use Rattle.unicode_normalization.specs.Forms.{nfd}
use Rattle.caseless.specs.Caseless.{default_case_fold, canonical_key}
use Rattle.address_grammar.specs.declared.Address.{Address}
use Rattle.address_grammar.specs.Paths.{HasPath, in_angles}
use Rattle.journal_records.specs.Addresses.{IsTextOfAddress}

-- where the path was the null path, the text is that of no address
pub none_found : (found : Option Address) (text path : List ℕ) → path ≡ in_angles text → ((answer : Option Address) → HasPath path answer → found ≡ answer)
    → IfNone found ((address : Address) → ¬ IsTextOfAddress text address)
none_found (Some a) text path is exact = tt
none_found None text path is exact = λ address has.
    let differs : None ≡ Some address = exact (Some address) (subst (λ (p : List ℕ). HasPath p (Some address)) (sym is) has) in
    absurd (cc differs)

-- the three steps make the canonical key
pub key_made : (local decomposed folded key : List ℕ) → IsUtf8 decomposed → IsUtf8 folded → decomposed ≡ encode_utf8_all (nfd (chars local))
    → folded ≡ encode_utf8_all (default_case_fold (chars decomposed)) → key ≡ encode_utf8_all (nfd (chars folded))
    → key ≡ encode_utf8_all (canonical_key (chars local))
key_made local decomposed folded key u v first second third =
    let a : nfd (chars local) ≡ chars decomposed = chars_from_encodes (nfd (chars local)) decomposed u (sym first) in
    let b : default_case_fold (chars decomposed) ≡ chars folded = chars_from_encodes (default_case_fold (chars decomposed)) folded v (sym second) in
    third ∙ ap (λ (l : List ℕ). encode_utf8_all (nfd l)) (sym b ∙ ap default_case_fold (sym a))

-- of ASCII it is the text in lower case
pub key_of_ascii : (local key : List ℕ) → IsAscii local → key ≡ map to_ascii_lowercase local → key ≡ encode_utf8_all (canonical_key (chars local))
key_of_ascii local key ascii is =
    let all = All-chars local ascii in
    let folded : canonical_key (chars local) ≡ map to_ascii_lowercase local =
    canonical_key-ascii (chars local) all ∙ default_case_fold-ascii (chars local) all ∙ ap (map to_ascii_lowercase) (chars-IsAscii local ascii) in
    is ∙ sym (ap encode_utf8_all folded ∙ encodes-IsAscii (map to_ascii_lowercase local) (IsAscii-map to_ascii_lowercase local lowercase_ascii ascii))
