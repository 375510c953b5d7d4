-- A path of atoms and dots is read.
use Rattle.std.proofs.Common.{◌≡◌, ℕ, true, false, eqb, List, [], ◌∷◌, ◌++◌, Option, Some, refl, subst, ◌∙◌, arith}
use Rattle.std.proofs.lemmas.Bool.{and_parts}
use Rattle.std.proofs.lemmas.Bool.Decides.{nat_tests}
use Rattle.std.proofs.lemmas.List.Splits.{join_with_byte-slice_split}
use Rattle.std.specs.List.{list_all, slice_split, join_with_byte}
use Rattle.mail_wire.proofs.AllLemmas.{pass-append, pass-weaker}
use Rattle.field_tokens.specs.declared.Style.TheVariants.{Mail}
use Rattle.field_tokens.specs.TokenOctets.{is_atom_octet, is_line_octet}
use Rattle.field_tokens.specs.Tokens.{TokenValue, IsLine}
use Rattle.address_grammar.specs.declared.Address.{Address}
use Rattle.address_grammar.specs.private.Lexemes.{is_part, are_dotted}
use Rattle.address_grammar.specs.private.PlainPaths.{IsPlainPath}
use Rattle.address_grammar.specs.Addresses.{is_domain, is_some_atom, is_dot_atom}
use Rattle.address_grammar.specs.Paths.{HasPath, in_angles}
use Rattle.address_grammar.proofs.PathLemmas.{HasPath-once}
use Rattle.address_grammar.proofs.WritingLemmas.{some_atom, dotted_tokens, allow_quoted, dots_written, path_of_parts}
use Rattle.field_tokens.specs.Squeezed.{words_of}

atom_line : (x : ℕ) → is_atom_octet Mail x ≡ true → is_line_octet x ≡ true
atom_line x h = grind (arith, nat_tests)

some_atom_line : (a : List ℕ) → is_some_atom a ≡ true → list_all is_line_octet a ≡ true
some_atom_line a h = pass-weaker (is_atom_octet Mail) is_line_octet atom_line a (some_atom a h).1

atoms_line : (parts : List (List ℕ)) → list_all is_some_atom parts ≡ true → list_all is_line_octet (join_with_byte 46 parts) ≡ true
atoms_line [] h = refl
atoms_line (a ∷ []) h = some_atom_line a (and_parts (is_some_atom a) true h).0
atoms_line (a ∷ b ∷ more) h =
    let parts = and_parts (is_some_atom a) (list_all is_some_atom (b ∷ more)) h in
    pass-append is_line_octet a (46 ∷ join_with_byte 46 (b ∷ more)) (some_atom_line a parts.0) (atoms_line (b ∷ more) parts.1)

dot_atom_line : (octets : List ℕ) → is_dot_atom octets ≡ true → list_all is_line_octet octets ≡ true
dot_atom_line octets h =
    subst (λ (o : List ℕ). list_all is_line_octet o ≡ true) (join_with_byte-slice_split 46 octets) (atoms_line (slice_split (λ x. eqb x 46) octets) h)

plain_line : (text local domain : List ℕ) → IsPlainPath text local domain → IsLine (in_angles (local ++ 64 ∷ domain))
plain_line text local domain is = record {
  utf8 = rw (is.whole) at (is.utf8);
  plain = pass-append is_line_octet (local ++ 64 ∷ domain) (62 ∷ [])
      (pass-append is_line_octet local (64 ∷ domain) (dot_atom_line local is.is_local) (dot_atom_line domain is.is_domain)) refl;
}

dotted_domain : (ts : List TokenValue) → words_of ts ≡ ts → are_dotted (is_part false) ts ≡ true → is_domain ts ≡ true
dotted_domain ts words dotted = rw (words, dotted) refl

pub plain_path : (text local domain : List ℕ) (a : Address) → IsPlainPath text local domain → a.local ≡ local → a.domain ≡ domain → HasPath text (Some a)
plain_path text local domain a is p q =
    let first = dots_written local is.is_local in
    let second = dots_written domain is.is_domain in
    let front : List TokenValue = dotted_tokens (slice_split (λ x. eqb x 46) local) in
    let back : List TokenValue = dotted_tokens (slice_split (λ x. eqb x 46) domain) in
    rw (is.whole) (path_of_parts local domain front back a (plain_line text local domain is) first.writes second.writes
    (rw (first.words) (allow_quoted front first.dotted)) (dotted_domain back second.words second.dotted) (p ∙ first.says) (q ∙ second.says))

pub plain_path_once : (text local domain : List ℕ) (a : Address) (answer : Option Address) → IsPlainPath text local domain → a.local ≡ local → a.domain ≡ domain → HasPath text answer → Some a ≡ answer
plain_path_once text local domain a answer is p q path = HasPath-once text (Some a) answer (plain_path text local domain a is p q) path
