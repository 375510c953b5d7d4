-- At most one name is shown so.
use Rattle.std.proofs.Common.{◌≡◌, ℕ, List, true, false, Option, None, Some, Result, Ok, Err, IfOk, IfSome, IfNone, IsUtf8, refl, sym, ap, ◌∙◌, subst, option_map}
use Rattle.imap_words.specs.Utf7.{modified_utf7}
use Rattle.imap_mailboxes.specs.Names.{NamesMailbox}

-- what is read of octets as they are
as_they_are : {X : Type 0} (value : X → List ℕ) (octets : List ℕ) (read : Option X) (name : Option (List ℕ)) → IfSome read (λ x. (value x ≡ octets) × IsUtf8 octets) → IfNone read (IsUtf8 octets → ⊥)
    → NamesMailbox true octets name → option_map value read ≡ name
as_they_are value octets (Some x) (Some name) some none is = ap Some (some.0 ∙ is.1)
as_they_are value octets (Some x) None some none is = absurd (is octets some.1 refl)
as_they_are value octets None (Some name) some none is = absurd (none (subst IsUtf8 (sym is.1) is.0))
as_they_are value octets None None some none is = refl

pub named_as_it_is : {X E : Type 0} (value : X → List ℕ) (octets : List ℕ) (read : Result (Option X) E) (name : Option (List ℕ)) → IfOk read (λ o. IfSome o (λ x. (value x ≡ octets) × IsUtf8 octets)) → IfOk read (λ o. IfNone o (IsUtf8 octets → ⊥))
    → NamesMailbox true octets name → IfOk read (λ o. option_map value o ≡ name)
named_as_it_is value octets (Ok o) name some none is = as_they_are value octets o name some none is
named_as_it_is value octets (Err e) name some none is = tt

-- in modified UTF-7 the octets that were read are the name
pub named_in_utf7 : (text octets : List ℕ) (name : Option (List ℕ)) → IsUtf8 octets → text ≡ modified_utf7 octets → ((other : List ℕ) → IsUtf8 other → text ≡ modified_utf7 other → Some octets ≡ Some other)
    → NamesMailbox false text name → NamesMailbox true octets name
named_in_utf7 text octets (Some name) utf8 spelled once is = (is.0, cc (once name is.0 is.1))
named_in_utf7 text octets None utf8 spelled once is = absurd (is octets utf8 spelled)
