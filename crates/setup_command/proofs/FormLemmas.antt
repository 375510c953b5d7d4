-- Texts of accounts' addresses.
use Rattle.std.proofs.Common.{◌≡◌, ◌≢◌, ℕ, ◌≤◌, Bool, true, false, List, [], ◌∷◌, Option, Some, None, sym, ap, ◌∙◌, subst, codes}
use Rattle.std.specs.Prelude.{◌↔◌, IsTrue, IsUtf8, IfSome, IfNone, length}
use Rattle.ace_domains.specs.Domains.{normal_form}
use Rattle.address_grammar.specs.declared.Address.{Address}
use Rattle.address_grammar.specs.Addresses.{address_text}
use Rattle.address_grammar.specs.Paths.{in_angles}
use Rattle.address_grammar.proofs.PathLemmas.{HasPath-once}
use Rattle.address_grammar.proofs.PathParts.{path_parts}
use Rattle.journal_records.specs.Addresses.{IsTextOfAddress}
use Rattle.journal_records.specs.declared.limits.TheConstants.{TEXT_MAX}
use Rattle.setup_command.specs.private.Apps.{account_words}
use Rattle.setup_command.specs.WordForms.{IsAccountText, IsAccountByInput, IsAccountCommand}

-- the address that was read
pub text_of : (found : Option Address) (text : List ℕ) (own : Address) → found ≡ Some own → IfSome found (IsTextOfAddress text) → IsTextOfAddress text own
text_of found text own is some = rw is at some

some_same : (a b : Address) → Some a ≡ Some b → a ≡ b
some_same a b same = cc

-- a text has one address
address_once : (text : List ℕ) (own other : Address) → IsTextOfAddress text own → IsTextOfAddress text other → other ≡ own
address_once text own other a b = some_same other own (HasPath-once (in_angles text) (Some other) (Some own) b a)

lacks : (P : Type 0) (has : Bool) → IsTrue has ↔ P → has ≡ false → P → ⊥
lacks P true means not p = cc
lacks P false means not p = let differs : false ≡ true = means.1 p in cc

-- a text whose address has a domain without a form
pub form_missing : (text domain : List ℕ) (own : Address) (has : Bool) → IsTextOfAddress text own → domain ≡ own.domain → IsTrue has ↔ (normal_form domain ≢ None) → has ≡ false
    → (address : Address) → IsAccountText text address → ⊥
form_missing text domain own has is domain_is means not address account =
    let same = ap (λ (a : Address). a.domain) (address_once text own address is account.is_text) ∙ sym domain_is in
    lacks (normal_form domain ≢ None) has means not (subst (λ (d : List ℕ). normal_form d ≢ None) same account.form)

-- a text whose address is too long
pub text_long : (text : List ℕ) (own : Address) (short : Bool) → IsTextOfAddress text own → IsTrue short ↔ (length (address_text own) ≤ TEXT_MAX) → short ≡ false
    → (address : Address) → IsAccountText text address → ⊥
text_long text own short is means not address account =
    lacks (length (address_text own) ≤ TEXT_MAX) short means not (subst (λ (a : Address). length (address_text a) ≤ TEXT_MAX) (address_once text own address is account.is_text) account.short)

-- the domain is UTF-8
pub domain_utf8 : (text : List ℕ) (own : Address) → IsTextOfAddress text own → IsUtf8 own.domain
domain_utf8 text own is = (path_parts (in_angles text) own is).1

-- a text of no address
pub no_text : (found : Option Address) (text : List ℕ) → found ≡ None → IfNone found ((address : Address) → ¬ IsTextOfAddress text address) → (address : Address) → IsAccountText text address → ⊥
no_text found text is none address account = let not : (address : Address) → ¬ IsTextOfAddress text address = rw is at none in not address account.is_text

-- ---- the law

pub account_once : (words : List (List ℕ)) (a b : Address) (p q : List ℕ) → IsAccountCommand words a p → IsAccountCommand words b q → a ≡ b
account_once words a b p q one other =
    let texts : one.text ≡ other.text = second_same one.text other.text p q (sym one.words_are ∙ other.words_are) in
    address_once other.text b a other.says.is_text (subst (λ (t : List ℕ). IsTextOfAddress t a) texts one.says.is_text)
  where
    second_same : (s t p q : List ℕ) → codes "account" ∷ s ∷ p ∷ [] ≡ codes "account" ∷ t ∷ q ∷ [] → s ≡ t
    second_same s t p q same = cc

pub by_input_once : (words : List (List ℕ)) (a b : Address) → IsAccountByInput words a → IsAccountByInput words b → a ≡ b
by_input_once words a b one other =
    let texts : one.text ≡ other.text = first_same one.text other.text (sym one.words_are ∙ other.words_are) in
    address_once other.text b a other.says.is_text (subst (λ (t : List ℕ). IsTextOfAddress t a) texts one.says.is_text)
  where
    first_same : (s t : List ℕ) → codes "account" ∷ s ∷ [] ≡ codes "account" ∷ t ∷ [] → s ≡ t
    first_same s t same = cc

-- ---- words without values

-- what was found of a list of words, where it is none
none_of : (T : Type 0) (found : Option T) (P : Type 0) → found ≡ None → IfNone found P → P
none_of T None P is none = none
none_of T (Some it) P is none = absurd (cc is)

pub no_account : (T : Type 0) (found : Option T) (words listed : List (List ℕ)) → listed ≡ words → found ≡ None
    → IfNone found ((address : List ℕ) (password : Option (List ℕ)) → listed ≡ account_words address password → ⊥) → (address : Address) (password : List ℕ) → IsAccountCommand words address password → ⊥
no_account T found words listed same is none address password command = none_of T found _ is none command.text (Some password) (same ∙ command.words_are)

pub no_account_by_input : (T : Type 0) (found : Option T) (words listed : List (List ℕ)) → listed ≡ words → found ≡ None
    → IfNone found ((address : List ℕ) (password : Option (List ℕ)) → listed ≡ account_words address password → ⊥) → (address : Address) → IsAccountByInput words address → ⊥
no_account_by_input T found words listed same is none address command = none_of T found _ is none command.text None (same ∙ command.words_are)
