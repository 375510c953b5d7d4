-- What reading a text tells of whether it is an address within its limit.
use Rattle.std.proofs.Common.{◌≡◌, ℕ, ◌≤◌, true, false, List, length, Option, Some, None, refl, subst}
use Rattle.std.specs.Prelude.{◌↔◌, IsTrue, IfSome, IfNone}
use Rattle.std.proofs.lemmas.Bool.{false≢true}
use Rattle.address_grammar.specs.declared.Address.{Address}
use Rattle.journal_records.specs.declared.limits.TheConstants.{TEXT_MAX}
use Rattle.journal_records.specs.Addresses.{IsTextOfAddress, IsKeptAddress}

pub address_there : (text : List ℕ) (found : Option Address) (own : Address) → found ≡ Some own → IfSome found (IsTextOfAddress text) → length text ≤ TEXT_MAX → IsTrue true ↔ IsKeptAddress text
address_there text found own e is short = (λ t. ((own, subst (λ (o : Option Address). IfSome o (IsTextOfAddress text)) e is), short), λ h. refl)

pub address_missing : (text : List ℕ) (found : Option Address) → found ≡ None → IfNone found ((address : Address) → ¬ IsTextOfAddress text address) → IsTrue false ↔ IsKeptAddress text
address_missing text found e none = (λ f. absurd (false≢true f), λ h. absurd (subst (λ (o : Option Address). IfNone o ((address : Address) → ¬ IsTextOfAddress text address)) e none h.0.0 h.0.1))
