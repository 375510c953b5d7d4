-- Parameters say one thing.
use Rattle.std.proofs.Common.{◌≡◌, ℕ, Bool, List, codes, Option, Some, None, sym, ◌∙◌}
use Rattle.dsn_terms.specs.Parameters.{value_under}
use Rattle.dsn_terms.specs.MailTerms.{ret_says, EnvidSays, HasMailTerms}
use Rattle.dsn_terms.specs.RecipientTerms.{HasRecipientTerms}
use Rattle.dsn_terms.specs.declared.Terms.{Terms}
use Rattle.dsn_terms.specs.declared.Asked.{Asked}
use Rattle.dsn_terms.proofs.OrcptFacts.{IsPrintableXtext-once, OrcptSays-once}
use Rattle.dsn_terms.proofs.NotifyFacts.{NotifySays-once}

EnvidSays-once : (value : Option (List ℕ)) (a b : List ℕ) → EnvidSays value a → EnvidSays value b → a ≡ b
EnvidSays-once None a b p q = p ∙ sym q
EnvidSays-once (Some value) a b p q = IsPrintableXtext-once value a b p.reads q.reads

same_full : (a b : Bool) (o : Option Bool) → o ≡ Some a → o ≡ Some b → a ≡ b
same_full a b o p q = let same : Some a ≡ Some b = sym p ∙ q in cc same

pub HasMailTerms-once : (words : List (List ℕ)) (terms other : Terms) → HasMailTerms words terms → HasMailTerms words other → terms ≡ other
HasMailTerms-once words terms other p q =
    let envid = EnvidSays-once (value_under (codes "ENVID=") words) terms.envid other.envid p.envid q.envid in
    let full = same_full terms.full other.full (ret_says (value_under (codes "RET=") words)) p.full q.full in
    λ i. record { envid = envid i; full = full i }

pub HasRecipientTerms-once : (utf8 : Bool) (words : List (List ℕ)) (asked other : Asked) → HasRecipientTerms utf8 words asked → HasRecipientTerms utf8 words other → asked ≡ other
HasRecipientTerms-once utf8 words asked other p q =
    let notify = NotifySays-once (value_under (codes "NOTIFY=") words) asked.notify other.notify p.notify q.notify in
    let orcpt = OrcptSays-once utf8 (value_under (codes "ORCPT=") words) asked.orcpt other.orcpt p.orcpt q.orcpt in
    λ i. record { notify = notify i; orcpt = orcpt i }
