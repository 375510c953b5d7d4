-- What a mark says, and the addresses of a mail object that is made of it.
use Rattle.std.proofs.Common.{◌≡◌, ◌+◌, ℕ, Bool, true, false, List, Option, None, Some, IfSome, if◌then◌else◌, map, refl, sym, ap, ◌∙◌}
use Rattle.std.specs.List.{All}
use Rattle.std.proofs.lemmas.List.Elements.{All-map}
use Rattle.address_grammar.specs.declared.Address.{Address}
use Rattle.journal_records.specs.Stored.{mark_in}
use Rattle.mail_wire.specs.Octets.{is_high}
use Rattle.mime_tree.specs.declared.entity.Entity.{Entity}
use Rattle.mime_tree.specs.Tree.{has_high_block}
use Rattle.relay_choice.specs.declared.mail_objects.Recipient.{Recipient}
use Rattle.relay_choice.specs.declared.plans.Demands.{Demands}
use Rattle.relay_choice.specs.declared.plans.Form.{Form}
use Rattle.relay_choice.specs.MailObjects.{HasTextDomain, IsAddressed, IsAddressedRecipient, demands_of, mail_object_of, path_form, recipient_at}
use Rattle.relay_choice.specs.Plans.{has_bit}

-- ---- what a mark says

bits_of : (a b : Bool) → (has_bit 1 ((if a then 1 else 0) + (if b then 2 else 0)) ≡ a) × (has_bit 2 ((if a then 1 else 0) + (if b then 2 else 0)) ≡ b)
bits_of true true = (refl, refl)
bits_of true false = (refl, refl)
bits_of false true = (refl, refl)
bits_of false false = (refl, refl)

pub mark_header : (octets : List ℕ) (entities : List Entity) → has_bit 1 (mark_in octets entities) ≡ has_high_block octets entities
mark_header octets entities = (bits_of (has_high_block octets entities) (is_high octets)).0

pub mark_eight : (octets : List ℕ) (entities : List Entity) → has_bit 2 (mark_in octets entities) ≡ is_high octets
mark_eight octets entities = (bits_of (has_high_block octets entities) (is_high octets)).1

-- what is needed by a mark
pub record AreNeeds (form : Form) (mark : ℕ) (demands : Demands) : Type 0 where
  pub header : demands.header ≡ has_bit 1 mark
  pub eight : demands.eight ≡ has_bit 2 mark
  pub path : demands.path ≡ form

-- by the mark of octets it is what these ask for
pub marked_demands : (path : Option Address) (octets : List ℕ) (entities : List Entity) (mark : ℕ) (demands : Demands) → AreNeeds (path_form path) mark demands → mark ≡ mark_in octets entities
    → demands ≡ demands_of path octets entities
marked_demands path octets entities mark demands needs is =
    rw (sym (needs.header ∙ ap (has_bit 1) is ∙ mark_header octets entities), sym (needs.eight ∙ ap (has_bit 2) is ∙ mark_eight octets entities), sym needs.path) refl

pub marked_mail_object : (path : Option Address) (addresses : List Address) (recipients : List Recipient) (octets : List ℕ) (entities : List Entity) (mark : ℕ) (demands : Demands)
    → AreNeeds (path_form path) mark demands → recipients ≡ map recipient_at addresses → mark ≡ mark_in octets entities
    → record { path = path; demands = demands; recipients = recipients } ≡ mail_object_of path addresses octets entities
marked_mail_object path addresses recipients octets entities mark demands needs are is = rw (marked_demands path octets entities mark demands needs is, are) refl

-- ---- addresses

path_text : (path : Option Address) → IfSome path HasTextDomain → (address : Address) → path ≡ Some address → HasTextDomain address
path_text None text address is = cc
path_text (Some one) text address is = let same : one ≡ address = cc in rw (same) at text

-- where the domains are text, the mail object's addresses are known
pub mail_object_addressed : (path : Option Address) (demands : Demands) (recipients : List Recipient) (addresses : List Address) → recipients ≡ map recipient_at addresses
    → IfSome path HasTextDomain → All HasTextDomain addresses → IsAddressed (record { path = path; demands = demands; recipients = recipients })
mail_object_addressed path demands recipients addresses are text all = record {
  path = path_text path text;
  recipients = rw are (All-map IsAddressedRecipient recipient_at addresses (λ k d lt. record { text = all k d lt; form_is = refl }));
}
