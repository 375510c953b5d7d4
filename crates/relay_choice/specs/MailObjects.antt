-- Queued messages as mail objects (RFC 5321, 4.1.2; RFC 6531, 3.4).
use Rattle.std.specs.Prelude.{◌≡◌, ℕ, List, true, Option, None, Some, map}
use Rattle.std.specs.Str.{is_utf8}
use Rattle.std.specs.List.{All}
use Rattle.address_grammar.specs.declared.Address.{Address}
use Rattle.relay_choice.specs.declared.mail_objects.Recipient.{Recipient}
use Rattle.relay_choice.specs.declared.mail_objects.MailObject.{MailObject}
use Rattle.mail_wire.specs.Octets.{is_high}
use Rattle.mime_tree.specs.declared.entity.Entity.{Entity}
use Rattle.mime_tree.specs.Tree.{has_high_block}
use Rattle.relay_choice.specs.declared.plans.Demands.{Demands}
use Rattle.relay_choice.specs.declared.plans.Form.{Form}
use Rattle.relay_choice.specs.declared.plans.Form.TheVariants.{Ascii}
use Rattle.relay_choice.specs.Plans.{form_of}

-- a domain is text (RFC 6531, 3.3)
abbrev pub HasTextDomain : Address → Type 0
HasTextDomain address = is_utf8 address.domain ≡ true

-- a recipient with the form of his address
pub record IsAddressedRecipient (recipient : Recipient) : Type 0 where
  pub text : HasTextDomain recipient.address
  pub form_is : recipient.form ≡ form_of recipient.address

-- a mail object with what is known of its addresses
pub record IsAddressed (mail_object : MailObject) : Type 0 where
  pub path : (address : Address) → mail_object.path ≡ Some address → HasTextDomain address
  pub recipients : All IsAddressedRecipient mail_object.recipients

-- ---- what a queue keeps

-- the null path is ASCII
abbrev pub path_form : Option Address → Form
path_form None = Ascii
path_form (Some address) = form_of address

-- the recipient at an address
abbrev pub recipient_at : Address → Recipient
recipient_at address = record { address = address; form = form_of address }

-- what a message with these entities asks for that came from this path
abbrev pub demands_of : (path : Option Address) → (octets : List ℕ) → (entities : List Entity) → Demands
demands_of path octets entities = record { header = has_high_block octets entities; eight = is_high octets; path = path_form path }

-- its mail object, to recipients at these addresses
abbrev pub mail_object_of : (path : Option Address) → (addresses : List Address) → (octets : List ℕ) → (entities : List Entity) → MailObject
mail_object_of path addresses octets entities = record { path = path; demands = demands_of path octets entities; recipients = map recipient_at addresses }
