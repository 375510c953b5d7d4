-- What a mail object's domains are, and whether it asks for SMTPUTF8.
use Rattle.std.proofs.Common.{◌≡◌, true, false, ◌&&◌, List, [], ◌∷◌, filter, IsUtf8, refl, ap, sym}
use Rattle.std.proofs.lemmas.Str.{IsUtf8-from_is_utf8}
use Rattle.address_grammar.specs.declared.Address.{Address}
use Rattle.relay_choice.specs.declared.plans.Demands.{Demands}
use Rattle.relay_choice.specs.declared.plans.Offer.{Offer}
use Rattle.relay_choice.specs.declared.mail_objects.Recipient.{Recipient}
use Rattle.relay_choice.specs.declared.mail_objects.MailObject.{MailObject}
use Rattle.relay_choice.specs.Plans.{plan_for, is_sent}
use Rattle.relay_choice.specs.Relay.{sent_to}
use Rattle.relay_choice.specs.Said.{needs_smtputf8}
use Rattle.relay_choice.specs.MailObjects.{HasTextDomain}

pub text_domain : (address : Address) → HasTextDomain address → IsUtf8 address.domain
text_domain address text = IsUtf8-from_is_utf8 address.domain text

-- where SMTPUTF8 is offered, all recipients are sent the mail object
sent_all : (offer : Offer) (demands : Demands) (recipients : List Recipient) → offer.smtputf8 ≡ true
    → filter (λ (recipient : Recipient). is_sent (plan_for demands recipient.form offer)) recipients ≡ recipients
sent_all offer demands [] is = refl
sent_all offer demands (x ∷ recipients) is = rw is (ap (λ (l : List Recipient). x ∷ l) (sent_all offer demands recipients is))

pub asked_of_all : (offer : Offer) (mail_object : MailObject) → (offer.smtputf8 && needs_smtputf8 mail_object.demands mail_object.recipients) ≡ (offer.smtputf8 && needs_smtputf8 mail_object.demands (sent_to offer mail_object))
asked_of_all offer mail_object = elim offer.smtputf8 as (λ b. offer.smtputf8 ≡ b → (b && needs_smtputf8 mail_object.demands mail_object.recipients) ≡ (b && needs_smtputf8 mail_object.demands (sent_to offer mail_object)))
    [ true ↦ λ e. ap (needs_smtputf8 mail_object.demands) (sym (sent_all offer mail_object.demands mail_object.recipients e)) | false ↦ λ e. refl ] refl
