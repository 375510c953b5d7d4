-- The recipients that a client still has to ask a server for.
use Rattle.std.specs.Prelude.{◌≡◌, ℕ, ◌+◌, [], ◌∷◌, slice_get, Option, None, Some}
use Rattle.relay_choice.specs.declared.plans.Offer.{Offer}
use Rattle.relay_choice.specs.declared.plans.Plan.{Plan}
use Rattle.relay_choice.specs.declared.plans.Plan.TheVariants as plan
use Rattle.relay_choice.specs.declared.mail_objects.Recipient.{Recipient}
use Rattle.relay_choice.specs.declared.mail_objects.MailObject.{MailObject}
use Rattle.relay_choice.specs.Relay.{sent_after}

-- the first recipient from a place on to whom the mail object is sent has this place, and what stands after it
pub record AsksFor (offer : Offer) (mail_object : MailObject) (from place : ℕ) : Type 0 where
  pub recipient : Recipient
  pub there : slice_get mail_object.recipients place ≡ Some recipient
  pub first : sent_after offer mail_object from ≡ recipient ∷ sent_after offer mail_object (place + 1)

abbrev pub AsksNext : Offer → MailObject → (from : ℕ) → Option ℕ → Type 0
AsksNext offer mail_object from None = sent_after offer mail_object from ≡ []
AsksNext offer mail_object from (Some place) = AsksFor offer mail_object from place

-- the detail of a report
abbrev pub detail_of : Plan → ℕ
detail_of plan.Send = 0
detail_of plan.SendNormal = 0
detail_of (plan.Report5 detail) = detail
