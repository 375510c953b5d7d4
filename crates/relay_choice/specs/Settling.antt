-- What the acts of a run say of its mail objects (RFC 5321, 4.1.1.1 and 4.2).
use Rattle.std.specs.Prelude.{◌≡◌, ℕ, ◌<◌, ◌≤◌, List, [], ◌∷◌, false, None, Some, length, slice_get}
use Rattle.std.specs.Option.{option_map_or}
use Rattle.relay_choice.specs.declared.plans.Offer.{Offer}
use Rattle.relay_choice.specs.declared.replies.Reply.{Reply}
use Rattle.relay_choice.specs.declared.mail_objects.MailObject.{MailObject}
use Rattle.relay_choice.specs.declared.mail_objects.Outcome.{Outcome}
use Rattle.relay_choice.specs.declared.mail_objects.Outcome.TheVariants as outcome
use Rattle.relay_choice.specs.declared.mail_objects.Act.{Act}
use Rattle.relay_choice.specs.declared.mail_objects.Act.TheVariants as act
use Rattle.relay_choice.specs.Offers.{offer_of}
use Rattle.relay_choice.specs.Relay.{sent_to}

-- the number of the mail object that an act settles
abbrev pub numbers_in : Act → List ℕ
numbers_in (act.Say octets) = []
numbers_in (act.SayData number) = []
numbers_in (act.Settle number outcomes) = number ∷ []

-- The mail object of this number is there, and has as many recipients as there are outcomes.
pub record AreItsOutcomes (mail_objects : List MailObject) (number : ℕ) (outcomes : List Outcome) : Type 0 where
  pub mail_object : MailObject
  pub there : slice_get mail_objects number ≡ Some mail_object
  pub each : length outcomes ≡ length mail_object.recipients

-- The mail object of this number is there, and by this offer it is sent to somebody.
pub record IsSentToSome (offer : Offer) (mail_objects : List MailObject) (number : ℕ) : Type 0 where
  pub mail_object : MailObject
  pub there : slice_get mail_objects number ≡ Some mail_object
  pub some : 0 < length (sent_to offer mail_object)

-- What the second reply offers, which is the one to EHLO. Before it nothing is offered.
abbrev pub offer_in : List Reply → Offer
offer_in replies = option_map_or offer_of (slice_get replies 1) (record { smtputf8 = false; eight = false })

-- codes that replies have (RFC 5321, 4.2)
abbrev pub IsCode : ℕ → Type 0
IsCode code = (200 ≤ code) × (code ≤ 599)

-- The reply has a code that replies may have (RFC 5321, 4.2).
abbrev pub HasCode : Reply → Type 0
HasCode reply = IsCode reply.code

-- an outcome whose code, if there is one, is that of a reply
abbrev pub IsFitOutcome : Outcome → Type 0
IsFitOutcome outcome.Sent = Unit {0}
IsFitOutcome (outcome.Refused detail None) = Unit {0}
IsFitOutcome (outcome.Refused detail (Some code)) = IsCode code
