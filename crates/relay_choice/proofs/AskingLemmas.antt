-- Recipients to whom a mail object is sent, by their places.
use Rattle.std.proofs.Common.{◌≡◌, ℕ, ◌+◌, ◌<◌, List, ◌∷◌, true, length, get_or, drop, filter, refl, ap, sym, ◌∙◌}
use Rattle.std.proofs.lemmas.List.{at_drop_more}
use Rattle.std.proofs.lemmas.Option.{slice_get_read}
use Rattle.relay_choice.specs.declared.plans.Offer.{Offer}
use Rattle.relay_choice.specs.declared.mail_objects.Recipient.{Recipient}
use Rattle.relay_choice.specs.declared.mail_objects.MailObject.{MailObject}
use Rattle.relay_choice.specs.Plans.{is_sent}
use Rattle.relay_choice.specs.Relay.{plan_of, sent_after}
use Rattle.relay_choice.specs.private.Asking.{AsksFor}

-- the recipient at a place is the first one, where those before it were passed over
pub sent_here : (offer : Offer) (mail_object : MailObject) (from place : ℕ) (x : Recipient) → place < length mail_object.recipients → x ≡ get_or mail_object.recipients place x
    → is_sent (plan_of offer mail_object x) ≡ true → sent_after offer mail_object from ≡ sent_after offer mail_object place → AsksFor offer mail_object from place
sent_here offer mail_object from place x lt is sent before = record {
  recipient = x;
  there = slice_get_read mail_object.recipients (length mail_object.recipients) place x refl lt is;
  first = before ∙ at_drop_more (λ (l : List Recipient). filter (λ recipient. is_sent (plan_of offer mail_object recipient)) l) mail_object.recipients place x lt
      ∙ ap (λ (y : Recipient). filter (λ recipient. is_sent (plan_of offer mail_object recipient)) (y ∷ drop (place + 1) mail_object.recipients)) (sym is)
      ∙ rw sent refl;
}
