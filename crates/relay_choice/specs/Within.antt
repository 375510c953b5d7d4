-- When a client is within a mail transaction.
use Rattle.std.specs.Prelude.{◌≡◌, ℕ, ◌<◌, List, length, Bool, true, false}
use Rattle.relay_choice.specs.declared.mail_objects.MailObject.{MailObject}
use Rattle.relay_choice.specs.declared.states.Awaited.{Awaited}
use Rattle.relay_choice.specs.declared.states.Awaited.TheVariants as awaited

-- The reply that the client awaits is one of a mail transaction (RFC 5321, 3.3).
abbrev pub is_of_mail_object : Awaited → Bool
is_of_mail_object awaited.Greeting = false
is_of_mail_object awaited.Ehlo = false
is_of_mail_object awaited.Mail = true
is_of_mail_object (awaited.Rcpt following) = true
is_of_mail_object awaited.Data = true
is_of_mail_object awaited.End = true
is_of_mail_object awaited.Reset = true

-- what is awaited within a transaction is of a mail object that is there
abbrev pub HasItsMailObject : Awaited → (at : ℕ) → List MailObject → Type 0
HasItsMailObject awaited at mail_objects = is_of_mail_object awaited ≡ true → at < length mail_objects
