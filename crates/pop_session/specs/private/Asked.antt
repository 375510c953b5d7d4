-- What a text asks for that is to be the number of a message.
use Rattle.std.specs.Prelude.{◌≡◌, ◌<◌, ℕ, List, Option, None, Some, length}
use Rattle.pop_session.specs.declared.states.MaildropMessage.{MaildropMessage}
use Rattle.mail_store.specs.StoreState.{StoreState}
use Rattle.pop_session.specs.declared.replies.Asked.{Asked}
use Rattle.pop_session.specs.declared.replies.Asked.TheVariants.{NotNumber, NoSuch, Found}
use Rattle.pop_session.specs.Machine.{listed_at}

abbrev pub IsAsked : Asked → List MaildropMessage → Option ℕ → Type 0
IsAsked NotNumber maildrop number = number ≡ None
IsAsked NoSuch maildrop number = (n : ℕ) × (number ≡ Some n) × (listed_at maildrop n ≡ None)
IsAsked (Found n one) maildrop number = (number ≡ Some n) × (listed_at maildrop n ≡ Some one)

-- a message that was found is in the store
abbrev pub IsKnown : Asked → StoreState → Type 0
IsKnown NotNumber store = Unit {0}
IsKnown NoSuch store = Unit {0}
IsKnown (Found n one) store = one.id < length store.kept.messages
