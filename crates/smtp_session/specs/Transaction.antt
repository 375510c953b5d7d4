-- A mail transaction (RFC 5321, 3.3): its path, its recipients, and what is kept at its end.
use Rattle.std.specs.Prelude.{◌≡◌, ◌⊎◌, ℕ, ◌++◌, ◌==◌, List, [], ◌∷◌, Bool, true, false, Option, Some, codes}
use Rattle.std.specs.List.{list_any}
use Rattle.address_grammar.specs.declared.Address.{Address}
use Rattle.kept_mail.specs.declared.delivery.Delivery.{Delivery}
use Rattle.kept_mail.specs.Kept.{Kept, find_account, is_local, name_of}
use Rattle.smtp_grammar.specs.Commands.{path_after}
use Rattle.smtp_session.specs.declared.states.Client.{Client}
use Rattle.smtp_session.specs.declared.states.Envelope.{Envelope}
use Rattle.smtp_session.specs.Intake.{IsKeptOnce}
use Rattle.smtp_session.specs.Machine.{State, alone, collecting, greeted, is_same_remote, mail, path_read}
use Rattle.session_core.specs.Oracles.{Oracles}
use Rattle.smtp_session.specs.Trace.{protocol, received, return_path}
use Rattle.session_core.specs.Moments.{Moment}

-- ---- the replies of its commands

-- The reply of MAIL where it was accepted (RFC 5321, 4.1.1.2).
abbrev pub sender_ok : List (List ℕ)
sender_ok = codes "250 2.1.0 ok" ∷ []

-- The reply of RCPT where it was accepted (RFC 5321, 4.1.1.3).
abbrev pub recipient_ok : List (List ℕ)
recipient_ok = codes "250 2.1.5 ok" ∷ []

-- The reply of DATA where it was accepted (RFC 5321, 4.1.1.4).
abbrev pub go_ahead : List (List ℕ)
go_ahead = codes "354 go ahead" ∷ []

-- ---- its recipients

-- One like it is there and all stay as they are, or all stay and it is put after them.
abbrev pub IsTaken : {T : Type 0} → (T → T → Bool) → T → (old new : List T) → Type 0
IsTaken is_same one old new = ((list_any (λ other. is_same other one) old ≡ true) × (new ≡ old)) ⊎ (new ≡ old ++ one ∷ [])

-- the account of a local address is a recipient, after those that were there
pub record TakesAccount (path_of : List ℕ → Option (Option Address)) (kept : Kept) (address : Address) (old new : Envelope) : Type 0 where
  pub here : is_local kept address.domain ≡ true
  pub account : ℕ
  pub found : find_account path_of kept address ≡ Some account
  pub local : IsTaken (λ a b. a == b) account old.local new.local
  pub remote : new.remote ≡ old.remote

-- an address elsewhere is a recipient, after those that were there
pub record TakesRemote (kept : Kept) (address : Address) (old new : Envelope) : Type 0 where
  pub elsewhere : is_local kept address.domain ≡ false
  pub local : new.local ≡ old.local
  pub remote : IsTaken is_same_remote address old.remote new.remote

-- An accepted RCPT: the address that its path says is a recipient, after all that were there, and nothing else changes.
pub record TakesRecipient (oracles : Oracles) (kept : Kept) (argument : List ℕ) (before after : State) : Type 0 where
  pub client : Client
  pub old : Envelope
  pub new : Envelope
  pub before_is : before ≡ mail client old
  pub after_is : after ≡ mail client new
  pub address : Address
  pub says : path_read oracles (alone (path_after (codes "TO:") argument)) ≡ Some (Some address)
  pub path : new.path ≡ old.path
  pub smtputf8 : new.smtputf8 ≡ old.smtputf8
  pub taken : TakesAccount oracles.path_of kept address old new ⊎ TakesRemote kept address old new

-- an accepted MAIL: a transaction with the path that it says, and without recipients
pub record TakesSender (oracles : Oracles) (argument : List ℕ) (before after : State) : Type 0 where
  pub client : Client
  pub new : Envelope
  pub before_is : before ≡ greeted client
  pub after_is : after ≡ mail client new
  pub says : path_read oracles (path_after (codes "FROM:") argument) ≡ Some new.path
  pub local : new.local ≡ []
  pub remote : new.remote ≡ []

-- an accepted DATA: the data are those of the transaction
pub record TakesData (before after : State) : Type 0 where
  pub client : Client
  pub envelope : Envelope
  pub before_is : before ≡ mail client envelope
  pub after_is : after ≡ collecting client envelope

-- ---- what goes on

-- one with the same path and with all recipients, in their order, and maybe with more after them
pub record GoesOnAs (old new : Envelope) : Type 0 where
  pub path : new.path ≡ old.path
  pub smtputf8 : new.smtputf8 ≡ old.smtputf8
  pub more_local : List ℕ
  pub local : new.local ≡ old.local ++ more_local
  pub more_remote : List Address
  pub remote : new.remote ≡ old.remote ++ more_remote

-- a transaction that hasn't ended goes on, for the same client
abbrev pub TransactionGoesOn : Client → Envelope → State → Type 0
TransactionGoesOn client old (mail same new) = (same ≡ client) × GoesOnAs old new
TransactionGoesOn client old (collecting same new) = (same ≡ client) × GoesOnAs old new
TransactionGoesOn client old state = Unit {0}

-- ---- its end

-- The data of a transaction are kept once for each of its recipients: with its path, after the fields that tell this path and
-- where the message came from.
pub record IsTransactionKept (old new : Kept) (client : Client) (envelope : Envelope) (moment : Moment) (octets : List ℕ) : Type 0 where
  pub trace : List ℕ
  pub trace_is : trace ≡ received client.name (name_of old) (protocol envelope.smtputf8 client.extended) moment.date
  pub delivery : Delivery
  pub path : delivery.path ≡ envelope.path
  pub local : delivery.local ≡ envelope.local
  pub remote : delivery.remote ≡ envelope.remote
  pub local_octets : delivery.local_octets ≡ return_path envelope.path ++ (trace ++ octets)
  pub remote_octets : delivery.remote_octets ≡ trace ++ octets
  pub date : delivery.date ≡ moment.internal
  pub once : IsKeptOnce old new delivery
