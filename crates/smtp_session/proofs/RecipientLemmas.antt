-- What is known of an envelope with one more recipient.
use Rattle.std.proofs.Common.{◌≡◌, ℕ, ◌<◌, ◌++◌, ◌∷◌, [], length, length-append, arith, refl, not, true, false, ◌==◌, Some, codes}
use Rattle.std.specs.Prelude.{nat_lt}
use Rattle.std.specs.List.{list_any}
use Rattle.std.proofs.lemmas.Bool.Decides.{nat_tests}
use Rattle.std.proofs.lemmas.List.Elements.{All-push}
use Rattle.address_grammar.specs.declared.Address.{Address}
use Rattle.journal_records.specs.Addresses.{IsSendable}
use Rattle.mail_store.specs.StoreState.{StoreState}
use Rattle.kept_mail.specs.declared.limits.TheConstants.{RECIPIENTS_MAX}
use Rattle.smtp_session.specs.declared.states.Client.{Client}
use Rattle.smtp_session.specs.declared.states.Envelope.{Envelope}
use Rattle.smtp_session.specs.Machine.{mail, says, accepted, envelope_recipient_count, is_same_remote, rcpt_local, rcpt_remote}
use Rattle.smtp_session.specs.Session.{Knows}

-- an envelope that isn't full has room
pub room-left : (envelope : Envelope) → not (nat_lt (envelope_recipient_count envelope) RECIPIENTS_MAX) ≡ false → envelope_recipient_count envelope < RECIPIENTS_MAX
room-left envelope open_yet = grind (arith, nat_tests)

-- an account that the store has is put last
pub knows-account : (store : StoreState) (envelope : Envelope) (account : ℕ) → Knows store envelope → account < length store.kept.accounts
    → envelope_recipient_count envelope < RECIPIENTS_MAX → Knows store (record envelope { local = envelope.local ++ account ∷ [] })
knows-account store envelope account knows here room = record {
  local = All-push (λ (a : ℕ). a < length store.kept.accounts) envelope.local account knows.local here;
  path = knows.path;
  remote = knows.remote;
  few = omega (arith, length-append envelope.local (account ∷ []));
}

-- an address that may be kept is put last
pub knows-address : (store : StoreState) (envelope : Envelope) (address : Address) → Knows store envelope → IsSendable address
    → envelope_recipient_count envelope < RECIPIENTS_MAX → Knows store (record envelope { remote = envelope.remote ++ address ∷ [] })
knows-address store envelope address knows sendable room = record {
  local = knows.local;
  path = knows.path;
  remote = All-push IsSendable envelope.remote address knows.remote sendable;
  few = omega (arith, length-append envelope.remote (address ∷ []));
}

-- one that isn't there yet is put last where there is room
pub remote_added : (client : Client) (envelope : Envelope) (address : Address) → list_any (λ other. is_same_remote other address) envelope.remote ≡ false
    → envelope_recipient_count envelope < RECIPIENTS_MAX → rcpt_remote client envelope address ≡ accepted (mail client (record envelope { remote = envelope.remote ++ address ∷ [] }))
remote_added client envelope address new room =
    let test : nat_lt (envelope_recipient_count envelope) RECIPIENTS_MAX ≡ true = grind (arith, nat_tests) in
    rw (new, test) refl

-- an account that isn't there yet is put last where there is room
pub local_added : (client : Client) (envelope : Envelope) (account : ℕ) → list_any (λ other. other == account) envelope.local ≡ false
    → envelope_recipient_count envelope < RECIPIENTS_MAX → rcpt_local client envelope (Some account) ≡ accepted (mail client (record envelope { local = envelope.local ++ account ∷ [] }))
local_added client envelope account new room =
    let test : nat_lt (envelope_recipient_count envelope) RECIPIENTS_MAX ≡ true = grind (arith, nat_tests) in
    rw (new, test) refl

-- one that isn't there yet is refused where there is no room
pub remote_refused : (client : Client) (envelope : Envelope) (address : Address) → list_any (λ other. is_same_remote other address) envelope.remote ≡ false
    → not (nat_lt (envelope_recipient_count envelope) RECIPIENTS_MAX) ≡ true
    → rcpt_remote client envelope address ≡ says (codes "452 4.5.3 too many recipients") (mail client envelope)
remote_refused client envelope address new full =
    let test : nat_lt (envelope_recipient_count envelope) RECIPIENTS_MAX ≡ false = grind (arith, nat_tests) in
    rw (new, test) refl
