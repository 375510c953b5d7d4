-- What the commands of a transaction leave of it.
use Rattle.std.proofs.Common.{◌≡◌, ◌⊎◌, ℕ, ◌<◌, ◌==◌, Bool, true, false, List, [], ◌∷◌, ◌++◌, Option, Some, None, refl, sym, ap, ◌∙◌, arith, inl, inr, codes, append-nil}
use Rattle.std.specs.Prelude.{nat_lt, slice_index_or, sum_by}
use Rattle.std.specs.List.{list_any}
use Rattle.std.proofs.lemmas.Bool.{cond_both}
use Rattle.address_grammar.specs.declared.Address.{Address}
use Rattle.kept_mail.specs.declared.limits.TheConstants.{RECIPIENTS_MAX}
use Rattle.mail_store.specs.Answers.{IsFold}
use Rattle.kept_mail.specs.Kept.{Kept, find_account, is_local, name_of}
use Rattle.mail_store.specs.StoreState.{StoreState}
use Rattle.smtp_grammar.specs.declared.command.Verb.{Verb}
use Rattle.smtp_grammar.specs.declared.command.Verb.TheVariants as verb
use Rattle.smtp_grammar.specs.Commands.{announced, are_malformed, is_client, is_smtputf8, is_unknown, parameter_of, path_after}
use Rattle.smtp_session.specs.declared.states.Client.{Client}
use Rattle.smtp_session.specs.declared.states.Envelope.{Envelope}
use Rattle.smtp_session.specs.Intake.{AreRecipients, acceptance, kept_after}
use Rattle.smtp_session.specs.Machine.{State, Step, alone, collecting, data_step, delivery_of, end_data, ended, envelope_of, fresh, greeted, is_same_remote, lacks_smtputf8, mail, mail_by, mail_step, mail_to, path_read, rcpt_local, rcpt_remote, rcpt_step, rcpt_to, envelope_recipient_count, step, with_room, words_after}
use Rattle.session_core.specs.Oracles.{Oracles}
use Rattle.smtp_session.specs.Trace.{protocol, received}
use Rattle.session_core.specs.Moments.{Moment}
use Rattle.smtp_session.specs.Transaction.{TransactionGoesOn, GoesOnAs, IsTaken, IsTransactionKept, TakesAccount, TakesData, TakesRecipient, TakesRemote, TakesSender, go_ahead, recipient_ok, sender_ok}
use Rattle.smtp_session.proofs.IntakeLemmas.{accepted_kept_once}

-- ---- replies

-- the first octet of a reply
abbrev first_octet : List (List ℕ) → ℕ
first_octet reply = slice_index_or (slice_index_or reply 0 []) 0 0

-- a reply that begins otherwise
other_reply : (reply wanted : List (List ℕ)) (x y : ℕ) → first_octet reply ≡ x → first_octet wanted ≡ y → y < x → reply ≡ wanted → ⊥
other_reply reply wanted x y first second less is =
    let same : x ≡ y = sym first ∙ ap first_octet is ∙ second in
    omega (arith, same, less)

-- ---- RCPT

-- an accepted step leaves an envelope of which this holds
abbrev Accepts : Client → (Envelope → Type 0) → Step → Type 0
Accepts client P taken = taken.reply ≡ recipient_ok → (new : Envelope) × (taken.state ≡ mail client new) × P new

room-accepts : (there : Bool) (client : Client) (envelope with_one : Envelope) (P : Envelope → Type 0) → (there ≡ true → P envelope) → P with_one
    → Accepts client P (with_room there client envelope with_one)
room-accepts there client envelope with_one P old new =
    cond_both there _ _ (Accepts client P) (λ is ok. (envelope, refl, old is))
    (λ other. cond_both (nat_lt (envelope_recipient_count envelope) RECIPIENTS_MAX) _ _ (Accepts client P) (λ room ok. (with_one, refl, new))
    (λ full ok. absurd (other_reply _ recipient_ok 52 50 refl refl (omega arith) ok)))

-- what an accepted recipient leaves of an envelope
record Takes (oracles : Oracles) (kept : Kept) (address : Address) (old new : Envelope) : Type 0 where
  path : new.path ≡ old.path
  smtputf8 : new.smtputf8 ≡ old.smtputf8
  taken : TakesAccount oracles.path_of kept address old new ⊎ TakesRemote kept address old new

account_taken : (oracles : Oracles) (kept : Kept) (address : Address) (old new : Envelope) (account : ℕ) → is_local kept address.domain ≡ true
    → find_account oracles.path_of kept address ≡ Some account → IsTaken (λ a b. a == b) account old.local new.local → new.path ≡ old.path → new.smtputf8 ≡ old.smtputf8
    → new.remote ≡ old.remote → Takes oracles kept address old new
account_taken oracles kept address old new account here found local path smtputf8 remote = record {
  path = path;
  smtputf8 = smtputf8;
  taken = inl (record { here = here; account = account; found = found; local = local; remote = remote });
}

local-accepts : (oracles : Oracles) (kept : Kept) (address : Address) (client : Client) (old : Envelope) (found : Option ℕ) → is_local kept address.domain ≡ true
    → find_account oracles.path_of kept address ≡ found → Accepts client (Takes oracles kept address old) (rcpt_local client old found)
local-accepts oracles kept address client old None here is = λ ok. absurd (other_reply _ recipient_ok 53 50 refl refl (omega arith) ok)
local-accepts oracles kept address client old (Some account) here is =
    room-accepts (list_any (λ other. other == account) old.local) client old (record old { local = old.local ++ account ∷ [] }) (Takes oracles kept address old)
    (λ there. account_taken oracles kept address old old account here is (inl (there, refl)) refl refl refl)
    (account_taken oracles kept address old (record old { local = old.local ++ account ∷ [] }) account here is (inr refl) refl refl refl)

remote_taken : (oracles : Oracles) (kept : Kept) (address : Address) (old new : Envelope) → is_local kept address.domain ≡ false
    → IsTaken is_same_remote address old.remote new.remote → new.path ≡ old.path → new.smtputf8 ≡ old.smtputf8 → new.local ≡ old.local → Takes oracles kept address old new
remote_taken oracles kept address old new elsewhere remote path smtputf8 local = record {
  path = path;
  smtputf8 = smtputf8;
  taken = inr (record { elsewhere = elsewhere; local = local; remote = remote });
}

remote-accepts : (oracles : Oracles) (kept : Kept) (address : Address) (client : Client) (old : Envelope) → is_local kept address.domain ≡ false
    → Accepts client (Takes oracles kept address old) (rcpt_remote client old address)
remote-accepts oracles kept address client old elsewhere =
    room-accepts (list_any (λ other. is_same_remote other address) old.remote) client old (record old { remote = old.remote ++ address ∷ [] }) (Takes oracles kept address old)
    (λ there. remote_taken oracles kept address old old elsewhere (inl (there, refl)) refl refl refl)
    (remote_taken oracles kept address old (record old { remote = old.remote ++ address ∷ [] }) elsewhere (inr refl) refl refl refl)

-- what an accepted path leaves
record TakesPath (oracles : Oracles) (kept : Kept) (client : Client) (old : Envelope) (path : Option (Option Address)) (after : State) : Type 0 where
  address : Address
  says : path ≡ Some (Some address)
  new : Envelope
  after_is : after ≡ mail client new
  takes : Takes oracles kept address old new

path_taken : (oracles : Oracles) (kept : Kept) (client : Client) (old : Envelope) (address : Address) (taken : Step) → taken.reply ≡ recipient_ok
    → Accepts client (Takes oracles kept address old) taken → TakesPath oracles kept client old (Some (Some address)) taken.state
path_taken oracles kept client old address taken ok accepts =
    let left = accepts ok in
    record { address = address; says = refl; new = left.0; after_is = left.1; takes = left.2 }

rcpt_to-taken : (oracles : Oracles) (client : Client) (old : Envelope) (store : StoreState) (path : Option (Option Address)) → (rcpt_to oracles client old store path).reply ≡ recipient_ok
    → TakesPath oracles store.kept client old path (rcpt_to oracles client old store path).state
rcpt_to-taken oracles client old store None ok = absurd (other_reply _ recipient_ok 53 50 refl refl (omega arith) ok)
rcpt_to-taken oracles client old store (Some None) ok = absurd (other_reply _ recipient_ok 53 50 refl refl (omega arith) ok)
rcpt_to-taken oracles client old store (Some (Some address)) ok =
    path_taken oracles store.kept client old address (rcpt_to oracles client old store (Some (Some address))) ok
    (cond_both (lacks_smtputf8 old.smtputf8 (Some address)) _ _ (Accepts client (Takes oracles store.kept address old))
    (λ lacks wrong. absurd (other_reply _ recipient_ok 53 50 refl refl (omega arith) wrong))
    (λ has. cond_both (is_local store.kept address.domain) _ _ (Accepts client (Takes oracles store.kept address old))
    (λ here. local-accepts oracles store.kept address client old (find_account oracles.path_of store.kept address) here refl)
    (λ elsewhere. remote-accepts oracles store.kept address client old elsewhere)))

rcpt-taken : (oracles : Oracles) (state : State) (store : StoreState) (argument : List ℕ) → (rcpt_step oracles state store argument).reply ≡ recipient_ok
    → TakesRecipient oracles store.kept argument state (rcpt_step oracles state store argument).state
rcpt-taken oracles (mail client envelope) store argument ok =
    let takes = rcpt_to-taken oracles client envelope store (path_read oracles (alone (path_after (codes "TO:") argument))) ok in
    record {
      client = client;
      old = envelope;
      new = takes.new;
      before_is = refl;
      after_is = takes.after_is;
      address = takes.address;
      says = takes.says;
      path = takes.takes.path;
      smtputf8 = takes.takes.smtputf8;
      taken = takes.takes.taken;
    }
rcpt-taken oracles (fresh first) store argument ok = absurd (other_reply _ recipient_ok 53 50 refl refl (omega arith) ok)
rcpt-taken oracles (greeted client) store argument ok = absurd (other_reply _ recipient_ok 53 50 refl refl (omega arith) ok)
rcpt-taken oracles (collecting client envelope) store argument ok = absurd (other_reply _ recipient_ok 53 50 refl refl (omega arith) ok)
rcpt-taken oracles ended store argument ok = absurd (other_reply _ recipient_ok 53 50 refl refl (omega arith) ok)

pub recipient_taken : (oracles : Oracles) (state : State) (store : StoreState) (argument : List ℕ) → (step oracles state store verb.Rcpt argument).reply ≡ recipient_ok
    → TakesRecipient oracles store.kept argument state (step oracles state store verb.Rcpt argument).state
unfolding step
recipient_taken = rcpt-taken

-- ---- MAIL

-- what an accepted MAIL leaves, by its path
abbrev Begins : Client → Option (Option Address) → Step → Type 0
Begins client path taken = taken.reply ≡ sender_ok → (new : Envelope) × (taken.state ≡ mail client new) × (path ≡ Some new.path) × (new.local ≡ []) × (new.remote ≡ [])

mail_to-begins : (client : Client) (store : StoreState) (smtputf8 : Bool) (path : Option Address) (words : List (List ℕ)) → Begins client (Some path) (mail_to client store smtputf8 path words)
mail_to-begins client store smtputf8 path words =
    let P : Step → Type 0 = Begins client (Some path) in
    cond_both (are_malformed words) _ _ P (λ malformed ok. absurd (other_reply _ sender_ok 53 50 refl refl (omega arith) ok))
    (λ whole. cond_both (list_any (λ word. is_unknown (parameter_of word)) words) _ _ P (λ unknown ok. absurd (other_reply _ sender_ok 53 50 refl refl (omega arith) ok))
    (λ known. cond_both (lacks_smtputf8 smtputf8 path) _ _ P (λ lacks ok. absurd (other_reply _ sender_ok 53 50 refl refl (omega arith) ok))
    (λ has. cond_both (nat_lt store.message_max (sum_by (λ word. announced (parameter_of word)) words)) _ _ P (λ large ok. absurd (other_reply _ sender_ok 53 50 refl refl (omega arith) ok))
    (λ small ok. (envelope_of path smtputf8, refl, refl, refl, refl)))))

mail_by-begins : (client : Client) (store : StoreState) (path : Option (Option Address)) (words : List (List ℕ)) → Begins client path (mail_by client store path words)
mail_by-begins client store None words = λ ok. absurd (other_reply _ sender_ok 53 50 refl refl (omega arith) ok)
mail_by-begins client store (Some path) words = mail_to-begins client store (list_any (λ word. is_smtputf8 (parameter_of word)) words) path words

mail-taken : (oracles : Oracles) (state : State) (store : StoreState) (argument : List ℕ) → (mail_step oracles state store argument).reply ≡ sender_ok
    → TakesSender oracles argument state (mail_step oracles state store argument).state
mail-taken oracles (greeted client) store argument ok =
    let given = path_after (codes "FROM:") argument in
    let left = mail_by-begins client store (path_read oracles given) (words_after given) ok in
    record { client = client; new = left.0; before_is = refl; after_is = left.1; says = left.2; local = left.3; remote = left.4 }
mail-taken oracles (fresh first) store argument ok = absurd (other_reply _ sender_ok 53 50 refl refl (omega arith) ok)
mail-taken oracles (mail client envelope) store argument ok = absurd (other_reply _ sender_ok 53 50 refl refl (omega arith) ok)
mail-taken oracles (collecting client envelope) store argument ok = absurd (other_reply _ sender_ok 53 50 refl refl (omega arith) ok)
mail-taken oracles ended store argument ok = absurd (other_reply _ sender_ok 53 50 refl refl (omega arith) ok)

pub sender_taken : (oracles : Oracles) (state : State) (store : StoreState) (argument : List ℕ) → (step oracles state store verb.Mail argument).reply ≡ sender_ok
    → TakesSender oracles argument state (step oracles state store verb.Mail argument).state
unfolding step
sender_taken = mail-taken

-- ---- DATA

data-taken : (state : State) → (data_step state).reply ≡ go_ahead → TakesData state (data_step state).state
data-taken (mail client envelope) =
    cond_both (envelope_recipient_count envelope == 0) _ _ (λ (taken : Step). taken.reply ≡ go_ahead → TakesData (mail client envelope) taken.state)
    (λ none ok. absurd (other_reply _ go_ahead 53 51 refl refl (omega arith) ok))
    (λ some ok. record { client = client; envelope = envelope; before_is = refl; after_is = refl })
data-taken (fresh first) = λ ok. absurd (other_reply _ go_ahead 53 51 refl refl (omega arith) ok)
data-taken (greeted client) = λ ok. absurd (other_reply _ go_ahead 53 51 refl refl (omega arith) ok)
data-taken (collecting client envelope) = λ ok. absurd (other_reply _ go_ahead 53 51 refl refl (omega arith) ok)
data-taken ended = λ ok. absurd (other_reply _ go_ahead 53 51 refl refl (omega arith) ok)

pub data_taken : (oracles : Oracles) (state : State) (store : StoreState) (argument : List ℕ) → (step oracles state store verb.Data argument).reply ≡ go_ahead
    → TakesData state (step oracles state store verb.Data argument).state
unfolding step
data_taken oracles state store argument = data-taken state

-- ---- what goes on

same_envelope : (old : Envelope) → GoesOnAs old old
same_envelope old = record {
  path = refl;
  smtputf8 = refl;
  more_local = [];
  local = sym (append-nil old.local);
  more_remote = [];
  remote = sym (append-nil old.remote);
}

with_account : (old : Envelope) (account : ℕ) → GoesOnAs old (record old { local = old.local ++ account ∷ [] })
with_account old account = record {
  path = refl;
  smtputf8 = refl;
  more_local = account ∷ [];
  local = refl;
  more_remote = [];
  remote = sym (append-nil old.remote);
}

with_address : (old : Envelope) (address : Address) → GoesOnAs old (record old { remote = old.remote ++ address ∷ [] })
with_address old address = record {
  path = refl;
  smtputf8 = refl;
  more_local = [];
  local = sym (append-nil old.local);
  more_remote = address ∷ [];
  remote = refl;
}

room-goes : (there : Bool) (client : Client) (old with_one : Envelope) → GoesOnAs old with_one → TransactionGoesOn client old (with_room there client old with_one).state
room-goes there client old with_one more =
    let P : Step → Type 0 = λ taken. TransactionGoesOn client old taken.state in
    cond_both there _ _ P (λ is. (refl, same_envelope old))
    (λ new. cond_both (nat_lt (envelope_recipient_count old) RECIPIENTS_MAX) _ _ P (λ room. (refl, more)) (λ full. (refl, same_envelope old)))

local-goes : (client : Client) (old : Envelope) (found : Option ℕ) → TransactionGoesOn client old (rcpt_local client old found).state
local-goes client old None = (refl, same_envelope old)
local-goes client old (Some account) =
    room-goes (list_any (λ other. other == account) old.local) client old (record old { local = old.local ++ account ∷ [] }) (with_account old account)

remote-goes : (client : Client) (old : Envelope) (address : Address) → TransactionGoesOn client old (rcpt_remote client old address).state
remote-goes client old address =
    room-goes (list_any (λ other. is_same_remote other address) old.remote) client old (record old { remote = old.remote ++ address ∷ [] }) (with_address old address)

rcpt-goes : (oracles : Oracles) (client : Client) (old : Envelope) (store : StoreState) (path : Option (Option Address)) → TransactionGoesOn client old (rcpt_to oracles client old store path).state
rcpt-goes oracles client old store None = (refl, same_envelope old)
rcpt-goes oracles client old store (Some None) = (refl, same_envelope old)
rcpt-goes oracles client old store (Some (Some address)) =
    let P : Step → Type 0 = λ taken. TransactionGoesOn client old taken.state in
    cond_both (lacks_smtputf8 old.smtputf8 (Some address)) _ _ P (λ lacks. (refl, same_envelope old)) (λ has. cond_both (is_local store.kept address.domain) _ _ P
    (λ here. local-goes client old (find_account oracles.path_of store.kept address))
    (λ elsewhere. remote-goes client old address))

pub goes_on : (oracles : Oracles) (client : Client) (old : Envelope) (store : StoreState) (word : Verb) (argument : List ℕ)
    → TransactionGoesOn client old (step oracles (mail client old) store word argument).state
unfolding step
goes_on oracles client old store verb.Ehlo argument = cond_both (is_client argument) _ _ (λ (taken : Step). TransactionGoesOn client old taken.state) (λ is. tt) (λ other. (refl, same_envelope old))
goes_on oracles client old store verb.Helo argument = cond_both (is_client argument) _ _ (λ (taken : Step). TransactionGoesOn client old taken.state) (λ is. tt) (λ other. (refl, same_envelope old))
goes_on oracles client old store verb.Mail argument = (refl, same_envelope old)
goes_on oracles client old store verb.Rcpt argument = rcpt-goes oracles client old store (path_read oracles (alone (path_after (codes "TO:") argument)))
goes_on oracles client old store verb.Data argument =
    cond_both (envelope_recipient_count old == 0) _ _ (λ (taken : Step). TransactionGoesOn client old taken.state) (λ none. (refl, same_envelope old)) (λ some. (refl, same_envelope old))
goes_on oracles client old store verb.Rset argument = tt
goes_on oracles client old store verb.Noop argument = (refl, same_envelope old)
goes_on oracles client old store verb.Vrfy argument = (refl, same_envelope old)
goes_on oracles client old store verb.Quit argument = tt
goes_on oracles client old store verb.Other argument = (refl, same_envelope old)

-- ---- what is kept

pub transaction_kept : (oracles : Oracles) (store : StoreState) (client : Client) (envelope : Envelope) (moment : Moment) (octets : List ℕ)
    → IsFold store.kept → AreRecipients store.kept envelope → (end_data oracles store client envelope moment octets).reply ≡ acceptance
    → IsTransactionKept store.kept (kept_after store (end_data oracles store client envelope moment octets)) client envelope moment octets
transaction_kept oracles store client envelope moment octets fold are accepted = record {
  trace = received client.name (name_of store.kept) (protocol envelope.smtputf8 client.extended) moment.date;
  trace_is = refl;
  delivery = delivery_of oracles store client envelope moment octets;
  path = refl;
  local = refl;
  remote = refl;
  local_octets = refl;
  remote_octets = refl;
  date = refl;
  once = accepted_kept_once oracles store client envelope moment octets fold are accepted;
}
