-- What holds of each line that a command may be answered holds of each line of its reply (RFC 5321, 4.2).
use Rattle.std.proofs.Common.{ℕ, List, [], ◌∷◌, ◌++◌, ◌==◌, ◌&&◌, Bool, true, false, Option, Some, None, codes, cond}
use Rattle.std.specs.Prelude.{nat_lt, sum_by}
use Rattle.std.specs.List.{AllByRecursion, list_any}
use Rattle.std.specs.Fmt.{decimal}
use Rattle.address_grammar.specs.declared.Address.{Address}
use Rattle.kept_mail.specs.Kept.{name_of, is_local, find_account}
use Rattle.mail_store.specs.StoreState.{StoreState}
use Rattle.kept_mail.specs.declared.limits.TheConstants.{RECIPIENTS_MAX}
use Rattle.smtp_grammar.specs.declared.command.Verb.{Verb}
use Rattle.smtp_grammar.specs.declared.command.Verb.TheVariants as verb
use Rattle.http_lines.specs.Requests.{is_http_request}
use Rattle.smtp_grammar.specs.Commands.{command_of, is_client, path_after, parameter_of, are_malformed, is_unknown, is_smtputf8, announced}
use Rattle.smtp_session.specs.declared.states.Client.{Client}
use Rattle.smtp_session.specs.declared.states.Envelope.{Envelope}
use Rattle.smtp_session.specs.Machine.{State, fresh, greeted, mail, collecting, ended, Step, step, offers, client_of, answers, says, awaits_first, past_first, line_step, bad_argument, ehlo_step, helo_step, lacks_smtputf8, path_read, words_after, mail_by, mail_step, mail_to, is_same_remote, envelope_recipient_count, with_room, rcpt_local, rcpt_remote, rcpt_to, alone, rcpt_step, data_step}
use Rattle.session_core.specs.Oracles.{Oracles}

-- `Fits` holds of each line that a command may be answered over this store
pub record SaidLines (Fits : List ℕ → Type 0) (store : StoreState) : Type 0 where
  pub greeting : Fits (codes "250 " ++ name_of store.kept)
  pub first_offer : Fits (codes "250-" ++ name_of store.kept)
  pub eight_bits : Fits (codes "250-8BITMIME")
  pub size : Fits (codes "250-SIZE " ++ decimal store.message_max)
  pub smtputf8 : Fits (codes "250-SMTPUTF8")
  pub codes_offered : Fits (codes "250 ENHANCEDSTATUSCODES")
  pub fine : Fits (codes "250 2.0.0 ok")
  pub path_taken : Fits (codes "250 2.1.0 ok")
  pub recipient_taken : Fits (codes "250 2.1.5 ok")
  pub data_wanted : Fits (codes "354 go ahead")
  pub unverified : Fits (codes "252 2.5.0 send and see")
  pub goodbye : Fits (codes "221 2.0.0 bye")
  pub full : Fits (codes "452 4.5.3 too many recipients")
  pub unknown : Fits (codes "500 5.5.2 unknown command")
  pub request : Fits (codes "500 5.5.2 syntax error")
  pub bad : Fits (codes "501 5.5.4 bad argument")
  pub disordered : Fits (codes "503 5.5.1 out of order")
  pub nobody : Fits (codes "550 5.1.1 no such mailbox")
  pub large : Fits (codes "552 5.3.4 too large")
  pub plain_only : Fits (codes "553 5.6.7 address needs SMTPUTF8")
  pub parameter : Fits (codes "555 5.5.4 unknown parameter")

-- of two steps by a test
either : (Fits : List ℕ → Type 0) (b : Bool) (x y : Step) → AllByRecursion Fits x.reply → AllByRecursion Fits y.reply → AllByRecursion Fits (cond b x y).reply
either Fits true x y first second = first
either Fits false x y first second = second

-- EHLO and HELO

ehlo_said : (Fits : List ℕ → Type 0) (state : State) (store : StoreState) (name : List ℕ) → SaidLines Fits store → AllByRecursion Fits (ehlo_step state store name).reply
ehlo_said Fits state store name lines =
    either Fits (is_client name) (answers (offers store) (greeted (client_of name true))) (bad_argument state)
    (lines.first_offer, (lines.eight_bits, (lines.size, (lines.smtputf8, (lines.codes_offered, tt))))) (lines.bad, tt)

helo_said : (Fits : List ℕ → Type 0) (state : State) (store : StoreState) (name : List ℕ) → SaidLines Fits store → AllByRecursion Fits (helo_step state store name).reply
helo_said Fits state store name lines =
    either Fits (is_client name) (says (codes "250 " ++ name_of store.kept) (greeted (client_of name false))) (bad_argument state) (lines.greeting, tt) (lines.bad, tt)

-- MAIL

mail_to_said : (Fits : List ℕ → Type 0) (client : Client) (store : StoreState) (smtputf8 : Bool) (path : Option Address) (words : List (List ℕ)) → SaidLines Fits store
    → AllByRecursion Fits (mail_to client store smtputf8 path words).reply
mail_to_said Fits client store smtputf8 path words lines =
    either Fits (are_malformed words) _ _ (lines.bad, tt) (either Fits (list_any (λ word. is_unknown (parameter_of word)) words) _ _ (lines.parameter, tt)
    (either Fits (lacks_smtputf8 smtputf8 path) _ _ (lines.plain_only, tt)
    (either Fits (nat_lt store.message_max (sum_by (λ word. announced (parameter_of word)) words)) _ _ (lines.large, tt) (lines.path_taken, tt))))

mail_by_said : (Fits : List ℕ → Type 0) (client : Client) (store : StoreState) (path : Option (Option Address)) (words : List (List ℕ)) → SaidLines Fits store
    → AllByRecursion Fits (mail_by client store path words).reply
mail_by_said Fits client store None words lines = (lines.bad, tt)
mail_by_said Fits client store (Some path) words lines = mail_to_said Fits client store (list_any (λ word. is_smtputf8 (parameter_of word)) words) path words lines

mail_said : (Fits : List ℕ → Type 0) (oracles : Oracles) (state : State) (store : StoreState) (argument : List ℕ) → SaidLines Fits store
    → AllByRecursion Fits (mail_step oracles state store argument).reply
mail_said Fits oracles (greeted client) store argument lines =
    let given = path_after (codes "FROM:") argument in
    mail_by_said Fits client store (path_read oracles given) (words_after given) lines
mail_said Fits oracles (fresh first) store argument lines = (lines.disordered, tt)
mail_said Fits oracles (mail client envelope) store argument lines = (lines.disordered, tt)
mail_said Fits oracles (collecting client envelope) store argument lines = (lines.disordered, tt)
mail_said Fits oracles ended store argument lines = (lines.disordered, tt)

-- RCPT

room_said : (Fits : List ℕ → Type 0) (store : StoreState) (there : Bool) (client : Client) (envelope with_one : Envelope) → SaidLines Fits store
    → AllByRecursion Fits (with_room there client envelope with_one).reply
room_said Fits store there client envelope with_one lines =
    either Fits there _ _ (lines.recipient_taken, tt) (either Fits (nat_lt (envelope_recipient_count envelope) RECIPIENTS_MAX) _ _ (lines.recipient_taken, tt) (lines.full, tt))

local_said : (Fits : List ℕ → Type 0) (store : StoreState) (client : Client) (envelope : Envelope) (found : Option ℕ) → SaidLines Fits store
    → AllByRecursion Fits (rcpt_local client envelope found).reply
local_said Fits store client envelope None lines = (lines.nobody, tt)
local_said Fits store client envelope (Some account) lines =
    room_said Fits store (list_any (λ other. other == account) envelope.local) client envelope (record envelope { local = envelope.local ++ account ∷ [] }) lines

remote_said : (Fits : List ℕ → Type 0) (store : StoreState) (client : Client) (envelope : Envelope) (address : Address) → SaidLines Fits store
    → AllByRecursion Fits (rcpt_remote client envelope address).reply
remote_said Fits store client envelope address lines =
    room_said Fits store (list_any (λ other. is_same_remote other address) envelope.remote) client envelope (record envelope { remote = envelope.remote ++ address ∷ [] }) lines

rcpt_to_said : (Fits : List ℕ → Type 0) (oracles : Oracles) (client : Client) (envelope : Envelope) (store : StoreState) (path : Option (Option Address)) → SaidLines Fits store
    → AllByRecursion Fits (rcpt_to oracles client envelope store path).reply
rcpt_to_said Fits oracles client envelope store None lines = (lines.bad, tt)
rcpt_to_said Fits oracles client envelope store (Some None) lines = (lines.bad, tt)
rcpt_to_said Fits oracles client envelope store (Some (Some address)) lines =
    either Fits (lacks_smtputf8 envelope.smtputf8 (Some address)) _ _ (lines.plain_only, tt) (either Fits (is_local store.kept address.domain) _ _
    (local_said Fits store client envelope (find_account oracles.path_of store.kept address) lines) (remote_said Fits store client envelope address lines))

rcpt_said : (Fits : List ℕ → Type 0) (oracles : Oracles) (state : State) (store : StoreState) (argument : List ℕ) → SaidLines Fits store
    → AllByRecursion Fits (rcpt_step oracles state store argument).reply
rcpt_said Fits oracles (mail client envelope) store argument lines =
    rcpt_to_said Fits oracles client envelope store (path_read oracles (alone (path_after (codes "TO:") argument))) lines
rcpt_said Fits oracles (fresh first) store argument lines = (lines.disordered, tt)
rcpt_said Fits oracles (greeted client) store argument lines = (lines.disordered, tt)
rcpt_said Fits oracles (collecting client envelope) store argument lines = (lines.disordered, tt)
rcpt_said Fits oracles ended store argument lines = (lines.disordered, tt)

-- DATA, and each command

data_said : (Fits : List ℕ → Type 0) (state : State) (store : StoreState) → SaidLines Fits store → AllByRecursion Fits (data_step state).reply
data_said Fits (mail client envelope) store lines = either Fits (envelope_recipient_count envelope == 0) _ _ (lines.disordered, tt) (lines.data_wanted, tt)
data_said Fits (fresh first) store lines = (lines.disordered, tt)
data_said Fits (greeted client) store lines = (lines.disordered, tt)
data_said Fits (collecting client envelope) store lines = (lines.disordered, tt)
data_said Fits ended store lines = (lines.disordered, tt)

pub step_said : (Fits : List ℕ → Type 0) (oracles : Oracles) (state : State) (store : StoreState) (word : Verb) (argument : List ℕ) → SaidLines Fits store
    → AllByRecursion Fits (step oracles state store word argument).reply
unfolding step
step_said Fits oracles state store verb.Ehlo argument lines = ehlo_said Fits state store argument lines
step_said Fits oracles state store verb.Helo argument lines = helo_said Fits state store argument lines
step_said Fits oracles state store verb.Mail argument lines = mail_said Fits oracles state store argument lines
step_said Fits oracles state store verb.Rcpt argument lines = rcpt_said Fits oracles state store argument lines
step_said Fits oracles state store verb.Data argument lines = data_said Fits state store lines
step_said Fits oracles state store verb.Rset argument lines = (lines.fine, tt)
step_said Fits oracles state store verb.Noop argument lines = (lines.fine, tt)
step_said Fits oracles state store verb.Vrfy argument lines = (lines.unverified, tt)
step_said Fits oracles state store verb.Quit argument lines = (lines.goodbye, tt)
step_said Fits oracles state store verb.Other argument lines = (lines.unknown, tt)

-- a whole line
pub line_said : (Fits : List ℕ → Type 0) (oracles : Oracles) (state : State) (store : StoreState) (line : List ℕ) → SaidLines Fits store
    → AllByRecursion Fits (line_step oracles state store line).reply
unfolding line_step
line_said Fits oracles state store line lines =
    either Fits (awaits_first state && is_http_request line) _ _ (lines.request, tt)
    (step_said Fits oracles (past_first state) store (command_of line).verb (command_of line).argument lines)
