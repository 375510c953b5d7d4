-- What the driver takes of SMTP: a turn doesn't depend on what comes later, and whatever is asked for, the replies are ASCII.
use Rattle.std.proofs.Common.{◌≡◌, List, [], ℕ, refl, sym, ap, subst, ◌∙◌, Some, None, Option, suc, ◌<◌, ◌∷◌, ◌++◌, Bool, true, false, arith, ◌==◌, ◌&&◌, codes, not, inl, inr, append-nil, length, if◌then◌else◌}
use Rattle.std.specs.Option.{option_map}
use Rattle.std.specs.Prelude.{is_some, nat_lt, slice_index_or, sum_by}
use Rattle.std.specs.Str.{IsAscii}
use Rattle.std.specs.List.{list_all, list_any}
use Rattle.std.specs.Fmt.{decimal}
use Rattle.std.proofs.lemmas.Bool.{cond_both}
use Rattle.std.proofs.lemmas.Bool.Decides.{nat_tests}
use Rattle.std.proofs.lemmas.Option.{same_Some, none-some}
use Rattle.mail_wire.specs.Dots.{unstuffed}
use Rattle.mail_wire.specs.Framing.{Framed, waiting, whole, too_long, next_line}
use Rattle.mail_wire.specs.Lines.{Cut}
use Rattle.mail_wire.specs.Octets.{is_ascii}
use Rattle.mail_wire.proofs.AllLemmas.{pass-append}
use Rattle.mail_wire.proofs.NumberLemmas.{ascii-decimal}
use Rattle.mail_wire.proofs.FramingLemmas.{IsSteady, steady}
use Rattle.ace_domains.proofs.FormLemmas.{form_ascii}
use Rattle.address_grammar.specs.declared.Address.{Address}
use Rattle.journal_records.specs.declared.records.Record.{Record}
use Rattle.kept_mail.specs.Kept.{name_of, Kept, after_all, find_account, is_local}
use Rattle.mail_store.specs.Changing.{delivery_refusal}
use Rattle.kept_mail.specs.Deliveries.{delivered, has_large_octets}
use Rattle.mail_store.specs.Following.{records_of}
use Rattle.mail_store.specs.StoreState.{StoreState, with_records}
use Rattle.kept_mail.specs.declared.delivery.Delivery.{Delivery}
use Rattle.kept_mail.specs.declared.limits.TheConstants.{RECIPIENTS_MAX}
use Rattle.smtp_grammar.specs.Commands.{command_of, announced, are_malformed, is_client, is_smtputf8, is_unknown, parameter_of, path_after}
use Rattle.http_lines.specs.Requests.{is_http_request}
use Rattle.smtp_session.specs.Loops.{is_looping}
use Rattle.smtp_grammar.specs.Data.{data_cut}
use Rattle.smtp_grammar.specs.declared.command.Verb.{Verb}
use Rattle.smtp_grammar.proofs.DataLemmas.{data_cut-shorter, data_cut-stays}
use Rattle.smtp_grammar.proofs.ReadingLemmas.{read_unended}
use Rattle.smtp_grammar.specs.declared.command.Verb.TheVariants as verb
use Rattle.session_core.specs.Acts.{Act}
use Rattle.session_core.specs.Desks.{IsOpen, IsStoreName}
use Rattle.session_core.specs.Oracles.{Oracles, AreOracles}
use Rattle.session_core.specs.Moments.{Moment}
use Rattle.session_core.specs.Protocol.{IsFitTurn}
use Rattle.session_core.specs.Turns.{Turn, IsFramed, followed_by}
use Rattle.session_core.specs.declared.desk.Desk.{Desk}
use Rattle.session_core.proofs.FitLemmas.{fit_acts}
use Rattle.session_core.proofs.DeskLemmas.{delivered_domains}
use Rattle.smtp_session.specs.declared.session.SmtpMachine.{SmtpMachine}
use Rattle.smtp_session.specs.declared.states.Client.{Client}
use Rattle.smtp_session.specs.declared.states.Envelope.{Envelope}
use Rattle.smtp_session.specs.declared.states.SmtpState.{SmtpState}
use Rattle.smtp_session.specs.declared.states.SmtpState.TheVariants as smtp
use Rattle.smtp_session.specs.Machine.{State, collecting, delivery_of, end_data, ended, fresh, greeted, mail, awaits_first, past_first, line_step, step, Step, end_by, alone, data_step, is_same_remote, lacks_smtputf8, mail_by, mail_step, mail_to, path_read, rcpt_local, rcpt_remote, rcpt_step, rcpt_to, envelope_recipient_count, with_room, words_after}
use Rattle.smtp_session.specs.Session.{IsFit, SmtpReady, Machine, SmtpStands, data_turn, greeting, line_too_long, line_turn, machine_of, next_moment, next_turn, smtp_protocol, turn_from, AreFit, HasRest, IsUnfinished, state_of}
use Rattle.smtp_session.specs.laws.SaidLines.{SaidLines, line_said}

-- ---- turns don't depend on what comes later

-- a line takes an octet at least
line_shorter : (oracles : Oracles) (machine : Machine) (octets : List ℕ) (framed : Framed) (turn : Turn Machine (Act (List ℕ))) → IsSteady octets framed
    → line_turn oracles machine framed ≡ Some turn → length turn.rest < length octets
line_shorter oracles machine octets waiting turn steady is = cc
line_shorter oracles machine octets (whole line rest) turn steady is = let same : rest ≡ turn.rest = cc in rw (← same) steady.0
line_shorter oracles machine octets (too_long rest) turn steady is = let same : rest ≡ turn.rest = cc in rw (← same) steady.0

-- more octets stay after a line
line_stays : (oracles : Oracles) (machine : Machine) (octets more : List ℕ) (framed : Framed) (turn : Turn Machine (Act (List ℕ))) → IsSteady octets framed
    → line_turn oracles machine framed ≡ Some turn → line_turn oracles machine (next_line (octets ++ more)) ≡ Some (followed_by more turn)
line_stays oracles machine octets more waiting turn steady is = cc
line_stays oracles machine octets more (whole line rest) turn steady is = ap (line_turn oracles machine) (steady.1 more) ∙ ap (λ t. Some (followed_by more t)) (same_Some _ _ is)
line_stays oracles machine octets more (too_long rest) turn steady is = ap (line_turn oracles machine) (steady.1 more) ∙ ap (λ t. Some (followed_by more t)) (same_Some _ _ is)

-- data take an octet at least
data_shorter : (oracles : Oracles) (machine : Machine) (client : Client) (envelope : Envelope) (octets : List ℕ) (turn : Turn Machine (Act (List ℕ))) (found : Option Cut) → data_cut octets ≡ found
    → option_map (data_turn oracles machine client envelope) found ≡ Some turn → length turn.rest < length octets
data_shorter oracles machine client envelope octets turn None at is = cc
data_shorter oracles machine client envelope octets turn (Some cut) at is =
    let same : cut.rest ≡ turn.rest = ap (λ (t : Turn Machine (Act (List ℕ))). t.rest) (same_Some _ _ is) in
    rw (← same) (data_cut-shorter octets cut at)

-- more octets stay after data
data_stays : (oracles : Oracles) (machine : Machine) (client : Client) (envelope : Envelope) (octets more : List ℕ) (turn : Turn Machine (Act (List ℕ))) (found : Option Cut) → data_cut octets ≡ found
    → option_map (data_turn oracles machine client envelope) found ≡ Some turn
    → option_map (data_turn oracles machine client envelope) (data_cut (octets ++ more)) ≡ Some (followed_by more turn)
data_stays oracles machine client envelope octets more turn None at is = cc
data_stays oracles machine client envelope octets more turn (Some cut) at is =
    ap (option_map (data_turn oracles machine client envelope)) (data_cut-stays octets more cut at) ∙ ap (λ t. Some (followed_by more t)) (same_Some _ _ is)

shorter_in : (oracles : Oracles) (state : State) (machine : Machine) (octets : List ℕ) (turn : Turn Machine (Act (List ℕ))) → turn_from oracles state machine octets ≡ Some turn
    → length turn.rest < length octets
shorter_in oracles (fresh first) machine octets turn is = line_shorter oracles machine octets (next_line octets) turn (steady octets) is
shorter_in oracles (greeted client) machine octets turn is = line_shorter oracles machine octets (next_line octets) turn (steady octets) is
shorter_in oracles (mail client envelope) machine octets turn is = line_shorter oracles machine octets (next_line octets) turn (steady octets) is
shorter_in oracles (collecting client envelope) machine octets turn is = data_shorter oracles machine client envelope octets turn (data_cut octets) refl is
shorter_in oracles ended machine octets turn is = cc

stays_in : (oracles : Oracles) (state : State) (machine : Machine) (octets more : List ℕ) (turn : Turn Machine (Act (List ℕ))) → turn_from oracles state machine octets ≡ Some turn
    → turn_from oracles state machine (octets ++ more) ≡ Some (followed_by more turn)
stays_in oracles (fresh first) machine octets more turn is = line_stays oracles machine octets more (next_line octets) turn (steady octets) is
stays_in oracles (greeted client) machine octets more turn is = line_stays oracles machine octets more (next_line octets) turn (steady octets) is
stays_in oracles (mail client envelope) machine octets more turn is = line_stays oracles machine octets more (next_line octets) turn (steady octets) is
stays_in oracles (collecting client envelope) machine octets more turn is = data_stays oracles machine client envelope octets more turn (data_cut octets) refl is
stays_in oracles ended machine octets more turn is = cc

-- a turn takes an octet at least, and doesn't depend on what comes later
pub framed_by : (oracles : Oracles) → IsFramed (next_turn oracles)
unfolding next_turn
framed_by oracles = record {
  shorter = λ machine octets turn is. shorter_in oracles machine.state machine octets turn is;
  stays = λ machine octets more turn is. stays_in oracles machine.state machine octets more turn is;
}

-- ---- no turn

-- what was kept of a line brings none, nor what was read of data
no_turn_yet : (oracles : Oracles) (session : SmtpMachine) (state : SmtpState) (machine : Machine) (kept rest : List ℕ) (desk : Desk) → IsUnfinished session state kept desk
    → HasRest session state kept rest → turn_from oracles (state_of state) machine rest ≡ None
no_turn_yet oracles session (smtp.Fresh s) machine kept rest desk waits has = rw has (ap (line_turn oracles machine) waits)
no_turn_yet oracles session (smtp.Greeted s) machine kept rest desk waits has = rw has (ap (line_turn oracles machine) waits)
no_turn_yet oracles session (smtp.Mail s) machine kept rest desk waits has = rw has (ap (line_turn oracles machine) waits)
no_turn_yet oracles session (smtp.Data s) machine kept rest desk waits has =
    ap (option_map (data_turn oracles machine s.state.client s.state.envelope)) (read_unended session.reader rest has)

-- a session is in no state that has ended
not_ended : (state : SmtpState) → state_of state ≡ ended → ⊥
not_ended (smtp.Fresh s) is = cc
not_ended (smtp.Greeted s) is = cc
not_ended (smtp.Mail s) is = cc
not_ended (smtp.Data s) is = cc

pub waits_by : (oracles : Oracles) → AreOracles oracles → (more : List Moment) (session : SmtpMachine) (kept : List ℕ) (desk : Desk) (machine : Machine) (rest : List ℕ)
    → SmtpReady session kept desk → SmtpStands more session kept desk machine rest → next_turn oracles machine rest ≡ None
unfolding next_turn
waits_by oracles are more session kept desk machine rest ready stands =
    rw stands.machine_is (no_turn_yet oracles session session.state (machine_of session desk more) kept rest desk ready.unfinished stands.has)

pub goes_on_by : (more : List Moment) (session : SmtpMachine) (kept : List ℕ) (desk : Desk) (machine : Machine) (rest : List ℕ) → SmtpStands more session kept desk machine rest
    → ¬ (machine.state ≡ ended)
goes_on_by more session kept desk machine rest stands over = not_ended session.state (sym (ap (λ (m : Machine). m.state) stands.machine_is) ∙ over)

pub quiet_by : (oracles : Oracles) (machine : Machine) (rest : List ℕ) → machine.state ≡ ended → next_turn oracles machine rest ≡ None
unfolding next_turn
quiet_by oracles machine rest over = ap (λ (s : State). turn_from oracles s machine rest) over

-- ---- no row changes the store

same_changes : (b : Bool) (yes_step no_step : Step) → yes_step.changes ≡ [] → no_step.changes ≡ [] → (if b then yes_step else no_step).changes ≡ []
same_changes true yes_step no_step first second = first
same_changes false yes_step no_step first second = second

mail_to-changes : (client : Client) (store : StoreState) (smtputf8 : Bool) (path : Option Address) (words : List (List ℕ)) → (mail_to client store smtputf8 path words).changes ≡ []
mail_to-changes client store smtputf8 path words =
    same_changes (are_malformed words) _ _ refl (same_changes (list_any (λ word. is_unknown (parameter_of word)) words) _ _ refl (same_changes (lacks_smtputf8 smtputf8 path) _ _ refl
    (same_changes (nat_lt store.message_max (sum_by (λ word. announced (parameter_of word)) words)) _ _ refl refl)))

mail_by-changes : (client : Client) (store : StoreState) (path : Option (Option Address)) (words : List (List ℕ)) → (mail_by client store path words).changes ≡ []
mail_by-changes client store None words = refl
mail_by-changes client store (Some path) words = mail_to-changes client store (list_any (λ word. is_smtputf8 (parameter_of word)) words) path words

mail_step-changes : (oracles : Oracles) (state : State) (store : StoreState) (argument : List ℕ) → (mail_step oracles state store argument).changes ≡ []
mail_step-changes oracles (greeted client) store argument =
    let given = path_after (codes "FROM:") argument in
    mail_by-changes client store (path_read oracles given) (words_after given)
mail_step-changes oracles (fresh first) store argument = refl
mail_step-changes oracles (mail client envelope) store argument = refl
mail_step-changes oracles (collecting client envelope) store argument = refl
mail_step-changes oracles ended store argument = refl

with_room-changes : (there : Bool) (client : Client) (envelope with_one : Envelope) → (with_room there client envelope with_one).changes ≡ []
with_room-changes there client envelope with_one = same_changes there _ _ refl (same_changes (nat_lt (envelope_recipient_count envelope) RECIPIENTS_MAX) _ _ refl refl)

rcpt_local-changes : (client : Client) (envelope : Envelope) (account : Option ℕ) → (rcpt_local client envelope account).changes ≡ []
rcpt_local-changes client envelope None = refl
rcpt_local-changes client envelope (Some account) =
    with_room-changes (list_any (λ other. other == account) envelope.local) client envelope (record envelope { local = envelope.local ++ account ∷ [] })

rcpt_remote-changes : (client : Client) (envelope : Envelope) (address : Address) → (rcpt_remote client envelope address).changes ≡ []
rcpt_remote-changes client envelope address =
    with_room-changes (list_any (λ other. is_same_remote other address) envelope.remote) client envelope (record envelope { remote = envelope.remote ++ address ∷ [] })

rcpt_to-changes : (oracles : Oracles) (client : Client) (envelope : Envelope) (store : StoreState) (path : Option (Option Address)) → (rcpt_to oracles client envelope store path).changes ≡ []
rcpt_to-changes oracles client envelope store None = refl
rcpt_to-changes oracles client envelope store (Some None) = refl
rcpt_to-changes oracles client envelope store (Some (Some address)) =
    same_changes (lacks_smtputf8 envelope.smtputf8 (Some address)) _ _ refl (same_changes (is_local store.kept address.domain) _ _
    (rcpt_local-changes client envelope (find_account oracles.path_of store.kept address)) (rcpt_remote-changes client envelope address))

rcpt_step-changes : (oracles : Oracles) (state : State) (store : StoreState) (argument : List ℕ) → (rcpt_step oracles state store argument).changes ≡ []
rcpt_step-changes oracles (mail client envelope) store argument = rcpt_to-changes oracles client envelope store (path_read oracles (alone (path_after (codes "TO:") argument)))
rcpt_step-changes oracles (fresh first) store argument = refl
rcpt_step-changes oracles (greeted client) store argument = refl
rcpt_step-changes oracles (collecting client envelope) store argument = refl
rcpt_step-changes oracles ended store argument = refl

data_step-changes : (state : State) → (data_step state).changes ≡ []
data_step-changes (mail client envelope) = same_changes (envelope_recipient_count envelope == 0) _ _ refl refl
data_step-changes (fresh first) = refl
data_step-changes (greeted client) = refl
data_step-changes (collecting client envelope) = refl
data_step-changes ended = refl

-- a command changes nothing in the store
pub step-changes : (oracles : Oracles) (state : State) (store : StoreState) (word : Verb) (argument : List ℕ) → (step oracles state store word argument).changes ≡ []
unfolding step
step-changes oracles state store verb.Ehlo argument = same_changes (is_client argument) _ _ refl refl
step-changes oracles state store verb.Helo argument = same_changes (is_client argument) _ _ refl refl
step-changes oracles state store verb.Mail argument = mail_step-changes oracles state store argument
step-changes oracles state store verb.Rcpt argument = rcpt_step-changes oracles state store argument
step-changes oracles state store verb.Data argument = data_step-changes state
step-changes oracles state store verb.Rset argument = refl
step-changes oracles state store verb.Noop argument = refl
step-changes oracles state store verb.Vrfy argument = refl
step-changes oracles state store verb.Quit argument = refl
step-changes oracles state store verb.Other argument = refl

-- nor does a whole line
pub line_step-changes : (oracles : Oracles) (state : State) (store : StoreState) (line : List ℕ) → (line_step oracles state store line).changes ≡ []
unfolding line_step
line_step-changes oracles state store line =
    same_changes (awaits_first state && is_http_request line) _ _ refl (step-changes oracles (past_first state) store (command_of line).verb (command_of line).argument)

-- ---- each line is ASCII

-- ---- names

-- by recursion, as a test
ascii-all : (octets : List ℕ) → IsAscii octets → list_all is_ascii octets ≡ true
ascii-all [] ascii = refl
ascii-all (x ∷ octets) ascii =
    let low : x < 128 = ascii 0 in
    let test : nat_lt x 128 ≡ true = grind (arith, nat_tests) in
    rw test (ascii-all octets (λ i. ascii (suc i)))

-- the name of a store is ASCII
ascii-name : (name : List ℕ) → IsStoreName name → list_all is_ascii name ≡ true
ascii-name name (inl form) = ascii-all name (form_ascii name name form)
ascii-name name (inr local) = subst (λ n. list_all is_ascii n ≡ true) (sym local) refl

-- ---- replies

-- each line of a command's reply
ascii-lines : (store : StoreState) → IsStoreName (name_of store.kept) → SaidLines IsFit store
ascii-lines store named = record {
  greeting = pass-append is_ascii (codes "250 ") (name_of store.kept) refl (ascii-name (name_of store.kept) named);
  first_offer = pass-append is_ascii (codes "250-") (name_of store.kept) refl (ascii-name (name_of store.kept) named);
  eight_bits = refl;
  size = pass-append is_ascii (codes "250-SIZE ") (decimal store.message_max) refl (ascii-decimal store.message_max);
  smtputf8 = refl;
  codes_offered = refl;
  fine = refl;
  path_taken = refl;
  recipient_taken = refl;
  data_wanted = refl;
  unverified = refl;
  goodbye = refl;
  full = refl;
  unknown = refl;
  request = refl;
  bad = refl;
  disordered = refl;
  nobody = refl;
  large = refl;
  plain_only = refl;
  parameter = refl;
}

-- of each line, in each state
line_fit : (oracles : Oracles) (state : State) (store : StoreState) (line : List ℕ) → IsStoreName (name_of store.kept) → AreFit (line_step oracles state store line).reply
line_fit oracles state store line named = line_said IsFit oracles state store line (ascii-lines store named)

-- of the end of data
end_by_fit : (is_message loops : Bool) (store : StoreState) (client : Client) (delivery : Delivery) → AreFit (end_by is_message loops store client delivery).reply
end_by_fit is_message loops store client delivery =
    let P : Step → Type 0 = λ taken. AreFit taken.reply in
    cond_both (has_large_octets store.message_max delivery) _ _ P (λ large. (refl, tt))
    (λ small. cond_both (not is_message) _ _ P (λ none. (refl, tt))
    (λ message. cond_both loops _ _ P (λ circle. (refl, tt))
    (λ straight. cond_both (is_some (delivery_refusal store delivery)) _ _ P (λ refused. (refl, tt)) (λ room. (refl, tt)))))

-- of the beginning
greeting_fit : (name : List ℕ) → IsStoreName name → AreFit (greeting name)
greeting_fit name named = (pass-append is_ascii (codes "220 ") (name ++ codes " ESMTP") refl (pass-append is_ascii name (codes " ESMTP") (ascii-name name named) refl), tt)

-- ---- the name of the store after a step

-- where the domains stay, the name does
pub named_after : (old new : Kept) → new.domains ≡ old.domains → IsStoreName (name_of old) → IsStoreName (name_of new)
named_after old new same named = subst (λ (domains : List (List ℕ)). IsStoreName (slice_index_or domains 0 (codes "localhost"))) (sym same) named

-- the store has a name after these changes
abbrev IsNamedAfter : StoreState → List (List Record) → Type 0
IsNamedAfter store made = IsStoreName (name_of (with_records store (records_of made)).kept)

named_as : (store : StoreState) (made : List (List Record)) → made ≡ [] → IsStoreName (name_of store.kept) → IsNamedAfter store made
named_as store made none named = rw none named

-- after a line
line_named : (oracles : Oracles) (state : State) (store : StoreState) (line : List ℕ) → IsStoreName (name_of store.kept) → IsNamedAfter store (line_step oracles state store line).changes
line_named oracles state store line = named_as store _ (line_step-changes oracles state store line)

delivered_named : (store : StoreState) (delivery : Delivery) → IsStoreName (name_of store.kept) → IsNamedAfter store (delivered store.kept delivery ∷ [])
delivered_named store delivery named =
    let records = delivered store.kept delivery in
    rw (append-nil records) (named_after store.kept (after_all store.kept records) (delivered_domains store.kept delivery) named)

-- after the end of data
end_by_named : (is_message loops : Bool) (store : StoreState) (client : Client) (delivery : Delivery) → IsStoreName (name_of store.kept)
    → IsNamedAfter store (end_by is_message loops store client delivery).changes
end_by_named is_message loops store client delivery named =
    let P : Step → Type 0 = λ taken. IsNamedAfter store taken.changes in
    cond_both (has_large_octets store.message_max delivery) _ _ P (λ large. named)
    (λ small. cond_both (not is_message) _ _ P (λ none. named)
    (λ message. cond_both loops _ _ P (λ circle. named)
    (λ straight. cond_both (is_some (delivery_refusal store delivery)) _ _ P (λ refused. named) (λ room. delivered_named store delivery named))))

-- ---- the laws of replies

pub begins_fit_by : (oracles : Oracles) → AreOracles oracles → (moments : List Moment) (desk : Desk) → IsOpen desk
    → IsFitTurn smtp_protocol oracles (record { parts = smtp_protocol.opening desk.store; after = smtp_protocol.start moments desk.store; rest = [] })
begins_fit_by oracles are moments desk opens = record {
  fit = fit_acts IsFit [] (greeting (name_of desk.store.kept)) (greeting_fit (name_of desk.store.kept) opens.named);
  sound = opens.named;
}

abbrev IsFitFor : Oracles → Turn Machine (Act (List ℕ)) → Type 0
IsFitFor oracles turn = IsFitTurn smtp_protocol oracles turn

line_fits : (oracles : Oracles) (machine : Machine) (framed : Framed) (turn : Turn Machine (Act (List ℕ))) → IsStoreName (name_of machine.store.kept) → line_turn oracles machine framed ≡ Some turn
    → IsFitFor oracles turn
line_fits oracles machine waiting turn named is = absurd (none-some _ is)
line_fits oracles machine (whole text rest) turn named is =
    let taken = line_step oracles machine.state machine.store text in
    subst (IsFitFor oracles) (same_Some _ _ is)
    (record {
      fit = fit_acts IsFit taken.changes taken.reply (line_fit oracles machine.state machine.store text named);
      sound = line_named oracles machine.state machine.store text named;
    })
line_fits oracles machine (too_long rest) turn named is =
    subst (IsFitFor oracles) (same_Some _ _ is) (record { fit = fit_acts IsFit [] line_too_long (refl, tt); sound = named })

data_fit : (oracles : Oracles) (machine : Machine) (client : Client) (envelope : Envelope) (found : Option Cut) (turn : Turn Machine (Act (List ℕ))) → IsStoreName (name_of machine.store.kept)
    → option_map (data_turn oracles machine client envelope) found ≡ Some turn → IsFitFor oracles turn
data_fit oracles machine client envelope None turn named is = absurd (none-some _ is)
data_fit oracles machine client envelope (Some cut) turn named is =
    let octets = unstuffed cut.line in
    let moment = next_moment machine.moments in
    let delivery = delivery_of oracles machine.store client envelope moment octets in
    let taken = end_data oracles machine.store client envelope moment octets in
    subst (IsFitFor oracles) (same_Some _ _ is)
    (record {
      fit = fit_acts IsFit taken.changes taken.reply (end_by_fit (oracles.has_tree octets) (is_looping octets) machine.store client delivery);
      sound = end_by_named (oracles.has_tree octets) (is_looping octets) machine.store client delivery named;
    })

fits_in : (oracles : Oracles) (state : State) (machine : Machine) (octets : List ℕ) (turn : Turn Machine (Act (List ℕ))) → IsStoreName (name_of machine.store.kept)
    → turn_from oracles state machine octets ≡ Some turn → IsFitFor oracles turn
fits_in oracles (fresh first) machine octets turn named is = line_fits oracles machine (next_line octets) turn named is
fits_in oracles (greeted client) machine octets turn named is = line_fits oracles machine (next_line octets) turn named is
fits_in oracles (mail client envelope) machine octets turn named is = line_fits oracles machine (next_line octets) turn named is
fits_in oracles (collecting client envelope) machine octets turn named is = data_fit oracles machine client envelope (data_cut octets) turn named is
fits_in oracles ended machine octets turn named is = absurd (none-some _ is)

pub fits_by : (oracles : Oracles) → AreOracles oracles → (machine : Machine) (octets : List ℕ) (turn : Turn Machine (Act (List ℕ))) → IsStoreName (name_of machine.store.kept)
    → next_turn oracles machine octets ≡ Some turn → IsFitTurn smtp_protocol oracles turn
unfolding next_turn
fits_by oracles are machine octets turn named is = fits_in oracles machine.state machine octets turn named is
