-- The recipients that a state names, through each command.
use Rattle.std.proofs.Common.{◌≡◌, ℕ, suc, ◌+◌, ◌<◌, ◌==◌, ◌&&◌, Bool, false, List, [], ◌∷◌, ◌++◌, length, if◌then◌else◌, Option, Some, None, IfSome, subst, arith, inl, inr, codes}
use Rattle.std.specs.Prelude.{nat_lt, sum_by}
use Rattle.std.specs.List.{AllByRecursion, IsDistinct, list_any}
use Rattle.std.proofs.lemmas.Bool.{cases_Bool, cond_both, or_parts}
use Rattle.std.proofs.lemmas.List.Elements.{All-nil, All-push}
use Rattle.address_grammar.specs.declared.Address.{Address}
use Rattle.kept_mail.specs.declared.kept.Account.{Account}
use Rattle.kept_mail.specs.declared.limits.TheConstants.{RECIPIENTS_MAX}
use Rattle.kept_mail.specs.Kept.{Kept, find_account, first_account, is_account_of, is_local}
use Rattle.mail_store.specs.StoreState.{StoreState}
use Rattle.smtp_grammar.specs.declared.command.Verb.{Verb}
use Rattle.smtp_grammar.specs.declared.command.Verb.TheVariants as verb
use Rattle.smtp_grammar.specs.Commands.{command_of, announced, are_malformed, is_client, is_smtputf8, is_unknown, parameter_of, path_after}
use Rattle.smtp_session.specs.declared.states.Client.{Client}
use Rattle.smtp_session.specs.declared.states.Envelope.{Envelope}
use Rattle.smtp_session.specs.Intake.{AreRecipients, KnowsRecipients}
use Rattle.smtp_session.specs.Machine.{State, Step, alone, collecting, data_step, ended, envelope_of, fresh, greeted, is_same_remote, lacks_smtputf8, mail, mail_by, mail_step, mail_to, path_read, rcpt_local, rcpt_remote, rcpt_step, rcpt_to, envelope_recipient_count, reset, awaits_first, past_first, line_step, step, with_room, words_after}
use Rattle.session_core.specs.Oracles.{Oracles}
use Rattle.http_lines.specs.Requests.{is_http_request}

-- ---- one more recipient

last_too : {K : Type 0} (P : K → Type 0) (xs : List K) (y : K) → AllByRecursion P xs → P y → AllByRecursion P (xs ++ y ∷ [])
last_too P [] y all last = (last, tt)
last_too P (x ∷ xs) y all last = (all.0, last_too P xs y all.1 last)

-- one that isn't there yet
distinct_push : {K : Type 0} (same : K → K → Bool) (xs : List K) (y : K) → IsDistinct same xs → list_any (λ x. same x y) xs ≡ false → IsDistinct same (xs ++ y ∷ [])
unfolding IsDistinct
distinct_push same [] y distinct new = (tt, tt)
distinct_push same (x ∷ xs) y distinct new =
    let parts = or_parts (same x y) (list_any (λ z. same z y) xs) new in
    (last_too (λ z. same x z ≡ false) xs y distinct.0 parts.0, distinct_push same xs y distinct.1 parts.1)

-- an account that is found is one of these
found_from : (path_of : List ℕ → Option (Option Address)) (address : Address) (at : ℕ) (accounts : List Account)
    → IfSome (first_account path_of address at accounts) (λ account. account < at + length accounts)
found_from path_of address at [] = tt
found_from path_of address at (account ∷ accounts) =
    elim (cases_Bool (is_account_of path_of address account)) [
      | inl own ↦ rw own (omega arith)
      | inr other ↦
          let later : at + 1 + length accounts ≡ at + suc (length accounts) = omega arith in
          rw other (subst (λ n. IfSome (first_account path_of address (at + 1) accounts) (λ account. account < n)) later (found_from path_of address (at + 1) accounts))
    ]

-- an account that is found is there
found_there : (path_of : List ℕ → Option (Option Address)) (kept : Kept) (address : Address) → IfSome (find_account path_of kept address) (λ account. account < length kept.accounts)
found_there path_of kept address =
    let all : 0 + length kept.accounts ≡ length kept.accounts = omega arith in
    subst (λ n. IfSome (find_account path_of kept address) (λ account. account < n)) all (found_from path_of address 0 kept.accounts)

-- ---- RCPT

room-known : (kept : Kept) (there : Bool) (client : Client) (envelope with_one : Envelope) → AreRecipients kept envelope → (there ≡ false → AreRecipients kept with_one)
    → KnowsRecipients kept (with_room there client envelope with_one).state
room-known kept there client envelope with_one known more =
    let P : Step → Type 0 = λ taken. KnowsRecipients kept taken.state in
    cond_both there _ _ P (λ old. known) (λ new. cond_both (nat_lt (envelope_recipient_count envelope) RECIPIENTS_MAX) _ _ P (λ room. more new) (λ full. known))

local-known : (kept : Kept) (client : Client) (envelope : Envelope) (found : Option ℕ) → AreRecipients kept envelope → IfSome found (λ account. account < length kept.accounts)
    → KnowsRecipients kept (rcpt_local client envelope found).state
local-known kept client envelope None known there = known
local-known kept client envelope (Some account) known there =
    room-known kept (list_any (λ other. other == account) envelope.local) client envelope (record envelope { local = envelope.local ++ account ∷ [] }) known (λ new. record {
      there = All-push (λ (a : ℕ). a < length kept.accounts) envelope.local account known.there there;
      local = distinct_push (λ a b. a == b) envelope.local account known.local new;
      remote = known.remote;
    })

remote-known : (kept : Kept) (client : Client) (envelope : Envelope) (address : Address) → AreRecipients kept envelope → KnowsRecipients kept (rcpt_remote client envelope address).state
remote-known kept client envelope address known =
    room-known kept (list_any (λ other. is_same_remote other address) envelope.remote) client envelope (record envelope { remote = envelope.remote ++ address ∷ [] }) known (λ new. record {
      there = known.there;
      local = known.local;
      remote = distinct_push is_same_remote envelope.remote address known.remote new;
    })

rcpt_to-known : (oracles : Oracles) (client : Client) (envelope : Envelope) (store : StoreState) (path : Option (Option Address)) → AreRecipients store.kept envelope
    → KnowsRecipients store.kept (rcpt_to oracles client envelope store path).state
rcpt_to-known oracles client envelope store None known = known
rcpt_to-known oracles client envelope store (Some None) known = known
rcpt_to-known oracles client envelope store (Some (Some address)) known =
    let P : Step → Type 0 = λ taken. KnowsRecipients store.kept taken.state in
    cond_both (lacks_smtputf8 envelope.smtputf8 (Some address)) _ _ P (λ lacks. known) (λ has. cond_both (is_local store.kept address.domain) _ _ P
    (λ here. local-known store.kept client envelope (find_account oracles.path_of store.kept address) known (found_there oracles.path_of store.kept address))
    (λ elsewhere. remote-known store.kept client envelope address known))

rcpt-known : (oracles : Oracles) (state : State) (store : StoreState) (argument : List ℕ) → KnowsRecipients store.kept state → KnowsRecipients store.kept (rcpt_step oracles state store argument).state
rcpt-known oracles (mail client envelope) store argument known = rcpt_to-known oracles client envelope store (path_read oracles (alone (path_after (codes "TO:") argument))) known
rcpt-known oracles (fresh first) store argument known = tt
rcpt-known oracles (greeted client) store argument known = tt
rcpt-known oracles (collecting client envelope) store argument known = known
rcpt-known oracles ended store argument known = tt

-- ---- MAIL

-- MAIL names no recipients
no_recipients : (kept : Kept) (path : Option Address) (smtputf8 : Bool) → AreRecipients kept (envelope_of path smtputf8)
unfolding IsDistinct
no_recipients kept path smtputf8 = record { there = All-nil (λ account. account < length kept.accounts); local = tt; remote = tt }

mail_to-known : (kept : Kept) (client : Client) (store : StoreState) (smtputf8 : Bool) (path : Option Address) (words : List (List ℕ))
    → KnowsRecipients kept (mail_to client store smtputf8 path words).state
mail_to-known kept client store smtputf8 path words =
    let P : Step → Type 0 = λ taken. KnowsRecipients kept taken.state in
    cond_both (are_malformed words) _ _ P (λ malformed. tt) (λ whole. cond_both (list_any (λ word. is_unknown (parameter_of word)) words) _ _ P (λ unknown. tt)
    (λ known. cond_both (lacks_smtputf8 smtputf8 path) _ _ P (λ lacks. tt)
    (λ has. cond_both (nat_lt store.message_max (sum_by (λ word. announced (parameter_of word)) words)) _ _ P (λ large. tt) (λ small. no_recipients kept path smtputf8))))

mail_by-known : (kept : Kept) (client : Client) (store : StoreState) (path : Option (Option Address)) (words : List (List ℕ)) → KnowsRecipients kept (mail_by client store path words).state
mail_by-known kept client store None words = tt
mail_by-known kept client store (Some path) words = mail_to-known kept client store (list_any (λ word. is_smtputf8 (parameter_of word)) words) path words

mail-known : (oracles : Oracles) (state : State) (store : StoreState) (argument : List ℕ) → KnowsRecipients store.kept state → KnowsRecipients store.kept (mail_step oracles state store argument).state
mail-known oracles (greeted client) store argument known =
    let given = path_after (codes "FROM:") argument in
    mail_by-known store.kept client store (path_read oracles given) (words_after given)
mail-known oracles (fresh first) store argument known = tt
mail-known oracles (mail client envelope) store argument known = known
mail-known oracles (collecting client envelope) store argument known = known
mail-known oracles ended store argument known = tt

-- ---- the other commands

data-known : (kept : Kept) (state : State) → KnowsRecipients kept state → KnowsRecipients kept (data_step state).state
data-known kept (mail client envelope) known =
    let P : Step → Type 0 = λ taken. KnowsRecipients kept taken.state in
    cond_both (envelope_recipient_count envelope == 0) _ _ P (λ none. known) (λ some. known)
data-known kept (fresh first) known = tt
data-known kept (greeted client) known = tt
data-known kept (collecting client envelope) known = known
data-known kept ended known = tt

reset-known : (kept : Kept) (state : State) → KnowsRecipients kept state → KnowsRecipients kept (reset state)
reset-known kept (mail client envelope) known = tt
reset-known kept (fresh first) known = tt
reset-known kept (greeted client) known = tt
reset-known kept (collecting client envelope) known = known
reset-known kept ended known = tt

-- a greeting is accepted, or leaves the state
greeting-known : (kept : Kept) (test : Bool) (a b : Step) → KnowsRecipients kept a.state → KnowsRecipients kept b.state → KnowsRecipients kept (if test then a else b).state
greeting-known kept test a b first second = cond_both test a b (λ taken. KnowsRecipients kept taken.state) (λ is. first) (λ other. second)

-- each command leaves them so
pub step-recipients : (oracles : Oracles) (state : State) (store : StoreState) (word : Verb) (argument : List ℕ) → KnowsRecipients store.kept state
    → KnowsRecipients store.kept (step oracles state store word argument).state
unfolding step
step-recipients oracles state store verb.Ehlo argument known = greeting-known store.kept (is_client argument) _ _ tt known
step-recipients oracles state store verb.Helo argument known = greeting-known store.kept (is_client argument) _ _ tt known
step-recipients oracles state store verb.Mail argument known = mail-known oracles state store argument known
step-recipients oracles state store verb.Rcpt argument known = rcpt-known oracles state store argument known
step-recipients oracles state store verb.Data argument known = data-known store.kept state known
step-recipients oracles state store verb.Rset argument known = reset-known store.kept state known
step-recipients oracles state store verb.Noop argument known = known
step-recipients oracles state store verb.Vrfy argument known = known
step-recipients oracles state store verb.Quit argument known = tt
step-recipients oracles state store verb.Other argument known = known

-- and so does a whole line
past_first-known : (kept : Kept) (state : State) → KnowsRecipients kept state → KnowsRecipients kept (past_first state)
past_first-known kept (fresh first) known = tt
past_first-known kept (greeted client) known = tt
past_first-known kept (mail client envelope) known = known
past_first-known kept (collecting client envelope) known = known
past_first-known kept ended known = tt

pub line-recipients : (oracles : Oracles) (state : State) (store : StoreState) (line : List ℕ) → KnowsRecipients store.kept state
    → KnowsRecipients store.kept (line_step oracles state store line).state
unfolding line_step
line-recipients oracles state store line known =
    greeting-known store.kept (awaits_first state && is_http_request line) _ _ tt
    (step-recipients oracles (past_first state) store (command_of line).verb (command_of line).argument (past_first-known store.kept state known))
