-- How many replies a client still takes.
use Rattle.std.proofs.Common.{◌≡◌, ℕ, ◌+◌, ◌<◌, ◌≤◌, List, [], ◌∷◌, Result, Ok, Err, IfOk, length, get_or, drop, ap, sym, subst, ◌∙◌, arith}
use Rattle.std.proofs.lemmas.List.{length-drop}
use Rattle.std.proofs.lemmas.List.Sums.{sum_by-cons}
use Rattle.mail_wire.specs.declared.values.Memory.{Memory}
use Rattle.relay_choice.specs.declared.mail_objects.Act.{Act}
use Rattle.relay_choice.specs.declared.mail_objects.MailObject.{MailObject}
use Rattle.relay_choice.specs.declared.states.Awaited.{Awaited}
use Rattle.relay_choice.specs.declared.states.Client.{Client}
use Rattle.relay_choice.specs.declared.client.Turn.{Turn}
use Rattle.relay_choice.specs.declared.client.Turn.TheVariants as turn
use Rattle.relay_choice.specs.Plans.{is_sent}
use Rattle.relay_choice.specs.Relay.{plan_of, sent_to}
use Rattle.relay_choice.specs.Standing.{ClientState, HasFewerLeft, first_left, mail_object_left, replies_by, replies_left, replies_to}
use Rattle.relay_choice.specs.private.Turns.{PassesUnsent, SaysOnly, awaiting}
use Rattle.relay_choice.proofs.SettlingLemmas.{filter_short}
use Rattle.relay_choice.proofs.TurnLemmas.{letter_first}

-- fewer than so many are fewer than more
pub fewer_than : (count other : ℕ) (advance : Result Turn Memory) → count ≤ other → IfOk advance (HasFewerLeft count) → IfOk advance (HasFewerLeft other)
fewer_than count other (Ok (turn.Goes next acts)) le fewer = omega (arith, le, fewer)
fewer_than count other (Ok (turn.Ends acts)) le fewer = tt
fewer_than count other (Ok turn.Stops) le fewer = tt
fewer_than count other (Err fault) le fewer = fewer

-- by what is awaited
pub fewer_by : (client : ClientState) (awaited : Awaited) (advance : Result Turn Memory) → client.awaited ≡ awaited → IfOk advance (HasFewerLeft (replies_by awaited client))
    → IfOk advance (HasFewerLeft (replies_left client))
fewer_by client awaited advance is fewer = subst (λ (a : Awaited). IfOk advance (HasFewerLeft (replies_by a client))) (sym is) fewer

-- where something is said only
pub said_fewer : (client : ClientState) (octets : List ℕ) (awaited : Awaited) (count : ℕ) (advance : Result Turn Memory) → IfOk advance (SaysOnly client octets awaited)
    → replies_by awaited (awaiting client awaited) < count → IfOk advance (HasFewerLeft count)
said_fewer client octets awaited count (Ok (turn.Goes next acts)) said lt = subst (λ (s : ClientState). replies_left s < count) (sym said.1) lt
said_fewer client octets awaited count (Ok (turn.Ends acts)) said lt = tt
said_fewer client octets awaited count (Ok turn.Stops) said lt = tt
said_fewer client octets awaited count (Err fault) said lt = said

first_less : (one other : MailObject → ℕ) → ((mail_object : MailObject) → one mail_object < other mail_object) → (mail_objects : List MailObject) → 0 < length mail_objects → first_left one mail_objects < first_left other mail_objects
first_less one other less [] some = absurd (omega (arith, some))
first_less one other less (mail_object ∷ mail_objects) some = let lt = less mail_object in omega (arith, lt)

-- fewer replies to the mail object that a client is at are fewer in all
pub mail_object_less : (client : ClientState) (one other : MailObject → ℕ) → client.at < length client.mail_objects → ((mail_object : MailObject) → one mail_object < other mail_object) → mail_object_left client one < mail_object_left client other
mail_object_less client one other at less =
    let left = length-drop client.at client.mail_objects in
    first_less one other less (drop client.at client.mail_objects) (omega (arith, left))

-- replies to the mail object that stands there
pub mail_object_counts : (client : ClientState) (x : MailObject) (count : MailObject → ℕ) → client.at < length client.mail_objects → x ≡ get_or client.mail_objects client.at x
    → mail_object_left client count ≡ count x + replies_to (drop (client.at + 1) client.mail_objects)
mail_object_counts client x count lt is = ap (first_left count) (letter_first client.mail_objects client.at x lt is)

pub here_less : (client : ClientState) (x : MailObject) (one other : MailObject → ℕ) → client.at < length client.mail_objects → x ≡ get_or client.mail_objects client.at x → one x < other x
    → mail_object_left client one < mail_object_left client other
here_less client x one other lt is less =
    let left = mail_object_counts client x one lt is in
    let more = mail_object_counts client x other lt is in
    omega (arith, left, more, less)

pub here_few : (client : ClientState) (x : MailObject) (one other : MailObject → ℕ) → client.at < length client.mail_objects → x ≡ get_or client.mail_objects client.at x → one x ≤ other x
    → mail_object_left client one ≤ mail_object_left client other
here_few client x one other lt is few =
    let left = mail_object_counts client x one lt is in
    let more = mail_object_counts client x other lt is in
    omega (arith, left, more, few)

-- the first mail object that is sent to somebody, from a number on
pub begins_fewer : (client : Client) (from at : ℕ) (old new : List Act) (x : MailObject) → PassesUnsent client from old new at → at < length client.mail_objects → x ≡ get_or client.mail_objects at x
    → first_left (λ mail_object. length (sent_to client.offer mail_object) + 3) (drop at client.mail_objects) < replies_to (drop from client.mail_objects) + 1
begins_fewer client from at old new x passed lt is =
    let here = letter_first client.mail_objects at x lt is in
    let mail : first_left (λ mail_object. length (sent_to client.offer mail_object) + 3) (drop at client.mail_objects) ≡ length (sent_to client.offer x) + 3 + replies_to (drop (at + 1) client.mail_objects) =
    ap (first_left (λ mail_object. length (sent_to client.offer mail_object) + 3)) here in
    let all : replies_to (drop at client.mail_objects) ≡ length x.recipients + 3 + replies_to (drop (at + 1) client.mail_objects) =
    ap replies_to here ∙ sum_by-cons (λ (mail_object : MailObject). length mail_object.recipients + 3) x (drop (at + 1) client.mail_objects) in
    let short = filter_short (λ recipient. is_sent (plan_of client.offer x recipient)) x.recipients in
    omega (arith, mail, all, short, passed.few)
