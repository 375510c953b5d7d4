-- What a client still does, by what it awaits. It ends with QUIT (RFC 5321, 4.1.1.10).
use Rattle.std.specs.Prelude.{◌≡◌, ℕ, ◌+◌, ◌<◌, List, [], ◌∷◌, ◌++◌, length, drop, map, None}
use Rattle.std.specs.List.{All, sum_by}
use Rattle.relay_choice.specs.declared.plans.Offer.{Offer}
use Rattle.relay_choice.specs.declared.replies.Reply.{Reply}
use Rattle.relay_choice.specs.declared.mail_objects.MailObject.{MailObject}
use Rattle.relay_choice.specs.declared.mail_objects.Act.{Act}
use Rattle.relay_choice.specs.declared.mail_objects.Act.TheVariants as act
use Rattle.relay_choice.specs.declared.states.Client.{Client}
use Rattle.relay_choice.specs.declared.states.Awaited.{Awaited}
use Rattle.relay_choice.specs.declared.states.Awaited.TheVariants as awaited
use Rattle.relay_choice.specs.declared.client.Turn.{Turn}
use Rattle.relay_choice.specs.declared.client.Turn.TheVariants as turn
use Rattle.relay_choice.specs.Said.{quit_line}
use Rattle.relay_choice.specs.Relay.{Run, Transaction, waits, finished, stopped, after_acts, sent_after, sent_to, outcome_by, ended}
use Rattle.relay_choice.specs.Relay.{reset_transaction, end_transaction, data_transaction, answer_transaction, rcpt_transaction, mail_transaction, followed, mail_objects_run, ehlo_run, relay_of}

-- what a client keeps
pub record ClientState : Type 0 where
  pub name : List ℕ
  pub mail_objects : List MailObject
  pub at : ℕ
  pub offer : Offer
  pub awaited : Awaited
  pub answers : List ℕ

-- The state of a client, by its values.
abbrev pub standing_of : Client → ClientState
standing_of client = record { name = client.name; mail_objects = client.mail_objects; at = client.at; offer = client.offer; awaited = client.awaited; answers = client.answers }

-- what comes of the mail object that a client is at
abbrev pub transaction_at : ClientState → Awaited → MailObject → List Reply → Transaction
transaction_at client awaited.Greeting mail_object replies = ended [] waits
transaction_at client awaited.Ehlo mail_object replies = ended [] waits
transaction_at client awaited.Mail mail_object replies = mail_transaction client.offer client.at (sent_to client.offer mail_object) replies
transaction_at client (awaited.Rcpt following) mail_object replies =
    answer_transaction (rcpt_transaction client.offer client.at (sent_after client.offer mail_object following)) client.answers replies
transaction_at client awaited.Data mail_object replies = data_transaction client.at client.answers replies
transaction_at client awaited.End mail_object replies = end_transaction client.answers replies
transaction_at client awaited.Reset mail_object replies = reset_transaction (map (outcome_by None) client.answers) replies

-- A client is at the first of these mail objects, of which this comes. (There is one.)
abbrev pub first_run : ClientState → (MailObject → Transaction) → List MailObject → Run
first_run client exchange [] = record { acts = []; end = waits }
first_run client exchange (mail_object ∷ mail_objects) = followed client.offer client.at mail_object (exchange mail_object) (mail_objects_run client.offer (client.at + 1) mail_objects)

-- what comes of the mail object that a client is at, and of those after it
abbrev pub mail_object_run : ClientState → (MailObject → Transaction) → Run
mail_object_run client exchange = first_run client exchange (drop client.at client.mail_objects)

-- what comes of the mail objects from this number on
abbrev pub run_from : ClientState → (at : ℕ) → List Reply → Run
run_from client at replies = mail_objects_run client.offer at (drop at client.mail_objects) replies

-- What comes of the rest of a run over these replies, by what the client awaits.
abbrev pub rest_by : Awaited → ClientState → List Reply → Run
rest_by awaited.Greeting client replies = relay_of client.name client.mail_objects replies
rest_by awaited.Ehlo client replies = ehlo_run client.mail_objects replies
rest_by awaited.Mail client replies = mail_object_run client (λ mail_object. transaction_at client awaited.Mail mail_object replies)
rest_by (awaited.Rcpt following) client replies = mail_object_run client (λ mail_object. transaction_at client (awaited.Rcpt following) mail_object replies)
rest_by awaited.Data client replies = mail_object_run client (λ mail_object. transaction_at client awaited.Data mail_object replies)
rest_by awaited.End client replies = mail_object_run client (λ mail_object. transaction_at client awaited.End mail_object replies)
rest_by awaited.Reset client replies = mail_object_run client (λ mail_object. transaction_at client awaited.Reset mail_object replies)

-- what a client still does over all replies that are to come
abbrev pub rest_of : Client → List Reply → Run
rest_of client replies = rest_by client.awaited (standing_of client) replies

-- This is done, whatever replies follow, and no reply stops it.
abbrev pub RunsOn : (List Reply → Run) → Turn → Type 0
RunsOn run (turn.Goes next acts) = (left : List Reply) → run left ≡ after_acts acts (rest_of next left)
RunsOn run (turn.Ends acts) = (left : List Reply) → run left ≡ record { acts = acts; end = finished }
RunsOn run turn.Stops = ⊥

-- A reply was read, and then this is done, whatever replies follow; or the reply stops the run.
abbrev pub ComesTo : Reply → (List Reply → Run) → Turn → Type 0
ComesTo reply run (turn.Goes next acts) = RunsOn run (turn.Goes next acts)
ComesTo reply run (turn.Ends acts) = RunsOn run (turn.Ends acts)
ComesTo reply run turn.Stops = (left : List Reply) → run left ≡ record { acts = []; end = stopped reply }

-- ---- what comes last

-- a mail object is settled
abbrev pub IsSettle : Act → Type 0
IsSettle (act.Say octets) = ⊥
IsSettle (act.SayData number) = ⊥
IsSettle (act.Settle number outcomes) = Unit {0}

-- mail objects are settled, and then QUIT is said
pub record TakesLeave (acts : List Act) : Type 0 where
  pub settles : List Act
  pub are : All IsSettle settles
  pub acts_are : acts ≡ settles ++ act.Say quit_line ∷ []

-- where a turn ends the run, it takes leave
abbrev pub LeavesBy : Turn → Type 0
LeavesBy (turn.Goes next acts) = Unit {0}
LeavesBy (turn.Ends acts) = TakesLeave acts
LeavesBy turn.Stops = Unit {0}

-- ---- how many replies that takes

-- to mail objects come no more than one to MAIL, one to RCPT for each recipient, one to DATA and one to their end
abbrev pub replies_to : List MailObject → ℕ
replies_to mail_objects = sum_by (λ (mail_object : MailObject). length mail_object.recipients + 3) mail_objects

-- How many replies come at most to mail objects of which the first awaits so many.
abbrev pub first_left : (MailObject → ℕ) → List MailObject → ℕ
first_left count [] = 0
first_left count (mail_object ∷ mail_objects) = count mail_object + replies_to mail_objects

-- How many replies come at most to the mail objects from the client's on, where that one awaits so many.
abbrev pub mail_object_left : ClientState → (MailObject → ℕ) → ℕ
mail_object_left client count = first_left count (drop client.at client.mail_objects)

-- How many replies a client still reads at most, by what it awaits.
abbrev pub replies_by : Awaited → ClientState → ℕ
replies_by awaited.Greeting client = replies_to client.mail_objects + 2
replies_by awaited.Ehlo client = replies_to client.mail_objects + 1
replies_by awaited.Mail client = mail_object_left client (λ mail_object. length (sent_to client.offer mail_object) + 3)
replies_by (awaited.Rcpt following) client = mail_object_left client (λ mail_object. length (sent_after client.offer mail_object following) + 3)
replies_by awaited.Data client = mail_object_left client (λ mail_object. 2)
replies_by awaited.End client = mail_object_left client (λ mail_object. 1)
replies_by awaited.Reset client = mail_object_left client (λ mail_object. 1)

-- how many replies a client still takes at most
abbrev pub replies_left : ClientState → ℕ
replies_left client = replies_by client.awaited client

-- where the client goes on, it takes fewer than so many
abbrev pub HasFewerLeft : (count : ℕ) → Turn → Type 0
HasFewerLeft count (turn.Goes next acts) = replies_left (standing_of next) < count
HasFewerLeft count (turn.Ends acts) = Unit {0}
HasFewerLeft count turn.Stops = Unit {0}
