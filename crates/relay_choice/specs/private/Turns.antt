-- Turns of a client, by the call that makes them.
use Rattle.std.specs.Prelude.{◌≡◌, ℕ, ◌≤◌, ◌<◌, List, [], ◌∷◌, ◌++◌, length, drop}
use Rattle.relay_choice.specs.declared.replies.Reply.{Reply}
use Rattle.relay_choice.specs.declared.mail_objects.MailObject.{MailObject}
use Rattle.relay_choice.specs.declared.mail_objects.Act.{Act}
use Rattle.relay_choice.specs.declared.mail_objects.Act.TheVariants as act
use Rattle.relay_choice.specs.declared.states.Client.{Client}
use Rattle.relay_choice.specs.declared.states.Awaited.{Awaited}
use Rattle.relay_choice.specs.declared.client.Turn.{Turn}
use Rattle.relay_choice.specs.declared.client.Turn.TheVariants as turn
use Rattle.relay_choice.specs.Relay.{after_acts, sent_to}
use Rattle.relay_choice.specs.Standing.{ClientState, replies_to, run_from, standing_of}

-- all else of a client stays, but for what it awaits
abbrev pub awaiting : ClientState → Awaited → ClientState
awaiting client awaited = record client { awaited = awaited }

-- this is said, and then its reply awaited
abbrev pub SaysOnly : ClientState → (octets : List ℕ) → Awaited → Turn → Type 0
SaysOnly client octets awaited (turn.Goes next acts) = (acts ≡ act.Say octets ∷ []) × (standing_of next ≡ awaiting client awaited)
SaysOnly client octets awaited (turn.Ends acts) = ⊥
SaysOnly client octets awaited turn.Stops = ⊥

-- the first of these mail objects is sent to somebody, if there is one
abbrev pub FirstIsSent : Client → List MailObject → Type 0
FirstIsSent client [] = Unit {0}
FirstIsSent client (mail_object ∷ mail_objects) = 0 < length (sent_to client.offer mail_object)

-- the mail objects from this number up to the other one are settled, as they are sent to nobody
pub record PassesUnsent (client : Client) (from : ℕ) (old new : List Act) (at : ℕ) : Type 0 where
  pub made : List Act
  pub new_is : new ≡ old ++ made
  pub run : (left : List Reply) → run_from (standing_of client) from left ≡ after_acts made (run_from (standing_of client) at left)
  pub first : FirstIsSent client (drop at client.mail_objects)
  pub few : replies_to (drop at client.mail_objects) ≤ replies_to (drop from client.mail_objects)
