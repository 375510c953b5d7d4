-- What the private functions of a session do.
use Rattle.std.specs.Prelude.{◌≡◌, ◌↔◌, ℕ, List, [], IsTrue, Option, None, Some}
use Rattle.journal_records.specs.Stored.{HasMark, IsStored}
use Rattle.kept_mail.specs.declared.delivery.Delivery.{Delivery}
use Rattle.mail_store.specs.StoreState.{StoreState}
use Rattle.session_core.specs.Oracles.{Oracles}
use Rattle.session_core.specs.declared.desk.Desk.{Desk}
use Rattle.smtp_session.specs.Machine.{Step, end_by, line_step}
use Rattle.smtp_session.specs.Session.{HasRest, SmtpReady, state_of}
use Rattle.smtp_session.specs.Loops.{is_looping}
use Rattle.smtp_session.specs.declared.session.Accepted.{Accepted}
use Rattle.smtp_session.specs.declared.session.Judged.{Judged}
use Rattle.smtp_session.specs.declared.session.SmtpMachine.{SmtpMachine}
use Rattle.smtp_session.specs.declared.states.Client.{Client}
use Rattle.smtp_session.specs.declared.states.SmtpState.{SmtpState}
use Rattle.smtp_session.specs.declared.states.SmtpState.TheVariants as smtp

-- what was found of octets is so
pub record IsJudged (octets : List ℕ) (judged : Judged) : Type 0 where
  pub message : IsTrue judged.is_message ↔ IsStored octets
  pub loops : IsTrue judged.is_message → judged.loops ≡ is_looping octets
  pub mark : IsTrue judged.is_message → HasMark octets judged.mark

-- the marks are those of the octets
pub record AreMarked (delivery : Delivery) : Type 0 where
  pub local : HasMark delivery.local_octets delivery.local_mark
  pub remote : HasMark delivery.remote_octets delivery.remote_mark

-- what is due at the end of data of whose content this was found
abbrev pub due_of : StoreState → Client → Accepted → Step
due_of store client accepted = end_by accepted.judged.is_message accepted.judged.loops store client accepted.delivery

-- the session that is left stands for this state, and has kept nothing; none is left where the session has ended
pub record IsFirst (session : SmtpMachine) (desk : Desk) : Type 0 where
  pub has : HasRest session session.state [] []
  pub ready : SmtpReady session [] desk

abbrev pub state_after : Option SmtpMachine → Option SmtpState
state_after None = None
state_after (Some session) = Some session.state

abbrev pub IsFirstNext : Option SmtpMachine → Desk → Type 0
IsFirstNext None desk = Unit {0}
IsFirstNext (Some session) desk = IsFirst session desk

-- what a line brings
abbrev pub stepped : Oracles → SmtpState → StoreState → List ℕ → Step
stepped oracles state store line = line_step oracles (state_of state) store line

-- lines are read in this state
abbrev pub ReadsLines : SmtpState → Type 0
ReadsLines (smtp.Data session) = ⊥
ReadsLines state = Unit {0}
