-- What a line of a stream, as far as it is there, does.
use Rattle.std.proofs.Common.{◌≡◌, ℕ, List, [], ◌++◌, length, drop, refl, sym, ap, ◌∙◌, Some, None, Option, Ok, Err, append-nil}
use Rattle.std.proofs.Math.Seq.{drop-length}
use Rattle.std.proofs.lemmas.List.Elements.{All-nil}
use Rattle.mail_wire.specs.Framing.{Framed, waiting, whole, too_long, next_line}
use Rattle.mail_wire.specs.declared.outside.Fault.{Fault}
use Rattle.mail_wire.specs.declared.outside.Fault.TheVariants as fault
use Rattle.mail_store.specs.Following.{records_of}
use Rattle.kept_mail.specs.Kept.{name_of}
use Rattle.mail_store.specs.StoreState.{StoreState, with_records}
use Rattle.session_core.specs.Acts.{acts_of}
use Rattle.session_core.specs.Around.{Around}
use Rattle.session_core.specs.Doing.{Does, DoesAll, Replies}
use Rattle.session_core.specs.Oracles.{Oracles, WithOracles}
use Rattle.session_core.specs.Moments.{Moment, IsTold}
use Rattle.session_core.specs.Steps.{Begins, StandsAfter, Steps}
use Rattle.session_core.specs.declared.desk.Desk.{Desk}
use Rattle.session_core.specs.declared.rows.Wants.TheVariants as wants
use Rattle.session_core.proofs.DoingLemmas.{Does-replies, DoesFirst-none}
use Rattle.session_core.proofs.DoneLemmas.{changes_in-acts}
use Rattle.session_core.proofs.FramedSteps.{none_kept}
use Rattle.session_core.proofs.StepLemmas.{StepsBy-turn, StepsBy-fails, StepsBy-waits}
use Rattle.smtp_grammar.specs.Reading.{HasRead}
use Rattle.smtp_session.specs.declared.session.SmtpMachine.{SmtpMachine}
use Rattle.smtp_session.specs.declared.states.SmtpState.{SmtpState}
use Rattle.smtp_session.specs.declared.states.SmtpState.TheVariants as smtp
use Rattle.smtp_session.specs.Machine.{Step, acts_in, ended}
use Rattle.smtp_session.specs.Session.{HasRest, IsUnfinished, KnowsState, Machine, SmtpStands, after_step, greeting, line_octets, line_too_long, line_turn, machine_of, next_turn, reply_octets, smtp_protocol, state_of, state_or_ended}
use Rattle.smtp_session.specs.laws.SmtpLaws.{framed_by, line_step-changes}
use Rattle.smtp_session.specs.private.Steps.{IsFirst, IsFirstNext, ReadsLines, state_after, stepped}

-- ---- states that read lines

-- the rest of such a state is what is kept
rest_is : (session : SmtpMachine) (state : SmtpState) (kept rest : List ℕ) → ReadsLines state → HasRest session state kept rest → rest ≡ kept
rest_is session (smtp.Fresh s) kept rest lines has = has
rest_is session (smtp.Greeted s) kept rest lines has = has
rest_is session (smtp.Mail s) kept rest lines has = has
rest_is session (smtp.Data s) kept rest lines has = absurd lines

-- what is kept is its rest
has_kept : (session : SmtpMachine) (state : SmtpState) (kept : List ℕ) → ReadsLines state → HasRest session state kept kept
has_kept session (smtp.Fresh s) kept lines = refl
has_kept session (smtp.Greeted s) kept lines = refl
has_kept session (smtp.Mail s) kept lines = refl
has_kept session (smtp.Data s) kept lines = absurd lines

-- what was kept has no whole line
pub waits_in : (session : SmtpMachine) (state : SmtpState) (kept : List ℕ) (desk : Desk) → ReadsLines state → IsUnfinished session state kept desk → next_line kept ≡ waiting
waits_in session (smtp.Fresh s) kept desk lines waits = waits
waits_in session (smtp.Greeted s) kept desk lines waits = waits
waits_in session (smtp.Mail s) kept desk lines waits = waits
waits_in session (smtp.Data s) kept desk lines waits = absurd lines

-- ---- a session that begins

-- nothing was read
has_nothing : (session : SmtpMachine) (state : SmtpState) → HasRead session.reader [] → HasRest session state [] []
has_nothing session (smtp.Fresh s) read = refl
has_nothing session (smtp.Greeted s) read = refl
has_nothing session (smtp.Mail s) read = refl
has_nothing session (smtp.Data s) read = read

-- and nothing is kept
unfinished_nothing : (session : SmtpMachine) (state : SmtpState) (desk : Desk) → HasRead session.reader [] → session.reader.limit ≡ desk.store.message_max → IsUnfinished session state [] desk
unfinished_nothing session (smtp.Fresh s) desk read limit = none_kept wants.Line
unfinished_nothing session (smtp.Greeted s) desk read limit = none_kept wants.Line
unfinished_nothing session (smtp.Mail s) desk read limit = none_kept wants.Line
unfinished_nothing session (smtp.Data s) desk read limit = record { octets = []; read = read; limit = limit; nothing_kept = refl }

pub first_of : (session : SmtpMachine) (desk : Desk) → HasRead session.reader [] → session.reader.limit ≡ desk.store.message_max → KnowsState desk.store (state_of session.state) → IsFirst session desk
first_of session desk read limit known = record {
  has = has_nothing session session.state read;
  ready = record { unfinished = unfinished_nothing session session.state desk read limit; known = known };
}

-- want of memory before the greeting
pub Begins-stop : (a : Around) → Begins smtp_protocol SmtpStands a a (Err fault.Memory)
Begins-stop a = record { does = λ oracles are. DoesFirst-none line_octets a fault.Memory (acts_of [] (greeting (name_of a.desk.store.kept))) (λ bad. cc); stands_for = tt }

-- the greeting wasn't given whole
pub Begins-fails : (a b : Around) (met : Fault) (octets : List ℕ) → octets ≡ reply_octets (greeting (name_of a.desk.store.kept)) → Replies a b (Some met) octets
    → Begins smtp_protocol SmtpStands a b (Err met)
Begins-fails a b met octets is replies =
    record { does = λ oracles are. Does-replies line_octets a b (Some met) (greeting (name_of a.desk.store.kept)) (rw (← is) replies); stands_for = tt }

-- ---- the turn of a line

abbrev machine_at : SmtpState → StoreState → List Moment → Machine
machine_at state store moments = record { state = state_of state; store = store; moments = moments }

reads : (oracles : Oracles) (state : SmtpState) (store : StoreState) (moments : List Moment) (octets : List ℕ) → ReadsLines state
    → next_turn oracles (machine_at state store moments) octets ≡ line_turn oracles (machine_at state store moments) (next_line octets)
unfolding next_turn
reads oracles (smtp.Fresh s) store moments octets lines = refl
reads oracles (smtp.Greeted s) store moments octets lines = refl
reads oracles (smtp.Mail s) store moments octets lines = refl
reads oracles (smtp.Data s) store moments octets lines = absurd lines

-- the turn at the head of what was kept and the piece
head_turn : (oracles : Oracles) (session : SmtpMachine) (desk : Desk) (moments : List Moment) (machine : Machine) (kept piece rest : List ℕ) (framed : Framed) → ReadsLines session.state
    → SmtpStands moments session kept desk machine rest → next_line (kept ++ piece) ≡ framed → next_turn oracles machine (rest ++ piece) ≡ line_turn oracles (machine_of session desk moments) framed
head_turn oracles session desk moments machine kept piece rest framed lines stands is =
    rw (stands.machine_is, rest_is session session.state kept rest lines stands.has)
    (reads oracles session.state desk.store moments (kept ++ piece) lines ∙ ap (line_turn oracles (machine_of session desk moments)) is)

-- a reply that was given, or a prefix of it
does_by : (a b : Around) (met : Option Fault) (taken : Step) (octets : List ℕ) → taken.changes ≡ [] → octets ≡ reply_octets taken.reply → Replies a b met octets → Does line_octets a b met (acts_in taken)
does_by a b met taken octets none is replies = rw none (Does-replies line_octets a b met taken.reply (rw (← is) replies))

-- the same of a line's reply
pub Does-line : (a b : Around) (met : Option Fault) (state : SmtpState) (line octets : List ℕ) → WithOracles (λ oracles. octets ≡ reply_octets (stepped oracles state a.desk.store line).reply)
    → Replies a b met octets → WithOracles (λ oracles. Does line_octets a b met (acts_in (stepped oracles state a.desk.store line)))
Does-line a b met state line octets reply replies = λ oracles are.
    does_by a b met (stepped oracles state a.desk.store line) octets (line_step-changes oracles (state_of state) a.desk.store line) (reply oracles are) replies

-- nothing of it was done
pub DoesFirst-no_line : (a : Around) (met : Fault) (state : SmtpState) (line : List ℕ) → (met ≡ fault.Keeper → ⊥)
    → WithOracles (λ oracles. Does line_octets a a (Some met) (acts_in (stepped oracles state a.desk.store line)))
DoesFirst-no_line a met state line fine = λ oracles are. DoesFirst-none line_octets a met (acts_in (stepped oracles state a.desk.store line)) fine

-- the store after acts that were done
pub store_after : (a b : Around) (taken : Step) → DoesAll line_octets a b (acts_in taken) → b.desk.store ≡ with_records a.desk.store (records_of taken.changes)
store_after a b taken does = rw (changes_in-acts {P = List ℕ} taken.changes taken.reply) at does.follows.store

-- what is left stands for the state after a step
stands_after : (a b : Around) (next : Option SmtpMachine) (taken : Step) (more : List Moment) → state_or_ended (state_after next) ≡ taken.state → IsFirstNext next b.desk
    → b.desk.store ≡ with_records a.desk.store (records_of taken.changes) → StandsAfter smtp_protocol SmtpStands more next [] b.desk (after_step a.desk.store more taken) []
stands_after a b None taken more next_is first store = sym next_is
stands_after a b (Some session) taken more next_is first store = record { machine_is = rw (next_is, store) refl; has = first.has }

-- ---- steps

-- a whole line whose step was carried out
pub Steps-line : (a b : Around) (session : SmtpMachine) (kept keeps piece line : List ℕ) (n : ℕ) (next : Option SmtpMachine) → ReadsLines session.state → next_line (kept ++ piece) ≡ whole line (drop n piece)
    → WithOracles (λ oracles. Does line_octets a b None (acts_in (stepped oracles session.state a.desk.store line)))
    → WithOracles (λ oracles. state_or_ended (state_after next) ≡ (stepped oracles session.state a.desk.store line).state) → IsFirstNext next b.desk → keeps ≡ []
    → Steps smtp_protocol SmtpStands a b session kept keeps piece (Ok (record { next = next; used = n }))
Steps-line a b session kept keeps piece line n next lines is does next_is first nothing = rw nothing (record {
  told = [];
  are_told = All-nil (IsTold a.clock);
  steps = λ oracles are more machine rest has.
      let taken = stepped oracles session.state a.desk.store line in
      StepsBy-turn smtp_protocol SmtpStands oracles (framed_by oracles) a b (record { next = next; used = n }) [] piece more [] machine (rest ++ piece)
      (record { parts = acts_in taken; after = after_step a.desk.store more taken; rest = drop n piece })
      (head_turn oracles session a.desk more machine kept piece rest (whole line (drop n piece)) lines has is) (does oracles are)
      (stands_after a b next taken more (next_is oracles are) first (store_after a b taken (does oracles are))) refl;
})

-- a whole line in whose step a fault was met
pub Steps-line_fails : (a b : Around) (session : SmtpMachine) (kept keeps piece line : List ℕ) (n : ℕ) (met : Fault) → ReadsLines session.state → next_line (kept ++ piece) ≡ whole line (drop n piece)
    → WithOracles (λ oracles. Does line_octets a b (Some met) (acts_in (stepped oracles session.state a.desk.store line)))
    → Steps smtp_protocol SmtpStands a b session kept keeps piece (Err met)
Steps-line_fails a b session kept keeps piece line n met lines is does = record {
  told = [];
  are_told = All-nil (IsTold a.clock);
  steps = λ oracles are more machine rest has.
      let taken = stepped oracles session.state a.desk.store line in
      StepsBy-fails smtp_protocol SmtpStands oracles (framed_by oracles) a b keeps piece more met machine (rest ++ piece)
      (record { parts = acts_in taken; after = after_step a.desk.store more taken; rest = drop n piece })
      (head_turn oracles session a.desk more machine kept piece rest (whole line (drop n piece)) lines has is) (does oracles are);
}

-- a line that is too long
pub Steps-long : (a b : Around) (session : SmtpMachine) (kept keeps piece over : List ℕ) → ReadsLines session.state → next_line (kept ++ piece) ≡ too_long over → Replies a b None (reply_octets line_too_long)
    → Steps smtp_protocol SmtpStands a b session kept keeps piece (Ok (record { next = None; used = length piece }))
Steps-long a b session kept keeps piece over lines is replies = record {
  told = [];
  are_told = All-nil (IsTold a.clock);
  steps = λ oracles are more machine rest has.
      StepsBy-turn smtp_protocol SmtpStands oracles (framed_by oracles) a b (record { next = None; used = length piece }) keeps piece more over machine (rest ++ piece)
      (record { parts = acts_of [] line_too_long; after = record { state = ended; store = a.desk.store; moments = more }; rest = over })
      (head_turn oracles session a.desk more machine kept piece rest (too_long over) lines has is) (Does-replies line_octets a b None line_too_long replies)
      refl (rw (drop-length piece, append-nil over) refl);
}

-- a line that is too long, where the reply wasn't given
pub Steps-long_fails : (a b : Around) (session : SmtpMachine) (kept keeps piece over : List ℕ) (met : Fault) → ReadsLines session.state → next_line (kept ++ piece) ≡ too_long over
    → Replies a b (Some met) (reply_octets line_too_long) → Steps smtp_protocol SmtpStands a b session kept keeps piece (Err met)
Steps-long_fails a b session kept keeps piece over met lines is replies = record {
  told = [];
  are_told = All-nil (IsTold a.clock);
  steps = λ oracles are more machine rest has.
      StepsBy-fails smtp_protocol SmtpStands oracles (framed_by oracles) a b keeps piece more met machine (rest ++ piece)
      (record { parts = acts_of [] line_too_long; after = record { state = ended; store = a.desk.store; moments = more }; rest = over })
      (head_turn oracles session a.desk more machine kept piece rest (too_long over) lines has is) (Does-replies line_octets a b (Some met) line_too_long replies);
}

-- no whole line: all octets are kept
pub Steps-wait : (a : Around) (session : SmtpMachine) (kept keeps piece : List ℕ) → ReadsLines session.state → keeps ≡ kept ++ piece
    → Steps smtp_protocol SmtpStands a a session kept keeps piece (Ok (record { next = Some session; used = length piece }))
Steps-wait a session kept keeps piece lines same = record {
  told = [];
  are_told = All-nil (IsTold a.clock);
  steps = λ oracles are more machine rest has.
      let is = rest_is session session.state kept rest lines has.has in
      StepsBy-waits smtp_protocol SmtpStands oracles a (record { next = Some session; used = length piece }) keeps piece more keeps machine (rest ++ piece)
      (record { machine_is = has.machine_is; has = has_kept session session.state keeps lines }) (rw (drop-length piece, append-nil keeps, is, same) refl);
}
