-- What the data of a stream, as far as they are there, do.
use Rattle.std.proofs.Common.{◌≡◌, ℕ, List, [], ◌∷◌, ◌++◌, length, drop, refl, ap, Some, None, Option, Ok, Err, subst, append-nil}
use Rattle.std.specs.Option.{option_map}
use Rattle.std.proofs.Math.Seq.{drop-length}
use Rattle.std.proofs.lemmas.List.Elements.{All-nil, All-from_recursion}
use Rattle.mail_wire.specs.Dots.{unstuffed}
use Rattle.mail_wire.specs.Lines.{Cut}
use Rattle.mail_wire.specs.declared.outside.Fault.{Fault}
use Rattle.mail_store.specs.StoreState.{StoreState}
use Rattle.session_core.specs.Around.{Around}
use Rattle.session_core.specs.Doing.{Does}
use Rattle.session_core.specs.Oracles.{Oracles, WithOracles}
use Rattle.session_core.specs.Moments.{IsTold, Moment}
use Rattle.session_core.specs.Steps.{Steps}
use Rattle.session_core.specs.declared.desk.Desk.{Desk}
use Rattle.session_core.proofs.StepLemmas.{StepsBy-turn, StepsBy-fails, StepsBy-waits}
use Rattle.smtp_grammar.specs.Data.{data_cut}
use Rattle.smtp_grammar.specs.Reading.{DataHaveEnded, HasRead, TakesOfPiece}
use Rattle.smtp_grammar.specs.declared.data.DataReader.{DataReader}
use Rattle.smtp_session.specs.declared.session.SmtpMachine.{SmtpMachine}
use Rattle.smtp_session.specs.declared.states.Data.{Data}
use Rattle.smtp_session.specs.declared.states.Greeted.{Greeted}
use Rattle.smtp_session.specs.declared.states.Smtp.{Smtp}
use Rattle.smtp_session.specs.declared.states.SmtpState.TheVariants as smtp
use Rattle.smtp_session.specs.Machine.{Step, acts_in, end_data, greeted}
use Rattle.smtp_session.specs.Session.{Machine, SmtpStands, after_step, data_turn, line_octets, machine_of, next_turn, smtp_protocol}
use Rattle.smtp_session.specs.laws.SmtpLaws.{framed_by}
use Rattle.smtp_session.specs.private.Steps.{IsFirst}
use Rattle.smtp_session.proofs.IntakeLemmas.{data_forget}
use Rattle.smtp_session.proofs.LineSteps.{store_after}

-- a session that takes data
abbrev pub taking : Smtp Data → DataReader → SmtpMachine
taking session reader = record { state = smtp.Data session; reader = reader }

-- what was found in a piece is this
pub takes_as : (reader next : DataReader) (piece : List ℕ) (found other : Option ℕ) → found ≡ other → ((octets : List ℕ) → HasRead reader octets → TakesOfPiece next octets piece found)
    → (octets : List ℕ) → HasRead reader octets → TakesOfPiece next octets piece other
takes_as reader next piece found other same takes octets read = subst (λ (f : Option ℕ). TakesOfPiece next octets piece f) same (takes octets read)

-- ---- the turn of data

-- what data bring that say these octets
abbrev pub finished : Oracles → Smtp Data → StoreState → Moment → List ℕ → Step
finished oracles session store moment octets = end_data oracles store session.state.client session.state.envelope moment octets

-- data are read up to their end
head_turn : (oracles : Oracles) (session : Smtp Data) (reader : DataReader) (desk : Desk) (moments : List Moment) (machine : Machine) (kept octets rest : List ℕ) (cut : Cut)
    → SmtpStands moments (taking session reader) kept desk machine rest → data_cut octets ≡ Some cut
    → next_turn oracles machine octets ≡ Some (data_turn oracles (machine_of (taking session reader) desk moments) session.state.client session.state.envelope cut)
unfolding next_turn
head_turn oracles session reader desk moments machine kept octets rest cut stands is =
    rw stands.machine_is (ap (option_map (data_turn oracles (machine_of (taking session reader) desk moments) session.state.client session.state.envelope)) is)

-- whatever becomes of data, the client stands greeted
finished_greeted : (oracles : Oracles) (session : Smtp Data) (store : StoreState) (moment : Moment) (octets : List ℕ)
    → (finished oracles session store moment octets).state ≡ greeted session.state.client
finished_greeted oracles session store moment octets = data_forget oracles store session.state.client session.state.envelope moment octets

-- ---- steps

-- data whose end was carried out
pub Steps-data : (a b : Around) (session : Smtp Data) (reader ended : DataReader) (kept keeps piece : List ℕ) (n : ℕ) (moment : Moment) (greets : Smtp Greeted) (next : SmtpMachine) → IsTold a.clock moment
    → ((octets : List ℕ) → HasRead reader octets → TakesOfPiece ended octets piece (Some n))
    → WithOracles (λ oracles. (lines : List ℕ) → DataHaveEnded ended lines → Does line_octets a b None (acts_in (finished oracles session a.desk.store moment (unstuffed lines))))
    → greets.state.client ≡ session.state.client → next.state ≡ smtp.Greeted greets → IsFirst next b.desk → keeps ≡ []
    → Steps smtp_protocol SmtpStands a b (taking session reader) kept keeps piece (Ok (record { next = Some next; used = n }))
Steps-data a b session reader ended kept keeps piece n moment greets next told takes does client state_is first nothing = rw nothing (record {
  told = moment ∷ [];
  are_told = All-from_recursion (IsTold a.clock) (moment ∷ []) (told, tt);
  steps = λ oracles are more machine rest has.
      let found = takes rest has.has in
      let taken = finished oracles session a.desk.store moment (unstuffed found.line) in
      let done = does oracles are found.line found.ended in
      let store = store_after a b taken done in
      StepsBy-turn smtp_protocol SmtpStands oracles (framed_by oracles) a b (record { next = Some next; used = n }) [] piece more [] machine (rest ++ piece)
      (record { parts = acts_in taken; after = after_step a.desk.store more taken; rest = drop n piece })
      (head_turn oracles session reader a.desk (moment ∷ more) machine kept (rest ++ piece) rest (record { line = found.line; rest = drop n piece }) has found.cut) done
      (record { machine_is = rw (finished_greeted oracles session a.desk.store moment (unstuffed found.line), state_is, client, store) refl; has = first.has }) refl;
})

-- data in whose end a fault was met
pub Steps-data_fails : (a b : Around) (session : Smtp Data) (reader ended : DataReader) (kept keeps piece : List ℕ) (n : ℕ) (moment : Moment) (met : Fault) → IsTold a.clock moment
    → ((octets : List ℕ) → HasRead reader octets → TakesOfPiece ended octets piece (Some n))
    → WithOracles (λ oracles. (lines : List ℕ) → DataHaveEnded ended lines → Does line_octets a b (Some met) (acts_in (finished oracles session a.desk.store moment (unstuffed lines))))
    → Steps smtp_protocol SmtpStands a b (taking session reader) kept keeps piece (Err met)
Steps-data_fails a b session reader ended kept keeps piece n moment met told takes does = record {
  told = moment ∷ [];
  are_told = All-from_recursion (IsTold a.clock) (moment ∷ []) (told, tt);
  steps = λ oracles are more machine rest has.
      let found = takes rest has.has in
      let taken = finished oracles session a.desk.store moment (unstuffed found.line) in
      StepsBy-fails smtp_protocol SmtpStands oracles (framed_by oracles) a b keeps piece more met machine (rest ++ piece)
      (record { parts = acts_in taken; after = after_step a.desk.store more taken; rest = drop n piece })
      (head_turn oracles session reader a.desk (moment ∷ more) machine kept (rest ++ piece) rest (record { line = found.line; rest = drop n piece }) has found.cut)
      (does oracles are found.line found.ended);
}

-- no end: the reader has what is needed
pub Steps-data_wait : (a : Around) (session : Smtp Data) (reader next : DataReader) (kept keeps piece : List ℕ) → ((octets : List ℕ) → HasRead reader octets → TakesOfPiece next octets piece None)
    → Steps smtp_protocol SmtpStands a a (taking session reader) kept keeps piece (Ok (record { next = Some (taking session next); used = length piece }))
Steps-data_wait a session reader next kept keeps piece takes = record {
  told = [];
  are_told = All-nil (IsTold a.clock);
  steps = λ oracles are more machine rest has.
      StepsBy-waits smtp_protocol SmtpStands oracles a (record { next = Some (taking session next); used = length piece }) keeps piece more (rest ++ piece) machine (rest ++ piece)
      (record { machine_is = has.machine_is; has = (takes rest has.has).1 }) (rw (drop-length piece, append-nil (rest ++ piece)) refl);
}
