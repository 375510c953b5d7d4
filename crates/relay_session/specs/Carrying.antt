-- What a run of a client comes to in the store and on the wire.
use Rattle.std.specs.Prelude.{◌≡◌, ℕ, ◌+◌, List, [], ◌∷◌, ◌++◌, map, Option, Some, slice_get}
use Rattle.std.specs.Option.{option_map_or}
use Rattle.address_grammar.specs.declared.Address.{Address}
use Rattle.journal_records.specs.declared.records.Record.{Record}
use Rattle.journal_records.specs.declared.records.Record.TheVariants as records
use Rattle.mail_store.specs.Following.{records_of}
use Rattle.mail_store.specs.StoreState.{StoreState, with_records}
use Rattle.mail_store.specs.declared.queue.Queued.{Queued}
use Rattle.mail_store.specs.declared.queue.Unsettled.{Unsettled}
use Rattle.relay_choice.specs.Said.{data_text}
use Rattle.relay_choice.specs.declared.mail_objects.Act.{Act as ClientAct}
use Rattle.relay_choice.specs.declared.mail_objects.Act.TheVariants as act
use Rattle.relay_choice.specs.declared.mail_objects.Outcome.{Outcome}
use Rattle.session_core.specs.Acts.{Act, changes, gives}
use Rattle.session_core.specs.Moments.{Moment}
use Rattle.relay_session.specs.MailObjects.{entry_octets}
use Rattle.relay_session.specs.Reporting.{Reports}

-- ---- an entry that is done with

-- each recipient of whom there is an outcome is taken off the queue, by a change of its own
abbrev pub taken_off : (entry : ℕ) → List Unsettled → List Outcome → List (List Record)
taken_off entry [] outcomes = []
taken_off entry (one ∷ others) [] = []
taken_off entry (one ∷ others) (outcome ∷ outcomes) = (records.Settle entry one.index ∷ []) ∷ taken_off entry others outcomes

-- First its report is delivered, and then its recipients are taken off.
pub record IsSettled (path_of : List ℕ → Option (Option Address)) (store : StoreState) (queued : Queued) (outcomes : List Outcome) (told later : List Moment) (made : List (List Record)) (count : ℕ) : Type 0 where
  pub reported : List (List Record)
  pub reports : Reports path_of store queued (entry_octets store.kept queued.entry) outcomes told later reported count
  pub made_are : made ≡ reported ++ taken_off queued.entry queued.unsettled outcomes

-- ---- a run

-- what is given of a client's act, of these messages
abbrev pub said_octets : (messages : List (List ℕ)) → (number : ℕ) → List ℕ
said_octets messages number = option_map_or data_text (slice_get messages number) []

-- what an entry with this outcome comes to, and what follows
pub record Settling (path_of : List ℕ → Option (Option Address)) (store : StoreState) (queue : List Queued) (number : ℕ) (outcomes : List Outcome) (told : List Moment) (acts : List (Act (List ℕ))) (count : ℕ) : Type 0 where
  pub queued : Queued
  pub there : slice_get queue number ≡ Some queued
  pub later : List Moment
  pub made : List (List Record)
  pub own : ℕ
  pub settled : IsSettled path_of store queued outcomes told later made own
  pub others : List (Act (List ℕ))
  pub acts_are : acts ≡ map changes made ++ others
  pub further : ℕ
  pub count_is : count ≡ own + further

-- The acts of a client's run, over a store and with moments told: what it says is given, and what it settles is changed. So many reports are kept.
abbrev pub CarriesActs : (List ℕ → Option (Option Address)) → StoreState → List Queued → (messages : List (List ℕ)) → (told : List Moment) → List ClientAct → List (Act (List ℕ)) → (count : ℕ) → Type 0
CarriesActs path_of store queue messages told [] acts count = (acts ≡ []) × (count ≡ 0)
CarriesActs path_of store queue messages told (act.Say octets ∷ more) acts count =
    (others : List (Act (List ℕ))) × (acts ≡ gives octets ∷ others) × CarriesActs path_of store queue messages told more others count
CarriesActs path_of store queue messages told (act.SayData number ∷ more) acts count =
    (others : List (Act (List ℕ))) × (acts ≡ gives (said_octets messages number) ∷ others) × CarriesActs path_of store queue messages told more others count
CarriesActs path_of store queue messages told (act.Settle number outcomes ∷ more) acts count =
    (one : Settling path_of store queue number outcomes told acts count)
    × CarriesActs path_of (with_records store (records_of one.made)) queue messages one.later more one.others one.further
