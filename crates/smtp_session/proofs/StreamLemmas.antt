-- What is kept and told over a whole stream.
use Rattle.std.proofs.Common.{◌≡◌, ◌≢◌, ℕ, zero, suc, ◌≤◌, List, [], ◌∷◌, ◌++◌, ◌==◌, Bool, false, not, eq-eqb, length, arith, refl, sym, ap, subst, ◌∙◌, Option, Some, None, codes, inl, inr, is_some, append-nil}
use Rattle.std.specs.Prelude.{drop, slice_index_or}
use Rattle.std.specs.List.{AllByRecursion}
use Rattle.std.specs.Fmt.{decimal}
use Rattle.std.specs.Option.{option_map}
use Rattle.std.proofs.lemmas.Bool.{cond_both}
use Rattle.std.proofs.lemmas.Option.{same_Some, none-some}
use Rattle.mail_wire.specs.Framing.{Framed, waiting, whole, too_long, next_line}
use Rattle.mail_wire.specs.Lines.{Cut}
use Rattle.session_core.specs.Turns.{Turn, all_turns}
use Rattle.session_core.proofs.TurnsLemmas.{all_turns-stop, all_turns-go}
use Rattle.mail_wire.specs.Dots.{unstuffed}
use Rattle.ace_domains.proofs.FormLemmas.{form_name}
use Rattle.kept_mail.specs.declared.delivery.Delivery.{Delivery}
use Rattle.journal_records.specs.declared.records.Record.{Record}
use Rattle.session_core.specs.Acts.{Act, gives, changes, acts_of}
use Rattle.mail_store.specs.Answers.{IsFold}
use Rattle.mail_store.specs.Changing.{delivery_refusal}
use Rattle.kept_mail.specs.Deliveries.{delivered, has_large_octets}
use Rattle.kept_mail.specs.Kept.{name_of}
use Rattle.mail_store.specs.StoreState.{StoreState, with_records}
use Rattle.smtp_grammar.specs.Data.{data_cut}
use Rattle.smtp_session.specs.declared.states.Client.{Client}
use Rattle.smtp_session.specs.declared.states.Envelope.{Envelope}
use Rattle.smtp_session.specs.Intake.{AreRecipients, IsKeptOnce, KeepsAccepted, KnowsRecipients, Keeps, NoMore, Says, acceptance, stored_line}
use Rattle.smtp_session.specs.Machine.{State, fresh, greeted, mail, collecting, ended, Step, acts_in, delivery_of, end_by, end_data, line_step}
use Rattle.smtp_session.specs.Loops.{is_looping}
use Rattle.session_core.specs.Oracles.{Oracles}
use Rattle.smtp_session.specs.Session.{Machine, after_step, data_turn, later_moments, line_too_long, line_turn, next_moment, next_turn, start_of, turn_from, turns_of}
use Rattle.session_core.specs.Desks.{IsStoreName}
use Rattle.session_core.specs.Moments.{Moment}
use Rattle.smtp_session.proofs.IntakeLemmas.{HaveInboxes, delivered_once, have_inboxes, inboxes_after_all}
use Rattle.smtp_session.proofs.KnownRecipients.{line-recipients}
use Rattle.smtp_session.specs.laws.SaidLines.{SaidLines, line_said}
use Rattle.smtp_session.specs.laws.SmtpLaws.{framed_by, named_after, line_step-changes}

-- ---- no other line tells that a message is stored

abbrev IsOther : List ℕ → Type 0
IsOther line = line ≢ stored_line

-- an octet differs
differs_at : (k : ℕ) (line : List ℕ) → (slice_index_or line k 0 == slice_index_or stored_line k 0) ≡ false → IsOther line
differs_at k line other same = absurd (cc (sym other ∙ eq-eqb _ _ (ap (λ l. slice_index_or l k 0) same)))

-- no name has a space
no_name : IsStoreName (codes "2.0.0 stored") → ⊥
no_name (inl text) = let is = (form_name (codes "2.0.0 stored") (codes "2.0.0 stored") text).octets in cc is
no_name (inr local) = let two : 50 ≡ 108 = ap (λ l. slice_index_or l 0 0) local in omega (arith, two)

no_greeting : (name : List ℕ) → IsStoreName name → IsOther (codes "250 " ++ name)
no_greeting name named same = no_name (subst IsStoreName (ap (drop 4) same) named)

other_lines : (store : StoreState) → IsStoreName (name_of store.kept) → SaidLines IsOther store
other_lines store named = record {
  greeting = no_greeting (name_of store.kept) named;
  first_offer = differs_at 3 (codes "250-" ++ name_of store.kept) refl;
  eight_bits = differs_at 3 _ refl;
  size = differs_at 3 (codes "250-SIZE " ++ decimal store.message_max) refl;
  smtputf8 = differs_at 3 _ refl;
  codes_offered = differs_at 4 _ refl;
  fine = differs_at 10 _ refl;
  path_taken = differs_at 6 _ refl;
  recipient_taken = differs_at 6 _ refl;
  data_wanted = differs_at 0 _ refl;
  unverified = differs_at 2 _ refl;
  goodbye = differs_at 1 _ refl;
  full = differs_at 0 _ refl;
  unknown = differs_at 0 _ refl;
  request = differs_at 0 _ refl;
  bad = differs_at 0 _ refl;
  disordered = differs_at 0 _ refl;
  nobody = differs_at 0 _ refl;
  large = differs_at 0 _ refl;
  plain_only = differs_at 0 _ refl;
  parameter = differs_at 0 _ refl;
}

-- ---- one turn

-- what stays through a session
record Stays (machine : Machine) : Type 0 where
  inboxes : HaveInboxes machine.store.kept
  recipients : KnowsRecipients machine.store.kept machine.state
  named : IsStoreName (name_of machine.store.kept)

-- what one turn brings
data Brings (store : StoreState) (turn : Turn Machine (Act (List ℕ))) : Type 0 where
  Answers : (reply : List (List ℕ)) → AllByRecursion IsOther reply → turn.parts ≡ acts_of [] reply → turn.after.store ≡ store → Brings store turn
  Stores : (delivery : Delivery) (records : List Record) → IsKeptOnce store.kept (with_records store records).kept delivery
      → turn.parts ≡ changes records ∷ gives stored_line ∷ [] → turn.after.store ≡ with_records store records → Brings store turn

record IsTurn (store : StoreState) (turn : Turn Machine (Act (List ℕ))) : Type 0 where
  brings : Brings store turn
  stays : Stays turn.after

-- what a line does
command_turn : (oracles : Oracles) (machine : Machine) (line rest : List ℕ) → Stays machine
    → let taken = line_step oracles machine.state machine.store line in
    IsTurn machine.store (record { parts = acts_in taken; after = after_step machine.store machine.moments taken; rest = rest })
command_turn oracles machine line rest stays =
    let taken = line_step oracles machine.state machine.store line in
    let none = line_step-changes oracles machine.state machine.store line in
    rw none
    (record {
      brings = Answers taken.reply (line_said IsOther oracles machine.state machine.store line (other_lines machine.store stays.named)) refl refl;
      stays = record {
        inboxes = stays.inboxes;
        recipients = line-recipients oracles machine.state machine.store line stays.recipients;
        named = stays.named;
      };
    })

-- a line
line_brings : (oracles : Oracles) (machine : Machine) (framed : Framed) (turn : Turn Machine (Act (List ℕ))) → Stays machine → line_turn oracles machine framed ≡ Some turn
    → IsTurn machine.store turn
line_brings oracles machine waiting turn stays is = absurd (none-some _ is)
line_brings oracles machine (whole text rest) turn stays is =
    subst (IsTurn machine.store) (same_Some _ _ is) (command_turn oracles machine text rest stays)
line_brings oracles machine (too_long rest) turn stays is =
    subst (IsTurn machine.store) (same_Some _ _ is)
    (record {
      brings = Answers line_too_long (differs_at 0 _ refl, tt) refl refl;
      stays = record { inboxes = stays.inboxes; recipients = tt; named = stays.named };
    })

-- what the end of data does
data Ends (store : StoreState) (client : Client) (delivery : Delivery) (taken : Step) : Type 0 where
  Stored : taken ≡ (let kept : Step = record { changes = delivered store.kept delivery ∷ []; reply = acceptance; state = greeted client } in kept) → Ends store client delivery taken
  Refused : (line : List ℕ) → IsOther line → taken ≡ (let told : Step = record { changes = []; reply = line ∷ []; state = greeted client } in told) → Ends store client delivery taken

ends_by : (is_message loops : Bool) (store : StoreState) (client : Client) (delivery : Delivery) → Ends store client delivery (end_by is_message loops store client delivery)
ends_by is_message loops store client delivery =
    let P : Step → Type 0 = Ends store client delivery in
    cond_both (has_large_octets store.message_max delivery) _ _ P (λ large. Refused _ (differs_at 0 _ refl) refl)
    (λ small. cond_both (not is_message) _ _ P (λ none. Refused _ (differs_at 0 _ refl) refl)
    (λ message. cond_both loops _ _ P (λ circle. Refused _ (differs_at 0 _ refl) refl)
    (λ straight. cond_both (is_some (delivery_refusal store delivery)) _ _ P (λ refused. Refused _ (differs_at 0 _ refl) refl) (λ room. Stored refl))))

-- the end of data
end_turn : (store : StoreState) (client : Client) (delivery : Delivery) (envelope : Envelope) (moments : List Moment) (rest : List ℕ) (taken : Step)
    → delivery.local ≡ envelope.local → delivery.remote ≡ envelope.remote → HaveInboxes store.kept → AreRecipients store.kept envelope → IsStoreName (name_of store.kept)
    → Ends store client delivery taken → IsTurn store (record { parts = acts_in taken; after = after_step store moments taken; rest = rest })
end_turn store client delivery envelope moments rest taken local remote have are named (Stored is) =
    let records = delivered store.kept delivery in
    let once = delivered_once store.kept delivery envelope local remote have are in
    rw is (rw (append-nil records)
    (record {
      brings = Stores delivery records once refl refl;
      stays = record {
        inboxes = inboxes_after_all store.kept records have;
        recipients = tt;
        named = named_after store.kept (with_records store records).kept once.domains named;
      };
    }))
end_turn store client delivery envelope moments rest taken local remote have are named (Refused line other is) =
    rw is
    (record {
      brings = Answers (line ∷ []) (other, tt) refl refl;
      stays = record { inboxes = have; recipients = tt; named = named };
    })

data_brings : (oracles : Oracles) (machine : Machine) (client : Client) (envelope : Envelope) (found : Option Cut) (turn : Turn Machine (Act (List ℕ))) → Stays machine
    → AreRecipients machine.store.kept envelope → option_map (data_turn oracles machine client envelope) found ≡ Some turn → IsTurn machine.store turn
data_brings oracles machine client envelope None turn stays are is = absurd (none-some _ is)
data_brings oracles machine client envelope (Some cut) turn stays are is =
    let moment = next_moment machine.moments in
    let delivery = delivery_of oracles machine.store client envelope moment (unstuffed cut.line) in
    subst (IsTurn machine.store) (same_Some _ _ is)
    (end_turn machine.store client delivery envelope (later_moments machine.moments) cut.rest (end_data oracles machine.store client envelope moment (unstuffed cut.line)) refl refl
    stays.inboxes are stays.named (ends_by (oracles.has_tree (unstuffed cut.line)) (is_looping (unstuffed cut.line)) machine.store client delivery))

turn_brings : (oracles : Oracles) (state : State) (machine : Machine) (octets : List ℕ) (turn : Turn Machine (Act (List ℕ))) → Stays machine
    → KnowsRecipients machine.store.kept state → turn_from oracles state machine octets ≡ Some turn → IsTurn machine.store turn
turn_brings oracles (fresh first) machine octets turn stays known is = line_brings oracles machine (next_line octets) turn stays is
turn_brings oracles (greeted client) machine octets turn stays known is = line_brings oracles machine (next_line octets) turn stays is
turn_brings oracles (mail client envelope) machine octets turn stays known is = line_brings oracles machine (next_line octets) turn stays is
turn_brings oracles (collecting client envelope) machine octets turn stays known is = data_brings oracles machine client envelope (data_cut octets) turn stays known is
turn_brings oracles ended machine octets turn stays known is = absurd (none-some _ is)

next_brings : (oracles : Oracles) (machine : Machine) (octets : List ℕ) (turn : Turn Machine (Act (List ℕ))) → Stays machine → next_turn oracles machine octets ≡ Some turn
    → IsTurn machine.store turn
unfolding next_turn
next_brings oracles machine octets turn stays is = turn_brings oracles machine.state machine octets turn stays stays.recipients is

-- ---- all turns

-- a reply in front
after_reply : (store : StoreState) (reply : List (List ℕ)) (more : List (Act (List ℕ))) → AllByRecursion IsOther reply → KeepsAccepted store more
    → KeepsAccepted store (acts_of [] reply ++ more)
after_reply store [] more others keeps = keeps
after_reply store (line ∷ reply) more others keeps = Says store line (acts_of [] reply ++ more) others.0 (after_reply store reply more others.1 keeps)

-- a turn in front
after_turn : (store : StoreState) (turn : Turn Machine (Act (List ℕ))) (more : List (Act (List ℕ))) → Brings store turn → KeepsAccepted turn.after.store more
    → KeepsAccepted store (turn.parts ++ more)
after_turn store turn more (Answers reply others parts same) keeps =
    rw parts (after_reply store reply more others (subst (λ (s : StoreState). KeepsAccepted s more) same keeps))
after_turn store turn more (Stores delivery records once parts same) keeps =
    rw parts (Keeps store delivery records more once (subst (λ (s : StoreState). KeepsAccepted s more) same keeps))

turns_keep : (oracles : Oracles) (n : ℕ) (machine : Machine) (octets : List ℕ) → length octets ≤ n → Stays machine → (found : Option (Turn Machine (Act (List ℕ))))
    → next_turn oracles machine octets ≡ found → KeepsAccepted machine.store (all_turns (next_turn oracles) machine octets).parts
turns_keep oracles n machine octets low stays None is = rw (all_turns-stop (next_turn oracles) machine octets is) (NoMore machine.store)
turns_keep oracles zero machine octets low stays (Some turn) is =
    let shorter = (framed_by oracles).shorter machine octets turn is in
    absurd (omega (arith, shorter, low))
turns_keep oracles (suc n) machine octets low stays (Some turn) is =
    let shorter = (framed_by oracles).shorter machine octets turn is in
    let one = next_brings oracles machine octets turn stays is in
    let later_moments = turns_keep oracles n turn.after turn.rest (omega (arith, shorter, low)) one.stays (next_turn oracles turn.after turn.rest) refl in
    rw (all_turns-go (next_turn oracles) (framed_by oracles) machine octets turn is) (after_turn machine.store turn _ one.brings later_moments)

pub stream_kept : (oracles : Oracles) (store : StoreState) (moments : List Moment) (octets : List ℕ) → IsFold store.kept → IsStoreName (name_of store.kept)
    → KeepsAccepted store (turns_of oracles (start_of store moments) octets).parts
stream_kept oracles store moments octets fold named =
    let start = start_of store moments in
    turns_keep oracles (length octets) start octets (omega arith) (record { inboxes = have_inboxes store.kept fold; recipients = tt; named = named }) (next_turn oracles start octets) refl
