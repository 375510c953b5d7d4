-- Data that have a tree and are within the limits are taken.
use Rattle.std.proofs.Common.{◌≡◌, ℕ, zero, suc, ◌+◌, ◌<◌, ◌≤◌, ◌==◌, Bool, true, false, not, ◌&&◌, ◌||◌, List, [], ◌∷◌, length, if◌then◌else◌, Option, Some, None, refl, ap, ◌∙◌, arith, codes, cond, rules, append-nil}
use Rattle.std.specs.Prelude.{is_some, nat_lt}
use Rattle.std.specs.Option.{option_map}
use Rattle.std.proofs.lemmas.Bool.Decides.{nat_tests}
use Rattle.mail_wire.specs.Lines.{Cut}
use Rattle.mail_wire.specs.Message.{IsEnded}
use Rattle.session_core.specs.Turns.{Turn, following}
use Rattle.session_core.proofs.TurnsLemmas.{all_turns-go}
use Rattle.mail_wire.specs.Dots.{stuffed}
use Rattle.mail_store.specs.declared.changing.StoreFault.{StoreFault}
use Rattle.mail_store.specs.declared.changing.StoreFault.TheVariants as faults
use Rattle.kept_mail.specs.declared.delivery.Delivery.{Delivery}
use Rattle.kept_mail.specs.declared.limits.TheConstants.{THINGS_MAX}
use Rattle.journal_records.specs.declared.records.Record.{Record}
use Rattle.session_core.specs.Acts.{Act, gives, changes}
use Rattle.mail_store.specs.Changing.{delivery_refusal}
use Rattle.kept_mail.specs.Deliveries.{delivered, has_large_octets, has_many_things}
use Rattle.kept_mail.specs.Records.{recipient_count as waiting_count}
use Rattle.mail_store.specs.StoreState.{StoreState, with_records}
use Rattle.journal_records.specs.Stored.{IsStored}
use Rattle.smtp_grammar.specs.declared.command.Verb.TheVariants as verb
use Rattle.smtp_grammar.specs.Data.{data_cut, sent}
use Rattle.smtp_grammar.proofs.SentLines.{sent_found}
use Rattle.mail_wire.proofs.DotLemmas.{unstuffed_back}
use Rattle.smtp_session.specs.declared.states.Client.{Client}
use Rattle.smtp_session.specs.declared.states.Envelope.{Envelope}
use Rattle.smtp_session.specs.Intake.{acceptance, stored_line}
use Rattle.smtp_session.specs.Loops.{is_looping}
use Rattle.smtp_session.specs.Machine.{Step, acts_in, collecting, delivery_of, end_by, end_data, greeted, mail, envelope_recipient_count, says, step}
use Rattle.session_core.specs.Oracles.{Oracles, TellsTrees}
use Rattle.smtp_session.specs.Room.{IsWithinLimits}
use Rattle.smtp_session.specs.Session.{Machine, after_step, data_turn, later_moments, next_moment, next_turn, turns_of}
use Rattle.session_core.specs.Moments.{Moment}
use Rattle.smtp_session.specs.laws.SmtpLaws.{framed_by}

-- ---- the limits

-- no number passes a limit that it is within, where there are any
none_pass : (count limit number : ℕ) → (0 < count → number ≤ limit) → (not (count == 0) && nat_lt limit number) ≡ false
none_pass zero limit number within = refl
none_pass (suc count) limit number within =
    let fits = within (omega arith) in
    let test : nat_lt limit number ≡ false = grind (arith, nat_tests) in
    let some : (suc count == 0) ≡ false = grind (arith, nat_tests) in
    rw (some, test) refl

both_false : (a b : Bool) → a ≡ false → b ≡ false → (a || b) ≡ false
both_false a b first second = rw (first, second) refl

-- the kept octets aren't too large
not_large : (store : StoreState) (delivery : Delivery) → IsWithinLimits store delivery → has_large_octets store.message_max delivery ≡ false
not_large store delivery within =
    both_false _ _ (none_pass (length delivery.local) store.message_max (length delivery.local_octets) within.local)
    (none_pass (length delivery.remote) store.message_max (length delivery.remote_octets) within.remote)

within_limit : (limit number : ℕ) → number ≤ limit → nat_lt limit number ≡ false
within_limit limit number fits = grind (arith, nat_tests)

none_passes : (count : ℕ) (a b : Bool) → (0 < count → a ≡ false) → (0 < count → b ≡ false) → (not (count == 0) && (a || b)) ≡ false
none_passes zero a b first second = refl
none_passes (suc count) a b first second =
    let some : (suc count == 0) ≡ false = grind (arith, nat_tests) in
    rw (some, first (omega arith), second (omega arith)) refl

-- there is room for what is kept
not_many : (store : StoreState) (delivery : Delivery) → IsWithinLimits store delivery → has_many_things store.kept delivery ≡ false
not_many store delivery within =
    both_false _ _ (within_limit THINGS_MAX (length store.kept.messages + length delivery.local) within.messages)
    (none_passes (length delivery.remote) _ _ (λ some. within_limit THINGS_MAX (length store.kept.entries + 1) (within.entries some))
    (λ some. within_limit THINGS_MAX (waiting_count store.kept.entries + length delivery.remote) (within.waiting some)))

not_refused : (large many : Bool) → large ≡ false → many ≡ false → (if large || many then Some faults.TooLarge else None) ≡ None
not_refused large many first second = rw (first, second) refl

-- ---- the end of the data

-- octets that may be kept are told so
tells_true : (has_tree : List ℕ → Bool) (octets : List ℕ) → TellsTrees has_tree → IsStored octets → has_tree octets ≡ true
tells_true has_tree octets observed stored = let t = (observed octets).1 stored in search rules

-- the last of five steps by four tests
last_of : (large is_message loops : Bool) (refusal : Option StoreFault) (a b c d e : Step) → large ≡ false → is_message ≡ true → loops ≡ false → refusal ≡ None
    → cond large a (cond (not is_message) b (cond loops c (cond (is_some refusal) d e))) ≡ e
last_of large is_message loops refusal a b c d e p q r s = rw (p, q, r, s) refl

-- the step that keeps a delivery
abbrev keeping : StoreState → Client → Delivery → Step
keeping store client delivery = record { changes = delivered store.kept delivery ∷ []; reply = acceptance; state = greeted client }

kept_by : (is_message loops : Bool) (store : StoreState) (client : Client) (delivery : Delivery) → is_message ≡ true → loops ≡ false → IsWithinLimits store delivery
    → end_by is_message loops store client delivery ≡ keeping store client delivery
kept_by is_message loops store client delivery is straight within =
    let large = not_large store delivery within in
    last_of (has_large_octets store.message_max delivery) is_message loops (delivery_refusal store delivery) _ _ _ _ (keeping store client delivery) large is straight
    (not_refused (has_large_octets store.message_max delivery) (has_many_things store.kept delivery) large (not_many store delivery within))

data_kept : (oracles : Oracles) (store : StoreState) (client : Client) (envelope : Envelope) (moment : Moment) (octets : List ℕ)
    → TellsTrees oracles.has_tree → IsStored octets → is_looping octets ≡ false → IsWithinLimits store (delivery_of oracles store client envelope moment octets)
    → end_data oracles store client envelope moment octets ≡ keeping store client (delivery_of oracles store client envelope moment octets)
data_kept oracles store client envelope moment octets observed tree straight within =
    kept_by (oracles.has_tree octets) (is_looping octets) store client (delivery_of oracles store client envelope moment octets) (tells_true oracles.has_tree octets observed tree) straight within

pub data_accepted : (oracles : Oracles) (store : StoreState) (client : Client) (envelope : Envelope) (moment : Moment) (octets : List ℕ)
    → TellsTrees oracles.has_tree → IsStored octets → is_looping octets ≡ false → IsWithinLimits store (delivery_of oracles store client envelope moment octets)
    → (end_data oracles store client envelope moment octets).reply ≡ acceptance
data_accepted oracles store client envelope moment octets observed tree straight within =
    ap (λ (taken : Step). taken.reply) (data_kept oracles store client envelope moment octets observed tree straight within)

-- ---- the stream

-- DATA with a recipient
some_recipients : (count : ℕ) → 0 < count → (count == 0) ≡ false
some_recipients count some = grind (arith, nat_tests)

pub data_begin : (oracles : Oracles) (client : Client) (envelope : Envelope) (store : StoreState) (argument : List ℕ) → 0 < envelope_recipient_count envelope
    → step oracles (mail client envelope) store verb.Data argument ≡ says (codes "354 go ahead") (collecting client envelope)
unfolding step
data_begin oracles client envelope store argument some = rw (some_recipients (envelope_recipient_count envelope) some) refl

-- the data are read up to their end
first_turn : (oracles : Oracles) (store : StoreState) (client : Client) (envelope : Envelope) (moments : List Moment) (octets : List ℕ) (cut : Cut) → data_cut octets ≡ Some cut
    → next_turn oracles (record { state = collecting client envelope; store = store; moments = moments }) octets
    ≡ Some (data_turn oracles (record { state = collecting client envelope; store = store; moments = moments }) client envelope cut)
unfolding next_turn
first_turn oracles store client envelope moments octets cut found =
    ap (option_map (data_turn oracles (record { state = collecting client envelope; store = store; moments = moments }) client envelope)) found

-- what a step and the turns after it bring
abbrev brings : Oracles → StoreState → List Moment → List ℕ → Step → Turn Machine (Act (List ℕ))
brings oracles store moments rest taken = following (acts_in taken) (turns_of oracles (after_step store (later_moments moments) taken) rest)

pub sent_kept : (oracles : Oracles) (store : StoreState) (client : Client) (envelope : Envelope) (moments : List Moment) (octets rest : List ℕ) → TellsTrees oracles.has_tree
    → IsEnded octets → IsStored octets → is_looping octets ≡ false → let delivery = delivery_of oracles store client envelope (next_moment moments) octets in IsWithinLimits store delivery
    → turns_of oracles (record { state = collecting client envelope; store = store; moments = moments }) (sent octets rest)
    ≡ following (changes (delivered store.kept delivery) ∷ gives stored_line ∷ [])
    (turns_of oracles (record { state = greeted client; store = with_records store (delivered store.kept delivery); moments = later_moments moments }) rest)
sent_kept oracles store client envelope moments octets rest observed ended tree straight within =
    let machine : Machine = record { state = collecting client envelope; store = store; moments = moments } in
    let moment = next_moment moments in
    let delivery = delivery_of oracles store client envelope moment octets in
    let records = delivered store.kept delivery in
    let next : List Record → Turn Machine (Act (List ℕ)) = λ all.
    following (changes records ∷ gives stored_line ∷ []) (turns_of oracles (record { state = greeted client; store = with_records store all; moments = later_moments moments }) rest) in
    let whole : Cut = record { line = stuffed octets; rest = rest } in
    all_turns-go (next_turn oracles) (framed_by oracles) machine (sent octets rest) (data_turn oracles machine client envelope whole)
    (first_turn oracles store client envelope moments (sent octets rest) whole (sent_found octets ended rest))
    ∙ ap (λ said. brings oracles store moments rest (end_data oracles store client envelope moment said)) (unstuffed_back octets)
    ∙ ap (brings oracles store moments rest) (data_kept oracles store client envelope moment octets observed tree straight within)
    ∙ ap next (append-nil records)
