-- Who waits in a queue, and that somebody is left exactly where a cause is told.
use Rattle.std.proofs.Common.{◌≡◌, ◌≢◌, ℕ, zero, suc, ◌<◌, List, [], ◌∷◌, ◌++◌, length, Option, None, Some, Result, Ok, Err, IfOk, refl, sym, ap, subst, ◌∙◌, arith}
use Rattle.std.specs.List.{AllZip, sum_by}
use Rattle.address_grammar.specs.declared.Address.{Address}
use Rattle.kept_mail.specs.Kept.{name_of}
use Rattle.kept_mail.specs.declared.kept.Entry.{Entry as KeptEntry}
use Rattle.mail_store.specs.Queue.{IsQueue, IsQueuedAt, open_numbers}
use Rattle.mail_store.specs.declared.queue.Queued.{Queued}
use Rattle.mail_wire.specs.Transcript.{taken_of}
use Rattle.mail_wire.specs.declared.outside.Entry.{Entry}
use Rattle.mail_wire.specs.declared.outside.Fault.{Fault}
use Rattle.relay_choice.specs.Relay.{Run, finished, left_count, stopped, waits}
use Rattle.relay_choice.specs.declared.mail_objects.Act.{Act}
use Rattle.relay_choice.specs.declared.mail_objects.MailObject.{MailObject}
use Rattle.relay_choice.specs.declared.replies.Reply.{Reply}
use Rattle.relay_choice.proofs.SettlingLemmas.{none_left, some_left}
use Rattle.session_core.specs.Around.{Around}
use Rattle.session_core.proofs.MeaningLemmas.{oracles_given}
use Rattle.relay_session.specs.MailObjects.{Mailbag}
use Rattle.relay_session.specs.Relaying.{EndsRun, HasLeftCause, Relays, RelaysBy, StopsRun, begun, by_end, by_no_reply, by_reply, idle, run_of, unbegun}
use Rattle.relay_session.specs.declared.ends.LeftCause.{LeftCause}
use Rattle.relay_session.specs.declared.ends.LeftCause.TheVariants as cause
use Rattle.relay_session.specs.declared.ends.RelayEnd.{RelayEnd}
use Rattle.relay_session.proofs.ClientActs.{mail_objects_open}
use Rattle.relay_session.proofs.RunBeginnings.{queue_short}
use Rattle.relay_session.proofs.TallyLemmas.{left_count-append}

-- ---- an empty queue

none_told : (es : List KeptEntry) (numbers : List ℕ) → AllZip (IsQueuedAt es) numbers [] → numbers ≡ []
none_told es [] told = refl
none_told es (number ∷ numbers) told = absurd told

-- of an empty queue nobody waits
pub nobody_told : (es : List KeptEntry) (queue : List Queued) → IsQueue es queue → queue ≡ [] → open_numbers es ≡ []
nobody_told es queue told none = none_told es (open_numbers es) (subst (IsQueue es) none told)

all_told : (es : List KeptEntry) (queue : List Queued) → AllZip (IsQueuedAt es) [] queue → queue ≡ []
all_told es [] told = refl
all_told es (queued ∷ queue) told = absurd told

-- of another one somebody does
pub somebody_told : (es : List KeptEntry) (queue : List Queued) → IsQueue es queue → queue ≢ [] → open_numbers es ≢ []
somebody_told es queue told some = λ none. some (all_told es queue (subst (λ (numbers : List ℕ). AllZip (IsQueuedAt es) numbers queue) none told))

-- nothing is done where nobody waits
pub relays_nobody : (before : Around) (queue : List Queued) → IsQueue before.desk.store.kept.entries queue → queue ≡ []
    → Relays before before (Ok (record { sent = 0; reported = 0; left = 0; cause = None }))
relays_nobody before queue told none path_of reads = idle (nobody_told before.desk.store.kept.entries queue told none) refl refl

-- ---- a run that isn't finished leaves somebody

pub queue_some : (queue : List Queued) → queue ≢ [] → 0 < length queue
queue_some [] some = absurd (some refl)
queue_some (queued ∷ queue) some = omega arith

above_none : (n : ℕ) → (n ≡ 0 → ⊥) → 0 < n
above_none zero some = absurd (some refl)
above_none (suc n) some = omega arith

mail_objects_some : (before : Around) (bag : Mailbag before.desk.store.kept) → bag.queue ≢ [] → 0 < sum_by (λ (mail_object : MailObject). length mail_object.recipients) bag.mail_objects
mail_objects_some before bag some =
    let whole = mail_objects_open before.desk.store.kept bag.queue bag.mail_objects bag.are_mail_objects in
    let short = queue_short before.desk.store.kept bag.queue bag.is_queue in
    let one = queue_some bag.queue some in
    omega (arith, whole, short, one)

unfinished_left : (before : Around) (bag : Mailbag before.desk.store.kept) (replies : List Reply) → bag.queue ≢ [] → ((run_of before bag.mail_objects replies).end ≡ finished → ⊥)
    → 0 < left_count bag.mail_objects (run_of before bag.mail_objects replies).acts
unfinished_left before bag replies some isnt =
    above_none (left_count bag.mail_objects (run_of before bag.mail_objects replies).acts)
    (λ none. isnt (some_left (name_of before.desk.store.kept) bag.mail_objects replies (mail_objects_some before bag some) none))

-- before the last acts no fewer were left
front_left : (mail_objects : List MailObject) (all first others : List Act) → all ≡ first ++ others → 0 < left_count mail_objects all → 0 < left_count mail_objects first
front_left mail_objects all first others is some =
    let parts = left_count-append mail_objects first others in
    let same = ap (λ (l : List Act). left_count mail_objects l) is in
    omega (arith, parts, same, some)

waits_unfinished : waits ≡ finished → ⊥
waits_unfinished is = cc

stopped_unfinished : (reply : Reply) → stopped reply ≡ finished → ⊥
stopped_unfinished reply is = cc

-- octets stop a run that isn't finished
stops_unfinished : (now : Around) (run : Run) (taken : List ℕ) (replies : List Reply) (following octets : List ℕ) → StopsRun now run taken replies following octets → run.end ≡ finished → ⊥
stops_unfinished now run taken replies following octets (by_reply reply front are is stands stops) done = stopped_unfinished reply (sym stops ∙ done)
stops_unfinished now run taken replies following octets (by_no_reply more on are none) done = waits_unfinished (sym on ∙ done)
stops_unfinished now run taken replies following octets (by_end on are undecided at_end) done = waits_unfinished (sym on ∙ done)

-- ---- why somebody is left

no_cause : (why : LeftCause) → Some why ≡ None → ⊥
no_cause why same = cc

pub told_cause : (end : RelayEnd) (why : LeftCause) → end.cause ≡ Some why → 0 < end.left → HasLeftCause end
told_cause end why is some = record { nobody = λ none. absurd (no_cause why (sym is ∙ none)); some = λ isnt. some }

ends_left : (path_of : List ℕ → Option (Option Address)) (before now : Around) (bag : Mailbag before.desk.store.kept) (entries : List Entry) (replies : List Reply) (following : List ℕ) (end : RelayEnd) (why : Option LeftCause)
    → bag.queue ≢ [] → end.cause ≡ why → EndsRun path_of before now bag entries replies following end why → HasLeftCause end
ends_left path_of before now bag entries replies following end None some is ends = record {
  nobody = λ none. ends.counts.left ∙ none_left (name_of before.desk.store.kept) bag.mail_objects replies ends.finishes;
  some = λ isnt. absurd (isnt is);
}
ends_left path_of before now bag entries replies following end (Some cause.Dial) some is ends = absurd ends
ends_left path_of before now bag entries replies following end (Some cause.Wire) some is ends =
    let whole = unfinished_left before bag replies some (λ done. waits_unfinished (sym ends.goes_on ∙ done)) in
    let carried = ends.breaks.carried in
    let left = front_left bag.mail_objects (run_of before bag.mail_objects replies).acts ends.breaks.first carried.others carried.run_acts whole in
    told_cause end cause.Wire is (rw ends.counts.left left)
ends_left path_of before now bag entries replies following end (Some (cause.Reply octets)) some is ends =
    let left = unfinished_left before bag replies some (stops_unfinished now (run_of before bag.mail_objects replies) (taken_of entries) replies following octets ends.stops) in
    told_cause end (cause.Reply octets) is (rw ends.counts.left left)

left_by : (path_of : List ℕ → Option (Option Address)) (before now : Around) (result : Result RelayEnd Fault) → RelaysBy path_of before now result → IfOk result HasLeftCause
left_by path_of before now result (unbegun is same) = rw is tt
left_by path_of before now result (idle none same is) = rw is (record { nobody = λ nothing. refl; some = λ isnt. absurd (isnt refl) })
left_by path_of before now (Err met) (begun bag some relays) = tt
left_by path_of before now (Ok end) (begun bag some relays) =
    ends_left path_of before now bag relays.entries relays.replies relays.following end end.cause some refl relays.answers

pub somebody_left : (before now : Around) (result : Result RelayEnd Fault) → Relays before now result → IfOk result HasLeftCause
somebody_left before now result relays =
    let path_of = oracles_given.0.path_of in
    left_by path_of before now result (relays path_of oracles_given.1.paths)
