-- A piece is taken, one reply after another.
use Rattle.std.proofs.Common.{◌≡◌, ℕ, ◌+◌, ◌-◌, ◌≤◌, List, [], ◌∷◌, ◌++◌, length, take, drop, Option, None, Err, refl, sym, ap, subst, ◌∙◌, arith, append-nil, append_assoc}
use Rattle.std.proofs.lemmas.List.{length-append, length-drop, length-take-le, take-append-drop, take_all}
use Rattle.address_grammar.specs.declared.Address.{Address}
use Rattle.journal_records.specs.Addresses.{WithPaths}
use Rattle.mail_store.specs.declared.queue.Queued.{Queued}
use Rattle.mail_wire.specs.Transcript.{given_of, taken_of}
use Rattle.mail_wire.specs.declared.outside.Fault.TheVariants as fault
use Rattle.relay_choice.specs.Pieces.{BeginsBy, DecidesBy, HasBegunReply}
use Rattle.relay_choice.specs.declared.reader.ReplyReader.{ReplyReader}
use Rattle.relay_choice.specs.declared.replies.Reply.{Reply}
use Rattle.session_core.specs.Around.{Around}
use Rattle.session_core.specs.Keeps.{Keeps}
use Rattle.session_core.proofs.KeepsLemmas.{Keeps-nil, Keeps-then}
use Rattle.relay_session.specs.MailObjects.{Mailbag}
use Rattle.relay_session.specs.Relaying.{DoesRun, RelaysTo}
use Rattle.relay_session.specs.Streams.{AreReplies}
use Rattle.relay_session.specs.declared.running.Run.{Run}
use Rattle.relay_session.specs.private.Running.{IsAtWork, IsRunning, octets_left}
use Rattle.relay_session.proofs.OctetsLeft.{front_short}
use Rattle.relay_session.proofs.RunEnds.{memory_ends}
use Rattle.relay_session.proofs.RunSteps.{GoesOn}

-- ---- a run with another reader

abbrev pub read_by : Run → ReplyReader → Run
read_by run reader = record { client = run.client; reader = reader; tally = run.tally }

work_read : (before now : Around) (bag : Mailbag before.desk.store.kept) (run : Run) (reader : ReplyReader) (pending left : List ℕ) → (work : IsAtWork before now bag run pending) → HasBegunReply reader
    → run.reader.octets ++ pending ≡ reader.octets ++ left → GoesOn before now bag (read_by run reader) left work.replies (given_of work.entries)
work_read before now bag run reader pending left work begun same = record {
  work = record {
    entries = work.entries;
    moves = work.moves;
    in_turn = work.in_turn;
    replies = work.replies;
    are = subst (λ (l : List ℕ). AreReplies (taken_of work.entries) work.replies l) same work.are;
    begun = begun;
    given = work.given;
    messages = work.messages;
    name = work.name;
    clock = work.clock;
    faults = work.faults;
    few = work.few;
    few_mail_objects = work.few_mail_objects;
    known = work.known;
    unsettled = work.unsettled;
    waiting = work.waiting;
    goes = work.goes;
    sent = work.sent;
    left = work.left;
    reported = work.reported;
  };
  replies_are = refl;
  given_is = refl;
}

running_read : (path_of : List ℕ → Option (Option Address)) (before now : Around) (bag : Mailbag before.desk.store.kept) (run : Run) (reader : ReplyReader) (pending left : List ℕ) → IsRunning path_of before now bag run pending
    → HasBegunReply reader → run.reader.octets ++ pending ≡ reader.octets ++ left → IsRunning path_of before now bag (read_by run reader) left
running_read path_of before now bag run reader pending left running begun same =
    let on = work_read before now bag run reader pending left running.work begun same in
    let given : (does : DoesRun path_of before now bag running.work.replies (given_of on.work.entries)) × (run.tally.reported ≡ does.count) =
    subst (λ (l : List ℕ). (does : DoesRun path_of before now bag running.work.replies l) × (run.tally.reported ≡ does.count)) (sym on.given_is) (running.does, running.reported) in
    let found : (does : DoesRun path_of before now bag on.work.replies (given_of on.work.entries)) × (run.tally.reported ≡ does.count) =
    subst (λ (l : List Reply). (does : DoesRun path_of before now bag l (given_of on.work.entries)) × (run.tally.reported ≡ does.count)) (sym on.replies_are) given in
    record { work = on.work; does = found.0; reported = found.1 }

-- ---- the loop

-- a run that this is of
abbrev pub IsOfOne : (now : Around) → List Queued → Run → (pending : List ℕ) → Type 0
IsOfOne now queue run pending = (before : Around) × (bag : Mailbag before.desk.store.kept) × (bag.queue ≡ queue) × IsAtWork before now bag run pending

-- how far it came, of a piece of which this is left
pub record Feeding (a b : Around) (queue : List Queued) (old new : Run) (piece rest : List ℕ) : Type 0 where
  pub keeps : Keeps a b None
  pub of_one : IsOfOne b queue new rest
  pub running : WithPaths (λ path_of. (before : Around) (bag : Mailbag before.desk.store.kept) → bag.queue ≡ queue → IsRunning path_of before a bag old piece → IsRunning path_of before b bag new rest)
  pub works : (before : Around) (bag : Mailbag before.desk.store.kept) → bag.queue ≡ queue → IsAtWork before a bag old piece → IsAtWork before b bag new rest
  pub short : octets_left new + length piece ≤ octets_left old + length rest

pub feeding_begins : (a : Around) (queue : List Queued) (run : Run) (piece : List ℕ) → IsOfOne a queue run piece → Feeding a a queue run run piece piece
feeding_begins a queue run piece one = record {
  keeps = Keeps-nil a;
  of_one = one;
  running = λ path_of reads before bag same running. running;
  works = λ before bag same work. work;
  short = omega arith;
}

-- what was kept is the front of a reply
pub feeding_front : (a b : Around) (queue : List Queued) (old new : Run) (piece rest : List ℕ) → Feeding a b queue old new piece rest → HasBegunReply new.reader
feeding_front a b queue old new piece rest feeding = feeding.of_one.3.begun

-- ---- all of the rest belongs to a reply

begins_same : (before rest : List ℕ) (reader : ReplyReader) → BeginsBy before rest reader → before ++ rest ≡ reader.octets ++ []
begins_same before rest reader begins = sym begins.octets_are ∙ sym (append-nil reader.octets)

pub begun_running : (a b : Around) (queue : List Queued) (old new : Run) (piece rest : List ℕ) (reader : ReplyReader) → Feeding a b queue old new piece rest → BeginsBy new.reader.octets rest reader
    → WithPaths (λ path_of. (before : Around) (bag : Mailbag before.desk.store.kept) → bag.queue ≡ queue → IsRunning path_of before a bag old piece → IsRunning path_of before b bag (read_by new reader) [])
begun_running a b queue old new piece rest reader feeding begins path_of reads before bag same running =
    running_read path_of before b bag new reader rest [] (feeding.running path_of reads before bag same running) begins.begun (begins_same new.reader.octets rest reader begins)

pub begun_short : (a b : Around) (queue : List Queued) (old new : Run) (piece rest : List ℕ) (reader : ReplyReader) → Feeding a b queue old new piece rest → BeginsBy new.reader.octets rest reader
    → octets_left (read_by new reader) + length piece ≤ octets_left old
begun_short a b queue old new piece rest reader feeding begins =
    let own : octets_left (read_by new reader) + length rest ≤ octets_left new = front_short new.client new.reader reader rest begins.octets_are begins.begun in
    omega (arith, own, feeding.short)

-- ---- a reply is whole, or octets in its place begin none

decides_same : (before rest octets : List ℕ) (used : ℕ) (reader : ReplyReader) → DecidesBy before rest octets used → reader.octets ≡ [] → before ++ rest ≡ reader.octets ++ (octets ++ drop used rest)
decides_same before rest octets used reader decides anew =
    ap (λ (l : List ℕ). before ++ l) (sym (take-append-drop used rest)) ∙ sym (append_assoc before (take used rest) (drop used rest)) ∙ ap (λ (l : List ℕ). l ++ drop used rest) (sym decides.octets_are)
    ∙ ap (λ (l : List ℕ). l ++ (octets ++ drop used rest)) (sym anew)

-- a new reader, and octets that decide
pub record Decided (new : Run) (rest octets : List ℕ) (used : ℕ) (reader : ReplyReader) : Type 0 where
  pub decides : DecidesBy new.reader.octets rest octets used
  pub anew : reader.octets ≡ []
  pub begun : HasBegunReply reader

pub decided_of_some : (a b : Around) (queue : List Queued) (old new : Run) (piece rest octets : List ℕ) (used : ℕ) (reader : ReplyReader) → Feeding a b queue old new piece rest → Decided new rest octets used reader
    → (before : Around) × (bag : Mailbag before.desk.store.kept) × (left : List ℕ) × (bag.queue ≡ queue) × IsAtWork before b bag (read_by new reader) (octets ++ left)
decided_of_some a b queue old new piece rest octets used reader feeding decided =
    let one = feeding.of_one in (
      one.0,
      one.1,
      drop used rest,
      one.2,
      (work_read one.0 b one.1 new reader rest (octets ++ drop used rest) one.3 decided.begun (decides_same new.reader.octets rest octets used reader decided.decides decided.anew)).work,
    )

pub decided_running : (a b : Around) (queue : List Queued) (old new : Run) (piece rest octets : List ℕ) (used : ℕ) (reader : ReplyReader) → Feeding a b queue old new piece rest → Decided new rest octets used reader
    → WithPaths (λ path_of. (before : Around) (bag : Mailbag before.desk.store.kept) → bag.queue ≡ queue → IsRunning path_of before a bag old piece
    → IsRunning path_of before b bag (read_by new reader) (octets ++ drop used rest))
decided_running a b queue old new piece rest octets used reader feeding decided path_of reads before bag same running =
    running_read path_of before b bag new reader rest (octets ++ drop used rest) (feeding.running path_of reads before bag same running) decided.begun
    (decides_same new.reader.octets rest octets used reader decided.decides decided.anew)

decided_works : (a b : Around) (queue : List Queued) (old new : Run) (piece rest octets : List ℕ) (used : ℕ) (reader : ReplyReader) → Feeding a b queue old new piece rest → Decided new rest octets used reader
    → (before : Around) (bag : Mailbag before.desk.store.kept) → bag.queue ≡ queue → IsAtWork before a bag old piece → IsAtWork before b bag (read_by new reader) (octets ++ drop used rest)
decided_works a b queue old new piece rest octets used reader feeding decided before bag same work =
    (work_read before b bag new reader rest (octets ++ drop used rest) (feeding.works before bag same work) decided.begun
    (decides_same new.reader.octets rest octets used reader decided.decides decided.anew)).work

-- what taking a reply says of a run that goes on
pub record TookReply (b c : Around) (queue : List Queued) (begun next : Run) (octets : List ℕ) : Type 0 where
  pub running : WithPaths (λ path_of. (before : Around) (bag : Mailbag before.desk.store.kept) (left : List ℕ) → bag.queue ≡ queue → IsRunning path_of before b bag begun (octets ++ left) → IsRunning path_of before c bag next left)
  pub works : (before : Around) (bag : Mailbag before.desk.store.kept) (left : List ℕ) → bag.queue ≡ queue → IsAtWork before b bag begun (octets ++ left) → IsAtWork before c bag next left
  pub short : octets_left next + length octets ≤ octets_left begun
  pub keeps : Keeps b c None

pub feeding_on : (a b c : Around) (queue : List Queued) (old new next : Run) (piece rest octets : List ℕ) (used count : ℕ) (reader : ReplyReader) → Feeding a b queue old new piece rest → Decided new rest octets used reader
    → TookReply b c queue (read_by new reader) next octets → count ≡ length rest - used → Feeding a c queue old next piece (take count (drop used rest))
feeding_on a b c queue old new next piece rest octets used count reader feeding decided took count_is =
    let one = feeding.of_one in
    let begun = (work_read one.0 b one.1 new reader rest (octets ++ drop used rest) one.3 decided.begun (decides_same new.reader.octets rest octets used reader decided.decides decided.anew)).work in
    let fits = decided.decides.fits in
    let long : length octets ≡ length new.reader.octets + used =
    ap (λ (l : List ℕ). length l) decided.decides.octets_are ∙ length-append new.reader.octets (take used rest) ∙ ap (λ (n : ℕ). length new.reader.octets + n) (length-take-le used rest fits) in
    let none : length reader.octets ≡ 0 = ap (λ (l : List ℕ). length l) decided.anew in
    let short = took.short in
    let own = feeding.short in
    let gone = length-drop used rest in
    let left : take count (drop used rest) ≡ drop used rest = take_all count (drop used rest) (omega (arith, gone, count_is)) in
    subst (λ (l : List ℕ). Feeding a c queue old next piece l) (sym left) (record {
      keeps = Keeps-then a b c None feeding.keeps took.keeps;
      of_one = (one.0, one.1, one.2, took.works one.0 one.1 (drop used rest) one.2 begun);
      running = λ path_of reads before bag same running.
          took.running path_of reads before bag (drop used rest) same (decided_running a b queue old new piece rest octets used reader feeding decided path_of reads before bag same running);
      works = λ before bag same work. took.works before bag (drop used rest) same (decided_works a b queue old new piece rest octets used reader feeding decided before bag same work);
      short = omega (arith, short, own, long, none, fits, gone);
    })

-- ---- faults and ends

pub feeding_memory : (a b : Around) (queue : List Queued) (old new : Run) (piece rest : List ℕ) → Feeding a b queue old new piece rest
    → WithPaths (λ path_of. (before : Around) (bag : Mailbag before.desk.store.kept) → bag.queue ≡ queue → IsRunning path_of before a bag old piece → RelaysTo path_of before b bag (Err fault.Memory))
feeding_memory a b queue old new piece rest feeding path_of reads before bag same running = memory_ends path_of before b bag new rest (feeding.running path_of reads before bag same running)

-- ---- nothing is left

pub feeding_done : (a b : Around) (queue : List Queued) (old new : Run) (piece rest : List ℕ) → length rest ≡ 0 → Feeding a b queue old new piece rest → Feeding a b queue old new piece []
feeding_done a b queue old new piece [] none feeding = feeding
feeding_done a b queue old new piece (x ∷ rest) none feeding = absurd (omega (arith, none))
