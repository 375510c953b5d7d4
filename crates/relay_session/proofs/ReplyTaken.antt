-- What octets that decide come to, by what the client does of them.
use Rattle.std.proofs.Common.{◌≡◌, inl, inr, ℕ, List, [], ◌∷◌, ◌++◌, length, Bool, true, false, Option, None, Some, IfOk, Result, Ok, Err, refl, sym, ap, subst, arith}
use Rattle.std.specs.Prelude.{All}
use Rattle.std.proofs.lemmas.List.{take_all}
use Rattle.address_grammar.specs.declared.Address.{Address}
use Rattle.mail_store.specs.declared.queue.Queued.{Queued}
use Rattle.mail_wire.specs.declared.outside.Fault.{Fault}
use Rattle.mail_wire.specs.declared.outside.Fault.TheVariants as fault
use Rattle.relay_choice.specs.Relay.{after_acts, finished}
use Rattle.relay_choice.specs.Replies.{IsDecided, IsNoFront, IsReply, IsReplyRead}
use Rattle.relay_choice.specs.Standing.{ComesTo, HasFewerLeft, LeavesBy, TakesLeave as LeavesLast, replies_left, rest_of, standing_of}
use Rattle.relay_choice.specs.declared.client.Turn.{Turn}
use Rattle.relay_choice.specs.declared.client.Turn.TheVariants as turn
use Rattle.relay_choice.specs.declared.mail_objects.Act.{Act as ClientAct}
use Rattle.relay_choice.specs.declared.replies.Reply.{Reply}
use Rattle.relay_choice.specs.declared.replies.ReplyRead.{ReplyRead}
use Rattle.relay_choice.specs.declared.replies.ReplyRead.TheVariants as read
use Rattle.relay_choice.specs.declared.states.Client.{Client}
use Rattle.relay_choice.proofs.ReplyReads.{decided_once, read_once}
use Rattle.session_core.specs.Around.{Around}
use Rattle.session_core.specs.Keeps.{Keeps, fault_of}
use Rattle.relay_session.specs.MailObjects.{Mailbag}
use Rattle.relay_session.specs.Relaying.{RelaysTo}
use Rattle.relay_session.specs.declared.ends.LeftCause.TheVariants as cause
use Rattle.relay_session.specs.declared.ends.Tally.{Tally}
use Rattle.relay_session.specs.declared.running.Advance.{Advance}
use Rattle.relay_session.specs.declared.running.Advance.TheVariants as advance
use Rattle.relay_session.specs.declared.running.Run.{Run}
use Rattle.relay_session.specs.private.Acting.{ActsBy, AreKnown, AreOpenFrom, CanCount, IsActIn, KeepsQueue, SettleFrom, WereDone, met_by, settled_count}
use Rattle.relay_session.specs.private.Running.{AdvancesBy, IsAtWork, IsOfSome, IsRunning, IsWireCause, OnEnds, StaysAtWork, StaysShort, StopsBy, TurnsBy, TurnsLast, TurnsOn, end_of, ending_with, going_on}
use Rattle.relay_session.proofs.ClientActs.{IsDue, due_in, due_room, due_settle}
use Rattle.relay_session.proofs.OctetsLeft.{reply_short}
use Rattle.relay_session.proofs.RunEnds.{ReplyComes, breaks_run, ends_by_no_reply, ends_by_reply, wire_ends}
use Rattle.relay_session.proofs.RunFinishes.{FinishesBy, all_ends, finishes_by, part_ends}
use Rattle.relay_session.proofs.RunPieces.{IsWireCause-failed, Keeps-past}
use Rattle.relay_session.proofs.RunSteps.{acts_so_far, codes_more, counts_so, goes_by, goes_on, running_on}
use Rattle.relay_session.proofs.SameReplies.{same_whole}
use Rattle.session_core.proofs.MeaningLemmas.{oracles_given}
use Rattle.journal_records.specs.Addresses.{WithPaths}

-- ---- what the octets are

whole_none : (reply : Reply) (used count : ℕ) → read.Whole reply used ≡ read.NotReply count → ⊥
whole_none reply used count same = cc

whole_read : (octets : List ℕ) (reply : Reply) → IsReply octets reply → IsReplyRead octets (read.Whole reply (length octets))
whole_read octets reply is = (omega arith, subst (λ (l : List ℕ). IsReply l reply) (sym (take_all (length octets) octets (omega arith))) is)

none_read : (octets : List ℕ) → IsNoFront octets → IsReplyRead octets (read.NotReply (length octets))
none_read octets none = (omega arith, subst IsNoFront (sym (take_all (length octets) octets (omega arith))) none)

-- a reply that they begin with is all of them
pub reply_is : (octets : List ℕ) (reply : Reply) (used : ℕ) → IsDecided octets → IsReplyRead octets (read.Whole reply used) → IsReply octets reply
reply_is octets reply used (inl (other, is)) found =
    subst (IsReply octets) (sym (same_whole reply other used (length octets) (read_once octets (read.Whole reply used) (read.Whole other (length octets)) found (whole_read octets other is)))) is
reply_is octets reply used (inr none) found =
    absurd (whole_none reply used (length octets) (read_once octets (read.Whole reply used) (read.NotReply (length octets)) found (none_read octets none)))

-- octets that are no reply begin none
pub none_is : (octets : List ℕ) (found : ReplyRead) → IsDecided octets → IsReplyRead octets found → ((reply : Reply) (used : ℕ) → found ≡ read.Whole reply used → ⊥) → IsNoFront octets
none_is octets (read.Whole reply used) decided found not = absurd (not reply used refl)
none_is octets read.More decided found not = absurd (decided_once octets decided found)
none_is octets (read.NotReply used) (inl (reply, is)) found not =
    absurd (whole_none reply (length octets) used (read_once octets (read.Whole reply (length octets)) (read.NotReply used) (whole_read octets reply is) found))
none_is octets (read.NotReply used) (inr none) found not = none

-- what the client answers to a reply is its turn after the octets
pub turns_by : {E : Type 0} (client : Client) (octets : List ℕ) (reply : Reply) (result : Result Turn E) → IsReply octets reply → IfOk result (ComesTo reply (λ left. rest_of client (reply ∷ left)))
    → IfOk result (HasFewerLeft (replies_left (standing_of client))) → IfOk result LeavesBy → IfOk result (TurnsBy client octets)
turns_by client octets reply (Ok (turn.Goes next acts)) is comes fewer leave = record { reply = reply; is = is; comes = comes; fewer = fewer }
turns_by client octets reply (Ok (turn.Ends acts)) is comes fewer leave = record { reply = reply; is = is; comes = comes; leave = leave }
turns_by client octets reply (Ok turn.Stops) is comes fewer leave = inl (record { reply = reply; is = is; comes = comes })
turns_by client octets reply (Err met) is comes fewer leave = tt

-- ---- the acts that are due

-- what doing acts requires
pub record CanBeDone (now : Around) (queue : List Queued) (tally : Tally) (acts : List ClientAct) : Type 0 where
  pub known : AreKnown now.desk.store.kept queue
  pub within : All (IsActIn queue) acts
  pub order : (place : ℕ) × AreOpenFrom now.desk.store.kept queue place × SettleFrom place acts
  pub room : CanCount tally acts

due_done : (before now : Around) (bag : Mailbag before.desk.store.kept) (queue : List Queued) (run : Run) (pending : List ℕ) (work : IsAtWork before now bag run pending) (reply : Reply) (acts : List ClientAct)
    → bag.queue ≡ queue → IsDue before bag work.replies reply acts → CanBeDone now queue run.tally acts
due_done before now bag queue run pending work reply acts same due =
    subst (λ (l : List Queued). CanBeDone now l run.tally acts) same (record {
      known = work.known;
      within = due_in before bag work.replies reply acts due;
      order = (settled_count (acts_so_far before bag work.replies), work.unsettled, due_settle before bag work.replies reply acts due);
      room = due_room before bag work.replies reply acts run.tally due (counts_so before now bag run pending work);
    })

pub going_done : (now : Around) (queue : List Queued) (run : Run) (octets : List ℕ) (next : Client) (acts : List ClientAct) → IsOfSome now queue run octets → TurnsOn run.client octets next acts
    → CanBeDone now queue run.tally acts
going_done now queue run octets next acts (before, bag, rest, same, work) turns =
    let by = goes_by before now bag run (octets ++ rest) work next turns.reply acts turns.comes in
    due_done before now bag queue run (octets ++ rest) work turns.reply acts same (record { codes = codes_more before now bag run (octets ++ rest) octets work turns.reply turns.is; run_acts = by.run_acts })

pub ending_done : (now : Around) (queue : List Queued) (run : Run) (octets : List ℕ) (acts : List ClientAct) → IsOfSome now queue run octets → TurnsLast run.client octets acts → CanBeDone now queue run.tally acts
ending_done now queue run octets acts (before, bag, rest, same, work) turns =
    let by = finishes_by before now bag run (octets ++ rest) work turns.reply acts turns.comes in
    due_done before now bag queue run (octets ++ rest) work turns.reply acts same (record { codes = codes_more before now bag run (octets ++ rest) octets work turns.reply turns.is; run_acts = by.0 })

-- ---- the run goes on

of_queue : (path_of : List ℕ → Option (Option Address)) (a b : Around) (queue other : List Queued) (acts : List ClientAct) (old new : Tally) (met : Option Fault) → other ≡ queue → ActsBy path_of a b queue acts old new met
    → ActsBy path_of a b other acts old new met
of_queue path_of a b queue other acts old new met same by = subst (λ (l : List Queued). ActsBy path_of a b l acts old new met) (sym same) by

kept_queue : (a b : Around) (queue other : List Queued) (acts : List ClientAct) → other ≡ queue → KeepsQueue a b queue acts → KeepsQueue a b other acts
kept_queue a b queue other acts same keeps = subst (λ (l : List Queued). KeepsQueue a b l acts) (sym same) keeps

-- the client and the tally after a reply
abbrev pub run_after : Run → Client → Tally → Run
run_after run client tally = record { client = client; reader = run.reader; tally = tally }

-- a reply was read by a reader that is anew, and the acts that it leads to were done
pub record DoneBy (a b : Around) (queue : List Queued) (run : Run) (octets : List ℕ) (reply : Reply) (next : Client) (acts : List ClientAct) (new : Tally) : Type 0 where
  pub anew : run.reader.octets ≡ []
  pub is : IsReply octets reply
  pub comes : (left : List Reply) → rest_of run.client (reply ∷ left) ≡ after_acts acts (rest_of next left)
  pub done : WithPaths (λ path_of. ActsBy path_of a b queue acts run.tally new None)
  pub stays : KeepsQueue a b queue acts
  pub keeps : Keeps a b None

runs_after : (a b : Around) (queue : List Queued) (run : Run) (octets : List ℕ) (reply : Reply) (next : Client) (acts : List ClientAct) (new : Tally) → DoneBy a b queue run octets reply next acts new
    → WithPaths (λ path_of. (before : Around) (bag : Mailbag before.desk.store.kept) (rest : List ℕ) → bag.queue ≡ queue → IsRunning path_of before a bag run (octets ++ rest)
    → IsRunning path_of before b bag (run_after run next new) rest)
runs_after a b queue run octets reply next acts new done path_of reads before bag rest same running =
    let by = of_queue path_of a b queue bag.queue acts run.tally new None same (done.done path_of reads) in
    running_on path_of before a b bag run (run_after run next new) octets rest reply acts by.0 by.1 running refl done.anew done.is done.comes by.2 by.3 (kept_queue a b queue bag.queue acts same done.stays) done.keeps

works_after : (a b : Around) (queue : List Queued) (run : Run) (octets : List ℕ) (reply : Reply) (next : Client) (acts : List ClientAct) (new : Tally) → DoneBy a b queue run octets reply next acts new
    → (before : Around) (bag : Mailbag before.desk.store.kept) (rest : List ℕ) → bag.queue ≡ queue → IsAtWork before a bag run (octets ++ rest) → IsAtWork before b bag (run_after run next new) rest
works_after a b queue run octets reply next acts new done before bag rest same work =
    let path_of = oracles_given.0.path_of in
    let by = of_queue path_of a b queue bag.queue acts run.tally new None same (done.done path_of oracles_given.1.paths) in
    (goes_on path_of before a b bag run (run_after run next new) octets rest reply acts by.0 by.1 work refl done.anew done.is done.comes by.2 by.3 (kept_queue a b queue bag.queue acts same done.stays) done.keeps).work

-- ---- the run ends

-- a reply was read by a reader that is anew, and a fault was met in the acts that it leads to
pub record FailsBy (a b : Around) (queue : List Queued) (run : Run) (octets : List ℕ) (reply : Reply) (acts : List ClientAct) (new : Tally) (met : Fault) : Type 0 where
  pub anew : run.reader.octets ≡ []
  pub is : IsReply octets reply
  pub done : WithPaths (λ path_of. ActsBy path_of a b queue acts run.tally new (Some met))

reply_comes : (before a : Around) (bag : Mailbag before.desk.store.kept) (run : Run) (octets rest : List ℕ) (reply : Reply) (next : Client) (acts : List ClientAct) (work : IsAtWork before a bag run (octets ++ rest))
    → run.reader.octets ≡ [] → IsReply octets reply → ((left : List Reply) → rest_of run.client (reply ∷ left) ≡ after_acts acts (rest_of next left)) → ReplyComes before a bag run octets rest work reply acts
reply_comes before a bag run octets rest reply next acts work anew is comes =
    record { anew = anew; is = is; run_acts = (goes_by before a bag run (octets ++ rest) work next reply acts comes).run_acts }

going_wire : (a b : Around) (queue : List Queued) (run : Run) (octets : List ℕ) (reply : Reply) (next : Client) (acts : List ClientAct) (new : Tally) → FailsBy a b queue run octets reply acts new fault.Wire
    → ((left : List Reply) → rest_of run.client (reply ∷ left) ≡ after_acts acts (rest_of next left))
    → WithPaths (λ path_of. (before : Around) (bag : Mailbag before.desk.store.kept) (rest : List ℕ) → bag.queue ≡ queue → IsRunning path_of before a bag run (octets ++ rest)
    → RelaysTo path_of before b bag (Ok (end_of new (Some cause.Wire))))
going_wire a b queue run octets reply next acts new fails comes path_of reads before bag rest same running =
    wire_ends path_of before a b bag run octets rest reply acts new running (reply_comes before a bag run octets rest reply next acts running.work fails.anew fails.is comes)
    (goes_by before a bag run (octets ++ rest) running.work next reply acts comes).waiting
    (of_queue path_of a b queue bag.queue acts run.tally new (Some fault.Wire) same (fails.done path_of reads))

broken_by : (path_of : List ℕ → Option (Option Address)) (before a b : Around) (bag : Mailbag before.desk.store.kept) (run : Run) (octets rest : List ℕ) (reply : Reply) (acts : List ClientAct) (new : Tally) (met : Fault)
    (running : IsRunning path_of before a bag run (octets ++ rest)) → ReplyComes before a bag run octets rest running.work reply acts → (met ≡ fault.Wire → ⊥) → ActsBy path_of a b bag.queue acts run.tally new (Some met)
    → RelaysTo path_of before b bag (Err met)
broken_by path_of before a b bag run octets rest reply acts new fault.Wire running comes fine by = absurd (fine refl)
broken_by path_of before a b bag run octets rest reply acts new fault.Keeper running comes fine by = breaks_run path_of before a b bag run octets rest reply acts fault.Keeper running comes fine by
broken_by path_of before a b bag run octets rest reply acts new fault.Memory running comes fine by = breaks_run path_of before a b bag run octets rest reply acts fault.Memory running comes fine by

going_fault : (a b : Around) (queue : List Queued) (run : Run) (octets : List ℕ) (reply : Reply) (next : Client) (acts : List ClientAct) (new : Tally) (met : Fault) → FailsBy a b queue run octets reply acts new met
    → ((left : List Reply) → rest_of run.client (reply ∷ left) ≡ after_acts acts (rest_of next left)) → (met ≡ fault.Wire → ⊥)
    → WithPaths (λ path_of. (before : Around) (bag : Mailbag before.desk.store.kept) (rest : List ℕ) → bag.queue ≡ queue → IsRunning path_of before a bag run (octets ++ rest) → RelaysTo path_of before b bag (Err met))
going_fault a b queue run octets reply next acts new met fails comes fine path_of reads before bag rest same running =
    broken_by path_of before a b bag run octets rest reply acts new met running (reply_comes before a bag run octets rest reply next acts running.work fails.anew fails.is comes) fine
    (of_queue path_of a b queue bag.queue acts run.tally new (Some met) same (fails.done path_of reads))

finish : (before a : Around) (bag : Mailbag before.desk.store.kept) (run : Run) (octets rest : List ℕ) (reply : Reply) (acts : List ClientAct) (work : IsAtWork before a bag run (octets ++ rest))
    → run.reader.octets ≡ [] → IsReply octets reply → ((left : List Reply) → rest_of run.client (reply ∷ left) ≡ record { acts = acts; end = finished }) → FinishesBy before a bag run octets rest work reply acts
finish before a bag run octets rest reply acts work anew is comes =
    let by = finishes_by before a bag run (octets ++ rest) work reply acts comes in
    record { comes = record { anew = anew; is = is; run_acts = by.0 }; finishes = by.1 }

ending_all : (a b : Around) (queue : List Queued) (run : Run) (octets : List ℕ) (reply : Reply) (acts : List ClientAct) (new : Tally) → run.reader.octets ≡ [] → IsReply octets reply
    → ((left : List Reply) → rest_of run.client (reply ∷ left) ≡ record { acts = acts; end = finished }) → WithPaths (λ path_of. ActsBy path_of a b queue acts run.tally new None)
    → WithPaths (λ path_of. (before : Around) (bag : Mailbag before.desk.store.kept) (rest : List ℕ) → bag.queue ≡ queue → IsRunning path_of before a bag run (octets ++ rest)
    → RelaysTo path_of before b bag (Ok (end_of new None)))
ending_all a b queue run octets reply acts new anew is comes done path_of reads before bag rest same running =
    let by = of_queue path_of a b queue bag.queue acts run.tally new None same (done path_of reads) in
    all_ends path_of before a b bag run octets rest reply acts new by.0 by.1 running (finish before a bag run octets rest reply acts running.work anew is comes) by.2 by.3

ending_wire : (a b : Around) (queue : List Queued) (run : Run) (octets : List ℕ) (reply : Reply) (acts : List ClientAct) (new : Tally) → FailsBy a b queue run octets reply acts new fault.Wire
    → ((left : List Reply) → rest_of run.client (reply ∷ left) ≡ record { acts = acts; end = finished }) → LeavesLast acts → Keeps a b (Some fault.Wire)
    → WithPaths (λ path_of. (before : Around) (bag : Mailbag before.desk.store.kept) (rest : List ℕ) → bag.queue ≡ queue → IsRunning path_of before a bag run (octets ++ rest)
    → RelaysTo path_of before b bag (Ok (end_of new None)))
ending_wire a b queue run octets reply acts new fails comes leave keeps path_of reads before bag rest same running =
    part_ends path_of before a b bag run octets rest reply acts new running (finish before a bag run octets rest reply acts running.work fails.anew fails.is comes) leave
    (of_queue path_of a b queue bag.queue acts run.tally new (Some fault.Wire) same (fails.done path_of reads)) keeps

ending_fault : (a b : Around) (queue : List Queued) (run : Run) (octets : List ℕ) (reply : Reply) (acts : List ClientAct) (new : Tally) (met : Fault) → FailsBy a b queue run octets reply acts new met
    → ((left : List Reply) → rest_of run.client (reply ∷ left) ≡ record { acts = acts; end = finished }) → (met ≡ fault.Wire → ⊥)
    → WithPaths (λ path_of. (before : Around) (bag : Mailbag before.desk.store.kept) (rest : List ℕ) → bag.queue ≡ queue → IsRunning path_of before a bag run (octets ++ rest) → RelaysTo path_of before b bag (Err met))
ending_fault a b queue run octets reply acts new met fails comes fine path_of reads before bag rest same running =
    broken_by path_of before a b bag run octets rest reply acts new met running (finish before a bag run octets rest reply acts running.work fails.anew fails.is comes).comes fine
    (of_queue path_of a b queue bag.queue acts run.tally new (Some met) same (fails.done path_of reads))

-- ---- what comes of a turn

-- a run of which nothing more is done
pub stopping : (a : Around) (queue : List Queued) (run : Run) (octets : List ℕ) → run.reader.octets ≡ [] → TurnsBy run.client octets turn.Stops
    → AdvancesBy a a queue run octets (Ok (advance.Ends (end_of run.tally (Some (cause.Reply octets)))))
stopping a queue run octets anew (inl by) path_of reads before bag rest same running = ends_by_reply path_of before a bag run octets rest by.reply running anew by.is by.comes
stopping a queue run octets anew (inr none) path_of reads before bag rest same running = ends_by_no_reply path_of before a bag run octets rest running anew none

-- what a run comes to that goes on, or breaks off in the acts that are due
pub record GoesSo (a b : Around) (queue : List Queued) (run : Run) (octets : List ℕ) (result : Result Advance Fault) : Type 0 where
  pub advance_is : AdvancesBy a b queue run octets result
  pub work : IfOk result (StaysAtWork a b queue run octets)
  pub short : IfOk result (StaysShort run octets)
  pub wire : IfOk result (OnEnds (IsWireCause a b))
  pub keeps : Keeps a b (fault_of result)

pub going : (a b : Around) (queue : List Queued) (run : Run) (octets : List ℕ) (next : Client) (acts : List ClientAct) (new : Tally) (done : Result Bool Fault) → run.reader.octets ≡ []
    → TurnsOn run.client octets next acts → WereDone a b queue acts run.tally new done → GoesSo a b queue run octets (going_on (run_after run next new) done)
going a b queue run octets next acts new (Ok true) anew turns were =
    let by : DoneBy a b queue run octets turns.reply next acts new =
    record { anew = anew; is = turns.is; comes = turns.comes; done = were.acts_by; stays = were.stays refl; keeps = were.keeps } in
    record {
      advance_is = runs_after a b queue run octets turns.reply next acts new by;
      work = works_after a b queue run octets turns.reply next acts new by;
      short = reply_short run.client next run.reader octets turns.reply turns.fewer anew turns.is;
      wire = tt;
      keeps = were.keeps;
    }
going a b queue run octets next acts new (Ok false) anew turns were = record {
  advance_is = going_wire a b queue run octets turns.reply next acts new (record { anew = anew; is = turns.is; done = were.acts_by }) turns.comes;
  work = tt;
  short = tt;
  wire = IsWireCause-failed a b (end_of new (Some cause.Wire)) were.keeps;
  keeps = Keeps-past a b were.keeps;
}
going a b queue run octets next acts new (Err met) anew turns were = record {
  advance_is = going_fault a b queue run octets turns.reply next acts new met (record { anew = anew; is = turns.is; done = were.acts_by }) turns.comes (λ bad. were.fine (ap Err bad));
  work = tt;
  short = tt;
  wire = tt;
  keeps = were.keeps;
}

no_cause : (a b : Around) (tally : Tally) → IsWireCause a b (end_of tally None)
no_cause a b tally is = absurd cc

pub ending : (a b : Around) (queue : List Queued) (run : Run) (octets : List ℕ) (acts : List ClientAct) (new : Tally) (done : Result Bool Fault) → run.reader.octets ≡ []
    → TurnsLast run.client octets acts → WereDone a b queue acts run.tally new done → GoesSo a b queue run octets (ending_with new done)
ending a b queue run octets acts new (Ok true) anew turns were = record {
  advance_is = ending_all a b queue run octets turns.reply acts new anew turns.is turns.comes were.acts_by;
  work = tt;
  short = tt;
  wire = no_cause a b new;
  keeps = were.keeps;
}
ending a b queue run octets acts new (Ok false) anew turns were = record {
  advance_is = ending_wire a b queue run octets turns.reply acts new (record { anew = anew; is = turns.is; done = were.acts_by }) turns.comes turns.leave were.keeps;
  work = tt;
  short = tt;
  wire = no_cause a b new;
  keeps = Keeps-past a b were.keeps;
}
ending a b queue run octets acts new (Err met) anew turns were = record {
  advance_is = ending_fault a b queue run octets turns.reply acts new met (record { anew = anew; is = turns.is; done = were.acts_by }) turns.comes (λ bad. were.fine (ap Err bad));
  work = tt;
  short = tt;
  wire = tt;
  keeps = were.keeps;
}
