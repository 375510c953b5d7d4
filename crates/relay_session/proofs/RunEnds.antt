-- How a run ends after a reply, or octets in its place.
use Rattle.std.proofs.Common.{◌≡◌, ℕ, ◌+◌, ◌-◌, List, [], ◌∷◌, ◌++◌, length, map, filter, Option, Some, Ok, Err, refl, sym, ap, subst, ◌∙◌, arith, append-nil, append_assoc}
use Rattle.std.specs.Prelude.{All, flat_map}
use Rattle.std.proofs.lemmas.List.Elements.{All-append, All-nil}
use Rattle.address_grammar.specs.declared.Address.{Address}
use Rattle.journal_records.specs.declared.records.Record.{Record}
use Rattle.mail_store.specs.Following.{Follows, records_of}
use Rattle.mail_store.specs.StoreState.{StoreState, with_records}
use Rattle.mail_store.specs.declared.queue.Queued.{Queued}
use Rattle.mail_wire.specs.KeeperState.{KeeperState}
use Rattle.mail_wire.specs.Moves.{Gives, GivesPrefix}
use Rattle.mail_wire.specs.Transcript.{given_of, taken_of}
use Rattle.mail_wire.specs.declared.outside.Entry.{Entry}
use Rattle.mail_wire.specs.declared.outside.Fault.{Fault}
use Rattle.mail_wire.specs.declared.outside.Fault.TheVariants as fault
use Rattle.mail_wire.proofs.Moving.{Gives-trans}
use Rattle.relay_choice.specs.Relay.{Run as ClientRun, after_acts, is_sent_outcome, left_count, outcomes_in, sent_count, stopped, waits}
use Rattle.relay_choice.specs.Replies.{IsNoFront, IsReply}
use Rattle.relay_choice.specs.Standing.{IsSettle, rest_of}
use Rattle.relay_choice.specs.declared.mail_objects.Act.{Act as ClientAct}
use Rattle.relay_choice.specs.declared.mail_objects.Act.TheVariants as act
use Rattle.relay_choice.specs.declared.mail_objects.MailObject.{MailObject}
use Rattle.relay_choice.specs.declared.mail_objects.Outcome.{Outcome}
use Rattle.relay_choice.specs.declared.replies.Reply.{Reply}
use Rattle.session_core.specs.Acts.{Act, changes, changes_in, gives}
use Rattle.session_core.specs.Around.{Around}
use Rattle.session_core.specs.Done.{IsDone, given_by}
use Rattle.session_core.specs.Moments.{IsTold}
use Rattle.session_core.specs.declared.desk.Desk.{Desk}
use Rattle.relay_session.specs.Carrying.{CarriesActs}
use Rattle.relay_session.specs.MailObjects.{Mailbag, messages_of}
use Rattle.relay_session.specs.Relaying.{BreaksRunOff, Carried, HasNumbers, Done, RelaysTo, by_no_reply, by_reply, run_of}
use Rattle.relay_session.specs.Streams.{AreReplies}
use Rattle.relay_session.specs.declared.ends.LeftCause.{LeftCause}
use Rattle.relay_session.specs.declared.ends.LeftCause.TheVariants as cause
use Rattle.relay_session.specs.declared.ends.Tally.{Tally}
use Rattle.relay_session.specs.declared.running.Run.{Run}
use Rattle.relay_session.specs.private.Acting.{ActsBroken, SaysInPart, tallied}
use Rattle.relay_session.specs.private.Running.{IsAtWork, IsRunning, end_of}
use Rattle.relay_session.proofs.ActsLemmas.{first_all}
use Rattle.relay_session.proofs.CarryLemmas.{Carries-onward, Carries-over}
use Rattle.relay_session.proofs.RunPieces.{stopped_after}
use Rattle.relay_session.proofs.RunSteps.{AreReplies-reply, CarriesOn, Entered, acts_so_far, carried_more, carries_on, done_more, entered_more}
use Rattle.relay_session.proofs.TallyLemmas.{left_count-append, outcomes_in-append, same_tally, sent_count-append, tallied-is}

-- ---- a reply to which acts are due, and then nothing more or something

-- the octets of a reply came, to which these acts are due
pub record ReplyComes (before now : Around) (bag : Mailbag before.desk.store.kept) (run : Run) (octets rest : List ℕ) (work : IsAtWork before now bag run (octets ++ rest)) (reply : Reply) (acts : List ClientAct) : Type 0 where
  pub anew : run.reader.octets ≡ []
  pub is : IsReply octets reply
  pub run_acts : acts_so_far before bag (work.replies ++ reply ∷ []) ≡ acts_so_far before bag work.replies ++ acts

pub after_replies : (before now : Around) (bag : Mailbag before.desk.store.kept) (run : Run) (octets rest : List ℕ) (work : IsAtWork before now bag run (octets ++ rest)) (reply : Reply) (acts : List ClientAct)
    → ReplyComes before now bag run octets rest work reply acts → AreReplies (taken_of work.entries) (work.replies ++ reply ∷ []) (run.reader.octets ++ rest)
after_replies before now bag run octets rest work reply acts comes =
    AreReplies-reply (taken_of work.entries) octets run.reader.octets rest work.replies reply comes.anew comes.is work.are

-- ---- want of memory before any act

pub memory_ends : (path_of : List ℕ → Option (Option Address)) (before a : Around) (bag : Mailbag before.desk.store.kept) (run : Run) (pending : List ℕ) → IsRunning path_of before a bag run pending
    → RelaysTo path_of before a bag (Err fault.Memory)
memory_ends path_of before a bag run pending running =
    let work = running.work in
    record {
      entries = work.entries;
      moves = work.moves;
      in_turn = work.in_turn;
      replies = work.replies;
      following = run.reader.octets ++ pending;
      are = work.are;
      answers = record {
        first = acts_so_far before bag work.replies;
        acts = running.does.acts;
        count = running.does.count;
        carried = running.does.carried;
        done = stopped_after before.desk.store a.desk.store before.keeper.octets a.keeper.octets running.does.acts (given_of work.entries) running.does.done;
      };
    }

-- ---- octets that stop the run

counts_same : (before now : Around) (bag : Mailbag before.desk.store.kept) (run : Run) (pending : List ℕ) (work : IsAtWork before now bag run pending) (why : Option LeftCause) (count : ℕ) → run.tally.reported ≡ count
    → HasNumbers bag.mail_objects (acts_so_far before bag work.replies) count (end_of run.tally why)
counts_same before now bag run pending work why count reported = record { sent = work.sent; reported = reported; left = work.left }

pub ends_by_no_reply : (path_of : List ℕ → Option (Option Address)) (before a : Around) (bag : Mailbag before.desk.store.kept) (run : Run) (octets rest : List ℕ) → IsRunning path_of before a bag run (octets ++ rest)
    → run.reader.octets ≡ [] → IsNoFront octets → RelaysTo path_of before a bag (Ok (end_of run.tally (Some (cause.Reply octets))))
ends_by_no_reply path_of before a bag run octets rest running anew none =
    let work = running.work in
    record {
      entries = work.entries;
      moves = work.moves;
      in_turn = work.in_turn;
      replies = work.replies;
      following = run.reader.octets ++ (octets ++ rest);
      are = work.are;
      answers = record {
        stops = by_no_reply rest work.waiting (ap (λ (l : List ℕ). l ++ (octets ++ rest)) anew) none;
        does = running.does;
        counts = counts_same before a bag run (octets ++ rest) work (Some (cause.Reply octets)) running.does.count running.reported;
      };
    }

-- a reply that stops the run
pub ends_by_reply : (path_of : List ℕ → Option (Option Address)) (before a : Around) (bag : Mailbag before.desk.store.kept) (run : Run) (octets rest : List ℕ) (reply : Reply) → IsRunning path_of before a bag run (octets ++ rest)
    → run.reader.octets ≡ [] → IsReply octets reply → ((left : List Reply) → rest_of run.client (reply ∷ left) ≡ record { acts = []; end = stopped reply })
    → RelaysTo path_of before a bag (Ok (end_of run.tally (Some (cause.Reply octets))))
ends_by_reply path_of before a bag run octets rest reply running anew is comes =
    let work = running.work in
    let front = acts_so_far before bag work.replies in
    let all = work.replies ++ reply ∷ [] in
    let whole = work.goes (reply ∷ []) ∙ ap (λ (r : ClientRun). after_acts front r) (comes []) in
    let run_acts : acts_so_far before bag all ≡ front = ap (λ (r : ClientRun). r.acts) whole ∙ append-nil front in
    let does = running.does in
    let carried = does.carried in
    let counts = counts_same before a bag run (octets ++ rest) work (Some (cause.Reply octets)) does.count running.reported in
    let place : run.reader.octets ++ (octets ++ rest) ≡ octets ++ (run.reader.octets ++ rest) = ap (λ (l : List ℕ). l ++ (octets ++ rest)) anew ∙ sym (ap (λ (l : List ℕ). octets ++ (l ++ rest)) anew) in
    let stands = subst (λ (l : List ℕ). AreReplies (taken_of work.entries) work.replies l) place work.are in
    let carried_on : Carried path_of before bag all front does.acts does.count = record {
      others = [];
      run_acts = run_acts ∙ sym (append-nil front);
      told = carried.told;
      are_told = carried.are_told;
      carries = carried.carries;
    } in
    record {
      entries = work.entries;
      moves = work.moves;
      in_turn = work.in_turn;
      replies = all;
      following = run.reader.octets ++ rest;
      are = AreReplies-reply (taken_of work.entries) octets run.reader.octets rest work.replies reply anew is work.are;
      answers = record {
        stops = by_reply reply work.replies refl is stands (ap (λ (r : ClientRun). r.end) whole);
        does = record {
          acts = does.acts;
          count = does.count;
          carried = subst (λ (l : List ClientAct). Carried path_of before bag all l does.acts does.count) (sym run_acts) carried_on;
          done = does.done;
        };
        counts = subst (λ (l : List ClientAct). HasNumbers bag.mail_objects l does.count (end_of run.tally (Some (cause.Reply octets)))) (sym run_acts) counts;
      };
    }

-- ---- a fault in the acts

broken_acts : (front first others acts all : List ClientAct) → all ≡ front ++ acts → acts ≡ first ++ others → all ≡ (front ++ first) ++ others
broken_acts front first others acts all is acts_are = is ∙ ap (λ (l : List ClientAct). front ++ l) acts_are ∙ sym (append_assoc front first others)

-- what was given and done up to a fault in the acts that are due
record BrokenOff (path_of : List ℕ → Option (Option Address)) (before a b : Around) (bag : Mailbag before.desk.store.kept) (acts : List ClientAct) (met : Fault) : Type 0 where
  first : List ClientAct
  others : List ClientAct
  acts_are : acts ≡ first ++ others
  xs : List (Act (List ℕ))
  count : ℕ
  carries : CarriesOn path_of a bag.queue first xs count
  given : List ℕ
  given_on : Gives a.wire b.wire given
  done : IsDone (λ (octets : List ℕ). octets) a.desk.store b.desk.store a.keeper.octets b.keeper.octets (Some met) xs given

-- the entries after them, and what was broken off
record BreaksAfter (path_of : List ℕ → Option (Option Address)) (before b : Around) (bag : Mailbag before.desk.store.kept) (replies : List Reply) (taken : List ℕ) (first : List ClientAct) (count : ℕ) (met : Fault) : Type 0 where
  entries : List Entry
  given : List ℕ
  entered : Entered before b bag entries given taken
  acts : List (Act (List ℕ))
  carried : Carried path_of before bag replies first acts count
  done : Done before b (Some met) acts (given_of entries)

breaks_after : (path_of : List ℕ → Option (Option Address)) (before a b : Around) (bag : Mailbag before.desk.store.kept) (run : Run) (octets rest : List ℕ) (reply : Reply) (acts : List ClientAct) (met : Fault)
    (running : IsRunning path_of before a bag run (octets ++ rest)) → ReplyComes before a bag run octets rest running.work reply acts → (broken : BrokenOff path_of before a b bag acts met)
    → BreaksAfter path_of before b bag (running.work.replies ++ reply ∷ []) (taken_of running.work.entries) (acts_so_far before bag running.work.replies ++ broken.first) (running.does.count + broken.count) met
breaks_after path_of before a b bag run octets rest reply acts met running comes broken =
    let work = running.work in
    let does = running.does in
    let front = acts_so_far before bag work.replies in
    let all = work.replies ++ reply ∷ [] in
    let entered = entered_more before a b bag work.entries broken.given work.moves work.in_turn broken.given_on in
    record {
      entries = work.entries ++ broken.given_on.entries;
      given = given_of work.entries ++ broken.given;
      entered = entered;
      acts = does.acts ++ broken.xs;
      carried = carried_more path_of before a bag work.replies all front broken.first broken.others does.acts broken.xs does.count broken.count does.carried does.done.1.store work.messages work.clock broken.carries
          (broken_acts front broken.first broken.others acts (acts_so_far before bag all) comes.run_acts broken.acts_are);
      done = subst (λ (l : List ℕ). Done before b (Some met) (does.acts ++ broken.xs) l) (sym entered.given_is)
          (done_more before a b does.acts broken.xs (given_of work.entries) broken.given met does.done broken.done);
    }

of_broken : (path_of : List ℕ → Option (Option Address)) (before a b : Around) (bag : Mailbag before.desk.store.kept) (acts : List ClientAct) (met : Fault) → ActsBroken path_of a b bag.queue acts met
    → BrokenOff path_of before a b bag acts met
of_broken path_of before a b bag acts met broken = record {
  first = broken.first;
  others = broken.others;
  acts_are = broken.all_are;
  xs = broken.acts;
  count = broken.count;
  carries = carries_on path_of a b bag.queue broken.first broken.acts broken.count (Some met) broken.done;
  given = broken.done.does.given;
  given_on = broken.done.does.gives;
  done = broken.done.does.done;
}

breaks_answer : (path_of : List ℕ → Option (Option Address)) (before a b : Around) (bag : Mailbag before.desk.store.kept) (run : Run) (octets rest : List ℕ) (reply : Reply) (acts : List ClientAct) (met : Fault)
    (running : IsRunning path_of before a bag run (octets ++ rest)) → ReplyComes before a bag run octets rest running.work reply acts → ActsBroken path_of a b bag.queue acts met
    → (entries : List Entry) × Entered before b bag entries (given_of entries) (taken_of running.work.entries) × BreaksRunOff path_of before b bag (running.work.replies ++ reply ∷ []) (given_of entries) met
breaks_answer path_of before a b bag run octets rest reply acts met running comes broken =
    let off = of_broken path_of before a b bag acts met broken in
    let following = breaks_after path_of before a b bag run octets rest reply acts met running comes off in
    let entered : Entered before b bag following.entries (given_of following.entries) (taken_of running.work.entries) =
    record { moves = following.entered.moves; in_turn = following.entered.in_turn; given_is = refl; taken_is = following.entered.taken_is } in (
      following.entries,
      entered,
      record { first = acts_so_far before bag running.work.replies ++ off.first; acts = following.acts; count = running.does.count + off.count; carried = following.carried; done = following.done },
    )

-- the keeper failed, or there was no memory
pub breaks_run : (path_of : List ℕ → Option (Option Address)) (before a b : Around) (bag : Mailbag before.desk.store.kept) (run : Run) (octets rest : List ℕ) (reply : Reply) (acts : List ClientAct) (met : Fault)
    (running : IsRunning path_of before a bag run (octets ++ rest)) → ReplyComes before a bag run octets rest running.work reply acts → (met ≡ fault.Wire → ⊥) → ActsBroken path_of a b bag.queue acts met
    → RelaysTo path_of before b bag (Err met)
breaks_run path_of before a b bag run octets rest reply acts fault.Wire running comes fine broken = absurd (fine refl)
breaks_run path_of before a b bag run octets rest reply acts fault.Keeper running comes fine broken =
    let found = breaks_answer path_of before a b bag run octets rest reply acts fault.Keeper running comes broken in
    record {
      entries = found.0;
      moves = found.1.moves;
      in_turn = found.1.in_turn;
      replies = running.work.replies ++ reply ∷ [];
      following = run.reader.octets ++ rest;
      are = rw found.1.taken_is (after_replies before a bag run octets rest running.work reply acts comes);
      answers = found.2;
    }
breaks_run path_of before a b bag run octets rest reply acts fault.Memory running comes fine broken =
    let found = breaks_answer path_of before a b bag run octets rest reply acts fault.Memory running comes broken in
    record {
      entries = found.0;
      moves = found.1.moves;
      in_turn = found.1.in_turn;
      replies = running.work.replies ++ reply ∷ [];
      following = run.reader.octets ++ rest;
      are = rw found.1.taken_is (after_replies before a bag run octets rest running.work reply acts comes);
      answers = found.2;
    }

-- ---- octets of which a part was given

changed_gives : (octets : List ℕ) (records : List Record) (xs ys : List (Act (List ℕ))) → gives octets ∷ xs ≡ changes records ∷ ys → ⊥
changed_gives octets records xs ys same = cc

nothing_gives : (octets : List ℕ) (xs : List (Act (List ℕ))) → gives octets ∷ xs ≡ [] → ⊥
nothing_gives octets xs same = cc

none_changed : (octets : List ℕ) (made : List (List Record)) (others : List (Act (List ℕ))) → others ≡ [] → gives octets ∷ [] ≡ map changes made ++ others → ⊥
none_changed octets [] others none is = nothing_gives octets [] (is ∙ none)
none_changed octets (records ∷ made) others none is = changed_gives octets records [] (map changes made ++ others) is

-- an act that gives octets settles nothing
pub not_settle : (path_of : List ℕ → Option (Option Address)) (store : StoreState) (queue : List Queued) (messages : List (List ℕ)) (one : ClientAct) (octets : List ℕ)
    → CarriesActs path_of store queue messages [] (one ∷ []) (gives octets ∷ []) 0 → IsSettle one → ⊥
not_settle path_of store queue messages (act.Say text) octets says settle = settle
not_settle path_of store queue messages (act.SayData number) octets says settle = settle
not_settle path_of store queue messages (act.Settle number outcomes) octets (one, below) settle = none_changed octets one.made one.others below.0 one.acts_are

untold : (one : ClientAct) → (IsSettle one → ⊥) → flat_map outcomes_in (one ∷ []) ≡ []
untold (act.Say text) not = refl
untold (act.SayData number) not = refl
untold (act.Settle number outcomes) not = absurd (not tt)

-- what was done up to a part of its octets
pub record InPart (path_of : List ℕ → Option (Option Address)) (a b : Around) (queue : List Queued) (acts : List ClientAct) (old new : Tally) (part : SaysInPart path_of a b queue acts old new) : Type 0 where
  pub carries : CarriesOn path_of a queue (part.front ++ part.one ∷ []) (part.acts ++ gives part.octets ∷ []) part.count
  pub follows : Follows a.desk.store b.desk.store a.keeper.octets b.keeper.octets (records_of (changes_in part.acts))

pub in_part : (path_of : List ℕ → Option (Option Address)) (a b : Around) (queue : List Queued) (acts : List ClientAct) (old new : Tally) (part : SaysInPart path_of a b queue acts old new)
    → InPart path_of a b queue acts old new part
in_part path_of a b queue acts old new part =
    let messages = messages_of a.desk.store.kept queue in
    let done = part.done in
    let on = Carries-onward path_of a.desk.store queue messages done.told part.front part.acts part.count done.carries in
    let more = on.onward [] (part.one ∷ []) (gives part.octets ∷ []) 0
    (Carries-over path_of part.between.desk.store (with_records a.desk.store (records_of (changes_in part.acts))) queue messages messages [] (part.one ∷ []) (gives part.octets ∷ []) 0 done.does.follows.store refl part.says) in
    let same : part.count + 0 ≡ part.count = omega arith in
    let leaves = part.part.leaves in
    record {
      carries = record {
        told = on.used ++ [];
        are_told = All-append (IsTold a.clock) on.used [] (first_all (IsTold a.clock) on.used on.unused (subst (All (IsTold a.clock)) on.told_are done.are_told)) (All-nil (IsTold a.clock));
        carries = subst (λ (n : ℕ). CarriesActs path_of a.desk.store queue messages (on.used ++ []) (part.front ++ part.one ∷ []) (part.acts ++ gives part.octets ∷ []) n) same more;
      };
      follows = subst (λ (d : Desk). Follows a.desk.store d.store a.keeper.octets b.keeper.octets (records_of (changes_in part.acts))) (sym leaves.desk)
          (subst (λ (k : KeeperState). Follows a.desk.store part.between.desk.store a.keeper.octets k.octets (records_of (changes_in part.acts))) (sym leaves.keeper) done.does.follows);
    }

part_off : (path_of : List ℕ → Option (Option Address)) (before a b : Around) (bag : Mailbag before.desk.store.kept) (acts : List ClientAct) (old new : Tally) (part : SaysInPart path_of a b bag.queue acts old new)
    → (off : BrokenOff path_of before a b bag acts fault.Wire) × (off.first ≡ part.front ++ part.one ∷ []) × (off.count ≡ part.count)
part_off path_of before a b bag acts old new part =
    let found = in_part path_of a b bag.queue acts old new part in
    let own = given_by (λ (octets : List ℕ). octets) part.acts in
    let prefix : GivesPrefix part.between.wire b.wire part.octets = part.part.gives in
    let off : BrokenOff path_of before a b bag acts fault.Wire = record {
      first = part.front ++ part.one ∷ [];
      others = part.others;
      acts_are = part.all_are ∙ sym (append_assoc part.front (part.one ∷ []) part.others);
      xs = part.acts ++ gives part.octets ∷ [];
      count = part.count;
      carries = found.carries;
      given = own ++ prefix.given;
      given_on = Gives-trans a.wire part.between.wire b.wire own prefix.given part.done.does.gives prefix.gives;
      done = record {
        done = part.acts;
        cut = gives part.octets ∷ [];
        left = [];
        acts_are = refl;
        unchanged = refl;
        begun = prefix.given;
        missing = prefix.missing;
        cut_is = append-nil part.octets ∙ sym prefix.whole;
        given_is = refl;
        follows = found.follows;
      };
    } in
    (off, refl, refl)

-- ---- the numbers

pub counts_by : (mail_objects : List MailObject) (front first all : List ClientAct) (old new : Tally) (m n : ℕ) (why : Option LeftCause) → old.sent ≡ sent_count front → old.left ≡ left_count mail_objects front → old.reported ≡ m
    → all ≡ front ++ first → new ≡ tallied old first n → HasNumbers mail_objects all (m + n) (end_of new why)
counts_by mail_objects front first all old new m n why sent left reported is new_is =
    let same = new_is ∙ tallied-is old first n in
    record {
      sent = ap (λ (t : Tally). t.sent) same ∙ ap (λ (k : ℕ). k + sent_count first) sent ∙ sym (sent_count-append front first) ∙ sym (ap (λ (l : List ClientAct). sent_count l) is);
      reported = ap (λ (t : Tally). t.reported) same ∙ ap (λ (k : ℕ). k + n) reported;
      left = ap (λ (t : Tally). t.left) same ∙ ap (λ (k : ℕ). k - length (flat_map outcomes_in first)) left ∙ sym (left_count-append mail_objects front first)
          ∙ sym (ap (λ (l : List ClientAct). left_count mail_objects l) is);
    }

-- an act that settles nothing counts for nothing
tallied-said : (tally : Tally) (front : List ClientAct) (one : ClientAct) (n : ℕ) → (IsSettle one → ⊥) → tallied tally front n ≡ tallied tally (front ++ one ∷ []) n
tallied-said tally front one n not =
    let none : length (flat_map outcomes_in (one ∷ [])) ≡ 0 = ap (λ (l : List Outcome). length l) (untold one not) in
    let unsent : sent_count (one ∷ []) ≡ 0 = ap (λ (l : List Outcome). length (filter is_sent_outcome l)) (untold one not) in
    let sent = sent_count-append front (one ∷ []) in
    let parts = outcomes_in-append front (one ∷ []) in
    tallied-is tally front n
    ∙ same_tally (tally.sent + sent_count front) (tally.reported + n) (tally.left - length (flat_map outcomes_in front))
    (tally.sent + sent_count (front ++ one ∷ [])) (tally.reported + n) (tally.left - length (flat_map outcomes_in (front ++ one ∷ []))) (omega (arith, unsent, sent)) refl (omega (arith, none, parts))
    ∙ sym (tallied-is tally (front ++ one ∷ []) n)

pub part_tally : (path_of : List ℕ → Option (Option Address)) (a b : Around) (queue : List Queued) (acts : List ClientAct) (old new : Tally) (part : SaysInPart path_of a b queue acts old new)
    → new ≡ tallied old (part.front ++ part.one ∷ []) part.count
part_tally path_of a b queue acts old new part =
    part.tally ∙ tallied-said old part.front part.one part.count (not_settle path_of part.between.desk.store queue (messages_of a.desk.store.kept queue) part.one part.octets part.says)

-- the wire failed
pub wire_ends : (path_of : List ℕ → Option (Option Address)) (before a b : Around) (bag : Mailbag before.desk.store.kept) (run : Run) (octets rest : List ℕ) (reply : Reply) (acts : List ClientAct) (new : Tally)
    (running : IsRunning path_of before a bag run (octets ++ rest)) → ReplyComes before a bag run octets rest running.work reply acts → (run_of before bag.mail_objects (running.work.replies ++ reply ∷ [])).end ≡ waits
    → SaysInPart path_of a b bag.queue acts run.tally new → RelaysTo path_of before b bag (Ok (end_of new (Some cause.Wire)))
wire_ends path_of before a b bag run octets rest reply acts new running comes waiting part =
    let work = running.work in
    let front = acts_so_far before bag work.replies in
    let found = part_off path_of before a b bag acts run.tally new part in
    let off = found.0 in
    let following = breaks_after path_of before a b bag run octets rest reply acts fault.Wire running comes off in
    let new_is : new ≡ tallied run.tally off.first off.count =
    part_tally path_of a b bag.queue acts run.tally new part ∙ ap (λ (l : List ClientAct). tallied run.tally l part.count) (sym found.1) ∙ ap (λ (n : ℕ). tallied run.tally off.first n) (sym found.2) in
    record {
      entries = following.entries;
      moves = following.entered.moves;
      in_turn = following.entered.in_turn;
      replies = work.replies ++ reply ∷ [];
      following = run.reader.octets ++ rest;
      are = rw following.entered.taken_is (after_replies before a bag run octets rest work reply acts comes);
      answers = record {
        goes_on = waiting;
        breaks = record { first = front ++ off.first; acts = following.acts; count = running.does.count + off.count; carried = following.carried; done = following.done };
        counts = counts_by bag.mail_objects front off.first (front ++ off.first) run.tally new running.does.count off.count (Some cause.Wire) work.sent work.left running.reported refl new_is;
      };
    }
