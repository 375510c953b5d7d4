-- A run that is finished: all was done but that QUIT may not have arrived. And what a failed wire leaves.
use Rattle.std.proofs.Common.{◌≡◌, inl, inr, ℕ, ◌+◌, List, [], ◌∷◌, ◌++◌, Option, None, Some, Ok, refl, sym, ap, subst, ◌∙◌, append-nil, append_assoc}
use Rattle.std.specs.Prelude.{All}
use Rattle.std.proofs.lemmas.List.Elements.{All-head, All-tail}
use Rattle.address_grammar.specs.declared.Address.{Address}
use Rattle.journal_records.specs.declared.records.Record.{Record}
use Rattle.mail_store.specs.Following.{Follows, records_of}
use Rattle.mail_store.specs.StoreState.{StoreState}
use Rattle.mail_store.specs.declared.queue.Queued.{Queued}
use Rattle.mail_store.proofs.FollowLemmas.{Follows-more}
use Rattle.mail_wire.specs.Moves.{GivesPrefix}
use Rattle.mail_wire.specs.Transcript.{given_of}
use Rattle.mail_wire.specs.declared.outside.Fault.TheVariants as fault
use Rattle.mail_wire.proofs.Moving.{Gives-trans, Rose-earlier}
use Rattle.relay_choice.specs.Relay.{Run as ClientRun, after_acts, finished}
use Rattle.relay_choice.specs.Said.{quit_line}
use Rattle.relay_choice.specs.Standing.{IsSettle, TakesLeave as LeavesLast, rest_of}
use Rattle.relay_choice.specs.declared.mail_objects.Act.{Act as ClientAct}
use Rattle.relay_choice.specs.declared.mail_objects.Act.TheVariants as act
use Rattle.relay_choice.specs.declared.replies.Reply.{Reply}
use Rattle.session_core.specs.Acts.{Act, changes_in, gives}
use Rattle.session_core.specs.Around.{Around}
use Rattle.session_core.specs.Done.{given_by}
use Rattle.session_core.specs.Keeps.{Keeps}
use Rattle.session_core.proofs.DoneLemmas.{given_by-append, records_in-append}
use Rattle.relay_session.specs.Carrying.{CarriesActs}
use Rattle.relay_session.specs.MailObjects.{Mailbag, messages_of}
use Rattle.relay_session.specs.Relaying.{Carried, HasNumbers, RelaysTo, run_of}
use Rattle.relay_session.specs.declared.ends.LeftCause.TheVariants as cause
use Rattle.relay_session.specs.declared.ends.Tally.{Tally}
use Rattle.relay_session.specs.declared.running.Run.{Run}
use Rattle.relay_session.specs.private.Acting.{ActsDone, SaysInPart, tallied}
use Rattle.relay_session.specs.private.Running.{IsAtWork, IsRunning, IsWireCause, end_of}
use Rattle.relay_session.proofs.ListEnds.{heads, tails}
use Rattle.relay_session.proofs.RunEnds.{ReplyComes, after_replies, counts_by, in_part, not_settle, part_tally}
use Rattle.relay_session.proofs.RunSteps.{acts_so_far, carried_more, does_more, entered_more}

-- ---- QUIT is the last act

none_following : (front others : List ClientAct) (one : ClientAct) → front ++ one ∷ others ≡ [] → ⊥
none_following [] others one is = cc
none_following (x ∷ front) others one is = cc

-- an act that settles nothing, where all but the last one do
last_said : (front settles others : List ClientAct) (one last : ClientAct) → front ++ one ∷ others ≡ settles ++ last ∷ [] → All IsSettle settles → (IsSettle one → ⊥) → (one ≡ last) × (others ≡ [])
last_said [] [] others one last is all not = (heads is, tails is)
last_said [] (x ∷ settles) others one last is all not =
    absurd (not (subst IsSettle (sym (heads is)) (All-head IsSettle x settles all)))
last_said (y ∷ front) [] others one last is all not = absurd (none_following front others one (tails is))
last_said (y ∷ front) (x ∷ settles) others one last is all not =
    last_said front settles others one last (tails is) (All-tail IsSettle x settles all) not

same_given : (octets text : List ℕ) (others : List (Act (List ℕ))) → gives octets ∷ [] ≡ gives text ∷ others → octets ≡ text
same_given octets text others same = cc

said_is : (path_of : List ℕ → Option (Option Address)) (store : StoreState) (queue : List Queued) (messages : List (List ℕ)) (text octets : List ℕ)
    → CarriesActs path_of store queue messages [] (act.Say text ∷ []) (gives octets ∷ []) 0 → octets ≡ text
said_is path_of store queue messages text octets (others, is, below) = same_given octets text others is

-- ---- all was done

-- the run of the client is finished by this reply
pub record FinishesBy (before now : Around) (bag : Mailbag before.desk.store.kept) (run : Run) (octets rest : List ℕ) (work : IsAtWork before now bag run (octets ++ rest)) (reply : Reply) (acts : List ClientAct) : Type 0 where
  pub comes : ReplyComes before now bag run octets rest work reply acts
  pub finishes : (run_of before bag.mail_objects (work.replies ++ reply ∷ [])).end ≡ finished

pub finishes_by : (before now : Around) (bag : Mailbag before.desk.store.kept) (run : Run) (pending : List ℕ) (work : IsAtWork before now bag run pending) (reply : Reply) (acts : List ClientAct)
    → ((left : List Reply) → rest_of run.client (reply ∷ left) ≡ record { acts = acts; end = finished })
    → (acts_so_far before bag (work.replies ++ reply ∷ []) ≡ acts_so_far before bag work.replies ++ acts) × ((run_of before bag.mail_objects (work.replies ++ reply ∷ [])).end ≡ finished)
finishes_by before now bag run pending work reply acts comes =
    let whole = work.goes (reply ∷ []) ∙ ap (λ (r : ClientRun). after_acts (acts_so_far before bag work.replies) r) (comes []) in
    (ap (λ (r : ClientRun). r.acts) whole, ap (λ (r : ClientRun). r.end) whole)

pub all_ends : (path_of : List ℕ → Option (Option Address)) (before a b : Around) (bag : Mailbag before.desk.store.kept) (run : Run) (octets rest : List ℕ) (reply : Reply) (acts : List ClientAct) (new : Tally)
    (xs : List (Act (List ℕ))) (count : ℕ) (running : IsRunning path_of before a bag run (octets ++ rest)) → FinishesBy before a bag run octets rest running.work reply acts
    → ActsDone path_of a b bag.queue acts xs count None → new ≡ tallied run.tally acts count → RelaysTo path_of before b bag (Ok (end_of new None))
all_ends path_of before a b bag run octets rest reply acts new xs count running by done new_is =
    let work = running.work in
    let front = acts_so_far before bag work.replies in
    let all = work.replies ++ reply ∷ [] in
    let given = given_of work.entries ++ given_by (λ (octets : List ℕ). octets) xs in
    let entered = entered_more before a b bag work.entries (given_by (λ (octets : List ℕ). octets) xs) work.moves work.in_turn done.does.gives in
    let does = does_more path_of before a b bag work.replies all acts xs count (given_of work.entries) running.does work.messages work.clock done by.comes.run_acts in
    let counts = counts_by bag.mail_objects front acts (acts_so_far before bag all) run.tally new running.does.count count None work.sent work.left running.reported by.comes.run_acts new_is in
    record {
      entries = work.entries ++ done.does.gives.entries;
      moves = entered.moves;
      in_turn = entered.in_turn;
      replies = all;
      following = run.reader.octets ++ rest;
      are = rw entered.taken_is (after_replies before a bag run octets rest work reply acts by.comes);
      answers = record {
        finishes = by.finishes;
        leaves = record {
          acts = does.0.acts;
          count = does.0.count;
          carried = does.0.carried;
          begun = quit_line;
          missing = [];
          leave = sym (append-nil quit_line);
          given_is = sym does.0.done.0 ∙ sym entered.given_is ∙ sym (append-nil (given_of (work.entries ++ done.does.gives.entries)));
          arrives = inl refl;
          follows = does.0.done.1;
        };
        counts = subst (λ (n : ℕ). HasNumbers bag.mail_objects (acts_so_far before bag all) n (end_of new None)) (sym does.1) counts;
      };
    }

-- ---- QUIT didn't arrive

-- the part of it that was given, and all else
record LeavesInPart (path_of : List ℕ → Option (Option Address)) (before a b : Around) (queue : List Queued) (acts : List ClientAct) (old new : Tally) : Type 0 where
  part : SaysInPart path_of a b queue acts old new
  whole : part.front ++ part.one ∷ [] ≡ acts
  octets_are : part.octets ≡ quit_line

leaves_in_part : (path_of : List ℕ → Option (Option Address)) (before a b : Around) (queue : List Queued) (acts : List ClientAct) (old new : Tally) → SaysInPart path_of a b queue acts old new → LeavesLast acts
    → LeavesInPart path_of before a b queue acts old new
leaves_in_part path_of before a b queue acts old new part leave =
    let messages = messages_of a.desk.store.kept queue in
    let not = not_settle path_of part.between.desk.store queue messages part.one part.octets part.says in
    let last = last_said part.front leave.settles part.others part.one (act.Say quit_line) (sym part.all_are ∙ leave.acts_are) leave.are not in
    record {
      part = part;
      whole = ap (λ (l : List ClientAct). part.front ++ part.one ∷ l) (sym last.1) ∙ sym part.all_are;
      octets_are = said_is path_of part.between.desk.store queue messages quit_line part.octets
          (subst (λ (one : ClientAct). CarriesActs path_of part.between.desk.store queue messages [] (one ∷ []) (gives part.octets ∷ []) 0) last.0 part.says);
    }

pub part_ends : (path_of : List ℕ → Option (Option Address)) (before a b : Around) (bag : Mailbag before.desk.store.kept) (run : Run) (octets rest : List ℕ) (reply : Reply) (acts : List ClientAct) (new : Tally)
    (running : IsRunning path_of before a bag run (octets ++ rest)) → FinishesBy before a bag run octets rest running.work reply acts → LeavesLast acts
    → SaysInPart path_of a b bag.queue acts run.tally new → Keeps a b (Some fault.Wire) → RelaysTo path_of before b bag (Ok (end_of new None))
part_ends path_of before a b bag run octets rest reply acts new running by leave says keeps =
    let work = running.work in
    let does = running.does in
    let front = acts_so_far before bag work.replies in
    let all = work.replies ++ reply ∷ [] in
    let leaves = leaves_in_part path_of before a b bag.queue acts run.tally new says leave in
    let part = leaves.part in
    let off = in_part path_of a b bag.queue acts run.tally new part in
    let own = given_by (λ (octets : List ℕ). octets) part.acts in
    let prefix : GivesPrefix part.between.wire b.wire part.octets = part.part.gives in
    let more = Gives-trans a.wire part.between.wire b.wire own prefix.given part.done.does.gives prefix.gives in
    let entered = entered_more before a b bag work.entries (own ++ prefix.given) work.moves work.in_turn more in
    let run_acts = by.comes.run_acts in
    let parted : acts_so_far before bag all ≡ front ++ (part.front ++ part.one ∷ []) = run_acts ∙ ap (λ (l : List ClientAct). front ++ l) (sym leaves.whole) in
    let xs = part.acts ++ gives part.octets ∷ [] in
    let carried = carried_more path_of before a bag work.replies all front (part.front ++ part.one ∷ []) [] does.acts xs does.count part.count does.carried does.done.1.store work.messages work.clock off.carries
    (parted ∙ sym (append-nil (front ++ (part.front ++ part.one ∷ [])))) in
    let new_is = part_tally path_of a b bag.queue acts run.tally new part in
    let given = given_of work.entries in
    let first = records_of (changes_in does.acts) in
    let second = records_of (changes_in part.acts) in
    let made : records_of (changes_in (does.acts ++ xs)) ≡ first ++ second =
    records_in-append does.acts xs ∙ ap (λ (l : List Record). first ++ l) (records_in-append part.acts (gives part.octets ∷ []) ∙ append-nil second) in
    record {
      entries = work.entries ++ more.entries;
      moves = entered.moves;
      in_turn = entered.in_turn;
      replies = all;
      following = run.reader.octets ++ rest;
      are = rw entered.taken_is (after_replies before a bag run octets rest work reply acts by.comes);
      answers = record {
        finishes = by.finishes;
        leaves = record {
          acts = does.acts ++ xs;
          count = does.count + part.count;
          carried = subst (λ (l : List ClientAct). Carried path_of before bag all l (does.acts ++ xs) (does.count + part.count)) (sym parted) carried;
          begun = prefix.given;
          missing = prefix.missing;
          leave = sym (prefix.whole ∙ leaves.octets_are);
          given_is = given_by-append (λ (octets : List ℕ). octets) does.acts xs
              ∙ ap (λ (l : List ℕ). given_by (λ (octets : List ℕ). octets) does.acts ++ l)
              (given_by-append (λ (octets : List ℕ). octets) part.acts (gives part.octets ∷ []) ∙ ap (λ (l : List ℕ). own ++ l) (append-nil part.octets ∙ sym prefix.whole) ∙ sym (append_assoc own prefix.given prefix.missing))
              ∙ ap (λ (l : List ℕ). l ++ ((own ++ prefix.given) ++ prefix.missing)) (sym does.done.0) ∙ sym (append_assoc given (own ++ prefix.given) prefix.missing)
              ∙ ap (λ (l : List ℕ). l ++ prefix.missing) (sym entered.given_is);
          arrives = inr (Rose-earlier before.wire.faults a.wire.faults b.wire.faults work.faults (keeps.wire.rose refl));
          follows = subst (λ (l : List Record). Follows before.desk.store b.desk.store before.keeper.octets b.keeper.octets l) (sym made)
              (Follows-more before.desk.store a.desk.store b.desk.store before.keeper.octets a.keeper.octets b.keeper.octets first second does.done.1 off.follows);
        };
        counts = counts_by bag.mail_objects front (part.front ++ part.one ∷ []) (acts_so_far before bag all) run.tally new does.count part.count None work.sent work.left running.reported parted new_is;
      };
    }

-- ---- why it ends

other_cause : (octets : List ℕ) → Some (cause.Reply octets) ≡ Some cause.Wire → ⊥
other_cause octets is = cc

pub reply_cause : (a b : Around) (tally : Tally) (octets : List ℕ) → IsWireCause a b (end_of tally (Some (cause.Reply octets)))
reply_cause a b tally octets is = absurd (other_cause octets is)
