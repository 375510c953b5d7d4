-- A run goes on after a reply: the acts that are due to it are a part of the acts of a run of the client over one reply more.
use Rattle.std.proofs.Common.{◌≡◌, ℕ, ◌+◌, ◌-◌, ◌≤◌, List, [], ◌∷◌, ◌++◌, length, map, Option, None, Some, refl, sym, ap, subst, ◌∙◌, arith, append-nil, append_assoc}
use Rattle.std.specs.Prelude.{All, flat_map}
use Rattle.std.specs.List.{AllZip, concat}
use Rattle.std.proofs.lemmas.List.Concat.{flat_map-append}
use Rattle.std.proofs.lemmas.List.Elements.{All-append, All-push, All-same}
use Rattle.std.proofs.lemmas.List.Folds.{concat-append}
use Rattle.address_grammar.specs.declared.Address.{Address}
use Rattle.journal_records.specs.declared.records.Record.{Record}
use Rattle.mail_store.specs.Following.{records_of}
use Rattle.mail_store.specs.StoreState.{StoreState, with_records}
use Rattle.mail_store.specs.declared.queue.Queued.{Queued}
use Rattle.mail_store.proofs.FollowLemmas.{Follows-more}
use Rattle.mail_wire.specs.Moves.{Gives, Moves}
use Rattle.mail_wire.specs.Transcript.{AreGiven, given_of, taken_of}
use Rattle.mail_wire.specs.declared.outside.Entry.{Entry}
use Rattle.mail_wire.specs.declared.outside.Entry.TheVariants.{Given, Taken}
use Rattle.mail_wire.specs.declared.outside.Fault.{Fault}
use Rattle.mail_wire.proofs.Moving.{AreGiven-taken_of, Moves-trans, given_of-append, taken_of-append}
use Rattle.relay_choice.specs.Relay.{Run as ClientRun, act_octets, after_acts, left_count, outcomes_in, sent_count, sent_octets, waits}
use Rattle.relay_choice.specs.Replies.{IsReply}
use Rattle.relay_choice.specs.Settling.{HasCode}
use Rattle.relay_choice.specs.Standing.{rest_of}
use Rattle.relay_choice.specs.declared.mail_objects.Act.{Act as ClientAct}
use Rattle.relay_choice.specs.declared.mail_objects.Act.TheVariants as act
use Rattle.relay_choice.specs.declared.replies.Reply.{Reply}
use Rattle.relay_choice.specs.declared.states.Client.{Client}
use Rattle.relay_choice.proofs.CodeLemmas.{reply_code}
use Rattle.relay_choice.proofs.LeavingLemmas.{client_waits}
use Rattle.session_core.specs.Acts.{Act, changes, changes_in}
use Rattle.session_core.specs.Around.{Around}
use Rattle.session_core.specs.Doing.{DoesAll as DoesActsAll}
use Rattle.session_core.specs.Done.{IsDone, given_by}
use Rattle.session_core.specs.Keeps.{Keeps}
use Rattle.session_core.specs.Moments.{IsTold, Moment}
use Rattle.session_core.proofs.DoneLemmas.{IsDone-more, given_by-append, records_in-append}
use Rattle.relay_session.specs.Carrying.{CarriesActs}
use Rattle.relay_session.specs.MailObjects.{Mailbag, messages_of}
use Rattle.relay_session.specs.Relaying.{Carried, DoesRun, Done, SpeaksInTurn, run_of}
use Rattle.relay_session.specs.Streams.{AreReplies}
use Rattle.relay_session.specs.declared.ends.Tally.{Tally}
use Rattle.relay_session.specs.declared.running.Run.{Run}
use Rattle.relay_session.specs.private.Acting.{ActsDone, KeepsQueue, settled_count, tallied}
use Rattle.relay_session.specs.private.Running.{IsAtWork, IsRunning}
use Rattle.relay_session.proofs.ActsLemmas.{first_all, open_at}
use Rattle.relay_session.proofs.CarryLemmas.{Carries-count, Carries-onward, Carries-over}
use Rattle.relay_session.proofs.ClientActs.{CountsSo, IsDue, codes_of, due_settle}
use Rattle.relay_session.proofs.ListEnds.{heads, tails}
use Rattle.relay_session.proofs.TallyLemmas.{left_count-append, sent_count-append, settled_count-append, tallied-is}

-- ---- what acts give

changes_given : (made : List (List Record)) (others : List (Act (List ℕ))) → given_by (λ (octets : List ℕ). octets) (map changes made ++ others) ≡ given_by (λ (octets : List ℕ). octets) others
changes_given [] others = refl
changes_given (records ∷ made) others = changes_given made others

-- it is what the client says
pub Carries-given : (path_of : List ℕ → Option (Option Address)) (store : StoreState) (queue : List Queued) (messages : List (List ℕ)) (told : List Moment) (first : List ClientAct) (acts : List (Act (List ℕ))) (count : ℕ)
    → CarriesActs path_of store queue messages told first acts count → given_by (λ (octets : List ℕ). octets) acts ≡ sent_octets messages first
Carries-given path_of store queue messages told [] acts count (none, no_count) = ap (λ (l : List (Act (List ℕ))). given_by (λ (octets : List ℕ). octets) l) none
Carries-given path_of store queue messages told (act.Say octets ∷ rest) acts count (following, is, below) =
    ap (λ (l : List (Act (List ℕ))). given_by (λ (octets : List ℕ). octets) l) is ∙ ap (λ (l : List ℕ). octets ++ l) (Carries-given path_of store queue messages told rest following count below)
Carries-given path_of store queue messages told (act.SayData number ∷ rest) acts count (following, is, below) =
    ap (λ (l : List (Act (List ℕ))). given_by (λ (octets : List ℕ). octets) l) is
    ∙ ap (λ (l : List ℕ). act_octets messages (act.SayData number) ++ l) (Carries-given path_of store queue messages told rest following count below)
Carries-given path_of store queue messages told (act.Settle number outcomes ∷ rest) acts count (one, below) =
    ap (λ (l : List (Act (List ℕ))). given_by (λ (octets : List ℕ). octets) l) one.acts_are ∙ changes_given one.made one.others
    ∙ Carries-given path_of (with_records store (records_of one.made)) queue messages one.later rest one.others one.further below

-- ---- entries of gives alone

no_take : (front rest : List Entry) (octets : List ℕ) → AreGiven (front ++ Taken octets ∷ rest) → ⊥
no_take [] rest octets only = only
no_take (Taken other ∷ front) rest octets only = only
no_take (Given other ∷ front) rest octets only = no_take front rest octets only

taken_before : (xs ys front rest : List Entry) (octets : List ℕ) → AreGiven ys → xs ++ ys ≡ front ++ Taken octets ∷ rest → (more : List Entry) × (xs ≡ front ++ Taken octets ∷ more)
taken_before [] ys front rest octets only is = absurd (no_take front rest octets (subst AreGiven is only))
taken_before (x ∷ xs) ys [] rest octets only is = (xs, ap (λ (e : Entry). e ∷ xs) (heads is))
taken_before (x ∷ xs) ys (y ∷ front) rest octets only is =
    let found = taken_before xs ys front rest octets only (tails is) in
    (found.0, ap (λ (e : Entry). e ∷ xs) (heads is) ∙ ap (λ (l : List Entry). y ∷ l) found.1)

-- The entries of a run, with what they gave and took.
pub record Entered (before now : Around) (bag : Mailbag before.desk.store.kept) (entries : List Entry) (given taken : List ℕ) : Type 0 where
  pub moves : Moves before.wire now.wire entries
  pub in_turn : SpeaksInTurn before bag entries
  pub given_is : given_of entries ≡ given
  pub taken_is : taken_of entries ≡ taken

-- octets were given after them
pub entered_more : (before a b : Around) (bag : Mailbag before.desk.store.kept) (entries : List Entry) (octets : List ℕ) → Moves before.wire a.wire entries → SpeaksInTurn before bag entries
    → (more : Gives a.wire b.wire octets) → Entered before b bag (entries ++ more.entries) (given_of entries ++ octets) (taken_of entries)
entered_more before a b bag entries octets moves in_turn more = record {
  moves = Moves-trans before.wire a.wire b.wire entries more.entries moves more.moves;
  in_turn = λ front octets rest is. let found = taken_before entries more.entries front rest octets more.only is in in_turn front octets found.0 found.1;
  given_is = given_of-append entries more.entries ∙ ap (λ (l : List ℕ). given_of entries ++ l) more.octets_are;
  taken_is = taken_of-append entries more.entries ∙ ap (λ (l : List ℕ). taken_of entries ++ l) (AreGiven-taken_of more.entries more.only) ∙ append-nil (taken_of entries);
}

-- ---- a reply more

replies_push : (texts : List (List ℕ)) (replies : List Reply) (text : List ℕ) (reply : Reply) → AllZip IsReply texts replies → IsReply text reply → AllZip IsReply (texts ++ text ∷ []) (replies ++ reply ∷ [])
replies_push [] [] text reply all is = (is, tt)
replies_push [] (other ∷ replies) text reply all is = absurd all
replies_push (other ∷ texts) [] text reply all is = absurd all
replies_push (other ∷ texts) (one ∷ replies) text reply (first, all) is = (first, replies_push texts replies text reply all is)

pub AreReplies-reply : (taken octets reader rest : List ℕ) (replies : List Reply) (reply : Reply) → reader ≡ [] → IsReply octets reply → AreReplies taken replies (reader ++ (octets ++ rest))
    → AreReplies taken (replies ++ reply ∷ []) (reader ++ rest)
AreReplies-reply taken octets reader rest replies reply anew is are = record {
  texts = are.texts ++ octets ∷ [];
  are = replies_push are.texts replies octets reply are.are is;
  whole = are.whole ∙ ap (λ (l : List ℕ). concat are.texts ++ (l ++ (octets ++ rest))) anew ∙ sym (append_assoc (concat are.texts) octets rest)
      ∙ ap (λ (l : List ℕ). (concat are.texts ++ l) ++ rest) (sym (append-nil octets)) ∙ ap (λ (l : List ℕ). l ++ rest) (sym (concat-append are.texts (octets ∷ [])))
      ∙ ap (λ (l : List ℕ). concat (are.texts ++ octets ∷ []) ++ (l ++ rest)) (sym anew);
}

-- ---- the run of the client

pub after_twice : (xs ys : List ClientAct) (run : ClientRun) → after_acts xs (after_acts ys run) ≡ after_acts (xs ++ ys) run
after_twice xs ys run = ap (λ (l : List ClientAct). (let one : ClientRun = record { acts = l; end = run.end } in one)) (sym (append_assoc xs ys run.acts))

-- what it does over the replies so far
abbrev pub acts_so_far : (before : Around) (bag : Mailbag before.desk.store.kept) (replies : List Reply) → List ClientAct
acts_so_far before bag replies = (run_of before bag.mail_objects replies).acts

-- A reply is taken, to which these acts are due, and then a further one is awaited.
pub record GoesBy (before : Around) (bag : Mailbag before.desk.store.kept) (replies : List Reply) (next : Client) (reply : Reply) (acts : List ClientAct) : Type 0 where
  pub run_acts : acts_so_far before bag (replies ++ reply ∷ []) ≡ acts_so_far before bag replies ++ acts
  pub waiting : (run_of before bag.mail_objects (replies ++ reply ∷ [])).end ≡ waits
  pub goes : (left : List Reply) → run_of before bag.mail_objects ((replies ++ reply ∷ []) ++ left) ≡ after_acts (acts_so_far before bag (replies ++ reply ∷ [])) (rest_of next left)

pub goes_by : (before now : Around) (bag : Mailbag before.desk.store.kept) (run : Run) (pending : List ℕ) (work : IsAtWork before now bag run pending) (next : Client) (reply : Reply) (acts : List ClientAct)
    → ((left : List Reply) → rest_of run.client (reply ∷ left) ≡ after_acts acts (rest_of next left)) → GoesBy before bag work.replies next reply acts
goes_by before now bag run pending work next reply acts comes =
    let front = acts_so_far before bag work.replies in
    let all = work.replies ++ reply ∷ [] in
    let whole = work.goes (reply ∷ []) ∙ ap (λ (r : ClientRun). after_acts front r) (comes [] ∙ ap (λ (r : ClientRun). after_acts acts r) (client_waits next)) in
    let run_acts : acts_so_far before bag all ≡ front ++ acts = ap (λ (r : ClientRun). r.acts) whole ∙ ap (λ (l : List ClientAct). front ++ l) (append-nil acts) in
    record {
      run_acts = run_acts;
      waiting = ap (λ (r : ClientRun). r.end) whole;
      goes = λ left.
          ap (λ (l : List Reply). run_of before bag.mail_objects l) (append_assoc work.replies (reply ∷ []) left) ∙ work.goes (reply ∷ left) ∙ ap (λ (r : ClientRun). after_acts front r) (comes left)
          ∙ after_twice front acts (rest_of next left) ∙ ap (λ (l : List ClientAct). after_acts l (rest_of next left)) (sym run_acts);
    }

pub codes_more : (before now : Around) (bag : Mailbag before.desk.store.kept) (run : Run) (pending octets : List ℕ) (work : IsAtWork before now bag run pending) (reply : Reply) → IsReply octets reply
    → All HasCode (work.replies ++ reply ∷ [])
codes_more before now bag run pending octets work reply is =
    All-push HasCode work.replies reply (codes_of work.are.texts work.replies work.are.are) (reply_code octets reply is)

-- ---- what was counted

pub counts_so : (before now : Around) (bag : Mailbag before.desk.store.kept) (run : Run) (pending : List ℕ) (work : IsAtWork before now bag run pending) → CountsSo before bag (acts_so_far before bag work.replies) run.tally
counts_so before now bag run pending work = record { sent = work.sent; left = work.left; reported = work.reported; few = work.few; few_mail_objects = work.few_mail_objects }

pub counts_more : (before : Around) (bag : Mailbag before.desk.store.kept) (front acts all : List ClientAct) (old new : Tally) (count : ℕ) → CountsSo before bag front old → all ≡ front ++ acts → new ≡ tallied old acts count
    → count ≤ settled_count acts → CountsSo before bag all new
counts_more before bag front acts all old new count so is new_is few =
    let same = new_is ∙ tallied-is old acts count in
    let reported : new.reported ≡ old.reported + count = ap (λ (t : Tally). t.reported) same in
    let both = ap settled_count is ∙ settled_count-append front acts in
    record {
      sent = ap (λ (t : Tally). t.sent) same ∙ ap (λ (n : ℕ). n + sent_count acts) so.sent ∙ sym (sent_count-append front acts) ∙ sym (ap (λ (l : List ClientAct). sent_count l) is);
      left = ap (λ (t : Tally). t.left) same ∙ ap (λ (n : ℕ). n - length (flat_map outcomes_in acts)) so.left ∙ sym (left_count-append bag.mail_objects front acts)
          ∙ sym (ap (λ (l : List ClientAct). left_count bag.mail_objects l) is);
      reported = omega (arith, reported, so.reported, few, both);
      few = so.few;
      few_mail_objects = so.few_mail_objects;
    }

-- ---- what was done

-- acts that these carry, at moments that the clock told
pub record CarriesOn (path_of : List ℕ → Option (Option Address)) (now : Around) (queue : List Queued) (back : List ClientAct) (acts : List (Act (List ℕ))) (count : ℕ) : Type 0 where
  pub told : List Moment
  pub are_told : All (IsTold now.clock) told
  pub carries : CarriesActs path_of now.desk.store queue (messages_of now.desk.store.kept queue) told back acts count

pub carries_on : (path_of : List ℕ → Option (Option Address)) (a b : Around) (queue : List Queued) (back : List ClientAct) (acts : List (Act (List ℕ))) (count : ℕ) (met : Option Fault)
    → ActsDone path_of a b queue back acts count met → CarriesOn path_of a queue back acts count
carries_on path_of a b queue back acts count met done = record { told = done.told; are_told = done.are_told; carries = done.carries }

pub carried_more : (path_of : List ℕ → Option (Option Address)) (before a : Around) (bag : Mailbag before.desk.store.kept) (replies all : List Reply) (front back others : List ClientAct) (xs ys : List (Act (List ℕ))) (m n : ℕ)
    → (one : Carried path_of before bag replies front xs m) → a.desk.store ≡ with_records before.desk.store (records_of (changes_in xs))
    → messages_of a.desk.store.kept bag.queue ≡ messages_of before.desk.store.kept bag.queue → a.clock ≡ before.clock
    → CarriesOn path_of a bag.queue back ys n → acts_so_far before bag all ≡ (front ++ back) ++ others → Carried path_of before bag all (front ++ back) (xs ++ ys) (m + n)
carried_more path_of before a bag replies all front back others xs ys m n one store messages clock two is =
    let on = Carries-onward path_of before.desk.store bag.queue (messages_of before.desk.store.kept bag.queue) one.told front xs m one.carries in
    record {
      others = others;
      run_acts = is;
      told = on.used ++ two.told;
      are_told = All-append (IsTold before.clock) on.used two.told
          (first_all (IsTold before.clock) on.used on.unused (All-same (IsTold before.clock) (on.used ++ on.unused) one.told (sym on.told_are) one.are_told))
          (subst (λ (reading : Option ℕ). All (IsTold reading) two.told) clock two.are_told);
      carries = on.onward two.told back ys n
          (Carries-over path_of a.desk.store (with_records before.desk.store (records_of (changes_in xs))) bag.queue (messages_of a.desk.store.kept bag.queue) (messages_of before.desk.store.kept bag.queue) two.told back ys n
          store messages two.carries);
    }

pub done_all : (before a b : Around) (xs ys : List (Act (List ℕ))) (given : List ℕ) → Done before a None xs given → DoesActsAll (λ (octets : List ℕ). octets) a b ys
    → Done before b None (xs ++ ys) (given ++ given_by (λ (octets : List ℕ). octets) ys)
done_all before a b xs ys given first second = (
  ap (λ (l : List ℕ). l ++ given_by (λ (octets : List ℕ). octets) ys) first.0 ∙ sym (given_by-append (λ (octets : List ℕ). octets) xs ys),
  rw (records_in-append xs ys)
      (Follows-more before.desk.store a.desk.store b.desk.store before.keeper.octets a.keeper.octets b.keeper.octets (records_of (changes_in xs)) (records_of (changes_in ys)) first.1 second.follows),
)

pub done_more : (before a b : Around) (xs ys : List (Act (List ℕ))) (given more : List ℕ) (met : Fault) → Done before a None xs given
    → IsDone (λ (octets : List ℕ). octets) a.desk.store b.desk.store a.keeper.octets b.keeper.octets (Some met) ys more → Done before b (Some met) (xs ++ ys) (given ++ more)
done_more before a b xs ys given more met first second =
    let whole = IsDone-more (λ (octets : List ℕ). octets) before.desk.store a.desk.store b.desk.store before.keeper.octets a.keeper.octets b.keeper.octets met xs ys [] more first.1 second in
    subst (λ (l : List (Act (List ℕ))). Done before b (Some met) (xs ++ l) (given ++ more)) (append-nil ys)
    (subst (λ (l : List ℕ). Done before b (Some met) (xs ++ (ys ++ [])) (l ++ more)) (sym first.0) whole)

-- all that is due to a reply was done
pub does_more : (path_of : List ℕ → Option (Option Address)) (before a b : Around) (bag : Mailbag before.desk.store.kept) (replies all : List Reply) (back : List ClientAct) (ys : List (Act (List ℕ))) (n : ℕ) (given : List ℕ)
    → (does : DoesRun path_of before a bag replies given) → messages_of a.desk.store.kept bag.queue ≡ messages_of before.desk.store.kept bag.queue → a.clock ≡ before.clock
    → (done : ActsDone path_of a b bag.queue back ys n None) → acts_so_far before bag all ≡ acts_so_far before bag replies ++ back
    → (more : DoesRun path_of before b bag all (given ++ given_by (λ (octets : List ℕ). octets) ys)) × (more.count ≡ does.count + n)
does_more path_of before a b bag replies all back ys n given does messages clock done is =
    let front = acts_so_far before bag replies in
    let carried = carried_more path_of before a bag replies all front back [] does.acts ys does.count n does.carried does.done.1.store messages clock
    (carries_on path_of a b bag.queue back ys n None done) (is ∙ sym (append-nil (front ++ back))) in
    let more : DoesRun path_of before b bag all (given ++ given_by (λ (octets : List ℕ). octets) ys) = record {
      acts = does.acts ++ ys;
      count = does.count + n;
      carried = subst (λ (l : List ClientAct). Carried path_of before bag all l (does.acts ++ ys) (does.count + n)) (sym is) carried;
      done = done_all before a b does.acts ys given does.done done.does;
    } in
    (more, refl)

-- ---- at work after a reply

-- the run with another reply, and with entries in which acts were given
pub record GoesOn (before now : Around) (bag : Mailbag before.desk.store.kept) (run : Run) (pending : List ℕ) (replies : List Reply) (given : List ℕ) : Type 0 where
  pub work : IsAtWork before now bag run pending
  pub replies_are : work.replies ≡ replies
  pub given_is : given_of work.entries ≡ given

said_more : (path_of : List ℕ → Option (Option Address)) (before a b : Around) (bag : Mailbag before.desk.store.kept) (front acts all : List ClientAct) (xs : List (Act (List ℕ))) (count : ℕ) (given : List ℕ)
    → ActsDone path_of a b bag.queue acts xs count None → messages_of a.desk.store.kept bag.queue ≡ messages_of before.desk.store.kept bag.queue
    → given ≡ sent_octets (messages_of before.desk.store.kept bag.queue) front → all ≡ front ++ acts
    → given ++ given_by (λ (octets : List ℕ). octets) xs ≡ sent_octets (messages_of before.desk.store.kept bag.queue) all
said_more path_of before a b bag front acts all xs count given done same is whole =
    let messages = messages_of before.desk.store.kept bag.queue in
    let own : given_by (λ (octets : List ℕ). octets) xs ≡ sent_octets messages acts =
    Carries-given path_of a.desk.store bag.queue (messages_of a.desk.store.kept bag.queue) done.told acts xs count done.carries ∙ ap (λ (m : List (List ℕ)). sent_octets m acts) same in
    ap (λ (l : List ℕ). l ++ given_by (λ (octets : List ℕ). octets) xs) is ∙ ap (λ (l : List ℕ). sent_octets messages front ++ l) own
    ∙ sym (flat_map-append (act_octets messages) front acts) ∙ ap (λ (l : List ClientAct). sent_octets messages l) (sym whole)

pub goes_on : (path_of : List ℕ → Option (Option Address)) (before a b : Around) (bag : Mailbag before.desk.store.kept) (run next : Run) (octets rest : List ℕ) (reply : Reply) (acts : List ClientAct)
    (xs : List (Act (List ℕ))) (count : ℕ) (work : IsAtWork before a bag run (octets ++ rest)) → next.reader ≡ run.reader → run.reader.octets ≡ [] → IsReply octets reply
    → ((left : List Reply) → rest_of run.client (reply ∷ left) ≡ after_acts acts (rest_of next.client left)) → ActsDone path_of a b bag.queue acts xs count None → next.tally ≡ tallied run.tally acts count
    → KeepsQueue a b bag.queue acts → Keeps a b None
    → GoesOn before b bag next rest (work.replies ++ reply ∷ []) (given_of work.entries ++ given_by (λ (octets : List ℕ). octets) xs)
goes_on path_of before a b bag run next octets rest reply acts xs count work same anew is comes done tally stays keeps =
    let front = acts_so_far before bag work.replies in
    let all = work.replies ++ reply ∷ [] in
    let by = goes_by before a bag run (octets ++ rest) work next.client reply acts comes in
    let due : IsDue before bag work.replies reply acts = record { codes = codes_more before a bag run (octets ++ rest) octets work reply is; run_acts = by.run_acts } in
    let few = Carries-count path_of a.desk.store bag.queue (messages_of a.desk.store.kept bag.queue) done.told acts xs count done.carries in
    let so = counts_more before bag front acts (acts_so_far before bag all) run.tally next.tally count (counts_so before a bag run (octets ++ rest) work) by.run_acts tally few in
    let entered = entered_more before a b bag work.entries (given_by (λ (octets : List ℕ). octets) xs) work.moves work.in_turn done.does.gives in
    let are = AreReplies-reply (taken_of work.entries) octets run.reader.octets rest work.replies reply anew is work.are in
    record {
      work = record {
        entries = work.entries ++ done.does.gives.entries;
        moves = entered.moves;
        in_turn = entered.in_turn;
        replies = all;
        are = rw (entered.taken_is, same) are;
        begun = rw same work.begun;
        given = entered.given_is ∙ said_more path_of before a b bag front acts (acts_so_far before bag all) xs count (given_of work.entries) done work.messages work.given by.run_acts;
        messages = stays.messages ∙ work.messages;
        name = keeps.name ∙ work.name;
        clock = keeps.clock ∙ work.clock;
        faults = omega (arith, work.faults, keeps.wire.later);
        few = work.few;
        few_mail_objects = work.few_mail_objects;
        known = stays.known;
        unsettled = open_at b.desk.store.kept bag.queue (settled_count front + settled_count acts) (settled_count (acts_so_far before bag all))
            (sym (ap settled_count by.run_acts ∙ settled_count-append front acts)) (stays.unsettled (settled_count front) work.unsettled (due_settle before bag work.replies reply acts due));
        waiting = by.waiting;
        goes = by.goes;
        sent = so.sent;
        left = so.left;
        reported = so.reported;
      };
      replies_are = refl;
      given_is = entered.given_is;
    }

-- the same of a run of which all was done
pub running_on : (path_of : List ℕ → Option (Option Address)) (before a b : Around) (bag : Mailbag before.desk.store.kept) (run next : Run) (octets rest : List ℕ) (reply : Reply) (acts : List ClientAct)
    (xs : List (Act (List ℕ))) (count : ℕ) → IsRunning path_of before a bag run (octets ++ rest) → next.reader ≡ run.reader → run.reader.octets ≡ [] → IsReply octets reply
    → ((left : List Reply) → rest_of run.client (reply ∷ left) ≡ after_acts acts (rest_of next.client left)) → ActsDone path_of a b bag.queue acts xs count None → next.tally ≡ tallied run.tally acts count
    → KeepsQueue a b bag.queue acts → Keeps a b None → IsRunning path_of before b bag next rest
running_on path_of before a b bag run next octets rest reply acts xs count running same anew is comes done tally stays keeps =
    let work = running.work in
    let all = work.replies ++ reply ∷ [] in
    let given = given_of work.entries ++ given_by (λ (octets : List ℕ). octets) xs in
    let by = goes_by before a bag run (octets ++ rest) work next.client reply acts comes in
    let on = goes_on path_of before a b bag run next octets rest reply acts xs count work same anew is comes done tally stays keeps in
    let does = does_more path_of before a b bag work.replies all acts xs count (given_of work.entries) running.does work.messages work.clock done by.run_acts in
    let reported : next.tally.reported ≡ run.tally.reported + count = ap (λ (t : Tally). t.reported) (tally ∙ tallied-is run.tally acts count) in
    let counted : next.tally.reported ≡ does.0.count = reported ∙ ap (λ (n : ℕ). n + count) running.reported ∙ sym does.1 in
    let found : (more : DoesRun path_of before b bag all (given_of on.work.entries)) × (next.tally.reported ≡ more.count) =
    subst (λ (l : List ℕ). (more : DoesRun path_of before b bag all l) × (next.tally.reported ≡ more.count)) (sym on.given_is) (does.0, counted) in
    let last : (more : DoesRun path_of before b bag on.work.replies (given_of on.work.entries)) × (next.tally.reported ≡ more.count) =
    subst (λ (l : List Reply). (more : DoesRun path_of before b bag l (given_of on.work.entries)) × (next.tally.reported ≡ more.count)) (sym on.replies_are) found in
    record { work = on.work; does = last.0; reported = last.1 }
