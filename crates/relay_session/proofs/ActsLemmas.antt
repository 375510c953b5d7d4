-- Acts of a client that are done one after another.
use Rattle.std.proofs.Common.{◌≡◌, ℕ, ◌+◌, ◌-◌, ◌<◌, ◌≤◌, List, [], ◌∷◌, ◌++◌, length, take, drop, get_or, Option, None, Some, refl, sym, ap, subst, ◌∙◌, arith, append_assoc}
use Rattle.std.specs.List.{All, flat_map}
use Rattle.std.proofs.lemmas.List.{drop_more, take-append-drop, take_all, take_more}
use Rattle.std.proofs.lemmas.List.Elements.{All-append, All-cons, All-head, All-nil, All-same, All-tail}
use Rattle.address_grammar.specs.declared.Address.{Address}
use Rattle.journal_records.specs.Addresses.{WithPaths}
use Rattle.kept_mail.specs.Kept.{Kept}
use Rattle.mail_store.specs.StoreState.{StoreState}
use Rattle.mail_store.specs.declared.queue.Queued.{Queued}
use Rattle.mail_wire.specs.declared.outside.Fault.{Fault}
use Rattle.mail_wire.specs.declared.outside.Fault.TheVariants as fault
use Rattle.relay_choice.specs.Relay.{outcomes_in, sent_count}
use Rattle.relay_choice.specs.declared.mail_objects.Act.{Act as ClientAct}
use Rattle.relay_choice.specs.declared.mail_objects.Act.TheVariants as act
use Rattle.session_core.specs.Acts.{Act}
use Rattle.session_core.specs.Around.{Around}
use Rattle.session_core.specs.Keeps.{Keeps}
use Rattle.session_core.specs.Moments.{IsTold, Moment}
use Rattle.session_core.proofs.DoingLemmas.{Does-then, DoesAll-nil}
use Rattle.session_core.proofs.KeepsLemmas.{Keeps-nil, Keeps-then}
use Rattle.session_core.proofs.MeaningLemmas.{oracles_given}
use Rattle.relay_session.specs.Carrying.{CarriesActs}
use Rattle.relay_session.specs.MailObjects.{messages_of}
use Rattle.relay_session.specs.declared.ends.Tally.{Tally}
use Rattle.relay_session.specs.private.Acting.{ActsBroken, ActsBy, ActsDone, AreKnown, AreOpenFrom, CanCount, KeepsQueue, SaysInPart, SettleFrom, settled_count, tallied}
use Rattle.relay_session.proofs.CarryLemmas.{Carries-count, Carries-onward, Carries-over}
use Rattle.relay_session.proofs.TallyLemmas.{outcomes_in-append, sent_count-few, settled_count-append, tallied-append, tallied-is, tallied-nothing}

-- ---- what acts are done

pub first_all : {X : Type 0} (P : X → Type 0) (xs ys : List X) → All P (xs ++ ys) → All P xs
first_all P [] ys all = All-nil P
first_all P (x ∷ xs) ys all = All-cons P x xs (All-head P x (xs ++ ys) all) (first_all P xs ys (All-tail P x (xs ++ ys) all))

pub ActsDone-nil : (path_of : List ℕ → Option (Option Address)) (a : Around) (queue : List Queued) → ActsDone path_of a a queue [] [] 0 None
ActsDone-nil path_of a queue = record { told = []; are_told = All-nil (IsTold a.clock); carries = (refl, refl); does = DoesAll-nil (λ octets. octets) a }

pub ActsDone-then : (path_of : List ℕ → Option (Option Address)) (a b c : Around) (queue : List Queued) (front back : List ClientAct) (xs ys : List (Act (List ℕ))) (m n : ℕ) (met : Option Fault)
    → Keeps a b None → messages_of b.desk.store.kept queue ≡ messages_of a.desk.store.kept queue
    → ActsDone path_of a b queue front xs m None → ActsDone path_of b c queue back ys n met → ActsDone path_of a c queue (front ++ back) (xs ++ ys) (m + n) met
ActsDone-then path_of a b c queue front back xs ys m n met keeps same one two =
    let on = Carries-onward path_of a.desk.store queue (messages_of a.desk.store.kept queue) one.told front xs m one.carries in
    record {
      told = on.used ++ two.told;
      are_told = All-append (IsTold a.clock) on.used two.told (first_all (IsTold a.clock) on.used on.unused (All-same (IsTold a.clock) (on.used ++ on.unused) one.told (sym on.told_are) one.are_told))
          (subst (λ (reading : Option ℕ). All (IsTold reading) two.told) keeps.clock two.are_told);
      carries = on.onward two.told back ys n (Carries-over path_of b.desk.store _ queue (messages_of b.desk.store.kept queue) (messages_of a.desk.store.kept queue) two.told back ys n one.does.follows.store same two.carries);
      does = Does-then (λ octets. octets) a b c met xs ys one.does two.does;
    }

-- ---- the entries that acts settle

pub SettleFrom-first : (place : ℕ) (front back : List ClientAct) → SettleFrom place (front ++ back) → SettleFrom place front
SettleFrom-first place [] back settle = tt
SettleFrom-first place (act.Say octets ∷ front) back settle = SettleFrom-first place front back settle
SettleFrom-first place (act.SayData number ∷ front) back settle = SettleFrom-first place front back settle
SettleFrom-first place (act.Settle number outcomes ∷ front) back settle = (settle.0, SettleFrom-first (place + 1) front back settle.1)

at_place : (place other : ℕ) (acts : List ClientAct) → place ≡ other → SettleFrom place acts → SettleFrom other acts
at_place place other acts same settle = rw (← same) settle

pub SettleFrom-rest : (place : ℕ) (front back : List ClientAct) → SettleFrom place (front ++ back) → SettleFrom (place + settled_count front) back
SettleFrom-rest place [] back settle = at_place place (place + 0) back (omega arith) settle
SettleFrom-rest place (act.Say octets ∷ front) back settle = SettleFrom-rest place front back settle
SettleFrom-rest place (act.SayData number ∷ front) back settle = SettleFrom-rest place front back settle
SettleFrom-rest place (act.Settle number outcomes ∷ front) back settle =
    at_place (place + 1 + settled_count front) (place + (1 + settled_count front)) back (omega arith) (SettleFrom-rest (place + 1) front back settle.1)

pub open_at : (kept : Kept) (queue : List Queued) (place other : ℕ) → place ≡ other → AreOpenFrom kept queue place → AreOpenFrom kept queue other
open_at kept queue place other same are_open = rw (← same) are_open

pub KeepsQueue-nil : (a : Around) (queue : List Queued) → AreKnown a.desk.store.kept queue → KeepsQueue a a queue []
KeepsQueue-nil a queue known = record {
  known = known;
  messages = refl;
  unsettled = λ place are_open settle. open_at a.desk.store.kept queue place (place + 0) (omega arith) are_open;
}

pub KeepsQueue-then : (a b c : Around) (queue : List Queued) (front back : List ClientAct) → KeepsQueue a b queue front → KeepsQueue b c queue back → KeepsQueue a c queue (front ++ back)
KeepsQueue-then a b c queue front back one two = record {
  known = two.known;
  messages = two.messages ∙ one.messages;
  unsettled = λ place are_open settle.
      let more = settled_count-append front back in
      open_at c.desk.store.kept queue (place + settled_count front + settled_count back) (place + settled_count (front ++ back)) (omega (arith, more))
      (two.unsettled (place + settled_count front) (one.unsettled place are_open (SettleFrom-first place front back settle)) (SettleFrom-rest place front back settle));
}

-- ---- room in a tally

-- a tally has room for what follows
pub CanCount-rest : (path_of : List ℕ → Option (Option Address)) (store : StoreState) (queue : List Queued) (messages : List (List ℕ)) (told : List Moment) (tally : Tally) (front back : List ClientAct)
    (acts : List (Act (List ℕ))) (count : ℕ) → CarriesActs path_of store queue messages told front acts count → CanCount tally (front ++ back) → CanCount (tallied tally front count) back
CanCount-rest path_of store queue messages told tally front back acts count carries can =
    let mid = tallied-is tally front count in
    let sent : (tallied tally front count).sent ≡ tally.sent + sent_count front = ap (λ (t : Tally). t.sent) mid in
    let reported : (tallied tally front count).reported ≡ tally.reported + count = ap (λ (t : Tally). t.reported) mid in
    let left : (tallied tally front count).left ≡ tally.left - length (flat_map outcomes_in front) = ap (λ (t : Tally). t.left) mid in
    let few_sent = sent_count-few front in
    let few = Carries-count path_of store queue messages told front acts count carries in
    let all = outcomes_in-append front back in
    let both = settled_count-append front back in
    record {
      sent = omega (arith, sent, few_sent, can.sent, all);
      reported = omega (arith, reported, few, can.reported, both);
      left = omega (arith, left, can.left, all);
    }

pub CanCount-first : (tally : Tally) (front back : List ClientAct) → CanCount tally (front ++ back) → CanCount tally front
CanCount-first tally front back can =
    let all = outcomes_in-append front back in
    let both = settled_count-append front back in
    record { sent = omega (arith, can.sent, all); reported = omega (arith, can.reported, both); left = omega (arith, can.left, all) }

-- ---- how acts end

-- acts after others that were done
pub ActsBy-then : (path_of : List ℕ → Option (Option Address)) (a b c : Around) (queue : List Queued) (front back : List ClientAct) (old mid new : Tally)
    → Keeps a b None → messages_of b.desk.store.kept queue ≡ messages_of a.desk.store.kept queue
    → ActsBy path_of a b queue front old mid None → ActsBy path_of b c queue back mid new None → ActsBy path_of a c queue (front ++ back) old new None
ActsBy-then path_of a b c queue front back old mid new keeps same (xs, m, one, mid_is) (ys, n, two, new_is) = (
  xs ++ ys,
  m + n,
  ActsDone-then path_of a b c queue front back xs ys m n None keeps same one two,
  new_is ∙ ap (λ (tally : Tally). tallied tally back n) mid_is ∙ sym (tallied-append old front back m n),
)

between_acts : (front first others rest : List ClientAct) → front ++ ((first ++ others) ++ rest) ≡ (front ++ first) ++ (others ++ rest)
between_acts front first others rest = ap (λ (l : List ClientAct). front ++ l) (append_assoc first others rest) ∙ sym (append_assoc front first (others ++ rest))

broken_after : (path_of : List ℕ → Option (Option Address)) (a b c : Around) (queue : List Queued) (front back rest : List ClientAct) (xs : List (Act (List ℕ))) (m : ℕ) (met : Fault)
    → Keeps a b None → messages_of b.desk.store.kept queue ≡ messages_of a.desk.store.kept queue
    → ActsDone path_of a b queue front xs m None → ActsBroken path_of b c queue back met → ActsBroken path_of a c queue (front ++ (back ++ rest)) met
broken_after path_of a b c queue front back rest xs m met keeps same one two = record {
  first = front ++ two.first;
  others = two.others ++ rest;
  all_are = ap (λ (l : List ClientAct). front ++ (l ++ rest)) two.all_are ∙ between_acts front two.first two.others rest;
  acts = xs ++ two.acts;
  count = m + two.count;
  done = ActsDone-then path_of a b c queue front two.first xs two.acts m two.count (Some met) keeps same one two.done;
}

in_part_after : (path_of : List ℕ → Option (Option Address)) (a b c : Around) (queue : List Queued) (front back rest : List ClientAct) (old mid new : Tally) (xs : List (Act (List ℕ))) (m : ℕ)
    → Keeps a b None → messages_of b.desk.store.kept queue ≡ messages_of a.desk.store.kept queue
    → ActsDone path_of a b queue front xs m None → mid ≡ tallied old front m → SaysInPart path_of b c queue back mid new → SaysInPart path_of a c queue (front ++ (back ++ rest)) old new
in_part_after path_of a b c queue front back rest old mid new xs m keeps same one mid_is two = record {
  between = two.between;
  front = front ++ two.front;
  one = two.one;
  others = two.others ++ rest;
  all_are = ap (λ (l : List ClientAct). front ++ (l ++ rest)) two.all_are ∙ between_acts front two.front (two.one ∷ two.others) rest;
  acts = xs ++ two.acts;
  count = m + two.count;
  done = ActsDone-then path_of a b two.between queue front two.front xs two.acts m two.count None keeps same one two.done;
  octets = two.octets;
  says = Carries-over path_of two.between.desk.store two.between.desk.store queue (messages_of b.desk.store.kept queue) (messages_of a.desk.store.kept queue) [] (two.one ∷ []) _ 0 refl same two.says;
  part = two.part;
  tally = two.tally ∙ ap (λ (tally : Tally). tallied tally two.front two.count) mid_is ∙ sym (tallied-append old front two.front m two.count);
}

-- a fault in acts after others that were done, and before others
pub ActsBy-between : (path_of : List ℕ → Option (Option Address)) (a b c : Around) (queue : List Queued) (front back rest : List ClientAct) (old mid new : Tally) (met : Fault)
    → Keeps a b None → messages_of b.desk.store.kept queue ≡ messages_of a.desk.store.kept queue
    → ActsBy path_of a b queue front old mid None → ActsBy path_of b c queue back mid new (Some met) → ActsBy path_of a c queue (front ++ (back ++ rest)) old new (Some met)
ActsBy-between path_of a b c queue front back rest old mid new fault.Wire keeps same (xs, m, one, mid_is) two =
    in_part_after path_of a b c queue front back rest old mid new xs m keeps same one mid_is two
ActsBy-between path_of a b c queue front back rest old mid new fault.Keeper keeps same (xs, m, one, mid_is) two =
    broken_after path_of a b c queue front back rest xs m fault.Keeper keeps same one two
ActsBy-between path_of a b c queue front back rest old mid new fault.Memory keeps same (xs, m, one, mid_is) two =
    broken_after path_of a b c queue front back rest xs m fault.Memory keeps same one two

-- ---- acts in order

-- the first acts were done
pub record DoneUpTo (before now : Around) (queue : List Queued) (front : List ClientAct) (old new : Tally) : Type 0 where
  pub keeps : Keeps before now None
  pub stays : KeepsQueue before now queue front
  pub acts : WithPaths (λ path_of. ActsBy path_of before now queue front old new None)

-- an act at a place
pub record StandsAt (acts : List ClientAct) (at : ℕ) (one : ClientAct) : Type 0 where
  pub within : at < length acts
  pub is : one ≡ get_or acts at one

parted : (acts : List ClientAct) (at : ℕ) (one : ClientAct) → StandsAt acts at one → take at acts ++ (one ∷ drop (at + 1) acts) ≡ acts
parted acts at one stands =
    ap (λ (x : ClientAct). take at acts ++ (x ∷ drop (at + 1) acts)) stands.is ∙ ap (λ (l : List ClientAct). take at acts ++ l) (sym (drop_more acts at one stands.within)) ∙ take-append-drop at acts

pub DoneUpTo-nil : (a : Around) (queue : List Queued) (tally : Tally) → AreKnown a.desk.store.kept queue → DoneUpTo a a queue [] tally tally
DoneUpTo-nil a queue tally known = record {
  keeps = Keeps-nil a;
  stays = KeepsQueue-nil a queue known;
  acts = λ path_of reads. ([], 0, ActsDone-nil path_of a queue, tallied-nothing tally);
}

-- the next act is in order
pub order_next : (a b : Around) (queue : List Queued) (acts : List ClientAct) (at : ℕ) (one : ClientAct) (old mid : Tally) → StandsAt acts at one → DoneUpTo a b queue (take at acts) old mid
    → (place : ℕ) × AreOpenFrom a.desk.store.kept queue place × SettleFrom place acts → (place : ℕ) × AreOpenFrom b.desk.store.kept queue place × SettleFrom place (one ∷ [])
order_next a b queue acts at one old mid stands done (place, are_open, settle) =
    let front = take at acts in
    let rest = drop (at + 1) acts in
    let all : SettleFrom place (front ++ (one ∷ rest)) = subst (SettleFrom place) (sym (parted acts at one stands)) settle in (
      place + settled_count front,
      done.stays.unsettled place are_open (SettleFrom-first place front (one ∷ rest) all),
      SettleFrom-first (place + settled_count front) (one ∷ []) rest (SettleFrom-rest place front (one ∷ rest) all),
    )

-- there is room for it
pub room_next : (a b : Around) (queue : List Queued) (acts : List ClientAct) (at : ℕ) (one : ClientAct) (old mid : Tally) → StandsAt acts at one → DoneUpTo a b queue (take at acts) old mid
    → CanCount old acts → CanCount mid (one ∷ [])
room_next a b queue acts at one old mid stands done can =
    let path_of = oracles_given.0.path_of in
    let by = done.acts path_of oracles_given.1.paths in
    let front = take at acts in
    let rest = drop (at + 1) acts in
    let whole : CanCount old (front ++ (one ∷ rest)) = subst (CanCount old) (sym (parted acts at one stands)) can in
    CanCount-first mid (one ∷ []) rest (subst (λ (tally : Tally). CanCount tally (one ∷ rest)) (sym by.3)
    (CanCount-rest path_of a.desk.store queue (messages_of a.desk.store.kept queue) by.2.told old front (one ∷ rest) by.0 by.1 by.2.carries whole))

-- it was done too
pub turn_done : (a b c : Around) (queue : List Queued) (acts : List ClientAct) (at : ℕ) (one : ClientAct) (old mid new : Tally) → StandsAt acts at one → DoneUpTo a b queue (take at acts) old mid
    → Keeps b c None → KeepsQueue b c queue (one ∷ []) → WithPaths (λ path_of. ActsBy path_of b c queue (one ∷ []) mid new None) → DoneUpTo a c queue (take (at + 1) acts) old new
turn_done a b c queue acts at one old mid new stands done keeps stays by =
    let front = take at acts in
    let more : front ++ (one ∷ []) ≡ take (at + 1) acts = ap (λ (x : ClientAct). front ++ (x ∷ [])) stands.is ∙ sym (take_more acts at one stands.within) in
    subst (λ (all : List ClientAct). DoneUpTo a c queue all old new) more
    (record {
      keeps = Keeps-then a b c None done.keeps keeps;
      stays = KeepsQueue-then a b c queue front (one ∷ []) done.stays stays;
      acts = λ path_of reads. ActsBy-then path_of a b c queue front (one ∷ []) old mid new done.keeps done.stays.messages (done.acts path_of reads) (by path_of reads);
    })

-- it was broken off
pub turn_fails : (a b c : Around) (queue : List Queued) (acts : List ClientAct) (at : ℕ) (one : ClientAct) (old mid new : Tally) (met : Fault) → StandsAt acts at one → DoneUpTo a b queue (take at acts) old mid
    → WithPaths (λ path_of. ActsBy path_of b c queue (one ∷ []) mid new (Some met)) → WithPaths (λ path_of. ActsBy path_of a c queue acts old new (Some met))
turn_fails a b c queue acts at one old mid new met stands done by path_of reads =
    subst (λ (all : List ClientAct). ActsBy path_of a c queue all old new (Some met)) (parted acts at one stands)
    (ActsBy-between path_of a b c queue (take at acts) (one ∷ []) (drop (at + 1) acts) old mid new met done.keeps done.stays.messages (done.acts path_of reads) (by path_of reads))

-- all were
pub all_done : (a b : Around) (queue : List Queued) (acts : List ClientAct) (at : ℕ) (old new : Tally) → length acts ≤ at → DoneUpTo a b queue (take at acts) old new → DoneUpTo a b queue acts old new
all_done a b queue acts at old new end done = subst (λ (all : List ClientAct). DoneUpTo a b queue all old new) (take_all at acts end) done
