-- A session over a wire, between two takes and at its end, whatever its machine.
use Rattle.std.proofs.Common.{◌≡◌, ℕ, ◌+◌, ◌<◌, ◌≤◌, List, [], ◌∷◌, ◌++◌, length, take, Option, None, Some, Ok, Err, refl, sym, ap, ◌∙◌, append-nil, append_assoc, arith, inl, inr, subst, length-append}
use Rattle.std.specs.List.{All, AllByRecursion}
use Rattle.std.proofs.lemmas.List.{length-take-le}
use Rattle.std.proofs.lemmas.List.Elements.{All-nil}
use Rattle.std.proofs.lemmas.Option.{IfSome_then}
use Rattle.mail_wire.specs.declared.outside.Fault.{Fault}
use Rattle.mail_wire.specs.declared.outside.Fault.TheVariants as fault
use Rattle.mail_wire.specs.declared.traffic.TheConstants.{PIECE}
use Rattle.mail_wire.specs.WireState.{WireState}
use Rattle.session_core.specs.Turns.{Turn, IsFramed, stay, following, all_turns}
use Rattle.mail_wire.specs.Transcript.{taken_of}
use Rattle.mail_wire.specs.Moves.{TakesPiece, TakesNothing}
use Rattle.mail_wire.proofs.AllLemmas.{all-append}
use Rattle.session_core.proofs.TurnsLemmas.{all_turns-append, all_turns-stop}
use Rattle.session_core.specs.Acts.{Act, IsFitAct, changes, asked_in, changes_in}
use Rattle.session_core.specs.Done.{given_by, StopsIn, FailsIn, IsDone}
use Rattle.mail_store.specs.Following.{records_of, Follows}
use Rattle.mail_store.specs.StoreState.{StoreState}
use Rattle.surrogate_cache.specs.Caching.{CacheState, Fetched}
use Rattle.surrogate_cache.proofs.HeldLemmas.{Fetched-append}
use Rattle.session_core.proofs.DoneLemmas.{IsDone-more, asked_in-append, given_by-append, records_in-append}
use Rattle.mail_store.proofs.FollowLemmas.{Follows-more}
use Rattle.session_core.specs.Around.{Around, LeavesDesk}
use Rattle.session_core.specs.Desks.{IsOpen}
use Rattle.session_core.specs.Oracles.{Oracles, AreOracles, WithOracles}
use Rattle.session_core.specs.Moments.{Moment, IsTold}
use Rattle.session_core.specs.Protocol.{Protocol, IsFitTurn}
use Rattle.session_core.specs.Served.{met_of, served_of}
use Rattle.session_core.specs.Serving.{Instance, instance_of, turns_for, acts_for, asked_for, replies_to, changes_by, EndsBy, IsSent, IsPrefixOf, MayTake, ServesLawfully, ServesBy, ServesFrom}
use Rattle.session_core.specs.Sessions.{BeginsSession, Feeds, FeedsBy, HasEnded, StandsFor}
use Rattle.session_core.specs.Steps.{Standing}
use Rattle.session_core.specs.declared.desk.Desk.{Desk}
use Rattle.session_core.specs.declared.feeding.Session.{Session}
use Rattle.session_core.specs.declared.feeding.Session.TheVariants as session
use Rattle.session_core.specs.private.Taking.{FeedsTaken, TakesAndFeeds}
use Rattle.session_core.specs.declared.serving.Fed.{Fed}
use Rattle.session_core.specs.declared.serving.Served.{Served}
use Rattle.session_core.specs.declared.serving.Served.TheVariants.{Ended, Limit}
use Rattle.session_core.proofs.DoingLemmas.{DoesAll-nil, DoesFirst-between, DoesFirst-none}
use Rattle.session_core.proofs.FitLemmas.{TurnsFit, all_fit}
use Rattle.session_core.proofs.GoingLemmas.{Quiet, told_then}
use Rattle.session_core.proofs.TranscriptLemmas.{Grows, Serving, Halfway, Halfway-of, Serving-of, Halfway-first, Halfway-take, Halfway-give, Serving-nothing, left_begins, left_all, begins_answer}

-- ---- the laws of a machine

-- What holds of every machine: a turn doesn't depend on what comes later, a machine stands for no end, after which nothing comes, and what
-- is given may be sent.
pub record AreLaws (protocol : Protocol) {M : Type 0} (stands : Standing protocol M) : Type 0 where
  pub framed : (oracles : Oracles) → AreOracles oracles → IsFramed (protocol.next oracles)
  pub goes_on : (more : List Moment) (machine : M) (kept : List ℕ) (desk : Desk) (state : protocol.S) (rest : List ℕ) → stands more machine kept desk state rest → ¬ protocol.HasEnded state
  pub quiet : Quiet protocol
  pub begins_fit : (oracles : Oracles) → AreOracles oracles → (moments : List Moment) (desk : Desk) → IsOpen desk
      → IsFitTurn protocol oracles (record { parts = protocol.opening desk.store; after = protocol.start moments desk.store; rest = [] })
  pub fits : (oracles : Oracles) → AreOracles oracles → TurnsFit protocol oracles

-- what a session that stands for an end is
ended_session : (protocol : Protocol) {M : Type 0} (stands : Standing protocol M) → AreLaws protocol stands → (more : List Moment) (at : Session M) (desk : Desk) (state : protocol.S) (rest : List ℕ)
    → StandsFor protocol stands more at desk state rest → protocol.HasEnded state → HasEnded at
ended_session protocol stands laws more (session.Open reading) desk state rest stood ends = absurd (laws.goes_on more reading.machine reading.kept desk state rest stood ends)
ended_session protocol stands laws more session.Ended desk state rest stood ends = tt

ended_state : (protocol : Protocol) {M : Type 0} (stands : Standing protocol M) (more : List Moment) (at : Session M) (desk : Desk) (state : protocol.S) (rest : List ℕ)
    → StandsFor protocol stands more at desk state rest → HasEnded at → protocol.HasEnded state
ended_state protocol stands more (session.Open reading) desk state rest stood is = absurd is
ended_state protocol stands more session.Ended desk state rest stood is = stood

-- ---- a stream and a piece after it

-- the turns of a piece after a stream
abbrev pub piece_turn : (instance : Instance) → StoreState → List ℕ → List ℕ → Turn instance.S (Act instance.P)
piece_turn instance store octets piece = all_turns instance.next (turns_for instance store octets).after ((turns_for instance store octets).rest ++ piece)

turns_for-append : (instance : Instance) → IsFramed instance.next → (store : StoreState) (octets piece : List ℕ)
    → turns_for instance store (octets ++ piece) ≡ following (turns_for instance store octets).parts (piece_turn instance store octets piece)
turns_for-append instance framed store octets piece = all_turns-append instance.next framed (instance.start store) octets piece

acts_for-append : (instance : Instance) → IsFramed instance.next → (store : StoreState) (octets piece : List ℕ)
    → acts_for instance store (octets ++ piece) ≡ acts_for instance store octets ++ (piece_turn instance store octets piece).parts
acts_for-append instance framed store octets piece =
    ap (λ (turn : Turn instance.S (Act instance.P)). instance.opening store ++ turn.parts) (turns_for-append instance framed store octets piece)
    ∙ sym (append_assoc (instance.opening store) (turns_for instance store octets).parts (piece_turn instance store octets piece).parts)

replies_to-append : (instance : Instance) → IsFramed instance.next → (store : StoreState) (octets piece : List ℕ)
    → replies_to instance store (octets ++ piece) ≡ replies_to instance store octets ++ given_by instance.spelled (piece_turn instance store octets piece).parts
replies_to-append instance framed store octets piece =
    ap (given_by instance.spelled) (acts_for-append instance framed store octets piece)
    ∙ given_by-append instance.spelled (acts_for instance store octets) (piece_turn instance store octets piece).parts

grows : (instance : Instance) → IsFramed instance.next → (store : StoreState) → Grows (replies_to instance store)
grows instance framed store xs ys = (given_by instance.spelled (piece_turn instance store xs ys).parts, replies_to-append instance framed store xs ys)

turns_for-nil : (instance : Instance) (store : StoreState) → turns_for instance store [] ≡ stay (instance.start store) []
unfolding Rattle.session_core.specs.Turns.turns
turns_for-nil instance store = refl

acts_for-nil : (instance : Instance) (store : StoreState) → acts_for instance store [] ≡ instance.opening store
acts_for-nil instance store =
    ap (λ (turn : Turn instance.S (Act instance.P)). instance.opening store ++ turn.parts) (turns_for-nil instance store) ∙ append-nil (instance.opening store)

-- ---- what was done

after_begun : (a b c d : List ℕ) → a ++ ((b ++ c) ++ d) ≡ (a ++ b) ++ (c ++ d)
after_begun a b c d = ap (λ l. a ++ l) (append_assoc b c d) ∙ sym (append_assoc a b (c ++ d))

stops_begins : {P : Type 0} (spelled : P → List ℕ) (old new : StoreState) (had has : Option (List ℕ)) (acts : List (Act P)) (given : List ℕ) → StopsIn spelled old new had has acts given
    → IsPrefixOf given (given_by spelled acts)
stops_begins spelled old new had has acts given stops =
    let left = given_by spelled stops.left in (
      stops.missing ++ left,
      ap (given_by spelled) stops.acts_are ∙ given_by-append spelled stops.done (stops.cut ++ stops.left)
          ∙ ap (λ l. given_by spelled stops.done ++ l) (given_by-append spelled stops.cut stops.left ∙ ap (λ l. l ++ left) stops.cut_is)
          ∙ after_begun (given_by spelled stops.done) stops.begun stops.missing left ∙ ap (λ l. l ++ (stops.missing ++ left)) (sym stops.given_is),
    )

fails_begins : {P : Type 0} (spelled : P → List ℕ) (old new : StoreState) (had has : Option (List ℕ)) (acts : List (Act P)) (given : List ℕ) → FailsIn spelled old new had has acts given
    → IsPrefixOf given (given_by spelled acts)
fails_begins spelled old new had has acts given fails =
    let left = changes fails.failing ∷ fails.left in
    (given_by spelled left, ap (given_by spelled) fails.acts_are ∙ given_by-append spelled fails.done left ∙ ap (λ l. l ++ given_by spelled left) (sym fails.given_is))

-- what was given is a prefix of what the acts give
done_begins : {P : Type 0} (spelled : P → List ℕ) (old new : StoreState) (had has : Option (List ℕ)) (met : Option Fault) (acts : List (Act P)) (given : List ℕ)
    → IsDone spelled old new had has met acts given → IsPrefixOf given (given_by spelled acts)
done_begins spelled old new had has None acts given is = ([], sym is.0 ∙ sym (append-nil given))
done_begins spelled old new had has (Some fault.Keeper) acts given is = fails_begins spelled old new had has acts given is
done_begins spelled old new had has (Some fault.Wire) acts given is = stops_begins spelled old new had has acts given is
done_begins spelled old new had has (Some fault.Memory) acts given is = stops_begins spelled old new had has acts given is

-- a fault as the answer tells it
answered : (met : Fault) → met_of (served_of (Err met)) ≡ Some met
answered fault.Keeper = refl
answered fault.Wire = refl
answered fault.Memory = refl

not_ended : (met : Fault) → served_of (Err met) ≡ Ended → ⊥
not_ended fault.Keeper is = cc
not_ended fault.Wire is = cc
not_ended fault.Memory is = cc

not_limit : (met : Fault) → served_of (Err met) ≡ Limit → ⊥
not_limit fault.Keeper is = cc
not_limit fault.Wire is = cc
not_limit fault.Memory is = cc

not_whole : (met : Fault) → met_of (served_of (Err met)) ≡ None → ⊥
not_whole fault.Keeper is = cc
not_whole fault.Wire is = cc
not_whole fault.Memory is = cc

never_limit : Ended ≡ Limit → ⊥
never_limit is = cc

-- ---- what was served so far, by its answer

lawfully : (instance : Instance) → IsFramed instance.next → (store after : StoreState) (had has : Option (List ℕ)) (served : Served) (max : ℕ) (a b : WireState) (taken given : List ℕ) → length taken ≤ max
    → (half : Halfway (replies_to instance store) (MayTake instance store) a b taken given) → IsDone instance.spelled store after had has (met_of served) (acts_for instance store taken) given
    → (lawful : ServesLawfully instance store after had has served max a b) × (taken_of lawful.entries ≡ taken)
lawfully instance framed store after had has served max a b taken given few half done = (
  record {
    entries = half.entries;
    moves = half.moves;
    lawful = half.lawful;
    takes = half.takes;
    few = rw half.taken_is few;
    begun = rw half.given_is (begins_answer (replies_to instance store) (MayTake instance store) a b taken given (grows instance framed store) half
        (done_begins instance.spelled store after had has (met_of served) (acts_for instance store taken) given done));
    done = rw (half.taken_is, half.given_is) done;
  },
  half.taken_is,
)

-- a fault broke it off
broken_off : (instance : Instance) → IsFramed instance.next → (a b : Around) (met : Fault) (taken given : List ℕ) → length taken ≤ a.desk.limits.session_max
    → Halfway (replies_to instance a.desk.store) (MayTake instance a.desk.store) a.wire b.wire taken given
    → IsDone instance.spelled a.desk.store b.desk.store a.keeper.octets b.keeper.octets (Some met) (acts_for instance a.desk.store taken) given → ServesFrom instance a b (served_of (Err met))
broken_off instance framed a b met taken given few half done = record {
  serves = record {
    lawful = (lawfully instance framed a.desk.store b.desk.store a.keeper.octets b.keeper.octets (served_of (Err met)) a.desk.limits.session_max a.wire b.wire taken given few half (rw answered done)).0;
    ended = λ is. absurd (not_ended met is);
    limit = λ is. absurd (not_limit met is);
  };
  taken = λ is. absurd (not_whole met is);
  whole = λ is. absurd (not_ended met is);
}

-- ---- what holds between two takes

-- All that was taken is answered, its changes are made, what it asks for is fetched, and the session stands for what follows.
pub record GoesBy (protocol : Protocol) {M : Type 0} (stands : Standing protocol M) (oracles : Oracles) (moments more : List Moment) (a b : Around) (at : Session M) (taken : ℕ) : Type 0 where
  pub octets : List ℕ
  pub serving : Serving (replies_to (instance_of protocol oracles moments) a.desk.store) (MayTake (instance_of protocol oracles moments) a.desk.store) a.wire b.wire octets
  pub stood : StandsFor protocol stands more at b.desk (turns_for (instance_of protocol oracles moments) a.desk.store octets).after (turns_for (instance_of protocol oracles moments) a.desk.store octets).rest
  pub follows : Follows a.desk.store b.desk.store a.keeper.octets b.keeper.octets (records_of (changes_by (instance_of protocol oracles moments) a.desk.store octets))
  pub fetched : Fetched a.desk.cache (asked_for (instance_of protocol oracles moments) a.desk.store octets) b.desk.cache
  pub count : length octets ≡ taken

-- The same whatever is meant, with moments that the clock told, and whatever moments are to come.
pub record Goes (protocol : Protocol) {M : Type 0} (stands : Standing protocol M) (a b : Around) (at : Session M) (taken : ℕ) : Type 0 where
  pub told : List Moment
  pub are_told : All (IsTold a.clock) told
  pub goes : WithOracles (λ oracles. (more : List Moment) → GoesBy protocol stands oracles (told ++ more) more a b at taken)

-- the session has begun
pub goes_first : (protocol : Protocol) {M : Type 0} (stands : Standing protocol M) (a b : Around) (at : Session M) → BeginsSession protocol stands a b (Ok at) → Goes protocol stands a b at 0
goes_first protocol stands a b at begins = record {
  told = [];
  are_told = All-nil (IsTold a.clock);
  goes = λ oracles are more.
      let instance = instance_of protocol oracles more in
      let none = acts_for-nil instance a.desk.store in
      let does = begins.does oracles are in
      record {
        octets = [];
        serving = Serving-of (replies_to instance a.desk.store) (MayTake instance a.desk.store) a.wire b.wire [] (given_by instance.spelled (instance.opening a.desk.store))
            (Halfway-first (replies_to instance a.desk.store) (MayTake instance a.desk.store) a.wire b.wire (given_by instance.spelled (instance.opening a.desk.store)) does.gives)
            (sym (ap (given_by instance.spelled) none));
        stood = rw (turns_for-nil instance a.desk.store) (begins.stands_for more);
        follows = rw none does.follows;
        fetched = rw none does.fetched;
        count = refl;
      };
}

taken_more : (octets into : List ℕ) (taken n : ℕ) → length octets ≡ taken → n ≤ length into → length (octets ++ take n into) ≡ taken + n
taken_more octets into taken n count low = length-append octets (take n into) ∙ (rw (count, length-take-le n into low) refl)

-- a take of a session that goes on
may_take : (protocol : Protocol) {M : Type 0} (stands : Standing protocol M) → AreLaws protocol stands → (oracles : Oracles) (moments more : List Moment) (a b : Around) (at : Session M) (taken n : ℕ) (into : List ℕ)
    → (so : GoesBy protocol stands oracles moments more a b at taken) → (HasEnded at → ⊥) → n ≤ length into → n ≤ PIECE → MayTake (instance_of protocol oracles moments) a.desk.store so.octets (take n into)
may_take protocol stands laws oracles moments more a b at taken n into so still low most = record {
  goes_on = λ ends. still (ended_session protocol stands laws more at b.desk (turns_for (instance_of protocol oracles moments) a.desk.store so.octets).after (turns_for (instance_of protocol oracles moments) a.desk.store so.octets).rest so.stood ends);
  piece = rw (length-take-le n into low) most;
}

-- what a piece brought was done
more_by : (protocol : Protocol) {M : Type 0} (stands : Standing protocol M) → AreLaws protocol stands → (oracles : Oracles) → AreOracles oracles → (moments sooner more : List Moment) (a b c d : Around) (at next : Session M)
    (taken n : ℕ) (into : List ℕ) → (so : GoesBy protocol stands oracles moments sooner a b at taken) → (HasEnded at → ⊥) → LeavesDesk b c → TakesPiece b.wire c.wire n into → n ≤ length into → n ≤ PIECE
    → FeedsBy protocol stands oracles c d (Ok next) more (piece_turn (instance_of protocol oracles moments) a.desk.store so.octets (take n into)) → GoesBy protocol stands oracles moments more a d next (taken + n)
more_by protocol stands laws oracles are moments sooner more a b c d at next taken n into so still leaves took low most fed =
    let instance = instance_of protocol oracles moments in
    let framed = laws.framed oracles are in
    let store = a.desk.store in
    let turn = piece_turn instance store so.octets (take n into) in
    let front = replies_to instance store so.octets in
    let all = so.octets ++ take n into in
    let acts = acts_for-append instance framed store so.octets (take n into) in
    let given = given_by instance.spelled turn.parts in
    let after = rw (leaves.desk, leaves.keeper) at fed.does.follows in
    record {
      octets = all;
      serving = Serving-of (replies_to instance store) (MayTake instance store) a.wire d.wire all (front ++ given)
          (Halfway-give (replies_to instance store) (MayTake instance store) a.wire c.wire d.wire all front given
          (Halfway-take (replies_to instance store) (MayTake instance store) a.wire b.wire c.wire so.octets into n so.serving took (may_take protocol stands laws oracles moments sooner a b at taken n into so still low most)) fed.does.gives)
          (sym (replies_to-append instance framed store so.octets (take n into)));
      stood = rw (turns_for-append instance framed store so.octets (take n into)) fed.stands_for;
      follows = rw (acts, records_in-append (acts_for instance store so.octets) turn.parts)
          (Follows-more store b.desk.store d.desk.store a.keeper.octets b.keeper.octets d.keeper.octets (records_of (changes_by instance store so.octets)) (records_of (changes_in turn.parts)) so.follows after);
      fetched = rw (acts, asked_in-append (acts_for instance store so.octets) turn.parts)
          (Fetched-append (asked_for instance store so.octets) (asked_in turn.parts) a.desk.cache b.desk.cache d.desk.cache so.fetched (rw leaves.desk at fed.does.fetched));
      count = taken_more so.octets into taken n so.count low;
    }

-- the same moments, some of which were told by a later call
moments_as : (protocol : Protocol) {M : Type 0} (stands : Standing protocol M) (oracles : Oracles) (told later more : List Moment) (a b : Around) (at : Session M) (taken : ℕ)
    → GoesBy protocol stands oracles (told ++ (later ++ more)) (later ++ more) a b at taken → GoesBy protocol stands oracles ((told ++ later) ++ more) (later ++ more) a b at taken
moments_as protocol stands oracles told later more a b at taken so =
    subst (λ (moments : List Moment). GoesBy protocol stands oracles moments (later ++ more) a b at taken) (sym (append_assoc told later more)) so

-- one more piece
pub goes_on : (protocol : Protocol) {M : Type 0} (stands : Standing protocol M) → AreLaws protocol stands → (a b c d : Around) (at next : Session M) (taken n : ℕ) (into piece : List ℕ)
    → b.clock ≡ a.clock → c.clock ≡ b.clock → (HasEnded at → ⊥) → LeavesDesk b c → TakesPiece b.wire c.wire n into → n ≤ length into → n ≤ PIECE → piece ≡ take n into
    → Goes protocol stands a b at taken → Feeds protocol stands c d at (Ok next) piece → Goes protocol stands a d next (taken + n)
goes_on protocol stands laws a b c d at next taken n into piece clock ticks still leaves took low most same goes fed = record {
  told = goes.told ++ fed.told;
  are_told = told_then a.clock c.clock goes.told fed.told (ticks ∙ clock) goes.are_told fed.are_told;
  goes = λ oracles are more.
      let so = moments_as protocol stands oracles goes.told fed.told more a b at taken (goes.goes oracles are (fed.told ++ more)) in
      let turns = turns_for (instance_of protocol oracles ((goes.told ++ fed.told) ++ more)) a.desk.store so.octets in
      more_by protocol stands laws oracles are ((goes.told ++ fed.told) ++ more) (fed.told ++ more) more a b c d at next taken n into so still leaves took low most
      (rw same at (fed.feeds oracles are more turns.after turns.rest (rw leaves.desk so.stood)));
}

-- ---- the ends

-- the opening was broken off
pub start_fails : (protocol : Protocol) {M : Type 0} (stands : Standing protocol M) → AreLaws protocol stands → (a b : Around) (met : Fault) → BeginsSession protocol stands a b (Err met)
    → ServesBy protocol a b (served_of (Err met))
start_fails protocol stands laws a b met begins = record {
  told = [];
  are_told = All-nil (IsTold a.clock);
  holds = λ oracles are more.
      let instance = instance_of protocol oracles more in
      let does = begins.does oracles are in
      let store = a.desk.store in
      let first = DoesFirst-between instance.spelled a a b met [] (instance.opening store) (turns_for instance store []).parts (DoesAll-nil instance.spelled a) does in
      broken_off instance (laws.framed oracles are) a b met [] first.given (omega arith)
      (Halfway-first (replies_to instance store) (MayTake instance store) a.wire b.wire first.given first.gives) first.done;
}

-- a take failed
pub take_fails : (protocol : Protocol) {M : Type 0} (stands : Standing protocol M) → AreLaws protocol stands → (a b c : Around) (at : Session M) (taken : ℕ) (met : Fault) → (met ≡ fault.Keeper → ⊥)
    → taken ≤ a.desk.limits.session_max → LeavesDesk b c → TakesNothing b.wire c.wire → Goes protocol stands a b at taken → ServesBy protocol a c (served_of (Err met))
take_fails protocol stands laws a b c at taken met fine few leaves nothing goes = record {
  told = goes.told;
  are_told = goes.are_told;
  holds = λ oracles are more.
      let instance = instance_of protocol oracles (goes.told ++ more) in
      let so = goes.goes oracles are more in
      let store = a.desk.store in
      let acts = acts_for instance store so.octets in
      let front = replies_to instance store so.octets in
      let none = DoesFirst-none instance.spelled c met [] fine in
      let follows : Follows store c.desk.store a.keeper.octets c.keeper.octets (records_of (changes_in acts)) = rw (leaves.desk, leaves.keeper) so.follows in
      let done = IsDone-more instance.spelled store c.desk.store c.desk.store a.keeper.octets c.keeper.octets c.keeper.octets met acts [] [] none.given follows none.done in
      broken_off instance (laws.framed oracles are) a c met so.octets (front ++ none.given) (rw so.count few)
      (Halfway-give (replies_to instance store) (MayTake instance store) a.wire c.wire c.wire so.octets front none.given
      (Halfway-of (replies_to instance store) (MayTake instance store) a.wire c.wire so.octets (Serving-nothing (replies_to instance store) (MayTake instance store) a.wire b.wire c.wire so.octets so.serving nothing)) none.gives)
      (rw (append-nil acts) at done);
}

-- the acts of a piece were broken off
pub feed_fails : (protocol : Protocol) {M : Type 0} (stands : Standing protocol M) → AreLaws protocol stands → (a b c d : Around) (at : Session M) (taken n : ℕ) (into piece : List ℕ) (met : Fault)
    → taken + n ≤ a.desk.limits.session_max → b.clock ≡ a.clock → c.clock ≡ b.clock → (HasEnded at → ⊥) → LeavesDesk b c → TakesPiece b.wire c.wire n into → n ≤ length into → n ≤ PIECE → piece ≡ take n into
    → Goes protocol stands a b at taken → Feeds protocol stands c d at (Err met) piece → ServesBy protocol a d (served_of (Err met))
feed_fails protocol stands laws a b c d at taken n into piece met few clock ticks still leaves took low most same goes fed = record {
  told = goes.told ++ fed.told;
  are_told = told_then a.clock c.clock goes.told fed.told (ticks ∙ clock) goes.are_told fed.are_told;
  holds = λ oracles are more.
      let moments = (goes.told ++ fed.told) ++ more in
      let instance = instance_of protocol oracles moments in
      let so = moments_as protocol stands oracles goes.told fed.told more a b at taken (goes.goes oracles are (fed.told ++ more)) in
      let store = a.desk.store in
      let turns = turns_for instance store so.octets in
      let turn = piece_turn instance store so.octets (take n into) in
      let acts = acts_for instance store so.octets in
      let front = replies_to instance store so.octets in
      let by = rw same at (fed.feeds oracles are more turns.after turns.rest (rw leaves.desk so.stood)) in
      let follows : Follows store c.desk.store a.keeper.octets c.keeper.octets (records_of (changes_in acts)) = rw (leaves.desk, leaves.keeper) so.follows in
      let whole : acts_for instance store (so.octets ++ take n into) ≡ acts ++ (turn.parts ++ []) =
      acts_for-append instance (laws.framed oracles are) store so.octets (take n into) ∙ ap (λ l. acts ++ l) (sym (append-nil turn.parts)) in
      broken_off instance (laws.framed oracles are) a d met (so.octets ++ take n into) (front ++ by.does.given)
      (rw (taken_more so.octets into taken n so.count low) few)
      (Halfway-give (replies_to instance store) (MayTake instance store) a.wire c.wire d.wire (so.octets ++ take n into) front by.does.given
      (Halfway-take (replies_to instance store) (MayTake instance store) a.wire b.wire c.wire so.octets into n so.serving took (may_take protocol stands laws oracles moments (fed.told ++ more) a b at taken n into so still low most)) by.does.gives)
      (rw whole (IsDone-more instance.spelled store c.desk.store d.desk.store a.keeper.octets c.keeper.octets d.keeper.octets met acts turn.parts [] by.does.given follows by.does.done));
}

-- what is given of a stream may be sent
acts_fit : (protocol : Protocol) {M : Type 0} (stands : Standing protocol M) → AreLaws protocol stands → (oracles : Oracles) → AreOracles oracles → (moments : List Moment) (desk : Desk) (octets : List ℕ) → IsOpen desk
    → AllByRecursion (IsFitAct (protocol.Fits oracles)) (acts_for (instance_of protocol oracles moments) desk.store octets)
acts_fit protocol stands laws oracles are moments desk octets opens =
    let begun = laws.begins_fit oracles are moments desk opens in
    let later = all_fit protocol oracles (laws.fits oracles are) (protocol.start moments desk.store) octets begun.sound in
    all-append (IsFitAct (protocol.Fits oracles)) (protocol.opening desk.store) (turns_for (instance_of protocol oracles moments) desk.store octets).parts begun.fit later.fit

-- what was sent for octets
sent : (protocol : Protocol) {M : Type 0} (stands : Standing protocol M) → AreLaws protocol stands → (oracles : Oracles) → AreOracles oracles → (moments more : List Moment) (a b : Around) (at : Session M) (taken : ℕ) → IsOpen a.desk
    → (so : GoesBy protocol stands oracles moments more a b at taken)
    → IsSent (instance_of protocol oracles moments) a.desk.store b.desk.store a.keeper.octets b.keeper.octets so.octets (replies_to (instance_of protocol oracles moments) a.desk.store so.octets)
sent protocol stands laws oracles are moments more a b at taken opens so = record { replies = refl; fit = acts_fit protocol stands laws oracles are moments a.desk so.octets opens; changes = so.follows }

-- after the end more octets bring nothing
acts_for-over : (instance : Instance) → IsFramed instance.next → ((state : instance.S) (octets : List ℕ) → instance.HasEnded state → all_turns instance.next state octets ≡ stay state octets) → (store : StoreState) (octets more : List ℕ)
    → EndsBy instance store octets → acts_for instance store (octets ++ more) ≡ acts_for instance store octets
acts_for-over instance framed quiet store octets more ends =
    let turn = turns_for instance store octets in
    let none : piece_turn instance store octets more ≡ stay turn.after (turn.rest ++ more) = quiet turn.after (turn.rest ++ more) ends in
    acts_for-append instance framed store octets more
    ∙ ap (λ (t : Turn instance.S (Act instance.P)). acts_for instance store octets ++ t.parts) none ∙ append-nil (acts_for instance store octets)

fetched_more : (instance : Instance) → IsFramed instance.next → ((state : instance.S) (octets : List ℕ) → instance.HasEnded state → all_turns instance.next state octets ≡ stay state octets) → (store : StoreState) (old new : CacheState)
    (octets more : List ℕ) → EndsBy instance store octets → Fetched old (asked_for instance store octets) new → Fetched old (asked_for instance store (octets ++ more)) new
fetched_more instance framed quiet store old new octets more ends fetched = rw (acts_for-over instance framed quiet store octets more ends) fetched

sent_more : (instance : Instance) → IsFramed instance.next → ((state : instance.S) (octets : List ℕ) → instance.HasEnded state → all_turns instance.next state octets ≡ stay state octets) → (store after : StoreState) (had has : Option (List ℕ))
    (octets given more : List ℕ) → EndsBy instance store octets → IsSent instance store after had has octets given → IsSent instance store after had has (octets ++ more) given
sent_more instance framed quiet store after had has octets given more ends is =
    let acts = acts_for-over instance framed quiet store octets more ends in
    record {
      replies = is.replies ∙ sym (ap (given_by instance.spelled) acts);
      fit = rw acts is.fit;
      changes = rw acts is.changes;
    }

-- all that was taken was done
goes_lawfully : (protocol : Protocol) {M : Type 0} (stands : Standing protocol M) → AreLaws protocol stands → (oracles : Oracles) → AreOracles oracles → (moments more : List Moment) (a b : Around) (at : Session M) (taken : ℕ)
    (served : Served) → met_of served ≡ None → taken ≤ a.desk.limits.session_max → (so : GoesBy protocol stands oracles moments more a b at taken)
    → (lawful : ServesLawfully (instance_of protocol oracles moments) a.desk.store b.desk.store a.keeper.octets b.keeper.octets served a.desk.limits.session_max a.wire b.wire) × (taken_of lawful.entries ≡ so.octets)
goes_lawfully protocol stands laws oracles are moments more a b at taken served whole few so =
    let instance = instance_of protocol oracles moments in
    lawfully instance (laws.framed oracles are) a.desk.store b.desk.store a.keeper.octets b.keeper.octets served a.desk.limits.session_max a.wire b.wire so.octets (replies_to instance a.desk.store so.octets) (rw so.count few)
    (Halfway-of (replies_to instance a.desk.store) (MayTake instance a.desk.store) a.wire b.wire so.octets so.serving) (rw whole (refl, so.follows))

-- the session has ended
session_by : (protocol : Protocol) {M : Type 0} (stands : Standing protocol M) → AreLaws protocol stands → (oracles : Oracles) → AreOracles oracles → (moments more : List Moment) (a b : Around) (at : Session M) (taken : ℕ)
    → IsOpen a.desk → taken ≤ a.desk.limits.session_max → HasEnded at → GoesBy protocol stands oracles moments more a b at taken → ServesFrom (instance_of protocol oracles moments) a b Ended
session_by protocol stands laws oracles are moments more a b at taken opens few is so =
    let instance = instance_of protocol oracles moments in
    let store = a.desk.store in
    let turns = turns_for instance store so.octets in
    let ends : EndsBy instance store so.octets = ended_state protocol stands more at b.desk turns.after turns.rest so.stood is in
    let due = sent protocol stands laws oracles are moments more a b at taken opens so in
    let over = λ (state : instance.S) (octets : List ℕ) (ended : instance.HasEnded state). all_turns-stop instance.next state octets (laws.quiet oracles state octets ended) in
    let law = goes_lawfully protocol stands laws oracles are moments more a b at taken Ended refl few so in
    let begins = left_begins (replies_to instance store) (MayTake instance store) a.wire b.wire so.octets (replies_to instance store so.octets)
    (Halfway-of (replies_to instance store) (MayTake instance store) a.wire b.wire so.octets so.serving) in
    record {
      serves = record {
        lawful = law.0;
        ended = λ _. record {
          entries = so.serving.entries;
          moves = so.serving.moves;
          lawful = so.serving.lawful;
          takes = so.serving.takes;
          few = rw (so.serving.taken_is, so.count) few;
          sent = rw (so.serving.taken_is, so.serving.answered) due;
          whole = rw so.serving.answered (IfSome_then a.wire.left {P = λ octets. IsPrefixOf so.octets octets} begins
              (λ octets front. rw front.1 (sent_more instance (laws.framed oracles are) over store b.desk.store a.keeper.octets b.keeper.octets so.octets (replies_to instance store so.octets) front.0 ends due)));
          end = inl (rw so.serving.taken_is ends);
        };
        limit = λ bad. absurd (never_limit bad);
      };
      taken = λ _. rw law.1 so.fetched;
      whole = λ _. IfSome_then a.wire.left {P = λ octets. IsPrefixOf so.octets octets} begins
          (λ octets front. rw front.1 (fetched_more instance (laws.framed oracles are) over store a.desk.cache b.desk.cache so.octets front.0 ends so.fetched));
    }

pub session_ends : (protocol : Protocol) {M : Type 0} (stands : Standing protocol M) → AreLaws protocol stands → (a b : Around) (at : Session M) (taken : ℕ) → IsOpen a.desk → taken ≤ a.desk.limits.session_max → HasEnded at
    → Goes protocol stands a b at taken → ServesBy protocol a b Ended
session_ends protocol stands laws a b at taken opens few is goes = record {
  told = goes.told;
  are_told = goes.are_told;
  holds = λ oracles are more. session_by protocol stands laws oracles are (goes.told ++ more) more a b at taken opens few is (goes.goes oracles are more);
}

-- nothing was left to take
input_by : (protocol : Protocol) {M : Type 0} (stands : Standing protocol M) → AreLaws protocol stands → (oracles : Oracles) → AreOracles oracles → (moments more : List Moment) (a b c : Around) (at : Session M) (taken n : ℕ) (into : List ℕ)
    → IsOpen a.desk → (HasEnded at → ⊥) → LeavesDesk b c → TakesPiece b.wire c.wire n into → n ≡ 0 → taken < a.desk.limits.session_max → GoesBy protocol stands oracles moments more a b at taken
    → ServesFrom (instance_of protocol oracles moments) a c Ended
input_by protocol stands laws oracles are moments more a b c at taken n into opens still leaves piece none low so =
    let instance = instance_of protocol oracles moments in
    let store = a.desk.store in
    let max = a.desk.limits.session_max in
    let due : IsSent instance store c.desk.store a.keeper.octets c.keeper.octets so.octets (replies_to instance store so.octets) =
    rw (leaves.desk, leaves.keeper) (sent protocol stands laws oracles are moments more a b at taken opens so) in
    let follows : Follows store c.desk.store a.keeper.octets c.keeper.octets (records_of (changes_by instance store so.octets)) = rw (leaves.desk, leaves.keeper) so.follows in
    let fetched : Fetched a.desk.cache (asked_for instance store so.octets) c.desk.cache = rw leaves.desk so.fetched in
    let half = Halfway-take (replies_to instance store) (MayTake instance store) a.wire b.wire c.wire so.octets into n so.serving piece
    (may_take protocol stands laws oracles moments more a b at taken n into so still (omega (arith, none)) (omega (arith, none))) in
    let same : so.octets ++ take n into ≡ so.octets = rw none (append-nil so.octets) in
    let taken_is : taken_of half.entries ≡ so.octets = half.taken_is ∙ same in
    let law = lawfully instance (laws.framed oracles are) store c.desk.store a.keeper.octets c.keeper.octets Ended max a.wire c.wire (so.octets ++ take n into) (replies_to instance store so.octets)
    (rw same (omega (arith, so.count))) half (rw same (refl, follows)) in
    let all_left = left_all (replies_to instance store) (MayTake instance store) a.wire c.wire (so.octets ++ take n into) (replies_to instance store so.octets) half (piece.end none) in
    record {
      serves = record {
        lawful = law.0;
        ended = λ _. record {
          entries = half.entries;
          moves = half.moves;
          lawful = half.lawful;
          takes = half.takes;
          few = rw taken_is (omega (arith, so.count));
          sent = rw (taken_is, half.given_is) due;
          whole = rw half.given_is (IfSome_then a.wire.left {P = λ octets. so.octets ++ take n into ≡ octets} all_left
              (λ octets all. subst (λ xs. IsSent instance store c.desk.store a.keeper.octets c.keeper.octets xs (replies_to instance store so.octets)) (sym same ∙ all) due));
          end = inr (piece.end none, rw taken_is (omega (arith, so.count)));
        };
        limit = λ bad. absurd (never_limit bad);
      };
      taken = λ _. rw (law.1, same) fetched;
      whole = λ _. IfSome_then a.wire.left {P = λ octets. so.octets ++ take n into ≡ octets} all_left
          (λ octets all. subst (λ xs. Fetched a.desk.cache (asked_for instance store xs) c.desk.cache) (sym same ∙ all) fetched);
    }

pub input_ends : (protocol : Protocol) {M : Type 0} (stands : Standing protocol M) → AreLaws protocol stands → (a b c : Around) (at : Session M) (taken n : ℕ) (into : List ℕ) → IsOpen a.desk → (HasEnded at → ⊥)
    → LeavesDesk b c → TakesPiece b.wire c.wire n into → n ≡ 0 → taken < a.desk.limits.session_max → Goes protocol stands a b at taken → ServesBy protocol a c Ended
input_ends protocol stands laws a b c at taken n into opens still leaves piece none low goes = record {
  told = goes.told;
  are_told = goes.are_told;
  holds = λ oracles are more. input_by protocol stands laws oracles are (goes.told ++ more) more a b c at taken n into opens still leaves piece none low (goes.goes oracles are more);
}

-- ---- a take, and what was fed

-- one piece more
pub fed_on : (protocol : Protocol) {M : Type 0} (stands : Standing protocol M) → AreLaws protocol stands → (a b c : Around) (at : Session M) (taken room : ℕ) (fed : Fed M) → b.clock ≡ a.clock → (HasEnded at → ⊥)
    → room ≤ PIECE → Goes protocol stands a b at taken → FeedsTaken protocol stands b c at room fed.count (Ok fed.session) → Goes protocol stands a c fed.session (taken + fed.count)
fed_on protocol stands laws a b c at taken room fed clock still few goes one =
    goes_on protocol stands laws a b one.between c at fed.session taken fed.count one.into (take fed.count one.into) clock one.clock still one.leaves one.takes one.bound (omega (arith, one.bound, one.fits)) refl goes one.feeds

-- the take failed, or the feeding
pub fed_fails : (protocol : Protocol) {M : Type 0} (stands : Standing protocol M) → AreLaws protocol stands → (a b c : Around) (at : Session M) (taken room : ℕ) (met : Fault) → b.clock ≡ a.clock → (HasEnded at → ⊥)
    → room ≤ PIECE → taken + room ≤ a.desk.limits.session_max → Goes protocol stands a b at taken → TakesAndFeeds protocol stands b c at room (Err met) → ServesBy protocol a c (served_of (Err met))
fed_fails protocol stands laws a b c at taken room met clock still few most goes (inl none) =
    take_fails protocol stands laws a b c at taken met none.0 (omega (arith, most)) none.1 none.2 goes
fed_fails protocol stands laws a b c at taken room met clock still few most goes (inr failed) =
    let one = failed.1 in
    feed_fails protocol stands laws a b one.between c at taken failed.0 one.into (take failed.0 one.into) met (omega (arith, most, one.bound, one.fits)) clock one.clock still one.leaves one.takes one.bound
    (omega (arith, one.bound, one.fits, few)) refl goes one.feeds

-- the limit was reached
limit_by : (protocol : Protocol) {M : Type 0} (stands : Standing protocol M) → AreLaws protocol stands → (oracles : Oracles) → AreOracles oracles → (moments more : List Moment) (a b : Around) (at : Session M) (taken : ℕ)
    → IsOpen a.desk → (HasEnded at → ⊥) → taken ≡ a.desk.limits.session_max → GoesBy protocol stands oracles moments more a b at taken → ServesFrom (instance_of protocol oracles moments) a b Limit
limit_by protocol stands laws oracles are moments more a b at taken opens still full so =
    let instance = instance_of protocol oracles moments in
    let store = a.desk.store in
    let turns = turns_for instance store so.octets in
    let law = goes_lawfully protocol stands laws oracles are moments more a b at taken Limit refl (omega (arith, full)) so in
    record {
      serves = record {
        lawful = law.0;
        ended = λ bad. absurd (never_limit (sym bad));
        limit = λ _. record {
          entries = so.serving.entries;
          moves = so.serving.moves;
          lawful = so.serving.lawful;
          takes = so.serving.takes;
          sent = rw (so.serving.taken_is, so.serving.answered) (sent protocol stands laws oracles are moments more a b at taken opens so);
          full = rw so.serving.taken_is (so.count ∙ full);
          goes_on = rw so.serving.taken_is (λ ends. still (ended_session protocol stands laws more at b.desk turns.after turns.rest so.stood ends));
        };
      };
      taken = λ _. rw law.1 so.fetched;
      whole = λ bad. absurd (never_limit (sym bad));
    }

pub limit_reached : (protocol : Protocol) {M : Type 0} (stands : Standing protocol M) → AreLaws protocol stands → (a b : Around) (at : Session M) (taken : ℕ) → IsOpen a.desk → (HasEnded at → ⊥)
    → taken ≡ a.desk.limits.session_max → Goes protocol stands a b at taken → ServesBy protocol a b Limit
limit_reached protocol stands laws a b at taken opens still full goes = record {
  told = goes.told;
  are_told = goes.are_told;
  holds = λ oracles are more. limit_by protocol stands laws oracles are (goes.told ++ more) more a b at taken opens still full (goes.goes oracles are more);
}
