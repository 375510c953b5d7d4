-- What calls do that ask the cache.
use Rattle.std.proofs.Common.{◌≡◌, ℕ, List, [], ◌++◌, Option, None, Some, refl, sym, ap, subst, ◌∙◌, append-nil}
use Rattle.std.specs.Prelude.{map}
use Rattle.std.specs.List.{flat_map}
use Rattle.mail_wire.specs.declared.outside.Fault.{Fault}
use Rattle.mail_wire.specs.declared.outside.Fault.TheVariants as fault
use Rattle.mail_wire.proofs.Moving.{Gives-nil, GivesOrFails-after, GivesPrefix-nil}
use Rattle.mail_store.proofs.FollowLemmas.{Follows-nil}
use Rattle.surrogate_cache.specs.Caching.{Asked, CacheState, Fetched}
use Rattle.surrogate_cache.proofs.HeldLemmas.{Fetched-append}
use Rattle.session_core.specs.Acts.{Act, asks as asks_for, acts_of, asking}
use Rattle.session_core.specs.Around.{Around}
use Rattle.session_core.specs.Doing.{Asks, AsksAndReplies, Does, DoesAll, DoesFirst, Replies}
use Rattle.session_core.specs.Keeps.{answer_of}
use Rattle.session_core.specs.declared.desk.Desk.{Desk}
use Rattle.session_core.proofs.DoneLemmas.{asked_in-acts, asked_in-asking, changes_in-acts, changes_in-asking, given_by-asking, octets_of_acts, StopsIn-asked, StopsIn-none}
use Rattle.session_core.proofs.DoingLemmas.{Does-then}

broken : {met : Fault} → Some met ≡ None → ⊥
broken is = cc

-- ---- fetches

pub Asks-nil : (a : Around) → Asks a a None []
Asks-nil a = record { wire = refl; store = refl; keeper = refl; fetched = λ whole. refl }

-- messages are asked for, and then others
pub Asks-then : (a b c : Around) (met : Option Fault) (asked more : List Asked) → Asks a b None asked → Asks b c met more → Asks a c met (asked ++ more)
Asks-then a b c met asked more one two = record {
  wire = two.wire ∙ one.wire;
  store = two.store ∙ one.store;
  keeper = two.keeper ∙ one.keeper;
  fetched = λ whole. Fetched-append asked more a.desk.cache b.desk.cache c.desk.cache (one.fetched refl) (two.fetched whole);
}

-- of fetches that were broken off nothing is said of what was asked for
pub Asks-broken : (a b : Around) (met : Fault) (asked others : List Asked) → Asks a b (Some met) asked → Asks a b (Some met) others
Asks-broken a b met asked others asks = record { wire = asks.wire; store = asks.store; keeper = asks.keeper; fetched = λ whole. absurd (broken whole) }

-- ---- fetches and replies

-- messages are asked for, and then a reply is given
pub AsksAndReplies-of : (a b c : Around) (met : Option Fault) (asked : List Asked) (octets : List ℕ) → Asks a b None asked → Replies b c met octets → AsksAndReplies a c met asked octets
AsksAndReplies-of a b c met asked octets asks replies = record {
  gives = rw (← asks.wire) replies.gives;
  store = ap (λ (desk : Desk). desk.store) replies.leaves.desk ∙ asks.store;
  keeper = replies.leaves.keeper ∙ asks.keeper;
  fetched = λ whole. subst (λ (cache : CacheState). Fetched a.desk.cache asked cache) (sym (ap (λ (desk : Desk). desk.cache) replies.leaves.desk)) (asks.fetched refl);
  fine = replies.fine;
}

-- a reply alone
pub AsksAndReplies-replies : (a b : Around) (met : Option Fault) (octets : List ℕ) → Replies a b met octets → AsksAndReplies a b met [] octets
AsksAndReplies-replies a b met octets replies = AsksAndReplies-of a a b met [] octets (Asks-nil a) replies

-- fetches alone
pub AsksAndReplies-asks : (a b : Around) (asked : List Asked) → Asks a b None asked → AsksAndReplies a b None asked []
AsksAndReplies-asks a b asked asks = record { gives = rw asks.wire (Gives-nil a.wire); store = asks.store; keeper = asks.keeper; fetched = asks.fetched; fine = λ bad. cc }

-- the fetches were broken off
pub AsksAndReplies-broken : (a b : Around) (met : Fault) (asked others : List Asked) (octets : List ℕ) → (met ≡ fault.Keeper → ⊥) → Asks a b (Some met) asked → AsksAndReplies a b (Some met) others octets
AsksAndReplies-broken a b met asked others octets fine asks = record {
  gives = rw asks.wire (GivesPrefix-nil a.wire octets);
  store = asks.store;
  keeper = asks.keeper;
  fetched = λ whole. absurd (broken whole);
  fine = λ is. let same : met ≡ fault.Keeper = cc in fine same;
}

-- messages are asked for and octets given, and then others
pub AsksAndReplies-then : (a b c : Around) (met : Option Fault) (asked more : List Asked) (octets others : List ℕ) → AsksAndReplies a b None asked octets → AsksAndReplies b c met more others
    → AsksAndReplies a c met (asked ++ more) (octets ++ others)
AsksAndReplies-then a b c met asked more octets others one two = record {
  gives = GivesOrFails-after a.wire b.wire c.wire (answer_of met) octets others one.gives two.gives;
  store = two.store ∙ one.store;
  keeper = two.keeper ∙ one.keeper;
  fetched = λ whole. Fetched-append asked more a.desk.cache b.desk.cache c.desk.cache (one.fetched refl) (two.fetched whole);
  fine = two.fine;
}

-- ---- acts after the messages that are asked for

asks_none : {P : Type 0} (spelled : P → List ℕ) (a b : Around) (asked : List Asked) → Asks a b None asked → DoesAll {P = P} spelled a b (asking asked [])
asks_none {P = P} spelled a b asked asks = record {
  gives = rw (given_by-asking spelled asked [], asks.wire) (Gives-nil a.wire);
  follows = rw (changes_in-asking {P = P} asked [], asks.store, asks.keeper) (Follows-nil a.desk.store a.keeper.octets);
  fetched = rw (asked_in-asking {P = P} asked [] ∙ append-nil asked) (asks.fetched refl);
}

-- the messages were asked for
pub DoesAll-asks : {P : Type 0} (spelled : P → List ℕ) (a b : Around) (asked : List Asked) → Asks a b None asked → DoesAll {P = P} spelled a b (map asks_for asked)
DoesAll-asks {P = P} spelled a b asked asks = subst (λ (acts : List (Act P)). DoesAll spelled a b acts) (append-nil (map asks_for asked)) (asks_none spelled a b asked asks)

-- and acts after them were done, or broken off
pub Does-asking : {P : Type 0} (spelled : P → List ℕ) (a b c : Around) (met : Option Fault) (asked : List Asked) (acts : List (Act P)) → Asks a b None asked → Does spelled b c met acts
    → Does spelled a c met (asking asked acts)
Does-asking spelled a b c met asked acts asks does = Does-then spelled a b c met (map asks_for asked) acts (DoesAll-asks spelled a b asked asks) does

-- the fetches were broken off, so of what is due nothing was given or changed
pub Does-unasked : {P : Type 0} (spelled : P → List ℕ) (a b : Around) (met : Fault) (asked : List Asked) (acts : List (Act P)) → (met ≡ fault.Keeper → ⊥) → Asks a b (Some met) asked → DoesFirst spelled a b met acts
Does-unasked spelled a b fault.Keeper asked acts fine asks = absurd (fine refl)
Does-unasked spelled a b fault.Wire asked acts fine asks =
    record { given = []; gives = rw asks.wire (Gives-nil a.wire); done = rw (asks.store, asks.keeper) (StopsIn-none spelled a.desk.store a.keeper.octets acts) }
Does-unasked spelled a b fault.Memory asked acts fine asks =
    record { given = []; gives = rw asks.wire (Gives-nil a.wire); done = rw (asks.store, asks.keeper) (StopsIn-none spelled a.desk.store a.keeper.octets acts) }

-- messages and a reply
pub Does-asked_reply : {P : Type 0} (spelled : P → List ℕ) (a b : Around) (met : Option Fault) (asked : List Asked) (reply : List P) → AsksAndReplies a b met asked (flat_map spelled reply)
    → Does spelled a b met (asking asked (acts_of [] reply))
Does-asked_reply spelled a b None asked reply both = record {
  gives = rw (given_by-asking spelled asked (acts_of [] reply), octets_of_acts spelled [] reply) both.gives;
  follows = rw (changes_in-asking asked (acts_of [] reply), changes_in-acts [] reply, both.store, both.keeper) (Follows-nil a.desk.store a.keeper.octets);
  fetched = rw (asked_in-asking asked (acts_of [] reply), asked_in-acts [] reply, append-nil asked) (both.fetched refl);
}
Does-asked_reply spelled a b (Some fault.Keeper) asked reply both = absurd (both.fine refl)
Does-asked_reply spelled a b (Some fault.Wire) asked reply both = record {
  given = both.gives.given;
  gives = both.gives.gives;
  done = rw (both.store, both.keeper) (StopsIn-asked spelled a.desk.store a.keeper.octets asked reply both.gives.given both.gives.missing both.gives.whole);
}
Does-asked_reply spelled a b (Some fault.Memory) asked reply both = record {
  given = both.gives.given;
  gives = both.gives.gives;
  done = rw (both.store, both.keeper) (StopsIn-asked spelled a.desk.store a.keeper.octets asked reply both.gives.given both.gives.missing both.gives.whole);
}
