-- Acts whose octets are given later.
use Rattle.std.proofs.Common.{◌≡◌, ℕ, List, [], ◌∷◌, ◌++◌, Option, None, Some, refl, sym, ap, subst, ◌∙◌, append-nil, append_assoc}
use Rattle.std.specs.Prelude.{map}
use Rattle.std.specs.List.{flat_map}
use Rattle.mail_wire.specs.declared.outside.Fault.{Fault}
use Rattle.mail_wire.specs.declared.outside.Fault.TheVariants as fault
use Rattle.mail_wire.proofs.Moving.{Gives-nil, Gives-trans}
use Rattle.journal_records.specs.declared.records.Record.{Record}
use Rattle.mail_store.proofs.FollowLemmas.{Follows-nil}
use Rattle.session_core.specs.Acts.{Act, asked_in, asking, asks, changes, changes_in, gives}
use Rattle.session_core.specs.Around.{Around}
use Rattle.session_core.specs.Doing.{Asks, AsksAndReplies, Does, DoesAll, DoesFirst, Makes, Replies}
use Rattle.session_core.specs.Done.{given_by, StopsIn}
use Rattle.session_core.proofs.AskingLemmas.{Asks-nil, AsksAndReplies-broken, AsksAndReplies-replies}
use Rattle.session_core.proofs.DoneLemmas.{asked_in-acts, asked_in-append, asked_in-asking, changes_in-acts, changes_in-append, changes_in-asking, given_by-append, given_by-asking, octets_of_acts}
use Rattle.session_core.proofs.DoingLemmas.{Does-replies, Does-changes, Does-unchanged, DoesAll-then, DoesFirst-before, DoesFirst-following, LeavesDesk-nil, Replies-stop}
use Rattle.surrogate_cache.specs.Caching.{Asked}
use Rattle.surrogate_cache.proofs.HeldLemmas.{Fetched-append}
use Rattle.imap_session.specs.private.Pending.{Owes, Carries}

pub Owes-nil : {P : Type 0} (spelled : P → List ℕ) (a : Around) → Owes spelled a a [] []
Owes-nil spelled a = record {
  done = [];
  late = [];
  acts_are = refl;
  unchanged = refl;
  pending_is = refl;
  gives = Gives-nil a.wire;
  follows = Follows-nil a.desk.store a.keeper.octets;
  fetched = refl;
}

pub Owes-all : {P : Type 0} (spelled : P → List ℕ) (a b : Around) (acts : List (Act P)) → DoesAll spelled a b acts → Owes spelled a b acts []
Owes-all spelled a b acts does = record {
  done = acts;
  late = [];
  acts_are = sym (append-nil acts);
  unchanged = refl;
  pending_is = refl;
  gives = does.gives;
  follows = does.follows;
  fetched = does.fetched;
}

-- what was given of the acts, and what is still to be given
given_of : {P : Type 0} (spelled : P → List ℕ) (a b : Around) (acts : List (Act P)) (pending : List ℕ) (owes : Owes spelled a b acts pending) → given_by spelled acts ≡ given_by spelled owes.done ++ pending
given_of spelled a b acts pending owes =
    ap (given_by spelled) owes.acts_are ∙ (given_by-append spelled owes.done owes.late ∙ ap (λ (z : List ℕ). given_by spelled owes.done ++ z) (sym owes.pending_is))

-- all changes were made
changed_of : {P : Type 0} (spelled : P → List ℕ) (a b : Around) (acts : List (Act P)) (pending : List ℕ) (owes : Owes spelled a b acts pending) → changes_in acts ≡ changes_in owes.done
changed_of {P} spelled a b acts pending owes =
    ap (λ (l : List (Act P)). changes_in l) owes.acts_are
    ∙ (changes_in-append owes.done owes.late ∙ (ap (λ (z : List (List Record)). changes_in owes.done ++ z) owes.unchanged ∙ append-nil (changes_in owes.done)))

-- all that was pending was given
given_all : {P : Type 0} (spelled : P → List ℕ) (before a b : Around) (first : List (Act P)) (owed : List ℕ) → Replies a b None owed → Owes spelled before a first owed → DoesAll spelled before b first
given_all spelled before a b first owed replies had = record {
  gives = rw (given_of spelled before a first owed had) (Gives-trans before.wire a.wire b.wire (given_by spelled had.done) owed had.gives replies.gives);
  follows = rw (replies.leaves.desk, replies.leaves.keeper, changed_of spelled before a first owed had) had.follows;
  fetched = rw replies.leaves.desk had.fetched;
}

-- or, before a fault, the first of it, and the store and the keeper are as they were
stops_at : {P : Type 0} (spelled : P → List ℕ) (before a b : Around) (first acts : List (Act P)) (owed given missing : List ℕ) → b.desk.store ≡ a.desk.store → b.keeper ≡ a.keeper
    → given ++ missing ≡ owed → (had : Owes spelled before a first owed)
    → StopsIn spelled before.desk.store b.desk.store before.keeper.octets b.keeper.octets (first ++ acts) (given_by spelled had.done ++ given)
stops_at {P} spelled before a b first acts owed given missing store keeper whole had = record {
  done = had.done;
  cut = had.late;
  left = acts;
  acts_are = ap (λ (l : List (Act P)). l ++ acts) had.acts_are ∙ append_assoc had.done had.late acts;
  unchanged = had.unchanged;
  begun = given;
  missing = missing;
  cut_is = sym had.pending_is ∙ sym whole;
  given_is = refl;
  follows = rw (store, keeper) had.follows;
}

given_first : {P : Type 0} (spelled : P → List ℕ) (before a b : Around) (met : Fault) (asked : List Asked) (first acts : List (Act P)) (owed : List ℕ) → AsksAndReplies a b (Some met) asked owed
    → Owes spelled before a first owed → DoesFirst spelled before b met (first ++ acts)
given_first spelled before a b fault.Keeper asked first acts owed replies had = absurd (replies.fine refl)
given_first spelled before a b fault.Wire asked first acts owed replies had = record {
  given = given_by spelled had.done ++ replies.gives.given;
  gives = Gives-trans before.wire a.wire b.wire (given_by spelled had.done) replies.gives.given had.gives replies.gives.gives;
  done = stops_at spelled before a b first acts owed replies.gives.given replies.gives.missing replies.store replies.keeper replies.gives.whole had;
}
given_first spelled before a b fault.Memory asked first acts owed replies had = record {
  given = given_by spelled had.done ++ replies.gives.given;
  gives = Gives-trans before.wire a.wire b.wire (given_by spelled had.done) replies.gives.given had.gives replies.gives.gives;
  done = stops_at spelled before a b first acts owed replies.gives.given replies.gives.missing replies.store replies.keeper replies.gives.whole had;
}

-- what was pending was given
pub Owes-given : {P : Type 0} (spelled : P → List ℕ) (before a b : Around) (met : Option Fault) (first : List (Act P)) (owed : List ℕ) → Replies a b met owed → Owes spelled before a first owed
    → Does spelled before b met first
Owes-given spelled before a b None first owed replies had = given_all spelled before a b first owed replies had
Owes-given {P} spelled before a b (Some met) first owed replies had =
    subst (λ (acts : List (Act P)). DoesFirst spelled before b met acts) (append-nil first)
    (given_first spelled before a b met [] first [] owed (AsksAndReplies-replies a b (Some met) owed replies) had)

-- where nothing is pending all was done
pub Owes-done : {P : Type 0} (spelled : P → List ℕ) (a b : Around) (acts : List (Act P)) → Owes spelled a b acts [] → DoesAll spelled a b acts
Owes-done spelled a b acts owes = given_all spelled a b b acts [] (record { gives = Gives-nil b.wire; leaves = LeavesDesk-nil b; fine = λ bad. cc }) owes

-- ---- what calls carry on

pub Carries-stop : {P : Type 0} (spelled : P → List ℕ) (a : Around) (met : Fault) (owed owes : List ℕ) (acts : List (Act P)) → (met ≡ fault.Keeper → ⊥) → Carries spelled a a (Some met) owed owes acts
Carries-stop spelled a met owed owes acts fine before first had =
    given_first spelled before a a met [] first acts owed (AsksAndReplies-replies a a (Some met) owed (Replies-stop a met owed fine)) had

-- the cache was asked while octets were put last
put_last : {P : Type 0} (spelled : P → List ℕ) (a b : Around) (owed owes : List ℕ) (acts : List (Act P)) → changes_in acts ≡ [] → owes ≡ owed ++ given_by spelled acts → Asks a b None (asked_in acts)
    → Carries spelled a b None owed owes acts
put_last {P} spelled a b owed owes acts quiet is fetches before first had = record {
  done = had.done;
  late = had.late ++ acts;
  acts_are = ap (λ (l : List (Act P)). l ++ acts) had.acts_are ∙ append_assoc had.done had.late acts;
  unchanged = changes_in-append had.late acts ∙ rw (had.unchanged, quiet) refl;
  pending_is = is ∙ (ap (λ (z : List ℕ). z ++ given_by spelled acts) had.pending_is ∙ sym (given_by-append spelled had.late acts));
  gives = rw fetches.wire had.gives;
  follows = rw (fetches.store, fetches.keeper) had.follows;
  fetched = rw (asked_in-append first acts) (Fetched-append (asked_in first) (asked_in acts) before.desk.cache a.desk.cache b.desk.cache had.fetched (fetches.fetched refl));
}

-- parts were put last
pub Carries-parts : {P : Type 0} (spelled : P → List ℕ) (a : Around) (owed owes : List ℕ) (parts : List P) → owes ≡ owed ++ flat_map spelled parts → Carries spelled a a None owed owes (map gives parts)
Carries-parts spelled a owed owes parts is =
    put_last spelled a a owed owes (map gives parts) (changes_in-acts [] parts) (is ∙ ap (λ (z : List ℕ). owed ++ z) (sym (octets_of_acts spelled [] parts)))
    (subst (λ (asked : List Asked). Asks a a None asked) (sym (asked_in-acts [] parts)) (Asks-nil a))

-- the cache found no memory
pub Carries-unasked : {P : Type 0} (spelled : P → List ℕ) (a b : Around) (owed owes : List ℕ) (asked : List Asked) (acts : List (Act P)) → Asks a b (Some fault.Memory) asked
    → Carries spelled a b (Some fault.Memory) owed owes acts
Carries-unasked spelled a b owed owes asked acts stopped before first had =
    given_first spelled before a b fault.Memory asked first acts owed (AsksAndReplies-broken a b fault.Memory asked asked owed (λ bad. cc) stopped) had

pub Carries-nil : {P : Type 0} (spelled : P → List ℕ) (a : Around) (owed : List ℕ) → Carries spelled a a None owed owed []
Carries-nil spelled a owed before first had = subst (λ acts. Owes spelled before a acts owed) (sym (append-nil first)) had

pub Carries-given : {P : Type 0} (spelled : P → List ℕ) (a b : Around) (met : Option Fault) (owed owes : List ℕ) → (met ≡ None → owes ≡ []) → Replies a b met owed → Carries spelled a b met owed owes []
Carries-given spelled a b None owed owes empty replies = λ before first had.
    rw (empty refl, append-nil) (Owes-all spelled before b first (given_all spelled before a b first owed replies had))
Carries-given spelled a b (Some met) owed owes empty replies = λ before first had.
    given_first spelled before a b met [] first [] owed (AsksAndReplies-replies a b (Some met) owed replies) had

-- parts were given, where nothing was pending
pub Carries-replies : {P : Type 0} (spelled : P → List ℕ) (a b : Around) (met : Option Fault) (parts : List P) → Replies a b met (flat_map spelled parts) → Carries spelled a b met [] [] (map gives parts)
Carries-replies spelled a b None parts replies = λ before first had.
    Owes-all spelled before b (first ++ map gives parts) (DoesAll-then spelled before a b first (map gives parts) (Owes-done spelled before a first had) (Does-replies spelled a b None parts replies))
Carries-replies spelled a b (Some met) parts replies = λ before first had.
    DoesFirst-following spelled before a b met first (map gives parts) (Owes-done spelled before a first had) (Does-replies spelled a b (Some met) parts replies)

-- a change was made, where nothing was pending
pub Carries-change : {P : Type 0} (spelled : P → List ℕ) (a b : Around) (met : Option Fault) (made : List Record) → Makes a b met (made ∷ []) → Carries spelled a b met [] [] (changes made ∷ [])
Carries-change spelled a b None made makes = λ before first had.
    Owes-all spelled before b (first ++ changes made ∷ []) (DoesAll-then spelled before a b first (changes made ∷ []) (Owes-done spelled before a first had)
    (Does-changes spelled a b b None (made ∷ []) [] makes (record { gives = Gives-nil b.wire; leaves = LeavesDesk-nil b; fine = λ bad. cc })))
Carries-change spelled a b (Some met) made makes = λ before first had.
    DoesFirst-following spelled before a b met first (changes made ∷ []) (Owes-done spelled before a first had) (Does-unchanged spelled a b met (made ∷ []) [] makes)

-- one call after another
pub Carries-then : {P : Type 0} (spelled : P → List ℕ) (a b c : Around) (met : Option Fault) (owed mid owes : List ℕ) (xs ys : List (Act P)) → Carries spelled a b None owed mid xs → Carries spelled b c met mid owes ys
    → Carries spelled a c met owed owes (xs ++ ys)
Carries-then spelled a b c None owed mid owes xs ys one two = λ before first had. rw (← append_assoc first xs ys) (two before (first ++ xs) (one before first had))
Carries-then spelled a b c (Some met) owed mid owes xs ys one two = λ before first had. rw (← append_assoc first xs ys) (two before (first ++ xs) (one before first had))

-- the cache was asked, and what is pending waits
waits : {P : Type 0} (spelled : P → List ℕ) (a b : Around) (owed : List ℕ) (asked : List Asked) → Asks a b None asked → Carries spelled a b None owed owed (asking asked [])
waits {P} spelled a b owed asked fetches =
    put_last spelled a b owed owed (asking asked []) (changes_in-asking asked []) (sym (append-nil owed) ∙ ap (λ (z : List ℕ). owed ++ z) (sym (given_by-asking spelled asked [])))
    (subst (λ (l : List Asked). Asks a b None l) (sym (asked_in-asking {P = P} asked [] ∙ append-nil asked)) fetches)

pub Carries-asking : {P : Type 0} (spelled : P → List ℕ) (a b c : Around) (met : Option Fault) (owed owes : List ℕ) (asked : List Asked) (acts : List (Act P)) → Asks a b None asked
    → Carries spelled b c met owed owes acts → Carries spelled a c met owed owes (asking asked acts)
Carries-asking {P} spelled a b c met owed owes asked acts fetches rest =
    Carries-then spelled a b c met owed owed owes (map asks asked) acts
    (subst (λ (l : List (Act P)). Carries spelled a b None owed owed l) (append-nil (map asks asked)) (waits spelled a b owed asked fetches)) rest

-- nothing more was done after these acts
pub Carries-on : {P : Type 0} (spelled : P → List ℕ) (a b c : Around) (met : Option Fault) (owed mid owes : List ℕ) (acts : List (Act P)) → Carries spelled a b None owed mid acts → Carries spelled b c met mid owes []
    → Carries spelled a c met owed owes acts
Carries-on {P} spelled a b c met owed mid owes acts one two =
    subst (λ (all : List (Act P)). Carries spelled a c met owed owes all) (append-nil acts) (Carries-then spelled a b c met owed mid owes acts [] one two)

-- a fault before others
pub Carries-before : {P : Type 0} (spelled : P → List ℕ) (a b : Around) (met : Fault) (owed mid owes : List ℕ) (xs ys : List (Act P)) → Carries spelled a b (Some met) owed mid xs
    → Carries spelled a b (Some met) owed owes (xs ++ ys)
Carries-before spelled a b met owed mid owes xs ys one before first had = rw (← append_assoc first xs ys) (DoesFirst-before spelled before b met (first ++ xs) ys (one before first had))

-- all that was pending was given, and then a change was made
pub Carries-changed : {P : Type 0} (spelled : P → List ℕ) (a b c : Around) (met : Option Fault) (owed owes : List ℕ) (made : List Record) → Carries spelled a b None owed owes [] → owes ≡ []
    → Makes b c met (made ∷ []) → Carries spelled a c met owed owes (changes made ∷ [])
Carries-changed spelled a b c met owed owes made given empty makes =
    let none : Carries spelled a b None owed [] [] = subst (λ (octets : List ℕ). Carries spelled a b None owed octets []) empty given in
    subst (λ (octets : List ℕ). Carries spelled a c met owed octets (changes made ∷ [])) (sym empty)
    (Carries-then spelled a b c met owed [] [] [] (changes made ∷ []) none (Carries-change spelled b c met made makes))
