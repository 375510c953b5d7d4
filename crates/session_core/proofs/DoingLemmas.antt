-- Acts that are done one after another.
use Rattle.std.proofs.Common.{◌≡◌, ℕ, List, [], ◌++◌, Option, None, Some, Result, Ok, Err, refl, ap, ◌∙◌, append-nil}
use Rattle.std.specs.Prelude.{map}
use Rattle.std.specs.List.{flat_map}
use Rattle.mail_wire.specs.declared.outside.Fault.{Fault}
use Rattle.mail_wire.specs.declared.outside.Fault.TheVariants as fault
use Rattle.mail_wire.specs.Moves.{GivesOrFails}
use Rattle.mail_wire.specs.WireState.{WireState}
use Rattle.mail_wire.proofs.Moving.{Gives-nil, Gives-trans, GivesPrefix-nil}
use Rattle.session_core.specs.Acts.{Act, gives as gives_part, acts_of, asked_in, changes_in}
use Rattle.session_core.specs.Done.{given_by, StopsIn}
use Rattle.mail_store.specs.Following.{records_of}
use Rattle.journal_records.specs.declared.records.Record.{Record}
use Rattle.surrogate_cache.proofs.HeldLemmas.{Fetched-append}
use Rattle.session_core.proofs.DoneLemmas.{given_by-append, records_in-append, asked_in-acts, asked_in-append, changes_in-acts, octets_of_acts, StopsIn-none, StopsIn-reply, IsDone-more}
use Rattle.mail_store.proofs.FollowLemmas.{Follows-nil, Follows-more}
use Rattle.session_core.specs.Around.{Around, LeavesDesk}
use Rattle.session_core.specs.Doing.{Does, DoesAll, DoesFirst, Makes, Replies}
use Rattle.session_core.specs.Keeps.{answer_of, fault_of}
use Rattle.session_core.specs.declared.desk.Desk.{Desk}

pub DoesAll-nil : {P : Type 0} (spelled : P → List ℕ) (a : Around) → DoesAll spelled a a []
DoesAll-nil spelled a = record { gives = Gives-nil a.wire; follows = Follows-nil a.desk.store a.keeper.octets; fetched = refl }

pub DoesAll-then : {P : Type 0} (spelled : P → List ℕ) (a b c : Around) (xs ys : List (Act P)) → DoesAll spelled a b xs → DoesAll spelled b c ys → DoesAll spelled a c (xs ++ ys)
DoesAll-then spelled a b c xs ys one two = record {
  gives = rw (given_by-append spelled xs ys) (Gives-trans a.wire b.wire c.wire (given_by spelled xs) (given_by spelled ys) one.gives two.gives);
  follows = rw (records_in-append xs ys)
      (Follows-more a.desk.store b.desk.store c.desk.store a.keeper.octets b.keeper.octets c.keeper.octets (records_of (changes_in xs)) (records_of (changes_in ys)) one.follows two.follows);
  fetched = rw (asked_in-append xs ys) (Fetched-append (asked_in xs) (asked_in ys) a.desk.cache b.desk.cache c.desk.cache one.fetched two.fetched);
}

-- some of these acts were done after others, and before others
pub DoesFirst-between : {P : Type 0} (spelled : P → List ℕ) (a b c : Around) (met : Fault) (xs ys more : List (Act P)) → DoesAll spelled a b xs → DoesFirst spelled b c met ys
    → DoesFirst spelled a c met (xs ++ (ys ++ more))
DoesFirst-between spelled a b c met xs ys more one two = record {
  given = given_by spelled xs ++ two.given;
  gives = Gives-trans a.wire b.wire c.wire (given_by spelled xs) two.given one.gives two.gives;
  done = IsDone-more spelled a.desk.store b.desk.store c.desk.store a.keeper.octets b.keeper.octets c.keeper.octets met xs ys more two.given one.follows two.done;
}

-- a fault in acts after others that were done
pub DoesFirst-following : {P : Type 0} (spelled : P → List ℕ) (a b c : Around) (met : Fault) (xs ys : List (Act P)) → DoesAll spelled a b xs → DoesFirst spelled b c met ys → DoesFirst spelled a c met (xs ++ ys)
DoesFirst-following spelled a b c met xs ys one two = rw append-nil at (DoesFirst-between spelled a b c met xs ys [] one two)

-- a fault in the first of these acts
pub DoesFirst-before : {P : Type 0} (spelled : P → List ℕ) (a b : Around) (met : Fault) (xs ys : List (Act P)) → DoesFirst spelled a b met xs → DoesFirst spelled a b met (xs ++ ys)
DoesFirst-before spelled a b met xs ys first = DoesFirst-between spelled a a b met [] xs ys (DoesAll-nil spelled a) first

-- acts after others
pub Does-then : {P : Type 0} (spelled : P → List ℕ) (a b c : Around) (met : Option Fault) (xs ys : List (Act P)) → DoesAll spelled a b xs → Does spelled b c met ys → Does spelled a c met (xs ++ ys)
Does-then spelled a b c None xs ys one two = DoesAll-then spelled a b c xs ys one two
Does-then spelled a b c (Some met) xs ys one two = DoesFirst-following spelled a b c met xs ys one two

-- a fault before anything was done
pub DoesFirst-none : {P : Type 0} (spelled : P → List ℕ) (a : Around) (met : Fault) (acts : List (Act P)) → (met ≡ fault.Keeper → ⊥) → DoesFirst spelled a a met acts
DoesFirst-none spelled a fault.Keeper acts fine = absurd (fine refl)
DoesFirst-none spelled a fault.Wire acts fine = record { given = []; gives = Gives-nil a.wire; done = StopsIn-none spelled a.desk.store a.keeper.octets acts }
DoesFirst-none spelled a fault.Memory acts fine = record { given = []; gives = Gives-nil a.wire; done = StopsIn-none spelled a.desk.store a.keeper.octets acts }

-- ---- replies

pub LeavesDesk-nil : (a : Around) → LeavesDesk a a
LeavesDesk-nil a = record { desk = refl; keeper = refl }

pub LeavesDesk-then : (a b c : Around) → LeavesDesk a b → LeavesDesk b c → LeavesDesk a c
LeavesDesk-then a b c one two = record { desk = two.desk ∙ one.desk; keeper = two.keeper ∙ one.keeper }

answered_as : (T : Type 0) (result : Result T Fault) (before now : WireState) (octets : List ℕ) → GivesOrFails before now result octets → GivesOrFails before now (answer_of (fault_of result)) octets
answered_as T (Ok x) before now octets gives = gives
answered_as T (Err met) before now octets gives = gives

fault_as : (T : Type 0) (result : Result T Fault) → ¬ (result ≡ Err fault.Keeper) → ¬ (fault_of result ≡ Some fault.Keeper)
fault_as T (Ok x) fine is = cc
fault_as T (Err met) fine is = let same : met ≡ fault.Keeper = cc in fine (rw same refl)

-- what a call gives that answers so
pub Replies-of : {T : Type 0} (a b : Around) (result : Result T Fault) (octets : List ℕ) → GivesOrFails a.wire b.wire result octets → LeavesDesk a b → ¬ (result ≡ Err fault.Keeper)
    → Replies a b (fault_of result) octets
Replies-of {T = T} a b result octets gives leaves fine = record { gives = answered_as T result a.wire b.wire octets gives; leaves = leaves; fine = fault_as T result fine }

-- a fault before anything was given
pub Replies-stop : (a : Around) (met : Fault) (octets : List ℕ) → (met ≡ fault.Keeper → ⊥) → Replies a a (Some met) octets
Replies-stop a met octets fine = record {
  gives = GivesPrefix-nil a.wire octets;
  leaves = LeavesDesk-nil a;
  fine = λ is. let same : met ≡ fault.Keeper = cc in fine same;
}

-- the changes were made, and of the reply a prefix was given
stopped : {P : Type 0} (spelled : P → List ℕ) (a b c : Around) (made : List (List Record)) (reply : List P) (given missing : List ℕ) → Makes a b None made → LeavesDesk b c
    → given ++ missing ≡ flat_map spelled reply → StopsIn spelled a.desk.store c.desk.store a.keeper.octets c.keeper.octets (acts_of made reply) given
stopped spelled a b c made reply given missing makes leaves whole =
    rw (leaves.desk, leaves.keeper) (StopsIn-reply spelled a.desk.store b.desk.store a.keeper.octets b.keeper.octets made reply given missing makes.changes whole)

-- changes, and then a reply
pub Does-changes : {P : Type 0} (spelled : P → List ℕ) (a b c : Around) (met : Option Fault) (made : List (List Record)) (reply : List P) → Makes a b None made → Replies b c met (flat_map spelled reply)
    → Does spelled a c met (acts_of made reply)
Does-changes spelled a b c None made reply makes replies = record {
  gives = rw (octets_of_acts spelled made reply, ← makes.wire) replies.gives;
  follows = rw (changes_in-acts made reply, replies.leaves.desk, replies.leaves.keeper) makes.changes;
  fetched = rw (asked_in-acts made reply) (ap (λ (desk : Desk). desk.cache) replies.leaves.desk ∙ makes.cache);
}
Does-changes spelled a b c (Some fault.Keeper) made reply makes replies = absurd (replies.fine refl)
Does-changes spelled a b c (Some fault.Wire) made reply makes replies = record {
  given = replies.gives.given;
  gives = rw (← makes.wire) replies.gives.gives;
  done = stopped spelled a b c made reply replies.gives.given replies.gives.missing makes replies.leaves replies.gives.whole;
}
Does-changes spelled a b c (Some fault.Memory) made reply makes replies = record {
  given = replies.gives.given;
  gives = rw (← makes.wire) replies.gives.gives;
  done = stopped spelled a b c made reply replies.gives.given replies.gives.missing makes replies.leaves replies.gives.whole;
}

-- a reply
pub Does-replies : {P : Type 0} (spelled : P → List ℕ) (a b : Around) (met : Option Fault) (reply : List P) → Replies a b met (flat_map spelled reply) → Does spelled a b met (acts_of [] reply)
Does-replies spelled a b met reply replies = Does-changes spelled a a b met [] reply (record { wire = refl; cache = refl; changes = Follows-nil a.desk.store a.keeper.octets }) replies

-- changes that broke off
pub Does-unchanged : {P : Type 0} (spelled : P → List ℕ) (a b : Around) (met : Fault) (made : List (List Record)) (reply : List P) → Makes a b (Some met) made → DoesFirst spelled a b met (acts_of made reply)
Does-unchanged spelled a b fault.Keeper made reply makes = record {
  given = [];
  gives = rw makes.wire (Gives-nil a.wire);
  done = record {
    done = [];
    failing = makes.changes.0;
    left = map gives_part reply;
    acts_are = ap (λ all. acts_of all reply) makes.changes.1;
    given_is = refl;
    breaks = makes.changes.2;
  };
}
Does-unchanged spelled a b fault.Memory made reply makes = record {
  given = [];
  gives = rw makes.wire (Gives-nil a.wire);
  done = rw (makes.changes.0, makes.changes.1) (StopsIn-none spelled a.desk.store a.keeper.octets (acts_of made reply));
}
Does-unchanged spelled a b fault.Wire made reply makes = record {
  given = [];
  gives = rw makes.wire (Gives-nil a.wire);
  done = rw (makes.changes.0, makes.changes.1) (StopsIn-none spelled a.desk.store a.keeper.octets (acts_of made reply));
}
