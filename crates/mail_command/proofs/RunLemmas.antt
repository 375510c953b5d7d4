-- What a run of a command does to its wire.
use Rattle.std.proofs.Common.{◌≡◌, ℕ, ◌+◌, ◌≤◌, inl, inr, List, [], ◌∷◌, ◌++◌, length, Option, Some, None, refl, sym, ap, ◌∙◌, arith, append-nil, subst, length-append}
use Rattle.std.specs.Prelude.{◌⊎◌, IfSome, IfOk, OnErr, Result, Ok, Err}
use Rattle.std.specs.Io.KnownBytes.{Consumes, IsAtEnd}
use Rattle.std.proofs.lemmas.Option.{IfSome_then}
use Rattle.mail_wire.specs.declared.outside.Entry.{Entry}
use Rattle.mail_wire.specs.declared.outside.Entry.TheVariants.{Taken, Given}
use Rattle.mail_wire.specs.WireState.{WireState}
use Rattle.mail_wire.specs.Transcript.{IsLawful, taken_of, given_of}
use Rattle.mail_wire.specs.Moves.{Moves, Gives, GivesPrefix}
use Rattle.mail_wire.proofs.Moving.{Moves-trans, taken_of-append, given_of-append, AreGiven-taken_of}
use Rattle.mail_wire.proofs.LawfulLemmas.{IsLawful-give}
use Rattle.mail_command.specs.Taking.{AreTaken, Takes, TakesUpTo}
use Rattle.mail_command.specs.declared.tasks.Task.{Task}
use Rattle.mail_command.specs.Giving.{GivesOne, BeginsOne, GivesNone, GivesPart}
use Rattle.mail_command.specs.Outcome.{message_max, Outcome, IsOutcome}
use Rattle.mail_wire.specs.declared.traffic.TheConstants.{PIECE}
use Rattle.session_core.specs.Serving.{IsPrefixOf}
use Rattle.setup_command.specs.Running.{IsBrokenOff}
use Rattle.mail_command.specs.Running.{AnswersAll, BreaksOff, IsExact, RunsTask}
use Rattle.setup_command.specs.Statuses.{status_of}
use Rattle.mail_wire.specs.declared.outside.Fault.{Fault}
use Rattle.mail_wire.specs.declared.outside.Fault.TheVariants as fault
use Rattle.mail_command.proofs.TakingLemmas.{AreTaken-given_of}
use Rattle.mail_command.proofs.OutcomeLemmas.{IsEnough, outcome_fine, outcome_once, outcome_whole}

-- before each take nothing was given
AreTaken-front : (xs ys : List Entry) → AreTaken (xs ++ ys) → AreTaken xs
AreTaken-front [] ys only = tt
AreTaken-front (Taken octets ∷ xs) ys only = AreTaken-front xs ys only
AreTaken-front (Given octets ∷ xs) ys only = absurd only

takes_quiet : (xs : List Entry) → AreTaken xs → IsLawful (λ taken. []) xs
takes_quiet xs only before octets after h = AreTaken-given_of before (AreTaken-front before (Taken octets ∷ after) (subst AreTaken h only))

-- Takes, and then gives: what was taken and given in all.
record TakesAndGives (a c : WireState) (taken given : List ℕ) : Type 0 where
  entries : List Entry
  moves : Moves a c entries
  quiet : IsLawful (λ taken. []) entries
  taken_is : taken_of entries ≡ taken
  given_is : given_of entries ≡ given

takes_and_gives : (a b c : WireState) (taken given : List ℕ) → Takes a b taken → Gives b c given → TakesAndGives a c taken given
takes_and_gives a b c taken given takes gives = record {
  entries = takes.entries ++ gives.entries;
  moves = Moves-trans a b c takes.entries gives.entries takes.moves gives.moves;
  quiet = IsLawful-give (λ taken. []) takes.entries gives.entries (takes_quiet takes.entries takes.only) gives.only;
  taken_is = taken_of-append takes.entries gives.entries ∙ ap (λ more. taken_of takes.entries ++ more) (AreGiven-taken_of gives.entries gives.only)
      ∙ append-nil (taken_of takes.entries) ∙ takes.octets_are;
  given_is = given_of-append takes.entries gives.entries ∙ ap (λ front. front ++ given_of gives.entries) (AreTaken-given_of takes.entries takes.only) ∙ gives.octets_are;
}

-- what the wire had left begins with what was taken, and is no more, if a message may be as large
enough_by : (l m : Option (List ℕ)) (taken : List ℕ) → Consumes l m taken → (length taken ≤ message_max → IsAtEnd m) → IfSome l (λ octets. IsEnough octets taken)
enough_by None m taken consumes end = tt
enough_by (Some l) None taken consumes end = absurd consumes
enough_by (Some l) (Some m) taken consumes end = record {
  more = m;
  begins = consumes;
  whole = λ fits. consumes ∙ ap (λ more. taken ++ more) (end fits) ∙ append-nil taken;
}

pub some_of : (l : Option (List ℕ)) (P : List ℕ → Type 0) → ((octets : List ℕ) → P octets) → IfSome l P
some_of None P each = tt
some_of (Some l) P each = each l

-- a prefix of one outcome is one of each, since there is one
prefix_of_each : (task : Task) (octets : List ℕ) (status : ℕ) (given whole : List ℕ) → Outcome task octets status whole → IsPrefixOf given whole
    → (other : ℕ) (others : List ℕ) → Outcome task octets other others → IsPrefixOf given others
prefix_of_each task octets status given whole outcome begins other others also =
    let same = outcome_once task octets status other whole others outcome also in
    subst (IsPrefixOf given) same.given_is begins

-- a prefix of the outcome of what was taken was given
breaks_by : (task : Task) (a c : WireState) (taken given : List ℕ) → TakesAndGives a c taken given → length taken ≤ message_max + PIECE → ((status : ℕ) (whole : List ℕ) → Outcome task taken status whole → IsPrefixOf given whole)
    → IfSome a.left (λ octets. (status : ℕ) (whole : List ℕ) → Outcome task octets status whole → IsPrefixOf given whole) → BreaksOff task a c
breaks_by task a c taken given both few begun whole = record {
  entries = both.entries;
  moves = both.moves;
  quiet = both.quiet;
  few = rw both.taken_is few;
  begun = rw (both.taken_is, both.given_is) begun;
  whole = rw both.given_is whole;
}

-- what was taken is all that was left, or more than a message may have
enough : (a b : WireState) (taken : List ℕ) → TakesUpTo message_max a b taken → IfSome a.left (λ octets. IsEnough octets taken)
enough a b taken takes = enough_by a.left b.left taken (subst (Consumes a.left b.left) takes.takes.octets_are takes.takes.moves.left) takes.end

all_of : (octets taken : List ℕ) → IsEnough octets taken → length octets ≤ message_max → taken ≡ octets
all_of octets taken all fits = let len = ap length all.begins in sym (all.whole (omega (arith, length-append taken all.more)))

-- a message was taken, and its outcome given
answers_all : (task : Task) (a b c : WireState) (taken given : List ℕ) (status : ℕ) → TakesUpTo message_max a b taken → Outcome task taken status given → Gives b c given → AnswersAll task a c status
answers_all task a b c taken given status takes outcome gives =
    let both = takes_and_gives a b c taken given takes.takes gives in
    record {
      entries = both.entries;
      moves = both.moves;
      quiet = both.quiet;
      few = rw both.taken_is takes.few;
      outcome = rw (both.taken_is, both.given_is) outcome;
      whole = rw both.given_is (IfSome_then a.left {P = λ octets. IsEnough octets taken} (enough a b taken takes) (λ octets all. outcome_whole task octets taken status given all outcome));
      all_taken = rw both.taken_is (IfSome_then a.left {P = λ octets. IsEnough octets taken} (enough a b taken takes) (λ octets all fits. all_of octets taken all fits));
    }

-- nothing was given yet
pub takes_partly : (task : Task) (a b c : WireState) (taken : List ℕ) → Takes a b taken → length taken ≤ message_max + PIECE → Gives b c [] → BreaksOff task a c
takes_partly task a b c taken takes few none =
    breaks_by task a c taken [] (takes_and_gives a b c taken [] takes none) few (λ status whole outcome. (whole, refl))
    (some_of a.left (λ octets. (status : ℕ) (whole : List ℕ) → Outcome task octets status whole → IsPrefixOf [] whole) (λ octets status whole outcome. (whole, refl)))

-- a message was taken, and its outcome given in part
answers_partly : (task : Task) (a b c : WireState) (taken given : List ℕ) (status : ℕ) → TakesUpTo message_max a b taken → Outcome task taken status given → GivesPrefix b c given
    → BreaksOff task a c
answers_partly task a b c taken given status takes outcome gives =
    let begins : IsPrefixOf gives.given given = (gives.missing, sym gives.whole) in
    breaks_by task a c taken gives.given (takes_and_gives a b c taken gives.given takes.takes gives.gives) takes.few (prefix_of_each task taken status gives.given given outcome begins)
    (IfSome_then a.left {P = λ octets. IsEnough octets taken} (enough a b taken takes)
    (λ octets all. prefix_of_each task octets status gives.given given (outcome_whole task octets taken status given all outcome) begins))

breaks_partly : (task : Task) (a b c : WireState) (taken : List ℕ) → TakesUpTo message_max a b taken → BeginsOne (IsOutcome task taken) b c → BreaksOff task a c
breaks_partly task a b c taken takes (GivesNone none) = takes_partly task a b c taken takes.takes takes.few none
breaks_partly task a b c taken takes (GivesPart octets outcome part) = answers_partly task a b c taken octets outcome.0 takes outcome.1 part

-- a message was taken, and this is what giving its outcome answered
pub answers_by : (task : Task) (a b c : WireState) (taken : List ℕ) (result : Result ℕ Fault) → TakesUpTo message_max a b taken → IfOk result (λ status. GivesOne (Outcome task taken status) b c)
    → IfOk result (AnswersAll task a c)
answers_by task a b c taken (Ok status) takes one = answers_all task a b c taken one.octets status takes one.holds one.gives
answers_by task a b c taken (Err fault) takes one = tt

pub breaks_off_by : (task : Task) (a b c : WireState) (taken : List ℕ) (result : Result ℕ Fault) → TakesUpTo message_max a b taken → OnErr result (BeginsOne (IsOutcome task taken) b c)
    → OnErr result (BreaksOff task a c)
breaks_off_by task a b c taken (Ok status) takes one = tt
breaks_off_by task a b c taken (Err fault) takes one = breaks_partly task a b c taken takes one

not_broken : (status : ℕ) → (status ≡ 7) ⊎ (status ≡ 0) → ¬ IsBrokenOff status
not_broken status (inl is) (inl wire) = absurd (omega (arith, is, wire))
not_broken status (inl is) (inr memory) = absurd (omega (arith, is, memory))
not_broken status (inr is) (inl wire) = absurd (omega (arith, is, wire))
not_broken status (inr is) (inr memory) = absurd (omega (arith, is, memory))

pub fine_by : (task : Task) (b c : WireState) (taken : List ℕ) (result : Result ℕ Fault) → IfOk result (λ status. GivesOne (Outcome task taken status) b c) → IfOk result (λ status. ¬ IsBrokenOff status)
fine_by task b c taken (Ok status) one = not_broken status (outcome_fine task taken status one.octets one.holds)
fine_by task b c taken (Err fault) one = tt

-- the answer is the status of each outcome that the octets have
pub exact_by : (task : Task) (a c : WireState) (status : ℕ) → AnswersAll task a c status → IsExact task a status
exact_by task a c status answers =
    IfSome_then a.left {P = λ octets. Outcome task octets status (given_of answers.entries)} answers.whole
    (λ octets outcome other others also. inl (outcome_once task octets status other (given_of answers.entries) others outcome also).status_is)

-- a task, by the answer of the function that runs it
pub runs_task : (task : Task) (a b : WireState) (result : Result ℕ Fault) → IfOk result (AnswersAll task a b) → IfOk result (λ status. ¬ IsBrokenOff status) → OnErr result (BreaksOff task a b)
    → (result ≡ Err fault.Keeper → ⊥) → RunsTask task a b (status_of result)
runs_task task a b (Ok status) answers fine breaks keeper = record {
  answers = λ _. answers;
  broken_off = λ is. absurd (fine is);
  exact = exact_by task a b status answers;
}
runs_task task a b (Err fault.Wire) answers fine breaks keeper = record {
  answers = λ not. absurd (not (inl refl));
  broken_off = λ _. breaks;
  exact = some_of a.left (λ octets. (status : ℕ) (given : List ℕ) → Outcome task octets status given → (1 ≡ status) ⊎ IsBrokenOff 1) (λ octets status given outcome. inr (inl refl));
}
runs_task task a b (Err fault.Keeper) answers fine breaks keeper = absurd (keeper refl)
runs_task task a b (Err fault.Memory) answers fine breaks keeper = record {
  answers = λ not. absurd (not (inr refl));
  broken_off = λ _. breaks;
  exact = some_of a.left (λ octets. (status : ℕ) (given : List ℕ) → Outcome task octets status given → (3 ≡ status) ⊎ IsBrokenOff 3) (λ octets status given outcome. inr (inr refl));
}
