-- Calls of a wire, one after another.
use Rattle.std.proofs.Common.{◌≡◌, ℕ, List, [], ◌∷◌, ◌++◌, take, drop, refl, sym, ap, ◌∙◌, append_assoc, append-nil, Option, Some, None, Result, Ok, Err, ◌≤◌, arith}
use Rattle.std.proofs.lemmas.List.{take-append-drop}
use Rattle.std.specs.Io.KnownBytes.{Consumes, Keeps}
use Rattle.std.proofs.KnownBytes.{Consumes-nil, Consumes-trans}
use Rattle.mail_wire.specs.declared.outside.Entry.{Entry}
use Rattle.mail_wire.specs.declared.outside.Entry.TheVariants.{Taken, Given}
use Rattle.mail_wire.specs.declared.outside.Failed.{Failed}
use Rattle.mail_wire.specs.declared.outside.Failed.TheVariants.{Outside, Memory}
use Rattle.mail_wire.specs.Transcript.{Adds, AreGiven, taken_of, given_of}
use Rattle.mail_wire.specs.WireState.{WireState}
use Rattle.mail_wire.specs.Moves.{GiveNotes, Moves, Gives, GivesPrefix, GivesOrFails, GoesOn, HasWireCause}
use Rattle.mail_wire.specs.Causes.{Rose}

pub Adds-nil : (told : Option (List Entry)) → Adds told told []
Adds-nil None = tt
Adds-nil (Some entries) = sym (append-nil entries)

pub Adds-trans : (a b c : Option (List Entry)) (xs ys : List Entry) → Adds a b xs → Adds b c ys → Adds a c (xs ++ ys)
Adds-trans None b c xs ys first second = tt
Adds-trans (Some a) None c xs ys first second = absurd first
Adds-trans (Some a) (Some b) None xs ys first second = absurd second
Adds-trans (Some a) (Some b) (Some c) xs ys first second = second ∙ ap (λ entries. entries ++ ys) first ∙ append_assoc a xs ys

pub taken_of-append : (xs ys : List Entry) → taken_of (xs ++ ys) ≡ taken_of xs ++ taken_of ys
taken_of-append [] ys = refl
taken_of-append (Taken octets ∷ xs) ys = ap (λ taken. octets ++ taken) (taken_of-append xs ys) ∙ sym (append_assoc octets (taken_of xs) (taken_of ys))
taken_of-append (Given octets ∷ xs) ys = taken_of-append xs ys

pub given_of-append : (xs ys : List Entry) → given_of (xs ++ ys) ≡ given_of xs ++ given_of ys
given_of-append [] ys = refl
given_of-append (Given octets ∷ xs) ys = ap (λ given. octets ++ given) (given_of-append xs ys) ∙ sym (append_assoc octets (given_of xs) (given_of ys))
given_of-append (Taken octets ∷ xs) ys = given_of-append xs ys

pub AreGiven-append : (xs ys : List Entry) → AreGiven xs → AreGiven ys → AreGiven (xs ++ ys)
AreGiven-append [] ys first second = second
AreGiven-append (Taken octets ∷ xs) ys first second = absurd first
AreGiven-append (Given octets ∷ xs) ys first second = AreGiven-append xs ys first second

pub AreGiven-taken_of : (xs : List Entry) → AreGiven xs → taken_of xs ≡ []
AreGiven-taken_of [] only = refl
AreGiven-taken_of (Taken octets ∷ xs) only = absurd only
AreGiven-taken_of (Given octets ∷ xs) only = AreGiven-taken_of xs only

pub Moves-nil : (a : WireState) → Moves a a []
Moves-nil a = record { left = Consumes-nil a.left; noted = Adds-nil a.transcript }

pub Moves-trans : (a b c : WireState) (xs ys : List Entry) → Moves a b xs → Moves b c ys → Moves a c (xs ++ ys)
Moves-trans a b c xs ys first second = record {
  left = rw taken_of-append (Consumes-trans a.left b.left c.left (taken_of xs) (taken_of ys) first.left second.left);
  noted = Adds-trans a.transcript b.transcript c.transcript xs ys first.noted second.noted;
}

pub Consumes-kept : (l m : Option (List ℕ)) → Keeps l m → Consumes l m []
Consumes-kept None m keeps = tt
Consumes-kept (Some l) None keeps = absurd keeps
Consumes-kept (Some l) (Some m) keeps = sym keeps

-- one call of `take`
pub Moves-take : (a b : WireState) (piece : List ℕ) → Consumes a.left b.left piece → Adds a.transcript b.transcript (Taken piece ∷ []) → Moves a b (Taken piece ∷ [])
Moves-take a b piece consumes adds = record { left = rw append-nil consumes; noted = adds }

-- a call of `give` that gave these octets
pub Moves-give : (a b : WireState) (octets : List ℕ) → Keeps a.left b.left → Adds a.transcript b.transcript (Given octets ∷ []) → Moves a b (Given octets ∷ [])
Moves-give a b octets keeps adds = record { left = Consumes-kept a.left b.left keeps; noted = adds }

pub Moves-none : (a b : WireState) → Keeps a.left b.left → Adds a.transcript b.transcript [] → Moves a b []
Moves-none a b keeps adds = record { left = Consumes-kept a.left b.left keeps; noted = adds }

pub Gives-nil : (a : WireState) → Gives a a []
Gives-nil a = record { entries = []; moves = Moves-nil a; only = tt; octets_are = refl }

pub Gives-trans : (a b c : WireState) (xs ys : List ℕ) → Gives a b xs → Gives b c ys → Gives a c (xs ++ ys)
Gives-trans a b c xs ys first second = record {
  entries = first.entries ++ second.entries;
  moves = Moves-trans a b c first.entries second.entries first.moves second.moves;
  only = AreGiven-append first.entries second.entries first.only second.only;
  octets_are = given_of-append first.entries second.entries ∙ (rw (first.octets_are, second.octets_are) refl);
}

-- after a whole part a prefix of the next one
pub Gives-prefix : (a b c : WireState) (xs ys : List ℕ) → Gives a b xs → GivesPrefix b c ys → GivesPrefix a c (xs ++ ys)
Gives-prefix a b c xs ys first second = record {
  given = xs ++ second.given;
  missing = second.missing;
  whole = append_assoc xs second.given second.missing ∙ ap (λ more. xs ++ more) second.whole;
  gives = Gives-trans a b c xs second.given first second.gives;
}

-- a prefix of octets is one of those octets with more after them
pub GivesPrefix-more : (a b : WireState) (xs ys : List ℕ) → GivesPrefix a b xs → GivesPrefix a b (xs ++ ys)
GivesPrefix-more a b xs ys first = record {
  given = first.given;
  missing = first.missing ++ ys;
  whole = sym (append_assoc first.given first.missing ys) ∙ ap (λ all. all ++ ys) first.whole;
  gives = first.gives;
}

-- nothing was given yet
pub GivesPrefix-nil : (a : WireState) (octets : List ℕ) → GivesPrefix a a octets
GivesPrefix-nil a octets = record { given = []; missing = octets; whole = refl; gives = Gives-nil a }

-- what was given so far is a prefix of all
pub GivesPrefix-so_far : (a b : WireState) (xs ys : List ℕ) → Gives a b xs → GivesPrefix a b (xs ++ ys)
GivesPrefix-so_far a b xs ys first = record { given = xs; missing = ys; whole = refl; gives = first }

one_give : (a b : WireState) (octets : List ℕ) → Keeps a.left b.left → Adds a.transcript b.transcript (Given octets ∷ []) → Gives a b octets
one_give a b octets keeps adds = record { entries = Given octets ∷ []; moves = Moves-give a b octets keeps adds; only = tt; octets_are = append-nil octets }

no_give : (a b : WireState) → Keeps a.left b.left → Adds a.transcript b.transcript [] → Gives a b []
no_give a b keeps adds = record { entries = []; moves = Moves-none a b keeps adds; only = tt; octets_are = refl }

-- one call of `give`
pub give_gives : {T : Type 0} (a b : WireState) (result : Result T Failed) (octets : List ℕ) → Keeps a.left b.left → GiveNotes a.transcript b.transcript result octets
    → GivesOrFails a b result octets
give_gives a b (Ok done) octets keeps notes = one_give a b octets keeps notes
give_gives a b (Err Outside) octets keeps notes = record {
  given = take notes.0 octets;
  missing = drop notes.0 octets;
  whole = take-append-drop notes.0 octets;
  gives = one_give a b (take notes.0 octets) keeps notes.1;
}
give_gives a b (Err Memory) octets keeps notes = record { given = []; missing = octets; whole = refl; gives = no_give a b keeps notes }

Rose-later : (a b c : ℕ) → Rose a b → b ≤ c → Rose a c
Rose-later a b c rose later = omega arith

pub Rose-earlier : (a b c : ℕ) → a ≤ b → Rose b c → Rose a c
Rose-earlier a b c earlier rose = omega arith

pub GoesOn-nil : (a : WireState) → GoesOn a a
GoesOn-nil a = record { later = omega arith; sure = λ sure. sure }

pub GoesOn-trans : (a b c : WireState) → GoesOn a b → GoesOn b c → GoesOn a c
GoesOn-trans a b c one two = record { later = let early = one.later in let late = two.later in omega arith; sure = λ sure. two.sure (one.sure sure) }

pub GoesOn-of : {T E : Type 0} (a b : WireState) (result : Result T E) (fault : E) → HasWireCause a b result fault → GoesOn a b
GoesOn-of a b result fault cause = record { later = cause.later; sure = λ sure. (cause.sure sure).0 }

-- the cause of a call after others
pub HasWireCause-after : {T E : Type 0} (a b c : WireState) (result : Result T E) (fault : E) → GoesOn a b → HasWireCause b c result fault → HasWireCause a c result fault
HasWireCause-after a b c result fault one two = record {
  later = let early = one.later in let late = two.later in omega arith;
  rose = λ failed. Rose-earlier a.faults b.faults c.faults one.later (two.rose failed);
  sure = λ sure. two.sure (one.sure sure);
}

-- an answer that is no fault of the wire
pub HasWireCause-fine : {T E : Type 0} (a b : WireState) (result : Result T E) (fault : E) → GoesOn a b → (result ≡ Err fault → ⊥) → HasWireCause a b result fault
HasWireCause-fine a b result fault one fine = record { later = one.later; rose = λ failed. absurd (fine failed); sure = λ sure. (one.sure sure, fine) }

-- octets that were given, and then others or a prefix of them
pub GivesOrFails-after : {T E : Type 0} (a b c : WireState) (result : Result T E) (xs ys : List ℕ) → Gives a b xs → GivesOrFails b c result ys → GivesOrFails a c result (xs ++ ys)
GivesOrFails-after a b c (Ok done) xs ys first second = Gives-trans a b c xs ys first second
GivesOrFails-after a b c (Err fault) xs ys first second = Gives-prefix a b c xs ys first second
