-- A session over a wire, whatever it answers: what was taken so far, and the answer to it.
use Rattle.std.proofs.Common.{◌≡◌, ℕ, List, [], ◌∷◌, ◌++◌, Option, Some, None, refl, sym, ap, subst, ◌∙◌, append-nil, append_assoc, take}
use Rattle.std.specs.Prelude.{IfSome}
use Rattle.std.specs.Io.KnownBytes.{Consumes, IsAtEnd}
use Rattle.std.proofs.lemmas.Option.{IfSome_then}
use Rattle.mail_wire.specs.declared.outside.Entry.{Entry}
use Rattle.mail_wire.specs.declared.outside.Entry.TheVariants.{Taken, Given}
use Rattle.mail_wire.specs.WireState.{WireState}
use Rattle.mail_wire.specs.Transcript.{IsLawful, AreGiven, taken_of, given_of}
use Rattle.mail_wire.specs.Moves.{Moves, Gives, TakesPiece, TakesNothing}
use Rattle.mail_wire.proofs.Moving.{Moves-trans, Moves-take, Moves-none, taken_of-append, given_of-append, AreGiven-taken_of}
use Rattle.mail_wire.proofs.LawfulLemmas.{IsLawful-nil, IsLawful-take, IsLawful-give}
use Rattle.session_core.specs.Serving.{IsPrefixOf, EachTake}

-- The answer to more octets begins with that to the first ones.
abbrev pub Grows : (List ℕ → List ℕ) → Type 0
Grows answer = (xs ys : List ℕ) → IsPrefixOf (answer xs) (answer (xs ++ ys))

-- These octets were taken, and the answer to them was given.
pub record Serving (answer : List ℕ → List ℕ) (May : List ℕ → List ℕ → Type 0) (before now : WireState) (taken : List ℕ) : Type 0 where
  pub entries : List Entry
  pub moves : Moves before now entries
  pub lawful : IsLawful answer entries
  pub takes : EachTake May [] entries
  pub taken_is : taken_of entries ≡ taken
  pub answered : given_of entries ≡ answer taken

-- These octets were taken, and so far this was given, which is as is due before each take.
pub record Halfway (answer : List ℕ → List ℕ) (May : List ℕ → List ℕ → Type 0) (before now : WireState) (taken given : List ℕ) : Type 0 where
  pub entries : List Entry
  pub moves : Moves before now entries
  pub lawful : IsLawful answer entries
  pub takes : EachTake May [] entries
  pub taken_is : taken_of entries ≡ taken
  pub given_is : given_of entries ≡ given

-- gives take nothing
EachTake-given : (May : List ℕ → List ℕ → Type 0) (taken : List ℕ) (entries : List Entry) → AreGiven entries → EachTake May taken entries
EachTake-given May taken [] only = tt
EachTake-given May taken (Taken octets ∷ entries) only = absurd only
EachTake-given May taken (Given octets ∷ entries) only = EachTake-given May taken entries only

EachTake-append : (May : List ℕ → List ℕ → Type 0) (taken : List ℕ) (xs ys : List Entry) → EachTake May taken xs → EachTake May (taken ++ taken_of xs) ys → EachTake May taken (xs ++ ys)
EachTake-append May taken [] ys first more = rw append-nil at more
EachTake-append May taken (Taken octets ∷ xs) ys first more =
    (first.0, EachTake-append May (taken ++ octets) xs ys first.1 (subst (λ l. EachTake May l ys) (sym (append_assoc taken octets (taken_of xs))) more))
EachTake-append May taken (Given octets ∷ xs) ys first more = EachTake-append May taken xs ys first more

pub Halfway-of : (answer : List ℕ → List ℕ) (May : List ℕ → List ℕ → Type 0) (a b : WireState) (taken : List ℕ) → Serving answer May a b taken → Halfway answer May a b taken (answer taken)
Halfway-of answer May a b taken so_far = record { entries = so_far.entries; moves = so_far.moves; lawful = so_far.lawful; takes = so_far.takes; taken_is = so_far.taken_is; given_is = so_far.answered }

pub Serving-of : (answer : List ℕ → List ℕ) (May : List ℕ → List ℕ → Type 0) (a b : WireState) (taken given : List ℕ) → Halfway answer May a b taken given → given ≡ answer taken → Serving answer May a b taken
Serving-of answer May a b taken given half is = record { entries = half.entries; moves = half.moves; lawful = half.lawful; takes = half.takes; taken_is = half.taken_is; answered = half.given_is ∙ is }

-- what is given first
pub Halfway-first : (answer : List ℕ → List ℕ) (May : List ℕ → List ℕ → Type 0) (a b : WireState) (given : List ℕ) → Gives a b given → Halfway answer May a b [] given
Halfway-first answer May a b given gives = record {
  entries = gives.entries;
  moves = gives.moves;
  lawful = IsLawful-give answer [] gives.entries (IsLawful-nil answer) gives.only;
  takes = EachTake-given May [] gives.entries gives.only;
  taken_is = AreGiven-taken_of gives.entries gives.only;
  given_is = gives.octets_are;
}

-- a piece is taken
pub Halfway-take : (answer : List ℕ → List ℕ) (May : List ℕ → List ℕ → Type 0) (a b c : WireState) (taken into : List ℕ) (n : ℕ) → Serving answer May a b taken → TakesPiece b c n into → May taken (take n into)
    → Halfway answer May a c (taken ++ take n into) (answer taken)
Halfway-take answer May a b c taken into n so_far piece may =
    let entry : List Entry = Taken (take n into) ∷ [] in
    record {
      entries = so_far.entries ++ entry;
      moves = Moves-trans a b c so_far.entries entry so_far.moves (Moves-take b c (take n into) piece.left piece.noted);
      lawful = IsLawful-take answer so_far.entries (take n into) so_far.lawful (so_far.answered ∙ ap answer (sym so_far.taken_is));
      takes = EachTake-append May [] so_far.entries entry so_far.takes (rw so_far.taken_is may, tt);
      taken_is = taken_of-append so_far.entries entry ∙ rw (so_far.taken_is, append-nil) refl;
      given_is = given_of-append so_far.entries entry ∙ append-nil (given_of so_far.entries) ∙ so_far.answered;
    }

-- octets are given
pub Halfway-give : (answer : List ℕ → List ℕ) (May : List ℕ → List ℕ → Type 0) (a b c : WireState) (taken given more : List ℕ) → Halfway answer May a b taken given → Gives b c more → Halfway answer May a c taken (given ++ more)
Halfway-give answer May a b c taken given more half gives = record {
  entries = half.entries ++ gives.entries;
  moves = Moves-trans a b c half.entries gives.entries half.moves gives.moves;
  lawful = IsLawful-give answer half.entries gives.entries half.lawful gives.only;
  takes = EachTake-append May [] half.entries gives.entries half.takes (EachTake-given May (taken_of half.entries) gives.entries gives.only);
  taken_is = taken_of-append half.entries gives.entries ∙ ap (λ more. taken_of half.entries ++ more) (AreGiven-taken_of gives.entries gives.only)
      ∙ append-nil (taken_of half.entries) ∙ half.taken_is;
  given_is = given_of-append half.entries gives.entries ∙ rw (half.given_is, gives.octets_are) refl;
}

-- a take failed
pub Serving-nothing : (answer : List ℕ → List ℕ) (May : List ℕ → List ℕ → Type 0) (a b c : WireState) (taken : List ℕ) → Serving answer May a b taken → TakesNothing b c → Serving answer May a c taken
Serving-nothing answer May a b c taken so_far none = record {
  entries = so_far.entries;
  moves = rw append-nil at (Moves-trans a b c so_far.entries [] so_far.moves (Moves-none b c none.left none.noted));
  lawful = so_far.lawful;
  takes = so_far.takes;
  taken_is = so_far.taken_is;
  answered = so_far.answered;
}

-- ---- what the wire had left

begun_by : (l m : Option (List ℕ)) (taken : List ℕ) → Consumes l m taken → IfSome l (λ octets. IsPrefixOf taken octets)
begun_by None m taken consumes = tt
begun_by (Some l) None taken consumes = absurd consumes
begun_by (Some l) (Some m) taken consumes = (m, consumes)

all_by : (l m : Option (List ℕ)) (taken : List ℕ) → Consumes l m taken → IsAtEnd m → IfSome l (λ octets. taken ≡ octets)
all_by None m taken consumes end = tt
all_by (Some l) None taken consumes end = absurd consumes
all_by (Some l) (Some m) taken consumes end = sym (consumes ∙ (rw end (append-nil taken)))

-- it began with what was taken
pub left_begins : (answer : List ℕ → List ℕ) (May : List ℕ → List ℕ → Type 0) (a b : WireState) (taken given : List ℕ) → Halfway answer May a b taken given → IfSome a.left (λ octets. IsPrefixOf taken octets)
left_begins answer May a b taken given half = begun_by a.left b.left taken (rw half.taken_is at half.moves.left)

-- it was what was taken, where nothing is left
pub left_all : (answer : List ℕ → List ℕ) (May : List ℕ → List ℕ → Type 0) (a b : WireState) (taken given : List ℕ) → Halfway answer May a b taken given → IsAtEnd b.left → IfSome a.left (λ octets. taken ≡ octets)
left_all answer May a b taken given half end = all_by a.left b.left taken (rw half.taken_is at half.moves.left) end

prefix_trans : (xs ys zs : List ℕ) → IsPrefixOf xs ys → IsPrefixOf ys zs → IsPrefixOf xs zs
prefix_trans xs ys zs one two = (one.0 ++ two.0, two.1 ∙ ap (λ front. front ++ two.0) one.1 ∙ append_assoc xs one.0 two.0)

-- a prefix of the answer to what was taken is one of the answer to what was left
pub begins_answer : (answer : List ℕ → List ℕ) (May : List ℕ → List ℕ → Type 0) (a b : WireState) (taken given : List ℕ) → Grows answer → Halfway answer May a b taken given → IsPrefixOf given (answer taken)
    → IfSome a.left (λ octets. IsPrefixOf given (answer octets))
begins_answer answer May a b taken given grows half begun =
    IfSome_then a.left {P = λ octets. IsPrefixOf taken octets} (left_begins answer May a b taken given half)
    (λ octets front. prefix_trans given (answer taken) (answer octets) begun (rw (← front.1) at (grows taken front.0)))
