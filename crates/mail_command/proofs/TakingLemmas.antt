-- Takes, one after another.
use Rattle.std.proofs.Common.{◌≡◌, ℕ, ◌<◌, ◌+◌, ◌≤◌, List, [], ◌∷◌, ◌++◌, length, take, refl, ◌∙◌, append-nil, arith, length-append, length-take-le}
use Rattle.mail_wire.specs.declared.outside.Entry.{Entry}
use Rattle.mail_wire.specs.declared.outside.Entry.TheVariants.{Taken, Given}
use Rattle.mail_wire.specs.WireState.{WireState}
use Rattle.mail_wire.specs.Transcript.{given_of}
use Rattle.mail_wire.specs.Moves.{TakesPiece, TakesNothing}
use Rattle.mail_wire.proofs.Moving.{Moves-nil, Moves-trans, Moves-take, Moves-none, taken_of-append}
use Rattle.mail_command.specs.Taking.{AreTaken, Takes, TakesUpTo}
use Rattle.mail_wire.specs.declared.traffic.TheConstants.{PIECE}

AreTaken-append : (xs ys : List Entry) → AreTaken xs → AreTaken ys → AreTaken (xs ++ ys)
AreTaken-append [] ys first second = second
AreTaken-append (Taken octets ∷ xs) ys first second = AreTaken-append xs ys first second
AreTaken-append (Given octets ∷ xs) ys first second = absurd first

pub AreTaken-given_of : (xs : List Entry) → AreTaken xs → given_of xs ≡ []
AreTaken-given_of [] only = refl
AreTaken-given_of (Taken octets ∷ xs) only = AreTaken-given_of xs only
AreTaken-given_of (Given octets ∷ xs) only = absurd only

pub Takes-nil : (a : WireState) → Takes a a []
Takes-nil a = record { entries = []; moves = Moves-nil a; only = tt; octets_are = refl }

-- one more piece
pub Takes-piece : (a b c : WireState) (taken into : List ℕ) (n : ℕ) → Takes a b taken → TakesPiece b c n into → Takes a c (taken ++ take n into)
Takes-piece a b c taken into n first piece = record {
  entries = first.entries ++ Taken (take n into) ∷ [];
  moves = Moves-trans a b c first.entries (Taken (take n into) ∷ []) first.moves (Moves-take b c (take n into) piece.left piece.noted);
  only = AreTaken-append first.entries (Taken (take n into) ∷ []) first.only tt;
  octets_are = taken_of-append first.entries (Taken (take n into) ∷ []) ∙ rw (first.octets_are, append-nil) refl;
}

-- with one more piece it is no more than a piece beyond the greatest number
pub Takes-few : (max n : ℕ) (taken into : List ℕ) → length taken ≤ max → n ≤ length into → length into ≡ PIECE → length (taken ++ take n into) ≤ max + PIECE
Takes-few max n taken into before within size =
    let len = length-take-le n into within in omega (arith, before, within, size, len, length-append taken (take n into))

-- a call that took nothing
pub Takes-nothing : (a b c : WireState) (taken : List ℕ) → Takes a b taken → TakesNothing b c → Takes a c taken
Takes-nothing a b c taken first none = record {
  entries = first.entries;
  moves = rw append-nil at (Moves-trans a b c first.entries [] first.moves (Moves-none b c none.left none.noted));
  only = first.only;
  octets_are = first.octets_are;
}

-- the end of input
pub Takes-end : (a b c : WireState) (max : ℕ) (taken into : List ℕ) (n : ℕ) → Takes a b taken → length taken ≤ max + PIECE → TakesPiece b c n into → n ≡ 0 → TakesUpTo max a c taken
Takes-end a b c max taken into n first few piece none = record {
  takes = rw (none, append-nil) at (Takes-piece a b c taken into n first piece);
  few = few;
  end = λ _. piece.end none;
}

-- more than the greatest number
pub Takes-past : (a b : WireState) (max : ℕ) (taken : List ℕ) → Takes a b taken → length taken ≤ max + PIECE → max < length taken → TakesUpTo max a b taken
Takes-past a b max taken first few past = record { takes = first; few = few; end = λ fits. absurd (omega arith) }
