-- A range of octets that is given run by run.
use Rattle.std.proofs.Common.{◌≡◌, ℕ, ◌+◌, ◌-◌, ◌≤◌, List, ◌++◌, take, drop, length, min, Result, Ok, Err, sym, ap, ◌∙◌, subst, arith, take-add}
use Rattle.std.specs.Io.KnownBytes.{Keeps}
use Rattle.std.proofs.lemmas.List.{length-take-le, take-take, drop-drop}
use Rattle.mail_wire.specs.declared.outside.Failed.{Failed}
use Rattle.mail_wire.specs.declared.outside.Failed.TheVariants.{Outside}
use Rattle.mail_wire.specs.Causes.{HasCause, StaysSure}
use Rattle.mail_wire.specs.Moves.{GiveNotes, Gives, GivesPrefix, GoesOn, HasWireCause}
use Rattle.mail_wire.specs.WireState.{WireState}
use Rattle.mail_wire.proofs.Moving.{give_gives, Gives-nil, Gives-trans, Gives-prefix, GivesPrefix-more, GoesOn-nil, GoesOn-trans, GoesOn-of}

-- The first octets of the range were given, and the others stand from this place on.
pub record HasGiven (before now : WireState) (all : List ℕ) (at len place left : ℕ) : Type 0 where
  pub given : ℕ
  pub gives : Gives before now (take given (drop at all))
  pub goes : GoesOn before now
  pub place_is : place ≡ at + given
  pub whole : len ≡ given + left

pub nothing_given : (wire : WireState) (all : List ℕ) (at len : ℕ) → HasGiven wire wire all at len at len
nothing_given wire all at len = record { given = 0; gives = Gives-nil wire; goes = GoesOn-nil wire; place_is = omega arith; whole = omega arith }

-- a call of `give`, by what the wire says of it
pub record HasCalled {T : Type 0} (before now : WireState) (result : Result T Failed) (octets : List ℕ) : Type 0 where
  pub left : Keeps before.left now.left
  pub transcript : GiveNotes before.transcript now.transcript result octets
  pub cause : HasCause before.faults now.faults result
  pub sure : StaysSure before.never_fails now.never_fails result

call_cause : {T : Type 0} (before now : WireState) (result : Result T Failed) (octets : List ℕ) → HasCalled before now result octets → HasWireCause before now result Outside
call_cause before now result octets called = record { later = called.cause.later; rose = called.cause.outside; sure = called.sure }

-- of the range the next octets are the first ones of a run that stands at their place
next_piece : (all run : List ℕ) (at given place count : ℕ) → place ≡ at + given → run ≡ take (length run) (drop place all) → count ≤ length run → take count run ≡ take count (drop given (drop at all))
next_piece all run at given place count place_is run_is few =
    ap (take count) run_is ∙ take-take count (length run) (drop place all) few ∙ ap (λ n. take count (drop n all)) place_is ∙ ap (take count) (sym (drop-drop given at all))

-- what is given of a run
pub record IsPieceOf (all run piece : List ℕ) (place left : ℕ) : Type 0 where
  pub run_is : run ≡ take (length run) (drop place all)
  pub piece_is : piece ≡ take (min (length run) left) run

piece_size : (all run piece : List ℕ) (place left : ℕ) → IsPieceOf all run piece place left → length piece ≡ min (length run) left
piece_size all run piece place left is = ap length is.piece_is ∙ length-take-le (min (length run) left) run (omega arith)

piece_range : (all run piece : List ℕ) (at given place left : ℕ) → place ≡ at + given → IsPieceOf all run piece place left → piece ≡ take (length piece) (drop given (drop at all))
piece_range all run piece at given place left place_is is =
    let size = piece_size all run piece place left is in
    is.piece_is ∙ next_piece all run at given place (min (length run) left) place_is is.run_is (omega arith) ∙ ap (λ n. take n (drop given (drop at all))) (sym size)

-- such a piece was given
pub more_given : {T : Type 0} (before middle now : WireState) (all run piece : List ℕ) (at len place left : ℕ) (done : T) → HasGiven before middle all at len place left
    → IsPieceOf all run piece place left → HasCalled middle now (Ok done) piece → HasGiven before now all at len (place + length piece) (left - length piece)
more_given before middle now all run piece at len place left done has is called =
    let whole = has.whole in
    let place_is = has.place_is in
    let size = piece_size all run piece place left is in
    let gave = give_gives middle now (Ok done) piece called.left called.transcript in
    record {
      given = has.given + length piece;
      gives = subst (Gives before now) (sym (take-add has.given (length piece) (drop at all)))
          (Gives-trans before middle now (take has.given (drop at all)) (take (length piece) (drop has.given (drop at all))) has.gives (subst (Gives middle now) (piece_range all run piece at has.given place left place_is is) gave));
      goes = GoesOn-trans before middle now has.goes (GoesOn-of middle now (Ok done) Outside (call_cause middle now (Ok done) piece called));
      place_is = omega (arith, place_is);
      whole = omega (arith, whole, size);
    }

-- where the call failed, a prefix of the range was given
pub prefix_given : {T : Type 0} (before middle now : WireState) (all run piece : List ℕ) (at len place left : ℕ) (failed : Failed) → HasGiven before middle all at len place left
    → IsPieceOf all run piece place left → HasCalled {T = T} middle now (Err failed) piece → GivesPrefix before now (take len (drop at all))
prefix_given {T = T} before middle now all run piece at len place left failed has is called =
    let whole = has.whole in
    let range : List ℕ = drop at all in
    let rest : List ℕ = take (left - length piece) (drop (length piece) (drop has.given range)) in
    let size = piece_size all run piece place left is in
    let next : take (length piece) (drop has.given range) ≡ piece = sym (piece_range all run piece at has.given place left has.place_is is) in
    let parts : take len range ≡ take has.given range ++ (piece ++ rest) =
    ap (λ n. take n range) (let sum : len ≡ has.given + (length piece + (left - length piece)) = omega (arith, whole, size) in sum)
    ∙ take-add has.given (length piece + (left - length piece)) range
    ∙ ap (λ back. take has.given range ++ back) (take-add (length piece) (left - length piece) (drop has.given range) ∙ ap (λ front. front ++ rest) next) in
    let gave = give_gives {T = T} middle now (Err failed) piece called.left called.transcript in
    subst (GivesPrefix before now) (sym parts) (Gives-prefix before middle now (take has.given range) (piece ++ rest) has.gives (GivesPrefix-more middle now piece rest gave))
