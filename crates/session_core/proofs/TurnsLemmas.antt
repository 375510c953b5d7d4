-- All turns of octets: one turn first, no turn, and octets that come later.
use Rattle.std.proofs.Common.{◌≡◌, ◌≤◌, ℕ, zero, suc, List, [], ◌++◌, length, Option, Some, None, refl, sym, ap, ◌∙◌, arith, append_assoc}
use Rattle.session_core.specs.Turns.{Turn, stay, following, turns, all_turns, IsFramed}

-- a state and octets that begin with no whole command
pub turns-stop : {S P : Type 0} (next : S → List ℕ → Option (Turn S P)) (n : ℕ) (s : S) (octets : List ℕ) → next s octets ≡ None → turns next n s octets ≡ stay s octets
unfolding turns
turns-stop next zero s octets none = refl
turns-stop next (suc n) s octets none = rw (none, turns) refl

pub turns-zero : {S P : Type 0} (next : S → List ℕ → Option (Turn S P)) (s : S) (octets : List ℕ) → turns next zero s octets ≡ record { parts = []; after = s; rest = octets }
unfolding turns
turns-zero next s octets = refl

pub turns-go : {S P : Type 0} (next : S → List ℕ → Option (Turn S P)) (n : ℕ) (s : S) (octets : List ℕ) (turn : Turn S P) → next s octets ≡ Some turn
    → turns next (suc n) s octets ≡ following turn.parts (turns next n turn.after turn.rest)
unfolding turns
turns-go next n s octets turn some = rw (some, turns) refl

-- more turns than octets are not needed
enough_by : {S P : Type 0} (next : S → List ℕ → Option (Turn S P)) → IsFramed next → (n m : ℕ) (s : S) (octets : List ℕ) → length octets ≤ n → length octets ≤ m
    → (found : Option (Turn S P)) → next s octets ≡ found → turns next n s octets ≡ turns next m s octets
enough_by next framed n m s octets low also None is = turns-stop next n s octets is ∙ sym (turns-stop next m s octets is)
enough_by next framed zero m s octets low also (Some turn) is = let shorter = framed.shorter s octets turn is in absurd (omega arith)
enough_by next framed (suc n) zero s octets low also (Some turn) is = let shorter = framed.shorter s octets turn is in absurd (omega arith)
enough_by next framed (suc n) (suc m) s octets low also (Some turn) is =
    let shorter = framed.shorter s octets turn is in
    let later = enough_by next framed n m turn.after turn.rest (omega arith) (omega arith) (next turn.after turn.rest) refl in
    turns-go next n s octets turn is ∙ ap (following turn.parts) later ∙ sym (turns-go next m s octets turn is)

pub turns-enough : {S P : Type 0} (next : S → List ℕ → Option (Turn S P)) → IsFramed next → (n : ℕ) (s : S) (octets : List ℕ) → length octets ≤ n
    → turns next n s octets ≡ all_turns next s octets
turns-enough next framed n s octets low = enough_by next framed n (length octets) s octets low (omega arith) (next s octets) refl

pub all_turns-stop : {S P : Type 0} (next : S → List ℕ → Option (Turn S P)) (s : S) (octets : List ℕ) → next s octets ≡ None → all_turns next s octets ≡ stay s octets
all_turns-stop next s octets none = turns-stop next (length octets) s octets none

-- one turn, and then the others
pub all_turns-go : {S P : Type 0} (next : S → List ℕ → Option (Turn S P)) → IsFramed next → (s : S) (octets : List ℕ) (turn : Turn S P) → next s octets ≡ Some turn
    → all_turns next s octets ≡ following turn.parts (all_turns next turn.after turn.rest)
all_turns-go next framed s octets turn some =
    let shorter = framed.shorter s octets turn some in
    sym (turns-enough next framed (suc (length octets)) s octets (omega arith)) ∙ turns-go next (length octets) s octets turn some
    ∙ ap (following turn.parts) (turns-enough next framed (length octets) turn.after turn.rest (omega arith))

pub following-following : {S P : Type 0} (xs ys : List P) (turn : Turn S P) → following xs (following ys turn) ≡ following (xs ++ ys) turn
following-following xs ys turn = rw (append_assoc xs ys turn.parts) refl

-- all turns of octets, and then those of what is left of them and more octets
later_by : {S P : Type 0} (next : S → List ℕ → Option (Turn S P)) → IsFramed next → (n : ℕ) (s : S) (octets more : List ℕ) → length octets ≤ n
    → (found : Option (Turn S P)) → next s octets ≡ found
    → all_turns next s (octets ++ more) ≡ following (turns next n s octets).parts (all_turns next (turns next n s octets).after ((turns next n s octets).rest ++ more))
later_by next framed n s octets more low None is = rw (turns-stop next n s octets is) refl
later_by next framed zero s octets more low (Some turn) is = let shorter = framed.shorter s octets turn is in absurd (omega arith)
later_by next framed (suc n) s octets more low (Some turn) is =
    let shorter = framed.shorter s octets turn is in
    let first = all_turns-go next framed s (octets ++ more) _ (framed.stays s octets more turn is) in
    let later = later_by next framed n turn.after turn.rest more (omega arith) (next turn.after turn.rest) refl in
    rw (turns-go next n s octets turn is)
    (first ∙ ap (following turn.parts) later ∙ following-following turn.parts (turns next n turn.after turn.rest).parts _)

pub all_turns-append : {S P : Type 0} (next : S → List ℕ → Option (Turn S P)) → IsFramed next → (s : S) (octets more : List ℕ)
    → all_turns next s (octets ++ more)
    ≡ following (all_turns next s octets).parts (all_turns next (all_turns next s octets).after ((all_turns next s octets).rest ++ more))
all_turns-append next framed s octets more = later_by next framed (length octets) s octets more (omega arith) (next s octets) refl
