-- The first octets that a read call copies into a buffer of this length.
use Rattle.std.proofs.Common.{◌≡◌, ℕ, ◌-◌, ◌≤◌, List, [], ◌++◌, length, take, drop, min, ap, ◌∙◌, arith}
use Rattle.std.proofs.lemmas.List.{append-nil, length-take-le, take_all, drop_all, take-append-le}

pub front_read : (octets items old new made : List ℕ) (len count size : ℕ) → len ≤ size → length octets ≡ size → length old ≡ len → count ≡ min (length old) (size - 0)
    → new ≡ take count (drop 0 octets) ++ drop count old → made ≡ take len (new ++ drop (length new) items) → made ≡ take len octets
front_read octets items old new made len count size fits whole room counted copied is =
    let all : count ≡ len = omega (arith, counted, room) in
    let rest : drop count old ≡ [] = drop_all count old (omega (arith, all, room)) in
    let front : new ≡ take len octets = copied ∙ (ap (λ l. take count octets ++ l) rest ∙ (append-nil (take count octets) ∙ ap (λ k. take k octets) all)) in
    let long : length new ≡ len = ap length front ∙ length-take-le len octets (omega (arith, whole)) in
    is ∙ (take-append-le len new (drop (length new) items) (omega (arith, long)) ∙ (take_all len new (omega (arith, long)) ∙ front))
