-- Reading lists one after the other, as a loop does.
use Rattle.std.proofs.Common.{◌≡◌, ℕ, suc, ◌-◌, ◌+◌, ◌≤◌, ◌<◌, List, [], ◌∷◌, ◌++◌, Option, Some, None, refl, sym, ap, ◌∙◌, append_assoc, arith}
use Rattle.std.proofs.lemmas.List.{append-nil}
use Rattle.journal_records.specs.declared.reading.ReadFault.{ReadFault}
use Rattle.journal_records.specs.declared.reading.ReadFault.TheVariants.{Memory, NoRecord}
use Rattle.journal_records.specs.private.Reading.{◌>>=◌, Fails, list_at, lists_at}

-- what was read before, and what is still read
abbrev pub with_front : List (List ℕ) → Option (List (List ℕ) × List ℕ) → Option (List (List ℕ) × List ℕ)
with_front front read = read >>= λ x. Some (front ++ x.0, x.1)

-- one list more is in front
regroup : (front : List (List ℕ)) (n : List ℕ) (read : Option (List (List ℕ) × List ℕ)) → with_front front (read >>= λ x. Some (n ∷ x.0, x.1)) ≡ with_front (front ++ n ∷ []) read
regroup front n (Some x) = ap (λ (ns : List (List ℕ)). Some (ns, x.1)) (simp append_assoc)
regroup front n None = refl

-- a turn that read a list
pub goes_on : (front : List (List ℕ)) (count i : ℕ) (octets : List ℕ) (n : List ℕ) (after : List ℕ) (total : Option (List (List ℕ) × List ℕ)) → i < count → list_at octets ≡ Some (n, after)
    → with_front front (lists_at (count - i) octets) ≡ total → with_front (front ++ n ∷ []) (lists_at (count - (i + 1)) after) ≡ total
unfolding lists_at
goes_on front count i octets n after total lt h so_far =
    let k : count - i ≡ suc (count - (i + 1)) = omega arith in
    let one : with_front front (lists_at (count - i) octets) ≡ with_front (front ++ n ∷ []) (lists_at (count - (i + 1)) after) = rw (k, h) (regroup front n (lists_at (count - (i + 1)) after)) in
    sym one ∙ so_far

-- a turn that read none
pub ends : (e : ReadFault) (front : List (List ℕ)) (count i : ℕ) (octets : List ℕ) (total : Option (List (List ℕ) × List ℕ)) → i < count → Fails e (list_at octets)
    → with_front front (lists_at (count - i) octets) ≡ total → Fails e total
unfolding lists_at
ends Memory front count i octets total lt h so_far = tt
ends NoRecord front count i octets total lt h so_far =
    let k : count - i ≡ suc (count - (i + 1)) = omega arith in
    let one : with_front front (lists_at (count - i) octets) ≡ None = rw (k, h) refl in
    sym so_far ∙ one

-- after the last turn
pub is_done : (front : List (List ℕ)) (count i : ℕ) (octets : List ℕ) (total : Option (List (List ℕ) × List ℕ)) → count ≤ i → with_front front (lists_at (count - i) octets) ≡ total → total ≡ Some (front, octets)
unfolding lists_at
is_done front count i octets total le so_far =
    let k : count - i ≡ 0 = omega arith in
    let one : with_front front (lists_at (count - i) octets) ≡ Some (front, octets) = rw k (ap (λ (ns : List (List ℕ)). Some (ns, octets)) (append-nil front)) in
    sym so_far ∙ one
