-- What is written of a message that waits.
use Rattle.std.proofs.Common.{◌≡◌, ℕ, eqb, List, [], ◌∷◌, ◌++◌, length, map, ◌<◌, Option, Some, None, refl, sym, ap, subst, arith, inl, inr}
use Rattle.std.specs.List.{flat_map, AllByRecursion}
use Rattle.std.specs.Prelude.{IfSome}
use Rattle.address_grammar.specs.Addresses.{address_text}
use Rattle.std.specs.Option.{option_to_list}
use Rattle.std.proofs.lemmas.Bool.{cases_Bool, eqb-false}
use Rattle.journal_records.specs.declared.records.Record.{Record}
use Rattle.journal_records.specs.declared.records.Record.TheVariants as records
use Rattle.journal_records.specs.Addresses.{path_text}
use Rattle.journal_records.specs.Spelling.{IsWritableRecord, record_text}
use Rattle.journal_records.specs.Stored.{HasMark}
use Rattle.kept_mail.specs.Deliveries.{queued}
use Rattle.kept_mail.specs.private.Delivering.{HasOwnMark, IsFrontOf, fronts_text}
use Rattle.kept_mail.specs.declared.delivery.Delivery.{Delivery}

pub writable-some : (waiting : Option Record) (all : List Record) → option_to_list waiting ≡ all → AllByRecursion IsWritableRecord all → IfSome waiting IsWritableRecord
writable-some None all is writable = tt
writable-some (Some one) all is writable = (subst (AllByRecursion IsWritableRecord) (sym is) writable).0

one_is : (a b : Record) → a ∷ [] ≡ b ∷ [] → a ≡ b
one_is a b e = cc

-- the record of a waiting message has the mark of its octets, where there are remote recipients
pub marked-some : (delivery : Delivery) (waiting : Option Record) → option_to_list waiting ≡ queued delivery
    → (0 < length delivery.remote → HasMark delivery.remote_octets delivery.remote_mark) → IfSome waiting HasOwnMark
marked-some delivery None is marked = tt
marked-some delivery (Some one) is marked =
    elim (cases_Bool (eqb (length delivery.remote) 0)) [
      | inl none ↦ (let empty : one ∷ [] ≡ [] = rw none at is in absurd cc)
      | inr some ↦
          let queue = records.Queue (path_text delivery.path) (map address_text delivery.remote) (Some delivery.remote_mark) delivery.remote_octets in
          let it : queue ≡ one = sym (one_is one queue (rw some at is)) in
          subst HasOwnMark it (marked (omega (arith, eqb-false (length delivery.remote) 0 some)))
    ]

-- what stands before the octets of the waiting message, and they, are its text
pub queued-text : (delivery : Delivery) (waiting : Option Record) (front : Option (List ℕ)) → option_to_list waiting ≡ queued delivery → IsFrontOf front waiting
    → fronts_text (option_to_list front) delivery.remote_octets ≡ flat_map record_text (queued delivery)
queued-text delivery None front is made = rw (made, ← is) refl
queued-text delivery (Some one) front is made =
    elim (cases_Bool (eqb (length delivery.remote) 0)) [
      | inl none ↦ (let empty : one ∷ [] ≡ [] = rw none at is in absurd cc)
      | inr some ↦
          let queue = records.Queue (path_text delivery.path) (map address_text delivery.remote) (Some delivery.remote_mark) delivery.remote_octets in
          let it : one ≡ queue = one_is one queue (rw some at is) in
          let found = subst (λ r. IsFrontOf front (Some r)) it made in
          rw (found.1, some) (ap (λ l. l ++ []) found.2)
    ]
