-- Texts put last, one after the other.
use Rattle.std.proofs.Common.{◌≡◌, ℕ, ◌+◌, ◌<◌, ◌≤◌, List, [], ◌∷◌, ◌++◌, length, subst, min, take, drop, get_or, Option, Some, None, Result, Ok, Err, arith, refl, sym, ap, ◌∙◌, append_assoc, append-nil, length-append}
use Rattle.std.specs.List.{flat_map}
use Rattle.std.specs.Option.{option_to_list}
use Rattle.std.proofs.Math.Seq.{take-append-add, take-append_seam}
use Rattle.std.proofs.lemmas.Grind.{flat_map-append}
use Rattle.std.proofs.lemmas.List.Folds.{length-flat_map-take}
use Rattle.std.proofs.lemmas.List.{take-append-le, take_min, take_more, take-append-drop}
use Rattle.mail_wire.specs.declared.values.Memory.{Memory}
use Rattle.journal_records.specs.declared.records.Record.TheVariants as records
use Rattle.journal_records.specs.Spelling.{number, octet_list, fields_of}
use Rattle.journal_records.specs.Writing.{PutsText}
use Rattle.journal_records.specs.private.Heads.{message_head, queue_head, queue_kind}

-- a first part of the text was put last
abbrev pub PutsFirst : List ℕ → List ℕ → List ℕ → Type 0
PutsFirst old new text = (n : ℕ) × (new ≡ old ++ take n text)

-- a first part of a text is one of the text and more
pub first_of : (old new a b : List ℕ) → PutsFirst old new a → PutsFirst old new (a ++ b)
first_of old new a b (n, is) =
    let short : min n (length a) ≤ length a = omega arith in
    (min n (length a), is ∙ ap (λ l. old ++ l) (sym (take-append-le (min n (length a)) a b short ∙ take_min n a)))

-- the whole text, and a first part of more
pub first_after : (old mid new a b : List ℕ) → mid ≡ old ++ a → PutsFirst mid new b → PutsFirst old new (a ++ b)
first_after old mid new a b at (n, is) =
    (length a + n, is ∙ ap (λ l. l ++ take n b) at ∙ append_assoc old a (take n b) ∙ ap (λ l. old ++ l) (sym (take-append-add a b n)))

-- a text, and what comes after it
pub puts_after : {T : Type 0} (old mid new a b : List ℕ) (result : Result T Memory) → mid ≡ old ++ a → PutsText mid new result b → PutsText old new result (a ++ b)
puts_after old mid new a b (Ok done) at is = is ∙ ap (λ l. l ++ b) at ∙ append_assoc old a b
puts_after old mid new a b (Err memory) at is = first_after old mid new a b at is

-- the parts before a place, and those from there on
parts_split : {X : Type 0} (f : X → List ℕ) (parts : List X) (i : ℕ) → flat_map f (take i parts) ++ flat_map f (drop i parts) ≡ flat_map f parts
parts_split f parts i = sym (flat_map-append f (take i parts) (drop i parts)) ∙ ap (flat_map f) (take-append-drop i parts)

-- the parts before a place, and a first part of the next
pub first_parts : {X : Type 0} (f : X → List ℕ) (parts : List X) (i : ℕ) (x : X) (old mid new : List ℕ) → i < length parts
    → mid ≡ old ++ flat_map f (take i parts) → x ≡ get_or parts i x → PutsFirst mid new (f x) → PutsFirst old new (flat_map f parts)
first_parts f parts i x old mid new within at is first =
    let upto = first_after old mid new (flat_map f (take i parts)) (f x) at first in
    let more : flat_map f (take i parts) ++ f x ≡ flat_map f (take (i + 1) parts) =
    ap (λ l. flat_map f (take i parts) ++ l) (sym (append-nil (f x))) ∙ sym (flat_map-append f (take i parts) (x ∷ []))
    ∙ ap (λ y. flat_map f (take i parts ++ y ∷ [])) is ∙ ap (flat_map f) (sym (take_more parts i x within)) in
    subst (PutsFirst old new) (parts_split f parts (i + 1))
    (first_of old new (flat_map f (take (i + 1) parts)) (flat_map f (drop (i + 1) parts)) (subst (PutsFirst old new) more upto))

-- the parts before a place
pub parts_before : {X : Type 0} (f : X → List ℕ) (parts : List X) (i : ℕ) (old now : List ℕ) → now ≡ old ++ flat_map f (take i parts)
    → PutsFirst old now (flat_map f parts)
parts_before f parts i old now at = (
  length (flat_map f (take i parts)),
  at ∙ ap (λ l. old ++ l) (sym (ap (take (length (flat_map f (take i parts)))) (sym (parts_split f parts i)) ∙ take-append_seam (flat_map f (take i parts)) (flat_map f (drop i parts)))),
)

-- lists within a bound: the next one is within it too, after those before it
pub next_within : (lists : List (List ℕ)) (list : List ℕ) (i : ℕ) → i < length lists → list ≡ get_or lists i list
    → length (flat_map octet_list (take i lists)) + (4 + length list) ≤ length (flat_map octet_list lists)
next_within lists list i within is =
    let sum = length-flat_map-take octet_list lists i list within in
    let same : length (octet_list (get_or lists i list)) ≡ 4 + length list = ap (λ l. length (octet_list l)) (sym is) ∙ omega arith in
    omega (arith, sum, same)

-- a message: what stands before its date, and its date and its octets
message_head_then : (folder flags : ℕ) (mark : Option ℕ) (date octets : List ℕ)
    → message_head folder flags mark ++ (octet_list date ++ octet_list octets) ≡ fields_of (records.Message folder flags mark date octets)
message_head_then folder flags None date octets = ap (λ l. 4 ∷ l) (append_assoc (number folder) (flags ∷ []) (octet_list date ++ octet_list octets))
message_head_then folder flags (Some mark) date octets = ap (λ l. 9 ∷ l) (append_assoc (number folder) (flags ∷ mark ∷ []) (octet_list date ++ octet_list octets))

-- a message: what stands before its octets, and they
pub message_after : (folder flags : ℕ) (mark : Option ℕ) (date octets : List ℕ)
    → (message_head folder flags mark ++ (octet_list date ++ number (length octets))) ++ octets ≡ fields_of (records.Message folder flags mark date octets)
message_after folder flags mark date octets =
    append_assoc (message_head folder flags mark) (octet_list date ++ number (length octets)) octets
    ∙ ap (λ l. message_head folder flags mark ++ l) (append_assoc (octet_list date) (number (length octets)) octets) ∙ message_head_then folder flags mark date octets

-- a waiting message: what stands before its octets, part by part
queue_head_then : (path : List ℕ) (addresses : List (List ℕ)) (mark : Option ℕ) (rest : List ℕ)
    → queue_head path addresses mark ++ rest
    ≡ queue_kind mark ∷ (octet_list path ++ (number (length addresses) ++ (flat_map octet_list addresses ++ (option_to_list mark ++ rest))))
queue_head_then path addresses mark rest =
    let count = number (length addresses) in
    let lists = flat_map octet_list addresses in
    let own = option_to_list mark in
    ap (λ l. queue_kind mark ∷ l) (append_assoc (octet_list path) (count ++ (lists ++ own)) rest
    ∙ ap (λ l. octet_list path ++ l) (append_assoc count (lists ++ own) rest ∙ ap (λ l. count ++ l) (append_assoc lists own rest)))

-- a waiting message: what stands before its addresses, they, and what follows them
pub queue_text : (path : List ℕ) (addresses : List (List ℕ)) (mark : Option ℕ) (rest : List ℕ)
    → (queue_kind mark ∷ (octet_list path ++ number (length addresses))) ++ (flat_map octet_list addresses ++ (option_to_list mark ++ rest))
    ≡ queue_head path addresses mark ++ rest
queue_text path addresses mark rest =
    ap (λ l. queue_kind mark ∷ l) (append_assoc (octet_list path) (number (length addresses)) (flat_map octet_list addresses ++ (option_to_list mark ++ rest)))
    ∙ sym (queue_head_then path addresses mark rest)

queue_spelled : (path : List ℕ) (addresses : List (List ℕ)) (mark : Option ℕ) (octets : List ℕ)
    → queue_kind mark ∷ (octet_list path ++ (number (length addresses) ++ (flat_map octet_list addresses ++ (option_to_list mark ++ octet_list octets))))
    ≡ fields_of (records.Queue path addresses mark octets)
queue_spelled path addresses None octets = refl
queue_spelled path addresses (Some mark) octets = refl

-- a waiting message: what stands before its octets, and they
pub queue_following : (path : List ℕ) (addresses : List (List ℕ)) (mark : Option ℕ) (octets : List ℕ)
    → (queue_head path addresses mark ++ number (length octets)) ++ octets ≡ fields_of (records.Queue path addresses mark octets)
queue_following path addresses mark octets =
    append_assoc (queue_head path addresses mark) (number (length octets)) octets
    ∙ queue_head_then path addresses mark (octet_list octets) ∙ queue_spelled path addresses mark octets

-- how many octets the kind and the fields of a message have
pub message_size : (folder flags : ℕ) (mark : Option ℕ) (date octets : List ℕ)
    → length (fields_of (records.Message folder flags mark date octets)) ≡ 14 + length (option_to_list mark) + length date + length octets
message_size folder flags None date octets = omega (arith, length-append (octet_list date) (octet_list octets), length-append (number (length date)) date, length-append (number (length octets)) octets)
message_size folder flags (Some mark) date octets =
    omega (arith, length-append (octet_list date) (octet_list octets), length-append (number (length date)) date, length-append (number (length octets)) octets)

-- how many those of a waiting message have
pub queue_size : (path : List ℕ) (addresses : List (List ℕ)) (mark : Option ℕ) (octets : List ℕ)
    → length (fields_of (records.Queue path addresses mark octets)) ≡ 13 + length path + length (flat_map octet_list addresses) + length (option_to_list mark) + length octets
queue_size path addresses None octets =
    let lists = flat_map octet_list addresses in
    omega (arith, length-append (octet_list path) (number (length addresses) ++ (lists ++ octet_list octets)), length-append lists (octet_list octets))
queue_size path addresses (Some mark) octets =
    let lists = flat_map octet_list addresses in
    omega (arith, length-append (octet_list path) (number (length addresses) ++ (lists ++ mark ∷ octet_list octets)), length-append lists (mark ∷ octet_list octets))
