-- What acts of a client count for, of one list after another.
use Rattle.std.proofs.Common.{◌≡◌, ℕ, ◌+◌, ◌-◌, ◌≤◌, List, [], ◌∷◌, ◌++◌, length, filter, append-nil, refl, sym, ap, ◌∙◌, arith}
use Rattle.std.specs.List.{flat_map}
use Rattle.std.proofs.lemmas.List.{length-append}
use Rattle.std.proofs.lemmas.List.Concat.{flat_map-append}
use Rattle.std.proofs.lemmas.List.Elements.{filter-append}
use Rattle.std.proofs.lemmas.List.Sums.{count_by-le-length, length-filter}
use Rattle.relay_choice.specs.Relay.{is_sent_outcome, left_count, outcomes_in, sent_count}
use Rattle.relay_choice.specs.declared.mail_objects.Act.{Act}
use Rattle.relay_choice.specs.declared.mail_objects.Act.TheVariants as act
use Rattle.relay_choice.specs.declared.mail_objects.MailObject.{MailObject}
use Rattle.relay_choice.specs.declared.mail_objects.Outcome.{Outcome}
use Rattle.relay_session.specs.private.Acting.{counted, sent_among, settled_count, tallied}
use Rattle.relay_session.specs.declared.ends.Tally.{Tally}

-- ---- outcomes

abbrev sent_of : List Outcome → ℕ
sent_of outcomes = length (filter is_sent_outcome outcomes)

sent_of-append : (xs ys : List Outcome) → sent_of (xs ++ ys) ≡ sent_of xs + sent_of ys
sent_of-append xs ys = ap (λ (l : List Outcome). length l) (filter-append is_sent_outcome xs ys) ∙ length-append (filter is_sent_outcome xs) (filter is_sent_outcome ys)

pub sent_among-is : (outcomes : List Outcome) → sent_among outcomes ≡ length (filter is_sent_outcome outcomes)
sent_among-is outcomes = ap sent_of (append-nil outcomes)

pub sent_among-append : (xs ys : List Outcome) → sent_among (xs ++ ys) ≡ sent_among xs + sent_among ys
sent_among-append xs ys =
    let whole = sent_among-is (xs ++ ys) in
    let first = sent_among-is xs in
    let second = sent_among-is ys in
    let parts = sent_of-append xs ys in
    omega (arith, whole, first, second, parts)

pub sent_among-few : (outcomes : List Outcome) → sent_among outcomes ≤ length outcomes
sent_among-few outcomes =
    let whole = sent_among-is outcomes in
    let count = length-filter is_sent_outcome outcomes in
    let few = count_by-le-length is_sent_outcome outcomes in
    omega (arith, whole, count, few)

-- ---- acts

abbrev outcomes_of : List Act → List Outcome
outcomes_of acts = flat_map outcomes_in acts

pub outcomes_in-append : (xs ys : List Act) → length (flat_map outcomes_in (xs ++ ys)) ≡ length (flat_map outcomes_in xs) + length (flat_map outcomes_in ys)
outcomes_in-append xs ys = ap (λ (l : List Outcome). length l) (flat_map-append outcomes_in xs ys) ∙ length-append (outcomes_of xs) (outcomes_of ys)

pub outcomes_in-settle : (number : ℕ) (outcomes : List Outcome) (acts : List Act)
    → length (flat_map outcomes_in (act.Settle number outcomes ∷ acts)) ≡ length outcomes + length (flat_map outcomes_in acts)
outcomes_in-settle number outcomes acts = length-append outcomes (outcomes_of acts)

pub sent_count-append : (xs ys : List Act) → sent_count (xs ++ ys) ≡ sent_count xs + sent_count ys
sent_count-append xs ys = ap sent_of (flat_map-append outcomes_in xs ys) ∙ sent_of-append (outcomes_of xs) (outcomes_of ys)

pub sent_count-settle : (number : ℕ) (outcomes : List Outcome) (acts : List Act) → sent_count (act.Settle number outcomes ∷ acts) ≡ sent_among outcomes + sent_count acts
sent_count-settle number outcomes acts =
    let whole = sent_of-append outcomes (outcomes_of acts) in
    let first = sent_among-is outcomes in
    omega (arith, whole, first)

pub sent_count-few : (acts : List Act) → sent_count acts ≤ length (flat_map outcomes_in acts)
sent_count-few acts =
    let count = length-filter is_sent_outcome (outcomes_of acts) in
    let few = count_by-le-length is_sent_outcome (outcomes_of acts) in
    omega (arith, count, few)

pub left_count-append : (mail_objects : List MailObject) (xs ys : List Act) → left_count mail_objects (xs ++ ys) ≡ left_count mail_objects xs - length (flat_map outcomes_in ys)
left_count-append mail_objects xs ys = let parts = outcomes_in-append xs ys in omega (arith, parts)

pub settled_count-append : (xs ys : List Act) → settled_count (xs ++ ys) ≡ settled_count xs + settled_count ys
settled_count-append [] ys = omega arith
settled_count-append (act.Say octets ∷ xs) ys = settled_count-append xs ys
settled_count-append (act.SayData number ∷ xs) ys = settled_count-append xs ys
settled_count-append (act.Settle number outcomes ∷ xs) ys = let rest = settled_count-append xs ys in omega (arith, rest)

-- ---- tallies

abbrev pub tally_of : (sent reported left : ℕ) → Tally
tally_of sent reported left = record { sent = sent; reported = reported; left = left }

pub same_tally : (sent reported left has_sent has_reported has_left : ℕ) → sent ≡ has_sent → reported ≡ has_reported → left ≡ has_left
    → tally_of sent reported left ≡ tally_of has_sent has_reported has_left
same_tally sent reported left has_sent has_reported has_left a b c = rw (a, b, c) refl

pub counted-none : (tally : Tally) → tally ≡ counted tally [] 0
counted-none tally = same_tally tally.sent tally.reported tally.left (tally.sent + sent_among []) (tally.reported + 0) (tally.left - 0) (omega arith) (omega arith) (omega arith)

pub counted-then : (tally : Tally) (xs ys : List Outcome) (count : ℕ) → counted (counted tally xs 0) ys count ≡ counted tally (xs ++ ys) count
counted-then tally xs ys count =
    let sent = sent_among-append xs ys in
    let parts = length-append xs ys in
    same_tally (tally.sent + sent_among xs + sent_among ys) (tally.reported + 0 + count) (tally.left - length xs - length ys)
    (tally.sent + sent_among (xs ++ ys)) (tally.reported + count) (tally.left - length (xs ++ ys)) (omega (arith, sent)) (omega arith) (omega (arith, parts))

-- a tally with so many reports more, and then with these outcomes
pub counted-reported : (old mid : Tally) (outcomes : List Outcome) (count : ℕ) → mid.sent ≡ old.sent → mid.reported ≡ old.reported + count → mid.left ≡ old.left
    → counted mid outcomes 0 ≡ counted old outcomes count
counted-reported old mid outcomes count sent reported left =
    same_tally (mid.sent + sent_among outcomes) (mid.reported + 0) (mid.left - length outcomes) (old.sent + sent_among outcomes) (old.reported + count) (old.left - length outcomes)
    (omega (arith, sent)) (omega (arith, reported)) (omega (arith, left))

-- a tally with acts, by what they come to
pub tallied-is : (tally : Tally) (acts : List Act) (count : ℕ)
    → tallied tally acts count ≡ record { sent = tally.sent + sent_count acts; reported = tally.reported + count; left = tally.left - length (flat_map outcomes_in acts) }
tallied-is tally [] count = same_tally tally.sent (tally.reported + count) tally.left (tally.sent + 0) (tally.reported + count) (tally.left - 0) (omega arith) refl (omega arith)
tallied-is tally (act.Say octets ∷ acts) count = tallied-is tally acts count
tallied-is tally (act.SayData number ∷ acts) count = tallied-is tally acts count
tallied-is tally (act.Settle number outcomes ∷ acts) count =
    let sent = sent_count-settle number outcomes acts in
    let parts = outcomes_in-settle number outcomes acts in
    tallied-is (counted tally outcomes 0) acts count
    ∙ same_tally (tally.sent + sent_among outcomes + sent_count acts) (tally.reported + 0 + count) (tally.left - length outcomes - length (flat_map outcomes_in acts))
    (tally.sent + sent_count (act.Settle number outcomes ∷ acts)) (tally.reported + count) (tally.left - length (flat_map outcomes_in (act.Settle number outcomes ∷ acts)))
    (omega (arith, sent)) (omega arith) (omega (arith, parts))

-- no acts and no reports
pub tallied-nothing : (tally : Tally) → tally ≡ tallied tally [] 0
tallied-nothing tally = same_tally tally.sent tally.reported tally.left tally.sent (tally.reported + 0) tally.left refl (omega arith) refl

-- acts after others
pub tallied-append : (tally : Tally) (xs ys : List Act) (m n : ℕ) → tallied tally (xs ++ ys) (m + n) ≡ tallied (tallied tally xs m) ys n
tallied-append tally xs ys m n =
    let mid = tallied tally xs m in
    let mid_is = tallied-is tally xs m in
    let mid_sent : mid.sent ≡ tally.sent + sent_count xs = ap (λ (t : Tally). t.sent) mid_is in
    let mid_reported : mid.reported ≡ tally.reported + m = ap (λ (t : Tally). t.reported) mid_is in
    let mid_left : mid.left ≡ tally.left - length (flat_map outcomes_in xs) = ap (λ (t : Tally). t.left) mid_is in
    let sent = sent_count-append xs ys in
    let parts = outcomes_in-append xs ys in
    tallied-is tally (xs ++ ys) (m + n)
    ∙ same_tally (tally.sent + sent_count (xs ++ ys)) (tally.reported + (m + n)) (tally.left - length (flat_map outcomes_in (xs ++ ys)))
    (mid.sent + sent_count ys) (mid.reported + n) (mid.left - length (flat_map outcomes_in ys)) (omega (arith, sent, mid_sent)) (omega (arith, mid_reported)) (omega (arith, parts, mid_left))
    ∙ sym (tallied-is mid ys n)
