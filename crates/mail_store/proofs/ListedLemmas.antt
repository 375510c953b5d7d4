-- The messages of a folder's listing are live, their numbers differ, and setting flags changes theirs.
use Rattle.std.proofs.Common.{◌≡◌, ℕ, zero, suc, ◌+◌, ◌≤◌, List, [], ◌∷◌, ◌++◌, length, Bool, true, false, Some, arith, refl, sym, ap, subst, ◌∙◌, append_assoc, length-append, eq-eqb}
use Rattle.std.specs.Prelude.{◌==◌, map, slice_get, if◌then◌else◌}
use Rattle.std.specs.List.{AllByRecursion, IsDistinct}
use Rattle.std.proofs.lemmas.Bool.{cond-false, cond-true, eqb-false, ne_eqb}
use Rattle.std.proofs.lemmas.Bool.Decides.{nat_tests}
use Rattle.std.proofs.lemmas.Option.{none-some, same_Some}
use Rattle.journal_records.specs.declared.records.Record.TheVariants as records
use Rattle.kept_mail.specs.declared.kept.Message.{Message}
use Rattle.kept_mail.specs.declared.kept.Listed.{Listed}
use Rattle.kept_mail.specs.Kept.{Kept, after_record, change_at, listed_from, listed, with_flags}
use Rattle.kept_mail.specs.Records.{IsLive}

abbrev pub id_of : Listed → ℕ
id_of one = one.id

-- one message more in front of a listing, or not
abbrev pub put : Bool → Bool → Listed → (others more : List Listed) → List Listed
put here live one others more = if here then (if live then one ∷ others else others) else more

pub all_put : (P : Listed → Type 0) (here live : Bool) (one : Listed) (others more : List Listed) → (live ≡ true → P one) → AllByRecursion P others → AllByRecursion P more
    → AllByRecursion P (put here live one others more)
all_put P false live one others more this rest same = same
all_put P true false one others more this rest same = rest
all_put P true true one others more this rest same = (this refl, rest)

live_at : (front : List Message) (m : Message) (ms : List Message) → m.live ≡ true → IsLive (slice_get (front ++ m ∷ ms) (length front))
live_at [] m ms is = cc
live_at (x ∷ front) m ms is = live_at front m ms is

-- the messages of the listing, the first ones of all being left out of it
live_from : (folder uid : ℕ) (front ms : List Message) → AllByRecursion (λ one. IsLive (slice_get (front ++ ms) one.id)) (listed_from folder (length front) uid ms)
live_from folder uid front [] = tt
live_from folder uid front (m ∷ ms) =
    let all : (front ++ m ∷ []) ++ ms ≡ front ++ m ∷ ms = append_assoc front (m ∷ []) ms in
    let next : length (front ++ m ∷ []) ≡ length front + 1 = length-append front (m ∷ []) in
    let over : (u : ℕ) → AllByRecursion (λ one. IsLive (slice_get (front ++ m ∷ ms) one.id)) (listed_from folder (length front + 1) u ms) =
    λ u. subst (λ (n : ℕ). AllByRecursion (λ one. IsLive (slice_get (front ++ m ∷ ms) one.id)) (listed_from folder n u ms)) next
    (subst (λ (l : List Message). AllByRecursion (λ one. IsLive (slice_get l one.id)) (listed_from folder (length (front ++ m ∷ [])) u ms)) all (live_from folder u (front ++ m ∷ []) ms)) in
    all_put (λ one. IsLive (slice_get (front ++ m ∷ ms) one.id)) (m.folder == folder) m.live (record { id = length front; uid = uid; flags = m.flags }) _ _ (live_at front m ms) (over (uid + 1)) (over uid)

pub listed_live : (kept : Kept) (folder : ℕ) → AllByRecursion (λ one. IsLive (slice_get kept.messages one.id)) (listed kept folder)
listed_live kept folder = live_from folder 1 [] kept.messages

-- the numbers of a listing are this one or greater
pub from_on : (folder at uid low : ℕ) (ms : List Message) → low ≤ at → AllByRecursion (λ one. low ≤ one.id) (listed_from folder at uid ms)
from_on folder at uid low [] few = tt
from_on folder at uid low (m ∷ ms) few =
    all_put (λ one. low ≤ one.id) (m.folder == folder) m.live (record { id = at; uid = uid; flags = m.flags }) _ _ (λ is. few)
    (from_on folder (at + 1) (uid + 1) low ms (omega arith)) (from_on folder (at + 1) uid low ms (omega arith))

apart : (at : ℕ) (others : List Listed) → AllByRecursion (λ one. at + 1 ≤ one.id) others → AllByRecursion (λ id. (at == id) ≡ false) (map id_of others)
apart at [] above = tt
apart at (one ∷ others) above = (differ at one.id above.0, apart at others above.1)
  where
    differ : (n m : ℕ) → n + 1 ≤ m → (n == m) ≡ false
    differ n m less = grind (arith, nat_tests)

distinct_put : (here live : Bool) (one : Listed) (others more : List Listed) → AllByRecursion (λ id. (one.id == id) ≡ false) (map id_of others)
    → IsDistinct (λ a b. a == b) (map id_of others) → IsDistinct (λ a b. a == b) (map id_of more) → IsDistinct (λ a b. a == b) (map id_of (put here live one others more))
unfolding IsDistinct
distinct_put false live one others more differ rest same = same
distinct_put true false one others more differ rest same = rest
distinct_put true true one others more differ rest same = (differ, rest)

distinct_from : (folder at uid : ℕ) (ms : List Message) → IsDistinct (λ a b. a == b) (map id_of (listed_from folder at uid ms))
unfolding IsDistinct
distinct_from folder at uid [] = tt
distinct_from folder at uid (m ∷ ms) =
    distinct_put (m.folder == folder) m.live (record { id = at; uid = uid; flags = m.flags }) _ _
    (apart at (listed_from folder (at + 1) (uid + 1) ms) (from_on folder (at + 1) (uid + 1) (at + 1) ms (omega arith)))
    (distinct_from folder (at + 1) (uid + 1) ms) (distinct_from folder (at + 1) uid ms)

pub listed_distinct : (kept : Kept) (folder : ℕ) → IsDistinct (λ a b. a == b) (map (λ (one : Listed). one.id) (listed kept folder))
listed_distinct kept folder = distinct_from folder 0 1 kept.messages

-- ---- other flags

-- the same with these flags, if it is the message of this number
abbrev pub with_listed_flags : (id flags : ℕ) → Listed → Listed
with_listed_flags id flags one = if one.id == id then record one { flags = flags } else one

same_cons : (x y : Listed) (xs ys : List Listed) → x ≡ y → xs ≡ ys → x ∷ xs ≡ y ∷ ys
same_cons x y xs ys e rest = rw (e, rest) refl

changed_put : (f : Listed → Listed) (here live : Bool) (one new : Listed) (others more new_others new_more : List Listed) → new ≡ f one → new_others ≡ map f others → new_more ≡ map f more
    → put here live new new_others new_more ≡ map f (put here live one others more)
changed_put f false live one new others more new_others new_more is rest same = same
changed_put f true false one new others more new_others new_more is rest same = rest
changed_put f true true one new others more new_others new_more is rest same = same_cons new (f one) new_others (map f others) is rest

is_other : (id number : ℕ) → id + 1 ≤ number → (number == id) ≡ false
is_other id number above = grind (arith, nat_tests)

-- those of later numbers
unchanged : (id flags : ℕ) (all : List Listed) → AllByRecursion (λ one. id + 1 ≤ one.id) all → all ≡ map (with_listed_flags id flags) all
unchanged id flags [] above = refl
unchanged id flags (one ∷ others) above =
    same_cons one (with_listed_flags id flags one) others (map (with_listed_flags id flags) others) (sym (cond-false (one.id == id) _ _ (is_other id one.id above.0))) (unchanged id flags others above.1)

flags_from : (folder at uid flags : ℕ) (ms : List Message) (place : ℕ)
    → listed_from folder at uid (change_at (with_flags flags) ms place) ≡ map (with_listed_flags (at + place) flags) (listed_from folder at uid ms)
flags_from folder at uid flags [] place = refl
flags_from folder at uid flags (m ∷ ms) zero =
    let own : (at == at + 0) ≡ true = eq-eqb at (at + 0) (omega arith) in
    let above = λ (u : ℕ). unchanged (at + 0) flags (listed_from folder (at + 1) u ms) (from_on folder (at + 1) u (at + 0 + 1) ms (omega arith)) in
    changed_put (with_listed_flags (at + 0) flags) (m.folder == folder) m.live (record { id = at; uid = uid; flags = m.flags }) (record { id = at; uid = uid; flags = flags })
    (listed_from folder (at + 1) (uid + 1) ms) (listed_from folder (at + 1) uid ms) (listed_from folder (at + 1) (uid + 1) ms) (listed_from folder (at + 1) uid ms)
    (sym (cond-true (at == at + 0) _ _ own)) (above (uid + 1)) (above uid)
flags_from folder at uid flags (m ∷ ms) (suc place) =
    let other : (at == at + suc place) ≡ false = ne_eqb at (at + suc place) (λ e. absurd (omega (arith, e))) in
    let later : at + 1 + place ≡ at + suc place = omega arith in
    let rest = λ (u : ℕ). subst (λ (k : ℕ). listed_from folder (at + 1) u (change_at (with_flags flags) ms place) ≡ map (with_listed_flags k flags) (listed_from folder (at + 1) u ms)) later
    (flags_from folder (at + 1) u flags ms place) in
    changed_put (with_listed_flags (at + suc place) flags) (m.folder == folder) m.live (record { id = at; uid = uid; flags = m.flags }) (record { id = at; uid = uid; flags = m.flags })
    (listed_from folder (at + 1) (uid + 1) ms) (listed_from folder (at + 1) uid ms) _ _ (sym (cond-false (at == at + suc place) _ _ other)) (rest (uid + 1)) (rest uid)

-- a listing once a message has other flags
pub listed_flags : (kept : Kept) (folder id flags : ℕ) → listed (after_record kept (records.Flags id flags)) folder ≡ map (with_listed_flags id flags) (listed kept folder)
listed_flags kept folder id flags =
    let same : 0 + id ≡ id = omega arith in
    subst (λ (k : ℕ). listed (after_record kept (records.Flags id flags)) folder ≡ map (with_listed_flags k flags) (listed kept folder)) same (flags_from folder 0 1 flags kept.messages id)

-- the listed message with these flags
abbrev pub relisted : (flags : ℕ) → Listed → Listed
relisted flags one = record one { flags = flags }

-- those of other numbers
same_others : (id flags : ℕ) (all : List Listed) → AllByRecursion (λ other. (id == other) ≡ false) (map id_of all) → map (with_listed_flags id flags) all ≡ all
same_others id flags [] differ = refl
same_others id flags (one ∷ others) differ =
    let other : (one.id == id) ≡ false = ne_eqb one.id id (λ e. eqb-false id one.id differ.0 (sym e)) in
    same_cons (with_listed_flags id flags one) one (map (with_listed_flags id flags) others) others (cond-false (one.id == id) _ _ other) (same_others id flags others differ.1)

differs_at : (id : ℕ) (all : List Listed) (place : ℕ) (one : Listed) → AllByRecursion (λ other. (id == other) ≡ false) (map id_of all) → slice_get all place ≡ Some one → (id == one.id) ≡ false
differs_at id [] place one differ is = absurd (none-some one is)
differs_at id (x ∷ all) zero one differ is = subst (λ (y : Listed). (id == y.id) ≡ false) (same_Some x one is) differ.0
differs_at id (x ∷ all) (suc place) one differ is = differs_at id all place one differ.1 is

changed_place : (flags : ℕ) (all : List Listed) (place : ℕ) (one : Listed) → IsDistinct (λ a b. a == b) (map id_of all) → slice_get all place ≡ Some one
    → map (with_listed_flags one.id flags) all ≡ change_at (relisted flags) all place
unfolding IsDistinct
changed_place flags [] place one distinct is = refl
changed_place flags (first ∷ others) zero one distinct is =
    let same : first ≡ one = same_Some first one is in
    let own : (first.id == one.id) ≡ true = eq-eqb first.id one.id (ap (λ (l : Listed). l.id) same) in
    let differ = subst (λ (y : Listed). AllByRecursion (λ other. (y.id == other) ≡ false) (map id_of others)) same distinct.0 in
    same_cons (with_listed_flags one.id flags first) (relisted flags first) (map (with_listed_flags one.id flags) others) others (cond-true (first.id == one.id) _ _ own) (same_others one.id flags others differ)
changed_place flags (first ∷ others) (suc place) one distinct is =
    let other : (first.id == one.id) ≡ false = differs_at first.id others place one distinct.0 is in
    same_cons (with_listed_flags one.id flags first) first (map (with_listed_flags one.id flags) others) (change_at (relisted flags) others place) (cond-false (first.id == one.id) _ _ other)
    (changed_place flags others place one distinct.1 is)

-- a listing once the message at a place has other flags
pub listed_flags_at : (kept : Kept) (folder flags place : ℕ) (one : Listed) → slice_get (listed kept folder) place ≡ Some one
    → listed (after_record kept (records.Flags one.id flags)) folder ≡ change_at (relisted flags) (listed kept folder) place
listed_flags_at kept folder flags place one is = listed_flags kept folder one.id flags ∙ changed_place flags (listed kept folder) place one (listed_distinct kept folder) is

-- ---- how many

length_put : (here live : Bool) (one : Listed) (others more : List Listed) (n : ℕ) → length others ≤ n → length more ≤ n → length (put here live one others more) ≤ n + 1
length_put false live one others more n few same = omega (arith, same)
length_put true false one others more n few same = omega (arith, few)
length_put true true one others more n few same = omega (arith, few)

few_from : (folder at uid : ℕ) (ms : List Message) → length (listed_from folder at uid ms) ≤ length ms
few_from folder at uid [] = omega arith
few_from folder at uid (m ∷ ms) =
    let all : length (listed_from folder at uid (m ∷ ms)) ≤ length ms + 1 = length_put (m.folder == folder) m.live (record { id = at; uid = uid; flags = m.flags }) _ _ (length ms) (few_from folder (at + 1) (uid + 1) ms) (few_from folder (at + 1) uid ms) in
    omega (arith, all)

pub listed_few : (kept : Kept) (folder : ℕ) → length (listed kept folder) ≤ length kept.messages
listed_few kept folder = few_from folder 0 1 kept.messages
