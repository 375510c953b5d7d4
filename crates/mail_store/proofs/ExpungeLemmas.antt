-- Messages that go, one after the other.
use Rattle.journal_records.specs.declared.versions.Version.TheVariants as versions
use Rattle.std.proofs.Common.{◌≡◌, ◌≢◌, ℕ, zero, suc, ◌+◌, ◌<◌, ◌≤◌, Bool, true, false, eqb, List, [], ◌∷◌, ◌++◌, length, take, get_or, Option, Some, None, refl, sym, ap, ◌∙◌, arith}
use Rattle.std.specs.Prelude.{slice_get}
use Rattle.std.specs.List.{All, IsDistinct, AllByRecursion, list_all}
use Rattle.std.specs.Option.{option_map_or}
use Rattle.std.proofs.lemmas.Bool.{eqb-false}
use Rattle.std.proofs.lemmas.List.{take_more, get_or_default}
use Rattle.std.proofs.lemmas.List.Sums.{AllPass-from_list_all}
use Rattle.kept_mail.specs.declared.kept.Message.{Message}
use Rattle.kept_mail.specs.declared.limits.TheConstants.{THINGS_MAX}
use Rattle.journal_records.specs.declared.records.Record.TheVariants as records
use Rattle.mail_store.specs.Changing.{is_live, expunged}
use Rattle.kept_mail.specs.Kept.{Kept, change_at, gone, after_record, after_all}
use Rattle.kept_mail.specs.Records.{IsLive, AreRecords}
use Rattle.mail_store.specs.StoreState.{StoreState}
use Rattle.mail_store.specs.private.Adding.{with_record, keeping}
use Rattle.kept_mail.proofs.SameMessages.{length-change_at}
use Rattle.mail_store.proofs.ChangeLemmas.{and_left, and_right, and_both, after_all-push, slice_get_within}

-- what stands at another place than the changed one
slice_get-change_other : {T : Type 0} (change : T → T) (xs : List T) (at k : ℕ) → k ≢ at → slice_get (change_at change xs at) k ≡ slice_get xs k
slice_get-change_other change [] at k other = refl
slice_get-change_other change (x ∷ xs) zero zero other = absurd (other refl)
slice_get-change_other change (x ∷ xs) zero (suc k) other = refl
slice_get-change_other change (x ∷ xs) (suc at) zero other = refl
slice_get-change_other change (x ∷ xs) (suc at) (suc k) other = slice_get-change_other change xs at k (λ e. other (ap suc e))

abbrev lives : Option Message → Bool
lives o = option_map_or (λ (message : Message). message.live) o false

pub live_of : (o : Option Message) → lives o ≡ true → IsLive o
live_of None e = absurd cc
live_of (Some message) e = e

pub live_within : (kept : Kept) (id : ℕ) → is_live kept id ≡ true → id < length kept.messages
live_within kept id e = slice_get_within kept.messages id (λ none. (let dead : false ≡ true = rw none at e in absurd cc))

-- the others live on when one goes
others_live : (kept : Kept) (id : ℕ) (ids : List ℕ) → AllByRecursion (λ other. eqb id other ≡ false) ids → list_all (is_live kept) ids ≡ true
    → list_all (is_live (after_record kept (records.Expunge id))) ids ≡ true
others_live kept id [] apart live = refl
others_live kept id (other ∷ ids) apart live =
    let differ : other ≢ id = λ e. eqb-false id other apart.0 (sym e) in
    let same = ap lives (slice_get-change_other gone kept.messages id other differ) in
    and_both (is_live (after_record kept (records.Expunge id)) other) (list_all (is_live (after_record kept (records.Expunge id))) ids)
    (same ∙ and_left (is_live kept other) (list_all (is_live kept) ids) live)
    (others_live kept id ids apart.1 (and_right (is_live kept other) (list_all (is_live kept) ids) live))

-- live messages that are distinct can go one after the other
pub AreRecords-expunged : (kept : Kept) (ids : List ℕ) → length kept.messages ≤ THINGS_MAX → IsDistinct (λ a b. eqb a b) ids → list_all (is_live kept) ids ≡ true
    → AreRecords versions.Two kept (expunged ids)
unfolding IsDistinct
AreRecords-expunged kept [] few distinct live = tt
AreRecords-expunged kept (id ∷ ids) few distinct live =
    let first = and_left (is_live kept id) (list_all (is_live kept) ids) live in
    let within = live_within kept id first in
    let len = length-change_at gone kept.messages id in (
      record { fits = omega (arith, within, few); short = omega arith; of_version = tt; in_order = live_of (slice_get kept.messages id) first },
      AreRecords-expunged (after_record kept (records.Expunge id)) ids (omega (arith, len, few)) distinct.1
          (others_live kept id ids distinct.0 (and_right (is_live kept id) (list_all (is_live kept) ids) live)),
    )

pub length-expunged : (kept : Kept) (ids : List ℕ) → length (after_all kept (expunged ids)).messages ≡ length kept.messages
length-expunged kept [] = refl
length-expunged kept (id ∷ ids) = length-expunged (after_record kept (records.Expunge id)) ids ∙ length-change_at gone kept.messages id

expunged-push : (ids : List ℕ) (id : ℕ) → expunged (ids ++ id ∷ []) ≡ expunged ids ++ records.Expunge id ∷ []
expunged-push [] id = refl
expunged-push (x ∷ ids) id = ap (λ all. records.Expunge x ∷ all) (expunged-push ids id)

-- one more message goes
pub expunge-step : (old mid new : StoreState) (ids : List ℕ) (i id : ℕ) → i < length ids → id ≡ get_or ids i 0
    → mid ≡ keeping old (expunged (take i ids)) → new ≡ with_record mid (records.Expunge id) → new ≡ keeping old (expunged (take (i + 1) ids))
expunge-step old mid new ids i id within is m n =
    let more : expunged (take (i + 1) ids) ≡ expunged (take i ids) ++ records.Expunge id ∷ [] =
    ap expunged (take_more ids i id within ∙ ap (λ x. take i ids ++ x ∷ []) (get_or_default ids i id 0 within ∙ sym is)) ∙ expunged-push (take i ids) id in
    n ∙ ap (λ s. with_record s (records.Expunge id)) m
    ∙ ap (λ k. record old { kept = k }) (sym (after_all-push old.kept (expunged (take i ids)) (records.Expunge id)) ∙ ap (after_all old.kept) (sym more))

pub all_within : (kept : Kept) (ids : List ℕ) → list_all (is_live kept) ids ≡ true → All (λ id. id < length kept.messages) ids
all_within kept ids live = λ k d l. live_within kept (get_or ids k d) (AllPass-from_list_all (is_live kept) ids live k d l)

-- the next message is there still
pub next_within : (old mid : StoreState) (ids : List ℕ) (i : ℕ) → i < length ids → All (λ id. id < length old.kept.messages) ids
    → mid ≡ keeping old (expunged (take i ids)) → get_or ids i 0 < length mid.kept.messages
next_within old mid ids i within all m =
    let len : length mid.kept.messages ≡ length old.kept.messages = ap (λ s. length s.kept.messages) m ∙ length-expunged old.kept (take i ids) in
    let there : get_or ids i 0 < length old.kept.messages = all i 0 within in
    omega (arith, len, there)

pub none_expunged : (ids : List ℕ) → expunged ids ≡ [] → ids ≡ []
none_expunged [] e = refl
none_expunged (id ∷ ids) e = absurd (cc e)
