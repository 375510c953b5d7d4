-- What the calls that change a store have in common.
use Rattle.journal_records.specs.declared.versions.Version.TheVariants as versions
use Rattle.std.proofs.Common.{◌≡◌, ◌≢◌, ℕ, zero, suc, ◌+◌, ◌<◌, Bool, true, false, ◌&&◌, List, [], ◌∷◌, ◌++◌, length, take, get_or, Option, Some, None, Err, refl, sym, ap, subst, ◌∙◌, arith, append-nil, length-append}
use Rattle.std.specs.Prelude.{slice_get}
use Rattle.std.specs.List.{flat_map}
use Rattle.std.proofs.lemmas.Bool.{ltb-false}
use Rattle.std.proofs.lemmas.List.{take_more}
use Rattle.std.proofs.lemmas.List.Concat.{flat_map-cons, flat_map-append}
use Rattle.mail_wire.specs.Keeping.{with_last}
use Rattle.kept_mail.specs.declared.limits.TheConstants.{THINGS_MAX}
use Rattle.journal_records.specs.declared.records.Record.{Record}
use Rattle.mail_store.specs.declared.changing.StoreFault.{StoreFault}
use Rattle.mail_store.specs.declared.changing.StoreFault.TheVariants as faults
use Rattle.mail_store.specs.declared.writing.Progress.{Progress}
use Rattle.mail_store.specs.Changing.{Changes, IsRefusedAs}
use Rattle.kept_mail.specs.Records.{are_too_many, AreRecords}
use Rattle.kept_mail.specs.Kept.{Kept, after_record, after_all}
use Rattle.journal_records.specs.Spelling.{record_text}
use Rattle.mail_store.specs.StoreState.{StoreState, end_after, with_records}
use Rattle.mail_store.specs.private.Adding.{keeping}
use Rattle.mail_store.specs.private.Writing.{Writes}

pub and_left : (a b : Bool) → (a && b) ≡ true → a ≡ true
and_left true b e = refl
and_left false b e = absurd cc

pub and_right : (a b : Bool) → (a && b) ≡ true → b ≡ true
and_right true b e = e
and_right false b e = absurd cc

pub and_both : (a b : Bool) → a ≡ true → b ≡ true → (a && b) ≡ true
and_both true b e f = f
and_both false b e f = absurd cc

pub after_all-push : (kept : Kept) (all : List Record) (one : Record) → after_all kept (all ++ one ∷ []) ≡ after_record (after_all kept all) one
after_all-push kept [] one = refl
after_all-push kept (x ∷ all) one = after_all-push (after_record kept x) all one

pub after_all-append : (kept : Kept) (all more : List Record) → after_all kept (all ++ more) ≡ after_all (after_all kept all) more
after_all-append kept [] more = refl
after_all-append kept (x ∷ all) more = after_all-append (after_record kept x) all more

-- a place where something stands
pub slice_get_within : {T : Type 0} (xs : List T) (i : ℕ) → slice_get xs i ≢ None → i < length xs
slice_get_within [] i some = absurd (some refl)
slice_get_within (x ∷ xs) zero some = omega arith
slice_get_within (x ∷ xs) (suc i) some =
    let ih = slice_get_within xs i some in
    omega (arith, ih)

pub with_nothing : (had : Option (List ℕ)) → had ≡ with_last had []
with_nothing None = refl
with_nothing (Some octets) = ap (λ l. Some l) (sym (append-nil octets))

-- how long some parts are, and one more
pub parts_len : {X : Type 0} (text : X → List ℕ) (xs : List X) (i : ℕ) (d : X) → i < length xs
    → length (flat_map text (take (i + 1) xs)) ≡ length (flat_map text (take i xs)) + length (text (get_or xs i d))
parts_len text xs i d within =
    let more : flat_map text (take (i + 1) xs) ≡ flat_map text (take i xs) ++ text (get_or xs i d) =
    ap (flat_map text) (take_more xs i d within) ∙ flat_map-append text (take i xs) (get_or xs i d ∷ []) ∙ ap (λ (l : List ℕ). flat_map text (take i xs) ++ l) (flat_map-cons text (get_or xs i d) [] ∙ append-nil (text (get_or xs i d))) in
    ap length more ∙ length-append (flat_map text (take i xs)) (text (get_or xs i d))

-- where a journal ends after records, in one step
pub end_after-is : (end : ℕ) (all : List Record) → end_after end all ≡ end + length (flat_map record_text all)
end_after-is end [] = omega arith
end_after-is end (one ∷ all) =
    let whole = ap length (flat_map-cons record_text one all) in
    let parts = length-append (record_text one) (flat_map record_text all) in
    let rest = end_after-is (end + length (record_text one)) all in
    omega (arith, whole, parts, rest)

pub end_after-append : (end : ℕ) (all more : List Record) → end_after end (all ++ more) ≡ end_after (end_after end all) more
end_after-append end [] more = refl
end_after-append end (x ∷ all) more = end_after-append (end + length (record_text x)) all more

-- how far a store is in its journal
abbrev pub progress_of : StoreState → Progress
progress_of store = record { end = store.end; failed = store.failed }

abbrev with_progress : StoreState → Progress → StoreState
with_progress store progress = record store { failed = progress.failed; end = progress.end }

-- what a call leaves where its text wasn't written
unwritten : (T : Type 0) (old : StoreState) (progress : Progress) (had has : Option (List ℕ)) (fault : StoreFault) (all : List Record) (text : List ℕ)
    → AreRecords versions.Two old.kept all → text ≡ flat_map record_text all → Writes {T = Unit {0}} (progress_of old) progress had has (Err fault) text
    → Changes {T = T} old (with_progress old progress) had has (Err fault) all
unwritten T old progress had has faults.Exists all text r t w = absurd w
unwritten T old progress had has faults.NoSuch all text r t w = absurd w
unwritten T old progress had has faults.TooLarge all text r t w = absurd w
unwritten T old progress had has faults.Memory all text r t w = (ap (with_progress old) w.0, w.1)
unwritten T old progress had has faults.Keeper all text r t w =
    (r, ap (with_progress old) w.0, w.1, w.2 ∙ ap (λ l. with_last had (take w.1 l)) t)

pub changes-unwritten : (T : Type 0) (now old new : StoreState) (progress : Progress) (had has : Option (List ℕ)) (fault : StoreFault) (all : List Record) (text : List ℕ) → old ≡ now
    → AreRecords versions.Two old.kept all → text ≡ flat_map record_text all → new ≡ record old { failed = progress.failed; end = progress.end }
    → Writes {T = Unit {0}} (progress_of old) progress had has (Err fault) text → Changes {T = T} now new had has (Err fault) all
changes-unwritten T now old new progress had has fault all text view r t n w =
    subst (λ s. Changes {T = T} now s had has (Err fault) all) (sym n)
    (subst (λ s. Changes {T = T} s (with_progress old progress) had has (Err fault) all) view (unwritten T old progress had has fault all text r t w))

-- a call that comes to the keeper isn't refused
pub refused-unwritten : (T : Type 0) (was progress : Progress) (had has : Option (List ℕ)) (fault : StoreFault) (text : List ℕ) (refusal : Option StoreFault)
    → refusal ≡ None → Writes {T = T} was progress had has (Err fault) text → IsRefusedAs {T = T} (Err fault) refusal
refused-unwritten T was progress had has faults.Exists text refusal none w = absurd w
refused-unwritten T was progress had has faults.NoSuch text refusal none w = absurd w
refused-unwritten T was progress had has faults.TooLarge text refusal none w = absurd w
refused-unwritten T was progress had has faults.Memory text refusal none w = tt
refused-unwritten T was progress had has faults.Keeper text refusal none w = none

-- what a call leaves where its text was written, and its records were put last
pub changes-written : (now old : StoreState) (progress : Progress) (new : StoreState) (had has : Option (List ℕ)) (all : List Record) (text : List ℕ) → old ≡ now
    → AreRecords versions.Two old.kept all → text ≡ flat_map record_text all → progress ≡ record (progress_of old) { end = old.end + length text } → has ≡ with_last had text
    → new ≡ keeping (record old { failed = progress.failed; end = progress.end }) all
    → AreRecords versions.Two now.kept all × (new ≡ with_records now all) × (has ≡ with_last had (flat_map record_text all))
changes-written now old progress new had has all text view r t p h n =
    let end : old.end + length text ≡ end_after old.end all = ap (λ (l : List ℕ). old.end + length l) t ∙ sym (end_after-is old.end all) in (
      subst (λ s. AreRecords versions.Two s.kept all) view r,
      n ∙ ap (λ (q : Progress). keeping (with_progress old q) all) p ∙ ap (λ (e : ℕ). let s : StoreState = record old { kept = after_all old.kept all; end = e } in s) end
          ∙ ap (λ s. with_records s all) view,
      h ∙ ap (with_last had) t,
    )

-- the text of one record
pub text-one : (one : Record) (text : List ℕ) → text ≡ record_text one → text ≡ flat_map record_text (one ∷ [])
text-one one text is = is ∙ sym (append-nil (record_text one))

pub has_room : (count : ℕ) → are_too_many count 1 ≡ false → count < THINGS_MAX
has_room count few =
    let le = ltb-false THINGS_MAX (count + 1) few in
    omega (arith, le)
