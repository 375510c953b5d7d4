-- Several calls that change a store, one after another.
use Rattle.std.proofs.Common.{◌≡◌, ℕ, ◌+◌, List, [], ◌∷◌, ◌++◌, length, take, Option, Some, None, true, refl, sym, ap, ap₂, subst, ◌∙◌, append_assoc, append-nil}
use Rattle.std.specs.List.{flat_map}
use Rattle.std.proofs.lemmas.List.Concat.{flat_map-cons, flat_map-append}
use Rattle.std.proofs.Math.Seq.{take-append-add}
use Rattle.mail_wire.specs.Keeping.{with_last}
use Rattle.journal_records.specs.declared.records.Record.{Record}
use Rattle.mail_store.specs.Changing.{IsStoreOf, HoldsFirst}
use Rattle.mail_store.specs.Following.{records_of, Follows, Breaks}
use Rattle.kept_mail.specs.Kept.{Kept}
use Rattle.kept_mail.specs.Records.{AreRecords}
use Rattle.journal_records.specs.Spelling.{record_text}
use Rattle.mail_store.specs.StoreState.{StoreState, with_records}
use Rattle.mail_store.proofs.ChangeLemmas.{after_all-append, end_after-append, with_nothing}
use Rattle.mail_store.proofs.DeliveryLemmas.{AreRecords-more}
use Rattle.journal_records.specs.declared.versions.Version.TheVariants.{Two}
use Rattle.mail_store.proofs.LawLemmas.{grown, left_following}

pub records_of-append : (a b : List (List Record)) → records_of (a ++ b) ≡ records_of a ++ records_of b
records_of-append a b = flat_map-append (λ records. records) a b

pub records_of-one : (a : List (List Record)) (b : List Record) → records_of (a ++ b ∷ []) ≡ records_of a ++ b
records_of-one a b = records_of-append a (b ∷ []) ∙ ap (λ (l : List Record). records_of a ++ l) (flat_map-cons (λ records. records) b [] ∙ append-nil b)

with_last-twice : (had : Option (List ℕ)) (a b : List ℕ) → with_last (with_last had a) b ≡ with_last had (a ++ b)
with_last-twice None a b = refl
with_last-twice (Some octets) a b = ap (λ (l : List ℕ). Some l) (append_assoc octets a b)

-- no call
pub Follows-nil : (old : StoreState) (had : Option (List ℕ)) → Follows old old had had []
Follows-nil old had = record { records = tt; store = refl; journal = with_nothing had }

pub with_records-append : (old : StoreState) (all more : List Record) → with_records (with_records old all) more ≡ with_records old (all ++ more)
with_records-append old all more =
    ap₂ (λ (kept : Kept) (end : ℕ). (let new : StoreState = record old { kept = kept; end = end } in new)) (sym (after_all-append old.kept all more)) (sym (end_after-append old.end all more))

records_on : (old mid : StoreState) (all more : List Record) → mid ≡ with_records old all → AreRecords Two old.kept all → AreRecords Two mid.kept more → AreRecords Two old.kept (all ++ more)
records_on old mid all more is first second =
    AreRecords-more old.kept all more first (subst (λ (k : Kept). AreRecords Two k more) (ap (λ (s : StoreState). s.kept) is) second)

-- calls, and more of them
pub Follows-more : (old mid new : StoreState) (had has having : Option (List ℕ)) (all more : List Record) → Follows old mid had has all → Follows mid new has having more
    → Follows old new had having (all ++ more)
Follows-more old mid new had has having all more first second = record {
  records = records_on old mid all more first.store first.records second.records;
  store = second.store ∙ ap (λ (s : StoreState). with_records s more) first.store ∙ with_records-append old all more;
  journal = second.journal ∙ ap (λ (o : Option (List ℕ)). with_last o (flat_map record_text more)) first.journal
      ∙ with_last-twice had (flat_map record_text all) (flat_map record_text more) ∙ ap (with_last had) (sym (flat_map-append record_text all more));
}

-- calls, and a failure of the keeper in a later one
pub Breaks-more : (old mid new : StoreState) (had has having : Option (List ℕ)) (all made failing : List Record) → Follows old mid had has all → Breaks mid new has having made failing
    → Breaks old new had having (all ++ made) failing
Breaks-more old mid new had has having all made failing first breaks =
    let front = flat_map record_text all in
    let text = flat_map record_text made in
    let cut = take breaks.count (flat_map record_text failing) in
    let joined : front ++ (text ++ cut) ≡ flat_map record_text (all ++ made) ++ cut =
    sym (append_assoc front text cut) ∙ ap (λ (l : List ℕ). l ++ cut) (sym (flat_map-append record_text all made)) in
    record {
      records = subst (AreRecords Two old.kept) (sym (append_assoc all made failing)) (records_on old mid all (made ++ failing) first.store first.records breaks.records);
      store = breaks.store ∙ ap (λ (s : StoreState). (let broken : StoreState = record (with_records s made) { failed = true } in broken)) first.store
          ∙ ap (λ (s : StoreState). (let broken : StoreState = record s { failed = true } in broken)) (with_records-append old all made);
      count = breaks.count;
      journal = breaks.journal ∙ ap (λ (o : Option (List ℕ)). with_last o (text ++ cut)) first.journal ∙ with_last-twice had front (text ++ cut) ∙ ap (with_last had) joined;
    }

-- ---- one call

pub Breaks-one : (old new : StoreState) (had has : Option (List ℕ)) (failing : List Record)
    → AreRecords Two old.kept failing × (new ≡ record old { failed = true }) × (n : ℕ) × (has ≡ with_last had (take n (flat_map record_text failing))) → Breaks old new had has [] failing
Breaks-one old new had has failing (records, store, n, journal) = record { records = records; store = store; count = n; journal = journal }

-- ---- the laws

pub followed : (old new : StoreState) (had has : Option (List ℕ)) (all more : List Record) → IsStoreOf old had all → Follows old new had has more → IsStoreOf new has (all ++ more)
followed old new had has all more s f = grown {T = Unit {0}} old new had has all more (tt {0}) s (f.records, f.store, f.journal)

pub broken : (old new : StoreState) (had has : Option (List ℕ)) (all made failing : List Record) → IsStoreOf old had all → Breaks old new had has made failing → HoldsFirst has all (made ++ failing)
broken old new had has all made failing s breaks =
    let front = flat_map record_text made in
    let whole : front ++ take breaks.count (flat_map record_text failing) ≡ take (length front + breaks.count) (flat_map record_text (made ++ failing)) =
    sym (take-append-add front (flat_map record_text failing) breaks.count) ∙ ap (take (length front + breaks.count)) (sym (flat_map-append record_text made failing)) in
    left_following old new had has all (made ++ failing) (length front + breaks.count) s breaks.records (breaks.journal ∙ ap (with_last had) whole)
