-- What opening leaves, and that it is opened for good.
use Rattle.std.proofs.Common.{◌≡◌, ◌≢◌, ℕ, zero, suc, ◌+◌, ◌-◌, ◌<◌, ◌≤◌, List, [], ◌∷◌, ◌++◌, length, take, Option, Some, refl, sym, ap, ap₂, subst, ◌∙◌, append_assoc, append-nil, arith, inl, inr, ◌⊎◌, length-append, length-take}
use Rattle.std.specs.List.{flat_map}
use Rattle.std.proofs.lemmas.Bool.{cases_lt}
use Rattle.std.proofs.lemmas.List.{take_all}
use Rattle.std.proofs.Math.Seq.{take-append-add, take-nil}
use Rattle.journal_records.specs.declared.limits.TheConstants.{RECORD_MAX}
use Rattle.journal_records.specs.declared.records.Record.{Record}
use Rattle.journal_records.specs.declared.records.Record.TheVariants as records
use Rattle.journal_records.specs.declared.versions.Version.{Version}
use Rattle.journal_records.specs.declared.versions.Version.TheVariants as versions
use Rattle.journal_records.specs.Frames.{IsBeginning, IsCutShort}
use Rattle.journal_records.specs.Spelling.{record_text, journal, first_octets}
use Rattle.journal_records.specs.Versions.{version_after_all}
use Rattle.journal_records.proofs.Fields.{some_is}
use Rattle.kept_mail.specs.Kept.{Kept, nothing, store_of}
use Rattle.kept_mail.specs.Records.{IsRecord, AreRecords}
use Rattle.mail_store.specs.Answers.{IsFirstOfOpened, IsToBegin, LeavesRecords, OpensTo, upgrade, upgraded}
use Rattle.mail_store.specs.Changing.{IsStoreOf}
use Rattle.mail_store.specs.Opening.{BeginsJournal, HasRecordsIn}
use Rattle.mail_store.specs.StoreState.{StoreState}
use Rattle.mail_store.proofs.DeliveryLemmas.{AreRecords-append}
use Rattle.mail_store.proofs.LawLemmas.{first_octets_of, journal-append, journal_len, version_after_all-append}
use Rattle.mail_store.proofs.Readings.{long, same_records_in}

-- ---- the record of version 2

version_record : (kept : Kept) → IsRecord versions.One kept records.Version
version_record kept = record { fits = tt; short = omega arith; of_version = refl; in_order = tt }

upgrade_records : (version : Version) (kept : Kept) → AreRecords version kept (upgrade version)
upgrade_records versions.One kept = (version_record kept, tt)
upgrade_records versions.Two kept = tt

pub upgraded_records : (version : Version) (all : List Record) → AreRecords version nothing all → AreRecords version nothing (upgraded version all)
upgraded_records version all h = AreRecords-append version nothing all (upgrade (version_after_all version all)) h (upgrade_records (version_after_all version all) (store_of all))

upgrade_two : (version : Version) → version_after_all version (upgrade version) ≡ versions.Two
upgrade_two versions.One = refl
upgrade_two versions.Two = refl

pub upgraded_two : (version : Version) (all : List Record) → version_after_all version (upgraded version all) ≡ versions.Two
upgraded_two version all = version_after_all-append version all (upgrade (version_after_all version all)) ∙ upgrade_two (version_after_all version all)

-- nothing is put last after it
nothing_more : (version : Version) (all : List Record) → version_after_all version all ≡ versions.Two → upgraded version all ≡ all
nothing_more version all two = ap (λ (v : Version). all ++ upgrade v) two ∙ append-nil all

-- ---- records that stand in octets

pub records_had : (version : Version) (octets : List ℕ) (all : List Record) → HasRecordsIn version octets all → AreRecords version nothing all
records_had version octets all (inl (begun, two, none)) = rw none tt
records_had version octets all (inr (rest, begins, broken)) = begins.records

pub whole_journal : (version : Version) (all : List Record) → AreRecords version nothing all → HasRecordsIn version (journal version all) all
whole_journal version all held = inr ([], record { text = sym (append-nil (journal version all)); records = held }, inl (inl (omega arith)))

-- records and a prefix of one
cut_journal : (version : Version) (octets : List ℕ) (all : List Record) (rest : List ℕ) → octets ≡ journal version all ++ rest → AreRecords version nothing all → IsCutShort rest → HasRecordsIn version octets all
cut_journal version octets all rest text held cut = inr (rest, record { text = text; records = held }, inl cut)

-- a prefix of an empty journal has no records
begun_journal : (octets : List ℕ) (n : ℕ) → octets ≡ take n (first_octets versions.Two) → HasRecordsIn versions.Two octets []
begun_journal octets n e =
    elim (cases_lt n 8) [
      | inl less ↦
          let len : length octets ≡ n = ap length e ∙ omega (arith, length-take n (first_octets versions.Two)) in
          inl (record { shorter = omega (arith, len, less); version = versions.Two; same = e ∙ ap (λ (k : ℕ). take k (first_octets versions.Two)) (sym len) }, refl, refl)
      | inr more ↦
          let whole : octets ≡ first_octets versions.Two = e ∙ take_all n (first_octets versions.Two) (omega (arith, more)) in
          subst (λ (l : List ℕ). HasRecordsIn versions.Two l []) (sym whole) (whole_journal versions.Two [] tt)
    ]

-- ---- what opening leaves

abbrev Left : Version → List Record → List ℕ → Type 0
Left version all new = HasRecordsIn version new all ⊎ HasRecordsIn version new (upgraded version all)

-- more than a list has of it and what is after it
take_past : (xs ys : List ℕ) (n : ℕ) → length xs ≤ n → take n (xs ++ ys) ≡ xs ++ take (n - length xs) ys
take_past xs ys n le =
    let split : n ≡ length xs + (n - length xs) = omega (arith, le) in
    ap (λ (k : ℕ). take k (xs ++ ys)) split ∙ take-append-add xs ys (n - length xs)

-- with a first part of the record of version 2
left_one : (version : Version) (all : List Record) (new : List ℕ) (n : ℕ) → AreRecords version nothing all → version_after_all version all ≡ versions.One
    → new ≡ journal version all ++ take n (flat_map record_text (records.Version ∷ [])) → Left version all new
left_one version all new n held one text =
    let f = first_octets_of versions.One (store_of all) n (records.Version ∷ []) (version_record (store_of all), tt) in
    parts f.count f.rest f.text f.cut_short
  where
    last : upgraded version all ≡ all ++ records.Version ∷ []
    last = ap (λ (v : Version). all ++ upgrade v) one

    both : AreRecords version nothing (all ++ records.Version ∷ [])
    both = subst (AreRecords version nothing) last (upgraded_records version all held)

    parts : (count : ℕ) (rest : List ℕ) → take n (flat_map record_text (records.Version ∷ [])) ≡ flat_map record_text (take count (records.Version ∷ [])) ++ rest → IsCutShort rest → Left version all new
    parts zero rest is cut = inl (cut_journal version new all rest (text ∙ ap (λ l. journal version all ++ l) is) held cut)
    parts (suc count) rest is cut =
        let taken : take (suc count) (records.Version ∷ []) ≡ records.Version ∷ [] = ap (λ (l : List Record). records.Version ∷ l) (take-nil count) in
        let whole : new ≡ journal version (all ++ records.Version ∷ []) ++ rest =
        text ∙ ap (λ (l : List ℕ). journal version all ++ l) (is ∙ ap (λ (l : List Record). flat_map record_text l ++ rest) taken)
        ∙ sym (append_assoc (journal version all) (flat_map record_text (records.Version ∷ [])) rest) ∙ ap (λ (l : List ℕ). l ++ rest) (sym (journal-append version all (records.Version ∷ []))) in
        inr (subst (HasRecordsIn version new) (sym last) (cut_journal version new (all ++ records.Version ∷ []) rest whole both cut))

left_of : (version other : Version) (all : List Record) (new : List ℕ) (count : ℕ) → version_after_all version all ≡ other → AreRecords version nothing all → length (journal version all) ≤ count
    → new ≡ take count (journal version (all ++ upgrade other)) → Left version all new
left_of version versions.Two all new count two held enough text =
    let whole : new ≡ journal version all = text ∙ ap (λ (l : List Record). take count (journal version l)) (append-nil all) ∙ take_all count (journal version all) enough in
    inl (subst (λ (l : List ℕ). HasRecordsIn version l all) (sym whole) (whole_journal version all held))
left_of version versions.One all new count one held enough text =
    let more = flat_map record_text (records.Version ∷ []) in
    let split : new ≡ journal version all ++ take (count - length (journal version all)) more =
    text ∙ ap (take count) (journal-append version all (records.Version ∷ [])) ∙ take_past (journal version all) more count enough in
    left_one version all new (count - length (journal version all)) held one split

left_first : (version : Version) (all : List Record) (old new : List ℕ) (count : ℕ) → HasRecordsIn version old all → IsBeginning old ⊎ (length (journal version all) ≤ count)
    → new ≡ take count (journal version (upgraded version all)) → Left version all new
left_first version all old new count (inl (begun, two, none)) whole text =
    let none_upgraded : upgraded version all ≡ [] = ap₂ upgraded two none in
    let first : new ≡ take count (first_octets versions.Two) = text ∙ ap (take count) (ap₂ journal two none_upgraded) in
    inl (subst (λ (v : Version). HasRecordsIn v new all) (sym two) (subst (HasRecordsIn versions.Two new) (sym none) (begun_journal new count first)))
left_first version all old new count (inr (rest, begins, broken)) (inl begun) text = absurd (long version old rest all begins begun)
left_first version all old new count (inr (rest, begins, broken)) (inr enough) text = left_of version (version_after_all version all) all new count refl begins.records enough text

pub left : (old new : List ℕ) (version : Version) (all : List Record) → HasRecordsIn version old all → LeavesRecords (Some old) (Some new) → Left version all new
left old new version all had (inl same) = inl (subst (λ (l : List ℕ). HasRecordsIn version l all) (sym same) had)
left old new version all had (inr f) =
    let same = same_records_in f.version version old f.all all f.had had in
    subst (λ (v : Version). Left v all new) same.0 (subst (λ (l : List Record). Left f.version l new) same.1 (left_first f.version f.all old new f.count f.had f.whole f.text))

-- ---- opened again

-- the store is the one of the journal that the keeper has
pub opened_store : (old : List ℕ) (new : Option (List ℕ)) (store : StoreState) → (opens : OpensTo old new store.kept) → IsStoreOf store new opens.all
opened_store old new store opens = record {
  version = opens.version;
  records = subst (AreRecords opens.version nothing) (sym opens.all_is) (upgraded_records opens.version opens.first (records_had opens.version old opens.first opens.had));
  last_version = ap (version_after_all opens.version) opens.all_is ∙ upgraded_two opens.version opens.first;
  kept_is = opens.kept_is;
  holds = opens.holds;
}

record IsOpened (octets : List ℕ) (version : Version) (all : List Record) : Type 0 where
  had : HasRecordsIn version octets all
  two : version_after_all version all ≡ versions.Two

opened : (old new : List ℕ) (kept : Kept) → (opens : OpensTo old (Some new) kept) → IsOpened new opens.version opens.all
opened old new kept opens =
    let text : new ≡ journal opens.version opens.all = some_is new (journal opens.version opens.all) opens.holds in
    let held = subst (AreRecords opens.version nothing) (sym opens.all_is) (upgraded_records opens.version opens.first (records_had opens.version old opens.first opens.had)) in
    record {
      had = subst (λ (l : List ℕ). HasRecordsIn opens.version l opens.all) (sym text) (whole_journal opens.version opens.all held);
      two = ap (version_after_all opens.version) opens.all_is ∙ upgraded_two opens.version opens.first;
    }

pub opened_twice : (old new : List ℕ) (kept other : Kept) (again : Option (List ℕ)) → OpensTo old (Some new) kept → OpensTo new again other → (again ≡ Some new) × (other ≡ kept)
opened_twice old new kept other again a b =
    let is = opened old new kept a in
    let same = same_records_in b.version a.version new b.first a.all b.had is.had in
    let same_all : b.all ≡ a.all = b.all_is ∙ ap₂ upgraded same.0 same.1 ∙ nothing_more a.version a.all is.two in (
      b.holds ∙ ap (λ (l : List ℕ). Some l) (ap₂ journal same.0 same_all) ∙ sym a.holds,
      b.kept_is ∙ ap store_of same_all ∙ sym a.kept_is,
    )

one_is_two : versions.One ≡ versions.Two → ⊥
one_is_two e = absurd cc

pub opened_begun : (old new : List ℕ) (kept : Kept) → OpensTo old (Some new) kept → IsToBegin new → ⊥
opened_begun old new kept a (inl begun) =
    let is = opened old new kept a in
    begun_not is.had
  where
    begun_not : HasRecordsIn a.version new a.all → ⊥
    begun_not (inl p) =
        let text : new ≡ journal a.version a.all = some_is new (journal a.version a.all) a.holds in
        omega (arith, p.0.shorter, ap length text, journal_len a.version a.all)
    begun_not (inr (rest, begins, broken)) = long a.version new rest a.all begins begun
opened_begun old new kept a (inr (all, had, one)) =
    let is = opened old new kept a in
    let same = same_records_in versions.One a.version new all a.all had is.had in
    one_is_two (sym one ∙ ap₂ version_after_all same.0 same.1 ∙ is.two)
