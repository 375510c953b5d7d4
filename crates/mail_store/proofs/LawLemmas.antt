-- What a change leaves, and what a failed append leaves.
use Rattle.std.proofs.Common.{◌≡◌, ℕ, suc, ◌+◌, ◌-◌, ◌<◌, ◌≤◌, List, [], ◌∷◌, ◌++◌, length, take, Option, Some, refl, sym, ap, subst, ◌∙◌, append_assoc, arith, inl, inr, length-append}
use Rattle.std.specs.Prelude.{Ok}
use Rattle.std.specs.List.{flat_map}
use Rattle.std.proofs.lemmas.List.Concat.{flat_map-cons, flat_map-append}
use Rattle.std.proofs.lemmas.List.{length-take}
use Rattle.std.proofs.Math.Seq.{take-append-add, take-nil}
use Rattle.std.proofs.lemmas.Bool.{cases_lt}
use Rattle.mail_wire.specs.Keeping.{with_last}
use Rattle.journal_records.specs.declared.records.Record.{Record}
use Rattle.mail_store.specs.Changing.{IsStoreOf, Changes, HoldsFirst}
use Rattle.kept_mail.specs.Kept.{Kept, nothing, after_record, after_all, store_of}
use Rattle.journal_records.specs.Frames.{IsCutShort}
use Rattle.kept_mail.specs.Records.{IsRecord, AreRecords}
use Rattle.journal_records.specs.Spelling.{number, fields_of, record_text, journal, first_octets}
use Rattle.mail_store.specs.StoreState.{StoreState}
use Rattle.mail_store.proofs.ChangeLemmas.{after_all-append}
use Rattle.mail_store.proofs.DeliveryLemmas.{AreRecords-append, two_stays}
use Rattle.journal_records.proofs.RecordLaws.{some_fields}
use Rattle.mail_store.proofs.Readings.{first_of, first_len}
use Rattle.journal_records.specs.declared.versions.Version.{Version}
use Rattle.journal_records.specs.declared.versions.Version.TheVariants.{Two}
use Rattle.journal_records.specs.Versions.{version_after, version_after_all}

pub journal-append : (version : Version) (a b : List Record) → journal version (a ++ b) ≡ journal version a ++ flat_map record_text b
journal-append version a b =
    ap (λ (l : List ℕ). first_octets version ++ l) (flat_map-append record_text a b) ∙ sym (append_assoc (first_octets version) (flat_map record_text a) (flat_map record_text b))

pub version_after_all-append : (version : Version) (a b : List Record) → version_after_all version (a ++ b) ≡ version_after_all (version_after_all version a) b
version_after_all-append version [] b = refl
version_after_all-append version (x ∷ a) b = version_after_all-append (version_after version x) a b

-- a journal that goes on in version 2 does so after more records
pub two_later : (version : Version) (a b : List Record) → version_after_all version a ≡ Two → version_after_all version (a ++ b) ≡ Two
two_later version a b is = version_after_all-append version a b ∙ ap (λ (v : Version). version_after_all v b) is ∙ two_stays b

-- records of version 2 after those of a journal
pub records_later : (version : Version) (kept : Kept) (a b : List Record) → AreRecords version kept a → version_after_all version a ≡ Two → AreRecords Two (after_all kept a) b → AreRecords version kept (a ++ b)
records_later version kept a b first is more = AreRecords-append version kept a b first (subst (λ (v : Version). AreRecords v (after_all kept a) b) (sym is) more)

-- a journal is as long in either version
pub journal_len : (version : Version) (all : List Record) → length (journal version all) ≡ 8 + length (flat_map record_text all)
journal_len version all = length-append (first_octets version) (flat_map record_text all) ∙ ap (λ (n : ℕ). n + length (flat_map record_text all)) (first_len version)

-- the first octets of some records are whole records and a prefix of one
pub record FirstOctets (version : Version) (kept : Kept) (n : ℕ) (more : List Record) : Type 0 where
  pub count : ℕ
  pub rest : List ℕ
  pub text : take n (flat_map record_text more) ≡ flat_map record_text (take count more) ++ rest
  pub records : AreRecords version kept (take count more)
  pub cut_short : IsCutShort rest

-- more of two lists than the first has
take-append-ge : (xs ys : List ℕ) (n : ℕ) → length xs ≤ n → take n (xs ++ ys) ≡ xs ++ take (n - length xs) ys
take-append-ge xs ys n le =
    let split : n ≡ length xs + (n - length xs) = omega arith in
    ap (λ (k : ℕ). take k (xs ++ ys)) split ∙ take-append-add xs ys (n - length xs)

-- a proper prefix of a record is a prefix of a record
cut_one : (version : Version) (kept : Kept) (x : Record) (following : List ℕ) (n : ℕ) → IsRecord version kept x → n < length (record_text x) → IsCutShort (take n (record_text x ++ following))
cut_one version kept x following n p less =
    elim (cases_lt n 4) [
      | inl few ↦ inl (omega (arith, length-take n (record_text x ++ following)))
      | inr enough ↦
          let body = fields_of x in
          let held = take (n - 4) (body ++ following) in
          let head : take n (number (length body) ++ (body ++ following)) ≡ number (length body) ++ held = take-append-ge (number (length body)) (body ++ following) n enough in
          let fewer : length held < length body = omega (arith, length-take (n - 4) (body ++ following), length-append (number (length body)) body) in
          inr (length body, held, some_fields x, p.short, fewer, ap (take n) (append_assoc (number (length body)) body following) ∙ head)
    ]

pub first_octets_of : (version : Version) (kept : Kept) (n : ℕ) (more : List Record) → AreRecords version kept more → FirstOctets version kept n more
first_octets_of version kept n [] p = record { count = 0; rest = []; text = take-nil n; records = tt; cut_short = inl (omega arith) }
first_octets_of version kept n (x ∷ more) p =
    let whole = flat_map-cons record_text x more in
    elim (cases_lt n (length (record_text x))) [
      | inl less ↦ record {
        count = 0;
        rest = take n (flat_map record_text (x ∷ more));
        text = refl;
        records = tt;
        cut_short = subst IsCutShort (ap (take n) (sym whole)) (cut_one version kept x (flat_map record_text more) n p.0 less);
      }
      | inr enough ↦
          let f = first_octets_of (version_after version x) (after_record kept x) (n - length (record_text x)) more p.1 in
          record {
            count = suc f.count;
            rest = f.rest;
            text =
                ap (take n) whole ∙ take-append-ge (record_text x) (flat_map record_text more) n enough ∙ ap (λ (l : List ℕ). record_text x ++ l) f.text ∙ sym (first_of x (take f.count more) f.rest);
            records = (p.0, f.records);
            cut_short = f.cut_short;
          }
    ]

-- what a call changed is put last in the store and in the keeper
pub grown : {T : Type 0} (old new : StoreState) (had has : Option (List ℕ)) (all more : List Record) (done : T) → IsStoreOf old had all → Changes old new had has (Ok done) more → IsStoreOf new has (all ++ more)
grown old new had has all more done s c = record {
  version = s.version;
  records = records_later s.version nothing all more s.records s.last_version (subst (λ (k : Kept). AreRecords Two k more) s.kept_is c.0);
  last_version = two_later s.version all more s.last_version;
  kept_is = ap (λ (x : StoreState). x.kept) c.1 ∙ ap (λ (k : Kept). after_all k more) s.kept_is ∙ sym (after_all-append nothing all more);
  holds = c.2 ∙ ap (λ (o : Option (List ℕ)). with_last o (flat_map record_text more)) s.holds ∙ ap (λ (l : List ℕ). Some l) (sym (journal-append s.version all more));
}

-- a first part of the new octets opens with the first of the new records
pub left_following : (old new : StoreState) (had has : Option (List ℕ)) (all more : List Record) (n : ℕ) → IsStoreOf old had all → AreRecords Two old.kept more
    → has ≡ with_last had (take n (flat_map record_text more)) → HoldsFirst has all more
left_following old new had has all more n s p e =
    let f = first_octets_of Two (store_of all) n more (subst (λ (k : Kept). AreRecords Two k more) s.kept_is p) in
    let octets = journal s.version all ++ take n (flat_map record_text more) in
    let text : octets ≡ journal s.version (all ++ take f.count more) ++ f.rest =
    ap (λ (l : List ℕ). journal s.version all ++ l) f.text ∙ sym (append_assoc (journal s.version all) (flat_map record_text (take f.count more)) f.rest)
    ∙ ap (λ (l : List ℕ). l ++ f.rest) (sym (journal-append s.version all (take f.count more))) in
    record {
      kept = octets;
      count = f.count;
      holds = e ∙ ap (λ (o : Option (List ℕ)). with_last o (take n (flat_map record_text more))) s.holds;
      records = (s.version, inr (f.rest, record { text = text; records = records_later s.version nothing all (take f.count more) s.records s.last_version f.records }, inl f.cut_short));
    }
