-- Octets have their records in one way.
use Rattle.std.proofs.Common.{◌≡◌, ◌≢◌, ℕ, ◌<◌, ◌^◌, List, [], ◌∷◌, ◌++◌, length, get_or, drop, true, refl, sym, ap, subst, ◌∙◌, append_assoc, append-nil, arith, inl, inr, ◌⊎◌, length-append}
use Rattle.std.specs.Int.{w32, from_be_bytes}
use Rattle.std.specs.List.{flat_map, list_all}
use Rattle.std.proofs.lemmas.Bool.{and_parts, eqb-true}
use Rattle.std.proofs.lemmas.List.Concat.{flat_map-cons}
use Rattle.std.proofs.lemmas.Nat.{from_be_bytes-to_be_bytes_4}
use Rattle.mail_wire.proofs.AllLemmas.{pass-front}
use Rattle.journal_records.specs.declared.records.Record.{Record}
use Rattle.journal_records.specs.declared.versions.Version.{Version}
use Rattle.journal_records.specs.declared.versions.Version.TheVariants.{One, Two}
use Rattle.journal_records.specs.Versions.{version_after, version_after_all}
use Rattle.kept_mail.specs.Kept.{Kept, nothing, after_record, after_all, store_of}
use Rattle.kept_mail.specs.Records.{AreRecords}
use Rattle.journal_records.specs.Spelling.{number, octet_list, fields_of, record_text, journal, first_octets}
use Rattle.journal_records.specs.Frames.{IsCutShort, IsBeginning}
use Rattle.mail_store.specs.Opening.{AreZeros, is_zero, BeginsJournal, HasRecords, HasRecordsIn, HasNoRecord, IsBadAt, IsBroken}
use Rattle.journal_records.proofs.FrameLemmas.{list_no_prefix}
use Rattle.journal_records.proofs.RecordLaws.{record_once, some_fields}

-- the text of the first record, and what is after it
pub first_of : (x : Record) (a : List Record) (rest : List ℕ) → flat_map record_text (x ∷ a) ++ rest ≡ record_text x ++ (flat_map record_text a ++ rest)
first_of x a rest = ap (λ l. l ++ rest) (flat_map-cons record_text x a) ∙ append_assoc (record_text x) (flat_map record_text a) rest

-- b goes on where a ends
record Further (version : Version) (kept : Kept) (a b : List Record) (r s : List ℕ) : Type 0 where
  pub more : List Record
  pub is : b ≡ a ++ more
  pub records : AreRecords (version_after_all version a) (after_all kept a) more
  pub rest : r ≡ flat_map record_text more ++ s

-- of two readings one goes on where the other ends
two_readings : (version : Version) (kept : Kept) (a b : List Record) (r s : List ℕ) → AreRecords version kept a → AreRecords version kept b
    → flat_map record_text a ++ r ≡ flat_map record_text b ++ s → Further version kept a b r s ⊎ Further version kept b a s r
two_readings version kept [] b r s p q e = inl (record { more = b; is = refl; records = q; rest = e })
two_readings version kept (x ∷ a) [] r s p q e = inr (record { more = x ∷ a; is = refl; records = p; rest = sym e })
two_readings version kept (x ∷ a) (y ∷ b) r s p q e =
    let one = record_once x y (flat_map record_text a ++ r) (flat_map record_text b ++ s) (p.0.fits, p.0.short) (q.0.fits, q.0.short) (sym (first_of x a r) ∙ e ∙ first_of y b s) in
    let later = subst (λ (z : Record). AreRecords (version_after version z) (after_record kept z) b) (sym one.0) q.1 in
    elim (two_readings (version_after version x) (after_record kept x) a b r s p.1 later one.1) [
      | inl f ↦ inl (record {
        more = f.more;
        is = ap (λ (l : List Record). y ∷ l) f.is ∙ ap (λ (z : Record). z ∷ (a ++ f.more)) (sym one.0);
        records = f.records;
        rest = f.rest;
      })
      | inr f ↦ inr (record {
        more = f.more;
        is = ap (λ (l : List Record). x ∷ l) f.is ∙ ap (λ (z : Record). z ∷ (b ++ f.more)) one.0;
        records = subst (λ (z : Record). AreRecords (version_after_all (version_after version z) b) (after_all (after_record kept z) b) f.more) one.0 f.records;
        rest = f.rest;
      })
    ]

-- it doesn't go on where no record begins
none_further : (version : Version) (kept : Kept) (a b more : List Record) (r s : List ℕ) → b ≡ a ++ more → AreRecords (version_after_all version a) (after_all kept a) more → r ≡ flat_map record_text more ++ s
    → HasNoRecord (version_after_all version a) (after_all kept a) r → (a ≡ b) × (r ≡ s)
none_further version kept a b [] r s is p e none = (sym (is ∙ append-nil a), e)
none_further version kept a b (x ∷ more) r s is p e none = absurd (none x (flat_map record_text more ++ s) p.0 (e ∙ first_of x more s))

-- ---- the first octets

pub after_first : (version : Version) (octets : List ℕ) → drop 8 (first_octets version ++ octets) ≡ octets
after_first One octets = refl
after_first Two octets = refl

pub first_len : (version : Version) → length (first_octets version) ≡ 8
first_len One = refl
first_len Two = refl

-- they tell the version
version_once : (v w : Version) (x y : List ℕ) → first_octets v ++ x ≡ first_octets w ++ y → v ≡ w
version_once One One x y e = refl
version_once Two Two x y e = refl
version_once One Two x y e =
    let last : 49 ≡ 50 = ap (λ (l : List ℕ). get_or l 7 0) e in
    absurd (omega (arith, last))
version_once Two One x y e =
    let last : 50 ≡ 49 = ap (λ (l : List ℕ). get_or l 7 0) e in
    absurd (omega (arith, last))

pub journal_text : (version : Version) (all : List Record) (rest : List ℕ) → journal version all ++ rest ≡ first_octets version ++ (flat_map record_text all ++ rest)
journal_text version all rest = append_assoc (first_octets version) (flat_map record_text all) rest

-- two readings that both end where no record begins are the same
same_reading : (version : Version) (a b : List Record) (r s : List ℕ) → AreRecords version nothing a → AreRecords version nothing b
    → HasNoRecord (version_after_all version a) (store_of a) r → HasNoRecord (version_after_all version b) (store_of b) s → journal version a ++ r ≡ journal version b ++ s → (a ≡ b) × (r ≡ s)
same_reading version a b r s p q none_a none_b e =
    let text : flat_map record_text a ++ r ≡ flat_map record_text b ++ s =
    sym (after_first version (flat_map record_text a ++ r)) ∙ ap (drop 8) (sym (journal_text version a r) ∙ e ∙ journal_text version b s) ∙ after_first version (flat_map record_text b ++ s) in
    elim (two_readings version nothing a b r s p q text) [
      | inl f ↦ none_further version nothing a b f.more r s f.is f.records f.rest none_a
      | inr f ↦
          let other = none_further version nothing b a f.more s r f.is f.records f.rest none_b in
          (sym other.0, sym other.1)
    ]

-- ---- what is broken off

zero_bytes : (bytes : List ℕ) → length bytes ≡ 4 → list_all is_zero bytes ≡ true → from_be_bytes w32 bytes ≡ 0
zero_bytes [] len z = absurd (omega (arith, len))
zero_bytes (a ∷ []) len z = absurd (omega (arith, len))
zero_bytes (a ∷ b ∷ []) len z = absurd (omega (arith, len))
zero_bytes (a ∷ b ∷ c ∷ []) len z = absurd (omega (arith, len))
zero_bytes (a ∷ b ∷ c ∷ d ∷ e ∷ bytes) len z = absurd (omega (arith, len))
zero_bytes (a ∷ b ∷ c ∷ d ∷ []) len z =
    let first = and_parts (is_zero a) (list_all is_zero (b ∷ c ∷ d ∷ [])) z in
    let second = and_parts (is_zero b) (list_all is_zero (c ∷ d ∷ [])) first.1 in
    let third = and_parts (is_zero c) (list_all is_zero (d ∷ [])) second.1 in
    let fourth = and_parts (is_zero d) true third.1 in
    rw (eqb-true a 0 first.0, eqb-true b 0 second.0, eqb-true c 0 third.0, eqb-true d 0 fourth.0) refl

-- a list that isn't empty doesn't begin with zeros
pub zeros_no_list : (fields rest : List ℕ) → 0 < length fields → length fields < 2 ^ 32 → AreZeros (octet_list fields ++ rest) → ⊥
zeros_no_list fields rest some few zeros =
    let n = length fields in
    let front = pass-front is_zero (number n) fields (pass-front is_zero (octet_list fields) rest zeros) in
    let none : n ≡ 0 = sym (from_be_bytes-to_be_bytes_4 n few) ∙ zero_bytes (number n) refl front in
    omega (arith, none, some)

-- no record begins what is broken off
pub broken_has_none : (version : Version) (kept : Kept) (at : ℕ) (octets : List ℕ) → IsBroken version kept at octets → HasNoRecord version kept octets
broken_has_none version kept at octets (inl cut) = λ one rest is text. list_no_prefix (fields_of one) rest is.short (subst IsCutShort text cut)
broken_has_none version kept at octets (inr (inl zeros)) = λ one rest is text.
    zeros_no_list (fields_of one) rest (some_fields one) (omega (arith, is.short)) (subst AreZeros text zeros)
broken_has_none version kept at octets (inr (inr torn)) = torn.no_record

-- the same by other names
pub broken_moves : (v w : Version) (k l : Kept) (m n : ℕ) (r s : List ℕ) → v ≡ w → k ≡ l → m ≡ n → r ≡ s → IsBroken v k m r → IsBroken w l n s
broken_moves v w k l m n r s vw kl mn rs broken =
    subst (IsBroken w l n) rs (subst (λ (x : ℕ). IsBroken w l x r) mn (subst (λ (x : Kept). IsBroken w x m r) kl (subst (λ (x : Version). IsBroken x k m r) vw broken)))

pub none_moves : (v w : Version) (k l : Kept) (r s : List ℕ) → v ≡ w → k ≡ l → r ≡ s → HasNoRecord v k r → HasNoRecord w l s
none_moves v w k l r s vw kl rs none =
    subst (HasNoRecord w l) rs (subst (λ (x : Kept). HasNoRecord w x r) kl (subst (λ (x : Version). HasNoRecord x k r) vw none))

-- ---- the laws

-- a journal isn't shorter than its beginning
pub long : (version : Version) (octets rest : List ℕ) (all : List Record) → BeginsJournal version octets all rest → IsBeginning octets → ⊥
long version octets rest all w b =
    omega (arith, b.shorter, ap length w.text, length-append (journal version all) rest, length-append (first_octets version) (flat_map record_text all), first_len version)

-- a journal has first octets
no_first : (version : Version) (octets rest : List ℕ) (all : List Record) → BeginsJournal version octets all rest → ((v : Version) (following : List ℕ) → octets ≢ first_octets v ++ following) → ⊥
no_first version octets rest all w none = none version (flat_map record_text all ++ rest) (w.text ∙ journal_text version all rest)

-- they are of one version
one_version : (v w : Version) (octets r s : List ℕ) (a b : List Record) → BeginsJournal v octets a r → BeginsJournal w octets b s → v ≡ w
one_version v w octets r s a b p q =
    version_once v w (flat_map record_text a ++ r) (flat_map record_text b ++ s) (sym (journal_text v a r) ∙ sym p.text ∙ q.text ∙ journal_text w b s)

-- of two journals that end where no record begins
same_journals : (v w : Version) (octets r s : List ℕ) (a b : List Record) → BeginsJournal v octets a r → BeginsJournal w octets b s
    → HasNoRecord (version_after_all v a) (store_of a) r → HasNoRecord (version_after_all w b) (store_of b) s → (v ≡ w) × (a ≡ b) × (r ≡ s)
same_journals v w octets r s a b p q none_a none_b =
    let is = one_version v w octets r s a b p q in
    let other : BeginsJournal v octets b s = subst (λ (x : Version). BeginsJournal x octets b s) (sym is) q in
    let none = subst (λ (x : Version). HasNoRecord (version_after_all x b) (store_of b) s) (sym is) none_b in
    let same = same_reading v a b r s p.records other.records none_a none (sym p.text ∙ other.text) in
    (is, same.0, same.1)

-- octets have their records in one way, in one version
pub same_records_in : (v w : Version) (octets : List ℕ) (a b : List Record) → HasRecordsIn v octets a → HasRecordsIn w octets b → (v ≡ w) × (a ≡ b)
same_records_in v w octets a b (inl p) (inl q) = (p.1 ∙ sym q.1, p.2 ∙ sym q.2)
same_records_in v w octets a b (inl p) (inr (s, q, d)) = absurd (long w octets s b q p.0)
same_records_in v w octets a b (inr (r, p, c)) (inl q) = absurd (long v octets r a p q.0)
same_records_in v w octets a b (inr (r, p, c)) (inr (s, q, d)) =
    let same = same_journals v w octets r s a b p q (broken_has_none _ _ (length (journal v a)) r c) (broken_has_none _ _ (length (journal w b)) s d) in
    (same.0, same.1)

pub same_records : (octets : List ℕ) (a b : List Record) → HasRecords octets a → HasRecords octets b → a ≡ b
same_records octets a b p q = (same_records_in p.0 q.0 octets a b p.1 q.1).1

-- octets that have records aren't bad
pub records_not_bad_in : (v : Version) (octets : List ℕ) (a : List Record) (at : ℕ) → HasRecordsIn v octets a → IsBadAt octets at → ⊥
records_not_bad_in v octets a at (inl p) (inl (start, not_begun, none)) = not_begun p.0
records_not_bad_in v octets a at (inr (r, p, c)) (inl (start, not_begun, none)) = no_first v octets r a p none
records_not_bad_in v octets a at (inl p) (inr (w, b, s, place, bad)) = long w octets s b bad.whole p.0
records_not_bad_in v octets a at (inr (r, p, c)) (inr (w, b, s, place, bad)) =
    let same = same_journals v w octets r s a b p bad.whole (broken_has_none _ _ (length (journal v a)) r c) bad.no_record in
    bad.no_break (broken_moves (version_after_all v a) (version_after_all w b) (store_of a) (store_of b) (length (journal v a)) (length (journal w b)) r s
    (ap (λ (x : Version). version_after_all x a) same.0 ∙ ap (version_after_all w) same.1) (ap store_of same.1)
    (ap (λ (x : Version). length (journal x a)) same.0 ∙ ap (λ (l : List Record). length (journal w l)) same.1) same.2 c)

pub records_not_bad : (octets : List ℕ) (a : List Record) (at : ℕ) → HasRecords octets a → IsBadAt octets at → ⊥
records_not_bad octets a at p bad = records_not_bad_in p.0 octets a at p.1 bad

-- octets are bad at one place
pub one_bad : (octets : List ℕ) (at place : ℕ) → IsBadAt octets at → IsBadAt octets place → at ≡ place
one_bad octets at place (inl p) (inl q) = p.0 ∙ sym q.0
one_bad octets at place (inl p) (inr (w, b, s, here, bad)) = absurd (no_first w octets s b bad.whole p.2)
one_bad octets at place (inr (v, a, r, there, bad)) (inl q) = absurd (no_first v octets r a bad.whole q.2)
one_bad octets at place (inr (v, a, r, there, bad)) (inr (w, b, s, here, other)) =
    let same = same_journals v w octets r s a b bad.whole other.whole bad.no_record other.no_record in
    there ∙ ap (λ (x : Version). length (journal x a)) same.0 ∙ ap (λ (l : List Record). length (journal w l)) same.1 ∙ sym here
