-- One more record.
use Rattle.std.proofs.Common.{◌≡◌, ◌≢◌, ℕ, ◌+◌, ◌≤◌, List, length, Result, Err, refl, sym, ap, ◌∙◌, subst, arith, length-append}
use Rattle.journal_records.specs.declared.limits.TheConstants.{RECORD_MAX}
use Rattle.journal_records.specs.declared.reading.ReadFault.{ReadFault}
use Rattle.journal_records.specs.declared.reading.ReadFault.TheVariants.{Memory, NoRecord}
use Rattle.journal_records.specs.declared.records.Record.{Record}
use Rattle.journal_records.specs.Spelling.{Fits, number, fields_of, record_text}
use Rattle.journal_records.specs.declared.versions.Version.{Version}
use Rattle.journal_records.specs.Versions.{IsOfVersion, version_after}
use Rattle.journal_records.proofs.RecordLaws.{fields_once}
use Rattle.kept_mail.specs.Records.{IsInOrder}
use Rattle.mail_store.specs.StoreState.{StoreState}
use Rattle.mail_store.specs.private.Adding.{AddsRecord, AddsNext, Added, NotAdded, with_record, lengthened}

abbrev failed : ReadFault → Result Record ReadFault
failed fault = Err fault

-- the octets are no fields of a record: nothing was read
pub not_read : (e : ReadFault) (version : Version) (old : StoreState) (fields : List ℕ) → (failed e ≡ Err NoRecord → (one : Record) → Fits one → fields ≢ fields_of one)
    → AddsNext {T = Unit {0}} version version old old (Err e) fields
not_read Memory version old fields h = (refl, refl)
not_read NoRecord version old fields h = (λ one is. h refl one is.fits, refl, refl)

-- a record was read that is of another version
pub not_of_version : (version : Version) (old : StoreState) (fields : List ℕ) (one : Record) → fields ≡ fields_of one → Fits one → (IsOfVersion version one → ⊥)
    → NotAdded version old fields
not_of_version version old fields one text fits other = λ it is e. other (subst (IsOfVersion version) (fields_once it one is.fits fits (sym e ∙ text)) is.of_version)

-- a record was read that is out of place
pub not_added : (e : ReadFault) (version : Version) (old new : StoreState) (fields : List ℕ) (one : Record) → fields ≡ fields_of one → Fits one
    → AddsRecord {T = Unit {0}} old new (Err e) one → AddsNext {T = Unit {0}} version version old new (Err e) fields
not_added Memory version old new fields one text fits h = (refl, h)
not_added NoRecord version old new fields one text fits h = (
  λ other is e.
      h.0 (subst (IsInOrder old.kept) (fields_once other one is.fits fits (sym e ∙ text)) is.in_order),
  refl,
  h.1,
)

-- the text of a record is so long
pub text_len : (one : Record) (fields : List ℕ) → fields ≡ fields_of one → 4 + length fields ≡ length (record_text one)
text_len one fields text = ap (λ (l : List ℕ). 4 + length l) text ∙ omega (arith, length-append (number (length (fields_of one))) (fields_of one))

-- a record was read and kept
pub was_read : (version after : Version) (old mid new : StoreState) (fields : List ℕ) (one : Record) → fields ≡ fields_of one → Fits one → IsOfVersion version one
    → length fields ≤ RECORD_MAX → IsInOrder old.kept one → mid ≡ with_record old one → new ≡ lengthened mid (4 + length fields) → after ≡ version_after version one
    → Added version after old new fields
was_read version after old mid new fields one text fits of_version short in_order kept n next = record {
  one = one;
  is_record = record { fits = fits; short = subst (λ (l : List ℕ). length l ≤ RECORD_MAX) text short; of_version = of_version; in_order = in_order };
  text = text;
  after_is = next;
  new_is = n ∙ ap (λ (s : StoreState). lengthened s (4 + length fields)) kept ∙ ap (lengthened (with_record old one)) (text_len one fields text);
}
