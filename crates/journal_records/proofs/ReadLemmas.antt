-- What reading a record tells, in the words of its spelling.
use Rattle.std.proofs.Common.{◌≡◌, ◌≢◌, ℕ, List, Result, Ok, Err, IfOk, sym, ap, subst, ◌∙◌}
use Rattle.journal_records.specs.declared.reading.ReadFault.{ReadFault}
use Rattle.journal_records.specs.declared.reading.ReadFault.TheVariants.{NoRecord}
use Rattle.journal_records.specs.declared.records.Record.{Record}
use Rattle.journal_records.specs.Spelling.{Fits, fields_of}
use Rattle.journal_records.specs.private.Reading.{ReadsInto, record_at}
use Rattle.journal_records.proofs.Fields.{AreOctets}
use Rattle.journal_records.proofs.RecordLaws.{none_is_some, record_takes, record_again}

abbrev IsRead : Result Record ReadFault → List ℕ → Type 0
IsRead result fields = ReadsInto (λ (one : Record). one) result (record_at fields)

pub read_spelled : (result : Result Record ReadFault) (fields : List ℕ) → AreOctets fields → IsRead result fields → IfOk result (λ one. fields ≡ fields_of one)
read_spelled (Ok one) fields octets is = (record_takes fields one octets is).0
read_spelled (Err fault) fields octets is = tt

pub read_fits : (result : Result Record ReadFault) (fields : List ℕ) → AreOctets fields → IsRead result fields → IfOk result Fits
read_fits (Ok one) fields octets is = (record_takes fields one octets is).1
read_fits (Err fault) fields octets is = tt

pub read_none : (result : Result Record ReadFault) (fields : List ℕ) → IsRead result fields → result ≡ Err NoRecord → (one : Record) → Fits one → fields ≢ fields_of one
read_none result fields is none one fits e =
    let failed : IsRead (Err NoRecord) fields = subst (λ (r : Result Record ReadFault). IsRead r fields) none is in
    none_is_some one (sym failed ∙ ap record_at e ∙ record_again one fits)
