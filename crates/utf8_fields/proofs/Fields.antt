-- The steps from field to field.
use Rattle.std.proofs.Common.{◌≡◌, ◌≢◌, ℕ, ◌+◌, ◌<◌, ◌≤◌, ◌⊎◌, inl, inr, List, [], ◌∷◌, ◌++◌, length, drop, true, false, arith, refl, sym, ap, ◌∙◌, append_assoc, length-append, append-nil}
use Rattle.mail_wire.specs.Lines.{crlf, lines_of}
use Rattle.utf8_fields.specs.declared.block.Field.{Field}
use Rattle.utf8_fields.specs.declared.block.FieldFault.{FieldFault}
use Rattle.utf8_fields.specs.declared.block.FieldFault.TheVariants.{NotField, NotUtf8, Memory}
use Rattle.utf8_fields.specs.Lines.{BeginsField, BeginsWhite}
use Rattle.utf8_fields.specs.Block.{IsFieldAt, AreFields, EndsBlock, HasBlockIn}
use Rattle.utf8_fields.specs.Faults.{IsFieldLine, ComesAfter, IsFaultIn}
use Rattle.utf8_fields.specs.private.Steps.{IsNextField, HasReadFields}

-- fields after fields
pub AreFields-append : (before lines : List (List ℕ)) (start at end : ℕ) (fields more : List Field) → AreFields before start fields at → AreFields lines at more end
    → AreFields (before ++ lines) start (fields ++ more) end
AreFields-append before lines start at end [] more done rest = rw (done.0, done.1) rest
AreFields-append before lines start at end (field ∷ fields) more done rest = (
  done.0,
  done.1,
  done.2 ++ lines,
  ap (λ all. all ++ lines) done.3 ∙ append_assoc (done.0 ∷ done.1) done.2 lines,
  done.4,
  AreFields-append done.2 lines (start + field.raw.len) at end fields more done.5 rest,
)

-- one field
pub AreFields-one : (at : ℕ) (field : Field) (first : List ℕ) (more : List (List ℕ)) → IsFieldAt at field first more → AreFields (first ∷ more) at (field ∷ []) (at + field.raw.len)
AreFields-one at field first more is = (first, more, [], sym (append-nil (first ∷ more)), is, (refl, refl))

-- a line that begins with white isn't empty
pub white_differs : (line : List ℕ) → BeginsWhite line → line ≢ crlf
white_differs [] white is = absurd white
white_differs (x ∷ rest) white is =
    let cr : x ≡ 13 = cc in
    let clash : false ≡ true = rw cr at white in cc

-- no octets have been read
pub HasRead-none : (octets : List ℕ) (start : ℕ) → start ≤ length octets → HasReadFields octets start [] start
HasRead-none octets start fits = record { before = []; lines = refl; fields_are = (refl, refl); ends = λ some. absurd (omega arith); fits = fits }

-- one more field
pub HasRead-more : (octets : List ℕ) (start : ℕ) (fields : List Field) (at : ℕ) (field : Field) → HasReadFields octets start fields at → IsNextField octets at field
    → HasReadFields octets start (fields ++ field ∷ []) (at + field.raw.len)
HasRead-more octets start fields at field read next =
    record {
      before = read.before ++ (next.first ∷ next.more);
      lines = read.lines ∙ rw next.lines (sym (append_assoc read.before (next.first ∷ next.more) (lines_of (drop (at + field.raw.len) octets))));
      fields_are = AreFields-append read.before (next.first ∷ next.more) start at (at + field.raw.len) fields (field ∷ []) read.fields_are
          (AreFields-one at field next.first next.more next.is_field);
      ends = λ some. next.ends;
      fits = next.fits;
    }

-- the block ends
pub HasBlock-from_read : (octets : List ℕ) (start : ℕ) (fields : List Field) (at : ℕ) → HasReadFields octets start fields at → EndsBlock (lines_of (drop at octets))
    → HasBlockIn (lines_of (drop start octets)) start fields at
HasBlock-from_read octets start fields at read ends =
    record { header = read.before; rest = lines_of (drop at octets); lines = read.lines; fields_are = read.fields_are; ends = ends }

-- the line that comes after more fields comes after all of them
ComesAfter-from_read : (octets : List ℕ) (start : ℕ) (fields more : List Field) (at place : ℕ) (line : List ℕ) → HasReadFields octets start fields at
    → ComesAfter (lines_of (drop at octets)) at more place line → ComesAfter (lines_of (drop start octets)) start (fields ++ more) place line
ComesAfter-from_read octets start fields more at place line read comes =
    record {
      before = read.before ++ comes.before;
      after = comes.after;
      split = read.lines ∙ ap (λ lines. read.before ++ lines) comes.split ∙ sym (append_assoc read.before comes.before (line ∷ comes.after));
      fields_are = AreFields-append read.before comes.before start at place fields more read.fields_are comes.fields_are;
      goes_on = comes.goes_on;
    }

IsFieldLine-up : (fields more : List Field) (line : List ℕ) → IsFieldLine more line → IsFieldLine (fields ++ more) line
IsFieldLine-up fields more line is = record { sound = is.sound; kind = by is.kind }
  where
    by : ((name : List ℕ) × BeginsField name line) ⊎ ((0 < length more) × BeginsWhite line) → ((name : List ℕ) × BeginsField name line) ⊎ ((0 < length (fields ++ more)) × BeginsWhite line)
    by (inl begins) = inl begins
    by (inr goes) = let some = goes.0 in inr (omega (arith, length-append fields more), goes.1)

IsFieldLine-down : (octets : List ℕ) (start : ℕ) (fields more : List Field) (at place : ℕ) (line : List ℕ) → HasReadFields octets start fields at
    → ComesAfter (lines_of (drop at octets)) at more place line → IsFieldLine (fields ++ more) line → IsFieldLine more line
IsFieldLine-down octets start fields more at place line read comes is = record { sound = is.sound; kind = by more comes is.kind }
  where
    by : (more : List Field) → ComesAfter (lines_of (drop at octets)) at more place line → ((name : List ℕ) × BeginsField name line) ⊎ ((0 < length (fields ++ more)) × BeginsWhite line)
        → ((name : List ℕ) × BeginsField name line) ⊎ ((0 < length more) × BeginsWhite line)
    by more comes (inl begins) = inl begins
    by [] comes (inr goes) =
        let some : 0 < length fields = rw append-nil at goes.0 in
        let next : lines_of (drop at octets) ≡ line ∷ comes.after = rw comes.fields_are.0 at comes.split in
        let ends = rw next at (read.ends some) in absurd (ends goes.1)
    by (field ∷ more) comes (inr goes) = inr (omega arith, goes.1)

-- a fault among the lines after the fields is one of the block
pub IsFault-from_read : (octets : List ℕ) (start : ℕ) (fields : List Field) (at : ℕ) (fault : FieldFault) → HasReadFields octets start fields at → IsFaultIn (lines_of (drop at octets)) at fault
    → IsFaultIn (lines_of (drop start octets)) start fault
IsFault-from_read octets start fields at (NotField place) read fault = (
  fields ++ fault.0,
  fault.1,
  ComesAfter-from_read octets start fields fault.0 at place fault.1 read fault.2,
  λ is. fault.3 (IsFieldLine-down octets start fields fault.0 at place fault.1 read fault.2 is),
)
IsFault-from_read octets start fields at (NotUtf8 place) read fault = (
  fields ++ fault.0,
  fault.1,
  fault.2,
  ComesAfter-from_read octets start fields fault.0 at fault.1 fault.2 read fault.3,
  IsFieldLine-up fields fault.0 fault.2 fault.4,
  fault.5,
  fault.6,
)
IsFault-from_read octets start fields at Memory read fault = tt
