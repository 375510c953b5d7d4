-- Octets that have a block have no faulty line.
use Rattle.std.proofs.Common.{◌≡◌, ◌≢◌, ℕ, ◌+◌, ◌<◌, ◌⊎◌, inl, inr, List, [], ◌∷◌, ◌++◌, length, arith, refl, sym, ◌∙◌}
use Rattle.std.specs.Prelude.{IsUtf8}
use Rattle.std.specs.List.{All}
use Rattle.std.proofs.lemmas.List.Elements.{All-head, All-tail, All-append, All-nil, All-cons}
use Rattle.mail_wire.specs.Lines.{crlf}
use Rattle.mail_wire.specs.Message.{IsSound}
use Rattle.utf8_fields.specs.declared.block.Field.{Field}
use Rattle.utf8_fields.specs.declared.block.FieldFault.{FieldFault}
use Rattle.utf8_fields.specs.declared.block.FieldFault.TheVariants.{NotField, NotUtf8, Memory}
use Rattle.utf8_fields.specs.Lines.{BeginsField, BeginsWhite}
use Rattle.utf8_fields.specs.Block.{AreFields, EndsBlock, HasBlockIn}
use Rattle.utf8_fields.specs.Faults.{IsFieldLine, ComesAfter, IsFaultIn}
use Rattle.utf8_fields.proofs.Fields.{white_differs}
use Rattle.utf8_fields.proofs.OneBlock.{field_not_empty}

-- a line of a block
pub record IsBlockLine (line : List ℕ) : Type 0 where
  pub begins : ((name : List ℕ) × BeginsField name line) ⊎ BeginsWhite line
  pub sound : IsSound line
  pub utf8 : IsUtf8 line

pub not_empty : (line : List ℕ) → ((name : List ℕ) × BeginsField name line) ⊎ BeginsWhite line → line ≢ crlf
not_empty line (inl field) = field_not_empty field.0 line field.1
not_empty line (inr white) = white_differs line white

white_lines : (more : List (List ℕ)) → All BeginsWhite more → All IsSound more → All IsUtf8 more → All IsBlockLine more
white_lines [] white sound utf8 = All-nil IsBlockLine
white_lines (line ∷ more) white sound utf8 =
    All-cons IsBlockLine line more
    (record { begins = inr (All-head BeginsWhite line more white); sound = All-head IsSound line more sound; utf8 = All-head IsUtf8 line more utf8 })
    (white_lines more (All-tail BeginsWhite line more white) (All-tail IsSound line more sound) (All-tail IsUtf8 line more utf8))

pub block_lines : (lines : List (List ℕ)) (start end : ℕ) (fields : List Field) → AreFields lines start fields end → All IsBlockLine lines
block_lines lines start end [] done = rw done.0 (All-nil IsBlockLine)
block_lines lines start end (field ∷ fields) done =
    rw done.3 (All-append IsBlockLine (done.0 ∷ done.1) done.2
    (All-cons IsBlockLine done.0 done.1 (record { begins = inl (_, done.4.begins); sound = All-head IsSound done.0 done.1 done.4.sound; utf8 = All-head IsUtf8 done.0 done.1 done.4.utf8 })
    (white_lines done.1 done.4.further (All-tail IsSound done.0 done.1 done.4.sound) (All-tail IsUtf8 done.0 done.1 done.4.utf8)))
    (block_lines done.2 (start + field.raw.len) end fields done.5))

-- a line after block lines that isn't empty is one too
is_block_line : (before header : List (List ℕ)) (line : List ℕ) (after rest : List (List ℕ)) → before ++ line ∷ after ≡ header ++ rest → All IsBlockLine before → All IsBlockLine header
    → EndsBlock rest → line ≢ crlf → IsBlockLine line
is_block_line [] [] line after rest same befores headers ends on = let at = rw (← same) at ends in absurd (on at)
is_block_line [] (head ∷ header) line after rest same befores headers ends on =
    let is : head ≡ line = cc in rw (← is) (All-head IsBlockLine head header headers)
is_block_line (first ∷ before) [] line after rest same befores headers ends on =
    let at = rw (← same) at ends in absurd (not_empty first (All-head IsBlockLine first before befores).begins at)
is_block_line (first ∷ before) (head ∷ header) line after rest same befores headers ends on =
    let tails : before ++ line ∷ after ≡ header ++ rest = cc in
    is_block_line before header line after rest tails (All-tail IsBlockLine first before befores) (All-tail IsBlockLine head header headers) ends on

-- the first line of a block begins a field
begins_first : (line : List ℕ) (after header rest : List (List ℕ)) (start end : ℕ) (fields : List Field) → line ∷ after ≡ header ++ rest → AreFields header start fields end → EndsBlock rest → line ≢ crlf
    → (name : List ℕ) × BeginsField name line
begins_first line after header rest start end [] same done ends on = let next = rw done.0 at same in let at = rw (← next) at ends in absurd (on at)
begins_first line after header rest start end (field ∷ fields) same done ends on =
    let next = rw done.3 at same in
    let is : line ≡ done.0 = cc in rw is (_, done.4.begins)

field_line : (lines : List (List ℕ)) (start : ℕ) (fields found : List Field) (end at : ℕ) (line : List ℕ) → HasBlockIn lines start fields end → ComesAfter lines start found at line
    → IsFieldLine found line × IsUtf8 line
field_line lines start fields found end at line block comes =
    let same = sym comes.split ∙ block.lines in
    let is = is_block_line comes.before block.header line comes.after block.rest same (block_lines comes.before start at found comes.fields_are) (block_lines block.header start end fields block.fields_are)
    block.ends comes.goes_on in
    (record { sound = is.sound; kind = go found comes.fields_are is.begins }, is.utf8)
  where
    go : (found : List Field) → AreFields comes.before start found at → ((name : List ℕ) × BeginsField name line) ⊎ BeginsWhite line
        → ((name : List ℕ) × BeginsField name line) ⊎ ((0 < length found) × BeginsWhite line)
    go found done (inl begins) = inl begins
    go [] done (inr white) = inl (begins_first line comes.after block.header block.rest start end fields (rw done.0 at (sym comes.split ∙ block.lines)) block.fields_are block.ends comes.goes_on)
    go (field ∷ found) done (inr white) = inr (omega arith, white)

pub no_fault : (lines : List (List ℕ)) (start : ℕ) (fields : List Field) (end : ℕ) (fault : FieldFault) → HasBlockIn lines start fields end → IsFaultIn lines start fault → fault ≡ Memory
no_fault lines start fields end (NotField place) block fault = absurd (fault.3 (field_line lines start fields fault.0 end place fault.1 block fault.2).0)
no_fault lines start fields end (NotUtf8 place) block fault = absurd (fault.5 (field_line lines start fields fault.0 end fault.1 fault.2 block fault.3).1)
no_fault lines start fields end Memory block fault = refl
