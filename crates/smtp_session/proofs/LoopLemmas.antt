-- The fields named Received are as many over a block's fields as over its lines.
use Rattle.std.proofs.Common.{◌≡◌, ◌≢◌, ℕ, ◌+◌, ◌<◌, ◌≤◌, List, [], ◌∷◌, ◌++◌, Bool, true, false, not, cond, length, take, drop, refl, sym, ap, subst, ◌∙◌, arith, append_assoc, length-append}
use Rattle.std.specs.Prelude.{slice_index_or}
use Rattle.std.specs.List.{All, concat, count_by, list_all, take_while}
use Rattle.std.specs.Str.{bytes_eq}
use Rattle.std.proofs.lemmas.Bool.{and_parts}
use Rattle.std.proofs.lemmas.List.{take-append-drop, length-take-le}
use Rattle.std.proofs.lemmas.List.Elements.{All-head, All-tail}
use Rattle.std.proofs.lemmas.List.Folds.{concat-append}
use Rattle.std.proofs.lemmas.List.Sums.{sum_by-cons, sum_by-append, take_while-cons}
use Rattle.std.proofs.lemmas.Slice.Eq.{bytes_eq-Decides}
use Rattle.mail_wire.specs.Lines.{crlf, lines_of}
use Rattle.mail_wire.specs.Octets.{is_field_name_octet, same_name}
use Rattle.mail_wire.specs.Spans.{Stops}
use Rattle.mail_wire.proofs.LineLemmas.{concat_lines_of}
use Rattle.utf8_fields.specs.declared.block.Field.{Field}
use Rattle.utf8_fields.specs.Lines.{BeginsField, BeginsWhite}
use Rattle.utf8_fields.specs.Block.{AreFields, EndsBlock, HasBlock, IsFieldAt, name_of}
use Rattle.utf8_fields.proofs.Names.{after_name, name_below, white_not_name}
use Rattle.utf8_fields.proofs.NoFault.{IsBlockLine, block_lines, not_empty}
use Rattle.utf8_fields.proofs.HaveParts.{block_fields}
use Rattle.utf8_fields.proofs.Raws.{HasBlock-whole, slice_range-following}
use Rattle.mime_tree.specs.declared.entity.Entity.{Entity}
use Rattle.mime_tree.specs.Tree.{HasTree, IsEntity}
use Rattle.smtp_session.specs.Loops.{is_received, line_name, received_count}

-- ---- the lines of the header

-- the line isn't empty
abbrev goes_on : List ℕ → Bool
goes_on line = not (bytes_eq line crlf)

some_line : (line : List ℕ) → line ≢ crlf → goes_on line ≡ true
some_line line other = by (bytes_eq line crlf) refl
  where
    by : (b : Bool) → bytes_eq line crlf ≡ b → not b ≡ true
    by true is = absurd (other ((bytes_eq-Decides line crlf).0 is))
    by false is = refl

-- the lines of the fields are those before the first empty line
header_is : (header rest : List (List ℕ)) → All IsBlockLine header → EndsBlock rest → take_while goes_on (header ++ rest) ≡ header
header_is [] [] all ends = refl
header_is [] (line ∷ rest) all ends = take_while-cons goes_on line rest ∙ rw ends refl
header_is (line ∷ header) rest all ends =
    let some = some_line line (not_empty line (All-head IsBlockLine line header all).begins) in
    take_while-cons goes_on line (header ++ rest) ∙ rw some (ap (λ lines. line ∷ lines) (header_is header rest (All-tail IsBlockLine line header all) ends))

-- ---- names

-- a longest front
front_is : (p : ℕ → Bool) (front rest : List ℕ) → list_all p front ≡ true → Stops p rest → take_while p (front ++ rest) ≡ front
front_is p [] [] passes stops = refl
front_is p [] (x ∷ rest) passes stops = take_while-cons p x rest ∙ rw stops refl
front_is p (x ∷ front) rest passes stops =
    let parts = and_parts (p x) (list_all p front) passes in
    take_while-cons p x (front ++ rest) ∙ rw parts.0 (ap (λ octets. x ∷ octets) (front_is p front rest parts.1 stops))

-- the name of the field that a line begins
name_is : (name line : List ℕ) → BeginsField name line → line_name line ≡ name
name_is name line begins =
    ap (take_while is_field_name_octet) begins.colon.3
    ∙ front_is is_field_name_octet name (begins.colon.0 ++ 58 ∷ begins.colon.1) begins.octets (after_name begins.colon.0 begins.colon.1 begins.colon.2)

-- a line that goes on with a field names none
white_name : (line : List ℕ) → BeginsWhite line → line_name line ≡ []
white_name [] white = absurd white
white_name (x ∷ rest) white = take_while-cons is_field_name_octet x rest ∙ rw (white_not_name x white) refl

no_name : is_received [] ≡ false
unfolding same_name
no_name = refl

abbrev counts : List ℕ → Bool
counts line = is_received (line_name line)

more_count_none : (more : List (List ℕ)) → All BeginsWhite more → count_by counts more ≡ 0
more_count_none [] white = refl
more_count_none (line ∷ more) white =
    let first : counts line ≡ false = ap is_received (white_name line (All-head BeginsWhite line more white)) ∙ no_name in
    let one : count_by counts (line ∷ more) ≡ cond (counts line) 1 0 + count_by counts more = sum_by-cons (λ l. cond (counts l) 1 0) line more in
    let later = more_count_none more (All-tail BeginsWhite line more white) in
    one ∙ rw (first, later) refl

-- ---- fields

abbrev pub is_received_field : List ℕ → Field → Bool
is_received_field octets field = is_received (name_of octets field)

-- a field's name stands where it begins
name_here : (octets before after : List ℕ) (at : ℕ) (field : Field) (first : List ℕ) (more : List (List ℕ)) → octets ≡ before ++ (concat (first ∷ more) ++ after) → length before ≡ at
    → IsFieldAt at field first more → name_of octets field ≡ take field.name.len first
name_here octets before after at field first more split len is =
    let below : field.name.len < length first = name_below field.name.len first is.begins in
    let cut : octets ≡ before ++ (take field.name.len first ++ (drop field.name.len first ++ (concat more ++ after))) =
    split ∙ ap (λ text. before ++ text) (append_assoc first (concat more) after ∙ ap (λ text. text ++ (concat more ++ after)) (sym (take-append-drop field.name.len first))
    ∙ append_assoc (take field.name.len first) (drop field.name.len first) (concat more ++ after)) in
    slice_range-following octets before (take field.name.len first) (drop field.name.len first ++ (concat more ++ after)) field.name.at field.name.len cut (len ∙ sym is.name_at)
    (sym (length-take-le field.name.len first (omega arith)))

counts_are : (octets before after : List ℕ) (lines : List (List ℕ)) (start : ℕ) (fields : List Field) (end : ℕ) → octets ≡ before ++ (concat lines ++ after) → length before ≡ start
    → AreFields lines start fields end → count_by (is_received_field octets) fields ≡ count_by counts lines
counts_are octets before after lines start [] end is len done = rw done.0 refl
counts_are octets before after lines start (field ∷ fields) end is len done =
    let first = done.0 in
    let more = done.1 in
    let rest = done.2 in
    let all : concat lines ≡ concat (first ∷ more) ++ concat rest = ap concat done.3 ∙ concat-append (first ∷ more) rest in
    let split : octets ≡ before ++ (concat (first ∷ more) ++ (concat rest ++ after)) =
    is ∙ ap (λ text. before ++ text) (ap (λ text. text ++ after) all ∙ append_assoc (concat (first ∷ more)) (concat rest) after) in
    let raw_len = done.4.raw_len in
    let here : is_received_field octets field ≡ counts first =
    ap is_received (name_here octets before (concat rest ++ after) start field first more split len done.4 ∙ sym (name_is (take field.name.len first) first done.4.begins)) in
    let later : count_by (is_received_field octets) fields ≡ count_by counts rest =
    counts_are octets (before ++ concat (first ∷ more)) after rest (start + field.raw.len) fields end
    (split ∙ sym (append_assoc before (concat (first ∷ more)) (concat rest ++ after))) (omega (arith, length-append before (concat (first ∷ more)))) done.5 in
    let a : count_by (is_received_field octets) (field ∷ fields) ≡ cond (is_received_field octets field) 1 0 + count_by (is_received_field octets) fields =
    sum_by-cons (λ f. cond (is_received_field octets f) 1 0) field fields in
    let b = ap (λ (t : Bool). cond {A = ℕ} t 1 0) here in
    let c : count_by counts lines ≡ count_by counts ((first ∷ more) ++ rest) = ap (count_by counts) done.3 in
    let d : count_by counts ((first ∷ more) ++ rest) ≡ count_by counts (first ∷ more) + count_by counts rest = sum_by-append (λ l. cond (counts l) 1 0) (first ∷ more) rest in
    let e : count_by counts (first ∷ more) ≡ cond (counts first) 1 0 + count_by counts more = sum_by-cons (λ l. cond (counts l) 1 0) first more in
    let f = more_count_none more done.4.further in
    omega (arith, a, b, c, d, e, f, later)

-- the fields of the block
pub block_count : (octets : List ℕ) (fields : List Field) (end : ℕ) → HasBlock octets fields end → count_by (is_received_field octets) fields ≡ received_count octets
unfolding received_count
block_count octets fields end block =
    let split : octets ≡ concat block.header ++ concat block.rest = sym (concat_lines_of octets) ∙ ap concat block.lines ∙ concat-append block.header block.rest in
    let header : take_while goes_on (lines_of octets) ≡ block.header =
    ap (take_while goes_on) block.lines ∙ header_is block.header block.rest (block_lines block.header 0 end fields block.fields_are) block.ends in
    counts_are octets [] (concat block.rest) block.header 0 fields end split refl block.fields_are ∙ ap (count_by counts) (sym header)

-- a field's name stands in the octets
pub names_within : (octets : List ℕ) (fields : List Field) (end : ℕ) → HasBlock octets fields end → All (λ (field : Field). field.name.at + field.name.len ≤ length octets) fields
names_within octets fields end block =
    let whole = HasBlock-whole octets fields end block in
    let all = block_fields octets 0 fields end (omega arith) block in
    λ k d inside.
    let raw = whole.within k d inside in
    let fits = whole.fits in
    let at = (all k d inside).has_name.at in
    let len = (all k d inside).has_name.within in
    omega arith

-- ---- the whole message

pub some_root : (octets : List ℕ) (entities : List Entity) → HasTree octets entities → 0 < length entities
unfolding IsEntity
some_root octets entities tree = let size = ap length tree.root.0.entities_are in omega arith

-- the first entity has the message's own block
pub root_block : (octets : List ℕ) (entities : List Entity) (first : Entity) → HasTree octets entities → first ≡ slice_index_or entities 0 first
    → HasBlock octets first.block.fields first.block.end
unfolding IsEntity
root_block octets entities first tree is =
    let root = tree.root.0 in
    let same : root.entity ≡ first = sym (is ∙ ap (λ l. slice_index_or l 0 first) root.entities_are) in
    subst (λ (e : Entity). HasBlock octets e.block.fields e.block.end) same root.head.has_block
