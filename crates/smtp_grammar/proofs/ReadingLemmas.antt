-- What a reader of data keeps, piece by piece.
use Rattle.std.proofs.Common.{◌≡◌, ℕ, ◌+◌, ◌-◌, ◌<◌, ◌≤◌, ◌⊎◌, List, [], ◌∷◌, ◌++◌, length, take, drop, Bool, true, false, arith, refl, sym, ap, ◌∙◌, append_assoc, append-nil, length-append, length-drop, inl, inr, Some, None}
use Rattle.std.specs.Prelude.{◌↔◌, IsTrue}
use Rattle.std.specs.List.{All, concat, flat_map}
use Rattle.std.specs.Option.{option_map}
use Rattle.std.specs.Str.{bytes_eq}
use Rattle.std.proofs.lemmas.Bool.{cases_lt}
use Rattle.std.proofs.lemmas.Slice.Eq.{bytes_eq-Decides}
use Rattle.std.proofs.lemmas.List.{append_cancel_left, take-append-drop, take_all, drop-drop, drop_at}
use Rattle.std.proofs.lemmas.List.Elements.{All-nil, All-push, recursion_from_All}
use Rattle.std.proofs.lemmas.List.Concat.{flat_map-append}
use Rattle.std.proofs.lemmas.List.Folds.{concat-append}
use Rattle.std.proofs.Math.Seq.{take-add}
use Rattle.mail_wire.specs.Dots.{unstuffed, unstuffed_line}
use Rattle.mail_wire.specs.Lines.{Cut, begun_with, first_line, is_crlf}
use Rattle.mail_wire.proofs.FirstLineLemmas.{put, first_line-other, put_nothing, put_more}
use Rattle.smtp_grammar.specs.Data.{data_cut}
use Rattle.smtp_grammar.specs.Reading.{DataHaveEnded, HasRead, IsBounded, IsDataLine, KeepsAs, SayTooMuch, TakesOfPiece, last_four}
use Rattle.smtp_grammar.specs.private.LinesRead.{EndsLine, DataHaveRoom, TakesLine}
use Rattle.smtp_grammar.specs.declared.data.DataReader.{DataReader}
use Rattle.smtp_grammar.proofs.DataLemmas.{data_cut-stays}
use Rattle.smtp_grammar.proofs.DataLines.{AreDataLines, data_cut-last, data_cut-lines, data_cut-none, is_first, last_line, none_first, nothing_unstuffed, says_front, unput, unstuffed-concat, unstuffed-lines}

-- a test that failed
pub not_so : (P : Type 0) (b : Bool) → (IsTrue b ↔ P) → b ≡ false → P → ⊥
not_so P b observed is holds = let yes_it_is : IsTrue b = observed.1 holds in cc

-- ---- the last four octets

few_all : (octets : List ℕ) → length octets ≤ 4 → last_four octets ≡ octets
few_all octets few = let none : length octets - 4 ≡ 0 = omega arith in rw none refl

four_at_most : (octets : List ℕ) → length (last_four octets) ≤ 4
four_at_most octets = omega (arith, length-drop (length octets - 4) octets)

four_of_many : (octets : List ℕ) → 4 ≤ length octets → length (last_four octets) ≡ 4
four_of_many octets many = omega (arith, length-drop (length octets - 4) octets)

-- octets that were left out make no difference
four_after : (front octets : List ℕ) → 4 ≤ length octets → last_four (front ++ octets) ≡ last_four octets
four_after front octets many =
    let place : length (front ++ octets) - 4 ≡ length front + (length octets - 4) = omega (arith, length-append front octets) in
    rw place (sym (drop-drop (length octets - 4) (length front) (front ++ octets)) ∙ ap (drop (length octets - 4)) (drop_at front octets (length front) refl))

-- what stands before the last four
before_four : List ℕ → List ℕ
before_four octets = take (length octets - 4) octets

parted : (octets : List ℕ) → before_four octets ++ last_four octets ≡ octets
unfolding before_four
parted octets = take-append-drop (length octets - 4) octets

-- the last four of the front are enough
four_left : (front more : List ℕ) → last_four (last_four front ++ more) ≡ last_four (front ++ more)
four_left front more = elim (cases_lt (length front) 4) [
  | inl few ↦ ap (λ octets. last_four (octets ++ more)) (few_all front (omega arith))
  | inr many ↦
      let four = four_of_many front many in
      sym (four_after (before_four front) (last_four front ++ more) (omega (arith, four, length-append (last_four front) more)))
      ∙ ap last_four (sym (append_assoc (before_four front) (last_four front) more)) ∙ ap (λ octets. last_four (octets ++ more)) (parted front)
]

-- and those of what follows
four_right : (front more : List ℕ) → last_four (front ++ last_four more) ≡ last_four (front ++ more)
four_right front more = elim (cases_lt (length more) 4) [
  | inl few ↦ ap (λ octets. last_four (front ++ octets)) (few_all more (omega arith))
  | inr many ↦
      let four = four_of_many more many in
      four_after front (last_four more) (omega (arith, four)) ∙ sym (four_after (before_four more) (last_four more) (omega (arith, four))) ∙ ap last_four (parted more)
      ∙ sym (four_after front more many)
]

pub four_joined : (front more : List ℕ) → last_four (last_four front ++ last_four more) ≡ last_four (front ++ more)
four_joined front more = four_right (last_four front) more ∙ four_left front more

-- ---- a line of which the last octets are known

-- a line after octets that have none
line_after : (front tail more : List ℕ) → first_line (front ++ tail) ≡ None → 0 < length tail → first_line (front ++ (tail ++ more)) ≡ option_map (put front) (first_line (tail ++ more))
line_after [] tail more none some = put_nothing (first_line (tail ++ more))
line_after (x ∷ []) [] more none some = absurd (omega (arith, some))
line_after (x ∷ []) (y ∷ tail) more none some = first_line-other x y (tail ++ more) (none_first x y tail none (is_crlf x y) refl).0
line_after (x ∷ z ∷ front) tail more none some =
    let parts = none_first x z (front ++ tail) none (is_crlf x z) refl in
    first_line-other x z (front ++ (tail ++ more)) parts.0 ∙ ap (option_map (begun_with x)) (line_after (z ∷ front) tail more parts.1 some)
    ∙ put_more x (z ∷ front) (first_line (tail ++ more))

-- where octets have no line, the last ones of them have none
none_following : (front tail : List ℕ) → first_line (front ++ tail) ≡ None → first_line tail ≡ None
unfolding first_line
none_following [] tail none = none
none_following (x ∷ []) [] none = refl
none_following (x ∷ []) (y ∷ tail) none = (none_first x y tail none (is_crlf x y) refl).1
none_following (x ∷ z ∷ front) tail none = none_following (z ∷ front) tail (none_first x z (front ++ tail) none (is_crlf x z) refl).1

-- the octets are kept, or their last four
abbrev IsKeptAs : (line front : List ℕ) → Type 0
IsKeptAs line front = (line ≡ front) ⊎ (line ≡ last_four front)

kept_as : (reader : DataReader) (lines : List (List ℕ)) (front : List ℕ) (dropped : Bool) → KeepsAs dropped reader lines front → IsKeptAs reader.line front
kept_as reader lines front true keeps = inr keeps.line
kept_as reader lines front false keeps = inl keeps.line

-- the line with what follows, from the last octets
with_more : (front more : List ℕ) → first_line front ≡ None → first_line (front ++ more) ≡ option_map (put (before_four front)) (first_line (last_four front ++ more))
unfolding before_four
with_more [] more none = put_nothing (first_line more)
with_more (x ∷ rest) more none =
    let octets = x ∷ rest in
    let whole = parted octets in
    ap (λ (all : List ℕ). first_line (all ++ more)) (sym whole) ∙ ap first_line (append_assoc (before_four octets) (last_four octets) more)
    ∙ line_after (before_four octets) (last_four octets) more (ap first_line whole ∙ none) (omega (arith, length-drop (length octets - 4) octets))

pub none_kept : (line front : List ℕ) → first_line front ≡ None → IsKeptAs line front → first_line line ≡ None
none_kept line front none (inl is) = rw is none
none_kept line front none (inr is) = rw is (none_following (before_four front) (last_four front) (ap first_line (parted front) ∙ none))

none_with : (line front more : List ℕ) → first_line front ≡ None → IsKeptAs line front → first_line (line ++ more) ≡ None → first_line (front ++ more) ≡ None
none_with line front more none (inl is) found = rw is at found
none_with line front more none (inr is) found = with_more front more none ∙ ap (option_map (put (before_four front))) (rw is at found)

ends_with : (line front part : List ℕ) → first_line front ≡ None → IsKeptAs line front → first_line (line ++ part) ≡ Some (record { line = line ++ part; rest = [] })
    → first_line (front ++ part) ≡ Some (record { line = front ++ part; rest = [] })
ends_with line front part none (inl is) found = rw is at found
ends_with line front part none (inr is) found =
    let whole : before_four front ++ (last_four front ++ part) ≡ front ++ part = sym (append_assoc (before_four front) (last_four front) part) ∙ ap (λ all. all ++ part) (parted front) in
    with_more front part none ∙ ap (option_map (put (before_four front))) (rw is at found) ∙ ap (λ line. Some (record { line = line; rest = [] })) whole

-- a line of three octets was kept whole
short_kept : (line front part : List ℕ) → IsKeptAs line front → length (line ++ part) ≤ 3 → line ≡ front
short_kept line front part (inl is) short = is
short_kept line front part (inr is) short = elim (cases_lt (length front) 4) [
  | inl few ↦ is ∙ few_all front (omega arith)
  | inr many ↦
      let long = four_of_many front many in
      let same = ap length is in
      absurd (omega (arith, long, same, short, length-append line part))
]

last_kept : (line front part : List ℕ) → IsKeptAs line front → line ++ part ≡ last_line → front ++ part ≡ last_line
last_kept line front part is last =
    let count = ap length last in
    ap (λ octets. octets ++ part) (sym (short_kept line front part is (omega (arith, count)))) ∙ last

not_last_kept : (line front part : List ℕ) → IsKeptAs line front → (line ++ part ≡ last_line → ⊥) → front ++ part ≡ last_line → ⊥
not_last_kept line front part (inl is) differs last = differs (ap (λ octets. octets ++ part) is ∙ last)
not_last_kept line front part (inr is) differs last =
    let count = ap length last in
    differs (ap (λ octets. octets ++ part) (is ∙ few_all front (omega (arith, count, length-append front part))) ∙ last)

-- ---- data that say too much

-- what is said of octets is said with more after them
too_much_on : (limit : ℕ) (octets more : List ℕ) → SayTooMuch limit octets → SayTooMuch limit (octets ++ more)
too_much_on limit octets more long following cut is = long (more ++ following) cut (ap data_cut (sym (append_assoc octets more following)) ∙ is)

-- the cut of data after lines
record IsAfter (lines : List (List ℕ)) (more : List ℕ) (cut : Cut) : Type 0 where
  next : Cut
  found : data_cut more ≡ Some next
  says : length (unstuffed cut.line) ≡ length (unstuffed (concat lines)) + length (unstuffed next.line)

after_lines : (lines : List (List ℕ)) (more : List ℕ) (cut : Cut) → AreDataLines lines → data_cut (concat lines ++ more) ≡ Some cut → IsAfter lines more cut
after_lines lines more cut are is =
    let following = unput (concat lines) cut (data_cut more) (sym (data_cut-lines lines more are) ∙ is) in
    let said = ap length (ap (λ (c : Cut). unstuffed c.line) following.2 ∙ unstuffed-lines lines following.0.line are) in
    let whole = ap length (unstuffed-concat lines are) in
    record {
      next = following.0;
      found = following.1;
      says = omega (arith, said, whole, length-append (flat_map unstuffed_line lines) (unstuffed following.0.line));
    }

-- the whole lines say too much
long_lines : (limit : ℕ) (lines : List (List ℕ)) (front : List ℕ) → AreDataLines lines → limit < length (unstuffed (concat lines)) → SayTooMuch limit (concat lines ++ front)
long_lines limit lines front are long more cut is =
    let following = after_lines lines (front ++ more) cut are (ap data_cut (sym (append_assoc (concat lines) front more)) ∙ is) in
    omega (arith, long, following.says)

-- the front of the next line says too much
long_front : (limit : ℕ) (lines : List (List ℕ)) (front : List ℕ) → AreDataLines lines → first_line front ≡ None → length (unstuffed (concat lines)) ≤ limit
    → limit + 2 < length (unstuffed (concat lines)) + length front → SayTooMuch limit (concat lines ++ front)
long_front limit lines front are none short long more cut is =
    let following = after_lines lines (front ++ more) cut are (ap data_cut (sym (append_assoc (concat lines) front more)) ∙ is) in
    let says = says_front front more following.next none (omega (arith, short, long)) following.found in
    omega (arith, long, says, following.says)

-- ---- what a reader has read

abbrev lines_are : (reader : DataReader) (octets : List ℕ) (read : HasRead reader octets) → AreDataLines read.lines
lines_are reader octets read = recursion_from_All IsDataLine read.lines read.are_lines

-- what is kept, where it is known whether data were dropped
keeps_as : (reader : DataReader) (lines : List (List ℕ)) (front : List ℕ) (here there : Bool) → here ≡ there → KeepsAs there reader lines front → KeepsAs here reader lines front
keeps_as reader lines front here there is keeps = rw is keeps

abbrev kept : (reader : DataReader) (octets : List ℕ) (read : HasRead reader octets) → IsKeptAs reader.line read.front
kept reader octets read = kept_as reader read.lines read.front reader.dropped read.keeps

-- what was read has no end
pub read_unended : (reader : DataReader) (octets : List ℕ) → HasRead reader octets → data_cut octets ≡ None
read_unended reader octets read =
    ap data_cut read.octets_are ∙ data_cut-lines read.lines read.front (lines_are reader octets read) ∙ ap (option_map (put (concat read.lines))) (data_cut-none read.front read.unended)

-- nothing was read
pub read_nothing : (reader : DataReader) → reader.content ≡ [] → reader.line ≡ [] → reader.dropped ≡ false → HasRead reader []
unfolding first_line
read_nothing reader content line dropped =
    let none = ap length content in
    let no_line = ap length line in
    record {
      lines = [];
      are_lines = All-nil IsDataLine;
      front = [];
      unended = refl;
      octets_are = refl;
      keeps = keeps_as reader [] [] reader.dropped false dropped (record { content = content ∙ sym nothing_unstuffed; line = line; short = omega (arith, none) });
      bounded = omega (arith, none, no_line);
    }

-- the kept octets have no line
pub line_unended : (reader : DataReader) (octets : List ℕ) → HasRead reader octets → first_line reader.line ≡ None
line_unended reader octets read = none_kept reader.line read.front read.unended (kept reader octets read)

-- ---- a line more

-- a line more, after those that were read
record HasLine (lines : List (List ℕ)) (line octets : List ℕ) : Type 0 where
  are : All IsDataLine (lines ++ line ∷ [])
  octets_are : octets ≡ concat (lines ++ line ∷ []) ++ []
  said : unstuffed (concat (lines ++ line ∷ [])) ≡ unstuffed (concat lines) ++ unstuffed_line line

has_line : (lines : List (List ℕ)) (line : List ℕ) → All IsDataLine lines → IsDataLine line → HasLine lines line (concat lines ++ line)
has_line lines line are is =
    let more = All-push IsDataLine lines line are is in
    let joined : concat (lines ++ line ∷ []) ≡ concat lines ++ line = concat-append lines (line ∷ []) ∙ ap (λ back. concat lines ++ back) (append-nil line) in
    record {
      are = more;
      octets_are = sym joined ∙ sym (append-nil (concat (lines ++ line ∷ [])));
      said = unstuffed-concat (lines ++ line ∷ []) (recursion_from_All IsDataLine (lines ++ line ∷ []) more) ∙ flat_map-append unstuffed_line lines (line ∷ [])
          ∙ ap (λ back. flat_map unstuffed_line lines ++ back) (append-nil (unstuffed_line line))
          ∙ ap (λ front. front ++ unstuffed_line line) (sym (unstuffed-concat lines (recursion_from_All IsDataLine lines are)));
    }

-- the line that a part ends
ended_line : (reader : DataReader) (octets part : List ℕ) (read : HasRead reader octets) → EndsLine reader part → (reader.line ++ part ≡ last_line → ⊥) → IsDataLine (read.front ++ part)
ended_line reader octets part read ends differs = record {
  whole = ends_with reader.line read.front part read.unended (kept reader octets read) ends;
  not_last = not_last_kept reader.line read.front part (kept reader octets read) differs;
}

part_after : (reader : DataReader) (octets part : List ℕ) (read : HasRead reader octets) → octets ++ part ≡ concat read.lines ++ (read.front ++ part)
part_after reader octets part read = ap (λ all. all ++ part) read.octets_are ∙ append_assoc (concat read.lines) read.front part

-- the lines that were read, and the one that a part ends
more_lines : (reader : DataReader) (octets part : List ℕ) (read : HasRead reader octets) → EndsLine reader part → (reader.line ++ part ≡ last_line → ⊥)
    → HasLine read.lines (read.front ++ part) (octets ++ part)
more_lines reader octets part read ends differs =
    rw (part_after reader octets part read) (has_line read.lines (read.front ++ part) read.are_lines (ended_line reader octets part read ends differs))

-- a reader that has read whole lines alone
read_lines : (reader : DataReader) (lines : List (List ℕ)) (line octets : List ℕ) → HasLine lines line octets → KeepsAs reader.dropped reader (lines ++ line ∷ []) [] → IsBounded reader
    → HasRead reader octets
unfolding first_line
read_lines reader lines line octets has keeps bounded = record {
  lines = lines ++ line ∷ [];
  are_lines = has.are;
  front = [];
  unended = refl;
  octets_are = has.octets_are;
  keeps = keeps;
  bounded = bounded;
}

-- what stays the same, and that no line is kept
pub record HasNoLine (old new : DataReader) : Type 0 where
  pub limit : new.limit ≡ old.limit
  pub line : new.line ≡ []

-- data that were dropped before go on
pub part_dropped : (old new : DataReader) (octets part : List ℕ) → HasNoLine old new → old.dropped ≡ true → new.dropped ≡ true → new.content ≡ old.content
    → HasRead old octets → EndsLine old part → (old.line ++ part ≡ last_line → ⊥) → HasRead new (octets ++ part)
part_dropped old new octets part same dropped still content read ends differs =
    let has = more_lines old octets part read ends differs in
    let keeps = keeps_as old read.lines read.front true old.dropped (sym dropped) read.keeps in
    let lines = read.lines ++ (read.front ++ part) ∷ [] in
    let long : SayTooMuch old.limit (concat lines ++ []) = rw has.octets_are at (too_much_on old.limit octets part (rw read.octets_are keeps.long)) in
    let bounded = read.bounded in
    let limit = same.limit in
    let none = ap length same.line in
    let kept_len = ap length content in
    read_lines new read.lines (read.front ++ part) (octets ++ part) has
    (keeps_as new lines [] new.dropped true still (record { content = content ∙ keeps.content; line = same.line; long = rw limit long }))
    (omega (arith, bounded, limit, none, kept_len))

-- what the lines say after a part, where none of the data were dropped
said_after : (old : DataReader) (octets part : List ℕ) (read : HasRead old octets) → EndsLine old part → (old.line ++ part ≡ last_line → ⊥) → old.dropped ≡ false
    → unstuffed (concat (read.lines ++ (read.front ++ part) ∷ [])) ≡ old.content ++ unstuffed_line (old.line ++ part)
said_after old octets part read ends differs dropped =
    let has = more_lines old octets part read ends differs in
    let keeps = keeps_as old read.lines read.front false old.dropped (sym dropped) read.keeps in
    has.said ∙ ap (λ front. front ++ unstuffed_line (read.front ++ part)) (sym keeps.content) ∙ ap (λ line. old.content ++ unstuffed_line (line ++ part)) (sym keeps.line)

-- data that say too much with the line are dropped
pub part_too_long : (old new : DataReader) (octets part : List ℕ) → HasNoLine old new → old.dropped ≡ false → new.dropped ≡ true → new.content ≡ []
    → old.limit < length (old.content ++ unstuffed_line (old.line ++ part)) → HasRead old octets → EndsLine old part → (old.line ++ part ≡ last_line → ⊥) → HasRead new (octets ++ part)
part_too_long old new octets part same dropped now content long read ends differs =
    let has = more_lines old octets part read ends differs in
    let lines = read.lines ++ (read.front ++ part) ∷ [] in
    let said = ap length (said_after old octets part read ends differs dropped) in
    let limit = same.limit in
    let none = ap length same.line in
    let kept_len = ap length content in
    read_lines new read.lines (read.front ++ part) (octets ++ part) has
    (keeps_as new lines [] new.dropped true now
    (record { content = content; line = same.line; long = long_lines new.limit lines [] (recursion_from_All IsDataLine lines has.are) (omega (arith, limit, said, long)) }))
    (omega (arith, none, kept_len))

-- what the line says is kept
pub part_kept : (old new : DataReader) (octets part : List ℕ) → HasNoLine old new → old.dropped ≡ false → new.dropped ≡ false → new.content ≡ old.content ++ unstuffed_line (old.line ++ part)
    → length new.content ≤ old.limit → HasRead old octets → EndsLine old part → (old.line ++ part ≡ last_line → ⊥) → HasRead new (octets ++ part)
part_kept old new octets part same dropped still content short read ends differs =
    let has = more_lines old octets part read ends differs in
    let lines = read.lines ++ (read.front ++ part) ∷ [] in
    let said = said_after old octets part read ends differs dropped in
    let limit = same.limit in
    let none = ap length same.line in
    read_lines new read.lines (read.front ++ part) (octets ++ part) has
    (keeps_as new lines [] new.dropped false still (record { content = content ∙ sym said; line = same.line; short = omega (arith, limit, short) }))
    (omega (arith, limit, none, short))

-- ---- more of a line's front

-- a front of a line with more
read_front : (old new : DataReader) (octets more : List ℕ) (read : HasRead old octets) → first_line (old.line ++ more) ≡ None → KeepsAs new.dropped new read.lines (read.front ++ more) → IsBounded new
    → HasRead new (octets ++ more)
read_front old new octets more read none keeps bounded = record {
  lines = read.lines;
  are_lines = read.are_lines;
  front = read.front ++ more;
  unended = none_with old.line read.front more read.unended (kept old octets read) none;
  octets_are = part_after old octets more read;
  keeps = keeps;
  bounded = bounded;
}

-- the last octets of the kept ones are the last of the front
tail_kept : (line front more : List ℕ) → IsKeptAs line front → last_four (line ++ more) ≡ last_four (front ++ more)
tail_kept line front more (inl is) = ap (λ octets. last_four (octets ++ more)) is
tail_kept line front more (inr is) = ap (λ octets. last_four (octets ++ more)) is ∙ four_left front more

-- without room the data say too much
no_room : (reader : DataReader) (octets more : List ℕ) (read : HasRead reader octets) → first_line (read.front ++ more) ≡ None → (DataHaveRoom reader more → ⊥) → (b : Bool) → reader.dropped ≡ b
    → SayTooMuch reader.limit (concat read.lines ++ (read.front ++ more))
no_room reader octets more read none lacks true dropped =
    let keeps = keeps_as reader read.lines read.front true reader.dropped (sym dropped) read.keeps in
    rw (← append_assoc (concat read.lines) read.front more) (too_much_on reader.limit (concat read.lines ++ read.front) more keeps.long)
no_room reader octets more read none lacks false dropped =
    let keeps = keeps_as reader read.lines read.front false reader.dropped (sym dropped) read.keeps in
    let said = ap length keeps.content in
    let front = ap length keeps.line in
    let short = keeps.short in
    long_front reader.limit read.lines (read.front ++ more) (lines_are reader octets read) none (omega (arith, said, short)) (over said front)
  where
    over : length reader.content ≡ length (unstuffed (concat read.lines)) → length reader.line ≡ length read.front
        → reader.limit + 2 < length (unstuffed (concat read.lines)) + length (read.front ++ more)
    over said front = elim (cases_lt (reader.limit + 2) (length (unstuffed (concat read.lines)) + length (read.front ++ more))) [
      | inl long ↦ long
      | inr short ↦ absurd (lacks (dropped, omega (arith, said, front, short, length-append read.front more)))
    ]

-- the data are dropped
pub front_dropped : (old new : DataReader) (octets more : List ℕ) → (DataHaveRoom old more → ⊥) → new.dropped ≡ true → new.content ≡ [] → new.limit ≡ old.limit → new.line ≡ last_four (old.line ++ more)
    → HasRead old octets → first_line (old.line ++ more) ≡ None → HasRead new (octets ++ more)
front_dropped old new octets more lacks dropped content limit line read none =
    let still = none_with old.line read.front more read.unended (kept old octets read) none in
    let few = four_at_most (old.line ++ more) in
    let len = ap length line in
    let nothing = ap length content in
    read_front old new octets more read none
    (keeps_as new read.lines (read.front ++ more) new.dropped true dropped
    (record { content = content; line = line ∙ tail_kept old.line read.front more (kept old octets read); long = rw limit (no_room old octets more read still lacks old.dropped refl) }))
    (omega (arith, few, len, nothing))

-- ---- the end

-- what was said of data that were dropped, or kept
ended_by : (reader : DataReader) (octets part : List ℕ) (read : HasRead reader octets) → data_cut (octets ++ part) ≡ Some (record { line = concat read.lines; rest = [] })
    → (b : Bool) → reader.dropped ≡ b → DataHaveEnded reader (concat read.lines)
ended_by reader octets part read is true dropped =
    let keeps = keeps_as reader read.lines read.front true reader.dropped (sym dropped) read.keeps in
    let long = keeps.long part _ (ap (λ all. data_cut (all ++ part)) (sym read.octets_are) ∙ is) in
    rw dropped long
ended_by reader octets part read is false dropped =
    let keeps = keeps_as reader read.lines read.front false reader.dropped (sym dropped) read.keeps in
    rw dropped (keeps.content, keeps.short)

-- the last line ends the data
pub part_last : (reader : DataReader) (octets part : List ℕ) → reader.line ++ part ≡ last_line → HasRead reader octets → EndsLine reader part
    → (line : List ℕ) × (data_cut (octets ++ part) ≡ Some (record { line = line; rest = [] })) × DataHaveEnded reader line
part_last reader octets part last read ends =
    let whole = ends_with reader.line read.front part read.unended (kept reader octets read) ends in
    let is_last = last_kept reader.line read.front part (kept reader octets read) last in
    let found : first_line (read.front ++ part) ≡ Some (record { line = last_line; rest = [] }) = whole ∙ ap (λ line. Some (record { line = line; rest = [] })) is_last in
    let cut : data_cut (octets ++ part) ≡ Some (record { line = concat read.lines; rest = [] }) =
    ap data_cut (part_after reader octets part read) ∙ data_cut-lines read.lines (read.front ++ part) (lines_are reader octets read)
    ∙ ap (option_map (put (concat read.lines))) (data_cut-last (read.front ++ part) [] found)
    ∙ ap (λ line. Some (record { line = line; rest = [] })) (append-nil (concat read.lines)) in
    (concat read.lines, cut, ended_by reader octets part read cut reader.dropped refl)

-- ---- a piece

-- So many octets of a piece were taken, and the data go on.
pub record HasTaken (old new : DataReader) (piece : List ℕ) (used : ℕ) : Type 0 where
  pub fits : used ≤ length piece
  pub limit : new.limit ≡ old.limit
  pub read : (octets : List ℕ) → HasRead old octets → HasRead new (octets ++ take used piece)
  pub bounded : IsBounded old → IsBounded new

-- what is found to end a line after the kept octets
abbrev FindsEnd : (reader : DataReader) (rest : List ℕ) (end : ℕ) → Type 0
FindsEnd reader rest end = first_line reader.line ≡ None → first_line (reader.line ++ rest) ≡ Some (record { line = reader.line ++ take end rest; rest = drop end rest })

ends_line : (reader : DataReader) (octets rest : List ℕ) (end : ℕ) → HasRead reader octets → FindsEnd reader rest end → EndsLine reader (take end rest)
ends_line reader octets rest end read finds = (is_first (reader.line ++ rest) _ (finds (line_unended reader octets read))).alone

-- the octets up to the end of a line
taken_more : (octets piece : List ℕ) (used end : ℕ) → octets ++ take (used + end) piece ≡ octets ++ take used piece ++ take end (drop used piece)
taken_more octets piece used end = ap (λ front. octets ++ front) (take-add used end piece) ∙ sym (append_assoc octets (take used piece) (take end (drop used piece)))

-- a line more was taken
pub taken_line : (old reader new : DataReader) (piece rest : List ℕ) (used end : ℕ) → rest ≡ drop used piece → HasTaken old reader piece used → FindsEnd reader rest end → end ≤ length rest
    → ((octets : List ℕ) → HasRead reader octets → EndsLine reader (take end rest) → HasRead new (octets ++ take end rest)) → new.limit ≡ reader.limit → (IsBounded reader → IsBounded new)
    → HasTaken old new piece (used + end)
taken_line old reader new piece rest used end is taken finds fits takes limit bounded =
    let before = taken.fits in
    let count = ap length is in
    record {
      fits = omega (arith, before, fits, count, length-drop used piece);
      limit = limit ∙ taken.limit;
      read = λ octets read.
          let here = taken.read octets read in
          rw (taken_more octets piece used end, ← is) (takes (octets ++ take used piece) here (ends_line reader (octets ++ take used piece) rest end here finds));
      bounded = λ bound. bounded (taken.bounded bound);
    }

-- all was taken
pub taken_all : (old new : DataReader) (piece : List ℕ) (used : ℕ) → length piece ≤ used → HasTaken old new piece used → (octets : List ℕ) → HasRead old octets → TakesOfPiece new octets piece None
taken_all old new piece used all taken octets read =
    let here : HasRead new (octets ++ piece) = rw (take_all used piece all) at (taken.read octets read) in
    (read_unended new (octets ++ piece) here, here)

-- the front of a line was taken
pub taken_front : (old reader new : DataReader) (piece rest : List ℕ) (used : ℕ) → rest ≡ drop used piece → HasTaken old reader piece used
    → (first_line reader.line ≡ None → first_line (reader.line ++ rest) ≡ None)
    → ((octets : List ℕ) → HasRead reader octets → first_line (reader.line ++ rest) ≡ None → HasRead new (octets ++ rest)) → (octets : List ℕ) → HasRead old octets → TakesOfPiece new octets piece None
taken_front old reader new piece rest used is taken finds takes octets read =
    let before = taken.read octets read in
    let following = takes (octets ++ take used piece) before (finds (line_unended reader (octets ++ take used piece) before)) in
    let whole : octets ++ take used piece ++ rest ≡ octets ++ piece =
    append_assoc octets (take used piece) rest ∙ ap (λ back. octets ++ (take used piece ++ back)) is ∙ ap (λ all. octets ++ all) (take-append-drop used piece) in
    let here : HasRead new (octets ++ piece) = rw whole at following in
    (read_unended new (octets ++ piece) here, here)

-- the last line was taken
pub taken_end : (old reader new : DataReader) (piece rest : List ℕ) (used end : ℕ) → rest ≡ drop used piece → HasTaken old reader piece used → FindsEnd reader rest end → 0 < end → end ≤ length rest
    → ((octets : List ℕ) → HasRead reader octets → EndsLine reader (take end rest) → TakesLine new (octets ++ take end rest) true) → (octets : List ℕ) → HasRead old octets
    → TakesOfPiece new octets piece (Some (used + end))
taken_end old reader new piece rest used end is taken finds some fits takes octets read =
    let here = taken.read octets read in
    let ended = takes (octets ++ take used piece) here (ends_line reader (octets ++ take used piece) rest end here finds) in
    let front : data_cut (octets ++ take (used + end) piece) ≡ Some (record { line = ended.0; rest = [] }) = rw (taken_more octets piece used end, ← is) ended.1 in
    let whole : octets ++ take (used + end) piece ++ drop (used + end) piece ≡ octets ++ piece =
    append_assoc octets (take (used + end) piece) (drop (used + end) piece) ∙ ap (λ all. octets ++ all) (take-append-drop (used + end) piece) in
    let before = taken.fits in
    let count = ap length is in
    record {
      some = omega (arith, some);
      fits = omega (arith, before, fits, count, length-drop used piece);
      line = ended.0;
      cut = rw whole at (data_cut-stays (octets ++ take (used + end) piece) (drop (used + end) piece) _ front);
      ended = ended.2;
    }

-- ---- the line that ends the data

-- a line in two parts is the last one, where it begins as that does and goes on so
pub is_last_by : (line part rest : List ℕ) (b : Bool) → bytes_eq (take (length line) last_line) line ≡ true → rest ≡ drop (length line) last_line → b ≡ bytes_eq rest part
    → (IsTrue b → line ++ part ≡ last_line) × (line ++ part ≡ last_line → IsTrue b)
is_last_by line part rest b begins is observed =
    let front : take (length line) last_line ≡ line = (bytes_eq-Decides (take (length line) last_line) line).0 begins in
    let whole : line ++ rest ≡ last_line = ap (λ back. line ++ back) is ∙ ap (λ first. first ++ drop (length line) last_line) (sym front) ∙ take-append-drop (length line) last_line in
    let same = bytes_eq-Decides rest part in (
      λ yes_it_is. ap (λ back. line ++ back) (sym (same.0 (sym observed ∙ yes_it_is))) ∙ whole,
      λ last. observed ∙ same.1 (append_cancel_left line rest part (whole ∙ sym last)),
    )

-- a part of more octets is not of the line that ends the data
pub not_last_by : (line part : List ℕ) → 3 < length part → (IsTrue false → line ++ part ≡ last_line) × (line ++ part ≡ last_line → IsTrue false)
not_last_by line part long = (
  λ bad. absurd (cc bad),
  λ last. absurd (omega (arith, length-append line part, ap length last)),
)
