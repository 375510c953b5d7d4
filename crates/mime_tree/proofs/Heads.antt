-- The head of an entity, as the reader finds it.
use Rattle.std.proofs.Common.{◌≡◌, ◌≢◌, ℕ, ◌+◌, ◌-◌, ◌<◌, ◌≤◌, List, [], ◌∷◌, ◌++◌, length, take, drop, Bool, true, false, ◌||◌, arith, refl, sym, ap, ◌∙◌, ◌⊎◌, inl, inr, length-append, append-nil, append_assoc}
use Rattle.std.specs.Prelude.{◌==◌, IsTrue}
use Rattle.std.specs.List.{All, concat}
use Rattle.std.proofs.lemmas.Bool.{or_parts}
use Rattle.std.proofs.lemmas.Bool.Decides.{nat_tests}
use Rattle.std.proofs.lemmas.Slice.Eq.{bytes_eq-Decides}
use Rattle.std.proofs.lemmas.List.{take_at, drop-take, length-take-le, length-drop}
use Rattle.mail_wire.specs.Lines.{lines_of, crlf}
use Rattle.mail_wire.proofs.LineLemmas.{concat_lines_of}
use Rattle.utf8_fields.specs.declared.block.Block.{Block}
use Rattle.utf8_fields.specs.declared.block.Field.{Field}
use Rattle.utf8_fields.specs.declared.block.FieldFault.{FieldFault}
use Rattle.utf8_fields.specs.declared.block.FieldFault.TheVariants.{NotField, NotUtf8, Memory}
use Rattle.utf8_fields.specs.Block.{AreFields, EndsBlock, HasBlockIn, raw_of}
use Rattle.utf8_fields.specs.Parts.{IsField}
use Rattle.utf8_fields.proofs.Raws.{slice_range-following}
use Rattle.std.proofs.lemmas.List.{take-append-drop}
use Rattle.std.proofs.Common.{get_or, subst}
use Rattle.std.specs.Prelude.{slice_range}
use Rattle.utf8_fields.specs.Faults.{IsFaultIn, ComesAfter}
use Rattle.mime_tree.specs.declared.reading.Stop.{Stop}
use Rattle.mime_tree.specs.declared.reading.Start.{Start}
use Rattle.mime_tree.specs.Marks.{text_of}
use Rattle.mime_tree.specs.Parts.{shortened, size}
use Rattle.mime_tree.specs.private.Open.{is_marked, begins_marked, region, after, header, after_header, is_empty_line, kept, lines_at, IsHeaderStop, IsStart, IsAfterLine, IsContentStart, end_place}
use Rattle.mime_tree.specs.Openings.{AreFieldsWithin}
use Rattle.mime_tree.specs.private.Reading.{IsHeadRead, region_at}
use Rattle.mime_tree.proofs.Texts.{text_of-text, lines_of-are}
use Rattle.mime_tree.proofs.Regions.{region-begins, region-cut, region-on, after-on, size-append}
use Rattle.mime_tree.proofs.Headers.{header-stop, header-cut, header-on, header-begins, after_header-begins, after_header-stop, after_header-on, region-header, lines_of-header, header-first, header-end, header-open}
use Rattle.mime_tree.proofs.LinesAt.{size_at, nothing_at, nothing_begins}

-- where the header ends
pub record HasExtent (s : List (List ℕ)) (octets : List ℕ) (start : Start) (stop : Stop) : Type 0 where
  pub end_is : end_place start.from start.at stop ≡ start.at + size (header s (lines_at octets start.from))
  pub order : end_place start.from start.at stop ≤ stop.at
  pub apart : IsTrue stop.marked → stop.at ≢ start.from → 2 ≤ stop.at

-- by whether an outer mark comes at once
begins_by : (s : List (List ℕ)) (octets : List ℕ) (start : Start) (stop : Stop) → IsStart s octets start → IsHeaderStop s octets start.from stop → begins_marked s (lines_at octets start.from) ≡ true
    → (stop.at ≡ start.from) × (stop.marked ≡ true)
begins_by s octets start stop is stops begins =
    let same : lines_at octets stop.at ≡ lines_at octets start.from = stops.lines ∙ after_header-begins s (lines_at octets start.from) begins in
    let sizes = ap size same in
    let here = size_at octets start.from is.fits in
    let there = size_at octets stop.at stops.fits in
    (omega arith, stops.marked ∙ ap (begins_marked s) same ∙ begins)

extent_begins : (s : List (List ℕ)) (octets : List ℕ) (start : Start) (stop : Stop) → IsStart s octets start → IsHeaderStop s octets start.from stop → begins_marked s (lines_at octets start.from) ≡ true
    → HasExtent s octets start stop
extent_begins s octets start stop is stops begins =
    let found = begins_by s octets start stop is stops begins in
    let order = is.order in
    let eq : (stop.at == start.from) ≡ true = rw found.0 (nat_refl start.from) in
    let end : end_place start.from start.at stop ≡ start.at = rw (found.1, eq) refl in
    record {
      end_is = end ∙ rw (header-begins s (lines_at octets start.from) begins) (omega arith);
      order = rw end (let place = found.0 in omega arith);
      apart = λ marked other. absurd (other found.0);
    }
  where
    nat_refl : (n : ℕ) → (n == n) ≡ true
    nat_refl n = grind (arith, nat_tests)

extent_other : (s : List (List ℕ)) (octets : List ℕ) (start : Start) (stop : Stop) (m : Bool) → stop.marked ≡ m → IsStart s octets start → IsHeaderStop s octets start.from stop
    → begins_marked s (lines_at octets start.from) ≡ false → start.at ≡ start.from → HasExtent s octets start stop
extent_other s octets start stop true m_is is stops other place =
    let marked : begins_marked s (after_header s (lines_at octets start.from)) ≡ true = rw (← stops.lines) (sym stops.marked ∙ m_is) in
    let sizes = header-end s (lines_at octets start.from) (lines_of-are (drop start.from octets)) other marked in
    let left = ap size stops.lines in
    let here = size_at octets start.from is.fits in
    let there = size_at octets stop.at stops.fits in
    let far : stop.at ≡ start.from + size (header s (lines_at octets start.from)) + 2 = omega arith in
    let eq : (stop.at == start.from) ≡ false = apart_test stop.at start.from (omega arith) in
    let end : end_place start.from start.at stop ≡ stop.at - 2 = rw (m_is, eq) refl in
    record {
      end_is = end ∙ omega arith;
      order = rw end (omega arith);
      apart = λ marked other. omega arith;
    }
  where
    apart_test : (a b : ℕ) → b < a → (a == b) ≡ false
    apart_test a b lt = grind (arith, nat_tests)
extent_other s octets start stop false m_is is stops other place =
    let none : begins_marked s (after_header s (lines_at octets start.from)) ≡ false = rw (← stops.lines) (sym stops.marked ∙ m_is) in
    let sizes = header-open s (lines_at octets start.from) none in
    let left = ap size stops.lines in
    let here = size_at octets start.from is.fits in
    let there = size_at octets stop.at stops.fits in
    let end : end_place start.from start.at stop ≡ stop.at = rw m_is refl in
    record {
      end_is = end ∙ omega arith;
      order = rw end (omega arith);
      apart = λ marked other. absurd (let yes1 : stop.marked ≡ true = marked in let clash : true ≡ false = sym yes1 ∙ m_is in cc);
    }

pub extent : (s : List (List ℕ)) (octets : List ℕ) (start : Start) (stop : Stop) → IsStart s octets start → IsHeaderStop s octets start.from stop → HasExtent s octets start stop
extent s octets start stop is stops = go (begins_marked s (lines_at octets start.from)) refl is.place
  where
    go : (b : Bool) → begins_marked s (lines_at octets start.from) ≡ b → (start.at ≡ start.from) ⊎ (begins_marked s (lines_at octets start.from) ≡ true) → HasExtent s octets start stop
    go true h place = extent_begins s octets start stop is stops h
    go false h (inl place) = extent_other s octets start stop stop.marked refl is stops h place
    go false h (inr begins) = extent_begins s octets start stop is stops begins

nothing_taken : (octets : List ℕ) (lines : List (List ℕ)) → lines ≡ [] → lines_of (take (size lines) octets) ≡ lines
unfolding lines_of
nothing_taken octets lines none = rw none (ap lines_of (take_zero octets))
  where
    take_zero : (octets : List ℕ) → take 0 octets ≡ []
    take_zero [] = refl
    take_zero (x ∷ octets) = refl

-- the lines of the slice are those of the header
pub header_slice : (s : List (List ℕ)) (octets : List ℕ) (start : Start) (end : ℕ) → IsStart s octets start → end ≡ start.at + size (header s (lines_at octets start.from))
    → lines_of (drop start.at (take end octets)) ≡ header s (lines_at octets start.from)
header_slice s octets start end is end_is =
    let all : List (List ℕ) = header s (lines_at octets start.from) in
    rw (end_is, drop-take start.at (size all) octets) (go is.place)
  where
    go : (start.at ≡ start.from) ⊎ (begins_marked s (lines_at octets start.from) ≡ true)
        → lines_of (take (size (header s (lines_at octets start.from))) (drop start.at octets)) ≡ header s (lines_at octets start.from)
    go (inl place) =
        let first = header-first s (lines_at octets start.from) (lines_of-are (drop start.from octets)) in
        let joined : drop start.from octets ≡ concat (header s (lines_at octets start.from)) ++ first.tail = sym (concat_lines_of (drop start.from octets)) ∙ first.joined in
        let taken : take (size (header s (lines_at octets start.from))) (drop start.from octets) ≡ concat (header s (lines_at octets start.from)) =
        ap (take (size (header s (lines_at octets start.from)))) joined ∙ take_at (concat (header s (lines_at octets start.from))) first.tail (size (header s (lines_at octets start.from))) refl in
        rw place (ap lines_of taken ∙ lines_of-header s (lines_at octets start.from) (lines_of-are (drop start.from octets)))
    go (inr begins) = nothing_taken (drop start.at octets) (header s (lines_at octets start.from)) (header-begins s (lines_at octets start.from) begins)

-- no line of a header is empty
abbrev pub AreSome : List (List ℕ) → Type 0
AreSome [] = Unit {0}
AreSome (line ∷ lines) = (line ≢ crlf) × AreSome lines

text_not_crlf : (line : List ℕ) → text_of line ≢ crlf
unfolding text_of
text_not_crlf line is = let again : text_of crlf ≡ crlf = rw is at (text_of-text line) in let clash : [] ≡ crlf = again in cc

shortened-some : (line t : List ℕ) → t ≡ text_of line → AreSome (shortened t)
shortened-some line [] is = tt
shortened-some line (x ∷ t) is = (λ empty. text_not_crlf line (sym is ∙ empty), tt)

or_right : (a b : Bool) → (a || b) ≡ false → b ≡ false
or_right true b h = let clash : true ≡ false = h in cc
or_right false b h = h

not_empty_line : (line : List ℕ) → is_empty_line line ≡ false → line ≢ crlf
not_empty_line line some is = let clash : is_empty_line crlf ≡ false = rw is at some in let no1 : true ≡ false = clash in cc

some_by : (s : List (List ℕ)) (line : List ℕ) (rest : List (List ℕ)) (b c : Bool) → (is_marked s line || is_empty_line line) ≡ b → begins_marked s rest ≡ c → AreSome (header s rest) → AreSome (header s (line ∷ rest))
some_by s line rest true c h i next = rw (header-stop s line rest h) tt
some_by s line rest false true h i next = rw (header-cut s line rest h i) (shortened-some line (text_of line) refl)
some_by s line rest false false h i next = rw (header-on s line rest h i) (not_empty_line line (or_right (is_marked s line) (is_empty_line line) h), next)

pub header-some : (s lines : List (List ℕ)) → AreSome (header s lines)
unfolding header
header-some s [] = tt
header-some s (line ∷ rest) = some_by s line rest (is_marked s line || is_empty_line line) (begins_marked s rest) refl refl (header-some s rest)

some_split : (before : List (List ℕ)) (line : List ℕ) (after lines : List (List ℕ)) → lines ≡ before ++ line ∷ after → AreSome lines → line ≢ crlf
some_split [] line after [] is some = let clash : [] ≡ line ∷ after = is in cc
some_split [] line after (first ∷ lines) is some = let same : first ≡ line = cc in rw (← same) some.0
some_split (one ∷ before) line after [] is some = let clash : [] ≡ one ∷ (before ++ line ∷ after) = is in cc
some_split (one ∷ before) line after (first ∷ lines) is some = let tails : lines ≡ before ++ line ∷ after = cc in some_split before line after lines tails some.1

-- a block of lines without an empty one has them all
pub whole_block : (lines : List (List ℕ)) (start : ℕ) (fields : List Field) (end : ℕ) → AreSome lines → (block : HasBlockIn lines start fields end) → lines ≡ block.header
whole_block lines start fields end some block = go block.rest refl block.ends
  where
    go : (rest : List (List ℕ)) → rest ≡ block.rest → EndsBlock block.rest → lines ≡ block.header
    go [] is ends = block.lines ∙ ap (λ more. block.header ++ more) (sym is) ∙ append-nil block.header
    go (line ∷ rest) is ends =
        let split : lines ≡ block.header ++ line ∷ rest = block.lines ∙ ap (λ more. block.header ++ more) (sym is) in
        let empty : line ≡ crlf = rw (← is) at ends in
        absurd (some_split block.header line rest lines split some empty)

pub fields_size : (lines : List (List ℕ)) (start : ℕ) (fields : List Field) (end : ℕ) → AreFields lines start fields end → end ≡ start + size lines
fields_size lines start [] end done = rw done.0 (let is = done.1 in omega arith)
fields_size lines start (field ∷ fields) end done =
    let later = fields_size done.2 (start + field.raw.len) fields end done.5 in
    let len = done.4.raw_len in
    let all = size-append (done.0 ∷ done.1) done.2 in
    rw done.3 (omega arith)

-- a fault of the header is one of all lines
pub fault_longer : (lines more : List (List ℕ)) (start : ℕ) (fault : FieldFault) → IsFaultIn lines start fault → IsFaultIn (lines ++ more) start fault
fault_longer lines more start (NotField at) fault = (fault.0, fault.1, longer fault.0 at fault.1 fault.2, fault.3)
  where
    longer : (fields : List Field) (at : ℕ) (line : List ℕ) → ComesAfter lines start fields at line → ComesAfter (lines ++ more) start fields at line
    longer fields at line comes =
        record { before = comes.before; after = comes.after ++ more; split = ap (λ all. all ++ more) comes.split ∙ append_assoc comes.before (line ∷ comes.after) more; fields_are = comes.fields_are; goes_on = comes.goes_on }
fault_longer lines more start (NotUtf8 at) fault = (fault.0, fault.1, fault.2, longer fault.0 fault.1 fault.2 fault.3, fault.4, fault.5, fault.6)
  where
    longer : (fields : List Field) (at : ℕ) (line : List ℕ) → ComesAfter lines start fields at line → ComesAfter (lines ++ more) start fields at line
    longer fields at line comes =
        record { before = comes.before; after = comes.after ++ more; split = ap (λ all. all ++ more) comes.split ∙ append_assoc comes.before (line ∷ comes.after) more; fields_are = comes.fields_are; goes_on = comes.goes_on }
fault_longer lines more start Memory fault = tt

-- what the lines after the header begin with
stops_by : (s : List (List ℕ)) (first : List ℕ) (lines : List (List ℕ)) (line : List ℕ) (rest : List (List ℕ)) (b : Bool) → (is_marked s first || is_empty_line first) ≡ b → after_header s (first ∷ lines) ≡ line ∷ rest
    → (after_header s lines ≡ line ∷ rest → (is_marked s line || is_empty_line line) ≡ true) → (is_marked s line || is_empty_line line) ≡ true
stops_by s first lines line rest true h is next = let both : first ∷ lines ≡ line ∷ rest = sym (after_header-stop s first lines h) ∙ is in let same : first ≡ line = cc in rw (← same) h
stops_by s first lines line rest false h is next = next (sym (after_header-on s first lines h) ∙ is)

is_crlf_line : (line : List ℕ) → is_empty_line line ≡ true → line ≡ crlf
is_crlf_line line empty = (bytes_eq-Decides line crlf).0 empty

pub stops_at : (s lines : List (List ℕ)) (line : List ℕ) (rest : List (List ℕ)) → after_header s lines ≡ line ∷ rest → (is_marked s line || is_empty_line line) ≡ true
unfolding after_header
stops_at s [] line rest is = let clash : [] ≡ line ∷ rest = is in cc
stops_at s (first ∷ lines) line rest is = stops_by s first lines line rest (is_marked s first || is_empty_line first) refl is (λ more. stops_at s lines line rest more)

after_by : (s : List (List ℕ)) (line : List ℕ) (rest : List (List ℕ)) (b : Bool) → (is_marked s line || is_empty_line line) ≡ b → after s (after_header s rest) ≡ after s rest
    → after s (after_header s (line ∷ rest)) ≡ after s (line ∷ rest)
after_by s line rest true h next = ap (after s) (after_header-stop s line rest h)
after_by s line rest false h next = ap (after s) (after_header-on s line rest h) ∙ next ∙ sym (after-on s line rest (or_parts (is_marked s line) (is_empty_line line) h).0)

pub after-after_header : (s lines : List (List ℕ)) → after s (after_header s lines) ≡ after s lines
unfolding after after_header
after-after_header s [] = refl
after-after_header s (line ∷ rest) = after_by s line rest (is_marked s line || is_empty_line line) refl (after-after_header s rest)

-- The content, after the header.
pub record HasContent (s : List (List ℕ)) (octets : List ℕ) (start : Start) (stop : Stop) (content : Start) : Type 0 where
  pub ends : EndsBlock (region s (lines_at octets stop.at))
  pub content_is : region s (lines_at octets content.from) ≡ drop 1 (region s (lines_at octets stop.at))
  pub body_is : content.at ≡ end_place start.from start.at stop + size (take 1 (region s (lines_at octets stop.at)))
  pub after_is : after s (lines_at octets content.from) ≡ after s (lines_at octets stop.at)
  pub onward : stop.at ≤ content.from
  pub is_start : IsStart s octets content

content_at_once : (s : List (List ℕ)) (octets : List ℕ) (start : Start) (stop : Stop) (content : Start) → IsStart s octets start → IsHeaderStop s octets start.from stop
    → content ≡ record { from = stop.at; at = end_place start.from start.at stop } → region s (lines_at octets stop.at) ≡ []
    → (end_place start.from start.at stop ≡ stop.at) ⊎ (begins_marked s (lines_at octets stop.at) ≡ true) → HasContent s octets start stop content
content_at_once s octets start stop content is stops content_is none place =
    let from_is : content.from ≡ stop.at = ap (λ (x : Start). x.from) content_is in
    let at_is : content.at ≡ end_place start.from start.at stop = ap (λ (x : Start). x.at) content_is in
    let order = (extent s octets start stop is stops).order in
    record {
      ends = rw none tt;
      content_is = rw (from_is, none) refl;
      body_is = rw none (omega arith);
      after_is = rw from_is refl;
      onward = omega arith;
      is_start = record { fits = let fits = stops.fits in omega arith; order = omega arith; place = rw (from_is, at_is) place };
    }

content_empty : (s : List (List ℕ)) (octets : List ℕ) (start : Start) (stop : Stop) (content : Start) (c : Bool) (next : IsAfterLine s octets stop.at content) → IsHeaderStop s octets start.from stop → stop.marked ≡ false
    → begins_marked s next.rest ≡ c → HasContent s octets start stop content
unfolding begins_marked text_of
content_empty s octets start stop content c next stops other c_is =
    let here : is_marked s next.line ≡ false = rw next.lines at (sym stops.marked ∙ other) in
    let stopped = stops_at s (lines_at octets start.from) next.line next.rest (sym stops.lines ∙ next.lines) in
    let empty : next.line ≡ crlf = is_crlf_line next.line (only_second (is_marked s next.line) (is_empty_line next.line) here stopped) in
    let end : end_place start.from start.at stop ≡ stop.at = rw other refl in
    let onward = next.onward in
    go c c_is (rw empty at here) (next.lines ∙ ap (λ line. line ∷ next.rest) empty) end (next.at_is ∙ ap (λ line. stop.at + length (kept s line next.rest)) empty)
  where
    only_second : (a b : Bool) → a ≡ false → (a || b) ≡ true → b ≡ true
    only_second a b no_a h = rw no_a at h

    go : (c : Bool) → begins_marked s next.rest ≡ c → is_marked s crlf ≡ false → lines_at octets stop.at ≡ crlf ∷ next.rest → end_place start.from start.at stop ≡ stop.at
        → content.at ≡ stop.at + length (kept s crlf next.rest) → HasContent s octets start stop content
    go true c_is here lines end at_is =
        let none : region s (lines_at octets stop.at) ≡ [] = ap (region s) lines ∙ region-cut s crlf next.rest here c_is in
        let place = rw c_is at at_is in
        record {
          ends = rw none tt;
          content_is = rw (none, next.next) (region-begins s next.rest c_is);
          body_is = rw (none, end) place;
          after_is = ap (after s) next.next ∙ sym (after-on s crlf next.rest here) ∙ ap (after s) (sym lines);
          onward = let onward = next.onward in omega arith;
          is_start = next.is_start;
        }
    go false c_is here lines end at_is =
        let some : region s (lines_at octets stop.at) ≡ crlf ∷ region s next.rest = ap (region s) lines ∙ region-on s crlf next.rest here c_is in
        let place = rw c_is at at_is in
        record {
          ends = rw some refl;
          content_is = rw (some, next.next) refl;
          body_is = rw (some, end) place;
          after_is = ap (after s) next.next ∙ sym (after-on s crlf next.rest here) ∙ ap (after s) (sym lines);
          onward = let onward = next.onward in omega arith;
          is_start = next.is_start;
        }

pub has_content : (s : List (List ℕ)) (octets : List ℕ) (start : Start) (stop : Stop) (content : Start) → IsStart s octets start → IsHeaderStop s octets start.from stop
    → IsContentStart s octets stop (end_place start.from start.at stop) content → HasContent s octets start stop content
unfolding region
has_content s octets start stop content is stops (inl (content_is, inl marked)) =
    let begins : begins_marked s (lines_at octets stop.at) ≡ true = sym stops.marked ∙ marked in
    content_at_once s octets start stop content is stops content_is (region-begins s (lines_at octets stop.at) begins) (inr begins)
has_content s octets start stop content is stops (inl (content_is, inr past)) =
    let other : stop.marked ≡ false = stops.marked ∙ nothing_begins s octets stop.at past in
    content_at_once s octets start stop content is stops content_is (ap (region s) (nothing_at octets stop.at past)) (inl (rw other refl))
has_content s octets start stop content is stops (inr (other, next)) = content_empty s octets start stop content (begins_marked s next.rest) next stops other refl

-- The head that the reader answers.
pub head_read : (s : List (List ℕ)) (octets : List ℕ) (start : Start) (stop : Stop) (block : Block) (content : Start) → IsStart s octets start → IsHeaderStop s octets start.from stop
    → HasContent s octets start stop content → HasBlockIn (header s (lines_at octets start.from)) start.at block.fields block.end → AreFieldsWithin octets block.fields
    → IsHeadRead s octets start (record { block = block; content = content })
head_read s octets start stop block content is stops has found within =
    let whole = whole_block (header s (lines_at octets start.from)) start.at block.fields block.end (header-some s (lines_at octets start.from)) found in
    let size_is = fields_size found.header start.at block.fields block.end found.fields_are in
    let end_is = (extent s octets start stop is stops).end_is in
    let block_end : block.end ≡ end_place start.from start.at stop = size_is ∙ ap (λ lines. start.at + size lines) (sym whole) ∙ sym end_is in
    let all : region s (lines_at octets start.from) ≡ found.header ++ region s (lines_at octets stop.at) =
    region-header s (lines_at octets start.from) ∙ ap (λ lines. header s (lines_at octets start.from) ++ region s lines) (sym stops.lines) ∙ ap (λ lines. lines ++ region s (lines_at octets stop.at)) whole in
    let onward = stops.onward in
    let further = has.onward in
    record {
      head_is = record {
        has_block = record { header = found.header; rest = region s (lines_at octets stop.at); lines = all; fields_are = found.fields_are; ends = has.ends };
        content_is = has.content_is;
        body_is = rw block_end has.body_is;
      };
      after_is = has.after_is ∙ ap (after s) stops.lines ∙ after-after_header s (lines_at octets start.from);
      onward = omega arith;
      is_start = has.is_start;
      within = within;
    }

pub head_fault : (s : List (List ℕ)) (octets : List ℕ) (start : Start) (fault : FieldFault) → IsFaultIn (header s (lines_at octets start.from)) start.at fault → IsFaultIn (region_at s octets start.from) start.at fault
head_fault s octets start fault found =
    rw (region-header s (lines_at octets start.from)) (fault_longer (header s (lines_at octets start.from)) (region s (after_header s (lines_at octets start.from))) start.at fault found)

-- what stands in the front of octets stands in all of them
range_within : (front back : List ℕ) (at len : ℕ) → at + len ≤ length front → slice_range (front ++ back) at (at + len) ≡ slice_range front at (at + len)
range_within front back at len fits =
    let part = take len (drop at front) in
    let rest = drop len (drop at front) in
    let left = length-drop at front in
    let cut : front ≡ take at front ++ (part ++ rest) = sym (ap (λ more. take at front ++ more) (take-append-drop len (drop at front)) ∙ take-append-drop at front) in
    let wide : front ++ back ≡ take at front ++ (part ++ (rest ++ back)) =
    ap (λ all. all ++ back) cut ∙ append_assoc (take at front) (part ++ rest) back ∙ ap (λ more. take at front ++ more) (append_assoc part rest back) in
    let at_is : length (take at front) ≡ at = length-take-le at front (omega arith) in
    let len_is : len ≡ length part = sym (length-take-le len (drop at front) (omega arith)) in
    slice_range-following (front ++ back) (take at front) part (rest ++ back) at len wide at_is len_is
    ∙ sym (slice_range-following front (take at front) part rest at len cut at_is len_is)

pub fields_within : (front back octets : List ℕ) (fields : List Field) → octets ≡ front ++ back → All (λ field. field.raw.at + field.raw.len ≤ length front) fields
    → All (λ field. IsField (raw_of front field)) fields → AreFieldsWithin octets fields
fields_within front back octets fields is within are k d lt =
    let here = within k d lt in
    let same = range_within front back (get_or fields k d).raw.at (get_or fields k d).raw.len here in
    let more = length-append front back in
    rw is (omega arith, subst IsField (sym same) (are k d lt))
