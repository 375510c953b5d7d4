-- What follows in a multipart.
use Rattle.std.proofs.Common.{◌≡◌, ℕ, ◌+◌, ◌≤◌, List, [], ◌∷◌, ◌++◌, length, Bool, true, false, ◌||◌, arith, refl, sym, ap, ◌∙◌, ◌⊎◌, inl, inr}
use Rattle.mime_tree.specs.declared.reading.Stop.{Stop}
use Rattle.mime_tree.specs.declared.reading.Start.{Start}
use Rattle.mime_tree.specs.declared.reading.Next.TheVariants.{Part as NextPart, End as NextEnd}
use Rattle.mime_tree.specs.Marks.{text_of, dashes, is_padded, is_delimiter, is_close}
use Rattle.mime_tree.specs.Parts.{Part, parts_of, parts_on}
use Rattle.mime_tree.specs.private.Open.{is_marked_text, is_marked, begins_marked, region, after, kept, later, lines_at, IsStop, IsStart, IsAfterLine, IsNext}
use Rattle.mime_tree.proofs.Regions.{region-begins, after-on, after-begins}
use Rattle.mime_tree.proofs.PartLemmas.{preamble-on, preamble-delimiter, not_both, is_marked-with}
use Rattle.mime_tree.proofs.LinesAt.{HasLine, HasPassed, HasPassed-none, HasPassed-more, IsStop-marked, IsStop-end, begins_at, nothing_at}

-- the reader's test finds a delimiter line
pub delimiter_by : (b line words : List ℕ) (is : Bool) → words ≡ text_of line → is_padded (dashes ++ b) words ≡ is → is_delimiter b line ≡ is
unfolding is_delimiter
delimiter_by b line words is same mark = rw (← same) mark

-- before the first delimiter line
pub record IsPreamble (s : List (List ℕ)) (b octets : List ℕ) (parts : List Part) (from at : ℕ) : Type 0 where
  pub same : parts ≡ parts_of b at (region s (lines_at octets at))
  pub passed : HasPassed s octets from at

pub no_parts : (b : List ℕ) (at : ℕ) → parts_of b at [] ≡ []
unfolding parts_of
no_parts b at = refl

pub IsPreamble-none : (s : List (List ℕ)) (b octets : List ℕ) (start : Start) → IsStart s octets start → IsPreamble s b octets (parts_of b start.at (region s (lines_at octets start.from))) start.from start.from
IsPreamble-none s b octets start is = record { same = go is.place; passed = HasPassed-none s octets start.from is.fits }
  where
    go : (start.at ≡ start.from) ⊎ (begins_marked s (lines_at octets start.from) ≡ true) → parts_of b start.at (region s (lines_at octets start.from)) ≡ parts_of b start.from (region s (lines_at octets start.from))
    go (inl same) = rw same refl
    go (inr marked) = rw (region-begins s (lines_at octets start.from) marked) (no_parts b start.at ∙ sym (no_parts b start.from))

pub IsPreamble-more : (s : List (List ℕ)) (b octets : List ℕ) (parts : List Part) (from at text len : ℕ) (words : List ℕ) → IsPreamble s b octets parts from at → HasLine octets at text len words
    → is_marked_text s words ≡ false → is_padded (dashes ++ b) words ≡ false → IsPreamble s b octets parts from (at + len)
IsPreamble-more s b octets parts from at text len words before has outer other =
    let here : is_marked s has.line ≡ false = rw has.words_are at outer in
    let step = preamble-on s b at has.line (lines_at octets (at + len)) here (delimiter_by b has.line words false has.words_are other) in
    record {
      same = before.same ∙ ap (λ lines. parts_of b at (region s lines)) has.lines ∙ step ∙ ap (λ n. parts_of b (at + n) (region s (lines_at octets (at + len)))) has.line_len;
      passed = HasPassed-more s octets from at text len words before.passed has outer;
    }

pub first-marked : (s : List (List ℕ)) (b octets : List ℕ) (parts : List Part) (from at text len : ℕ) (words : List ℕ) → IsPreamble s b octets parts from at → HasLine octets at text len words
    → is_marked_text s words ≡ true → IsNext s b octets parts from (NextEnd (record { at = at; marked = true }))
unfolding parts_of
first-marked s b octets parts from at text len words before has outer =
    let marked = begins_at s octets at text len words has ∙ outer in
    (before.same ∙ ap (parts_of b at) (region-begins s (lines_at octets at) marked), IsStop-marked s octets from at before.passed marked)

pub first-end : (s : List (List ℕ)) (b octets : List ℕ) (parts : List Part) (from at : ℕ) → IsPreamble s b octets parts from at → length octets ≤ at → IsNext s b octets parts from (NextEnd (record { at = at; marked = false }))
unfolding parts_of region
first-end s b octets parts from at before past =
    (before.same ∙ ap (λ lines. parts_of b at (region s lines)) (nothing_at octets at past), IsStop-end s octets from at before.passed past)

-- the two views of the line at a place
same_line : (octets : List ℕ) (at text len : ℕ) (words : List ℕ) (s : List (List ℕ)) (start : Start) (has : HasLine octets at text len words) (next : IsAfterLine s octets at start) → has.line ≡ next.line
same_line octets at text len words s start has next = let both : has.line ∷ lines_at octets (at + len) ≡ next.line ∷ next.rest = sym has.lines ∙ next.lines in cc

pub first-part : (s : List (List ℕ)) (b octets : List ℕ) (parts : List Part) (from at text len : ℕ) (words : List ℕ) (start : Start) → IsPreamble s b octets parts from at → HasLine octets at text len words
    → is_marked_text s words ≡ false → is_padded (dashes ++ b) words ≡ true → IsAfterLine s octets at start → IsNext s b octets parts from (NextPart start)
first-part s b octets parts from at text len words start before has outer mark next =
    let line = same_line octets at text len words s start has next in
    let here : is_marked s next.line ≡ false = rw (← line) (rw has.words_are at outer) in
    let delimiter = delimiter_by b next.line words true (has.words_are ∙ ap text_of line) mark in
    let place : parts_on b (at + length (kept s next.line next.rest)) [] (region s next.rest) ≡ parts_on b start.at [] (region s (lines_at octets start.from)) = rw (next.next, next.at_is) refl in
    let onward = before.passed.onward in
    let further = next.onward in (
      before.same ∙ ap (λ lines. parts_of b at (region s lines)) next.lines ∙ preamble-delimiter s b at next.line next.rest here delimiter ∙ place,
      next.is_start,
      ap (after s) next.next ∙ sym (after-on s next.line next.rest here) ∙ ap (after s) (sym next.lines) ∙ before.passed.same,
      omega arith,
    )

-- after a part
pub next-end : (s : List (List ℕ)) (b octets : List ℕ) (stop : Stop) → stop.at ≤ length octets → lines_at octets stop.at ≡ [] → stop.marked ≡ false
    → IsNext s b octets (later s b stop.at (lines_at octets stop.at)) stop.at (NextEnd stop)
unfolding after begins_marked
next-end s b octets stop fits none other =
    (rw none refl, record { lines = rw none refl; marked = rw (none, other) refl; onward = omega arith; fits = fits })

pub next-marked : (s : List (List ℕ)) (b octets : List ℕ) (stop : Stop) (text len : ℕ) (words : List ℕ) → HasLine octets stop.at text len words → is_marked_text s words ≡ true → stop.at ≤ length octets → stop.marked ≡ true
    → IsNext s b octets (later s b stop.at (lines_at octets stop.at)) stop.at (NextEnd stop)
next-marked s b octets stop text len words has outer fits marked =
    let begins = begins_at s octets stop.at text len words has ∙ outer in
    let here : is_marked s has.line ≡ true = rw has.words_are at outer in (
      rw has.lines (rw here refl),
      record { lines = sym (after-begins s (lines_at octets stop.at) begins); marked = marked ∙ sym begins; onward = omega arith; fits = fits },
    )

pub next-part : (s : List (List ℕ)) (b octets : List ℕ) (at text len : ℕ) (words : List ℕ) (start : Start) → HasLine octets at text len words → is_marked_text s words ≡ false → is_padded (dashes ++ b) words ≡ true
    → IsAfterLine s octets at start → IsNext s b octets (later s b at (lines_at octets at)) at (NextPart start)
next-part s b octets at text len words start has outer mark next =
    let line = same_line octets at text len words s start has next in
    let here : is_marked s next.line ≡ false = rw (← line) (rw has.words_are at outer) in
    let delimiter = delimiter_by b next.line words true (has.words_are ∙ ap text_of line) mark in
    let close : is_close b next.line ≡ false = no_close (is_close b next.line) refl delimiter in
    let place : parts_on b (at + length (kept s next.line next.rest)) [] (region s next.rest) ≡ parts_on b start.at [] (region s (lines_at octets start.from)) = rw (next.next, next.at_is) refl in (
      ap (later s b at) next.lines ∙ rw (here, close) place,
      next.is_start,
      ap (after s) next.next ∙ sym (after-on s next.line next.rest here) ∙ ap (after s) (sym next.lines),
      next.onward,
    )
  where
    no_close : (c : Bool) → is_close b next.line ≡ c → is_delimiter b next.line ≡ true → is_close b next.line ≡ false
    no_close true is delimiter = absurd (not_both b next.line delimiter is)
    no_close false is delimiter = is

pub next-close : (s : List (List ℕ)) (b octets : List ℕ) (at text len : ℕ) (words : List ℕ) (stop : Stop) → HasLine octets at text len words → is_marked_text s words ≡ false → is_padded (dashes ++ b) words ≡ false
    → begins_marked (s ++ b ∷ []) (lines_at octets at) ≡ true → IsStop s octets (at + len) stop → IsNext s b octets (later s b at (lines_at octets at)) at (NextEnd stop)
next-close s b octets at text len words stop has outer other marked is =
    let here : is_marked s has.line ≡ false = rw has.words_are at outer in
    let delimiter = delimiter_by b has.line words false has.words_are other in
    let own : is_marked (s ++ b ∷ []) has.line ≡ true = rw (← has.words_are) (sym (begins_at (s ++ b ∷ []) octets at text len words has) ∙ marked) in
    let close = only_close (is_marked s has.line) (is_delimiter b has.line) (is_close b has.line) here delimiter (sym (is_marked-with s b has.line) ∙ own) in
    let onward = is.onward in (
      ap (later s b at) has.lines ∙ rw (here, close) refl,
      record { lines = is.lines ∙ sym (after-on s has.line (lines_at octets (at + len)) here) ∙ ap (after s) (sym has.lines); marked = is.marked; onward = omega arith; fits = is.fits },
    )
  where
    only_close : (x y z : Bool) → x ≡ false → y ≡ false → (x || (y || z)) ≡ true → z ≡ true
    only_close x y z no_x no_y all = rw (no_x, no_y) at all
