-- The line at a place, and the steps over lines.
use Rattle.std.proofs.Common.{◌≡◌, ℕ, zero, suc, ◌+◌, ◌<◌, ◌≤◌, List, [], ◌∷◌, length, take, drop, true, false, ◌||◌, nat_eq, arith, refl, sym, ap, ◌∙◌, inl, inr}
use Rattle.std.specs.Prelude.{◌==◌}
use Rattle.std.specs.List.{concat, starts_with}
use Rattle.std.proofs.lemmas.Bool.Decides.{nat_tests}
use Rattle.std.proofs.lemmas.Bool.{cases_lt}
use Rattle.std.proofs.lemmas.List.{length-take-le, drop-drop, length-drop, drop_all}
use Rattle.mail_wire.specs.Lines.{lines_of}
use Rattle.mail_wire.proofs.LineLemmas.{concat_lines_of}
use Rattle.utf8_fields.proofs.Heads.{lines_of-nil}
use Rattle.mime_tree.specs.Marks.{text_of, dashes}
use Rattle.mime_tree.specs.Parts.{size}
use Rattle.mime_tree.specs.private.Open.{is_marked_text, is_marked, begins_marked, after, after_header, is_empty_line, lines_at, IsStop, IsHeaderStop, IsAfterLine}
use Rattle.mime_tree.proofs.Texts.{text_apart}
use Rattle.mime_tree.proofs.Padded.{unmarked_plain}
use Rattle.mime_tree.proofs.Regions.{after-begins, after-on, after-none}
use Rattle.mime_tree.proofs.Headers.{after_header-begins, after_header-on, after_header-stop}

-- A line stands at `at`: its text, and how long both are.
pub record HasLine (octets : List ℕ) (at text len : ℕ) (words : List ℕ) : Type 0 where
  pub line : List ℕ
  pub line_is : line ≡ take len (drop at octets)
  pub lines : lines_at octets at ≡ line ∷ lines_at octets (at + len)
  pub words_are : words ≡ text_of line
  pub line_len : length line ≡ len
  pub text_len : length words ≡ text
  pub some : 0 < len
  pub fits : at + len ≤ length octets

pub HasLine-from : (octets rest words : List ℕ) (at text len : ℕ) → rest ≡ drop at octets → 0 < length rest → words ≡ take text rest → take text rest ≡ text_of (take len rest) → text ≤ len → len ≤ length rest
    → (0 < length rest → 0 < len) → (0 < length rest → lines_of rest ≡ take len rest ∷ lines_of (drop len rest)) → at ≤ length octets → HasLine octets at text len words
HasLine-from octets rest words at text len is_rest some is_words text_is order bound some_len lines fits =
    let rest_len : length rest + at ≡ length octets = rw is_rest (omega (arith, length-drop at octets)) in
    record {
      line = take len rest;
      line_is = ap (take len) is_rest;
      lines = rw (← is_rest) (lines some ∙ ap (λ more. take len rest ∷ lines_of more) (ap (drop len) is_rest ∙ drop-drop len at octets));
      words_are = is_words ∙ text_is;
      line_len = length-take-le len rest bound;
      text_len = ap length is_words ∙ length-take-le text rest (omega arith);
      some = some_len some;
      fits = omega arith;
    }

pub begins_at : (s : List (List ℕ)) (octets : List ℕ) (at text len : ℕ) (words : List ℕ) → HasLine octets at text len words → begins_marked s (lines_at octets at) ≡ is_marked_text s words
unfolding begins_marked
begins_at s octets at text len words has = rw (has.lines, has.words_are) refl

pub nothing_at : (octets : List ℕ) (at : ℕ) → length octets ≤ at → lines_at octets at ≡ []
nothing_at octets at past = lines_of-nil (drop at octets) (omega (arith, length-drop at octets))

pub nothing_begins : (s : List (List ℕ)) (octets : List ℕ) (at : ℕ) → length octets ≤ at → begins_marked s (lines_at octets at) ≡ false
unfolding begins_marked
nothing_begins s octets at past = rw (nothing_at octets at past) refl

-- octets that don't begin with hyphens begin with no marked line
plain_first : (s lines : List (List ℕ)) → starts_with nat_eq (concat lines) dashes ≡ false → begins_marked s lines ≡ false
unfolding begins_marked
plain_first s [] plain = refl
plain_first s (line ∷ lines) plain = unmarked_plain s (text_of line) (text_apart line (concat lines) plain)

pub plain_there : (s : List (List ℕ)) (octets rest : List ℕ) (at : ℕ) → rest ≡ drop at octets → starts_with nat_eq rest dashes ≡ false → begins_marked s (lines_at octets at) ≡ false
plain_there s octets rest at is plain =
    plain_first s (lines_at octets at) (ap (λ text. starts_with nat_eq text dashes) (concat_lines_of (drop at octets) ∙ sym is) ∙ plain)

-- the lines up to `at` are passed
pub record HasPassed (s : List (List ℕ)) (octets : List ℕ) (from at : ℕ) : Type 0 where
  pub same : after s (lines_at octets at) ≡ after s (lines_at octets from)
  pub onward : from ≤ at
  pub fits : at ≤ length octets

pub HasPassed-none : (s : List (List ℕ)) (octets : List ℕ) (from : ℕ) → from ≤ length octets → HasPassed s octets from from
HasPassed-none s octets from fits = record { same = refl; onward = omega arith; fits = fits }

pub HasPassed-more : (s : List (List ℕ)) (octets : List ℕ) (from at text len : ℕ) (words : List ℕ) → HasPassed s octets from at → HasLine octets at text len words → is_marked_text s words ≡ false
    → HasPassed s octets from (at + len)
HasPassed-more s octets from at text len words passed has other =
    let here : is_marked s has.line ≡ false = rw has.words_are at other in
    record {
      same = sym (after-on s has.line (lines_at octets (at + len)) here) ∙ ap (after s) (sym has.lines) ∙ passed.same;
      onward = let before = passed.onward in omega arith;
      fits = has.fits;
    }

pub IsStop-marked : (s : List (List ℕ)) (octets : List ℕ) (from at : ℕ) → HasPassed s octets from at → begins_marked s (lines_at octets at) ≡ true → IsStop s octets from (record { at = at; marked = true })
IsStop-marked s octets from at passed marked =
    record { lines = sym (after-begins s (lines_at octets at) marked) ∙ passed.same; marked = sym marked; onward = passed.onward; fits = passed.fits }

pub IsStop-end : (s : List (List ℕ)) (octets : List ℕ) (from at : ℕ) → HasPassed s octets from at → length octets ≤ at → IsStop s octets from (record { at = at; marked = false })
unfolding after
IsStop-end s octets from at passed past =
    record {
      lines = let none = nothing_at octets at past in let same = rw none at passed.same in none ∙ same;
      marked = sym (nothing_begins s octets at past);
      onward = passed.onward;
      fits = passed.fits;
    }

-- the same in a header
pub record HasPassedHeader (s : List (List ℕ)) (octets : List ℕ) (from at : ℕ) : Type 0 where
  pub same : after_header s (lines_at octets at) ≡ after_header s (lines_at octets from)
  pub onward : from ≤ at
  pub fits : at ≤ length octets

pub HasPassedHeader-none : (s : List (List ℕ)) (octets : List ℕ) (from : ℕ) → from ≤ length octets → HasPassedHeader s octets from from
HasPassedHeader-none s octets from fits = record { same = refl; onward = omega arith; fits = fits }

pub HasPassedHeader-more : (s : List (List ℕ)) (octets : List ℕ) (from at text len : ℕ) (words whole : List ℕ) → HasPassedHeader s octets from at → (has : HasLine octets at text len words) → whole ≡ has.line
    → is_marked_text s words ≡ false → is_empty_line whole ≡ false → HasPassedHeader s octets from (at + len)
HasPassedHeader-more s octets from at text len words whole passed has is_whole other some =
    let here : (is_marked s has.line || is_empty_line has.line) ≡ false = rw (← is_whole, some) (rw (is_whole, ← has.words_are, other) refl) in
    record {
      same = sym (after_header-on s has.line (lines_at octets (at + len)) here) ∙ ap (after_header s) (sym has.lines) ∙ passed.same;
      onward = let before = passed.onward in omega arith;
      fits = has.fits;
    }

pub IsHeaderStop-marked : (s : List (List ℕ)) (octets : List ℕ) (from at : ℕ) → HasPassedHeader s octets from at → begins_marked s (lines_at octets at) ≡ true
    → IsHeaderStop s octets from (record { at = at; marked = true })
IsHeaderStop-marked s octets from at passed marked =
    record { lines = sym (after_header-begins s (lines_at octets at) marked) ∙ passed.same; marked = sym marked; onward = passed.onward; fits = passed.fits }

pub IsHeaderStop-empty : (s : List (List ℕ)) (octets : List ℕ) (from at text len : ℕ) (words whole : List ℕ) → HasPassedHeader s octets from at → (has : HasLine octets at text len words) → whole ≡ has.line
    → is_marked_text s words ≡ false → is_empty_line whole ≡ true → IsHeaderStop s octets from (record { at = at; marked = false })
IsHeaderStop-empty s octets from at text len words whole passed has is_whole other empty =
    let here : (is_marked s has.line || is_empty_line has.line) ≡ true = rw (← is_whole, empty) (rw (is_whole, ← has.words_are, other) refl) in
    record {
      lines = has.lines ∙ sym (after_header-stop s has.line (lines_at octets (at + len)) here) ∙ ap (after_header s) (sym has.lines) ∙ passed.same;
      marked = sym (begins_at s octets at text len words has ∙ other);
      onward = passed.onward;
      fits = passed.fits;
    }

pub IsHeaderStop-end : (s : List (List ℕ)) (octets : List ℕ) (from at : ℕ) → HasPassedHeader s octets from at → length octets ≤ at → IsHeaderStop s octets from (record { at = at; marked = false })
unfolding after_header
IsHeaderStop-end s octets from at passed past =
    record {
      lines = let none = nothing_at octets at past in let same = rw none at passed.same in none ∙ same;
      marked = sym (nothing_begins s octets at past);
      onward = passed.onward;
      fits = passed.fits;
    }

-- what begins after a line
pub after_line-marked : (s : List (List ℕ)) (octets : List ℕ) (at text len : ℕ) (words : List ℕ) → HasLine octets at text len words → text ≤ len → true ≡ begins_marked s (lines_at octets (at + len))
    → IsAfterLine s octets at (record { from = at + len; at = at + text })
after_line-marked s octets at text len words has order marked =
    let some = has.some in
    record {
      line = has.line;
      rest = lines_at octets (at + len);
      lines = has.lines;
      next = refl;
      at_is = rw (← marked) (rw (← has.words_are, has.text_len) refl);
      onward = omega arith;
      is_start = record { fits = has.fits; order = omega arith; place = inr (sym marked) };
    }

pub after_line-plain : (s : List (List ℕ)) (octets : List ℕ) (at text len : ℕ) (words : List ℕ) → HasLine octets at text len words → false ≡ begins_marked s (lines_at octets (at + len))
    → IsAfterLine s octets at (record { from = at + len; at = at + len })
after_line-plain s octets at text len words has other =
    let some = has.some in
    record {
      line = has.line;
      rest = lines_at octets (at + len);
      lines = has.lines;
      next = refl;
      at_is = rw (← other, has.line_len) refl;
      onward = omega arith;
      is_start = record { fits = has.fits; order = omega arith; place = inl refl };
    }

pub more_left : (octets rest : List ℕ) (at : ℕ) → rest ≡ drop at octets → at < length octets → 0 < length rest
more_left octets rest at is lt = rw is (omega (arith, length-drop at octets))

pub not_empty : (n : ℕ) → false ≡ (n == 0) → 0 < n
not_empty zero h = let clash : false ≡ true = h in cc
not_empty (suc n) h = omega arith

pub is_empty : (n : ℕ) → true ≡ (n == 0) → n ≡ 0
is_empty n h = grind (arith, nat_tests)

pub marked_some : (s : List (List ℕ)) (octets : List ℕ) (at : ℕ) → begins_marked s (lines_at octets at) ≡ true → at < length octets
marked_some s octets at marked = elim (cases_lt at (length octets)) [
  | inl lt ↦ lt
  | inr past ↦ let clash : false ≡ true = sym (nothing_begins s octets at past) ∙ marked in absurd (cc)
]

-- how many octets the lines from a place on have
pub size_at : (octets : List ℕ) (at : ℕ) → at ≤ length octets → at + size (lines_at octets at) ≡ length octets
size_at octets at fits = rw (concat_lines_of (drop at octets)) (omega (arith, length-drop at octets))

-- with one more there are some
some_left : (n : ℕ) → true ≡ (suc n == 0) → ⊥
some_left n none = grind (arith, nat_tests)

pub no_mark : (lines : List (List ℕ)) → begins_marked [] lines ≡ false
unfolding begins_marked is_marked_text
no_mark [] = refl
no_mark (line ∷ rest) = refl

-- without boundaries all is passed
pub IsStop-all : (boundaries : List (List ℕ)) (octets : List ℕ) (from : ℕ) → true ≡ (length boundaries == 0) → from ≤ length octets → IsStop boundaries octets from (record { at = length octets; marked = false })
IsStop-all (first ∷ boundaries) octets from none fits = absurd (some_left (length boundaries) none)
IsStop-all [] octets from none fits =
    let following : lines_at octets (length octets) ≡ [] = ap lines_of (drop_all (length octets) octets (omega arith)) ∙ lines_of-nil [] refl in
    record {
      lines = following ∙ sym (after-none [] (lines_at octets from) (no_mark (after [] (lines_at octets from))));
      marked = sym (no_mark (lines_at octets (length octets)));
      onward = fits;
      fits = omega arith;
    }
