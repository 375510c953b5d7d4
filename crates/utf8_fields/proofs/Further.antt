-- The steps over the further lines of a field.
use Rattle.std.proofs.Common.{◌≡◌, ℕ, ◌+◌, ◌<◌, ◌≤◌, List, [], ◌∷◌, ◌++◌, length, take, drop, arith, refl, sym, ap, ◌∙◌, subst, append_assoc, length-append, append-nil}
use Rattle.std.specs.Prelude.{IsUtf8}
use Rattle.std.specs.List.{concat}
use Rattle.std.proofs.lemmas.List.{length-take-le, drop-drop, length-drop}
use Rattle.std.proofs.lemmas.List.Elements.{All-nil, All-push}
use Rattle.std.proofs.lemmas.List.Folds.{concat-append}
use Rattle.mail_wire.specs.Lines.{lines_of}
use Rattle.mail_wire.specs.Message.{IsSound}
use Rattle.utf8_fields.specs.declared.block.FieldFault.{FieldFault}
use Rattle.utf8_fields.specs.Lines.{BeginsWhite}
use Rattle.utf8_fields.specs.private.Steps.{AreFurther, IsBadFurther, IsBadLine, EndsField}
use Rattle.utf8_fields.proofs.Heads.{first_line_begins, lines_of-nil}

-- octets that begin with white
pub white_some : (rest : List ℕ) → BeginsWhite rest → 0 < length rest
white_some [] white = absurd white
white_some (x ∷ rest) white = omega arith

-- the line stands after the further lines so far, and white comes first in it
pub record GoesOnWith (octets : List ℕ) (len : ℕ) (line after : List ℕ) : Type 0 where
  pub white : BeginsWhite line
  pub lines : lines_of (drop len octets) ≡ line ∷ lines_of after
  pub after_is : after ≡ drop (len + length line) octets
  pub fits : len + length line ≤ length octets

white_line : (rest line : List ℕ) (others : List (List ℕ)) → BeginsWhite rest → lines_of rest ≡ line ∷ others → BeginsWhite line
white_line [] line others white lines = absurd white
white_line (x ∷ rest) line others white lines =
    let first = first_line_begins x rest in
    let h = sym first.2 ∙ lines in
    let same : x ∷ first.0 ≡ line = cc h in
    subst BeginsWhite same white

-- the line as it was split off
pub goes_on : (octets rest line after : List ℕ) (len n : ℕ) → rest ≡ drop len octets → len ≤ length octets → BeginsWhite rest → n ≤ length rest
    → (0 < length rest → lines_of rest ≡ take n rest ∷ lines_of (drop n rest)) → line ≡ take n rest → after ≡ drop n rest → GoesOnWith octets len line after
goes_on octets rest line after len n is fits white bound lines front back =
    let split : lines_of rest ≡ line ∷ lines_of after = rw (front, back) (lines (white_some rest white)) in
    let line_len : length line ≡ n = ap length front ∙ length-take-le n rest bound in
    let left : length rest + len ≡ length octets = rw is (omega (arith, fits, length-drop len octets)) in
    record {
      white = white_line rest line (lines_of after) white split;
      lines = rw (← is) split;
      after_is = back ∙ rw (is, drop-drop, line_len) refl;
      fits = omega (arith, line_len, left, bound);
    }

length-concat-push : (lines : List (List ℕ)) (line : List ℕ) → length (concat (lines ++ line ∷ [])) ≡ length (concat lines) + length line
length-concat-push lines line = rw (concat-append lines (line ∷ []), length-append) (rw append-nil refl)

-- no further line yet
pub none_yet : (octets : List ℕ) → AreFurther octets 0
none_yet octets = record {
  more = [];
  lines = refl;
  len_is = refl;
  white = All-nil BeginsWhite;
  sound = All-nil IsSound;
  utf8 = All-nil IsUtf8;
  fits = omega arith;
}

-- one more further line
pub one_more : (octets line after : List ℕ) (len : ℕ) → AreFurther octets len → GoesOnWith octets len line after → IsSound line → IsUtf8 line → AreFurther octets (len + length line)
one_more octets line after len further next sound utf8 =
    let len_is = further.len_is in
    record {
      more = further.more ++ line ∷ [];
      lines = further.lines ∙ rw (next.lines, next.after_is) (sym (append_assoc further.more (line ∷ []) (lines_of (drop (len + length line) octets))));
      len_is = rw (length-concat-push further.more line) (omega arith);
      white = All-push BeginsWhite further.more line further.white next.white;
      sound = All-push IsSound further.more line further.sound sound;
      utf8 = All-push IsUtf8 further.more line further.utf8 utf8;
      fits = next.fits;
    }

-- the next line, if there is one, doesn't begin with white
pub no_more : (rest : List ℕ) → (BeginsWhite rest → ⊥) → EndsField (lines_of rest)
no_more [] other = rw (lines_of-nil [] refl) tt
no_more (x ∷ rest) other = rw (first_line_begins x rest).2 other

-- the next line isn't sound or no UTF-8
pub bad_one : (octets line after : List ℕ) (at len : ℕ) (fault : FieldFault) → AreFurther octets len → GoesOnWith octets len line after → IsBadLine (at + len) line fault
    → IsBadFurther octets at fault
bad_one octets line after at len fault further next bad = record {
  more = further.more;
  line = line;
  after = lines_of after;
  lines = further.lines ∙ ap (λ lines. further.more ++ lines) next.lines;
  white = further.white;
  sound = further.sound;
  utf8 = further.utf8;
  begins = next.white;
  bad = rw (← further.len_is) bad;
}
