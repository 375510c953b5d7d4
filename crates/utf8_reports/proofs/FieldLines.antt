-- A field on one line is read back.
use Rattle.std.proofs.Common.{◌≡◌, ℕ, true, false, List, [], ◌∷◌, ◌++◌, refl, sym, ap, subst, ◌∙◌, arith}
use Rattle.std.proofs.lemmas.Bool.{and_parts}
use Rattle.std.proofs.lemmas.Bool.Decides.{nat_tests}
use Rattle.std.proofs.lemmas.List.{append_assoc, append_cancel_left, append_cancel_right}
use Rattle.std.proofs.lemmas.Option.{same_Some}
use Rattle.std.specs.List.{list_all}
use Rattle.std.specs.Option.{option_map}
use Rattle.field_tokens.specs.TokenOctets.{is_line_octet}
use Rattle.mail_wire.specs.Lines.{Cut, begun_with, crlf, is_crlf}
use Rattle.mail_wire.proofs.FirstLineLemmas.{first_line-crlf, first_line-other, first_line-cut}
use Rattle.utf8_reports.specs.Fields.{field_line}
use Rattle.utf8_reports.specs.private.Reading.{BeginsLine, BeginsFieldLine}
use Rattle.utf8_reports.proofs.WholeLines.{IsPlain}

no_crlf : (x y : ℕ) → is_line_octet x ≡ true → is_crlf x y ≡ false
no_crlf x y h = grind (arith, nat_tests)

-- What is written on a line is the line.
pub line_begins : (body rest : List ℕ) → IsPlain body → BeginsLine (body ++ (crlf ++ rest)) body rest
line_begins [] rest is = first_line-crlf 13 10 rest refl
line_begins (x ∷ []) rest is =
    let plain = (and_parts (is_line_octet x) true is).0 in
    first_line-other x 13 (10 ∷ rest) (no_crlf x 13 plain) ∙ ap (option_map (begun_with x)) (line_begins [] rest refl)
line_begins (x ∷ y ∷ body) rest is =
    let parts = and_parts (is_line_octet x) (list_all is_line_octet (y ∷ body)) is in
    first_line-other x y (body ++ (crlf ++ rest)) (no_crlf x y parts.0) ∙ ap (option_map (begun_with x)) (line_begins (y ∷ body) rest parts.1)

field_parts : (name body rest : List ℕ) → field_line name body ++ rest ≡ name ++ (body ++ (crlf ++ rest))
field_parts name body rest = append_assoc name (body ++ crlf) rest ∙ ap (λ l. name ++ l) (append_assoc body crlf rest)

pub field_begins : (name octets body rest : List ℕ) → IsPlain body → octets ≡ field_line name body ++ rest → BeginsFieldLine name octets body rest
field_begins name octets body rest is whole = record {
  after = body ++ (crlf ++ rest);
  named = whole ∙ field_parts name body rest;
  line = line_begins body rest is;
}

pub field_whole : (name octets body rest : List ℕ) → BeginsFieldLine name octets body rest → octets ≡ field_line name body ++ rest
field_whole name octets body rest begins =
    let parts = (first_line-cut begins.after (record { line = body ++ crlf; rest = rest }) begins.line).parts in
    begins.named ∙ (ap (λ l. name ++ l) (parts ∙ append_assoc body crlf rest) ∙ sym (field_parts name body rest))

-- a field on one line is one body
pub record SameField (a b x y : List ℕ) : Type 0 where
  pub body : a ≡ b
  pub rest : x ≡ y

same_line : (octets a b x y : List ℕ) → BeginsLine octets a x → BeginsLine octets b y → SameField a b x y
same_line octets a b x y first other =
    let cut : Cut = record { line = a ++ crlf; rest = x } in
    let others : Cut = record { line = b ++ crlf; rest = y } in
    let same : cut ≡ others = same_Some cut others (sym first ∙ other) in
    record { body = append_cancel_right a b crlf (ap (λ (c : Cut). c.line) same); rest = ap (λ (c : Cut). c.rest) same }

pub field_once : (name octets a b x y : List ℕ) → BeginsFieldLine name octets a x → BeginsFieldLine name octets b y → SameField a b x y
field_once name octets a b x y first other =
    let after = append_cancel_left name first.after other.after (sym first.named ∙ other.named) in
    same_line other.after a b x y (subst (λ l. BeginsLine l a x) after first.line) other.line

-- what begins with a field that is known
pub field_is : (name octets a b x y : List ℕ) → BeginsFieldLine name octets a x → IsPlain b → octets ≡ field_line name b ++ y → SameField a b x y
field_is name octets a b x y first is whole = field_once name octets a b x y first (field_begins name octets b y is whole)
