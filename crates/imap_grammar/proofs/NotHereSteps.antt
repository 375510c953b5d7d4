-- The steps of reading a command that this server doesn't have.
use Rattle.std.proofs.Common.{◌≡◌, ℕ, ◌≤◌, Bool, true, false, List, [], ◌∷◌, ◌++◌, length, Some, None, inl, refl, sym, ap, ◌∙◌, subst, arith}
use Rattle.std.specs.Option.{option_map}
use Rattle.mail_wire.specs.Lines.{Cut, first_line, is_crlf, crlf, begun_with}
use Rattle.mail_wire.proofs.FirstLine.{is_crlf_false}
use Rattle.mail_wire.proofs.FirstLineLemmas.{first_line-crlf, first_line-other, first_line-apart, first_line-cut, joins, put, unput}
use Rattle.imap_words.specs.Languages.{IsViable}
use Rattle.imap_words.specs.Reading.{never, Reads}
use Rattle.imap_grammar.specs.declared.command.Command.TheVariants as command
use Rattle.imap_grammar.specs.Commands.{IsNotHere}
use Rattle.imap_grammar.proofs.LineLaws.{cut_same}

-- a line alone is cut the same
line_by : (x y : ℕ) (rest : List ℕ) (cut : Cut) → first_line (x ∷ y ∷ rest) ≡ Some cut → ((next : Cut) → first_line (y ∷ rest) ≡ Some next → first_line next.line ≡ Some (record { line = next.line; rest = [] }))
    → (b : Bool) → is_crlf x y ≡ b → first_line cut.line ≡ Some (record { line = cut.line; rest = [] })
line_by x y rest cut h others true is =
    let same : record { line = crlf; rest = rest } ≡ cut = cut_same (sym (first_line-crlf x y rest is) ∙ h) in
    subst (λ (z : Cut). first_line z.line ≡ Some (record { line = z.line; rest = [] })) same (first_line-crlf 13 10 [] refl)
line_by x y rest cut h others false is =
    let found = unput x cut (first_line (y ∷ rest)) (sym (first_line-other x y rest is) ∙ h) in
    let parts = first_line-cut (y ∷ rest) found.0 found.1 in
    subst (λ (z : Cut). first_line z.line ≡ Some (record { line = z.line; rest = [] })) (sym found.2) (longer found.0.line found.0.rest parts.parts parts.some (others found.0 found.1))
  where
    longer : (line back : List ℕ) → y ∷ rest ≡ line ++ back → 2 ≤ length line → first_line line ≡ Some (record { line = line; rest = [] }) → first_line (x ∷ line) ≡ Some (record { line = x ∷ line; rest = [] })
    longer [] back e some alone = absurd (omega (arith, some))
    longer (z ∷ line) back e some alone =
        let at : y ≡ z = cc e in
        first_line-other x z line (subst (λ w. is_crlf x w ≡ false) at is) ∙ ap (option_map (begun_with x)) alone

line_alone : (octets : List ℕ) (cut : Cut) → first_line octets ≡ Some cut → first_line cut.line ≡ Some (record { line = cut.line; rest = [] })
unfolding first_line
line_alone [] cut h = cc
line_alone (x ∷ []) cut h = cc
line_alone (x ∷ y ∷ rest) cut h = line_by x y rest cut h (λ next found. line_alone (y ∷ rest) next found) (is_crlf x y) refl

pub line_reads : (text : List ℕ) (cut : Cut) → first_line text ≡ Some cut → Reads IsNotHere never text command.NotHere cut.rest
line_reads text cut e = record {
  word = cut.line;
  whole = (first_line-cut text cut e).parts;
  is_word = (line_alone text cut e, refl);
  only = λ more a b v is on same. inl (one more a b is.0 same, is.1);
}
  where
    one : (more a b : List ℕ) → first_line a ≡ Some (record { line = a; rest = [] }) → a ++ b ≡ cut.line ++ more → a ≡ cut.line
    one more a b alone same =
        let left = (first_line-cut a (record { line = a; rest = [] }) alone).longer b in
        let right = (first_line-cut cut.line (record { line = cut.line; rest = [] }) (line_alone text cut e)).longer more in
        let both : record { line = a; rest = b } ≡ record { line = cut.line; rest = more } = cut_same (sym left ∙ (ap first_line same ∙ right)) in
        ap (λ (z : Cut). z.line) both

no_joins : (xs ys : List ℕ) → joins xs (13 ∷ ys) ≡ false
no_joins [] ys = refl
no_joins (x ∷ []) ys = is_crlf_false x 13 (λ cr lf. omega (arith, lf))
no_joins (x ∷ z ∷ xs) ys = no_joins (z ∷ xs) ys

pub line_open : (text : List ℕ) → first_line text ≡ None → IsViable IsNotHere text
line_open text none = record {
  rest = crlf;
  value = command.NotHere;
  is_word = (first_line-apart text crlf none (no_joins text (10 ∷ [])) ∙ ap (option_map (put text)) (first_line-crlf 13 10 [] refl), refl);
}
