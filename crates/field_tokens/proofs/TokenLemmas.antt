-- The first octet of a text decides the kind of its first token.
use Rattle.std.proofs.Common.{◌≡◌, ◌≢◌, ℕ, ◌<◌, Bool, true, false, not, cond, eqb, ◌&&◌, List, [], ◌∷◌, ◌++◌, length, Option, Some, None, refl, sym, ap, ◌∙◌, subst, arith}
use Rattle.std.proofs.lemmas.Bool.{cond-false, eqb-true, and_parts, ne_eqb, not-true}
use Rattle.std.proofs.lemmas.Bool.Decides.{nat_tests}
use Rattle.std.specs.List.{list_all}
use Rattle.field_tokens.specs.declared.Style.{Style}
use Rattle.field_tokens.specs.declared.Style.TheVariants.{Mail, Mime}
use Rattle.field_tokens.specs.declared.TokenKind.{TokenKind}
use Rattle.field_tokens.specs.declared.TokenKind.TheVariants.{Atom, Quoted, Literal, Special, Gap, Comment}
use Rattle.field_tokens.specs.declared.groups.Marks.{Marks}
use Rattle.field_tokens.specs.Groups.{IsEnclosed, AreMarks}
use Rattle.field_tokens.specs.private.Levels.{BeginsNoGroup}
use Rattle.mail_wire.specs.Octets.{is_white}
use Rattle.field_tokens.specs.TokenOctets.{is_mail, is_special, is_mark, is_control, is_atom_octet}
use Rattle.field_tokens.specs.Tokens.{comment_marks, quoted_marks, literal_marks, IsToken, BeginsToken}
use Rattle.mail_wire.proofs.SpanLemmas.{span_once, Opposite}
use Rattle.field_tokens.proofs.GroupLemmas.{group_once}

-- the kind of token that an octet begins
abbrev after_literal : Style → ℕ → Option TokenKind
after_literal style b = cond (is_special style b) (Some Special) (cond (is_atom_octet style b) (Some Atom) None)

abbrev after_quoted : Style → ℕ → Option TokenKind
after_quoted style b = cond (is_mail style && eqb b 91) (Some Literal) (after_literal style b)

abbrev after_comment : Style → ℕ → Option TokenKind
after_comment style b = cond (eqb b 34) (Some Quoted) (after_quoted style b)

abbrev after_white : Style → ℕ → Option TokenKind
after_white style b = cond (eqb b 40) (Some Comment) (after_comment style b)

abbrev pub class : Style → ℕ → Option TokenKind
class style b = cond (is_white b) (Some Gap) (after_white style b)

-- an octet that may begin a token of this kind
abbrev pub Begins : Style → TokenKind → ℕ → Type 0
Begins style Gap b = is_white b ≡ true
Begins style Atom b = is_atom_octet style b ≡ true
Begins style Special b = is_special style b ≡ true
Begins style Comment b = b ≡ 40
Begins style Quoted b = b ≡ 34
Begins style Literal b = (style ≡ Mail) × (b ≡ 91)

-- a special is no white octet and begins no group
special_is : (style : Style) (b : ℕ) → is_special style b ≡ true → (is_white b ≡ false) × (eqb b 40 ≡ false) × (eqb b 34 ≡ false) × ((is_mail style && eqb b 91) ≡ false)
special_is Mail b h = (grind (arith, nat_tests), grind (arith, nat_tests), grind (arith, nat_tests), grind (arith, nat_tests))
special_is Mime b h = (grind (arith, nat_tests), grind (arith, nat_tests), grind (arith, nat_tests), refl)

mark_is : (style : Style) (b : ℕ) → is_mark style b ≡ false → (eqb b 40 ≡ false) × (eqb b 34 ≡ false) × ((is_mail style && eqb b 91) ≡ false)
mark_is Mail b h = (grind (arith, nat_tests), grind (arith, nat_tests), grind (arith, nat_tests))
mark_is Mime b h = (grind (arith, nat_tests), grind (arith, nat_tests), refl)

class_of : (style : Style) (kind : TokenKind) (b : ℕ) → Begins style kind b → class style b ≡ Some kind
class_of style Gap b h = rw h refl
class_of style Comment b h = rw h refl
class_of style Quoted b h = rw h refl
class_of style Literal b h = rw (h.0, h.1) refl
class_of style Special b h = let s = special_is style b h in rw (s.0, s.1, s.2, s.3, h) refl
class_of style Atom b h =
    let p = and_parts (not (is_white b)) (not (is_special style b) && (not (is_mark style b) && not (is_control b))) h in
    let q = and_parts (not (is_special style b)) (not (is_mark style b) && not (is_control b)) p.1 in
    let r = and_parts (not (is_mark style b)) (not (is_control b)) q.1 in
    let white = not-true (is_white b) p.0 in
    let special = not-true (is_special style b) q.0 in
    let m = mark_is style b (not-true (is_mark style b) r.0) in
    rw (white, m.0, m.1, m.2, special, q.1) refl

-- the first octet of a group
group_first : (m : Marks) (b : ℕ) (after octets rest : List ℕ) → b ∷ after ≡ octets ++ rest → IsEnclosed m octets → b ≡ m.open_mark
group_first m b after octets rest e g = let h = rw (g.spelled) at e in cc h

span_first : (p : ℕ → Bool) (b : ℕ) (after octets rest : List ℕ) → b ∷ after ≡ octets ++ rest → 0 < length octets → list_all p octets ≡ true → p b ≡ true
span_first p b after [] rest e some all = absurd (omega arith)
span_first p b after (x ∷ octets) rest e some all = let same : b ≡ x = cc e in ap p same ∙ (and_parts (p x) (list_all p octets) all).0

begins_of : (style : Style) (kind : TokenKind) (b : ℕ) (after octets rest : List ℕ) → b ∷ after ≡ octets ++ rest → IsToken style kind octets rest → Begins style kind b
begins_of style Gap b after octets rest e is = span_first is_white b after octets rest e is.0 is.1.passes
begins_of style Atom b after octets rest e is = span_first (is_atom_octet style) b after octets rest e is.0 is.1.passes
begins_of style Special b after octets rest e is = let h = rw (is.1) at e in let same : b ≡ is.0 = cc h in ap (is_special style) same ∙ is.2
begins_of style Comment b after octets rest e is = group_first comment_marks b after octets rest e is
begins_of style Quoted b after octets rest e is = group_first quoted_marks b after octets rest e is
begins_of style Literal b after octets rest e is = (is.0, group_first literal_marks b after octets rest e is.1)

-- the kind of the first token, by the first octet
pub kind_is : (style : Style) (kind : TokenKind) (b : ℕ) (text after rest : List ℕ) → text ≡ b ∷ after → BeginsToken style kind text rest → class style b ≡ Some kind
kind_is style kind b text after rest e begins = class_of style kind b (begins_of style kind b after begins.octets rest (sym e ∙ begins.whole) begins.is_token)

pub comment_proper : AreMarks comment_marks
comment_proper = record { open_is = λ e. omega (arith, e); close_is = λ e. omega (arith, e); some = omega arith; differ = λ e. absurd (omega (arith, e)) }

pub quoted_proper : AreMarks quoted_marks
quoted_proper = record { open_is = λ e. omega (arith, e); close_is = λ e. omega (arith, e); some = omega arith; differ = λ e. refl }

pub literal_proper : AreMarks literal_marks
literal_proper = record { open_is = λ e. omega (arith, e); close_is = λ e. omega (arith, e); some = omega arith; differ = λ e. refl }

-- where a kind of group is wanted and none stands there, no token does
pub no_token : (style : Style) (wanted : TokenKind) (b : ℕ) (text after : List ℕ) → text ≡ b ∷ after → class style b ≡ Some wanted → ((rest : List ℕ) → BeginsToken style wanted text rest → ⊥)
    → (kind : TokenKind) (rest : List ℕ) → BeginsToken style kind text rest → ⊥
no_token style wanted b text after e is none kind rest begins =
    let other = kind_is style kind b text after rest e begins in
    let both = sym other ∙ is in
    let same : kind ≡ wanted = cc both in
    none rest (subst (λ k. BeginsToken style k text rest) same begins)

pub no_class : (style : Style) (b : ℕ) (text after : List ℕ) → text ≡ b ∷ after → class style b ≡ None → (kind : TokenKind) (rest : List ℕ) → BeginsToken style kind text rest → ⊥
no_class style b text after e is kind rest begins =
    let other = kind_is style kind b text after rest e begins in
    let both = sym other ∙ is in
    cc both

pub literal_octet : (style : Style) (b : ℕ) → (is_mail style && eqb b 91) ≡ true → (style ≡ Mail) × (b ≡ 91)
literal_octet Mail b h = (refl, eqb-true b 91 h)
literal_octet Mime b h = cc h

pub class_none : (style : Style) (b : ℕ) → is_white b ≡ false → b ≢ 40 → b ≢ 34 → (is_mail style && eqb b 91) ≡ false → is_special style b ≡ false → is_atom_octet style b ≡ false → class style b ≡ None
class_none style b w c q l s a =
    cond-false (is_white b) (Some Gap) (after_white style b) w ∙ cond-false (eqb b 40) (Some Comment) (after_comment style b) (ne_eqb b 40 c)
    ∙ cond-false (eqb b 34) (Some Quoted) (after_quoted style b) (ne_eqb b 34 q) ∙ cond-false (is_mail style && eqb b 91) (Some Literal) (after_literal style b) l
    ∙ cond-false (is_special style b) (Some Special) (cond (is_atom_octet style b) (Some Atom) None) s ∙ cond-false (is_atom_octet style b) (Some Atom) None a

-- a group that is found is a token
pub comment_none : (style : Style) (b : ℕ) (text after : List ℕ) → text ≡ b ∷ after → b ≡ 40 → BeginsNoGroup comment_marks text → (kind : TokenKind) (rest : List ℕ) → BeginsToken style kind text rest → ⊥
comment_none style b text after e is none = no_token style Comment b text after e (class_of style Comment b is) (λ rest t. none rest (record { group = t.octets; is_group = t.is_token; whole = t.whole }))

pub quoted_none : (style : Style) (b : ℕ) (text after : List ℕ) → text ≡ b ∷ after → b ≡ 34 → BeginsNoGroup quoted_marks text → (kind : TokenKind) (rest : List ℕ) → BeginsToken style kind text rest → ⊥
quoted_none style b text after e is none = no_token style Quoted b text after e (class_of style Quoted b is) (λ rest t. none rest (record { group = t.octets; is_group = t.is_token; whole = t.whole }))

pub literal_none : (style : Style) (b : ℕ) (text after : List ℕ) → text ≡ b ∷ after → (style ≡ Mail) × (b ≡ 91) → BeginsNoGroup literal_marks text → (kind : TokenKind) (rest : List ℕ) → BeginsToken style kind text rest → ⊥
literal_none style b text after e is none = no_token style Literal b text after e (class_of style Literal b is) (λ rest t. none rest (record { group = t.octets; is_group = t.is_token.1; whole = t.whole }))

pub special_found : (style : Style) (b : ℕ) (text after : List ℕ) → text ≡ b ∷ after → is_special style b ≡ true → BeginsToken style Special text after
special_found style b text after e is = record { octets = b ∷ []; whole = e; is_token = (b, refl, is) }

-- what follows the first token is shorter, and one list
pub token_once : (style : Style) (j k : TokenKind) (b : ℕ) (text after x y : List ℕ) → text ≡ b ∷ after → BeginsToken style j text x → BeginsToken style k text y → (j ≡ k) × (x ≡ y)
token_once style j k b text after x y e p q =
    let both = sym (kind_is style j b text after x e p) ∙ kind_is style k b text after y e q in
    let same : j ≡ k = cc both in
    (same, one style k text x y (subst (λ i. BeginsToken style i text x) same p) q)
  where
    one : (style : Style) (k : TokenKind) (text x y : List ℕ) → BeginsToken style k text x → BeginsToken style k text y → x ≡ y
    one style Gap text x y p q = (span_once is_white p.octets q.octets x y p.is_token.1.passes q.is_token.1.passes p.is_token.1.stops q.is_token.1.stops (sym p.whole ∙ q.whole)).1
    one style Atom text x y p q = (span_once (is_atom_octet style) p.octets q.octets x y p.is_token.1.passes q.is_token.1.passes p.is_token.1.stops q.is_token.1.stops (sym p.whole ∙ q.whole)).1
    one style Special text x y p q =
        let whole : p.is_token.0 ∷ x ≡ q.is_token.0 ∷ y = ap (λ t. t ++ x) (sym p.is_token.1) ∙ sym p.whole ∙ q.whole ∙ ap (λ t. t ++ y) q.is_token.1 in
        cc whole
    one style Comment text x y p q = group_once comment_marks text x y comment_proper (record { group = p.octets; is_group = p.is_token; whole = p.whole }) (record { group = q.octets; is_group = q.is_token; whole = q.whole })
    one style Quoted text x y p q = group_once quoted_marks text x y quoted_proper (record { group = p.octets; is_group = p.is_token; whole = p.whole }) (record { group = q.octets; is_group = q.is_token; whole = q.whole })
    one style Literal text x y p q = group_once literal_marks text x y literal_proper (record { group = p.octets; is_group = p.is_token.1; whole = p.whole }) (record { group = q.octets; is_group = q.is_token.1; whole = q.whole })

-- an octet passes a test exactly where it fails the other one
pub not_opposite : (p : ℕ → Bool) → Opposite p (λ x. not (p x))
not_opposite p x = not_not (p x)
  where
    not_not : (b : Bool) → b ≡ not (not b)
    not_not true = refl
    not_not false = refl
