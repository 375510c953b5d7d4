-- Where lines end: octets that end a line have one parting into lines and literals, and octets after them have the same one and more.
use Rattle.std.proofs.Common.{◌≡◌, ℕ, ◌==◌, Bool, true, not, List, [], ◌∷◌, ◌++◌, length, Some, refl, sym, ap, ◌∙◌, subst, append_assoc, append-nil, arith}
use Rattle.std.proofs.lemmas.Bool.{and_parts, both_ways}
use Rattle.std.proofs.lemmas.Bool.Decides.{nat_tests}
use Rattle.std.proofs.lemmas.Grind.{common_steps}
use Rattle.std.proofs.lemmas.List.{append_cancel_left, append_cancel_right}
use Rattle.std.proofs.lemmas.List.Elements.{All-head, All-tail}
use Rattle.std.specs.List.{All, flat_map, list_all}
use Rattle.mail_wire.specs.Lines.{Cut, first_line}
use Rattle.mail_wire.proofs.AllLemmas.{pass-append, pass-parts, pass-weaker}
use Rattle.mail_wire.proofs.FirstLineLemmas.{first_line-cut}
use Rattle.imap_words.specs.Tokens.{IsNumber32, is_digit, decimal_from}
use Rattle.imap_words.specs.Strings.{IsHeader}
use Rattle.imap_words.proofs.TokenSteps.{Compared, Same, Longer, Shorter, compared}
use Rattle.imap_grammar.specs.Events.{IsWholeLine, LiteralLine, IsLiteralLine, literal_line, EndsCommandLine, Announces}

-- ---- the first line

abbrev pub cut_at : (line rest : List ℕ) → Cut
cut_at line rest = record { line = line; rest = rest }

-- a line is the first one, whatever follows it
pub line_first : (line more : List ℕ) → IsWholeLine line → first_line (line ++ more) ≡ Some (cut_at line more)
line_first line more is = (first_line-cut line (cut_at line []) is).longer more

pub cut_same : {a b : Cut} → Some a ≡ Some b → a ≡ b
cut_same h = cc h

pub same_line : (line more other rest : List ℕ) → IsWholeLine line → IsWholeLine other → line ++ more ≡ other ++ rest → (line ≡ other) × (more ≡ rest)
same_line line more other rest is his e =
    let both : Some (cut_at line more) ≡ Some (cut_at other rest) = sym (line_first line more is) ∙ (ap (λ z. first_line z) e ∙ line_first other rest his) in
    (ap (λ c. c.line) (cut_same both), ap (λ c. c.rest) (cut_same both))

no_line : (cut : Cut) → first_line [] ≡ Some cut → ⊥
unfolding first_line
no_line cut e = cc e

pub line_some : (line : List ℕ) → IsWholeLine line → line ≡ [] → ⊥
line_some line is e = no_line (cut_at line []) (sym (ap (λ z. first_line z) e) ∙ is)

-- ---- a literal's header

pub record HeaderForm (header : List ℕ) (size : ℕ) : Type 0 where
  pub digits : List ℕ
  pub is_number : IsNumber32 digits size
  pub spelled : header ≡ 123 ∷ (digits ++ 125 ∷ 13 ∷ 10 ∷ [])

spelled_out : (header f g d e h i j k m n : List ℕ) → header ≡ f ++ g → f ≡ 123 ∷ [] → g ≡ d ++ e → e ≡ h ++ i → h ≡ 125 ∷ [] → i ≡ j ++ k → j ≡ m ++ n → m ≡ 13 ∷ [] → n ≡ 10 ∷ [] → k ≡ [] → header ≡ 123 ∷ (d ++ 125 ∷ 13 ∷ 10 ∷ [])
spelled_out header f g d e h i j k m n a0 a1 a2 a3 a4 a5 a6 a7 a8 a9 = rw (a0, a1, a2, a3, a4, a5, a6, a7, a8, a9) refl

pub crlf_spelled : (octets f g : List ℕ) → octets ≡ f ++ g → f ≡ 13 ∷ [] → g ≡ 10 ∷ [] → octets ≡ 13 ∷ 10 ∷ []
crlf_spelled octets f g e a b = rw (e, a, b) refl

pub header_form : (header : List ℕ) (size : ℕ) → IsHeader header size → HeaderForm header size
header_form header size h =
    let s = h.second in
    let b = s.second in
    let c = b.second in
    let l = c.first in
    record {
      digits = s.front;
      is_number = subst (λ z. IsNumber32 s.front z) (sym c.second.1) s.first;
      spelled = spelled_out header h.front h.back s.front s.back b.front b.back c.front c.back l.front l.back h.whole h.first.0 s.whole b.whole b.first.0 c.whole l.whole l.first.0 l.second.0 c.second.0;
    }

abbrev pub no_brace : ℕ → Bool
no_brace x = not (x == 123)

digit_no_brace : (x : ℕ) → is_digit x ≡ true → no_brace x ≡ true
unfolding is_digit
digit_no_brace x e = grind (arith, common_steps, nat_tests, e)

tail_no_brace : (digits : List ℕ) → list_all is_digit digits ≡ true → list_all no_brace (digits ++ 125 ∷ 13 ∷ 10 ∷ []) ≡ true
tail_no_brace digits all = pass-append no_brace digits (125 ∷ 13 ∷ 10 ∷ []) (pass-weaker is_digit no_brace digit_no_brace digits all) refl

brace_within : (c more tail : List ℕ) → tail ≡ c ++ 123 ∷ more → list_all no_brace tail ≡ true → ⊥
brace_within c more tail e all =
    let parts = pass-parts no_brace c (123 ∷ more) (subst (λ z. list_all no_brace z ≡ true) e all) in
    both_ways (no_brace 123) refl (and_parts (no_brace 123) (list_all no_brace more) parts.1).0

tail_of : {x y : ℕ} {xs ys : List ℕ} → x ∷ xs ≡ y ∷ ys → xs ≡ ys
tail_of e = cc e

-- no header stands within another
no_header_within : (y : ℕ) (c header other : List ℕ) (n m : ℕ) → IsHeader header n → IsHeader other m → other ≡ y ∷ (c ++ header) → ⊥
no_header_within y c header other n m is his e =
    let f = header_form header n is in
    let g = header_form other m his in
    let tails : g.digits ++ 125 ∷ 13 ∷ 10 ∷ [] ≡ c ++ header = tail_of (sym g.spelled ∙ e) in
    brace_within c _ _ (tails ∙ ap (λ z. c ++ z) f.spelled) (tail_no_brace g.digits g.is_number.digits)

header_once : (header other : List ℕ) (n m : ℕ) → IsHeader header n → IsHeader other m → header ≡ other → n ≡ m
header_once header other n m is his e =
    let f = header_form header n is in
    let g = header_form other m his in
    let tails : f.digits ++ 125 ∷ 13 ∷ 10 ∷ [] ≡ g.digits ++ 125 ∷ 13 ∷ 10 ∷ [] = tail_of (sym f.spelled ∙ (e ∙ g.spelled)) in
    f.is_number.value_is ∙ (ap (λ z. decimal_from 0 z) (append_cancel_right f.digits g.digits _ tails) ∙ sym g.is_number.value_is)

-- octets that end with a header end with one of this size alone
pub same_size : (front header before other : List ℕ) (n m : ℕ) → IsHeader header n → IsHeader other m → front ++ header ≡ before ++ other → n ≡ m
same_size front header before other n m is his e = by (compared front before header other e)
  where
    by : Compared front before header other → n ≡ m
    by (Same s) = header_once header other n m is his (append_cancel_left before _ _ (ap (λ z. z ++ header) (sym s) ∙ e))
    by (Longer y c s t) = absurd (no_header_within y c header other n m is his t)
    by (Shorter y c s t) = absurd (no_header_within y c other header m n his is t)

-- ---- one parting

-- what the octets after a line are
pub data Walk (line last more : List ℕ) : Type 0 where
  Here : last ≡ line → more ≡ [] → Walk line last more
  Beyond : (l : LiteralLine) (others : List ℕ) (cut : Cut) → IsLiteralLine l → l.line ≡ line → more ≡ l.literal ++ others → first_line others ≡ Some cut → Walk line last more

-- what lines with literals and a line after them begin with
begins_line : (before : List LiteralLine) (line : List ℕ) → All IsLiteralLine before → IsWholeLine line → (cut : Cut) × (first_line (flat_map literal_line before ++ line) ≡ Some cut)
begins_line [] line each is = (cut_at line [], is)
begins_line (l ∷ before) line each is =
    let e : flat_map literal_line (l ∷ before) ++ line ≡ l.line ++ (l.literal ++ (flat_map literal_line before ++ line))
    = append_assoc (l.line ++ l.literal) (flat_map literal_line before) line ∙ append_assoc l.line l.literal (flat_map literal_line before ++ line) in
    (cut_at l.line (l.literal ++ (flat_map literal_line before ++ line)), ap (λ z. first_line z) e ∙ line_first l.line _ (All-head IsLiteralLine l before each).is_line)

pub ends_begins : (octets : List ℕ) → EndsCommandLine octets → (cut : Cut) × (first_line octets ≡ Some cut)
ends_begins octets is =
    let found = begins_line is.before is.line is.each is.is_line in
    (found.0, ap (λ z. first_line z) is.whole ∙ found.1)

pub ends_some : (octets : List ℕ) → EndsCommandLine octets → octets ≡ [] → ⊥
ends_some octets is e = let found = ends_begins octets is in no_line found.0 (sym (ap (λ z. first_line z) e) ∙ found.1)

pub right_empty : (a b : List ℕ) → a ++ b ≡ [] → b ≡ []
right_empty [] b e = e
right_empty (x ∷ a) b e = cc e

literal_same : (l m : LiteralLine) → IsLiteralLine l → IsLiteralLine m → l.line ≡ m.line → length l.literal ≡ length m.literal
literal_same l m is his e = same_size is.front is.header his.front his.header _ _ is.is_header his.is_header (sym is.whole ∙ (e ∙ his.whole))

pub fronts_same : (a b x y : List ℕ) → length a ≡ length b → a ++ x ≡ b ++ y → x ≡ y
fronts_same [] [] x y len e = e
fronts_same [] (z ∷ b) x y len e = absurd (omega (arith, len))
fronts_same (z ∷ a) [] x y len e = absurd (omega (arith, len))
fronts_same (z ∷ a) (w ∷ b) x y len e = fronts_same a b x y (omega (arith, len)) (tail_of e)

pub walk : (before others : List LiteralLine) (line last more : List ℕ) → All IsLiteralLine before → All IsLiteralLine others → IsWholeLine line → IsWholeLine last
    → flat_map literal_line others ++ last ≡ (flat_map literal_line before ++ line) ++ more → Walk line last more
walk [] [] line last more all alls is his e =
    let same = same_line last [] line more his is (append-nil last ∙ e) in
    Here same.0 (sym same.1)
walk [] (m ∷ others) line last more all alls is his e =
    let his_m = All-head IsLiteralLine m others alls in
    let tail = begins_line others last (All-tail IsLiteralLine m others alls) his in
    let same = same_line m.line (m.literal ++ (flat_map literal_line others ++ last)) line more his_m.is_line is (sym (apart m others last) ∙ e) in
    Beyond m (flat_map literal_line others ++ last) tail.0 his_m same.0 (sym same.1) tail.1
  where
    apart : (m : LiteralLine) (others : List LiteralLine) (last : List ℕ) → flat_map literal_line (m ∷ others) ++ last ≡ m.line ++ (m.literal ++ (flat_map literal_line others ++ last))
    apart m others last = append_assoc (m.line ++ m.literal) (flat_map literal_line others) last ∙ append_assoc m.line m.literal (flat_map literal_line others ++ last)
walk (l ∷ before) [] line last more all alls is his e =
    let his_l = All-head IsLiteralLine l before all in
    let same = same_line last [] l.line (l.literal ++ ((flat_map literal_line before ++ line) ++ more)) his his_l.is_line (append-nil last ∙ (e ∙ apart l before line more)) in
    absurd (line_some line is (empty_line before line more (right_empty l.literal _ (sym same.1))))
  where
    apart : (l : LiteralLine) (before : List LiteralLine) (line more : List ℕ) → (flat_map literal_line (l ∷ before) ++ line) ++ more ≡ l.line ++ (l.literal ++ ((flat_map literal_line before ++ line) ++ more))
    apart l before line more =
        ap (λ z. z ++ more) (append_assoc (l.line ++ l.literal) (flat_map literal_line before) line ∙ append_assoc l.line l.literal (flat_map literal_line before ++ line))
        ∙ (append_assoc l.line (l.literal ++ (flat_map literal_line before ++ line)) more ∙ ap (λ z. l.line ++ z) (append_assoc l.literal (flat_map literal_line before ++ line) more))

    first_empty : (a b : List ℕ) → a ++ b ≡ [] → a ≡ []
    first_empty [] b e = refl
    first_empty (x ∷ a) b e = cc e

    empty_line : (before : List LiteralLine) (line more : List ℕ) → (flat_map literal_line before ++ line) ++ more ≡ [] → line ≡ []
    empty_line before line more e = right_empty (flat_map literal_line before) line (first_empty (flat_map literal_line before ++ line) more e)
walk (l ∷ before) (m ∷ others) line last more all alls is his e =
    let his_l = All-head IsLiteralLine l before all in
    let his_m = All-head IsLiteralLine m others alls in
    let same = same_line m.line (m.literal ++ (flat_map literal_line others ++ last)) l.line (l.literal ++ ((flat_map literal_line before ++ line) ++ more)) his_m.is_line his_l.is_line
    (sym (apart_m m others last) ∙ (e ∙ apart_l l before line more)) in
    walk before others line last more (All-tail IsLiteralLine l before all) (All-tail IsLiteralLine m others alls) is his
    (fronts_same m.literal l.literal _ _ (literal_same m l his_m his_l same.0) same.1)
  where
    apart_m : (m : LiteralLine) (others : List LiteralLine) (last : List ℕ) → flat_map literal_line (m ∷ others) ++ last ≡ m.line ++ (m.literal ++ (flat_map literal_line others ++ last))
    apart_m m others last = append_assoc (m.line ++ m.literal) (flat_map literal_line others) last ∙ append_assoc m.line m.literal (flat_map literal_line others ++ last)

    apart_l : (l : LiteralLine) (before : List LiteralLine) (line more : List ℕ) → (flat_map literal_line (l ∷ before) ++ line) ++ more ≡ l.line ++ (l.literal ++ ((flat_map literal_line before ++ line) ++ more))
    apart_l l before line more =
        ap (λ z. z ++ more) (append_assoc (l.line ++ l.literal) (flat_map literal_line before) line ∙ append_assoc l.line l.literal (flat_map literal_line before ++ line))
        ∙ (append_assoc l.line (l.literal ++ (flat_map literal_line before ++ line)) more ∙ ap (λ z. l.line ++ z) (append_assoc l.literal (flat_map literal_line before ++ line) more))

-- ---- after octets that announce a literal

-- the literal, and a line at least after it
pub record LineAfter (size : ℕ) (more : List ℕ) : Type 0 where
  pub literal : List ℕ
  pub others : List ℕ
  pub cut : Cut
  pub whole : more ≡ literal ++ others
  pub sized : length literal ≡ size
  pub first : first_line others ≡ Some cut

pub ends_after : (octets more : List ℕ) (size : ℕ) → Announces octets size → EndsCommandLine (octets ++ more) → (more ≡ [] → ⊥) → LineAfter size more
ends_after octets more size a is some = by (walk a.before is.before a.line is.line more a.each is.each a.is_line is.is_line (sym is.whole ∙ ap (λ z. z ++ more) a.whole))
  where
    by : Walk a.line is.line more → LineAfter size more
    by (Here same none) = absurd (some none)
    by (Beyond l others cut is_literal same whole first) = record {
      literal = l.literal;
      others = others;
      cut = cut;
      whole = whole;
      sized = same_size is_literal.front is_literal.header a.front a.header _ _ is_literal.is_header a.is_header (sym is_literal.whole ∙ (same ∙ a.ends));
      first = first;
    }

-- A front that ends a line, and after which more octets end one, announces a literal.
pub front_announces : (octets more : List ℕ) → EndsCommandLine octets → EndsCommandLine (octets ++ more) → (more ≡ [] → ⊥) → (size : ℕ) × Announces octets size
front_announces octets more was is some = by (walk was.before is.before was.line is.line more was.each is.each was.is_line is.is_line (sym is.whole ∙ ap (λ z. z ++ more) was.whole))
  where
    by : Walk was.line is.line more → (size : ℕ) × Announces octets size
    by (Here same none) = absurd (some none)
    by (Beyond l others cut is_literal same whole first) = (
      length l.literal,
      record {
        before = was.before;
        line = was.line;
        front = is_literal.front;
        header = is_literal.header;
        whole = was.whole;
        each = was.each;
        is_line = was.is_line;
        ends = sym same ∙ is_literal.whole;
        is_header = is_literal.is_header;
      },
    )

pub announces_once : (octets : List ℕ) (n m : ℕ) → Announces octets n → Announces octets m → n ≡ m
announces_once octets n m a b = by (walk a.before b.before a.line b.line [] a.each b.each a.is_line b.is_line (sym b.whole ∙ (a.whole ∙ sym (append-nil _))))
  where
    by : Walk a.line b.line [] → n ≡ m
    by (Here same none) = same_size a.front a.header b.front b.header n m a.is_header b.is_header (sym a.ends ∙ (sym same ∙ b.ends))
    by (Beyond l others cut is_literal same whole first) = absurd (no_line cut (sym (ap (λ z. first_line z) (right_empty l.literal others (sym whole))) ∙ first))

pub announces_ends : (octets : List ℕ) (size : ℕ) → Announces octets size → EndsCommandLine octets
announces_ends octets size a = record { before = a.before; line = a.line; whole = a.whole; each = a.each; is_line = a.is_line }
