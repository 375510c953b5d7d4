-- Whether sections are pieces is decided.
use Rattle.std.proofs.Common.{◌≡◌, ◌≢◌, ℕ, zero, suc, ◌+◌, ◌*◌, ◌<◌, ◌≤◌, Bool, true, false, ◌&&◌, ◌||◌, ◌⊎◌, inl, inr, List, [], ◌∷◌, ◌++◌, length, filter, Option, Some, None, refl, sym, ap, ◌∙◌, subst, arith}
use Rattle.std.proofs.lemmas.Bool.{cases_Bool, cases_eq, cases_lt, and_parts, and_from, both_ways, true≢false}
use Rattle.std.proofs.lemmas.List.{append-nil, length-append}
use Rattle.std.specs.Char.{digit_value}
use Rattle.std.specs.List.{list_all}
use Rattle.std.specs.Str.{str_to_ascii_lowercase}
use Rattle.mail_wire.specs.Octets.{is_ascii}
use Rattle.encoded_words.specs.Words.{is_token_octet}
use Rattle.field_tokens.specs.declared.Token.{Token}
use Rattle.field_tokens.specs.Tokens.{octets_at}
use Rattle.field_tokens.specs.Squeezed.{run_octets, is_atom_kind}
use Rattle.param_grammar.specs.declared.ParamKind.{ParamKind}
use Rattle.param_grammar.specs.declared.Piece.{Piece}
use Rattle.param_grammar.specs.Escapes.{EscapedItem, Plain, Escape, IsEscapedItem, item_spelling, IsEscaped, BeginsEscaped}
use Rattle.param_grammar.specs.Extended.{IsExtended}
use Rattle.mail_wire.specs.Numbers.{is_digit}
use Rattle.encoded_words.proofs.Deciding.{cut_at}
use Rattle.param_grammar.specs.Names.{leads_with_zero, IsNumber, NameParts, IsBase, HasNameParts, HasSuffix}
use Rattle.param_grammar.specs.Bodies.{is_mark_at, are_quoted, are_plain, is_parameter, is_main, is_filled, solid, sections_of, value_content, is_first, SaysOctets, IsParameterOf, IsPieceOf, IsPiece, ArePieces, IsBody}
use Rattle.param_grammar.proofs.EscapeLemmas.{ReadsTo, ReadsTo-none, ReadsTo-push, IsEscaped-read, not-IsEscaped, BeginsEscaped-plain, BeginsEscaped-escape}
use Rattle.param_grammar.proofs.ExtendedLemmas.{not-IsExtended-first, not-IsExtended-second, not-IsExtended-charset}
use Rattle.param_grammar.proofs.NameLemmas.{not-HasSuffix, HasNameParts-once, HasNameParts-made, not-HasNameParts-base, not-HasNameParts-following}
use Rattle.param_grammar.proofs.ReadLemmas.{not-SaysOctets-text}
use Rattle.param_grammar.proofs.BodyLemmas.{piece_moved}
use Rattle.param_grammar.proofs.PlaceLemmas.{not-IsPiece-sides}

-- some value is right, or none
abbrev pub Found : {V : Type 0} → (V → Type 0) → Type 0
Found {V = V} P = ((v : V) × P v) ⊎ ((v : V) → ¬ P v)

-- two values are right, or none
abbrev pub FoundTwo : {V W : Type 0} → (V → W → Type 0) → Type 0
FoundTwo {V = V} {W = W} P = ((v : V) × (w : W) × P v w) ⊎ ((v : V) (w : W) → ¬ P v w)

-- ---- escapes

stuck : (x : ℕ) (after : List ℕ) → x ≡ 37 → ((h l : ℕ) (rest : List ℕ) → after ≡ h ∷ l ∷ rest → digit_value h < 16 → digit_value l < 16 → ⊥) → (octet : ℕ) (rest : List ℕ)
    → BeginsEscaped (x ∷ after) octet rest → ⊥
stuck x after e none octet rest b = by b.item b.is_item b.spelled
  where
    by : (i : EscapedItem) → IsEscapedItem i → x ∷ after ≡ item_spelling i ++ rest → ⊥
    by (Plain c) is s = let same : x ≡ c = cc s in is (sym same ∙ e)
    by (Escape h l) is s = let same : after ≡ h ∷ l ∷ rest = cc s in none h l rest same is.0 is.1

first_pair : (x : ℕ) (after : List ℕ) → x ≡ 37 → FoundTwo (BeginsEscaped (x ∷ after))
first_pair x [] e = inr (stuck x [] e (λ h l rest s p q. omega (arith, ap length s)))
first_pair x (y ∷ []) e = inr (stuck x (y ∷ []) e (λ h l rest s p q. omega (arith, ap length s)))
first_pair x (y ∷ z ∷ rest) e = elim (cases_lt (digit_value y) 16) [
  | inr high ↦ inr (stuck x (y ∷ z ∷ rest) e (λ h l more s p q. let same : y ≡ h = cc s in omega (arith, high, p, ap digit_value same)))
  | inl high ↦ elim (cases_lt (digit_value z) 16) [
    | inr low ↦ inr (stuck x (y ∷ z ∷ rest) e (λ h l more s p q. let same : z ≡ l = cc s in omega (arith, low, q, ap digit_value same)))
    | inl low ↦ inl (16 * digit_value y + digit_value z, rest, BeginsEscaped-escape (x ∷ y ∷ z ∷ rest) (y ∷ z ∷ rest) rest x y z (digit_value y) (digit_value z) refl e refl high refl low refl)
  ]
]

first_escaped : (x : ℕ) (after : List ℕ) → FoundTwo (BeginsEscaped (x ∷ after))
first_escaped x after = elim (cases_eq x 37) [
  | inl e ↦ first_pair x after e
  | inr other ↦ inl (x, after, BeginsEscaped-plain (x ∷ after) x after refl other)
]

begins_shorter : (text : List ℕ) (octet : ℕ) (rest : List ℕ) → BeginsEscaped text octet rest → length rest < length text
begins_shorter text octet rest b = by b.item b.spelled
  where
    by : (i : EscapedItem) → text ≡ item_spelling i ++ rest → length rest < length text
    by (Plain c) s = omega (arith, ap length s)
    by (Escape h l) s = omega (arith, ap length s)

escaped_by : (fuel : ℕ) (text done rest : List ℕ) → ReadsTo text done rest → length rest ≤ fuel → Found (IsEscaped text)
escaped_by fuel text done [] reads enough = inl (done, IsEscaped-read text done [] reads refl)
escaped_by zero text done (x ∷ after) reads enough = absurd (omega (arith, enough))
escaped_by (suc fuel) text done (x ∷ after) reads enough = elim (first_escaped x after) [
  | inr none ↦ inr (not-IsEscaped text done (x ∷ after) reads (omega arith) none)
  | inl b ↦ escaped_by fuel text (done ++ b.0 ∷ []) b.1 (ReadsTo-push text done (x ∷ after) b.1 (done ++ b.0 ∷ []) b.0 reads b.2 refl)
      (omega (arith, enough, begins_shorter (x ∷ after) b.0 b.1 b.2))
]

decide_escaped : (text : List ℕ) → Found (IsEscaped text)
decide_escaped text = escaped_by (length text) text [] text (ReadsTo-none text) (omega arith)

-- ---- values

decide_extended : (value : List ℕ) → FoundTwo (IsExtended value)
decide_extended value = elim (cut_at 39 value) [
  | inr l ↦ inr (not-IsExtended-first value l)
  | inl a ↦ elim (cut_at 39 a.1) [
    | inr l ↦ inr (not-IsExtended-second value a.0 a.1 a.2.whole a.2.first l)
    | inl b ↦ elim (cases_Bool (list_all is_token_octet a.0)) [
      | inr other ↦ inr (not-IsExtended-charset value a.0 a.1 a.2.whole a.2.first other)
      | inl name ↦ inl (a.0, b.1, record { language = b.0; spelled = a.2.whole ∙ ap (λ r. a.0 ++ 39 ∷ r) b.2.whole; charset_first = a.2.first; language_first = b.2.first; charset_is = name })
    ]
  ]
]

decide_says : (extended first : Bool) (content : List ℕ) → FoundTwo (SaysOctets extended first content)
decide_says false first content = inl ([], content, (refl, refl))
decide_says true false content = elim (decide_escaped content) [
  | inl o ↦ inl ([], o.0, (refl, o.1))
  | inr none ↦ inr (λ charset octets says. none octets says.1)
]
decide_says true true content = elim (decide_extended content) [
  | inr none ↦ inr (λ charset octets says. none charset says.0 says.1)
  | inl e ↦ elim (decide_escaped e.1) [
    | inl o ↦ inl (e.0, o.0, (e.1, e.2, o.1))
    | inr none ↦ inr (not-SaysOctets-text content e.0 e.1 e.2 none)
  ]
]

-- ---- names

decide_base : (octets : List ℕ) → IsBase octets ⊎ ¬ IsBase octets
decide_base octets = elim (cases_lt 0 (length octets)) [
  | inr none ↦ inr (λ is. let some = is.some in omega (arith, none, some))
  | inl some ↦ elim (cases_lt 60 (length octets)) [
    | inl long ↦ inr (λ is. let most = is.most in omega (arith, long, most))
    | inr most ↦ elim (cases_Bool (list_all is_ascii octets)) [
      | inr other ↦ inr (λ is. both_ways (list_all is_ascii octets) other is.ascii)
      | inl ascii ↦ inl (record { some = some; most = most; ascii = ascii })
    ]
  ]
]

decide_number : (digits : List ℕ) → IsNumber digits ⊎ ¬ IsNumber digits
decide_number digits = elim (cases_lt 0 (length digits)) [
  | inr none ↦ inr (λ is. let some = is.some in omega (arith, none, some))
  | inl some ↦ elim (cases_Bool (list_all is_digit digits)) [
    | inr other ↦ inr (λ is. both_ways (list_all is_digit digits) other is.decimal)
    | inl decimal ↦ elim (cases_Bool (leads_with_zero digits)) [
      | inl leads ↦ inr (λ is. both_ways (leads_with_zero digits) is.shortest leads)
      | inr shortest ↦ inl (record { some = some; decimal = decimal; shortest = shortest })
    ]
  ]
]

abbrev EndsWithStar : List ℕ → Type 0
EndsWithStar suffix = ((digits : List ℕ) × (suffix ≡ digits ++ 42 ∷ [])) ⊎ ((front : List ℕ) → suffix ≢ front ++ 42 ∷ [])

other_alone : (x : ℕ) → (x ≡ 42 → ⊥) → (front : List ℕ) → x ∷ [] ≢ front ++ 42 ∷ []
other_alone x other [] e = let same : x ≡ 42 = cc e in other same
other_alone x other (y ∷ front) e = omega (arith, ap length e, length-append front (42 ∷ []))

none_later : (x y : ℕ) (more : List ℕ) → ((front : List ℕ) → y ∷ more ≢ front ++ 42 ∷ []) → (front : List ℕ) → x ∷ y ∷ more ≢ front ++ 42 ∷ []
none_later x y more none [] e = omega (arith, ap length e)
none_later x y more none (z ∷ front) e = let tail : y ∷ more ≡ front ++ 42 ∷ [] = cc e in none front tail

star_at_end : (suffix : List ℕ) → EndsWithStar suffix
star_at_end [] = inr (λ front e. omega (arith, ap length e, length-append front (42 ∷ [])))
star_at_end (x ∷ []) = elim (cases_eq x 42) [
  | inl e ↦ inl ([], ap (λ y. y ∷ []) e)
  | inr other ↦ inr (other_alone x other)
]
star_at_end (x ∷ y ∷ more) = elim (star_at_end (y ∷ more)) [
  | inl d ↦ inl (x ∷ d.0, ap (λ r. x ∷ r) d.1)
  | inr none ↦ inr (none_later x y more none)
]

suffix_by : (suffix : List ℕ) → 0 < length suffix → FoundTwo (HasSuffix suffix)
suffix_by suffix some = elim (star_at_end suffix) [
  | inl d ↦ elim (decide_number d.0) [
    | inl number ↦ inl (Some d.0, true, (d.1, number))
    | inr other ↦ inr (not-HasSuffix suffix d.0 true some d.1 (λ e. absurd (true≢false e)) other)
  ]
  | inr none ↦ elim (decide_number suffix) [
    | inl number ↦ inl (Some suffix, false, (sym (append-nil suffix), number))
    | inr other ↦ inr (not-HasSuffix suffix suffix false some (sym (append-nil suffix)) (λ e. none) other)
  ]
]

decide_suffix : (suffix : List ℕ) → FoundTwo (HasSuffix suffix)
decide_suffix [] = inl (None, true, (refl, refl))
decide_suffix (x ∷ more) = suffix_by (x ∷ more) (omega arith)

abbrev parts : List ℕ → Option (List ℕ) → Bool → NameParts
parts base number extended = record { base = base; number = number; is_extended = extended }

decide_name : (name : List ℕ) → Found (HasNameParts name)
decide_name name = elim (cut_at 42 name) [
  | inr l ↦ elim (decide_base name) [
    | inr other ↦ inr (not-HasNameParts-base name name None (sym (append-nil name)) l other)
    | inl is ↦ inl (parts name None false, HasNameParts-made name name None None false (sym (append-nil name)) l is (refl, refl))
  ]
  | inl c ↦ elim (decide_base c.0) [
    | inr other ↦ inr (not-HasNameParts-base name c.0 (Some c.1) c.2.whole c.2.first other)
    | inl is ↦ elim (decide_suffix c.1) [
      | inr none ↦ inr (not-HasNameParts-following name c.0 (Some c.1) c.2.whole c.2.first none)
      | inl s ↦ inl (parts c.0 s.0 s.1, HasNameParts-made name c.0 (Some c.1) s.0 s.1 c.2.whole c.2.first is s.2)
    ]
  ]
]

-- ---- pieces

decide_parameter : (text : List ℕ) (tokens : List Token) → FoundTwo (IsParameterOf text tokens)
decide_parameter text [] = inr (λ name value p. omega (arith, ap length p.tokens_are))
decide_parameter text (a ∷ []) = inr (λ name value p. omega (arith, ap length p.tokens_are))
decide_parameter text (a ∷ e ∷ value) = elim (cases_Bool (is_parameter text a e value)) [
  | inl is ↦
      let all = and_parts (is_atom_kind a.kind) (is_mark_at text 61 e && (are_quoted value || are_plain text value)) is in
      let following = and_parts (is_mark_at text 61 e) (are_quoted value || are_plain text value) all.1 in
      inl (octets_at text a.span, value, record { atom = a; equals = e; tokens_are = refl; is_name = all.0; is_equals = following.0; is_value = following.1; name_is = refl })
  | inr other ↦ inr (λ name v p. both_ways (is_parameter text a e value) other (is_one v p.atom p.equals p.tokens_are p.is_name p.is_equals p.is_value))
]
  where
    is_one : (v : List Token) (atom equals : Token) → a ∷ e ∷ value ≡ atom ∷ equals ∷ v → is_atom_kind atom.kind ≡ true → is_mark_at text 61 equals ≡ true → (are_quoted v || are_plain text v) ≡ true
        → is_parameter text a e value ≡ true
    is_one v atom equals same name mark said =
        let first : atom ≡ a = cc same in
        let second : equals ≡ e = cc same in
        let following : v ≡ value = cc same in
        let made : is_parameter text atom equals v ≡ true
        = and_from (is_atom_kind atom.kind) (is_mark_at text 61 equals && (are_quoted v || are_plain text v)) name (and_from (is_mark_at text 61 equals) (are_quoted v || are_plain text v) mark said) in
        subst (λ t. is_parameter text t e value ≡ true) first
        (subst (λ t. is_parameter text atom t value ≡ true) second (subst (λ r. is_parameter text atom equals r ≡ true) following made))

none_says : (text name : List ℕ) (value : List Token) (p : NameParts) → HasNameParts name p
    → ((charset octets : List ℕ) → SaysOctets p.is_extended (is_first p.number) (value_content text value) charset octets → ⊥) → (piece : Piece) → IsPieceOf text name value piece → ⊥
none_says text name value p has none piece is =
    let parts = HasNameParts-once name is.parts p is.has_parts has in
    none piece.charset piece.octets (subst (λ (n : NameParts). SaysOctets n.is_extended (is_first n.number) (value_content text value) piece.charset piece.octets) parts is.says)

decide_piece_of : (text name : List ℕ) (value : List Token) → Found (IsPieceOf text name value)
decide_piece_of text name value = elim (decide_name name) [
  | inr none ↦ inr (λ piece is. none is.parts is.has_parts)
  | inl n ↦ elim (decide_says n.0.is_extended (is_first n.0.number) (value_content text value)) [
    | inr none ↦ inr (none_says text name value n.0 n.1 none)
    | inl s ↦ inl (
      record { base = str_to_ascii_lowercase n.0.base; number = n.0.number; charset = s.0; octets = s.1; written = name ++ 61 ∷ run_octets text value },
      record {
        parts = n.0;
        has_parts = n.1;
        says = s.2;
        base_is = refl;
        number_is = refl;
        written_is = refl;
      },
    )
  ]
]

decide_piece : (text : List ℕ) (section : List Token) → Found (IsPiece text section)
decide_piece text section = elim (decide_parameter text (solid section)) [
  | inr none ↦ inr (not-IsPiece-sides text section none)
  | inl p ↦ elim (decide_piece_of text p.0 p.1) [
    | inr none ↦ inr (λ piece is. none piece (piece_moved text section p.0 p.1 piece p.2 is))
    | inl q ↦ inl (q.0, record { name = p.0; value = p.1; is_parameter = p.2; is_piece = q.1 })
  ]
]

decide_pieces : (text : List ℕ) (sections : List (List Token)) → Found (ArePieces text sections)
decide_pieces text [] = inl ([], refl)
decide_pieces text (section ∷ sections) = elim (decide_piece text section) [
  | inr none ↦ inr (λ pieces are. none are.0 are.2)
  | inl p ↦ elim (decide_pieces text sections) [
    | inr none ↦ inr (λ pieces are. none are.1 are.3)
    | inl ps ↦ inl (p.0 ∷ ps.0, (p.0, ps.0, p.1, ps.1, refl))
  ]
]

-- the sections of a body are those of the text
record SameSections (first f : List Token) (others o : List (List Token)) : Type 0 where
  head : f ≡ first
  tail : o ≡ others

same_sections : (sections : List (List Token)) (first f : List Token) (others o : List (List Token)) → sections ≡ first ∷ others → sections ≡ f ∷ o → SameSections first f others o
same_sections sections first f others o p q =
    let same : f ∷ o ≡ first ∷ others = sym q ∙ p in
    record { head = cc same; tail = cc same }

body_by : (kind : ParamKind) (text : List ℕ) (tokens : List Token) (sections : List (List Token)) → sections_of text tokens ≡ sections → FoundTwo (IsBody kind text tokens)
body_by kind text tokens [] e = inr (λ main pieces b. let some = sym e ∙ b.sections in omega (arith, ap length some))
body_by kind text tokens (first ∷ others) e = elim (cases_Bool (is_main kind text (solid first))) [
  | inr other ↦ inr (λ main pieces b.
      let same = same_sections (sections_of text tokens) first b.first others b.others e b.sections in
      true≢false (sym b.is_main_part ∙ ap (λ s. is_main kind text (solid s)) same.head ∙ other))
  | inl main ↦ elim (decide_pieces text (filter is_filled others)) [
    | inr none ↦ inr (λ m pieces b.
        let same = same_sections (sections_of text tokens) first b.first others b.others e b.sections in
        none pieces (subst (λ s. ArePieces text (filter is_filled s) pieces) same.tail b.are_pieces))
    | inl ps ↦ inl (
      str_to_ascii_lowercase (run_octets text (solid first)),
      ps.0,
      record {
        first = first;
        others = others;
        sections = e;
        is_main_part = main;
        main_is = refl;
        are_pieces = ps.1;
      },
    )
  ]
]

pub decide_body : (kind : ParamKind) (text : List ℕ) (tokens : List Token) → FoundTwo (IsBody kind text tokens)
decide_body kind text tokens = body_by kind text tokens (sections_of text tokens) refl
