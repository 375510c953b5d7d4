-- The parameters of a text can stand in another text.
use Rattle.std.proofs.Common.{◌≡◌, ℕ, ◌+◌, ◌<◌, Bool, true, false, not, ◌||◌, cond, inl, inr, List, [], ◌∷◌, ◌++◌, length, take, drop, map, filter, codes, refl, sym, ap, ◌∙◌, subst, arith}
use Rattle.std.proofs.lemmas.Bool.{cases_Bool, true≢false, and_parts}
use Rattle.std.proofs.lemmas.Bool.Decides.{Decides-eqb}
use Rattle.std.proofs.lemmas.Slice.Eq.{bytes_eq-Decides}
use Rattle.std.proofs.lemmas.List.{append_assoc, length-append, take_at, drop_at, take-append-drop}
use Rattle.std.specs.List.{AllByRecursion, list_all, list_any}
use Rattle.mail_wire.specs.Octets.{is_white}
use Rattle.mail_wire.specs.Spans.{Stops}
use Rattle.mail_wire.proofs.AllLemmas.{pass-append, pass-take, pass-drop}
use Rattle.encoded_words.proofs.Octets.{bytes-IsUtf8}
use Rattle.field_tokens.specs.declared.Style.TheVariants.{Mime}
use Rattle.field_tokens.specs.declared.Token.{Token}
use Rattle.field_tokens.specs.declared.TokenKind.{TokenKind}
use Rattle.field_tokens.specs.declared.TokenKind.TheVariants.{Atom, Quoted, Literal, Special, Gap, Comment}
use Rattle.field_tokens.specs.TokenOctets.{is_atom_octet, is_line_octet}
use Rattle.field_tokens.specs.Tokens.{IsToken, TokenValue, AreTokens, tokens_from, octets_at, HasTokens}
use Rattle.field_tokens.specs.Squeezed.{is_blank, octets_of, is_atom_kind}
use Rattle.field_tokens.proofs.TokenLists.{token_octets_some, token_at}
use Rattle.field_tokens.proofs.Parts.{IsToken-alike, IsToken-before, stops_more, stops_front}
use Rattle.field_tokens.proofs.SqueezedValues.{value_at, AreKept, kept_no_gap}
use Rattle.param_grammar.specs.declared.ParamKind.{ParamKind}
use Rattle.param_grammar.specs.declared.Piece.{Piece}
use Rattle.param_grammar.specs.Bodies.{is_mark_at, solid, is_filled, touches_first, touch, IsPiece, ArePieces, IsBody}
use Rattle.param_2231.proofs.CoresAgain.{is_mark, is_plain, is_quoted_string, is_unquoted, CanStand, HasCore, IsPiece-core, value_to, is_octet}
use Rattle.param_2231.proofs.GlobalLemmas.{kind_is}
use Rattle.param_2231.proofs.SameOctets.{all_filter, all_split}

-- ---- tokens where they stand

-- a token stands at its place in the text, and holds octets of a line
pub record IsPlaced (text : List ℕ) (token : Token) : Type 0 where
  pub is_token : IsToken Mime token.kind (octets_at text token.span) (drop (token.span.at + token.span.len) text)
  pub line : list_all is_line_octet (octets_at text token.span) ≡ true
  pub octets : list_all is_octet (octets_at text token.span) ≡ true

abbrev pub ArePlaced : List ℕ → List Token → Type 0
ArePlaced text tokens = AllByRecursion (IsPlaced text) tokens

placed_from : (text front rest : List ℕ) (ts : List TokenValue) → list_all is_line_octet text ≡ true → list_all is_octet text ≡ true → text ≡ front ++ rest → AreTokens Mime ts rest → ArePlaced text (tokens_from (length front) ts)
placed_from text front rest [] line octets e are = tt
placed_from text front rest (t ∷ ts) line octets e are =
    let onward : text ≡ (front ++ t.octets) ++ are.0 = e ∙ ap (λ r. front ++ r) are.1 ∙ sym (append_assoc front t.octets are.0) in
    let more = placed_from text (front ++ t.octets) are.0 ts line octets onward are.3 in
    let place : length (front ++ t.octets) ≡ length front + length t.octets = length-append front t.octets in
    let following : drop (length front) text ≡ rest = ap (drop (length front)) e ∙ drop_at front rest (length front) refl in
    let head : octets_at text (token_at (length front) t).span ≡ t.octets = rw (following) (ap (take (length t.octets)) are.1 ∙ take_at t.octets are.0 (length t.octets) refl) in
    let after : drop (length front + length t.octets) text ≡ are.0 = ap (λ n. drop n text) (sym place) ∙ ap (drop (length (front ++ t.octets))) onward ∙ drop_at (front ++ t.octets) are.0 (length (front ++ t.octets)) refl in
    let is : IsToken Mime t.kind (octets_at text (token_at (length front) t).span) (drop (length front + length t.octets) text) =
    subst (λ o. IsToken Mime t.kind o (drop (length front + length t.octets) text)) (sym head) (subst (IsToken Mime t.kind t.octets) (sym after) are.2) in
    (record { is_token = is; line = pass-take is_line_octet (length t.octets) (drop (length front) text) (pass-drop is_line_octet (length front) text line); octets = pass-take is_octet (length t.octets) (drop (length front) text) (pass-drop is_octet (length front) text octets) }, rw (place) at more)

pub tokens_placed : (text : List ℕ) (tokens : List Token) → HasTokens Mime text tokens → ArePlaced text tokens
tokens_placed text tokens has = subst (ArePlaced text) (sym has.placed) (placed_from text [] text has.values has.is_line.plain (bytes-IsUtf8 text has.is_line.utf8) refl has.are_tokens)

-- ---- single tokens

-- a mark is the same token before anything
pub mark_before : (kind : TokenKind) (m : ℕ) (x y : List ℕ) → is_white m ≡ false → is_atom_octet Mime m ≡ false → IsToken Mime kind (m ∷ []) x → IsToken Mime kind (m ∷ []) y
mark_before Gap m x y w a is = absurd (true≢false (sym (and_parts (is_white m) true is.1.passes).0 ∙ w))
mark_before Atom m x y w a is = absurd (true≢false (sym (and_parts (is_atom_octet Mime m) true is.1.passes).0 ∙ a))
mark_before Special m x y w a is = is
mark_before Comment m x y w a is = is
mark_before Quoted m x y w a is = is
mark_before Literal m x y w a is = is

pub before_none : (kind : TokenKind) (octets x : List ℕ) → IsToken Mime kind octets x → IsToken Mime kind octets []
before_none kind octets x is = IsToken-alike Mime kind octets x [] (λ p stops. tt) is

-- a token before a mark
pub before_mark : (kind : TokenKind) (octets x : List ℕ) (m : ℕ) (rest : List ℕ) → is_blank kind ≡ false → is_atom_octet Mime m ≡ false → IsToken Mime kind octets x → IsToken Mime kind octets (m ∷ rest)
before_mark kind octets x m rest kept a is = IsToken-before Mime kind octets (m ∷ rest) (kept_no_gap kind kept) a (before_none kind octets x is)

pub atom_free : (kind : TokenKind) (octets rest : List ℕ) → is_atom_kind kind ≡ true → IsToken Mime kind octets rest → octets ≡ 59 ∷ [] → ⊥
atom_free kind octets rest h is e =
    let atom = subst (λ k. IsToken Mime k octets rest) (kind_is kind h) is in
    true≢false (sym atom.1.passes ∙ ap (list_all (is_atom_octet Mime)) e)

pub free_of : (t : TokenValue) → (t.octets ≡ 59 ∷ [] → ⊥) → is_mark 59 t ≡ false
free_of t n = elim (cases_Bool (is_mark 59 t)) [
  | inl y ↦ absurd (n ((bytes_eq-Decides t.octets (59 ∷ [])).0 y))
  | inr f ↦ f
]

plain_free : (t : TokenValue) (rest : List ℕ) → is_plain t ≡ true → IsToken Mime t.kind t.octets rest → is_mark 59 t ≡ false
plain_free t rest h is = free_of t (λ e.
    let special : list_any (λ mark. is_mark mark t) (codes "/[]?=") ≡ false = rw (e) refl in
    atom_free t.kind t.octets rest (either (is_atom_kind t.kind) (list_any (λ mark. is_mark mark t) (codes "/[]?=")) h special) is e)
  where
    either : (a b : Bool) → (a || b) ≡ true → b ≡ false → a ≡ true
    either true b h n = refl
    either false b h n = absurd (true≢false (sym h ∙ n))

pub heads : (x y : ℕ) (xs ys : List ℕ) → x ∷ xs ≡ y ∷ ys → x ≡ y
heads x y xs ys e = cc e

quoted_free : (kind : TokenKind) (octets rest : List ℕ) → is_quoted_string (record { kind = kind; octets = octets } ∷ []) ≡ true → IsToken Mime kind octets rest → octets ≡ 59 ∷ [] → ⊥
quoted_free Quoted octets rest h is e = let same = heads 59 34 [] _ (sym e ∙ is.spelled) in omega (arith, same)
quoted_free Atom octets rest h is e = absurd (true≢false (sym h))
quoted_free Literal octets rest h is e = absurd (true≢false (sym h))
quoted_free Special octets rest h is e = absurd (true≢false (sym h))
quoted_free Gap octets rest h is e = absurd (true≢false (sym h))
quoted_free Comment octets rest h is e = absurd (true≢false (sym h))

plains_free : (text : List ℕ) (ts : List Token) → ArePlaced text ts → list_all is_plain (map (value_at text) ts) ≡ true
    → AllByRecursion (λ (t : TokenValue). is_mark 59 t ≡ false) (map (value_at text) ts)
plains_free text [] placed h = tt
plains_free text (t ∷ ts) placed h =
    let parts = and_parts (is_plain (value_at text t)) (list_all is_plain (map (value_at text) ts)) h in
    (plain_free (value_at text t) (drop (t.span.at + t.span.len) text) parts.0 placed.0.is_token, plains_free text ts placed.1 parts.1)

value_free : (text : List ℕ) (ts : List Token) → ArePlaced text ts → (is_quoted_string (map (value_at text) ts) || is_unquoted (map (value_at text) ts)) ≡ true
    → AllByRecursion (λ (t : TokenValue). is_mark 59 t ≡ false) (map (value_at text) ts)
value_free text [] placed h = tt
value_free text (t ∷ []) placed h = elim (cases_Bool (is_quoted_string (map (value_at text) (t ∷ [])))) [
  | inl q ↦ (free_of (value_at text t) (quoted_free t.kind (octets_at text t.span) (drop (t.span.at + t.span.len) text) q placed.0.is_token), tt)
  | inr n ↦ plains_free text (t ∷ []) placed (rw (n) at h)
]
value_free text (t ∷ u ∷ ts) placed h = plains_free text (t ∷ u ∷ ts) placed h

-- ---- tokens with nothing between them

value_tokens : (text : List ℕ) (ts : List Token) → ArePlaced text ts → touch ts ≡ true → AreTokens Mime (map (value_at text) ts) (octets_of (map (value_at text) ts))
value_tokens text [] placed t = refl
value_tokens text (a ∷ []) placed t = ([], refl, before_none a.kind (octets_at text a.span) (drop (a.span.at + a.span.len) text) placed.0.is_token, refl)
value_tokens text (a ∷ b ∷ ts) placed t =
    let parts = and_parts (touches_first a (b ∷ ts)) (touch (b ∷ ts)) t in
    let place : a.span.at + a.span.len ≡ b.span.at = (Decides-eqb (a.span.at + a.span.len) b.span.at).0 parts.0 in
    let next : List ℕ = octets_at text b.span in
    let more : List ℕ = octets_of (map (value_at text) ts) in
    let some : 0 < length next = token_octets_some Mime b.kind next (drop (b.span.at + b.span.len) text) placed.1.0.is_token in
    let cut : drop (a.span.at + a.span.len) text ≡ next ++ drop b.span.len (drop b.span.at text) = ap (λ n. drop n text) place ∙ sym (take-append-drop b.span.len (drop b.span.at text)) in
    let is = IsToken-alike Mime a.kind (octets_at text a.span) (drop (a.span.at + a.span.len) text) (next ++ more)
    (λ p stops. stops_more p next more some (stops_front p next (drop b.span.len (drop b.span.at text)) (subst (Stops p) cut stops))) placed.0.is_token in
    (next ++ more, refl, is, value_tokens text (b ∷ ts) placed.1 parts.1)

-- ---- parameters

pub kept_solid : (text : List ℕ) (section : List Token) → AreKept (map (value_at text) (solid section))
kept_solid text [] = tt
kept_solid text (t ∷ ts) = more (is_blank t.kind) refl (kept_solid text ts)
  where
    more : (b : Bool) → is_blank t.kind ≡ b → AreKept (map (value_at text) (solid ts)) → AreKept (map (value_at text) (cond (not b) (t ∷ solid ts) (solid ts)))
    more true e h = h
    more false e h = (e, h)

pub run_line : (text : List ℕ) (ts : List Token) → ArePlaced text ts → list_all is_line_octet (octets_of (map (value_at text) ts)) ≡ true
run_line text [] placed = refl
run_line text (t ∷ ts) placed = pass-append is_line_octet (octets_at text t.span) (octets_of (map (value_at text) ts)) placed.0.line (run_line text ts placed.1)

pub run_are_octets : (text : List ℕ) (ts : List Token) → ArePlaced text ts → list_all is_octet (octets_of (map (value_at text) ts)) ≡ true
run_are_octets text [] placed = refl
run_are_octets text (t ∷ ts) placed = pass-append is_octet (octets_at text t.span) (octets_of (map (value_at text) ts)) placed.0.octets (run_are_octets text ts placed.1)

-- a name, an equals sign and a value
pub parameter_stands : (text : List ℕ) (a e : Token) (v : List Token) → ArePlaced text (a ∷ e ∷ v) → AreKept (map (value_at text) (a ∷ e ∷ v)) → is_atom_kind a.kind ≡ true → is_mark_at text 61 e ≡ true
    → touch v ≡ true → (is_quoted_string (map (value_at text) v) || is_unquoted (map (value_at text) v)) ≡ true → CanStand (map (value_at text) (a ∷ e ∷ v))
parameter_stands text a e v placed kept name equals touches value =
    let mark : octets_at text e.span ≡ 61 ∷ [] = (bytes_eq-Decides (octets_at text e.span) (61 ∷ [])).0 equals in
    let values : List TokenValue = map (value_at text) v in
    let rest : AreTokens Mime values (octets_of values) = value_tokens text v placed.1.1 touches in
    let e_is : IsToken Mime e.kind (61 ∷ []) (drop (e.span.at + e.span.len) text) = subst (λ o. IsToken Mime e.kind o (drop (e.span.at + e.span.len) text)) mark placed.1.0.is_token in
    let e_here : IsToken Mime e.kind (octets_at text e.span) (octets_of values) =
    subst (λ o. IsToken Mime e.kind o (octets_of values)) (sym mark) (mark_before e.kind 61 (drop (e.span.at + e.span.len) text) (octets_of values) refl refl e_is) in
    let a_here : IsToken Mime a.kind (octets_at text a.span) (octets_at text e.span ++ octets_of values) =
    subst (λ o. IsToken Mime a.kind (octets_at text a.span) (o ++ octets_of values)) (sym mark)
    (before_mark a.kind (octets_at text a.span) (drop (a.span.at + a.span.len) text) 61 (octets_of values) kept.0 refl placed.0.is_token) in
    record {
      are_tokens = (octets_at text e.span ++ octets_of values, refl, a_here, (octets_of values, refl, e_here, rest));
      kept = kept;
      no_semicolon = (
        free_of (value_at text a) (atom_free a.kind (octets_at text a.span) (drop (a.span.at + a.span.len) text) name placed.0.is_token),
        (ap (λ o. is_mark 59 (record { kind = e.kind; octets = o })) mark, value_free text v placed.1.1 value),
      );
      line = run_line text (a ∷ e ∷ v) placed;
      octets = run_are_octets text (a ∷ e ∷ v) placed;
      some = omega arith;
    }

-- a parameter of the text can stand in another
pub piece_core : (text : List ℕ) (section : List Token) (piece : Piece) → ArePlaced text section → IsPiece text section piece → HasCore piece
piece_core text section piece placed is =
    let p = is.is_parameter in
    let solids : ArePlaced text (solid section) = all_filter (IsPlaced text) (λ (t : Token). not (is_blank t.kind)) section placed in
    let value = value_to text is.value p.is_value in
    let moved : ArePlaced text (p.atom ∷ p.equals ∷ is.value) = subst (ArePlaced text) p.tokens_are solids in
    let kept : AreKept (map (value_at text) (p.atom ∷ p.equals ∷ is.value)) = subst (λ ts. AreKept (map (value_at text) ts)) p.tokens_are (kept_solid text section) in
    record {
      core = map (value_at text) (solid section);
      is_core = IsPiece-core text section piece is;
      stands = subst (λ ts. CanStand (map (value_at text) ts)) (sym p.tokens_are) (parameter_stands text p.atom p.equals is.value moved kept p.is_name p.is_equals value.0 value.1);
    }

pieces_core : (text : List ℕ) (sections : List (List Token)) (pieces : List Piece) → AllByRecursion (ArePlaced text) sections → ArePieces text sections pieces → AllByRecursion HasCore pieces
pieces_core text [] pieces placed are = rw (are) tt
pieces_core text (section ∷ sections) pieces placed are =
    subst (AllByRecursion HasCore) (sym are.4) (piece_core text section are.0 placed.0 are.2, pieces_core text sections are.1 placed.1 are.3)

-- the pieces and the main part of a body can stand in another text
pub record CanBeCopied (text : List ℕ) (pieces : List Piece) (first : List Token) : Type 0 where
  pub cores : AllByRecursion HasCore pieces
  pub placed : ArePlaced text (solid first)

pub body_copied : (kind : ParamKind) (text : List ℕ) (tokens : List Token) (main : List ℕ) (pieces : List Piece) → HasTokens Mime text tokens → (b : IsBody kind text tokens main pieces)
    → CanBeCopied text pieces b.first
body_copied kind text tokens main pieces has b =
    let all : AllByRecursion (ArePlaced text) (b.first ∷ b.others) =
    subst (AllByRecursion (ArePlaced text)) b.sections (all_split (IsPlaced text) (is_mark_at text 59) tokens (tokens_placed text tokens has)) in
    record {
      cores = pieces_core text (filter is_filled b.others) pieces (all_filter (ArePlaced text) is_filled b.others all.1) b.are_pieces;
      placed = all_filter (IsPlaced text) (λ (t : Token). not (is_blank t.kind)) b.first all.0;
    }
