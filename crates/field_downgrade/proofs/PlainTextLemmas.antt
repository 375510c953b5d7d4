-- A plain text says one thing, and its pieces with a space between any two say the same.
use Rattle.std.proofs.Common.{◌≡◌, ◌≢◌, ℕ, ◌+◌, ◌<◌, Bool, true, false, ◌⊎◌, inl, inr, List, [], ◌∷◌, ◌++◌, length, map, refl, sym, ap, ◌∙◌, subst, arith}
use Rattle.std.proofs.lemmas.Bool.{cases_Bool, true≢false}
use Rattle.std.proofs.lemmas.Bool.Decides.{nat_tests}
use Rattle.std.proofs.lemmas.List.{append_assoc, length-append}
use Rattle.std.specs.List.{AllByRecursion, list_all, flat_map, join_with_byte}
use Rattle.mail_wire.specs.Octets.{is_white, is_ascii}
use Rattle.mail_wire.specs.Spans.{Stops, StopsAfter}
use Rattle.mail_wire.proofs.AllLemmas.{all-append, pass-append, pass-weaker}
use Rattle.field_tokens.specs.declared.Style.{Style}
use Rattle.field_tokens.specs.declared.TokenKind.{TokenKind}
use Rattle.field_tokens.specs.declared.TokenKind.TheVariants.{Atom, Quoted, Literal, Special, Gap, Comment}
use Rattle.field_tokens.specs.TokenOctets.{is_line_octet}
use Rattle.field_tokens.specs.Tokens.{IsToken, TokenValue, AreTokens, HasTokenValues}
use Rattle.field_tokens.specs.Squeezed.{is_blank, runs_of, octets_of, squeezed_values, is_comment, comments_of, words_of, joined_by_spaces, IsPart}
use Rattle.field_tokens.specs.Comments.{CommentValue, CommentsSay, CommentsPieces, AreWritten, IsLinePiece}
use Rattle.field_tokens.proofs.TokenLists.{token_octets_some, AreTokens-once}
use Rattle.field_tokens.proofs.SqueezedValues.{IsPart-runs, words_of-runs, runs_and, squeezed_and, IsSqueezedAgain, squeezed_again}
use Rattle.field_tokens.proofs.TokenLines.{joined_line, squeezed_line, comments_are_writable, comments_are_plain}
use Rattle.field_tokens.proofs.LinePieces.{CommentsPieces-line, CommentsPieces-there}
use Rattle.field_tokens.proofs.CommentValues.{CommentsSay-once, CommentsSay-some, CommentsPieces-once}
use Rattle.field_tokens.proofs.WrittenComments.{CommentsPieces-written}
use Rattle.field_tokens.proofs.DecideTokens.{decide_tokens}
use Rattle.field_tokens.proofs.PieceLemmas.{join_alike, no_pieces, no_comments, comments_groups, pieces_lines}
use Rattle.field_downgrade.specs.PlainTexts.{style_where, IsAtomWhere, IsPlain, SaysPlain, text_piece, PlainPieces}

-- What is said is one.

plain_tokens-once : (is_encoding : Bool) (text : List ℕ) (ts us : List TokenValue) → IsPlain is_encoding text ts → IsPlain is_encoding text us → ts ≡ us
plain_tokens-once is_encoding text ts us p q = AreTokens-once (style_where is_encoding) text ts us p.has.are_tokens q.has.are_tokens

pub SaysPlain-once : (is_encoding : Bool) (text said other : List ℕ) (comments others : List CommentValue) → SaysPlain is_encoding text said comments → SaysPlain is_encoding text other others
    → (said ≡ other) × (comments ≡ others)
SaysPlain-once is_encoding text said other comments others p q =
    let same : p.tokens ≡ q.tokens = plain_tokens-once is_encoding text p.tokens q.tokens p.is_plain q.is_plain in (
      p.said_is ∙ ap squeezed_values same ∙ sym q.said_is,
      CommentsSay-once (comments_of q.tokens) comments others (subst (λ ts. CommentsSay (comments_of ts) comments) same p.comments_say) q.comments_say,
    )

pub PlainPieces-once : (is_encoding : Bool) (text : List ℕ) (pieces others : List (List ℕ)) → PlainPieces is_encoding text pieces → PlainPieces is_encoding text others → pieces ≡ others
PlainPieces-once is_encoding text pieces others p q =
    let same : p.tokens ≡ q.tokens = plain_tokens-once is_encoding text p.tokens q.tokens p.is_plain q.is_plain in
    let comments : p.comments ≡ q.comments
    = CommentsPieces-once (comments_of q.tokens) p.comments q.comments (subst (λ ts. CommentsPieces (comments_of ts) p.comments) same p.comments_are) q.comments_are in
    p.pieces_are ∙ ap (λ ts. text_piece (squeezed_values ts) ++ p.comments) same ∙ ap (λ r. text_piece (squeezed_values q.tokens) ++ r) comments ∙ sym q.pieces_are

-- A plain text says something.

abbrev pub SaysSome : Bool → List ℕ → Type 0
SaysSome is_encoding text = (said : List ℕ) × (comments : List CommentValue) × SaysPlain is_encoding text said comments

plain_says : (is_encoding : Bool) (text : List ℕ) (tokens : List TokenValue) → IsPlain is_encoding text tokens → SaysSome is_encoding text
plain_says is_encoding text tokens is =
    let values = CommentsSay-some (comments_of tokens) (comments_are_writable (style_where is_encoding) tokens text is.has.are_tokens is.has.is_line) in
    (squeezed_values tokens, values.0, record { tokens = tokens; is_plain = is; said_is = refl; comments_say = values.1 })

pub PlainPieces-says : (is_encoding : Bool) (text : List ℕ) (pieces : List (List ℕ)) → PlainPieces is_encoding text pieces → SaysSome is_encoding text
PlainPieces-says is_encoding text pieces p = plain_says is_encoding text p.tokens p.is_plain

-- Whether a text is plain.

decide_atom_kind : (kind : TokenKind) → (kind ≡ Atom) ⊎ (kind ≢ Atom)
decide_atom_kind Atom = inl refl
decide_atom_kind Quoted = inr (λ e. cc e)
decide_atom_kind Literal = inr (λ e. cc e)
decide_atom_kind Special = inr (λ e. cc e)
decide_atom_kind Gap = inr (λ e. cc e)
decide_atom_kind Comment = inr (λ e. cc e)

decide_one_atom : (tokens words : List TokenValue) → words_of tokens ≡ words → IsAtomWhere true tokens ⊎ ¬ IsAtomWhere true tokens
decide_one_atom tokens [] e = inr (λ one. let none = sym e ∙ one.1 in cc none)
decide_one_atom tokens (w ∷ []) e = elim (decide_atom_kind w.kind) [
  | inl atom ↦ inl (w, e, atom)
  | inr other ↦ inr (λ one. let whole : w ∷ [] ≡ one.0 ∷ [] = sym e ∙ one.1 in let same : w ≡ one.0 = cc whole in other (ap (λ (t : TokenValue). t.kind) same ∙ one.2))
]
decide_one_atom tokens (w ∷ v ∷ words) e = inr (λ one. let two = sym e ∙ one.1 in omega (arith, ap length two))

decide_atom_where : (is_encoding : Bool) (tokens : List TokenValue) → IsAtomWhere is_encoding tokens ⊎ ¬ IsAtomWhere is_encoding tokens
decide_atom_where true tokens = decide_one_atom tokens (words_of tokens) refl
decide_atom_where false tokens = inl tt

decide_with : (is_encoding : Bool) (text : List ℕ) (tokens : List TokenValue) → HasTokenValues (style_where is_encoding) text tokens
    → SaysSome is_encoding text ⊎ ((said : List ℕ) (comments : List CommentValue) → ¬ SaysPlain is_encoding text said comments)
decide_with is_encoding text tokens has =
    let same : ((ts : List TokenValue) → IsPlain is_encoding text ts → ts ≡ tokens) = λ ts is. AreTokens-once (style_where is_encoding) text ts tokens is.has.are_tokens has.are_tokens in
    elim (cases_Bool (list_all is_ascii (squeezed_values tokens))) [
      | inr high ↦ inr (λ said comments says. true≢false (sym says.is_plain.ascii ∙ ap (λ ts. list_all is_ascii (squeezed_values ts)) (same says.tokens says.is_plain) ∙ high))
      | inl ascii ↦ elim (decide_atom_where is_encoding tokens) [
        | inr other ↦ inr (λ said comments says. other (subst (IsAtomWhere is_encoding) (same says.tokens says.is_plain) says.is_plain.atom))
        | inl atom ↦ inl (plain_says is_encoding text tokens (record { has = has; ascii = ascii; atom = atom }))
      ]
    ]

pub decide_plain : (is_encoding : Bool) (text : List ℕ) → SaysSome is_encoding text ⊎ ((said : List ℕ) (comments : List CommentValue) → ¬ SaysPlain is_encoding text said comments)
decide_plain is_encoding text = elim (decide_tokens (style_where is_encoding) text) [
  | inr none ↦ inr (λ said comments says. none says.tokens says.is_plain.has)
  | inl found ↦ decide_with is_encoding text found.0 found.1
]

-- Where an octet is above 127 there is a piece.

gap_ascii : (style : Style) (kind : TokenKind) (octets rest : List ℕ) → is_blank kind ≡ true → is_comment kind ≡ false → IsToken style kind octets rest → list_all is_ascii octets ≡ true
gap_ascii style Gap octets rest b c is = pass-weaker is_white is_ascii white octets is.1.passes
  where
    white : (x : ℕ) → is_white x ≡ true → is_ascii x ≡ true
    white x h = grind (arith, nat_tests)
gap_ascii style Comment octets rest b c is = cc c
gap_ascii style Atom octets rest b c is = cc b
gap_ascii style Quoted octets rest b c is = cc b
gap_ascii style Literal octets rest b c is = cc b
gap_ascii style Special octets rest b c is = cc b

-- a text of gaps only is ASCII
gaps_ascii : (style : Style) (tokens : List TokenValue) (text : List ℕ) → AreTokens style tokens text → words_of tokens ≡ [] → comments_of tokens ≡ [] → list_all is_ascii text ≡ true
gaps_ascii style [] text are w c = rw (are) refl
gaps_ascii style (t ∷ ts) text are w c = elim (cases_Bool (is_blank t.kind)) [
  | inr word ↦ let some = rw (word) at w in cc some
  | inl blank ↦ elim (cases_Bool (is_comment t.kind)) [
    | inl comment ↦ let some = rw (comment) at c in cc some
    | inr other ↦
        let more : list_all is_ascii are.0 ≡ true = gaps_ascii style ts are.0 are.3 (rw (blank) at w) (rw (other) at c) in
        rw (are.1) (pass-append is_ascii t.octets are.0 (gap_ascii style t.kind t.octets are.0 blank other are.2) more)
  ]
]

part_some : (style : Style) (part : List TokenValue) → IsPart style part → 0 < length (octets_of part)
part_some style part is = by part is.begins.2 is.are_tokens
  where
    by : (ts : List TokenValue) → ts ≡ is.begins.0 ∷ is.begins.1 → AreTokens style ts (octets_of ts) → 0 < length (octets_of ts)
    by [] e are = cc e
    by (t ∷ ts) e are = omega (arith, token_octets_some style t.kind t.octets are.0 are.2, length-append t.octets (octets_of ts))

join_some : (x : List ℕ) (xs : List (List ℕ)) → 0 < length x → 0 < length (join_with_byte 32 (x ∷ xs))
join_some x [] some = some
join_some x (y ∷ xs) some = omega (arith, some, length-append x (32 ∷ join_with_byte 32 (y ∷ xs)))

-- there is no run, or the squeezed text isn't empty
runs_join : (style : Style) (runs : List (List TokenValue)) → AllByRecursion (IsPart style) runs → (runs ≡ []) ⊎ (0 < length (join_with_byte 32 (map octets_of runs)))
runs_join style [] all = inl refl
runs_join style (run ∷ runs) all = inr (join_some (octets_of run) (map octets_of runs) (part_some style run all.0))

piece_some : (text : List ℕ) → 0 < length text → text_piece text ≡ text ∷ []
piece_some [] some = absurd (omega (arith, some))
piece_some (x ∷ xs) some = refl

comments_some : (cs : List (List ℕ)) → (cs ≡ [] → ⊥) → 0 < length cs
comments_some [] some = absurd (some refl)
comments_some (c ∷ cs) some = omega arith

pieces_some : (is_encoding : Bool) (text : List ℕ) (pieces : List (List ℕ)) → PlainPieces is_encoding text pieces → list_all is_ascii text ≡ false → 0 < length pieces
pieces_some is_encoding text pieces p high =
    let style : Style = style_where is_encoding in
    let are : AreTokens style p.tokens text = p.is_plain.has.are_tokens in
    let piece : List (List ℕ) = text_piece (squeezed_values p.tokens) in
    let size : length pieces ≡ length piece + length p.comments = ap length p.pieces_are ∙ length-append piece p.comments in
    elim (runs_join style (runs_of p.tokens) (IsPart-runs style p.tokens text are)) [
      | inr some ↦ omega (arith, size, ap length (piece_some (squeezed_values p.tokens) some))
      | inl none ↦
          let no_words : words_of p.tokens ≡ [] = sym (words_of-runs p.tokens) ∙ ap (flat_map words_of) none in
          let there : 0 < length p.comments = CommentsPieces-there (comments_of p.tokens) p.comments (comments_some (comments_of p.tokens)
          (λ no_comments. true≢false (sym (gaps_ascii style p.tokens text are no_words no_comments) ∙ high))) p.comments_are in
          omega (arith, size, there)
    ]

-- The pieces with a space between any two.

onto_join : (x first : List ℕ) (others : List (List ℕ)) → x ++ (32 ∷ join_with_byte 32 (first ∷ others)) ≡ join_with_byte 32 ((x ++ (32 ∷ first)) ∷ others)
onto_join x first [] = refl
onto_join x first (next ∷ others) = sym (append_assoc x (32 ∷ first) (32 ∷ join_with_byte 32 (next ∷ others)))

pub join_parts : (x : List ℕ) (xs ys : List (List ℕ)) → join_with_byte 32 (x ∷ (xs ++ ys)) ≡ join_with_byte 32 (join_with_byte 32 (x ∷ xs) ∷ ys)
join_parts x [] ys = refl
join_parts x (y ∷ xs) ys = ap (λ r. x ++ (32 ∷ r)) (join_parts y xs ys) ∙ onto_join x (join_with_byte 32 (y ∷ xs)) ys

join_same : (runs made pieces : List (List ℕ)) → (runs ≡ []) ⊎ (0 < length (join_with_byte 32 runs)) → (made ≡ [] → pieces ≡ []) → (pieces ≡ [] → made ≡ []) → join_with_byte 32 made ≡ join_with_byte 32 pieces
    → join_with_byte 32 (runs ++ made) ≡ join_with_byte 32 (text_piece (join_with_byte 32 runs) ++ pieces)
join_same [] made pieces some a b e = e
join_same (x ∷ xs) made pieces (inl none) a b e = cc none
join_same (x ∷ xs) made pieces (inr some) a b e =
    rw (piece_some (join_with_byte 32 (x ∷ xs)) some) (join_parts x xs made ∙ join_alike (join_with_byte 32 (x ∷ xs)) made pieces a b e)

runs_join-octets : (runs : List (List TokenValue)) → (runs ≡ []) ⊎ (0 < length (join_with_byte 32 (map octets_of runs))) → (map octets_of runs ≡ []) ⊎ (0 < length (join_with_byte 32 (map octets_of runs)))
runs_join-octets runs (inl none) = inl (ap (map octets_of) none)
runs_join-octets runs (inr some) = inr some

-- the pieces are read as the squeezed text with the written comments after it
joined_is : (is_encoding : Bool) (text : List ℕ) (pieces : List (List ℕ)) (values : List CommentValue) → (p : PlainPieces is_encoding text pieces) → (w : AreWritten (comments_of p.tokens) values p.comments)
    → map octets_of (runs_and p.tokens w.made) ≡ map octets_of (runs_of p.tokens) ++ w.made → squeezed_and p.tokens w.made ≡ join_with_byte 32 pieces
joined_is is_encoding text pieces values p w e =
    let style : Style = style_where is_encoding in
    let runs : List (List ℕ) = map octets_of (runs_of p.tokens) in
    let some : (runs ≡ []) ⊎ (0 < length (join_with_byte 32 runs)) = runs_join-octets (runs_of p.tokens) (runs_join style (runs_of p.tokens) (IsPart-runs style p.tokens text p.is_plain.has.are_tokens)) in
    ap (join_with_byte 32) e
    ∙ join_same runs w.made p.comments some (λ none. no_pieces (comments_of p.tokens) p.comments p.comments_are (w.none.0 none)) (λ none. w.none.1 (no_comments (comments_of p.tokens) p.comments p.comments_are none)) w.joined
    ∙ ap (join_with_byte 32) (sym p.pieces_are)

text_piece-line : (text : List ℕ) → list_all is_ascii text ≡ true → list_all is_line_octet text ≡ true → AllByRecursion IsLinePiece (text_piece text)
text_piece-line [] ascii line = tt
text_piece-line (x ∷ xs) ascii line = (record { some = omega arith; ascii = ascii; line = line }, tt)

pub PlainPieces-line : (is_encoding : Bool) (text : List ℕ) (pieces : List (List ℕ)) → PlainPieces is_encoding text pieces → AllByRecursion IsLinePiece pieces
PlainPieces-line is_encoding text pieces p =
    let style : Style = style_where is_encoding in
    let has : HasTokenValues style text p.tokens = p.is_plain.has in
    let piece : List (List ℕ) = text_piece (squeezed_values p.tokens) in
    let front : AllByRecursion IsLinePiece piece = text_piece-line (squeezed_values p.tokens) p.is_plain.ascii (squeezed_line style p.tokens text has.are_tokens has.is_line).plain in
    let following : AllByRecursion IsLinePiece p.comments
    = CommentsPieces-line (comments_of p.tokens) p.comments (comments_are_writable style p.tokens text has.are_tokens has.is_line) (comments_are_plain style p.tokens text has.are_tokens has.is_line) p.comments_are in
    subst (AllByRecursion IsLinePiece) (sym p.pieces_are) (all-append IsLinePiece piece p.comments front following)

atom_alike : (is_encoding : Bool) (ts us : List TokenValue) → words_of us ≡ words_of ts → IsAtomWhere is_encoding ts → IsAtomWhere is_encoding us
atom_alike true ts us e atom = (atom.0, e ∙ atom.1, atom.2)
atom_alike false ts us e atom = tt

-- The pieces with a space between any two say this. No white stands at an end, and each piece can stand in a line.
pub record IsReadPlain (is_encoding : Bool) (said : List ℕ) (comments : List CommentValue) (pieces : List (List ℕ)) : Type 0 where
  pub says : SaysPlain is_encoding (join_with_byte 32 pieces) said comments
  pub begins : Stops is_white (join_with_byte 32 pieces)
  pub ends : StopsAfter is_white (join_with_byte 32 pieces)
  pub each : AllByRecursion IsLinePiece pieces
  pub some : 0 < length pieces

pub PlainPieces-read : (is_encoding : Bool) (text said : List ℕ) (comments : List CommentValue) (pieces : List (List ℕ)) → PlainPieces is_encoding text pieces → SaysPlain is_encoding text said comments
    → list_all is_ascii text ≡ false → IsReadPlain is_encoding said comments pieces
PlainPieces-read is_encoding text said comments pieces p s high =
    let style : Style = style_where is_encoding in
    let has : HasTokenValues style text p.tokens = p.is_plain.has in
    let same : s.tokens ≡ p.tokens = plain_tokens-once is_encoding text s.tokens p.tokens s.is_plain p.is_plain in
    let say : CommentsSay (comments_of p.tokens) comments = subst (λ ts. CommentsSay (comments_of ts) comments) same s.comments_say in
    let w : AreWritten (comments_of p.tokens) comments p.comments
    = CommentsPieces-written (comments_of p.tokens) comments p.comments (comments_are_writable style p.tokens text has.are_tokens has.is_line) say p.comments_are in
    let again : IsSqueezedAgain style p.tokens w.made = squeezed_again style p.tokens text w.made has.are_tokens (comments_groups w.made w.are_comments) in
    let joined : squeezed_and p.tokens w.made ≡ join_with_byte 32 pieces = joined_is is_encoding text pieces comments p w again.pieces_are in
    let each : AllByRecursion IsLinePiece pieces = PlainPieces-line is_encoding text pieces p in
    let made : List TokenValue = joined_by_spaces (runs_and p.tokens w.made) in
    record {
      says = record {
        tokens = made;
        is_plain = record {
          has = record { is_line = joined_line pieces (pieces_lines pieces each); are_tokens = subst (AreTokens style made) joined again.are_tokens };
          ascii = ap (list_all is_ascii) again.squeezed_is ∙ p.is_plain.ascii;
          atom = atom_alike is_encoding p.tokens made again.words_are p.is_plain.atom;
        };
        said_is = s.said_is ∙ ap squeezed_values same ∙ sym again.squeezed_is;
        comments_say = subst (λ cs. CommentsSay cs comments) (sym again.comments_are) w.say;
      };
      begins = subst (Stops is_white) joined again.text_begins;
      ends = subst (StopsAfter is_white) joined again.text_ends;
      each = each;
      some = pieces_some is_encoding text pieces p high;
    }
