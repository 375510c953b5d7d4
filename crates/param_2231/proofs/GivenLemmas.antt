-- What the pieces of a body and its comments give.
use Rattle.std.proofs.Common.{◌≡◌, ◌↔◌, ℕ, ◌+◌, ◌<◌, ◌≤◌, Bool, true, false, inl, inr, List, [], ◌∷◌, ◌++◌, length, take, drop, get_or, refl, sym, ap, ◌∙◌, subst, arith}
use Rattle.std.proofs.lemmas.Bool.{cases_Bool, true≢false}
use Rattle.std.proofs.lemmas.List.{append_assoc, append-nil, take_more, drop_more, drop_all}
use Rattle.std.proofs.lemmas.List.Concat.{flat_map-append}
use Rattle.std.proofs.lemmas.Slice.Eq.{bytes_eq-Decides}
use Rattle.std.specs.Str.{bytes_eq}
use Rattle.encoded_words.specs.Words.{UnitValue}
use Rattle.encoded_words.specs.Folding.{AddsLines}
use Rattle.field_tokens.specs.declared.Style.TheVariants.{Mime}
use Rattle.field_tokens.specs.declared.Token.{Token}
use Rattle.field_tokens.specs.declared.lexemes.Mark.{Mark}
use Rattle.field_tokens.specs.Lexemes.{lexemes_in}
use Rattle.field_tokens.specs.Tokens.{TokenValue, HasTokens, HasTokenValues}
use Rattle.field_tokens.specs.Squeezed.{comments_of}
use Rattle.field_tokens.specs.Comments.{CommentsPieces, AreWritableComments}
use Rattle.field_tokens.proofs.TokenLists.{AreTokens-once}
use Rattle.field_tokens.proofs.TokenLines.{comments_are_writable}
use Rattle.param_grammar.specs.declared.ParamKind.{ParamKind}
use Rattle.param_grammar.specs.declared.Piece.{Piece}
use Rattle.param_grammar.specs.declared.places.Place.{Place}
use Rattle.param_grammar.specs.declared.role.Placed.{Placed}
use Rattle.param_grammar.specs.declared.role.Role.{Role}
use Rattle.param_grammar.specs.declared.role.Role.TheVariants.{GoesOn, Begins}
use Rattle.param_grammar.specs.declared.tokens.Tokens.{Tokens}
use Rattle.param_grammar.specs.Joining.{ParamValue, params_of, goes_on, unit_at, is_ascii_parameter, is_doubled, IsRole, HasSaidBody}
use Rattle.param_grammar.specs.Placed.{HasPlaced}
use Rattle.param_grammar.specs.Places.{IsPlaced, no_piece, piece_in}
use Rattle.param_grammar.specs.private.Marked.{tokens_in, tokens_of}
use Rattle.param_grammar.proofs.MarkedLemmas.{HasTokens-marks}
use Rattle.param_grammar.proofs.PlaceLemmas.{ArePlaced-at, ArePlaced-length}
use Rattle.param_2231.specs.Layout.{ParamPieces, GivesWhere, PieceGives, PiecesGive}
use Rattle.param_2231.specs.private.Given.{is_ascii_role}
use Rattle.param_2231.specs.private.Parts.{IsWritableUnit}
use Rattle.param_2231.specs.private.Lines.{line_after, lines_after, AddsAfter}
use Rattle.param_2231.proofs.ParamsSome.{unit_at-writable}

-- ---- main parts

pub same_test : (b : Bool) (xs ys : List ℕ) → ((b ≡ true) ↔ (xs ≡ ys)) → b ≡ bytes_eq xs ys
same_test true xs ys h = sym ((bytes_eq-Decides xs ys).1 (h.0 refl))
same_test false xs ys h = elim (cases_Bool (bytes_eq xs ys)) [
  | inl t ↦ absurd (true≢false (sym (h.1 ((bytes_eq-Decides xs ys).0 t))))
  | inr f ↦ sym f
]

-- ---- one piece

pub adds_written : (lead : List ℕ) (is_ascii further doubled : Bool) (written name : List ℕ) (unit : UnitValue) (old new : List ℕ) → is_ascii ≡ true → new ≡ old ++ line_after lead written
    → AddsAfter lead (GivesWhere is_ascii further doubled written name unit) old new
adds_written lead true further doubled written name unit old new e put = record {
  pieces = written ∷ [];
  holds = refl;
  added = put ∙ ap (λ r. old ++ r) (sym (append-nil (line_after lead written)));
}
adds_written lead false further doubled written name unit old new e put = cc e

pub adds_none : (lead : List ℕ) (is_ascii further doubled : Bool) (written name : List ℕ) (unit : UnitValue) (old : List ℕ) → is_ascii ≡ false → further ≡ true
    → AddsAfter lead (GivesWhere is_ascii further doubled written name unit) old old
adds_none lead true further doubled written name unit old e f = cc e
adds_none lead false false doubled written name unit old e f = cc f
adds_none lead false true doubled written name unit old e f = record { pieces = []; holds = refl; added = sym (append-nil old) }

pub adds_param : (lead : List ℕ) (is_ascii further doubled is_doubled : Bool) (written name : List ℕ) (unit : UnitValue) (old new : List ℕ) → is_ascii ≡ false → further ≡ false → is_doubled ≡ doubled
    → AddsAfter lead (ParamPieces is_doubled name unit) old new → AddsAfter lead (GivesWhere is_ascii further doubled written name unit) old new
adds_param lead true further doubled is_doubled written name unit old new e f d adds = cc e
adds_param lead false true doubled is_doubled written name unit old new e f d adds = cc f
adds_param lead false false doubled is_doubled written name unit old new e f d adds = subst (λ k. AddsAfter lead (ParamPieces k name unit) old new) d adds

-- ---- a piece by its place

number_within : (text : List ℕ) (placed : Placed) (pieces : List Piece) (number : ℕ) → HasPlaced text placed pieces → number < length placed.places.items → number < length pieces
number_within text placed pieces number has within = omega (arith, within, ArePlaced-length text placed.places.items pieces has.are_placed)

pub role_within : (text : List ℕ) (placed : Placed) (pieces : List Piece) (number : ℕ) → HasPlaced text placed pieces → number < length placed.places.items → number < length placed.roles.items
role_within text placed pieces number has within = omega (arith, number_within text placed pieces number has within, has.counted)

pub role_is : (text : List ℕ) (placed : Placed) (pieces : List Piece) (number : ℕ) (role : Role) → HasPlaced text placed pieces → number < length placed.places.items
    → role ≡ get_or placed.roles.items number role → IsRole pieces (take number pieces) (piece_in pieces number) role
role_is text placed pieces number role has within read =
    subst (IsRole pieces (take number pieces) (piece_in pieces number)) (sym read) (has.roles number role (number_within text placed pieces number has within))

pub place_is : (text : List ℕ) (placed : Placed) (pieces : List Piece) (number : ℕ) (place : Place) → HasPlaced text placed pieces → number < length placed.places.items
    → place ≡ get_or placed.places.items number place → IsPlaced text place (piece_in pieces number)
place_is text placed pieces number place has within read =
    subst (λ p. IsPlaced text p (piece_in pieces number)) (sym read) (ArePlaced-at text placed.places.items pieces number place has.are_placed within)

pub param_named : (lead : List ℕ) (doubled : Bool) (name base : List ℕ) (unit value : UnitValue) (old new : List ℕ) → name ≡ base → unit ≡ value
    → AddsAfter lead (ParamPieces doubled name unit) old new → AddsAfter lead (ParamPieces doubled base value) old new
param_named lead doubled name base unit value old new e f adds =
    subst (λ k. AddsAfter lead (ParamPieces doubled base k) old new) f (subst (λ k. AddsAfter lead (ParamPieces doubled k unit) old new) e adds)

pub unit_placed : (pieces : List Piece) (number : ℕ) (unit : UnitValue) → unit ≡ unit_at pieces (piece_in pieces number) → IsWritableUnit unit
unit_placed pieces number unit is = subst IsWritableUnit (sym is) (unit_at-writable pieces (piece_in pieces number))

role_ascii : (all before : List Piece) (piece : Piece) (role : Role) → IsRole all before piece role → is_ascii_role role ≡ is_ascii_parameter all piece
role_ascii all before piece (GoesOn is_ascii) is = is.1
role_ascii all before piece (Begins is_ascii doubled) is = is.1

-- the piece of this number gives these
abbrev pub NumberGives : List Piece → ℕ → List (List ℕ) → Type 0
NumberGives pieces number made = PieceGives pieces (params_of pieces) (take number pieces) (piece_in pieces number) made

pub gives_written : (lead : List ℕ) (pieces : List Piece) (number : ℕ) (role : Role) (old new : List ℕ) → IsRole pieces (take number pieces) (piece_in pieces number) role → is_ascii_role role ≡ true
    → new ≡ old ++ line_after lead (piece_in pieces number).written → AddsAfter lead (NumberGives pieces number) old new
gives_written lead pieces number role old new is ascii put =
    let piece = piece_in pieces number in
    adds_written lead (is_ascii_parameter pieces piece) (goes_on (take number pieces) piece) (is_doubled (params_of pieces) piece.base) piece.written piece.base (unit_at pieces piece) old new
    (sym (role_ascii pieces (take number pieces) piece role is) ∙ ascii) put

pub gives_none : (lead : List ℕ) (pieces : List Piece) (number : ℕ) (is_ascii : Bool) (role : Role) (old : List ℕ) → IsRole pieces (take number pieces) (piece_in pieces number) role
    → is_ascii_role role ≡ false → role ≡ GoesOn is_ascii → AddsAfter lead (NumberGives pieces number) old old
gives_none lead pieces number is_ascii role old is ascii e =
    let piece = piece_in pieces number in
    let goes : IsRole pieces (take number pieces) piece (GoesOn is_ascii) = subst (IsRole pieces (take number pieces) piece) e is in
    adds_none lead (is_ascii_parameter pieces piece) (goes_on (take number pieces) piece) (is_doubled (params_of pieces) piece.base) piece.written piece.base (unit_at pieces piece) old
    (sym (role_ascii pieces (take number pieces) piece role is) ∙ ascii) goes.0

pub gives_param : (lead : List ℕ) (pieces : List Piece) (number : ℕ) (is_ascii doubled : Bool) (role : Role) (old new : List ℕ) → IsRole pieces (take number pieces) (piece_in pieces number) role
    → is_ascii_role role ≡ false → role ≡ Begins is_ascii doubled → AddsAfter lead (ParamPieces doubled (piece_in pieces number).base (unit_at pieces (piece_in pieces number))) old new
    → AddsAfter lead (NumberGives pieces number) old new
gives_param lead pieces number is_ascii doubled role old new is ascii e adds =
    let piece = piece_in pieces number in
    let begins : IsRole pieces (take number pieces) piece (Begins is_ascii doubled) = subst (IsRole pieces (take number pieces) piece) e is in
    adds_param lead (is_ascii_parameter pieces piece) (goes_on (take number pieces) piece) (is_doubled (params_of pieces) piece.base) doubled piece.written piece.base (unit_at pieces piece) old new
    (sym (role_ascii pieces (take number pieces) piece role is) ∙ ascii) begins.0 begins.2 adds

-- ---- all pieces

-- What the pieces before this number gave was put: what those after give completes it.
abbrev pub PiecesLeft : List ℕ → List ℕ → Placed → ℕ → List ℕ → List ℕ → Type 0
PiecesLeft lead text placed number old mid = (all : List Piece) → HasPlaced text placed all → (given : List (List ℕ))
    → PiecesGive all (params_of all) (take number all) (drop number all) given → AddsAfter lead (PiecesGive all (params_of all) [] all) old (mid ++ lines_after lead given)

pub PiecesLeft-all : (lead text : List ℕ) (placed : Placed) (old : List ℕ) → PiecesLeft lead text placed 0 old old
PiecesLeft-all lead text placed old all has given gives = record { pieces = given; holds = gives; added = refl }

pub PiecesLeft-next : (lead text : List ℕ) (placed : Placed) (number : ℕ) (old mid new : List ℕ) → number < length placed.places.items → PiecesLeft lead text placed number old mid
    → ((all : List Piece) → HasPlaced text placed all → AddsAfter lead (PieceGives all (params_of all) (take number all) (piece_in all number)) mid new) → PiecesLeft lead text placed (number + 1) old new
PiecesLeft-next lead text placed number old mid new within left step all has given gives =
    let below = number_within text placed all number has within in
    let adds = step all has in
    let others : PiecesGive all (params_of all) (take number all ++ piece_in all number ∷ []) (drop (number + 1) all) given
    = subst (λ b. PiecesGive all (params_of all) b (drop (number + 1) all) given) (take_more all number no_piece below) gives in
    let both : PiecesGive all (params_of all) (take number all) (piece_in all number ∷ drop (number + 1) all) (adds.pieces ++ given) = (adds.pieces, given, refl, adds.holds, others) in
    let whole = left all has (adds.pieces ++ given) (subst (λ b. PiecesGive all (params_of all) (take number all) b (adds.pieces ++ given)) (sym (drop_more all number no_piece below)) both) in
    let put : mid ++ lines_after lead (adds.pieces ++ given) ≡ new ++ lines_after lead given
    = ap (λ r. mid ++ r) (flat_map-append (line_after lead) adds.pieces given) ∙ sym (append_assoc mid (lines_after lead adds.pieces) (lines_after lead given))
    ∙ ap (λ r. r ++ lines_after lead given) (sym adds.added) in
    subst (AddsAfter lead (PiecesGive all (params_of all) [] all) old) put whole

pub PiecesLeft-end : (lead text : List ℕ) (placed : Placed) (number : ℕ) (old mid : List ℕ) → length placed.places.items ≤ number → PiecesLeft lead text placed number old mid
    → (all : List Piece) → HasPlaced text placed all → AddsAfter lead (PiecesGive all (params_of all) [] all) old mid
PiecesLeft-end lead text placed number old mid end left all has =
    let none : drop number all ≡ [] = drop_all number all (omega (arith, end, ArePlaced-length text placed.places.items all has.are_placed)) in
    let gives : PiecesGive all (params_of all) (take number all) (drop number all) [] = subst (λ b. PiecesGive all (params_of all) (take number all) b []) (sym none) refl in
    subst (AddsAfter lead (PiecesGive all (params_of all) [] all) old) (append-nil mid) (left all has [] gives)

-- ---- comments

-- the comments of a text's tokens can be written
pub writable_comments : (text : List ℕ) (tokens values : List TokenValue) → HasTokenValues Mime text tokens → values ≡ tokens → AreWritableComments (comments_of values)
writable_comments text tokens values has same = subst (λ ts. AreWritableComments (comments_of ts)) (sym same) (comments_are_writable Mime tokens text has.are_tokens has.is_line)

-- the pieces of the comments of one list of a text's tokens are those of any other
pub same_comments : (text : List ℕ) (tokens values others : List TokenValue) (old new : List ℕ) → HasTokenValues Mime text tokens → values ≡ tokens → HasTokenValues Mime text others
    → AddsLines (CommentsPieces (comments_of values)) old new → AddsLines (CommentsPieces (comments_of others)) old new
same_comments text tokens values others old new has same other adds =
    subst (λ ts. AddsLines (CommentsPieces (comments_of ts)) old new) (same ∙ AreTokens-once Mime text tokens others has.are_tokens other.are_tokens) adds

-- ---- the whole

-- tokens by the marks of a text
pub tokens_told : (text : List ℕ) (marks now : List Mark) (tokens : Tokens) → HasTokenValues Mime text (lexemes_in text marks) → tokens_of tokens ≡ tokens_in (length text) 0 now → now ≡ marks
    → HasTokens Mime text (tokens_of tokens)
tokens_told text marks now tokens has told same = subst (HasTokens Mime text) (sym (told ∙ ap (tokens_in (length text) 0) same)) (HasTokens-marks text marks has)

pub no_tokens : (kind : ParamKind) (text : List ℕ) → ((tokens : List Token) → HasTokens Mime text tokens → ⊥) → (main : List ℕ) (params : List ParamValue) → HasSaidBody kind text main params → ⊥
no_tokens kind text none main params b = none b.tokens b.has_tokens
