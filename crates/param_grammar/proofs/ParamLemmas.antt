-- The parameters of pieces with their roles.
use Rattle.std.proofs.Common.{◌≡◌, ℕ, ◌+◌, ◌<◌, ◌≤◌, Bool, true, false, if◌then◌else◌, List, [], ◌∷◌, ◌++◌, length, take, drop, map, get_or, Result, Err, refl, sym, ap, ◌∙◌, subst, arith}
use Rattle.std.proofs.lemmas.List.{append-nil, append_assoc, map-append, take_more, drop_more, drop_all}
use Rattle.encoded_words.specs.Words.{UnitValue}
use Rattle.encoded_words.specs.private.Values.{value_of}
use Rattle.field_tokens.specs.Trees.{Tree}
use Rattle.field_tokens.specs.declared.Style.TheVariants.{Mime}
use Rattle.field_tokens.specs.declared.Token.{Token}
use Rattle.field_tokens.specs.Squeezed.{is_comment}
use Rattle.field_tokens.specs.Tokens.{HasTokens}
use Rattle.field_tokens.proofs.TokenLists.{HasTokens-once}
use Rattle.param_grammar.specs.declared.Body.{Body}
use Rattle.param_grammar.specs.declared.Param.{Param}
use Rattle.param_grammar.specs.declared.ParamFault.{ParamFault}
use Rattle.param_grammar.specs.declared.ParamFault.TheVariants.{Malformed, Memory}
use Rattle.param_grammar.specs.declared.ParamKind.{ParamKind}
use Rattle.param_grammar.specs.declared.Piece.{Piece}
use Rattle.param_grammar.specs.declared.role.Placed.{Placed}
use Rattle.param_grammar.specs.declared.role.Role.{Role}
use Rattle.param_grammar.specs.declared.role.Role.TheVariants.{GoesOn, Begins}
use Rattle.param_grammar.specs.Bodies.{HaveComments, IsBody, WritesBody}
use Rattle.param_grammar.specs.Joining.{AreParams, HasParams, HasSaidBody, IsRole, ParamValue, goes_on, param_value, params_after, params_of, unit_at}
use Rattle.param_grammar.specs.Placed.{HasPlaced, HasBodyAt}
use Rattle.param_grammar.specs.Places.{no_piece, piece_in}
use Rattle.param_grammar.specs.private.Beginning.{begun_at}
use Rattle.param_grammar.proofs.BodyLemmas.{IsBody-once}
use Rattle.param_grammar.proofs.PlaceLemmas.{ArePlaced-length}
use Rattle.std.specs.Str.{str_to_ascii_lowercase}
use Rattle.std.specs.Prelude.{filter}

-- ---- one piece

abbrev param_at : List Piece → ℕ → ParamValue
param_at pieces number = record { name = (piece_in pieces number).base; unit = unit_at pieces (piece_in pieces number) }

pub begun-goes_on : (pieces : List Piece) (number : ℕ) (role : Role) (said : Bool) → role ≡ GoesOn said → IsRole pieces (take number pieces) (piece_in pieces number) role → begun_at pieces number ≡ []
begun-goes_on pieces number (GoesOn ascii) said e is = ap (λ b. if b then [] else param_at pieces number ∷ []) is.0
begun-goes_on pieces number (Begins ascii doubled) said e is = absurd cc

pub begun-begins : (pieces : List Piece) (number : ℕ) (role : Role) (said also : Bool) → role ≡ Begins said also → IsRole pieces (take number pieces) (piece_in pieces number) role
    → begun_at pieces number ≡ param_at pieces number ∷ []
begun-begins pieces number (GoesOn ascii) said also e is = absurd cc
begun-begins pieces number (Begins ascii doubled) said also e is = ap (λ b. if b then [] else param_at pieces number ∷ []) is.0

pub nothing_begun : (old : List Param) (pieces : List Piece) (number : ℕ) → begun_at pieces number ≡ [] → map param_value old ≡ map param_value old ++ begun_at pieces number
nothing_begun old pieces number none = sym (ap (λ r. map param_value old ++ r) none ∙ append-nil (map param_value old))

pub one_begun : (old : List Param) (param : Param) (pieces : List Piece) (number : ℕ) → begun_at pieces number ≡ param_at pieces number ∷ [] → param.name ≡ (piece_in pieces number).base
    → value_of param.value ≡ unit_at pieces (piece_in pieces number) → map param_value (old ++ param ∷ []) ≡ map param_value old ++ begun_at pieces number
one_begun old param pieces number one name unit =
    let same : param_value param ≡ param_at pieces number = made _ _ _ _ name unit in
    map-append param_value old (param ∷ []) ∙ ap (λ p. map param_value old ++ p ∷ []) same ∙ ap (λ r. map param_value old ++ r) (sym one)
  where
    value : List ℕ → UnitValue → ParamValue
    value a u = record { name = a; unit = u }

    made : (a b : List ℕ) (u v : UnitValue) → a ≡ b → u ≡ v → value a u ≡ value b v
    made a b u v e f = ap (λ n. value n u) e ∙ ap (value b) f

-- ---- all pieces

after_one : (b : Bool) (param : ParamValue) (params : List ParamValue) → (if b then params else param ∷ params) ≡ (if b then [] else param ∷ []) ++ params
after_one true param params = refl
after_one false param params = refl

-- The parameters are made of the first pieces.
abbrev pub ParamsGo : List Piece → ℕ → List ParamValue → Type 0
ParamsGo pieces number made = params_of pieces ≡ made ++ params_after pieces (take number pieces) (drop number pieces)

pub ParamsGo-turn : (pieces : List Piece) (number : ℕ) (made new : List ParamValue) → number < length pieces → new ≡ made ++ begun_at pieces number → ParamsGo pieces number made
    → ParamsGo pieces (number + 1) new
ParamsGo-turn pieces number made new l more go =
    let rest = drop (number + 1) pieces in
    let past : take number pieces ++ piece_in pieces number ∷ [] ≡ take (number + 1) pieces = sym (take_more pieces number no_piece l) in
    let next = params_after pieces (take number pieces ++ piece_in pieces number ∷ []) rest in
    go ∙ ap (λ r. made ++ params_after pieces (take number pieces) r) (drop_more pieces number no_piece l)
    ∙ ap (λ r. made ++ r) (after_one (goes_on (take number pieces) (piece_in pieces number)) (param_at pieces number) next)
    ∙ sym (append_assoc made (begun_at pieces number) next) ∙ ap (λ r. r ++ next) (sym more) ∙ ap (λ before. new ++ params_after pieces before rest) past

pub ParamsGo-end : (pieces : List Piece) (number : ℕ) (made : List ParamValue) → length pieces ≤ number → ParamsGo pieces number made → made ≡ params_of pieces
ParamsGo-end pieces number made l go =
    sym (go ∙ ap (λ rest. made ++ params_after pieces (take number pieces) rest) (drop_all number pieces l) ∙ append-nil made)

pub placed_count : (text : List ℕ) (placed : Placed) (pieces : List Piece) → HasPlaced text placed pieces → length pieces ≡ length placed.places.items
placed_count text placed pieces has = ArePlaced-length text placed.places.items pieces has.are_placed

pub role_read : (text : List ℕ) (placed : Placed) (pieces : List Piece) (number : ℕ) (role : Role) → HasPlaced text placed pieces → number < length placed.places.items
    → role ≡ get_or placed.roles.items number role → IsRole pieces (take number pieces) (piece_in pieces number) role
role_read text placed pieces number role has l e =
    let n = placed_count text placed pieces has in
    subst (IsRole pieces (take number pieces) (piece_in pieces number)) (sym e) (has.roles number role (omega (arith, n, l)))

-- ---- of a text

-- an answer has one fault
pub fault_is : {T : Type 0} (r : Result T ParamFault) (f g : ParamFault) → r ≡ Err f → f ≡ g → r ≡ Err Malformed → g ≡ Malformed
fault_is r f g p q e = let same : f ≡ Malformed = cc (sym p ∙ e) in sym q ∙ same

pub fault_memory : (f : ParamFault) → (f ≡ Malformed → ⊥) → f ≡ Memory
fault_memory Malformed not = absurd (not refl)
fault_memory Memory not = refl

pub HasParams-said : (kind : ParamKind) (text main : List ℕ) (params : List ParamValue) (comments : List Tree) → HasParams kind text main params comments → HasSaidBody kind text main params
HasParams-said kind text main params comments has = record {
  tokens = has.body.tokens;
  has_tokens = has.body.has_tokens;
  pieces = has.pieces;
  is_body = has.body.is_body;
  are_params = has.are_params;
}

pub HasParams-at : (kind : ParamKind) (text : List ℕ) (body : Body) (params : List ParamValue) (comments : List Tree) (tokens : List Token) → (has : HasBodyAt kind text body) → HasTokens Mime text tokens
    → HaveComments text (filter (λ (token : Token). is_comment token.kind) tokens) comments → params ≡ params_of has.pieces → HasParams kind text body.main params comments
HasParams-at kind text body params comments tokens has also have are = record {
  pieces = has.pieces;
  body = record {
    tokens = has.tokens;
    has_tokens = has.has_tokens;
    is_body = has.is_body;
    have_comments = subst (λ ts. HaveComments text (filter (λ (token : Token). is_comment token.kind) ts) comments) (HasTokens-once Mime text tokens has.tokens also has.has_tokens) have;
  };
  are_params = record { are_numbered = has.has_placed.are_numbered; params_are = are };
}

-- ---- bodies

pub HasBodyAt-read : (kind : ParamKind) (text written : List ℕ) (body : Body) (tokens : List Token) (pieces : List Piece) → HasTokens Mime text tokens → WritesBody kind text tokens written pieces
    → body.main ≡ str_to_ascii_lowercase written → HasPlaced text body.placed pieces → HasBodyAt kind text body
HasBodyAt-read kind text written body tokens pieces has writes e placed = record {
  tokens = tokens;
  has_tokens = has;
  pieces = pieces;
  is_body = subst (λ m. IsBody kind text tokens m pieces) (sym e) writes.body;
  has_placed = placed;
}

pub not-HasSaidBody-tokens : (kind : ParamKind) (text : List ℕ) → ((tokens : List Token) → HasTokens Mime text tokens → ⊥)
    → (main : List ℕ) (params : List ParamValue) → HasSaidBody kind text main params → ⊥
not-HasSaidBody-tokens kind text none main params has = none has.tokens has.has_tokens

pub not-HasSaidBody-parts : (kind : ParamKind) (text : List ℕ) (tokens : List Token) → HasTokens Mime text tokens → ((main : List ℕ) (pieces : List Piece) → IsBody kind text tokens main pieces → ⊥)
    → (main : List ℕ) (params : List ParamValue) → HasSaidBody kind text main params → ⊥
not-HasSaidBody-parts kind text tokens also none main params has =
    none main has.pieces (subst (λ ts. IsBody kind text ts main has.pieces) (HasTokens-once Mime text has.tokens tokens has.has_tokens also) has.is_body)

pub not-HasSaidBody-params : (kind : ParamKind) (text written : List ℕ) (tokens : List Token) (pieces : List Piece) → HasTokens Mime text tokens → WritesBody kind text tokens written pieces
    → ((params : List ParamValue) → AreParams pieces params → ⊥) → (main : List ℕ) (params : List ParamValue) → HasSaidBody kind text main params → ⊥
not-HasSaidBody-params kind text written tokens pieces also writes none main params has =
    let same = subst (λ ts. IsBody kind text ts main has.pieces) (HasTokens-once Mime text has.tokens tokens has.has_tokens also) has.is_body in
    let once = IsBody-once kind text tokens main (str_to_ascii_lowercase written) has.pieces pieces same writes.body in
    none params (subst (λ ps. AreParams ps params) once.1 has.are_params)
