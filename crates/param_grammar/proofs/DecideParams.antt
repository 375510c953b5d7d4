-- Whether a text says parameters is decided.
use Rattle.std.proofs.Common.{◌≡◌, ℕ, zero, suc, ◌<◌, ◌⊎◌, inl, inr, List, [], ◌∷◌, length, is_some, refl, ap, ◌∙◌, subst, arith}
use Rattle.std.proofs.lemmas.Bool.{cases_Bool, cases_lt, and_parts, cond-false}
use Rattle.std.proofs.lemmas.Slice.Eq.{bytes_eq-Decides}
use Rattle.std.specs.List.{AllByRecursion}
use Rattle.std.specs.Str.{bytes_eq}
use Rattle.field_tokens.specs.declared.Style.TheVariants.{Mime}
use Rattle.field_tokens.specs.declared.Token.{Token}
use Rattle.field_tokens.specs.Tokens.{tokens_from, HasTokens}
use Rattle.field_tokens.specs.Comments.{CommentValue}
use Rattle.field_tokens.proofs.DecideTokens.{decide_tokens}
use Rattle.param_grammar.specs.declared.ParamKind.{ParamKind}
use Rattle.param_grammar.specs.declared.Piece.{Piece}
use Rattle.param_grammar.specs.Joining.{is_part_of, parts_named, numbered, AreNumbered, ParamValue, params_of, AreParams, SaysParams}
use Rattle.param_grammar.proofs.BodyLemmas.{IsBody-once}
use Rattle.param_grammar.proofs.DecidePieces.{Found, decide_body}
use Rattle.param_grammar.proofs.SaidParams.{by_tokens, SaysSome, HasSaidBody-says}

-- ---- the numbers of one name

one_part : (ps : List Piece) → Found (λ (part : Piece). ps ≡ part ∷ [])
one_part [] = inr (λ part e. omega (arith, ap length e))
one_part (p ∷ []) = inl (p, refl)
one_part (p ∷ q ∷ ps) = inr (λ part e. omega (arith, ap length e))

abbrev HasOne : List Piece → ℕ → Type 0
HasOne parts n = (part : Piece) × (numbered n parts ≡ part ∷ [])

-- each number below a bound stands at one part, or some number doesn't
numbered_below : (parts : List Piece) (bound : ℕ) → ((n : ℕ) → n < bound → HasOne parts n) ⊎ ((n : ℕ) × (n < bound) × ((part : Piece) → ¬ (numbered n parts ≡ part ∷ [])))
numbered_below parts zero = inl (λ n l. absurd (omega (arith, l)))
numbered_below parts (suc bound) = elim (one_part (numbered bound parts)) [
  | inr none ↦ inr (bound, omega arith, none)
  | inl p ↦ elim (numbered_below parts bound) [
    | inr r ↦ inr (r.0, omega (arith, r.1), r.2)
    | inl all ↦ inl (λ n l. last n l p all)
  ]
]
  where
    last : (n : ℕ) → n < suc bound → HasOne parts bound → ((k : ℕ) → k < bound → HasOne parts k) → HasOne parts n
    last n l p all = elim (cases_lt n bound) [
      | inl less ↦ all n less
      | inr end ↦ let same : bound ≡ n = omega (arith, l, end) in subst (HasOne parts) same p
    ]

decide_numbered : (parts : List Piece) → AreNumbered parts ⊎ ¬ AreNumbered parts
decide_numbered parts = elim (numbered_below parts (length parts)) [
  | inl all ↦ inl all
  | inr r ↦ inr (λ are. let p = are r.0 r.1 in r.2 p.0 p.1)
]

none_numbered : (parts : List Piece) → parts ≡ [] → AreNumbered parts
none_numbered parts e n l = absurd (omega (arith, l, ap length e))

-- ---- all names

abbrev AreAllNumbered : List Piece → List Piece → Type 0
AreAllNumbered all ps = AllByRecursion (λ (p : Piece). AreNumbered (parts_named p.base all)) ps

decide_all : (all ps : List Piece) → AreAllNumbered all ps ⊎ ((base : List ℕ) × ¬ AreNumbered (parts_named base all))
decide_all all [] = inl tt
decide_all all (p ∷ ps) = elim (decide_numbered (parts_named p.base all)) [
  | inr other ↦ inr (p.base, other)
  | inl are ↦ elim (decide_all all ps) [
    | inr r ↦ inr r
    | inl more ↦ inl (are, more)
  ]
]

-- a name has no parts, or is the name of a piece
any_base : (all ps : List Piece) (base : List ℕ) → AreAllNumbered all ps → (parts_named base ps ≡ []) ⊎ AreNumbered (parts_named base all)
any_base all [] base are = inl refl
any_base all (p ∷ ps) base are = elim (cases_Bool (is_part_of base p)) [
  | inl is ↦ inr (subst (λ b. AreNumbered (parts_named b all)) ((bytes_eq-Decides p.base base).0 (and_parts (is_some p.number) (bytes_eq p.base base) is).1) are.0)
  | inr other ↦ elim (any_base all ps base are.1) [
    | inl none ↦ inl (cond-false _ _ _ other ∙ none)
    | inr named ↦ inr named
  ]
]

decide_are_params : (pieces : List Piece) → Found (AreParams pieces)
decide_are_params pieces = elim (decide_all pieces pieces) [
  | inr r ↦ inr (λ params are. r.1 (are.are_numbered r.0))
  | inl all ↦ inl (params_of pieces, record { are_numbered = λ base. of_name base all; params_are = refl })
]
  where
    of_name : (base : List ℕ) → AreAllNumbered pieces pieces → AreNumbered (parts_named base pieces)
    of_name base all = elim (any_base pieces pieces base all) [
      | inl none ↦ none_numbered (parts_named base pieces) none
      | inr named ↦ named
    ]

-- ---- texts

abbrev SaysNone : ParamKind → List ℕ → Type 0
SaysNone kind text = (main : List ℕ) (params : List ParamValue) (comments : List CommentValue) → ¬ SaysParams kind text main params comments

decide_with : (kind : ParamKind) (text : List ℕ) (tokens : List Token) → HasTokens Mime text tokens → SaysSome kind text ⊎ SaysNone kind text
decide_with kind text tokens has = elim (decide_body kind text tokens) [
  | inr none ↦ inr (λ main params comments says. none main says.body.pieces (by_tokens kind text main params tokens has says.body))
  | inl b ↦ elim (decide_are_params b.1) [
    | inl p ↦ inl (HasSaidBody-says kind text b.0 p.0 (record { tokens = tokens; has_tokens = has; pieces = b.1; is_body = b.2; are_params = p.1 }))
    | inr none ↦ inr (λ main params comments says.
        let same = (IsBody-once kind text tokens main b.0 says.body.pieces b.1 (by_tokens kind text main params tokens has says.body) b.2).1 in
        none params (subst (λ ps. AreParams ps params) same says.body.are_params))
  ]
]

-- A text says parameters, or it doesn't.
pub decide_params : (kind : ParamKind) (text : List ℕ) → SaysSome kind text ⊎ SaysNone kind text
decide_params kind text = elim (decide_tokens Mime text) [
  | inr none ↦ inr (λ main params comments says. none says.body.has_tokens.values (record { is_line = says.body.has_tokens.is_line; are_tokens = says.body.has_tokens.are_tokens }))
  | inl found ↦ decide_with kind text (tokens_from 0 found.0) (record { is_line = found.1.is_line; values = found.0; are_tokens = found.1.are_tokens; placed = refl })
]
