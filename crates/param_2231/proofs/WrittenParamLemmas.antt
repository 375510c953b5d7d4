-- The pieces of one parameter of some text are read as that parameter after any main part.
use Rattle.std.proofs.Common.{◌≡◌, ◌≤◌, slice_index_or, ℕ, Bool, true, false, ◌&&◌, nat_lt, if◌then◌else◌, inl, inr, List, [], ◌∷◌, ◌++◌, length, map, None, All, refl, sym, ap, ◌∙◌, subst, arith}
use Rattle.std.proofs.lemmas.Bool.{cases_Bool, true≢false, and_parts, cond-true, cond-false}
use Rattle.std.proofs.lemmas.Slice.Eq.{bytes_eq-Decides}
use Rattle.std.proofs.lemmas.List.{append-nil}
use Rattle.std.proofs.lemmas.List.Elements.{All-nil, All-cons, All-contains}
use Rattle.std.specs.List.{AllByRecursion, list_all, join_with_byte}
use Rattle.std.specs.Str.{bytes_eq, str_to_ascii_lowercase}
use Rattle.encoded_words.specs.Words.{UnitValue}
use Rattle.field_tokens.specs.declared.Style.TheVariants.{Mime}
use Rattle.field_tokens.specs.declared.Token.{Token}
use Rattle.field_tokens.specs.declared.TokenKind.{TokenKind}
use Rattle.field_tokens.specs.declared.TokenKind.TheVariants.{Atom, Quoted, Literal, Special, Gap, Comment}
use Rattle.field_tokens.specs.Tokens.{IsToken, octets_at, HasTokens}
use Rattle.field_tokens.specs.Squeezed.{is_blank, run_octets, octets_of, is_atom_kind}
use Rattle.encoded_words.specs.Folding.{AddsLines}
use Rattle.param_2231.specs.private.Lines.{AddsAfter}
use Rattle.mail_wire.specs.Octets.{is_white}
use Rattle.field_tokens.proofs.Parts.{octets_of-tokens}
use Rattle.field_tokens.proofs.SqueezedValues.{value_at, values_at, AreKept}
use Rattle.param_grammar.specs.declared.ParamKind.{ParamKind}
use Rattle.param_grammar.specs.declared.ParamKind.TheVariants.{Content, Disposition}
use Rattle.param_grammar.specs.declared.Piece.{Piece}
use Rattle.param_grammar.specs.Bodies.{is_main, is_ascii_atom, is_mark_at}
use Rattle.encoded_words.specs.private.Values.{value_of}
use Rattle.field_tokens.specs.Trees.{Tree}
use Rattle.param_grammar.specs.declared.Param.{Param}
use Rattle.param_grammar.proofs.SaidTrees.{HasParams-says}
use Rattle.param_grammar.specs.Joining.{ParamValue, HasParams, param_value, unit_at, goes_on, params_after, params_of, AreParams, is_doubled, HasSaidBody, SaysParams}
use Rattle.param_2231.specs.Layout.{charset_of, octets_in, with_semicolons, ParamPieces}
use Rattle.param_2231.specs.private.Parts.{IsWritableUnit}
use Rattle.param_2231.specs.ParamsReadBack.{AreParamsAgain}
use Rattle.param_2231.specs.WrittenParam.{ComesInParams, IsMainText, ReadsAsOne}
use Rattle.param_2231.proofs.CoresAgain.{octets-at, HasCore}
use Rattle.param_2231.proofs.PlacedAgain.{heads, tokens_placed, CanBeCopied, body_copied, IsPlaced}
use Rattle.param_2231.proofs.WordsAgain.{CanBeWritten}
use Rattle.param_2231.proofs.MadePiecesAgain.{IsName, GivesMade, OneMade, SeriesMade, AreGiven, param_given, written_all}
use Rattle.param_2231.proofs.JoinedAgain.{IsSeries, StandsFor, One, Series, StandForAll, AreParams-again}
use Rattle.param_2231.proofs.GivenAgain.{IsGood, core_name, core_good, all_good, unit_at_writes}
use Rattle.param_2231.proofs.MainAgain.{MainAgain, main_again}
use Rattle.param_2231.proofs.ParamsAgain.{made_again}
use Rattle.param_2231.proofs.ParamsSome.{unit_at-writable}
use Rattle.param_2231.proofs.GlobalLemmas.{kind_is}

-- ---- what is known of a parameter of a text

record IsSaid (param : ParamValue) : Type 0 where
  name : IsName param.name
  can : CanBeWritten param.unit
  writable : IsWritableUnit param.unit

params_said : (all before pieces : List Piece) → AllByRecursion IsGood all → AllByRecursion HasCore pieces → All IsSaid (params_after all before pieces)
params_said all before [] good cores = All-nil IsSaid
params_said all before (piece ∷ more) good cores =
    let others : All IsSaid (params_after all (before ++ piece ∷ []) more) = params_said all (before ++ piece ∷ []) more good cores.1 in
    let param : ParamValue = record { name = piece.base; unit = unit_at all piece } in
    let said : IsSaid param = record {
      name = core_name piece cores.0;
      can = unit_at_writes all piece good (core_good piece cores.0);
      writable = unit_at-writable all piece;
    } in
    elim (cases_Bool (goes_on before piece)) [
      | inl t ↦ subst (All IsSaid) (sym (cond-true _ _ _ t)) others
      | inr f ↦ subst (All IsSaid) (sym (cond-false _ _ _ f)) (All-cons IsSaid param (params_after all (before ++ piece ∷ []) more) said others)
    ]

comes_said : (name : List ℕ) (unit : UnitValue) → ComesInParams name unit → IsSaid (record { name = name; unit = unit })
comes_said name unit comes =
    let b : HasSaidBody comes.kind comes.text comes.main comes.params = comes.says.body in
    let left : CanBeCopied comes.text b.pieces b.is_body.first = body_copied comes.kind comes.text b.tokens comes.main b.pieces b.has_tokens b.is_body in
    let said : All IsSaid comes.params = subst (All IsSaid) (sym b.are_params.params_are) (params_said b.pieces [] b.pieces (all_good b.pieces left.cores) left.cores) in
    All-contains IsSaid comes.params (record { name = name; unit = unit }) said comes.among

pub ComesInParams-name : (name : List ℕ) (unit : UnitValue) → ComesInParams name unit → IsName name
ComesInParams-name name unit comes = (comes_said name unit comes).name

pub ComesInParams-can : (name : List ℕ) (unit : UnitValue) → ComesInParams name unit → CanBeWritten unit
ComesInParams-can name unit comes = (comes_said name unit comes).can

pub ComesInParams-writable : (name : List ℕ) (unit : UnitValue) → ComesInParams name unit → IsWritableUnit unit
ComesInParams-writable name unit comes = (comes_said name unit comes).writable

-- ---- the main part

mark_kept : (kind : TokenKind) (octets rest : List ℕ) → octets ≡ 47 ∷ [] → IsToken Mime kind octets rest → is_blank kind ≡ false
mark_kept Atom octets rest e is = refl
mark_kept Quoted octets rest e is = refl
mark_kept Literal octets rest e is = refl
mark_kept Special octets rest e is = refl
mark_kept Gap octets rest e is = absurd (true≢false (sym (subst (λ o. list_all is_white o ≡ true) e is.1.passes)))
mark_kept Comment octets rest e is = let same = heads 47 40 [] _ (sym e ∙ is.spelled) in absurd (omega (arith, same))

atom_kept : (text : List ℕ) (t : Token) → is_ascii_atom text t ≡ true → is_blank t.kind ≡ false
atom_kept text t h = ap is_blank (kind_is t.kind (and_parts (is_atom_kind t.kind) _ h).0)

main_kept : (kind : ParamKind) (text : List ℕ) (ts : List Token) → AllByRecursion (IsPlaced text) ts → is_main kind text ts ≡ true → AreKept (map (value_at text) ts)
main_kept Content text [] placed h = tt
main_kept Content text (a ∷ []) placed h = absurd (true≢false (sym h))
main_kept Content text (a ∷ b ∷ []) placed h = absurd (true≢false (sym h))
main_kept Content text (a ∷ b ∷ c ∷ d ∷ more) placed h = absurd (true≢false (sym h))
main_kept Disposition text [] placed h = tt
main_kept Disposition text (a ∷ b ∷ more) placed h = absurd (true≢false (sym h))
main_kept Disposition text (a ∷ []) placed h = (atom_kept text a h, tt)
main_kept Content text (a ∷ b ∷ c ∷ []) placed h =
    let one = and_parts (is_ascii_atom text a) (is_mark_at text 47 b && is_ascii_atom text c) h in
    let two = and_parts (is_mark_at text 47 b) (is_ascii_atom text c) one.1 in
    let mark : octets_at text b.span ≡ 47 ∷ [] = (bytes_eq-Decides (octets_at text b.span) (47 ∷ [])).0 two.0 in
    (atom_kept text a one.0, (mark_kept b.kind (octets_at text b.span) _ mark placed.1.0.is_token, (atom_kept text c two.1, tt)))

main_run : (text : List ℕ) (tokens : List Token) → HasTokens Mime text tokens → run_octets text tokens ≡ text
main_run text tokens has =
    sym (octets-at text tokens) ∙ ap (λ ts. octets_of (map (value_at text) ts)) has.placed ∙ ap octets_of (values_at Mime text has.values has.are_tokens)
    ∙ octets_of-tokens Mime has.values text has.are_tokens

-- a main part alone can stand before pieces
main_alone : (kind : ParamKind) (main : List ℕ) → IsMainText kind main → MainAgain kind (str_to_ascii_lowercase main) main
main_alone kind main is =
    let run : run_octets main is.tokens ≡ main = main_run main is.tokens is.has_tokens in
    let placed = tokens_placed main is.tokens is.has_tokens in
    let again : MainAgain kind (str_to_ascii_lowercase (run_octets main is.tokens)) (run_octets main is.tokens) =
    main_again kind false main (str_to_ascii_lowercase (run_octets main is.tokens)) is.tokens placed (main_kept kind main is.tokens placed is.is_main_part) is.is_main_part refl in
    subst (λ r. MainAgain kind (str_to_ascii_lowercase r) r) run again

-- ---- the pieces

-- a piece of this name that is not ASCII and says the unit
abbrev original : List ℕ → UnitValue → Piece
original name unit = record { base = name; number = None; charset = charset_of unit; octets = octets_in unit; written = 128 ∷ [] }

single_most : (b : Bool) (param : ParamValue) → nat_lt 1 (length (if b then param ∷ [] else [])) ≡ false
single_most true param = refl
single_most false param = refl

original_single : (name : List ℕ) (unit : UnitValue) → is_doubled (params_of (original name unit ∷ [])) name ≡ false
original_single name unit = single_most (bytes_eq name name) (record { name = name; unit = unit_at (original name unit ∷ []) (original name unit) })

original_params : (name : List ℕ) (unit : UnitValue) → CanBeWritten unit → AreParams (original name unit ∷ []) (record { name = name; unit = unit } ∷ [])
original_params name unit can = record {
  are_numbered = λ base n l. absurd (omega (arith, l));
  params_are = ap (λ u. record { name = name; unit = u } ∷ []) (sym can.again);
}

made_stands : (name : List ℕ) (unit : UnitValue) (made : List Piece) → CanBeWritten unit → GivesMade false name unit made → StandsFor (original name unit ∷ []) [] (original name unit) made
made_stands name unit made can (OneMade m number named is e) = One refl refl m number named (is ∙ sym can.again) e
made_stands name unit made can (SeriesMade single series) = Series refl refl (original_single name unit) (subst (λ u. IsSeries name u made) (sym can.again) series)

made_params : (name : List ℕ) (unit : UnitValue) (made : List Piece) → CanBeWritten unit → GivesMade false name unit made → AreParams made (record { name = name; unit = unit } ∷ [])
made_params name unit made can gives =
    let all : List Piece = original name unit ∷ [] in
    let stand : StandForAll all [] all made = (made, [], sym (append-nil made), made_stands name unit made can gives, refl) in
    AreParams-again all made (record { name = name; unit = unit } ∷ []) stand (original_params name unit can)

pub ParamPieces-reads : (name : List ℕ) (unit : UnitValue) (pieces : List (List ℕ)) → ComesInParams name unit → ParamPieces false name unit pieces → ReadsAsOne name unit pieces
ParamPieces-reads name unit pieces comes are kind main is =
    let can : CanBeWritten unit = ComesInParams-can name unit comes in
    let given : AreGiven false name unit pieces = param_given false name unit pieces (ComesInParams-name name unit comes) can are in
    let params : List ParamValue = record { name = name; unit = unit } ∷ [] in
    let lower : List ℕ = str_to_ascii_lowercase main in
    let again : AreParamsAgain kind false lower params [] (with_semicolons (main ∷ written_all given.made) ++ []) =
    made_again kind false lower params [] main given.made [] [] (main_alone kind main is) given.are_made (made_params name unit given.made can given.gives) tt tt refl refl in
    let whole : with_semicolons (main ∷ written_all given.made) ++ [] ≡ with_semicolons (main ∷ pieces) =
    append-nil (with_semicolons (main ∷ written_all given.made)) ∙ ap (λ g. with_semicolons (main ∷ g)) (sym given.written) in
    subst (λ ps. SaysParams kind (join_with_byte 32 ps) lower params []) whole again.says

-- what holds the layout is read back
pub adds_reads : (name : List ℕ) (unit : UnitValue) (old new : List ℕ) → ComesInParams name unit → AddsLines (ParamPieces false name unit) old new → AddsLines (ReadsAsOne name unit) old new
adds_reads name unit old new comes adds = record { pieces = adds.pieces; holds = ParamPieces-reads name unit adds.pieces comes adds.holds; added = adds.added }

-- lines after nothing
pub after_nothing : (P : List (List ℕ) → Type 0) (old new : List ℕ) → AddsAfter [] P old new → AddsLines P old new
after_nothing P old new adds = record { pieces = adds.pieces; holds = adds.holds; added = adds.added }

-- the first of parameters that were read comes in a text
pub ComesInParams-first : (kind : ParamKind) (text main : List ℕ) (list items : List Param) (trees : List Tree) (first : Param) → HasParams kind text main (map param_value list) trees → items ≡ list
    → 1 ≤ length items → first ≡ slice_index_or items 0 first → ComesInParams first.name (value_of first.value)
ComesInParams-first kind text main list [] trees first has same some is = absurd (omega (arith, some))
ComesInParams-first kind text main list (item ∷ items) trees first has same some is =
    let said = HasParams-says kind text main (map param_value list) trees has in
    let params : map param_value list ≡ map param_value (item ∷ items) = ap (map param_value) (sym same) in
    record {
      kind = kind;
      text = text;
      main = main;
      params = map param_value (item ∷ items);
      comments = said.0;
      says = subst (λ ps. SaysParams kind text main ps said.0) params said.1;
      among = (0, omega arith, ap param_value (sym is));
    }
