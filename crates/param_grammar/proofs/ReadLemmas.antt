-- Values, parameters and bodies are read.
use Rattle.param_grammar.proofs.MarkedLemmas.{is_main-front, is_main-short}
use Rattle.std.proofs.Common.{◌≡◌, ◌≢◌, ℕ, ◌==◌, Bool, true, false, List, [], ◌∷◌, ◌++◌, length, take, filter, refl, sym, ap, ◌∙◌, subst, arith}
use Rattle.std.proofs.lemmas.Bool.{cond-true, cond-false, true≢false}
use Rattle.std.proofs.lemmas.Bool.Decides.{nat_tests}
use Rattle.std.proofs.lemmas.List.{append-nil}
use Rattle.field_tokens.specs.declared.Token.{Token}
use Rattle.std.specs.Str.{str_to_ascii_lowercase}
use Rattle.field_tokens.specs.Squeezed.{run_octets}
use Rattle.param_grammar.specs.declared.ParamKind.{ParamKind}
use Rattle.param_grammar.specs.declared.Piece.{Piece}
use Rattle.param_grammar.specs.Escapes.{IsEscaped}
use Rattle.param_grammar.specs.Extended.{IsExtended}
use Rattle.param_grammar.specs.Bodies.{unquoted, is_main, is_filled, IsBody, sections_of, solid, SaysOctets, SplitsSection, ArePieces, WritesBody}
use Rattle.param_grammar.proofs.ExtendedLemmas.{IsExtended-once}

-- quoted pairs
pub unquoted_other : (octets after : List ℕ) (first : ℕ) → octets ≡ first ∷ after → first ≢ 92 → unquoted octets ≡ first ∷ unquoted after
unfolding unquoted
unquoted_other octets [] first e other = rw e refl
unquoted_other octets (y ∷ rest) first e other =
    let test : (first == 92) ≡ false = grind (arith, nat_tests) in
    rw e (cond-false _ _ _ test)

pub unquoted_last : (octets after : List ℕ) (first : ℕ) → octets ≡ first ∷ after → length after ≡ 0 → unquoted octets ≡ first ∷ unquoted after
unfolding unquoted
unquoted_last octets [] first e end = rw e refl
unquoted_last octets (y ∷ rest) first e end = absurd (let never : ⊥ = omega (arith, end) in never)

pub unquoted_pair : (octets after rest : List ℕ) (first y : ℕ) → octets ≡ first ∷ after → first ≡ 92 → after ≡ y ∷ rest → unquoted octets ≡ y ∷ unquoted rest
unfolding unquoted
unquoted_pair octets after rest first y e is f = ap unquoted (e ∙ ap (λ r. first ∷ r) f) ∙ cond-true _ _ _ (let test : (first == 92) ≡ true = grind (arith, nat_tests) in test)

pub unquoted_end : (made octets rest : List ℕ) → length rest ≡ 0 → made ++ unquoted rest ≡ unquoted octets → made ≡ unquoted octets
unfolding unquoted
unquoted_end made octets [] end e = sym (append-nil made) ∙ e
unquoted_end made octets (x ∷ rest) end e = absurd (let never : ⊥ = omega (arith, end) in never)

-- values
pub not-SaysOctets-text : (content charset text : List ℕ) → IsExtended content charset text → ((octets : List ℕ) → IsEscaped text octets → ⊥)
    → (other octets : List ℕ) → SaysOctets true true content other octets → ⊥
not-SaysOctets-text content charset text is none other octets says =
    none octets (subst (λ t. IsEscaped t octets) (IsExtended-once content other says.0 charset text says.1 is).1 says.2)

pub not-SaysOctets-more : (extended first : Bool) (content : List ℕ) → extended ≡ true → first ≡ false → ((octets : List ℕ) → IsEscaped content octets → ⊥)
    → (charset octets : List ℕ) → SaysOctets extended first content charset octets → ⊥
not-SaysOctets-more true false content e f none charset octets says = none octets says.1
not-SaysOctets-more false first content e f none charset octets says = absurd (true≢false (sym e))
not-SaysOctets-more true true content e f none charset octets says = absurd (true≢false f)

-- bodies
abbrev filled : List ℕ → List Token → List (List Token)
filled text tokens = filter is_filled (sections_of text tokens)

same_sections : (kind : ParamKind) (text : List ℕ) (tokens first following : List Token) (main : List ℕ) (pieces : List Piece) → (s : SplitsSection text tokens first following)
    → (b : IsBody kind text tokens main pieces) → b.first ∷ b.others ≡ first ∷ s.others
same_sections kind text tokens first following main pieces s b = sym b.sections ∙ s.first

pub not-IsBody-main : (kind : ParamKind) (text : List ℕ) (tokens first following solids : List Token) → SplitsSection text tokens first following → solids ≡ solid first → is_main kind text solids ≡ false
    → (main : List ℕ) (pieces : List Piece) → IsBody kind text tokens main pieces → ⊥
not-IsBody-main kind text tokens first following solids s e none main pieces b =
    let same = same_sections kind text tokens first following main pieces s b in
    let f : b.first ≡ first = cc same in
    true≢false (sym b.is_main_part ∙ ap (λ m. is_main kind text (solid m)) f ∙ ap (is_main kind text) (sym e) ∙ none)

pub not-IsBody-pieces : (kind : ParamKind) (text : List ℕ) (tokens first following : List Token) → SplitsSection text tokens first following
    → ((pieces : List Piece) → ArePieces text (filled text following) pieces → ⊥) → (main : List ℕ) (pieces : List Piece) → IsBody kind text tokens main pieces → ⊥
not-IsBody-pieces kind text tokens first following s none main pieces b =
    let same = same_sections kind text tokens first following main pieces s b in
    let o : b.others ≡ s.others = cc same in
    none pieces (subst (λ f. ArePieces text f pieces) (ap (filter is_filled) o ∙ s.same) b.are_pieces)

pub WritesBody-read : (kind : ParamKind) (text : List ℕ) (tokens first following solids : List Token) (written : List ℕ) (pieces : List Piece) → SplitsSection text tokens first following → solids ≡ solid first
    → is_main kind text solids ≡ true → ArePieces text (filled text following) pieces → written ≡ run_octets text solids → WritesBody kind text tokens written pieces
WritesBody-read kind text tokens first following solids written pieces s e main are w = record {
  body = record {
    first = first;
    others = s.others;
    sections = s.first;
    is_main_part = sym (ap (is_main kind text) e) ∙ main;
    main_is = ap str_to_ascii_lowercase (w ∙ ap (run_octets text) e);
    are_pieces = subst (λ f. ArePieces text f pieces) (sym s.same) are;
  };
  written_is = w ∙ ap (run_octets text) e;
}

-- ---- where the first tokens tell whether all are a main part

few_main : (kind : ParamKind) (text : List ℕ) (first solids : List Token) → solids ≡ take 4 (solid first) → is_main kind text (solid first) ≡ is_main kind text solids
few_main kind text first solids e = sym (is_main-front kind text (solid first)) ∙ ap (is_main kind text) (sym e)

pub no_main : (kind : ParamKind) (text : List ℕ) (tokens first following solids : List Token) → SplitsSection text tokens first following → solids ≡ take 4 (solid first) → is_main kind text solids ≡ false
    → (main : List ℕ) (pieces : List Piece) → IsBody kind text tokens main pieces → ⊥
no_main kind text tokens first following solids s e none = not-IsBody-main kind text tokens first following (solid first) s refl (few_main kind text first solids e ∙ none)

pub WritesBody-few : (kind : ParamKind) (text : List ℕ) (tokens first following solids : List Token) (written : List ℕ) (pieces : List Piece) → SplitsSection text tokens first following
    → solids ≡ take 4 (solid first) → is_main kind text solids ≡ true → ArePieces text (filled text following) pieces → written ≡ run_octets text solids → WritesBody kind text tokens written pieces
WritesBody-few kind text tokens first following solids written pieces s e main are w =
    let all : solids ≡ solid first = e ∙ is_main-short kind text (solid first) (few_main kind text first solids e ∙ main) in
    WritesBody-read kind text tokens first following solids written pieces s all main are w
