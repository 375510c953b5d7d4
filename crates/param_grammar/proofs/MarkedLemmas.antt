-- Tokens by their marks, the sections between their semicolons, and those that are no gaps and no comments.
use Rattle.std.proofs.Common.{◌≡◌, ℕ, suc, ◌+◌, ◌-◌, ◌<◌, ◌≤◌, Bool, true, false, not, List, [], ◌∷◌, ◌++◌, length, take, drop, filter, All, refl, sym, ap, ◌∙◌, subst, arith, zero, rules}
use Rattle.std.specs.List.{list_any}
use Rattle.std.specs.Prelude.{nat_lt}
use Rattle.std.proofs.lemmas.Bool.Decides.{nat_tests}
use Rattle.std.proofs.lemmas.List.{append_assoc, append-nil, length-append, length-drop, drop-drop, take_at}
use Rattle.std.proofs.lemmas.List.Elements.{All-push}
use Rattle.std.proofs.lemmas.List.Splits.{slice_split_at, slice_split_none}
use Rattle.field_tokens.specs.declared.Token.{Token}
use Rattle.field_tokens.specs.declared.lexemes.Mark.{Mark}
use Rattle.field_tokens.specs.Squeezed.{is_blank}
use Rattle.param_grammar.specs.declared.ParamKind.{ParamKind}
use Rattle.param_grammar.specs.declared.ParamKind.TheVariants.{Content, Disposition}
use Rattle.param_grammar.specs.Bodies.{is_mark_at, is_main, sections_of, solid, is_filled, SplitsSection}
use Rattle.field_tokens.specs.declared.Style.TheVariants.{Mime}
use Rattle.field_tokens.specs.Tokens.{TokenValue, HasTokens, HasTokenValues, tokens_from}
use Rattle.field_tokens.specs.Lexemes.{marked_kind, marked_len, lexemes_in}
use Rattle.param_grammar.specs.private.Marked.{cut_to, tokens_in}

-- ---- marks

pub tokens_in-nil : (end at : ℕ) (marks : List Mark) → (length marks ≡ 0 → tokens_in end at marks ≡ []) × (tokens_in end at marks ≡ [] → length marks ≡ 0)
tokens_in-nil end at [] = (λ e. refl, λ e. refl)
tokens_in-nil end at (mark ∷ marks) = (λ e. absurd (omega (arith, e)), λ e. cc e)

pub tokens_in-length : (end at : ℕ) (marks : List Mark) → length (tokens_in end at marks) ≡ length marks
tokens_in-length end at [] = refl
tokens_in-length end at (mark ∷ marks) = ap suc (tokens_in-length end (at + cut_to (end - at) (marked_len mark)) marks)

no_marks : (n end at : ℕ) → tokens_in end at (take n []) ≡ take n []
no_marks zero end at = refl
no_marks (suc n) end at = refl

pub tokens_in-take : (n end at : ℕ) (marks : List Mark) → tokens_in end at (take n marks) ≡ take n (tokens_in end at marks)
tokens_in-take n end at [] = no_marks n end at
tokens_in-take zero end at (mark ∷ marks) = refl
tokens_in-take (suc n) end at (mark ∷ marks) =
    ap (λ ts. record { kind = marked_kind mark; span = record { at = at; len = cut_to (end - at) (marked_len mark) } } ∷ ts)
    (tokens_in-take n end (at + cut_to (end - at) (marked_len mark)) marks)

-- ---- marks are the tokens of their text

cut_is : (xs : List ℕ) (n : ℕ) → cut_to (length xs) n ≡ length (take n xs)
cut_is [] zero = refl
cut_is [] (suc n) = let less : nat_lt 0 (suc n) ≡ true = grind (arith, nat_tests) in rw less refl
cut_is (x ∷ xs) zero = let more : nat_lt (suc (length xs)) 0 ≡ false = grind (arith, nat_tests) in rw more refl
cut_is (x ∷ xs) (suc n) = by (nat_lt (length xs) n) refl (cut_is xs n)
  where
    by : (b : Bool) → nat_lt (length xs) n ≡ b → cut_to (length xs) n ≡ length (take n xs) → cut_to (length (x ∷ xs)) (suc n) ≡ suc (length (take n xs))
    by true e same = let more : nat_lt (suc (length xs)) (suc n) ≡ true = grind (arith, nat_tests, e) in rw more (ap suc ((rw e at same)))
    by false e same = let more : nat_lt (suc (length xs)) (suc n) ≡ false = grind (arith, nat_tests, e) in rw more (ap suc ((rw e at same)))

drop_cut : (xs : List ℕ) (n : ℕ) → drop n xs ≡ drop (length (take n xs)) xs
drop_cut [] zero = refl
drop_cut [] (suc n) = refl
drop_cut (x ∷ xs) zero = refl
drop_cut (x ∷ xs) (suc n) = drop_cut xs n

pub tokens_placed : (text : List ℕ) (at : ℕ) (marks : List Mark) → tokens_in (length text) at marks ≡ tokens_from at (lexemes_in (drop at text) marks)
tokens_placed text at [] = refl
tokens_placed text at (mark ∷ marks) =
    let rest : List ℕ = drop at text in
    let len : cut_to (length text - at) (marked_len mark) ≡ length (take (marked_len mark) rest) = ap (λ n. cut_to n (marked_len mark)) (sym (length-drop at text)) ∙ cut_is rest (marked_len mark) in
    let after : drop (at + length (take (marked_len mark) rest)) text ≡ drop (marked_len mark) rest
    = sym (drop-drop (length (take (marked_len mark) rest)) at text) ∙ sym (drop_cut rest (marked_len mark)) in
    rw len (ap (λ ts. record { kind = marked_kind mark; span = record { at = at; len = length (take (marked_len mark) rest) } } ∷ ts)
    (tokens_placed text (at + length (take (marked_len mark) rest)) marks ∙ ap (λ r. tokens_from (at + length (take (marked_len mark) rest)) (lexemes_in r marks)) after))

pub HasTokens-marks : (text : List ℕ) (marks : List Mark) → HasTokenValues Mime text (lexemes_in text marks) → HasTokens Mime text (tokens_in (length text) 0 marks)
HasTokens-marks text marks has = record { is_line = has.is_line; values = lexemes_in text marks; are_tokens = has.are_tokens; placed = tokens_placed text 0 marks }

pub no_tokens : (text : List ℕ) → ((tokens : List TokenValue) → HasTokenValues Mime text tokens → ⊥) → (tokens : List Token) → HasTokens Mime text tokens → ⊥
no_tokens text none tokens has = none has.values (record { is_line = has.is_line; are_tokens = has.are_tokens })

-- ---- sections

-- no semicolon stands before rest
pub record PassesTo (text : List ℕ) (tokens rest : List Token) : Type 0 where
  pub front : List Token
  pub whole : tokens ≡ front ++ rest
  pub fails : All (λ t. is_mark_at text 59 t ≡ false) front

pub PassesTo-start : (text : List ℕ) (tokens : List Token) → PassesTo text tokens tokens
PassesTo-start text tokens = record { front = []; whole = refl; fails = search rules }

pub PassesTo-more : (text : List ℕ) (tokens rest following : List Token) (token : Token) → PassesTo text tokens rest → rest ≡ token ∷ following → is_mark_at text 59 token ≡ false → PassesTo text tokens following
PassesTo-more text tokens rest following token p cut isnt = record {
  front = p.front ++ token ∷ [];
  whole = p.whole ∙ ap (λ r. p.front ++ r) cut ∙ sym (append_assoc p.front (token ∷ []) following);
  fails = All-push (λ t. is_mark_at text 59 t ≡ false) p.front token p.fails isnt;
}

pub PassesTo-length : (text : List ℕ) (tokens rest : List Token) → (p : PassesTo text tokens rest) → length tokens ≡ length p.front + length rest
PassesTo-length text tokens rest p = ap length p.whole ∙ length-append p.front rest

pub PassesTo-within : (text : List ℕ) (tokens rest : List Token) → PassesTo text tokens rest → length rest ≤ length tokens
PassesTo-within text tokens rest p = let n = PassesTo-length text tokens rest p in omega (arith, n)

pub SplitsSection-cut : (text : List ℕ) (tokens rest following section : List Token) (token : Token) → PassesTo text tokens rest → rest ≡ token ∷ following → is_mark_at text 59 token ≡ true
    → section ≡ take (length tokens - length rest) tokens → SplitsSection text tokens section following
SplitsSection-cut text tokens rest following section token p cut is taken =
    let whole : tokens ≡ p.front ++ token ∷ following = p.whole ∙ ap (λ r. p.front ++ r) cut in
    let n = PassesTo-length text tokens rest p in
    let counted : length p.front ≡ length tokens - length rest = omega (arith, n) in
    let front : section ≡ p.front = taken ∙ ap (take (length tokens - length rest)) whole ∙ take_at p.front (token ∷ following) (length tokens - length rest) counted in
    record {
      others = sections_of text following;
      first = ap (sections_of text) whole ∙ slice_split_at (is_mark_at text 59) p.front token following p.fails is ∙ ap (λ f. f ∷ sections_of text following) (sym front);
      same = refl;
      shorter = λ some. let len = ap length cut in omega (arith, len, n);
    }

pub SplitsSection-whole : (text : List ℕ) (tokens rest : List Token) → PassesTo text tokens rest → rest ≡ [] → SplitsSection text tokens tokens rest
SplitsSection-whole text tokens rest p end =
    let all : tokens ≡ p.front = p.whole ∙ ap (λ r. p.front ++ r) end ∙ append-nil p.front in
    let none : All (λ t. is_mark_at text 59 t ≡ false) tokens = subst (All (λ t. is_mark_at text 59 t ≡ false)) (sym all) p.fails in
    record {
      others = [];
      first = slice_split_none (is_mark_at text 59) tokens none;
      same = ap (λ r. filter is_filled (sections_of text r)) (sym end);
      shorter = λ some. let len = ap length end in omega (arith, len, some);
    }

-- ---- tokens that are no gaps and no comments

pub solid_blank : (rest following : List Token) (token : Token) → rest ≡ token ∷ following → is_blank token.kind ≡ true → solid rest ≡ solid following
solid_blank rest following token cut is = ap solid cut ∙ rw is refl

pub solid_first : (rest following : List Token) (token : Token) → rest ≡ token ∷ following → is_blank token.kind ≡ false → solid rest ≡ token ∷ solid following
solid_first rest following token cut isnt = ap solid cut ∙ rw isnt refl

filled_one : (token : Token) (tokens : List Token) (b : Bool) → not (is_blank token.kind) ≡ b → is_filled tokens ≡ list_any (λ token. true) (solid tokens)
    → is_filled (token ∷ tokens) ≡ list_any (λ token. true) (solid (token ∷ tokens))
filled_one token tokens true e more = rw e refl
filled_one token tokens false e more = rw e more

filled_is : (tokens : List Token) → is_filled tokens ≡ list_any (λ token. true) (solid tokens)
filled_is [] = refl
filled_is (token ∷ tokens) = filled_one token tokens (not (is_blank token.kind)) refl (filled_is tokens)

pub filled_some : (tokens following : List Token) (token : Token) → solid tokens ≡ token ∷ following → is_filled tokens ≡ true
filled_some tokens following token e = filled_is tokens ∙ ap (list_any (λ token. true)) e

pub filled_none : (tokens : List Token) → solid tokens ≡ [] → is_filled tokens ≡ false
filled_none tokens e = filled_is tokens ∙ ap (list_any (λ token. true)) e

-- one more of the first tokens
pub few_more : (found all rest following : List Token) (token : Token) (n : ℕ) → n < 4 → rest ≡ token ∷ following → found ++ take (4 - n) rest ≡ all → (found ++ token ∷ []) ++ take (4 - (n + 1)) following ≡ all
few_more found all rest following token n l cut e =
    let next : 4 - n ≡ suc (4 - (n + 1)) = omega (arith, l) in
    append_assoc found (token ∷ []) (take (4 - (n + 1)) following) ∙ ap (λ k. found ++ take k (token ∷ following)) (sym next) ∙ ap (λ r. found ++ take (4 - n) r) (sym cut) ∙ e

-- four tokens tell whether all are a main part
pub is_main-front : (kind : ParamKind) (text : List ℕ) (tokens : List Token) → is_main kind text (take 4 tokens) ≡ is_main kind text tokens
is_main-front Content text [] = refl
is_main-front Content text (a ∷ []) = refl
is_main-front Content text (a ∷ b ∷ []) = refl
is_main-front Content text (a ∷ b ∷ c ∷ []) = refl
is_main-front Content text (a ∷ b ∷ c ∷ d ∷ more) = refl
is_main-front Disposition text [] = refl
is_main-front Disposition text (a ∷ []) = refl
is_main-front Disposition text (a ∷ b ∷ more) = refl

pub is_main-short : (kind : ParamKind) (text : List ℕ) (tokens : List Token) → is_main kind text tokens ≡ true → take 4 tokens ≡ tokens
is_main-short Content text [] e = refl
is_main-short Content text (a ∷ []) e = refl
is_main-short Content text (a ∷ b ∷ []) e = refl
is_main-short Content text (a ∷ b ∷ c ∷ []) e = refl
is_main-short Content text (a ∷ b ∷ c ∷ d ∷ more) e = cc e
is_main-short Disposition text [] e = refl
is_main-short Disposition text (a ∷ []) e = refl
is_main-short Disposition text (a ∷ b ∷ more) e = cc e
