-- The roles of pieces.
use Rattle.std.proofs.Common.{◌≡◌, ℕ, ◌+◌, ◌<◌, Bool, true, false, not, ◌&&◌, ◌||◌, if◌then◌else◌, List, [], ◌∷◌, ◌++◌, length, filter, refl, sym, ap, ◌∙◌, subst, arith}
use Rattle.std.specs.Prelude.{is_some, nat_lt}
use Rattle.std.specs.Cmp.Lexicographic.{nat_list_eq_equiv}
use Rattle.std.specs.List.{list_any}
use Rattle.std.specs.Str.{bytes_eq}
use Rattle.std.proofs.lemmas.Bool.{true≢false}
use Rattle.std.proofs.lemmas.Bool.Decides.{nat_tests}
use Rattle.std.proofs.lemmas.List.Folds.{list_any-append}
use Rattle.std.proofs.lemmas.Slice.Eq.{bytes_eq-Decides}
use Rattle.param_grammar.specs.declared.Piece.{Piece}
use Rattle.param_grammar.specs.private.ByName.{is_named, is_numbered}
use Rattle.param_grammar.specs.Joining.{ParamValue, is_doubled, is_part_of, params_after, params_of, parts_named, unit_at}

-- a piece of a name without a number
abbrev is_whole_of : List ℕ → Piece → Bool
is_whole_of name piece = not (is_some piece.number) && bytes_eq piece.base name

-- ---- the pieces of a name

turned : (name base : List ℕ) → bytes_eq base name ≡ bytes_eq name base
turned name base = nat_list_eq_equiv.symm base name

count_both : (n b : Bool) (piece : Piece) (ws ps ns : List Piece) → length ns ≡ length ws + length ps
    → length (if b then piece ∷ ns else ns) ≡ length (if not n && b then piece ∷ ws else ws) + length (if n && b then piece ∷ ps else ps)
count_both true true piece ws ps ns e = omega (arith, e)
count_both true false piece ws ps ns e = e
count_both false true piece ws ps ns e = omega (arith, e)
count_both false false piece ws ps ns e = e

-- the pieces of a name are those without a number and those with one
counted : (name : List ℕ) (pieces : List Piece) → length (filter (is_named name) pieces) ≡ length (filter (is_whole_of name) pieces) + length (parts_named name pieces)
counted name [] = refl
counted name (piece ∷ pieces) =
    rw (turned name piece.base) (count_both (is_some piece.number) (bytes_eq name piece.base) piece (filter (is_whole_of name) pieces) (parts_named name pieces) (filter (is_named name) pieces) (counted name pieces))

-- ---- the parameters of a name

abbrev one_where : Bool → ℕ
one_where true = 1
one_where false = 0

-- one parameter of a name begins with a part, where none began before and there is one
abbrev joined : Bool → Bool → ℕ
joined true more = 0
joined false more = one_where more

params_in : (test : ParamValue → Bool) (param : ParamValue) (params : List ParamValue) → test param ≡ true → length (filter test (param ∷ params)) ≡ length (filter test params) + 1
params_in test param params e = rw e (omega arith)

params_out : (test : ParamValue → Bool) (param : ParamValue) (params : List ParamValue) → test param ≡ false → length (filter test (param ∷ params)) ≡ length (filter test params)
params_out test param params e = rw e refl

-- one piece more: whether it is numbered, goes on, and has the name, and whether a part of the name stands before and after
count_step : (test : ParamValue → Bool) (param : ParamValue) (params : List ParamValue) (piece : Piece) (wholes : List Piece) (n g b before more : Bool) → test param ≡ b
    → (b ≡ true → g ≡ before) → length (filter test params) ≡ length wholes + joined (before || ((n && b) || false)) more
    → length (filter test (if n && g then params else param ∷ params)) ≡ length (if not n && b then piece ∷ wholes else wholes) + joined before ((n && b) || more)
count_step test param params piece wholes true true true true more is same e = e
count_step test param params piece wholes true true true false more is same e = absurd (true≢false (same refl))
count_step test param params piece wholes true true false true more is same e = e
count_step test param params piece wholes true true false false more is same e = e
count_step test param params piece wholes true false true true more is same e = absurd (true≢false (sym (same refl)))
count_step test param params piece wholes true false true false more is same e =
    let p = params_in test param params is in
    omega (arith, p, e)
count_step test param params piece wholes true false false true more is same e = params_out test param params is ∙ e
count_step test param params piece wholes true false false false more is same e = params_out test param params is ∙ e
count_step test param params piece wholes false g true true more is same e =
    let p = params_in test param params is in
    omega (arith, p, e)
count_step test param params piece wholes false g true false more is same e =
    let p = params_in test param params is in
    omega (arith, p, e)
count_step test param params piece wholes false g false true more is same e = params_out test param params is ∙ e
count_step test param params piece wholes false g false false more is same e = params_out test param params is ∙ e

count_params : (name : List ℕ) (pieces before more : List Piece) → length (filter (λ (param : ParamValue). bytes_eq param.name name) (params_after pieces before more))
    ≡ length (filter (is_whole_of name) more) + joined (list_any (is_part_of name) before) (list_any (is_part_of name) more)
count_params name pieces before [] = rw (nothing (list_any (is_part_of name) before)) refl where
  nothing : (b : Bool) → joined b false ≡ 0
  nothing true = refl
  nothing false = refl
count_params name pieces before (piece ∷ more) =
    let test = λ (param : ParamValue). bytes_eq param.name name in
    let param : ParamValue = record { name = piece.base; unit = unit_at pieces piece } in
    let rest = params_after pieces (before ++ piece ∷ []) more in
    let next : length (filter test rest) ≡ length (filter (is_whole_of name) more)
    + joined (list_any (is_part_of name) before || ((is_some piece.number && bytes_eq piece.base name) || false)) (list_any (is_part_of name) more) =
    count_params name pieces (before ++ piece ∷ []) more
    ∙ ap (λ b. length (filter (is_whole_of name) more) + joined b (list_any (is_part_of name) more)) (list_any-append (is_part_of name) before (piece ∷ [])) in
    count_step test param rest piece (filter (is_whole_of name) more) (is_some piece.number) (list_any (is_part_of piece.base) before) (bytes_eq piece.base name) (list_any (is_part_of name) before)
    (list_any (is_part_of name) more) refl (λ e. ap (λ base. list_any (is_part_of base) before) ((bytes_eq-Decides piece.base name).0 e)) next

pub any_counts : (name : List ℕ) (pieces : List Piece) → list_any (is_part_of name) pieces ≡ nat_lt 0 (length (parts_named name pieces))
any_counts name [] = refl
any_counts name (piece ∷ pieces) = any_step (is_part_of name piece) piece (parts_named name pieces) _ (any_counts name pieces) where
  any_step : (b : Bool) (piece : Piece) (ps : List Piece) (rest : Bool) → rest ≡ nat_lt 0 (length ps) → (b || rest) ≡ nat_lt 0 (length (if b then piece ∷ ps else ps))
  any_step true piece ps rest e = grind (arith, nat_tests)
  any_step false piece ps rest e = e

double : (any : Bool) (count wholes parts named : ℕ) → any ≡ nat_lt 0 parts → count ≡ wholes + joined false any → named ≡ wholes + parts
    → (0 < wholes → nat_lt 1 named ≡ nat_lt 1 count) × (0 < parts → nat_lt parts named ≡ nat_lt 1 count)
double true count wholes parts named a c n = (λ some. grind (arith, nat_tests, a, c, n, some), λ some. grind (arith, nat_tests, a, c, n, some))
double false count wholes parts named a c n = (λ some. grind (arith, nat_tests, a, c, n, some), λ some. grind (arith, nat_tests, a, c, n, some))

-- whether a name is doubled, by the pieces of that name
doubled : (name : List ℕ) (pieces : List Piece) → (0 < length (filter (is_whole_of name) pieces) → nat_lt 1 (length (filter (is_named name) pieces)) ≡ is_doubled (params_of pieces) name)
    × (0 < length (parts_named name pieces) → nat_lt (length (parts_named name pieces)) (length (filter (is_named name) pieces)) ≡ is_doubled (params_of pieces) name)
doubled name pieces =
    double (list_any (is_part_of name) pieces) (length (filter (λ (param : ParamValue). bytes_eq param.name name) (params_of pieces))) (length (filter (is_whole_of name) pieces))
    (length (parts_named name pieces)) (length (filter (is_named name) pieces)) (any_counts name pieces) (count_params name pieces [] pieces) (counted name pieces)

pub some_in : (test : Piece → Bool) (before following : List Piece) (piece : Piece) → test piece ≡ true → 0 < length (filter test (before ++ piece ∷ following))
some_in test [] following piece e = rw e (omega arith)
some_in test (first ∷ before) following piece e = more (test first) (filter test (before ++ piece ∷ following)) (some_in test before following piece e) where
  more : (b : Bool) (ps : List Piece) → 0 < length ps → 0 < length (if b then first ∷ ps else ps)
  more true ps l = omega arith
  more false ps l = l

pub own_name : (octets : List ℕ) → bytes_eq octets octets ≡ true
own_name octets = (bytes_eq-Decides octets octets).1 refl

pub whole_doubled : (pieces before following : List Piece) (piece : Piece) → pieces ≡ before ++ piece ∷ following → is_numbered piece ≡ false
    → nat_lt 1 (length (filter (is_named piece.base) pieces)) ≡ is_doubled (params_of pieces) piece.base
whole_doubled pieces before following piece cut none =
    (doubled piece.base pieces).0 (subst (λ ps. 0 < length (filter (is_whole_of piece.base) ps)) (sym cut) (some_in (is_whole_of piece.base) before following piece (rw (none, own_name piece.base) refl)))

pub part_doubled : (pieces before following : List Piece) (piece : Piece) → pieces ≡ before ++ piece ∷ following → is_numbered piece ≡ true
    → nat_lt (length (parts_named piece.base pieces)) (length (filter (is_named piece.base) pieces)) ≡ is_doubled (params_of pieces) piece.base
part_doubled pieces before following piece cut some =
    (doubled piece.base pieces).1 (subst (λ ps. 0 < length (filter (is_part_of piece.base) ps)) (sym cut) (some_in (is_part_of piece.base) before following piece (rw (some, own_name piece.base) refl)))
