-- The roles of the pieces of a name, by the run of their numbers.
use Rattle.std.proofs.Common.{◌≡◌, ℕ, zero, suc, ◌+◌, ◌<◌, ◌≤◌, ◌==◌, ◌&&◌, Bool, true, false, not, if◌then◌else◌, List, [], ◌∷◌, ◌++◌, length, get_or, take, drop, map, filter, All, refl, sym, ap, ◌∙◌, subst, arith, inl, inr}
use Rattle.std.specs.Prelude.{Option, Some, None, IfSome, IfNone, is_some, nat_lt}
use Rattle.std.specs.Cmp.Lexicographic.{nat_list_eq_equiv}
use Rattle.std.specs.List.{list_all, list_any, slice_get}
use Rattle.std.specs.Str.{bytes_eq}
use Rattle.std.proofs.lemmas.Bool.{cases_Bool, or_right, true≢false}
use Rattle.std.proofs.lemmas.Bool.Decides.{nat_tests}
use Rattle.std.proofs.lemmas.List.{append_assoc, append-nil, drop_more, get_or_default, length-append, length-map, take-append-drop, take_all}
use Rattle.std.proofs.lemmas.List.Elements.{All-append, All-filter, All-head, All-tail, filter-append}
use Rattle.std.proofs.lemmas.List.Folds.{Any-from_list_any, list_any-append}
use Rattle.std.proofs.lemmas.Map.Views.{any-filter_same}
use Rattle.std.proofs.lemmas.Slice.Eq.{bytes_eq-Decides}
use Rattle.mail_wire.specs.Octets.{is_ascii}
use Rattle.mail_wire.specs.Spans.{IsSpan}
use Rattle.param_grammar.specs.declared.Piece.{Piece}
use Rattle.param_grammar.specs.declared.places.Place.{Place}
use Rattle.param_grammar.specs.declared.role.NameRoles.{NameRoles}
use Rattle.param_grammar.specs.declared.role.Role.{Role}
use Rattle.param_grammar.specs.declared.role.Role.TheVariants.{GoesOn, Begins}
use Rattle.param_grammar.specs.Joining.{AreNumbered, IsRole, is_part_of, parts_named}
use Rattle.param_grammar.specs.Places.{no_piece, piece_in}
use Rattle.param_grammar.specs.private.ByName.{is_named, is_numbered, are_ascii}
use Rattle.param_grammar.specs.private.Ordered.{name_in, numbered_in, ascii_in, numbers_below, InNameOrder}
use Rattle.param_grammar.specs.private.Roles.{AreLowered, ArePut, AreToldBy, HasRole, IsNameRun, HasItsRole, SetsRoles, is_first, role_at}
use Rattle.param_grammar.proofs.OrderLemmas.{AreApart, AreApart-more, below_cut, in_filter, is_of, named_in, others_pass, pieces_passing, run_begins, run_is, turned}
use Rattle.param_grammar.proofs.PlacedFacts.{name_is, numbered_is, ascii_is}
use Rattle.param_grammar.proofs.PlaceLemmas.{ArePlaced-length}
use Rattle.param_grammar.proofs.RoleLemmas.{any_counts, part_doubled, whole_doubled}

-- ---- lists

filter_both : (p q : ℕ → Bool) (xs : List ℕ) → filter p (filter q xs) ≡ filter (λ x. p x && q x) xs
filter_both p q [] = refl
filter_both p q (x ∷ xs) = by (p x) (q x) refl refl (filter_both p q xs)
  where
    by : (a b : Bool) → p x ≡ a → q x ≡ b → filter p (filter q xs) ≡ filter (λ x. p x && q x) xs → filter p (filter q (x ∷ xs)) ≡ filter (λ x. p x && q x) (x ∷ xs)
    by true true is also more = rw (also, is) (ap (λ r. x ∷ r) more)
    by false true is also more = rw (also, is) more
    by true false is also more = rw (also, is) more
    by false false is also more = rw (also, is) more

all_same : (f : ℕ → Piece) (p : ℕ → Bool) (q : Piece → Bool) (xs : List ℕ) → All (λ x. p x ≡ q (f x)) xs → list_all p xs ≡ list_all q (map f xs)
all_same f p q [] all = refl
all_same f p q (x ∷ xs) all = rw (All-head (λ x. p x ≡ q (f x)) x xs all, all_same f p q xs (All-tail (λ x. p x ≡ q (f x)) x xs all)) refl

last_below : (n k d : ℕ) → k < 1 → get_or (n ∷ []) k d < suc n
last_below n zero d l = omega arith
last_below n (suc k) d l = absurd (omega (arith, l))

below_all : (n : ℕ) → All (λ k. k < n) (numbers_below n)
below_all zero = λ k d l. absurd (omega (arith, l))
below_all (suc n) = All-append (λ k. k < suc n) (numbers_below n) (n ∷ []) (λ k d l. let before = below_all n k d l in omega (arith, before)) (λ k d l. last_below n k d l)

pub passing_below : (p : ℕ → Bool) (count : ℕ) → All (λ k. k < count) (filter p (numbers_below count))
passing_below p count = All-filter p (λ k. k < count) (numbers_below count) (below_all count)

and_true : (b : Bool) → b ≡ (b && true)
and_true true = refl
and_true false = refl

itself : (n : ℕ) → (n == n) ≡ true
itself n = grind arith

in_below : (count n : ℕ) → n < count → list_any (λ one. one == n) (numbers_below count) ≡ true
in_below count n l =
    let cut = below_cut n count l in
    ap (list_any (λ one. one == n)) cut.1 ∙ list_any-append (λ one. one == n) (numbers_below n) (n ∷ cut.0)
    ∙ or_right (list_any (λ one. one == n) (numbers_below n)) (list_any (λ one. one == n) (n ∷ cut.0)) (rw (itself n) refl)

-- whether a number is among those that pass
in_passing : (p : ℕ → Bool) (count n : ℕ) → n < count → list_any (λ one. one == n) (filter p (numbers_below count)) ≡ p n
in_passing p count n l =
    any-filter_same (λ one. one == n) p (p n) (λ k e. let same : k ≡ n = grind (arith, nat_tests, e) in ap p same) (numbers_below count) ∙ ap (λ b. p n && b) (in_below count n l) ∙ sym (and_true (p n))

first_of_two : (before after : List ℕ) (n : ℕ) → All (λ k. k < n) before → is_first (slice_get (before ++ n ∷ after) 0) n ≡ not (nat_lt 0 (length before))
first_of_two [] after n all = itself n
first_of_two (m ∷ ms) after n all = let less : m < n = All-head (λ k. k < n) m ms all in grind (arith, nat_tests, less)

-- a number that passes is the first that does where none before it does
first_passing : (p : ℕ → Bool) (count n : ℕ) → n < count → p n ≡ true → is_first (slice_get (filter p (numbers_below count)) 0) n ≡ not (nat_lt 0 (length (filter p (numbers_below n))))
first_passing p count n l is =
    let cut = below_cut n count l in
    let parted : filter p (numbers_below count) ≡ filter p (numbers_below n) ++ (n ∷ filter p cut.0) =
    ap (filter p) cut.1 ∙ filter-append p (numbers_below n) (n ∷ cut.0) ∙ ap (λ r. filter p (numbers_below n) ++ r) (rw is refl) in
    ap (λ xs. is_first (slice_get xs 0) n) parted ∙ first_of_two (filter p (numbers_below n)) (filter p cut.0) n (passing_below p n)

-- ---- what a test of an answer gives

pub none_given : {A : Type 0} {P : Type 0} (o : Option A) → is_some o ≡ false → IfNone o P → P
none_given None e p = p
none_given (Some x) e p = absurd (true≢false e)

pub some_given : {A : Type 0} {P : Type 0} (o : Option A) → is_some o ≡ true → IfSome o (λ x. P) → P
some_given None e p = absurd (true≢false (sym e))
some_given (Some x) e p = p

-- ---- roles

role_whole : (places : List Place) (name : NameRoles) (n : ℕ) → numbered_in places n ≡ false → role_at places name n ≡ Begins (ascii_in places n) name.is_doubled
role_whole places name n e = ap (λ b. if b then (if is_first name.first n then Begins name.is_ascii name.has_whole else GoesOn name.is_ascii) else Begins (ascii_in places n) name.is_doubled) e

role_part : (places : List Place) (name : NameRoles) (n : ℕ) (first : Bool) → numbered_in places n ≡ true → is_first name.first n ≡ first
    → role_at places name n ≡ (if first then Begins name.is_ascii name.has_whole else GoesOn name.is_ascii)
role_part places name n first e is =
    ap (λ b. if b then (if is_first name.first n then Begins name.is_ascii name.has_whole else GoesOn name.is_ascii) else Begins (ascii_in places n) name.is_doubled) e
    ∙ ap (λ b. if b then Begins name.is_ascii name.has_whole else GoesOn name.is_ascii) is

whole_role : (pieces before following : List Piece) (piece : Piece) (ascii doubled : Bool) → is_numbered piece ≡ false → pieces ≡ before ++ piece ∷ following
    → ascii ≡ list_all is_ascii piece.written → doubled ≡ nat_lt 1 (length (filter (is_named piece.base) pieces)) → IsRole pieces before piece (Begins ascii doubled)
whole_role pieces before following piece ascii doubled whole cut is twice =
    (rw whole refl, rw whole (is ∙ and_true (list_all is_ascii piece.written)), twice ∙ whole_doubled pieces before following piece cut whole)

part_role : (pieces before : List Piece) (piece : Piece) (ascii : Bool) → is_numbered piece ≡ true → list_any (is_part_of piece.base) before ≡ true
    → ascii ≡ are_ascii (parts_named piece.base pieces) → IsRole pieces before piece (GoesOn ascii)
part_role pieces before piece ascii part on is = (rw (part, on) refl, rw part is)

first_role : (pieces before following : List Piece) (piece : Piece) (ascii doubled : Bool) → is_numbered piece ≡ true → pieces ≡ before ++ piece ∷ following
    → list_any (is_part_of piece.base) before ≡ false → ascii ≡ are_ascii (parts_named piece.base pieces)
    → doubled ≡ nat_lt (length (parts_named piece.base pieces)) (length (filter (is_named piece.base) pieces)) → IsRole pieces before piece (Begins ascii doubled)
first_role pieces before following piece ascii doubled part cut first is twice =
    (rw (part, first) refl, rw part is, twice ∙ part_doubled pieces before following piece cut part)

opposite : (a b : Bool) → a ≡ not b → (a ≡ true → b ≡ false) × (a ≡ false → b ≡ true)
opposite true true e = absurd (true≢false e)
opposite true false e = (λ is. refl, λ is. absurd (true≢false is))
opposite false true e = (λ is. absurd (true≢false (sym is)), λ is. refl)
opposite false false e = absurd (true≢false (sym e))

cut_at : (pieces : List Piece) (n : ℕ) → n < length pieces → pieces ≡ take n pieces ++ piece_in pieces n ∷ drop (n + 1) pieces
cut_at pieces n l = sym (take-append-drop n pieces) ∙ ap (λ r. take n pieces ++ r) (drop_more pieces n no_piece l)

module _ (text lower : List ℕ) (places : List Place) (pieces : List Piece) (are : AreLowered text lower places pieces) where
  base_at : (i : ℕ) → i < length places → name_in lower places i ≡ (piece_in pieces i).base
  base_at i l = ap (λ low. name_in low places i) are.lower_is ∙ name_is text places pieces i are.are_placed l

  count_is : length pieces ≡ length places
  count_is = ArePlaced-length text places pieces are.are_placed

  named_like : (first i : ℕ) → first < length places → i < length places → bytes_eq (name_in lower places first) (name_in lower places i) ≡ is_named (piece_in pieces first).base (piece_in pieces i)
  named_like first i l m = ap (λ x. bytes_eq x (name_in lower places i)) (base_at first l) ∙ ap (bytes_eq (piece_in pieces first).base) (base_at i m)

  named_pieces : (run : List ℕ) (first : ℕ) → IsNameRun lower places run first → map (piece_in pieces) run ≡ filter (is_named (piece_in pieces first).base) pieces
  named_pieces run first is =
      ap (map (piece_in pieces)) is.run_is
      ∙ pieces_passing (λ other. bytes_eq (name_in lower places first) (name_in lower places other)) (is_named (piece_in pieces first).base) pieces (length places) (omega (arith, count_is))
      (λ i l. named_like first i is.within l)
      ∙ ap (filter (is_named (piece_in pieces first).base)) (take_all (length places) pieces (omega (arith, count_is)))

  part_like : (first i : ℕ) → first < length places → i < length places
      → (numbered_in places i && bytes_eq (name_in lower places first) (name_in lower places i)) ≡ is_part_of (piece_in pieces first).base (piece_in pieces i)
  part_like first i l m =
      ap (λ b. b && bytes_eq (name_in lower places first) (name_in lower places i)) (numbered_is text places pieces i are.are_placed m)
      ∙ ap (λ b. is_numbered (piece_in pieces i) && b) (named_like first i l m ∙ nat_list_eq_equiv.symm (piece_in pieces first).base (piece_in pieces i).base)

  -- the parts of a name below a number
  parts_below : (first n : ℕ) → first < length places → n ≤ length places
      → map (piece_in pieces) (filter (λ i. numbered_in places i && bytes_eq (name_in lower places first) (name_in lower places i)) (numbers_below n)) ≡ parts_named (piece_in pieces first).base (take n pieces)
  parts_below first n l most =
      pieces_passing (λ i. numbered_in places i && bytes_eq (name_in lower places first) (name_in lower places i)) (is_part_of (piece_in pieces first).base) pieces n (omega (arith, most, count_is))
      (λ i m. part_like first i l (omega (arith, m, most)))

  parts_in : (run : List ℕ) (first : ℕ) → IsNameRun lower places run first
      → filter (numbered_in places) run ≡ filter (λ i. numbered_in places i && bytes_eq (name_in lower places first) (name_in lower places i)) (numbers_below (length places))
  parts_in run first is =
      ap (filter (numbered_in places)) is.run_is ∙ filter_both (numbered_in places) (λ i. bytes_eq (name_in lower places first) (name_in lower places i)) (numbers_below (length places))

  pub parts_are : (run : List ℕ) (first : ℕ) → IsNameRun lower places run first → map (piece_in pieces) (filter (numbered_in places) run) ≡ parts_named (piece_in pieces first).base pieces
  parts_are run first is =
      ap (map (piece_in pieces)) (parts_in run first is) ∙ parts_below first (length places) is.within (omega arith)
      ∙ ap (parts_named (piece_in pieces first).base) (take_all (length places) pieces (omega (arith, count_is)))

  parts_ascii : (run : List ℕ) (first : ℕ) → IsNameRun lower places run first
      → list_all (ascii_in places) (filter (numbered_in places) run) ≡ are_ascii (parts_named (piece_in pieces first).base pieces)
  parts_ascii run first is =
      let p : ℕ → Bool = λ i. numbered_in places i && bytes_eq (name_in lower places first) (name_in lower places i) in
      let within : All (λ k. k < length places) (filter (numbered_in places) run) = subst (All (λ k. k < length places)) (sym (parts_in run first is)) (passing_below p (length places)) in
      all_same (piece_in pieces) (ascii_in places) (λ piece. list_all is_ascii piece.written) (filter (numbered_in places) run)
      (λ k d l. ascii_is text places pieces (get_or (filter (numbered_in places) run) k d) are.are_placed (within k d l))
      ∙ ap are_ascii (parts_are run first is)

  counted_parts : (run : List ℕ) (first : ℕ) → IsNameRun lower places run first → length (filter (numbered_in places) run) ≡ length (parts_named (piece_in pieces first).base pieces)
  counted_parts run first is = sym (length-map (filter (numbered_in places) run) (piece_in pieces)) ∙ ap length (parts_are run first is)

  counted_run : (run : List ℕ) (first : ℕ) → IsNameRun lower places run first → length run ≡ length (filter (is_named (piece_in pieces first).base) pieces)
  counted_run run first is = sym (length-map run (piece_in pieces)) ∙ ap length (named_pieces run first is)

  -- a part is the first of its name where none stands before it
  first_part : (run : List ℕ) (name : NameRoles) (n : ℕ) → IsNameRun lower places run n → AreToldBy places run name → numbered_in places n ≡ true
      → is_first name.first n ≡ not (list_any (is_part_of (piece_in pieces n).base) (take n pieces))
  first_part run name n is told part =
      let p : ℕ → Bool = λ i. numbered_in places i && bytes_eq (name_in lower places n) (name_in lower places i) in
      let passes : p n ≡ true = rw (part, (bytes_eq-Decides (name_in lower places n) (name_in lower places n)).1 refl) refl in
      let few : length (filter p (numbers_below n)) ≡ length (parts_named (piece_in pieces n).base (take n pieces)) =
      sym (length-map (filter p (numbers_below n)) (piece_in pieces)) ∙ ap length (parts_below n n is.within (let l = is.within in omega (arith, l))) in
      ap (λ o. is_first o n) (told.first ∙ ap (λ xs. slice_get xs 0) (parts_in run n is)) ∙ first_passing p (length places) n is.within passes
      ∙ ap (λ k. not (nat_lt 0 k)) few ∙ ap not (sym (any_counts (piece_in pieces n).base (take n pieces)))

  role_is : (run : List ℕ) (name : NameRoles) (n : ℕ) → IsNameRun lower places run n → AreToldBy places run name → IsRole pieces (take n pieces) (piece_in pieces n) (role_at places name n)
  role_is run name n is told = elim (cases_Bool (numbered_in places n)) [
    | inr whole ↦ subst (IsRole pieces (take n pieces) (piece_in pieces n)) (sym (role_whole places name n whole))
        (whole_role pieces (take n pieces) (drop (n + 1) pieces) (piece_in pieces n) (ascii_in places n) name.is_doubled (sym (numbered_is text places pieces n are.are_placed is.within) ∙ whole) cut
        (ascii_is text places pieces n are.are_placed is.within) (told.is_doubled ∙ ap (nat_lt 1) (counted_run run n is)))
    | inl part ↦ elim (cases_Bool (is_first name.first n)) [
      | inl first ↦ subst (IsRole pieces (take n pieces) (piece_in pieces n)) (sym (role_part places name n true part first))
          (first_role pieces (take n pieces) (drop (n + 1) pieces) (piece_in pieces n) name.is_ascii name.has_whole (sym (numbered_is text places pieces n are.are_placed is.within) ∙ part) cut
          ((opposite _ _ (first_part run name n is told part)).0 first) (told.is_ascii ∙ parts_ascii run n is)
          (told.has_whole ∙ ap (λ k. nat_lt k (length run)) (counted_parts run n is) ∙ ap (nat_lt (length (parts_named (piece_in pieces n).base pieces))) (counted_run run n is)))
      | inr later ↦ subst (IsRole pieces (take n pieces) (piece_in pieces n)) (sym (role_part places name n false part later))
          (part_role pieces (take n pieces) (piece_in pieces n) name.is_ascii (sym (numbered_is text places pieces n are.are_placed is.within) ∙ part)
          ((opposite _ _ (first_part run name n is told part)).1 later) (told.is_ascii ∙ parts_ascii run n is))
    ]
  ]
    where
      cut : pieces ≡ take n pieces ++ piece_in pieces n ∷ drop (n + 1) pieces
      cut = cut_at pieces n (let l = is.within in omega (arith, l, count_is))

  -- the run of a name is that of each of its pieces
  run_of_other : (run : List ℕ) (first n : ℕ) → IsNameRun lower places run first → n < length places → bytes_eq (name_in lower places first) (name_in lower places n) ≡ true → IsNameRun lower places run n
  run_of_other run first n is l e = record {
    within = l;
    run_is = is.run_is ∙ ap (λ x. filter (λ other. bytes_eq x (name_in lower places other)) (numbers_below (length places))) ((bytes_eq-Decides (name_in lower places first) (name_in lower places n)).0 e);
  }

  pub SetsRoles-put : (run : List ℕ) (name : NameRoles) (first : ℕ) (old new : List Role) → IsNameRun lower places run first → AreToldBy places run name → length old ≡ length places
      → AreNumbered (map (piece_in pieces) (filter (numbered_in places) run))
      → ArePut places name run old new
      → SetsRoles lower places pieces first old new
  SetsRoles-put run name first old new is told count numbers put =
      let p : ℕ → Bool = λ other. bytes_eq (name_in lower places first) (name_in lower places other) in
      let there : (n : ℕ) → n < length places → list_any (λ one. one == n) run ≡ p n = λ n l. ap (list_any (λ one. one == n)) is.run_is ∙ in_passing p (length places) n l in
      record {
        said = λ n l e.
            let own = run_of_other run first n is l e in
            let now : (other : Role) → get_or new n other ≡ role_at places name n =
            λ other. put n other (omega (arith, l, count)) ∙ ap (λ b. if b then role_at places name n else get_or old n other) (there n l ∙ e) in
            record {
              role = λ other. subst (IsRole pieces (take n pieces) (piece_in pieces n)) (sym (now other)) (role_is run name n own told);
              are_numbered = subst AreNumbered (parts_are run n own) numbers;
            };
        kept = λ n other l e. put n other (omega (arith, l, count)) ∙ ap (λ b. if b then role_at places name n else get_or old n other) (there n l ∙ e);
      }

-- ---- all roles

-- The roles of the first pieces in the order of their names are set, and these are left.
pub record RolesGo (text lower : List ℕ) (places : List Place) (order : List ℕ) (roles : List Role) (rest : List ℕ) : Type 0 where
  pub done : List ℕ
  pub cut : order ≡ done ++ rest
  pub apart : AreApart (name_in lower places) done rest
  pub counted : length roles ≡ length places
  pub said : (pieces : List Piece) → AreLowered text lower places pieces → (n : ℕ) → n < length places → (filter (is_of (name_in lower places) n) done ≡ [] → ⊥) → HasItsRole pieces roles n

pub RolesGo-start : (text lower : List ℕ) (places : List Place) (order : List ℕ) (roles : List Role) → length roles ≡ length places → RolesGo text lower places order roles order
RolesGo-start text lower places order roles e = record { done = []; cut = refl; apart = λ x pre post at. refl; counted = e; said = λ pieces are n l some. absurd (some refl) }

pub RolesGo-run : (text lower : List ℕ) (places : List Place) (order : List ℕ) (roles : List Role) (rest more run following : List ℕ) (first : ℕ) → InNameOrder (name_in lower places) (length places) order
    → RolesGo text lower places order roles rest → rest ≡ first ∷ more → IsSpan (is_of (name_in lower places) first) rest run following → IsNameRun lower places run first
RolesGo-run text lower places order roles rest more run following first o go is span =
    let whole : run ≡ filter (is_of (name_in lower places) first) (numbers_below (length places)) =
    run_is (name_in lower places) (length places) order go.done rest more run following first o go.cut go.apart is span in
    let begins = run_begins (name_in lower places) first more run following (sym is ∙ span.whole) span.stops in
    let within : All (λ k. k < length places) (first ∷ begins.0) =
    subst (All (λ k. k < length places)) (sym whole ∙ begins.1) (passing_below (is_of (name_in lower places) first) (length places)) in
    record { within = All-head (λ k. k < length places) first begins.0 within; run_is = whole }

pub IsNameRun-within : (lower : List ℕ) (places : List Place) (run : List ℕ) (first : ℕ) → IsNameRun lower places run first → All (λ k. k < length places) run
IsNameRun-within lower places run first is = subst (All (λ k. k < length places)) (sym is.run_is) (passing_below (is_of (name_in lower places) first) (length places))

pub after_shorter : (name : ℕ → List ℕ) (rest more run following : List ℕ) (first : ℕ) → rest ≡ first ∷ more → IsSpan (is_of name first) rest run following → length following < length rest
after_shorter name rest more run following first is span =
    let begins = run_begins name first more run following (sym is ∙ span.whole) span.stops in
    let all = ap length is in
    let tail = ap length begins.2 in
    omega (arith, all, tail, length-append begins.0 following)

pub RolesGo-turn : (text lower : List ℕ) (places : List Place) (order : List ℕ) (roles new : List Role) (rest more run following : List ℕ) (first : ℕ) → InNameOrder (name_in lower places) (length places) order
    → RolesGo text lower places order roles rest → rest ≡ first ∷ more → IsSpan (is_of (name_in lower places) first) rest run following → length new ≡ length roles
    → ((pieces : List Piece) → AreLowered text lower places pieces → SetsRoles lower places pieces first roles new) → RolesGo text lower places order new following
RolesGo-turn text lower places order roles new rest more run following first o go is span count sets = record {
  done = go.done ++ run;
  cut = go.cut ∙ ap (λ r. go.done ++ r) span.whole ∙ sym (append_assoc go.done run following);
  apart = AreApart-more (name_in lower places) (length places) order go.done rest more run following first o go.cut go.apart is span;
  counted = count ∙ go.counted;
  said = λ pieces are n l some. elim (cases_Bool (is_of (name_in lower places) first n)) [
    | inl same ↦ (sets pieces are).said n l same
    | inr other ↦
        let not_here : filter (is_of (name_in lower places) n) run ≡ [] =
        others_pass (name_in lower places) first n run span.passes (turned (name_in lower places) n first ∙ other) in
        let before = go.said pieces are n l (λ none. some (filter-append (is_of (name_in lower places) n) go.done run
        ∙ ap (λ r. r ++ filter (is_of (name_in lower places) n) run) none ∙ not_here)) in
        record {
          role = λ d. subst (IsRole pieces (take n pieces) (piece_in pieces n)) (sym ((sets pieces are).kept n d l other)) (before.role d);
          are_numbered = before.are_numbered;
        }
  ];
}

no_more : (rest : List ℕ) → length rest ≡ 0 → rest ≡ []
no_more [] e = refl
no_more (x ∷ xs) e = absurd (omega (arith, e))

module _ (text lower : List ℕ) (places : List Place) (order : List ℕ) (roles : List Role) (rest : List ℕ) (o : InNameOrder (name_in lower places) (length places) order)
    (go : RolesGo text lower places order roles rest) (end : length rest ≡ 0) (pieces : List Piece) (are : AreLowered text lower places pieces) where
  all_said : (n : ℕ) → n < length places → HasItsRole pieces roles n
  all_said n l =
      let whole : go.done ≡ order = sym (append-nil go.done) ∙ ap (λ r. go.done ++ r) (sym (no_more rest end)) ∙ sym go.cut in
      let cut = below_cut n (length places) l in
      go.said pieces are n l (λ none. in_filter (name_in lower places) (is_of (name_in lower places) n) (numbers_below n) cut.0 n
      ((bytes_eq-Decides (name_in lower places n) (name_in lower places n)).1 refl)
      (ap (filter (is_of (name_in lower places) n)) (sym cut.1) ∙ sym (named_in (name_in lower places) (length places) order o n) ∙ ap (filter (is_of (name_in lower places) n)) (sym whole) ∙ none))

  pub roles_end : (n : ℕ) → n < length pieces → HasRole pieces roles n
  roles_end n l = (all_said n (omega (arith, l, ArePlaced-length text places pieces are.are_placed))).role

  pub numbered_end : (base : List ℕ) → AreNumbered (parts_named base pieces)
  numbered_end base = elim (cases_Bool (list_any (is_part_of base) pieces)) [
    | inl some ↦
        let at = Any-from_list_any (is_part_of base) pieces some in
        numbered_at at.0 at.2 (part_at at.0 at.1 at.2 at.3 at.4)
    | inr none ↦ λ n l. absurd (omega (arith, l, no_parts none))
  ]
    where
      second : (a b : Bool) → (a && b) ≡ true → b ≡ true
      second true b e = e
      second false b e = absurd (true≢false (sym e))

      no_parts : list_any (is_part_of base) pieces ≡ false → length (parts_named base pieces) ≡ 0
      no_parts none = let counts = sym (any_counts base pieces) ∙ none in grind (arith, nat_tests, counts)

      part_at : (k : ℕ) (piece : Piece) → k < length pieces → get_or pieces k piece ≡ piece → is_part_of base piece ≡ true → is_part_of base (piece_in pieces k) ≡ true
      part_at k piece l here is = subst (λ p. is_part_of base p ≡ true) (sym here ∙ get_or_default pieces k piece no_piece l) is

      numbered_at : (k : ℕ) → k < length pieces → is_part_of base (piece_in pieces k) ≡ true → AreNumbered (parts_named base pieces)
      numbered_at k l is =
          subst (λ name. AreNumbered (parts_named name pieces)) ((bytes_eq-Decides (piece_in pieces k).base base).0 (second (is_some (piece_in pieces k).number) (bytes_eq (piece_in pieces k).base base) is))
          (all_said k (omega (arith, l, ArePlaced-length text places pieces are.are_placed))).are_numbered
