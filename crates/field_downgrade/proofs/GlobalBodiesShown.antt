-- The octets of folded bodies that aren't line ends.
use Rattle.std.proofs.Common.{◌≡◌, ℕ, ◌<◌, Bool, true, false, not, List, [], ◌∷◌, ◌++◌, length, refl, sym, ap, ◌∙◌, subst, arith}
use Rattle.std.proofs.lemmas.Bool.{and_parts, and_from, both_ways}
use Rattle.std.proofs.lemmas.Bool.Decides.{nat_tests}
use Rattle.std.specs.List.{AllByRecursion, list_all, flat_map}
use Rattle.mail_wire.specs.Octets.{is_white, is_line_end}
use Rattle.mail_wire.specs.Folds.{FoldedItem, Octet, Fold, IsFoldedItem, item_octets, IsFolded}
use Rattle.mail_wire.proofs.Folded.{without_ends, BeginsText, IsFolded-cut, IsFolded-drop_plain}
use Rattle.mail_wire.proofs.OctetLemmas.{white_no_end}
use Rattle.field_tokens.specs.declared.Style.TheVariants.{Mime}
use Rattle.field_tokens.specs.TokenOctets.{is_atom_octet}

abbrev pub AreAtom : List ℕ → Type 0
AreAtom word = list_all (is_atom_octet Mime) word ≡ true

atom_nonwhite : (x : ℕ) → is_atom_octet Mime x ≡ true → is_white x ≡ false
atom_nonwhite x h = grind (arith, nat_tests)

atom_shown : (x : ℕ) → is_atom_octet Mime x ≡ true → is_line_end x ≡ false
atom_shown x h = grind (arith, nat_tests)

first_atom : (x : ℕ) (word : List ℕ) → AreAtom (x ∷ word) → is_atom_octet Mime x ≡ true
first_atom x word all = (and_parts (is_atom_octet Mime x) (list_all (is_atom_octet Mime) word) all).0

more_atom : (x : ℕ) (word : List ℕ) → AreAtom (x ∷ word) → AreAtom word
more_atom x word all = (and_parts (is_atom_octet Mime x) (list_all (is_atom_octet Mime) word) all).1

pub atom_plain : (word : List ℕ) → AreAtom word → list_all (λ x. not (is_line_end x)) word ≡ true
atom_plain [] all = refl
atom_plain (x ∷ word) all = and_from (not (is_line_end x)) (list_all (λ x. not (is_line_end x)) word) (ap not (atom_shown x (first_atom x word all))) (atom_plain word (more_atom x word all))

pub begins_text : (word rest : List ℕ) → 0 < length word → AreAtom word → BeginsText (word ++ rest)
begins_text [] rest some all = absurd (omega (arith, some))
begins_text (x ∷ word) rest some all = let first = first_atom x word all in (atom_nonwhite x first, atom_shown x first)

-- ---- a shown octet has a place

record HasShown (xs front : List ℕ) (x : ℕ) (rest : List ℕ) : Type 0 where
  before : List ℕ
  after : List ℕ
  whole : xs ≡ before ++ x ∷ after
  front_is : without_ends before ≡ front
  rest_is : without_ends after ≡ rest

find_shown : (xs front : List ℕ) (x : ℕ) (rest : List ℕ) → without_ends xs ≡ front ++ x ∷ rest → HasShown xs front x rest
find_shown [] [] x rest e = absurd (nothing e)
  where
    nothing : [] ≡ x ∷ rest → ⊥
    nothing e = cc e
find_shown [] (a ∷ front) x rest e = absurd (nothing e)
  where
    nothing : [] ≡ a ∷ (front ++ x ∷ rest) → ⊥
    nothing e = cc e
find_shown (y ∷ ys) front x rest e = by (is_line_end y) refl front e (λ f. find_shown ys f x rest)
  where
    following : (front : List ℕ) → is_line_end y ≡ true → HasShown ys front x rest → HasShown (y ∷ ys) front x rest
    following front is has = record { before = y ∷ has.before; after = has.after; whole = ap (λ r. y ∷ r) has.whole; front_is = rw (is) has.front_is; rest_is = has.rest_is }

    kept : (front : List ℕ) → is_line_end y ≡ false → HasShown ys front x rest → HasShown (y ∷ ys) (y ∷ front) x rest
    kept front is has = record { before = y ∷ has.before; after = has.after; whole = ap (λ r. y ∷ r) has.whole; front_is = rw (is) (ap (λ r. y ∷ r) has.front_is); rest_is = has.rest_is }

    by : (b : Bool) → is_line_end y ≡ b → (front : List ℕ) → without_ends (y ∷ ys) ≡ front ++ x ∷ rest → ((f : List ℕ) → without_ends ys ≡ f ++ x ∷ rest → HasShown ys f x rest)
        → HasShown (y ∷ ys) front x rest
    by true is front e more = following front is (more front (rw (is) at e))
    by false is [] e more =
        let shown : y ∷ without_ends ys ≡ x ∷ rest = rw (is) at e in
        let first : y ≡ x = cc shown in
        let others : without_ends ys ≡ rest = cc shown in
        record { before = []; after = ys; whole = ap (λ z. z ∷ ys) first; front_is = refl; rest_is = others }
    by false is (a ∷ front) e more =
        let shown : y ∷ without_ends ys ≡ a ∷ (front ++ x ∷ rest) = rw (is) at e in
        let first : y ≡ a = cc shown in
        let others : without_ends ys ≡ front ++ x ∷ rest = cc shown in
        subst (λ z. HasShown (y ∷ ys) (z ∷ front) x rest) first (kept front is (more front others))

-- an atom that is shown stands together
atom_first : (items : List FoldedItem) (word rest : List ℕ) → AllByRecursion IsFoldedItem items → AreAtom word → without_ends (flat_map item_octets items) ≡ word ++ rest
    → (after : List ℕ) × (flat_map item_octets items ≡ word ++ after) × (without_ends after ≡ rest)
atom_first items [] rest are all e = (flat_map item_octets items, refl, e)
atom_first [] (c ∷ word) rest are all e = absurd (nothing e)
  where
    nothing : [] ≡ c ∷ (word ++ rest) → ⊥
    nothing e = cc e
atom_first (Octet y ∷ items) (c ∷ word) rest are all e =
    let shown : y ∷ without_ends (flat_map item_octets items) ≡ c ∷ (word ++ rest) = rw (are.0) at e in
    let first : y ≡ c = cc shown in
    let others : without_ends (flat_map item_octets items) ≡ word ++ rest = cc shown in
    let more = atom_first items word rest are.1 (more_atom c word all) others in
    (more.0, ap (λ r. y ∷ r) more.1 ∙ ap (λ z. z ∷ (word ++ more.0)) first, more.2)
atom_first (Fold w ∷ items) (c ∷ word) rest are all e =
    let shown : w ∷ without_ends (flat_map item_octets items) ≡ c ∷ (word ++ rest) = rw (white_no_end w are.0) at e in
    let first : w ≡ c = cc shown in
    absurd (both_ways (is_white c) (atom_nonwhite c (first_atom c word all)) (subst (λ z. is_white z ≡ true) first are.0))

-- a folded text by an atom that it shows
pub record HasAtomAt (text front word rest : List ℕ) : Type 0 where
  pub before : List ℕ
  pub after : List ℕ
  pub whole : text ≡ before ++ (word ++ after)
  pub front_is : without_ends before ≡ front
  pub rest_is : without_ends after ≡ rest
  pub before_folded : IsFolded before
  pub after_folded : IsFolded after

pub cut_atom : (text before word after : List ℕ) → IsFolded text → 0 < length word → AreAtom word → text ≡ before ++ (word ++ after) → IsFolded before × IsFolded after
cut_atom text before word after is some all e =
    let cut = IsFolded-cut before (word ++ after) (subst IsFolded e is) (begins_text word after some all) in
    (cut.0, IsFolded-drop_plain word after (atom_plain word all) cut.1)

atom_found : (text before following octets after : List ℕ) (x : ℕ) (word front rest : List ℕ) → IsFolded text → AreAtom (x ∷ word) → text ≡ before ++ x ∷ following → without_ends before ≡ front
    → following ≡ octets → octets ≡ word ++ after → without_ends after ≡ rest → HasAtomAt text front (x ∷ word) rest
atom_found text before following octets after x word front rest is all e front_is spelled onward rest_is =
    let whole : text ≡ before ++ ((x ∷ word) ++ after) = e ∙ ap (λ r. before ++ x ∷ r) (spelled ∙ onward) in
    let parts = cut_atom text before (x ∷ word) after is (omega arith) all whole in
    record { before = before; after = after; whole = whole; front_is = front_is; rest_is = rest_is; before_folded = parts.0; after_folded = parts.1 }

pub find_atom : (text front word rest : List ℕ) → IsFolded text → 0 < length word → AreAtom word → without_ends text ≡ front ++ (word ++ rest) → HasAtomAt text front word rest
find_atom text front [] rest is some all e = absurd (omega (arith, some))
find_atom text front (x ∷ word) rest is some all e =
    let has = find_shown text front x (word ++ rest) e in
    let first = first_atom x word all in
    let cut = IsFolded-cut has.before (x ∷ has.after) (subst IsFolded has.whole is) (atom_nonwhite x first, atom_shown x first) in
    let following = IsFolded-drop_plain (x ∷ []) has.after (atom_plain (x ∷ []) (and_from (is_atom_octet Mime x) true first refl)) cut.1 in
    let found = atom_first following.items word rest following.are_items (more_atom x word all) (sym (ap without_ends following.spelled) ∙ has.rest_is) in
    atom_found text has.before has.after _ found.0 x word front rest is all has.whole has.front_is following.spelled found.1 found.2

-- ---- a place is one

-- the text begins with an octet that is shown
abbrev pub BeginsShown : List ℕ → Type 0
BeginsShown [] = ⊥
BeginsShown (x ∷ xs) = is_line_end x ≡ false

pub begins_shown : (word rest : List ℕ) → 0 < length word → AreAtom word → BeginsShown (word ++ rest)
begins_shown [] rest some all = absurd (omega (arith, some))
begins_shown (x ∷ word) rest some all = atom_shown x (first_atom x word all)

some_shown : (y : ℕ) (b x ys : List ℕ) → x ≡ y ∷ ys → BeginsShown x → [] ≡ without_ends (y ∷ b) → ⊥
some_shown y b [] ys e begins none = begins
some_shown y b (x ∷ xs) ys e begins none =
    let same : x ≡ y = cc e in
    let shown : [] ≡ y ∷ without_ends b = rw (subst (λ z. is_line_end z ≡ false) same begins) at none in
    cc shown

pub place_once : (a b x y : List ℕ) → a ++ x ≡ b ++ y → without_ends a ≡ without_ends b → BeginsShown x → BeginsShown y → (a ≡ b) × (x ≡ y)
place_once [] [] x y e shown p q = (refl, e)
place_once [] (d ∷ b) x y e shown p q = absurd (some_shown d b x (b ++ y) e p shown)
place_once (c ∷ a) [] x y e shown p q = absurd (some_shown c a y (a ++ x) (sym e) q (sym shown))
place_once (c ∷ a) (d ∷ b) x y e shown p q =
    let same : c ≡ d = cc e in
    let rest : a ++ x ≡ b ++ y = cc e in
    let others = place_once a b x y rest (following (is_line_end c) refl (shown ∙ ap (λ z. without_ends (z ∷ b)) (sym same))) p q in
    (ap (λ r. c ∷ r) others.0 ∙ ap (λ z. z ∷ b) same, others.1)
  where
    following : (e : Bool) → is_line_end c ≡ e → without_ends (c ∷ a) ≡ without_ends (c ∷ b) → without_ends a ≡ without_ends b
    following true is shown = rw (is) at shown
    following false is shown = let kept : c ∷ without_ends a ≡ c ∷ without_ends b = rw (is) at shown in cc kept
