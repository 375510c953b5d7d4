-- The text of a comment has one list of units.
use Rattle.std.proofs.Common.{◌≡◌, ℕ, ◌<◌, Bool, true, false, not, List, [], ◌∷◌, ◌++◌, length, map, Option, refl, sym, ap, ◌∙◌, subst, arith}
use Rattle.std.proofs.lemmas.Bool.{and_parts, not-true, not_from_true, both_ways}
use Rattle.std.proofs.lemmas.List.{append_assoc}
use Rattle.std.specs.List.{list_all, list_any, flat_map}
use Rattle.encoded_words.specs.Words.{UnitValue, SaysWhere}
use Rattle.encoded_words.specs.Units.{raw_units, merged}
use Rattle.encoded_words.specs.CommentUnits.{TextItem, Plain, Pair, AreTextItems, item_spelling, item_octet, has_backslash, is_white_item, CommentWord, word_items, ItemsDivide, AreCommentWords, comment_places, HasCommentUnits}
use Rattle.encoded_words.proofs.PhraseLemmas.{says_where_once}

no_item : (i : TextItem) (x : List ℕ) → item_spelling i ++ x ≡ [] → ⊥
no_item (Plain a) x e = cc e
no_item (Pair a) x e = cc e

-- a backslash by itself isn't the beginning of a pair
not_pair : (a b : ℕ) (xs : List TextItem) (ys : List ℕ) → (a ≡ 92 → xs ≡ []) → a ∷ flat_map item_spelling xs ≡ 92 ∷ b ∷ ys → ⊥
not_pair a b xs ys lone e =
    let none : xs ≡ [] = lone (cc e) in
    let rest : flat_map item_spelling xs ≡ b ∷ ys = cc e in
    cc (sym (ap (flat_map item_spelling) none) ∙ rest)

-- a text is spelled by one list of items
pub items_once : (xs ys : List TextItem) → AreTextItems xs → AreTextItems ys → flat_map item_spelling xs ≡ flat_map item_spelling ys → xs ≡ ys
items_once [] [] a b e = refl
items_once [] (y ∷ ys) a b e = absurd (no_item y (flat_map item_spelling ys) (sym e))
items_once (x ∷ xs) [] a b e = absurd (no_item x (flat_map item_spelling xs) e)
items_once (Plain x ∷ xs) (Plain y ∷ ys) a b e =
    let head : x ≡ y = cc e in
    let rest : flat_map item_spelling xs ≡ flat_map item_spelling ys = cc e in
    let tail : xs ≡ ys = items_once xs ys a.1 b.1 rest in
    cc
items_once (Plain x ∷ xs) (Pair y ∷ ys) a b e = absurd (not_pair x y xs (flat_map item_spelling ys) a.0 e)
items_once (Pair x ∷ xs) (Plain y ∷ ys) a b e = absurd (not_pair y x ys (flat_map item_spelling xs) b.0 (sym e))
items_once (Pair x ∷ xs) (Pair y ∷ ys) a b e =
    let head : x ≡ y = cc e in
    let rest : flat_map item_spelling xs ≡ flat_map item_spelling ys = cc e in
    let tail : xs ≡ ys = items_once xs ys a b rest in
    cc

-- the list does not begin with an item that passes
abbrev StopsAt : (TextItem → Bool) → List TextItem → Type 0
StopsAt p [] = Unit {0}
StopsAt p (x ∷ xs) = p x ≡ false

-- there is one longest front that passes
front_once : (p : TextItem → Bool) (a b x y : List TextItem) → list_all p a ≡ true → list_all p b ≡ true → StopsAt p x → StopsAt p y → a ++ x ≡ b ++ y → (a ≡ b) × (x ≡ y)
front_once p [] [] x y pa pb sx sy e = (refl, e)
front_once p [] (h ∷ b) [] y pa pb sx sy e = cc e
front_once p [] (h ∷ b) (k ∷ x) y pa pb sx sy e =
    let parts = and_parts (p h) (list_all p b) pb in
    let same : k ≡ h = cc e in
    absurd (both_ways (p h) (ap p (sym same) ∙ sx) parts.0)
front_once p (h ∷ a) [] x [] pa pb sx sy e = cc e
front_once p (h ∷ a) [] x (k ∷ y) pa pb sx sy e =
    let parts = and_parts (p h) (list_all p a) pa in
    let same : k ≡ h = cc e in
    absurd (both_ways (p h) (ap p (sym same) ∙ sy) parts.0)
front_once p (h ∷ a) (k ∷ b) x y pa pb sx sy e =
    let same : h ≡ k = cc e in
    let rest : a ++ x ≡ b ++ y = cc e in
    let r = front_once p a b x y (and_parts (p h) (list_all p a) pa).1 (and_parts (p k) (list_all p b) pb).1 sx sy rest in
    let front : a ≡ b = r.0 in
    (cc, r.1)

abbrev is_nonwhite_item : TextItem → Bool
is_nonwhite_item i = not (is_white_item i)

-- a word begins what is left, and white or the end follows it
begins_word : (ws : List CommentWord) → AreCommentWords ws → StopsAt is_white_item (flat_map word_items ws)
begins_word [] are = tt
begins_word (w ∷ ws) are = first w.items w.run (flat_map word_items ws) are.0.is_word are.0.nonwhite
  where
    first : (items run rest : List TextItem) → 0 < length items → list_all is_nonwhite_item items ≡ true → StopsAt is_white_item ((items ++ run) ++ rest)
    first [] run rest some nonwhite = absurd (omega arith)
    first (x ∷ items) run rest some nonwhite = not-true (is_white_item x) (and_parts (is_nonwhite_item x) (list_all is_nonwhite_item items) nonwhite).0

after_word : (run : List TextItem) (ws : List CommentWord) → list_all is_white_item run ≡ true → ItemsDivide run ws → StopsAt is_nonwhite_item (run ++ flat_map word_items ws)
after_word [] [] white divides = tt
after_word [] (w ∷ ws) white divides = absurd (omega arith)
after_word (x ∷ run) ws white divides = not_from_true (is_white_item x) (and_parts (is_white_item x) (list_all is_white_item run) white).0

abbrev word : List TextItem → Option UnitValue → List TextItem → CommentWord
word items says run = record { items = items; says = says; run = run }

made : (a b : List TextItem) (s t : Option UnitValue) (x y : List TextItem) → a ≡ b → s ≡ t → x ≡ y → word a s x ≡ word b t y
made a b s t x y e f g = cc

no_words : (items run rest : List TextItem) → 0 < length items → (items ++ run) ++ rest ≡ [] → ⊥
no_words [] run rest some e = omega arith
no_words (x ∷ items) run rest some e = cc e

words_once : (ws vs : List CommentWord) → AreCommentWords ws → AreCommentWords vs → flat_map word_items ws ≡ flat_map word_items vs → ws ≡ vs
words_once [] [] hw hv e = refl
words_once [] (v ∷ vs) hw hv e = absurd (no_words v.items v.run (flat_map word_items vs) hv.0.is_word (sym e))
words_once (w ∷ ws) [] hw hv e = absurd (no_words w.items w.run (flat_map word_items ws) hw.0.is_word e)
words_once (w ∷ ws) (v ∷ vs) hw hv e =
    let a = flat_map word_items ws in
    let b = flat_map word_items vs in
    let whole : w.items ++ (w.run ++ a) ≡ v.items ++ (v.run ++ b) = sym (append_assoc w.items w.run a) ∙ e ∙ append_assoc v.items v.run b in
    let fronts = front_once is_nonwhite_item w.items v.items (w.run ++ a) (v.run ++ b) hw.0.nonwhite hv.0.nonwhite
    (after_word w.run ws hw.0.white hw.1) (after_word v.run vs hv.0.white hv.1) whole in
    let runs = front_once is_white_item w.run v.run a b hw.0.white hv.0.white (begins_word ws hw.2) (begins_word vs hv.2) fronts.1 in
    let at_v = subst (λ xs. SaysWhere (not (list_any has_backslash xs)) (map item_octet xs) w.says) fronts.0 hw.0.says in
    let says : w.says ≡ v.says = says_where_once (not (list_any has_backslash v.items)) (map item_octet v.items) w.says v.says at_v hv.0.says in
    let head : w ≡ v = made w.items v.items w.says v.says w.run v.run fronts.0 says runs.0 in
    let tail : ws ≡ vs = words_once ws vs hw.2 hv.2 runs.1 in
    cc

pub HasCommentUnits-once : (text : List ℕ) (us vs : List UnitValue) → HasCommentUnits text us → HasCommentUnits text vs → us ≡ vs
HasCommentUnits-once text us vs p q =
    let same = items_once (p.lead ++ flat_map word_items p.words) (q.lead ++ flat_map word_items q.words) p.are_items q.are_items (sym p.whole ∙ q.whole) in
    let both = front_once is_white_item p.lead q.lead (flat_map word_items p.words) (flat_map word_items q.words) p.white q.white
    (begins_word p.words p.are_words) (begins_word q.words q.are_words) same in
    p.says ∙ ap (λ ws. merged (raw_units (comment_places ws))) (words_once p.words q.words p.are_words q.are_words both.1) ∙ sym q.says
