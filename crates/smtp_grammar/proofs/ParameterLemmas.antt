-- The keywords of parameters, and a set that has them.
use Rattle.std.proofs.Common.{◌≡◌, ◌≤◌, ◌-◌, ℕ, ◌||◌, ◌==◌, inl, inr, length, take, drop, get_or, take_all, subst, List, [], ◌∷◌, ◌++◌, Bool, true, false, not, refl, sym, ap, ◌∙◌, ◌+◌, min, arith, Option, None, map}
use Rattle.std.specs.Global.{Vec}
use Rattle.std.specs.List.{list_any, filter, slice_split, onto_first, sum_by}
use Rattle.std.specs.Ordering.{is_eq, nat_cmp, match_ordering}
use Rattle.std.specs.declared.cmp.Ordering.{Ordering}
use Rattle.std.specs.declared.cmp.Ordering.TheVariants.{Less, Equal, Greater}
use Rattle.std.specs.Cmp.Lexicographic.{slice_cmp, nat_list_eq_equiv}
use Rattle.std.specs.Str.{bytes_eq}
use Rattle.std.specs.BTreeMap.{is_at}
use Rattle.std.specs.BTreeSet.{insert_key}
use Rattle.std.proofs.Math.Bool.{or_assoc, or_comm}
use Rattle.std.proofs.lemmas.Bool.{cases_Bool}
use Rattle.std.proofs.lemmas.List.Splits.{slice_split-cons_no, slice_split-cons_yes}
use Rattle.std.specs.Iterator.{Yields}
use Rattle.std.proofs.lemmas.Iterator.{YieldsList}
use Rattle.std.proofs.lemmas.Iterator.Consumers.{YieldsList-end}
use Rattle.std.proofs.lemmas.List.Folds.{list_any-append}
use Rattle.std.proofs.lemmas.List.Sums.{sum_by-append}
use Rattle.std.proofs.lemmas.Map.Text.{is_eq-slice_cmp}
use Rattle.std.proofs.lemmas.Slice.Eq.{bytes_eq-Decides}
use Rattle.mail_wire.specs.Octets.{is_white}
use Rattle.smtp_grammar.specs.Commands.{white_words, parameter_keyword, has_twice, parameter_of, is_malformed, are_malformed}

or_false : (b : Bool) → (b || false) ≡ b
or_false true = refl
or_false false = refl

-- what is there already
or_again : (a b : Bool) → (a || b) ≡ ((a || b) || a)
or_again true b = refl
or_again false true = refl
or_again false false = refl

-- a test at the last element
pub any-push : {X : Type 0} (p : X → Bool) (xs : List X) (x : X) → list_any p (xs ++ x ∷ []) ≡ (list_any p xs || p x)
any-push p xs x = list_any-append p xs (x ∷ []) ∙ ap (λ (b : Bool). list_any p xs || b) (or_false (p x))

bytes_eq-turned : (xs ys : List ℕ) → bytes_eq xs ys ≡ bytes_eq ys xs
bytes_eq-turned = nat_list_eq_equiv.symm

-- one more word: its keyword may be that of an earlier one
pub has_twice-push : (words : List (List ℕ)) (word : List ℕ) → has_twice (words ++ word ∷ []) ≡ (has_twice words || list_any (λ other. bytes_eq (parameter_keyword word) (parameter_keyword other)) words)
has_twice-push [] word = refl
has_twice-push (first ∷ words) word =
    let later = has_twice-push words word in
    let here = any-push (λ other. bytes_eq (parameter_keyword other) (parameter_keyword first)) words word in
    rw (here, later) (four (list_any (λ other. bytes_eq (parameter_keyword other) (parameter_keyword first)) words) (bytes_eq (parameter_keyword word) (parameter_keyword first)) (has_twice words) (list_any (λ other. bytes_eq (parameter_keyword word) (parameter_keyword other)) words))
  where
    four : (a b c d : Bool) → ((a || b) || (c || d)) ≡ ((a || c) || (b || d))
    four true b c d = refl
    four false true true d = refl
    four false true false d = refl
    four false false c d = refl

-- a key that was put to a set, which may have had it
pub insert-any : (q : List ℕ) (keys : List (Vec ℕ)) (key : Vec ℕ)
    → list_any (is_at (λ k. slice_cmp nat_cmp q k.items)) (insert_key (λ x y. slice_cmp nat_cmp x.items y.items) keys key) ≡ (list_any (is_at (λ k. slice_cmp nat_cmp q k.items)) keys || bytes_eq q key.items)
insert-any q [] key = or_false (is_at (λ (k : Vec ℕ). slice_cmp nat_cmp q k.items) key) ∙ is_eq-slice_cmp q key.items
insert-any q (x ∷ keys) key = step (insert-any q keys key) (slice_cmp nat_cmp key.items x.items) refl
  where
    step : (list_any (is_at (λ k. slice_cmp nat_cmp q k.items)) (insert_key (λ x y. slice_cmp nat_cmp x.items y.items) keys key) ≡ (list_any (is_at (λ k. slice_cmp nat_cmp q k.items)) keys || bytes_eq q key.items))
        → (o : Ordering) → slice_cmp nat_cmp key.items x.items ≡ o
        → list_any (is_at (λ k. slice_cmp nat_cmp q k.items)) (match_ordering o (key ∷ x ∷ keys) (x ∷ keys) (x ∷ insert_key (λ x y. slice_cmp nat_cmp x.items y.items) keys key))
        ≡ (list_any (is_at (λ k. slice_cmp nat_cmp q k.items)) (x ∷ keys) || bytes_eq q key.items)
    step later Less e =
        ap (λ (b : Bool). b || list_any (is_at (λ (k : Vec ℕ). slice_cmp nat_cmp q k.items)) (x ∷ keys)) (is_eq-slice_cmp q key.items)
        ∙ or_comm (bytes_eq q key.items) (list_any (is_at (λ (k : Vec ℕ). slice_cmp nat_cmp q k.items)) (x ∷ keys))
    step later Equal e =
        let same : key.items ≡ x.items = (bytes_eq-Decides key.items x.items).0 (sym (is_eq-slice_cmp key.items x.items) ∙ ap is_eq e) in
        or_again (is_eq (slice_cmp nat_cmp q x.items)) (list_any (is_at (λ (k : Vec ℕ). slice_cmp nat_cmp q k.items)) keys)
        ∙ ap (λ (b : Bool). list_any (is_at (λ (k : Vec ℕ). slice_cmp nat_cmp q k.items)) (x ∷ keys) || b) (is_eq-slice_cmp q x.items ∙ ap (bytes_eq q) (sym same))
    step later Greater e =
        ap (λ (b : Bool). is_eq (slice_cmp nat_cmp q x.items) || b) later
        ∙ sym (or_assoc (is_eq (slice_cmp nat_cmp q x.items)) (list_any (is_at (λ (k : Vec ℕ). slice_cmp nat_cmp q k.items)) keys) (bytes_eq q key.items))

-- what one more word makes of a telling that keywords or values are malformed
pub malformed-push : (new old twice wrong here is_new found : Bool) → new ≡ (old || (here || not is_new)) → old ≡ (twice || wrong) → is_new ≡ not found → new ≡ ((twice || found) || (wrong || here))
malformed-push new old twice wrong here is_new found n o f = n ∙ rw (o, f) (sorted twice wrong here found)
  where
    sorted : (twice wrong here found : Bool) → ((twice || wrong) || (here || not (not found))) ≡ ((twice || found) || (wrong || here))
    sorted true wrong here found = refl
    sorted false true here true = refl
    sorted false true here false = refl
    sorted false false true true = refl
    sorted false false true false = refl
    sorted false false false true = refl
    sorted false false false false = refl

-- the items of an iterator that a loop has yielded, at its end
pub all-yielded : {S A B : Type 0} {steps : S → Option A → S → Type 0} {v : A → B} {s : S} {all : List B} (xs : List A) (t : S) → Yields steps s xs t
    → (r : Option A) (u : S) → r ≡ None → steps t r u → YieldsList steps v s all → map v xs ≡ all
all-yielded xs t y r u none step e = (YieldsList-end e xs t y r u none step).0

-- a flag that one more word may set
pub flag-turn : (p : List ℕ → Bool) (words : List (List ℕ)) (word : List ℕ) (more : List (List ℕ)) (new old here : Bool) → more ≡ words ++ word ∷ [] → new ≡ (old || here) → old ≡ list_any p words → here ≡ p word
    → new ≡ list_any p more
flag-turn p words word more new old here m n o h = rw (m, any-push p words word, n, o, h) refl

-- a capped sum to which one more word adds
pub size-turn : (f : List ℕ → ℕ) (words : List (List ℕ)) (word : List ℕ) (more : List (List ℕ)) (new old here most : ℕ) → more ≡ words ++ word ∷ [] → new ≡ min (old + here) most → old ≡ min (sum_by f words) most → here ≡ f word
    → new ≡ min (sum_by f more) most
size-turn f words word more new old here most m n o h = rw (m, sum_by-append f words (word ∷ [])) (omega arith)

-- the telling that keywords or values are malformed, with one more word
pub malformed-turn : (words : List (List ℕ)) (word : List ℕ) (more : List (List ℕ)) (new old here is_new : Bool) → more ≡ words ++ word ∷ [] → new ≡ (old || (here || not is_new)) → old ≡ are_malformed words
    → here ≡ is_malformed (parameter_of word) → is_new ≡ not (list_any (λ other. bytes_eq (parameter_keyword word) (parameter_keyword other)) words) → new ≡ are_malformed more
malformed-turn words word more new old here is_new m n o h f =
    let pushed = malformed-push new old (has_twice words) (list_any (λ word. is_malformed (parameter_of word)) words) here is_new (list_any (λ other. bytes_eq (parameter_keyword word) (parameter_keyword other)) words) n o f in
    rw (m, has_twice-push words word, any-push (λ word. is_malformed (parameter_of word)) words word, ← h) pushed

-- the keywords of a set, with one more word
pub keywords-turn : (words : List (List ℕ)) (word : List ℕ) (more : List (List ℕ)) (old new : List (Vec ℕ)) (key : Vec ℕ) → more ≡ words ++ word ∷ [] → key.items ≡ parameter_keyword word
    → new ≡ insert_key (λ x y. slice_cmp nat_cmp x.items y.items) old key
    → ((q : List ℕ) → list_any (is_at (λ k. slice_cmp nat_cmp q k.items)) old ≡ list_any (λ word. bytes_eq q (parameter_keyword word)) words)
    → (q : List ℕ) → list_any (is_at (λ k. slice_cmp nat_cmp q k.items)) new ≡ list_any (λ word. bytes_eq q (parameter_keyword word)) more
keywords-turn words word more old new key m k n o q =
    ap (list_any (is_at (λ (k : Vec ℕ). slice_cmp nat_cmp q k.items))) n ∙ insert-any q old key ∙ rw (m, any-push (λ word. bytes_eq q (parameter_keyword word)) words word, o q, k) refl

-- ---- one word alone

whole_word : (word : List ℕ) → list_any is_white word ≡ false → slice_split is_white word ≡ word ∷ []
whole_word [] none = refl
whole_word (x ∷ word) none = elim (cases_Bool (is_white x)) [
  | inl white ↦ absurd (cc (rw white at none))
  | inr nonwhite ↦ slice_split-cons_no is_white x word nonwhite ∙ ap (onto_first x) (whole_word word (rw nonwhite at none))
]

lone_by : (x : ℕ) (word : List ℕ) → is_white x ≡ true → (length word == 0) ≡ false → list_any is_white word ≡ false → white_words (x ∷ word) ≡ word ∷ []
lone_by x word white full none =
    ap (filter (λ (word : List ℕ). not (length word == 0))) (slice_split-cons_yes is_white x word white ∙ ap (λ (words : List (List ℕ)). [] ∷ words) (whole_word word none))
    ∙ rw full refl

-- after a white octet it is the only word
pub lone_word_is : (rest word : List ℕ) → 1 ≤ length rest → word ≡ take (length rest - 1) (drop 1 rest) → is_white (get_or rest 0 0) ≡ true → (length word == 0) ≡ false → list_any is_white word ≡ false
    → white_words rest ≡ word ∷ []
lone_word_is [] word long is white full none = absurd (omega arith)
lone_word_is (x ∷ rest) word long is white full none =
    let same : word ≡ rest = is ∙ take_all (length (x ∷ rest) - 1) rest (omega arith) in
    subst (λ (w : List ℕ). white_words (x ∷ rest) ≡ w ∷ []) (sym same)
    (lone_by x rest white (subst (λ (w : List ℕ). (length w == 0) ≡ false) same full) (subst (λ (w : List ℕ). list_any is_white w ≡ false) same none))
