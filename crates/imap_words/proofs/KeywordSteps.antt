-- A word of a table is read exactly: of the octets that a word begins with, the last is found, and then they are a word or not.
use Rattle.std.proofs.Common.{◌≡◌, ℕ, ◌+◌, ◌-◌, ◌<◌, ◌≤◌, Bool, true, false, not, List, [], ◌∷◌, ◌++◌, length, map, take, drop, get_or, Contains, Option, None, Some, MatchOption, inl, inr, refl, sym, ap, ◌∙◌, subst, append_assoc, append-nil, length-append, arith}
use Rattle.std.proofs.lemmas.Bool.{cases_lt, both_ways}
use Rattle.std.specs.Option.{is_some}
use Rattle.std.proofs.lemmas.List.{map-append, length-map, take-append-drop, length-take-le, take_all, take_more, drop_more, length-drop, get_or_append_left, get_or-take, get_or-map}
use Rattle.std.proofs.lemmas.List.Elements.{Contains-append_left, Contains-push, Contains-push_cases}
use Rattle.imap_words.specs.Languages.{IsViable}
use Rattle.imap_words.specs.Reading.{BeginsAlike, BeginsIn, Reads, FailsAt}
use Rattle.imap_words.specs.Keywords.{Named, upper, IsWordOf, SomeBegins, IsTable, TellsLonger, IsCommon, IsBest}
use Rattle.imap_words.proofs.TokenSteps.{Compared, Same, Longer, Shorter, compared, greedy_reads}

-- what stands after a front, with an octet of it
regrouped : (a : List ℕ) (y : ℕ) (c : List ℕ) → map upper (a ++ y ∷ c) ≡ (map upper a ++ upper y ∷ []) ++ map upper c
regrouped a y c = map-append upper a (y ∷ c) ∙ sym (append_assoc (map upper a) (upper y ∷ []) (map upper c))

upper_tail : (a rest : List ℕ) → map upper (a ++ rest) ≡ a ++ rest → map upper rest ≡ rest
upper_tail [] rest e = e
upper_tail (x ∷ a) rest e = upper_tail a rest (tail_of e)
  where
    tail_of : {x y : ℕ} {xs ys : List ℕ} → x ∷ xs ≡ y ∷ ys → xs ≡ ys
    tail_of e = cc e

front_more : (text : List ℕ) (len : ℕ) → len < length text → map upper (take (len + 1) text) ≡ map upper (take len text) ++ upper (get_or text len 0) ∷ []
front_more text len short = ap (λ z. map upper z) (take_more text len 0 short) ∙ map-append upper (take len text) (get_or text len 0 ∷ [])

module _ {V : Type 0} (table : List (Named V)) where
  pub front_viable : (front : List ℕ) → IsTable table → SomeBegins table (map upper front) → IsViable (IsWordOf table) front
  front_viable front t some = record {
    rest = some.1;
    value = some.0.says;
    is_word = record {
      entry = some.0;
      known = some.2;
      word = map-append upper front some.1 ∙ (ap (λ z. map upper front ++ z) (upper_tail (map upper front) some.1 (subst (λ z. map upper z ≡ z) some.3 (t.each some.0 some.2))) ∙ sym some.3);
      says = refl;
    };
  }

  pub word_viable : IsTable table → IsViable (IsWordOf table) []
  word_viable t = front_viable [] t (t.some, t.some.word, t.known, refl)

  best_begins : (text : List ℕ) (len : ℕ) (found : Option V) → IsBest table text len found → IsTable table → SomeBegins table (map upper (take len text))
  best_begins text len found best t = elim (cases_lt 0 len) [
    | inl some ↦ best.some some
    | inr none ↦
        let zero : len ≡ 0 = omega (arith, none) in
        subst (λ z. SomeBegins table (map upper (take z text))) (sym zero) (t.some, t.some.word, t.known, refl)
  ]

  pub word_more : (text : List ℕ) (len : ℕ) (found : Option V) → IsBest table text len found → IsTable table → len ≡ length text → IsViable (IsWordOf table) text
  word_more text len found best t all =
      front_viable text t (subst (λ z. SomeBegins table (map upper z)) (take_all len text (omega (arith, all))) (best_begins text len found best t))

  module _ (later : V → ℕ → Bool) (text : List ℕ) (len : ℕ) (observed : TellsLonger table later) (short : len < length text) where
    -- an octet more, and no word begins so
    longer_none : (found : Option V) → IsBest table text len found → (y : ℕ) → get_or text len 0 ≡ y → (entry : Named V) (c : List ℕ) → Contains table entry → entry.word ≡ (map upper (take len text) ++ upper y ∷ []) ++ c → ⊥
    longer_none found best y same entry c known spelled =
        best.longest (len + 1) (omega arith) (omega (arith, short))
        (entry, c, known, spelled ∙ ap (λ z. z ++ c) (sym (front_more text len short ∙ ap (λ z. map upper (take len text) ++ upper z ∷ []) same)))

    -- a shorter word, after which a longer one goes on
    shorter_goes : (a : List ℕ) (y : ℕ) (c rest : List ℕ) (w : V) → take len text ≡ a ++ y ∷ c → IsWordOf table a w → (entry : Named V) → Contains table entry → entry.word ≡ map upper (take len text) ++ rest → later w y ≡ true
    shorter_goes a y c rest w s is entry known spelled =
        subst (λ z. later z y ≡ true) (sym is.says) (observed is.entry y is.known (
          entry,
          map upper c ++ rest,
          known,
          spelled ∙ (ap (λ z. z ++ rest) (ap (λ z. map upper z) s ∙ (regrouped a y c ∙ ap (λ z. (z ++ upper y ∷ []) ++ map upper c) is.word)) ∙ append_assoc (is.entry.word ++ upper y ∷ []) (map upper c) rest),
        ))

    pub word_reads : (rest : List ℕ) (v : V) (found : Option V) → IsBest table text len found → IsTable table → found ≡ Some v → rest ≡ drop len text → Reads (IsWordOf table) later text v rest
    word_reads rest v found best t e r =
        greedy_reads (IsWordOf table) later text (take len text) v rest (sym (take-append-drop len text) ∙ ap (λ z. take len text ++ z) (sym r))
        (record { entry = mine; known = known; word = refl; says = refl })
        (λ w is. is.says ∙ t.one is.entry mine is.known known (sym is.word))
        (λ y c more w on is. longer_none found best y (subst (λ z. BeginsAlike z (y ∷ more)) at on) is.entry (map upper c) is.known (sym is.word ∙ regrouped (take len text) y c))
        (λ a y c w s is. shorter_goes a y c [] w s is mine known (sym (append-nil _)))
      where
        mine : Named V
        mine = record { word = map upper (take len text); says = v }

        known : Contains table mine
        known = subst (λ z. MatchOption z ((entry : Named V) → Contains table entry → entry.word ≡ map upper (take len text) → ⊥) (λ u. Contains table (record { word = map upper (take len text); says = u }))) e best.is

        at : rest ≡ get_or text len 0 ∷ drop (len + 1) text
        at = r ∙ drop_more text len 0 short

    pub word_fails : (found : Option V) → IsBest table text len found → IsTable table → found ≡ None → FailsAt (IsWordOf table) later text (length text - len)
    word_fails found best t e = record {
      front = take len text;
      octet = get_or text len 0;
      back = drop (len + 1) text;
      whole = sym (take-append-drop len text) ∙ ap (λ z. take len text ++ z) more;
      left_is = sym (length-drop len text) ∙ ap length more;
      viable = front_viable (take len text) t begins;
      hopeless = λ others a b w is same. by_length a b w others is (compared a (take len text) b (get_or text len 0 ∷ others) same);
    }
      where
        more : drop len text ≡ get_or text len 0 ∷ drop (len + 1) text
        more = drop_more text len 0 short

        begins : SomeBegins table (map upper (take len text))
        begins = best_begins text len found best t

        no_word : (entry : Named V) → Contains table entry → entry.word ≡ map upper (take len text) → ⊥
        no_word = subst (λ z. MatchOption z ((entry : Named V) → Contains table entry → entry.word ≡ map upper (take len text) → ⊥) (λ u. Contains table (record { word = map upper (take len text); says = u }))) e best.is

        by_length : (a b : List ℕ) (w : V) (others : List ℕ) → IsWordOf table a w → Compared a (take len text) b (get_or text len 0 ∷ others) → BeginsIn (later w) b
        by_length a b w others is (Same s) = absurd (no_word is.entry is.known (sym is.word ∙ ap (λ z. map upper z) s))
        by_length a b w others is (Longer y c s u) =
            let same : get_or text len 0 ≡ y = cc u in
            absurd (longer_none found best y same is.entry (map upper c) is.known (sym is.word ∙ (ap (λ z. map upper z) s ∙ regrouped (take len text) y c)))
        by_length a b w others is (Shorter y c s u) = subst (λ z. BeginsIn (later w) z) (sym u) (shorter_goes a y c begins.1 w s is begins.0 begins.2 begins.3)

-- ---- a further word

common_front : (text word rest : List ℕ) (n m : ℕ) → IsCommon text word n → m ≤ length text → word ≡ map upper (take m text) ++ rest → m ≤ n
common_front text word rest n m common fits spelled = elim (cases_lt n m) [
  | inl less ↦
      let front : length (take m text) ≡ m = length-take-le m text fits in
      let mapped : length (map upper (take m text)) ≡ m = length-map (take m text) upper ∙ front in
      let long : length word ≡ m + length rest = ap length spelled ∙ (length-append (map upper (take m text)) rest ∙ ap (λ z. z + length rest) mapped) in
      let there : get_or word n 0 ≡ upper (get_or text n 0)
      = ap (λ z. get_or z n 0) spelled ∙ (get_or_append_left (map upper (take m text)) rest 0 n (omega (arith, mapped, less)) ∙ (get_or-map upper (take m text) n 0 0 (omega (arith, front, less)) ∙ ap upper (get_or-take m text n 0 less))) in
      absurd (common.no_more (omega (arith, less, fits)) (omega (arith, long, less)) (sym there))
  | inr more ↦ more
]

keeps : {V : Type 0} {P P' : Type 0} {Q Q' : V → Type 0} (found : Option V) → (P → P') → ((v : V) → Q v → Q' v) → MatchOption found P Q → MatchOption found P' Q'
keeps None none some is = none is
keeps (Some v) none some is = some v is

module _ {V : Type 0} (table : List (Named V)) (text word : List ℕ) (says : V) (len n : ℕ) (found : Option V) (best : IsBest table text len found) (common : IsCommon text word n) where
  abbrev New : Named V
  New = record { word = word; says = says }

  abbrev Table : List (Named V)
  Table = table ++ New ∷ []

  wider : (front : List ℕ) → SomeBegins table front → SomeBegins Table front
  wider front some = (some.0, some.1, Contains-append_left table (New ∷ []) some.0 some.2, some.3)

  none_longer : (m : ℕ) → len < m → n < m → m ≤ length text → SomeBegins Table (map upper (take m text)) → ⊥
  none_longer m l k fits some = elim (Contains-push_cases table New some.0 some.2) [
    | inl old ↦ best.longest m l fits (some.0, some.1, old, some.3)
    | inr new ↦
        let short = common_front text word some.1 n m common fits (ap (λ e. e.word) new ∙ some.3) in
        omega (arith, short, k)
  ]

  -- the new word begins with fewer octets
  pub fewer : n < len → IsBest Table text len found
  fewer less = record {
    bound = best.bound;
    some = λ some. wider _ (best.some some);
    longest = λ m l fits some. none_longer m l (omega (arith, l, less)) fits some;
    is = keeps found (λ none entry known same. elim (Contains-push_cases table New entry known) [
      | inl old ↦ none entry old same
      | inr new ↦
          let short = common_front text word [] n len common best.bound (ap (λ e. e.word) new ∙ (same ∙ sym (append-nil _))) in
          omega (arith, short, less)
    ]) (λ v known. Contains-append_left table (New ∷ []) _ known) best.is;
  }

  word_front : word ≡ map upper (take n text) ++ drop n word
  word_front = sym (take-append-drop n word) ∙ ap (λ z. z ++ drop n word) (sym common.same)

  word_whole : n ≡ length word → word ≡ map upper (take n text)
  word_whole all = sym (take_all n word (omega (arith, all))) ∙ sym common.same

  new_known : n ≡ length word → Contains Table (record { word = map upper (take n text); says = says })
  new_known all = subst (λ z. Contains Table (record { word = z; says = says })) (word_whole all) (Contains-push table New)

  not_new : (n ≡ length word → ⊥) → (entry : Named V) → New ≡ entry → entry.word ≡ map upper (take n text) → ⊥
  not_new other entry new same =
      let whole : word ≡ map upper (take n text) = ap (λ e. e.word) new ∙ same in
      other (sym (ap length whole ∙ (length-map (take n text) upper ∙ length-take-le n text common.in_text)))

  -- it begins with more
  pub more_word : len < n → n ≡ length word → IsBest Table text n (Some says)
  more_word less all = record {
    bound = common.in_text;
    some = λ _. (New, drop n word, Contains-push table New, word_front);
    longest = λ m l fits some. none_longer m (omega (arith, l, less)) l fits some;
    is = new_known all;
  }

  pub more_front : len < n → (n ≡ length word → ⊥) → IsBest Table text n None
  more_front less other = record {
    bound = common.in_text;
    some = λ _. (New, drop n word, Contains-push table New, word_front);
    longest = λ m l fits some. none_longer m (omega (arith, l, less)) l fits some;
    is = λ entry known same. elim (Contains-push_cases table New entry known) [
      | inl old ↦ best.longest n less common.in_text (entry, [], old, same ∙ sym (append-nil _))
      | inr new ↦ not_new other entry new same
    ];
  }

  -- it begins with as many
  pub same_word : n ≡ len → n ≡ length word → IsBest Table text n (Some says)
  same_word e all = record {
    bound = common.in_text;
    some = λ _. (New, drop n word, Contains-push table New, word_front);
    longest = λ m l fits some. none_longer m (omega (arith, l, e)) l fits some;
    is = new_known all;
  }

  pub same_front : n ≡ len → (n ≡ length word → found ≡ None → ⊥) → IsBest Table text len found
  same_front e other = record {
    bound = best.bound;
    some = λ some. wider _ (best.some some);
    longest = λ m l fits some. none_longer m l (omega (arith, l, e)) fits some;
    is = by_found found best.is other;
  }
    where
      by_found : (f : Option V) → MatchOption f ((entry : Named V) → Contains table entry → entry.word ≡ map upper (take len text) → ⊥) (λ v. Contains table (record { word = map upper (take len text); says = v })) → (n ≡ length word → f ≡ None → ⊥)
          → MatchOption f ((entry : Named V) → Contains Table entry → entry.word ≡ map upper (take len text) → ⊥) (λ v. Contains Table (record { word = map upper (take len text); says = v }))
      by_found None none other = λ entry known same. elim (Contains-push_cases table New entry known) [
        | inl old ↦ none entry old same
        | inr new ↦ not_new (λ all. other all refl) entry new (subst (λ z. entry.word ≡ map upper (take z text)) (sym e) same)
      ]
      by_found (Some v) known other = Contains-append_left table (New ∷ []) _ known

pub not_none : {V : Type 0} (o : Option V) (b : Bool) → is_some o ≡ not b → b ≡ false → o ≡ None → ⊥
not_none o b e f n = both_ways (is_some o) (ap is_some n) (e ∙ ap not f)
