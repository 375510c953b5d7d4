-- The units of a comment's text are read word by word.
use Rattle.std.proofs.Common.{◌≡◌, ◌==◌, ℕ, ◌<◌, ◌≤◌, ◌-◌, Bool, true, false, ◌&&◌, ◌||◌, cond, not, List, [], ◌∷◌, ◌++◌, length, map, take, drop, is_some, None, Result, Ok, Err, IfOk, refl, sym, ap, ◌∙◌, subst, arith}
use Rattle.std.proofs.lemmas.List.{append_assoc, append-nil, length-append, map-append, nil_from_length, take_at, drop_at}
use Rattle.std.proofs.lemmas.List.Concat.{flat_map-append}
use Rattle.std.proofs.lemmas.List.Folds.{list_all-append}
use Rattle.std.specs.List.{list_all, list_any, flat_map}
use Rattle.encoded_words.specs.declared.units.Merging.{Merging}
use Rattle.mail_wire.specs.Octets.{is_white, is_nonwhite}
use Rattle.mail_wire.specs.Spans.{Stops, IsSpan}
use Rattle.encoded_words.specs.Words.{UnitValue, Text, SaysWhere}
use Rattle.encoded_words.specs.Units.{raw_units, merged, with_text, word_unit, begins_encoded, run_text}
use Rattle.encoded_words.specs.CommentUnits.{TextItem, Plain, Pair, AreTextItems, item_spelling, item_octet, has_backslash, is_white_item, CommentWord, IsCommentWord, word_items, ItemsDivide, AreCommentWords, comment_place, comment_places, HasCommentUnits}
use Rattle.encoded_words.specs.private.Merging.{IsMerging, TakesWord, done_values, all_units_then, onto}
use Rattle.encoded_words.specs.private.CommentReading.{BeginsItems, BeginsOctetItem, BeginsNonwhite, SplitsWord, GivesOctets, TakesCommentWord, TakesFirst}
use Rattle.encoded_words.specs.Written.{has_no_backslash}
use Rattle.encoded_words.proofs.CommentLemmas.{items_once}
use Rattle.encoded_words.proofs.PlainItems.{plain_octets, plain_spelling, plain_items, plain_before, plain_no_backslash, plain_white, white_no_backslash}
use Rattle.encoded_words.proofs.Reading.{then_text, stops_both, merged-onto, and_false}

abbrev spelling : List TextItem → List ℕ
spelling items = flat_map item_spelling items

-- One item comes first.
BeginsWith-plain : (text : List ℕ) (x : ℕ) (rest : List ℕ) → text ≡ x ∷ rest → (x ≡ 92 → length rest ≡ 0) → BeginsItems text (Plain x ∷ []) rest
BeginsWith-plain text x rest e lone = record {
  whole = e;
  onward = λ more are is. ((λ b. no_more more (sym is ∙ nil_from_length rest (lone b))), are);
}
  where
    no_more : (more : List TextItem) → spelling more ≡ [] → more ≡ []
    no_more [] e = refl
    no_more (Plain y ∷ more) e = cc e
    no_more (Pair y ∷ more) e = cc e

pub BeginsItem-plain : (text : List ℕ) (x : ℕ) (rest : List ℕ) → text ≡ x ∷ rest → (x ≡ 92 → length rest ≡ 0) → BeginsOctetItem text x rest
BeginsItem-plain text x rest e lone = record { item = Plain x; begins = BeginsWith-plain text x rest e lone; octet_is = refl }

pub BeginsItem-pair : (text : List ℕ) (x : ℕ) (rest : List ℕ) → text ≡ 92 ∷ x ∷ rest → BeginsOctetItem text x rest
BeginsItem-pair text x rest e = record { item = Pair x; begins = record { whole = e; onward = λ more are is. are }; octet_is = refl }

-- an item begins with white where it is white
pub BeginsNonwhite-item : (text : List ℕ) (octet : ℕ) (rest : List ℕ) (first : ℕ) (after : List ℕ) → text ≡ first ∷ after → is_white first ≡ false → BeginsOctetItem text octet rest → BeginsNonwhite text rest
BeginsNonwhite-item text octet rest first after e nonwhite is = record { item = is.item; begins = is.begins; nonwhite = by is.item (sym e ∙ is.begins.whole) }
  where
    by : (i : TextItem) → first ∷ after ≡ spelling (i ∷ []) ++ rest → not (is_white_item i) ≡ true
    by (Plain x) e = let same : first ≡ x = cc e in rw (← same, nonwhite) refl
    by (Pair x) e = refl

item_shorter : (i : TextItem) (rest : List ℕ) → length rest < length (spelling (i ∷ []) ++ rest)
item_shorter (Plain x) rest = omega arith
item_shorter (Pair x) rest = omega arith

pub BeginsItem-shorter : (text : List ℕ) (octet : ℕ) (rest : List ℕ) → BeginsOctetItem text octet rest → length rest < length text
BeginsItem-shorter text octet rest is = rw is.begins.whole (item_shorter is.item rest)

pub BeginsNonwhite-shorter : (text rest : List ℕ) → BeginsNonwhite text rest → length rest < length text
BeginsNonwhite-shorter text rest is = rw is.begins.whole (item_shorter is.item rest)

-- Items are taken one after another.
BeginsWith-none : (text : List ℕ) → BeginsItems text [] text
BeginsWith-none text = record { whole = refl; onward = λ more are is. are }

BeginsWith-more : (text rest after : List ℕ) (items : List TextItem) (i : TextItem) → BeginsItems text items rest → BeginsItems rest (i ∷ []) after → BeginsItems text (items ++ i ∷ []) after
BeginsWith-more text rest after items i front next = record {
  whole = front.whole ∙ rw (flat_map-append item_spelling items (i ∷ []), append_assoc) (ap (λ r. spelling items ++ r) next.whole);
  onward = λ more are is.
      let all : rest ≡ spelling (i ∷ more) = next.whole ∙ rw is (following i more) in
      rw append_assoc (front.onward (i ∷ more) (next.onward more are is) all);
}
  where
    following : (i : TextItem) (more : List TextItem) → spelling (i ∷ []) ++ spelling more ≡ spelling (i ∷ more)
    following (Plain x) more = refl
    following (Pair x) more = refl

-- the items so far are none of them white
pub record ReadsNonwhite (text rest : List ℕ) : Type 0 where
  pub items : List TextItem
  pub begins : BeginsItems text items rest
  pub nonwhite : list_all (λ i. not (is_white_item i)) items ≡ true

pub ReadsNonwhite-start : (text : List ℕ) → ReadsNonwhite text text
ReadsNonwhite-start text = record { items = []; begins = BeginsWith-none text; nonwhite = refl }

pub ReadsNonwhite-step : (text rest after : List ℕ) → ReadsNonwhite text rest → BeginsNonwhite rest after → ReadsNonwhite text after
ReadsNonwhite-step text rest after reads next = record {
  items = reads.items ++ next.item ∷ [];
  begins = BeginsWith-more text rest after reads.items next.item reads.begins next.begins;
  nonwhite = list_all-append (λ i. not (is_white_item i)) reads.items (next.item ∷ []) ∙ rw (reads.nonwhite, next.nonwhite) refl;
}

pub ReadsNonwhite-bound : (text rest : List ℕ) → ReadsNonwhite text rest → length rest ≤ length text
ReadsNonwhite-bound text rest reads = omega (arith, ap length reads.begins.whole, length-append (spelling reads.items) rest)

pub SplitsWord-end : (text rest word after : List ℕ) → ReadsNonwhite text rest → Stops is_nonwhite rest → word ≡ take (length text - length rest) text → after ≡ drop (length text - length rest) text → SplitsWord text word after
SplitsWord-end text rest word after reads stops front back =
    let at : length text - length rest ≡ length (spelling reads.items) = omega (arith, ap length reads.begins.whole, length-append (spelling reads.items) rest) in
    let word_is : word ≡ spelling reads.items = front ∙ rw (at, reads.begins.whole) (take_at (spelling reads.items) rest _ refl) in
    let after_is : after ≡ rest = back ∙ rw (at, reads.begins.whole) (drop_at (spelling reads.items) rest _ refl) in
    rw after_is (record { items = reads.items; begins = reads.begins; spelled = word_is; nonwhite = reads.nonwhite; stops = stops })

-- the items so far give these octets
pub record ReadsItems (text octets rest : List ℕ) : Type 0 where
  pub items : List TextItem
  pub begins : BeginsItems text items rest
  pub octets_are : octets ≡ map item_octet items

pub ReadsItems-start : (text : List ℕ) → ReadsItems text [] text
ReadsItems-start text = record { items = []; begins = BeginsWith-none text; octets_are = refl }

pub ReadsItems-step : (text octets rest after new : List ℕ) (octet : ℕ) → ReadsItems text octets rest → BeginsOctetItem rest octet after → new ≡ octets ++ octet ∷ [] → ReadsItems text new after
ReadsItems-step text octets rest after new octet reads next pushed = record {
  items = reads.items ++ next.item ∷ [];
  begins = BeginsWith-more text rest after reads.items next.item reads.begins next.begins;
  octets_are = rw (pushed, map-append item_octet reads.items (next.item ∷ []), reads.octets_are, next.octet_is) refl;
}

pub ReadsItems-end : (text octets rest : List ℕ) → ReadsItems text octets rest → rest ≡ [] → GivesOctets text octets
ReadsItems-end text octets rest reads end = record {
  items = reads.items;
  are = rw append-nil at (reads.begins.onward [] tt end);
  spelled = reads.begins.whole ∙ rw (end, append-nil) refl;
  octets_are = reads.octets_are;
}

-- One word is taken.
TakesCommentWord-plain : (old new : Merging) (run word : List ℕ) (was encoded : Bool) → has_no_backslash word ≡ true → TakesWord old new run was word encoded → TakesCommentWord old new run was word encoded
TakesCommentWord-plain old new run word was encoded none takes = record {
  items = map Plain word;
  are = plain_items word none;
  spelled = sym (plain_spelling word);
  says = takes.says;
  says_is = rw (plain_no_backslash word none, plain_octets word) takes.says_is;
  encoded_is = takes.encoded_is;
  units = λ us. rw (plain_octets word) (takes.units us);
}

pub IfOk-plain : {E : Type 0} (old new : Merging) (run word : List ℕ) (was : Bool) (r : Result Bool E) → has_no_backslash word ≡ true → IfOk r (TakesWord old new run was word) → IfOk r (TakesCommentWord old new run was word)
IfOk-plain old new run word was (Ok encoded) none takes = TakesCommentWord-plain old new run word was encoded none takes
IfOk-plain old new run word was (Err e) none takes = tt

quotes : (items : List TextItem) → has_no_backslash (spelling items) ≡ false → list_any has_backslash items ≡ true
quotes [] h = cc h
quotes (Plain x ∷ items) h = by (x == 92) (has_no_backslash (spelling items)) (list_any has_backslash items) h (quotes items)
  where
    by : (b c d : Bool) → (not b && c) ≡ false → (c ≡ false → d ≡ true) → (b || d) ≡ true
    by true c d h more = refl
    by false c d h more = more h
quotes (Pair x ∷ items) h = refl

pub TakesCommentWord-quoted : (old mid new : Merging) (run word octets : List ℕ) (was : Bool) → has_no_backslash word ≡ false → GivesOctets word octets
    → IsMerging mid (done_values old) (old.text.items ++ run) → IsMerging new (done_values mid) (mid.text.items ++ octets) → TakesCommentWord old new run was word false
TakesCommentWord-quoted old mid new run word octets was some gives run_is word_is =
    let quoting : list_any has_backslash gives.items ≡ true = quotes gives.items (subst (λ w. has_no_backslash w ≡ false) gives.spelled some) in
    record {
      items = gives.items;
      are = gives.are;
      spelled = gives.spelled;
      says = None;
      says_is = rw quoting refl;
      encoded_is = refl;
      units = λ us. then_text mid new octets us word_is ∙ then_text old mid run (with_text octets us) run_is ∙ rw (and_false was, gives.octets_are) refl;
    }

-- what a run of white and the words after it give: a run at the text's end gives nothing
abbrev pub following : List ℕ → Bool → List CommentWord → List UnitValue
following run was [] = []
following run was (w ∷ ws) = with_text (cond (was && is_some w.says) [] run) (merged (raw_units (comment_places (w ∷ ws))))

-- The reader has come so far, and these units were taken away: whatever words the rest has, they complete the units of the
-- text.
pub record ReadsComment (text : List ℕ) (taken : List UnitValue) (m : Merging) (run : List ℕ) (was : Bool) (rest : List ℕ) : Type 0 where
  pub stops : Stops is_white rest
  pub units : (ws : List CommentWord) → AreCommentWords ws → AreTextItems (flat_map word_items ws) → rest ≡ spelling (flat_map word_items ws)
      → HasCommentUnits text (taken ++ all_units_then m (following run was ws))

after_first : (ws : List CommentWord) → following [] false ws ≡ merged (raw_units (comment_places ws))
after_first [] = refl
after_first (w ∷ ws) = refl

pub ReadsComment-start : (text lead rest : List ℕ) (m : Merging) → IsSpan is_white text lead rest → IsMerging m [] [] → ReadsComment text [] m [] false rest
ReadsComment-start text lead rest m span empty = record {
  stops = span.stops;
  units = λ ws are items e. record {
    lead = map Plain lead;
    words = ws;
    white = plain_white lead span.passes;
    are_words = are;
    are_items = plain_before lead (flat_map word_items ws) (white_no_backslash lead span.passes) items;
    whole = span.whole ∙ rw (flat_map-append item_spelling (map Plain lead) (flat_map word_items ws), plain_spelling lead, e) refl;
    says = rw (empty.done_is, empty.text_is) (after_first ws);
  };
}

word_some : (rest after : List ℕ) (items : List TextItem) → Stops is_white rest → 0 < length rest → rest ≡ spelling items ++ after → Stops is_nonwhite after → 0 < length items
word_some rest after [] stops some whole nonwhite =
    let none : length rest ≡ 0 = stops_both rest stops (subst (Stops is_nonwhite) (sym whole) nonwhite) in absurd (omega (arith, none))
word_some rest after (i ∷ items) stops some whole nonwhite = omega arith

item_some : (i : TextItem) (more : List ℕ) → 0 < length (item_spelling i ++ more)
item_some (Plain x) more = omega arith
item_some (Pair x) more = omega arith

words_some : (w : CommentWord) (ws : List CommentWord) → 0 < length w.items → 0 < length (spelling (flat_map word_items (w ∷ ws)))
words_some w ws some = by w.items some
  where
    by : (items : List TextItem) → 0 < length items → 0 < length (spelling ((items ++ w.run) ++ flat_map word_items ws))
    by [] some = absurd (omega (arith, some))
    by (i ∷ items) some = item_some i (spelling ((items ++ w.run) ++ flat_map word_items ws))

divide : (after run rest : List ℕ) (ws : List CommentWord) → Stops is_nonwhite after → IsSpan is_white after run rest → AreCommentWords ws → rest ≡ spelling (flat_map word_items ws) → ItemsDivide (map Plain run) ws
divide after run rest [] stops span are e = tt
divide after [] rest (w ∷ ws) stops span are e =
    let same : after ≡ rest = span.whole in
    let none : length rest ≡ 0 = stops_both rest span.stops (subst (Stops is_nonwhite) same stops) in
    absurd (omega (arith, none, ap length e, words_some w ws are.0.is_word))
divide after (x ∷ run) rest (w ∷ ws) stops span are e = omega arith

front_items : (items more : List TextItem) → AreTextItems (items ++ more) → AreTextItems items
front_items [] more are = tt
front_items (Plain x ∷ items) more are = ((λ e. front items (are.0 e)), front_items items more are.1)
  where
    front : (items : List TextItem) → items ++ more ≡ [] → items ≡ []
    front [] e = refl
    front (i ∷ items) e = cc e
front_items (Pair x ∷ items) more are = front_items items more are

-- a word before words
following_step : (w : CommentWord) (run next : List ℕ) (was : Bool) (ws : List CommentWord) → w.run ≡ map Plain next
    → following run was (w ∷ ws) ≡ with_text (cond (was && is_some w.says) [] run) (onto (word_unit w.says (map item_octet w.items)) (following next (is_some w.says) ws))
following_step w run next was [] e = ap (with_text (cond (was && is_some w.says) [] run)) (
    merged-onto (word_unit w.says (map item_octet w.items)) (Text (run_text (comment_place w []) false) ∷ [])
    ∙ rw (no_run (is_some w.says && false)) refl
    )
  where
    no_run : (b : Bool) → cond b (map item_octet []) (map item_octet []) ≡ []
    no_run true = refl
    no_run false = refl
following_step w run next was (v ∷ ws) e = ap (with_text (cond (was && is_some w.says) [] run)) (
    merged-onto (word_unit w.says (map item_octet w.items)) (Text (run_text (comment_place w w.run) (begins_encoded (comment_places (v ∷ ws)))) ∷ raw_units (comment_places (v ∷ ws)))
    ∙ rw (e, plain_octets next, first_encoded v ws) refl
    )
  where
    first_encoded : (v : CommentWord) (ws : List CommentWord) → begins_encoded (comment_places (v ∷ ws)) ≡ is_some v.says
    first_encoded v [] = refl
    first_encoded v (w ∷ ws) = refl

pub ReadsComment-step : (text run rest next_run next_rest : List ℕ) (taken : List UnitValue) (old new : Merging) (was encoded : Bool) → ReadsComment text taken old run was rest → 0 < length rest
    → TakesFirst old new run was rest next_run encoded next_rest → ReadsComment text taken new next_run encoded next_rest
ReadsComment-step text run rest next_run next_rest taken old new was encoded reads some one = record {
  stops = one.white.stops;
  units = λ ws are items e.
      let after : List ℕ = one.after in
      let first = one.splits in
      let second = one.white in
      let takes = one.takes in
      let w : CommentWord = record { items = first.items; says = takes.says; run = map Plain next_run } in
      let more : List TextItem = map Plain next_run ++ flat_map word_items ws in
      let more_are : AreTextItems more = plain_before next_run (flat_map word_items ws) (white_no_backslash next_run second.passes) items in
      let after_is : after ≡ spelling more
      = second.whole ∙ rw (flat_map-append item_spelling (map Plain next_run) (flat_map word_items ws), plain_spelling next_run, e) refl in
      let all : AreTextItems (first.items ++ more) = first.begins.onward more more_are after_is in
      let same : takes.items ≡ first.items = items_once takes.items first.items takes.are (front_items first.items more all) (sym takes.spelled ∙ first.spelled) in
      let is : IsCommentWord w = record {
        is_word = word_some rest after first.items reads.stops some first.begins.whole first.stops;
        nonwhite = first.nonwhite;
        white = plain_white next_run second.passes;
        says = subst (λ items. SaysWhere (not (list_any has_backslash items)) (map item_octet items) takes.says) same takes.says_is;
      } in
      let whole : rest ≡ spelling (flat_map word_items (w ∷ ws))
      = first.begins.whole ∙ rw (append_assoc first.items (map Plain next_run) (flat_map word_items ws), flat_map-append item_spelling first.items more, after_is) refl in
      let has = reads.units (w ∷ ws) (is, divide after next_run next_rest ws first.stops second are e, are) (rw append_assoc all) whole in
      let units = takes.units (following next_run encoded ws) in
      rw (units, takes.encoded_is, same, ← following_step w run next_run was ws refl) has;
}

pub ReadsComment-end : (text run rest : List ℕ) (taken : List UnitValue) (m end : Merging) (was : Bool) → ReadsComment text taken m run was rest → length rest ≡ 0
    → IsMerging end (done_values m ++ with_text m.text.items []) [] → HasCommentUnits text (taken ++ done_values end)
ReadsComment-end text run rest taken m end was reads empty end_is = rw end_is.done_is (reads.units [] tt tt (nil_from_length rest empty))

-- the units that are done are taken away
pub ReadsComment-taken : (text run rest : List ℕ) (taken : List UnitValue) (old new : Merging) (was : Bool) → ReadsComment text taken old run was rest → IsMerging new [] old.text.items
    → ReadsComment text (taken ++ done_values old) new run was rest
ReadsComment-taken text run rest taken old new was reads left = record {
  stops = reads.stops;
  units = λ ws are items e.
      let us : List UnitValue = following run was ws in
      let same : (taken ++ done_values old) ++ all_units_then new us ≡ taken ++ all_units_then old us
      = ap (λ r. (taken ++ done_values old) ++ r) (rw (left.done_is, left.text_is) refl) ∙ append_assoc taken (done_values old) (with_text old.text.items us) in
      rw same (reads.units ws are items e);
}
