-- The run of a text as it is read.
use Rattle.std.proofs.Common.{◌≡◌, ◌≢◌, ℕ, ◌-◌, ◌<◌, ◌≤◌, ◌⊎◌, true, false, List, [], ◌∷◌, ◌++◌, length, map, Some, None, refl, sym, ap, ◌∙◌, inl, inr, arith}
use Rattle.std.specs.List.{list_all}
use Rattle.std.proofs.lemmas.List.{append_assoc, append-nil, length-append}
use Rattle.std.proofs.lemmas.List.Folds.{list_all-append}
use Rattle.mail_wire.specs.Octets.{is_white}
use Rattle.mail_wire.specs.Spans.{Stops, IsSpan}
use Rattle.encoded_words.specs.CommentUnits.{TextItem, Plain, Pair, item_spelling, is_white_item}
use Rattle.encoded_words.proofs.PlainItems.{plain_white}
use Rattle.field_tokens.specs.Trees.{AreText, spelling, IsRun}
use Rattle.field_tokens.specs.private.Bodies.{BeginsNoItem, BeginsItem, SplitsRun, SplitsText}
use Rattle.field_tokens.proofs.Texts.{AreText-append, spelling-append, AreText-white, spelling-white, item_nonwhite}

-- the last item is not white
abbrev pub EndsNonwhite : List TextItem → Type 0
EndsNonwhite run = (others : List TextItem) × (last : TextItem) × (run ≡ others ++ last ∷ []) × (is_white_item last ≡ false)

-- the octets are a run so far, of this length, and rest
pub record RunsTo (octets : List ℕ) (len : ℕ) (rest : List ℕ) : Type 0 where
  pub run : List TextItem
  pub are_text : AreText run
  pub ends : (run ≡ []) ⊎ EndsNonwhite run
  pub whole : octets ≡ spelling run ++ rest
  pub len_is : len ≡ length (spelling run)

pub RunsTo-none : (octets : List ℕ) → RunsTo octets 0 octets
RunsTo-none octets = record { run = []; are_text = tt; ends = inl refl; whole = refl; len_is = refl }

-- text, white and more, with the white as items
with_white : (run : List TextItem) (white next octets rest : List ℕ) → octets ≡ spelling run ++ rest → rest ≡ white ++ next → octets ≡ spelling (run ++ map Plain white) ++ next
with_white run white next octets rest e f =
    e ∙ ap (λ r. spelling run ++ r) f ∙ sym (append_assoc (spelling run) white next) ∙ ap (λ r. (spelling run ++ r) ++ next) (sym (spelling-white white))
    ∙ ap (λ r. r ++ next) (sym (spelling-append run (map Plain white)))

-- an item after text
with_item : (text : List TextItem) (i : TextItem) (octets next after : List ℕ) → octets ≡ spelling text ++ next → next ≡ item_spelling i ++ after → octets ≡ spelling (text ++ i ∷ []) ++ after
with_item text i octets next after e f =
    e ∙ ap (λ r. spelling text ++ r) f ∙ sym (append_assoc (spelling text) (item_spelling i) after) ∙ ap (λ r. (spelling text ++ r) ++ after) (sym (append-nil (item_spelling i)))
    ∙ ap (λ r. r ++ after) (sym (spelling-append text (i ∷ [])))

pub RunsTo-turn : (octets rest white next after : List ℕ) (old new : ℕ) → RunsTo octets old rest → IsSpan is_white rest white next → BeginsItem next after → new ≡ length octets - length after → RunsTo octets new after
RunsTo-turn octets rest white next after old new r span item new_is =
    let front : List TextItem = r.run ++ map Plain white in
    let text : AreText front = AreText-append r.run (map Plain white) r.are_text (AreText-white white span.passes) in
    let whole : octets ≡ spelling (front ++ item.item ∷ []) ++ after = with_item front item.item octets next after (with_white r.run white next octets rest r.whole span.whole) item.whole in
    record {
      run = front ++ item.item ∷ [];
      are_text = AreText-append front (item.item ∷ []) text (item.stands, tt);
      ends = inr (front, item.item, refl, item_nonwhite item.item next after span.stops item.whole);
      whole = whole;
      len_is = omega (arith, ap length whole, length-append (spelling (front ++ item.item ∷ [])) after);
    }

-- a run that ends so, and begins with no white
run_is : (run : List TextItem) (octets rest : List ℕ) → Stops is_white octets → octets ≡ spelling run ++ rest → (run ≡ []) ⊎ EndsNonwhite run → (run ≡ []) ⊎ IsRun run
run_is [] octets rest stops e ends = inl refl
run_is (i ∷ run) octets rest stops e (inl none) = cc none
run_is (i ∷ run) octets rest stops e (inr ends) =
    let nonwhite : is_white_item i ≡ false = item_nonwhite i octets (spelling run ++ rest) stops (e ∙ append_assoc (item_spelling i) (spelling run) rest) in
    inr (record { begins = (i, run, refl, nonwhite); ends = ends })

pub RunsTo-end : (octets rest white next : List ℕ) (len : ℕ) → Stops is_white octets → RunsTo octets len rest → IsSpan is_white rest white next → BeginsNoItem next → SplitsRun octets len next
RunsTo-end octets rest white next len stops r span none = record {
  run = r.run;
  trail = map Plain white;
  are_text = AreText-append r.run (map Plain white) r.are_text (AreText-white white span.passes);
  trail_white = plain_white white span.passes;
  is_run = run_is r.run octets rest stops r.whole r.ends;
  whole = with_white r.run white next octets rest r.whole span.whole;
  stops = none;
  len_is = r.len_is;
}

-- white, a run and more as one text
pub lead_whole : (lead following octets after : List ℕ) (text : List TextItem) → octets ≡ lead ++ following → following ≡ spelling text ++ after → octets ≡ spelling (map Plain lead ++ text) ++ after
lead_whole lead following octets after text e f =
    e ∙ ap (λ r. lead ++ r) f ∙ sym (append_assoc lead (spelling text) after) ∙ ap (λ r. (r ++ spelling text) ++ after) (sym (spelling-white lead)) ∙ ap (λ r. r ++ after) (sym (spelling-append (map Plain lead) text))

item_some : (i : TextItem) → 0 < length (item_spelling i)
item_some (Plain x) = omega arith
item_some (Pair x) = omega arith

pub run_some : (run : List TextItem) → IsRun run → 0 < length (spelling run)
run_some run is =
    let b = is.begins in
    rw (b.2) (omega (arith, item_some b.0, length-append (item_spelling b.0) (spelling b.1)))

pub SplitsText-none : (end : ℕ) (octets lead following after : List ℕ) (len : ℕ) → IsSpan is_white octets lead following → SplitsRun following len after → len ≡ 0 → SplitsText end octets None after
SplitsText-none end octets lead following after len span split none = record {
  text = map Plain lead ++ (split.run ++ split.trail);
  are_text = AreText-append (map Plain lead) (split.run ++ split.trail) (AreText-white lead span.passes) split.are_text;
  whole = lead_whole lead following octets after (split.run ++ split.trail) span.whole split.whole;
  stops = split.stops;
  gives = blank split.is_run;
}
  where
    blank : (split.run ≡ []) ⊎ IsRun split.run → list_all is_white_item (map Plain lead ++ (split.run ++ split.trail)) ≡ true
    blank (inl e) = rw (e, list_all-append is_white_item (map Plain lead) split.trail, plain_white lead span.passes) split.trail_white
    blank (inr is) = absurd (omega (arith, run_some split.run is, split.len_is))

pub SplitsText-some : (end : ℕ) (octets lead following after : List ℕ) (len at : ℕ) → IsSpan is_white octets lead following → SplitsRun following len after → len ≢ 0 → length octets ≤ end → at ≡ end - length following
    → SplitsText end octets (Some (record { at = at; len = len })) after
SplitsText-some end octets lead following after len at span split some bound at_is = record {
  text = map Plain lead ++ (split.run ++ split.trail);
  are_text = AreText-append (map Plain lead) (split.run ++ split.trail) (AreText-white lead span.passes) split.are_text;
  whole = lead_whole lead following octets after (split.run ++ split.trail) span.whole split.whole;
  stops = split.stops;
  gives = record {
    lead = map Plain lead;
    run = split.run;
    trail = split.trail;
    lead_white = plain_white lead span.passes;
    trail_white = split.trail_white;
    is_run = nonwhite split.is_run;
    whole = refl;
    at_is = rw (spelling-white) (omega (arith, ap length span.whole, length-append lead following));
    len_is = split.len_is;
  };
}
  where
    nonwhite : (split.run ≡ []) ⊎ IsRun split.run → IsRun split.run
    nonwhite (inl e) = absurd (some (split.len_is ∙ rw (e) refl))
    nonwhite (inr is) = is
