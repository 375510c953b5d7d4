-- The text of comments: its items, and its run.
use Rattle.std.proofs.Common.{◌≡◌, ℕ, ◌+◌, true, false, List, [], ◌∷◌, ◌++◌, length, map, Option, Some, None, refl, sym, ap, ◌∙◌, arith}
use Rattle.std.specs.List.{list_all}
use Rattle.std.proofs.lemmas.Bool.{and_parts, both_ways}
use Rattle.std.proofs.lemmas.Grind.{flat_map-append}
use Rattle.std.proofs.lemmas.List.{append_assoc}
use Rattle.mail_wire.specs.Octets.{is_white}
use Rattle.mail_wire.specs.Spans.{Stops}
use Rattle.mail_wire.specs.declared.values.Span.{Span}
use Rattle.encoded_words.specs.CommentUnits.{TextItem, Plain, Pair, item_spelling, is_white_item}
use Rattle.field_tokens.specs.Trees.{StandsInText, AreText, spelling, HasRun, GivesRun}
use Rattle.field_tokens.specs.private.Bodies.{BeginsNoItem}
use Rattle.field_tokens.specs.Comments.{HasRunOf}

pub AreText-append : (a b : List TextItem) → AreText a → AreText b → AreText (a ++ b)
AreText-append [] b p q = q
AreText-append (i ∷ a) b p q = (p.0, AreText-append a b p.1 q)

pub AreText-parts : (a b : List TextItem) → AreText (a ++ b) → AreText a × AreText b
AreText-parts [] b p = (tt, p)
AreText-parts (i ∷ a) b p = let more = AreText-parts a b p.1 in ((p.0, more.0), more.1)

pub spelling-append : (a b : List TextItem) → spelling (a ++ b) ≡ spelling a ++ spelling b
spelling-append a b = flat_map-append item_spelling a b

-- one item stands at the front
item_once : (i j : TextItem) (u v : List ℕ) → StandsInText i → StandsInText j → item_spelling i ++ u ≡ item_spelling j ++ v → (i ≡ j) × (u ≡ v)
item_once (Plain x) (Plain y) u v p q e = let same : x ≡ y = cc e in let rest : u ≡ v = cc e in (ap Plain same, rest)
item_once (Plain x) (Pair y) u v p q e = absurd (p.2 (cc e))
item_once (Pair x) (Plain y) u v p q e = absurd (q.2 (sym (cc e)))
item_once (Pair x) (Pair y) u v p q e = let same : x ≡ y = cc e in let rest : u ≡ v = cc e in (ap Pair same, rest)

-- one text stands before what begins with no item
pub text_once : (a b : List TextItem) (x y : List ℕ) → AreText a → AreText b → BeginsNoItem x → BeginsNoItem y → spelling a ++ x ≡ spelling b ++ y → (a ≡ b) × (x ≡ y)
text_once [] [] x y p q stop end e = (refl, e)
text_once [] (j ∷ b) x y p q stop end e = absurd (stop j (spelling b ++ y) q.0 (e ∙ append_assoc (item_spelling j) (spelling b) y))
text_once (i ∷ a) [] x y p q stop end e = absurd (end i (spelling a ++ x) p.0 (sym e ∙ append_assoc (item_spelling i) (spelling a) x))
text_once (i ∷ a) (j ∷ b) x y p q stop end e =
    let first = item_once i j (spelling a ++ x) (spelling b ++ y) p.0 q.0 (sym (append_assoc (item_spelling i) (spelling a) x) ∙ e ∙ append_assoc (item_spelling j) (spelling b) y) in
    let others = text_once a b x y p.1 q.1 stop end first.1 in
    let head : i ≡ j = first.0 in
    let tail : a ≡ b = others.0 in
    (cc, others.1)

pub open_stops : (x : List ℕ) → BeginsNoItem (40 ∷ x)
open_stops x (Plain y) rest stands e = stands.0 (sym (cc e))
open_stops x (Pair y) rest stands e = let no : ◌≡◌ {A = ℕ} 40 92 = cc e in omega (arith, no)

pub close_stops : (x : List ℕ) → BeginsNoItem (41 ∷ x)
close_stops x (Plain y) rest stands e = stands.1 (sym (cc e))
close_stops x (Pair y) rest stands e = let no : ◌≡◌ {A = ℕ} 41 92 = cc e in omega (arith, no)

-- an element that all elements of a list are like
white_within : (a b : List TextItem) (i : TextItem) → list_all is_white_item (a ++ i ∷ b) ≡ true → is_white_item i ≡ true
white_within [] b i all = (and_parts (is_white_item i) (list_all is_white_item b) all).0
white_within (h ∷ a) b i all = white_within a b i (and_parts (is_white_item h) (list_all is_white_item (a ++ i ∷ b)) all).1

-- one item is the first that is not white
first_cut : (a b : List TextItem) (i j : TextItem) (x y : List TextItem) → list_all is_white_item a ≡ true → list_all is_white_item b ≡ true → is_white_item i ≡ false → is_white_item j ≡ false
    → a ++ i ∷ x ≡ b ++ j ∷ y → (a ≡ b) × (i ∷ x ≡ j ∷ y)
first_cut [] [] i j x y wa wb bi bj e = (refl, e)
first_cut [] (h ∷ b) i j x y wa wb bi bj e =
    let same : h ≡ i = cc e in
    absurd (both_ways (is_white_item h) (ap is_white_item same ∙ bi) (and_parts (is_white_item h) (list_all is_white_item b) wb).0)
first_cut (h ∷ a) [] i j x y wa wb bi bj e =
    let same : h ≡ j = cc e in
    absurd (both_ways (is_white_item h) (ap is_white_item same ∙ bj) (and_parts (is_white_item h) (list_all is_white_item a) wa).0)
first_cut (h ∷ a) (k ∷ b) i j x y wa wb bi bj e =
    let head : h ≡ k = cc e in
    let rest : a ++ i ∷ x ≡ b ++ j ∷ y = cc e in
    let r = first_cut a b i j x y (and_parts (is_white_item h) (list_all is_white_item a) wa).1 (and_parts (is_white_item k) (list_all is_white_item b) wb).1 bi bj rest in
    let tail : a ≡ b = r.0 in
    (cc, r.1)

-- one item is the last that is not white
last_cut : (a b : List TextItem) (i j : TextItem) (x y : List TextItem) → list_all is_white_item x ≡ true → list_all is_white_item y ≡ true → is_white_item i ≡ false → is_white_item j ≡ false
    → a ++ i ∷ x ≡ b ++ j ∷ y → a ++ i ∷ [] ≡ b ++ j ∷ []
last_cut [] [] i j x y wx wy bi bj e = let same : i ≡ j = cc e in ap (λ k. k ∷ []) same
last_cut [] (h ∷ b) i j x y wx wy bi bj e =
    let rest : x ≡ b ++ j ∷ y = cc e in
    absurd (both_ways (is_white_item j) bj (white_within b y j (rw (rest) at wx)))
last_cut (h ∷ a) [] i j x y wx wy bi bj e =
    let rest : a ++ i ∷ x ≡ y = cc e in
    absurd (both_ways (is_white_item i) bi (white_within a x i (rw (← rest) at wy)))
last_cut (h ∷ a) (k ∷ b) i j x y wx wy bi bj e =
    let head : h ≡ k = cc e in
    let rest : a ++ i ∷ x ≡ b ++ j ∷ y = cc e in
    let tail : a ++ i ∷ [] ≡ b ++ j ∷ [] = last_cut a b i j x y wx wy bi bj rest in
    cc

-- a text with a run is not white only
pub HasRunOf-nonwhite : (text run : List TextItem) → HasRunOf text run → list_all is_white_item text ≡ true → ⊥
HasRunOf-nonwhite text run h blank =
    let b = h.is_run.begins in
    let whole : text ≡ h.lead ++ b.0 ∷ (b.1 ++ h.trail) = h.whole ∙ rw (b.2) refl in
    both_ways (is_white_item b.0) b.3 (white_within h.lead (b.1 ++ h.trail) b.0 (rw (whole) at blank))

-- it has one run, at one place
pub HasRunOf-once : (text run other : List TextItem) → (h : HasRunOf text run) → (k : HasRunOf text other) → (h.lead ≡ k.lead) × (run ≡ other)
HasRunOf-once text run other h k =
    let b = h.is_run.begins in
    let c = k.is_run.begins in
    let one : text ≡ h.lead ++ b.0 ∷ (b.1 ++ h.trail) = h.whole ∙ rw (b.2) refl in
    let two : text ≡ k.lead ++ c.0 ∷ (c.1 ++ k.trail) = k.whole ∙ rw (c.2) refl in
    let front = first_cut h.lead k.lead b.0 c.0 (b.1 ++ h.trail) (c.1 ++ k.trail) h.lead_white k.lead_white b.3 c.3 (sym one ∙ two) in
    let rest : run ++ h.trail ≡ other ++ k.trail = ap (λ r. r ++ h.trail) b.2 ∙ front.1 ∙ sym (ap (λ r. r ++ k.trail) c.2) in
    let d = h.is_run.ends in
    let e = k.is_run.ends in
    let three : run ++ h.trail ≡ d.0 ++ d.1 ∷ h.trail = ap (λ r. r ++ h.trail) d.2 ∙ append_assoc d.0 (d.1 ∷ []) h.trail in
    let four : other ++ k.trail ≡ e.0 ++ e.1 ∷ k.trail = ap (λ r. r ++ k.trail) e.2 ∙ append_assoc e.0 (e.1 ∷ []) k.trail in
    let back = last_cut d.0 e.0 d.1 e.1 h.trail k.trail h.trail_white k.trail_white d.3 e.3 (sym three ∙ rest ∙ four) in
    (front.0, d.2 ∙ back ∙ sym e.2)

abbrev run_of : (at : ℕ) (text : List TextItem) (span : Span) → (h : HasRun at text span) → HasRunOf text h.run
run_of at text span h = record { lead = h.lead; trail = h.trail; lead_white = h.lead_white; trail_white = h.trail_white; is_run = h.is_run; whole = h.whole }

not_blank : (at : ℕ) (text : List TextItem) (span : Span) → HasRun at text span → list_all is_white_item text ≡ true → ⊥
not_blank at text span h blank = HasRunOf-nonwhite text h.run (run_of at text span h) blank

span_is : (s t : Span) → s.at ≡ t.at → s.len ≡ t.len → s ≡ t
span_is s t p q = let eta : s ≡ record { at = t.at; len = t.len } = rw (← p, ← q) refl in eta

HasRun-once : (at : ℕ) (text : List TextItem) (s t : Span) → HasRun at text s → HasRun at text t → s ≡ t
HasRun-once at text s t h k =
    let both = HasRunOf-once text h.run k.run (run_of at text s h) (run_of at text t k) in
    span_is s t (h.at_is ∙ ap (λ l. at + length (spelling l)) both.0 ∙ sym k.at_is) (h.len_is ∙ ap (λ r. length (spelling r)) both.1 ∙ sym k.len_is)

-- a text gives one run
pub GivesRun-once : (at : ℕ) (text : List TextItem) (r s : Option Span) → GivesRun at text r → GivesRun at text s → r ≡ s
GivesRun-once at text None None p q = refl
GivesRun-once at text None (Some t) p q = absurd (not_blank at text t q p)
GivesRun-once at text (Some s) None p q = absurd (not_blank at text s p q)
GivesRun-once at text (Some s) (Some t) p q = ap Some (HasRun-once at text s t p q)

-- white octets as items
pub AreText-white : (white : List ℕ) → list_all is_white white ≡ true → AreText (map Plain white)
AreText-white [] all = tt
AreText-white (x ∷ white) all =
    let parts = and_parts (is_white x) (list_all is_white white) all in
    ((λ e. cc (ap is_white e ∙ refl, parts.0), λ e. cc (ap is_white e ∙ refl, parts.0), λ e. cc (ap is_white e ∙ refl, parts.0)), AreText-white white parts.1)

pub spelling-white : (white : List ℕ) → spelling (map Plain white) ≡ white
spelling-white [] = refl
spelling-white (x ∷ white) = ap (λ r. x ∷ r) (spelling-white white)

-- an item after white is black
pub item_nonwhite : (i : TextItem) (octets rest : List ℕ) → Stops is_white octets → octets ≡ item_spelling i ++ rest → is_white_item i ≡ false
item_nonwhite (Plain x) octets rest stops e = rw (e) at stops
item_nonwhite (Pair x) octets rest stops e = refl
