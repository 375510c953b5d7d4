-- A text is trimmed in one way.
use Rattle.std.proofs.Common.{◌≡◌, ℕ, Bool, true, List, [], ◌∷◌, ◌++◌, refl, sym, ap, ◌∙◌}
use Rattle.std.specs.List.{list_all}
use Rattle.std.proofs.lemmas.Bool.{and_parts, both_ways}
use Rattle.std.proofs.lemmas.List.Folds.{list_all-append}
use Rattle.mail_wire.specs.Spans.{Stops, StopsAfter, IsTrimmed}
use Rattle.mail_wire.proofs.SpanLemmas.{span_once}
use Rattle.mail_wire.proofs.AllLemmas.{pass-append, pass-front}

StopsAfter-tail : (p : ℕ → Bool) (x : ℕ) (xs : List ℕ) → StopsAfter p (x ∷ xs) → StopsAfter p xs
StopsAfter-tail p x [] stops = tt
StopsAfter-tail p x (y ∷ xs) stops = stops

-- a text that stops after doesn't pass as a whole
no_pass : (p : ℕ → Bool) (x : ℕ) (xs : List ℕ) → StopsAfter p (x ∷ xs) → list_all p (x ∷ xs) ≡ true → ⊥
no_pass p x [] stops all = both_ways (p x) stops (and_parts (p x) true all).0
no_pass p x (y ∷ xs) stops all = no_pass p y xs stops (and_parts (p x) (list_all p (y ∷ xs)) all).1

-- texts that stop after, with what passes after them
one_end : (p : ℕ → Bool) (text other trail trail' : List ℕ) → StopsAfter p text → StopsAfter p other → list_all p trail ≡ true → list_all p trail' ≡ true
    → text ++ trail ≡ other ++ trail' → text ≡ other
one_end p [] [] trail trail' a b all all' same = refl
one_end p [] (y ∷ other) trail trail' a b all all' same = absurd (no_pass p y other b (pass-front p (y ∷ other) trail' (sym (ap (list_all p) same) ∙ all)))
one_end p (x ∷ text) [] trail trail' a b all all' same = absurd (no_pass p x text a (pass-front p (x ∷ text) trail (ap (list_all p) same ∙ all')))
one_end p (x ∷ text) (y ∷ other) trail trail' a b all all' same =
    let first : x ≡ y = cc same in
    let rest : text ++ trail ≡ other ++ trail' = cc same in
    rw (first, one_end p text other trail trail' (StopsAfter-tail p x text a) (StopsAfter-tail p y other b) all all' rest) refl

Stops-front : (p : ℕ → Bool) (x : ℕ) (text trail : List ℕ) → Stops p (x ∷ text) → Stops p ((x ∷ text) ++ trail)
Stops-front p x text trail stops = stops

-- where nothing is left, nothing else is left
none_left : (p : ℕ → Bool) (lead lead' trail trail' : List ℕ) (y : ℕ) (other : List ℕ) → list_all p lead ≡ true → list_all p trail ≡ true → list_all p lead' ≡ true → Stops p (y ∷ other)
    → lead ++ trail ≡ lead' ++ ((y ∷ other) ++ trail') → ⊥
none_left p lead lead' trail trail' y other a b a' stops same =
    let all : list_all p (lead' ++ ((y ∷ other) ++ trail')) ≡ true = sym (ap (list_all p) same) ∙ pass-append p lead trail a b in
    let following = (and_parts (list_all p lead') (list_all p ((y ∷ other) ++ trail')) (sym (list_all-append p lead' ((y ∷ other) ++ trail')) ∙ all)).1 in
    both_ways (p y) stops (and_parts (p y) (list_all p (other ++ trail')) following).0

by_texts : (p : ℕ → Bool) (text other lead lead' trail trail' : List ℕ) → list_all p lead ≡ true → list_all p trail ≡ true → list_all p lead' ≡ true → list_all p trail' ≡ true
    → Stops p text → Stops p other → StopsAfter p text → StopsAfter p other → lead ++ (text ++ trail) ≡ lead' ++ (other ++ trail') → text ≡ other
by_texts p [] [] lead lead' trail trail' a b a' b' s s' e e' same = refl
by_texts p [] (y ∷ other) lead lead' trail trail' a b a' b' s s' e e' same = absurd (none_left p lead lead' trail trail' y other a b a' s' same)
by_texts p (x ∷ text) [] lead lead' trail trail' a b a' b' s s' e e' same = absurd (none_left p lead' lead trail' trail x text a' b' a s (sym same))
by_texts p (x ∷ text) (y ∷ other) lead lead' trail trail' a b a' b' s s' e e' same =
    let cut = span_once p lead lead' ((x ∷ text) ++ trail) ((y ∷ other) ++ trail') a a' s s' same in
    one_end p (x ∷ text) (y ∷ other) trail trail' e e' b b' cut.1

pub IsTrimmed-once : (p : ℕ → Bool) (list text other : List ℕ) → IsTrimmed p list text → IsTrimmed p list other → text ≡ other
IsTrimmed-once p list text other a b =
    by_texts p text other a.lead b.lead a.trail b.trail a.lead_passes a.trail_passes b.lead_passes b.trail_passes a.begins b.begins a.ends b.ends (sym a.whole ∙ b.whole)
