-- A field has one list of parts.
use Rattle.std.proofs.Common.{◌≡◌, ◌≢◌, ℕ, ◌≤◌, true, false, ◌⊎◌, inl, inr, List, [], ◌∷◌, ◌++◌, length, drop, refl, sym, ap, ◌∙◌, subst, arith}
use Rattle.std.proofs.lemmas.List.{append-nil, append_cancel_right}
use Rattle.std.specs.List.{AllByRecursion, flat_map}
use Rattle.mail_wire.specs.Octets.{is_white, is_field_name_octet}
use Rattle.mail_wire.specs.Lines.{crlf}
use Rattle.mail_wire.specs.Folds.{FoldedItem, Octet, Fold, IsFoldedItem, item_octets, IsFolded}
use Rattle.mail_wire.specs.Spans.{IsSpan}
use Rattle.mail_wire.proofs.SpanLemmas.{span_once}
use Rattle.utf8_fields.specs.Parts.{FieldParts, HasParts, SplitsEnding}
use Rattle.utf8_fields.proofs.Names.{after_name}

-- a folded text doesn't end in CRLF
items_end : (xs : List ℕ) (items : List FoldedItem) → AllByRecursion IsFoldedItem items → xs ++ crlf ≡ flat_map item_octets items → ⊥
items_end [] [] are e = cc e
items_end [] (Octet y ∷ items) are e =
    let cr : 13 ≡ y = cc e in
    let clash : true ≡ false = rw (← cr) at are.0 in cc clash
items_end [] (Fold w ∷ items) are e = cc e
items_end (x ∷ xs) [] are e = cc e
items_end (x ∷ xs) (Octet y ∷ items) are e =
    let rest : xs ++ crlf ≡ flat_map item_octets items = cc e in items_end xs items are.1 rest
items_end (x ∷ []) (Fold w ∷ items) are e = cc e
items_end (x ∷ y ∷ []) (Fold w ∷ items) are e =
    let cr : 13 ≡ w = cc e in
    let clash : false ≡ true = rw (← cr) at are.0 in cc clash
items_end (x ∷ y ∷ z ∷ xs) (Fold w ∷ items) are e =
    let rest : xs ++ crlf ≡ flat_map item_octets items = cc e in items_end xs items are.1 rest

folded_end : (xs : List ℕ) → IsFolded (xs ++ crlf) → ⊥
folded_end xs is = items_end xs is.items is.are_items is.spelled

ending_is : (text body ending f_body f_ending : List ℕ) → SplitsEnding text body ending → IsFolded f_body → (f_ending ≡ []) ⊎ (f_ending ≡ crlf) → text ≡ f_body ++ f_ending
    → (body ≡ f_body) × (ending ≡ f_ending)
ending_is text body ending f_body f_ending splits folded has e = by splits.ending_is has
  where
    by : (ending ≡ crlf) ⊎ ((ending ≡ []) × ((front : List ℕ) → text ≢ front ++ crlf)) → (f_ending ≡ []) ⊎ (f_ending ≡ crlf) → (body ≡ f_body) × (ending ≡ f_ending)
    by (inl a) (inl b) =
        let same : body ++ crlf ≡ f_body = rw (← a) (sym splits.whole ∙ e ∙ rw b (append-nil f_body)) in
        absurd (folded_end body (subst IsFolded (sym same) folded))
    by (inl a) (inr b) =
        let same : body ++ crlf ≡ f_body ++ crlf = sym (splits.whole ∙ ap (λ t. body ++ t) a) ∙ e ∙ ap (λ t. f_body ++ t) b in
        (append_cancel_right body f_body crlf same, a ∙ sym b)
    by (inr a) (inl b) =
        let same : body ≡ f_body = sym (splits.whole ∙ ap (λ t. body ++ t) a.0 ∙ append-nil body) ∙ e ∙ ap (λ t. f_body ++ t) b ∙ append-nil f_body in
        (same, a.0 ∙ sym b)
    by (inr a) (inr b) = absurd (a.1 f_body (e ∙ ap (λ t. f_body ++ t) b))

abbrev these : List ℕ → List ℕ → List ℕ → List ℕ → FieldParts
these name white body ending = record { name = name; white = white; body = body; ending = ending }

made : (a b x y : List ℕ) (p q r s : List ℕ) → a ≡ p → b ≡ q → x ≡ r → y ≡ s → these a b x y ≡ these p q r s
made a b x y p q r s e f g h = rw (e, f, g, h) refl

-- what the fronts are
record Fronts (raw name rest white more : List ℕ) (f : FieldParts) : Type 0 where
  name_is : name ≡ f.name
  white_is : white ≡ f.white
  more_is : more ≡ 58 ∷ (f.body ++ f.ending)

Fronts-from : (raw name rest white more : List ℕ) (f : FieldParts) → HasParts raw f → IsSpan is_field_name_octet raw name rest → IsSpan is_white rest white more → Fronts raw name rest white more f
Fronts-from raw name rest white more f is names whites =
    let first = span_once is_field_name_octet name f.name rest (f.white ++ 58 ∷ (f.body ++ f.ending)) names.passes is.name names.stops (after_name f.white (f.body ++ f.ending) is.white) (sym names.whole ∙ is.spelled) in
    let second = span_once is_white white f.white more (58 ∷ (f.body ++ f.ending)) whites.passes is.white whites.stops refl (sym whites.whole ∙ first.1) in
    record { name_is = first.0; white_is = second.0; more_is = second.1 }

pub parts_once : (raw name rest white more text body ending : List ℕ) (f : FieldParts) → HasParts raw f → IsSpan is_field_name_octet raw name rest → IsSpan is_white rest white more
    → text ≡ drop 1 more → SplitsEnding text body ending → ◌≡◌ {A = FieldParts} (record { name = name; white = white; body = body; ending = ending }) f
parts_once raw name rest white more text body ending f is names whites text_is splits =
    let fronts = Fronts-from raw name rest white more f is names whites in
    let whole : text ≡ f.body ++ f.ending = text_is ∙ rw (fronts.more_is) refl in
    let ends = ending_is text body ending f.body f.ending splits is.body is.ending whole in
    made name white body ending f.name f.white f.body f.ending fronts.name_is fronts.white_is ends.0 ends.1

pub more_some : (raw name rest white more : List ℕ) (f : FieldParts) → HasParts raw f → IsSpan is_field_name_octet raw name rest → IsSpan is_white rest white more → 1 ≤ length more
more_some raw name rest white more f is names whites =
    let fronts = Fronts-from raw name rest white more f is names whites in
    omega (arith, ap length fronts.more_is)

append_ending : (a b x y : List ℕ) → IsFolded a → IsFolded b → (x ≡ []) ⊎ (x ≡ crlf) → (y ≡ []) ⊎ (y ≡ crlf) → a ++ x ≡ b ++ y → (a ≡ b) × (x ≡ y)
append_ending a b x y fa fb (inl e) (inl f) h = (sym (append-nil a) ∙ ap (λ t. a ++ t) (sym e) ∙ h ∙ ap (λ t. b ++ t) f ∙ append-nil b, e ∙ sym f)
append_ending a b x y fa fb (inl e) (inr f) h =
    let same : a ≡ b ++ crlf = sym (append-nil a) ∙ ap (λ t. a ++ t) (sym e) ∙ h ∙ ap (λ t. b ++ t) f in absurd (folded_end b (subst IsFolded same fa))
append_ending a b x y fa fb (inr e) (inl f) h =
    let same : b ≡ a ++ crlf = sym (append-nil b) ∙ ap (λ t. b ++ t) (sym f) ∙ sym h ∙ ap (λ t. a ++ t) e in absurd (folded_end a (subst IsFolded same fb))
append_ending a b x y fa fb (inr e) (inr f) h = (append_cancel_right a b crlf (ap (λ t. a ++ t) (sym e) ∙ h ∙ ap (λ t. b ++ t) f), e ∙ sym f)

pub HasParts-once : (octets : List ℕ) (f g : FieldParts) → HasParts octets f → HasParts octets g → f ≡ g
HasParts-once octets f g p q =
    let first = span_once is_field_name_octet f.name g.name (f.white ++ 58 ∷ (f.body ++ f.ending)) (g.white ++ 58 ∷ (g.body ++ g.ending)) p.name q.name
    (after_name f.white (f.body ++ f.ending) p.white) (after_name g.white (g.body ++ g.ending) q.white) (sym p.spelled ∙ q.spelled) in
    let second = span_once is_white f.white g.white (58 ∷ (f.body ++ f.ending)) (58 ∷ (g.body ++ g.ending)) p.white q.white refl refl first.1 in
    let rest : f.body ++ f.ending ≡ g.body ++ g.ending = ap (drop 1) second.1 in
    let ends = append_ending f.body g.body f.ending g.ending p.body q.body p.ending q.ending rest in
    made f.name f.white f.body f.ending g.name g.white g.body g.ending first.0 second.0 ends.0 ends.1
