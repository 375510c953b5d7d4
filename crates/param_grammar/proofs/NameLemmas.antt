-- A name is cut into its parts in one way.
use Rattle.std.proofs.Common.{◌≡◌, ◌≢◌, ℕ, ◌<◌, Bool, true, false, not, eqb, List, [], ◌∷◌, ◌++◌, length, Option, Some, None, refl, sym, ap, ◌∙◌, subst, arith}
use Rattle.std.proofs.lemmas.Bool.{and_parts, and_from}
use Rattle.std.proofs.lemmas.Bool.Decides.{nat_tests}
use Rattle.std.proofs.lemmas.List.{append-nil, append_cancel_right}
use Rattle.std.specs.Prelude.{IfSome}
use Rattle.std.specs.List.{list_all}
use Rattle.encoded_words.specs.Words.{language_suffix}
use Rattle.encoded_words.specs.private.Parts.{lacks}
use Rattle.encoded_words.proofs.Cuts.{suffix_once, not_lacking}
use Rattle.mail_wire.specs.Numbers.{is_digit}
use Rattle.param_grammar.specs.Names.{IsNumber, NameParts, number_suffix, star_suffix, IsBase, HasNameParts, HasSuffix, HasAfter}

-- digits are no stars
no_star : (x : ℕ) → is_digit x ≡ true → eqb x 42 ≡ false
no_star x h = grind (arith, nat_tests)

digits_lack : (digits : List ℕ) → list_all is_digit digits ≡ true → lacks 42 digits ≡ true
digits_lack [] h = refl
digits_lack (x ∷ xs) h =
    let parts = and_parts (is_digit x) (list_all is_digit xs) h in
    and_from (not (eqb x 42)) (lacks 42 xs) (ap not (no_star x parts.0)) (digits_lack xs parts.1)

-- a suffix has its digits before the star at its end
pub suffix_digits : (suffix digits others : List ℕ) (e f : Bool) → suffix ≡ digits ++ star_suffix e → (e ≡ false → (front : List ℕ) → suffix ≢ front ++ 42 ∷ [])
    → suffix ≡ others ++ star_suffix f → IsNumber others → digits ≡ others
suffix_digits suffix digits others true true p none q is = append_cancel_right digits others (42 ∷ []) (sym p ∙ q)
suffix_digits suffix digits others true false p none q is =
    let same : others ≡ digits ++ 42 ∷ [] = sym (append-nil others) ∙ sym q ∙ p in
    absurd (not_lacking 42 digits [] (subst (λ xs. lacks 42 xs ≡ true) same (digits_lack others is.decimal)))
suffix_digits suffix digits others false true p none q is = absurd (none refl others q)
suffix_digits suffix digits others false false p none q is = sym (append-nil digits) ∙ sym p ∙ q ∙ append-nil others

pub not-HasSuffix : (suffix digits : List ℕ) (e : Bool) → 0 < length suffix → suffix ≡ digits ++ star_suffix e → (e ≡ false → (front : List ℕ) → suffix ≢ front ++ 42 ∷ [])
    → (IsNumber digits → ⊥) → (number : Option (List ℕ)) (f : Bool) → HasSuffix suffix number f → ⊥
not-HasSuffix suffix digits e some p none other None f has = omega (arith, ap length has.0)
not-HasSuffix suffix digits e some p none other (Some ds) f has = other (subst IsNumber (sym (suffix_digits suffix digits ds e f p none has.0 has.1)) has.1)

-- what stands after the base of a name with these parts
pub after_name : (number : Option (List ℕ)) (f : Bool) → IfSome number IsNumber
    → (following : Option (List ℕ)) × HasAfter following number f × (number_suffix number ++ star_suffix f ≡ language_suffix following)
after_name None false h = (None, (refl, refl), refl)
after_name None true h = (Some [], (refl, refl), refl)
after_name (Some digits) f h = (Some (digits ++ star_suffix f), (refl, h), refl)

-- and the other way round
after_parts : (following number : Option (List ℕ)) (f : Bool) → HasAfter following number f → (language_suffix following ≡ number_suffix number ++ star_suffix f) × IfSome number IsNumber
after_parts None number f has = rw (has.0, has.1) (refl, tt)
after_parts (Some suffix) None f has = rw (has.0, has.1) (refl, tt)
after_parts (Some suffix) (Some digits) f has = (ap (λ s. 42 ∷ s) has.0, has.1)

pub HasNameParts-made : (name base : List ℕ) (following number : Option (List ℕ)) (f : Bool) → name ≡ base ++ language_suffix following → lacks 42 base ≡ true → IsBase base
    → HasAfter following number f → HasNameParts name (record { base = base; number = number; is_extended = f })
HasNameParts-made name base following number f cut first is has =
    let parts = after_parts following number f has in
    record { spelled = cut ∙ ap (λ s. base ++ s) parts.0; base = is; first = first; number = parts.1 }

-- A name that is cut at its first star has its base before that, and the rest after.
pub parts_cut : (name base : List ℕ) (following : Option (List ℕ)) (p : NameParts) → name ≡ base ++ language_suffix following → lacks 42 base ≡ true → HasNameParts name p
    → (p.base ≡ base) × HasAfter following p.number p.is_extended
parts_cut name base following p cut first has =
    let b = after_name p.number p.is_extended has.number in
    let same : p.base ++ language_suffix b.0 ≡ base ++ language_suffix following = ap (λ s. p.base ++ s) (sym b.2) ∙ sym has.spelled ∙ cut in
    let once = suffix_once p.base base b.0 following has.first first same in
    (once.0, subst (λ o. HasAfter o p.number p.is_extended) once.1 b.1)

pub not-HasNameParts-base : (name base : List ℕ) (following : Option (List ℕ)) → name ≡ base ++ language_suffix following → lacks 42 base ≡ true → (IsBase base → ⊥)
    → (p : NameParts) → HasNameParts name p → ⊥
not-HasNameParts-base name base following cut first none p has = none (subst IsBase (parts_cut name base following p cut first has).0 has.base)

pub not-HasNameParts-following : (name base : List ℕ) (following : Option (List ℕ)) → name ≡ base ++ language_suffix following → lacks 42 base ≡ true
    → ((number : Option (List ℕ)) (f : Bool) → HasAfter following number f → ⊥) → (p : NameParts) → HasNameParts name p → ⊥
not-HasNameParts-following name base following cut first none p has = none p.number p.is_extended (parts_cut name base following p cut first has).1

-- a name has one list of parts
digits_same : (digits others : List ℕ) (e f : Bool) → IsNumber digits → IsNumber others → digits ++ star_suffix e ≡ others ++ star_suffix f → (digits ≡ others) × (e ≡ f)
digits_same ds os true true p q e = (append_cancel_right ds os (42 ∷ []) e, refl)
digits_same ds os true false p q e = absurd (not_lacking 42 ds [] (subst (λ xs. lacks 42 xs ≡ true) (sym (append-nil os) ∙ sym e) (digits_lack os q.decimal)))
digits_same ds os false true p q e = absurd (not_lacking 42 os [] (subst (λ xs. lacks 42 xs ≡ true) (sym (append-nil ds) ∙ e) (digits_lack ds p.decimal)))
digits_same ds os false false p q e = (sym (append-nil ds) ∙ e ∙ append-nil os, refl)

no_digits : (digits : List ℕ) (f : Bool) → IsNumber digits → [] ≡ digits ++ star_suffix f → ⊥
no_digits [] f is e = omega (arith, is.some)
no_digits (d ∷ ds) f is e = cc e

HasSuffix-once : (suffix : List ℕ) (m n : Option (List ℕ)) (e f : Bool) → HasSuffix suffix m e → HasSuffix suffix n f → (m ≡ n) × (e ≡ f)
HasSuffix-once suffix None None e f p q = (refl, p.1 ∙ sym q.1)
HasSuffix-once suffix None (Some ds) e f p q = absurd (no_digits ds f q.1 (sym p.0 ∙ q.0))
HasSuffix-once suffix (Some ds) None e f p q = absurd (no_digits ds e p.1 (sym q.0 ∙ p.0))
HasSuffix-once suffix (Some ds) (Some os) e f p q =
    let once = digits_same ds os e f p.1 q.1 (sym p.0 ∙ q.0) in
    (ap (λ d. Some d) once.0, once.1)

HasAfter-once : (following m n : Option (List ℕ)) (e f : Bool) → HasAfter following m e → HasAfter following n f → (m ≡ n) × (e ≡ f)
HasAfter-once None m n e f p q = (p.0 ∙ sym q.0, p.1 ∙ sym q.1)
HasAfter-once (Some suffix) m n e f p q = HasSuffix-once suffix m n e f p q

abbrev parts : List ℕ → Option (List ℕ) → Bool → NameParts
parts base number f = record { base = base; number = number; is_extended = f }

made : (a b : List ℕ) (m n : Option (List ℕ)) (e f : Bool) → a ≡ b → m ≡ n → e ≡ f → parts a m e ≡ parts b n f
made a b m n e f p q r = cc

pub HasNameParts-once : (name : List ℕ) (p q : NameParts) → HasNameParts name p → HasNameParts name q → p ≡ q
HasNameParts-once name p q hp hq =
    let b = after_name q.number q.is_extended hq.number in
    let cut = parts_cut name q.base b.0 p (hq.spelled ∙ ap (λ s. q.base ++ s) b.2) hq.first hp in
    let once = HasAfter-once b.0 p.number q.number p.is_extended q.is_extended cut.1 b.1 in
    made p.base q.base p.number q.number p.is_extended q.is_extended cut.0 once.0 once.1
