-- Whether tokens are divided into parts that say something is decided where it is for each part.
use Rattle.std.proofs.Common.{◌≡◌, ℕ, ◌⊎◌, inl, inr, List, [], ◌∷◌, ◌++◌, Option, Some, None, refl, sym, ap, ◌∙◌, subst}
use Rattle.std.proofs.lemmas.List.{append_assoc, append-nil}
use Rattle.field_tokens.specs.Tokens.{TokenValue}
use Rattle.address_grammar.specs.AddressLists.{AreDivided}
use Rattle.address_grammar.specs.private.Walks.{awaited_after, walk, SplitsPlace}
use Rattle.address_grammar.proofs.WalkLemmas.{walk-append, ends_here}
use Rattle.address_grammar.proofs.DividedLemmas.{Walked, divided_first, divided_more, divided_one, divided_last}

-- the tokens say something, or nothing
abbrev pub Known : {E : Type 0} → (List TokenValue → List E → Type 0) → List TokenValue → Type 0
Known {E = E} Says ts = ((es : List E) × Says ts es) ⊎ ((es : List E) → ¬ Says ts es)

decide_last : {E : Type 0} (Says : List TokenValue → List E → Type 0) (walked : Walked Says) (ts : List TokenValue) (awaited : Option ℕ) → walk None ts ≡ Some awaited → Known Says ts → Known (AreDivided Says) ts
decide_last Says walked ts awaited w (inl is) = inl (is.0, divided_one Says ts is.0 is.1)
decide_last Says walked ts awaited w (inr none) = inr (λ es d. none es (divided_last Says walked ts es (λ e. cc (sym w ∙ e)) d))

decide_more : {E : Type 0} (Says : List TokenValue → List E → Type 0) (walked : Walked Says) (ts place rest : List TokenValue) → SplitsPlace ts place rest → Known Says place → Known (AreDivided Says) rest
    → Known (AreDivided Says) ts
decide_more Says walked ts place rest s (inl first) (inl more) = inl (first.0 ++ more.0, divided_more Says ts place rest first.0 more.0 s first.1 more.1)
decide_more Says walked ts place rest s (inl first) (inr none) = inr (λ es d. let part = divided_first Says walked ts place rest es s d in none part.others part.divided)
decide_more Says walked ts place rest s (inr none) more = inr (λ es d. let part = divided_first Says walked ts place rest es s d in none part.first part.says)

-- the tokens of a place come first, and nothing or something is awaited after them
abbrev DecidesFrom : {E : Type 0} → (List TokenValue → List E → Type 0) → List TokenValue → Type 0
DecidesFrom Says ts = (front : List TokenValue) (awaited : Option ℕ) → walk None front ≡ Some awaited → Known (AreDivided Says) (front ++ ts)

decide_token : {E : Type 0} (Says : List TokenValue → List E → Type 0) (walked : Walked Says) (known : (ts : List TokenValue) → Known Says ts) (t : TokenValue) (ts : List TokenValue) → DecidesFrom Says ts
    → DecidesFrom Says (t ∷ ts)
decide_token Says walked known t ts more front awaited w = by (awaited_after awaited t) refl
  where
    by : (next : Option (Option ℕ)) → awaited_after awaited t ≡ next → Known (AreDivided Says) (front ++ t ∷ ts)
    by None e =
        let ends = ends_here awaited t e in
        let s : SplitsPlace (front ++ t ∷ ts) front ts = record { comma = t; whole = refl; is_comma = ends.comma; walked = w ∙ ap Some ends.nothing } in
        decide_more Says walked (front ++ t ∷ ts) front ts s (known front) (more [] None refl)
    by (Some next) e =
        let onward : walk None (front ++ t ∷ []) ≡ Some next = rw (walk-append front (t ∷ []) None, w, e) refl in
        subst (Known (AreDivided Says)) (append_assoc front (t ∷ []) ts) (more (front ++ t ∷ []) next onward)

decide_from : {E : Type 0} (Says : List TokenValue → List E → Type 0) (walked : Walked Says) (known : (ts : List TokenValue) → Known Says ts) (ts : List TokenValue) → DecidesFrom Says ts
decide_from Says walked known [] = λ front awaited w. subst (Known (AreDivided Says)) (sym (append-nil front)) (decide_last Says walked front awaited w (known front))
decide_from Says walked known (t ∷ ts) = decide_token Says walked known t ts (decide_from Says walked known ts)

pub decide_divided : {E : Type 0} (Says : List TokenValue → List E → Type 0) (walked : Walked Says) (known : (ts : List TokenValue) → Known Says ts) (ts : List TokenValue) → Known (AreDivided Says) ts
decide_divided Says walked known ts = decide_from Says walked known ts [] None refl
