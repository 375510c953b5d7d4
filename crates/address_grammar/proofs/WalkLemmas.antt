-- Places of a list end at one comma.
use Rattle.std.proofs.Common.{◌≡◌, ℕ, ◌<◌, true, inl, inr, List, [], ◌∷◌, ◌++◌, length, Option, Some, None, refl, sym, ap, ◌∙◌, arith}
use Rattle.std.proofs.lemmas.Bool.{cases_Bool}
use Rattle.std.proofs.lemmas.List.{append_assoc, append-nil, length-append}
use Rattle.field_tokens.specs.Tokens.{TokenValue}
use Rattle.address_grammar.specs.private.Lexemes.{is_special_of}
use Rattle.address_grammar.specs.private.Walks.{awaited_after, and_then, walk, SplitsPlace, IsLastPlace}

pub walk-append : (a b : List TokenValue) (awaited : Option ℕ) → walk awaited (a ++ b) ≡ and_then (walk awaited a) (λ next. walk next b)
walk-append [] b awaited = refl
walk-append (t ∷ a) b awaited = by (awaited_after awaited t) (walk-append a b)
  where
    by : (next : Option (Option ℕ)) → ((n : Option ℕ) → walk n (a ++ b) ≡ and_then (walk n a) (λ n. walk n b))
        → and_then next (λ n. walk n (a ++ b)) ≡ and_then (and_then next (λ n. walk n a)) (λ n. walk n b)
    by None more = refl
    by (Some n) more = more n

-- a comma ends a place where nothing is awaited
pub record IsEnd (awaited : Option ℕ) (t : TokenValue) : Type 0 where
  pub nothing : awaited ≡ None
  pub comma : is_special_of 44 t ≡ true

pub ends_here : (awaited : Option ℕ) (t : TokenValue) → awaited_after awaited t ≡ None → IsEnd awaited t
ends_here (Some mark) t e = elim (cases_Bool (is_special_of mark t)) [
  | inl is ↦ cc (rw (is) at e)
  | inr other ↦ cc (rw (other) at e)
]
ends_here None t e = elim (cases_Bool (is_special_of 44 t)) [
  | inl is ↦ record { nothing = refl; comma = is }
  | inr other ↦ elim (cases_Bool (is_special_of 60 t)) [
    | inl is ↦ cc (rw (is) at (rw (other) at e))
    | inr neither ↦ elim (cases_Bool (is_special_of 58 t)) [
      | inl is ↦ cc (rw (is) at (rw (neither) at (rw (other) at e)))
      | inr none ↦ cc (rw (none) at (rw (neither) at (rw (other) at e)))
    ]
  ]
]

-- what is awaited after the tokens that were looked at
pub record WalksTo (all : List TokenValue) (awaited : Option ℕ) (rest : List TokenValue) : Type 0 where
  pub front : List TokenValue
  pub whole : all ≡ front ++ rest
  pub walked : walk None front ≡ Some awaited

pub walks_start : (ts : List TokenValue) → WalksTo ts None ts
walks_start ts = record { front = []; whole = refl; walked = refl }

pub walks_turn : (all rest following : List TokenValue) (t : TokenValue) (awaited next : Option ℕ) → WalksTo all awaited rest → rest ≡ t ∷ following → awaited_after awaited t ≡ Some next → WalksTo all next following
walks_turn all rest following t awaited next w e is = record {
  front = w.front ++ t ∷ [];
  whole = w.whole ∙ ap (λ r. w.front ++ r) e ∙ sym (append_assoc w.front (t ∷ []) following);
  walked = rw (walk-append w.front (t ∷ []) None, w.walked, is) refl;
}

pub place_ends : (all rest following place : List TokenValue) (t : TokenValue) (awaited : Option ℕ) → WalksTo all awaited rest → rest ≡ t ∷ following → awaited_after awaited t ≡ None
    → ((front : List TokenValue) → all ≡ front ++ rest → place ≡ front) → SplitsPlace all place following
place_ends all rest following place t awaited w e is front_is =
    let front : place ≡ w.front = front_is w.front w.whole in
    let end = ends_here awaited t is in
    record {
      comma = t;
      whole = w.whole ∙ ap (λ r. w.front ++ r) e ∙ ap (λ r. r ++ t ∷ following) (sym front);
      is_comma = end.comma;
      walked = ap (walk None) front ∙ w.walked ∙ ap Some end.nothing;
    }

pub place_shorter : (all rest following : List TokenValue) (t : TokenValue) (awaited : Option ℕ) → WalksTo all awaited rest → rest ≡ t ∷ following → length following < length all
place_shorter all rest following t awaited w e = omega (arith, ap length w.whole, length-append w.front rest, ap length e)

pub last_place : (all rest : List TokenValue) (awaited : Option ℕ) → WalksTo all awaited rest → rest ≡ [] → IsLastPlace all
last_place all rest awaited w e =
    let walked : walk None all ≡ Some awaited = ap (walk None) (w.whole ∙ ap (λ r. w.front ++ r) e ∙ append-nil w.front) ∙ w.walked in
    λ none. cc (sym walked ∙ none)

pub walked_not : (a : List TokenValue) (c : TokenValue) (b : List TokenValue) → walk None a ≡ Some None → is_special_of 44 c ≡ true → walk None (a ++ c ∷ b) ≡ None
walked_not a c b walked is = rw (walk-append a (c ∷ b) None, walked, is) refl

pub not_last : (a : List TokenValue) (c : TokenValue) (b : List TokenValue) → walk None a ≡ Some None → is_special_of 44 c ≡ true → IsLastPlace (a ++ c ∷ b) → ⊥
not_last a c b walked is last = last (walked_not a c b walked is)
