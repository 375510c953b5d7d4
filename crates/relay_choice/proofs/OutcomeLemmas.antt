-- What comes of recipients, one by one.
use Rattle.std.proofs.Common.{◌≡◌, ℕ, ◌+◌, ◌<◌, List, [], ◌∷◌, ◌++◌, true, false, None, length, get_or, drop, map, refl, ap, sym, ◌∙◌}
use Rattle.std.proofs.lemmas.List.{at_drop_more, append_assoc}
use Rattle.relay_choice.specs.declared.plans.Plan.{Plan}
use Rattle.relay_choice.specs.declared.plans.Plan.TheVariants as plan
use Rattle.relay_choice.specs.declared.mail_objects.Recipient.{Recipient}
use Rattle.relay_choice.specs.declared.mail_objects.Outcome.{Outcome}
use Rattle.relay_choice.specs.declared.mail_objects.Outcome.TheVariants as outcome
use Rattle.relay_choice.specs.Plans.{is_sent}
use Rattle.relay_choice.specs.Relay.{merged}
use Rattle.relay_choice.specs.private.Asking.{detail_of}

merged_refused : (one : Plan) (plans : List Plan) (outcomes : List Outcome) → is_sent one ≡ false → merged (one ∷ plans) outcomes ≡ outcome.Refused (detail_of one) None ∷ merged plans outcomes
unfolding merged
merged_refused plan.Send plans outcomes is = search
merged_refused plan.SendNormal plans outcomes is = search
merged_refused (plan.Report5 detail) plans outcomes is = refl

merged_sent : (one : Plan) (plans : List Plan) (first : Outcome) (outcomes : List Outcome) → is_sent one ≡ true → merged (one ∷ plans) (first ∷ outcomes) ≡ first ∷ merged plans outcomes
unfolding merged
merged_sent plan.Send plans first outcomes is = refl
merged_sent plan.SendNormal plans first outcomes is = refl
merged_sent (plan.Report5 detail) plans first outcomes is = search

merged_none : (one : Plan) (plans : List Plan) → is_sent one ≡ true → merged (one ∷ plans) [] ≡ merged plans []
unfolding merged
merged_none plan.Send plans is = refl
merged_none plan.SendNormal plans is = refl
merged_none (plan.Report5 detail) plans is = search

pub merged_end : (outcomes : List Outcome) → merged [] outcomes ≡ []
unfolding merged
merged_end outcomes = refl

-- the plan of the recipient at a place comes first
at_place : (f : Recipient → Plan) (xs : List Recipient) (i : ℕ) (x : Recipient) (outcomes : List Outcome) → i < length xs → x ≡ get_or xs i x
    → merged (map f (drop i xs)) outcomes ≡ merged (f x ∷ map f (drop (i + 1) xs)) outcomes
at_place f xs i x outcomes lt is = at_drop_more (λ (l : List Recipient). merged (map f l) outcomes) xs i x lt
    ∙ ap (λ (y : Recipient). merged (f y ∷ map f (drop (i + 1) xs)) outcomes) (sym is)

-- one recipient more, after those with these outcomes
put_last : (made rest : List Outcome) (one : Outcome) → made ++ one ∷ rest ≡ (made ++ one ∷ []) ++ rest
put_last made rest one = sym (append_assoc made (one ∷ []) rest)

pub refused_turn : (f : Recipient → Plan) (xs : List Recipient) (i : ℕ) (x : Recipient) (whole made outcomes : List Outcome) → i < length xs → x ≡ get_or xs i x
    → is_sent (f x) ≡ false → whole ≡ made ++ merged (map f (drop i xs)) outcomes → whole ≡ (made ++ outcome.Refused (detail_of (f x)) None ∷ []) ++ merged (map f (drop (i + 1) xs)) outcomes
refused_turn f xs i x whole made outcomes lt is refused before = before
    ∙ ap (λ (l : List Outcome). made ++ l) (at_place f xs i x outcomes lt is ∙ merged_refused (f x) (map f (drop (i + 1) xs)) outcomes refused)
    ∙ put_last made (merged (map f (drop (i + 1) xs)) outcomes) (outcome.Refused (detail_of (f x)) None)

pub sent_turn : (f : Recipient → Plan) (xs : List Recipient) (i : ℕ) (x : Recipient) (whole made outcomes : List Outcome) (one : Outcome) → i < length xs → x ≡ get_or xs i x
    → is_sent (f x) ≡ true → whole ≡ made ++ merged (map f (drop i xs)) (one ∷ outcomes) → whole ≡ (made ++ one ∷ []) ++ merged (map f (drop (i + 1) xs)) outcomes
sent_turn f xs i x whole made outcomes one lt is sent before = before
    ∙ ap (λ (l : List Outcome). made ++ l) (at_place f xs i x (one ∷ outcomes) lt is ∙ merged_sent (f x) (map f (drop (i + 1) xs)) one outcomes sent)
    ∙ put_last made (merged (map f (drop (i + 1) xs)) outcomes) one

pub none_turn : (f : Recipient → Plan) (xs : List Recipient) (i : ℕ) (x : Recipient) (whole made : List Outcome) → i < length xs → x ≡ get_or xs i x
    → is_sent (f x) ≡ true → whole ≡ made ++ merged (map f (drop i xs)) [] → whole ≡ made ++ merged (map f (drop (i + 1) xs)) []
none_turn f xs i x whole made lt is sent before = before
    ∙ ap (λ (l : List Outcome). made ++ l) (at_place f xs i x [] lt is ∙ merged_none (f x) (map f (drop (i + 1) xs)) sent)
