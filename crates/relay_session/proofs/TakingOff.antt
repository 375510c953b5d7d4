-- Recipients of an entry that are taken off the queue, one after another.
use Rattle.std.proofs.Common.{◌≡◌, ℕ, ◌+◌, ◌≤◌, ◌<◌, ◌^◌, true, List, [], ◌∷◌, ◌++◌, length, map, Option, None, Some, refl, sym, ap, subst, ◌∙◌, arith, append-nil, append_assoc}
use Rattle.std.specs.List.{AllByRecursion}
use Rattle.std.specs.List.Sorted.{IsStrictlyIncreasing}
use Rattle.std.proofs.lemmas.List.{length-append, map-append}
use Rattle.std.proofs.lemmas.List.Elements.{recursion_from_All}
use Rattle.std.proofs.lemmas.Option.{none-some}
use Rattle.journal_records.specs.declared.records.Record.{Record}
use Rattle.journal_records.specs.declared.records.Record.TheVariants as records
use Rattle.kept_mail.specs.Kept.{Kept, after_record}
use Rattle.mail_store.specs.Changing.{is_unsettled, settle_refusal}
use Rattle.mail_store.specs.StoreState.{StoreState}
use Rattle.mail_store.specs.declared.queue.Queued.{Queued}
use Rattle.mail_store.specs.declared.queue.Unsettled.{Unsettled}
use Rattle.mail_wire.specs.declared.outside.Fault.{Fault}
use Rattle.mail_wire.specs.declared.outside.Fault.TheVariants as fault
use Rattle.mail_wire.proofs.Moving.{Gives-nil}
use Rattle.relay_choice.specs.declared.mail_objects.Outcome.{Outcome}
use Rattle.session_core.specs.Acts.{Act, changes}
use Rattle.session_core.specs.Around.{Around}
use Rattle.session_core.specs.Doing.{Does, DoesAll, DoesFirst, Makes, Replies}
use Rattle.session_core.specs.Keeps.{Keeps}
use Rattle.session_core.proofs.DoingLemmas.{Does-changes, Does-unchanged, DoesAll-nil, DoesAll-then, DoesFirst-between, LeavesDesk-nil}
use Rattle.session_core.proofs.KeepsLemmas.{Keeps-nil, Keeps-then}
use Rattle.relay_session.specs.Carrying.{taken_off}
use Rattle.relay_session.specs.private.Acting.{IsKnownEntry, IsOpenIn, counted, sent_among}
use Rattle.relay_session.specs.declared.ends.Tally.{Tally}
use Rattle.relay_session.proofs.QueueFacts.{unsettled_after}
use Rattle.relay_session.proofs.RisingPlaces.{above_first, increasing_tail}
use Rattle.relay_session.proofs.TallyLemmas.{counted-none, counted-then, sent_among-few}

-- ---- changes as acts

nothing_given : (a : Around) → Replies a a None []
nothing_given a = record { gives = Gives-nil a.wire; leaves = LeavesDesk-nil a; fine = λ is. none-some fault.Keeper is }

made_first : {P : Type 0} (spelled : P → List ℕ) (a b : Around) (met : Option Fault) (made : List (List Record)) → Makes a b met made → Does spelled a b met (map changes made ++ [])
made_first spelled a b None made makes = Does-changes spelled a b b None made [] makes (nothing_given b)
made_first spelled a b (Some met) made makes = Does-unchanged spelled a b met made [] makes

-- changes that were made, or that were broken off
pub Does-made : {P : Type 0} (spelled : P → List ℕ) (a b : Around) (met : Option Fault) (made : List (List Record)) → Makes a b met made → Does spelled a b met (map changes made)
Does-made {P = P} spelled a b met made makes = subst (λ (acts : List (Act P)). Does spelled a b met acts) (append-nil (map changes made)) (made_first spelled a b met made makes)

-- ---- recipients in two parts

pub taken_off-append : (entry : ℕ) (us vs : List Unsettled) (os ps : List Outcome) → length us ≡ length os → taken_off entry (us ++ vs) (os ++ ps) ≡ taken_off entry us os ++ taken_off entry vs ps
taken_off-append entry [] vs [] ps same = refl
taken_off-append entry [] vs (outcome ∷ os) ps same = absurd (omega (arith, same))
taken_off-append entry (one ∷ us) vs [] ps same = absurd (omega (arith, same))
taken_off-append entry (one ∷ us) vs (outcome ∷ os) ps same =
    ap (λ (l : List (List Record)). (records.Settle entry one.index ∷ []) ∷ l) (taken_off-append entry us vs os ps (omega (arith, same)))

abbrev takes : (entry : ℕ) → List Unsettled → List Outcome → List (Act (List ℕ))
takes entry unsettled outcomes = map changes (taken_off entry unsettled outcomes)

takes-append : (entry : ℕ) (us vs : List Unsettled) (os ps : List Outcome) → length us ≡ length os → takes entry us os ++ takes entry vs ps ≡ takes entry (us ++ vs) (os ++ ps)
takes-append entry us vs os ps same =
    sym (ap (λ (l : List (List Record)). map changes l) (taken_off-append entry us vs os ps same) ∙ map-append changes (taken_off entry us os) (taken_off entry vs ps))

takes-parts : (entry : ℕ) (us vs whole : List Unsettled) (os ps outcomes : List Outcome) → length us ≡ length os → whole ≡ us ++ vs → outcomes ≡ os ++ ps
    → takes entry us os ++ takes entry vs ps ≡ takes entry whole outcomes
takes-parts entry us vs whole os ps outcomes same first second = takes-append entry us vs os ps same ∙ rw (first, second) refl

-- ---- a loop over them

abbrev Waits : Kept → (entry : ℕ) → List Unsettled → Type 0
Waits kept entry unsettled = AllByRecursion (λ (one : Unsettled). is_unsettled kept entry one.index ≡ true) unsettled

abbrev indexes : List Unsettled → List ℕ
indexes unsettled = map (λ (one : Unsettled). one.index) unsettled

-- Some were taken off, and these are left, with these outcomes.
pub record IsTakingOff (before now : Around) (entry : ℕ) (unsettled left : List Unsettled) (outcomes rest : List Outcome) (old new : Tally) : Type 0 where
  pub done : List Unsettled
  pub told : List Outcome
  pub unsettled_are : unsettled ≡ done ++ left
  pub outcomes_are : outcomes ≡ told ++ rest
  pub same : length done ≡ length told
  pub even : length left ≡ length rest
  pub does : DoesAll (λ octets. octets) before now (takes entry done told)
  pub still : Waits now.desk.store.kept entry left
  pub rising : IsStrictlyIncreasing (indexes left)
  pub keeps : Keeps before now None
  pub tally : new ≡ counted old told 0

pub taking-begins : (a : Around) (queued : Queued) (outcomes : List Outcome) (tally : Tally) → IsKnownEntry a.desk.store.kept queued → IsOpenIn a.desk.store.kept queued
    → length outcomes ≡ length queued.unsettled → IsTakingOff a a queued.entry queued.unsettled queued.unsettled outcomes outcomes tally tally
taking-begins a queued outcomes tally known still each = record {
  done = [];
  told = [];
  unsettled_are = refl;
  outcomes_are = refl;
  same = refl;
  even = sym each;
  does = DoesAll-nil (λ octets. octets) a;
  still = recursion_from_All (λ (one : Unsettled). is_unsettled a.desk.store.kept queued.entry one.index ≡ true) queued.unsettled still;
  rising = known.rising;
  keeps = Keeps-nil a;
  tally = counted-none tally;
}

-- the same where what is left is known by equations
pub taking-start : (a : Around) (queued : Queued) (left : List Unsettled) (outcomes rest : List Outcome) (tally : Tally) → IsKnownEntry a.desk.store.kept queued → IsOpenIn a.desk.store.kept queued
    → length outcomes ≡ length queued.unsettled → left ≡ queued.unsettled → rest ≡ outcomes → IsTakingOff a a queued.entry queued.unsettled left outcomes rest tally tally
taking-start a queued left outcomes rest tally known still each first second = rw (first, second) (taking-begins a queued outcomes tally known still each)

module _ (before now : Around) (entry : ℕ) (unsettled left : List Unsettled) (outcomes rest : List Outcome) (old new : Tally) (t : IsTakingOff before now entry unsettled left outcomes rest old new)
    (one : Unsettled) (others : List Unsettled) (outcome : Outcome) (more : List Outcome) (first : left ≡ one ∷ others) (second : rest ≡ outcome ∷ more) where
  -- the next one isn't settled
  pub taking-waits : settle_refusal now.desk.store.kept entry one.index ≡ None
  taking-waits =
      let still : Waits now.desk.store.kept entry (one ∷ others) = subst (Waits now.desk.store.kept entry) first t.still in
      rw still.0 refl

  -- there is room to count him
  pub taking-sent : old.sent + length outcomes < 2 ^ 32 → new.sent + 1 < 2 ^ 32
  taking-sent room =
      let count : new.sent ≡ old.sent + sent_among t.told = ap (λ (x : Tally). x.sent) t.tally in
      let few = sent_among-few t.told in
      let whole : length outcomes ≡ length t.told + length rest = ap (λ (l : List Outcome). length l) t.outcomes_are ∙ length-append t.told rest in
      let some : length rest ≡ length more + 1 = ap (λ (l : List Outcome). length l) second ∙ omega arith in
      omega (arith, room, count, few, whole, some)

  pub taking-left : length outcomes ≤ old.left → 1 ≤ new.left
  taking-left room =
      let whole : length outcomes ≡ length t.told + length rest = ap (λ (l : List Outcome). length l) t.outcomes_are ∙ length-append t.told rest in
      let some : length rest ≡ length more + 1 = ap (λ (l : List Outcome). length l) second ∙ omega arith in
      let count = ap (λ (x : Tally). x.left) t.tally in
      omega (arith, room, count, whole, some)

  -- the keeper failed in the next change, or there was no memory for it
  pub taking-breaks : (after : Around) (met : Fault) → Makes now after (Some met) ((records.Settle entry one.index ∷ []) ∷ []) → DoesFirst (λ octets. octets) before after met (takes entry unsettled outcomes)
  taking-breaks after met makes =
      subst (λ (acts : List (Act (List ℕ))). DoesFirst (λ octets. octets) before after met acts)
      (takes-parts entry t.done (one ∷ others) unsettled t.told (outcome ∷ more) outcomes t.same (t.unsettled_are ∙ ap (λ (l : List Unsettled). t.done ++ l) first) (t.outcomes_are ∙ ap (λ (l : List Outcome). t.told ++ l) second))
      (DoesFirst-between (λ octets. octets) before now after met (takes entry t.done t.told) (changes (records.Settle entry one.index ∷ []) ∷ []) (takes entry others more) t.does
      (Does-made (λ octets. octets) now after (Some met) ((records.Settle entry one.index ∷ []) ∷ []) makes))

  -- whoever stands after him waits when he is settled
  others_wait : (kept : Kept) (us : List Unsettled) → AllByRecursion (λ (u : Unsettled). one.index < u.index) us → Waits kept entry us → Waits (after_record kept (records.Settle entry one.index)) entry us
  others_wait kept [] above still = tt
  others_wait kept (u ∷ us) above still =
      let apart = above.0 in (
        unsettled_after kept (records.Settle entry one.index) entry u.index (λ here same. omega (arith, same, apart)) still.0,
        others_wait kept us above.1 still.1,
      )

  pub taking-step : (after : Around) (newer : Tally) → Makes now after None ((records.Settle entry one.index ∷ []) ∷ []) → Keeps now after None → newer ≡ counted new (outcome ∷ []) 0
      → IsTakingOff before after entry unsettled others outcomes more old newer
  taking-step after newer makes keeps tally =
      let still : Waits now.desk.store.kept entry (one ∷ others) = subst (Waits now.desk.store.kept entry) first t.still in
      let rising : IsStrictlyIncreasing (one.index ∷ indexes others) = subst (λ (us : List Unsettled). IsStrictlyIncreasing (indexes us)) first t.rising in
      let above = above_first (λ (u : Unsettled). u.index) one.index others rising in
      let kept_is : after.desk.store.kept ≡ after_record now.desk.store.kept (records.Settle entry one.index) = ap (λ (s : StoreState). s.kept) makes.changes.store in
      record {
        done = t.done ++ one ∷ [];
        told = t.told ++ outcome ∷ [];
        unsettled_are = t.unsettled_are ∙ ap (λ (l : List Unsettled). t.done ++ l) first ∙ sym (append_assoc t.done (one ∷ []) others);
        outcomes_are = t.outcomes_are ∙ ap (λ (l : List Outcome). t.told ++ l) second ∙ sym (append_assoc t.told (outcome ∷ []) more);
        same = let was = t.same in let a = length-append t.done (one ∷ []) in let b = length-append t.told (outcome ∷ []) in omega (arith, was, a, b);
        even = let was = t.even in let a = ap (λ (l : List Unsettled). length l) first in let b = ap (λ (l : List Outcome). length l) second in omega (arith, was, a, b);
        does = subst (λ (acts : List (Act (List ℕ))). DoesAll (λ octets. octets) before after acts) (takes-append entry t.done (one ∷ []) t.told (outcome ∷ []) t.same)
            (DoesAll-then (λ octets. octets) before now after (takes entry t.done t.told) (takes entry (one ∷ []) (outcome ∷ [])) t.does
            (Does-made (λ octets. octets) now after None ((records.Settle entry one.index ∷ []) ∷ []) makes));
        still = subst (λ (kept : Kept). Waits kept entry others) (sym kept_is) (others_wait now.desk.store.kept others above still.1);
        rising = increasing_tail one.index (indexes others) rising;
        keeps = Keeps-then before now after None t.keeps keeps;
        tally = tally ∙ ap (λ (x : Tally). counted x (outcome ∷ []) 0) t.tally ∙ counted-then old t.told (outcome ∷ []) 0;
      }

-- all were taken off
pub record HasTakenOff (before now : Around) (entry : ℕ) (unsettled : List Unsettled) (outcomes : List Outcome) (old new : Tally) : Type 0 where
  pub does : DoesAll (λ octets. octets) before now (takes entry unsettled outcomes)
  pub tally : new ≡ counted old outcomes 0

pub taking-ends : (before now : Around) (entry : ℕ) (unsettled left : List Unsettled) (outcomes rest : List Outcome) (old new : Tally) → IsTakingOff before now entry unsettled left outcomes rest old new
    → left ≡ [] → rest ≡ [] → HasTakenOff before now entry unsettled outcomes old new
taking-ends before now entry unsettled left outcomes rest old new t none nothing =
    let unsettled_are : unsettled ≡ t.done = t.unsettled_are ∙ ap (λ (l : List Unsettled). t.done ++ l) none ∙ append-nil t.done in
    let outcomes_are : outcomes ≡ t.told = t.outcomes_are ∙ ap (λ (l : List Outcome). t.told ++ l) nothing ∙ append-nil t.told in
    record {
      does = rw (unsettled_are, outcomes_are) t.does;
      tally = rw outcomes_are t.tally;
    }
