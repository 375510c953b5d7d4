-- At some octets one event at most is due, and what is due first stays so with more octets after them.
use Rattle.std.proofs.Common.{◌≡◌, ℕ, ◌+◌, ◌<◌, ◌≤◌, Bool, List, [], ◌++◌, length, take, Option, None, Some, inl, inr, refl, sym, ap, ◌∙◌, subst, append-nil, length-append, arith}
use Rattle.std.proofs.lemmas.Bool.{cases_order}
use Rattle.std.proofs.lemmas.List.{take-append-le, take-take}
use Rattle.imap_words.specs.Languages.{IsViable}
use Rattle.imap_grammar.specs.Commands.{Tagged, IsCommand}
use Rattle.imap_grammar.specs.Events.{IsFirstBad, HasTag, IsTooLarge, IsDue, NothingBefore, Tells}
use Rattle.imap_grammar.specs.FirstDue.{Due, IsFirstDue}
use Rattle.imap_grammar.specs.declared.command.Command.{Command as Whole}
use Rattle.imap_grammar.specs.declared.event.Event.{Event}
use Rattle.imap_grammar.specs.declared.event.Event.TheVariants.{More, Go, Command, Bad, TooLarge, TooLong}
use Rattle.imap_grammar.proofs.EventLaws.{viable_front}
use Rattle.imap_grammar.proofs.TurnLaws.{same_tag}
use Rattle.imap_grammar.proofs.WholeLaws.{appending_goes, appending_tag, appending_viable}
use Rattle.imap_grammar.proofs.Single.{nothing_goes}
use Rattle.imap_grammar.proofs.SingleCommands.{command_single}

module _ (utf8 : Bool) (octets : List ℕ) where
  -- ---- one command

  one_command : (c d : Tagged) → IsCommand utf8 octets c → IsCommand utf8 octets d → c ≡ d
  one_command c d is other = ((command_single utf8).one octets octets [] [] c d is other refl (λ h. h) (λ h. h)).1

  -- no command goes on after one
  no_longer : (more : List ℕ) (c d : Tagged) → 0 < length more → IsCommand utf8 octets c → IsCommand utf8 (octets ++ more) d → ⊥
  no_longer more c d some is other =
      let same = ((command_single utf8).one octets (octets ++ more) more [] c d is other (sym (append-nil (octets ++ more))) (nothing_goes c more) (λ h. h)).0 in
      omega (arith, some, ap length same, length-append octets more)

  -- ---- what can be completed

  not_bad : (at : ℕ) → IsFirstBad (IsCommand utf8) octets at → IsViable (IsCommand utf8) octets → ⊥
  not_bad at bad viable = bad.bad (viable_front (IsCommand utf8) octets (at + 1) viable)

  command_viable : (c : Tagged) → IsCommand utf8 octets c → IsViable (IsCommand utf8) octets
  command_viable c is = record { rest = []; value = c; is_word = subst (λ z. IsCommand utf8 z c) (sym (append-nil octets)) is }

  -- ---- an APPEND up to its data

  large_viable : (tag : List ℕ) → IsTooLarge utf8 octets tag → IsViable (IsCommand utf8) octets
  large_viable tag large = appending_viable utf8 octets large.0 large.1

  large_no_command : (tag : List ℕ) (c : Tagged) → IsTooLarge utf8 octets tag → IsCommand utf8 octets c → ⊥
  large_no_command tag c large is = let on = appending_goes utf8 octets large.0 large.1 in no_longer on.0 c _ on.2 is on.3

  one_large : (tag other : List ℕ) → IsTooLarge utf8 octets tag → IsTooLarge utf8 octets other → tag ≡ other
  one_large tag other a b = a.2 ∙ (same_tag octets a.0.tag b.0.tag (appending_tag utf8 octets a.0 a.1) (appending_tag utf8 octets b.0 b.1) ∙ sym b.2)

  -- ---- the first bad octet, and the tag

  not_before : (at other : ℕ) → IsFirstBad (IsCommand utf8) octets at → IsFirstBad (IsCommand utf8) octets other → at < other → ⊥
  not_before at other bad later less =
      bad.bad (subst (λ z. IsViable (IsCommand utf8) z) (take-take (at + 1) other octets (omega (arith, less))) (viable_front (IsCommand utf8) (take other octets) (at + 1) later.viable))

  one_place : (at other : ℕ) → IsFirstBad (IsCommand utf8) octets at → IsFirstBad (IsCommand utf8) octets other → at ≡ other
  one_place at other a b = elim (cases_order at other) [
    | inl same ↦ same
    | inr (inl less) ↦ absurd (not_before at other a b less)
    | inr (inr more) ↦ absurd (not_before other at b a more)
  ]

  one_tag : (tag other : Option (List ℕ)) → HasTag octets tag → HasTag octets other → tag ≡ other
  one_tag (Some tag) (Some other) a b = ap Some (same_tag octets tag other a b)
  one_tag (Some tag) None a b = absurd (b tag a)
  one_tag None (Some other) a b = absurd (a other b)
  one_tag None None a b = refl

-- ---- one event

module _ (utf8 : Bool) (octets : List ℕ) where
  abbrev Agree : Event → Event → Type 0
  Agree event other = IsDue utf8 octets event → IsDue utf8 octets other → event ≡ other

  one_go : (other : Event) → Agree Go other
  one_go More due its = absurd its
  one_go Go due its = refl
  one_go (Command tag c) due its = absurd (due.1.no_command _ its.1)
  one_go (Bad tag at) due its = absurd (not_bad utf8 octets at its.2 due.1.viable)
  one_go (TooLarge tag) due its = absurd (due.1.not_large tag its.1)
  one_go TooLong due its = absurd (its due.0)

  one_whole : (tag : List ℕ) (c : Whole) (other : Event) → Agree (Command tag c) other
  one_whole tag c More due its = absurd its
  one_whole tag c Go due its = absurd (its.1.no_command _ due.1)
  one_whole tag c (Command its_tag d) due its = let same = one_command utf8 octets _ _ due.1 its.1 in ap (λ (z : Tagged). Command z.tag z.command) same
  one_whole tag c (Bad its_tag at) due its = absurd (not_bad utf8 octets at its.2 (command_viable utf8 octets _ due.1))
  one_whole tag c (TooLarge its_tag) due its = absurd (large_no_command utf8 octets its_tag _ its.1 due.1)
  one_whole tag c TooLong due its = absurd (its due.0)

  one_bad : (tag : Option (List ℕ)) (at : ℕ) (other : Event) → Agree (Bad tag at) other
  one_bad tag at More due its = absurd its
  one_bad tag at Go due its = absurd (not_bad utf8 octets at due.2 its.1.viable)
  one_bad tag at (Command its_tag d) due its = absurd (not_bad utf8 octets at due.2 (command_viable utf8 octets _ its.1))
  one_bad tag at (Bad its_tag its_at) due its = both (one_tag utf8 octets tag its_tag due.3 its.3) (one_place utf8 octets at its_at due.2 its.2)
    where
      both : {t u : Option (List ℕ)} {m n : ℕ} → t ≡ u → m ≡ n → Bad t m ≡ Bad u n
      both e f = rw (e, f) refl
  one_bad tag at (TooLarge its_tag) due its = absurd (not_bad utf8 octets at due.2 (large_viable utf8 octets its_tag its.1))
  one_bad tag at TooLong due its = absurd (its due.0)

  one_too_large : (tag : List ℕ) (other : Event) → Agree (TooLarge tag) other
  one_too_large tag More due its = absurd its
  one_too_large tag Go due its = absurd (its.1.not_large tag due.1)
  one_too_large tag (Command its_tag d) due its = absurd (large_no_command utf8 octets tag _ due.1 its.1)
  one_too_large tag (Bad its_tag at) due its = absurd (not_bad utf8 octets at its.2 (large_viable utf8 octets tag due.1))
  one_too_large tag (TooLarge its_tag) due its = ap TooLarge (one_large utf8 octets tag its_tag due.1 its.1)
  one_too_large tag TooLong due its = absurd (its due.0)

  one_too_long : (other : Event) → Agree TooLong other
  one_too_long More due its = absurd its
  one_too_long Go due its = absurd (due its.0)
  one_too_long (Command its_tag d) due its = absurd (due its.0)
  one_too_long (Bad its_tag at) due its = absurd (due its.0)
  one_too_long (TooLarge its_tag) due its = absurd (due its.0)
  one_too_long TooLong due its = refl

  pub one_event : (event other : Event) → IsDue utf8 octets event → IsDue utf8 octets other → event ≡ other
  one_event More other due its = absurd due
  one_event Go other due its = one_go other due its
  one_event (Command tag c) other due its = one_whole tag c other due its
  one_event (Bad tag at) other due its = one_bad tag at other due its
  one_event (TooLarge tag) other due its = one_too_large tag other due its
  one_event TooLong other due its = one_too_long other due its

-- ---- what is due first

abbrev due_at : ℕ → Event → Option Due
due_at used event = Some (record { used = used; event = event })

-- an event that is told, and isn't that nothing is due
abbrev Comes : Bool → (seen octets : List ℕ) → ℕ → Event → Type 0
Comes utf8 seen octets used event = (0 < used) × (used ≤ length octets) × NothingBefore utf8 seen octets used × IsDue utf8 (seen ++ take used octets) event

comes : (utf8 : Bool) (seen octets : List ℕ) (used : ℕ) (event : Event) → Tells utf8 seen octets used event → (event ≡ More → ⊥) → Comes utf8 seen octets used event
comes utf8 seen octets used More observed some = absurd (some refl)
comes utf8 seen octets used Go observed some = observed
comes utf8 seen octets used (Command tag c) observed some = observed
comes utf8 seen octets used (Bad tag at) observed some = observed
comes utf8 seen octets used (TooLarge tag) observed some = observed
comes utf8 seen octets used TooLong observed some = observed

module _ (utf8 : Bool) (seen octets more : List ℕ) where
  -- the octets up to there are the same
  due_on : (used : ℕ) (event : Event) → used ≤ length octets → IsDue utf8 (seen ++ take used octets) event → IsDue utf8 (seen ++ take used (octets ++ more)) event
  due_on used event fits due = subst (λ z. IsDue utf8 (seen ++ z) event) (sym (take-append-le used octets more fits)) due

  due_off : (used : ℕ) (event : Event) → used ≤ length octets → IsDue utf8 (seen ++ take used (octets ++ more)) event → IsDue utf8 (seen ++ take used octets) event
  due_off used event fits due = subst (λ z. IsDue utf8 (seen ++ z) event) (take-append-le used octets more fits) due

  pub first_stays : (due : Due) (other : Option Due) → IsFirstDue utf8 seen octets (Some due) → IsFirstDue utf8 seen (octets ++ more) other → other ≡ Some due
  first_stays due None first none =
      let was = comes utf8 seen octets due.used due.event first.0 first.1 in
      absurd (none due.used was.0 (omega (arith, was.1, length-append octets more)) due.event (due_on due.used due.event was.1 was.3))
  first_stays due (Some next) first its = elim (cases_order next.used due.used) [
    | inl same ↦
        let event = one_event utf8 (seen ++ take due.used octets) next.event due.event (due_off due.used next.event was.1 (subst (λ n. IsDue utf8 (seen ++ take n (octets ++ more)) next.event) same is.3)) was.3 in
        both same event
    | inr (inl less) ↦ absurd (was.2 next.used is.0 less next.event (due_off next.used next.event (omega (arith, less, was.1)) is.3))
    | inr (inr later) ↦ absurd (is.2 due.used was.0 later due.event (due_on due.used due.event was.1 was.3))
  ]
    where
      was : Comes utf8 seen octets due.used due.event
      was = comes utf8 seen octets due.used due.event first.0 first.1

      is : Comes utf8 seen (octets ++ more) next.used next.event
      is = comes utf8 seen (octets ++ more) next.used next.event its.0 its.1

      both : {m n : ℕ} {a b : Event} → m ≡ n → a ≡ b → due_at m a ≡ due_at n b
      both e f = rw (e, f) refl

-- the answer is one
pub one_first : (utf8 : Bool) (seen octets : List ℕ) (answer other : Option Due) → IsFirstDue utf8 seen octets answer → IsFirstDue utf8 seen octets other → answer ≡ other
one_first utf8 seen octets None None none its = refl
one_first utf8 seen octets (Some due) other first its = sym (first_stays utf8 seen octets [] due other first (subst (λ z. IsFirstDue utf8 seen z other) (sym (append-nil octets)) its))
one_first utf8 seen octets None (Some due) none its = first_stays utf8 seen octets [] due None its (subst (λ z. IsFirstDue utf8 seen z None) (sym (append-nil octets)) none)
