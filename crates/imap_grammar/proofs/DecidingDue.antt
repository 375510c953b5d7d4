-- What is due first at octets is found: some function tells it.
use Rattle.std.proofs.Common.{◌≡◌, ℕ, zero, suc, ◌+◌, ◌<◌, ◌≤◌, Bool, List, [], ◌∷◌, ◌++◌, length, take, drop, Option, None, Some, ◌⊎◌, inl, inr, refl, sym, ap, ◌∙◌, subst, length-append, arith}
use Rattle.std.proofs.lemmas.Bool.{cases_lt}
use Rattle.std.proofs.lemmas.List.{take-append-drop, take_all, length-take-le, length-drop}
use Rattle.std.specs.Prelude.{⊤}
use Rattle.mail_wire.specs.declared.framing.TheConstants.{LINE_MAX}
use Rattle.imap_words.specs.Languages.{IsViable}
use Rattle.imap_grammar.specs.Commands.{Tagged, IsCommand}
use Rattle.imap_grammar.specs.Events.{EndsCommandLine, IsFirstBad, Appends, IsAppending, HasData, Counts, IsShort, IsTooLarge, IsDue, NothingBefore, Tells}
use Rattle.imap_grammar.specs.FirstDue.{Due, IsFirstDue, ReadsCommands}
use Rattle.imap_grammar.specs.declared.event.Event.{Event}
use Rattle.imap_grammar.specs.declared.event.Event.TheVariants.{More, Go, Command, Bad, TooLarge, TooLong}
use Rattle.imap_grammar.specs.declared.event.TheConstants.{APPEND_MAX}
use Rattle.imap_grammar.proofs.Deciding.{Parting, decide_parting, decide_by, decide_not, decide_both, decide_either, decide_below, decide_within, find_least}
use Rattle.imap_grammar.proofs.DecidingWords.{Searches, Decided}
use Rattle.imap_grammar.proofs.DecidingLines.{decide_ends, decide_tag}
use Rattle.imap_grammar.proofs.DecidingCommands.{command_decided, appending_decided}

-- ---- how many octets count

-- an APPEND up to its data, and how many octets count then
abbrev Counting : Bool → (ℕ → Type 0) → List ℕ → List ℕ → Type 0
Counting utf8 R head tail = (a : Appends) × IsAppending utf8 head a × R (length head + length (drop a.front.announced.size tail))

data_sized : (size : ℕ) (tail : List ℕ) → (length (take size tail) ≡ size) ⊎ ((length (take size tail) < size) × (drop size tail ≡ []))
data_sized size tail = elim (cases_lt (length tail) size) [
  | inl less ↦ inr (omega (arith, less, len, length-drop size tail), nothing (drop size tail) (omega (arith, less, length-drop size tail)))
  | inr more ↦ inl (length-take-le size tail more)
]
  where
    len : length (take size tail) + length (drop size tail) ≡ length tail
    len = sym (length-append (take size tail) (drop size tail)) ∙ ap length (take-append-drop size tail)

    nothing : (octets : List ℕ) → length octets ≡ 0 → octets ≡ []
    nothing [] e = refl
    nothing (x ∷ octets) e = absurd (omega (arith, e))

-- how many octets stand after the data
after_data : (size : ℕ) (content back : List ℕ) → (length content ≡ size) ⊎ ((length content < size) × (back ≡ [])) → length back ≡ length (drop size (content ++ back))
after_data size content back (inl all) = omega (arith, all, length-drop size (content ++ back), length-append content back)
after_data size content back (inr part) = omega (arith, part.0, ap length part.1, length-drop size (content ++ back), length-append content back)

search_data : (utf8 : Bool) → Searches (HasData utf8)
search_data utf8 octets R decide = decide_by to from (decide_parting octets (Counting utf8 R) (λ head tail e. (appending_decided utf8).known.search head (λ a. R (length head + length (drop a.front.announced.size tail))) (λ a. decide _)))
  where
    to : Parting (Counting utf8 R) octets → (n : ℕ) × HasData utf8 octets n × R n
    to p =
        let h = p.holds in
        let size = h.0.front.announced.size in (
          length p.front + length (drop size p.back),
          record {
            head = p.front;
            content = take size p.back;
            back = drop size p.back;
            appends = h.0;
            whole = p.whole ∙ ap (λ z. p.front ++ z) (sym (take-append-drop size p.back));
            is_head = h.1;
            sized = data_sized size p.back;
            count = refl;
          },
          h.2,
        )

    from : (n : ℕ) × HasData utf8 octets n × R n → Parting (Counting utf8 R) octets
    from s =
        let has = s.1 in
        let count : s.0 ≡ length has.head + length (drop has.appends.front.announced.size (has.content ++ has.back))
        = has.count ∙ ap (λ z. length has.head + z) (after_data has.appends.front.announced.size has.content has.back has.sized) in
        record { front = has.head; back = has.content ++ has.back; whole = has.whole; holds = (has.appends, has.is_head, subst R count s.2) }

abbrev HasFew : Bool → List ℕ → Type 0
HasFew utf8 octets = (n : ℕ) × HasData utf8 octets n × n ≤ LINE_MAX

abbrev LacksData : Bool → List ℕ → Type 0
LacksData utf8 octets = ((n : ℕ) × HasData utf8 octets n × ⊤) → ⊥

decide_short : (utf8 : Bool) (octets : List ℕ) → Dec (IsShort utf8 octets)
decide_short utf8 octets =
    decide_by to from (decide_either (search_data utf8 octets (λ n. n ≤ LINE_MAX) (λ n. decide_within n LINE_MAX)) (decide_both (decide_not (search_data utf8 octets (λ n. ⊤) (λ n. yes tt))) (decide_within (length octets) LINE_MAX)))
  where
    to : HasFew utf8 octets ⊎ (LacksData utf8 octets × (length octets ≤ LINE_MAX)) → IsShort utf8 octets
    to (inl s) = (s.0, inl s.1, s.2)
    to (inr s) = (length octets, inr (λ others has. s.0 (others, has, tt), refl), s.1)

    by : (n : ℕ) → Counts utf8 octets n → n ≤ LINE_MAX → HasFew utf8 octets ⊎ (LacksData utf8 octets × (length octets ≤ LINE_MAX))
    by n (inl has) few = inl (n, has, few)
    by n (inr all) few = inr (λ s. all.0 s.0 s.1, subst (λ z. z ≤ LINE_MAX) all.1 few)

    from : IsShort utf8 octets → HasFew utf8 octets ⊎ (LacksData utf8 octets × (length octets ≤ LINE_MAX))
    from s = by s.0 s.1 s.2

decide_large : (utf8 : Bool) (octets : List ℕ) → Dec ((tag : List ℕ) × IsTooLarge utf8 octets tag)
decide_large utf8 octets = decide_by to from ((appending_decided utf8).known.search octets (λ a. APPEND_MAX < a.front.announced.size) (λ a. decide_below APPEND_MAX a.front.announced.size))
  where
    to : (a : Appends) × IsAppending utf8 octets a × APPEND_MAX < a.front.announced.size → (tag : List ℕ) × IsTooLarge utf8 octets tag
    to s = (s.0.tag, (s.0, s.1, refl, s.2))

    from : (tag : List ℕ) × IsTooLarge utf8 octets tag → (a : Appends) × IsAppending utf8 octets a × APPEND_MAX < a.front.announced.size
    from s = (s.1.0, s.1.1, s.1.3)

-- ---- the first bad octet

module _ {V : Type 0} {P : List ℕ → V → Type 0} (d : Decided P) where
  bad_at : (octets : List ℕ) (n : ℕ) → 0 < n → n ≤ length octets → (IsViable P (take n octets) → ⊥) → ((m : ℕ) → 0 < m → m < n → (IsViable P (take m octets) → ⊥) → ⊥) → (at : ℕ) × IsFirstBad P octets at
  bad_at octets zero some few bad none_below = absurd (omega (arith, some))
  bad_at octets (suc n) some few bad none_below =
      let next : suc n ≡ n + 1 = omega arith in
      (n, record { below = omega (arith, few); viable = viable n (omega arith); bad = subst (λ m. IsViable P (take m octets) → ⊥) next bad })
    where
      viable : (m : ℕ) → m < suc n → IsViable P (take m octets)
      viable zero less = d.some
      viable (suc m) less = elim (d.known.judge (take (suc m) octets)) [
        | yes can ↦ can
        | no none ↦ absurd (none_below (suc m) (omega arith) less none)
      ]

  find_bad : (octets : List ℕ) → (IsViable P octets → ⊥) → (at : ℕ) × IsFirstBad P octets at
  find_bad [] bad = absurd (bad d.some)
  find_bad (x ∷ octets) bad = elim (find_least (length (x ∷ octets)) (λ n. IsViable P (take n (x ∷ octets)) → ⊥) (λ n. decide_not (d.known.judge (take n (x ∷ octets))))) [
    | inl l ↦ bad_at (x ∷ octets) l.number l.some l.few l.holds l.none_below
    | inr none ↦ absurd (none (length (x ∷ octets)) (omega arith) (omega arith) (subst (λ z. IsViable P z → ⊥) (sym (take_all (length (x ∷ octets)) (x ∷ octets) (omega arith))) bad))
  ]

-- ---- what is due

abbrev IsEvent : Bool → List ℕ → Type 0
IsEvent utf8 octets = (event : Event) × IsDue utf8 octets event

bad_due : (utf8 : Bool) (octets : List ℕ) → IsShort utf8 octets → EndsCommandLine octets → (IsViable (IsCommand utf8) octets → ⊥) → IsEvent utf8 octets
bad_due utf8 octets short ends bad =
    let first = find_bad (command_decided utf8) octets bad in
    elim (decide_tag octets) [
      | yes tag ↦ (Bad (Some tag.0) first.0, (short, ends, first.1, tag.1))
      | no none ↦ (Bad None first.0, (short, ends, first.1, λ tag begins. none (tag, begins)))
    ]

none_due : (utf8 : Bool) (octets : List ℕ) → IsShort utf8 octets → (((tag : List ℕ) × IsTooLarge utf8 octets tag) → ⊥) → (((c : Tagged) × IsCommand utf8 octets c × ⊤) → ⊥) → (EndsCommandLine octets → ⊥) → (event : Event) → IsDue utf8 octets event → ⊥
none_due utf8 octets short small other within More due = due
none_due utf8 octets short small other within Go due = within due.1.ends
none_due utf8 octets short small other within (Command tag command) due = other (record { tag = tag; command = command }, due.1, tt)
none_due utf8 octets short small other within (Bad tag at) due = within due.1
none_due utf8 octets short small other within (TooLarge tag) due = small (tag, due.1)
none_due utf8 octets short small other within TooLong due = due short

decide_due : (utf8 : Bool) (octets : List ℕ) → Dec (IsEvent utf8 octets)
decide_due utf8 octets = elim (decide_short utf8 octets) [
  | no long ↦ yes (TooLong, long)
  | yes short ↦ elim (decide_large utf8 octets) [
    | yes large ↦ yes (TooLarge large.0, (short, large.1))
    | no small ↦ elim ((command_decided utf8).known.search octets (λ c. ⊤) (λ c. yes tt)) [
      | yes found ↦ yes (Command found.0.tag found.0.command, (short, found.1))
      | no other ↦ elim (decide_ends octets) [
        | no within ↦ no (λ s. none_due utf8 octets short small other within s.0 s.1)
        | yes ends ↦ elim ((command_decided utf8).known.judge octets) [
          | yes viable ↦ yes (Go, (short, record { ends = ends; viable = viable; no_command = λ c is. other (c, is, tt); not_large = λ tag is. small (tag, is) }))
          | no bad ↦ yes (bad_due utf8 octets short ends bad)
        ]
      ]
    ]
  ]
]

-- ---- what is due first

told : (utf8 : Bool) (seen octets : List ℕ) (used : ℕ) (event : Event) → 0 < used → used ≤ length octets → NothingBefore utf8 seen octets used → IsDue utf8 (seen ++ take used octets) event
    → Tells utf8 seen octets used event × (event ≡ More → ⊥)
told utf8 seen octets used More some few none due = absurd due
told utf8 seen octets used Go some few none due = ((some, few, none, due), λ e. cc e)
told utf8 seen octets used (Command tag command) some few none due = ((some, few, none, due), λ e. cc e)
told utf8 seen octets used (Bad tag at) some few none due = ((some, few, none, due), λ e. cc e)
told utf8 seen octets used (TooLarge tag) some few none due = ((some, few, none, due), λ e. cc e)
told utf8 seen octets used TooLong some few none due = ((some, few, none, due), λ e. cc e)

first_due : (utf8 : Bool) (seen octets : List ℕ) → (answer : Option Due) × IsFirstDue utf8 seen octets answer
first_due utf8 seen octets = elim (find_least (length octets) (λ n. IsEvent utf8 (seen ++ take n octets)) (λ n. decide_due utf8 (seen ++ take n octets))) [
  | inl l ↦ (Some (record { used = l.number; event = l.holds.0 }), told utf8 seen octets l.number l.holds.0 l.some l.few (λ n some less event due. l.none_below n some less (event, due)) l.holds.1)
  | inr none ↦ (None, λ n some less event due. none n some (omega (arith, less)) (event, due))
]

pub commands_read : (event_of : Bool → (seen octets : List ℕ) → Option Due) × ReadsCommands event_of
commands_read = (λ utf8 seen octets. (first_due utf8 seen octets).0, λ utf8 seen octets. (first_due utf8 seen octets).1)
