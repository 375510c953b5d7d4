-- What follows the parts of FETCH: with which octets it begins, and that it can be completed.
use Rattle.std.proofs.Common.{◌≡◌, ℕ, ◌-◌, ◌+◌, ◌<◌, nat_lt, Bool, true, false, not, ◌&&◌, List, [], ◌∷◌, ◌++◌, length, Option, None, Some, inl, refl, sym, ap, ◌∙◌, subst, append_assoc, length-append, arith}
use Rattle.std.proofs.lemmas.Bool.{and_parts, cond-false, ltb-true, ne_eqb}
use Rattle.std.specs.List.{list_all}
use Rattle.std.specs.Prelude.{Result, Ok, Err, IsErrAnd, MatchResult}
use Rattle.std.proofs.Common.{Bor}
use Rattle.mail_wire.proofs.AllLemmas.{pass-weaker}
use Rattle.imap_words.specs.Languages.{Then, After, Is, IsOctet, IsMoreThan, IsViable, Maybe}
use Rattle.imap_words.specs.Reading.{BeginsIn, never, Reads, StopsReading}
use Rattle.imap_words.specs.Going.{Leaves}
use Rattle.imap_words.specs.declared.stop.Stop.{Stop}
use Rattle.imap_words.specs.declared.stop.Stop.TheVariants.{Memory}
use Rattle.imap_words.specs.Tokens.{IsNonZero, IsNumber32, IsSpace, IsCloseParenthesis, IsCrlf, is_digit}
use Rattle.imap_words.specs.Keywords.{Named, IsWordOf, upper}
use Rattle.imap_words.proofs.Passing.{no_octets}
use Rattle.imap_words.proofs.Composing.{Avoids, NeverAt}
use Rattle.imap_words.proofs.TokenSteps.{octet_viable, number_never, non_zero_viable, number_viable}
use Rattle.imap_words.proofs.Going.{passes_on, octet_avoids, then_avoids, then_viable, then_never, is_viable}
use Rattle.imap_words.proofs.Choosing.{seq_never, mapped_reads, mapped_stops, more_avoids, more_viable}
use Rattle.imap_words.proofs.HeaderSteps.{crlf_viable}
use Rattle.imap_words.proofs.TableSteps.{begins_other, word_never}
use Rattle.imap_words.proofs.Handing.{nothing_reads, something_reads, something_stops}
use Rattle.imap_words.proofs.Leaving.{here, leaves_on}
use Rattle.imap_grammar.specs.declared.command.Command.{Command}
use Rattle.imap_grammar.specs.declared.command.FetchItem.{FetchItem}
use Rattle.imap_grammar.specs.declared.command.FetchItem.TheVariants as item
use Rattle.imap_grammar.specs.declared.command.SectionPart.{SectionPart}
use Rattle.imap_grammar.specs.declared.awaited.Fetching.{Fetching}
use Rattle.imap_grammar.specs.declared.awaited.FieldNames.{FieldNames}
use Rattle.imap_grammar.specs.declared.awaited.Awaited.TheVariants as awaited
use Rattle.imap_grammar.specs.declared.awaited.Next.{Next}
use Rattle.imap_grammar.specs.declared.awaited.Next.TheVariants as next
use Rattle.imap_grammar.specs.declared.fetch.Step.{Step}
use Rattle.imap_grammar.specs.declared.fetch.Step.TheVariants.{Read, Awaits}
use Rattle.imap_grammar.specs.Fetching.{IsFetchAtt, IsPartial}
use Rattle.imap_grammar.specs.Awaiting.{Comes, IsAfterItems}
use Rattle.imap_grammar.specs.FetchParts.{with_items, IsAfterThese, IsAfterStep, Goes, StepComes, after_partial, IsSectionEnd}
use Rattle.imap_grammar.proofs.CommandSteps.{comes_on, hands_on}

-- ---- answers

-- want of memory, handed on
pub memory_on : {T : Type 0} (P : T → Type 0) (Q : Stop → Type 0) (r : Result T Stop) (s : Stop) → IsErrAnd r (λ y. y ≡ s) → s ≡ Memory → Q Memory → MatchResult r P Q
memory_on P Q r s failed e q = passes_on P Q r s failed (subst (λ z. Q z) (sym e) q)

-- what comes of the rest comes of the text
pub goes_on : {P Q : List ℕ → Command → Type 0} {text mid : List ℕ} (utf8 : Bool) (step : Step) (rest : List ℕ) → Leaves P text Q mid → Goes utf8 Q mid step rest → Goes utf8 P text step rest
goes_on {P} {Q} {text} {mid} utf8 (Read f) rest l goes = leaves_on P Q (IsAfterStep utf8 (Read f)) text mid rest l goes
goes_on {P} {Q} {text} {mid} utf8 (Awaits size so_far) rest l goes = comes_on utf8 P Q text mid (next.Awaits size (awaited.FieldName so_far)) rest l goes

pub steps_on : {P Q : List ℕ → Command → Type 0} {text mid : List ℕ} (utf8 : Bool) (r : Result (Step × Bor (List ℕ)) Stop) → Leaves P text Q mid
    → MatchResult r (λ x. Goes utf8 Q mid x.0 x.1.now) (λ stop. StopsReading Q never mid stop) → MatchResult r (λ x. Goes utf8 P text x.0 x.1.now) (λ stop. StopsReading P never text stop)
steps_on {P} {Q} {text} {mid} utf8 (Ok x) l h = goes_on utf8 x.0 x.1.now l h
steps_on {P} {Q} {text} {mid} utf8 (Err stop) l h = (here l).stops never stop h

-- a step after another part
pub step_left : {L Q : List ℕ → Command → Type 0} {text mid : List ℕ} {step is : Step} (utf8 : Bool) (rest : List ℕ) → Leaves L text Q mid → step ≡ is → Goes utf8 Q mid step rest → Goes utf8 L text is rest
step_left {L} {Q} {text} {mid} {step} {is} utf8 rest l e goes = subst (λ z. Goes utf8 L text z rest) e (goes_on utf8 step rest l goes)

-- what is left after a step
step_leaves : (utf8 : Bool) (L : List ℕ → Command → Type 0) (text : List ℕ) (step : Step) (rest : List ℕ) → Goes utf8 L text step rest → Leaves L text (IsAfterStep utf8 step) rest
step_leaves utf8 L text (Read f) rest goes = goes
step_leaves utf8 L text (Awaits size so_far) rest goes = goes.2

-- a step was read, and what follows it
pub step_comes : (utf8 : Bool) (L : List ℕ → Command → Type 0) (text mid : List ℕ) (step : Step) (r : Result (Next × Bor (List ℕ)) Stop) → Goes utf8 L text step mid
    → MatchResult r (λ x. StepComes utf8 step mid x.0 x.1.now) (λ stop. StopsReading (IsAfterStep utf8 step) never mid stop) → MatchResult r (λ x. Comes utf8 L text x.0 x.1.now) (λ stop. StopsReading L never text stop)
step_comes utf8 L text mid (Read f) r goes h = hands_on utf8 r goes h
step_comes utf8 L text mid (Awaits size so_far) (Ok x) goes h =
    subst (λ z. Comes utf8 L text z x.1.now) (sym h.0) (subst (λ z. Comes utf8 L text (next.Awaits size (awaited.FieldName so_far)) z) (sym h.1) goes)
step_comes utf8 L text mid (Awaits size so_far) (Err stop) goes h = (here goes.2).stops never stop h

-- the step is this one
pub step_awaits : {step : Step} {size : ℕ} {so_far : FieldNames} (utf8 : Bool) (text : List ℕ) → step ≡ Awaits size so_far → StepComes utf8 step text (next.Awaits size (awaited.FieldName so_far)) text
step_awaits {step} {size} {so_far} utf8 text e = subst (λ z. StepComes utf8 z text (next.Awaits size (awaited.FieldName so_far)) text) (sym e) (refl, refl)

pub step_reads : {step is : Step} (utf8 : Bool) (text : List ℕ) (r : Result (Next × Bor (List ℕ)) Stop) → step ≡ is
    → MatchResult r (λ x. StepComes utf8 is text x.0 x.1.now) (λ stop. StopsReading (IsAfterStep utf8 is) never text stop)
    → MatchResult r (λ x. StepComes utf8 step text x.0 x.1.now) (λ stop. StopsReading (IsAfterStep utf8 step) never text stop)
step_reads {step} {is} utf8 text r e h = subst (λ z. MatchResult r (λ x. StepComes utf8 z text x.0 x.1.now) (λ stop. StopsReading (IsAfterStep utf8 z) never text stop)) (sym e) h

-- the rest is shorter than a text of which an octet was read before
pub step_shortens : {text whole : List ℕ} {x : ℕ} (utf8 : Bool) (L : List ℕ → Command → Type 0) (step : Step) (rest : List ℕ) → Goes utf8 L text step rest → whole ≡ x ∷ text → length rest < length whole
step_shortens {text} {whole} {x} utf8 L step rest goes e =
    let l = step_leaves utf8 L text step rest goes in
    let sum : length text ≡ length l.front + length rest = ap length l.whole ∙ length-append l.front rest in
    let more : length whole ≡ length (x ∷ text) = ap length e in
    omega (arith, sum, more)

-- the items were put last
pub items_read : {L : List ℕ → Command → Type 0} {text : List ℕ} {rest : List ℕ} {made : Fetching} (utf8 : Bool) (f : Fetching) (items : List FetchItem) → made ≡ with_items f items
    → Leaves L text (IsAfterThese utf8 f items) rest → Goes utf8 L text (Read made) rest
items_read {L} {text} {rest} utf8 f items e l = subst (λ z. Leaves L text (IsAfterStep utf8 (Read z)) rest) (sym e) l

pub put_on : (f : Fetching) {g h : Fetching} (a b : List FetchItem) → g ≡ with_items f a → h ≡ with_items g b → h ≡ with_items f (a ++ b)
put_on f a b first second =
    second ∙ (ap (λ z. with_items z b) first ∙ ap (λ (z : List FetchItem). with_all z) (append_assoc f.items a b))
  where
    with_all : List FetchItem → Fetching
    with_all z = record { uid = f.uid; set = f.set; items = z; listed = f.listed }

-- ---- octets with which no word begins

upper_low : (x : ℕ) → x < 97 → upper x ≡ x
upper_low x l = cond-false (nat_lt 96 x && nat_lt x 123) (x - 32) x (none (nat_lt 96 x) (nat_lt x 123) (λ e. omega (arith, l, ltb-true 96 x e)))
  where
    none : (a b : Bool) → (a ≡ true → ⊥) → a && b ≡ false
    none true b h = absurd (h refl)
    none false b h = refl

pub digit_low : (x : ℕ) → is_digit x ≡ true → x < 58
unfolding is_digit
digit_low x e = ltb-true x 58 (and_parts (nat_lt 47 x) (nat_lt x 58) e).1

abbrev pub letter_first : List ℕ → Bool
letter_first [] = false
letter_first (x ∷ xs) = nat_lt 64 x && nat_lt x 91

-- words begin with letters
pub letters_never : {V : Type 0} (table : List (Named V)) (x : ℕ) → x < 97 → (64 < x → x < 91 → ⊥) → list_all (λ (e : Named V). letter_first e.word) table ≡ true → NeverAt (IsWordOf table) x
letters_never {V} table x low none test =
    word_never table x (pass-weaker (λ (e : Named V). letter_first e.word) (λ (e : Named V). begins_other (upper x) e.word) (λ (e : Named V). other e.word) table test)
  where
    other : (word : List ℕ) → letter_first word ≡ true → begins_other (upper x) word ≡ true
    other [] letter = letter
    other (y ∷ word) letter =
        let parts = and_parts (nat_lt 64 y) (nat_lt y 91) letter in
        let is_x : upper x ≡ x = upper_low x low in
        ap not (ne_eqb (upper x) y (λ same. none (omega (arith, is_x, same, ltb-true 64 y parts.0)) (omega (arith, is_x, same, ltb-true y 91 parts.1))))

pub number_none : (x : ℕ) → is_digit x ≡ false → NeverAt IsNonZero x
number_none x bad a b v more is e = number_never x bad a b v more is.is_number e

-- ---- after an item

-- a space, what closes a list, and the line's end don't pass
abbrev pub Ends : (ℕ → Bool) → Type 0
Ends p = (p 32 ≡ false) × (p 41 ≡ false) × (p 13 ≡ false)

items_avoid : (p : ℕ → Bool) → Ends p → (listed utf8 by_uid : Bool) (set : List (Option ℕ × Option ℕ)) (items : List FetchItem) → Avoids p (IsAfterItems listed utf8 by_uid set items)
items_avoid p ends true utf8 by_uid set items =
    then_avoids p (IsMoreThan IsSpace (IsFetchAtt utf8) IsCloseParenthesis items) _ (more_avoids IsSpace (IsFetchAtt utf8) IsCloseParenthesis p items (octet_avoids p 32 ends.0) (octet_avoids p 41 ends.1))
items_avoid p ends false utf8 by_uid set items = then_avoids p IsCrlf _ (then_avoids p (IsOctet 13) (λ _. IsOctet 10) (octet_avoids p 13 ends.2))

pub items_viable : (listed utf8 by_uid : Bool) (set : List (Option ℕ × Option ℕ)) (items : List FetchItem) → IsViable (IsAfterItems listed utf8 by_uid set items) []
items_viable true utf8 by_uid set items = then_viable (IsMoreThan IsSpace (IsFetchAtt utf8) IsCloseParenthesis items) _ (more_viable IsSpace (IsFetchAtt utf8) IsCloseParenthesis items (octet_viable 41)) (λ all. then_viable IsCrlf _ crlf_viable (λ _. is_viable _))
items_viable false utf8 by_uid set items = then_viable IsCrlf _ crlf_viable (λ _. is_viable _)

module _ (utf8 : Bool) (f : Fetching) where
  pub these_avoid : (p : ℕ → Bool) → Ends p → (items : List FetchItem) → Avoids p (IsAfterThese utf8 f items)
  these_avoid p ends items = items_avoid p ends f.listed utf8 f.uid f.set.ranges (f.items ++ items)

  pub these_viable : (items : List FetchItem) → IsViable (IsAfterThese utf8 f items) []
  these_viable items = items_viable f.listed utf8 f.uid f.set.ranges (f.items ++ items)

-- ---- which octets

pub dot_no_digit : is_digit 46 ≡ false
unfolding is_digit
dot_no_digit = refl

angle_no_digit : is_digit 62 ≡ false
unfolding is_digit
angle_no_digit = refl

abbrev pub Closing : ℕ → ℕ → List ℕ → ℕ × ℕ → Type 0
Closing from most = After (IsOctet 62) (Is (from, most))

abbrev pub Most : ℕ → List ℕ → ℕ × ℕ → Type 0
Most from = Then IsNonZero (Closing from)

pub close_viable : (from most : ℕ) → IsViable (Closing from most) []
close_viable from most = let pair : ℕ × ℕ = (from, most) in then_viable (IsOctet 62) (λ _. Is pair) (octet_viable 62) (λ _. is_viable pair)

pub most_viable : (from : ℕ) → IsViable (Most from) []
most_viable from = then_viable IsNonZero _ non_zero_viable (λ most. close_viable from most)

pub dot_viable : (from : ℕ) → IsViable (After (IsOctet 46) (Most from)) []
dot_viable from = then_viable (IsOctet 46) _ (octet_viable 46) (λ _. most_viable from)

pub from_viable : IsViable (Then IsNumber32 (λ from. After (IsOctet 46) (Most from))) []
from_viable = then_viable IsNumber32 _ number_viable (λ from. dot_viable from)

pub dot_avoids : (from : ℕ) → Avoids is_digit (After (IsOctet 46) (Most from))
dot_avoids from = then_avoids is_digit (IsOctet 46) (λ _. Most from) (octet_avoids is_digit 46 dot_no_digit)

pub close_avoids : (from most : ℕ) → Avoids is_digit (Closing from most)
close_avoids from most = let pair : ℕ × ℕ = (from, most) in then_avoids is_digit (IsOctet 62) (λ _. Is pair) (octet_avoids is_digit 62 angle_no_digit)

pub partial_viable : IsViable (Maybe IsPartial) []
partial_viable = record { rest = []; value = None; is_word = inl (refl, refl) }

pub partial_more : (text : List ℕ) → length text ≡ 0 → IsViable (Maybe IsPartial) text
partial_more text e = subst (λ z. IsViable (Maybe IsPartial) z) (sym (no_octets text e)) partial_viable

abbrev pub SomePart : List ℕ → Option (ℕ × ℕ) → Type 0
SomePart = Then IsPartial (λ v. Is (Some v))

part_over : (u : ℕ × ℕ) (b : List ℕ) → BeginsIn (never u) b → BeginsIn (after_partial (Some u)) b
part_over u [] h = h
part_over u (y ∷ b) h = h

module _ (text : List ℕ) (x : ℕ) (xs : List ℕ) (e : text ≡ x ∷ xs) where
  pub partial_none : (x ≡ 60 → ⊥) → Reads (Maybe IsPartial) after_partial text None text
  partial_none other = subst (λ z. Reads (Maybe IsPartial) after_partial z None z) (sym e) (nothing_reads None SomePart after_partial x xs (seq_never IsPartial _ x (then_never 60 x _ other)))

  pub partial_stops : (stop : Stop) → x ≡ 60 → StopsReading IsPartial never text stop → StopsReading (Maybe IsPartial) after_partial text stop
  partial_stops stop same stops =
      let at : text ≡ 60 ∷ xs = e ∙ ap (λ z. z ∷ xs) same in
      subst (λ z. StopsReading (Maybe IsPartial) after_partial z stop) (sym at)
      (something_stops None SomePart after_partial 60 xs stop refl (subst (λ z. StopsReading SomePart after_partial z stop) at (mapped_stops IsPartial Some never after_partial text stop part_over stops)))

  pub partial_reads : (v : ℕ × ℕ) (rest : List ℕ) → x ≡ 60 → Reads IsPartial never text v rest → Reads (Maybe IsPartial) after_partial text (Some v) rest
  partial_reads v rest same r =
      let at : text ≡ 60 ∷ xs = e ∙ ap (λ z. z ∷ xs) same in
      subst (λ z. Reads (Maybe IsPartial) after_partial z (Some v) rest) (sym at)
      (something_reads None SomePart after_partial 60 xs (Some v) rest refl (subst (λ z. Reads SomePart after_partial z (Some v) rest) at (mapped_reads IsPartial Some never after_partial text rest v part_over r)))

-- ---- the end of a section

module _ (utf8 : Bool) (f : Fetching) (peek : Bool) (path : List ℕ) (part : SectionPart) where
  pub partial_avoids : (v : Option (ℕ × ℕ)) → Avoids (after_partial v) (IsAfterThese utf8 f (item.Section peek path part v ∷ []))
  partial_avoids None = these_avoid utf8 f (after_partial None) (refl, refl, refl) (item.Section peek path part None ∷ [])
  partial_avoids (Some p) = these_avoid utf8 f (after_partial (Some p)) (refl, refl, refl) (item.Section peek path part (Some p) ∷ [])

  pub after_close_viable : IsViable (Then (Maybe IsPartial) (λ v. IsAfterThese utf8 f (item.Section peek path part v ∷ []))) []
  after_close_viable = then_viable (Maybe IsPartial) _ partial_viable (λ v. these_viable utf8 f (item.Section peek path part v ∷ []))

  pub end_avoids : (p : ℕ → Bool) → p 93 ≡ false → Avoids p (IsSectionEnd utf8 f peek path part)
  end_avoids p e = then_avoids p (IsOctet 93) _ (octet_avoids p 93 e)

  pub end_viable : IsViable (IsSectionEnd utf8 f peek path part) []
  end_viable = then_viable (IsOctet 93) _ (octet_viable 93) (λ _. after_close_viable)
