-- The steps of reading a section.
use Rattle.std.proofs.Common.{◌≡◌, ℕ, ◌<◌, Bool, true, false, List, [], ◌∷◌, ◌++◌, length, inl, inr, refl, sym, subst, arith}
use Rattle.imap_words.specs.Languages.{Then, After, Or, Is, IsOctet, IsMoreThan, IsViable, Maybe}
use Rattle.imap_words.specs.Reading.{never, Reads, StopsReading}
use Rattle.imap_words.specs.Going.{Leaves}
use Rattle.imap_words.specs.declared.stop.Stop.{Stop}
use Rattle.imap_words.specs.declared.stop.Stop.TheVariants.{More}
use Rattle.imap_words.specs.Tokens.{IsNonZero, IsSpace, is_digit}
use Rattle.imap_words.specs.Keywords.{IsTable, IsWordOf}
use Rattle.imap_words.proofs.Passing.{no_octets}
use Rattle.imap_words.proofs.Composing.{Avoids, NeverAt}
use Rattle.imap_words.proofs.TokenSteps.{octet_viable, non_zero_viable}
use Rattle.imap_words.proofs.Going.{Within, ends_at, octet_avoids, then_avoids, then_viable, then_never, never_avoids}
use Rattle.imap_words.proofs.Choosing.{octet_at, seq_never}
use Rattle.imap_words.proofs.Starting.{or_never}
use Rattle.imap_words.proofs.Leaving.{here, leaves_all, leaves_then}
use Rattle.imap_words.proofs.KeywordSteps.{word_viable}
use Rattle.imap_words.proofs.TableSteps.{is_table}
use Rattle.imap_grammar.specs.declared.command.Command.{Command}
use Rattle.imap_grammar.specs.declared.command.FetchItem.TheVariants as item
use Rattle.imap_grammar.specs.declared.command.SectionPart.{SectionPart}
use Rattle.imap_grammar.specs.declared.command.SectionPart.TheVariants as part
use Rattle.imap_grammar.specs.declared.words.SectionWord.{SectionWord}
use Rattle.imap_grammar.specs.declared.words.SectionWord.TheVariants as section
use Rattle.imap_grammar.specs.declared.awaited.Fetching.{Fetching}
use Rattle.imap_grammar.specs.declared.fetch.Begun.{Begun}
use Rattle.imap_grammar.specs.Fetching.{SectionName, IsHeaderList, IsSectionText, IsSectionMsgtext, IsSectionPart, IsSectionSpec, IsSection, IsNothing, IsPartial, IsAfterWord, text_words, after_section_word}
use Rattle.imap_grammar.specs.FetchParts.{with_number, IsAfterThese, IsSectionEnd, AreNames, IsAfterText, IsText, IsAfterNumbers, AreMoreNumbers, AreNumbers, IsSectionOf}
use Rattle.imap_grammar.proofs.Sames.{Same, same_self, same_on, second_same, then_apart, is_then, or_same, or_then, more_steps, avoids_same, viable_same, never_same, or_avoids, left_viable, leaves_same, leaves_left, leaves_right}
use Rattle.imap_grammar.proofs.FetchEnds.{letters_never, dot_no_digit, digit_low, number_none, end_avoids, end_viable}
use Rattle.imap_grammar.proofs.NameListSteps.{list_viable}

-- A word is told, and then something follows.
module _ {V U W : Type 0} (P : List ℕ → V → Type 0) (f : V → U) (C : U → List ℕ → W → Type 0) where
  pub told : Same (Then (Then P (λ v. Is (f v))) C) (Then P (λ v. C (f v)))
  told = same_on (Then (Then P (λ v. Is (f v))) C) (Then P (λ v. Then (Is (f v)) C)) (Then P (λ v. C (f v))) (then_apart P (λ v. Is (f v)) C) (second_same P (λ v. Then (Is (f v)) C) (λ v. C (f v)) (λ v. is_then (f v) C))

-- ---- words of a section

text_table : (after_numbers : Bool) → IsTable (text_words after_numbers)
text_table false = is_table _ _ refl refl
text_table true = is_table _ _ refl refl

text_never : (after_numbers : Bool) (x : ℕ) → x < 97 → (64 < x → x < 91 → ⊥) → NeverAt (IsWordOf (text_words after_numbers)) x
text_never false x low none = letters_never (text_words false) x low none refl
text_never true x low none = letters_never (text_words true) x low none refl

module _ (utf8 : Bool) (f : Fetching) (peek : Bool) (path : List ℕ) where
  pub header_end : Same (IsAfterText utf8 f peek path section.Header) (IsSectionEnd utf8 f peek path part.Header)
  header_end = is_then part.Header (IsSectionEnd utf8 f peek path)

  pub text_end : Same (IsAfterText utf8 f peek path section.Text) (IsSectionEnd utf8 f peek path part.Text)
  text_end = is_then part.Text (IsSectionEnd utf8 f peek path)

  pub mime_end : Same (IsAfterText utf8 f peek path section.Mime) (IsSectionEnd utf8 f peek path part.Mime)
  mime_end = is_then part.Mime (IsSectionEnd utf8 f peek path)

  names_end : (negated : Bool) → Same (Then (After IsSpace (Then (IsHeaderList utf8) (λ names. Is (part.Fields names negated)))) (IsSectionEnd utf8 f peek path)) (AreNames utf8 f peek path negated)
  names_end negated =
      same_on (Then (After IsSpace (Then (IsHeaderList utf8) (λ names. Is (part.Fields names negated)))) (IsSectionEnd utf8 f peek path))
      (After IsSpace (Then (Then (IsHeaderList utf8) (λ names. Is (part.Fields names negated))) (IsSectionEnd utf8 f peek path)))
      (AreNames utf8 f peek path negated)
      (then_apart IsSpace (λ _. Then (IsHeaderList utf8) (λ names. Is (part.Fields names negated))) (IsSectionEnd utf8 f peek path))
      (second_same IsSpace (λ _. Then (Then (IsHeaderList utf8) (λ names. Is (part.Fields names negated))) (IsSectionEnd utf8 f peek path)) (λ _. Then (IsHeaderList utf8) (λ names. IsSectionEnd utf8 f peek path (part.Fields names negated)))
      (λ _. told (IsHeaderList utf8) (λ names. part.Fields names negated) (IsSectionEnd utf8 f peek path)))

  pub fields_end : Same (IsAfterText utf8 f peek path section.Fields) (AreNames utf8 f peek path false)
  fields_end = names_end false

  pub fields_not_end : Same (IsAfterText utf8 f peek path section.FieldsNot) (AreNames utf8 f peek path true)
  fields_not_end = names_end true

  -- the word is this one
  pub text_left : {is w : SectionWord} (Q : List ℕ → Command → Type 0) (text : List ℕ) → is ≡ w → Same (IsAfterText utf8 f peek path w) Q → Leaves (IsAfterText utf8 f peek path is) text Q text
  text_left {is} {w} Q text e same = subst (λ z. Leaves (IsAfterText utf8 f peek path z) text Q text) (sym e) (leaves_same Q (leaves_all (IsAfterText utf8 f peek path w) text) same)

  names_viable : (negated : Bool) → IsViable (AreNames utf8 f peek path negated) []
  names_viable negated = then_viable IsSpace _ (octet_viable 32) (λ _. list_viable utf8 f peek path negated)

  pub after_text_viable : (w : SectionWord) → IsViable (IsAfterText utf8 f peek path w) []
  after_text_viable section.Header = viable_same (IsAfterText utf8 f peek path section.Header) (IsSectionEnd utf8 f peek path part.Header) [] header_end (end_viable utf8 f peek path part.Header)
  after_text_viable section.Text = viable_same (IsAfterText utf8 f peek path section.Text) (IsSectionEnd utf8 f peek path part.Text) [] text_end (end_viable utf8 f peek path part.Text)
  after_text_viable section.Mime = viable_same (IsAfterText utf8 f peek path section.Mime) (IsSectionEnd utf8 f peek path part.Mime) [] mime_end (end_viable utf8 f peek path part.Mime)
  after_text_viable section.Fields = viable_same (IsAfterText utf8 f peek path section.Fields) (AreNames utf8 f peek path false) [] fields_end (names_viable false)
  after_text_viable section.FieldsNot = viable_same (IsAfterText utf8 f peek path section.FieldsNot) (AreNames utf8 f peek path true) [] fields_not_end (names_viable true)

  names_avoid : (p : ℕ → Bool) → p 32 ≡ false → (negated : Bool) → Avoids p (AreNames utf8 f peek path negated)
  names_avoid p e negated = then_avoids p IsSpace _ (octet_avoids p 32 e)

  pub after_text_avoids : (w : SectionWord) → Avoids (after_section_word w) (IsAfterText utf8 f peek path w)
  after_text_avoids section.Header =
      avoids_same (after_section_word section.Header) (IsAfterText utf8 f peek path section.Header) (IsSectionEnd utf8 f peek path part.Header) header_end (end_avoids utf8 f peek path part.Header (after_section_word section.Header) refl)
  after_text_avoids section.Fields = avoids_same (after_section_word section.Fields) (IsAfterText utf8 f peek path section.Fields) (AreNames utf8 f peek path false) fields_end (names_avoid (after_section_word section.Fields) refl false)
  after_text_avoids section.FieldsNot =
      avoids_same (after_section_word section.FieldsNot) (IsAfterText utf8 f peek path section.FieldsNot) (AreNames utf8 f peek path true) fields_not_end (names_avoid (after_section_word section.FieldsNot) refl true)
  after_text_avoids section.Text =
      avoids_same (after_section_word section.Text) (IsAfterText utf8 f peek path section.Text) (IsSectionEnd utf8 f peek path part.Text) text_end (end_avoids utf8 f peek path part.Text (after_section_word section.Text) refl)
  after_text_avoids section.Mime =
      avoids_same (after_section_word section.Mime) (IsAfterText utf8 f peek path section.Mime) (IsSectionEnd utf8 f peek path part.Mime) mime_end (end_avoids utf8 f peek path part.Mime (after_section_word section.Mime) refl)

  pub text_viable : (after_numbers : Bool) → IsViable (IsText after_numbers utf8 f peek path) []
  text_viable after_numbers = then_viable (IsWordOf (text_words after_numbers)) (IsAfterText utf8 f peek path) (word_viable (text_words after_numbers) (text_table after_numbers)) after_text_viable

-- ---- numbers

pub close_no_digit : is_digit 93 ≡ false
unfolding is_digit
close_no_digit = refl

-- a choice that two octets in a row decide
module _ {V W : Type 0} (A : List ℕ → V → Type 0) (S : List ℕ → W → Type 0) (B C : List ℕ → V → Type 0) where
  to_factored : Within (Or (Or A (After S B)) (After S C)) (Or A (After S (Or C B)))
  to_factored octets v (inl (inl a)) = inl a
  to_factored octets v (inl (inr b)) = inr (record { value = b.value; front = b.front; back = b.back; whole = b.whole; first = b.first; second = inr b.second })
  to_factored octets v (inr c) = inr (record { value = c.value; front = c.front; back = c.back; whole = c.whole; first = c.first; second = inl c.second })

  from_factored : Within (Or A (After S (Or C B))) (Or (Or A (After S B)) (After S C))
  from_factored octets v (inl a) = inl (inl a)
  from_factored octets v (inr is) = by_second is.second
    where
      by_second : Or C B is.back v → Or (Or A (After S B)) (After S C) octets v
      by_second (inl c) = inr (record { value = is.value; front = is.front; back = is.back; whole = is.whole; first = is.first; second = c })
      by_second (inr b) = inl (inr (record { value = is.value; front = is.front; back = is.back; whole = is.whole; first = is.first; second = b }))

  pub factored : Same (Or (Or A (After S B)) (After S C)) (Or A (After S (Or C B)))
  factored = (to_factored, from_factored)

module _ (utf8 : Bool) (f : Fetching) (peek : Bool) (path : List ℕ) where
  -- the section's end, or a dot and more
  abbrev pub Dotted : List ℕ → Command → Type 0
  Dotted = Or (AreNumbers utf8 f peek path) (IsText true utf8 f peek path)

  abbrev pub EndOrDot : List ℕ → Command → Type 0
  EndOrDot = Or (IsSectionEnd utf8 f peek path part.Whole) (After (IsOctet 46) Dotted)

  pub more_numbers : Same (AreMoreNumbers utf8 f peek path) EndOrDot
  more_numbers =
      same_on (AreMoreNumbers utf8 f peek path) (Or (After IsNothing (IsAfterNumbers utf8 f peek path)) (After (IsOctet 46) (AreNumbers utf8 f peek path))) EndOrDot
      (more_steps (IsOctet 46) IsNonZero IsNothing (IsAfterNumbers utf8 f peek) path)
      (same_on (Or (After IsNothing (IsAfterNumbers utf8 f peek path)) (After (IsOctet 46) (AreNumbers utf8 f peek path))) (Or (IsAfterNumbers utf8 f peek path) (After (IsOctet 46) (AreNumbers utf8 f peek path))) EndOrDot
      (or_same (After IsNothing (IsAfterNumbers utf8 f peek path)) (IsAfterNumbers utf8 f peek path) (After (IsOctet 46) (AreNumbers utf8 f peek path)) (After (IsOctet 46) (AreNumbers utf8 f peek path))
      (is_then 0 (λ _. IsAfterNumbers utf8 f peek path)) (same_self (After (IsOctet 46) (AreNumbers utf8 f peek path))))
      (factored (IsSectionEnd utf8 f peek path part.Whole) (IsOctet 46) (IsText true utf8 f peek path) (AreNumbers utf8 f peek path)))

  pub more_numbers_avoid : Avoids is_digit (AreMoreNumbers utf8 f peek path)
  more_numbers_avoid =
      avoids_same is_digit (AreMoreNumbers utf8 f peek path) EndOrDot more_numbers
      (or_avoids is_digit (IsSectionEnd utf8 f peek path part.Whole) (After (IsOctet 46) Dotted) (end_avoids utf8 f peek path part.Whole is_digit close_no_digit) (then_avoids is_digit (IsOctet 46) (λ _. Dotted) (octet_avoids is_digit 46 dot_no_digit)))

  pub more_numbers_viable : IsViable (AreMoreNumbers utf8 f peek path) []
  more_numbers_viable = viable_same (AreMoreNumbers utf8 f peek path) EndOrDot [] more_numbers (left_viable (IsSectionEnd utf8 f peek path part.Whole) (After (IsOctet 46) Dotted) [] (end_viable utf8 f peek path part.Whole))

  pub more_numbers_open : (text : List ℕ) → length text ≡ 0 → IsViable (AreMoreNumbers utf8 f peek path) text
  more_numbers_open text e = subst (λ z. IsViable (AreMoreNumbers utf8 f peek path) z) (sym (no_octets text e)) more_numbers_viable

-- at a number, a word or the end
module _ (utf8 : Bool) (f : Fetching) (peek : Bool) (path : List ℕ) where
  pub numbers_avoid : (n : ℕ) → Avoids is_digit (AreMoreNumbers utf8 f peek (path ++ n ∷ []))
  numbers_avoid n = more_numbers_avoid utf8 f peek (path ++ n ∷ [])

  pub numbers_follow : (n : ℕ) → IsViable (AreMoreNumbers utf8 f peek (path ++ n ∷ [])) []
  numbers_follow n = more_numbers_viable utf8 f peek (path ++ n ∷ [])

  pub numbers_viable : IsViable (AreNumbers utf8 f peek path) []
  numbers_viable = then_viable IsNonZero _ non_zero_viable numbers_follow

  numbers_never : (x : ℕ) → is_digit x ≡ false → NeverAt (AreNumbers utf8 f peek path) x
  numbers_never x e = seq_never IsNonZero _ x (number_none x e)

  words_never : (after_numbers : Bool) (x : ℕ) → is_digit x ≡ true → NeverAt (IsText after_numbers utf8 f peek path) x
  words_never after_numbers x e =
      let low = digit_low x e in
      seq_never (IsWordOf (text_words after_numbers)) _ x (text_never after_numbers x (omega (arith, low)) (λ l h. omega (arith, l, low)))

  pub dotted_open : (text : List ℕ) → length text ≡ 0 → IsViable (Dotted utf8 f peek path) text
  dotted_open text e = subst (λ z. IsViable (Dotted utf8 f peek path) z) (sym (no_octets text e)) (left_viable (AreNumbers utf8 f peek path) (IsText true utf8 f peek path) [] numbers_viable)

  pub numbers_stop : {L : List ℕ → Command → Type 0} {text rest : List ℕ} → Leaves L text (AreMoreNumbers utf8 f peek path) rest → length rest ≡ 0 → StopsReading L never text More
  numbers_stop {L} {text} {rest} l e = (here l).stops never More (more_numbers_open utf8 f peek path rest e)

  pub dotted_stops : {L : List ℕ → Command → Type 0} {text rest : List ℕ} → Leaves L text (Dotted utf8 f peek path) rest → length rest ≡ 0 → StopsReading L never text More
  dotted_stops {L} {text} {rest} l e = (here l).stops never More (dotted_open rest e)

  module _ {L : List ℕ → Command → Type 0} {text rest : List ℕ} (l : Leaves L text (AreMoreNumbers utf8 f peek path) rest) (x : ℕ) (xs : List ℕ) (e : rest ≡ x ∷ xs) where
    pub numbers_close : (x ≡ 46 → ⊥) → Leaves L text (IsSectionEnd utf8 f peek path part.Whole) rest
    numbers_close other =
        leaves_left (IsSectionEnd utf8 f peek path part.Whole) (After (IsOctet 46) (Dotted utf8 f peek path)) (leaves_same (EndOrDot utf8 f peek path) l (more_numbers utf8 f peek path)) x xs e (then_never 46 x (λ _. Dotted utf8 f peek path) other)

    pub numbers_dot : x ≡ 46 → Leaves L text (Dotted utf8 f peek path) xs
    numbers_dot same =
        leaves_then
        (leaves_right (IsSectionEnd utf8 f peek path part.Whole) (After (IsOctet 46) (Dotted utf8 f peek path)) (leaves_same (EndOrDot utf8 f peek path) l (more_numbers utf8 f peek path)) x xs e (then_never 93 x _ (λ bad. omega (arith, same, bad))))
        (octet_at rest x 46 xs e same) (λ _. never_avoids _)

  module _ {L : List ℕ → Command → Type 0} {text rest : List ℕ} (l : Leaves L text (Dotted utf8 f peek path) rest) (x : ℕ) (xs : List ℕ) (e : rest ≡ x ∷ xs) where
    pub next_number : is_digit x ≡ true → Leaves L text (AreNumbers utf8 f peek path) rest
    next_number digit = leaves_left (AreNumbers utf8 f peek path) (IsText true utf8 f peek path) l x xs e (words_never true x digit)

    pub next_text : is_digit x ≡ false → Leaves L text (IsText true utf8 f peek path) rest
    next_text other = leaves_right (AreNumbers utf8 f peek path) (IsText true utf8 f peek path) l x xs e (numbers_never x other)

  -- ---- what stands between the brackets

  abbrev pub Bracketed : List ℕ → Command → Type 0
  Bracketed = Or (IsSectionEnd utf8 f peek path part.Whole) (Or (IsText false utf8 f peek path) (AreNumbers utf8 f peek path))

  pub bracketed_viable : IsViable Bracketed []
  bracketed_viable = left_viable (IsSectionEnd utf8 f peek path part.Whole) (Or (IsText false utf8 f peek path) (AreNumbers utf8 f peek path)) [] (end_viable utf8 f peek path part.Whole)

  pub bracketed_open : (text : List ℕ) → length text ≡ 0 → IsViable Bracketed text
  bracketed_open text e = subst (λ z. IsViable Bracketed z) (sym (no_octets text e)) bracketed_viable

  pub bracketed_stops : {L : List ℕ → Command → Type 0} {text rest : List ℕ} → Leaves L text Bracketed rest → length rest ≡ 0 → StopsReading L never text More
  bracketed_stops {L} {text} {rest} l e = (here l).stops never More (bracketed_open rest e)

  module _ {L : List ℕ → Command → Type 0} {text rest : List ℕ} (l : Leaves L text Bracketed rest) (x : ℕ) (xs : List ℕ) (e : rest ≡ x ∷ xs) where
    bracket_no_digit : x ≡ 93 → is_digit x ≡ false
    bracket_no_digit same = subst (λ z. is_digit z ≡ false) (sym same) close_no_digit

    pub whole_section : x ≡ 93 → Leaves L text (IsSectionEnd utf8 f peek path part.Whole) rest
    whole_section same =
        leaves_left (IsSectionEnd utf8 f peek path part.Whole) (Or (IsText false utf8 f peek path) (AreNumbers utf8 f peek path)) l x xs e
        (or_never (IsText false utf8 f peek path) (AreNumbers utf8 f peek path) x
        (seq_never (IsWordOf (text_words false)) _ x (text_never false x (omega (arith, same)) (λ low high. omega (arith, same, high)))) (numbers_never x (bracket_no_digit same)))

    part_section : (x ≡ 93 → ⊥) → Leaves L text (Or (IsText false utf8 f peek path) (AreNumbers utf8 f peek path)) rest
    part_section other = leaves_right (IsSectionEnd utf8 f peek path part.Whole) (Or (IsText false utf8 f peek path) (AreNumbers utf8 f peek path)) l x xs e (then_never 93 x _ other)

    pub number_section : (x ≡ 93 → ⊥) → is_digit x ≡ true → Leaves L text (AreNumbers utf8 f peek path) rest
    number_section other digit = leaves_right (IsText false utf8 f peek path) (AreNumbers utf8 f peek path) (part_section other) x xs e (words_never false x digit)

    pub text_section : (x ≡ 93 → ⊥) → is_digit x ≡ false → Leaves L text (IsText false utf8 f peek path) rest
    text_section other digit = leaves_left (IsText false utf8 f peek path) (AreNumbers utf8 f peek path) (part_section other) x xs e (numbers_never x digit)

-- a number was put last
pub number_put : {L : List ℕ → Command → Type 0} {text mid : List ℕ} {made : Begun} (utf8 : Bool) (b : Begun) (n : ℕ) → made ≡ with_number b n
    → Leaves L text (AreMoreNumbers utf8 b.fetching b.peek (b.path ++ n ∷ [])) mid → Leaves L text (AreMoreNumbers utf8 made.fetching made.peek made.path) mid
number_put {L} {text} {mid} utf8 b n e l = subst (λ (z : Begun). Leaves L text (AreMoreNumbers utf8 z.fetching z.peek z.path) mid) (sym e) l

-- ---- the section

module _ (utf8 : Bool) (f : Fetching) (peek : Bool) where
  abbrev pub NameEnd : SectionName → List ℕ → Command → Type 0
  NameEnd s = IsSectionEnd utf8 f peek s.path s.part

  abbrev pub AfterClose : SectionName → List ℕ → Command → Type 0
  AfterClose s = Then (Maybe IsPartial) (λ partial. IsAfterThese utf8 f (item.Section peek s.path s.part partial ∷ []))

  abbrev pub at_part : List ℕ → SectionPart → SectionName
  at_part numbers p = record { path = numbers; part = p }

  abbrev pub all_of : SectionName
  all_of = at_part [] part.Whole

  abbrev pub Numbered : List ℕ → SectionName → Type 0
  Numbered = Then IsSectionPart (λ numbers. Or (Is (at_part numbers part.Whole)) (After (IsOctet 46) (Then (IsSectionText utf8) (λ p. Is (at_part numbers p)))))

  abbrev pub Named : List ℕ → SectionName → Type 0
  Named = Or (Is all_of) (IsSectionSpec utf8)

  -- after numbers
  after_numbers : (numbers : List ℕ)
      → Same (Then (Or (Is (at_part numbers part.Whole)) (After (IsOctet 46) (Then (IsSectionText utf8) (λ p. Is (at_part numbers p))))) NameEnd) (IsAfterNumbers utf8 f peek numbers)
  after_numbers numbers =
      let whole : SectionName = at_part numbers part.Whole in
      same_on _ _ _ (or_then (Is whole) (After (IsOctet 46) (Then (IsSectionText utf8) (λ p. Is (at_part numbers p)))) NameEnd)
      (or_same _ (IsSectionEnd utf8 f peek numbers part.Whole) _ (After (IsOctet 46) (IsText true utf8 f peek numbers)) (is_then whole NameEnd)
      (same_on _ _ _ (then_apart (IsOctet 46) (λ _. Then (IsSectionText utf8) (λ p. Is (at_part numbers p))) NameEnd)
      (second_same (IsOctet 46) _ (λ _. IsText true utf8 f peek numbers) (λ _. same_on _ _ _ (told (IsSectionText utf8) (at_part numbers) NameEnd)
      (then_apart (IsWordOf (text_words true)) (IsAfterWord utf8) (IsSectionEnd utf8 f peek numbers))))))

  numbered_same : Same (Then Numbered NameEnd) (AreNumbers utf8 f peek [])
  numbered_same =
      same_on (Then Numbered NameEnd) (Then IsSectionPart (IsAfterNumbers utf8 f peek)) (AreNumbers utf8 f peek [])
      (same_on _ _ _ (then_apart IsSectionPart (λ numbers. Or (Is (at_part numbers part.Whole)) (After (IsOctet 46) (Then (IsSectionText utf8) (λ p. Is (at_part numbers p))))) NameEnd)
      (second_same IsSectionPart _ (IsAfterNumbers utf8 f peek) after_numbers))
      (then_apart IsNonZero (λ first. IsMoreThan (IsOctet 46) IsNonZero IsNothing (first ∷ [])) (IsAfterNumbers utf8 f peek))

  text_same : Same (Then (Then (IsSectionMsgtext utf8) (λ p. Is (at_part [] p))) NameEnd) (IsText false utf8 f peek [])
  text_same =
      same_on _ (Then (IsSectionMsgtext utf8) (IsSectionEnd utf8 f peek [])) _ (told (IsSectionMsgtext utf8) (at_part []) NameEnd) (then_apart (IsWordOf (text_words false)) (IsAfterWord utf8) (IsSectionEnd utf8 f peek []))

  named_same : Same (Then Named NameEnd) (Bracketed utf8 f peek [])
  named_same =
      same_on (Then Named NameEnd) (Or (Then (Is all_of) NameEnd) (Then (IsSectionSpec utf8) NameEnd)) (Bracketed utf8 f peek []) (or_then (Is all_of) (IsSectionSpec utf8) NameEnd)
      (or_same (Then (Is all_of) NameEnd) (IsSectionEnd utf8 f peek [] part.Whole) (Then (IsSectionSpec utf8) NameEnd) (Or (IsText false utf8 f peek []) (AreNumbers utf8 f peek [])) (is_then all_of NameEnd)
      (same_on (Then (IsSectionSpec utf8) NameEnd) (Or (Then (Then (IsSectionMsgtext utf8) (λ p. Is (at_part [] p))) NameEnd) (Then Numbered NameEnd)) (Or (IsText false utf8 f peek []) (AreNumbers utf8 f peek []))
      (or_then (Then (IsSectionMsgtext utf8) (λ p. Is (at_part [] p))) Numbered NameEnd) (or_same _ _ _ _ text_same numbered_same)))

  -- a name, and the bracket after it
  closed_same : Same (Then (Then Named (λ s. After (IsOctet 93) (Is s))) AfterClose) (Then Named NameEnd)
  closed_same =
      same_on _ _ _ (then_apart Named (λ s. After (IsOctet 93) (Is s)) AfterClose)
      (second_same Named (λ s. Then (After (IsOctet 93) (Is s)) AfterClose) NameEnd (λ s. same_on _ _ _ (then_apart (IsOctet 93) (λ _. Is s) AfterClose) (second_same (IsOctet 93) _ (λ _. AfterClose s) (λ _. is_then s AfterClose))))

  item_same : Same (IsSectionOf utf8 f peek) (Then (IsSection utf8) AfterClose)
  item_same =
      same_on _ _ _ (then_apart (IsSection utf8) (λ s. Then (Maybe IsPartial) (λ partial. Is (item.Section peek s.path s.part partial))) (λ i. IsAfterThese utf8 f (i ∷ [])))
      (second_same (IsSection utf8) _ AfterClose (λ s. told (Maybe IsPartial) (λ partial. item.Section peek s.path s.part partial) (λ i. IsAfterThese utf8 f (i ∷ []))))

  pub section_same : Same (IsSectionOf utf8 f peek) (After (IsOctet 91) (Bracketed utf8 f peek []))
  section_same =
      same_on (IsSectionOf utf8 f peek) (Then (IsSection utf8) AfterClose) (After (IsOctet 91) (Bracketed utf8 f peek [])) item_same
      (same_on _ _ _ (then_apart (IsOctet 91) (λ _. Then Named (λ s. After (IsOctet 93) (Is s))) AfterClose)
      (second_same (IsOctet 91) _ (λ _. Bracketed utf8 f peek []) (λ _. same_on _ _ _ closed_same named_same)))

  pub section_viable : IsViable (IsSectionOf utf8 f peek) []
  section_viable = viable_same (IsSectionOf utf8 f peek) (After (IsOctet 91) (Bracketed utf8 f peek [])) [] section_same (then_viable (IsOctet 91) _ (octet_viable 91) (λ _. bracketed_viable utf8 f peek []))

  pub section_never : (x : ℕ) → (x ≡ 91 → ⊥) → NeverAt (IsSectionOf utf8 f peek) x
  section_never x other = never_same x (IsSectionOf utf8 f peek) (After (IsOctet 91) (Bracketed utf8 f peek [])) section_same (then_never 91 x (λ _. Bracketed utf8 f peek []) other)

  pub section_avoids : (p : ℕ → Bool) → p 91 ≡ false → Avoids p (IsSectionOf utf8 f peek)
  section_avoids p e = avoids_same p (IsSectionOf utf8 f peek) (After (IsOctet 91) (Bracketed utf8 f peek [])) section_same (then_avoids p (IsOctet 91) (λ _. Bracketed utf8 f peek []) (octet_avoids p 91 e))

  module _ (text : List ℕ) where
    pub section_stops : (stop : Stop) → StopsReading (IsOctet 91) never text stop → StopsReading (IsSectionOf utf8 f peek) never text stop
    section_stops stop stops =
        ends_at never never stop (here (leaves_same (After (IsOctet 91) (Bracketed utf8 f peek [])) (leaves_all (IsSectionOf utf8 f peek) text) section_same)) stops (λ _. never_avoids _) (λ _. bracketed_viable utf8 f peek [])

    -- no numbers were read yet
    pub section_left : (rest path : List ℕ) → path ≡ [] → Reads (IsOctet 91) never text 91 rest → Leaves (IsSectionOf utf8 f peek) text (Bracketed utf8 f peek path) rest
    section_left rest path e r =
        subst (λ z. Leaves (IsSectionOf utf8 f peek) text (Bracketed utf8 f peek z) rest) (sym e)
        (leaves_then (leaves_same (After (IsOctet 91) (Bracketed utf8 f peek [])) (leaves_all (IsSectionOf utf8 f peek) text) section_same) r (λ _. never_avoids _))
