-- Of a text one front at most is what FETCH asks.
use Rattle.std.proofs.Common.{◌≡◌, ℕ, ◌==◌, ◌||◌, ◌&&◌, not, Bool, true, false, List, [], ◌∷◌, ◌++◌, None, Some, inl, inr, refl, sym, ap, ◌∙◌, subst, append_assoc, append-nil, arith}
use Rattle.std.proofs.lemmas.Bool.{both_ways, eqb-true, false_from_ne_true, not_from_false}
use Rattle.std.proofs.lemmas.Bool.Decides.{nat_tests}
use Rattle.std.proofs.lemmas.Grind.{common_steps}
use Rattle.std.proofs.lemmas.List.{append_cancel_left}
use Rattle.std.proofs.lemmas.List.Elements.{All-contains, Contains-append_left, Contains-append_right}
use Rattle.std.proofs.lemmas.List.Sums.{AllPass-from_list_all}
use Rattle.imap_words.specs.Languages.{Then, After, Or, Is, IsOctet, IsTail, IsList, Maybe}
use Rattle.imap_words.specs.Reading.{BeginsIn, never, always}
use Rattle.imap_words.specs.Tokens.{IsSpace, IsOpenParenthesis, IsNonZero, is_digit, is_astring_char, is_atom_char}
use Rattle.imap_words.specs.Keywords.{Named, IsWordOf}
use Rattle.imap_words.specs.declared.tokens.Kind.TheVariants.{Astring}
use Rattle.imap_words.proofs.Composing.{Avoids}
use Rattle.imap_words.proofs.Going.{octet_avoids, then_avoids, never_avoids}
use Rattle.imap_words.proofs.Handing.{Hands, hands_avoiding}
use Rattle.imap_words.proofs.TableSteps.{is_table, tells_longer, word_never}
use Rattle.imap_grammar.specs.Fetching.{SectionName, IsHeaderList, text_words, IsAfterWord, IsSectionMsgtext, IsSectionText, IsNothing, IsSectionPart, IsSectionSpec, IsSection, IsPartial, item_words, macro_words, IsSectionItem, IsAfterItem, IsFetchAtt, macro_items, IsFetchItems, after_item_word, after_section_word}
use Rattle.imap_grammar.specs.Commands.{at_octet}
use Rattle.imap_grammar.specs.declared.command.FetchItem.{FetchItem}
use Rattle.imap_grammar.specs.declared.command.FetchItem.TheVariants as item
use Rattle.imap_grammar.specs.declared.command.SectionPart.{SectionPart}
use Rattle.imap_grammar.specs.declared.command.SectionPart.TheVariants as part
use Rattle.imap_grammar.specs.declared.words.ItemWord.{ItemWord}
use Rattle.imap_grammar.specs.declared.words.ItemWord.TheVariants as word
use Rattle.imap_grammar.specs.declared.words.SectionWord.{SectionWord}
use Rattle.imap_grammar.specs.declared.words.SectionWord.TheVariants as section
use Rattle.imap_grammar.proofs.Optional.{avoids_at}
use Rattle.imap_grammar.proofs.FetchEnds.{letters_never, digit_low, dot_no_digit, number_none, Closing, dot_avoids, close_avoids}
use Rattle.imap_grammar.proofs.ItemSteps.{is_macro, item_says}
use Rattle.imap_grammar.proofs.CommandSteps.{space_avoids}
use Rattle.imap_grammar.proofs.Single.{Single, nothing_goes, any_single, within_single, over_one, Opens, then_opens, or_opens, octet_opens, other_than, opens_but, never_avoid, then_single, ends_single, read_single, is_single, is_hands, mapped_single, Parted, or_single, parted_from, parted_turned, parted_both, either_turned, nothing_single, nothing_hands, octet_single, list_single}
use Rattle.imap_grammar.proofs.SingleWords.{word_single, non_zero_single, non_zero_opens, number_single, space_single, header_name_single}
use Rattle.imap_grammar.proofs.SectionSteps.{close_no_digit}

-- ---- sections

-- what stands in a section
abbrev inside : ℕ → Bool
inside = other_than 93

close_ends : is_astring_char 41 ≡ false
unfolding is_atom_char is_astring_char
close_ends = refl

names_single : (utf8 : Bool) → Single never (IsHeaderList utf8)
names_single utf8 =
    read_single (octet_single 40) (λ _. list_single (at_octet 32) space_single (header_name_single utf8) (octet_single 41) (octet_opens (at_octet 32) 32 refl) (octet_avoids (at_octet 32) 41 refl) (λ v. space_avoids Astring) (λ v. octet_avoids is_astring_char 41 close_ends))

word_hands : (utf8 : Bool) (w : SectionWord) → Hands (after_section_word w) (always inside) (IsAfterWord utf8 w)
word_hands utf8 section.Header = is_hands (at_octet 46) (always inside) part.Header (over_one 46 inside refl)
word_hands utf8 section.Fields = hands_avoiding (at_octet 46) (always inside) (IsAfterWord utf8 section.Fields) (then_avoids (at_octet 46) IsSpace _ (octet_avoids (at_octet 46) 32 refl))
word_hands utf8 section.FieldsNot = hands_avoiding (λ x. false) (always inside) (IsAfterWord utf8 section.FieldsNot) (never_avoids (IsAfterWord utf8 section.FieldsNot))
word_hands utf8 section.Text = hands_avoiding (λ x. false) (always inside) (IsAfterWord utf8 section.Text) (never_avoids (IsAfterWord utf8 section.Text))
word_hands utf8 section.Mime = hands_avoiding (λ x. false) (always inside) (IsAfterWord utf8 section.Mime) (never_avoids (IsAfterWord utf8 section.Mime))

after_word_single : (utf8 : Bool) (w : SectionWord) → Single (always inside) (IsAfterWord utf8 w)
after_word_single utf8 section.Header = is_single part.Header
after_word_single utf8 section.Fields = read_single space_single (λ _. read_single (names_single utf8) (λ names. is_single (part.Fields names false)))
after_word_single utf8 section.FieldsNot = read_single space_single (λ _. read_single (names_single utf8) (λ names. is_single (part.Fields names true)))
after_word_single utf8 section.Text = is_single part.Text
after_word_single utf8 section.Mime = is_single part.Mime

msgtext_single : (utf8 : Bool) → Single (always inside) (IsSectionMsgtext utf8)
msgtext_single utf8 = then_single (word_single (text_words false) after_section_word (is_table _ _ refl refl) (tells_longer after_section_word (text_words false) refl)) (word_hands utf8) (after_word_single utf8)

text_single : (utf8 : Bool) → Single (always inside) (IsSectionText utf8)
text_single utf8 = then_single (word_single (text_words true) after_section_word (is_table _ _ refl refl) (tells_longer after_section_word (text_words true) refl)) (word_hands utf8) (after_word_single utf8)

msgtext_avoids : (utf8 : Bool) → Avoids is_digit (IsSectionMsgtext utf8)
msgtext_avoids utf8 = then_avoids is_digit (IsWordOf (text_words false)) _ (avoids_at is_digit (IsWordOf (text_words false)) (λ x e. letters_never (text_words false) x (omega (arith, digit_low x e)) (λ low high. omega (arith, low, digit_low x e)) refl))

text_avoids : (utf8 : Bool) → Avoids is_digit (IsSectionText utf8)
text_avoids utf8 = then_avoids is_digit (IsWordOf (text_words true)) _ (avoids_at is_digit (IsWordOf (text_words true)) (λ x e. letters_never (text_words true) x (omega (arith, digit_low x e)) (λ low high. omega (arith, low, digit_low x e)) refl))

-- ---- numbers of a section, and what follows them

abbrev named : List ℕ → SectionPart → SectionName
named numbers p = record { path = numbers; part = p }

module _ (utf8 : Bool) where
  abbrev AfterLiteral : List ℕ → List ℕ → SectionName → Type 0
  AfterLiteral numbers = Or (Is (named numbers part.Whole)) (After (IsOctet 46) (Then (IsSectionText utf8) (λ p. Is (named numbers p))))

  abbrev Tail : List ℕ → List ℕ → Type 0
  Tail = IsTail (IsOctet 46) IsNonZero IsNothing

  named_single : (numbers : List ℕ) → Single (always inside) (Then (IsSectionText utf8) (λ p. Is (named numbers p)))
  named_single numbers = mapped_single (named numbers) (text_single utf8) (λ u b h. h)

  after_single : (numbers : List ℕ) → Single (always inside) (AfterLiteral numbers)
  after_single numbers = nothing_single (named numbers part.Whole) (read_single (octet_single 46) (λ _. named_single numbers)) (then_opens inside (IsOctet 46) _ (octet_opens inside 46 refl))

  -- more numbers and what is after them don't begin with a digit, where none follows
  no_digit : (a b x : List ℕ) (ns numbers : List ℕ) (v : SectionName) → Tail a ns → AfterLiteral numbers b v → (BeginsIn inside x → ⊥) → BeginsIn is_digit (a ++ (b ++ x)) → ⊥
  no_digit a b x [] numbers v is (inl last) none begin = none (digit_inside x (subst (λ z. BeginsIn is_digit (z ++ x)) last.0 (subst (λ z. BeginsIn is_digit (z ++ (b ++ x))) is.1.0 begin)))
    where
      digit_inside : (xs : List ℕ) → BeginsIn is_digit xs → BeginsIn inside xs
      digit_inside [] h = h
      digit_inside (y ∷ ys) h = not_from_false (y == 93) (false_from_ne_true (y == 93) (λ e. omega (arith, digit_low y h, eqb-true y 93 e)))
  no_digit a b x [] numbers v is (inr more) none begin =
      then_avoids is_digit (IsOctet 46) _ (octet_avoids is_digit 46 dot_no_digit) b x v more (subst (λ z. BeginsIn is_digit (z ++ (b ++ x))) is.1.0 begin)
  no_digit a b x (n ∷ ns) numbers v is last none begin =
      octet_avoids is_digit 46 dot_no_digit is.1 (is.2 ++ (is.3 ++ (b ++ x))) is.0 is.5
      (subst (λ z. BeginsIn is_digit z) (ap (λ z. z ++ (b ++ x)) is.4 ∙ (append_assoc is.1 (is.2 ++ is.3) (b ++ x) ∙ ap (λ z. is.1 ++ z) (append_assoc is.2 is.3 (b ++ x)))) begin)

  -- a number and a word don't stand at the same place
  not_both : (b d x y : List ℕ) (m : ℕ) (ms numbers : List ℕ) (v : SectionName) → AfterLiteral numbers b v → Tail d (m ∷ ms) → b ++ x ≡ d ++ y → (BeginsIn inside x → ⊥) → ⊥
  not_both b d x y m ms numbers v (inl last) is e none =
      let more : x ≡ is.1 ++ (is.2 ++ (is.3 ++ y)) = ap (λ z. z ++ x) (sym last.0) ∙ (e ∙ (ap (λ z. z ++ y) is.4 ∙ (append_assoc is.1 (is.2 ++ is.3) y ∙ ap (λ z. is.1 ++ z) (append_assoc is.2 is.3 y)))) in
      none (subst (λ z. BeginsIn inside z) (sym more) (octet_opens inside 46 refl is.1 (is.2 ++ (is.3 ++ y)) is.0 is.5))
  not_both b d x y m ms numbers v (inr more) is e none =
      let apart : more.front ++ (more.back ++ x) ≡ is.1 ++ (is.2 ++ (is.3 ++ y))
      = sym (ap (λ z. z ++ x) more.whole ∙ append_assoc more.front more.back x) ∙ (e ∙ (ap (λ z. z ++ y) is.4 ∙ (append_assoc is.1 (is.2 ++ is.3) y ∙ ap (λ z. is.1 ++ z) (append_assoc is.2 is.3 y)))) in
      let following : more.back ++ x ≡ is.2 ++ (is.3 ++ y) = append_cancel_left is.1 _ _ (ap (λ z. z ++ (more.back ++ x)) (is.5.0 ∙ sym more.first.0) ∙ apart) in
      let s = more.second in
      text_avoids utf8 s.front (s.back ++ x) s.value s.first (subst (λ z. BeginsIn is_digit z) (sym following ∙ (ap (λ z. z ++ x) s.whole ∙ append_assoc s.front s.back x)) (non_zero_opens is.2 (is.3 ++ y) m is.6))

  -- the values are told of the numbers
  numbers_single : (told : List ℕ → List ℕ) (ns ms a b c d x y : List ℕ) (v w : SectionName) → Tail a ns → AfterLiteral (told ns) b v → Tail c ms → AfterLiteral (told ms) d w → a ++ (b ++ x) ≡ c ++ (d ++ y)
      → (BeginsIn inside x → ⊥) → (BeginsIn inside y → ⊥) → (a ++ b ≡ c ++ d) × (v ≡ w)
  numbers_single told [] [] a b c d x y v w is last other end e no_x no_y =
      let rest : b ++ x ≡ d ++ y = ap (λ z. z ++ (b ++ x)) (sym is.1.0) ∙ (e ∙ ap (λ z. z ++ (d ++ y)) other.1.0) in
      let same = (after_single (told [])).one b d x y v w last end rest no_x no_y in
      (ap (λ z. z ++ b) is.1.0 ∙ (same.0 ∙ ap (λ z. z ++ d) (sym other.1.0)), same.1)
  numbers_single told [] (m ∷ ms) a b c d x y v w is last other end e no_x no_y = absurd (not_both b c x (d ++ y) m ms (told []) v last other (ap (λ z. z ++ (b ++ x)) (sym is.1.0) ∙ e) no_x)
  numbers_single told (n ∷ ns) [] a b c d x y v w is last other end e no_x no_y = absurd (not_both d a y (b ++ x) n ns (told []) w end is (ap (λ z. z ++ (d ++ y)) (sym other.1.0) ∙ sym e) no_y)
  numbers_single told (n ∷ ns) (m ∷ ms) a b c d x y v w is last other end e no_x no_y =
      let apart : is.1 ++ (is.2 ++ (is.3 ++ (b ++ x))) ≡ other.1 ++ (other.2 ++ (other.3 ++ (d ++ y))) = sym (regrouped a is.1 is.2 is.3 (b ++ x) is.4) ∙ (e ∙ regrouped c other.1 other.2 other.3 (d ++ y) other.4) in
      let following : is.2 ++ (is.3 ++ (b ++ x)) ≡ other.2 ++ (other.3 ++ (d ++ y)) = append_cancel_left other.1 _ _ (ap (λ z. z ++ (is.2 ++ (is.3 ++ (b ++ x)))) (other.5.0 ∙ sym is.5.0) ∙ apart) in
      let number = non_zero_single.one is.2 other.2 (is.3 ++ (b ++ x)) (other.3 ++ (d ++ y)) n m is.6 other.6 following (no_digit is.3 b x ns (told (n ∷ ns)) v is.7 last no_x) (no_digit other.3 d y ms (told (m ∷ ms)) w other.7 end no_y) in
      let rest : is.3 ++ (b ++ x) ≡ other.3 ++ (d ++ y) = append_cancel_left other.2 _ _ (ap (λ z. z ++ (is.3 ++ (b ++ x))) (sym number.0) ∙ following) in
      let tail = numbers_single (λ more. told (n ∷ more)) ns ms is.3 b other.3 d x y v w is.7 last other.7 (subst (λ z. AfterLiteral (told (z ∷ ms)) d w) (sym number.1) end) rest no_x no_y in
      (front is.1 is.2 is.3 other.1 other.2 other.3 a c b d is.4 other.4 (is.5.0 ∙ sym other.5.0) number.0 tail.0, tail.1)
    where
      regrouped : (a before front back x : List ℕ) → a ≡ before ++ (front ++ back) → a ++ x ≡ before ++ (front ++ (back ++ x))
      regrouped a before front back x e = ap (λ z. z ++ x) e ∙ (append_assoc before (front ++ back) x ∙ ap (λ z. before ++ z) (append_assoc front back x))

      front : (p q r s t u a c b d : List ℕ) → a ≡ p ++ (q ++ r) → c ≡ s ++ (t ++ u) → p ≡ s → q ≡ t → r ++ b ≡ u ++ d → a ++ b ≡ c ++ d
      front p q r s t u a c b d is other first second tail =
          regrouped a p q r b is ∙ (ap (λ z. z ++ (q ++ (r ++ b))) first ∙ (ap (λ z. s ++ (z ++ (r ++ b))) second ∙ (ap (λ z. s ++ (t ++ z)) tail ∙ sym (regrouped c s t u d other))))

  path_single : Single (always inside) (Then IsSectionPart AfterLiteral)
  path_single = record { one = one }
    where
      one : (a b x y : List ℕ) (v w : SectionName) → Then IsSectionPart AfterLiteral a v → Then IsSectionPart AfterLiteral b w → a ++ x ≡ b ++ y → (BeginsIn inside x → ⊥) → (BeginsIn inside y → ⊥) → (a ≡ b) × (v ≡ w)
      one a b x y v w is other e no_x no_y =
          let f = is.first in
          let g = other.first in
          let last : AfterLiteral (f.value ∷ f.second.0) is.back v = subst (λ z. AfterLiteral z is.back v) f.second.1 is.second in
          let end : AfterLiteral (g.value ∷ g.second.0) other.back w = subst (λ z. AfterLiteral z other.back w) g.second.1 other.second in
          let apart : f.front ++ (f.back ++ (is.back ++ x)) ≡ g.front ++ (g.back ++ (other.back ++ y)) = sym (parts a is.front is.back f.front f.back x is.whole f.whole) ∙ (e ∙ parts b other.front other.back g.front g.back y other.whole g.whole) in
          let number = non_zero_single.one f.front g.front (f.back ++ (is.back ++ x)) (g.back ++ (other.back ++ y)) f.value g.value f.first g.first apart
          (no_digit f.back is.back x f.second.0 (f.value ∷ f.second.0) v f.second.2 last no_x) (no_digit g.back other.back y g.second.0 (g.value ∷ g.second.0) w g.second.2 end no_y) in
          let rest : f.back ++ (is.back ++ x) ≡ g.back ++ (other.back ++ y) = append_cancel_left g.front _ _ (ap (λ z. z ++ (f.back ++ (is.back ++ x))) (sym number.0) ∙ apart) in
          let tail = numbers_single (λ more. f.value ∷ more) f.second.0 g.second.0 f.back is.back g.back other.back x y v w f.second.2 last g.second.2 (subst (λ z. AfterLiteral (z ∷ g.second.0) other.back w) (sym number.1) end) rest no_x no_y in
          (joined a is.front is.back f.front f.back is.whole f.whole ∙ (both number.0 tail.0 ∙ sym (joined b other.front other.back g.front g.back other.whole g.whole)), tail.1)
        where
          joined : (a front back p q : List ℕ) → a ≡ front ++ back → front ≡ p ++ q → a ≡ p ++ (q ++ back)
          joined a front back p q e f = e ∙ (ap (λ z. z ++ back) f ∙ append_assoc p q back)

          parts : (a front back p q x : List ℕ) → a ≡ front ++ back → front ≡ p ++ q → a ++ x ≡ p ++ (q ++ (back ++ x))
          parts a front back p q x e f = ap (λ z. z ++ x) (joined a front back p q e f) ∙ (append_assoc p (q ++ back) x ∙ ap (λ z. p ++ z) (append_assoc q back x))

          both : {p q r s : List ℕ} → p ≡ r → q ≡ s → p ++ q ≡ r ++ s
          both e f = rw (e, f) refl

  spec_single : Single (always inside) (IsSectionSpec utf8)
  spec_single =
      either_turned is_digit (mapped_single (named []) (msgtext_single utf8) (λ u b h. h)) path_single (then_avoids is_digit (IsSectionMsgtext utf8) _ (msgtext_avoids utf8))
      (then_opens is_digit IsSectionPart _ (then_opens is_digit IsNonZero _ non_zero_opens))

  spec_opens : Opens inside (IsSectionSpec utf8)
  spec_opens =
      or_opens inside _ _ (then_opens inside (IsSectionMsgtext utf8) _ (then_opens inside (IsWordOf (text_words false)) _ (opens_but 93 (IsWordOf (text_words false)) (letters_never (text_words false) 93 (omega arith) (λ low high. omega (arith, high)) refl))))
      (then_opens inside IsSectionPart _ (then_opens inside IsNonZero _ (opens_but 93 IsNonZero (number_none 93 close_no_digit))))

  section_single : Single never (IsSection utf8)
  section_single =
      read_single (octet_single 91) (λ _. ends_single (nothing_single (named [] part.Whole) spec_single spec_opens) (λ s. then_avoids inside (IsOctet 93) _ (octet_avoids inside 93 refl)) (λ s. read_single (octet_single 93) (λ _. is_single s)))

-- ---- items

-- what isn't after an item
abbrev pub unended : ℕ → Bool
unended x = not (x == 32) && not (x == 41) && not (x == 13)

closing_single : (from most : ℕ) → Single never (Closing from most)
closing_single from most = let pair : ℕ × ℕ = (from, most) in read_single (octet_single 62) (λ _. is_single pair)

partial_single : Single never IsPartial
partial_single =
    read_single (octet_single 60) (λ _. ends_single number_single dot_avoids (λ from. read_single (octet_single 46) (λ _. ends_single non_zero_single (close_avoids from) (closing_single from))))

maybe_partial_single : Single (always unended) (Maybe IsPartial)
maybe_partial_single = nothing_single None (read_single partial_single (λ v. is_single (Some v))) (then_opens unended IsPartial _ (then_opens unended (IsOctet 60) _ (octet_opens unended 60 refl)))

section_item_single : (utf8 peek : Bool) → Single (always unended) (IsSectionItem utf8 peek)
section_item_single utf8 peek = read_single (section_single utf8) (λ s. mapped_single (λ partial. item.Section peek s.path s.part partial) maybe_partial_single (λ u b h. h))

-- an item that is its word
plain_hands : (w : ItemWord) (i : FetchItem) → ((b : List ℕ) → BeginsIn (after_item_word w) b → BeginsIn unended b) → Hands (after_item_word w) (always unended) (Is i)
plain_hands w i over = is_hands (after_item_word w) (always unended) i over

body_over : (b : List ℕ) → BeginsIn (after_item_word word.Body) b → BeginsIn unended b
body_over [] h = h
body_over (x ∷ b) h = goes x h
  where
    goes : (x : ℕ) → (x == 46 || x == 83 || x == 115) ≡ true → (not (x == 32) && not (x == 41) && not (x == 13)) ≡ true
    goes x h = grind (arith, common_steps, nat_tests, h)

never_over : (b : List ℕ) → BeginsIn (λ x. false) b → BeginsIn unended b
never_over b h = absurd (nothing_goes {V = ℕ} 0 b h)

item_hands : (utf8 : Bool) (w : ItemWord) → Hands (after_item_word w) (always unended) (IsAfterItem utf8 w)
item_hands utf8 word.Flags = plain_hands word.Flags item.Flags never_over
item_hands utf8 word.Uid = plain_hands word.Uid item.Uid never_over
item_hands utf8 word.InternalDate = plain_hands word.InternalDate item.InternalDate never_over
item_hands utf8 word.Size = plain_hands word.Size item.Size never_over
item_hands utf8 word.Rfc822 = plain_hands word.Rfc822 item.Rfc822 (over_one 46 unended refl)
item_hands utf8 word.Rfc822Header = plain_hands word.Rfc822Header item.Rfc822Header never_over
item_hands utf8 word.Rfc822Text = plain_hands word.Rfc822Text item.Rfc822Text never_over
item_hands utf8 word.Envelope = plain_hands word.Envelope item.Envelope never_over
item_hands utf8 word.BodyStructure = plain_hands word.BodyStructure item.BodyStructure never_over
item_hands utf8 word.Body = nothing_hands (after_item_word word.Body) (always unended) item.Body (IsSectionItem utf8 false) body_over (then_avoids (after_item_word word.Body) (IsSection utf8) _ (then_avoids (after_item_word word.Body) (IsOctet 91) _ (octet_avoids (after_item_word word.Body) 91 refl)))
item_hands utf8 word.BodyPeek = hands_avoiding (λ x. false) (always unended) (IsSectionItem utf8 true) (never_avoids (IsSectionItem utf8 true))
item_hands utf8 word.All = λ a b v is begin. absurd is
item_hands utf8 word.Fast = λ a b v is begin. absurd is
item_hands utf8 word.Full = λ a b v is begin. absurd is

no_word_single : {V : Type 0} {q : V → ℕ → Bool} → Single q (λ octets value. ⊥)
no_word_single = record { one = λ a b x y v w is other e no_x no_y. absurd is }

after_item_single : (utf8 : Bool) (w : ItemWord) → Single (always unended) (IsAfterItem utf8 w)
after_item_single utf8 word.Flags = is_single item.Flags
after_item_single utf8 word.Uid = is_single item.Uid
after_item_single utf8 word.InternalDate = is_single item.InternalDate
after_item_single utf8 word.Size = is_single item.Size
after_item_single utf8 word.Rfc822 = is_single item.Rfc822
after_item_single utf8 word.Rfc822Header = is_single item.Rfc822Header
after_item_single utf8 word.Rfc822Text = is_single item.Rfc822Text
after_item_single utf8 word.Envelope = is_single item.Envelope
after_item_single utf8 word.BodyStructure = is_single item.BodyStructure
after_item_single utf8 word.Body = nothing_single item.Body (section_item_single utf8 false) (then_opens unended (IsSection utf8) _ (then_opens unended (IsOctet 91) _ (octet_opens unended 91 refl)))
after_item_single utf8 word.BodyPeek = section_item_single utf8 true
after_item_single utf8 word.All = no_word_single
after_item_single utf8 word.Fast = no_word_single
after_item_single utf8 word.Full = no_word_single

-- words of items and of macros are apart
any_single_word : Single after_item_word (IsWordOf (item_words ++ macro_words))
any_single_word = word_single (item_words ++ macro_words) after_item_word (is_table _ _ refl refl) (tells_longer after_item_word (item_words ++ macro_words) refl)

item_single_word : Single after_item_word (IsWordOf item_words)
item_single_word = within_single any_single_word to_any
  where
    to_any : (octets : List ℕ) (w : ItemWord) → IsWordOf item_words octets w → IsWordOf (item_words ++ macro_words) octets w
    to_any octets w is = record { entry = is.entry; known = Contains-append_left item_words macro_words is.entry is.known; word = is.word; says = is.says }

att_single : (utf8 : Bool) → Single (always unended) (IsFetchAtt utf8)
att_single utf8 = then_single item_single_word (item_hands utf8) (after_item_single utf8)

abbrev MacroItems : List ℕ → List FetchItem → Type 0
MacroItems = Then (IsWordOf macro_words) (λ w. Is (macro_items w))

abbrev LoneItem : Bool → List ℕ → List FetchItem → Type 0
LoneItem utf8 = Then (IsFetchAtt utf8) (λ i. Is (i ∷ []))

abbrev ItemList : Bool → List ℕ → List FetchItem → Type 0
ItemList utf8 = After IsOpenParenthesis (IsList IsSpace (IsFetchAtt utf8) (IsOctet 41))

macro_over : (w : ItemWord) → is_macro w ≡ true → (b : List ℕ) → BeginsIn (after_item_word w) b → BeginsIn unended b
macro_over word.All e b h = never_over b h
macro_over word.Fast e b h = never_over b h
macro_over word.Full e b h = never_over b h
macro_over w e b h = absurd (both_ways false refl e)

macro_parted : (utf8 : Bool) → Parted (always unended) MacroItems (LoneItem utf8)
macro_parted utf8 a b x y v w is other e no_x no_y =
    let o = other.first in
    let apart : is.front ++ x ≡ o.front ++ (o.back ++ y)
    = ap (λ z. z ++ x) (sym (is.whole ∙ (ap (λ z. is.front ++ z) is.second.0 ∙ append-nil is.front))) ∙ (e ∙ (ap (λ z. z ++ y) (other.whole ∙ (ap (λ z. other.front ++ z) other.second.0 ∙ (append-nil other.front ∙ o.whole))) ∙ append_assoc o.front o.back y)) in
    let same = any_single_word.one is.front o.front x (o.back ++ y) is.value o.value (record { entry = is.first.entry; known = Contains-append_right item_words macro_words is.first.entry is.first.known; word = is.first.word; says = is.first.says })
    (record { entry = o.first.entry; known = Contains-append_left item_words macro_words o.first.entry o.first.known; word = o.first.word; says = o.first.says }) apart
    (λ h. no_x (macro_over is.value says x h)) (λ h. no_y (item_hands utf8 o.value o.back y other.value o.second h)) in
    both_ways (is_macro is.value) (ap is_macro same.1 ∙ item_says o.front o.value o.first) says
  where
    says : is_macro is.value ≡ true
    says = subst (λ z. is_macro z ≡ true) (sym is.first.says) (All-contains (λ (e : Named ItemWord). is_macro e.says ≡ true) macro_words is.first.entry (AllPass-from_list_all (λ (e : Named ItemWord). is_macro e.says) macro_words refl) is.first.known)

pub items_single : (utf8 : Bool) → Single (always unended) (IsFetchItems utf8)
items_single utf8 =
    or_single macros (either_turned (at_octet 40) lone list lone_avoids (list_opens (at_octet 40) refl))
    (parted_both (always unended) MacroItems (LoneItem utf8) (ItemList utf8) (macro_parted utf8) (parted_turned (always unended) (ItemList utf8) MacroItems (parted_from (always unended) (at_octet 40) (ItemList utf8) MacroItems (list_opens (at_octet 40) refl) macros_avoid)))
  where
    macros : Single (always unended) MacroItems
    macros = read_single (word_single macro_words never (is_table _ _ refl refl) (tells_longer never macro_words refl)) (λ w. is_single (macro_items w))

    lone : Single (always unended) (LoneItem utf8)
    lone = mapped_single (λ i. i ∷ []) (att_single utf8) (λ u b h. h)

    list : Single (always unended) (ItemList utf8)
    list = any_single (read_single (octet_single 40) (λ _. list_single (at_octet 32) space_single (att_single utf8) (octet_single 41) (octet_opens (at_octet 32) 32 refl) (octet_avoids (at_octet 32) 41 refl) (λ v. octet_avoids unended 32 refl) (λ v. octet_avoids unended 41 refl)))

    list_opens : (p : ℕ → Bool) → p 40 ≡ true → Opens p (ItemList utf8)
    list_opens p may = then_opens p (IsOctet 40) _ (octet_opens p 40 may)

    lone_avoids : Avoids (at_octet 40) (LoneItem utf8)
    lone_avoids = then_avoids (at_octet 40) (IsFetchAtt utf8) _ (then_avoids (at_octet 40) (IsWordOf item_words) _ (never_avoid 40 (IsWordOf item_words) (word_never item_words 40 refl)))

    macros_avoid : Avoids (at_octet 40) MacroItems
    macros_avoid = then_avoids (at_octet 40) (IsWordOf macro_words) _ (never_avoid 40 (IsWordOf macro_words) (word_never macro_words 40 refl))
