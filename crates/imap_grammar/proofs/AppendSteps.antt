-- The steps of reading APPEND.
use Rattle.std.proofs.Common.{◌≡◌, ℕ, Bool, true, false, List, [], ◌∷◌, ◌++◌, length, Option, None, Some, inl, refl, sym, ap, ◌∙◌, subst, append_assoc, append-nil, arith}
use Rattle.std.proofs.lemmas.Bool.{eqb-true}
use Rattle.imap_words.specs.Languages.{Then, After, Is, IsOctet, IsCounted, Maybe, IsViable}
use Rattle.imap_words.specs.Reading.{never}
use Rattle.imap_words.specs.Going.{Continues, Leaves}
use Rattle.imap_words.specs.declared.stop.Stop.TheVariants.{More}
use Rattle.imap_words.specs.declared.tokens.Kind.TheVariants.{Astring}
use Rattle.imap_words.specs.Tokens.{passes, IsSpace, IsOpenParenthesis, IsCloseParenthesis, IsCrlf, IsDoubleQuote}
use Rattle.imap_words.specs.Keywords.{IsTable, IsWordOf}
use Rattle.imap_words.specs.Strings.{IsMailboxName, IsHeader, IsHeader8}
use Rattle.imap_words.specs.Dates.{IsDateTime}
use Rattle.imap_words.proofs.Passing.{no_octets}
use Rattle.imap_words.proofs.Composing.{Avoids, NeverAt}
use Rattle.imap_words.proofs.TokenSteps.{octet_viable}
use Rattle.imap_words.proofs.Going.{Within, and_then, octet_avoids, then_avoids, then_never, then_viable, is_viable, left_continues, right_continues, same_continues}
use Rattle.imap_words.proofs.Choosing.{seq_never}
use Rattle.imap_words.proofs.Leaving.{leaves_all}
use Rattle.imap_words.proofs.HeaderSteps.{header_viable, crlf_viable}
use Rattle.imap_words.proofs.TableSteps.{is_table, word_never}
use Rattle.imap_words.proofs.Starting.{or_never}
use Rattle.imap_words.proofs.StringThen.{counted_viable}
use Rattle.imap_words.proofs.Parting.{regroup, second_same}
use Rattle.imap_grammar.proofs.Optional.{Followed, following_it, before_it, told, untold, maybe_viable, maybe_avoids, avoids_at, leaves_by}
use Rattle.imap_grammar.specs.declared.command.Command.{Command}
use Rattle.imap_grammar.specs.Flags.{IsFlagList, HasFlags, flags_of}
use Rattle.imap_grammar.specs.Commands.{at_octet, Announced, AppendFront, IsBareCommand, IsDataFront, IsDataEnd, IsFlagBits, IsDateAndSpace, IsAppend, some_flags, utf8_words}
use Rattle.imap_grammar.specs.Awaiting.{IsAfterAppendName, IsAfterData}
use Rattle.imap_grammar.proofs.CommandSteps.{spaced_avoids}
use Rattle.imap_grammar.proofs.FlagSteps.{InList}

-- ---- what stands before the data

utf8_table : IsTable utf8_words
utf8_table = is_table _ _ refl refl

abbrev pub plain_size : ℕ → Announced
plain_size n = record { utf8 = false; size = n }

abbrev pub utf8_size : ℕ → Announced
utf8_size n = record { utf8 = true; size = n }

abbrev pub Plainly : List ℕ → Announced → Type 0
Plainly = Then IsHeader (λ size. Is (plain_size size))

abbrev pub InUtf8 : List ℕ → Announced → Type 0
InUtf8 = After (IsWordOf utf8_words) (After IsSpace (After IsOpenParenthesis (Then IsHeader8 (λ size. Is (utf8_size size)))))

header8_viable : IsViable IsHeader8 []
header8_viable = then_viable (IsOctet 126) _ (octet_viable 126) (λ _. header_viable)

pub in_form_viable : IsViable (Then IsHeader8 (λ size. Is (utf8_size size))) []
in_form_viable = then_viable IsHeader8 _ header8_viable (λ size. is_viable (utf8_size size))

pub in_open_viable : IsViable (After IsOpenParenthesis (Then IsHeader8 (λ size. Is (utf8_size size)))) []
in_open_viable = then_viable IsOpenParenthesis _ (octet_viable 40) (λ _. in_form_viable)

pub in_space_viable : IsViable (After IsSpace (After IsOpenParenthesis (Then IsHeader8 (λ size. Is (utf8_size size))))) []
in_space_viable = then_viable IsSpace _ (octet_viable 32) (λ _. in_open_viable)

pub front_viable : IsViable IsDataFront []
front_viable = let all = then_viable IsHeader (λ size. Is (plain_size size)) header_viable (λ size. is_viable (plain_size size)) in record { rest = all.rest; value = all.value; is_word = inl all.is_word }

pub front_more : (text : List ℕ) → length text ≡ 0 → IsViable IsDataFront text
front_more text none = subst (λ z. IsViable IsDataFront z) (sym (no_octets text none)) front_viable

module _ (text : List ℕ) (x : ℕ) (xs : List ℕ) (e : text ≡ x ∷ xs) where
  pub plainly : x ≡ 123 → Continues IsDataFront text Plainly text
  plainly same = subst (λ z. Continues IsDataFront z Plainly z) (sym (e ∙ ap (λ z. z ∷ xs) same)) (left_continues Plainly InUtf8 123 xs (seq_never (IsWordOf utf8_words) _ 123 (word_never utf8_words 123 refl)))

  pub in_utf8 : (x ≡ 123 → ⊥) → Continues IsDataFront text InUtf8 text
  in_utf8 other = subst (λ z. Continues IsDataFront z InUtf8 z) (sym e) (right_continues Plainly InUtf8 x xs (seq_never IsHeader _ x (then_never 123 x _ other)))

-- an octet with which no front begins
front_never : (x : ℕ) → (x ≡ 123 → ⊥) → NeverAt (IsWordOf utf8_words) x → NeverAt IsDataFront x
front_never x other none = or_never Plainly InUtf8 x (seq_never IsHeader _ x (then_never 123 x _ other)) (seq_never (IsWordOf utf8_words) _ x none)

front_avoids_open : Avoids (at_octet 40) IsDataFront
front_avoids_open = avoids_at (at_octet 40) IsDataFront (λ x e. let at : x ≡ 40 = eqb-true x 40 e in subst (λ z. NeverAt IsDataFront z) (sym at) (front_never 40 (λ bad. omega (arith, bad)) (word_never utf8_words 40 refl)))

front_avoids_quote : Avoids (at_octet 34) IsDataFront
front_avoids_quote = avoids_at (at_octet 34) IsDataFront (λ x e. let at : x ≡ 34 = eqb-true x 34 e in subst (λ z. NeverAt IsDataFront z) (sym at) (front_never 34 (λ bad. omega (arith, bad)) (word_never utf8_words 34 refl)))

-- ---- the parts that may be missing

pub list_only : (x : ℕ) → (x ≡ 40 → ⊥) → NeverAt (HasFlags IsFlagList) x
list_only x other = seq_never IsFlagList _ x (then_never 40 x (λ _. InList) other)

pub date_only : (x : ℕ) → (x ≡ 34 → ⊥) → NeverAt IsDateTime x
date_only x other = then_never 34 x _ other

-- ---- what follows the mailbox

pub data_end_viable : (in_form : Bool) → IsViable (IsDataEnd in_form) []
data_end_viable false = crlf_viable
data_end_viable true = then_viable IsCloseParenthesis _ (octet_viable 41) (λ _. crlf_viable)

module _ (mailbox : List ℕ) where
  abbrev pub AfterFront : ℕ → Option (List ℕ) → Announced → List ℕ → Command → Type 0
  AfterFront flags date announced = Then (IsCounted announced.size) (IsAfterData mailbox flags date announced.utf8)

  abbrev pub AfterDate : ℕ → Option (List ℕ) → List ℕ → Command → Type 0
  AfterDate flags date = Then IsDataFront (AfterFront flags date)

  abbrev pub AfterFlags : ℕ → List ℕ → Command → Type 0
  AfterFlags flags = Then IsDateAndSpace (AfterDate flags)

  abbrev pub AfterSpace : List ℕ → Command → Type 0
  AfterSpace = Then IsFlagBits AfterFlags

  -- the space that stands before a part is read first
  pub spaces_turned : (text : List ℕ) → Continues (IsAfterAppendName mailbox) text (After IsSpace AfterSpace) text
  spaces_turned text =
      and_then _ _ _ _ _ _ (second_same (Maybe (After IsSpace IsFlagList)) (λ flags. Then (Maybe (After IsSpace IsDateTime)) (λ date. After IsSpace (AfterDate (some_flags flags) date))) (λ flags. After IsSpace (AfterFlags (some_flags flags)))
      (λ flags. following_it IsSpace IsDateTime (AfterDate (some_flags flags))) (λ flags. before_it IsSpace IsDateTime (AfterDate (some_flags flags))) text)
      (and_then _ _ _ _ _ _ (same_continues _ (After IsSpace (Then (Followed IsSpace IsFlagList) (λ flags. AfterFlags (some_flags flags)))) text (following_it IsSpace IsFlagList (λ flags. AfterFlags (some_flags flags))) (before_it IsSpace IsFlagList (λ flags. AfterFlags (some_flags flags))))
      (second_same IsSpace (λ _. Then (Followed IsSpace IsFlagList) (λ flags. AfterFlags (some_flags flags))) (λ _. AfterSpace) (λ _. told IsSpace IsFlagList some_flags flags_of (λ flags. refl) AfterFlags) (λ _. untold IsSpace IsFlagList some_flags flags_of (λ flags. refl) AfterFlags) text))

  pub name_after : (text : List ℕ) → Leaves (IsAfterAppendName mailbox) text (After IsSpace AfterSpace) text
  name_after text = leaves_by (After IsSpace AfterSpace) (leaves_all (IsAfterAppendName mailbox) text) spaces_turned

  pub data_viable : (flags : ℕ) (date : Option (List ℕ)) (announced : Announced) → IsViable (AfterFront flags date announced) []
  data_viable flags date announced = then_viable (IsCounted announced.size) _ (counted_viable announced.size) (λ octets. then_viable (IsDataEnd announced.utf8) _ (data_end_viable announced.utf8) (λ _. is_viable _))

  pub date_viable : (flags : ℕ) (date : Option (List ℕ)) → IsViable (AfterDate flags date) []
  date_viable flags date = then_viable IsDataFront _ front_viable (data_viable flags date)

  pub flags_viable : (flags : ℕ) → IsViable (AfterFlags flags) []
  flags_viable flags = then_viable IsDateAndSpace _ (maybe_viable None IsDateTime Some 34 date_only) (date_viable flags)

  pub spaced_viable : IsViable AfterSpace []
  spaced_viable = then_viable IsFlagBits _ (maybe_viable 0 (HasFlags IsFlagList) (λ n. n) 40 list_only) flags_viable

  pub flags_avoid : (flags : ℕ) → Avoids (at_octet 40) (AfterFlags flags)
  flags_avoid flags =
      maybe_avoids None IsDateTime Some 34 date_only (at_octet 40) (AfterDate flags) (then_avoids (at_octet 40) IsDoubleQuote _ (octet_avoids (at_octet 40) 34 refl)) (λ date. then_avoids (at_octet 40) IsDataFront _ front_avoids_open)

  pub date_avoids : (flags : ℕ) (date : Option (List ℕ)) → Avoids (at_octet 34) (AfterDate flags date)
  date_avoids flags date = then_avoids (at_octet 34) IsDataFront _ front_avoids_quote

  pub after_append_viable : IsViable (IsAfterAppendName mailbox) []
  after_append_viable = (spaces_turned []).stops never More (then_viable IsSpace _ (octet_viable 32) (λ _. spaced_viable))

  pub after_append_avoids : Avoids (passes Astring) (IsAfterAppendName mailbox)
  after_append_avoids a b w is begin = spaced_avoids Astring (Then (Followed IsSpace IsFlagList) (λ flags. AfterFlags (some_flags flags))) a b w (turned a w is) begin
    where
      turned : Within (IsAfterAppendName mailbox) (After IsSpace (Then (Followed IsSpace IsFlagList) (λ flags. AfterFlags (some_flags flags))))
      turned octets v word =
          following_it IsSpace IsFlagList (λ flags. AfterFlags (some_flags flags)) octets v
          (record { value = word.value; front = word.front; back = word.back; whole = word.whole; first = word.first; second = following_it IsSpace IsDateTime (AfterDate (some_flags word.value)) word.back v word.second })

-- ---- the whole command, put apart at the mailbox

append_to : (utf8 : Bool) → Within (IsAppend utf8) (After IsSpace (Then (IsMailboxName utf8) IsAfterAppendName))
append_to utf8 octets c is =
    let f = is.first in
    let m = f.second in
    let fl = m.second in
    let d = fl.second in
    let s = d.second in
    let an = s.second in
    record {
      value = f.value;
      front = f.front;
      back = f.back ++ is.back;
      whole = is.whole ∙ (ap (λ z. z ++ is.back) f.whole ∙ append_assoc f.front f.back is.back);
      first = f.first;
      second = record {
        value = m.value;
        front = m.front;
        back = m.back ++ is.back;
        whole = ap (λ z. z ++ is.back) m.whole ∙ append_assoc m.front m.back is.back;
        first = m.first;
        second = record {
          value = fl.value;
          front = fl.front;
          back = fl.back ++ is.back;
          whole = ap (λ z. z ++ is.back) fl.whole ∙ append_assoc fl.front fl.back is.back;
          first = fl.first;
          second = record {
            value = d.value;
            front = d.front;
            back = d.back ++ is.back;
            whole = ap (λ z. z ++ is.back) d.whole ∙ append_assoc d.front d.back is.back;
            first = d.first;
            second = record {
              value = s.value;
              front = s.front;
              back = s.back ++ is.back;
              whole = ap (λ z. z ++ is.back) s.whole ∙ append_assoc s.front s.back is.back;
              first = s.first;
              second = record {
                value = an.value;
                front = an.front;
                back = is.back;
                whole = ap (λ z. z ++ is.back) (an.whole ∙ (ap (λ z. an.front ++ z) an.second.0 ∙ append-nil an.front));
                first = an.first;
                second = subst (λ (z : AppendFront). Then (IsCounted z.announced.size) (IsAfterData z.mailbox (some_flags z.flags) z.date z.announced.utf8) is.back c) an.second.1 is.second;
              };
            };
          };
        };
      };
    }

append_from : (utf8 : Bool) → Within (After IsSpace (Then (IsMailboxName utf8) IsAfterAppendName)) (IsAppend utf8)
append_from utf8 octets c is =
    let m = is.second in
    let fl = m.second in
    let d = fl.second in
    let s = d.second in
    let an = s.second in
    record {
      value = record { mailbox = m.value; flags = fl.value; date = d.value; announced = an.value };
      front = is.front ++ (m.front ++ (fl.front ++ (d.front ++ (s.front ++ an.front))));
      back = an.back;
      whole = is.whole ∙ (ap (λ z. is.front ++ z) (m.whole ∙ (ap (λ z. m.front ++ z) (fl.whole ∙ (ap (λ z. fl.front ++ z) (d.whole ∙ (ap (λ z. d.front ++ z) (s.whole ∙ (ap (λ z. s.front ++ z) an.whole ∙ sym (append_assoc s.front an.front an.back))) ∙ sym (append_assoc d.front (s.front ++ an.front) an.back))) ∙ sym (append_assoc fl.front (d.front ++ (s.front ++ an.front)) an.back))) ∙ sym (append_assoc m.front (fl.front ++ (d.front ++ (s.front ++ an.front))) an.back))) ∙ sym (append_assoc is.front (m.front ++ (fl.front ++ (d.front ++ (s.front ++ an.front)))) an.back));
      first = record {
        value = is.value;
        front = is.front;
        back = m.front ++ (fl.front ++ (d.front ++ (s.front ++ an.front)));
        whole = refl;
        first = is.first;
        second = record {
          value = m.value;
          front = m.front;
          back = fl.front ++ (d.front ++ (s.front ++ an.front));
          whole = refl;
          first = m.first;
          second = record {
            value = fl.value;
            front = fl.front;
            back = d.front ++ (s.front ++ an.front);
            whole = refl;
            first = fl.first;
            second = record {
              value = d.value;
              front = d.front;
              back = s.front ++ an.front;
              whole = refl;
              first = d.first;
              second = record {
                value = s.value;
                front = s.front;
                back = an.front;
                whole = refl;
                first = s.first;
                second = record { value = an.value; front = an.front; back = []; whole = sym (append-nil an.front); first = an.first; second = (refl, refl) };
              };
            };
          };
        };
      };
      second = an.second;
    }

pub append_begins : (utf8 : Bool) (text : List ℕ) → Leaves (IsAppend utf8) text (After IsSpace (Then (IsMailboxName utf8) IsAfterAppendName)) text
append_begins utf8 text = leaves_by _ (leaves_all (IsAppend utf8) text) (λ more. same_continues (IsAppend utf8) _ more (append_to utf8) (append_from utf8))

-- ---- what follows the data

pub data_end : (c : Command) (text : List ℕ) → Leaves (After (IsDataEnd true) (Is c)) text (After IsCloseParenthesis (IsBareCommand c)) text
data_end c text = leaves_by (After IsCloseParenthesis (IsBareCommand c)) (leaves_all (After (IsDataEnd true) (Is c)) text) (λ more. regroup IsCloseParenthesis (λ _. IsCrlf) (λ _. Is c) more)
