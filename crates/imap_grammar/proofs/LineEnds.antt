-- A reader asks for more octets only where no line ends in its text: the words without CR of this crate, and the steps of its readers.
use Rattle.std.proofs.Common.{◌≡◌, ℕ, Bool, true, false, List, [], ◌∷◌, ◌++◌, Option, Some, None, refl, sym, ap, ◌∙◌, subst, append-nil}
use Rattle.std.proofs.Common.{Bor}
use Rattle.std.proofs.lemmas.Result.{IfOk-weaker}
use Rattle.std.specs.Prelude.{Result, IfOk}
use Rattle.mail_wire.specs.Lines.{first_line}
use Rattle.imap_words.specs.Languages.{IsOctet, Maybe, IsTail}
use Rattle.imap_words.specs.Reading.{always, never, Reads, StopsReading}
use Rattle.imap_words.specs.Tokens.{IsSpace, is_digit, IsNonZero}
use Rattle.imap_words.specs.Keywords.{IsWordOf}
use Rattle.imap_words.specs.Sets.{IsSetAndSpace}
use Rattle.imap_words.specs.declared.stop.Stop.{Stop}
use Rattle.imap_words.specs.declared.stop.Stop.TheVariants.{More}
use Rattle.imap_words.proofs.InLine.{Flat, open_after, flat_open, flat_joins, is_flat, then_flat, or_flat, maybe_flat, non_zero_flat, space_flat, word_flat, set_flat, date_flat, octet_open, octet_joins, no_octet, first_joins, tag_open, tag_joins, atom_open, atom_joins, set_open, astring_joins, pattern_joins, name_joins}
use Rattle.imap_grammar.specs.Flags.{IsFlag, IsFlagList, HasFlags, AreFlags, storing_words, after_storing}
use Rattle.imap_grammar.specs.Fetching.{item_words, macro_words, text_words, after_item_word, after_section_word, IsPartial}
use Rattle.imap_grammar.specs.FetchParts.{PassesNoEnd, after_partial}
use Rattle.imap_grammar.specs.Commands.{at_octet, IsStatusItems, utf8_words, uid_names, command_names, IsFlagBits, IsDateAndSpace}
use Rattle.imap_grammar.specs.declared.command.StoreOp.{StoreOp}
use Rattle.imap_grammar.specs.declared.command.StatusItem.{StatusItem}
use Rattle.imap_grammar.specs.declared.words.ItemWord.{ItemWord}
use Rattle.imap_grammar.specs.declared.words.SectionWord.{SectionWord}
use Rattle.imap_grammar.specs.declared.fetch.Step.{Step}
use Rattle.imap_grammar.specs.declared.words.Name.{Name}
use Rattle.imap_grammar.specs.declared.words.UidName.{UidName}
use Rattle.imap_grammar.proofs.Closing.{flag_flat, flag_list_flat, status_items_flat, partial_flat}
use Rattle.imap_grammar.proofs.EventLaws.{front_none}

-- ---- words without CR

bits_flat : Flat IsFlagBits
bits_flat = or_flat _ _ (is_flat 0) (then_flat _ _ (then_flat _ _ flag_list_flat (λ flags. is_flat _)) (λ n. then_flat _ _ space_flat (λ _. is_flat n)))

spaced_date_flat : Flat IsDateAndSpace
spaced_date_flat = or_flat _ _ (is_flat None) (then_flat _ _ date_flat (λ date. then_flat _ _ space_flat (λ _. is_flat (Some date))))

-- ---- steps

pub command_open : (octets : List ℕ) → StopsReading (IsWordOf command_names) never octets More → first_line octets ≡ None
command_open octets v = flat_open (IsWordOf command_names) (word_flat command_names refl) octets v

pub command_joins : (octets rest : List ℕ) (n : Name) → Reads (IsWordOf command_names) never octets n rest → first_line rest ≡ None → first_line octets ≡ None
command_joins octets rest n r none = flat_joins (IsWordOf command_names) (word_flat command_names refl) never octets rest n r none

pub uid_open : (octets : List ℕ) → StopsReading (IsWordOf uid_names) never octets More → first_line octets ≡ None
uid_open octets v = flat_open (IsWordOf uid_names) (word_flat uid_names refl) octets v

pub uid_joins : (octets rest : List ℕ) (n : UidName) → Reads (IsWordOf uid_names) never octets n rest → first_line rest ≡ None → first_line octets ≡ None
uid_joins octets rest n r none = flat_joins (IsWordOf uid_names) (word_flat uid_names refl) never octets rest n r none

pub utf8_open : (octets : List ℕ) → StopsReading (IsWordOf utf8_words) never octets More → first_line octets ≡ None
utf8_open octets v = flat_open (IsWordOf utf8_words) (word_flat utf8_words refl) octets v

pub utf8_joins : (octets rest : List ℕ) (b : Bool) → Reads (IsWordOf utf8_words) never octets b rest → first_line rest ≡ None → first_line octets ≡ None
utf8_joins octets rest b r none = flat_joins (IsWordOf utf8_words) (word_flat utf8_words refl) never octets rest b r none

pub storing_open : (octets : List ℕ) → StopsReading (IsWordOf storing_words) after_storing octets More → first_line octets ≡ None
storing_open octets v = flat_open (IsWordOf storing_words) (word_flat storing_words refl) octets v

pub storing_joins : (octets rest : List ℕ) (w : StoreOp × Bool) → Reads (IsWordOf storing_words) after_storing octets w rest → first_line rest ≡ None → first_line octets ≡ None
storing_joins octets rest w r none = flat_joins (IsWordOf storing_words) (word_flat storing_words refl) after_storing octets rest w r none

pub item_open : (octets : List ℕ) → StopsReading (IsWordOf item_words) after_item_word octets More → first_line octets ≡ None
item_open octets v = flat_open (IsWordOf item_words) (word_flat item_words refl) octets v

pub item_joins : (octets rest : List ℕ) (w : ItemWord) → Reads (IsWordOf item_words) after_item_word octets w rest → first_line rest ≡ None → first_line octets ≡ None
item_joins octets rest w r none = flat_joins (IsWordOf item_words) (word_flat item_words refl) after_item_word octets rest w r none

pub any_open : (octets : List ℕ) → StopsReading (IsWordOf (item_words ++ macro_words)) after_item_word octets More → first_line octets ≡ None
any_open octets v = flat_open (IsWordOf (item_words ++ macro_words)) (word_flat (item_words ++ macro_words) refl) octets v

pub any_joins : (octets rest : List ℕ) (w : ItemWord) → Reads (IsWordOf (item_words ++ macro_words)) after_item_word octets w rest → first_line rest ≡ None → first_line octets ≡ None
any_joins octets rest w r none = flat_joins (IsWordOf (item_words ++ macro_words)) (word_flat (item_words ++ macro_words) refl) after_item_word octets rest w r none

text_flat : (b : Bool) → Flat (IsWordOf (text_words b))
text_flat true = word_flat (text_words true) refl
text_flat false = word_flat (text_words false) refl

pub text_open : (b : Bool) (octets : List ℕ) → StopsReading (IsWordOf (text_words b)) after_section_word octets More → first_line octets ≡ None
text_open b octets v = flat_open (IsWordOf (text_words b)) (text_flat b) octets v

pub text_joins : (b : Bool) (octets rest : List ℕ) (w : SectionWord) → Reads (IsWordOf (text_words b)) after_section_word octets w rest → first_line rest ≡ None → first_line octets ≡ None
text_joins b octets rest w r none = flat_joins (IsWordOf (text_words b)) (text_flat b) after_section_word octets rest w r none

pub set_joins : (octets rest : List ℕ) (set : List (Option ℕ × Option ℕ)) → Reads IsSetAndSpace never octets set rest → first_line rest ≡ None → first_line octets ≡ None
set_joins octets rest set r none = flat_joins IsSetAndSpace set_flat never octets rest set r none

pub non_zero_open : (octets : List ℕ) → StopsReading IsNonZero (always is_digit) octets More → first_line octets ≡ None
non_zero_open octets v = flat_open IsNonZero non_zero_flat octets v

pub non_zero_joins : (octets rest : List ℕ) (n : ℕ) → Reads IsNonZero (always is_digit) octets n rest → first_line rest ≡ None → first_line octets ≡ None
non_zero_joins octets rest n r none = flat_joins IsNonZero non_zero_flat (always is_digit) octets rest n r none

pub part_open : (octets : List ℕ) → StopsReading (Maybe IsPartial) after_partial octets More → first_line octets ≡ None
part_open octets v = flat_open (Maybe IsPartial) (maybe_flat IsPartial partial_flat) octets v

pub part_joins : (octets rest : List ℕ) (part : Option (ℕ × ℕ)) → Reads (Maybe IsPartial) after_partial octets part rest → first_line rest ≡ None → first_line octets ≡ None
part_joins octets rest part r none = flat_joins (Maybe IsPartial) (maybe_flat IsPartial partial_flat) after_partial octets rest part r none

pub status_open : (octets : List ℕ) → StopsReading IsStatusItems never octets More → first_line octets ≡ None
status_open octets v = flat_open IsStatusItems status_items_flat octets v

pub status_joins : (octets rest : List ℕ) (items : List StatusItem) → Reads IsStatusItems never octets items rest → first_line rest ≡ None → first_line octets ≡ None
status_joins octets rest items r none = flat_joins IsStatusItems status_items_flat never octets rest items r none

pub bits_open : (octets : List ℕ) → StopsReading IsFlagBits (always (at_octet 40)) octets More → first_line octets ≡ None
bits_open octets v = flat_open IsFlagBits bits_flat octets v

pub bits_joins : (octets rest : List ℕ) (n : ℕ) → Reads IsFlagBits (always (at_octet 40)) octets n rest → first_line rest ≡ None → first_line octets ≡ None
bits_joins octets rest n r none = flat_joins IsFlagBits bits_flat (always (at_octet 40)) octets rest n r none

pub date_open : (octets : List ℕ) → StopsReading IsDateAndSpace (always (at_octet 34)) octets More → first_line octets ≡ None
date_open octets v = flat_open IsDateAndSpace spaced_date_flat octets v

pub date_joins : (octets rest : List ℕ) (date : Option (List ℕ)) → Reads IsDateAndSpace (always (at_octet 34)) octets date rest → first_line rest ≡ None → first_line octets ≡ None
date_joins octets rest date r none = flat_joins IsDateAndSpace spaced_date_flat (always (at_octet 34)) octets rest date r none

pub listed_open : (octets : List ℕ) → StopsReading (HasFlags IsFlagList) never octets More → first_line octets ≡ None
listed_open octets v = flat_open (HasFlags IsFlagList) (then_flat _ _ flag_list_flat (λ flags. is_flat _)) octets v

pub listed_joins : (octets rest : List ℕ) (n : ℕ) → Reads (HasFlags IsFlagList) never octets n rest → first_line rest ≡ None → first_line octets ≡ None
listed_joins octets rest n r none = flat_joins (HasFlags IsFlagList) (then_flat _ _ flag_list_flat (λ flags. is_flat _)) never octets rest n r none

-- flags and a CR: no line ends in them
returned : (a : List ℕ) (n : ℕ) → HasFlags (AreFlags 13) a n → first_line a ≡ None
returned a n is = subst (λ z. first_line z ≡ None) (sym (is.whole ∙ (ap (λ z. is.front ++ z) is.second.0 ∙ append-nil is.front))) (list is.front is.value is.first)
  where
    tail : (a : List ℕ) (values : List (List ℕ)) → IsTail IsSpace IsFlag (IsOctet 13) a values → first_line a ≡ None
    tail a [] is = octet_open 13 a (record { rest = []; value = is.0; is_word = subst (λ z. IsOctet 13 z is.0) (sym (append-nil a)) is.1 })
    tail a (v ∷ values) is =
        subst (λ z. first_line z ≡ None) (sym is.4) (open_after is.1 (is.2 ++ is.3) (space_flat is.1 is.0 is.5) (open_after is.2 is.3 (flag_flat is.2 v is.6) (tail is.3 values is.7)))

    list : (a : List ℕ) (values : List (List ℕ)) → AreFlags 13 a values → first_line a ≡ None
    list a values is = subst (λ z. first_line z ≡ None) (sym is.whole) (open_after is.front is.back (flag_flat is.front is.value is.first) (tail is.back is.second.0 is.second.2))

pub returned_open : (octets : List ℕ) → StopsReading (HasFlags (AreFlags 13)) never octets More → first_line octets ≡ None
returned_open octets v = front_none octets v.rest (returned (octets ++ v.rest) v.value v.is_word)

pub returned_last : (octets rest : List ℕ) (n : ℕ) → Reads (HasFlags (AreFlags 13)) never octets n rest → rest ≡ [] → first_line octets ≡ None
returned_last octets rest n r none = subst (λ z. first_line z ≡ None) (sym (r.whole ∙ (ap (λ z. r.word ++ z) none ∙ append-nil r.word))) (returned r.word n r.is_word)

-- what an item's reader passes, after octets in which no line ends
pub steps_pass : (octets mid : List ℕ) (r : Result (Step × Bor (List ℕ)) Stop) → (first_line mid ≡ None → first_line octets ≡ None) → IfOk r (λ x. PassesNoEnd mid x.0 x.1.now) → IfOk r (λ x. PassesNoEnd octets x.0 x.1.now)
steps_pass octets mid r joins h = IfOk-weaker r (λ x. PassesNoEnd mid x.0 x.1.now) (λ x. PassesNoEnd octets x.0 x.1.now) (λ x passes is none. joins (passes is none)) h

-- ---- the steps of each module

pub ruleset command_steps = (no_octet, first_joins, octet_open, octet_joins, astring_joins, pattern_joins, atom_open, atom_joins, set_open, set_joins, storing_open, storing_joins, status_open, status_joins, uid_open, uid_joins)

pub ruleset append_steps = (no_octet, octet_open, octet_joins, astring_joins, utf8_open, utf8_joins, bits_open, bits_joins, date_open, date_joins)

pub ruleset flag_steps = (no_octet, listed_open, listed_joins, returned_open, returned_last)

pub ruleset fetch_steps = (no_octet, first_joins, octet_open, octet_joins, name_joins, set_open, set_joins, item_open, item_joins, any_open, any_joins, text_open, text_joins, non_zero_open, non_zero_joins, part_open, part_joins)

pub ruleset begun_steps = (octet_open, octet_joins, tag_open, tag_joins, command_open, command_joins)
