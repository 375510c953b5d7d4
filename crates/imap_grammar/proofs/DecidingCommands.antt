-- Whether octets are a command, or can be completed to one: production by production.
use Rattle.std.proofs.Common.{◌≡◌, ℕ, Bool, true, false, List, [], ◌∷◌, None, Some, refl}
use Rattle.std.proofs.lemmas.Bool.{both_ways}
use Rattle.imap_words.specs.Languages.{IsList, IsViable}
use Rattle.imap_words.specs.Tokens.{IsSpace, IsOpenParenthesis, IsCloseParenthesis}
use Rattle.imap_words.specs.Sets.{IsSeqNumber, IsSeqRange, IsSetAndSpace}
use Rattle.imap_words.specs.Keywords.{IsWordOf}
use Rattle.imap_words.proofs.TableSteps.{is_table}
use Rattle.imap_grammar.specs.Flags.{IsFlag, IsFlagList, IsFlagsToEnd, storing_words}
use Rattle.imap_grammar.specs.Fetching.{IsHeaderList, text_words, IsAfterWord, IsSectionMsgtext, IsSectionText, IsSectionPart, IsSectionSpec, IsSection, IsPartial, item_words, macro_words, IsSectionItem, IsAfterItem, IsFetchAtt, macro_items, IsFetchItems}
use Rattle.imap_grammar.specs.Commands.{IsBareCommand, IsLoginCommand, IsEnable, IsNaming, IsListing, status_words, IsStatusItems, IsStatus, utf8_words, IsDataFront, IsDataEnd, IsAppendFront, IsAppend, IsFetch, IsStore, uid_names, IsAfterUid, IsUid, command_names, IsAfterName, IsCommand}
use Rattle.imap_grammar.specs.Events.{append_words, IsAppending}
use Rattle.imap_grammar.specs.declared.command.Command.{Command}
use Rattle.imap_grammar.specs.declared.command.Command.TheVariants as command
use Rattle.imap_grammar.specs.declared.command.FetchItem.TheVariants as item
use Rattle.imap_grammar.specs.declared.command.SectionPart.TheVariants as part
use Rattle.imap_grammar.specs.declared.words.ItemWord.{ItemWord}
use Rattle.imap_grammar.specs.declared.words.ItemWord.TheVariants as word
use Rattle.imap_grammar.specs.declared.words.SectionWord.{SectionWord}
use Rattle.imap_grammar.specs.declared.words.SectionWord.TheVariants as section
use Rattle.imap_grammar.specs.declared.words.Name.{Name}
use Rattle.imap_grammar.specs.declared.words.Name.TheVariants as name
use Rattle.imap_grammar.specs.declared.words.UidName.{UidName}
use Rattle.imap_grammar.specs.declared.words.UidName.TheVariants as uid
use Rattle.imap_grammar.proofs.ItemSteps.{is_macro, item_says}
use Rattle.imap_grammar.proofs.DecidingWords.{Known, Decided, none_known, or_known, or_decided, is_decided, counted_decided, then_known, then_decided, after_decided, first_leads, maybe_decided, itself_decided, Leads}
use Rattle.imap_grammar.proofs.DecidingLists.{list_decided, octet_nonempty}
use Rattle.imap_grammar.proofs.DecidingTokens.{octet_decided, space_decided, crlf_decided, number_decided, non_zero_decided, word_decided}
use Rattle.imap_grammar.proofs.DecidingStrings.{tag_decided, atom_decided, header_decided, header8_decided, astring_decided, list_mailbox_decided}
use Rattle.imap_grammar.proofs.DecidingNames.{header_name_decided, date_time_decided}
use Rattle.imap_grammar.proofs.DecidingLines.{not_here_decided}

open_decided : Decided IsOpenParenthesis
open_decided = octet_decided 40

close_decided : Decided IsCloseParenthesis
close_decided = octet_decided 41

-- words with a space between any two
spaced_decided : {V E : Type 0} {P : List ℕ → V → Type 0} {End : List ℕ → E → Type 0} → Decided P → Decided End → Decided (IsList IsSpace P End)
spaced_decided p end = list_decided (octet_nonempty 32) space_decided p end

-- ---- sets and flags

seq_number_decided : Decided IsSeqNumber
seq_number_decided = or_decided (then_decided non_zero_decided (λ n. is_decided (Some n))) (after_decided (octet_decided 42) (is_decided None)).known

range_decided : Decided IsSeqRange
range_decided = then_decided seq_number_decided (λ first. or_decided (is_decided (first, first)) (after_decided (octet_decided 58) (then_decided seq_number_decided (λ last. is_decided (first, last)))).known)

set_decided : Decided IsSetAndSpace
set_decided = list_decided (octet_nonempty 44) (octet_decided 44) range_decided space_decided

flag_decided : Decided IsFlag
flag_decided = or_decided atom_decided (itself_decided (after_decided (octet_decided 92) atom_decided)).known

flag_list_decided : Decided IsFlagList
flag_list_decided = after_decided open_decided (or_decided (after_decided close_decided (is_decided [])) (spaced_decided flag_decided close_decided).known)

flags_to_end_decided : Decided IsFlagsToEnd
flags_to_end_decided = or_decided (then_decided flag_list_decided (λ flags. after_decided crlf_decided (is_decided flags))) (spaced_decided flag_decided crlf_decided).known

-- ---- FETCH

names_decided : (utf8 : Bool) → Decided (IsHeaderList utf8)
names_decided utf8 = after_decided open_decided (spaced_decided (header_name_decided utf8) close_decided)

after_word_decided : (utf8 : Bool) (w : SectionWord) → Decided (IsAfterWord utf8 w)
after_word_decided utf8 section.Header = is_decided part.Header
after_word_decided utf8 section.Fields = after_decided space_decided (then_decided (names_decided utf8) (λ names. is_decided (part.Fields names false)))
after_word_decided utf8 section.FieldsNot = after_decided space_decided (then_decided (names_decided utf8) (λ names. is_decided (part.Fields names true)))
after_word_decided utf8 section.Text = is_decided part.Text
after_word_decided utf8 section.Mime = is_decided part.Mime

msgtext_decided : (utf8 : Bool) → Decided (IsSectionMsgtext utf8)
msgtext_decided utf8 = then_decided (word_decided (text_words false) (is_table _ _ refl refl)) (after_word_decided utf8)

text_decided : (utf8 : Bool) → Decided (IsSectionText utf8)
text_decided utf8 = then_decided (word_decided (text_words true) (is_table _ _ refl refl)) (after_word_decided utf8)

part_decided : Decided IsSectionPart
part_decided = list_decided (octet_nonempty 46) (octet_decided 46) non_zero_decided (is_decided 0)

spec_decided : (utf8 : Bool) → Decided (IsSectionSpec utf8)
spec_decided utf8 =
    or_decided (then_decided (msgtext_decided utf8) (λ p. is_decided _))
    (then_decided part_decided (λ numbers. or_decided (is_decided _) (after_decided (octet_decided 46) (then_decided (text_decided utf8) (λ p. is_decided _))).known)).known

section_decided : (utf8 : Bool) → Decided (IsSection utf8)
section_decided utf8 = after_decided (octet_decided 91) (then_decided (or_decided (is_decided _) (spec_decided utf8).known) (λ s. after_decided (octet_decided 93) (is_decided s)))

partial_decided : Decided IsPartial
partial_decided =
    after_decided (octet_decided 60) (then_decided number_decided (λ from. after_decided (octet_decided 46) (then_decided non_zero_decided (λ most. after_decided (octet_decided 62) (is_decided (from, most))))))

section_item_decided : (utf8 peek : Bool) → Decided (IsSectionItem utf8 peek)
section_item_decided utf8 peek = then_decided (section_decided utf8) (λ s. then_decided (maybe_decided partial_decided) (λ partial. is_decided _))

-- After a macro's word nothing is an item; after each other word something is.
abbrev ItemDecided : Bool → ItemWord → Type 1
ItemDecided utf8 w = Known (IsAfterItem utf8 w) × (is_macro w ≡ false → IsViable (IsAfterItem utf8 w) [])

item_has : {V B : Type 0} {P : List ℕ → V → Type 0} → Decided P → Known P × (B → IsViable P [])
item_has p = (p.known, λ _. p.some)

no_item : {V : Type 0} → Known {V = V} (λ octets value. ⊥) × (true ≡ false → IsViable {V = V} (λ octets value. ⊥) [])
no_item = (none_known, λ e. absurd (both_ways true e refl))

item_decided : (utf8 : Bool) (w : ItemWord) → ItemDecided utf8 w
item_decided utf8 word.Flags = item_has (is_decided item.Flags)
item_decided utf8 word.Uid = item_has (is_decided item.Uid)
item_decided utf8 word.InternalDate = item_has (is_decided item.InternalDate)
item_decided utf8 word.Size = item_has (is_decided item.Size)
item_decided utf8 word.Rfc822 = item_has (is_decided item.Rfc822)
item_decided utf8 word.Rfc822Header = item_has (is_decided item.Rfc822Header)
item_decided utf8 word.Rfc822Text = item_has (is_decided item.Rfc822Text)
item_decided utf8 word.Envelope = item_has (is_decided item.Envelope)
item_decided utf8 word.BodyStructure = item_has (is_decided item.BodyStructure)
item_decided utf8 word.Body = item_has (or_decided (is_decided item.Body) (section_item_decided utf8 false).known)
item_decided utf8 word.BodyPeek = item_has (section_item_decided utf8 true)
item_decided utf8 word.All = no_item
item_decided utf8 word.Fast = no_item
item_decided utf8 word.Full = no_item

fetch_att_decided : (utf8 : Bool) → Decided (IsFetchAtt utf8)
fetch_att_decided utf8 = record { known = then_known words.known (λ w. (item_decided utf8 w).0) leads; some = first_leads leads [] words.some }
  where
    words : Decided (IsWordOf item_words)
    words = word_decided item_words (is_table _ _ refl refl)

    leads : Leads (IsWordOf item_words) (IsAfterItem utf8)
    leads octets w is = (item_decided utf8 w).1 (item_says octets w is)

fetch_items_decided : (utf8 : Bool) → Decided (IsFetchItems utf8)
fetch_items_decided utf8 =
    or_decided (then_decided (word_decided macro_words (is_table _ _ refl refl)) (λ w. is_decided (macro_items w)))
    (or_known (then_decided (fetch_att_decided utf8) (λ i. is_decided (i ∷ []))).known (after_decided open_decided (spaced_decided (fetch_att_decided utf8) close_decided)).known)

-- ---- commands

bare_decided : (c : Command) → Decided (IsBareCommand c)
bare_decided c = after_decided crlf_decided (is_decided c)

login_decided : (utf8 : Bool) → Decided (IsLoginCommand utf8)
login_decided utf8 = after_decided space_decided (then_decided (astring_decided utf8) (λ user. after_decided space_decided (then_decided (astring_decided utf8) (λ password. bare_decided _))))

enable_decided : Decided IsEnable
enable_decided = after_decided space_decided (then_decided (spaced_decided atom_decided crlf_decided) (λ words. is_decided _))

naming_decided : (utf8 : Bool) (made : List ℕ → Command) → Decided (IsNaming utf8 made)
naming_decided utf8 made = after_decided space_decided (then_decided (astring_decided utf8) (λ mailbox. bare_decided (made mailbox)))

listing_decided : (utf8 : Bool) → Decided (IsListing utf8)
listing_decided utf8 = after_decided space_decided (then_decided (astring_decided utf8) (λ reference. after_decided space_decided (then_decided (list_mailbox_decided utf8) (λ pattern. bare_decided _))))

status_items_decided : Decided IsStatusItems
status_items_decided = after_decided open_decided (spaced_decided (word_decided status_words (is_table _ _ refl refl)) close_decided)

status_decided : (utf8 : Bool) → Decided (IsStatus utf8)
status_decided utf8 = after_decided space_decided (then_decided (astring_decided utf8) (λ mailbox. after_decided space_decided (then_decided status_items_decided (λ items. bare_decided _))))

data_front_decided : Decided IsDataFront
data_front_decided =
    or_decided (then_decided header_decided (λ size. is_decided _))
    (after_decided (word_decided utf8_words (is_table _ _ refl refl)) (after_decided space_decided (after_decided open_decided (then_decided header8_decided (λ size. is_decided _))))).known

data_end_decided : (in_utf8 : Bool) → Decided (IsDataEnd in_utf8)
data_end_decided false = crlf_decided
data_end_decided true = after_decided close_decided crlf_decided

append_front_decided : (utf8 : Bool) → Decided (IsAppendFront utf8)
append_front_decided utf8 =
    after_decided space_decided (then_decided (astring_decided utf8) (λ mailbox. then_decided (maybe_decided (after_decided space_decided flag_list_decided)) (λ flags.
    then_decided (maybe_decided (after_decided space_decided date_time_decided)) (λ date. after_decided space_decided (then_decided data_front_decided (λ announced. is_decided _))))))

append_decided : (utf8 : Bool) → Decided (IsAppend utf8)
append_decided utf8 = then_decided (append_front_decided utf8) (λ front. then_decided (counted_decided front.announced.size) (λ octets. after_decided (data_end_decided front.announced.utf8) (is_decided _)))

fetch_decided : (utf8 by_uid : Bool) → Decided (IsFetch utf8 by_uid)
fetch_decided utf8 by_uid = after_decided space_decided (then_decided set_decided (λ set. then_decided (fetch_items_decided utf8) (λ items. bare_decided _)))

store_decided : (by_uid : Bool) → Decided (IsStore by_uid)
store_decided by_uid =
    after_decided space_decided (then_decided set_decided (λ set. then_decided (word_decided storing_words (is_table _ _ refl refl)) (λ storing. after_decided space_decided (then_decided flags_to_end_decided (λ flags. is_decided _)))))

after_uid_decided : (utf8 : Bool) (n : UidName) → Decided (IsAfterUid utf8 n)
after_uid_decided utf8 uid.Fetch = fetch_decided utf8 true
after_uid_decided utf8 uid.Store = store_decided true
after_uid_decided utf8 uid.NotHere = not_here_decided

uid_decided : (utf8 : Bool) → Decided (IsUid utf8)
uid_decided utf8 = after_decided space_decided (then_decided (word_decided uid_names (is_table _ _ refl refl)) (after_uid_decided utf8))

after_name_decided : (utf8 : Bool) (n : Name) → Decided (IsAfterName utf8 n)
after_name_decided utf8 name.Capability = bare_decided command.Capability
after_name_decided utf8 name.Noop = bare_decided command.Noop
after_name_decided utf8 name.Check = bare_decided command.Check
after_name_decided utf8 name.Logout = bare_decided command.Logout
after_name_decided utf8 name.Login = login_decided utf8
after_name_decided utf8 name.Enable = enable_decided
after_name_decided utf8 name.Select = naming_decided utf8 command.Select
after_name_decided utf8 name.Examine = naming_decided utf8 command.Examine
after_name_decided utf8 name.Create = naming_decided utf8 command.Create
after_name_decided utf8 name.List = listing_decided utf8
after_name_decided utf8 name.Status = status_decided utf8
after_name_decided utf8 name.Append = append_decided utf8
after_name_decided utf8 name.Fetch = fetch_decided utf8 false
after_name_decided utf8 name.Store = store_decided false
after_name_decided utf8 name.Uid = uid_decided utf8
after_name_decided utf8 name.Expunge = bare_decided command.Expunge
after_name_decided utf8 name.Close = bare_decided command.Close
after_name_decided utf8 name.NotHere = not_here_decided

pub command_decided : (utf8 : Bool) → Decided (IsCommand utf8)
command_decided utf8 =
    then_decided tag_decided (λ tag. after_decided space_decided (then_decided (word_decided command_names (is_table _ _ refl refl)) (λ n. then_decided (after_name_decided utf8 n) (λ c. is_decided _))))

-- an APPEND up to its data
pub appending_decided : (utf8 : Bool) → Decided (IsAppending utf8)
appending_decided utf8 =
    then_decided tag_decided (λ tag. after_decided space_decided (after_decided (word_decided append_words (is_table _ _ refl refl)) (then_decided (append_front_decided utf8) (λ front. is_decided _))))
