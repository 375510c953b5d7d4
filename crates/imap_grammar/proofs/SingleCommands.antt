-- Of a text one front at most is a command, with one value.
use Rattle.std.proofs.Common.{◌≡◌, ℕ, Bool, true, false, List, Option, None, Some, refl, sym, ◌∙◌}
use Rattle.imap_words.specs.Languages.{Then, After, Is, IsOctet, Maybe}
use Rattle.imap_words.specs.Reading.{never, always}
use Rattle.imap_words.specs.Tokens.{IsSpace, IsCloseParenthesis, IsCrlf, IsDoubleQuote, is_astring_char, is_tag_char}
use Rattle.imap_words.specs.Keywords.{IsWordOf}
use Rattle.imap_words.specs.Strings.{IsHeader}
use Rattle.imap_words.specs.Dates.{IsDateTime}
use Rattle.imap_words.specs.declared.tokens.Kind.TheVariants.{Atom, Astring, ListMailbox, Tag}
use Rattle.imap_words.proofs.Composing.{Avoids, NeverAt}
use Rattle.imap_words.proofs.Going.{octet_avoids, then_avoids, never_avoids}
use Rattle.imap_words.proofs.TableSteps.{is_table, tells_longer, word_never}
use Rattle.imap_grammar.specs.Flags.{IsFlagList, storing_words, after_storing}
use Rattle.imap_grammar.specs.Commands.{at_octet, AppendFront, IsBareCommand, IsLoginCommand, IsEnable, IsNaming, IsListing, status_words, IsStatusItems, IsStatus, utf8_words, IsDataFront, IsDataEnd, IsAppendFront, IsAppend, IsFetch, IsStore, IsNotHere, uid_names, IsAfterUid, IsUid, command_names, IsAfterName, IsCommand}
use Rattle.imap_grammar.specs.declared.command.Command.{Command}
use Rattle.imap_grammar.specs.declared.command.Command.TheVariants as command
use Rattle.imap_grammar.specs.declared.words.Name.{Name}
use Rattle.imap_grammar.specs.declared.words.Name.TheVariants as name
use Rattle.imap_grammar.specs.declared.words.UidName.{UidName}
use Rattle.imap_grammar.specs.declared.words.UidName.TheVariants as uid
use Rattle.imap_grammar.proofs.Sames.{or_avoids}
use Rattle.imap_grammar.proofs.Optional.{Followed, following_it, maybe_avoids}
use Rattle.imap_grammar.proofs.LineLaws.{same_line}
use Rattle.imap_grammar.proofs.AppendSteps.{date_only}
use Rattle.imap_grammar.proofs.CommandSteps.{spaced_avoids, space_avoids, crlf_avoids, bare_avoids}
use Rattle.imap_grammar.proofs.Single.{Single, within_single, Opens, then_opens, octet_opens, never_avoid, within_avoids, ends_single, read_single, is_single, either_single, nothing_single, octet_single, list_single}
use Rattle.imap_grammar.proofs.SingleWords.{word_single, run_single, counted_single, crlf_single, space_single, header_single, header8_single, astring_single, pattern_single, set_single, date_single, atom_single, flag_list_single, flags_single}
use Rattle.imap_grammar.proofs.SingleFetching.{unended, items_single}

bare_single : (c : Command) → Single never (IsBareCommand c)
bare_single c = read_single crlf_single (λ _. is_single c)

-- ---- FETCH, STORE and UID

fetch_single : (utf8 by_uid : Bool) → Single never (IsFetch utf8 by_uid)
fetch_single utf8 by_uid =
    read_single space_single (λ _. read_single set_single (λ set. ends_single (items_single utf8) (λ items. then_avoids unended IsCrlf _ (then_avoids unended (IsOctet 13) _ (octet_avoids unended 13 refl))) (λ items. bare_single _)))

store_single : (by_uid : Bool) → Single never (IsStore by_uid)
store_single by_uid =
    read_single space_single (λ _. read_single set_single (λ set. ends_single (word_single storing_words after_storing (is_table _ _ refl refl) (tells_longer after_storing storing_words refl))
    (λ storing. then_avoids (after_storing storing) IsSpace _ (octet_avoids (after_storing storing) 32 refl)) (λ storing. read_single space_single (λ _. read_single flags_single (λ flags. is_single _)))))

not_here_single : Single never IsNotHere
not_here_single = record { one = λ a b x y v w is other e no_x no_y. ((same_line a x b y is.0 other.0 e).0, is.1 ∙ sym other.1) }

after_uid_single : (utf8 : Bool) (n : UidName) → Single never (IsAfterUid utf8 n)
after_uid_single utf8 uid.Fetch = fetch_single utf8 true
after_uid_single utf8 uid.Store = store_single true
after_uid_single utf8 uid.NotHere = not_here_single

uid_single : (utf8 : Bool) → Single never (IsUid utf8)
uid_single utf8 = read_single space_single (λ _. read_single (word_single uid_names never (is_table _ _ refl refl) (tells_longer never uid_names refl)) (λ n. after_uid_single utf8 n))

login_single : (utf8 : Bool) → Single never (IsLoginCommand utf8)
login_single utf8 =
    read_single space_single (λ _. ends_single (astring_single utf8) (λ user. spaced_avoids Astring _) (λ user. read_single space_single (λ _. ends_single (astring_single utf8) (λ password. bare_avoids Astring _) (λ password. bare_single _))))

enable_single : Single never IsEnable
enable_single =
    read_single space_single (λ _. read_single (list_single (at_octet 32) space_single atom_single crlf_single (octet_opens (at_octet 32) 32 refl) (then_avoids (at_octet 32) (IsOctet 13) _ (octet_avoids (at_octet 32) 13 refl)) (λ v. space_avoids Atom) (λ v. crlf_avoids Atom)) (λ words. is_single _))

naming_single : (utf8 : Bool) (made : List ℕ → Command) → Single never (IsNaming utf8 made)
naming_single utf8 made = read_single space_single (λ _. ends_single (astring_single utf8) (λ mailbox. bare_avoids Astring _) (λ mailbox. bare_single (made mailbox)))

listing_single : (utf8 : Bool) → Single never (IsListing utf8)
listing_single utf8 =
    read_single space_single (λ _. ends_single (astring_single utf8) (λ reference. spaced_avoids Astring _) (λ reference. read_single space_single (λ _. ends_single (pattern_single utf8) (λ pattern. bare_avoids ListMailbox _) (λ pattern. bare_single _))))

status_items_single : Single never IsStatusItems
status_items_single =
    read_single (octet_single 40) (λ _. list_single (at_octet 32) space_single (word_single status_words never (is_table _ _ refl refl) (tells_longer never status_words refl)) (octet_single 41) (octet_opens (at_octet 32) 32 refl) (octet_avoids (at_octet 32) 41 refl) (λ v. never_avoids IsSpace) (λ v. never_avoids IsCloseParenthesis))

status_single : (utf8 : Bool) → Single never (IsStatus utf8)
status_single utf8 = read_single space_single (λ _. ends_single (astring_single utf8) (λ mailbox. spaced_avoids Astring _) (λ mailbox. read_single space_single (λ _. read_single status_items_single (λ items. bare_single _))))

-- ---- APPEND

utf8_single : Single never (IsWordOf utf8_words)
utf8_single = word_single utf8_words never (is_table _ _ refl refl) (tells_longer never utf8_words refl)

data_front_single : Single never IsDataFront
data_front_single =
    either_single (at_octet 123) (read_single header_single (λ size. is_single _)) (read_single utf8_single (λ _. read_single space_single (λ _. read_single (octet_single 40) (λ _. read_single header8_single (λ size. is_single _)))))
    (then_opens (at_octet 123) IsHeader _ (then_opens (at_octet 123) (IsOctet 123) _ (octet_opens (at_octet 123) 123 refl))) (then_avoids (at_octet 123) (IsWordOf utf8_words) _ (never_avoid 123 (IsWordOf utf8_words) (word_never utf8_words 123 refl)))

-- neither a parenthesis nor a quote begins what stands before the data
front_avoids : (c : ℕ) → at_octet c 123 ≡ false → NeverAt (IsWordOf utf8_words) c → Avoids (at_octet c) IsDataFront
front_avoids c brace none = or_avoids (at_octet c) _ _ (then_avoids (at_octet c) IsHeader _ (then_avoids (at_octet c) (IsOctet 123) _ (octet_avoids (at_octet c) 123 brace))) (then_avoids (at_octet c) (IsWordOf utf8_words) _ (never_avoid c (IsWordOf utf8_words) none))

-- a part and a space, or neither
followed_single : {V : Type 0} {P : List ℕ → V → Type 0} (c : ℕ) → Single never P → Opens (at_octet c) P → Single (always (at_octet c)) (Followed IsSpace P)
followed_single {V} {P} c s opens = nothing_single None (read_single s (λ v. read_single space_single (λ _. is_single (Some v)))) (then_opens (at_octet c) P _ opens)

module _ (utf8 : Bool) (mailbox : List ℕ) where
  abbrev Front : Option (List (List ℕ)) → Option (List ℕ) → List ℕ → AppendFront → Type 0
  Front flags date = Then IsDataFront (λ announced. Is (record { mailbox = mailbox; flags = flags; date = date; announced = announced }))

  abbrev AfterFlags : Option (List (List ℕ)) → List ℕ → AppendFront → Type 0
  AfterFlags flags = Then (Followed IsSpace IsDateTime) (Front flags)

  abbrev AfterMailbox : List ℕ → AppendFront → Type 0
  AfterMailbox = Then (Maybe (After IsSpace IsFlagList)) (λ flags. Then (Maybe (After IsSpace IsDateTime)) (λ date. After IsSpace (Front flags date)))

  abbrev Spaced : List ℕ → AppendFront → Type 0
  Spaced = After IsSpace (Then (Followed IsSpace IsFlagList) AfterFlags)

  spaced : (octets : List ℕ) (v : AppendFront) → AfterMailbox octets v → Spaced octets v
  spaced octets v is =
      following_it IsSpace IsFlagList AfterFlags octets v
      (record { value = is.value; front = is.front; back = is.back; whole = is.whole; first = is.first; second = following_it IsSpace IsDateTime (Front is.value) is.back v is.second })

  after_flags_single : (flags : Option (List (List ℕ))) → Single never (AfterFlags flags)
  after_flags_single flags =
      ends_single (followed_single 34 date_single (then_opens (at_octet 34) (IsOctet 34) _ (octet_opens (at_octet 34) 34 refl))) (λ date. then_avoids (at_octet 34) IsDataFront _ (front_avoids 34 refl (word_never utf8_words 34 refl))) (λ date. read_single data_front_single (λ announced. is_single _))

  after_flags_avoid : (flags : Option (List (List ℕ))) → Avoids (at_octet 40) (AfterFlags flags)
  after_flags_avoid flags =
      maybe_avoids None IsDateTime Some 34 date_only (at_octet 40) (Front flags) (then_avoids (at_octet 40) IsDoubleQuote _ (octet_avoids (at_octet 40) 34 refl)) (λ date. then_avoids (at_octet 40) IsDataFront _ (front_avoids 40 refl (word_never utf8_words 40 refl)))

  after_mailbox_single : Single never AfterMailbox
  after_mailbox_single = within_single all spaced
    where
      all : Single never Spaced
      all = read_single space_single (λ _. ends_single (followed_single 40 flag_list_single (then_opens (at_octet 40) (IsOctet 40) _ (octet_opens (at_octet 40) 40 refl))) after_flags_avoid after_flags_single)

  after_mailbox_avoids : Avoids is_astring_char AfterMailbox
  after_mailbox_avoids = within_avoids is_astring_char AfterMailbox Spaced spaced (spaced_avoids Astring _)

append_front_single : (utf8 : Bool) → Single never (IsAppendFront utf8)
append_front_single utf8 = read_single space_single (λ _. ends_single (astring_single utf8) (λ mailbox. after_mailbox_avoids utf8 mailbox) (λ mailbox. after_mailbox_single utf8 mailbox))

data_end_single : (in_utf8 : Bool) → Single never (IsDataEnd in_utf8)
data_end_single false = crlf_single
data_end_single true = read_single (octet_single 41) (λ _. crlf_single)

append_single : (utf8 : Bool) → Single never (IsAppend utf8)
append_single utf8 = read_single (append_front_single utf8) (λ front. read_single (counted_single front.announced.size) (λ octets. read_single (data_end_single front.announced.utf8) (λ _. is_single _)))

-- ---- all commands

after_name_single : (utf8 : Bool) (n : Name) → Single never (IsAfterName utf8 n)
after_name_single utf8 name.Capability = bare_single command.Capability
after_name_single utf8 name.Noop = bare_single command.Noop
after_name_single utf8 name.Check = bare_single command.Check
after_name_single utf8 name.Logout = bare_single command.Logout
after_name_single utf8 name.Login = login_single utf8
after_name_single utf8 name.Enable = enable_single
after_name_single utf8 name.Select = naming_single utf8 command.Select
after_name_single utf8 name.Examine = naming_single utf8 command.Examine
after_name_single utf8 name.Create = naming_single utf8 command.Create
after_name_single utf8 name.List = listing_single utf8
after_name_single utf8 name.Status = status_single utf8
after_name_single utf8 name.Append = append_single utf8
after_name_single utf8 name.Fetch = fetch_single utf8 false
after_name_single utf8 name.Store = store_single false
after_name_single utf8 name.Uid = uid_single utf8
after_name_single utf8 name.Expunge = bare_single command.Expunge
after_name_single utf8 name.Close = bare_single command.Close
after_name_single utf8 name.NotHere = not_here_single

pub command_single : (utf8 : Bool) → Single never (IsCommand utf8)
command_single utf8 =
    ends_single (run_single is_tag_char) (λ tag. spaced_avoids Tag _) (λ tag. read_single space_single (λ _. read_single (word_single command_names never (is_table _ _ refl refl) (tells_longer never command_names refl)) (λ n. read_single (after_name_single utf8 n) (λ c. is_single _))))
