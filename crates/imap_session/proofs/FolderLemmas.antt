-- What is told of folders, and their making.
use Rattle.std.proofs.Common.{◌≡◌, ◌≢◌, ℕ, ◌+◌, ◌<◌, ◌≤◌, List, [], ◌∷◌, ◌++◌, Bool, true, false, Option, None, Some, Result, Ok, Err, refl, sym, ap, ◌∙◌, append_assoc, append-nil, subst, length, map, drop, get_or, arith, codes}
use Rattle.std.specs.Prelude.{decimal, not, ◌==◌, ◌&&◌, ◌↔◌, nat_lt, nat_le, IsTrue, OnOk, if◌then◌else◌, chars, IsUtf8}
use Rattle.std.specs.Bool.{Decides}
use Rattle.std.specs.Char.{is_control}
use Rattle.std.specs.List.{All, flat_map, list_all}
use Rattle.std.specs.Str.{is_utf8}
use Rattle.std.proofs.lemmas.Bool.Decides.{same_from_decides, Decides-and, Decides-by_and, Decides-eqb, Decides-like, Decides-ltb, Decides-not, nat_tests}
use Rattle.std.proofs.lemmas.List.{drop_more, drop_all}
use Rattle.std.proofs.lemmas.List.Concat.{flat_map-append}
use Rattle.std.proofs.lemmas.Str.{IsUtf8-from_is_utf8, is_utf8-from_IsUtf8}
use Rattle.mail_wire.specs.Lines.{crlf}
use Rattle.mail_wire.specs.declared.outside.Fault.{Fault}
use Rattle.mail_wire.specs.declared.values.Memory.{Memory}
use Rattle.unicode_normalization.specs.Forms.{is_nfc}
use Rattle.journal_records.specs.Grammar.{IsFolderName, IsNameChar, kept_name}
use Rattle.journal_records.specs.declared.limits.TheConstants.{NAME_MAX}
use Rattle.journal_records.specs.declared.records.Record.TheVariants as records
use Rattle.kept_mail.specs.Kept.{folder_names, kept_folder_name, listed, uid_next}
use Rattle.mail_store.specs.Changing.{folder_refusal}
use Rattle.mail_store.specs.StoreState.{StoreState}
use Rattle.mail_store.specs.declared.changing.StoreFault.{StoreFault}
use Rattle.mail_store.specs.declared.changing.StoreFault.TheVariants as refusal
use Rattle.surrogate_cache.specs.Served.{Mode, is_enabled}
use Rattle.session_core.specs.Acts.{Act, acts_of}
use Rattle.session_core.specs.Around.{Around}
use Rattle.session_core.specs.Changes.{created_of, folder_changes, unless_refused}
use Rattle.session_core.specs.Doing.{Does, DoesFirst, Makes, Replies}
use Rattle.session_core.specs.Oracles.{Oracles, AreOracles}
use Rattle.session_core.proofs.DoingLemmas.{Does-changes, Does-replies, Does-unchanged}
use Rattle.imap_grammar.specs.declared.command.StatusItem.{StatusItem}
use Rattle.imap_mailboxes.specs.Names.{NamesMailbox, quoted, shown_name}
use Rattle.imap_mailboxes.specs.Patterns.{is_match}
use Rattle.imap_session.specs.Machine.{State, all_flags, create_by, create_unless, folder_lines, list_line, list_lines, may_stand_in_name, names_folder, permanent_flags, spaced, status_line, status_text, tagged, untagged}
use Rattle.imap_session.specs.Replies.{ReplyPart, part_octets, reply_octets}
use Rattle.imap_session.specs.private.Lines.{status_octets, tagged_octets, words_of_created}
use Rattle.imap_session.proofs.LineLemmas.{tagged_reply}

-- ---- SELECT and EXAMINE

-- the flags that can be changed for good
abbrev pub permanent : (read_only : Bool) → List ℕ
permanent read_only = if read_only then [] else codes "\\Answered \\Flagged \\Deleted \\Seen \\Draft"

folder_octets : (oracles : Oracles) (count next : List ℕ) (read_only : Bool)
    → codes "* " ++ (count ++ (codes " EXISTS\r\n* 0 RECENT\r\n* FLAGS (\\Answered \\Flagged \\Deleted \\Seen \\Draft)\r\n* OK [UIDVALIDITY 1] ok\r\n* OK [UIDNEXT "
    ++ (next ++ (codes "] ok\r\n* OK [PERMANENTFLAGS (" ++ (permanent read_only ++ codes ")] ok\r\n")))))
    ≡ reply_octets oracles (untagged (count ++ codes " EXISTS") ∷ untagged (codes "0 RECENT") ∷ untagged (codes "FLAGS " ++ all_flags) ∷ untagged (codes "OK [UIDVALIDITY 1] ok")
    ∷ untagged (codes "OK [UIDNEXT " ++ (next ++ codes "] ok")) ∷ untagged (codes "OK [PERMANENTFLAGS " ++ (permanent_flags read_only ++ codes "] ok")) ∷ [])
folder_octets oracles count next true = simp (append_assoc, append-nil)
folder_octets oracles count next false = simp (append_assoc, append-nil)

-- the lines of a folder
pub folder_made : (oracles : Oracles) (store : StoreState) (folder : ℕ) (read_only : Bool) (count next : ℕ) (told made : List ℕ) → count ≡ length (listed store.kept folder) → next ≡ uid_next store.kept folder
    → told ≡ permanent read_only
    → made ≡ codes "* " ++ (decimal count ++ (codes " EXISTS\r\n* 0 RECENT\r\n* FLAGS (\\Answered \\Flagged \\Deleted \\Seen \\Draft)\r\n* OK [UIDVALIDITY 1] ok\r\n* OK [UIDNEXT "
    ++ (decimal next ++ (codes "] ok\r\n* OK [PERMANENTFLAGS (" ++ (told ++ codes ")] ok\r\n")))))
    → made ≡ reply_octets oracles (folder_lines store folder read_only)
folder_made oracles store folder read_only count next told made count_is next_is told_is made_is =
    rw (made_is, told_is, ← count_is, ← next_is) (folder_octets oracles (decimal count) (decimal next) read_only)

-- ---- LIST

-- the name matches
pub list_line-shown : (oracles : Oracles) (mode : Mode) (pattern folder old shown text following new : List ℕ) (result : Result (Unit {0}) Memory) → shown ≡ shown_name (is_enabled mode) folder
    → is_match pattern shown ≡ true → text ≡ quoted shown → following ≡ (old ++ codes "* LIST () NIL ") ++ text → OnOk result (new ≡ following ++ codes "\r\n")
    → OnOk result (new ≡ old ++ reply_octets oracles (list_line mode pattern folder))
list_line-shown oracles mode pattern folder old shown text following new (Err memory) shown_is matches text_is following_is made = tt
list_line-shown oracles mode pattern folder old shown text following new (Ok unit) shown_is matches text_is following_is made =
    let matched = rw shown_is at matches in
    rw (matched, made, following_is, text_is, shown_is) (simp (append_assoc, append-nil))

-- or it doesn't
pub list_line-other : (oracles : Oracles) (mode : Mode) (pattern folder old shown : List ℕ) → shown ≡ shown_name (is_enabled mode) folder → is_match pattern shown ≡ false
    → old ≡ old ++ reply_octets oracles (list_line mode pattern folder)
list_line-other oracles mode pattern folder old shown shown_is other =
    let missed = rw shown_is at other in
    rw (missed, append-nil) refl

-- the line of one name more
pub list_lines-more : (oracles : Oracles) (mode : Mode) (pattern made : List ℕ) (names : List (List ℕ)) (place : ℕ) (d name lines new whole : List ℕ) → place < length names → made ≡ pattern
    → name ≡ get_or names place d → new ≡ lines ++ reply_octets oracles (list_line mode made name) → lines ++ reply_octets oracles (flat_map (list_line mode pattern) (drop place names)) ≡ whole
    → new ++ reply_octets oracles (flat_map (list_line mode pattern) (drop (place + 1) names)) ≡ whole
list_lines-more oracles mode pattern made names place d name lines new whole inside made_is name_is new_is so_far =
    let now = rw (drop_more names place d inside, flat_map-append (part_octets oracles) (list_line mode pattern (get_or names place d)) (flat_map (list_line mode pattern) (drop (place + 1) names))) at so_far in
    rw (new_is, made_is, name_is, append_assoc) now

pub list_lines-end : (oracles : Oracles) (mode : Mode) (pattern : List ℕ) (names : List (List ℕ)) (place : ℕ) (lines whole : List ℕ) → length names ≤ place
    → lines ++ reply_octets oracles (flat_map (list_line mode pattern) (drop place names)) ≡ whole → lines ≡ whole
list_lines-end oracles mode pattern names place lines whole past so_far =
    let end : drop place names ≡ [] = drop_all place names past in
    sym (append-nil lines) ∙ (rw end at so_far)

-- a pattern that isn't empty asks for the names that match
pub list_lines-whole : (mode : Mode) (store : StoreState) (account : ℕ) (reference pattern : List ℕ) → length pattern ≢ 0
    → list_lines mode store account reference pattern ≡ flat_map (list_line mode (reference ++ pattern)) (folder_names store.kept account)
list_lines-whole mode store account reference [] some = absurd (some refl)
list_lines-whole mode store account reference (x ∷ pattern) some = refl

-- ---- STATUS

-- the line of a folder: its name, and what is told of it
pub status_made : (oracles : Oracles) (mode : Mode) (store : StoreState) (folder : ℕ) (items : List StatusItem) (name texts made : List ℕ)
    → name ≡ quoted (shown_name (is_enabled mode) (kept_folder_name store.kept folder)) → texts ≡ spaced (map (status_text store folder) items) → made ≡ status_octets name texts
    → made ≡ reply_octets oracles (status_line mode store folder items)
status_made oracles mode store folder items name texts made name_is texts_is made_is =
    let line = (codes " (" ++ (spaced (map (status_text store folder) items) ++ codes ")")) ++ crlf in
    rw (made_is, name_is, texts_is) (ap (λ rest. codes "* STATUS " ++ (quoted (shown_name (is_enabled mode) (kept_folder_name store.kept folder)) ++ rest)) (sym (append-nil line)))

-- ---- CREATE

decide_false : (b : Bool) → Decides (not b) (b ≡ false)
decide_false true = (λ is. cc, λ is. cc)
decide_false false = (λ is. refl, λ is. refl)

abbrev CharParts : ℕ → Type 0
CharParts c = (is_control c ≡ false) × ((c ≢ 42) × (c ≢ 37))

from_char : (c : ℕ) → CharParts c → IsNameChar c
from_char c parts = (parts.0, parts.1.0, parts.1.1)

to_char : (c : ℕ) → IsNameChar c → CharParts c
to_char c is = (is.0, (is.1, is.2))

-- this character may stand in a name
decide_char : (c : ℕ) → Decides (may_stand_in_name c) (IsNameChar c)
decide_char c =
    Decides-like (may_stand_in_name c) (from_char c) (to_char c) (Decides-and (not (is_control c)) (not (c == 42) && not (c == 37)) (decide_false (is_control c))
    (Decides-and (not (c == 42)) (not (c == 37)) (Decides-not (c == 42) (Decides-eqb c 42)) (Decides-not (c == 37) (Decides-eqb c 37))))

decide_itself : (b : Bool) → Decides b (b ≡ true)
decide_itself b = (λ is. is, λ is. is)

decide_chars : (cs : List ℕ) → Decides (list_all may_stand_in_name cs) (All IsNameChar cs)
decide_chars cs = Decides-by_and may_stand_in_name IsNameChar (list_all may_stand_in_name) decide_char refl (λ c more. refl) cs

decide_utf8 : (octets : List ℕ) → Decides (is_utf8 octets) (IsUtf8 octets)
decide_utf8 octets = (λ is. IsUtf8-from_is_utf8 octets is, λ utf8. is_utf8-from_IsUtf8 octets utf8)

decide_le : (a b : ℕ) → Decides (nat_le a b) (a ≤ b)
decide_le a b = (λ is. grind (arith, nat_tests), λ below. grind (arith, nat_tests))

abbrev NameParts : List ℕ → Type 0
NameParts octets = IsUtf8 octets × ((0 < length octets) × ((length octets ≤ NAME_MAX) × ((is_nfc (chars octets) ≡ true) × All IsNameChar (chars octets))))

decide_parts : (octets : List ℕ) → Decides (names_folder octets) (NameParts octets)
decide_parts octets =
    let folded = list_all may_stand_in_name (chars octets) in
    let whole = is_nfc (chars octets) && folded in
    let sized = nat_le (length octets) NAME_MAX && whole in
    Decides-and (is_utf8 octets) (nat_lt 0 (length octets) && sized) (decide_utf8 octets)
    (Decides-and (nat_lt 0 (length octets)) sized (Decides-ltb 0 (length octets))
    (Decides-and (nat_le (length octets) NAME_MAX) whole (decide_le (length octets) NAME_MAX) (Decides-and (is_nfc (chars octets)) folded (decide_itself (is_nfc (chars octets))) (decide_chars (chars octets)))))

from_parts : (octets : List ℕ) → NameParts octets → IsFolderName octets
from_parts octets parts = record { some = parts.1.0; short = parts.1.1.0; utf8 = parts.0; nfc = parts.1.1.1.0; each = parts.1.1.1.1 }

to_parts : (octets : List ℕ) → IsFolderName octets → NameParts octets
to_parts octets is = (is.utf8, (is.some, (is.short, (is.nfc, is.each))))

-- whether octets are the name of a folder
pub decide_name : (octets : List ℕ) → Decides (names_folder octets) (IsFolderName octets)
decide_name octets = Decides-like (names_folder octets) (from_parts octets) (to_parts octets) (decide_parts octets)

-- what the test tells
pub name_told : (octets : List ℕ) (may : Bool) → IsTrue may ↔ IsFolderName octets → names_folder octets ≡ may
name_told octets may told = same_from_decides (names_folder octets) may (decide_name octets) told

-- the name that a text writes is the one that was read
pub name_read : (oracles : Oracles) → AreOracles oracles → (enabled told : Bool) (written : List ℕ) (read : Option (List ℕ)) → told ≡ enabled
    → ((name : Option (List ℕ)) → NamesMailbox told written name → read ≡ name) → oracles.name_of enabled written ≡ read
name_read oracles are enabled told written read same one = sym (one (oracles.name_of enabled written) (rw same (are.names enabled written)))

says_done : (oracles : Oracles) (a b : Around) (met : Option Fault) (tag words : List ℕ) → Replies a b met (tagged_octets tag words) → Does (part_octets oracles) a b met (acts_of [] (tagged tag words ∷ []))
says_done oracles a b met tag words replies =
    Does-replies (part_octets oracles) a b met (tagged tag words ∷ []) (subst (λ (octets : List ℕ). Replies a b met octets) (sym (tagged_reply oracles tag words)) replies)

-- a text that writes no name is refused
pub create-unnamed : (oracles : Oracles) (a b : Around) (met : Option Fault) (tag : List ℕ) (state : State) (account : ℕ) (named : Option (List ℕ)) → named ≡ None
    → Replies a b met (tagged_octets tag (codes "NO bad name")) → Does (part_octets oracles) a b met (create_by tag state account a.desk.store named).acts
create-unnamed oracles a b met tag state account named named_is replies = rw named_is (says_done oracles a b met tag (codes "NO bad name") replies)

-- and so is a name that none may be
pub create-refused : (oracles : Oracles) (a b : Around) (met : Option Fault) (tag : List ℕ) (state : State) (account : ℕ) (named : Option (List ℕ)) (given : List ℕ) → named ≡ Some given
    → names_folder (kept_name given) ≡ false → Replies a b met (tagged_octets tag (codes "NO bad name")) → Does (part_octets oracles) a b met (create_by tag state account a.desk.store named).acts
create-refused oracles a b met tag state account named given named_is bad replies = rw (named_is, bad) (says_done oracles a b met tag (codes "NO bad name") replies)

-- the acts of any other name
abbrev made_acts : (tag : List ℕ) → (account : ℕ) → (kept : List ℕ) → Option StoreFault → List (Act ReplyPart)
made_acts tag account kept found = acts_of (unless_refused found (records.Folder account kept ∷ [])) (tagged tag (words_of_created (created_of found)) ∷ [])

create_unless-acts : (tag : List ℕ) (state : State) (account : ℕ) (kept : List ℕ) (found : Option StoreFault) → (create_unless tag state account kept found).acts ≡ made_acts tag account kept found
create_unless-acts tag state account kept None = refl
create_unless-acts tag state account kept (Some refusal.Exists) = refl
create_unless-acts tag state account kept (Some refusal.NoSuch) = refl
create_unless-acts tag state account kept (Some refusal.TooLarge) = refl
create_unless-acts tag state account kept (Some refusal.Keeper) = refl
create_unless-acts tag state account kept (Some refusal.Memory) = refl

create-acts : (tag : List ℕ) (state : State) (account : ℕ) (store : StoreState) (named : Option (List ℕ)) (given : List ℕ) → named ≡ Some given → names_folder (kept_name given) ≡ true
    → (create_by tag state account store named).acts ≡ made_acts tag account (kept_name given) (folder_refusal store.kept account given)
create-acts tag state account store named given named_is good = rw (named_is, good) (create_unless-acts tag state account (kept_name given) (folder_refusal store.kept account given))

-- the folder was made, or not for a reason that is told
pub create-told : (oracles : Oracles) (a b c : Around) (met : Option Fault) (tag : List ℕ) (state : State) (account : ℕ) (named : Option (List ℕ)) (given : List ℕ) → named ≡ Some given
    → names_folder (kept_name given) ≡ true → Makes a b None (folder_changes a.desk.store account given)
    → Replies b c met (tagged_octets tag (words_of_created (created_of (folder_refusal a.desk.store.kept account given))))
    → Does (part_octets oracles) a c met (create_by tag state account a.desk.store named).acts
create-told oracles a b c met tag state account named given named_is good makes replies =
    let words = words_of_created (created_of (folder_refusal a.desk.store.kept account given)) in
    subst (λ (acts : List (Act ReplyPart)). Does (part_octets oracles) a c met acts) (sym (create-acts tag state account a.desk.store named given named_is good))
    (Does-changes (part_octets oracles) a b c met (folder_changes a.desk.store account given) (tagged tag words ∷ []) makes
    (subst (λ (octets : List ℕ). Replies b c met octets) (sym (tagged_reply oracles tag words)) replies))

-- or a fault came before that
pub create-failed : (oracles : Oracles) (a b : Around) (met : Fault) (tag : List ℕ) (state : State) (account : ℕ) (named : Option (List ℕ)) (given : List ℕ) → named ≡ Some given
    → names_folder (kept_name given) ≡ true → Makes a b (Some met) (folder_changes a.desk.store account given)
    → DoesFirst (part_octets oracles) a b met (create_by tag state account a.desk.store named).acts
create-failed oracles a b met tag state account named given named_is good makes =
    let words = words_of_created (created_of (folder_refusal a.desk.store.kept account given)) in
    subst (λ (acts : List (Act ReplyPart)). DoesFirst (part_octets oracles) a b met acts) (sym (create-acts tag state account a.desk.store named given named_is good))
    (Does-unchanged (part_octets oracles) a b met (folder_changes a.desk.store account given) (tagged tag words ∷ []) makes)
