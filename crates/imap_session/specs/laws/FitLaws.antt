-- Whatever is asked for, the replies may be sent, and each message of the store may be kept after what was done.
use Rattle.std.proofs.Common.{◌≡◌, ℕ, ◌+◌, ◌==◌, List, [], ◌∷◌, ◌++◌, length, drop, map, Bool, true, false, not, ◌&&◌, ◌||◌, nat_lt, refl, sym, ap, subst, arith, Option, Some, None, codes, ◌⊎◌, inl, inr, if◌then◌else◌}
use Rattle.std.specs.Char.{to_ascii_uppercase}
use Rattle.std.specs.Fmt.{decimal}
use Rattle.std.specs.List.{AllByRecursion, flat_map, list_all, list_any, join_with_byte}
use Rattle.std.specs.Str.{chars, str_to_ascii_uppercase}
use Rattle.std.proofs.lemmas.Bool.{and_from, and_parts, cond_both, eqb-true}
use Rattle.std.proofs.lemmas.Bool.Decides.{nat_tests}
use Rattle.std.proofs.lemmas.List.Elements.{All-push}
use Rattle.mail_wire.specs.Lines.{crlf}
use Rattle.mail_wire.specs.Octets.{is_ascii, same_name}
use Rattle.mail_wire.specs.declared.values.Span.{Span}
use Rattle.mail_wire.proofs.AllLemmas.{all-append, pass-append, pass-drop, pass-take, pass-weaker}
use Rattle.mail_wire.proofs.NumberLemmas.{ascii-decimal}
use Rattle.journal_records.specs.Grammar.{IsDate, fits_letter, kept_name}
use Rattle.journal_records.specs.Stored.{IsStored}
use Rattle.journal_records.specs.declared.records.Record.{Record}
use Rattle.journal_records.specs.declared.records.Record.TheVariants as records
use Rattle.kept_mail.specs.Kept.{Kept, after_all, after_record, folder_names, kept_folder_name, listed, logged_in, uid_next}
use Rattle.kept_mail.specs.declared.kept.Listed.{Listed}
use Rattle.kept_mail.specs.declared.kept.Message.{Message}
use Rattle.kept_mail.proofs.SameMessages.{AreSameMessages-flags, AreSameMessages-gone}
use Rattle.mail_store.specs.Changing.{append_refusal, expunged, folder_refusal}
use Rattle.mail_store.specs.Following.{records_of}
use Rattle.mail_store.specs.StoreState.{StoreState, AreStored}
use Rattle.mail_store.specs.declared.changing.StoreFault.{StoreFault}
use Rattle.mail_store.specs.declared.changing.StoreFault.TheVariants as refusal
use Rattle.mail_store.proofs.IndexLemmas.{AreStored-same}
use Rattle.mime_tree.specs.declared.sections.Part.TheVariants as place
use Rattle.surrogate_rope.specs.Layout.{HasAsciiBlocks}
use Rattle.surrogate_cache.specs.Caching.{Asked}
use Rattle.surrogate_cache.specs.Served.{Mode, legacy, enabled, is_enabled}
use Rattle.session_core.specs.Acts.{Act, IsFitAct, asking, asks, changes, changes_in, gives}
use Rattle.session_core.specs.Desks.{stored_date, stored_octets}
use Rattle.session_core.specs.Oracles.{Oracles, AreOracles}
use Rattle.session_core.specs.Moments.{Moment}
use Rattle.session_core.proofs.StoredLemmas.{dated_at, stored_at, surrogate_shown}
use Rattle.imap_words.specs.Tokens.{IsTag, is_astring_char, is_atom_char, is_atom_special, is_char, is_resp_special, is_quoted_special, is_tag_char}
use Rattle.imap_words.specs.Utf7.{modified_utf7}
use Rattle.imap_words.proofs.Utf7Lemmas.{written_ascii}
use Rattle.imap_grammar.specs.Commands.{IsCommand, Tagged}
use Rattle.imap_grammar.specs.Events.{Appends, IsAppending, IsDue}
use Rattle.imap_grammar.specs.declared.command.Command.{Command}
use Rattle.imap_grammar.specs.declared.command.Command.TheVariants as command
use Rattle.imap_grammar.specs.declared.command.FetchItem.{FetchItem}
use Rattle.imap_grammar.specs.declared.command.FetchItem.TheVariants as item
use Rattle.imap_grammar.specs.declared.command.SectionPart.{SectionPart}
use Rattle.imap_grammar.specs.declared.command.SectionPart.TheVariants as part
use Rattle.imap_grammar.specs.declared.command.Set.{Set}
use Rattle.imap_grammar.specs.declared.command.StatusItem.{StatusItem}
use Rattle.imap_grammar.specs.declared.command.StatusItem.TheVariants as status
use Rattle.imap_grammar.specs.declared.event.Event.{Event}
use Rattle.imap_grammar.specs.declared.event.Event.TheVariants.{More, Go, Command as CommandEvent, Bad, TooLarge, TooLong}
use Rattle.imap_mailboxes.specs.Flags.{flag_word, flag_words, flags_text, has_flag, stored_flags}
use Rattle.imap_mailboxes.specs.Names.{in_quotes, quoted, shown_name}
use Rattle.imap_mailboxes.specs.Patterns.{is_match}
use Rattle.imap_mailboxes.specs.Sets.{is_refused}
use Rattle.imap_views.specs.Views.{envelope, fields, structure}
use Rattle.imap_session.specs.laws.CommandLaws.{AsksAscii, FetchesAscii, IsAsciiName, NamesAscii, is_date_date, names_of, said_of}
use Rattle.imap_session.specs.Items.{asked_of, field_name, fields_parts, fields_word, header_octets, is_flags, is_uid, item_parts, literal_head, octets_at, part_words, partial_octets, partial_span, partial_text, section_at, section_name, section_parts, served_of, shown_parts, size_of, whole_header}
use Rattle.imap_session.specs.Machine.{Append, Context, Fetch, Fetching, Selection, State, Step, Store, Numbered, append_in, append_octets, append_unless, appended, authenticated, becomes_seen, chosen, close_step, closing_up, common_step, completed, context_of, create_by, create_unless, deleted_ids, done, enable_step, ends_with, exists_lines, expunge_step, fetch_one, fetch_reply, fetch_step, fetch_told, fetching_in, flags_reply, flags_change, folder_lines, folder_named, for_each, line, names_folder, no_such_message, opened_in, out_of_order, refused_as_read_only, says, untagged, is_deleted, list_line, list_lines, login_by, mailbox_step, not_authenticated, not_authenticated_step, opened_words, parts_following, permanent_flags, reply, seen, select_by, selected, selected_step, authenticated_step, spaced, status_among, status_by, status_line, status_text, step, store_one, store_step, tagged, taken_out, uid_text, unseen_among, with_flags, with_uid, asks_utf8, ended}
use Rattle.imap_session.specs.Replies.{AreFit, IsFit, ReplyPart, text, name, shown, viewed}
use Rattle.imap_session.specs.Session.{IsSaid, date_at, due_step, fits_shape, is_date, long_ago}
use Rattle.imap_session.specs.laws.ViewLaws.{ascii_envelope, ascii_fields, ascii_header, ascii_structure, first_header}

-- ---- acts

-- the message of a record, if it has one, may be kept
abbrev pub MayBeKept : Record → Type 0
MayBeKept (records.Message folder flags mark date octets) = IsDate date × IsStored octets
MayBeKept other = Unit {0}

-- what is given may be sent, and each message that a change adds may be kept
abbrev pub IsRightAct : Oracles → Act ReplyPart → Type 0
IsRightAct oracles (gives part) = IsFit oracles part
IsRightAct oracles (changes made) = AllByRecursion MayBeKept made
IsRightAct oracles (asks asked) = Unit {0}

abbrev pub AreRight : Oracles → List (Act ReplyPart) → Type 0
AreRight oracles acts = AllByRecursion (IsRightAct oracles) acts

pub fit_of : (oracles : Oracles) (acts : List (Act ReplyPart)) → AreRight oracles acts → AllByRecursion (IsFitAct (IsFit oracles)) acts
fit_of oracles [] right = tt
fit_of oracles (gives part ∷ acts) right = (right.0, fit_of oracles acts right.1)
fit_of oracles (changes made ∷ acts) right = (tt, fit_of oracles acts right.1)
fit_of oracles (asks asked ∷ acts) right = (tt, fit_of oracles acts right.1)

stored_after : (kept : Kept) (one : Record) → MayBeKept one → AreStored kept.messages → AreStored (after_record kept one).messages
stored_after kept (records.Folder account folder_name) may stored = stored
stored_after kept (records.Flags message flags) may stored = AreStored-same kept.messages _ stored (AreSameMessages-flags flags kept.messages message)
stored_after kept (records.Expunge message) may stored = AreStored-same kept.messages _ stored (AreSameMessages-gone kept.messages message)
stored_after kept (records.Account address password) may stored = stored
stored_after kept (records.Domain domain) may stored = stored
stored_after kept (records.Message folder flags mark date octets) may stored =
    let message : Message = record { folder = folder; flags = flags; live = true; date = date; octets = octets } in
    record {
      each = All-push (λ (one : Message). IsStored one.octets) kept.messages message stored.each may.1;
      dated = All-push (λ (one : Message). IsDate one.date) kept.messages message stored.dated may.0;
    }
stored_after kept (records.Queue path addresses mark octets) may stored = stored
stored_after kept (records.Settle entry index) may stored = stored
stored_after kept records.Version may stored = stored

stored_following : (kept : Kept) (made : List Record) → AllByRecursion MayBeKept made → AreStored kept.messages → (others : List Record)
    → ((between : Kept) → AreStored between.messages → AreStored (after_all between others).messages) → AreStored (after_all kept (made ++ others)).messages
stored_following kept [] may stored others later = later kept stored
stored_following kept (one ∷ made) may stored others later = stored_following (after_record kept one) made may.1 (stored_after kept one may.0 stored) others later

pub stored_of : (oracles : Oracles) (kept : Kept) (acts : List (Act ReplyPart)) → AreRight oracles acts → AreStored kept.messages → AreStored (after_all kept (records_of (changes_in acts))).messages
stored_of oracles kept [] right stored = stored
stored_of oracles kept (gives part ∷ acts) right stored = stored_of oracles kept acts right.1 stored
stored_of oracles kept (changes made ∷ acts) right stored =
    stored_following kept made right.0 stored (records_of (changes_in acts)) (λ between are. stored_of oracles between acts right.1 are)
stored_of oracles kept (asks asked ∷ acts) right stored = stored_of oracles kept acts right.1 stored

-- ---- lists

reply_right : (oracles : Oracles) (parts : List ReplyPart) → AreFit oracles parts → AreRight oracles (reply parts)
reply_right oracles [] fit = tt
reply_right oracles (part ∷ parts) fit = (fit.0, reply_right oracles parts fit.1)

asking_right : (oracles : Oracles) (asked : List Asked) (acts : List (Act ReplyPart)) → AreRight oracles acts → AreRight oracles (asking asked acts)
asking_right oracles [] acts right = right
asking_right oracles (one ∷ asked) acts right = (tt, asking_right oracles asked acts right)

each_right : {T : Type 0} (oracles : Oracles) (act : T → List (Act ReplyPart)) → ((one : T) → AreRight oracles (act one)) → (all : List T) → AreRight oracles (flat_map act all)
each_right oracles act right [] = tt
each_right oracles act right (one ∷ all) = all-append (IsRightAct oracles) (act one) (flat_map act all) (right one) (each_right oracles act right all)

each_fit : {T : Type 0} (oracles : Oracles) (parts : T → List ReplyPart) → ((one : T) → AreFit oracles (parts one)) → (all : List T) → AreFit oracles (flat_map parts all)
each_fit oracles parts fit [] = tt
each_fit oracles parts fit (one ∷ all) = all-append (IsFit oracles) (parts one) (flat_map parts all) (fit one) (each_fit oracles parts fit all)

-- a text between others
between : (front middle back : List ℕ) → list_all is_ascii front ≡ true → list_all is_ascii middle ≡ true → list_all is_ascii back ≡ true → list_all is_ascii (front ++ (middle ++ back)) ≡ true
between front middle back first second third = pass-append is_ascii front (middle ++ back) first (pass-append is_ascii middle back second third)

-- a number after words, and before others
number_fit : (front : List ℕ) (n : ℕ) (back : List ℕ) → list_all is_ascii front ≡ true → list_all is_ascii back ≡ true → list_all is_ascii (front ++ (decimal n ++ back)) ≡ true
number_fit front n back first third = between front (decimal n) back first (ascii-decimal n) third

-- a line
line_fit : (octets : List ℕ) → list_all is_ascii octets ≡ true → list_all is_ascii (octets ++ crlf) ≡ true
line_fit octets fit = pass-append is_ascii octets crlf fit refl

untagged_fit : (octets : List ℕ) → list_all is_ascii octets ≡ true → list_all is_ascii ((codes "* " ++ octets) ++ crlf) ≡ true
untagged_fit octets fit = line_fit (codes "* " ++ octets) (pass-append is_ascii (codes "* ") octets refl fit)

-- ---- the line that ends the replies

module _ (oracles : Oracles) (tag : List ℕ) (tag_fit : list_all is_ascii tag ≡ true) where
  ends_right : (words : List ℕ) (acts : List (Act ReplyPart)) (state : State) → list_all is_ascii words ≡ true → AreRight oracles acts → AreRight oracles (ends_with tag words acts state).acts
  ends_right words acts state fit right =
      all-append (IsRightAct oracles) acts (reply (tagged tag words ∷ [])) right (line_fit (tag ++ (codes " " ++ words)) (between tag (codes " ") words tag_fit refl fit), tt)

  answers_right : (words : List ℕ) (parts : List ReplyPart) (state : State) → list_all is_ascii words ≡ true → AreFit oracles parts → AreRight oracles (ends_with tag words (reply parts) state).acts
  answers_right words parts state fit parts_fit = ends_right words (reply parts) state fit (reply_right oracles parts parts_fit)

  says_right : (words : List ℕ) (state : State) → list_all is_ascii words ≡ true → AreRight oracles (ends_with tag words [] state).acts
  says_right words state fit = ends_right words [] state fit tt

  either_right : (b : Bool) (one other : Step) → AreRight oracles one.acts → AreRight oracles other.acts → AreRight oracles (if b then one else other).acts
  either_right true one other first second = first
  either_right false one other first second = second

  -- ---- LOGIN and ENABLE

  login_right : (found : Option ℕ) → AreRight oracles (login_by tag found).acts
  login_right None = says_right (codes "NO no") not_authenticated refl
  login_right (Some account) = says_right done (authenticated legacy account) refl

  enable_right : (mode : Mode) (account : ℕ) (asked : Bool) → AreRight oracles (enable_step tag mode account asked).acts
  enable_right legacy account true = answers_right done (untagged (codes "ENABLED UTF8=ACCEPT") ∷ []) (authenticated enabled account) refl (refl, tt)
  enable_right legacy account false = answers_right done (untagged (codes "ENABLED") ∷ []) (authenticated legacy account) refl (refl, tt)
  enable_right enabled account asked = answers_right done (untagged (codes "ENABLED") ∷ []) (authenticated enabled account) refl (refl, tt)

  -- ---- folders

  opened_fit : (read_only : Bool) → list_all is_ascii (opened_words read_only) ≡ true
  opened_fit true = refl
  opened_fit false = refl

  permanent_fit : (read_only : Bool) → list_all is_ascii (codes "OK [PERMANENTFLAGS " ++ (permanent_flags read_only ++ codes "] ok")) ≡ true
  permanent_fit true = refl
  permanent_fit false = refl

  folder_fit : (store : StoreState) (folder : ℕ) (read_only : Bool) → AreFit oracles (folder_lines store folder read_only)
  folder_fit store folder read_only =
      let count = decimal (length (listed store.kept folder)) in
      let next = uid_next store.kept folder in
      let exists : list_all is_ascii (count ++ codes " EXISTS") ≡ true = pass-append is_ascii count (codes " EXISTS") (ascii-decimal (length (listed store.kept folder))) refl in (
        untagged_fit (count ++ codes " EXISTS") exists,
        (
          refl,
          (
            refl,
            (
              refl,
              (
                untagged_fit (codes "OK [UIDNEXT " ++ (decimal next ++ codes "] ok")) (number_fit (codes "OK [UIDNEXT ") next (codes "] ok") refl refl),
                (untagged_fit (codes "OK [PERMANENTFLAGS " ++ (permanent_flags read_only ++ codes "] ok")) (permanent_fit read_only), tt),
              ),
            ),
          ),
        ),
      )

  select_right : (mode : Mode) (account : ℕ) (read_only : Bool) (store : StoreState) (found : Option ℕ) → AreRight oracles (select_by tag mode account read_only store found).acts
  select_right mode account read_only store None = says_right (codes "NO no such folder") (authenticated mode account) refl
  select_right mode account read_only store (Some folder) = answers_right (opened_words read_only) (folder_lines store folder read_only) (selected (record { mode = mode; account = account; folder = folder; read_only = read_only })) (opened_fit read_only) (folder_fit store folder read_only)

  unless_right : (state : State) (account : ℕ) (kept : List ℕ) (refused : Option StoreFault) → AreRight oracles (create_unless tag state account kept refused).acts
  unless_right state account kept None = ends_right done (changes (records.Folder account kept ∷ []) ∷ []) state refl ((tt, tt), tt)
  unless_right state account kept (Some refusal.Exists) = says_right (codes "NO exists") state refl
  unless_right state account kept (Some refusal.NoSuch) = says_right (codes "NO too large") state refl
  unless_right state account kept (Some refusal.TooLarge) = says_right (codes "NO too large") state refl
  unless_right state account kept (Some refusal.Memory) = says_right (codes "NO too large") state refl
  unless_right state account kept (Some refusal.Keeper) = says_right (codes "NO too large") state refl

  create_right : (state : State) (account : ℕ) (store : StoreState) (given : Option (List ℕ)) → AreRight oracles (create_by tag state account store given).acts
  create_right state account store None = says_right (codes "NO bad name") state refl
  create_right state account store (Some given) =
      let refused = folder_refusal store.kept account given in
      either_right (names_folder (kept_name given)) (create_unless tag state account (kept_name given) refused) (says tag (codes "NO bad name") state)
      (unless_right state account (kept_name given) refused) (says_right (codes "NO bad name") state refl)

-- ---- names

-- an octet stays ASCII in quotes
in_quotes_fit : (x : ℕ) → is_ascii x ≡ true → list_all is_ascii (in_quotes x) ≡ true
in_quotes_fit x fit = cond_both (is_quoted_special x) (92 ∷ x ∷ []) (x ∷ []) (λ z. list_all is_ascii z ≡ true) (λ _. pass-append is_ascii (92 ∷ []) (x ∷ []) refl (alone fit)) (λ _. alone fit)
  where
    alone : is_ascii x ≡ true → list_all is_ascii (x ∷ []) ≡ true
    alone fit = rw fit refl

in_quotes_all : (octets : List ℕ) → list_all is_ascii octets ≡ true → list_all is_ascii (flat_map in_quotes octets) ≡ true
in_quotes_all [] fit = refl
in_quotes_all (x ∷ octets) fit =
    let parts = and_parts (is_ascii x) (list_all is_ascii octets) fit in
    pass-append is_ascii (in_quotes x) (flat_map in_quotes octets) (in_quotes_fit x parts.0) (in_quotes_all octets parts.1)

name_fit : (oracles : Oracles) (mode : Mode) (octets : List ℕ) → IsFit oracles (name mode octets)
name_fit oracles legacy octets = pass-append is_ascii (34 ∷ []) (flat_map in_quotes (modified_utf7 octets) ++ 34 ∷ []) refl (pass-append is_ascii (flat_map in_quotes (modified_utf7 octets)) (34 ∷ []) (in_quotes_all (modified_utf7 octets) (written_ascii [] (chars octets))) refl)
name_fit oracles enabled octets = tt

list_line_fit : (oracles : Oracles) (mode : Mode) (pattern folder_name : List ℕ) → AreFit oracles (list_line mode pattern folder_name)
list_line_fit oracles mode pattern folder_name =
    cond_both (is_match pattern (shown_name (is_enabled mode) folder_name)) (text (codes "* LIST () NIL ") ∷ name mode folder_name ∷ text crlf ∷ []) [] (λ z. AreFit oracles z) (λ _. (refl, (name_fit oracles mode folder_name, (refl, tt)))) (λ _. tt)

list_fit : (oracles : Oracles) (mode : Mode) (store : StoreState) (account : ℕ) (reference pattern : List ℕ) → AreFit oracles (list_lines mode store account reference pattern)
list_fit oracles mode store account reference [] = (refl, tt)
list_fit oracles mode store account reference (x ∷ pattern) =
    each_fit oracles (list_line mode (reference ++ x ∷ pattern)) (λ folder_name. list_line_fit oracles mode (reference ++ x ∷ pattern) folder_name) (folder_names store.kept account)

-- ---- STATUS

after_words : (words : List ℕ) (n : ℕ) → list_all is_ascii words ≡ true → list_all is_ascii (words ++ decimal n) ≡ true
after_words words n fit = pass-append is_ascii words (decimal n) fit (ascii-decimal n)

among_fit : (asked : StatusItem) (messages : List Listed) (next : ℕ) → list_all is_ascii (status_among asked messages next) ≡ true
among_fit status.Messages messages next = after_words (codes "MESSAGES ") (length messages) refl
among_fit status.Recent messages next = refl
among_fit status.UidNext messages next = after_words (codes "UIDNEXT ") next refl
among_fit status.UidValidity messages next = refl
among_fit status.Unseen messages next = after_words (codes "UNSEEN ") (unseen_among messages) refl

spaced_fit : (store : StoreState) (folder : ℕ) (items : List StatusItem) → list_all is_ascii (spaced (map (status_text store folder) items)) ≡ true
spaced_fit store folder [] = refl
spaced_fit store folder (one ∷ []) = among_fit one (listed store.kept folder) (uid_next store.kept folder)
spaced_fit store folder (one ∷ next ∷ others) = between (status_text store folder one) (codes " ") (spaced (map (status_text store folder) (next ∷ others))) (among_fit one (listed store.kept folder) (uid_next store.kept folder)) refl (spaced_fit store folder (next ∷ others))

status_fit : (oracles : Oracles) (mode : Mode) (store : StoreState) (folder : ℕ) (items : List StatusItem) → AreFit oracles (status_line mode store folder items)
status_fit oracles mode store folder items =
    let texts = spaced (map (status_text store folder) items) in
    (refl, (name_fit oracles mode (kept_folder_name store.kept folder), (line_fit (codes " (" ++ (texts ++ codes ")")) (between (codes " (") texts (codes ")") refl (spaced_fit store folder items) refl), tt)))

-- ---- FETCH

flag_fit : (flags flag : ℕ) (word : List ℕ) → list_all is_ascii word ≡ true → AllByRecursion IsAsciiName (flag_word flags flag word)
flag_fit flags flag word fit = cond_both (has_flag flags flag) (word ∷ []) [] (λ z. AllByRecursion IsAsciiName z) (λ _. (fit, tt)) (λ _. tt)

words_fit : (flags : ℕ) → AllByRecursion IsAsciiName (flag_words flags)
words_fit flags =
    let answered = flag_fit flags 2 (codes "\\Answered") refl in
    let flagged = flag_fit flags 4 (codes "\\Flagged") refl in
    let deleted = flag_fit flags 8 (codes "\\Deleted") refl in
    let is_seen = flag_fit flags 1 (codes "\\Seen") refl in
    let draft = flag_fit flags 16 (codes "\\Draft") refl in
    let last = all-append IsAsciiName (flag_word flags 1 (codes "\\Seen")) (flag_word flags 16 (codes "\\Draft")) is_seen draft in
    let three = all-append IsAsciiName (flag_word flags 8 (codes "\\Deleted")) (flag_word flags 1 (codes "\\Seen") ++ flag_word flags 16 (codes "\\Draft")) deleted last in
    let four = all-append IsAsciiName (flag_word flags 4 (codes "\\Flagged")) (flag_word flags 8 (codes "\\Deleted") ++ (flag_word flags 1 (codes "\\Seen") ++ flag_word flags 16 (codes "\\Draft"))) flagged three in
    all-append IsAsciiName (flag_word flags 2 (codes "\\Answered")) (flag_word flags 4 (codes "\\Flagged") ++ (flag_word flags 8 (codes "\\Deleted") ++ (flag_word flags 1 (codes "\\Seen") ++ flag_word flags 16 (codes "\\Draft")))) answered four

joined_fit : (x : ℕ) → list_all is_ascii (x ∷ []) ≡ true → (words : List (List ℕ)) → AllByRecursion IsAsciiName words → list_all is_ascii (join_with_byte x words) ≡ true
joined_fit x between_fit [] fit = refl
joined_fit x between_fit (one ∷ []) fit = fit.0
joined_fit x between_fit (one ∷ next ∷ others) fit =
    pass-append is_ascii one (x ∷ join_with_byte x (next ∷ others)) fit.0 (pass-append is_ascii (x ∷ []) (join_with_byte x (next ∷ others)) between_fit (joined_fit x between_fit (next ∷ others) fit.1))

flags_fit : (flags : ℕ) → list_all is_ascii (flags_text flags) ≡ true
unfolding flags_text
flags_fit flags = pass-append is_ascii (codes "FLAGS (") (join_with_byte 32 (flag_words flags) ++ 41 ∷ []) refl (pass-append is_ascii (join_with_byte 32 (flag_words flags)) (41 ∷ []) (joined_fit 32 refl (flag_words flags) (words_fit flags)) refl)

-- ---- names of sections

numbers_fit : (path : List ℕ) → AllByRecursion IsAsciiName (map decimal path)
numbers_fit [] = tt
numbers_fit (n ∷ path) = (ascii-decimal n, numbers_fit path)

upper_fit : (octets : List ℕ) → list_all is_ascii octets ≡ true → list_all is_ascii (str_to_ascii_uppercase octets) ≡ true
upper_fit [] fit = refl
upper_fit (x ∷ octets) fit =
    let parts = and_parts (is_ascii x) (list_all is_ascii octets) fit in
    and_from (is_ascii (to_ascii_uppercase x)) (list_all is_ascii (str_to_ascii_uppercase octets)) (one parts.0) (upper_fit octets parts.1)
  where
    one : is_ascii x ≡ true → is_ascii (to_ascii_uppercase x) ≡ true
    one low = grind (arith, nat_tests)

quoted_fit : (octets : List ℕ) → list_all is_ascii octets ≡ true → list_all is_ascii (quoted octets) ≡ true
quoted_fit octets fit = pass-append is_ascii (34 ∷ []) (flat_map in_quotes octets ++ 34 ∷ []) refl (pass-append is_ascii (flat_map in_quotes octets) (34 ∷ []) (in_quotes_all octets fit) refl)

field_fit : (octets : List ℕ) → list_all is_ascii octets ≡ true → list_all is_ascii (field_name octets) ≡ true
field_fit octets fit =
    let upper = str_to_ascii_uppercase octets in
    cond_both (list_all is_atom_char upper) upper (quoted upper) (λ z. list_all is_ascii z ≡ true) (λ _. upper_fit octets fit) (λ _. quoted_fit upper (upper_fit octets fit))

fields_fit : (names : List (List ℕ)) → AllByRecursion IsAsciiName names → AllByRecursion IsAsciiName (map field_name names)
fields_fit [] fit = tt
fields_fit (one ∷ names) fit = (field_fit one fit.0, fields_fit names fit.1)

word_fit : (negated : Bool) → list_all is_ascii (fields_word negated) ≡ true
word_fit true = refl
word_fit false = refl

part_fit : (what : SectionPart) → NamesAscii what → AllByRecursion IsAsciiName (part_words what)
part_fit part.Whole fit = tt
part_fit part.Header fit = (refl, tt)
part_fit (part.Fields names negated) fit =
    let listed = join_with_byte 32 (map field_name names) in
    (between (fields_word negated) listed (codes ")") (word_fit negated) (joined_fit 32 refl (map field_name names) (fields_fit names fit)) refl, tt)
part_fit part.Text fit = (refl, tt)
part_fit part.Mime fit = (refl, tt)

partial_fit : (partial : Option (ℕ × ℕ)) → list_all is_ascii (partial_text partial) ≡ true
partial_fit None = refl
partial_fit (Some asked) = number_fit (codes "<") asked.0 (codes ">") refl refl

section_name_fit : (path : List ℕ) (what : SectionPart) (partial : Option (ℕ × ℕ)) → NamesAscii what → list_all is_ascii (section_name path what partial) ≡ true
section_name_fit path what partial fit =
    let words = map decimal path ++ part_words what in
    between (codes "BODY[") (join_with_byte 46 words) (codes "]" ++ partial_text partial) refl
    (joined_fit 46 refl words (all-append IsAsciiName (map decimal path) (part_words what) (numbers_fit path) (part_fit what fit))) (pass-append is_ascii (codes "]") (partial_text partial) refl (partial_fit partial))

-- ---- what is shown of a message

partial_ascii : (partial : Option (ℕ × ℕ)) (octets : List ℕ) → list_all is_ascii octets ≡ true → list_all is_ascii (partial_octets partial octets) ≡ true
partial_ascii None octets fit = fit
partial_ascii (Some asked) octets fit = pass-take is_ascii asked.1 (drop asked.0 octets) (pass-drop is_ascii asked.0 octets fit)

shown_fit : (oracles : Oracles) → AreOracles oracles → (mode : Mode) (store : StoreState) (id at size : ℕ) → AreStored store.kept.messages → IsFit oracles (shown (stored_octets store id) mode at size)
shown_fit oracles are legacy store id at size stored = surrogate_shown oracles are (stored_octets store id) (stored_at store id stored)
shown_fit oracles are enabled store id at size stored = tt

-- the headers of what a legacy session is shown are ASCII
blocks_of : (oracles : Oracles) → AreOracles oracles → (store : StoreState) (id : ℕ) → AreStored store.kept.messages → HasAsciiBlocks (oracles.surrogate (stored_octets store id))
blocks_of oracles are store id stored = (surrogate_shown oracles are (stored_octets store id) (stored_at store id stored)).1

structure_fit : (oracles : Oracles) → AreOracles oracles → (mode : Mode) (store : StoreState) → AreStored store.kept.messages → (one : Listed) (extended : Bool)
    → IsFit oracles (viewed mode (oracles.view_of (structure extended) (served_of oracles mode store one)))
structure_fit oracles are legacy store stored one extended = ascii_structure oracles are (oracles.surrogate (stored_octets store one.id)) (blocks_of oracles are store one.id stored) extended
structure_fit oracles are enabled store stored one extended = tt

envelope_fit : (oracles : Oracles) → AreOracles oracles → (mode : Mode) (store : StoreState) → AreStored store.kept.messages → (one : Listed)
    → IsFit oracles (viewed mode (oracles.view_of envelope (whole_header oracles mode store one)))
envelope_fit oracles are legacy store stored one =
    let octets = oracles.surrogate (stored_octets store one.id) in
    let blocks = blocks_of oracles are store one.id stored in
    let first = first_header oracles are octets blocks in
    subst (λ found. list_all is_ascii (oracles.view_of envelope (header_octets oracles legacy store one found)) ≡ true) (sym first.1)
    (ascii_envelope oracles are (octets_at oracles legacy store one first.0) (ascii_header oracles are octets blocks [] first.0 first.1))
envelope_fit oracles are enabled store stored one = tt

chosen_fit : (oracles : Oracles) → AreOracles oracles → (mode : Mode) (store : StoreState) → AreStored store.kept.messages → (one : Listed) (path : List ℕ) (names : List (List ℕ)) (negated : Bool)
    (partial : Option (ℕ × ℕ)) (span : Span) → section_at oracles mode store one path place.Header ≡ Some span
    → IsFit oracles (viewed mode (partial_octets partial (oracles.view_of (fields names negated) (octets_at oracles mode store one span))))
chosen_fit oracles are legacy store stored one path names negated partial span is =
    let octets = oracles.surrogate (stored_octets store one.id) in
    let header = octets_at oracles legacy store one span in
    partial_ascii partial (oracles.view_of (fields names negated) header)
    (ascii_fields oracles are header names negated (ascii_header oracles are octets (blocks_of oracles are store one.id stored) path span is))
chosen_fit oracles are enabled store stored one path names negated partial span is = tt

-- items that are added ask for no names
uid_ascii : (by_uid : Bool) (items : List FetchItem) → AllByRecursion AsksAscii items → AllByRecursion AsksAscii (with_uid by_uid items)
uid_ascii by_uid items ascii = cond_both (by_uid && not (list_any is_uid items)) (item.Uid ∷ items) items (λ z. AllByRecursion AsksAscii z) (λ _. (tt, ascii)) (λ _. ascii)

flags_ascii : (changed : Bool) (items : List FetchItem) → AllByRecursion AsksAscii items → AllByRecursion AsksAscii (with_flags changed items)
flags_ascii changed items ascii =
    cond_both (changed && not (list_any is_flags items)) (items ++ item.Flags ∷ []) items (λ z. AllByRecursion AsksAscii z) (λ _. all-append AsksAscii items (item.Flags ∷ []) ascii (tt, tt)) (λ _. ascii)

module _ (oracles : Oracles) (are : AreOracles oracles) (mode : Mode) (store : StoreState) (stored : AreStored store.kept.messages) where
  head_fit : (asked : List ℕ) (size : ℕ) → list_all is_ascii asked ≡ true → IsFit oracles (literal_head asked size)
  head_fit asked size fit = pass-append is_ascii asked (codes " {" ++ (decimal size ++ codes "}\r\n")) fit (number_fit (codes " {") size (codes "}\r\n") refl refl)

  nil_fit : (asked : List ℕ) → list_all is_ascii asked ≡ true → AreFit oracles (text (asked ++ codes " NIL") ∷ [])
  nil_fit asked fit = (pass-append is_ascii asked (codes " NIL") fit refl, tt)

  span_fit : (one : Listed) (asked : List ℕ) (partial : Option (ℕ × ℕ)) (found : Option Span) → list_all is_ascii asked ≡ true → AreFit oracles (shown_parts mode store one asked partial found)
  span_fit one asked partial None fit = nil_fit asked fit
  span_fit one asked partial (Some span) fit =
      let at = partial_span partial span in
      (head_fit asked at.len fit, (shown_fit oracles are mode store one.id at.at at.len stored, tt))

  chosen_parts_fit : (one : Listed) (asked path : List ℕ) (names : List (List ℕ)) (negated : Bool) (partial : Option (ℕ × ℕ)) (found : Option Span) → list_all is_ascii asked ≡ true
      → section_at oracles mode store one path place.Header ≡ found → AreFit oracles (fields_parts oracles mode store one asked partial (fields names negated) found)
  chosen_parts_fit one asked path names negated partial None fit at = nil_fit asked fit
  chosen_parts_fit one asked path names negated partial (Some span) fit at =
      let told = partial_octets partial (oracles.view_of (fields names negated) (octets_at oracles mode store one span)) in
      (head_fit asked (length told) fit, (chosen_fit oracles are mode store stored one path names negated partial span at, tt))

  section_fit : (one : Listed) (asked path : List ℕ) (what : SectionPart) (partial : Option (ℕ × ℕ)) → list_all is_ascii asked ≡ true
      → AreFit oracles (section_parts oracles mode store one asked path what partial)
  section_fit one asked path (part.Fields names negated) partial fit = chosen_parts_fit one asked path names negated partial _ fit refl
  section_fit one asked path part.Whole partial fit = span_fit one asked partial _ fit
  section_fit one asked path part.Header partial fit = span_fit one asked partial _ fit
  section_fit one asked path part.Text partial fit = span_fit one asked partial _ fit
  section_fit one asked path part.Mime partial fit = span_fit one asked partial _ fit

  item_fit : (one : Listed) (asked : FetchItem) → AsksAscii asked → AreFit oracles (item_parts oracles mode store one asked)
  item_fit one item.Flags ascii = (flags_fit one.flags, tt)
  item_fit one item.Uid ascii = (after_words (codes "UID ") one.uid refl, tt)
  item_fit one item.InternalDate ascii = (between (codes "INTERNALDATE \"") (stored_date store one.id) (codes "\"") refl (dated_at store one.id stored) refl, tt)
  item_fit one item.Size ascii = (after_words (codes "RFC822.SIZE ") (size_of oracles mode store one) refl, tt)
  item_fit one item.Rfc822 ascii = section_fit one (codes "RFC822") [] part.Whole None refl
  item_fit one item.Rfc822Header ascii = section_fit one (codes "RFC822.HEADER") [] part.Header None refl
  item_fit one item.Rfc822Text ascii = section_fit one (codes "RFC822.TEXT") [] part.Text None refl
  item_fit one item.Envelope ascii = (refl, (envelope_fit oracles are mode store stored one, tt))
  item_fit one item.Body ascii = (refl, (structure_fit oracles are mode store stored one false, tt))
  item_fit one item.BodyStructure ascii = (refl, (structure_fit oracles are mode store stored one true, tt))
  item_fit one (item.Section peek path what partial) ascii = section_fit one (section_name path what partial) path what partial (section_name_fit path what partial ascii)

  after_fit : (others : Bool) (one : Listed) (items : List FetchItem) → AllByRecursion AsksAscii items → AreFit oracles (parts_following others (map (item_parts oracles mode store one) items))
  after_fit others one [] ascii = tt
  after_fit false one (asked ∷ items) ascii =
      all-append (IsFit oracles) (item_parts oracles mode store one asked) (parts_following true (map (item_parts oracles mode store one) items)) (item_fit one asked ascii.0) (after_fit true one items ascii.1)
  after_fit true one (asked ∷ items) ascii = (
    refl,
    all-append (IsFit oracles) (item_parts oracles mode store one asked) (parts_following true (map (item_parts oracles mode store one) items)) (item_fit one asked ascii.0) (after_fit true one items ascii.1),
  )

  fetch_fit : (number : ℕ) (one : Listed) (items : List FetchItem) → AllByRecursion AsksAscii items → AreFit oracles (fetch_reply oracles mode store number one items)
  fetch_fit number one items ascii = (
    number_fit (codes "* ") number (codes " FETCH (") refl refl,
    all-append (IsFit oracles) (parts_following false (map (item_parts oracles mode store one) items)) (line (codes ")") ∷ []) (after_fit false one items ascii) (refl, tt),
  )

  fetch_one_right : (by_uid read_only : Bool) (items : List FetchItem) → AllByRecursion AsksAscii items → (one : Numbered)
      → AreRight oracles (fetch_one oracles store (record { mode = mode; read_only = read_only; by_uid = by_uid; items = items }) one)
  fetch_one_right by_uid read_only items ascii one =
      let fetching : Fetching = record { mode = mode; read_only = read_only; by_uid = by_uid; items = items } in
      let now_seen = seen one.listed in
      let told : (is : Listed) (changed : Bool) → AreRight oracles (fetch_told oracles store fetching (record { number = one.number; listed = is }) changed) = λ is changed.
      (let all = with_flags changed (with_uid by_uid items) in
      asking_right oracles (asked_of mode store items is.id) (reply (fetch_reply oracles mode store one.number is all))
      (reply_right oracles (fetch_reply oracles mode store one.number is all) (fetch_fit one.number is all (flags_ascii changed (with_uid by_uid items) (uid_ascii by_uid items ascii))))) in
      cond_both (becomes_seen read_only items one.listed)
      (changes (flags_change one.listed now_seen.flags) ∷ fetch_told oracles store fetching (record { number = one.number; listed = now_seen }) true)
      (fetch_told oracles store fetching one false) (λ z. AreRight oracles z) (λ _. ((tt, tt), told now_seen true)) (λ _. told one.listed false)

-- ---- STORE, EXPUNGE and CLOSE

uid_fit : (by_uid : Bool) (one : Listed) → list_all is_ascii (uid_text by_uid one) ≡ true
uid_fit true one = number_fit (codes "UID ") one.uid (codes " ") refl refl
uid_fit false one = refl

told_fit : (oracles : Oracles) (by_uid silent : Bool) (one : Numbered) (flags : ℕ) → AreFit oracles (flags_reply by_uid silent one flags)
told_fit oracles by_uid true one flags = tt
told_fit oracles by_uid false one flags =
    let uid = uid_text by_uid one.listed in
    let back = uid ++ (flags_text flags ++ codes ")") in
    let back_fit : list_all is_ascii back ≡ true = between uid (flags_text flags) (codes ")") (uid_fit by_uid one.listed) (flags_fit flags) refl in
    let words = codes " FETCH (" ++ back in
    let words_are : list_all is_ascii words ≡ true = pass-append is_ascii (codes " FETCH (") back refl back_fit in
    (untagged_fit (decimal one.number ++ words) (pass-append is_ascii (decimal one.number) words (ascii-decimal one.number) words_are), tt)

expunged_quiet : (ids : List ℕ) → AllByRecursion MayBeKept (expunged ids)
expunged_quiet [] = tt
expunged_quiet (id ∷ ids) = (tt, expunged_quiet ids)

taken_right : (oracles : Oracles) (ids : List ℕ) → AreRight oracles (taken_out ids)
taken_right oracles [] = tt
taken_right oracles (id ∷ ids) = (expunged_quiet (id ∷ ids), tt)

closing_fit : (oracles : Oracles) (number : ℕ) (messages : List Listed) → AreFit oracles (closing_up number messages)
closing_fit oracles number [] = tt
closing_fit oracles number (one ∷ others) =
    cond_both (is_deleted one) (untagged (decimal number ++ codes " EXPUNGE") ∷ closing_up number others) (closing_up (number + 1) others) (λ z. AreFit oracles z)
    (λ _. (untagged_fit (decimal number ++ codes " EXPUNGE") (pass-append is_ascii (decimal number) (codes " EXPUNGE") (ascii-decimal number) refl), closing_fit oracles number others)) (λ _. closing_fit oracles (number + 1) others)

-- ---- commands

module _ (oracles : Oracles) (are : AreOracles oracles) (now : List ℕ) (dated : IsDate now) (store : StoreState) (stored : AreStored store.kept.messages) (tag : List ℕ)
    (tag_fit : list_all is_ascii tag ≡ true) where
  each_message_right : (state : State) (by_uid : Bool) (set : Set) (messages : List Listed) (act : Numbered → List (Act ReplyPart)) → ((one : Numbered) → AreRight oracles (act one))
      → AreRight oracles (for_each tag state by_uid set messages act).acts
  each_message_right state by_uid set messages act right =
      let acts = flat_map act (chosen by_uid set messages) in
      either_right oracles tag tag_fit (is_refused by_uid set messages) (no_such_message tag state) (ends_with tag done acts state) (says_right oracles tag tag_fit (codes "BAD no such message") state refl)
      (ends_right oracles tag tag_fit done acts state refl (each_right oracles act right (chosen by_uid set messages)))

  abbrev context : Context
  context = context_of oracles now tag store

  fetch_right : (selection : Selection) (fetch : Fetch) → AllByRecursion AsksAscii fetch.items → AreRight oracles (fetch_step context selection fetch).acts
  fetch_right selection fetch ascii =
      each_message_right (selected selection) fetch.by_uid fetch.set (listed store.kept selection.folder) (fetch_one oracles store (fetching_in selection fetch))
      (fetch_one_right oracles are selection.mode store stored fetch.by_uid selection.read_only fetch.items ascii)

  exists_fit : (opened : Option ℕ) (kept : Kept) (folder : ℕ) → AreFit oracles (exists_lines opened kept folder)
  exists_fit None kept folder = tt
  exists_fit (Some opened) kept folder =
      let count = decimal (length (listed kept folder)) in
      cond_both (opened == folder) (untagged (count ++ codes " EXISTS") ∷ []) [] (λ z. AreFit oracles z)
      (λ _. (untagged_fit (count ++ codes " EXISTS") (pass-append is_ascii count (codes " EXISTS") (ascii-decimal (length (listed kept folder))) refl), tt)) (λ _. tt)

  unless_kept_right : (state : State) (folder : ℕ) (made : Record) (refused : Option StoreFault) → MayBeKept made
      → AreRight oracles (append_unless tag state store.kept folder made refused).acts
  unless_kept_right state folder made None may =
      let told = exists_lines (opened_in state) (after_record store.kept made) folder in
      ends_right oracles tag tag_fit done (changes (made ∷ []) ∷ reply told) state refl ((may, tt), reply_right oracles told (exists_fit (opened_in state) (after_record store.kept made) folder))
  unless_kept_right state folder made (Some refusal.Exists) may = says_right oracles tag tag_fit (codes "NO too large") state refl
  unless_kept_right state folder made (Some refusal.NoSuch) may = says_right oracles tag tag_fit (codes "NO too large") state refl
  unless_kept_right state folder made (Some refusal.TooLarge) may = says_right oracles tag tag_fit (codes "NO too large") state refl
  unless_kept_right state folder made (Some refusal.Memory) may = says_right oracles tag tag_fit (codes "NO too large") state refl
  unless_kept_right state folder made (Some refusal.Keeper) may = says_right oracles tag tag_fit (codes "NO too large") state refl

  octets_right : (state : State) (folder : ℕ) (append : Append) → IsDate append.date → AreRight oracles (append_octets context state folder append).acts
  octets_right state folder append dated =
      let octets = completed append.octets in
      let refused = append_refusal store octets in
      let made = appended folder append.flags (oracles.mark_of octets) append.date octets in
      cond_both (oracles.has_tree octets) (append_unless tag state store.kept folder made refused) (says tag (codes "NO not a message") state) (λ (one : Step). AreRight oracles one.acts)
      (λ is. unless_kept_right state folder made refused (dated, (are.trees octets).0 is)) (λ _. says_right oracles tag tag_fit (codes "NO not a message") state refl)

  append_right : (state : State) (mode : Mode) (append : Append) (found : Option ℕ) → IsDate append.date → AreRight oracles (append_in context state mode append found).acts
  append_right state mode append None dated = says_right oracles tag tag_fit (codes "NO no such folder") state refl
  append_right state mode append (Some folder) dated =
      either_right oracles tag tag_fit (append.in_utf8 && not (is_enabled mode)) (says tag (codes "NO not enabled") state) (append_octets context state folder append)
      (says_right oracles tag tag_fit (codes "NO not enabled") state refl) (octets_right state folder append dated)

  store_right : (selection : Selection) (said : Store) → AreRight oracles (store_step context selection said).acts
  store_right selection said =
      let state = selected selection in
      let messages = listed store.kept selection.folder in
      let act = store_one said.by_uid said.silent said.op said.flags in
      either_right oracles tag tag_fit selection.read_only (refused_as_read_only tag state) (for_each tag state said.by_uid said.set messages act)
      (says_right oracles tag tag_fit (codes "NO read only") state refl)
      (each_message_right state said.by_uid said.set messages act (λ one.
      let flags = stored_flags said.op one.listed.flags said.flags in
      ((tt, tt), reply_right oracles (flags_reply said.by_uid said.silent one flags) (told_fit oracles said.by_uid said.silent one flags))))

  expunge_right : (state : State) (read_only : Bool) (messages : List Listed) → AreRight oracles (expunge_step tag state read_only messages).acts
  expunge_right state read_only messages =
      let taken = taken_out (deleted_ids messages) in
      let told = closing_up 1 messages in
      either_right oracles tag tag_fit read_only (refused_as_read_only tag state) (ends_with tag done (taken ++ reply told) state) (says_right oracles tag tag_fit (codes "NO read only") state refl)
      (ends_right oracles tag tag_fit done (taken ++ reply told) state refl
      (all-append (IsRightAct oracles) taken (reply told) (taken_right oracles (deleted_ids messages)) (reply_right oracles told (closing_fit oracles 1 messages))))

  close_right : (state : State) (read_only : Bool) (messages : List Listed) → AreRight oracles (close_step tag state read_only messages).acts
  close_right state true messages = says_right oracles tag tag_fit done state refl
  close_right state false messages = ends_right oracles tag tag_fit done (taken_out (deleted_ids messages)) state refl (taken_right oracles (deleted_ids messages))

  out_right : (state : State) → AreRight oracles (out_of_order tag state).acts
  out_right state = says_right oracles tag tag_fit (codes "BAD out of order") state refl

  common_right : (state : State) (said : Command) → AreRight oracles (common_step tag state said).acts
  common_right state command.Capability = answers_right oracles tag tag_fit done (untagged (codes "CAPABILITY IMAP4rev1 ENABLE UTF8=ACCEPT") ∷ []) state refl (refl, tt)
  common_right state command.Noop = says_right oracles tag tag_fit done state refl
  common_right state command.Logout = answers_right oracles tag tag_fit done (untagged (codes "BYE bye") ∷ []) ended refl (refl, tt)
  common_right state command.NotHere = says_right oracles tag tag_fit (codes "NO not here") state refl
  common_right state command.Check = out_right state
  common_right state (command.Login user password) = out_right state
  common_right state (command.Enable words) = out_right state
  common_right state (command.Select written) = out_right state
  common_right state (command.Examine written) = out_right state
  common_right state (command.Create written) = out_right state
  common_right state (command.List reference pattern) = out_right state
  common_right state (command.Status written items) = out_right state
  common_right state (command.Append written flags date utf8 octets) = out_right state
  common_right state (command.Fetch by_uid set items) = out_right state
  common_right state (command.Store by_uid set op silent flags) = out_right state
  common_right state command.Expunge = out_right state
  common_right state command.Close = out_right state

  unauthenticated_right : (said : Command) → AreRight oracles (not_authenticated_step oracles tag store said).acts
  unauthenticated_right (command.Login user password) = login_right oracles tag tag_fit (logged_in oracles.path_of store.kept user password)
  unauthenticated_right command.Capability = common_right not_authenticated command.Capability
  unauthenticated_right command.Noop = common_right not_authenticated command.Noop
  unauthenticated_right command.Logout = common_right not_authenticated command.Logout
  unauthenticated_right command.NotHere = common_right not_authenticated command.NotHere
  unauthenticated_right command.Check = common_right not_authenticated command.Check
  unauthenticated_right (command.Enable words) = common_right not_authenticated (command.Enable words)
  unauthenticated_right (command.Select written) = common_right not_authenticated (command.Select written)
  unauthenticated_right (command.Examine written) = common_right not_authenticated (command.Examine written)
  unauthenticated_right (command.Create written) = common_right not_authenticated (command.Create written)
  unauthenticated_right (command.List reference pattern) = common_right not_authenticated (command.List reference pattern)
  unauthenticated_right (command.Status written items) = common_right not_authenticated (command.Status written items)
  unauthenticated_right (command.Append written flags date utf8 octets) = common_right not_authenticated (command.Append written flags date utf8 octets)
  unauthenticated_right (command.Fetch by_uid set items) = common_right not_authenticated (command.Fetch by_uid set items)
  unauthenticated_right (command.Store by_uid set op silent flags) = common_right not_authenticated (command.Store by_uid set op silent flags)
  unauthenticated_right command.Expunge = common_right not_authenticated command.Expunge
  unauthenticated_right command.Close = common_right not_authenticated command.Close

  mailbox_right : (state : State) (mode : Mode) (account : ℕ) (said : Command) → IsSaid said → AreRight oracles (mailbox_step context state mode account said).acts
  mailbox_right state mode account (command.Select written) said = select_right oracles tag tag_fit mode account false store (folder_named oracles mode store account written)
  mailbox_right state mode account (command.Examine written) said = select_right oracles tag tag_fit mode account true store (folder_named oracles mode store account written)
  mailbox_right state mode account (command.Create written) said = create_right oracles tag tag_fit state account store (oracles.name_of (is_enabled mode) written)
  mailbox_right state mode account (command.List reference pattern) said = answers_right oracles tag tag_fit done (list_lines mode store account reference pattern) state refl (list_fit oracles mode store account reference pattern)
  mailbox_right state mode account (command.Status written items) said = status_right (folder_named oracles mode store account written)
    where
      status_right : (found : Option ℕ) → AreRight oracles (status_by tag state mode store items found).acts
      status_right None = says_right oracles tag tag_fit (codes "NO no such folder") state refl
      status_right (Some folder) = answers_right oracles tag tag_fit done (status_line mode store folder items) state refl (status_fit oracles mode store folder items)
  mailbox_right state mode account (command.Append written flags None utf8 octets) said = append_right state mode (record { flags = flags; date = now; in_utf8 = utf8; octets = octets }) (folder_named oracles mode store account written) dated
  mailbox_right state mode account (command.Append written flags (Some date) utf8 octets) said =
      append_right state mode (record { flags = flags; date = date; in_utf8 = utf8; octets = octets }) (folder_named oracles mode store account written) said.0
  mailbox_right state mode account command.Capability said = common_right state command.Capability
  mailbox_right state mode account command.Noop said = common_right state command.Noop
  mailbox_right state mode account command.Logout said = common_right state command.Logout
  mailbox_right state mode account command.NotHere said = common_right state command.NotHere
  mailbox_right state mode account command.Check said = common_right state command.Check
  mailbox_right state mode account (command.Login user password) said = common_right state (command.Login user password)
  mailbox_right state mode account (command.Enable words) said = common_right state (command.Enable words)
  mailbox_right state mode account (command.Fetch by_uid set items) said = common_right state (command.Fetch by_uid set items)
  mailbox_right state mode account (command.Store by_uid set op silent flags) said = common_right state (command.Store by_uid set op silent flags)
  mailbox_right state mode account command.Expunge said = common_right state command.Expunge
  mailbox_right state mode account command.Close said = common_right state command.Close

  authenticated_right : (mode : Mode) (account : ℕ) (said : Command) → IsSaid said → AreRight oracles (authenticated_step context mode account said).acts
  authenticated_right mode account (command.Enable words) said = enable_right oracles tag tag_fit mode account (asks_utf8 words)
  authenticated_right mode account (command.Select written) said = mailbox_right (authenticated mode account) mode account (command.Select written) said
  authenticated_right mode account (command.Examine written) said = mailbox_right (authenticated mode account) mode account (command.Examine written) said
  authenticated_right mode account (command.Create written) said = mailbox_right (authenticated mode account) mode account (command.Create written) said
  authenticated_right mode account (command.List reference pattern) said = mailbox_right (authenticated mode account) mode account (command.List reference pattern) said
  authenticated_right mode account (command.Status written items) said = mailbox_right (authenticated mode account) mode account (command.Status written items) said
  authenticated_right mode account (command.Append written flags date utf8 octets) said = mailbox_right (authenticated mode account) mode account (command.Append written flags date utf8 octets) said
  authenticated_right mode account command.Capability said = common_right (authenticated mode account) command.Capability
  authenticated_right mode account command.Noop said = common_right (authenticated mode account) command.Noop
  authenticated_right mode account command.Logout said = common_right (authenticated mode account) command.Logout
  authenticated_right mode account command.NotHere said = common_right (authenticated mode account) command.NotHere
  authenticated_right mode account command.Check said = common_right (authenticated mode account) command.Check
  authenticated_right mode account (command.Login user password) said = common_right (authenticated mode account) (command.Login user password)
  authenticated_right mode account (command.Fetch by_uid set items) said = common_right (authenticated mode account) (command.Fetch by_uid set items)
  authenticated_right mode account (command.Store by_uid set op silent flags) said = common_right (authenticated mode account) (command.Store by_uid set op silent flags)
  authenticated_right mode account command.Expunge said = common_right (authenticated mode account) command.Expunge
  authenticated_right mode account command.Close said = common_right (authenticated mode account) command.Close

  selected_right : (selection : Selection) (said : Command) → IsSaid said → FetchesAscii said → AreRight oracles (selected_step context selection said).acts
  selected_right selection command.Check said ascii = says_right oracles tag tag_fit done (selected selection) refl
  selected_right selection (command.Fetch by_uid set items) said ascii = fetch_right selection (record { by_uid = by_uid; set = set; items = items }) ascii
  selected_right selection (command.Store by_uid set op silent flags) said ascii = store_right selection (record { by_uid = by_uid; set = set; op = op; silent = silent; flags = flags })
  selected_right selection command.Expunge said ascii = expunge_right (selected selection) selection.read_only (listed store.kept selection.folder)
  selected_right selection command.Close said ascii = close_right (authenticated selection.mode selection.account) selection.read_only (listed store.kept selection.folder)
  selected_right selection (command.Select written) said ascii = mailbox_right (selected selection) selection.mode selection.account (command.Select written) said
  selected_right selection (command.Examine written) said ascii = mailbox_right (selected selection) selection.mode selection.account (command.Examine written) said
  selected_right selection (command.Create written) said ascii = mailbox_right (selected selection) selection.mode selection.account (command.Create written) said
  selected_right selection (command.List reference pattern) said ascii = mailbox_right (selected selection) selection.mode selection.account (command.List reference pattern) said
  selected_right selection (command.Status written items) said ascii = mailbox_right (selected selection) selection.mode selection.account (command.Status written items) said
  selected_right selection (command.Append written flags date utf8 octets) said ascii = mailbox_right (selected selection) selection.mode selection.account (command.Append written flags date utf8 octets) said
  selected_right selection command.Capability said ascii = common_right (selected selection) command.Capability
  selected_right selection command.Noop said ascii = common_right (selected selection) command.Noop
  selected_right selection command.Logout said ascii = common_right (selected selection) command.Logout
  selected_right selection command.NotHere said ascii = common_right (selected selection) command.NotHere
  selected_right selection (command.Login user password) said ascii = common_right (selected selection) (command.Login user password)
  selected_right selection (command.Enable words) said ascii = common_right (selected selection) (command.Enable words)

  pub step_right : (state : State) (said : Command) → IsSaid said → FetchesAscii said → AreRight oracles (step oracles now state store tag said).acts
  unfolding step
  step_right not_authenticated said is ascii = unauthenticated_right said
  step_right (authenticated mode account) said is ascii = authenticated_right mode account said is
  step_right (selected selection) said is ascii = selected_right selection said is ascii
  step_right ended said is ascii = tt

-- ---- what is due

either_true : (a b : Bool) → (a || b) ≡ true → (a ≡ true) ⊎ (b ≡ true)
either_true true b is = inl refl
either_true false b is = inr is

tag_char_ascii : (x : ℕ) → is_tag_char x ≡ true → is_ascii x ≡ true
unfolding is_tag_char is_astring_char is_atom_char
tag_char_ascii x is = elim (either_true (is_atom_char x) (is_resp_special x) (and_parts (is_atom_char x || is_resp_special x) (not (x == 43)) is).0) [
  | inl atom ↦ (and_parts (nat_lt 0 x) (is_ascii x) (and_parts (is_char x) (not (is_atom_special x)) atom).0).1
  | inr close ↦ rw (eqb-true x 93 close) refl
]

run_ascii : (octets tag : List ℕ) → IsTag octets tag → list_all is_ascii tag ≡ true
run_ascii octets tag is = rw is.value_is (pass-weaker is_tag_char is_ascii tag_char_ascii octets is.passes)

-- the tag of a command is ASCII
command_tag : (utf8 : Bool) (octets tag : List ℕ) (said : Command) → IsCommand utf8 octets (record { tag = tag; command = said }) → list_all is_ascii tag ≡ true
command_tag utf8 octets tag said is =
    let same : tag ≡ is.value = ap (λ (one : Tagged). one.tag) is.second.second.second.second.1 in
    rw same (run_ascii is.front is.value is.first)

append_tag : (utf8 : Bool) (octets : List ℕ) (appends : Appends) → IsAppending utf8 octets appends → list_all is_ascii appends.tag ≡ true
append_tag utf8 octets appends is =
    let same : appends.tag ≡ is.value = ap (λ (one : Appends). one.tag) is.second.second.second.second.1 in
    rw same (run_ascii is.front is.value is.first)

pub due_right : (oracles : Oracles) → AreOracles oracles → (now : List ℕ) → IsDate now → (state : State) (store : StoreState) → AreStored store.kept.messages → (utf8 : Bool) (octets : List ℕ) (event : Event)
    → IsDue utf8 octets event → AreRight oracles (due_step oracles now state store event).acts
due_right oracles are now dated state store stored utf8 octets More due = absurd due
due_right oracles are now dated state store stored utf8 octets Go due = (refl, tt)
due_right oracles are now dated state store stored utf8 octets (CommandEvent tag said) due =
    step_right oracles are now dated store stored tag (command_tag utf8 octets tag said due.1) state said (said_of utf8 octets (CommandEvent tag said) due) (names_of utf8 octets tag said due)
due_right oracles are now dated state store stored utf8 octets (Bad (Some tag) at) due = says_right oracles tag (run_ascii tag tag due.3.is_tag) (codes "BAD syntax") state refl
due_right oracles are now dated state store stored utf8 octets (Bad None at) due = (refl, tt)
due_right oracles are now dated state store stored utf8 octets (TooLarge tag) due = says_right oracles tag (rw due.1.2 (append_tag utf8 octets due.1.0 due.1.1)) (codes "NO too large") state refl
due_right oracles are now dated state store stored utf8 octets TooLong due = (refl, tt)

-- ---- dates

long_ago_date : IsDate long_ago
unfolding fits_shape fits_letter same_name
long_ago_date = is_date_date long_ago refl

-- the date of the next moment is one
pub date_at_date : (moments : List Moment) → IsDate (date_at moments)
date_at_date [] = long_ago_date
date_at_date (moment ∷ moments) = cond_both (is_date moment.internal) moment.internal long_ago IsDate (λ is. is_date_date moment.internal is) (λ _. long_ago_date)
