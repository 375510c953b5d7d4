-- APPEND, as a request is put into its folder.
use Rattle.std.proofs.Common.{◌≡◌, ℕ, ◌<◌, ◌==◌, Bool, true, false, ◌&&◌, not, List, [], ◌∷◌, ◌++◌, length, Option, None, Some, refl, sym, ap, ◌∙◌, subst, append_assoc, append-nil, inl, inr, codes}
use Rattle.std.specs.Prelude.{decimal, IfSome, if◌then◌else◌}
use Rattle.std.specs.List.{flat_map}
use Rattle.std.proofs.lemmas.Bool.{and_parts, eq-eqb, eqb-true, false_from_ne_true, or_cases, or_right}
use Rattle.std.proofs.lemmas.List.{map-append}
use Rattle.std.proofs.lemmas.List.Concat.{flat_map-append}
use Rattle.mail_wire.specs.Lines.{crlf, is_crlf}
use Rattle.mail_wire.specs.declared.outside.Fault.{Fault}
use Rattle.mail_wire.specs.declared.outside.Fault.TheVariants as fault
use Rattle.mime_tree.specs.Completing.{IsCompleted, IsLeft}
use Rattle.journal_records.specs.Grammar.{IsDate}
use Rattle.journal_records.specs.Stored.{HasMark, IsStored}
use Rattle.journal_records.specs.declared.records.Record.{Record}
use Rattle.journal_records.proofs.MarkLemmas.{mark_once, mark_stored}
use Rattle.kept_mail.specs.Kept.{Kept, after_all, listed}
use Rattle.kept_mail.specs.declared.kept.Listed.{Listed}
use Rattle.kept_mail.specs.declared.limits.TheConstants.{THINGS_MAX}
use Rattle.mail_store.specs.Changing.{append_refusal}
use Rattle.mail_store.specs.Following.{records_of}
use Rattle.mail_store.specs.StoreState.{StoreState}
use Rattle.mail_store.specs.declared.changing.StoreFault.{StoreFault}
use Rattle.mail_store.proofs.AppendLemmas.{append_free}
use Rattle.surrogate_cache.specs.Served.{Mode, is_enabled}
use Rattle.session_core.specs.Acts.{Act, acts_of, changes, gives}
use Rattle.session_core.specs.Around.{Around}
use Rattle.session_core.specs.Changes.{append_changes, unless_refused}
use Rattle.session_core.specs.Doing.{Does, DoesFirst, Makes, Replies}
use Rattle.session_core.specs.Oracles.{Oracles, AreOracles, WithOracles}
use Rattle.session_core.proofs.DoingLemmas.{Does-changes, Does-unchanged, Replies-stop}
use Rattle.session_core.proofs.MeaningLemmas.{oracles_given}
use Rattle.session_core.proofs.MomentLemmas.{moment_date}
use Rattle.imap_session.specs.Machine.{Append, Context, State, Step, append_in, append_unless, appended, completed, context_of, exists_lines, folder_named, is_complete, opened_in, tagged}
use Rattle.imap_session.specs.Replies.{ReplyPart, part_octets, reply_octets}
use Rattle.imap_session.specs.declared.appending.AppendRequest.{AppendRequest}
use Rattle.imap_session.specs.declared.appending.Put.{Put}
use Rattle.imap_session.specs.declared.appending.Put.TheVariants as put
use Rattle.imap_session.specs.private.Appending.{IsAfter, IsDateFrom, WereListed, request_step, put_changes, put_lines, put_named, put_octets, put_of, put_unless, words_of_put}
use Rattle.imap_session.specs.private.Lines.{tagged_octets}
use Rattle.imap_session.proofs.LineLemmas.{tagged_reply}
use Rattle.imap_session.proofs.SelectedLemmas.{HasCounts}

-- ---- data that are completed

crlf_of : (x y : ℕ) → is_crlf x y ≡ true → x ∷ y ∷ [] ≡ crlf
crlf_of x y is =
    let parts = and_parts (x == 13) (y == 10) is in
    rw (eqb-true x 13 parts.0, eqb-true y 10 parts.1) refl

longer : (x y : ℕ) (rest : List ℕ) → IsLeft (y ∷ rest) → IsLeft (x ∷ y ∷ rest)
longer x y rest (inl (inl none)) = cc
longer x y rest (inl (inr ended)) = inl (inr (x ∷ ended.0, ap (λ z. x ∷ z) ended.1))
longer x y rest (inr cr) = inr (x ∷ cr.0, ap (λ z. x ∷ z) cr.1)

is_left : (octets : List ℕ) → is_complete octets ≡ true → IsLeft octets
unfolding is_complete
is_left [] is = inl (inl refl)
is_left (x ∷ []) is = inr ([], ap (λ z. z ∷ []) (eqb-true x 13 is))
is_left (x ∷ y ∷ []) is = elim (or_cases (is_crlf x y) (y == 13) is) [
  | inl both ↦ inl (inr ([], crlf_of x y both))
  | inr cr ↦ inr (x ∷ [], ap (λ z. x ∷ z ∷ []) (eqb-true y 13 cr))
]
is_left (x ∷ y ∷ z ∷ rest) is = longer x y (z ∷ rest) (is_left (y ∷ z ∷ rest) is)

ended_complete : (front : List ℕ) → is_complete (front ++ crlf) ≡ true
unfolding is_complete
ended_complete [] = refl
ended_complete (x ∷ []) = refl
ended_complete (x ∷ y ∷ []) = refl
ended_complete (x ∷ y ∷ z ∷ front) = ended_complete (y ∷ z ∷ front)

cr_complete : (front : List ℕ) → is_complete (front ++ 13 ∷ []) ≡ true
unfolding is_complete
cr_complete [] = refl
cr_complete (x ∷ []) = or_right (is_crlf x 13) true refl
cr_complete (x ∷ y ∷ []) = or_right (is_crlf y 13) true refl
cr_complete (x ∷ y ∷ z ∷ front) = cr_complete (y ∷ z ∷ front)

left_complete : (octets : List ℕ) → IsLeft octets → is_complete octets ≡ true
unfolding is_complete
left_complete octets (inl (inl none)) = rw none refl
left_complete octets (inl (inr ended)) = rw ended.1 (ended_complete ended.0)
left_complete octets (inr cr) = rw cr.1 (cr_complete cr.0)

-- octets whose last line has its end are left as they are
pub completed_left : (octets : List ℕ) → IsLeft octets → octets ≡ completed octets
completed_left octets left = rw (left_complete octets left) refl

-- completing makes these of them
pub completed_is : (old new : List ℕ) → IsCompleted old new → new ≡ completed old
completed_is old new (inl left) = left.1 ∙ completed_left old left.0
completed_is old new (inr made) = rw (false_from_ne_true (is_complete old) (λ is. made.0 (is_left old is))) made.1

-- ---- the date

-- a date that is given is one, and so is that of a moment
pub date_is : (reading : Option ℕ) (given : Option (List ℕ)) (date : List ℕ) → IsDateFrom reading given date → IfSome given IsDate → IsDate date
date_is reading None date from dated = rw from.2 (moment_date from.1.seconds from.0.internal from.1.is.internal)
date_is reading (Some given) date from dated = rw from dated

-- ---- octets that are put

-- octets with a mark have a tree and this mark in the machine too
has_tree : (oracles : Oracles) → AreOracles oracles → (octets : List ℕ) (mark : ℕ) → HasMark octets mark → oracles.has_tree octets ≡ true
has_tree oracles are octets mark has = (are.trees octets).1 (mark_stored octets mark has)

same_mark : (oracles : Oracles) → AreOracles oracles → (octets : List ℕ) (mark : ℕ) → HasMark octets mark → oracles.mark_of octets ≡ mark
same_mark oracles are octets mark has = mark_once octets (oracles.mark_of octets) mark (are.marks octets (mark_stored octets mark has)) has

-- the change, unless the store refused the octets
unless_changed : (folder flags mark : ℕ) (date octets : List ℕ) (refused : Option StoreFault)
    → unless_refused refused (appended folder flags mark date octets ∷ []) ≡ put_changes flags mark date octets (put_unless folder refused)
unless_changed folder flags mark date octets None = refl
unless_changed folder flags mark date octets (Some other) = refl

pub octets_made : (a b : Around) (met : Option Fault) (folder flags mark : ℕ) (date octets : List ℕ) → HasMark octets mark → Makes a b met (append_changes a.desk.store folder flags mark date octets)
    → WithOracles (λ oracles. Makes a b met (put_changes flags (oracles.mark_of octets) date octets (put_octets (oracles.has_tree octets) a.desk.store folder octets)))
octets_made a b met folder flags mark date octets has makes oracles are =
    rw (has_tree oracles are octets mark has, same_mark oracles are octets mark has)
    (subst (λ (made : List (List Record)). Makes a b met made) (unless_changed folder flags mark date octets (append_refusal a.desk.store octets)) makes)

-- the folder was found, and the session may put such data there
pub put_found : (oracles : Oracles) (mode : Mode) (account : ℕ) (store : StoreState) (request : AppendRequest) (folder : ℕ) → Some folder ≡ folder_named oracles mode store account request.written.now
    → (request.in_utf8 && not (is_enabled mode)) ≡ false
    → put_octets (oracles.has_tree (completed request.octets.now)) store folder (completed request.octets.now) ≡ put_of oracles mode account store request
put_found oracles mode account store request folder found may = rw (← found, may) refl

-- the line of the folder that is selected
pub exists_told : (oracles : Oracles) (kept : Kept) (opened folder count : ℕ) (line : List ℕ) → opened ≡ folder → count ≡ length (listed kept opened)
    → line ≡ codes "* " ++ (decimal count ++ codes " EXISTS\r\n") → line ≡ reply_octets oracles (put_lines (Some opened) kept (put.In folder))
exists_told oracles kept opened folder count line same count_is line_is =
    let shown : reply_octets oracles (exists_lines (Some folder) kept folder) ≡ codes "* " ++ (decimal (length (listed kept folder)) ++ codes " EXISTS\r\n") =
    rw (eq-eqb folder folder refl) (simp (append_assoc, append-nil)) in
    rw same (line_is ∙ (ap (λ n. codes "* " ++ (decimal n ++ codes " EXISTS\r\n")) (rw same at count_is) ∙ sym shown))

-- where no folder is selected nothing is told beside
pub none_told : (oracles : Oracles) (kept : Kept) (advance : Put) → [] ≡ reply_octets oracles (put_lines None kept advance)
none_told oracles kept (put.In folder) = refl
none_told oracles kept put.NoFolder = refl
none_told oracles kept put.NotEnabled = refl
none_told oracles kept put.NoMessage = refl
none_told oracles kept put.TooLarge = refl

module _ (oracles : Oracles) (a : Around) (now tag : List ℕ) (state : State) (mode : Mode) (account : ℕ) (request : AppendRequest) (date : List ℕ) where
  abbrev request_context : Context
  request_context = context_of oracles now tag a.desk.store

  abbrev last : Put → List ReplyPart
  last advance = tagged tag (words_of_put advance) ∷ []

  -- the mark of the octets
  abbrev own_mark : ℕ
  own_mark = oracles.mark_of (completed request.octets.now)

  abbrev made : Put → List (List Record)
  made advance = put_changes request.flags own_mark date (completed request.octets.now) advance

  -- what is told before the last line
  abbrev told : Put → List ReplyPart
  told advance = put_lines (opened_in state) (after_all a.desk.store.kept (records_of (made advance))) advance

  abbrev put_acts : Put → List (Act ReplyPart)
  put_acts advance = acts_of (made advance) (told advance ++ last advance)

  acts_if : (b : Bool) (x y : Step) (p q : Put) → x.acts ≡ put_acts p → y.acts ≡ put_acts q → (if b then x else y).acts ≡ put_acts (if b then p else q)
  acts_if true x y p q one two = one
  acts_if false x y p q one two = two

  unless_acts : (folder : ℕ) (refused : Option StoreFault)
      → (append_unless tag state a.desk.store.kept folder (appended folder request.flags own_mark date (completed request.octets.now)) refused).acts ≡ put_acts (put_unless folder refused)
  unless_acts folder None = ap (λ (z : List (Act ReplyPart)). changes (appended folder request.flags own_mark date (completed request.octets.now) ∷ []) ∷ z) (sym (map-append gives (told (put.In folder)) (last (put.In folder))))
  unless_acts folder (Some other) = refl

  named_acts : (found : Option ℕ)
      → (append_in request_context state mode (record { flags = request.flags; date = date; in_utf8 = request.in_utf8; octets = request.octets.now }) found).acts ≡ put_acts (put_named oracles mode a.desk.store request.in_utf8 request.octets.now found)
  named_acts None = refl
  named_acts (Some folder) =
      let octets = completed request.octets.now in
      acts_if (request.in_utf8 && not (is_enabled mode)) _ _ _ _ refl (acts_if (oracles.has_tree octets) _ _ _ _ (unless_acts folder (append_refusal a.desk.store octets)) refl)

  request_acts : (request_step request_context state mode account request date).acts ≡ put_acts (put_of oracles mode account a.desk.store request)
  request_acts = named_acts _

  -- it was put into its folder or refused, and then that was told
  pub request_told : (b c : Around) (met : Option Fault) (advance : Put) (lines : List ℕ) → advance ≡ put_of oracles mode account a.desk.store request → lines ≡ reply_octets oracles (put_lines (opened_in state) b.desk.store.kept advance)
      → Makes a b None (made (put_of oracles mode account a.desk.store request)) → Replies b c met (lines ++ tagged_octets tag (words_of_put advance))
      → Does (part_octets oracles) a c met (request_step request_context state mode account request date).acts
  request_told b c met advance lines advance_is lines_are makes replies =
      let spelled = part_octets oracles in
      let makes : Makes a b None (made advance) = rw advance_is makes in
      let kept : b.desk.store.kept ≡ after_all a.desk.store.kept (records_of (made advance)) = ap (λ (store : StoreState). store.kept) makes.changes.store in
      let are : lines ≡ reply_octets oracles (told advance) = lines_are ∙ ap (λ kept. reply_octets oracles (put_lines (opened_in state) kept advance)) kept in
      let whole : lines ++ tagged_octets tag (words_of_put advance) ≡ flat_map spelled (told advance ++ last advance) =
      ap (λ z. z ++ tagged_octets tag (words_of_put advance)) are
      ∙ (ap (λ z. reply_octets oracles (told advance) ++ z) (sym (tagged_reply oracles tag (words_of_put advance))) ∙ sym (flat_map-append spelled (told advance) (last advance))) in
      subst (λ (acts : List (Act ReplyPart)). Does spelled a c met acts) (ap put_acts advance_is ∙ sym request_acts)
      (Does-changes spelled a b c met (made advance) (told advance ++ last advance) makes (subst (λ octets. Replies b c met octets) whole replies))

  -- or memory was wanted before that was told
  pub request_untold : (b : Around) → Makes a b None (made (put_of oracles mode account a.desk.store request))
      → DoesFirst (part_octets oracles) a b fault.Memory (request_step request_context state mode account request date).acts
  request_untold b makes =
      let advance = put_of oracles mode account a.desk.store request in
      let lines = reply_octets oracles (put_lines (opened_in state) b.desk.store.kept advance) in
      request_told b b (Some fault.Memory) advance lines refl refl makes (Replies-stop b fault.Memory (lines ++ tagged_octets tag (words_of_put advance)) (λ bad. cc))

  -- or a fault came before
  pub request_broken : (b : Around) (met : Fault) → Makes a b (Some met) (made (put_of oracles mode account a.desk.store request))
      → DoesFirst (part_octets oracles) a b met (request_step request_context state mode account request date).acts
  request_broken b met makes =
      let advance = put_of oracles mode account a.desk.store request in
      subst (λ (acts : List (Act ReplyPart)). DoesFirst (part_octets oracles) a b met acts) (sym request_acts) (Does-unchanged (part_octets oracles) a b met (made advance) (told advance ++ last advance) makes)

-- ---- the state

state_both : (b : Bool) (state : State) (x y : Step) → state ≡ x.state → state ≡ y.state → state ≡ (if b then x else y).state
state_both true state x y one two = one
state_both false state x y one two = two

unless_state : (tag : List ℕ) (state : State) (kept : Kept) (folder : ℕ) (one : Record) (refused : Option StoreFault) → state ≡ (append_unless tag state kept folder one refused).state
unless_state tag state kept folder one None = refl
unless_state tag state kept folder one (Some other) = refl

named_state : (context : Context) (state : State) (mode : Mode) (append : Append) (found : Option ℕ) → state ≡ (append_in context state mode append found).state
named_state context state mode append None = refl
named_state context state mode append (Some folder) =
    let octets = completed append.octets in
    state_both (append.in_utf8 && not (is_enabled mode)) state _ _ refl
    (state_both (context.oracles.has_tree octets) state _ _ (unless_state context.tag state context.store.kept folder _ (append_refusal context.store octets)) refl)

-- APPEND leaves the state
pub request_state : (context : Context) (state : State) (mode : Mode) (account : ℕ) (request : AppendRequest) (date : List ℕ) → state ≡ (request_step context state mode account request date).state
request_state context state mode account request date =
    named_state context state mode (record { flags = request.flags; date = date; in_utf8 = request.in_utf8; octets = request.octets.now })
    (folder_named context.oracles mode context.store account request.written.now)

-- ---- the store after it

counts_after : (kept : Kept) (flags mark : ℕ) (date octets : List ℕ) (advance : Put)
    → (length (after_all kept (records_of (put_changes flags mark date octets advance))).accounts ≡ length kept.accounts) × (length (after_all kept (records_of (put_changes flags mark date octets advance))).folders ≡ length kept.folders)
counts_after kept flags mark date octets (put.In folder) = (refl, refl)
counts_after kept flags mark date octets put.NoFolder = (refl, refl)
counts_after kept flags mark date octets put.NotEnabled = (refl, refl)
counts_after kept flags mark date octets put.NoMessage = (refl, refl)
counts_after kept flags mark date octets put.TooLarge = (refl, refl)

-- it has the accounts and the folders that it had
pub request_counts : (a b : Around) (flags : ℕ) (date octets : List ℕ) (advance : Oracles → Put) → WithOracles (λ oracles. Makes a b None (put_changes flags (oracles.mark_of octets) date octets (advance oracles)))
    → HasCounts a.desk.store b.desk.store
request_counts a b flags date octets advance makes =
    let store = (makes oracles_given.0 oracles_given.1).changes.store in
    let counts = counts_after a.desk.store.kept flags (oracles_given.0.mark_of octets) date octets (advance oracles_given.0) in
    record {
      accounts = ap (λ (store : StoreState). length store.kept.accounts) store ∙ counts.0;
      folders = ap (λ (store : StoreState). length store.kept.folders) store ∙ counts.1;
    }

-- where a request is put there was room for a message more
abbrev HadRoom : Kept → Put → Type 0
HadRoom kept (put.In folder) = length kept.messages < THINGS_MAX
HadRoom kept other = Unit {0}

room_if : (b : Bool) (kept : Kept) (p q : Put) → HadRoom kept p → HadRoom kept q → HadRoom kept (if b then p else q)
room_if true kept p q one two = one
room_if false kept p q one two = two

room_unless : (store : StoreState) (folder : ℕ) (octets : List ℕ) (refused : Option StoreFault) → append_refusal store octets ≡ refused → HadRoom store.kept (put_unless folder refused)
room_unless store folder octets None is = (append_free store octets is).1
room_unless store folder octets (Some other) is = tt

room_named : (oracles : Oracles) (mode : Mode) (store : StoreState) (in_utf8 : Bool) (octets : List ℕ) (found : Option ℕ) → HadRoom store.kept (put_named oracles mode store in_utf8 octets found)
room_named oracles mode store in_utf8 octets None = tt
room_named oracles mode store in_utf8 octets (Some folder) =
    let whole = completed octets in
    let refused = append_refusal store whole in
    room_if (in_utf8 && not (is_enabled mode)) store.kept put.NotEnabled (put_octets (oracles.has_tree whole) store folder whole) tt
    (room_if (oracles.has_tree whole) store.kept (put_unless folder refused) put.NoMessage (room_unless store folder whole refused refl) tt)

after_put : (kept : Kept) (flags mark : ℕ) (date octets : List ℕ) (advance : Put) → HadRoom kept advance → IsAfter kept (after_all kept (records_of (put_changes flags mark date octets advance))) flags advance
after_put kept flags mark date octets (put.In folder) room = (mark, date, octets, refl, room)
after_put kept flags mark date octets put.NoFolder room = refl
after_put kept flags mark date octets put.NotEnabled room = refl
after_put kept flags mark date octets put.NoMessage room = refl
after_put kept flags mark date octets put.TooLarge room = refl

-- the messages of the opened folder were these before
pub request_were : (a b : Around) (mode : Mode) (account : ℕ) (request : AppendRequest) (date : List ℕ) (opened : ℕ) (messages : List Listed) (advance : Put) → messages ≡ listed a.desk.store.kept opened
    → WithOracles (λ oracles. advance ≡ put_of oracles mode account a.desk.store request)
    → WithOracles (λ oracles. Makes a b None (put_changes request.flags (oracles.mark_of (completed request.octets.now)) date (completed request.octets.now) (put_of oracles mode account a.desk.store request)))
    → WereListed b.desk.store.kept opened request.flags advance messages
request_were a b mode account request date opened messages advance were advance_is makes =
    let oracles = oracles_given.0 in
    let before = a.desk.store in
    let octets = completed request.octets.now in
    let mark = oracles.mark_of octets in
    let was = put_of oracles mode account before request in
    let kept : b.desk.store.kept ≡ after_all before.kept (records_of (put_changes request.flags mark date octets was)) =
    ap (λ (store : StoreState). store.kept) (makes oracles oracles_given.1).changes.store in
    let room = room_named oracles mode before request.in_utf8 request.octets.now (folder_named oracles mode before account request.written.now) in
    let following : IsAfter before.kept b.desk.store.kept request.flags was =
    subst (λ (new : Kept). IsAfter before.kept new request.flags was) (sym kept) (after_put before.kept request.flags mark date octets was room) in
    record { old = before.kept; were = were; following = subst (λ (p : Put). IsAfter before.kept b.desk.store.kept request.flags p) (sym (advance_is oracles oracles_given.1)) following }
