-- An APPEND is put, or refused for one of four causes.
use Rattle.std.proofs.Common.{◌≡◌, ◌⊎◌, inl, inr, ◌↔◌, IsTrue, ℕ, ◌+◌, ◌==◌, ◌&&◌, ◌||◌, not, Bool, true, false, List, [], ◌∷◌, ◌++◌, length, Option, None, Some, refl, sym, ap, ◌∙◌, subst, length-append, codes, le-ltb, arith, if◌then◌else◌}
use Rattle.std.specs.Prelude.{nat_lt}
use Rattle.std.specs.Fmt.{decimal}
use Rattle.std.proofs.lemmas.List.{map-append}
use Rattle.journal_records.specs.Stored.{IsStored}
use Rattle.journal_records.specs.declared.records.Record.{Record}
use Rattle.kept_mail.specs.Kept.{Kept, after_record, listed}
use Rattle.kept_mail.specs.Records.{are_too_many}
use Rattle.kept_mail.specs.declared.kept.Listed.{Listed}
use Rattle.kept_mail.specs.declared.limits.TheConstants.{THINGS_MAX}
use Rattle.mail_store.specs.Changing.{append_refusal}
use Rattle.mail_store.specs.Following.{records_of}
use Rattle.mail_store.specs.StoreState.{StoreState, with_records}
use Rattle.mail_store.specs.declared.changing.StoreFault.{StoreFault}
use Rattle.mail_store.specs.declared.changing.StoreFault.TheVariants as refusal
use Rattle.surrogate_cache.specs.Served.{Mode, legacy, enabled, is_enabled}
use Rattle.session_core.specs.Acts.{Act, changes, changes_in, gives}
use Rattle.session_core.specs.Oracles.{Oracles, TellsTrees}
use Rattle.session_core.specs.Turns.{all_turns}
use Rattle.session_core.proofs.DoneLemmas.{changes_in-acts}
use Rattle.session_core.proofs.StoreTurns.{EachTracks, all_track}
use Rattle.imap_session.specs.laws.ImapLaws.{comes}
use Rattle.imap_session.specs.Machine.{State, Step, append_in, append_unless, appended, completed, context_of, date_or, done, ends_with, exists_lines, folder_named, not_authenticated, opened_in, out_of_order, reply, says, step, tagged, untagged}
use Rattle.imap_session.specs.Putting.{HasRoomFor, IsAuthenticated, IsPut, IsRefused, MayBePut, Said, append_of, no_folder, no_message, not_enabled, one_more, put_step, too_large}
use Rattle.imap_session.specs.Replies.{ReplyPart}
use Rattle.imap_session.specs.Session.{Machine, next_turn}
use Rattle.imap_session.proofs.PutLemmas.{listed_put}

-- ---- the step of a message that is put

count_more : (kept : Kept) (folder flags mark : ℕ) (date octets : List ℕ) → length (listed (after_record kept (appended folder flags mark date octets)) folder) ≡ length (listed kept folder) + 1
count_more kept folder flags mark date octets = ap (λ (l : List Listed). length l) (listed_put kept folder flags mark date octets) ∙ length-append (listed kept folder) _

lines_if : (here : Bool) (n more : ℕ) → n ≡ more
    → (if here then untagged (decimal n ++ codes " EXISTS") ∷ [] else []) ≡ (if here then untagged (decimal more ++ codes " EXISTS") ∷ [] else [])
lines_if here n more same = rw same refl

more_told : (opened : Option ℕ) (kept : Kept) (folder flags mark : ℕ) (date octets : List ℕ) → exists_lines opened (after_record kept (appended folder flags mark date octets)) folder ≡ one_more opened kept folder
more_told None kept folder flags mark date octets = refl
more_told (Some opened) kept folder flags mark date octets = lines_if (opened == folder) _ _ (count_more kept folder flags mark date octets)

unless_put : (oracles : Oracles) (now tag : List ℕ) (state : State) (store : StoreState) (said : Said) (folder : ℕ)
    → let octets = completed said.octets in
    append_unless tag state store.kept folder (appended folder said.flags (oracles.mark_of octets) (date_or now said.date) octets) None ≡ put_step oracles now tag state store said folder
unless_put oracles now tag state store said folder =
    let octets = completed said.octets in
    let mark = oracles.mark_of octets in
    let made : Record = appended folder said.flags mark (date_or now said.date) octets in
    ap (λ (lines : List ReplyPart). ends_with tag done (changes (made ∷ []) ∷ reply lines) state) (more_told (opened_in state) store.kept folder said.flags mark (date_or now said.date) octets)

-- ---- what is asked of it

-- the step is that of the folder that is named
step_named : (oracles : Oracles) (now tag : List ℕ) (state : State) (mode : Mode) (account : ℕ) (store : StoreState) (said : Said) → IsAuthenticated mode account state
    → step oracles now state store tag (append_of said)
    ≡ append_in (context_of oracles now tag store) state mode (record { flags = said.flags; date = date_or now said.date; in_utf8 = said.in_utf8; octets = said.octets }) (folder_named oracles mode store account said.written)
unfolding step
step_named oracles now tag state mode account store said (inl is) = rw is refl
step_named oracles now tag state mode account store said (inr is) = rw is.2 refl

tells_true : (has_tree : Bool) (Has : Type 0) → IsTrue has_tree ↔ Has → Has → has_tree ≡ true
tells_true true Has observed has = refl
tells_true false Has observed has = let is : IsTrue false = observed.1 has in absurd cc

tells_false : (has_tree : Bool) (Has : Type 0) → IsTrue has_tree ↔ Has → has_tree ≡ false → ¬ Has
tells_false true Has observed is has = cc
tells_false false Has observed is has = let has : IsTrue false = observed.1 has in absurd cc

not_refused : (large many : Bool) → large ≡ false → many ≡ false → (if large || many then Some refusal.TooLarge else None) ≡ None
not_refused large many first second = rw (first, second) refl

-- where there is room nothing is refused
room_free : (store : StoreState) (octets : List ℕ) → HasRoomFor store octets → append_refusal store octets ≡ None
room_free store octets room =
    not_refused (nat_lt store.message_max (length octets)) (are_too_many (length store.kept.messages) 1) (le-ltb store.message_max (length octets) room.size)
    (le-ltb THINGS_MAX (length store.kept.messages + 1) (let few = room.messages in omega (arith, few)))

refused_full : (store : StoreState) (octets : List ℕ) (other : StoreFault) → append_refusal store octets ≡ Some other → ¬ HasRoomFor store octets
refused_full store octets other is room = let clash = sym (room_free store octets room) ∙ is in cc clash

may_come : (in_utf8 : Bool) (mode : Mode) → (in_utf8 ≡ true → mode ≡ enabled) → (in_utf8 && not (is_enabled mode)) ≡ false
may_come false mode form = refl
may_come true legacy form = let is = form refl in cc is
may_come true enabled form = refl

may_not : (in_utf8 : Bool) (mode : Mode) → (in_utf8 && not (is_enabled mode)) ≡ true → (in_utf8 ≡ true) × (mode ≡ legacy)
may_not false mode is = cc
may_not true legacy is = (refl, refl)
may_not true enabled is = cc

-- ---- it is put

last_of : (other has_tree : Bool) (x y z : Step) → other ≡ false → has_tree ≡ true → (if other then x else if has_tree then z else y) ≡ z
last_of other has_tree x y z first second = rw (first, second) refl

pub is_put : (oracles : Oracles) (now tag : List ℕ) (state : State) (mode : Mode) (account : ℕ) (store : StoreState) (said : Said) (folder : ℕ) → TellsTrees oracles.has_tree
    → IsAuthenticated mode account state → MayBePut oracles mode account store said folder → step oracles now state store tag (append_of said) ≡ put_step oracles now tag state store said folder
is_put oracles now tag state mode account store said folder observed authenticated may =
    let octets = completed said.octets in
    let date = date_or now said.date in
    let unless : Option StoreFault → Step = append_unless tag state store.kept folder (appended folder said.flags (oracles.mark_of octets) date octets) in
    step_named oracles now tag state mode account store said authenticated
    ∙ ap (append_in (context_of oracles now tag store) state mode (record { flags = said.flags; date = date; in_utf8 = said.in_utf8; octets = said.octets })) may.named
    ∙ last_of (said.in_utf8 && not (is_enabled mode)) (oracles.has_tree octets) (says tag (codes "NO not enabled") state) (says tag (codes "NO not a message") state) (unless (append_refusal store octets))
    (may_come said.in_utf8 mode may.form) (tells_true (oracles.has_tree octets) (IsStored octets) (observed octets) may.tree)
    ∙ ap unless (room_free store octets may.room) ∙ unless_put oracles now tag state store said folder

-- ---- or it is refused

module _ (oracles : Oracles) (now tag : List ℕ) (state : State) (mode : Mode) (account : ℕ) (store : StoreState) (said : Said) where
  abbrev IsEither : Step → Type 0
  IsEither taken = IsPut (context_of oracles now tag store) state mode account said taken ⊎ IsRefused (context_of oracles now tag store) state mode account said taken

  abbrev named : Option ℕ
  named = folder_named oracles mode store account said.written

  either_if : (b : Bool) (x y : Step) → (b ≡ true → IsEither x) → (b ≡ false → IsEither y) → IsEither (if b then x else y)
  either_if true x y one two = one refl
  either_if false x y one two = two refl

  either_room : (folder : ℕ) (refused : Option StoreFault) → named ≡ Some folder → append_refusal store (completed said.octets) ≡ refused
      → let octets = completed said.octets in
      IsEither (append_unless tag state store.kept folder (appended folder said.flags (oracles.mark_of octets) (date_or now said.date) octets) refused)
  either_room folder None is free = inl (folder, is, unless_put oracles now tag state store said folder)
  either_room folder (Some other) is full = inr (too_large, refused_full store (completed said.octets) other full, refl)

  either_found : TellsTrees oracles.has_tree → (found : Option ℕ) → named ≡ found
      → IsEither (append_in (context_of oracles now tag store) state mode (record { flags = said.flags; date = date_or now said.date; in_utf8 = said.in_utf8; octets = said.octets }) found)
  either_found observed None is = inr (no_folder, is, refl)
  either_found observed (Some folder) is =
      let octets = completed said.octets in
      let unless : Option StoreFault → Step = append_unless tag state store.kept folder (appended folder said.flags (oracles.mark_of octets) (date_or now said.date) octets) in
      let without : Step = says tag (codes "NO not a message") state in
      either_if (said.in_utf8 && not (is_enabled mode)) (says tag (codes "NO not enabled") state) (if oracles.has_tree octets then unless (append_refusal store octets) else without)
      (λ other. inr (not_enabled, may_not said.in_utf8 mode other, refl))
      (λ may. either_if (oracles.has_tree octets) (unless (append_refusal store octets)) without (λ has. either_room folder (append_refusal store octets) is refl)
      (λ lacks. inr (no_message, tells_false (oracles.has_tree octets) (IsStored octets) (observed octets) lacks, refl)))

  pub is_either : TellsTrees oracles.has_tree → IsAuthenticated mode account state → IsEither (step oracles now state store tag (append_of said))
  is_either observed authenticated =
      subst IsEither (sym (step_named oracles now tag state mode account store said authenticated)) (either_found observed named refl)

-- ---- what changes

pub put_changes : (oracles : Oracles) (now tag : List ℕ) (state : State) (store : StoreState) (said : Said) (folder : ℕ)
    → let octets = completed said.octets in
    changes_in (put_step oracles now tag state store said folder).acts ≡ (appended folder said.flags (oracles.mark_of octets) (date_or now said.date) octets ∷ []) ∷ []
put_changes oracles now tag state store said folder =
    let octets = completed said.octets in
    let made : Record = appended folder said.flags (oracles.mark_of octets) (date_or now said.date) octets in
    let lines = one_more (opened_in state) store.kept folder in
    let last : List ReplyPart = tagged tag done ∷ [] in
    ap (λ (acts : List (Act ReplyPart)). changes_in (changes (made ∷ []) ∷ acts)) (sym (map-append gives lines last)) ∙ changes_in-acts ((made ∷ []) ∷ []) (lines ++ last)

-- ---- before login

pub none_before : (oracles : Oracles) (now tag : List ℕ) (store : StoreState) (said : Said) → step oracles now not_authenticated store tag (append_of said) ≡ out_of_order tag not_authenticated
unfolding step
none_before oracles now tag store said = refl

-- ---- the store after a stream

each_tracks : (oracles : Oracles) → EachTracks (next_turn oracles) (λ (machine : Machine). machine.store)
each_tracks oracles machine octets turn is = let of = comes oracles machine octets turn is in rw of.turn_is refl

pub stream_store : (oracles : Oracles) (machine : Machine) (octets : List ℕ)
    → let turn = all_turns (next_turn oracles) machine octets in turn.after.store ≡ with_records machine.store (records_of (changes_in turn.parts))
stream_store oracles machine octets = all_track (next_turn oracles) (λ (machine : Machine). machine.store) (each_tracks oracles) machine octets
