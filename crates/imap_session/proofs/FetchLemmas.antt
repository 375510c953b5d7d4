-- What is told of a message.
use Rattle.std.proofs.Common.{◌≡◌, ℕ, ◌+◌, ◌<◌, Bool, true, false, List, [], ◌∷◌, ◌++◌, length, get_or, map, take, drop, Option, None, Some, refl, sym, ap, subst, ◌∙◌, append-nil, append_assoc}
use Rattle.std.specs.Prelude.{codes, ◌&&◌, not, if◌then◌else◌}
use Rattle.std.specs.Fmt.{decimal}
use Rattle.std.specs.List.{flat_map, list_any}
use Rattle.std.proofs.lemmas.Bool.{cond-false, cond-true}
use Rattle.std.proofs.lemmas.List.{map-append, take_more, take-append-drop}
use Rattle.std.proofs.lemmas.List.Folds.{list_any_at}
use Rattle.mail_wire.specs.declared.outside.Fault.{Fault}
use Rattle.kept_mail.specs.declared.kept.Listed.{Listed}
use Rattle.mail_store.specs.StoreState.{StoreState}
use Rattle.surrogate_rope.specs.declared.shown.Shown.{Shown}
use Rattle.surrogate_cache.specs.Caching.{Asked, asked_by}
use Rattle.surrogate_cache.specs.Served.{Mode, legacy, enabled, is_enabled}
use Rattle.session_core.specs.Acts.{Act, changes, gives}
use Rattle.session_core.specs.Around.{Around}
use Rattle.session_core.specs.Desks.{stored_octets}
use Rattle.session_core.specs.Doing.{Asks}
use Rattle.session_core.specs.Oracles.{Oracles}
use Rattle.session_core.proofs.AskingLemmas.{Asks-nil}
use Rattle.imap_grammar.specs.declared.command.FetchItem.{FetchItem}
use Rattle.imap_grammar.specs.declared.command.FetchItem.TheVariants as item
use Rattle.imap_mailboxes.specs.Flags.{flags_text}
use Rattle.imap_session.specs.Items.{asked_of, is_flags, is_of_message, item_parts, sets_seen}
use Rattle.imap_session.specs.Machine.{Fetching, becomes_seen, fetch_one, fetch_reply, fetch_told, flags_change, is_seen, line, parts_following, reply, seen, with_flags, with_uid}
use Rattle.imap_session.specs.Replies.{ReplyPart, text, part_octets}
use Rattle.imap_session.specs.private.Fetched.{end_octets, space_octets, tells_flags_last, tells_uid_first, uid_first_octets}
use Rattle.imap_session.specs.private.Pending.{Carries}
use Rattle.imap_session.specs.private.Shown.{HasShown, shows}
use Rattle.imap_session.proofs.PendingLemmas.{Carries-asking, Carries-before, Carries-parts, Carries-then}

pub reply-append : (xs ys : List ReplyPart) → reply (xs ++ ys) ≡ reply xs ++ reply ys
reply-append xs ys = map-append gives xs ys

-- ---- items, with a space between any two

-- whether something stands before what comes next
abbrev pub stands_after : {A : Type 0} → (others : Bool) → List A → Bool
stands_after others [] = others
stands_after others (x ∷ xs) = true

after_true : {A : Type 0} (xs : List A) → stands_after true xs ≡ true
after_true [] = refl
after_true (x ∷ xs) = refl

following-map : {A B : Type 0} (f : A → B) (others : Bool) (xs : List A) → stands_after others (map f xs) ≡ stands_after others xs
following-map f others [] = refl
following-map f others (x ∷ xs) = refl

pub following-push : {A : Type 0} (others : Bool) (xs : List A) (x : A) → stands_after others (xs ++ x ∷ []) ≡ true
following-push others [] x = refl
following-push others (y ∷ xs) x = refl

after_one : (one : List ReplyPart) (xs ys : List (List ReplyPart)) → parts_following true (xs ++ ys) ≡ parts_following true xs ++ parts_following (stands_after true xs) ys
    → one ++ parts_following true (xs ++ ys) ≡ (one ++ parts_following true xs) ++ parts_following true ys
after_one one xs ys is =
    ap (λ (l : List ReplyPart). one ++ l) (is ∙ ap (λ (b : Bool). parts_following true xs ++ parts_following b ys) (after_true xs)) ∙ sym (append_assoc one (parts_following true xs) (parts_following true ys))

parts_following-append : (others : Bool) (xs ys : List (List ReplyPart)) → parts_following others (xs ++ ys) ≡ parts_following others xs ++ parts_following (stands_after others xs) ys
parts_following-append others [] ys = refl
parts_following-append false (one ∷ xs) ys = after_one one xs ys (parts_following-append true xs ys)
parts_following-append true (one ∷ xs) ys = ap (λ (l : List ReplyPart). text (codes " ") ∷ l) (after_one one xs ys (parts_following-append true xs ys))

space_parts : (is_separated : Bool) → List ReplyPart
space_parts false = []
space_parts true = text (codes " ") ∷ []

after_alone : (is_separated : Bool) (parts : List ReplyPart) → parts_following is_separated (parts ∷ []) ≡ space_parts is_separated ++ parts
unfolding space_parts
after_alone false parts = append-nil parts
after_alone true parts = ap (λ (l : List ReplyPart). text (codes " ") ∷ l) (append-nil parts)

space_given : (oracles : Oracles) (is_separated : Bool) → space_octets is_separated ≡ flat_map (part_octets oracles) (space_parts is_separated)
unfolding space_parts
space_given oracles false = refl
space_given oracles true = refl

-- the parts of so many items, and of the others
after_cut : (others : Bool) (f : FetchItem → List ReplyPart) (xs ys : List FetchItem)
    → parts_following others (map f (xs ++ ys)) ≡ parts_following others (map f xs) ++ parts_following (stands_after others xs) (map f ys)
after_cut others f xs ys =
    ap (parts_following others) (map-append f xs ys)
    ∙ (parts_following-append others (map f xs) (map f ys) ∙ ap (λ (b : Bool). parts_following others (map f xs) ++ parts_following b (map f ys)) (following-map f others xs))

-- one item, after a space or not
pub Carries-following : (oracles : Oracles) (a b : Around) (met : Option Fault) (owed spaced owes : List ℕ) (is_separated : Bool) (parts : List ReplyPart) → spaced ≡ owed ++ space_octets is_separated
    → Carries (part_octets oracles) a b met spaced owes (reply parts) → Carries (part_octets oracles) a b met owed owes (reply (parts_following is_separated (parts ∷ [])))
Carries-following oracles a b met owed spaced owes is_separated parts spaced_is one =
    let acts : reply (parts_following is_separated (parts ∷ [])) ≡ reply (space_parts is_separated) ++ reply parts = ap reply (after_alone is_separated parts) ∙ reply-append (space_parts is_separated) parts in
    let space = Carries-parts (part_octets oracles) a owed spaced (space_parts is_separated) (spaced_is ∙ ap (λ (l : List ℕ). owed ++ l) (space_given oracles is_separated)) in
    subst (λ (l : List (Act ReplyPart)). Carries (part_octets oracles) a b met owed owes l) (sym acts)
    (Carries-then (part_octets oracles) a a b met owed spaced owes (reply (space_parts is_separated)) (reply parts) space one)

-- one item more
pub Carries-item : (oracles : Oracles) (a b c : Around) (met : Option Fault) (owed had owes : List ℕ) (others is_separated : Bool) (f : FetchItem → List ReplyPart) (items : List FetchItem) (at : ℕ) (x : FetchItem)
    → at < length items → x ≡ get_or items at x → Carries (part_octets oracles) a b None owed had (reply (parts_following others (map f (take at items))))
    → is_separated ≡ stands_after others (take at items) → Carries (part_octets oracles) b c met had owes (reply (parts_following is_separated (f x ∷ [])))
    → Carries (part_octets oracles) a c met owed owes (reply (parts_following others (map f (take (at + 1) items))))
Carries-item oracles a b c met owed had owes others is_separated f items at x low here front following one =
    let before = parts_following others (map f (take at items)) in
    let more : take (at + 1) items ≡ take at items ++ x ∷ [] = take_more items at x low ∙ ap (λ (y : FetchItem). take at items ++ y ∷ []) (sym here) in
    let cut : parts_following others (map f (take (at + 1) items)) ≡ before ++ parts_following is_separated (f x ∷ []) =
    ap (λ (l : List FetchItem). parts_following others (map f l)) more
    ∙ (after_cut others f (take at items) (x ∷ []) ∙ ap (λ (b : Bool). before ++ parts_following b (f x ∷ [])) (sym following)) in
    let acts : reply (parts_following others (map f (take (at + 1) items))) ≡ reply before ++ reply (parts_following is_separated (f x ∷ [])) = ap reply cut ∙ reply-append before (parts_following is_separated (f x ∷ [])) in
    subst (λ (l : List (Act ReplyPart)). Carries (part_octets oracles) a c met owed owes l) (sym acts)
    (Carries-then (part_octets oracles) a b c met owed had owes (reply before) (reply (parts_following is_separated (f x ∷ []))) front one)

-- a fault in one of the items
pub Carries-cut : (oracles : Oracles) (a b : Around) (met : Fault) (owed had owes : List ℕ) (others : Bool) (f : FetchItem → List ReplyPart) (items : List FetchItem) (at : ℕ)
    → Carries (part_octets oracles) a b (Some met) owed had (reply (parts_following others (map f (take at items)))) → Carries (part_octets oracles) a b (Some met) owed owes (reply (parts_following others (map f items)))
Carries-cut oracles a b met owed had owes others f items at front =
    let rest = parts_following (stands_after others (take at items)) (map f (drop at items)) in
    let acts : reply (parts_following others (map f items)) ≡ reply (parts_following others (map f (take at items))) ++ reply rest =
    ap (λ (l : List FetchItem). reply (parts_following others (map f l))) (sym (take-append-drop at items))
    ∙ (ap reply (after_cut others f (take at items) (drop at items)) ∙ reply-append (parts_following others (map f (take at items))) rest) in
    subst (λ (l : List (Act ReplyPart)). Carries (part_octets oracles) a b (Some met) owed owes l) (sym acts)
    (Carries-before (part_octets oracles) a b met owed had owes (reply (parts_following others (map f (take at items)))) (reply rest) front)

-- ---- what is put last and stays pending

pub Carries-text : (oracles : Oracles) (a : Around) (owed owes octets : List ℕ) → owes ≡ owed ++ octets → Carries (part_octets oracles) a a None owed owes (reply (text octets ∷ []))
Carries-text oracles a owed owes octets is = Carries-parts (part_octets oracles) a owed owes (text octets ∷ []) (is ∙ ap (λ (l : List ℕ). owed ++ l) (sym (append-nil octets)))

-- ---- a message's reply

abbrev front_of : (number : ℕ) → List ℕ
front_of number = codes "* " ++ (decimal number ++ codes " FETCH (")

pub first_parts : (first : Bool) → Listed → List ReplyPart
first_parts false one = []
first_parts true one = text (codes "UID " ++ decimal one.uid) ∷ []

pub last_parts : (last : Bool) → Listed → List ReplyPart
last_parts false one = []
last_parts true one = text (codes " ") ∷ text (flags_text one.flags) ∷ []

first_given : (oracles : Oracles) (first : Bool) (one : Listed) → uid_first_octets first one ≡ flat_map (part_octets oracles) (first_parts first one)
unfolding first_parts
first_given oracles false one = refl
first_given oracles true one = sym (append-nil (codes "UID " ++ decimal one.uid))

end_given : (oracles : Oracles) (last : Bool) (one : Listed) → end_octets last one ≡ flat_map (part_octets oracles) (last_parts last one ++ line (codes ")") ∷ [])
unfolding last_parts
end_given oracles false one = refl
end_given oracles true one = refl

-- the flags after all items, of which there is one at least
flags_after : (f : FetchItem → List ReplyPart) (one : Listed) (others : Bool) (items : List FetchItem) → f item.Flags ≡ text (flags_text one.flags) ∷ [] → stands_after others items ≡ true
    → parts_following others (map f (items ++ item.Flags ∷ [])) ≡ parts_following others (map f items) ++ last_parts true one
unfolding last_parts
flags_after f one others items flags some =
    after_cut others f items (item.Flags ∷ [])
    ∙ (ap (λ (b : Bool). parts_following others (map f items) ++ parts_following b (f item.Flags ∷ [])) some
    ∙ ap (λ (l : List ReplyPart). parts_following others (map f items) ++ (text (codes " ") ∷ (l ++ []))) flags)

some_of : (others : Bool) (items : List FetchItem) → (items ≡ [] → ⊥) → stands_after others items ≡ true
some_of others [] some = absurd (some refl)
some_of others (x ∷ items) some = refl

with_last : (f : FetchItem → List ReplyPart) (one : Listed) (items : List FetchItem) (last : Bool) → f item.Flags ≡ text (flags_text one.flags) ∷ [] → (items ≡ [] → ⊥)
    → parts_following false (map f (if last then items ++ item.Flags ∷ [] else items)) ≡ parts_following false (map f items) ++ last_parts last one
unfolding last_parts
with_last f one items false flags some = sym (append-nil (parts_following false (map f items)))
with_last f one items true flags some = flags_after f one false items flags (some_of false items some)

with_first : (f : FetchItem → List ReplyPart) (one : Listed) (items : List FetchItem) (first : Bool) → f item.Uid ≡ text (codes "UID " ++ decimal one.uid) ∷ []
    → parts_following false (map f (if first then item.Uid ∷ items else items)) ≡ first_parts first one ++ parts_following first (map f items)
unfolding first_parts
with_first f one items false uid = refl
with_first f one items true uid = ap (λ (l : List ReplyPart). l ++ parts_following true (map f items)) uid

some_seen : (items : List FetchItem) → list_any sets_seen items ≡ true → items ≡ [] → ⊥
some_seen [] seen is = cc
some_seen (x ∷ items) seen is = cc

abbrev in_front : (first : Bool) → List FetchItem → List FetchItem
in_front first items = if first then item.Uid ∷ items else items

some_in_front : (first : Bool) (items : List FetchItem) → (items ≡ [] → ⊥) → in_front first items ≡ [] → ⊥
some_in_front false items some is = some is
some_in_front true items some is = cc

flags_in_front : (first : Bool) (items : List FetchItem) → list_any is_flags (in_front first items) ≡ list_any is_flags items
flags_in_front false items = refl
flags_in_front true items = refl

-- all that is told, where the flags are told last or not
all_told : (f : FetchItem → List ReplyPart) (one : Listed) (items : List FetchItem) (first changed : Bool) → f item.Uid ≡ text (codes "UID " ++ decimal one.uid) ∷ [] → f item.Flags ≡ text (flags_text one.flags) ∷ []
    → (changed ≡ true → list_any sets_seen items ≡ true)
    → parts_following false (map f (with_flags changed (in_front first items)))
    ≡ (first_parts first one ++ parts_following first (map f items)) ++ last_parts (tells_flags_last changed items) one
unfolding last_parts
all_told f one items first false uid flags seen = with_first f one items first uid ∙ sym (append-nil (first_parts first one ++ parts_following first (map f items)))
all_told f one items first true uid flags seen =
    ap (λ (last : Bool). parts_following false (map f (if not last then in_front first items ++ item.Flags ∷ [] else in_front first items))) (flags_in_front first items)
    ∙ (with_last f one (in_front first items) (not (list_any is_flags items)) flags (some_in_front first items (some_seen items (seen refl)))
    ∙ ap (λ (l : List ReplyPart). l ++ last_parts (not (list_any is_flags items)) one) (with_first f one items first uid))

regrouped : {A : Type 0} (x : A) (a b c d : List A) → x ∷ (((a ++ b) ++ c) ++ d) ≡ (x ∷ []) ++ (a ++ (b ++ (c ++ d)))
regrouped x a b c d = ap (λ l. x ∷ l) (ap (λ l. l ++ d) (append_assoc a b c) ∙ (append_assoc a (b ++ c) d ∙ ap (λ l. a ++ l) (append_assoc b c d)))

-- the parts after all items
pub tail_parts : (changed : Bool) → List FetchItem → Listed → List ReplyPart
tail_parts changed items one = last_parts (tells_flags_last changed items) one ++ line (codes ")") ∷ []

pub tail_given : (oracles : Oracles) (changed : Bool) (items : List FetchItem) (one : Listed) → end_octets (tells_flags_last changed items) one ≡ flat_map (part_octets oracles) (tail_parts changed items one)
unfolding tail_parts
tail_given oracles changed items one = end_given oracles (tells_flags_last changed items) one

reply_is : (oracles : Oracles) (mode : Mode) (store : StoreState) (number : ℕ) (one : Listed) (by_uid changed : Bool) (items : List FetchItem) → (changed ≡ true → list_any sets_seen items ≡ true)
    → reply (fetch_reply oracles mode store number one (with_flags changed (with_uid by_uid items)))
    ≡ reply (text (front_of number) ∷ []) ++ (reply (first_parts (tells_uid_first by_uid items) one)
    ++ (reply (parts_following (tells_uid_first by_uid items) (map (item_parts oracles mode store one) items)) ++ reply (tail_parts changed items one)))
unfolding tail_parts
reply_is oracles mode store number one by_uid changed items seen =
    let f = item_parts oracles mode store one in
    let first = tells_uid_first by_uid items in
    let last = last_parts (tells_flags_last changed items) one in
    let told = parts_following first (map f items) in
    let parts : fetch_reply oracles mode store number one (with_flags changed (with_uid by_uid items))
    ≡ (text (front_of number) ∷ []) ++ (first_parts first one ++ (told ++ (last ++ line (codes ")") ∷ []))) =
    ap (λ (l : List ReplyPart). text (front_of number) ∷ (l ++ line (codes ")") ∷ [])) (all_told f one items first changed refl refl seen)
    ∙ regrouped (text (front_of number)) (first_parts first one) told last (line (codes ")") ∷ []) in
    ap reply parts ∙ (reply-append (text (front_of number) ∷ []) (first_parts first one ++ (told ++ (last ++ line (codes ")") ∷ [])))
    ∙ ap (λ (l : List (Act ReplyPart)). reply (text (front_of number) ∷ []) ++ l) (reply-append (first_parts first one) (told ++ (last ++ line (codes ")") ∷ []))
    ∙ ap (λ (l : List (Act ReplyPart)). reply (first_parts first one) ++ l) (reply-append told (last ++ line (codes ")") ∷ []))))

-- items after the beginning of a reply, and what follows them
pub Carries-fronted : (oracles : Oracles) (mode : Mode) (store : StoreState) (number : ℕ) (one : Listed) (by_uid changed first : Bool) (items : List FetchItem) (a b : Around) (met : Option Fault)
    (owed fronted had owes : List ℕ) → (changed ≡ true → list_any sets_seen items ≡ true) → first ≡ tells_uid_first by_uid items → fronted ≡ owed ++ front_of number → had ≡ fronted ++ uid_first_octets first one
    → Carries (part_octets oracles) a b met had owes (reply (parts_following first (map (item_parts oracles mode store one) items)) ++ reply (tail_parts changed items one))
    → Carries (part_octets oracles) a b met owed owes (reply (fetch_reply oracles mode store number one (with_flags changed (with_uid by_uid items))))
Carries-fronted oracles mode store number one by_uid changed first items a b met owed fronted had owes seen first_is fronted_is had_is told =
    let following = reply (parts_following first (map (item_parts oracles mode store one) items)) ++ reply (tail_parts changed items one) in
    let acts : reply (fetch_reply oracles mode store number one (with_flags changed (with_uid by_uid items))) ≡ reply (text (front_of number) ∷ []) ++ (reply (first_parts first one) ++ following) =
    reply_is oracles mode store number one by_uid changed items seen
    ∙ ap (λ (b : Bool). reply (text (front_of number) ∷ []) ++ (reply (first_parts b one) ++ (reply (parts_following b (map (item_parts oracles mode store one) items)) ++ reply (tail_parts changed items one)))) (sym first_is) in
    let front = Carries-text oracles a owed fronted (front_of number) fronted_is in
    let uid = Carries-parts (part_octets oracles) a fronted had (first_parts first one) (had_is ∙ ap (λ (l : List ℕ). fronted ++ l) (first_given oracles first one)) in
    subst (λ (l : List (Act ReplyPart)). Carries (part_octets oracles) a b met owed owes l) (sym acts)
    (Carries-then (part_octets oracles) a a b met owed fronted owes (reply (text (front_of number) ∷ [])) (reply (first_parts first one) ++ following) front
    (Carries-then (part_octets oracles) a a b met fronted had owes (reply (first_parts first one)) following uid told))

-- ---- what is asked for

-- an item that a session needs what is shown for is of the message, and in a legacy session each such item needs it
shows_legacy : (asked : FetchItem) → shows false asked ≡ is_of_message asked
shows_legacy item.Flags = refl
shows_legacy item.Uid = refl
shows_legacy item.InternalDate = refl
shows_legacy item.Size = refl
shows_legacy item.Rfc822 = refl
shows_legacy item.Rfc822Header = refl
shows_legacy item.Rfc822Text = refl
shows_legacy item.Envelope = refl
shows_legacy item.Body = refl
shows_legacy item.BodyStructure = refl
shows_legacy (item.Section peek path what partial) = refl

any_legacy : (items : List FetchItem) → list_any (shows false) items ≡ list_any is_of_message items
any_legacy [] = refl
any_legacy (asked ∷ items) = rw (shows_legacy asked, any_legacy items) refl

either_way : (asked : List Asked) (b : Bool) → (if b then asked else asked) ≡ asked
either_way asked true = refl
either_way asked false = refl

-- what is asked for is what is shown, where that is needed, and otherwise nothing
asked_shown : (mode : Mode) (store : StoreState) (items : List FetchItem) (id : ℕ) (needed : Bool) → list_any (shows (is_enabled mode)) items ≡ needed
    → asked_of mode store items id ≡ (if needed then asked_by mode id (stored_octets store id) else [])
asked_shown legacy store items id needed is = ap (λ (b : Bool). (if b then asked_by legacy id (stored_octets store id) else [])) (sym (any_legacy items) ∙ is)
asked_shown enabled store items id needed is = either_way [] (list_any is_of_message items) ∙ sym (either_way [] needed)

pub Asks-none : (mode : Mode) (a : Around) (items : List FetchItem) (id : ℕ) → list_any (shows (is_enabled mode)) items ≡ false → Asks a a None (asked_of mode a.desk.store items id)
Asks-none mode a items id is = subst (λ (l : List Asked). Asks a a None l) (sym (asked_shown mode a.desk.store items id false is)) (Asks-nil a)

pub Asks-shown : (mode : Mode) (a b : Around) (met : Option Fault) (items : List FetchItem) (id : ℕ) → list_any (shows (is_enabled mode)) items ≡ true
    → Asks a b met (asked_by mode id (stored_octets a.desk.store id)) → Asks a b met (asked_of mode a.desk.store items id)
Asks-shown mode a b met items id is shown = subst (λ (l : List Asked). Asks a b met l) (sym (asked_shown mode a.desk.store items id true is)) shown

-- the same is asked for of a store that shows the message alike
asked_alike : (mode : Mode) (store other : StoreState) (items : List FetchItem) (id : ℕ) → stored_octets other id ≡ stored_octets store id → asked_of mode other items id ≡ asked_of mode store items id
asked_alike mode store other items id same = ap (λ (octets : List ℕ). (if list_any is_of_message items then asked_by mode id octets else [])) same

-- the message was asked for, and then it is told
pub Carries-told : (oracles : Oracles) (store : StoreState) (fetching : Fetching) (number : ℕ) (one : Listed) (changed : Bool) (a b c : Around) (met : Option Fault) (owed owes : List ℕ)
    → stored_octets a.desk.store one.id ≡ stored_octets store one.id → Asks a b None (asked_of fetching.mode a.desk.store fetching.items one.id)
    → Carries (part_octets oracles) b c met owed owes (reply (fetch_reply oracles fetching.mode store number one (with_flags changed (with_uid fetching.by_uid fetching.items))))
    → Carries (part_octets oracles) a c met owed owes (fetch_told oracles store fetching (record { number = number; listed = one }) changed)
Carries-told oracles store fetching number one changed a b c met owed owes same is_asked told =
    let items = fetching.items in
    Carries-asking (part_octets oracles) a b c met owed owes (asked_of fetching.mode store items one.id)
    (reply (fetch_reply oracles fetching.mode store number one (with_flags changed (with_uid fetching.by_uid items))))
    (subst (λ (l : List Asked). Asks a b None l) (asked_alike fetching.mode store a.desk.store items one.id same) is_asked) told

-- ---- one message

pub seen_asked : (read_only : Bool) (items : List FetchItem) (one : Listed) → becomes_seen read_only items one ≡ true → list_any sets_seen items ≡ true
seen_asked read_only items one is = asked read_only (list_any sets_seen items) (not (is_seen one)) is
  where
    asked : (r a b : Bool) → (not r && (a && b)) ≡ true → a ≡ true
    asked true a b is = cc
    asked false false b is = cc
    asked false true b is = refl

-- the message is seen from here on
pub fetched_seen : (oracles : Oracles) (store : StoreState) (fetching : Fetching) (number : ℕ) (one : Listed) → becomes_seen fetching.read_only fetching.items one ≡ true
    → fetch_one oracles store fetching (record { number = number; listed = one })
    ≡ changes (flags_change one (seen one).flags) ∷ fetch_told oracles store fetching (record { number = number; listed = seen one }) true
fetched_seen oracles store fetching number one is = cond-true (becomes_seen fetching.read_only fetching.items one) _ _ is

pub fetched : (oracles : Oracles) (store : StoreState) (fetching : Fetching) (number : ℕ) (one : Listed) → becomes_seen fetching.read_only fetching.items one ≡ false
    → fetch_one oracles store fetching (record { number = number; listed = one }) ≡ fetch_told oracles store fetching (record { number = number; listed = one }) false
fetched oracles store fetching number one is = cond-false (becomes_seen fetching.read_only fetching.items one) _ _ is

-- ---- the items, one after the other

pub stands_next : {A : Type 0} (others : Bool) (items : List A) (at : ℕ) (x : A) → at < length items → true ≡ stands_after others (take (at + 1) items)
stands_next others items at x low = sym (ap (stands_after others) (take_more items at x low) ∙ following-push others (take at items) (get_or items at x))

-- what is shown is there for each item that needs it
pub HasShown-at : (mode : Mode) (msg : List ℕ) (items : List FetchItem) (at : ℕ) (x : FetchItem) (found : Option Shown) → at < length items → x ≡ get_or items at x
    → HasShown mode msg (list_any (shows (is_enabled mode)) items) found → HasShown mode msg (shows (is_enabled mode) x) found
HasShown-at mode msg items at x (Some found) low here has = has
HasShown-at mode msg items at x None low here has = unneeded (needed x) refl
  where
    needed : FetchItem → Bool
    needed x = shows (is_enabled mode) x

    unneeded : (b : Bool) → needed x ≡ b → b ≡ false
    unneeded false is = refl
    unneeded true is = let some : list_any needed items ≡ true = list_any_at needed items at x low (ap needed (sym here) ∙ is) in cc
