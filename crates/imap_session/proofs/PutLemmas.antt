-- The list of a folder's messages after APPEND: the message that was put there is its last one.
use Rattle.std.proofs.Common.{◌≡◌, ℕ, ◌+◌, ◌<◌, ◌≤◌, ◌==◌, Bool, true, false, cond, List, [], ◌∷◌, ◌++◌, length, refl, sym, ap, ◌∙◌, append-nil, length-append, eq-eqb, ne_eqb, arith}
use Rattle.std.specs.Prelude.{count_by}
use Rattle.std.proofs.lemmas.List.Sums.{sum_by-cons, sum_by_push}
use Rattle.kept_mail.specs.Kept.{Kept, after_record, listed, listed_from, uid_next}
use Rattle.kept_mail.specs.declared.kept.Listed.{Listed}
use Rattle.kept_mail.specs.declared.kept.Message.{Message}
use Rattle.kept_mail.specs.declared.limits.TheConstants.{THINGS_MAX}
use Rattle.mail_store.proofs.ListedLemmas.{listed_few, put as in_front}
use Rattle.imap_session.specs.Machine.{appended}
use Rattle.imap_session.specs.declared.appending.Put.{Put}
use Rattle.imap_session.specs.declared.appending.Put.TheVariants as put
use Rattle.imap_session.specs.private.Appending.{WereListed}

-- ---- a message more after all

front_joins : (here live : Bool) (one : Listed) (others more joined_others joined_more : List Listed) (uid n : ℕ) (last : ℕ → List Listed) → joined_others ≡ others ++ last (uid + 1 + n)
    → joined_more ≡ more ++ last (uid + n) → in_front here live one joined_others joined_more ≡ in_front here live one others more ++ last (uid + (cond here 1 0 + n))
front_joins false live one others more joined_others joined_more uid n last counted same =
    let next : uid + n ≡ uid + (0 + n) = omega arith in
    same ∙ ap (λ (k : ℕ). more ++ last k) next
front_joins true false one others more joined_others joined_more uid n last counted same =
    let next : uid + 1 + n ≡ uid + (1 + n) = omega arith in
    counted ∙ ap (λ (k : ℕ). others ++ last k) next
front_joins true true one others more joined_others joined_more uid n last counted same =
    let next : uid + 1 + n ≡ uid + (1 + n) = omega arith in
    ap (λ (l : List Listed). one ∷ l) (counted ∙ ap (λ (k : ℕ). others ++ last k) next)

listed_from-push : (folder at uid : ℕ) (ms : List Message) (m : Message)
    → listed_from folder at uid (ms ++ m ∷ []) ≡ listed_from folder at uid ms ++ listed_from folder (at + length ms) (uid + count_by (λ (message : Message). message.folder == folder) ms) (m ∷ [])
listed_from-push folder at uid [] m =
    let place : at ≡ at + 0 = omega arith in
    let next : uid ≡ uid + 0 = omega arith in
    ap (λ (k : ℕ). listed_from folder k uid (m ∷ [])) place ∙ ap (λ (k : ℕ). listed_from folder (at + 0) k (m ∷ [])) next
listed_from-push folder at uid (x ∷ ms) m =
    let n : ℕ = count_by (λ (message : Message). message.folder == folder) ms in
    let all : ℕ = count_by (λ (message : Message). message.folder == folder) (x ∷ ms) in
    let count : cond (x.folder == folder) 1 0 + n ≡ all = sym (sum_by-cons (λ (message : Message). cond (message.folder == folder) 1 0) x ms) in
    let place : at + 1 + length ms ≡ at + length (x ∷ ms) = omega arith in
    front_joins (x.folder == folder) x.live (record { id = at; uid = uid; flags = x.flags }) (listed_from folder (at + 1) (uid + 1) ms) (listed_from folder (at + 1) uid ms)
    (listed_from folder (at + 1) (uid + 1) (ms ++ m ∷ [])) (listed_from folder (at + 1) uid (ms ++ m ∷ [])) uid n (λ (k : ℕ). listed_from folder (at + 1 + length ms) k (m ∷ []))
    (listed_from-push folder (at + 1) (uid + 1) ms m) (listed_from-push folder (at + 1) uid ms m)
    ∙ ap (λ (k : ℕ). listed_from folder at uid (x ∷ ms) ++ listed_from folder (at + 1 + length ms) (uid + k) (m ∷ [])) count
    ∙ ap (λ (k : ℕ). listed_from folder at uid (x ∷ ms) ++ listed_from folder k (uid + all) (m ∷ [])) place

-- a message alone, of the folder or of another
own_alone : (own : Bool) (one : Listed) → own ≡ true → in_front own true one [] [] ≡ one ∷ []
own_alone own one is = rw is refl

other_alone : (own : Bool) (one : Listed) → own ≡ false → in_front own true one [] [] ≡ []
other_alone own one is = rw is refl

-- the message that was put into the folder is the last one of its list
pub listed_put : (old : Kept) (folder flags mark : ℕ) (date octets : List ℕ)
    → listed (after_record old (appended folder flags mark date octets)) folder ≡ listed old folder ++ record { id = length old.messages; uid = uid_next old folder; flags = flags } ∷ []
listed_put old folder flags mark date octets =
    let m : Message = record { folder = folder; flags = flags; live = true; date = date; octets = octets } in
    let count : ℕ = count_by (λ (message : Message). message.folder == folder) old.messages in
    let place : 0 + length old.messages ≡ length old.messages = omega arith in
    let next : 1 + count ≡ uid_next old folder = omega arith in
    let alone = own_alone (folder == folder) (record { id = 0 + length old.messages; uid = 1 + count; flags = flags }) (eq-eqb folder folder refl) in
    listed_from-push folder 0 1 old.messages m
    ∙ ap (λ (l : List Listed). listed old folder ++ l)
    (alone ∙ ap (λ (k : ℕ). record { id = k; uid = 1 + count; flags = flags } ∷ []) place ∙ ap (λ (k : ℕ). record { id = length old.messages; uid = k; flags = flags } ∷ []) next)

-- another folder's list is as it was
listed_beside : (old : Kept) (folder opened flags mark : ℕ) (date octets : List ℕ) → (folder == opened) ≡ false → listed (after_record old (appended folder flags mark date octets)) opened ≡ listed old opened
listed_beside old folder opened flags mark date octets other =
    let m : Message = record { folder = folder; flags = flags; live = true; date = date; octets = octets } in
    let count : ℕ = count_by (λ (message : Message). message.folder == opened) old.messages in
    listed_from-push opened 0 1 old.messages m
    ∙ ap (λ (l : List Listed). listed old opened ++ l) (other_alone (folder == opened) (record { id = 0 + length old.messages; uid = 1 + count; flags = flags }) other) ∙ append-nil (listed old opened)

next_put : (old : Kept) (folder flags mark : ℕ) (date octets : List ℕ) → uid_next (after_record old (appended folder flags mark date octets)) folder ≡ uid_next old folder + 1
next_put old folder flags mark date octets =
    let m : Message = record { folder = folder; flags = flags; live = true; date = date; octets = octets } in
    let count : ℕ = count_by (λ (message : Message). message.folder == folder) old.messages in
    let more : count_by (λ (message : Message). message.folder == folder) (old.messages ++ m ∷ []) ≡ count + 1 =
    sum_by_push (λ (message : Message). cond (message.folder == folder) 1 0) old.messages m ∙ ap (λ (b : Bool). count + cond b 1 0) (eq-eqb folder folder refl) in
    omega (arith, more)

-- ---- the list

-- the message that was put last in the folder, after these
pub record HasNewest (kept : Kept) (folder flags : ℕ) (messages : List Listed) : Type 0 where
  pub id : ℕ
  pub uid : ℕ
  pub id_is : id + 1 ≡ length kept.messages
  pub uid_is : uid + 1 ≡ uid_next kept folder
  pub few : id < THINGS_MAX
  pub fewer : length messages ≤ id
  pub listing : messages ++ record { id = id; uid = uid; flags = flags } ∷ [] ≡ listed kept folder

pub newest : (kept : Kept) (opened flags folder : ℕ) (messages : List Listed) → folder ≡ opened → WereListed kept opened flags (put.In folder) messages → HasNewest kept opened flags messages
newest kept opened flags folder messages same was =
    let old : Kept = was.old in
    let mark = was.following.0 in
    let date = was.following.1 in
    let octets = was.following.2 in
    let made = appended opened flags mark date octets in
    let is : kept ≡ after_record old made = was.following.3 ∙ ap (λ (f : ℕ). after_record old (appended f flags mark date octets)) same in
    let one : Listed = record { id = length old.messages; uid = uid_next old opened; flags = flags } in
    let count = length-append old.messages (record { folder = opened; flags = flags; live = true; date = date; octets = octets } ∷ []) in
    let few = listed_few old opened in
    record {
      id = length old.messages;
      uid = uid_next old opened;
      id_is = sym (ap (λ (k : Kept). length k.messages) is ∙ count);
      uid_is = sym (ap (λ (k : Kept). uid_next k opened) is ∙ next_put old opened flags mark date octets);
      few = was.following.4;
      fewer = rw was.were few;
      listing = ap (λ (l : List Listed). l ++ one ∷ []) was.were ∙ sym (ap (λ (k : Kept). listed k opened) is ∙ listed_put old opened flags mark date octets);
    }

pub listed_other : (kept : Kept) (opened flags folder : ℕ) (messages : List Listed) → (folder ≡ opened → ⊥) → WereListed kept opened flags (put.In folder) messages → messages ≡ listed kept opened
listed_other kept opened flags folder messages other was =
    was.were ∙ sym (ap (λ (k : Kept). listed k opened) was.following.3 ∙ listed_beside was.old folder opened flags was.following.0 was.following.1 was.following.2 (ne_eqb folder opened other))

-- nothing was put
pub listed_same : (kept : Kept) (opened flags : ℕ) (advance : Put) (messages : List Listed) → ((folder : ℕ) → advance ≡ put.In folder → ⊥) → WereListed kept opened flags advance messages → messages ≡ listed kept opened
listed_same kept opened flags (put.In folder) messages none was = absurd (none folder refl)
listed_same kept opened flags put.NoFolder messages none was = was.were ∙ sym (ap (λ (k : Kept). listed k opened) was.following)
listed_same kept opened flags put.NotEnabled messages none was = was.were ∙ sym (ap (λ (k : Kept). listed k opened) was.following)
listed_same kept opened flags put.NoMessage messages none was = was.were ∙ sym (ap (λ (k : Kept). listed k opened) was.following)
listed_same kept opened flags put.TooLarge messages none was = was.were ∙ sym (ap (λ (k : Kept). listed k opened) was.following)
