-- Folders by their names.
use Rattle.journal_records.specs.declared.versions.Version.TheVariants as versions
use Rattle.std.proofs.Common.{◌≡◌, ◌≢◌, ℕ, suc, ◌+◌, ◌^◌, ◌<◌, ◌≤◌, Bool, true, false, ◌&&◌, cond, eqb, List, [], ◌∷◌, ◌++◌, length, Option, Some, None, refl, sym, ap, ap₂, ◌∙◌, subst, arith, inl, inr, eq-eqb, ◌==◌, IsUtf8}
use Rattle.std.specs.Prelude.{IfSome, filter, is_some}
use Rattle.std.specs.Char.{is_control}
use Rattle.std.specs.List.{All}
use Rattle.std.specs.Str.{bytes_eq, chars}
use Rattle.std.proofs.lemmas.Bool.{cases_Bool, eqb-false, eqb-true, true≢false}
use Rattle.std.proofs.lemmas.List.Elements.{All-filter, All-from_recursion, All-map, All-weaker}
use Rattle.std.proofs.lemmas.Option.{same_Some, none-some}
use Rattle.std.proofs.lemmas.Slice.Eq.{bytes_eq-Decides}
use Rattle.std.proofs.lemmas.Str.{IsUtf8-from_ascii, chars-IsAscii}
use Rattle.std.proofs.lemmas.Str.Ascii.{IsAscii-from_all}
use Rattle.unicode_normalization.specs.Forms.{Nfc, is_nfc, nfc}
use Rattle.unicode_normalization.proofs.FormsLemmas.{normalize-ascii}
use Rattle.journal_records.specs.declared.records.Record.TheVariants as records
use Rattle.journal_records.specs.declared.limits.TheConstants.{NAME_MAX}
use Rattle.journal_records.specs.Grammar.{IsFolderName, IsNameChar, inbox}
use Rattle.journal_records.specs.Spelling.{IsWritableRecord}
use Rattle.journal_records.proofs.FrameLemmas.{number_once}
use Rattle.mail_store.specs.declared.changing.StoreFault.TheVariants as faults
use Rattle.kept_mail.specs.declared.kept.Folder.{Folder}
use Rattle.kept_mail.specs.declared.limits.TheConstants.{THINGS_MAX}
use Rattle.mail_store.specs.Changing.{folder_refusal}
use Rattle.kept_mail.specs.Records.{are_too_many, AreRecords}
use Rattle.kept_mail.specs.Kept.{Kept, first_named, find_folder, names_among}
use Rattle.kept_mail.specs.private.Names.{folder_key, kept_first, PutsName}
use Rattle.mail_store.proofs.ChangeLemmas.{has_room}
use Rattle.kept_mail.proofs.NameLemmas.{none_of}

pub and_first : (a b : Bool) → a ≡ false → (a && b) ≡ false
and_first a b e = rw e refl

pub and_none : (a b : Bool) → b ≡ false → (a && b) ≡ false
and_none true b e = e
and_none false b e = refl

pub and_second : (a b : Bool) → b ≡ true → (a && b) ≡ a
and_second true b e = e
and_second false b e = refl

pub bytes_differ : (a b : List ℕ) → a ≢ b → bytes_eq a b ≡ false
bytes_differ a b differ =
    elim (cases_Bool (bytes_eq a b)) [
      | inl same ↦ absurd (differ ((bytes_eq-Decides a b).0 same))
      | inr other ↦ other
    ]

-- ---- names

plain : (c : ℕ) → is_control c ≡ false → (c == 42) ≡ false → (c == 37) ≡ false → IsNameChar c
plain c none star percent = (none, eqb-false c 42 star, eqb-false c 37 percent)

-- INBOX may be a folder's name
pub inbox_named : IsFolderName inbox
inbox_named =
    let below : All (λ c. c < 128) inbox = All-from_recursion (λ c. c < 128) inbox (omega arith, (omega arith, (omega arith, (omega arith, (omega arith, tt))))) in
    let ascii = IsAscii-from_all inbox below in
    let characters : chars inbox ≡ inbox = chars-IsAscii inbox ascii in
    record {
      some = (let some : 0 < 5 = omega arith in some);
      short = (let short : 5 ≤ NAME_MAX = omega arith in short);
      utf8 = IsUtf8-from_ascii inbox ascii;
      nfc = subst (λ cs. is_nfc cs ≡ true) (sym characters) ((bytes_eq-Decides (nfc inbox) inbox).1 (normalize-ascii Nfc inbox below));
      each = subst (All IsNameChar) (sym characters) (All-from_recursion IsNameChar inbox
          (plain 73 refl refl refl, (plain 78 refl refl refl, (plain 66 refl refl refl, (plain 79 refl refl refl, (plain 88 refl refl refl, tt))))));
    }

-- the names of an account's folders are UTF-8
pub names_utf8 : (account : ℕ) (folders : List Folder) → All (λ folder. IsFolderName folder.name) folders → All IsUtf8 (names_among account folders)
names_utf8 account folders named =
    let own = λ (folder : Folder). folder.account == account in
    let utf8 = λ (folder : Folder). IsUtf8 folder.name in
    All-map IsUtf8 (λ (folder : Folder). folder.name) (filter own folders) (All-filter own utf8 folders (All-weaker (λ (folder : Folder). IsFolderName folder.name) utf8 (λ folder is. is.utf8) folders named))

-- ---- one more folder

no_some : (i : ℕ) → Some i ≡ None → ⊥
no_some i e = cc

-- the folder is the account's, and has this name
abbrev is_named : ℕ → List ℕ → Folder → Bool
is_named account name f = eqb f.account account && bytes_eq f.name name

pub first_named-push_found : (account : ℕ) (name : List ℕ) (at : ℕ) (fs : List Folder) (x : Folder) (i : ℕ) → first_named account name at fs ≡ Some i → first_named account name at (fs ++ x ∷ []) ≡ Some i
first_named-push_found account name at [] x i e = absurd (none-some i e)
first_named-push_found account name at (f ∷ fs) x i e =
    elim (cases_Bool (is_named account name f)) [
      | inl same ↦ rw same (rw same at e)
      | inr other ↦ rw other (first_named-push_found account name (at + 1) fs x i (rw other at e))
    ]

pub first_named-push_none : (account : ℕ) (name : List ℕ) (at : ℕ) (fs : List Folder) (x : Folder) → first_named account name at fs ≡ None
    → first_named account name at (fs ++ x ∷ []) ≡ cond (is_named account name x) (Some (at + length fs)) None
first_named-push_none account name at [] x e =
    let here : at ≡ at + 0 = omega arith in
    ap (λ (n : ℕ). cond (is_named account name x) (Some n) None) here
first_named-push_none account name at (f ∷ fs) x e =
    elim (cases_Bool (is_named account name f)) [
      | inl same ↦ absurd (no_some at (rw same at e))
      | inr other ↦
          let there : at + 1 + length fs ≡ at + suc (length fs) = omega arith in
          rw other (first_named-push_none account name (at + 1) fs x (rw other at e) ∙ ap (λ (n : ℕ). cond (is_named account name x) (Some n) None) there)
    ]

pub first_named-push_other : (account : ℕ) (name : List ℕ) (at : ℕ) (fs : List Folder) (x : Folder) → is_named account name x ≡ false → first_named account name at (fs ++ x ∷ []) ≡ first_named account name at fs
first_named-push_other account name at [] x other = rw other refl
first_named-push_other account name at (f ∷ fs) x other = ap (λ (o : Option ℕ). cond (is_named account name f) (Some at) o) (first_named-push_other account name (at + 1) fs x other)

first_named_within : (account : ℕ) (name : List ℕ) (at : ℕ) (fs : List Folder) (i : ℕ) → first_named account name at fs ≡ Some i → i < at + length fs
first_named_within account name at [] i e = absurd (none-some i e)
first_named_within account name at (f ∷ fs) i e =
    elim (cases_Bool (is_named account name f)) [
      | inl same ↦
          let is : at ≡ i = same_Some at i (rw same at e) in
          omega (arith, is)
      | inr other ↦
          let ih = first_named_within account name (at + 1) fs i (rw other at e) in
          omega (arith, ih)
    ]

pub named_known : (account : ℕ) (name : List ℕ) (fs : List Folder) (found : Option ℕ) → found ≡ first_named account name 0 fs → IfSome found (λ folder. folder < length fs)
named_known account name fs None e = tt
named_known account name fs (Some folder) e = omega (arith, first_named_within account name 0 fs folder (sym e))

-- ---- keys

pub keys_alike : (a b : ℕ) (x y : List ℕ) → a < 2 ^ 32 → b < 2 ^ 32 → bytes_eq (folder_key a x) (folder_key b y) ≡ (eqb a b && bytes_eq x y)
keys_alike a b x y small_a small_b =
    elim (cases_Bool (bytes_eq (folder_key a x) (folder_key b y))) [
      | inl same ↦
          let once = number_once a b x y small_a small_b ((bytes_eq-Decides (folder_key a x) (folder_key b y)).0 same) in
          rw (same, eq-eqb a b once.0, (bytes_eq-Decides x y).1 once.1) refl
      | inr other ↦
          elim (cases_Bool (eqb a b)) [
            | inr differ ↦ rw (other, differ) refl
            | inl alike ↦
                elim (cases_Bool (bytes_eq x y)) [
                  | inr differ ↦ rw (other, alike, differ) refl
                  | inl equal ↦
                      let keys : folder_key a x ≡ folder_key b y = ap₂ folder_key (eqb-true a b alike) ((bytes_eq-Decides x y).0 equal) in
                      absurd (true≢false (sym ((bytes_eq-Decides (folder_key a x) (folder_key b y)).1 keys) ∙ other))
                ]
          ]
    ]

-- the number at the key of an account's name, once a folder was put last
pub names_push : (fs : List Folder) (names after : List ℕ → Option ℕ) (x : Folder) (account : ℕ) (name : List ℕ) → x.account < 2 ^ 32 → account < 2 ^ 32
    → names (folder_key account name) ≡ first_named account name 0 fs → PutsName names after (folder_key x.account x.name) (length fs)
    → after (folder_key account name) ≡ first_named account name 0 (fs ++ x ∷ [])
names_push fs names after x account name small_x small is puts =
    puts (folder_key account name) ∙ ap (λ (o : Option ℕ). kept_first o (folder_key x.account x.name) (folder_key account name) (length fs)) is ∙ by (first_named account name 0 fs) refl
  where
    alike : bytes_eq (folder_key x.account x.name) (folder_key account name) ≡ is_named account name x
    alike = keys_alike x.account account x.name name small_x small

    by : (o : Option ℕ) → first_named account name 0 fs ≡ o → kept_first o (folder_key x.account x.name) (folder_key account name) (length fs) ≡ first_named account name 0 (fs ++ x ∷ [])
    by (Some i) e = sym (first_named-push_found account name 0 fs x i e)
    by None e =
        let plain : length fs ≡ 0 + length fs = omega arith in
        ap₂ (λ (b : Bool) (n : ℕ). cond b (Some n) None) alike plain ∙ sym (first_named-push_none account name 0 fs x e)

-- ---- the record of a folder

pub writable-folder : (account : ℕ) (name : List ℕ) → account < 2 ^ 32 → IsFolderName name → IsWritableRecord (records.Folder account name)
writable-folder account name small named = ((small, omega (arith, named.short)), omega (arith, named.short))

pub AreRecords-folder : (kept : Kept) (account : ℕ) (name : List ℕ) → account < length kept.accounts → account < 2 ^ 32 → IsFolderName name → length kept.folders < THINGS_MAX
    → AreRecords versions.Two kept (records.Folder account name ∷ [])
AreRecords-folder kept account name known small named room =
    let writable = writable-folder account name small named in
    (record { fits = writable.0; short = writable.1; of_version = tt; in_order = (known, named, room) }, tt)

-- ---- refusals

pub folder_exists : (kept : Kept) (account : ℕ) (name : List ℕ) → is_some (find_folder kept account name) ≡ true → folder_refusal kept account name ≡ Some faults.Exists
folder_exists kept account name there = rw there refl

pub folder_many : (kept : Kept) (account : ℕ) (name : List ℕ) → is_some (find_folder kept account name) ≡ false → are_too_many (length kept.folders) 1 ≡ true
    → folder_refusal kept account name ≡ Some faults.TooLarge
folder_many kept account name there many = rw (there, many) refl

pub folder_taken : (kept : Kept) (account : ℕ) (name : List ℕ) → is_some (find_folder kept account name) ≡ false → are_too_many (length kept.folders) 1 ≡ false
    → folder_refusal kept account name ≡ None
folder_taken kept account name there many = rw (there, many) refl

free_parts : (there many : Bool) → cond there (Some faults.Exists) (cond many (Some faults.TooLarge) None) ≡ None → (there ≡ false) × (many ≡ false)
free_parts true many e = absurd cc
free_parts false true e = absurd cc
free_parts false false e = (refl, refl)

-- where a folder isn't refused, there is none, and there is room for it
pub folder_parts : (kept : Kept) (account : ℕ) (name : List ℕ) → folder_refusal kept account name ≡ None → (find_folder kept account name ≡ None) × (length kept.folders < THINGS_MAX)
folder_parts kept account name none =
    let parts = free_parts (is_some (find_folder kept account name)) (are_too_many (length kept.folders) 1) none in
    (none_of (find_folder kept account name) parts.0, has_room (length kept.folders) parts.1)
