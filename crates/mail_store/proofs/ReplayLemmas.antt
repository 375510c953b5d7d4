-- Going over a journal, record by record.
use Rattle.std.proofs.Common.{◌≡◌, ℕ, ◌+◌, ◌-◌, ◌<◌, ◌≤◌, ◌^◌, Bool, true, false, List, [], ◌∷◌, ◌++◌, length, take, drop, Option, Some, None, Ok, Err, refl, sym, ap, ap₂, subst, ◌∙◌, append_assoc, append-nil, arith, inl, inr, ◌⊎◌, length-append, length-take, length-drop}
use Rattle.std.specs.Prelude.{IfSome, IsTrue, ◌↔◌}
use Rattle.std.specs.List.{flat_map}
use Rattle.std.proofs.lemmas.List.{take_at, drop_at, drop-drop}
use Rattle.std.proofs.lemmas.Bool.{true≢false}
use Rattle.std.proofs.lemmas.List.Concat.{flat_map-cons, flat_map-append}
use Rattle.mail_wire.specs.KeeperState.{KeeperState}
use Rattle.journal_records.specs.declared.limits.TheConstants.{RECORD_MAX}
use Rattle.mail_store.specs.declared.opening.OpenFault.{OpenFault}
use Rattle.mail_store.specs.declared.opening.OpenFault.TheVariants as faults
use Rattle.journal_records.specs.declared.frames.Frame.{Frame}
use Rattle.journal_records.specs.declared.frames.Frame.TheVariants as frames
use Rattle.journal_records.specs.declared.records.Record.{Record}
use Rattle.journal_records.specs.declared.versions.Version.{Version}
use Rattle.journal_records.specs.declared.versions.Version.TheVariants.{Two}
use Rattle.journal_records.specs.Versions.{version_after_all}
use Rattle.kept_mail.specs.Kept.{Kept, nothing, after_all, store_of}
use Rattle.kept_mail.specs.Records.{IsRecord, AreRecords}
use Rattle.journal_records.specs.Spelling.{octet_list, fields_of, record_text, journal}
use Rattle.mail_store.specs.StoreState.{StoreState, with_records}
use Rattle.journal_records.specs.Frames.{IsCutShort, IsFrame, IsWhole, IsNoFrame, FitsIn}
use Rattle.mail_store.specs.Opening.{AreZeros, BeginsJournal, HasNoRecord, HasRecordsIn, IsBroken, IsBadAt}
use Rattle.mail_store.specs.private.Adding.{Added, NotAdded}
use Rattle.mail_store.specs.private.Replaying.{AddsFrame, AddsFrameBy, AddsNoFrame, BreaksFrame, KeeperStays, IsReadTo, IsBadRest, IsBrokenRest, IsRestFault, IsOutside, ReadsOne, ReadsTwo, fields_at}
use Rattle.mail_store.proofs.ChangeLemmas.{after_all-append, end_after-is}
use Rattle.mail_store.proofs.DeliveryLemmas.{AreRecords-append}
use Rattle.mail_store.proofs.FollowLemmas.{with_records-append}
use Rattle.mail_store.proofs.LawLemmas.{journal-append, version_after_all-append}
use Rattle.mail_store.proofs.Next.{text_len}
use Rattle.mail_store.proofs.Readings.{broken_moves, none_moves, zeros_no_list}
use Rattle.journal_records.proofs.FrameLemmas.{list_once, list_no_prefix}
use Rattle.journal_records.proofs.RecordLaws.{some_fields}

-- ---- one record

-- the octets after one more record
text_next : (octets fields : List ℕ) (at n : ℕ) → IsWhole n (drop at octets) → fields ≡ fields_at octets at n → drop at octets ≡ octet_list fields ++ drop (at + (4 + n)) octets
text_next octets fields at n w f =
    let place : at + 4 + n ≡ at + (4 + n) = omega arith in
    let following : drop n (drop 4 (drop at octets)) ≡ drop (at + (4 + n)) octets = ap (drop n) (drop-drop 4 at octets) ∙ drop-drop n (at + 4) octets ∙ ap (λ (k : ℕ). drop k octets) place in
    let its : take n (drop 4 (drop at octets)) ≡ fields = ap (take n) (drop-drop 4 at octets) ∙ sym f in
    w.text ∙ ap (λ (l : List ℕ). octet_list l ++ drop n (drop 4 (drop at octets))) its ∙ ap (λ (l : List ℕ). octet_list fields ++ l) following

-- the journal is longer by that record
added_end : (version after : Version) (old new : StoreState) (fields : List ℕ) → Added version after old new fields → new.end ≡ old.end + (4 + length fields)
added_end version after old new fields a = ap (λ (x : StoreState). x.end) a.new_is ∙ ap (λ (k : ℕ). old.end + k) (sym (text_len a.one fields a.text))

-- nothing was put last
pub IsReadTo-none : (told : Option (List ℕ)) (version : Version) (store : StoreState) → IsReadTo told version version store store
IsReadTo-none None version store = record { more = []; records = tt; after_is = refl; store_is = refl; text = tt }
IsReadTo-none (Some octets) version store = record { more = []; records = tt; after_is = refl; store_is = refl; text = refl }

pub IsReadTo-still : (told : Option (List ℕ)) (version after : Version) (old new : StoreState) → after ≡ version → new ≡ old → IsReadTo told version after old new
IsReadTo-still told version after old new v s =
    subst (λ (x : Version). IsReadTo told version x old new) (sym v) (subst (IsReadTo told version version old) (sym s) (IsReadTo-none told version old))

-- one record
added_text : (told : Option (List ℕ)) (n : ℕ) (version after : Version) (old new : StoreState) (fields : List ℕ) → (a : Added version after old new fields) → length fields ≡ n
    → IfSome told (λ octets. IsWhole n (drop old.end octets)) → IfSome told (λ octets. fields ≡ fields_at octets old.end n)
    → IfSome told (λ octets. drop old.end octets ≡ flat_map record_text (a.one ∷ []) ++ drop new.end octets)
added_text None n version after old new fields a len w f = tt
added_text (Some octets) n version after old new fields a len w f =
    let end : new.end ≡ old.end + (4 + n) = added_end version after old new fields a ∙ ap (λ (k : ℕ). old.end + (4 + k)) len in
    text_next octets fields old.end n w f
    ∙ ap₂ (λ (l m : List ℕ). l ++ m) (ap octet_list a.text ∙ sym (flat_map-cons record_text a.one [] ∙ append-nil (record_text a.one))) (ap (λ (k : ℕ). drop k octets) (sym end))

pub IsReadTo-one : (told : Option (List ℕ)) (frame : Frame) (version after : Version) (old new : StoreState) → IfSome told (λ octets. IsFrame frame (drop old.end octets))
    → AddsFrame frame told version after old new → IsReadTo told version after old new
IsReadTo-one told frames.CutShort version after old new w a = absurd a
IsReadTo-one told frames.Bad version after old new w a = absurd a
IsReadTo-one told (frames.Whole n) version after old new w (fields, a, len, f) = record {
  more = a.one ∷ [];
  records = (a.is_record, tt);
  after_is = a.after_is;
  store_is = a.new_is;
  text = added_text told n version after old new fields a len w f;
}

-- the journal is longer, and no longer than the octets
pub added_within : (told : Option (List ℕ)) (frame : Frame) (version after : Version) (old new : StoreState) (had : ℕ) → AddsFrame frame told version after old new → old.end ≤ had
    → FitsIn frame (had - old.end) → (old.end + 4 ≤ new.end) × (new.end ≤ had)
added_within told frames.CutShort version after old new had a within room = absurd a
added_within told frames.Bad version after old new had a within room = absurd a
added_within told (frames.Whole n) version after old new had (fields, a, len, f) within room =
    let end = added_end version after old new fields a in
    (omega (arith, end), omega (arith, end, len, within, room.2))

-- more records after these
pub IsReadTo-then : (told : Option (List ℕ)) (u v w : Version) (old mid new : StoreState) → IsReadTo told u v old mid → IsReadTo told v w mid new → IsReadTo told u w old new
IsReadTo-then told u v w old mid new a b = record {
  more = a.more ++ b.more;
  records = AreRecords-append u old.kept a.more b.more a.records
      (subst (λ (x : Version). AreRecords x (after_all old.kept a.more) b.more) a.after_is (subst (λ (k : Kept). AreRecords v k b.more) (ap (λ (x : StoreState). x.kept) a.store_is) b.records));
  after_is = b.after_is ∙ ap (λ (x : Version). version_after_all x b.more) a.after_is ∙ sym (version_after_all-append u a.more b.more);
  store_is = b.store_is ∙ ap (λ (x : StoreState). with_records x b.more) a.store_is ∙ with_records-append old a.more b.more;
  text = texts told a.text b.text;
}
  where
    texts : (told : Option (List ℕ)) → IfSome told (λ octets. drop old.end octets ≡ flat_map record_text a.more ++ drop mid.end octets) → IfSome told (λ octets. drop mid.end octets ≡ flat_map record_text b.more ++ drop new.end octets)
        → IfSome told (λ octets. drop old.end octets ≡ flat_map record_text (a.more ++ b.more) ++ drop new.end octets)
    texts None x y = tt
    texts (Some octets) x y =
        x ∙ ap (λ (l : List ℕ). flat_map record_text a.more ++ l) y ∙ sym (append_assoc (flat_map record_text a.more) (flat_map record_text b.more) (drop new.end octets))
        ∙ ap (λ (l : List ℕ). l ++ drop new.end octets) (sym (flat_map-append record_text a.more b.more))

-- the same without the version after them
pub ReadsTwo-read : (told : Option (List ℕ)) (after : Version) (old new : StoreState) → IsReadTo told Two after old new → ReadsTwo told old new
ReadsTwo-read told after old new r = record { more = r.more; records = r.records; store_is = r.store_is; text = r.text }

pub ReadsTwo-none : (told : Option (List ℕ)) (store : StoreState) → ReadsTwo told store store
ReadsTwo-none told store = ReadsTwo-read told Two store store (IsReadTo-none told Two store)

-- ---- where no record was put last

whole_len : (n : ℕ) (rest : List ℕ) → IsWhole n rest → length (take n (drop 4 rest)) ≡ n
whole_len n rest w = omega (arith, w.within, length-take n (drop 4 rest), length-drop 4 rest)

-- a whole frame whose fields are no record's
whole_none : (octets : List ℕ) (n : ℕ) (version : Version) (store : StoreState) → IsWhole n (drop store.end octets) → NotAdded version store (fields_at octets store.end n)
    → HasNoRecord version store.kept (drop store.end octets)
whole_none octets n version store w a =
    let rest = drop store.end octets in
    let fields = take n (drop 4 rest) in
    let following = drop n (drop 4 rest) in
    let its : fields_at octets store.end n ≡ fields = sym (ap (take n) (drop-drop 4 store.end octets)) in
    let short : length fields ≤ RECORD_MAX = omega (arith, w.short, length-take n (drop 4 rest)) in
    let none : NotAdded version store fields = subst (NotAdded version store) its a in
    λ (one : Record) (after_it : List ℕ) (of : IsRecord version store.kept one) (e : rest ≡ record_text one ++ after_it).
    none one of (list_once fields (fields_of one) following after_it (omega (arith, short)) (omega (arith, of.short)) (sym w.text ∙ e)).0

-- it is broken off
pub is_broken : (octets : List ℕ) (frame : Frame) (version : Version) (store : StoreState) → IsFrame frame (drop store.end octets) → AddsNoFrame frame (Some octets) version store
    → BreaksFrame frame store.end (drop store.end octets) → IsBrokenRest version store octets
is_broken octets frames.CutShort version store f a b = inl f
is_broken octets frames.Bad version store f a b = inr (inl b)
is_broken octets (frames.Whole n) version store f a b = inr (inr (record { count = n; whole = f; last = b.0; no_record = whole_none octets n version store f a; ends = b.1 }))

-- two lengths that come first are the same
same_count : (n m : ℕ) (rest : List ℕ) → IsWhole n rest → IsWhole m rest → n ≡ m
same_count n m rest w v =
    let a = take n (drop 4 rest) in
    let b = take m (drop 4 rest) in
    let first = whole_len n rest w in
    let second = whole_len m rest v in
    let same = list_once a b (drop n (drop 4 rest)) (drop m (drop 4 rest)) (omega (arith, first, w.short)) (omega (arith, second, v.short)) (sym w.text ∙ v.text) in
    sym first ∙ ap length same.0 ∙ second

unbroken : (octets : List ℕ) (frame : Frame) (version : Version) (store : StoreState) → IsFrame frame (drop store.end octets)
    → (BreaksFrame frame store.end (drop store.end octets) → ⊥) → IsBrokenRest version store octets → ⊥
unbroken octets frames.CutShort version store f never b = never tt
unbroken octets frames.Bad version store f never (inl cut) = f.no_prefix cut
unbroken octets frames.Bad version store f never (inr (inl zeros)) = never zeros
unbroken octets frames.Bad version store f never (inr (inr torn)) =
    let rest = drop store.end octets in
    let len = whole_len torn.count rest torn.whole in
    f.no_list (take torn.count (drop 4 rest)) (drop torn.count (drop 4 rest)) (omega (arith, len, torn.whole.some)) (omega (arith, len, torn.whole.short)) torn.whole.text
unbroken octets (frames.Whole n) version store f never (inl cut) =
    let rest = drop store.end octets in
    list_no_prefix (take n (drop 4 rest)) (drop n (drop 4 rest)) (omega (arith, whole_len n rest f, f.short)) (subst IsCutShort f.text cut)
unbroken octets (frames.Whole n) version store f never (inr (inl zeros)) =
    let rest = drop store.end octets in
    let len = whole_len n rest f in
    zeros_no_list (take n (drop 4 rest)) (drop n (drop 4 rest)) (omega (arith, len, f.some)) (omega (arith, len, f.short)) (subst AreZeros f.text zeros)
unbroken octets (frames.Whole n) version store f never (inr (inr torn)) = never (torn.last ∙ ap (λ (k : ℕ). 4 + k) (sym (same_count n torn.count (drop store.end octets) f torn.whole)), torn.ends)

no_frame_record : (octets : List ℕ) (frame : Frame) (version : Version) (store : StoreState) → IsFrame frame (drop store.end octets) → AddsNoFrame frame (Some octets) version store
    → HasNoRecord version store.kept (drop store.end octets)
no_frame_record octets frames.CutShort version store f a = λ one rest is text. list_no_prefix (fields_of one) rest is.short (subst IsCutShort text f)
no_frame_record octets frames.Bad version store f a = λ one rest is e. f.no_list (fields_of one) rest (some_fields one) is.short e
no_frame_record octets (frames.Whole n) version store f a = whole_none octets n version store f a

-- ---- the answers of one turn

-- nothing more was put last where that is broken off
pub told_broken : (told : Option (List ℕ)) (frame : Frame) (version after : Version) (old new : StoreState) (is : Bool) → IfSome told (λ octets. IsFrame frame (drop old.end octets))
    → AddsNoFrame frame told version old → after ≡ version → new ≡ old → IfSome told (λ octets. IsTrue is ↔ BreaksFrame frame old.end (drop old.end octets)) → is ≡ true
    → IfSome told (IsBrokenRest after new)
told_broken None frame version after old new is f a v s b t = tt
told_broken (Some octets) frame version after old new is f a v s b t =
    subst (λ (x : Version). IsBrokenRest x new octets) (sym v) (subst (λ (x : StoreState). IsBrokenRest version x octets) (sym s) (is_broken octets frame version old f a (b.0 t)))

pub told_bad : (told : Option (List ℕ)) (frame : Frame) (version after : Version) (old new : StoreState) (is : Bool) (at : ℕ) → IfSome told (λ octets. IsFrame frame (drop old.end octets))
    → AddsNoFrame frame told version old → after ≡ version → new ≡ old → at ≡ old.end → IfSome told (λ octets. IsTrue is ↔ BreaksFrame frame old.end (drop old.end octets)) → is ≡ false
    → IsRestFault told after new (faults.BadJournal at)
told_bad None frame version after old new is at f a v s place b t = tt
told_bad (Some octets) frame version after old new is at f a v s place b t =
    let never : BreaksFrame frame old.end (drop old.end octets) → ⊥ = λ h. true≢false (sym (b.1 h) ∙ t) in
    let bad : IsBadRest octets version old at = record { at_is = place; no_break = unbroken octets frame version old f never; no_record = no_frame_record octets frame version old f a } in
    subst (λ (x : Version). IsBadRest octets x new at) (sym v) (subst (λ (x : StoreState). IsBadRest octets version x at) (sym s) bad)

pub rest_outside : (told : Option (List ℕ)) (version : Version) (store : StoreState) (fault : OpenFault) → IsOutside fault → IsRestFault told version store fault
rest_outside told version store faults.Keeper o = tt
rest_outside told version store (faults.BadJournal at) o = absurd o
rest_outside told version store faults.Memory o = tt

-- ---- records after those that were read

-- The octets begin with the journal of these records, which the store has. It began in one version, and is in another.
pub record HasBegun (first after : Version) (store : StoreState) (octets : List ℕ) (all : List Record) : Type 0 where
  pub rest : List ℕ
  pub begins : BeginsJournal first octets all rest
  pub after_is : after ≡ version_after_all first all
  pub kept_is : store.kept ≡ store_of all
  pub end_is : store.end ≡ length (journal first all)

rest_of : (octets : List ℕ) (first after : Version) (store : StoreState) (all : List Record) → (h : HasBegun first after store octets all) → h.rest ≡ drop store.end octets
rest_of octets first after store all h = sym (ap₂ (λ (n : ℕ) (l : List ℕ). drop n l) h.end_is h.begins.text ∙ drop_at (journal first all) h.rest (length (journal first all)) refl)

-- the store goes on having the records that the octets begin with
pub HasBegun-on : (octets : List ℕ) (first before after : Version) (old new : StoreState) (all : List Record) → HasBegun first before old octets all → (r : IsReadTo (Some octets) before after old new)
    → HasBegun first after new octets (all ++ r.more)
HasBegun-on octets first before after old new all h r = record {
  rest = drop new.end octets;
  begins = record {
    text = text;
    records = AreRecords-append first nothing all r.more h.begins.records
        (subst (λ (v : Version). AreRecords v (store_of all) r.more) h.after_is (subst (λ (k : Kept). AreRecords before k r.more) h.kept_is r.records));
  };
  after_is = r.after_is ∙ ap (λ (v : Version). version_after_all v r.more) h.after_is ∙ sym (version_after_all-append first all r.more);
  kept_is = ap (λ (x : StoreState). x.kept) r.store_is ∙ ap (λ (k : Kept). after_all k r.more) h.kept_is ∙ sym (after_all-append nothing all r.more);
  end_is = ap (λ (x : StoreState). x.end) r.store_is ∙ end_after-is old.end r.more ∙ ap (λ (n : ℕ). n + length (flat_map record_text r.more)) h.end_is
      ∙ sym (ap length (journal-append first all r.more) ∙ length-append (journal first all) (flat_map record_text r.more));
}
  where
    text : octets ≡ journal first (all ++ r.more) ++ drop new.end octets
    text =
        h.begins.text ∙ ap (λ (l : List ℕ). journal first all ++ l) (rest_of octets first before old all h ∙ r.text)
        ∙ sym (append_assoc (journal first all) (flat_map record_text r.more) (drop new.end octets)) ∙ ap (λ (l : List ℕ). l ++ drop new.end octets) (sym (journal-append first all r.more))

-- its records are the whole ones, where what is after them is broken off
pub HasBegun-whole : (octets : List ℕ) (first after : Version) (store : StoreState) (all : List Record) → HasBegun first after store octets all → IsBrokenRest after store octets → HasRecordsIn first octets all
HasBegun-whole octets first after store all h broken = inr (
  h.rest,
  h.begins,
  broken_moves after (version_after_all first all) store.kept (store_of all) store.end (length (journal first all)) (drop store.end octets) h.rest h.after_is h.kept_is h.end_is
      (sym (rest_of octets first after store all h)) broken,
)

pub HasBegun-text : (octets : List ℕ) (first after : Version) (store : StoreState) (all : List Record) → HasBegun first after store octets all → take store.end octets ≡ journal first all
HasBegun-text octets first after store all h = ap₂ (λ (n : ℕ) (l : List ℕ). take n l) h.end_is h.begins.text ∙ take_at (journal first all) h.rest (length (journal first all)) refl

pub HasBegun-within : (octets : List ℕ) (first after : Version) (store : StoreState) (all : List Record) → HasBegun first after store octets all → store.end ≤ length octets
HasBegun-within octets first after store all h = omega (arith, h.end_is, ap length h.begins.text, length-append (journal first all) h.rest)

pub HasBegun-bad : (octets : List ℕ) (first after : Version) (store : StoreState) (all : List Record) (at : ℕ) → HasBegun first after store octets all → IsBadRest octets after store at → IsBadAt octets at
HasBegun-bad octets first after store all at h bad =
    let following = rest_of octets first after store all h in
    inr (
      first,
      all,
      h.rest,
      bad.at_is ∙ h.end_is,
      record {
        whole = h.begins;
        no_break = λ broken. bad.no_break (broken_moves (version_after_all first all) after (store_of all) store.kept (length (journal first all)) store.end h.rest (drop store.end octets)
            (sym h.after_is) (sym h.kept_is) (sym h.end_is) following broken);
        no_record = none_moves after (version_after_all first all) store.kept (store_of all) (drop store.end octets) h.rest h.after_is h.kept_is (sym following) bad.no_record;
      },
    )

-- ---- calls of the keeper, one after the other

pub Stays-then : (before between now : KeeperState) → KeeperStays before between → KeeperStays between now → KeeperStays before now
Stays-then before between now a b = record { same = b.same ∙ a.same; unappended = b.unappended ∙ a.unappended; later = omega (arith, a.later, b.later); sure = λ h. b.sure (a.sure h) }

-- ---- what a turn answers

pub one_ended : (told : Option (List ℕ)) (after : Version) (old new : StoreState) (more : Bool) → ReadsOne told after old new (Ok more) → more ≡ false → IfSome told (IsBrokenRest after new)
one_ended told after old new more one no_more = subst (λ (b : Bool). ReadsOne told after old new (Ok b)) no_more one

pub one_longer : (told : Option (List ℕ)) (after : Version) (old new : StoreState) (more : Bool) → ReadsOne told after old new (Ok more) → more ≡ true → old.end + 4 ≤ new.end
one_longer told after old new more one is_more = subst (λ (b : Bool). ReadsOne told after old new (Ok b)) is_more one

-- ---- a frame, by its kind

pub adds_cut : (told : Option (List ℕ)) (frame : Frame) (version : Version) (store : StoreState) → frame ≡ frames.CutShort → AddsFrameBy frame told version version store store (Ok false)
adds_cut told frame version store f = subst (λ (x : Frame). AddsFrameBy x told version version store store (Ok false)) (sym f) (tt, refl, refl)

pub adds_bad : (told : Option (List ℕ)) (frame : Frame) (version : Version) (store : StoreState) → frame ≡ frames.Bad → AddsFrameBy frame told version version store store (Ok false)
adds_bad told frame version store f = subst (λ (x : Frame). AddsFrameBy x told version version store store (Ok false)) (sym f) (tt, refl, refl)

pub adds_whole : (told : Option (List ℕ)) (frame : Frame) (n : ℕ) (version after : Version) (old new : StoreState) (fields : List ℕ) → frame ≡ frames.Whole n → Added version after old new fields → length fields ≡ n
    → IfSome told (λ octets. fields ≡ fields_at octets old.end n) → AddsFrameBy frame told version after old new (Ok true)
adds_whole told frame n version after old new fields f a len is = subst (λ (x : Frame). AddsFrame x told version after old new) (sym f) (fields, a, len, is)

no_record_at : (told : Option (List ℕ)) (n : ℕ) (version : Version) (old : StoreState) (fields : List ℕ) → NotAdded version old fields → IfSome told (λ octets. fields ≡ fields_at octets old.end n)
    → IfSome told (λ octets. NotAdded version old (fields_at octets old.end n))
no_record_at None n version old fields none is = tt
no_record_at (Some octets) n version old fields none is = subst (NotAdded version old) is none

pub adds_none : (told : Option (List ℕ)) (frame : Frame) (n : ℕ) (version after : Version) (old new : StoreState) (fields : List ℕ) → frame ≡ frames.Whole n
    → NotAdded version old fields × (after ≡ version) × (new ≡ old) → IfSome told (λ octets. fields ≡ fields_at octets old.end n) → AddsFrameBy frame told version after old new (Ok false)
adds_none told frame n version after old new fields f (none, v, s) is = (subst (λ (x : Frame). AddsNoFrame x told version old) (sym f) (no_record_at told n version old fields none is), v, s)

-- the same of a keeper that tells the same, and of what the answer is known to be
pub adds_here : (told now : Option (List ℕ)) (frame : Frame) (version after : Version) (old new : StoreState) (b is : Bool) → now ≡ told → b ≡ is → AddsFrameBy frame now version after old new (Ok b)
    → AddsFrameBy frame told version after old new (Ok is)
adds_here told now frame version after old new b is same e adds =
    subst (λ (o : Option (List ℕ)). AddsFrameBy frame o version after old new (Ok is)) same (subst (λ (x : Bool). AddsFrameBy frame now version after old new (Ok x)) e adds)
