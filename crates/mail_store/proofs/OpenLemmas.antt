-- A journal from its beginning on, and what opening puts last.
use Rattle.std.proofs.Common.{◌≡◌, ◌≢◌, ℕ, ◌+◌, ◌≤◌, true, false, eqb, List, [], ◌∷◌, ◌++◌, length, take, drop, Option, Some, None, option_map, refl, sym, ap, ap₂, subst, ◌∙◌, append_assoc, append-nil, arith, inl, inr, ◌⊎◌, length-append, length-take}
use Rattle.std.specs.Prelude.{IfSome, Ok, Err, Result}
use Rattle.std.specs.List.{flat_map}
use Rattle.std.proofs.lemmas.Bool.{cases_Bool, cases_lt, eqb-true, ne_eqb}
use Rattle.std.proofs.lemmas.List.{take_all, take_at, length-take-le}
use Rattle.std.proofs.Math.Seq.{take-append-add}
use Rattle.mail_wire.specs.declared.outside.Failed.{Failed}
use Rattle.mail_wire.specs.declared.outside.Failed.TheVariants.{Outside, Memory}
use Rattle.mail_wire.specs.Keeping.{PutsLast, with_last}
use Rattle.mail_store.specs.declared.opening.OpenFault.{OpenFault}
use Rattle.mail_store.specs.declared.opening.OpenFault.TheVariants as faults
use Rattle.journal_records.specs.declared.records.Record.{Record}
use Rattle.journal_records.specs.declared.records.Record.TheVariants as records
use Rattle.journal_records.specs.declared.versions.Version.{Version}
use Rattle.journal_records.specs.declared.versions.Version.TheVariants as versions
use Rattle.journal_records.specs.Versions.{version_after_all}
use Rattle.journal_records.specs.Frames.{IsBeginning, IsBeginningOf}
use Rattle.journal_records.specs.declared.frames.Beginning.TheVariants as beginnings
use Rattle.journal_records.specs.Spelling.{record_text, journal, first_octets}
use Rattle.kept_mail.specs.Kept.{Kept, nothing, after_all, store_of}
use Rattle.kept_mail.specs.Records.{AreRecords}
use Rattle.mail_store.specs.StoreState.{StoreState}
use Rattle.mail_store.specs.Opening.{BeginsJournal, HasRecordsIn, IsBadAt, EndsInOne}
use Rattle.mail_store.specs.Answers.{IsFold, OpensTo, IsToBegin, BeginsOnce, LeavesRecords, PutsNothing, open_fault, upgrade, upgraded}
use Rattle.mail_store.specs.private.Replaying.{IsReadTo, IsBrokenRest, IsRestFault, EndsJournalAt, IsReadingFault, HalfRepairs, CutsAtMost, brought, repaired}
use Rattle.mail_store.proofs.ChangeLemmas.{after_all-append}
use Rattle.mail_store.proofs.DeliveryLemmas.{two_stays}
use Rattle.mail_store.proofs.LawLemmas.{journal-append, journal_len}
use Rattle.mail_store.proofs.ReplayLemmas.{HasBegun, HasBegun-on, HasBegun-whole, HasBegun-text, HasBegun-within, HasBegun-bad}

-- ---- the records of a journal

-- a store of nothing has read an empty journal
begins_nothing : (octets : List ℕ) (version : Version) (first : StoreState) → first.kept ≡ nothing → first.end ≡ 8 → IsBeginningOf (beginnings.Journal version) octets → HasBegun version version first octets []
begins_nothing octets version first none eight begins = record {
  rest = drop 8 octets;
  begins = record { text = begins ∙ ap (λ (l : List ℕ). l ++ drop 8 octets) (sym (append-nil (first_octets version))); records = tt };
  after_is = refl;
  kept_is = none;
  end_is = eight ∙ sym (journal_len version []);
}

has_begun : (octets : List ℕ) (version after : Version) (first store : StoreState) → first.kept ≡ nothing → first.end ≡ 8 → IsBeginningOf (beginnings.Journal version) octets
    → (r : IsReadTo (Some octets) version after first store) → HasBegun version after store octets r.more
has_begun octets version after first store none eight begins r = HasBegun-on octets version version after first store [] (begins_nothing octets version first none eight begins) r

eqb_zero : (n : ℕ) → 8 ≤ n → eqb n 0 ≡ false
eqb_zero n long = ne_eqb n 0 (λ (e : n ≡ 0). absurd (omega (arith, e, long)))

brought_later : (end : ℕ) (version : Version) → 8 ≤ end → brought end version ≡ flat_map record_text (upgrade version)
brought_later end version long = rw (eqb_zero end long) refl

pub EndsJournal-read : (told : Option (List ℕ)) (version after : Version) (first store : StoreState) → first.kept ≡ nothing → first.end ≡ 8 → IfSome told (IsBeginningOf (beginnings.Journal version))
    → IsReadTo told version after first store → IfSome told (IsBrokenRest after store) → IfSome told (λ octets. EndsJournalAt octets store.end after store.kept)
EndsJournal-read None version after first store none eight begins r broken = tt
EndsJournal-read (Some octets) version after first store none eight begins r broken =
    let h = has_begun octets version after first store none eight begins r in
    let long : 8 ≤ store.end = omega (arith, h.end_is, journal_len version r.more) in
    record {
      first = version;
      all = r.more;
      had = HasBegun-whole octets version after store r.more h broken;
      records = h.begins.records;
      kept_is = h.kept_is;
      after_is = h.after_is;
      text = ap₂ (λ (l m : List ℕ). l ++ m) (HasBegun-text octets version after store r.more h) (brought_later store.end after long ∙ ap (λ (v : Version). flat_map record_text (upgrade v)) h.after_is)
          ∙ sym (journal-append version r.more (upgrade (version_after_all version r.more)));
      within = HasBegun-within octets version after store r.more h;
      long = inr h.end_is;
      begun = λ (e : store.end ≡ 0). absurd (omega (arith, e, long));
    }

-- none is begun
pub EndsJournal-begun : (told : Option (List ℕ)) (version : Version) (store : StoreState) → version ≡ versions.Two → store.kept ≡ nothing → IfSome told IsBeginning
    → IfSome told (λ octets. EndsJournalAt octets 0 version store.kept)
EndsJournal-begun None version store two none begun = tt
EndsJournal-begun (Some octets) version store two none begun = record {
  first = versions.Two;
  all = [];
  had = inl (begun, refl, refl);
  records = tt;
  kept_is = none;
  after_is = two;
  text = refl;
  within = omega arith;
  long = inl begun;
  begun = λ e. begun;
}

pub IsFold-read : (told : Option (List ℕ)) (version after : Version) (first store : StoreState) → first.kept ≡ nothing → IsReadTo told version after first store → IsFold store.kept
IsFold-read told version after first store none r = record {
  version = version;
  all = r.more;
  records = subst (λ (k : Kept). AreRecords version k r.more) none r.records;
  kept_is = ap (λ (x : StoreState). x.kept) r.store_is ∙ ap (λ (k : Kept). after_all k r.more) none;
}

pub reading_fault : (told : Option (List ℕ)) (version after : Version) (first store : StoreState) (fault : OpenFault) → first.kept ≡ nothing → first.end ≡ 8
    → IfSome told (IsBeginningOf (beginnings.Journal version)) → IsReadTo told version after first store → IsRestFault told after store fault → IfSome told (λ octets. IsReadingFault octets fault)
reading_fault None version after first store fault none eight begins r f = tt
reading_fault (Some octets) version after first store faults.Keeper none eight begins r f = tt
reading_fault (Some octets) version after first store faults.Memory none eight begins r f = tt
reading_fault (Some octets) version after first store (faults.BadJournal at) none eight begins r f =
    HasBegun-bad octets version after store r.more at (has_begun octets version after first store none eight begins r) f

-- ---- after the repair

-- the record of a version changes nothing that is kept
upgrade_keeps : (version : Version) (kept : Kept) → after_all kept (upgrade version) ≡ kept
upgrade_keeps versions.One kept = refl
upgrade_keeps versions.Two kept = refl

pub upgraded_kept : (version : Version) (all : List Record) → store_of (upgraded version all) ≡ store_of all
upgraded_kept version all = after_all-append nothing all (upgrade (version_after_all version all)) ∙ upgrade_keeps (version_after_all version all) (store_of all)

pub opened_to : (told new : Option (List ℕ)) (end : ℕ) (version : Version) (kept : Kept) → IfSome told (λ octets. EndsJournalAt octets end version kept) → new ≡ option_map (repaired end version) told
    → IfSome told (λ octets. OpensTo octets new kept)
opened_to None new end version kept e h = tt
opened_to (Some octets) new end version kept e h = record {
  version = e.first;
  first = e.all;
  had = e.had;
  all = upgraded e.first e.all;
  all_is = refl;
  kept_is = e.kept_is ∙ sym (upgraded_kept e.first e.all);
  holds = h ∙ ap (λ (l : List ℕ). Some l) e.text;
}

-- the keeper's octets after the repair are so many
pub place_repaired : (told new : Option (List ℕ)) (end had last at : ℕ) (version : Version) → IfSome told (λ octets. had ≡ length octets) → end ≤ had → new ≡ option_map (repaired end version) told
    → last ≡ end + length (brought end version) → at ≡ last → IfSome new (λ octets. at ≡ length octets)
place_repaired None new end had last at version len within h l e = subst (λ (o : Option (List ℕ)). IfSome o (λ octets. at ≡ length octets)) (sym h) tt
place_repaired (Some octets) new end had last at version len within h l e =
    subst (λ (o : Option (List ℕ)). IfSome o (λ octets. at ≡ length octets)) (sym h)
    (omega (arith, e, l, len, within, length-append (take end octets) (brought end version), length-take-le end octets (omega (arith, len, within))))

-- ---- what an opening that was broken off leaves

-- a first part of the journal that it leaves
first_left : (old : List ℕ) (end n : ℕ) (version : Version) (kept : Kept) (new : List ℕ) → EndsJournalAt old end version kept → new ≡ take end old ++ take n (brought end version) → LeavesRecords (Some old) (Some new)
first_left old end n version kept new e is =
    let len = length-take-le end old e.within in
    let text : new ≡ take (length (take end old) + n) (journal e.first (upgraded e.first e.all)) =
    is ∙ sym (take-append-add (take end old) (brought end version) n) ∙ ap (take (length (take end old) + n)) e.text in
    inr (record { version = e.first; all = e.all; had = e.had; count = length (take end old) + n; whole = whole e.long len; text = text })
  where
    whole : IsBeginning old ⊎ (end ≡ length (journal e.first e.all)) → length (take end old) ≡ end → IsBeginning old ⊎ (length (journal e.first e.all) ≤ length (take end old) + n)
    whole (inl begun) len = inl begun
    whole (inr long) len = inr (omega (arith, long, len))

pub leaves_half : (told new : Option (List ℕ)) (end : ℕ) (version : Version) (kept : Kept) → IfSome told (λ octets. EndsJournalAt octets end version kept) → HalfRepairs end (brought end version) told new → LeavesRecords told new
leaves_half None new end version kept e h = h
leaves_half (Some old) None end version kept e h = absurd h
leaves_half (Some old) (Some new) end version kept e (inl same) = inl same
leaves_half (Some old) (Some new) end version kept e (inr (n, is)) = first_left old end n version kept new e is

pub leaves_all : (told new : Option (List ℕ)) (end : ℕ) (version : Version) (kept : Kept) → IfSome told (λ octets. EndsJournalAt octets end version kept) → new ≡ option_map (repaired end version) told → LeavesRecords told new
leaves_all None new end version kept e h = h
leaves_all (Some old) new end version kept e h =
    let text = brought end version in
    let whole : take end old ++ text ≡ take end old ++ take (length text) text = ap (λ (l : List ℕ). take end old ++ l) (sym (take_all (length text) text (omega arith))) in
    subst (LeavesRecords (Some old)) (sym h) (first_left old end (length text) version kept (take end old ++ text) e whole)

pub leaves_same : (told : Option (List ℕ)) → LeavesRecords told told
leaves_same None = refl
leaves_same (Some octets) = inl refl

-- what want of memory leaves
pub wants_nothing : (told : Option (List ℕ)) → PutsNothing told told
wants_nothing None = refl
wants_nothing (Some octets) = inl refl

pub wants_cut : (told new : Option (List ℕ)) (end : ℕ) (version : Version) (kept : Kept) → IfSome told (λ octets. EndsJournalAt octets end version kept) → CutsAtMost end told new → PutsNothing told new
wants_cut None new end version kept e h = h
wants_cut (Some old) None end version kept e h = absurd h
wants_cut (Some old) (Some new) end version kept e (inl same) = inl same
wants_cut (Some old) (Some new) end version kept e (inr cut) =
    inr (record { version = e.first; all = e.all; had = e.had; place = end; whole = whole e.long; text = cut })
  where
    whole : IsBeginning old ⊎ (end ≡ length (journal e.first e.all)) → IsBeginning old ⊎ (length (journal e.first e.all) ≤ end)
    whole (inl begun) = inl begun
    whole (inr long) = inr (omega (arith, long))

-- ---- whether something is put last

one_first : (first : Version) (all : List Record) → version_after_all first all ≡ versions.One → first ≡ versions.One
one_first versions.One all is = refl
one_first versions.Two all is = sym (two_stays all) ∙ is

ends_in_one : (octets : List ℕ) (first : Version) (all : List Record) → HasRecordsIn first octets all → version_after_all first all ≡ versions.One → EndsInOne octets
ends_in_one octets first all had is =
    let one = one_first first all is in
    (all, subst (λ (v : Version). HasRecordsIn v octets all) one had, subst (λ (v : Version). version_after_all v all ≡ versions.One) one is)

some_brought : (octets : List ℕ) (end : ℕ) (version : Version) (kept : Kept) → EndsJournalAt octets end version kept → brought end version ≢ [] → IsToBegin octets
some_brought octets end versions.One kept e some = inr (ends_in_one octets e.first e.all e.had (sym e.after_is))
some_brought octets end versions.Two kept e some =
    elim (cases_Bool (eqb end 0)) [
      | inl zero ↦ inl (e.begun (eqb-true end 0 zero))
      | inr more ↦ absurd (some (rw more refl))
    ]

pub to_begin : (told : Option (List ℕ)) (end : ℕ) (version : Version) (kept : Kept) (before now : Option ℕ) → IfSome told (λ octets. EndsJournalAt octets end version kept)
    → BeginsOnce (brought end version ≢ []) before now → BeginsOnce (IfSome told IsToBegin) before now
to_begin told end version kept before now e (inl none) = inl none
to_begin None end version kept before now e (inr one) = inr (tt, one.1)
to_begin (Some octets) end version kept before now e (inr one) = inr (some_brought octets end version kept e one.0, one.1)

-- ---- the calls that put it last

pub half_same : (told : Option (List ℕ)) (end : ℕ) (text : List ℕ) → HalfRepairs end text told told
half_same None end text = refl
half_same (Some octets) end text = inl refl

pub half_put : (told mid new : Option (List ℕ)) (end : ℕ) (text : List ℕ) (fault : Failed) → mid ≡ option_map (take end) told → PutsLast {T = Unit {0}} mid new (Err fault) text → HalfRepairs end text told new
half_put None mid new end text Outside cut put = put.1 ∙ ap (λ (o : Option (List ℕ)). with_last o (take put.0 text)) cut
half_put None mid new end text Memory cut put = put ∙ cut
half_put (Some old) mid new end text Outside cut put =
    subst (HalfRepairs end text (Some old)) (sym (put.1 ∙ ap (λ (o : Option (List ℕ)). with_last o (take put.0 text)) cut)) (inr (put.0, refl))
half_put (Some old) mid new end text Memory cut put = subst (HalfRepairs end text (Some old)) (sym (put ∙ cut)) (inr (0, sym (append-nil (take end old))))

pub cuts_same : (told : Option (List ℕ)) (end : ℕ) → CutsAtMost end told told
cuts_same None end = refl
cuts_same (Some octets) end = inl refl

keeper_no_memory : faults.Keeper ≡ faults.Memory → ⊥
keeper_no_memory e = absurd cc

pub cuts_put : (told mid new : Option (List ℕ)) (end : ℕ) (text : List ℕ) (fault : Failed) → mid ≡ option_map (take end) told → PutsLast {T = Unit {0}} mid new (Err fault) text
    → open_fault fault ≡ faults.Memory → CutsAtMost end told new
cuts_put told mid new end text Outside cut put is = absurd (keeper_no_memory is)
cuts_put None mid new end text Memory cut put is = put ∙ cut
cuts_put (Some old) mid new end text Memory cut put is = subst (CutsAtMost end (Some old)) (sym (put ∙ cut)) (inr refl)

pub put_whole : (told mid new : Option (List ℕ)) (end : ℕ) (version : Version) (text : List ℕ) → mid ≡ option_map (take end) told → new ≡ with_last mid text → text ≡ brought end version
    → new ≡ option_map (repaired end version) told
put_whole None mid new end version text cut put is = put ∙ ap (λ (o : Option (List ℕ)). with_last o text) cut
put_whole (Some old) mid new end version text cut put is = put ∙ ap (λ (o : Option (List ℕ)). with_last o text) cut ∙ ap (λ (l : List ℕ). Some (take end old ++ l)) is

-- nothing is put last
pub puts_none : (told : Option (List ℕ)) (text : List ℕ) → text ≡ [] → PutsLast {T = Unit {0}} told told (Ok tt) text
puts_none None text is = refl
puts_none (Some octets) text is = ap (λ (l : List ℕ). Some l) (sym (ap (λ (l : List ℕ). octets ++ l) is ∙ append-nil octets))
