-- Catching up with a keeper.
use Rattle.std.proofs.Common.{◌≡◌, ℕ, ◌+◌, ◌<◌, ◌≤◌, Bool, true, List, ◌++◌, length, take, drop, Option, Some, None, option_map, refl, sym, ap, subst, ◌∙◌, append-nil, arith, inl, inr, length-append, length-take}
use Rattle.std.specs.Prelude.{IfSome, Ok, Err}
use Rattle.std.specs.List.{flat_map}
use Rattle.mail_wire.specs.declared.outside.Failed.{Failed}
use Rattle.mail_wire.specs.declared.outside.Failed.TheVariants.{Outside, Memory}
use Rattle.mail_wire.specs.Keeping.{with_last}
use Rattle.journal_records.specs.declared.records.Record.{Record}
use Rattle.journal_records.specs.declared.versions.Version.{Version}
use Rattle.journal_records.specs.declared.versions.Version.TheVariants.{Two}
use Rattle.journal_records.specs.Versions.{version_after_all}
use Rattle.journal_records.specs.Spelling.{record_text, journal}
use Rattle.journal_records.proofs.Fields.{some_is}
use Rattle.mail_store.specs.declared.changing.StoreFault.TheVariants.{Keeper}
use Rattle.mail_store.specs.declared.opening.OpenFault.{OpenFault}
use Rattle.mail_store.specs.declared.opening.OpenFault.TheVariants as faults
use Rattle.mail_store.specs.Answers.{OpensTo, open_fault, upgrade, upgraded}
use Rattle.mail_store.specs.Opening.{IsBroken}
use Rattle.mail_store.specs.Catching.{HasReadFirst, ReadsOn, CatchesUp, IsCatchFault}
use Rattle.mail_store.specs.Changing.{IsStoreOf, Changes}
use Rattle.mail_store.specs.StoreState.{StoreState}
use Rattle.mail_store.specs.private.Adding.{noted}
use Rattle.mail_store.specs.private.Replaying.{IsBrokenRest, IsOutside, IsReadTo, IsRestFault, ReadsTwo}
use Rattle.mail_store.proofs.ChangeLemmas.{end_after-is}
use Rattle.mail_store.proofs.DeliveryLemmas.{two_stays}
use Rattle.mail_store.proofs.LawLemmas.{journal-append, journal_len, two_later}
use Rattle.mail_store.proofs.ReplayLemmas.{HasBegun, HasBegun-on, HasBegun-whole, HasBegun-text, HasBegun-bad}

-- a journal that goes on in version 2
begun_two : (store : StoreState) (octets : List ℕ) (all : List Record) → (h : HasReadFirst store octets all) → HasBegun h.version Two store octets all
begun_two store octets all h = record { rest = h.rest; begins = h.begins; after_is = sym h.last_version; kept_is = h.kept_is; end_is = h.end_is }

-- nothing is put last in it
nothing_upgraded : (version : Version) (all : List Record) → version_after_all version all ≡ Two → all ≡ upgraded version all
nothing_upgraded version all two = sym (ap (λ (v : Version). all ++ upgrade v) two ∙ append-nil all)

opened_again : (octets : List ℕ) (after : Version) (old new : StoreState) (has : Option (List ℕ)) → IsReadTo (Some octets) Two after old new → IsBrokenRest after new octets
    → has ≡ Some (take new.end octets) → (all : List Record) → HasReadFirst old octets all → OpensTo octets has new.kept
opened_again octets after old new has r broken h all was =
    let is = HasBegun-on octets was.version Two after old new all (begun_two old octets all was) r in
    let two : version_after_all was.version (all ++ r.more) ≡ Two = two_later was.version all r.more was.last_version in
    record {
      version = was.version;
      first = all ++ r.more;
      had = HasBegun-whole octets was.version after new (all ++ r.more) is broken;
      all = all ++ r.more;
      all_is = nothing_upgraded was.version (all ++ r.more) two;
      kept_is = is.kept_is;
      holds = h ∙ ap (λ (l : List ℕ). Some l) (HasBegun-text octets was.version after new (all ++ r.more) is);
    }

pub caught_up : (told has : Option (List ℕ)) (after : Version) (old new : StoreState) (had : ℕ) → IfSome told (λ octets. had ≡ length octets) → old.end ≤ had → IsReadTo told Two after old new
    → IfSome told (IsBrokenRest after new) → has ≡ option_map (take new.end) told → IfSome told (λ octets. CatchesUp old octets has new.kept)
caught_up None has after old new had n enough r broken h = tt
caught_up (Some octets) has after old new had n enough r broken h = record {
  enough = omega (arith, n, enough);
  place = new.end;
  first = h;
  cut = subst (λ (v : Version). IsBroken v new.kept new.end (drop new.end octets)) (r.after_is ∙ two_stays r.more) broken;
  opens = λ all was. opened_again octets after old new has r broken h all was;
}

pub end_caught : (told has : Option (List ℕ)) (end had : ℕ) → IfSome told (λ octets. had ≡ length octets) → end ≤ had → has ≡ option_map (take end) told
    → IfSome has (λ octets. end ≡ length octets)
end_caught None has end had n within h = subst (λ (o : Option (List ℕ)). IfSome o (λ octets. end ≡ length octets)) (sym h) tt
end_caught (Some octets) has end had n within h =
    subst (λ (o : Option (List ℕ)). IfSome o (λ octets. end ≡ length octets)) (sym h) (omega (arith, n, within, length-take end octets))

-- ---- refusals

pub shorter : (told : Option (List ℕ)) (store : StoreState) (had : ℕ) → IfSome told (λ octets. had ≡ length octets) → had < store.end
    → IfSome told (λ octets. IsCatchFault store octets (faults.BadJournal had))
shorter None store had n less = tt
shorter (Some octets) store had n less = inl (omega (arith, n, less), n)

-- a fault that isn't the journal's
pub outside_fault : (told : Option (List ℕ)) (store : StoreState) (fault : OpenFault) → IsOutside fault → IfSome told (λ octets. IsCatchFault store octets fault)
outside_fault None store fault o = tt
outside_fault (Some octets) store faults.Keeper o = tt
outside_fault (Some octets) store (faults.BadJournal at) o = absurd o
outside_fault (Some octets) store faults.Memory o = tt

pub outside : (told : Option (List ℕ)) (store : StoreState) (failed : Failed) → IfSome told (λ octets. IsCatchFault store octets (open_fault failed))
outside None store failed = tt
outside (Some octets) store Outside = tt
outside (Some octets) store Memory = tt

pub caught_fault : (told : Option (List ℕ)) (after : Version) (old new : StoreState) (had : ℕ) (fault : OpenFault) → IfSome told (λ octets. had ≡ length octets) → old.end ≤ had → IsReadTo told Two after old new
    → IsRestFault told after new fault → IfSome told (λ octets. IsCatchFault old octets fault)
caught_fault None after old new had fault n enough r f = tt
caught_fault (Some octets) after old new had faults.Keeper n enough r f = tt
caught_fault (Some octets) after old new had faults.Memory n enough r f = tt
caught_fault (Some octets) after old new had (faults.BadJournal at) n enough r f =
    inr (omega (arith, n, enough), λ all was. HasBegun-bad octets was.version after new (all ++ r.more) at (HasBegun-on octets was.version Two after old new all (begun_two old octets all was) r) f)

-- ---- the store that is marked

pub reads_on : (told : Option (List ℕ)) (old mid new : StoreState) (failed : Bool) → ReadsTwo told old mid → new ≡ noted mid failed → ReadsOn told old new
reads_on told old mid new failed r n =
    subst (ReadsOn told old) (sym n) (record {
      more = r.more;
      records = r.records;
      store = ap (λ (s : StoreState). noted s failed) r.store_is;
      text = r.text;
    })

-- ---- the laws

-- a change moves the end of the journal
pub end_changed : (version : Version) (old new : StoreState) (had has : Option (List ℕ)) (all more : List Record) → old.end ≡ length (journal version all) → Changes {T = Unit {0}} old new had has (Ok tt) more
    → new.end ≡ length (journal version (all ++ more))
end_changed version old new had has all more e c =
    ap (λ (x : StoreState). x.end) c.1 ∙ end_after-is old.end more ∙ ap (λ (n : ℕ). n + length (flat_map record_text more)) e
    ∙ sym (ap length (journal-append version all more) ∙ length-append (journal version all) (flat_map record_text more))

-- what others put after its journal
pub after_journal : (version : Version) (store : StoreState) (octets : List ℕ) (all : List Record) (more : List ℕ) → IsStoreOf store (Some octets) all → store.end ≡ length (journal version all)
    → HasReadFirst store (octets ++ more) all
after_journal version store octets all more s e = record {
  version = s.version;
  rest = more;
  begins = record { text = ap (λ (l : List ℕ). l ++ more) (some_is octets (journal s.version all) s.holds); records = s.records };
  last_version = s.last_version;
  kept_is = s.kept_is;
  end_is = e ∙ journal_len version all ∙ sym (journal_len s.version all);
}

-- what a failed append left after its journal
pub after_failure : (version : Version) (old new : StoreState) (had has : Option (List ℕ)) (all more : List Record) → IsStoreOf old had all → old.end ≡ length (journal version all)
    → Changes {T = Unit {0}} old new had has (Err Keeper) more → IfSome has (λ octets. HasReadFirst new octets all)
after_failure version old new had has all more s e c =
    let text = take c.2 (flat_map record_text more) in
    let octets = journal s.version all ++ text in
    let holds : has ≡ Some octets = c.3 ∙ ap (λ (o : Option (List ℕ)). with_last o text) s.holds in
    let failed : StoreState = record old { failed = true } in
    let read : HasReadFirst failed octets all = record {
      version = s.version;
      rest = text;
      begins = record { text = refl; records = s.records };
      last_version = s.last_version;
      kept_is = s.kept_is;
      end_is = e ∙ journal_len version all ∙ sym (journal_len s.version all);
    } in
    subst (λ (o : Option (List ℕ)). IfSome o (λ octets. HasReadFirst new octets all)) (sym holds) (subst (λ (x : StoreState). HasReadFirst x octets all) (sym c.1) read)
