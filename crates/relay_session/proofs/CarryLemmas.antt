-- What a client's acts come to, one after another.
use Rattle.std.proofs.Common.{◌≡◌, ℕ, ◌+◌, ◌≤◌, List, [], ◌∷◌, ◌++◌, Bool, true, false, Option, refl, sym, ap, ◌∙◌, arith, append_assoc}
use Rattle.std.specs.Prelude.{if◌then◌else◌, map}
use Rattle.address_grammar.specs.declared.Address.{Address}
use Rattle.journal_records.specs.declared.records.Record.{Record}
use Rattle.mail_store.specs.Following.{records_of}
use Rattle.mail_store.specs.StoreState.{StoreState, with_records}
use Rattle.mail_store.specs.declared.queue.Queued.{Queued}
use Rattle.mail_store.proofs.FollowLemmas.{records_of-append, with_records-append}
use Rattle.relay_choice.specs.declared.mail_objects.Act.{Act as ClientAct}
use Rattle.relay_choice.specs.declared.mail_objects.Act.TheVariants as act
use Rattle.relay_choice.specs.declared.mail_objects.Outcome.{Outcome}
use Rattle.session_core.specs.Acts.{Act, changes, changes_in}
use Rattle.session_core.specs.Moments.{Moment}
use Rattle.relay_session.specs.Carrying.{CarriesActs}
use Rattle.relay_session.specs.MailObjects.{entry_octets}
use Rattle.relay_session.specs.Reporting.{Reports, nobody, told_once, unsigned}
use Rattle.relay_session.specs.private.Acting.{settled_count}

-- ---- one report

-- the moments that a report uses, and that it is the same with others after them
pub record ReportsOnward (path_of : List ℕ → Option (Option Address)) (store : StoreState) (queued : Queued) (message : List ℕ) (outcomes : List Outcome)
    (told later : List Moment) (made : List (List Record)) (count : ℕ) : Type 0 where
  pub used : List Moment
  pub told_are : told ≡ used ++ later
  pub onward : (more : List Moment) → Reports path_of store queued message outcomes (used ++ more) more made count

pub Reports-onward : (path_of : List ℕ → Option (Option Address)) (store : StoreState) (queued : Queued) (message : List ℕ) (outcomes : List Outcome) (told later : List Moment) (made : List (List Record)) (count : ℕ)
    → Reports path_of store queued message outcomes told later made count → ReportsOnward path_of store queued message outcomes told later made count
Reports-onward path_of store queued message outcomes told later made count (nobody none left no_changes no_count) =
    record { used = []; told_are = sym left; onward = λ more. nobody none refl no_changes no_count }
Reports-onward path_of store queued message outcomes told later made count (unsigned null left no_changes no_count) =
    record { used = []; told_are = sym left; onward = λ more. unsigned null refl no_changes no_count }
Reports-onward path_of store queued message outcomes told later made count (told_once moment path text mark delivery signed some once report marked to changes_are count_is) =
    record { used = moment ∷ []; told_are = once; onward = λ more. told_once moment path text mark delivery signed some refl report marked to changes_are count_is }

if_one : (kept : Bool) (count : ℕ) → count ≡ (if kept then 1 else 0) → count ≤ 1
if_one true count is = omega (arith, is)
if_one false count is = omega (arith, is)

-- there is one at most
pub Reports-one : (path_of : List ℕ → Option (Option Address)) (store : StoreState) (queued : Queued) (message : List ℕ) (outcomes : List Outcome) (told later : List Moment) (made : List (List Record)) (count : ℕ)
    → Reports path_of store queued message outcomes told later made count → count ≤ 1
Reports-one path_of store queued message outcomes told later made count (nobody none left no_changes no_count) = omega (arith, no_count)
Reports-one path_of store queued message outcomes told later made count (unsigned null left no_changes no_count) = omega (arith, no_count)
Reports-one path_of store queued message outcomes told later made count (told_once moment path text mark delivery signed some once report marked to changes_are count_is) = if_one _ count count_is

-- ---- acts after others

-- changes, and what follows them
pub changes_in-map : (made : List (List Record)) (others : List (Act (List ℕ))) → changes_in (map changes made ++ others) ≡ made ++ changes_in others
changes_in-map [] others = refl
changes_in-map (records ∷ made) others = ap (λ (l : List (List Record)). records ∷ l) (changes_in-map made others)

-- the store after the changes of an entry and what follows them
store_after : (store : StoreState) (acts : List (Act (List ℕ))) (made : List (List Record)) (others : List (Act (List ℕ))) → acts ≡ map changes made ++ others
    → with_records store (records_of (changes_in acts)) ≡ with_records (with_records store (records_of made)) (records_of (changes_in others))
store_after store acts made others is =
    ap (λ (l : List (Act (List ℕ))). with_records store (records_of (changes_in l))) is ∙ ap (λ (l : List (List Record)). with_records store (records_of l)) (changes_in-map made others)
    ∙ ap (with_records store) (records_of-append made (changes_in others)) ∙ sym (with_records-append store (records_of made) (records_of (changes_in others)))

-- The moments that acts use, and what they come to with others after them.
pub record Onward (path_of : List ℕ → Option (Option Address)) (store : StoreState) (queue : List Queued) (messages : List (List ℕ)) (told : List Moment) (first : List ClientAct)
    (acts : List (Act (List ℕ))) (count : ℕ) : Type 0 where
  pub used : List Moment
  pub unused : List Moment
  pub told_are : told ≡ used ++ unused
  pub onward : (later : List Moment) (more : List ClientAct) (others : List (Act (List ℕ))) (further : ℕ)
      → CarriesActs path_of (with_records store (records_of (changes_in acts))) queue messages later more others further
      → CarriesActs path_of store queue messages (used ++ later) (first ++ more) (acts ++ others) (count + further)

-- over the same store, with the same messages
pub Carries-over : (path_of : List ℕ → Option (Option Address)) (store other : StoreState) (queue : List Queued) (messages texts : List (List ℕ)) (told : List Moment) (first : List ClientAct) (acts : List (Act (List ℕ))) (count : ℕ)
    → store ≡ other → messages ≡ texts → CarriesActs path_of store queue messages told first acts count → CarriesActs path_of other queue texts told first acts count
Carries-over path_of store other queue messages texts told first acts count same also carries = rw (← same, ← also) carries

carries_as : (path_of : List ℕ → Option (Option Address)) (store : StoreState) (queue : List Queued) (messages : List (List ℕ)) (told : List Moment) (first : List ClientAct) (acts others : List (Act (List ℕ))) (count further : ℕ)
    → acts ≡ others → count ≡ further → CarriesActs path_of store queue messages told first acts count → CarriesActs path_of store queue messages told first others further
carries_as path_of store queue messages told first acts others count further same number carries = rw (← same, ← number) carries

pub Carries-onward : (path_of : List ℕ → Option (Option Address)) (store : StoreState) (queue : List Queued) (messages : List (List ℕ)) (told : List Moment) (first : List ClientAct) (acts : List (Act (List ℕ))) (count : ℕ)
    → CarriesActs path_of store queue messages told first acts count → Onward path_of store queue messages told first acts count
Carries-onward path_of store queue messages told [] acts count (none, no_count) = record {
  used = [];
  unused = told;
  told_are = refl;
  onward = λ later more others further carries.
      carries_as path_of store queue messages later more others (acts ++ others) further (count + further)
      (ap (λ (l : List (Act (List ℕ))). l ++ others) (sym none)) (omega (arith, no_count))
      (Carries-over path_of (with_records store (records_of (changes_in acts))) store queue messages messages later more others further
      (ap (λ (l : List (Act (List ℕ))). with_records store (records_of (changes_in l))) none) refl carries);
}
Carries-onward path_of store queue messages told (act.Say octets ∷ rest) acts count (following, is, below) =
    let on = Carries-onward path_of store queue messages told rest following count below in
    record {
      used = on.used;
      unused = on.unused;
      told_are = on.told_are;
      onward = λ later more others further carries. (
        following ++ others,
        ap (λ (l : List (Act (List ℕ))). l ++ others) is,
        on.onward later more others further
            (Carries-over path_of (with_records store (records_of (changes_in acts))) (with_records store (records_of (changes_in following))) queue messages messages later more others further
            (ap (λ (l : List (Act (List ℕ))). with_records store (records_of (changes_in l))) is) refl carries),
      );
    }
Carries-onward path_of store queue messages told (act.SayData number ∷ rest) acts count (following, is, below) =
    let on = Carries-onward path_of store queue messages told rest following count below in
    record {
      used = on.used;
      unused = on.unused;
      told_are = on.told_are;
      onward = λ later more others further carries. (
        following ++ others,
        ap (λ (l : List (Act (List ℕ))). l ++ others) is,
        on.onward later more others further
            (Carries-over path_of (with_records store (records_of (changes_in acts))) (with_records store (records_of (changes_in following))) queue messages messages later more others further
            (ap (λ (l : List (Act (List ℕ))). with_records store (records_of (changes_in l))) is) refl carries),
      );
    }
Carries-onward path_of store queue messages told (act.Settle number outcomes ∷ rest) acts count (one, below) =
    let on = Carries-onward path_of (with_records store (records_of one.made)) queue messages one.later rest one.others one.further below in
    let report = Reports-onward path_of store one.queued (entry_octets store.kept one.queued.entry) outcomes told one.later one.settled.reported one.own one.settled.reports in
    record {
      used = report.used ++ on.used;
      unused = on.unused;
      told_are = report.told_are ∙ ap (λ (l : List Moment). report.used ++ l) on.told_are ∙ sym (append_assoc report.used on.used on.unused);
      onward = λ later more others further carries. (
        record {
          queued = one.queued;
          there = one.there;
          later = on.used ++ later;
          made = one.made;
          own = one.own;
          settled = record {
            reported = one.settled.reported;
            reports = rw (append_assoc report.used on.used later) (report.onward (on.used ++ later));
            made_are = one.settled.made_are;
          };
          others = one.others ++ others;
          acts_are = ap (λ (l : List (Act (List ℕ))). l ++ others) one.acts_are ∙ append_assoc (map changes one.made) one.others others;
          further = one.further + further;
          count_is = omega (arith, one.count_is);
        },
        on.onward later more others further
            (Carries-over path_of (with_records store (records_of (changes_in acts))) (with_records (with_records store (records_of one.made)) (records_of (changes_in one.others))) queue messages messages later more others further
            (store_after store acts one.made one.others one.acts_are) refl carries),
      );
    }

-- no more reports are kept than entries are settled
pub Carries-count : (path_of : List ℕ → Option (Option Address)) (store : StoreState) (queue : List Queued) (messages : List (List ℕ)) (told : List Moment) (first : List ClientAct) (acts : List (Act (List ℕ))) (count : ℕ)
    → CarriesActs path_of store queue messages told first acts count → count ≤ settled_count first
Carries-count path_of store queue messages told [] acts count (none, no_count) = omega (arith, no_count)
Carries-count path_of store queue messages told (act.Say octets ∷ rest) acts count (following, is, below) = Carries-count path_of store queue messages told rest following count below
Carries-count path_of store queue messages told (act.SayData number ∷ rest) acts count (following, is, below) = Carries-count path_of store queue messages told rest following count below
Carries-count path_of store queue messages told (act.Settle number outcomes ∷ rest) acts count (one, below) =
    let few = Carries-count path_of (with_records store (records_of one.made)) queue messages one.later rest one.others one.further below in
    let own = Reports-one path_of store one.queued (entry_octets store.kept one.queued.entry) outcomes told one.later one.settled.reported one.own one.settled.reports in
    omega (arith, few, own, one.count_is)
