-- A connection that was served from the desk that was kept.
use Rattle.std.proofs.Common.{◌≡◌, ℕ, List, [], ◌++◌, length, Option, None, Some, Result, Ok, Err, refl, sym, ap, subst, ◌∙◌}
use Rattle.std.specs.Prelude.{IfSome}
use Rattle.std.proofs.lemmas.Option.{IfSome_then}
use Rattle.mail_wire.proofs.KeeperLemmas.{HasKeeperCause-fine, KeepsOn-more, KeepsOn-of}
use Rattle.mail_wire.specs.KeeperState.{KeeperState}
use Rattle.mail_wire.specs.Keeping.{HasKeeperCause}
use Rattle.mail_wire.specs.WireState.{WireState}
use Rattle.mail_wire.specs.declared.outside.Fault.{Fault}
use Rattle.mail_wire.specs.declared.outside.Fault.TheVariants as fault
use Rattle.journal_records.specs.Spelling.{journal}
use Rattle.journal_records.specs.declared.records.Record.{Record}
use Rattle.journal_records.specs.declared.versions.Version.{Version}
use Rattle.mail_store.specs.Answers.{OpensTo}
use Rattle.mail_store.specs.Catching.{HasReadFirst}
use Rattle.mail_store.specs.Changing.{IsStoreOf}
use Rattle.mail_store.specs.Following.{records_of, Follows}
use Rattle.mail_store.specs.StoreState.{StoreState}
use Rattle.mail_store.specs.declared.opening.OpenFault.{OpenFault}
use Rattle.mail_store.specs.declared.opening.OpenFault.TheVariants as faults
use Rattle.mail_store.proofs.CatchLemmas.{after_journal, end_changed}
use Rattle.mail_store.proofs.FollowLemmas.{followed}
use Rattle.mail_store.proofs.SettleLemmas.{opened_store}
use Rattle.session_core.specs.Acts.{Act, changes_in}
use Rattle.session_core.specs.Around.{Around}
use Rattle.session_core.specs.Desks.{HasFirst, IsNextCache, IsOpen, OpensOrCatchesUp, WorksWithin}
use Rattle.session_core.specs.Done.{IsDone}
use Rattle.session_core.specs.Keeps.{Keeps, answer_of}
use Rattle.session_core.specs.Protocol.{Protocol}
use Rattle.session_core.specs.Served.{met_of}
use Rattle.session_core.specs.Serving.{OfInstance, ServesBy, ServesFrom, instance_of}
use Rattle.session_core.specs.declared.desk.Desk.{Desk}
use Rattle.session_core.specs.declared.desk.Limits.{Limits}
use Rattle.session_core.specs.declared.serving.Served.{Served}
use Rattle.session_core.specs.declared.serving.Served.TheVariants as ended_as
use Rattle.session_core.proofs.CaughtLemmas.{WorksWithin-open}
use Rattle.session_core.proofs.MeaningLemmas.{oracles_given}
use Rattle.mail_command.specs.Connections.{GoesOnFrom, ServesNext}
use Rattle.mail_command.proofs.InstanceLemmas.{with_instance}
use Rattle.mail_command.proofs.SessionLemmas.{IsLent}

-- ---- the session

-- a desk that was readied, with what is lent to its session
pub record IsReadied (begun : Around) (kept : Option Desk) (limits : Limits) (old : Option (List ℕ)) : Type 0 where
  pub opens : IfSome old (λ octets. HasFirst kept octets → OpensTo octets begun.keeper.octets begun.desk.store.kept)
  pub anew : IfSome old (λ octets. OpensOrCatchesUp kept octets begun.keeper.octets begun.desk.store.kept)
  pub cache : IfSome old (λ octets. IsNextCache limits kept octets begun.desk.cache)
  pub place : IfSome begun.keeper.octets (λ octets. begun.desk.store.end ≡ length octets)
  pub works : IsOpen begun.desk
  pub limits_are : begun.desk.limits ≡ limits

pub served_next : (protocol : Protocol) (begun done : Around) (reading : Option ℕ) (opened : KeeperState) (new : Option (List ℕ)) (a b : WireState) (kept left : Option Desk) (limits : Limits)
    (old : Option (List ℕ)) (advance : Served) → IsLent begun reading opened a → IsReadied begun kept limits old → ServesBy protocol begun done advance → done.keeper.octets ≡ new → done.wire ≡ b
    → IfSome left (λ desk. desk ≡ done.desk) → OfInstance protocol reading (λ instance. ServesNext instance kept left limits old new a b advance)
served_next protocol begun done reading opened new a b kept left limits old advance lent is serves has given left_is =
    rw (← lent.clock)
    (with_instance protocol begun.clock (λ instance. ServesFrom instance begun done advance)
    (λ instance. ServesNext instance kept left limits old new a b advance)
    (λ instance does. record {
      begun = begun;
      done = done;
      opens = is.opens;
      anew = is.anew;
      cache = is.cache;
      limits_are = is.limits_are;
      message_limit = is.works.agrees ∙ ap (λ (all : Limits). all.message_max) is.limits_are;
      wire = lent.wire;
      given = given;
      keeper = has;
      left_is = left_is;
      serves = does;
    })
    serves)

-- ---- the desk for the next one

-- these records were put last
record PutLast (store after : StoreState) (opened new : Option (List ℕ)) : Type 0 where
  more : List Record
  follows : Follows store after opened new more

-- unless the keeper broke the session off
put_last : {P : Type 0} (spelled : P → List ℕ) (store after : StoreState) (opened new : Option (List ℕ)) (met : Option Fault) (acts : List (Act P)) (given : List ℕ) → ¬ (met ≡ Some fault.Keeper)
    → IsDone spelled store after opened new met acts given → PutLast store after opened new
put_last spelled store after opened new None acts given fine done = record { more = records_of (changes_in acts); follows = done.1 }
put_last spelled store after opened new (Some fault.Wire) acts given fine done = record { more = records_of (changes_in done.done); follows = done.follows }
put_last spelled store after opened new (Some fault.Memory) acts given fine done = record { more = records_of (changes_in done.done); follows = done.follows }
put_last spelled store after opened new (Some fault.Keeper) acts given fine done = absurd (fine refl)

put_by : (protocol : Protocol) (before now : Around) (advance : Served) → ServesBy protocol before now advance → ¬ (met_of advance ≡ Some fault.Keeper)
    → PutLast before.desk.store now.desk.store before.keeper.octets now.keeper.octets
put_by protocol before now advance serves fine =
    let instance = instance_of protocol oracles_given.0 (serves.told ++ []) in
    let lawful = (serves.holds oracles_given.0 oracles_given.1 []).serves.lawful in
    put_last instance.spelled before.desk.store now.desk.store before.keeper.octets now.keeper.octets (met_of advance) _ _ fine lawful.done

-- the store has what the keeper begins with, whatever comes after that; a journal is as long in either version
reads_first : (version : Version) (store after : StoreState) (opened new : Option (List ℕ)) (all more : List Record) → IsStoreOf store opened all → store.end ≡ length (journal version all)
    → Follows store after opened new more → IfSome new (λ has. (following : List ℕ) → HasReadFirst after (has ++ following) (all ++ more))
reads_first version store after opened new all more is end follows =
    let now = followed store after opened new all more is follows in
    let ended = end_changed version store after opened new all more end (follows.records, follows.store, follows.journal) in
    subst (λ (o : Option (List ℕ)). IfSome o (λ has. (following : List ℕ) → HasReadFirst after (has ++ following) (all ++ more))) (sym now.holds)
    (λ following. after_journal version after (journal now.version (all ++ more)) (all ++ more) following
    (record { version = now.version; records = now.records; last_version = now.last_version; kept_is = now.kept_is; holds = refl }) ended)

goes_by : (old opened new : Option (List ℕ)) (kept : Option Desk) (store : StoreState) (left : Desk) → IfSome old (λ octets. HasFirst kept octets → OpensTo octets opened store.kept)
    → IfSome opened (λ octets. store.end ≡ length octets) → PutLast store left.store opened new → GoesOnFrom kept (Some left) old new
goes_by None opened new kept store left opens place put = tt
goes_by (Some octets) opened new kept store left opens place put = λ first.
    let to = opens first in
    let end : store.end ≡ length (journal to.version to.all) = subst (λ (o : Option (List ℕ)). IfSome o (λ l. store.end ≡ length l)) to.holds place in
    IfSome_then new {P = λ has. (following : List ℕ) → HasReadFirst left.store (has ++ following) (to.all ++ put.more)}
    (reads_first to.version store left.store opened new to.all put.more (opened_store octets opened store to) end put.follows) (λ has reads following. (to.all ++ put.more, reads following))

pub goes_on : (protocol : Protocol) (before now : Around) (new : Option (List ℕ)) (kept : Option Desk) (limits : Limits) (old : Option (List ℕ)) (advance : Served) (left : Desk) → IsReadied before kept limits old
    → ServesBy protocol before now advance → ¬ (met_of advance ≡ Some fault.Keeper) → now.keeper.octets ≡ new → left ≡ now.desk → GoesOnFrom kept (Some left) old new
goes_on protocol before now new kept limits old advance left is serves fine has same =
    rw (same, ← has) (goes_by old before.keeper.octets now.keeper.octets kept before.desk.store now.desk is.opens is.place (put_by protocol before now advance serves fine))

-- no desk is kept
pub goes_nowhere : (kept : Option Desk) (old new : Option (List ℕ)) → GoesOnFrom kept None old new
goes_nowhere kept None new = tt
goes_nowhere kept (Some had) None = λ first. tt
goes_nowhere kept (Some had) (Some has) = λ first more. tt

-- the keeper didn't break it off
pub not_broken : (advance : Served) → ¬ (advance ≡ ended_as.KeeperFault) → ¬ (met_of advance ≡ Some fault.Keeper)
not_broken ended_as.Ended fine bad = cc
not_broken ended_as.Limit fine bad = cc
not_broken ended_as.WireFault fine bad = cc
not_broken ended_as.KeeperFault fine bad = fine refl
not_broken ended_as.Memory fine bad = cc

pub still_works : (before now : Around) (limits : Limits) (advance : Served) (left : Desk) → IsOpen before.desk → before.desk.limits ≡ limits → Keeps before now (met_of advance)
    → ¬ (met_of advance ≡ Some fault.Keeper) → left ≡ now.desk → WorksWithin limits left
still_works before now limits advance left works limits_are keeps fine same =
    rw same (WorksWithin-open limits now.desk (keeps.works fine works) (keeps.limits ∙ limits_are))

-- a session's answer is no fault of the opening
pub served_keeper : {T : Type 0} (begun done : Around) (reading : Option ℕ) (old opened new : KeeperState) (a : WireState) (desk : Desk) (advance : Served) (result : Result T OpenFault) → IsLent begun reading opened a
    → HasKeeperCause {E = OpenFault} old opened (Ok desk) faults.Keeper → Keeps begun done (met_of advance) → done.keeper ≡ new → (result ≡ Err faults.Keeper → ⊥) → HasKeeperCause old new result faults.Keeper
served_keeper begun done reading old opened new a desk advance result lent opens keeps kept fine =
    rw (← kept) (HasKeeperCause-fine old done.keeper result faults.Keeper (KeepsOn-more old begun.keeper done.keeper (answer_of (met_of advance)) fault.Keeper
    (KeepsOn-of {E = OpenFault} old begun.keeper (Ok desk) faults.Keeper (rw lent.keeper opens)) keeps.keeper) fine)
