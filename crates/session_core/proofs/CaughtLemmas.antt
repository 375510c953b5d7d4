-- A desk that catches up, or is opened anew.
use Rattle.std.proofs.Common.{◌≡◌, ℕ, List, [], ◌∷◌, ◌++◌, false, Option, None, Some, Result, Ok, Err, refl, ap, sym, subst, ◌∙◌, inl, inr}
use Rattle.std.specs.Prelude.{IfOk, IfSome, OnOk, codes, is_err, slice_index_or}
use Rattle.std.proofs.lemmas.List.Elements.{All-nil}
use Rattle.std.proofs.lemmas.Option.{IfSome_then}
use Rattle.journal_records.specs.Addresses.{IsDomainText}
use Rattle.journal_records.specs.declared.records.Record.{Record}
use Rattle.journal_records.specs.declared.records.Record.TheVariants as records
use Rattle.journal_records.specs.Grammar.{IsDate}
use Rattle.journal_records.specs.Stored.{IsStored}
use Rattle.journal_records.specs.Versions.{version_after}
use Rattle.journal_records.specs.declared.versions.Version.{Version}
use Rattle.journal_records.specs.declared.versions.Version.TheVariants as versions
use Rattle.kept_mail.specs.Kept.{Kept, after_all, after_record, name_of, nothing}
use Rattle.kept_mail.specs.Records.{AreRecords, IsRecord}
use Rattle.kept_mail.specs.declared.kept.Message.{Message}
use Rattle.mail_store.specs.Answers.{IsFold, IsJournalFault, LeavesRecords, OpensTo, PutsNothing}
use Rattle.mail_store.specs.Catching.{CatchesUp, ReadsOn}
use Rattle.mail_store.specs.StoreState.{StoreState, AreStored}
use Rattle.mail_store.specs.declared.opening.OpenFault.{OpenFault}
use Rattle.mail_store.specs.declared.opening.OpenFault.TheVariants as faults
use Rattle.session_core.specs.Desks.{AreLimits, HasFirst, IsCacheWithin, IsCacheOf, IsOpen, IsStoreName, WorksWithin, new_cache}
use Rattle.surrogate_cache.specs.Caching.{CacheState}
use Rattle.session_core.specs.declared.desk.Desk.{Desk}
use Rattle.session_core.specs.declared.desk.Limits.{Limits}
use Rattle.session_core.proofs.CachedLemmas.{IsCacheOf-after, IsCacheOf-new}
use Rattle.session_core.proofs.DeskLemmas.{AreStored-after}

-- ---- the desk is open, and open again

first_domain : (domains : List (List ℕ)) (name : List ℕ) → IsDomainText name → IsStoreName (slice_index_or domains 0 (codes "localhost"))
    → IsStoreName (slice_index_or (domains ++ name ∷ []) 0 (codes "localhost"))
first_domain [] name is named = inl is
first_domain (first ∷ domains) name is named = named

named_after : (version : Version) (kept : Kept) (one : Record) → IsRecord version kept one → IsStoreName (name_of kept) → IsStoreName (name_of (after_record kept one))
named_after version kept (records.Domain name) is named = first_domain kept.domains name is.in_order.0 named
named_after version kept (records.Message folder flags mark date octets) is named = named
named_after version kept (records.Flags message flags) is named = named
named_after version kept (records.Expunge message) is named = named
named_after version kept (records.Account address password) is named = named
named_after version kept (records.Folder account name) is named = named
named_after version kept (records.Queue path addresses mark octets) is named = named
named_after version kept (records.Settle entry index) is named = named
named_after version kept records.Version is named = named

named_all : (version : Version) (kept : Kept) (all : List Record) → AreRecords version kept all → IsStoreName (name_of kept) → IsStoreName (name_of (after_all kept all))
named_all version kept [] are named = named
named_all version kept (one ∷ others) are named = named_all (version_after version one) (after_record kept one) others are.1 (named_after version kept one are.0 named)

-- octets that nothing was done to have the records that they had
pub left_alone : (octets : Option (List ℕ)) → LeavesRecords octets octets
left_alone None = refl
left_alone (Some octets) = inl refl

-- nothing was put last in them
pub nothing_put : (octets : Option (List ℕ)) → PutsNothing octets octets
nothing_put None = refl
nothing_put (Some octets) = inl refl

-- want of memory says nothing of a journal
pub memory_wanted : (old new : Option (List ℕ)) → IfSome old (λ octets. IsJournalFault octets new faults.Memory)
memory_wanted None new = tt
memory_wanted (Some octets) new = tt

-- a store that was opened, with a new cache, within the limits that both were opened with
pub IsOpen-fold : (limits : Limits) (store : StoreState) (cache : CacheState) → AreLimits limits → IsFold store.kept → store.message_max ≡ limits.message_max → store.failed ≡ false
    → cache ≡ new_cache limits
    → IsOpen (record { store = store; cache = cache; limits = limits })
IsOpen-fold limits store cache are fold agrees works new = record {
  limits = are;
  agrees = agrees;
  works = works;
  named = subst (λ (kept : Kept). IsStoreName (name_of kept)) (sym fold.kept_is) (named_all fold.version nothing fold.all fold.records (inr refl));
  stored = subst (λ (kept : Kept). AreStored kept.messages) (sym fold.kept_is)
      (AreStored-after fold.version nothing fold.all fold.records (record { each = All-nil (λ (message : Message). IsStored message.octets); dated = All-nil (λ (message : Message). IsDate message.date) }));
  cached = IsCacheOf-new cache store.kept (ap (λ (state : CacheState). state.entries) new);
  places = record { blocks = ap (λ (state : CacheState). state.blocks) new; places = ap (λ (state : CacheState). state.places) new };
}

pub open_again : {T E : Type 0} (result : Result T E) (desk : Desk) (store : StoreState) (told : Option (List ℕ)) → ReadsOn told desk.store store → store.failed ≡ is_err result
    → OnOk result (WorksWithin desk.limits desk → IsOpen (record { store = store; cache = desk.cache; limits = desk.limits }))
open_again (Ok done) desk store told reads failed = λ within. record {
  limits = within.are_limits;
  agrees = ap (λ (s : StoreState). s.message_max) reads.store ∙ within.agrees;
  works = failed;
  named = subst (λ (s : StoreState). IsStoreName (name_of s.kept)) (sym reads.store) (named_all versions.Two desk.store.kept reads.more reads.records within.named);
  stored = subst (λ (s : StoreState). AreStored s.kept.messages) (sym reads.store) (AreStored-after versions.Two desk.store.kept reads.more reads.records within.stored);
  cached = subst (λ (s : StoreState). IsCacheOf desk.cache s.kept) (sym reads.store) (IsCacheOf-after desk.cache desk.store.kept reads.more within.cached);
  places = within.places;
}
open_again (Err fault) desk store told reads failed = tt

-- ---- what it has

-- the desk that was kept has caught up
pub opened_on : (old new : Option (List ℕ)) (desk : Desk) (kept : Kept) → IfSome old (λ octets. CatchesUp desk.store octets new kept)
    → IfSome old (λ octets. HasFirst (Some desk) octets → OpensTo octets new kept)
opened_on old new desk kept catches = IfSome_then old {P = λ octets. CatchesUp desk.store octets new kept} catches (λ octets caught first. caught.opens first.0 first.1)

-- A desk was opened, whatever was kept, which left the octets.
pub opened_anew : (old mid new : Option (List ℕ)) (kept : Option Desk) (result : Result Desk OpenFault) → mid ≡ old → IfOk result (λ desk. IfSome mid (λ octets. OpensTo octets new desk.store.kept))
    → IfOk result (λ desk. IfSome old (λ octets. HasFirst kept octets → OpensTo octets new desk.store.kept))
opened_anew old mid new kept (Ok desk) same opens =
    IfSome_then old {P = λ octets. OpensTo octets new desk.store.kept} (subst (λ (o : Option (List ℕ)). IfSome o (λ octets. OpensTo octets new desk.store.kept)) same opens) (λ octets to first. to)
opened_anew old mid new kept (Err fault) same opens = tt

-- a desk that is open works within its limits
pub WorksWithin-open : (limits : Limits) (desk : Desk) → IsOpen desk → desk.limits ≡ limits → WorksWithin limits desk
WorksWithin-open limits desk opens same = record {
  are_limits = subst AreLimits same opens.limits;
  own = same;
  agrees = opens.agrees ∙ ap (λ (all : Limits). all.message_max) same;
  named = opens.named;
  stored = opens.stored;
  cached = opens.cached;
  places = subst (λ (all : Limits). IsCacheWithin all desk.cache) same opens.places;
}
