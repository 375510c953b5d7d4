-- What the keeper of a session holds that was broken off.
use Rattle.std.proofs.Common.{◌≡◌, ℕ, List, [], ◌++◌, length, Option, Some, None, sym, ap, subst, ◌∙◌, append_assoc, append-nil, arith}
use Rattle.std.specs.Prelude.{IfSome, min}
use Rattle.std.proofs.lemmas.List.{take_min, take-append-le}
use Rattle.std.proofs.Math.Seq.{take-append_seam}
use Rattle.std.proofs.lemmas.List.Concat.{flat_map-cons}
use Rattle.std.proofs.lemmas.Option.{IfSome_then}
use Rattle.mail_wire.specs.declared.outside.Fault.{Fault}
use Rattle.mail_wire.specs.declared.outside.Fault.TheVariants as fault
use Rattle.journal_records.specs.declared.records.Record.{Record}
use Rattle.session_core.specs.Acts.{Act, changes_in}
use Rattle.mail_store.specs.Answers.{OpensTo}
use Rattle.mail_store.specs.Changing.{IsStoreOf, HoldsFirst}
use Rattle.session_core.specs.Done.{StopsIn, FailsIn, IsDone}
use Rattle.mail_store.specs.Following.{records_of, Follows}
use Rattle.journal_records.specs.Spelling.{journal}
use Rattle.mail_store.specs.StoreState.{StoreState}
use Rattle.session_core.proofs.DoneLemmas.{records_in-append}
use Rattle.mail_store.proofs.FollowLemmas.{followed, broken}
use Rattle.mail_store.proofs.SettleLemmas.{opened_store, whole_journal}
use Rattle.setup_command.specs.Running.{HoldsBegun}

-- the keeper of a store has the first of whatever records begin with those that were put last
HoldsFirst-made : (store : StoreState) (octets : Option (List ℕ)) (all made left : List Record) → IsStoreOf store octets (all ++ made) → HoldsFirst octets all (made ++ left)
HoldsFirst-made store octets all made left is = record {
  kept = journal is.version (all ++ made);
  count = length made;
  holds = is.holds;
  records = rw (take-append_seam made left) (is.version, whole_journal is.version (all ++ made) is.records);
}

-- the first of the front of some records are the first of all of them
HoldsFirst-front : (octets : Option (List ℕ)) (all front left : List Record) → HoldsFirst octets all front → HoldsFirst octets all (front ++ left)
HoldsFirst-front octets all front left first = record {
  kept = first.kept;
  count = min first.count (length front);
  holds = first.holds;
  records = rw (take-append-le (min first.count (length front)) front left (omega arith), take_min first.count front) first.records;
}

-- ---- by the answer

-- the records of acts are those of these ones, and others
records_split : {P : Type 0} (acts front left : List (Act P)) → acts ≡ front ++ left → records_of (changes_in acts) ≡ records_of (changes_in front) ++ records_of (changes_in left)
records_split acts front left is = ap (λ (l : List (Act _)). records_of (changes_in l)) is ∙ records_in-append front left

stopped_by : {P : Type 0} (spelled : P → List ℕ) (store after : StoreState) (had has : Option (List ℕ)) (all : List Record) (acts : List (Act P)) (given : List ℕ) → IsStoreOf store had all
    → StopsIn spelled store after had has acts given → HoldsFirst has all (records_of (changes_in acts))
stopped_by spelled store after had has all acts given is stops =
    subst (HoldsFirst has all) (sym (records_split acts stops.done _ stops.acts_are))
    (HoldsFirst-made after has all (records_of (changes_in stops.done)) _ (followed store after had has all (records_of (changes_in stops.done)) is stops.follows))

failed_by : {P : Type 0} (spelled : P → List ℕ) (store after : StoreState) (had has : Option (List ℕ)) (all : List Record) (acts : List (Act P)) (given : List ℕ) → IsStoreOf store had all
    → FailsIn spelled store after had has acts given → HoldsFirst has all (records_of (changes_in acts))
failed_by spelled store after had has all acts given is fails =
    let made = records_of (changes_in fails.done) in
    let left = records_of (changes_in fails.left) in
    let split : records_of (changes_in acts) ≡ (made ++ fails.failing) ++ left =
    records_split acts fails.done _ fails.acts_are
    ∙ ap (λ (l : List Record). made ++ l) (flat_map-cons (λ records. records) fails.failing (changes_in fails.left)) ∙ sym (append_assoc made fails.failing left) in
    subst (HoldsFirst has all) (sym split) (HoldsFirst-front has all (made ++ fails.failing) left (broken store after had has all made fails.failing is fails.breaks))

all_made : (store after : StoreState) (had has : Option (List ℕ)) (all due : List Record) → IsStoreOf store had all → Follows store after had has due → HoldsFirst has all due
all_made store after had has all due is follows =
    subst (HoldsFirst has all) (append-nil due) (HoldsFirst-made after has all due [] (followed store after had has all due is follows))

-- the keeper opens with the records that it had and the first of those that are due
pub first_held : {P : Type 0} (spelled : P → List ℕ) (store after : StoreState) (had has : Option (List ℕ)) (met : Option Fault) (all : List Record) (acts : List (Act P)) (given : List ℕ)
    → IsStoreOf store had all → IsDone spelled store after had has met acts given → HoldsFirst has all (records_of (changes_in acts))
first_held spelled store after had has None all acts given is made = all_made store after had has all (records_of (changes_in acts)) is made.1
first_held spelled store after had has (Some fault.Keeper) all acts given is made = failed_by spelled store after had has all acts given is made
first_held spelled store after had has (Some fault.Wire) all acts given is made = stopped_by spelled store after had has all acts given is made
first_held spelled store after had has (Some fault.Memory) all acts given is made = stopped_by spelled store after had has all acts given is made

-- so do the octets of a journal that was opened
pub begun_held : {P : Type 0} (spelled : P → List ℕ) (old : Option (List ℕ)) (store after : StoreState) (opened new : Option (List ℕ)) (met : Option Fault) (acts : List (Act P)) (given : List ℕ)
    → IfSome old (λ octets. OpensTo octets opened store.kept) → IsDone spelled store after opened new met acts given → IfSome old (λ octets. HoldsBegun new store (changes_in acts))
begun_held spelled old store after opened new met acts given opens made =
    IfSome_then old {P = λ octets. OpensTo octets opened store.kept} opens (λ octets to. let is = opened_store octets opened store to in record {
      version = is.version;
      all = to.all;
      records = is.records;
      fold = to.kept_is;
      holds = first_held spelled store after opened new met to.all acts given is made;
    })
