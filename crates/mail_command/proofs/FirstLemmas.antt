-- What was done of the acts that were due, where a fault or want of memory broke a call off.
use Rattle.std.proofs.Common.{◌≡◌, ℕ, List, [], ◌∷◌, ◌++◌, Option, Some, refl, sym, ap, ◌∙◌, append_assoc}
use Rattle.mail_wire.specs.declared.outside.Fault.{Fault}
use Rattle.mail_wire.specs.declared.outside.Fault.TheVariants as fault
use Rattle.journal_records.specs.declared.records.Record.{Record}
use Rattle.mail_store.specs.Changing.{HoldsFirst, IsStoreOf}
use Rattle.mail_store.specs.Following.{records_of}
use Rattle.mail_store.specs.StoreState.{StoreState}
use Rattle.session_core.specs.Acts.{Act, changes, changes_in}
use Rattle.session_core.specs.Around.{Around}
use Rattle.session_core.specs.Doing.{Does}
use Rattle.session_core.specs.Done.{FailsIn, IsDone, StopsIn, given_by}
use Rattle.session_core.specs.Oracles.{Oracles}
use Rattle.session_core.proofs.DoneLemmas.{changes_in-append, given_by-append}
use Rattle.mail_command.specs.Begun.{HasFirstDone}
use Rattle.mail_command.specs.Protocols.{protocol_for}
use Rattle.mail_command.specs.declared.roles.Role.{Role}
use Rattle.mail_command.specs.declared.roles.Role.TheVariants as role
use Rattle.mail_command.proofs.BegunLemmas.{first_held}

-- what a list of acts has in front
parted : {P : Type 0} (acts front following : List (Act P)) → acts ≡ front ++ following → changes_in acts ≡ changes_in front ++ changes_in following
parted acts front following is = ap (λ (l : List (Act _)). changes_in l) is ∙ changes_in-append front following

spelled_parted : {P : Type 0} (spelled : P → List ℕ) (acts front following : List (Act P)) → acts ≡ front ++ following → given_by spelled acts ≡ given_by spelled front ++ given_by spelled following
spelled_parted spelled acts front following is = ap (λ (l : List (Act _)). given_by spelled l) is ∙ given_by-append spelled front following

-- it stopped in what is given
stopped_given : {P : Type 0} (spelled : P → List ℕ) (old new : StoreState) (had has : Option (List ℕ)) (acts : List (Act P)) (given : List ℕ) → (stops : StopsIn spelled old new had has acts given)
    → given_by spelled acts ≡ given ++ (stops.missing ++ given_by spelled stops.left)
stopped_given spelled old new had has acts given stops =
    let front = given_by spelled stops.done in
    let left = given_by spelled stops.left in
    spelled_parted spelled acts stops.done (stops.cut ++ stops.left) stops.acts_are
    ∙ ap (λ (l : List ℕ). front ++ l) (given_by-append spelled stops.cut stops.left ∙ ap (λ (l : List ℕ). l ++ left) stops.cut_is ∙ append_assoc stops.begun stops.missing left)
    ∙ sym (append_assoc front stops.begun (stops.missing ++ left)) ∙ ap (λ (l : List ℕ). l ++ (stops.missing ++ left)) (sym stops.given_is)

stopped_first : {P : Type 0} (spelled : P → List ℕ) (old new : StoreState) (had has : Option (List ℕ)) (met : Fault) (acts : List (Act P)) (given : List ℕ) → ¬ (met ≡ fault.Keeper)
    → (stops : StopsIn spelled old new had has acts given) → ((all : List Record) → IsStoreOf old had all → HoldsFirst has all (records_of (changes_in acts)))
    → HasFirstDone (given_by spelled acts) (changes_in acts) old new had has met given
stopped_first spelled old new had has met acts given other stops holds = record {
  missing = stops.missing ++ given_by spelled stops.left;
  octets_are = stopped_given spelled old new had has acts given stops;
  made = changes_in stops.done;
  left = changes_in (stops.cut ++ stops.left);
  due_is = parted acts stops.done (stops.cut ++ stops.left) stops.acts_are;
  kept = ap (λ (store : StoreState). store.kept) stops.follows.store;
  noted = λ is. absurd (other is);
  keeper = holds;
}

failed_first : {P : Type 0} (spelled : P → List ℕ) (old new : StoreState) (had has : Option (List ℕ)) (acts : List (Act P)) (given : List ℕ) → (fails : FailsIn spelled old new had has acts given)
    → ((all : List Record) → IsStoreOf old had all → HoldsFirst has all (records_of (changes_in acts))) → HasFirstDone (given_by spelled acts) (changes_in acts) old new had has fault.Keeper given
failed_first spelled old new had has acts given fails holds = record {
  missing = given_by spelled (changes fails.failing ∷ fails.left);
  octets_are = spelled_parted spelled acts fails.done (changes fails.failing ∷ fails.left) fails.acts_are
      ∙ ap (λ (l : List ℕ). l ++ given_by spelled (changes fails.failing ∷ fails.left)) (sym fails.given_is);
  made = changes_in fails.done;
  left = changes_in (changes fails.failing ∷ fails.left);
  due_is = parted acts fails.done (changes fails.failing ∷ fails.left) fails.acts_are;
  kept = ap (λ (store : StoreState). store.kept) fails.breaks.store;
  noted = λ is. ap (λ (store : StoreState). store.failed) fails.breaks.store;
  keeper = holds;
}

pub begun_first : {P : Type 0} (spelled : P → List ℕ) (old new : StoreState) (had has : Option (List ℕ)) (met : Fault) (acts : List (Act P)) (given : List ℕ)
    → IsDone spelled old new had has (Some met) acts given → HasFirstDone (given_by spelled acts) (changes_in acts) old new had has met given
begun_first spelled old new had has fault.Wire acts given done =
    stopped_first spelled old new had has fault.Wire acts given (λ is. cc) done (λ all is. first_held spelled old new had has (Some fault.Wire) all acts given is done)
begun_first spelled old new had has fault.Memory acts given done =
    stopped_first spelled old new had has fault.Memory acts given (λ is. cc) done (λ all is. first_held spelled old new had has (Some fault.Memory) all acts given is done)
begun_first spelled old new had has fault.Keeper acts given done =
    failed_first spelled old new had has acts given done (λ all is. first_held spelled old new had has (Some fault.Keeper) all acts given is done)

-- ---- no session begins with a change

no_change_in : {P : Type 0} (acts done left : List (Act P)) (failing : List Record) → acts ≡ done ++ changes failing ∷ left → changes_in acts ≡ [] → ⊥
no_change_in acts done left failing is none = nothing_following (changes_in done) failing (changes_in left) (sym (parted acts done (changes failing ∷ left) is) ∙ none)
  where
    nothing_following : (front : List (List Record)) (one : List Record) (following : List (List Record)) → front ++ one ∷ following ≡ [] → ⊥
    nothing_following [] one following same = cc
    nothing_following (x ∷ front) one following same = cc

opens_unchanged : (one : Role) (store : StoreState) → changes_in ((protocol_for one).opening store) ≡ []
opens_unchanged role.Pop store = refl
opens_unchanged role.Smtp store = refl
opens_unchanged role.Imap store = refl

pub begins_without : (one : Role) (oracles : Oracles) (before now : Around)
    → Does ((protocol_for one).spelled oracles) before now (Some fault.Keeper) ((protocol_for one).opening before.desk.store) → ⊥
begins_without one oracles before now does =
    no_change_in ((protocol_for one).opening before.desk.store) does.done.done does.done.left does.done.failing does.done.acts_are (opens_unchanged one before.desk.store)
