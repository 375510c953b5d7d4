-- Which words have which status, and what breaks a command or a session off.
use Rattle.std.proofs.Common.{◌≡◌, ◌⊎◌, ℕ, zero, suc, ◌<◌, ◌≤◌, List, [], length, Option, Some, None, refl, ap, ◌∙◌, inl, inr, arith, length-append}
use Rattle.std.specs.Prelude.{◌==◌}
use Rattle.std.specs.Io.KnownBytes.{Consumes}
use Rattle.address_grammar.specs.declared.Address.{Address}
use Rattle.journal_records.specs.declared.records.Record.{Record}
use Rattle.kept_mail.specs.Kept.{Kept}
use Rattle.mail_store.specs.declared.changing.StoreFault.{StoreFault}
use Rattle.mail_store.specs.declared.opening.OpenFault.{OpenFault}
use Rattle.mail_store.specs.declared.opening.OpenFault.TheVariants as opening
use Rattle.mail_wire.specs.KeeperState.{KeeperState}
use Rattle.mail_wire.specs.Moves.{Gives, GivesPrefix}
use Rattle.mail_wire.specs.WireState.{WireState}
use Rattle.mail_wire.specs.Transcript.{given_of, taken_of}
use Rattle.session_core.specs.Around.{Around}
use Rattle.session_core.specs.Keeps.{Keeps}
use Rattle.session_core.specs.Protocol.{Protocol}
use Rattle.session_core.specs.Served.{met_of}
use Rattle.session_core.specs.Serving.{Instance, OfInstance, ServesBy}
use Rattle.session_core.specs.declared.desk.Limits.{Limits}
use Rattle.session_core.specs.declared.serving.Served.{Served}
use Rattle.session_core.specs.declared.serving.Served.TheVariants as ended_as
use Rattle.session_core.proofs.MeaningLemmas.{oracles_given}
use Rattle.setup_command.specs.AddingRuns.{RunsAdding, Added, Refused, Unopened as NotAdded, Broken as AddingBroken}
use Rattle.setup_command.specs.Running.{BreaksSessionOff, HasStatusCause, IsBrokenOff, IsToldBy}
use Rattle.setup_command.specs.WordForms.{IsAccountByInput, IsAccountCommand, IsDomainCommand}
use Rattle.mail_command.specs.Causes.{HasStatusWords, IsAdding, IsCompleteRun, IsCompleteSession}
use Rattle.mail_command.specs.Passwords.{RunsByInput, OfPassword, OfNone, OfLong, Untaken}
use Rattle.mail_command.specs.RelayRuns.{OutsideState, RunsRelay, Relayed, Unopened as NotRelayed, Broken as RelayBroken, relay_status}
use Rattle.mail_command.specs.Running.{GivesHelp, RefusesWords, RunsStandalone, RunsGen, RunsSession, RunsTask, Told, BrokenOff, Unmade, Ended, Limit, Unopened, Broken}
use Rattle.mail_command.specs.Words.{IsStandalone, IsCheck, IsDowngrade, IsNoCommand, IsRelayCommand, IsSession, OpensJournal, TakesPassword, OfSession, OfAccount, OfDomain, OfRelay}
use Rattle.mail_command.specs.declared.standalone.Standalone.{Standalone}
use Rattle.mail_command.specs.declared.standalone.Standalone.TheVariants as standalone
use Rattle.mail_command.specs.declared.roles.Role.{Role}
use Rattle.mail_command.specs.declared.tasks.Task.{Task}
use Rattle.mail_command.specs.declared.tasks.Task.TheVariants as task
use Rattle.mail_command.proofs.OutcomeLemmas.{outcome_fine}
use Rattle.mail_command.proofs.RelayLemmas.{zero_or_eight}

-- ---- how the commands that open the journal end

-- broken off or done, with a bad journal, or as this command alone ends
abbrev Ends : ℕ → ℕ → Type 0
Ends status own = (status ≤ 3) ⊎ ((status ≡ 5) ⊎ (status ≡ own))

ends_broken : (status own : ℕ) → BreaksSessionOff status → Ends status own
ends_broken status own (inl (inl wire)) = inl (omega (arith, wire))
ends_broken status own (inl (inr memory)) = inl (omega (arith, memory))
ends_broken status own (inr keeper) = inl (omega (arith, keeper))

ends_bad : (own : ℕ) (met : OpenFault) (status : ℕ) (line : List ℕ) → IsToldBy met status line → Ends status own
ends_bad own opening.Keeper status line told = absurd told
ends_bad own (opening.BadJournal at) status line told = inr (inl told.0)
ends_bad own opening.Memory status line told = absurd told

-- so it has no other status
ends_not : (status own at : ℕ) → Ends status own → status ≡ at → 3 < at → (at < 5) ⊎ (5 < at) → (at < own) ⊎ (own < at) → ⊥
ends_not status own at (inl few) is above other (inl below) = omega (arith, few, is, above)
ends_not status own at (inl few) is above other (inr past) = omega (arith, few, is, above)
ends_not status own at (inr (inl bad)) is above (inl low) differs = omega (arith, bad, is, low)
ends_not status own at (inr (inl bad)) is above (inr high) differs = omega (arith, bad, is, high)
ends_not status own at (inr (inr ended)) is above other (inl below) = omega (arith, ended, is, below)
ends_not status own at (inr (inr ended)) is above other (inr past) = omega (arith, ended, is, past)

ends_known : (status own : ℕ) → Ends status own → own ≤ 9 → status ≤ 9
ends_known status own (inl few) bound = omega (arith, few)
ends_known status own (inr (inl bad)) bound = omega (arith, bad)
ends_known status own (inr (inr ended)) bound = omega (arith, ended, bound)

session_ends : (instance : Instance) (limits : Limits) (old new : Option (List ℕ)) (a b : WireState) (status : ℕ) → RunsSession instance limits old new a b status → Ends status 6
session_ends instance limits old new a b status (Ended store after opened opens bound does holds is) = inl (omega (arith, is))
session_ends instance limits old new a b status (Limit store after opened opens bound does holds is) = inr (inr is)
session_ends instance limits old new a b status (Unopened line is gives) = ends_bad 6 is.fault status line is.told
session_ends instance limits old new a b status (Broken broken breaks) = ends_broken status 6 broken

adding_ends : (refusal : Kept → Option StoreFault) (one : Record) (old new : Option (List ℕ)) (a b : WireState) (status : ℕ) → RunsAdding refusal one old new a b status → Ends status 9
adding_ends refusal one old new a b status (Added adds is) = inl (omega (arith, is))
adding_ends refusal one old new a b status (Refused line refuses gives is) = inr (inr is)
adding_ends refusal one old new a b status (NotAdded line is gives) = ends_bad 9 is.fault status line is.told
adding_ends refusal one old new a b status (AddingBroken broken breaks) = ends_broken status 9 broken

relay_told_as : (status told : ℕ) → status ≡ told → (told ≡ 0) ⊎ (told ≡ 8) → Ends status 8
relay_told_as status told is (inl done) = inl (omega (arith, is, done))
relay_told_as status told is (inr left) = inr (inr (is ∙ left))

relay_ends : (limits : Limits) (host : List ℕ) (before now : OutsideState) (status : ℕ) → RunsRelay limits host before now status → Ends status 8
relay_ends limits host before now status (Relayed end sends gives is) = relay_told_as status (relay_status end) is (zero_or_eight (end.left == 0))
relay_ends limits host before now status (NotRelayed line is gives home) = ends_bad 8 is.fault status line is.told
relay_ends limits host before now status (RelayBroken broken breaks) = ends_broken status 8 broken

pub session_words : (protocol : Protocol) (reading : Option ℕ) (words : List (List ℕ)) (role : Role) (limits : Limits) (old new : Option (List ℕ)) (a b : WireState) (status : ℕ) → IsSession words role
    → OfInstance protocol reading (λ instance. RunsSession instance limits old new a b status) → HasStatusWords words status
session_words protocol reading words role limits old new a b status is runs =
    let ends = session_ends _ limits old new a b status (runs.holds oracles_given.0 oracles_given.1 []) in
    record {
      keeper = λ at. inl (OfSession role is);
      refused = λ at. absurd (ends_not status 6 4 ends at (omega arith) (inl (omega arith)) (inl (omega arith)));
      journal = λ at. inl (OfSession role is);
      limit = λ at. (role, is);
      message = λ at. absurd (ends_not status 6 7 ends at (omega arith) (inr (omega arith)) (inr (omega arith)));
      left = λ at. absurd (ends_not status 6 8 ends at (omega arith) (inr (omega arith)) (inr (omega arith)));
      adding = λ at. absurd (ends_not status 6 9 ends at (omega arith) (inr (omega arith)) (inr (omega arith)));
      known = ends_known status 6 ends (omega arith);
    }

adding_words : (words : List (List ℕ)) (status : ℕ) → OpensJournal words → IsAdding words → Ends status 9 → HasStatusWords words status
adding_words words status opens is ends = record {
  keeper = λ at. inl opens;
  refused = λ at. absurd (ends_not status 9 4 ends at (omega arith) (inl (omega arith)) (inl (omega arith)));
  journal = λ at. inl opens;
  limit = λ at. absurd (ends_not status 9 6 ends at (omega arith) (inr (omega arith)) (inl (omega arith)));
  message = λ at. absurd (ends_not status 9 7 ends at (omega arith) (inr (omega arith)) (inl (omega arith)));
  left = λ at. absurd (ends_not status 9 8 ends at (omega arith) (inr (omega arith)) (inl (omega arith)));
  adding = λ at. is;
  known = ends_known status 9 ends (omega arith);
}

pub account_words : (refusal : Kept → Option StoreFault) (one : Record) (words : List (List ℕ)) (address : Address) (password : List ℕ) (old new : Option (List ℕ)) (a b : WireState) (status : ℕ)
    → IsAccountCommand words address password → RunsAdding refusal one old new a b status → HasStatusWords words status
account_words refusal one words address password old new a b status is runs =
    adding_words words status (OfAccount address password is) (inl (address, password, is)) (adding_ends refusal one old new a b status runs)

pub domain_words : (refusal : Kept → Option StoreFault) (one : Record) (words : List (List ℕ)) (name : List ℕ) (old new : Option (List ℕ)) (a b : WireState) (status : ℕ)
    → IsDomainCommand words name → RunsAdding refusal one old new a b status → HasStatusWords words status
domain_words refusal one words name old new a b status is runs =
    adding_words words status (OfDomain name is) (inr (inl (name, is))) (adding_ends refusal one old new a b status runs)

-- the input has no password, or it ends as the adding of an account does
by_input_ends : (refusal : Kept → Option StoreFault) (one : List ℕ → Record) (old new : Option (List ℕ)) (a b : WireState) (status : ℕ) → RunsByInput refusal one old new a b status
    → (status ≡ 4) ⊎ Ends status 9
by_input_ends refusal one old new a b status (OfPassword between password takes is runs) = inr (adding_ends refusal (one password) old new between b status runs)
by_input_ends refusal one old new a b status (OfNone between line takes never (Told gives is) same) = inl is
by_input_ends refusal one old new a b status (OfNone between line takes never (BrokenOff part broken) same) = inr (ends_broken status 9 (inl broken))
by_input_ends refusal one old new a b status (OfLong between takes (Told gives is) same) = inl is
by_input_ends refusal one old new a b status (OfLong between takes (BrokenOff part broken) same) = inr (ends_broken status 9 (inl broken))
by_input_ends refusal one old new a b status (Untaken some broken same) = inr (ends_broken status 9 (inl broken))

input_words : (words : List (List ℕ)) (status : ℕ) → TakesPassword words → (status ≡ 4) ⊎ Ends status 9 → HasStatusWords words status
input_words words status is (inl refused) = record {
  keeper = λ at. inr is;
  refused = λ at. inr is;
  journal = λ at. inr is;
  limit = λ at. absurd (omega (arith, refused, at));
  message = λ at. absurd (omega (arith, refused, at));
  left = λ at. absurd (omega (arith, refused, at));
  adding = λ at. inr (inr is);
  known = omega (arith, refused);
}
input_words words status is (inr ends) = record {
  keeper = λ at. inr is;
  refused = λ at. inr is;
  journal = λ at. inr is;
  limit = λ at. absurd (ends_not status 9 6 ends at (omega arith) (inr (omega arith)) (inl (omega arith)));
  message = λ at. absurd (ends_not status 9 7 ends at (omega arith) (inr (omega arith)) (inl (omega arith)));
  left = λ at. absurd (ends_not status 9 8 ends at (omega arith) (inr (omega arith)) (inl (omega arith)));
  adding = λ at. inr (inr is);
  known = ends_known status 9 ends (omega arith);
}

pub by_input_words : (refusal : Kept → Option StoreFault) (one : List ℕ → Record) (words : List (List ℕ)) (address : Address) (old new : Option (List ℕ)) (a b : WireState) (status : ℕ)
    → IsAccountByInput words address → RunsByInput refusal one old new a b status → HasStatusWords words status
by_input_words refusal one words address old new a b status is runs = input_words words status (address, is) (by_input_ends refusal one old new a b status runs)

pub relay_words : (words : List (List ℕ)) (limits : Limits) (host : List ℕ) (before now : OutsideState) (status : ℕ) → IsRelayCommand words host → RunsRelay limits host before now status
    → HasStatusWords words status
relay_words words limits host before now status is runs =
    let ends = relay_ends limits host before now status runs in
    record {
      keeper = λ at. inl (OfRelay host is);
      refused = λ at. absurd (ends_not status 8 4 ends at (omega arith) (inl (omega arith)) (inl (omega arith)));
      journal = λ at. inl (OfRelay host is);
      limit = λ at. absurd (ends_not status 8 6 ends at (omega arith) (inr (omega arith)) (inl (omega arith)));
      message = λ at. absurd (ends_not status 8 7 ends at (omega arith) (inr (omega arith)) (inl (omega arith)));
      left = λ at. (host, is);
      adding = λ at. absurd (ends_not status 8 9 ends at (omega arith) (inr (omega arith)) (inr (omega arith)));
      known = ends_known status 8 ends (omega arith);
    }

-- ---- how the others end

-- done, broken off, or as this command alone ends
abbrev EndsStandalone : ℕ → ℕ → Type 0
EndsStandalone status own = (status ≡ 0) ⊎ (IsBrokenOff status ⊎ (status ≡ own))

standalone_not : (status own at : ℕ) → EndsStandalone status own → status ≡ at → (at ≡ 2) ⊎ (3 < at) → (at < own) ⊎ (own < at) → ⊥
standalone_not status own at (inl done) is (inl two) differs = omega (arith, done, is, two)
standalone_not status own at (inl done) is (inr above) differs = omega (arith, done, is, above)
standalone_not status own at (inr (inl (inl wire))) is (inl two) differs = omega (arith, wire, is, two)
standalone_not status own at (inr (inl (inl wire))) is (inr above) differs = omega (arith, wire, is, above)
standalone_not status own at (inr (inl (inr memory))) is (inl two) differs = omega (arith, memory, is, two)
standalone_not status own at (inr (inl (inr memory))) is (inr above) differs = omega (arith, memory, is, above)
standalone_not status own at (inr (inr ended)) is other (inl below) = omega (arith, ended, is, below)
standalone_not status own at (inr (inr ended)) is other (inr past) = omega (arith, ended, is, past)

standalone_known : (status own : ℕ) → EndsStandalone status own → own ≤ 9 → status ≤ 9
standalone_known status own (inl done) bound = omega (arith, done)
standalone_known status own (inr (inl (inl wire))) bound = omega (arith, wire)
standalone_known status own (inr (inl (inr memory))) bound = omega (arith, memory)
standalone_known status own (inr (inr ended)) bound = omega (arith, ended, bound)

gen_ends : (number : ℕ) (a b : WireState) (status : ℕ) → RunsGen number a b status → EndsStandalone status 0
gen_ends number a b status (Told totals are gives is) = inl is
gen_ends number a b status (BrokenOff totals are part broken) = inr (inl broken)
gen_ends number a b status (Unmade none broken) = inr (inl broken)

help_by : (a b : WireState) (status : ℕ) (text : List ℕ) → (Gives a b text × (status ≡ 0)) ⊎ (GivesPrefix a b text × IsBrokenOff status) → EndsStandalone status 0
help_by a b status text (inl all) = inl all.1
help_by a b status text (inr part) = inr (inl part.1)

help_ends : (a b : WireState) (status : ℕ) → GivesHelp a b status → EndsStandalone status 0
help_ends a b status gives = help_by a b status gives.0 gives.1

refused_ends : (a b : WireState) (status : ℕ) → RefusesWords a b status → EndsStandalone status 4
refused_ends a b status (Told gives is) = inr (inr is)
refused_ends a b status (BrokenOff part broken) = inr (inl broken)

-- a number is 0, 1, 3 or another one
broken_or : (status : ℕ) → (status ≡ 0) ⊎ (IsBrokenOff status ⊎ ¬ IsBrokenOff status)
broken_or zero = inl refl
broken_or (suc zero) = inr (inl (inl refl))
broken_or (suc (suc zero)) = inr (inr (λ broken. not_two broken))
  where
    not_two : IsBrokenOff 2 → ⊥
    not_two (inl wire) = omega (arith, wire)
    not_two (inr memory) = omega (arith, memory)
broken_or (suc (suc (suc zero))) = inr (inl (inr refl))
broken_or (suc (suc (suc (suc n)))) = inr (inr (λ broken. not_more broken))
  where
    not_more : IsBrokenOff (suc (suc (suc (suc n)))) → ⊥
    not_more (inl wire) = omega (arith, wire)
    not_more (inr memory) = omega (arith, memory)

task_ended : (status : ℕ) → (status ≡ 7) ⊎ (status ≡ 0) → EndsStandalone status 7
task_ended status (inl refused) = inr (inr refused)
task_ended status (inr done) = inl done

task_by : (one : Task) (a b : WireState) (status : ℕ) → RunsTask one a b status → (status ≡ 0) ⊎ (IsBrokenOff status ⊎ ¬ IsBrokenOff status) → EndsStandalone status 7
task_by one a b status runs (inl done) = inl done
task_by one a b status runs (inr (inl broken)) = inr (inl broken)
task_by one a b status runs (inr (inr fine)) =
    let answers = runs.answers fine in
    task_ended status (outcome_fine one (taken_of answers.entries) status (given_of answers.entries) answers.outcome)

task_words : (one : Task) (words : List (List ℕ)) (a b : WireState) (status : ℕ) → IsDowngrade words ⊎ IsCheck words → RunsTask one a b status → HasStatusWords words status
task_words one words a b status is runs =
    let ends = task_by one a b status runs (broken_or status) in
    record {
      keeper = λ at. absurd (standalone_not status 7 2 ends at (inl refl) (inl (omega arith)));
      refused = λ at. absurd (standalone_not status 7 4 ends at (inr (omega arith)) (inl (omega arith)));
      journal = λ at. absurd (standalone_not status 7 5 ends at (inr (omega arith)) (inl (omega arith)));
      limit = λ at. absurd (standalone_not status 7 6 ends at (inr (omega arith)) (inl (omega arith)));
      message = λ at. is;
      left = λ at. absurd (standalone_not status 7 8 ends at (inr (omega arith)) (inr (omega arith)));
      adding = λ at. absurd (standalone_not status 7 9 ends at (inr (omega arith)) (inr (omega arith)));
      known = standalone_known status 7 ends (omega arith);
    }

-- a command that is done or broken off
plain_words : (words : List (List ℕ)) (status : ℕ) → EndsStandalone status 0 → HasStatusWords words status
plain_words words status ends = record {
  keeper = λ at. absurd (standalone_not status 0 2 ends at (inl refl) (inr (omega arith)));
  refused = λ at. absurd (standalone_not status 0 4 ends at (inr (omega arith)) (inr (omega arith)));
  journal = λ at. absurd (standalone_not status 0 5 ends at (inr (omega arith)) (inr (omega arith)));
  limit = λ at. absurd (standalone_not status 0 6 ends at (inr (omega arith)) (inr (omega arith)));
  message = λ at. absurd (standalone_not status 0 7 ends at (inr (omega arith)) (inr (omega arith)));
  left = λ at. absurd (standalone_not status 0 8 ends at (inr (omega arith)) (inr (omega arith)));
  adding = λ at. absurd (standalone_not status 0 9 ends at (inr (omega arith)) (inr (omega arith)));
  known = standalone_known status 0 ends (omega arith);
}

pub standalone_words : (words : List (List ℕ)) (one : Standalone) (a b : WireState) (status : ℕ) → IsStandalone words one → RunsStandalone one a b status → HasStatusWords words status
standalone_words words (standalone.Message task.Downgrade) a b status is runs = task_words task.Downgrade words a b status (inl is) runs
standalone_words words (standalone.Message task.Check) a b status is runs = task_words task.Check words a b status (inr is) runs
standalone_words words (standalone.Gen number) a b status is runs = plain_words words status (gen_ends number a b status runs)
standalone_words words standalone.Help a b status is runs = plain_words words status (help_ends a b status runs)

pub no_words : (words : List (List ℕ)) (a b : WireState) (status : ℕ) → IsNoCommand words → RefusesWords a b status → HasStatusWords words status
no_words words a b status is runs =
    let ends = refused_ends a b status runs in
    record {
      keeper = λ at. absurd (standalone_not status 4 2 ends at (inl refl) (inl (omega arith)));
      refused = λ at. inl is;
      journal = λ at. absurd (standalone_not status 4 5 ends at (inr (omega arith)) (inr (omega arith)));
      limit = λ at. absurd (standalone_not status 4 6 ends at (inr (omega arith)) (inr (omega arith)));
      message = λ at. absurd (standalone_not status 4 7 ends at (inr (omega arith)) (inr (omega arith)));
      left = λ at. absurd (standalone_not status 4 8 ends at (inr (omega arith)) (inr (omega arith)));
      adding = λ at. absurd (standalone_not status 4 9 ends at (inr (omega arith)) (inr (omega arith)));
      known = standalone_known status 4 ends (omega arith);
    }

-- memory was wanting for the words
pub unread_words : (words : List (List ℕ)) → HasStatusWords words 3
unread_words words = plain_words words 3 (inr (inl (inr refl)))

-- ---- nothing else breaks them off

complete_by : (a b : WireState) (keeper kept : KeeperState) (status : ℕ) → HasStatusCause a b keeper kept status → ¬ (status ≡ 1) → ¬ (status ≡ 2) → BreaksSessionOff status → status ≡ 3
complete_by a b keeper kept status cause wire held (inl (inl failed)) = absurd (wire failed)
complete_by a b keeper kept status cause wire held (inl (inr memory)) = memory
complete_by a b keeper kept status cause wire held (inr failed) = absurd (held failed)

pub complete_run : (a b : WireState) (keeper kept : KeeperState) (status : ℕ) → HasStatusCause a b keeper kept status → IsCompleteRun a b keeper kept status
complete_run a b keeper kept status cause =
    λ wire held broken. complete_by a b keeper kept status cause (λ failed. wire (cause.wire_rose failed)) (λ failed. held (cause.keeper_rose failed)) broken

-- no more was taken than was left
few_taken : (l m : Option (List ℕ)) (octets taken : List ℕ) → l ≡ Some octets → Consumes l m taken → length taken ≤ length octets
few_taken None m octets taken is consumes = let bad : ⊥ = cc in absurd bad
few_taken (Some l) None octets taken is consumes = absurd consumes
few_taken (Some l) (Some m) octets taken is consumes =
    let same : l ≡ octets = cc in
    omega (arith, ap length same, ap length consumes, length-append taken m)

pub complete_session : (protocol : Protocol) (before now : Around) (served : Served) → ServesBy protocol before now served → Keeps before now (met_of served) → IsCompleteSession before now served
complete_session protocol before now ended_as.Ended serves keeps = λ wire held octets left few. inl refl
complete_session protocol before now ended_as.Memory serves keeps = λ wire held octets left few. inr refl
complete_session protocol before now ended_as.WireFault serves keeps = λ wire held octets left few. absurd (wire (keeps.wire.rose refl))
complete_session protocol before now ended_as.KeeperFault serves keeps = λ wire held octets left few. absurd (held (keeps.keeper.rose refl))
complete_session protocol before now ended_as.Limit serves keeps = λ wire held octets left few.
    let up_to = (serves.holds oracles_given.0 oracles_given.1 []).serves.limit refl in
    let taken = few_taken before.wire.left now.wire.left octets (taken_of up_to.entries) left up_to.moves.left in
    absurd (omega (arith, few, taken, up_to.full))
