-- Steps of commands, as they are carried out.
use Rattle.std.proofs.Common.{◌≡◌, ℕ, List, [], ◌∷◌, ◌++◌, Option, Some, None, refl, sym, ap, ◌∙◌, subst}
use Rattle.std.specs.Prelude.{Result, Ok, Err, IfOk, Bool, true, false, is_some, not}
use Rattle.std.specs.List.{flat_map}
use Rattle.std.proofs.lemmas.List.{map-append}
use Rattle.std.proofs.lemmas.List.Concat.{flat_map-append}
use Rattle.std.proofs.lemmas.List.Elements.{All-from_recursion, All-nil}
use Rattle.mail_wire.specs.declared.outside.Fault.{Fault}
use Rattle.mail_wire.specs.declared.outside.Fault.TheVariants as fault
use Rattle.session_core.specs.Acts.{gives}
use Rattle.session_core.specs.Around.{Around}
use Rattle.session_core.specs.Doing.{Does, Replies}
use Rattle.session_core.specs.Keeps.{fault_of}
use Rattle.session_core.specs.Oracles.{Oracles, WithOracles}
use Rattle.session_core.specs.Moments.{IsTold, Moment}
use Rattle.session_core.specs.declared.desk.Desk.{Desk}
use Rattle.session_core.proofs.DoingLemmas.{Does-replies, DoesFirst-none}
use Rattle.session_core.proofs.MomentLemmas.{moment_date}
use Rattle.imap_session.specs.Machine.{State, Step, answers, date_or, says, tagged}
use Rattle.imap_session.specs.laws.CommandLaws.{is_date_true}
use Rattle.imap_session.specs.Replies.{ReplyPart, part_octets, reply_octets}
use Rattle.imap_session.specs.Session.{KnowsNext, KnowsState, TakesStep, TakesStepAt, date_at, moments_after, state_of, state_or_ended}
use Rattle.imap_session.specs.declared.states.ImapState.{ImapState}
use Rattle.imap_session.specs.private.Appending.{IsDateFrom}
use Rattle.imap_session.specs.private.Lines.{tagged_octets}
use Rattle.imap_session.proofs.LineLemmas.{tagged_reply}

-- ---- what is given

-- parts, and then the line that ends the replies
pub answers_given : (oracles : Oracles) (a b : Around) (met : Option Fault) (tag words : List ℕ) (parts : List ReplyPart) (state : State) (lines : List ℕ) → lines ≡ reply_octets oracles parts
    → Replies a b met (lines ++ tagged_octets tag words) → Does (part_octets oracles) a b met (answers tag words parts state).acts
answers_given oracles a b met tag words parts state lines are replies =
    let spelled = part_octets oracles in
    let last = tagged tag words ∷ [] in
    let whole : lines ++ tagged_octets tag words ≡ flat_map spelled (parts ++ last) =
    ap (λ z. z ++ tagged_octets tag words) are ∙ (ap (λ z. reply_octets oracles parts ++ z) (sym (tagged_reply oracles tag words)) ∙ sym (flat_map-append spelled parts last)) in
    subst (λ acts. Does spelled a b met acts) (map-append gives parts last) (Does-replies spelled a b met (parts ++ last) (subst (λ octets. Replies a b met octets) whole replies))

-- that line alone
pub says_given : (oracles : Oracles) (a b : Around) (met : Option Fault) (tag words : List ℕ) (state : State) → Replies a b met (tagged_octets tag words)
    → Does (part_octets oracles) a b met (says tag words state).acts
says_given oracles a b met tag words state replies = answers_given oracles a b met tag words [] state [] refl replies

-- nothing yet, for want of memory
pub nothing_given : (oracles : Oracles) (a : Around) (step : Step) → Does (part_octets oracles) a a (Some fault.Memory) step.acts
nothing_given oracles a step = DoesFirst-none (part_octets oracles) a fault.Memory step.acts (λ bad. cc)

-- ---- steps

-- the step was carried out
pub Takes-next : (a b : Around) (next : Option ImapState) (taken : Oracles → Step) → WithOracles (λ oracles. Does (part_octets oracles) a b None (taken oracles).acts)
    → WithOracles (λ oracles. state_or_ended next ≡ (taken oracles).state) → KnowsNext b.desk.store next → TakesStep a b (Ok next) taken
Takes-next a b next taken does next_is known = record { does = does; next = next_is; known = known }

-- a fault broke it off
pub Takes-fault : (a b : Around) (met : Fault) (taken : Oracles → Step) → WithOracles (λ oracles. Does (part_octets oracles) a b (Some met) (taken oracles).acts) → TakesStep a b (Err met) taken
Takes-fault a b met taken does = record { does = does; next = λ oracles are. tt; known = tt }

-- want of memory came before all
pub Takes-none : (a : Around) (taken : Oracles → Step) → TakesStep a a (Err fault.Memory) taken
Takes-none a taken = Takes-fault a a fault.Memory taken (λ oracles are. nothing_given oracles a (taken oracles))

-- the same step, said otherwise
pub Takes-same : (a b : Around) (result : Result (Option ImapState) Fault) (taken other : Oracles → Step) → WithOracles (λ oracles. taken oracles ≡ other oracles) → TakesStep a b result taken
    → TakesStep a b result other
Takes-same a b result taken other same takes = record {
  does = λ oracles are. subst (λ (step : Step). Does (part_octets oracles) a b (fault_of result) step.acts) (same oracles are) (takes.does oracles are);
  next = λ oracles are. subst (λ (step : Step). IfOk result (λ next. state_or_ended next ≡ step.state)) (same oracles are) (takes.next oracles are);
  known = takes.known;
}

-- the line that ends the replies was given, and this session is left
pub Takes-said : (a b : Around) (tag words : List ℕ) (state : State) (session : ImapState) → Replies a b None (tagged_octets tag words) → state_of session ≡ state → KnowsState a.desk.store session
    → TakesStep a b (Ok (Some session)) (λ oracles. says tag words state)
Takes-said a b tag words state session replies is known =
    Takes-next a b (Some session) (λ oracles. says tag words state) (λ oracles are. says_given oracles a b None tag words state replies) (λ oracles are. is)
    (subst (λ (desk : Desk). KnowsState desk.store session) (sym replies.leaves.desk) known)

-- or a fault broke that off
pub Takes-unsaid : (a b : Around) (met : Fault) (tag words : List ℕ) (state : State) → Replies a b (Some met) (tagged_octets tag words) → TakesStep a b (Err met) (λ oracles. says tag words state)
Takes-unsaid a b met tag words state replies = Takes-fault a b met (λ oracles. says tag words state) (λ oracles are. says_given oracles a b (Some met) tag words state replies)

-- ---- steps at a moment

whatever : (result : Result (Option ImapState) Fault) (P : Type 0) → P → IfOk result (λ next. P)
whatever (Ok next) P holds = holds
whatever (Err met) P holds = tt

-- a step that takes none
pub TakesAt-plain : (a b : Around) (result : Result (Option ImapState) Fault) (takes : Bool) (taken : Oracles → (date : List ℕ) → Step) → takes ≡ false
    → ((date : List ℕ) → TakesStep a b result (λ oracles. taken oracles date)) → TakesStepAt a b result takes taken
TakesAt-plain a b result takes taken none steps = record {
  told = [];
  are_told = All-nil (IsTold a.clock);
  count = whatever result ((more : List Moment) → moments_after takes more ≡ more) (λ more. rw none refl);
  steps = λ more. steps (date_at more);
}

-- want of memory came before the clock was read
pub TakesAt-none : (a : Around) (takes : Bool) (taken : Oracles → (date : List ℕ) → Step) → TakesStepAt a a (Err fault.Memory) takes taken
TakesAt-none a takes taken = record { told = []; are_told = All-nil (IsTold a.clock); count = tt; steps = λ more. Takes-none a (λ oracles. taken oracles (date_at more)) }

-- the date at a moment that was told
told_date : (reading : Option ℕ) (moment : Moment) (more : List Moment) → IsTold reading moment → date_at (moment ∷ more) ≡ moment.internal
told_date reading moment more told = rw (is_date_true moment.internal (moment_date told.seconds moment.internal told.is.internal)) refl

-- a step with the date that is given, or else with that of a moment
pub TakesAt-dated : (a b : Around) (result : Result (Option ImapState) Fault) (given : Option (List ℕ)) (date : List ℕ) (taken : Oracles → (now date : List ℕ) → Step) → IsDateFrom a.clock given date
    → ((now : List ℕ) → TakesStep a b result (λ oracles. taken oracles now date)) → TakesStepAt a b result (not (is_some given)) (λ oracles now. taken oracles now (date_or now given))
TakesAt-dated a b result (Some given) date taken from takes = record {
  told = [];
  are_told = All-nil (IsTold a.clock);
  count = whatever result ((more : List Moment) → moments_after false more ≡ more) (λ more. refl);
  steps = λ more. subst (λ d. TakesStep a b result (λ oracles. taken oracles (date_at more) d)) from (takes (date_at more));
}
TakesAt-dated a b result None date taken from takes =
    let moment = from.0 in
    let told : IsTold a.clock moment = from.1 in
    record {
      told = moment ∷ [];
      are_told = All-from_recursion (IsTold a.clock) (moment ∷ []) (told, tt);
      count = whatever result ((more : List Moment) → moments_after true (moment ∷ more) ≡ more) (λ more. refl);
      steps = λ more.
          let now = date_at (moment ∷ more) in
          subst (λ d. TakesStep a b result (λ oracles. taken oracles now d)) (from.2 ∙ sym (told_date a.clock moment more told)) (takes now);
    }

-- the same step, said otherwise
pub TakesAt-same : (a b : Around) (result : Result (Option ImapState) Fault) (takes : Bool) (taken other : Oracles → (date : List ℕ) → Step)
    → WithOracles (λ oracles. (date : List ℕ) → taken oracles date ≡ other oracles date) → TakesStepAt a b result takes taken → TakesStepAt a b result takes other
TakesAt-same a b result takes taken other same at = record {
  told = at.told;
  are_told = at.are_told;
  count = at.count;
  steps = λ more. Takes-same a b result (λ oracles. taken oracles (date_at (at.told ++ more))) (λ oracles. other oracles (date_at (at.told ++ more)))
      (λ oracles are. same oracles are (date_at (at.told ++ more))) (at.steps more);
}
