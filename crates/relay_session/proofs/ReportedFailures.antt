-- A failure of an entry's recipients can be reported.
use Rattle.std.proofs.Common.{◌≡◌, ◌≢◌, inl, inr, ℕ, ◌<◌, List, [], ◌∷◌, length, min, drop, codes, Option, None, Some, IfSome, All, arith, refl, sym, subst}
use Rattle.std.proofs.lemmas.Bool.{cases_lt}
use Rattle.std.proofs.lemmas.List.{drop_all}
use Rattle.std.proofs.lemmas.List.Elements.{All-append, All-cons, All-head, All-nil, All-tail}
use Rattle.mail_wire.specs.declared.clock.TheConstants.{CLOCK_END}
use Rattle.ace_domains.specs.Domains.{HasInnerHyphens, HasLabelLength, IsHostName}
use Rattle.ace_domains.proofs.HostNameLemmas.{host_name_own}
use Rattle.address_grammar.specs.declared.Address.{Address}
use Rattle.address_grammar.specs.Paths.{ComesInPath}
use Rattle.mail_store.specs.declared.queue.Unsettled.{Unsettled}
use Rattle.relay_choice.specs.declared.mail_objects.Outcome.{Outcome}
use Rattle.relay_choice.specs.declared.mail_objects.Outcome.TheVariants as outcome
use Rattle.session_core.specs.Desks.{IsStoreName}
use Rattle.utf8_reports.specs.Destinations.{IsReporter}
use Rattle.utf8_reports.specs.Recipients.{IsFailed, IsReplyCode}
use Rattle.utf8_reports.specs.Reports.{IsFailure}
use Rattle.utf8_reports.specs.declared.failure.FailedRecipient.{FailedRecipient}
use Rattle.relay_session.specs.Reporting.{failed_by, failed_of}
use Rattle.relay_choice.specs.Settling.{IsFitOutcome}
use Rattle.relay_session.proofs.StatusCodes.{status_code}

-- ---- the name of the server

inner_hyphens : HasInnerHyphens (codes "localhost")
inner_hyphens = record { first = λ is. absurd (omega (arith, is)); last = λ is. absurd (omega (arith, is)); unreserved = λ is. absurd (omega (arith, is)) }

local_name : IsHostName (codes "localhost")
local_name = record {
  name_of_dns = record {
    octets = refl;
    labels = All-cons HasLabelLength (codes "localhost") [] (record { some = omega arith; short = omega arith }) (All-nil HasLabelLength);
    short = omega arith;
  };
  hyphens = All-cons HasInnerHyphens (codes "localhost") [] inner_hyphens (All-nil HasInnerHyphens);
}

pub reporter : (name : List ℕ) → IsStoreName name → IsReporter name
reporter name (inl is) = is
reporter name (inr local) = subst IsReporter (sym local) (host_name_own (codes "localhost") local_name)

-- ---- the recipients who failed

code_fits : (detail : ℕ) (code : Option ℕ) → IsFitOutcome (outcome.Refused detail code) → IfSome code IsReplyCode
code_fits detail None fit = tt
code_fits detail (Some code) fit = record { least = fit.0; most = fit.1 }

failed_fits : (address : Address) (one : Outcome) → ComesInPath address → IsFitOutcome one → All IsFailed (failed_by address one)
failed_fits address outcome.Sent comes fit = All-nil IsFailed
failed_fits address (outcome.Refused detail code) comes fit =
    All-cons IsFailed _ [] (record { address = comes; status = status_code detail; code = code_fits detail code fit }) (All-nil IsFailed)

pub failed_are : (unsettled : List Unsettled) (outcomes : List Outcome) → All (λ (one : Unsettled). ComesInPath one.address) unsettled → All IsFitOutcome outcomes
    → All IsFailed (failed_of unsettled outcomes)
failed_are [] outcomes come fit = All-nil IsFailed
failed_are (one ∷ others) [] come fit = All-nil IsFailed
failed_are (one ∷ others) (first ∷ outcomes) come fit =
    All-append IsFailed (failed_by one.address first) (failed_of others outcomes)
    (failed_fits one.address first (All-head (λ (u : Unsettled). ComesInPath u.address) one others come) (All-head IsFitOutcome first outcomes fit))
    (failed_are others outcomes (All-tail (λ (u : Unsettled). ComesInPath u.address) one others come) (All-tail IsFitOutcome first outcomes fit))

some_failed : (failed : List FailedRecipient) → failed ≢ [] → 0 < length failed
some_failed [] some = absurd (some refl)
some_failed (one ∷ others) some = omega arith

pub failure_is : (path : Address) (name : List ℕ) (failed : List FailedRecipient) (seconds : ℕ) → ComesInPath path → IsStoreName name → failed ≢ [] → All IsFailed failed → seconds < CLOCK_END
    → IsFailure (record { path = path; name = name; failed = failed; seconds = seconds })
failure_is path name failed seconds comes named some are early =
    record { path = comes; name = reporter name named; some = some_failed failed some; failed = are; seconds = early }

-- ---- the end of recipients or outcomes

without_outcomes : (unsettled : List Unsettled) → failed_of unsettled [] ≡ []
without_outcomes [] = refl
without_outcomes (one ∷ others) = refl

-- either list has come to its end
pub failed_end : (at : ℕ) (unsettled : List Unsettled) (outcomes : List Outcome) → at ≡ min (length unsettled) (length outcomes) → failed_of (drop at unsettled) (drop at outcomes) ≡ []
failed_end at unsettled outcomes is = elim (cases_lt at (length unsettled)) [
  | inl inside ↦ rw (drop_all at outcomes (omega arith)) (without_outcomes (drop at unsettled))
  | inr past ↦ rw (drop_all at unsettled past) refl
]
