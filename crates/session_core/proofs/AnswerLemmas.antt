-- How an answer of a protocol is shown to be its row.
use Rattle.std.proofs.Common.{◌≡◌, ℕ, List, [], Result, Err, Option}
use Rattle.std.specs.Prelude.{IfOk}
use Rattle.std.specs.List.{flat_map}
use Rattle.std.proofs.lemmas.List.Elements.{All-nil}
use Rattle.mail_wire.specs.declared.outside.Fault.{Fault}
use Rattle.mail_wire.specs.declared.outside.Fault.TheVariants as fault
use Rattle.session_core.specs.Acts.{acts_of}
use Rattle.session_core.specs.Around.{Around}
use Rattle.session_core.specs.Doing.{Replies}
use Rattle.session_core.specs.Grammar.{Grammar, Answers, StandingRows, StandsNext}
use Rattle.session_core.specs.Keeps.{fault_of}
use Rattle.session_core.specs.Oracles.{Oracles, WithOracles}
use Rattle.session_core.specs.Moments.{Moment, IsTold}
use Rattle.session_core.proofs.DoingLemmas.{Does-replies, DoesFirst-none}

-- nothing of it was done
pub Answers-stop : (grammar : Grammar) {R : Type 0} (stands : StandingRows grammar R) (a : Around) (rows : R) (unit : List ℕ) (met : Fault) → (met ≡ fault.Keeper → ⊥) → Answers grammar stands a a rows unit (Err met)
Answers-stop grammar stands a rows unit met fine = record {
  told = [];
  are_told = All-nil (IsTold a.clock);
  answers = λ oracles are more state stood. record { does = DoesFirst-none (grammar.spelled oracles) a met (grammar.row oracles state unit).acts fine; next = tt };
}

-- a reply, given or broken off, whatever functions tell its octets
pub Answers-reply : (grammar : Grammar) {R : Type 0} (stands : StandingRows grammar R) (a b : Around) (rows : R) (unit : List ℕ) (result : Result (Option R) Fault) (reply : Oracles → List grammar.P)
    (after : Oracles → List Moment → grammar.S) (octets : List ℕ)
    → WithOracles (λ oracles. (more : List Moment) (state : grammar.S) → stands more rows a.desk state → grammar.row oracles state unit ≡ record { acts = acts_of [] (reply oracles); after = after oracles more })
    → WithOracles (λ oracles. flat_map (grammar.spelled oracles) (reply oracles) ≡ octets) → Replies a b (fault_of result) octets
    → WithOracles (λ oracles. (more : List Moment) → IfOk result (λ next. StandsNext grammar stands more next b.desk (after oracles more))) → Answers grammar stands a b rows unit result
Answers-reply grammar stands a b rows unit result reply after octets has spelled replies next = record {
  told = [];
  are_told = All-nil (IsTold a.clock);
  answers = λ oracles are more state stood. rw (has oracles are more state stood) (record {
    does = Does-replies (grammar.spelled oracles) a b (fault_of result) (reply oracles) (rw (spelled oracles are) replies);
    next = next oracles are more;
  });
}
