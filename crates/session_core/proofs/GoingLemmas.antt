-- What a session has done so far of a piece, whatever its machine.
use Rattle.std.proofs.Common.{◌≡◌, ◌==◌, ℕ, Bool, true, length, arith, List, [], ◌∷◌, ◌++◌, drop, Ok, Err, Some, None, Option, refl, ap, ◌∙◌, append-nil, append_assoc}
use Rattle.std.specs.List.{All}
use Rattle.std.proofs.lemmas.Bool.Decides.{nat_tests}
use Rattle.std.proofs.lemmas.List.Elements.{All-append, All-nil}
use Rattle.session_core.specs.Turns.{Turn, stay, following, all_turns}
use Rattle.mail_wire.specs.declared.outside.Fault.{Fault}
use Rattle.session_core.proofs.TurnsLemmas.{all_turns-stop, following-following}
use Rattle.session_core.specs.Acts.{Act}
use Rattle.session_core.specs.Around.{Around}
use Rattle.session_core.specs.Doing.{DoesAll}
use Rattle.session_core.specs.Oracles.{Oracles, AreOracles, WithOracles}
use Rattle.session_core.specs.Moments.{Moment, IsTold}
use Rattle.session_core.specs.Protocol.{Protocol}
use Rattle.session_core.specs.Sessions.{Feeds}
use Rattle.session_core.specs.Steps.{Standing, Steps}
use Rattle.session_core.specs.declared.desk.Desk.{Desk}
use Rattle.session_core.specs.declared.feeding.Reading.{Reading}
use Rattle.session_core.specs.declared.feeding.Session.TheVariants as session
use Rattle.session_core.specs.declared.machine.Advance.{Advance}
use Rattle.session_core.proofs.DoingLemmas.{DoesAll-nil, DoesAll-then, DoesFirst-between}

-- ---- the laws of a machine

-- what a machine is ready for brings no turn by itself
abbrev pub Waits : (protocol : Protocol) {M : Type 0} → Standing protocol M → (M → List ℕ → Desk → Type 0) → Type 0
Waits protocol {M} stands is_ready = (oracles : Oracles) → AreOracles oracles → (more : List Moment) (machine : M) (kept : List ℕ) (desk : Desk) (state : protocol.S) (rest : List ℕ)
    → is_ready machine kept desk → stands more machine kept desk state rest → protocol.next oracles state rest ≡ None

-- after the end nothing brings a turn
abbrev pub Quiet : Protocol → Type 0
Quiet protocol = (oracles : Oracles) (state : protocol.S) (rest : List ℕ) → protocol.HasEnded state → protocol.next oracles state rest ≡ None

-- ---- so far

-- Acts were done, and what is left of the piece brings the other turns.
pub record SoFar (protocol : Protocol) {M : Type 0} (stands : Standing protocol M) (oracles : Oracles) (a b : Around) (turns : Turn protocol.S (Act protocol.P)) (machine : M) (more : List Moment) (kept left : List ℕ) : Type 0 where
  pub state : protocol.S
  pub rest : List ℕ
  pub has : stands more machine kept b.desk state rest
  pub acts : List (Act protocol.P)
  pub does : DoesAll (protocol.spelled oracles) a b acts
  pub turns_are : turns ≡ following acts (all_turns (protocol.next oracles) state (rest ++ left))

-- The same of whatever stood at the beginning, and of the moments to come.
pub record Going (protocol : Protocol) {M : Type 0} (stands : Standing protocol M) (a b : Around) (first : M) (had piece : List ℕ) (machine : M) (kept left : List ℕ) : Type 0 where
  pub told : List Moment
  pub are_told : All (IsTold a.clock) told
  pub so_far : WithOracles (λ oracles. (more : List Moment) (state : protocol.S) (rest : List ℕ) → stands (told ++ more) first had a.desk state rest
      → SoFar protocol stands oracles a b (all_turns (protocol.next oracles) state (rest ++ piece)) machine more kept left)

pub Going-start : (protocol : Protocol) {M : Type 0} (stands : Standing protocol M) (a : Around) (machine : M) (kept piece : List ℕ) → Going protocol stands a a machine kept piece machine kept piece
Going-start protocol stands a machine kept piece = record {
  told = [];
  are_told = All-nil (IsTold a.clock);
  so_far = λ oracles are more state rest has. record { state = state; rest = rest; has = has; acts = []; does = DoesAll-nil (protocol.spelled oracles) a; turns_are = refl };
}

pub told_then : (reading also : Option ℕ) (first second : List Moment) → also ≡ reading → All (IsTold reading) first → All (IsTold also) second → All (IsTold reading) (first ++ second)
told_then reading also first second same one two = All-append (IsTold reading) first second one (rw same at two)

-- one more step
pub Going-more : (protocol : Protocol) {M : Type 0} (stands : Standing protocol M) (a b c : Around) (first : M) (had piece : List ℕ) (machine next : M) (kept keeps left : List ℕ) (advance : Advance M)
    → b.clock ≡ a.clock → Going protocol stands a b first had piece machine kept left → Steps protocol stands b c machine kept keeps left (Ok advance) → advance.next ≡ Some next
    → Going protocol stands a c first had piece next keeps (drop advance.used left)
Going-more protocol stands a b c first had piece machine next kept keeps left advance clock going steps next_is = record {
  told = going.told ++ steps.told;
  are_told = told_then a.clock b.clock going.told steps.told clock going.are_told steps.are_told;
  so_far = λ oracles are more state rest has.
      let so = going.so_far oracles are (steps.told ++ more) state rest (rw (append_assoc going.told steps.told more) at has) in
      let by = steps.steps oracles are more so.state so.rest so.has in
      record {
        state = by.stays.state;
        rest = by.stays.rest;
        has = rw next_is at by.stays.has;
        acts = so.acts ++ by.acts;
        does = DoesAll-then (protocol.spelled oracles) a b c so.acts by.acts so.does by.does;
        turns_are = so.turns_are ∙ ap (following so.acts) (by.turns_are ∙ ap (following by.acts) by.stays.turn_is) ∙ following-following so.acts by.acts _;
      };
}

-- a step that ends the session
pub Going-ends : (protocol : Protocol) {M : Type 0} (stands : Standing protocol M) → Quiet protocol → (a b c : Around) (first : Reading M) (piece : List ℕ) (machine : M) (kept keeps left : List ℕ) (advance : Advance M)
    → b.clock ≡ a.clock → Going protocol stands a b first.machine first.kept piece machine kept left → Steps protocol stands b c machine kept keeps left (Ok advance) → advance.next ≡ None
    → Feeds protocol stands a c (session.Open first) (Ok session.Ended) piece
Going-ends protocol stands quiet a b c first piece machine kept keeps left advance clock going steps next_is = record {
  told = going.told ++ steps.told;
  are_told = told_then a.clock b.clock going.told steps.told clock going.are_told steps.are_told;
  feeds = λ oracles are more state rest has.
      let so = going.so_far oracles are (steps.told ++ more) state rest (rw (append_assoc going.told steps.told more) at has) in
      let by = steps.steps oracles are more so.state so.rest so.has in
      let ended : protocol.HasEnded by.stays.state = rw next_is at by.stays.has in
      let over = by.stays.rest ++ drop advance.used left in
      let all : all_turns (protocol.next oracles) state (rest ++ piece) ≡ following (so.acts ++ by.acts) (stay by.stays.state over) =
      so.turns_are ∙ ap (following so.acts) (by.turns_are ∙ ap (following by.acts) (by.stays.turn_is
      ∙ all_turns-stop (protocol.next oracles) by.stays.state over (quiet oracles by.stays.state over ended)))
      ∙ following-following so.acts by.acts (stay by.stays.state over) in
      rw (all, append-nil (so.acts ++ by.acts))
      (record {
        does = DoesAll-then (protocol.spelled oracles) a b c so.acts by.acts so.does by.does;
        stands_for = ended;
      });
}

-- a fault in a step
pub Going-fails : (protocol : Protocol) {M : Type 0} (stands : Standing protocol M) (a b c : Around) (first : Reading M) (piece : List ℕ) (machine : M) (kept keeps left : List ℕ) (met : Fault)
    → b.clock ≡ a.clock → Going protocol stands a b first.machine first.kept piece machine kept left → Steps protocol stands b c machine kept keeps left (Err met)
    → Feeds protocol stands a c (session.Open first) (Err met) piece
Going-fails protocol stands a b c first piece machine kept keeps left met clock going steps = record {
  told = going.told ++ steps.told;
  are_told = told_then a.clock b.clock going.told steps.told clock going.are_told steps.are_told;
  feeds = λ oracles are more state rest has.
      let so = going.so_far oracles are (steps.told ++ more) state rest (rw (append_assoc going.told steps.told more) at has) in
      let by = steps.steps oracles are more so.state so.rest so.has in
      let all : all_turns (protocol.next oracles) state (rest ++ piece) ≡ following so.acts (following by.acts by.turn) = so.turns_are ∙ ap (following so.acts) by.turns_are in
      record {
        does = rw all (DoesFirst-between (protocol.spelled oracles) a b c met so.acts by.acts by.turn.parts so.does by.does);
        stands_for = tt;
      };
}

-- nothing is left of the piece
pub Going-all : (protocol : Protocol) {M : Type 0} (stands : Standing protocol M) (is_ready : M → List ℕ → Desk → Type 0) → Waits protocol stands is_ready → (a b : Around) (first last : Reading M) (piece left : List ℕ)
    → Going protocol stands a b first.machine first.kept piece last.machine last.kept left → is_ready last.machine last.kept b.desk → left ≡ []
    → Feeds protocol stands a b (session.Open first) (Ok (session.Open last)) piece
Going-all protocol stands is_ready waits a b first last piece left going ready none = record {
  told = going.told;
  are_told = going.are_told;
  feeds = λ oracles are more state rest has.
      let so = going.so_far oracles are more state rest has in
      let none_left : so.rest ++ left ≡ so.rest = rw none (append-nil so.rest) in
      let all : all_turns (protocol.next oracles) state (rest ++ piece) ≡ following so.acts (stay so.state so.rest) =
      so.turns_are ∙ ap (λ l. following so.acts (all_turns (protocol.next oracles) so.state l)) none_left
      ∙ ap (following so.acts) (all_turns-stop (protocol.next oracles) so.state so.rest (waits oracles are more last.machine last.kept b.desk so.state so.rest ready so.has)) in
      rw (all, append-nil so.acts) (record { does = so.does; stands_for = so.has });
}

-- after the end nothing comes of a piece
pub Feeds-ended : (protocol : Protocol) {M : Type 0} (stands : Standing protocol M) → Quiet protocol → (a : Around) (piece : List ℕ) → Feeds protocol stands a a session.Ended (Ok session.Ended) piece
Feeds-ended protocol stands quiet a piece = record {
  told = [];
  are_told = All-nil (IsTold a.clock);
  feeds = λ oracles are more state rest ended.
      rw (all_turns-stop (protocol.next oracles) state (rest ++ piece) (quiet oracles state (rest ++ piece) ended))
      (record { does = DoesAll-nil (protocol.spelled oracles) a; stands_for = ended });
}

-- where a piece has no octets nothing is left of it
pub none_left : (xs : List ℕ) (empty : Bool) → empty ≡ (length xs == 0) → empty ≡ true → xs ≡ []
none_left [] empty is test = refl
none_left (x ∷ xs) empty is test = absurd (grind (arith, nat_tests))
