-- The steps of a machine of rows.
use Rattle.std.proofs.Common.{◌≡◌, ◌<◌, ◌≤◌, ◌-◌, ◌+◌, ℕ, zero, suc, List, [], ◌++◌, length, take, drop, Bool, true, false, Ok, Err, Option, Some, None, refl, sym, ap, ◌∙◌, append-nil, arith, length-append}
use Rattle.std.specs.Prelude.{IfSome, nat_le}
use Rattle.std.proofs.Math.Seq.{take-append-add, drop-append-add, drop-length}
use Rattle.std.proofs.lemmas.Bool.Decides.{nat_tests}
use Rattle.std.proofs.lemmas.List.{length-take-le}
use Rattle.std.proofs.lemmas.List.Elements.{All-nil}
use Rattle.mail_wire.specs.Framing.{Framed as FramedOctets, waiting, whole, too_long, framed_as}
use Rattle.mail_wire.specs.Lines.{first_line}
use Rattle.mail_wire.specs.declared.framing.FoundLine.{FoundLine}
use Rattle.mail_wire.specs.declared.framing.FoundLine.TheVariants as found
use Rattle.mail_wire.specs.declared.framing.TheConstants.{LINE_MAX}
use Rattle.mail_wire.specs.declared.outside.Fault.{Fault}
use Rattle.mail_wire.proofs.FramingLemmas.{at_most_of, line_has_end, never_waiting, whole_line}
use Rattle.session_core.specs.Around.{Around}
use Rattle.session_core.specs.laws.FramedLaws.{count_cut-some, count_cut-none, count_cut-zero, framed_by}
use Rattle.session_core.specs.FramedRows.{framed_next}
use Rattle.session_core.specs.Grammar.{Grammar, Answers, IsUnit, Refuses, StandingRows, StandsNext, count_cut, cut_by, protocol_of, turn_by}
use Rattle.session_core.specs.Oracles.{Oracles}
use Rattle.session_core.specs.Moments.{Moment, IsTold}
use Rattle.session_core.specs.Steps.{IsReadyAfter, Standing, StandsAfter, Steps}
use Rattle.session_core.specs.declared.desk.Desk.{Desk}
use Rattle.session_core.specs.declared.rows.Framed.{Framed}
use Rattle.session_core.specs.declared.rows.Wants.{Wants}
use Rattle.session_core.specs.declared.rows.Wants.TheVariants as wants
use Rattle.session_core.proofs.StepLemmas.{StepsBy-turn, StepsBy-fails, StepsBy-waits}

-- ---- so many octets

pub count_found : (n : ℕ) (kept piece : List ℕ) → length kept < n → n - length kept ≤ length piece
    → count_cut n (kept ++ piece) ≡ whole (kept ++ take (n - length kept) piece) (drop (n - length kept) piece)
count_found n kept piece more low =
    let is : n ≡ length kept + (n - length kept) = omega arith in
    let front : take n (kept ++ piece) ≡ kept ++ take (n - length kept) piece = ap (λ m. take m (kept ++ piece)) is ∙ take-append-add kept piece (n - length kept) in
    let back : drop n (kept ++ piece) ≡ drop (n - length kept) piece = ap (λ m. drop m (kept ++ piece)) is ∙ drop-append-add kept piece (n - length kept) in
    count_cut-some n (kept ++ piece) (omega arith) (rw length-append (omega arith)) ∙ (rw (front, back) refl)

pub count_short : (n : ℕ) (kept piece : List ℕ) → length piece < n - length kept → count_cut n (kept ++ piece) ≡ waiting
count_short n kept piece low = count_cut-none n (kept ++ piece) (rw length-append (omega arith))

-- nothing was waited for
pub count_never : (n : ℕ) (kept piece : List ℕ) → count_cut n kept ≡ waiting → n ≤ length kept → count_cut n (kept ++ piece) ≡ waiting
count_never zero kept piece none low = count_cut-zero (kept ++ piece)
count_never (suc n) kept piece none low = absurd (apart (sym none ∙ count_cut-some (suc n) kept (omega arith) low))
  where
    apart : {a b : List ℕ} → waiting ≡ whole a b → ⊥
    apart h = cc

-- nothing is kept after a unit
pub none_kept : (want : Wants) → cut_by want [] ≡ waiting
unfolding first_line
none_kept wants.Line = refl
none_kept (wants.Count zero) = count_cut-zero []
none_kept (wants.Count (suc n)) = count_cut-none (suc n) [] (omega arith)

-- ---- a unit

counts_by : (n : ℕ) (octets unit rest : List ℕ) (b : Bool) → nat_le (suc n) (length octets) ≡ b → count_cut (suc n) octets ≡ whole unit rest → length unit ≡ suc n
counts_by n octets unit rest true is framed =
    let low = at_most_of (suc n) (length octets) is in
    let same = whole_line (take (suc n) octets) (drop (suc n) octets) unit rest (sym (count_cut-some (suc n) octets (omega arith) low) ∙ framed) in
    rw (← same) (length-take-le (suc n) octets low)
counts_by n octets unit rest false is framed =
    let short : length octets < suc n = grind (arith, nat_tests) in absurd (never_waiting unit rest (sym (count_cut-none (suc n) octets short) ∙ framed))

pub unit_of : (want : Wants) (octets unit rest : List ℕ) → cut_by want octets ≡ whole unit rest → IsUnit want unit
unit_of wants.Line octets unit rest framed = line_has_end octets unit rest framed
unit_of (wants.Count zero) octets unit rest framed = absurd (never_waiting unit rest (sym (count_cut-zero octets) ∙ framed))
unit_of (wants.Count (suc n)) octets unit rest framed = counts_by n octets unit rest (nat_le (suc n) (length octets)) refl framed

-- what was found of the octets that were kept and a piece
pub found_whole : (want : Wants) (of : FoundLine) (kept piece unit : List ℕ) (n : ℕ) → cut_by want (kept ++ piece) ≡ framed_as of kept piece → of ≡ found.Whole n → unit ≡ kept ++ take n piece
    → cut_by want (kept ++ piece) ≡ whole unit (drop n piece)
found_whole want of kept piece unit n framed is unit_is = rw unit_is (framed ∙ ap (λ (f : FoundLine). framed_as f kept piece) is)

pub found_long : (want : Wants) (of : FoundLine) (kept piece : List ℕ) → cut_by want (kept ++ piece) ≡ framed_as of kept piece → of ≡ found.TooLong
    → cut_by want (kept ++ piece) ≡ too_long (drop LINE_MAX (kept ++ piece))
found_long want of kept piece framed is = framed ∙ ap (λ (f : FoundLine). framed_as f kept piece) is

-- ---- steps

abbrev pub FramedStands : (grammar : Grammar) {R : Type 0} → StandingRows grammar R → Standing (protocol_of grammar) (Framed R)
FramedStands grammar stands more machine kept desk state rest = stands more machine.rows desk state × (rest ≡ kept)

-- the rows want what their states want
abbrev pub Agrees : (grammar : Grammar) {R : Type 0} → StandingRows grammar R → R → Desk → Wants → Type 0
Agrees grammar stands rows desk want = (more : List Moment) (state : grammar.S) → stands more rows desk state → grammar.wants state ≡ Some want

-- more of a unit
pub Steps-more : (grammar : Grammar) {R : Type 0} (stands : StandingRows grammar R) (a : Around) (machine : Framed R) (kept keeps piece : List ℕ) → keeps ≡ kept ++ piece
    → Steps (protocol_of grammar) (FramedStands grammar stands) a a machine kept keeps piece (Ok (record { next = Some machine; used = length piece }))
Steps-more grammar stands a machine kept keeps piece same = record {
  told = [];
  are_told = All-nil (IsTold a.clock);
  steps = λ oracles are more state rest has.
      StepsBy-waits (protocol_of grammar) (FramedStands grammar stands) oracles a (record { next = Some machine; used = length piece }) keeps piece more (rest ++ piece) state (rest ++ piece)
      (has.0, rw (has.1, same) refl) (rw (drop-length piece, append-nil (rest ++ piece)) refl);
}

next_stands : (grammar : Grammar) {R : Type 0} (stands : StandingRows grammar R) (more : List Moment) (next : Option R) (b : Desk) (state : grammar.S) → StandsNext grammar stands more next b state
    → StandsAfter (protocol_of grammar) (FramedStands grammar stands) more (framed_next next) [] b state []
next_stands grammar stands more None b state is = is
next_stands grammar stands more (Some rows) b state is = (is, refl)

pub next_ready : {R : Type 0} (wanted : R → Wants) (knows : R → Desk → Type 0) (next : Option R) (used : ℕ) (b : Desk) → IfSome next (λ rows. knows rows b)
    → IsReadyAfter (λ (machine : Framed R) kept desk. (cut_by (wanted machine.rows) kept ≡ waiting) × knows machine.rows desk) (record { next = framed_next next; used = used }) [] b
next_ready wanted knows None used b known = tt
next_ready wanted knows (Some rows) used b known = (none_kept (wanted rows), known)

-- the turn at the head of what was kept and the piece
head_turn : (grammar : Grammar) (oracles : Oracles) (state : grammar.S) (want : Wants) (kept piece rest : List ℕ) (framed : FramedOctets) → grammar.wants state ≡ Some want → rest ≡ kept → cut_by want (kept ++ piece) ≡ framed
    → (protocol_of grammar).next oracles state (rest ++ piece) ≡ turn_by grammar oracles state framed
head_turn grammar oracles state want kept piece rest framed wanted same is = rw (wanted, same, is) refl

-- a unit
pub Steps-unit : (grammar : Grammar) {R : Type 0} (stands : StandingRows grammar R) (want : Wants) (a b : Around) (machine : Framed R) (kept piece unit : List ℕ) (n : ℕ) (next : Option R)
    → Agrees grammar stands machine.rows a.desk want → cut_by want (kept ++ piece) ≡ whole unit (drop n piece) → Answers grammar stands a b machine.rows unit (Ok next)
    → Steps (protocol_of grammar) (FramedStands grammar stands) a b machine kept [] piece (Ok (record { next = framed_next next; used = n }))
Steps-unit grammar stands want a b machine kept piece unit n next agrees is answers = record {
  told = answers.told;
  are_told = answers.are_told;
  steps = λ oracles are more state rest has.
      let by = answers.answers oracles are more state has.0 in
      StepsBy-turn (protocol_of grammar) (FramedStands grammar stands) oracles (framed_by grammar oracles) a b (record { next = framed_next next; used = n }) [] piece more [] state (rest ++ piece)
      (record { parts = (grammar.row oracles state unit).acts; after = (grammar.row oracles state unit).after; rest = drop n piece })
      (head_turn grammar oracles state want kept piece rest (whole unit (drop n piece)) (agrees (answers.told ++ more) state has.0) has.1 is)
      by.does (next_stands grammar stands more next b.desk (grammar.row oracles state unit).after by.next) refl;
}

-- a fault in its row
pub Steps-unit_fails : (grammar : Grammar) {R : Type 0} (stands : StandingRows grammar R) (want : Wants) (a b : Around) (machine : Framed R) (kept keeps piece unit : List ℕ) (n : ℕ) (met : Fault)
    → Agrees grammar stands machine.rows a.desk want → cut_by want (kept ++ piece) ≡ whole unit (drop n piece) → Answers grammar stands a b machine.rows unit (Err met)
    → Steps (protocol_of grammar) (FramedStands grammar stands) a b machine kept keeps piece (Err met)
Steps-unit_fails grammar stands want a b machine kept keeps piece unit n met agrees is answers = record {
  told = answers.told;
  are_told = answers.are_told;
  steps = λ oracles are more state rest has.
      let by = answers.answers oracles are more state has.0 in
      StepsBy-fails (protocol_of grammar) (FramedStands grammar stands) oracles (framed_by grammar oracles) a b keeps piece more met state (rest ++ piece)
      (record { parts = (grammar.row oracles state unit).acts; after = (grammar.row oracles state unit).after; rest = drop n piece })
      (head_turn grammar oracles state want kept piece rest (whole unit (drop n piece)) (agrees (answers.told ++ more) state has.0) has.1 is) by.does;
}

-- a line that is too long
pub Steps-long : (grammar : Grammar) {R : Type 0} (stands : StandingRows grammar R) → ((oracles : Oracles) (state : grammar.S) → grammar.wants (grammar.long_row oracles state).after ≡ None) → (want : Wants) (a b : Around) (machine : Framed R)
    (kept keeps piece left : List ℕ) → Agrees grammar stands machine.rows a.desk want → cut_by want (kept ++ piece) ≡ too_long left → Refuses grammar stands a b machine.rows (Ok tt)
    → Steps (protocol_of grammar) (FramedStands grammar stands) a b machine kept keeps piece (Ok (record { next = None; used = length piece }))
Steps-long grammar stands ends want a b machine kept keeps piece left agrees is refuses = record {
  told = [];
  are_told = All-nil (IsTold a.clock);
  steps = λ oracles are more state rest has.
      StepsBy-turn (protocol_of grammar) (FramedStands grammar stands) oracles (framed_by grammar oracles) a b (record { next = None; used = length piece }) keeps piece more left state (rest ++ piece)
      (record { parts = (grammar.long_row oracles state).acts; after = (grammar.long_row oracles state).after; rest = left })
      (head_turn grammar oracles state want kept piece rest (too_long left) (agrees more state has.0) has.1 is)
      (refuses oracles are more state has.0) (ends oracles state) (rw (drop-length piece, append-nil left) refl);
}

pub Steps-long_fails : (grammar : Grammar) {R : Type 0} (stands : StandingRows grammar R) (want : Wants) (a b : Around) (machine : Framed R) (kept keeps piece left : List ℕ) (met : Fault)
    → Agrees grammar stands machine.rows a.desk want → cut_by want (kept ++ piece) ≡ too_long left → Refuses grammar stands a b machine.rows (Err met)
    → Steps (protocol_of grammar) (FramedStands grammar stands) a b machine kept keeps piece (Err met)
Steps-long_fails grammar stands want a b machine kept keeps piece left met agrees is refuses = record {
  told = [];
  are_told = All-nil (IsTold a.clock);
  steps = λ oracles are more state rest has.
      StepsBy-fails (protocol_of grammar) (FramedStands grammar stands) oracles (framed_by grammar oracles) a b keeps piece more met state (rest ++ piece)
      (record { parts = (grammar.long_row oracles state).acts; after = (grammar.long_row oracles state).after; rest = left })
      (head_turn grammar oracles state want kept piece rest (too_long left) (agrees more state has.0) has.1 is) (refuses oracles are more state has.0);
}
