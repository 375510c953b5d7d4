-- What holds of every grammar: a turn takes an octet at least, and doesn't depend on what comes later.
use Rattle.std.proofs.Common.{◌≡◌, ◌<◌, ◌≤◌, ℕ, zero, suc, List, ◌++◌, length, take, drop, Bool, true, false, Option, Some, None, refl, sym, ap, ◌∙◌, arith, length-append, length-drop}
use Rattle.std.specs.Prelude.{nat_le}
use Rattle.std.proofs.lemmas.Bool.Decides.{nat_tests}
use Rattle.std.proofs.lemmas.List.{drop-append-le, take-append-le}
use Rattle.mail_wire.specs.Framing.{Framed, waiting, whole, too_long, next_line}
use Rattle.session_core.specs.Turns.{Turn, IsFramed, followed_by}
use Rattle.mail_wire.proofs.FramingLemmas.{IsSteady, steady, le_true, le_false, at_most_of}
use Rattle.session_core.specs.Acts.{Act}
use Rattle.session_core.specs.Grammar.{Grammar, IsFitRow, LongRowsFit, RowsFit, count_cut, cut_by, protocol_of, turn_by, turn_in}
use Rattle.session_core.specs.Oracles.{Oracles, AreOracles}
use Rattle.session_core.specs.Protocol.{IsFitTurn}
use Rattle.session_core.specs.declared.rows.Wants.{Wants}
use Rattle.session_core.specs.declared.rows.Wants.TheVariants as wants

-- ---- what a stream begins with stays so with more octets after

abbrev pub IsSteadyCut : Wants → List ℕ → Framed → Type 0
IsSteadyCut want octets waiting = Unit {0}
IsSteadyCut want octets (whole unit rest) = (length rest < length octets) × ((more : List ℕ) → cut_by want (octets ++ more) ≡ whole unit (rest ++ more))
IsSteadyCut want octets (too_long rest) = (length rest < length octets) × ((more : List ℕ) → cut_by want (octets ++ more) ≡ too_long (rest ++ more))

pub count_cut-some : (n : ℕ) (octets : List ℕ) → 0 < n → n ≤ length octets → count_cut n octets ≡ whole (take n octets) (drop n octets)
unfolding count_cut
count_cut-some zero octets some low = absurd (omega arith)
count_cut-some (suc n) octets some low = rw (le_true (suc n) (length octets) low) refl

pub count_cut-none : (n : ℕ) (octets : List ℕ) → length octets < n → count_cut n octets ≡ waiting
unfolding count_cut
count_cut-none zero octets low = refl
count_cut-none (suc n) octets low = rw (le_false (suc n) (length octets) low) refl

pub count_cut-zero : (octets : List ℕ) → count_cut 0 octets ≡ waiting
unfolding count_cut
count_cut-zero octets = refl

count_steady_by : (n : ℕ) (octets : List ℕ) (enough : Bool) → nat_le (suc n) (length octets) ≡ enough → IsSteadyCut (wants.Count (suc n)) octets (count_cut (suc n) octets)
count_steady_by n octets true is =
    let low = at_most_of (suc n) (length octets) is in
    rw (count_cut-some (suc n) octets (omega arith) low) (
      rw length-drop (omega arith),
      λ more. count_cut-some (suc n) (octets ++ more) (omega arith) (rw length-append (omega arith))
          ∙ (rw (take-append-le (suc n) octets more low, drop-append-le (suc n) octets more low) refl),
    )
count_steady_by n octets false is = let short : length octets < suc n = grind (arith, nat_tests) in rw (count_cut-none (suc n) octets short) tt

count_steady : (n : ℕ) (octets : List ℕ) → IsSteadyCut (wants.Count n) octets (count_cut n octets)
count_steady zero octets = rw (count_cut-zero octets) tt
count_steady (suc n) octets = count_steady_by n octets (nat_le (suc n) (length octets)) refl

line_steady : (octets : List ℕ) (framed : Framed) → IsSteady octets framed → IsSteadyCut wants.Line octets framed
line_steady octets waiting steady = tt
line_steady octets (whole line rest) steady = steady
line_steady octets (too_long rest) steady = steady

pub steady_cut : (want : Wants) (octets : List ℕ) → IsSteadyCut want octets (cut_by want octets)
steady_cut wants.Line octets = line_steady octets (next_line octets) (steady octets)
steady_cut (wants.Count n) octets = count_steady n octets

-- ---- turns

unsome : {A : Type 0} {a b : A} → Some a ≡ Some b → a ≡ b
unsome h = cc

shorter_by : (grammar : Grammar) (oracles : Oracles) (state : grammar.S) (want : Wants) (octets : List ℕ) (turn : Turn grammar.S (Act grammar.P)) (framed : Framed) → IsSteadyCut want octets framed
    → turn_by grammar oracles state framed ≡ Some turn → length turn.rest < length octets
shorter_by grammar oracles state want octets turn waiting steady is = cc
shorter_by grammar oracles state want octets turn (whole unit rest) steady is =
    let same : rest ≡ turn.rest = ap (λ (t : Turn grammar.S (Act grammar.P)). t.rest) (unsome is) in rw (← same) steady.0
shorter_by grammar oracles state want octets turn (too_long rest) steady is =
    let same : rest ≡ turn.rest = ap (λ (t : Turn grammar.S (Act grammar.P)). t.rest) (unsome is) in rw (← same) steady.0

stays_by : (grammar : Grammar) (oracles : Oracles) (state : grammar.S) (want : Wants) (octets more : List ℕ) (turn : Turn grammar.S (Act grammar.P)) (framed : Framed) → IsSteadyCut want octets framed
    → turn_by grammar oracles state framed ≡ Some turn → turn_by grammar oracles state (cut_by want (octets ++ more)) ≡ Some (followed_by more turn)
stays_by grammar oracles state want octets more turn waiting steady is = cc
stays_by grammar oracles state want octets more turn (whole unit rest) steady is =
    ap (turn_by grammar oracles state) (steady.1 more) ∙ ap (λ (t : Turn grammar.S (Act grammar.P)). Some (followed_by more t)) (unsome is)
stays_by grammar oracles state want octets more turn (too_long rest) steady is =
    ap (turn_by grammar oracles state) (steady.1 more) ∙ ap (λ (t : Turn grammar.S (Act grammar.P)). Some (followed_by more t)) (unsome is)

shorter_in : (grammar : Grammar) (oracles : Oracles) (state : grammar.S) (want : Option Wants) (octets : List ℕ) (turn : Turn grammar.S (Act grammar.P))
    → turn_in grammar oracles state want octets ≡ Some turn → length turn.rest < length octets
shorter_in grammar oracles state None octets turn is = cc
shorter_in grammar oracles state (Some want) octets turn is = shorter_by grammar oracles state want octets turn (cut_by want octets) (steady_cut want octets) is

stays_in : (grammar : Grammar) (oracles : Oracles) (state : grammar.S) (want : Option Wants) (octets more : List ℕ) (turn : Turn grammar.S (Act grammar.P))
    → turn_in grammar oracles state want octets ≡ Some turn → turn_in grammar oracles state want (octets ++ more) ≡ Some (followed_by more turn)
stays_in grammar oracles state None octets more turn is = cc
stays_in grammar oracles state (Some want) octets more turn is = stays_by grammar oracles state want octets more turn (cut_by want octets) (steady_cut want octets) is

pub framed_by : (grammar : Grammar) (oracles : Oracles) → IsFramed ((protocol_of grammar).next oracles)
framed_by grammar oracles = record {
  shorter = λ state octets turn is. shorter_in grammar oracles state (grammar.wants state) octets turn is;
  stays = λ state octets more turn is. stays_in grammar oracles state (grammar.wants state) octets more turn is;
}

pub waits_by : (grammar : Grammar) (oracles : Oracles) (want : Wants) (kept : List ℕ) (state : grammar.S) (rest : List ℕ) → grammar.wants state ≡ Some want → cut_by want kept ≡ waiting → rest ≡ kept
    → (protocol_of grammar).next oracles state rest ≡ None
waits_by grammar oracles want kept state rest wanted none same = rw (wanted, same, none) refl

pub quiet_by : (grammar : Grammar) (oracles : Oracles) (state : grammar.S) (rest : List ℕ) → grammar.wants state ≡ None → (protocol_of grammar).next oracles state rest ≡ None
quiet_by grammar oracles state rest ended = rw ended refl

-- what wants something hasn't ended
pub goes_on_by : (grammar : Grammar) (want : Wants) (state : grammar.S) → grammar.wants state ≡ Some want → grammar.wants state ≡ None → ⊥
goes_on_by grammar want state wanted ended = let apart : Some want ≡ None = sym wanted ∙ ended in cc

-- ---- what may be sent

fit_by : (grammar : Grammar) (oracles : Oracles) (state : grammar.S) (turn : Turn grammar.S (Act grammar.P)) (framed : Framed) → ((unit : List ℕ) → IsFitRow grammar oracles (grammar.row oracles state unit))
    → IsFitRow grammar oracles (grammar.long_row oracles state) → turn_by grammar oracles state framed ≡ Some turn → IsFitTurn (protocol_of grammar) oracles turn
fit_by grammar oracles state turn waiting rows long is = cc
fit_by grammar oracles state turn (whole unit rest) rows long is =
    let row = rows unit in rw (← unsome is) (record { fit = row.fit; sound = row.sound })
fit_by grammar oracles state turn (too_long rest) rows long is = rw (← unsome is) (record { fit = long.fit; sound = long.sound })

fit_in : (grammar : Grammar) (oracles : Oracles) (state : grammar.S) (octets : List ℕ) (turn : Turn grammar.S (Act grammar.P)) (want : Option Wants) → ((unit : List ℕ) → IsFitRow grammar oracles (grammar.row oracles state unit))
    → IsFitRow grammar oracles (grammar.long_row oracles state) → turn_in grammar oracles state want octets ≡ Some turn → IsFitTurn (protocol_of grammar) oracles turn
fit_in grammar oracles state octets turn None rows long is = cc
fit_in grammar oracles state octets turn (Some want) rows long is = fit_by grammar oracles state turn (cut_by want octets) rows long is

pub fits_by : (grammar : Grammar) → RowsFit grammar → LongRowsFit grammar → (oracles : Oracles) → AreOracles oracles → (state : grammar.S) (octets : List ℕ) (turn : Turn grammar.S (Act grammar.P)) → grammar.IsSound state
    → (protocol_of grammar).next oracles state octets ≡ Some turn → IsFitTurn (protocol_of grammar) oracles turn
fits_by grammar rows long oracles are state octets turn sound is =
    fit_in grammar oracles state octets turn (grammar.wants state) (λ unit. rows oracles are state unit sound) (long oracles are state sound) is
