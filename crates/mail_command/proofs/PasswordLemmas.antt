-- The first line of what was taken, and the command that has it as a password.
use Rattle.std.proofs.Common.{◌≡◌, ℕ, ◌<◌, ◌+◌, ◌≤◌, List, [], ◌∷◌, ◌++◌, length, take, true, not, Option, Some, None, Result, Ok, Err, refl, sym, ap, ◌∙◌, inl, inr, arith, append-nil, append_assoc, length-append, Bor}
use Rattle.std.specs.Prelude.{◌⊎◌, IfSome, IfOk, MatchOption, ◌==◌}
use Rattle.std.specs.Option.{unwrap_or}
use Rattle.std.specs.Io.KnownBytes.{Consumes, IsAtEnd}
use Rattle.std.proofs.lemmas.Bool.{cases_lt}
use Rattle.encoded_words.specs.private.Parts.{lacks}
use Rattle.encoded_words.proofs.Cuts.{rest_lacks}
use Rattle.journal_records.specs.declared.records.Record.{Record}
use Rattle.kept_mail.specs.Kept.{Kept}
use Rattle.mail_store.proofs.ChangeLemmas.{and_left}
use Rattle.mail_store.specs.declared.changing.StoreFault.{StoreFault}
use Rattle.mail_wire.specs.KeeperState.{KeeperState}
use Rattle.mail_wire.specs.WireState.{WireState}
use Rattle.mail_wire.specs.Moves.{GoesOn, HasWireCause, TakesPiece}
use Rattle.mail_wire.specs.declared.outside.Fault.{Fault}
use Rattle.mail_wire.specs.declared.outside.Fault.TheVariants as fault
use Rattle.mail_wire.specs.declared.traffic.TheConstants.{PIECE}
use Rattle.mail_wire.proofs.Moving.{Rose-earlier}
use Rattle.setup_command.specs.AddingRuns.{RunsAdding}
use Rattle.setup_command.specs.Running.{HasStatusCause}
use Rattle.setup_command.specs.Statuses.{status_of}
use Rattle.setup_command.proofs.AddingLemmas.{broken_answer, exact_adding, exact_journal}
use Rattle.mail_command.specs.Passwords.{IsExactByInput, IsFirstLine, OfLf, OfCrlf, OfEnd, IsPassword, RunsByInput, OfPassword, OfNone, OfLong, Untaken, TakesFirstLine, TakesUpToLine, line_max}
use Rattle.mail_command.specs.Running.{RefusesWords, Told, BrokenOff}
use Rattle.mail_command.specs.Taking.{Takes}
use Rattle.mail_command.proofs.TakingLemmas.{Takes-piece, Takes-few}

-- ---- octets without an octet

lacks_back : (c : ℕ) (a b : List ℕ) → lacks c (a ++ b) ≡ true → lacks c b ≡ true
lacks_back c [] b all = all
lacks_back c (x ∷ a) b all = lacks_back c a b (rest_lacks c x (a ++ b) all)

lacks_front : (c : ℕ) (a b : List ℕ) → lacks c (a ++ b) ≡ true → lacks c a ≡ true
lacks_front c [] b all = refl
lacks_front c (x ∷ a) b all =
    let first : not (x == c) ≡ true = and_left (not (x == c)) (lacks c (a ++ b)) all in
    let others : lacks c a ≡ true = lacks_front c a b (rest_lacks c x (a ++ b) all) in
    rw (first, others) refl

-- ---- a line is taken

-- the end of input
pub Line-end : (a b c : WireState) (max : ℕ) (taken into : List ℕ) (n : ℕ) → Takes a b taken → length taken ≤ max + PIECE → TakesPiece b c n into → n ≡ 0 → TakesUpToLine max a c taken
Line-end a b c max taken into n first few piece none = record {
  takes = rw (none, append-nil) at (Takes-piece a b c taken into n first piece);
  few = few;
  end = λ lacking fits. piece.end none;
}

-- a line ends in the piece
pub Line-found : (a b c : WireState) (max : ℕ) (taken into : List ℕ) (n : ℕ) → Takes a b taken → length taken ≤ max → n ≤ length into → length into ≡ PIECE → TakesPiece b c n into
    → not (lacks 10 (take n into)) ≡ true → TakesUpToLine max a c (taken ++ take n into)
Line-found a b c max taken into n first before within size piece ends = record {
  takes = Takes-piece a b c taken into n first piece;
  few = Takes-few max n taken into before within size;
  end = λ lacking fits. let no : lacks 10 (take n into) ≡ true = lacks_back 10 taken (take n into) lacking in let differs : not true ≡ true = rw no at ends in absurd (cc differs);
}

-- more than the greatest number
pub Line-past : (a b : WireState) (max : ℕ) (taken : List ℕ) → Takes a b taken → length taken ≤ max + PIECE → max < length taken → TakesUpToLine max a b taken
Line-past a b max taken first few past = record { takes = first; few = few; end = λ lacking fits. absurd (omega (arith, past, fits)) }

-- ---- the first line

-- what stands before an LF, without its CR
pub line_before : (octets text rest line : List ℕ) → octets ≡ text ++ 10 ∷ rest → lacks 10 text ≡ true
    → (text ≡ line ++ 13 ∷ []) ⊎ ((text ≡ line) × ((front : List ℕ) → text ≡ front ++ 13 ∷ [] → ⊥)) → IsFirstLine octets line
line_before octets text rest line are lacking (inl cr) =
    OfCrlf rest (are ∙ ap (λ t. t ++ 10 ∷ rest) cr ∙ append_assoc line (13 ∷ []) (10 ∷ rest)) (lacks_front 10 line (13 ∷ []) (rw cr at lacking))
line_before octets text rest line are lacking (inr (same, bare)) = OfLf rest (rw same at are) (rw same at lacking) (rw same at bare)

-- a text without the CR at its end
pub cr_taken : (text line : Bor (List ℕ)) (found : Option (Bor (List ℕ))) → MatchOption found ((front : List ℕ) → text.now ≡ front ++ 13 ∷ [] → ⊥) (λ x. text.now ≡ x.now ++ 13 ∷ [])
    → line ≡ unwrap_or found text → (text.now ≡ line.now ++ 13 ∷ []) ⊎ ((text.now ≡ line.now) × ((front : List ℕ) → text.now ≡ front ++ 13 ∷ [] → ⊥))
cr_taken text line None bare is = inr (ap (λ (b : Bor (List ℕ)). b.now) (sym is), bare)
cr_taken text line (Some it) cr is = inl (cr ∙ ap (λ (b : Bor (List ℕ)). b.now ++ 13 ∷ []) (sym is))

-- octets are no beginning of theirs with more behind it
longer : (line more : List ℕ) → line ++ more ≡ line → 0 < length more → ⊥
longer line more same some = omega (arith, ap length same, length-append line more, some)

-- it is that of all that was left, if the end of input ends it only where that was told
first_of_all : (l m : Option (List ℕ)) (octets line : List ℕ) → Consumes l m octets → (octets ≡ line → lacks 10 octets ≡ true → IsAtEnd m) → IsFirstLine octets line
    → IfSome l (λ all. IsFirstLine all line)
first_of_all None m octets line consumes end first = tt
first_of_all (Some l) None octets line consumes end first = absurd consumes
first_of_all (Some l) (Some m) octets line consumes end (OfLf rest are lacking bare) =
    OfLf (rest ++ m) (consumes ∙ ap (λ o. o ++ m) are ∙ append_assoc line (10 ∷ rest) m) lacking bare
first_of_all (Some l) (Some m) octets line consumes end (OfCrlf rest are lacking) =
    OfCrlf (rest ++ m) (consumes ∙ ap (λ o. o ++ m) are ∙ append_assoc line (13 ∷ 10 ∷ rest) m) lacking
first_of_all (Some l) (Some m) octets line consumes end (OfEnd are lacking) =
    OfEnd (consumes ∙ ap (λ more. octets ++ more) (end are (rw are lacking)) ∙ append-nil octets ∙ are) lacking

first_taken : (a b : WireState) (octets line : List ℕ) → TakesUpToLine line_max a b octets → IsFirstLine octets line → (octets ≡ line → length octets ≤ line_max) → TakesFirstLine a b line
first_taken a b octets line takes first fits = record {
  octets = octets;
  takes = takes.takes;
  few = takes.few;
  first = first;
  whole = first_of_all a.left b.left octets line (rw takes.takes.octets_are at takes.takes.moves.left) (λ are lacking. takes.end lacking (fits are)) first;
}

-- ---- the command

pub by_password : (refusal : Kept → Option StoreFault) (one : List ℕ → Record) (old new : Option (List ℕ)) (a b c : WireState) (status : ℕ) (octets line : List ℕ)
    → TakesUpToLine line_max a b octets → IsFirstLine octets line → IsPassword line → RunsAdding refusal (one line) old new b c status → RunsByInput refusal one old new a c status
by_password refusal one old new a b c status octets line takes first is runs =
    OfPassword b line (first_taken a b octets line takes first (λ are. let short = is.short in omega (arith, short, ap length are))) is runs

pub by_none : (refusal : Kept → Option StoreFault) (one : List ℕ → Record) (old : Option (List ℕ)) (a b c : WireState) (status : ℕ) (octets line : List ℕ)
    → TakesUpToLine line_max a b octets → IsFirstLine octets line → (IsPassword line → ⊥) → RefusesWords b c status → RunsByInput refusal one old old a c status
by_none refusal one old a b c status octets line takes first never refuses = by_size first (cases_lt line_max (length octets))
  where
    taken : (octets ≡ line → length octets ≤ line_max) → RunsByInput refusal one old old a c status
    taken fits = OfNone b line (first_taken a b octets line takes first fits) never refuses refl

    by_size : IsFirstLine octets line → (line_max < length octets) ⊎ (length octets ≤ line_max) → RunsByInput refusal one old old a c status
    by_size (OfEnd are lacking) (inl long) = OfLong b (record { octets = octets; takes = takes.takes; few = takes.few; endless = rw are lacking; long = long }) refuses refl
    by_size (OfLf rest are lacking bare) (inl long) = taken (λ same. absurd (longer line (10 ∷ rest) (sym are ∙ same) (omega arith)))
    by_size (OfCrlf rest are lacking) (inl long) = taken (λ same. absurd (longer line (13 ∷ 10 ∷ rest) (sym are ∙ same) (omega arith)))
    by_size is (inr fits) = taken (λ _. fits)

exact_some : (refusal : Kept → Option StoreFault) (one : List ℕ → Record) (octets : List ℕ) (new : Option (List ℕ)) (a c : WireState) (status : ℕ)
    → RunsByInput refusal one (Some octets) new a c status → IsExactByInput refusal octets status
exact_some refusal one octets new a c status (OfPassword b password takes is runs) =
    inr (exact_adding refusal (one password) (Some octets) new b c status runs, exact_journal refusal (one password) (Some octets) new b c status runs)
exact_some refusal one octets new a c status (OfNone b line takes never (Told gives is) same) = inl is
exact_some refusal one octets new a c status (OfNone b line takes never (BrokenOff part broken) same) = inr (λ all had. broken_answer _ status (inl broken), λ at bad. inr (inl broken))
exact_some refusal one octets new a c status (OfLong b takes (Told gives is) same) = inl is
exact_some refusal one octets new a c status (OfLong b takes (BrokenOff part broken) same) = inr (λ all had. broken_answer _ status (inl broken), λ at bad. inr (inl broken))
exact_some refusal one octets new a c status (Untaken some broken same) = inr (λ all had. broken_answer _ status (inl broken), λ at bad. inr (inl broken))

pub by_input_exact : (refusal : Kept → Option StoreFault) (one : List ℕ → Record) (old new : Option (List ℕ)) (a c : WireState) (status : ℕ)
    → RunsByInput refusal one old new a c status → IfSome old (λ octets. IsExactByInput refusal octets status)
by_input_exact refusal one None new a c status runs = tt
by_input_exact refusal one (Some octets) new a c status runs = exact_some refusal one octets new a c status runs

-- ---- causes

pub status_cause_after : (a b c : WireState) (keeper kept : KeeperState) (status : ℕ) → GoesOn a b → HasStatusCause b c keeper kept status → HasStatusCause a c keeper kept status
status_cause_after a b c keeper kept status one two = record {
  later = let early = one.later in let late = two.later in omega (arith, early, late);
  wire_rose = λ is. Rose-earlier a.faults b.faults c.faults one.later (two.wire_rose is);
  wire_sure = λ sure. two.wire_sure (one.sure sure);
  keeper_later = two.keeper_later;
  keeper_rose = two.keeper_rose;
  keeper_sure = two.keeper_sure;
}

-- a call that left the keeper alone failed
pub failed_cause : {T : Type 0} (a b : WireState) (keeper : KeeperState) (result : Result T Fault) (met : Fault) → result ≡ Err met → HasWireCause a b result fault.Wire
    → (result ≡ Err fault.Keeper → ⊥) → HasStatusCause a b keeper keeper (status_of (Err met))
failed_cause a b keeper result fault.Wire is cause never = record {
  later = cause.later;
  wire_rose = λ _. cause.rose is;
  wire_sure = λ sure. absurd ((cause.sure sure).1 is);
  keeper_later = omega arith;
  keeper_rose = λ two. absurd (omega (arith, two));
  keeper_sure = λ sure. (sure, λ two. omega (arith, two));
}
failed_cause a b keeper result fault.Memory is cause never = record {
  later = cause.later;
  wire_rose = λ one. absurd (omega (arith, one));
  wire_sure = λ sure. ((cause.sure sure).0, λ one. omega (arith, one));
  keeper_later = omega arith;
  keeper_rose = λ two. absurd (omega (arith, two));
  keeper_sure = λ sure. (sure, λ two. omega (arith, two));
}
failed_cause a b keeper result fault.Keeper is cause never = absurd (never is)

-- words were refused, or that failed
pub refusal_cause : (a b : WireState) (keeper : KeeperState) (result : Result ℕ Fault) → IfOk result (λ status. status ≡ 4) → HasWireCause a b result fault.Wire
    → (result ≡ Err fault.Keeper → ⊥) → HasStatusCause a b keeper keeper (status_of result)
refusal_cause a b keeper (Ok status) four cause never = record {
  later = cause.later;
  wire_rose = λ one. absurd (omega (arith, one, four));
  wire_sure = λ sure. ((cause.sure sure).0, λ one. omega (arith, one, four));
  keeper_later = omega arith;
  keeper_rose = λ two. absurd (omega (arith, two, four));
  keeper_sure = λ sure. (sure, λ two. omega (arith, two, four));
}
refusal_cause a b keeper (Err met) four cause never = failed_cause a b keeper (Err met) met refl cause never
