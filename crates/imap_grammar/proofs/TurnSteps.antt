-- The steps of a turn: from what a line's reader says to what the turn tells.
use Rattle.std.proofs.Common.{◌≡◌, ℕ, Bool, true, List, [], ◌∷◌, ◌++◌, length, Option, Some, ◌⊎◌, inl, inr, refl, sym, ap, ◌∙◌, subst, append_assoc}
use Rattle.std.proofs.lemmas.Bool.{and_parts, both_ways}
use Rattle.std.proofs.lemmas.List.{append_cancel_left}
use Rattle.std.proofs.lemmas.Result.{IfOk-weaker}
use Rattle.std.specs.List.{list_all}
use Rattle.mail_wire.proofs.AllLemmas.{pass-parts}
use Rattle.imap_words.specs.Languages.{IsViable}
use Rattle.imap_words.specs.Tokens.{IsTag, is_tag_char}
use Rattle.std.specs.Prelude.{⊤, Result, IfOk}
use Rattle.imap_words.specs.Reading.{BeginsAlike, BeginsIn, always, never, Reads, FailsAt, StopsReading}
use Rattle.imap_words.specs.Going.{Leaves}
use Rattle.imap_words.specs.declared.stop.Stop.{Stop}
use Rattle.imap_words.specs.declared.stop.Stop.TheVariants.{More, Bad, Memory}
use Rattle.imap_grammar.specs.Commands.{Tagged, IsCommand}
use Rattle.imap_grammar.specs.Events.{IsWholeLine, BeginsWithTag, HasTag, Appends, IsAppending}
use Rattle.mail_wire.specs.declared.values.Memory.{Memory as MemoryFault}
use Rattle.imap_grammar.specs.Awaiting.{Comes, IsLiteralBody, IsAfterLiteral, IsRestAtLiteral, IsSized}
use Rattle.imap_grammar.specs.Standing.{IsAtData, left_of, Reached, HasNoDataBefore, TaggedComes, HasHeader, LineComes, TurnTells, went_on, Stopped, size_of}
use Rattle.imap_grammar.specs.declared.awaited.Awaited.{Awaited}
use Rattle.imap_grammar.specs.declared.awaited.Awaited.TheVariants as awaited
use Rattle.imap_grammar.specs.declared.awaited.Next.{Next}
use Rattle.imap_grammar.specs.declared.awaited.Next.TheVariants.{Whole, Awaits}
use Rattle.imap_grammar.specs.declared.reader.Turn.{Turn}
use Rattle.imap_grammar.specs.declared.reader.Stage.{Stage}
use Rattle.imap_grammar.specs.declared.reader.Stage.TheVariants.{Begin, AfterLiteral}
use Rattle.imap_grammar.proofs.LineLaws.{ends_some, fronts_same}
use Rattle.imap_grammar.proofs.Closing.{ends_announces, command_ends}
use Rattle.imap_grammar.proofs.EventLaws.{nowhere_front}
use Rattle.imap_grammar.proofs.StageLaws.{no_command_yet}
use Rattle.imap_grammar.proofs.TurnLaws.{tagged_comes, header_of, command_rest, same_tag, tag_more, space_is_none}
use Rattle.imap_grammar.proofs.WholeLaws.{no_octets, header_ends, whole_has, alone_more, awaits_tells, whole_tells, bad_tells, literal_leaves, literal_stops, no_literal_then}

-- the reader of these octets stopped
module _ (utf8 : Bool) (octets : List ℕ) (tag : Option (List ℕ)) (has : HasTag octets tag) where
  stop_tells : (stop : Stop) → StopsReading (IsCommand utf8) never octets stop → (t : Turn) → Stopped tag stop t → TurnTells utf8 octets t
  stop_tells More stops t is = absurd is
  stop_tells (Bad left) stops t is = subst (TurnTells utf8 octets) (sym is) (bad_tells utf8 octets tag left stops has)
  stop_tells Memory stops t is = absurd is

  pub stops_tell : (r : Result Turn MemoryFault) (stop : Stop) → StopsReading (IsCommand utf8) never octets stop → IfOk r (Stopped tag stop) → IfOk r (TurnTells utf8 octets)
  stops_tell r stop stops is = IfOk-weaker r (Stopped tag stop) (TurnTells utf8 octets) (stop_tells stop stops) is

-- where a literal is awaited, no data were
abbrev pub NoDataThen : Bool → List ℕ → Next → Type 0
NoDataThen utf8 front (Whole c) = ⊤
NoDataThen utf8 front (Awaits size a) = (appends : Appends) → IsAppending utf8 front appends → ⊥

module _ (utf8 : Bool) (stage : Stage) (front literal line : List ℕ) (reached : Reached utf8 stage front) (alone : HasNoDataBefore utf8 front) (sized : length literal ≡ size_of stage) (is_line : IsWholeLine line) where
  rest_is : (l o : List ℕ) → literal ++ line ≡ l ++ o → length l ≡ size_of stage → o ≡ line
  rest_is l o e len = fronts_same l literal o line (len ∙ sym sized) (sym e)

  pub turn_tells : ((u b : List ℕ) (d : Tagged) → IsCommand utf8 u d → u ++ b ≡ front → ⊥) → (tag : List ℕ) (next : Next) (rest : List ℕ) → NoDataThen utf8 front next → HasHeader line next rest
      → BeginsWithTag (front ++ (literal ++ line)) tag → TaggedComes utf8 tag (IsCommand utf8) (front ++ (literal ++ line)) next rest → TurnTells utf8 (front ++ (literal ++ line)) (went_on tag next)
  turn_tells none tag (Whole c) rest no_data header begins r =
      whole_tells utf8 (front ++ (literal ++ line)) tag c rest r (command_rest utf8 stage front (literal ++ line) r.word rest _ reached none line is_line rest_is r.is_word (sym r.whole))
  turn_tells none tag (Awaits size a) rest no_data header begins comes =
      let ends = header_ends line size rest is_line header in
      awaits_tells utf8 (front ++ (literal ++ line)) tag size a (subst (λ z. Leaves (IsCommand utf8) (front ++ (literal ++ line)) (left_of utf8 (AfterLiteral tag size a)) z) ends.0 comes.1) comes.0
      (ends_announces (front ++ (literal ++ line)) size (whole_has utf8 front literal line (Some size) stage reached sized is_line ends.1)) begins
      (alone_more utf8 front literal line stage reached alone sized is_line no_data)

-- the first line of a command
pub first_tells : (utf8 : Bool) (front literal line tag : List ℕ) (next : Next) → Reached utf8 Begin front → HasNoDataBefore utf8 front → length literal ≡ 0 → IsWholeLine line → HasTag line (Some tag) → LineComes utf8 line next
    → TurnTells utf8 (front ++ (literal ++ line)) (went_on tag next)
first_tells utf8 front literal line tag next reached alone sized is_line begins comes =
    let whole : front ++ (literal ++ line) ≡ line = ap (λ z. z ++ (literal ++ line)) reached ∙ ap (λ z. z ++ line) (no_octets literal sized) in
    let same : comes.0 ≡ tag = same_tag line comes.0 tag comes.2 begins in
    turn_tells utf8 Begin front literal line reached alone sized is_line nothing tag next comes.1 (no_data next) comes.3 (subst (λ z. BeginsWithTag z tag) (sym whole) begins)
    (subst (λ z. TaggedComes utf8 tag (IsCommand utf8) z next comes.1) (sym whole) (subst (λ z. TaggedComes utf8 z (IsCommand utf8) line next comes.1) same comes.4))
  where
    left_empty : (u b : List ℕ) → u ++ b ≡ [] → u ≡ []
    left_empty [] b e = refl
    left_empty (x ∷ u) b e = cc e

    nothing : (u b : List ℕ) (d : Tagged) → IsCommand utf8 u d → u ++ b ≡ front → ⊥
    nothing u b d is e = ends_some u (command_ends utf8 u d is) (left_empty u b (e ∙ reached))

    no_data : (n : Next) → NoDataThen utf8 front n
    no_data (Whole c) = tt
    no_data (Awaits size a) = nowhere_front utf8 front reached

pub first_stops : (utf8 : Bool) (front literal line : List ℕ) (tag : Option (List ℕ)) (stop : Stop) (r : Result Turn MemoryFault) → Reached utf8 Begin front → length literal ≡ 0 → StopsReading (IsCommand utf8) never line stop → HasTag line tag
    → IfOk r (Stopped tag stop) → IfOk r (TurnTells utf8 (front ++ (literal ++ line)))
first_stops utf8 front literal line tag stop r reached sized stops has is =
    let whole : front ++ (literal ++ line) ≡ line = ap (λ z. z ++ (literal ++ line)) reached ∙ ap (λ z. z ++ line) (no_octets literal sized) in
    subst (λ z. IfOk r (TurnTells utf8 z)) (sym whole) (stops_tell utf8 line tag has r stop stops is)

-- ---- after a literal

-- where a literal is awaited then, no data were
no_data_then : (utf8 : Bool) (tag : List ℕ) (size : ℕ) (a : Awaited) (front literal line : List ℕ) (next : Next) (rest : List ℕ) → IsWholeLine line → IsAtData utf8 a front
    → Comes utf8 (IsAfterLiteral utf8 a literal) line next rest → NoDataThen utf8 front next
no_data_then utf8 tag size a front literal line (Whole c) rest is_line at comes = tt
no_data_then utf8 tag size (awaited.AppendData mailbox flags date in_utf8) front literal line (Awaits more other) rest is_line at comes =
    absurd (no_literal_then utf8 mailbox flags date in_utf8 literal line more other rest comes.0 comes.1 comes.2 (header_ends line more rest is_line comes.0).0)
no_data_then utf8 tag size a front literal line (Awaits more other) rest is_line at comes = at

module _ (utf8 : Bool) (tag : List ℕ) (size : ℕ) (a : Awaited) (front literal line : List ℕ) (l : Leaves (IsCommand utf8) front (left_of utf8 (AfterLiteral tag size a)) []) (reached : Reached utf8 (AfterLiteral tag size a) front) (sized : length literal ≡ size) where
  octets_begin : BeginsWithTag (front ++ (literal ++ line)) tag
  octets_begin = tag_more front (literal ++ line) tag reached.2

  pub is_sized : IsSized (length literal) a
  is_sized = subst (λ z. IsSized z a) (sym sized) reached.1

  pub after_tells : HasNoDataBefore utf8 front → IsWholeLine line → (next : Next) (rest : List ℕ) → IsLiteralBody (length literal) a literal literal → Comes utf8 (IsAfterLiteral utf8 a literal) line next rest
      → TurnTells utf8 (front ++ (literal ++ line)) (went_on tag next)
  after_tells alone is_line next rest body comes =
      let there = literal_leaves utf8 tag size a front literal line l (subst (λ z. IsLiteralBody z a literal literal) sized body) in
      turn_tells utf8 (AfterLiteral tag size a) front literal line reached alone sized is_line (no_command_yet utf8 tag size a front l reached.1) tag next rest
      (no_data_then utf8 tag size a front literal line next rest is_line reached.3 comes) (header_of utf8 (IsAfterLiteral utf8 a literal) line next rest comes) octets_begin
      (tagged_comes utf8 tag (IsCommand utf8) (IsAfterLiteral utf8 a literal) (front ++ (literal ++ line)) line next rest there comes)

  pub after_stops : (r : Result Turn MemoryFault) (stop : Stop) → StopsReading (IsRestAtLiteral utf8 (length literal) a) never (literal ++ line) stop → IfOk r (Stopped (Some tag) stop)
      → IfOk r (TurnTells utf8 (front ++ (literal ++ line)))
  after_stops r stop stops is =
      stops_tell utf8 (front ++ (literal ++ line)) (Some tag) octets_begin r stop
      (literal_stops utf8 tag size a front literal line l stop (subst (λ z. StopsReading (IsRestAtLiteral utf8 z a) never (literal ++ line) stop) sized stops)) is

-- ---- the tag

pub no_tag_open : (line tag : List ℕ) → IsViable IsTag line → BeginsWithTag line tag → ⊥
no_tag_open line tag viable begins =
    let all : list_all is_tag_char (tag ++ 32 ∷ (begins.rest ++ viable.rest)) ≡ true
    = subst (λ z. list_all is_tag_char z ≡ true) (ap (λ z. z ++ viable.rest) begins.whole ∙ append_assoc tag (32 ∷ begins.rest) viable.rest) viable.is_word.passes in
    both_ways (is_tag_char 32) space_is_none (and_parts (is_tag_char 32) (list_all is_tag_char (begins.rest ++ viable.rest)) (pass-parts is_tag_char tag (32 ∷ (begins.rest ++ viable.rest)) all).1).0

pub no_tag_bad : (line tag : List ℕ) (left : ℕ) → FailsAt IsTag (always is_tag_char) line left → BeginsWithTag line tag → ⊥
no_tag_bad line tag left f begins = both_ways (is_tag_char 32) space_is_none (f.hopeless f.back tag (32 ∷ begins.rest) tag begins.is_tag (sym begins.whole ∙ f.whole))

pub no_tag_read : (line word rest tag : List ℕ) → Reads IsTag (always is_tag_char) line word rest → ((others : List ℕ) → rest ≡ 32 ∷ others → ⊥) → BeginsWithTag line tag → ⊥
no_tag_read line word rest tag r none begins = by (r.only rest tag (32 ∷ begins.rest) tag begins.is_tag (self rest) (sym begins.whole ∙ r.whole))
  where
    self : (xs : List ℕ) → BeginsAlike xs xs
    self [] = tt
    self (x ∷ xs) = refl

    by : ((tag ≡ r.word) × (tag ≡ word)) ⊎ BeginsIn (always is_tag_char tag) (32 ∷ begins.rest) → ⊥
    by (inl same) = none begins.rest (append_cancel_left r.word rest (32 ∷ begins.rest) (sym r.whole ∙ (begins.whole ∙ ap (λ z. z ++ 32 ∷ begins.rest) same.0)))
    by (inr passes) = both_ways (is_tag_char 32) space_is_none passes
