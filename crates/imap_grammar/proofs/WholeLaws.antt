-- What a turn tells of the octets that end a line.
use Rattle.std.proofs.Common.{◌≡◌, ℕ, ◌+◌, ◌-◌, ◌<◌, ◌≤◌, Bool, true, false, List, [], ◌∷◌, ◌++◌, length, drop, Option, Some, None, inl, inr, refl, sym, ap, ◌∙◌, subst, append_assoc, append-nil, length-append, if◌then◌else◌, nat_lt, ◌⊎◌, min, arith}
use Rattle.std.proofs.lemmas.Bool.{both_ways, cases_Bool, cases_lt, ltb-true, lt-ltb}
use Rattle.std.proofs.lemmas.List.{drop_at}
use Rattle.std.specs.Option.{option_map}
use Rattle.mail_wire.specs.Lines.{Cut, first_line, is_crlf, crlf, begun_with}
use Rattle.mail_wire.specs.declared.framing.TheConstants.{LINE_MAX}
use Rattle.mail_wire.proofs.FirstLineLemmas.{first_line-crlf, first_line-other}
use Rattle.imap_words.specs.Languages.{Then, Is, IsViable}
use Rattle.imap_words.specs.Reading.{BeginsAlike, never, Reads, FailsAt, StopsReading}
use Rattle.imap_words.specs.Going.{Leaves}
use Rattle.imap_words.specs.Tokens.{IsTag}
use Rattle.imap_words.specs.declared.stop.Stop.{Stop}
use Rattle.imap_words.specs.declared.stop.Stop.TheVariants.{More}
use Rattle.imap_words.proofs.Starting.{below_or_not}
use Rattle.imap_words.proofs.Going.{never_avoids, is_viable}
use Rattle.imap_words.proofs.Composing.{first_stops}
use Rattle.imap_words.proofs.Leaving.{here, leaves_all, leaves_then, leaves_on, leaves_later}
use Rattle.imap_grammar.specs.Commands.{IsCommand}
use Rattle.imap_grammar.specs.Events.{IsWholeLine, EndsCommandLine, Announces, BeginsWithTag, HasTag, IsFirstBad, Appends, IsAppending, HasData, Counts, IsShort, IsTooLarge, IsDue}
use Rattle.imap_grammar.specs.Awaiting.{IsAfterHeader, IsLiteralBody, IsAfterData, IsAfterLiteral, IsRestAtLiteral, IsSized}
use Rattle.imap_grammar.specs.Standing.{left_of, Reached, HasNoDataBefore, FitsStage, HasSeen, IsAtLine, TurnTells, size_of, is_data, too_large}
use Rattle.imap_grammar.specs.declared.command.Command.{Command}
use Rattle.imap_grammar.specs.declared.awaited.Awaited.{Awaited}
use Rattle.imap_grammar.specs.declared.awaited.Awaited.TheVariants as awaited
use Rattle.imap_grammar.specs.declared.event.Event.TheVariants as event
use Rattle.imap_grammar.specs.declared.event.TheConstants.{APPEND_MAX}
use Rattle.imap_grammar.specs.declared.reader.Reader.{Reader}
use Rattle.imap_grammar.specs.declared.reader.Stage.{Stage}
use Rattle.imap_grammar.specs.declared.reader.Stage.TheVariants.{Begin, AfterLiteral}
use Rattle.imap_grammar.specs.declared.reader.Turn.{Turn}
use Rattle.imap_grammar.specs.declared.reader.Turn.TheVariants as turn
use Rattle.imap_grammar.proofs.LineLaws.{header_form, right_empty, line_some, announces_once}
use Rattle.imap_grammar.proofs.Closing.{LastHas, Ends, ends_line, announces_has, one_line, after_announced, header_line, appending_announces}
use Rattle.imap_grammar.proofs.StageLaws.{tagged, xs, xs_len, body_reads, literal_viable, front_viable, no_command_yet, not_data, data_end, data_end_is, appended, appending_command}
use Rattle.imap_grammar.proofs.EventLaws.{HeadAt, AtFront, AtLine, head_at, first_bad, count_of, AtStage, IsData, NoData, at_stage, data_count, plain_count, if_false, viable_front}
use Rattle.imap_grammar.proofs.TurnLaws.{line_rest, leaves_more, tagged_leaves, same_tag}
use Rattle.imap_words.proofs.InLine.{none_here}

-- ---- a line that ends with a header

octet_before : (x : ℕ) (octets : List ℕ) (cut : Cut) → first_line octets ≡ Some cut → (made : Cut) × (first_line (x ∷ octets) ≡ Some made)
unfolding first_line
octet_before x [] cut e = cc e
octet_before x (y ∷ octets) cut e = elim (cases_Bool (is_crlf x y)) [
  | inl both ↦ (record { line = crlf; rest = octets }, first_line-crlf x y octets both)
  | inr other ↦ (begun_with x cut, first_line-other x y octets other ∙ ap (option_map (begun_with x)) e)
]

-- octets before a line don't take its end away
some_line : (a line : List ℕ) → IsWholeLine line → (cut : Cut) × (first_line (a ++ line) ≡ Some cut)
some_line [] line is = (record { line = line; rest = [] }, is)
some_line (x ∷ a) line is = let next = some_line a line is in octet_before x (a ++ line) next.0 next.1

pub header_ends : (line : List ℕ) (size : ℕ) (rest : List ℕ) → IsWholeLine line → IsAfterHeader line size rest → (rest ≡ []) × LastHas (Some size) line
header_ends line size rest is h =
    let found = some_line h.front h.header (header_line h.header size h.is_header) in
    let none = line_rest line (h.front ++ h.header) rest found.0 is (h.whole ∙ sym (append_assoc h.front h.header rest)) found.1 in
    (none, (h.front, h.header, h.whole ∙ ap (λ z. h.front ++ z) (ap (λ z. h.header ++ z) none ∙ append-nil h.header), h.is_header))

pub no_octets : (literal : List ℕ) → length literal ≡ 0 → literal ≡ []
no_octets [] e = refl
no_octets (x ∷ literal) e = absurd (omega (arith, e))

module _ (utf8 : Bool) (front literal line : List ℕ) where
  pub whole_has : (kind : Option ℕ) (stage : Stage) → Reached utf8 stage front → length literal ≡ size_of stage → IsWholeLine line → LastHas kind line → Ends kind (front ++ (literal ++ line))
  whole_has kind Begin reached sized is has = subst (λ z. Ends kind (z ++ (literal ++ line))) (sym reached) (subst (λ z. Ends kind (z ++ line)) (sym (no_octets literal sized)) (one_line kind line is has))
  whole_has kind (AfterLiteral tag size a) reached sized is has = after_announced kind front literal line size (announces_has front size reached.0) sized (one_line kind line is has)

  pub whole_ends : (stage : Stage) → Reached utf8 stage front → length literal ≡ size_of stage → IsWholeLine line → EndsCommandLine (front ++ (literal ++ line))
  whole_ends stage reached sized is = ends_line (front ++ (literal ++ line)) (whole_has None stage reached sized is tt)

  -- no APPEND up to its data ends before, where none ends at the front
  pub alone_more : (stage : Stage) → Reached utf8 stage front → HasNoDataBefore utf8 front → length literal ≡ size_of stage → IsWholeLine line → ((a : Appends) → IsAppending utf8 front a → ⊥) → HasNoDataBefore utf8 (front ++ (literal ++ line))
  alone_more stage reached alone sized is none head back a e appending = by (head_at utf8 stage front (literal ++ line) head back a reached alone appending (sym e))
    where
      by : HeadAt stage front (literal ++ line) head back → back ≡ []
      by (AtFront s r) = absurd (none a (subst (λ z. IsAppending utf8 z a) s appending))
      by (AtLine others cut f found) = line_rest line others back cut is (sym (drop_at literal line (size_of stage) sized) ∙ f) found

-- a literal is awaited after the whole line
pub awaits_tells : (utf8 : Bool) (octets tag : List ℕ) (size : ℕ) (a : Awaited) → Leaves (IsCommand utf8) octets (left_of utf8 (AfterLiteral tag size a)) [] → IsSized size a → Announces octets size → BeginsWithTag octets tag → HasNoDataBefore utf8 octets
    → TurnTells utf8 octets (turn.Awaits tag size a)
awaits_tells utf8 octets tag size a l some announces begins alone = (l, (announces, some, begins, not_data utf8 tag size a octets l announces some), alone)

end_some : (in_utf8 : Bool) → 0 < length (data_end in_utf8)
end_some true = omega arith
end_some false = omega arith

-- an APPEND up to its data goes on to a command
pub appending_goes : (utf8 : Bool) (octets : List ℕ) (a : Appends) → IsAppending utf8 octets a → (more : List ℕ) × (c : Command) × (0 < length more) × IsCommand utf8 (octets ++ more) (tagged a.tag c)
appending_goes utf8 octets a is =
    let content = xs a.front.announced.size in
    let end = data_end a.front.announced.utf8 in
    (content ++ end, appended a.front content, omega (arith, length-append content end, end_some a.front.announced.utf8), appending_command utf8 octets a content is (xs_len a.front.announced.size))

pub appending_viable : (utf8 : Bool) (octets : List ℕ) (a : Appends) → IsAppending utf8 octets a → IsViable (IsCommand utf8) octets
appending_viable utf8 octets a is = let on = appending_goes utf8 octets a is in record { rest = on.0; value = tagged a.tag on.1; is_word = on.3 }

-- a command is whole
pub whole_tells : (utf8 : Bool) (octets tag : List ℕ) (c : Command) (rest : List ℕ) → Reads (IsCommand utf8) never octets (tagged tag c) rest → rest ≡ [] → TurnTells utf8 octets (turn.Whole tag c)
whole_tells utf8 octets tag c rest r none = (subst (λ z. IsCommand utf8 z (tagged tag c)) (sym all) r.is_word, longer)
  where
    all : octets ≡ r.word
    all = r.whole ∙ (ap (λ z. r.word ++ z) none ∙ append-nil r.word)

    on : (more : List ℕ) → BeginsAlike rest more
    on more = subst (λ z. BeginsAlike z more) (sym none) tt

    longer : (a : Appends) → IsAppending utf8 octets a → ⊥
    longer a is =
        let more = appending_goes utf8 octets a is in
        elim (r.only more.0 (octets ++ more.0) [] (tagged a.tag more.1) more.3 (on more.0) (append-nil _ ∙ ap (λ z. z ++ more.0) all)) [
          | inl same ↦ omega (arith, ap length same.0, ap length all, length-append octets more.0, more.2)
          | inr begins ↦ absurd begins
        ]

-- an octet is bad
pub bad_tells : (utf8 : Bool) (octets : List ℕ) (tag : Option (List ℕ)) (left : ℕ) → FailsAt (IsCommand utf8) never octets left → HasTag octets tag → TurnTells utf8 octets (turn.Bad tag left)
bad_tells utf8 octets tag left f has = (omega (arith, ap length f.whole, length-append f.front (f.octet ∷ f.back), f.left_is), first_bad (IsCommand utf8) octets left f, has)

-- ---- after a literal

module _ (utf8 : Bool) (tag : List ℕ) (size : ℕ) (a : Awaited) (front literal line : List ℕ) (l : Leaves (IsCommand utf8) front (left_of utf8 (AfterLiteral tag size a)) []) where
  pub literal_leaves : IsLiteralBody size a literal literal → Leaves (IsCommand utf8) (front ++ (literal ++ line)) (Then (IsAfterLiteral utf8 a literal) (λ c. Is (tagged tag c))) line
  literal_leaves body =
      leaves_on (IsCommand utf8) (left_of utf8 (AfterLiteral tag size a)) (Then (IsAfterLiteral utf8 a literal) (λ c. Is (tagged tag c))) (front ++ (literal ++ line)) (literal ++ line) line
      (leaves_more (IsCommand utf8) (left_of utf8 (AfterLiteral tag size a)) front (literal ++ line) l)
      (tagged_leaves tag (IsRestAtLiteral utf8 size a) (IsAfterLiteral utf8 a literal) (literal ++ line) line
      (leaves_then (leaves_all (IsRestAtLiteral utf8 size a) (literal ++ line)) (body_reads size a literal line body) (λ u. never_avoids _)))

  pub literal_stops : (stop : Stop) → StopsReading (IsRestAtLiteral utf8 size a) never (literal ++ line) stop → StopsReading (IsCommand utf8) never (front ++ (literal ++ line)) stop
  literal_stops stop s =
      (leaves_later (IsCommand utf8) (left_of utf8 (AfterLiteral tag size a)) front (literal ++ line) l).stops never stop
      (first_stops (IsRestAtLiteral utf8 size a) (λ c. Is (tagged tag c)) never never (literal ++ line) stop s (λ u. never_avoids _) (λ u. is_viable _))

-- after data no literal is awaited
pub no_literal_then : (utf8 : Bool) (mailbox : List ℕ) (flags : ℕ) (date : Option (List ℕ)) (in_utf8 : Bool) (octets line : List ℕ) (size : ℕ) (a : Awaited) (rest : List ℕ)
    → IsAfterHeader line size rest → IsSized size a → Leaves (IsAfterData mailbox flags date in_utf8 octets) line (IsRestAtLiteral utf8 size a) rest → rest ≡ [] → ⊥
no_literal_then utf8 mailbox flags date in_utf8 octets line size a rest h some l none =
    let viable = (here l).stops never More (subst (λ z. IsViable (IsRestAtLiteral utf8 size a) z) (sym none) (literal_viable utf8 (mailbox) size a some)) in
    let is = viable.is_word in
    let f = header_form h.header size h.is_header in
    short in_utf8 (line ++ viable.rest) (is.whole ∙ (ap (λ z. is.front ++ z) is.second.0 ∙ (append-nil is.front ∙ (data_end_is in_utf8 is.front is.value is.first).0)))
    (omega (arith, length-append line viable.rest, ap length h.whole, length-append h.front (h.header ++ rest), length-append h.header rest, ap length f.spelled, length-append f.digits (125 ∷ 13 ∷ 10 ∷ []), f.is_number.some))
  where
    short : (in_utf8 : Bool) (all : List ℕ) → all ≡ data_end in_utf8 → 4 ≤ length all → ⊥
    short true all e long = omega (arith, ap length e, long)
    short false all e long = omega (arith, ap length e, long)

-- ---- what is due at a whole line

large_is : (size : ℕ) (a : Awaited) → too_large size a ≡ true → APPEND_MAX < size
large_is size (awaited.AppendData mailbox flags date in_utf8) e = ltb-true APPEND_MAX size e
large_is size a e = absurd (both_ways false refl e)

large_data : (tag : List ℕ) (size : ℕ) (a : Awaited) → too_large size a ≡ true → is_data (AfterLiteral tag size a) ≡ true
large_data tag size (awaited.AppendData mailbox flags date in_utf8) e = refl
large_data tag size a e = absurd (both_ways false refl e)

small_is : (size : ℕ) (a : Awaited) (tag : List ℕ) → is_data (AfterLiteral tag size a) ≡ true → too_large size a ≡ false → size ≤ APPEND_MAX
small_is size (awaited.AppendData mailbox flags date in_utf8) tag given e = by (cases_lt APPEND_MAX size)
  where
    by : (APPEND_MAX < size) ⊎ (size ≤ APPEND_MAX) → size ≤ APPEND_MAX
    by (inl large) = absurd (both_ways (nat_lt APPEND_MAX size) e (lt-ltb APPEND_MAX size large))
    by (inr small) = small
small_is size a tag given e = absurd (both_ways false refl given)

-- an APPEND up to its data begins with its tag
pub appending_tag : (utf8 : Bool) (octets : List ℕ) (a : Appends) → IsAppending utf8 octets a → BeginsWithTag octets a.tag
appending_tag utf8 octets a is =
    let sp = is.second in
    let w = sp.second in
    let f = w.second in
    let same : is.front ≡ a.tag = sym is.first.value_is ∙ sym (ap (λ (z : Appends). z.tag) f.second.1) in
    record {
      rest = sp.back;
      whole = is.whole ∙ (ap (λ z. z ++ is.back) same ∙ ap (λ z. a.tag ++ z) (sp.whole ∙ ap (λ z. z ++ sp.back) sp.first.0));
      is_tag = subst (λ z. IsTag z z) same (record { some = is.first.some; passes = is.first.passes; value_is = refl });
    }

module _ (utf8 : Bool) (reader : Reader) (seen : List ℕ) (s : IsAtLine utf8 reader seen) where
  abbrev pub body : List ℕ
  body = reader.literal ++ reader.line

  line_is : drop (size_of reader.stage) body ≡ reader.line
  line_is = drop_at reader.literal reader.line (size_of reader.stage) s.sized

  counted_is : reader.counted ≡ count_of reader.stage s.front body
  counted_is = s.counts ∙ sum (is_data reader.stage) (length s.front) (length reader.literal) (length reader.line) (length (drop (size_of reader.stage) body)) (length body) (ap length line_is) (length-append reader.literal reader.line)
    where
      sum : (b : Bool) (f l w y z : ℕ) → y ≡ w → z ≡ l + w → (if b then f + w else f + l + w) ≡ (if b then f + y else f + z)
      sum true f l w y z e g = omega (arith, e)
      sum false f l w y z e g = omega (arith, g)

  seen_len : length seen ≡ reader.seen + length reader.literal + length reader.line
  seen_len = ap length s.whole ∙ (length-append s.front body ∙ omega (arith, s.so_many, length-append reader.literal reader.line))

  seen_few : length seen ≤ LINE_MAX + APPEND_MAX
  seen_few = omega (arith, seen_len, s.so_many, sum (is_data reader.stage) (length s.front) (length reader.literal) (length reader.line) (size_of reader.stage) reader.counted s.counts s.few s.sized s.bounded)
    where
      sum : (b : Bool) (f l w size counted : ℕ) → counted ≡ (if b then f + w else f + l + w) → counted ≤ LINE_MAX → l ≡ size → (b ≡ true → size ≤ APPEND_MAX) → f + l + w ≤ LINE_MAX + APPEND_MAX
      sum true f l w size counted is few same bounded = omega (arith, is, few, same, bounded refl)
      sum false f l w size counted is few same bounded = omega (arith, is, few)

  -- a count of all octets runs over nowhere
  pub seen_count : (m n : ℕ) → m ≡ min (reader.seen + length reader.literal) 18446744073709551615 → n ≡ min (m + length reader.line) 18446744073709551615 → n ≡ length seen
  seen_count m n first second = omega (arith, first, second, seen_len, seen_few)

  -- what a turn tells of the literal and the line, it tells of all
  pub turned : (line : List ℕ) → line ≡ reader.line → (t : Turn)
      → ((front : List ℕ) → Leaves (IsCommand utf8) front (left_of utf8 reader.stage) [] → Reached utf8 reader.stage front → HasNoDataBefore utf8 front → length reader.literal ≡ size_of reader.stage → IsWholeLine line → TurnTells utf8 (front ++ (reader.literal ++ line)) t)
      → TurnTells utf8 seen t
  turned line same t observed =
      subst (λ z. TurnTells utf8 z t) (ap (λ z. s.front ++ (reader.literal ++ z)) same ∙ sym s.whole) (observed s.front s.leaves s.reached s.alone s.sized (subst IsWholeLine (sym same) s.is_line))

  -- the line ends here
  pub is_end : EndsCommandLine seen
  is_end = subst EndsCommandLine (sym s.whole) (whole_ends utf8 s.front reader.literal reader.line reader.stage s.reached s.sized s.is_line)

  few : count_of reader.stage s.front body ≤ LINE_MAX
  few = subst (λ z. z ≤ LINE_MAX) counted_is s.few

  -- an APPEND up to its data is the whole, where its front isn't at data
  whole_appending : ((a : Appends) → IsAppending utf8 s.front a → ⊥) → (others : ℕ) → HasData utf8 (s.front ++ body) others → (others ≡ length s.front + length body) × ((a : Appends) × IsAppending utf8 (s.front ++ body) a)
  whole_appending none others has = by (head_at utf8 reader.stage s.front body has.head (has.content ++ has.back) has.appends s.reached s.alone has.is_head (sym has.whole))
    where
      by : HeadAt reader.stage s.front body has.head (has.content ++ has.back) → (others ≡ length s.front + length body) × ((a : Appends) × IsAppending utf8 (s.front ++ body) a)
      by (AtFront f r) = absurd (none has.appends (subst (λ z. IsAppending utf8 z has.appends) f has.is_head))
      by (AtLine more cut e found) =
          let empty = line_rest reader.line more (has.content ++ has.back) cut s.is_line (sym line_is ∙ e) found in
          let whole : has.head ≡ s.front ++ body = sym (has.whole ∙ (ap (λ z. has.head ++ z) empty ∙ append-nil has.head)) in
          (omega (arith, has.count, ap length whole, length-append s.front body, ap length empty, length-append has.content has.back), (has.appends, subst (λ z. IsAppending utf8 z has.appends) whole has.is_head))

  whole_counts : ((a : Appends) × IsAppending utf8 seen a) ⊎ ((a : Appends) → IsAppending utf8 seen a → ⊥) → Counts utf8 (s.front ++ body) (count_of reader.stage s.front body)
  whole_counts either = by (at_stage utf8 reader.stage s.front s.reached) either
    where
      by : AtStage utf8 reader.stage s.front → ((a : Appends) × IsAppending utf8 seen a) ⊎ ((a : Appends) → IsAppending utf8 seen a → ⊥) → Counts utf8 (s.front ++ body) (count_of reader.stage s.front body)
      by (IsData given a is same) e = data_count utf8 reader.stage s.front body a given is same
      by (NoData lacks none) (inr nowhere) =
          plain_count utf8 reader.stage s.front body lacks
          (inr (λ others has. nowhere (whole_appending none others has).1.0 (subst (λ z. IsAppending utf8 z (whole_appending none others has).1.0) (sym s.whole) (whole_appending none others has).1.1), sym (length-append s.front body)))
      by (NoData lacks none) (inl there) =
          plain_count utf8 reader.stage s.front body lacks
          (inl (record {
            head = s.front ++ body;
            content = [];
            back = [];
            appends = there.0;
            whole = sym (append-nil (s.front ++ body));
            is_head = subst (λ z. IsAppending utf8 z there.0) s.whole there.1;
            sized = elim (below_or_not 0 there.0.front.announced.size) [ inl some ↦ inr (some, refl) | inr none ↦ inl (omega (arith, none)) ];
            count = omega (arith, length-append s.front body);
          }))

  pub is_short : ((a : Appends) × IsAppending utf8 seen a) ⊎ ((a : Appends) → IsAppending utf8 seen a → ⊥) → IsShort utf8 seen
  is_short either = (count_of reader.stage s.front body, subst (λ z. Counts utf8 z (count_of reader.stage s.front body)) (sym s.whole) (whole_counts either), few)

  pub due_command : (tag : List ℕ) (c : Command) → TurnTells utf8 seen (turn.Whole tag c) → IsDue utf8 seen (event.Command tag c)
  due_command tag c observed = (is_short (inr observed.1), observed.0)

  pub due_bad : (tag : Option (List ℕ)) (left at : ℕ) → at ≡ length seen - left → TurnTells utf8 seen (turn.Bad tag left) → IsDue utf8 seen (event.Bad tag at)
  due_bad tag left at e observed =
      (is_short (inr (λ a is. observed.1.bad (viable_front (IsCommand utf8) seen (length seen - left + 1) (appending_viable utf8 seen a is)))), is_end, subst (λ z. IsFirstBad (IsCommand utf8) seen z) (sym e) observed.1, observed.2)

  module _ (tag : List ℕ) (size : ℕ) (a : Awaited) (observed : TurnTells utf8 seen (turn.Awaits tag size a)) where
    appending_or_not : ((b : Appends) × IsAppending utf8 seen b) ⊎ ((b : Appends) → IsAppending utf8 seen b → ⊥)
    appending_or_not = by (at_stage utf8 (AfterLiteral tag size a) seen observed.1)
      where
        by : AtStage utf8 (AfterLiteral tag size a) seen → ((b : Appends) × IsAppending utf8 seen b) ⊎ ((b : Appends) → IsAppending utf8 seen b → ⊥)
        by (IsData given b is same) = inl (b, is)
        by (NoData lacks none) = inr none

    -- the literal is too large
    pub due_large : too_large size a ≡ true → IsDue utf8 seen (event.TooLarge tag)
    due_large large = (is_short appending_or_not, by (at_stage utf8 (AfterLiteral tag size a) seen observed.1))
      where
        by : AtStage utf8 (AfterLiteral tag size a) seen → IsTooLarge utf8 seen tag
        by (IsData given b is same) = (b, is, same_tag seen tag b.tag observed.1.2 (appending_tag utf8 seen b is), omega (arith, large_is size a large, same))
        by (NoData lacks none) = absurd (both_ways (is_data (AfterLiteral tag size a)) lacks (large_data tag size a large))

    pub due_go : too_large size a ≡ false → IsDue utf8 seen event.Go
    due_go small = (
      is_short appending_or_not,
      record {
        ends = is_end;
        viable = front_viable utf8 tag size a seen observed.0 observed.1.1;
        no_command = λ c is. no_command_yet utf8 tag size a seen observed.0 observed.1.1 seen [] c is (append-nil seen);
        not_large = λ other is. not_large (at_stage utf8 (AfterLiteral tag size a) seen observed.1) other is;
      },
    )
      where
        not_large : AtStage utf8 (AfterLiteral tag size a) seen → (other : List ℕ) → IsTooLarge utf8 seen other → ⊥
        not_large (IsData given b is same) other large =
            let sizes : size ≡ large.0.front.announced.size = announces_once seen size large.0.front.announced.size observed.1.0 (appending_announces utf8 seen large.0 large.1) in
            omega (arith, sizes, large.3, small_is size a tag given small)
        not_large (NoData lacks none) other large = none large.0 large.1

    -- the reader stands after the header
    pub stands_go : too_large size a ≡ false → (after : Reader) → after.stage ≡ AfterLiteral tag size a → after.literal ≡ [] → after.line ≡ [] → after.seen ≡ length seen → after.counted ≡ reader.counted → HasSeen utf8 after seen
    stands_go small after stage literal line place counted = record {
      front = seen;
      whole = sym (ap (λ z. seen ++ (z ++ after.line)) literal ∙ (ap (λ z. seen ++ z) line ∙ append-nil seen));
      so_many = sym place;
      leaves = subst (λ z. Leaves (IsCommand utf8) seen (left_of utf8 z) []) (sym stage) observed.0;
      reached = subst (λ z. Reached utf8 z seen) (sym stage) observed.1;
      alone = observed.2;
      bounded = λ given. subst (λ z. size_of z ≤ APPEND_MAX) (sym stage) (small_is size a tag (sym (ap is_data stage) ∙ given) small);
      fits = subst (λ z. FitsStage z after.literal after.line) (sym stage) (omega (arith, ap length literal), inr line);
      no_line = ap (λ z. first_line z) line ∙ none_here;
      counts = counted ∙ (counted_is ∙ (all (at_stage utf8 reader.stage s.front s.reached) ∙ sym (both (is_data after.stage) (ap length literal) (ap length line))));
      few = subst (λ z. z ≤ LINE_MAX) (sym counted) s.few;
    }
      where
        both : (b : Bool) → length after.literal ≡ 0 → length after.line ≡ 0 → (if b then length seen + length after.line else length seen + length after.literal + length after.line) ≡ length seen
        both true e g = omega (arith, g)
        both false e g = omega (arith, e, g)

        some_body : body ≡ [] → ⊥
        some_body e = line_some reader.line s.is_line (right_empty reader.literal reader.line e)

        all : AtStage utf8 reader.stage s.front → count_of reader.stage s.front body ≡ length seen
        all (IsData given b is same) = absurd (some_body (observed.2 s.front body b s.whole is))
        all (NoData lacks none) = sym (if_false (is_data reader.stage) (length s.front + length (drop (size_of reader.stage) body)) (length s.front + length body) lacks) ∙ (sym (length-append s.front body) ∙ sym (ap length s.whole))
