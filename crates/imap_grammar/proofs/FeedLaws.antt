-- Where a reader stands when octets were put last, and what it tells of a piece.
use Rattle.std.proofs.Common.{◌≡◌, ℕ, zero, suc, ◌+◌, ◌-◌, ◌<◌, ◌≤◌, Bool, true, false, List, [], ◌++◌, length, take, drop, None, ◌⊎◌, inl, inr, refl, sym, ap, ◌∙◌, subst, append_assoc, append-nil, length-append, if◌then◌else◌, arith}
use Rattle.std.proofs.lemmas.Bool.{both_ways, cases_lt}
use Rattle.std.proofs.lemmas.List.{take-append-drop, drop_all, length-take-le, take_all}
use Rattle.mail_wire.specs.Lines.{first_line}
use Rattle.mail_wire.specs.declared.framing.TheConstants.{LINE_MAX}
use Rattle.imap_words.specs.Going.{Leaves}
use Rattle.imap_words.proofs.Leaving.{leaves_all}
use Rattle.imap_grammar.specs.Commands.{IsCommand}
use Rattle.imap_grammar.specs.Events.{IsWholeLine, NothingBefore, IsDue, Tells, seen_after}
use Rattle.imap_grammar.specs.Standing.{HasSeen, Reached, FitsStage, left_of, IsAtLine, AwaitsFew, size_of, is_data, counted_at, line_with, IsUnderLimit, Finds, HasPut, left_after}
use Rattle.imap_grammar.specs.declared.reader.Stage.{Stage}
use Rattle.imap_grammar.specs.declared.reader.Stage.TheVariants.{Begin, AfterLiteral}
use Rattle.imap_grammar.specs.declared.reader.Reader.{Reader}
use Rattle.imap_grammar.specs.declared.reader.Found.TheVariants as found
use Rattle.imap_grammar.specs.declared.event.TheConstants.{APPEND_MAX}
use Rattle.imap_grammar.specs.declared.event.Event.{Event}
use Rattle.imap_grammar.specs.declared.event.Event.TheVariants as event
use Rattle.imap_grammar.proofs.LineLaws.{right_empty}
use Rattle.imap_grammar.proofs.EventLaws.{count_of}
use Rattle.imap_grammar.proofs.FindLaws.{fits_parts, drop_body, counted_more}
use Rattle.imap_grammar.proofs.WholeLaws.{no_octets}
use Rattle.imap_words.proofs.InLine.{none_here}

-- ---- a reader that has seen nothing

pub stands_begin : (utf8 : Bool) (reader : Reader) → reader.stage ≡ Begin → reader.literal ≡ [] → reader.line ≡ [] → reader.seen ≡ 0 → reader.counted ≡ 0 → HasSeen utf8 reader []
stands_begin utf8 reader stage literal line place counted = record {
  front = [];
  whole = sym (ap (λ z. z ++ reader.line) literal ∙ line);
  so_many = sym place;
  leaves = subst (λ z. Leaves (IsCommand utf8) [] (left_of utf8 z) []) (sym stage) (leaves_all (IsCommand utf8) []);
  reached = subst (λ z. Reached utf8 z []) (sym stage) refl;
  alone = λ head back a e is. right_empty head back (sym e);
  bounded = λ given. absurd (both_ways (is_data reader.stage) (ap is_data stage) given);
  fits = subst (λ z. FitsStage z reader.literal reader.line) (sym stage) literal;
  no_line = ap (λ z. first_line z) line ∙ none_here;
  counts = subst (λ z. reader.counted ≡ counted_at z [] reader.literal reader.line) (sym stage) (omega (arith, counted, ap length literal, ap length line));
  few = omega (arith, counted);
}

-- ---- octets are put last

fits_of : (stage : Stage) (literal line : List ℕ) → length literal ≤ size_of stage → (length literal ≡ size_of stage) ⊎ (line ≡ []) → FitsStage stage literal line
fits_of Begin literal line short either = no_octets literal (omega (arith, short))
fits_of (AfterLiteral tag size a) literal line short either = (short, either)

put_same : (literal line octets : List ℕ) (m : ℕ) → (m ≡ 0) ⊎ (line ≡ []) → (literal ++ take m octets) ++ (line ++ drop m octets) ≡ (literal ++ line) ++ octets
put_same literal line octets m (inl none) =
    ap (λ z. (literal ++ take z octets) ++ (line ++ drop z octets)) none ∙ (ap (λ z. z ++ (line ++ octets)) (append-nil literal) ∙ sym (append_assoc literal line octets))
put_same literal line octets m (inr none) =
    ap (λ z. (literal ++ take m octets) ++ (z ++ drop m octets)) none
    ∙ (append_assoc literal (take m octets) (drop m octets) ∙ (ap (λ z. literal ++ z) (take-append-drop m octets) ∙ ap (λ z. z ++ octets) (sym (ap (λ z. literal ++ z) none ∙ append-nil literal))))

-- the count in both forms
counts_so : (b : Bool) (f l w y z : ℕ) → y ≡ w → z ≡ l + w → (if b then f + w else f + l + w) ≡ (if b then f + y else f + z)
counts_so true f l w y z e g = omega (arith, e)
counts_so false f l w y z e g = omega (arith, g)

drop_none : (n : ℕ) → drop {A = ℕ} n [] ≡ []
drop_none zero = refl
drop_none (suc n) = refl

counted_body : (stage : Stage) (front literal line : List ℕ) → FitsStage stage literal line → counted_at stage front literal line ≡ count_of stage front (literal ++ line)
counted_body stage front literal line fits =
    let f = fits_parts stage literal line fits in
    let following : drop (size_of stage) (literal ++ line) ≡ line
    = ap (λ z. drop (size_of stage) z) (sym (append-nil (literal ++ line))) ∙ (drop_body (size_of stage) literal line [] f.0 f.1 ∙ (ap (λ z. line ++ z) (drop_none (size_of stage - length literal)) ∙ append-nil line)) in
    counts_so (is_data stage) (length front) (length literal) (length line) (length (drop (size_of stage) (literal ++ line))) (length (literal ++ line)) (ap length following) (length-append literal line)

module _ (utf8 : Bool) (reader : Reader) (seen : List ℕ) (s : HasSeen utf8 reader seen) (octets : List ℕ) (after : Reader) (p : HasPut reader octets after) (few : IsUnderLimit reader octets) where
  abbrev pub lacking : ℕ
  lacking = size_of reader.stage - length reader.literal

  parts : (length reader.literal ≤ size_of reader.stage) × ((length reader.literal ≡ size_of reader.stage) ⊎ (reader.line ≡ []))
  parts = fits_parts reader.stage reader.literal reader.line s.fits

  either : (lacking ≡ 0) ⊎ (reader.line ≡ [])
  either = by parts.1
    where
      by : (length reader.literal ≡ size_of reader.stage) ⊎ (reader.line ≡ []) → (lacking ≡ 0) ⊎ (reader.line ≡ [])
      by (inl same) = inl (omega (arith, same))
      by (inr none) = inr none

  body_after : after.literal ++ after.line ≡ (reader.literal ++ reader.line) ++ octets
  body_after = ap (λ z. z ++ after.line) p.literal ∙ (ap (λ z. (reader.literal ++ take lacking octets) ++ z) p.line ∙ put_same reader.literal reader.line octets lacking either)

  whole_after : seen ++ octets ≡ s.front ++ (after.literal ++ after.line)
  whole_after = ap (λ z. z ++ octets) s.whole ∙ (append_assoc s.front (reader.literal ++ reader.line) octets ∙ ap (λ z. s.front ++ z) (sym body_after))

  literal_len : length after.literal ≡ length reader.literal + length (take lacking octets)
  literal_len = ap length p.literal ∙ length-append reader.literal (take lacking octets)

  fits_after : FitsStage reader.stage after.literal after.line
  fits_after = by (cases_lt (length octets) lacking)
    where
      by : (length octets < lacking) ⊎ (lacking ≤ length octets) → FitsStage reader.stage after.literal after.line
      by (inl less) =
          let none : drop lacking octets ≡ [] = drop_all lacking octets (omega (arith, less)) in
          let all : take lacking octets ≡ octets = take_all lacking octets (omega (arith, less)) in
          fits_of reader.stage after.literal after.line (omega (arith, literal_len, ap length all, less, parts.0)) (inr (p.line ∙ (ap (λ z. reader.line ++ z) none ∙ (append-nil reader.line ∙ none_following parts.1 less))))
        where
          none_following : (length reader.literal ≡ size_of reader.stage) ⊎ (reader.line ≡ []) → length octets < lacking → reader.line ≡ []
          none_following (inl same) less = absurd (omega (arith, same, less))
          none_following (inr none) less = none
      by (inr more) =
          let len : length (take lacking octets) ≡ lacking = length-take-le lacking octets more in
          fits_of reader.stage after.literal after.line (omega (arith, literal_len, len, parts.0)) (inl (omega (arith, literal_len, len, parts.0)))

  counts_after : after.counted ≡ counted_at reader.stage s.front after.literal after.line
  counts_after =
      p.counted few ∙ (counted_more utf8 reader seen octets s octets ∙ (ap (λ z. count_of reader.stage s.front z) (sym body_after) ∙ sym (counted_body reader.stage s.front after.literal after.line fits_after)))

  few_after : after.counted ≤ LINE_MAX
  few_after = subst (λ z. z ≤ LINE_MAX) (sym (p.counted few)) few

  bounded_after : AwaitsFew after.stage
  bounded_after given = subst (λ z. size_of z ≤ APPEND_MAX) (sym p.same_stage) (s.bounded (sym (ap is_data p.same_stage) ∙ given))

  pub stands_put : first_line (line_with reader octets) ≡ None → HasSeen utf8 after (seen ++ octets)
  stands_put none = record {
    front = s.front;
    whole = whole_after;
    so_many = s.so_many ∙ sym p.same_seen;
    leaves = subst (λ z. Leaves (IsCommand utf8) s.front (left_of utf8 z) []) (sym p.same_stage) s.leaves;
    reached = subst (λ z. Reached utf8 z s.front) (sym p.same_stage) s.reached;
    alone = s.alone;
    bounded = bounded_after;
    fits = subst (λ z. FitsStage z after.literal after.line) (sym p.same_stage) fits_after;
    no_line = ap (λ z. first_line z) p.line ∙ none;
    counts = subst (λ z. after.counted ≡ counted_at z s.front after.literal after.line) (sym p.same_stage) counts_after;
    few = few_after;
  }

  pub at_line : IsWholeLine (line_with reader octets) → size_of reader.stage ≤ length reader.literal + length octets → IsAtLine utf8 after (seen ++ octets)
  at_line is enough = record {
    front = s.front;
    whole = whole_after;
    so_many = s.so_many ∙ sym p.same_seen;
    leaves = subst (λ z. Leaves (IsCommand utf8) s.front (left_of utf8 z) []) (sym p.same_stage) s.leaves;
    reached = subst (λ z. Reached utf8 z s.front) (sym p.same_stage) s.reached;
    alone = s.alone;
    bounded = bounded_after;
    sized = omega (arith, literal_len, length-take-le lacking octets (omega (arith, enough)), parts.0, ap size_of p.same_stage);
    is_line = subst IsWholeLine (sym p.line) is;
    counts = subst (λ z. after.counted ≡ counted_at z s.front after.literal after.line) (sym p.same_stage) counts_after;
    few = few_after;
  }

pub at_found : (utf8 : Bool) (reader : Reader) (seen piece : List ℕ) → HasSeen utf8 reader seen → (used : ℕ) → used ≤ length piece → Finds utf8 reader seen piece (found.Whole used) → (front : List ℕ) → front ≡ take used piece → (after : Reader) → HasPut reader front after
    → IsAtLine utf8 after (seen ++ take used piece)
at_found utf8 reader seen piece s used fits f front same after p =
    at_line utf8 reader seen s (take used piece) after (subst (λ z. HasPut reader z after) same p) f.4 f.2 (omega (arith, f.3, length-take-le used piece fits))

-- ---- what is told

pub tells_due : (utf8 : Bool) (seen piece : List ℕ) (used : ℕ) (e : Event) → 0 < used → used ≤ length piece → NothingBefore utf8 seen piece used → IsDue utf8 (seen ++ take used piece) e → Tells utf8 seen piece used e
tells_due utf8 seen piece used event.More some fits before due = absurd due
tells_due utf8 seen piece used event.Go some fits before due = (some, fits, before, due)
tells_due utf8 seen piece used (event.Command tag c) some fits before due = (some, fits, before, due)
tells_due utf8 seen piece used (event.Bad tag at) some fits before due = (some, fits, before, due)
tells_due utf8 seen piece used (event.TooLarge tag) some fits before due = (some, fits, before, due)
tells_due utf8 seen piece used event.TooLong some fits before due = (some, fits, before, due)

pub stands_due : (utf8 : Bool) (seen piece : List ℕ) (used : ℕ) (e : Event) (after : Reader) → IsDue utf8 (seen ++ take used piece) e → HasSeen utf8 after (left_after (seen ++ take used piece) e) → HasSeen utf8 after (seen_after seen piece used e)
stands_due utf8 seen piece used event.More after due s = absurd due
stands_due utf8 seen piece used event.Go after due s = s
stands_due utf8 seen piece used (event.Command tag c) after due s = s
stands_due utf8 seen piece used (event.Bad tag at) after due s = s
stands_due utf8 seen piece used (event.TooLarge tag) after due s = s
stands_due utf8 seen piece used event.TooLong after due s = s
