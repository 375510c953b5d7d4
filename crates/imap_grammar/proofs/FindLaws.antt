-- Where the line ends that a reader awaits: nothing is due before, and whether the octets are too many.
use Rattle.std.proofs.Common.{◌≡◌, ℕ, ◌+◌, ◌-◌, ◌<◌, ◌≤◌, Bool, true, false, List, [], ◌++◌, length, take, drop, None, ◌⊎◌, inl, inr, sym, ap, ◌∙◌, subst, append_assoc, append-nil, length-append, if◌then◌else◌, arith, ◌∷◌, Some, refl}
use Rattle.std.proofs.lemmas.Bool.{cases_Bool, cases_lt}
use Rattle.std.proofs.lemmas.List.{take-append-drop, drop_at, drop_all, length-take-le, length-drop, take-take, drop-take}
use Rattle.std.specs.Option.{option_map}
use Rattle.mail_wire.specs.Lines.{Cut, first_line, is_crlf, begun_with}
use Rattle.mail_wire.proofs.FirstLineLemmas.{first_line-crlf, first_line-other, first_line-cut, unput}
use Rattle.mail_wire.specs.declared.framing.TheConstants.{LINE_MAX}
use Rattle.imap_grammar.specs.Events.{IsWholeLine, Counts, IsShort, NothingBefore}
use Rattle.imap_grammar.specs.Standing.{HasSeen, FitsStage, size_of, is_data, line_with, HasLineEnd, counting, IsUnderLimit, Finds}
use Rattle.imap_grammar.specs.declared.reader.Stage.{Stage}
use Rattle.imap_grammar.specs.declared.reader.Stage.TheVariants.{Begin, AfterLiteral}
use Rattle.imap_grammar.specs.declared.reader.Reader.{Reader}
use Rattle.imap_grammar.specs.declared.reader.Found.TheVariants as found
use Rattle.imap_grammar.proofs.LineLaws.{cut_same}
use Rattle.imap_grammar.proofs.Closing.{crlf_line}
use Rattle.imap_grammar.proofs.EventLaws.{drop_append, front_none, line_front_none, Quiet, count_of, nothing_before, least}

pub fits_parts : (stage : Stage) (literal line : List ℕ) → FitsStage stage literal line → (length literal ≤ size_of stage) × ((length literal ≡ size_of stage) ⊎ (line ≡ []))
fits_parts Begin literal line none = (omega (arith, ap length none), inl (ap length none))
fits_parts (AfterLiteral tag size a) literal line fits = fits

-- octets after the literal stand in the line
pub drop_body : (size : ℕ) (literal line octets : List ℕ) → length literal ≤ size → (length literal ≡ size) ⊎ (line ≡ []) → drop size ((literal ++ line) ++ octets) ≡ line ++ drop (size - length literal) octets
drop_body size literal line octets fits (inl same) =
    let none : 0 ≡ size - length literal = omega (arith, same) in
    ap (λ z. drop size z) (append_assoc literal line octets) ∙ (drop_at literal (line ++ octets) size same ∙ ap (λ m. line ++ drop m octets) none)
drop_body size literal line octets fits (inr none) =
    ap (λ z. drop size z) (append_assoc literal line octets ∙ ap (λ z. literal ++ (z ++ octets)) none)
    ∙ (drop_append size literal octets ∙ (ap (λ z. z ++ drop (size - length literal) octets) (drop_all size literal fits) ∙ ap (λ z. z ++ drop (size - length literal) octets) (sym none)))

sums : (b : Bool) (f l w d x y z : ℕ) → y ≡ w + d → z ≡ (l + w) + x → (if b then f + w else f + l + w) + (if b then d else x) ≡ (if b then f + y else f + z)
sums true f l w d x y z e g = omega (arith, e)
sums false f l w d x y z e g = omega (arith, g)

more_counts : (b : Bool) (missing : ℕ) (m n : ℕ) (xs ys : List ℕ) → length xs ≡ m → length ys ≡ n → m ≤ n → (if b then length (drop missing xs) else length xs) ≤ (if b then length (drop missing ys) else length ys)
more_counts true missing m n xs ys e f less = omega (arith, e, f, less, length-drop missing xs, length-drop missing ys)
more_counts false missing m n xs ys e f less = omega (arith, e, f, less)

module _ (utf8 : Bool) (reader : Reader) (seen piece : List ℕ) (s : HasSeen utf8 reader seen) where
  abbrev pub missing : ℕ
  missing = size_of reader.stage - length reader.literal

  abbrev pub body : List ℕ
  body = reader.literal ++ reader.line

  pub following : (octets : List ℕ) → drop (size_of reader.stage) (body ++ octets) ≡ line_with reader octets
  following octets = let f = fits_parts reader.stage reader.literal reader.line s.fits in drop_body (size_of reader.stage) reader.literal reader.line octets f.0 f.1

  pub counted_more : (octets : List ℕ) → reader.counted + counting reader octets ≡ count_of reader.stage s.front (body ++ octets)
  counted_more octets =
      ap (λ z. z + counting reader octets) s.counts
      ∙ sums (is_data reader.stage) (length s.front) (length reader.literal) (length reader.line) (length (drop missing octets)) (length octets) (length (drop (size_of reader.stage) (body ++ octets))) (length (body ++ octets))
      (ap length (following octets) ∙ length-append reader.line (drop missing octets))
      (length-append body octets ∙ ap (λ z. z + length octets) (length-append reader.literal reader.line))

  few_fronts : (n m : ℕ) → n ≤ m → m ≤ length piece → IsUnderLimit reader (take m piece) → IsUnderLimit reader (take n piece)
  few_fronts n m less fits few =
      let more = more_counts (is_data reader.stage) missing n m (take n piece) (take m piece) (length-take-le n piece (omega (arith, less, fits))) (length-take-le m piece fits) less in
      omega (arith, more, few)

  -- a front of the line
  line_parts : (n : ℕ) (octets : List ℕ) → line_with reader octets ≡ line_with reader (take n octets) ++ drop (missing - length (take n octets)) (drop n octets)
  line_parts n octets =
      ap (λ z. reader.line ++ z) (ap (λ z. drop missing z) (sym (take-append-drop n octets)) ∙ drop_append missing (take n octets) (drop n octets))
      ∙ sym (append_assoc reader.line (drop missing (take n octets)) (drop (missing - length (take n octets)) (drop n octets)))

  quiet_open : first_line (line_with reader piece) ≡ None → (n : ℕ) → Quiet reader.stage (body ++ take n piece)
  quiet_open none n =
      ap (λ z. first_line z) (following (take n piece))
      ∙ front_none (line_with reader (take n piece)) (drop (missing - length (take n piece)) (drop n piece)) (ap (λ z. first_line z) (sym (line_parts n piece)) ∙ none)

  quiet_line : (end : ℕ) → end ≤ length piece → IsWholeLine (line_with reader (take end piece)) → (n : ℕ) → n < end → Quiet reader.stage (body ++ take n piece)
  quiet_line end fits is n less = ap (λ z. first_line z) (following (take n piece)) ∙ elim (cases_lt n missing) [
    | inl within ↦
        let short : length (take n piece) ≤ missing = omega (arith, within, length-take-le n piece (omega (arith, less, fits))) in
        ap (λ z. first_line z) (ap (λ z. reader.line ++ z) (drop_all missing (take n piece) short) ∙ append-nil reader.line) ∙ s.no_line
    | inr past ↦
        let short : take n (take end piece) ≡ take n piece = take-take n end piece (omega (arith, less)) in
        let parts : line_with reader (take end piece) ≡ line_with reader (take n piece) ++ drop (missing - length (take n piece)) (drop n (take end piece))
        = line_parts n (take end piece) ∙ ap (λ z. line_with reader z ++ drop (missing - length z) (drop n (take end piece))) short in
        line_front_none (line_with reader (take n piece)) (drop (missing - length (take n piece)) (drop n (take end piece))) (subst IsWholeLine parts is)
        (omega (arith, past, less, length-drop (missing - length (take n piece)) (drop n (take end piece)), length-drop n (take end piece), length-take-le end piece fits, length-take-le n piece (omega (arith, less, fits))))
  ]

  seen_is : (octets : List ℕ) → seen ++ octets ≡ s.front ++ (body ++ octets)
  seen_is octets = ap (λ z. z ++ octets) s.whole ∙ append_assoc s.front body octets

  before : (used : ℕ) → used ≤ length piece + 1 → ((n : ℕ) → n < used → Quiet reader.stage (body ++ take n piece) × IsUnderLimit reader (take n piece)) → NothingBefore utf8 seen piece used
  before used fits each = subst (λ z. NothingBefore utf8 z piece used) (sym s.whole) (nothing_before utf8 reader.stage s.front body piece used s.reached s.alone fits all)
    where
      all : (n : ℕ) → n < used → Quiet reader.stage (body ++ take n piece) × count_of reader.stage s.front (body ++ take n piece) ≤ LINE_MAX
      all n less = let q = each n less in (q.0, subst (λ z. z ≤ LINE_MAX) (counted_more (take n piece)) q.1)

  too_many : (used : ℕ) → Quiet reader.stage (body ++ take used piece) ⊎ IsWholeLine (drop (size_of reader.stage) (body ++ take used piece)) → LINE_MAX < reader.counted + counting reader (take used piece) → IsShort utf8 (seen ++ take used piece) → ⊥
  too_many used at many short =
      let bound = least utf8 reader.stage s.front (body ++ take used piece) s.reached s.alone at short.0 (subst (λ z. Counts utf8 z short.0) (seen_is (take used piece)) short.1) in
      omega (arith, many, counted_more (take used piece), bound, short.2)

  pub finds_waiting : first_line (line_with reader piece) ≡ None → IsUnderLimit reader (take (length piece) piece) → IsUnderLimit reader piece → Finds utf8 reader seen piece found.Waiting
  finds_waiting none few all =
      (before (length piece + 1) (omega arith) (λ n less. (quiet_open none n, few_fronts n (length piece) (omega (arith, less)) (omega arith) few)), none, all)

  pub finds_whole : (used : ℕ) → 0 < used → used ≤ length piece → IsWholeLine (line_with reader (take used piece)) → size_of reader.stage ≤ length reader.literal + used → IsUnderLimit reader (take used piece) → Finds utf8 reader seen piece (found.Whole used)
  finds_whole used some fits is all few = (some, before used (omega (arith, fits)) (λ n less. (quiet_line used fits is n less, few_fronts n used (omega (arith, less)) fits few)), is, all, few)

  pub finds_long_open : (used last : ℕ) → used ≡ last + 1 → used ≤ length piece → first_line (line_with reader piece) ≡ None → IsUnderLimit reader (take last piece) → LINE_MAX < reader.counted + counting reader (take used piece)
      → Finds utf8 reader seen piece (found.TooLong used)
  finds_long_open used last e fits none few many =
      (omega (arith, e), before used (omega (arith, fits)) (λ n less. (quiet_open none n, few_fronts n last (omega (arith, less, e)) (omega (arith, e, fits)) few)), too_many used (inl (quiet_open none used)) many)

  pub finds_long_line : (used last end : ℕ) → used ≡ last + 1 → used ≤ end → end ≤ length piece → IsWholeLine (line_with reader (take end piece)) → IsUnderLimit reader (take last piece) → LINE_MAX < reader.counted + counting reader (take used piece)
      → Finds utf8 reader seen piece (found.TooLong used)
  finds_long_line used last end e less fits is few many =
      (omega (arith, e), before used (omega (arith, less, fits)) (λ n l. (quiet_line end fits is n (omega (arith, l, less)), few_fronts n last (omega (arith, l, e)) (omega (arith, e, less, fits)) few)), too_many used at many)
    where
      at : Quiet reader.stage (body ++ take used piece) ⊎ IsWholeLine (drop (size_of reader.stage) (body ++ take used piece))
      at = elim (cases_lt used end) [
        | inl shorter ↦ inl (quiet_line end fits is used shorter)
        | inr same ↦ let e : end ≡ used = omega (arith, same, less) in inr (subst IsWholeLine (ap (λ m. line_with reader (take m piece)) e ∙ sym (following (take used piece))) is)
      ]

-- ---- the end of the line in a piece

-- what is cut off is a line
cut_line : (octets : List ℕ) (cut : Cut) → first_line octets ≡ Some cut → IsWholeLine cut.line
unfolding first_line
cut_line [] cut e = cc e
cut_line (x ∷ []) cut e = cc e
cut_line (x ∷ y ∷ rest) cut e = elim (cases_Bool (is_crlf x y)) [
  | inl both ↦ subst (λ (z : Cut). IsWholeLine z.line) (cut_same (sym (first_line-crlf x y rest both) ∙ e)) crlf_line
  | inr other ↦ longer other (λ next found. cut_line (y ∷ rest) next found) (unput x cut (first_line (y ∷ rest)) (sym (first_line-other x y rest other) ∙ e))
]
  where
    before : (next : List ℕ) → is_crlf x y ≡ false → 2 ≤ length next → (others : List ℕ) → y ∷ rest ≡ next ++ others → IsWholeLine next → IsWholeLine (x ∷ next)
    before [] other some others parts is = absurd (omega (arith, some))
    before (z ∷ next) other some others parts is =
        let same : y ≡ z = cc parts in
        first_line-other x z next (subst (λ w. is_crlf x w ≡ false) same other) ∙ ap (option_map (begun_with x)) is

    longer : is_crlf x y ≡ false → ((next : Cut) → first_line (y ∷ rest) ≡ Some next → IsWholeLine next.line) → (next : Cut) × (first_line (y ∷ rest) ≡ Some next) × (cut ≡ record { line = x ∷ next.line; rest = next.rest }) → IsWholeLine cut.line
    longer other lines found =
        let is_cut = first_line-cut (y ∷ rest) found.0 found.1 in
        subst (λ (z : Cut). IsWholeLine z.line) (sym found.2) (before found.0.line other is_cut.some found.0.rest is_cut.parts (lines found.0 found.1))

pub end_short : (reader : Reader) (piece : List ℕ) (wanted : ℕ) → wanted ≡ size_of reader.stage - length reader.literal → length piece < wanted → first_line reader.line ≡ None → first_line (line_with reader piece) ≡ None
end_short reader piece wanted e short none =
    let all : length piece ≤ size_of reader.stage - length reader.literal = omega (arith, e, short) in
    ap (λ z. first_line z) (ap (λ z. reader.line ++ z) (drop_all (size_of reader.stage - length reader.literal) piece all) ∙ append-nil reader.line) ∙ none

pub end_found : (reader : Reader) (piece following : List ℕ) (wanted end used : ℕ) (rest : List ℕ) → wanted ≡ size_of reader.stage - length reader.literal → following ≡ drop wanted piece → used ≡ wanted + end
    → first_line (reader.line ++ following) ≡ Some (record { line = reader.line ++ take end following; rest = rest }) → IsWholeLine (line_with reader (take used piece)) × (size_of reader.stage ≤ length reader.literal + used)
end_found reader piece following wanted end used rest e b u found =
    let line : IsWholeLine (reader.line ++ take end following) = cut_line (reader.line ++ following) (record { line = reader.line ++ take end following; rest = rest }) found in
    let same : take end following ≡ drop (size_of reader.stage - length reader.literal) (take used piece)
    = ap (λ z. take end z) b ∙ (sym (drop-take wanted end piece) ∙ (ap (λ m. drop wanted (take m piece)) (sym u) ∙ ap (λ m. drop m (take used piece)) e)) in
    (subst (λ z. IsWholeLine (reader.line ++ z)) same line, omega (arith, e, u))

pub end_found_at : (reader : Reader) (piece kept following : List ℕ) (wanted end : ℕ) → kept ≡ reader.line → wanted ≡ size_of reader.stage - length reader.literal → following ≡ drop wanted piece
    → (first_line kept ≡ None → first_line (kept ++ following) ≡ Some (record { line = kept ++ take end following; rest = drop end following })) → first_line reader.line ≡ None
    → IsWholeLine (line_with reader (take (wanted + end) piece)) × (size_of reader.stage ≤ length reader.literal + (wanted + end))
end_found_at reader piece kept following wanted end k w b found none =
    let here = subst (λ z. first_line z ≡ None → first_line (z ++ following) ≡ Some (record { line = z ++ take end following; rest = drop end following })) k found in
    end_found reader piece following wanted end (wanted + end) (drop end following) w b refl (here none)

-- A line ends there also where one ended before.
pub end_there : (reader : Reader) (piece kept following : List ℕ) (wanted end : ℕ) → kept ≡ reader.line → wanted ≡ size_of reader.stage - length reader.literal → following ≡ drop wanted piece
    → (first_line kept ≡ None → first_line (kept ++ following) ≡ Some (record { line = kept ++ take end following; rest = drop end following })) → HasLineEnd (line_with reader (take (wanted + end) piece))
end_there reader piece kept following wanted end k w b found none =
    other (sym none ∙ (end_found_at reader piece kept following wanted end k w b found (front_none reader.line (drop (size_of reader.stage - length reader.literal) (take (wanted + end) piece)) none)).0)
  where
    other : {cut : Cut} → None ≡ Some cut → ⊥
    other same = cc same
