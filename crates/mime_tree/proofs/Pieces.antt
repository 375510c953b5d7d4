-- One part after another.
use Rattle.std.proofs.Common.{◌≡◌, ℕ, ◌+◌, List, [], ◌∷◌, ◌++◌, Bool, true, false, ◌||◌, arith, refl, sym, ap, ◌∙◌, append-nil, append_assoc}
use Rattle.std.proofs.lemmas.Bool.{or_right}
use Rattle.std.specs.Prelude.{if◌then◌else◌}
use Rattle.mime_tree.specs.Marks.{text_of, is_delimiter, is_close}
use Rattle.mime_tree.specs.Parts.{shortened, size, cut_last, parts_on}
use Rattle.mime_tree.specs.private.Open.{is_marked, begins_marked, region, after, kept, later}
use Rattle.mime_tree.proofs.Regions.{region-marked, region-cut, region-on, region-begins, after-on, after-marked, after-begins, size-cons, size-append}
use Rattle.mime_tree.proofs.PartLemmas.{is_marked-with, not_both, kept_mark, is_delimiter-kept, is_close-kept, is_delimiter-text, is_close-text, delimiter_has_text, close_has_text, parts_on-close, parts_on-delimiter, parts_on-on}

-- the lines of the part of which these lines have passed
unfoldable pub piece : List (List ℕ) → List ℕ → List (List ℕ) → List (List ℕ) → List (List ℕ)
piece s b passed [] = passed
piece s b passed (line ∷ rest) =
    if is_marked s line then passed else (if is_delimiter b line || is_close b line then cut_last passed
    else (if begins_marked s rest then passed ++ shortened (text_of line) else piece s b (passed ++ line ∷ []) rest))

pub cut_last-last : (lines : List (List ℕ)) (line : List ℕ) → cut_last (lines ++ line ∷ []) ≡ lines ++ shortened (text_of line)
unfolding cut_last
cut_last-last [] line = refl
cut_last-last (first ∷ []) line = refl
cut_last-last (first ∷ next ∷ lines) line = ap (λ all. first ∷ all) (cut_last-last (next ∷ lines) line)

-- what one line is to the open boundaries and to one more
pub record IsSeen (s : List (List ℕ)) (b line : List ℕ) (outer own : Bool) : Type 0 where
  pub outer_is : is_marked s line ≡ outer
  pub own_is : (is_delimiter b line || is_close b line) ≡ own

pub seen : (s : List (List ℕ)) (b line : List ℕ) → IsSeen s b line (is_marked s line) (is_delimiter b line || is_close b line)
seen s b line = record { outer_is = refl; own_is = refl }

pub marked_with : (s : List (List ℕ)) (b line : List ℕ) (outer own : Bool) → IsSeen s b line outer own → is_marked (s ++ b ∷ []) line ≡ (outer || own)
marked_with s b line outer own is = is_marked-with s b line ∙ rw (is.outer_is, is.own_is) refl

pub begins_with : (s : List (List ℕ)) (b : List ℕ) (lines : List (List ℕ)) → begins_marked s lines ≡ true → begins_marked (s ++ b ∷ []) lines ≡ true
unfolding begins_marked
begins_with s b [] begins = begins
begins_with s b (line ∷ rest) begins = is_marked-with s b line ∙ rw begins refl

piece_by : (s : List (List ℕ)) (b : List ℕ) (lines : List (List ℕ)) (first line : List ℕ) (rest : List (List ℕ)) (own c : Bool) → is_marked (s ++ b ∷ []) first ≡ false → IsSeen s b line false own → begins_marked s rest ≡ c
    → (begins_marked s rest ≡ false → is_marked (s ++ b ∷ []) line ≡ false → piece s b ((lines ++ first ∷ []) ++ line ∷ []) rest ≡ (lines ++ first ∷ []) ++ region (s ++ b ∷ []) (line ∷ rest))
    → piece s b (lines ++ first ∷ []) (line ∷ rest) ≡ lines ++ region (s ++ b ∷ []) (first ∷ line ∷ rest)
unfolding piece begins_marked
piece_by s b lines first line rest true c other is i next =
    rw (is.outer_is, is.own_is, region-cut (s ++ b ∷ []) first (line ∷ rest) other (marked_with s b line false true is)) (cut_last-last lines first)
piece_by s b lines first line rest false true other is i next =
    let here = marked_with s b line false false is in
    rw (is.outer_is, is.own_is, i, region-on (s ++ b ∷ []) first (line ∷ rest) other here, region-cut (s ++ b ∷ []) line rest here (begins_with s b rest i))
    (append_assoc lines (first ∷ []) (shortened (text_of line)))
piece_by s b lines first line rest false false other is i next =
    let here = marked_with s b line false false is in
    rw (is.outer_is, is.own_is, i, region-on (s ++ b ∷ []) first (line ∷ rest) other here) (next i here ∙ append_assoc lines (first ∷ []) (region (s ++ b ∷ []) (line ∷ rest)))

pub piece-after : (s : List (List ℕ)) (b : List ℕ) (lines : List (List ℕ)) (first : List ℕ) (rest : List (List ℕ)) → begins_marked s rest ≡ false → is_marked (s ++ b ∷ []) first ≡ false
    → piece s b (lines ++ first ∷ []) rest ≡ lines ++ region (s ++ b ∷ []) (first ∷ rest)
unfolding piece begins_marked region
piece-after s b lines first [] none other = rw other refl
piece-after s b lines first (line ∷ rest) none other =
    piece_by s b lines first line rest (is_delimiter b line || is_close b line) (begins_marked s rest) other (record { outer_is = none; own_is = refl }) refl
    (λ i here. piece-after s b (lines ++ first ∷ []) line rest i here)

-- the part's lines are those of its entity
all_by : (s : List (List ℕ)) (b line : List ℕ) (rest : List (List ℕ)) (outer own c : Bool) → IsSeen s b line outer own → begins_marked s rest ≡ c → piece s b [] (line ∷ rest) ≡ region (s ++ b ∷ []) (line ∷ rest)
unfolding piece cut_last
all_by s b line rest true own c is i = rw (is.outer_is, region-marked (s ++ b ∷ []) line rest (marked_with s b line true own is)) refl
all_by s b line rest false true c is i = rw (is.outer_is, is.own_is, region-marked (s ++ b ∷ []) line rest (marked_with s b line false true is)) refl
all_by s b line rest false false true is i =
    rw (is.outer_is, is.own_is, i, region-cut (s ++ b ∷ []) line rest (marked_with s b line false false is) (begins_with s b rest i)) refl
all_by s b line rest false false false is i = rw (is.outer_is, is.own_is, i) (piece-after s b [] line rest i (marked_with s b line false false is))

pub piece-region : (s : List (List ℕ)) (b : List ℕ) (lines : List (List ℕ)) → piece s b [] lines ≡ region (s ++ b ∷ []) lines
unfolding piece region
piece-region s b [] = refl
piece-region s b (line ∷ rest) = all_by s b line rest (is_marked s line) (is_delimiter b line || is_close b line) (begins_marked s rest) (seen s b line) refl

abbrev pub PartsGoOn : List (List ℕ) → List ℕ → ℕ → List (List ℕ) → ℕ → List (List ℕ) → Type 0
PartsGoOn s b at passed q lines = parts_on b at passed (region s lines) ≡ record { at = at; lines = piece s b passed lines } ∷ later s b q (after (s ++ b ∷ []) lines)

own_close : (s : List (List ℕ)) (b : List ℕ) (at : ℕ) (passed : List (List ℕ)) (q : ℕ) (line : List ℕ) (rest : List (List ℕ)) → is_marked s line ≡ false → is_close b line ≡ true → PartsGoOn s b at passed q (line ∷ rest)
unfolding piece
own_close s b at passed q line rest outer close =
    let own : (is_delimiter b line || is_close b line) ≡ true = rw close (or_right (is_delimiter b line) true refl) in
    rw (
      kept_mark s line rest outer (close_has_text b line close),
      parts_on-close b at passed (kept s line rest) (region s rest) (is_close-kept s b line rest ∙ close),
      after-marked (s ++ b ∷ []) line rest (marked_with s b line false true (record { outer_is = outer; own_is = own })),
      outer,
      own,
      close,
    ) refl

own_delimiter : (s : List (List ℕ)) (b : List ℕ) (at : ℕ) (passed : List (List ℕ)) (q : ℕ) (line : List ℕ) (rest : List (List ℕ)) → at + size passed ≡ q → is_marked s line ≡ false → is_delimiter b line ≡ true
    → is_close b line ≡ false → PartsGoOn s b at passed q (line ∷ rest)
unfolding piece
own_delimiter s b at passed q line rest place outer delimiter close =
    let own : (is_delimiter b line || is_close b line) ≡ true = rw delimiter refl in
    rw (
      kept_mark s line rest outer (delimiter_has_text b line delimiter),
      parts_on-delimiter b at passed (kept s line rest) (region s rest) (is_close-kept s b line rest ∙ close) (is_delimiter-kept s b line rest ∙ delimiter),
      after-marked (s ++ b ∷ []) line rest (marked_with s b line false true (record { outer_is = outer; own_is = own })),
      outer,
      own,
      close,
      place,
    ) refl

pub later-begins : (s : List (List ℕ)) (b : List ℕ) (q : ℕ) (lines : List (List ℕ)) → begins_marked s lines ≡ true → [] ≡ later s b q lines
unfolding begins_marked
later-begins s b q [] begins = refl
later-begins s b q (first ∷ lines) begins = rw begins refl

no_mark_cut : (s : List (List ℕ)) (b : List ℕ) (at : ℕ) (passed : List (List ℕ)) (q : ℕ) (line : List ℕ) (rest : List (List ℕ)) → is_marked s line ≡ false → is_delimiter b line ≡ false → is_close b line ≡ false
    → begins_marked s rest ≡ true → PartsGoOn s b at passed q (line ∷ rest)
unfolding piece parts_on
no_mark_cut s b at passed q line rest outer delimiter close begins =
    let own : (is_delimiter b line || is_close b line) ≡ false = rw (delimiter, close) refl in
    let here = marked_with s b line false false (record { outer_is = outer; own_is = own }) in
    rw (region-cut s line rest outer begins, after-on (s ++ b ∷ []) line rest here, after-begins (s ++ b ∷ []) rest (begins_with s b rest begins), outer, own, begins)
    (go (text_of line) (is_delimiter-text b line ∙ delimiter) (is_close-text b line ∙ close) ∙ ap (λ more. record { at = at; lines = passed ++ shortened (text_of line) } ∷ more) (later-begins s b q rest begins))
  where
    go : (t : List ℕ) → is_delimiter b t ≡ false → is_close b t ≡ false → parts_on b at passed (shortened t) ≡ record { at = at; lines = passed ++ shortened t } ∷ []
    go [] delimiter close = rw append-nil refl
    go (x ∷ t) delimiter close = parts_on-on b at passed (x ∷ t) [] close delimiter

step_by : (s : List (List ℕ)) (b : List ℕ) (at : ℕ) (passed : List (List ℕ)) (q : ℕ) (line : List ℕ) (rest : List (List ℕ)) (outer delimiter close c : Bool) → is_marked s line ≡ outer → is_delimiter b line ≡ delimiter
    → is_close b line ≡ close → begins_marked s rest ≡ c → at + size passed + size (line ∷ rest) ≡ q + size (after (s ++ b ∷ []) (line ∷ rest))
    → (at + size (passed ++ line ∷ []) + size rest ≡ q + size (after (s ++ b ∷ []) rest) → PartsGoOn s b at (passed ++ line ∷ []) q rest) → PartsGoOn s b at passed q (line ∷ rest)
unfolding piece parts_on
step_by s b at passed q line rest true delimiter close c outer_is delimiter_is close_is i sum next =
    rw (region-marked s line rest outer_is, after-marked (s ++ b ∷ []) line rest (is_marked-with s b line ∙ rw outer_is refl), outer_is) refl
step_by s b at passed q line rest false true true c outer_is delimiter_is close_is i sum next = absurd (not_both b line delimiter_is close_is)
step_by s b at passed q line rest false false true c outer_is delimiter_is close_is i sum next = own_close s b at passed q line rest outer_is close_is
step_by s b at passed q line rest false true false c outer_is delimiter_is close_is i sum next =
    let same = after-marked (s ++ b ∷ []) line rest (is_marked-with s b line ∙ rw (outer_is, delimiter_is) refl) in
    let total = rw same at sum in
    own_delimiter s b at passed q line rest (omega arith) outer_is delimiter_is close_is
step_by s b at passed q line rest false false false true outer_is delimiter_is close_is i sum next = no_mark_cut s b at passed q line rest outer_is delimiter_is close_is i
step_by s b at passed q line rest false false false false outer_is delimiter_is close_is i sum next =
    let here = is_marked-with s b line ∙ rw (outer_is, delimiter_is, close_is) refl in
    let own : (is_delimiter b line || is_close b line) ≡ false = rw (delimiter_is, close_is) refl in
    let total = rw (after-on (s ++ b ∷ []) line rest here) at sum in
    let longer = size-append passed (line ∷ []) in
    let one = size-cons line [] in
    let all = size-cons line rest in
    rw (region-on s line rest outer_is i, parts_on-on b at passed line (region s rest) close_is delimiter_is, after-on (s ++ b ∷ []) line rest here, outer_is, own, i) (next (omega arith))

-- A part, and the further parts after it.
pub parts-step : (s : List (List ℕ)) (b : List ℕ) (at : ℕ) (passed : List (List ℕ)) (q : ℕ) (lines : List (List ℕ)) → at + size passed + size lines ≡ q + size (after (s ++ b ∷ []) lines)
    → PartsGoOn s b at passed q lines
unfolding piece parts_on region after
parts-step s b at passed q [] sum = refl
parts-step s b at passed q (line ∷ rest) sum =
    step_by s b at passed q line rest (is_marked s line) (is_delimiter b line) (is_close b line) (begins_marked s rest) refl refl refl refl sum (λ more. parts-step s b at (passed ++ line ∷ []) q rest more)

-- the same from a part's beginning on
pub part-first : (s : List (List ℕ)) (b : List ℕ) (at q : ℕ) (lines : List (List ℕ)) → at + size lines ≡ q + size (after (s ++ b ∷ []) lines)
    → parts_on b at [] (region s lines) ≡ record { at = at; lines = region (s ++ b ∷ []) lines } ∷ later s b q (after (s ++ b ∷ []) lines)
part-first s b at q lines sum = rw (← piece-region s b lines) (parts-step s b at [] q lines (omega arith))

-- where an outer mark follows at once there is no further part
pub part-last : (s : List (List ℕ)) (b : List ℕ) (at q : ℕ) (lines : List (List ℕ)) → begins_marked s lines ≡ true
    → parts_on b at [] (region s lines) ≡ record { at = at; lines = region (s ++ b ∷ []) lines } ∷ later s b q (after (s ++ b ∷ []) lines)
unfolding parts_on
part-last s b at q lines begins =
    rw (region-begins s lines begins, region-begins (s ++ b ∷ []) lines (begins_with s b lines begins), after-begins (s ++ b ∷ []) lines (begins_with s b lines begins))
    (ap (λ more. record { at = at; lines = [] } ∷ more) (later-begins s b q lines begins))

-- what comes after the marks of the inner boundary too comes after the others
after_by : (s : List (List ℕ)) (b line : List ℕ) (rest : List (List ℕ)) (outer own : Bool) → IsSeen s b line outer own → after s (after (s ++ b ∷ []) rest) ≡ after s rest
    → after s (after (s ++ b ∷ []) (line ∷ rest)) ≡ after s (line ∷ rest)
after_by s b line rest true own is next = rw (after-marked (s ++ b ∷ []) line rest (marked_with s b line true own is)) refl
after_by s b line rest false true is next = rw (after-marked (s ++ b ∷ []) line rest (marked_with s b line false true is)) refl
after_by s b line rest false false is next = rw (after-on (s ++ b ∷ []) line rest (marked_with s b line false false is)) (next ∙ sym (after-on s line rest is.outer_is))

pub after-after : (s : List (List ℕ)) (b : List ℕ) (lines : List (List ℕ)) → after s (after (s ++ b ∷ []) lines) ≡ after s lines
unfolding after
after-after s b [] = refl
after-after s b (line ∷ rest) = after_by s b line rest (is_marked s line) (is_delimiter b line || is_close b line) (seen s b line) (after-after s b rest)
