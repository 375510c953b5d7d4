-- The parts of an entity's lines, as the reader finds them under open boundaries.
use Rattle.std.proofs.Common.{◌≡◌, ℕ, ◌+◌, List, [], ◌∷◌, ◌++◌, length, Bool, true, false, ◌||◌, refl, ap, ◌∙◌}
use Rattle.std.specs.Prelude.{if◌then◌else◌}
use Rattle.std.proofs.lemmas.List.Folds.{list_any-append}
use Rattle.mime_tree.specs.Marks.{text_of, dashes, is_padded, is_delimiter, is_close}
use Rattle.mime_tree.specs.Parts.{shortened, size, cut_last, parts_on, parts_of}
use Rattle.mime_tree.specs.private.Open.{is_marked_text, is_marked, begins_marked, region, kept}
use Rattle.mime_tree.proofs.Texts.{text_of-text}
use Rattle.mime_tree.proofs.Padded.{or_false, one_mark}
use Rattle.mime_tree.proofs.Regions.{region-cut, region-on, region-begins}

-- one more boundary
pub with : List (List ℕ) → List ℕ → List (List ℕ)
with boundaries boundary = boundaries ++ boundary ∷ []

pub is_marked-with : (s : List (List ℕ)) (b line : List ℕ) → is_marked (s ++ b ∷ []) line ≡ (is_marked s line || (is_delimiter b line || is_close b line))
unfolding is_marked_text is_delimiter is_close
is_marked-with s b line = rw list_any-append (ap (λ more. is_marked s line || more) (or_false (is_delimiter b line || is_close b line)))

-- a mark stays one without its CRLF
pub is_delimiter-text : (b line : List ℕ) → is_delimiter b (text_of line) ≡ is_delimiter b line
unfolding is_delimiter
is_delimiter-text b line = ap (is_padded (dashes ++ b)) (text_of-text line)

pub is_close-text : (b line : List ℕ) → is_close b (text_of line) ≡ is_close b line
unfolding is_close
is_close-text b line = ap (is_padded (dashes ++ b ++ dashes)) (text_of-text line)

pub not_both : (b line : List ℕ) → is_delimiter b line ≡ true → is_close b line ≡ true → ⊥
unfolding is_delimiter is_close
not_both b line delimiter close = one_mark b (text_of line) delimiter close

-- a mark has a text
no_text : (b : List ℕ) → is_padded (dashes ++ b) [] ≡ false
no_text b = refl

pub delimiter_has_text : (b line : List ℕ) → is_delimiter b line ≡ true → text_of line ≡ [] → ⊥
unfolding is_delimiter
delimiter_has_text b line mark none = let clash : false ≡ true = rw none at mark in cc

pub close_has_text : (b line : List ℕ) → is_close b line ≡ true → text_of line ≡ [] → ⊥
unfolding is_close
close_has_text b line mark none = let clash : false ≡ true = rw none at mark in cc

-- a line before others is kept whole, or as its text, and what follows it then is nothing
pub kept_mark : (s : List (List ℕ)) (line : List ℕ) (rest : List (List ℕ)) → is_marked s line ≡ false → (text_of line ≡ [] → ⊥) → region s (line ∷ rest) ≡ kept s line rest ∷ region s rest
kept_mark s line rest other some = go (begins_marked s rest) refl
  where
    has : (t : List ℕ) → (t ≡ [] → ⊥) → shortened t ≡ t ∷ []
    has [] some = absurd (some refl)
    has (x ∷ t) some = refl

    go : (c : Bool) → begins_marked s rest ≡ c → region s (line ∷ rest) ≡ kept s line rest ∷ region s rest
    go true i = rw (region-cut s line rest other i, region-begins s rest i, i) (has (text_of line) some)
    go false i = rw (region-on s line rest other i, i) refl

pub is_delimiter-kept : (s : List (List ℕ)) (b line : List ℕ) (rest : List (List ℕ)) → is_delimiter b (kept s line rest) ≡ is_delimiter b line
is_delimiter-kept s b line rest = go (begins_marked s rest)
  where
    go : (c : Bool) → is_delimiter b (if c then text_of line else line) ≡ is_delimiter b line
    go true = is_delimiter-text b line
    go false = refl

pub is_close-kept : (s : List (List ℕ)) (b line : List ℕ) (rest : List (List ℕ)) → is_close b (kept s line rest) ≡ is_close b line
is_close-kept s b line rest = go (begins_marked s rest)
  where
    go : (c : Bool) → is_close b (if c then text_of line else line) ≡ is_close b line
    go true = is_close-text b line
    go false = refl

-- the steps of `parts_of` and `parts_on`
pub parts_of-delimiter : (b : List ℕ) (at : ℕ) (line : List ℕ) (rest : List (List ℕ)) → is_delimiter b line ≡ true → parts_of b at (line ∷ rest) ≡ parts_on b (at + length line) [] rest
unfolding parts_of
parts_of-delimiter b at line rest mark = rw mark refl

pub parts_of-on : (b : List ℕ) (at : ℕ) (line : List ℕ) (rest : List (List ℕ)) → is_delimiter b line ≡ false → parts_of b at (line ∷ rest) ≡ parts_of b (at + length line) rest
unfolding parts_of
parts_of-on b at line rest mark = rw mark refl

pub parts_on-close : (b : List ℕ) (at : ℕ) (passed : List (List ℕ)) (line : List ℕ) (rest : List (List ℕ)) → is_close b line ≡ true → parts_on b at passed (line ∷ rest) ≡ record { at = at; lines = cut_last passed } ∷ []
unfolding parts_on
parts_on-close b at passed line rest mark = rw mark refl

pub parts_on-delimiter : (b : List ℕ) (at : ℕ) (passed : List (List ℕ)) (line : List ℕ) (rest : List (List ℕ)) → is_close b line ≡ false → is_delimiter b line ≡ true
    → parts_on b at passed (line ∷ rest) ≡ record { at = at; lines = cut_last passed } ∷ parts_on b (at + size passed + length line) [] rest
unfolding parts_on
parts_on-delimiter b at passed line rest other mark = rw (other, mark) refl

pub parts_on-on : (b : List ℕ) (at : ℕ) (passed : List (List ℕ)) (line : List ℕ) (rest : List (List ℕ)) → is_close b line ≡ false → is_delimiter b line ≡ false
    → parts_on b at passed (line ∷ rest) ≡ parts_on b at (passed ++ line ∷ []) rest
unfolding parts_on
parts_on-on b at passed line rest other mark = rw (other, mark) refl

-- In the preamble: a line that is no delimiter line is passed over.
preamble_by : (s : List (List ℕ)) (b : List ℕ) (at : ℕ) (line : List ℕ) (rest : List (List ℕ)) (c : Bool) → is_marked s line ≡ false → is_delimiter b line ≡ false → begins_marked s rest ≡ c
    → parts_of b at (region s (line ∷ rest)) ≡ parts_of b (at + length line) (region s rest)
unfolding parts_of
preamble_by s b at line rest true other mark i = rw (region-cut s line rest other i, region-begins s rest i) (go (text_of line) (is_delimiter-text b line ∙ mark))
  where
    go : (t : List ℕ) → is_delimiter b t ≡ false → parts_of b at (shortened t) ≡ []
    go [] mark = refl
    go (x ∷ t) mark = parts_of-on b at (x ∷ t) [] mark
preamble_by s b at line rest false other mark i = rw (region-on s line rest other i) (parts_of-on b at line (region s rest) mark)

pub preamble-on : (s : List (List ℕ)) (b : List ℕ) (at : ℕ) (line : List ℕ) (rest : List (List ℕ)) → is_marked s line ≡ false → is_delimiter b line ≡ false
    → parts_of b at (region s (line ∷ rest)) ≡ parts_of b (at + length line) (region s rest)
preamble-on s b at line rest other mark = preamble_by s b at line rest (begins_marked s rest) other mark refl

-- It ends with the first delimiter line.
pub preamble-delimiter : (s : List (List ℕ)) (b : List ℕ) (at : ℕ) (line : List ℕ) (rest : List (List ℕ)) → is_marked s line ≡ false → is_delimiter b line ≡ true
    → parts_of b at (region s (line ∷ rest)) ≡ parts_on b (at + length (kept s line rest)) [] (region s rest)
preamble-delimiter s b at line rest other mark =
    rw (kept_mark s line rest other (delimiter_has_text b line mark)) (parts_of-delimiter b at (kept s line rest) (region s rest) (is_delimiter-kept s b line rest ∙ mark))
