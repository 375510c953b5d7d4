-- The lines of a field, from its parts.
use Rattle.std.proofs.Common.{◌≡◌, ℕ, zero, suc, ◌+◌, ◌<◌, Bool, true, false, ◌⊎◌, inl, inr, List, [], ◌∷◌, ◌++◌, length, take, nat_eq, not, refl, sym, ap, ◌∙◌, subst, arith, append_assoc, append-nil}
use Rattle.std.specs.Str.{IsUtf8}
use Rattle.std.specs.List.{AllByRecursion, list_all, flat_map, concat}
use Rattle.std.proofs.lemmas.Bool.{and_parts, and_from, not_from_false}
use Rattle.std.proofs.lemmas.Bool.Decides.{nat_tests}
use Rattle.std.proofs.lemmas.List.{take_at}
use Rattle.std.proofs.lemmas.List.Folds.{list_all-append}
use Rattle.std.proofs.lemmas.List.Elements.{All-from_recursion}
use Rattle.std.proofs.lemmas.Str.{IsUtf8-append, IsUtf8-nil}
use Rattle.mail_wire.specs.Octets.{is_white, is_line_end, is_field_name_octet}
use Rattle.mail_wire.specs.Lines.{crlf, is_crlf}
use Rattle.mail_wire.specs.Message.{IsNul, IsFaulty, IsSound}
use Rattle.mail_wire.specs.Folds.{FoldedItem, Octet, Fold, IsFoldedItem, item_octets}
use Rattle.mail_wire.proofs.OctetLemmas.{white_below}
use Rattle.utf8_fields.specs.declared.block.Field.{Field}
use Rattle.utf8_fields.specs.Lines.{BeginsField, BeginsWhite}
use Rattle.utf8_fields.specs.Parts.{FieldParts, HasParts}
use Rattle.utf8_fields.specs.Block.{IsFieldAt}
use Rattle.utf8_fields.proofs.LineShapes.{EndsOnce, NeverEnds, AreLines, is_text, before_once}
use Rattle.utf8_fields.proofs.FirstField.{field_of}
use Rattle.utf8_fields.proofs.HaveParts.{white_is_text, name_is_text, name_octet_below}
use Rattle.encoded_words.proofs.WritableUnits.{ends_ascii, one_ascii, BothUtf8}
use Rattle.mime_tree.proofs.Standing.{AreEnded}

-- Text, and CRLF after it. The last line lacks it where the ending of all is empty.
pub record IsTextOf (ending line : List ℕ) (after : List (List ℕ)) : Type 0 where
  pub text : List ℕ
  pub closing : List ℕ
  pub whole : line ≡ text ++ closing
  pub plain : list_all is_text text ≡ true
  pub closes : (closing ≡ crlf) ⊎ ((closing ≡ []) × (after ≡ []) × (ending ≡ []))

abbrev pub AreTextsOf : List ℕ → List (List ℕ) → Type 0
AreTextsOf ending [] = Unit {0}
AreTextsOf ending (line ∷ lines) = IsTextOf ending line lines × AreTextsOf ending lines

-- a front of text before a line
put_front : (ending front line : List ℕ) (after : List (List ℕ)) → list_all is_text front ≡ true → IsTextOf ending line after → IsTextOf ending (front ++ line) after
put_front ending front line after plain is = record {
  text = front ++ is.text;
  closing = is.closing;
  whole = ap (λ rest. front ++ rest) is.whole ∙ sym (append_assoc front is.text is.closing);
  plain = list_all-append is_text front is.text ∙ and_from (list_all is_text front) (list_all is_text is.text) plain is.plain;
  closes = is.closes;
}

one_text : (x : ℕ) → is_line_end x ≡ false → list_all is_text (x ∷ []) ≡ true
one_text x h = and_from (is_text x) true (not_from_false (is_line_end x) h) refl

all_text : (p : ℕ → Bool) → ((x : ℕ) → p x ≡ true → is_text x ≡ true) → (xs : List ℕ) → list_all p xs ≡ true → list_all is_text xs ≡ true
all_text p wider [] all = refl
all_text p wider (x ∷ xs) all =
    let parts = and_parts (p x) (list_all p xs) all in and_from (is_text x) (list_all is_text xs) (wider x parts.0) (all_text p wider xs parts.1)

-- the lines of these octets: a first one, and further ones that begin with white
pub record HasTexts (ending octets : List ℕ) : Type 0 where
  pub first : List ℕ
  pub more : List (List ℕ)
  pub whole : octets ≡ first ++ concat more
  pub are : AreTextsOf ending (first ∷ more)
  pub white : AllByRecursion BeginsWhite more

last_text : (ending : List ℕ) → (ending ≡ []) ⊎ (ending ≡ crlf) → IsTextOf ending ending []
last_text ending (inl none) = record { text = []; closing = ending; whole = refl; plain = refl; closes = inr (none, refl, none) }
last_text ending (inr ended) = record { text = []; closing = ending; whole = refl; plain = refl; closes = inl ended }

-- a folded text and the ending have such lines
texts_of : (ending : List ℕ) → (ending ≡ []) ⊎ (ending ≡ crlf) → (items : List FoldedItem) → AllByRecursion IsFoldedItem items → HasTexts ending (flat_map item_octets items ++ ending)
texts_of ending is [] are = record { first = ending; more = []; whole = sym (append-nil ending); are = (last_text ending is, tt); white = tt }
texts_of ending is (Octet x ∷ items) are =
    let rest = texts_of ending is items are.1 in
    record {
      first = x ∷ rest.first;
      more = rest.more;
      whole = ap (λ text. x ∷ text) rest.whole;
      are = (put_front ending (x ∷ []) rest.first rest.more (one_text x are.0) rest.are.0, rest.are.1);
      white = rest.white;
    }
texts_of ending is (Fold w ∷ items) are =
    let rest = texts_of ending is items are.1 in
    record {
      first = crlf;
      more = (w ∷ rest.first) ∷ rest.more;
      whole = ap (λ text. 13 ∷ 10 ∷ w ∷ text) rest.whole;
      are = (
        record { text = []; closing = crlf; whole = refl; plain = refl; closes = inl refl },
        (put_front ending (w ∷ []) rest.first rest.more (and_from (is_text w) true (white_is_text w are.0) refl) rest.are.0, rest.are.1),
      );
      white = (are.0, rest.white);
    }

-- no octet begins a CRLF but CR
no_crlf : (x y : ℕ) → is_text x ≡ true → is_crlf x y ≡ false
no_crlf x y h = grind (arith, nat_tests)

pub text_ends_once : (text : List ℕ) → list_all is_text text ≡ true → EndsOnce (text ++ crlf)
text_ends_once [] all = refl
text_ends_once (x ∷ []) all = before_once x 13 (10 ∷ []) (no_crlf x 13 (and_parts (is_text x) true all).0) refl
text_ends_once (x ∷ y ∷ text) all =
    let parts = and_parts (is_text x) (list_all is_text (y ∷ text)) all in before_once x y (text ++ crlf) (no_crlf x y parts.0) (text_ends_once (y ∷ text) parts.1)

text_never_ends : (text : List ℕ) → list_all is_text text ≡ true → NeverEnds text
text_never_ends [] all = tt
text_never_ends (x ∷ []) all = tt
text_never_ends (x ∷ y ∷ text) all =
    let parts = and_parts (is_text x) (list_all is_text (y ∷ text)) all in (no_crlf x y parts.0, text_never_ends (y ∷ text) parts.1)

line_by : (ending line : List ℕ) (after : List (List ℕ)) → IsTextOf ending line after → EndsOnce line ⊎ (NeverEnds line × (after ≡ []))
line_by ending line after is = by is.closes
  where
    by : (is.closing ≡ crlf) ⊎ ((is.closing ≡ []) × (after ≡ []) × (ending ≡ [])) → EndsOnce line ⊎ (NeverEnds line × (after ≡ []))
    by (inl ended) = inl (rw (is.whole, ended) (text_ends_once is.text is.plain))
    by (inr last) = inr (rw (is.whole, last.0, append-nil) (text_never_ends is.text is.plain), last.1)

-- each of these lines but the last has its CRLF
texts_are_lines : (ending : List ℕ) (lines : List (List ℕ)) → AreTextsOf ending lines → AreLines lines
texts_are_lines ending [] are = tt
texts_are_lines ending (line ∷ lines) are = (line_by ending line lines are.0, texts_are_lines ending lines are.1)

-- all have it where all ends with CRLF
texts_ended : (ending : List ℕ) (lines : List (List ℕ)) → AreTextsOf ending lines → ending ≡ crlf → AreEnded lines
texts_ended ending [] are ended = tt
texts_ended ending (line ∷ lines) are ended = (by are.0.closes, texts_ended ending lines are.1 ended)
  where
    by : (are.0.closing ≡ crlf) ⊎ ((are.0.closing ≡ []) × (lines ≡ []) × (ending ≡ [])) → EndsOnce line
    by (inl closed) = rw (are.0.whole, closed) (text_ends_once are.0.text are.0.plain)
    by (inr last) =
        let clash : crlf ≡ [] = sym ended ∙ last.2 in cc clash

-- an octet other than NUL
abbrev pub is_safe : ℕ → Bool
is_safe x = not (nat_eq x 0)

later_safe : (x : ℕ) → is_safe (suc x) ≡ true
later_safe x = grind (arith, nat_tests)

pub safe_without_nul : (xs : List ℕ) → ((at : ℕ) → ¬ IsNul xs at) → list_all is_safe xs ≡ true
safe_without_nul [] none = refl
safe_without_nul (zero ∷ xs) none = absurd (none 0 refl)
safe_without_nul (suc x ∷ xs) none = and_from (is_safe (suc x)) (list_all is_safe xs) (later_safe x) (safe_without_nul xs (λ at nul. none (suc at) nul))

pub no_nul_in_safe : (xs : List ℕ) → list_all is_safe xs ≡ true → (at : ℕ) → ¬ IsNul xs at
no_nul_in_safe [] safe at nul = cc nul
no_nul_in_safe (x ∷ xs) safe zero nul =
    let is : x ≡ 0 = cc nul in
    let clash : false ≡ true = rw is at (and_parts (is_safe x) (list_all is_safe xs) safe).0 in cc clash
no_nul_in_safe (x ∷ xs) safe (suc at) nul = no_nul_in_safe xs (and_parts (is_safe x) (list_all is_safe xs) safe).1 at nul

-- sound lines have no NUL
lines_safe : (lines : List (List ℕ)) → AllByRecursion IsSound lines → list_all is_safe (concat lines) ≡ true
lines_safe [] sound = refl
lines_safe (line ∷ lines) sound =
    list_all-append is_safe line (concat lines)
    ∙ and_from (list_all is_safe line) (list_all is_safe (concat lines)) (safe_without_nul line (λ at nul. sound.0 at (inl nul))) (lines_safe lines sound.1)

pub no_nul_in_lines : (lines : List (List ℕ)) → AllByRecursion IsSound lines → (at : ℕ) → ¬ IsNul (concat lines) at
no_nul_in_lines lines sound = no_nul_in_safe (concat lines) (lines_safe lines sound)

-- an octet that is neither NUL nor CR nor LF before sound octets
IsSound-put : (x : ℕ) (xs : List ℕ) → is_text x ≡ true → is_safe x ≡ true → IsSound xs → IsSound (x ∷ xs)
IsSound-put x xs text safe sound zero faulty = first faulty
  where
    first : IsFaulty (x ∷ xs) 0 → ⊥
    first (inl nul) =
        let is : x ≡ 0 = cc nul in
        let clash : false ≡ true = rw is at safe in cc clash
    first (inr (inl cr)) =
        let is : x ≡ 13 = cc cr.0 in
        let clash : false ≡ true = rw is at text in cc clash
    first (inr (inr lf)) =
        let is : x ≡ 10 = cc lf.0 in
        let clash : false ≡ true = rw is at text in cc clash
IsSound-put x xs text safe sound (suc at) faulty = sound at (down faulty)
  where
    down : IsFaulty (x ∷ xs) (suc at) → IsFaulty xs at
    down (inl nul) = inl nul
    down (inr (inl cr)) =
        let place : suc at + 1 ≡ suc (at + 1) = omega arith in
        inr (inl (cr.0, rw place at cr.1))
    down (inr (inr lf)) = inr (inr (lf.0, λ before next stands. lf.1 (suc before) (omega arith) stands))

IsSound-nil : IsSound []
IsSound-nil at (inl nul) = cc nul
IsSound-nil at (inr (inl cr)) = let none = cr.0 in cc none
IsSound-nil at (inr (inr lf)) = let none = lf.0 in cc none

IsSound-crlf : IsSound crlf
IsSound-crlf zero (inl nul) = cc nul
IsSound-crlf zero (inr (inl cr)) = cr.1 refl
IsSound-crlf zero (inr (inr lf)) = let none = lf.0 in cc none
IsSound-crlf (suc zero) (inl nul) = cc nul
IsSound-crlf (suc zero) (inr (inl cr)) = let none = cr.0 in cc none
IsSound-crlf (suc zero) (inr (inr lf)) = lf.1 0 (omega arith) refl
IsSound-crlf (suc (suc at)) (inl nul) = cc nul
IsSound-crlf (suc (suc at)) (inr (inl cr)) = let none = cr.0 in cc none
IsSound-crlf (suc (suc at)) (inr (inr lf)) = let none = lf.0 in cc none

text_sound : (text closing : List ℕ) → list_all is_text text ≡ true → list_all is_safe (text ++ closing) ≡ true → IsSound closing → IsSound (text ++ closing)
text_sound [] closing plain safe sound = sound
text_sound (x ∷ text) closing plain safe sound =
    let plains = and_parts (is_text x) (list_all is_text text) plain in
    let safes = and_parts (is_safe x) (list_all is_safe (text ++ closing)) safe in
    IsSound-put x (text ++ closing) plains.0 safes.0 (text_sound text closing plains.1 safes.1 sound)

-- lines without NUL are sound
texts_sound : (ending : List ℕ) (lines : List (List ℕ)) → AreTextsOf ending lines → list_all is_safe (concat lines) ≡ true → AllByRecursion IsSound lines
texts_sound ending [] are safe = tt
texts_sound ending (line ∷ lines) are safe =
    let parts = and_parts (list_all is_safe line) (list_all is_safe (concat lines)) (sym (list_all-append is_safe line (concat lines)) ∙ safe) in
    (rw are.0.whole (text_sound are.0.text are.0.closing are.0.plain (subst (λ text. list_all is_safe text ≡ true) are.0.whole parts.0) (by are.0.closes)), texts_sound ending lines are.1 parts.1)
  where
    by : (are.0.closing ≡ crlf) ⊎ ((are.0.closing ≡ []) × (lines ≡ []) × (ending ≡ [])) → IsSound are.0.closing
    by (inl closed) = rw closed IsSound-crlf
    by (inr last) = rw last.0 IsSound-nil

lf_below : 10 < 128
lf_below = omega arith

colon_below : 58 < 128
colon_below = omega arith

cr_below : 13 < 128
cr_below = omega arith

-- the lines are UTF-8 where all is
line_utf8 : (text : List ℕ) (rest : List ℕ) → IsUtf8 ((text ++ crlf) ++ rest) → BothUtf8 (text ++ crlf) rest
line_utf8 text rest utf8 =
    let same : (text ++ 13 ∷ []) ++ 10 ∷ [] ≡ text ++ crlf = append_assoc text (13 ∷ []) (10 ∷ []) in
    let cut = ends_ascii (text ++ 13 ∷ []) 10 rest lf_below (subst (λ line. IsUtf8 (line ++ rest)) (sym same) utf8) in
    record { front = subst IsUtf8 same cut.front; rest = cut.rest }

texts_utf8 : (ending : List ℕ) (lines : List (List ℕ)) → AreTextsOf ending lines → IsUtf8 (concat lines) → AllByRecursion IsUtf8 lines
texts_utf8 ending [] are utf8 = tt
texts_utf8 ending (line ∷ lines) are utf8 = by are.0.closes (texts_utf8 ending lines are.1)
  where
    by : (are.0.closing ≡ crlf) ⊎ ((are.0.closing ≡ []) × (lines ≡ []) × (ending ≡ [])) → (IsUtf8 (concat lines) → AllByRecursion IsUtf8 lines) → IsUtf8 line × AllByRecursion IsUtf8 lines
    by (inl closed) others =
        let is : line ≡ are.0.text ++ crlf = are.0.whole ∙ ap (λ end. are.0.text ++ end) closed in
        let both = line_utf8 are.0.text (concat lines) (subst (λ first. IsUtf8 (first ++ concat lines)) is utf8) in
        (subst IsUtf8 (sym is) both.front, others both.rest)
    by (inr last) others =
        let whole : line ++ concat lines ≡ line = ap (λ rest. line ++ concat rest) last.1 ∙ append-nil line in
        (subst IsUtf8 whole utf8, rw last.1 tt)

all_utf8 : (p : ℕ → Bool) → ((x : ℕ) → p x ≡ true → x < 128) → (xs rest : List ℕ) → list_all p xs ≡ true → IsUtf8 rest → IsUtf8 (xs ++ rest)
all_utf8 p small [] rest all utf8 = utf8
all_utf8 p small (x ∷ xs) rest all utf8 =
    let parts = and_parts (p x) (list_all p xs) all in IsUtf8-append (x ∷ []) (xs ++ rest) (one_ascii x (small x parts.0)) (all_utf8 p small xs rest parts.1 utf8)

ending_utf8 : (ending : List ℕ) → (ending ≡ []) ⊎ (ending ≡ crlf) → IsUtf8 ending
ending_utf8 ending (inl none) = rw none IsUtf8-nil
ending_utf8 ending (inr ended) = rw ended (IsUtf8-append (13 ∷ []) (10 ∷ []) (one_ascii 13 cr_below) (one_ascii 10 lf_below))

field_utf8 : (octets : List ℕ) (f : FieldParts) → HasParts octets f → IsUtf8 octets
field_utf8 octets f is = rw is.spelled (
    all_utf8 is_field_name_octet name_octet_below f.name (f.white ++ 58 ∷ (f.body ++ f.ending)) is.name
    (all_utf8 is_white white_below f.white (58 ∷ (f.body ++ f.ending)) is.white
    (IsUtf8-append (58 ∷ []) (f.body ++ f.ending) (one_ascii 58 colon_below) (IsUtf8-append f.body f.ending is.utf8 (ending_utf8 f.ending is.ending)))))

-- the lines of a field
pub record HasFieldLines (at : ℕ) (octets ending : List ℕ) : Type 0 where
  pub field : Field
  pub first : List ℕ
  pub more : List (List ℕ)
  pub whole : concat (first ∷ more) ≡ octets
  pub is_field : IsFieldAt at field first more
  pub white : AllByRecursion BeginsWhite more
  pub are : AreLines (first ∷ more)
  pub ended : ending ≡ crlf → AreEnded (first ∷ more)

-- a field without NUL has lines
pub field_lines : (at : ℕ) (octets : List ℕ) (f : FieldParts) → HasParts octets f → ((place : ℕ) → ¬ IsNul octets place) → HasFieldLines at octets f.ending
field_lines at octets f is none =
    let following : HasTexts f.ending (flat_map item_octets is.body.items ++ f.ending) = texts_of f.ending is.ending is.body.items is.body.are_items in
    let first : List ℕ = f.name ++ (f.white ++ 58 ∷ following.first) in
    let whole : concat (first ∷ following.more) ≡ octets =
    append_assoc f.name (f.white ++ 58 ∷ following.first) (concat following.more) ∙ ap (λ text. f.name ++ text) (append_assoc f.white (58 ∷ following.first) (concat following.more))
    ∙ ap (λ text. f.name ++ (f.white ++ 58 ∷ text)) (sym following.whole ∙ ap (λ body. body ++ f.ending) (sym is.body.spelled)) ∙ sym is.spelled in
    let line : IsTextOf f.ending first following.more =
    put_front f.ending f.name (f.white ++ 58 ∷ following.first) following.more (all_text is_field_name_octet name_is_text f.name is.name)
    (put_front f.ending f.white (58 ∷ following.first) following.more (all_text is_white white_is_text f.white is.white) (put_front f.ending (58 ∷ []) following.first following.more refl following.are.0)) in
    let texts : AreTextsOf f.ending (first ∷ following.more) = (line, following.are.1) in
    let sound = texts_sound f.ending (first ∷ following.more) texts (subst (λ text. list_all is_safe text ≡ true) (sym whole) (safe_without_nul octets none)) in
    let utf8 = texts_utf8 f.ending (first ∷ following.more) texts (subst IsUtf8 (sym whole) (field_utf8 octets f is)) in
    let name : take (length f.name) first ≡ f.name = take_at f.name (f.white ++ 58 ∷ following.first) (length f.name) refl in
    record {
      field = field_of at (length f.name) (length (concat (first ∷ following.more)));
      first = first;
      more = following.more;
      whole = whole;
      is_field = record {
        name_at = refl;
        raw_at = refl;
        raw_len = refl;
        begins = subst (λ n. BeginsField n first) (sym name) (record { some = is.named; octets = is.name; colon = (f.white, following.first, is.white, refl) });
        further = All-from_recursion BeginsWhite following.more following.white;
        sound = All-from_recursion IsSound (first ∷ following.more) sound;
        utf8 = All-from_recursion IsUtf8 (first ∷ following.more) utf8;
      };
      white = following.white;
      are = texts_are_lines f.ending (first ∷ following.more) texts;
      ended = texts_ended f.ending (first ∷ following.more) texts;
    }
