-- The messages that `gen` makes may be kept, and their mark.
use Rattle.std.proofs.Common.{◌≡◌, ◌+◌, ◌%◌, ◌<◌, ◌≤◌, ◌^◌, ◌&&◌, ◌||◌, [], ◌∷◌, ◌++◌, ◌∙◌}
use Rattle.std.proofs.Common.{ℕ, zero, suc, Bool, true, false, List, length, codes, None, Some, inl, inr, refl, sym, ap, subst, arith, append_assoc}
use Rattle.std.specs.Prelude.{decimal, nat_le, nat_lt, not, slice_get}
use Rattle.std.specs.List.{concat, list_all, list_any}
use Rattle.std.proofs.lemmas.Bool.{and_from, and_parts}
use Rattle.std.proofs.lemmas.Bool.Decides.{nat_tests}
use Rattle.std.proofs.lemmas.Fmt.{IsAscii-decimal, decimal_by_steps}
use Rattle.std.proofs.lemmas.List.{append-nil}
use Rattle.std.proofs.lemmas.List.Elements.{All-from_recursion}
use Rattle.std.proofs.lemmas.List.Folds.{list_all-append}
use Rattle.std.proofs.lemmas.Str.{IsUtf8-append, IsUtf8-from_ascii}
use Rattle.mail_wire.specs.Lines.{crlf, is_crlf, lines_of}
use Rattle.mail_wire.specs.Message.{IsSound}
use Rattle.mail_wire.specs.Octets.{is_ascii, is_high, is_line_end, same_name}
use Rattle.mail_wire.proofs.AllLemmas.{pass-append, pass-weaker}
use Rattle.mail_wire.proofs.Folded.{IsFolded-plain}
use Rattle.utf8_fields.proofs.LineShapes.{EndsOnce, before_once}
use Rattle.mime_tree.specs.Openings.{IsOtherField, Opens}
use Rattle.mime_tree.specs.Tree.{HasTree, IsEntity, has_high_block}
use Rattle.mime_tree.specs.declared.entity.Entity.{Entity}
use Rattle.mime_tree.specs.declared.entity.Shape.TheVariants.{Leaf}
use Rattle.mime_tree.specs.declared.openings.Opening.TheVariants.{Nothing}
use Rattle.mime_tree.proofs.EndedLines.{sound_ended}
use Rattle.mime_tree.proofs.FieldLines.{is_safe, no_nul_in_safe}
use Rattle.mime_tree.proofs.LinesAgain.{lines_of-ended}
use Rattle.mime_tree.proofs.KeptTrees.{fields_before, high_after}
use Rattle.journal_records.specs.Stored.{HasMark, IsStored}
use Rattle.mail_command.specs.Generating.{generated, space_and_e_acute}

-- ---- digits

abbrev is_digit : ℕ → Bool
is_digit x = nat_le 48 x && nat_lt x 58

digit_is : (n : ℕ) → n < 10 → is_digit (48 + n) ≡ true
digit_is n small = grind (arith, nat_tests)

decimal_digits : (n : ℕ) → n < 2 ^ 64 → list_all is_digit (decimal n) ≡ true
decimal_digits = decimal_by_steps (λ m ds. list_all is_digit ds ≡ true) (λ m small. and_from (is_digit (48 + m)) true (digit_is m small) refl)
    (λ m ds large h. list_all-append is_digit ds ((48 + m % 10) ∷ [])
    ∙ and_from (list_all is_digit ds) (list_all is_digit ((48 + m % 10) ∷ [])) h (and_from (is_digit (48 + m % 10)) true (digit_is (m % 10) (omega arith)) refl))

digit_inside : (x : ℕ) → is_digit x ≡ true → not (is_line_end x) ≡ true
digit_inside x is = grind (arith, nat_tests)

digit_safe : (x : ℕ) → is_digit x ≡ true → is_safe x ≡ true
digit_safe x is = grind (arith, nat_tests)

digit_large : (x : ℕ) → is_digit x ≡ true → 48 ≤ x
digit_large x is = grind (arith, nat_tests)

-- each of them
digit_at : (xs : List ℕ) → list_all is_digit xs ≡ true → (at x : ℕ) → slice_get xs at ≡ Some x → 48 ≤ x
digit_at [] all at x is = cc is
digit_at (y ∷ xs) all zero x is = let same : y ≡ x = cc is in subst (λ z. 48 ≤ z) same (digit_large y (and_parts (is_digit y) (list_all is_digit xs) all).0)
digit_at (y ∷ xs) all (suc at) x is = digit_at xs (and_parts (is_digit y) (list_all is_digit xs) all).1 at x is

-- ---- octets above 127

not_both : (a b : Bool) → not b ≡ true → not (a && b) ≡ true
not_both true b is = is
not_both false b is = refl

-- one that stands after others
high_back : (front back : List ℕ) → is_high back ≡ true → is_high (front ++ back) ≡ true
high_back front back is = ap not (list_all-append is_ascii front back) ∙ not_both (list_all is_ascii front) (list_all is_ascii back) is

-- ---- the empty line and a line of digits

digits_sound : (xs : List ℕ) → list_all is_digit xs ≡ true → IsSound (crlf ++ xs)
digits_sound xs all zero (inl nul) = cc nul
digits_sound xs all zero (inr (inl cr)) = cr.1 refl
digits_sound xs all zero (inr (inr lf)) = let bad = lf.0 in cc bad
digits_sound xs all (suc zero) (inl nul) = cc nul
digits_sound xs all (suc zero) (inr (inl cr)) = let bad = cr.0 in cc bad
digits_sound xs all (suc zero) (inr (inr lf)) = lf.1 0 refl refl
digits_sound xs all (suc (suc at)) (inl nul) = let large = digit_at xs all at 0 nul in omega (arith, large)
digits_sound xs all (suc (suc at)) (inr (inl cr)) = let large = digit_at xs all at 13 cr.0 in omega (arith, large)
digits_sound xs all (suc (suc at)) (inr (inr lf)) = let large = digit_at xs all at 10 lf.0 in omega (arith, large)

no_crlf : (x y : ℕ) → is_digit x ≡ true → is_crlf x y ≡ false
no_crlf x y is = grind (arith, nat_tests)

digits_end : (xs : List ℕ) → list_all is_digit xs ≡ true → EndsOnce (xs ++ crlf)
digits_end [] all = refl
digits_end (x ∷ []) all = before_once x 13 (10 ∷ []) (no_crlf x 13 (and_parts (is_digit x) true all).0) refl
digits_end (x ∷ y ∷ xs) all =
    let parts = and_parts (is_digit x) (list_all is_digit (y ∷ xs)) all in before_once x y (xs ++ crlf) (no_crlf x y parts.0) (digits_end (y ∷ xs) parts.1)

abbrev only_entity : ℕ → Entity
only_entity end = record { parent = None; depth = 1; at = 0; body = 2; end = end; shape = Leaf; block = record { fields = []; end = 0 } }

opens_nothing : Opens false [] Nothing
opens_nothing = record { encoding = None; is_encoding = refl; opened = inl (tt, (None, refl, refl)) }

digits_lines : (xs : List ℕ) → list_all is_digit xs ≡ true → lines_of (crlf ++ (xs ++ crlf)) ≡ crlf ∷ (xs ++ crlf) ∷ []
unfolding lines_of
digits_lines xs all =
    let whole = lines_of-ended (xs ++ crlf) [] (digits_end xs all) in
    lines_of-ended crlf (xs ++ crlf) refl ∙ ap (λ lines. crlf ∷ lines) (ap lines_of (sym (append-nil (xs ++ crlf))) ∙ whole)

digits_stored : (xs : List ℕ) → list_all is_digit xs ≡ true → IsStored (crlf ++ (xs ++ crlf))
unfolding IsEntity
digits_stored xs all = record {
  entities = only_entity (0 + length (concat (crlf ∷ (xs ++ crlf) ∷ []))) ∷ [];
  tree = record {
    is_message = sound_ended (crlf ++ xs) (digits_sound xs all);
    root = rw (digits_lines xs all) (
      record {
        entity = only_entity (0 + length (concat (crlf ∷ (xs ++ crlf) ∷ [])));
        content = (xs ++ crlf) ∷ [];
        inner = [];
        entities_are = refl;
        head = record { has_block = record { header = []; rest = crlf ∷ (xs ++ crlf) ∷ []; lines = refl; fields_are = (refl, refl); ends = refl }; content_is = refl; body_is = refl };
        parent_is = refl;
        depth_is = refl;
        at_is = refl;
        end_is = refl;
      },
      Nothing,
      opens_nothing,
      (refl, refl),
    );
  };
}

-- ---- the fields before it

abbrev from_field : List ℕ
from_field = codes "From: a@example.org" ++ crlf

from_other : IsOtherField from_field
unfolding same_name lib.Utf8.encode
from_other = record {
  f = record { name = codes "From"; white = []; body = codes " a@example.org"; ending = crlf };
  is_field = record {
    spelled = refl;
    named = omega arith;
    name = refl;
    white = refl;
    body = IsFolded-plain (codes " a@example.org") refl;
    utf8 = (codes " a@example.org", (refl, refl));
    ending = inr refl;
  };
  ending = refl;
  no_nul = no_nul_in_safe from_field refl;
  no_type = refl;
  no_encoding = refl;
}

abbrev subject : List ℕ → List ℕ
subject digits = codes " s" ++ (digits ++ space_and_e_acute)

subject_other : (n : ℕ) → n < 2 ^ 64 → IsOtherField (codes "Subject:" ++ (subject (decimal n) ++ crlf))
unfolding same_name lib.Utf8.encode
subject_other n small =
    let digits = decimal_digits n small in
    let safe = pass-append is_safe (decimal n) (space_and_e_acute ++ crlf) (pass-weaker is_digit is_safe digit_safe (decimal n) digits) refl in
    record {
      f = record { name = codes "Subject"; white = []; body = subject (decimal n); ending = crlf };
      is_field = record {
        spelled = refl;
        named = omega arith;
        name = refl;
        white = refl;
        body = IsFolded-plain (subject (decimal n))
            (pass-append (λ x. not (is_line_end x)) (decimal n) space_and_e_acute (pass-weaker is_digit (λ x. not (is_line_end x)) digit_inside (decimal n) digits) refl);
        utf8 = IsUtf8-append (codes " s") (decimal n ++ space_and_e_acute) (codes " s", (refl, refl))
            (IsUtf8-append (decimal n) space_and_e_acute (IsUtf8-from_ascii (decimal n) (IsAscii-decimal n small)) (32 ∷ 233 ∷ [], (refl, refl)));
        ending = inr refl;
      };
      ending = refl;
      no_nul = no_nul_in_safe (codes "Subject:" ++ (subject (decimal n) ++ crlf)) (rw (append_assoc (decimal n) space_and_e_acute crlf) safe);
      no_type = refl;
      no_encoding = refl;
    }

-- ---- the message, whose header has an octet above 127

-- a message with a high header block
record HasHigh (octets : List ℕ) : Type 0 where
  entities : List Entity
  tree : HasTree octets entities
  high : has_high_block octets entities ≡ true

or_true : (a : Bool) → (a || true) ≡ true
or_true true = refl
or_true false = refl

-- a field is put before it
after_field : (field octets : List ℕ) → IsOtherField field → (stored : IsStored octets) → (list_any is_high (field ∷ []) || has_high_block octets stored.entities) ≡ true → HasHigh (field ++ octets)
after_field field octets other stored high =
    let all = All-from_recursion IsOtherField (field ∷ []) (other, tt) in
    let found = fields_before octets (field ∷ []) stored.entities stored.tree all in
    subst (λ front. HasHigh (front ++ octets)) (append-nil field)
    (record { entities = found.0; tree = found.1; high = high_after octets (field ∷ []) stored.entities found.0 stored.tree all found.1 ∙ high })

subject_high : (digits : List ℕ) → is_high (codes "Subject:" ++ (subject digits ++ crlf)) ≡ true
subject_high digits = high_back (codes "Subject: s") ((digits ++ space_and_e_acute) ++ crlf) (rw (append_assoc digits space_and_e_acute crlf) (high_back digits (space_and_e_acute ++ crlf) refl))

generated_high : (number : ℕ) → number < 2 ^ 64 → HasHigh (generated number)
generated_high number small =
    let digits = decimal number in
    let body = digits_stored digits (decimal_digits number small) in
    let line : List ℕ = codes "Subject:" ++ (subject digits ++ crlf) in
    let high : (list_any is_high (line ∷ []) || has_high_block (crlf ++ (digits ++ crlf)) body.entities) ≡ true = rw (subject_high digits) refl in
    let field = after_field line (crlf ++ (digits ++ crlf)) (subject_other number small) body high in
    let front = append_assoc digits space_and_e_acute crlf in
    let back = append_assoc digits (space_and_e_acute ++ crlf) (crlf ++ (digits ++ crlf)) in
    let rest = rw (front, back) at field in
    after_field from_field (codes "Subject: s" ++ (digits ++ (space_and_e_acute ++ (crlf ++ (crlf ++ (digits ++ crlf)))))) from_other (record { entities = rest.entities; tree = rest.tree })
    (ap (λ b. list_any is_high (from_field ∷ []) || b) rest.high ∙ or_true (list_any is_high (from_field ∷ [])))

-- the mark of high octets with a high header block
pub generated_marked : (number : ℕ) → number < 2 ^ 64 → HasMark (generated number) 3
generated_marked number small =
    let has = generated_high number small in
    let rest : List ℕ = decimal number ++ (space_and_e_acute ++ (crlf ++ (crlf ++ (decimal number ++ crlf)))) in
    let any : is_high (generated number) ≡ true =
    high_back from_field (codes "Subject: s" ++ rest) (high_back (codes "Subject: s") rest (high_back (decimal number) (space_and_e_acute ++ (crlf ++ (crlf ++ (decimal number ++ crlf)))) refl)) in
    record { entities = has.entities; tree = has.tree; mark_is = rw (has.high, any) refl }
