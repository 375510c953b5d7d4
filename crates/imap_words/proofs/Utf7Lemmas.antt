-- Modified UTF-7 is read back.
use Rattle.std.proofs.Common.{◌≡◌, ℕ, ◌+◌, ◌-◌, ◌<◌, Bool, true, false, not, nat_lt, List, [], ◌∷◌, ◌++◌, length, take, drop, get_or, position, None, Some, ◌⊎◌, inl, inr, refl, sym, ap, ◌∙◌, subst, append_assoc, append-nil, arith, ◌==◌, IsUtf8}
use Rattle.std.proofs.lemmas.Bool.{and_parts, and_from, cond-true, cond-false, cond_both, cases_Bool, eqb-true, eqb-false, leb-true, lt-ltb}
use Rattle.std.proofs.lemmas.List.{drop_more, drop_all, take_all, length-drop}
use Rattle.std.proofs.lemmas.List.Quantifiers.{position-Some}
use Rattle.std.proofs.lemmas.Str.{chars-encodes, encodes-append}
use Rattle.std.specs.List.{list_all, flat_map}
use Rattle.std.specs.Str.{chars, encode_utf8_all, all_scalars}
use Rattle.std.specs.Char.{encode_utf8}
use Rattle.mail_wire.specs.Octets.{is_ascii}
use Rattle.mail_wire.specs.Spans.{IsSpan}
use Rattle.mail_wire.proofs.SpanLemmas.{IsSpan-found, IsSpan-whole, span_once}
use Rattle.imap_words.specs.Utf7.{is_printable, unit_octets, char_octets, utf16_octets, modified_base64, shifted, unshifted, written_after, modified_utf7, is_no_dash, has_no_dash, IsShift}
use Rattle.imap_words.proofs.Passing.{all_join}
use Rattle.imap_words.proofs.Utf7Runs.{run_has_no_dash, run_is_ascii, run_is_some}

-- ---- the first dash

no_dash_opposite : (x : ℕ) → is_no_dash x ≡ not (not (is_no_dash x))
no_dash_opposite x = twice (is_no_dash x)
  where
    twice : (b : Bool) → b ≡ not (not b)
    twice true = refl
    twice false = refl

dash_at : (text run following front rest : List ℕ) → IsSpan is_no_dash text front rest → has_no_dash run ≡ true → text ≡ run ++ 45 ∷ following → (front ≡ run) × (rest ≡ 45 ∷ following)
dash_at text run following front rest span none e = span_once is_no_dash front run rest (45 ∷ following) span.passes none span.stops refl (sym span.whole ∙ e)

pub no_dash_found : (text run following : List ℕ) → position (λ x. not (is_no_dash x)) text ≡ None → has_no_dash run ≡ true → text ≡ run ++ 45 ∷ following → ⊥
no_dash_found text run following found none e =
    let span = IsSpan-whole is_no_dash (λ x. not (is_no_dash x)) text no_dash_opposite found in
    let at = dash_at text run following _ _ span none e in
    cc (sym (drop_all (length text) text (omega arith)) ∙ at.1)

pub dash_found : (text run following : List ℕ) (at : ℕ) → position (λ x. not (is_no_dash x)) text ≡ Some at → has_no_dash run ≡ true → text ≡ run ++ 45 ∷ following
    → (take at text ≡ run) × (take (length text - (at + 1)) (drop (at + 1) text) ≡ following)
dash_found text run following at found none e =
    let spans = IsSpan-found is_no_dash (λ x. not (is_no_dash x)) text at no_dash_opposite found in
    let parts = dash_at text run following _ _ spans.1 none e in
    let more : drop at text ≡ get_or text at 0 ∷ drop (at + 1) text = drop_more text at 0 (position-Some (λ x. not (is_no_dash x)) text at 0 found).0 in
    let tail : drop (at + 1) text ≡ following = cc (sym more ∙ parts.1) in
    (parts.0, take_all (length text - (at + 1)) (drop (at + 1) text) (omega (arith, length-drop (at + 1) text)) ∙ tail)

-- ---- how a name is written

-- the octets that wait, then those of a run, then what follows
pub record Divided (octets cs : List ℕ) : Type 0 where
  pub run : List ℕ
  pub after : List ℕ
  pub whole : cs ≡ run ++ after
  pub spelled : written_after octets cs ≡ shifted (octets ++ utf16_octets run) ++ written_after [] after

pub written_printable : (octets : List ℕ) (c : ℕ) (cs : List ℕ) → is_printable c ≡ true → written_after octets (c ∷ cs) ≡ shifted octets ++ (unshifted c ++ written_after [] cs)
written_printable octets c cs e = cond-true (is_printable c) _ _ e

pub written_other : (octets : List ℕ) (c : ℕ) (cs : List ℕ) → is_printable c ≡ false → written_after octets (c ∷ cs) ≡ written_after (octets ++ char_octets c) cs
written_other octets c cs e = cond-false (is_printable c) _ _ e

pub divided : (octets cs : List ℕ) → Divided octets cs
divided octets [] = record { run = []; after = []; whole = refl; spelled = ap shifted (sym (append-nil octets)) ∙ sym (append-nil (shifted (octets ++ []))) }
divided octets (c ∷ cs) = elim (cases_Bool (is_printable c)) [
  | inl e ↦ record {
    run = [];
    after = c ∷ cs;
    whole = refl;
    spelled = written_printable octets c cs e ∙ (ap (λ z. shifted z ++ (unshifted c ++ written_after [] cs)) (sym (append-nil octets)) ∙ ap (λ z. shifted (octets ++ []) ++ z) (sym (written_printable [] c cs e)));
  }
  | inr e ↦
      let d = divided (octets ++ char_octets c) cs in
      record {
        run = c ∷ d.run;
        after = d.after;
        whole = ap (λ z. c ∷ z) d.whole;
        spelled = written_other octets c cs e ∙ (d.spelled ∙ ap (λ z. shifted z ++ written_after [] d.after) (append_assoc octets (char_octets c) (utf16_octets d.run)));
      }
]

-- a character has octets
pub record BeginsSome (octets : List ℕ) : Type 0 where
  pub first : ℕ
  pub others : List ℕ
  pub is : octets ≡ first ∷ others

pub char_begins : (c : ℕ) → BeginsSome (char_octets c)
char_begins c =
    cond_both (nat_lt c 65536) _ _ (λ units. BeginsSome (flat_map unit_octets units)) (λ e. record { first = _; others = _; is = refl }) (λ e. record { first = _; others = _; is = refl })

pub shifted_some : (octets : List ℕ) → BeginsSome octets → shifted octets ≡ 38 ∷ (modified_base64 octets ++ 45 ∷ [])
shifted_some octets some = subst (λ z. shifted z ≡ 38 ∷ (modified_base64 z ++ 45 ∷ [])) (sym some.is) refl

pub run_begins : (c : ℕ) (more : List ℕ) → BeginsSome (char_octets c ++ more)
run_begins c more = let some = char_begins c in record { first = some.first; others = some.others ++ more; is = ap (λ z. z ++ more) some.is }

-- ---- a name that was read so far

pub record NameTaken (whole name rest : List ℕ) : Type 0 where
  pub back : List ℕ
  pub spelled : whole ≡ name ++ encode_utf8_all back
  pub scalars : all_scalars back ≡ true
  pub left : rest ≡ written_after [] back

pub name_begin : (whole text : List ℕ) → IsUtf8 whole → text ≡ modified_utf7 whole → NameTaken whole [] text
name_begin whole text u e = record {
  back = u.0;
  spelled = sym u.1.1;
  scalars = u.1.0;
  left = e ∙ ap (λ z. written_after [] z) (ap chars (sym u.1.1) ∙ chars-encodes u.0 u.1.0);
}

pub name_plain : (whole name rest next : List ℕ) (x : ℕ) (others : List ℕ) → NameTaken whole name rest → rest ≡ x ∷ others → (x ≡ 38 → ⊥) → next ≡ name ++ encode_utf8 x
    → NameTaken whole next others
name_plain whole name rest next x others taken e plain n = by_back taken.back taken.spelled taken.scalars (sym e ∙ taken.left)
  where
    taken_plain : (c : ℕ) (cs : List ℕ) → whole ≡ name ++ (encode_utf8 c ++ encode_utf8_all cs) → all_scalars cs ≡ true → x ≡ c → others ≡ written_after [] cs → NameTaken whole next others
    taken_plain c cs w s same left = record {
      back = cs;
      spelled = w ∙ (sym (append_assoc name (encode_utf8 c) (encode_utf8_all cs)) ∙ ap (λ z. z ++ encode_utf8_all cs) (ap (λ z. name ++ encode_utf8 z) (sym same) ∙ sym n));
      scalars = s;
      left = left;
    }

    by_ampersand : (c : ℕ) (cs : List ℕ) → whole ≡ name ++ (encode_utf8 c ++ encode_utf8_all cs) → all_scalars cs ≡ true → x ∷ others ≡ unshifted c ++ written_after [] cs → NameTaken whole next others
    by_ampersand c cs w s left = elim (cases_Bool (c == 38)) [
      | inl is ↦
          let same : x ∷ others ≡ 38 ∷ 45 ∷ written_after [] cs = left ∙ ap (λ z. z ++ written_after [] cs) (cond-true (c == 38) _ _ is) in
          absurd (plain (cc same))
      | inr is ↦
          let same : x ∷ others ≡ c ∷ written_after [] cs = left ∙ ap (λ z. z ++ written_after [] cs) (cond-false (c == 38) _ _ is) in
          taken_plain c cs w s (cc same) (cc same)
    ]

    by_back : (back : List ℕ) → whole ≡ name ++ encode_utf8_all back → all_scalars back ≡ true → x ∷ others ≡ written_after [] back → NameTaken whole next others
    by_back [] w s left = cc left
    by_back (c ∷ cs) w s left = elim (cases_Bool (is_printable c)) [
      | inl e ↦ by_ampersand c cs w (and_parts _ (all_scalars cs) s).1 (left ∙ written_printable [] c cs e)
      | inr e ↦
          let d = divided (char_octets c) cs in
          let begins = shifted_some (char_octets c ++ utf16_octets d.run) (run_begins c (utf16_octets d.run)) in
          let same : x ∷ others ≡ (38 ∷ (modified_base64 (char_octets c ++ utf16_octets d.run) ++ 45 ∷ [])) ++ written_after [] d.after
          = left ∙ (written_other [] c cs e ∙ (d.spelled ∙ ap (λ z. z ++ written_after [] d.after) begins)) in
          absurd (plain (cc same))
    ]

-- what stands after an ampersand
pub record ShiftTaken (whole name others : List ℕ) : Type 0 where
  pub cs : List ℕ
  pub symbols : List ℕ
  pub after : List ℕ
  pub shift : IsShift symbols cs
  pub no_dash : has_no_dash symbols ≡ true
  pub left : others ≡ symbols ++ 45 ∷ written_after [] after
  pub spelled : whole ≡ name ++ (encode_utf8_all cs ++ encode_utf8_all after)
  pub scalars : all_scalars after ≡ true

scalars_parts : (a b : List ℕ) → all_scalars (a ++ b) ≡ true → (all_scalars a ≡ true) × (all_scalars b ≡ true)
scalars_parts [] b s = (refl, s)
scalars_parts (c ∷ a) b s =
    let parts = and_parts _ (all_scalars (a ++ b)) s in
    let tail = scalars_parts a b parts.1 in
    (and_from _ (all_scalars a) parts.0 tail.0, tail.1)

pub name_shift : (whole name rest others : List ℕ) → NameTaken whole name rest → rest ≡ 38 ∷ others → ShiftTaken whole name others
name_shift whole name rest others taken e = by_back taken.back taken.spelled taken.scalars (sym e ∙ taken.left)
  where
    by_ampersand : (c : ℕ) (cs : List ℕ) → whole ≡ name ++ (encode_utf8 c ++ encode_utf8_all cs) → all_scalars cs ≡ true → 38 ∷ others ≡ unshifted c ++ written_after [] cs → ShiftTaken whole name others
    by_ampersand c cs w s left = elim (cases_Bool (c == 38)) [
      | inl is ↦
          let same : 38 ∷ others ≡ 38 ∷ 45 ∷ written_after [] cs = left ∙ ap (λ z. z ++ written_after [] cs) (cond-true (c == 38) _ _ is) in
          let c_is : c ≡ 38 = eqb-true c 38 is in
          record {
            cs = 38 ∷ [];
            symbols = [];
            after = cs;
            shift = inl (refl, refl);
            no_dash = refl;
            left = cc same;
            spelled = w ∙ ap (λ z. name ++ (z ++ encode_utf8_all cs)) (ap encode_utf8 c_is ∙ sym (append-nil (encode_utf8 38)));
            scalars = s;
          }
      | inr is ↦
          let same : 38 ∷ others ≡ c ∷ written_after [] cs = left ∙ ap (λ z. z ++ written_after [] cs) (cond-false (c == 38) _ _ is) in
          absurd (eqb-false c 38 is (cc same))
    ]

    by_back : (back : List ℕ) → whole ≡ name ++ encode_utf8_all back → all_scalars back ≡ true → 38 ∷ others ≡ written_after [] back → ShiftTaken whole name others
    by_back [] w s left = cc left
    by_back (c ∷ cs) w s left = elim (cases_Bool (is_printable c)) [
      | inl e ↦ by_ampersand c cs w (and_parts _ (all_scalars cs) s).1 (left ∙ written_printable [] c cs e)
      | inr e ↦
          let d = divided (char_octets c) cs in
          let some = run_begins c (utf16_octets d.run) in
          let begins = shifted_some (char_octets c ++ utf16_octets d.run) some in
          let mine : List ℕ = modified_base64 (utf16_octets (c ∷ d.run)) in
          let same : 38 ∷ others ≡ 38 ∷ ((mine ++ 45 ∷ []) ++ written_after [] d.after)
          = left ∙ (written_other [] c cs e ∙ (d.spelled ∙ ap (λ z. z ++ written_after [] d.after) begins)) in
          let parts = scalars_parts (c ∷ d.run) d.after (subst (λ z. all_scalars (c ∷ z) ≡ true) d.whole s) in
          record {
            cs = c ∷ d.run;
            symbols = mine;
            after = d.after;
            shift = inr (subst (λ z. 0 < length (modified_base64 z)) (sym some.is) (run_is_some some.first some.others), parts.0, refl);
            no_dash = run_has_no_dash (utf16_octets (c ∷ d.run));
            left = tail_of same ∙ append_assoc mine (45 ∷ []) (written_after [] d.after);
            spelled = w ∙ ap (λ z. name ++ z) (ap (λ z. encode_utf8_all (c ∷ z)) d.whole ∙ encodes-append (c ∷ d.run) d.after);
            scalars = parts.1;
          }
    ]
      where
        tail_of : {xs ys : List ℕ} → 38 ∷ xs ≡ 38 ∷ ys → xs ≡ ys
        tail_of same = cc same

pub name_shifted : (whole name others next following : List ℕ) (taken : ShiftTaken whole name others) → following ≡ written_after [] taken.after → next ≡ name ++ encode_utf8_all taken.cs → NameTaken whole next following
name_shifted whole name others next following taken b n = record {
  back = taken.after;
  spelled = taken.spelled ∙ (sym (append_assoc name (encode_utf8_all taken.cs) (encode_utf8_all taken.after)) ∙ ap (λ z. z ++ encode_utf8_all taken.after) (sym n));
  scalars = taken.scalars;
  left = b;
}

pub name_end : (whole name rest : List ℕ) → NameTaken whole name rest → rest ≡ [] → name ≡ whole
name_end whole name rest taken e = by_back taken.back taken.spelled (sym e ∙ taken.left)
  where
    by_back : (back : List ℕ) → whole ≡ name ++ encode_utf8_all back → [] ≡ written_after [] back → name ≡ whole
    by_back [] w left = sym (w ∙ append-nil name)
    by_back (c ∷ cs) w left = elim (cases_Bool (is_printable c)) [
      | inl e ↦ absurd (none_of c cs (cases_Bool (c == 38)) (left ∙ written_printable [] c cs e))
      | inr e ↦
          let d = divided (char_octets c) cs in
          let begins = shifted_some (char_octets c ++ utf16_octets d.run) (run_begins c (utf16_octets d.run)) in
          cc (left ∙ (written_other [] c cs e ∙ (d.spelled ∙ ap (λ z. z ++ written_after [] d.after) begins)))
    ]
      where
        none_of : (c : ℕ) (cs : List ℕ) → (c == 38 ≡ true) ⊎ (c == 38 ≡ false) → [] ≡ unshifted c ++ written_after [] cs → ⊥
        none_of c cs (inl is) none = cc (none ∙ ap (λ z. z ++ written_after [] cs) (cond-true (c == 38) _ _ is))
        none_of c cs (inr is) none = cc (none ∙ ap (λ z. z ++ written_after [] cs) (cond-false (c == 38) _ _ is))

-- ---- it is ASCII

shifted_ascii : (octets : List ℕ) → list_all is_ascii (shifted octets) ≡ true
shifted_ascii [] = refl
shifted_ascii (x ∷ octets) = and_from (is_ascii 38) _ refl (all_join is_ascii (modified_base64 (x ∷ octets)) (45 ∷ []) (run_is_ascii (x ∷ octets)) refl)

unshifted_ascii : (c : ℕ) → is_printable c ≡ true → list_all is_ascii (unshifted c) ≡ true
unshifted_ascii c e =
    cond_both (c == 38) _ _ (λ z. list_all is_ascii z ≡ true) (λ _. refl)
    (λ _. and_from (is_ascii c) _ (lt-ltb c 128 (omega (arith, leb-true c 126 (and_parts _ _ e).1))) refl)

pub written_ascii : (octets cs : List ℕ) → list_all is_ascii (written_after octets cs) ≡ true
written_ascii octets [] = shifted_ascii octets
written_ascii octets (c ∷ cs) = elim (cases_Bool (is_printable c)) [
  | inl e ↦ subst (λ z. list_all is_ascii z ≡ true) (sym (written_printable octets c cs e)) (all_join is_ascii (shifted octets) _ (shifted_ascii octets) (all_join is_ascii (unshifted c) _ (unshifted_ascii c e) (written_ascii [] cs)))
  | inr e ↦ subst (λ z. list_all is_ascii z ≡ true) (sym (written_other octets c cs e)) (written_ascii (octets ++ char_octets c) cs)
]
