-- A field's name is its head and its body.
use Rattle.std.proofs.Common.{◌≡◌, ℕ, ◌<◌, Bool, true, false, ◌&&◌, List, [], ◌∷◌, ◌++◌, length, inl, inr, refl, sym, ap, ◌∙◌, subst, append-nil, arith}
use Rattle.std.proofs.lemmas.Bool.{and_parts, and_from, both_ways}
use Rattle.std.proofs.lemmas.Bool.Decides.{nat_tests}
use Rattle.std.proofs.lemmas.Grind.{common_steps}
use Rattle.std.proofs.lemmas.List.Concat.{flat_map-cons}
use Rattle.std.proofs.lemmas.List.Elements.{All-nil, All-cons, All-head, All-tail}
use Rattle.std.specs.List.{All, flat_map, list_all}
use Rattle.imap_words.specs.Languages.{Then, Is, IsCounted}
use Rattle.imap_words.specs.declared.tokens.Kind.TheVariants.{NameAstring}
use Rattle.imap_words.specs.Tokens.{IsRunOf, passes, is_astring_char, is_name_char}
use Rattle.imap_words.specs.Strings.{QuotedChar, text, escaped, high, IsQuotedChar, quoted_octets, HeadValue, whole, literal, IsHighChar, IsAstring, IsHeaderName, IsQuotedName, IsNameHeader, IsNameHead, NameBodyOf}
use Rattle.imap_words.proofs.Passing.{all_append}
use Rattle.imap_words.proofs.Going.{Within}
use Rattle.imap_words.proofs.HighSteps.{high_never}

all_both : (p q : ℕ → Bool) (xs : List ℕ) → list_all p xs ≡ true → list_all q xs ≡ true → list_all (λ x. p x && q x) xs ≡ true
all_both p q [] a b = refl
all_both p q (x ∷ xs) a b =
    let s = and_parts (p x) (list_all p xs) a in
    let t = and_parts (q x) (list_all q xs) b in
    and_from (p x && q x) (list_all (λ y. p y && q y) xs) (and_from (p x) (q x) s.0 t.0) (all_both p q xs s.1 t.1)

all_left : (p q : ℕ → Bool) (xs : List ℕ) → list_all (λ x. p x && q x) xs ≡ true → list_all p xs ≡ true
all_left p q [] a = refl
all_left p q (x ∷ xs) a =
    let s = and_parts (p x && q x) (list_all (λ y. p y && q y) xs) a in
    and_from (p x) (list_all p xs) (and_parts (p x) (q x) s.0).0 (all_left p q xs s.1)

all_right : (p q : ℕ → Bool) (xs : List ℕ) → list_all (λ x. p x && q x) xs ≡ true → list_all q xs ≡ true
all_right p q [] a = refl
all_right p q (x ∷ xs) a =
    let s = and_parts (p x && q x) (list_all (λ y. p y && q y) xs) a in
    and_from (q x) (list_all q xs) (and_parts (p x) (q x) s.0).1 (all_right p q xs s.1)

-- ---- a name in quotes has no character above 127

name_is_low : (x : ℕ) → is_name_char x ≡ true → x < 128
unfolding is_name_char
name_is_low x e = grind (arith, common_steps, nat_tests, e)

high_is_no_name : (octets : List ℕ) (x : ℕ) → IsHighChar octets x → list_all is_name_char octets ≡ true → ⊥
high_is_no_name [] x is all = high_never 0 (λ l h. omega (arith, l)) [] (0 ∷ []) x [] is refl
high_is_no_name (y ∷ ys) x is all =
    let low = name_is_low y (and_parts (is_name_char y) (list_all is_name_char ys) all).0 in
    high_never y (λ l h. omega (arith, l, low)) (y ∷ ys) [] x ys is (append-nil (y ∷ ys))

low_char : (utf8 : Bool) (item : QuotedChar) → IsQuotedChar utf8 item → list_all is_name_char (quoted_octets item) ≡ true → IsQuotedChar false item
low_char utf8 (text x) is all = is
low_char utf8 (escaped x) is all = is
low_char utf8 (high octets) is all = absurd (high_is_no_name octets is.1.0 is.1.1 all)

low_chars : (utf8 : Bool) (items : List QuotedChar) → All (IsQuotedChar utf8) items → list_all is_name_char (flat_map quoted_octets items) ≡ true → All (IsQuotedChar false) items
low_chars utf8 [] each all = All-nil (IsQuotedChar false)
low_chars utf8 (item ∷ items) each all =
    let parts = all_append is_name_char (quoted_octets item) (flat_map quoted_octets items) (subst (λ z. list_all is_name_char z ≡ true) (flat_map-cons quoted_octets item items) all) in
    All-cons (IsQuotedChar false) item items (low_char utf8 item (All-head (IsQuotedChar utf8) item items each) parts.0) (low_chars utf8 items (All-tail (IsQuotedChar utf8) item items each) parts.1)

any_char : (utf8 : Bool) (item : QuotedChar) → IsQuotedChar false item → IsQuotedChar utf8 item
any_char utf8 (text x) is = is
any_char utf8 (escaped x) is = is
any_char utf8 (high octets) is = absurd (both_ways false refl is.0)

any_chars : (utf8 : Bool) (items : List QuotedChar) → All (IsQuotedChar false) items → All (IsQuotedChar utf8) items
any_chars utf8 [] each = All-nil (IsQuotedChar utf8)
any_chars utf8 (item ∷ items) each = All-cons (IsQuotedChar utf8) item items (any_char utf8 item (All-head (IsQuotedChar false) item items each)) (any_chars utf8 items (All-tail (IsQuotedChar false) item items each))

-- ---- the law

pub name_parts : (utf8 : Bool) → Within (IsHeaderName utf8) (Then IsNameHead NameBodyOf)
name_parts utf8 octets v is = by_kind is.is_astring
  where
    by_kind : IsAstring utf8 octets v → Then IsNameHead NameBodyOf octets v
    by_kind (inl run) = record {
      value = whole v;
      front = octets;
      back = [];
      whole = sym (append-nil octets);
      first = inl (record {
        value = v;
        front = octets;
        back = [];
        whole = sym (append-nil octets);
        first = record { some = run.some; passes = all_both is_astring_char is_name_char octets run.passes (subst (λ z. list_all is_name_char z ≡ true) run.value_is is.is_name.passes); value_is = run.value_is };
        second = (refl, refl);
      });
      second = (refl, refl);
    }
    by_kind (inr (inl quoted)) = record {
      value = whole v;
      front = octets;
      back = [];
      whole = sym (append-nil octets);
      first = inr (inl (record {
        value = v;
        front = octets;
        back = [];
        whole = sym (append-nil octets);
        first = record {
          is_quoted = record { items = quoted.items; each = low_chars utf8 quoted.items quoted.each (subst (λ z. list_all is_name_char z ≡ true) quoted.value_is is.is_name.passes); spelled = quoted.spelled; value_is = quoted.value_is };
          is_name = is.is_name;
        };
        second = (refl, refl);
      }));
      second = (refl, refl);
    }
    by_kind (inr (inr lit)) = record {
      value = literal lit.value;
      front = lit.front;
      back = lit.back;
      whole = lit.whole;
      first = inr (inr (record {
        value = lit.value;
        front = lit.front;
        back = [];
        whole = sym (append-nil lit.front);
        first = record { is_header = lit.first; some = subst (λ n. 0 < n) (ap length lit.second.1 ∙ lit.second.0) is.is_name.some };
        second = (refl, refl);
      }));
      second = (lit.second, subst (λ z. IsRunOf is_name_char z z) lit.second.1 is.is_name);
    }

pub name_whole : (utf8 : Bool) → Within (Then IsNameHead NameBodyOf) (IsHeaderName utf8)
name_whole utf8 octets v is = by_head is.first
  where
    bare : {U : Type 0} (P : List ℕ → U → Type 0) (f : U → HeadValue) (h : Then P (λ u. Is (f u)) is.front is.value) → is.front ≡ h.front
    bare P f h = h.whole ∙ (ap (λ z. h.front ++ z) h.second.0 ∙ append-nil h.front)

    all : (front u : List ℕ) → is.front ≡ front → is.value ≡ whole u → (octets ≡ front) × (v ≡ u)
    all front u f value =
        let body : Is u is.back v = subst (λ z. NameBodyOf z is.back v) value is.second in
        (is.whole ∙ (ap (λ z. is.front ++ z) body.0 ∙ (append-nil is.front ∙ f)), body.1)

    moved : (front u : List ℕ) → IsHeaderName utf8 front u → (octets ≡ front) × (v ≡ u) → IsHeaderName utf8 octets v
    moved front u p same = subst (λ z. IsHeaderName utf8 z v) (sym same.0) (subst (λ z. IsHeaderName utf8 front z) (sym same.1) p)

    by_head : IsNameHead is.front is.value → IsHeaderName utf8 octets v
    by_head (inl run) =
        let r = run.first in
        let name : IsRunOf is_name_char run.value run.value = subst (λ z. IsRunOf is_name_char z z) (sym r.value_is) (record { some = r.some; passes = all_right is_astring_char is_name_char run.front r.passes; value_is = refl }) in
        moved run.front run.value (record { is_astring = inl (record { some = r.some; passes = all_left is_astring_char is_name_char run.front r.passes; value_is = r.value_is }); is_name = name })
        (all run.front run.value (bare (IsRunOf (passes NameAstring)) whole run) run.second.1)
    by_head (inr (inl quoted)) =
        let q = quoted.first.is_quoted in
        moved quoted.front quoted.value (record { is_astring = inr (inl (record { items = q.items; each = any_chars utf8 q.items q.each; spelled = q.spelled; value_is = q.value_is })); is_name = quoted.first.is_name })
        (all quoted.front quoted.value (bare IsQuotedName whole quoted) quoted.second.1)
    by_head (inr (inr header)) =
        let body : IsCounted header.value is.back v × IsRunOf is_name_char is.back is.back = subst (λ z. NameBodyOf z is.back v) header.second.1 is.second in
        record {
          is_astring = inr (inr (record { value = header.value; front = header.front; back = is.back; whole = is.whole ∙ ap (λ z. z ++ is.back) (bare IsNameHeader literal header); first = header.first.is_header; second = body.0 }));
          is_name = subst (λ z. IsRunOf is_name_char z z) (sym body.0.1) body.1;
        }
