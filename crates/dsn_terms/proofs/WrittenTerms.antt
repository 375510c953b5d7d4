-- Terms that were written are read back.
use Rattle.std.proofs.Common.{◌≡◌, ℕ, ◌%◌, ◌<◌, Bool, true, false, ◌&&◌, ◌||◌, nat_lt, if◌then◌else◌, List, [], ◌∷◌, ◌++◌, codes, length, Option, Some, None, Result, Ok, Err, OnOk, IsUtf8, refl, sym, ap, ◌∙◌, subst, arith, inl, inr, append_assoc, append-nil, lt-ltb}
use Rattle.std.specs.Char.{encode_utf8}
use Rattle.std.specs.List.{flat_map, list_all}
use Rattle.std.specs.Str.{chars}
use Rattle.std.proofs.lemmas.Bool.{and_from, and_parts}
use Rattle.std.proofs.lemmas.Bool.Decides.{nat_tests}
use Rattle.std.proofs.lemmas.List.{length-append}
use Rattle.std.proofs.lemmas.Str.{encode_ascii}
use lib.Dec.{eqb-suc-zero}
use Rattle.mail_wire.specs.Octets.{same_name}
use Rattle.mail_wire.specs.Tables.{said_by}
use Rattle.mail_wire.proofs.AllLemmas.{pass-append, pass-weaker}
use Rattle.encapsulated_fields.specs.AddressForms.{hexadecimal, escape_of, is_plain, xtext_char, xtext_form}
use Rattle.encapsulated_fields.specs.Xtext.{is_hex_digit}
use Rattle.encapsulated_fields.proofs.FormLemmas.{ReadsAs-xtext, ascii_xtext}
use Rattle.encapsulated_fields.proofs.HexLemmas.{hex-hexadecimal}
use Rattle.dsn_terms.specs.Xtexts.{shortest_xtext}
use Rattle.dsn_terms.specs.Parameters.{behind}
use Rattle.dsn_terms.specs.MailTerms.{ret_says, IsEnvid, EnvidSays}
use Rattle.dsn_terms.specs.RecipientTerms.{IsOrcpt, IsNotify, NotifySays, OrcptSays}
use Rattle.dsn_terms.specs.KeptTerms.{CanKeepEnvid, KeepsRfc822, KeepsUtf8, CanKeepOrcpt, CanKeepAsked}
use Rattle.dsn_terms.specs.TermTexts.{is_visible, AreSpaced, ret_text, envid_text, mail_terms_text, IsMailTermsText, notify_value, orcpt_value, orcpt_text, recipient_terms_text, IsRecipientTermsText}
use Rattle.dsn_terms.specs.declared.Terms.{Terms}
use Rattle.dsn_terms.specs.declared.Asked.{Asked}
use Rattle.dsn_terms.proofs.XtextUnits.{IsPrintableXtext-shortest, length-shortest-some, visible-shortest}
use Rattle.dsn_terms.proofs.ParameterFacts.{behind-at, one_parameter, two_parameters}
use Rattle.dsn_terms.proofs.NotifyFacts.{IsNotify-written, visible-notify}

-- ---- texts put last

-- a value after a front
pub put-behind : {T E : Type 0} (put : Result T E) (start front value mid new : List ℕ) → mid ≡ start ++ front → OnOk put (new ≡ mid ++ value) → OnOk put (new ≡ start ++ (front ++ value))
put-behind (Ok x) start front value mid new first second = second ∙ ap (λ t. t ++ value) first ∙ append_assoc start front value
put-behind (Err x) start front value mid new first second = tt

-- what is the same
pub same-put : {T E : Type 0} (put : Result T E) (start shown value new : List ℕ) → shown ≡ value → OnOk put (new ≡ start ++ shown) → OnOk put (new ≡ start ++ value)
same-put (Ok x) start shown value new same made = made ∙ ap (λ t. start ++ t) same
same-put (Err x) start shown value new same made = tt

-- ---- words

abbrev is_word : List ℕ → Bool
is_word word = nat_lt 0 (length word) && list_all is_visible word

is_word-from : (word : List ℕ) → 0 < length word → list_all is_visible word ≡ true → is_word word ≡ true
is_word-from word some visible = and_from (nat_lt 0 (length word)) (list_all is_visible word) (lt-ltb 0 (length word) some) visible

AreSpaced-one : (word : List ℕ) → is_word word ≡ true → AreSpaced (word ∷ []) (32 ∷ word)
AreSpaced-one word is = record {
  spelled = sym (append-nil (32 ∷ word));
  visible = and_from (is_word word) true is refl;
}

AreSpaced-two : (word next : List ℕ) → is_word word ≡ true → is_word next ≡ true → AreSpaced (word ∷ next ∷ []) ((32 ∷ word) ++ (32 ∷ next))
AreSpaced-two word next first second = record {
  spelled = ap (λ t. (32 ∷ word) ++ t) (sym (append-nil (32 ∷ next)));
  visible = and_from (is_word word) (is_word next && true) first (and_from (is_word next) true second refl);
}

-- a keyword with its `=` before a value
keyword_word : (front value : List ℕ) → 0 < length front → list_all is_visible front ≡ true → list_all is_visible value ≡ true → is_word (front ++ value) ≡ true
keyword_word front value some first second = is_word-from (front ++ value) (omega (arith, length-append front value)) (pass-append is_visible front value first second)

-- ---- RET and ENVID

abbrev ret_value : Bool → List ℕ
ret_value full = if full then codes "FULL" else codes "HDRS"

abbrev ret_word : Bool → List ℕ
ret_word full = codes "RET=" ++ ret_value full

ret_written : (full : Bool) → ret_text full ≡ 32 ∷ ret_word full
ret_written true = refl
ret_written false = refl

ret_read : (full : Bool) → ret_says (Some (ret_value full)) ≡ Some full
unfolding said_by same_name
ret_read true = refl
ret_read false = refl

ret_visible : (full : Bool) → list_all is_visible (ret_value full) ≡ true
ret_visible true = refl
ret_visible false = refl

abbrev envid_word : List ℕ → List ℕ
envid_word envid = codes "ENVID=" ++ shortest_xtext envid

no_envid : (value : List ℕ) → behind (codes "ENVID=") (codes "RET=" ++ value) ≡ None
unfolding behind same_name
no_envid value = refl

no_ret : (value : List ℕ) → behind (codes "RET=") (codes "ENVID=" ++ value) ≡ None
unfolding behind same_name
no_ret value = refl

IsEnvid-written : (x : ℕ) (xs : List ℕ) → CanKeepEnvid (x ∷ xs) → IsEnvid (shortest_xtext (x ∷ xs)) (x ∷ xs)
IsEnvid-written x xs can = record {
  reads = IsPrintableXtext-shortest (x ∷ xs) can.printable;
  some = omega (arith, length-shortest-some (x ∷ xs));
  most = can.most;
}

mail_terms : (full : Bool) (envid : List ℕ) → CanKeepEnvid envid → IsMailTermsText (record { envid = envid; full = full }) (ret_text full ++ envid_text envid)
mail_terms full [] can =
    let are = one_parameter (codes "RET=") (codes "ENVID=") (ret_word full) (ret_value full) (behind-at (codes "RET=") (ret_value full)) (no_envid (ret_value full)) in
    record {
      words = ret_word full ∷ [];
      spaced = subst (AreSpaced (ret_word full ∷ [])) (sym (append-nil (ret_text full) ∙ ret_written full)) (AreSpaced-one (ret_word full) (keyword_word (codes "RET=") (ret_value full) (omega arith) refl (ret_visible full)));
      says = record {
        parameters = are.0;
        full = ap ret_says are.1 ∙ ret_read full;
        envid = subst (λ v. EnvidSays v []) (sym are.2) refl;
      };
    }
mail_terms full (x ∷ xs) can =
    let envid : List ℕ = x ∷ xs in
    let value : List ℕ = shortest_xtext envid in
    let words : List (List ℕ) = ret_word full ∷ envid_word envid ∷ [] in
    let are = two_parameters (codes "RET=") (codes "ENVID=") (ret_word full) (envid_word envid) (ret_value full) value (behind-at (codes "RET=") (ret_value full)) (no_envid (ret_value full)) (no_ret value) (behind-at (codes "ENVID=") value) in
    let spaced = AreSpaced-two (ret_word full) (envid_word envid) (keyword_word (codes "RET=") (ret_value full) (omega arith) refl (ret_visible full)) (keyword_word (codes "ENVID=") value (omega arith) refl (visible-shortest envid)) in
    record {
      words = words;
      spaced = subst (AreSpaced words) (ap (λ t. t ++ (32 ∷ envid_word envid)) (sym (ret_written full)) ∙ ap (λ t. ret_text full ++ t) (sym (some_envid x xs))) spaced;
      says = record {
        parameters = are.0;
        full = ap ret_says are.1 ∙ ret_read full;
        envid = subst (λ v. EnvidSays v envid) (sym are.2) (IsEnvid-written x xs can);
      };
    }
  where
    some_envid : (x : ℕ) (xs : List ℕ) → envid_text (x ∷ xs) ≡ 32 ∷ envid_word (x ∷ xs)
    some_envid x xs = rw (eqb-suc-zero (length xs)) refl

pub IsMailTermsText-written : (terms : Terms) (text : List ℕ) → CanKeepEnvid terms.envid → text ≡ mail_terms_text terms → IsMailTermsText terms text
IsMailTermsText-written terms text can e = subst (IsMailTermsText terms) (sym e) (mail_terms terms.full terms.envid can)

-- ---- the ASCII form of an address

visible_digit : (x : ℕ) → is_hex_digit x ≡ true → is_visible x ≡ true
visible_digit x h = grind (arith, nat_tests)

visible_escape : (c : ℕ) → list_all is_visible (escape_of c) ≡ true
visible_escape c = pass-append is_visible (hexadecimal c) (125 ∷ []) (pass-weaker is_hex_digit is_visible visible_digit (hexadecimal c) (hex-hexadecimal c)) refl

plain_visible : (c : ℕ) → is_plain c ≡ true → is_visible c ≡ true
plain_visible c is = (and_parts (is_visible c) _ is).0

visible_char : (c : ℕ) (b : Bool) → is_plain c ≡ b → list_all is_visible (if b then encode_utf8 c else escape_of c) ≡ true
visible_char c true is =
    let low : c < 128 = small c (plain_visible c is) in
    rw (encode_ascii c low) (and_from (is_visible c) true (plain_visible c is) refl)
  where
    small : (c : ℕ) → is_visible c ≡ true → c < 128
    small c h = grind (arith, nat_tests)
visible_char c false is = visible_escape c

visible_chars : (cs : List ℕ) → list_all is_visible (flat_map xtext_char cs) ≡ true
visible_chars [] = refl
visible_chars (c ∷ cs) = pass-append is_visible (xtext_char c) (flat_map xtext_char cs) (visible_char c (is_plain c) refl) (visible_chars cs)

visible_form : (address : List ℕ) → list_all is_visible (xtext_form address) ≡ true
visible_form address = visible_chars (chars address)

-- ---- ORCPT

abbrev value_of : List ℕ → List ℕ
value_of orcpt = orcpt_value (behind (codes "rfc822;") orcpt) (behind (codes "utf-8;") orcpt)

no_rfc822 : (address : List ℕ) → behind (codes "rfc822;") (codes "utf-8;" ++ address) ≡ None
unfolding behind same_name
no_rfc822 address = refl

value-rfc822 : (orcpt address : List ℕ) → orcpt ≡ codes "rfc822;" ++ address → value_of orcpt ≡ codes "rfc822;" ++ shortest_xtext address
value-rfc822 orcpt address e = rw (e, behind-at (codes "rfc822;") address) refl

value-utf8 : (orcpt address : List ℕ) → orcpt ≡ codes "utf-8;" ++ address → value_of orcpt ≡ codes "utf-8;" ++ xtext_form address
value-utf8 orcpt address e = rw (e, no_rfc822 address, behind-at (codes "utf-8;") address) refl

not-behind-nil : (y : ℕ) (front address : List ℕ) → behind (y ∷ front) [] ≡ Some address → ⊥
unfolding behind same_name
not-behind-nil y front address e = cc e

pub orcpt_text-rfc822 : (orcpt address : List ℕ) → behind (codes "rfc822;") orcpt ≡ Some address → codes " ORCPT=" ++ (codes "rfc822;" ++ shortest_xtext address) ≡ orcpt_text orcpt
orcpt_text-rfc822 [] address e = absurd (not-behind-nil 114 (codes "fc822;") address e)
orcpt_text-rfc822 (x ∷ xs) address e = rw (eqb-suc-zero (length xs), e) refl

pub orcpt_text-utf8 : (orcpt address : List ℕ) → behind (codes "rfc822;") orcpt ≡ None → behind (codes "utf-8;") orcpt ≡ Some address → codes " ORCPT=" ++ (codes "utf-8;" ++ xtext_form address) ≡ orcpt_text orcpt
orcpt_text-utf8 [] address none e = absurd (not-behind-nil 117 (codes "tf-8;") address e)
orcpt_text-utf8 (x ∷ xs) address none e = rw (eqb-suc-zero (length xs), none, e) refl

no_address : (a : List ℕ) (o : Option (List ℕ)) → o ≡ Some a → o ≡ None → ⊥
no_address a o p q = let same : Some a ≡ None = sym p ∙ q in cc same

-- an original recipient of neither type is none
pub orcpt_text-none : (orcpt start : List ℕ) → CanKeepOrcpt orcpt → behind (codes "rfc822;") orcpt ≡ None → behind (codes "utf-8;") orcpt ≡ None → start ≡ start ++ orcpt_text orcpt
orcpt_text-none orcpt start can p q = elim can [
  | inl none ↦ rw none (sym (append-nil start))
  | inr more ↦ elim more [
    | inl keeps ↦ absurd (no_address keeps.address (behind (codes "rfc822;") orcpt) (ap (behind (codes "rfc822;")) keeps.spelled ∙ behind-at (codes "rfc822;") keeps.address) p)
    | inr keeps ↦ absurd (no_address keeps.address (behind (codes "utf-8;") orcpt) (ap (behind (codes "utf-8;")) keeps.spelled ∙ behind-at (codes "utf-8;") keeps.address) q)
  ]
]

-- the address of one of type `utf-8` is UTF-8
pub IsUtf8-kept : (orcpt address : List ℕ) → CanKeepOrcpt orcpt → behind (codes "rfc822;") orcpt ≡ None → behind (codes "utf-8;") orcpt ≡ Some address → IsUtf8 address
IsUtf8-kept orcpt address can p q = elim can [
  | inl none ↦ absurd (not-behind-nil 117 (codes "tf-8;") address (sym (ap (behind (codes "utf-8;")) none) ∙ q))
  | inr more ↦ elim more [
    | inl keeps ↦ absurd (no_address keeps.address (behind (codes "rfc822;") orcpt) (ap (behind (codes "rfc822;")) keeps.spelled ∙ behind-at (codes "rfc822;") keeps.address) p)
    | inr keeps ↦
        let both : Some keeps.address ≡ Some address = sym (ap (behind (codes "utf-8;")) keeps.spelled ∙ behind-at (codes "utf-8;") keeps.address) ∙ q in
        let same : keeps.address ≡ address = cc both in
        subst IsUtf8 same keeps.utf8
  ]
]

-- what is written of an original recipient is visible and read back
record IsReadBack (orcpt value : List ℕ) : Type 0 where
  visible : list_all is_visible value ≡ true
  says : (utf8 : Bool) → IsOrcpt utf8 value orcpt

or_true : (b : Bool) → (b || true) ≡ true
or_true true = refl
or_true false = refl

back-rfc822 : (orcpt : List ℕ) → KeepsRfc822 orcpt → IsReadBack orcpt (value_of orcpt)
back-rfc822 orcpt keeps =
    let value : List ℕ = codes "rfc822;" ++ shortest_xtext keeps.address in
    let back : IsReadBack orcpt value = record {
      visible = pass-append is_visible (codes "rfc822;") (shortest_xtext keeps.address) refl (visible-shortest keeps.address);
      says = λ utf8. inl (record {
        rest = shortest_xtext keeps.address;
        rest_is = behind-at (codes "rfc822;") (shortest_xtext keeps.address);
        holds = record { address = keeps.address; reads = IsPrintableXtext-shortest keeps.address keeps.printable; most = keeps.most; orcpt_is = keeps.spelled };
      });
    } in
    subst (IsReadBack orcpt) (sym (value-rfc822 orcpt keeps.address keeps.spelled)) back

back-utf8 : (orcpt : List ℕ) → KeepsUtf8 orcpt → IsReadBack orcpt (value_of orcpt)
back-utf8 orcpt keeps =
    let form : List ℕ = xtext_form keeps.address in
    let back : IsReadBack orcpt (codes "utf-8;" ++ form) = record {
      visible = pass-append is_visible (codes "utf-8;") form refl (visible_form keeps.address);
      says = λ utf8. inr (record {
        rest = form;
        rest_is = behind-at (codes "utf-8;") form;
        holds = record {
          address = keeps.address;
          reads = ReadsAs-xtext keeps.address keeps.utf8;
          ascii = ap (λ b. utf8 || b) (ascii_xtext keeps.address) ∙ or_true utf8;
          most = keeps.most;
          orcpt_is = keeps.spelled;
        };
      });
    } in
    subst (IsReadBack orcpt) (sym (value-utf8 orcpt keeps.address keeps.spelled)) back

back-some : (x : ℕ) (xs : List ℕ) → CanKeepOrcpt (x ∷ xs) → IsReadBack (x ∷ xs) (value_of (x ∷ xs))
back-some x xs can = elim can [
  | inl none ↦ absurd (omega (arith, ap length none))
  | inr more ↦ elim more [
    | inl keeps ↦ back-rfc822 (x ∷ xs) keeps
    | inr keeps ↦ back-utf8 (x ∷ xs) keeps
  ]
]

-- ---- NOTIFY and ORCPT

abbrev notify_word : ℕ → List ℕ
notify_word notify = codes "NOTIFY=" ++ notify_value notify

abbrev orcpt_word : List ℕ → List ℕ
orcpt_word orcpt = codes "ORCPT=" ++ value_of orcpt

no_orcpt : (value : List ℕ) → behind (codes "ORCPT=") (codes "NOTIFY=" ++ value) ≡ None
unfolding behind same_name
no_orcpt value = refl

no_notify : (value : List ℕ) → behind (codes "NOTIFY=") (codes "ORCPT=" ++ value) ≡ None
unfolding behind same_name
no_notify value = refl

recipient_terms : (whole notify : ℕ) (orcpt : List ℕ) → notify ≡ whole % 8 → CanKeepOrcpt orcpt → IsRecipientTermsText (record { notify = whole; orcpt = orcpt }) (codes " NOTIFY=" ++ notify_value notify ++ orcpt_text orcpt)
recipient_terms whole notify [] e can =
    let small : notify < 8 = omega (arith, e) in
    let are = one_parameter (codes "NOTIFY=") (codes "ORCPT=") (notify_word notify) (notify_value notify) (behind-at (codes "NOTIFY=") (notify_value notify)) (no_orcpt (notify_value notify)) in
    record {
      words = notify_word notify ∷ [];
      spaced = subst (AreSpaced (notify_word notify ∷ [])) (sym (append-nil (codes " NOTIFY=" ++ notify_value notify))) (AreSpaced-one (notify_word notify) (keyword_word (codes "NOTIFY=") (notify_value notify) (omega arith) refl (visible-notify notify small)));
      says = λ utf8. record {
        parameters = are.0;
        notify = subst (λ v. NotifySays v (whole % 8)) (sym are.1) (subst (IsNotify (notify_value notify)) e (IsNotify-written notify small));
        orcpt = subst (λ v. OrcptSays utf8 v []) (sym are.2) refl;
      };
    }
recipient_terms whole notify (x ∷ xs) e can =
    let small : notify < 8 = omega (arith, e) in
    let orcpt : List ℕ = x ∷ xs in
    let back = back-some x xs can in
    let words : List (List ℕ) = notify_word notify ∷ orcpt_word orcpt ∷ [] in
    let are = two_parameters (codes "NOTIFY=") (codes "ORCPT=") (notify_word notify) (orcpt_word orcpt) (notify_value notify) (value_of orcpt) (behind-at (codes "NOTIFY=") (notify_value notify)) (no_orcpt (notify_value notify)) (no_notify (value_of orcpt)) (behind-at (codes "ORCPT=") (value_of orcpt)) in
    let spaced = AreSpaced-two (notify_word notify) (orcpt_word orcpt) (keyword_word (codes "NOTIFY=") (notify_value notify) (omega arith) refl (visible-notify notify small)) (keyword_word (codes "ORCPT=") (value_of orcpt) (omega arith) refl back.visible) in
    record {
      words = words;
      spaced = subst (AreSpaced words) (ap (λ t. (codes " NOTIFY=" ++ notify_value notify) ++ t) (sym (some_orcpt x xs))) spaced;
      says = λ utf8. record {
        parameters = are.0;
        notify = subst (λ v. NotifySays v (whole % 8)) (sym are.1) (subst (IsNotify (notify_value notify)) e (IsNotify-written notify small));
        orcpt = subst (λ v. OrcptSays utf8 v orcpt) (sym are.2) (back.says utf8);
      };
    }
  where
    some_orcpt : (x : ℕ) (xs : List ℕ) → orcpt_text (x ∷ xs) ≡ 32 ∷ orcpt_word (x ∷ xs)
    some_orcpt x xs = rw (eqb-suc-zero (length xs)) refl

pub IsRecipientTermsText-written : (asked : Asked) (text : List ℕ) → CanKeepAsked asked → text ≡ recipient_terms_text asked → IsRecipientTermsText asked text
IsRecipientTermsText-written asked text can e = subst (IsRecipientTermsText asked) (sym e) (recipient_terms asked.notify (asked.notify % 8) asked.orcpt refl can.orcpt)
