-- A string is its head and its body: the productions of the standard, and what the readers go by.
use Rattle.std.proofs.Common.{◌≡◌, ℕ, Bool, List, [], ◌++◌, inl, inr, refl, sym, ap, ◌∙◌, subst, append_assoc, append-nil}
use Rattle.imap_words.specs.Languages.{Then, Or, Is}
use Rattle.imap_words.specs.Going.{Continues, Leaves}
use Rattle.imap_words.specs.declared.tokens.Kind.{Kind}
use Rattle.imap_words.specs.declared.tokens.Kind.TheVariants.{Astring, ListMailbox}
use Rattle.imap_words.specs.Tokens.{IsRunOf, passes}
use Rattle.imap_words.specs.Strings.{HeadValue, whole, literal, IsHeader, IsQuoted, IsString, IsAstring, IsListMailbox, IsHead, BodyOf}
use Rattle.imap_words.proofs.Going.{Within, and_then, same_continues}

-- of two parts in a row the second one's words may be told anew
module _ {V U W : Type 0} (S : List ℕ → V → Type 0) (H : List ℕ → U → Type 0) (B : U → List ℕ → V → Type 0) (Q : V → List ℕ → W → Type 0) where
  parted : Within S (Then H B) → Within (Then S Q) (Then H (λ u. Then (B u) Q))
  parted to octets w is =
      let s = to is.front is.value is.first in
      record {
        value = s.value;
        front = s.front;
        back = s.back ++ is.back;
        whole = is.whole ∙ (ap (λ z. z ++ is.back) s.whole ∙ append_assoc s.front s.back is.back);
        first = s.first;
        second = record { value = is.value; front = s.back; back = is.back; whole = refl; first = s.second; second = is.second };
      }

  joined : Within (Then H B) S → Within (Then H (λ u. Then (B u) Q)) (Then S Q)
  joined from octets w is =
      let b = is.second in
      record {
        value = b.value;
        front = is.front ++ b.front;
        back = b.back;
        whole = is.whole ∙ (ap (λ z. is.front ++ z) b.whole ∙ sym (append_assoc is.front b.front b.back));
        first = from (is.front ++ b.front) b.value (record { value = is.value; front = is.front; back = b.front; whole = refl; first = is.first; second = b.first });
        second = b.second;
      }

  pub parts_continue : Within S (Then H B) → Within (Then H B) S → (text : List ℕ) → Continues (Then S Q) text (Then H (λ u. Then (B u) Q)) text
  parts_continue to from text = same_continues (Then S Q) (Then H (λ u. Then (B u) Q)) text (parted to) (joined from)

  pub parts_leave : Within S (Then H B) → Within (Then H B) S → {P : List ℕ → W → Type 0} {text rest : List ℕ} → Leaves P text (Then S Q) rest → Leaves P text (Then H (λ u. Then (B u) Q)) rest
  parts_leave to from {P} {text} {rest} l = record {
    front = l.front;
    whole = l.whole;
    goes = λ more on. and_then P (Then S Q) (Then H (λ u. Then (B u) Q)) (l.front ++ more) more more (l.goes more on) (parts_continue to from more);
  }

-- ---- astring and list-mailbox

module _ (utf8 : Bool) (kind : Kind) where
  abbrev pub IsStringOf : List ℕ → List ℕ → Type 0
  IsStringOf = Or (IsRunOf (passes kind)) (IsString utf8)

  pub string_parts : Within IsStringOf (Then (IsHead utf8 kind) BodyOf)
  string_parts octets v (inl run) = record {
    value = whole v;
    front = octets;
    back = [];
    whole = sym (append-nil octets);
    first = inl (record { value = v; front = octets; back = []; whole = sym (append-nil octets); first = run; second = (refl, refl) });
    second = (refl, refl);
  }
  string_parts octets v (inr (inl quoted)) = record {
    value = whole v;
    front = octets;
    back = [];
    whole = sym (append-nil octets);
    first = inr (inl (record { value = v; front = octets; back = []; whole = sym (append-nil octets); first = quoted; second = (refl, refl) }));
    second = (refl, refl);
  }
  string_parts octets v (inr (inr lit)) = record {
    value = literal lit.value;
    front = lit.front;
    back = lit.back;
    whole = lit.whole;
    first = inr (inr (record { value = lit.value; front = lit.front; back = []; whole = sym (append-nil lit.front); first = lit.first; second = (refl, refl) }));
    second = lit.second;
  }

  pub string_whole : Within (Then (IsHead utf8 kind) BodyOf) IsStringOf
  string_whole octets v is = by_head is.first
    where
      bare : {U : Type 0} (P : List ℕ → U → Type 0) (f : U → HeadValue) (h : Then P (λ u. Is (f u)) is.front is.value) → is.front ≡ h.front
      bare P f h = h.whole ∙ (ap (λ z. h.front ++ z) h.second.0 ∙ append-nil h.front)

      all : (front u : List ℕ) → is.front ≡ front → is.value ≡ whole u → (octets ≡ front) × (v ≡ u)
      all front u f value =
          let body : Is u is.back v = subst (λ z. BodyOf z is.back v) value is.second in
          (is.whole ∙ (ap (λ z. is.front ++ z) body.0 ∙ (append-nil is.front ∙ f)), body.1)

      moved : (P : List ℕ → List ℕ → Type 0) (front u : List ℕ) → P front u → (octets ≡ front) × (v ≡ u) → P octets v
      moved P front u p same = subst (λ z. P z v) (sym same.0) (subst (λ z. P front z) (sym same.1) p)

      by_head : IsHead utf8 kind is.front is.value → IsStringOf octets v
      by_head (inl run) = inl (moved (IsRunOf (passes kind)) run.front run.value run.first (all run.front run.value (bare (IsRunOf (passes kind)) whole run) run.second.1))
      by_head (inr (inl quoted)) = inr (inl (moved (IsQuoted utf8) quoted.front quoted.value quoted.first (all quoted.front quoted.value (bare (IsQuoted utf8) whole quoted) quoted.second.1)))
      by_head (inr (inr header)) = inr (inr (record {
        value = header.value;
        front = header.front;
        back = is.back;
        whole = is.whole ∙ ap (λ z. z ++ is.back) (bare IsHeader literal header);
        first = header.first;
        second = subst (λ z. BodyOf z is.back v) header.second.1 is.second;
      }))

-- astring = 1*ASTRING-CHAR / string
pub astring_parts : (utf8 : Bool) → Within (IsAstring utf8) (Then (IsHead utf8 Astring) BodyOf)
astring_parts utf8 = string_parts utf8 Astring

pub astring_whole : (utf8 : Bool) → Within (Then (IsHead utf8 Astring) BodyOf) (IsAstring utf8)
astring_whole utf8 = string_whole utf8 Astring

-- list-mailbox = 1*list-char / string
pub list_mailbox_parts : (utf8 : Bool) → Within (IsListMailbox utf8) (Then (IsHead utf8 ListMailbox) BodyOf)
list_mailbox_parts utf8 = string_parts utf8 ListMailbox

pub list_mailbox_whole : (utf8 : Bool) → Within (Then (IsHead utf8 ListMailbox) BodyOf) (IsListMailbox utf8)
list_mailbox_whole utf8 = string_whole utf8 ListMailbox
