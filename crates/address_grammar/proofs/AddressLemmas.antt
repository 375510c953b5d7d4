-- An address is read in one way.
use Rattle.std.proofs.Common.{◌≡◌, ◌≢◌, ℕ, Bool, true, false, not, ◌&&◌, inl, inr, List, [], ◌∷◌, ◌++◌, refl, sym, ap, ◌∙◌, arith}
use Rattle.std.proofs.lemmas.Bool.{and_parts, and_from, or_cases}
use Rattle.std.proofs.lemmas.List.Folds.{list_all-append}
use Rattle.field_tokens.specs.declared.TokenKind.{TokenKind}
use Rattle.field_tokens.specs.declared.TokenKind.TheVariants.{Atom, Quoted, Literal, Special, Gap, Comment}
use Rattle.field_tokens.specs.Tokens.{TokenValue}
use Rattle.address_grammar.specs.declared.Address.{Address}
use Rattle.address_grammar.specs.private.Lexemes.{is_word_kind, is_literal_kind, is_part, is_special_of, lacks_special, contents, are_dotted, SplitsAt}
use Rattle.address_grammar.specs.Addresses.{IsLocal, is_one_literal, is_domain, IsAddress}
use Rattle.address_grammar.proofs.LexemeLemmas.{no_mark, other_mark, words_lack, cut_once, not_lacking}
use Rattle.field_tokens.specs.Squeezed.{is_atom_kind, is_special_kind, words_of}

word_kind : (k : TokenKind) → is_word_kind k ≡ true → is_special_kind k ≡ false
word_kind Atom h = refl
word_kind Quoted h = refl
word_kind Literal h = cc h
word_kind Special h = cc h
word_kind Gap h = cc h
word_kind Comment h = cc h

pub atom_kind : (k : TokenKind) → is_atom_kind k ≡ true → is_special_kind k ≡ false
atom_kind Atom h = refl
atom_kind Quoted h = cc h
atom_kind Literal h = cc h
atom_kind Special h = cc h
atom_kind Gap h = cc h
atom_kind Comment h = cc h

literal_kind : (k : TokenKind) → is_literal_kind k ≡ true → is_special_kind k ≡ false
literal_kind Atom h = cc h
literal_kind Quoted h = cc h
literal_kind Literal h = refl
literal_kind Special h = cc h
literal_kind Gap h = cc h
literal_kind Comment h = cc h

part_kind : (q : Bool) (t : TokenValue) → is_part q t ≡ true → is_special_kind t.kind ≡ false
part_kind true t h = word_kind t.kind h
part_kind false t h = atom_kind t.kind h

dotted_lack : (m : ℕ) (q : Bool) (ws : List TokenValue) → m ≢ 46 → are_dotted (is_part q) ws ≡ true → lacks_special m ws ≡ true
dotted_lack m q [] ne h = refl
dotted_lack m q (w ∷ []) ne h = and_from (not (is_special_of m w)) true (ap not (no_mark m w (part_kind q w h))) refl
dotted_lack m q (w ∷ d ∷ ws) ne h =
    let parts = and_parts (is_part q w) (is_special_of 46 d && are_dotted (is_part q) ws) h in
    let more = and_parts (is_special_of 46 d) (are_dotted (is_part q) ws) parts.1 in
    and_from (not (is_special_of m w)) (lacks_special m (d ∷ ws)) (ap not (no_mark m w (part_kind q w parts.0)))
    (and_from (not (is_special_of m d)) (lacks_special m ws) (ap not (other_mark 46 m d (λ e. ne (sym e)) more.0)) (dotted_lack m q ws ne more.1))

literal_lacks : (m : ℕ) (ws : List TokenValue) → is_one_literal ws ≡ true → lacks_special m ws ≡ true
literal_lacks m [] h = cc h
literal_lacks m (w ∷ []) h = and_from (not (is_special_of m w)) true (ap not (no_mark m w (literal_kind w.kind h))) refl
literal_lacks m (w ∷ v ∷ ws) h = cc h

pub local_lacks : (m : ℕ) (ts : List TokenValue) → m ≢ 46 → IsLocal ts → lacks_special m ts ≡ true
local_lacks m ts ne h = words_lack m ts (dotted_lack m true (words_of ts) ne h)

pub domain_lacks : (m : ℕ) (ts : List TokenValue) → m ≢ 46 → is_domain ts ≡ true → lacks_special m ts ≡ true
domain_lacks m ts ne h = elim (or_cases (are_dotted (is_part false) (words_of ts)) (is_one_literal (words_of ts)) h) [
  | inl dotted ↦ words_lack m ts (dotted_lack m false (words_of ts) ne dotted)
  | inr one ↦ words_lack m ts (literal_lacks m (words_of ts) one)
]

pub lacks-append : (m : ℕ) (a b : List TokenValue) → lacks_special m a ≡ true → lacks_special m b ≡ true → lacks_special m (a ++ b) ≡ true
lacks-append m a b la lb = list_all-append (λ t. not (is_special_of m t)) a b ∙ and_from (lacks_special m a) (lacks_special m b) la lb

-- the marks of addresses are dots and at signs
pub address_lacks : (m : ℕ) (ts : List TokenValue) (a : Address) → m ≢ 46 → m ≢ 64 → IsAddress ts a → lacks_special m ts ≡ true
address_lacks m ts a dot at is =
    rw (is.whole) (lacks-append m is.local (is.at ∷ is.domain) (local_lacks m is.local dot is.is_local)
    (and_from (not (is_special_of m is.at)) (lacks_special m is.domain) (ap not (other_mark 64 m is.at (λ e. at (sym e)) is.is_at)) (domain_lacks m is.domain dot is.is_domain)))

no_at_dot : ◌≡◌ {A = ℕ} 64 46 → ⊥
no_at_dot e = omega (arith, e)

same_address : (a b : Address) → a.local ≡ b.local → a.domain ≡ b.domain → a ≡ b
same_address a b p q = let eta : a ≡ record { local = b.local; domain = b.domain } = rw (← p, ← q) refl in eta

-- the parts of an address are those at the first at sign
pub address_parts : (ts before after : List TokenValue) (a : Address) → SplitsAt 64 ts before after → IsAddress ts a → (IsLocal before) × (is_domain after ≡ true)
address_parts ts before after a splits is =
    let cut = cut_once 64 before is.local splits.at is.at after is.domain splits.first (local_lacks 64 is.local no_at_dot is.is_local) splits.is_at is.is_at (sym splits.whole ∙ is.whole) in
    (rw (cut.front) is.is_local, rw (cut.rest) is.is_domain)

pub address_missing : (ts : List TokenValue) (a : Address) → lacks_special 64 ts ≡ true → IsAddress ts a → ⊥
address_missing ts a l is = not_lacking 64 is.local is.domain is.at is.is_at (rw (is.whole) at l)

pub IsAddress-once : (ts : List TokenValue) (a b : Address) → IsAddress ts a → IsAddress ts b → a ≡ b
IsAddress-once ts a b p q =
    let cut = cut_once 64 p.local q.local p.at q.at p.domain q.domain (local_lacks 64 p.local no_at_dot p.is_local) (local_lacks 64 q.local no_at_dot q.is_local) p.is_at q.is_at (sym p.whole ∙ q.whole) in
    same_address a b (p.local_says ∙ ap contents cut.front ∙ sym q.local_says) (p.domain_says ∙ ap contents cut.rest ∙ sym q.domain_says)

pub address_made : (ts before after : List TokenValue) (a : Address) → SplitsAt 64 ts before after → IsLocal before → is_domain after ≡ true
    → a.local ≡ contents before → a.domain ≡ contents after → IsAddress ts a
address_made ts before after a splits local domain p q = record {
  local = before;
  at = splits.at;
  domain = after;
  whole = splits.whole;
  is_at = splits.is_at;
  is_local = local;
  is_domain = domain;
  local_says = p;
  domain_says = q;
}
