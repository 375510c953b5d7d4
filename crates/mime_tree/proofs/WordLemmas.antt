-- The one word among the tokens of a text.
use Rattle.std.proofs.Common.{◌≡◌, ◌≢◌, ℕ, ◌+◌, ◌<◌, ◌≤◌, Bool, true, false, not, inl, inr, List, [], ◌∷◌, ◌++◌, length, drop, get_or, map, filter, Option, Some, None, is_some, refl, sym, ap, ◌∙◌, subst, arith}
use Rattle.std.proofs.lemmas.Bool.{cases_Bool}
use Rattle.std.proofs.lemmas.List.{append_assoc, append-nil, length-append, drop_more}
use Rattle.std.proofs.Math.ListN.{drop_of_length-le}
use Rattle.std.specs.Prelude.{IfSome, IfNone}
use Rattle.std.specs.List.{AllByRecursion}
use Rattle.field_tokens.specs.declared.Style.TheVariants.{Mime}
use Rattle.field_tokens.specs.declared.Token.{Token}
use Rattle.field_tokens.specs.declared.TokenKind.{TokenKind}
use Rattle.field_tokens.specs.declared.TokenKind.TheVariants.{Atom}
use Rattle.field_tokens.specs.Tokens.{TokenValue, tokens_from, HasTokens, octets_at}
use Rattle.field_tokens.specs.Squeezed.{is_blank, octets_of, words_of}
use Rattle.field_tokens.proofs.TokenLists.{AreTokens-once}
use Rattle.field_tokens.proofs.Parts.{octets_of-tokens}
use Rattle.field_tokens.proofs.SqueezedLemmas.{no_token}
use Rattle.field_tokens.proofs.SqueezedValues.{value_at}
use Rattle.param_grammar.proofs.SaidTrees.{octets_between}
use Rattle.mime_tree.specs.Openings.{is_identity_name, KeepsOctets}

abbrev pub is_word : Token → Bool
is_word token = not (is_blank token.kind)

abbrev pub found_words : Option Token → List Token
found_words None = []
found_words (Some token) = token ∷ []

-- The words are the one that was found, if there is one, and those of what is left.
pub record FindsWord (tokens : List Token) (found : Option Token) (left : List Token) : Type 0 where
  pub words : filter is_word tokens ≡ found_words found ++ filter is_word left

pub FindsWord-none : (tokens : List Token) → FindsWord tokens None tokens
FindsWord-none tokens = record { words = refl }

words_at : (tokens : List Token) (found : Option Token) (k : ℕ) → FindsWord tokens found (drop k tokens) → k < length tokens
    → filter is_word tokens ≡ found_words found ++ filter is_word (get_or tokens k no_token ∷ drop (k + 1) tokens)
words_at tokens found k is below = is.words ∙ ap (λ left. found_words found ++ filter is_word left) (drop_more tokens k no_token below)

pub FindsWord-blank : (tokens : List Token) (found : Option Token) (k : ℕ) → FindsWord tokens found (drop k tokens) → k < length tokens → is_blank (get_or tokens k no_token).kind ≡ true
    → FindsWord tokens found (drop (k + 1) tokens)
FindsWord-blank tokens found k is below blank = record { words = words_at tokens found k is below ∙ rw (blank) refl }

pub FindsWord-word : (tokens : List Token) (found : Option Token) (k : ℕ) → FindsWord tokens found (drop k tokens) → k < length tokens → is_blank (get_or tokens k no_token).kind ≡ false
    → is_some found ≡ false → FindsWord tokens (Some (get_or tokens k no_token)) (drop (k + 1) tokens)
FindsWord-word tokens None k is below word other = record { words = words_at tokens None k is below ∙ rw (word) refl }
FindsWord-word tokens (Some found) k is below word other = cc other

-- there are two words
pub FindsWord-two : (tokens : List Token) (found : Option Token) (k : ℕ) → FindsWord tokens found (drop k tokens) → k < length tokens → is_blank (get_or tokens k no_token).kind ≡ false
    → is_some found ≡ true → (token : Token) → filter is_word tokens ≢ token ∷ []
FindsWord-two tokens None k is below word some token one = absurd (let clash : false ≡ true = some in cc)
FindsWord-two tokens (Some found) k is below word some token one =
    let two : found ∷ get_or tokens k no_token ∷ filter is_word (drop (k + 1) tokens) ≡ token ∷ [] = sym (words_at tokens (Some found) k is below ∙ rw (word) refl) ∙ one in
    absurd (omega (arith, ap length two))

-- what was found among all tokens
words_all : (tokens : List Token) (found : Option Token) (k : ℕ) → FindsWord tokens found (drop k tokens) → length tokens ≤ k → filter is_word tokens ≡ found_words found
words_all tokens found k is past = is.words ∙ ap (λ left. found_words found ++ filter is_word left) (drop_of_length-le tokens past) ∙ append-nil (found_words found)

pub FindsWord-some : (tokens : List Token) (found : Option Token) (k : ℕ) → FindsWord tokens found (drop k tokens) → length tokens ≤ k → IfSome found (λ token. filter is_word tokens ≡ token ∷ [])
FindsWord-some tokens None k is past = tt
FindsWord-some tokens (Some found) k is past = words_all tokens (Some found) k is past

pub FindsWord-absent : (tokens : List Token) (found : Option Token) (k : ℕ) → FindsWord tokens found (drop k tokens) → length tokens ≤ k
    → IfNone found ((token : Token) → filter is_word tokens ≢ token ∷ [])
FindsWord-absent tokens None k is past = λ token one. absurd (let clash : token ∷ [] ≡ [] = sym one ∙ words_all tokens None k is past in cc)
FindsWord-absent tokens (Some found) k is past = tt

abbrev of_kind : TokenKind → List ℕ → TokenValue
of_kind kind octets = record { kind = kind; octets = octets }

-- the words by their places, and by their octets
words_valued : (text front rest : List ℕ) (at : ℕ) (vs : List TokenValue) → text ≡ front ++ (octets_of vs ++ rest) → at ≡ length front
    → map (value_at text) (filter is_word (tokens_from at vs)) ≡ words_of vs
words_valued text front rest at [] e place = refl
words_valued text front rest at (v ∷ vs) e place =
    let first : text ≡ front ++ (v.octets ++ (octets_of vs ++ rest)) = e ∙ ap (λ r. front ++ r) (append_assoc v.octets (octets_of vs) rest) in
    let here : at + length v.octets ≡ length (front ++ v.octets) = omega (arith, place, length-append front v.octets) in
    let others = words_valued text (front ++ v.octets) rest (at + length v.octets) vs (first ∙ sym (append_assoc front v.octets (octets_of vs ++ rest))) here in
    let octets = octets_between front v.octets (octets_of vs ++ rest) text at first place in
    elim (cases_Bool (is_blank v.kind)) [
      | inl blank ↦ rw (blank) others
      | inr word ↦ rw (word) (ap (λ o. of_kind v.kind o ∷ map (value_at text) (filter is_word (tokens_from (at + length v.octets) vs))) octets ∙ ap (λ r. v ∷ r) others)
    ]

abbrev IsWithin : List ℕ → Token → Type 0
IsWithin text token = token.span.at + token.span.len ≤ length text

words_within : (text front rest : List ℕ) (at : ℕ) (vs : List TokenValue) → text ≡ front ++ (octets_of vs ++ rest) → at ≡ length front
    → AllByRecursion (IsWithin text) (filter is_word (tokens_from at vs))
words_within text front rest at [] e place = tt
words_within text front rest at (v ∷ vs) e place =
    let first : text ≡ front ++ (v.octets ++ (octets_of vs ++ rest)) = e ∙ ap (λ r. front ++ r) (append_assoc v.octets (octets_of vs) rest) in
    let here : at + length v.octets ≡ length (front ++ v.octets) = omega (arith, place, length-append front v.octets) in
    let others = words_within text (front ++ v.octets) rest (at + length v.octets) vs (first ∙ sym (append_assoc front v.octets (octets_of vs ++ rest))) here in
    let size : length text ≡ length front + (length v.octets + length (octets_of vs ++ rest))
    = ap length first ∙ length-append front (v.octets ++ (octets_of vs ++ rest)) ∙ ap (λ n. length front + n) (length-append v.octets (octets_of vs ++ rest)) in
    let fits : at + length v.octets ≤ length text = omega (arith, place, size) in
    elim (cases_Bool (is_blank v.kind)) [
      | inl blank ↦ rw (blank) others
      | inr word ↦ rw (word) (fits, others)
    ]

-- The one word of a text by its octets.
pub record IsWordOf (text : List ℕ) (values : List TokenValue) (word : Token) : Type 0 where
  pub within : word.span.at + word.span.len ≤ length text
  pub words : words_of values ≡ value_at text word ∷ []

pub one_word : (text : List ℕ) (tokens : List Token) (word : Token) → (has : HasTokens Mime text tokens) → filter is_word tokens ≡ word ∷ [] → IsWordOf text has.values word
one_word text tokens word has one =
    let whole : text ≡ octets_of has.values ++ [] = sym (octets_of-tokens Mime has.values text has.are_tokens) ∙ sym (append-nil (octets_of has.values)) in
    let placed : filter is_word (tokens_from 0 has.values) ≡ word ∷ [] = ap (filter is_word) (sym has.placed) ∙ one in
    let all : AllByRecursion (IsWithin text) (word ∷ []) = subst (AllByRecursion (IsWithin text)) placed (words_within text [] [] 0 has.values whole refl) in
    record { within = all.0; words = sym (words_valued text [] [] 0 has.values whole refl) ∙ ap (map (value_at text)) placed }

pub word_keeps : (text : List ℕ) (tokens : List Token) (word : Token) → HasTokens Mime text tokens → filter is_word tokens ≡ word ∷ [] → word.kind ≡ Atom
    → is_identity_name (octets_at text word.span) ≡ true → KeepsOctets text
word_keeps text tokens word has one kind named = record {
  tokens = has.values;
  has = record { is_line = has.is_line; are_tokens = has.are_tokens };
  atom = value_at text word;
  words = (one_word text tokens word has one).words;
  kind = kind;
  named = named;
}

same_one : (v w : TokenValue) → v ∷ [] ≡ w ∷ [] → v ≡ w
same_one v w e = cc e

-- the word that says how the octets are kept
kept_word : (text : List ℕ) (tokens : List Token) (word : Token) → HasTokens Mime text tokens → filter is_word tokens ≡ word ∷ [] → (keeps : KeepsOctets text) → value_at text word ≡ keeps.atom
kept_word text tokens word has one keeps =
    let same : has.values ≡ keeps.tokens = AreTokens-once Mime text has.values keeps.tokens has.are_tokens keeps.has.are_tokens in
    same_one (value_at text word) keeps.atom (sym (one_word text tokens word has one).words ∙ ap words_of same ∙ keeps.words)

pub kept_kind : (text : List ℕ) (tokens : List Token) (word : Token) → HasTokens Mime text tokens → filter is_word tokens ≡ word ∷ [] → KeepsOctets text → word.kind ≡ Atom
kept_kind text tokens word has one keeps = ap (λ (v : TokenValue). v.kind) (kept_word text tokens word has one keeps) ∙ keeps.kind

pub kept_name : (text : List ℕ) (tokens : List Token) (word : Token) → HasTokens Mime text tokens → filter is_word tokens ≡ word ∷ [] → KeepsOctets text
    → is_identity_name (octets_at text word.span) ≡ true
kept_name text tokens word has one keeps = ap (λ (v : TokenValue). is_identity_name v.octets) (kept_word text tokens word has one keeps) ∙ keeps.named

one_of : (text : List ℕ) (tokens : List Token) (v : TokenValue) → map (value_at text) tokens ≡ v ∷ [] → (token : Token) × (tokens ≡ token ∷ [])
one_of text [] v e = cc e
one_of text (t ∷ []) v e = (t, refl)
one_of text (t ∷ u ∷ ts) v e = absurd (omega (arith, ap length e))

-- without one word the octets aren't kept
pub no_word_keeps : (text : List ℕ) (tokens : List Token) → HasTokens Mime text tokens → ((token : Token) → filter is_word tokens ≢ token ∷ []) → KeepsOctets text → ⊥
no_word_keeps text tokens has none keeps =
    let same : has.values ≡ keeps.tokens = AreTokens-once Mime text has.values keeps.tokens has.are_tokens keeps.has.are_tokens in
    let whole : text ≡ octets_of has.values ++ [] = sym (octets_of-tokens Mime has.values text has.are_tokens) ∙ sym (append-nil (octets_of has.values)) in
    let one = one_of text (filter is_word (tokens_from 0 has.values)) keeps.atom (words_valued text [] [] 0 has.values whole refl ∙ ap words_of same ∙ keeps.words) in
    none one.0 (ap (filter is_word) has.placed ∙ one.1)

pub no_tokens_keep : (text : List ℕ) → ((tokens : List Token) → HasTokens Mime text tokens → ⊥) → KeepsOctets text → ⊥
no_tokens_keep text none keeps =
    none (tokens_from 0 keeps.tokens) (record { is_line = keeps.has.is_line; values = keeps.tokens; are_tokens = keeps.has.are_tokens; placed = refl })
