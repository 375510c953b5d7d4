-- Words with dots between them are read word by word.
use Rattle.std.proofs.Common.{◌≡◌, Bool, true, false, ◌&&◌, inl, inr, List, [], ◌∷◌, refl, sym, ◌∙◌}
use Rattle.std.proofs.lemmas.Bool.{and_parts, cases_Bool}
use Rattle.field_tokens.specs.Tokens.{TokenValue}
use Rattle.address_grammar.specs.private.Lexemes.{is_blank_token, are_blank, is_special_of, are_dotted, BeginsSo, BeginsOther}
use Rattle.field_tokens.specs.Squeezed.{words_of}

-- what may follow after a word
abbrev pub dotted_after : (TokenValue → Bool) → List TokenValue → Bool
dotted_after p [] = true
dotted_after p (dot ∷ words) = is_special_of 46 dot && are_dotted p words

dotted-word : (p : TokenValue → Bool) (w : TokenValue) (ws : List TokenValue) → p w ≡ true → are_dotted p (w ∷ ws) ≡ dotted_after p ws
dotted-word p w [] h = h
dotted-word p w (d ∷ ws) h = rw h refl

other-word : (p : TokenValue → Bool) (w : TokenValue) (ws : List TokenValue) → p w ≡ false → are_dotted p (w ∷ ws) ≡ false
other-word p w [] h = h
other-word p w (d ∷ ws) h = rw h refl

pub part_found : (p : TokenValue → Bool) (ts rest : List TokenValue) → BeginsSo p ts rest → are_dotted p (words_of ts) ≡ dotted_after p (words_of rest)
part_found p ts rest b = rw (b.words) (dotted-word p b.word (words_of rest) b.passes)

pub part_other : (p : TokenValue → Bool) (ts : List TokenValue) → BeginsOther p ts → are_dotted p (words_of ts) ≡ false
part_other p ts other = by (words_of ts) refl
  where
    by : (ws : List TokenValue) → words_of ts ≡ ws → are_dotted p ws ≡ false
    by [] e = refl
    by (w ∷ ws) e = other-word p w ws (other w ws e)

pub dot_found : (p : TokenValue → Bool) (ts rest : List TokenValue) → BeginsSo (is_special_of 46) ts rest → dotted_after p (words_of ts) ≡ are_dotted p (words_of rest)
dot_found p ts rest b = rw (b.words, b.passes) refl

-- tokens are blank where they have no word
pub blank_words : (ts : List TokenValue) → words_of ts ≡ [] → are_blank ts ≡ true
blank_words [] e = refl
blank_words (t ∷ ts) e = elim (cases_Bool (is_blank_token t)) [
  | inl blank ↦ rw (blank) (blank_words ts (rw (blank) at e))
  | inr word ↦ cc (rw (word) at e)
]

pub words_blank : (ts : List TokenValue) → are_blank ts ≡ true → words_of ts ≡ []
words_blank [] h = refl
words_blank (t ∷ ts) h =
    let parts = and_parts (is_blank_token t) (are_blank ts) h in
    rw (parts.0) (words_blank ts parts.1)

word_not_blank : (w : TokenValue) (ws ts : List TokenValue) → words_of ts ≡ w ∷ ws → are_blank ts ≡ false
word_not_blank w ws ts e = elim (cases_Bool (are_blank ts)) [
  | inl blank ↦ cc (sym (words_blank ts blank) ∙ e)
  | inr not_blank ↦ not_blank
]

pub dot_other : (p : TokenValue → Bool) (ts : List TokenValue) → BeginsOther (is_special_of 46) ts → dotted_after p (words_of ts) ≡ are_blank ts
dot_other p ts other = by (words_of ts) refl
  where
    by : (ws : List TokenValue) → words_of ts ≡ ws → dotted_after p ws ≡ are_blank ts
    by [] e = sym (blank_words ts e)
    by (w ∷ ws) e = rw (other w ws e) (sym (word_not_blank w ws ts e))
