-- Pieces that are put on lines, one list after another.
use Rattle.std.proofs.Common.{◌≡◌, ℕ, List, [], ◌∷◌, ◌++◌, map, refl, sym, ap, ◌∙◌}
use Rattle.std.proofs.lemmas.List.{append_assoc, append-nil}
use Rattle.mail_wire.specs.Lines.{crlf}
use Rattle.encoded_words.specs.Folding.{made_body, word_pieces, lines_of, AddsLines}

pub lines_of-append : (xs ys : List (List ℕ)) → lines_of (xs ++ ys) ≡ lines_of xs ++ lines_of ys
lines_of-append [] ys = refl
lines_of-append (x ∷ xs) ys = rw (lines_of-append xs ys) (sym (append_assoc (crlf ++ 32 ∷ x) (lines_of xs) (lines_of ys)))

-- no pieces yet
pub adds_none : {P : List (List ℕ) → Type 0} → (old : List ℕ) → P [] → AddsLines P old old
adds_none old holds = record { pieces = []; holds = holds; added = sym (append-nil old) }

-- these pieces
pub adds_these : {P : List (List ℕ) → Type 0} → {old new : List ℕ} → (pieces : List (List ℕ)) → P pieces → new ≡ old ++ lines_of pieces → AddsLines P old new
adds_these pieces holds added = record { pieces = pieces; holds = holds; added = added }

-- pieces and more pieces
pub adds_both : {P Q R : List (List ℕ) → Type 0} → {old mid new : List ℕ} → ((xs ys : List (List ℕ)) → P xs → Q ys → R (xs ++ ys))
    → AddsLines P old mid → AddsLines Q mid new → AddsLines R old new
adds_both {old = old} join a b = record {
  pieces = a.pieces ++ b.pieces;
  holds = join a.pieces b.pieces a.holds b.holds;
  added = b.added ∙ ap (λ r. r ++ lines_of b.pieces) a.added ∙ append_assoc old (lines_of a.pieces) (lines_of b.pieces) ∙ ap (λ r. old ++ r) (sym (lines_of-append a.pieces b.pieces));
}

-- the same pieces, of which something else holds
pub adds_as : {P Q : List (List ℕ) → Type 0} → {old new : List ℕ} → ((xs : List (List ℕ)) → P xs → Q xs) → AddsLines P old new → AddsLines Q old new
adds_as turn a = record { pieces = a.pieces; holds = turn a.pieces a.holds; added = a.added }

-- words that stand after spaces, as pieces
pub made-lines : (words : List (List ℕ)) → made_body (word_pieces 32 words) ≡ lines_of words
made-lines [] = refl
made-lines (word ∷ words) = ap (λ r. (crlf ++ 32 ∷ word) ++ r) (spaced words)
  where
    spaced : (words : List (List ℕ)) → made_body (map (λ w. record { white = 32; octets = w }) words) ≡ lines_of words
    spaced [] = refl
    spaced (w ∷ words) = ap (λ r. (crlf ++ 32 ∷ w) ++ r) (spaced words)
