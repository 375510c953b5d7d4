-- Pieces that are put last, and a comma after the last one.
use Rattle.std.proofs.Common.{◌≡◌, ◌≢◌, ℕ, ◌+◌, ◌<◌, List, [], ◌∷◌, ◌++◌, length, map, get_or, take, drop, refl, sym, ap, ◌∙◌, subst}
use Rattle.std.proofs.lemmas.List.{append_assoc, append-nil, map-append, take-append-drop, drop_more, take_more}
use Rattle.std.specs.List.{AllByRecursion}
use Rattle.mail_wire.specs.Lines.{crlf}
use Rattle.mail_wire.proofs.AllLemmas.{all-back}
use Rattle.encoded_words.specs.Folding.{lines_of, AddsLines}
use Rattle.encoded_words.proofs.LineLemmas.{adds_both}
use Rattle.field_tokens.specs.Tokens.{TokenValue}
use Rattle.field_tokens.specs.Squeezed.{comments_of}
use Rattle.field_tokens.specs.Comments.{CommentsPieces}
use Rattle.address_lists.specs.ListPieces.{no_members, with_comma}
use Rattle.address_lists.specs.private.Emptied.{NoMembersPieces}

-- one piece
abbrev pub IsPiece : List ℕ → List (List ℕ) → Type 0
IsPiece piece pieces = pieces ≡ piece ∷ []

pub adds_piece : (piece old new : List ℕ) → new ≡ old ++ lines_of (piece ∷ []) → AddsLines (IsPiece piece) old new
adds_piece piece old new e = record { pieces = piece ∷ []; holds = refl; added = e }

-- a line that goes on
line_onward : (front more : List ℕ) → lines_of (front ∷ []) ++ more ≡ lines_of ((front ++ more) ∷ [])
line_onward front more = ap (λ r. r ++ more) (append-nil (crlf ++ 32 ∷ front)) ∙ append_assoc crlf (32 ∷ front) more ∙ sym (append-nil (crlf ++ 32 ∷ (front ++ more)))

pub line_grows : (front more old mid new : List ℕ) → mid ≡ old ++ lines_of (front ∷ []) → new ≡ mid ++ more → new ≡ old ++ lines_of ((front ++ more) ∷ [])
line_grows front more old mid new e f = f ∙ ap (λ r. r ++ more) e ∙ append_assoc old (lines_of (front ∷ [])) more ∙ ap (λ r. old ++ r) (line_onward front more)

-- a comma after the last piece
comma_after : (ps : List (List ℕ)) → ps ≢ [] → lines_of ps ++ 44 ∷ [] ≡ lines_of (with_comma ps)
comma_after [] some = absurd (some refl)
comma_after (p ∷ []) some = line_onward p (44 ∷ [])
comma_after (p ∷ q ∷ ps) some = append_assoc (crlf ++ 32 ∷ p) (lines_of (q ∷ ps)) (44 ∷ []) ∙ ap (λ r. (crlf ++ 32 ∷ p) ++ r) (comma_after (q ∷ ps) (λ e. cc e))

pub adds_comma : {P Q : List (List ℕ) → Type 0} → {old mid new : List ℕ} → ((ps : List (List ℕ)) → P ps → ps ≢ []) → ((ps : List (List ℕ)) → P ps → Q (with_comma ps)) → AddsLines P old mid → new ≡ mid ++ 44 ∷ [] → AddsLines Q old new
adds_comma {old = old} some turn a e = record {
  pieces = with_comma a.pieces;
  holds = turn a.pieces a.holds;
  added =
      e ∙ ap (λ r. r ++ 44 ∷ []) a.added ∙ append_assoc old (lines_of a.pieces) (44 ∷ []) ∙ ap (λ r. old ++ r) (comma_after a.pieces (some a.pieces a.holds));
}

-- what was put after the old octets
pub more_added : {P : List (List ℕ) → Type 0} → {old mid new : List ℕ} → AddsLines P old mid → new ≡ mid → (more : List ℕ) × (new ≡ old ++ more)
more_added a e = (lines_of a.pieces, e ∙ a.added)

pub some_after : (a b : List (List ℕ)) (x : List ℕ) → a ++ x ∷ b ≢ []
some_after [] b x = λ e. cc e
some_after (y ∷ a) b x = λ e. cc e

all_at : {X Y : Type 0} (P : Y → Type 0) (f : X → Y) (xs : List X) (i : ℕ) (d : X) → AllByRecursion P (map f xs) → i < length xs → P (f (get_or xs i d))
all_at {X = X} {Y = Y} P f xs i d all h =
    let parts : xs ≡ take i xs ++ get_or xs i d ∷ drop (i + 1) xs = sym (take-append-drop i xs) ∙ ap (λ r. take i xs ++ r) (drop_more xs i d h) in
    let whole : map f xs ≡ map f (take i xs) ++ f (get_or xs i d) ∷ map f (drop (i + 1) xs) = ap (map f) parts ∙ map-append f (take i xs) (get_or xs i d ∷ drop (i + 1) xs) in
    (all-back P (map f (take i xs)) (f (get_or xs i d) ∷ map f (drop (i + 1) xs)) (subst (AllByRecursion P) whole all)).0

-- what holds of the element at a place
pub item_at : {X Y : Type 0} (P : Y → Type 0) (f : X → Y) (xs : List X) (i : ℕ) (x : X) → x ≡ get_or xs i x → AllByRecursion P (map f xs) → i < length xs → P (f x)
item_at P f xs i x e all h = subst (λ r. P (f r)) (sym e) (all_at P f xs i x all h)

pub items_more : {X Y : Type 0} (f : X → Y) (xs : List X) (i : ℕ) (x : X) → x ≡ get_or xs i x → i < length xs → map f (take (i + 1) xs) ≡ map f (take i xs) ++ f x ∷ []
items_more f xs i x e h = ap (map f) (take_more xs i x h) ∙ map-append f (take i xs) (get_or xs i x ∷ []) ∙ ap (λ r. map f (take i xs) ++ f r ∷ []) (sym e)

-- ---- what stands in place of addresses that can't be served

pub no_members_adds : (ts : List TokenValue) (old mid new : List ℕ) → mid ≡ old ++ lines_of (no_members ∷ []) → AddsLines (CommentsPieces (comments_of ts)) mid new → AddsLines (NoMembersPieces ts) old new
no_members_adds ts old mid new e c = adds_both (λ xs comments is are. (comments, are, ap (λ r. r ++ comments) is)) (adds_piece no_members old mid e) c
