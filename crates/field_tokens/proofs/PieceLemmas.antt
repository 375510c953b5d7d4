-- Pieces with a space between any two, and comments after a text.
use Rattle.std.proofs.Common.{◌≡◌, ℕ, ◌<◌, List, [], ◌∷◌, ◌++◌, length, refl, sym, ap, ◌∙◌, arith}
use Rattle.std.proofs.lemmas.List.{append_assoc, append-nil}
use Rattle.std.specs.List.{AllByRecursion, join_with_byte}
use Rattle.field_tokens.specs.declared.TokenKind.TheVariants.{Comment}
use Rattle.field_tokens.specs.Groups.{IsEnclosed}
use Rattle.field_tokens.specs.Tokens.{TokenValue, comment_marks, IsLine}
use Rattle.field_tokens.specs.Squeezed.{comments_of, space}
use Rattle.field_tokens.specs.Comments.{CommentsPieces, IsLinePiece, IsAsciiComment}
use Rattle.field_tokens.proofs.TokenLines.{ascii_line}
use Rattle.field_tokens.proofs.LinePieces.{CommentsPieces-there}

-- ---- pieces that are joined

pub join_more : (p : List ℕ) (ps : List (List ℕ)) → 0 < length ps → join_with_byte 32 (p ∷ ps) ≡ p ++ 32 ∷ join_with_byte 32 ps
join_more p [] some = absurd (omega (arith, some))
join_more p (q ∷ ps) some = refl

pub join_two : (p : List ℕ) (ps : List (List ℕ)) (q : List ℕ) (qs : List (List ℕ)) → join_with_byte 32 ((p ∷ ps) ++ q ∷ qs) ≡ join_with_byte 32 (p ∷ ps) ++ 32 ∷ join_with_byte 32 (q ∷ qs)
join_two p [] q qs = refl
join_two p (r ∷ ps) q qs = ap (λ t. p ++ 32 ∷ t) (join_two r ps q qs) ∙ sym (append_assoc p (32 ∷ join_with_byte 32 (r ∷ ps)) (32 ∷ join_with_byte 32 (q ∷ qs)))

pub join_same : (ps qs ms ns : List (List ℕ)) → 0 < length ps → 0 < length ms → (qs ≡ [] → ns ≡ []) → (ns ≡ [] → qs ≡ []) → join_with_byte 32 ps ≡ join_with_byte 32 ms → join_with_byte 32 qs ≡ join_with_byte 32 ns
    → join_with_byte 32 (ps ++ qs) ≡ join_with_byte 32 (ms ++ ns)
join_same [] qs ms ns sp sm to back a b = absurd (omega (arith, sp))
join_same (p ∷ ps) qs [] ns sp sm to back a b = absurd (omega (arith, sm))
join_same (p ∷ ps) [] (m ∷ ms) [] sp sm to back a b = ap (join_with_byte 32) (append-nil (p ∷ ps)) ∙ a ∙ sym (ap (join_with_byte 32) (append-nil (m ∷ ms)))
join_same (p ∷ ps) [] (m ∷ ms) (n ∷ ns) sp sm to back a b = cc (to refl)
join_same (p ∷ ps) (q ∷ qs) (m ∷ ms) [] sp sm to back a b = cc (back refl)
join_same (p ∷ ps) (q ∷ qs) (m ∷ ms) (n ∷ ns) sp sm to back a b =
    join_two p ps q qs ∙ ap (λ t. t ++ 32 ∷ join_with_byte 32 (q ∷ qs)) a ∙ ap (λ t. join_with_byte 32 (m ∷ ms) ++ 32 ∷ t) b ∙ sym (join_two m ms n ns)

-- the same piece before both
pub join_alike : (first : List ℕ) (made pieces : List (List ℕ)) → (made ≡ [] → pieces ≡ []) → (pieces ≡ [] → made ≡ []) → join_with_byte 32 made ≡ join_with_byte 32 pieces
    → join_with_byte 32 (first ∷ made) ≡ join_with_byte 32 (first ∷ pieces)
join_alike first made pieces a b e = join_same (first ∷ []) made (first ∷ []) pieces (omega arith) (omega arith) a b refl e

-- ---- what the pieces of comments are

pub no_pieces : (comments pieces : List (List ℕ)) → CommentsPieces comments pieces → comments ≡ [] → pieces ≡ []
no_pieces [] pieces are e = are
no_pieces (c ∷ cs) pieces are e = cc e

pub no_comments : (comments pieces : List (List ℕ)) → CommentsPieces comments pieces → pieces ≡ [] → comments ≡ []
no_comments [] pieces are e = refl
no_comments (c ∷ cs) pieces are e = absurd (omega (arith, CommentsPieces-there (c ∷ cs) pieces (omega arith) are, ap length e))

pub comments_groups : (cs : List (List ℕ)) → AllByRecursion IsAsciiComment cs → AllByRecursion (IsEnclosed comment_marks) cs
comments_groups [] all = tt
comments_groups (c ∷ cs) all = (all.0.is_comment, comments_groups cs all.1)

pub pieces_lines : (pieces : List (List ℕ)) → AllByRecursion IsLinePiece pieces → AllByRecursion IsLine pieces
pieces_lines [] all = tt
pieces_lines (p ∷ pieces) all = (ascii_line p all.0.ascii all.0.line, pieces_lines pieces all.1)

-- ---- comments after a text

-- comments with a space before each
abbrev pub spaced : List (List ℕ) → List TokenValue
spaced [] = []
spaced (c ∷ cs) = space ∷ record { kind = Comment; octets = c } ∷ spaced cs

pub spaced_comments : (cs : List (List ℕ)) → comments_of (spaced cs) ≡ cs
spaced_comments [] = refl
spaced_comments (c ∷ cs) = ap (λ r. c ∷ r) (spaced_comments cs)
