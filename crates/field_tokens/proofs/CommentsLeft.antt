-- The comments among tokens are written one by one.
use Rattle.std.proofs.Common.{◌≡◌, ℕ, true, false, List, [], ◌∷◌, refl, sym, ap, ◌∙◌, subst}
use Rattle.std.specs.Str.{IsUtf8}
use Rattle.encoded_words.specs.Folding.{AddsLines}
use Rattle.encoded_words.proofs.LineLemmas.{adds_none, adds_both}
use Rattle.field_tokens.specs.Tokens.{TokenValue}
use Rattle.field_tokens.specs.Squeezed.{is_comment, comments_of}
use Rattle.field_tokens.specs.Comments.{IsComment, CommentPieces, CommentsPieces, AreWritableComments}

-- after the pieces that were put, those of the rest's comments complete those of all
pub record CommentsLeft (all rest : List TokenValue) (old made : List ℕ) : Type 0 where
  pub can : AreWritableComments (comments_of rest)
  pub onward : (new : List ℕ) → AddsLines (CommentsPieces (comments_of rest)) made new → AddsLines (CommentsPieces (comments_of all)) old new

pub CommentsLeft-all : (all : List TokenValue) (old : List ℕ) → AreWritableComments (comments_of all) → CommentsLeft all all old old
CommentsLeft-all all old can = record { can = can; onward = λ new adds. adds }

first_comment : (rest following : List TokenValue) (token : TokenValue) → rest ≡ token ∷ following → is_comment token.kind ≡ true → comments_of rest ≡ token.octets ∷ comments_of following
first_comment rest following token cut is = ap comments_of cut ∙ rw is refl

other_first : (rest following : List TokenValue) (token : TokenValue) → rest ≡ token ∷ following → is_comment token.kind ≡ false → comments_of rest ≡ comments_of following
other_first rest following token cut other = ap comments_of cut ∙ rw other refl

pub comment_next : (all rest following : List TokenValue) (token : TokenValue) (old made : List ℕ) → CommentsLeft all rest old made → rest ≡ token ∷ following → is_comment token.kind ≡ true
    → IsComment token.octets × IsUtf8 token.octets
comment_next all rest following token old made left cut is = let can = subst AreWritableComments (first_comment rest following token cut is) left.can in (can.0, can.1)

pub CommentsLeft-put : (all rest following : List TokenValue) (token : TokenValue) (old made put : List ℕ) → CommentsLeft all rest old made → rest ≡ token ∷ following → is_comment token.kind ≡ true
    → AddsLines (CommentPieces token.octets) made put → CommentsLeft all following old put
CommentsLeft-put all rest following token old made put left cut is adds =
    let first = first_comment rest following token cut is in
    record {
      can = (subst AreWritableComments first left.can).2;
      onward = λ new more.
          let both : AddsLines (CommentsPieces (token.octets ∷ comments_of following)) made new = adds_both (λ xs ys p q. (xs, ys, refl, p, q)) adds more in
          left.onward new (subst (λ comments. AddsLines (CommentsPieces comments) made new) (sym first) both);
    }

pub CommentsLeft-other : (all rest following : List TokenValue) (token : TokenValue) (old made : List ℕ) → CommentsLeft all rest old made → rest ≡ token ∷ following → is_comment token.kind ≡ false
    → CommentsLeft all following old made
CommentsLeft-other all rest following token old made left cut other =
    let same = other_first rest following token cut other in
    record { can = subst AreWritableComments same left.can; onward = λ new more. left.onward new (subst (λ comments. AddsLines (CommentsPieces comments) made new) (sym same) more) }

pub CommentsLeft-end : (all rest : List TokenValue) (old made : List ℕ) → CommentsLeft all rest old made → rest ≡ [] → AddsLines (CommentsPieces (comments_of all)) old made
CommentsLeft-end all rest old made left end =
    let none : CommentsPieces (comments_of rest) [] = subst (λ ts. CommentsPieces (comments_of ts) []) (sym end) refl in left.onward made (adds_none made none)
