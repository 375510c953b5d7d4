-- What stands in a comment, as what stands in a group.
use Rattle.std.proofs.Common.{◌≡◌, ℕ, ◌<◌, List, [], ◌∷◌, ◌++◌, refl, ap, ◌∙◌, sym}
use Rattle.std.proofs.lemmas.List.{append-nil}
use Rattle.encoded_words.specs.CommentUnits.{TextItem, Plain as PlainItem, Pair as PairItem}
use Rattle.field_tokens.specs.Groups.{Inside, End, Plain, Pair, Nested, inside_octets, depth_of, IsInside}
use Rattle.field_tokens.specs.Tokens.{comment_marks}
use Rattle.field_tokens.specs.Trees.{AreText, spelling, Body, Last, Before, body_octets, IsCommentBody}
use Rattle.field_tokens.specs.private.Bodies.{body_depth}
use Rattle.field_tokens.specs.Comments.{IsComment, comment_of}
use Rattle.field_tokens.specs.private.CommentWriting.{IsCommentWithin}
use Rattle.field_tokens.proofs.CommentTokens.{body_of, body_of-octets, body_of-is, body_of-depth}

items_before : List TextItem → Inside → Inside
items_before [] more = more
items_before (PlainItem x ∷ text) more = Plain x (items_before text more)
items_before (PairItem x ∷ text) more = Pair x (items_before text more)

inside_of : Body → Inside
inside_of (Last text) = items_before text End
inside_of (Before text inner more) = items_before text (Nested (inside_of inner) (inside_of more))

items_before-octets : (text : List TextItem) (more : Inside) → inside_octets comment_marks (items_before text more) ≡ spelling text ++ inside_octets comment_marks more
unfolding items_before
items_before-octets [] more = refl
items_before-octets (PlainItem x ∷ text) more = ap (λ r. x ∷ r) (items_before-octets text more)
items_before-octets (PairItem x ∷ text) more = ap (λ r. 92 ∷ x ∷ r) (items_before-octets text more)

items_before-is : (text : List TextItem) (more : Inside) → AreText text → IsInside comment_marks more → IsInside comment_marks (items_before text more)
unfolding items_before
items_before-is [] more are is = is
items_before-is (PlainItem x ∷ text) more are is = (are.0.0, are.0.1, are.0.2, refl, items_before-is text more are.1 is)
items_before-is (PairItem x ∷ text) more are is = (refl, items_before-is text more are.1 is)

items_before-depth : (text : List TextItem) (more : Inside) → depth_of (items_before text more) ≡ depth_of more
unfolding items_before
items_before-depth [] more = refl
items_before-depth (PlainItem x ∷ text) more = items_before-depth text more
items_before-depth (PairItem x ∷ text) more = items_before-depth text more

inside_of-octets : (body : Body) → inside_octets comment_marks (inside_of body) ≡ body_octets body
unfolding inside_of
inside_of-octets (Last text) = items_before-octets text End ∙ append-nil (spelling text)
inside_of-octets (Before text inner more) =
    items_before-octets text (Nested (inside_of inner) (inside_of more)) ∙ rw (inside_of-octets inner, inside_of-octets more) refl

inside_of-is : (body : Body) → IsCommentBody body → IsInside comment_marks (inside_of body)
unfolding inside_of
inside_of-is (Last text) is = items_before-is text End is tt
inside_of-is (Before text inner more) is = items_before-is text (Nested (inside_of inner) (inside_of more)) is.0 (inside_of-is inner is.1, inside_of-is more is.2)

inside_of-depth : (body : Body) → depth_of (inside_of body) ≡ body_depth body
unfolding inside_of
inside_of-depth (Last text) = items_before-depth text End
inside_of-depth (Before text inner more) =
    items_before-depth text (Nested (inside_of inner) (inside_of more)) ∙ rw (inside_of-depth inner, inside_of-depth more) refl

-- a body between parentheses is a comment
pub IsComment-of : (body : Body) → IsCommentBody body → body_depth body < 64 → IsComment (comment_of body)
IsComment-of body is shallow = record {
  inside = inside_of body;
  is_inside = inside_of-is body is;
  shallow = rw (inside_of-depth body) shallow;
  spelled = ap (λ r. 40 ∷ (r ++ 41 ∷ [])) (sym (inside_of-octets body));
}

-- and a comment is one
pub comment_within : (octets : List ℕ) → IsComment octets → IsCommentWithin 64 octets
comment_within octets g = record {
  body = body_of g.inside;
  is_body = body_of-is g.inside g.is_inside;
  shallow = rw (body_of-depth g.inside) g.shallow;
  spelled = g.spelled ∙ ap (λ r. 40 ∷ (r ++ 41 ∷ [])) (sym (body_of-octets g.inside));
}
