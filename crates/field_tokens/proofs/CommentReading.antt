-- The reader of comments goes from text to comment, whatever follows.
use Rattle.std.proofs.Common.{◌≡◌, ◌≢◌, ℕ, ◌+◌, ◌-◌, ◌<◌, ◌≤◌, List, [], ◌∷◌, ◌++◌, length, map, Option, refl, sym, ap, ◌∙◌, subst, arith}
use Rattle.std.proofs.lemmas.List.{length-append}
use Rattle.mail_wire.specs.declared.values.Span.{Span}
use Rattle.field_tokens.specs.declared.Item.{Item}
use Rattle.field_tokens.specs.Trees.{spelling, Body, Last, Before, body_octets, IsCommentBody, Tree, End, NestedThen, run_then, HasItems, all_before, tree_item}
use Rattle.field_tokens.specs.private.Bodies.{SplitsText, body_depth, HoldsBody, ReadsBody, AddsItem}
use Rattle.field_tokens.proofs.Texts.{text_once, open_stops, close_stops}
use Rattle.field_tokens.proofs.BodyLemmas.{grouped, body_once}

-- the octets are a comment, its closing parenthesis and what a body holds
pub record OpensBody (levels : ℕ) (following : List ℕ) : Type 0 where
  pub inner : Body
  pub more : Body
  pub rest : List ℕ
  pub is_inner : IsCommentBody inner
  pub is_more : IsCommentBody more
  pub inner_shallow : body_depth inner + 1 < levels
  pub more_shallow : body_depth more < levels
  pub whole : following ≡ body_octets inner ++ 41 ∷ (body_octets more ++ 41 ∷ rest)

-- a parenthesis follows the text
pub data Marks : ℕ → List ℕ → Type 0 where
  Closes : {levels : ℕ} {after : List ℕ} → (following : List ℕ) → after ≡ 41 ∷ following → Marks levels after
  Opens : {levels : ℕ} {after : List ℕ} → (following : List ℕ) → after ≡ 40 ∷ following → OpensBody levels following → Marks levels after

pub mark_follows : (levels end : ℕ) (octets after : List ℕ) (run : Option Span) → HoldsBody levels octets → SplitsText end octets run after → Marks levels after
mark_follows levels end octets after run holds split = by holds.body holds.is_body holds.shallow holds.whole
  where
    by : (body : Body) → IsCommentBody body → body_depth body < levels → octets ≡ body_octets body ++ 41 ∷ holds.following → Marks levels after
    by (Last text) is deep e =
        let r = text_once split.text text after (41 ∷ holds.following) split.are_text is split.stops (close_stops holds.following) (sym split.whole ∙ e) in
        Closes holds.following r.1
    by (Before text inner more) is deep e =
        let following : List ℕ = body_octets inner ++ 41 ∷ (body_octets more ++ 41 ∷ holds.following) in
        let whole : octets ≡ spelling text ++ 40 ∷ following = e ∙ grouped (spelling text) (body_octets inner) (body_octets more) (41 ∷ holds.following) in
        let r = text_once split.text text after (40 ∷ following) split.are_text is.0 split.stops (open_stops following) (sym split.whole ∙ whole) in
        Opens following r.1 (record {
          inner = inner;
          more = more;
          rest = holds.following;
          is_inner = is.1;
          is_more = is.2;
          inner_shallow = omega arith;
          more_shallow = omega arith;
          whole = refl;
        })

-- The comments read so far stand before what any body of the rest gives.
pub record ReadsOn (levels end : ℕ) (octets rest : List ℕ) (items : List Item) : Type 0 where
  pub bound : length rest ≤ end
  pub holds : HoldsBody levels rest
  pub onward : (body : Body) (more : Tree) (following : List ℕ) → IsCommentBody body → rest ≡ body_octets body ++ 41 ∷ following → HasItems (end - length rest) body more → ReadsBody end octets (all_before (map tree_item items) more) following

pub ReadsOn-none : (levels end : ℕ) (octets : List ℕ) (items : List Item) → length octets ≤ end → HoldsBody levels octets → items ≡ [] → ReadsOn levels end octets octets items
ReadsOn-none levels end octets items bound holds none = record {
  bound = bound;
  holds = holds;
  onward = λ body more following is e has. rw (none) (record { body = body; is_body = is; whole = e; items = has });
}

-- what the call for a comment in the text requires
pub HoldsBody-inner : (levels : ℕ) (following : List ℕ) → OpensBody levels following → (0 < levels) × HoldsBody (levels - 1) following
HoldsBody-inner levels following o = (
  omega (arith, o.inner_shallow),
  record { body = o.inner; following = body_octets o.more ++ 41 ∷ o.rest; is_body = o.is_inner; shallow = omega (arith, o.inner_shallow); whole = o.whole },
)

-- and what it leaves
HoldsBody-more : (levels end : ℕ) (following next : List ℕ) (tree : Tree) → OpensBody levels following → ReadsBody end following tree next → HoldsBody levels next
HoldsBody-more levels end following next tree o r =
    let same = body_once r.body o.inner next (body_octets o.more ++ 41 ∷ o.rest) r.is_body o.is_inner (sym r.whole ∙ o.whole) in
    record { body = o.more; following = o.rest; is_body = o.is_more; shallow = o.more_shallow; whole = same.1 }

pub ReadsOn-turn : (levels end : ℕ) (octets rest after following next : List ℕ) (run : Option Span) (tree : Tree) (old mid new : List Item) → ReadsOn levels end octets rest old
    → SplitsText end rest run after → after ≡ 40 ∷ following → OpensBody levels following → ReadsBody end following tree next → AddsItem old mid (run_then run) → AddsItem mid new (NestedThen tree)
    → ReadsOn levels end octets next new
ReadsOn-turn levels end octets rest after following next run tree old mid new r split opens o read add more_added = record {
  bound = omega (arith, r.bound, len_rest, len_after);
  holds = HoldsBody-more levels end following next tree o read;
  onward = λ body more left is e has.
      let whole : rest ≡ body_octets (Before split.text read.body body) ++ 41 ∷ left
      = rest_is ∙ ap (λ x. spelling split.text ++ 40 ∷ (body_octets read.body ++ 41 ∷ x)) e ∙ sym (grouped (spelling split.text) (body_octets read.body) (body_octets body) (41 ∷ left)) in
      let inner : HasItems (end - length rest + length (spelling split.text) + 1) read.body tree = subst (λ at. HasItems at read.body tree) inner_at read.items in
      let after_items : HasItems (end - length rest + length (spelling split.text) + length (body_octets read.body) + 2) body more = subst (λ at. HasItems at body more) more_at has in
      rw (more_added more, add (NestedThen tree more))
      (r.onward (Before split.text read.body body) (run_then run (NestedThen tree more)) left (split.are_text, read.is_body, is) whole (run, tree, more, split.gives, inner, after_items, refl));
}
  where
    rest_is : rest ≡ spelling split.text ++ 40 ∷ (body_octets read.body ++ 41 ∷ next)
    rest_is = split.whole ∙ ap (λ x. spelling split.text ++ x) opens ∙ ap (λ x. spelling split.text ++ 40 ∷ x) read.whole

    len_rest : length rest ≡ length (spelling split.text) + (1 + length following)
    len_rest = omega (arith, ap length split.whole, length-append (spelling split.text) after, ap length opens)

    len_after : length following ≡ length (body_octets read.body) + (1 + length next)
    len_after = omega (arith, ap length read.whole, length-append (body_octets read.body) (41 ∷ next))

    inner_at : end - length following ≡ end - length rest + length (spelling split.text) + 1
    inner_at = omega (arith, len_rest, r.bound)

    more_at : end - length next ≡ end - length rest + length (spelling split.text) + length (body_octets read.body) + 2
    more_at = omega (arith, len_rest, len_after, r.bound)

-- the closing parenthesis ends the comment
pub ReadsOn-end : (levels end : ℕ) (octets rest after following : List ℕ) (run : Option Span) (old new : List Item) → ReadsOn levels end octets rest old → SplitsText end rest run after → after ≡ 41 ∷ following
    → AddsItem old new (run_then run) → ReadsBody end octets (all_before (map tree_item new) End) following
ReadsOn-end levels end octets rest after following run old new r split closes add =
    rw (add End) (r.onward (Last split.text) (run_then run End) following split.are_text (split.whole ∙ ap (λ x. spelling split.text ++ x) closes) (run, split.gives, refl))

pub mark_there : (levels : ℕ) (after : List ℕ) → Marks levels after → 0 < length after
mark_there levels after (Closes following e) = omega (arith, ap length e)
mark_there levels after (Opens following e o) = omega (arith, ap length e)

-- what another mark than a closing parenthesis opens
pub opens_of : (levels mark : ℕ) (after following : List ℕ) → Marks levels after → after ≡ mark ∷ following → mark ≢ 41 → (after ≡ 40 ∷ following) × OpensBody levels following
opens_of levels mark after following (Closes other e) is not_close = let whole : mark ∷ following ≡ 41 ∷ other = sym is ∙ e in absurd (not_close (cc whole))
opens_of levels mark after following (Opens other e o) is not_close =
    let whole : mark ∷ following ≡ 40 ∷ other = sym is ∙ e in
    let same : following ≡ other = cc whole in
    (e ∙ ap (λ r. 40 ∷ r) (sym same), rw (same) o)

pub after_bound : (end : ℕ) (rest after following : List ℕ) (run : Option Span) → SplitsText end rest run after → after ≡ 40 ∷ following → length rest ≤ end → length following ≤ end
after_bound end rest after following run split e bound = omega (arith, bound, ap length split.whole, length-append (spelling split.text) after, ap length e)
