-- A comment among the tokens of a text, as what the reader of comments takes.
use Rattle.std.proofs.Common.{◌≡◌, ℕ, zero, suc, ◌+◌, ◌-◌, ◌<◌, ◌≤◌, List, [], ◌∷◌, ◌++◌, length, take, drop, get_or, refl, sym, ap, ◌∙◌, subst, arith}
use Rattle.std.proofs.lemmas.List.{append_assoc, length-append, length-take-le, length-drop, take_at, drop_at}
use Rattle.encoded_words.specs.CommentUnits.{TextItem, Plain as PlainItem, Pair as PairItem, item_spelling}
use Rattle.field_tokens.specs.declared.Style.{Style}
use Rattle.field_tokens.specs.declared.Token.{Token}
use Rattle.field_tokens.specs.declared.TokenKind.TheVariants.{Comment}
use Rattle.field_tokens.specs.Groups.{Inside, End, Plain, Pair, Nested, inside_octets, depth_of, IsInside, IsEnclosed}
use Rattle.field_tokens.specs.Tokens.{comment_marks, IsToken, TokenValue, AreTokens, tokens_from, IsTokenOf, octets_at}
use Rattle.field_tokens.specs.Trees.{StandsInText, spelling, Body, Last, Before, body_octets, IsCommentBody, Tree, HasItems, HasComment}
use Rattle.field_tokens.specs.private.Bodies.{body_depth, HoldsBody, ReadsBody}
use Rattle.field_tokens.proofs.TokenLists.{token_at}
use Rattle.field_tokens.proofs.BodyLemmas.{body_once}

-- the token stands in the text, and its octets are a token of its kind
pub record IsPlaced (style : Style) (text : List ℕ) (token : Token) : Type 0 where
  pub rest : List ℕ
  pub within : token.span.at + token.span.len ≤ length text
  pub is_token : IsToken style token.kind (octets_at text token.span) rest

placed_first : (style : Style) (text front rest : List ℕ) (t : TokenValue) → text ≡ front ++ (t.octets ++ rest) → IsToken style t.kind t.octets rest → IsPlaced style text (token_at (length front) t)
placed_first style text front rest t e is =
    let following : drop (length front) text ≡ t.octets ++ rest = ap (drop (length front)) e ∙ drop_at front (t.octets ++ rest) (length front) refl in
    let octets : octets_at text (token_at (length front) t).span ≡ t.octets = rw (following) (take_at t.octets rest (length t.octets) refl) in
    record {
      rest = rest;
      within = omega (arith, ap length e, length-append front (t.octets ++ rest), length-append t.octets rest);
      is_token = rw (octets) is;
    }

placed_from : (style : Style) (text front rest : List ℕ) (ts : List TokenValue) (k : ℕ) (token : Token) → text ≡ front ++ rest → AreTokens style ts rest → k < length (tokens_from (length front) ts)
    → get_or (tokens_from (length front) ts) k token ≡ token → IsPlaced style text token
placed_from style text front rest [] k token e are below at = absurd (omega (arith, below))
placed_from style text front rest (t ∷ ts) zero token e are below at = subst (IsPlaced style text) at (placed_first style text front are.0 t (e ∙ ap (λ r. front ++ r) are.1) are.2)
placed_from style text front rest (t ∷ ts) (suc k) token e are below at =
    let onward : text ≡ (front ++ t.octets) ++ are.0 = e ∙ ap (λ r. front ++ r) are.1 ∙ sym (append_assoc front t.octets are.0) in
    let place : length (front ++ t.octets) ≡ length front + length t.octets = length-append front t.octets in
    placed_from style text (front ++ t.octets) are.0 ts k token onward are.3 (rw (place) (omega (arith, below))) (rw (place) at)

-- a token of a text stands in it
pub token_placed : (text : List ℕ) (token : Token) → (is : IsTokenOf text token) → IsPlaced is.style text token
token_placed text token is =
    let at : ℕ = is.among.0 in
    let placed = is.has.placed in
    let below : at < length (tokens_from 0 is.has.values) = rw (placed) at is.among.1 in
    let same : get_or (tokens_from 0 is.has.values) at token ≡ token = rw (placed) at is.among.2 in
    placed_from is.style text [] text is.has.values at token refl is.has.are_tokens below same

-- what stands in a group as a body
item_before : TextItem → Body → Body
item_before i (Last text) = Last (i ∷ text)
item_before i (Before text inner more) = Before (i ∷ text) inner more

pub body_of : Inside → Body
body_of End = Last []
body_of (Plain x more) = item_before (PlainItem x) (body_of more)
body_of (Pair x more) = item_before (PairItem x) (body_of more)
body_of (Nested inner more) = Before [] (body_of inner) (body_of more)

item_before-octets : (i : TextItem) (b : Body) → body_octets (item_before i b) ≡ item_spelling i ++ body_octets b
unfolding item_before
item_before-octets i (Last text) = refl
item_before-octets i (Before text inner more) = append_assoc (item_spelling i) (spelling text) (40 ∷ (body_octets inner ++ 41 ∷ body_octets more))

item_before-is : (i : TextItem) (b : Body) → StandsInText i → IsCommentBody b → IsCommentBody (item_before i b)
unfolding item_before
item_before-is i (Last text) stands is = (stands, is)
item_before-is i (Before text inner more) stands is = ((stands, is.0), is.1, is.2)

item_before-depth : (i : TextItem) (b : Body) → body_depth (item_before i b) ≡ body_depth b
unfolding item_before
item_before-depth i (Last text) = refl
item_before-depth i (Before text inner more) = refl

pub body_of-octets : (i : Inside) → body_octets (body_of i) ≡ inside_octets comment_marks i
unfolding body_of
body_of-octets End = refl
body_of-octets (Plain x more) = item_before-octets (PlainItem x) (body_of more) ∙ ap (λ r. x ∷ r) (body_of-octets more)
body_of-octets (Pair x more) = item_before-octets (PairItem x) (body_of more) ∙ ap (λ r. 92 ∷ x ∷ r) (body_of-octets more)
body_of-octets (Nested inner more) = rw (body_of-octets inner, body_of-octets more) refl

pub body_of-is : (i : Inside) → IsInside comment_marks i → IsCommentBody (body_of i)
unfolding body_of
body_of-is End is = tt
body_of-is (Plain x more) is = item_before-is (PlainItem x) (body_of more) (is.0, is.1, is.2) (body_of-is more is.4)
body_of-is (Pair x more) is = item_before-is (PairItem x) (body_of more) tt (body_of-is more is.1)
body_of-is (Nested inner more) is = (tt, body_of-is inner is.0, body_of-is more is.1)

pub body_of-depth : (i : Inside) → body_depth (body_of i) ≡ depth_of i
unfolding body_of
body_of-depth End = refl
body_of-depth (Plain x more) = item_before-depth (PlainItem x) (body_of more) ∙ body_of-depth more
body_of-depth (Pair x more) = item_before-depth (PairItem x) (body_of more) ∙ body_of-depth more
body_of-depth (Nested inner more) = rw (body_of-depth inner, body_of-depth more) refl

-- a comment, as it stands in the text
pub record IsCommentAt (text : List ℕ) (token : Token) : Type 0 where
  pub within : token.span.at + token.span.len ≤ length text
  pub body : Body
  pub is_body : IsCommentBody body
  pub shallow : body_depth body < 64
  pub spelled : octets_at text token.span ≡ 40 ∷ (body_octets body ++ 41 ∷ [])

pub comment_at : (text : List ℕ) (token : Token) → IsTokenOf text token → token.kind ≡ Comment → IsCommentAt text token
comment_at text token is kind =
    let p = token_placed text token is in
    let g : IsEnclosed comment_marks (octets_at text token.span) = subst (λ k. IsToken is.style k (octets_at text token.span) p.rest) kind p.is_token in
    record {
      within = p.within;
      body = body_of g.inside;
      is_body = body_of-is g.inside g.is_inside;
      shallow = rw (body_of-depth g.inside) g.shallow;
      spelled = g.spelled ∙ ap (λ r. 40 ∷ (r ++ 41 ∷ [])) (sym (body_of-octets g.inside));
    }

-- the octets after the opening parenthesis
pub after_open : (text : List ℕ) (token : Token) (mark : ℕ) (octets : List ℕ) → (c : IsCommentAt text token) → octets_at text token.span ≡ mark ∷ octets → octets ≡ body_octets c.body ++ 41 ∷ []
after_open text token mark octets c e = let whole : mark ∷ octets ≡ 40 ∷ (body_octets c.body ++ 41 ∷ []) = sym e ∙ c.spelled in cc whole

pub HoldsBody-comment : (text : List ℕ) (token : Token) (mark : ℕ) (octets : List ℕ) → IsCommentAt text token → octets_at text token.span ≡ mark ∷ octets → HoldsBody 64 octets
HoldsBody-comment text token mark octets c e = record { body = c.body; following = []; is_body = c.is_body; shallow = c.shallow; whole = after_open text token mark octets c e }

pub octets_at-size : (text : List ℕ) (at len : ℕ) → at + len ≤ length text → length (take len (drop at text)) ≡ len
octets_at-size text at len within = length-take-le len (drop at text) (rw (length-drop at text) (omega arith))

pub comment_some : (text : List ℕ) (token : Token) → IsCommentAt text token → 0 < length (octets_at text token.span)
comment_some text token c = omega (arith, ap length c.spelled)

-- how long the token is
pub token_size : (text : List ℕ) (token : Token) (mark : ℕ) (octets : List ℕ) → IsCommentAt text token → octets_at text token.span ≡ mark ∷ octets → token.span.len ≡ length octets + 1
token_size text token mark octets c e =
    let size : length (octets_at text token.span) ≡ token.span.len = octets_at-size text token.span.at token.span.len c.within in
    omega (arith, ap length e, size)

pub comment_found : (text : List ℕ) (token : Token) (mark : ℕ) (octets rest : List ℕ) (tree : Tree) → IsCommentAt text token → octets_at text token.span ≡ mark ∷ octets
    → ReadsBody (token.span.at + token.span.len) octets tree rest → HasComment text token tree
comment_found text token mark octets rest tree c e r =
    let inside = after_open text token mark octets c e in
    let same = body_once r.body c.body rest [] r.is_body c.is_body (sym r.whole ∙ inside) in
    let size = token_size text token mark octets c e in
    let at : token.span.at + token.span.len - length octets ≡ token.span.at + 1 = omega (arith, size) in
    record { body = c.body; is_body = c.is_body; spelled = c.spelled; items = subst (λ b. HasItems (token.span.at + 1) b tree) same.0 (subst (λ n. HasItems n r.body tree) at r.items) }
