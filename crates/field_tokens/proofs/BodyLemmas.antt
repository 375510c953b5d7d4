-- What stands in comments is read in one way.
use Rattle.std.proofs.Common.{◌≡◌, ℕ, ◌+◌, List, [], ◌∷◌, ◌++◌, length, refl, sym, ap, ◌∙◌, subst, arith}
use Rattle.std.proofs.lemmas.List.{append_assoc}
use Rattle.field_tokens.specs.declared.Token.{Token}
use Rattle.field_tokens.specs.Trees.{spelling, Body, Last, Before, body_octets, IsCommentBody, Tree, End, NestedThen, run_then, HasItems, HasComment}
use Rattle.field_tokens.proofs.Texts.{text_once, open_stops, close_stops, GivesRun-once}

-- the octets of text and a comment, with what follows grouped after the text
pub grouped : (text inner more : List ℕ) (x : List ℕ) → (text ++ 40 ∷ (inner ++ 41 ∷ more)) ++ x ≡ text ++ 40 ∷ (inner ++ 41 ∷ (more ++ x))
grouped text inner more x = append_assoc text (40 ∷ (inner ++ 41 ∷ more)) x ∙ ap (λ r. text ++ 40 ∷ r) (append_assoc inner (41 ∷ more) x)

-- one body stands before a closing parenthesis
pub body_once : (a b : Body) (x y : List ℕ) → IsCommentBody a → IsCommentBody b → body_octets a ++ 41 ∷ x ≡ body_octets b ++ 41 ∷ y → (a ≡ b) × (x ≡ y)
body_once (Last s) (Last t) x y p q e =
    let r = text_once s t (41 ∷ x) (41 ∷ y) p q (close_stops x) (close_stops y) e in
    (ap Last r.0, cc (r.1))
body_once (Last s) (Before t inner more) x y p q e =
    let following : List ℕ = body_octets inner ++ 41 ∷ (body_octets more ++ 41 ∷ y) in
    let r = text_once s t (41 ∷ x) (40 ∷ following) p q.0 (close_stops x) (open_stops following) (e ∙ grouped (spelling t) (body_octets inner) (body_octets more) (41 ∷ y)) in
    let no : ◌≡◌ {A = ℕ} 41 40 = cc (r.1) in
    absurd (omega (arith, no))
body_once (Before s inner more) (Last t) x y p q e =
    let following : List ℕ = body_octets inner ++ 41 ∷ (body_octets more ++ 41 ∷ x) in
    let r = text_once s t (40 ∷ following) (41 ∷ y) p.0 q (open_stops following) (close_stops y) (sym (grouped (spelling s) (body_octets inner) (body_octets more) (41 ∷ x)) ∙ e) in
    let no : ◌≡◌ {A = ℕ} 40 41 = cc (r.1) in
    absurd (omega (arith, no))
body_once (Before s a b) (Before t c d) x y p q e =
    let left : List ℕ = body_octets a ++ 41 ∷ (body_octets b ++ 41 ∷ x) in
    let right : List ℕ = body_octets c ++ 41 ∷ (body_octets d ++ 41 ∷ y) in
    let r = text_once s t (40 ∷ left) (40 ∷ right) p.0 q.0 (open_stops left) (open_stops right)
    (sym (grouped (spelling s) (body_octets a) (body_octets b) (41 ∷ x)) ∙ e ∙ grouped (spelling t) (body_octets c) (body_octets d) (41 ∷ y)) in
    let same : left ≡ right = cc (r.1) in
    let first = body_once a c (body_octets b ++ 41 ∷ x) (body_octets d ++ 41 ∷ y) p.1 q.1 same in
    let second = body_once b d x y p.2 q.2 first.1 in
    let text : s ≡ t = r.0 in
    let inner : a ≡ c = first.0 in
    let more : b ≡ d = second.0 in
    (cc, second.1)

-- what stands in a comment has one tree
pub HasItems-once : (at : ℕ) (body : Body) (t u : Tree) → HasItems at body t → HasItems at body u → t ≡ u
HasItems-once at (Last text) t u p q = p.2 ∙ ap (λ r. run_then r End) (GivesRun-once at text p.0 q.0 p.1 q.1) ∙ sym q.2
HasItems-once at (Before text inner more) t u p q =
    let run = GivesRun-once at text p.0 q.0 p.3 q.3 in
    let nested : p.1 ≡ q.1 = HasItems-once (at + length (spelling text) + 1) inner p.1 q.1 p.4 q.4 in
    let following : p.2 ≡ q.2 = HasItems-once (at + length (spelling text) + length (body_octets inner) + 2) more p.2 q.2 p.5 q.5 in
    p.6 ∙ ap (λ r. run_then r (NestedThen p.1 p.2)) run ∙ ap (λ r. run_then q.0 r) (rw (nested, following) refl) ∙ sym q.6

-- a comment has one tree
pub HasComment-once : (text : List ℕ) (token : Token) (t u : Tree) → HasComment text token t → HasComment text token u → t ≡ u
HasComment-once text token t u p q =
    let spelled : 40 ∷ (body_octets p.body ++ 41 ∷ []) ≡ 40 ∷ (body_octets q.body ++ 41 ∷ []) = sym p.spelled ∙ q.spelled in
    let same : p.body ≡ q.body = (body_once p.body q.body [] [] p.is_body q.is_body (cc spelled)).0 in
    HasItems-once (token.span.at + 1) q.body t u (subst (λ b. HasItems (token.span.at + 1) b t) same p.items) q.items
