-- What follows where something is no mailbox or no element, and comments with their trees.
use Rattle.std.proofs.Common.{◌≡◌, ℕ, ◌+◌, ◌<◌, ◌≤◌, true, false, List, [], ◌∷◌, ◌++◌, length, get_or, take, refl}
use Rattle.std.proofs.lemmas.Bool.{both_ways}
use Rattle.std.proofs.lemmas.List.{take_more, take_all}
use Rattle.std.proofs.lemmas.List.Elements.{filter-append}
use Rattle.field_tokens.specs.declared.Token.{Token}
use Rattle.field_tokens.specs.Tokens.{TokenValue}
use Rattle.field_tokens.specs.Squeezed.{is_comment}
use Rattle.field_tokens.specs.Trees.{Tree, HasComment}
use Rattle.field_tokens.proofs.BodyLemmas.{HasComment-once}
use Rattle.address_grammar.specs.private.Lexemes.{are_blank}
use Rattle.address_grammar.specs.AddressLists.{MailboxValue, IsMailbox, IsOneMailbox, ElementValue, IsElement, SaysPlace, comment_tokens, HaveTrees}

pub one_malformed : (ts : List TokenValue) → ((m : MailboxValue) → IsMailbox ts m → ⊥) → (ms : List MailboxValue) → IsOneMailbox ts ms → ⊥
one_malformed ts none [] is = is
one_malformed ts none (m ∷ []) is = none m is
one_malformed ts none (m ∷ n ∷ ms) is = is

pub place_malformed : (ts : List TokenValue) → are_blank ts ≡ false → ((e : ElementValue) → IsElement ts e → ⊥) → (es : List ElementValue) → SaysPlace ts es → ⊥
place_malformed ts not_blank none [] is = both_ways (are_blank ts) not_blank is
place_malformed ts not_blank none (e ∷ []) is = none e is
place_malformed ts not_blank none (e ∷ f ∷ es) is = is

pub have_none : (text : List ℕ) (t : Token) → is_comment t.kind ≡ false → HaveTrees text (comment_tokens (t ∷ [])) []
have_none text t h = rw (h) tt

pub have_one : (text : List ℕ) (t : Token) (tree : Tree) → is_comment t.kind ≡ true → HasComment text t tree → HaveTrees text (comment_tokens (t ∷ [])) (tree ∷ [])
have_one text t tree h has = rw (h) (has, tt)

pub have_append : (text : List ℕ) (ts us : List Token) (xs ys : List Tree) → HaveTrees text ts xs → HaveTrees text us ys → HaveTrees text (ts ++ us) (xs ++ ys)
have_append text [] us [] ys p q = q
have_append text [] us (x ∷ xs) ys p q = absurd p
have_append text (t ∷ ts) us [] ys p q = absurd p
have_append text (t ∷ ts) us (x ∷ xs) ys p q = (p.0, have_append text ts us xs ys p.1 q)

pub trees_turn : (text : List ℕ) (ts : List Token) (i : ℕ) (d : Token) (old first new : List Tree) → i < length ts → HaveTrees text (comment_tokens (take i ts)) old → HaveTrees text (comment_tokens (get_or ts i d ∷ [])) first
    → new ≡ old ++ first → HaveTrees text (comment_tokens (take (i + 1) ts)) new
trees_turn text ts i d old first new h p q e =
    rw (e, take_more ts i d h, filter-append (λ t. is_comment t.kind) (take i ts) (get_or ts i d ∷ [])) (have_append text (comment_tokens (take i ts)) (comment_tokens (get_or ts i d ∷ [])) old first p q)

pub trees_all : (text : List ℕ) (ts : List Token) (i : ℕ) (made : List Tree) → length ts ≤ i → HaveTrees text (comment_tokens (take i ts)) made → HaveTrees text (comment_tokens ts) made
trees_all text ts i made h p = rw (take_all i ts h) at p

pub trees_once : (text : List ℕ) (ts : List Token) (xs ys : List Tree) → HaveTrees text ts xs → HaveTrees text ts ys → xs ≡ ys
trees_once text [] [] [] p q = refl
trees_once text [] [] (y ∷ ys) p q = absurd q
trees_once text [] (x ∷ xs) ys p q = absurd p
trees_once text (t ∷ ts) [] ys p q = absurd p
trees_once text (t ∷ ts) (x ∷ xs) [] p q = absurd q
trees_once text (t ∷ ts) (x ∷ xs) (y ∷ ys) p q =
    let head : x ≡ y = HasComment-once text t x y p.0 q.0 in
    let tail : xs ≡ ys = trees_once text ts xs ys p.1 q.1 in
    cc
