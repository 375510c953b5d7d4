-- Sections, pieces and the main part depend on the octets of tokens alone.
use Rattle.std.proofs.Common.{◌≡◌, ℕ, Bool, true, false, not, cond, ◌&&◌, ◌||◌, inl, inr, List, [], ◌∷◌, ◌++◌, filter, refl, sym, ap, ◌∙◌, subst}
use Rattle.std.proofs.lemmas.Bool.{cases_Bool}
use Rattle.std.specs.List.{AllByRecursion, list_all, list_any, slice_split, onto_first}
use Rattle.std.specs.Str.{bytes_eq}
use Rattle.std.specs.Prelude.{codes}
use Rattle.field_tokens.specs.declared.Token.{Token}
use Rattle.field_tokens.specs.Squeezed.{is_blank, run_octets, is_atom_kind}
use Rattle.param_grammar.specs.declared.Piece.{Piece}
use Rattle.param_grammar.specs.Bodies.{is_mark_at, solid, is_plain_token, touch, are_quoted, are_plain, value_content, IsParameterOf, is_first, SaysOctets, IsPieceOf, IsPiece, ArePieces, inner, unquoted}
use Rattle.param_2231.proofs.ChangedTokens.{IsSameAt, AreSameAt}

-- ---- lists

pub all_filter : {X : Type 0} (P : X → Type 0) (p : X → Bool) (xs : List X) → AllByRecursion P xs → AllByRecursion P (filter p xs)
all_filter P p [] all = tt
all_filter P p (x ∷ xs) all = elim (cases_Bool (p x)) [
  | inl keeps ↦ rw (keeps) ((all.0, all_filter P p xs all.1))
  | inr drops ↦ rw (drops) (all_filter P p xs all.1)
]

pub all_parts : {X : Type 0} (P : X → Type 0) (xs ys : List X) → AllByRecursion P (xs ++ ys) → AllByRecursion P xs × AllByRecursion P ys
all_parts P [] ys all = (tt, all)
all_parts P (x ∷ xs) ys all = let more = all_parts P xs ys all.1 in ((all.0, more.0), more.1)

-- one test for another
pub split_alike : {X : Type 0} (p q : X → Bool) (xs : List X) → AllByRecursion (λ x. p x ≡ q x) xs → slice_split p xs ≡ slice_split q xs
split_alike p q [] all = refl
split_alike p q (x ∷ xs) all = rw (all.0, split_alike p q xs all.1) refl

all_split-more : {X : Type 0} (P : X → Type 0) (b : Bool) (x : X) (parts : List (List X)) → P x → AllByRecursion (AllByRecursion P) parts
    → AllByRecursion (AllByRecursion P) (cond b ([] ∷ parts) (onto_first x parts))
all_split-more P true x parts here all = (tt, all)
all_split-more P false x [] here all = ((here, tt), tt)
all_split-more P false x (part ∷ parts) here all = ((here, all.0), all.1)

pub all_split : {X : Type 0} (P : X → Type 0) (p : X → Bool) (xs : List X) → AllByRecursion P xs → AllByRecursion (AllByRecursion P) (slice_split p xs)
all_split P p [] all = (tt, tt)
all_split P p (x ∷ xs) all = all_split-more P (p x) x (slice_split p xs) all.0 (all_split P p xs all.1)

-- the first part, and what the others are parts of
pub record Following (P : Token → Type 0) (tokens first : List Token) (others : List (List Token)) : Type 0 where
  pub tail : List Token
  pub whole : tokens ≡ first ++ tail
  pub onward : AllByRecursion P tail → AllByRecursion (AllByRecursion P) others

after_more : (P : Token → Type 0) (p : Token → Bool) (b : Bool) (t : Token) (ts first : List Token) (others parts : List (List Token)) → parts ≡ slice_split p ts
    → ((front : List Token) (back : List (List Token)) → parts ≡ front ∷ back → Following P ts front back) → cond b ([] ∷ parts) (onto_first t parts) ≡ first ∷ others → Following P (t ∷ ts) first others
after_more P p true t ts first others parts are more e =
    let none : first ≡ [] = sym (cc e) in
    let same : others ≡ parts = sym (cc e) in
    record { tail = t ∷ ts; whole = rw (none) refl; onward = λ all. rw (same, are) (all_split P p ts all.1) }
after_more P p false t ts first others [] are more e =
    let one : first ≡ t ∷ [] = sym (cc e) in
    let none : others ≡ [] = sym (cc e) in
    record { tail = ts; whole = rw (one) refl; onward = λ all. rw (none) tt }
after_more P p false t ts first others (part ∷ parts) are more e =
    let one : first ≡ t ∷ part = sym (cc e) in
    let same : others ≡ parts = sym (cc e) in
    let rest = more part parts refl in
    record { tail = rest.tail; whole = rw (one) (ap (λ r. t ∷ r) rest.whole); onward = λ all. rw (same) (rest.onward all) }

pub first_part : (P : Token → Type 0) (p : Token → Bool) (ts first : List Token) (others : List (List Token)) → slice_split p ts ≡ first ∷ others → Following P ts first others
first_part P p [] first others e =
    let none : first ≡ [] = sym (cc e) in
    let last : others ≡ [] = sym (cc e) in
    record { tail = []; whole = rw (none) refl; onward = λ all. rw (last) tt }
first_part P p (t ∷ ts) first others e =
    after_more P p (p t) t ts first others (slice_split p ts) refl (λ front back f. first_part P p ts front back f) e

-- ---- tokens

pub same_mark : (text changed : List ℕ) (mark : ℕ) (t : Token) → IsSameAt text changed t → is_mark_at text mark t ≡ is_mark_at changed mark t
same_mark text changed mark t same = ap (λ o. bytes_eq o (mark ∷ [])) same

pub same_marks : (text changed : List ℕ) (mark : ℕ) (ts : List Token) → AreSameAt text changed ts → AllByRecursion (λ t. is_mark_at text mark t ≡ is_mark_at changed mark t) ts
same_marks text changed mark [] all = tt
same_marks text changed mark (t ∷ ts) all = (same_mark text changed mark t all.0, same_marks text changed mark ts all.1)

pub same_run : (text changed : List ℕ) (ts : List Token) → AreSameAt text changed ts → run_octets text ts ≡ run_octets changed ts
same_run text changed [] all = refl
same_run text changed (t ∷ ts) all = rw (all.0, same_run text changed ts all.1) refl

same_plain_token : (text changed : List ℕ) (t : Token) → IsSameAt text changed t → is_plain_token text t ≡ is_plain_token changed t
same_plain_token text changed t same = ap (λ o. is_atom_kind t.kind || list_any (λ mark. bytes_eq o (mark ∷ [])) (codes "/[]?=")) same

same_plain_tokens : (text changed : List ℕ) (ts : List Token) → AreSameAt text changed ts → list_all (is_plain_token text) ts ≡ list_all (is_plain_token changed) ts
same_plain_tokens text changed [] all = refl
same_plain_tokens text changed (t ∷ ts) all =
    ap (λ b. b && list_all (is_plain_token text) ts) (same_plain_token text changed t all.0) ∙ ap (λ b. is_plain_token changed t && b) (same_plain_tokens text changed ts all.1)

same_plain : (text changed : List ℕ) (ts : List Token) → AreSameAt text changed ts → are_plain text ts ≡ are_plain changed ts
same_plain text changed [] all = refl
same_plain text changed (t ∷ ts) all = ap (λ b. b && touch (t ∷ ts)) (same_plain_tokens text changed (t ∷ ts) all)

same_content : (text changed : List ℕ) (value : List Token) → AreSameAt text changed value → value_content text value ≡ value_content changed value
same_content text changed value all = ap (λ (r : List ℕ). cond (are_quoted value) (unquoted (inner r)) r) (same_run text changed value all)

-- ---- pieces

same_parameter : (text changed : List ℕ) (ts : List Token) (name : List ℕ) (value : List Token) → AreSameAt text changed ts → IsParameterOf text ts name value
    → IsParameterOf changed ts name value × AreSameAt text changed value
same_parameter text changed ts name value all is =
    let own = subst (AreSameAt text changed) is.tokens_are all in (
      record {
        atom = is.atom;
        equals = is.equals;
        tokens_are = is.tokens_are;
        is_name = is.is_name;
        is_equals = sym (same_mark text changed 61 is.equals own.1.0) ∙ is.is_equals;
        is_value = sym (ap (λ b. are_quoted value || b) (same_plain text changed value own.1.1)) ∙ is.is_value;
        name_is = is.name_is ∙ own.0;
      },
      own.1.1,
    )

same_piece_of : (text changed name : List ℕ) (value : List Token) (piece : Piece) → AreSameAt text changed value → IsPieceOf text name value piece → IsPieceOf changed name value piece
same_piece_of text changed name value piece all is = record {
  parts = is.parts;
  has_parts = is.has_parts;
  says = subst (λ content. SaysOctets is.parts.is_extended (is_first is.parts.number) content piece.charset piece.octets) (same_content text changed value all) is.says;
  base_is = is.base_is;
  number_is = is.number_is;
  written_is = is.written_is ∙ ap (λ r. name ++ 61 ∷ r) (same_run text changed value all);
}

pub same_piece : (text changed : List ℕ) (section : List Token) (piece : Piece) → AreSameAt text changed section → IsPiece text section piece → IsPiece changed section piece
same_piece text changed section piece all is =
    let kept = all_filter (IsSameAt text changed) (λ (token : Token). not (is_blank token.kind)) section all in
    let p = same_parameter text changed (solid section) is.name is.value kept is.is_parameter in
    record { name = is.name; value = is.value; is_parameter = p.0; is_piece = same_piece_of text changed is.name is.value piece p.1 is.is_piece }

pub same_pieces : (text changed : List ℕ) (sections : List (List Token)) (pieces : List Piece) → AllByRecursion (AreSameAt text changed) sections → ArePieces text sections pieces
    → ArePieces changed sections pieces
same_pieces text changed [] pieces all are = are
same_pieces text changed (section ∷ sections) pieces all are =
    (are.0, are.1, same_piece text changed section are.0 all.0 are.2, same_pieces text changed sections are.1 all.1 are.3, are.4)
