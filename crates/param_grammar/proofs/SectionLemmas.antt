-- Tokens are cut at semicolons, and read section by section.
use Rattle.std.proofs.Common.{◌≡◌, ℕ, ◌+◌, ◌≤◌, Bool, true, false, List, [], ◌∷◌, ◌++◌, length, get_or, take, drop, map, filter, position, Some, None, All, refl, sym, ap, ◌∙◌, subst, arith, inl, inr}
use Rattle.std.specs.List.{position_or_len}
use Rattle.std.proofs.lemmas.Bool.{cond-true, cond-false}
use Rattle.std.proofs.lemmas.Grind.{common_steps}
use Rattle.std.specs.List.{Contains}
use Rattle.std.proofs.lemmas.List.{length-append, get_or_at, append_assoc, append-nil, map-append, length-drop, get_or-take, length-take-le, take-append-drop, drop_more}
use Rattle.std.proofs.lemmas.List.Elements.{All-from_get_or}
use Rattle.std.proofs.lemmas.List.Quantifiers.{position-Some}
use Rattle.std.proofs.lemmas.List.Splits.{slice_split_at, slice_split_none}
use Rattle.std.proofs.lemmas.List.Sums.{fails_before_first}
use Rattle.field_tokens.specs.declared.Token.{Token}
use Rattle.field_tokens.specs.declared.Comment.{Comment}
use Rattle.field_tokens.specs.declared.TokenKind.TheVariants.{Atom}
use Rattle.field_tokens.specs.Squeezed.{is_comment}
use Rattle.field_tokens.specs.Trees.{Tree, tree_of}
use Rattle.param_grammar.specs.declared.Piece.{Piece}
use Rattle.param_grammar.specs.Bodies.{is_mark_at, sections_of, is_filled, SplitsSection, ArePieces, HaveComments, PushesPiece, IsNoPiece, PushesComment}
use Rattle.param_grammar.proofs.BodyLemmas.{IsPiece-once}

abbrev pub no_token : Token
no_token = record { kind = Atom; span = record { at = 0; len = 0 } }

pub SplitsSection-found : (text : List ℕ) (tokens : List Token) (at : ℕ) → position (is_mark_at text 59) tokens ≡ Some at → SplitsSection text tokens (take at tokens) (drop (at + 1) tokens)
SplitsSection-found text tokens at e =
    let p : Token → Bool = is_mark_at text 59 in
    let found = position-Some p tokens at no_token e in
    let len : length (take at tokens) ≡ at = length-take-le at tokens (omega arith) in
    let whole : tokens ≡ take at tokens ++ get_or tokens at no_token ∷ drop (at + 1) tokens =
    sym (take-append-drop at tokens) ∙ ap (λ r. take at tokens ++ r) (drop_more tokens at no_token found.0) in
    let fails : All (λ t. p t ≡ false) (take at tokens) =
    All-from_get_or (λ t. p t ≡ false) (take at tokens) no_token (λ k l. rw (get_or-take at tokens k no_token (omega arith)) (found.2 k (omega arith))) in
    record {
      others = sections_of text (drop (at + 1) tokens);
      first = ap (sections_of text) whole ∙ slice_split_at p (take at tokens) (get_or tokens at no_token) (drop (at + 1) tokens) fails found.1;
      same = refl;
      shorter = λ some. omega (arith, length-drop (at + 1) tokens);
    }

pub SplitsSection-none : (text : List ℕ) (tokens : List Token) → position (is_mark_at text 59) tokens ≡ None → SplitsSection text tokens tokens []
SplitsSection-none text tokens e =
    let p : Token → Bool = is_mark_at text 59 in
    let past : length tokens ≤ position_or_len p tokens = grind (arith, common_steps) in
    record {
      others = [];
      first = slice_split_none p tokens (All-from_get_or (λ t. p t ≡ false) tokens no_token (λ k l. fails_before_first p tokens k no_token (omega arith)));
      same = refl;
      shorter = λ some. some;
    }

abbrev filled : List ℕ → List Token → List (List Token)
filled text tokens = filter is_filled (sections_of text tokens)

-- the pieces so far are those of the sections before rest
pub record ReadsPieces (text : List ℕ) (tokens : List Token) (done : List Piece) (rest : List Token) : Type 0 where
  pub onward : (ps : List Piece) → ArePieces text (filled text rest) ps → ArePieces text (filled text tokens) (done ++ ps)
  pub back : (ps : List Piece) → ArePieces text (filled text tokens) ps → (more : List Piece) × ArePieces text (filled text rest) more × (ps ≡ done ++ more)

pub ReadsPieces-none : (text : List ℕ) (tokens : List Token) (done : List Piece) → done ≡ [] → ReadsPieces text tokens done tokens
ReadsPieces-none text tokens done e = record {
  onward = λ ps are. rw e are;
  back = λ ps are. (ps, are, rw e refl);
}

blank_section : (text : List ℕ) (rest section following : List Token) → SplitsSection text rest section following → is_filled section ≡ false → filled text rest ≡ filled text following
blank_section text rest section following s none = ap (filter is_filled) s.first ∙ cond-false _ _ _ none ∙ s.same

filled_section : (text : List ℕ) (rest section following : List Token) → SplitsSection text rest section following → is_filled section ≡ true → filled text rest ≡ section ∷ filled text following
filled_section text rest section following s some = ap (filter is_filled) s.first ∙ cond-true _ _ _ some ∙ ap (λ r. section ∷ r) s.same

pub ReadsPieces-push : (text : List ℕ) (tokens rest section following : List Token) (done new : List Piece) → ReadsPieces text tokens done rest → SplitsSection text rest section following
    → PushesPiece text section done new → ReadsPieces text tokens new following
ReadsPieces-push text tokens rest section following done new r s (inl blank) =
    let same = blank_section text rest section following s blank.0 in
    let e : new ≡ done = blank.1 in
    record {
      onward = λ ps are. rw e (r.onward ps (subst (λ f. ArePieces text f ps) (sym same) are));
      back = λ ps are. let old = r.back ps are in (old.0, subst (λ f. ArePieces text f old.0) same old.1, rw e old.2);
    }
ReadsPieces-push text tokens rest section following done new r s (inr full) =
    let same = filled_section text rest section following s full.1 in
    let p : Piece = full.0 in
    let e : new ≡ done ++ p ∷ [] = full.3 in
    record {
      onward = λ ps are. rw (e, append_assoc done (p ∷ []) ps) (r.onward (p ∷ ps) (subst (λ f. ArePieces text f (p ∷ ps)) (sym same) (p, ps, full.2, are, refl)));
      back = λ ps are.
          let old = r.back ps are in
          let parts = subst (λ f. ArePieces text f old.0) same old.1 in
          let head : parts.0 ≡ p = IsPiece-once text section parts.0 p parts.2 full.2 in
          (parts.1, parts.3, rw (e, append_assoc done (p ∷ []) parts.1) (old.2 ∙ ap (λ m. done ++ m) (parts.4 ∙ ap (λ q. q ∷ parts.1) head)));
    }

pub not-ArePieces : (text : List ℕ) (tokens rest section following : List Token) (done : List Piece) → ReadsPieces text tokens done rest → SplitsSection text rest section following
    → IsNoPiece text section → (ps : List Piece) → ArePieces text (filled text tokens) ps → ⊥
not-ArePieces text tokens rest section following done r s none ps are =
    let old = r.back ps are in
    let parts = subst (λ f. ArePieces text f old.0) (filled_section text rest section following s none.0) old.1 in
    none.1 parts.0 parts.2

pub ArePieces-read : (text : List ℕ) (tokens rest : List Token) (done : List Piece) → ReadsPieces text tokens done rest → length rest ≡ 0 → ArePieces text (filled text tokens) done
ArePieces-read text tokens [] done r end = subst (ArePieces text (filled text tokens)) (append-nil done) (r.onward [] refl)
ArePieces-read text tokens (t ∷ ts) done r end = absurd (let never : ⊥ = omega (arith, end) in never)

-- comments
abbrev comments_in : List Token → List Token
comments_in tokens = filter (λ token. is_comment token.kind) tokens

-- the comments so far are those of the tokens before rest
abbrev pub ReadsComments : List ℕ → List Token → List Comment → List Token → Type 0
ReadsComments text tokens done rest =
    (trees : List Tree) → HaveComments text (comments_in rest) trees → HaveComments text (comments_in tokens) (map tree_of done ++ trees)

pub ReadsComments-push : (text : List ℕ) (tokens rest following : List Token) (token : Token) (done new : List Comment) → rest ≡ token ∷ following → ReadsComments text tokens done rest
    → PushesComment text token done new → ReadsComments text tokens new following
ReadsComments-push text tokens rest following token done new cut r (inl other) =
    let e : new ≡ done = other.1 in
    let same : comments_in rest ≡ comments_in following = ap comments_in cut ∙ cond-false _ _ _ other.0 in
    λ trees have. rw e (r trees (subst (λ f. HaveComments text f trees) (sym same) have))
ReadsComments-push text tokens rest following token done new cut r (inr is) =
    let e : new ≡ done ++ is.0 ∷ [] = is.3 in
    let same : comments_in rest ≡ token ∷ comments_in following = ap comments_in cut ∙ cond-true _ _ _ is.1 in
    λ trees have. rw (e, map-append tree_of done (is.0 ∷ []), append_assoc (map tree_of done) (tree_of is.0 ∷ []) trees)
    (r (tree_of is.0 ∷ trees) (subst (λ f. HaveComments text f (tree_of is.0 ∷ trees)) (sym same) (tree_of is.0, trees, is.2, have, refl)))

-- the comments so far, and where the tokens that are left stand
pub record CommentsGo (text : List ℕ) (tokens : List Token) (done : List Comment) (rest : List Token) : Type 0 where
  pub reads : ReadsComments text tokens done rest
  pub front : List Token
  pub whole : tokens ≡ front ++ rest

pub CommentsGo-start : (text : List ℕ) (tokens : List Token) (done : List Comment) → done ≡ [] → CommentsGo text tokens done tokens
CommentsGo-start text tokens done e = record { reads = λ trees have. rw e have; front = []; whole = refl }

pub CommentsGo-push : (text : List ℕ) (tokens rest following : List Token) (token : Token) (done new : List Comment) → rest ≡ token ∷ following → CommentsGo text tokens done rest
    → PushesComment text token done new → CommentsGo text tokens new following
CommentsGo-push text tokens rest following token done new cut go put = record {
  reads = ReadsComments-push text tokens rest following token done new cut go.reads put;
  front = go.front ++ token ∷ [];
  whole = go.whole ∙ ap (λ r. go.front ++ r) cut ∙ sym (append_assoc go.front (token ∷ []) following);
}

pub HaveComments-read : (text : List ℕ) (tokens rest : List Token) (done : List Comment) → CommentsGo text tokens done rest → rest ≡ [] → HaveComments text (comments_in tokens) (map tree_of done)
HaveComments-read text tokens rest done go end =
    subst (HaveComments text (comments_in tokens)) (append-nil (map tree_of done)) (go.reads [] (rw end refl))

pub token_among : (tokens front following : List Token) (token : Token) → tokens ≡ front ++ token ∷ following → Contains tokens token
token_among tokens front following token cut =
    (length front, let len = ap length cut in omega (arith, len, length-append front (token ∷ following)), ap (λ ts. get_or ts (length front) token) cut ∙ get_or_at front token following token (length front) refl)
