-- A text says one path at most, which is written in one way.
use Rattle.std.proofs.Common.{◌≡◌, ℕ, ◌⊎◌, inl, inr, List, [], ◌∷◌, ◌++◌, Option, Some, None, IfNone, refl, sym, ap, ◌∙◌}
use Rattle.encoded_words.specs.Folding.{lines_of, AddsLines}
use Rattle.encoded_words.proofs.LineLemmas.{adds_both}
use Rattle.field_tokens.specs.declared.Style.TheVariants.{Mail}
use Rattle.field_tokens.specs.Tokens.{TokenValue}
use Rattle.field_tokens.specs.Squeezed.{comments_of}
use Rattle.field_tokens.specs.Comments.{CommentValue, CommentsPieces}
use Rattle.field_tokens.proofs.CommentValues.{CommentsSay-once, CommentsSay-some, CommentsPieces-once, CommentsPieces-some}
use Rattle.field_tokens.proofs.DecideTokens.{decide_tokens}
use Rattle.address_grammar.specs.declared.Address.{Address}
use Rattle.address_grammar.specs.private.Lexemes.{HasMailTokens}
use Rattle.address_grammar.specs.Addresses.{address_text}
use Rattle.address_grammar.specs.Paths.{IsPath, HasPath, in_angles}
use Rattle.address_lists.specs.ListPieces.{served_address}
use Rattle.address_lists.specs.PathPieces.{SaysPath, PathPieces, ServesPath}
use Rattle.address_grammar.proofs.PathLemmas.{HasTokenValues-once, HasPath-once, IsPath-once, path_of_tokens}
use Rattle.address_lists.proofs.AddedPieces.{adds_piece}
use Rattle.address_lists.proofs.SoundPhrases.{text_comments}
use Rattle.address_grammar.proofs.DecidePaths.{decide_is_path}

-- ---- what a text says

pub record SamePath (a b : Option Address) (cs ds : List CommentValue) : Type 0 where
  pub answer : a ≡ b
  pub comments : cs ≡ ds

pub SaysPath-once : (text : List ℕ) (a b : Option Address) (cs ds : List CommentValue) → SaysPath text a cs → SaysPath text b ds → SamePath a b cs ds
SaysPath-once text a b cs ds p q =
    let same = HasTokenValues-once text p.tokens q.tokens p.has q.has in
    record { answer = IsPath-once p.tokens a b p.is_path (rw (same) q.is_path); comments = CommentsSay-once (comments_of p.tokens) cs ds p.comments_say (rw (same) q.comments_say) }

pub path_says : (text : List ℕ) (ts : List TokenValue) (answer : Option Address) → HasMailTokens text ts → IsPath ts answer → (comments : List CommentValue) × SaysPath text answer comments
path_says text ts answer has is =
    let comments = CommentsSay-some (comments_of ts) (text_comments text ts has) in
    (comments.0, record { tokens = ts; has = has; is_path = is; comments_say = comments.1 })

-- ---- its pieces

served_once : (a b s t : Address) → a ≡ b → served_address a ≡ Some s → served_address b ≡ Some t → s ≡ t
served_once a b s t same p q = let both : Some s ≡ Some t = sym p ∙ ap served_address same ∙ q in cc both

one_address : (ts : List TokenValue) (a b : Address) → IsPath ts (Some a) → IsPath ts (Some b) → a ≡ b
one_address ts a b p q = let both : Some a ≡ Some b = IsPath-once ts (Some a) (Some b) p q in cc both

pub PathPieces-once : (text : List ℕ) (pieces other : List (List ℕ)) → PathPieces text pieces → PathPieces text other → pieces ≡ other
PathPieces-once text pieces other p q =
    let same = HasTokenValues-once text p.tokens q.tokens p.has q.has in
    let address = one_address p.tokens p.address q.address p.is_path (rw (same) q.is_path) in
    let served = served_once p.address q.address p.served q.served address p.is_served q.is_served in
    let comments = CommentsPieces-once (comments_of p.tokens) p.comments q.comments p.comments_are (rw (same) q.comments_are) in
    p.pieces_are ∙ rw (served, comments) (sym q.pieces_are)

-- what has pieces says a path
pub PathPieces-says : (text : List ℕ) (pieces : List (List ℕ)) → PathPieces text pieces → (address : Address) × (comments : List CommentValue) × SaysPath text (Some address) comments
PathPieces-says text pieces p = let says = path_says text p.tokens (Some p.address) p.has p.is_path in (p.address, says.0, says.1)

-- a path whose address is served has pieces
pub PathPieces-some : (text : List ℕ) (address served : Address) (comments : List CommentValue) → SaysPath text (Some address) comments → served_address address ≡ Some served
    → (pieces : List (List ℕ)) × PathPieces text pieces
PathPieces-some text address served comments says e =
    let given = CommentsPieces-some (comments_of says.tokens) (text_comments text says.tokens says.has) in (
      in_angles (address_text served) ∷ given.0,
      record { tokens = says.tokens; has = says.has; address = address; served = served; is_path = says.is_path; is_served = e; comments = given.0; comments_are = given.1; pieces_are = refl },
    )

-- ---- whether a text says a path

-- A text says a path, or it doesn't.
pub decide_path : (text : List ℕ)
    → ((answer : Option Address) × (comments : List CommentValue) × SaysPath text answer comments) ⊎ ((answer : Option Address) (comments : List CommentValue) → ¬ SaysPath text answer comments)
decide_path text = elim (decide_tokens Mail text) [
  | inr none ↦ inr (λ answer comments says. none says.tokens says.has)
  | inl found ↦ elim (decide_is_path found.0) [
    | inr none ↦ inr (λ answer comments says. none answer (rw (HasTokenValues-once text found.0 says.tokens found.1 says.has) says.is_path))
    | inl is ↦ let says = path_says text found.0 is.0 found.1 is.1 in inl (is.0, says.0, says.1)
  ]
]

-- ---- what the code reads

-- a path of a known address is served as that is, or isn't
pub path_not_served : (text : List ℕ) (a : Address) (found : Option Address) → HasPath text (Some a) → found ≡ served_address a → IfNone found ((served : Address) → ¬ ServesPath text served)
path_not_served text a (Some served) path e = tt
path_not_served text a None path e = λ served serves.
    let same : Some a ≡ Some serves.address = HasPath-once text (Some a) (Some serves.address) path serves.has_path in
    none_served a serves.address served (cc same) e serves.is_served
  where
    none_served : (a b served : Address) → a ≡ b → None ≡ served_address a → served_address b ≡ Some served → ⊥
    none_served a b served same none some = let both : None ≡ Some served = none ∙ ap served_address same ∙ some in cc both

-- the null path isn't served
pub null_not_served : (text : List ℕ) → HasPath text None → (served : Address) → ServesPath text served → ⊥
null_not_served text path served serves =
    let both : None ≡ Some serves.address = HasPath-once text None (Some serves.address) path serves.has_path in
    cc both

pub path_adds : (text : List ℕ) (ts : List TokenValue) (served : Address) (old mid new : List ℕ) → ServesPath text served → HasMailTokens text ts → mid ≡ old ++ lines_of (in_angles (address_text served) ∷ [])
    → AddsLines (CommentsPieces (comments_of ts)) mid new → AddsLines (PathPieces text) old new
path_adds text ts served old mid new serves has e adds = adds_both
    (λ xs comments is are. record {
      tokens = ts;
      has = has;
      address = serves.address;
      served = served;
      is_path = path_of_tokens text ts (Some serves.address) has serves.has_path;
      is_served = serves.is_served;
      comments = comments;
      comments_are = are;
      pieces_are = ap (λ ps. ps ++ comments) is;
    }) (adds_piece (in_angles (address_text served)) old mid e) adds

pub not_served_no_pieces : (text : List ℕ) → ((served : Address) → ServesPath text served → ⊥) → (pieces : List (List ℕ)) → PathPieces text pieces → ⊥
not_served_no_pieces text none pieces p = none p.served (record { address = p.address; has_path = record { tokens = p.tokens; has_tokens = p.has; is_path = p.is_path }; is_served = p.is_served })
