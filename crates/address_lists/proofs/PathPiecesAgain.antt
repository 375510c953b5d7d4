-- What the pieces of a path read as.
use Rattle.std.proofs.Common.{◌≡◌, ℕ, true, List, [], ◌∷◌, ◌++◌, Some, refl, sym, ap, ◌∙◌, subst}
use Rattle.std.proofs.lemmas.List.{append_assoc}
use Rattle.std.specs.List.{AllByRecursion, join_with_byte}
use Rattle.field_tokens.specs.declared.Style.TheVariants.{Mail}
use Rattle.field_tokens.specs.Tokens.{TokenValue}
use Rattle.field_tokens.specs.Squeezed.{comments_of}
use Rattle.field_tokens.specs.Comments.{CommentValue, CommentsSay, CommentsPieces}
use Rattle.field_tokens.proofs.Parts.{AreTokens-begin, AreTokens-end, comments_of-append}
use Rattle.field_tokens.proofs.TokenLines.{joined_line}
use Rattle.field_tokens.proofs.PieceLemmas.{pieces_lines}
use Rattle.address_grammar.specs.declared.Address.{Address}
use Rattle.address_grammar.specs.private.Lexemes.{HasMailTokens, are_blank}
use Rattle.address_grammar.specs.Addresses.{address_text}
use Rattle.address_grammar.specs.Paths.{IsPath, in_angles}
use Rattle.address_lists.specs.ListPieces.{served_address}
use Rattle.address_lists.specs.PathPieces.{SaysPath, PathPieces, IsPathAgain}
use Rattle.address_grammar.proofs.PathLemmas.{HasTokenValues-once, IsPath-once}
use Rattle.address_grammar.proofs.SoundLemmas.{IsSound, tokens_sound, sound_front, sound_rest}
use Rattle.address_grammar.proofs.WritingLemmas.{mark}
use Rattle.address_lists.proofs.ServedLemmas.{WritesAddress, address_served}
use Rattle.address_lists.proofs.MadeTokens.{AreMade, text_line_comments, comments_after}
use Rattle.address_lists.proofs.MailboxesAgain.{bracketed, made_angles, brackets_no_comments}

-- the tokens of the address as it is served
path_writes : (text : List ℕ) (ts : List TokenValue) (a served : Address) → HasMailTokens text ts → IsPath ts (Some a) → served_address a ≡ Some served → WritesAddress served
path_writes text ts a served has is e =
    let angled = is.angled in
    let sound : AllByRecursion IsSound (is.before ++ angled.open_mark ∷ (is.inner ++ angled.close_mark ∷ angled.after)) = rw (angled.whole) at (tokens_sound ts text has.are_tokens has.is_line) in
    let following = (sound_rest is.before (angled.open_mark ∷ (is.inner ++ angled.close_mark ∷ angled.after)) sound).1 in
    address_served is.inner a served (sound_front is.inner (angled.close_mark ∷ angled.after) following) is.holds e

-- brackets, and comments after them
brackets_path : (served : Address) (w : WritesAddress served) (following : List TokenValue) → are_blank following ≡ true → IsPath (bracketed w.tokens ++ following) (Some served)
brackets_path served w following blank = record {
  before = [];
  inner = w.tokens;
  angled = record {
    open_mark = mark 60;
    close_mark = mark 62;
    after = following;
    whole = ap (λ r. mark 60 ∷ r) (append_assoc w.tokens (mark 62 ∷ []) following);
    opens = refl;
    closes = refl;
    following = blank;
  };
  nothing_before = refl;
  holds = w.is_address;
}

made_path : (served : Address) (ts : List TokenValue) (values : List CommentValue) (pieces : List (List ℕ)) → IsPath ts (Some served) → CommentsSay (comments_of ts) values → AreMade ts pieces
    → SaysPath (join_with_byte 32 pieces) (Some served) values
made_path served ts values pieces is say made = record {
  tokens = ts;
  has = record { is_line = joined_line pieces (pieces_lines pieces made.each); are_tokens = made.are_tokens };
  is_path = is;
  comments_say = say;
}

again : (a served : Address) (ts : List TokenValue) (values : List CommentValue) (pieces : List (List ℕ)) → served_address a ≡ Some served → IsPath ts (Some served) → CommentsSay (comments_of ts) values → AreMade ts pieces
    → IsPathAgain a values pieces
again a served ts values pieces e is say made = record {
  served = served;
  is_served = e;
  says = made_path served ts values pieces is say made;
  begins = AreTokens-begin Mail ts (join_with_byte 32 pieces) made.are_tokens made.begins;
  ends = AreTokens-end Mail ts (join_with_byte 32 pieces) made.are_tokens made.ends;
  are_pieces = made.each;
  some = made.some;
}

tokens_again : (text : List ℕ) (ts : List TokenValue) (a served : Address) (values : List CommentValue) (comments : List (List ℕ)) → HasMailTokens text ts → IsPath ts (Some a) → served_address a ≡ Some served
    → CommentsSay (comments_of ts) values → CommentsPieces (comments_of ts) comments → IsPathAgain a values (in_angles (address_text served) ∷ comments)
tokens_again text ts a served values comments has is e say are =
    let w = path_writes text ts a served has is e in
    let b = comments_after (comments_of ts) values comments (text_line_comments text ts has) say are in
    let comments_are : comments_of (bracketed w.tokens ++ b.tokens) ≡ comments_of b.tokens
    = comments_of-append (bracketed w.tokens) b.tokens ∙ ap (λ r. r ++ comments_of b.tokens) (brackets_no_comments served w) in
    again a served (bracketed w.tokens ++ b.tokens) values (in_angles (address_text served) ∷ comments) e (brackets_path served w b.tokens b.blank)
    (subst (λ r. CommentsSay r values) (sym comments_are) b.say) (b.onto (bracketed w.tokens) (in_angles (address_text served) ∷ []) (made_angles served w))

-- the pieces of a path are the path of the address as it is served, with the same comments
pub PathPieces-read : (text : List ℕ) (pieces : List (List ℕ)) (address : Address) (comments : List CommentValue) → PathPieces text pieces → SaysPath text (Some address) comments → IsPathAgain address comments pieces
PathPieces-read text pieces address comments p says =
    let same = HasTokenValues-once text p.tokens says.tokens p.has says.has in
    let is : IsPath p.tokens (Some address) = rw (same) says.is_path in
    let say : CommentsSay (comments_of p.tokens) comments = rw (same) says.comments_say in
    let both : Some p.address ≡ Some address = IsPath-once p.tokens (Some p.address) (Some address) p.is_path is in
    let one : p.address ≡ address = cc both in
    rw (← one, p.pieces_are) (tokens_again text p.tokens p.address p.served comments p.comments p.has p.is_path p.is_served say p.comments_are)
