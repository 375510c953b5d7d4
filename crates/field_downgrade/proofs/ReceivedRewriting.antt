-- What the code puts are the pieces of a Received field.
use Rattle.std.proofs.Common.{◌≡◌, ℕ, Bool, true, false, not, List, [], ◌∷◌, ◌++◌, Option, Some, None, refl, sym, ap, ◌∙◌, subst}
use Rattle.std.proofs.lemmas.Bool.{and_parts, true≢false, not-true}
use Rattle.std.proofs.lemmas.List.{append_assoc, append-nil}
use Rattle.std.specs.List.{list_all}
use Rattle.std.specs.Str.{IsUtf8}
use Rattle.mail_wire.specs.Octets.{is_ascii}
use Rattle.encoded_words.specs.Folding.{lines_of, AddsLines}
use Rattle.encoded_words.proofs.LineLemmas.{adds_none, adds_these, adds_both}
use Rattle.field_tokens.specs.declared.Style.TheVariants.{Mail}
use Rattle.field_tokens.specs.Tokens.{TokenValue, HasTokenValues}
use Rattle.field_tokens.specs.Squeezed.{octets_of, squeezed_values, comments_of}
use Rattle.field_tokens.specs.Comments.{AreWritableComments, CommentsPieces}
use Rattle.field_tokens.proofs.TokenLists.{AreTokens-once}
use Rattle.field_tokens.proofs.TokenLines.{squeezed_line}
use Rattle.field_downgrade.specs.Received.{starts_clause, is_semicolon, is_inner, ReceivedParts, semicolon, date_tokens, are_blank_tokens, AreReceivedParts, date_text, with_space_before, served_text, served_piece, ClausePieces, DatePieces, ReceivedPieces}
use Rattle.field_downgrade.specs.private.ReceivedSteps.{AreRead, EndsOrBeginsSo, CutsTokens, CutsDate, clause_at, WritesClauses}
use Rattle.field_downgrade.proofs.ReceivedDivision.{put_token, parts_of, before_parts, parts_inner, parts_start, date_parts, are_parts_of}
use Rattle.field_downgrade.proofs.ReceivedLemmas.{read_whole, read_front, read_rest, read_writable}
use Rattle.field_downgrade.proofs.ReceivedReading.{inner_all, heads}

-- ---- clauses

pub said_utf8 : (said : List ℕ) (tokens : List TokenValue) → AreRead Mail tokens → said ≡ squeezed_values tokens → IsUtf8 said
said_utf8 said tokens read e = subst IsUtf8 (sym e) (squeezed_line Mail tokens (octets_of tokens) read.are_tokens read.is_line).utf8

-- the clause as it is served, and its comments
pub clause_put : (word : TokenValue) (following : List TokenValue) (said : List ℕ) (served : Option (List ℕ)) (old mid new : List ℕ) → said ≡ squeezed_values following → served ≡ served_text word.octets said
    → mid ≡ old ++ lines_of (served_piece word.octets served) → AddsLines (CommentsPieces (comments_of following)) mid new → AddsLines (ClausePieces (clause_at word following)) old new
clause_put word following said served old mid new said_is served_is mid_is adds =
    let first : AddsLines (λ pieces. pieces ≡ served_piece word.octets served) old mid = adds_these (served_piece word.octets served) refl mid_is in
    let whole : served ≡ served_text word.octets (squeezed_values following) = served_is ∙ ap (served_text word.octets) said_is in
    adds_both (λ xs ys p q. record { comments = ys; comments_are = q; pieces_are = ap (λ r. r ++ ys) (p ∙ ap (served_piece word.octets) whole) }) first adds

-- the semicolon with the date, and its comments
pub date_put : (tokens : List TokenValue) (said old mid new : List ℕ) → said ≡ squeezed_values tokens → mid ≡ old ++ lines_of ((59 ∷ with_space_before said) ∷ []) → AddsLines (CommentsPieces (comments_of tokens)) mid new
    → AddsLines (DatePieces (Some tokens)) old new
date_put tokens said old mid new said_is mid_is adds =
    let piece : List (List ℕ) = (59 ∷ with_space_before said) ∷ [] in
    let first : AddsLines (λ pieces. pieces ≡ piece) old mid = adds_these piece refl mid_is in
    adds_both (λ xs ys p q. (ys, q, ap (λ r. r ++ ys) p ∙ ap (λ s. (59 ∷ with_space_before s) ∷ ys) said_is)) first adds

pub no_date_put : (old : List ℕ) → AddsLines (DatePieces None) old old
no_date_put old = adds_none old refl

-- ---- the parts

-- the tokens of a text, cut at the first semicolon, and what stands before that at the first word that starts a clause
pub record CutsReceived (text : List ℕ) (tokens head front clauses : List TokenValue) (date : Option (List TokenValue)) : Type 0 where
  pub has : HasTokenValues Mail text tokens
  pub head_cut : CutsDate tokens head date
  pub front_cut : CutsTokens starts_clause head front clauses

cut_whole : (text : List ℕ) (tokens head front clauses : List TokenValue) (date : Option (List TokenValue)) → CutsReceived text tokens head front clauses date → tokens ≡ front ++ (clauses ++ date_tokens date)
cut_whole text tokens head front clauses date c = c.head_cut.whole ∙ ap (λ r. r ++ date_tokens date) c.front_cut.whole ∙ append_assoc front clauses (date_tokens date)

-- the parts are those of their octets
pub record ReadCuts (front clauses : List TokenValue) (date : Option (List TokenValue)) : Type 0 where
  pub front_read : AreRead Mail front
  pub clauses_read : AreRead Mail clauses
  pub date_read : AreRead Mail (date_tokens date)

pub read_cuts : (text : List ℕ) (tokens head front clauses : List TokenValue) (date : Option (List TokenValue)) → CutsReceived text tokens head front clauses date → ReadCuts front clauses date
read_cuts text tokens head front clauses date c =
    let whole : AreRead Mail (front ++ (clauses ++ date_tokens date)) = subst (AreRead Mail) (cut_whole text tokens head front clauses date c) (read_whole Mail text tokens c.has) in
    let rest = read_rest Mail front (clauses ++ date_tokens date) whole in
    record { front_read = read_front Mail front (clauses ++ date_tokens date) whole; clauses_read = read_front Mail clauses (date_tokens date) rest; date_read = read_rest Mail clauses (date_tokens date) rest }

pub date_writable : (tokens : List TokenValue) → AreRead Mail (date_tokens (Some tokens)) → AreWritableComments (comments_of tokens)
date_writable tokens read = read_writable tokens (read_rest Mail (semicolon ∷ []) tokens read)

pub clauses_head : (text : List ℕ) (tokens head front clauses : List TokenValue) (date : Option (List TokenValue)) → CutsReceived text tokens head front clauses date → list_all (λ t. not (is_semicolon t)) clauses ≡ true
clauses_head text tokens head front clauses date c = (heads front clauses (subst (λ r. list_all (λ t. not (is_semicolon t)) r ≡ true) c.front_cut.whole c.head_cut.before)).1

put_date-same : (s : Bool) (t : TokenValue) (ts : List TokenValue) (parts : ReceivedParts) → (put_token false s t ts parts).date ≡ parts.date
put_date-same true t ts parts = refl
put_date-same false t ts parts = refl

date_after : (ts ds : List TokenValue) → list_all (λ t. not (is_semicolon t)) ts ≡ true → (parts_of (ts ++ ds)).date ≡ (parts_of ds).date
date_after [] ds lacks = refl
date_after (t ∷ ts) ds lacks =
    let parts = and_parts (not (is_semicolon t)) (list_all (λ t. not (is_semicolon t)) ts) lacks in
    rw (not-true (is_semicolon t) parts.0) (put_date-same (starts_clause t) t (ts ++ ds) (parts_of (ts ++ ds)) ∙ date_after ts ds parts.1)

-- lacks front, and the date after the semicolon
record HasNoFront (parts : ReceivedParts) (date : Option (List TokenValue)) : Type 0 where
  front : parts.front ≡ []
  date_is : parts.date ≡ date

rest_parts : (ts : List TokenValue) (date : Option (List TokenValue)) → EndsOrBeginsSo starts_clause ts → list_all (λ t. not (is_semicolon t)) ts ≡ true → HasNoFront (parts_of (ts ++ date_tokens date)) date
rest_parts [] date starts lacks = record { front = ap (λ (r : ReceivedParts). r.front) (date_parts date); date_is = ap (λ (r : ReceivedParts). r.date) (date_parts date) }
rest_parts (t ∷ ts) date starts lacks = record {
  front = ap (λ (r : ReceivedParts). r.front) (parts_start t (ts ++ date_tokens date) starts);
  date_is = date_after (t ∷ ts) (date_tokens date) lacks ∙ ap (λ (r : ReceivedParts). r.date) (date_parts date);
}

-- what the parts of the text are
record HasFrontAndDate (tokens front : List TokenValue) (date : Option (List TokenValue)) : Type 0 where
  front_is : (parts_of tokens).front ≡ front
  date_is : (parts_of tokens).date ≡ date

cut_parts : (text : List ℕ) (tokens head front clauses : List TokenValue) (date : Option (List TokenValue)) → CutsReceived text tokens head front clauses date → HasFrontAndDate tokens front date
cut_parts text tokens head front clauses date c =
    let rest : List TokenValue = clauses ++ date_tokens date in
    let lack = heads front clauses (subst (λ r. list_all (λ t. not (is_semicolon t)) r ≡ true) c.front_cut.whole c.head_cut.before) in
    let inner : list_all is_inner front ≡ true = inner_all front c.front_cut.before lack.0 in
    let following = rest_parts clauses date c.front_cut.begins lack.1 in
    let divided : parts_of tokens ≡ before_parts front (parts_of rest) = ap parts_of (cut_whole text tokens head front clauses date c) ∙ parts_inner front rest inner in
    record {
      front_is = ap (λ (r : ReceivedParts). r.front) divided ∙ ap (λ r. front ++ r) following.front ∙ append-nil front;
      date_is = ap (λ (r : ReceivedParts). r.date) divided ∙ following.date_is;
    }

-- ---- texts that are none

same_parts : (text : List ℕ) (tokens : List TokenValue) (pieces : List (List ℕ)) → HasTokenValues Mail text tokens → (p : ReceivedPieces text pieces) → parts_of tokens ≡ p.parts
same_parts text tokens pieces has p =
    let same : p.tokens ≡ tokens = AreTokens-once Mail text p.tokens tokens p.is_received.has.are_tokens has.are_tokens in
    are_parts_of tokens p.parts (subst (λ r. AreReceivedParts r p.parts) same p.is_received.are_parts)

pub no_received_tokens : (text : List ℕ) → ((tokens : List TokenValue) → ¬ HasTokenValues Mail text tokens) → (pieces : List (List ℕ)) → ¬ ReceivedPieces text pieces
no_received_tokens text none pieces p = none p.tokens p.is_received.has

pub front_not_blank : (text : List ℕ) (tokens head front clauses : List TokenValue) (date : Option (List TokenValue)) → CutsReceived text tokens head front clauses date → are_blank_tokens front ≡ false
    → (pieces : List (List ℕ)) → ¬ ReceivedPieces text pieces
front_not_blank text tokens head front clauses date c word pieces p =
    let parts = cut_parts text tokens head front clauses date c in
    let front_is : p.parts.front ≡ front = sym (ap (λ (r : ReceivedParts). r.front) (same_parts text tokens pieces c.has p)) ∙ parts.front_is in
    true≢false (sym p.is_received.are_parts.blank ∙ ap are_blank_tokens front_is ∙ word)

pub date_not_ascii : (text said : List ℕ) (tokens head front clauses : List TokenValue) (date : Option (List TokenValue)) → CutsReceived text tokens head front clauses date → said ≡ date_text date → list_all is_ascii said ≡ false
    → (pieces : List (List ℕ)) → ¬ ReceivedPieces text pieces
date_not_ascii text said tokens head front clauses date c said_is high pieces p =
    let parts = cut_parts text tokens head front clauses date c in
    let date_is : p.parts.date ≡ date = sym (ap (λ (r : ReceivedParts). r.date) (same_parts text tokens pieces c.has p)) ∙ parts.date_is in
    true≢false (sym p.is_received.ascii ∙ ap (λ r. list_all is_ascii (date_text r)) date_is ∙ ap (list_all is_ascii) (sym said_is) ∙ high)

-- ---- the pieces

abbrev BothPieces : List TokenValue → List TokenValue → List (List ℕ) → Type 0
BothPieces front clauses pieces = (first more : List (List ℕ)) × (pieces ≡ first ++ more) × CommentsPieces (comments_of front) first × WritesClauses clauses more

pub pieces_put : (text said : List ℕ) (tokens head front clauses : List TokenValue) (date : Option (List TokenValue)) (old first second new : List ℕ) → CutsReceived text tokens head front clauses date
    → are_blank_tokens front ≡ true → said ≡ date_text date → list_all is_ascii said ≡ true → AddsLines (CommentsPieces (comments_of front)) old first → AddsLines (WritesClauses clauses) first second
    → AddsLines (DatePieces date) second new → AddsLines (ReceivedPieces text) old new
pieces_put text said tokens head front clauses date old first second new c blank said_is ascii a b d =
    let both : AddsLines (BothPieces front clauses) old second = adds_both (λ xs ys p q. (xs, ys, refl, p, q)) a b in
    adds_both (λ xs ys p q.
    let written = p.4 in
    let parts : ReceivedParts = record { front = front; clauses = written.clauses; date = date } in
    record {
      tokens = tokens;
      parts = parts;
      is_received = record {
        has = c.has;
        are_parts = record { whole = cut_whole text tokens head front clauses date c ∙ ap (λ r. front ++ (r ++ date_tokens date)) written.whole; blank = blank; are_clauses = written.are_clauses };
        ascii = ap (list_all is_ascii) (sym said_is) ∙ ascii;
      };
      parts_pieces = record {
        front = p.0;
        clauses = p.1;
        date = ys;
        front_are = p.3;
        clauses_are = written.pieces_are;
        date_are = q;
        pieces_are = ap (λ r. r ++ ys) p.2 ∙ append_assoc p.0 p.1 ys;
      };
    }) both d
