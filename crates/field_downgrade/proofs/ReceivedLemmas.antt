-- What a Received field says is one, and so are its pieces.
use Rattle.std.proofs.Common.{◌≡◌, ℕ, ◌⊎◌, inl, inr, List, [], ◌∷◌, ◌++◌, map, Option, Some, None, refl, sym, ap, ◌∙◌, subst}
use Rattle.std.proofs.lemmas.Bool.{cases_Bool, true≢false}
use Rattle.std.specs.List.{list_all, flat_map}
use Rattle.mail_wire.specs.Octets.{is_ascii}
use Rattle.address_lists.proofs.PlaceTokens.{tokens_front, tokens_rest, lines_front, lines_rest}
use Rattle.field_tokens.specs.declared.Style.{Style}
use Rattle.field_tokens.specs.declared.Style.TheVariants.{Mail}
use Rattle.field_tokens.specs.Tokens.{TokenValue, AreTokens, HasTokenValues}
use Rattle.field_tokens.specs.Squeezed.{octets_of, squeezed_values, comments_of}
use Rattle.field_tokens.specs.Comments.{CommentValue, CommentsSay, AreWritableComments}
use Rattle.field_tokens.proofs.TokenLists.{AreTokens-once}
use Rattle.field_tokens.proofs.Parts.{octets_of-tokens}
use Rattle.field_tokens.proofs.TokenLines.{tokens_lines, comments_are_writable, run_line}
use Rattle.field_tokens.proofs.CommentValues.{CommentsSay-once, CommentsSay-some, CommentsPieces-once, CommentsPieces-some}
use Rattle.field_tokens.proofs.DecideTokens.{decide_tokens}
use Rattle.field_downgrade.specs.Received.{ClauseTokens, clause_tokens, ReceivedParts, date_tokens, are_blank_tokens, semicolon, AreReceivedParts, date_text, IsReceived, Clause, clause_of, date_of, SaysReceived, served_text, served_piece, with_space_before, ClausePieces, ClausesPieces, DatePieces, PartsPieces, ReceivedPieces}
use Rattle.field_downgrade.specs.private.ReceivedSteps.{AreRead}
use Rattle.field_downgrade.proofs.ReceivedDivision.{parts_of, parts_are, are_parts_of, AreReceivedParts-once}

-- ---- tokens that stand beside each other

pub read_whole : (style : Style) (text : List ℕ) (ts : List TokenValue) → HasTokenValues style text ts → AreRead style ts
read_whole style text ts has = subst (λ r. HasTokenValues style r ts) (sym (octets_of-tokens style ts text has.are_tokens)) has

pub read_front : (style : Style) (a b : List TokenValue) → AreRead style (a ++ b) → AreRead style a
read_front style a b has = record {
  is_line = run_line a (lines_front a b (tokens_lines style (a ++ b) (octets_of (a ++ b)) has.are_tokens has.is_line));
  are_tokens = tokens_front style a b (octets_of (a ++ b)) has.are_tokens;
}

pub read_rest : (style : Style) (a b : List TokenValue) → AreRead style (a ++ b) → AreRead style b
read_rest style a b has =
    let rest = tokens_rest style a b (octets_of (a ++ b)) has.are_tokens in
    record {
      is_line = run_line b (lines_rest a b (tokens_lines style (a ++ b) (octets_of (a ++ b)) has.are_tokens has.is_line));
      are_tokens = subst (AreTokens style b) (sym (octets_of-tokens style b rest.0 rest.1)) rest.1;
    }

pub read_writable : (ts : List TokenValue) → AreRead Mail ts → AreWritableComments (comments_of ts)
read_writable ts has = comments_are_writable Mail ts (octets_of ts) has.are_tokens has.is_line

-- the tokens of the clauses and of the date
pub record ReadParts (parts : ReceivedParts) : Type 0 where
  pub front : AreRead Mail parts.front
  pub clauses : AreRead Mail (flat_map clause_tokens parts.clauses)
  pub date : AreRead Mail (date_tokens parts.date)

pub read_parts : (text : List ℕ) (tokens : List TokenValue) (parts : ReceivedParts) → IsReceived text tokens parts → ReadParts parts
read_parts text tokens parts is =
    let clauses : List TokenValue = flat_map clause_tokens parts.clauses in
    let following : List TokenValue = clauses ++ date_tokens parts.date in
    let whole : AreRead Mail (parts.front ++ following) = subst (AreRead Mail) is.are_parts.whole (read_whole Mail text tokens is.has) in
    let rest : AreRead Mail following = read_rest Mail parts.front following whole in
    record { front = read_front Mail parts.front following whole; clauses = read_front Mail clauses (date_tokens parts.date) rest; date = read_rest Mail clauses (date_tokens parts.date) rest }

-- ---- one value

pub record AreSame (ts us : List TokenValue) (parts others : ReceivedParts) : Type 0 where
  pub tokens : ts ≡ us
  pub parts_are : parts ≡ others

pub IsReceived-once : (text : List ℕ) (ts us : List TokenValue) (parts others : ReceivedParts) → IsReceived text ts parts → IsReceived text us others → AreSame ts us parts others
IsReceived-once text ts us parts others p q =
    let same : ts ≡ us = AreTokens-once Mail text ts us p.has.are_tokens q.has.are_tokens in
    record { tokens = same; parts_are = AreReceivedParts-once us parts others (subst (λ r. AreReceivedParts r parts) same p.are_parts) q.are_parts }

pub SaysReceived-once : (text : List ℕ) (clauses clauses2 : List Clause) (date date2 : Option (List ℕ)) (comments comments2 : List CommentValue) → SaysReceived text clauses date comments
    → SaysReceived text clauses2 date2 comments2 → (clauses ≡ clauses2) × (date ≡ date2) × (comments ≡ comments2)
SaysReceived-once text clauses clauses2 date date2 comments comments2 p q =
    let same = IsReceived-once text p.tokens q.tokens p.parts q.parts p.is_received q.is_received in (
      p.clauses_are ∙ ap (λ (parts : ReceivedParts). map clause_of parts.clauses) same.parts_are ∙ sym q.clauses_are,
      p.date_is ∙ ap (λ (parts : ReceivedParts). date_of parts.date) same.parts_are ∙ sym q.date_is,
      CommentsSay-once (comments_of q.tokens) comments comments2 (subst (λ ts. CommentsSay (comments_of ts) comments) same.tokens p.comments_say) q.comments_say,
    )

ClausePieces-once : (c : ClauseTokens) (ps qs : List (List ℕ)) → ClausePieces c ps → ClausePieces c qs → ps ≡ qs
ClausePieces-once c ps qs p q =
    p.pieces_are ∙ ap (λ r. served_piece c.word.octets (served_text c.word.octets (squeezed_values c.following)) ++ r) (CommentsPieces-once (comments_of c.following) p.comments q.comments p.comments_are q.comments_are)
    ∙ sym q.pieces_are

ClausesPieces-once : (cs : List ClauseTokens) (ps qs : List (List ℕ)) → ClausesPieces cs ps → ClausesPieces cs qs → ps ≡ qs
ClausesPieces-once [] ps qs p q = p ∙ sym q
ClausesPieces-once (c ∷ cs) ps qs p q =
    p.2 ∙ ap (λ r. r ++ p.1) (ClausePieces-once c p.0 q.0 p.3 q.3) ∙ ap (λ r. q.0 ++ r) (ClausesPieces-once cs p.1 q.1 p.4 q.4) ∙ sym q.2

DatePieces-once : (date : Option (List TokenValue)) (ps qs : List (List ℕ)) → DatePieces date ps → DatePieces date qs → ps ≡ qs
DatePieces-once None ps qs p q = p ∙ sym q
DatePieces-once (Some ts) ps qs p q = p.2 ∙ ap (λ r. (59 ∷ with_space_before (squeezed_values ts)) ∷ r) (CommentsPieces-once (comments_of ts) p.0 q.0 p.1 q.1) ∙ sym q.2

PartsPieces-once : (parts : ReceivedParts) (ps qs : List (List ℕ)) → PartsPieces parts ps → PartsPieces parts qs → ps ≡ qs
PartsPieces-once parts ps qs p q =
    p.pieces_are ∙ ap (λ r. r ++ (p.clauses ++ p.date)) (CommentsPieces-once (comments_of parts.front) p.front q.front p.front_are q.front_are)
    ∙ ap (λ r. q.front ++ (r ++ p.date)) (ClausesPieces-once parts.clauses p.clauses q.clauses p.clauses_are q.clauses_are)
    ∙ ap (λ r. q.front ++ (q.clauses ++ r)) (DatePieces-once parts.date p.date q.date p.date_are q.date_are) ∙ sym q.pieces_are

pub ReceivedPieces-once : (text : List ℕ) (pieces others : List (List ℕ)) → ReceivedPieces text pieces → ReceivedPieces text others → pieces ≡ others
ReceivedPieces-once text pieces others p q =
    let same = IsReceived-once text p.tokens q.tokens p.parts q.parts p.is_received q.is_received in
    PartsPieces-once q.parts pieces others (subst (λ parts. PartsPieces parts pieces) same.parts_are p.parts_pieces) q.parts_pieces

-- ---- a Received field says something, and has pieces

abbrev pub SaysSomeReceived : List ℕ → Type 0
SaysSomeReceived text = (clauses : List Clause) × (date : Option (List ℕ)) × (comments : List CommentValue) × SaysReceived text clauses date comments

pub received_says : (text : List ℕ) (tokens : List TokenValue) (parts : ReceivedParts) → IsReceived text tokens parts → SaysSomeReceived text
received_says text tokens parts is =
    let values = CommentsSay-some (comments_of tokens) (comments_are_writable Mail tokens text is.has.are_tokens is.has.is_line) in
    (map clause_of parts.clauses, date_of parts.date, values.0, record { tokens = tokens; parts = parts; is_received = is; clauses_are = refl; date_is = refl; comments_say = values.1 })

pub ReceivedPieces-says : (text : List ℕ) (pieces : List (List ℕ)) → ReceivedPieces text pieces → SaysSomeReceived text
ReceivedPieces-says text pieces p = received_says text p.tokens p.parts p.is_received

ClausePieces-some : (c : ClauseTokens) → AreRead Mail (clause_tokens c) → (pieces : List (List ℕ)) × ClausePieces c pieces
ClausePieces-some c read =
    let comments = CommentsPieces-some (comments_of c.following) (read_writable c.following (read_rest Mail (c.word ∷ []) c.following read)) in
    (served_piece c.word.octets (served_text c.word.octets (squeezed_values c.following)) ++ comments.0, record { comments = comments.0; comments_are = comments.1; pieces_are = refl })

ClausesPieces-some : (cs : List ClauseTokens) → AreRead Mail (flat_map clause_tokens cs) → (pieces : List (List ℕ)) × ClausesPieces cs pieces
ClausesPieces-some [] read = ([], refl)
ClausesPieces-some (c ∷ cs) read =
    let first = ClausePieces-some c (read_front Mail (clause_tokens c) (flat_map clause_tokens cs) read) in
    let more = ClausesPieces-some cs (read_rest Mail (clause_tokens c) (flat_map clause_tokens cs) read) in
    (first.0 ++ more.0, (first.0, more.0, refl, first.1, more.1))

DatePieces-some : (date : Option (List TokenValue)) → AreRead Mail (date_tokens date) → (pieces : List (List ℕ)) × DatePieces date pieces
DatePieces-some None read = ([], refl)
DatePieces-some (Some ts) read =
    let comments = CommentsPieces-some (comments_of ts) (read_writable ts (read_rest Mail (semicolon ∷ []) ts read)) in
    ((59 ∷ with_space_before (squeezed_values ts)) ∷ comments.0, (comments.0, comments.1, refl))

pub received_pieces : (text : List ℕ) (tokens : List TokenValue) (parts : ReceivedParts) → IsReceived text tokens parts → (pieces : List (List ℕ)) × ReceivedPieces text pieces
received_pieces text tokens parts is =
    let read = read_parts text tokens parts is in
    let front = CommentsPieces-some (comments_of parts.front) (read_writable parts.front read.front) in
    let clauses = ClausesPieces-some parts.clauses read.clauses in
    let date = DatePieces-some parts.date read.date in (
      front.0 ++ (clauses.0 ++ date.0),
      record {
        tokens = tokens;
        parts = parts;
        is_received = is;
        parts_pieces = record { front = front.0; clauses = clauses.0; date = date.0; front_are = front.1; clauses_are = clauses.1; date_are = date.1; pieces_are = refl };
      },
    )

pub ReceivedPieces-some : (text : List ℕ) (clauses : List Clause) (date : Option (List ℕ)) (comments : List CommentValue) → SaysReceived text clauses date comments
    → (pieces : List (List ℕ)) × ReceivedPieces text pieces
ReceivedPieces-some text clauses date comments says = received_pieces text says.tokens says.parts says.is_received

-- ---- whether a text is one

abbrev pub SaysNoReceived : List ℕ → Type 0
SaysNoReceived text = (clauses : List Clause) (date : Option (List ℕ)) (comments : List CommentValue) → ¬ SaysReceived text clauses date comments

decide_with : (text : List ℕ) (tokens : List TokenValue) → HasTokenValues Mail text tokens → SaysSomeReceived text ⊎ SaysNoReceived text
decide_with text tokens has =
    let parts : ReceivedParts = parts_of tokens in
    let same : ((ts : List TokenValue) (others : ReceivedParts) → IsReceived text ts others → parts ≡ others)
    = λ ts others is. are_parts_of tokens others (subst (λ r. AreReceivedParts r others) (AreTokens-once Mail text ts tokens is.has.are_tokens has.are_tokens) is.are_parts) in
    elim (cases_Bool (are_blank_tokens parts.front)) [
      | inr word ↦ inr (λ clauses date comments says.
          true≢false (sym says.is_received.are_parts.blank ∙ sym (ap (λ (r : ReceivedParts). are_blank_tokens r.front) (same says.tokens says.parts says.is_received)) ∙ word))
      | inl blank ↦ elim (cases_Bool (list_all is_ascii (date_text parts.date))) [
        | inr high ↦ inr (λ clauses date comments says.
            true≢false (sym says.is_received.ascii ∙ sym (ap (λ (r : ReceivedParts). list_all is_ascii (date_text r.date)) (same says.tokens says.parts says.is_received)) ∙ high))
        | inl ascii ↦ inl (received_says text tokens parts (record { has = has; are_parts = parts_are tokens blank; ascii = ascii }))
      ]
    ]

pub decide_received : (text : List ℕ) → SaysSomeReceived text ⊎ SaysNoReceived text
decide_received text = elim (decide_tokens Mail text) [
  | inr none ↦ inr (λ clauses date comments says. none says.tokens says.is_received.has)
  | inl found ↦ decide_with text found.0 found.1
]
