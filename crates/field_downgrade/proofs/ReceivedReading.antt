-- What the reader of Received fields finds.
use Rattle.std.proofs.Common.{◌≡◌, ℕ, Bool, true, false, not, List, [], ◌∷◌, ◌++◌, Some, None, refl, sym, ap, ◌∙◌, subst}
use Rattle.std.proofs.lemmas.Bool.{and_parts, and_from}
use Rattle.std.proofs.lemmas.List.{append_assoc, append-nil}
use Rattle.std.proofs.lemmas.List.Folds.{list_all-append}
use Rattle.std.specs.List.{list_all}
use Rattle.mail_wire.proofs.AllLemmas.{pass-append}
use Rattle.encoded_words.specs.Folding.{AddsLines}
use Rattle.encoded_words.proofs.LineLemmas.{adds_none, adds_both}
use Rattle.field_tokens.specs.declared.Style.TheVariants.{Mail}
use Rattle.field_tokens.specs.Tokens.{TokenValue}
use Rattle.field_downgrade.specs.Received.{starts_clause, is_semicolon, is_inner, ClausePieces}
use Rattle.field_downgrade.specs.private.ReceivedSteps.{AreRead, EndsOrBeginsSo, CutsTokens, CutsDate, clause_at, WritesClauses}
use Rattle.field_downgrade.proofs.ReceivedDivision.{is_semicolon-is}
use Rattle.field_downgrade.proofs.ReceivedLemmas.{read_front, read_rest}

-- ---- the first token that passes

-- none of those before what is left passes
pub record PassesNone (p : TokenValue → Bool) (tokens rest : List TokenValue) : Type 0 where
  pub front : List TokenValue
  pub whole : tokens ≡ front ++ rest
  pub before : list_all (λ t. not (p t)) front ≡ true

pub PassesNone-start : (p : TokenValue → Bool) (tokens : List TokenValue) → PassesNone p tokens tokens
PassesNone-start p tokens = record { front = []; whole = refl; before = refl }

pub PassesNone-turn : (p : TokenValue → Bool) (tokens : List TokenValue) (t : TokenValue) (rest : List TokenValue) → PassesNone p tokens (t ∷ rest) → p t ≡ false → PassesNone p tokens rest
PassesNone-turn p tokens t rest l other = record {
  front = l.front ++ t ∷ [];
  whole = l.whole ∙ sym (append_assoc l.front (t ∷ []) rest);
  before = pass-append (λ v. not (p v)) l.front (t ∷ []) l.before (rw (other) refl);
}

cuts_with : (p : TokenValue → Bool) (tokens rest found : List TokenValue) (l : PassesNone p tokens rest) → ((front : List TokenValue) → tokens ≡ front ++ rest → found ≡ front) → EndsOrBeginsSo p rest
    → CutsTokens p tokens found rest
cuts_with p tokens rest found l front_is begins =
    let same : found ≡ l.front = front_is l.front l.whole in record { whole = rw (same) l.whole; before = rw (same) l.before; begins = begins }

pub cuts_at : (p : TokenValue → Bool) (tokens : List TokenValue) (t : TokenValue) (following rest found : List TokenValue) → rest ≡ t ∷ following → PassesNone p tokens rest
    → ((front : List TokenValue) → tokens ≡ front ++ rest → found ≡ front) → p t ≡ true → CutsTokens p tokens found rest
cuts_at p tokens t following rest found rest_is l front_is passes = cuts_with p tokens rest found l front_is (subst (EndsOrBeginsSo p) (sym rest_is) passes)

pub cuts_end : (p : TokenValue → Bool) (tokens rest found : List TokenValue) → rest ≡ [] → PassesNone p tokens rest → ((front : List TokenValue) → tokens ≡ front ++ rest → found ≡ front) → CutsTokens p tokens found rest
cuts_end p tokens rest found rest_is l front_is = cuts_with p tokens rest found l front_is (subst (EndsOrBeginsSo p) (sym rest_is) tt)

-- ---- the date

pub date_cut : (tokens before after : List TokenValue) (at : TokenValue) → tokens ≡ before ++ at ∷ after → is_semicolon at ≡ true → list_all (λ t. not (is_semicolon t)) before ≡ true → CutsDate tokens before (Some after)
date_cut tokens before after at whole is first = record { whole = whole ∙ ap (λ t. before ++ t ∷ after) (is_semicolon-is at is); before = first }

pub no_date : (tokens : List TokenValue) → list_all (λ t. not (is_semicolon t)) tokens ≡ true → CutsDate tokens tokens None
no_date tokens first = record { whole = sym (append-nil tokens); before = first }

-- ---- clauses

pub inner_all : (ts : List TokenValue) → list_all (λ t. not (starts_clause t)) ts ≡ true → list_all (λ t. not (is_semicolon t)) ts ≡ true → list_all is_inner ts ≡ true
inner_all [] a b = refl
inner_all (t ∷ ts) a b =
    let p = and_parts (not (starts_clause t)) (list_all (λ t. not (starts_clause t)) ts) a in
    let q = and_parts (not (is_semicolon t)) (list_all (λ t. not (is_semicolon t)) ts) b in
    and_from (is_inner t) (list_all is_inner ts) (and_from (not (starts_clause t)) (not (is_semicolon t)) p.0 q.0) (inner_all ts p.1 q.1)

pub heads : (a b : List TokenValue) → list_all (λ t. not (is_semicolon t)) (a ++ b) ≡ true
    → (list_all (λ t. not (is_semicolon t)) a ≡ true) × (list_all (λ t. not (is_semicolon t)) b ≡ true)
heads a b h = let q : TokenValue → Bool = λ t. not (is_semicolon t) in and_parts (list_all q a) (list_all q b) (sym (list_all-append q a b) ∙ h)

-- with the pieces that were put, those of the clauses that are left are those of all clauses
pub record WalksClauses (tokens rest : List TokenValue) (old made : List ℕ) : Type 0 where
  pub read : AreRead Mail rest
  pub begins : EndsOrBeginsSo starts_clause rest
  pub head : list_all (λ t. not (is_semicolon t)) rest ≡ true
  pub complete : (new : List ℕ) → AddsLines (WritesClauses rest) made new → AddsLines (WritesClauses tokens) old new

pub WalksClauses-start : (tokens : List TokenValue) (old : List ℕ) → AreRead Mail tokens → EndsOrBeginsSo starts_clause tokens → list_all (λ t. not (is_semicolon t)) tokens ≡ true → WalksClauses tokens tokens old old
WalksClauses-start tokens old read begins head = record { read = read; begins = begins; head = head; complete = λ new adds. adds }

-- what the turn of a clause finds
pub record ClauseTurn (tokens : List TokenValue) (word : TokenValue) (following after : List TokenValue) (old made : List ℕ) : Type 0 where
  pub read : AreRead Mail following
  pub next : (new : List ℕ) → AddsLines (ClausePieces (clause_at word following)) made new → WalksClauses tokens after old new

more_clauses : (word : TokenValue) (following after : List TokenValue) → starts_clause word ≡ true → list_all is_inner following ≡ true → (xs ys : List (List ℕ)) → ClausePieces (clause_at word following) xs → WritesClauses after ys
    → WritesClauses (word ∷ (following ++ after)) (xs ++ ys)
more_clauses word following after starts inner xs ys p q = record {
  clauses = clause_at word following ∷ q.clauses;
  whole = ap (λ r. word ∷ (following ++ r)) q.whole;
  are_clauses = (record { starts = starts; inner = inner }, q.are_clauses);
  pieces_are = (xs, ys, refl, p, q.pieces_are);
}

pub clause_turn : (tokens rest : List TokenValue) (word : TokenValue) (others following after : List TokenValue) (old made : List ℕ) → rest ≡ word ∷ others → WalksClauses tokens rest old made
    → CutsTokens starts_clause others following after → ClauseTurn tokens word following after old made
clause_turn tokens rest word others following after old made rest_is w cut =
    let whole : rest ≡ word ∷ (following ++ after) = rest_is ∙ ap (λ r. word ∷ r) cut.whole in
    let read : AreRead Mail (following ++ after) = read_rest Mail (word ∷ []) (following ++ after) (subst (AreRead Mail) whole w.read) in
    let starts : starts_clause word ≡ true = subst (EndsOrBeginsSo starts_clause) whole w.begins in
    let no_end : list_all (λ t. not (is_semicolon t)) (word ∷ (following ++ after)) ≡ true = subst (λ ts. list_all (λ t. not (is_semicolon t)) ts ≡ true) whole w.head in
    let head = heads following after (and_parts (not (is_semicolon word)) (list_all (λ t. not (is_semicolon t)) (following ++ after)) no_end).1 in
    let inner : list_all is_inner following ≡ true = inner_all following cut.before head.0 in
    record {
      read = read_front Mail following after read;
      next = λ new adds. record {
        read = read_rest Mail following after read;
        begins = cut.begins;
        head = head.1;
        complete = λ later more.
            let both : AddsLines (WritesClauses (word ∷ (following ++ after))) made later = adds_both (more_clauses word following after starts inner) adds more in
            w.complete later (subst (λ ts. AddsLines (WritesClauses ts) made later) (sym whole) both);
      };
    }

pub WalksClauses-end : (tokens rest : List TokenValue) (old made : List ℕ) → WalksClauses tokens rest old made → rest ≡ [] → AddsLines (WritesClauses tokens) old made
WalksClauses-end tokens rest old made w end =
    let none : WritesClauses rest [] = subst (λ ts. WritesClauses ts []) (sym end) (record { clauses = []; whole = refl; are_clauses = tt; pieces_are = refl }) in
    w.complete made (adds_none made none)
