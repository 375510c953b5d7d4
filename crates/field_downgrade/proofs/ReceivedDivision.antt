-- Every list of tokens has one division into what stands before the first clause, clauses and a date.
use Rattle.std.proofs.Common.{◌≡◌, Bool, true, false, not, List, [], ◌∷◌, ◌++◌, Option, Some, None, refl, sym, ap, ◌∙◌}
use Rattle.std.proofs.lemmas.Bool.{and_parts, and_from, not-true}
use Rattle.std.proofs.lemmas.List.{append_assoc, append-nil}
use Rattle.std.proofs.lemmas.Slice.Eq.{bytes_eq-Decides}
use Rattle.std.specs.List.{AllByRecursion, list_all, flat_map}
use Rattle.std.specs.Str.{bytes_eq}
use Rattle.field_tokens.specs.declared.TokenKind.{TokenKind}
use Rattle.field_tokens.specs.declared.TokenKind.TheVariants.{Atom, Quoted, Literal, Special, Gap, Comment}
use Rattle.field_tokens.specs.Tokens.{TokenValue}
use Rattle.field_tokens.specs.Squeezed.{is_blank, is_atom_kind, is_special_kind}
use Rattle.field_downgrade.specs.Received.{is_clause_word, starts_clause, is_semicolon, is_inner, ClauseTokens, IsClause, clause_tokens, ReceivedParts, semicolon, date_tokens, are_blank_tokens, AreReceivedParts}

abbrev pub put_token : Bool → Bool → TokenValue → List TokenValue → ReceivedParts → ReceivedParts
put_token true starts t ts parts = record { front = []; clauses = []; date = Some ts }
put_token false true t ts parts = record { front = []; clauses = record { word = t; following = parts.front } ∷ parts.clauses; date = parts.date }
put_token false false t ts parts = record { front = t ∷ parts.front; clauses = parts.clauses; date = parts.date }

-- the division, one token at a time
abbrev pub parts_of : List TokenValue → ReceivedParts
parts_of [] = record { front = []; clauses = []; date = None }
parts_of (t ∷ ts) = put_token (is_semicolon t) (starts_clause t) t ts (parts_of ts)

abbrev pub parts_tokens : ReceivedParts → List TokenValue
parts_tokens parts = parts.front ++ (flat_map clause_tokens parts.clauses ++ date_tokens parts.date)

-- ---- tokens by their kinds

special_kind : (kind : TokenKind) → is_special_kind kind ≡ true → kind ≡ Special
special_kind Special e = refl
special_kind Atom e = cc e
special_kind Quoted e = cc e
special_kind Literal e = cc e
special_kind Gap e = cc e
special_kind Comment e = cc e

pub is_semicolon-is : (t : TokenValue) → is_semicolon t ≡ true → t ≡ semicolon
is_semicolon-is t e =
    let parts = and_parts (is_special_kind t.kind) (bytes_eq t.octets (59 ∷ [])) e in
    let kind : t.kind ≡ Special = special_kind t.kind parts.0 in
    let octets : t.octets ≡ 59 ∷ [] = (bytes_eq-Decides t.octets (59 ∷ [])).0 parts.1 in
    let whole : t ≡ record { kind = t.kind; octets = t.octets } = refl in
    whole ∙ rw (kind, octets) refl

atom_no_special : (kind : TokenKind) → is_atom_kind kind ≡ true → is_special_kind kind ≡ false
atom_no_special Atom e = refl
atom_no_special Special e = cc e
atom_no_special Quoted e = refl
atom_no_special Literal e = refl
atom_no_special Gap e = refl
atom_no_special Comment e = refl

pub start_no_semicolon : (t : TokenValue) → starts_clause t ≡ true → is_semicolon t ≡ false
start_no_semicolon t e = rw (atom_no_special t.kind (and_parts (is_atom_kind t.kind) (is_clause_word t.octets) e).0) refl

blank_kinds : (kind : TokenKind) → is_blank kind ≡ true → (is_atom_kind kind ≡ false) × (is_special_kind kind ≡ false)
blank_kinds Gap e = (refl, refl)
blank_kinds Comment e = (refl, refl)
blank_kinds Atom e = cc e
blank_kinds Quoted e = cc e
blank_kinds Literal e = cc e
blank_kinds Special e = cc e

pub blank_inner : (t : TokenValue) → is_blank t.kind ≡ true → is_inner t ≡ true
blank_inner t e = let kinds = blank_kinds t.kind e in rw (kinds.0, kinds.1) refl

pub blanks_inner : (ts : List TokenValue) → are_blank_tokens ts ≡ true → list_all is_inner ts ≡ true
blanks_inner [] e = refl
blanks_inner (t ∷ ts) e = let parts = and_parts (is_blank t.kind) (are_blank_tokens ts) e in and_from (is_inner t) (list_all is_inner ts) (blank_inner t parts.0) (blanks_inner ts parts.1)

-- ---- there are parts

put_whole : (b s : Bool) (t : TokenValue) (ts : List TokenValue) (parts : ReceivedParts) → is_semicolon t ≡ b → ts ≡ parts_tokens parts → t ∷ ts ≡ parts_tokens (put_token b s t ts parts)
put_whole true s t ts parts e whole = ap (λ r. r ∷ ts) (is_semicolon-is t e)
put_whole false true t ts parts e whole = ap (λ r. t ∷ r) (whole ∙ sym (append_assoc parts.front (flat_map clause_tokens parts.clauses) (date_tokens parts.date)))
put_whole false false t ts parts e whole = ap (λ r. t ∷ r) whole

pub parts_whole : (ts : List TokenValue) → ts ≡ parts_tokens (parts_of ts)
parts_whole [] = refl
parts_whole (t ∷ ts) = put_whole (is_semicolon t) (starts_clause t) t ts (parts_of ts) refl (parts_whole ts)

-- no token of the front starts a clause
pub record AreDivided (parts : ReceivedParts) : Type 0 where
  pub inner : list_all is_inner parts.front ≡ true
  pub are_clauses : AllByRecursion IsClause parts.clauses

put_divided : (b s : Bool) (t : TokenValue) (ts : List TokenValue) (parts : ReceivedParts) → is_semicolon t ≡ b → starts_clause t ≡ s → AreDivided parts → AreDivided (put_token b s t ts parts)
put_divided true s t ts parts e f are = record { inner = refl; are_clauses = tt }
put_divided false true t ts parts e f are = record { inner = refl; are_clauses = (record { starts = f; inner = are.inner }, are.are_clauses) }
put_divided false false t ts parts e f are = record { inner = and_from (is_inner t) (list_all is_inner parts.front) (rw (e, f) refl) are.inner; are_clauses = are.are_clauses }

pub parts_divided : (ts : List TokenValue) → AreDivided (parts_of ts)
parts_divided [] = record { inner = refl; are_clauses = tt }
parts_divided (t ∷ ts) = put_divided (is_semicolon t) (starts_clause t) t ts (parts_of ts) refl refl (parts_divided ts)

pub parts_are : (ts : List TokenValue) → are_blank_tokens (parts_of ts).front ≡ true → AreReceivedParts ts (parts_of ts)
parts_are ts blank = record { whole = parts_whole ts; blank = blank; are_clauses = (parts_divided ts).are_clauses }

-- ---- there is one division

abbrev pub before_parts : List TokenValue → ReceivedParts → ReceivedParts
before_parts front parts = record { front = front ++ parts.front; clauses = parts.clauses; date = parts.date }

pub parts_inner : (a ts : List TokenValue) → list_all is_inner a ≡ true → parts_of (a ++ ts) ≡ before_parts a (parts_of ts)
parts_inner [] ts all = refl
parts_inner (t ∷ a) ts all =
    let parts = and_parts (is_inner t) (list_all is_inner a) all in
    let both = and_parts (not (starts_clause t)) (not (is_semicolon t)) parts.0 in
    rw (not-true (is_semicolon t) both.1, not-true (starts_clause t) both.0, parts_inner a ts parts.1) refl

pub parts_start : (t : TokenValue) (ts : List TokenValue) → starts_clause t ≡ true → parts_of (t ∷ ts) ≡ put_token false true t ts (parts_of ts)
parts_start t ts e = rw (start_no_semicolon t e, e) refl

abbrev pub bare : List ClauseTokens → Option (List TokenValue) → ReceivedParts
bare clauses date = record { front = []; clauses = clauses; date = date }

pub date_parts : (date : Option (List TokenValue)) → parts_of (date_tokens date) ≡ bare [] date
date_parts None = refl
date_parts (Some ts) = refl

pub clause_parts : (c : ClauseTokens) (ts : List TokenValue) (clauses : List ClauseTokens) (date : Option (List TokenValue)) → IsClause c → parts_of ts ≡ bare clauses date
    → parts_of (clause_tokens c ++ ts) ≡ bare (c ∷ clauses) date
clause_parts c ts clauses date is e = rw (parts_start c.word (c.following ++ ts) is.starts, parts_inner c.following ts is.inner, e, append-nil c.following) refl

pub clauses_parts : (clauses : List ClauseTokens) (date : Option (List TokenValue)) → AllByRecursion IsClause clauses → parts_of (flat_map clause_tokens clauses ++ date_tokens date) ≡ bare clauses date
clauses_parts [] date all = date_parts date
clauses_parts (c ∷ clauses) date all =
    ap parts_of (append_assoc (clause_tokens c) (flat_map clause_tokens clauses) (date_tokens date))
    ∙ clause_parts c (flat_map clause_tokens clauses ++ date_tokens date) clauses date all.0 (clauses_parts clauses date all.1)

pub are_parts_of : (ts : List TokenValue) (parts : ReceivedParts) → AreReceivedParts ts parts → parts_of ts ≡ parts
are_parts_of ts parts are =
    rw (are.whole, parts_inner parts.front (flat_map clause_tokens parts.clauses ++ date_tokens parts.date) (blanks_inner parts.front are.blank), clauses_parts parts.clauses parts.date are.are_clauses, append-nil parts.front) refl

pub AreReceivedParts-once : (ts : List TokenValue) (parts others : ReceivedParts) → AreReceivedParts ts parts → AreReceivedParts ts others → parts ≡ others
AreReceivedParts-once ts parts others p q = sym (are_parts_of ts parts p) ∙ are_parts_of ts others q
