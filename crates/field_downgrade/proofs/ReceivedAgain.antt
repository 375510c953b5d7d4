-- The pieces of a Received field, with a space between any two, are read as its served clauses, its date and its comments.
use Rattle.std.proofs.Common.{◌≡◌, ℕ, ◌<◌, Bool, true, false, ◌||◌, codes, ◌⊎◌, inl, inr, List, [], ◌∷◌, ◌++◌, length, map, Option, Some, None, refl, sym, ap, ◌∙◌, subst, arith}
use Rattle.std.proofs.lemmas.Bool.{and_parts, and_from, or_cases}
use Rattle.std.proofs.lemmas.Grind.{flat_map-append}
use Rattle.std.proofs.lemmas.List.{append_assoc, append-nil, length-append, map-append}
use Rattle.std.proofs.lemmas.List.Folds.{list_all-append}
use Rattle.std.proofs.lemmas.Slice.Eq.{bytes_eq-Decides}
use Rattle.std.proofs.lemmas.Bool.Decides.{nat_tests}
use Rattle.std.specs.Char.{to_ascii_lowercase}
use Rattle.std.specs.List.{AllByRecursion, list_all, flat_map, join_with_byte}
use Rattle.std.specs.Str.{str_to_ascii_lowercase}
use Rattle.mail_wire.specs.Octets.{is_white, is_ascii, same_name}
use Rattle.mail_wire.specs.Spans.{Stops, StopsAfter}
use Rattle.mail_wire.proofs.AllLemmas.{all-append, pass-append}
use Rattle.address_lists.proofs.PhrasesAgain.{CommentsSay-append}
use Rattle.field_tokens.specs.declared.Style.TheVariants.{Mail}
use Rattle.field_tokens.specs.declared.TokenKind.TheVariants.{Atom}
use Rattle.field_tokens.specs.TokenOctets.{is_line_octet}
use Rattle.field_tokens.specs.Groups.{IsEnclosed}
use Rattle.field_tokens.specs.Tokens.{comment_marks, TokenValue, AreTokens}
use Rattle.field_tokens.specs.Squeezed.{is_blank, runs_of, octets_of, squeezed_values, comments_of, is_gap, space, joined_by_spaces, IsPart, is_atom_kind}
use Rattle.field_tokens.specs.Comments.{CommentValue, CommentsSay, CommentsPieces, AreWritten, IsLinePiece}
use Rattle.field_tokens.proofs.TokenLists.{token_octets_some}
use Rattle.field_tokens.proofs.Parts.{part_of, AreTokens-begin, AreTokens-end, joined_begins, joined_ends, AreTokens-joined_by_spaces, comments_of-append, comments_of-joined_by_spaces, comment_parts, comments_are_parts, comment_parts-comments, comment_parts-octets}
use Rattle.field_tokens.proofs.TokenLines.{tokens_lines, squeezed_line, joined_line, comments_are_plain}
use Rattle.field_tokens.proofs.LinePieces.{CommentsPieces-line}
use Rattle.field_tokens.proofs.CommentValues.{CommentsSay-once, CommentsSay-some}
use Rattle.field_tokens.proofs.WrittenComments.{CommentsPieces-written}
use Rattle.field_tokens.proofs.PieceLemmas.{join_two, join_alike, no_pieces, no_comments, comments_groups, pieces_lines}
use Rattle.field_downgrade.specs.Received.{is_clause_word, starts_clause, is_inner, ClauseTokens, IsClause, clause_tokens, ReceivedParts, semicolon, date_tokens, are_blank_tokens, date_text, IsReceived, Clause, clause_of, date_of, SaysReceived, served_text, clause_with, served_clauses, with_space_before, served_piece, ClausePieces, ClausesPieces, DatePieces, PartsPieces, ReceivedPieces}
use Rattle.field_downgrade.proofs.ReceivedDivision.{parts_of, parts_are, blanks_inner, before_parts, parts_inner, parts_start}
use Rattle.field_downgrade.specs.private.ReceivedSteps.{AreRead}
use Rattle.field_downgrade.proofs.ReceivedLemmas.{read_front, read_rest, read_writable, ReadParts, read_parts, AreSame, IsReceived-once}
use Rattle.field_downgrade.proofs.ReceivedRuns.{spaced, IsTokenRun, IsServed, runs_each, spaced_runs, spaced_inner, runs_no_comments, runs_parts, runs_some, served_lower, served_is}
use Rattle.field_downgrade.proofs.PlainTextLemmas.{join_parts}
use Rattle.field_downgrade.proofs.PlainReading.{atom_kind}

-- ---- pieces that are joined

-- the same with a space between any two, and both none or both some
record Alike (made pieces : List (List ℕ)) : Type 0 where
  joined : join_with_byte 32 made ≡ join_with_byte 32 pieces
  none : made ≡ [] → pieces ≡ []
  some : pieces ≡ [] → made ≡ []

alike_cons : (first : List ℕ) (made pieces : List (List ℕ)) → Alike made pieces → join_with_byte 32 (first ∷ made) ≡ join_with_byte 32 (first ∷ pieces)
alike_cons first made pieces a = join_alike first made pieces a.none a.some a.joined

alike_append : (a b c d : List (List ℕ)) → Alike a b → Alike c d → Alike (a ++ c) (b ++ d)
alike_append [] [] c d one two = two
alike_append [] (y ∷ b) c d one two = let some = one.none refl in cc some
alike_append (x ∷ a) [] c d one two = let some = one.some refl in cc some
alike_append (x ∷ a) (y ∷ b) [] [] one two = record { joined = ap (join_with_byte 32) (append-nil (x ∷ a)) ∙ one.joined ∙ sym (ap (join_with_byte 32) (append-nil (y ∷ b))); none = λ e. cc e; some = λ e. cc e }
alike_append (x ∷ a) (y ∷ b) [] (w ∷ d) one two = let some = two.none refl in cc some
alike_append (x ∷ a) (y ∷ b) (v ∷ c) [] one two = let some = two.some refl in cc some
alike_append (x ∷ a) (y ∷ b) (v ∷ c) (w ∷ d) one two = record {
  joined = join_two x a v c ∙ ap (λ r. r ++ 32 ∷ join_with_byte 32 (v ∷ c)) one.joined ∙ ap (λ r. join_with_byte 32 (y ∷ b) ++ 32 ∷ r) two.joined ∙ sym (join_two y b w d);
  none = λ e. cc e;
  some = λ e. cc e;
}

space_some : (text : List ℕ) → 0 < length text → 32 ∷ text ≡ with_space_before text
space_some [] some = absurd (omega (arith, some))
space_some (x ∷ xs) some = refl

-- a word and a text after it are one piece
alike_word : (word : List ℕ) (runs made pieces : List (List ℕ)) → (runs ≡ []) ⊎ (0 < length (join_with_byte 32 runs)) → Alike made pieces → Alike (word ∷ (runs ++ made)) ((word ++ with_space_before (join_with_byte 32 runs)) ∷ pieces)
alike_word word [] made pieces some a = record { joined = alike_cons word made pieces a ∙ sym (ap (λ r. join_with_byte 32 (r ∷ pieces)) (append-nil word)); none = λ e. cc e; some = λ e. cc e }
alike_word word (x ∷ xs) made pieces (inl none) a = cc none
alike_word word (x ∷ xs) made pieces (inr some) a = record {
  joined = join_parts word (x ∷ xs) made ∙ alike_cons (join_with_byte 32 (word ∷ x ∷ xs)) made pieces a
      ∙ ap (λ r. join_with_byte 32 ((word ++ r) ∷ pieces)) (space_some (join_with_byte 32 (x ∷ xs)) some);
  none = λ e. cc e;
  some = λ e. cc e;
}

runs_or_none : (runs : List (List TokenValue)) → AllByRecursion IsTokenRun runs → (map octets_of runs ≡ []) ⊎ (0 < length (join_with_byte 32 (map octets_of runs)))
runs_or_none [] each = inl refl
runs_or_none (run ∷ runs) each = inr (runs_some run runs each)

-- ---- what is read again

-- The pieces are those of parts which have these clauses, this date, and comments that say what the original ones say.
record AreAgain (clauses : List Clause) (date : Option (List ℕ)) (comments pieces : List (List ℕ)) : Type 0 where
  parts : List (List TokenValue)
  are_parts : AllByRecursion (IsPart Mail) parts
  alike : Alike (map octets_of parts) pieces
  blank : are_blank_tokens (parts_of (spaced parts)).front ≡ true
  clauses_are : map clause_of (parts_of (spaced parts)).clauses ≡ clauses
  date_is : date_of (parts_of (spaced parts)).date ≡ date
  values : List CommentValue
  comments_say : CommentsSay comments values
  parts_say : CommentsSay (flat_map comments_of parts) values
  each : AllByRecursion IsLinePiece pieces

again_none : AreAgain [] None [] []
again_none = record {
  parts = [];
  are_parts = tt;
  alike = record { joined = refl; none = λ e. refl; some = λ e. refl };
  blank = refl;
  clauses_are = refl;
  date_is = refl;
  values = [];
  comments_say = refl;
  parts_say = refl;
  each = tt;
}

-- ---- comments

-- comments as they are written
record MadeComments (comments pieces : List (List ℕ)) : Type 0 where
  made : List (List ℕ)
  groups : AllByRecursion (IsEnclosed comment_marks) made
  alike : Alike made pieces
  values : List CommentValue
  comments_say : CommentsSay comments values
  made_say : CommentsSay made values
  each : AllByRecursion IsLinePiece pieces

made_comments : (ts : List TokenValue) (pieces : List (List ℕ)) → AreRead Mail ts → CommentsPieces (comments_of ts) pieces → MadeComments (comments_of ts) pieces
made_comments ts pieces read are =
    let can = read_writable ts read in
    let values = CommentsSay-some (comments_of ts) can in
    let w : AreWritten (comments_of ts) values.0 pieces = CommentsPieces-written (comments_of ts) values.0 pieces can values.1 are in
    record {
      made = w.made;
      groups = comments_groups w.made w.are_comments;
      alike = record { joined = w.joined; none = λ e. no_pieces (comments_of ts) pieces are (w.none.0 e); some = λ e. w.none.1 (no_comments (comments_of ts) pieces are e) };
      values = values.0;
      comments_say = values.1;
      made_say = w.say;
      each = CommentsPieces-line (comments_of ts) pieces can (comments_are_plain Mail ts (octets_of ts) read.are_tokens read.is_line) are;
    }

comments_blank : (cs : List (List ℕ)) → are_blank_tokens (spaced (comment_parts cs)) ≡ true
comments_blank [] = refl
comments_blank (c ∷ cs) = comments_blank cs

blank_both : (a b : List TokenValue) → are_blank_tokens a ≡ true → are_blank_tokens b ≡ true → are_blank_tokens (a ++ b) ≡ true
blank_both a b p q = list_all-append (λ (t : TokenValue). is_blank t.kind) a b ∙ and_from (are_blank_tokens a) (are_blank_tokens b) p q

spaced-append : (a b : List (List TokenValue)) → spaced (a ++ b) ≡ spaced a ++ spaced b
spaced-append a b = flat_map-append (λ (part : List TokenValue). space ∷ part) a b

again_comments : (clauses : List Clause) (date : Option (List ℕ)) (cs ps comments pieces : List (List ℕ)) → MadeComments cs ps → AreAgain clauses date comments pieces → AreAgain clauses date (cs ++ comments) (ps ++ pieces)
again_comments clauses date cs ps comments pieces m a =
    let front : List (List TokenValue) = comment_parts m.made in
    let octets : map octets_of (front ++ a.parts) ≡ m.made ++ map octets_of a.parts = map-append octets_of front a.parts ∙ ap (λ r. r ++ map octets_of a.parts) (comment_parts-octets m.made) in
    let divided : parts_of (spaced (front ++ a.parts)) ≡ before_parts (spaced front) (parts_of (spaced a.parts))
    = ap parts_of (spaced-append front a.parts) ∙ parts_inner (spaced front) (spaced a.parts) (blanks_inner (spaced front) (comments_blank m.made)) in
    let said : flat_map comments_of (front ++ a.parts) ≡ m.made ++ flat_map comments_of a.parts
    = flat_map-append comments_of front a.parts ∙ ap (λ r. r ++ flat_map comments_of a.parts) (comment_parts-comments m.made) in
    record {
      parts = front ++ a.parts;
      are_parts = all-append (IsPart Mail) front a.parts (comments_are_parts Mail m.made m.groups) a.are_parts;
      alike = subst (λ r. Alike r (ps ++ pieces)) (sym octets) (alike_append m.made ps (map octets_of a.parts) pieces m.alike a.alike);
      blank = ap (λ (r : ReceivedParts). are_blank_tokens r.front) divided ∙ blank_both (spaced front) (parts_of (spaced a.parts)).front (comments_blank m.made) a.blank;
      clauses_are = ap (λ (r : ReceivedParts). map clause_of r.clauses) divided ∙ a.clauses_are;
      date_is = ap (λ (r : ReceivedParts). date_of r.date) divided ∙ a.date_is;
      values = m.values ++ a.values;
      comments_say = CommentsSay-append cs comments m.values a.values m.comments_say a.comments_say;
      parts_say = subst (λ r. CommentsSay r (m.values ++ a.values)) (sym said) (CommentsSay-append m.made (flat_map comments_of a.parts) m.values a.values m.made_say a.parts_say);
      each = all-append IsLinePiece ps pieces m.each a.each;
    }

-- ---- a word

ascii_upper : (x : ℕ) → is_ascii (to_ascii_lowercase x) ≡ true → is_ascii x ≡ true
ascii_upper x h = grind (arith, nat_tests)

ascii_lower : (word : List ℕ) → list_all is_ascii (str_to_ascii_lowercase word) ≡ true → list_all is_ascii word ≡ true
ascii_lower [] h = refl
ascii_lower (x ∷ word) h =
    let parts = and_parts (is_ascii (to_ascii_lowercase x)) (list_all is_ascii (str_to_ascii_lowercase word)) h in
    and_from (is_ascii x) (list_all is_ascii word) (ascii_upper x parts.0) (ascii_lower word parts.1)

pub name_ascii : (word name : List ℕ) → list_all is_ascii (str_to_ascii_lowercase name) ≡ true → same_name word name ≡ true → list_all is_ascii word ≡ true
unfolding same_name
name_ascii word name ascii e =
    let same : str_to_ascii_lowercase word ≡ str_to_ascii_lowercase name = (bytes_eq-Decides (str_to_ascii_lowercase word) (str_to_ascii_lowercase name)).0 e in
    ascii_lower word (ap (list_all is_ascii) same ∙ ascii)

word_ascii : (word : List ℕ) → is_clause_word word ≡ true → list_all is_ascii word ≡ true
word_ascii word e = elim (or_cases (same_name word (codes "from") || (same_name word (codes "by") || same_name word (codes "via"))) _ e) [
  | inl first ↦ three (codes "from") (codes "by") (codes "via") refl refl refl first
  | inr second ↦ three (codes "with") (codes "id") (codes "for") refl refl refl second
]
  where
    three : (a b c : List ℕ) → list_all is_ascii (str_to_ascii_lowercase a) ≡ true → list_all is_ascii (str_to_ascii_lowercase b) ≡ true → list_all is_ascii (str_to_ascii_lowercase c) ≡ true
        → (same_name word a || (same_name word b || same_name word c)) ≡ true → list_all is_ascii word ≡ true
    three a b c p q r e = elim (or_cases (same_name word a) (same_name word b || same_name word c) e) [
      | inl first ↦ name_ascii word a p first
      | inr others ↦ elim (or_cases (same_name word b) (same_name word c) others) [
        | inl second ↦ name_ascii word b q second
        | inr third ↦ name_ascii word c r third
      ]
    ]

-- the word of a clause
record IsWord (t : TokenValue) : Type 0 where
  is_part : IsPart Mail (t ∷ [])
  some : 0 < length t.octets
  ascii : list_all is_ascii t.octets ≡ true
  line : list_all is_line_octet t.octets ≡ true
  no_comment : comments_of (t ∷ []) ≡ []

word_is : (t : TokenValue) → starts_clause t ≡ true → AreRead Mail (t ∷ []) → IsWord t
word_is t starts read =
    let parts = and_parts (is_atom_kind t.kind) (is_clause_word t.octets) starts in
    let kind : t.kind ≡ Atom = atom_kind t.kind parts.0 in
    let no_gap : is_gap t.kind ≡ false = ap is_gap kind in
    record {
      is_part = part_of Mail (t ∷ []) (omega arith) read.are_tokens no_gap no_gap;
      some = token_octets_some Mail t.kind t.octets read.are_tokens.0 read.are_tokens.2;
      ascii = word_ascii t.octets parts.1;
      line = (tokens_lines Mail (t ∷ []) (octets_of (t ∷ [])) read.are_tokens read.is_line).0.plain;
      no_comment = rw (kind) refl;
    }

space_ascii : (q : ℕ → Bool) → q 32 ≡ true → (text : List ℕ) → list_all q text ≡ true → list_all q (with_space_before text) ≡ true
space_ascii q at [] h = refl
space_ascii q at (x ∷ xs) h = and_from (q 32) (list_all q (x ∷ xs)) at h

word_piece : (word text : List ℕ) → 0 < length word → list_all is_ascii word ≡ true → list_all is_line_octet word ≡ true → list_all is_ascii text ≡ true → list_all is_line_octet text ≡ true
    → IsLinePiece (word ++ with_space_before text)
word_piece word text some ascii line text_ascii text_line = record {
  some = omega (arith, some, length-append word (with_space_before text));
  ascii = pass-append is_ascii word (with_space_before text) ascii (space_ascii is_ascii refl text text_ascii);
  line = pass-append is_line_octet word (with_space_before text) line (space_ascii is_line_octet refl text text_line);
}

-- the octets of a word, its text and what follows
word_octets : (t : TokenValue) (runs parts : List (List TokenValue)) → map octets_of ((t ∷ []) ∷ (runs ++ parts)) ≡ t.octets ∷ (map octets_of runs ++ map octets_of parts)
word_octets t runs parts = ap (λ r. r ∷ map octets_of (runs ++ parts)) (append-nil t.octets) ∙ ap (λ r. t.octets ∷ r) (map-append octets_of runs parts)

-- the text after a word, where only gaps and comments follow it
text_following : (runs : List (List TokenValue)) (ts : List TokenValue) → AllByRecursion IsTokenRun runs → are_blank_tokens ts ≡ true → squeezed_values (spaced runs ++ ts) ≡ join_with_byte 32 (map octets_of runs)
text_following runs ts each blank = ap (λ r. join_with_byte 32 (map octets_of r)) (spaced_runs runs ts each blank)

word_comments : (t : TokenValue) (runs parts : List (List TokenValue)) → comments_of (t ∷ []) ≡ [] → AllByRecursion IsTokenRun runs → flat_map comments_of ((t ∷ []) ∷ (runs ++ parts)) ≡ flat_map comments_of parts
word_comments t runs parts none each =
    ap (λ r. r ++ flat_map comments_of (runs ++ parts)) none ∙ flat_map-append comments_of runs parts ∙ ap (λ r. r ++ flat_map comments_of parts) (runs_no_comments runs each)

abbrev first_clause : TokenValue → List (List TokenValue) → ReceivedParts → ReceivedParts
first_clause t runs parts = record { front = space ∷ []; clauses = record { word = t; following = spaced runs ++ parts.front } ∷ parts.clauses; date = parts.date }

word_divided : (t : TokenValue) (runs parts : List (List TokenValue)) → starts_clause t ≡ true → list_all is_inner (spaced runs) ≡ true → parts_of (spaced ((t ∷ []) ∷ (runs ++ parts))) ≡ first_clause t runs (parts_of (spaced parts))
word_divided t runs parts starts inner =
    ap (before_parts (space ∷ [])) (parts_start t (spaced (runs ++ parts)) starts)
    ∙ ap (λ (r : ReceivedParts). record { front = space ∷ []; clauses = record { word = t; following = r.front } ∷ r.clauses; date = r.date }) (ap parts_of (spaced-append runs parts) ∙ parts_inner (spaced runs) (spaced parts) inner)

again_word : (clauses : List Clause) (date : Option (List ℕ)) (t : TokenValue) (text : List ℕ) (comments pieces : List (List ℕ)) → starts_clause t ≡ true → IsWord t → IsServed text → AreAgain clauses date comments pieces
    → AreAgain (record { word = str_to_ascii_lowercase t.octets; text = text } ∷ clauses) date comments ((t.octets ++ with_space_before text) ∷ pieces)
again_word clauses date t text comments pieces starts w s a =
    let divided = word_divided t s.runs a.parts starts (spaced_inner s.runs s.inner) in
    let following : squeezed_values (spaced s.runs ++ (parts_of (spaced a.parts)).front) ≡ text = text_following s.runs (parts_of (spaced a.parts)).front s.each a.blank ∙ s.text_is in
    let word : List ℕ = str_to_ascii_lowercase t.octets in
    let first : List Clause → List Clause = λ more. record { word = word; text = text } ∷ more in
    record {
      parts = (t ∷ []) ∷ (s.runs ++ a.parts);
      are_parts = (w.is_part, all-append (IsPart Mail) s.runs a.parts (runs_parts s.runs s.each) a.are_parts);
      alike = rw (word_octets t s.runs a.parts, ← s.text_is) (alike_word t.octets (map octets_of s.runs) (map octets_of a.parts) pieces (runs_or_none s.runs s.each) a.alike);
      blank = ap (λ (r : ReceivedParts). are_blank_tokens r.front) divided;
      clauses_are = ap (λ (r : ReceivedParts). map clause_of r.clauses) divided ∙ ap (λ r. record { word = word; text = r } ∷ map clause_of (parts_of (spaced a.parts)).clauses) following ∙ ap first a.clauses_are;
      date_is = ap (λ (r : ReceivedParts). date_of r.date) divided ∙ a.date_is;
      values = a.values;
      comments_say = a.comments_say;
      parts_say = subst (λ r. CommentsSay r a.values) (sym (word_comments t s.runs a.parts w.no_comment s.each)) a.parts_say;
      each = (word_piece t.octets text w.some w.ascii w.line s.ascii s.line, a.each);
    }

-- ---- a date

semicolon_part : IsPart Mail (semicolon ∷ [])
semicolon_part = part_of Mail (semicolon ∷ []) (omega arith) ([], refl, (59, refl, refl), refl) refl refl

again_date : (ts : List TokenValue) (ps : List (List ℕ)) → AreRead Mail ts → list_all is_ascii (squeezed_values ts) ≡ true → MadeComments (comments_of ts) ps
    → AreAgain [] (Some (squeezed_values ts)) (comments_of ts) ((59 ∷ with_space_before (squeezed_values ts)) ∷ ps)
again_date ts ps read ascii m =
    let runs : List (List TokenValue) = runs_of ts in
    let each : AllByRecursion IsTokenRun runs = runs_each ts read in
    let following : List (List TokenValue) = comment_parts m.made in
    let text : squeezed_values (spaced (runs ++ following)) ≡ squeezed_values ts = ap squeezed_values (spaced-append runs following) ∙ text_following runs (spaced following) each (comments_blank m.made) in
    let octets : map octets_of ((semicolon ∷ []) ∷ (runs ++ following)) ≡ (59 ∷ []) ∷ (map octets_of runs ++ m.made)
    = word_octets semicolon runs following ∙ ap (λ r. (59 ∷ []) ∷ (map octets_of runs ++ r)) (comment_parts-octets m.made) in
    let said : flat_map comments_of ((semicolon ∷ []) ∷ (runs ++ following)) ≡ m.made = word_comments semicolon runs following refl each ∙ comment_parts-comments m.made in
    record {
      parts = (semicolon ∷ []) ∷ (runs ++ following);
      are_parts = (semicolon_part, all-append (IsPart Mail) runs following (runs_parts runs each) (comments_are_parts Mail m.made m.groups));
      alike = subst (λ r. Alike r ((59 ∷ with_space_before (squeezed_values ts)) ∷ ps)) (sym octets) (alike_word (59 ∷ []) (map octets_of runs) m.made ps (runs_or_none runs each) m.alike);
      blank = refl;
      clauses_are = refl;
      date_is = ap Some text;
      values = m.values;
      comments_say = m.comments_say;
      parts_say = subst (λ r. CommentsSay r m.values) (sym said) m.made_say;
      each = (word_piece (59 ∷ []) (squeezed_values ts) (omega arith) refl refl ascii (squeezed_line Mail ts (octets_of ts) read.are_tokens read.is_line).plain, m.each);
    }

date_again : (date : Option (List TokenValue)) (ps : List (List ℕ)) → AreRead Mail (date_tokens date) → list_all is_ascii (date_text date) ≡ true → DatePieces date ps
    → AreAgain [] (date_of date) (comments_of (date_tokens date)) ps
date_again None ps read ascii are = rw (are) again_none
date_again (Some ts) ps read ascii are =
    let following : AreRead Mail ts = read_rest Mail (semicolon ∷ []) ts read in
    rw (are.2) (again_date ts are.0 following ascii (made_comments ts are.0 following are.1))

-- ---- clauses

clause_again : (c : ClauseTokens) (ps : List (List ℕ)) (clauses : List Clause) (date : Option (List ℕ)) (comments pieces : List (List ℕ)) → IsClause c → AreRead Mail (clause_tokens c) → ClausePieces c ps
    → AreAgain clauses date comments pieces
    → AreAgain (clause_with (str_to_ascii_lowercase c.word.octets) (served_text (str_to_ascii_lowercase c.word.octets) (squeezed_values c.following)) ++ clauses) date (comments_of (clause_tokens c) ++ comments) (ps ++ pieces)
clause_again c ps clauses date comments pieces is read p rest =
    rw (served_lower c.word.octets (squeezed_values c.following), p.pieces_are, said) (by (served_text c.word.octets (squeezed_values c.following)) refl)
  where
    following : AreRead Mail c.following
    following = read_rest Mail (c.word ∷ []) c.following read

    word : IsWord c.word
    word = word_is c.word is.starts (read_front Mail (c.word ∷ []) c.following read)

    said : comments_of (clause_tokens c) ≡ comments_of c.following
    said = comments_of-append (c.word ∷ []) c.following ∙ ap (λ r. r ++ comments_of c.following) word.no_comment

    more : AreAgain clauses date (comments_of c.following ++ comments) (p.comments ++ pieces)
    more = again_comments clauses date (comments_of c.following) p.comments comments pieces (made_comments c.following p.comments following p.comments_are) rest

    by : (served : Option (List ℕ)) → served_text c.word.octets (squeezed_values c.following) ≡ served
        → AreAgain (clause_with (str_to_ascii_lowercase c.word.octets) served ++ clauses) date (comments_of c.following ++ comments) ((served_piece c.word.octets served ++ p.comments) ++ pieces)
    by None e = more
    by (Some text) e = again_word clauses date c.word text (comments_of c.following ++ comments) (p.comments ++ pieces) is.starts word (served_is c.following c.word.octets text following is.inner e) more

clauses_again : (cs : List ClauseTokens) (ps : List (List ℕ)) (date : Option (List ℕ)) (comments pieces : List (List ℕ)) → AllByRecursion IsClause cs → AreRead Mail (flat_map clause_tokens cs) → ClausesPieces cs ps
    → AreAgain [] date comments pieces → AreAgain (served_clauses (map clause_of cs)) date (comments_of (flat_map clause_tokens cs) ++ comments) (ps ++ pieces)
clauses_again [] ps date comments pieces are read p rest = rw (p) rest
clauses_again (c ∷ cs) ps date comments pieces are read p rest =
    let others : List TokenValue = flat_map clause_tokens cs in
    let more = clauses_again cs p.1 date comments pieces are.1 (read_rest Mail (clause_tokens c) others read) p.4 rest in
    let one = clause_again c p.0 (served_clauses (map clause_of cs)) date (comments_of others ++ comments) (p.1 ++ pieces) are.0 (read_front Mail (clause_tokens c) others read) p.3 more in
    rw (p.2, append_assoc p.0 p.1 pieces, comments_of-append (clause_tokens c) others, append_assoc (comments_of (clause_tokens c)) (comments_of others) comments) one

-- ---- the whole field

-- The pieces with a space between any two say the served clauses, the same date and the same comments. No white stands at
-- an end, and each piece can stand in a line.
pub record IsReceivedAgain (clauses : List Clause) (date : Option (List ℕ)) (comments : List CommentValue) (pieces : List (List ℕ)) : Type 0 where
  pub says : SaysReceived (join_with_byte 32 pieces) (served_clauses clauses) date comments
  pub begins : Stops is_white (join_with_byte 32 pieces)
  pub ends : StopsAfter is_white (join_with_byte 32 pieces)
  pub are_pieces : AllByRecursion IsLinePiece pieces

spaced_apart : (part : List TokenValue) (parts : List (List TokenValue)) → spaced (part ∷ parts) ≡ space ∷ joined_by_spaces (part ∷ parts)
spaced_apart part [] = ap (λ r. space ∷ r) (append-nil part)
spaced_apart part (next ∷ parts) = ap (λ r. space ∷ (part ++ r)) (spaced_apart next parts)

-- a space before the first part changes nothing
record DividedAlike (parts others : ReceivedParts) : Type 0 where
  blank : are_blank_tokens parts.front ≡ are_blank_tokens others.front
  clauses : parts.clauses ≡ others.clauses
  date : parts.date ≡ others.date

divided_apart : (parts : List (List TokenValue)) → DividedAlike (parts_of (joined_by_spaces parts)) (parts_of (spaced parts))
divided_apart [] = record { blank = refl; clauses = refl; date = refl }
divided_apart (part ∷ parts) = subst (λ ts. DividedAlike (parts_of (joined_by_spaces (part ∷ parts))) (parts_of ts)) (sym (spaced_apart part parts)) (record { blank = refl; clauses = refl; date = refl })

text_alike : (d e : Option (List TokenValue)) → date_of d ≡ date_of e → date_text d ≡ date_text e
text_alike None None h = refl
text_alike None (Some us) h = cc h
text_alike (Some ts) None h = cc h
text_alike (Some ts) (Some us) h = cc h

again_read : (clauses : List Clause) (date : Option (List TokenValue)) (originals : List (List ℕ)) (comments : List CommentValue) (pieces : List (List ℕ)) → list_all is_ascii (date_text date) ≡ true
    → CommentsSay originals comments → AreAgain (served_clauses clauses) (date_of date) originals pieces → IsReceivedAgain clauses (date_of date) comments pieces
again_read clauses date originals comments pieces ascii say a =
    let tokens : List TokenValue = joined_by_spaces a.parts in
    let parts : ReceivedParts = parts_of tokens in
    let same : DividedAlike parts (parts_of (spaced a.parts)) = divided_apart a.parts in
    let are : AreTokens Mail tokens (join_with_byte 32 pieces) = subst (AreTokens Mail tokens) a.alike.joined (AreTokens-joined_by_spaces Mail a.parts a.are_parts) in
    let dates : date_of parts.date ≡ date_of date = ap date_of same.date ∙ a.date_is in
    let values : a.values ≡ comments = CommentsSay-once originals a.values comments a.comments_say say in
    record {
      says = record {
        tokens = tokens;
        parts = parts;
        is_received = record {
          has = record { is_line = joined_line pieces (pieces_lines pieces a.each); are_tokens = are };
          are_parts = parts_are tokens (same.blank ∙ a.blank);
          ascii = ap (list_all is_ascii) (text_alike parts.date date dates) ∙ ascii;
        };
        clauses_are = sym (ap (map clause_of) same.clauses ∙ a.clauses_are);
        date_is = sym dates;
        comments_say = rw (comments_of-joined_by_spaces a.parts) (subst (CommentsSay (flat_map comments_of a.parts)) values a.parts_say);
      };
      begins = AreTokens-begin Mail tokens (join_with_byte 32 pieces) are (joined_begins Mail a.parts a.are_parts);
      ends = AreTokens-end Mail tokens (join_with_byte 32 pieces) are (joined_ends Mail a.parts a.are_parts);
      are_pieces = a.each;
    }

received_again : (text : List ℕ) (tokens : List TokenValue) (parts : ReceivedParts) (pieces : List (List ℕ)) → IsReceived text tokens parts → PartsPieces parts pieces
    → AreAgain (served_clauses (map clause_of parts.clauses)) (date_of parts.date) (comments_of tokens) pieces
received_again text tokens parts pieces is p =
    let read : ReadParts parts = read_parts text tokens parts is in
    let clauses : List TokenValue = flat_map clause_tokens parts.clauses in
    let date = date_again parts.date p.date read.date is.ascii p.date_are in
    let following = clauses_again parts.clauses p.clauses (date_of parts.date) (comments_of (date_tokens parts.date)) p.date is.are_parts.are_clauses read.clauses p.clauses_are date in
    let whole = again_comments (served_clauses (map clause_of parts.clauses)) (date_of parts.date) (comments_of parts.front) p.front (comments_of clauses ++ comments_of (date_tokens parts.date)) (p.clauses ++ p.date)
    (made_comments parts.front p.front read.front p.front_are) following in
    let comments : comments_of tokens ≡ comments_of parts.front ++ (comments_of clauses ++ comments_of (date_tokens parts.date))
    = ap comments_of is.are_parts.whole ∙ comments_of-append parts.front (clauses ++ date_tokens parts.date) ∙ ap (λ r. comments_of parts.front ++ r) (comments_of-append clauses (date_tokens parts.date)) in
    rw (comments, p.pieces_are) whole

pub ReceivedPieces-read : (text : List ℕ) (pieces : List (List ℕ)) (clauses : List Clause) (date : Option (List ℕ)) (comments : List CommentValue) → ReceivedPieces text pieces → SaysReceived text clauses date comments
    → IsReceivedAgain clauses date comments pieces
ReceivedPieces-read text pieces clauses date comments p s =
    let same : AreSame s.tokens p.tokens s.parts p.parts = IsReceived-once text s.tokens p.tokens s.parts p.parts s.is_received p.is_received in
    let said : clauses ≡ map clause_of p.parts.clauses = s.clauses_are ∙ ap (λ (r : ReceivedParts). map clause_of r.clauses) same.parts_are in
    let dated : date ≡ date_of p.parts.date = s.date_is ∙ ap (λ (r : ReceivedParts). date_of r.date) same.parts_are in
    let say : CommentsSay (comments_of p.tokens) comments = subst (λ ts. CommentsSay (comments_of ts) comments) same.tokens s.comments_say in
    rw (said, dated) (again_read (map clause_of p.parts.clauses) p.parts.date (comments_of p.tokens) comments pieces p.is_received.ascii say
    (received_again text p.tokens p.parts pieces p.is_received p.parts_pieces))
