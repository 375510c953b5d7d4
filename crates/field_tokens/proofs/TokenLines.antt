-- The tokens of a line are lines, and so are its comments and its squeezed text.
use Rattle.std.proofs.Common.{◌≡◌, ℕ, ◌<◌, Bool, true, false, cond, ◌&&◌, inl, inr, List, [], ◌∷◌, ◌++◌, map, filter, refl, sym, ap, ◌∙◌, subst, arith}
use Rattle.std.proofs.lemmas.Bool.{and_parts, cases_Bool}
use Rattle.std.proofs.lemmas.Bool.Decides.{nat_tests}
use Rattle.std.proofs.lemmas.List.{append-nil}
use Rattle.std.proofs.lemmas.List.Folds.{list_all-append}
use Rattle.std.proofs.lemmas.Str.{IsUtf8-nil, IsUtf8-append, IsUtf8-from_ascii}
use Rattle.std.specs.List.{AllByRecursion, list_all, join_with_byte, slice_split, onto_first}
use Rattle.std.specs.Str.{IsUtf8}
use Rattle.encoded_words.proofs.WrittenWords.{ascii_literal}
use Rattle.mail_wire.specs.Octets.{is_white, is_ascii}
use Rattle.mail_wire.specs.Spans.{Stops}
use Rattle.mail_wire.proofs.AllLemmas.{all-append, pass-append}
use Rattle.mail_wire.proofs.OctetLemmas.{white_below}
use Rattle.encoded_words.proofs.WritableUnits.{all_ascii, ends_ascii, before_ascii, BeginsAscii, BothUtf8}
use Rattle.field_tokens.specs.declared.Style.{Style}
use Rattle.field_tokens.specs.declared.Style.TheVariants.{Mail, Mime}
use Rattle.field_tokens.specs.declared.TokenKind.{TokenKind}
use Rattle.field_tokens.specs.declared.TokenKind.TheVariants.{Atom, Quoted, Literal, Special, Gap, Comment}
use Rattle.field_tokens.specs.declared.groups.Marks.{Marks}
use Rattle.field_tokens.specs.Groups.{IsEnclosed, inside_octets}
use Rattle.field_tokens.specs.TokenOctets.{is_special, is_atom_octet, is_line_octet}
use Rattle.field_tokens.specs.Tokens.{comment_marks, quoted_marks, literal_marks, IsToken, TokenValue, AreTokens, tokens_from, IsLine, HasTokenValues}
use Rattle.field_tokens.specs.Squeezed.{is_blank, is_there, squeezed_text, runs_of, octets_of, squeezed_values, is_comment, comments_of, words_of, joined_by_spaces}
use Rattle.field_tokens.specs.Comments.{AreWritableComments}
use Rattle.field_tokens.proofs.SqueezedValues.{squeezed_text-values, runs_and, squeezed_and, IsSqueezedAgain, squeezed_again}

special_ascii : (style : Style) (x : ℕ) → is_special style x ≡ true → x < 128
special_ascii Mail x h = grind (arith, nat_tests)
special_ascii Mime x h = grind (arith, nat_tests)

no_atom_ascii : (style : Style) (x : ℕ) → is_atom_octet style x ≡ false → x < 128
no_atom_ascii Mail x h = grind (arith, nat_tests)
no_atom_ascii Mime x h = grind (arith, nat_tests)

stops_ascii : (style : Style) (rest : List ℕ) → Stops (is_atom_octet style) rest → BeginsAscii rest
stops_ascii style [] s = tt
stops_ascii style (x ∷ rest) s = no_atom_ascii style x s

group_utf8 : (m : Marks) (octets rest : List ℕ) → m.close_mark < 128 → IsEnclosed m octets → IsUtf8 (octets ++ rest) → BothUtf8 octets rest
group_utf8 m octets rest ascii g u = rw (g.spelled) (ends_ascii (m.open_mark ∷ inside_octets m g.inside) m.close_mark rest ascii (rw (g.spelled) at u))

-- UTF-8 is cut between tokens
pub token_utf8 : (style : Style) (kind : TokenKind) (octets rest : List ℕ) → IsToken style kind octets rest → IsUtf8 (octets ++ rest) → BothUtf8 octets rest
token_utf8 style Gap octets rest is u = all_ascii is_white white_below octets rest is.1.passes u
token_utf8 style Atom octets rest is u = before_ascii octets rest (stops_ascii style rest is.1.stops) u
token_utf8 style Special octets rest is u = rw (is.1) (ends_ascii [] is.0 rest (special_ascii style is.0 is.2) (rw (is.1) at u))
token_utf8 style Comment octets rest is u = group_utf8 comment_marks octets rest (omega arith) is u
token_utf8 style Quoted octets rest is u = group_utf8 quoted_marks octets rest (omega arith) is u
token_utf8 style Literal octets rest is u = group_utf8 literal_marks octets rest (omega arith) is.1 u

-- each token is a line
abbrev pub AreLineTokens : List TokenValue → Type 0
AreLineTokens ts = AllByRecursion (λ (t : TokenValue). IsLine t.octets) ts

pub tokens_lines : (style : Style) (tokens : List TokenValue) (text : List ℕ) → AreTokens style tokens text → IsLine text → AreLineTokens tokens
tokens_lines style [] text are line = tt
tokens_lines style (t ∷ ts) text are line =
    let both = token_utf8 style t.kind t.octets are.0 are.2 (subst IsUtf8 are.1 line.utf8) in
    let all : (list_all is_line_octet t.octets && list_all is_line_octet are.0) ≡ true
    = sym (list_all-append is_line_octet t.octets are.0) ∙ sym (ap (list_all is_line_octet) are.1) ∙ line.plain in
    let parts = and_parts (list_all is_line_octet t.octets) (list_all is_line_octet are.0) all in
    (record { utf8 = both.front; plain = parts.0 }, tokens_lines style ts are.0 are.3 (record { utf8 = both.rest; plain = parts.1 }))

-- the comments among the tokens are comments
comment_is : (style : Style) (kind : TokenKind) (octets rest : List ℕ) → is_comment kind ≡ true → IsToken style kind octets rest → IsEnclosed comment_marks octets
comment_is style Gap octets rest e is = cc e
comment_is style Atom octets rest e is = cc e
comment_is style Special octets rest e is = cc e
comment_is style Comment octets rest e is = is
comment_is style Quoted octets rest e is = cc e
comment_is style Literal octets rest e is = cc e

pub comments_are_comments : (style : Style) (tokens : List TokenValue) (text : List ℕ) → AreTokens style tokens text → AllByRecursion (IsEnclosed comment_marks) (comments_of tokens)
comments_are_comments style [] text are = tt
comments_are_comments style (t ∷ ts) text are = elim (cases_Bool (is_comment t.kind)) [
  | inl c ↦ rw (c) ((comment_is style t.kind t.octets are.0 c are.2, comments_are_comments style ts are.0 are.3))
  | inr other ↦ rw (other) (comments_are_comments style ts are.0 are.3)
]

comments_lines : (ts : List TokenValue) → AreLineTokens ts → AllByRecursion IsLine (comments_of ts)
comments_lines [] all = tt
comments_lines (t ∷ ts) all = elim (cases_Bool (is_comment t.kind)) [
  | inl c ↦ rw (c) ((all.0, comments_lines ts all.1))
  | inr other ↦ rw (other) (comments_lines ts all.1)
]

pub comments_are_lines : (style : Style) (tokens : List TokenValue) (text : List ℕ) → AreTokens style tokens text → IsLine text → AllByRecursion IsLine (comments_of tokens)
comments_are_lines style tokens text are line = comments_lines tokens (tokens_lines style tokens text are line)

-- comments that are lines may be written
pub writable_lines : (comments : List (List ℕ)) → AllByRecursion (IsEnclosed comment_marks) comments → AllByRecursion IsLine comments → AreWritableComments comments
writable_lines [] groups lines = tt
writable_lines (c ∷ comments) groups lines = (groups.0, lines.0.utf8, writable_lines comments groups.1 lines.1)

pub plain_lines : (comments : List (List ℕ)) → AllByRecursion IsLine comments → AllByRecursion (λ c. list_all is_line_octet c ≡ true) comments
plain_lines [] lines = tt
plain_lines (c ∷ comments) lines = (lines.0.plain, plain_lines comments lines.1)

pub comments_are_writable : (style : Style) (tokens : List TokenValue) (text : List ℕ) → AreTokens style tokens text → IsLine text → AreWritableComments (comments_of tokens)
comments_are_writable style tokens text are line = writable_lines (comments_of tokens) (comments_are_comments style tokens text are) (comments_are_lines style tokens text are line)

pub comments_are_plain : (style : Style) (tokens : List TokenValue) (text : List ℕ) → AreTokens style tokens text → IsLine text → AllByRecursion (λ c. list_all is_line_octet c ≡ true) (comments_of tokens)
comments_are_plain style tokens text are line = plain_lines (comments_of tokens) (comments_are_lines style tokens text are line)

-- made texts that are lines
pub line_none : IsLine []
line_none = record { utf8 = IsUtf8-nil; plain = refl }

pub line_append : (a b : List ℕ) → IsLine a → IsLine b → IsLine (a ++ b)
line_append a b p q = record { utf8 = IsUtf8-append a b p.utf8 q.utf8; plain = pass-append is_line_octet a b p.plain q.plain }

pub ascii_line : (text : List ℕ) → list_all is_ascii text ≡ true → list_all is_line_octet text ≡ true → IsLine text
ascii_line text ascii plain = record { utf8 = IsUtf8-from_ascii text (ascii_literal text ascii); plain = plain }

pub joined_line : (pieces : List (List ℕ)) → AllByRecursion IsLine pieces → IsLine (join_with_byte 32 pieces)
joined_line [] all = line_none
joined_line (piece ∷ []) all = all.0
joined_line (piece ∷ next ∷ pieces) all =
    line_append piece (32 ∷ join_with_byte 32 (next ∷ pieces)) all.0 (line_append (32 ∷ []) (join_with_byte 32 (next ∷ pieces)) (ascii_line (32 ∷ []) refl refl) (joined_line (next ∷ pieces) all.1))

pub run_line : (run : List TokenValue) → AreLineTokens run → IsLine (octets_of run)
run_line [] all = line_none
run_line (t ∷ run) all = line_append t.octets (octets_of run) all.0 (run_line run all.1)

split_lines-more : (b : Bool) (t : TokenValue) (runs : List (List TokenValue)) → IsLine t.octets → AllByRecursion AreLineTokens runs → AllByRecursion AreLineTokens (cond b ([] ∷ runs) (onto_first t runs))
split_lines-more true t runs line all = (tt, all)
split_lines-more false t [] line all = ((line, tt), tt)
split_lines-more false t (run ∷ runs) line all = ((line, all.0), all.1)

split_lines : (ts : List TokenValue) → AreLineTokens ts → AllByRecursion AreLineTokens (slice_split (λ (t : TokenValue). is_blank t.kind) ts)
split_lines [] all = (tt, tt)
split_lines (t ∷ ts) all = split_lines-more (is_blank t.kind) t (slice_split (λ (t : TokenValue). is_blank t.kind) ts) all.0 (split_lines ts all.1)

lines_there : (runs : List (List TokenValue)) → AllByRecursion AreLineTokens runs → AllByRecursion IsLine (map octets_of (filter is_there runs))
lines_there [] all = tt
lines_there ([] ∷ runs) all = lines_there runs all.1
lines_there ((t ∷ run) ∷ runs) all = (run_line (t ∷ run) all.0, lines_there runs all.1)

pub runs_are_lines : (style : Style) (tokens : List TokenValue) (text : List ℕ) → AreTokens style tokens text → IsLine text → AllByRecursion IsLine (map octets_of (runs_of tokens))
runs_are_lines style tokens text are line = lines_there (slice_split (λ (t : TokenValue). is_blank t.kind) tokens) (split_lines tokens (tokens_lines style tokens text are line))

-- the squeezed text of a line is a line, with lines as comments after it too
pub squeezed_line : (style : Style) (tokens : List TokenValue) (text : List ℕ) → AreTokens style tokens text → IsLine text → IsLine (squeezed_values tokens)
squeezed_line style tokens text are line = joined_line (map octets_of (runs_of tokens)) (runs_are_lines style tokens text are line)

pub squeezed_and_line : (style : Style) (tokens : List TokenValue) (text : List ℕ) (comments : List (List ℕ)) → AreTokens style tokens text → IsLine text → AllByRecursion (IsEnclosed comment_marks) comments
    → AllByRecursion IsLine comments → IsLine (squeezed_and tokens comments)
squeezed_and_line style tokens text comments are line groups lines =
    let again = squeezed_again style tokens text comments are groups in
    rw (again.pieces_are) (joined_line (map octets_of (runs_of tokens) ++ comments) (all-append IsLine (map octets_of (runs_of tokens)) comments (runs_are_lines style tokens text are line) lines))

-- what the squeezed text of a line is, with no comments after it
again_alone : (style : Style) (text : List ℕ) (tokens : List TokenValue) → HasTokenValues style text tokens → IsSqueezedAgain style tokens []
again_alone style text tokens has = squeezed_again style tokens text [] has.are_tokens tt

alone : (tokens : List TokenValue) → runs_and tokens [] ≡ runs_of tokens
alone tokens = append-nil (runs_of tokens)

pub squeezed_by_octets : (style : Style) (text : List ℕ) (tokens : List TokenValue) → HasTokenValues style text tokens → squeezed_text text (tokens_from 0 tokens) ≡ squeezed_values tokens
squeezed_by_octets style text tokens has = squeezed_text-values style text tokens has.are_tokens

pub squeezed_has_tokens : (style : Style) (text : List ℕ) (tokens : List TokenValue) → HasTokenValues style text tokens → HasTokenValues style (squeezed_values tokens) (joined_by_spaces (runs_of tokens))
squeezed_has_tokens style text tokens has = record {
  is_line = squeezed_line style tokens text has.are_tokens has.is_line;
  are_tokens = rw (alone tokens) at (again_alone style text tokens has).are_tokens;
}

pub squeezed_once : (style : Style) (text : List ℕ) (tokens : List TokenValue) → HasTokenValues style text tokens → squeezed_values (joined_by_spaces (runs_of tokens)) ≡ squeezed_values tokens
squeezed_once style text tokens has = rw (alone tokens) at (again_alone style text tokens has).squeezed_is

pub squeezed_no_comments : (style : Style) (text : List ℕ) (tokens : List TokenValue) → HasTokenValues style text tokens → comments_of (joined_by_spaces (runs_of tokens)) ≡ []
squeezed_no_comments style text tokens has = rw (alone tokens) at (again_alone style text tokens has).comments_are

pub squeezed_words : (style : Style) (text : List ℕ) (tokens : List TokenValue) → HasTokenValues style text tokens → words_of (joined_by_spaces (runs_of tokens)) ≡ words_of tokens
squeezed_words style text tokens has = rw (alone tokens) at (again_alone style text tokens has).words_are
