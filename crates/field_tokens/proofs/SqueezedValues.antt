-- The runs of tokens between gaps and comments, and the tokens of squeezed text.
use Rattle.std.proofs.Common.{◌≡◌, ℕ, ◌+◌, ◌<◌, Bool, true, false, not, cond, List, [], ◌∷◌, ◌++◌, length, take, drop, map, filter, refl, sym, ap, ◌∙◌, subst, arith}
use Rattle.std.proofs.lemmas.Grind.{flat_map-append}
use Rattle.std.proofs.lemmas.List.{append_assoc, append-nil, length-append, map-append, take_at, drop_at}
use Rattle.std.proofs.lemmas.List.Folds.{flat_map-map}
use Rattle.std.specs.List.{AllByRecursion, flat_map, join_with_byte, slice_split, onto_first}
use Rattle.mail_wire.specs.Octets.{is_white}
use Rattle.mail_wire.specs.Spans.{Stops, StopsAfter}
use Rattle.mail_wire.proofs.AllLemmas.{all-append}
use Rattle.field_tokens.specs.declared.Style.{Style}
use Rattle.field_tokens.specs.declared.Token.{Token}
use Rattle.field_tokens.specs.declared.TokenKind.{TokenKind}
use Rattle.field_tokens.specs.declared.TokenKind.TheVariants.{Atom, Quoted, Literal, Special, Gap, Comment}
use Rattle.field_tokens.specs.Groups.{IsEnclosed}
use Rattle.field_tokens.specs.Tokens.{comment_marks, IsToken, TokenValue, AreTokens, tokens_from, octets_at}
use Rattle.field_tokens.specs.Squeezed.{is_blank, run_octets, is_there, squeezed_text, runs_of, octets_of, squeezed_values, is_comment, comments_of, words_of, is_gap, joined_by_spaces, IsPart}
use Rattle.field_tokens.proofs.TokenLists.{token_at}
use Rattle.field_tokens.proofs.Parts.{BeginsNoGap, EndsNoGap, part_of, IsToken-alike, stops_front, AreTokens-begin, AreTokens-end, AreTokens-joined_by_spaces, joined_begins, joined_ends, runs_of-joined_by_spaces, comments_of-joined_by_spaces, words_of-joined_by_spaces, comment_parts, comments_are_parts, comment_parts-runs, comment_parts-comments, comment_parts-words, comment_parts-octets}

-- a token of the text by its octets
abbrev pub value_at : List ℕ → Token → TokenValue
value_at text token = record { kind = token.kind; octets = octets_at text token.span }

-- the parts of a list of values are the values of the parts
onto_mapped : {X Y : Type 0} (f : X → Y) (x : X) (parts : List (List X)) → onto_first (f x) (map (map f) parts) ≡ map (map f) (onto_first x parts)
onto_mapped f x [] = refl
onto_mapped f x (part ∷ parts) = refl

split_mapped : {X Y : Type 0} (b : Bool) (f : X → Y) (x : X) (mapped : List (List Y)) (parts : List (List X)) → mapped ≡ map (map f) parts
    → cond b ([] ∷ mapped) (onto_first (f x) mapped) ≡ map (map f) (cond b ([] ∷ parts) (onto_first x parts))
split_mapped true f x mapped parts e = ap (λ r. [] ∷ r) e
split_mapped false f x mapped parts e = ap (onto_first (f x)) e ∙ onto_mapped f x parts

split-map : {X Y : Type 0} (p : Y → Bool) (f : X → Y) (xs : List X) → slice_split p (map f xs) ≡ map (map f) (slice_split (λ x. p (f x)) xs)
split-map p f [] = refl
split-map p f (x ∷ xs) = split_mapped (p (f x)) f x (slice_split p (map f xs)) (slice_split (λ x. p (f x)) xs) (split-map p f xs)

there-map : {X Y : Type 0} (f : X → Y) (parts : List (List X)) → filter is_there (map (map f) parts) ≡ map (map f) (filter is_there parts)
there-map f [] = refl
there-map f ([] ∷ parts) = there-map f parts
there-map f ((x ∷ part) ∷ parts) = ap (λ r. map f (x ∷ part) ∷ r) (there-map f parts)

octets-map : (text : List ℕ) (runs : List (List Token)) → map octets_of (map (map (value_at text)) runs) ≡ map (run_octets text) runs
octets-map text [] = refl
octets-map text (run ∷ runs) =
    ap (λ r. r ∷ map octets_of (map (map (value_at text)) runs)) (flat_map-map (λ (t : TokenValue). t.octets) (value_at text) run) ∙ ap (λ r. run_octets text run ∷ r) (octets-map text runs)

pub squeezed_values-at : (text : List ℕ) (tokens : List Token) → squeezed_values (map (value_at text) tokens) ≡ squeezed_text text tokens
squeezed_values-at text tokens =
    let runs : List (List Token) = slice_split (λ token. is_blank token.kind) tokens in
    ap (λ r. join_with_byte 32 (map octets_of (filter is_there r))) (split-map (λ (t : TokenValue). is_blank t.kind) (value_at text) tokens)
    ∙ ap (λ r. join_with_byte 32 (map octets_of r)) (there-map (value_at text) runs) ∙ ap (join_with_byte 32) (octets-map text (filter is_there runs))

-- the tokens of a text by their places, and again by their octets
values_from : (style : Style) (text front rest : List ℕ) (ts : List TokenValue) → text ≡ front ++ rest → AreTokens style ts rest → map (value_at text) (tokens_from (length front) ts) ≡ ts
values_from style text front rest [] e are = refl
values_from style text front rest (t ∷ ts) e are =
    let onward : text ≡ (front ++ t.octets) ++ are.0 = e ∙ ap (λ r. front ++ r) are.1 ∙ sym (append_assoc front t.octets are.0) in
    let more = values_from style text (front ++ t.octets) are.0 ts onward are.3 in
    let place : length (front ++ t.octets) ≡ length front + length t.octets = length-append front t.octets in
    let following : drop (length front) text ≡ rest = ap (drop (length front)) e ∙ drop_at front rest (length front) refl in
    let head : octets_at text (token_at (length front) t).span ≡ t.octets = rw (following) (ap (take (length t.octets)) are.1 ∙ take_at t.octets are.0 (length t.octets) refl) in
    rw (head) (ap (λ r. t ∷ r) (rw (place) at more))

pub values_at : (style : Style) (text : List ℕ) (values : List TokenValue) → AreTokens style values text → map (value_at text) (tokens_from 0 values) ≡ values
values_at style text values are = values_from style text [] text values refl are

-- squeezed text by places is squeezed text by octets
pub squeezed_text-values : (style : Style) (text : List ℕ) (values : List TokenValue) → AreTokens style values text → squeezed_text text (tokens_from 0 values) ≡ squeezed_values values
squeezed_text-values style text values are = sym (squeezed_values-at text (tokens_from 0 values)) ∙ ap squeezed_values (values_at style text values are)

-- no gaps and no comments
abbrev pub AreKept : List TokenValue → Type 0
AreKept ts = AllByRecursion (λ (t : TokenValue). is_blank t.kind ≡ false) ts

pub kept_no_comment : (kind : TokenKind) → is_blank kind ≡ false → is_comment kind ≡ false
kept_no_comment Atom e = refl
kept_no_comment Quoted e = refl
kept_no_comment Literal e = refl
kept_no_comment Special e = refl
kept_no_comment Gap e = refl
kept_no_comment Comment e = cc e

pub kept_no_gap : (kind : TokenKind) → is_blank kind ≡ false → is_gap kind ≡ false
kept_no_gap Atom e = refl
kept_no_gap Quoted e = refl
kept_no_gap Literal e = refl
kept_no_gap Special e = refl
kept_no_gap Gap e = cc e
kept_no_gap Comment e = refl

pub kept_split : (ts : List TokenValue) → AreKept ts → slice_split (λ (t : TokenValue). is_blank t.kind) ts ≡ ts ∷ []
kept_split [] kept = refl
kept_split (t ∷ ts) kept = rw (kept.0, kept_split ts kept.1) refl

kept_runs : (ts : List TokenValue) → 0 < length ts → AreKept ts → runs_of ts ≡ ts ∷ []
kept_runs [] some kept = absurd (omega (arith, some))
kept_runs (t ∷ ts) some kept = ap (filter is_there) (kept_split (t ∷ ts) kept)

pub kept_comments : (ts : List TokenValue) → AreKept ts → comments_of ts ≡ []
kept_comments [] kept = refl
kept_comments (t ∷ ts) kept = rw (kept_no_comment t.kind kept.0) (kept_comments ts kept.1)

kept_words : (ts : List TokenValue) → AreKept ts → words_of ts ≡ ts
kept_words [] kept = refl
kept_words (t ∷ ts) kept = rw (kept.0) (ap (λ r. t ∷ r) (kept_words ts kept.1))

kept_begins : (ts : List TokenValue) → AreKept ts → BeginsNoGap ts
kept_begins [] kept = tt
kept_begins (t ∷ ts) kept = kept_no_gap t.kind kept.0

pub kept_ends : (ts : List TokenValue) → AreKept ts → EndsNoGap ts
kept_ends [] kept = tt
kept_ends (t ∷ []) kept = kept_no_gap t.kind kept.0
kept_ends (t ∷ u ∷ ts) kept = kept_ends (u ∷ ts) kept.1

-- a run is its one run, and all its tokens are words
pub record IsRunOfTokens (run : List TokenValue) : Type 0 where
  pub some : 0 < length run
  pub kept : AreKept run
  pub runs_are : runs_of run ≡ run ∷ []
  pub comments_are : comments_of run ≡ []
  pub words_are : words_of run ≡ run

split_kept-more : (b : Bool) (t : TokenValue) (runs : List (List TokenValue)) → is_blank t.kind ≡ b → AllByRecursion AreKept runs → AllByRecursion AreKept (cond b ([] ∷ runs) (onto_first t runs))
split_kept-more true t runs e all = (tt, all)
split_kept-more false t [] e all = ((e, tt), tt)
split_kept-more false t (run ∷ runs) e all = ((e, all.0), all.1)

split_kept : (ts : List TokenValue) → AllByRecursion AreKept (slice_split (λ (t : TokenValue). is_blank t.kind) ts)
split_kept [] = (tt, tt)
split_kept (t ∷ ts) = split_kept-more (is_blank t.kind) t (slice_split (λ (t : TokenValue). is_blank t.kind) ts) refl (split_kept ts)

kept_there : (runs : List (List TokenValue)) → AllByRecursion AreKept runs → AllByRecursion IsRunOfTokens (filter is_there runs)
kept_there [] all = tt
kept_there ([] ∷ runs) all = kept_there runs all.1
kept_there ((t ∷ run) ∷ runs) all =
    let kept : AreKept (t ∷ run) = all.0 in
    (record { some = omega arith; kept = kept; runs_are = kept_runs (t ∷ run) (omega arith) kept; comments_are = kept_comments (t ∷ run) kept; words_are = kept_words (t ∷ run) kept }, kept_there runs all.1)

pub runs_of-run : (tokens : List TokenValue) → AllByRecursion IsRunOfTokens (runs_of tokens)
runs_of-run tokens = kept_there (slice_split (λ (t : TokenValue). is_blank t.kind) tokens) (split_kept tokens)

flat_runs : (runs : List (List TokenValue)) → AllByRecursion IsRunOfTokens runs → flat_map runs_of runs ≡ runs
flat_runs [] all = refl
flat_runs (run ∷ runs) all = ap (λ r. r ++ flat_map runs_of runs) all.0.runs_are ∙ ap (λ r. run ∷ r) (flat_runs runs all.1)

flat_comments : (runs : List (List TokenValue)) → AllByRecursion IsRunOfTokens runs → flat_map comments_of runs ≡ []
flat_comments [] all = refl
flat_comments (run ∷ runs) all = ap (λ r. r ++ flat_map comments_of runs) all.0.comments_are ∙ flat_comments runs all.1

pub runs_of-runs : (tokens : List TokenValue) → flat_map runs_of (runs_of tokens) ≡ runs_of tokens
runs_of-runs tokens = flat_runs (runs_of tokens) (runs_of-run tokens)

pub comments_of-runs : (tokens : List TokenValue) → flat_map comments_of (runs_of tokens) ≡ []
comments_of-runs tokens = flat_comments (runs_of tokens) (runs_of-run tokens)

words_more : (b : Bool) (t : TokenValue) (runs : List (List TokenValue)) → is_blank t.kind ≡ b
    → flat_map words_of (cond b ([] ∷ runs) (onto_first t runs)) ≡ cond (not b) (t ∷ flat_map words_of runs) (flat_map words_of runs)
words_more true t runs e = refl
words_more false t [] e = rw (e) refl
words_more false t (run ∷ runs) e = rw (e) refl

words_split : (ts : List TokenValue) → flat_map words_of (slice_split (λ (t : TokenValue). is_blank t.kind) ts) ≡ words_of ts
words_split [] = refl
words_split (t ∷ ts) = words_more (is_blank t.kind) t (slice_split (λ (t : TokenValue). is_blank t.kind) ts) refl ∙ ap (λ r. cond (not (is_blank t.kind)) (t ∷ r) r) (words_split ts)

words_there : (runs : List (List TokenValue)) → flat_map words_of (filter is_there runs) ≡ flat_map words_of runs
words_there [] = refl
words_there ([] ∷ runs) = words_there runs
words_there ((t ∷ run) ∷ runs) = ap (λ r. words_of (t ∷ run) ++ r) (words_there runs)

pub words_of-runs : (tokens : List TokenValue) → flat_map words_of (runs_of tokens) ≡ words_of tokens
words_of-runs tokens = words_there (slice_split (λ (t : TokenValue). is_blank t.kind) tokens) ∙ words_split tokens

-- the octets of a list of tokens are its text
abbrev pub IsRead : Style → List TokenValue → Type 0
IsRead style tokens = AreTokens style tokens (octets_of tokens)

-- what a text is cut into: the first run begins it
abbrev CutsRuns : Style → List ℕ → List (List TokenValue) → Type 0
CutsRuns style text [] = ⊥
CutsRuns style text (run ∷ runs) = (more : List ℕ) × (text ≡ octets_of run ++ more) × IsRead style run × AllByRecursion (IsRead style) runs

cuts_more : (style : Style) (b : Bool) (t : TokenValue) (text rest : List ℕ) (runs : List (List TokenValue)) → text ≡ t.octets ++ rest → IsToken style t.kind t.octets rest → CutsRuns style rest runs
    → CutsRuns style text (cond b ([] ∷ runs) (onto_first t runs))
cuts_more style b t text rest [] e is cuts = absurd cuts
cuts_more style true t text rest (run ∷ runs) e is cuts = (text, refl, refl, (cuts.2, cuts.3))
cuts_more style false t text rest (run ∷ runs) e is cuts =
    let first : IsToken style t.kind t.octets (octets_of run) = IsToken-alike style t.kind t.octets rest (octets_of run) (λ p stops. stops_front p (octets_of run) cuts.0 (subst (Stops p) cuts.1 stops)) is in
    (cuts.0, e ∙ ap (λ r. t.octets ++ r) cuts.1 ∙ sym (append_assoc t.octets (octets_of run) cuts.0), (octets_of run, refl, first, cuts.2), cuts.3)

cuts_runs : (style : Style) (tokens : List TokenValue) (text : List ℕ) → AreTokens style tokens text → CutsRuns style text (slice_split (λ (t : TokenValue). is_blank t.kind) tokens)
cuts_runs style [] text are = (text, refl, refl, tt)
cuts_runs style (t ∷ ts) text are = cuts_more style (is_blank t.kind) t text are.0 (slice_split (λ (t : TokenValue). is_blank t.kind) ts) are.1 are.2 (cuts_runs style ts are.0 are.3)

all_read : (style : Style) (text : List ℕ) (runs : List (List TokenValue)) → CutsRuns style text runs → AllByRecursion (IsRead style) runs
all_read style text [] cuts = tt
all_read style text (run ∷ runs) cuts = (cuts.2, cuts.3)

all_there : (style : Style) (runs : List (List TokenValue)) → AllByRecursion (IsRead style) runs → AllByRecursion (IsRead style) (filter is_there runs)
all_there style [] all = tt
all_there style ([] ∷ runs) all = all_there style runs all.1
all_there style ((t ∷ run) ∷ runs) all = (all.0, all_there style runs all.1)

runs_are_parts : (style : Style) (runs : List (List TokenValue)) → AllByRecursion IsRunOfTokens runs → AllByRecursion (IsRead style) runs → AllByRecursion (IsPart style) runs
runs_are_parts style [] all are = tt
runs_are_parts style (run ∷ runs) all are = (part_of style run all.0.some are.0 (kept_begins run all.0.kept) (kept_ends run all.0.kept), runs_are_parts style runs all.1 are.1)

-- the runs of the tokens of a text may stand between spaces
pub IsPart-runs : (style : Style) (tokens : List TokenValue) (text : List ℕ) → AreTokens style tokens text → AllByRecursion (IsPart style) (runs_of tokens)
IsPart-runs style tokens text are =
    let runs : List (List TokenValue) = slice_split (λ (t : TokenValue). is_blank t.kind) tokens in
    runs_are_parts style (runs_of tokens) (runs_of-run tokens) (all_there style runs (all_read style text runs (cuts_runs style tokens text are)))

-- the runs of tokens, and comments after them
abbrev pub runs_and : List TokenValue → List (List ℕ) → List (List TokenValue)
runs_and tokens comments = runs_of tokens ++ comment_parts comments

abbrev pub squeezed_and : List TokenValue → List (List ℕ) → List ℕ
squeezed_and tokens comments = join_with_byte 32 (map octets_of (runs_and tokens comments))

-- what the squeezed text of tokens is read as, with comments after it
pub record IsSqueezedAgain (style : Style) (tokens : List TokenValue) (comments : List (List ℕ)) : Type 0 where
  pub are_parts : AllByRecursion (IsPart style) (runs_and tokens comments)
  pub are_tokens : AreTokens style (joined_by_spaces (runs_and tokens comments)) (squeezed_and tokens comments)
  pub pieces_are : map octets_of (runs_and tokens comments) ≡ map octets_of (runs_of tokens) ++ comments
  pub runs_are : runs_of (joined_by_spaces (runs_and tokens comments)) ≡ runs_of tokens
  pub squeezed_is : squeezed_values (joined_by_spaces (runs_and tokens comments)) ≡ squeezed_values tokens
  pub comments_are : comments_of (joined_by_spaces (runs_and tokens comments)) ≡ comments
  pub words_are : words_of (joined_by_spaces (runs_and tokens comments)) ≡ words_of tokens
  pub begins : BeginsNoGap (joined_by_spaces (runs_and tokens comments))
  pub ends : EndsNoGap (joined_by_spaces (runs_and tokens comments))
  pub text_begins : Stops is_white (squeezed_and tokens comments)
  pub text_ends : StopsAfter is_white (squeezed_and tokens comments)

-- what the parts give, of what each gives
runs_and-flat : {A : Type 0} (f : List TokenValue → List A) (tokens : List TokenValue) (comments : List (List ℕ)) (front following : List A)
    → flat_map f (runs_of tokens) ≡ front → flat_map f (comment_parts comments) ≡ following → flat_map f (runs_and tokens comments) ≡ front ++ following
runs_and-flat f tokens comments front following p q = flat_map-append f (runs_of tokens) (comment_parts comments) ∙ rw (p, q) refl

pub squeezed_again : (style : Style) (tokens : List TokenValue) (text : List ℕ) (comments : List (List ℕ)) → AreTokens style tokens text → AllByRecursion (IsEnclosed comment_marks) comments → IsSqueezedAgain style tokens comments
squeezed_again style tokens text comments are all =
    let parts : List (List TokenValue) = runs_and tokens comments in
    let are_parts : AllByRecursion (IsPart style) parts
    = all-append (IsPart style) (runs_of tokens) (comment_parts comments) (IsPart-runs style tokens text are) (comments_are_parts style comments all) in
    let made : AreTokens style (joined_by_spaces parts) (squeezed_and tokens comments) = AreTokens-joined_by_spaces style parts are_parts in
    let begins : BeginsNoGap (joined_by_spaces parts) = joined_begins style parts are_parts in
    let ends : EndsNoGap (joined_by_spaces parts) = joined_ends style parts are_parts in
    let runs : runs_of (joined_by_spaces parts) ≡ runs_of tokens
    = runs_of-joined_by_spaces parts ∙ runs_and-flat runs_of tokens comments (runs_of tokens) [] (runs_of-runs tokens) (comment_parts-runs comments) ∙ append-nil (runs_of tokens) in
    record {
      are_parts = are_parts;
      are_tokens = made;
      pieces_are = map-append octets_of (runs_of tokens) (comment_parts comments) ∙ ap (λ r. map octets_of (runs_of tokens) ++ r) (comment_parts-octets comments);
      runs_are = runs;
      squeezed_is = ap (λ r. join_with_byte 32 (map octets_of r)) runs;
      comments_are = comments_of-joined_by_spaces parts ∙ runs_and-flat comments_of tokens comments [] comments (comments_of-runs tokens) (comment_parts-comments comments);
      words_are = words_of-joined_by_spaces parts ∙ runs_and-flat words_of tokens comments (words_of tokens) [] (words_of-runs tokens) (comment_parts-words comments) ∙ append-nil (words_of tokens);
      begins = begins;
      ends = ends;
      text_begins = AreTokens-begin style (joined_by_spaces parts) (squeezed_and tokens comments) made begins;
      text_ends = AreTokens-end style (joined_by_spaces parts) (squeezed_and tokens comments) made ends;
    }
