-- Lists of tokens with a space between any two.
use Rattle.std.proofs.Common.{◌≡◌, ℕ, ◌<◌, Bool, true, false, not, cond, ◌&&◌, inl, inr, List, [], ◌∷◌, ◌++◌, length, map, filter, refl, sym, ap, ◌∙◌, subst, arith}
use Rattle.std.proofs.lemmas.Bool.{cases_Bool, and_parts, not-true}
use Rattle.std.proofs.lemmas.Bool.Decides.{nat_tests}
use Rattle.std.proofs.lemmas.Grind.{flat_map-append}
use Rattle.std.proofs.lemmas.List.{append_assoc, append-nil, length-append, map-append}
use Rattle.std.proofs.lemmas.List.Elements.{filter-append}
use Rattle.std.proofs.lemmas.List.Splits.{length-slice_split, slice_split-cons_yes}
use Rattle.std.specs.List.{AllByRecursion, list_all, flat_map, join_with_byte, slice_split, onto_first}
use Rattle.mail_wire.specs.Octets.{is_white}
use Rattle.mail_wire.specs.Spans.{Stops, StopsAfter}
use Rattle.field_tokens.specs.declared.Style.{Style}
use Rattle.field_tokens.specs.declared.Style.TheVariants.{Mail, Mime}
use Rattle.field_tokens.specs.declared.TokenKind.{TokenKind}
use Rattle.field_tokens.specs.declared.TokenKind.TheVariants.{Atom, Quoted, Literal, Special, Gap, Comment}
use Rattle.field_tokens.specs.declared.groups.Marks.{Marks}
use Rattle.field_tokens.specs.TokenOctets.{is_special, is_mark, is_control, is_atom_octet}
use Rattle.field_tokens.specs.Groups.{IsEnclosed, inside_octets}
use Rattle.field_tokens.specs.Tokens.{comment_marks, quoted_marks, literal_marks, IsToken, BeginsToken, TokenValue, AreTokens}
use Rattle.field_tokens.specs.Squeezed.{is_blank, is_there, runs_of, octets_of, is_comment, comments_of, words_of, is_gap, space, joined_by_spaces, IsPart}
use Rattle.field_tokens.proofs.TokenLists.{token_octets_some}
use Rattle.field_tokens.proofs.TokenLemmas.{kind_is}

-- no gap begins the tokens, or ends them
abbrev pub BeginsNoGap : List TokenValue → Type 0
BeginsNoGap [] = Unit {0}
BeginsNoGap (t ∷ ts) = is_gap t.kind ≡ false

abbrev pub EndsNoGap : List TokenValue → Type 0
EndsNoGap [] = Unit {0}
EndsNoGap (t ∷ []) = is_gap t.kind ≡ false
EndsNoGap (t ∷ u ∷ ts) = EndsNoGap (u ∷ ts)

-- what a part begins and ends with, by recursion
pub part_begins : (style : Style) (part : List TokenValue) → IsPart style part → BeginsNoGap part
part_begins style part is = rw (is.begins.2) is.begins.3

pub EndsNoGap-append : (a b : List TokenValue) → 0 < length b → EndsNoGap b → EndsNoGap (a ++ b)
EndsNoGap-append [] b some ends = ends
EndsNoGap-append (t ∷ []) [] some ends = absurd (omega (arith, some))
EndsNoGap-append (t ∷ []) (u ∷ b) some ends = ends
EndsNoGap-append (t ∷ u ∷ a) b some ends = EndsNoGap-append (u ∷ a) b some ends

pub part_ends : (style : Style) (part : List TokenValue) → IsPart style part → EndsNoGap part
part_ends style part is = rw (is.ends.2) (EndsNoGap-append is.ends.0 (is.ends.1 ∷ []) (omega arith) is.ends.3)

-- tokens that are no part unless the first and the last are no gaps
last_of : (t : TokenValue) (ts : List TokenValue) → EndsNoGap (t ∷ ts) → (others : List TokenValue) × (last : TokenValue) × (t ∷ ts ≡ others ++ last ∷ []) × (is_gap last.kind ≡ false)
last_of t [] ends = ([], t, refl, ends)
last_of t (u ∷ ts) ends = let more = last_of u ts ends in (t ∷ more.0, more.1, ap (λ r. t ∷ r) more.2, more.3)

pub part_of : (style : Style) (part : List TokenValue) → 0 < length part → AreTokens style part (octets_of part) → BeginsNoGap part → EndsNoGap part → IsPart style part
part_of style [] some are begins ends = absurd (omega (arith, some))
part_of style (t ∷ ts) some are begins ends = record { are_tokens = are; begins = (t, ts, refl, begins); ends = last_of t ts ends }

-- a token before what begins like what it stood before
pub IsToken-alike : (style : Style) (kind : TokenKind) (octets x y : List ℕ) → ((p : ℕ → Bool) → Stops p x → Stops p y) → IsToken style kind octets x → IsToken style kind octets y
IsToken-alike style Gap octets x y alike is = (is.0, record { whole = refl; passes = is.1.passes; stops = alike is_white is.1.stops })
IsToken-alike style Atom octets x y alike is = (is.0, record { whole = refl; passes = is.1.passes; stops = alike (is_atom_octet style) is.1.stops })
IsToken-alike style Special octets x y alike is = is
IsToken-alike style Comment octets x y alike is = is
IsToken-alike style Quoted octets x y alike is = is
IsToken-alike style Literal octets x y alike is = is

pub stops_more : (p : ℕ → Bool) (x more : List ℕ) → 0 < length x → Stops p x → Stops p (x ++ more)
stops_more p [] more some stops = absurd (omega (arith, some))
stops_more p (b ∷ x) more some stops = stops

pub stops_front : (p : ℕ → Bool) (x more : List ℕ) → Stops p (x ++ more) → Stops p x
stops_front p [] more stops = tt
stops_front p (b ∷ x) more stops = stops

-- a token that is no gap, before what begins with no octet of atoms
pub IsToken-before : (style : Style) (kind : TokenKind) (octets next : List ℕ) → is_gap kind ≡ false → Stops (is_atom_octet style) next → IsToken style kind octets [] → IsToken style kind octets next
IsToken-before style Gap octets next nonwhite stops is = cc nonwhite
IsToken-before style Atom octets next nonwhite stops is = (is.0, record { whole = refl; passes = is.1.passes; stops = stops })
IsToken-before style Special octets next nonwhite stops is = is
IsToken-before style Comment octets next nonwhite stops is = is
IsToken-before style Quoted octets next nonwhite stops is = is
IsToken-before style Literal octets next nonwhite stops is = is

pub tokens_some : (style : Style) (t : TokenValue) (ts : List TokenValue) (text : List ℕ) → AreTokens style (t ∷ ts) text → 0 < length text
tokens_some style t ts text are = omega (arith, ap length are.1, length-append t.octets are.0, token_octets_some style t.kind t.octets are.0 are.2)

-- tokens before others whose text begins with no octet of atoms
pub AreTokens-append : (style : Style) (a b : List TokenValue) (x y : List ℕ) → AreTokens style a x → EndsNoGap a → Stops (is_atom_octet style) y → AreTokens style b y → AreTokens style (a ++ b) (x ++ y)
AreTokens-append style [] b x y are ends stops more = subst (λ r. AreTokens style b (r ++ y)) (sym are) more
AreTokens-append style (t ∷ []) b x y are ends stops more =
    let whole : x ≡ t.octets = are.1 ∙ ap (λ r. t.octets ++ r) are.3 ∙ append-nil t.octets in
    let is : IsToken style t.kind t.octets [] = subst (IsToken style t.kind t.octets) are.3 are.2 in
    (y, ap (λ r. r ++ y) whole, IsToken-before style t.kind t.octets y ends stops is, more)
AreTokens-append style (t ∷ u ∷ ts) b x y are ends stops more =
    let some : 0 < length are.0 = tokens_some style u ts are.0 are.3 in
    (are.0 ++ y, ap (λ r. r ++ y) are.1 ∙ append_assoc t.octets are.0 y, IsToken-alike style t.kind t.octets are.0 (are.0 ++ y) (λ p. stops_more p are.0 y some) are.2, AreTokens-append style (u ∷ ts) b are.0 y are.3 ends stops more)

-- a token that is no gap begins with no white octet
first_nonwhite : (style : Style) (kind : TokenKind) (b : ℕ) (after octets rest : List ℕ) → b ∷ after ≡ octets ++ rest → IsToken style kind octets rest → is_gap kind ≡ false → is_white b ≡ false
first_nonwhite style kind b after octets rest e is nonwhite = elim (cases_Bool (is_white b)) [
  | inl white ↦
      let begins : BeginsToken style kind (b ∷ after) rest = record { octets = octets; whole = e; is_token = is } in
      let class = kind_is style kind b (b ∷ after) after rest refl begins in
      let both = rw (white) at class in
      let same : Gap ≡ kind = cc both in
      cc (ap is_gap same, nonwhite)
  | inr other ↦ other
]

pub AreTokens-begin : (style : Style) (ts : List TokenValue) (text : List ℕ) → AreTokens style ts text → BeginsNoGap ts → Stops is_white text
AreTokens-begin style ts [] are begins = tt
AreTokens-begin style [] (b ∷ text) are begins = absurd (omega (arith, ap length are))
AreTokens-begin style (t ∷ ts) (b ∷ text) are begins = first_nonwhite style t.kind b text t.octets are.0 are.1 are.2 begins

pub StopsAfter-append : (p : ℕ → Bool) (xs ys : List ℕ) → 0 < length ys → StopsAfter p ys → StopsAfter p (xs ++ ys)
StopsAfter-append p [] ys some h = h
StopsAfter-append p (x ∷ []) [] some h = absurd (omega (arith, some))
StopsAfter-append p (x ∷ []) (y ∷ ys) some h = h
StopsAfter-append p (x ∷ z ∷ xs) ys some h = StopsAfter-append p (z ∷ xs) ys some h

all_after : (p q : ℕ → Bool) (xs : List ℕ) → ((x : ℕ) → p x ≡ true → q x ≡ false) → list_all p xs ≡ true → StopsAfter q xs
all_after p q [] joined_by_spaces all = tt
all_after p q (x ∷ []) joined_by_spaces all = joined_by_spaces x (and_parts (p x) true all).0
all_after p q (x ∷ y ∷ xs) joined_by_spaces all = all_after p q (y ∷ xs) joined_by_spaces (and_parts (p x) (list_all p (y ∷ xs)) all).1

atom_nonwhite : (style : Style) (x : ℕ) → is_atom_octet style x ≡ true → is_white x ≡ false
atom_nonwhite style x h = not-true (is_white x) (and_parts (not (is_white x)) (not (is_special style x) && (not (is_mark style x) && not (is_control x))) h).0

special_nonwhite : (style : Style) (x : ℕ) → is_special style x ≡ true → is_white x ≡ false
special_nonwhite Mail x h = grind (arith, nat_tests)
special_nonwhite Mime x h = grind (arith, nat_tests)

group_nonwhite : (m : Marks) (octets : List ℕ) → is_white m.close_mark ≡ false → IsEnclosed m octets → StopsAfter is_white octets
group_nonwhite m octets nonwhite g = rw (g.spelled) (StopsAfter-append is_white (m.open_mark ∷ inside_octets m g.inside) (m.close_mark ∷ []) (omega arith) nonwhite)

-- a token that is no gap ends with no white octet
last_nonwhite : (style : Style) (kind : TokenKind) (octets rest : List ℕ) → is_gap kind ≡ false → IsToken style kind octets rest → StopsAfter is_white octets
last_nonwhite style Gap octets rest nonwhite is = cc nonwhite
last_nonwhite style Atom octets rest nonwhite is = all_after (is_atom_octet style) is_white octets (atom_nonwhite style) is.1.passes
last_nonwhite style Special octets rest nonwhite is = rw (is.1) (special_nonwhite style is.0 is.2)
last_nonwhite style Comment octets rest nonwhite is = group_nonwhite comment_marks octets refl is
last_nonwhite style Quoted octets rest nonwhite is = group_nonwhite quoted_marks octets refl is
last_nonwhite style Literal octets rest nonwhite is = group_nonwhite literal_marks octets refl is.1

pub AreTokens-end : (style : Style) (ts : List TokenValue) (text : List ℕ) → AreTokens style ts text → EndsNoGap ts → StopsAfter is_white text
AreTokens-end style [] text are ends = rw (are) tt
AreTokens-end style (t ∷ []) text are ends =
    let whole : text ≡ t.octets = are.1 ∙ ap (λ r. t.octets ++ r) are.3 ∙ append-nil t.octets in
    rw (whole) (last_nonwhite style t.kind t.octets are.0 ends are.2)
AreTokens-end style (t ∷ u ∷ ts) text are ends = rw (are.1) (StopsAfter-append is_white t.octets are.0 (tokens_some style u ts are.0 are.3) (AreTokens-end style (u ∷ ts) are.0 are.3 ends))

-- a space between tokens
pub AreTokens-space : (style : Style) (a b : List TokenValue) (x y : List ℕ) → AreTokens style a x → EndsNoGap a → AreTokens style b y → BeginsNoGap b → AreTokens style (a ++ space ∷ b) (x ++ 32 ∷ y)
AreTokens-space style a b x y are ends more begins =
    let gap : IsToken style Gap (32 ∷ []) y = (omega arith, record { whole = refl; passes = refl; stops = AreTokens-begin style b y more begins }) in
    AreTokens-append style a (space ∷ b) x (32 ∷ y) are ends refl (y, refl, gap, more)

pub joined_begins : (style : Style) (parts : List (List TokenValue)) → AllByRecursion (IsPart style) parts → BeginsNoGap (joined_by_spaces parts)
joined_begins style [] all = tt
joined_begins style (part ∷ []) all = part_begins style part all.0
joined_begins style (part ∷ next ∷ parts) all = rw (all.0.begins.2) all.0.begins.3

-- something is there
pub joined_some : (style : Style) (part : List TokenValue) (parts : List (List TokenValue)) → AllByRecursion (IsPart style) (part ∷ parts) → 0 < length (joined_by_spaces (part ∷ parts))
joined_some style part [] all = rw (all.0.begins.2) (omega arith)
joined_some style part (next ∷ parts) all = omega (arith, length-append part (space ∷ joined_by_spaces (next ∷ parts)))

pub joined_ends : (style : Style) (parts : List (List TokenValue)) → AllByRecursion (IsPart style) parts → EndsNoGap (joined_by_spaces parts)
joined_ends style [] all = tt
joined_ends style (part ∷ []) all = part_ends style part all.0
joined_ends style (part ∷ next ∷ parts) all =
    let following : EndsNoGap (space ∷ joined_by_spaces (next ∷ parts)) = EndsNoGap-append (space ∷ []) (joined_by_spaces (next ∷ parts)) (joined_some style next parts all.1) (joined_ends style (next ∷ parts) all.1) in
    EndsNoGap-append part (space ∷ joined_by_spaces (next ∷ parts)) (omega arith) following

-- parts with a space between any two are the tokens of their texts with a space between any two
pub AreTokens-joined_by_spaces : (style : Style) (parts : List (List TokenValue)) → AllByRecursion (IsPart style) parts → AreTokens style (joined_by_spaces parts) (join_with_byte 32 (map octets_of parts))
AreTokens-joined_by_spaces style [] all = refl
AreTokens-joined_by_spaces style (part ∷ []) all = all.0.are_tokens
AreTokens-joined_by_spaces style (part ∷ next ∷ parts) all =
    AreTokens-space style part (joined_by_spaces (next ∷ parts)) (octets_of part) (join_with_byte 32 (map octets_of (next ∷ parts))) all.0.are_tokens (part_ends style part all.0)
    (AreTokens-joined_by_spaces style (next ∷ parts) all.1) (joined_begins style (next ∷ parts) all.1)

-- the octets of its tokens are the text
pub octets_of-tokens : (style : Style) (tokens : List TokenValue) (text : List ℕ) → AreTokens style tokens text → octets_of tokens ≡ text
octets_of-tokens style [] text are = sym are
octets_of-tokens style (t ∷ ts) text are = ap (λ r. t.octets ++ r) (octets_of-tokens style ts are.0 are.3) ∙ sym are.1

-- lists are split at an element that passes
onto_first-append : {X : Type 0} (x : X) (parts more : List (List X)) → 0 < length parts → onto_first x (parts ++ more) ≡ onto_first x parts ++ more
onto_first-append x [] more some = absurd (omega (arith, some))
onto_first-append x (part ∷ parts) more some = refl

split_more : {X : Type 0} (b : Bool) (x : X) (whole parts more : List (List X)) → whole ≡ parts ++ more → 0 < length parts → cond b ([] ∷ whole) (onto_first x whole) ≡ cond b ([] ∷ parts) (onto_first x parts) ++ more
split_more true x whole parts more e some = ap (λ r. [] ∷ r) e
split_more false x whole parts more e some = ap (onto_first x) e ∙ onto_first-append x parts more some

split-append : {X : Type 0} (p : X → Bool) (a : List X) (x : X) (b : List X) → p x ≡ true → slice_split p (a ++ x ∷ b) ≡ slice_split p a ++ slice_split p b
split-append p [] x b e = slice_split-cons_yes p x b e
split-append p (y ∷ a) x b e = split_more (p y) y (slice_split p (a ++ x ∷ b)) (slice_split p a) (slice_split p b) (split-append p a x b e) (omega (arith, length-slice_split p a))

-- runs, comments and words of tokens with a space between them
pub runs_of-space : (a b : List TokenValue) → runs_of (a ++ space ∷ b) ≡ runs_of a ++ runs_of b
runs_of-space a b =
    let p : TokenValue → Bool = λ token. is_blank token.kind in
    ap (filter is_there) (split-append p a space b refl) ∙ filter-append is_there (slice_split p a) (slice_split p b)

pub comments_of-append : (a b : List TokenValue) → comments_of (a ++ b) ≡ comments_of a ++ comments_of b
comments_of-append a b =
    let p : TokenValue → Bool = λ token. is_comment token.kind in
    ap (map (λ (token : TokenValue). token.octets)) (filter-append p a b) ∙ map-append (λ (token : TokenValue). token.octets) (filter p a) (filter p b)

pub octets_of-append : (a b : List TokenValue) → octets_of (a ++ b) ≡ octets_of a ++ octets_of b
octets_of-append a b = flat_map-append (λ (token : TokenValue). token.octets) a b

pub words_of-append : (a b : List TokenValue) → words_of (a ++ b) ≡ words_of a ++ words_of b
words_of-append a b = filter-append (λ (token : TokenValue). not (is_blank token.kind)) a b

pub runs_of-joined_by_spaces : (parts : List (List TokenValue)) → runs_of (joined_by_spaces parts) ≡ flat_map runs_of parts
runs_of-joined_by_spaces [] = refl
runs_of-joined_by_spaces (part ∷ []) = sym (append-nil (runs_of part))
runs_of-joined_by_spaces (part ∷ next ∷ parts) = runs_of-space part (joined_by_spaces (next ∷ parts)) ∙ ap (λ r. runs_of part ++ r) (runs_of-joined_by_spaces (next ∷ parts))

pub comments_of-joined_by_spaces : (parts : List (List TokenValue)) → comments_of (joined_by_spaces parts) ≡ flat_map comments_of parts
comments_of-joined_by_spaces [] = refl
comments_of-joined_by_spaces (part ∷ []) = sym (append-nil (comments_of part))
comments_of-joined_by_spaces (part ∷ next ∷ parts) = comments_of-append part (space ∷ joined_by_spaces (next ∷ parts)) ∙ ap (λ r. comments_of part ++ r) (comments_of-joined_by_spaces (next ∷ parts))

pub words_of-joined_by_spaces : (parts : List (List TokenValue)) → words_of (joined_by_spaces parts) ≡ flat_map words_of parts
words_of-joined_by_spaces [] = refl
words_of-joined_by_spaces (part ∷ []) = sym (append-nil (words_of part))
words_of-joined_by_spaces (part ∷ next ∷ parts) = words_of-append part (space ∷ joined_by_spaces (next ∷ parts)) ∙ ap (λ r. words_of part ++ r) (words_of-joined_by_spaces (next ∷ parts))

-- comments as parts
abbrev pub comment_part : List ℕ → List TokenValue
comment_part c = record { kind = Comment; octets = c } ∷ []

abbrev pub comment_parts : List (List ℕ) → List (List TokenValue)
comment_parts cs = map comment_part cs

pub comment_is_part : (style : Style) (c : List ℕ) → IsEnclosed comment_marks c → IsPart style (comment_part c)
comment_is_part style c is = part_of style (comment_part c) (omega arith) ([], refl, is, refl) refl refl

pub comments_are_parts : (style : Style) (cs : List (List ℕ)) → AllByRecursion (IsEnclosed comment_marks) cs → AllByRecursion (IsPart style) (comment_parts cs)
comments_are_parts style [] all = tt
comments_are_parts style (c ∷ cs) all = (comment_is_part style c all.0, comments_are_parts style cs all.1)

pub comment_parts-runs : (cs : List (List ℕ)) → flat_map runs_of (comment_parts cs) ≡ []
comment_parts-runs [] = refl
comment_parts-runs (c ∷ cs) = comment_parts-runs cs

pub comment_parts-comments : (cs : List (List ℕ)) → flat_map comments_of (comment_parts cs) ≡ cs
comment_parts-comments [] = refl
comment_parts-comments (c ∷ cs) = ap (λ r. c ∷ r) (comment_parts-comments cs)

pub comment_parts-words : (cs : List (List ℕ)) → flat_map words_of (comment_parts cs) ≡ []
comment_parts-words [] = refl
comment_parts-words (c ∷ cs) = comment_parts-words cs

pub comment_parts-octets : (cs : List (List ℕ)) → map octets_of (comment_parts cs) ≡ cs
comment_parts-octets [] = refl
comment_parts-octets (c ∷ cs) = ap (λ r. r ∷ map octets_of (comment_parts cs)) (append-nil c) ∙ ap (λ r. c ∷ r) (comment_parts-octets cs)
