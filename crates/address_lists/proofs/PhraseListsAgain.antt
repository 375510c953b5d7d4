-- The pieces of phrases divided by commas are such phrases again.
use Rattle.std.proofs.Common.{◌≡◌, ℕ, ◌<◌, true, false, List, [], ◌∷◌, ◌++◌, length, map, refl, sym, ap, ◌∙◌, subst, arith}
use Rattle.std.proofs.lemmas.Bool.{and_parts}
use Rattle.std.proofs.lemmas.List.{append_assoc, append-nil, length-append, map-append}
use Rattle.std.specs.List.{AllByRecursion, join_with_byte}
use Rattle.std.specs.Str.{bytes_eq}
use Rattle.mail_wire.proofs.AllLemmas.{all-append}
use Rattle.encoded_words.specs.Words.{UnitValue}
use Rattle.encoded_words.specs.PhraseUnits.{HasPhraseUnits}
use Rattle.encoded_words.proofs.AllUnits.{HasPhraseUnits-some}
use Rattle.field_tokens.specs.declared.Style.TheVariants.{Mail}
use Rattle.field_tokens.specs.declared.TokenKind.{TokenKind}
use Rattle.field_tokens.specs.declared.TokenKind.TheVariants.{Atom, Quoted, Literal, Special, Gap, Comment}
use Rattle.field_tokens.specs.Tokens.{TokenValue, AreTokens}
use Rattle.field_tokens.specs.Squeezed.{octets_of, is_comment, comments_of, space, joined_by_spaces, IsPart, is_special_kind}
use Rattle.field_tokens.specs.Comments.{CommentValue, CommentsSay, IsLinePiece}
use Rattle.field_tokens.proofs.Parts.{tokens_some, AreTokens-begin, AreTokens-end, joined_begins, joined_some, joined_ends, AreTokens-joined_by_spaces, octets_of-tokens, comments_of-append}
use Rattle.field_tokens.proofs.TokenLines.{joined_line}
use Rattle.field_tokens.proofs.PieceLemmas.{join_same, pieces_lines}
use Rattle.address_grammar.specs.private.Lexemes.{HasMailTokens, is_special_of}
use Rattle.address_grammar.specs.Phrases.{IsPhrase, phrase_items}
use Rattle.address_lists.specs.PhrasePieces.{PlacePieces}
use Rattle.address_lists.specs.private.PhraseReadBack.{IsPhraseAgain}
use Rattle.address_lists.specs.PhraseLists.{IsOnePhrase, SaysPhrases, GivesOnePhrase, with_commas, PhrasesPieces}
use Rattle.address_lists.specs.private.PhraseListSteps.{ArePhrasesAgain}
use Rattle.address_grammar.specs.AddressLists.{Divided, SayParts, AreDivided}
use Rattle.address_grammar.specs.private.Walks.{SplitsPlace}
use Rattle.address_grammar.proofs.DividedLemmas.{divided_more, divided_one, divided_once}
use Rattle.address_grammar.proofs.PathLemmas.{HasTokenValues-once}
use Rattle.address_lists.proofs.PlaceTokens.{HasTokenValues-part}
use Rattle.address_lists.proofs.PhrasesAgain.{CommentsSay-append, say_both, phrase_before, units_before, PlacePieces-read}
use Rattle.address_lists.proofs.PhraseListLemmas.{phrase_walked, says_phrase_walked, says_phrase_once, phrases_of}

-- ---- places

-- each part is a phrase with these units and these pieces
abbrev EachPlace : List (List TokenValue) → List (List UnitValue) → List (List (List ℕ)) → Type 0
EachPlace [] [] [] = Unit {0}
EachPlace [] [] (ps ∷ places) = ⊥
EachPlace [] (us ∷ phrases) places = ⊥
EachPlace (part ∷ parts) [] places = ⊥
EachPlace (part ∷ parts) (us ∷ phrases) [] = ⊥
EachPlace (part ∷ parts) (us ∷ phrases) (ps ∷ places) = IsPhrase part × HasPhraseUnits (phrase_items part) us × PlacePieces part ps × EachPlace parts phrases places

abbrev PlacesSay : List (List TokenValue) → List (List (List ℕ)) → Type 0
PlacesSay parts places = (phrases : List (List UnitValue)) × EachPlace parts phrases places

place_says : (part : List TokenValue) (parts : List (List TokenValue)) (first others : List (List (List ℕ))) → GivesOnePhrase part first → PlacesSay parts others → PlacesSay (part ∷ parts) (first ++ others)
place_says part parts [] others is more = absurd is
place_says part parts (ps ∷ []) others is more = let units = HasPhraseUnits-some (phrase_items part) in (units.0 ∷ more.0, (is.0, units.1, is.1, more.1))
place_says part parts (ps ∷ qs ∷ rest) others is more = absurd is

places_say : (parts : List (List TokenValue)) (places : List (List (List ℕ))) → SayParts GivesOnePhrase parts places → PlacesSay parts places
places_say [] places say = rw (say) ([], tt)
places_say (part ∷ parts) places say = rw (say.2) (place_says part parts say.0 say.1 say.3 (places_say parts say.1 say.4))

each_says : (parts : List (List TokenValue)) (phrases : List (List UnitValue)) (places : List (List (List ℕ))) → EachPlace parts phrases places → SayParts IsOnePhrase parts phrases
each_says [] [] [] each = refl
each_says [] [] (ps ∷ places) each = absurd each
each_says [] (us ∷ phrases) places each = absurd each
each_says (part ∷ parts) [] places each = absurd each
each_says (part ∷ parts) (us ∷ phrases) [] each = absurd each
each_says (part ∷ parts) (us ∷ phrases) (ps ∷ places) each = (us ∷ [], phrases, refl, (each.0, each.1), each_says parts phrases places each.3)

-- ---- spaces

one_spaced : (ts : List TokenValue) (phrases : List (List UnitValue)) → IsOnePhrase ts phrases → IsOnePhrase (space ∷ ts) phrases
one_spaced ts [] is = absurd is
one_spaced ts (us ∷ []) is = (record { some = is.0.some; each = is.0.each }, record { places = is.1.places; are_places = is.1.are_places; says = is.1.says })
one_spaced ts (us ∷ vs ∷ more) is = absurd is

divided_spaced : (ts : List TokenValue) (phrases : List (List UnitValue)) → AreDivided IsOnePhrase ts phrases → AreDivided IsOnePhrase (space ∷ ts) phrases
divided_spaced ts phrases d = by d.parts d.divided d.say
  where
    by : (parts : List (List TokenValue)) → Divided 44 parts ts → SayParts IsOnePhrase parts phrases → AreDivided IsOnePhrase (space ∷ ts) phrases
    by [] div say = absurd div
    by (p ∷ []) div say = record { parts = (space ∷ p) ∷ []; divided = ap (λ r. space ∷ r) div; say = (say.0, say.1, say.2, one_spaced p say.0 say.3, say.4) }
    by (p ∷ n ∷ parts) div say = record {
      parts = (space ∷ p) ∷ n ∷ parts;
      divided = (div.0, div.1, ap (λ r. space ∷ r) div.2, div.3, div.4);
      say = (say.0, say.1, say.2, one_spaced p say.0 say.3, say.4);
    }

joined_by_spaces-append : (a b : List (List TokenValue)) → 0 < length a → 0 < length b → joined_by_spaces (a ++ b) ≡ joined_by_spaces a ++ space ∷ joined_by_spaces b
joined_by_spaces-append [] b sa sb = absurd (omega (arith, sa))
joined_by_spaces-append (p ∷ []) [] sa sb = absurd (omega (arith, sb))
joined_by_spaces-append (p ∷ []) (q ∷ b) sa sb = refl
joined_by_spaces-append (p ∷ n ∷ a) b sa sb = ap (λ r. p ++ space ∷ r) (joined_by_spaces-append (n ∷ a) b (omega arith) sb) ∙ sym (append_assoc p (space ∷ joined_by_spaces (n ∷ a)) (space ∷ joined_by_spaces b))

-- a comma by itself
abbrev pub comma : TokenValue
comma = record { kind = Special; octets = 44 ∷ [] }

comma_is_part : IsPart Mail (comma ∷ [])
comma_is_part = record { are_tokens = ([], refl, (44, refl, refl), refl); begins = (comma, [], refl, refl); ends = ([], comma, refl, refl) }

joined_by_spaces-comma : (a b : List (List TokenValue)) → 0 < length a → 0 < length b → joined_by_spaces (a ++ (comma ∷ []) ∷ b) ≡ (joined_by_spaces a ++ space ∷ []) ++ comma ∷ (space ∷ joined_by_spaces b)
joined_by_spaces-comma a [] sa sb = absurd (omega (arith, sb))
joined_by_spaces-comma a (q ∷ b) sa sb = joined_by_spaces-append a ((comma ∷ []) ∷ q ∷ b) sa (omega arith) ∙ sym (append_assoc (joined_by_spaces a) (space ∷ []) (comma ∷ (space ∷ joined_by_spaces (q ∷ b))))

pub special_no_comment : (kind : TokenKind) → is_special_kind kind ≡ true → is_comment kind ≡ false
special_no_comment Special h = refl
special_no_comment Atom h = refl
special_no_comment Quoted h = refl
special_no_comment Literal h = refl
special_no_comment Gap h = refl
special_no_comment Comment h = sym h

-- a comma between tokens is no comment
comma_comments : (a b : List TokenValue) (t : TokenValue) → is_special_of 44 t ≡ true → comments_of (a ++ t ∷ b) ≡ comments_of a ++ comments_of b
comma_comments a b t is = comments_of-append a (t ∷ b) ∙ rw (special_no_comment t.kind (and_parts (is_special_kind t.kind) (bytes_eq t.octets (44 ∷ [])) is).0) refl

-- ---- parts

-- The octets of parts, with a space between any two, are those of the pieces, and the parts are phrases with these units
-- and comments.
record PhraseParts (phrases : List (List UnitValue)) (values : List CommentValue) (pieces : List (List ℕ)) : Type 0 where
  parts : List (List TokenValue)
  are_parts : AllByRecursion (IsPart Mail) parts
  some : 0 < length parts
  joined : join_with_byte 32 (map octets_of parts) ≡ join_with_byte 32 pieces
  divided : AreDivided IsOnePhrase (joined_by_spaces parts) phrases
  say : CommentsSay (comments_of (joined_by_spaces parts)) values
  are_pieces : AllByRecursion IsLinePiece pieces
  pieces_some : 0 < length pieces

text_some : (ts : List TokenValue) (text : List ℕ) → 0 < length ts → AreTokens Mail ts text → 0 < length text
text_some [] text some are = absurd (omega (arith, some))
text_some (t ∷ ts) text some are = tokens_some Mail t ts text are

tokens_there : (parts : List (List TokenValue)) → AllByRecursion (IsPart Mail) parts → 0 < length parts → 0 < length (joined_by_spaces parts)
tokens_there [] all some = absurd (omega (arith, some))
tokens_there (part ∷ parts) all some = joined_some Mail part parts all

joined_there : (pieces : List (List ℕ)) → 0 < length (join_with_byte 32 pieces) → 0 < length pieces
joined_there [] some = absurd (omega (arith, some))
joined_there (p ∷ pieces) some = omega arith

pub again_some : (units : List UnitValue) (values : List CommentValue) (pieces : List (List ℕ)) → IsPhraseAgain units values pieces → 0 < length pieces
again_some units values pieces is =
    let text : List ℕ = join_with_byte 32 (map octets_of is.parts) in
    let some : 0 < length text = text_some (joined_by_spaces is.parts) text (tokens_there is.parts is.are_parts is.some) (AreTokens-joined_by_spaces Mail is.parts is.are_parts) in
    joined_there pieces (omega (arith, some, ap length is.joined))

last_parts : (units : List UnitValue) (values : List CommentValue) (pieces : List (List ℕ)) → IsPhraseAgain units values pieces → PhraseParts (units ∷ []) values pieces
last_parts units values pieces is = record {
  parts = is.parts;
  are_parts = is.are_parts;
  some = is.some;
  joined = is.joined;
  divided = divided_one IsOnePhrase (joined_by_spaces is.parts) (units ∷ []) (is.phrase, is.has_units);
  say = is.say;
  are_pieces = is.are_pieces;
  pieces_some = again_some units values pieces is;
}

-- something that isn't there
not_none : (a : List (List ℕ)) → 0 < length a → a ≡ [] → ⊥
not_none a some e = omega (arith, some, ap length e)

joined_comma : (ps qs ms ns : List (List ℕ)) → 0 < length ps → 0 < length qs → 0 < length ms → 0 < length ns → join_with_byte 32 ps ≡ join_with_byte 32 ms → join_with_byte 32 qs ≡ join_with_byte 32 ns
    → join_with_byte 32 (ps ++ (44 ∷ []) ∷ qs) ≡ join_with_byte 32 (ms ++ (44 ∷ []) ∷ ns)
joined_comma ps qs ms ns sp sq sm sn a b =
    let more : join_with_byte 32 ((44 ∷ []) ∷ qs) ≡ join_with_byte 32 ((44 ∷ []) ∷ ns)
    = join_same ((44 ∷ []) ∷ []) qs ((44 ∷ []) ∷ []) ns (omega arith) (omega arith) (λ e. absurd (not_none qs sq e)) (λ e. absurd (not_none ns sn e)) refl b in
    join_same ps ((44 ∷ []) ∷ qs) ms ((44 ∷ []) ∷ ns) sp sm (λ e. cc e) (λ e. cc e) a more

more_parts : (us : List UnitValue) (phrases : List (List UnitValue)) (front following : List CommentValue) (first others : List (List ℕ)) → IsPhraseAgain us front first → PhraseParts phrases following others
    → PhraseParts (us ∷ phrases) (front ++ following) (first ++ (44 ∷ []) ∷ others)
more_parts us phrases front following first others one more =
    let place : List TokenValue = joined_by_spaces one.parts ++ space ∷ [] in
    let rest : List TokenValue = space ∷ joined_by_spaces more.parts in
    let tokens : joined_by_spaces (one.parts ++ (comma ∷ []) ∷ more.parts) ≡ place ++ comma ∷ rest = joined_by_spaces-comma one.parts more.parts one.some more.some in
    let phrase : IsPhrase place = phrase_before (joined_by_spaces one.parts) (space ∷ []) one.phrase refl in
    let units : HasPhraseUnits (phrase_items place) us = units_before (joined_by_spaces one.parts) (space ∷ []) us refl one.has_units in
    let s : SplitsPlace (place ++ comma ∷ rest) place rest = record { comma = comma; whole = refl; is_comma = refl; walked = phrase_walked place phrase } in
    let divided : AreDivided IsOnePhrase (place ++ comma ∷ rest) (us ∷ phrases)
    = divided_more IsOnePhrase (place ++ comma ∷ rest) place rest (us ∷ []) phrases s (phrase, units) (divided_spaced (joined_by_spaces more.parts) phrases more.divided) in
    let comments : comments_of (place ++ comma ∷ rest) ≡ comments_of (joined_by_spaces one.parts) ++ comments_of (joined_by_spaces more.parts)
    = comma_comments place rest comma refl ∙ ap (λ r. r ++ comments_of (joined_by_spaces more.parts)) (comments_of-append (joined_by_spaces one.parts) (space ∷ []) ∙ append-nil (comments_of (joined_by_spaces one.parts))) in
    let octets : map octets_of (one.parts ++ (comma ∷ []) ∷ more.parts) ≡ map octets_of one.parts ++ (44 ∷ []) ∷ map octets_of more.parts = map-append octets_of one.parts ((comma ∷ []) ∷ more.parts) in
    record {
      parts = one.parts ++ (comma ∷ []) ∷ more.parts;
      are_parts = all-append (IsPart Mail) one.parts ((comma ∷ []) ∷ more.parts) one.are_parts (comma_is_part, more.are_parts);
      some = omega (arith, length-append one.parts ((comma ∷ []) ∷ more.parts));
      joined = ap (join_with_byte 32) octets
          ∙ joined_comma (map octets_of one.parts) (map octets_of more.parts) first others (mapped one.parts one.some) (mapped more.parts more.some) (again_some us front first one) more.pieces_some one.joined more.joined;
      divided = rw (tokens) divided;
      say = rw (tokens, comments) (CommentsSay-append (comments_of (joined_by_spaces one.parts)) (comments_of (joined_by_spaces more.parts)) front following one.say more.say);
      are_pieces = all-append IsLinePiece first ((44 ∷ []) ∷ others) one.are_pieces (record { some = omega arith; ascii = refl; line = refl }, more.are_pieces);
      pieces_some = omega (arith, length-append first ((44 ∷ []) ∷ others));
    }
  where
    mapped : (parts : List (List TokenValue)) → 0 < length parts → 0 < length (map octets_of parts)
    mapped [] some = absurd (omega (arith, some))
    mapped (p ∷ parts) some = omega arith

parts_again : (parts : List (List TokenValue)) (phrases : List (List UnitValue)) (places : List (List (List ℕ))) (ts : List TokenValue) (values : List CommentValue) → Divided 44 parts ts → EachPlace parts phrases places
    → HasMailTokens (octets_of ts) ts → CommentsSay (comments_of ts) values → PhraseParts phrases values (with_commas places)
parts_again [] phrases places ts values d each has say = absurd d
parts_again (part ∷ parts) [] places ts values d each has say = absurd each
parts_again (part ∷ parts) (us ∷ phrases) [] ts values d each has say = absurd each
parts_again (part ∷ []) (us ∷ []) (ps ∷ []) ts values d each has say =
    last_parts us values ps (PlacePieces-read part us values ps (subst (λ r. HasMailTokens (octets_of r) r) d has) each.0 each.1 (subst (λ r. CommentsSay (comments_of r) values) d say) each.2)
parts_again (part ∷ []) (us ∷ []) (ps ∷ qs ∷ places) ts values d each has say = absurd each.3
parts_again (part ∷ []) (us ∷ vs ∷ phrases) (ps ∷ places) ts values d each has say = absurd each.3
parts_again (part ∷ next ∷ parts) (us ∷ []) (ps ∷ places) ts values d each has say = absurd each.3
parts_again (part ∷ next ∷ parts) (us ∷ vs ∷ phrases) (ps ∷ []) ts values d each has say = absurd each.3
parts_again (part ∷ next ∷ parts) (us ∷ vs ∷ phrases) (ps ∷ qs ∷ places) ts values d each has say =
    let front : HasMailTokens (octets_of part) part = HasTokenValues-part (octets_of ts) [] part (d.0 ∷ d.1) (subst (HasMailTokens (octets_of ts)) d.2 has) in
    let whole : ts ≡ (part ++ d.0 ∷ []) ++ (d.1 ++ []) = d.2 ∙ sym (append_assoc part (d.0 ∷ []) d.1) ∙ ap (λ r. (part ++ d.0 ∷ []) ++ r) (sym (append-nil d.1)) in
    let following : HasMailTokens (octets_of d.1) d.1 = HasTokenValues-part (octets_of ts) (part ++ d.0 ∷ []) d.1 [] (subst (HasMailTokens (octets_of ts)) whole has) in
    let comments : comments_of ts ≡ comments_of part ++ comments_of d.1 = ap comments_of d.2 ∙ comma_comments part d.1 d.0 d.3 in
    let both = say_both (comments_of part) (comments_of d.1) values (subst (λ cs. CommentsSay cs values) comments say) in
    let one = PlacePieces-read part us both.first ps front each.0 each.1 both.first_say each.2 in
    let more = parts_again (next ∷ parts) (vs ∷ phrases) (qs ∷ places) d.1 both.more d.4 each.3 following both.more_say in
    rw (both.whole) (more_parts us (vs ∷ phrases) both.first both.more ps (with_commas (qs ∷ places)) one more)

-- ---- the joined text

parts_read : (phrases : List (List UnitValue)) (values : List CommentValue) (pieces : List (List ℕ)) → PhraseParts phrases values pieces → ArePhrasesAgain phrases values pieces
parts_read phrases values pieces p =
    let are : AreTokens Mail (joined_by_spaces p.parts) (join_with_byte 32 pieces) = subst (AreTokens Mail (joined_by_spaces p.parts)) p.joined (AreTokens-joined_by_spaces Mail p.parts p.are_parts) in
    record {
      says = record {
        tokens = joined_by_spaces p.parts;
        has = record { is_line = joined_line pieces (pieces_lines pieces p.are_pieces); are_tokens = are };
        divided = p.divided;
        comments_say = p.say;
      };
      begins = AreTokens-begin Mail (joined_by_spaces p.parts) (join_with_byte 32 pieces) are (joined_begins Mail p.parts p.are_parts);
      ends = AreTokens-end Mail (joined_by_spaces p.parts) (join_with_byte 32 pieces) are (joined_ends Mail p.parts p.are_parts);
      some = p.pieces_some;
      are_pieces = p.are_pieces;
    }

-- the pieces of phrases say what the phrases say
pub PhrasesPieces-read : (text : List ℕ) (pieces : List (List ℕ)) (phrases : List (List UnitValue)) (comments : List CommentValue) → PhrasesPieces text pieces → SaysPhrases text phrases comments
    → ArePhrasesAgain phrases comments pieces
PhrasesPieces-read text pieces phrases comments is says =
    let each = places_say is.divided.parts is.places is.divided.say in
    let divided : AreDivided IsOnePhrase is.tokens each.0 = record { parts = is.divided.parts; divided = is.divided.divided; say = each_says is.divided.parts each.0 is.places each.1 } in
    let same : each.0 ≡ phrases = divided_once IsOnePhrase says_phrase_walked says_phrase_once is.tokens each.0 phrases divided (phrases_of text is.tokens phrases comments is.has says) in
    let has : HasMailTokens (octets_of is.tokens) is.tokens = subst (λ r. HasMailTokens r is.tokens) (sym (octets_of-tokens Mail is.tokens text is.has.are_tokens)) is.has in
    let say : CommentsSay (comments_of is.tokens) comments = rw (HasTokenValues-once text is.tokens says.tokens is.has says.has) says.comments_say in
    rw (is.pieces_are, ← same) (parts_read each.0 comments (with_commas is.places) (parts_again is.divided.parts each.0 is.places is.tokens comments is.divided.divided each.1 has say))
