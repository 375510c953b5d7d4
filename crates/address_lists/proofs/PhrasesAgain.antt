-- What the pieces of a phrase read as.
use Rattle.std.proofs.Common.{◌≡◌, ℕ, ◌<◌, Bool, true, false, List, [], ◌∷◌, ◌++◌, length, map, None, refl, sym, ap, ◌∙◌, subst, arith}
use Rattle.std.proofs.lemmas.Bool.{and_parts, and_from}
use Rattle.std.proofs.lemmas.Bool.Decides.{nat_tests}
use Rattle.std.proofs.lemmas.List.{append_assoc, append-nil, map-append}
use Rattle.std.proofs.lemmas.List.Folds.{list_all-append}
use Rattle.std.specs.List.{AllByRecursion, list_all, flat_map, join_with_byte}
use Rattle.std.specs.Str.{IsUtf8}
use Rattle.mail_wire.specs.Octets.{is_ascii}
use Rattle.mail_wire.proofs.AllLemmas.{all-append}
use Rattle.encoded_words.specs.Words.{UnitValue, Text, Opaque}
use Rattle.encoded_words.specs.Units.{raw_units}
use Rattle.encoded_words.specs.WrittenWords.{is_safe_octet, written_word}
use Rattle.encoded_words.specs.PhraseUnits.{HasPhraseUnits, separated}
use Rattle.encoded_words.specs.Written.{AreUnits, AreWritable}
use Rattle.encoded_words.proofs.WrittenWords.{written_word-all, written_word_some}
use Rattle.encoded_words.proofs.EncodedOctets.{encoded_some, encoded_ascii}
use Rattle.encoded_words.proofs.PhraseLemmas.{HasPhraseUnits-once}
use Rattle.encoded_words.proofs.PhraseSources.{SourceHas, WriteAll-nil, WriteAll-each, AreSeparators, HasPhraseUnits-sources, HasPhraseUnits-around, HasPhraseUnits-within}
use Rattle.encoded_words.proofs.WithText.{AreUnits-merged}
use Rattle.encoded_words.proofs.WritableUnits.{HasPhraseUnits-writable}
use Rattle.encoded_words.proofs.WrittenUnits.{HasPhraseUnits-written}
use Rattle.field_tokens.specs.declared.Style.TheVariants.{Mail}
use Rattle.field_tokens.specs.declared.TokenKind.{TokenKind}
use Rattle.field_tokens.specs.declared.TokenKind.TheVariants.{Atom, Quoted, Literal, Special, Gap, Comment}
use Rattle.field_tokens.specs.Groups.{End}
use Rattle.field_tokens.specs.TokenOctets.{is_atom_octet, is_line_octet}
use Rattle.field_tokens.specs.Tokens.{TokenValue, AreTokens}
use Rattle.field_tokens.specs.Squeezed.{is_gap, octets_of, comments_of, space, joined_by_spaces, IsPart}
use Rattle.field_tokens.specs.Comments.{CommentValue, CommentsPieces, CommentsSay, AreWritableComments, AreLineComments, IsLinePiece, AreWritten}
use Rattle.field_tokens.proofs.Parts.{tokens_some, comments_of-append, comments_of-joined_by_spaces, comment_part, comment_parts, comments_are_parts, comment_parts-octets}
use Rattle.field_tokens.proofs.TokenLines.{comments_are_plain}
use Rattle.field_tokens.proofs.LinePieces.{CommentsPieces-line}
use Rattle.field_tokens.proofs.WrittenComments.{CommentsPieces-written}
use Rattle.field_tokens.proofs.PieceLemmas.{join_same, comments_groups, no_pieces, no_comments, spaced, spaced_comments}
use Rattle.address_grammar.specs.private.Lexemes.{HasMailTokens, is_blank_token, are_blank}
use Rattle.address_grammar.specs.Phrases.{may_stand_in_phrase, IsPhrase, phrase_items}
use Rattle.address_lists.specs.PhrasePieces.{UnitsPieces, PhrasePieces, HasCore, PlacePieces}
use Rattle.address_lists.specs.private.PhraseReadBack.{IsPhraseAgain}
use Rattle.address_grammar.proofs.MailboxLemmas.{phrase_lacks}
use Rattle.address_grammar.proofs.PhraseReading.{blank_item}
use Rattle.address_lists.proofs.PhraseWriting.{phrase_core, phrase_items-append, core_comments, gaps_blank, writable_rest, CommentsPieces-append}
use Rattle.address_lists.proofs.PlaceTokens.{HasTokenValues-part}
use Rattle.address_lists.proofs.SoundPhrases.{text_items, text_comments, AreAtomOctets, text_atoms}

-- ---- what comments say

pub CommentsSay-append : (cs ds : List (List ℕ)) (vs ws : List CommentValue) → CommentsSay cs vs → CommentsSay ds ws → CommentsSay (cs ++ ds) (vs ++ ws)
CommentsSay-append [] ds vs ws a b = rw (a) b
CommentsSay-append (c ∷ cs) ds vs ws a b = (a.0, a.1 ++ ws, ap (λ r. r ++ ws) a.2, a.3, CommentsSay-append cs ds a.1 ws a.4 b)

-- what comments in front say, and those after them
pub record SayBoth (cs ds : List (List ℕ)) (values : List CommentValue) : Type 0 where
  pub first : List CommentValue
  pub more : List CommentValue
  pub whole : values ≡ first ++ more
  pub first_say : CommentsSay cs first
  pub more_say : CommentsSay ds more

pub say_both : (cs ds : List (List ℕ)) (values : List CommentValue) → CommentsSay (cs ++ ds) values → SayBoth cs ds values
say_both [] ds values say = record { first = []; more = values; whole = refl; first_say = refl; more_say = say }
say_both (c ∷ cs) ds values say =
    let both = say_both cs ds say.1 say.4 in
    record {
      first = say.0 ∷ both.first;
      more = both.more;
      whole = say.2 ∙ ap (λ r. say.0 ∷ r) both.whole;
      first_say = (say.0, both.first, refl, say.3, both.first_say);
      more_say = both.more_say;
    }

-- ---- pieces that are joined

-- ---- comments after

joined_by_spaces-comments : (part : List TokenValue) (cs : List (List ℕ)) → joined_by_spaces (part ∷ comment_parts cs) ≡ part ++ spaced cs
joined_by_spaces-comments part [] = sym (append-nil part)
joined_by_spaces-comments part (c ∷ cs) = ap (λ r. part ++ space ∷ r) (joined_by_spaces-comments (comment_part c) cs)

joined_by_spaces-following : (part : List TokenValue) (parts : List (List TokenValue)) (cs : List (List ℕ)) → joined_by_spaces ((part ∷ parts) ++ comment_parts cs) ≡ joined_by_spaces (part ∷ parts) ++ spaced cs
joined_by_spaces-following part [] cs = joined_by_spaces-comments part cs
joined_by_spaces-following part (next ∷ parts) cs = ap (λ r. part ++ space ∷ r) (joined_by_spaces-following next parts cs) ∙ sym (append_assoc part (space ∷ joined_by_spaces (next ∷ parts)) (spaced cs))

spaced_blank : (cs : List (List ℕ)) → are_blank (spaced cs) ≡ true
spaced_blank [] = refl
spaced_blank (c ∷ cs) = spaced_blank cs

pub blank_separators : (ts : List TokenValue) → are_blank ts ≡ true → AreSeparators (phrase_items ts)
blank_separators [] h = tt
blank_separators (t ∷ ts) h =
    let parts = and_parts (is_blank_token t) (are_blank ts) h in
    (blank_item t.kind t.octets parts.0, blank_separators ts parts.1)

blank_stands : (ts : List TokenValue) → are_blank ts ≡ true → list_all may_stand_in_phrase ts ≡ true
blank_stands [] h = refl
blank_stands (t ∷ ts) h =
    let parts = and_parts (is_blank_token t) (are_blank ts) h in
    rw (parts.0) (blank_stands ts parts.1)

pub phrase_before : (ts more : List TokenValue) → IsPhrase ts → are_blank more ≡ true → IsPhrase (ts ++ more)
phrase_before ts more p blank = record {
  some = list_all-append is_blank_token ts more ∙ rw (p.some) refl;
  each = list_all-append may_stand_in_phrase ts more ∙ and_from (list_all may_stand_in_phrase ts) (list_all may_stand_in_phrase more) p.each (blank_stands more blank);
}

pub units_before : (ts more : List TokenValue) (us : List UnitValue) → are_blank more ≡ true → HasPhraseUnits (phrase_items ts) us → HasPhraseUnits (phrase_items (ts ++ more)) us
units_before ts more us blank has = rw (phrase_items-append ts more) (HasPhraseUnits-around [] (phrase_items ts) (phrase_items more) us tt (blank_separators more blank) has)

-- what is written of the phrase itself
pub record IsHead (units : List UnitValue) (values : List CommentValue) (pieces : List (List ℕ)) : Type 0 where
  pub first : List TokenValue
  pub others : List (List TokenValue)
  pub are_parts : AllByRecursion (IsPart Mail) (first ∷ others)
  pub joined : join_with_byte 32 (map octets_of (first ∷ others)) ≡ join_with_byte 32 pieces
  pub some : 0 < length pieces
  pub phrase : IsPhrase (joined_by_spaces (first ∷ others))
  pub has_units : HasPhraseUnits (phrase_items (joined_by_spaces (first ∷ others))) units
  pub say : CommentsSay (comments_of (joined_by_spaces (first ∷ others))) values
  pub are_pieces : AllByRecursion IsLinePiece pieces

again : (us : List UnitValue) (front following : List CommentValue) (first more cs : List (List ℕ)) → IsHead us front first → AreWritten cs following more → CommentsPieces cs more → AllByRecursion IsLinePiece more
    → IsPhraseAgain us (front ++ following) (first ++ more)
again us front following first more cs head written are line =
    let heads : List (List TokenValue) = head.first ∷ head.others in
    let made : List (List ℕ) = written.made in
    let tokens : joined_by_spaces (heads ++ comment_parts made) ≡ joined_by_spaces heads ++ spaced made = joined_by_spaces-following head.first head.others made in
    let octets : map octets_of (heads ++ comment_parts made) ≡ map octets_of heads ++ made = map-append octets_of heads (comment_parts made) ∙ ap (λ r. map octets_of heads ++ r) (comment_parts-octets made) in
    let comments : comments_of (joined_by_spaces heads ++ spaced made) ≡ comments_of (joined_by_spaces heads) ++ made = comments_of-append (joined_by_spaces heads) (spaced made) ∙ ap (λ r. comments_of (joined_by_spaces heads) ++ r) (spaced_comments made) in
    let phrase : IsPhrase (joined_by_spaces heads ++ spaced made) = phrase_before (joined_by_spaces heads) (spaced made) head.phrase (spaced_blank made) in
    record {
      parts = heads ++ comment_parts made;
      are_parts = all-append (IsPart Mail) heads (comment_parts made) head.are_parts (comments_are_parts Mail made (comments_groups made written.are_comments));
      some = omega arith;
      joined = ap (join_with_byte 32) octets
          ∙ join_same (map octets_of heads) made first more (omega arith) head.some (λ e. no_pieces cs more are (written.none.0 e)) (λ e. written.none.1 (no_comments cs more are e)) head.joined written.joined;
      phrase = rw (tokens) phrase;
      no_comma = rw (tokens) (phrase_lacks 44 (joined_by_spaces heads ++ spaced made) (omega arith) phrase);
      has_units = rw (tokens) (units_before (joined_by_spaces heads) (spaced made) us (spaced_blank made) head.has_units);
      say = rw (tokens, comments) (CommentsSay-append (comments_of (joined_by_spaces heads)) made front following head.say written.say);
      are_pieces = all-append IsLinePiece first more head.are_pieces line;
    }

-- ---- an ASCII core is one part

pub word_no_gap : (k : TokenKind) (octets : List ℕ) → is_blank_token (record { kind = k; octets = octets }) ≡ false → is_gap k ≡ false
word_no_gap Gap octets h = cc h
word_no_gap Comment octets h = refl
word_no_gap Atom octets h = refl
word_no_gap Quoted octets h = refl
word_no_gap Literal octets h = refl
word_no_gap Special octets h = refl

core_part : (tokens core trail : List TokenValue) → HasMailTokens (octets_of core) core → HasCore tokens core trail → IsPart Mail core
core_part tokens core trail has is = record {
  are_tokens = has.are_tokens;
  begins = is.begins;
  ends = (is.ends.0, is.ends.1, is.ends.2, word_no_gap is.ends.1.kind is.ends.1.octets is.ends.3);
}

core_some : (tokens core trail : List TokenValue) → HasMailTokens (octets_of core) core → HasCore tokens core trail → 0 < length (octets_of core)
core_some tokens core trail has is = tokens_some Mail is.begins.0 is.begins.1 (octets_of core) (subst (λ ts. AreTokens Mail ts (octets_of core)) is.begins.2 has.are_tokens)

core_head : (tokens core trail : List TokenValue) (us : List UnitValue) (values : List CommentValue) → HasMailTokens (octets_of core) core → HasCore tokens core trail → IsPhrase core → list_all is_ascii (octets_of core) ≡ true
    → HasPhraseUnits (phrase_items core) us → CommentsSay (comments_of core) values → IsHead us values (octets_of core ∷ [])
core_head tokens core trail us values has is p ascii units say = record {
  first = core;
  others = [];
  are_parts = (core_part tokens core trail has is, tt);
  joined = refl;
  some = omega arith;
  phrase = p;
  has_units = units;
  say = say;
  are_pieces = (record { some = core_some tokens core trail has is; ascii = ascii; line = has.is_line.plain }, tt);
}

-- ---- written units are atoms

record IsWordPiece (w : List ℕ) : Type 0 where
  some : 0 < length w
  atom : list_all (is_atom_octet Mail) w ≡ true
  ascii : list_all is_ascii w ≡ true

atom_safe : (x : ℕ) → is_safe_octet x ≡ true → is_atom_octet Mail x ≡ true
atom_safe x h = grind (arith, nat_tests)

ascii_safe : (x : ℕ) → is_safe_octet x ≡ true → is_ascii x ≡ true
ascii_safe x h = grind (arith, nat_tests)

written_word_piece : (chunk : List ℕ) → IsUtf8 chunk → IsWordPiece (written_word chunk)
written_word_piece chunk u = record {
  some = written_word_some chunk;
  atom = written_word-all (is_atom_octet Mail) (record { safe = atom_safe; marks = refl }) chunk u;
  ascii = written_word-all is_ascii (record { safe = ascii_safe; marks = refl }) chunk u;
}

source_words : (us : List UnitValue) → AreWritable us → AllByRecursion (SourceHas AreAtomOctets) us → AllByRecursion (SourceHas IsWordPiece) us
source_words [] can have = tt
source_words (Text octets ∷ us) can have = (tt, source_words us can.1 have.1)
source_words (Opaque charset octets source ∷ us) can have = (
  record { some = encoded_some source (Opaque charset octets source) can.0; atom = have.0; ascii = encoded_ascii source (Opaque charset octets source) can.0 },
  source_words us can.1 have.1,
)

abbrev word_part : List ℕ → List TokenValue
word_part w = record { kind = Atom; octets = w } ∷ []

abbrev word_parts : List (List ℕ) → List (List TokenValue)
word_parts ws = map word_part ws

words_are_parts : (ws : List (List ℕ)) → AllByRecursion IsWordPiece ws → AllByRecursion (IsPart Mail) (word_parts ws)
words_are_parts [] all = tt
words_are_parts (w ∷ ws) all = (
  record {
    are_tokens = ([], refl, (all.0.some, record { whole = refl; passes = all.0.atom; stops = tt }), refl);
    begins = (record { kind = Atom; octets = w }, [], refl, refl);
    ends = ([], record { kind = Atom; octets = w }, refl, refl);
  },
  words_are_parts ws all.1,
)

word_parts-octets : (ws : List (List ℕ)) → map octets_of (word_parts ws) ≡ ws
word_parts-octets [] = refl
word_parts-octets (w ∷ ws) = ap (λ r. r ∷ map octets_of (word_parts ws)) (append-nil w) ∙ ap (λ r. w ∷ r) (word_parts-octets ws)

word_parts-items : (ws : List (List ℕ)) → phrase_items (joined_by_spaces (word_parts ws)) ≡ separated ws
word_parts-items [] = refl
word_parts-items (w ∷ []) = refl
word_parts-items (w ∷ v ∷ ws) = rw (word_parts-items (v ∷ ws)) refl

no_comments_in : (ws : List (List ℕ)) → flat_map comments_of (word_parts ws) ≡ []
no_comments_in [] = refl
no_comments_in (w ∷ ws) = no_comments_in ws

words_stand : (ws : List (List ℕ)) → list_all may_stand_in_phrase (joined_by_spaces (word_parts ws)) ≡ true
words_stand [] = refl
words_stand (w ∷ []) = refl
words_stand (w ∷ v ∷ ws) = words_stand (v ∷ ws)

words_there : (w : List ℕ) (ws : List (List ℕ)) → are_blank (joined_by_spaces (word_parts (w ∷ ws))) ≡ false
words_there w [] = refl
words_there w (v ∷ ws) = refl

atom_line : (x : ℕ) → is_atom_octet Mail x ≡ true → is_line_octet x ≡ true
atom_line x h = grind (arith, nat_tests)

atoms_line : (w : List ℕ) → list_all (is_atom_octet Mail) w ≡ true → list_all is_line_octet w ≡ true
atoms_line [] h = refl
atoms_line (x ∷ w) h =
    let parts = and_parts (is_atom_octet Mail x) (list_all (is_atom_octet Mail) w) h in
    and_from (is_line_octet x) (list_all is_line_octet w) (atom_line x parts.0) (atoms_line w parts.1)

word_lines : (ws : List (List ℕ)) → AllByRecursion IsWordPiece ws → AllByRecursion IsLinePiece ws
word_lines [] all = tt
word_lines (w ∷ ws) all = (record { some = all.0.some; ascii = all.0.ascii; line = atoms_line w all.0.atom }, word_lines ws all.1)

words_head : (us : List UnitValue) (w : List ℕ) (ws : List (List ℕ)) → AllByRecursion IsWordPiece (w ∷ ws) → HasPhraseUnits (separated (w ∷ ws)) us → IsHead us [] (w ∷ ws)
words_head us w ws all has = record {
  first = word_part w;
  others = word_parts ws;
  are_parts = words_are_parts (w ∷ ws) all;
  joined = ap (join_with_byte 32) (word_parts-octets (w ∷ ws));
  some = omega arith;
  phrase = record { some = words_there w ws; each = words_stand (w ∷ ws) };
  has_units = subst (λ items. HasPhraseUnits items us) (sym (word_parts-items (w ∷ ws))) has;
  say = subst (λ cs. CommentsSay cs []) (sym (comments_of-joined_by_spaces (word_parts (w ∷ ws)) ∙ no_comments_in (w ∷ ws))) refl;
  are_pieces = word_lines (w ∷ ws) all;
}

-- no units are an empty quoted string
abbrev empty_string : TokenValue
empty_string = record { kind = Quoted; octets = 34 ∷ 34 ∷ [] }

empty_head : HasPhraseUnits (phrase_items (empty_string ∷ [])) [] → IsHead [] [] ((34 ∷ 34 ∷ []) ∷ [])
empty_head has = record {
  first = empty_string ∷ [];
  others = [];
  are_parts = (
    record {
      are_tokens = ([], refl, record { inside = End; is_inside = tt; shallow = omega arith; spelled = refl }, refl);
      begins = (empty_string, [], refl, refl);
      ends = ([], empty_string, refl, refl);
    },
    tt,
  );
  joined = refl;
  some = omega arith;
  phrase = record { some = refl; each = refl };
  has_units = has;
  say = refl;
  are_pieces = (record { some = omega arith; ascii = refl; line = refl }, tt);
}

no_units : HasPhraseUnits (phrase_items (empty_string ∷ [])) []
no_units = record {
  places = record { word = []; says = None; run = [] } ∷ [];
  are_places = (record { word = refl; says = refl; run = refl }, tt);
  says = refl;
}

pub units_head : (us : List UnitValue) (pieces : List (List ℕ)) → AreUnits us → AreWritable us → AllByRecursion (SourceHas AreAtomOctets) us → UnitsPieces us pieces → IsHead us [] pieces
units_head [] pieces are can have writes = rw (writes) (empty_head no_units)
units_head (u ∷ us) [] are can have writes = let none : u ∷ us ≡ [] = sym are ∙ WriteAll-nil (u ∷ us) writes in cc none
units_head (u ∷ us) (w ∷ ws) are can have writes =
    words_head (u ∷ us) w ws (WriteAll-each IsWordPiece written_word_piece (u ∷ us) (w ∷ ws) can (source_words (u ∷ us) can have) writes) (HasPhraseUnits-written (u ∷ us) (w ∷ ws) are can writes)

-- ---- all of it

pub core_units : (tokens core trail : List TokenValue) (us : List UnitValue) → HasCore tokens core trail → HasPhraseUnits (phrase_items tokens) us → HasPhraseUnits (phrase_items core) us
core_units tokens core trail us is has =
    let items : phrase_items tokens ≡ phrase_items is.lead ++ (phrase_items core ++ phrase_items trail)
    = ap phrase_items is.whole ∙ phrase_items-append is.lead (core ++ trail) ∙ ap (λ r. phrase_items is.lead ++ r) (phrase_items-append core trail) in
    HasPhraseUnits-within (phrase_items is.lead) (phrase_items core) (phrase_items trail) us (blank_separators is.lead (gaps_blank is.lead is.gaps)) (blank_separators trail is.blank)
    (subst (λ r. HasPhraseUnits r us) items has)

lines_rest : (a b : List (List ℕ)) → AreLineComments (a ++ b) → AreLineComments b
lines_rest [] b all = all
lines_rest (c ∷ a) b all = lines_rest a b all.1

-- the parts of what is known, over the core and what stands after it
record IsWrittenPhrase (tokens core trail : List TokenValue) (us : List UnitValue) (values : List CommentValue) : Type 0 where
  in_text : HasMailTokens (octets_of tokens) tokens
  core_text : HasMailTokens (octets_of core) core
  has_core : HasCore tokens core trail
  phrase : IsPhrase core
  core_has : HasPhraseUnits (phrase_items core) us
  tokens_have : HasPhraseUnits (phrase_items tokens) us
  say : CommentsSay (comments_of core ++ comments_of trail) values
  writable : AreWritableComments (comments_of core ++ comments_of trail)
  in_line : AreLineComments (comments_of core ++ comments_of trail)

again_as : (b : Bool) (tokens core trail : List TokenValue) (us : List UnitValue) (values : List CommentValue) (first more : List (List ℕ)) → IsWrittenPhrase tokens core trail us values
    → list_all is_ascii (octets_of core) ≡ b → PhrasePieces b core first → CommentsPieces (comments_of trail) more → IsPhraseAgain us values (first ++ more)
again_as true tokens core trail us values first more w ascii phrase comments =
    let both = say_both (comments_of core) (comments_of trail) values w.say in
    let can = writable_rest (comments_of core) (comments_of trail) w.writable in
    let plain = lines_rest (comments_of core) (comments_of trail) w.in_line in
    let head = core_head tokens core trail us both.first w.core_text w.has_core w.phrase ascii w.core_has both.first_say in
    rw (phrase, both.whole) (again us both.first both.more (octets_of core ∷ []) more (comments_of trail) head (CommentsPieces-written (comments_of trail) both.more more can both.more_say comments) comments (CommentsPieces-line (comments_of trail) more can plain comments))
again_as false tokens core trail us values first more w other phrase comments =
    let all : List (List ℕ) = comments_of core ++ comments_of trail in
    let pieces : List (List ℕ) = phrase.2 ++ more in
    let are : CommentsPieces all pieces = CommentsPieces-append (comments_of core) (comments_of trail) phrase.2 more phrase.5 comments in
    let same : phrase.0 ≡ us = HasPhraseUnits-once (phrase_items core) phrase.0 us phrase.3 w.core_has in
    let can = HasPhraseUnits-writable (phrase_items tokens) us (text_items (octets_of tokens) tokens w.in_text) w.tokens_have in
    let have = HasPhraseUnits-sources AreAtomOctets (phrase_items tokens) us (text_atoms (octets_of tokens) tokens w.in_text) w.tokens_have in
    let apart_units : AreUnits us = AreUnits-merged (raw_units w.tokens_have.places) us w.tokens_have.says in
    let head = units_head us phrase.1 apart_units can have (subst (λ vs. UnitsPieces vs phrase.1) same phrase.4) in
    rw (phrase.6, append_assoc phrase.1 phrase.2 more) (again us [] values phrase.1 pieces all head (CommentsPieces-written all values pieces w.writable w.say are) are (CommentsPieces-line all pieces w.writable w.in_line are))

-- The pieces of a phrase that stands in a text are a phrase again, with the same units and comments.
pub PlacePieces-read : (tokens : List TokenValue) (us : List UnitValue) (values : List CommentValue) (pieces : List (List ℕ)) → HasMailTokens (octets_of tokens) tokens → IsPhrase tokens
    → HasPhraseUnits (phrase_items tokens) us → CommentsSay (comments_of tokens) values → PlacePieces tokens pieces → IsPhraseAgain us values pieces
PlacePieces-read tokens us values pieces text p has say is =
    let comments = core_comments tokens is.core is.trail is.has_core in
    let w : IsWrittenPhrase tokens is.core is.trail us values = record {
      in_text = text;
      core_text = HasTokenValues-part (octets_of tokens) is.has_core.lead is.core is.trail (subst (HasMailTokens (octets_of tokens)) is.has_core.whole text);
      has_core = is.has_core;
      phrase = phrase_core tokens is.core is.trail p is.has_core;
      core_has = core_units tokens is.core is.trail us is.has_core has;
      tokens_have = has;
      say = subst (λ cs. CommentsSay cs values) comments say;
      writable = subst AreWritableComments comments (text_comments (octets_of tokens) tokens text);
      in_line = subst AreLineComments comments (comments_are_plain Mail tokens (octets_of tokens) text.are_tokens text.is_line);
    } in
    rw (is.pieces_are) (again_as (list_all is_ascii (octets_of is.core)) tokens is.core is.trail us values is.first is.more w refl is.phrase is.comments)
