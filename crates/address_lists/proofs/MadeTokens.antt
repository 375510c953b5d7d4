-- Tokens that are made of pieces.
use Rattle.std.proofs.Common.{◌≡◌, ℕ, ◌<◌, true, false, not, List, [], ◌∷◌, ◌++◌, length, map, refl, sym, ap, ◌∙◌, subst, arith}
use Rattle.std.proofs.lemmas.Bool.{and_parts, and_from, not-true}
use Rattle.std.proofs.lemmas.List.{append_assoc, append-nil, length-append}
use Rattle.std.proofs.lemmas.List.Folds.{list_all-append}
use Rattle.std.specs.List.{AllByRecursion, list_all, join_with_byte}
use Rattle.mail_wire.specs.Octets.{is_ascii}
use Rattle.mail_wire.proofs.AllLemmas.{all-append}
use Rattle.encoded_words.specs.Words.{UnitValue}
use Rattle.encoded_words.specs.PhraseUnits.{HasPhraseUnits}
use Rattle.field_tokens.specs.declared.Style.TheVariants.{Mail}
use Rattle.field_tokens.specs.declared.TokenKind.{TokenKind}
use Rattle.field_tokens.specs.declared.TokenKind.TheVariants.{Atom, Quoted, Literal, Special, Gap, Comment}
use Rattle.field_tokens.specs.TokenOctets.{is_line_octet}
use Rattle.field_tokens.specs.Groups.{IsEnclosed}
use Rattle.field_tokens.specs.Tokens.{comment_marks, TokenValue, AreTokens, IsLine}
use Rattle.field_tokens.specs.Squeezed.{octets_of, is_comment, comments_of, space, joined_by_spaces, IsPart}
use Rattle.field_tokens.specs.Comments.{CommentValue, CommentsSay, CommentsPieces, AreWritableComments, AreLineComments, IsLinePiece, AreWritten}
use Rattle.field_tokens.proofs.Parts.{BeginsNoGap, EndsNoGap, EndsNoGap-append, AreTokens-append, AreTokens-space, joined_begins, joined_some, joined_ends, AreTokens-joined_by_spaces, comments_of-joined_by_spaces, comment_part, comment_parts, comments_are_parts, comment_parts-comments, comment_parts-octets}
use Rattle.field_tokens.proofs.TokenLines.{comments_are_comments, comments_are_lines}
use Rattle.field_tokens.proofs.LinePieces.{CommentsPieces-line, CommentsPieces-there}
use Rattle.field_tokens.proofs.WrittenComments.{CommentsPieces-written}
use Rattle.field_tokens.proofs.PieceLemmas.{join_two, comments_groups as groups, join_more}
use Rattle.address_grammar.specs.private.Lexemes.{HasMailTokens, is_blank_token, are_blank}
use Rattle.address_grammar.specs.Phrases.{IsPhrase, phrase_items}
use Rattle.address_lists.specs.private.PhraseReadBack.{IsPhraseAgain}
use Rattle.address_lists.specs.ListPieces.{with_comma}
use Rattle.address_grammar.specs.declared.Address.{Address}
use Rattle.address_grammar.specs.Addresses.{local_text, address_text}
use Rattle.address_lists.proofs.PhrasesAgain.{IsHead, word_no_gap}
use Rattle.address_lists.proofs.PhraseListsAgain.{comma, again_some}
use Rattle.address_lists.proofs.ServedLemmas.{HasNoBlank, WritesAddress}
use Rattle.address_grammar.proofs.WritingLemmas.{mark}

-- The text of the tokens is the pieces with a space between any two, and they may stand beside a space.
pub record AreMade (tokens : List TokenValue) (pieces : List (List ℕ)) : Type 0 where
  pub are_tokens : AreTokens Mail tokens (join_with_byte 32 pieces)
  pub begins : BeginsNoGap tokens
  pub ends : EndsNoGap tokens
  pub there : 0 < length tokens
  pub some : 0 < length pieces
  pub each : AllByRecursion IsLinePiece pieces

join_both : (ps qs : List (List ℕ)) → 0 < length ps → 0 < length qs → join_with_byte 32 (ps ++ qs) ≡ join_with_byte 32 ps ++ 32 ∷ join_with_byte 32 qs
join_both [] qs sp sq = absurd (omega (arith, sp))
join_both (p ∷ ps) [] sp sq = absurd (omega (arith, sq))
join_both (p ∷ ps) (q ∷ qs) sp sq = join_two p ps q qs

begins-append : (a b : List TokenValue) → 0 < length a → BeginsNoGap a → BeginsNoGap (a ++ b)
begins-append [] b some begins = absurd (omega (arith, some))
begins-append (t ∷ a) b some begins = begins

-- pieces after others
pub made_two : (a b : List TokenValue) (ps qs : List (List ℕ)) → AreMade a ps → AreMade b qs → AreMade (a ++ space ∷ b) (ps ++ qs)
made_two a b ps qs one two = record {
  are_tokens = rw (join_both ps qs one.some two.some) (AreTokens-space Mail a b (join_with_byte 32 ps) (join_with_byte 32 qs) one.are_tokens one.ends two.are_tokens two.begins);
  begins = begins-append a (space ∷ b) one.there one.begins;
  ends = EndsNoGap-append a (space ∷ b) (omega arith) (EndsNoGap-append (space ∷ []) b two.there two.ends);
  there = omega (arith, length-append a (space ∷ b));
  some = omega (arith, one.some, length-append ps qs);
  each = all-append IsLinePiece ps qs one.each two.each;
}

-- ---- a comma

comma_there : (p : List ℕ) (ps : List (List ℕ)) → 0 < length (with_comma (p ∷ ps))
comma_there p [] = omega arith
comma_there p (q ∷ ps) = omega arith

join_comma : (p : List ℕ) (ps : List (List ℕ)) → join_with_byte 32 (with_comma (p ∷ ps)) ≡ join_with_byte 32 (p ∷ ps) ++ 44 ∷ []
join_comma p [] = refl
join_comma p (q ∷ ps) =
    join_more p (with_comma (q ∷ ps)) (comma_there q ps) ∙ ap (λ r. p ++ 32 ∷ r) (join_comma q ps) ∙ sym (append_assoc p (32 ∷ join_with_byte 32 (q ∷ ps)) (44 ∷ []))

comma_piece : (p : List ℕ) → IsLinePiece p → IsLinePiece (p ++ 44 ∷ [])
comma_piece p is = record {
  some = omega (arith, length-append p (44 ∷ []));
  ascii = list_all-append is_ascii p (44 ∷ []) ∙ and_from (list_all is_ascii p) true is.ascii refl;
  line = list_all-append is_line_octet p (44 ∷ []) ∙ and_from (list_all is_line_octet p) true is.line refl;
}

comma_pieces : (ps : List (List ℕ)) → AllByRecursion IsLinePiece ps → AllByRecursion IsLinePiece (with_comma ps)
comma_pieces [] all = tt
comma_pieces (p ∷ []) all = (comma_piece p all.0, tt)
comma_pieces (p ∷ q ∷ ps) all = (all.0, comma_pieces (q ∷ ps) all.1)

comma_tokens : (ts : List TokenValue) (ps : List (List ℕ)) → 0 < length ps → AreTokens Mail ts (join_with_byte 32 ps) → EndsNoGap ts → AreTokens Mail (ts ++ comma ∷ []) (join_with_byte 32 (with_comma ps))
comma_tokens ts [] some are ends = absurd (omega (arith, some))
comma_tokens ts (p ∷ ps) some are ends = rw (join_comma p ps) (AreTokens-append Mail ts (comma ∷ []) (join_with_byte 32 (p ∷ ps)) (44 ∷ []) are ends refl ([], refl, (44, refl, refl), refl))

comma_some : (ps : List (List ℕ)) → 0 < length ps → 0 < length (with_comma ps)
comma_some [] some = absurd (omega (arith, some))
comma_some (p ∷ ps) some = comma_there p ps

pub made_comma : (ts : List TokenValue) (ps : List (List ℕ)) → AreMade ts ps → AreMade (ts ++ comma ∷ []) (with_comma ps)
made_comma ts ps made = record {
  are_tokens = comma_tokens ts ps made.some made.are_tokens made.ends;
  begins = begins-append ts (comma ∷ []) made.there made.begins;
  ends = EndsNoGap-append ts (comma ∷ []) (omega arith) refl;
  there = omega (arith, length-append ts (comma ∷ []));
  some = comma_some ps made.some;
  each = comma_pieces ps made.each;
}

-- pieces after a comma
pub made_divided : (a b : List TokenValue) (ps qs : List (List ℕ)) → AreMade a ps → AreMade b qs → AreMade (a ++ comma ∷ space ∷ b) (with_comma ps ++ qs)
made_divided a b ps qs one two = rw (append_assoc a (comma ∷ []) (space ∷ b)) at (made_two (a ++ comma ∷ []) b (with_comma ps) qs (made_comma a ps one) two)

-- ---- single pieces

pub made_mark : (m : ℕ) (is : AreTokens Mail (mark m ∷ []) (m ∷ [])) → IsLinePiece (m ∷ []) → AreMade (mark m ∷ []) ((m ∷ []) ∷ [])
made_mark m is line = record { are_tokens = is; begins = refl; ends = refl; there = omega arith; some = omega arith; each = (line, tt) }

-- a group without members
pub made_none : AreMade (mark 58 ∷ mark 59 ∷ []) ((58 ∷ 59 ∷ []) ∷ [])
made_none = record {
  are_tokens = (59 ∷ [], refl, (58, refl, refl), ([], refl, (59, refl, refl), refl));
  begins = refl;
  ends = refl;
  there = omega arith;
  some = omega arith;
  each = (record { some = omega arith; ascii = refl; line = refl }, tt);
}

word_no_comment : (k : TokenKind) (octets : List ℕ) → is_blank_token (record { kind = k; octets = octets }) ≡ false → is_comment k ≡ false
word_no_comment Gap octets h = refl
word_no_comment Comment octets h = cc h
word_no_comment Atom octets h = refl
word_no_comment Quoted octets h = refl
word_no_comment Literal octets h = refl
word_no_comment Special octets h = refl

no_blank_parts : (t : TokenValue) (ts : List TokenValue) → HasNoBlank (t ∷ ts) → (is_blank_token t ≡ false) × HasNoBlank ts
no_blank_parts t ts h = let parts = and_parts (not (is_blank_token t)) (list_all (λ u. not (is_blank_token u)) ts) h in (not-true (is_blank_token t) parts.0, parts.1)

no_blank_begins : (ts : List TokenValue) → HasNoBlank ts → BeginsNoGap ts
no_blank_begins [] h = tt
no_blank_begins (t ∷ ts) h = word_no_gap t.kind t.octets (no_blank_parts t ts h).0

no_blank_ends : (ts : List TokenValue) → HasNoBlank ts → EndsNoGap ts
no_blank_ends [] h = tt
no_blank_ends (t ∷ []) h = word_no_gap t.kind t.octets (no_blank_parts t [] h).0
no_blank_ends (t ∷ u ∷ ts) h = no_blank_ends (u ∷ ts) (no_blank_parts t (u ∷ ts) h).1

pub no_blank_comments : (ts : List TokenValue) → HasNoBlank ts → comments_of ts ≡ []
no_blank_comments [] h = refl
no_blank_comments (t ∷ ts) h = let parts = no_blank_parts t ts h in rw (word_no_comment t.kind t.octets parts.0) (no_blank_comments ts parts.1)

-- the text of an address
pub made_address : (served : Address) (w : WritesAddress served) → AreMade w.tokens (address_text served ∷ [])
made_address served w = record {
  are_tokens = rw (append-nil w.tokens, append-nil (address_text served)) at (w.writes.are_tokens [] [] tt refl);
  begins = no_blank_begins w.tokens w.no_blank;
  ends = no_blank_ends w.tokens w.no_blank;
  there = omega (arith, ap length w.is_address.whole, length-append w.is_address.local (w.is_address.at ∷ w.is_address.domain));
  some = omega arith;
  each = (record { some = omega (arith, length-append (local_text served.local) (64 ∷ served.domain)); ascii = w.ascii; line = w.line }, tt);
}

-- ---- phrases

-- the pieces are a phrase
pub record MadePhrase (units : List UnitValue) (values : List CommentValue) (pieces : List (List ℕ)) : Type 0 where
  pub tokens : List TokenValue
  pub is_phrase : IsPhrase tokens
  pub has_units : HasPhraseUnits (phrase_items tokens) units
  pub say : CommentsSay (comments_of tokens) values
  pub are_made : AreMade tokens pieces

parts_made : (part : List TokenValue) (parts : List (List TokenValue)) (pieces : List (List ℕ)) → AllByRecursion (IsPart Mail) (part ∷ parts) → join_with_byte 32 (map octets_of (part ∷ parts)) ≡ join_with_byte 32 pieces
    → 0 < length pieces → AllByRecursion IsLinePiece pieces → AreMade (joined_by_spaces (part ∷ parts)) pieces
parts_made part parts pieces all joined some each = record {
  are_tokens = subst (AreTokens Mail (joined_by_spaces (part ∷ parts))) joined (AreTokens-joined_by_spaces Mail (part ∷ parts) all);
  begins = joined_begins Mail (part ∷ parts) all;
  ends = joined_ends Mail (part ∷ parts) all;
  there = joined_some Mail part parts all;
  some = some;
  each = each;
}

pub head_phrase : (us : List UnitValue) (values : List CommentValue) (pieces : List (List ℕ)) → IsHead us values pieces → MadePhrase us values pieces
head_phrase us values pieces head = record {
  tokens = joined_by_spaces (head.first ∷ head.others);
  is_phrase = head.phrase;
  has_units = head.has_units;
  say = head.say;
  are_made = parts_made head.first head.others pieces head.are_parts head.joined head.some head.are_pieces;
}

pub again_phrase : (us : List UnitValue) (values : List CommentValue) (pieces : List (List ℕ)) → IsPhraseAgain us values pieces → MadePhrase us values pieces
again_phrase us values pieces is = by is.parts refl
  where
    by : (parts : List (List TokenValue)) → is.parts ≡ parts → MadePhrase us values pieces
    by [] e = absurd (omega (arith, is.some, ap length e))
    by (part ∷ parts) e = record {
      tokens = joined_by_spaces is.parts;
      is_phrase = is.phrase;
      has_units = is.has_units;
      say = is.say;
      are_made = rw (e) (parts_made part parts pieces (rw (e) at is.are_parts) (rw (e) at is.joined) (again_some us values pieces is) is.are_pieces);
    }

-- ---- comments

-- comments of a line
pub record IsLineComment (comment : List ℕ) : Type 0 where
  pub is_comment : IsEnclosed comment_marks comment
  pub is_line : IsLine comment

abbrev pub AreCommentsOfLine : List (List ℕ) → Type 0
AreCommentsOfLine cs = AllByRecursion IsLineComment cs

of_line : (cs : List (List ℕ)) → AllByRecursion (IsEnclosed comment_marks) cs → AllByRecursion IsLine cs → AreCommentsOfLine cs
of_line [] groups lines = tt
of_line (c ∷ cs) groups lines = (record { is_comment = groups.0; is_line = lines.0 }, of_line cs groups.1 lines.1)

pub text_line_comments : (text : List ℕ) (ts : List TokenValue) → HasMailTokens text ts → AreCommentsOfLine (comments_of ts)
text_line_comments text ts has = of_line (comments_of ts) (comments_are_comments Mail ts text has.are_tokens) (comments_are_lines Mail ts text has.are_tokens has.is_line)

line_writable : (cs : List (List ℕ)) → AreCommentsOfLine cs → AreWritableComments cs
line_writable [] all = tt
line_writable (c ∷ cs) all = (all.0.is_comment, all.0.is_line.utf8, line_writable cs all.1)

line_plain : (cs : List (List ℕ)) → AreCommentsOfLine cs → AreLineComments cs
line_plain [] all = tt
line_plain (c ∷ cs) all = (all.0.is_line.plain, line_plain cs all.1)

blank_comments : (cs : List (List ℕ)) → are_blank (joined_by_spaces (comment_parts cs)) ≡ true
blank_comments [] = refl
blank_comments (c ∷ []) = refl
blank_comments (c ∷ d ∷ cs) = blank_comments (d ∷ cs)

comments_apart : (cs : List (List ℕ)) → comments_of (joined_by_spaces (comment_parts cs)) ≡ cs
comments_apart cs = comments_of-joined_by_spaces (comment_parts cs) ∙ comment_parts-comments cs

-- comments as they are written
pub record MadeComments (values : List CommentValue) (pieces : List (List ℕ)) : Type 0 where
  pub tokens : List TokenValue
  pub blank : are_blank tokens ≡ true
  pub say : CommentsSay (comments_of tokens) values
  pub are_made : AreMade tokens pieces

pub comments_made : (cs : List (List ℕ)) (values : List CommentValue) (pieces : List (List ℕ)) → 0 < length cs → AreCommentsOfLine cs → CommentsSay cs values → CommentsPieces cs pieces → MadeComments values pieces
comments_made cs values pieces some all say are = by written.made refl
  where
    written : AreWritten cs values pieces
    written = CommentsPieces-written cs values pieces (line_writable cs all) say are

    by : (made : List (List ℕ)) → written.made ≡ made → MadeComments values pieces
    by [] e = absurd (omega (arith, some, ap length (written.none.0 e)))
    by (c ∷ made) e = record {
      tokens = joined_by_spaces (comment_parts (c ∷ made));
      blank = blank_comments (c ∷ made);
      say = rw (comments_apart (c ∷ made)) (rw (e) at written.say);
      are_made = parts_made (comment_part c) (comment_parts made) pieces (comments_are_parts Mail (c ∷ made) (groups (c ∷ made) (rw (e) at written.are_comments)))
          (ap (join_with_byte 32) (comment_parts-octets (c ∷ made)) ∙ (rw (e) at written.joined)) (CommentsPieces-there cs pieces some are)
          (CommentsPieces-line cs pieces (line_writable cs all) (line_plain cs all) are);
    }

-- what may stand after others: nothing, or comments after a space
pub record MadeAfter (values : List CommentValue) (pieces : List (List ℕ)) : Type 0 where
  pub tokens : List TokenValue
  pub blank : are_blank tokens ≡ true
  pub say : CommentsSay (comments_of tokens) values
  pub onto : (front : List TokenValue) (first : List (List ℕ)) → AreMade front first → AreMade (front ++ tokens) (first ++ pieces)

nothing_following : (front : List TokenValue) (first : List (List ℕ)) → AreMade front first → AreMade (front ++ []) (first ++ [])
nothing_following front first made = rw (append-nil front, append-nil first) made

pub comments_after : (cs : List (List ℕ)) (values : List CommentValue) (pieces : List (List ℕ)) → AreCommentsOfLine cs → CommentsSay cs values → CommentsPieces cs pieces → MadeAfter values pieces
comments_after [] values pieces all say are = rw (are) (record { tokens = []; blank = refl; say = say; onto = nothing_following })
comments_after (c ∷ cs) values pieces all say are =
    let made = comments_made (c ∷ cs) values pieces (omega arith) all say are in
    record {
      tokens = space ∷ made.tokens;
      blank = made.blank;
      say = made.say;
      onto = λ front first m. made_two front made.tokens first pieces m made.are_made;
    }
