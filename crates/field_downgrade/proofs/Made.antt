-- The made field: its folds, its octets, its value and its units.
use Rattle.std.proofs.Common.{◌≡◌, ℕ, ◌<◌, length, Bool, true, false, not, List, [], ◌∷◌, ◌++◌, map, get_or, refl, sym, ap, ◌∙◌, subst, arith, inl, inr}
use Rattle.std.proofs.lemmas.Bool.{and_parts, and_from, lt-ltb}
use Rattle.std.proofs.lemmas.Bool.Decides.{nat_tests}
use Rattle.std.proofs.lemmas.List.{append_assoc, append-nil}
use Rattle.std.specs.List.{list_all, flat_map, concat, AllByRecursion}
use Rattle.std.specs.Str.{IsUtf8, IsAscii}
use Rattle.std.proofs.lemmas.Str.{IsUtf8-append, IsUtf8-from_ascii}
use Rattle.mail_wire.specs.Octets.{is_white, is_ascii, is_field_name_octet}
use Rattle.mail_wire.specs.Lines.{crlf}
use Rattle.mail_wire.specs.Folds.{unfolded, IsFolded}
use Rattle.mail_wire.proofs.Folded.{without_ends, without_ends-append, unfolded-folded, IsFolded-nil, IsFolded-append, IsFolded-fold, IsFolded-plain}
use Rattle.mail_wire.specs.Spans.{Stops}
use Rattle.encoded_words.specs.WrittenWords.{written_word, IsChunk, AreChunks, AreWordsOf}
use Rattle.encoded_words.proofs.WrittenWords.{written_word-ascii, ascii_literal}
use Rattle.encoded_words.proofs.Once.{begins_nonwhite}
use Rattle.mail_wire.proofs.SpanLemmas.{all_from_places}
use Rattle.utf8_fields.specs.Parts.{FieldParts, HasParts, HasValue, field_octets}
use Rattle.mail_wire.specs.Spans.{StopsAfter}
use Rattle.mail_wire.proofs.AllLemmas.{pass-append}
use Rattle.mail_wire.proofs.OctetLemmas.{white_no_end}
use Rattle.field_downgrade.specs.Words.{AreUtf8, Word, AreWords, HasWords, run_of, last_run, plain_text, copied_octets, is_high_word, word_octets}
use Rattle.encoded_words.specs.Words.{UnitValue}
use Rattle.encoded_words.specs.Units.{HasUnits}
use Rattle.utf8_fields.specs.Parts.{HasValue}
use Rattle.field_downgrade.specs.Layout.{first_side, last_side, Segment, segment_words, IsSegment, AreSegments, IsCopied, copied_pieces, GivesPieces, GiveAll, HavePieces, made_of}
use Rattle.encoded_words.specs.Folding.{Piece, word_pieces, made_body}
use Rattle.address_lists.proofs.PlacesAgain.{white_ascii}
use Rattle.field_downgrade.specs.declared.segments.Side.{Side}
use Rattle.field_downgrade.specs.declared.kind.Kind.TheVariants.{Unstructured}
use Rattle.field_downgrade.specs.Kinds.{kind_named}
use Rattle.field_downgrade.specs.Stands.{IsSameMeaning, Means, SaysAs, Units}
use Rattle.field_downgrade.specs.private.Steps.{KeepsWords}
use Rattle.field_downgrade.proofs.Units.{units_from, units_from-front}
use Rattle.field_downgrade.proofs.Places.{without_ends-white}
use Rattle.field_downgrade.proofs.Pieces.{following, shown, AreWords-front, AreWords-back, last_white, chunks_first, AreUtf8-front, AreUtf8-back, white_utf8, plain_utf8, written_word-no_end, word_keeps, Ends-places}
use Rattle.field_downgrade.proofs.ReadBack.{IsReadBack, IsReadBack-pieces, left_white, right_white}
use Rattle.field_downgrade.proofs.WordLemmas.{word_no_end, gap_ascii}

-- a piece that may stand on a line of its own
pub record IsPiece (p : Piece) : Type 0 where
  pub white : is_white p.white ≡ true
  pub folded : IsFolded p.octets
  pub ascii : list_all is_ascii p.octets ≡ true

abbrev pub ArePieces : List Piece → Type 0
ArePieces pieces = AllByRecursion IsPiece pieces

ArePieces-append : (xs ys : List Piece) → ArePieces xs → ArePieces ys → ArePieces (xs ++ ys)
ArePieces-append [] ys a b = b
ArePieces-append (x ∷ xs) ys a b = (a.0, ArePieces-append xs ys a.1 b)

pub copied_folded : (ws : List Word) → AreWords ws → IsFolded (copied_octets ws)
copied_folded [] are = IsFolded-nil
copied_folded (w ∷ []) are = IsFolded-plain w.octets (word_no_end w.octets are.0.octets)
copied_folded (w ∷ v ∷ ws) are =
    IsFolded-append w.octets (w.gap ++ copied_octets (v ∷ ws)) (IsFolded-plain w.octets (word_no_end w.octets are.0.octets))
    (IsFolded-append w.gap (copied_octets (v ∷ ws)) are.0.gap.folded (copied_folded (v ∷ ws) are.2))

not_not : (b : Bool) → not (not b) ≡ true → b ≡ true
not_not true h = refl
not_not false h = cc h

copied_ascii : (ws : List Word) → AreWords ws → IsCopied ws → list_all is_ascii (copied_octets ws) ≡ true
copied_ascii [] are low = refl
copied_ascii (w ∷ []) are low = not_not (list_all is_ascii w.octets) (and_parts (not (is_high_word w)) true low).0
copied_ascii (w ∷ v ∷ ws) are low =
    let parts = and_parts (not (is_high_word w)) (list_all (λ (w : Word). not (is_high_word w)) (v ∷ ws)) low in
    pass-append is_ascii w.octets (w.gap ++ copied_octets (v ∷ ws)) (not_not (list_all is_ascii w.octets) parts.0)
    (pass-append is_ascii w.gap (copied_octets (v ∷ ws)) (gap_ascii w.gap are.0.gap.octets) (copied_ascii (v ∷ ws) are.2 parts.1))

copied_are : (white : ℕ) (ws : List Word) → is_white white ≡ true → AreWords ws → IsCopied ws → ArePieces (copied_pieces white ws)
copied_are white [] h are low = tt
copied_are white (w ∷ ws) h are low = (record { white = h; folded = copied_folded (w ∷ ws) are; ascii = copied_ascii (w ∷ ws) are low }, tt)

all_ascii : (xs : List ℕ) → IsAscii xs → list_all is_ascii xs ≡ true
all_ascii xs h = all_from_places is_ascii xs (λ k l. lt-ltb (get_or xs k 0) 128 (h k))

written_word_is : (chunk rest : List ℕ) (white : ℕ) → is_white white ≡ true → IsUtf8 chunk → IsChunk chunk rest → IsPiece (record { white = white; octets = written_word chunk })
written_word_is chunk rest white h u is = record {
  white = h;
  folded = IsFolded-plain (written_word chunk) (written_word-no_end chunk rest u is);
  ascii = all_ascii (written_word chunk) (written_word-ascii chunk u);
}

others_are : (chunks : List (List ℕ)) → AreChunks chunks [] → IsUtf8 (concat chunks) → ArePieces (map (λ w. record { white = 32; octets = w }) (map written_word chunks))
others_are [] are u = tt
others_are (c ∷ cs) are u = let first = chunks_first c cs are u in (written_word_is c _ 32 refl first.1 are.0, others_are cs are.1 first.2)

chunks_are : (white : ℕ) (chunks : List (List ℕ)) → is_white white ≡ true → AreChunks chunks [] → IsUtf8 (concat chunks) → ArePieces (word_pieces white (map written_word chunks))
chunks_are white [] h are u = tt
chunks_are white (c ∷ cs) h are u = let first = chunks_first c cs are u in (written_word_is c _ white h first.1 are.0, others_are cs are.1 first.2)

pub words_are : (white : ℕ) (text : List ℕ) (made_words : List (List ℕ)) → is_white white ≡ true → IsUtf8 text → AreWordsOf text made_words → ArePieces (word_pieces white made_words)
words_are white text made_words h u are =
    let whole : text ≡ concat are.chunks = are.whole ∙ append-nil (concat are.chunks) in
    rw (are.spelled) (chunks_are white are.chunks h are.are_chunks (subst IsUtf8 whole u))

-- the text of the encoded words of a segment
pub gives_utf8 : (side : Side) (run : List ℕ) (s : Segment) (pieces : List Piece) → AreWords (segment_words s) → AreUtf8 (segment_words s) → list_all is_white run ≡ true
    → (g : GivesPieces side run s pieces) → IsUtf8 (g.left ++ (plain_text s.core ++ g.right))
gives_utf8 side run s pieces are u white g =
    let are_core = AreWords-front s.core s.copied are in
    let left = left_white side run g.left g.white white g.cuts_left in
    let right = right_white (first_side s.copied) (last_run s.core) g.right g.next (last_white s.core are_core) g.cuts_right in
    IsUtf8-append g.left (plain_text s.core ++ g.right) (white_utf8 g.left left.0)
    (IsUtf8-append (plain_text s.core) g.right (plain_utf8 s.core are_core (AreUtf8-front s.core s.copied u)) (white_utf8 g.right right.0))

gives_are : (side : Side) (run : List ℕ) (s : Segment) (pieces : List Piece) → IsSegment s → AreWords (segment_words s) → AreUtf8 (segment_words s) → list_all is_white run ≡ true
    → GivesPieces side run s pieces → ArePieces pieces
gives_are side run s pieces is are u white g =
    let are_core = AreWords-front s.core s.copied are in
    let left = left_white side run g.left g.white white g.cuts_left in
    let right = right_white (first_side s.copied) (last_run s.core) g.right g.next (last_white s.core are_core) g.cuts_right in
    let text = gives_utf8 side run s pieces are u white g in
    rw (g.pieces_are) (ArePieces-append (word_pieces g.white g.made_words) (copied_pieces g.next s.copied)
    (words_are g.white (g.left ++ (plain_text s.core ++ g.right)) g.made_words left.1 text g.are_made_words) (copied_are g.next s.copied right.1 (AreWords-back s.core s.copied are) is.copied))

all_are : (ss : List Segment) (side : Side) (run : List ℕ) (pieces : List Piece) → AreSegments ss → AreWords (flat_map segment_words ss) → AreUtf8 (flat_map segment_words ss)
    → list_all is_white run ≡ true → GiveAll side run ss pieces → ArePieces pieces
all_are [] side run pieces segs are u white give = rw give tt
all_are (s ∷ ss) side run pieces segs are u white give =
    let ws : List Word = flat_map segment_words ss in
    let are_first = AreWords-front (segment_words s) ws are in
    let are_copied = AreWords-back s.core s.copied are_first in
    rw (give.2) (ArePieces-append give.0 give.1 (gives_are side run s give.0 segs.0 are_first (AreUtf8-front (segment_words s) ws u) white give.3)
    (all_are ss (last_side s.copied) (last_run s.copied) give.1 segs.2 (AreWords-back (segment_words s) ws are) (AreUtf8-back (segment_words s) ws u) (last_white s.copied are_copied) give.4))

-- each piece of words may stand on a line of its own
pub ArePieces-from : (words : List Word) (pieces : List Piece) → AreWords words → AreUtf8 words → HavePieces words pieces → ArePieces pieces
ArePieces-from words pieces are u have =
    let ws : List Word = flat_map segment_words have.segments in
    let are_all = subst AreWords have.whole are in
    let u_all = subst AreUtf8 have.whole u in
    let are_front = AreWords-front have.front ws are_all in
    rw (have.pieces_are) (ArePieces-append (copied_pieces 32 have.front) have.more (copied_are 32 have.front refl are_front have.copied)
    (all_are have.segments (last_side have.front) (last_run have.front) have.more have.are_segments (AreWords-back have.front ws are_all) (AreUtf8-back have.front ws u_all)
    (last_white have.front are_front) have.give))

-- The body of a made field.
pub made-folded : (pieces : List Piece) → ArePieces pieces → IsFolded (made_body pieces)
made-folded [] are = IsFolded-nil
made-folded (p ∷ ps) are = IsFolded-append (crlf ++ p.white ∷ p.octets) (made_body ps) (IsFolded-fold p.white p.octets are.0.white are.0.folded) (made-folded ps are.1)

pub made-shows : (pieces : List Piece) → ArePieces pieces → without_ends (made_body pieces) ≡ following pieces
made-shows [] are = refl
made-shows (p ∷ ps) are =
    without_ends-append (crlf ++ p.white ∷ p.octets) (made_body ps) ∙ rw (white_no_end p.white are.0.white, made-shows ps are.1) refl

pub made-ascii : (pieces : List Piece) → ArePieces pieces → list_all is_ascii (made_body pieces) ≡ true
made-ascii [] are = refl
made-ascii (p ∷ ps) are =
    pass-append is_ascii (crlf ++ p.white ∷ p.octets) (made_body ps)
    (and_from (is_ascii p.white) (list_all is_ascii p.octets) (white_ascii p.white are.0.white) are.0.ascii) (made-ascii ps are.1)

-- The value of the original and that of the made field.
words_text : (ws : List Word) → AreWords ws → without_ends (flat_map word_octets ws) ≡ plain_text ws ++ last_run ws
words_text [] are = refl
words_text (w ∷ []) are =
    rw (append-nil) (without_ends-append w.octets w.gap ∙ rw (word_keeps w.octets are.0.octets, unfolded-folded w.gap are.0.gap.folded) refl)
words_text (w ∷ v ∷ ws) are =
    without_ends-append (w.octets ++ w.gap) (flat_map word_octets (v ∷ ws))
    ∙ rw (words_text (v ∷ ws) are.2, without_ends-append w.octets w.gap, word_keeps w.octets are.0.octets, ← unfolded-folded w.gap are.0.gap.folded)
    (append_assoc w.octets (run_of w) (plain_text (v ∷ ws) ++ last_run (v ∷ ws)) ∙ ap (λ t. w.octets ++ t) (sym (append_assoc (run_of w) (plain_text (v ∷ ws)) (last_run (v ∷ ws))))
    ∙ sym (append_assoc w.octets (run_of w ++ plain_text (v ∷ ws)) (last_run (v ∷ ws))))

HasValue-orig : (body : List ℕ) (words : List Word) (pieces : List Piece) → IsFolded body → (has : HasWords body words) → IsReadBack words pieces → HasValue body (plain_text words)
HasValue-orig body words pieces folded has back = record {
  lead = without_ends has.lead;
  trail = last_run words;
  lead_passes = without_ends-white has.lead has.is_lead.octets;
  trail_passes = last_white words has.are_words;
  begins = subst (Stops is_white) back.orig_octets (begins_nonwhite back.orig back.are_orig);
  ends = subst (StopsAfter is_white) back.orig_octets (Ends-places back.orig back.are_orig back.bare_orig);
  whole = unfolded-folded body folded ∙ ap without_ends has.whole ∙ without_ends-append has.lead (flat_map word_octets words) ∙ ap (λ t. without_ends has.lead ++ t) (words_text words has.are_words);
}

HasValue-made : (words : List Word) (pieces : List Piece) → ArePieces pieces → IsReadBack words pieces → HasValue (made_body pieces) (shown pieces)
HasValue-made words pieces are back = by pieces are
    (subst (Stops is_white) back.made_octets (begins_nonwhite back.made back.are_made))
    (subst (StopsAfter is_white) back.made_octets (Ends-places back.made back.are_made back.bare_made))
    (unfolded-folded (made_body pieces) (made-folded pieces are) ∙ made-shows pieces are)
  where
    by : (pieces : List Piece) → ArePieces pieces → Stops is_white (shown pieces) → StopsAfter is_white (shown pieces) → unfolded (made_body pieces) ≡ following pieces → HasValue (made_body pieces) (shown pieces)
    by [] are begins ends whole = record { lead = []; trail = []; lead_passes = refl; trail_passes = refl; begins = tt; ends = tt; whole = whole }
    by (p ∷ ps) are begins ends whole = record {
      lead = p.white ∷ [];
      trail = [];
      lead_passes = rw (are.0.white) refl;
      trail_passes = refl;
      begins = begins;
      ends = ends;
      whole = whole ∙ ap (λ t. p.white ∷ t) (sym (append-nil (shown (p ∷ ps))));
    }

-- The made field means what the original does.
-- what an unstructured field means
means_units : (f : FieldParts) (value : List ℕ) (units : List UnitValue) → kind_named f.name ≡ Unstructured → HasValue f.body value → HasUnits value units → Means f (Units units)
means_units f value units kind has says = record { value = value; has_value = has; says = subst (λ k. SaysAs k f.name value (Units units)) (sym kind) (units, refl, says) }

pub IsSameMeaning-made : (open_global : Bool) (octets : List ℕ) (f : FieldParts) (words : List Word) (pieces : List Piece) → HasParts octets f → KeepsWords f.name → HasWords f.body words → AreUtf8 words
    → HavePieces words pieces → IsSameMeaning open_global f (made_of f pieces)
IsSameMeaning-made open_global octets f words pieces is keeps has u have =
    let back = IsReadBack-pieces words pieces has.are_words u have in
    let are = ArePieces-from words pieces has.are_words u have in
    record {
      name = refl;
      no_hyphen = keeps.no_hyphen;
      meaning = Units (units_from false [] back.orig);
      made_meaning = Units (units_from false [] back.orig);
      stands = refl;
      means = means_units f (plain_text words) (units_from false [] back.orig) keeps.kind (HasValue-orig f.body words pieces is.body has back)
          (record { lead = []; places = back.orig; white = refl; are_places = back.are_orig; whole = sym back.orig_octets; says = sym (units_from-front [] back.orig) });
      made_means = means_units (made_of f pieces) (shown pieces) (units_from false [] back.orig) keeps.kind (HasValue-made words pieces are back)
          (record { lead = []; places = back.made; white = refl; are_places = back.are_made; whole = sym back.made_octets; says = back.units ∙ sym (units_from-front [] back.made) });
    }

IsAscii-from : (xs : List ℕ) → list_all is_ascii xs ≡ true → IsAscii xs
IsAscii-from xs h = ascii_literal xs h

-- a field of these pieces is a field, with the last CRLF of the original
pub HasParts-pieces : (octets : List ℕ) (f g : FieldParts) (pieces : List Piece) → HasParts octets f → ArePieces pieces → 0 < length g.name → list_all is_field_name_octet g.name ≡ true → g.white ≡ []
    → g.body ≡ made_body pieces → g.ending ≡ f.ending → HasParts (field_octets g) g
HasParts-pieces octets f g pieces is are named name white body ending = record {
  spelled = refl;
  named = named;
  name = name;
  white = rw white refl;
  body = rw body (made-folded pieces are);
  utf8 = rw body (IsUtf8-from_ascii (made_body pieces) (IsAscii-from (made_body pieces) (made-ascii pieces are)));
  ending = rw ending is.ending;
}

-- The made field is a field, with the name of the original and its last CRLF.
pub HasParts-made : (octets : List ℕ) (f : FieldParts) (words : List Word) (pieces : List Piece) → HasParts octets f → HasWords f.body words → AreUtf8 words → HavePieces words pieces
    → HasParts (field_octets (made_of f pieces)) (made_of f pieces)
HasParts-made octets f words pieces is has u have =
    HasParts-pieces octets f (made_of f pieces) pieces is (ArePieces-from words pieces has.are_words u have) is.named is.name refl refl refl

pub name_ascii : (xs : List ℕ) → list_all is_field_name_octet xs ≡ true → list_all is_ascii xs ≡ true
name_ascii [] h = refl
name_ascii (x ∷ xs) h =
    let parts = and_parts (is_field_name_octet x) (list_all is_field_name_octet xs) h in
    and_from (is_ascii x) (list_all is_ascii xs) (one x parts.0) (name_ascii xs parts.1)
  where
    one : (x : ℕ) → is_field_name_octet x ≡ true → is_ascii x ≡ true
    one x h = grind (arith, nat_tests)

-- all its octets are below 128
pub pieces-ascii : (octets : List ℕ) (f g : FieldParts) (pieces : List Piece) → HasParts octets f → ArePieces pieces → list_all is_field_name_octet g.name ≡ true → g.white ≡ []
    → g.body ≡ made_body pieces → g.ending ≡ f.ending → list_all is_ascii (field_octets g) ≡ true
pieces-ascii octets f g pieces is are name white body end =
    let ending : list_all is_ascii f.ending ≡ true = elim is.ending [ inl e ↦ rw e refl | inr e ↦ rw e refl ] in
    rw (white, body, end)
    (pass-append is_ascii g.name (58 ∷ (made_body pieces ++ f.ending)) (name_ascii g.name name) (pass-append is_ascii (made_body pieces) f.ending (made-ascii pieces are) ending))

pub field_ascii : (octets : List ℕ) (f : FieldParts) (words : List Word) (pieces : List Piece) → HasParts octets f → HasWords f.body words → AreUtf8 words → HavePieces words pieces
    → list_all is_ascii (field_octets (made_of f pieces)) ≡ true
field_ascii octets f words pieces is has u have = pieces-ascii octets f (made_of f pieces) pieces is (ArePieces-from words pieces has.are_words u have) is.name refl refl refl
