-- A made field has the units of the original: an induction over its segments.
use Rattle.std.proofs.Common.{◌≡◌, ℕ, ◌<◌, Bool, true, false, ◌&&◌, not, cond, List, [], ◌∷◌, ◌++◌, length, map, refl, sym, ap, ◌∙◌, subst, arith}
use Rattle.std.proofs.lemmas.Bool.{and_parts}
use Rattle.std.proofs.lemmas.List.{append_assoc, append-nil, length-append}
use Rattle.std.proofs.lemmas.List.Folds.{list_all-append}
use Rattle.std.specs.List.{list_all, flat_map, concat}
use Rattle.std.specs.Str.{IsUtf8}
use Rattle.std.proofs.lemmas.Str.{IsUtf8-append}
use Rattle.mail_wire.specs.Octets.{is_white}
use Rattle.encoded_words.specs.Words.{UnitValue}
use Rattle.encoded_words.specs.Units.{Place, ArePlaces, place_octets, with_text}
use Rattle.encoded_words.specs.WrittenWords.{written_word, AreChunks, AreWordsOf}
use Rattle.encoded_words.proofs.WithText.{with_text-append}
use Rattle.field_downgrade.specs.Words.{AreUtf8, Word, AreWords, run_of, last_run, plain_text}
use Rattle.field_downgrade.specs.Layout.{side_of, first_side, last_side, CutsLeft, CutsRight, Segment, segment_words, Parts, AreSegments, copied_pieces, GivesPieces, GiveAll, HavePieces, begins_high}
use Rattle.encoded_words.specs.Folding.{Piece, word_pieces}
use Rattle.field_downgrade.specs.declared.segments.Side.{Side}
use Rattle.field_downgrade.specs.declared.segments.Side.TheVariants.{Edge, Encoded, Plain}
use Rattle.field_downgrade.proofs.Units.{units_from, encoded_places, core_same}
use Rattle.field_downgrade.proofs.Places.{places, octets-places, Joint, ArePlaces-places, units_from-plain, was_of, copied_same, says_of-is_some}
use Rattle.field_downgrade.proofs.Pieces.{following, shown, shown-append, AreWords-front, AreWords-back, last_some, last_white, plain_text-append, copied_text, ArePlaces-encoded_places, octets-encoded_places, AreUtf8-front, AreUtf8-back, white_utf8, plain_utf8, IsBare, bare-places, bare-encoded_places}

-- what stands after a word with this run, where these words follow
abbrev pub tail_text : List ℕ → List Word → List ℕ
tail_text run [] = []
tail_text run (w ∷ ws) = run ++ plain_text (w ∷ ws)

plain_text-tail : (x : Word) (xs ws : List Word) → plain_text ((x ∷ xs) ++ ws) ≡ plain_text (x ∷ xs) ++ tail_text (last_run (x ∷ xs)) ws
plain_text-tail x xs [] = ap plain_text (append-nil (x ∷ xs)) ∙ sym (append-nil (plain_text (x ∷ xs)))
plain_text-tail x xs (w ∷ ws) = plain_text-append x xs w ws

pub record IsRun (run : List ℕ) : Type 0 where
  pub some : 0 < length run
  pub white : list_all is_white run ≡ true

-- the first piece stands after this white octet
abbrev pub BeginsWith : ℕ → List Piece → Type 0
BeginsWith white [] = ⊥
BeginsWith white (p ∷ ps) = p.white ≡ white

-- The places of words and those of their pieces, after this run and this lead.
pub record Same (was : Bool) (run lead : List ℕ) (white : ℕ) (ws : List Word) (pieces : List Piece) : Type 0 where
  pub orig : List Place
  pub made : List Place
  pub begins : BeginsWith white pieces
  pub joint : (r : List ℕ) → IsRun r → Joint r orig
  pub made_joint : (r : List ℕ) → IsRun r → Joint r made
  pub are_orig : ArePlaces orig
  pub are_made : ArePlaces made
  pub bare_orig : IsBare orig
  pub bare_made : IsBare made
  pub orig_octets : flat_map place_octets orig ≡ plain_text ws
  pub made_octets : flat_map place_octets made ≡ shown pieces
  pub units : units_from was run orig ≡ units_from was lead made

-- The places of words that follow a word with this run, and those of their pieces.
pub record Follow (run : List ℕ) (ws : List Word) (pieces : List Piece) : Type 0 where
  pub real : List ℕ
  pub lead : List ℕ
  pub orig : List Place
  pub made : List Place
  pub are_orig : ArePlaces orig
  pub are_made : ArePlaces made
  pub bare_orig : IsBare orig
  pub bare_made : IsBare made
  pub joint : Joint real orig
  pub made_joint : Joint lead made
  pub orig_octets : real ++ flat_map place_octets orig ≡ tail_text run ws
  pub made_octets : lead ++ flat_map place_octets made ≡ following pieces

abbrev follow_none : (run : List ℕ) → Follow run [] []
follow_none run = record {
  real = [];
  lead = [];
  orig = [];
  made = [];
  are_orig = tt;
  are_made = tt;
  bare_orig = tt;
  bare_made = tt;
  joint = refl;
  made_joint = refl;
  orig_octets = refl;
  made_octets = refl;
}

joint_places : (run : List ℕ) → IsRun run → (w : Word) (ws : List Word) (are : AreWords (w ∷ ws)) (last : List ℕ) (rest : List Place) → Joint run (places (w ∷ ws) are last rest)
joint_places run is w [] are last rest = (is.some, is.white)
joint_places run is w (v ∷ ws) are last rest = (is.some, is.white)

joint_encoded_places : (run : List ℕ) → IsRun run → (c : List ℕ) (cs : List (List ℕ)) (last : List ℕ) (rest : List Place) → Joint run (encoded_places (c ∷ cs) last rest)
joint_encoded_places run is c [] last rest = (is.some, is.white)
joint_encoded_places run is c (d ∷ cs) last rest = (is.some, is.white)

-- copied words after a run
abbrev follow_copied : (run : List ℕ) (next : ℕ) (d : Word) (ds : List Word) (are : AreWords (d ∷ ds)) (ws : List Word) (more : List Piece) → IsRun run → is_white next ≡ true
    → Follow (last_run (d ∷ ds)) ws more → Follow run ((d ∷ ds) ++ ws) (copied_pieces next (d ∷ ds) ++ more)
follow_copied run next d ds are ws more is white b =
    record {
      real = run;
      lead = next ∷ [];
      orig = places (d ∷ ds) are b.real b.orig;
      made = places (d ∷ ds) are b.lead b.made;
      are_orig = ArePlaces-places (d ∷ ds) are b.real b.orig b.joint b.are_orig;
      are_made = ArePlaces-places (d ∷ ds) are b.lead b.made b.made_joint b.are_made;
      bare_orig = bare-places d ds are b.real b.orig b.joint b.bare_orig;
      bare_made = bare-places d ds are b.lead b.made b.made_joint b.bare_made;
      joint = joint_places run is d ds are b.real b.orig;
      made_joint = joint_places (next ∷ []) (record { some = omega arith; white = rw white refl }) d ds are b.lead b.made;
      orig_octets = ap (λ t. run ++ t) (octets-places d ds are b.real b.orig ∙ ap (λ t. plain_text (d ∷ ds) ++ t) b.orig_octets ∙ sym (plain_text-tail d ds ws));
      made_octets = ap (λ t. next ∷ t) (octets-places d ds are b.lead b.made ∙ rw (b.made_octets, copied_text (d ∷ ds) are) refl);
    }

head_same : (was : Bool) (run : List ℕ) (d : Word) (ds : List Word) (are : AreWords (d ∷ ds)) (last : List ℕ) (rest : List Place)
    → units_from was run (places (d ∷ ds) are last rest) ≡ with_text (cond (was && d.is_encoded) [] run) (units_from false [] (places (d ∷ ds) are last rest))
head_same was run d [] are last rest = rw (says_of-is_some d.is_encoded d.octets are.0.encoded) refl
head_same was run d (v ∷ ds) are last rest = rw (says_of-is_some d.is_encoded d.octets are.0.encoded) refl

right_run : (d : Word) (last right : List ℕ) (next : ℕ) → CutsRight (side_of d) last right next → right ++ cond (true && d.is_encoded) [] (next ∷ []) ≡ last
right_run d last right next cuts = by d.is_encoded cuts
  where
    by : (b : Bool) → CutsRight (cond b Encoded Plain) last right next → right ++ cond b [] (next ∷ []) ≡ last
    by true cuts = append-nil right ∙ cuts.0
    by false cuts = sym cuts

-- copied words after a core
follow_core_units : (last right : List ℕ) (next : ℕ) (d : Word) (ds : List Word) (are : AreWords (d ∷ ds)) (ws : List Word) (more : List Piece)
    → CutsRight (side_of d) last right next → (b : Follow (last_run (d ∷ ds)) ws more)
    → units_from (was_of (last_side (d ∷ ds))) b.real b.orig ≡ units_from (was_of (last_side (d ∷ ds))) b.lead b.made
    → units_from false last (places (d ∷ ds) are b.real b.orig) ≡ with_text right (units_from true (next ∷ []) (places (d ∷ ds) are b.lead b.made))
follow_core_units last right next d ds are ws more cuts b same =
    let orig : List UnitValue = units_from false [] (places (d ∷ ds) are b.real b.orig) in
    let made : List UnitValue = units_from false [] (places (d ∷ ds) are b.lead b.made) in
    let both : orig ≡ made = copied_same false [] d ds are b.real b.lead b.orig b.made same in
    head_same false last d ds are b.real b.orig
    ∙ ap (λ us. with_text last us) both
    ∙ ap (λ r. with_text r made) (sym (right_run d last right next cuts))
    ∙ sym (with_text-append right (cond (true && d.is_encoded) [] (next ∷ [])) made)
    ∙ ap (λ us. with_text right us) (sym (head_same true (next ∷ []) d ds are b.lead b.made))

-- A core and what follows it.
core_chunks : (was : Bool) (run lead left right : List ℕ) (white : ℕ) (c : Word) (cs : List Word) (are : AreWords (c ∷ cs)) (ws : List Word) (pieces : List Piece) (chunks : List (List ℕ)) → AreUtf8 (c ∷ cs)
    → list_all (λ (w : Word). not w.is_encoded) (c ∷ cs) ≡ true → list_all is_white left ≡ true → list_all is_white right ≡ true
    → cond was [] lead ++ left ≡ run
    → AreChunks chunks [] → left ++ (plain_text (c ∷ cs) ++ right) ≡ concat chunks
    → (b : Follow (last_run (c ∷ cs)) ws pieces) → units_from false b.real b.orig ≡ with_text right (units_from true b.lead b.made)
    → Same was run lead white ((c ∷ cs) ++ ws) (word_pieces white (map written_word chunks) ++ pieces)
core_chunks was run lead left right white c cs are ws pieces [] u plain wl wr run_is are_chunks whole b after =
    let some = are.0.some in
    absurd (omega (arith, ap length whole, length-append left (plain_text (c ∷ cs) ++ right), length-append (plain_text (c ∷ cs)) right, first_some c cs some))
  where
    first_some : (c : Word) (cs : List Word) → 0 < length c.octets → 0 < length (plain_text (c ∷ cs))
    first_some c [] h = h
    first_some c (d ∷ cs) h = omega (arith, length-append c.octets (run_of c ++ plain_text (d ∷ cs)))
core_chunks was run lead left right white c cs are ws pieces (k ∷ ks) u plain wl wr run_is are_chunks whole b after =
    let text_utf8 : IsUtf8 (concat (k ∷ ks)) = subst IsUtf8 whole (IsUtf8-append left (plain_text (c ∷ cs) ++ right) (white_utf8 left wl) (IsUtf8-append (plain_text (c ∷ cs)) right (plain_utf8 (c ∷ cs) are u) (white_utf8 right wr))) in
    let orig : List Place = places (c ∷ cs) are b.real b.orig in
    record {
      orig = orig;
      made = encoded_places (k ∷ ks) b.lead b.made;
      begins = refl;
      joint = λ r is. joint_places r is c cs are b.real b.orig;
      made_joint = λ r is. joint_encoded_places r is k ks b.lead b.made;
      are_orig = ArePlaces-places (c ∷ cs) are b.real b.orig b.joint b.are_orig;
      are_made = ArePlaces-encoded_places (k ∷ ks) b.lead b.made are_chunks text_utf8 b.made_joint b.are_made;
      bare_orig = bare-places c cs are b.real b.orig b.joint b.bare_orig;
      bare_made = bare-encoded_places k ks b.lead b.made b.made_joint b.bare_made;
      orig_octets = octets-places c cs are b.real b.orig ∙ ap (λ t. plain_text (c ∷ cs) ++ t) b.orig_octets ∙ sym (plain_text-tail c cs ws);
      made_octets = octets-encoded_places white k ks b.lead b.made are_chunks text_utf8 ∙ ap (λ t. shown (word_pieces white (map written_word (k ∷ ks))) ++ t) b.made_octets
          ∙ sym (shown-append (record { white = white; octets = written_word k }) (map (λ w. record { white = 32; octets = w }) (map written_word ks)) pieces);
      units = core_same was run lead left (plain_text (c ∷ cs)) b.real right b.lead orig b.orig b.made k ks run_is (sym whole)
          (units_from-plain was run c cs are b.real b.orig plain) after;
    }

core_step : (was : Bool) (run lead left right : List ℕ) (white : ℕ) (c : Word) (cs : List Word) (are : AreWords (c ∷ cs)) (ws : List Word) (pieces : List Piece) (made_words : List (List ℕ)) → AreUtf8 (c ∷ cs)
    → list_all (λ (w : Word). not w.is_encoded) (c ∷ cs) ≡ true → list_all is_white left ≡ true → list_all is_white right ≡ true
    → cond was [] lead ++ left ≡ run
    → AreWordsOf (left ++ (plain_text (c ∷ cs) ++ right)) made_words
    → (b : Follow (last_run (c ∷ cs)) ws pieces) → units_from false b.real b.orig ≡ with_text right (units_from true b.lead b.made)
    → Same was run lead white ((c ∷ cs) ++ ws) (word_pieces white made_words ++ pieces)
core_step was run lead left right white c cs are ws pieces made_words u plain wl wr run_is are_b b after =
    let whole = are_b.whole ∙ append-nil (concat are_b.chunks) in
    let same = core_chunks was run lead left right white c cs are ws pieces are_b.chunks u plain wl wr run_is are_b.are_chunks whole b after in
    subst (λ ks. Same was run lead white ((c ∷ cs) ++ ws) (word_pieces white ks ++ pieces)) (sym are_b.spelled) same

-- The parts of runs.
pub left_white : (side : Side) (run left : List ℕ) (white : ℕ) → list_all is_white run ≡ true → CutsLeft side run left white → (list_all is_white left ≡ true) × (is_white white ≡ true)
left_white Edge run left white all cuts = (rw (cuts.0) refl, rw (cuts.1) refl)
left_white Encoded run left white all cuts = (rw (cuts.0) all, rw (cuts.1) refl)
left_white Plain run left white all cuts =
    let parts = and_parts (is_white white) (list_all is_white left) (rw cuts at all) in (parts.1, parts.0)

pub right_white : (side : Side) (run right : List ℕ) (next : ℕ) → list_all is_white run ≡ true → CutsRight side run right next → (list_all is_white right ≡ true) × (is_white next ≡ true)
right_white Edge run right next all cuts = (rw (cuts.0) refl, rw (cuts.1) refl)
right_white Encoded run right next all cuts = (rw (cuts.0) all, rw (cuts.1) refl)
right_white Plain run right next all cuts =
    let both : list_all is_white right && (is_white next && true) ≡ true = sym (list_all-append is_white right (next ∷ [])) ∙ rw cuts at all in
    let parts = and_parts (list_all is_white right) (is_white next && true) both in
    (parts.0, (and_parts (is_white next) true parts.1).0)

abbrev pub NotEdge : Side → Type 0
NotEdge Edge = ⊥
NotEdge Encoded = Unit {0}
NotEdge Plain = Unit {0}

left_run : (side : Side) (run left : List ℕ) (white : ℕ) → NotEdge side → CutsLeft side run left white → cond (was_of side) [] (white ∷ []) ++ left ≡ run
left_run Edge run left white not cuts = absurd not
left_run Encoded run left white not cuts = cuts.0
left_run Plain run left white not cuts = sym cuts

last_not_edge : (w : Word) (ws : List Word) → NotEdge (last_side (w ∷ ws))
last_not_edge w [] = by w.is_encoded
  where
    by : (b : Bool) → NotEdge (cond b Encoded Plain)
    by true = tt
    by false = tt
last_not_edge w (v ∷ ws) = last_not_edge v ws

-- A segment, where what follows it is done.
segment_same : (was : Bool) (run lead left right : List ℕ) (white next : ℕ) (core copied : List Word) (ss : List Segment) (first more : List Piece) (made_words : List (List ℕ))
    → begins_high core ≡ true → list_all (λ (w : Word). not w.is_encoded) core ≡ true → Parts copied ss
    → AreWords ((core ++ copied) ++ flat_map segment_words ss) → AreUtf8 ((core ++ copied) ++ flat_map segment_words ss)
    → list_all is_white left ≡ true → cond was [] lead ++ left ≡ run
    → CutsRight (first_side copied) (last_run core) right next → AreWordsOf (left ++ (plain_text core ++ right)) made_words
    → first ≡ word_pieces white made_words ++ copied_pieces next copied
    → GiveAll (last_side copied) (last_run copied) ss more
    → (b : Follow (last_run copied) (flat_map segment_words ss) more) → units_from (was_of (last_side copied)) b.real b.orig ≡ units_from (was_of (last_side copied)) b.lead b.made
    → Same was run lead white ((core ++ copied) ++ flat_map segment_words ss) (first ++ more)
segment_same was run lead left right white next [] copied ss first more made_words begins plain parts are u wl run_is cuts are_b first_is give b same = cc begins
segment_same was run lead left right white next (c ∷ cs) [] [] first more made_words begins plain parts are u wl run_is cuts are_b first_is give b same =
    let are_core = AreWords-front (c ∷ cs) [] (AreWords-front ((c ∷ cs) ++ []) [] are) in
    let u_core = AreUtf8-front (c ∷ cs) [] (AreUtf8-front ((c ∷ cs) ++ []) [] u) in
    let none : right ≡ [] = cuts.0 in
    let done = core_step was run lead left right white c cs are_core [] [] made_words u_core plain wl (rw none refl) run_is are_b (follow_none (last_run (c ∷ cs))) (rw none refl) in
    let words_is : (c ∷ cs) ++ [] ≡ ((c ∷ cs) ++ []) ++ [] = sym (append-nil ((c ∷ cs) ++ [])) in
    let pieces_is : word_pieces white made_words ++ [] ≡ first ++ more = rw (first_is, give) (sym (append-nil (word_pieces white made_words ++ []))) in
    subst (λ ws. Same was run lead white ws (first ++ more)) words_is (subst (λ ps. Same was run lead white ((c ∷ cs) ++ []) ps) pieces_is done)
segment_same was run lead left right white next (c ∷ cs) [] (t ∷ ss) first more made_words begins plain parts are u wl run_is cuts are_b first_is give b same = cc parts
segment_same was run lead left right white next (c ∷ cs) (d ∷ ds) ss first more made_words begins plain parts are u wl run_is cuts are_b first_is give b same =
    let ws : List Word = flat_map segment_words ss in
    let are_both = AreWords-front ((c ∷ cs) ++ (d ∷ ds)) ws are in
    let are_core = AreWords-front (c ∷ cs) (d ∷ ds) are_both in
    let are_copied = AreWords-back (c ∷ cs) (d ∷ ds) are_both in
    let u_core = AreUtf8-front (c ∷ cs) (d ∷ ds) (AreUtf8-front ((c ∷ cs) ++ (d ∷ ds)) ws u) in
    let is_run : IsRun (last_run (c ∷ cs)) = record { some = last_some c cs d ds are_both; white = last_white (c ∷ cs) are_core } in
    let whites = right_white (side_of d) (last_run (c ∷ cs)) right next is_run.white cuts in
    let after_core = follow_copied (last_run (c ∷ cs)) next d ds are_copied ws more is_run whites.1 b in
    let units = follow_core_units (last_run (c ∷ cs)) right next d ds are_copied ws more cuts b same in
    let done = core_step was run lead left right white c cs are_core ((d ∷ ds) ++ ws) (copied_pieces next (d ∷ ds) ++ more) made_words u_core plain wl whites.0 run_is are_b after_core units in
    let words_is : (c ∷ cs) ++ ((d ∷ ds) ++ ws) ≡ ((c ∷ cs) ++ (d ∷ ds)) ++ ws = sym (append_assoc (c ∷ cs) (d ∷ ds) ws) in
    let pieces_is : word_pieces white made_words ++ (copied_pieces next (d ∷ ds) ++ more) ≡ first ++ more = rw first_is (sym (append_assoc (word_pieces white made_words) (copied_pieces next (d ∷ ds)) more)) in
    subst (λ ws. Same was run lead white ws (first ++ more)) words_is (subst (λ ps. Same was run lead white ((c ∷ cs) ++ ((d ∷ ds) ++ ws)) ps) pieces_is done)

-- what segments need in front of them
abbrev pub Ready : List Segment → Side → List ℕ → Type 0
Ready [] side run = Unit {0}
Ready (s ∷ ss) side run = IsRun run × NotEdge side

ready_after : (d : Word) (ds : List Word) (ss : List Segment) → AreSegments ss → AreWords ((d ∷ ds) ++ flat_map segment_words ss) → Ready ss (last_side (d ∷ ds)) (last_run (d ∷ ds))
ready_after d ds [] segs are = tt
ready_after d ds (t ∷ ss) segs are = (
  record { some = by t.core t.copied segs.0.begins are; white = last_white (d ∷ ds) (AreWords-front (d ∷ ds) (flat_map segment_words (t ∷ ss)) are) },
  last_not_edge d ds,
)
  where
    by : (core copied : List Word) → begins_high core ≡ true → AreWords ((d ∷ ds) ++ ((core ++ copied) ++ flat_map segment_words ss)) → 0 < length (last_run (d ∷ ds))
    by [] copied begins are = cc begins
    by (y ∷ ys) copied begins are = last_some d ds y ((ys ++ copied) ++ flat_map segment_words ss) are

ready_next : (core copied : List Word) (ss : List Segment) → Parts copied ss → AreSegments ss → AreWords ((core ++ copied) ++ flat_map segment_words ss) → Ready ss (last_side copied) (last_run copied)
ready_next core copied [] parts segs are = tt
ready_next core [] (t ∷ ss) parts segs are = cc parts
ready_next core (d ∷ ds) (t ∷ ss) parts segs are =
    ready_after d ds (t ∷ ss) segs (AreWords-back core ((d ∷ ds) ++ flat_map segment_words (t ∷ ss)) (subst AreWords (append_assoc core (d ∷ ds) (flat_map segment_words (t ∷ ss))) are))

shows : (white : ℕ) (pieces : List Piece) → BeginsWith white pieces → white ∷ shown pieces ≡ following pieces
shows white [] begins = absurd begins
shows white (p ∷ ps) begins = rw (sym begins) refl

tail_some : (run : List ℕ) (core rest : List Word) → begins_high core ≡ true → run ++ plain_text (core ++ rest) ≡ tail_text run (core ++ rest)
tail_some run [] rest begins = cc begins
tail_some run (c ∷ cs) rest begins = refl

-- what segments give has the units of their words, after what is copied
pub segments_follow : (ss : List Segment) (side : Side) (run : List ℕ) (pieces : List Piece) → AreSegments ss → AreWords (flat_map segment_words ss) → AreUtf8 (flat_map segment_words ss)
    → Ready ss side run → GiveAll side run ss pieces
    → (b : Follow run (flat_map segment_words ss) pieces) × (units_from (was_of side) b.real b.orig ≡ units_from (was_of side) b.lead b.made)
segments_follow [] side run pieces segs are u ready give = rw give (follow_none run, refl)
segments_follow (s ∷ ss) side run pieces segs are u ready give =
    let first : List Piece = give.0 in
    let more : List Piece = give.1 in
    let g : GivesPieces side run s first = give.3 in
    let ws : List Word = flat_map segment_words ss in
    let after = segments_follow ss (last_side s.copied) (last_run s.copied) more segs.2 (AreWords-back (segment_words s) ws are) (AreUtf8-back (segment_words s) ws u)
    (ready_next s.core s.copied ss segs.1 segs.2 are) give.4 in
    let whites = left_white side run g.left g.white ready.0.white g.cuts_left in
    let same = segment_same (was_of side) run (g.white ∷ []) g.left g.right g.white g.next s.core s.copied ss first more g.made_words segs.0.begins segs.0.plain segs.1 are u
    whites.0 (left_run side run g.left g.white ready.1 g.cuts_left) g.cuts_right g.are_made_words g.pieces_are give.4 after.0 after.1 in
    let is_lead : IsRun (g.white ∷ []) = record { some = omega arith; white = rw (whites.1) refl } in
    let words_is : (s.core ++ (s.copied ++ ws)) ≡ (s.core ++ s.copied) ++ ws = sym (append_assoc s.core s.copied ws) in
    let all : Follow run ((s.core ++ s.copied) ++ ws) (first ++ more) = record {
      real = run;
      lead = g.white ∷ [];
      orig = same.orig;
      made = same.made;
      are_orig = same.are_orig;
      are_made = same.are_made;
      bare_orig = same.bare_orig;
      bare_made = same.bare_made;
      joint = same.joint run ready.0;
      made_joint = same.made_joint (g.white ∷ []) is_lead;
      orig_octets = ap (λ t. run ++ t) same.orig_octets ∙ rw (← words_is) (tail_some run s.core (s.copied ++ ws) segs.0.begins);
      made_octets = ap (λ t. g.white ∷ t) same.made_octets ∙ shows g.white (first ++ more) same.begins;
    } in
    rw (give.2) (all, same.units)

-- The places of an original's words and those of its pieces, and that they have the same units.
pub record IsReadBack (words : List Word) (pieces : List Piece) : Type 0 where
  pub orig : List Place
  pub made : List Place
  pub are_orig : ArePlaces orig
  pub are_made : ArePlaces made
  pub bare_orig : IsBare orig
  pub bare_made : IsBare made
  pub orig_octets : flat_map place_octets orig ≡ plain_text words
  pub made_octets : flat_map place_octets made ≡ shown pieces
  pub units : units_from false [] orig ≡ units_from false [] made

read_back_by : (front : List Word) (ss : List Segment) (more : List Piece) → AreSegments ss → AreWords (front ++ flat_map segment_words ss) → AreUtf8 (front ++ flat_map segment_words ss)
    → GiveAll (last_side front) (last_run front) ss more → IsReadBack (front ++ flat_map segment_words ss) (copied_pieces 32 front ++ more)
read_back_by [] [] more segs are u give = record {
  orig = [];
  made = [];
  are_orig = tt;
  are_made = tt;
  bare_orig = tt;
  bare_made = tt;
  orig_octets = refl;
  made_octets = rw give refl;
  units = refl;
}
read_back_by [] (s ∷ ss) more segs are u give =
    let first : List Piece = give.0 in
    let rest : List Piece = give.1 in
    let g : GivesPieces Edge [] s first = give.3 in
    let ws : List Word = flat_map segment_words ss in
    let after = segments_follow ss (last_side s.copied) (last_run s.copied) rest segs.2 (AreWords-back (segment_words s) ws are) (AreUtf8-back (segment_words s) ws u)
    (ready_next s.core s.copied ss segs.1 segs.2 are) give.4 in
    let whites = left_white Edge [] g.left g.white refl g.cuts_left in
    let none : [] ++ g.left ≡ [] = g.cuts_left.0 in
    let same = segment_same false [] [] g.left g.right g.white g.next s.core s.copied ss first rest g.made_words segs.0.begins segs.0.plain segs.1 are u
    whites.0 none g.cuts_right g.are_made_words g.pieces_are give.4 after.0 after.1 in
    rw (give.2) (record {
      orig = same.orig;
      made = same.made;
      are_orig = same.are_orig;
      are_made = same.are_made;
      bare_orig = same.bare_orig;
      bare_made = same.bare_made;
      orig_octets = same.orig_octets;
      made_octets = same.made_octets;
      units = same.units;
    })
read_back_by (d ∷ ds) ss more segs are u give =
    let ws : List Word = flat_map segment_words ss in
    let are_front = AreWords-front (d ∷ ds) ws are in
    let after = segments_follow ss (last_side (d ∷ ds)) (last_run (d ∷ ds)) more segs (AreWords-back (d ∷ ds) ws are) (AreUtf8-back (d ∷ ds) ws u) (ready_after d ds ss segs are) give in
    let b : Follow (last_run (d ∷ ds)) ws more = after.0 in
    record {
      orig = places (d ∷ ds) are_front b.real b.orig;
      made = places (d ∷ ds) are_front b.lead b.made;
      are_orig = ArePlaces-places (d ∷ ds) are_front b.real b.orig b.joint b.are_orig;
      are_made = ArePlaces-places (d ∷ ds) are_front b.lead b.made b.made_joint b.are_made;
      bare_orig = bare-places d ds are_front b.real b.orig b.joint b.bare_orig;
      bare_made = bare-places d ds are_front b.lead b.made b.made_joint b.bare_made;
      orig_octets = octets-places d ds are_front b.real b.orig ∙ ap (λ t. plain_text (d ∷ ds) ++ t) b.orig_octets ∙ sym (plain_text-tail d ds ws);
      made_octets = octets-places d ds are_front b.lead b.made ∙ rw (b.made_octets, copied_text (d ∷ ds) are_front) refl;
      units = copied_same false [] d ds are_front b.real b.lead b.orig b.made after.1;
    }

-- The pieces of words have their units.
pub IsReadBack-pieces : (words : List Word) (pieces : List Piece) → AreWords words → AreUtf8 words → HavePieces words pieces → IsReadBack words pieces
IsReadBack-pieces words pieces are u have =
    let back = read_back_by have.front have.segments have.more have.are_segments (subst AreWords have.whole are) (subst AreUtf8 have.whole u) have.give in
    rw (have.whole, have.pieces_are) back
