-- The steps of writing a made field.
use Rattle.std.proofs.Common.{◌≡◌, ℕ, ◌<◌, Bool, true, false, not, List, [], ◌∷◌, ◌++◌, length, Result, Ok, Err, OnOk, refl, sym, ap, ◌∙◌, subst, arith}
use Rattle.std.proofs.lemmas.Bool.{and_parts, both_ways, not-true, or_right}
use Rattle.std.proofs.lemmas.List.{append_assoc, append-nil, length-append}
use Rattle.std.specs.List.{list_all, list_any, flat_map}
use Rattle.std.specs.Str.{IsUtf8}
use Rattle.std.proofs.lemmas.Str.{IsUtf8-append}
use Rattle.mail_wire.specs.Octets.{is_ascii}
use Rattle.encoded_words.specs.WrittenWords.{AreWordsOf}
use Rattle.field_downgrade.specs.declared.segments.Side.{Side}
use Rattle.field_downgrade.specs.declared.segments.Side.TheVariants.{Edge, Encoded, Plain}
use Rattle.field_downgrade.specs.Words.{Word, AreWords, AreUtf8, TellsEncoded, is_high_word, last_run, plain_text}
use Rattle.field_downgrade.specs.Layout.{Segment, segment_words, IsSegment, Parts, AreSegments, IsCopied, begins_high, side_of, first_side, last_side, CutsLeft, CutsRight, copied_pieces, GiveAll, HavePieces}
use Rattle.encoded_words.specs.Folding.{AddsWordLines, Piece, word_pieces, made_body}
use Rattle.encoded_words.proofs.EncodedOctets.{encoded_ascii}
use Rattle.encoded_words.proofs.Chunks.{made_body-append}
use Rattle.field_downgrade.specs.private.Steps.{NeedsRun, SplitsCopied, SplitsCore, BeginsCore, BeginsHigh, BeginsEncoded, CanWrite, WritesSegment, WritesWords}
use Rattle.field_downgrade.proofs.Pieces.{AreWords-front, AreWords-back, AreUtf8-front, AreUtf8-back, last_some, last_white, white_utf8, plain_utf8}
use Rattle.field_downgrade.proofs.ReadBack.{left_white, right_white}

high_plain : (b : Bool) (octets : List ℕ) → TellsEncoded b octets → not (list_all is_ascii octets) ≡ true → b ≡ false
high_plain false octets observed high = refl
high_plain true octets observed high =
    let low = encoded_ascii octets observed.0 observed.1 in
    absurd (both_ways (list_all is_ascii octets) (not-true (list_all is_ascii octets) high) low)

pub BeginsCore-from : (ws : List Word) → AreWords ws → BeginsHigh ws → BeginsCore ws
BeginsCore-from [] are begins = tt
BeginsCore-from (w ∷ ws) are begins = (begins, high_plain w.is_encoded w.octets are.0.encoded begins)

-- What a segment needs.
pub needs_left : (before core copied : List Word) → CanWrite before core copied → NeedsRun (last_side before) (last_run before)
needs_left [] core copied can = tt
needs_left (b ∷ bs) [] copied can = let begins = can.begins in cc begins
needs_left (b ∷ bs) (k ∷ ks) copied can = any (last_side (b ∷ bs)) (last_some b bs k (ks ++ copied) can.are_words)
  where
    any : (side : Side) → 0 < length (last_run (b ∷ bs)) → NeedsRun side (last_run (b ∷ bs))
    any Edge some = tt
    any Encoded some = tt
    any Plain some = some

pub needs_right : (before core copied : List Word) → CanWrite before core copied → NeedsRun (first_side copied) (last_run core)
needs_right before core [] can = tt
needs_right before [] (d ∷ ds) can = let begins = can.begins in cc begins
needs_right before (k ∷ ks) (d ∷ ds) can = any (side_of d) (last_some k ks d ds (AreWords-back before ((k ∷ ks) ++ (d ∷ ds)) can.are_words))
  where
    any : (side : Side) → 0 < length (last_run (k ∷ ks)) → NeedsRun side (last_run (k ∷ ks))
    any Edge some = tt
    any Encoded some = tt
    any Plain some = some

pub text_utf8 : (before core copied : List Word) (left right : List ℕ) (white next : ℕ) → CanWrite before core copied → CutsLeft (last_side before) (last_run before) left white
    → CutsRight (first_side copied) (last_run core) right next → IsUtf8 ((left ++ plain_text core) ++ right)
text_utf8 before core copied left right white next can cuts_left cuts_right =
    let are_core = AreWords-front core copied (AreWords-back before (core ++ copied) can.are_words) in
    let wl = left_white (last_side before) (last_run before) left white (last_white before (AreWords-front before (core ++ copied) can.are_words)) cuts_left in
    let wr = right_white (first_side copied) (last_run core) right next (last_white core are_core) cuts_right in
    IsUtf8-append (left ++ plain_text core) right (IsUtf8-append left (plain_text core) (white_utf8 left wl.0) (plain_utf8 core are_core can.are_utf8)) (white_utf8 right wr.0)

-- what was added is a segment's
pub WritesSegment-from : (before core copied : List Word) (left right text old mid new : List ℕ) (white next : ℕ)
    → CutsLeft (last_side before) (last_run before) left white → CutsRight (first_side copied) (last_run core) right next
    → text ≡ (left ++ plain_text core) ++ right → AddsWordLines text white old mid → new ≡ mid ++ made_body (copied_pieces next copied) → WritesSegment before core copied old new
WritesSegment-from before core copied left right text old mid new white next cuts_left cuts_right text_is adds new_is =
    let whole : text ≡ left ++ (plain_text core ++ right) = text_is ∙ append_assoc left (plain_text core) right in
    let made_words : List (List ℕ) = adds.words in
    record {
      pieces = word_pieces white made_words ++ copied_pieces next copied;
      gives = record {
        left = left;
        right = right;
        white = white;
        next = next;
        made_words = made_words;
        cuts_left = cuts_left;
        cuts_right = cuts_right;
        are_made_words = subst (λ t. AreWordsOf t made_words) whole adds.are_words;
        pieces_are = refl;
      };
      added = new_is ∙ rw (adds.added, made_body-append (word_pieces white made_words) (copied_pieces next copied))
          (append_assoc old (made_body (word_pieces white made_words)) (made_body (copied_pieces next copied)));
    }

-- The lines so far: whatever segments the rest has, they complete those of the words.
pub record WritesOn (words : List Word) (start made : List ℕ) (copied rest : List Word) : Type 0 where
  pub are : AreWords (copied ++ rest)
  pub utf8 : AreUtf8 rest
  pub begins : BeginsHigh rest
  pub complete : (ss : List Segment) (more : List Piece) → rest ≡ flat_map segment_words ss → AreSegments ss → GiveAll (last_side copied) (last_run copied) ss more
      → (pieces : List Piece) × HavePieces words pieces × (made ++ made_body more ≡ start ++ made_body pieces)

pub WritesOn-start : (words copied rest : List Word) (start made : List ℕ) → AreWords words → AreUtf8 words → SplitsCopied words copied rest
    → made ≡ start ++ made_body (copied_pieces 32 copied) → WritesOn words start made copied rest
WritesOn-start words copied rest start made are u splits made_is = record {
  are = subst AreWords splits.whole are;
  utf8 = AreUtf8-back copied rest (subst AreUtf8 splits.whole u);
  begins = splits.begins;
  complete = λ ss more e segs give. (
    copied_pieces 32 copied ++ more,
    record { front = copied; segments = ss; more = more; whole = splits.whole ∙ ap (λ ws. copied ++ ws) e; copied = splits.is_copied; are_segments = segs; give = give; pieces_are = refl },
    rw (made_is, made_body-append (copied_pieces 32 copied) more) (append_assoc start (made_body (copied_pieces 32 copied)) (made_body more)),
  );
}

-- where another core follows, what is copied before it has an encoded word
parts_from : (low after copied next : List Word) → low ++ after ≡ copied ++ next → IsCopied low → BeginsEncoded after → BeginsCore next → 0 < length next
    → list_any (λ (w : Word). w.is_encoded) copied ≡ true
parts_from low after copied [] e is stops begins some = absurd (omega arith)
parts_from [] after [] (y ∷ next) e is stops begins some =
    let first : BeginsEncoded (y ∷ next) = subst BeginsEncoded e stops in absurd (both_ways y.is_encoded begins.1 first)
parts_from (l ∷ low) after [] (y ∷ next) e is stops begins some =
    let same : l ≡ y = cc e in
    let l_low = (and_parts (not (is_high_word l)) (list_all (λ (w : Word). not (is_high_word w)) low) is).0 in
    absurd (both_ways (is_high_word y) (ap is_high_word (sym same) ∙ not-true (is_high_word l) l_low) begins.0)
parts_from [] after (k ∷ copied) (y ∷ next) e is stops begins some =
    let first : BeginsEncoded (k ∷ (copied ++ (y ∷ next))) = subst BeginsEncoded e stops in rw first refl
parts_from (l ∷ low) after (k ∷ copied) (y ∷ next) e is stops begins some =
    let rest : low ++ after ≡ copied ++ (y ∷ next) = cc e in
    let more = parts_from low after copied (y ∷ next) rest (and_parts (not (is_high_word l)) (list_all (λ (w : Word). not (is_high_word w)) low) is).1 stops begins some in
    or_right k.is_encoded (list_any (λ (w : Word). w.is_encoded) copied) more

Parts-from : (low after copied next : List Word) (ss : List Segment) → low ++ after ≡ copied ++ next → IsCopied low → BeginsEncoded after → BeginsCore next → next ≡ flat_map segment_words ss → AreSegments ss → Parts copied ss
Parts-from low after copied next [] e is stops begins next_is segs = tt
Parts-from low after copied next (t ∷ ss) e is stops begins next_is segs = parts_from low after copied next e is stops begins (rw next_is (some t.core t.copied segs.0.begins))
  where
    some : (core more : List Word) → begins_high core ≡ true → 0 < length ((core ++ more) ++ flat_map segment_words ss)
    some [] more h = cc h
    some (k ∷ ks) more h = omega arith

rest_words : (core following copied next rest : List Word) → rest ≡ core ++ following → following ≡ copied ++ next → rest ≡ (core ++ copied) ++ next
rest_words core following copied next rest e f = e ∙ rw f (sym (append_assoc core copied next))

pub WritesOn-step : (words copied rest core following next_copied next : List Word) (start made new : List ℕ) → WritesOn words start made copied rest → SplitsCore rest core following
    → SplitsCopied following next_copied next → WritesSegment copied core next_copied made new → WritesOn words start new next_copied next
WritesOn-step words copied rest core following next_copied next start made new on split_core split_copied writes =
    let whole = rest_words core following next_copied next rest split_core.whole split_copied.whole in
    let are_rest : AreWords ((core ++ next_copied) ++ next) = subst AreWords whole (AreWords-back copied rest on.are) in
    let u_rest : AreUtf8 ((core ++ next_copied) ++ next) = subst AreUtf8 whole on.utf8 in
    let are_next : AreWords (next_copied ++ next) = AreWords-back core (next_copied ++ next) (subst AreWords (append_assoc core next_copied next) are_rest) in
    let begins_next = BeginsCore-from next (AreWords-back next_copied next are_next) split_copied.begins in
    record {
      are = are_next;
      utf8 = AreUtf8-back (core ++ next_copied) next u_rest;
      begins = split_copied.begins;
      complete = λ ss more e segs give.
          let s : Segment = record { core = core; copied = next_copied } in
          let is : IsSegment s = record { begins = split_core.begins; ends = split_core.ends; plain = split_core.plain; copied = split_copied.is_copied } in
          let parts = Parts-from split_core.low split_core.after next_copied next ss (sym split_core.rest_is ∙ split_copied.whole) split_core.is_low split_core.stops begins_next e segs in
          let all = on.complete (s ∷ ss) (writes.pieces ++ more) (whole ∙ ap (λ ws. (core ++ next_copied) ++ ws) e) (is, parts, segs) (writes.pieces, more, refl, writes.gives, give) in (
            all.0,
            all.1,
            rw (writes.added) (append_assoc made (made_body writes.pieces) (made_body more) ∙ ap (λ t. made ++ t) (sym (made_body-append writes.pieces more))) ∙ all.2,
          );
    }

pub CanWrite-from : (words copied rest core following next_copied next : List Word) (start made : List ℕ) → WritesOn words start made copied rest → SplitsCore rest core following
    → SplitsCopied following next_copied next → CanWrite copied core next_copied
CanWrite-from words copied rest core following next_copied next start made on split_core split_copied =
    let whole = rest_words core following next_copied next rest split_core.whole split_copied.whole in
    let are : AreWords ((copied ++ (core ++ next_copied)) ++ next) = rw (append_assoc copied (core ++ next_copied) next) (subst (λ ws. AreWords (copied ++ ws)) whole on.are) in
    record {
      are_words = AreWords-front (copied ++ (core ++ next_copied)) next are;
      are_utf8 = AreUtf8-front core following (subst AreUtf8 split_core.whole on.utf8);
      begins = split_core.begins;
    }

pub WritesOn-begins : (words copied rest : List Word) (start made : List ℕ) → WritesOn words start made copied rest → BeginsCore rest
WritesOn-begins words copied rest start made on = BeginsCore-from rest (AreWords-back copied rest on.are) on.begins

pub WritesOn-end : (words copied rest : List Word) (start made : List ℕ) → WritesOn words start made copied rest → rest ≡ [] → WritesWords words start made
WritesOn-end words copied rest start made on none =
    let all = on.complete [] [] none tt refl in
    record { pieces = all.0; have = all.1; added = sym (append-nil made) ∙ all.2 }

-- a core is not empty
pub shorter : (rest core following copied next : List Word) → SplitsCore rest core following → SplitsCopied following copied next → length next < length rest
shorter rest [] following copied next split_core split_copied = let begins = split_core.begins in cc begins
shorter rest (k ∷ core) following copied next split_core split_copied =
    omega (arith, ap length split_core.whole, ap length split_copied.whole, length-append core following, length-append copied next)

pub CutsLeft-at : (s t : Side) (r q part : List ℕ) (white : ℕ) → s ≡ t → r ≡ q → CutsLeft s r part white → CutsLeft t q part white
CutsLeft-at s t r q part white e f cuts = rw (← e, ← f) cuts

pub CutsRight-at : (s t : Side) (r q part : List ℕ) (white : ℕ) → s ≡ t → r ≡ q → CutsRight s r part white → CutsRight t q part white
CutsRight-at s t r q part white e f cuts = rw (← e, ← f) cuts

pub OnOk-then : {T E : Type 0} (r : Result T E) (P Q : Type 0) → (P → Q) → OnOk r P → OnOk r Q
OnOk-then (Ok v) P Q then h = then h
OnOk-then (Err e) P Q then h = h
