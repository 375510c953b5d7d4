-- One more word after others, and the lines of what is copied.
use Rattle.std.proofs.Common.{◌≡◌, ℕ, ◌<◌, List, [], ◌∷◌, ◌++◌, length, refl, sym, ap, ◌∙◌, arith}
use Rattle.std.proofs.lemmas.List.{append_assoc, append-nil}
use Rattle.std.specs.List.{flat_map}
use Rattle.mail_wire.specs.Folds.{unfolded}
use Rattle.mail_wire.specs.Lines.{crlf}
use Rattle.mail_wire.proofs.Folded.{unfolded-folded}
use Rattle.mail_wire.proofs.Unfolded.{unfolded-nil}
use Rattle.encoded_words.specs.Folding.{made_body}
use Rattle.field_downgrade.specs.Words.{Word, AreWords, word_octets, copied_octets, plain_text, last_run}
use Rattle.field_downgrade.specs.Layout.{last_side, side_of, copied_pieces}
use Rattle.field_downgrade.specs.private.Stretches.{last_gap, piece_where}
use Rattle.field_downgrade.proofs.Made.{copied_folded}
use Rattle.field_downgrade.proofs.Pieces.{copied_text}

pub last_gap-push : (ws : List Word) (w : Word) → last_gap (ws ++ w ∷ []) ≡ w.gap
last_gap-push [] w = refl
last_gap-push (v ∷ []) w = refl
last_gap-push (v ∷ u ∷ ws) w = last_gap-push (u ∷ ws) w

pub last_side-push : (ws : List Word) (w : Word) → last_side (ws ++ w ∷ []) ≡ side_of w
last_side-push [] w = refl
last_side-push (v ∷ []) w = refl
last_side-push (v ∷ u ∷ ws) w = last_side-push (u ∷ ws) w

pub copied-push : (ws : List Word) (w : Word) → copied_octets (ws ++ w ∷ []) ≡ copied_octets ws ++ (last_gap ws ++ w.octets)
copied-push [] w = refl
copied-push (v ∷ []) w = refl
copied-push (v ∷ u ∷ ws) w =
    let rest : List ℕ = last_gap (u ∷ ws) ++ w.octets in
    ap (λ t. v.octets ++ (v.gap ++ t)) (copied-push (u ∷ ws) w)
    ∙ ap (λ t. v.octets ++ t) (sym (append_assoc v.gap (copied_octets (u ∷ ws)) rest))
    ∙ sym (append_assoc v.octets (v.gap ++ copied_octets (u ∷ ws)) rest)

-- words are what is copied, and the gap after the last one
pub words_whole : (ws : List Word) → flat_map word_octets ws ≡ copied_octets ws ++ last_gap ws
words_whole [] = refl
words_whole (w ∷ []) = append-nil (w.octets ++ w.gap)
words_whole (w ∷ v ∷ ws) =
    ap (λ t. (w.octets ++ w.gap) ++ t) (words_whole (v ∷ ws)) ∙ append_assoc w.octets w.gap (copied_octets (v ∷ ws) ++ last_gap (v ∷ ws))
    ∙ ap (λ t. w.octets ++ t) (sym (append_assoc w.gap (copied_octets (v ∷ ws)) (last_gap (v ∷ ws))))
    ∙ sym (append_assoc w.octets (w.gap ++ copied_octets (v ∷ ws)) (last_gap (v ∷ ws)))

pub gap_run : (ws : List Word) → unfolded (last_gap ws) ≡ last_run ws
gap_run [] = unfolded-nil
gap_run (w ∷ []) = refl
gap_run (w ∷ v ∷ ws) = gap_run (v ∷ ws)

pub copied_plain : (ws : List Word) → AreWords ws → unfolded (copied_octets ws) ≡ plain_text ws
copied_plain ws are = unfolded-folded (copied_octets ws) (copied_folded ws are) ∙ copied_text ws are

-- what is copied is a piece, if it is anything
pub copied_piece : (white : ℕ) (ws : List Word) → AreWords ws → piece_where white (copied_octets ws) ≡ copied_pieces white ws
copied_piece white [] are = refl
copied_piece white (w ∷ []) are = some w.octets are.0.some
  where
    some : (octets : List ℕ) → 0 < length octets → piece_where white octets ≡ record { white = white; octets = octets } ∷ []
    some [] none = absurd (omega (arith, none))
    some (x ∷ octets) is = refl
copied_piece white (w ∷ v ∷ ws) are = some w.octets (w.gap ++ copied_octets (v ∷ ws)) are.0.some
  where
    some : (octets rest : List ℕ) → 0 < length octets → piece_where white (octets ++ rest) ≡ record { white = white; octets = octets ++ rest } ∷ []
    some [] rest none = absurd (omega (arith, none))
    some (x ∷ octets) rest is = refl

-- the line of a piece
pub no_line : (white : ℕ) (copied old : List ℕ) → length copied ≡ 0 → old ≡ old ++ made_body (piece_where white copied)
no_line white [] old none = sym (append-nil old)
no_line white (x ∷ copied) old none = absurd (omega (arith, none))

pub one_line : (white : ℕ) (copied old mid new : List ℕ) → 0 < length copied → mid ≡ old ++ (crlf ++ white ∷ []) → new ≡ mid ++ copied → new ≡ old ++ made_body (piece_where white copied)
one_line white [] old mid new some mid_is new_is = absurd (omega (arith, some))
one_line white (x ∷ copied) old mid new some mid_is new_is =
    new_is ∙ rw mid_is (append_assoc old (crlf ++ white ∷ []) (x ∷ copied)) ∙ ap (λ t. old ++ t) (sym (append-nil (crlf ++ white ∷ x ∷ copied)))
