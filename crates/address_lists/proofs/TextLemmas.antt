-- Texts that stay as they are.
use Rattle.std.proofs.Common.{◌≡◌, true, false, ◌&&◌, List, [], ◌∷◌, ◌++◌, refl, sym, ap, ◌∙◌}
use Rattle.std.proofs.lemmas.Bool.{both_ways}
use Rattle.std.proofs.lemmas.List.Folds.{list_all-append}
use Rattle.std.specs.List.{list_all}
use Rattle.mail_wire.specs.Octets.{is_ascii}
use Rattle.field_tokens.specs.Tokens.{TokenValue}
use Rattle.field_tokens.specs.Squeezed.{is_gap, octets_of}
use Rattle.address_grammar.specs.private.Lexemes.{are_blank}
use Rattle.address_grammar.specs.private.PhraseSteps.{SkipsGaps}
use Rattle.address_lists.specs.ListPieces.{HasText}
use Rattle.address_lists.specs.private.ListWriting.{EndsNoGap, SplitsGaps}
use Rattle.address_lists.proofs.PhraseWriting.{gaps_blank, blank-append, EndsNo, CutsTrail}

-- tokens are ASCII where the first one is and the others are
first_ascii : (rest following : List TokenValue) (t : TokenValue) → rest ≡ t ∷ following → list_all is_ascii (octets_of rest) ≡ (list_all is_ascii t.octets && list_all is_ascii (octets_of following))
first_ascii rest following t e = ap (λ r. list_all is_ascii (octets_of r)) e ∙ list_all-append is_ascii t.octets (octets_of following)

pub ascii_turn : (all rest following : List TokenValue) (t : TokenValue) → list_all is_ascii (octets_of all) ≡ list_all is_ascii (octets_of rest) → rest ≡ t ∷ following → list_all is_ascii t.octets ≡ true
    → list_all is_ascii (octets_of all) ≡ list_all is_ascii (octets_of following)
ascii_turn all rest following t so e is = so ∙ first_ascii rest following t e ∙ ap (λ r. r && list_all is_ascii (octets_of following)) is

pub ascii_stop : (all rest following : List TokenValue) (t : TokenValue) → list_all is_ascii (octets_of all) ≡ list_all is_ascii (octets_of rest) → rest ≡ t ∷ following → list_all is_ascii t.octets ≡ false
    → false ≡ list_all is_ascii (octets_of all)
ascii_stop all rest following t so e other = sym (so ∙ first_ascii rest following t e ∙ ap (λ r. r && list_all is_ascii (octets_of following)) other)

pub ascii_end : (all rest : List TokenValue) → list_all is_ascii (octets_of all) ≡ list_all is_ascii (octets_of rest) → rest ≡ [] → true ≡ list_all is_ascii (octets_of all)
ascii_end all rest so e = sym (so ∙ ap (λ r. list_all is_ascii (octets_of r)) e)

-- ---- gaps after

ends_gap : (ts : List TokenValue) → EndsNo (λ t. is_gap t.kind) ts → EndsNoGap ts
ends_gap [] e = e
ends_gap (t ∷ []) e = e
ends_gap (t ∷ u ∷ ts) e = ends_gap (u ∷ ts) e

pub gap_trail : (all front trail : List TokenValue) → CutsTrail (λ t. is_gap t.kind) all front trail → SplitsGaps all front
gap_trail all front trail c = record { trail = trail; whole = c.whole; ends = ends_gap front c.ends; gaps = c.pass }

-- ---- the text between gaps

ends_with : (t : TokenValue) (ts : List TokenValue) → EndsNoGap (t ∷ ts) → (others : List TokenValue) × (last : TokenValue) × (t ∷ ts ≡ others ++ last ∷ []) × (is_gap last.kind ≡ false)
ends_with t [] ends = ([], t, refl, ends)
ends_with t (u ∷ ts) ends = let more = ends_with u ts ends in (t ∷ more.0, more.1, ap (λ r. t ∷ r) more.2, more.3)

pub text_from : (tokens rest text : List TokenValue) → are_blank tokens ≡ false → SkipsGaps tokens rest → SplitsGaps rest text → HasText tokens text
text_from tokens rest [] some skips splits =
    let blank : are_blank (skips.lead ++ splits.trail) ≡ true = blank-append skips.lead splits.trail (gaps_blank skips.lead skips.gaps) (gaps_blank splits.trail splits.gaps) in
    absurd (both_ways (are_blank tokens) some (rw (skips.whole, splits.whole) blank))
text_from tokens rest (t ∷ text) some skips splits = record {
  lead = skips.lead;
  trail = splits.trail;
  lead_gaps = skips.gaps;
  trail_gaps = splits.gaps;
  begins = (t, text, refl, rw (splits.whole) at skips.begins);
  ends = ends_with t text splits.ends;
  whole = rw (skips.whole, splits.whole) refl;
}
