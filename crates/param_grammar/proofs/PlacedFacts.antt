-- What is told of pieces by their numbers.
use Rattle.std.proofs.Common.{◌≡◌, ℕ, zero, suc, ◌<◌, List, [], ◌∷◌, length, take, drop, get_or, sym, ap, ◌∙◌, subst, arith}
use Rattle.std.specs.List.{list_all}
use Rattle.std.specs.Str.{str_to_ascii_lowercase}
use Rattle.std.proofs.lemmas.List.{take-map, drop-map}
use Rattle.mail_wire.specs.Octets.{is_ascii}
use Rattle.mail_wire.specs.declared.values.Span.{Span}
use Rattle.field_tokens.specs.Tokens.{octets_at}
use Rattle.param_grammar.specs.declared.Piece.{Piece}
use Rattle.param_grammar.specs.declared.places.Place.{Place}
use Rattle.param_grammar.specs.Places.{base_span, IsPlaced, ArePlaced, piece_in}
use Rattle.param_grammar.specs.private.ByName.{is_numbered}
use Rattle.param_grammar.specs.private.Ordered.{name_in, numbered_in, ascii_in}
use Rattle.param_grammar.proofs.PlaceLemmas.{ArePlaced-at}

lower_at : (text : List ℕ) (span : Span) → octets_at (str_to_ascii_lowercase text) span ≡ str_to_ascii_lowercase (octets_at text span)
lower_at text span = ap (take span.len) (drop-map _ span.at text) ∙ take-map _ span.len (drop span.at text)

pub name_is : (text : List ℕ) (places : List Place) (pieces : List Piece) (i : ℕ) → ArePlaced text places pieces → i < length places
    → name_in (str_to_ascii_lowercase text) places i ≡ (piece_in pieces i).base
name_is text [] pieces i are l = absurd (omega (arith, l))
name_is text (place ∷ places) pieces zero are l = lower_at text (base_span place) ∙ sym (are.2).base_is ∙ ap (λ ps. (piece_in ps 0).base) (sym are.4)
name_is text (place ∷ places) pieces (suc i) are l = name_is text places are.1 i are.3 (omega (arith, l)) ∙ ap (λ ps. (piece_in ps (suc i)).base) (sym are.4)

pub numbered_is : (text : List ℕ) (places : List Place) (pieces : List Piece) (i : ℕ) → ArePlaced text places pieces → i < length places → numbered_in places i ≡ is_numbered (piece_in pieces i)
numbered_is text [] pieces i are l = absurd (omega (arith, l))
numbered_is text (place ∷ places) pieces zero are l = sym (are.2).numbered_is ∙ ap (λ ps. is_numbered (piece_in ps 0)) (sym are.4)
numbered_is text (place ∷ places) pieces (suc i) are l = numbered_is text places are.1 i are.3 (omega (arith, l)) ∙ ap (λ ps. is_numbered (piece_in ps (suc i))) (sym are.4)

pub ascii_is : (text : List ℕ) (places : List Place) (pieces : List Piece) (i : ℕ) → ArePlaced text places pieces → i < length places
    → ascii_in places i ≡ list_all is_ascii (piece_in pieces i).written
ascii_is text [] pieces i are l = absurd (omega (arith, l))
ascii_is text (place ∷ places) pieces zero are l = sym (are.2).ascii_is ∙ ap (λ ps. list_all is_ascii (piece_in ps 0).written) (sym are.4)
ascii_is text (place ∷ places) pieces (suc i) are l = ascii_is text places are.1 i are.3 (omega (arith, l)) ∙ ap (λ ps. list_all is_ascii (piece_in ps (suc i)).written) (sym are.4)

pub placed_read : (text : List ℕ) (places : List Place) (pieces : List Piece) (i : ℕ) (place : Place) → ArePlaced text places pieces → i < length places → place ≡ get_or places i place
    → IsPlaced text place (piece_in pieces i)
placed_read text places pieces i place are l e = subst (λ p. IsPlaced text p (piece_in pieces i)) (sym e) (ArePlaced-at text places pieces i place are l)
