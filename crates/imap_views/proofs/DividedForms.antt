-- Forms of parts divided by commas, put one after another.
use Rattle.std.proofs.Common.{◌≡◌, ℕ, List, ◌++◌, refl}
use Rattle.std.proofs.lemmas.List.{append_assoc}
use Rattle.field_tokens.specs.Tokens.{TokenValue}
use Rattle.address_grammar.specs.private.Walks.{SplitsPlace}
use Rattle.address_grammar.specs.AddressLists.{AreDivided}
use Rattle.address_grammar.proofs.DividedLemmas.{Walked, ReadsParts, parts_turn, parts_end}
use Rattle.imap_views.specs.Strings.{AddsText}

-- what was put last are the forms of the parts that were read
pub record PushesParts (Says : List TokenValue → List ℕ → Type 0) (ts : List TokenValue) (old made : List ℕ) (rest : List TokenValue) : Type 0 where
  pub done : List ℕ
  pub added : made ≡ old ++ done
  pub reads : ReadsParts Says ts done rest

pub pushes_turn : (Says : List TokenValue → List ℕ → Type 0) (walked : Walked Says) (ts rest place after : List TokenValue) (old made new : List ℕ)
    → PushesParts Says ts old made rest → SplitsPlace rest place after → AddsText (Says place) made new → PushesParts Says ts old new after
pushes_turn Says walked ts rest place after old made new p s adds = record {
  done = p.done ++ adds.0;
  added = rw (adds.2, p.added, append_assoc old p.done adds.0) refl;
  reads = parts_turn Says walked ts rest place after p.done adds.0 (p.done ++ adds.0) p.reads s adds.1 refl;
}

pub pushes_end : (Says : List TokenValue → List ℕ → Type 0) (ts rest : List TokenValue) (old made new : List ℕ) → PushesParts Says ts old made rest → AddsText (Says rest) made new → AddsText (AreDivided Says ts) old new
pushes_end Says ts rest old made new p adds = (
  p.done ++ adds.0,
  parts_end Says ts rest p.done adds.0 (p.done ++ adds.0) p.reads adds.1 refl,
  rw (adds.2, p.added, append_assoc old p.done adds.0) refl,
)
