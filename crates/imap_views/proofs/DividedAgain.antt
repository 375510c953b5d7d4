-- What each part of tokens says in another way, all of them say so.
use Rattle.std.proofs.Common.{List, [], ◌∷◌, ◌++◌, refl}
use Rattle.field_tokens.specs.Tokens.{TokenValue}
use Rattle.address_grammar.specs.AddressLists.{SayParts, AreDivided}

-- whatever says something in one way, says something in the other
abbrev pub SaysAgain : {E F : Type 0} → (List TokenValue → List E → Type 0) → (List TokenValue → List F → Type 0) → Type 0
SaysAgain {E = E} {F = F} Says Other = (ts : List TokenValue) (es : List E) → Says ts es → (fs : List F) × Other ts fs

parts_again : {E F : Type 0} (Says : List TokenValue → List E → Type 0) (Other : List TokenValue → List F → Type 0) → SaysAgain Says Other
    → (parts : List (List TokenValue)) (es : List E) → SayParts Says parts es → (fs : List F) × SayParts Other parts fs
parts_again Says Other again [] es say = ([], refl)
parts_again Says Other again (part ∷ parts) es say =
    let first = again part say.0 say.3 in
    let more = parts_again Says Other again parts say.1 say.4 in
    (first.0 ++ more.0, (first.0, more.0, refl, first.1, more.1))

pub divided_again : {E F : Type 0} (Says : List TokenValue → List E → Type 0) (Other : List TokenValue → List F → Type 0) → SaysAgain Says Other → SaysAgain (AreDivided Says) (AreDivided Other)
divided_again Says Other again ts es are =
    let said = parts_again Says Other again are.parts es are.say in
    (said.0, record { parts = are.parts; divided = are.divided; say = said.1 })
