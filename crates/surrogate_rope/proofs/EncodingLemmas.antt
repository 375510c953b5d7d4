-- What a text says of an encoding tells whether it keeps the octets.
use Rattle.std.proofs.Common.{◌≡◌, ℕ, true, ◌||◌, inl, inr, List, [], ◌∷◌, ◌++◌, map, codes, refl, sym, ap, ◌∙◌, arith}
use Rattle.std.proofs.lemmas.Bool.{or_cases}
use Rattle.std.proofs.lemmas.List.{append-nil}
use Rattle.std.specs.List.{AllByRecursion, flat_map, join_with_byte, list_all}
use Rattle.mail_wire.specs.Octets.{is_ascii, same_name}
use Rattle.field_tokens.specs.declared.Style.TheVariants.{Mime}
use Rattle.field_tokens.specs.Tokens.{TokenValue}
use Rattle.field_tokens.specs.Squeezed.{runs_of, octets_of, squeezed_values, comments_of, words_of}
use Rattle.field_tokens.specs.Comments.{CommentValue}
use Rattle.field_tokens.proofs.TokenLists.{AreTokens-once}
use Rattle.field_tokens.proofs.SqueezedValues.{IsRunOfTokens, runs_of-run, words_of-runs}
use Rattle.field_tokens.proofs.TokenLines.{comments_are_writable}
use Rattle.field_tokens.proofs.CommentValues.{CommentsSay-some}
use Rattle.field_downgrade.specs.PlainTexts.{SaysPlain}
use Rattle.field_downgrade.proofs.ReceivedAgain.{name_ascii}
use Rattle.mime_tree.specs.Openings.{is_identity_name, KeepsOctets}

-- no run has no words
no_runs : (runs : List (List TokenValue)) → AllByRecursion IsRunOfTokens runs → flat_map words_of runs ≡ [] → runs ≡ []
no_runs [] all e = refl
no_runs ([] ∷ runs) all e = absurd (omega (arith, all.0.some))
no_runs ((t ∷ ts) ∷ runs) all e =
    let some : t ∷ (ts ++ flat_map words_of runs) ≡ [] = sym (ap (λ r. r ++ flat_map words_of runs) all.0.words_are) ∙ e in cc some

one_first : (t : TokenValue) (ts : List TokenValue) (runs : List (List TokenValue)) (atom : TokenValue) → AllByRecursion IsRunOfTokens runs → t ∷ (ts ++ flat_map words_of runs) ≡ atom ∷ []
    → (t ∷ ts) ∷ runs ≡ (atom ∷ []) ∷ []
one_first t [] runs atom all e =
    let same : t ≡ atom = cc e in
    let following : flat_map words_of runs ≡ [] = cc e in
    rw (same, no_runs runs all following) refl
one_first t (u ∷ us) runs atom all e = let following : u ∷ (us ++ flat_map words_of runs) ≡ [] = cc e in cc following

-- runs with one word in all are one run of it
one_run : (runs : List (List TokenValue)) (atom : TokenValue) → AllByRecursion IsRunOfTokens runs → flat_map words_of runs ≡ atom ∷ [] → runs ≡ (atom ∷ []) ∷ []
one_run [] atom all e = cc e
one_run ([] ∷ runs) atom all e = absurd (omega (arith, all.0.some))
one_run ((t ∷ ts) ∷ runs) atom all e = one_first t ts runs atom all.1 (sym (ap (λ r. r ++ flat_map words_of runs) all.0.words_are) ∙ e)

-- tokens with one word say it
one_said : (tokens : List TokenValue) (atom : TokenValue) → words_of tokens ≡ atom ∷ [] → squeezed_values tokens ≡ atom.octets
one_said tokens atom e = ap (λ runs. join_with_byte 32 (map octets_of runs)) (one_run (runs_of tokens) atom (runs_of-run tokens) (words_of-runs tokens ∙ e)) ∙ append-nil atom.octets

-- a text that keeps the octets says the name of an encoding that does, ...
keeps_named : (text said : List ℕ) (comments : List CommentValue) → KeepsOctets text → SaysPlain true text said comments → is_identity_name said ≡ true
keeps_named text said comments keeps says =
    let same : says.tokens ≡ keeps.tokens = AreTokens-once Mime text says.tokens keeps.tokens says.is_plain.has.are_tokens keeps.has.are_tokens in
    ap (λ n. is_identity_name n) (says.said_is ∙ ap squeezed_values same ∙ one_said keeps.tokens keeps.atom keeps.words) ∙ keeps.named

-- ... and one that says so keeps them
named_keeps : (text said : List ℕ) (comments : List CommentValue) → SaysPlain true text said comments → is_identity_name said ≡ true → KeepsOctets text
named_keeps text said comments says named =
    let atom = says.is_plain.atom in
    record {
      tokens = says.tokens;
      has = says.is_plain.has;
      atom = atom.0;
      words = atom.1;
      kind = atom.2;
      named = ap (λ n. is_identity_name n) (sym (says.said_is ∙ one_said says.tokens atom.0 atom.1)) ∙ named;
    }

-- texts that say the same keep the octets alike
pub said_alike : (text other said : List ℕ) (comments : List CommentValue) → SaysPlain true text said comments → SaysPlain true other said comments → KeepsOctets text → KeepsOctets other
said_alike text other said comments says others keeps = named_keeps other said comments others (keeps_named text said comments keeps says)

identity_ascii : (name : List ℕ) → is_identity_name name ≡ true → list_all is_ascii name ≡ true
identity_ascii name is = elim (or_cases (same_name name (codes "7bit") || same_name name (codes "8bit")) (same_name name (codes "binary")) is) [
  | inr binary ↦ name_ascii name (codes "binary") refl binary
  | inl bits ↦ elim (or_cases (same_name name (codes "7bit")) (same_name name (codes "8bit")) bits) [
    | inl seven ↦ name_ascii name (codes "7bit") refl seven
    | inr eight ↦ name_ascii name (codes "8bit") refl eight
  ]
]

-- a text that keeps the octets says something
pub keeps_says : (text : List ℕ) → KeepsOctets text → (said : List ℕ) × (comments : List CommentValue) × SaysPlain true text said comments
keeps_says text keeps =
    let values = CommentsSay-some (comments_of keeps.tokens) (comments_are_writable Mime keeps.tokens text keeps.has.are_tokens keeps.has.is_line) in
    let ascii : list_all is_ascii (squeezed_values keeps.tokens) ≡ true = ap (list_all is_ascii) (one_said keeps.tokens keeps.atom keeps.words) ∙ identity_ascii keeps.atom.octets keeps.named in (
      squeezed_values keeps.tokens,
      values.0,
      record {
        tokens = keeps.tokens;
        is_plain = record { has = keeps.has; ascii = ascii; atom = (keeps.atom, keeps.words, keeps.kind) };
        said_is = refl;
        comments_say = values.1;
      },
    )
