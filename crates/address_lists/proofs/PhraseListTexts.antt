-- Whether a text is phrases is decided, and phrases have pieces.
use Rattle.std.proofs.Common.{ℕ, ◌⊎◌, inl, inr, List, [], ◌∷◌, ◌++◌, refl, sym, ◌∙◌, subst}
use Rattle.std.proofs.lemmas.Bool.{cases_Bool, true≢false, both_ways}
use Rattle.std.specs.List.{list_all}
use Rattle.encoded_words.specs.Words.{UnitValue}
use Rattle.encoded_words.proofs.AllUnits.{HasPhraseUnits-some}
use Rattle.field_tokens.specs.declared.Style.TheVariants.{Mail}
use Rattle.field_tokens.specs.Tokens.{TokenValue}
use Rattle.field_tokens.specs.Squeezed.{comments_of}
use Rattle.field_tokens.specs.Comments.{CommentValue}
use Rattle.field_tokens.proofs.CommentValues.{CommentsSay-some}
use Rattle.field_tokens.proofs.DecideTokens.{decide_tokens}
use Rattle.address_grammar.specs.private.Lexemes.{are_blank}
use Rattle.address_grammar.specs.Phrases.{may_stand_in_phrase, IsPhrase, phrase_items}
use Rattle.address_lists.specs.PhraseLists.{IsOnePhrase, SaysPhrases, GivesOnePhrase, with_commas, PhrasesPieces}
use Rattle.address_grammar.specs.AddressLists.{Divided, SayParts}
use Rattle.address_lists.proofs.DecideDivided.{Known, decide_divided}
use Rattle.address_lists.proofs.SoundPhrases.{text_items, text_comments}
use Rattle.address_lists.proofs.WrittenPhrases.{PlacePieces-some}
use Rattle.address_lists.proofs.PhraseListLemmas.{says_phrase_walked, no_phrase, CanWrite, can_front, can_rest, phrases_of}

-- ---- whether tokens are phrases

pub decide_phrase : (ts : List TokenValue) → IsPhrase ts ⊎ ¬ IsPhrase ts
decide_phrase ts = elim (cases_Bool (are_blank ts)) [
  | inl blank ↦ inr (λ is. both_ways (are_blank ts) is.some blank)
  | inr some ↦ elim (cases_Bool (list_all may_stand_in_phrase ts)) [
    | inl each ↦ inl (record { some = some; each = each })
    | inr other ↦ inr (λ is. true≢false (sym is.each ∙ other))
  ]
]

decide_one : (ts : List TokenValue) → Known IsOnePhrase ts
decide_one ts = elim (decide_phrase ts) [
  | inl is ↦ let units = HasPhraseUnits-some (phrase_items ts) in inl (units.0 ∷ [], (is, units.1))
  | inr none ↦ inr (no_phrase ts none)
]

-- A text is phrases, or it isn't.
pub decide_phrases : (text : List ℕ)
    → ((phrases : List (List UnitValue)) × (comments : List CommentValue) × SaysPhrases text phrases comments) ⊎ ((phrases : List (List UnitValue)) (comments : List CommentValue) → ¬ SaysPhrases text phrases comments)
decide_phrases text = elim (decide_tokens Mail text) [
  | inr none ↦ inr (λ phrases comments says. none says.tokens says.has)
  | inl found ↦ elim (decide_divided IsOnePhrase says_phrase_walked decide_one found.0) [
    | inr none ↦ inr (λ phrases comments says. none phrases (phrases_of text found.0 phrases comments found.1 says))
    | inl are ↦
        let comments = CommentsSay-some (comments_of found.0) (text_comments text found.0 found.1) in
        inl (are.0, comments.0, record { tokens = found.0; has = found.1; divided = are.1; comments_say = comments.1 })
  ]
]

-- ---- phrases and pieces

gives_phrase : (ts : List TokenValue) (places : List (List (List ℕ))) → GivesOnePhrase ts places → IsPhrase ts
gives_phrase ts [] is = absurd is
gives_phrase ts (p ∷ []) is = is.0
gives_phrase ts (p ∷ q ∷ more) is = absurd is

says_phrase : (ts : List TokenValue) (phrases : List (List UnitValue)) → IsOnePhrase ts phrases → IsPhrase ts
says_phrase ts [] is = absurd is
says_phrase ts (us ∷ []) is = is.0
says_phrase ts (us ∷ vs ∷ more) is = absurd is

parts_say : (parts : List (List TokenValue)) (places : List (List (List ℕ))) → SayParts GivesOnePhrase parts places → (phrases : List (List UnitValue)) × SayParts IsOnePhrase parts phrases
parts_say [] places say = ([], refl)
parts_say (part ∷ parts) places say =
    let units = HasPhraseUnits-some (phrase_items part) in
    let more = parts_say parts say.1 say.4 in
    (units.0 ∷ more.0, (units.0 ∷ [], more.0, refl, (gives_phrase part say.0 say.3, units.1), more.1))

-- what has pieces says something
pub PhrasesPieces-says : (text : List ℕ) (pieces : List (List ℕ)) → PhrasesPieces text pieces → (phrases : List (List UnitValue)) × (comments : List CommentValue) × SaysPhrases text phrases comments
PhrasesPieces-says text pieces is =
    let say = parts_say is.divided.parts is.places is.divided.say in
    let comments = CommentsSay-some (comments_of is.tokens) (text_comments text is.tokens is.has) in
    (say.0, comments.0, record { tokens = is.tokens; has = is.has; divided = record { parts = is.divided.parts; divided = is.divided.divided; say = say.1 }; comments_say = comments.1 })

abbrev PartsGive : List (List TokenValue) → Type 0
PartsGive parts = (places : List (List (List ℕ))) × SayParts GivesOnePhrase parts places

part_gives : (part : List TokenValue) (parts : List (List TokenValue)) → IsPhrase part → CanWrite part → PartsGive parts → PartsGive (part ∷ parts)
part_gives part parts is can more =
    let pieces = PlacePieces-some part is can.utf8 can.comments in
    (pieces.0 ∷ more.0, (pieces.0 ∷ [], more.0, refl, (is, pieces.1), more.1))

parts_give : (parts : List (List TokenValue)) (ts : List TokenValue) (phrases : List (List UnitValue)) → Divided 44 parts ts → SayParts IsOnePhrase parts phrases → CanWrite ts → PartsGive parts
parts_give [] ts phrases d say can = absurd d
parts_give (part ∷ []) ts phrases d say can = part_gives part [] (says_phrase part say.0 say.3) (subst CanWrite d can) ([], refl)
parts_give (part ∷ next ∷ parts) ts phrases d say can =
    let whole : CanWrite (part ++ d.0 ∷ d.1) = subst CanWrite d.2 can in
    let rest : CanWrite d.1 = can_rest (d.0 ∷ []) d.1 (can_rest part (d.0 ∷ d.1) whole) in
    part_gives part (next ∷ parts) (says_phrase part say.0 say.3) (can_front part (d.0 ∷ d.1) whole) (parts_give (next ∷ parts) d.1 say.1 d.4 say.4 rest)

-- what says something has pieces
pub PhrasesPieces-some : (text : List ℕ) (phrases : List (List UnitValue)) (comments : List CommentValue) → SaysPhrases text phrases comments → (pieces : List (List ℕ)) × PhrasesPieces text pieces
PhrasesPieces-some text phrases comments says =
    let can : CanWrite says.tokens = record { utf8 = text_items text says.tokens says.has; comments = text_comments text says.tokens says.has } in
    let give = parts_give says.divided.parts says.tokens phrases says.divided.divided says.divided.say can in
    (with_commas give.0, record { tokens = says.tokens; has = says.has; places = give.0; divided = record { parts = says.divided.parts; divided = says.divided.divided; say = give.1 }; pieces_are = refl })
