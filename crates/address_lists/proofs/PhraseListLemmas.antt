-- Phrases divided by commas are read in one way, and written place by place.
use Rattle.std.proofs.Common.{◌≡◌, ℕ, List, [], ◌∷◌, ◌++◌, Some, None, refl, sym, ap, ◌∙◌, subst, arith}
use Rattle.std.proofs.lemmas.List.{append_assoc, append-nil, flat_map_more}
use Rattle.std.specs.List.{AllByRecursion, flat_map}
use Rattle.mail_wire.proofs.AllLemmas.{all-front, all-back}
use Rattle.encoded_words.specs.Folding.{lines_of, AddsLines}
use Rattle.encoded_words.specs.Words.{UnitValue}
use Rattle.encoded_words.specs.PhraseUnits.{IsUtf8Item}
use Rattle.encoded_words.proofs.AllUnits.{HasPhraseUnits-some}
use Rattle.encoded_words.proofs.LineLemmas.{adds_both}
use Rattle.encoded_words.proofs.PhraseLemmas.{HasPhraseUnits-once}
use Rattle.field_tokens.specs.Tokens.{TokenValue}
use Rattle.field_tokens.specs.Squeezed.{comments_of}
use Rattle.field_tokens.specs.Comments.{CommentValue, AreWritableComments}
use Rattle.field_tokens.proofs.CommentValues.{CommentsSay-once}
use Rattle.field_tokens.proofs.Parts.{comments_of-append}
use Rattle.address_grammar.specs.private.Lexemes.{HasMailTokens}
use Rattle.address_grammar.specs.Phrases.{IsPhrase, phrase_items}
use Rattle.address_lists.specs.PhraseLists.{IsOnePhrase, SaysPhrases, GivesOnePhrase, with_commas, PhrasesPieces}
use Rattle.address_lists.specs.private.PhraseListSteps.{GivesPhrase, GivesPhrases}
use Rattle.address_grammar.specs.AddressLists.{AreDivided}
use Rattle.address_grammar.specs.private.Walks.{walk, SplitsPlace, IsLastPlace}
use Rattle.address_grammar.proofs.PathLemmas.{HasTokenValues-once}
use Rattle.address_grammar.proofs.MailboxLemmas.{phrase_lacks}
use Rattle.address_grammar.proofs.DividedLemmas.{Walked, SaysOnce, ReadsParts, parts_start, parts_turn, parts_end, parts_stuck, parts_stuck_last, divided_once}
use Rattle.address_grammar.proofs.ListLemmas.{walk_plain}
use Rattle.address_lists.proofs.AddedPieces.{adds_piece}
use Rattle.address_lists.proofs.WrittenPhrases.{PlacePieces-once}
use Rattle.address_lists.proofs.PhraseWriting.{phrase_items-append, writable_front, writable_rest}

-- ---- one phrase

pub phrase_walked : (ts : List TokenValue) → IsPhrase ts → walk None ts ≡ Some None
phrase_walked ts is = walk_plain ts (phrase_lacks 44 ts (λ e. omega (arith, e)) is) (phrase_lacks 60 ts (λ e. omega (arith, e)) is) (phrase_lacks 58 ts (λ e. omega (arith, e)) is)

pub says_phrase_walked : Walked IsOnePhrase
says_phrase_walked ts [] is = absurd is
says_phrase_walked ts (us ∷ []) is = phrase_walked ts is.0
says_phrase_walked ts (us ∷ vs ∷ more) is = absurd is

pub gives_phrase_walked : Walked GivesOnePhrase
gives_phrase_walked ts [] is = absurd is
gives_phrase_walked ts (ps ∷ []) is = phrase_walked ts is.0
gives_phrase_walked ts (ps ∷ qs ∷ more) is = absurd is

pub says_phrase_once : SaysOnce IsOnePhrase
says_phrase_once ts [] fs p q = absurd p
says_phrase_once ts (us ∷ vs ∷ more) fs p q = absurd p
says_phrase_once ts (us ∷ []) [] p q = absurd q
says_phrase_once ts (us ∷ []) (vs ∷ []) p q = ap (λ r. r ∷ []) (HasPhraseUnits-once (phrase_items ts) us vs p.1 q.1)
says_phrase_once ts (us ∷ []) (vs ∷ ws ∷ more) p q = absurd q

pub no_phrase : (ts : List TokenValue) → (IsPhrase ts → ⊥) → (phrases : List (List UnitValue)) → IsOnePhrase ts phrases → ⊥
no_phrase ts none [] is = is
no_phrase ts none (us ∷ []) is = none is.0
no_phrase ts none (us ∷ vs ∷ more) is = is

-- ---- the writer

-- the pieces of phrases, with a comma after each phrase
abbrev pub commas_after : List (List (List ℕ)) → List (List ℕ)
commas_after places = flat_map (λ pieces. pieces ++ (44 ∷ []) ∷ []) places

pub with_commas-last : (places : List (List (List ℕ))) (last : List (List ℕ)) → with_commas (places ++ last ∷ []) ≡ commas_after places ++ last
with_commas-last [] last = refl
with_commas-last (p ∷ []) last = sym (append_assoc p ((44 ∷ []) ∷ []) last) ∙ ap (λ r. r ++ last) (sym (append-nil (p ++ (44 ∷ []) ∷ [])))
with_commas-last (p ∷ q ∷ places) last =
    ap (λ r. p ++ (44 ∷ []) ∷ r) (with_commas-last (q ∷ places) last) ∙ sym (append_assoc p ((44 ∷ []) ∷ []) (commas_after (q ∷ places) ++ last))
    ∙ sym (append_assoc (p ++ (44 ∷ []) ∷ []) (commas_after (q ∷ places)) last)

-- what can be written
pub record CanWrite (ts : List TokenValue) : Type 0 where
  pub utf8 : AllByRecursion IsUtf8Item (phrase_items ts)
  pub comments : AreWritableComments (comments_of ts)

pub can_front : (a b : List TokenValue) → CanWrite (a ++ b) → CanWrite a
can_front a b can = record {
  utf8 = all-front IsUtf8Item (phrase_items a) (phrase_items b) (subst (AllByRecursion IsUtf8Item) (phrase_items-append a b) can.utf8);
  comments = writable_front (comments_of a) (comments_of b) (subst AreWritableComments (comments_of-append a b) can.comments);
}

pub can_rest : (a b : List TokenValue) → CanWrite (a ++ b) → CanWrite b
can_rest a b can = record {
  utf8 = all-back IsUtf8Item (phrase_items a) (phrase_items b) (subst (AllByRecursion IsUtf8Item) (phrase_items-append a b) can.utf8);
  comments = writable_rest (comments_of a) (comments_of b) (subst AreWritableComments (comments_of-append a b) can.comments);
}

-- the phrases of some places were read and written, and rest is left
pub record WritesPhrases (ts : List TokenValue) (pieces : List (List ℕ)) (rest : List TokenValue) : Type 0 where
  pub places : List (List (List ℕ))
  pub phrases : List (List UnitValue)
  pub gives : ReadsParts GivesOnePhrase ts places rest
  pub says : ReadsParts IsOnePhrase ts phrases rest
  pub pieces_are : pieces ≡ commas_after places
  pub can : CanWrite rest

pub phrases_start : (ts : List TokenValue) → CanWrite ts → WritesPhrases ts [] ts
phrases_start ts can = record {
  places = [];
  phrases = [];
  gives = parts_start GivesOnePhrase ts [] refl;
  says = parts_start IsOnePhrase ts [] refl;
  pieces_are = refl;
  can = can;
}

pub place_can : (ts rest place after : List TokenValue) (pieces : List (List ℕ)) → WritesPhrases ts pieces rest → SplitsPlace rest place after → CanWrite place
place_can ts rest place after pieces w s = can_front place (s.comma ∷ after) (subst CanWrite s.whole w.can)

after_can : (ts rest place after : List TokenValue) (pieces : List (List ℕ)) → WritesPhrases ts pieces rest → SplitsPlace rest place after → CanWrite after
after_can ts rest place after pieces w s = can_rest (s.comma ∷ []) after (can_rest place (s.comma ∷ after) (subst CanWrite s.whole w.can))

pub phrases_turn : (ts rest place after : List TokenValue) (xs ys : List (List ℕ)) → SplitsPlace rest place after → WritesPhrases ts xs rest → GivesPhrase place ys → WritesPhrases ts (xs ++ (ys ++ (44 ∷ []) ∷ [])) after
phrases_turn ts rest place after xs ys s w g =
    let units = HasPhraseUnits-some (phrase_items place) in
    record {
      places = w.places ++ ys ∷ [];
      phrases = w.phrases ++ units.0 ∷ [];
      gives = parts_turn GivesOnePhrase gives_phrase_walked ts rest place after w.places (ys ∷ []) (w.places ++ ys ∷ []) w.gives s (g.is_phrase, g.gives) refl;
      says = parts_turn IsOnePhrase says_phrase_walked ts rest place after w.phrases (units.0 ∷ []) (w.phrases ++ units.0 ∷ []) w.says s (g.is_phrase, units.1) refl;
      pieces_are = ap (λ r. r ++ (ys ++ (44 ∷ []) ∷ [])) w.pieces_are ∙ flat_map_more (λ pieces. pieces ++ (44 ∷ []) ∷ []) [] w.places ys;
      can = after_can ts rest place after xs w s;
    }

pub phrases_adds : (ts rest place after : List TokenValue) (old mid put new : List ℕ) → SplitsPlace rest place after → AddsLines (λ xs. WritesPhrases ts xs rest) old mid → AddsLines (GivesPhrase place) mid put
    → new ≡ put ++ lines_of ((44 ∷ []) ∷ []) → AddsLines (λ xs. WritesPhrases ts xs after) old new
phrases_adds ts rest place after old mid put new s w a comma = adds_both {Q = Followed} (λ xs ys p q. subst (λ r. WritesPhrases ts (xs ++ r) after) (sym q.2) (phrases_turn ts rest place after xs q.0 s p q.1)) w
    (adds_both {R = Followed} (λ xs ys p q. (xs, p, ap (λ r. xs ++ r) q)) a (adds_piece (44 ∷ []) put new comma))
  where
    Followed : List (List ℕ) → Type 0
    Followed xs = (first : List (List ℕ)) × GivesPhrase place first × (xs ≡ first ++ (44 ∷ []) ∷ [])

pub phrases_end : (ts rest : List TokenValue) (xs ys : List (List ℕ)) → WritesPhrases ts xs rest → GivesPhrase rest ys → GivesPhrases ts (xs ++ ys)
phrases_end ts rest xs ys w g = record {
  places = w.places ++ ys ∷ [];
  divided = parts_end GivesOnePhrase ts rest w.places (ys ∷ []) (w.places ++ ys ∷ []) w.gives (g.is_phrase, g.gives) refl;
  pieces_are = ap (λ r. r ++ ys) w.pieces_are ∙ sym (with_commas-last w.places ys);
}

pub phrases_stuck : (ts rest place after : List TokenValue) (pieces : List (List ℕ)) → WritesPhrases ts pieces rest → SplitsPlace rest place after → (IsPhrase place → ⊥)
    → (phrases : List (List UnitValue)) → AreDivided IsOnePhrase ts phrases → ⊥
phrases_stuck ts rest place after pieces w s none = parts_stuck IsOnePhrase says_phrase_walked ts rest place after w.phrases w.says s (no_phrase place none)

pub phrases_stuck_last : (ts rest : List TokenValue) (pieces : List (List ℕ)) → WritesPhrases ts pieces rest → IsLastPlace rest → (IsPhrase rest → ⊥)
    → (phrases : List (List UnitValue)) → AreDivided IsOnePhrase ts phrases → ⊥
phrases_stuck_last ts rest pieces w last none = parts_stuck_last IsOnePhrase says_phrase_walked ts rest w.phrases w.says last (no_phrase rest none)

-- ---- whole texts

pub phrases_pieces : (text : List ℕ) (ts : List TokenValue) (ps : List (List ℕ)) → HasMailTokens text ts → GivesPhrases ts ps → PhrasesPieces text ps
phrases_pieces text ts ps has g = record { tokens = ts; has = has; places = g.places; divided = g.divided; pieces_are = g.pieces_are }

pub phrases_of : (text : List ℕ) (ts : List TokenValue) (phrases : List (List UnitValue)) (comments : List CommentValue) → HasMailTokens text ts → SaysPhrases text phrases comments → AreDivided IsOnePhrase ts phrases
phrases_of text ts phrases comments has says = rw (HasTokenValues-once text ts says.tokens has says.has) says.divided

pub record SamePhrases (us vs : List (List UnitValue)) (cs ds : List CommentValue) : Type 0 where
  pub phrases : us ≡ vs
  pub comments : cs ≡ ds

-- a text is phrases in one way
pub SaysPhrases-once : (text : List ℕ) (us vs : List (List UnitValue)) (cs ds : List CommentValue) → SaysPhrases text us cs → SaysPhrases text vs ds → SamePhrases us vs cs ds
SaysPhrases-once text us vs cs ds p q = record {
  phrases = divided_once IsOnePhrase says_phrase_walked says_phrase_once p.tokens us vs p.divided (phrases_of text p.tokens vs ds p.has q);
  comments = CommentsSay-once (comments_of p.tokens) cs ds p.comments_say (rw (HasTokenValues-once text p.tokens q.tokens p.has q.has) q.comments_say);
}

gives_phrase_once : SaysOnce GivesOnePhrase
gives_phrase_once ts [] fs p q = absurd p
gives_phrase_once ts (ps ∷ qs ∷ more) fs p q = absurd p
gives_phrase_once ts (ps ∷ []) [] p q = absurd q
gives_phrase_once ts (ps ∷ []) (qs ∷ []) p q = ap (λ r. r ∷ []) (PlacePieces-once ts ps qs p.1 q.1)
gives_phrase_once ts (ps ∷ []) (qs ∷ rs ∷ more) p q = absurd q

pub PhrasesPieces-once : (text : List ℕ) (ps qs : List (List ℕ)) → PhrasesPieces text ps → PhrasesPieces text qs → ps ≡ qs
PhrasesPieces-once text ps qs p q =
    let same : AreDivided GivesOnePhrase p.tokens q.places = rw (HasTokenValues-once text p.tokens q.tokens p.has q.has) q.divided in
    p.pieces_are ∙ ap with_commas (divided_once GivesOnePhrase gives_phrase_walked gives_phrase_once p.tokens p.places q.places p.divided same) ∙ sym q.pieces_are
