-- Phrases are written.
use Rattle.std.proofs.Common.{◌≡◌, ℕ, Bool, true, false, ◌&&◌, List, [], ◌∷◌, ◌++◌, refl, sym, ap, ◌∙◌, subst}
use Rattle.std.proofs.lemmas.Bool.{and_parts, and_from, both_ways}
use Rattle.std.proofs.lemmas.List.{append_assoc, append-nil}
use Rattle.std.proofs.lemmas.List.Folds.{list_all-append}
use Rattle.std.specs.List.{AllByRecursion, list_all}
use Rattle.mail_wire.specs.Octets.{is_ascii}
use Rattle.encoded_words.specs.Folding.{AddsLines}
use Rattle.encoded_words.specs.PhraseUnits.{PhraseItem, IsUtf8Item}
use Rattle.encoded_words.proofs.LineLemmas.{adds_both}
use Rattle.field_tokens.specs.declared.TokenKind.{TokenKind}
use Rattle.field_tokens.specs.declared.TokenKind.TheVariants.{Atom, Quoted, Literal, Special, Gap, Comment}
use Rattle.field_tokens.specs.Tokens.{TokenValue}
use Rattle.field_tokens.specs.Squeezed.{is_gap, is_comment, octets_of, comments_of}
use Rattle.field_tokens.specs.Comments.{AreWritableComments, CommentsPieces}
use Rattle.field_tokens.proofs.Parts.{comments_of-append}
use Rattle.address_grammar.specs.private.Lexemes.{is_blank_token, are_blank}
use Rattle.address_grammar.specs.Phrases.{may_stand_in_phrase, IsPhrase, phrase_items}
use Rattle.address_lists.specs.PhrasePieces.{PhrasePieces, HasCore, PlacePieces}
use Rattle.address_lists.specs.private.Emptied.{GivesUnits}
use Rattle.address_grammar.specs.private.PhraseSteps.{BeginsNoGap, EndsNoBlank, SkipsGaps, SplitsTrail}

-- ---- gaps in front

-- gaps were passed over
pub record PassesGaps (all rest : List TokenValue) : Type 0 where
  pub lead : List TokenValue
  pub whole : all ≡ lead ++ rest
  pub gaps : list_all (λ t. is_gap t.kind) lead ≡ true

pub gaps_start : (ts : List TokenValue) → PassesGaps ts ts
gaps_start ts = record { lead = []; whole = refl; gaps = refl }

-- tokens with one after them
one_after : (front rest following : List TokenValue) (t : TokenValue) → rest ≡ t ∷ following → front ++ rest ≡ (front ++ t ∷ []) ++ following
one_after front rest following t e = ap (λ r. front ++ r) e ∙ sym (append_assoc front (t ∷ []) following)

pub all_more : (p : TokenValue → Bool) (front : List TokenValue) (t : TokenValue) → list_all p front ≡ true → p t ≡ true → list_all p (front ++ t ∷ []) ≡ true
all_more p front t all is = list_all-append p front (t ∷ []) ∙ and_from (list_all p front) (list_all p (t ∷ [])) all (and_from (p t) true is refl)

pub gaps_turn : (all rest following : List TokenValue) (t : TokenValue) → PassesGaps all rest → rest ≡ t ∷ following → is_gap t.kind ≡ true → PassesGaps all following
gaps_turn all rest following t p e gap = record {
  lead = p.lead ++ t ∷ [];
  whole = p.whole ∙ one_after p.lead rest following t e;
  gaps = all_more (λ u. is_gap u.kind) p.lead t p.gaps gap;
}

pub gaps_end : (all rest following : List TokenValue) (t : TokenValue) → PassesGaps all rest → rest ≡ t ∷ following → is_gap t.kind ≡ false → SkipsGaps all rest
gaps_end all rest following t p e other = record { lead = p.lead; gaps = p.gaps; whole = p.whole; begins = subst BeginsNoGap (sym e) other }

pub gaps_only : (all rest : List TokenValue) → PassesGaps all rest → rest ≡ [] → SkipsGaps all rest
gaps_only all rest p e = record { lead = p.lead; gaps = p.gaps; whole = p.whole; begins = subst BeginsNoGap (sym e) tt }

-- ---- what doesn't count at the end

-- the last token, if there is one, doesn't pass
abbrev pub EndsNo : (TokenValue → Bool) → List TokenValue → Type 0
EndsNo p [] = Unit {0}
EndsNo p (t ∷ []) = p t ≡ false
EndsNo p (t ∷ next ∷ tokens) = EndsNo p (next ∷ tokens)

ends_so : (p : TokenValue → Bool) (ts : List TokenValue) (t : TokenValue) → p t ≡ false → EndsNo p (ts ++ t ∷ [])
ends_so p [] t h = h
ends_so p (u ∷ []) t h = h
ends_so p (u ∷ v ∷ ts) t h = ends_so p (v ∷ ts) t h

-- after the last token that doesn't pass stand these, as far as they were looked at
pub record TrailSoFar (p : TokenValue → Bool) (all trail rest : List TokenValue) : Type 0 where
  pub front : List TokenValue
  pub whole : all ≡ front ++ trail
  pub ends : EndsNo p front
  pub passed : List TokenValue
  pub trail_is : trail ≡ passed ++ rest
  pub pass : list_all p passed ≡ true

pub trail_start : (p : TokenValue → Bool) (ts : List TokenValue) → TrailSoFar p ts ts ts
trail_start p ts = record { front = []; whole = refl; ends = tt; passed = []; trail_is = refl; pass = refl }

pub trail_anew : (p : TokenValue → Bool) (all trail rest following : List TokenValue) (t : TokenValue) → TrailSoFar p all trail rest → rest ≡ t ∷ following → p t ≡ false → TrailSoFar p all following following
trail_anew p all trail rest following t s e other = record {
  front = (s.front ++ s.passed) ++ t ∷ [];
  whole = s.whole ∙ ap (λ r. s.front ++ r) s.trail_is ∙ sym (append_assoc s.front s.passed rest) ∙ one_after (s.front ++ s.passed) rest following t e;
  ends = ends_so p (s.front ++ s.passed) t other;
  passed = [];
  trail_is = refl;
  pass = refl;
}

pub trail_onward : (p : TokenValue → Bool) (all trail rest following : List TokenValue) (t : TokenValue) → TrailSoFar p all trail rest → rest ≡ t ∷ following → p t ≡ true → TrailSoFar p all trail following
trail_onward p all trail rest following t s e is = record {
  front = s.front;
  whole = s.whole;
  ends = s.ends;
  passed = s.passed ++ t ∷ [];
  trail_is = s.trail_is ∙ one_after s.passed rest following t e;
  pass = all_more p s.passed t s.pass is;
}

-- what stands before the tokens at the end that pass
pub record CutsTrail (p : TokenValue → Bool) (all front trail : List TokenValue) : Type 0 where
  pub whole : all ≡ front ++ trail
  pub ends : EndsNo p front
  pub pass : list_all p trail ≡ true

pub trail_end : (p : TokenValue → Bool) (all trail rest front : List TokenValue) → TrailSoFar p all trail rest → rest ≡ [] → ((before : List TokenValue) → all ≡ before ++ trail → front ≡ before) → CutsTrail p all front trail
trail_end p all trail rest front s e front_is =
    let same : front ≡ s.front = front_is s.front s.whole in
    record {
      whole = s.whole ∙ ap (λ r. r ++ trail) (sym same);
      ends = subst (EndsNo p) (sym same) s.ends;
      pass = ap (list_all p) (s.trail_is ∙ ap (λ r. s.passed ++ r) e ∙ append-nil s.passed) ∙ s.pass;
    }

ends_blank : (ts : List TokenValue) → EndsNo is_blank_token ts → EndsNoBlank ts
ends_blank [] e = e
ends_blank (t ∷ []) e = e
ends_blank (t ∷ u ∷ ts) e = ends_blank (u ∷ ts) e

pub blank_trail : (all front trail : List TokenValue) → CutsTrail is_blank_token all front trail → SplitsTrail all front trail
blank_trail all front trail c = record { whole = c.whole; ends = ends_blank front c.ends; blank = c.pass }

-- ---- the core

gap_blank : (k : TokenKind) (octets : List ℕ) → is_gap k ≡ true → is_blank_token (record { kind = k; octets = octets }) ≡ true
gap_blank Gap octets h = refl
gap_blank Comment octets h = refl
gap_blank Atom octets h = h
gap_blank Quoted octets h = h
gap_blank Literal octets h = h
gap_blank Special octets h = h

pub gaps_blank : (ts : List TokenValue) → list_all (λ t. is_gap t.kind) ts ≡ true → are_blank ts ≡ true
gaps_blank [] h = refl
gaps_blank (t ∷ ts) h =
    let parts = and_parts (is_gap t.kind) (list_all (λ u. is_gap u.kind) ts) h in
    and_from (is_blank_token t) (are_blank ts) (gap_blank t.kind t.octets parts.0) (gaps_blank ts parts.1)

pub blank-append : (a b : List TokenValue) → are_blank a ≡ true → are_blank b ≡ true → are_blank (a ++ b) ≡ true
blank-append a b p q = list_all-append is_blank_token a b ∙ and_from (are_blank a) (are_blank b) p q

ends_with : (t : TokenValue) (ts : List TokenValue) → EndsNoBlank (t ∷ ts) → (others : List TokenValue) × (last : TokenValue) × (t ∷ ts ≡ others ++ last ∷ []) × (is_blank_token last ≡ false)
ends_with t [] ends = ([], t, refl, ends)
ends_with t (u ∷ ts) ends = let more = ends_with u ts ends in (t ∷ more.0, more.1, ap (λ r. t ∷ r) more.2, more.3)

pub core_from : (tokens rest core trail : List TokenValue) → IsPhrase tokens → SkipsGaps tokens rest → SplitsTrail rest core trail → HasCore tokens core trail
core_from tokens rest [] trail p skips splits =
    let blank : are_blank (skips.lead ++ trail) ≡ true = blank-append skips.lead trail (gaps_blank skips.lead skips.gaps) splits.blank in
    absurd (both_ways (are_blank tokens) p.some (rw (skips.whole, splits.whole) blank))
core_from tokens rest (t ∷ core) trail p skips splits = record {
  lead = skips.lead;
  gaps = skips.gaps;
  begins = (t, core, refl, rw (splits.whole) at skips.begins);
  ends = ends_with t core splits.ends;
  blank = splits.blank;
  whole = rw (skips.whole, splits.whole) refl;
}

-- the phrase and its core
stands-append : (a b : List TokenValue) → list_all may_stand_in_phrase (a ++ b) ≡ true → (list_all may_stand_in_phrase a ≡ true) × (list_all may_stand_in_phrase b ≡ true)
stands-append a b h = and_parts (list_all may_stand_in_phrase a) (list_all may_stand_in_phrase b) (sym (list_all-append may_stand_in_phrase a b) ∙ h)

not_blank : (others : List TokenValue) (last : TokenValue) → is_blank_token last ≡ false → are_blank (others ++ last ∷ []) ≡ false
not_blank [] last h = rw h refl
not_blank (t ∷ others) last h = rw (not_blank others last h) (by (is_blank_token t))
  where
    by : (b : Bool) → (b && false) ≡ false
    by true = refl
    by false = refl

pub phrase_core : (tokens core trail : List TokenValue) → IsPhrase tokens → HasCore tokens core trail → IsPhrase core
phrase_core tokens core trail p has =
    let whole = stands-append has.lead (core ++ trail) (rw (has.whole) at p.each) in
    record {
      some = rw (has.ends.2) (not_blank has.ends.0 has.ends.1 has.ends.3);
      each = (stands-append core trail whole.1).0;
    }

items_front : (a b : List PhraseItem) → AllByRecursion IsUtf8Item (a ++ b) → AllByRecursion IsUtf8Item a
items_front [] b all = tt
items_front (i ∷ a) b all = (all.0, items_front a b all.1)

items_rest : (a b : List PhraseItem) → AllByRecursion IsUtf8Item (a ++ b) → AllByRecursion IsUtf8Item b
items_rest [] b all = all
items_rest (i ∷ a) b all = items_rest a b all.1

pub phrase_items-append : (a b : List TokenValue) → phrase_items (a ++ b) ≡ phrase_items a ++ phrase_items b
phrase_items-append [] b = refl
phrase_items-append (t ∷ a) b = rw (phrase_items-append a b) refl

pub core_utf8 : (tokens core trail : List TokenValue) → AllByRecursion IsUtf8Item (phrase_items tokens) → HasCore tokens core trail → AllByRecursion IsUtf8Item (phrase_items core)
core_utf8 tokens core trail all has =
    let items : phrase_items tokens ≡ phrase_items has.lead ++ (phrase_items core ++ phrase_items trail)
    = ap phrase_items has.whole ∙ phrase_items-append has.lead (core ++ trail) ∙ ap (λ r. phrase_items has.lead ++ r) (phrase_items-append core trail) in
    items_front (phrase_items core) (phrase_items trail) (items_rest (phrase_items has.lead) (phrase_items core ++ phrase_items trail) (subst (AllByRecursion IsUtf8Item) items all))

-- ---- comments

gap_no_comment : (k : TokenKind) → is_gap k ≡ true → is_comment k ≡ false
gap_no_comment Gap h = refl
gap_no_comment Comment h = sym h
gap_no_comment Atom h = refl
gap_no_comment Quoted h = refl
gap_no_comment Literal h = refl
gap_no_comment Special h = refl

pub gaps_no_comments : (ts : List TokenValue) → list_all (λ t. is_gap t.kind) ts ≡ true → comments_of ts ≡ []
gaps_no_comments [] h = refl
gaps_no_comments (t ∷ ts) h =
    let parts = and_parts (is_gap t.kind) (list_all (λ u. is_gap u.kind) ts) h in
    rw (gap_no_comment t.kind parts.0) (gaps_no_comments ts parts.1)

-- the comments of the core come first, and then those after it
pub core_comments : (tokens core trail : List TokenValue) → HasCore tokens core trail → comments_of tokens ≡ comments_of core ++ comments_of trail
core_comments tokens core trail has =
    ap comments_of has.whole ∙ comments_of-append has.lead (core ++ trail) ∙ rw (gaps_no_comments has.lead has.gaps) (comments_of-append core trail)

pub writable_front : (a b : List (List ℕ)) → AreWritableComments (a ++ b) → AreWritableComments a
writable_front [] b are = tt
writable_front (c ∷ a) b are = (are.0, are.1, writable_front a b are.2)

pub writable_rest : (a b : List (List ℕ)) → AreWritableComments (a ++ b) → AreWritableComments b
writable_rest [] b are = are
writable_rest (c ∷ a) b are = writable_rest a b are.2

pub core_writable : (tokens core trail : List TokenValue) → AreWritableComments (comments_of tokens) → HasCore tokens core trail → AreWritableComments (comments_of core)
core_writable tokens core trail are has = writable_front (comments_of core) (comments_of trail) (subst AreWritableComments (core_comments tokens core trail has) are)

pub trail_writable : (tokens core trail : List TokenValue) → AreWritableComments (comments_of tokens) → HasCore tokens core trail → AreWritableComments (comments_of trail)
trail_writable tokens core trail are has = writable_rest (comments_of core) (comments_of trail) (subst AreWritableComments (core_comments tokens core trail has) are)

pub CommentsPieces-append : (cs ds : List (List ℕ)) (ps qs : List (List ℕ)) → CommentsPieces cs ps → CommentsPieces ds qs → CommentsPieces (cs ++ ds) (ps ++ qs)
CommentsPieces-append [] ds ps qs a b = rw (a) b
CommentsPieces-append (c ∷ cs) ds ps qs a b =
    (a.0, a.1 ++ qs, ap (λ r. r ++ qs) a.2 ∙ append_assoc a.0 a.1 qs, a.3, CommentsPieces-append cs ds a.1 qs a.4 b)

pub no_comment : (t : TokenValue) → is_comment t.kind ≡ false → comments_of (t ∷ []) ≡ []
no_comment t h = rw h refl

-- ---- octets

pub octets_turn : (all rest following : List TokenValue) (t : TokenValue) (start old new : List ℕ) → old ++ octets_of rest ≡ start ++ octets_of all → rest ≡ t ∷ following → new ≡ old ++ t.octets → new ++ octets_of following ≡ start ++ octets_of all
octets_turn all rest following t start old new so e put = ap (λ r. r ++ octets_of following) put ∙ append_assoc old t.octets (octets_of following) ∙ ap (λ r. old ++ octets_of r) (sym e) ∙ so

pub octets_end : (all rest : List TokenValue) (start made : List ℕ) → made ++ octets_of rest ≡ start ++ octets_of all → rest ≡ [] → made ≡ start ++ octets_of all
octets_end all rest start made so e = sym (append-nil made) ∙ ap (λ r. made ++ octets_of r) (sym e) ∙ so

-- ---- all pieces

pub said_adds : (tokens : List TokenValue) (old mid new : List ℕ) → AddsLines (GivesUnits tokens) old mid → AddsLines (CommentsPieces (comments_of tokens)) mid new → AddsLines (PhrasePieces false tokens) old new
said_adds tokens old mid new a b = adds_both (λ xs ys p q. (p.0, xs, ys, p.1, p.2, q, refl)) a b

pub place_adds : (tokens core trail : List TokenValue) (old mid new : List ℕ) → HasCore tokens core trail → AddsLines (PhrasePieces (list_all is_ascii (octets_of core)) core) old mid
    → AddsLines (CommentsPieces (comments_of trail)) mid new → AddsLines (PlacePieces tokens) old new
place_adds tokens core trail old mid new has a b = adds_both
    (λ xs ys p q. record { core = core; trail = trail; has_core = has; first = xs; more = ys; phrase = p; comments = q; pieces_are = refl }) a b

pub joined_core : (tokens : List TokenValue) (old new : List ℕ) → list_all is_ascii (octets_of tokens) ≡ true → AddsLines (PhrasePieces true tokens) old new → AddsLines (PhrasePieces (list_all is_ascii (octets_of tokens)) tokens) old new
joined_core tokens old new h a = rw (h) a

pub said_core : (tokens : List TokenValue) (old mid new : List ℕ) → list_all is_ascii (octets_of tokens) ≡ false → AddsLines (GivesUnits tokens) old mid → AddsLines (CommentsPieces (comments_of tokens)) mid new
    → AddsLines (PhrasePieces (list_all is_ascii (octets_of tokens)) tokens) old new
said_core tokens old mid new h a b = rw (h) (said_adds tokens old mid new a b)
