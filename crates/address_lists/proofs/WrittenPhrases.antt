-- A phrase is written in one way, and in one at least.
use Rattle.std.proofs.Common.{◌≡◌, ℕ, Bool, true, false, inl, inr, List, [], ◌∷◌, ◌++◌, refl, sym, ap, ◌∙◌, subst}
use Rattle.std.proofs.lemmas.Bool.{and_parts, and_from, both_ways, cases_Bool}
use Rattle.std.specs.List.{AllByRecursion, list_all}
use Rattle.mail_wire.specs.Octets.{is_ascii}
use Rattle.encoded_words.specs.Words.{UnitValue}
use Rattle.encoded_words.specs.PhraseUnits.{IsUtf8Item}
use Rattle.encoded_words.specs.Written.{AreWritable}
use Rattle.encoded_words.proofs.AddedUnits.{WriteAll-once, WriteAll-some}
use Rattle.encoded_words.proofs.AllUnits.{HasPhraseUnits-some}
use Rattle.encoded_words.proofs.PhraseLemmas.{HasPhraseUnits-once}
use Rattle.encoded_words.proofs.WritableUnits.{HasPhraseUnits-writable}
use Rattle.field_tokens.specs.Tokens.{TokenValue}
use Rattle.field_tokens.specs.Squeezed.{is_gap, octets_of, comments_of}
use Rattle.field_tokens.specs.Comments.{CommentsPieces, AreWritableComments}
use Rattle.field_tokens.proofs.CommentValues.{CommentsPieces-once, CommentsPieces-some}
use Rattle.address_grammar.specs.private.Lexemes.{is_blank_token, are_blank}
use Rattle.address_grammar.specs.Phrases.{IsPhrase, phrase_items}
use Rattle.address_lists.specs.PhrasePieces.{UnitsPieces, PhrasePieces, HasCore, PlacePieces}
use Rattle.address_grammar.specs.private.PhraseSteps.{BeginsNoGap, SkipsGaps, SplitsTrail}
use Rattle.address_lists.proofs.PhraseWriting.{core_from, core_utf8, core_writable, trail_writable}

-- ---- the core is one

pub record SameEnds (a b x y : List TokenValue) : Type 0 where
  pub front : a ≡ b
  pub rest : x ≡ y

rest_gaps : (t : TokenValue) (ts : List TokenValue) → list_all (λ u. is_gap u.kind) (t ∷ ts) ≡ true → list_all (λ u. is_gap u.kind) ts ≡ true
rest_gaps t ts h = (and_parts (is_gap t.kind) (list_all (λ u. is_gap u.kind) ts) h).1

first_gap : (t : TokenValue) (ts : List TokenValue) → list_all (λ u. is_gap u.kind) (t ∷ ts) ≡ true → is_gap t.kind ≡ true
first_gap t ts h = (and_parts (is_gap t.kind) (list_all (λ u. is_gap u.kind) ts) h).0

no_gap_first : (t : TokenValue) (ts x : List TokenValue) → is_gap t.kind ≡ true → BeginsNoGap x → x ≡ t ∷ ts → ⊥
no_gap_first t ts [] gap begins e = cc e
no_gap_first t ts (u ∷ x) gap begins e =
    let same : u ≡ t = cc e in
    both_ways (is_gap u.kind) begins (ap (λ (v : TokenValue). is_gap v.kind) same ∙ gap)

pub gaps_once : (a b x y : List TokenValue) → list_all (λ u. is_gap u.kind) a ≡ true → list_all (λ u. is_gap u.kind) b ≡ true → BeginsNoGap x → BeginsNoGap y → a ++ x ≡ b ++ y → SameEnds a b x y
gaps_once [] [] x y ga gb bx by e = record { front = refl; rest = e }
gaps_once [] (t ∷ b) x y ga gb bx by e = absurd (no_gap_first t (b ++ y) x (first_gap t b gb) bx e)
gaps_once (t ∷ a) [] x y ga gb bx by e = absurd (no_gap_first t (a ++ x) y (first_gap t a ga) by (sym e))
gaps_once (t ∷ a) (u ∷ b) x y ga gb bx by e =
    let same : t ≡ u = cc e in
    let more : a ++ x ≡ b ++ y = cc e in
    let r = gaps_once a b x y (rest_gaps t a ga) (rest_gaps u b gb) bx by more in
    let front : a ≡ b = r.front in
    record { front = cc; rest = r.rest }

not_in_all : (p : TokenValue → Bool) (b : List TokenValue) (t : TokenValue) (y : List TokenValue) → p t ≡ false → list_all p ((b ++ t ∷ []) ++ y) ≡ true → ⊥
not_in_all p [] t y other h = both_ways (p t) other (and_parts (p t) (list_all p y) h).0
not_in_all p (u ∷ b) t y other h = not_in_all p b t y other (and_parts (p u) (list_all p ((b ++ t ∷ []) ++ y)) h).1

-- tokens are cut in one way after the last one that doesn't pass
pub trail_once : (p : TokenValue → Bool) (a b : List TokenValue) (s t : TokenValue) (x y : List TokenValue) → p s ≡ false → p t ≡ false → list_all p x ≡ true → list_all p y ≡ true
    → (a ++ s ∷ []) ++ x ≡ (b ++ t ∷ []) ++ y → SameEnds (a ++ s ∷ []) (b ++ t ∷ []) x y
trail_once p [] [] s t x y ws wt bx by e =
    let same : s ≡ t = cc e in
    record { front = ap (λ u. u ∷ []) same; rest = cc e }
trail_once p [] (u ∷ b) s t x y ws wt bx by e =
    let rest : x ≡ (b ++ t ∷ []) ++ y = cc e in
    absurd (not_in_all p b t y wt (rw (rest) at bx))
trail_once p (u ∷ a) [] s t x y ws wt bx by e =
    let rest : y ≡ (a ++ s ∷ []) ++ x = cc (sym e) in
    absurd (not_in_all p a s x ws (rw (rest) at by))
trail_once p (u ∷ a) (v ∷ b) s t x y ws wt bx by e =
    let same : u ≡ v = cc e in
    let more : (a ++ s ∷ []) ++ x ≡ (b ++ t ∷ []) ++ y = cc e in
    let r = trail_once p a b s t x y ws wt bx by more in
    record { front = rw (same) (ap (λ f. v ∷ f) r.front); rest = r.rest }

core_begins : (tokens core trail : List TokenValue) → HasCore tokens core trail → BeginsNoGap (core ++ trail)
core_begins tokens core trail has = rw (has.begins.2) (has.begins.3)

pub core_once : (tokens core trail other following : List TokenValue) → HasCore tokens core trail → HasCore tokens other following → SameEnds core other trail following
core_once tokens core trail other following p q =
    let lead = gaps_once p.lead q.lead (core ++ trail) (other ++ following) p.gaps q.gaps (core_begins tokens core trail p) (core_begins tokens other following q) (sym p.whole ∙ q.whole) in
    let same : (p.ends.0 ++ p.ends.1 ∷ []) ++ trail ≡ (q.ends.0 ++ q.ends.1 ∷ []) ++ following
    = ap (λ r. r ++ trail) (sym p.ends.2) ∙ lead.rest ∙ ap (λ r. r ++ following) q.ends.2 in
    let r = trail_once is_blank_token p.ends.0 q.ends.0 p.ends.1 q.ends.1 trail following p.ends.3 q.ends.3 p.blank q.blank same in
    record { front = p.ends.2 ∙ r.front ∙ sym q.ends.2; rest = r.rest }

-- ---- the pieces are one

UnitsPieces-once : (us : List UnitValue) (ps qs : List (List ℕ)) → UnitsPieces us ps → UnitsPieces us qs → ps ≡ qs
UnitsPieces-once [] ps qs p q = p ∙ sym q
UnitsPieces-once (u ∷ us) ps qs p q = WriteAll-once (u ∷ us) ps qs p q

pub PhrasePieces-once : (b : Bool) (tokens : List TokenValue) (ps qs : List (List ℕ)) → PhrasePieces b tokens ps → PhrasePieces b tokens qs → ps ≡ qs
PhrasePieces-once true tokens ps qs p q = p ∙ sym q
PhrasePieces-once false tokens ps qs p q =
    let units : p.0 ≡ q.0 = HasPhraseUnits-once (phrase_items tokens) p.0 q.0 p.3 q.3 in
    let first : p.1 ≡ q.1 = UnitsPieces-once q.0 p.1 q.1 (subst (λ us. UnitsPieces us p.1) units p.4) q.4 in
    let more : p.2 ≡ q.2 = CommentsPieces-once (comments_of tokens) p.2 q.2 p.5 q.5 in
    p.6 ∙ rw (first, more) (sym q.6)

-- a phrase has one list of pieces
pub PlacePieces-once : (tokens : List TokenValue) (ps qs : List (List ℕ)) → PlacePieces tokens ps → PlacePieces tokens qs → ps ≡ qs
PlacePieces-once tokens ps qs p q =
    let core = core_once tokens p.core p.trail q.core q.trail p.has_core q.has_core in
    let phrase = subst (λ ts. PhrasePieces (list_all is_ascii (octets_of ts)) ts p.first) core.front p.phrase in
    let comments = subst (λ ts. CommentsPieces (comments_of ts) p.more) core.rest p.comments in
    let first : p.first ≡ q.first = PhrasePieces-once (list_all is_ascii (octets_of q.core)) q.core p.first q.first phrase q.phrase in
    let more : p.more ≡ q.more = CommentsPieces-once (comments_of q.trail) p.more q.more comments q.comments in
    p.pieces_are ∙ rw (first, more) (sym q.pieces_are)

-- ---- there are pieces

pub skips_some : (ts : List TokenValue) → (rest : List TokenValue) × SkipsGaps ts rest
skips_some [] = ([], record { lead = []; gaps = refl; whole = refl; begins = tt })
skips_some (t ∷ ts) = elim (cases_Bool (is_gap t.kind)) [
  | inl gap ↦
      let more = skips_some ts in
      (more.0, record { lead = t ∷ more.1.lead; gaps = and_from (is_gap t.kind) (list_all (λ u. is_gap u.kind) more.1.lead) gap more.1.gaps; whole = ap (λ r. t ∷ r) more.1.whole; begins = more.1.begins })
  | inr other ↦ (t ∷ ts, record { lead = []; gaps = refl; whole = refl; begins = other })
]

trail_more : (t : TokenValue) (ts front trail : List TokenValue) → SplitsTrail ts front trail → (f : List TokenValue) × (r : List TokenValue) × SplitsTrail (t ∷ ts) f r
trail_more t ts (u ∷ front) trail s = (t ∷ u ∷ front, trail, record { whole = ap (λ r. t ∷ r) s.whole; ends = s.ends; blank = s.blank })
trail_more t ts [] trail s = elim (cases_Bool (is_blank_token t)) [
  | inl blank ↦ ([], t ∷ trail, record { whole = ap (λ r. t ∷ r) s.whole; ends = tt; blank = and_from (is_blank_token t) (are_blank trail) blank s.blank })
  | inr word ↦ (t ∷ [], trail, record { whole = ap (λ r. t ∷ r) s.whole; ends = word; blank = s.blank })
]

trail_some : (ts : List TokenValue) → (front : List TokenValue) × (trail : List TokenValue) × SplitsTrail ts front trail
trail_some [] = ([], [], record { whole = refl; ends = tt; blank = refl })
trail_some (t ∷ ts) = let more = trail_some ts in trail_more t ts more.0 more.1 more.2

pub HasCore-some : (tokens : List TokenValue) → IsPhrase tokens → (core : List TokenValue) × (trail : List TokenValue) × HasCore tokens core trail
HasCore-some tokens p =
    let skips = skips_some tokens in
    let splits = trail_some skips.0 in
    (splits.0, splits.1, core_from tokens skips.0 splits.0 splits.1 p skips.1 splits.2)

UnitsPieces-some : (us : List UnitValue) → AreWritable us → (ps : List (List ℕ)) × UnitsPieces us ps
UnitsPieces-some [] can = ((34 ∷ 34 ∷ []) ∷ [], refl)
UnitsPieces-some (u ∷ us) can = WriteAll-some (u ∷ us) can

pub PhrasePieces-some : (b : Bool) (tokens : List TokenValue) → AllByRecursion IsUtf8Item (phrase_items tokens) → AreWritableComments (comments_of tokens)
    → (ps : List (List ℕ)) × PhrasePieces b tokens ps
PhrasePieces-some true tokens utf8 can = (octets_of tokens ∷ [], refl)
PhrasePieces-some false tokens utf8 can =
    let units = HasPhraseUnits-some (phrase_items tokens) in
    let first = UnitsPieces-some units.0 (HasPhraseUnits-writable (phrase_items tokens) units.0 utf8 units.1) in
    let more = CommentsPieces-some (comments_of tokens) can in
    (first.0 ++ more.0, (units.0, first.0, more.0, units.1, first.1, more.1, refl))

-- a phrase of UTF-8 has pieces
pub PlacePieces-some : (tokens : List TokenValue) → IsPhrase tokens → AllByRecursion IsUtf8Item (phrase_items tokens) → AreWritableComments (comments_of tokens)
    → (ps : List (List ℕ)) × PlacePieces tokens ps
PlacePieces-some tokens p utf8 can =
    let c = HasCore-some tokens p in
    let has : HasCore tokens c.0 c.1 = c.2 in
    let first = PhrasePieces-some (list_all is_ascii (octets_of c.0)) c.0 (core_utf8 tokens c.0 c.1 utf8 has) (core_writable tokens c.0 c.1 can has) in
    let more = CommentsPieces-some (comments_of c.1) (trail_writable tokens c.0 c.1 can has) in
    (first.0 ++ more.0, record { core = c.0; trail = c.1; has_core = has; first = first.0; more = more.0; phrase = first.1; comments = more.1; pieces_are = refl })
