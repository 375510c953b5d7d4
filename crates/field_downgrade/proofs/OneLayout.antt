-- A field has one layout.
use Rattle.std.proofs.Common.{◌≡◌, ℕ, Option, None, Some, ◌<◌, Bool, true, false, not, ◌||◌, ◌⊎◌, inl, inr, List, [], ◌∷◌, ◌++◌, length, refl, sym, ap, ◌∙◌, subst, arith}
use Rattle.std.proofs.lemmas.Bool.{and_parts, both_ways, not-true, not_from_true}
use Rattle.std.proofs.lemmas.List.{append_assoc, length-append}
use Rattle.std.specs.List.{list_all, list_any, flat_map}
use Rattle.mail_wire.specs.Octets.{is_ascii}
use Rattle.mail_wire.specs.Folds.{unfolded}
use Rattle.mail_wire.proofs.Unfolded.{unfolded-nil}
use Rattle.mail_wire.specs.Spans.{Stops}
use Rattle.encoded_words.specs.WrittenWords.{AreWordsOf}
use Rattle.encoded_words.proofs.Chunks.{AreWordsOf-once}
use Rattle.mail_wire.proofs.SpanLemmas.{span_once}
use Rattle.field_downgrade.specs.declared.segments.Side.{Side}
use Rattle.field_downgrade.specs.declared.segments.Side.TheVariants.{Edge, Encoded, Plain as PlainSide}
use Rattle.utf8_fields.specs.Parts.{FieldParts, HasValue, field_octets}
use Rattle.field_downgrade.specs.Words.{Word, AreWords, HasWords, DividesWords, TellsEncoded, run_of, last_run, plain_text, word_octets, is_word_octet, is_gap_octet, is_high_word}
use Rattle.field_downgrade.specs.Layout.{CutsLeft, CutsRight, Segment, segment_words, Parts, AreSegments, IsCopied, begins_high, ends_high, first_side, last_side, GivesPieces, GiveAll, HavePieces, HasUnstructuredLayout, made_of, spaced}
use Rattle.encoded_words.specs.Folding.{Piece, word_pieces}
use Rattle.encoded_words.proofs.AllUnits.{HasUnits-some}
use Rattle.field_downgrade.specs.declared.kind.Kind.{Kind}
use Rattle.field_downgrade.specs.declared.kind.Kind.TheVariants.{Unstructured, Addresses, Phrases, Params, Ids, Path, Typed, Trace, Plain}
use Rattle.field_downgrade.specs.Kinds.{kind_named}
use Rattle.address_grammar.specs.declared.Address.{Address}
use Rattle.field_tokens.specs.Comments.{CommentValue}
use Rattle.utf8_fields.proofs.OneField.{HasParts-once}
use Rattle.field_downgrade.specs.GlobalBodies.{ChangesGlobal}
use Rattle.field_downgrade.specs.Stands.{BeginsHyphen, HasFieldLayout, Copied, Changed, Made, HasHighLayout, OfWords, OfPieces, Encapsulated, KeptMalformed, NamesMessage, IsChangedType, Meaning, Units, PathTo, TypedAddress, SaysAs, PiecesAs, Means, IsMalformed, IsKeptAside, ByHyphen, ByIdentifiers, ByNullPath, ByPath, ByType, ByMalformed, downgraded_of, keeps_name}
use Rattle.field_downgrade.proofs.KindValues.{PiecesAs-once, PiecesAs-says, HasNoForm, Nothing, OfIds, OfNullPath, OfPath, OfType, no_form_no_pieces}
use Rattle.field_downgrade.proofs.StructuredFields.{structured_no_hyphen, not_unstructured, pieces_no_hyphen, KeptKind, KeptType, KeptEncoding, kept_kind, kept_structured}
use Rattle.field_downgrade.proofs.GlobalBodiesLemmas.{ChangesGlobal-once}
use Rattle.field_downgrade.proofs.OneMeaning.{HasValue-once}
use Rattle.field_downgrade.proofs.SegmentLemmas.{EndsHigh, NotEncoded}
use Rattle.field_downgrade.specs.private.Steps.{BeginsHigh}

-- Words.
pub tells_once : (a b : Bool) (octets : List ℕ) → TellsEncoded a octets → TellsEncoded b octets → a ≡ b
tells_once true true octets p q = refl
tells_once true false octets p q = absurd (q p.0 p.1)
tells_once false true octets p q = absurd (p q.0 q.1)
tells_once false false octets p q = refl

word_first : (xs rest : List ℕ) → 0 < length xs → list_all is_word_octet xs ≡ true → Stops is_gap_octet (xs ++ rest)
word_first [] rest some h = absurd (omega arith)
word_first (x ∷ xs) rest some h = not_from_true (is_word_octet x) (and_parts (is_word_octet x) (list_all is_word_octet xs) h).0

pub words_first : (ws : List Word) → AreWords ws → Stops is_gap_octet (flat_map word_octets ws)
words_first [] are = tt
words_first (w ∷ ws) are = subst (Stops is_gap_octet) (sym (append_assoc w.octets w.gap (flat_map word_octets ws))) (word_first w.octets (w.gap ++ flat_map word_octets ws) are.0.some are.0.octets)

pub gap_first : (gap : List ℕ) (ws : List Word) → list_all is_gap_octet gap ≡ true → (gap ≡ [] → ws ≡ []) → Stops is_word_octet (gap ++ flat_map word_octets ws)
gap_first [] ws h none = rw (none refl) tt
gap_first (x ∷ gap) ws h none = not-true (is_word_octet x) (and_parts (is_gap_octet x) (list_all is_gap_octet gap) h).0

pub gap_none : (w : Word) (ws : List Word) → DividesWords (run_of w) ws → w.gap ≡ [] → ws ≡ []
gap_none w [] divides e = refl
gap_none w (v ∷ ws) divides e = let none : run_of w ≡ [] = ap unfolded e ∙ unfolded-nil in absurd (omega (arith, ap length none))

abbrev this : List ℕ → Bool → List ℕ → Word
this octets encoded gap = record { octets = octets; is_encoded = encoded; gap = gap }

this_is : (a x b y : List ℕ) (s t : Bool) → a ≡ b → s ≡ t → x ≡ y → this a s x ≡ this b t y
this_is a x b y s t e f g = rw (e, f, g) refl

words_once : (ws vs : List Word) → AreWords ws → AreWords vs → flat_map word_octets ws ≡ flat_map word_octets vs → ws ≡ vs
words_once [] [] p q e = refl
words_once [] (v ∷ vs) p q e = let some = q.0.some in absurd (omega (arith, ap length e, length-append (v.octets ++ v.gap) (flat_map word_octets vs), length-append v.octets v.gap))
words_once (w ∷ ws) [] p q e = let some = p.0.some in absurd (omega (arith, ap length e, length-append (w.octets ++ w.gap) (flat_map word_octets ws), length-append w.octets w.gap))
words_once (w ∷ ws) (v ∷ vs) p q e =
    let a : List ℕ = flat_map word_octets ws in
    let b : List ℕ = flat_map word_octets vs in
    let whole : w.octets ++ (w.gap ++ a) ≡ v.octets ++ (v.gap ++ b) = sym (append_assoc w.octets w.gap a) ∙ e ∙ append_assoc v.octets v.gap b in
    let first = span_once is_word_octet w.octets v.octets (w.gap ++ a) (v.gap ++ b) p.0.octets q.0.octets (gap_first w.gap ws p.0.gap.octets (gap_none w ws p.1)) (gap_first v.gap vs q.0.gap.octets (gap_none v vs q.1)) whole in
    let second = span_once is_gap_octet w.gap v.gap a b p.0.gap.octets q.0.gap.octets (words_first ws p.2) (words_first vs q.2) first.1 in
    let encoded : w.is_encoded ≡ v.is_encoded = tells_once w.is_encoded v.is_encoded v.octets (subst (TellsEncoded w.is_encoded) first.0 p.0.encoded) q.0.encoded in
    let head : w ≡ v = this_is w.octets w.gap v.octets v.gap w.is_encoded v.is_encoded first.0 encoded second.0 in
    let tail : ws ≡ vs = words_once ws vs p.2 q.2 second.1 in
    cc

HasWords-once : (body : List ℕ) (ws vs : List Word) → HasWords body ws → HasWords body vs → ws ≡ vs
HasWords-once body ws vs p q =
    let both = span_once is_gap_octet p.lead q.lead (flat_map word_octets ws) (flat_map word_octets vs) p.is_lead.octets q.is_lead.octets (words_first ws p.are_words) (words_first vs q.are_words) (sym p.whole ∙ q.whole) in
    words_once ws vs p.are_words q.are_words both.1

-- Segments.
copied_once : (xs ys us bs : List Word) → IsCopied xs → IsCopied ys → BeginsHigh us → BeginsHigh bs → xs ++ us ≡ ys ++ bs → (xs ≡ ys) × (us ≡ bs)
copied_once [] [] us bs p q f g e = (refl, e)
copied_once [] (y ∷ ys) [] bs p q f g e = cc e
copied_once [] (y ∷ ys) (a ∷ us) bs p q f g e =
    let same : a ≡ y = cc e in
    let low = (and_parts (not (is_high_word y)) (list_all (λ (w : Word). not (is_high_word w)) ys) q).0 in
    absurd (both_ways (is_high_word y) (not-true (is_high_word y) low) (ap is_high_word (sym same) ∙ f))
copied_once (x ∷ xs) [] us [] p q f g e = cc e
copied_once (x ∷ xs) [] us (b ∷ bs) p q f g e =
    let same : x ≡ b = cc e in
    let low = (and_parts (not (is_high_word x)) (list_all (λ (w : Word). not (is_high_word w)) xs) p).0 in
    absurd (both_ways (is_high_word x) (not-true (is_high_word x) low) (ap is_high_word same ∙ g))
copied_once (x ∷ xs) (y ∷ ys) us bs p q f g e =
    let same : x ≡ y = cc e in
    let rest : xs ++ us ≡ ys ++ bs = cc e in
    let more = copied_once xs ys us bs (and_parts (not (is_high_word x)) (list_all (λ (w : Word). not (is_high_word w)) xs) p).1 (and_parts (not (is_high_word y)) (list_all (λ (w : Word). not (is_high_word w)) ys) q).1 f g rest in
    let tails : xs ≡ ys = more.0 in
    (cc, more.1)

segments_begin : (ss : List Segment) → AreSegments ss → BeginsHigh (flat_map segment_words ss)
segments_begin [] segs = tt
segments_begin (s ∷ ss) segs = by s.core segs.0.begins
  where
    by : (core : List Word) → begins_high core ≡ true → BeginsHigh ((core ++ s.copied) ++ flat_map segment_words ss)
    by [] h = cc h
    by (k ∷ ks) h = h

-- no word is high up to the first encoded word
Outside : List Word → Type 0
Outside [] = Unit {0}
Outside (w ∷ ws) = (w.is_encoded ≡ true) ⊎ ((is_high_word w ≡ false) × Outside ws)

outside_copied : (copied rest : List Word) → IsCopied copied → (list_any (λ (w : Word). w.is_encoded) copied ≡ true) ⊎ (rest ≡ []) → Outside (copied ++ rest)
unfolding Outside
outside_copied [] rest p (inl h) = cc h
outside_copied [] rest p (inr e) = rw e tt
outside_copied (k ∷ copied) rest p some =
    let parts = and_parts (not (is_high_word k)) (list_all (λ (w : Word). not (is_high_word w)) copied) p in
    by k.is_encoded refl (not-true (is_high_word k) parts.0) some (outside_copied copied rest parts.1)
  where
    by : (b : Bool) → k.is_encoded ≡ b → is_high_word k ≡ false → (k.is_encoded || list_any (λ (w : Word). w.is_encoded) copied ≡ true) ⊎ (rest ≡ [])
        → ((list_any (λ (w : Word). w.is_encoded) copied ≡ true) ⊎ (rest ≡ []) → Outside (copied ++ rest)) → (k.is_encoded ≡ true) ⊎ ((is_high_word k ≡ false) × Outside (copied ++ rest))
    by true e low some more = inl e
    by false e low (inl h) more = let later = rw e at h in inr (low, more (inl later))
    by false e low (inr h) more = inr (low, more (inr h))

outside_segment : (copied : List Word) (ss : List Segment) → IsCopied copied → Parts copied ss → Outside (copied ++ flat_map segment_words ss)
outside_segment copied [] p parts = outside_copied copied [] p (inr refl)
outside_segment copied (t ∷ ss) p parts = outside_copied copied (flat_map segment_words (t ∷ ss)) p (inl parts)

ends_tail : (w : Word) (ws : List Word) → ends_high (w ∷ ws) ≡ true → EndsHigh ws
ends_tail w [] h = tt
ends_tail w (v ∷ ws) h = h

no_more : (k : Word) (ks rest : List Word) → ends_high (k ∷ ks) ≡ true → NotEncoded (k ∷ ks) → Outside ((k ∷ ks) ++ rest) → ⊥
unfolding Outside
no_more k ks rest ends plain (inl encoded) =
    let parts = and_parts (not k.is_encoded) (list_all (λ (w : Word). not w.is_encoded) ks) plain in both_ways k.is_encoded (not-true k.is_encoded parts.0) encoded
no_more k [] rest ends plain (inr low) = both_ways (is_high_word k) low.0 ends
no_more k (j ∷ ks) rest ends plain (inr low) =
    no_more j ks rest ends (and_parts (not k.is_encoded) (list_all (λ (w : Word). not w.is_encoded) (j ∷ ks)) plain).1 low.1

cores_once : (xs ys us bs : List Word) → EndsHigh xs → EndsHigh ys → NotEncoded xs → NotEncoded ys → Outside us → Outside bs → xs ++ us ≡ ys ++ bs → (xs ≡ ys) × (us ≡ bs)
cores_once [] [] us bs p q f g o u e = (refl, e)
cores_once [] (y ∷ ys) us bs p q f g o u e = absurd (no_more y ys bs q g (subst Outside e o))
cores_once (x ∷ xs) [] us bs p q f g o u e = absurd (no_more x xs us p f (subst Outside (sym e) u))
cores_once (x ∷ xs) (y ∷ ys) us bs p q f g o u e =
    let same : x ≡ y = cc e in
    let rest : xs ++ us ≡ ys ++ bs = cc e in
    let more = cores_once xs ys us bs (ends_tail x xs p) (ends_tail y ys q) (and_parts (not x.is_encoded) (list_all (λ (w : Word). not w.is_encoded) xs) f).1
    (and_parts (not y.is_encoded) (list_all (λ (w : Word). not w.is_encoded) ys) g).1 o u rest in
    let tails : xs ≡ ys = more.0 in
    (cc, more.1)

ends_from : (ws : List Word) → ends_high ws ≡ true → EndsHigh ws
ends_from [] h = tt
ends_from (w ∷ ws) h = h

segments_once : (ss ts : List Segment) → AreSegments ss → AreSegments ts → flat_map segment_words ss ≡ flat_map segment_words ts → ss ≡ ts
segments_once [] [] p q e = refl
segments_once [] (t ∷ ts) p q e = absurd (none t.core q.0.begins (sym e))
  where
    none : (core : List Word) → begins_high core ≡ true → (core ++ t.copied) ++ flat_map segment_words ts ≡ [] → ⊥
    none [] h e = cc h
    none (k ∷ ks) h e = cc e
segments_once (s ∷ ss) [] p q e = absurd (none s.core p.0.begins e)
  where
    none : (core : List Word) → begins_high core ≡ true → (core ++ s.copied) ++ flat_map segment_words ss ≡ [] → ⊥
    none [] h e = cc h
    none (k ∷ ks) h e = cc e
segments_once (s ∷ ss) (t ∷ ts) p q e =
    let a : List Word = flat_map segment_words ss in
    let b : List Word = flat_map segment_words ts in
    let whole : s.core ++ (s.copied ++ a) ≡ t.core ++ (t.copied ++ b) = sym (append_assoc s.core s.copied a) ∙ e ∙ append_assoc t.core t.copied b in
    let cores = cores_once s.core t.core (s.copied ++ a) (t.copied ++ b) (ends_from s.core p.0.ends) (ends_from t.core q.0.ends) p.0.plain q.0.plain
    (outside_segment s.copied ss p.0.copied p.1) (outside_segment t.copied ts q.0.copied q.1) whole in
    let copies = copied_once s.copied t.copied a b p.0.copied q.0.copied (segments_begin ss p.2) (segments_begin ts q.2) cores.1 in
    let core_is : s.core ≡ t.core = cores.0 in
    let copied_is : s.copied ≡ t.copied = copies.0 in
    let tail : ss ≡ ts = segments_once ss ts p.2 q.2 copies.1 in
    let head : s ≡ t = same s.core s.copied t.core t.copied core_is copied_is in
    cc
  where
    same : (a b x y : List Word) → a ≡ x → b ≡ y → ◌≡◌ {A = Segment} (record { core = a; copied = b }) (record { core = x; copied = y })
    same a b x y e f = rw (e, f) refl

-- Pieces.
snoc_once : (xs ys : List ℕ) (x y : ℕ) → xs ++ x ∷ [] ≡ ys ++ y ∷ [] → (xs ≡ ys) × (x ≡ y)
snoc_once [] [] x y e = (refl, cc e)
snoc_once [] (k ∷ ys) x y e = absurd (omega (arith, ap length e, length-append ys (y ∷ [])))
snoc_once (k ∷ xs) [] x y e = absurd (omega (arith, ap length e, length-append xs (x ∷ [])))
snoc_once (k ∷ xs) (j ∷ ys) x y e =
    let same : k ≡ j = cc e in
    let rest : xs ++ x ∷ [] ≡ ys ++ y ∷ [] = cc e in
    let more = snoc_once xs ys x y rest in
    let tails : xs ≡ ys = more.0 in
    (cc, more.1)

left_once : (side : Side) (run a b : List ℕ) (x y : ℕ) → CutsLeft side run a x → CutsLeft side run b y → (a ≡ b) × (x ≡ y)
left_once Edge run a b x y p q = (p.0 ∙ sym q.0, p.1 ∙ sym q.1)
left_once Encoded run a b x y p q = (p.0 ∙ sym q.0, p.1 ∙ sym q.1)
left_once PlainSide run a b x y p q = let e = sym p ∙ q in (cc e, cc e)

right_once : (side : Side) (run a b : List ℕ) (x y : ℕ) → CutsRight side run a x → CutsRight side run b y → (a ≡ b) × (x ≡ y)
right_once Edge run a b x y p q = (p.0 ∙ sym q.0, p.1 ∙ sym q.1)
right_once Encoded run a b x y p q = (p.0 ∙ sym q.0, p.1 ∙ sym q.1)
right_once PlainSide run a b x y p q = snoc_once a b x y (sym p ∙ q)

gives_once : (side : Side) (run : List ℕ) (s : Segment) (ps qs : List Piece) → GivesPieces side run s ps → GivesPieces side run s qs → ps ≡ qs
gives_once side run s ps qs p q =
    let lefts = left_once side run p.left q.left p.white q.white p.cuts_left q.cuts_left in
    let rights = right_once (first_side s.copied) (last_run s.core) p.right q.right p.next q.next p.cuts_right q.cuts_right in
    let text : p.left ++ (plain_text s.core ++ p.right) ≡ q.left ++ (plain_text s.core ++ q.right) = rw (lefts.0, rights.0) refl in
    let words : p.made_words ≡ q.made_words = AreWordsOf-once (q.left ++ (plain_text s.core ++ q.right)) p.made_words q.made_words (subst (λ t. AreWordsOf t p.made_words) text p.are_made_words) q.are_made_words in
    p.pieces_are ∙ rw (words, lefts.1, rights.1) refl ∙ sym q.pieces_are

all_once : (ss : List Segment) (side : Side) (run : List ℕ) (ps qs : List Piece) → GiveAll side run ss ps → GiveAll side run ss qs → ps ≡ qs
all_once [] side run ps qs p q = p ∙ sym q
all_once (s ∷ ss) side run ps qs p q =
    let first : p.0 ≡ q.0 = gives_once side run s p.0 q.0 p.3 q.3 in
    let more : p.1 ≡ q.1 = all_once ss (last_side s.copied) (last_run s.copied) p.1 q.1 p.4 q.4 in
    p.2 ∙ rw (first, more) refl ∙ sym q.2

pieces_once : (words : List Word) (ps qs : List Piece) → HavePieces words ps → HavePieces words qs → ps ≡ qs
pieces_once words ps qs p q =
    let cut = copied_once p.front q.front (flat_map segment_words p.segments) (flat_map segment_words q.segments) p.copied q.copied
    (segments_begin p.segments p.are_segments) (segments_begin q.segments q.are_segments) (sym p.whole ∙ q.whole) in
    let fronts : p.front ≡ q.front = cut.0 in
    let segs : p.segments ≡ q.segments = segments_once p.segments q.segments p.are_segments q.are_segments cut.1 in
    let give : GiveAll (last_side q.front) (last_run q.front) q.segments p.more
    = subst (λ ss. GiveAll (last_side q.front) (last_run q.front) ss p.more) segs (subst (λ f. GiveAll (last_side f) (last_run f) p.segments p.more) fronts p.give) in
    let more : p.more ≡ q.more = all_once q.segments (last_side q.front) (last_run q.front) p.more q.more give q.give in
    p.pieces_are ∙ rw (fronts, more) refl ∙ sym q.pieces_are

layout_once : (f g h : FieldParts) → HasUnstructuredLayout f g → HasUnstructuredLayout f h → g ≡ h
layout_once f g h p q =
    let words : p.words ≡ q.words = HasWords-once f.body p.words q.words p.has_words q.has_words in
    let pieces : p.pieces ≡ q.pieces = pieces_once q.words p.pieces q.pieces (subst (λ ws. HavePieces ws p.pieces) words p.have_pieces) q.have_pieces in
    p.made ∙ ap (made_of f) pieces ∙ sym q.made

-- an unstructured value says its units
units_mean : (f : FieldParts) (value : List ℕ) → kind_named f.name ≡ Unstructured → HasValue f.body value → (meaning : Meaning) × Means f meaning
units_mean f value kind has =
    let units = HasUnits-some value in
    (Units units.0, record { value = value; has_value = has; says = subst (λ k. SaysAs k f.name value (Units units.0)) (sym kind) (units.0, refl, units.1) })

-- no value of a kind is malformed
pieces_mean : (open_global : Bool) (f : FieldParts) (value : List ℕ) (pieces : List (List ℕ)) → HasValue f.body value → PiecesAs (kind_named f.name) open_global f.name value pieces → IsMalformed f → ⊥
pieces_mean open_global f value pieces has values malformed =
    let said = PiecesAs-says (kind_named f.name) open_global f.name value pieces values in malformed said.0 (record { value = value; has_value = has; says = said.1 })

words_mean : (f : FieldParts) (value : List ℕ) → kind_named f.name ≡ Unstructured → HasValue f.body value → IsMalformed f → ⊥
words_mean f value kind has malformed = let said = units_mean f value kind has in malformed said.0 said.1

one_value : (f : FieldParts) (value other : List ℕ) (words others : List (List ℕ)) → HasValue f.body value → HasValue f.body other → AreWordsOf value words → AreWordsOf other others → words ≡ others
one_value f value other words others has has' are are' =
    AreWordsOf-once other words others (subst (λ v. AreWordsOf v words) (HasValue-once f.body value other has has') are) are'

-- a meaning of a field is what its value says
says_of : (f : FieldParts) (value : List ℕ) (meaning : Meaning) → HasValue f.body value → Means f meaning → SaysAs (kind_named f.name) f.name value meaning
says_of f value meaning has means = subst (λ v. SaysAs (kind_named f.name) f.name v meaning) (HasValue-once f.body means.value value means.has_value has) means.says

-- the kind of a field that means a path, or an address after its type
path_kind : (kind : Kind) (name value : List ℕ) (answer : Option Address) (comments : List CommentValue) → SaysAs kind name value (PathTo answer comments) → kind ≡ Path
path_kind Unstructured name value answer comments says = let no = says.1 in cc no
path_kind Phrases name value answer comments says = let no = says.2 in cc no
path_kind Addresses name value answer comments says = let no = says.2 in cc no
path_kind (Params kind) name value answer comments says = let no = says.3 in cc no
path_kind Ids name value answer comments says = cc says
path_kind Path name value answer comments says = refl
path_kind Typed name value answer comments says = let no = says.2 in cc no
path_kind Trace name value answer comments says = let no = says.3 in cc no
path_kind Plain name value answer comments says = let no = says.2 in cc no

typed_kind : (kind : Kind) (name value type text : List ℕ) → SaysAs kind name value (TypedAddress type text) → kind ≡ Typed
typed_kind Unstructured name value type text says = let no = says.1 in cc no
typed_kind Phrases name value type text says = let no = says.2 in cc no
typed_kind Addresses name value type text says = let no = says.2 in cc no
typed_kind (Params kind) name value type text says = let no = says.3 in cc no
typed_kind Ids name value type text says = cc says
typed_kind Path name value type text says = let no = says.2 in cc no
typed_kind Typed name value type text says = refl
typed_kind Trace name value type text says = let no = says.3 in cc no
typed_kind Plain name value type text says = let no = says.2 in cc no

-- the value of a field that is kept aside has no form
aside_no_form : (f : FieldParts) (value : List ℕ) → HasValue f.body value → IsKeptAside f → BeginsHyphen f.name ⊎ HasNoForm (kind_named f.name) f.name value
aside_no_form f value has (ByHyphen begins) = inl begins
aside_no_form f value has (ByIdentifiers kind) = inr (OfIds kind)
aside_no_form f value has (ByNullPath comments means) =
    let says = says_of f value (PathTo None comments) has means in inr (OfNullPath comments says (path_kind (kind_named f.name) f.name value None comments says))
aside_no_form f value has (ByPath address comments means unserved) =
    let says = says_of f value (PathTo (Some address) comments) has means in
    inr (OfPath address comments says unserved (path_kind (kind_named f.name) f.name value (Some address) comments says))
aside_no_form f value has (ByType type text means differs) =
    let says = says_of f value (TypedAddress type text) has means in inr (OfType type text says differs (typed_kind (kind_named f.name) f.name value type text says))
aside_no_form f value has (ByMalformed malformed other) = inr (Nothing (λ meaning says. malformed meaning (record { value = value; has_value = has; says = says })))

aside_no_pieces : (open_global : Bool) (f : FieldParts) (value : List ℕ) (pieces : List (List ℕ)) → HasValue f.body value → PiecesAs (kind_named f.name) open_global f.name value pieces → IsKeptAside f → ⊥
aside_no_pieces open_global f value pieces has p aside = elim (aside_no_form f value has aside) [
  | inl begins ↦ pieces_no_hyphen open_global f.name value pieces p begins
  | inr why ↦ no_form_no_pieces (kind_named f.name) open_global f.name value pieces why p
]

-- such a field isn't made of its words, ...
aside_no_words : (f : FieldParts) (value : List ℕ) → kind_named f.name ≡ Unstructured → ¬ (BeginsHyphen f.name) → HasValue f.body value → IsKeptAside f → ⊥
aside_no_words f value kind none has aside = elim (aside_no_form f value has aside) [ inl begins ↦ none begins | inr why ↦ by why ]
  where
    by : HasNoForm (kind_named f.name) f.name value → ⊥
    by (Nothing nothing) = let said = units_mean f value kind has in nothing said.0 (says_of f value said.0 has said.1)
    by (OfIds e) = let no = sym kind ∙ e in cc no
    by (OfNullPath comments says e) = let no = sym kind ∙ e in cc no
    by (OfPath address comments says unserved e) = let no = sym kind ∙ e in cc no
    by (OfType type text says differs e) = let no = sym kind ∙ e in cc no

-- ... and doesn't keep its name
aside_not_kept : (f : FieldParts) → IsMalformed f → keeps_name f.name ≡ true → IsKeptAside f → ⊥
aside_not_kept f malformed keeps (ByHyphen begins) = structured_no_hyphen f.name (kept_structured f.name keeps) begins
aside_not_kept f malformed keeps (ByIdentifiers kind) = by (kept_kind f.name keeps)
  where
    by : KeptKind f.name → ⊥
    by (KeptType e) = let no = sym kind ∙ e in cc no
    by (KeptEncoding e encoding) = let no = sym kind ∙ e in cc no
aside_not_kept f malformed keeps (ByNullPath comments means) = malformed (PathTo None comments) means
aside_not_kept f malformed keeps (ByPath address comments means unserved) = malformed (PathTo (Some address) comments) means
aside_not_kept f malformed keeps (ByType type text means differs) = malformed (TypedAddress type text) means
aside_not_kept f malformed keeps (ByMalformed malformed' other) = both_ways (keeps_name f.name) other keeps

high_once : (open_global : Bool) (f g h : FieldParts) → HasHighLayout open_global f g → HasHighLayout open_global f h → g ≡ h
high_once o f g h (OfWords kind none p) (OfWords kind' none' q) = layout_once f g h p q
high_once o f g h (OfWords kind none p) (OfPieces value pieces has values e) = absurd (not_unstructured o f.name value pieces values kind)
high_once o f g h (OfWords kind none p) (Encapsulated value words aside has are e) = absurd (aside_no_words f value kind none has aside)
high_once o f g h (OfWords kind none p) (KeptMalformed value words malformed keeps has are e) = absurd (words_mean f value kind has malformed)
high_once o f g h (OfPieces value pieces has values e) (OfWords kind none q) = absurd (not_unstructured o f.name value pieces values kind)
high_once o f g h (OfPieces value pieces has values e) (OfPieces value' pieces' has' values' e') =
    let same : value ≡ value' = HasValue-once f.body value value' has has' in
    let made : pieces ≡ pieces'
    = PiecesAs-once (kind_named f.name) o f.name value' pieces pieces' (subst (λ v. PiecesAs (kind_named f.name) o f.name v pieces) same values) values' in
    e ∙ ap (λ ps. made_of f (spaced ps)) made ∙ sym e'
high_once o f g h (OfPieces value pieces has values e) (Encapsulated value' words aside has' are e') = absurd (aside_no_pieces o f value pieces has values aside)
high_once o f g h (OfPieces value pieces has values e) (KeptMalformed value' words malformed keeps has' are e') = absurd (pieces_mean o f value pieces has values malformed)
high_once o f g h (Encapsulated value words aside has are e) (OfWords kind none q) = absurd (aside_no_words f value kind none has aside)
high_once o f g h (Encapsulated value words aside has are e) (OfPieces value' pieces has' values e') = absurd (aside_no_pieces o f value' pieces has' values aside)
high_once o f g h (Encapsulated value words aside has are e) (Encapsulated value' words' aside' has' are' e') =
    e ∙ ap (λ ws. downgraded_of f (word_pieces 32 ws)) (one_value f value value' words words' has has' are are') ∙ sym e'
high_once o f g h (Encapsulated value words aside has are e) (KeptMalformed value' words' malformed keeps has' are' e') = absurd (aside_not_kept f malformed keeps aside)
high_once o f g h (KeptMalformed value words malformed keeps has are e) (OfWords kind none q) = absurd (words_mean f value kind has malformed)
high_once o f g h (KeptMalformed value words malformed keeps has are e) (OfPieces value' pieces has' values e') = absurd (pieces_mean o f value' pieces has' values malformed)
high_once o f g h (KeptMalformed value words malformed keeps has are e) (Encapsulated value' words' aside has' are' e') = absurd (aside_not_kept f malformed keeps aside)
high_once o f g h (KeptMalformed value words malformed keeps has are e) (KeptMalformed value' words' malformed' keeps' has' are' e') =
    e ∙ ap (λ ws. made_of f (word_pieces 32 ws)) (one_value f value value' words words' has has' are are') ∙ sym e'

-- the type of an opened message/global is renamed in one way
names_once : (octets a b : List ℕ) → NamesMessage octets a → NamesMessage octets b → a ≡ b
names_once octets a b p q =
    let same : p.f ≡ q.f = HasParts-once octets p.f q.f p.is_field.is_field q.is_field.is_field in
    let changes : ChangesGlobal q.f.body p.changed = subst (λ (f : FieldParts). ChangesGlobal f.body p.changed) same p.changes in
    let changed : p.changed ≡ q.changed = ChangesGlobal-once q.f.body p.changed q.changed q.is_field.is_field.body changes q.changes in
    p.made_is ∙ rw (same, changed) refl ∙ sym q.made_is

fixed_not_named : (open_global : Bool) (octets made : List ℕ) → ¬ (IsChangedType open_global octets) → open_global ≡ true → NamesMessage octets made → ⊥
fixed_not_named false octets made fixed open_is names = cc open_is
fixed_not_named true octets made fixed open_is names = fixed (made, names)

-- A field has one layout.
pub HasFieldLayout-once : (open_global : Bool) (octets a b : List ℕ) → HasFieldLayout open_global octets a → HasFieldLayout open_global octets b → a ≡ b
HasFieldLayout-once o octets a b (Copied low fixed e) (Copied low' fixed' e') = e ∙ sym e'
HasFieldLayout-once o octets a b (Copied low fixed e) (Changed opened names) = absurd (fixed_not_named o octets b fixed opened names)
HasFieldLayout-once o octets a b (Copied low fixed e) (Made f g high layout e') = absurd (both_ways (list_all is_ascii octets) high.high low)
HasFieldLayout-once o octets a b (Changed opened names) (Copied low fixed e) = absurd (fixed_not_named o octets a fixed opened names)
HasFieldLayout-once o octets a b (Changed opened names) (Changed opened' names') = names_once octets a b names names'
HasFieldLayout-once o octets a b (Changed opened names) (Made f g high layout e') = absurd (both_ways (list_all is_ascii octets) high.high names.is_field.ascii)
HasFieldLayout-once o octets a b (Made f g high layout e) (Copied low fixed e') = absurd (both_ways (list_all is_ascii octets) high.high low)
HasFieldLayout-once o octets a b (Made f g high layout e) (Changed opened names) = absurd (both_ways (list_all is_ascii octets) high.high names.is_field.ascii)
HasFieldLayout-once o octets a b (Made f g high layout e) (Made f' g' high' layout' e') =
    let same : f ≡ f' = HasParts-once octets f f' high.is_field high'.is_field in
    let made : g ≡ g' = high_once o f' g g' (subst (λ (p : FieldParts). HasHighLayout o p g) same layout) layout' in
    e ∙ ap field_octets made ∙ sym e'
