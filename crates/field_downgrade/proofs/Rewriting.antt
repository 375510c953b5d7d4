-- The rewriting of an unstructured field: what the made field is.
use Rattle.std.proofs.Common.{◌≡◌, ◌≢◌, inl, inr, ℕ, ◌<◌, Bool, true, false, List, [], ◌∷◌, ◌++◌, length, codes, refl, sym, ap, ◌∙◌, subst, arith}
use Rattle.std.proofs.lemmas.List.{append_assoc, length-append}
use Rattle.std.proofs.lemmas.List.Folds.{list_all-append}
use Rattle.std.proofs.lemmas.Bool.{both_ways}
use Rattle.std.specs.List.{list_all}
use Rattle.std.specs.Str.{IsUtf8}
use Rattle.mail_wire.specs.Folds.{IsFolded}
use Rattle.mail_wire.specs.Octets.{is_ascii, is_field_name_octet}
use Rattle.utf8_fields.specs.Parts.{FieldParts, HasParts, IsField, field_octets}
use Rattle.field_downgrade.specs.Words.{Word, AreUtf8, HasWords}
use Rattle.field_downgrade.specs.Layout.{made_of, spaced}
use Rattle.encoded_words.specs.Folding.{Piece, made_body, word_pieces}
use Rattle.field_downgrade.specs.private.Steps.{WritesWords, AddsOctets, IsOther, KeepsWords, MakesUnstructured, MakesField, OfUnstructured, OfOther}
use Rattle.field_downgrade.specs.Stands.{BeginsHyphen, IsHighField, IsChangedType, HasHighLayout, OfWords, OfPieces, Encapsulated, KeptMalformed, Copied, Made, StandsSo, SameMeaning, UnderOtherName, StillMalformed, Same, Ascii, downgraded_of}
use Rattle.field_downgrade.specs.Message.{IsServedField, PutsServed}
use Rattle.field_downgrade.proofs.Made.{ArePieces, IsSameMeaning-made, HasParts-made, HasParts-pieces, pieces-ascii, field_ascii, words_are}
use Rattle.field_downgrade.proofs.NulLemmas.{LackNul, LackNul-spaced, LackNul-words, KeepsNoNul-made, KeepsNoNul-pieces}
use Rattle.field_downgrade.proofs.KindValues.{PiecesAs-says, PiecesAs-read}
use Rattle.field_downgrade.proofs.AllStructured.{decide_words}
use Rattle.field_downgrade.proofs.StructuredFields.{field_high, ArePieces-spaced, IsSameMeaning-pieces, KeepsValue-words, value_utf8, value_some, value_high, still_malformed, structured_no_hyphen, kept_structured, pieces_no_hyphen}
use Rattle.field_downgrade.specs.declared.kind.Kind.TheVariants.{Unstructured}
use Rattle.field_downgrade.specs.Kinds.{kind_named}
use Rattle.encapsulated_fields.specs.Encapsulated.{IsFieldName}

pub Adds-unstructured : (f : FieldParts) (words : List Word) (old start whole new : List ℕ) → HasWords f.body words → AreUtf8 words → start ≡ (old ++ f.name) ++ 58 ∷ [] → WritesWords words start whole
    → new ≡ whole ++ f.ending → AddsOctets (MakesUnstructured f) old new
Adds-unstructured f words old start whole new has u start_is writes new_is = record {
  more = field_octets (made_of f writes.pieces);
  added = new_is ∙ rw (writes.added, start_is)
      (append_assoc ((old ++ f.name) ++ 58 ∷ []) (made_body writes.pieces) f.ending ∙ append_assoc (old ++ f.name) (58 ∷ []) (made_body writes.pieces ++ f.ending)
      ∙ append_assoc old f.name (58 ∷ (made_body writes.pieces ++ f.ending)));
  holds = record { words = words; pieces = writes.pieces; has_words = has; are_utf8 = u; have_pieces = writes.have; made_is = refl };
}

-- an unstructured field
pub IsServed-words : (open_global : Bool) (octets made : List ℕ) (f : FieldParts) → IsHighField octets f → KeepsWords f.name → MakesUnstructured f made → IsServedField open_global octets made
IsServed-words open_global octets made f high keeps m =
    let g : FieldParts = made_of f m.pieces in
    let made_field : HasParts made g = rw (m.made_is) (HasParts-made octets f m.words m.pieces high.is_field m.has_words m.are_utf8 m.have_pieces) in
    let ascii : list_all is_ascii made ≡ true = rw (m.made_is) (field_ascii octets f m.words m.pieces high.is_field m.has_words m.are_utf8 m.have_pieces) in
    record {
      layout = Made f g high (OfWords keeps.kind keeps.no_hyphen (record { words = m.words; pieces = m.pieces; has_words = m.has_words; have_pieces = m.have_pieces; made = refl })) m.made_is;
      stands = Ascii f g high (record { is_field = made_field; ascii = ascii })
          (SameMeaning (IsSameMeaning-made open_global octets f m.words m.pieces high.is_field keeps m.has_words m.are_utf8 m.have_pieces));
      ascii = ascii;
      lines = record {
        f = f;
        g = g;
        is_field = high.is_field;
        made_field = made_field;
        ending = refl;
        no_nul = KeepsNoNul-made octets made f m.words m.pieces high.is_field m.has_words m.are_utf8 m.have_pieces m.made_is;
        no_hyphen = λ _. keeps.no_hyphen;
      };
    }

-- what is known of another made field
record IsOtherMade (open_global : Bool) (octets made : List ℕ) (f g : FieldParts) : Type 0 where
  high : IsHighField octets f
  layout : HasHighLayout open_global f g
  made_is : made ≡ field_octets g
  pieces : List Piece
  are : ArePieces pieces
  lack : LackNul pieces
  named : 0 < length g.name
  name : list_all is_field_name_octet g.name ≡ true
  white : g.white ≡ []
  body : g.body ≡ made_body pieces
  ending : g.ending ≡ f.ending
  stands : StandsSo open_global f g
  no_hyphen : ¬ BeginsHyphen g.name

IsServed-of : (open_global : Bool) (octets made : List ℕ) (f g : FieldParts) → IsOtherMade open_global octets made f g → IsServedField open_global octets made
IsServed-of open_global octets made f g o =
    let made_field : HasParts made g = rw (o.made_is) (HasParts-pieces octets f g o.pieces o.high.is_field o.are o.named o.name o.white o.body o.ending) in
    let ascii : list_all is_ascii made ≡ true = rw (o.made_is) (pieces-ascii octets f g o.pieces o.high.is_field o.are o.name o.white o.body o.ending) in
    record {
      layout = Made f g o.high o.layout o.made_is;
      stands = Ascii f g o.high (record { is_field = made_field; ascii = ascii }) o.stands;
      ascii = ascii;
      lines = record {
        f = f;
        g = g;
        is_field = o.high.is_field;
        made_field = made_field;
        ending = o.ending;
        no_nul = KeepsNoNul-pieces octets made f g o.pieces o.high.is_field o.are o.lack o.name o.white o.body o.ending o.made_is;
        no_hyphen = λ _. o.no_hyphen;
      };
    }

words_not_other : (f : FieldParts) → kind_named f.name ≡ Unstructured → ¬ (BeginsHyphen f.name) → IsOther f → ⊥
words_not_other f kind none (inl other) = other kind
words_not_other f kind none (inr begins) = none begins

pub IsServed-other : (open_global : Bool) (octets made : List ℕ) (f g : FieldParts) → IsHighField octets f → IsOther f → HasHighLayout open_global f g → made ≡ field_octets g → IsServedField open_global octets made
IsServed-other o octets made f g high other (OfWords kind none layout) made_is = absurd (words_not_other f kind none other)
IsServed-other o octets made f g high other (OfPieces value pieces has values g_is) made_is =
    let said = PiecesAs-says (kind_named f.name) o f.name value pieces values in
    let read = PiecesAs-read (kind_named f.name) o f.name value pieces said.0 (value_high octets f value high has) values said.1 in
    let no_hyphen = pieces_no_hyphen o f.name value pieces values in
    IsServed-of o octets made f (made_of f (spaced pieces)) (record {
      high = high;
      layout = OfPieces value pieces has values refl;
      made_is = made_is ∙ ap field_octets g_is;
      pieces = spaced pieces;
      are = ArePieces-spaced pieces read.lines;
      lack = LackNul-spaced pieces read.lines;
      named = high.is_field.named;
      name = high.is_field.name;
      white = refl;
      body = refl;
      ending = refl;
      stands = SameMeaning (IsSameMeaning-pieces o f value pieces said.0 no_hyphen has said.1 read);
      no_hyphen = no_hyphen;
    })
IsServed-other o octets made f g high other (Encapsulated value words aside has are g_is) made_is =
    let g : FieldParts = downgraded_of f (word_pieces 32 words) in
    let u = value_utf8 octets f value high has in
    let some = value_some octets f value high has in
    IsServed-of o octets made f g (record {
      high = high;
      layout = Encapsulated value words aside has are refl;
      made_is = made_is ∙ ap field_octets g_is;
      pieces = word_pieces 32 words;
      are = words_are 32 value words refl u are;
      lack = LackNul-words 32 value words u are;
      named = omega (arith, length-append (codes "Downgraded-") f.name);
      name = list_all-append is_field_name_octet (codes "Downgraded-") f.name ∙ high.is_field.name;
      white = refl;
      body = refl;
      ending = refl;
      stands = UnderOtherName (record { aside = aside; name = refl; keeps = KeepsValue-words f g value words has u some are refl });
      no_hyphen = λ begins. omega (arith, begins);
    })
IsServed-other o octets made f g high other (KeptMalformed value words malformed keeps has are g_is) made_is =
    let g : FieldParts = made_of f (word_pieces 32 words) in
    let u = value_utf8 octets f value high has in
    let some = value_some octets f value high has in
    IsServed-of o octets made f g (record {
      high = high;
      layout = KeptMalformed value words malformed keeps has are refl;
      made_is = made_is ∙ ap field_octets g_is;
      pieces = word_pieces 32 words;
      are = words_are 32 value words refl u are;
      lack = LackNul-words 32 value words u are;
      named = high.is_field.named;
      name = high.is_field.name;
      white = refl;
      body = refl;
      ending = refl;
      stands = StillMalformed (record {
        malformed = malformed;
        kept = keeps;
        name = refl;
        still_malformed = still_malformed f value words has u some are keeps;
        keeps = KeepsValue-words f g value words has u some are refl;
      });
      no_hyphen = structured_no_hyphen f.name (kept_structured f.name keeps);
    })

pub IsServed-from : (open_global : Bool) (octets made : List ℕ) (f : FieldParts) → IsHighField octets f → MakesField open_global f made → IsServedField open_global octets made
IsServed-from o octets made f high (OfUnstructured keeps m) = IsServed-words o octets made f high keeps m
IsServed-from o octets made f high (OfOther g other layout made_is) = IsServed-other o octets made f g high other layout made_is

-- what is made of the parts that were cut off
pub Adds-served : (open_global : Bool) (octets old new : List ℕ) (p : FieldParts) → ((f : FieldParts) → HasParts octets f → p ≡ f) → IsField octets → list_all is_ascii octets ≡ false
    → AddsOctets (MakesField open_global p) old new → AddsOctets (IsServedField open_global octets) old new
Adds-served o octets old new p once is_any not_ascii adds =
    let f = is_any.parts in
    let high : IsHighField octets f = record { is_field = is_any.has_parts; high = not_ascii } in
    record {
      more = adds.more;
      added = adds.added;
      holds = IsServed-from o octets adds.more f high (subst (λ (q : FieldParts). MakesField o q adds.more) (once f is_any.has_parts) adds.holds);
    }

-- an unstructured field was made
pub Adds-words : (open_global : Bool) (f : FieldParts) (old new : List ℕ) → KeepsWords f.name → AddsOctets (MakesUnstructured f) old new → AddsOctets (MakesField open_global f) old new
Adds-words o f old new keeps adds = record { more = adds.more; added = adds.added; holds = OfUnstructured keeps adds.holds }

-- what the writer of structured fields requires of the parts that were cut off
pub record CanRewrite (f : FieldParts) : Type 0 where
  pub other : IsOther f
  pub name : IsFieldName f.name
  pub folded : IsFolded f.body
  pub utf8 : IsUtf8 f.body
  pub high : list_all is_ascii f.body ≡ false

pub CanRewrite-structured : (octets : List ℕ) (p : FieldParts) → ((f : FieldParts) → HasParts octets f → p ≡ f) → IsField octets → list_all is_ascii octets ≡ false → ¬ (KeepsWords p.name) → CanRewrite p
CanRewrite-structured octets p once is_any not_ascii not_words =
    let f = is_any.parts in
    let high : IsHighField octets f = record { is_field = is_any.has_parts; high = not_ascii } in
    let same : p ≡ f = once f is_any.has_parts in
    let other : IsOther f = elim (decide_words f) [ inr other ↦ other | inl keeps ↦ absurd (not_words (subst (λ (q : FieldParts). KeepsWords q.name) (sym same) keeps)) ] in
    subst CanRewrite (sym same) (record {
      other = other;
      name = (is_any.has_parts.named, is_any.has_parts.name);
      folded = is_any.has_parts.body;
      utf8 = is_any.has_parts.utf8;
      high = field_high octets f high;
    })

pub not_kept : (open_global : Bool) (octets made : List ℕ) → list_all is_ascii octets ≡ false → IsServedField open_global octets made → made ≡ octets → ⊥
not_kept o octets made not_ascii is e =
    let ascii : list_all is_ascii octets ≡ true = subst (λ xs. list_all is_ascii xs ≡ true) e is.ascii in
    both_ways (list_all is_ascii octets) not_ascii ascii

-- the body that was cut off is folded, and UTF-8
pub cut_body : (octets : List ℕ) (p : FieldParts) → ((f : FieldParts) → HasParts octets f → p ≡ f) → IsField octets → IsFolded p.body × IsUtf8 p.body
cut_body octets p once is_any =
    let is = is_any.has_parts in
    let e : p ≡ is_any.parts = once is_any.parts is in
    (rw e is.body, rw e is.utf8)

-- an ASCII field is kept, unless it is the type of an opened message/global
pub IsServed-kept : (open_global : Bool) (octets : List ℕ) → IsField octets → list_all is_ascii octets ≡ true → ¬ (IsChangedType open_global octets) → IsServedField open_global octets octets
IsServed-kept o octets is_any ascii fixed = record {
  layout = Copied ascii fixed refl;
  stands = Same ascii fixed refl;
  ascii = ascii;
  lines = record {
    f = is_any.parts;
    g = is_any.parts;
    is_field = is_any.has_parts;
    made_field = is_any.has_parts;
    ending = refl;
    no_nul = λ lacks. lacks;
    no_hyphen = λ not_ascii. absurd (both_ways (list_all is_ascii octets) not_ascii ascii);
  };
}

-- a field with an octet above 127 is put last as another one
pub puts_high : (open_global : Bool) (raw old new : List ℕ) → list_all is_ascii raw ≡ false → AddsOctets (IsServedField open_global raw) old new → PutsServed open_global raw true old new
puts_high open_global raw old new high adds = (adds.more, adds.holds, not_kept open_global raw adds.more high adds.holds, adds.added)

-- what was put after nothing is all
pub first_served : (open_global : Bool) (raw old new : List ℕ) → old ≡ [] → PutsServed open_global raw true old new → IsServedField open_global raw new × (new ≢ raw)
first_served open_global raw old new none puts =
    let all : new ≡ puts.0 = puts.3 ∙ ap (λ xs. xs ++ puts.0) none in
    (subst (IsServedField open_global raw) (sym all) puts.1, λ same. puts.2 (sym all ∙ same))
