-- Units that are taken one after another, and written as they are done.
use Rattle.std.proofs.Common.{◌≡◌, ℕ, Bool, true, false, cond, inl, inr, List, [], ◌∷◌, ◌++◌, codes, Some, refl, sym, ap, ◌∙◌, subst}
use Rattle.std.proofs.lemmas.Bool.{cases_Bool}
use Rattle.std.proofs.lemmas.List.{append_assoc, append-nil, flat_map_more}
use Rattle.std.proofs.lemmas.Str.{IsUtf8-from_ascii}
use Rattle.std.specs.List.{AllByRecursion, flat_map, list_all}
use Rattle.mail_wire.specs.Octets.{is_ascii}
use Rattle.mail_wire.proofs.AllLemmas.{all-append, all-front, all-back}
use Rattle.encoded_words.specs.declared.units.Merging.{Merging}
use Rattle.encoded_words.specs.Folding.{AddsLines}
use Rattle.encoded_words.specs.Words.{UnitValue, Text, Opaque, IsEncodedWord}
use Rattle.encoded_words.specs.Units.{with_text, merged}
use Rattle.encoded_words.specs.PhraseUnits.{IsUtf8Item}
use Rattle.encoded_words.specs.private.Merging.{IsMerging, TakesWord, done_values, all_units_then, onto}
use Rattle.encoded_words.specs.Written.{IsWritable, AreWritable, WriteAll}
use Rattle.encoded_words.proofs.WrittenWords.{ascii_literal}
use Rattle.encoded_words.proofs.LineLemmas.{adds_none, adds_both, adds_as}
use Rattle.encoded_words.proofs.Once.{says_once}
use Rattle.encoded_words.proofs.Reading.{merged-onto}
use Rattle.encoded_words.proofs.WritableUnits.{with_text_writable, HasPhraseUnits-writable}
use Rattle.field_tokens.specs.Tokens.{TokenValue}
use Rattle.address_grammar.specs.declared.FoundMailbox.{FoundMailbox}
use Rattle.address_grammar.specs.declared.phrases.PhraseReader.{PhraseReader}
use Rattle.address_grammar.specs.Addresses.{address_text}
use Rattle.address_grammar.specs.AddressLists.{MailboxValue, IsMailbox, IsOneMailbox}
use Rattle.address_grammar.specs.Found.{found_value}
use Rattle.address_grammar.specs.Phrases.{IsPhrase, phrase_items}
use Rattle.address_grammar.specs.private.Lexemes.{SplitsAt}
use Rattle.address_grammar.specs.private.PhraseSteps.{IsFreshReader, ReadsToken}
use Rattle.address_grammar.specs.private.Walks.{SplitsPlace}
use Rattle.address_grammar.proofs.DividedLemmas.{ReadsParts, parts_start, parts_turn, parts_end}
use Rattle.address_grammar.proofs.ListLemmas.{one_walked}
use Rattle.address_grammar.proofs.MailboxLemmas.{display_read, display_none}
use Rattle.address_lists.specs.ListPieces.{member_units, members_units}
use Rattle.address_lists.specs.private.ListWriting.{CanBeWritten, IsWritableMailbox, AreWritableMailboxes, AreSomeMailboxes}
use Rattle.address_lists.specs.private.Emptied.{all_onto, TakesUnits, TakesOut, CanEnd, display_units, TakesPhrase, TakesDisplay, TakesNotServed, TakesMember, TakesMembers, GivesMailboxUnits, GivesGroupUnits}
use Rattle.address_lists.proofs.KeptGroups.{members_left}
use Rattle.address_lists.proofs.UnitStream.{WriteAll-append, Streams, stream_start, stream_turn, said_writable, stream_end, last_writable}
use Rattle.address_lists.proofs.WritableTokens.{before_can, following_can, mailbox_writable, members_writable}

pub takes_opaque : (old new : Merging) (charset octets source : List ℕ) (encoded : Bool) → IsEncodedWord source (Opaque charset octets source) → TakesWord old new [] false source encoded → TakesUnits old new (Opaque charset octets source ∷ [])
takes_opaque old new charset octets source encoded is t = record { units = λ us. rw (says_once source t.says (Some (Opaque charset octets source)) t.says_is is) at (t.units us) }

pub takes_none : (m : Merging) → TakesUnits m m []
takes_none m = record { units = λ us. refl }

all_onto-append : (a b us : List UnitValue) → all_onto (a ++ b) us ≡ all_onto a (all_onto b us)
all_onto-append [] b us = refl
all_onto-append (u ∷ a) b us = ap (onto u) (all_onto-append a b us)

pub takes_append : (old mid new : Merging) (a b : List UnitValue) → TakesUnits old mid a → TakesUnits mid new b → TakesUnits old new (a ++ b)
takes_append old mid new a b s t = record { units = λ us. t.units us ∙ s.units (all_onto b us) ∙ ap (all_units_then old) (sym (all_onto-append a b us)) }

all_onto-merged : (us : List UnitValue) → all_onto us [] ≡ merged us
all_onto-merged [] = refl
all_onto-merged (u ∷ us) = ap (onto u) (all_onto-merged us) ∙ sym (merged-onto u us)

-- members with a comma after each
abbrev pub units_before : List MailboxValue → List UnitValue
units_before ms = flat_map (λ m. member_units m ++ Text (codes ", ") ∷ []) ms

pub units_before-more : (ms : List MailboxValue) (m : MailboxValue) → units_before (ms ++ m ∷ []) ≡ units_before ms ++ (member_units m ++ Text (codes ", ") ∷ [])
units_before-more ms m = sym (flat_map_more (λ n. member_units n ++ Text (codes ", ") ∷ []) [] ms m)

pub members_units-last : (ms : List MailboxValue) (m : MailboxValue) → members_units (ms ++ m ∷ []) ≡ units_before ms ++ member_units m
members_units-last [] m = refl
members_units-last (n ∷ []) m = sym (append_assoc (member_units n) (Text (codes ", ") ∷ []) (member_units m)) ∙ ap (λ r. r ++ member_units m) (sym (append-nil (member_units n ++ Text (codes ", ") ∷ [])))
members_units-last (n ∷ o ∷ ms) m =
    ap (λ r. member_units n ++ Text (codes ", ") ∷ r) (members_units-last (o ∷ ms) m) ∙ sym (append_assoc (member_units n) (Text (codes ", ") ∷ []) (units_before (o ∷ ms) ++ member_units m))
    ∙ sym (append_assoc (member_units n ++ Text (codes ", ") ∷ []) (units_before (o ∷ ms)) (member_units m))

-- ---- what can be written

writable_append : (a b : List UnitValue) → AreWritable a → AreWritable b → AreWritable (a ++ b)
writable_append a b p q = all-append IsWritable a b p q

ascii_writable : (octets : List ℕ) → list_all is_ascii octets ≡ true → IsWritable (Text octets)
ascii_writable octets h = IsUtf8-from_ascii octets (ascii_literal octets h)

space_writable : (b : Bool) → AreWritable (cond b (Text (32 ∷ []) ∷ []) [])
space_writable true = (ascii_writable (32 ∷ []) refl, tt)
space_writable false = tt

not_served_writable : (m : MailboxValue) → IsWritableMailbox m → AreWritable (display_units m ++ Text (address_text m.address) ∷ [])
not_served_writable m w = writable_append (display_units m) (Text (address_text m.address) ∷ []) (writable_append m.display (cond m.phrase (Text (32 ∷ []) ∷ []) []) w.display (space_writable m.phrase)) (w.text, tt)

member_writable : (m : MailboxValue) → IsWritableMailbox m → AreWritable (member_units m)
member_writable m w = elim (cases_Bool m.phrase) [
  | inl phrase ↦ rw (phrase)
      (writable_append m.display (Text (codes " <") ∷ Text (address_text m.address) ∷ Text (codes ">") ∷ []) w.display
      (ascii_writable (codes " <") refl, (w.text, (ascii_writable (codes ">") refl, tt))))
  | inr bare ↦ rw (bare) ((w.text, tt))
]

members_units_writable : (ms : List MailboxValue) → AreWritableMailboxes ms → AreWritable (members_units ms)
members_units_writable [] all = tt
members_units_writable (m ∷ []) all = member_writable m all.0
members_units_writable (m ∷ n ∷ ms) all =
    writable_append (member_units m) (Text (codes ", ") ∷ members_units (n ∷ ms)) (member_writable m all.0) (ascii_writable (codes ", ") refl, members_units_writable (n ∷ ms) all.1)

onto_writable : (u : UnitValue) (us : List UnitValue) → IsWritable u → AreWritable us → AreWritable (onto u us)
onto_writable (Text octets) us p q = with_text_writable octets us p q
onto_writable (Opaque charset octets source) us p q = (p, q)

all_onto_writable : (added us : List UnitValue) → AreWritable added → AreWritable us → AreWritable (all_onto added us)
all_onto_writable [] us p q = q
all_onto_writable (u ∷ added) us p q = onto_writable u (all_onto added us) p.0 (all_onto_writable added us p.1 q)

-- ---- units that are written while others are taken

pub out_of : (old new : Merging) (made : List ℕ) (added : List UnitValue) → TakesUnits old new added → TakesOut old new made made added
out_of old new made added t = record { written = []; lines = adds_none made refl; units = t.units }

pub out_append : (old mid new : Merging) (a b c : List ℕ) (xs ys : List UnitValue) → TakesOut old mid a b xs → TakesOut mid new b c ys → TakesOut old new a c (xs ++ ys)
out_append old mid new a b c xs ys s t = record {
  written = s.written ++ t.written;
  lines = adds_both (λ ps qs p q. WriteAll-append s.written t.written ps qs p q) s.lines t.lines;
  units = λ us. append_assoc s.written t.written (all_units_then new us) ∙ ap (λ r. s.written ++ r) (t.units us) ∙ s.units (all_onto ys us) ∙ ap (all_units_then old) (sym (all_onto-append xs ys us));
}

-- text after units
pub out_text : (old mid new : Merging) (a b : List ℕ) (xs ys : List UnitValue) → TakesOut old mid a b xs → TakesUnits mid new ys → TakesOut old new a b (xs ++ ys)
out_text old mid new a b xs ys s t = out_append old mid new a b b xs ys s (out_of mid new b ys t)

pub fresh_end : (m : Merging) → IsMerging m [] [] → CanEnd m
fresh_end m is = λ us w. rw (is.done_is, is.text_is) w

pub end_after : (old new : Merging) (a b : List ℕ) (added : List UnitValue) → TakesOut old new a b added → AreWritable added → CanEnd old → CanEnd new
end_after old new a b added t w can = λ us more. all-back IsWritable t.written (all_units_then new us) (subst AreWritable (sym (t.units us)) (can (all_onto added us) (all_onto_writable added us w more)))

pub done_writable : (m : Merging) (done : List UnitValue) → done ≡ done_values m → CanEnd m → AreWritable done
done_writable m done e can = subst AreWritable (sym e) (all-front IsWritable (done_values m) (with_text m.text.items []) (can [] tt))

pub drained : (old new : Merging) (a b : List ℕ) (done : List UnitValue) → done ≡ done_values old → IsMerging new [] old.text.items → AddsLines (WriteAll done) a b → TakesOut old new a b []
drained old new a b done e is lines = record { written = done; lines = lines; units = λ us. rw (e, is.done_is, is.text_is) refl }

pub said_taken : (old mid new : Merging) (a b : List ℕ) (said : List UnitValue) → TakesUnits old mid said → TakesOut mid new a b [] → TakesOut old new a b said
said_taken old mid new a b said t d = subst (TakesOut old new a b) (append-nil said) (out_append old mid new a a b said [] (out_of old mid a said t) d)

-- all units were written
pub all_written : (fresh new : Merging) (a b c : List ℕ) (added : List UnitValue) → IsMerging fresh [] [] → TakesOut fresh new a b added → AddsLines (WriteAll (all_units_then new [])) b c → AddsLines (WriteAll (merged added)) a c
all_written fresh new a b c added is t rest =
    let all : t.written ++ all_units_then new [] ≡ merged added = t.units [] ∙ rw (is.done_is, is.text_is) (all_onto-merged added) in
    adds_both (λ xs ys p q. subst (λ us. WriteAll us (xs ++ ys)) all (WriteAll-append t.written (all_units_then new []) xs ys p q)) t.lines rest

-- ---- a phrase

-- the units of the first tokens were taken
pub record TakesStream (all : List TokenValue) (old new : Merging) (a b : List ℕ) (r : PhraseReader) (rest : List TokenValue) : Type 0 where
  pub given : List UnitValue
  pub streams : Streams all r rest given
  pub takes : TakesOut old new a b given
  pub ends : CanEnd new

pub takes_start : (ts : List TokenValue) (m : Merging) (made : List ℕ) (r : PhraseReader) → IsPhrase ts → IsFreshReader r → CanEnd m → TakesStream ts m m made made r ts
takes_start ts m made r is fresh can = record { given = []; streams = stream_start ts r is fresh; takes = out_of m m made [] (takes_none m); ends = can }

pub takes_can : (all : List TokenValue) (old mid : Merging) (a b : List ℕ) (r n : PhraseReader) (rest following : List TokenValue) (t : TokenValue) (said : List UnitValue) → AllByRecursion IsUtf8Item (phrase_items all)
    → TakesStream all old mid a b r rest → rest ≡ t ∷ following → ReadsToken r n t following said → AreWritable said
takes_can all old mid a b r n rest following t said utf8 s e read = said_writable all following n s.given said utf8 (stream_turn all rest following t r n s.given said s.streams e read)

pub takes_turn : (all : List TokenValue) (old mid new : Merging) (a b c : List ℕ) (r n : PhraseReader) (rest following : List TokenValue) (t : TokenValue) (said : List UnitValue) → AllByRecursion IsUtf8Item (phrase_items all)
    → TakesStream all old mid a b r rest → rest ≡ t ∷ following → ReadsToken r n t following said → TakesOut mid new b c said → TakesStream all old new a c n following
takes_turn all old mid new a b c r n rest following t said utf8 s e read o = record {
  given = s.given ++ said;
  streams = stream_turn all rest following t r n s.given said s.streams e read;
  takes = out_append old mid new a b c s.given said s.takes o;
  ends = end_after mid new b c said o (takes_can all old mid a b r n rest following t said utf8 s e read) s.ends;
}

pub takes_last : (all : List TokenValue) (old mid : Merging) (a b : List ℕ) (r : PhraseReader) (rest : List TokenValue) (last : List UnitValue) → AllByRecursion IsUtf8Item (phrase_items all) → TakesStream all old mid a b r rest
    → rest ≡ [] → last ≡ all_units_then r.units [] → AreWritable last
takes_last all old mid a b r rest last utf8 s e is = last_writable all s.given last utf8 (stream_end all rest r s.given last s.streams e is)

pub takes_end : (all : List TokenValue) (old mid new : Merging) (a b c : List ℕ) (r : PhraseReader) (rest : List TokenValue) (last : List UnitValue) → TakesStream all old mid a b r rest → rest ≡ []
    → last ≡ all_units_then r.units [] → TakesOut mid new b c last → TakesPhrase old new a c all
takes_end all old mid new a b c r rest last s e is o =
    record { said = s.given ++ last; has_units = stream_end all rest r s.given last s.streams e is; takes = out_append old mid new a b c s.given last s.takes o }

-- ---- what functions take

-- the units of a mailbox's phrase
pub display_taken : (ts before following : List TokenValue) (m : FoundMailbox) (display : List UnitValue) (old new : Merging) (a b : List ℕ) → SplitsAt 60 ts before following → m.phrase ≡ true → IsMailbox ts (found_value m display)
    → TakesPhrase old new a b before → TakesDisplay old new a b ts m
display_taken ts before following m display old new a b s phrase is t =
    record { display = t.said; is_mailbox = display_read ts before following m display t.said s phrase is t.has_units; takes = t.takes }

pub bare_not_served : (ts : List TokenValue) (m : FoundMailbox) (display : List UnitValue) (old new : Merging) (a : List ℕ) → m.phrase ≡ false → IsMailbox ts (found_value m display)
    → TakesUnits old new (Text (address_text m.address) ∷ []) → TakesNotServed old new a a ts m
bare_not_served ts m display old new a bare is t = record {
  display = [];
  is_mailbox = display_none ts m display [] bare refl is;
  takes = subst (λ b. TakesOut old new a a (cond b (Text (32 ∷ []) ∷ []) [] ++ Text (address_text m.address) ∷ [])) (sym bare) (out_of old new a (Text (address_text m.address) ∷ []) t);
}

pub named_not_served : (ts : List TokenValue) (m : FoundMailbox) (old mid more new : Merging) (a b : List ℕ) → m.phrase ≡ true → TakesDisplay old mid a b ts m → TakesUnits mid more (Text (32 ∷ []) ∷ [])
    → TakesUnits more new (Text (address_text m.address) ∷ []) → TakesNotServed old new a b ts m
named_not_served ts m old mid more new a b phrase d s t = record {
  display = d.display;
  is_mailbox = d.is_mailbox;
  takes = subst (λ p. TakesOut old new a b ((d.display ++ cond p (Text (32 ∷ []) ∷ []) []) ++ Text (address_text m.address) ∷ [])) (sym phrase)
      (out_text old more new a b (d.display ++ Text (32 ∷ []) ∷ []) (Text (address_text m.address) ∷ []) (out_text old mid more a b d.display (Text (32 ∷ []) ∷ []) d.takes s) t);
}

pub member_bare : (ts : List TokenValue) (m : FoundMailbox) (display : List UnitValue) (old new : Merging) (a : List ℕ) → m.phrase ≡ false → IsMailbox ts (found_value m display)
    → TakesUnits old new (Text (address_text m.address) ∷ []) → TakesMember old new a a ts
member_bare ts m display old new a bare is t =
    record { member = found_value m display; is_mailbox = is; takes = rw (bare) (out_of old new a (Text (address_text m.address) ∷ []) t) }

pub member_named : (ts : List TokenValue) (m : FoundMailbox) (old mid more most new : Merging) (a b : List ℕ) → m.phrase ≡ true → TakesDisplay old mid a b ts m → TakesUnits mid more (Text (codes " <") ∷ [])
    → TakesUnits more most (Text (address_text m.address) ∷ []) → TakesUnits most new (Text (codes ">") ∷ []) → TakesMember old new a b ts
member_named ts m old mid more most new a b phrase d t u v = record {
  member = found_value m d.display;
  is_mailbox = d.is_mailbox;
  takes = rw (phrase) (out_text old mid new a b d.display (Text (codes " <") ∷ Text (address_text m.address) ∷ Text (codes ">") ∷ []) d.takes
      (takes_append mid more new (Text (codes " <") ∷ []) (Text (address_text m.address) ∷ Text (codes ">") ∷ []) t (takes_append more most new (Text (address_text m.address) ∷ []) (Text (codes ">") ∷ []) u v)));
}

-- some members were taken, and rest is left
pub record TakesSoFar (old new : Merging) (a b : List ℕ) (ts rest : List TokenValue) : Type 0 where
  pub done : List MailboxValue
  pub reads : ReadsParts IsOneMailbox ts done rest
  pub takes : TakesOut old new a b (units_before done)
  pub can : CanBeWritten rest
  pub left : AreSomeMailboxes rest
  pub ends : CanEnd new

pub members_none : (m : Merging) (made : List ℕ) (ts : List TokenValue) → CanBeWritten ts → AreSomeMailboxes ts → CanEnd m → TakesSoFar m m made made ts ts
members_none m made ts can left ends = record { done = []; reads = parts_start IsOneMailbox ts [] refl; takes = out_of m m made [] (takes_none m); can = can; left = left; ends = ends }

-- a member and a comma
comma_taken : (part : List TokenValue) (mid more new : Merging) (b c : List ℕ) → (t : TakesMember mid more b c part) → TakesUnits more new (Text (codes ", ") ∷ []) → TakesOut mid new b c (member_units t.member ++ Text (codes ", ") ∷ [])
comma_taken part mid more new b c t u = out_text mid more new b c (member_units t.member) (Text (codes ", ") ∷ []) t.takes u

pub members_more : (ts rest part after : List TokenValue) (old mid more new : Merging) (a b c : List ℕ) → TakesSoFar old mid a b ts rest → SplitsPlace rest part after → TakesMember mid more b c part
    → TakesUnits more new (Text (codes ", ") ∷ []) → TakesSoFar old new a c ts after
members_more ts rest part after old mid more new a b c s p t u =
    let taken = comma_taken part mid more new b c t u in
    let w : AreWritable (member_units t.member ++ Text (codes ", ") ∷ [])
    = writable_append (member_units t.member) (Text (codes ", ") ∷ []) (member_writable t.member (mailbox_writable part t.member (before_can rest part after p.comma p.whole s.can) t.is_mailbox)) (ascii_writable (codes ", ") refl, tt) in
    record {
      done = s.done ++ t.member ∷ [];
      reads = parts_turn IsOneMailbox one_walked ts rest part after s.done (t.member ∷ []) (s.done ++ t.member ∷ []) s.reads p t.is_mailbox refl;
      takes = subst (TakesOut old new a c) (sym (units_before-more s.done t.member)) (out_append old mid new a b c (units_before s.done) (member_units t.member ++ Text (codes ", ") ∷ []) s.takes taken);
      can = following_can rest part after p.comma p.whole s.can;
      left = members_left rest part after s.left p;
      ends = end_after mid new b c (member_units t.member ++ Text (codes ", ") ∷ []) taken w s.ends;
    }

pub members_taken : (ts rest : List TokenValue) (old mid new : Merging) (a b c : List ℕ) → TakesSoFar old mid a b ts rest → TakesMember mid new b c rest → TakesMembers old new a c ts
members_taken ts rest old mid new a b c s t = record {
  members = s.done ++ t.member ∷ [];
  are_members = parts_end IsOneMailbox ts rest s.done (t.member ∷ []) (s.done ++ t.member ∷ []) s.reads t.is_mailbox refl;
  takes = subst (TakesOut old new a c) (sym (members_units-last s.done t.member)) (out_append old mid new a b c (units_before s.done) (member_units t.member) s.takes t.takes);
}

-- ---- whole units

pub mailbox_end : (ts : List TokenValue) (m : FoundMailbox) (fresh new : Merging) (a b : List ℕ) → CanBeWritten ts → IsMerging fresh [] [] → TakesNotServed fresh new a b ts m → CanEnd new
mailbox_end ts m fresh new a b can is t =
    end_after fresh new a b _ t.takes (not_served_writable (found_value m t.display) (mailbox_writable ts (found_value m t.display) can t.is_mailbox)) (fresh_end fresh is)

pub mailbox_written : (ts : List TokenValue) (m : FoundMailbox) (fresh new : Merging) (a b c : List ℕ) → IsMerging fresh [] [] → TakesNotServed fresh new a b ts m → AddsLines (WriteAll (all_units_then new [])) b c
    → AddsLines (GivesMailboxUnits ts m) a c
mailbox_written ts m fresh new a b c is t rest = adds_as (λ xs p. record { display = t.display; is_mailbox = t.is_mailbox; write = p }) (all_written fresh new a b c _ is t.takes rest)

-- the name and a space
pub name_end : (name : List TokenValue) (fresh mid more : Merging) (a b : List ℕ) → CanBeWritten name → IsMerging fresh [] [] → TakesPhrase fresh mid a b name → TakesUnits mid more (Text (32 ∷ []) ∷ []) → CanEnd more
name_end name fresh mid more a b can is p s =
    end_after fresh more a b (p.said ++ Text (32 ∷ []) ∷ []) (out_text fresh mid more a b p.said (Text (32 ∷ []) ∷ []) p.takes s)
    (writable_append p.said (Text (32 ∷ []) ∷ []) (HasPhraseUnits-writable (phrase_items name) p.said can.items p.has_units) (ascii_writable (32 ∷ []) refl, tt)) (fresh_end fresh is)

pub group_end : (inner : List TokenValue) (more new : Merging) (b c : List ℕ) → CanBeWritten inner → CanEnd more → TakesMembers more new b c inner → CanEnd new
group_end inner more new b c can ends t = end_after more new b c (members_units t.members) t.takes (members_units_writable t.members (members_writable inner t.members can (inr t.are_members))) ends

pub group_written : (name inner : List TokenValue) (fresh mid more new : Merging) (a b c d : List ℕ) → IsMerging fresh [] [] → TakesPhrase fresh mid a b name → TakesUnits mid more (Text (32 ∷ []) ∷ []) → TakesMembers more new b c inner
    → AddsLines (WriteAll (all_units_then new [])) c d → AddsLines (GivesGroupUnits name inner) a d
group_written name inner fresh mid more new a b c d is p s t rest =
    let following : TakesOut mid new b c (Text (32 ∷ []) ∷ members_units t.members) = out_append mid more new b b c (Text (32 ∷ []) ∷ []) (members_units t.members) (out_of mid more b (Text (32 ∷ []) ∷ []) s) t.takes in
    adds_as (λ xs q. record { said = p.said; has_units = p.has_units; members = t.members; are_members = t.are_members; write = q })
    (all_written fresh new a c d (p.said ++ Text (32 ∷ []) ∷ members_units t.members) is (out_append fresh mid new a b c p.said (Text (32 ∷ []) ∷ members_units t.members) p.takes following) rest)
