-- A group without members that stands for what can't be served.
use Rattle.std.proofs.Common.{◌≡◌, ℕ, ◌<◌, Bool, true, false, inl, inr, List, [], ◌∷◌, ◌++◌, length, codes, if◌then◌else◌, refl, sym, ap, ◌∙◌, subst, arith}
use Rattle.std.proofs.lemmas.List.{append_assoc, length-append}
use Rattle.std.proofs.lemmas.Str.{IsUtf8-append}
use Rattle.std.specs.List.{AllByRecursion}
use Rattle.std.specs.Str.{IsUtf8}
use Rattle.mail_wire.proofs.AllLemmas.{all-append}
use Rattle.encoded_words.specs.Words.{UnitValue, Text, Opaque}
use Rattle.encoded_words.specs.Units.{with_text, merged}
use Rattle.encoded_words.specs.PhraseUnits.{HasPhraseUnits}
use Rattle.encoded_words.specs.Written.{WriteAll, AreUnits, IsWritable, AreWritable}
use Rattle.encoded_words.proofs.PhraseSources.{SourceHas, HasPhraseUnits-sources, merged_have}
use Rattle.encoded_words.proofs.WithText.{AreUnits-merged}
use Rattle.encoded_words.proofs.WritableUnits.{HasPhraseUnits-writable, merged_writable}
use Rattle.field_tokens.specs.Tokens.{TokenValue}
use Rattle.field_tokens.specs.Squeezed.{comments_of, space}
use Rattle.field_tokens.specs.Comments.{CommentValue, CommentsSay, CommentsPieces}
use Rattle.field_tokens.proofs.Parts.{comments_of-append}
use Rattle.field_tokens.proofs.TokenLines.{ascii_line}
use Rattle.address_grammar.specs.declared.Address.{Address}
use Rattle.address_grammar.specs.Addresses.{IsAddress, local_text, address_text}
use Rattle.address_grammar.specs.Phrases.{phrase_items, SaysPhrase}
use Rattle.address_lists.specs.PhrasePieces.{UnitsPieces}
use Rattle.address_grammar.specs.AddressLists.{Divided, MailboxValue, IsRoutedOrNot, IsMailbox, SayParts, IsOneMailbox, AreMembers, IsGroup}
use Rattle.address_lists.specs.ListPieces.{mailbox_units, member_units, members_units, group_units, no_members}
use Rattle.address_grammar.proofs.SoundLemmas.{IsSound, sound_front, sound_rest, contents_utf8, contents_line}
use Rattle.address_lists.proofs.SoundPhrases.{AreAtomOctets, sound_items, sound_atoms}
use Rattle.address_grammar.proofs.WritingLemmas.{local_line, mark}
use Rattle.address_lists.proofs.PhrasesAgain.{phrase_before, units_before, units_head}
use Rattle.address_lists.proofs.MadeTokens.{AreMade, made_two, made_none, MadePhrase, head_phrase, AreCommentsOfLine, comments_after}

-- ---- units

-- units that can be written, and whose opaque ones come from atoms
pub record AreSoundUnits (us : List UnitValue) : Type 0 where
  pub can : AreWritable us
  pub have : AllByRecursion (SourceHas AreAtomOctets) us

units_append : (us vs : List UnitValue) → AreSoundUnits us → AreSoundUnits vs → AreSoundUnits (us ++ vs)
units_append us vs a b = record { can = all-append IsWritable us vs a.can b.can; have = all-append (SourceHas AreAtomOctets) us vs a.have b.have }

no_sound_units : AreSoundUnits []
no_sound_units = record { can = tt; have = tt }

text_before : (octets : List ℕ) (us : List UnitValue) → IsUtf8 octets → AreSoundUnits us → AreSoundUnits (Text octets ∷ us)
text_before octets us u a = record { can = (u, a.can); have = (tt, a.have) }

phrase_units : (ts : List TokenValue) (us : List UnitValue) → AllByRecursion IsSound ts → HasPhraseUnits (phrase_items ts) us → AreSoundUnits us
phrase_units ts us sound has = record {
  can = HasPhraseUnits-writable (phrase_items ts) us (sound_items ts sound) has;
  have = HasPhraseUnits-sources AreAtomOctets (phrase_items ts) us (sound_atoms ts sound) has;
}

says_units : (ts : List TokenValue) (phrase : Bool) (us : List UnitValue) → AllByRecursion IsSound ts → SaysPhrase ts phrase us → AreSoundUnits us
says_units ts true us sound says = phrase_units ts us sound says.1
says_units ts false us sound says = rw (says.1) no_sound_units

-- ---- what mailboxes give

-- the units and the address of a mailbox in a text
pub record IsSoundMailbox (m : MailboxValue) : Type 0 where
  pub units : AreSoundUnits m.display
  pub address : IsUtf8 (address_text m.address)

address_utf8 : (ts : List TokenValue) (a : Address) → AllByRecursion IsSound ts → IsAddress ts a → IsUtf8 (address_text a)
address_utf8 ts a sound is =
    let all : AllByRecursion IsSound (is.local ++ is.at ∷ is.domain) = rw (is.whole) at sound in
    let local = sound_front is.local (is.at ∷ is.domain) all in
    let domain = (sound_rest is.local (is.at ∷ is.domain) all).1 in
    let front : IsUtf8 (local_text a.local) = (local_line a.local (rw (is.local_says) (record { utf8 = contents_utf8 is.local local; plain = contents_line is.local local }))).utf8 in
    let following : IsUtf8 a.domain = rw (is.domain_says) (contents_utf8 is.domain domain) in
    IsUtf8-append (local_text a.local) (64 ∷ a.domain) front (IsUtf8-append (64 ∷ []) a.domain (ascii_line (64 ∷ []) refl refl).utf8 following)

routed_utf8 : (ts : List TokenValue) (a : Address) → AllByRecursion IsSound ts → IsRoutedOrNot ts a → IsUtf8 (address_text a)
routed_utf8 ts a sound (inl is) = address_utf8 ts a sound is
routed_utf8 ts a sound (inr is) = address_utf8 is.following a (sound_rest is.route (is.colon ∷ is.following) (rw (is.whole) at sound)).1 is.is_address

pub mailbox_sound : (ts : List TokenValue) (m : MailboxValue) → AllByRecursion IsSound ts → IsMailbox ts m → IsSoundMailbox m
mailbox_sound ts m sound (inl is) = record { units = rw (is.display) no_sound_units; address = address_utf8 ts m.address sound is.is_address }
mailbox_sound ts m sound (inr is) =
    let all : AllByRecursion IsSound (is.before ++ is.angled.open_mark ∷ (is.inner ++ is.angled.close_mark ∷ is.angled.after)) = rw (is.angled.whole) at sound in
    let following = (sound_rest is.before (is.angled.open_mark ∷ (is.inner ++ is.angled.close_mark ∷ is.angled.after)) all).1 in
    record {
      units = says_units is.before m.phrase m.display (sound_front is.before (is.angled.open_mark ∷ (is.inner ++ is.angled.close_mark ∷ is.angled.after)) all) is.named.says;
      address = routed_utf8 is.inner m.address (sound_front is.inner (is.angled.close_mark ∷ is.angled.after) following) is.named.address;
    }

one_sound : (ts : List TokenValue) (ms : List MailboxValue) → AllByRecursion IsSound ts → IsOneMailbox ts ms → AllByRecursion IsSoundMailbox ms
one_sound ts [] sound is = tt
one_sound ts (m ∷ []) sound is = (mailbox_sound ts m sound is, tt)
one_sound ts (m ∷ n ∷ ms) sound is = absurd is

parts_sound : (parts : List (List TokenValue)) (ts : List TokenValue) (ms : List MailboxValue) → AllByRecursion IsSound ts → Divided 44 parts ts → SayParts IsOneMailbox parts ms → AllByRecursion IsSoundMailbox ms
parts_sound [] ts ms sound d say = absurd d
parts_sound (p ∷ []) ts ms sound d say =
    rw (say.2) (all-append IsSoundMailbox say.0 say.1 (one_sound p say.0 (rw (d) at sound) say.3) (rw (say.4) tt))
parts_sound (p ∷ n ∷ parts) ts ms sound d say =
    let all : AllByRecursion IsSound (p ++ d.0 ∷ d.1) = rw (d.2) at sound in
    rw (say.2) (all-append IsSoundMailbox say.0 say.1 (one_sound p say.0 (sound_front p (d.0 ∷ d.1) all) say.3) (parts_sound (n ∷ parts) d.1 say.1 (sound_rest p (d.0 ∷ d.1) all).1 d.4 say.4))

pub members_sound : (ts : List TokenValue) (ms : List MailboxValue) → AllByRecursion IsSound ts → AreMembers ts ms → AllByRecursion IsSoundMailbox ms
members_sound ts ms sound (inl none) = rw (none.1) tt
members_sound ts ms sound (inr d) = parts_sound d.parts ts ms sound d.divided d.say

-- ---- units that stand for them

-- something is said
with_text_there : (bs : List ℕ) (us : List UnitValue) → 0 < length us → 0 < length (with_text bs us)
with_text_there [] us some = some
with_text_there (b ∷ bs) [] some = omega arith
with_text_there (b ∷ bs) (Text more ∷ us) some = omega arith
with_text_there (b ∷ bs) (Opaque charset octets source ∷ us) some = omega arith

text_there : (b : ℕ) (bs : List ℕ) (us : List UnitValue) → 0 < length (with_text (b ∷ bs) us)
text_there b bs [] = omega arith
text_there b bs (Text more ∷ us) = omega arith
text_there b bs (Opaque charset octets source ∷ us) = omega arith

merged_there : (us vs : List UnitValue) → 0 < length (merged vs) → 0 < length (merged (us ++ vs))
merged_there [] vs some = some
merged_there (Text bs ∷ us) vs some = with_text_there bs (merged (us ++ vs)) (merged_there us vs some)
merged_there (Opaque charset octets source ∷ us) vs some = omega arith

-- units that stand for something
pub record StandInUnits (us : List UnitValue) : Type 0 where
  pub some : 0 < length us
  pub are_units : AreUnits us
  pub sound : AreSoundUnits us

merged_stand : (raw : List UnitValue) → 0 < length (merged raw) → AreSoundUnits raw → StandInUnits (merged raw)
merged_stand raw some sound = record {
  some = some;
  are_units = AreUnits-merged raw (merged raw) refl;
  sound = record { can = merged_writable raw sound.can; have = merged_have AreAtomOctets raw sound.have };
}

abbrev separator : Bool → List UnitValue
separator phrase = if phrase then Text (32 ∷ []) ∷ [] else []

space_unit : (us : List UnitValue) → AreSoundUnits us → AreSoundUnits (Text (32 ∷ []) ∷ us)
space_unit us sound = text_before (32 ∷ []) us (ascii_line (32 ∷ []) refl refl).utf8 sound

separator_sound : (phrase : Bool) → AreSoundUnits (separator phrase)
separator_sound true = space_unit [] no_sound_units
separator_sound false = no_sound_units

one_text : (octets : List ℕ) → 0 < length octets → 0 < length (merged (Text octets ∷ []))
one_text [] some = absurd (omega (arith, some))
one_text (b ∷ bs) some = omega arith

address_there : (a : Address) → 0 < length (address_text a)
address_there a = omega (arith, length-append (local_text a.local) (64 ∷ a.domain))

pub mailbox_stands : (m : MailboxValue) → IsSoundMailbox m → StandInUnits (mailbox_units m)
mailbox_stands m is =
    let last : List UnitValue = Text (address_text m.address) ∷ [] in
    let front : List UnitValue = m.display ++ separator m.phrase in
    merged_stand (front ++ last) (merged_there front last (one_text (address_text m.address) (address_there m.address)))
    (units_append front last (units_append m.display (separator m.phrase) is.units (separator_sound m.phrase)) (text_before (address_text m.address) [] is.address no_sound_units))

member_sound : (m : MailboxValue) → IsSoundMailbox m → AreSoundUnits (member_units m)
member_sound m is = by m.phrase
  where
    alone : AreSoundUnits (Text (address_text m.address) ∷ [])
    alone = text_before (address_text m.address) [] is.address no_sound_units

    angled : AreSoundUnits (Text (codes " <") ∷ Text (address_text m.address) ∷ Text (codes ">") ∷ [])
    angled = text_before (codes " <") (Text (address_text m.address) ∷ Text (codes ">") ∷ []) (ascii_line (codes " <") refl refl).utf8
        (text_before (address_text m.address) (Text (codes ">") ∷ []) is.address (text_before (codes ">") [] (ascii_line (codes ">") refl refl).utf8 no_sound_units))

    by : (phrase : Bool) → AreSoundUnits (if phrase then m.display ++ Text (codes " <") ∷ Text (address_text m.address) ∷ Text (codes ">") ∷ [] else Text (address_text m.address) ∷ [])
    by true = units_append m.display (Text (codes " <") ∷ Text (address_text m.address) ∷ Text (codes ">") ∷ []) is.units angled
    by false = alone

members_units_sound : (ms : List MailboxValue) → AllByRecursion IsSoundMailbox ms → AreSoundUnits (members_units ms)
members_units_sound [] all = no_sound_units
members_units_sound (m ∷ []) all = member_sound m all.0
members_units_sound (m ∷ n ∷ ms) all =
    units_append (member_units m) (Text (codes ", ") ∷ members_units (n ∷ ms)) (member_sound m all.0)
    (text_before (codes ", ") (members_units (n ∷ ms)) (ascii_line (codes ", ") refl refl).utf8 (members_units_sound (n ∷ ms) all.1))

pub group_stands : (ts : List TokenValue) (name : List UnitValue) (ms : List MailboxValue) → AllByRecursion IsSound ts → HasPhraseUnits (phrase_items ts) name → AllByRecursion IsSoundMailbox ms → StandInUnits (group_units name ms)
group_stands ts name ms sound has all =
    let following : List UnitValue = Text (32 ∷ []) ∷ members_units ms in
    merged_stand (name ++ following) (merged_there name following (text_there 32 [] (merged (members_units ms))))
    (units_append name following (phrase_units ts name sound has) (space_unit (members_units ms) (members_units_sound ms all)))

-- ---- the group

-- the pieces are a group of this name without members, and the comments after it
pub record IsEmptiedAgain (us : List UnitValue) (values : List CommentValue) (pieces : List (List ℕ)) : Type 0 where
  pub tokens : List TokenValue
  pub is_group : IsGroup tokens us []
  pub say : CommentsSay (comments_of tokens) values
  pub are_made : AreMade tokens pieces

words_phrase : (us : List UnitValue) (words : List (List ℕ)) → StandInUnits us → WriteAll us words → MadePhrase us [] words
words_phrase us words stand writes = head_phrase us [] words (units_head us words stand.are_units stand.sound.can stand.sound.have (by us stand.some writes))
  where
    by : (vs : List UnitValue) → 0 < length vs → WriteAll vs words → UnitsPieces vs words
    by [] some writes = absurd (omega (arith, some))
    by (v ∷ vs) some writes = writes

no_comments_said : (cs : List (List ℕ)) → CommentsSay cs [] → cs ≡ []
no_comments_said [] say = refl
no_comments_said (c ∷ cs) say = cc say.2

pub emptied_again : (us : List UnitValue) (words cs comments : List (List ℕ)) (values : List CommentValue) → StandInUnits us → WriteAll us words → AreCommentsOfLine cs → CommentsSay cs values → CommentsPieces cs comments
    → IsEmptiedAgain us values (words ++ no_members ∷ comments)
emptied_again us words cs comments values stand writes all say are =
    let name = words_phrase us words stand writes in
    let b = comments_after cs values comments all say are in
    let colon : List TokenValue = mark 58 ∷ mark 59 ∷ [] in
    let front : List TokenValue = name.tokens ++ space ∷ colon in
    let whole : front ++ b.tokens ≡ (name.tokens ++ space ∷ []) ++ mark 58 ∷ mark 59 ∷ b.tokens
    = append_assoc name.tokens (space ∷ colon) b.tokens ∙ sym (append_assoc name.tokens (space ∷ []) (mark 58 ∷ mark 59 ∷ b.tokens)) in
    let comments_are : comments_of (front ++ b.tokens) ≡ comments_of b.tokens
    = ap comments_of (append_assoc name.tokens (space ∷ colon) b.tokens) ∙ comments_of-append name.tokens (space ∷ mark 58 ∷ mark 59 ∷ b.tokens) ∙ ap (λ r. r ++ comments_of b.tokens) (no_comments_said (comments_of name.tokens) name.say) in
    record {
      tokens = front ++ b.tokens;
      is_group = record {
        before = name.tokens ++ space ∷ [];
        colon = mark 58;
        following = mark 59 ∷ b.tokens;
        whole = whole;
        is_colon = refl;
        group = record {
          inner = [];
          semicolon = mark 59;
          after = b.tokens;
          whole = refl;
          is_semicolon = refl;
          nothing_after = b.blank;
          is_phrase = phrase_before name.tokens (space ∷ []) name.is_phrase refl;
          says = units_before name.tokens (space ∷ []) us refl name.has_units;
          are_members = inl (refl, refl);
        };
      };
      say = subst (λ r. CommentsSay r values) (sym comments_are) b.say;
      are_made = rw (append_assoc words ((58 ∷ 59 ∷ []) ∷ []) comments) at (b.onto front (words ++ (58 ∷ 59 ∷ []) ∷ []) (made_two name.tokens colon words ((58 ∷ 59 ∷ []) ∷ []) name.are_made made_none));
    }
