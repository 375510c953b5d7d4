-- Which places of a list the forms of an envelope's addresses are, and where those end.
use Rattle.std.proofs.Common.{◌≡◌, ℕ, Bool, true, false, inl, inr, List, [], ◌∷◌, ◌++◌, Option, Some, None, refl, sym, ◌∙◌}
use Rattle.std.proofs.lemmas.Bool.{both_ways}
use Rattle.encoded_words.specs.Words.{UnitValue}
use Rattle.encoded_words.proofs.AllUnits.{HasPhraseUnits-some}
use Rattle.field_tokens.specs.Tokens.{TokenValue}
use Rattle.address_grammar.specs.private.Lexemes.{HasMailTokens, are_blank, lacks_special, SplitsAt}
use Rattle.address_grammar.specs.private.ListSteps.{SplitsName}
use Rattle.address_grammar.specs.Phrases.{phrase_items}
use Rattle.address_grammar.specs.AddressLists.{MailboxValue, IsMailbox, AreDivided, IsOneMailbox, AreMembers, One, Group, IsGroup}
use Rattle.address_grammar.proofs.DividedLemmas.{Walked}
use Rattle.address_grammar.proofs.LexemeLemmas.{SameCut, cut_once, not_lacking}
use Rattle.address_grammar.proofs.ListLemmas.{one_walked, place_walked, mailbox_no_name, group_name}
use Rattle.address_grammar.proofs.MailboxLemmas.{named_angles}
use Rattle.address_grammar.proofs.PathLemmas.{HasTokenValues-once}
use Rattle.imap_views.specs.Addresses.{plain_text, IsPhraseName, IsMailboxForm, AreMemberForms, IsGroupForm, IsPlaceForm, HasForms}
use Rattle.imap_views.proofs.DividedAgain.{divided_again}

-- tokens are split at a mark in one way
pub splits_once : (mark : ℕ) (ts a b c d : List TokenValue) (s : SplitsAt mark ts a b) (r : SplitsAt mark ts c d) → SameCut a c s.at r.at b d
splits_once mark ts a b c d s r = cut_once mark a c s.at r.at b d s.first r.first s.is_at r.is_at (sym s.whole ∙ r.whole)

-- where a mark is, it isn't lacking
pub split_lacks : (mark : ℕ) (ts a b : List TokenValue) → SplitsAt mark ts a b → lacks_special mark ts ≡ true → ⊥
split_lacks mark ts a b s l = not_lacking mark a b s.at s.is_at (rw (s.whole) at l)

-- ---- names

bare_name : (ts : List TokenValue) (phrase : Bool) → phrase ≡ false → (name : Option (List ℕ)) × IsPhraseName ts phrase name
bare_name ts phrase e = rw (e) (None, refl)

-- whatever is in angle brackets, what stands before them is a name or none
pub mailbox_name : (ts : List TokenValue) (m : MailboxValue) → IsMailbox ts m → (name : Option (List ℕ)) × IsPhraseName ts m.phrase name
mailbox_name ts m (inl is) = bare_name ts m.phrase is.phrase
mailbox_name ts m (inr is) = by m.phrase
  where
    splits : SplitsAt 60 ts is.before (is.inner ++ is.angled.close_mark ∷ is.angled.after)
    splits = record { at = is.angled.open_mark; whole = is.angled.whole; is_at = is.angled.opens; first = (named_angles ts m is).first_open }

    by : (phrase : Bool) → (name : Option (List ℕ)) × IsPhraseName ts phrase name
    by false = (None, refl)
    by true = (Some (plain_text is.before), (is.before, is.inner ++ is.angled.close_mark ∷ is.angled.after, splits, refl))

-- ---- forms are elements

pub form_one : (ts : List TokenValue) (text : List ℕ) → IsMailboxForm ts text → (ms : List MailboxValue) × IsOneMailbox ts ms
form_one ts text is = (is.mailbox ∷ [], is.is_mailbox)

members_of : (ts : List TokenValue) (text : List ℕ) → AreMemberForms ts text → (ms : List MailboxValue) × AreMembers ts ms
members_of ts text (inl none) = ([], inl (none.0, refl))
members_of ts text (inr d) = let said = divided_again IsMailboxForm IsOneMailbox form_one ts text d in (said.0, inr said.1)

-- the group of a form
pub record FormedGroup (ts : List TokenValue) : Type 0 where
  pub name : List UnitValue
  pub members : List MailboxValue
  pub is_group : IsGroup ts name members

pub group_of : (ts : List TokenValue) (text : List ℕ) → IsGroupForm ts text → FormedGroup ts
group_of ts text is =
    let units = HasPhraseUnits-some (phrase_items is.before) in
    let said = members_of is.inner is.members is.are_members in
    record {
      name = units.0;
      members = said.0;
      is_group = record {
        before = is.before;
        colon = is.named.at;
        following = is.following;
        whole = is.named.whole;
        is_colon = is.named.is_at;
        group = record {
          inner = is.inner;
          semicolon = is.ended.at;
          after = is.after;
          whole = is.ended.whole;
          is_semicolon = is.ended.is_at;
          nothing_after = is.nothing_after;
          is_phrase = is.is_phrase;
          says = units.1;
          are_members = said.1;
        };
      };
    }

-- ---- no place ends within a form

pub mailbox_form_walked : Walked IsMailboxForm
mailbox_form_walked ts text is = one_walked ts (is.mailbox ∷ []) is.is_mailbox

pub place_form_walked : Walked IsPlaceForm
place_form_walked ts text (inl none) = place_walked ts [] none.0
place_form_walked ts text (inr (inl is)) = place_walked ts (One is.mailbox ∷ []) is.is_mailbox
place_form_walked ts text (inr (inr is)) = let g = group_of ts text is in place_walked ts (Group g.name g.members ∷ []) g.is_group

-- ---- which form stands in a place

pub place_malformed_named : (ts before following : List TokenValue) → are_blank ts ≡ false → SplitsName ts before following → ((text : List ℕ) → IsGroupForm ts text → ⊥) → (text : List ℕ) → IsPlaceForm ts text → ⊥
place_malformed_named ts before following not_blank s none text (inl blank) = both_ways (are_blank ts) not_blank blank.0
place_malformed_named ts before following not_blank s none text (inr (inl is)) = mailbox_no_name ts before following is.mailbox s is.is_mailbox
place_malformed_named ts before following not_blank s none text (inr (inr is)) = none text is

pub place_malformed_unnamed : (ts : List TokenValue) → are_blank ts ≡ false → ((before following : List TokenValue) → SplitsName ts before following → ⊥) → ((text : List ℕ) → IsMailboxForm ts text → ⊥) → (text : List ℕ) → IsPlaceForm ts text → ⊥
place_malformed_unnamed ts not_blank unnamed none text (inl blank) = both_ways (are_blank ts) not_blank blank.0
place_malformed_unnamed ts not_blank unnamed none text (inr (inl is)) = none text is
place_malformed_unnamed ts not_blank unnamed none text (inr (inr is)) =
    let g = group_of ts text is in
    unnamed g.is_group.before g.is_group.following (group_name ts g.name g.members g.is_group)

-- members that are no mailboxes
pub members_malformed : (ts : List TokenValue) → are_blank ts ≡ false → ((text : List ℕ) → AreDivided IsMailboxForm ts text → ⊥) → (text : List ℕ) → AreMemberForms ts text → ⊥
members_malformed ts not_blank none text (inl blank) = both_ways (are_blank ts) not_blank blank.0
members_malformed ts not_blank none text (inr d) = none text d

-- the forms of a text are those of its tokens
pub forms_of_tokens : (text : List ℕ) (ts : List TokenValue) (forms : List ℕ) → HasMailTokens text ts → HasForms text forms → AreDivided IsPlaceForm ts forms
forms_of_tokens text ts forms tokens has = rw (HasTokenValues-once text ts has.tokens tokens has.has_tokens) has.are_forms
