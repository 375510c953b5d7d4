-- Whether a text is a list of addresses that has forms is decided, and so each value has a form.
use Rattle.std.proofs.Common.{ℕ, inl, inr, List, [], ◌∷◌, ◌++◌, Option, Some, None, refl}
use Rattle.encoded_words.specs.Words.{UnitValue}
use Rattle.field_tokens.specs.Tokens.{TokenValue}
use Rattle.field_tokens.specs.Squeezed.{comments_of}
use Rattle.field_tokens.proofs.CommentValues.{CommentsSay-some}
use Rattle.address_grammar.specs.AddressLists.{MailboxValue, IsMailbox, IsOneMailbox, AreMembers, One, Group, IsGroup, SaysPlace}
use Rattle.address_grammar.proofs.ListLemmas.{members_lack, group_name}
use Rattle.address_lists.proofs.SoundPhrases.{text_comments}
use Rattle.address_grammar.proofs.DecidePaths.{Found}
use Rattle.address_lists.proofs.DecideAddresses.{decide_addresses}
use Rattle.imap_views.specs.Strings.{nil}
use Rattle.imap_views.specs.Addresses.{plain_text, address_form, IsMailboxForm, AreMemberForms, group_start, group_end, IsGroupForm, IsPlaceForm, HasForms, list_form, IsListForm, IsAddressesForm}
use Rattle.imap_views.proofs.AddressForms.{mailbox_name, group_of}
use Rattle.imap_views.proofs.DividedAgain.{SaysAgain, divided_again}

-- ---- elements have forms

mailbox_given : (ts : List TokenValue) (m : MailboxValue) → IsMailbox ts m → (text : List ℕ) × IsMailboxForm ts text
mailbox_given ts m is =
    let name = mailbox_name ts m is in
    (address_form name.0 m.address, record { mailbox = m; is_mailbox = is; name = name.0; is_name = name.1; text_is = refl })

one_given : SaysAgain IsOneMailbox IsMailboxForm
one_given ts [] is = absurd is
one_given ts (m ∷ []) is = mailbox_given ts m is
one_given ts (m ∷ n ∷ ms) is = absurd is

members_given : SaysAgain AreMembers AreMemberForms
members_given ts ms (inl none) = ([], inl (none.0, refl))
members_given ts ms (inr are) = let forms = divided_again IsOneMailbox IsMailboxForm one_given ts ms are in (forms.0, inr forms.1)

group_given : (ts : List TokenValue) (name : List UnitValue) (ms : List MailboxValue) → IsGroup ts name ms → (text : List ℕ) × IsGroupForm ts text
group_given ts name ms is =
    let by = is.group in
    let members = members_given by.inner ms by.are_members in (
      group_start (plain_text is.before) ++ (members.0 ++ group_end),
      record {
        before = is.before;
        following = is.following;
        named = (group_name ts name ms is).splits;
        is_phrase = by.is_phrase;
        inner = by.inner;
        after = by.after;
        ended = record { at = by.semicolon; whole = by.whole; is_at = by.is_semicolon; first = members_lack by.inner ms by.are_members };
        nothing_after = by.nothing_after;
        members = members.0;
        are_members = members.1;
        text_is = refl;
      },
    )

place_given : SaysAgain SaysPlace IsPlaceForm
place_given ts [] is = ([], inl (is, refl))
place_given ts (One m ∷ []) is = let form = mailbox_given ts m is in (form.0, inr (inl form.1))
place_given ts (Group name ms ∷ []) is = let form = group_given ts name ms is in (form.0, inr (inr form.1))
place_given ts (e ∷ f ∷ es) is = absurd is

-- ---- forms are elements

place_says : SaysAgain IsPlaceForm SaysPlace
place_says ts text (inl none) = ([], none.0)
place_says ts text (inr (inl is)) = (One is.mailbox ∷ [], is.is_mailbox)
place_says ts text (inr (inr is)) = let group = group_of ts text is in (Group group.name group.members ∷ [], group.is_group)

-- ---- texts

pub decide_forms : (value : List ℕ) → Found (HasForms value)
decide_forms value = elim (decide_addresses value) [
  | inl found ↦
      let says = found.2 in
      let forms = divided_again SaysPlace IsPlaceForm place_given says.tokens found.0 says.are_elements in
      inl (forms.0, record { tokens = says.tokens; has_tokens = says.has; are_forms = forms.1 })
  | inr none ↦ inr (λ forms has.
      let elements = divided_again IsPlaceForm SaysPlace place_says has.tokens forms has.are_forms in
      let comments = CommentsSay-some (comments_of has.tokens) (text_comments value has.tokens has.has_tokens) in
      none elements.0 comments.0 (record { tokens = has.tokens; has = has.has_tokens; are_elements = elements.1; comments_say = comments.1 }))
]

list_form_given : (value : List ℕ) → (text : List ℕ) × IsListForm value text
list_form_given value = elim (decide_forms value) [
  | inl forms ↦ (list_form forms.0, inl (forms.0, forms.1, refl))
  | inr none ↦ (nil, inr (none, refl))
]

pub addresses_form_given : (value : Option (List ℕ)) → (text : List ℕ) × IsAddressesForm value text
addresses_form_given None = (nil, refl)
addresses_form_given (Some value) = list_form_given value
