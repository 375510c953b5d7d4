-- An address, a group and a list of addresses have one form at most.
use Rattle.std.proofs.Common.{◌≡◌, ℕ, Bool, true, false, inl, inr, List, ◌++◌, Option, Some, None, sym, ap, ◌∙◌, subst}
use Rattle.field_tokens.specs.Tokens.{TokenValue}
use Rattle.address_grammar.specs.private.Lexemes.{are_blank, SplitsAt}
use Rattle.address_grammar.specs.AddressLists.{MailboxValue, AreDivided, IsOneMailbox, Group}
use Rattle.address_grammar.proofs.DividedLemmas.{SaysOnce, divided_once}
use Rattle.address_grammar.proofs.ListLemmas.{IsMailbox-once, mailbox_no_name, group_name, mailbox_not_blank, members_not_blank, element_not_blank}
use Rattle.imap_views.specs.Addresses.{plain_text, IsPhraseName, address_form, IsMailboxForm, AreMemberForms, group_start, group_end, IsGroupForm, IsPlaceForm, HasForms, list_form, IsListForm, IsAddressesForm}
use Rattle.imap_views.proofs.AddressForms.{splits_once, form_one, group_of, mailbox_form_walked, place_form_walked, forms_of_tokens}
use Rattle.imap_views.proofs.DividedAgain.{divided_again}

name_once : (ts : List TokenValue) (phrase : Bool) (a b : Option (List ℕ)) → IsPhraseName ts phrase a → IsPhraseName ts phrase b → a ≡ b
name_once ts false a b p q = p ∙ sym q
name_once ts true a b p q =
    let cut = splits_once 60 ts p.0 p.1 q.0 q.1 p.2 q.2 in
    p.3 ∙ ap (λ phrase. Some (plain_text phrase)) cut.front ∙ sym q.3

pub mailbox_form_once : SaysOnce IsMailboxForm
mailbox_form_once ts a b p q =
    let same : p.mailbox ≡ q.mailbox = IsMailbox-once ts p.mailbox q.mailbox p.is_mailbox q.is_mailbox in
    let name : p.name ≡ q.name = name_once ts p.mailbox.phrase p.name q.name p.is_name (subst (λ (m : MailboxValue). IsPhraseName ts m.phrase q.name) (sym same) q.is_name) in
    p.text_is ∙ ap (λ name. address_form name p.mailbox.address) name ∙ ap (λ (m : MailboxValue). address_form q.name m.address) same ∙ sym q.text_is

-- ---- groups

forms_not_blank : (ts : List TokenValue) (text : List ℕ) → AreDivided IsMailboxForm ts text → are_blank ts ≡ true → ⊥
forms_not_blank ts text are blank = let said = divided_again IsMailboxForm IsOneMailbox form_one ts text are in members_not_blank ts said.0 said.1 blank

members_once : (ts : List TokenValue) (a b : List ℕ) → AreMemberForms ts a → AreMemberForms ts b → a ≡ b
members_once ts a b (inl p) (inl q) = p.1 ∙ sym q.1
members_once ts a b (inl p) (inr q) = absurd (forms_not_blank ts b q p.0)
members_once ts a b (inr p) (inl q) = absurd (forms_not_blank ts a p q.0)
members_once ts a b (inr p) (inr q) = divided_once IsMailboxForm mailbox_form_walked mailbox_form_once ts a b p q

group_form_once : (ts : List TokenValue) (a b : List ℕ) → IsGroupForm ts a → IsGroupForm ts b → a ≡ b
group_form_once ts a b p q =
    let cut = splits_once 58 ts p.before p.following q.before q.following p.named q.named in
    let end = splits_once 59 q.following p.inner p.after q.inner q.after (subst (λ following. SplitsAt 59 following p.inner p.after) cut.rest p.ended) q.ended in
    let members : p.members ≡ q.members = members_once q.inner p.members q.members (subst (λ inner. AreMemberForms inner p.members) end.front p.are_members) q.are_members in
    p.text_is ∙ ap (λ before. group_start (plain_text before) ++ (p.members ++ group_end)) cut.front
    ∙ ap (λ members. group_start (plain_text q.before) ++ (members ++ group_end)) members ∙ sym q.text_is

-- ---- places

group_not_blank : (ts : List TokenValue) (text : List ℕ) → IsGroupForm ts text → are_blank ts ≡ true → ⊥
group_not_blank ts text is blank = let group = group_of ts text is in element_not_blank ts (Group group.name group.members) group.is_group blank

not_both : (ts : List TokenValue) (a b : List ℕ) → IsMailboxForm ts a → IsGroupForm ts b → ⊥
not_both ts a b p q =
    let group = group_of ts b q in
    mailbox_no_name ts group.is_group.before group.is_group.following p.mailbox (group_name ts group.name group.members group.is_group) p.is_mailbox

pub place_form_once : SaysOnce IsPlaceForm
place_form_once ts a b (inl p) (inl q) = p.1 ∙ sym q.1
place_form_once ts a b (inl p) (inr (inl q)) = absurd (mailbox_not_blank ts q.mailbox q.is_mailbox p.0)
place_form_once ts a b (inl p) (inr (inr q)) = absurd (group_not_blank ts b q p.0)
place_form_once ts a b (inr (inl p)) (inl q) = absurd (mailbox_not_blank ts p.mailbox p.is_mailbox q.0)
place_form_once ts a b (inr (inl p)) (inr (inl q)) = mailbox_form_once ts a b p q
place_form_once ts a b (inr (inl p)) (inr (inr q)) = absurd (not_both ts a b p q)
place_form_once ts a b (inr (inr p)) (inl q) = absurd (group_not_blank ts a p q.0)
place_form_once ts a b (inr (inr p)) (inr (inl q)) = absurd (not_both ts b a q p)
place_form_once ts a b (inr (inr p)) (inr (inr q)) = group_form_once ts a b p q

-- ---- lists

pub forms_once : (value a b : List ℕ) → HasForms value a → HasForms value b → a ≡ b
forms_once value a b p q = divided_once IsPlaceForm place_form_walked place_form_once p.tokens a b p.are_forms (forms_of_tokens value p.tokens b p.has_tokens q)

list_form_once : (value a b : List ℕ) → IsListForm value a → IsListForm value b → a ≡ b
list_form_once value a b (inl p) (inl q) = p.2 ∙ ap list_form (forms_once value p.0 q.0 p.1 q.1) ∙ sym q.2
list_form_once value a b (inl p) (inr q) = absurd (q.0 p.0 p.1)
list_form_once value a b (inr p) (inl q) = absurd (p.0 q.0 q.1)
list_form_once value a b (inr p) (inr q) = p.1 ∙ sym q.1

pub addresses_form_once : (value : Option (List ℕ)) (a b : List ℕ) → IsAddressesForm value a → IsAddressesForm value b → a ≡ b
addresses_form_once None a b p q = p ∙ sym q
addresses_form_once (Some value) a b p q = list_form_once value a b p q
