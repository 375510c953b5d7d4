-- Whether all addresses of a group can be served.
use Rattle.std.proofs.Common.{◌≡◌, ℕ, Bool, true, false, ◌&&◌, inl, inr, List, [], ◌∷◌, ◌++◌, Option, Some, None, is_some, refl, sym, ap, ◌∙◌}
use Rattle.std.proofs.lemmas.List.Folds.{list_all-append}
use Rattle.std.specs.List.{list_all}
use Rattle.mail_wire.specs.Octets.{is_ascii}
use Rattle.encoded_words.proofs.AllUnits.{HasPhraseUnits-some}
use Rattle.encoded_words.proofs.Reading.{and_true}
use Rattle.field_tokens.specs.Tokens.{TokenValue}
use Rattle.address_grammar.specs.declared.Address.{Address}
use Rattle.address_grammar.specs.private.Lexemes.{are_blank, SplitsAt}
use Rattle.address_grammar.specs.private.ListSteps.{SaysGroup}
use Rattle.address_grammar.specs.private.Walks.{SplitsPlace, IsLastPlace}
use Rattle.address_grammar.specs.Phrases.{IsPhrase, phrase_items}
use Rattle.address_grammar.specs.AddressLists.{AreDivided, MailboxValue, IsOneMailbox, ElementValue, One, Group}
use Rattle.address_grammar.proofs.DividedLemmas.{ReadsParts, parts_start, parts_turn, parts_end, parts_stuck, parts_stuck_last}
use Rattle.address_grammar.proofs.ListLemmas.{one_walked}
use Rattle.address_lists.specs.ListPieces.{served_domain, with_domain, served_address, has_served_address}
use Rattle.address_lists.specs.private.ListWriting.{CanBeWritten, TellsServed, AreServed, AreServedMembers, IsServedGroupBy}
use Rattle.address_lists.proofs.WritableTokens.{following_can}

-- the first members were read, and rest is left
pub record ServedSoFar (ts : List TokenValue) (are : Bool) (rest : List TokenValue) : Type 0 where
  pub done : List MailboxValue
  pub reads : ReadsParts IsOneMailbox ts done rest
  pub served : are ≡ list_all has_served_address done
  pub can : CanBeWritten rest

pub served_start : (ts : List TokenValue) → CanBeWritten ts → ServedSoFar ts true ts
served_start ts can = record { done = []; reads = parts_start IsOneMailbox ts [] refl; served = refl; can = can }

one_more : (done : List MailboxValue) (m : MailboxValue) (are is : Bool) → are ≡ list_all has_served_address done → is ≡ has_served_address m → (are && is) ≡ list_all has_served_address (done ++ m ∷ [])
one_more done m are is e f = ap (λ b. b && is) e ∙ ap (λ b. list_all has_served_address done && b) (f ∙ sym (and_true (has_served_address m))) ∙ sym (list_all-append has_served_address done (m ∷ []))

pub served_turn : (ts rest part after : List TokenValue) (are is : Bool) → ServedSoFar ts are rest → SplitsPlace rest part after → TellsServed part is → ServedSoFar ts (are && is) after
served_turn ts rest part after are is s p served = record {
  done = s.done ++ served.0 ∷ [];
  reads = parts_turn IsOneMailbox one_walked ts rest part after s.done (served.0 ∷ []) (s.done ++ served.0 ∷ []) s.reads p served.1 refl;
  served = one_more s.done served.0 are is s.served served.2;
  can = following_can rest part after p.comma p.whole s.can;
}

pub served_end : (ts rest : List TokenValue) (are is : Bool) → ServedSoFar ts are rest → TellsServed rest is → AreServed ts (are && is)
served_end ts rest are is s served = record {
  members = s.done ++ served.0 ∷ [];
  are_members = parts_end IsOneMailbox ts rest s.done (served.0 ∷ []) (s.done ++ served.0 ∷ []) s.reads served.1 refl;
  served = one_more s.done served.0 are is s.served served.2;
}

pub served_stuck : (ts rest part after : List TokenValue) (are : Bool) → ServedSoFar ts are rest → SplitsPlace rest part after → ((ms : List MailboxValue) → IsOneMailbox part ms → ⊥)
    → (ms : List MailboxValue) → AreDivided IsOneMailbox ts ms → ⊥
served_stuck ts rest part after are s p none = parts_stuck IsOneMailbox one_walked ts rest part after s.done s.reads p none

pub served_stuck_last : (ts rest : List TokenValue) (are : Bool) → ServedSoFar ts are rest → IsLastPlace rest → ((ms : List MailboxValue) → IsOneMailbox rest ms → ⊥) → (ms : List MailboxValue) → AreDivided IsOneMailbox ts ms → ⊥
served_stuck_last ts rest are s last none = parts_stuck_last IsOneMailbox one_walked ts rest s.done s.reads last none

pub no_members_served : (ts : List TokenValue) → are_blank ts ≡ true → AreServedMembers ts true
no_members_served ts blank = record { members = []; are_members = inl (blank, refl); served = refl }

pub members_served : (ts : List TokenValue) (is : Bool) → AreServed ts is → AreServedMembers ts is
members_served ts is s = record { members = s.members; are_members = inr s.are_members; served = s.served }

pub group_served : (before following inner after : List TokenValue) (is : Bool) → SplitsAt 59 following inner after → are_blank after ≡ true → IsPhrase before → AreServedMembers inner is → IsServedGroupBy before following is
group_served before following inner after is s blank phrase m =
    let units = HasPhraseUnits-some (phrase_items before) in
    record {
      name = units.0;
      members = m.members;
      group = record { inner = inner; semicolon = s.at; after = after; whole = s.whole; is_semicolon = s.is_at; nothing_after = blank; is_phrase = phrase; says = units.1; are_members = m.are_members };
      served = m.served;
    }

-- a name that is no phrase names no group
pub group_unnamed : (before following : List TokenValue) → (IsPhrase before → ⊥) → (e : ElementValue) → SaysGroup before following e → ⊥
group_unnamed before following none (One m) is = is
group_unnamed before following none (Group name ms) is = none is.is_phrase

-- ---- one address

pub local_not_served : (a : Address) → list_all is_ascii a.local ≡ false → false ≡ is_some (served_address a)
local_not_served a h = rw (h) refl

pub ascii_own : (a : Address) → list_all is_ascii a.local ≡ true → list_all is_ascii a.domain ≡ true → served_address a ≡ Some a
ascii_own a h i = rw (h, i) refl

pub domain_ascii : (a : Address) → list_all is_ascii a.local ≡ true → list_all is_ascii a.domain ≡ true → true ≡ is_some (served_address a)
domain_ascii a h i = rw (h, i) refl

pub domain_served : (a : Address) (found : Option (List ℕ)) → list_all is_ascii a.local ≡ true → found ≡ served_domain a.domain → is_some found ≡ is_some (served_address a)
domain_served a found h e = rw (h, ← e) (by found)
  where
    by : (o : Option (List ℕ)) → is_some o ≡ is_some (with_domain a.local o)
    by None = refl
    by (Some domain) = refl
