-- A text is one list of addresses at most.
use Rattle.std.proofs.Common.{◌≡◌, ℕ, true, false, inl, inr, List, ap, ◌∙◌}
use Rattle.std.proofs.lemmas.Bool.{both_ways}
use Rattle.field_tokens.specs.declared.Style.TheVariants.{Mail}
use Rattle.field_tokens.specs.declared.Token.{Token}
use Rattle.field_tokens.specs.Tokens.{TokenValue, tokens_from, HasTokens}
use Rattle.field_tokens.specs.Trees.{Tree}
use Rattle.field_tokens.proofs.TokenLists.{AreTokens-once}
use Rattle.address_grammar.specs.declared.AddressList.{AddressList}
use Rattle.address_grammar.specs.private.Lexemes.{HasMailTokens, lacks_special, are_blank, SplitsAt}
use Rattle.address_grammar.specs.AddressLists.{MailboxValue, IsMailbox, AreDivided, IsOneMailbox, AreMembers, ElementValue, One, Group, IsElement, SaysPlace, comment_tokens, HaveTrees, HasAddresses}
use Rattle.address_grammar.specs.private.ListSteps.{SplitsName, SaysGroup, SaysSingle, IsListOf}
use Rattle.address_grammar.specs.private.ListViews.{element_values, trees_of}
use Rattle.address_grammar.proofs.LexemeLemmas.{not_lacking}
use Rattle.address_grammar.proofs.PathLemmas.{HasTokenValues-once}
use Rattle.address_grammar.proofs.DividedLemmas.{divided_once}
use Rattle.address_grammar.proofs.ListLemmas.{place_walked, place_once, group_inner, element_single}
use Rattle.address_grammar.proofs.ListSaying.{trees_once}

pub members_malformed : (ts : List TokenValue) → are_blank ts ≡ false → ((ms : List MailboxValue) → AreDivided IsOneMailbox ts ms → ⊥) → (ms : List MailboxValue) → AreMembers ts ms → ⊥
members_malformed ts not_blank none ms (inl is) = both_ways (are_blank ts) not_blank is.0
members_malformed ts not_blank none ms (inr is) = none ms is

pub group_unclosed : (before following : List TokenValue) → lacks_special 59 following ≡ true → (e : ElementValue) → SaysGroup before following e → ⊥
group_unclosed before following l (One m) is = is
group_unclosed before following l (Group name ms) is = not_lacking 59 is.inner is.after is.semicolon is.is_semicolon (rw (is.whole) at l)

pub group_followed : (before following inner after : List TokenValue) → SplitsAt 59 following inner after → are_blank after ≡ false → (e : ElementValue) → SaysGroup before following e → ⊥
group_followed before following inner after s not_blank (One m) is = is
group_followed before following inner after s not_blank (Group name ms) is = both_ways (are_blank after) not_blank (group_inner before following inner after name ms s is).0

pub group_members : (before following inner after : List TokenValue) → SplitsAt 59 following inner after → ((ms : List MailboxValue) → AreMembers inner ms → ⊥) → (e : ElementValue) → SaysGroup before following e → ⊥
group_members before following inner after s none (One m) is = is
group_members before following inner after s none (Group name ms) is = none ms (group_inner before following inner after name ms s is).1

single_mailbox : (ts : List TokenValue) → ((m : MailboxValue) → IsMailbox ts m → ⊥) → (e : ElementValue) → SaysSingle ts e → ⊥
single_mailbox ts none (One m) is = none m is
single_mailbox ts none (Group name ms) is = is

pub single_malformed : (ts : List TokenValue) → ((before following : List TokenValue) → SplitsName ts before following → ⊥) → ((m : MailboxValue) → IsMailbox ts m → ⊥) → (e : ElementValue) → IsElement ts e → ⊥
single_malformed ts unnamed none e is = single_mailbox ts none e (element_single ts e unnamed is)

-- ---- whole texts

pub tokens_placed : (text : List ℕ) (tokens : List Token) (values : List TokenValue) → HasTokens Mail text tokens → HasMailTokens text values → tokens ≡ tokens_from 0 values
tokens_placed text tokens values has vs = has.placed ∙ ap (tokens_from 0) (AreTokens-once Mail text has.values values has.are_tokens vs.are_tokens)

pub elements_of : (text : List ℕ) (ts : List TokenValue) (es : List ElementValue) (cs : List Tree) → HasMailTokens text ts → HasAddresses text es cs → AreDivided SaysPlace ts es
elements_of text ts es cs has list = rw (HasTokenValues-once text ts list.tokens has list.has_tokens) list.are_elements

pub list_made : (text : List ℕ) (tokens : List Token) (ts : List TokenValue) (es : List ElementValue) (cs : List Tree) → HasTokens Mail text tokens → HasMailTokens text ts → AreDivided SaysPlace ts es
    → HaveTrees text (comment_tokens tokens) cs → HasAddresses text es cs
list_made text tokens ts es cs has values are trees = record {
  tokens = ts;
  has_tokens = values;
  are_elements = are;
  have_trees = rw (tokens_placed text tokens ts has values) at trees;
}

pub elements_once : (text : List ℕ) (es fs : List ElementValue) (cs ds : List Tree) → HasAddresses text es cs → HasAddresses text fs ds → es ≡ fs
elements_once text es fs cs ds p q = divided_once SaysPlace place_walked place_once p.tokens es fs p.are_elements (elements_of text p.tokens fs ds p.has_tokens q)

pub comments_once : (text : List ℕ) (es fs : List ElementValue) (cs ds : List Tree) → HasAddresses text es cs → HasAddresses text fs ds → cs ≡ ds
comments_once text es fs cs ds p q =
    trees_once text (comment_tokens (tokens_from 0 p.tokens)) cs ds p.have_trees (rw (← HasTokenValues-once text p.tokens q.tokens p.has_tokens q.has_tokens) at q.have_trees)

pub list_is : (text : List ℕ) (es : List ElementValue) (cs : List Tree) (list : AddressList) → HasAddresses text (element_values list.elements) (trees_of list.comments.items) → HasAddresses text es cs → IsListOf es cs list
list_is text es cs list p q = record {
  elements_are = elements_once text (element_values list.elements) es (trees_of list.comments.items) cs p q;
  comments_are = comments_once text (element_values list.elements) es (trees_of list.comments.items) cs p q;
}
