-- Forms of groups, by what their marks divide.
use Rattle.std.proofs.Common.{◌≡◌, ℕ, true, false, List}
use Rattle.std.proofs.lemmas.Bool.{both_ways}
use Rattle.field_tokens.specs.Tokens.{TokenValue}
use Rattle.address_grammar.specs.private.Lexemes.{are_blank, lacks_special, SplitsAt}
use Rattle.address_grammar.specs.Phrases.{IsPhrase}
use Rattle.imap_views.specs.Addresses.{AreMemberForms, IsGroupForm}
use Rattle.imap_views.proofs.AddressForms.{splits_once, split_lacks}

pub group_unclosed : (ts before following : List TokenValue) (text : List ℕ) → SplitsAt 58 ts before following → lacks_special 59 following ≡ true → IsGroupForm ts text → ⊥
group_unclosed ts before following text s l is =
    let cut = splits_once 58 ts before following is.before is.following s is.named in
    split_lacks 59 is.following is.inner is.after is.ended (rw (cut.rest) at l)

pub group_unnamed : (ts before following : List TokenValue) (text : List ℕ) → SplitsAt 58 ts before following → (IsPhrase before → ⊥) → IsGroupForm ts text → ⊥
group_unnamed ts before following text s none is =
    let cut = splits_once 58 ts before following is.before is.following s is.named in
    none (rw (cut.front) is.is_phrase)

-- the parts of a group after its name
record GroupEnd (inner after : List TokenValue) : Type 0 where
  nothing_after : are_blank after ≡ true
  members : List ℕ
  are_members : AreMemberForms inner members

group_ended : (ts before following inner after : List TokenValue) (text : List ℕ) → SplitsAt 58 ts before following → SplitsAt 59 following inner after → IsGroupForm ts text → GroupEnd inner after
group_ended ts before following inner after text s e is =
    let cut = splits_once 58 ts before following is.before is.following s is.named in
    let end = splits_once 59 is.following inner after is.inner is.after (rw (cut.rest) at e) is.ended in
    record { nothing_after = rw (end.rest) is.nothing_after; members = is.members; are_members = rw (end.front) is.are_members }

pub group_followed : (ts before following inner after : List TokenValue) (text : List ℕ) → SplitsAt 58 ts before following → SplitsAt 59 following inner after → are_blank after ≡ false → IsGroupForm ts text → ⊥
group_followed ts before following inner after text s e not_blank is = both_ways (are_blank after) not_blank (group_ended ts before following inner after text s e is).nothing_after

pub group_of_others : (ts before following inner after : List TokenValue) (text : List ℕ) → SplitsAt 58 ts before following → SplitsAt 59 following inner after → ((members : List ℕ) → AreMemberForms inner members → ⊥) → IsGroupForm ts text → ⊥
group_of_others ts before following inner after text s e none is = let end = group_ended ts before following inner after text s e is in none end.members end.are_members
