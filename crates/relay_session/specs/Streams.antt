-- What a next server sends, as replies (RFC 5321, 4.2).
use Rattle.std.specs.Prelude.{◌≡◌, ◌⊎◌, ℕ, List, [], ◌++◌}
use Rattle.std.specs.List.{AllZip, concat}
use Rattle.relay_choice.specs.Replies.{IsBegun, IsReply}
use Rattle.relay_choice.specs.declared.replies.Reply.{Reply}

-- The octets are these replies, and what stands after them.
pub record AreReplies (octets : List ℕ) (replies : List Reply) (following : List ℕ) : Type 0 where
  pub texts : List (List ℕ)
  pub are : AllZip IsReply texts replies
  pub whole : octets ≡ concat texts ++ following

-- nothing of a reply, or the front of one
abbrev pub IsUndecided : List ℕ → Type 0
IsUndecided octets = (octets ≡ []) ⊎ IsBegun octets

-- They are these replies, and what stands after them begins with none.
pub record AreAllReplies (octets : List ℕ) (replies : List Reply) : Type 0 where
  pub following : List ℕ
  pub are : AreReplies octets replies following
  pub none : (text more : List ℕ) (reply : Reply) → following ≡ text ++ more → IsReply text reply → ⊥
