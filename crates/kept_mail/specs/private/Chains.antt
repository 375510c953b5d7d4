-- The messages of each folder as a chain from the last one back.
use Rattle.std.specs.Prelude.{◌≡◌, ℕ, zero, suc, List, [], ◌∷◌, length, reverse, Option, Some, None, slice_index_or}
use Rattle.kept_mail.specs.declared.contents.Content.{Content}
use Rattle.kept_mail.specs.declared.kept.Message.{Message}
use Rattle.kept_mail.specs.Kept.{numbers_in}

-- the numbers from a last one back, at most n of them, where the list names the one before each
abbrev pub chain : ℕ → List (Option ℕ) → Option ℕ → List ℕ
chain zero previous last = []
chain (suc n) previous None = []
chain (suc n) previous (Some at) = at ∷ chain n previous (slice_index_or previous at None)

-- a folder that has no messages
abbrev pub empty_content : Content
empty_content = record { count = 0; last = None }

abbrev pub content_at : List Content → ℕ → Content
content_at contents folder = slice_index_or contents folder empty_content

-- each folder's chain has the numbers of the messages that it ever had
pub record AreChained (messages : List Message) (contents : List Content) (previous : List (Option ℕ)) : Type 0 where
  pub len : length previous ≡ length messages
  pub count_is : (folder : ℕ) → (content_at contents folder).count ≡ length (numbers_in folder 0 messages)
  pub chain_is : (folder : ℕ) → chain (content_at contents folder).count previous (content_at contents folder).last
      ≡ reverse (numbers_in folder 0 messages)
