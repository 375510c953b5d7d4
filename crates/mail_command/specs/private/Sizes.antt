-- The sizes of one message.
use Rattle.std.specs.Prelude.{◌≡◌, ℕ, List, length}
use Rattle.surrogate_rope.specs.Layout.{HasSurrogate}
use Rattle.mail_command.specs.declared.generating.Sizes.{Sizes}

-- these are the sizes of a message and of its surrogate
pub record AreSizes (msg : List ℕ) (sizes : Sizes) : Type 0 where
  pub surrogate : List ℕ
  pub is : HasSurrogate msg surrogate
  pub stored : sizes.stored ≡ length msg
  pub served : sizes.served ≡ length surrogate
