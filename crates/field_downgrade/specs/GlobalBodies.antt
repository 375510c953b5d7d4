-- A field's body whose value is message/global, with message/rfc822 in its place (RFC 6532, 3.7).
use Rattle.std.specs.Prelude.{◌≡◌, ℕ, List, ◌++◌, take, drop, codes}
use Rattle.mail_wire.specs.Folds.{unfolded}
use Rattle.utf8_fields.specs.Parts.{HasValue}
use Rattle.param_2231.specs.GlobalTypes.{NamesGlobal}

-- The body has `rfc822` in place of `global`, and is the same else, octet for octet.
pub record ChangesGlobal (body changed : List ℕ) : Type 0 where
  pub value : List ℕ
  pub at : ℕ
  pub has : HasValue body value
  pub names : NamesGlobal value at
  pub before : List ℕ
  pub word : List ℕ
  pub after : List ℕ
  pub whole : body ≡ before ++ (word ++ after)
  pub place : unfolded before ≡ has.lead ++ take at value
  pub word_is : word ≡ take 6 (drop at value)
  pub changed_is : changed ≡ before ++ (codes "rfc822" ++ after)
