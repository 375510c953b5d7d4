-- The paths of MAIL and RCPT, by their grammar (RFC 5321, 4.1.2).
use Rattle.std.specs.Prelude.{◌≡◌, ℕ, List, [], true, not, Option}
use Rattle.std.specs.List.{list_all}
use Rattle.field_tokens.specs.Squeezed.{is_comment}
use Rattle.address_grammar.specs.declared.Address.{Address}
use Rattle.address_grammar.specs.Paths.{HasPath}

-- The text is a path, or the null path, from its `<` to its `>`, and has no comments.
pub record IsPathText (text : List ℕ) (answer : Option Address) : Type 0 where
  pub path : HasPath text answer
  pub before : path.is_path.before ≡ []
  pub following : path.is_path.angled.after ≡ []
  pub plain : list_all (λ t. not (is_comment t.kind)) path.tokens ≡ true
