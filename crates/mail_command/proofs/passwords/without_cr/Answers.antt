use Rattle.std.proofs.Common.{[], ◌∷◌}
use Rattle.std.proofs.lemmas.Bool.Decides.{Decides-eqb}
use Rattle.std.proofs.lemmas.Slice.Eq.{strip_suffix_is}
use Rattle.mail_command.proofs.PasswordLemmas.{cr_taken}
use Rattle.mail_command.proofs.passwords.without_cr.Goals as goal

pub returns : goal.returns
returns c =
    cr_taken c.args.text c.unwrap_or.result c.strip_suffix.result
    (strip_suffix_is Decides-eqb c.args.text.now (13 ∷ []) c.strip_suffix.result c.strip_suffix.ensures.cases) c.unwrap_or.ensures
