use Rattle.std.proofs.Common.{◌<◌, arith}
use Rattle.std.proofs.lemmas.List.Elements.{All-from_get_or}
use Rattle.param_grammar.proofs.EscapeLemmas.{IsEscaped-escaped}
use Rattle.param_grammar.proofs.escapes.push_escaped.Goals as goal

pub returns-clause-read_back : goal.returns-clause-read_back
returns-clause-read_back c =
    IsEscaped-escaped c.args.octets.now (All-from_get_or (λ x. x < 256) c.args.octets.now 0 (λ i within. omega (arith, c.type_inv.octets i)))
