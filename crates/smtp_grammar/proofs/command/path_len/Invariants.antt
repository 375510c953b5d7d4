use Rattle.std.proofs.Common.{◌≡◌, ◌+◌, drop}
use Rattle.std.specs.Option.{option_map}
use Rattle.smtp_grammar.specs.declared.command.Place.TheVariants.{Plain}
use Rattle.smtp_grammar.specs.Commands.{path_len}
use Rattle.smtp_grammar.proofs.command.path_len.Given as goal

abbrev pub invariant-loop-octet : goal.invariant-loop-octet
invariant-loop-octet l = record {
  counts : l.len ≡ l.octet-index;
  goes : path_len Plain l.text ≡ option_map (λ n. n + l.len) (path_len l.place (drop l.octet-index l.text));
}
